-- Agents go by their names in messages of shadowing (X.525), and by their places among the world's elsewhere.
use Rattle.std.specs.Prelude.{◌≡◌, ℕ, ◌<◌, true, List, [], length, slice_get}
use Rattle.std.specs.List.{list_all}
use Rattle.x5_model.specs.Members.{In}
use Rattle.x5_model.specs.Values.{Text}
use Rattle.x5_model.specs.Words.{distinct, in_option, same_octets}
use Rattle.x5_model_typed.specs.Layouts.{Surroundings}
use Rattle.x5_model_typed.specs.Leaves.{is_agent_name}
use Rattle.x5_model_shadowed.specs.Within.{AgentWithin}

-- the name of an agent by its place; none where there is no such agent
abbrev pub name_at : List Text → ℕ → Text
name_at names a = in_option [] (λ n. n) (slice_get names a)

-- These are the world's agents: names that agents may have, each once.
pub record AreAgents (w : Surroundings) (names : List Text) : Type 0 where
  pub named : list_all is_agent_name names ≡ true
  pub of_world : (t : Text) → In t names → w.is_agent t ≡ true
  pub once : distinct same_octets names ≡ true

-- Then each of them is within the limits by its name,
abbrev pub AgentIsWithin : Type 0
AgentIsWithin =
    (w : Surroundings) (names : List Text) (a : ℕ)
    → AreAgents w names → a < length names → AgentWithin w (name_at names a)

-- and whoever has its name stands at its place.
abbrev pub AgentIsItself : Type 0
AgentIsItself =
    (w : Surroundings) (names : List Text) (a b : ℕ) → AreAgents w names → a < length names
    → name_at names b ≡ name_at names a → b ≡ a
