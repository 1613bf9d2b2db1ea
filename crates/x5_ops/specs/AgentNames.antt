-- Where an agent's name stands among all.
use Rattle.std.specs.Prelude.{ℕ, List}
use Rattle.std.specs.List.{position_or_len}
use Rattle.x5_model.specs.Words.{same_octets}

-- the agent that a name stands for: its place among the names of all agents, and behind them all where nobody has it
abbrev pub agent_of : List (List ℕ) → List ℕ → ℕ
agent_of names name = position_or_len (λ n. same_octets n name) names
