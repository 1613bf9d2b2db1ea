-- What is sent, in the words of runs over consistent knowledge (X.525, section 7: shadowed information; section 9).
use Rattle.std.specs.Prelude.{◌≡◌, ℕ, Bool, true, false, ◌&&◌, nat_le, nat_lt}
use Rattle.std.specs.Prelude.{List, [], ◌∷◌, length, map, reverse, take}
use Rattle.std.specs.declared.option.Option.TheVariants.{Some}
use Rattle.std.specs.declared.result.Result.TheVariants.{Ok, Err}
use Rattle.x5_model.specs.Values.{Name}
use Rattle.x5_model_tree.specs.World.{Agent, World}
use Rattle.x5_model_tree.specs.Masters.{Mastered, agent_at}
use Rattle.x5_model_run.specs.Holdings as model
use Rattle.x5_model_run.specs.History.{references_below, sent_references}
use Rattle.x5_model_run.specs.Refresh.{Changes, base_of, full_update_required, later_than}
use Rattle.x5_ops.specs.declared.knowledge.Content.{Content}
use Rattle.x5_ops.specs.KnowledgeViews.{specific_view, nssr_view}
use Rattle.x5_dse.specs.Linked.{entries_of}
use Rattle.x5_holdings.specs.Logs.{Log}
use Rattle.x5_holdings.specs.State.{Kept, CopyKept, State, shadow_view}
use Rattle.x5_supply.specs.Supplied.{content_of_copy, of_master, steps_after, steps_later}

-- a content as the definitions see a copy that has it, with the prefix as the agreement spells it
abbrev pub content_view : Name → Content → model.Held
content_view prefix c = record {
  prefix = prefix;
  entries = c.entries;
  subordinate = map specific_view c.specific;
  nssrs = map nssr_view c.nssr;
}

-- The agent is the master of the context in the world, and holds its contexts in the order of the file, as the
-- definitions have it where no prefix is mastered twice.
pub record IsMaster (w : World) (d : Mastered) (a : Agent) (s : State) : Type 0 where
  pub me : d.master ≡ s.me
  pub agent : agent_at w d.master ≡ Some a
  pub contexts : map (λ c. c.prefix) s.own ≡ map (λ c. c.prefix) a.contexts

-- 1. Then what it sends along with the entries of a context are the references that the definitions send, in their
-- order, where it has those below these entries.
abbrev pub MasterSends : Type 0
MasterSends =
    (w : World) (d : Mastered) (a : Agent) (s : State) (c : Kept) → IsMaster w d a s
    → map specific_view c.subordinate ≡ references_below (entries_of c.nodes.nodes) a.subordinate
    → map specific_view (of_master s c) ≡ sent_references w d (entries_of c.nodes.nodes)

-- 2. What a consumer sends is its copy.
abbrev pub CopySends : Type 0
CopySends =
    (prefix : Name) (d : CopyKept) (c : Kept) (m : ℕ) → d.refreshed ≡ Some (c, m)
    → content_view prefix (content_of_copy c) ≡ record (shadow_view d) { prefix = prefix }

-- none is later than the one before
abbrev pub falls : List ℕ → Bool
falls [] = true
falls (x ∷ []) = true
falls (x ∷ y ∷ ys) = nat_le y x && falls (y ∷ ys)

-- A log has of the changes since an origin, which the definitions count by their moments from the newest on, the last
-- 256.
pub record IsLogOf (l : Log) (c : Changes) : Type 0 where
  pub falling : falls c.moments ≡ true
  pub base : l.base ≡ base_of c
  pub kept : reverse (map (λ x. x.moment) l.changes) ≡ take 256 c.moments

-- 3. Then a moment before the base needs a total refresh, and after any other the steps are as many as the later
-- changes.
abbrev pub StepsAreChanges : Type 0
StepsAreChanges =
    (l : Log) (c : Changes) (m : ℕ) → IsLogOf l c
    → (nat_lt m (base_of c) ≡ true → steps_after l (Some m) ≡ Err full_update_required)
    × (nat_lt m (base_of c) ≡ false → (steps_after l (Some m) ≡ Ok (steps_later l m))
    × (length (steps_later l m) ≡ later_than m c))
