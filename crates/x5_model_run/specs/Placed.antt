-- A message from agent to agent that knowledge may have brought there (X.518, sections 17 to 19).
use Rattle.std.specs.Prelude.{ℕ, ◌-◌, Bool, true, false, not, ◌&&◌, ◌||◌, ◌==◌, nat_le, IsTrue, [], ◌∷◌, length}
use Rattle.std.specs.Prelude.{take}
use Rattle.std.specs.List.{list_any, list_all}
use Rattle.x5_model.specs.Words.{has}
use Rattle.x5_model.specs.Keys.{Key, same_key}
use Rattle.x5_model.specs.Values.{key_of}
use Rattle.x5_model.specs.Requests.{Body, ListBelow, Search}
use Rattle.x5_model.specs.References.{Progress, Start, Next, Done, Reference, Chained}
use Rattle.x5_model_tree.specs.World.{World}
use Rattle.x5_model_tree.specs.Tree.{is_there}
use Rattle.x5_model_tree.specs.Masters.{holds, mastered}
use Rattle.x5_model_run.specs.Journal.{same_name, is_done, is_wide, item_of}
use Rattle.x5_model_run.specs.Needs.{target_of}
use Rattle.x5_model_run.specs.History.{Point, knowledge_at, tree_at}
use Rattle.x5_model_run.specs.Blocked.{Asked}
use Rattle.x5_model_run.specs.Stage.{stage_of, is_lower}

-- The message fits: its target is what its request asks for, and only a list or search has a completed name.
abbrev pub is_query_below : Body → Bool
is_query_below (ListBelow name) = true
is_query_below (Search base subset f selection) = true
is_query_below other = false

abbrev pub fits : Chained → Bool
fits m = same_name (target_of m.request.body) m.target && (not (is_done m.progress) || is_query_below m.request.body)

-- the agent stands in the NSSR at this entry
abbrev pub stands_at : World → Key → ℕ → Bool
stands_at w at a =
    list_any (λ m. list_any (λ n. same_key (key_of n.at) at && has ◌==◌ n.agents a) m.context.nssrs) (mastered w)

-- its progress is one that a reference to this agent has
abbrev pub is_brought : Point → Chained → ℕ → Bool
is_brought p m to = by m.progress (is_wide m.kind)
  where
    by : Progress → Bool → Bool
    by Start wide = true
    by (Next k) false = nat_le k (length m.target) && holds (knowledge_at p) to (take k (key_of m.target))
    by (Next k) true = is_there (tree_at p).entries (take (k - 1) (key_of m.target))
    by Done false = holds (knowledge_at p) to (key_of m.target)
    by Done true = stands_at (knowledge_at p) (key_of m.target) to

-- and it came nearer at every agent of its trace
pub record Placed (p : Point) (m : Chained) (to : ℕ) : Type 0 where
  pub fit : IsTrue (fits m)
  pub lower : IsTrue (list_all (λ i. is_lower (stage_of (knowledge_at p) i)
      (stage_of (knowledge_at p) (item_of to m))) m.trace)
  pub brought : IsTrue (is_brought p m to)

-- the reference by which the receiver was asked
abbrev pub asked_by : Asked → Reference
asked_by q = record {
  target = q.message.target;
  progress = q.message.progress;
  kind = q.message.kind;
  agents = q.to ∷ [];
  exclusions = q.message.exclusions;
  tried = false;
}
