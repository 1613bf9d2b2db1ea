-- What a supplier sends by what it holds is what a run's refresh looks at, where it holds what the run says.
use Rattle.std.specs.Prelude.{◌≡◌, ℕ, Bool, ◌==◌, ◌||◌, true, ⊤}
use Rattle.std.specs.declared.option.Option.{Option}
use Rattle.std.specs.declared.option.Option.TheVariants.{None, Some}
use Rattle.std.specs.declared.result.Result.{Result}
use Rattle.std.specs.declared.result.Result.TheVariants.{Ok, Err}
use Rattle.x5_model.specs.Words.{in_option}
use Rattle.x5_model.specs.Values.{key_of}
use Rattle.x5_model_tree.specs.World.{Agreement}
use Rattle.x5_model_tree.specs.Tree.{part}
use Rattle.x5_model_run.specs.History.{Point, tree_of_moment}
use Rattle.x5_model_run.specs.Refresh as refresh
use Rattle.x5_model_run.specs.Refresh.{changes_at, peer_moment, inactive_agreement, full_update_required}
use Rattle.x5_dse.specs.Linked.{entries_of}
use Rattle.x5_holdings.specs.State.{Kept, State}
use Rattle.x5_supply.specs.Supplied.{supplied, stamp_of}
use Rattle.x5_supply.specs.Copying.{IsLogOf}
use Rattle.x5_supply.specs.declared.fault.SupplyFault.{SupplyFault}
use Rattle.x5_supply.specs.declared.fault.SupplyFault.TheVariants.{Shadow, NoMemory}
use Rattle.x5_refresh.specs.declared.brought.Brought.{Brought}
use Rattle.x5_refresh.specs.Course.{Facts, problem_of, facts_at}
use Rattle.x5_refresh.specs.Sent.{count_in, supply_of}

-- the problems that a supplier tells
abbrev pub is_of_supplier : Option ℕ → Bool
is_of_supplier problem = in_option true (λ n. (n == inactive_agreement) || (n == full_update_required)) problem

abbrev pub IsTold : {A : Type 0} → Result A SupplyFault → Type 0
IsTold (Ok sent) = ⊤
IsTold (Err (Shadow problem)) = is_of_supplier (Some problem) ≡ true
IsTold (Err NoMemory) = ⊤

-- The supplier of an agreement has the context as of the moment that the run says, with the entries that it had then,
-- and its log has the changes that the run counts.
pub record IsSupplier (p : Point) (g : Agreement) (s : State) : Type 0 where
  pub stamp : stamp_of s (key_of g.context) ≡ refresh.supplied p g
  pub entries : (c : Kept) (m : ℕ) → supplied s (key_of g.context) ≡ Some c → refresh.supplied p g ≡ Some m
      → entries_of c.nodes.nodes ≡ part (tree_of_moment p m) (key_of g.context)
  pub log : (c : Kept) → supplied s (key_of g.context) ≡ Some c
      → IsLogOf c.log (changes_at p g.supplier (key_of g.context))

-- what is sent, or its problem, as the facts have it
abbrev pub IsByFacts : Bool → Facts → Result (ℕ × Brought) ℕ → Type 0
IsByFacts total f (Ok sent) = (problem_of total f ≡ None) × (f.supplied ≡ Some sent.0) × (count_in sent.1 ≡ f.count)
IsByFacts total f (Err problem) = problem_of total f ≡ Some problem

-- Then the supplier sends, from the moment that it goes on from, what the facts have, or tells their problem.
abbrev pub SuppliesAreFacts : Type 0
SuppliesAreFacts =
    (p : Point) (push total : Bool) (g : Agreement) (s : State) → IsSupplier p g s
    → IsByFacts total (facts_at p push total g) (supply_of s (key_of g.context) total (peer_moment p push g))
