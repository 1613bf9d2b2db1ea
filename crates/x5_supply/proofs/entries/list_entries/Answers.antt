-- What is listed is the entries of what stands at the place.
use Rattle.std.proofs.Common.{◌≡◌, List, Option, IfSome, get_or, subst, ap, ◌∙◌}
use Rattle.x5_model.specs.Entries.{Named}
use Rattle.x5_dse.specs.Linked.{entries_of}
use Rattle.x5_holdings.specs.State.{Kept}
use Rattle.x5_holdings.proofs.Holding.{within}
use Rattle.x5_supply.proofs.Placed.{one_there}
use Rattle.x5_supply.proofs.entries.list_entries.Goals as goal

pub list_own-requires : goal.list_own-requires
list_own-requires c =
    let held : Kept = c.index-own-place.result in
    record {
      there = within c.args.state.now.own c.in-Some.place c.in-Some.ensures.1;
      listed = λ k e. subst (λ (o : Option (List Named)). IfSome o (λ (l : List Named). l ≡ entries_of held.nodes.nodes))
          c.in-Some-2.is c.in_ok-entries.ensures
          ∙ ap (λ (h : Kept). entries_of h.nodes.nodes)
          (one_there c.args.state.now.own c.in-Some.place held k
          (within c.args.state.now.own c.in-Some.place c.in-Some.ensures.1)
          (c.index-own-place.is ∙ ap (λ (l : List Kept). get_or l c.in-Some.place held) c.own.ensures.own) e);
    }
