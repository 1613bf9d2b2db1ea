-- One entry more is taken each time, until none is left.
use Rattle.std.proofs.Common.{◌≡◌, ◌∷◌, [], List, sym, subst, arith}
use Rattle.std.proofs.lemmas.List.{nil_from_length}
use Rattle.std.specs.Vec.Iter.{into_iter_items}
use Rattle.x5_model.specs.Entries.{Named}
use Rattle.x5_consume.proofs.Extending.{SoFar, all_taken, begun, finished, next_add, next_order, one_taken}
use Rattle.x5_consume.proofs.building.with_entries.Goals as goal

pub loop-named-init : goal.loop-named-init
loop-named-init c =
    subst (λ (left : List Named). SoFar c.args.held c.args.entries.items c.in_ok-roomy.roomy left)
    (sym c.into_iter-named-iterator.ensures.into_iter_gives.0)
    (begun c.args.held c.args.entries.items c.in_ok-roomy.roomy c.in_ok-roomy.ensures.nodes c.in_ok-roomy.ensures.others)

pub with_entry-requires : goal.with_entry-requires
with_entry-requires c =
    let steps : into_iter_items c.loop-named.named-iterator ≡ c.in-Some.named ∷ into_iter_items c.next.new.self =
    c.in-Some.ensures.steps.0 in
    let s : SoFar c.args.held c.args.entries.items c.loop-named.filling (c.in-Some.named ∷ into_iter_items c.next.new.self) =
    subst (λ (left : List Named). SoFar c.args.held c.args.entries.items c.loop-named.filling left) steps c.loop-named.invariant in
    record {
      order = next_order c.requires.0 c.args.held c.args.entries.items c.requires.1 c.requires.2 c.loop-named.filling
          c.in-Some.named (into_iter_items c.next.new.self) s;
      can = next_add c.requires.0 c.args.held c.args.entries.items c.requires.1 c.requires.2 c.loop-named.filling
          c.in-Some.named (into_iter_items c.next.new.self) s;
    }

pub loop-named-preserved : goal.loop-named-preserved
loop-named-preserved c =
    let steps : into_iter_items c.loop-named.named-iterator ≡ c.in-Some.named ∷ into_iter_items c.next.new.self =
    c.in-Some.ensures.steps.0 in
    one_taken c.requires.0 c.args.held c.args.entries.items c.loop-named.filling c.in-Some.named
    (into_iter_items c.next.new.self) c.in_ok-filling.filling c.requires.2
    (subst (λ (left : List Named). SoFar c.args.held c.args.entries.items c.loop-named.filling left) steps c.loop-named.invariant)
    c.in_ok-filling.ensures

pub returns : goal.returns
returns c =
    let none : into_iter_items c.loop-named.named-iterator ≡ [] =
    nil_from_length _ (omega (arith, c.in-None.ensures.steps.0, c.loop-named.named-iterator.rest.ok.0)) in
    finished c.args.held c.args.entries.items c.loop-named.filling c.finish.result c.finish.ensures.nodes c.finish.ensures.others
    (all_taken c.args.held c.args.entries.items c.loop-named.filling
    (subst (λ (left : List Named). SoFar c.args.held c.args.entries.items c.loop-named.filling left) none c.loop-named.invariant))
