-- Each value that is read stands before those that are left, and behind those that were read.
use Rattle.std.proofs.Common.{◌≡◌, true, List, sym, subst, ◌∙◌}
use Rattle.std.specs.List.{list_all}
use Rattle.x5_model.specs.Attributes.{value_below}
use Rattle.x5_model.specs.Normal.{is_of_kind}
use Rattle.x5_model.specs.Types.{kind_of}
use Rattle.x5_model.specs.Values.{StoredValue}
use Rattle.x5_model.specs.Words.{ascending, in_option, last_of}
use Rattle.x5_model_typed.specs.Named as named
use Rattle.x5_direct.specs.Kept.{stored_as}
use Rattle.x5_direct.proofs.KeptValues.{all_more, ascending_more}
use Rattle.x5_direct.proofs.Heads.{nothing}
use Rattle.x5_direct.proofs.Spelling.{all_done, one_more}
use Rattle.x5_direct.proofs.entries.stored_values_in.Goals as goal

pub loop-rest-preserved : goal.loop-rest-preserved
loop-rest-preserved c =
    let before = c.loop-rest.values.items in
    let value = c.in_ok-value.value in
    let items = c.in_ok-push.ensures.items in
    let follows : in_option true (λ last. value_below last value) (last_of before) ≡ true =
    subst (λ (l : List StoredValue). in_option true (λ last. value_below last value) (last_of l) ≡ true)
    c.as_slice.ensures.value (sym c.follows_values.ensures ∙ c.if-not-follows_values.false) in (
      one_more 3 named.Value (stored_as c.args.kind) c.args.octets.now c.loop-rest.rest.now before value c.in_ok-value.taken
          c.push.new.self.items items c.loop-rest.invariant.0 c.in_ok-value.ensures.reads,
      subst (λ (l : List StoredValue). list_all (λ v. is_of_kind (kind_of c.args.kind) v.value) l ≡ true) (sym items)
          (all_more (λ v. is_of_kind (kind_of c.args.kind) v.value) before value c.loop-rest.invariant.1
          c.in_ok-value.ensures.fits),
      subst (λ (l : List StoredValue). ascending value_below l ≡ true) (sym items)
          (ascending_more value_below before value c.loop-rest.invariant.2 follows),
    )

pub returns-clause-are : goal.returns-clause-are
returns-clause-are c =
    all_done 3 named.Value (stored_as c.args.kind) c.args.octets.now c.loop-rest.rest.now c.loop-rest.values.items
    c.loop-rest.invariant.0 (nothing c.loop-rest.rest.now (sym c.is_empty.ensures ∙ c.loop-rest-test.false))
