-- Each element that is read is one more value before the place, and at the end all octets are values; where reading
-- fails, they aren't, and its fault is their first.
use Rattle.std.proofs.Common.{◌≡◌, ℕ, ◌+◌, length, subst, sym}
use Rattle.x5_ber.specs.Views.{fault_view}
use Rattle.x5_model_octets.specs.Elements.{Nil, More}
use Rattle.x5_ber.specs.Found.{IsElementAt}
use Rattle.x5_show.specs.Show.{here}
use Rattle.x5_show.proofs.Values.{ValuesFrom, first_value, found_bounds, value_before, fault_before, no_more}
use Rattle.x5_show.proofs.check.first_fault.Goals as goal

pub loop-at-preserved : goal.loop-at-preserved
loop-at-preserved c =
    let found : IsElementAt c.args.bytes.now c.loop-at.at c.in-Ok.field-0-0 c.in-Ok.next = c.in-Ok.ensures.found in
    record {
      there = (found_bounds _ _ _ _ found).1;
      values = λ es all. c.loop-at.invariant.values (More found.element es) (value_before c.args.bytes.now c.loop-at.at c.in-Ok.field-0-0 c.in-Ok.next found es all);
      rest = λ all.
          let first = first_value c.args.bytes.now c.loop-at.at c.loop-at-test.true (c.loop-at.invariant.rest all) in
          let place : c.in-Ok.next ≡ c.loop-at.at + length first.spelling = c.in-Ok.ensures.only first.value first.spelling first.spells first.stands in
          subst (λ (n : ℕ). ValuesFrom c.args.bytes.now n) (sym place) first.behind;
      faults = λ f faulty. c.loop-at.invariant.faults f (fault_before c.args.bytes.now c.loop-at.at c.in-Ok.field-0-0 c.in-Ok.next f found faulty);
    }

pub returns-in-Err : goal.returns-in-Err
returns-in-Err c = (
  λ all.
      let first = first_value c.args.bytes.now c.loop-at.at c.loop-at-test.true (c.loop-at.invariant.rest all) in
      c.in-Err.ensures.only first.value first.spelling first.spells first.stands,
  c.loop-at.invariant.faults (fault_view c.in-Err.fault) (here c.loop-at-test.true c.in-Err.ensures.fault),
)

pub returns : goal.returns
returns c = c.loop-at.invariant.values Nil (no_more c.args.bytes.now c.loop-at.at c.loop-at-test.false)
