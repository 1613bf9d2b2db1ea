-- Where the name itself is held it's far enough, and else what is held on the way is on the way to the name above.
use Rattle.std.proofs.Common.{◌-◌, length, refl, sym, ap, ◌∙◌, arith}
use Rattle.std.proofs.lemmas.List.{length-map}
use Rattle.x5_model.specs.Keys.{Key}
use Rattle.x5_model.specs.Values.{key_of, key_of_rdn}
use Rattle.x5_model.proofs.Decide.{nat_same_decides}
use Rattle.x5_model_run.specs.Holdings.{held_at, copy_at, holds_within}
use Rattle.x5_holdings.specs.State.{held_view, copy_view, holdings_view}
use Rattle.x5_holdings.proofs.Knowing.{too_short, own_within, copy_within, within_root, within_above, upper_key}
use Rattle.x5_holdings.proofs.Knowing.{found_some, nothing_found}
use Rattle.x5_holdings.proofs.holdings.Holdings.+holds_within.Goals.{then-is_some-via-then-is_some}
use Rattle.x5_holdings.proofs.holdings.Holdings.+holds_within.Goals.{then-is_some-via-else-is_some+then-is_some-2}
use Rattle.x5_holdings.proofs.holdings.Holdings.+holds_within.Goals as goal

pub returns-then-name-least : goal.returns-then-name-least
returns-then-name-least t c = too_short (holdings_view c.args.self.now) (key_of c.args.name.now) c.args.least
    (omega (arith, length-map c.args.name.now key_of_rdn, c.if-name-least.true))

pub returns-then-is_some : goal.returns-then-is_some
returns-then-is_some t c =
    elim c.then-is_some.branch [
      | then-is_some-via-then-is_some w ↦ own_within (holdings_view c.args.self.now) (key_of c.args.name.now)
          c.args.least
          (found_some held_view c.args.self.now.own
          (held_at (holdings_view c.args.self.now).own (key_of c.args.name.now)) c.own_at.result c.own_at.ensures
          ∙ (sym c.is_some.ensures ∙ w.if-is_some.true))
          (omega (arith, length-map c.args.name.now key_of_rdn, c.if-name-least.false))
      | then-is_some-via-else-is_some+then-is_some-2 w ↦ copy_within (holdings_view c.args.self.now)
          (key_of c.args.name.now) c.args.least
          (found_some copy_view c.args.self.now.copies
          (copy_at (holdings_view c.args.self.now) (key_of c.args.name.now)) w.copy_at.result w.copy_at.ensures ∙
          (sym w.is_some-else-is_some.ensures ∙ w.if-is_some-2.true))
          (omega (arith, length-map c.args.name.now key_of_rdn, c.if-name-least.false))
    ]

pub returns-then-is_empty : goal.returns-then-is_empty
returns-then-is_empty t c =
    let no_own = nothing_found (held_at (holdings_view c.args.self.now).own (key_of c.args.name.now))
    (found_some held_view c.args.self.now.own
    (held_at (holdings_view c.args.self.now).own (key_of c.args.name.now)) c.own_at.result c.own_at.ensures ∙
    (sym c.is_some.ensures ∙ c.if-is_some.false)) in
    let no_copy = nothing_found (copy_at (holdings_view c.args.self.now) (key_of c.args.name.now))
    (found_some copy_view c.args.self.now.copies
    (copy_at (holdings_view c.args.self.now) (key_of c.args.name.now)) c.copy_at.result c.copy_at.ensures ∙
    (sym c.is_some-else-is_some.ensures ∙ c.if-is_some-2.false)) in
    within_root (holdings_view c.args.self.now) (key_of c.args.name.now) c.args.least no_own no_copy
    (length-map c.args.name.now key_of_rdn ∙ (nat_same_decides (length c.args.name.now) 0).0
    (sym c.is_empty.ensures ∙ c.if-is_empty.true))

pub returns : goal.returns
returns t c =
    let no_own = nothing_found (held_at (holdings_view c.args.self.now).own (key_of c.args.name.now))
    (found_some held_view c.args.self.now.own
    (held_at (holdings_view c.args.self.now).own (key_of c.args.name.now)) c.own_at.result c.own_at.ensures ∙
    (sym c.is_some.ensures ∙ c.if-is_some.false)) in
    let no_copy = nothing_found (copy_at (holdings_view c.args.self.now) (key_of c.args.name.now))
    (found_some copy_view c.args.self.now.copies
    (copy_at (holdings_view c.args.self.now) (key_of c.args.name.now)) c.copy_at.result c.copy_at.ensures ∙
    (sym c.is_some-else-is_some.ensures ∙ c.if-is_some-2.false)) in
    c.holds_within.ensures
    ∙ (ap (λ (k : Key). holds_within (holdings_view c.args.self.now) k c.args.least)
    (upper_key c.args.name.now (length c.args.name.now - 1) refl) ∙ within_above (holdings_view c.args.self.now)
    (key_of c.args.name.now) c.args.least no_own no_copy)
