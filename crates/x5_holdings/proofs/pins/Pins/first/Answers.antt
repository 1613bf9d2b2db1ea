-- The first row that isn't below the key is its first row, or it has none.
use Rattle.std.proofs.Common.{◌≡◌, ℕ, true, false, sym, subst, ap, ◌<◌, ◌∙◌}
use Rattle.std.specs.Ordering.{is_eq}
use Rattle.x5_model.specs.Values.{key_of}
use Rattle.x5_holdings.specs.Rows.{places_of}
use Rattle.x5_holdings.proofs.Sought.{IsSplit, as_split, found_first, found_other, found_none}
use Rattle.x5_holdings.proofs.pins.Pins.first.Goals as goal

pub returns-in-Some : goal.returns-in-Some
returns-in-Some c =
    let h : IsSplit c.args.self.now (key_of c.args.rdns.now) c.count_below-place.result = as_split c.args.self.now
    c.self.inside.rows.items c.deref.result.now (key_of c.args.rdns.now) c.count_below-place.result c.self.view_is
    c.deref.ensures.value c.self.invariant c.count_below-place.ensures.parts in
    subst (λ (n : ℕ). (places_of c.args.self.now (key_of c.args.rdns.now) n ≡ true) ×
    ((m : ℕ) → m < n → places_of c.args.self.now (key_of c.args.rdns.now) m ≡ false)) (sym c.place.ensures)
    (found_first c.args.self.now c.deref-2.result.now (key_of c.args.rdns.now) c.count_below-place.result h
    (c.deref-2.ensures.value ∙ c.self.view_is) c.get.result c.get.ensures.lookup c.in-Some.row c.in-Some.is
    (sym (c.is_eq.ensures ∙ ap is_eq c.compare.ensures) ∙ c.if-is_eq.true))

pub returns-in_default : goal.returns-in_default
returns-in_default c =
    let h : IsSplit c.args.self.now (key_of c.args.rdns.now) c.count_below-place.result = as_split c.args.self.now
    c.self.inside.rows.items c.deref.result.now (key_of c.args.rdns.now) c.count_below-place.result c.self.view_is
    c.deref.ensures.value c.self.invariant c.count_below-place.ensures.parts in
    found_other c.args.self.now c.deref-2.result.now (key_of c.args.rdns.now) c.count_below-place.result h
    (c.deref-2.ensures.value ∙ c.self.view_is) c.get.result c.get.ensures.lookup c.in-Some.row c.in-Some.is
    (sym (c.is_eq.ensures ∙ ap is_eq c.compare.ensures) ∙ c.if-is_eq.false)

pub returns-in_default-2 : goal.returns-in_default-2
returns-in_default-2 c =
    let h : IsSplit c.args.self.now (key_of c.args.rdns.now) c.count_below-place.result = as_split c.args.self.now
    c.self.inside.rows.items c.deref.result.now (key_of c.args.rdns.now) c.count_below-place.result c.self.view_is
    c.deref.ensures.value c.self.invariant c.count_below-place.ensures.parts in
    found_none c.args.self.now c.deref-2.result.now (key_of c.args.rdns.now) c.count_below-place.result h
    (c.deref-2.ensures.value ∙ c.self.view_is) c.get.result c.get.ensures.lookup c.in_default.is
