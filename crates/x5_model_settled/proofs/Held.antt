-- What agents hold at a line, by the two cases: over consistent knowledge their part of the tree, where what holds of
-- lines over the tree gives it; over other knowledge what the line's deed leaves them.
use Rattle.std.proofs.Common.{◌≡◌, ℕ, ◌==◌, Bool, true, false, ◌||◌, if◌then◌else◌, ◌⊎◌, inl, inr, List, [], ◌∷◌, ◌++◌, map, reverse, refl, sym, ap, subst, ◌∙◌, Option, Some, None}
use Rattle.std.specs.Option.{is_none}
use Rattle.std.proofs.lemmas.Grind.{reverse_onto}
use mathlib.Core.Path.{fun_ext}
use Rattle.x5_model.specs.Words.{has}
use Rattle.x5_model.specs.Requests.{Request}
use Rattle.x5_model.specs.References.{Chained}
use Rattle.x5_model.proofs.Lists.{true_or_false}
use Rattle.x5_model_tree.specs.World.{World}
use Rattle.x5_model_tree.specs.Consistent.{Inconsistency, IsConsistent, first_breach}
use Rattle.x5_model_tree.proofs.FirstBreach.{consistent_has_none, none_is_consistent}
use Rattle.x5_model_run.specs.Holdings.{Holdings}
use Rattle.x5_model_run.specs.History.{Deed, Nothing, Outs, Loses, Accepts, Refreshes, Splits, Unsplits, Point, holdings_at}
use Rattle.x5_model_run.specs.Stage.{budget}
use Rattle.x5_model_run.specs.Chain.{Scene, scene_with}
use Rattle.x5_model_held.specs.Theorems.{is_still}
use Rattle.x5_model_held.proofs.Begun.{held_as_described}
use Rattle.x5_model_serve.specs.Committed.{committed}
use Rattle.x5_model_serve.specs.Serving.{IsRequest}
use Rattle.x5_model_settled.specs.Afterwards.{line_after, did_with}
use Rattle.x5_model_settled.specs.Held.{held_accepting, held_after, held_by, held_at, scene_held, HeldIsHoldings, HeldIsByStep, HeldAtFirst, HeldOn, HeldAfterLine}
use Rattle.x5_model_settled.proofs.Settled.{accepted_deed}
use Rattle.x5_model_settled.proofs.After.{holds_after, holds_on}

-- ---- the two cases

sound_or_not : (w : World) → IsConsistent w ⊎ (is_none (first_breach w) ≡ false)
sound_or_not w = by (first_breach w) refl
  where
    by : (o : Option Inconsistency) → first_breach w ≡ o → IsConsistent w ⊎ (is_none (first_breach w) ≡ false)
    by None e = inl (none_is_consistent w e)
    by (Some b) e = inr (ap (λ (x : Option Inconsistency). is_none x) e)

pub held_is_holdings : HeldIsHoldings
held_is_holdings p a consistent =
    ap (λ (x : Option Inconsistency). if is_none x then holdings_at p a else held_by p.described p.past a)
    (consistent_has_none p.described consistent)

step_by_step : (p : Point) (a : ℕ) → is_none (first_breach p.described) ≡ false → held_at p a ≡ held_by p.described p.past a
step_by_step p a e = ap (λ (b : Bool). if b then holdings_at p a else held_by p.described p.past a) e

pub held_is_by_step : HeldIsByStep
held_is_by_step p a other = elim (sound_or_not p.described) [
  | inl consistent ↦ absurd (other consistent)
  | inr e ↦ step_by_step p a e
]

-- so over consistent knowledge a message's scene is the line's
pub scene_is : (p : Point) (first : ℕ) (m : Chained) → IsConsistent p.described → scene_held p first m ≡ scene_with p first m
scene_is p first m consistent =
    let held : held_at p ≡ holdings_at p = fun_ext (λ a. held_is_holdings p a consistent) in
    ap (λ (hs : ℕ → Holdings). record (scene_with p first m) { holdings = hs }) held

-- ---- the first line, and one that changes nothing

pub held_at_first : HeldAtFirst
held_at_first w a described = elim (sound_or_not w) [
  | inl consistent ↦
      held_is_holdings (line_after w []) a consistent ∙ sym (held_as_described w a described consistent)
  | inr e ↦ step_by_step (line_after w []) a e
]

one_step : (d : Deed) (a : ℕ) (h : Holdings) → is_still d ≡ true → held_after d a h ≡ h
one_step Nothing a h e = refl
one_step (Outs o) a h e = refl
one_step (Loses reply k) a h e = refl
one_step (Accepts []) a h e = refl
one_step (Accepts (x ∷ more)) a h e = cc
one_step (Refreshes f) a h e = cc
one_step (Splits name o) a h e = cc
one_step (Unsplits name) a h e = cc

pub held_on : HeldOn
held_on w past d a still = elim (sound_or_not w) [
  | inl consistent ↦
      held_is_holdings (line_after w (d ∷ past)) a consistent ∙ holds_on w past d a still
      ∙ sym (held_is_holdings (line_after w past) a consistent)
  | inr e ↦
      step_by_step (line_after w (d ∷ past)) a e ∙ one_step d.deed a (held_by w past a) still
      ∙ sym (step_by_step (line_after w past) a e)
]

-- ---- a message

accepting_is : (r : Request) (xs : List ℕ) (a : ℕ) (h : Holdings)
    → held_accepting (map (λ x. record { agent = x; request = r }) xs) a h
    ≡ (if has ◌==◌ xs a then committed r h else h)
accepting_is r [] a h = refl
accepting_is r (x ∷ xs) a h = elim (true_or_false (x == a)) [
  | inl t ↦ rw t refl
  | inr f ↦ rw f (accepting_is r xs a h)
]

deed_is : (r : Request) (xs : List ℕ) (a : ℕ) (h : Holdings)
    → held_after (accepted_deed r xs) a h ≡ (if has ◌==◌ xs a then committed r h else h)
deed_is r [] a h = refl
deed_is r (x ∷ xs) a h = accepting_is r (x ∷ xs) a h

swapped : (a b c : Bool) → (a || (b || c)) ≡ (b || (a || c))
swapped true true c = refl
swapped true false c = refl
swapped false b c = refl

has_more : (xs : List ℕ) (x a : ℕ) → has ◌==◌ (xs ++ x ∷ []) a ≡ ((x == a) || has ◌==◌ xs a)
has_more [] x a = refl
has_more (y ∷ ys) x a =
    ap (λ (b : Bool). (y == a) || b) (has_more ys x a) ∙ swapped (y == a) (x == a) (has ◌==◌ ys a)

has_reverse : (xs : List ℕ) (a : ℕ) → has ◌==◌ (reverse xs) a ≡ has ◌==◌ xs a
has_reverse [] a = refl
has_reverse (x ∷ xs) a =
    ap (λ (ys : List ℕ). has ◌==◌ ys a) (reverse_onto xs x [])
    ∙ has_more (reverse xs) x a
    ∙ ap (λ (b : Bool). (x == a) || b) (has_reverse xs a)

request_step : (r : Request) (accepted : List ℕ) (a : ℕ) (h : Holdings)
    → held_after (accepted_deed r (reverse accepted)) a h ≡ (if has ◌==◌ accepted a then committed r h else h)
request_step r accepted a h =
    deed_is r (reverse accepted) a h ∙ ap (λ (b : Bool). if b then committed r h else h) (has_reverse accepted a)

pub held_after_line : HeldAfterLine
held_after_line w past first m j reply a described none stamped is = elim (sound_or_not w) [
  | inl consistent ↦
      held_is_holdings (line_after w (did_with m j ∷ past)) a consistent
      ∙ holds_after w past first m (budget (line_after w past)) j reply a described consistent none (stamped consistent)
      (subst (λ (s : Scene). IsRequest s (budget (line_after w past)) j reply) (scene_is (line_after w past) first m consistent) is)
      ∙ ap (λ (h : Holdings). if has ◌==◌ j.accepted a then committed m.request h else h)
      (sym (held_is_holdings (line_after w past) a consistent))
  | inr e ↦
      step_by_step (line_after w (did_with m j ∷ past)) a e
      ∙ request_step m.request j.accepted a (held_by w past a)
      ∙ ap (λ (h : Holdings). if has ◌==◌ j.accepted a then committed m.request h else h)
      (sym (step_by_step (line_after w past) a e))
]
