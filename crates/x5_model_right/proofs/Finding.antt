-- Where something is found, nothing was accepted by the agent before: so it holds what it held, is able to proceed, and
-- doesn't do an update again.
use Rattle.std.proofs.Common.{◌≡◌, ℕ, nat_lt, Bool, true, false, ◌&&◌, ◌==◌, inl, inr, List, [], length, refl, sym, ap, subst, ◌∙◌, Option, Some, None, if◌then◌else◌}
use Rattle.std.specs.Option.{is_none}
use Rattle.x5_model.specs.Words.{has, some_and}
use Rattle.x5_model.specs.Members.{In}
use Rattle.x5_model.specs.Values.{key_of}
use Rattle.x5_model.specs.Statics.{fault_of}
use Rattle.x5_model.specs.References.{Progress, Start, Next, Done, Chained}
use Rattle.x5_model.proofs.Decide.{nat_same_decides}
use Rattle.x5_model.proofs.Lists.{both_true, true_or_false, of_any, has_in}
use Rattle.x5_model_tree.specs.Ask.{is_update}
use Rattle.x5_model_run.specs.Journal.{Line, Journal, is_wide}
use Rattle.x5_model_run.specs.Holdings.{Holdings, holds_within}
use Rattle.x5_model_run.specs.Needs.{resolves, falls_short, is_unable}
use Rattle.x5_model_run.specs.History.{Point, holdings_at}
use Rattle.x5_model_run.specs.Chain.{Scene}
use Rattle.x5_model_run.specs.Accepting.{accepting, is_later, is_done_before}
use Rattle.x5_model_serve.specs.Committed.{committed}
use Rattle.x5_model_serve.specs.Finding.{Found, Stuck, IsLooked, find}
use Rattle.x5_model_serve.specs.Serving.{Hand, Arrives, holds_now, found_at}
use Rattle.x5_model_serve.specs.Claims.{AtHand}
use Rattle.x5_model_serve.proofs.Carrying.{resolving}
use Rattle.x5_model_right.specs.Kept.{Ground}

-- who resolves, or is found, is able
pub able_by : (h : Holdings) (m : Chained) (f : Found) → find h m ≡ f → (f ≡ Stuck → ⊥) → is_unable h m ≡ false
able_by h m f e free = last (nat_lt (length m.trace) 128) (is_none (fault_of m.request.body)) (is_wide m.kind) _ (by m.progress refl)
  where
    last : (a b c d : Bool) → d ≡ false → (a && (b && (c && d))) ≡ false
    last true true true d q = q
    last true true false d q = refl
    last true false c d q = refl
    last false b c d q = refl

    at_next : (k : ℕ) → m.progress ≡ Next k → (b : Bool) → holds_within h (key_of m.target) k ≡ b → falls_short h (key_of m.target) m.progress ≡ false
    at_next k q true w = rw (q, w) refl
    at_next k q false w = (let s : Stuck ≡ f = rw (q, w) at e in absurd (free (sym s)))

    by : (y : Progress) → m.progress ≡ y → falls_short h (key_of m.target) m.progress ≡ false
    by Start q = rw q refl
    by (Next k) q = at_next k q (holds_within h (key_of m.target) k) refl
    by Done q = rw q refl

module _ (p : Point) (s : Scene) (g : Ground p s) (k : Hand) (j : Journal) (at : AtHand p s k j) (none : is_update k.message.request.body ≡ false → j.accepted ≡ []) (a : Arrives s k j) (f : Found)
    (e : found_at s j k ≡ f) (free : f ≡ Stuck → ⊥) where
  pub looked : IsLooked k.message
  looked = (a.unrefused, a.fit)

  pub not_accepted : has ◌==◌ j.accepted k.receiver ≡ false
  not_accepted = elim (true_or_false (is_update k.message.request.body)) [
    | inr u ↦ ap (λ (xs : List ℕ). has ◌==◌ xs k.receiver) (none u)
    | inl u ↦ by (is_update k.message.request.body) (has ◌==◌ j.accepted k.receiver) (resolves (holds_now s j k) k.message) u (resolving s k j f a u e free) a.fresh
  ]
    where
      by : (x y z : Bool) → x ≡ true → z ≡ true → (x && (y && z)) ≡ false → y ≡ false
      by true true true q r w = w
      by true false z q r w = refl
      by true true false q r w = cc
      by false y z q r w = cc

  pub holds_same : holds_now s j k ≡ s.holdings k.receiver
  holds_same = ap (λ (b : Bool). if b then committed s.message.request (s.holdings k.receiver) else s.holdings k.receiver) not_accepted

  pub holds_is : holds_now s j k ≡ holdings_at p k.receiver
  holds_is = holds_same ∙ ap (λ (h : ℕ → Holdings). h k.receiver) g.setting.holdings

  pub found_same : find (s.holdings k.receiver) k.message ≡ f
  found_same = ap (λ (h : Holdings). find h k.message) (sym holds_same) ∙ e

  pub found_is : find (holdings_at p k.receiver) k.message ≡ f
  found_is = ap (λ (h : Holdings). find h k.message) (sym holds_is) ∙ e

  pub able : is_unable (s.holdings k.receiver) k.message ≡ false
  able = able_by (s.holdings k.receiver) k.message f found_same free

  -- it doesn't bring its agent what that has accepted
  pub fresh : is_done_before s j at.line ≡ false
  fresh = elim (true_or_false (is_done_before s j at.line)) [
    | inr y ↦ y
    | inl y ↦
        let x = of_any (λ b. some_and (is_later s b at.line) (accepting s j.lines b)) j.accepted y in
        let b = some_of x.0 (accepting s j.lines x.0) x.2 in
        let mine : k.receiver ≡ x.0 = sym at.receiver_is ∙ (nat_same_decides at.line.receiver x.0).0 b in
        let there_too : has ◌==◌ j.accepted k.receiver ≡ true = has_in ◌==◌ nat_same_decides k.receiver j.accepted (subst (λ (n : ℕ). In n j.accepted) (sym mine) x.1) in
        let no = not_accepted in
        absurd (let z : true ≡ false = sym there_too ∙ no in cc)
  ]
    where
      some_of : (b : ℕ) (o : Option Line) → some_and (is_later s b at.line) o ≡ true → (at.line.receiver == b) ≡ true
      some_of b None q = cc
      some_of b (Some x) q = (both_true (at.line.receiver == b) _ q).0
