-- The logs that agents have after a line are those of the next one: where nothing is accepted, and after a request, which
-- over consistent knowledge one agent at most accepts.
use Rattle.std.proofs.Common.{◌≡◌, ℕ, zero, suc, ◌+◌, ◌==◌, ◌||◌, ◌⊎◌, Bool, true, false, nat_le, inl, inr, List, [], ◌∷◌, length, reverse, refl, sym, ap, subst, ◌∙◌, arith}
use Rattle.std.proofs.Math.Logic.{∥∥₁_elim}
use Rattle.std.proofs.Props.{props}
use Rattle.x5_model.specs.Words.{has}
use Rattle.x5_model.specs.Requests.{Request}
use Rattle.x5_model.proofs.Decide.{nat_same_decides}
use Rattle.x5_model.proofs.Lists.{true_or_false}
use Rattle.x5_model_tree.specs.Consistent.{IsConsistent}
use Rattle.x5_model_run.specs.Holdings.{Holdings}
use Rattle.x5_model_run.specs.History.{Deed, Nothing, Outs, Loses, Accepts, Refreshes, Splits, Unsplits, Point, acked, holdings_at, moment_of}
use Rattle.x5_model_settled.proofs.Held.{held_is_holdings}
use Rattle.x5_model_settled.proofs.Settled.{accepted_deed}
use Rattle.x5_model_refreshed.specs.Growing.{IsQuiet, after_deed}
use Rattle.x5_model_refreshed.specs.Replaying.{Happens, IsLed}
use Rattle.x5_world.specs.Logs.{AreNoted, Logs, logs_at}
use Rattle.x5_world.specs.State.{Net, StandsAt, holdings_in, logs_in}
use Rattle.x5_world.proofs.Keeping.{logs_stay, noted_so, others_stay}

pub quiet_happens : (p : Point) (deed : Deed) → IsQuiet deed → Happens p deed
quiet_happens p Nothing q = tt
quiet_happens p (Outs o) q = tt
quiet_happens p (Loses reply k) q = tt
quiet_happens p (Accepts accepted) q = absurd q
quiet_happens p (Refreshes f) q = absurd q
quiet_happens p (Splits name a) q = absurd q
quiet_happens p (Unsplits name) q = absurd q

-- what suppliers know to be taken
pub quiet_acked : (p : Point) (deed : Deed) (sent number : ℕ) → IsQuiet deed
    → acked (after_deed p deed sent) number ≡ acked p number
quiet_acked p Nothing sent number q = refl
quiet_acked p (Outs o) sent number q = refl
quiet_acked p (Loses reply k) sent number q = refl
quiet_acked p (Accepts accepted) sent number q = absurd q
quiet_acked p (Refreshes f) sent number q = absurd q
quiet_acked p (Splits name a) sent number q = absurd q
quiet_acked p (Unsplits name) sent number q = absurd q

pub request_acked : (p : Point) (r : Request) (accepted : List ℕ) (sent number : ℕ)
    → acked (after_deed p (accepted_deed r accepted) sent) number ≡ acked p number
request_acked p r [] sent number = refl
request_acked p r (a ∷ more) sent number = refl

-- two lists of logs are equal in one way at most
logs_set : IsSet Logs
logs_set = hlevel props

too_many : (n : ℕ) → nat_le (suc (suc n)) 1 ≡ true → ⊥
too_many n e = grind arith

module _ (old new : Net) (p : Point) (r : Request) (s : StandsAt old p) (consistent : IsConsistent p.described)
    (accepted : List ℕ)
    (notes : (a : ℕ) → has ◌==◌ accepted a ≡ true
    → ∥ AreNoted (old.line + 1) r (holdings_in old a) (logs_in old a) (logs_in new a) ∥₁)
    (others : (a : ℕ) → has ◌==◌ accepted a ≡ false → logs_in new a ≡ logs_in old a) where
  led : IsLed p
  led = record { described = s.described; consistent = consistent; happened = s.happened consistent }

  abbrev Noted : ℕ → Type 0
  Noted a = AreNoted (moment_of p) r (holdings_at p a) (logs_at p a) (logs_in new a)

  noted : (a : ℕ) → has ◌==◌ accepted a ≡ true → ∥ Noted a ∥₁
  noted a e =
      let line : old.line + 1 ≡ moment_of p = ap (λ (k : ℕ). k + 1) s.line in
      let held : holdings_in old a ≡ holdings_at p a = s.holds a ∙ held_is_holdings p a consistent in
      let logs : logs_in old a ≡ logs_at p a = s.logs consistent a in
      subst (λ (z : ℕ × (Holdings × Logs)). ∥ AreNoted z.0 r z.1.0 z.1.1 (logs_in new a) ∥₁)
      (λ i. (line i, (held i, logs i))) (notes a e)

  unnoted : (a : ℕ) → has ◌==◌ accepted a ≡ false → logs_in new a ≡ logs_at p a
  unnoted a e = others a e ∙ s.logs consistent a

  same_or_not : (a b : ℕ) → (a ≡ b) ⊎ ((a == b) ≡ false)
  same_or_not a b = elim (true_or_false (a == b)) [ inl t ↦ inl ((nat_same_decides a b).0 t) | inr f ↦ inr f ]

  false_true : false ≡ true → ⊥
  false_true e = cc

  one_is_in : (o : ℕ) → has ◌==◌ (o ∷ []) o ≡ true
  one_is_in o = ap (λ (b : Bool). b || false) ((nat_same_decides o o).1 refl)

  no_other_is : (o a : ℕ) → (o == a) ≡ false → has ◌==◌ (o ∷ []) a ≡ false
  no_other_is o a f = ap (λ (b : Bool). b || false) f

  -- where one agent accepted it, whose notes are these
  after_one : (o sent a : ℕ) → ((b : ℕ) → has ◌==◌ (o ∷ []) b ≡ has ◌==◌ accepted b) → Noted o
      → logs_in new a ≡ logs_at (after_deed p (accepted_deed r (o ∷ [])) sent) a
  after_one o sent a same n =
      let at_o = noted_so p led o r sent (logs_in new o) n in
      elim (same_or_not o a) [
        | inl e ↦
            subst (λ (b : ℕ). logs_in new b ≡ logs_at (after_deed p (Accepts (record { agent = o; request = r } ∷ [])) sent) b) e at_o.1
        | inr f ↦
            unnoted a (sym (same a) ∙ no_other_is o a f)
            ∙ sym (others_stay p led o r sent a at_o.0 (λ e. false_true (sym f ∙ (nat_same_decides o a).1 (sym e))))
      ]

  pub logs_after : (xs : List ℕ) (sent : ℕ) → nat_le (length xs) 1 ≡ true
      → ((a : ℕ) → has ◌==◌ xs a ≡ has ◌==◌ accepted a)
      → (a : ℕ) → logs_in new a ≡ logs_at (after_deed p (accepted_deed r (reverse xs)) sent) a
  logs_after [] sent one same a = unnoted a (sym (same a)) ∙ sym (logs_stay p Nothing sent a tt)
  logs_after (o ∷ []) sent one same a =
      ∥∥₁_elim (noted o (sym (same o) ∙ one_is_in o)) (logs_set _ _) (λ n. after_one o sent a same n)
  logs_after (o ∷ b ∷ more) sent one same a = absurd (too_many (length more) one)
