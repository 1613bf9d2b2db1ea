-- What stands at the place that the table gives is the copy of the context; and what stands at a place is one copy.
use Rattle.std.proofs.Common.{◌≡◌, ℕ, zero, suc, true, false, List, [], ◌∷◌, map, refl, sym, ap, subst, ◌∙◌, Option, Some, None, Bor}
use Rattle.std.specs.Prelude.{slice_get, slice_set}
use Rattle.std.specs.Option.{is_some, option_map}
use Rattle.x5_model.specs.Words.{in_option}
use Rattle.x5_model.specs.Keys.{Key, same_key}
use Rattle.x5_model.specs.Values.{key_of}
use Rattle.x5_model.proofs.KeyLaws.{key_decides}
use Rattle.x5_model.proofs.Lists.{of_find}
use Rattle.x5_model_run.specs.Holdings.{Copy, Holdings, copy_at}
use Rattle.x5_holdings.specs.Known.{IsPlaceOf}
use Rattle.x5_holdings.specs.State.{CopyKept, IsBrought, Kept, State, copy_view, holdings_view, stamp_of}
use Rattle.x5_consume.specs.Ready.{CopyStands}
use Rattle.x5_consume.specs.Taken.{stamp_at}

pub copy_inside : {a b : CopyKept} → Some a ≡ Some b → a ≡ b
copy_inside e = cc

pub some_inside : {A : Type 0} {a b : A} → Some a ≡ Some b → a ≡ b
some_inside e = cc

-- ---- the copy of a context

pub record At (s : State) (pin : Key) (place : ℕ) : Type 0 where
  pub copy : CopyKept
  pub got : slice_get s.copies place ≡ Some copy
  pub key : key_of copy.prefix ≡ pin
  pub found : copy_at (holdings_view s) pin ≡ Some (copy_view copy)

pub at_place : (s : State) (pin : Key) (place : ℕ)
    → IsPlaceOf copy_view s.copies (copy_at (holdings_view s) pin) (Some place) → At s pin place
at_place s pin place p = by (slice_get s.copies place) refl
  where
    by : (o : Option CopyKept) → slice_get s.copies place ≡ o → At s pin place
    by None e = absurd (
        let t : is_some (slice_get s.copies place) ≡ true = p.1 in
        let f : is_some (slice_get s.copies place) ≡ false = ap (λ (o : Option CopyKept). is_some o) e in cc)
    by (Some c) e =
        let found : copy_at (holdings_view s) pin ≡ Some (copy_view c) = p.0 ∙ ap (option_map copy_view) e in
        record {
          copy = c;
          got = e;
          key = (key_decides (key_of c.prefix) pin).0
              (of_find (λ (x : Copy). same_key (key_of x.held.prefix) pin) (copy_view c) (map copy_view s.copies) found).1;
          found = found;
        }

pub no_stamp : (h : Holdings) (pin : Key) → copy_at h pin ≡ None → None ≡ stamp_at h pin
no_stamp h pin e = sym (ap (λ (o : Option Copy). in_option None (λ c. c.stamp) o) e)

pub its_stamp : (s : State) (pin : Key) (place : ℕ) (c : CopyKept)
    → IsPlaceOf copy_view s.copies (copy_at (holdings_view s) pin) (Some place) → slice_get s.copies place ≡ Some c
    → stamp_of c.refreshed ≡ stamp_at (holdings_view s) pin
its_stamp s pin place c p e =
    sym (ap (λ (o : Option Copy). in_option None (λ x. x.stamp) o) (p.0 ∙ ap (option_map copy_view) e))

pub never_lacking : (s : State) (pin : Key) (place : ℕ)
    → IsPlaceOf copy_view s.copies (copy_at (holdings_view s) pin) (Some place) → slice_get s.copies place ≡ None → ⊥
never_lacking s pin place p e =
    let t : is_some (slice_get s.copies place) ≡ true = p.1 in
    let f : is_some (slice_get s.copies place) ≡ false = ap (λ (o : Option CopyKept). is_some o) e in cc

-- ---- what stands at a place

pub brought : (s : State) (place : ℕ) (such : CopyKept → Kept → Type 0) (w : CopyStands s place such) (x : CopyKept)
    (o : Option (Bor Kept)) (h : Bor Kept) → slice_get s.copies place ≡ Some x → IsBrought x.prefix x.refreshed
    → option_map (λ (b : Bor Kept). b.now) o ≡ option_map (λ (r : Kept × ℕ). r.0) x.refreshed → o ≡ Some h
    → CopyStands s place (λ copy kept. (h.now ≡ kept) × (key_of kept.prefix ≡ key_of copy.prefix))
brought s place such w x o h e b held is =
    let same : x ≡ w.copy = copy_inside (sym e ∙ w.there) in
    let r : x.refreshed ≡ Some (w.kept, w.stamp) = ap (λ (c : CopyKept). c.refreshed) same ∙ w.refreshed in
    let h_is : Some h.now ≡ Some w.kept =
    ap (option_map (λ (b : Bor Kept). b.now)) (sym is) ∙ held ∙ ap (option_map (λ (r : Kept × ℕ). r.0)) r in
    record {
      copy = w.copy;
      kept = w.kept;
      stamp = w.stamp;
      there = w.there;
      refreshed = w.refreshed;
      is = (
        some_inside h_is,
        subst (λ (c : CopyKept). key_of w.kept.prefix ≡ key_of c.prefix) same
            (subst (λ (q : Option (Kept × ℕ)). IsBrought x.prefix q) r b),
      );
    }

pub never_unrefreshed : (s : State) (place : ℕ) (such : CopyKept → Kept → Type 0) (w : CopyStands s place such) (x : CopyKept)
    (o : Option (Bor Kept)) → slice_get s.copies place ≡ Some x
    → option_map (λ (b : Bor Kept). b.now) o ≡ option_map (λ (r : Kept × ℕ). r.0) x.refreshed → o ≡ None → ⊥
never_unrefreshed s place such w x o e held is =
    let same : x ≡ w.copy = copy_inside (sym e ∙ w.there) in
    let r : x.refreshed ≡ Some (w.kept, w.stamp) = ap (λ (c : CopyKept). c.refreshed) same ∙ w.refreshed in
    let h_is : None ≡ Some w.kept =
    ap (option_map (λ (b : Bor Kept). b.now)) (sym is) ∙ held ∙ ap (option_map (λ (r : Kept × ℕ). r.0)) r in cc

-- two that stand at one place are one
pub one_copy : (s : State) (place : ℕ) (f g : CopyKept → Kept → Type 0) (v : CopyStands s place f) (w : CopyStands s place g)
    → v.copy ≡ w.copy
one_copy s place f g v w = copy_inside (sym v.there ∙ w.there)

pub one_kept : (s : State) (place : ℕ) (f g : CopyKept → Kept → Type 0) (v : CopyStands s place f) (w : CopyStands s place g)
    → v.kept ≡ w.kept
one_kept s place f g v w =
    ap (λ (r : Kept × ℕ). r.0)
    (some_inside (sym v.refreshed ∙ ap (λ (c : CopyKept). c.refreshed) (one_copy s place f g v w) ∙ w.refreshed))

-- ---- lists with one member set

pub set_twice : {A : Type 0} (xs : List A) (n : ℕ) (x y : A) → slice_set (slice_set xs n x) n y ≡ slice_set xs n y
set_twice [] n x y = refl
set_twice (z ∷ xs) zero x y = refl
set_twice (z ∷ xs) (suc n) x y = ap (λ ys. z ∷ ys) (set_twice xs n x y)

pub got_set : {A : Type 0} (xs : List A) (n : ℕ) (x y : A) → slice_get xs n ≡ Some x → slice_get (slice_set xs n y) n ≡ Some y
got_set [] n x y e = cc
got_set (z ∷ xs) zero x y e = refl
got_set (z ∷ xs) (suc n) x y e = got_set xs n x y e

pub set_same : {A : Type 0} (xs : List A) (n : ℕ) (x : A) → slice_get xs n ≡ Some x → slice_set xs n x ≡ xs
set_same [] n x e = refl
set_same {A} (z ∷ xs) zero x e = ap (λ (y : A). y ∷ xs) (some_inside (sym e))
set_same {A} (z ∷ xs) (suc n) x e = ap (λ (ys : List A). z ∷ ys) (set_same xs n x e)

pub set_mapped : {A B : Type 0} (f : A → B) (xs : List A) (n : ℕ) (x y : A) → slice_get xs n ≡ Some x → f y ≡ f x
    → map f (slice_set xs n y) ≡ map f xs
set_mapped f [] n x y g e = cc
set_mapped {A} {B} f (z ∷ xs) zero x y g e = ap (λ (h : B). h ∷ map f xs) (e ∙ ap f (sym (some_inside g)))
set_mapped {A} {B} f (z ∷ xs) (suc n) x y g e = ap (λ (hs : List B). f z ∷ hs) (set_mapped f xs n x y g e)
