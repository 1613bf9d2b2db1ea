-- What the agent holds after an update: the context of the target changes alone.
use Rattle.std.proofs.Common.{◌≡◌, ◌≢◌, ℕ, zero, suc, Bool, inl, inr, ◌∷◌, [], List, map, refl, sym, ap, subst, ◌∙◌, None, Some, Ok, slice_set, if◌then◌else◌}
use Rattle.std.specs.Prelude.{slice_get}
use Rattle.std.specs.List.{filter}
use Rattle.x5_model.specs.Members.{In, Once, here, there}
use Rattle.x5_model.specs.Keys.{Key}
use Rattle.x5_model.specs.Values.{key_of}
use Rattle.x5_model.specs.Entries.{Named}
use Rattle.x5_model.specs.Requests.{Request}
use Rattle.x5_model.specs.Statics.{fault_of}
use Rattle.x5_model.proofs.Lists.{true_or_false, in_map}
use Rattle.x5_model_tree.specs.Apply.{Ground, UpdatedEntries, apply_over}
use Rattle.x5_model_tree.proofs.Longest.{IsLongest, belongs_decides}
use Rattle.x5_model_run.specs.Holdings.{Held, Holdings, known_pins, ground_at}
use Rattle.x5_model_run.specs.Needs.{target_of}
use Rattle.x5_model_serve.specs.Committed.{is_counted, holds_target, alone_at, with_outcome, changed_at, committed_if, committed}
use Rattle.x5_model_updates.proofs.Divided.{one_pin}
use Rattle.x5_model_updates.proofs.Outcomes.{over_update}
use Rattle.x5_model_updates.proofs.Own.{ground_is}
use Rattle.x5_update.proofs.Alone.{alone, Makes}

-- ---- one member of a list changes

module _ {A B : Type 0} (view : A → B) (key : A → Key) (f : B → B) (x y : A) (at : f (view x) ≡ view y) where
  stays : (zs : List A) → ((z : A) → In z zs → f (view z) ≡ view z) → map f (map view zs) ≡ map view zs
  stays [] h = refl
  stays (z ∷ zs) h = (λ i. h z here i ∷ stays zs (λ w j. h w (there j)) i)

  pub one_changes : (xs : List A) (n : ℕ) → Once (map key xs) → slice_get xs n ≡ Some x
      → ((z : A) → In z xs → key z ≢ key x → f (view z) ≡ view z) → map f (map view xs) ≡ map view (slice_set xs n y)
  one_changes [] n once g others = cc
  one_changes (z ∷ xs) zero once g others =
      let is : z ≡ x = inside g in
      (λ i. ((ap (λ (w : A). f (view w)) is ∙ at) i) ∷
      stays xs (λ w j. others w (there j) (λ s. once.0 (subst (λ (k : Key). In k (map key xs)) (s ∙ ap key (sym is)) (in_map key w xs j)))) i)
    where
      inside : {a b : A} → Some a ≡ Some b → a ≡ b
      inside e = cc
  one_changes (z ∷ xs) (suc n) once g others =
      (λ i. others z here (λ s. once.0 (subst (λ (k : Key). In k (map key xs)) (sym s) (got xs n g))) i
      ∷ one_changes xs n once.1 g (λ w j. others w (there j)) i)
    where
      got : (xs : List A) (n : ℕ) → slice_get xs n ≡ Some x → In (key x) (map key xs)
      got [] n e = cc
      got (w ∷ xs) zero e = subst (λ (k : Key). In k (key w ∷ map key xs)) (ap key (inside e)) here
        where
          inside : {a b : A} → Some a ≡ Some b → a ≡ b
          inside e = cc
      got (w ∷ xs) (suc n) e = there (got xs n e)

-- ---- the context of the target, and the others

abbrev pub pins_at : Request → Holdings → List Key
pins_at r h = map key_of (known_pins r h)

module _ (r : Request) (h : Holdings) (c : Held) (long : IsLongest (pins_at r h) (key_of (target_of r.body)) (Some (key_of c.prefix))) where
  choose : Held → Bool → Held
  choose d b = if b then with_outcome r h d (apply_over (alone_at r h d) r.body) else d

  pub others_stay : (d : Held) → key_of d.prefix ≢ key_of c.prefix → changed_at r h d ≡ d
  others_stay d other =
      elim (true_or_false (holds_target r h d)) [
        | inr f ↦ ap (λ (b : Bool). if b then with_outcome r h d (apply_over (alone_at r h d) r.body) else d) f
        | inl t ↦ absurd (other (one_pin (pins_at r h) (key_of (target_of r.body)) (key_of d.prefix) (key_of c.prefix)
            ((belongs_decides (pins_at r h) (key_of d.prefix) (key_of (target_of r.body))).0 t) long))
      ]

  pub target_changes : (after : List Named) → fault_of r.body ≡ None → Makes (pins_at r h) h.own c r.body after
      → changed_at r h c ≡ record c { entries = after }
  target_changes after none makes =
      ap (λ (b : Bool). if b then with_outcome r h c (apply_over (alone_at r h c) r.body) else c)
      ((belongs_decides (pins_at r h) (key_of c.prefix) (key_of (target_of r.body))).1 long)
      ∙ ap (with_outcome r h c)
      (ap (λ (g : Ground). apply_over (record g { entries = filter (is_counted r h c) c.entries }) r.body) (ground_is r h)
      ∙ over_update (alone (pins_at r h) h.own c) r.body none ∙ makes.gives)
      ∙ ap (λ (es : List Named). record c { entries = es }) makes.all

-- what is committed, where the agent's ground accepts the update
pub committed_is : (r : Request) (h : Holdings) (us : List Named) → apply_over (ground_at r h) r.body ≡ Ok us
    → committed r h ≡ record h { own = map (changed_at r h) h.own }
committed_is r h us q = ap (λ (o : UpdatedEntries). committed_if r h o) q
