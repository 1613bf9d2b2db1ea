-- An entry's whole name has the key of the name that the file gives it.
use Rattle.std.proofs.Common.{◌≡◌, suc, ◌-◌, ◌==◌, Bool, true, false, cond, List, [], ◌∷◌, ◌++◌, map, take, length, refl, sym, ap, ◌∙◌, arith, Option, Some, None, option_map}
use Rattle.std.specs.List.{find}
use Rattle.x5_model.specs.Entries.{Named}
use Rattle.x5_model.specs.Keys.{Key, same_key, parent}
use Rattle.x5_model.specs.Values.{Rdn, Name, key_of_rdn, key_of, last_rdn}
use Rattle.x5_model.specs.Words.{is_empty}
use Rattle.x5_model.proofs.KeyLaws.{key_decides}
use Rattle.x5_model_tree.specs.Tree.{key_at}
use Rattle.x5_model_world.specs.ContextText.{below_parent, whole_name}

found_passes : {A : Type 0} (p : A → Bool) (xs : List A) (x : A) → find p xs ≡ Some x → p x ≡ true
found_passes p [] x e = cc
found_passes {A} p (y ∷ ys) x e = by (p y) refl (found_passes p ys x) e
  where
    by : (b : Bool) → p y ≡ b → (find p ys ≡ Some x → p x ≡ true) → cond b (Some y) (find p ys) ≡ Some x → p x ≡ true
    by true is more h = let same : y ≡ x = cc in ap p (sym same) ∙ is
    by false is more h = more h

pub one_less : {A : Type 0} (x y : A) (xs : List A) → length (x ∷ y ∷ xs) - 1 ≡ suc (length (y ∷ xs) - 1)
one_less x y xs = omega arith

last_key : (n : Name) → is_empty n ≡ false → parent (key_of n) ++ key_of_rdn (last_rdn n) ∷ [] ≡ key_of n
last_key [] e = cc
last_key (r ∷ []) e = refl
last_key (r ∷ s ∷ rest) e =
    ap (λ (k : Key). k ++ key_of_rdn (last_rdn (s ∷ rest)) ∷ []) (ap (λ k. take k (key_of (r ∷ s ∷ rest))) (one_less (key_of_rdn r) (key_of_rdn s) (key_of rest)))
    ∙ ap (λ (k : Key). key_of_rdn r ∷ k) (last_key (s ∷ rest) refl)

key_more : (n : Name) (r : Rdn) → key_of (n ++ r ∷ []) ≡ key_of n ++ key_of_rdn r ∷ []
key_more [] r = refl
key_more (s ∷ n) r = ap (λ (k : Key). key_of_rdn s ∷ k) (key_more n r)

below_key : (own n : Name) (o : Option Named) → is_empty own ≡ false → ((e : Named) → o ≡ Some e → key_at e ≡ parent (key_of own)) → option_map (λ (above : Named). above.name ++ last_rdn own ∷ []) o ≡ Some n → key_of n ≡ key_of own
below_key own n None some at e = cc
below_key own n (Some above) some at e =
    let is : above.name ++ last_rdn own ∷ [] ≡ n = cc in
    sym (ap key_of is) ∙ key_more above.name (last_rdn own) ∙ ap (λ (k : Key). k ++ key_of_rdn (last_rdn own) ∷ []) (at above refl) ∙ last_key own some

pub whole_key : (prefix own n : Name) (before : List Named) → is_empty own ≡ false → whole_name prefix before own ≡ Some n → key_of n ≡ key_of own
whole_key prefix own n [] some e = by (same_key (key_of own) (key_of prefix)) refl e
  where
    by : (b : Bool) → same_key (key_of own) (key_of prefix) ≡ b → cond b (Some prefix) None ≡ Some n → key_of n ≡ key_of own
    by true is h = let same : prefix ≡ n = cc in sym (ap key_of same) ∙ sym ((key_decides (key_of own) (key_of prefix)).0 is)
    by false is h = cc
whole_key prefix own n (first ∷ more) some e =
    below_key own n (find (λ (f : Named). same_key (parent (key_of own)) (key_at f)) (first ∷ more)) some
    (λ f found. sym ((key_decides (parent (key_of own)) (key_at f)).0 (found_passes (λ (g : Named). same_key (parent (key_of own)) (key_at g)) (first ∷ more) f found))) e
