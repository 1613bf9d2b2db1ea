-- The keys of entries, added one by one: a key is among them where it is an entry's.
use Rattle.std.proofs.Common.{◌≡◌, ℕ, zero, suc, ◌+◌, ◌<◌, ◌≤◌, Bool, true, false, cond, ◌||◌, List, [], ◌∷◌, length, drop, get_or, refl, sym, ap, ◌∙◌, arith}
use Rattle.std.specs.List.{list_any}
use Rattle.x5_model.specs.Keys.{Key, same_key}
use Rattle.x5_model.specs.Entries.{Named}
use Rattle.x5_model_tree.specs.Tree.{key_at, is_there}
use Rattle.x5_ops.proofs.Dropping.{drop_at}

one_or : (b c r : Bool) → (cond b true c || r) ≡ (c || (b || r))
one_or true true r = refl
one_or true false r = refl
one_or false c r = refl

none_or : (b : Bool) → (b || false) ≡ b
none_or true = refl
none_or false = refl

pub one_more : (ks new : List Key) (es : List Named) (i : ℕ) (e : Named) (v : Key) → i < length es → e ≡ get_or es i e
    → v ≡ key_at e → ((q : Key) → list_any (same_key q) new ≡ cond (same_key v q) true (list_any (same_key q) ks))
    → ((q : Key) → (list_any (same_key q) ks || is_there (drop i es) q) ≡ is_there es q)
    → (q : Key) → (list_any (same_key q) new || is_there (drop (i + 1) es) q) ≡ is_there es q
one_more ks new es i e v lt is at h g q =
    ap (λ (b : Bool). b || is_there (drop (i + 1) es) q) (h q)
    ∙ one_or (same_key v q) (list_any (same_key q) ks) (is_there (drop (i + 1) es) q)
    ∙ ap (λ (k : Key). list_any (same_key q) ks || (same_key k q || is_there (drop (i + 1) es) q)) at
    ∙ ap (λ (xs : List Named). list_any (same_key q) ks || is_there xs q) (sym (drop_at es i e lt is))
    ∙ g q

pub nothing_left : {A : Type 0} (xs : List A) (i : ℕ) → length xs ≤ i → drop i xs ≡ []
nothing_left [] zero le = refl
nothing_left [] (suc i) le = refl
nothing_left (x ∷ xs) zero le = absurd (omega arith)
nothing_left (x ∷ xs) (suc i) le = nothing_left xs i (omega arith)

pub all_keys : (ks : List Key) (es : List Named) (i : ℕ) → length es ≤ i
    → ((q : Key) → (list_any (same_key q) ks || is_there (drop i es) q) ≡ is_there es q)
    → (q : Key) → list_any (same_key q) ks ≡ is_there es q
all_keys ks es i le g q =
    sym (none_or (list_any (same_key q) ks))
    ∙ ap (λ (xs : List Named). list_any (same_key q) ks || is_there xs q) (sym (nothing_left es i le))
    ∙ g q
