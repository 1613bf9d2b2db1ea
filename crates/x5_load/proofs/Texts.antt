-- Texts, and pairs of texts, by the code's lists.
use Rattle.std.proofs.Common.{◌≡◌, ◌||◌, ◌&&◌, ◌<◌, ℕ, List, [], ◌∷◌, ◌++◌, map, length, take, get_or, refl, sym, ap, ◌∙◌, ◌+◌, arith, Bor, None, Bool, false, if◌then◌else◌}
use Rattle.std.proofs.lemmas.List.{take_more}
use Rattle.std.specs.List.{list_any}
use Rattle.indexmap.specs.IndexSet.{insert_key}
use Rattle.x5_model.specs.Words.{same_octets}
use Rattle.serde_json.specs.Find.{as_str}
use Rattle.serde_json.specs.View.{view, items_view}
use Rattle.serde_json.specs.declared.value.Value.{Value}
use Rattle.x5_model_world.specs.NetworkText.{has_text, same_texts, two_texts, pair_of}
use Rattle.x5_load.specs.TextPairs.{texts_of}

pub text_there : (t : List ℕ) (ts : List (Bor (List ℕ)))
    → has_text (map (λ u. u.now) ts) t ≡ list_any (λ u. same_octets t u.now) ts
text_there t [] = refl
text_there t (u ∷ ts) = ap (λ b. same_octets t u.now || b) (text_there t ts)

pub text_more : (ts : List (Bor (List ℕ))) (t : Bor (List ℕ))
    → map (λ u. u.now) (ts ++ t ∷ []) ≡ map (λ u. u.now) ts ++ t.now ∷ []
text_more [] t = refl
text_more (u ∷ ts) t = ap (λ l. u.now ∷ l) (text_more ts t)

-- a new text stands behind the others
pub text_added : (ts : List (Bor (List ℕ))) (t : Bor (List ℕ)) → has_text (map (λ u. u.now) ts) t.now ≡ false
    → map (λ u. u.now) (insert_key (λ (a b : Bor (List ℕ)). same_octets a.now b.now) ts t)
    ≡ map (λ u. u.now) ts ++ t.now ∷ []
text_added ts t new =
    ap (λ (b : Bool). map (λ (u : Bor (List ℕ)). u.now) (if b then ts else ts ++ t ∷ [])) (sym (text_there t.now ts) ∙ new)
    ∙ text_more ts t

pub pair_there : (a b : List ℕ) (ps : List (Bor (List ℕ) × Bor (List ℕ)))
    → list_any (same_texts (a, b)) (map texts_of ps)
    ≡ list_any (λ p. same_octets a p.0.now && same_octets b p.1.now) ps
pair_there a b [] = refl
pair_there a b (p ∷ ps) = ap (λ c. (same_octets a p.0.now && same_octets b p.1.now) || c) (pair_there a b ps)

pub pair_more : (ps : List (Bor (List ℕ) × Bor (List ℕ))) (p : Bor (List ℕ) × Bor (List ℕ))
    → map texts_of (ps ++ p ∷ []) ≡ map texts_of ps ++ texts_of p ∷ []
pair_more [] p = refl
pair_more (q ∷ ps) p = ap (λ l. texts_of q ∷ l) (pair_more ps p)

-- a new pair stands behind the others
pub pair_added : (ps : List (Bor (List ℕ) × Bor (List ℕ))) (p : Bor (List ℕ) × Bor (List ℕ))
    → list_any (same_texts (texts_of p)) (map texts_of ps) ≡ false
    → map texts_of (insert_key (λ (a b : Bor (List ℕ) × Bor (List ℕ)). same_octets a.0.now b.0.now && same_octets a.1.now b.1.now) ps p)
    ≡ map texts_of ps ++ texts_of p ∷ []
pair_added ps p new =
    ap (λ (b : Bool). map texts_of (if b then ps else ps ++ p ∷ [])) (sym (pair_there p.0.now p.1.now ps) ∙ new)
    ∙ pair_more ps p

-- a list of two is the pair of their texts, and one of fewer or more is none
pub pair_is : (vs : List Value) (a b : Value) → length vs ≡ 2 → a ≡ get_or vs 0 a → b ≡ get_or vs 1 b
    → pair_of (items_view vs) ≡ two_texts (as_str (view a)) (as_str (view b))
pair_is [] a b l e f = absurd (omega arith)
pair_is (v ∷ []) a b l e f = absurd (omega arith)
pair_is (v ∷ w ∷ []) a b l e f =
    ap (λ (x : Value). two_texts (as_str (view x)) (as_str (view w))) (sym e)
    ∙ ap (λ (y : Value). two_texts (as_str (view a)) (as_str (view y))) (sym f)
pair_is (v ∷ w ∷ x ∷ vs) a b l e f = absurd (omega arith)

pub no_pair : (vs : List Value) → (length vs ≡ 2 → ⊥) → pair_of (items_view vs) ≡ None
no_pair [] h = refl
no_pair (v ∷ []) h = refl
no_pair (v ∷ w ∷ []) h = absurd (h refl)
no_pair (v ∷ w ∷ x ∷ vs) h = refl

push_map : {A B : Type 0} (f : A → B) (xs : List A) (x : A) → map f (xs ++ x ∷ []) ≡ map f xs ++ f x ∷ []
push_map f [] x = refl
push_map f (y ∷ xs) x = ap (λ l. f y ∷ l) (push_map f xs x)

-- what is made of the texts so far, with that of one text more
pub text_step : (f : List ℕ → ℕ) (ts : List (Bor (List ℕ))) (i : ℕ) (d : Bor (List ℕ)) → i < length ts
    → map f (map (λ t. t.now) (take (i + 1) ts)) ≡ map f (map (λ t. t.now) (take i ts)) ++ f (get_or ts i d).now ∷ []
text_step f ts i d lt =
    ap (λ (l : List (Bor (List ℕ))). map f (map (λ t. t.now) l)) (take_more ts i d lt)
    ∙ ap (map f) (text_more (take i ts) (get_or ts i d))
    ∙ push_map f (map (λ t. t.now) (take i ts)) (get_or ts i d).now

pub pair_step : (f : (List ℕ × List ℕ) → ℕ × ℕ) (ps : List (Bor (List ℕ) × Bor (List ℕ))) (i : ℕ)
    (d : Bor (List ℕ) × Bor (List ℕ))
    → i < length ps
    → map f (map texts_of (take (i + 1) ps)) ≡ map f (map texts_of (take i ps)) ++ f (texts_of (get_or ps i d)) ∷ []
pair_step f ps i d lt =
    ap (λ (l : List (Bor (List ℕ) × Bor (List ℕ))). map f (map texts_of l)) (take_more ps i d lt)
    ∙ ap (map f) (pair_more (take i ps) (get_or ps i d))
    ∙ push_map f (map texts_of (take i ps)) (texts_of (get_or ps i d))
