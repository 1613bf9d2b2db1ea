-- The terms of an entry are its values, in their order; and so what is put for them stands for the entry.
use Rattle.std.specs.Prelude.{nat_lt}
use Rattle.std.proofs.Common.{◌≡◌, ◌≢◌, ◌↔◌, ◌⊎◌, ℕ, Bool, true, false, cond, not, ◌&&◌, ◌==◌, inl, inr, List, [], ◌∷◌, ◌++◌, map, refl, sym, ap, subst, arith, Some}
use Rattle.std.proofs.lemmas.Grind.{common_steps}
use Rattle.std.specs.List.{list_all, flat_map, find}
use Rattle.std.specs.Cmp.Lexicographic.{bytes_decides, nat_list_cmp_total}
use Rattle.std.specs.Ordering.{is_lt}
use Rattle.x5_model.specs.Words.{ascending, in_option, is_empty, same_octets, octets_below}
use Rattle.x5_model.specs.Members.{In, Once, here, there}
use Rattle.x5_model.specs.Keys.{KeyPair}
use Rattle.x5_model.specs.Values.{StoredValue}
use Rattle.x5_model.specs.Entries.{Stored, Entry}
use Rattle.x5_model.specs.Attributes.{value_below, kind_below, is_ordered, values_at, has_value}
use Rattle.x5_model.proofs.Lists.{both_true, true_or_false, in_left, in_right, in_either, in_map, of_map, of_flat, any_in, of_any, none_of}
use Rattle.x5_model.proofs.Ascending.{rest_ascending, first_below, cons_ascending}
use Rattle.x5_index.specs.Index.{Posting, term_below, terms_in, terms_of, is_there, IsEntryAt, IsPut, IsDropped}
use Rattle.x5_index.specs.Places.{AreAdded, AreTaken}
use Rattle.x5_index.proofs.Order.{is_less, term_chain, term_never, below_by_normal, below_by_kind}

number_is : (a b : ℕ) → (a == b) ≡ true → a ≡ b
number_is a b e = grind (arith, common_steps)

is_number : (a b : ℕ) → a ≡ b → (a == b) ≡ true
is_number a b e = grind (arith, common_steps)

octets_chain : (a b c : List ℕ) → octets_below a b ≡ true → octets_below b c ≡ true → octets_below a c ≡ true
octets_chain a b c p q = ap is_lt (nat_list_cmp_total.trans a b c (is_less _ p) (is_less _ q))

-- ---- the terms of an entry are its values

-- the values of a type, among attributes
abbrev values_in : List Stored → ℕ → List StoredValue
values_in xs kind = values_at (record { attributes = xs }) kind

in_terms : (xs : List Stored) (kind : ℕ) (v : StoredValue) → In v (values_in xs kind) → In (kind, v.normal) (flat_map terms_in xs)
in_terms [] kind v i = elim i [ ]
in_terms (a ∷ xs) kind v i = by (a.kind == kind) refl (in_terms xs kind v) i
  where
    by : (b : Bool) → (a.kind == kind) ≡ b → (In v (values_in xs kind) → In (kind, v.normal) (flat_map terms_in xs)) → In v (in_option [] (λ s. s.values) (cond b (Some a) (find (λ s. s.kind == kind) xs))) → In (kind, v.normal) (flat_map terms_in (a ∷ xs))
    by true e f j =
        subst (λ (k : ℕ). In (k, v.normal) (flat_map terms_in (a ∷ xs))) (number_is a.kind kind e)
        (in_left (a.kind, v.normal) (terms_in a) (flat_map terms_in xs) (in_map (λ (w : StoredValue). (a.kind, w.normal)) v a.values j))
    by false e f j = in_right (kind, v.normal) (terms_in a) (flat_map terms_in xs) (f j)

pub value_is_term : (e : Entry) (kind : ℕ) (normal : List ℕ) → has_value e kind normal ≡ true → In (kind, normal) (terms_of e)
value_is_term e kind normal h =
    let w = of_any (λ v. same_octets v.normal normal) (values_at e kind) h in
    subst (λ (n : List ℕ). In (kind, n) (terms_of e)) ((bytes_decides w.0.normal normal).0 w.2) (in_terms e.attributes kind w.0 w.1)

-- an attribute's terms are of its type
kind_of_term : (t : KeyPair) (a : Stored) → In t (terms_in a) → t.0 ≡ a.kind
kind_of_term t a i = let w = of_map (λ (v : StoredValue). (a.kind, v.normal)) t a.values i in ap (λ (s : KeyPair). s.0) w.2

below_chain : (a b c : Stored) → kind_below a b ≡ true → kind_below b c ≡ true → kind_below a c ≡ true
below_chain a b c p q = grind (arith, common_steps)

-- a later attribute is of a later type
later_kind : (t : KeyPair) (a : Stored) (xs : List Stored) → ascending kind_below (a ∷ xs) ≡ true → In t (flat_map terms_in xs) → nat_lt a.kind t.0 ≡ true
later_kind t a xs h i =
    let w = of_flat terms_in t xs i in
    subst (λ (k : ℕ). nat_lt a.kind k ≡ true) (sym (kind_of_term t w.0 w.2)) (first_below kind_below below_chain a w.0 xs h w.1)

other_kind : (t : KeyPair) (a : Stored) (xs : List Stored) → ascending kind_below (a ∷ xs) ≡ true → In t (flat_map terms_in xs) → a.kind ≢ t.0
other_kind t a xs h i e = let l : nat_lt a.kind t.0 ≡ true = later_kind t a xs h i in grind (arith, common_steps)

of_terms : (xs : List Stored) (kind : ℕ) (normal : List ℕ) → ascending kind_below xs ≡ true → In (kind, normal) (flat_map terms_in xs) → (v : StoredValue) × In v (values_in xs kind) × (v.normal ≡ normal)
of_terms [] kind normal h i = elim i [ ]
of_terms (a ∷ xs) kind normal h i = by (a.kind == kind) refl (of_terms xs kind normal (rest_ascending kind_below below_chain a xs h))
  where
    by : (b : Bool) → (a.kind == kind) ≡ b → (In (kind, normal) (flat_map terms_in xs) → (v : StoredValue) × In v (values_in xs kind) × (v.normal ≡ normal))
        → (v : StoredValue) × In v (in_option [] (λ s. s.values) (cond b (Some a) (find (λ s. s.kind == kind) xs))) × (v.normal ≡ normal)
    by true e f =
        elim (in_either (kind, normal) (terms_in a) (flat_map terms_in xs) i) [
          | inl j ↦ (let w = of_map (λ (v : StoredValue). (a.kind, v.normal)) (kind, normal) a.values j in (w.0, w.1, ap (λ (s : KeyPair). s.1) (sym w.2)))
          | inr j ↦ absurd (other_kind (kind, normal) a xs h j (number_is a.kind kind e))
        ]
    by false e f =
        elim (in_either (kind, normal) (terms_in a) (flat_map terms_in xs) i) [
          | inl j ↦ absurd (let k : (a.kind == kind) ≡ true = is_number a.kind kind (sym (kind_of_term (kind, normal) a j)) in cc)
          | inr j ↦ f j
        ]

kinds_ascend : (e : Entry) → is_ordered e ≡ true → ascending kind_below e.attributes ≡ true
kinds_ascend e h = (both_true (ascending kind_below e.attributes) (list_all (λ a. not (is_empty a.values) && ascending value_below a.values) e.attributes) h).0

pub term_is_value : (e : Entry) (kind : ℕ) (normal : List ℕ) → is_ordered e ≡ true → In (kind, normal) (terms_of e) → has_value e kind normal ≡ true
term_is_value e kind normal h i =
    let w = of_terms e.attributes kind normal (kinds_ascend e h) i in
    any_in (λ v. same_octets v.normal normal) w.0 (values_at e kind) w.1 ((bytes_decides w.0.normal normal).1 w.2)

-- ---- they stand in their order, and so each once

value_chain : (a b c : StoredValue) → value_below a b ≡ true → value_below b c ≡ true → value_below a c ≡ true
value_chain a b c p q = octets_chain a.normal b.normal c.normal p q

values_ascend : (kind : ℕ) (vs : List StoredValue) → ascending value_below vs ≡ true → ascending {X = KeyPair} term_below (map (λ v. (kind, v.normal)) vs) ≡ true
values_ascend kind [] h = refl
values_ascend kind (v ∷ vs) h =
    cons_ascending term_below term_chain (kind, v.normal) (map (λ (w : StoredValue). (kind, w.normal)) vs) later (values_ascend kind vs (rest_ascending value_below value_chain v vs h))
  where
    later : (t : KeyPair) → In t (map (λ (w : StoredValue). (kind, w.normal)) vs) → term_below (kind, v.normal) t ≡ true
    later t i =
        let w = of_map (λ (w : StoredValue). (kind, w.normal)) t vs i in
        subst (λ (s : KeyPair). term_below (kind, v.normal) s ≡ true) (sym w.2) (below_by_normal kind v.normal w.0.normal (first_below value_below value_chain v w.0 vs h w.1))

both_ascend : (xs ys : List KeyPair) → ascending term_below xs ≡ true → ascending term_below ys ≡ true → ((s t : KeyPair) → In s xs → In t ys → term_below s t ≡ true)
    → ascending term_below (xs ++ ys) ≡ true
both_ascend [] ys a b f = b
both_ascend (x ∷ xs) ys a b f =
    cons_ascending term_below term_chain x (xs ++ ys) (λ t i. elim (in_either t xs ys i) [ inl j ↦ first_below term_below term_chain x t xs a j | inr j ↦ f x t here j ])
    (both_ascend xs ys (rest_ascending term_below term_chain x xs a) b (λ s t i j. f s t (there i) j))

all_ascend : (xs : List Stored) → ascending kind_below xs ≡ true → list_all (λ a. not (is_empty a.values) && ascending value_below a.values) xs ≡ true → ascending term_below (flat_map terms_in xs) ≡ true
all_ascend [] h g = refl
all_ascend (a ∷ xs) h g =
    let w = both_true (not (is_empty a.values) && ascending value_below a.values) (list_all (λ a. not (is_empty a.values) && ascending value_below a.values) xs) g in
    let v = both_true (not (is_empty a.values)) (ascending value_below a.values) w.0 in
    both_ascend (terms_in a) (flat_map terms_in xs) (values_ascend a.kind a.values v.1) (all_ascend xs (rest_ascending kind_below below_chain a xs h) w.1)
    (λ s t i j. below_by_kind s t (subst (λ (k : ℕ). nat_lt k t.0 ≡ true) (sym (kind_of_term s a i)) (later_kind t a xs h j)))

pub terms_ascend : (e : Entry) → is_ordered e ≡ true → ascending term_below (terms_of e) ≡ true
terms_ascend e h =
    let w = both_true (ascending kind_below e.attributes) (list_all (λ a. not (is_empty a.values) && ascending value_below a.values) e.attributes) h in
    all_ascend e.attributes w.0 w.1

pub once_in_order : (ts : List KeyPair) → ascending term_below ts ≡ true → Once ts
once_in_order [] h = tt
once_in_order (t ∷ ts) h =
    ((λ i. term_never t (first_below term_below term_chain t t ts h i)), once_in_order ts (rest_ascending term_below term_chain t ts h))

-- ---- what is put or taken away for them

pub not_there : (old : List Posting) (node : ℕ) (p : Posting) → is_there old node ≡ false → p.node ≡ node → In p old → ⊥
not_there old node p h e i =
    let f : (p.node == node) ≡ false = none_of (λ q. q.node == node) p old h i in
    let g : (p.node == node) ≡ true = is_number p.node node e in
    cc

pub is_put_by : (old after : List Posting) (node : ℕ) (e : Entry) → is_there old node ≡ false → is_ordered e ≡ true
    → ((p : Posting) → In p after ↔ (In p old ⊎ ((p.node ≡ node) × In p.term (terms_of e)))) → IsPut old node e after
is_put_by old after node e none h same = record {
  here = record { exact = λ kind normal. (forth kind normal, back kind normal) };
  others = record { same = λ p n. (from p n, λ i. (same p).1 (inl i)) };
}
  where
    forth : (kind : ℕ) (normal : List ℕ) → In (record { term = (kind, normal); node = node }) after → has_value e kind normal ≡ true
    forth kind normal i =
        elim ((same (record { term = (kind, normal); node = node })).0 i) [
          | inl j ↦ absurd (not_there old node (record { term = (kind, normal); node = node }) none refl j)
          | inr w ↦ term_is_value e kind normal h w.1
        ]

    back : (kind : ℕ) (normal : List ℕ) → has_value e kind normal ≡ true → In (record { term = (kind, normal); node = node }) after
    back kind normal v = (same (record { term = (kind, normal); node = node })).1 (inr (refl, value_is_term e kind normal v))

    from : (p : Posting) → p.node ≢ node → In p after → In p old
    from p n i = elim ((same p).0 i) [ inl j ↦ j | inr w ↦ absurd (n w.0) ]

pub is_put : (old after : List Posting) (node : ℕ) (e : Entry) → is_there old node ≡ false → is_ordered e ≡ true → AreAdded old node (terms_of e) after → IsPut old node e after
is_put old after node e none h added = is_put_by old after node e none h added.same

pub is_dropped : (old after : List Posting) (node : ℕ) (e : Entry) → IsEntryAt old node e → AreTaken old node (terms_of e) [] after → IsDropped old node after
is_dropped old after node e at taken = record {
  gone = elim (true_or_false (is_there after node)) [ inl h ↦ absurd (left (of_any (λ p. p.node == node) after h)) | inr h ↦ h ];
  others = record { same = λ p n. ((λ i. ((taken.same p).0 i).0), λ i. (taken.same p).1 (i, λ w. n w.0)) };
}
  where
    left : (p : Posting) × In p after × ((p.node == node) ≡ true) → ⊥
    left w =
        let n : w.0.node ≡ node = number_is w.0.node node w.2 in
        let v = (taken.same w.0).0 w.1 in
        let i : In (record { term = (w.0.term.0, w.0.term.1); node = node }) old = subst (λ (k : ℕ). In (record { term = (w.0.term.0, w.0.term.1); node = k }) old) n v.0 in
        v.1 (n, value_is_term e w.0.term.0 w.0.term.1 ((at.exact w.0.term.0 w.0.term.1).0 i), λ k. elim k [ ])

-- what one entry has and another lacks is taken away, and what the other has is put
pub is_changed : (old mid after : List Posting) (node : ℕ) (b e : Entry) → IsEntryAt old node b → is_ordered e ≡ true → AreTaken old node (terms_of b) (terms_of e) mid → AreAdded mid node (terms_of e) after
    → IsPut old node e after
is_changed old mid after node b e at h taken added = record {
  here = record { exact = λ kind normal. (forth kind normal, back kind normal) };
  others = record { same = λ p n. (from p n, λ i. (added.same p).1 (inl ((taken.same p).1 (i, λ w. n w.0)))) };
}
  where
    lacked : (kind : ℕ) (normal : List ℕ) → has_value e kind normal ≡ false → In (kind, normal) (terms_of e) → ⊥
    lacked kind normal f i = let t = term_is_value e kind normal h i in cc

    forth : (kind : ℕ) (normal : List ℕ) → In (record { term = (kind, normal); node = node }) after → has_value e kind normal ≡ true
    forth kind normal i =
        elim ((added.same (record { term = (kind, normal); node = node })).0 i) [
          | inl j ↦ (let v = (taken.same (record { term = (kind, normal); node = node })).0 j in elim (true_or_false (has_value e kind normal)) [
            | inl y ↦ y
            | inr f ↦ absurd (v.1 (refl, value_is_term b kind normal ((at.exact kind normal).0 v.0), lacked kind normal f))
          ])
          | inr w ↦ term_is_value e kind normal h w.1
        ]

    back : (kind : ℕ) (normal : List ℕ) → has_value e kind normal ≡ true → In (record { term = (kind, normal); node = node }) after
    back kind normal v = (added.same (record { term = (kind, normal); node = node })).1 (inr (refl, value_is_term e kind normal v))

    from : (p : Posting) → p.node ≢ node → In p after → In p old
    from p n i = elim ((added.same p).0 i) [ inl j ↦ ((taken.same p).0 j).0 | inr w ↦ absurd (n w.0) ]
