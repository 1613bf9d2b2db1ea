-- Names as text: full lists, insertion, and texts pair by pair.
use Rattle.std.proofs.Common.{◌≡◌, ℕ, ◌+◌, ◌<◌, ◌≤◌, Bool, true, false, ◌&&◌, ◌==◌, if◌then◌else◌, nat_lt, nat_le, List, [], ◌∷◌, ◌++◌, map, flat_map, length, insert, Result, Ok, Err, refl, sym, ◌∙◌, ap, ap₂, append-nil, inl, inr, arith, rules}
use Rattle.std.proofs.Math.Numerals.{one-add}
use Rattle.std.proofs.lemmas.Bool.{eqb-true}
use Rattle.x5_syntax.proofs.EscapeLemmas.{cases_bool}
use Rattle.std.proofs.lemmas.Bool.{le-leb, and_parts, ltb-true}
use Rattle.std.specs.List.{list_all, position_or_len, join_with_byte}
use Rattle.x5_model.specs.Values.{Text, NameValue}
use Rattle.x5_model_text.specs.NameText as text_of
use Rattle.x5_model_text.specs.NameText.{NameFault, BadSpelling, TooManyPairs, TooManyRdns, behind_slash}
use Rattle.x5_syntax.specs.Dotted.{plus_and_pair}

pub pairs_at_full : (limited : Bool) (at : ℕ) (before : List (ℕ × Text)) (t : Text) (ts : List Text) → limited ≡ true → 4 ≤ length before → text_of.pairs_at limited at before (t ∷ ts) ≡ Err TooManyPairs
pairs_at_full limited at before t ts h full = let test : (limited && nat_le 4 (length before)) ≡ true = ap₂ ◌&&◌ h (le-leb 4 (length before) full) in rw test refl

pub rdns_at_full : (limited : Bool) (at : ℕ) (before : NameValue) (t : Text) (ts : List Text) → limited ≡ true → 16 ≤ length before → text_of.rdns_at limited at before (t ∷ ts) ≡ Err TooManyRdns
rdns_at_full limited at before t ts h full = let test : (limited && nat_le 16 (length before)) ≡ true = ap₂ ◌&&◌ h (le-leb 16 (length before) full) in rw test refl

insert_at : (p : ℕ × Text) (q : ℕ × Text) (r : List (ℕ × Text)) (t : Bool) → nat_lt p.0 q.0 ≡ t → text_of.inserted p r ≡ insert r (position_or_len (λ x. nat_lt p.0 x.0) r) p → text_of.inserted p (q ∷ r) ≡ insert (q ∷ r) (position_or_len (λ x. nat_lt p.0 x.0) (q ∷ r)) p
insert_at p q r true h rest = rw h refl
insert_at p q r false h rest = rw (h, one-add) (ap (λ l. q ∷ l) rest)

pub inserted_is : (p : ℕ × Text) (r : List (ℕ × Text)) → text_of.inserted p r ≡ insert r (position_or_len (λ q. nat_lt p.0 q.0) r) p
inserted_is p [] = refl
inserted_is p (q ∷ r) = insert_at p q r (nat_lt p.0 q.0) refl (inserted_is p r)

pub join-cons : (c : ℕ) (t : Text) (ts : List Text) → join_with_byte c (t ∷ ts) ≡ t ++ flat_map (λ u. c ∷ u) ts
join-cons c t [] = sym (append-nil t)
join-cons c t (u ∷ ts) = ap (λ x. t ++ c ∷ x) (join-cons c u ts)

flat_map-map : (f : ℕ × Text → Text) (r : List (ℕ × Text)) → flat_map (λ u. 43 ∷ u) (map f r) ≡ flat_map (λ p. 43 ∷ f p) r
flat_map-map f [] = refl
flat_map-map f (p ∷ r) = ap (λ x. 43 ∷ (f p ++ x)) (flat_map-map f r)

pub text_of_pairs-cons : (p : ℕ × Text) (r : List (ℕ × Text)) → text_of.text_of_pairs (p ∷ r) ≡ text_of.text_of_pair p ++ flat_map plus_and_pair r
text_of_pairs-cons p r = join-cons 43 (text_of.text_of_pair p) (map text_of.text_of_pair r) ∙ ap (λ x. text_of.text_of_pair p ++ x) (flat_map-map text_of.text_of_pair r)

pub not_slash : (limited : Bool) (t : Text) → ((rest : Text) → t ≡ 47 ∷ rest → ⊥) → text_of.written_name limited t ≡ Err (BadSpelling 0)
not_slash limited [] h = refl
not_slash limited (b ∷ t) h = elim (cases_bool (b == 47)) [
  | inl same ↦ absurd (h t (ap (λ x. x ∷ t) (eqb-true b 47 same)))
  | inr other ↦ ap (λ x. if x then behind_slash limited t else Err (BadSpelling 0)) other
]

-- ---- pairs that need no sorting

pub single_sorted : (r : List (ℕ × Text)) → length r < 2 → text_of.sorted r ≡ r
single_sorted [] h = refl
single_sorted (p ∷ []) h = refl
single_sorted (p ∷ q ∷ r) h = absurd (omega arith)

pub singles_sorted : (n : NameValue) → list_all (λ r. nat_lt (length r) 2) n ≡ true → map text_of.sorted n ≡ n
singles_sorted [] h = refl
singles_sorted (r ∷ n) h =
    let parts = and_parts (nat_lt (length r) 2) (list_all (λ r. nat_lt (length r) 2) n) h in
    ap₂ ◌∷◌ (single_sorted r (ltb-true (length r) 2 parts.0)) (singles_sorted n parts.1)
