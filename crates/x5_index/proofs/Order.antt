-- The orders of terms and of postings are total, with `≡` as their ties: by the laws of types and normal forms, and of numbers.
use Rattle.std.specs.Prelude.{◌≡◌, ℕ, true, false, nat_lt, List, [], ◌∷◌}
use Rattle.std.specs.Cmp.{IsTotalOrder, tied_itself, Equal-is, nat_cmp_total, on_total, then_total}
use Rattle.std.specs.declared.cmp.Ordering.{Ordering}
use Rattle.std.specs.declared.cmp.Ordering.TheVariants.{Less, Equal, Greater}
use Rattle.std.specs.Ordering.{is_lt, ordering_reverse, ordering_then, nat_cmp}
use Rattle.std.proofs.Common.{◌⊎◌, inl, inr, refl, sym, ap, ◌∙◌, arith}
use Rattle.std.proofs.lemmas.Grind.{common_steps}
use Rattle.std.specs.Cmp.Lexicographic.{slice_cmp}
use Rattle.x5_model.specs.Keys.{KeyPair, pair_cmp}
use Rattle.x5_model.specs.Members.{In}
use Rattle.x5_model.proofs.Lists.{in_first}
use Rattle.x5_model.proofs.KeyLaws.{pair_cmp_total, pair_ties, pair_decides}
use Rattle.x5_index.specs.Index.{Posting, posting_cmp, posting_below, term_below}

pub posting_total : IsTotalOrder posting_cmp
posting_total =
    then_total (on_total (λ (p : Posting). p.term) pair_cmp_total) (on_total (λ (p : Posting). p.node) nat_cmp_total)

pub equal_pairs : (a b : KeyPair) → pair_cmp a b ≡ Equal → a ≡ b
equal_pairs a b e = (pair_decides a b).0 (pair_ties a b ∙ (Equal-is (pair_cmp a b)).1 e)

first_equal : (r s : Ordering) → ordering_then r s ≡ Equal → (r ≡ Equal) × (s ≡ Equal)
first_equal Less s e = cc
first_equal Equal s e = (refl, e)
first_equal Greater s e = cc

equal_numbers : (a b : ℕ) → nat_cmp a b ≡ Equal → a ≡ b
equal_numbers a b e = grind (arith, common_steps)

-- a posting is known by its term and its node
pub one_posting : (t : KeyPair) (node : ℕ) (p : Posting) → p.node ≡ node → In p.term (t ∷ []) → p ≡ record { term = t; node = node }
one_posting t node p n i = elim (in_first p.term t [] i) [ inl e ↦ (λ k. record { term = e k; node = n k }) | inr j ↦ elim j [ ] ]

-- ties are equality
pub equal_postings : (a b : Posting) → posting_cmp a b ≡ Equal → a ≡ b
equal_postings a b e =
    let w = first_equal (pair_cmp a.term b.term) (nat_cmp a.node b.node) e in
    let t : a.term ≡ b.term = equal_pairs a.term b.term w.0 in
    let n : a.node ≡ b.node = equal_numbers a.node b.node w.1 in
    λ i. record { term = t i; node = n i }

pub is_less : (o : Ordering) → is_lt o ≡ true → o ≡ Less
is_less Less e = refl
is_less Equal e = cc
is_less Greater e = cc

-- below is irreflexive and transitive, and each two postings are the same or apart
pub never_below : (a : Posting) → posting_below a a ≡ true → ⊥
never_below a e =
    let h : posting_below a a ≡ false = ap is_lt (tied_itself posting_total a) in
    cc

pub below_chain : (a b c : Posting) → posting_below a b ≡ true → posting_below b c ≡ true → posting_below a c ≡ true
below_chain a b c p q = ap is_lt (posting_total.trans a b c (is_less _ p) (is_less _ q))

pub same_or_apart : (a b : Posting) → (a ≡ b) ⊎ ((posting_below a b ≡ true) ⊎ (posting_below b a ≡ true))
same_or_apart a b = by (posting_cmp a b) refl (posting_cmp b a) refl
  where
    by : (r : Ordering) → posting_cmp a b ≡ r → (s : Ordering) → posting_cmp b a ≡ s → (a ≡ b) ⊎ ((posting_below a b ≡ true) ⊎ (posting_below b a ≡ true))
    by Less e s f = inr (inl (ap is_lt e))
    by Equal e s f = inl (equal_postings a b e)
    by Greater e Less f = inr (inr (ap is_lt f))
    by Greater e Equal f = inl (sym (equal_postings b a f))
    by Greater e Greater f =
        absurd (let h : posting_cmp a b ≡ ordering_reverse (posting_cmp b a) = posting_total.antisymm a b in let k : ordering_reverse (posting_cmp b a) ≡ Less = ap ordering_reverse f in cc)

-- ---- terms

pub term_chain : (a b c : KeyPair) → term_below a b ≡ true → term_below b c ≡ true → term_below a c ≡ true
term_chain a b c p q = ap is_lt (pair_cmp_total.trans a b c (is_less (pair_cmp a b) p) (is_less (pair_cmp b c) q))

pub term_never : (a : KeyPair) → term_below a a ≡ true → ⊥
term_never a e =
    let h : term_below a a ≡ false = ap is_lt (tied_itself pair_cmp_total a) in
    cc

-- of one type by their normal forms, and else by their types
pub below_by_normal : (kind : ℕ) (a b : List ℕ) → is_lt (slice_cmp nat_cmp a b) ≡ true → term_below (kind, a) (kind, b) ≡ true
below_by_normal kind a b e = ap (λ (o : Ordering). is_lt (ordering_then o (slice_cmp nat_cmp a b))) (tied_itself nat_cmp_total kind) ∙ e

less_numbers : (a b : ℕ) → nat_lt a b ≡ true → nat_cmp a b ≡ Less
less_numbers a b e = grind (arith, common_steps)

pub below_by_kind : (a b : KeyPair) → nat_lt a.0 b.0 ≡ true → term_below a b ≡ true
below_by_kind a b e = ap (λ (o : Ordering). is_lt (ordering_then o (slice_cmp nat_cmp a.1 b.1))) (less_numbers a.0 b.0 e)
