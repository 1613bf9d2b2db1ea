-- What one more posting, and one for each of some terms, makes of the postings of a list in order.
use Rattle.std.proofs.Common.{◌≡◌, ℕ, suc, ◌≤◌, Bool, true, false, cond, ◌⊎◌, inl, inr, List, [], ◌∷◌, ◌++◌, length, take, drop, refl, sym, ap, subst, arith, ◌==◌}
use Rattle.std.proofs.lemmas.Grind.{common_steps}
use Rattle.x5_model.specs.Words.{ascending, insert_sorted}
use Rattle.x5_model.specs.Members.{In, Once, here}
use Rattle.x5_model.specs.Keys.{KeyPair}
use Rattle.x5_model.proofs.Lists.{in_first, in_left, in_right, in_either, none_of}
use Rattle.x5_model.proofs.Ascending.{of_insert, new_in_insert, old_in_insert, insert_ascending}
use Rattle.x5_index.specs.Index.{Posting, posting_below, is_there}
use Rattle.x5_index.specs.Places.{place_of, AreAdded}
use Rattle.x5_index.proofs.Order.{same_or_apart, below_chain, one_posting}

-- ---- one posting at its place

pub place_bound : (ps : List Posting) (x : Posting) → place_of ps x ≤ length ps
place_bound [] x = omega arith
place_bound (p ∷ ps) x = by (posting_below p x) (place_bound ps x)
  where
    by : (b : Bool) → place_of ps x ≤ length ps → cond b (suc (place_of ps x)) 0 ≤ length (p ∷ ps)
    by true l = omega (arith, l)
    by false l = omega arith

pub insert_at : (ps : List Posting) (x : Posting) → take (place_of ps x) ps ++ x ∷ drop (place_of ps x) ps ≡ insert_sorted posting_below x ps
insert_at [] x = refl
insert_at (p ∷ ps) x = by (posting_below p x) (insert_at ps x)
  where
    by : (b : Bool) → take (place_of ps x) ps ++ x ∷ drop (place_of ps x) ps ≡ insert_sorted posting_below x ps
        → take (cond b (suc (place_of ps x)) 0) (p ∷ ps) ++ x ∷ drop (cond b (suc (place_of ps x)) 0) (p ∷ ps) ≡ cond b (p ∷ insert_sorted posting_below x ps) (x ∷ p ∷ ps)
    by true e = ap (λ (qs : List Posting). p ∷ qs) e
    by false e = refl

-- ---- a posting for each term

pub added_none : (node : ℕ) (ps : List Posting) → ascending posting_below ps ≡ true → AreAdded ps node [] ps
added_none node ps h = record {
  in_order = h;
  same = λ p. ((λ i. inl i), (λ w. elim w [ inl i ↦ i | inr k ↦ elim k.1 [ ] ]));
}

module _ (old : List Posting) (node : ℕ) where
  -- a term that isn't among those before has no posting yet
  pub absent_more : (ts us : List KeyPair) (t : KeyPair) (ps : List Posting) → is_there old node ≡ false → Once (ts ++ t ∷ us) → AreAdded old node ts ps → In (record { term = t; node = node }) ps → ⊥
  absent_more ts us t ps none once added i =
      elim ((added.same (record { term = t; node = node })).0 i) [
        | inl j ↦ (let e : (node == node) ≡ false = none_of (λ p. p.node == node) (record { term = t; node = node }) old none j in grind (arith, common_steps, e))
        | inr w ↦ twice ts once w.1
      ]
    where
      twice : (ts : List KeyPair) → Once (ts ++ t ∷ us) → In t ts → ⊥
      twice [] h j = elim j [ ]
      twice (s ∷ ss) h j =
          elim (in_first t s ss j) [
            | inl e ↦ h.0 (subst (λ (r : KeyPair). In r (ss ++ t ∷ us)) e (in_right t ss (t ∷ us) here))
            | inr k ↦ twice ss h.1 k
          ]

-- one of a term that the node lacks, and none where it has it
module _ (node : ℕ) (t : KeyPair) (ps : List Posting) where
  pub added_one : (In (record { term = t; node = node }) ps → ⊥) → ascending posting_below ps ≡ true → AreAdded ps node (t ∷ []) (insert_sorted posting_below (record { term = t; node = node }) ps)
  added_one absent h = record {
    in_order = insert_ascending posting_below below_chain x ps apart h;
    same = λ p. (forth p, back p);
  }
    where
      x : Posting
      x = record { term = t; node = node }

      apart : (z : Posting) → In z ps → (posting_below x z ≡ true) ⊎ (posting_below z x ≡ true)
      apart z i = elim (same_or_apart x z) [ inl e ↦ absurd (absent (subst (λ (y : Posting). In y ps) (sym e) i)) | inr w ↦ w ]

      forth : (p : Posting) → In p (insert_sorted posting_below x ps) → In p ps ⊎ ((p.node ≡ node) × In p.term (t ∷ []))
      forth p i =
          elim (of_insert posting_below p x ps i) [
            | inl e ↦ inr (ap (λ (y : Posting). y.node) e, subst (λ (r : KeyPair). In r (t ∷ [])) (ap (λ (y : Posting). y.term) (sym e)) here)
            | inr j ↦ inl j
          ]

      back : (p : Posting) → In p ps ⊎ ((p.node ≡ node) × In p.term (t ∷ [])) → In p (insert_sorted posting_below x ps)
      back p w =
          elim w [
            | inl i ↦ old_in_insert posting_below p x ps i
            | inr v ↦ subst (λ (y : Posting). In y (insert_sorted posting_below x ps)) (sym (one_posting t node p v.0 v.1)) (new_in_insert posting_below x ps)
          ]

  pub added_there : In (record { term = t; node = node }) ps → ascending posting_below ps ≡ true → AreAdded ps node (t ∷ []) ps
  added_there i h = record {
    in_order = h;
    same = λ p. ((λ j. inl j), λ w. elim w [ inl j ↦ j | inr v ↦ subst (λ (y : Posting). In y ps) (sym (one_posting t node p v.0 v.1)) i ]);
  }

-- some terms and then more
pub added_more : (node : ℕ) (old mid after : List Posting) (ts us : List KeyPair) → AreAdded old node ts mid → AreAdded mid node us after → AreAdded old node (ts ++ us) after
added_more node old mid after ts us a b = record {
  in_order = b.in_order;
  same = λ p. (forth p, back p);
}
  where
    forth : (p : Posting) → In p after → In p old ⊎ ((p.node ≡ node) × In p.term (ts ++ us))
    forth p i =
        elim ((b.same p).0 i) [
          | inl j ↦ elim ((a.same p).0 j) [ inl k ↦ inl k | inr w ↦ inr (w.0, in_left p.term ts us w.1) ]
          | inr w ↦ inr (w.0, in_right p.term ts us w.1)
        ]

    back : (p : Posting) → In p old ⊎ ((p.node ≡ node) × In p.term (ts ++ us)) → In p after
    back p w =
        elim w [
          | inl i ↦ (b.same p).1 (inl ((a.same p).1 (inl i)))
          | inr v ↦ elim (in_either p.term ts us v.1) [
            | inl j ↦ (b.same p).1 (inl ((a.same p).1 (inr (v.0, j))))
            | inr j ↦ (b.same p).1 (inr (v.0, j))
          ]
        ]
