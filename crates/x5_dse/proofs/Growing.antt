-- A tree of one entry is kept, and so is a tree with one free slot more.
use Rattle.std.proofs.Common.{◌≡◌, ℕ, zero, suc, ◌+◌, ◌<◌, Bool, true, false, inl, inr, List, [], ◌∷◌, ◌++◌, length, get_or, refl, sym, ap, subst, ◌∙◌, arith, Option, Some, None, length-append}
use Rattle.std.specs.Option.{is_some}
use Rattle.x5_model.specs.Members.{In, here}
use Rattle.x5_model.proofs.Lists.{in_first, in_either, in_left, in_right}
use Rattle.x5_dse.specs.declared.node.NodeId.{NodeId}
use Rattle.x5_dse.specs.Slot.{Slot}
use Rattle.x5_dse.specs.Inside.{Slots, top, slot_at, is_used, IsKept}
use Rattle.x5_dse.proofs.Ids.{same_id, same_or_other, used_within}
use Rattle.x5_dse.proofs.Members.{once_push}
use Rattle.x5_dse.proofs.Changing.{row_same}

pub push_none : {A : Type 0} (xs : List (Option A)) (k : ℕ) → get_or (xs ++ None ∷ []) k None ≡ get_or xs k None
push_none [] zero = refl
push_none [] (suc k) = refl
push_none (x ∷ xs) zero = refl
push_none (x ∷ xs) (suc k) = push_none xs k

pub grown_same : (slots : Slots) (m : NodeId) → slot_at (slots ++ None ∷ []) m ≡ slot_at slots m
grown_same slots m = push_none slots m.0

pub grown : (slots : Slots) (order free : List NodeId) (next : NodeId) → next.0 ≡ length slots → IsKept slots order free → IsKept (slots ++ None ∷ []) order (free ++ next ∷ [])
grown slots order free next e kept = record {
  row = row_same slots (slots ++ None ∷ []) (grown_same slots) order kept.row;
  others = λ m. (out m, of m);
  once = once_push next free kept.once (λ i. let l : next.0 < length slots = ((kept.others next).0 i).0 in omega arith);
}
  where
    same : (m : NodeId) → is_used (slots ++ None ∷ []) m ≡ is_used slots m
    same m = ap is_some (grown_same slots m)

    long : length (slots ++ None ∷ []) ≡ length slots + 1
    long = length-append slots (None ∷ [])

    next_unused : is_used slots next ≡ false
    next_unused = by (is_used slots next) refl
      where
        by : (b : Bool) → is_used slots next ≡ b → is_used slots next ≡ false
        by true q = absurd (let l : next.0 < length slots = used_within slots next q in omega arith)
        by false q = q

    out : (m : NodeId) → In m (free ++ next ∷ []) → (m.0 < length (slots ++ None ∷ [])) × (is_used (slots ++ None ∷ []) m ≡ false)
    out m i = elim (in_either m free (next ∷ []) i) [
      | inl j ↦ (let w = (kept.others m).0 j in let l : m.0 < length slots = w.0 in (omega (arith, long), same m ∙ w.1))
      | inr j ↦ elim (in_first m next [] j) [
        | inl p ↦ (let q : m.0 ≡ next.0 = ap (λ (k : NodeId). k.0) p in (omega (arith, long), same m ∙ subst (λ (k : NodeId). is_used slots k ≡ false) (sym p) next_unused))
        | inr k ↦ elim k [ ]
      ]
    ]

    of : (m : NodeId) → (m.0 < length (slots ++ None ∷ [])) × (is_used (slots ++ None ∷ []) m ≡ false) → In m (free ++ next ∷ [])
    of m w = elim (same_or_other m next) [
      | inl p ↦ in_right m free (next ∷ []) (subst (λ (k : NodeId). In m (k ∷ [])) p here)
      | inr h ↦ in_left m free (next ∷ []) ((kept.others m).1 ((let l : m.0 < length (slots ++ None ∷ []) = w.0 in omega (arith, long)), sym (same m) ∙ w.1))
    ]

pub one_kept : (s : Slot) → s.depth ≡ 0 → IsKept (Some s ∷ []) [] []
one_kept s e = record {
  row = record {
    used = λ m. (forth m, back m m.0 refl);
    first = e;
    above = λ m i. elim i [ ];
    in_order = refl;
  };
  others = λ m. ((λ i. elim i [ ]), λ w. absurd (none m m.0 refl w.0 w.1));
  once = tt;
}
  where
    forth : (m : NodeId) → In m (top ∷ []) → is_used (Some s ∷ []) m ≡ true
    forth m i = elim (in_first m top [] i) [
      | inl p ↦ subst (λ (k : NodeId). is_used (Some s ∷ []) k ≡ true) (sym p) refl
      | inr j ↦ elim j [ ]
    ]

    back : (m : NodeId) (n : ℕ) → m.0 ≡ n → is_used (Some s ∷ []) m ≡ true → In m (top ∷ [])
    back m zero p q = subst (λ (k : NodeId). In m (k ∷ [])) (same_id m top p) here
    back m (suc n) p q = absurd (let r : is_used (Some s ∷ []) m ≡ false = ap (λ (k : ℕ). is_some (get_or (Some s ∷ []) k None)) p in cc)

    none : (m : NodeId) (n : ℕ) → m.0 ≡ n → m.0 < 1 → is_used (Some s ∷ []) m ≡ false → ⊥
    none m zero p l q = let r : is_used (Some s ∷ []) m ≡ true = ap (λ (k : ℕ). is_some (get_or (Some s ∷ []) k None)) p in cc
    none m (suc n) p l q = omega arith
