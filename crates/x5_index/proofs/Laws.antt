-- What is put or dropped leaves every other node as it was: absent, or there with its entry.
use Rattle.std.proofs.Common.{◌≡◌, ◌≢◌, ℕ, true, false, ◌==◌, inl, inr, List, sym, subst, arith}
use Rattle.std.proofs.lemmas.Grind.{common_steps}
use Rattle.x5_model.specs.Members.{In}
use Rattle.x5_model.specs.Entries.{Entry}
use Rattle.x5_model.proofs.Lists.{true_or_false, any_in, of_any}
use Rattle.x5_index.specs.Index.{Posting, is_there, IsEntryAt, OthersStay}

number_is : (a b : ℕ) → (a == b) ≡ true → a ≡ b
number_is a b e = grind (arith, common_steps)

module _ (old after : List Posting) (n m : ℕ) (stay : OthersStay old n after) (other : m ≢ n) where
  pub absent_elsewhere : is_there old m ≡ false → is_there after m ≡ false
  absent_elsewhere h = elim (true_or_false (is_there after m)) [ inl e ↦ absurd (none (of_any (λ p. p.node == m) after e)) | inr e ↦ e ]
    where
      none : (p : Posting) × In p after × ((p.node == m) ≡ true) → ⊥
      none w =
          let at : w.0.node ≡ m = number_is w.0.node m w.2 in
          let elsewhere : w.0.node ≢ n = subst (λ (k : ℕ). k ≢ n) (sym at) other in
          let e : is_there old m ≡ true = any_in (λ p. p.node == m) w.0 old ((stay.same w.0 elsewhere).0 w.1) w.2 in
          cc

  pub entry_elsewhere : (e : Entry) → IsEntryAt old m e → IsEntryAt after m e
  entry_elsewhere e at = record {
    exact = λ kind normal. (
      (λ i. (at.exact kind normal).0 ((stay.same (record { term = (kind, normal); node = m }) other).0 i)),
      λ h. (stay.same (record { term = (kind, normal); node = m }) other).1 ((at.exact kind normal).1 h),
    );
  }
