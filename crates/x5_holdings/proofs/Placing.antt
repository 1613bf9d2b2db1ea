-- One of the contexts that an agent masters changes, and keeps its prefix and its references: the tables stay those of the
-- lists, and no two contexts get one prefix.
use Rattle.std.proofs.Common.{◌≡◌, ℕ, true, List, Result, Ok, Err, OnOk, sym, ap, subst, ◌∙◌, slice_index_or, slice_set}
use Rattle.std.proofs.Math.Seq.{map-set_same}
use Rattle.x5_model.specs.Keys.{Key, same_key}
use Rattle.x5_model.specs.Words.{distinct}
use Rattle.x5_model.specs.Values.{key_of}
use Rattle.x5_ops.specs.declared.knowledge.Specific.{Specific}
use Rattle.x5_holdings.specs.declared.tables.Tables.{Tables}
use Rattle.x5_holdings.specs.Rows.{AreRowsOf}
use Rattle.x5_holdings.specs.Spots.{AreBelow}
use Rattle.x5_holdings.specs.State.{Kept, State, are_apart}
use Rattle.x5_holdings.specs.Tables.{AreTables}

pub still_apart : (own : List Kept) (place : ℕ) (before after : Kept) → before ≡ slice_index_or own place before
    → after.prefix ≡ before.prefix → are_apart own ≡ true → are_apart (slice_set own place after) ≡ true
still_apart own place before after is p h =
    ap (distinct same_key)
    (map-set_same (λ (c : Kept). key_of c.prefix) own place after before (ap key_of p ∙ ap (λ (c : Kept). key_of c.prefix) is))
    ∙ h

pub same_tables : (s : State) (t : Tables) (place : ℕ) (before after : Kept) → before ≡ slice_index_or s.own place before →
    after.prefix ≡ before.prefix → after.subordinate ≡ before.subordinate → AreTables s t
    → AreTables (record s { own = slice_set s.own place after }) t
same_tables s t place before after is p k are = record {
  own = subst (λ (ks : List Key). AreRowsOf t.own ks)
      (sym (map-set_same (λ (c : Kept). key_of c.prefix) s.own place after before
      (ap key_of p ∙ ap (λ (c : Kept). key_of c.prefix) is))) are.own;
  copies = are.copies;
  below_own = subst (λ (l : List (List Specific)). AreBelow t.below_own l)
      (sym (map-set_same (λ (c : Kept). c.subordinate) s.own place after before
      (k ∙ ap (λ (c : Kept). c.subordinate) is))) are.below_own;
  below_copies = are.below_copies;
  root = are.root;
  cross = are.cross;
}

pub then_ok : {A E X Y : Type 0} (r : Result A E) → (X → Y) → OnOk r X → OnOk r Y
then_ok (Ok a) f p = f p
then_ok (Err e) f p = p
