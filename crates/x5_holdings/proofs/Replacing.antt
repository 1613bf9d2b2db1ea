-- A member of a list is replaced in what is made of the list's members: the table of the references of copies is made so before
-- a refresh changes anything, and is the table of the copies after it.
use Rattle.std.proofs.Common.{◌≡◌, ℕ, zero, suc, ◌<◌, Bool, true, ◌==◌, inl, inr, if◌then◌else◌, List, [], ◌∷◌}
use Rattle.std.proofs.Common.{map, length, get_or, Option, Some, None, refl, sym, ap, subst, ◌∙◌, arith}
use Rattle.std.proofs.Common.{slice_index_or, slice_set}
use Rattle.std.specs.Option.{option_map}
use Rattle.std.proofs.lemmas.Bool.{eqb-true, eqb-false}
use Rattle.std.proofs.lemmas.Grind.{get_or-set_at}
use Rattle.std.proofs.lemmas.List.{map-set, length-map, get_or-set_other}
use Rattle.std.proofs.Math.Seq.{map-set_same}
use Rattle.x5_model.specs.Keys.{Key, same_key}
use Rattle.x5_model.specs.Words.{distinct}
use Rattle.x5_model.specs.Values.{key_of}
use Rattle.x5_model.proofs.Lists.{true_or_false}
use Rattle.x5_ops.specs.declared.knowledge.Specific.{Specific}
use Rattle.x5_holdings.specs.declared.tables.Tables.{Tables}
use Rattle.x5_holdings.specs.Placed.{IsBroughtChanged, IsCopyChanged}
use Rattle.x5_holdings.specs.Rows.{AreRowsOf}
use Rattle.x5_holdings.specs.Spots.{AreBelow, Spotted}
use Rattle.x5_holdings.specs.State.{Kept, CopyKept, State, are_once, brought_references}
use Rattle.x5_holdings.specs.Tables.{AreTables}
use Rattle.x5_holdings.proofs.Holding.{got}

mapped : {A B : Type 0} (f : A → B) (xs : List A) (i : ℕ) (x : A) (b : B) → i < length xs → f (get_or xs i x)
    ≡ get_or (map f xs) i b
mapped f [] i x b lt = absurd (omega arith)
mapped f (z ∷ zs) zero x b lt = refl
mapped f (z ∷ zs) (suc i) x b lt = mapped f zs i x b (omega arith)

-- what stands at a place of the list with the replaced member
pub placed : {A B : Type 0} (f : A → B) (xs : List A) (i place : ℕ) (x : A) (new : B) → i < length xs → x ≡ get_or xs i x
    → (b : B) → b ≡ (if i == place then new else f x) → b ≡ get_or (slice_set (map f xs) place new) i b
placed f xs i place x new lt is b e =
    elim (true_or_false (i == place)) [
      | inl t ↦ (
          let same : i ≡ place = eqb-true i place t in
          let there : place < length (map f xs) = omega (arith, lt, same, length-map xs f) in
          e ∙ (ap (λ (u : Bool). if u then new else f x) t ∙ sym (get_or-set_at (map f xs) place i new b same there)))
      | inr n ↦ e ∙ (ap (λ (u : Bool). if u then new else f x) n ∙ (ap f is ∙ (mapped f xs i x b lt
          ∙ sym (get_or-set_other (map f xs) place i new b (eqb-false i place n)))))
    ]

pub still_once : (copies : List CopyKept) (place : ℕ) (before after : CopyKept) → before ≡ slice_index_or copies place before
    → after.prefix ≡ before.prefix → are_once copies ≡ true → are_once (slice_set copies place after) ≡ true
still_once copies place before after is p h =
    ap (distinct same_key)
    (map-set_same (λ (c : CopyKept). key_of c.prefix) copies place after before
    (ap key_of p ∙ ap (λ (c : CopyKept). key_of c.prefix) is))
    ∙ h

-- the tables stay where its references do
pub same_tables : (s : State) (t : Tables) (place : ℕ) (before after : CopyKept) → before ≡ slice_index_or s.copies place
    before → after.prefix ≡ before.prefix
    → brought_references after.refreshed ≡ brought_references before.refreshed → AreTables s t
    → AreTables (record s { copies = slice_set s.copies place after }) t
same_tables s t place before after is p k are = record {
  own = are.own;
  copies = subst (λ (ks : List Key). AreRowsOf t.copies ks)
      (sym (map-set_same (λ (c : CopyKept). key_of c.prefix) s.copies place after before
      (ap key_of p ∙ ap (λ (c : CopyKept). key_of c.prefix) is))) are.copies;
  below_own = are.below_own;
  below_copies = subst (λ (l : List (List Specific)). AreBelow t.below_copies l)
      (sym (map-set_same (λ (c : CopyKept). brought_references c.refreshed) s.copies place after before
      (k ∙ ap (λ (c : CopyKept). brought_references c.refreshed) is))) are.below_copies;
  root = are.root;
  cross = are.cross;
}

-- and with the new table where it has others
pub refreshed_tables : (s : State) (t : Tables) (place : ℕ) (before after : CopyKept) (below : Spotted)
    (references : List Specific) → before ≡ slice_index_or s.copies place before → after.prefix ≡ before.prefix
    → brought_references after.refreshed ≡ references
    → AreBelow below (slice_set (map (λ (c : CopyKept). brought_references c.refreshed) s.copies) place references)
    → AreTables s t
    → AreTables (record s { copies = slice_set s.copies place after }) (record t { below_copies = below })
refreshed_tables s t place before after below references is p r h are = record {
  own = are.own;
  copies = subst (λ (ks : List Key). AreRowsOf t.copies ks)
      (sym (map-set_same (λ (c : CopyKept). key_of c.prefix) s.copies place after before
      (ap key_of p ∙ ap (λ (c : CopyKept). key_of c.prefix) is))) are.copies;
  below_own = are.below_own;
  below_copies = subst (λ (l : List (List Specific)). AreBelow below l)
      (ap (λ (ks : List Specific). slice_set (map (λ (c : CopyKept). brought_references c.refreshed) s.copies) place ks)
      (sym r) ∙ sym (map-set (λ (c : CopyKept). brought_references c.refreshed) s.copies place after)) h;
  root = are.root;
  cross = are.cross;
}

-- ---- one copy is another

pub copy_changed : (s : State) (place : ℕ) (before after : CopyKept) (how : CopyKept → CopyKept → Type 0)
    → place < length s.copies → before ≡ slice_index_or s.copies place before → how before after
    → IsCopyChanged s place how (record s { copies = slice_set s.copies place after })
copy_changed s place before after how lt is h = record {
  before = before;
  after = after;
  was = got s.copies place before lt is;
  changed = h;
  new_is = refl;
}

-- its references stay where those that refreshes brought do
pub brought_same : (how : Kept → Kept → Type 0) (old after : CopyKept) → IsBroughtChanged how old after
    → ((a b : Kept) → how a b → b.subordinate ≡ a.subordinate)
    → brought_references after.refreshed ≡ brought_references old.refreshed
brought_same how old after h k =
    ap (λ (c : CopyKept). brought_references c.refreshed) h.after_is
    ∙ (k h.before h.now h.changed ∙ sym (ap brought_references h.was))

pub stamped_same : (o : Option (Kept × ℕ)) (stamp : ℕ) → brought_references (option_map (λ (s : Kept × ℕ). (s.0, stamp)) o)
    ≡ brought_references o
stamped_same None stamp = refl
stamped_same (Some s) stamp = refl
