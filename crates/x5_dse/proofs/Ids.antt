-- Numbers of nodes and slots: when they are the same, and what a write to one slot leaves of the others.
use Rattle.std.proofs.Common.{◌≡◌, ◌≢◌, ℕ, zero, suc, ◌<◌, true, ◌==◌, ◌⊎◌, inl, inr, List, [], ◌∷◌, length, get_or, set, ap, arith, Option, None}
use Rattle.std.proofs.lemmas.List.{get_or-set_same, get_or-set_other}
use Rattle.std.specs.Bool.{Decides}
use Rattle.std.specs.Option.{is_some}
use Rattle.x5_model.proofs.Lists.{true_or_false}
use Rattle.x5_dse.specs.declared.node.NodeId.{NodeId}
use Rattle.x5_dse.specs.Slot.{Slot}
use Rattle.x5_dse.specs.Inside.{Slots, slot_at, is_used}

pub same_id : (a b : NodeId) → a.0 ≡ b.0 → a ≡ b
same_id a b e = λ i. record { 0 = e i }

nat_decides : (a b : ℕ) → Decides (a == b) (a ≡ b)
nat_decides a b = (λ e. grind arith, λ e. grind arith)

pub id_decides : (a b : NodeId) → Decides (a.0 == b.0) (a ≡ b)
id_decides a b = (λ e. same_id a b ((nat_decides a.0 b.0).0 e), λ p. (nat_decides a.0 b.0).1 (ap (λ (n : NodeId). n.0) p))

pub same_or_other : (a b : NodeId) → (a ≡ b) ⊎ (a.0 ≢ b.0)
same_or_other a b = elim (true_or_false (a.0 == b.0)) [
  | inl p ↦ inl ((id_decides a b).0 p)
  | inr p ↦ inr (λ e. let q : (a.0 == b.0) ≡ true = (nat_decides a.0 b.0).1 e in cc)
]

pub some_within : {A : Type 0} (xs : List (Option A)) (i : ℕ) → is_some (get_or xs i None) ≡ true → i < length xs
some_within [] i e = cc
some_within (x ∷ xs) zero e = omega arith
some_within (x ∷ xs) (suc i) e = let l : i < length xs = some_within xs i e in omega arith

pub used_within : (slots : Slots) (id : NodeId) → is_used slots id ≡ true → id.0 < length slots
used_within slots id e = some_within slots id.0 e

pub slot_same : (slots : Slots) (id : NodeId) (v : Option Slot) → id.0 < length slots → slot_at (set slots id.0 v) id ≡ v
slot_same slots id v l = get_or-set_same slots id.0 v None l

pub slot_other : (slots : Slots) (id m : NodeId) (v : Option Slot) → m.0 ≢ id.0 → slot_at (set slots id.0 v) m ≡ slot_at slots m
slot_other slots id m v h = get_or-set_other slots id.0 m.0 v None h
