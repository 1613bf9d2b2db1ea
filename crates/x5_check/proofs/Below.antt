-- The contexts that have the entry above a pin: between one and the next nothing is told.
use Rattle.std.proofs.Common.{◌≡◌, ℕ, ◌<◌, true, false, not, ◌&&◌, inl, inr, [], drop, length, get_or, Some, None, sym, ap, subst, ◌∙◌}
use Rattle.std.specs.Prelude.{slice_get}
use Rattle.std.specs.List.{flat_map}
use Rattle.x5_model.specs.Words.{some_and, when}
use Rattle.x5_model.specs.Keys.{Key, parent}
use Rattle.x5_model_tree.specs.World.{World}
use Rattle.x5_model_tree.specs.Tree.{is_there}
use Rattle.x5_model_tree.specs.Masters.{Mastered, pin_of, mastered}
use Rattle.x5_model_tree.specs.Consistent.{breach, AgentPrinted, NamePrinted}
use Rattle.x5_check.specs.Rows.{IsNext}
use Rattle.x5_check.specs.Numbers.{entry_places}
use Rattle.x5_check.specs.Parts.{knows_at, unknown_part}
use Rattle.x5_check.proofs.Places.{got, got_none, less_or_not, pass_over, nothing_left}

module _ (w : World) (p : Mastered) (key : Key) (is : key ≡ parent (pin_of p)) (from : ℕ) where
  nothing_here : (m : Mastered) (n : ℕ) → slice_get (mastered w) n ≡ Some m → entry_places (mastered w) key n ≡ false → unknown_part w p m ≡ []
  nothing_here m n e h =
      let f : is_there m.context.entries key ≡ false = sym (ap (some_and (λ (x : Mastered). is_there x.context.entries key)) e) ∙ h in
      let g : is_there m.context.entries (parent (pin_of p)) ≡ false = subst (λ (k : Key). is_there m.context.entries k ≡ false) is f in
      λ i. when (g i && not (knows_at w p m)) (breach 6 (AgentPrinted m.master) (NamePrinted p.context.prefix))

  pub no_holder : IsNext (entry_places (mastered w)) key from None → flat_map (unknown_part w p) (drop from (mastered w)) ≡ []
  no_holder h = nothing_left (unknown_part w p) (mastered w) from (λ n m a e. nothing_here m n e (h n a))

  module _ (place : ℕ) (h : IsNext (entry_places (mastered w)) key from (Some place)) where
    pub next_holder : flat_map (unknown_part w p) (drop from (mastered w)) ≡ flat_map (unknown_part w p) (drop place (mastered w))
    next_holder = pass_over (unknown_part w p) (mastered w) from place h.1 (λ n m a b e. nothing_here m n e (h.2 n a b))

    pub holder_there : place < length (mastered w)
    holder_there = elim (less_or_not place (length (mastered w))) [
      | inl lt ↦ lt
      | inr le ↦ absurd (let f : entry_places (mastered w) key place ≡ false = ap (some_and (λ (x : Mastered). is_there x.context.entries key)) (got_none (mastered w) place le) in let t : entry_places (mastered w) key place ≡ true = h.0 in cc)
    ]

    pub holder_has : (m : Mastered) → m ≡ get_or (mastered w) place m → is_there m.context.entries (parent (pin_of p)) ≡ true
    holder_has m e =
        subst (λ (k : Key). is_there m.context.entries k ≡ true) is (sym (ap (some_and (λ (x : Mastered). is_there x.context.entries key)) (got (mastered w) place m holder_there e)) ∙ h.0)
