-- What stands just under a context: its prefix begins with that context's, and is longer.
use Rattle.std.proofs.Common.{◌≡◌, ℕ, ◌<◌, Bool, true, false, cond, ◌&&◌, List, [], ◌∷◌, length, refl, sym, ap, subst, ◌∙◌}
use Rattle.std.specs.List.{filter}
use Rattle.x5_model.specs.Words.{sorted}
use Rattle.x5_model.specs.Keys.{Key, IsPrefix, parent}
use Rattle.x5_model.specs.Values.{key_of}
use Rattle.x5_model.specs.Entries.{Named}
use Rattle.x5_model.specs.Requests.{Subset, Request}
use Rattle.x5_model.proofs.Lists.{both_true}
use Rattle.x5_model_tree.specs.Tree.{is_there}
use Rattle.x5_model_tree.specs.Ask.{in_subset}
use Rattle.x5_model_run.specs.Holdings.{Held, Holdings}
use Rattle.x5_dse.specs.Linked.{IsLinked}
use Rattle.x5_holdings.specs.State.{Kept, IsKept}
use Rattle.x5_eval.specs.Numbers.{held_number, is_under, number_below, numbers_under, pin_number, served_numbers}
use Rattle.x5_eval.specs.Spots.{IsHeld}
use Rattle.x5_eval.proofs.Rises.{begins_with, is_longer}

module _ (h : Holdings) (base : Key) (subset : Subset) where
  module _ (above : ℕ) (k : Kept) (is : IsHeld h above k) (kept : IsKept k) (linked : IsLinked k.nodes.nodes)
      (n : ℕ) (under : is_under h base subset (held_number h above) n ≡ true) where
    parts : (in_subset subset base (pin_number h n) ≡ true) × (is_there (held_number h above).entries (parent (pin_number h n)) ≡ true)
    parts = both_true (in_subset subset base (pin_number h n)) (is_there (held_number h above).entries (parent (pin_number h n))) under

    pub under_in : in_subset subset base (pin_number h n) ≡ true
    under_in = parts.0

    pub under_begins : IsPrefix (key_of k.prefix) (pin_number h n)
    under_begins = begins_with k.nodes.nodes linked k.prefix kept.below_root kept.prefixed (pin_number h n)
        (subst (λ (c : Held). is_there c.entries (parent (pin_number h n)) ≡ true) (sym is.view) parts.1)

    pub under_longer : length (pin_number h above) < length (pin_number h n)
    under_longer = subst (λ (q : Key). length q < length (pin_number h n)) is.pin
        (is_longer k.nodes.nodes linked k.prefix kept.below_root kept.prefixed (pin_number h n)
        (subst (λ (c : Held). is_there c.entries (parent (pin_number h n)) ≡ true) (sym is.view) parts.1))

  -- of nothing there is nothing under it
  none_left : (c : Held) → c.entries ≡ [] → (ns : List ℕ) → filter (is_under h base subset c) ns ≡ []
  none_left c e [] = refl
  none_left c e (n ∷ ns) =
      ap (λ (b : Bool). cond b (n ∷ filter (is_under h base subset c) ns) (filter (is_under h base subset c) ns))
      (ap (λ (es : List Named). in_subset subset base (pin_number h n) && is_there es (parent (pin_number h n))) e
      ∙ never (in_subset subset base (pin_number h n)))
      ∙ none_left c e ns
    where
      never : (b : Bool) → (b && false) ≡ false
      never true = refl
      never false = refl

  pub none_under : (r : Request) (above : ℕ) → (held_number h above).entries ≡ [] → [] ≡ numbers_under r h base subset above
  none_under r above e = sym (ap (sorted (number_below h)) (none_left (held_number h above) e (served_numbers r h)))
