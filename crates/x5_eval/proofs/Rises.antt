-- A pin just below an entry of a context is longer than the context's prefix, and begins with it.
use Rattle.std.proofs.Common.{◌≡◌, ℕ, ◌+◌, ◌<◌, ◌≤◌, true, ◌==◌, List, [], ◌∷◌, length, refl, sym, ap, subst, ◌∙◌, arith, Some, None}
use Rattle.std.proofs.lemmas.List.{length-map}
use Rattle.x5_model.specs.Members.{In}
use Rattle.x5_model.specs.Keys.{Key, IsPrefix, same_key, is_prefix, parent}
use Rattle.x5_model.specs.Values.{Name, key_of, key_of_rdn}
use Rattle.x5_model.specs.Requests.{Base, OneLevel}
use Rattle.x5_model.proofs.Decide.{nat_same_decides}
use Rattle.x5_model.proofs.KeyLaws.{key_decides}
use Rattle.x5_model.proofs.Prefixes.{prefix_decides, prefix_itself, prefix_length, prefix_chain, parent_is_prefix, parent_length}
use Rattle.x5_model.proofs.Lists.{both_true, and_true, of_any, of_map}
use Rattle.x5_model.specs.Entries.{Named}
use Rattle.x5_model_tree.specs.Tree.{key_at, is_there}
use Rattle.x5_model_tree.specs.Ask.{in_subset}
use Rattle.x5_dse.specs.Linked.{Node, IsLinked, entries_of, named_of, node_key, prefix_of}
use Rattle.x5_eval.specs.Numbers.{reaches}
use Rattle.x5_eval.proofs.Within.{rooted}

key_length : (n : Name) → length (key_of n) ≡ length n
key_length n = length-map n key_of_rdn

module _ (nodes : List Node) (linked : IsLinked nodes) (prefix : Name) (some : 0 < length prefix) (prefixed : prefix_of nodes ≡ key_of prefix) (pin : Key)
    (there_is : is_there (entries_of nodes) (parent pin) ≡ true) where
  above : (n : Node) × In n nodes × (node_key n ≡ parent pin)
  above =
      let w = of_any (λ (x : Named). same_key (key_at x) (parent pin)) (entries_of nodes) there_is in
      let v = of_map named_of w.0 nodes w.1 in
      (v.0, v.1, ap key_at (sym v.2) ∙ (key_decides (key_at w.0) (parent pin)).0 w.2)

  begins_above : IsPrefix (key_of prefix) (parent pin)
  begins_above = subst (λ (k : Key). IsPrefix k (parent pin)) prefixed
      (subst (λ (k : Key). IsPrefix (prefix_of nodes) k) above.2 (rooted nodes linked above.0 above.1))

  pub begins_with : IsPrefix (key_of prefix) pin
  begins_with = prefix_chain (key_of prefix) (parent pin) pin begins_above (parent_is_prefix pin)

  pub is_longer : length (key_of prefix) < length pin
  is_longer = by pin refl (prefix_length (key_of prefix) (parent pin) begins_above)
    where
      by : (k : Key) → pin ≡ k → length (key_of prefix) ≤ length (parent pin) → length (key_of prefix) < length pin
      by [] e l = absurd (
          let s : length (parent pin) ≡ 0 = ap (λ (x : Key). length (parent x)) e in
          let t = key_length prefix in
          omega (arith, l, s, t, some))
      by (r ∷ k) e l = (
          let p : 0 < length pin = subst (λ (x : Key). 0 < length x) (sym e) (more r k) in
          let s = parent_length pin p in
          omega (arith, l, s))
        where
          more : {A : Type 0} (x : A) (xs : List A) → 0 < length (x ∷ xs)
          more x xs = omega arith

-- where those in the subset are looked for
pub reaches_base : (base : Name) (pin : Key) (depth : ℕ) → depth ≡ length base → in_subset Base (key_of base) pin ≡ true → reaches (key_of base) (Some depth) pin ≡ true
reaches_base base pin depth d e =
    let s : key_of base ≡ pin = (key_decides (key_of base) pin).0 e in
    let l : length pin ≡ depth = ap length (sym s) ∙ key_length base ∙ sym d in
    and_true (is_prefix (key_of base) pin) (length pin == depth)
    ((prefix_decides (key_of base) pin).1 (subst (λ (k : Key). IsPrefix (key_of base) k) s (prefix_itself (key_of base))))
    ((nat_same_decides (length pin) depth).1 l)

pub reaches_one : (base : Name) (pin : Key) (depth : ℕ) → depth ≡ length base + 1 → in_subset OneLevel (key_of base) pin ≡ true → reaches (key_of base) (Some depth) pin ≡ true
reaches_one base pin depth d e =
    let w = both_true (length pin == (length (key_of base) + 1)) (is_prefix (key_of base) pin) e in
    let l : length pin ≡ length (key_of base) + 1 = (nat_same_decides (length pin) (length (key_of base) + 1)).0 w.0 in
    and_true (is_prefix (key_of base) pin) (length pin == depth) w.1
    ((nat_same_decides (length pin) depth).1 (l ∙ ap (λ (n : ℕ). n + 1) (key_length base) ∙ sym d))

pub reaches_prefix : (prefix : Name) (pin : Key) → IsPrefix (key_of prefix) pin → reaches (key_of prefix) None pin ≡ true
reaches_prefix prefix pin i = (prefix_decides (key_of prefix) pin).1 i
