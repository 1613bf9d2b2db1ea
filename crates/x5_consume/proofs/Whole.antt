-- A whole content: its first entry is the prefix's.
use Rattle.std.proofs.Common.{◌≡◌, ℕ, ◌<◌, List, [], ◌∷◌, ◌++◌, length, drop, slice_index_or, sym, ap, subst, ◌∙◌, arith, Some, None}
use Rattle.std.proofs.lemmas.List.{length-map}
use Rattle.std.specs.Option.{option_map}
use Rattle.x5_model.specs.Words.{first_of}
use Rattle.x5_model.specs.Keys.{Key}
use Rattle.x5_model.specs.Values.{Name, key_of, key_of_rdn}
use Rattle.x5_model.specs.Entries.{Named}
use Rattle.x5_model_tree.specs.Tree.{key_at}
use Rattle.x5_ops.specs.declared.knowledge.Content.{Content}
use Rattle.x5_ops.specs.declared.knowledge.Specific.{Specific}
use Rattle.x5_ops.specs.declared.knowledge.Nssr.{Nssr}
use Rattle.x5_dse.specs.Linked.{entries_of}
use Rattle.x5_holdings.specs.Logs.{Log}
use Rattle.x5_holdings.specs.State.{Kept}
use Rattle.x5_consume.specs.Building.{IsExtended}
use Rattle.x5_model_refreshed.specs.Doable.{AreWhole}
use Rattle.x5_consume.specs.Taken.{IsContent}

-- taken apart
pub first_and_others : (xs : List Named) (x : Named) → 0 < length xs → x ≡ slice_index_or xs 0 x → xs ≡ x ∷ drop 1 xs
first_and_others [] x f at = absurd (omega arith)
first_and_others (y ∷ ys) x f at = ap (λ (z : Named). z ∷ ys) (sym at)

key_inside : {a b : Key} → Some a ≡ Some b → a ≡ b
key_inside e = cc

pub never_empty : (pin : Key) (entries : List Named) → AreWhole pin entries → entries ≡ [] → ⊥
never_empty pin entries w e =
    let t : None ≡ Some pin = ap (λ (l : List Named). option_map key_at (first_of l)) (sym e) ∙ w.first in cc

module _ (pin : Key) (entries : List Named) (w : AreWhole pin entries) (first : Named) (rest : List Named) (is : entries ≡ first ∷ rest) where
  pub first_key : key_at first ≡ pin
  first_key = key_inside (ap (λ (l : List Named). option_map key_at (first_of l)) (sym is) ∙ w.first)

  pub filled : (name : Name) → name ≡ first.name → 0 < length name
  filled name e =
      let b : 0 < length pin = w.below_root in
      let l : length (key_of name) ≡ length name = length-map name key_of_rdn in
      let k : length (key_of name) ≡ length pin = ap length (ap key_of e ∙ first_key) in
      omega arith

  pub begun_whole : (held : Kept) → entries_of held.nodes.nodes ≡ first ∷ [] → AreWhole pin (entries_of held.nodes.nodes ++ rest)
      × (option_map key_at (first_of (entries_of held.nodes.nodes)) ≡ Some pin)
  begun_whole held e = (
    subst (λ (l : List Named). AreWhole pin l) (is ∙ ap (λ (l : List Named). l ++ rest) (sym e)) w,
    ap (λ (l : List Named). option_map key_at (first_of l)) e ∙ ap Some first_key,
  )

-- what is held then is the content
pub content_so : (content : Content) (stamp : ℕ) (entries : List Named) (first : Named) (rest : List Named) (specific : List Specific)
    (nssr : List Nssr) (held after : Kept) → entries ≡ content.entries → entries ≡ first ∷ rest → specific ≡ content.specific
    → nssr ≡ content.nssr → entries_of held.nodes.nodes ≡ first ∷ [] → held.log.base ≡ stamp → held.log.changes ≡ []
    → held.subordinate ≡ specific → held.nssrs ≡ nssr → IsExtended held rest after → IsContent content stamp after
content_so content stamp entries first rest specific nssr held after e f s n one base changes sub wide x = record {
  entries = x.entries ∙ ap (λ (l : List Named). l ++ rest) one ∙ sym f ∙ e;
  subordinate = x.rest.subordinate ∙ sub ∙ s;
  nssrs = x.rest.nssrs ∙ wide ∙ n;
  base = ap (λ (l : Log). l.base) x.rest.log ∙ base;
  changes = ap (λ (l : Log). l.changes) x.rest.log ∙ changes;
}
