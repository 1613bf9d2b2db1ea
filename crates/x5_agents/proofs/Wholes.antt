-- A described context by its first entry, which is the prefix's, and the others, and what is held of it once they are taken.
use Rattle.std.proofs.Common.{◌≡◌, ◌<◌, true, false, ◌&&◌, ◌⊎◌, inl, inr, List, [], ◌∷◌, map, length, sym, ap, subst, ◌∙◌, arith}
use Rattle.std.specs.List.{list_all}
use Rattle.x5_model.specs.Members.{In, here, there}
use Rattle.x5_model.specs.Words.{distinct, is_empty}
use Rattle.x5_model.specs.Keys.{same_key}
use Rattle.x5_model.specs.Values.{Name, last_rdn}
use Rattle.x5_model.specs.Entries.{Named}
use Rattle.x5_model.specs.Attributes.{is_ordered, has_rdn}
use Rattle.x5_model.specs.Statics.{entry_refusals}
use Rattle.x5_model.proofs.Lists.{both_true, not_true, in_first}
use Rattle.x5_model_tree.specs.World as model
use Rattle.x5_model_tree.specs.World.{Context}
use Rattle.x5_model_tree.specs.Tree.{keys_of, sorted_entries}
use Rattle.x5_model_tree.specs.Described.{same_spelling, is_grown, is_rooted, is_kept, is_entry_name}
use Rattle.x5_model_run.specs.History.{references_below}
use Rattle.x5_model_held.specs.Beginning.{described_context}
use Rattle.x5_dse.specs.Linked.{entries_of}
use Rattle.x5_ops.specs.KnowledgeViews.{specific_view, nssr_view}
use Rattle.x5_ops.specs.declared.knowledge.Specific.{Specific}
use Rattle.x5_ops.specs.declared.knowledge.Nssr.{Nssr}
use Rattle.x5_holdings.specs.State.{Kept, held_view}
use Rattle.x5_agents.specs.Growing.{Grown, is_whole}
use Rattle.x5_agents.proofs.Members.{in_order_of, below_sorted}
use Rattle.x5_agents.proofs.Spelled.{one_name}

-- it has an entry
pub not_bare : (c : Context) → is_whole c ≡ true → c.entries ≡ [] → ⊥
not_bare c e none =
    let rooted : is_rooted c c.entries ≡ true =
    (both_true (is_rooted c c.entries) (list_all is_kept c.entries && distinct same_key (keys_of c.entries)) e).0 in
    let bare : is_rooted c [] ≡ true = ap (λ (es : List Named). is_rooted c es) (sym none) ∙ rooted in cc

module _ (c : Context) (first : Named) (more : List Named) (whole : is_whole c ≡ true) (is : c.entries ≡ first ∷ more) where
  parts : (is_rooted c (first ∷ more) ≡ true) × ((list_all is_kept (first ∷ more) && distinct same_key (keys_of (first ∷ more))) ≡ true)
  parts = both_true (is_rooted c (first ∷ more)) (list_all is_kept (first ∷ more) && distinct same_key (keys_of (first ∷ more)))
      (ap (λ (es : List Named). is_rooted c es && (list_all is_kept es && distinct same_key (keys_of es))) (sym is) ∙ whole)

  kept : (is_kept first ≡ true) × (list_all is_kept more ≡ true)
  kept = both_true (is_kept first) (list_all is_kept more)
      (both_true (list_all is_kept (first ∷ more)) (distinct same_key (keys_of (first ∷ more))) parts.1).0

  pub others_kept : list_all is_kept more ≡ true
  others_kept = kept.1

  pub once : distinct same_key (keys_of (first ∷ more)) ≡ true
  once = (both_true (list_all is_kept (first ∷ more)) (distinct same_key (keys_of (first ∷ more))) parts.1).1

  rooted : (same_spelling c.prefix first.name ≡ true) × (is_grown (first ∷ []) more ≡ true)
  rooted = both_true (same_spelling c.prefix first.name) (is_grown (first ∷ []) more) parts.0

  pub prefix_is : c.prefix ≡ first.name
  prefix_is = one_name c.prefix first.name rooted.0

  pub others_grown : is_grown (first ∷ []) more ≡ true
  others_grown = rooted.1

  filled_name : (n : Name) → is_empty n ≡ false → 0 < length n
  filled_name [] e = cc
  filled_name (r ∷ n) e = omega arith

  pub filled : 0 < length c.prefix
  filled =
      subst (λ (n : Name). 0 < length n) (sym prefix_is)
      (filled_name first.name
      (not_true (is_empty first.name) (both_true (is_entry_name first.name) (is_ordered first.entry && (has_rdn first.entry (last_rdn first.name) && is_empty (entry_refusals first.entry))) kept.0).0))

-- what is held of it
pub held_whole : (c : Context) (first : Named) (more : List Named) (ks : List model.Specific) (old now : Kept) → is_whole c ≡ true
    → c.entries ≡ first ∷ more → old.prefix ≡ c.prefix → entries_of old.nodes.nodes ≡ first ∷ []
    → map specific_view old.subordinate ≡ references_below c.entries ks → map nssr_view old.nssrs ≡ c.nssrs
    → Grown old more now → held_view now ≡ described_context ks c
held_whole c first more ks old now whole is prefix entries below nssrs g =
    let all : entries_of now.nodes.nodes ≡ sorted_entries c.entries =
    in_order_of (entries_of now.nodes.nodes) (first ∷ more) g.order (once c first more whole is) (λ e. (
      λ i. joined e (subst (λ (es : List Named). In e es ⊎ In e more) entries ((g.members e).0 i)),
      λ i. (g.members e).1 (subst (λ (es : List Named). In e es ⊎ In e more) (sym entries) (apart e i)),
    ))
    ∙ ap sorted_entries (sym is) in
    let p : now.prefix ≡ c.prefix = g.rest.prefix ∙ prefix in
    let s : map specific_view now.subordinate ≡ references_below (sorted_entries c.entries) ks =
    ap (λ (xs : List Specific). map specific_view xs) g.rest.subordinate ∙ below ∙ sym (below_sorted c.entries ks) in
    let n : map nssr_view now.nssrs ≡ c.nssrs = ap (λ (xs : List Nssr). map nssr_view xs) g.rest.nssrs ∙ nssrs in
    λ i. record { prefix = p i; entries = all i; subordinate = s i; nssrs = n i }
  where
    joined : (e : Named) → In e (first ∷ []) ⊎ In e more → In e (first ∷ more)
    joined e x = elim x [
      | inl i ↦ elim (in_first e first [] i) [ inl q ↦ subst (λ (y : Named). In e (y ∷ more)) q here | inr j ↦ elim j [ ] ]
      | inr j ↦ there j
    ]

    apart : (e : Named) → In e (first ∷ more) → In e (first ∷ []) ⊎ In e more
    apart e i = elim (in_first e first more i) [
      | inl q ↦ inl (subst (λ (y : Named). In e (y ∷ [])) q here)
      | inr j ↦ inr j
    ]
