-- Entries that are grown one behind the other: what is taken so far and what is left are all, and what is left is grown
-- over what is taken.
use Rattle.std.proofs.Common.{◌≡◌, ℕ, ◌+◌, ◌<◌, ◌≤◌, true, ◌⊎◌, ◌↔◌, inl, inr, List, [], ◌∷◌, length, drop, get_or, sym, ap, subst, ◌∙◌}
use Rattle.std.specs.List.{list_all}
use Rattle.x5_model.specs.Members.{In, here, there}
use Rattle.x5_model.specs.Words.{ascending}
use Rattle.x5_model.specs.Entries.{Named}
use Rattle.x5_model.proofs.Lists.{both_true, in_first}
use Rattle.x5_model_tree.specs.Tree.{named_below}
use Rattle.x5_model_tree.specs.Described.{is_grown, is_kept}
use Rattle.x5_dse.specs.Linked.{Nodes, entries_of}
use Rattle.x5_ops.proofs.Dropping.{drop_at}
use Rattle.x5_holdings.specs.State.{Kept, OnlyEntries}
use Rattle.x5_agents.specs.Growing.{Grown}
use Rattle.x5_agents.proofs.Growing.{still_only}
use Rattle.x5_agents.proofs.Keyed.{nothing_left}
use Rattle.x5_agents.proofs.Members.{grown_alike, grown_first}

abbrev entries_in : Kept → List Named
entries_in c = entries_of c.nodes.nodes

pub record SoFar (first : Kept) (all : List Named) (now : Kept) (left : List Named) : Type 0 where
  pub order : ascending named_below (entries_of now.nodes.nodes) ≡ true
  pub members : (e : Named) → (In e (entries_of now.nodes.nodes) ⊎ In e left) ↔ (In e (entries_of first.nodes.nodes) ⊎ In e all)
  pub rest : OnlyEntries first now
  pub grown : is_grown (entries_of now.nodes.nodes) left ≡ true
  pub kept : list_all is_kept left ≡ true

pub begun : (first : Kept) (all : List Named) (now : Kept) → now.nodes ≡ first.nodes → OnlyEntries first now
    → ascending named_below (entries_of first.nodes.nodes) ≡ true → is_grown (entries_of first.nodes.nodes) all ≡ true
    → list_all is_kept all ≡ true → SoFar first all now all
begun first all now nodes others order grown kept = record {
  order = ap (λ (ns : Nodes). ascending named_below (entries_of ns.nodes)) nodes ∙ order;
  members = λ e. (
    (λ s. subst (λ (ns : Nodes). In e (entries_of ns.nodes) ⊎ In e all) nodes s),
    λ s. subst (λ (ns : Nodes). In e (entries_of ns.nodes) ⊎ In e all) (sym nodes) s,
  );
  rest = others;
  grown = ap (λ (ns : Nodes). is_grown (entries_of ns.nodes) all) nodes ∙ grown;
  kept = kept;
}

-- the next entry may be taken
pub next_grown : (first : Kept) (all : List Named) (now : Kept) (e : Named) (left : List Named)
    → SoFar first all now (e ∷ left) → is_grown (entries_of now.nodes.nodes) (e ∷ []) ≡ true
next_grown first all now e left s = (grown_first (entries_in now) e left s.grown).0

pub next_kept : (first : Kept) (all : List Named) (now : Kept) (e : Named) (left : List Named)
    → SoFar first all now (e ∷ left) → is_kept e ≡ true
next_kept first all now e left s = (both_true (is_kept e) (list_all is_kept left) s.kept).0

-- and with it there are one more taken and one less left
pub one_taken : (first : Kept) (all : List Named) (now : Kept) (e : Named) (left : List Named) (after : Kept)
    → SoFar first all now (e ∷ left) → Grown now (e ∷ []) after → SoFar first all after left
one_taken first all now e left after s g = record {
  order = g.order;
  members = λ f. ((λ x. (s.members f).0 (back f x)), λ x. forth f ((s.members f).1 x));
  rest = still_only first now after s.rest g.rest;
  grown = grown_alike (e ∷ entries_in now) (entries_in after) left (λ f i. (g.members f).1 (out f i)) (λ f i. of f ((g.members f).0 i))
      (grown_first (entries_in now) e left s.grown).1;
  kept = (both_true (is_kept e) (list_all is_kept left) s.kept).1;
}
  where
    only : (f : Named) → In f (e ∷ []) → f ≡ e
    only f i = elim (in_first f e [] i) [ inl q ↦ q | inr j ↦ elim j [ ] ]

    first_in : (f : Named) (xs : List Named) → f ≡ e → In f (e ∷ xs)
    first_in f xs q = subst (λ (x : Named). In f (x ∷ xs)) q here

    out : (f : Named) → In f (e ∷ entries_in now) → In f (entries_in now) ⊎ In f (e ∷ [])
    out f i = elim (in_first f e (entries_in now) i) [ inl q ↦ inr (first_in f [] q) | inr j ↦ inl j ]

    of : (f : Named) → In f (entries_in now) ⊎ In f (e ∷ []) → In f (e ∷ entries_in now)
    of f x = elim x [ inl j ↦ there j | inr j ↦ first_in f (entries_in now) (only f j) ]

    back : (f : Named) → In f (entries_in after) ⊎ In f left → In f (entries_in now) ⊎ In f (e ∷ left)
    back f x = elim x [
      | inl i ↦ elim ((g.members f).0 i) [ inl j ↦ inl j | inr j ↦ inr (first_in f left (only f j)) ]
      | inr j ↦ inr (there j)
    ]

    forth : (f : Named) → In f (entries_in now) ⊎ In f (e ∷ left) → In f (entries_in after) ⊎ In f left
    forth f x = elim x [
      | inl i ↦ inl ((g.members f).1 (inl i))
      | inr j ↦ elim (in_first f e left j) [ inl q ↦ inl ((g.members f).1 (inr (first_in f [] q))) | inr k ↦ inr k ]
    ]

pub all_taken : (first : Kept) (all : List Named) (now : Kept) → SoFar first all now [] → Grown first all now
all_taken first all now s = record {
  order = s.order;
  members = λ e. (
    (λ i. (s.members e).0 (inl i)),
    λ x. elim ((s.members e).1 x) [ inl i ↦ i | inr j ↦ elim j [ ] ],
  );
  rest = s.rest;
}

-- by places
pub at_place : (first : Kept) (all : List Named) (now : Kept) (i : ℕ) (e : Named) → i < length all → e ≡ get_or all i e
    → SoFar first all now (drop i all) → SoFar first all now (e ∷ drop (i + 1) all)
at_place first all now i e lt is s = subst (λ (left : List Named). SoFar first all now left) (drop_at all i e lt is) s

pub at_end : (first : Kept) (all : List Named) (now : Kept) (i : ℕ) → length all ≤ i → SoFar first all now (drop i all)
    → Grown first all now
at_end first all now i le s =
    all_taken first all now (subst (λ (left : List Named). SoFar first all now left) (nothing_left all i le) s)

-- with its index in order
pub finished : (first : Kept) (all : List Named) (now after : Kept) → after.nodes ≡ now.nodes → OnlyEntries now after
    → Grown first all now → Grown first all after
finished first all now after nodes others g = record {
  order = ap (λ (ns : Nodes). ascending named_below (entries_of ns.nodes)) nodes ∙ g.order;
  members = λ e. (
    (λ i. (g.members e).0 (subst (λ (ns : Nodes). In e (entries_of ns.nodes)) nodes i)),
    λ x. subst (λ (ns : Nodes). In e (entries_of ns.nodes)) (sym nodes) ((g.members e).1 x),
  );
  rest = still_only first now after g.rest others;
}
