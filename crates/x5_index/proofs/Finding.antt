-- From the place of a value's first posting on stand the postings of that value, and so the nodes found there are those whose
-- entries have it. What a filter is looked up by is true wherever the filter is.
use Rattle.std.proofs.Common.{◌≡◌, ℕ, suc, Bool, true, false, cond, inl, inr, List, [], ◌∷◌, length, take, drop, ◌-◌, refl, sym, ap, subst, ◌∙◌, arith, Option, Some, None, Result, Ok, Err}
use Rattle.std.specs.Result.{IfOk}
use Rattle.std.proofs.lemmas.Grind.{common_steps}
use Rattle.std.proofs.lemmas.List.{take_rest}
use Rattle.std.specs.Cmp.{tied_itself}
use Rattle.std.specs.declared.cmp.Ordering.{Ordering}
use Rattle.std.specs.declared.cmp.Ordering.TheVariants.{Less, Equal, Greater}
use Rattle.std.specs.Ordering.{is_lt, is_eq, ordering_then, nat_cmp}
use Rattle.x5_model.specs.Words.{ascending}
use Rattle.x5_model.specs.Members.{In, Once, here, there}
use Rattle.x5_model.specs.Keys.{KeyPair, pair_cmp}
use Rattle.x5_model.specs.Values.{TypeRef, Known, Unknown}
use Rattle.x5_model.specs.Entries.{Entry}
use Rattle.x5_model.specs.Attributes.{has_value}
use Rattle.x5_model.specs.Filters.{Assertion, Item, Equality, Substrings, GreaterOrEqual, LessOrEqual, Present, Approximate, Filter, Is, And, Or, Not, Filters, Nil, More}
use Rattle.x5_model.specs.Truth.{Truth, False, Undefined, True, truth_and, truth_of, is_true, truth_by, is_equal, item_truth, all_truth, filter_truth, selects_entry}
use Rattle.x5_model.proofs.KeyLaws.{pair_cmp_total}
use Rattle.x5_model.proofs.Lists.{true_or_false, in_first}
use Rattle.x5_model.proofs.Ascending.{rest_ascending, first_below}
use Rattle.x5_index.specs.Index.{Posting, posting_below, IsEntryAt}
use Rattle.x5_index.specs.Places.{place_of, AreNodesOf, AreAsserted, nodes_with}
use Rattle.x5_index.specs.Lookup.{known_assertion, asserted_in, equality_in, or_else, first_equality, looked_up, AreCandidates}
use Rattle.x5_index.proofs.Order.{equal_pairs, never_below, below_chain}

-- ---- the postings of one value

module _ (t : KeyPair) where
  of_value : ℕ → Posting
  of_value n = record { term = t; node = n }

  at_value : (p : Posting) → p.term ≡ t → p ≡ record { term = t; node = p.node }
  at_value p e = λ i. record { term = e i; node = p.node }

  itself : pair_cmp t t ≡ Equal
  itself = tied_itself pair_cmp_total t

  -- no posting of the value is below its first possible one
  not_below : (n : ℕ) → posting_below (record { term = t; node = n }) (record { term = t; node = 0 }) ≡ false
  not_below n = ap (λ (o : Ordering). is_lt (ordering_then o (nat_cmp n 0))) itself ∙ first n
    where
      first : (n : ℕ) → is_lt (nat_cmp n 0) ≡ false
      first n = grind (arith, common_steps)

  pub of_run : (ps : List Posting) (n : ℕ) → In n (nodes_with t ps) → In (record { term = t; node = n }) ps
  of_run [] n i = elim i [ ]
  of_run (p ∷ ps) n i = by (pair_cmp p.term t) refl i (of_run ps n)
    where
      by : (o : Ordering) → pair_cmp p.term t ≡ o → In n (cond (is_eq o) (p.node ∷ nodes_with t ps) []) → (In n (nodes_with t ps) → In (record { term = t; node = n }) ps) → In (record { term = t; node = n }) (p ∷ ps)
      by Less e j f = elim j [ ]
      by Greater e j f = elim j [ ]
      by Equal e j f =
          elim (in_first n p.node (nodes_with t ps) j) [
            | inl s ↦ (let q : p ≡ record { term = t; node = n } = at_value p (equal_pairs p.term t e) ∙ ap (λ (m : ℕ). record { term = t; node = m }) (sym s) in subst (λ (y : Posting). In y (p ∷ ps)) q here)
            | inr k ↦ there (f k)
          ]

  pub in_run : (ps : List Posting) (n : ℕ) → ascending posting_below ps ≡ true → ((q : Posting) → In q ps → posting_below q (record { term = t; node = 0 }) ≡ false)
      → In (record { term = t; node = n }) ps → In n (nodes_with t ps)
  in_run [] n h g i = elim i [ ]
  in_run (p ∷ ps) n h g i = by (pair_cmp p.term t) refl (in_run ps n (rest_ascending posting_below below_chain p ps h) (λ q j. g q (there j)))
    where
      by : (o : Ordering) → pair_cmp p.term t ≡ o → (In (record { term = t; node = n }) ps → In n (nodes_with t ps)) → In n (cond (is_eq o) (p.node ∷ nodes_with t ps) [])
      by Less e f =
          absurd (let b : posting_below p (record { term = t; node = 0 }) ≡ true = ap (λ (o : Ordering). is_lt (ordering_then o (nat_cmp p.node 0))) e in let c = g p here in cc)
      by Equal e f =
          elim (in_first (record { term = t; node = n }) p ps i) [
            | inl s ↦ subst (λ (m : ℕ). In m (p.node ∷ nodes_with t ps)) (ap (λ (y : Posting). y.node) (sym s)) here
            | inr j ↦ there (f j)
          ]
      by Greater e f =
          elim (in_first (record { term = t; node = n }) p ps i) [
            | inl s ↦ absurd (let b : pair_cmp p.term t ≡ Equal = ap (λ (y : Posting). pair_cmp y.term t) (sym s) ∙ itself in cc)
            | inr j ↦ absurd (let a : posting_below p (record { term = t; node = n }) ≡ true = first_below posting_below below_chain p (record { term = t; node = n }) ps h j in let b : posting_below p (record { term = t; node = n }) ≡ false = ap (λ (o : Ordering). is_lt (ordering_then o (nat_cmp p.node n))) e in cc)
          ]

  pub once_run : (ps : List Posting) → ascending posting_below ps ≡ true → Once (nodes_with t ps)
  once_run [] h = tt
  once_run (p ∷ ps) h = by (pair_cmp p.term t) refl (once_run ps (rest_ascending posting_below below_chain p ps h))
    where
      by : (o : Ordering) → pair_cmp p.term t ≡ o → Once (nodes_with t ps) → Once (cond (is_eq o) (p.node ∷ nodes_with t ps) [])
      by Less e o = tt
      by Greater e o = tt
      by Equal e o = (
        λ i. (let j : In p ps = subst (λ (y : Posting). In y ps) (sym (at_value p (equal_pairs p.term t e))) (of_run ps p.node i) in never_below p (first_below posting_below below_chain p p ps h j)),
        o,
      )

-- ---- from a place on

module _ (x : Posting) where
  abbrev after : List Posting → List Posting
  after ps = drop (place_of ps x) ps

  of_after : (ps : List Posting) (q : Posting) → In q (after ps) → In q ps
  of_after [] q i = elim i [ ]
  of_after (p ∷ ps) q i = by (posting_below p x) i (of_after ps q)
    where
      by : (b : Bool) → In q (drop (cond b (suc (place_of ps x)) 0) (p ∷ ps)) → (In q (after ps) → In q ps) → In q (p ∷ ps)
      by true j f = there (f j)
      by false j f = j

  in_after : (ps : List Posting) (q : Posting) → posting_below q x ≡ false → In q ps → In q (after ps)
  in_after [] q h i = elim i [ ]
  in_after (p ∷ ps) q h i = by (posting_below p x) refl (in_after ps q h)
    where
      by : (b : Bool) → posting_below p x ≡ b → (In q ps → In q (after ps)) → In q (drop (cond b (suc (place_of ps x)) 0) (p ∷ ps))
      by true e f =
          elim (in_first q p ps i) [ inl s ↦ absurd (let c : posting_below q x ≡ true = ap (λ (y : Posting). posting_below y x) s ∙ e in cc) | inr j ↦ f j ]
      by false e f = i

  none_below : (ps : List Posting) → ascending posting_below ps ≡ true → (q : Posting) → In q (after ps) → posting_below q x ≡ false
  none_below [] h q i = elim i [ ]
  none_below (p ∷ ps) h q i = by (posting_below p x) refl i (none_below ps (rest_ascending posting_below below_chain p ps h) q)
    where
      by : (b : Bool) → posting_below p x ≡ b → In q (drop (cond b (suc (place_of ps x)) 0) (p ∷ ps)) → (In q (after ps) → posting_below q x ≡ false) → posting_below q x ≡ false
      by true e j f = f j
      by false e j f =
          elim (in_first q p ps j) [
            | inl s ↦ ap (λ (y : Posting). posting_below y x) s ∙ e
            | inr k ↦ elim (true_or_false (posting_below q x)) [
              | inl c ↦ absurd (let d : posting_below p x ≡ true = below_chain p q x (first_below posting_below below_chain p q ps h k) c in cc)
              | inr c ↦ c
            ]
          ]

  after_ascending : (ps : List Posting) → ascending posting_below ps ≡ true → ascending posting_below (after ps) ≡ true
  after_ascending [] h = refl
  after_ascending (p ∷ ps) h = by (posting_below p x) (after_ascending ps (rest_ascending posting_below below_chain p ps h))
    where
      by : (b : Bool) → ascending posting_below (after ps) ≡ true → ascending posting_below (drop (cond b (suc (place_of ps x)) 0) (p ∷ ps)) ≡ true
      by true e = e
      by false e = h

-- the nodes found there
pub nodes_found : (ps : List Posting) (t : KeyPair) → ascending posting_below ps ≡ true → AreNodesOf ps t (nodes_with t (drop (place_of ps (record { term = t; node = 0 })) ps))
nodes_found ps t h = record {
  same = λ n. (
    (λ i. of_after (record { term = t; node = 0 }) ps (record { term = t; node = n }) (of_run t (after (record { term = t; node = 0 }) ps) n i)),
    λ i. in_run t (after (record { term = t; node = 0 }) ps) n (after_ascending (record { term = t; node = 0 }) ps h) (none_below (record { term = t; node = 0 }) ps h)
        (in_after (record { term = t; node = 0 }) ps (record { term = t; node = n }) (not_below t n) i),
  );
  once = once_run t (after (record { term = t; node = 0 }) ps) (after_ascending (record { term = t; node = 0 }) ps h);
}

pub if_found : {E : Type 0} (ps : List Posting) (t : KeyPair) (i : ℕ) (r : Result (List ℕ) E) → ascending posting_below ps ≡ true → i ≡ place_of ps (record { term = t; node = 0 })
    → IfOk r (λ ns. ns ≡ nodes_with t (take (length ps - i) (drop i ps))) → IfOk r (λ ns. AreNodesOf ps t ns)
if_found ps t i (Ok ns) h at e =
    subst (λ (ms : List ℕ). AreNodesOf ps t ms) (sym (e ∙ ap (nodes_with t) (take_rest ps i) ∙ ap (λ (k : ℕ). nodes_with t (drop k ps)) at)) (nodes_found ps t h)
if_found ps t i (Err x) h at e = tt

-- ---- candidates

true_is : (b : Bool) → is_true (truth_of b) ≡ true → b ≡ true
true_is true e = refl
true_is false e = cc

is_true_of : (b : Bool) → b ≡ true → is_true (truth_of b) ≡ true
is_true_of true e = refl
is_true_of false e = cc

exact_at : (ps : List Posting) (nodes : List ℕ) (kind : TypeRef) (normal : Option (List ℕ)) (n : ℕ) (e : Entry) → AreAsserted ps kind normal nodes → IsEntryAt ps n e
    → (In n nodes → is_true (truth_by is_equal kind normal e) ≡ true) × (is_true (truth_by is_equal kind normal e) ≡ true → In n nodes)
exact_at ps nodes (Known k) (Some x) n e a at = (
  (λ i. is_true_of (has_value e k x) ((at.exact k x).0 ((a.same n).0 i))),
  λ h. (a.same n).1 ((at.exact k x).1 (true_is (has_value e k x) h)),
)
exact_at ps nodes (Known k) None n e a at = ((λ i. absurd (none a i)), λ h. cc)
  where
    none : nodes ≡ [] → In n nodes → ⊥
    none q i = elim (subst (λ (ns : List ℕ). In n ns) q i) [ ]
exact_at ps nodes (Unknown arcs) normal n e a at = ((λ i. absurd (none a i)), λ h. cc)
  where
    none : nodes ≡ [] → In n nodes → ⊥
    none q i = elim (subst (λ (ns : List ℕ). In n ns) q i) [ ]

once_of : (ps : List Posting) (nodes : List ℕ) (kind : TypeRef) (normal : Option (List ℕ)) → AreAsserted ps kind normal nodes → Once nodes
once_of ps nodes (Known k) (Some x) a = a.once
once_of ps nodes (Known k) None a = subst (λ (ns : List ℕ). Once ns) (sym a) tt
once_of ps nodes (Unknown arcs) normal a = subst (λ (ns : List ℕ). Once ns) (sym a) tt

-- ---- what is looked up is true where the filter is

same_assertion : (k : TypeRef) (a b : Assertion) → known_assertion k b ≡ Some a → b ≡ a
same_assertion (Known n) a b e = cc
same_assertion (Unknown arcs) a b e = cc

item_implies : (item : Item) (a : Assertion) (e : Entry) → asserted_in item ≡ Some a → is_true (item_truth item e) ≡ true → is_true (item_truth (Equality a) e) ≡ true
item_implies (Equality b) a e s h = subst (λ (c : Assertion). is_true (item_truth (Equality c) e) ≡ true) (same_assertion b.kind a b s) h
item_implies (Substrings b) a e s h = cc
item_implies (GreaterOrEqual b) a e s h = cc
item_implies (LessOrEqual b) a e s h = cc
item_implies (Present kind) a e s h = cc
item_implies (Approximate b) a e s h = cc

member_implies : (f : Filter) (a : Assertion) (e : Entry) → equality_in f ≡ Some a → is_true (filter_truth f e) ≡ true → is_true (item_truth (Equality a) e) ≡ true
member_implies (Is item) a e s h = item_implies item a e s h
member_implies (And members) a e s h = cc
member_implies (Or members) a e s h = cc
member_implies (Not member) a e s h = cc

both : (s t : Truth) → is_true (truth_and s t) ≡ true → (is_true s ≡ true) × (is_true t ≡ true)
both False t e = cc
both Undefined False e = cc
both Undefined Undefined e = cc
both Undefined True e = cc
both True t e = (refl, e)

some_implies : (fs : Filters) (a : Assertion) (e : Entry) → first_equality fs ≡ Some a → is_true (all_truth fs e) ≡ true → is_true (item_truth (Equality a) e) ≡ true
some_implies Nil a e s h = cc
some_implies (More f more) a e s h =
    let w = both (filter_truth f e) (all_truth more e) h in
    by (equality_in f) refl s w.0 (λ q. some_implies more a e q w.1)
  where
    by : (o : Option Assertion) → equality_in f ≡ o → or_else o (first_equality more) ≡ Some a → is_true (filter_truth f e) ≡ true
        → (first_equality more ≡ Some a → is_true (item_truth (Equality a) e) ≡ true) → is_true (item_truth (Equality a) e) ≡ true
    by None q s h g = g s
    by (Some b) q s h g = member_implies f a e (q ∙ s) h

implies : (f : Filter) (a : Assertion) (e : Entry) → looked_up f ≡ Some a → selects_entry f e ≡ true → is_true (item_truth (Equality a) e) ≡ true
implies (Is item) a e s h = item_implies item a e s h
implies (And members) a e s h = some_implies members a e s h
implies (Or members) a e s h = cc
implies (Not member) a e s h = cc

pub candidates_are : (ps : List Posting) (f : Filter) (a : Assertion) (nodes : List ℕ) → looked_up f ≡ Some a → AreAsserted ps a.kind a.normal nodes → AreCandidates ps f nodes
candidates_are ps f a nodes s h = record {
  asserted = a;
  first = s;
  exact = λ n e at. exact_at ps nodes a.kind a.normal n e h at;
  complete = λ n e at q. (exact_at ps nodes a.kind a.normal n e h at).1 (implies f a e s q);
  once = once_of ps nodes a.kind a.normal h;
}
