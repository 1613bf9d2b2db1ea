-- The entries of a whole context, taken one by one in the order of their keys: each next one can be added, and comes behind all
-- others.
use Rattle.std.proofs.Common.{◌≡◌, true, false, inl, inr, List, [], ◌∷◌, ◌++◌, refl, sym, ap, subst, ◌∙◌, Some, append_assoc}
use Rattle.std.proofs.lemmas.List.{append-nil}
use Rattle.std.specs.Option.{option_map}
use Rattle.x5_model.specs.Members.{In, here}
use Rattle.x5_model.specs.Words.{ascending, first_of}
use Rattle.x5_model.specs.Keys.{Key, same_key, key_below}
use Rattle.x5_model.specs.Values.{Name, key_of}
use Rattle.x5_model.specs.Entries.{Entry, Named}
use Rattle.x5_model.proofs.KeyLaws.{key_decides, never_below}
use Rattle.x5_model.proofs.Lists.{both_true, and_true, true_or_false, in_first, in_either, in_right, of_any}
use Rattle.x5_model.proofs.Ascending.{first_below, rest_ascending, sorted_itself}
use Rattle.x5_model_tree.specs.Tree.{key_at, named_below, is_there, sorted_entries}
use Rattle.x5_model_tree.proofs.Order.{named_chain, named_never}
use Rattle.x5_dse.specs.declared.node.NodeId.{NodeId}
use Rattle.x5_dse.specs.declared.node.DseFault.{DseFault}
use Rattle.x5_dse.specs.Linked.{Node, Nodes, entries_of}
use Rattle.x5_dse.specs.Changes.{Inserted, NotInserted}
use Rattle.x5_holdings.specs.State.{Kept, OnlyEntries}
use Rattle.x5_model_refreshed.specs.Doable.{IsBelow, CanAdd, AreWhole}
use Rattle.x5_consume.specs.Building.{IsExtended}
use Rattle.x5_consume.proofs.Adding.{above_before, not_refused, same_entry}

-- ---- parts of lists in order

front_ascending : (xs ys : List Named) → ascending named_below (xs ++ ys) ≡ true → ascending named_below xs ≡ true
front_ascending [] ys h = refl
front_ascending (x ∷ []) ys h = refl
front_ascending (x ∷ y ∷ xs) ys h =
    let w = both_true (named_below x y) (ascending named_below (y ∷ xs ++ ys)) h in
    and_true (named_below x y) (ascending named_below (y ∷ xs)) w.0 (front_ascending (y ∷ xs) ys w.1)

back_ascending : (xs ys : List Named) → ascending named_below (xs ++ ys) ≡ true → ascending named_below ys ≡ true
back_ascending [] ys h = h
back_ascending (x ∷ xs) ys h = back_ascending xs ys (rest_ascending named_below named_chain x (xs ++ ys) h)

all_before : (xs : List Named) (e f : Named) → ascending named_below (xs ++ e ∷ []) ≡ true → In f xs → named_below f e ≡ true
all_before [] e f h i = elim i [ ]
all_before (x ∷ xs) e f h i = elim (in_first f x xs i) [
  | inl q ↦ subst (λ (y : Named). named_below y e ≡ true) (sym q)
      (first_below named_below named_chain x e (xs ++ e ∷ []) h (in_right e xs (e ∷ []) here))
  | inr j ↦ all_before xs e f (rest_ascending named_below named_chain x (xs ++ e ∷ []) h) j
]

-- ---- the next entry

module _ (pin : Key) (xs : List Named) (e : Named) (left : List Named) (whole : AreWhole pin (xs ++ e ∷ left))
    (begins : option_map key_at (first_of xs) ≡ Some pin) where
  pub order_next : ascending named_below (xs ++ e ∷ []) ≡ true
  order_next =
      front_ascending (xs ++ e ∷ []) left
      (ap (λ (l : List Named). ascending named_below l) (append_assoc xs (e ∷ []) left) ∙ whole.in_order)

  absent : is_there xs (key_at e) ≡ false
  absent = elim (true_or_false (is_there xs (key_at e))) [
    | inl t ↦ absurd (
        let f = of_any (λ (g : Named). same_key (key_at g) (key_at e)) xs t in
        let same : key_at f.0 ≡ key_at e = (key_decides (key_at f.0) (key_at e)).0 f.2 in
        never_below (key_at e) (subst (λ (k : Key). key_below k (key_at e) ≡ true) same (all_before xs e f.0 order_next f.1)))
    | inr q ↦ q
  ]

  not_pin : key_at e ≡ pin → ⊥
  not_pin q = by xs begins order_next
    where
      inside : (x : Named) → Some (key_at x) ≡ Some pin → key_at x ≡ pin
      inside x s = cc

      by : (ys : List Named) → option_map key_at (first_of ys) ≡ Some pin → ascending named_below (ys ++ e ∷ []) ≡ true → ⊥
      by [] s h = cc
      by (y ∷ ys) s h =
          never_below pin
          (subst (λ (k : Key). key_below k pin ≡ true) (inside y s)
          (subst (λ (k : Key). key_below (key_at y) k ≡ true) q (all_before (y ∷ ys) e y h here)))

  from_all : IsBelow (xs ++ e ∷ left) e → IsBelow xs e
  from_all w =
      let before : named_below w.above e ≡ true = above_before (xs ++ e ∷ left) e w in
      elim (in_either w.above xs (e ∷ left) w.there) [
        | inl i ↦ record { above = w.above; there = i; spelled = w.spelled }
        | inr j ↦ elim (in_first w.above e left j) [
          | inl q ↦ absurd (named_never e (subst (λ (y : Named). named_below y e ≡ true) q before))
          | inr k ↦ absurd (named_never e (named_chain e w.above e
              (first_below named_below named_chain e w.above left (back_ascending xs (e ∷ left) whole.in_order) k) before))
        ]
      ]

  pub next_can : CanAdd xs e
  next_can = record {
    absent = absent;
    below = elim (whole.above e (in_right e xs (e ∷ left) here)) [ inl q ↦ absurd (not_pin q) | inr w ↦ from_all w ];
  }

-- ---- one entry more

pub still_only : (a b c : Kept) → OnlyEntries a b → OnlyEntries b c → OnlyEntries a c
still_only a b c f g = record {
  prefix = g.prefix ∙ f.prefix;
  log = g.log ∙ f.log;
  subordinate = g.subordinate ∙ f.subordinate;
  nssrs = g.nssrs ∙ f.nssrs;
}

-- with room that was made before
module _ (old mid : Kept) (e : Named) (name : Name) (entry : Entry)
    (order : ascending named_below (entries_of old.nodes.nodes ++ e ∷ []) ≡ true)
    (can : CanAdd (entries_of old.nodes.nodes) e)
    (nodes : mid.nodes.nodes ≡ old.nodes.nodes) (first : name ≡ e.name) (second : entry ≡ e.entry) where
  can_too : CanAdd (entries_of mid.nodes.nodes) e
  can_too = subst (λ (ns : List Node). CanAdd (entries_of ns) e) (sym nodes) can

  order_too : ascending named_below (entries_of mid.nodes.nodes) ≡ true
  order_too =
      subst (λ (ns : List Node). ascending named_below (entries_of ns) ≡ true) (sym nodes)
      (front_ascending (entries_of old.nodes.nodes) (e ∷ []) order)

  pub refused_none : (fault : DseFault) → NotInserted mid.nodes.nodes (key_of name) fault → ⊥
  refused_none fault f = not_refused mid.nodes.nodes e (key_of name) fault can_too (ap key_of first) f

  pub extended : (id : NodeId) (after : Kept) → OnlyEntries old mid → Inserted mid.nodes name entry id after.nodes
      → OnlyEntries mid after → IsExtended old (e ∷ []) after
  extended id after f w g =
      let same : record { name = name; entry = entry } ≡ e = (λ i. record { name = first i; entry = second i }) in
      let is : entries_of after.nodes.nodes ≡ sorted_entries (entries_of mid.nodes.nodes ++ e ∷ []) =
      same_entry mid.nodes e id after.nodes order_too can_too.below
      (subst (λ (x : Named). Inserted mid.nodes x.name x.entry id after.nodes) same w) in
      record {
        entries = is ∙ ap (λ (ns : List Node). sorted_entries (entries_of ns ++ e ∷ [])) nodes
            ∙ sorted_itself named_below named_chain named_never (entries_of old.nodes.nodes ++ e ∷ []) order;
        rest = still_only old mid after f g;
      }

-- ---- and so all

abbrev entries_in : Kept → List Named
entries_in c = entries_of c.nodes.nodes

pub record SoFar (first : Kept) (all : List Named) (now : Kept) (left : List Named) : Type 0 where
  pub split : entries_in now ++ left ≡ entries_in first ++ all
  pub begins : first_of (entries_in now) ≡ first_of (entries_in first)
  pub rest : OnlyEntries first now

pub begun : (first : Kept) (all : List Named) (now : Kept) → now.nodes.nodes ≡ first.nodes.nodes → OnlyEntries first now
    → SoFar first all now all
begun first all now nodes others = record {
  split = ap (λ (ns : List Node). entries_of ns ++ all) nodes;
  begins = ap (λ (ns : List Node). first_of (entries_of ns)) nodes;
  rest = others;
}

module _ (pin : Key) (first : Kept) (all : List Named) (whole : AreWhole pin (entries_in first ++ all))
    (begins : option_map key_at (first_of (entries_in first)) ≡ Some pin)
    (now : Kept) (e : Named) (left : List Named) (s : SoFar first all now (e ∷ left)) where
  whole_now : AreWhole pin (entries_in now ++ e ∷ left)
  whole_now = subst (λ (l : List Named). AreWhole pin l) (sym s.split) whole

  begins_now : option_map key_at (first_of (entries_in now)) ≡ Some pin
  begins_now = ap (option_map key_at) s.begins ∙ begins

  pub next_order : ascending named_below (entries_in now ++ e ∷ []) ≡ true
  next_order = order_next pin (entries_in now) e left whole_now begins_now

  pub next_add : CanAdd (entries_in now) e
  next_add = next_can pin (entries_in now) e left whole_now begins_now

first_push : (xs ys : List Named) (pin : Key) → option_map key_at (first_of xs) ≡ Some pin → first_of (xs ++ ys) ≡ first_of xs
first_push [] ys pin e = cc
first_push (x ∷ xs) ys pin e = refl

pub one_taken : (pin : Key) (first : Kept) (all : List Named) (now : Kept) (e : Named) (left : List Named) (after : Kept)
    → option_map key_at (first_of (entries_in first)) ≡ Some pin
    → SoFar first all now (e ∷ left) → IsExtended now (e ∷ []) after → SoFar first all after left
one_taken pin first all now e left after begins s x = record {
  split = ap (λ (l : List Named). l ++ left) x.entries ∙ append_assoc (entries_in now) (e ∷ []) left ∙ s.split;
  begins = ap first_of x.entries
      ∙ first_push (entries_in now) (e ∷ []) pin (ap (option_map key_at) s.begins ∙ begins) ∙ s.begins;
  rest = still_only first now after s.rest x.rest;
}

pub all_taken : (first : Kept) (all : List Named) (now : Kept) → SoFar first all now [] → IsExtended first all now
all_taken first all now s = record { entries = sym (append-nil (entries_in now)) ∙ s.split; rest = s.rest }

-- with its index in order
pub finished : (first : Kept) (all : List Named) (now after : Kept) → after.nodes ≡ now.nodes → OnlyEntries now after
    → IsExtended first all now → IsExtended first all after
finished first all now after nodes others x = record {
  entries = ap (λ (ns : Nodes). entries_of ns.nodes) nodes ∙ x.entries;
  rest = still_only first now after x.rest others;
}
