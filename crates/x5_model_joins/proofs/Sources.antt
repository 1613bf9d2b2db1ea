-- The entries of sources: each key once, and each marked by its source, because it belongs to one context alone.
use Rattle.std.proofs.Common.{◌≡◌, ℕ, Bool, true, false, ◌&&◌, ◌||◌, ◌⊎◌, inl, inr, ◌↔◌, List, [], ◌∷◌, ◌++◌, map, refl, sym, ap, subst, ◌∙◌, Option, Some, None}
use Rattle.std.specs.List.{list_any, flat_map}
use Rattle.std.specs.Option.{is_some}
use Rattle.x5_model.specs.Words.{some_and}
use Rattle.x5_model.specs.Members.{In, here, Once}
use Rattle.x5_model.specs.Keys.{Key, same_key, is_prefix}
use Rattle.x5_model.specs.Values.{key_of}
use Rattle.x5_model.specs.Entries.{Named}
use Rattle.x5_model.specs.Answers.{Source}
use Rattle.x5_model.proofs.KeyLaws.{key_decides}
use Rattle.x5_model.proofs.Prefixes.{prefix_decides}
use Rattle.x5_model.proofs.Decide.{once_decides}
use Rattle.x5_model.proofs.Lists.{both_true, and_true, true_or_false, in_first, in_left, in_right, in_map, of_map, of_flat, of_filter, any_in, of_any, once_map}
use Rattle.x5_model.proofs.Ascending.{AllApart, keys_apart}
use Rattle.x5_model_tree.specs.Tree.{Tree, key_at, keys_of, named_below, part, longest}
use Rattle.x5_model_tree.specs.Masters.{pin_of, mastered, pins}
use Rattle.x5_model_tree.proofs.Longest.{IsLongest, longest_is, belongs_decides}
use Rattle.x5_model_tree.proofs.Order.{once_apart}
use Rattle.x5_model_run.specs.History.{Point, tree_at, knowledge_at}
use Rattle.x5_model_run.specs.Covers.{source_tree, is_copied}
use Rattle.x5_model_theory.specs.Knowledge.{Area}
use Rattle.x5_model_theory.specs.Coherent.{Coherent}
use Rattle.x5_model_theory.specs.Described.{area_of, knowledge_of}
use Rattle.x5_model_theory.specs.Changing.{holding, with_entries}
use Rattle.x5_model_parts.specs.Standing.{Stands, StoodAt}
use Rattle.x5_model_joins.specs.Joins.{AreParts}
use Rattle.x5_model_joins.proofs.Joined.{Across, apart_joined, map_joined}

-- ---- a tree of now, or of a moment at which contexts were the same

pub record Sound (p : Point) (t : Tree) : Type 0 where
  pub coherent : Coherent (with_entries (λ c. keys_of (part t c.prefix)) (knowledge_of (knowledge_at p)))
  pub pins_are : (q : Key) → In q t.pins ↔ In q (pins (knowledge_at p))

pub sound_source : (p : Point) → Stands p → (o : Option ℕ) → ((m : ℕ) → o ≡ Some m → StoodAt p m) → Sound p (source_tree p o)
sound_source p s None f = record { coherent = s.coherent; pins_are = s.pins_are }
sound_source p s (Some m) f = let x = f m refl in record { coherent = x.coherent; pins_are = x.pins_are }

-- an entry's context is that of its longest pin now
pub home : (p : Point) → Stands p → (t : Tree) → Sound p t → (pin : Key) (e : Named) → In e (part t pin) → IsLongest (tree_at p).pins (key_at e) (Some pin)
home p s t sound pin e i =
    let l : IsLongest t.pins (key_at e) (Some pin) = (belongs_decides t.pins pin (key_at e)).0 (of_filter _ e t.entries i).1 in
    ((s.pins_are pin).1 ((sound.pins_are pin).0 l.0), (l.1.0, λ q j y. l.1.1 q ((sound.pins_are q).1 ((s.pins_are q).0 j)) y))

part_once : (p : Point) (t : Tree) → Sound p t → (pin : Key) → Once (keys_of (part t pin))
part_once p t sound pin = go (part t pin) refl
  where
    once_at : (e : Named) → In e (part t pin) → Once (keys_of (part t pin))
    once_at e i =
        let l : IsLongest t.pins (key_at e) (Some pin) = (belongs_decides t.pins pin (key_at e)).0 (of_filter _ e t.entries i).1 in
        let m = of_map pin_of pin (mastered (knowledge_at p)) ((sound.pins_are pin).0 l.0) in
        let c : Area = area_of m.0 in
        let inside : In (holding (λ d. keys_of (part t d.prefix)) c) (map (holding (λ d. keys_of (part t d.prefix))) (knowledge_of (knowledge_at p)).areas) =
        in_map (holding (λ d. keys_of (part t d.prefix))) c (knowledge_of (knowledge_at p)).areas (in_map area_of m.0 (mastered (knowledge_at p)) m.1) in
        subst (λ (q : Key). Once (keys_of (part t q))) (sym m.2) (sound.coherent.entries_apart (holding (λ d. keys_of (part t d.prefix)) c) inside)

    go : (xs : List Named) → part t pin ≡ xs → Once (keys_of (part t pin))
    go [] e = subst (λ (ys : List Named). Once (keys_of ys)) (sym e) tt
    go (x ∷ xs) e = once_at x (subst (λ (ys : List Named). In x ys) (sym e) here)

part_apart : (p : Point) (t : Tree) → Sound p t → (pin : Key) → AllApart named_below (part t pin)
part_apart p t sound pin = once_apart (part t pin) ((once_decides same_key key_decides (keys_of (part t pin))).1 (part_once p t sound pin))

-- ---- members once

once_left : {A : Type 0} (xs ys : List A) → Once (xs ++ ys) → Once xs
once_left [] ys o = tt
once_left (x ∷ xs) ys o = ((λ i. o.0 (in_left x xs ys i)), once_left xs ys o.1)

once_right : {A : Type 0} (xs ys : List A) → Once (xs ++ ys) → Once ys
once_right [] ys o = o
once_right (x ∷ xs) ys o = once_right xs ys o.1

once_across : {A : Type 0} (z : A) (xs ys : List A) → Once (xs ++ ys) → In z xs → In z ys → ⊥
once_across z [] ys o i j = elim i [ ]
once_across z (x ∷ xs) ys o i j = elim (in_first z x xs i) [
  | inl e ↦ o.0 (in_right x xs ys (subst (λ w. In w ys) e j))
  | inr k ↦ once_across z xs ys o.1 k j
]

abbrev pub context_at : Source → Key
context_at x = key_of x.context

pub left_parts : (p : Point) (xs ys : List Source) → AreParts p (xs ++ ys) → AreParts p xs
left_parts p xs ys h = record {
  once = once_left (map context_at xs) (map context_at ys) (subst Once (map_joined context_at xs ys) h.once);
  stood = λ x m i. h.stood x m (in_left x xs ys i);
}

pub right_parts : (p : Point) (xs ys : List Source) → AreParts p (xs ++ ys) → AreParts p ys
right_parts p xs ys h = record {
  once = once_right (map context_at xs) (map context_at ys) (subst Once (map_joined context_at xs ys) h.once);
  stood = λ x m i. h.stood x m (in_right x xs ys i);
}

pub other_context : (p : Point) (xs ys : List Source) → AreParts p (xs ++ ys) → (x y : Source) → In x xs → In y ys → context_at x ≡ context_at y → ⊥
other_context p xs ys h x y i j e =
    once_across (context_at x) (map context_at xs) (map context_at ys) (subst Once (map_joined context_at xs ys) h.once) (in_map context_at x xs i)
    (subst (λ (k : Key). In k (map context_at ys)) (sym e) (in_map context_at y ys j))

-- ---- their entries

abbrev pub entries_of : Point → List Source → List Named
entries_of p sources = flat_map (λ s. part (source_tree p s.moment) (key_of s.context)) sources

flat_joined : {A B : Type 0} (f : A → List B) (xs ys : List A) → flat_map f (xs ++ ys) ≡ flat_map f xs ++ flat_map f ys
flat_joined f [] ys = refl
flat_joined f (x ∷ xs) ys = ap (λ zs. f x ++ zs) (flat_joined f xs ys) ∙ sym (assoc (f x) (flat_map f xs) (flat_map f ys))
  where
    assoc : {B : Type 0} (us vs ws : List B) → (us ++ vs) ++ ws ≡ us ++ (vs ++ ws)
    assoc [] vs ws = refl
    assoc (u ∷ us) vs ws = ap (λ zs. u ∷ zs) (assoc us vs ws)

pub entries_joined : (p : Point) (xs ys : List Source) → entries_of p (xs ++ ys) ≡ entries_of p xs ++ entries_of p ys
entries_joined p xs ys = flat_joined (λ s. part (source_tree p s.moment) (key_of s.context)) xs ys

module _ (p : Point) (s : Stands p) where
  pub at_home : (sources : List Source) → AreParts p sources → (x : Source) (e : Named) → In x sources → In e (part (source_tree p x.moment) (key_of x.context)) → IsLongest (tree_at p).pins (key_at e) (Some (key_of x.context))
  at_home sources h x e i j = home p s (source_tree p x.moment) (sound_source p s x.moment (λ m. h.stood x m i)) (key_of x.context) e j

  -- each is of some source, whose context is a prefix of its name
  pub of_source : (sources : List Source) → AreParts p sources → (e : Named) → In e (entries_of p sources)
      → (x : Source) × In x sources × (longest (tree_at p).pins (key_at e) ≡ Some (key_of x.context)) × (is_prefix (key_of x.context) (key_at e) ≡ true)
  of_source sources h e i =
      let w = of_flat (λ x. part (source_tree p x.moment) (key_of x.context)) e sources i in
      let l = at_home sources h w.0 e w.1 w.2 in
      (w.0, w.1, longest_is (tree_at p).pins (key_at e) (key_of w.0.context) l, (prefix_decides (key_of w.0.context) (key_at e)).1 l.1.0)

  apart_by_key : (d e : Named) → (key_at d ≡ key_at e → ⊥) → (named_below d e ≡ true) ⊎ (named_below e d ≡ true)
  apart_by_key d e differ = elim (true_or_false (same_key (key_at d) (key_at e))) [
    | inl q ↦ absurd (differ ((key_decides (key_at d) (key_at e)).0 q))
    | inr q ↦ keys_apart (key_at d) (key_at e) q
  ]

  inside : {x y : Key} → Some x ≡ Some y → x ≡ y
  inside e = cc

  pub across_sources : (xs ys : List Source) → AreParts p (xs ++ ys) → Across named_below (entries_of p xs) (entries_of p ys)
  across_sources xs ys h d e i j = apart_by_key d e (λ same.
      (let u = of_source xs (left_parts p xs ys h) d i in
      let v = of_source ys (right_parts p xs ys h) e j in
      other_context p xs ys h u.0 v.0 u.1 v.1 (inside (sym u.2 ∙ ap (longest (tree_at p).pins) same ∙ v.2))))

  pub apart_sources : (sources : List Source) → AreParts p sources → AllApart named_below (entries_of p sources)
  apart_sources [] h = tt
  apart_sources (x ∷ xs) h =
      apart_joined named_below (part (source_tree p x.moment) (key_of x.context)) (entries_of p xs)
      (part_apart p (source_tree p x.moment) (sound_source p s x.moment (λ m. h.stood x m here)) (key_of x.context))
      (apart_sources xs (right_parts p (x ∷ []) xs h))
      (λ d e i j. across_sources (x ∷ []) xs h d e (in_left d (part (source_tree p x.moment) (key_of x.context)) [] i) j)

  -- ---- their marks

  any_joined : (t : Source → Bool) (xs ys : List Source) → list_any t (xs ++ ys) ≡ (list_any t xs || list_any t ys)
  any_joined t [] ys = refl
  any_joined t (x ∷ xs) ys = ap (λ b. t x || b) (any_joined t xs ys) ∙ assoc (t x) (list_any t xs) (list_any t ys)
    where
      assoc : (a b c : Bool) → (a || (b || c)) ≡ ((a || b) || c)
      assoc true b c = refl
      assoc false b c = refl

  abbrev pub copy_of : Key → Source → Bool
  copy_of pin x = same_key (key_of x.context) pin && is_some x.moment

  pub mark_at : (sources : List Source) (key pin : Key) → longest (tree_at p).pins key ≡ Some pin → is_copied p sources key ≡ list_any (copy_of pin) sources
  mark_at sources key pin e = ap (λ (o : Option Key). some_and (λ (q : Key). list_any (copy_of q) sources) o) e

  or_false : (b : Bool) → (b || false) ≡ b
  or_false true = refl
  or_false false = refl

  no_copy : (sources : List Source) (pin : Key) → ((y : Source) → In y sources → key_of y.context ≡ pin → ⊥) → list_any (copy_of pin) sources ≡ false
  no_copy sources pin f = elim (true_or_false (list_any (copy_of pin) sources)) [
    | inl q ↦ (let w = of_any (copy_of pin) sources q in absurd (f w.0 w.1 ((key_decides (key_of w.0.context) pin).0 (both_true (same_key (key_of w.0.context) pin) (is_some w.0.moment) w.2).0)))
    | inr q ↦ q
  ]

  -- the mark of a source's entry is the source's
  pub own_mark : (sources : List Source) → AreParts p sources → (x : Source) (e : Named) → In x sources → In e (part (source_tree p x.moment) (key_of x.context))
      → is_copied p sources (key_at e) ≡ is_some x.moment
  own_mark sources h x e i j =
      mark_at sources (key_at e) (key_of x.context) (longest_is (tree_at p).pins (key_at e) (key_of x.context) (at_home sources h x e i j)) ∙ by (is_some x.moment) refl
    where
      copied : list_any (copy_of (key_of x.context)) sources ≡ true → is_some x.moment ≡ true
      copied q =
          let w = of_any (copy_of (key_of x.context)) sources q in
          let b = both_true (same_key (key_of w.0.context) (key_of x.context)) (is_some w.0.moment) w.2 in
          let same : w.0 ≡ x = once_map context_at sources w.0 x h.once w.1 i ((key_decides (key_of w.0.context) (key_of x.context)).0 b.0) in
          ap (λ (y : Source). is_some y.moment) (sym same) ∙ b.1

      by : (m : Bool) → is_some x.moment ≡ m → list_any (copy_of (key_of x.context)) sources ≡ m
      by true q = any_in (copy_of (key_of x.context)) x sources i (and_true (same_key (key_of x.context) (key_of x.context)) (is_some x.moment) ((key_decides (key_of x.context) (key_of x.context)).1 refl) q)
      by false q = elim (true_or_false (list_any (copy_of (key_of x.context)) sources)) [
        | inl y ↦ (let z : is_some x.moment ≡ true = copied y in cc)
        | inr y ↦ y
      ]

  pub left_marks : (xs ys : List Source) → AreParts p (xs ++ ys) → (e : Named) → In e (entries_of p xs) → is_copied p xs (key_at e) ≡ is_copied p (xs ++ ys) (key_at e)
  left_marks xs ys h e i =
      let u = of_source xs (left_parts p xs ys h) e i in
      let pin : Key = key_of u.0.context in
      mark_at xs (key_at e) pin u.2
      ∙ sym (mark_at (xs ++ ys) (key_at e) pin u.2 ∙ any_joined (copy_of pin) xs ys ∙ ap (λ b. list_any (copy_of pin) xs || b) (no_copy ys pin (λ y j q. other_context p xs ys h u.0 y u.1 j (sym q))) ∙ or_false (list_any (copy_of pin) xs))

  pub right_marks : (xs ys : List Source) → AreParts p (xs ++ ys) → (e : Named) → In e (entries_of p ys) → is_copied p ys (key_at e) ≡ is_copied p (xs ++ ys) (key_at e)
  right_marks xs ys h e i =
      let u = of_source ys (right_parts p xs ys h) e i in
      let pin : Key = key_of u.0.context in
      mark_at ys (key_at e) pin u.2
      ∙ sym (mark_at (xs ++ ys) (key_at e) pin u.2 ∙ any_joined (copy_of pin) xs ys ∙ ap (λ b. b || list_any (copy_of pin) ys) (no_copy xs pin (λ y j q. other_context p xs ys h y u.0 j u.1 q)))
