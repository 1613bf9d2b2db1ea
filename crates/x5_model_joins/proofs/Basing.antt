-- The base of a list or search is there where an agent begins it: by the ways to begin, the base is an entry of a
-- context with which it begins.
use Rattle.std.proofs.Common.{◌≡◌, Bool, true, false, not, ◌&&◌, ◌||◌, ◌==◌, if◌then◌else◌, ◌⊎◌, inl, inr, List, [], ◌∷◌, length, refl, sym, ap, subst, ◌∙◌, Option, Some, None}
use Rattle.std.specs.List.{filter, flat_map}
use Rattle.std.specs.Option.{is_some}
use Rattle.x5_model.specs.Words.{is_empty, in_option}
use Rattle.x5_model.specs.Members.{In, here}
use Rattle.x5_model.specs.Keys.{Key, same_key, is_child, is_root}
use Rattle.x5_model.specs.Values.{key_of}
use Rattle.x5_model.specs.Entries.{Named}
use Rattle.x5_model.specs.Requests.{Subset}
use Rattle.x5_model.specs.References.{Progress, Start, Next, Done, Chained}
use Rattle.x5_model.proofs.KeyLaws.{key_decides}
use Rattle.x5_model.proofs.Lists.{both_true, either_true, or_left, or_right, true_or_false, in_flat, of_filter, any_in, of_any}
use Rattle.x5_model.proofs.Ascending.{in_sorted}
use Rattle.x5_model_tree.specs.Tree.{Tree, tree_of, key_at, keys_of, named_below, is_there, is_there_or_root}
use Rattle.x5_model_tree.specs.Ask.{in_subset}
use Rattle.x5_model_run.specs.Journal.{Line, is_done, is_wide}
use Rattle.x5_model_run.specs.Holdings.{Held, Holdings, served, known_pin, is_first_level}
use Rattle.x5_model_run.specs.Needs.{resolves, subset_of, is_excluded, begins_at, evaluated, answers_root}
use Rattle.x5_model_run.specs.History.{Point, knowledge_at, tree_at, holdings_at}
use Rattle.x5_model_theory.proofs.Rows.{resolved}
use Rattle.x5_model_theory.proofs.Views.{there_decides}
use Rattle.x5_model_parts.specs.Standing.{knowledge_now}
use Rattle.x5_model_parts.specs.Parts.{BeginsHere}
use Rattle.x5_model_parts.proofs.Asking.{false_true}
use Rattle.x5_model_parts.proofs.Spots.{level_in, evaluated_is}
use Rattle.x5_model_parts.proofs.Copying.{Serving, own_serving, all_serving}
use Rattle.x5_model_parts.proofs.Joining.{sight, spots_are_once}
use Rattle.x5_model_serve.specs.Walking.{entered}
use Rattle.x5_model_serve.proofs.Walks.{in_walk}

-- the contexts of the walk as one tree
abbrev pub local_tree : Holdings → Chained → Tree
local_tree h m = tree_of (flat_map (λ c. c.entries) (entered h m)) []

abbrev found : Holdings → Chained → Subset → Option Key → List Held
found h m sub None =
    if is_first_level h && is_root (key_of m.target)
    then filter (λ (c : Held). (length c.prefix == 1) && in_subset sub (key_of m.target) (key_of c.prefix)) (served m.request h)
    else []
found h m sub (Some q) = filter (λ (c : Held). same_key (key_of c.prefix) q && is_there c.entries (key_of m.target)) (served m.request h)

begins_resolved : (h : Holdings) (m : Chained) (sub : Subset) → resolves h m ≡ true → begins_at h m sub ≡ found h m sub (known_pin m.request h (key_of m.target))
begins_resolved h m sub e =
    resolved h m (λ (y : Progress). begins_at h (record m { progress = y }) sub ≡ found h m sub (known_pin m.request h (key_of m.target))) e refl
    (λ j d. ap (λ (b : Bool). if b then found h m sub (known_pin m.request h (key_of m.target)) else []) d)

some_member : (xs : List Held) → not (is_empty xs) ≡ true → (c : Held) × In c xs
some_member [] e = absurd (false_true e)
some_member (x ∷ xs) e = (x, here)

of_found : (h : Holdings) (m : Chained) (sub : Subset) (x : Option Key) (c : Held) → In c (found h m sub x) → (is_root (key_of m.target) ≡ true) ⊎ (is_there c.entries (key_of m.target) ≡ true)
of_found h m sub None c i = go (is_first_level h && is_root (key_of m.target)) refl i
  where
    go : (b : Bool) → (is_first_level h && is_root (key_of m.target)) ≡ b → In c (if b then filter (λ (c : Held). (length c.prefix == 1) && in_subset sub (key_of m.target) (key_of c.prefix)) (served m.request h) else [])
        → (is_root (key_of m.target) ≡ true) ⊎ (is_there c.entries (key_of m.target) ≡ true)
    go false e j = elim j [ ]
    go true e j = inl (both_true (is_first_level h) (is_root (key_of m.target)) e).1
of_found h m sub (Some q) c i =
    let f = of_filter (λ (c : Held). same_key (key_of c.prefix) q && is_there c.entries (key_of m.target)) c (served m.request h) i in
    inr (both_true (same_key (key_of c.prefix) q) (is_there c.entries (key_of m.target)) f.1).1

-- where the name is still to be resolved
not_completed : (h : Holdings) (m : Chained) (sub : Subset) (c : Held) → In c (begins_at h m sub) → is_done m.progress ≡ false → (is_root (key_of m.target) ≡ true) ⊎ (is_there c.entries (key_of m.target) ≡ true)
not_completed h m sub c i going = elim (true_or_false (resolves h m)) [
  | inl r ↦ of_found h m sub (known_pin m.request h (key_of m.target)) c (subst (λ (xs : List Held). In c xs) (begins_resolved h m sub r) i)
  | inr r ↦ go m.progress going r i
]
  where
    go : (x : Progress) → is_done x ≡ false → resolves h (record m { progress = x }) ≡ false → In c (begins_at h (record m { progress = x }) sub) → (is_root (key_of m.target) ≡ true) ⊎ (is_there c.entries (key_of m.target) ≡ true)
    go Start d r j = absurd (false_true (sym r))
    go (Next k) d r j = elim (subst (λ (xs : List Held). In c xs) (ap (λ (b : Bool). if b then found h m sub (known_pin m.request h (key_of m.target)) else []) r) j) [ ]
    go Done d r j = absurd (false_true (sym d))

-- what came by a reference to a pin
at_pin : (h : Holdings) (m : Chained) (sub : Subset) (c : Held) → In c (begins_at h m sub) → is_done m.progress ≡ true → is_wide m.kind ≡ false → In c (served m.request h) × (key_of c.prefix ≡ key_of m.target)
at_pin h m sub c i done narrow = go m.progress done i
  where
    by : (b : Bool) → b ≡ false
        → In c (if b then filter (λ (c : Held). is_child (key_of m.target) (key_of c.prefix) && (in_subset sub (key_of m.target) (key_of c.prefix) && not (is_excluded m.exclusions c.prefix))) h.own
        else filter (λ (c : Held). same_key (key_of c.prefix) (key_of m.target)) (served m.request h))
        → In c (served m.request h) × (key_of c.prefix ≡ key_of m.target)
    by true e j = absurd (false_true (sym e))
    by false e j = let f = of_filter (λ (c : Held). same_key (key_of c.prefix) (key_of m.target)) c (served m.request h) j in (f.0, (key_decides (key_of c.prefix) (key_of m.target)).0 f.1)

    go : (x : Progress) → is_done x ≡ true → In c (begins_at h (record m { progress = x }) sub) → In c (served m.request h) × (key_of c.prefix ≡ key_of m.target)
    go Start d j = absurd (false_true d)
    go (Next k) d j = absurd (false_true d)
    go Done d j = by (is_wide m.kind) narrow j

module _ (p : Point) (l : Line) (b : BeginsHere p l) where
  abbrev h : Holdings
  h = holdings_at p l.receiver

  abbrev m : Chained
  m = l.message

  abbrev sub : Subset
  sub = (sight p l b).look.subset

  asked : subset_of l.message ≡ Some (sight p l b).look.subset
  asked = (sight p l b).sees_it.subset

  abbrev begins : Subset → Bool
  begins s = (is_done l.message.progress && is_wide l.message.kind) || (answers_root (holdings_at p l.receiver) l.message || not (is_empty (begins_at (holdings_at p l.receiver) l.message s)))

  begun : begins sub ≡ true
  begun = sym (ap (in_option false begins) asked) ∙ b.begins

  in_local : (c : Held) → In c (begins_at h m sub) → is_there c.entries (key_of l.message.target) ≡ true → is_there_or_root (local_tree (holdings_at p l.receiver) l.message).entries (key_of l.message.target) ≡ true
  in_local c i there_too =
      let v = sight p l b in
      let e = of_any (λ (x : Named). same_key (key_at x) (key_of l.message.target)) c.entries there_too in
      let inside : In c (evaluated (holdings_at p l.receiver) l.message) = subst (λ (xs : List Held). In c xs) (sym (evaluated_is (knowledge_at p) (tree_at p) (knowledge_now p) l.receiver (holdings_at p l.receiver) l.message v.look v.sees_it))
      (level_in (knowledge_at p) (tree_at p) (knowledge_now p) l.receiver (holdings_at p l.receiver) l.message v.look v.sees_it 16 (begins_at (holdings_at p l.receiver) l.message (sight p l b).look.subset) c i) in
      or_right (is_root (key_of l.message.target)) (is_there (local_tree (holdings_at p l.receiver) l.message).entries (key_of l.message.target))
      (any_in (λ (x : Named). same_key (key_at x) (key_of l.message.target)) e.0 (local_tree (holdings_at p l.receiver) l.message).entries
      (in_sorted named_below e.0 (flat_map (λ (d : Held). d.entries) (entered (holdings_at p l.receiver) l.message)) (in_flat (λ (d : Held). d.entries) e.0 c (entered (holdings_at p l.receiver) l.message)
      (in_walk false (holdings_at p l.receiver) l.message (spots_are_once p l b) c inside) e.1)) e.2)

  at_root : is_root (key_of l.message.target) ≡ true → is_there_or_root (local_tree (holdings_at p l.receiver) l.message).entries (key_of l.message.target) ≡ true
  at_root r = or_left (is_root (key_of l.message.target)) (is_there (local_tree (holdings_at p l.receiver) l.message).entries (key_of l.message.target)) r

  from_root : answers_root h m ≡ true → is_root (key_of l.message.target) ≡ true
  from_root e =
      let x = both_true (is_some (subset_of l.message)) _ e in
      let y = both_true (is_first_level (holdings_at p l.receiver)) _ x.1 in
      (both_true (is_root (key_of l.message.target)) _ y.1).0

  headed : (c : Held) → In c (served l.message.request (holdings_at p l.receiver)) → In (key_of c.prefix) (keys_of c.entries)
  headed c i =
      let v = sight p l b in
      let facts : Serving p l.receiver v.agent l.message = elim b.copies [ inl none ↦ own_serving p b.stands l.receiver v.agent v.place l.message none | inr stood ↦ all_serving p b.stands l.receiver v.agent v.place l.message stood ] in
      facts.headed c (subst (λ (x : Holdings). In c (served l.message.request x)) v.is i)

  -- but where it came by a nonSpecific reference with a completed name, which has no base
  pub base_there : (is_done l.message.progress && is_wide l.message.kind) ≡ false → is_there_or_root (local_tree (holdings_at p l.receiver) l.message).entries (key_of l.message.target) ≡ true
  base_there narrow = elim (either_true (is_done l.message.progress && is_wide l.message.kind) _ begun) [
    | inl wide ↦ absurd (false_true (sym narrow ∙ wide))
    | inr more ↦ elim (either_true (answers_root (holdings_at p l.receiver) l.message) _ more) [
      | inl root ↦ at_root (from_root root)
      | inr some ↦ (let c = some_member (begins_at (holdings_at p l.receiver) l.message (sight p l b).look.subset) some in
          elim (true_or_false (is_done l.message.progress)) [
            | inl done ↦ (let x = at_pin (holdings_at p l.receiver) l.message (sight p l b).look.subset c.0 c.1 done (narrow_kind (is_done l.message.progress) (is_wide l.message.kind) done narrow) in
                in_local c.0 c.1 ((there_decides c.0.entries (key_of l.message.target)).1 (subst (λ (y : Key). In y (keys_of c.0.entries)) x.1 (headed c.0 x.0))))
            | inr going ↦ elim (not_completed (holdings_at p l.receiver) l.message (sight p l b).look.subset c.0 c.1 going) [
              | inl root ↦ at_root root
              | inr t ↦ in_local c.0 c.1 t
            ]
          ])
    ]
  ]
    where
      narrow_kind : (x y : Bool) → x ≡ true → (x && y) ≡ false → y ≡ false
      narrow_kind true y e f = f
      narrow_kind false y e f = absurd (false_true e)
