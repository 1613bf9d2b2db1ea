-- What comes with a refresh names agents of the network and pins that an octet counts, as what its supplier knows does; so the
-- consumer's holdings do once it is taken.
use Rattle.std.proofs.Common.{◌≡◌, ℕ, zero, suc, ◌<◌, ◌&&◌, Bool, true, false, not, nat_lt, inl, inr, List, [], ◌∷◌, length, map, slice_get, slice_set, refl, sym, ap, subst, ◌∙◌, Option, Some, None, Ok}
use Rattle.std.specs.List.{filter, list_all}
use Rattle.std.specs.Option.{is_some, option_map}
use Rattle.std.proofs.lemmas.List.{map-set}
use Rattle.x5_model.specs.Words.{in_option}
use Rattle.x5_model.specs.Members.{In}
use Rattle.x5_model.specs.Keys.{Key, parent, same_key}
use Rattle.x5_model.specs.Values.{key_of}
use Rattle.x5_model.proofs.Decide.{less_decides}
use Rattle.x5_model.proofs.Lists.{all_in, and_true, both_true, in_either, in_map, of_all, of_filter, of_find, of_map}
use Rattle.x5_model_tree.specs.World.{Nssr as ModelNssr, Specific as ModelSpecific}
use Rattle.x5_model_tree.specs.Tree.{is_there}
use Rattle.x5_model_run.specs.Holdings.{Copy, Held, Holdings}
use Rattle.x5_model_known.specs.Holding.{access_names, context_names, copy_names, nssrs_name, references_name, superior_names}
use Rattle.x5_model_fitting.specs.Requests.{CountWithin}
use Rattle.x5_model_limits.specs.Holding.{BoundedHoldings}
use Rattle.x5_model_known.specs.Counted.{context_counted, copy_counted, is_counted, nssrs_counted, references_counted}
use Rattle.x5_ops.specs.declared.knowledge.Content.{Content}
use Rattle.x5_ops.specs.declared.knowledge.Nssr.{Nssr}
use Rattle.x5_ops.specs.declared.knowledge.Specific.{Specific}
use Rattle.x5_ops.specs.KnowledgeViews.{nssr_view, specific_view}
use Rattle.x5_dse.specs.Linked.{entries_of}
use Rattle.x5_holdings.specs.State.{CopyKept, Kept, State, copy_view, held_view, holdings_view, shadow_view}
use Rattle.x5_supply.specs.Supplied.{brought_of, content_of_copy, content_of_master, copy_of, mastered_among, mastered_of, of_master, or_else, or_inactive, others, reference, reference_to, total_of}
use Rattle.x5_supply.specs.Supplied as supply
use Rattle.x5_consume.specs.Taken.{IsTaken}
use Rattle.x5_refresh.specs.declared.brought.Brought.{Brought}
use Rattle.x5_refresh.specs.declared.brought.Brought.TheVariants.{Total, Steps}
use Rattle.x5_refresh.specs.Sent.{IsRefreshed, supply_of}
use Rattle.x5_world.specs.Refreshing.{IsBoundedIn, is_known_in}
use Rattle.x5_world.specs.Sent.{IsHolder}
use Rattle.x5_world.proofs.Acceptable.{ok_is, no_total, total_sent}
use Rattle.x5_world.proofs.Courses.{some_is}
use Rattle.x5_world.proofs.Limits.{taken_bounded}

-- ---- what is sent

-- a master's references are of what it knows, or to itself
module _ (test : ModelSpecific → Bool) (s : State) (c : Kept)
    (own : (d : Kept) → In d s.own → test (specific_view (reference_to s.me d.prefix)) ≡ true)
    (below : list_all test (map specific_view c.subordinate) ≡ true) where
  abbrev not_mastered : Specific → Bool
  not_mastered y = not (is_some (mastered_of s (key_of y.pin)))

  sent_one : (x : Specific) → In x (of_master s c) → test (specific_view x) ≡ true
  sent_one x i = elim (in_either x (supply.mastered_below s (entries_of c.nodes.nodes)) (others s c.subordinate) i) [
    | inl j ↦
        let d = of_map (λ (y : Kept). reference_to s.me y.prefix) x
        (filter (λ (y : Kept). is_there (entries_of c.nodes.nodes) (parent (key_of y.prefix))) s.own) j in
        let k = of_filter (λ (y : Kept). is_there (entries_of c.nodes.nodes) (parent (key_of y.prefix))) d.0 s.own d.1 in
        ap (λ (y : Specific). test (specific_view y)) d.2 ∙ own d.0 k.0
    | inr j ↦
        let d = of_map reference x (filter (λ (y : Specific). not_mastered y) c.subordinate) j in
        let k = of_filter (λ (y : Specific). not_mastered y) d.0 c.subordinate d.1 in
        ap (λ (y : Specific). test (specific_view y)) d.2
        ∙ of_all test (specific_view d.0) (map specific_view c.subordinate) below (in_map specific_view d.0 c.subordinate k.0)
  ]

  sent_all : list_all test (map specific_view (of_master s c)) ≡ true
  sent_all =
      all_in test (map specific_view (of_master s c))
      (λ y i. (let d = of_map specific_view y (of_master s c) i in ap test d.2 ∙ sent_one d.0 d.1))

nssrs_seen : (xs : List Nssr) → map nssr_view (map supply.nssr xs) ≡ map nssr_view xs
nssrs_seen [] = refl
nssrs_seen (x ∷ xs) = ap (λ (ys : List ModelNssr). nssr_view x ∷ ys) (nssrs_seen xs)

pub references_seen : (xs : List Specific) → map specific_view (map reference xs) ≡ map specific_view xs
references_seen [] = refl
references_seen (x ∷ xs) = ap (λ (ys : List ModelSpecific). specific_view x ∷ ys) (references_seen xs)

-- what is so of all that is held
module _ (names : List (List ℕ)) (a : ℕ) (h : Holdings) (x : IsHolder names a h) where
  abbrev agents : ℕ
  agents = length names

  rest_name : (list_all (context_names agents) h.own && (list_all (copy_names agents) h.copies && (references_name agents h.root && references_name agents h.cross))) ≡ true
  rest_name =
      (both_true (superior_names agents h.superior)
      (list_all (context_names agents) h.own && (list_all (copy_names agents) h.copies && (references_name agents h.root && references_name agents h.cross))) x.known).1

  rest_own : (list_all (context_names agents) h.own ≡ true) × ((list_all (copy_names agents) h.copies && (references_name agents h.root && references_name agents h.cross)) ≡ true)
  rest_own = both_true (list_all (context_names agents) h.own) (list_all (copy_names agents) h.copies && (references_name agents h.root && references_name agents h.cross)) rest_name

  copies_name : list_all (copy_names agents) h.copies ≡ true
  copies_name = (both_true (list_all (copy_names agents) h.copies) (references_name agents h.root && references_name agents h.cross) rest_own.1).0

  rest_counted : (list_all context_counted h.own ≡ true) × ((list_all copy_counted h.copies && (references_counted h.root && references_counted h.cross)) ≡ true)
  rest_counted = both_true (list_all context_counted h.own) (list_all copy_counted h.copies && (references_counted h.root && references_counted h.cross)) x.counted

  copies_counted : list_all copy_counted h.copies ≡ true
  copies_counted = (both_true (list_all copy_counted h.copies) (references_counted h.root && references_counted h.cross) rest_counted.1).0

abbrev both_known : ℕ → List ModelSpecific → List ModelNssr → Bool
both_known n ks xs = (references_name n ks && nssrs_name n xs) && (references_counted ks && nssrs_counted xs)

both : (n : ℕ) (ks : List ModelSpecific) (xs : List ModelNssr) → (references_name n ks && nssrs_name n xs) ≡ true
    → (references_counted ks && nssrs_counted xs) ≡ true → both_known n ks xs ≡ true
both n ks xs e f = and_true (references_name n ks && nssrs_name n xs) (references_counted ks && nssrs_counted xs) e f

module _ (names : List (List ℕ)) (a : ℕ) (s : State) (there : a < length names) (x : IsHolder names a (holdings_view s)) where
  abbrev many : ℕ
  many = length names

  -- a master's content
  master_known : (c : Kept) → In c s.own → both_known many (map specific_view (of_master s c)) (map nssr_view (map supply.nssr c.nssrs)) ≡ true
  master_known c i =
      let named = both_true (references_name many (map specific_view c.subordinate)) (nssrs_name many (map nssr_view c.nssrs))
      (of_all (context_names many) (held_view c) (map held_view s.own) (rest_own names a (holdings_view s) x).0 (in_map held_view c s.own i)) in
      let counts = both_true (references_counted (map specific_view c.subordinate)) (nssrs_counted (map nssr_view c.nssrs))
      (counted_of c i).1 in
      subst (λ (ys : List ModelNssr). both_known many (map specific_view (of_master s c)) ys ≡ true) (sym (nssrs_seen c.nssrs))
      (both many (map specific_view (of_master s c)) (map nssr_view c.nssrs)
      (and_true (references_name many (map specific_view (of_master s c))) (nssrs_name many (map nssr_view c.nssrs))
      (sent_all (λ (k : ModelSpecific). access_names many k.access) s c (λ d j. and_true (nat_lt s.me many) true mine refl) named.0) named.1)
      (and_true (references_counted (map specific_view (of_master s c))) (nssrs_counted (map nssr_view c.nssrs))
      (sent_all (λ (k : ModelSpecific). is_counted k.pin) s c (λ d j. (counted_of d j).0) counts.0) counts.1))
    where
      mine : nat_lt s.me many ≡ true
      mine = ap (λ (k : ℕ). nat_lt k many) x.me ∙ (less_decides a many).1 there

      counted_of : (d : Kept) → In d s.own
          → (is_counted d.prefix ≡ true) × ((references_counted (map specific_view d.subordinate) && nssrs_counted (map nssr_view d.nssrs)) ≡ true)
      counted_of d j =
          both_true (is_counted d.prefix) (references_counted (map specific_view d.subordinate) && nssrs_counted (map nssr_view d.nssrs))
          (of_all context_counted (held_view d) (map held_view s.own) (rest_counted names a (holdings_view s) x).0 (in_map held_view d s.own j))

  -- what came of a copy
  copy_known : (d : CopyKept) (c : Kept) (m : ℕ) → In d s.copies → d.refreshed ≡ Some (c, m)
      → both_known many (map specific_view c.subordinate) (map nssr_view c.nssrs) ≡ true
  copy_known d c m i e =
      let seen : shadow_view d ≡ shadow_view (record d { refreshed = Some (c, m) }) = ap (λ (o : Option (Kept × ℕ)). shadow_view (record d { refreshed = o })) e in
      let named = both_true (nat_lt d.supplier many) (context_names many (shadow_view d))
      (of_all (copy_names many) (copy_view d) (map copy_view s.copies) (copies_name names a (holdings_view s) x) (in_map copy_view d s.copies i)) in
      let counts = both_true (is_counted d.prefix) (references_counted (shadow_view d).subordinate && nssrs_counted (shadow_view d).nssrs)
      (of_all copy_counted (copy_view d) (map copy_view s.copies) (copies_counted names a (holdings_view s) x) (in_map copy_view d s.copies i)) in
      both many (map specific_view c.subordinate) (map nssr_view c.nssrs)
      (subst (λ (h : Held). context_names many h ≡ true) seen named.1)
      (subst (λ (h : Held). (references_counted h.subordinate && nssrs_counted h.nssrs) ≡ true) seen counts.1)

  total_known : (pin : Key) (content : Content) → total_of s pin ≡ Ok content → is_known_in many (Total content) ≡ true
  total_known pin content e = by (mastered_of s pin) refl (copy_of s pin) refl e
    where
      inactive : or_inactive None ≡ Ok content → ⊥
      inactive z = cc

      from : (d : CopyKept) → copy_of s pin ≡ Some d → (o : Option (Kept × ℕ)) → d.refreshed ≡ o
          → or_inactive (option_map content_of_copy (option_map (λ (r : Kept × ℕ). r.0) o)) ≡ Ok content → is_known_in many (Total content) ≡ true
      from d f None r q = absurd (inactive q)
      from d f (Some y) r q =
          subst (λ (k : Content). is_known_in many (Total k) ≡ true) (ok_is q)
          (subst (λ (ks : List ModelSpecific). both_known many ks (map nssr_view (map supply.nssr y.0.nssrs)) ≡ true) (sym (references_seen y.0.subordinate))
          (subst (λ (xs : List ModelNssr). both_known many (map specific_view y.0.subordinate) xs ≡ true) (sym (nssrs_seen y.0.nssrs))
          (copy_known d y.0 y.1 (of_find (λ (z : CopyKept). same_key (key_of z.prefix) pin) d s.copies f).0 r)))

      by : (o : Option Kept) → mastered_of s pin ≡ o → (d : Option CopyKept) → copy_of s pin ≡ d
          → or_inactive (or_else (option_map (content_of_master s) o) (option_map content_of_copy (option_map (λ (r : Kept × ℕ). r.0) (in_option None (λ (z : CopyKept). z.refreshed) d)))) ≡ Ok content
          → is_known_in many (Total content) ≡ true
      by (Some c) f d z q =
          subst (λ (k : Content). is_known_in many (Total k) ≡ true) (ok_is q)
          (master_known c (of_find (λ (y : Kept). same_key (key_of y.prefix) pin) c s.own f).0)
      by None f (Some d) z q = from d z d.refreshed refl q
      by None f None z q = absurd (inactive q)

  pub sent_known : (pin : Key) (total : Bool) (last : Option ℕ) (m : ℕ) (b : Brought) → supply_of s pin total last ≡ Ok (m, b)
      → is_known_in many b ≡ true
  sent_known pin total last m (Steps given) e = refl
  sent_known pin true last m (Total content) e = total_known pin content (total_sent s pin last m content e)
  sent_known pin false last m (Total content) e = absurd (no_total s pin last m content e)

-- ---- what is held once it was taken

set_all : {A : Type 0} (test : A → Bool) (xs : List A) (i : ℕ) (y : A) → list_all test xs ≡ true → test y ≡ true
    → list_all test (slice_set xs i y) ≡ true
set_all test [] i y e f = refl
set_all test (x ∷ xs) zero y e f =
    and_true (test y) (list_all test xs) f (both_true (test x) (list_all test xs) e).1
set_all test (x ∷ xs) (suc i) y e f =
    let w = both_true (test x) (list_all test xs) e in
    and_true (test x) (list_all test (slice_set xs i y)) w.0 (set_all test xs i y w.1 f)

got_all : {A : Type 0} (test : A → Bool) (xs : List A) (i : ℕ) (x : A) → slice_get xs i ≡ Some x → list_all test xs ≡ true
    → test x ≡ true
got_all test [] i x e f = cc
got_all test (y ∷ ys) zero x e f = ap test (sym (some_is e)) ∙ (both_true (test y) (list_all test ys) f).0
got_all test (y ∷ ys) (suc i) x e f = got_all test ys i x e (both_true (test y) (list_all test ys) f).1

map_at : {A B : Type 0} (f : A → B) (xs : List A) (i : ℕ) (x : A) → slice_get xs i ≡ Some x
    → slice_get (map f xs) i ≡ Some (f x)
map_at f [] i x e = cc
map_at f (y ∷ ys) zero x e = ap (λ z. Some (f z)) (some_is e)
map_at f (y ∷ ys) (suc i) x e = map_at f ys i x e

module _ (names : List (List ℕ)) (a : ℕ) (s t : State) (pin : Key) (m : ℕ) (b : Brought)
    (x : IsHolder names a (holdings_view s)) (known : is_known_in (length names) b ≡ true) (stamp : CountWithin m)
    (bounded : IsBoundedIn b) (taken : IsTaken s pin (IsRefreshed b m) t) where
  abbrev size : ℕ
  size = length names

  abbrev d : CopyKept
  d = taken.copied.before

  was_named : copy_names size (copy_view d) ≡ true
  was_named =
      got_all (copy_names size) (map copy_view s.copies) taken.place (copy_view d) (map_at copy_view s.copies taken.place d taken.copied.was)
      (copies_name names a (holdings_view s) x)

  was_counted : copy_counted (copy_view d) ≡ true
  was_counted =
      got_all copy_counted (map copy_view s.copies) taken.place (copy_view d) (map_at copy_view s.copies taken.place d taken.copied.was)
      (copies_counted names a (holdings_view s) x)

  abbrev IsGood : CopyKept → Type 0
  IsGood u = (copy_names size (copy_view u) ≡ true) × (copy_counted (copy_view u) ≡ true)

  good : (c : Brought) → is_known_in size c ≡ true → (u : CopyKept) → IsRefreshed c m d u → IsGood u
  good (Total content) k u r =
      let w = both_true (references_name size (map specific_view content.specific) && nssrs_name size (map nssr_view content.nssr))
      (references_counted (map specific_view content.specific) && nssrs_counted (map nssr_view content.nssr)) k in
      let supplier = (both_true (nat_lt d.supplier size) (context_names size (shadow_view d)) was_named).0 in
      let prefix = (both_true (is_counted d.prefix) (references_counted (shadow_view d).subordinate && nssrs_counted (shadow_view d).nssrs) was_counted).0 in
      let at : copy_view u ≡ record {
        held = record {
          prefix = d.prefix;
          entries = content.entries;
          subordinate = map specific_view content.specific;
          nssrs = map nssr_view content.nssr;
        };
        stamp = Some m;
        supplier = d.supplier;
      } =
      ap copy_view r.after_is
      ∙ (λ i. record {
        held = record {
          prefix = d.prefix;
          entries = r.content_is.entries i;
          subordinate = map specific_view (r.content_is.subordinate i);
          nssrs = map nssr_view (r.content_is.nssrs i);
        };
        stamp = Some m;
        supplier = d.supplier;
      }) in (
        ap (copy_names size) at
            ∙ and_true (nat_lt d.supplier size) (references_name size (map specific_view content.specific) && nssrs_name size (map nssr_view content.nssr)) supplier w.0,
        ap copy_counted at
            ∙ and_true (is_counted d.prefix) (references_counted (map specific_view content.specific) && nssrs_counted (map nssr_view content.nssr)) prefix w.1,
      )
  good (Steps given) k u r =
      let same : (copy_names size (copy_view u) ≡ copy_names size (copy_view d)) × (copy_counted (copy_view u) ≡ copy_counted (copy_view d)) = (
        ap (λ (v : CopyKept). copy_names size (copy_view v)) r.after_is
            ∙ (λ i. nat_lt d.supplier size && (references_name size (map specific_view (r.done.subordinate i)) && nssrs_name size (map nssr_view (r.done.nssrs i))))
            ∙ ap (λ (o : Option (Kept × ℕ)). copy_names size (copy_view (record d { refreshed = o }))) (sym r.was),
        ap (λ (v : CopyKept). copy_counted (copy_view v)) r.after_is
            ∙ (λ i. is_counted d.prefix && (references_counted (map specific_view (r.done.subordinate i)) && nssrs_counted (map nssr_view (r.done.nssrs i))))
            ∙ ap (λ (o : Option (Kept × ℕ)). copy_counted (copy_view (record d { refreshed = o }))) (sym r.was),
      ) in (same.0 ∙ was_named, same.1 ∙ was_counted)

  is_good : IsGood taken.copied.after
  is_good = good b known taken.copied.after taken.copied.changed

  pub taken_holder : IsHolder names a (holdings_view t)
  taken_holder =
      let h : Holdings = holdings_view s in
      let cs : List Copy = slice_set h.copies taken.place (copy_view taken.copied.after) in
      let at : holdings_view t ≡ record h { copies = cs } =
      ap holdings_view taken.copied.new_is
      ∙ ap (λ (ys : List Copy). record h { copies = ys }) (map-set copy_view s.copies taken.place taken.copied.after) in
      let names_rest = both_true (list_all (copy_names size) h.copies) (references_name size h.root && references_name size h.cross) (rest_own names a h x).1 in
      let counts_rest = both_true (list_all copy_counted h.copies) (references_counted h.root && references_counted h.cross) (rest_counted names a h x).1 in
      subst (IsHolder names a) (sym at) (record {
        me = x.me;
        known = and_true (superior_names size h.superior)
            (list_all (context_names size) h.own && (list_all (copy_names size) cs && (references_name size h.root && references_name size h.cross)))
            (both_true (superior_names size h.superior)
            (list_all (context_names size) h.own && (list_all (copy_names size) h.copies && (references_name size h.root && references_name size h.cross))) x.known).0
            (and_true (list_all (context_names size) h.own) (list_all (copy_names size) cs && (references_name size h.root && references_name size h.cross))
            (rest_own names a h x).0
            (and_true (list_all (copy_names size) cs) (references_name size h.root && references_name size h.cross)
            (set_all (copy_names size) h.copies taken.place (copy_view taken.copied.after) names_rest.0 is_good.0) names_rest.1));
        counted = and_true (list_all context_counted h.own) (list_all copy_counted cs && (references_counted h.root && references_counted h.cross))
            (rest_counted names a h x).0
            (and_true (list_all copy_counted cs) (references_counted h.root && references_counted h.cross)
            (set_all copy_counted h.copies taken.place (copy_view taken.copied.after) counts_rest.0 is_good.1) counts_rest.1);
        bounded = subst BoundedHoldings at (taken_bounded s t pin m b stamp bounded taken x.bounded);
      })
