-- The contexts that are evaluated on the spot are those that the look finds.
use Rattle.std.proofs.Common.{◌≡◌, ℕ, zero, suc, ◌+◌, ◌<◌, ◌≤◌, true, false, ◌&&◌, ◌⊎◌, inl, inr, List, [], ◌∷◌, length, refl, sym, ap, subst, ◌∙◌, arith, Option, Some, None}
use Rattle.std.specs.List.{filter, list_any}
use Rattle.std.specs.Option.{is_some}
use Rattle.x5_model.specs.Words.{in_option}
use Rattle.x5_model.specs.Members.{In}
use Rattle.x5_model.specs.Keys.{Key, same_key, parent}
use Rattle.x5_model.specs.Values.{key_of}
use Rattle.x5_model.specs.Requests.{Subset}
use Rattle.x5_model.specs.References.{Chained}
use Rattle.x5_model.proofs.KeyLaws.{key_decides}
use Rattle.x5_model.proofs.Lists.{both_true, and_true, in_either, in_left, in_right, any_in, of_any, of_find, not_found, of_filter, in_filter}
use Rattle.x5_model.proofs.Prefixes.{prefix_length, parent_length}
use Rattle.x5_model_tree.specs.World.{World}
use Rattle.x5_model_tree.specs.Tree.{Tree, keys_of, is_there}
use Rattle.x5_model_tree.specs.Ask.{in_subset}
use Rattle.x5_model_run.specs.Holdings.{Held, Holdings, held_at, served}
use Rattle.x5_model_run.specs.Needs.{begins_at, and_below, evaluated}
use Rattle.x5_model_theory.specs.Knowledge.{Knowledge, Area}
use Rattle.x5_model_theory.specs.Scopes.{InSubset, Look, IsEvaluated, start, further}
use Rattle.x5_model_theory.proofs.Views.{there_decides}
use Rattle.x5_model_theory.proofs.Cohering.{one_master}
use Rattle.x5_model_parts.proofs.Asking.{false_true, subset_decides}
use Rattle.x5_model_parts.proofs.Seeing.{is_held, Like, Sees}

-- what is held, is among what is held
pub of_held : (all : List Held) (q : Key) → is_held all q ≡ true → (c : Held) × In c all × (key_of c.prefix ≡ q)
of_held all q e = go (held_at all q) refl e
  where
    go : (x : Option Held) → held_at all q ≡ x → is_some x ≡ true → (c : Held) × In c all × (key_of c.prefix ≡ q)
    go None f t = absurd (false_true t)
    go (Some c) f t = (let g = of_find (λ (y : Held). same_key (key_of y.prefix) q) c all f in (c, g.0, (key_decides (key_of c.prefix) q).0 g.1))

pub held_in : (all : List Held) (c : Held) → In c all → is_held all (key_of c.prefix) ≡ true
held_in all c i = go (held_at all (key_of c.prefix)) refl
  where
    go : (x : Option Held) → held_at all (key_of c.prefix) ≡ x → is_some x ≡ true
    go (Some d) f = refl
    go None f =
        let none : same_key (key_of c.prefix) (key_of c.prefix) ≡ false = not_found (λ (y : Held). same_key (key_of y.prefix) (key_of c.prefix)) c all f i in
        absurd (false_true (sym none ∙ (key_decides (key_of c.prefix) (key_of c.prefix)).1 refl))

pub none_or_some : (n : ℕ) → (n ≡ 0) ⊎ (0 < n)
none_or_some zero = inl refl
none_or_some (suc n) = inr (omega arith)

module _ (w : World) (t : Tree) (k : Knowledge) (o : ℕ) (h : Holdings) (m : Chained) (l : Look) (s : Sees w t k o h m l) where
  abbrev pub all : List Held
  all = served m.request h

  abbrev pub IsSpot : Held → Type 0
  IsSpot c = In c all × ((d : Area) × IsEvaluated l d × Like k all d c)

  abbrev pub found : List Held
  found = and_below 16 all (key_of m.target) l.subset (begins_at h m l.subset)

  pub evaluated_is : evaluated h m ≡ found
  evaluated_is = ap (λ (x : Option Subset). in_option [] (λ (subset : Subset). and_below 16 all (key_of m.target) subset (begins_at h m subset)) x) s.subset

  abbrev pub next_of : List Held → List Held
  next_of level = filter (λ (c : Held). in_subset l.subset (key_of m.target) (key_of c.prefix) && list_any (λ (d : Held). is_there d.entries (parent (key_of c.prefix))) level) all

  pub next_is : (level : List Held) (c : Held) → In c (next_of level)
      → In c all × (in_subset l.subset (key_of m.target) (key_of c.prefix) ≡ true) × ((x : Held) × In x level × (is_there x.entries (parent (key_of c.prefix)) ≡ true))
  next_is level c i =
      let f = of_filter (λ (c : Held). in_subset l.subset (key_of m.target) (key_of c.prefix) && list_any (λ (d : Held). is_there d.entries (parent (key_of c.prefix))) level) c all i in
      let u = both_true (in_subset l.subset (key_of m.target) (key_of c.prefix)) _ f.1 in
      let x = of_any (λ (d : Held). is_there d.entries (parent (key_of c.prefix))) level u.1 in
      (f.0, u.0, x)

  -- of a context, the area that is like it, and its parent in one above
  pub parent_in : (x c : Held) (d : Area) → Like k all d x → (like : (e : Area) × Like k all e c) → is_there x.entries (parent (key_of c.prefix)) ≡ true → In (parent like.0.prefix) d.entries
  parent_in x c d lx like e =
      let up : In (parent (key_of c.prefix)) (keys_of x.entries) = (there_decides x.entries (parent (key_of c.prefix))).0 e in
      (lx.entries like.0 like.1.area).1 (subst (λ (q : Key). In (parent q) (keys_of x.entries)) (sym like.1.prefix) up)

  pub further_spot : (level : List Held) → ((c : Held) → In c level → IsSpot c) → (c : Held) → In c (next_of level) → IsSpot c
  further_spot level f c i =
      let n = next_is level c i in
      let x : Held = n.2.0 in
      let v = f x n.2.1 in
      let like = s.like c n.0 in
      let up : In (parent like.0.prefix) v.1.0.entries = parent_in x c v.1.0 v.1.2 like n.2.2 in
      let within : InSubset l.subset l.base like.0.prefix =
      subst (λ (b : Key). InSubset l.subset b like.0.prefix) (sym s.base) (subst (λ (q : Key). InSubset l.subset (key_of m.target) q) (sym like.1.prefix) ((subset_decides l.subset (key_of m.target) (key_of c.prefix)).0 n.1)) in
      let held : l.holds like.0.prefix ≡ true = s.holds like.0.prefix ∙ ap (is_held all) like.1.prefix ∙ held_in all c n.0 in
      (n.0, (like.0, further v.1.0 v.1.1 (s.inside like.0 like.1.area) (s.good.filled like.0 like.1.area) up within held, like.1))

  pub below_spots : (n : ℕ) (level : List Held) → ((c : Held) → In c level → IsSpot c) → (c : Held) → In c (and_below n all (key_of m.target) l.subset level) → IsSpot c
  below_spots zero level f c i = f c i
  below_spots (suc n) [] f c i = elim i [ ]
  below_spots (suc n) (x ∷ xs) f c i =
      elim (in_either c (x ∷ xs) (and_below n all (key_of m.target) l.subset (next_of (x ∷ xs))) i) [
        | inl j ↦ f c j
        | inr j ↦ below_spots n (next_of (x ∷ xs)) (further_spot (x ∷ xs) f) c j
      ]

  pub spot_is : (c : Held) → In c (evaluated h m) → IsSpot c
  spot_is c i = below_spots 16 (begins_at h m l.subset) s.first c (subst (λ (xs : List Held). In c xs) evaluated_is i)

  -- ---- and all are found

  pub level_in : (n : ℕ) (level : List Held) (c : Held) → In c level → In c (and_below n all (key_of m.target) l.subset level)
  level_in zero level c i = i
  level_in (suc n) [] c i = elim i [ ]
  level_in (suc n) (x ∷ xs) c i = in_left c (x ∷ xs) (and_below n all (key_of m.target) l.subset (next_of (x ∷ xs))) i

  longer : (c q : Held) → In c all → In q all → is_there c.entries (parent (key_of q.prefix)) ≡ true → length (key_of c.prefix) < length (key_of q.prefix)
  longer c q i j e =
      let lc = s.like c i in
      let lq = s.like q j in
      let up : In (parent lq.0.prefix) lc.0.entries = parent_in c q lc.0 lc.1 lq e in
      let le : length lc.0.prefix ≤ length (parent lq.0.prefix) = prefix_length lc.0.prefix (parent lq.0.prefix) (s.good.below lc.0 (parent lq.0.prefix) lc.1.area up) in
      let pl : length (parent lq.0.prefix) + 1 ≡ length lq.0.prefix = parent_length lq.0.prefix (s.good.filled lq.0 lq.1.area) in
      let a : length lc.0.prefix ≡ length (key_of c.prefix) = ap length lc.1.prefix in
      let b : length lq.0.prefix ≡ length (key_of q.prefix) = ap length lq.1.prefix in
      omega arith

  in_next : (level : List Held) (c q : Held) → In c level → In q all → in_subset l.subset (key_of m.target) (key_of q.prefix) ≡ true → is_there c.entries (parent (key_of q.prefix)) ≡ true → In q (next_of level)
  in_next level c q i j w e =
      in_filter (λ (c : Held). in_subset l.subset (key_of m.target) (key_of c.prefix) && list_any (λ (d : Held). is_there d.entries (parent (key_of c.prefix))) level) q all j
      (and_true _ _ w (any_in (λ (d : Held). is_there d.entries (parent (key_of q.prefix))) c level i e))

  more : (n : ℕ) (level : List Held) (least : ℕ) → ((d : Held) → In d level → In d all × (least ≤ length (key_of d.prefix))) → (c q : Held)
      → In c (and_below n all (key_of m.target) l.subset level) → In q all → in_subset l.subset (key_of m.target) (key_of q.prefix) ≡ true → is_there c.entries (parent (key_of q.prefix)) ≡ true
      → length (key_of q.prefix) ≤ least + n → In q (and_below n all (key_of m.target) l.subset level)
  more zero level least f c q i j w e h =
      let g = f c i in
      let a : length (key_of c.prefix) < length (key_of q.prefix) = longer c q g.0 j e in
      let b : least ≤ length (key_of c.prefix) = g.1 in
      absurd (omega arith)
  more (suc n) [] least f c q i j w e h = elim i [ ]
  more (suc n) (x ∷ xs) least f c q i j w e h =
      elim (in_either c (x ∷ xs) (and_below n all (key_of m.target) l.subset (next_of (x ∷ xs))) i) [
        | inl a ↦ in_right q (x ∷ xs) (and_below n all (key_of m.target) l.subset (next_of (x ∷ xs))) (level_in n (next_of (x ∷ xs)) q (in_next (x ∷ xs) c q a j w e))
        | inr a ↦ in_right q (x ∷ xs) (and_below n all (key_of m.target) l.subset (next_of (x ∷ xs))) (more n (next_of (x ∷ xs)) (least + 1) next c q a j w e (omega arith))
      ]
    where
      next : (d : Held) → In d (next_of (x ∷ xs)) → In d all × (least + 1 ≤ length (key_of d.prefix))
      next d i =
          let v = next_is (x ∷ xs) d i in
          let g = f v.2.0 v.2.1 in
          let a : length (key_of v.2.0.prefix) < length (key_of d.prefix) = longer v.2.0 d g.0 v.0 v.2.2 in
          let b : least ≤ length (key_of v.2.0.prefix) = g.1 in
          (v.0, omega arith)

  -- the area that is like a context
  pub like_of : (q : Area) (c : Held) → In q k.areas → In c all → q.prefix ≡ key_of c.prefix → Like k all q c
  like_of q c iq ic e =
      let v = s.like c ic in
      subst (λ (d : Area). Like k all d c) (one_master k v.0 q s.good v.1.area iq (v.1.prefix ∙ sym e)) v.1

  pub is_start : (d : Area) → IsEvaluated l d → length d.prefix ≡ 0 → In d l.starts
  is_start d (start i) z = i
  is_start d (further c e i f up w h) z = absurd (omega arith)

  abbrev IsFound : Area → Type 0
  IsFound q = (c : Held) × In c found × Like k all q c

  first_found : (q : Area) (c : Held) → In q k.areas → In c (begins_at h m l.subset) → q.prefix ≡ key_of c.prefix → IsFound q
  first_found q c iq i e = (c, level_in 16 (begins_at h m l.subset) c i, like_of q c iq (s.first c i).0 e)

  found_all : (q : Area) → IsEvaluated l q → 0 < length q.prefix → IsFound q
  found_all q (start i) f = (let c = s.starts q i f in first_found q c.0 (s.outside q (s.may.contexts q i) f) c.1 c.2)
  found_all q (further d e i f up w held) fq =
      let iq : In q k.areas = s.outside q i f in
      let below : 0 < length d.prefix → IsFound d → IsFound q = λ fd v.
      let x = of_held all q.prefix (sym (s.holds q.prefix) ∙ held) in
      let lq : Like k all q x.0 = like_of q x.0 iq x.1 (sym x.2) in
      let sub : in_subset l.subset (key_of m.target) (key_of x.0.prefix) ≡ true =
      (subset_decides l.subset (key_of m.target) (key_of x.0.prefix)).1 (subst (λ (b : Key). InSubset l.subset b (key_of x.0.prefix)) s.base (subst (λ (y : Key). InSubset l.subset l.base y) (sym x.2) w)) in
      let above : is_there v.0.entries (parent (key_of x.0.prefix)) ≡ true =
      (there_decides v.0.entries (parent (key_of x.0.prefix))).1 (subst (λ (y : Key). In (parent y) (keys_of v.0.entries)) (sym x.2) ((v.2.entries q iq).0 up)) in
      let small : length (key_of x.0.prefix) ≤ 0 + 16 = (let a : length q.prefix ≤ 16 = s.short q iq in let b : length (key_of x.0.prefix) ≡ length q.prefix = ap length x.2 in omega arith) in
      (x.0, more 16 (begins_at h m l.subset) 0 (λ y j. ((s.first y j).0, omega arith)) v.0 x.0 v.1 x.1 sub above small, lq) in
      elim (none_or_some (length d.prefix)) [
        | inl z ↦ (let c = s.from_root d q (is_start d e z) z iq up w held in first_found q c.0 iq c.1 c.2)
        | inr fd ↦ below fd (found_all d e fd)
      ]

  pub spot_of_evaluated : (q : Area) → IsEvaluated l q → 0 < length q.prefix → (c : Held) × In c (evaluated h m) × Like k all q c
  spot_of_evaluated q e f = (let v = found_all q e f in (v.0, subst (λ (xs : List Held). In v.0 xs) (sym evaluated_is) v.1, v.2))
