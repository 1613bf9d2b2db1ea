-- The ways of name resolution (`Path`), and what is needed on each: by cases of the definitions, with no knowledge of
-- the world.
use Rattle.std.proofs.Common.{◌≡◌, ℕ, ◌==◌, Bool, true, false, cond, not, ◌&&◌, ◌⊎◌, inl, inr, List, [], ◌∷◌, ◌++◌, length, refl, sym, ap, subst, ◌∙◌, Option, Some, None, if◌then◌else◌}
use Rattle.std.specs.List.{flat_map, filter}
use Rattle.std.specs.Option.{is_none, is_some}
use Rattle.x5_model.specs.Words.{in_option, when}
use Rattle.x5_model.specs.Members.{In, here}
use Rattle.x5_model.specs.Keys.{Key, same_key, is_root}
use Rattle.x5_model.specs.Values.{Name, key_of}
use Rattle.x5_model.specs.Entries.{Named}
use Rattle.x5_model.specs.Requests.{Subset}
use Rattle.x5_model.specs.References.{Progress, Start, Next, Done, Reference, Supplier, Chained}
use Rattle.x5_model.proofs.KeyLaws.{key_decides}
use Rattle.x5_model.proofs.Lists.{true_or_false, in_either, in_left, of_find, of_filter, not_found, not_true}
use Rattle.x5_model_tree.specs.World.{Nssr}
use Rattle.x5_model_tree.specs.Tree.{is_there, lowest}
use Rattle.x5_model_tree.specs.Ask.{in_subset}
use Rattle.x5_model_run.specs.Journal.{same_name, is_wide}
use Rattle.x5_model_run.specs.Holdings.{Held, Copy, Holdings, usable_copies, served, masters_pin, known_pin, held_at, copy_at, holds_within, is_first_level}
use Rattle.x5_model_run.specs.Needs.{reference, resolves, nssr_at, superior_needs, multicast_needs, supplier_needs, copy_answers, specific_needs, pin_needs, resolution_needs, by_pin, subset_of, begins_at, and_below, evaluated, answers_root, below_needs, wide_needs, part_needs, copied_needs, new_name, is_refused_here, probe_of, probe_needs}
use Rattle.x5_model_theory.proofs.Holding.{usable_is}
use Rattle.x5_model_serve.specs.Finding.{Found, Here, CopyHere, Root, Below, Onward, Nowhere, Stuck, by_first, in_own, in_copy, at_pin, resolved, completed, completed_copy, completed_own, find}

-- ---- words

abbrev pub is_onward : Found → Bool
is_onward (Onward r) = true
is_onward other = false

-- a base is found
abbrev pub is_based : Found → Bool
is_based (Here c) = true
is_based (CopyHere c) = true
is_based Root = true
is_based Below = true
is_based (Onward r) = false
is_based (Nowhere n) = false
is_based Stuck = false

pub false_true : false ≡ true → ⊥
false_true e = cc

pub filter_none : {A : Type 0} (test : A → Bool) (xs : List A) → ((x : A) → In x xs → test x ≡ false) → filter test xs ≡ []
filter_none {A} test xs never = by (filter test xs) refl
  where
    by : (ys : List A) → filter test xs ≡ ys → ys ≡ []
    by [] e = refl
    by (y ∷ ys) e =
        let i : In y (filter test xs) = subst (λ (zs : List A). In y zs) (sym e) here in
        let w = of_filter test y xs i in
        absurd (false_true (sym (never y w.0) ∙ w.1))

pub option_none : {A B : Type 0} (f : A → List B) (o : Option A) → ((x : A) → o ≡ Some x → f x ≡ []) → in_option [] f o ≡ []
option_none f None h = refl
option_none f (Some x) h = h x refl

pub cond_none : {B : Type 0} (b : Bool) (xs : List B) → (b ≡ true → xs ≡ []) → cond b xs [] ≡ []
cond_none true xs h = h refl
cond_none false xs h = refl

pub first_stays : (rs : List Reference) (other f : Found) → by_first rs other ≡ f → is_onward f ≡ false → rs ≡ []
first_stays [] other f e h = refl
first_stays (r ∷ rs) other f e h = absurd (false_true (sym h ∙ ap is_onward (sym e)))

pub last_false : (a b c d : Bool) → d ≡ false → (a && (b && (c && d))) ≡ false
last_false true true true d e = e
last_false true true false d e = refl
last_false true false c d e = refl
last_false false b c d e = refl

pub mid_false : (a b c d : Bool) → (b && c) ≡ false → (a && (b && (c && d))) ≡ false
mid_false true true true d e = absurd (false_true (sym e))
mid_false true true false d e = refl
mid_false true false c d e = refl
mid_false false b c d e = refl

pub and_left : (a b : Bool) → a ≡ false → (a && b) ≡ false
and_left a b e = ap (λ (x : Bool). x && b) e

pub and_right : (a b : Bool) → b ≡ false → (a && b) ≡ false
and_right true b e = e
and_right false b e = refl

pub none_is : (o : Option Held) → is_none o ≡ true → o ≡ None
none_is None e = refl
none_is (Some x) e = absurd (false_true e)

-- ---- the parts of what is needed

abbrev pub begin_found : Holdings → Chained → Subset → Option Key → List Held
begin_found h m subset None =
    if is_first_level h && is_root (key_of m.target)
    then filter (λ c. (length c.prefix == 1) && in_subset subset (key_of m.target) (key_of c.prefix)) (served m.request h)
    else []
begin_found h m subset (Some p) = filter (λ c. same_key (key_of c.prefix) p && is_there c.entries (key_of m.target)) (served m.request h)

abbrev pub master_probe : Holdings → Chained → Name → Held → List Reference
master_probe h m name c = if is_there c.entries (key_of m.target) && not (is_refused_here h m.request) then probe_of h name c else []

abbrev pub pin_probe : Holdings → Chained → Name → Key → List Reference
pin_probe h m name p = in_option [] (master_probe h m name) (held_at h.own p)

abbrev pub due_by : Holdings → Chained → Name → List Reference
due_by h m name = if resolves h m then in_option [] (pin_probe h m name) (known_pin m.request h (key_of m.target)) else []

abbrev pub part_of : Holdings → Chained → Subset → List Reference
part_of h m subset =
    (if answers_root h m then below_needs h m subset h.root else [])
    ++ flat_map (λ c. below_needs h m subset c.subordinate ++ wide_needs h m subset c) (evaluated h m)

abbrev pub copied_ask : Holdings → Chained → Copy → List Reference
copied_ask h m c = when (is_none (held_at (served m.request h) (key_of m.target))) (reference m.target Done Supplier (c.supplier ∷ []))

-- the ways through `find`
pub data Path (h : Holdings) (m : Chained) : Type 0 where
  resolving : resolves h m ≡ true → by_pin m ≡ false → find h m ≡ resolved h m
      → ((subset : Subset) → begins_at h m subset ≡ begin_found h m subset (known_pin m.request h (key_of m.target))) → Path h m
  stopped : resolves h m ≡ false → by_pin m ≡ false → find h m ≡ Stuck → ((subset : Subset) → begins_at h m subset ≡ []) → Path h m
  wide : resolves h m ≡ false → by_pin m ≡ false → find h m ≡ Below → Path h m
  done : resolves h m ≡ false → find h m ≡ completed h m → ((subset : Subset) → begins_at h m subset ≡ filter (λ c. same_key (key_of c.prefix) (key_of m.target)) (served m.request h)) → Path h m

pub path : (h : Holdings) (m : Chained) → Path h m
path h m = by m.progress refl
  where
    next : (k : ℕ) → m.progress ≡ Next k → (b : Bool) → holds_within h (key_of m.target) k ≡ b → Path h m
    next k q true w = resolving (rw (q, w) refl) (rw q refl) (rw (q, w) refl) (λ subset. rw (q, w) refl)
    next k q false w = stopped (rw (q, w) refl) (rw q refl) (rw (q, w) refl) (λ subset. rw (q, w) refl)

    at_done : m.progress ≡ Done → (b : Bool) → is_wide m.kind ≡ b → Path h m
    at_done q true w = wide (rw q refl) (rw (q, w) refl) (rw (q, w) refl)
    at_done q false w = done (rw q refl) (rw (q, w) refl) (λ subset. rw (q, w) refl)

    by : (x : Progress) → m.progress ≡ x → Path h m
    by Start q = resolving (rw q refl) (rw q refl) (rw q refl) (λ subset. rw q refl)
    by (Next k) q = next k q (holds_within h (key_of m.target) k) refl
    by Done q = at_done q (is_wide m.kind) refl

module _ (h : Holdings) (m : Chained) where
  abbrev name : Key
  name = key_of m.target

  pub resolution_stopped : resolves h m ≡ false → resolution_needs h m ≡ []
  resolution_stopped e = ap (λ (b : Bool). cond b (pin_needs h m (known_pin m.request h (key_of m.target))) []) e

  pub resolution_goes : resolves h m ≡ true → resolution_needs h m ≡ pin_needs h m (known_pin m.request h (key_of m.target))
  resolution_goes e = ap (λ (b : Bool). cond b (pin_needs h m (known_pin m.request h (key_of m.target))) []) e

  pub copied_off : by_pin m ≡ false → copied_needs h m ≡ []
  copied_off e = ap (λ (b : Bool). cond (b && is_some (subset_of m)) (in_option [] (copied_ask h m) (copy_at h (key_of m.target))) []) e

  pub copied_met : is_none (held_at (served m.request h) (key_of m.target)) ≡ false → copied_needs h m ≡ []
  copied_met e =
      cond_none (by_pin m && is_some (subset_of m)) (in_option [] (copied_ask h m) (copy_at h (key_of m.target)))
      (λ z. option_none (copied_ask h m) (copy_at h (key_of m.target)) (λ c k. ap (λ (b : Bool). when b (reference m.target Done Supplier (c.supplier ∷ []))) e))

  pub copied_alone : copy_at h (key_of m.target) ≡ None → copied_needs h m ≡ []
  copied_alone e =
      cond_none (by_pin m && is_some (subset_of m)) (in_option [] (copied_ask h m) (copy_at h (key_of m.target))) (λ z. ap (λ (x : Option Copy). in_option [] (copied_ask h m) x) e)

  pub probe_stopped : resolves h m ≡ false → probe_needs h m ≡ []
  probe_stopped e = option_none (due_by h m) (new_name m.request.body) (λ n q. ap (λ (b : Bool). cond b (in_option [] (pin_probe h m n) (known_pin m.request h (key_of m.target))) []) e)

  pub part_none : answers_root h m ≡ false → ((subset : Subset) → subset_of m ≡ Some subset → begins_at h m subset ≡ []) → part_needs h m ≡ []
  part_none root begins = option_none (part_of h m) (subset_of m) each
    where
      each : (subset : Subset) → subset_of m ≡ Some subset → part_of h m subset ≡ []
      each subset q =
          let none : evaluated h m ≡ [] =
          ap (λ (o : Option Subset). in_option [] (λ (x : Subset). and_below 16 (served m.request h) (key_of m.target) x (begins_at h m x)) o) q
          ∙ ap (λ (level : List Held). and_below 16 (served m.request h) (key_of m.target) subset level) (begins subset q) in
          ap (λ (b : Bool). cond b (below_needs h m subset h.root) [] ++ flat_map (λ c. below_needs h m subset c.subordinate ++ wide_needs h m subset c) (evaluated h m)) root
          ∙ ap (λ (cs : List Held). flat_map (λ c. below_needs h m subset c.subordinate ++ wide_needs h m subset c) cs) none

  pub probe_none : ((q : Key) (c : Held) → known_pin m.request h (key_of m.target) ≡ Some q → held_at h.own q ≡ Some c → is_there c.entries (key_of m.target) ≡ false) → probe_needs h m ≡ []
  probe_none free =
      option_none (due_by h m) (new_name m.request.body) (λ n z. cond_none (resolves h m) (in_option [] (pin_probe h m n) (known_pin m.request h (key_of m.target)))
      (λ go. option_none (pin_probe h m n) (known_pin m.request h (key_of m.target))
      (λ q k. option_none (master_probe h m n) (held_at h.own q)
      (λ c found. ap (λ (b : Bool). cond (b && not (is_refused_here h m.request)) (probe_of h n c) []) (free q c k found)))))

  -- ---- where nothing goes on, nothing is needed for the name

  pub own_stays : (c : Held) (f : Found) → in_own h m c ≡ f → is_onward f ≡ false → multicast_needs h m c ≡ []
  own_stays c f e stays = by (lowest c.entries (key_of m.target)) refl
    where
      there : (x : Named) → lowest c.entries (key_of m.target) ≡ Some x → (b : Bool) → same_name x.name m.target ≡ b → multicast_needs h m c ≡ []
      there x q true k = at (nssr_at c.nssrs (key_of x.name)) refl
        where
          at : (n : Option Nssr) → nssr_at c.nssrs (key_of x.name) ≡ n → multicast_needs h m c ≡ []
          at None z = rw (q, z) refl
          at (Some n) z = rw (q, z, k) refl
      there x q false k = first_stays (multicast_needs h m c) (Nowhere x.name) f (rw (q, k) at e) stays

      by : (o : Option Named) → lowest c.entries (key_of m.target) ≡ o → multicast_needs h m c ≡ []
      by None q = rw q refl
      by (Some x) q = there x q (same_name x.name m.target) refl

  pub copy_stays : (c : Copy) (f : Found) → in_copy h m c ≡ f → is_onward f ≡ false → supplier_needs h m c ≡ []
  copy_stays c f e stays = by (copy_answers h m c) refl
    where
      by : (b : Bool) → copy_answers h m c ≡ b → supplier_needs h m c ≡ []
      by true q = rw q refl
      by false q = first_stays (supplier_needs h m c) Stuck f (subst (λ (b : Bool). cond b (CopyHere c) (by_first (supplier_needs h m c) Stuck) ≡ f) q e) stays

  pub pin_stays : (x : Option Key) (f : Found) → at_pin h m x ≡ f → is_onward f ≡ false → pin_needs h m x ≡ []
  pin_stays None f e stays = first_stays (superior_needs h m) _ f e stays
  pin_stays (Some p) f e stays = by_own (held_at h.own p) refl
    where
      by_copy : held_at h.own p ≡ None → (x : Option Copy) → copy_at h p ≡ x → pin_needs h m (Some p) ≡ []
      by_copy k None q = rw (k, q) (first_stays (specific_needs h m p) Stuck f (rw (k, q) at e) stays)
      by_copy k (Some c) q = rw (k, q) (copy_stays c f (rw (k, q) at e) stays)

      by_own : (x : Option Held) → held_at h.own p ≡ x → pin_needs h m (Some p) ≡ []
      by_own None q = by_copy q (copy_at h p) refl
      by_own (Some c) q = rw q (own_stays c f (rw q at e) stays)

  -- ---- what is served

  pub own_none : (q : Key) → held_at h.own q ≡ None → (c : Held) → In c h.own → key_of c.prefix ≡ q → ⊥
  own_none q none c i e = false_true (sym (not_found (λ (x : Held). same_key (key_of x.prefix) q) c h.own none i) ∙ (key_decides (key_of c.prefix) q).1 e)

  pub copy_none : (q : Key) → copy_at h q ≡ None → (c : Copy) → In c h.copies → key_of c.held.prefix ≡ q → ⊥
  copy_none q none c i e = false_true (sym (not_found (λ (x : Copy). same_key (key_of x.held.prefix) q) c h.copies none i) ∙ (key_decides (key_of c.held.prefix) q).1 e)

  pub of_served : (c : Held) → In c (served m.request h) → In c h.own ⊎ ((masters_pin h (key_of c.prefix) ≡ false) × In c (usable_copies m.request h))
  of_served c i =
      elim (in_either c h.own (filter (λ (x : Held). not (masters_pin h (key_of x.prefix))) (usable_copies m.request h)) i) [
        | inl j ↦ inl j
        | inr j ↦ (let w = of_filter (λ (x : Held). not (masters_pin h (key_of x.prefix))) c (usable_copies m.request h) j in inr (not_true (masters_pin h (key_of c.prefix)) w.1, w.0))
      ]

  pub served_none : (q : Key) → held_at h.own q ≡ None → copy_at h q ≡ None → (c : Held) → In c (served m.request h) → key_of c.prefix ≡ q → ⊥
  served_none q none empty c i e =
      elim (of_served c i) [
        | inl j ↦ own_none q none c j e
        | inr j ↦ (let x = usable_is m.request h c j.1 in copy_none q empty x.0 x.1 (ap (λ (y : Held). key_of y.prefix) (sym x.2) ∙ e))
      ]

  abbrev NoneServed : Key → Type 0
  NoneServed q = (c : Held) → In c (served m.request h) → key_of c.prefix ≡ q → is_there c.entries (key_of m.target) ≡ false

  pub begins_none : (subset : Subset) (q : Key) → ((c : Held) → In c (served m.request h) → key_of c.prefix ≡ q → is_there c.entries (key_of m.target) ≡ false) → begin_found h m subset (Some q) ≡ []
  begins_none subset q none =
      filter_none (λ (c : Held). same_key (key_of c.prefix) q && is_there c.entries (key_of m.target)) (served m.request h) (λ c i. elim (true_or_false (same_key (key_of c.prefix) q)) [
        | inl e ↦ and_right (same_key (key_of c.prefix) q) (is_there c.entries (key_of m.target)) (none c i ((key_decides (key_of c.prefix) q).0 e))
        | inr e ↦ and_left (same_key (key_of c.prefix) q) (is_there c.entries (key_of m.target)) e
      ])

  pub pinned_none : (q : Key) → ((c : Held) → In c (served m.request h) → key_of c.prefix ≡ q → ⊥) → filter (λ c. same_key (key_of c.prefix) q) (served m.request h) ≡ []
  pinned_none q none =
      filter_none (λ (c : Held). same_key (key_of c.prefix) q) (served m.request h) (λ c i. elim (true_or_false (same_key (key_of c.prefix) q)) [
        | inl e ↦ absurd (none c i ((key_decides (key_of c.prefix) q).0 e))
        | inr e ↦ e
      ])

  pub met_served : (c : Held) → held_at h.own (key_of m.target) ≡ Some c → is_none (held_at (served m.request h) (key_of m.target)) ≡ false
  met_served c e = by (held_at (served m.request h) (key_of m.target)) refl
    where
      by : (x : Option Held) → held_at (served m.request h) (key_of m.target) ≡ x → is_none x ≡ false
      by None q =
          let f = of_find (λ (x : Held). same_key (key_of x.prefix) (key_of m.target)) c h.own e in
          let i : In c (served m.request h) = in_left c h.own (filter (λ (x : Held). not (masters_pin h (key_of x.prefix))) (usable_copies m.request h)) f.0 in
          absurd (false_true (sym (not_found (λ (x : Held). same_key (key_of x.prefix) (key_of m.target)) c (served m.request h) q i) ∙ f.1))
      by (Some d) q = refl

  pub completed_stays : (f : Found) → completed h m ≡ f → is_onward f ≡ false → copied_needs h m ≡ []
  completed_stays f e stays = by (held_at h.own (key_of m.target)) refl
    where
      by_copy : (x : Option Copy) → copy_at h (key_of m.target) ≡ x → completed_copy h m x ≡ f → copied_needs h m ≡ []
      by_copy None q z = copied_alone q
      by_copy (Some c) q z = first_stays (copied_needs h m) (CopyHere c) f z stays

      by : (x : Option Held) → held_at h.own (key_of m.target) ≡ x → copied_needs h m ≡ []
      by None q = by_copy (copy_at h (key_of m.target)) refl (subst (λ (x : Option Held). completed_own h m x ≡ f) q e)
      by (Some c) q = copied_met (met_served c q)

  pub completed_free : (f : Found) → completed h m ≡ f → is_based f ≡ false → filter (λ c. same_key (key_of c.prefix) (key_of m.target)) (served m.request h) ≡ []
  completed_free f e free = by (held_at h.own (key_of m.target)) refl
    where
      based : (c : Copy) → CopyHere c ≡ f → ⊥
      based c z = false_true (sym free ∙ ap is_based (sym z))

      by_copy : held_at h.own (key_of m.target) ≡ None → (x : Option Copy) → copy_at h (key_of m.target) ≡ x → completed_copy h m x ≡ f → filter (λ c. same_key (key_of c.prefix) (key_of m.target)) (served m.request h) ≡ []
      by_copy k None q z = pinned_none (key_of m.target) (served_none (key_of m.target) k q)
      by_copy k (Some c) q z =
          elim (true_or_false (is_none (held_at (served m.request h) (key_of m.target)))) [
            | inr met ↦ absurd (based c (ap (λ (rs : List Reference). by_first rs (CopyHere c)) (sym (copied_met met)) ∙ z))
            | inl none ↦
                let gone : held_at (served m.request h) (key_of m.target) ≡ None = none_is (held_at (served m.request h) (key_of m.target)) none in
                pinned_none (key_of m.target) (λ d i s. false_true (sym (not_found (λ (x : Held). same_key (key_of x.prefix) (key_of m.target)) d (served m.request h) gone i) ∙ (key_decides (key_of d.prefix) (key_of m.target)).1 s))
          ]

      by : (x : Option Held) → held_at h.own (key_of m.target) ≡ x → filter (λ c. same_key (key_of c.prefix) (key_of m.target)) (served m.request h) ≡ []
      by None q = by_copy q (copy_at h (key_of m.target)) refl (subst (λ (x : Option Held). completed_own h m x ≡ f) q e)
      by (Some c) q = absurd (false_true (sym free ∙ ap is_based (sym (subst (λ (x : Option Held). completed_own h m x ≡ f) q e))))

  -- ---- nothing is needed for the name where nothing goes on

  pub passing : (f : Found) → find h m ≡ f → is_onward f ≡ false → (resolution_needs h m ≡ []) × (copied_needs h m ≡ [])
  passing f e stays = by (path h m)
    where
      by : Path h m → (resolution_needs h m ≡ []) × (copied_needs h m ≡ [])
      by (resolving r b k begins) = (resolution_goes r ∙ pin_stays (known_pin m.request h (key_of m.target)) f (sym k ∙ e) stays, copied_off b)
      by (stopped r b k begins) = (resolution_stopped r, copied_off b)
      by (wide r b k) = (resolution_stopped r, copied_off b)
      by (done r k begins) = (resolution_stopped r, completed_stays f (sym k ∙ e) stays)
