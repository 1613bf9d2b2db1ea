-- An agent that begins a list or search before its name is completed has found the base, and its sources are spelled as it
-- keeps them: by the cases of `find`, and since it holds each prefix once.
use Rattle.std.proofs.Common.{◌≡◌, ℕ, Bool, true, false, not, ◌&&◌, inl, inr, List, [], ◌∷◌, map, length, refl, sym, ap, subst, ◌∙◌, Option, Some, None, if◌then◌else◌}
use Rattle.std.specs.List.{find, filter}
use Rattle.std.specs.Option.{is_some, is_none}
use Rattle.x5_model.specs.Words.{in_option}
use Rattle.x5_model.specs.Members.{In, Once, here, there}
use Rattle.x5_model.specs.Keys.{Key, same_key, is_root}
use Rattle.x5_model.specs.Values.{Name, key_of}
use Rattle.x5_model.specs.Entries.{Named}
use Rattle.x5_model.specs.Requests.{Request}
use Rattle.x5_model.specs.References.{Progress, Start, Next, Done, Reference, Chained}
use Rattle.x5_model.specs.Answers.{Source}
use Rattle.x5_model.proofs.KeyLaws.{key_decides}
use Rattle.x5_model.proofs.Lists.{true_or_false, and_true, or_left, or_right, not_true, in_first, in_either, in_map, of_map, of_filter, any_in}
use Rattle.x5_model_tree.specs.Tree.{key_at, is_there, lowest}
use Rattle.x5_model_tree.proofs.Longest.{IsLowest, lowest_right}
use Rattle.x5_model_run.specs.Journal.{Line, is_done, same_name}
use Rattle.x5_model_run.specs.Holdings.{Held, Copy, Holdings, held_at, copy_at, masters_pin, served, usable_copies, may_copy, known_pin, holds_within, is_first_level}
use Rattle.x5_model_run.specs.Needs.{evaluated, subset_of, multicast_needs, specific_needs, copy_answers, ends_at_pin, ends_here, resolves, resolves_by}
use Rattle.x5_model_run.specs.History.{Point, knowledge_at, tree_at, holdings_at}
use Rattle.x5_model_run.specs.Chain.{Scene}
use Rattle.x5_model_run.specs.Right.{is_found, kept_name}
use Rattle.x5_model_parts.specs.Parts.{BeginsHere}
use Rattle.x5_model_parts.proofs.Asking.{false_true}
use Rattle.x5_model_parts.proofs.Joining.{sight}
use Rattle.x5_model_parts.proofs.Spots.{spot_is}
use Rattle.x5_model_parts.specs.Standing.{knowledge_now}
use Rattle.x5_model_serve.specs.Finding as finding
use Rattle.x5_model_serve.specs.Finding.{Found, by_first, in_own, in_copy, at_pin, resolved, found_by, IsLooked}
use Rattle.x5_model_serve.specs.Walking.{entered}
use Rattle.x5_model_serve.proofs.Walks.{of_walk}
use Rattle.x5_model_serve.specs.Answering.{stamp_at, local_sources}
use Rattle.x5_model_serve.specs.Serving.{hand, begins_parts}
use Rattle.x5_model_serve.specs.Claims.{asked_line}
use Rattle.x5_model_find.specs.Finds.{Orderly}
use Rattle.x5_model_find.proofs.Orderly.{holdings_orderly}
use Rattle.x5_model_find.proofs.Begins.{begins_alike}
use Rattle.x5_model_find.proofs.Nowhere.{me_is}
use Rattle.x5_model_joins.proofs.Backs.{own_back}

-- ---- spelled as kept

first_of_key : {A : Type 0} (k : A → Key) (xs : List A) → Once (map k xs) → (x : A) → In x xs → find (λ y. same_key (k y) (k x)) xs ≡ Some x
first_of_key k [] once x i = elim i [ ]
first_of_key {A} k (y ∷ ys) once x i = by (same_key (k y) (k x)) refl (λ j. first_of_key k ys once.1 x j)
  where
    by : (b : Bool) → same_key (k y) (k x) ≡ b → (In x ys → find (λ z. same_key (k z) (k x)) ys ≡ Some x) → find (λ z. same_key (k z) (k x)) (y ∷ ys) ≡ Some x
    by true q rest = elim (in_first x y ys i) [
      | inl e ↦ rw q (ap Some (sym e))
      | inr j ↦ absurd (once.0 (subst (λ (z : Key). In z (map k ys)) (sym ((key_decides (k y) (k x)).0 q)) (in_map k x ys j)))
    ]
    by false q rest = elim (in_first x y ys i) [
      | inl e ↦ (let t : same_key (k y) (k x) ≡ true = (key_decides (k y) (k x)).1 (ap k (sym e)) in let f : true ≡ false = sym t ∙ q in cc)
      | inr j ↦ rw q (rest j)
    ]

abbrev own_name : Option Held → Option Name
own_name None = None
own_name (Some c) = Some c.prefix

abbrev copy_name : Option Copy → Option Name
copy_name None = None
copy_name (Some c) = Some c.held.prefix

abbrev kept_by : Option ℕ → Option Held → Option Copy → Option Name
kept_by None held copy = own_name held
kept_by (Some m) held copy = copy_name copy

kept_is : (s : Scene) (x : Source) → kept_name s x ≡ kept_by x.moment (held_at (s.holdings x.agent).own (key_of x.context)) (copy_at (s.holdings x.agent) (key_of x.context))
kept_is s x = by x.moment (held_at (s.holdings x.agent).own (key_of x.context)) refl (copy_at (s.holdings x.agent) (key_of x.context)) refl
  where
    by : (m : Option ℕ) (held : Option Held) → held_at (s.holdings x.agent).own (key_of x.context) ≡ held → (copy : Option Copy) → copy_at (s.holdings x.agent) (key_of x.context) ≡ copy
        → kept_name s (record x { moment = m }) ≡ kept_by m (held_at (s.holdings x.agent).own (key_of x.context)) (copy_at (s.holdings x.agent) (key_of x.context))
    by None None e copy f = rw e refl
    by None (Some c) e copy f = rw e refl
    by (Some m) held e None f = rw f refl
    by (Some m) held e (Some c) f = rw f refl

stamp_kept : (h : Holdings) → Orderly h → (r : Request) (c : Held) → In c (served r h) → kept_by (stamp_at h c) (held_at h.own (key_of c.prefix)) (copy_at h (key_of c.prefix)) ≡ Some c.prefix
stamp_kept h ord r c i = elim (in_either c h.own (filter (λ (d : Held). not (masters_pin h (key_of d.prefix))) (usable_copies r h)) i) [
  | inl mine ↦
      let held : held_at h.own (key_of c.prefix) ≡ Some c = first_of_key (λ (d : Held). key_of d.prefix) h.own ord.own_once c mine in
      ap (λ (b : Bool). kept_by (if b then None else in_option None (λ (y : Copy). y.stamp) (copy_at h (key_of c.prefix))) (held_at h.own (key_of c.prefix)) (copy_at h (key_of c.prefix))) (ap is_some held) ∙ ap own_name held
  | inr j ↦
      let f = of_filter (λ (d : Held). not (masters_pin h (key_of d.prefix))) c (usable_copies r h) j in
      copied (may_copy r) f.0 (not_true (masters_pin h (key_of c.prefix)) f.1)
]
  where
    stamped : (x : Copy) → (o : Option ℕ) → x.stamp ≡ o → is_some x.stamp ≡ true → (held : Option Held) → kept_by x.stamp held (Some x) ≡ Some x.held.prefix
    stamped x None e some held = (let t : true ≡ false = sym some ∙ ap is_some e in cc)
    stamped x (Some n) e some held = ap (λ (o : Option ℕ). kept_by o held (Some x)) e

    copied : (b : Bool) → In c (if b then map (λ (x : Copy). x.held) (filter (λ (x : Copy). is_some x.stamp) h.copies) else []) → masters_pin h (key_of c.prefix) ≡ false → kept_by (stamp_at h c) (held_at h.own (key_of c.prefix)) (copy_at h (key_of c.prefix)) ≡ Some c.prefix
    copied false k free = elim k [ ]
    copied true k free =
        let x = of_map (λ (x : Copy). x.held) c (filter (λ (x : Copy). is_some x.stamp) h.copies) k in
        let f = of_filter (λ (x : Copy). is_some x.stamp) x.0 h.copies x.1 in
        let at : copy_at h (key_of c.prefix) ≡ Some x.0 = ap (λ (y : Held). copy_at h (key_of y.prefix)) x.2 ∙ first_of_key (λ (y : Copy). key_of y.held.prefix) h.copies ord.copies_once x.0 f.0 in
        ap (λ (b : Bool). kept_by (if b then None else in_option None (λ (y : Copy). y.stamp) (copy_at h (key_of c.prefix))) (held_at h.own (key_of c.prefix)) (copy_at h (key_of c.prefix))) free
        ∙ ap (λ (o : Option Copy). kept_by (in_option None (λ (y : Copy). y.stamp) o) (held_at h.own (key_of c.prefix)) o) at
        ∙ stamped x.0 x.0.stamp refl f.1 (held_at h.own (key_of c.prefix)) ∙ ap (λ (y : Held). Some y.prefix) (sym x.2)

-- ---- found

there_of : (c : Held) (key : Key) (e : Named) → lowest c.entries key ≡ Some e → key_at e ≡ key → is_there c.entries key ≡ true
there_of c key e q s =
    let w : IsLowest c.entries key (length key) (Some e) = subst (λ (x : Option Named). IsLowest c.entries key (length key) x) q (lowest_right c.entries key) in
    any_in (λ (f : Named). same_key (key_at f) key) e c.entries w.0 ((key_decides (key_at e) key).1 s)

never_first : (k : _) (rs : List Reference) (other : Found) → begins_parts k other ≡ false → begins_parts k (by_first rs other) ≡ true → ⊥
never_first k [] other none e = let f : true ≡ false = sym e ∙ none in cc
never_first k (r ∷ rs) other none e = cc

module _ (h : Holdings) (m : Chained) (o : ℕ) where
  at_root : begins_parts (hand o m) (at_pin h m None) ≡ true → (is_first_level h && is_root (key_of m.target)) ≡ true
  at_root e = by h.superior refl
    where
      root : (b : Bool) → begins_parts (hand o m) (if b then finding.Root else finding.Nowhere []) ≡ true → b ≡ true
      root true f = refl
      root false f = cc

      by : (x : Option ℕ) → h.superior ≡ x → (is_first_level h && is_root (key_of m.target)) ≡ true
      by None q =
          let f : begins_parts (hand o m) (if is_root (key_of m.target) then finding.Root else finding.Nowhere []) ≡ true = rw q at e in
          and_true (is_first_level h) (is_root (key_of m.target)) (ap is_none q) (root (is_root (key_of m.target)) f)
      by (Some x) q = (let f : false ≡ true = rw q at e in absurd (false_true f))

  own_ends : (c : Held) → begins_parts (hand o m) (in_own h m c) ≡ true → is_there c.entries (key_of m.target) ≡ true
  own_ends c e = by (lowest c.entries (key_of m.target)) refl
    where
      at : (x : Named) → lowest c.entries (key_of m.target) ≡ Some x → (b : Bool) → same_name x.name m.target ≡ b → is_there c.entries (key_of m.target) ≡ true
      at x q true k = there_of c (key_of m.target) x q ((key_decides (key_at x) (key_of m.target)).0 k)
      at x q false k = (let f : begins_parts (hand o m) (by_first (multicast_needs h m c) (finding.Nowhere x.name)) ≡ true = rw (q, k) at e in absurd (never_first (hand o m) (multicast_needs h m c) (finding.Nowhere x.name) refl f))

      by : (x : Option Named) → lowest c.entries (key_of m.target) ≡ x → is_there c.entries (key_of m.target) ≡ true
      by None q = (let f : false ≡ true = rw q at e in absurd (false_true f))
      by (Some x) q = at x q (same_name x.name m.target) refl

  copy_ends : (c : Copy) → begins_parts (hand o m) (in_copy h m c) ≡ true → copy_answers h m c ≡ true
  copy_ends c e = by (copy_answers h m c) refl
    where
      by : (b : Bool) → copy_answers h m c ≡ b → copy_answers h m c ≡ true
      by true q = q
      by false q = (let f : false ≡ true = rw q at e in absurd (false_true f))

  pin_ends : (p : Key) → begins_parts (hand o m) (at_pin h m (Some p)) ≡ true → ends_at_pin h m p ≡ true
  pin_ends p e = by_own (held_at h.own p) refl
    where
      by_copy : held_at h.own p ≡ None → (x : Option Copy) → copy_at h p ≡ x → ends_at_pin h m p ≡ true
      by_copy n None q = (let f : begins_parts (hand o m) (by_first (specific_needs h m p) finding.Stuck) ≡ true = rw (n, q) at e in absurd (never_first (hand o m) (specific_needs h m p) finding.Stuck refl f))
      by_copy n (Some c) q = (let f : begins_parts (hand o m) (in_copy h m c) ≡ true = rw (n, q) at e in rw (n, q) (copy_ends c f))

      by_own : (x : Option Held) → held_at h.own p ≡ x → ends_at_pin h m p ≡ true
      by_own None q = by_copy q (copy_at h p) refl
      by_own (Some c) q = (let f : begins_parts (hand o m) (in_own h m c) ≡ true = rw q at e in rw q (own_ends c f))

  at_ends : (x : Option Key) → begins_parts (hand o m) (at_pin h m x) ≡ true → in_option (is_first_level h && is_root (key_of m.target)) (ends_at_pin h m) x ≡ true
  at_ends None e = at_root e
  at_ends (Some p) e = pin_ends p e

  found_ends : is_done m.progress ≡ false → begins_parts (hand o m) (finding.find h m) ≡ true → ends_here h m ≡ true
  found_ends going e = go m.progress refl e
    where
      next : (k : ℕ) → m.progress ≡ Next k → (b : Bool) → holds_within h (key_of m.target) k ≡ b → begins_parts (hand o m) (if b then resolved h m else finding.Stuck) ≡ true → ends_here h m ≡ true
      next k q true w f = and_true (resolves h m) _ (ap (resolves_by h (key_of m.target)) q ∙ w) (at_ends (known_pin m.request h (key_of m.target)) f)
      next k q false w f = absurd (false_true f)

      go : (x : Progress) → m.progress ≡ x → begins_parts (hand o m) (found_by h m x) ≡ true → ends_here h m ≡ true
      go Start q f = and_true (resolves h m) _ (ap (resolves_by h (key_of m.target)) q) (at_ends (known_pin m.request h (key_of m.target)) f)
      go (Next k) q f = next k q (holds_within h (key_of m.target) k) refl f
      go Done q f = absurd (false_true (sym going ∙ ap is_done q))

-- ---- at an agent that begins it

module _ (p : Point) (l : Line) (b : BeginsHere p l) (s : Scene) (scene : s.holdings ≡ holdings_at p) where
  ord : Orderly (holdings_at p l.receiver)
  ord = holdings_orderly p l.receiver (record { described = b.stands.described; consistent = b.stands.consistent })

  served_here : (c : Held) → In c (evaluated (holdings_at p l.receiver) l.message) → In c (served l.message.request (holdings_at p l.receiver))
  served_here c i =
      let v = sight p l b in
      (spot_is (knowledge_at p) (tree_at p) (knowledge_now p) l.receiver (holdings_at p l.receiver) l.message v.look v.sees_it c i).0

  abbrev src : Held → Source
  src c = record { context = c.prefix; agent = (holdings_at p l.receiver).me; moment = stamp_at (holdings_at p l.receiver) c }

  kept_one : (c : Held) → In c (evaluated (holdings_at p l.receiver) l.message) → kept_name s (src c) ≡ Some c.prefix
  kept_one c i =
      kept_is s (src c)
      ∙ ap (λ (h : Holdings). kept_by (stamp_at (holdings_at p l.receiver) c) (held_at h.own (key_of c.prefix)) (copy_at h (key_of c.prefix))) ((λ i. scene i (me_is p l.receiver i)))
      ∙ stamp_kept (holdings_at p l.receiver) ord l.message.request c (served_here c i)

  kept_all : (cs : List Held) → ((c : Held) → In c cs → kept_name s (src c) ≡ Some c.prefix) → map (kept_name s) (map src cs) ≡ map (λ (x : Source). Some x.context) (map src cs)
  kept_all [] f = refl
  kept_all (c ∷ cs) f = λ i. f c here i ∷ kept_all cs (λ d j. f d (there j)) i

  pub spelled_locally : map (kept_name s) (local_sources (holdings_at p l.receiver) l.message) ≡ map (λ (x : Source). Some x.context) (local_sources (holdings_at p l.receiver) l.message)
  spelled_locally =
      kept_all (entered (holdings_at p l.receiver) l.message) (λ c i. kept_one c (of_walk false (holdings_at p l.receiver) l.message c i))

  pub ends_locally : IsLooked l.message → is_some (subset_of l.message) ≡ true → is_done l.message.progress ≡ false → ends_here (s.holdings l.receiver) l.message ≡ true
  ends_locally looked some going =
      ap (λ (h : ℕ → Holdings). ends_here (h l.receiver) l.message) scene
      ∙ found_ends (holdings_at p l.receiver) l.message l.receiver going (begins_alike (holdings_at p l.receiver) l.message l.receiver ord looked some ∙ b.begins)

pub found_locally : (p : Point) (l : Line) (b : BeginsHere p l) (lines : List Line) (stood : ℕ) → In l lines → (s : Scene) → s.holdings ≡ holdings_at p → IsLooked l.message → is_some (subset_of l.message) ≡ true → is_found s (asked_line l stood) lines ≡ true
found_locally p l b lines stood stands s scene looked some = elim (true_or_false (is_done l.message.progress)) [
  | inl e ↦ or_left (is_done l.message.progress) _ e
  | inr e ↦ or_right (is_done l.message.progress) _ (own_back (λ x. ends_here (s.holdings x.receiver) x.message) l stood lines stands (ends_locally p l b s scene looked some e))
]
