-- The logs that a line finds, at the next line: where nothing is accepted they are as they were; and of an update its
-- master notes the step with the context that it is in, and nobody else does.
use Rattle.std.proofs.Common.{◌≡◌, ℕ, zero, suc, ◌+◌, ◌-◌, ◌<◌, ◌==◌, ◌&&◌, ◌⊎◌, Bool, true, false, if◌then◌else◌, nat_lt, inl, inr, List, [], ◌∷◌, ◌++◌, length, map, drop, slice_get, slice_set, refl, sym, ap, subst, ◌∙◌, arith, Option, None, Some, Ok, Err}
use Rattle.std.specs.List.{filter, find}
use Rattle.std.specs.Option.{option_map}
use mathlib.Core.Path.{fun_ext}
use Rattle.x5_model.specs.Words.{first_of, has, in_option}
use Rattle.x5_model.specs.Members.{In, Once, here, there}
use Rattle.x5_model.specs.Keys.{Key, parent, same_key}
use Rattle.x5_model.specs.Values.{key_of, last_rdn}
use Rattle.x5_model.specs.Entries.{Named}
use Rattle.x5_model.specs.Changes.{ChangedEntry, modified}
use Rattle.x5_model.specs.Requests.{Body, Request, Read, Compare, ListBelow, Search, AddEntry, RemoveEntry, ModifyEntry, ModifyDn}
use Rattle.x5_model.proofs.KeyLaws.{key_decides}
use Rattle.x5_model.proofs.Decide.{nat_same_decides}
use Rattle.x5_model.proofs.Lists.{any_in, has_in, in_first, in_map, in_flat, of_map, of_any, of_filter, of_find, once_map, both_true, and_true, true_or_false}
use Rattle.x5_model_tree.specs.World.{Agent, Agreement, Context, World}
use Rattle.x5_model_tree.specs.Tree.{Tree, belongs, entry_at, key_at, longest, part}
use Rattle.x5_model_tree.specs.Masters.{Mastered, agent_at, held_contexts, mastered, masters, numbered, pin_of, pins}
use Rattle.x5_model_tree.specs.Consistent.{IsConsistent}
use Rattle.x5_model_tree.specs.Conditions.{Conditions}
use Rattle.x5_model_tree.specs.Described.{IsDescribed}
use Rattle.x5_model_tree.proofs.Grown.{above_key}
use Rattle.x5_model_tree.proofs.Exact.{conditions_hold}
use Rattle.x5_model_tree.proofs.Longest.{belongs_decides, longest_is}
use Rattle.x5_model_run.specs.Holdings.{Held, Holdings}
use Rattle.x5_model_run.specs.Needs.{target_of}
use Rattle.x5_model_run.specs.History.{Acceptance, Deed, Nothing, Outs, Loses, Accepts, Refreshes, Splits, Unsplits, Did, Point, agent_holdings, agreements_of, as_of, first_agreements, holdings_at, knowledge_at, knowledge_by, moment_of, no_holdings, own_context, tree_at, tree_by}
use Rattle.x5_model_run.specs.Refresh.{Changes, base_of, changes_at, is_change_in}
use Rattle.x5_model_theory.proofs.Holding.{of_place}
use Rattle.x5_model_refreshed.specs.Steps.{Step, modify_step, step_of}
use Rattle.x5_model_refreshed.specs.Logs.{Log, log_at}
use Rattle.x5_model_refreshed.specs.Replaying.{AllHappen, IsLed, last_256}
use Rattle.x5_model_refreshed.specs.Growing.{IsKeptMore, IsLogMore, IsLogOf, IsQuiet, after_deed}
use Rattle.x5_model_refreshed.proofs.Bringing.{not_master}
use Rattle.x5_model_refreshed.proofs.Growing.{kept_grows, no_other_notes, quiet_logs_stay, update_is_noted}
use Rattle.x5_model_refreshed.proofs.Leading.{knowledge_stays, pins_stay}
use Rattle.x5_model_refreshed.proofs.Replayed.{log_counts}
use Rattle.x5_world.specs.Logs.{AreNoted, Logs, Notes, agent_logs, logs_at, no_logs, noting, notes_at}

-- ---- lists

map_same : {A B : Type 0} (f g : A → B) (xs : List A) → ((x : A) → In x xs → g x ≡ f x) → map g xs ≡ map f xs
map_same f g [] h = refl
map_same {A} {B} f g (x ∷ xs) h = λ i. h x here i ∷ map_same f g xs (λ y j. h y (there j)) i

got_in : {A : Type 0} (xs : List A) (i : ℕ) (x : A) → slice_get xs i ≡ Some x → In x xs
got_in [] i x e = cc
got_in {A} (y ∷ ys) zero x e = let q : y ≡ x = cc in subst (λ (z : A). In z (y ∷ ys)) q here
got_in (y ∷ ys) (suc i) x e = there (got_in ys i x e)

-- one member alone is made another way, and no other has its key
set_one : {A B : Type 0} (key : A → Key) (f g : A → B) (xs : List A) (i : ℕ) (x : A) → Once (map key xs)
    → slice_get xs i ≡ Some x → ((y : A) → In y xs → (key y ≡ key x → ⊥) → g y ≡ f y)
    → map g xs ≡ slice_set (map f xs) i (g x)
set_one key f g [] i x once e h = cc
set_one {A} {B} key f g (y ∷ ys) zero x once e h =
    let q : y ≡ x = cc in
    let rest : map g ys ≡ map f ys =
    map_same f g ys (λ z j. h z (there j) (λ s. once.0 (subst (λ (k : Key). In k (map key ys)) (s ∙ ap key (sym q)) (in_map key z ys j)))) in
    λ j. g (q j) ∷ rest j
set_one {A} {B} key f g (y ∷ ys) (suc i) x once e h =
    let first : g y ≡ f y =
    h y here (λ s. once.0 (subst (λ (k : Key). In k (map key ys)) (sym s) (in_map key x ys (got_in ys i x e)))) in
    let rest : map g ys ≡ slice_set (map f ys) i (g x) =
    set_one key f g ys i x once.1 e (λ z j n. h z (there j) n) in
    λ j. first j ∷ rest j

of_map_at : {A B : Type 0} (f : A → B) (xs : List A) (i : ℕ) (y : B) → slice_get (map f xs) i ≡ Some y
    → (x : A) × (slice_get xs i ≡ Some x) × (y ≡ f x)
of_map_at f [] i y e = cc
of_map_at f (x ∷ xs) zero y e = (x, refl, cc)
of_map_at f (x ∷ xs) (suc i) y e = of_map_at f xs i y e

map_at : {A B : Type 0} (f : A → B) (xs : List A) (i : ℕ) (x : A) → slice_get xs i ≡ Some x
    → slice_get (map f xs) i ≡ Some (f x)
map_at f [] i x e = cc
map_at {A} {B} f (y ∷ ys) zero x e = let q : y ≡ x = cc in ap (λ (z : A). Some (f z)) q
map_at f (y ∷ ys) (suc i) x e = map_at f ys i x e

-- ---- what an agent holds

false_true : false ≡ true → ⊥
false_true e = cc

of_held : (before : List Key) (cs : List Context) (c : Context) → In c (held_contexts before cs) → In c cs
of_held before [] c i = elim i [ ]
of_held before (x ∷ cs) c i =
    go (has same_key before (key_of x.prefix)) i (of_held before cs c) (of_held (key_of x.prefix ∷ before) cs c)
  where
    go : (b : Bool) → In c (if b then held_contexts before cs else (x ∷ held_contexts (key_of x.prefix ∷ before) cs))
        → (In c (held_contexts before cs) → In c cs)
        → (In c (held_contexts (key_of x.prefix ∷ before) cs) → In c cs) → In c (x ∷ cs)
    go true j f g = there (f j)
    go false j f g = elim (in_first c x (held_contexts (key_of x.prefix ∷ before) cs) j) [
      | inl e ↦ subst (λ (y : Context). In c (y ∷ cs)) e here
      | inr k ↦ there (g k)
    ]

of_first : (before : List Key) (gs : List Agreement) (g : Agreement) → In g (first_agreements before gs) → In g gs
of_first before [] g i = elim i [ ]
of_first before (x ∷ gs) g i =
    go (has same_key before (key_of x.context)) i (of_first before gs g) (of_first (key_of x.context ∷ before) gs g)
  where
    go : (b : Bool)
        → In g (if b then first_agreements before gs else (x ∷ first_agreements (key_of x.context ∷ before) gs))
        → (In g (first_agreements before gs) → In g gs)
        → (In g (first_agreements (key_of x.context ∷ before) gs) → In g gs) → In g (x ∷ gs)
    go true i f h = there (f i)
    go false i f h = elim (in_first g x (first_agreements (key_of x.context ∷ before) gs) i) [
      | inl e ↦ subst (λ (y : Agreement). In g (y ∷ gs)) e here
      | inr j ↦ there (h j)
    ]

-- an agent masters what stands among its contexts
abbrev at : ℕ → Context → Mastered
at a c = record { master = a; context = c }

is_mastered : (w : World) (a : ℕ) (x : Agent) (c : Context) → agent_at w a ≡ Some x → In c (held_contexts [] x.contexts)
    → In (at a c) (mastered w)
is_mastered w a x c e i =
    in_flat (λ (b : ℕ × Agent). map (at b.0) b.1.contexts) (at a c) (a, x) (numbered w) (of_place w a x e)
    (in_map (at a) c x.contexts (of_held [] x.contexts c i))

it_masters : (w : World) (a : ℕ) (x : Agent) (c : Context) → agent_at w a ≡ Some x → In c (held_contexts [] x.contexts)
    → masters w a (key_of c.prefix) ≡ true
it_masters w a x c e i =
    any_in (λ (m : Mastered). (m.master == a) && same_key (pin_of m) (key_of c.prefix)) (at a c) (mastered w)
    (is_mastered w a x c e i)
    (and_true (a == a) (same_key (key_of c.prefix) (key_of c.prefix)) ((nat_same_decides a a).1 refl)
    ((key_decides (key_of c.prefix) (key_of c.prefix)).1 refl))

new_contexts : (before : List Key) (cs : List Context) (c : Context) → In c (held_contexts before cs)
    → In (key_of c.prefix) before → ⊥
new_contexts before [] c i j = elim i [ ]
new_contexts before (x ∷ cs) c i j =
    go (has same_key before (key_of x.prefix)) refl i (λ l. new_contexts before cs c l j)
    (λ l. new_contexts (key_of x.prefix ∷ before) cs c l (there j))
  where
    go : (b : Bool) → has same_key before (key_of x.prefix) ≡ b
        → In c (if b then held_contexts before cs else (x ∷ held_contexts (key_of x.prefix ∷ before) cs))
        → (In c (held_contexts before cs) → ⊥) → (In c (held_contexts (key_of x.prefix ∷ before) cs) → ⊥) → ⊥
    go true e l f g = f l
    go false e l f g = elim (in_first c x (held_contexts (key_of x.prefix ∷ before) cs) l) [
      | inl same ↦ false_true
          (sym e ∙ has_in same_key key_decides (key_of x.prefix) before
          (subst (λ (y : Context). In (key_of y.prefix) before) same j))
      | inr k ↦ g k
    ]

once_contexts : (before : List Key) (cs : List Context)
    → Once (map (λ (c : Context). key_of c.prefix) (held_contexts before cs))
once_contexts before [] = tt
once_contexts before (x ∷ cs) =
    go (has same_key before (key_of x.prefix)) (once_contexts before cs) (once_contexts (key_of x.prefix ∷ before) cs)
  where
    go : (b : Bool) → Once (map (λ (c : Context). key_of c.prefix) (held_contexts before cs))
        → Once (map (λ (c : Context). key_of c.prefix) (held_contexts (key_of x.prefix ∷ before) cs))
        → Once (map (λ (c : Context). key_of c.prefix)
        (if b then held_contexts before cs else (x ∷ held_contexts (key_of x.prefix ∷ before) cs)))
    go true f g = f
    go false f g = (
      λ i.
          let c = of_map (λ (c : Context). key_of c.prefix) (key_of x.prefix) (held_contexts (key_of x.prefix ∷ before) cs) i in
          new_contexts (key_of x.prefix ∷ before) cs c.0 c.1
          (subst (λ (k : Key). In k (key_of x.prefix ∷ before)) c.2 here),
      g,
    )

-- ---- a line that accepts nothing

notes_same : (p q : Point) (a : ℕ) (pin : Key) → IsLogOf p q a pin → notes_at q a pin ≡ notes_at p a pin
notes_same p q a pin is = λ i. record { base = base_of (is.changes i); changes = last_256 (is.log i) }

abbrev logs_with : (Key → Notes) → Point → ℕ → Logs
logs_with f p me =
    in_option no_logs (λ a. record {
      own = map (λ c. f (key_of c.prefix)) (held_contexts [] a.contexts);
      copies = map (λ g. option_map (λ stamp. f (key_of g.context)) (as_of p g.number)) (agreements_of (knowledge_at p) me);
    }) (agent_at (knowledge_at p) me)

notes_stay : (p : Point) (deed : Deed) (sent a : ℕ) → IsQuiet deed
    → notes_at (after_deed p deed sent) a ≡ notes_at p a
notes_stay p deed sent a q =
    fun_ext (λ pin. notes_same p (after_deed p deed sent) a pin (quiet_logs_stay p deed sent a pin q))

pub logs_stay : (p : Point) (deed : Deed) (sent a : ℕ) → IsQuiet deed → logs_at (after_deed p deed sent) a ≡ logs_at p a
logs_stay p Nothing sent a q = ap (λ (f : Key → Notes). logs_with f p a) (notes_stay p Nothing sent a q)
logs_stay p (Outs o) sent a q = ap (λ (f : Key → Notes). logs_with f p a) (notes_stay p (Outs o) sent a q)
logs_stay p (Loses reply k) sent a q = ap (λ (f : Key → Notes). logs_with f p a) (notes_stay p (Loses reply k) sent a q)
logs_stay p (Accepts accepted) sent a q = absurd q
logs_stay p (Refreshes f) sent a q = absurd q
logs_stay p (Splits name o) sent a q = absurd q
logs_stay p (Unsplits name) sent a q = absurd q

-- ---- an update whose step is one of a context is in that context

some_mapped : {A B : Type 0} (f : A → B) (o : Option A) (y : B) → option_map f o ≡ Some y → (x : A) × (o ≡ Some x)
some_mapped f None y e = cc
some_mapped f (Some x) y e = (x, refl)

some_inside : {A B : Type 0} (f : A → Option B) (o : Option A) (y : B) → in_option None f o ≡ Some y
    → (x : A) × (o ≡ Some x)
some_inside f None y e = cc
some_inside f (Some x) y e = (x, refl)

module _ (t : Tree) (pin : Key) where
  is_in : (key : Key) (e : Named) → entry_at (part t pin) key ≡ Some e → belongs t.pins pin key ≡ true
  is_in key e q =
      let f = of_find (λ (y : Named). same_key (key_at y) key) e (part t pin) q in
      let b = of_filter (λ (y : Named). belongs t.pins pin (key_at y)) e t.entries f.0 in
      subst (λ (k : Key). belongs t.pins pin k ≡ true) ((key_decides (key_at e) key).0 f.1) b.1

  inside_by_step : (b : Body) (s : Step) → step_of (part t pin) b ≡ Some s
      → belongs t.pins pin (key_of (target_of b)) ≡ true
  inside_by_step (Read name selection) s e = cc
  inside_by_step (Compare name assertion) s e = cc
  inside_by_step (ListBelow name) s e = cc
  inside_by_step (Search base subset f selection) s e = cc
  inside_by_step (AddEntry name attributes) s e =
      let w = some_mapped _ (entry_at (part t pin) (parent (key_of name))) s e in
      subst (λ (k : Key). belongs t.pins pin k ≡ true) (sym (above_key name)) (is_in (parent (key_of name)) w.0 w.1)
  inside_by_step (RemoveEntry name) s e =
      let w = some_mapped _ (entry_at (part t pin) (key_of name)) s e in is_in (key_of name) w.0 w.1
  inside_by_step (ModifyEntry name changes) s e =
      let w = some_inside _ (entry_at (part t pin) (key_of name)) s e in is_in (key_of name) w.0 w.1
  inside_by_step (ModifyDn name rdn drops) s e =
      let w = some_mapped _ (entry_at (part t pin) (key_of name)) s e in is_in (key_of name) w.0 w.1

some_key : (k l : Key) → Some k ≡ Some l → k ≡ l
some_key k l e = cc

some_notes : (k l : Notes) → Some k ≡ Some l → k ≡ l
some_notes k l e = cc

-- ---- a line at which one agent accepts an update

module _ (p : Point) (led : IsLed p) (o : ℕ) (r : Request) (sent : ℕ) where
  abbrev x : Acceptance
  x = record { agent = o; request = r }

  abbrev next : Point
  next = after_deed p (Accepts (x ∷ [])) sent

  abbrev w : World
  w = knowledge_at p

  known : w ≡ p.described
  known = knowledge_stays p.described p.past led.happened

  conditions : Conditions w
  conditions = subst Conditions (sym known) (conditions_hold p.described led.consistent)

  pins_are : (tree_at p).pins ≡ pins w
  pins_are = pins_stay p.described led.described led.consistent p.past led.happened ∙ ap pins (sym known)

  copy_stays : (a : ℕ) (g : Agreement) → In g (agreements_of w a)
      → notes_at next a (key_of g.context) ≡ notes_at p a (key_of g.context)
  copy_stays a g i =
      let f = of_filter (λ (h : Agreement). h.consumer == a) g w.agreements
      (of_first [] (filter (λ (h : Agreement). h.consumer == a) w.agreements) g i) in
      let mine : g.consumer ≡ a = (nat_same_decides g.consumer a).0 f.1 in
      notes_same p next a (key_of g.context)
      (no_other_notes p x sent a (key_of g.context)
      (inl (subst (λ (b : ℕ). masters w b (key_of g.context) ≡ false) mine (not_master w g f.0 (conditions.supplied g f.0)))))

  abbrev copy_with : (Key → Notes) → Agreement → Option Notes
  copy_with f g = option_map (λ (stamp : ℕ). f (key_of g.context)) (as_of p g.number)

  copies_stay : (a : ℕ) → map (copy_with (notes_at next a)) (agreements_of w a) ≡ map (copy_with (notes_at p a)) (agreements_of w a)
  copies_stay a =
      map_same (copy_with (notes_at p a)) (copy_with (notes_at next a)) (agreements_of w a)
      (λ g j. ap (λ (n : Notes). option_map (λ (stamp : ℕ). n) (as_of p g.number)) (copy_stays a g j))

  one_pin : (k l : Key) → is_change_in (pins w) k x ≡ true → is_change_in (pins w) l x ≡ true → k ≡ l
  one_pin k l e f =
      let target = key_of (target_of r.body) in
      some_key k l
      (sym (longest_is (pins w) target k ((belongs_decides (pins w) k target).0 e))
      ∙ longest_is (pins w) target l ((belongs_decides (pins w) l target).0 f))

  not_there : (a : ℕ) (k : Key) → (is_change_in (pins w) k x ≡ true → ⊥) → notes_at next a k ≡ notes_at p a k
  not_there a k h =
      notes_same p next a k
      (no_other_notes p x sent a k
      (elim (true_or_false (is_change_in (pins w) k x)) [ inl e ↦ absurd (h e) | inr e ↦ inr e ]))

  -- who masters no context in which it is has the logs that it had
  elsewhere : (a : ℕ)
      → ((y : Agent) (c : Context) → agent_at w a ≡ Some y → In c (held_contexts [] y.contexts)
      → is_change_in (pins w) (key_of c.prefix) x ≡ true → ⊥)
      → logs_at next a ≡ logs_at p a
  elsewhere a h = by (agent_at w a) refl
    where
      by : (y : Option Agent) → agent_at w a ≡ y
          → in_option no_logs (agent_logs next a) y ≡ in_option no_logs (agent_logs p a) y
      by None e = refl
      by (Some y) e =
          let own = map_same (λ (c : Context). notes_at p a (key_of c.prefix)) (λ (c : Context). notes_at next a (key_of c.prefix))
          (held_contexts [] y.contexts) (λ c j. not_there a (key_of c.prefix) (h y c e j)) in
          λ i. record { own = own i; copies = copies_stay a i }

  -- the context in which it is, which its master holds
  pub record IsMasters : Type 0 where
    pub agent : Agent
    pub context : Context
    pub there : agent_at w o ≡ Some agent
    pub held : In context (held_contexts [] agent.contexts)
    pub inside : is_change_in (pins w) (key_of context.prefix) x ≡ true

  abbrev Noting : Holdings → Logs → Logs → Type 0
  Noting h old new = AreNoted (moment_of p) r h old new

  pub noted_so : (new : Logs) → Noting (holdings_at p o) (logs_at p o) new → IsMasters × (new ≡ logs_at next o)
  noted_so new is = by (agent_at w o) refl is
    where
      by : (y : Option Agent) → agent_at w o ≡ y
          → Noting (in_option (no_holdings o) (agent_holdings p o) y) (in_option no_logs (agent_logs p o) y) new
          → IsMasters × (new ≡ in_option no_logs (agent_logs next o) y)
      by None e n = (let none = n.held in cc)
      by (Some y) e n =
          let cs : List Context = held_contexts [] y.contexts in
          let found = of_map_at (own_context (tree_at p) y) cs n.place n.context n.held in
          let c : Context = found.0 in
          let pin : Key = key_of c.prefix in
          let i : In c cs = got_in cs n.place c found.1 in
          let told : step_of (part (tree_at p) pin) r.body ≡ Some n.step =
          ap (λ (h : Held). step_of h.entries r.body) (sym found.2) ∙ n.told in
          let inside : is_change_in (pins w) pin x ≡ true =
          subst (λ (ps : List Key). belongs ps pin (key_of (target_of r.body)) ≡ true) pins_are
          (inside_by_step (tree_at p) pin r.body n.step told) in
          let more : IsLogMore p next o pin n.step =
          update_is_noted p x sent o pin n.step (it_masters w o y c e i) inside told in
          let kept : IsKeptMore (log_at p o pin) (changes_at p o pin) (moment_of p) n.step =
          kept_grows (log_at p o pin) (changes_at p o pin) (moment_of p) n.step (log_counts p o pin led) in
          let was : n.notes ≡ notes_at p o pin =
          some_notes n.notes (notes_at p o pin)
          (sym n.kept ∙ map_at (λ (d : Context). notes_at p o (key_of d.prefix)) cs n.place c found.1) in
          let now : notes_at next o pin ≡ noting (moment_of p, n.step) (notes_at p o pin) =
          λ k. record { base = (ap base_of more.changes ∙ kept.base) k; changes = (ap last_256 more.log ∙ kept.last) k } in
          let own : map (λ (d : Context). notes_at next o (key_of d.prefix)) cs
          ≡ slice_set (map (λ (d : Context). notes_at p o (key_of d.prefix)) cs) n.place (notes_at next o pin) =
          set_one (λ (d : Context). key_of d.prefix) (λ (d : Context). notes_at p o (key_of d.prefix))
          (λ (d : Context). notes_at next o (key_of d.prefix)) cs n.place c (once_contexts [] y.contexts) found.1
          (λ d j other. not_there o (key_of d.prefix) (λ f. other (one_pin (key_of d.prefix) pin f inside))) in
          let same : record (agent_logs p o y) { own = slice_set (agent_logs p o y).own n.place (noting (moment_of p, n.step) n.notes) } ≡ agent_logs next o y =
          λ k. record {
            own = (ap (λ (z : Notes). slice_set (agent_logs p o y).own n.place (noting (moment_of p, n.step) z)) was
                ∙ ap (λ (z : Notes). slice_set (agent_logs p o y).own n.place z) (sym now)
                ∙ sym own) k;
            copies = sym (copies_stay o) k;
          } in (
            record { agent = y; context = c; there = e; held = i; inside = inside },
            n.new_is ∙ same,
          )

  -- and every other agent has the logs that it had
  pub others_stay : (a : ℕ) → IsMasters → (a ≡ o → ⊥) → logs_at next a ≡ logs_at p a
  others_stay a m other =
      elsewhere a (λ y c e j f.
      (let same = once_map pin_of (mastered w) (at a c) (at o m.context) conditions.one_master (is_mastered w a y c e j)
      (is_mastered w o m.agent m.context m.there m.held) (one_pin (key_of c.prefix) (key_of m.context.prefix) f m.inside) in
      other (ap (λ (z : Mastered). z.master) same)))
