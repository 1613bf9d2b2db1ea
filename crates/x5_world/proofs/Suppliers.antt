-- A supplier of the network holds what the run says: the context as of the moment that the run has, with the entries of then, and a
-- log of the changes that the run counts.
use Rattle.std.proofs.Common.{◌≡◌, ℕ, zero, suc, ◌-◌, ◌≤◌, Bool, true, false, cond, if◌then◌else◌, nat_le, List, [], ◌∷◌, ◌++◌, length, map, take, drop, reverse, slice_get, refl, sym, ap, ◌∙◌, arith, Option, Some, None}
use Rattle.std.specs.List.{find}
use Rattle.std.specs.Option.{is_some, option_map}
use Rattle.std.proofs.lemmas.List.{length-map, length-drop, length-reverse, take-append-drop, reverse-append, reverse-reverse, drop-map}
use Rattle.x5_model.specs.Words.{in_option}
use Rattle.x5_model.specs.Members.{here}
use Rattle.x5_model.specs.Keys.{Key, same_key}
use Rattle.x5_model.specs.Values.{Name, key_of}
use Rattle.x5_model.specs.Entries.{Named}
use Rattle.x5_model.proofs.KeyLaws.{key_decides}
use Rattle.x5_model.proofs.Lists.{and_true}
use Rattle.x5_model_tree.specs.World.{Agent, Agreement, Context, World}
use Rattle.x5_model_tree.specs.Tree.{part}
use Rattle.x5_model_tree.specs.Masters.{Mastered, agent_at, held_contexts}
use Rattle.x5_model_run.specs.Holdings.{Copy, Held, Holdings, copy_at, held_at}
use Rattle.x5_model_run.specs.History.{Point, agent_holdings, agreements_of, as_of, copy_as_of, copy_by, holdings_at, knowledge_at, mastered_at, moment_of, no_holdings, own_context, sent_references, tree_at, tree_of_moment}
use Rattle.x5_model_run.specs.Refresh.{Changes, base_of, changes_at}
use Rattle.x5_model_run.specs.Refresh as refresh
use Rattle.x5_model_refreshed.specs.Steps.{Step}
use Rattle.x5_model_refreshed.specs.Logs.{Log, log_at, moments_of}
use Rattle.x5_model_refreshed.specs.Replaying.{IsLed}
use Rattle.x5_model_refreshed.proofs.Lasting.{Down}
use Rattle.x5_model_refreshed.proofs.Refreshed.{entries_are}
use Rattle.x5_model_refreshed.proofs.Replayed.{changes_down, log_counts}
use Rattle.x5_model_refreshed.proofs.Sources.{supplied_is_held, master_supplies, consumer_supplies}
use Rattle.x5_dse.specs.Linked.{entries_of}
use Rattle.x5_holdings.specs.declared.log.Logged.{Logged}
use Rattle.x5_holdings.specs.Logs as holdings
use Rattle.x5_holdings.specs.State.{CopyKept, Kept, State, brought_entries, copy_view, held_view, holdings_view, stamp_of as stamp_in}
use Rattle.x5_supply.specs.Copying.{IsLogOf, falls}
use Rattle.x5_supply.specs.Supplied.{copy_of, mastered_of, or_else, stamp_of, supplied}
use Rattle.x5_refresh.specs.Joined.{IsSupplier}
use Rattle.x5_world.specs.Logs.{Logs, Notes, agent_logs, logs_at, no_logs, notes_at}
use Rattle.x5_world.specs.LogViews.{copy_notes, logged_view, logs_view, notes_view, own_notes}
use Rattle.x5_world.proofs.Courses.{map_at, some_is}

-- ---- lists

pub of_map_at : {A B : Type 0} (f : A → B) (xs : List A) (i : ℕ) (y : B) → slice_get (map f xs) i ≡ Some y
    → (x : A) × (slice_get xs i ≡ Some x) × (y ≡ f x)
of_map_at f [] i y e = cc
of_map_at f (x ∷ xs) zero y e = (x, refl, cc)
of_map_at f (x ∷ xs) (suc i) y e = of_map_at f xs i y e

pub found_at : {A : Type 0} (test : A → Bool) (xs : List A) (x : A) → find test xs ≡ Some x
    → (i : ℕ) × (slice_get xs i ≡ Some x) × (test x ≡ true)
found_at test [] x e = cc
found_at {A} test (y ∷ ys) x e = by (test y) refl e (found_at test ys x)
  where
    by : (b : Bool) → test y ≡ b → cond b (Some y) (find test ys) ≡ Some x
        → (find test ys ≡ Some x → (i : ℕ) × (slice_get ys i ≡ Some x) × (test x ≡ true))
        → (i : ℕ) × (slice_get (y ∷ ys) i ≡ Some x) × (test x ≡ true)
    by true t q more = (zero, q, ap test (sym (some_is q)) ∙ t)
    by false t q more = (let r = more q in (suc r.0, r.1, r.2))

pub found_held : (xs : List Kept) (pin : Key)
    → held_at (map held_view xs) pin ≡ option_map held_view (find (λ c. same_key (key_of c.prefix) pin) xs)
found_held [] pin = refl
found_held (x ∷ xs) pin = by (same_key (key_of x.prefix) pin) (found_held xs pin)
  where
    by : (b : Bool)
        → held_at (map held_view xs) pin ≡ option_map held_view (find (λ c. same_key (key_of c.prefix) pin) xs)
        → cond b (Some (held_view x)) (held_at (map held_view xs) pin)
        ≡ option_map held_view (cond b (Some x) (find (λ c. same_key (key_of c.prefix) pin) xs))
    by true e = refl
    by false e = e

pub found_copy : (xs : List CopyKept) (pin : Key)
    → find (λ (c : Copy). same_key (key_of c.held.prefix) pin) (map copy_view xs)
    ≡ option_map copy_view (find (λ c. same_key (key_of c.prefix) pin) xs)
found_copy [] pin = refl
found_copy (x ∷ xs) pin = by (same_key (key_of x.prefix) pin) (found_copy xs pin)
  where
    by : (b : Bool)
        → find (λ (c : Copy). same_key (key_of c.held.prefix) pin) (map copy_view xs)
        ≡ option_map copy_view (find (λ c. same_key (key_of c.prefix) pin) xs)
        → cond b (Some (copy_view x)) (find (λ (c : Copy). same_key (key_of c.held.prefix) pin) (map copy_view xs))
        ≡ option_map copy_view (cond b (Some x) (find (λ c. same_key (key_of c.prefix) pin) xs))
    by true e = refl
    by false e = e

-- ---- copies

prefixed : (w : World) (prefix : Name) (entries : List Named) (x : Option Mastered)
    → (in_option {Y = Held} (record { prefix = prefix; entries = entries; subordinate = []; nssrs = [] })
    (λ (c : Mastered). record { prefix = prefix; entries = entries; subordinate = sent_references w c entries; nssrs = c.context.nssrs }) x).prefix
    ≡ prefix
prefixed w prefix entries None = refl
prefixed w prefix entries (Some c) = refl

-- a copy is spelled as its agreement spells it,
pub copy_prefix : (p : Point) (g : Agreement) (o : Option ℕ) → (copy_as_of p g o).prefix ≡ g.context
copy_prefix p g None = refl
copy_prefix p g (Some m) =
    prefixed (knowledge_at p) g.context (part (tree_of_moment p m) (key_of g.context))
    (mastered_at (knowledge_at p) (key_of g.context))

-- and has the entries of its moment
pub copy_entries : (p : Point) (g : Agreement) (m : ℕ)
    → (copy_as_of p g (Some m)).entries ≡ part (tree_of_moment p m) (key_of g.context)
copy_entries p g m =
    entries_are (knowledge_at p) g.context (part (tree_of_moment p m) (key_of g.context))
    (mastered_at (knowledge_at p) (key_of g.context))

-- ---- logs

nothing_at : {A : Type 0} (i : ℕ) (x : A) → slice_get [] i ≡ Some x → ⊥
nothing_at i x e = cc

module _ (p : Point) (me : ℕ) (s : State) (holds : holdings_view s ≡ holdings_at p me) (logs : logs_view s ≡ logs_at p me) where
  -- an agent that holds something is one of the world
  own_noted : (o : Option Agent) → agent_at (knowledge_at p) me ≡ o → (i : ℕ) (c : Kept) → slice_get s.own i ≡ Some c
      → notes_view c.log ≡ notes_at p me (key_of c.prefix)
  own_noted None none i c e =
      let nothing : map held_view s.own ≡ [] =
      ap (λ (h : Holdings). h.own) holds
      ∙ ap (λ (x : Option Agent). (in_option (no_holdings me) (agent_holdings p me) x).own) none in
      absurd (nothing_at i (held_view c) (sym (ap (λ (hs : List Held). slice_get hs i) nothing) ∙ map_at held_view s.own i c e))
  own_noted (Some a) some i c e =
      let cs : List Context = held_contexts [] a.contexts in
      let held : map held_view s.own ≡ map (own_context (tree_at p) a) cs =
      ap (λ (h : Holdings). h.own) holds
      ∙ ap (λ (x : Option Agent). (in_option (no_holdings me) (agent_holdings p me) x).own) some in
      let noted : map own_notes s.own ≡ map (λ (x : Context). notes_at p me (key_of x.prefix)) cs =
      ap (λ (l : Logs). l.own) logs ∙ ap (λ (x : Option Agent). (in_option no_logs (agent_logs p me) x).own) some in
      let at = of_map_at (own_context (tree_at p) a) cs i (held_view c)
      (ap (λ (hs : List Held). slice_get hs i) (sym held) ∙ map_at held_view s.own i c e) in
      let named : c.prefix ≡ at.0.prefix = ap (λ (h : Held). h.prefix) at.2 in
      some_is (sym (map_at own_notes s.own i c e) ∙ ap (λ (ns : List Notes). slice_get ns i) noted
      ∙ map_at (λ (x : Context). notes_at p me (key_of x.prefix)) cs i at.0 at.1)
      ∙ ap (λ (n : Name). notes_at p me (key_of n)) (sym named)

  -- the notes of a copy that has a stamp are its context's
  some_notes : (x : Agreement) (n : Notes) (o : Option ℕ)
      → Some n ≡ option_map (λ (stamp : ℕ). notes_at p me (key_of x.context)) o → n ≡ notes_at p me (key_of x.context)
  some_notes x n None e = absurd (never e)
    where
      never : Some n ≡ None → ⊥
      never q = cc
  some_notes x n (Some m) e = some_is e

  copies_noted : (o : Option Agent) → agent_at (knowledge_at p) me ≡ o → (i : ℕ) (d : CopyKept) (c : Kept) (m : ℕ)
      → slice_get s.copies i ≡ Some d → d.refreshed ≡ Some (c, m) → notes_view c.log ≡ notes_at p me (key_of d.prefix)
  copies_noted None none i d c m e r =
      let nothing : map copy_view s.copies ≡ [] =
      ap (λ (h : Holdings). h.copies) holds
      ∙ ap (λ (x : Option Agent). (in_option (no_holdings me) (agent_holdings p me) x).copies) none in
      absurd (nothing_at i (copy_view d) (sym (ap (λ (hs : List Copy). slice_get hs i) nothing) ∙ map_at copy_view s.copies i d e))
  copies_noted (Some a) some i d c m e r =
      let gs : List Agreement = agreements_of (knowledge_at p) me in
      let held : map copy_view s.copies ≡ map (copy_by p) gs =
      ap (λ (h : Holdings). h.copies) holds
      ∙ ap (λ (x : Option Agent). (in_option (no_holdings me) (agent_holdings p me) x).copies) some in
      let noted : map copy_notes s.copies
      ≡ map (λ (g : Agreement). option_map (λ (stamp : ℕ). notes_at p me (key_of g.context)) (as_of p g.number)) gs =
      ap (λ (l : Logs). l.copies) logs ∙ ap (λ (x : Option Agent). (in_option no_logs (agent_logs p me) x).copies) some in
      let at = of_map_at (copy_by p) gs i (copy_view d)
      (ap (λ (hs : List Copy). slice_get hs i) (sym held) ∙ map_at copy_view s.copies i d e) in
      let named : d.prefix ≡ at.0.context = ap (λ (x : Copy). x.held.prefix) at.2 ∙ copy_prefix p at.0 (as_of p at.0.number) in
      let told : Some (notes_view c.log)
      ≡ option_map (λ (stamp : ℕ). notes_at p me (key_of at.0.context)) (as_of p at.0.number) =
      ap (option_map (λ (x : Kept × ℕ). notes_view x.0.log)) (sym r)
      ∙ some_is (sym (map_at copy_notes s.copies i d e) ∙ ap (λ (ns : List (Option Notes)). slice_get ns i) noted
      ∙ map_at (λ (g : Agreement). option_map (λ (stamp : ℕ). notes_at p me (key_of g.context)) (as_of p g.number)) gs i at.0 at.1) in
      some_notes at.0 (notes_view c.log) (as_of p at.0.number) told
      ∙ ap (λ (n : Name). notes_at p me (key_of n)) (sym named)

  pub copies_noted_at : (i : ℕ) (d : CopyKept) (c : Kept) (m : ℕ) → slice_get s.copies i ≡ Some d → d.refreshed ≡ Some (c, m)
      → notes_view c.log ≡ notes_at p me (key_of d.prefix)
  copies_noted_at i d c m e r = copies_noted (agent_at (knowledge_at p) me) refl i d c m e r

  -- what it has of a context that it masters, or of a copy that was refreshed
  pub supplied_noted : (pin : Key) (c : Kept) → supplied s pin ≡ Some c → notes_view c.log ≡ notes_at p me pin
  supplied_noted pin c e = by (mastered_of s pin) refl (copy_of s pin) refl e
    where
      same : (n : Name) → same_key (key_of n) pin ≡ true → key_of n ≡ pin
      same n q = (key_decides (key_of n) pin).0 q

      from : (d : CopyKept) → copy_of s pin ≡ Some d → (o : Option (Kept × ℕ)) → d.refreshed ≡ o
          → option_map (λ (r : Kept × ℕ). r.0) o ≡ Some c → notes_view c.log ≡ notes_at p me pin
      from d f None r q = absurd (never q)
        where
          never : None ≡ Some c → ⊥
          never z = cc
      from d f (Some x) r q =
          let at = found_at (λ (y : CopyKept). same_key (key_of y.prefix) pin) s.copies d f in
          let is : x.0 ≡ c = some_is q in
          copies_noted (agent_at (knowledge_at p) me) refl at.0 d c x.1 at.1 (r ∙ ap (λ (k : Kept). Some (k, x.1)) is)
          ∙ ap (notes_at p me) (same d.prefix at.2)

      by : (o : Option Kept) → mastered_of s pin ≡ o → (d : Option CopyKept) → copy_of s pin ≡ d
          → or_else o (option_map (λ (r : Kept × ℕ). r.0) (in_option None (λ (x : CopyKept). x.refreshed) d)) ≡ Some c
          → notes_view c.log ≡ notes_at p me pin
      by (Some k) f d z q =
          let at = found_at (λ (y : Kept). same_key (key_of y.prefix) pin) s.own k f in
          let is : k ≡ c = some_is q in
          own_noted (agent_at (knowledge_at p) me) refl at.0 c (at.1 ∙ ap (λ (y : Kept). Some y) is)
          ∙ ap (notes_at p me) (same c.prefix (ap (λ (y : Kept). same_key (key_of y.prefix) pin) (sym is) ∙ at.2))
      by None f (Some d) z q = from d z d.refreshed refl q
      by None f None z q = absurd (never q)
        where
          never : None ≡ Some c → ⊥
          never y = cc

-- ---- a log of the changes that are counted

moments_fall : (ms : List ℕ) → Down ms → falls ms ≡ true
moments_fall [] d = refl
moments_fall (x ∷ []) d = refl
moments_fall (x ∷ y ∷ ys) d =
    and_true (nat_le y x) (falls (y ∷ ys)) (low (d.0 y here)) (moments_fall (y ∷ ys) d.1)
  where
    low : y ≤ x → nat_le y x ≡ true
    low l = grind arith

last_moments : (ms : List ℕ) → reverse (drop (length ms - 256) (reverse ms)) ≡ take 256 ms
last_moments ms =
    let end : List ℕ = drop 256 ms in
    let long : length ms - 256 ≡ length (reverse end) = sym (length-drop 256 ms) ∙ sym (length-reverse end) in
    ap reverse (ap (λ (k : ℕ). drop k (reverse ms)) long
    ∙ ap (λ (ns : List ℕ). drop (length (reverse end)) (reverse ns)) (sym (take-append-drop 256 ms))
    ∙ ap (drop (length (reverse end))) (reverse-append (take 256 ms) end)
    ∙ drop_joined (reverse end) (reverse (take 256 ms)))
    ∙ reverse-reverse (take 256 ms)
  where
    drop_joined : (xs ys : List ℕ) → drop (length xs) (xs ++ ys) ≡ ys
    drop_joined [] ys = refl
    drop_joined (x ∷ xs) ys = drop_joined xs ys

logged_moments : (xs : List Logged) → map (λ x. x.moment) xs ≡ moments_of (map logged_view xs)
logged_moments [] = refl
logged_moments (x ∷ xs) = ap (λ (ms : List ℕ). x.moment ∷ ms) (logged_moments xs)

pub log_so : (p : Point) (a : ℕ) (pin : Key) (l : holdings.Log) → IsLed p → notes_view l ≡ notes_at p a pin
    → IsLogOf l (changes_at p a pin)
log_so p a pin l led e = record {
  falling = moments_fall (changes_at p a pin).moments (changes_down p a pin led);
  base = ap (λ (n : Notes). n.base) e;
  kept =
      let log : Log = log_at p a pin in
      let ms : List ℕ = (changes_at p a pin).moments in
      let long : length log ≡ length ms =
      sym (length-map log (λ (x : ℕ × Step). x.0)) ∙ ap length (log_counts p a pin led) ∙ length-reverse ms in
      ap reverse (logged_moments l.changes ∙ ap (λ (n : Notes). moments_of n.changes) e
      ∙ sym (drop-map (λ (x : ℕ × Step). x.0) (length log - 256) log)
      ∙ ap (drop (length log - 256)) (log_counts p a pin led)
      ∙ ap (λ (k : ℕ). drop (k - 256) (reverse ms)) long)
      ∙ last_moments ms;
}

-- ---- what the supplier has

module _ (p : Point) (g : Agreement) (s : State) (led : IsLed p) (holds : holdings_view s ≡ holdings_at p g.supplier)
    (logs : logs_view s ≡ logs_at p g.supplier) (moment : s.moment ≡ moment_of p) where
  abbrev pin : Key
  pin = key_of g.context

  pub held_is : held_at (holdings_at p g.supplier).own pin ≡ option_map held_view (mastered_of s pin)
  held_is = ap (λ (h : Holdings). held_at h.own pin) (sym holds) ∙ found_held s.own pin

  pub copied_is : copy_at (holdings_at p g.supplier) pin ≡ option_map copy_view (copy_of s pin)
  copied_is = ap (λ (h : Holdings). copy_at h pin) (sym holds) ∙ found_copy s.copies pin

  pub stamp_is : stamp_of s pin ≡ refresh.supplied p g
  stamp_is =
      by (mastered_of s pin) (copy_of s pin)
      ∙ sym (supplied_is_held p g led ∙ (λ i. if is_some (held_is i) then Some (moment_of p) else in_option None (λ (c : Copy). c.stamp) (copied_is i)))
    where
      stamps : (o : Option (Kept × ℕ)) → option_map (λ (r : Kept × ℕ). r.1) o ≡ stamp_in o
      stamps None = refl
      stamps (Some x) = refl

      by : (o : Option Kept) (d : Option CopyKept)
          → or_else (option_map (λ (c : Kept). s.moment) o) (option_map (λ (r : Kept × ℕ). r.1) (in_option None (λ (x : CopyKept). x.refreshed) d))
          ≡ (if is_some (option_map held_view o) then Some (moment_of p)
          else in_option None (λ (c : Copy). c.stamp) (option_map copy_view d))
      by (Some c) d = ap (λ (m : ℕ). Some m) moment
      by None None = refl
      by None (Some d) = stamps d.refreshed

  entries_so : (c : Kept) (m : ℕ) → supplied s pin ≡ Some c → refresh.supplied p g ≡ Some m
      → entries_of c.nodes.nodes ≡ part (tree_of_moment p m) pin
  entries_so c m e at = by (mastered_of s pin) refl (copy_of s pin) refl e (stamp_is ∙ at)
    where
      from : (d : CopyKept) → copy_of s pin ≡ Some d → (o : Option (Kept × ℕ)) → d.refreshed ≡ o
          → option_map (λ (r : Kept × ℕ). r.0) o ≡ Some c → option_map (λ (r : Kept × ℕ). r.1) o ≡ Some m
          → entries_of c.nodes.nodes ≡ part (tree_of_moment p m) pin
      from d f None r q t = absurd (never q)
        where
          never : None ≡ Some c → ⊥
          never z = cc
      from d f (Some x) r q t =
          let is : d.refreshed ≡ Some (c, m) = r ∙ (λ i. Some (some_is q i, some_is t i)) in
          let copied = consumer_supplies p g (copy_view d) m led (copied_is ∙ ap (option_map copy_view) f) (ap stamp_in is) in
          sym (ap (λ (h : Held). h.entries) copied ∙ ap (λ (z : Option (Kept × ℕ)). brought_entries z) is) ∙ copy_entries p g m

      by : (o : Option Kept) → mastered_of s pin ≡ o → (d : Option CopyKept) → copy_of s pin ≡ d
          → or_else o (option_map (λ (r : Kept × ℕ). r.0) (in_option None (λ (x : CopyKept). x.refreshed) d)) ≡ Some c
          → or_else (option_map (λ (k : Kept). s.moment) o) (option_map (λ (r : Kept × ℕ). r.1) (in_option None (λ (x : CopyKept). x.refreshed) d)) ≡ Some m
          → entries_of c.nodes.nodes ≡ part (tree_of_moment p m) pin
      by (Some k) f d z q t =
          let is : k ≡ c = some_is q in
          let now : moment_of p ≡ m = sym moment ∙ some_is t in
          let mastered = master_supplies p g (held_view k) led (held_is ∙ ap (option_map held_view) f) in
          ap (λ (y : Kept). entries_of y.nodes.nodes) (sym is)
          ∙ sym (ap (λ (h : Held). h.entries) mastered.copy) ∙ copy_entries p g (moment_of p)
          ∙ ap (λ (n : ℕ). part (tree_of_moment p n) pin) now
      by None f (Some d) z q t = from d z d.refreshed refl q t
      by None f None z q t = absurd (never q)
        where
          never : None ≡ Some c → ⊥
          never y = cc

  pub is_supplier : IsSupplier p g s
  is_supplier = record {
    stamp = stamp_is;
    entries = entries_so;
    log = λ c e. log_so p g.supplier pin c.log led (supplied_noted p g.supplier s holds logs pin c e);
  }
