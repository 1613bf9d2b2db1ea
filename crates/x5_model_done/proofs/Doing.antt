-- Everything that is to be done can be done, by induction on the messages that are left: a message that is sent
-- leaves one less for all that is done for it, and each loop goes once over its agents or references. What an agent
-- replies can be taken up by whoever hears it: where it says that somebody is unavailable it names a reference, and
-- it leaves nothing to be followed. And while a list or search is served nothing is accepted, so its agents hold what
-- they held.
use Rattle.std.proofs.Common.{◌≡◌, ◌≤◌, ℕ, zero, suc, ◌+◌, nat_le, Bool, true, false, not, ◌&&◌, ◌⊎◌, inl, inr, List, [], ◌∷◌, ◌++◌, length, append_assoc, refl, sym, ap, subst, ◌∙◌, Option, Some, None, Ok, Err, cond, arith}
use Rattle.std.specs.Option.{is_some, is_none}
use Rattle.std.proofs.lemmas.Bool.Decides.{leb_tells}
use Rattle.std.proofs.lemmas.List.{append-nil, length-append}
use Rattle.x5_model.specs.Words.{is_empty, in_option, when}
use Rattle.x5_model.specs.Keys.{parent}
use Rattle.x5_model.specs.Values.{Name, key_of}
use Rattle.x5_model.specs.Entries.{Named}
use Rattle.x5_model.specs.Requests.{Subset, Body, Read, Compare, ListBelow, Search, AddEntry, RemoveEntry, ModifyEntry, ModifyDn, Request}
use Rattle.x5_model.specs.References.{Reference, Chained}
use Rattle.x5_model.specs.Answers.{Source, Answer, Changed, DirError, NoSuchObject, UpdateProblem, ServiceProblem, Reply, Answered, Failed, Referred}
use Rattle.x5_model.specs.Problems.{entry_already_exists, unavailable, unable_to_proceed, invalid_reference, loop_detected}
use Rattle.x5_model.specs.Statics.{fault_of}
use Rattle.x5_model_tree.specs.Tree.{tree_of, is_there, entry_at}
use Rattle.x5_model_tree.specs.Ask.{Told, Shows, Compares, Lists, Finds, Changes, Refuses, is_update, ask_marked}
use Rattle.x5_model_tree.specs.Apply.{UpdatedEntries}
use Rattle.x5_model_run.specs.Network.{Fate, Lost, NoReply, Sent}
use Rattle.x5_model_run.specs.Journal.{Line, Journal, item_of, is_wide}
use Rattle.x5_model_run.specs.Holdings.{Held, Copy, Holdings, held_at, known_pin, ground_at}
use Rattle.x5_model_run.specs.Needs.{others, nssr_at, resolves, subset_of, new_name, is_refused_here, probe_by, probe_from, probe_of, probe_at_master, probe_due, probe_needs, due_probes}
use Rattle.x5_model_run.specs.Chain.{Scene, is_probe, asks_part, part_body, request_for}
use Rattle.x5_model_run.specs.Placed.{fits, is_query_below}
use Rattle.x5_model_theory.proofs.Following.{query_of}
use Rattle.x5_model_serve.specs.Finding as finding
use Rattle.x5_model_serve.specs.Finding.{IsLooked, find}
use Rattle.x5_model_serve.specs.Answering.{reply_from, reply_in_own, reply_in_copy, own_source, copy_source, local_part, with_unexplored, merged, only_unexplored, to_follow, passed_by, is_service, in_vain, of_these, is_unavailable, above_next}
use Rattle.x5_model_serve.specs.Serving.{Hand, hand, is_looped, is_held_back, held_back, Heard, Unheard, Hears, Gathered, Whole, Broken, Act, Serves, Follows, Sends, Tries, Takes, Spreads, Casts, Gathers, Probes, Updates, Does, Arrives, carried_for, next_line, with_line, with_accepted, is_spent, is_idle, is_looped, is_too_long, holds_now, is_done_here, found_at, asked_by, begins_parts, stuck_problem, parts_refs, at_limit, gathered_reply, limit_reply, heard_or, judged, is_final, nothing_yet, user_line, user_in_vain, IsRequest, not_heard, not_told, answers, loops, is_long, done_before, refused, unfit, stuck, nowhere, refers, goes, casts, reads, reads_copy, gives_parts, asks_parts, updates, not_done, does, probes_all, misses, taken, breaks, no_probe, clear, unsure, silent, holds_back, spent, lost, dropped, sends, final, referral, wide_referral, unexplored, none_yet, in_vain_too, heard, unheard, none_asked, unable_too, silent_too, answered, nobody_has, some_silent, no_part, part_unheard, part_unavailable, part_answered, part_breaks}
use Rattle.x5_model_serve.proofs.Finals.{idle_is_followed}
use Rattle.x5_model_find.proofs.Needing.{false_true}
use Rattle.x5_model_verdicts.proofs.Lines.{grown}
use Rattle.x5_model_verdicts.proofs.At.{form}
use Rattle.x5_model_complete.proofs.Errors.{is_tree_error, fault_plain, over_plain, asked_plain, no_service}
use Rattle.x5_model_done.proofs.Local.{local_answers}
use Rattle.x5_model_done.proofs.Found.{root_lists, below_lists}

-- ---- replies that can be taken up

-- where it says that somebody is unavailable it names a reference
abbrev IsNamed : Reply → Type 0
IsNamed y = (is_service unavailable y ≡ false) ⊎ ((u : Reference) × (y ≡ is_unavailable u))

abbrev IsNamedHeard : Heard → Type 0
IsNamedHeard Unheard = Unit {0}
IsNamedHeard (Hears y) = IsNamed y

abbrev IsNamedWhole : Gathered → Type 0
IsNamedWhole (Whole a) = Unit {0}
IsNamedWhole (Broken y) = IsNamed y

-- what a user tells himself
held_named : (k : Hand) → IsNamed (held_back k)
held_named k = by (is_looped k)
  where
    by : (b : Bool) → IsNamed (cond b (Failed (ServiceProblem loop_detected None (Some (item_of k.receiver k.message)))) limit_reply)
    by true = inl refl
    by false = inl refl

named_error : (x : DirError) → is_tree_error x ≡ true → IsNamed (Failed x)
named_error x e = inl (no_service unavailable x e)

named_told : (source : Source) (t : Told) → ((x : DirError) → t ≡ Refuses x → is_tree_error x ≡ true)
    → IsNamed (reply_from (source ∷ []) t)
named_told source (Shows info) f = inl refl
named_told source (Compares equal copy) f = inl refl
named_told source (Lists subs cut) f = inl refl
named_told source (Finds infos cut) f = inl refl
named_told source Changes f = inl refl
named_told source (Refuses x) f = named_error x (f x refl)

named_stuck : (k : Hand) (u : Option Reference) → IsNamed (Failed (ServiceProblem (stuck_problem k) u None))
named_stuck k u = by (is_wide k.message.kind) refl
  where
    by : (b : Bool) → is_wide k.message.kind ≡ b → IsNamed (Failed (ServiceProblem (stuck_problem k) u None))
    by true e = inl (rw e refl)
    by false e = inl (rw e refl)

-- ---- a probe's reference is one

abbrev AtMostOne : List Reference → Type 0
AtMostOne [] = Unit {0}
AtMostOne (x ∷ []) = Unit {0}
AtMostOne (x ∷ y ∷ more) = ⊥

one_option : {A : Type 0} (f : A → List Reference) (o : Option A) → ((x : A) → AtMostOne (f x))
    → AtMostOne (in_option [] f o)
one_option f None g = tt
one_option f (Some x) g = g x

one_if : (b : Bool) (rs : List Reference) → AtMostOne rs → AtMostOne (cond b rs [])
one_if true rs f = f
one_if false rs f = tt

one_when : (b : Bool) (r : Reference) → AtMostOne (when b r)
one_when true r = tt
one_when false r = tt

unless_one : (b : Bool) (rs : List Reference) → AtMostOne rs → AtMostOne (cond b [] rs)
unless_one true rs f = tt
unless_one false rs f = f

one_probe : (h : Holdings) (m : Chained) → AtMostOne (due_probes h m)
one_probe h m =
    unless_one (is_some (fault_of m.request.body)) (probe_needs h m)
    (one_option (probe_due h m) (new_name m.request.body)
    (λ name. one_if (resolves h m) _ (one_option _ (known_pin m.request h (key_of m.target))
    (λ p. one_option (probe_at_master h m name) (held_at h.own p)
    (λ c. one_if (is_there c.entries (key_of m.target) && not (is_refused_here h m.request)) (probe_of h name c)
    (one_option (probe_from h name c) (entry_at c.entries (parent (key_of name)))
    (λ e. one_option (probe_by h name e) (nssr_at c.nssrs (key_of e.name))
    (λ n. one_when (not (is_empty (others h.me n.agents))) _))))))))

-- ---- what is carried for a read or an update is no list or search

part_query : (wide : Bool) (t : Name) (b : Body) → is_query_below (part_body wide t b) ≡ true → is_query_below b ≡ true
part_query wide t (Read name selection) e = e
part_query wide t (Compare name a) e = e
part_query wide t (ListBelow name) e = refl
part_query wide t (Search base subset f selection) e = refl
part_query wide t (AddEntry name attributes) e = e
part_query wide t (RemoveEntry name) e = e
part_query wide t (ModifyEntry name changes) e = e
part_query wide t (ModifyDn name rdn drops) e = e

carried_query : (user : Bool) (r : Request) (t : Name) (x : Reference)
    → is_query_below (request_for user r t x).body ≡ true
    → is_query_below r.body ≡ true
carried_query user r t x e = by (is_probe r.body t) (asks_part x) e
  where
    by : (b c : Bool) → is_query_below (form r user t x b c).body ≡ true → is_query_below r.body ≡ true
    by true c f = absurd (false_true f)
    by false true f = part_query (is_wide x.kind) t r.body f
    by false false f = f

at_most : (a b : ℕ) → a ≤ 0 + b → nat_le a b ≡ true
at_most a b h = elim (leb_tells a b) [ inl x ↦ x.0 | inr y ↦ absurd (omega (arith, y.1)) ]

some_not_none : {A : Type 0} (o : Option A) → is_some o ≡ true → not (is_none o) ≡ true
some_not_none None e = absurd (false_true e)
some_not_none (Some x) e = refl

last_view : {A : Type 0} (x : A) (xs : List A) → (ys : List A) × (y : A) × (x ∷ xs ≡ ys ++ y ∷ [])
last_view x [] = ([], x, refl)
last_view x (y ∷ more) = (let w = last_view y more in (x ∷ w.0, w.1, ap (λ zs. x ∷ zs) w.2))

module _ (s : Scene) (most : ℕ) where
  -- messages left
  abbrev Room : ℕ → Journal → Type 0
  Room n j = most ≤ n + length j.lines

  room_after : (n : ℕ) (x : Act) (i j : Journal) → Does s most x i j → Room n i → Room n j
  room_after n x i j d room =
      let g = grown s most x i j d in
      let e : length j.lines ≡ length (g.0 ++ i.lines) = ap (λ (ls : List Line). length ls) g.1 in
      let f : length (g.0 ++ i.lines) ≡ length g.0 + length i.lines = length-append g.0 i.lines in
      omega arith

  -- what is to be shown of each thing that is to be done
  abbrev ServesSome : Hand → Journal → Type 0
  ServesSome k i = (y : Reply) × (j : Journal) × Does s most (Serves k y) i j × IsNamed y

  abbrev FollowsSome : Option ℕ → Hand → Reply → Journal → Type 0
  FollowsSome from k y i = (z : Reply) × (j : Journal) × Does s most (Follows from k y z) i j × IsNamed z

  abbrev SendsSome : Option ℕ → Hand → Reference → ℕ → Journal → Type 0
  SendsSome from o r a i = (h : Heard) × (j : Journal) × Does s most (Sends from o r a h) i j × IsNamedHeard h

  abbrev TakesSome : Option ℕ → Hand → Reference → Journal → Type 0
  TakesSome from o r i = (h : Heard) × (j : Journal) × Does s most (Takes from o r h) i j × IsNamedHeard h

  abbrev CastsSome : Option ℕ → Hand → Reference → Journal → Type 0
  CastsSome from o r i = (y : Reply) × (j : Journal) × Does s most (Casts from o r y) i j × IsNamed y

  abbrev GathersSome : Option ℕ → Hand → List Reference → Answer → Journal → Type 0
  GathersSome from o rs a i = (w : Gathered) × (j : Journal) × Does s most (Gathers from o rs a w) i j × IsNamedWhole w

  abbrev UpdatesSome : Hand → Journal → Type 0
  UpdatesSome k i = (y : Reply) × (j : Journal) × Does s most (Updates k y) i j × IsNamed y

  module _ (n : ℕ) (send : (from : Option ℕ) (o : Hand) (r : Reference) (a : ℕ)
      (i : Journal) → Room n i → SendsSome from o r a i) where
    -- ---- the agents of a reference
    tried : (from : Option ℕ) (o : Hand) (r : Reference) (before rest : List ℕ) (a : ℕ) (i j : Journal)
        → r.agents ≡ before ++ a ∷ rest → Does s most (Tries from o r before) i j
        → ((l : Journal) → Does s most (Sends from o r a Unheard) j l → TakesSome from o r i)
        → (h : Heard) (l : Journal) → Does s most (Sends from o r a h) j l → IsNamedHeard h → TakesSome from o r i
    tried from o r before rest a i j e d more Unheard l u named = more l u
    tried from o r before rest a i j e d more (Hears y) l u named = (Hears y, l, heard before rest a y e d u, named)

    tries : (from : Option ℕ) (o : Hand) (r : Reference) (before rest : List ℕ) (i j : Journal)
        → r.agents ≡ before ++ rest → Does s most (Tries from o r before) i j → Room n j
        → TakesSome from o r i
    tries from o r before [] i j e d room = (
      Unheard,
      j,
      unheard (subst (λ (xs : List ℕ). Does s most (Tries from o r xs) i j) (sym (e
          ∙ append-nil before)) d),
      tt,
    )
    tries from o r before (a ∷ rest) i j e d room =
        let w = send from o r a j room in
        tried from o r before rest a i j e d
        (λ l u. tries from o r (before ++ a ∷ []) rest i l (e
        ∙ sym (append_assoc before (a ∷ []) rest)) (in_vain_too a d u)
        (room_after n (Sends from o r a Unheard) j l u room))
        w.0 w.1 w.2 w.3

    takes : (from : Option ℕ) (o : Hand) (r : Reference) (i : Journal) → Room n i → TakesSome from o r i
    takes from o r i room = tries from o r [] r.agents i i refl none_yet room

    -- ---- the agents of an NSSR
    spread_end : (from : Option ℕ) (o : Hand) (r : Reference) (noted : List ℕ) (i j : Journal)
        → Does s most (Spreads from o r r.agents noted) i j → CastsSome from o r i
    spread_end from o r [] i j d = (Failed (NoSuchObject (above_next r)), j, nobody_has d, inl refl)
    spread_end from o r (x ∷ xs) i j d = (
      is_unavailable (of_these (x ∷ xs) r),
      j,
      some_silent (x ∷ xs) refl d,
      inr
          (of_these (x ∷ xs) r, refl),
    )

    replied : (from : Option ℕ) (o : Hand) (r : Reference) (before rest noted : List ℕ) (a : ℕ) (y : Reply)
        (i j l : Journal)
        → r.agents ≡ before ++ a ∷ rest → Does s most (Spreads from o r before noted) i j
        → Does s most (Sends from o r a (Hears y)) j l → IsNamed y
        → (is_service unable_to_proceed y ≡ true → CastsSome from o r i)
        → (b : Bool) → is_service unable_to_proceed y ≡ b → CastsSome from o r i
    replied from o r before rest noted a y i j l e d u named more true f = more f
    replied from o r before rest noted a y i j l e d u named more false f =
        (y, l, answered before rest noted a y e f d u, named)

    spread_one : (from : Option ℕ) (o : Hand) (r : Reference) (before rest noted : List ℕ) (a : ℕ) (i j : Journal)
        → r.agents ≡ before ++ a ∷ rest → Does s most (Spreads from o r before noted) i j
        → ((more : List ℕ) (h : Heard) (l : Journal) → Does s most (Sends from o r a h) j l
        → Does s most (Spreads from o r (before ++ a ∷ []) more) i l → CastsSome from o r i)
        → (h : Heard) (l : Journal) → Does s most (Sends from o r a h) j l → IsNamedHeard h → CastsSome from o r i
    spread_one from o r before rest noted a i j e d more Unheard l u named = more (noted ++ a ∷ []) Unheard l u
        (silent_too a d u)
    spread_one from o r before rest noted a i j e d more (Hears y) l u named =
        replied from o r before rest noted a y i j l e d u named (λ f. more noted (Hears y) l u (unable_too a y f d u))
        (is_service unable_to_proceed y) refl

    spreads : (from : Option ℕ) (o : Hand) (r : Reference) (before rest noted : List ℕ) (i j : Journal)
        → r.agents ≡ before ++ rest → Does s most (Spreads from o r before noted) i j → Room n j
        → CastsSome from o r i
    spreads from o r before [] noted i j e d room =
        spread_end from o r noted i j (subst (λ (xs : List ℕ). Does s most (Spreads from o r xs noted) i j) (sym (e
        ∙ append-nil before)) d)
    spreads from o r before (a ∷ rest) noted i j e d room =
        let w = send from o r a j room in
        spread_one from o r before rest noted a i j e d
        (λ more h l u v. spreads from o r (before ++ a ∷ []) rest more i l (e
        ∙ sym (append_assoc before (a ∷ []) rest)) v
        (room_after n (Sends from o r a h) j l u room))
        w.0 w.1 w.2 w.3

    casts_some : (from : Option ℕ) (o : Hand) (r : Reference) (i : Journal) → Room n i → CastsSome from o r i
    casts_some from o r i room = spreads from o r [] r.agents [] i i refl none_asked room

    -- ---- an update and its probes
    module _ (k : Hand) (i : Journal) (mine : List Named) (r : Reference) (ok : judged s i k ≡ Ok mine)
        (due : due_probes (holds_now s i k) k.message ≡ r ∷ []) where
      probed_end : (noted : List ℕ) (j : Journal) → Does s most (Probes k r r.agents noted) i j → UpdatesSome k i
      probed_end [] j d = (Answered Changed, with_accepted k.receiver j, probes_all mine r ok due d, inl refl)
      probed_end (x ∷ xs) j d =
          let w = last_view x xs in (
            is_unavailable (of_these (w.0 ++ w.1 ∷ []) r),
            j,
            misses mine r w.1 w.0 ok due (subst (λ (zs : List ℕ). Does s most (Probes k r r.agents zs) i j) w.2 d),
            inr (of_these (w.0 ++ w.1 ∷ []) r, refl),
          )

      probe_error : (before rest noted : List ℕ) (a : ℕ) (x : DirError) (j l : Journal)
          → r.agents ≡ before ++ a ∷ rest → Does s most (Probes k r before noted) i j
          → Does s most (Sends (Some k.receiver) k r a (Hears (Failed x))) j l
          → ((more : List ℕ) → Does s most (Probes k r (before ++ a ∷ []) more) i l → UpdatesSome k i)
          → (b c : Bool) → is_service unable_to_proceed (Failed x) ≡ b → is_service unavailable (Failed x) ≡ c
          → UpdatesSome k i
      probe_error before rest noted a x j l e d u more true c f g = more noted (clear a (Failed x) f d u)
      probe_error before rest noted a x j l e d u more false true f g = more (noted ++ a ∷ []) (unsure a
          (Failed x) g d u)
      probe_error before rest noted a x j l e d u more false false f g =
          (Failed x, l, breaks mine r a before rest noted x ok due e f g d u, inl g)

      probe_reply : (before rest noted : List ℕ) (a : ℕ) (y : Reply) (j l : Journal)
          → r.agents ≡ before ++ a ∷ rest → Does s most (Probes k r before noted) i j
          → Does s most (Sends (Some k.receiver) k r a (Hears y)) j l
          → ((more : List ℕ) → Does s most (Probes k r (before ++ a ∷ []) more) i l → UpdatesSome k i)
          → UpdatesSome k i
      probe_reply before rest noted a (Answered found) j l e d u more = (
        Failed (UpdateProblem entry_already_exists),
        l,
        taken mine r a before rest noted found ok due e d u,
        inl
            refl,
      )
      probe_reply before rest noted a (Failed x) j l e d u more =
          probe_error before rest noted a x j l e d u more (is_service unable_to_proceed (Failed x))
          (is_service unavailable (Failed x)) refl refl
      probe_reply before rest noted a (Referred q) j l e d u more =
          absurd (false_true (idle_is_followed s most (Sends (Some k.receiver) k r a (Hears (Referred q))) j l u))

      probe_one : (before rest noted : List ℕ) (a : ℕ) (j : Journal)
          → r.agents ≡ before ++ a ∷ rest → Does s most (Probes k r before noted) i j
          → ((more : List ℕ) (h : Heard) (l : Journal) → Does s most (Sends (Some k.receiver) k r a h) j l
          → Does s most (Probes k r (before ++ a ∷ []) more) i l → UpdatesSome k i)
          → (h : Heard) (l : Journal) → Does s most (Sends (Some k.receiver) k r a h) j l → UpdatesSome k i
      probe_one before rest noted a j e d more Unheard l u = more (noted ++ a ∷ []) Unheard l u (silent a d u)
      probe_one before rest noted a j e d more (Hears y) l u =
          probe_reply before rest noted a y j l e d u (λ others v. more others (Hears y) l u v)

      probes : (before rest noted : List ℕ) (j : Journal)
          → r.agents ≡ before ++ rest → Does s most (Probes k r before noted) i j → Room n j
          → UpdatesSome k i
      probes before [] noted j e d room =
          probed_end noted j (subst (λ (xs : List ℕ). Does s most (Probes k r xs noted) i j) (sym (e
          ∙ append-nil before)) d)
      probes before (a ∷ rest) noted j e d room =
          let w = send (Some k.receiver) k r a j room in
          probe_one before rest noted a j e d
          (λ more h l u v. probes (before ++ a ∷ []) rest more l (e ∙ sym (append_assoc before (a ∷ []) rest)) v
          (room_after n (Sends (Some k.receiver) k r a h) j l u room))
          w.0 w.1 w.2

    updates_some : (k : Hand) (i : Journal) → Room n i → UpdatesSome k i
    updates_some k i room = by (judged s i k) refl
      where
        with_probes : (mine : List Named) → judged s i k ≡ Ok mine → (rs : List Reference) → AtMostOne rs
            → due_probes (holds_now s i k) k.message ≡ rs → UpdatesSome k i
        with_probes mine ok [] one due = (Answered Changed, with_accepted k.receiver i, does mine ok due, inl refl)
        with_probes mine ok (r ∷ []) one due = probes k i mine r ok due [] r.agents [] i refl no_probe room
        with_probes mine ok (r ∷ q ∷ more) one due = absurd one

        by : (o : UpdatedEntries) → judged s i k ≡ o → UpdatesSome k i
        by (Err x) e = (
          Failed x,
          i,
          not_done x e,
          named_error x (over_plain (ground_at k.message.request
              (holds_now s i k)) k.message.request.body x e),
        )
        by (Ok mine) e = with_probes mine e (due_probes (holds_now s i k) k.message) (one_probe
            (holds_now s i k) k.message) refl

    -- ---- the references of parts
    module _ (from : Option ℕ) (o : Hand) (rs : List Reference) (a : Answer) (i : Journal) where
      gather_error : (before rest : List Reference) (r : Reference) (x : DirError) (b : Answer) (j l : Journal)
          → rs ≡ before ++ r ∷ rest → Does s most (Gathers from o before a (Whole b)) i j
          → Does s most (Takes from o r (Hears (Failed x))) j l
          → ((c : Answer) → Does s most (Gathers from o (before ++ r ∷ []) a (Whole c)) i l → GathersSome from o rs a i)
          → IsNamed (Failed x) → GathersSome from o rs a i
      gather_error before rest r x b j l e d u more (inl f) = (
        Broken (Failed x),
        l,
        subst (λ (ks : List Reference). Does s most (Gathers from o ks a (Broken
            (Failed x))) i l) (sym e)
            (part_breaks before rest r x f d u),
        inl f,
      )
      gather_error before rest r x b j l e d u more (inr w) =
          more (with_unexplored (in_vain w.0 ∷ []) b)
          (part_unavailable r w.0 d (subst (λ (y : Reply). Does s most (Takes from o r (Hears y)) j l) w.1 u))

      gather_one : (before rest : List Reference) (r : Reference) (b : Answer) (j : Journal)
          → rs ≡ before ++ r ∷ rest → Does s most (Gathers from o before a (Whole b)) i j
          → ((c : Answer) (h : Heard) (l : Journal) → Does s most (Takes from o r h) j l
          → Does s most (Gathers from o (before ++ r ∷ []) a (Whole c)) i l → GathersSome from o rs a i)
          → (h : Heard) (l : Journal) → Does s most (Takes from o r h) j l → IsNamedHeard h → GathersSome from o rs a i
      gather_one before rest r b j e d more Unheard l u named = more (with_unexplored (in_vain r ∷ []) b) Unheard l u
          (part_unheard r d u)
      gather_one before rest r b j e d more (Hears (Answered c)) l u named = more (merged b c) (Hears
          (Answered c)) l u (part_answered r c d u)
      gather_one before rest r b j e d more (Hears (Failed x)) l u named =
          gather_error before rest r x b j l e d u (λ c v. more c (Hears (Failed x)) l u v) named
      gather_one before rest r b j e d more (Hears (Referred q)) l u named =
          absurd (false_true (idle_is_followed s most (Takes from o r (Hears (Referred q))) j l u))

      gathers : (before rest : List Reference) (b : Answer) (j : Journal)
          → rs ≡ before ++ rest → Does s most (Gathers from o before a (Whole b)) i j → Room n j
          → GathersSome from o rs a i
      gathers before [] b j e d room = (
        Whole b,
        j,
        subst (λ (ks : List Reference). Does s most (Gathers from o ks a (Whole b)) i j) (sym (e
            ∙ append-nil before)) d,
        tt,
      )
      gathers before (r ∷ rest) b j e d room =
          let w = takes from o r j room in
          gather_one before rest r b j e d
          (λ c h l u v. gathers (before ++ r ∷ []) rest c l (e ∙ sym (append_assoc before (r ∷ []) rest)) v
          (room_after n (Takes from o r h) j l u room))
          w.0 w.1 w.2 w.3

    gathers_some : (from : Option ℕ) (o : Hand) (rs : List Reference) (a : Answer) (i : Journal) → Room n i
        → GathersSome from o rs a i
    gathers_some from o rs a i room = gathers from o rs a i [] rs a i refl no_part room

    -- ---- a reply followed
    named_whole : (k : Hand) (w : Gathered) → IsNamedWhole w → IsNamed (gathered_reply k w)
    named_whole k (Whole a) f = inl refl
    named_whole k (Broken y) f = f

    named_heard : (r : Reference) (h : Heard) → IsNamedHeard h → IsNamed (heard_or (is_unavailable (in_vain r)) h)
    named_heard r Unheard f = inr (in_vain r, refl)
    named_heard r (Hears y) f = f

    follows_some : (from : Option ℕ) (k : Hand) (y : Reply) (i : Journal) → Room n i → IsNamed y
        → FollowsSome from k y i
    follows_some from k (Failed x) i room named = (Failed x, i, final (Failed x) refl, named)
    follows_some from k (Answered a) i room named = by (is_final (Answered a)) refl
      where
        by : (b : Bool) → is_final (Answered a) ≡ b → FollowsSome from k (Answered a) i
        by true e = (Answered a, i, final (Answered a) e, inl refl)
        by false e =
            let w = gathers_some from k (to_follow a) (only_unexplored (passed_by a) a) i room in
            (gathered_reply k w.0, w.1, unexplored a w.0 e w.2, named_whole k w.0 w.3)
    follows_some from k (Referred r) i room named = by (is_wide r.kind) refl
      where
        by : (b : Bool) → is_wide r.kind ≡ b → FollowsSome from k (Referred r) i
        by true e = (let w = casts_some from k r i room in (w.0, w.1, wide_referral r w.0 e w.2, w.3))
        by false e =
            let w = takes from k r i room in
            (heard_or (is_unavailable (in_vain r)) w.0, w.1, referral r w.0 e w.2, named_heard r w.0 w.3)

    -- ---- a message served
    module _ (k : Hand) (i : Journal) (room : Room n i) where
      parts_by : (x : Answer) → Arrives s k i → begins_parts k (found_at s i k) ≡ true
          → local_part (holds_now s i k) k.message ≡ Answered x
          → (b : Bool) → is_idle s k ≡ b → ServesSome k i
      parts_by x a begins own true e =
          (Answered (at_limit k (with_unexplored (parts_refs s i k) x)), i, gives_parts x a begins e own, inl refl)
      parts_by x a begins own false e =
          let w = gathers_some (Some k.receiver) k (parts_refs s i k) x i room in
          (gathered_reply k w.0, w.1, asks_parts x w.0 a begins e own w.2, named_whole k w.0 w.3)

      parts_some : Arrives s k i → begins_parts k (found_at s i k) ≡ true → is_some (subset_of k.message) ≡ true
          → ServesSome k i
      parts_some a begins some =
          let part = local_answers (holds_now s i k) k.message (query_of k.message some) in
          parts_by part.0 a begins part.1 (is_idle s k) refl

      onward_some : (r : Reference) → Arrives s k i → found_at s i k ≡ finding.Onward r → (b c : Bool)
          → is_idle s k ≡ b → is_wide r.kind ≡ c
          → ServesSome k i
      onward_some r a e true c f g = (Referred r, i, refers r a e f, inl refl)
      onward_some r a e false true f g =
          let w = casts_some (Some k.receiver) k r i room in
          (w.0, w.1, casts r w.0 a e f g w.2, w.3)
      onward_some r a e false false f g =
          let w = takes (Some k.receiver) k r i room in
          (heard_or (is_unavailable (in_vain r)) w.0, w.1, goes r w.0 a e f g w.2, named_heard r w.0 w.3)

      own_some : (c : Held) → Arrives s k i → found_at s i k ≡ finding.Here c → (b : Bool)
          → is_update k.message.request.body ≡ b
          → (o : Option Subset) → subset_of k.message ≡ o → ServesSome k i
      own_some c a e true u o q = (let w = updates_some k i room in (w.0, w.1, updates c w.0 a e u w.2, w.3))
      own_some c a e false u None q = (
        reply_in_own k.receiver k.message c,
        i,
        reads c a e u q,
        named_told (own_source k.receiver c) (ask_marked (λ key. false) (tree_of c.entries []) k.message.request)
            (λ x z. asked_plain (λ key. false) (tree_of c.entries []) k.message.request x z),
      )
      own_some c a e false u (Some subset) q =
          parts_some a (ap (begins_parts k) e
          ∙ ap (λ (o : Option Subset). not (is_none o)) q) (ap (λ (o : Option Subset). is_some o) q)

      copy_some : (c : Copy) → Arrives s k i → found_at s i k ≡ finding.CopyHere c → (o : Option Subset)
          → subset_of k.message ≡ o → ServesSome k i
      copy_some c a e None q = (
        reply_in_copy k.receiver k.message c,
        i,
        reads_copy c a e q,
        named_told (copy_source k.receiver c) (ask_marked (λ key. true) (tree_of c.held.entries []) k.message.request)
            (λ x z. asked_plain (λ key. true) (tree_of c.held.entries []) k.message.request x z),
      )
      copy_some c a e (Some subset) q =
          parts_some a (ap (begins_parts k) e
          ∙ ap (λ (o : Option Subset). not (is_none o)) q) (ap (λ (o : Option Subset). is_some o) q)

      found_some : Arrives s k i → (f : finding.Found) → found_at s i k ≡ f → ServesSome k i
      found_some a (finding.Here c) e = own_some c a e (is_update k.message.request.body) refl
          (subset_of k.message) refl
      found_some a (finding.CopyHere c) e = copy_some c a e (subset_of k.message) refl
      found_some a finding.Root e =
          let some = root_lists (holds_now s i k) k.message (a.unrefused, a.fit) e in
          parts_some a (ap (begins_parts k) e ∙ some_not_none (subset_of k.message) some) some
      found_some a finding.Below e = parts_some a (ap (begins_parts k) e) (below_lists (holds_now s i k) k.message
          (a.unrefused, a.fit) e)
      found_some a (finding.Onward r) e = onward_some r a e (is_idle s k) (is_wide r.kind) refl refl
      found_some a (finding.Nowhere name) e = (Failed (NoSuchObject name), i, nowhere name a e, inl refl)
      found_some a finding.Stuck e = (
        Failed (ServiceProblem (stuck_problem k) (Some (asked_by k)) None),
        i,
        stuck a e,
        named_stuck k (Some
            (asked_by k)),
      )

      fitting : is_looped k ≡ false → is_too_long k ≡ false → is_done_here s k i ≡ false
          → fault_of k.message.request.body ≡ None
          → (b : Bool) → fits k.message ≡ b → ServesSome k i
      fitting l t d x true f =
          found_some (record { unlooped = l; short = t; fresh = d; unrefused = x; fit = f }) (found_at s i k) refl
      fitting l t d x false f = (
        Failed (ServiceProblem invalid_reference (Some
            (asked_by k)) None),
        i,
        unfit l t d x f,
        inl refl,
      )

      unrefused_some : is_looped k ≡ false → is_too_long k ≡ false → is_done_here s k i ≡ false
          → (o : Option DirError) → fault_of k.message.request.body ≡ o → ServesSome k i
      unrefused_some l t d (Some x) e = (
        Failed x,
        i,
        refused x l t d e,
        named_error x
            (fault_plain k.message.request.body x e),
      )
      unrefused_some l t d None e = fitting l t d e (fits k.message) refl

      arriving : (a b c : Bool) → is_looped k ≡ a → is_too_long k ≡ b → is_done_here s k i ≡ c → ServesSome k i
      arriving true b c l t d =
          (Failed (ServiceProblem loop_detected None (Some (item_of k.receiver k.message))), i, loops l, inl refl)
      arriving false true c l t d = (limit_reply, i, is_long l t, inl refl)
      arriving false false true l t d = (Answered Changed, i, done_before l t d, inl refl)
      arriving false false false l t d = unrefused_some l t d (fault_of k.message.request.body) refl

      serves_some : ServesSome k i
      serves_some = arriving (is_looped k) (is_too_long k) (is_done_here s k i) refl refl refl

  -- ---- a message sent, by how many are left
  record Able (n : ℕ) : Type 0 where
    serves_one : (k : Hand) (i : Journal) → Room n i → ServesSome k i
    follows_one : (from : Option ℕ) (k : Hand) (y : Reply) (i : Journal) → Room n i → IsNamed y
        → FollowsSome from k y i

  able_by : (n : ℕ)
      → ((from : Option ℕ) (o : Hand) (r : Reference) (a : ℕ)
      (i : Journal) → Room n i → SendsSome from o r a i) → Able n
  able_by n send = record { serves_one = serves_some n send; follows_one = follows_some n send }

  send_none : (from : Option ℕ) (o : Hand) (r : Reference) (a : ℕ) (i : Journal) → Room 0 i
      → SendsSome from o r a i
  send_none from o r a i room = by (is_held_back from (hand a (carried_for from o r))) refl
    where
      by : (b : Bool) → is_held_back from (hand a (carried_for from o r)) ≡ b → SendsSome from o r a i
      by true h = (Hears (held_back (hand a (carried_for from o r))), i, holds_back a h, held_named (hand a (carried_for from o r)))
      by false h = (Hears limit_reply, i, spent a h (at_most most (length i.lines) room), inl refl)

  module _ (n : ℕ) (able : Able n) (from : Option ℕ) (o : Hand) (r : Reference) (a : ℕ) (i : Journal) (room : Room
      (suc n) i) where
    abbrev after : Journal
    after = with_line (next_line s i from o r a) i

    abbrev to : Hand
    to = hand a (carried_for from o r)

    served_one : ServesSome to after
    served_one = able.serves_one to after (omega arith)

    fated : is_held_back from (hand a (carried_for from o r)) ≡ false → is_spent most i ≡ false → (f : Fate) → (next_line s i from o r a).fate ≡ f → SendsSome from o r a i
    fated hb e Lost f = (Unheard, after, lost a hb e f, tt)
    fated hb e NoReply f = (let w = served_one in (Unheard, w.1, dropped a w.0 hb e f w.2, tt))
    fated hb e Sent f =
        let w = served_one in
        let v = able.follows_one from to w.0 w.1
        (room_after n (Serves to w.0) after w.1 w.2 (omega arith)) w.3 in
        (Hears v.0, v.1, sends a w.0 v.0 hb e f w.2 v.2, v.3)

    send_one : SendsSome from o r a i
    send_one = look (is_held_back from (hand a (carried_for from o r))) refl
      where
        by : is_held_back from (hand a (carried_for from o r)) ≡ false → (b : Bool) → is_spent most i ≡ b → SendsSome from o r a i
        by hb true e = (Hears limit_reply, i, spent a hb e, inl refl)
        by hb false e = fated hb e (next_line s i from o r a).fate refl

        look : (b : Bool) → is_held_back from (hand a (carried_for from o r)) ≡ b → SendsSome from o r a i
        look true h = (Hears (held_back (hand a (carried_for from o r))), i, holds_back a h, held_named (hand a (carried_for from o r)))
        look false h = by h (is_spent most i) refl

  able_at : (n : ℕ) → Able n
  able_at zero = able_by zero send_none
  able_at (suc n) = able_by (suc n) (send_one n (able_at n))

  -- ---- so each message is served, and each request carried through
  pub message_served : (k : Hand) (i : Journal) → (reply : Reply) × (j : Journal) × Does s most (Serves k reply) i j
  message_served k i = (let w = (able_at most).serves_one k i (omega arith) in (w.0, w.1, w.2))

  pub request_done : (j : Journal) × (reply : Reply) × IsRequest s most j reply
  request_done = by (user_line s).fate refl
    where
      first_served : (reply : Reply) × (j : Journal) × Does s most (Serves (hand s.first s.message) reply) (with_line
          (user_line s) nothing_yet) j
      first_served = message_served (hand s.first s.message) (with_line (user_line s) nothing_yet)

      by : (f : Fate) → (user_line s).fate ≡ f → (j : Journal) × (reply : Reply) × IsRequest s most j reply
      by Lost e = (with_line (user_line s) nothing_yet, user_in_vain s, not_heard e)
      by NoReply e = (let w = first_served in (w.1, user_in_vain s, not_told w.0 e w.2))
      by Sent e = (let w = first_served in (w.1, w.0, answers w.0 e w.2))
