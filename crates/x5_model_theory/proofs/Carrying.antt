-- In the journal of a request each message is placed, and no trace is long.
use Rattle.std.proofs.Common.{◌≡◌, ℕ, zero, suc, ◌+◌, ◌<◌, ◌≤◌, Bool, true, false, inl, inr, List, [], ◌∷◌, length, slice_index, slice_index_or, refl, sym, ap, subst, ◌∙◌, arith, nat_lt, Option, Some, if◌then◌else◌}
use Rattle.std.specs.List.{Contains}
use Rattle.x5_model.specs.Words.{first_of}
use Rattle.x5_model.specs.Members.{In, here, there}
use Rattle.x5_model.specs.Values.{Name, key_of}
use Rattle.x5_model.specs.Requests.{Body, Read, Compare, ListBelow, Search, AddEntry, RemoveEntry, ModifyEntry, ModifyDn, Request}
use Rattle.x5_model.specs.References.{Progress, Done, Reference, TraceItem, Chained}
use Rattle.x5_model.proofs.KeyLaws.{key_decides}
use Rattle.x5_model.proofs.Lists.{both_true, and_true, in_first, in_either}
use Rattle.x5_model_run.specs.Holdings.{Holdings}
use Rattle.x5_model_run.specs.History.{Point, knowledge_at, holdings_at}
use Rattle.x5_model_run.specs.Journal.{Line, depth, item_of, is_done, is_wide, same_name, settled}
use Rattle.x5_model_run.specs.Needs.{target_of, new_name, passing_needs, due_probes, needs}
use Rattle.x5_model_run.specs.Chain.{Scene, scene_at, opening, probe_request, is_probe, part_body, part_request, asks_part, is_user, IsCarried, Caused, begins, later, AllLicensed}
use Rattle.x5_model_run.specs.Placed.{Placed}
use Rattle.x5_model_tree.proofs.Stored.{pins_short as pins_are_short}
use Rattle.x5_model_theory.specs.Leading.{IsSound, PinsWithin, item_for, level_of, Leads, IsGoing, with_own, JournalsArePlaced, OpeningIsPlaced, IsWithin, NamesStayWithin, NoJournalIsLong}
use Rattle.x5_model_run.proofs.Carrying.{as_carried}
use Rattle.x5_model_theory.proofs.Stages.{key_length, same_progress_is}
use Rattle.x5_model_theory.proofs.Following.{leads_on, followed_is_placed}
use Rattle.x5_model_theory.proofs.Probing.{probes_are_placed, probe_within}
use Rattle.x5_model_theory.proofs.Bounding.{same_level, traces_go_on, no_long_trace}

of_agents : (xs : List ℕ) (i x : ℕ) → i < length xs → slice_index xs i ≡ x → In x xs
of_agents [] i x h e = absurd (omega arith)
of_agents (y ∷ ys) zero x h e = subst (λ z. In z (y ∷ ys)) e here
of_agents (y ∷ ys) (suc i) x h e = there (of_agents ys i x (omega arith) e)

of_index : {X : Type 0} (xs : List X) (i : ℕ) (x : X) → i < length xs → slice_index_or xs i x ≡ x → In x xs
of_index [] i x h e = absurd (omega arith)
of_index (y ∷ ys) zero x h e = subst (λ z. In z (y ∷ ys)) e here
of_index (y ∷ ys) (suc i) x h e = there (of_index ys i x (omega arith) e)

of_contains : {X : Type 0} (xs : List X) (x : X) → Contains xs x → In x xs
of_contains xs x c = of_index xs c.0 x c.1 c.2

-- who opens stands in the journal
of_settled : (above : ℕ) (before : List Line) (o : Line) → first_of (settled above before) ≡ Some o → In o before
of_settled above [] o e = cc
of_settled above (l ∷ before) o e = go (nat_lt above (depth l)) e (of_settled above before o)
  where
    go : (b : Bool) → first_of (if b then settled above before else (l ∷ before)) ≡ Some o → (first_of (settled above before) ≡ Some o → In o before) → In o (l ∷ before)
    go true e f = there (f e)
    go false e f = (let same : l ≡ o = cc in subst (λ (x : Line). In x (l ∷ before)) same here)

abbrev IsRight : Point → Chained → ℕ → Type 0
IsRight p m to = Placed p m to × IsGoing (knowledge_at p) (with_own to m)

followed : (p : Point) (sender : Option ℕ) (opener : Line) (r : Reference) (m : Chained) (a : ℕ) → IsSound p → In r (needs (holdings_at p opener.receiver) opener.message) → In a r.agents → IsCarried sender opener r m
    → Placed p opener.message opener.receiver × IsGoing (knowledge_at p) (with_own opener.receiver opener.message) → Placed p m a × IsGoing (knowledge_at p) (with_own a m)
followed p sender opener r m a sound i ia carried before = (
  elim (in_either r (passing_needs (holdings_at p opener.receiver) opener.message) (due_probes (holdings_at p opener.receiver) opener.message) i) [
    | inl j ↦ followed_is_placed p sender opener r m a sound j ia carried before.0
    | inr j ↦ probes_are_placed p sender opener r m a sound j ia carried before.0
  ],
  traces_go_on p sender opener r m a sound before.0.fit i ia carried before.1,
)

-- by the causes of lines: what holds of the first message, and of what follows, holds of all
by_causes : (p : Point) (s : Scene) (P : Chained → ℕ → Type 0) → s.holdings ≡ holdings_at p → P s.message s.first
    → ((sender : Option ℕ) (opener : Line) (r : Reference) (m : Chained) (a : ℕ) → In r (needs (holdings_at p opener.receiver) opener.message) → In a r.agents → IsCarried sender opener r m → P opener.message opener.receiver → P m a)
    → (lines : List Line) (l : Line) → AllLicensed s lines → In l lines → P l.message l.receiver
by_causes p s P same first step [] l all i = elim i [ ]
by_causes p s P same first step (x ∷ before) l all i =
    elim (in_first l x before i) [
      | inl e ↦ subst (λ (y : Line). P y.message y.receiver) (sym e) (caused all.0.cause (λ o j. by_causes p s P same first step before o all.1 j))
      | inr j ↦ by_causes p s P same first step before l all.1 j
    ]
  where
    caused : {earlier : List Line} → Caused s earlier x → ((o : Line) → In o earlier → P o.message o.receiver) → P x.message x.receiver
    caused (begins f) more = subst (λ (m : Chained). P m x.receiver) (sym f.message_is) (subst (λ (n : ℕ). P s.message n) (sym f.receiver_is) first)
    caused {earlier} (later f fresh) more =
        let needed : In f.reference (needs (holdings_at p f.opener.receiver) f.opener.message) =
        subst (λ (h : ℕ → Holdings). In f.reference (needs (h f.opener.receiver) f.opener.message)) same (of_contains (needs (s.holdings f.opener.receiver) f.opener.message) f.reference f.needed) in
        let agent : In x.receiver f.reference.agents = of_agents f.reference.agents f.turn.place x.receiver f.turn.inside f.turn.here in
        step x.sender f.opener f.reference x.message x.receiver needed agent (as_carried x.sender f.opener f.reference x.message f.carries) (more f.opener (of_settled f.above earlier f.opener f.opens))

pub journals_are_placed : JournalsArePlaced
journals_are_placed p s lines l sound same first going all i =
    by_causes p s (λ m to. Placed p m to × IsGoing (knowledge_at p) (with_own to m)) same (first, going)
    (λ sender opener r m a needed agent carried before. followed p sender opener r m a sound needed agent carried before) lines l all i

pub opening_is_placed : OpeningIsPlaced
opening_is_placed p first r =
    let target : same_name (target_of r.body) (target_of r.body) ≡ true = (key_decides (key_of (target_of r.body)) (key_of (target_of r.body))).1 refl in
    (record { fit = and_true _ _ target refl; lower = refl; brought = refl }, tt)

-- ---- names

-- a part names nothing anew, and a probe reads
same_new : (by_user wide : Bool) (t : Name) (b : Body) (name : Name) → new_name (part_body wide t b) ≡ Some name → new_name b ≡ Some name
same_new by_user wide t (Read n selection) name e = cc
same_new by_user wide t (Compare n assertion) name e = cc
same_new by_user wide t (ListBelow n) name e = cc
same_new by_user wide t (Search base subset f selection) name e = cc
same_new by_user wide t (AddEntry n attributes) name e = e
same_new by_user wide t (RemoveEntry n) name e = cc
same_new by_user wide t (ModifyEntry n changes) name e = cc
same_new by_user wide t (ModifyDn n rdn drops) name e = e

carried_new : (sender : Option ℕ) (opener : Line) (r : Reference) (m : Chained) (name : Name) → IsCarried sender opener r m → new_name m.request.body ≡ Some name → new_name opener.message.request.body ≡ Some name
carried_new sender opener r m name carried e =
    go (is_probe opener.message.request.body m.target) (asks_part r) (subst (λ (x : Request). new_name x.body ≡ Some name) carried.request_is e)
  where
    go : (probe part : Bool) → new_name (if probe then probe_request m.target else (if part then part_request (is_user sender) (is_wide r.kind) m.target opener.message.request else opener.message.request)).body ≡ Some name
        → new_name opener.message.request.body ≡ Some name
    go true part e = cc
    go false true e = same_new (is_user sender) (is_wide r.kind) m.target opener.message.request.body name e
    go false false e = e

-- a reference's target is no longer than it is far, where its name is completed
done_within : (n a : ℕ) (r : Reference) → is_done r.progress ≡ true → level_of (item_for a r) ≤ n → length r.target ≤ n
done_within n a r done le =
    go (is_wide r.kind) (subst (λ (x : Progress). level_of (record { agent = a; target = r.target; progress = x; wide = is_wide r.kind }) ≤ n) (same_progress_is r.progress Done done) le)
  where
    go : (b : Bool) → (if b then length r.target + 1 else length r.target) ≤ n → length r.target ≤ n
    go true h = omega arith
    go false h = h

pub names_stay_within : NamesStayWithin
names_stay_within n p sender opener r m a sound fit pins_short i ia carried before =
    let o : ℕ = opener.receiver in
    let target : key_of r.target ≡ key_of m.target = (key_decides (key_of r.target) (key_of m.target)).0 carried.target_is in
    let long : length r.target ≡ length m.target = sym (key_length r.target) ∙ ap length target ∙ key_length m.target in
    let wide : is_wide r.kind ≡ is_wide m.kind = ap is_wide (sym carried.kind_is) in
    let both : (level_of (item_for a r) ≤ n) × (length r.target ≤ n) =
    elim (in_either r (passing_needs (holdings_at p o) opener.message) (due_probes (holdings_at p o) opener.message) i) [
      | inl j ↦
          let lead : Leads p o opener.message r a = leads_on p o opener.message r a sound j ia in
          let level : level_of (item_for a r) ≤ n = lead.bounded n before.target pins_short in (
            level,
            elim lead.keeps [
              | inl part ↦ done_within n a r (both_true (is_done r.progress) _ part).0 level
              | inr keeps ↦
                  let e : length r.target ≡ length opener.message.target = sym (key_length r.target) ∙ ap length keeps.0 ∙ key_length opener.message.target in
                  let t : length opener.message.target ≤ n = before.target in
                  omega arith
            ],
          )
      | inr j ↦ probe_within n p o opener.message r a sound before.fresh j
    ] in
    let level : level_of (item_for a r) ≡ level_of (item_of a m) =
    same_level a r.target m.target r.progress (is_wide r.kind) long
    ∙ ap (λ (x : Progress). level_of (record { agent = a; target = m.target; progress = x; wide = is_wide r.kind })) (sym carried.progress_is)
    ∙ ap (λ (b : Bool). level_of (record { agent = a; target = m.target; progress = m.progress; wide = b })) wide in
    let own : level_of (item_of a m) ≤ n = subst (λ (x : ℕ). x ≤ n) level both.0 in
    record {
      target = (let t : length r.target ≤ n = both.1 in omega arith);
      fresh = λ name e. before.fresh name (carried_new sender opener r m name carried e);
      items = λ t it. elim (in_either t m.trace (item_of a m ∷ []) it) [
        | inl j ↦ before.items t (subst (λ (xs : List TraceItem). In t xs) carried.trace_is j)
        | inr j ↦ elim (in_first t (item_of a m) [] j) [ inl e ↦ subst (λ (x : TraceItem). level_of x ≤ n) (sym e) own | inr z ↦ elim z [ ] ]
      ];
    }

pub no_journal_is_long : NoJournalIsLong
no_journal_is_long p first r lines l sound target fresh all i =
    let pins_short : PinsWithin 16 (knowledge_at p) = pins_are_short (knowledge_at p) sound.described in
    let open_is = opening_is_placed p first r in
    let begun : IsWithin 16 first (opening r) = record {
      target = target;
      fresh = fresh;
      items = λ t it. elim (in_first t (item_of first (opening r)) [] it) [ inl e ↦ subst (λ (x : TraceItem). level_of x ≤ 16) (sym e) (omega arith) | inr z ↦ elim z [ ] ];
    } in
    let whole = by_causes p (scene_at p first r) (λ m to. (Placed p m to × IsGoing (knowledge_at p) (with_own to m)) × IsWithin 16 to m) refl (open_is, begun)
    (λ sender opener q m a needed agent carried before. (
      followed p sender opener q m a sound needed agent carried before.0,
      names_stay_within 16 p sender opener q m a sound before.0.0.fit pins_short needed agent carried before.1,
    )) lines l all i in
    no_long_trace (knowledge_at p) l.receiver l.message whole.0.1 whole.1.items
