-- Where a probe's answer has the new name of an update, it is an entry already: the answer is what the tree tells of a
-- read, and a read is answered by an entry alone.
use Rattle.std.proofs.Common.{nat_le, ◌≡◌, ℕ, ◌==◌, Bool, true, false, not, ◌&&◌, ◌||◌, inl, inr, List, [], ◌∷◌, length, refl, sym, ap, subst, ◌∙◌, Option, Some, None, Ok, Err}
use Rattle.std.specs.List.{flat_map}
use Rattle.x5_model.specs.Words.{first_of, in_option, some_and}
use Rattle.x5_model.specs.Members.{In, there}
use Rattle.x5_model.specs.Keys.{Key, same_key}
use Rattle.x5_model.specs.Values.{Name, key_of}
use Rattle.x5_model.specs.Entries.{Named}
use Rattle.x5_model.specs.Requests.{Only, Read, Request}
use Rattle.x5_model.specs.References.{Reference, Chained}
use Rattle.x5_model.specs.Answers.{Source, Answer, EntryFound, Matched, Listed, Found, Changed, DirError, UpdateProblem, Reply, Answered, Failed}
use Rattle.x5_model.specs.Problems.{entry_already_exists}
use Rattle.x5_model.specs.Statics.{fault_of}
use Rattle.x5_model.proofs.KeyLaws.{key_decides}
use Rattle.x5_model.proofs.Lists.{both_true, either_true, and_true, or_left, or_right, true_or_false, in_right, any_in, of_all, of_flat, of_has}
use Rattle.x5_model.proofs.Prefixes.{prefix_itself, prefix_length}
use Rattle.x5_model.proofs.Decide.{nat_same_decides}
use Rattle.x5_model.proofs.Ascending.{of_sorted}
use Rattle.x5_model_tree.specs.Tree.{Tree, key_at, named_below, entry_at, part}
use Rattle.x5_model_tree.specs.Masters.{master_of}
use Rattle.x5_model_tree.specs.Ask.{Told, Refuses, rest_of, sources_of, is_update, updated, absent, read, ask_body, ask_marked}
use Rattle.x5_model_tree.specs.Apply.{apply, apply_over}
use Rattle.x5_model_tree.proofs.Longest.{IsLongest}
use Rattle.x5_model_run.specs.Network.{is_sent}
use Rattle.x5_model_run.specs.Journal.{Line, Journal, depth, same_kind, is_done, is_wide}
use Rattle.x5_model_run.specs.Holdings.{Holdings, may_copy, ground_at}
use Rattle.x5_model_run.specs.Needs.{subset_of, subset_in, by_pin, resolution_needs, needs, new_name, due_probes}
use Rattle.x5_model_run.specs.History.{Point, knowledge_at, tree_at, world_at, holdings_at}
use Rattle.x5_model_run.specs.Chain.{Scene, Follows, AllLicensed, IsCarried, is_user, probe_request, is_probe, asks_part}
use Rattle.x5_model_run.specs.Covers.{told, mixed, is_copied, source_tree}
use Rattle.x5_model_run.specs.Blocked.{Asked, is_answered_line, came_back, hears_by, hears}
use Rattle.x5_model_run.specs.Right as right
use Rattle.x5_model_run.specs.Right.{Right, IsResult, result, changed, is_copy_source, is_holder, is_source, is_for, hears_of, hears_pin, is_pin, knows, hears_taken, master_at}
use Rattle.x5_model_replies.specs.Replies.{RightReply, usual}
use Rattle.x5_model_theory.specs.Described.{knowledge_of}
use Rattle.x5_model_updates.proofs.Lookups.{entry_found}
use Rattle.x5_model_updates.proofs.Outcomes.{none_or_some}
use Rattle.x5_model_updates.proofs.Trees.{of_part}
use Rattle.x5_model_updates.proofs.Divided.{one_pin}
use Rattle.x5_model_updates.proofs.Judges.{refuses_present}
use Rattle.x5_model_serve.specs.Serving.{Hand, line_for, holds_now, judged}
use Rattle.x5_model_serve.specs.Claims.{Setting, asked_line, serving_of, AtMaster}
use Rattle.x5_model_replies.specs.Heard.{HeardRight}
use Rattle.x5_model_verdicts.specs.Verdicts.{TakenIsRight}
use Rattle.x5_model_verdicts.proofs.At.{form, holds_is, judge, line_in, of_settled}
use Rattle.x5_model_verdicts.proofs.Refused.{able, is_told_by, told_is}
use Rattle.x5_model_verdicts.proofs.NewName.{new_is}
use Rattle.x5_model_verdicts.proofs.Asked.{asks, goes_on, same_target}
use Rattle.x5_model_verdicts.proofs.Below.{same_number, climbs}
use Rattle.x5_model_verdicts.proofs.Probing.{of_agents, probe_resolves}
use Rattle.x5_model_joins.proofs.Backs.{own_answered, hears_further}
use Rattle.x5_model_joins.proofs.Untried.{of_contains}
use Rattle.x5_model_theory.proofs.Rows.{resolution_leads}
use Rattle.x5_model_run.proofs.Journals.{settled_at}
use Rattle.std.specs.Option.{is_some}
use Rattle.x5_model.specs.References.{Subordinate}

-- an answer is no error
no_refusal : (a : Answer) (x : DirError) → rest_of a ≡ Refuses x → ⊥
no_refusal (EntryFound info source) x e = cc
no_refusal (Matched equal copy source) x e = cc
no_refusal (Listed subs sources o) x e = cc
no_refusal (Found infos sources o) x e = cc
no_refusal Changed x e = cc

abbrev asked_first : (Key → Bool) → Tree → Request → Option DirError → Told
asked_first copies t r (Some x) = Refuses x
asked_first copies t r None = ask_body copies t r r.body

abbrev at_found : (Key → Bool) → Tree → Name → Option Named → Told
at_found copies t name None = absent t name
at_found copies t name (Some e) = read copies (Only []) e

-- where a probe is answered, the name is there
probe_finds : (copies : Key → Bool) (t : Tree) (name : Name) (a : Answer) → rest_of a ≡ ask_marked copies t (probe_request name) → (e : Named) × In e t.entries × (key_at e ≡ key_of name)
probe_finds copies t name a h =
    elim (none_or_some (fault_of (Read name (Only [])))) [
      | inr x ↦ absurd (no_refusal a x.0 (h ∙ ap (asked_first copies t (probe_request name)) x.1))
      | inl n ↦ elim (none_or_some (entry_at t.entries (key_of name))) [
        | inr e ↦ (let w = entry_found t.entries (key_of name) e.0 e.1 in (e.0, w.0, w.1))
        | inl q ↦ absurd (no_refusal a _ (h ∙ ap (asked_first copies t (probe_request name)) n ∙ ap (at_found copies t name) q))
      ]
    ]

master_is : (o : Option ℕ) (a : ℕ) → some_and (λ x. x == a) o ≡ true → o ≡ Some a
master_is None a e = cc
master_is (Some x) a e = ap some_of ((nat_same_decides x a).0 e)
  where
    some_of : ℕ → Option ℕ
    some_of n = Some n

told_going : (copies : Key → Bool) (t : Tree) (m : Chained) → is_done m.progress ≡ false → told copies t m ≡ ask_marked copies t m.request
told_going copies t m e = rw e refl

-- what was sent below a probe asks for the same
pub record Same (n l : Line) : Type 0 where
  pub request : l.message.request ≡ n.message.request
  pub target : key_of l.message.target ≡ key_of n.message.target
  pub going : is_done l.message.progress ≡ false

-- an entry with the new name, in its own context, whose master was asked for that name and heard
pub record Known (p : Point) (q : Asked) (lines : List Line) (r : Reference) : Type 0 where
  pub entry : Named
  pub context : Key
  pub master : ℕ
  pub inside : In entry (tree_at p).entries
  pub key : key_at entry ≡ key_of r.target
  pub long : IsLongest (tree_at p).pins (key_at entry) (Some context)
  pub masters_it : master_of (knowledge_at p) context ≡ Some master
  pub heard : hears_of q lines r.target master ≡ true

module _ (p : Point) (s : Scene) (k : Hand) (i j : Journal) (set : Setting p s) (at : AtMaster p s k i) (r : Reference) (due : due_probes (holds_now s i k) k.message ≡ r ∷ []) (n : Line) (a stood : ℕ)
    (all : AllLicensed s j.lines) (carried : IsCarried (Some k.receiver) (line_for k) (record r { agents = a ∷ [] }) n.message) (stands : In n j.lines)
    (back : hears_by (λ l. l.number == n.number) (serving_of i k at.at_hand.line.number) j.lines ≡ true) where
  new : (name : Name) × (new_name k.message.request.body ≡ Some name) × (key_of r.target ≡ key_of name) × (length r.target ≡ length name)
  new = new_is p s k i set at r due

  target : key_of r.target ≡ key_of n.message.target
  target = same_target p s k i set at r due (Some k.receiver) n.message (a ∷ []) carried

  reads : n.message.request ≡ probe_request n.message.target
  reads = asks p s k i set at r due (Some k.receiver) n.message (a ∷ []) carried

  going : is_done n.message.progress ≡ false
  going = goes_on p s k i set at r due (Some k.receiver) n.message (a ∷ []) carried

  start : (x : Line) → In x j.lines → is_answered_line (asked_line n stood) x ≡ true → Same n x
  start x l e =
      let same : x ≡ n = same_number s j.lines all x n l stands ((nat_same_decides x.number n.number).0 (both_true (x.number == n.number) _ e).0) in
      subst (Same n) (sym same) (record { request = refl; target = refl; going = going })

  -- a reference of name resolution has the same target, and goes on with the same request
  step : (x : Line) (before : List Line) → In x j.lines → (f : Follows s before x) → In f.opener j.lines → Same n f.opener → Same n x
  step x before l f m w =
      let needed : In f.reference (needs (s.holdings f.opener.receiver) f.opener.message) = of_contains (needs (s.holdings f.opener.receiver) f.opener.message) f.reference f.needed in
      let probes : f.opener.message.request ≡ probe_request n.message.target = w.request ∙ reads in
      let by_name : In f.reference (resolution_needs (holdings_at p f.opener.receiver) f.opener.message) =
      subst (λ (h : ℕ → Holdings). In f.reference (resolution_needs (h f.opener.receiver) f.opener.message)) set.holdings
      (probe_resolves (s.holdings f.opener.receiver) f.opener.message n.message.target probes w.going f.reference needed) in
      let leads = resolution_leads p f.opener.receiver f.opener.message f.reference x.receiver (record { described = set.whole.described; consistent = set.whole.consistent }) by_name
      (of_agents f.reference.agents f.turn.place x.receiver f.turn.inside f.turn.here) in
      let early : is_done f.reference.progress ≡ false = elim leads.late [
        | inl e ↦ e
        | inr e ↦ (let none : is_some (subset_of f.opener.message) ≡ false = ap (λ (y : Request). is_some (subset_in (by_pin f.opener.message) y.body)) probes in absurd (let z : true ≡ false = sym e ∙ none in cc))
      ] in
      let no_part : asks_part f.reference ≡ false = ap (λ (b : Bool). b && (same_kind f.reference.kind Subordinate || is_wide f.reference.kind)) early in
      let kept : key_of f.reference.target ≡ key_of f.opener.message.target = elim leads.keeps [ inl e ↦ absurd (let z : true ≡ false = sym e ∙ no_part in cc) | inr e ↦ e.0 ] in
      let no_probe : is_probe f.opener.message.request.body f.reference.target ≡ false = ap (λ (y : Request). is_probe y.body f.reference.target) probes in
      record {
        request = ap (λ (y : Chained). y.request) f.carries
            ∙ ap (λ (b : Bool). form f.opener.message.request (is_user x.sender) f.reference.target f.reference b (asks_part f.reference)) no_probe
            ∙ ap (λ (b : Bool). form f.opener.message.request (is_user x.sender) f.reference.target f.reference false b) no_part
            ∙ w.request;
        target = ap (λ (y : Chained). key_of y.target) f.carries ∙ kept ∙ w.target;
        going = ap (λ (y : Chained). is_done y.progress) f.carries ∙ early;
      }

  -- who was heard below the probe was asked for the new name
  for_it : (o : ℕ) (lines : List Line) → AllLicensed s lines → ((y : Line) → In y lines → In y j.lines) → hears (asked_line n stood) lines o ≡ true → hears_of (asked_line n stood) lines r.target o ≡ true
  for_it o [] licensed sub h = cc
  for_it o (x ∷ before) licensed sub h = elim (either_true ((x.receiver == o) && came_back (asked_line n stood) x before) _ h) [
    | inl e ↦
        let b = both_true (x.receiver == o) _ e in
        let w = climbs s j.lines (is_answered_line (asked_line n stood)) (λ y. is_sent y.fate) (Same n) start step of_settled (x ∷ before) licensed sub (depth x) b.1 x
        (ap (λ (ys : List Line). first_of ys) (settled_at (depth x) x before refl)) in
        or_left ((((x.receiver == o) && is_for r.target x)) && came_back (asked_line n stood) x before) _
        (and_true ((x.receiver == o) && is_for r.target x) _ (and_true (x.receiver == o) _ b.0 ((key_decides (key_of x.message.target) (key_of r.target)).1 (w.target ∙ sym target))) b.1)
    | inr e ↦ or_right ((((x.receiver == o) && is_for r.target x)) && came_back (asked_line n stood) x before) _ (for_it o before licensed.1 (λ y l. sub y (there l)) e)
  ]

  heard_it : (o : ℕ) → hears (asked_line n stood) j.lines o ≡ true → hears_of (serving_of i k at.at_hand.line.number) j.lines r.target o ≡ true
  heard_it o h =
      hears_further s (serving_of i k at.at_hand.line.number) (asked_line n stood) (λ l. (l.receiver == o) && is_for r.target l) j.lines all back (for_it o j.lines all (λ y l. l) h)

  module _ (found : Answer) (x : IsResult p s (asked_line n stood) j.lines found) where
    told_here : rest_of found ≡ ask_marked (is_copied p (sources_of found)) (mixed p (sources_of found)) (probe_request n.message.target)
    told_here =
        x.answered
        ∙ told_going (is_copied p (sources_of found)) (mixed p (sources_of found)) n.message going
        ∙ ap (ask_marked (is_copied p (sources_of found)) (mixed p (sources_of found))) reads

    -- the entry, in its own context, whose master was heard
    known : Known p (serving_of i k at.at_hand.line.number) j.lines r
    known =
        let e = probe_finds (is_copied p (sources_of found)) (mixed p (sources_of found)) n.message.target found told_here in
        let y = of_flat (λ (z : Source). part (source_tree p z.moment) (key_of z.context)) e.0 (sources_of found) (of_sorted named_below e.0 (flat_map (λ (z : Source). part (source_tree p z.moment) (key_of z.context)) (sources_of found)) e.1) in
        let z = both_true (hears (asked_line n stood) j.lines y.0.agent) (is_holder p (asked_line n stood) y.0 y.0.moment) (of_all (is_source p (asked_line n stood) j.lines) y.0 (sources_of found) x.sources y.1) in
        by y.0.moment refl e.0 (e.2 ∙ sym target) y.0 y.2 (heard_it y.0.agent z.0) z.1
      where
        by : (m : Option ℕ) → m ≡ m → (e : Named) → key_at e ≡ key_of r.target → (y : Source) → In e (part (source_tree p y.moment) (key_of y.context)) → hears_of (serving_of i k at.at_hand.line.number) j.lines r.target y.agent ≡ true
            → is_holder p (asked_line n stood) y y.moment ≡ true → Known p (serving_of i k at.at_hand.line.number) j.lines r
        by m same e key y inside hear source = moments y.moment inside source
          where
            moments : (o : Option ℕ) → In e (part (source_tree p o) (key_of y.context)) → is_holder p (asked_line n stood) y o ≡ true → Known p (serving_of i k at.at_hand.line.number) j.lines r
            moments None i f =
                let w = of_part (knowledge_of (world_at p)) (tree_at p) set.whole.coherent set.whole.tree (key_of y.context) e i in
                record { entry = e; context = key_of y.context; master = y.agent; inside = w.0; key = key; long = w.1; masters_it = master_is (master_of (knowledge_at p) (key_of y.context)) y.agent f; heard = hear }
            moments (Some m) i f =
                let c = (both_true (may_copy n.message.request) (is_copy_source p y m) f).0 in
                let no : may_copy n.message.request ≡ false = ap may_copy reads in
                absurd (let z : true ≡ false = sym c ∙ no in cc)

  finds : (spent : Bool) (found : Answer) → RightReply p s (asked_line n stood) j spent (Answered found) → Known p (serving_of i k at.at_hand.line.number) j.lines r
  finds spent found (usual on x) = by (Answered found) found refl x
    where
      no_update : is_update n.message.request.body ≡ false
      no_update = ap (λ (g : Request). is_update g.body) reads

      by : (reply : Reply) (f : Answer) → Answered f ≡ reply → Right p s (asked_line n stood) j reply → Known p (serving_of i k at.at_hand.line.number) j.lines r
      by _ f e (result b y off none) = known _ y
      by _ f e (changed b up some) = (let u = no_update in cc)
      by _ f e (right.error b t o c) = cc
      by _ f e (right.referral u q c) = cc
      by _ f e (right.unheard l q c) = cc

  module _ (mine : List Named) (h : judged s i k ≡ Ok mine) (stays : j.accepted ≡ i.accepted) (w : Known p (serving_of i k at.at_hand.line.number) j.lines r) where
    name_key : key_at w.entry ≡ key_of new.0
    name_key = w.key ∙ new.2

    exists : apply (tree_at p) k.message.request ≡ Err (UpdateProblem entry_already_exists)
    exists =
        refuses_present p k.receiver k.message mine new.0 (judge p s k i set at) (ap (λ (y : Holdings). apply_over (ground_at k.message.request y) k.message.request.body) (sym (holds_is p s k i set at)) ∙ h) new.1
        (any_in (λ (e : Named). same_key (key_at e) (key_of new.0)) w.entry (tree_at p).entries w.inside ((key_decides (key_at w.entry) (key_of new.0)).1 name_key))

    told_pin : hears_pin p s (serving_of i k at.at_hand.line.number) j.lines new.0 ≡ true
    told_pin = elim (true_or_false (is_pin p (key_of new.0))) [
      | inr f ↦ or_left (not (is_pin p (key_of new.0))) _ (ap not f)
      | inl t ↦
          let itself : IsLongest (tree_at p).pins (key_of new.0) (Some (key_of new.0)) = (of_has same_key key_decides (key_of new.0) (tree_at p).pins t, (prefix_itself (key_of new.0), λ q m u. prefix_length q (key_of new.0) u)) in
          let pin : w.context ≡ key_of new.0 = one_pin (tree_at p).pins (key_of new.0) w.context (key_of new.0) (subst (λ (y : Key). IsLongest (tree_at p).pins y (Some w.context)) name_key w.long) itself in
          or_right (not (is_pin p (key_of new.0))) _ (or_right (some_and (λ o. knows s k.message.request o (key_of new.0)) (master_at p (key_of k.message.target))) _
          (ap (some_and (hears_of (serving_of i k at.at_hand.line.number) j.lines new.0)) (ap (master_of (knowledge_at p)) (sym pin) ∙ w.masters_it)
          ∙ ap (λ (y : Key). hears_by (λ l. (l.receiver == w.master) && same_key (key_of l.message.target) y) (serving_of i k at.at_hand.line.number) j.lines) (sym new.2)
          ∙ w.heard))
    ]

    told_taken : hears_taken p s (serving_of i k at.at_hand.line.number) j.lines (UpdateProblem entry_already_exists) ≡ true
    told_taken = ap (λ (o : Option Name). in_option {X = Name} {Y = Bool} true (hears_pin p s (serving_of i k at.at_hand.line.number) j.lines) o) new.1 ∙ told_pin

    pub taken_by : (spent : Bool) → In at.at_hand.line j.lines → RightReply p s (serving_of i k at.at_hand.line.number) j spent (Failed (UpdateProblem entry_already_exists))
    taken_by spent there_still =
        usual (ap not (able p s k i set at))
        (right.error (own_answered at.at_hand.line (length i.accepted) j.lines there_still) (told_is p s k i set at ∙ ap updated exists)
        (is_told_by p s k i set at j.lines there_still (UpdateProblem entry_already_exists) told_taken) ((nat_same_decides (length j.accepted) (length i.accepted)).1 (ap length stays)))

pub taken_is_right : TakenIsRight
taken_is_right p s most k i j mine r a found spent set at h due keeps stays t =
    let e : HeardRight p s most (serving_of i k at.at_hand.line.number) j t.0 (Answered found) = t.3 in
    let there_still : In at.at_hand.line j.lines = subst (λ (xs : List Line). In at.at_hand.line xs) (sym keeps.grows.1) (in_right at.at_hand.line keeps.grows.0 i.lines (line_in p s k i set at)) in
    taken_by p s k i j set at r due t.0 a e.stood keeps.licensed t.2 e.stands e.back mine h stays
    (finds p s k i j set at r due t.0 a e.stood keeps.licensed t.2 e.stands e.back (nat_le most (length j.lines)) found e.right) spent there_still
