-- What is sent for the probes of an update, as far as its licence tells: by the one reference that is needed, to its agents;
-- and where each of them holds nothing that goes as far, nothing is sent below, and every line was heard.
use Rattle.std.proofs.Common.{◌≡◌, ℕ, ◌+◌, ◌-◌, Bool, true, false, not, ◌&&◌, ◌==◌, ◌⊎◌, inl, inr, List, [], ◌∷◌, ◌++◌, length, refl, sym, ap, subst, ◌∙◌, Some, None, if◌then◌else◌, arith, zero, suc, ◌<◌, slice_index}
use Rattle.std.specs.Option.{is_some}
use Rattle.x5_model.specs.Words.{in_option, first_of}
use Rattle.x5_model.specs.Members.{In, here, there}
use Rattle.x5_model.specs.Keys.{Key}
use Rattle.x5_model.specs.Values.{Name, key_of}
use Rattle.x5_model.specs.Requests.{Subset, Body, Read, Compare, ListBelow, Search, AddEntry, RemoveEntry, ModifyEntry, ModifyDn, Request}
use Rattle.x5_model.specs.Statics.{fault_of}
use Rattle.x5_model.specs.References.{Progress, Start, Next, Done, Reference, Chained}
use Rattle.x5_model.proofs.KeyLaws.{key_decides}
use Rattle.x5_model.proofs.Lists.{both_true, and_true, not_true, in_first, in_either, true_or_false}
use Rattle.x5_model.proofs.Decide.{nat_same_decides}
use Rattle.x5_model_tree.specs.Ask.{is_update}
use Rattle.x5_model_run.specs.Network.{Fate, Lost, NoReply, Sent, is_sent, is_unheard}
use Rattle.x5_model_run.specs.Journal.{Line, Journal, depth, same_name, same_progress, same_message, settled, is_done, is_wide, siblings, some_line, opened_by, leads_up}
use Rattle.x5_model_run.specs.Holdings.{Holdings}
use Rattle.x5_model_run.specs.Needs.{resolves, resolves_by, falls_short, subset_of, subset_in, by_pin, subset_needs, resolution_needs, part_needs, copied_needs, passing_needs, new_name, probe_due, probe_needs, due_probes, needs}
use Rattle.x5_model_run.specs.History.{Point, holdings_at}
use Rattle.x5_model_run.specs.Chain.{Scene, Follows, Caused, begins, later, is_fresh, AllLicensed, IsCarried, carried, probe_request, is_probe_line, asks_by, is_asked, is_cleared}
use Rattle.x5_model_run.specs.Accepting.{lacks_probe}
use Rattle.x5_model_run.proofs.Carrying.{as_carried}
use Rattle.x5_model_serve.specs.Serving.{Hand, line_for, holds_now}
use Rattle.x5_model_serve.specs.Claims.{Setting, AtMaster}
use Rattle.x5_model_find.proofs.Needing.{resolution_stopped, copied_off}
use Rattle.x5_model_find.proofs.Deciding.{here_needs}
use Rattle.x5_model_joins.proofs.Untried.{of_contains}
use Rattle.x5_model_verdicts.proofs.At.{holds_is, found_is, of_settled}
use Rattle.x5_model_verdicts.proofs.Asked.{asks, goes_on}
use Rattle.x5_model_verdicts.proofs.Below.{At, before_in, either_first, some_at, licensed_at, same_number, climbs, not_twice, opened}

-- ---- what a message needs

update_alone : (m : Chained) → is_update m.request.body ≡ true → subset_of m ≡ None
update_alone m up = by m.request.body up
  where
    by : (b : Body) → is_update b ≡ true → subset_in (by_pin m) b ≡ None
    by (Read name selection) u = refl
    by (Compare name assertion) u = refl
    by (ListBelow name) u = cc
    by (Search base subset f selection) u = cc
    by (AddEntry name attributes) u = refl
    by (RemoveEntry name) u = refl
    by (ModifyEntry name changes) u = refl
    by (ModifyDn name rdn drops) u = refl

no_faults : (b : Bool) (xs : List Reference) (x : Reference) → In x (if b then [] else xs) → In x xs
no_faults true xs x i = elim i [ ]
no_faults false xs x i = i

none_in : (xs : List Reference) → xs ≡ [] → (x : Reference) → In x xs → ⊥
none_in xs e x i = let f : In x [] = subst (λ (ys : List Reference). In x ys) e i in elim f [ ]

-- what a probe needs is by name resolution
pub probe_resolves : (h : Holdings) (m : Chained) (name : Name) → m.request ≡ probe_request name → is_done m.progress ≡ false → (x : Reference) → In x (needs h m) → In x (resolution_needs h m)
probe_resolves h m name request going x i = elim (in_either x (passing_needs h m) (due_probes h m) i) [
  | inl j ↦ elim (in_either x (resolution_needs h m ++ part_needs h m) (copied_needs h m) (no_faults (is_some (fault_of m.request.body)) (resolution_needs h m ++ part_needs h m ++ copied_needs h m) x j)) [
    | inl l ↦ elim (in_either x (resolution_needs h m) (part_needs h m) l) [
      | inl q ↦ q
      | inr q ↦ absurd (none_in (part_needs h m) (ap (λ (y : Request). in_option {X = Subset} {Y = List Reference} [] (subset_needs h m) (subset_in (by_pin m) y.body)) request) x q)
    ]
    | inr l ↦ absurd (none_in (copied_needs h m) (copied_off h m (ap (λ (b : Bool). b && not (is_wide m.kind)) going)) x l)
  ]
  | inr j ↦ absurd (none_in (probe_needs h m) (ap (λ (y : Request). in_option {X = Name} {Y = List Reference} [] (probe_due h m) (new_name y.body)) request) x (no_faults (is_some (fault_of m.request.body)) (probe_needs h m) x j))
]

short_stops : (h : Holdings) (key : Key) (x : Progress) → falls_short h key x ≡ true → resolves_by h key x ≡ false
short_stops h key Start e = cc
short_stops h key (Next n) e = not_true _ e
short_stops h key Done e = refl

pub of_agents : (xs : List ℕ) (i x : ℕ) → i < length xs → slice_index xs i ≡ x → In x xs
of_agents [] i x h e = absurd (omega arith)
of_agents (y ∷ ys) zero x h e = subst (λ z. In z (y ∷ ys)) e here
of_agents (y ∷ ys) (suc i) x h e = there (of_agents ys i x (omega arith) e)

progress_itself : (p : Progress) → same_progress p p ≡ true
progress_itself Start = refl
progress_itself (Next k) = (nat_same_decides k k).1 refl
progress_itself Done = refl

heard_or_not : (f : Fate) → is_unheard f ≡ true → is_sent f ≡ true → ⊥
heard_or_not Lost u v = cc
heard_or_not NoReply u v = cc
heard_or_not Sent u v = cc

-- ---- what is sent for the line at hand

-- a line for it goes by the one reference, to one of its agents
pub record IsProbe (k : Hand) (r : Reference) (x : Line) : Type 0 where
  pub agent : In x.receiver r.agents
  pub carries : x.message ≡ carried x.sender k.receiver k.message r

module _ (p : Point) (s : Scene) (k : Hand) (i : Journal) (set : Setting p s) (at : AtMaster p s k i) (r : Reference) (due : due_probes (holds_now s i k) k.message ≡ r ∷ []) where
  pub line_needs : needs (s.holdings at.at_hand.line.receiver) at.at_hand.line.message ≡ r ∷ []
  line_needs =
      ap (λ (o : ℕ). needs (s.holdings o) at.at_hand.line.message) at.at_hand.receiver_is
      ∙ ap (needs (s.holdings k.receiver)) at.at_hand.message_is
      ∙ ap (λ (h : ℕ → Holdings). needs (h k.receiver) k.message) set.holdings
      ∙ here_needs (holdings_at p k.receiver) k.message at.context (at.arrives.unrefused, at.arrives.fit) (found_is p s k i set at) (update_alone k.message at.update)
      ∙ ap (λ (h : Holdings). due_probes h k.message) (sym (holds_is p s k i set at))
      ∙ due

  pub of_follows : (e : List Line) (x : Line) (f : Follows s e x) → f.opener ≡ at.at_hand.line → IsProbe k r x
  of_follows e x f same =
      let needed : In f.reference (needs (s.holdings f.opener.receiver) f.opener.message) = of_contains (needs (s.holdings f.opener.receiver) f.opener.message) f.reference f.needed in
      let here_too : In f.reference (r ∷ []) =
      subst (λ (xs : List Reference). In f.reference xs) line_needs (subst (λ (o : Line). In f.reference (needs (s.holdings o.receiver) o.message)) same needed) in
      let is_r : f.reference ≡ r = elim (in_first f.reference r [] here_too) [ inl y ↦ y | inr n ↦ elim n [ ] ] in
      record {
        agent = subst (λ (y : Reference). In x.receiver y.agents) is_r (of_agents f.reference.agents f.turn.place x.receiver f.turn.inside f.turn.here);
        carries = f.carries
            ∙ ap (λ (y : Reference). carried x.sender f.opener.receiver f.opener.message y) is_r
            ∙ ap (λ (o : Line). carried x.sender o.receiver o.message r) same
            ∙ ap (λ (o : ℕ). carried x.sender o at.at_hand.line.message r) at.at_hand.receiver_is
            ∙ ap (λ (m : Chained). carried x.sender k.receiver m r) at.at_hand.message_is;
      }

  module _ (x : Line) (is : IsProbe k r x) where
    pub carried_by : IsCarried x.sender (line_for k) (record r { agents = r.agents }) x.message
    carried_by = as_carried x.sender (line_for k) r x.message is.carries

    -- who holds nothing that goes as far needs nothing
    stops : falls_short (s.holdings x.receiver) (key_of r.target) r.progress ≡ true → (y : Reference) → In y (needs (s.holdings x.receiver) x.message) → ⊥
    stops short y j =
        let stopped : resolves (s.holdings x.receiver) x.message ≡ false =
        ap (λ (m : Chained). resolves_by (s.holdings x.receiver) (key_of m.target) m.progress) is.carries ∙ short_stops (s.holdings x.receiver) (key_of r.target) r.progress short in
        none_in (resolution_needs (s.holdings x.receiver) x.message) (resolution_stopped (s.holdings x.receiver) x.message stopped) y
        (probe_resolves (s.holdings x.receiver) x.message x.message.target (asks p s k i set at r due x.sender x.message r.agents carried_by) (goes_on p s k i set at r due x.sender x.message r.agents carried_by) y j)

  same_asked : (x y : Line) → IsProbe k r x → IsProbe k r y → x.receiver ≡ y.receiver → same_message x y ≡ true
  same_asked x y a b e =
      and_true (x.receiver == y.receiver) _ ((nat_same_decides x.receiver y.receiver).1 e)
      (and_true (same_progress x.message.progress y.message.progress) (same_name x.message.target y.message.target)
      (ap (λ (m : Chained). same_progress m.progress y.message.progress) a.carries ∙ ap (λ (m : Chained). same_progress r.progress m.progress) b.carries ∙ progress_itself r.progress)
      ((key_decides (key_of x.message.target) (key_of y.message.target)).1 (ap (λ (m : Chained). key_of m.target) (a.carries) ∙ sym (ap (λ (m : Chained). key_of m.target) b.carries))))

  -- where each agent was heard, and holds nothing that goes as far
  module _ (lines : List Line) (all : AllLicensed s lines) (there : In at.at_hand.line lines) (cleared : (a : ℕ) → In a r.agents → is_cleared s lines at.at_hand.line.number r a ≡ true) where
    abbrev Stops : Line → Type 0
    Stops o = (o ≡ at.at_hand.line) ⊎ ((y : Reference) → In y (needs (s.holdings o.receiver) o.message) → ⊥)

    short_of : (x : Line) → IsProbe k r x → falls_short (s.holdings x.receiver) (key_of r.target) r.progress ≡ true
    short_of x is = (both_true (is_asked is_sent lines at.at_hand.line.number r x.receiver) _ (cleared x.receiver is.agent)).1

    step : (x : Line) (before : List Line) → In x lines → (f : Follows s before x) → In f.opener lines → Stops f.opener → Stops x
    step x before j f l (inl same) = inr (let is = of_follows before x f same in stops x is (short_of x is))
    step x before j f l (inr none) = absurd (none f.reference (of_contains (needs (s.holdings f.opener.receiver) f.opener.message) f.reference f.needed))

    start : (x : Line) → In x lines → (x.number == at.at_hand.line.number) ≡ true → Stops x
    start x j e = inl (same_number s lines all x at.at_hand.line j there ((nat_same_decides x.number at.at_hand.line.number).0 e))

    -- so a line that isn't heard doesn't go back to it
    unheard_one : (l : Line) (e : List Line) → At lines l e → is_unheard l.fate ≡ true → (f : Follows s e l) → is_fresh (siblings f.above e) l ≡ true → f.opener ≡ at.at_hand.line → ⊥
    unheard_one l e a un f fresh same =
        let is = of_follows e l f same in
        let w = some_at (λ m before. is_sent m.fate && (asks_by r l.receiver m && opened_by at.at_hand.line.number before m)) lines
        (both_true (is_asked is_sent lines at.at_hand.line.number r l.receiver) _ (cleared l.receiver is.agent)).0 in
        let t = both_true (is_sent w.0.fate) _ w.3 in
        let u = both_true (asks_by r l.receiver w.0) (opened_by at.at_hand.line.number w.1 w.0) t.1 in
        let to : w.0.receiver ≡ l.receiver = (nat_same_decides w.0.receiver l.receiver).0 (both_true (w.0.receiver == l.receiver) _ u.0).0 in
        let g = opened s lines all at.at_hand.line there of_settled w.0 w.1 w.2 u.1 in
        let other = of_follows w.1 w.0 g.0 g.2 in
        let far : depth l ≡ depth at.at_hand.line + 1 = f.deeper ∙ ap (λ (n : ℕ). n + 1) (sym f.at_above ∙ ap depth same) in
        elim (either_first lines l e w.0 w.1 a w.2) [
          | inl e ↦ heard_or_not l.fate un (subst (λ (z : Line). is_sent z.fate ≡ true) (sym e) t.0)
          | inr (inl b) ↦ not_twice s at.at_hand.line l w.0 e w.1 (licensed_at s lines l e all a).1 f fresh same b g.3 g.4 (same_asked l w.0 is other (sym to))
          | inr (inr b) ↦ not_twice s at.at_hand.line w.0 l w.1 e (licensed_at s lines w.0 w.1 all w.2).1 g.0 g.1 g.2 b far
              (subst (λ (z : Line). In z e) same (of_settled f.above e f.opener f.opens)) (same_asked w.0 l other is to)
        ]

    not_below : (l : Line) (e : List Line) → At lines l e → is_unheard l.fate ≡ true → leads_up (λ x. x.number == at.at_hand.line.number) (λ x. true) (depth l - 1) e ≡ true → ⊥
    not_below l e a un up = by e (licensed_at s lines l e all a).0.cause a (licensed_at s lines l e all a).1 up
      where
        by : (before : List Line) → Caused s before l → At lines l before → AllLicensed s before → leads_up (λ x. x.number == at.at_hand.line.number) (λ x. true) (depth l - 1) before ≡ true → ⊥
        by _ (begins f) b licensed u = cc
        by before (later f fresh) b licensed u =
            let above : depth l - 1 ≡ f.above = (let y : depth l ≡ f.above + 1 = f.deeper in omega (arith, y)) in
            let opens : first_of (settled (depth l - 1) before) ≡ Some f.opener = subst (λ (n : ℕ). first_of (settled n before) ≡ Some f.opener) (sym above) f.opens in
            elim (climbs s lines (λ x. x.number == at.at_hand.line.number) (λ x. true) Stops start step of_settled before licensed (before_in lines l before b) (depth l - 1) u f.opener opens) [
              | inl same ↦ unheard_one l before b un f fresh same
              | inr none ↦ none f.reference (of_contains (needs (s.holdings f.opener.receiver) f.opener.message) f.reference f.needed)
            ]

    pub lacks_none : some_line (lacks_probe s at.at_hand.line.number) lines ≡ false
    lacks_none = elim (true_or_false (some_line (lacks_probe s at.at_hand.line.number) lines)) [
      | inr f ↦ f
      | inl t ↦
          let w = some_at (lacks_probe s at.at_hand.line.number) lines t in
          let u = both_true (is_probe_line s w.0) _ w.3 in
          let v = both_true (is_unheard w.0.fate) _ u.1 in
          absurd (not_below w.0 w.1 w.2 v.0 v.1)
    ]
