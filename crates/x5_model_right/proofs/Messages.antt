-- One message, case by case: none is left; it is lost; its reply is lost; or it is heard, and what it leaves is followed
-- by its sender, who may chain since it chained before.
use Rattle.std.proofs.Common.{◌≡◌, ℕ, ◌-◌, Bool, true, false, not, ◌&&◌, ◌||◌, ◌==◌, ◌⊎◌, if◌then◌else◌, inl, inr, List, [], ◌∷◌, ◌++◌, length, refl, sym, ap, subst, ◌∙◌, arith, Option, Some, None}
use Rattle.std.specs.List.{list_all}
use Rattle.x5_model.specs.Words.{is_empty}
use Rattle.x5_model.specs.Members.{In, here}
use Rattle.x5_model.specs.Values.{Name}
use Rattle.x5_model.specs.Requests.{Body, Read, Compare, ListBelow, Search, AddEntry, RemoveEntry, ModifyEntry, ModifyDn, Request}
use Rattle.x5_model.specs.References.{Reference, Chained}
use Rattle.x5_model.specs.Answers.{Changed, Reply, Answered}
use Rattle.x5_model.proofs.Decide.{nat_same_decides}
use Rattle.x5_model.proofs.Lists.{both_true, and_true, either_true, not_true, or_left, or_right, true_or_false, in_first, in_left, in_either, any_in}
use Rattle.x5_model_tree.specs.Ask.{is_update}
use Rattle.x5_model_run.specs.Network.{Sent, arrives, is_sent, is_unheard, refuses}
use Rattle.x5_model_run.specs.Journal.{Line, Journal, depth, operation_of, same_sender, is_done, is_wide, same_name, siblings, leads_up}
use Rattle.x5_model_run.specs.Needs.{target_of}
use Rattle.x5_model_run.specs.History.{Point}
use Rattle.x5_model_run.specs.Chain.{Scene, AllLicensed, IsCarried, carried, is_passed, is_probe_line, is_prohibited, is_user, is_probe, asks_part, probe_request, part_body, part_request, request_for, may_send, may_chain}
use Rattle.x5_model_run.specs.Blocked.{is_answered_line, came_back, hears_by}
use Rattle.x5_model_run.specs.Right.{is_noreply, heard_whole}
use Rattle.x5_model_run.specs.Placed.{is_query_below}
use Rattle.x5_model_replies.specs.Replies.{RightReply}
use Rattle.x5_model_run.specs.Thorough.{is_served, sender_follows}
use Rattle.x5_model_run.proofs.Carrying.{is_carried}
use Rattle.x5_model_run.proofs.Growing.{all_grow}
use Rattle.x5_model_run.proofs.Journals.{leads_from}
use Rattle.x5_model_serve.specs.Serving.{Hand, hand, line_for, Hears, Follows, carried_for, next_line, with_line, is_spent, is_idle, is_final}
use Rattle.x5_model_serve.specs.Claims.{AtHand, MayTake, AskedSoFar, depth_at, is_due_line, is_settled_line, serving_of, asked_line, line_at}
use Rattle.x5_model_serve.proofs.Finals.{idle_is_followed}
use Rattle.x5_model_verdicts.proofs.At.{each_of_update, each_off, fit_key}
use Rattle.x5_model_verdicts.proofs.Lines.{accepted_meanwhile}
use Rattle.x5_model_right.specs.Kept.{Ground, KeepsAll, Rests, asks_update, IsUnsaid, Meanwhile}
use Rattle.x5_model_right.specs.Journeys.{NeededAgents}
use Rattle.x5_model_right.specs.Claim.{ServedRight, MayFollow}
use Rattle.x5_model_right.specs.Sent.{Spent, IsLost, Dropped, IsHeard}
use Rattle.x5_model_right.proofs.Kept.{some_stays, settled_stays, spent_still, all_both, unchanged, at_hand_later}
use Rattle.x5_model_right.proofs.Journeys.{by_causes, line_placed}
use Rattle.x5_model_right.proofs.Adding.{update_no_read, deeper, licensed, accepting_same, accepted_still, at_once_still, prohibited_still, at_hand_now, comes_now}
use Rattle.x5_model_right.proofs.Sending.{leads_at, sender_itself, number_itself, served_alone, stands, sent_there, vain_there, heard_there, only_it, next_so_far, sent_keeps}

-- ---- no message is left

pub spent_right : Spent
spent_right p s most from o r j a g e before after at may rests split so_far = record {
  keeps = unchanged p s most o (asks_update from o r) j at.licensed at.accepted rests.at_once;
  only = λ l m. inl m;
  next = λ h. record {
    passed = λ l f b m. elim (in_either b before (a ∷ []) m) [
      | inl old ↦ so_far.passed l f b old
      | inr new ↦ elim (in_first b a [] new) [
        | inr none ↦ elim none [ ]
        | inl same ↦
            let q : Some at.line ≡ Some l = sym at.at_hand ∙ f in
            let line : at.line ≡ l = cc in
            subst (λ (n : ℕ). is_passed s j.lines l r n ≡ true) (sym same) (subst (λ (y : Line). is_passed s j.lines y r a ≡ true) line h)
      ]
    ];
    only = λ l m agent carried. in_left l.receiver before (a ∷ []) (so_far.only l m agent carried);
  };
  heard = inr ((refl, e), refl);
  meanwhile = inl refl;
}

-- ---- a message that doesn't arrive, or whose reply doesn't

never_due : (a b c d : Bool) → b ≡ false → ((a && (b && c)) && d) ≡ false
never_due true true c d e = cc
never_due true false c d e = refl
never_due false b c d e = refl

pub lost_settled : (p : Point) (s : Scene) (j : Journal) (e : Line) → arrives e.fate ≡ false → is_settled_line p s j e ≡ true
lost_settled p s j e f = or_left (not (is_due_line p s j e)) _ (ap not (never_due (e.receiver == e.receiver) (arrives e.fate) _ _ f))

pub lost_right : NeededAgents → IsLost
lost_right known p s most from o r i a g left fate before after at may rests split so_far =
    let kept = unchanged p s most (hand a (carried_for from o r)) (asks_update from o r) (with_line (next_line s i from o r a) i)
    (licensed known p s most g from o r i before after a at may rests split so_far)
    (accepted_still known p s most g from o r i before after a at may rests split so_far)
    (at_once_still known p s most g from o r i before after a at may rests split so_far) in
    let gone : arrives (next_line s i from o r a).fate ≡ false = ap arrives fate in
    let own : is_spent most (with_line (next_line s i from o r a) i) ≡ true ⊎ ((is_served s (with_line (next_line s i from o r a) i) (next_line s i from o r a) ≡ true) × (is_settled_line p s (with_line (next_line s i from o r a) i) (next_line s i from o r a) ≡ true)) =
    inr (or_left _ _ (ap not gone), lost_settled p s (with_line (next_line s i from o r a) i) (next_line s i from o r a) gone) in
    record {
      keeps = sent_keeps known p s most g from o r i before after a at may rests split so_far (with_line (next_line s i from o r a) i) kept own;
      only = only_it known p s most g from o r i before after a at may rests split so_far (with_line (next_line s i from o r a) i) kept;
      next = next_so_far known p s most g from o r i before after a at may rests split so_far (with_line (next_line s i from o r a) i) kept;
      heard = (vain_there known p s most g from o r i before after a at may rests split so_far (with_line (next_line s i from o r a) i) kept (ap is_unheard fate), sent_there known p s most g from o r i before after a at may rests split so_far (with_line (next_line s i from o r a) i) kept);
      meanwhile = inl refl;
    }

pub dropped_right : NeededAgents → Dropped
dropped_right known p s most from o r i j a reply g left fate d serves before after at may rests split so_far =
    let arrived : arrives (next_line s i from o r a).fate ≡ true = ap arrives fate in
    let sv = serves (at_hand_now known p s most g from o r i before after a at may rests split so_far arrived) (comes_now known p s most g from o r i before after a at may rests split so_far left) in
    let alone : sender_follows s (next_line s i from o r a) ≡ false = λ q. ap is_sent fate q && (not (is_user from) || s.follows) in
    let own : is_spent most j ≡ true ⊎ ((is_served s j (next_line s i from o r a) ≡ true) × (is_settled_line p s j (next_line s i from o r a) ≡ true)) =
    elim sv.own [ inl e ↦ inl e | inr w ↦ inr (served_alone s j (next_line s i from o r a) alone w.0, w.1) ] in
    record {
      keeps = sent_keeps known p s most g from o r i before after a at may rests split so_far j sv.keeps own;
      only = only_it known p s most g from o r i before after a at may rests split so_far j sv.keeps;
      next = next_so_far known p s most g from o r i before after a at may rests split so_far j sv.keeps;
      heard = (vain_there known p s most g from o r i before after a at may rests split so_far j sv.keeps (ap is_unheard fate), sent_there known p s most g from o r i before after a at may rests split so_far j sv.keeps);
      meanwhile = inr (inr (inl (ap not (any_in (λ (l : Line). is_noreply l.fate) (next_line s i from o r a) j.lines (stands known p s most g from o r i before after a at may rests split so_far j sv.keeps) (ap is_noreply fate)))));
    }

-- ---- probes chain

unread_part : (wide : Bool) (t : Name) (b : Body) → (operation_of (part_body wide t b) == 1) ≡ true → (operation_of b == 1) ≡ true
unread_part wide t (Read name selection) u = refl
unread_part wide t (Compare name assertion) u = cc
unread_part wide t (ListBelow name) u = cc
unread_part wide t (Search base subset f selection) u = cc
unread_part wide t (AddEntry name attributes) u = cc
unread_part wide t (RemoveEntry name) u = cc
unread_part wide t (ModifyEntry name changes) u = cc
unread_part wide t (ModifyDn name rdn drops) u = cc

read_part : (wide : Bool) (t : Name) (b : Body) → (operation_of b == 1) ≡ true → (operation_of (part_body wide t b) == 1) ≡ true
read_part wide t (Read name selection) u = refl
read_part wide t (Compare name assertion) u = cc
read_part wide t (ListBelow name) u = cc
read_part wide t (Search base subset f selection) u = cc
read_part wide t (AddEntry name attributes) u = cc
read_part wide t (RemoveEntry name) u = cc
read_part wide t (ModifyEntry name changes) u = cc
read_part wide t (ModifyDn name rdn drops) u = cc

abbrev form : Request → Bool → Name → Reference → Bool → Bool → Request
form asked user t r probe part = if probe then probe_request t else (if part then part_request user (is_wide r.kind) t asked else asked)

both_off : (u n : Bool) → n ≡ false → (u && n) ≡ false
both_off true n e = e
both_off false n e = refl

read_chains : (user : Bool) (asked : Request) (t : Name) (r : Reference) → ((operation_of asked.body == 1) ≡ true → asked.controls.nochain ≡ false)
    → (operation_of (request_for user asked t r).body == 1) ≡ true → (request_for user asked t r).controls.nochain ≡ false
read_chains user asked t r before = by (is_probe asked.body t) (asks_part r)
  where
    by : (b c : Bool) → (operation_of (form asked user t r b c).body == 1) ≡ true → (form asked user t r b c).controls.nochain ≡ false
    by true c e = refl
    by false true e = both_off user asked.controls.nochain (before (unread_part (is_wide r.kind) t asked.body e))
    by false false e = before e

pub read_kept : (user : Bool) (asked : Request) (t : Name) (r : Reference) → (operation_of asked.body == 1) ≡ true → (operation_of (request_for user asked t r).body == 1) ≡ true
read_kept user asked t r read = by (is_probe asked.body t) (asks_part r)
  where
    by : (b c : Bool) → (operation_of (form asked user t r b c).body == 1) ≡ true
    by true c = refl
    by false true = read_part (is_wide r.kind) t asked.body read
    by false false = read

pub probe_chains : (s : Scene) (lines : List Line) (l : Line) → AllLicensed s lines → In l lines → is_probe_line s l ≡ true → l.message.request.controls.nochain ≡ false
probe_chains s =
    by_causes s (λ l. is_probe_line s l ≡ true → l.message.request.controls.nochain ≡ false)
    (λ l f h.
    let b = both_true (is_update s.message.request.body) _ h in
    let read : (operation_of s.message.request.body == 1) ≡ true = ap (λ (m : Chained). operation_of m.request.body == 1) (sym f.message_is) ∙ b.1 in
    let no = update_no_read s.message.request.body b.0 in
    absurd (let z : true ≡ false = sym read ∙ no in cc))
    (λ l o r needed listed carries chains before h.
    let b = both_true (is_update s.message.request.body) _ h in
    let read : (operation_of (carried l.sender o.receiver o.message r).request.body == 1) ≡ true = ap (λ (m : Chained). operation_of m.request.body == 1) (sym carries) ∙ b.1 in
    ap (λ (m : Chained). m.request.controls.nochain) carries
    ∙ read_chains (is_user l.sender) o.message.request r.target r (λ e. before (and_true (is_update s.message.request.body) _ b.0 e)) read)

-- ---- the reply is heard

module _ (known : NeededAgents) (p : Point) (s : Scene) (most : ℕ) (g : Ground p s) (from : Option ℕ) (o : Hand) (r : Reference) (i : Journal) (before after : List ℕ) (a : ℕ)
    (at : AtHand p s o i) (may : MayTake s from o r i) (rests : Rests p s most at.line (asks_update from o r) i) (split : r.agents ≡ before ++ a ∷ after) (so_far : AskedSoFar s o r i before)
    (left : is_spent most i ≡ false) (fate : (next_line s i from o r a).fate ≡ Sent) where
  all : AllLicensed s (next_line s i from o r a ∷ i.lines)
  all = licensed known p s most g from o r i before after a at may rests split so_far

  no_probe_prohibits : is_probe_line s (next_line s i from o r a) ≡ true → (carried_for from o r).request.controls.nochain ≡ true → ⊥
  no_probe_prohibits e n = (let f = probe_chains s (next_line s i from o r a ∷ i.lines) (next_line s i from o r a) all here e in let z : true ≡ false = sym n ∙ f in cc)

  may_it : may_chain s (next_line s i from o r a) from ≡ true
  may_it = may.chains (next_line s i from o r a) refl (is_carried from (line_for o) r)

  -- an idle receiver refuses, or the user prohibits
  refuses_here : is_idle s (hand a (carried_for from o r)) ≡ true → (refuses s.network a ≡ true) ⊎ (is_prohibited s ≡ true)
  refuses_here idle = elim (either_true (carried_for from o r).request.controls.nochain (refuses s.network a) idle) [
    | inr e ↦ inl e
    | inl n ↦ elim (prohibited_still known p s most g from o r i before after a at may rests split so_far) [
      | inl e ↦ absurd (no_probe_prohibits e n)
      | inr f ↦ inr (f n)
    ]
  ]

  sends_by : is_idle s (hand a (carried_for from o r)) ≡ true → (f : Option ℕ) → from ≡ f → may_send s (next_line s i from o r a) f ≡ true
  sends_by idle None q =
      let m : may_send s at.line None ≡ true = subst (λ (f : Option ℕ). may_send s at.line f ≡ true) q (may.sender_is at.line at.at_hand) in
      and_true s.follows _ (both_true s.follows _ m).0
      (and_true (is_user from) _ (ap is_user q)
      (and_true (is_sent (next_line s i from o r a).fate) _ (ap is_sent fate) (elim (refuses_here idle) [ inl e ↦ or_left (refuses s.network a) _ e | inr e ↦ or_right (refuses s.network a) _ e ])))
  sends_by idle (Some b) q =
      or_right (b == a) _ (and_true (refuses s.network a) _ refused (and_true (same_sender from (Some b)) _ (subst (λ (f : Option ℕ). same_sender from f ≡ true) q (sender_itself from)) (ap is_sent fate)))
    where
      refused : refuses s.network a ≡ true
      refused = elim (either_true (carried_for from o r).request.controls.nochain (refuses s.network a) idle) [
        | inr e ↦ e
        | inl n ↦ elim (refuses_here idle) [
          | inl e ↦ e
          | inr prohibited ↦ elim (either_true (is_probe_line s (next_line s i from o r a)) _ (subst (λ (f : Option ℕ). may_chain s (next_line s i from o r a) f ≡ true) q may_it)) [
            | inl e ↦ absurd (no_probe_prohibits e n)
            | inr e ↦ (let f = not_true (is_prohibited s) (both_true (not (refuses s.network b)) _ e).1 in absurd (let z : true ≡ false = sym prohibited ∙ f in cc))
          ]
        ]
      ]

  chains_by : (f : Option ℕ) → from ≡ f → (q : Reference) (l : Line) → IsCarried from (line_for (hand a (carried_for from o r))) q l.message → may_chain s l f ≡ true
  chains_by None e q l c = refl
  chains_by (Some b) e q l c = elim (either_true (is_probe_line s (next_line s i from o r a)) _ (subst (λ (f : Option ℕ). may_chain s (next_line s i from o r a) f ≡ true) e may_it)) [
    | inr w ↦ or_right (is_probe_line s l) _ w
    | inl w ↦
        let u = both_true (is_update s.message.request.body) _ w in
        or_left (is_probe_line s l) _ (and_true (is_update s.message.request.body) _ u.0
        (ap (λ (y : Request). operation_of y.body == 1) c.request_is ∙ read_kept (is_user from) (carried_for from o r).request l.message.target q u.1))
  ]

  module _ (j : Journal) (kept : KeepsAll p s most (hand a (carried_for from o r)) (asks_update from o r) (with_line (next_line s i from o r a) i) j) where
    back : hears_by (λ y. y.number == (next_line s i from o r a).number) (serving_of i o at.line.number) j.lines ≡ true
    back =
        let d = deeper known p s most g from o r i before after a at may rests split so_far in
        let up : depth (next_line s i from o r a) - 1 ≡ depth_at o = omega (arith, d) in
        let came : came_back (serving_of i o at.line.number) (next_line s i from o r a) i.lines ≡ true =
        leads_from (is_answered_line (serving_of i o at.line.number)) (λ y. is_sent y.fate) (next_line s i from o r a) i.lines
        ∙ or_right (is_answered_line (serving_of i o at.line.number) (next_line s i from o r a)) _
        (and_true (is_sent (next_line s i from o r a).fate) _ (ap is_sent fate)
        (subst (λ (n : ℕ). leads_up (is_answered_line (serving_of i o at.line.number)) (λ y. is_sent y.fate) n i.lines ≡ true) (sym up)
        (leads_at (is_answered_line (serving_of i o at.line.number)) (λ y. is_sent y.fate) (depth_at o) i.lines at.line at.at_hand (and_true (at.line.number == at.line.number) true (number_itself at.line.number) refl)))) in
        subst (λ (xs : List Line). hears_by (λ y. y.number == (next_line s i from o r a).number) (serving_of i o at.line.number) xs ≡ true) (sym kept.keeps.grows.1)
        (some_stays (λ y earlier. (y.number == (next_line s i from o r a).number) && came_back (serving_of i o at.line.number) y earlier) kept.keeps.grows.0 (next_line s i from o r a ∷ i.lines)
        (or_left _ _ (and_true ((next_line s i from o r a).number == (next_line s i from o r a).number) _ (number_itself (next_line s i from o r a).number) came)))

    -- where an update was accepted since then, that is heard, or a reply was lost
    meanwhile_heard : (reply : Reply) → RightReply p s (asked_line (line_at (hand a (carried_for from o r)) (next_line s i from o r a).number) (length i.accepted)) j (is_spent most j) reply → Meanwhile i j (Hears reply)
    meanwhile_heard reply right = elim (true_or_false (asks_update from o r)) [
      | inr u ↦ inl (ap length (kept.reads u).accepted_same)
      | inl u ↦ elim (true_or_false (length j.accepted == length i.accepted)) [
        | inl e ↦ inl ((nat_same_decides (length j.accepted) (length i.accepted)).0 e)
        | inr other ↦ inr (by_case u other)
      ]
    ]
      where
        there_now : In (next_line s i from o r a) j.lines
        there_now = stands known p s most g from o r i before after a at may rests split so_far j kept

        updates : asks_update from o r ≡ true → is_update s.message.request.body ≡ true
        updates u = elim (true_or_false (is_update s.message.request.body)) [
          | inl e ↦ e
          | inr e ↦ (let f = each_off s e j.lines kept.keeps.licensed (next_line s i from o r a) there_now in absurd (let z : true ≡ false = sym u ∙ f in cc))
        ]

        body_is : asks_update from o r ≡ true → (carried_for from o r).request.body ≡ s.message.request.body
        body_is u = elim (each_of_update s (updates u) (fit_key s.message g.setting.first.fit) j.lines kept.keeps.licensed (next_line s i from o r a) there_now) [
          | inl read ↦ (let no = update_no_read (carried_for from o r).request.body u in absurd (let z : true ≡ false = sym read ∙ no in cc))
          | inr w ↦ w.0
        ]

        no_query : (b : Body) → is_update b ≡ true → is_query_below b ≡ false
        no_query (Read name selection) e = refl
        no_query (Compare name assertion) e = refl
        no_query (ListBelow name) e = cc
        no_query (Search base subset f selection) e = cc
        no_query (AddEntry name attributes) e = refl
        no_query (RemoveEntry name) e = refl
        no_query (ModifyEntry name changes) e = refl
        no_query (ModifyDn name rdn drops) e = refl

        going : asks_update from o r ≡ true → is_done (carried_for from o r).progress ≡ false
        going u =
            let placed = line_placed p s g j.lines (next_line s i from o r a) kept.keeps.licensed there_now in
            let fit = (both_true (same_name (target_of (carried_for from o r).request.body) (carried_for from o r).target) _ placed.fit).1 in
            elim (either_true (not (is_done (carried_for from o r).progress)) _ fit) [
              | inl e ↦ not_true (is_done (carried_for from o r).progress) e
              | inr e ↦ (let no = no_query (carried_for from o r).request.body u in absurd (let z : true ≡ false = sym e ∙ no in cc))
            ]

        none_of : (xs ys : List ℕ) → ((b : ℕ) → In b ys → In b xs) → is_empty xs ≡ true → (length xs == length ys) ≡ true
        none_of [] [] f e = refl
        none_of [] (y ∷ ys) f e = elim (f y here) [ ]
        none_of (x ∷ xs) ys f e = cc

        some : (length j.accepted == length i.accepted) ≡ false → is_empty j.accepted ≡ false
        some other = elim (true_or_false (is_empty j.accepted)) [
          | inr e ↦ e
          | inl e ↦ (let same = none_of j.accepted i.accepted kept.keeps.only_more e in absurd (let z : true ≡ false = sym same ∙ other in cc))
        ]

        by_case : asks_update from o r ≡ true → (length j.accepted == length i.accepted) ≡ false → (Hears reply ≡ Hears (Answered Changed)) ⊎ ((heard_whole j.lines ≡ false) ⊎ IsUnsaid (Hears reply))
        by_case u other = elim (accepted_meanwhile p s (asked_line (line_at (hand a (carried_for from o r)) (next_line s i from o r a).number) (length i.accepted)) j (is_spent most j) reply kept.keeps.accepted (some other) (body_is u) (going u) other right) [
          | inl e ↦ inl (ap Hears e)
          | inr w ↦ inr w
        ]

  settled_now : asks_update from o r ≡ true → list_all (is_settled_line p s (with_line (next_line s i from o r a) i)) i.lines ≡ true
  settled_now u = elim (rests.calm u) [
    | inl e ↦ absurd (let z : true ≡ false = sym e ∙ left in cc)
    | inr e ↦ all_grow (is_settled_line p s i) (is_settled_line p s (with_line (next_line s i from o r a) i))
        (λ l f. settled_stays p s i (with_line (next_line s i from o r a) i) (next_line s i from o r a ∷ []) refl (λ b m. m) (accepting_same known p s most g from o r i before after a at may rests split so_far) l f) i.lines e
  ]

  -- the reply may be followed
  module _ (j : Journal) (reply : Reply) (sv : ServedRight p s most (next_line s i from o r a) (hand a (carried_for from o r)) reply (with_line (next_line s i from o r a) i) j) where
    may_follow : MayFollow p s most (length i.accepted) (next_line s i from o r a) from (hand a (carried_for from o r)) reply j
    may_follow = record {
      heard = ap is_sent fate;
      sender_is = refl;
      right = sv.right;
      within = sv.within;
      at_once = sv.keeps.at_once;
      own = elim sv.own [ inl e ↦ inl e | inr w ↦ inr (w.0, w.2) ];
      left = λ e. let w = sv.left e in (
        w.0,
        w.1,
        ap (λ (y : Journal). siblings (depth_at (hand a (carried_for from o r))) y.lines) w.2 ∙ (comes_now known p s most g from o r i before after a at may rests split so_far left).alone,
        ap (λ (y : Journal). length y.accepted) (sym w.2),
      );
      sends = λ e. sends_by (sv.left e).1 from refl;
      chains = λ e q l sender c. chains_by from refl q l c;
    }

    rests_after : is_final reply ≡ false → Rests p s most (next_line s i from o r a) (asks_update from o r) j
    rests_after e = record {
      calm = λ u. elim sv.own [
        | inl spent ↦ inl spent
        | inr w ↦ inr (
            let back_then : j ≡ with_line (next_line s i from o r a) i = (sv.left e).2 in
            let mine : is_settled_line p s (with_line (next_line s i from o r a) i) (next_line s i from o r a) ≡ true = subst (λ (y : Journal). is_settled_line p s y (next_line s i from o r a) ≡ true) back_then w.1 in
            subst (λ (y : Journal). list_all (is_settled_line p s y) y.lines ≡ true) (sym back_then) (and_true _ _ mine (settled_now u))
            )
      ];
      none = λ u. (sv.keeps.reads u).accepted_same ∙ rests.none u;
      fresh = (sv.left e).3;
      at_once = sv.keeps.at_once;
    }

pub heard_right : NeededAgents → IsHeard
heard_right known p s most from o r i j l a reply last g left fate d serves e follows before after at may rests split so_far =
    let arrived : arrives (next_line s i from o r a).fate ≡ true = ap arrives fate in
    let at_now = at_hand_now known p s most g from o r i before after a at may rests split so_far arrived in
    let sv = serves at_now (comes_now known p s most g from o r i before after a at may rests split so_far left) in
    let fr = follows (length i.accepted) (at_hand_later p s most (hand a (carried_for from o r)) (with_line (next_line s i from o r a) i) j at_now sv.keeps.keeps)
    (may_follow known p s most g from o r i before after a at may rests split so_far left fate j reply sv)
    (rests_after known p s most g from o r i before after a at may rests split so_far left fate j reply sv) in
    let kept : KeepsAll p s most (hand a (carried_for from o r)) (asks_update from o r) (with_line (next_line s i from o r a) i) l =
    all_both p s most (hand a (carried_for from o r)) (asks_update from o r) (with_line (next_line s i from o r a) i) j l sv.keeps fr.keeps in
    let own : is_spent most l ≡ true ⊎ ((is_served s l (next_line s i from o r a) ≡ true) × (is_settled_line p s l (next_line s i from o r a) ≡ true)) =
    elim fr.served [
      | inl spent ↦ inl spent
      | inr served ↦ elim sv.own [
        | inl spent ↦ inl (spent_still most j l fr.keeps.keeps.grows spent)
        | inr w ↦ inr (served, settled_stays p s j l fr.keeps.keeps.grows.0 fr.keeps.keeps.grows.1 fr.keeps.keeps.only_more fr.keeps.keeps.same_line (next_line s i from o r a) w.1)
      ]
    ] in
    record {
      keeps = sent_keeps known p s most g from o r i before after a at may rests split so_far l kept own;
      only = only_it known p s most g from o r i before after a at may rests split so_far l kept;
      next = next_so_far known p s most g from o r i before after a at may rests split so_far l kept;
      heard = inl (
        next_line s i from o r a,
        refl,
        is_carried from (line_for o) r,
        record {
          stands = stands known p s most g from o r i before after a at may rests split so_far l kept;
          heard = ap is_sent fate;
          back = back known p s most g from o r i before after a at may rests split so_far left fate l kept;
          stood = length i.accepted;
          right = fr.right;
          followed = idle_is_followed s most (Follows from (hand a (carried_for from o r)) reply last) j l e;
          within = fr.within;
        },
        sent_there known p s most g from o r i before after a at may rests split so_far l kept,
        heard_there known p s most g from o r i before after a at may rests split so_far l kept (ap is_sent fate),
      );
      meanwhile = meanwhile_heard known p s most g from o r i before after a at may rests split so_far left fate l kept last fr.right;
    }
