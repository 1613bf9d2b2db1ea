-- An update at its master: each line of the request carries the update or is a probe's read, so the message at hand
-- asks for the scene's own target; and nothing was accepted, since only this agent could have.
use Rattle.std.proofs.Common.{◌≡◌, ℕ, nat_lt, ◌==◌, Bool, true, false, not, ◌&&◌, ◌||◌, ◌⊎◌, inl, inr, List, [], ◌∷◌, length, refl, sym, ap, subst, ◌∙◌, Some, if◌then◌else◌}
use Rattle.x5_model.specs.Words.{has, first_of, some_and}
use Rattle.x5_model.specs.Members.{In, here, there}
use Rattle.x5_model.specs.Values.{Name, key_of}
use Rattle.x5_model.specs.Requests.{Body, Read, Compare, ListBelow, Search, AddEntry, RemoveEntry, ModifyEntry, ModifyDn, Request}
use Rattle.x5_model.specs.References.{Reference, Chained}
use Rattle.x5_model.proofs.KeyLaws.{key_decides}
use Rattle.x5_model.proofs.Lists.{both_true, and_true, true_or_false, in_first, of_all, has_in}
use Rattle.x5_model.proofs.Decide.{nat_same_decides}
use Rattle.x5_model_tree.specs.Ask.{is_update}
use Rattle.x5_model_tree.specs.Apply.{apply}
use Rattle.std.specs.Result.{is_ok}
use Rattle.x5_model_run.specs.Journal.{Line, Journal, depth, operation_of, same_name, is_done, is_wide, settled, is_reached}
use Rattle.x5_model_run.specs.Holdings.{Holdings}
use Rattle.x5_model_run.specs.Needs.{target_of, resolves}
use Rattle.x5_model_run.specs.History.{Point, tree_at, holdings_at}
use Rattle.x5_model_run.specs.Chain.{Scene, AllLicensed, Caused, begins, later, is_user, is_probe, asks_part, probe_request, part_body, part_request, request_for}
use Rattle.x5_model_run.proofs.Carrying.{as_carried}
use Rattle.x5_model_run.specs.Right.{master_at, is_master_at, is_accepted_right}
use Rattle.x5_model_run.specs.Placed.{fits, is_query_below}
use Rattle.x5_model_updates.specs.Judging.{IsJudge}
use Rattle.x5_model_serve.specs.Finding as finding
use Rattle.x5_model_serve.specs.Finding.{find}
use Rattle.x5_model_serve.specs.Serving.{Hand, holds_now}
use Rattle.x5_model_serve.specs.Committed.{committed}
use Rattle.x5_model_serve.specs.Claims.{Setting, AtMaster}
use Rattle.x5_model_serve.proofs.Carrying.{resolving}
use Rattle.x5_model_verdicts.specs.Verdicts.{NoneAccepted}
use Rattle.x5_model_find.proofs.Owns.{here_is_judge}

-- ---- the lines of an update: they carry it, or are probes

abbrev pub is_entry_read : Body → Bool
is_entry_read body = operation_of body == 1

abbrev pub IsOfUpdate : Scene → Line → Type 0
IsOfUpdate s l = (is_entry_read l.message.request.body ≡ true) ⊎ ((l.message.request.body ≡ s.message.request.body) × (key_of l.message.target ≡ key_of (target_of s.message.request.body)))

abbrev pub form : Request → Bool → Name → Reference → Bool → Bool → Request
form asked user t r probe part = if probe then probe_request t else (if part then part_request user (is_wide r.kind) t asked else asked)

same_part : (wide : Bool) (t : Name) (body : Body) → is_update body ≡ true → part_body wide t body ≡ body
same_part wide t (Read name selection) u = refl
same_part wide t (Compare name assertion) u = refl
same_part wide t (ListBelow name) u = cc
same_part wide t (Search base subset f selection) u = cc
same_part wide t (AddEntry name attributes) u = refl
same_part wide t (RemoveEntry name) u = refl
same_part wide t (ModifyEntry name changes) u = refl
same_part wide t (ModifyDn name rdn drops) u = refl

read_part : (wide : Bool) (t : Name) (body : Body) → is_entry_read body ≡ true → is_entry_read (part_body wide t body) ≡ true
read_part wide t (Read name selection) u = refl
read_part wide t (Compare name assertion) u = cc
read_part wide t (ListBelow name) u = cc
read_part wide t (Search base subset f selection) u = cc
read_part wide t (AddEntry name attributes) u = cc
read_part wide t (RemoveEntry name) u = cc
read_part wide t (ModifyEntry name changes) u = cc
read_part wide t (ModifyDn name rdn drops) u = cc

carried_update : (user : Bool) (asked : Request) (t : Name) (r : Reference) → is_update asked.body ≡ true
    → (is_entry_read (request_for user asked t r).body ≡ true) ⊎ (((request_for user asked t r).body ≡ asked.body) × (same_name (target_of asked.body) t ≡ true))
carried_update user asked t r up = by (same_name (target_of asked.body) t) refl
  where
    abbrev_form : (b : Bool) → is_probe asked.body t ≡ b → request_for user asked t r ≡ form asked user t r b (asks_part r)
    abbrev_form b e = ap (λ (x : Bool). form asked user t r x (asks_part r)) e

    stays : (c : Bool) → (form asked user t r false c).body ≡ asked.body
    stays true = same_part (is_wide r.kind) t asked.body up
    stays false = refl

    by : (b : Bool) → same_name (target_of asked.body) t ≡ b → (is_entry_read (request_for user asked t r).body ≡ true) ⊎ (((request_for user asked t r).body ≡ asked.body) × (same_name (target_of asked.body) t ≡ true))
    by false e = inl (subst (λ (x : Request). is_entry_read x.body ≡ true) (sym (abbrev_form true (and_true (is_update asked.body) (not (same_name (target_of asked.body) t)) up (ap not e)))) refl)
    by true e =
        let no : is_probe asked.body t ≡ false = ap (λ (b : Bool). b && not (same_name (target_of asked.body) t)) up ∙ ap not e in
        inr (ap (λ (x : Request). x.body) (abbrev_form false no) ∙ stays (asks_part r), e)

carried_read : (user : Bool) (asked : Request) (t : Name) (r : Reference) → is_entry_read asked.body ≡ true → is_entry_read (request_for user asked t r).body ≡ true
carried_read user asked t r read = by (is_probe asked.body t) (asks_part r)
  where
    by : (b c : Bool) → is_entry_read (form asked user t r b c).body ≡ true
    by true c = refl
    by false true = read_part (is_wide r.kind) t asked.body read
    by false false = read

-- who opens stands in the journal
pub of_settled : (above : ℕ) (before : List Line) (o : Line) → first_of (settled above before) ≡ Some o → In o before
of_settled above [] o e = cc
of_settled above (l ∷ before) o e = go (nat_lt above (depth l)) e (of_settled above before o)
  where
    go : (b : Bool) → first_of (if b then settled above before else (l ∷ before)) ≡ Some o → (first_of (settled above before) ≡ Some o → In o before) → In o (l ∷ before)
    go true e f = there (f e)
    go false e f = (let same : l ≡ o = cc in subst (λ (x : Line). In x (l ∷ before)) same here)

module _ (s : Scene) (up : is_update s.message.request.body ≡ true) (fit : key_of s.message.target ≡ key_of (target_of s.message.request.body)) where
  of_cause : (before : List Line) (l : Line) → ((e : Line) → In e before → IsOfUpdate s e) → Caused s before l → IsOfUpdate s l
  of_cause before l ih (begins f) = inr (ap (λ (m : Chained). m.request.body) f.message_is, ap (λ (m : Chained). key_of m.target) f.message_is ∙ fit)
  of_cause before l ih (later f fresh) =
      elim (ih f.opener (of_settled f.above before f.opener f.opens)) [
        | inl read ↦ inl (subst (λ (x : Request). is_entry_read x.body ≡ true) (sym (as_carried l.sender f.opener f.reference l.message f.carries).request_is) (carried_read (is_user l.sender) f.opener.message.request l.message.target f.reference read))
        | inr w ↦
            let u : is_update f.opener.message.request.body ≡ true = ap (λ (b : Body). is_update b) w.0 ∙ up in
            elim (carried_update (is_user l.sender) f.opener.message.request l.message.target f.reference u) [
              | inl read ↦ inl (subst (λ (x : Request). is_entry_read x.body ≡ true) (sym (as_carried l.sender f.opener f.reference l.message f.carries).request_is) read)
              | inr v ↦ inr (
                ap (λ (x : Request). x.body) (as_carried l.sender f.opener f.reference l.message f.carries).request_is ∙ v.0 ∙ w.0,
                sym ((key_decides (key_of (target_of f.opener.message.request.body)) (key_of l.message.target)).0 v.1) ∙ ap (λ (b : Body). key_of (target_of b)) w.0,
              )
            ]
      ]

  pub each_of_update : (lines : List Line) → AllLicensed s lines → (l : Line) → In l lines → IsOfUpdate s l
  each_of_update [] all l i = elim i [ ]
  each_of_update (x ∷ before) all l i =
      elim (in_first l x before i) [
        | inl e ↦ subst (λ (y : Line). IsOfUpdate s y) (sym e) (of_cause before x (each_of_update before all.1) all.0.cause)
        | inr j ↦ each_of_update before all.1 l j
      ]

-- where the request of a scene is no update, no line carries one
module _ (s : Scene) (off : is_update s.message.request.body ≡ false) where
  stays_off : (wide : Bool) (t : Name) (body : Body) → is_update body ≡ false → is_update (part_body wide t body) ≡ false
  stays_off wide t (Read name selection) u = refl
  stays_off wide t (Compare name assertion) u = refl
  stays_off wide t (ListBelow name) u = refl
  stays_off wide t (Search base subset f selection) u = refl
  stays_off wide t (AddEntry name attributes) u = cc
  stays_off wide t (RemoveEntry name) u = cc
  stays_off wide t (ModifyEntry name changes) u = cc
  stays_off wide t (ModifyDn name rdn drops) u = cc

  carried_off : (user : Bool) (asked : Request) (t : Name) (r : Reference) → is_update asked.body ≡ false → is_update (request_for user asked t r).body ≡ false
  carried_off user asked t r u = by (is_probe asked.body t) (asks_part r)
    where
      by : (b c : Bool) → is_update (form asked user t r b c).body ≡ false
      by true c = refl
      by false true = stays_off (is_wide r.kind) t asked.body u
      by false false = u

  off_cause : (before : List Line) (l : Line) → ((e : Line) → In e before → is_update e.message.request.body ≡ false) → Caused s before l → is_update l.message.request.body ≡ false
  off_cause before l ih (begins f) = ap (λ (m : Chained). is_update m.request.body) f.message_is ∙ off
  off_cause before l ih (later f fresh) =
      subst (λ (x : Request). is_update x.body ≡ false) (sym (as_carried l.sender f.opener f.reference l.message f.carries).request_is) (carried_off (is_user l.sender) f.opener.message.request l.message.target f.reference (ih f.opener (of_settled f.above before f.opener f.opens)))

  pub each_off : (lines : List Line) → AllLicensed s lines → (l : Line) → In l lines → is_update l.message.request.body ≡ false
  each_off [] all l i = elim i [ ]
  each_off (x ∷ before) all l i =
      elim (in_first l x before i) [
        | inl e ↦ subst (λ (y : Line). is_update y.message.request.body ≡ false) (sym e) (off_cause before x (each_off before all.1) all.0.cause)
        | inr j ↦ each_off before all.1 l j
      ]

update_no_read : (body : Body) → is_update body ≡ true → is_entry_read body ≡ true → ⊥
update_no_read (Read name selection) u r = cc
update_no_read (Compare name assertion) u r = cc
update_no_read (ListBelow name) u r = cc
update_no_read (Search base subset f selection) u r = cc
update_no_read (AddEntry name attributes) u r = cc
update_no_read (RemoveEntry name) u r = cc
update_no_read (ModifyEntry name changes) u r = cc
update_no_read (ModifyDn name rdn drops) u r = cc

-- ---- at the master

pub fit_key : (m : Chained) → fits m ≡ true → key_of m.target ≡ key_of (target_of m.request.body)
fit_key m f =
    sym ((key_decides (key_of (target_of m.request.body)) (key_of m.target)).0 (both_true (same_name (target_of m.request.body) m.target) (not (is_done m.progress) || is_query_below m.request.body) f).0)

module _ (p : Point) (s : Scene) (k : Hand) (i : Journal) (set : Setting p s) (at : AtMaster p s k i) where
  not_yet : has ◌==◌ i.accepted k.receiver ≡ false
  not_yet = by (is_update k.message.request.body) (has ◌==◌ i.accepted k.receiver) (resolves (holds_now s i k) k.message) at.update (resolving s k i (finding.Here at.context) at.arrives at.update at.found (λ z. cc)) at.arrives.fresh
    where
      by : (a b c : Bool) → a ≡ true → c ≡ true → (a && (b && c)) ≡ false → b ≡ false
      by true true true e f g = g
      by true false c e f g = refl
      by true true false e f g = cc
      by false b c e f g = cc

  pub holds_is : holds_now s i k ≡ holdings_at p k.receiver
  holds_is =
      ap (λ (b : Bool). if b then committed s.message.request (s.holdings k.receiver) else s.holdings k.receiver) not_yet
      ∙ ap (λ (f : ℕ → Holdings). f k.receiver) set.holdings

  pub found_is : find (holdings_at p k.receiver) k.message ≡ finding.Here at.context
  found_is = ap (λ (h : Holdings). find h k.message) (sym holds_is) ∙ at.found

  pub judge : IsJudge p k.receiver k.message
  judge = here_is_judge p k.receiver k.message at.context set.whole (at.arrives.unrefused, at.arrives.fit) at.update found_is

  pub line_in : In at.at_hand.line i.lines
  line_in = of_settled (length k.message.trace) i.lines at.at_hand.line at.at_hand.at_hand

  line_update : is_update at.at_hand.line.message.request.body ≡ true
  line_update = ap (λ (m : Chained). is_update m.request.body) at.at_hand.message_is ∙ at.update

  pub scene_update : is_update s.message.request.body ≡ true
  scene_update =
      elim (true_or_false (is_update s.message.request.body)) [
        | inl t ↦ t
        | inr f ↦ absurd (let a = each_off s f i.lines at.at_hand.licensed at.at_hand.line line_in in let b = line_update in cc)
      ]

  pub scene_fit : key_of s.message.target ≡ key_of (target_of s.message.request.body)
  scene_fit = fit_key s.message set.first.fit

  pub scene_body : k.message.request.body ≡ s.message.request.body
  scene_body =
      elim (each_of_update s scene_update scene_fit i.lines at.at_hand.licensed at.at_hand.line line_in) [
        | inl read ↦ absurd (update_no_read at.at_hand.line.message.request.body line_update read)
        | inr w ↦ ap (λ (m : Chained). m.request.body) (sym at.at_hand.message_is) ∙ w.0
      ]

  pub scene_key : key_of s.message.target ≡ key_of k.message.target
  scene_key = scene_fit ∙ ap (λ (b : Body). key_of (target_of b)) (sym scene_body) ∙ sym (fit_key k.message at.arrives.fit)

  pub scene_master : master_at p (key_of s.message.target) ≡ Some k.receiver
  scene_master = ap (master_at p) scene_key ∙ judge.master

  pub none_yet : i.accepted ≡ []
  none_yet = by i.accepted refl
    where
      by : (xs : List ℕ) → i.accepted ≡ xs → i.accepted ≡ []
      by [] e = e
      by (a ∷ xs) e =
          let member : In a i.accepted = subst (λ (ys : List ℕ). In a ys) (sym e) here in
          let right = of_all (is_accepted_right p s i.lines) a i.accepted at.at_hand.accepted.right member in
          let r1 = both_true (is_update s.message.request.body) (is_reached i.lines a && (is_master_at p (key_of s.message.target) a && is_ok (apply (tree_at p) s.message.request))) right in
          let r2 = both_true (is_reached i.lines a) (is_master_at p (key_of s.message.target) a && is_ok (apply (tree_at p) s.message.request)) r1.1 in
          let r3 = both_true (is_master_at p (key_of s.message.target) a) (is_ok (apply (tree_at p) s.message.request)) r2.1 in
          let m : some_and (λ (x : ℕ). x == a) (Some k.receiver) ≡ true = ap (some_and (λ (x : ℕ). x == a)) (sym scene_master) ∙ r3.0 in
          let same : k.receiver ≡ a = (nat_same_decides k.receiver a).0 m in
          let yes : has ◌==◌ i.accepted k.receiver ≡ true = has_in ◌==◌ nat_same_decides k.receiver i.accepted (subst (λ (x : ℕ). In x i.accepted) (sym same) member) in
          let no = not_yet in
          absurd (let f : true ≡ false = sym yes ∙ no in cc)

pub none_accepted : NoneAccepted
none_accepted p s k i set at = none_yet p s k i set at
