-- The updates that are carried out at their master, case by case. What it needs is its probes, which it sends itself. Where
-- it accepts, the line at hand or a later one is the accepting line, and nothing was sent for a line that brings the
-- update there again, since probes are reads. Where it is refused, the tree refuses it too, so its line is settled.
use Rattle.std.proofs.Common.{◌≡◌, ℕ, ◌+◌, ◌-◌, ◌≤◌, nat_lt, Bool, true, false, not, ◌&&◌, ◌||◌, ◌==◌, if◌then◌else◌, inl, inr, List, [], ◌∷◌, length, reverse, refl, sym, ap, subst, ◌∙◌, arith, Option, Some, None, Ok, Err}
use Rattle.std.specs.Prelude.{IsTrue}
use Rattle.std.specs.List.{list_any, list_all}
use Rattle.std.specs.Result.{is_ok, is_err}
use Rattle.std.proofs.lemmas.Bool.Decides.{leb_tells}
use Rattle.x5_model.specs.Words.{is_empty, some_and, in_option, first_of}
use Rattle.x5_model.specs.Members.{In, here, there}
use Rattle.x5_model.specs.Values.{key_of}
use Rattle.x5_model.specs.Requests.{Body, Read, Compare, ListBelow, Search, AddEntry, RemoveEntry, ModifyEntry, ModifyDn, Request}
use Rattle.x5_model.specs.References.{Reference, Chained}
use Rattle.x5_model.specs.Answers.{DirError}
use Rattle.x5_model.proofs.Decide.{nat_same_decides, less_decides}
use Rattle.x5_model.proofs.Lists.{both_true, and_true, or_left, or_right, true_or_false, in_first, of_any, of_all, of_find}
use Rattle.x5_model_tree.specs.Ask.{Refuses, is_update, updated}
use Rattle.x5_model_tree.specs.Apply.{UpdatedEntries, Applied, apply, apply_over}
use Rattle.x5_model_run.specs.Network.{arrives}
use Rattle.x5_model_run.specs.Journal.{Line, Journal, depth, operation_of, is_done, settled, some_line}
use Rattle.x5_model_run.specs.Holdings.{Holdings, ground_at}
use Rattle.x5_model_run.specs.Needs.{subset_of, subset_in, by_pin, is_refused_here, due_probes, needs}
use Rattle.x5_model_run.specs.History.{Point, tree_at, holdings_at}
use Rattle.x5_model_run.specs.Chain.{Scene, AllLicensed, is_probe, is_probe_line}
use Rattle.x5_model_run.specs.Accepting.{may_accept, accepting, is_probed, is_later, is_done_before}
use Rattle.x5_model_run.specs.Covers.{told}
use Rattle.x5_model_run.specs.Right.{is_accepted_right, is_master_at, is_sent_later}
use Rattle.x5_model_run.specs.Thorough.{is_served, is_taken, is_stopped, taken_needs, is_sent_by, sends_itself, sender_follows}
use Rattle.x5_model_theory.proofs.Tests.{false_true}
use Rattle.x5_model_find.proofs.Deciding.{here_needs}
use Rattle.x5_model_joins.proofs.Backs.{numbers}
use Rattle.x5_model_updates.proofs.Outcomes.{ok_or_err}
use Rattle.x5_model_updates.proofs.Probes.{probe_is}
use Rattle.x5_model_updates.proofs.Judges.{refuses_alike}
use Rattle.x5_model_serve.specs.Serving.{Hand, with_accepted, is_spent, holds_now, judged}
use Rattle.x5_model_serve.specs.Claims.{Accepted, AtMaster, MayTake, AskedSoFar, last_number, is_due_line, is_settled_line, is_served_itself}
use Rattle.x5_model_verdicts.specs.Verdicts.{JustCame}
use Rattle.x5_model_verdicts.proofs.At.{holds_is, found_is, judge, of_settled, scene_update, scene_body, none_accepted}
use Rattle.x5_model_verdicts.proofs.Refused.{not_done, told_is, refusal_is_right}
use Rattle.x5_model_verdicts.proofs.Done.{applied, alone_is_right, probed_is_right}
use Rattle.x5_model_verdicts.proofs.Asked.{asks}
use Rattle.x5_model_verdicts.proofs.Probing.{line_needs}
use Rattle.x5_model_right.specs.Kept.{Ground, KeepsAll, Rests, Comes, is_sent_to}
use Rattle.x5_model_right.specs.Updated.{NotDone, DoesAlone, ProbesAll}
use Rattle.x5_model_right.proofs.Kept.{may_before, old_stay, old_line, unchanged}
use Rattle.x5_model_right.proofs.Adding.{some_is, in_reverse}
use Rattle.x5_model_right.proofs.Taking.{none_after}
use Rattle.x5_model_right.proofs.Leaves.{within_error}
use Rattle.x5_model_right.proofs.Probing.{is_probe_here}

-- ---- lists, and what is sent later

none_due : (xs : List Reference) → ((r : Reference) → In r xs → ⊥) → xs ≡ []
none_due [] f = refl
none_due (x ∷ xs) f = absurd (f x here)

none_later : (s : Scene) (j : Journal) (lines : List Line) → ((e : Line) → In e lines → is_done_before s j e ≡ false)
    → some_line (is_sent_later s j) lines ≡ false
none_later s j [] f = refl
none_later s j (l ∷ before) f = (λ q. none (first_of (settled (depth l - 1) before)) refl q || none_later s j before
    (λ e m. f e (there m)) q)
  where
    none : (o : Option Line) → first_of (settled (depth l - 1) before) ≡ o → some_and (is_done_before s j) o ≡ false
    none None e = refl
    none (Some x) e = f x (there (of_settled (depth l - 1) before x e))

off_last : (a b c : Bool) → c ≡ false → (a && (b && c)) ≡ false
off_last true true c e = e
off_last true false c e = refl
off_last false b c e = refl

update_alone : (m : Chained) → is_update m.request.body ≡ true → subset_of m ≡ None
update_alone m up = by m.request.body up
  where
    by : (b : Body) → is_update b ≡ true → subset_in (by_pin m) b ≡ None
    by (Read name selection) u = refl
    by (Compare name assertion) u = refl
    by (ListBelow name) u = cc
    by (Search base subset f selection) u = cc
    by (AddEntry name attributes) u = refl
    by (RemoveEntry name) u = refl
    by (ModifyEntry name changes) u = refl
    by (ModifyDn name rdn drops) u = refl

-- ---- at the master

module _ (p : Point) (s : Scene) (g : Ground p s) (k : Hand) (i : Journal) (at : AtMaster p s k i) where
  pub none_here : i.accepted ≡ []
  none_here = none_accepted p s k i g.setting at

  pub going : is_done k.message.progress ≡ false
  going = not_done (holdings_at p k.receiver) k.message (judge p s k i g.setting at).resolving

  -- what it needs is its probes
  pub needs_due : needs (s.holdings at.at_hand.line.receiver) at.at_hand.line.message ≡ due_probes (holds_now s i k) k.message
  needs_due =
      ap (λ (o : ℕ). needs (s.holdings o) at.at_hand.line.message) at.at_hand.receiver_is
      ∙ ap (needs (s.holdings k.receiver)) at.at_hand.message_is
      ∙ ap (λ (h : ℕ → Holdings). needs (h k.receiver) k.message) g.setting.holdings
      ∙ here_needs (holdings_at p k.receiver) k.message at.context (at.arrives.unrefused, at.arrives.fit) (found_is p s k i g.setting at)
      (update_alone k.message at.update)
      ∙ ap (λ (h : Holdings). due_probes h k.message) (sym (holds_is p s k i g.setting at))

  pub all_taken_by : (rs : List Reference) → due_probes (holds_now s i k) k.message ≡ rs → (test : Reference → Bool)
      → list_all test rs ≡ true → list_all test (taken_needs s at.at_hand.line) ≡ true
  all_taken_by rs due test e = by (is_stopped at.at_hand.line.receiver at.at_hand.line.message)
    where
      by : (b : Bool) → list_all test (if b then [] else needs (s.holdings at.at_hand.line.receiver) at.at_hand.line.message) ≡ true
      by true = refl
      by false = ap (list_all test) (needs_due ∙ due) ∙ e

  -- where the tree refuses the update no line is left to accept it
  pub refused_settles : (x : DirError) (j : Journal) (e : Line) → apply (tree_at p) k.message.request ≡ Err x
      → is_settled_line p s j e ≡ true
  refused_settles x j e h =
      let no : is_ok (apply (tree_at p) s.message.request) ≡ false = ap (λ (b : Body). is_ok (applied (tree_at p) b))
      (sym (scene_body p s k i g.setting at)) ∙ ap (λ (y : Applied). is_ok y) h in
      or_left (not (is_due_line p s j e)) (not (is_empty j.accepted))
      (ap not (off_last (may_accept s j.lines e.receiver e) (is_master_at p (key_of s.message.target) e.receiver) _ no))

  pub told_settles : (x : DirError) (j : Journal) (e : Line) → told (λ key. false) (tree_at p) k.message ≡ Refuses x
      → is_settled_line p s j e ≡ true
  told_settles x j e h = elim (ok_or_err (apply (tree_at p) k.message.request)) [
    | inr y ↦ refused_settles y.0 j e y.1
    | inl u ↦ absurd (let z : updated (Ok u.0) ≡ Refuses x = sym (ap updated u.1) ∙ sym (told_is p s k i g.setting at) ∙ h in cc)
  ]

  -- where it refuses the update it needs nothing
  pub refused_needs_none : (x : DirError) → judged s i k ≡ Err x → due_probes (holds_now s i k) k.message ≡ []
  refused_needs_none x h = none_due (due_probes (holds_now s i k) k.message) (λ r m.
      let passed = (probe_is (holds_now s i k) k.message r m).passed in
      let refused : is_refused_here (holds_now s i k) k.message.request ≡ true = ap (λ (y : UpdatedEntries). is_err y) h in
      let z : true ≡ false = sym refused ∙ passed in cc)

  -- nothing is needed, and nothing is left
  pub served_none : (j : Journal) → due_probes (holds_now s i k) k.message ≡ [] → is_settled_line p s j at.at_hand.line ≡ true
      → IsTrue (is_served_itself s j at.at_hand.line) × IsTrue (is_settled_line p s j at.at_hand.line)
      × IsTrue (is_served s j at.at_hand.line)
  served_none j none calm = (
    or_right (is_done_before s j at.at_hand.line) _ (all_taken_by [] none
        (λ r. not (sends_itself s at.at_hand.line r) || is_taken s j.lines at.at_hand.line r) refl),
    calm,
    or_right (not (arrives at.at_hand.line.fate)) _ (or_right (is_done_before s j at.at_hand.line) _
        (all_taken_by [] none (is_taken s j.lines at.at_hand.line) refl)),
  )

pub not_done_right : NotDone
not_done_right p s most k j x g h at comes =
    let none = refused_needs_none p s g k j at x h in
    let mine : apply_over (ground_at k.message.request (holdings_at p k.receiver)) k.message.request.body ≡ Err x =
    ap (λ (y : Holdings). apply_over (ground_at k.message.request y) k.message.request.body) (sym (holds_is p s k j g.setting at)) ∙ h in
    let calm = refused_settles p s g k j at x j at.at_hand.line
    (refuses_alike p k.receiver k.message x (judge p s k j g.setting at) mine) in
    let w = served_none p s g k j at j none calm in
    record {
      keeps = unchanged p s most k (is_update k.message.request.body) j at.at_hand.licensed at.at_hand.accepted comes.at_once;
      right = refusal_is_right p s k j x (is_spent most j) g.setting at h;
      within = within_error p k at.at_hand.line.number (length j.accepted) x (going p s g k j at);
      own = inr (w.0, w.1, λ e. w.2);
      left = λ e. cc;
    }

-- ---- it is accepted

module _ (p : Point) (s : Scene) (most : ℕ) (g : Ground p s) (k : Hand) (i j : Journal) (at : AtMaster p s k i)
    (came : JustCame p s at.at_hand.line i) (kept : KeepsAll p s most k false i j)
    (accepted : Accepted p s (with_accepted k.receiver j)) where
  none_then : j.accepted ≡ []
  none_then = (kept.reads refl).accepted_same ∙ none_here p s g k i at

  by_line : (y : Line) × (accepting s j.lines k.receiver ≡ Some y)
  by_line = some_is (is_probed s j.lines) (accepting s j.lines k.receiver)
      (of_all (λ c. some_and (is_probed s j.lines) (accepting s j.lines c)) k.receiver (k.receiver ∷ j.accepted) accepted.probed here)

  of_line : In by_line.0 (reverse j.lines) × (may_accept s j.lines k.receiver by_line.0 ≡ true)
  of_line = of_find (may_accept s j.lines k.receiver) by_line.0 (reverse j.lines) by_line.1

  line_stands : In by_line.0 j.lines
  line_stands = in_reverse j.lines by_line.0 of_line.0

  -- none of those before it may accept
  not_before : In by_line.0 came.before → ⊥
  not_before m =
      let may : may_accept s i.lines k.receiver by_line.0 ≡ true = may_before s i.lines kept.keeps.grows.0 k.receiver by_line.0
      (subst (λ (xs : List Line). may_accept s xs k.receiver by_line.0 ≡ true) kept.keeps.grows.1 of_line.1) in
      let to : by_line.0.receiver ≡ k.receiver = (nat_same_decides by_line.0.receiver k.receiver).0
      (both_true (by_line.0.receiver == k.receiver) _ may).0 in
      let r = of_all (is_accepted_right p s j.lines) k.receiver (k.receiver ∷ j.accepted) accepted.right here in
      let master = (both_true _ _ (both_true (is_update s.message.request.body) _ r).1).1 in
      let due : is_due_line p s i by_line.0 ≡ true =
      and_true (may_accept s i.lines by_line.0.receiver by_line.0) _
      (subst (λ (n : ℕ). may_accept s i.lines n by_line.0 ≡ true) (sym to) may)
      (subst (λ (n : ℕ). (is_master_at p (key_of s.message.target) n && is_ok (apply (tree_at p) s.message.request)) ≡ true)
      (sym to) master) in
      let calm : is_settled_line p s i by_line.0 ≡ true = of_all (is_settled_line p s i) by_line.0 came.before came.all_settled m in
      let off : is_settled_line p s i by_line.0 ≡ false = (λ q. not (due q) || not (is_empty (none_here p s g k i at q))) in
      false_true (sym off ∙ calm)

  last_is : at.at_hand.line.number ≡ last_number s i
  last_is =
      let all : AllLicensed s (at.at_hand.line ∷ came.before) = subst (AllLicensed s) came.newest at.at_hand.licensed in
      let number : at.at_hand.line.number ≡ s.sent + length came.before + 1 = all.0.number_is in
      let long : length i.lines ≡ length (at.at_hand.line ∷ came.before) = ap length came.newest in
      omega (arith, number, long)

  no_earlier : last_number s i ≤ by_line.0.number
  no_earlier = elim (leb_tells by_line.0.number (last_number s i)) [
    | inr f ↦ (let more = f.1 in omega (arith, more))
    | inl t ↦
        let old : In by_line.0 i.lines = old_line s kept.keeps.grows.0 i.lines by_line.0
        (subst (λ (xs : List Line). AllLicensed s xs) kept.keeps.grows.1 kept.keeps.licensed)
        (subst (λ (xs : List Line). In by_line.0 xs) kept.keeps.grows.1 line_stands) t.1 in
        elim (in_first by_line.0 at.at_hand.line came.before (subst (λ (xs : List Line). In by_line.0 xs) came.newest old)) [
          | inl same ↦ (let n : by_line.0.number ≡ at.at_hand.line.number = ap
              (λ (x : Line). x.number) same in let last = last_is in omega (arith, n, last))
          | inr m ↦ absurd (not_before m)
        ]
  ]

  -- no line brought the update again
  not_again : (e : Line) → In e j.lines → is_done_before s (with_accepted k.receiver j) e ≡ false
  not_again e m = elim (true_or_false (is_done_before s (with_accepted k.receiver j) e)) [
    | inr f ↦ f
    | inl t ↦
        let x = of_any (λ a. some_and (is_later s a e) (accepting s j.lines a)) (k.receiver ∷ j.accepted) t in
        let mine : x.0 ≡ k.receiver = elim (in_first x.0 k.receiver j.accepted x.1) [
          | inl same ↦ same
          | inr n ↦ elim
              (subst (λ (xs : List ℕ). In x.0 xs) none_then n) [ ]
        ] in
        let again : some_and (is_later s k.receiver e) (accepting s j.lines k.receiver) ≡ true = subst
        (λ (a : ℕ). some_and (is_later s a e) (accepting s j.lines a) ≡ true) mine x.2 in
        let later : is_later s k.receiver e by_line.0 ≡ true = sym (ap (some_and (is_later s k.receiver e)) by_line.1) ∙ again in
        let both = both_true (nat_lt by_line.0.number e.number) _ (both_true (e.receiver == k.receiver) _ later).1 in
        elim ((kept.reads refl).lines e m) [
          | inr off ↦ (let on = both.1 in let z : true ≡ false = sym on ∙ off in cc)
          | inl old ↦
              let low = numbers s i.lines at.at_hand.licensed e old in
              let less = (less_decides by_line.0.number e.number).0 both.0 in
              let least = no_earlier in
              absurd (omega (arith, low, less, least))
        ]
  ]

  pub all_accepting : KeepsAll p s most k (is_update k.message.request.body) i (with_accepted k.receiver j)
  all_accepting = record {
    keeps = record {
      licensed = kept.keeps.licensed;
      settled_is = kept.keeps.settled_is;
      grows = kept.keeps.grows;
      only_more = λ a m. there (kept.keeps.only_more a m);
      same_line = kept.keeps.same_line;
      accepted = accepted;
      finished = elim kept.keeps.finished [
        | inl e ↦ inl e
        | inr f ↦ inr (old_stay p s j (with_accepted k.receiver j) [] refl (λ a m. there m) (λ a m. refl) (last_number s i) j.lines f)
      ];
      reads = λ e. absurd (let up = at.update in let z : true ≡ false = sym up ∙ e in cc);
    };
    since = λ a m. elim (in_first a k.receiver j.accepted m) [
      | inl same ↦ inr (by_line.0, subst (λ (b : ℕ). accepting s j.lines b ≡ Some by_line.0) (sym same) by_line.1, no_earlier)
      | inr n ↦ elim (subst (λ (xs : List ℕ). In a xs) none_then n) [ ]
    ];
    at_once = ap not (none_later s (with_accepted k.receiver j) j.lines not_again);
    reads = λ e. absurd (let up = at.update in let z : true ≡ false = sym up ∙ e in cc);
  }

pub does_alone_right : DoesAlone
does_alone_right p s most k j mine g h due at comes =
    let came = comes.came at.update in
    let t = alone_is_right p s k j mine (is_spent most j) g.setting at came h due in
    let w = served_none p s g k j at (with_accepted k.receiver j) due
    (or_right (not (is_due_line p s (with_accepted k.receiver j) at.at_hand.line)) _ refl) in
    record {
      keeps = all_accepting p s most g k j j at came
          (unchanged p s most k false j at.at_hand.licensed at.at_hand.accepted comes.at_once) t.1;
      right = t.0;
      within = λ u b m. elim m [ ];
      own = inr (w.0, w.1, λ e. w.2);
      left = λ e. cc;
    }

-- ---- its probes

module _ (p : Point) (s : Scene) (g : Ground p s) (k : Hand) (i : Journal) (at : AtMaster p s k i) (r : Reference)
    (due : due_probes (holds_now s i k) k.message ≡ r ∷ []) where
  pub may_probe : MayTake s (Some k.receiver) k r i
  may_probe = record {
    needed = subst (λ (xs : List Reference). In r xs)
        (sym (line_needs p s k i g.setting at r due) ∙ ap (λ (o : ℕ). needs (s.holdings o) at.at_hand.line.message) at.at_hand.receiver_is
        ∙ ap (needs (s.holdings k.receiver)) at.at_hand.message_is) here;
    sender_is = λ e f.
        let q : Some at.at_hand.line ≡ Some e = sym at.at_hand.at_hand ∙ f in
        let same : at.at_hand.line ≡ e = cc in
        or_left (k.receiver == e.receiver) _ ((nat_same_decides k.receiver e.receiver).1
        (sym at.at_hand.receiver_is ∙ ap (λ (l : Line). l.receiver) same));
    chains = λ l sender c.
        or_left (is_probe_line s l) _ (and_true (is_update s.message.request.body) _ (scene_update p s k i g.setting at)
        (ap (λ (q : Request). operation_of q.body == 1) (asks p s k i g.setting at r due (Some k.receiver) l.message r.agents c)));
  }

  pub rests_before : (most : ℕ) → Comes p s k at.at_hand.line i → Rests p s most at.at_hand.line false i
  rests_before most comes = record {
    calm = λ e. cc;
    none = λ e. none_here p s g k i at;
    fresh = ap (list_any (λ a. some_and (is_later s a at.at_hand.line) (accepting s i.lines a))) (none_here p s g k i at);
    at_once = comes.at_once;
  }

  pub asked_none : Comes p s k at.at_hand.line i → AskedSoFar s k r i []
  asked_none comes = record {
    passed = λ e f a m. elim m [ ];
    only = λ l m agent carried. elim (subst (λ (xs : List Line). In l xs) comes.alone m) [ ];
  }

  -- it takes its probe itself
  probe_there : is_probe at.at_hand.line.message.request.body r.target ≡ true
  probe_there = ap (λ (m : Chained). is_probe m.request.body r.target) at.at_hand.message_is ∙ is_probe_here p s g k i at r due

  taken_by : (j : Journal) → ((b : ℕ) → first_of r.agents ≡ Some b
      → is_sent_to j.lines at.at_hand.line.number (Some k.receiver) r b ≡ true) → is_taken s j.lines at.at_hand.line r ≡ true
  taken_by j f =
      ap (λ (b : Bool). if b then is_sent_by j.lines at.at_hand.line (Some at.at_hand.line.receiver) r else not
      (sender_follows s at.at_hand.line) || is_sent_by j.lines at.at_hand.line at.at_hand.line.sender r)
      (or_left (is_probe at.at_hand.line.message.request.body r.target) _ probe_there)
      ∙ ap (λ (n : ℕ). is_sent_by j.lines at.at_hand.line (Some n) r) at.at_hand.receiver_is
      ∙ by (first_of r.agents) refl
    where
      by : (o : Option ℕ) → first_of r.agents ≡ o → in_option true (λ b. is_sent_to j.lines at.at_hand.line.number
          (Some k.receiver) r b) o ≡ true
      by None e = refl
      by (Some b) e = f b e

  -- nothing else is needed
  pub served_probed : (j : Journal) → ((b : ℕ) → first_of r.agents ≡ Some b
      → is_sent_to j.lines at.at_hand.line.number (Some k.receiver) r b ≡ true) → is_settled_line p s j at.at_hand.line ≡ true
      → IsTrue (is_served_itself s j at.at_hand.line) × IsTrue (is_settled_line p s j at.at_hand.line)
      × IsTrue (is_served s j at.at_hand.line)
  served_probed j f calm =
      let taken = taken_by j f in (
        or_right (is_done_before s j at.at_hand.line) _ (all_taken_by p s g k i at (r ∷ []) due
            (λ q. not (sends_itself s at.at_hand.line q) || is_taken s j.lines at.at_hand.line q)
            (and_true _ true (or_right (not (sends_itself s at.at_hand.line r)) _ taken) refl)),
        calm,
        or_right (not (arrives at.at_hand.line.fate)) _ (or_right (is_done_before s j at.at_hand.line) _
            (all_taken_by p s g k i at (r ∷ []) due (is_taken s j.lines at.at_hand.line)
            (and_true (is_taken s j.lines at.at_hand.line r) true taken refl))),
      )

pub probes_all_right : ProbesAll
probes_all_right p s most k i j mine r g h due d probes at comes =
    let came = comes.came at.update in
    let t = probes [] at due (may_probe p s g k i at r due) (rests_before p s g k i at r due most comes) (sym (none_after r.agents))
    (asked_none p s g k i at r due comes) in
    let v = probed_is_right p s most k i j mine r (is_spent most j) g.setting at came h due t.keeps.keeps
    (t.keeps.reads refl).accepted_same t.noted_so_far in
    let w = served_probed p s g k i at r due (with_accepted k.receiver j) t.first
    (or_right (not (is_due_line p s (with_accepted k.receiver j) at.at_hand.line)) _ refl) in
    record {
      keeps = all_accepting p s most g k i j at came t.keeps v.1;
      right = v.0;
      within = λ u b m. elim m [ ];
      own = inr (w.0, w.1, λ e. w.2);
      left = λ e. cc;
    }
