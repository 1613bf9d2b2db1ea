-- Serving a message where nothing is sent: it can't come again, nor be too long, nor not fit, since it is placed; what is
-- refused by the request alone is refused by the tree; who can't go on is unable; and where no entry is found the tree
-- has none. Nothing more is needed, so all is taken. An agent that may not chain leaves what it needs to its sender.
use Rattle.std.proofs.Common.{◌≡◌, ℕ, ◌+◌, ◌<◌, nat_le, nat_lt, Bool, true, false, not, ◌&&◌, ◌||◌, ◌==◌, if◌then◌else◌, inl, inr, List, [], ◌∷◌, length, refl, sym, ap, subst, ◌∙◌, arith, Option, Some, None}
use Rattle.std.specs.Option.{is_some, is_none}
use Rattle.std.specs.Result.{is_ok}
use Rattle.std.specs.List.{list_all}
use Rattle.x5_model.specs.Words.{has, some_and}
use Rattle.x5_model.specs.Members.{In, here, there}
use Rattle.x5_model.specs.Keys.{Key}
use Rattle.x5_model.specs.Values.{Name, key_of}
use Rattle.x5_model.specs.Entries.{Named}
use Rattle.x5_model.specs.References.{TraceItem, Reference, Chained}
use Rattle.x5_model.specs.Answers.{DirError, NoSuchObject, AttributeProblem, UpdateProblem, ServiceProblem, Reply, Failed}
use Rattle.x5_model.specs.Statics.{fault_of}
use Rattle.x5_model.proofs.KeyLaws.{key_decides}
use Rattle.x5_model.proofs.Decide.{nat_same_decides}
use Rattle.x5_model.proofs.Lists.{both_true, and_true, either_true, not_true, or_left, or_right, true_or_false}
use Rattle.x5_model_tree.specs.Tree.{Tree, lowest}
use Rattle.x5_model_tree.specs.Ask.{Refuses, is_update, ask_marked}
use Rattle.x5_model_tree.specs.Apply.{Applied, ground_of, apply}
use Rattle.x5_model_run.specs.Network.{arrives}
use Rattle.x5_model_run.specs.Journal.{Journal, depth, operation_of, same_name, same_item, item_of, is_done}
use Rattle.x5_model_run.specs.Holdings.{Held, Holdings}
use Rattle.x5_model_run.specs.Needs.{target_of, is_unable, needs}
use Rattle.x5_model_run.specs.History.{Point, knowledge_at, tree_at, holdings_at}
use Rattle.x5_model_run.specs.Chain.{Scene}
use Rattle.x5_model_run.specs.Accepting.{carries_update, may_accept, is_done_before}
use Rattle.x5_model_run.specs.Covers.{told}
use Rattle.x5_model_run.specs.Right as right
use Rattle.x5_model_run.specs.Right.{master_at, is_master_at, first_level_at, hears_of, hears_master, hears_nssr, hears_below, nssr_agents, is_told, accepts_none}
use Rattle.x5_model_run.specs.Placed.{fits}
use Rattle.x5_model_replies.specs.Replies.{RightReply, usual}
use Rattle.x5_model_run.specs.Thorough.{is_taken, is_stopped, taken_needs, sends_itself}
use Rattle.x5_model_theory.proofs.Stages.{no_loop}
use Rattle.x5_model_updates.proofs.Outcomes.{ok_or_err, tree_made, accepted_over}
use Rattle.x5_model_serve.specs.Finding.{Found, Here, Nowhere, Stuck, IsLooked, find}
use Rattle.x5_model_serve.specs.Serving.{Hand, is_final, is_spent}
use Rattle.x5_model_serve.specs.Claims.{AtHand, LiesWithin, is_due_line, is_settled_line, serving_of, asked_line, line_at, depth_at}
use Rattle.x5_model_find.specs.Finds.{Ends, at_none, at_entry}
use Rattle.x5_model_find.proofs.Nowhere.{nowhere_is_told}
use Rattle.x5_model_find.proofs.Deciding.{nothing_needed}
use Rattle.x5_model_find.proofs.Orderly.{holdings_orderly}
use Rattle.x5_model_joins.proofs.Backs.{own_back, own_answered}
use Rattle.x5_model_joins.proofs.Local.{no_fault}
use Rattle.x5_model_verdicts.proofs.At.{each_of_update, fit_key}
use Rattle.x5_model_passing.proofs.Due.{others_are_settled}
use Rattle.x5_model_right.specs.Kept.{Ground, Comes}
use Rattle.x5_model_right.specs.Journeys.{NeededAgents}
use Rattle.x5_model_right.specs.Claim.{ServedRight}
use Rattle.x5_model_right.specs.Served.{Loops, IsLong, Unfit, Refused, IsNowhere}
use Rattle.x5_model_lasting.proofs.Finishing.{is_at_most}
use Rattle.x5_model_right.proofs.Kept.{unchanged, line_there}
use Rattle.x5_model_right.proofs.Journeys.{sound, placed_here, line_placed, agent_here}
use Rattle.x5_model_right.proofs.Adding.{update_no_read}
use Rattle.x5_model_right.proofs.Finding.{looked, found_same, found_is, able}

-- ---- what can't be

pub item_there : (xs : List TraceItem) (x : TraceItem) → has same_item xs x ≡ true → (y : TraceItem) × In y xs × (same_item y x ≡ true)
item_there [] x e = cc
item_there (y ∷ ys) x e = elim (either_true (same_item y x) _ e) [
  | inl same ↦ (y, here, same)
  | inr more ↦ (let w = item_there ys x more in (w.0, there w.1, w.2))
]

pub loops_right : Loops
loops_right p s most k j g e at comes =
    let w = item_there k.message.trace (item_of k.receiver k.message) e in
    absurd (no_loop p k.message k.receiver w.0 (placed_here p s g k j at) w.1 w.2)

pub long_right : IsLong
long_right p s most k j g e long at comes =
    let short = g.short j.lines at.line at.licensed (line_there p s k j at) in
    let same : depth at.line ≡ depth_at k = ap (λ (m : Chained). length m.trace) at.message_is in
    let far = is_at_most 128 (length k.message.trace) long in
    absurd (omega (arith, short, same, far))

pub unfit_right : Unfit
unfit_right p s most k j g a b c d unfit at comes =
    let fit = (placed_here p s g k j at).fit in
    absurd (let z : true ≡ false = sym fit ∙ unfit in cc)

-- ---- with nothing needed

module _ (p : Point) (s : Scene) (most : ℕ) (g : Ground p s) (k : Hand) (j : Journal) (at : AtHand p s k j) (comes : Comes p s k at.line j) where
  line_in : In at.line j.lines
  line_in = line_there p s k j at

  pub all_taken : needs (s.holdings k.receiver) k.message ≡ [] → (test : Reference → Bool) → list_all test (taken_needs s at.line) ≡ true
  all_taken none test = by (is_stopped at.line.receiver at.line.message)
    where
      same : needs (s.holdings at.line.receiver) at.line.message ≡ []
      same = ap (λ (n : ℕ). needs (s.holdings n) at.line.message) at.receiver_is ∙ ap (needs (s.holdings k.receiver)) at.message_is ∙ none

      by : (b : Bool) → list_all test (if b then [] else needs (s.holdings at.line.receiver) at.line.message) ≡ true
      by true = refl
      by false = ap (list_all test) same

  pub with_nothing : (reply : Reply) → RightReply p s (serving_of j k at.line.number) j (is_spent most j) reply → LiesWithin p (serving_of j k at.line.number) reply → needs (s.holdings k.receiver) k.message ≡ []
      → is_settled_line p s j at.line ≡ true → is_final reply ≡ true → ServedRight p s most at.line k reply j j
  with_nothing reply right_one within none calm last = record {
    keeps = unchanged p s most k (is_update k.message.request.body) j at.licensed at.accepted comes.at_once;
    right = right_one;
    within = within;
    own = inr (
      or_right (is_done_before s j at.line) _ (all_taken none (λ r. not (sends_itself s at.line r) || is_taken s j.lines at.line r)),
      calm,
      λ e. or_right (not (arrives at.line.fate)) _ (or_right (is_done_before s j at.line) _ (all_taken none (is_taken s j.lines at.line))),
    );
    left = λ e. absurd (let z : true ≡ false = sym last ∙ e in cc);
  }

  -- an update isn't refused by itself where it is due
  due_faultless : is_due_line p s j at.line ≡ true → fault_of k.message.request.body ≡ None
  due_faultless due =
      let a = both_true (may_accept s j.lines at.line.receiver at.line) _ due in
      let b = both_true (at.line.receiver == at.line.receiver) _ a.0 in
      let c = both_true (arrives at.line.fate) _ b.1 in
      let d = both_true (carries_update s at.line) _ c.1 in
      let u = both_true (is_update s.message.request.body) _ d.0 in
      let m = both_true (is_master_at p (key_of s.message.target) at.line.receiver) _ a.1 in
      elim (ok_or_err (apply (tree_at p) s.message.request)) [
        | inr y ↦ (let z : is_ok (apply (tree_at p) s.message.request) ≡ false = ap (λ (x : Applied). is_ok x) y.1 in absurd (let w : true ≡ false = sym m.1 ∙ z in cc))
        | inl y ↦
            let made = tree_made (tree_at p) y.0 s.message.request y.1 in
            let ok = accepted_over (ground_of (tree_at p)) s.message.request.body y.0.entries made.0 in
            elim (each_of_update s u.0 (fit_key s.message g.setting.first.fit) j.lines at.licensed at.line line_in) [
              | inl read ↦
                  let same : (operation_of at.line.message.request.body == operation_of s.message.request.body) ≡ true = u.1 in
                  let op : operation_of at.line.message.request.body ≡ operation_of s.message.request.body = (nat_same_decides _ _).0 same in
                  let yes : (operation_of s.message.request.body == 1) ≡ true = ap (λ (n : ℕ). n == 1) (sym op) ∙ read in
                  let no = update_no_read s.message.request.body u.0 in
                  absurd (let w : true ≡ false = sym yes ∙ no in cc)
              | inr same ↦ ap (λ (q : Chained). fault_of q.request.body) (sym at.message_is) ∙ ap fault_of same.0 ∙ ok.0
            ]
      ]

  pub settled_unless : (is_due_line p s j at.line ≡ true → ⊥) → is_settled_line p s j at.line ≡ true
  settled_unless never = elim (true_or_false (is_due_line p s j at.line)) [
    | inr e ↦ or_left (not (is_due_line p s j at.line)) _ (ap not e)
    | inl e ↦ absurd (never e)
  ]

  -- where anything but a context of its own is found
  pub settled_elsewhere : IsLooked k.message → (f : Found) → find (holdings_at p k.receiver) k.message ≡ f → ((c : Held) → f ≡ Here c → ⊥) → is_settled_line p s j at.line ≡ true
  settled_elsewhere look f found other =
      others_are_settled p s at.line j (record {
        setting = g.setting;
        licensed = at.licensed;
        stands = line_in;
        placed = line_placed p s g j.lines at.line at.licensed line_in;
        short = not_long (length at.line.message.trace) (g.short j.lines at.line at.licensed line_in);
        looked = subst IsLooked (sym at.message_is) look;
      }) (λ c e. other c (sym (ap (λ (n : ℕ). find (holdings_at p n) at.line.message) at.receiver_is ∙ ap (find (holdings_at p k.receiver)) at.message_is ∙ found) ∙ e))
    where
      not_long : (n : ℕ) → n < 128 → nat_le 128 n ≡ false
      not_long n h = elim (true_or_false (nat_le 128 n)) [ inr e ↦ e | inl e ↦ (let m = is_at_most 128 n e in absurd (omega (arith, m, h))) ]

-- ---- refused by the request alone

no_needs : (h : Holdings) (m : Chained) (x : DirError) → fault_of m.request.body ≡ Some x → needs h m ≡ []
no_needs h m x e = rw e refl

early : (m : Chained) (x : DirError) → fits m ≡ true → fault_of m.request.body ≡ Some x → is_done m.progress ≡ false
early m x fit e = elim (either_true (not (is_done m.progress)) _ (both_true (same_name (target_of m.request.body) m.target) _ fit).1) [
  | inl f ↦ not_true (is_done m.progress) f
  | inr q ↦ (let none = no_fault m.request.body q in let z : Some x ≡ None = sym e ∙ none in cc)
]

told_fault : (copies : Key → Bool) (t : Tree) (m : Chained) (x : DirError) → is_done m.progress ≡ false → fault_of m.request.body ≡ Some x → told copies t m ≡ Refuses x
told_fault copies t m x early_one e = (let a : told copies t m ≡ ask_marked copies t m.request = rw early_one refl in a ∙ rw e refl)

-- an error of a message that still resolves its name leaves nothing out
pub within_error : (p : Point) (k : Hand) (n stood : ℕ) (x : DirError) → is_done k.message.progress ≡ false → LiesWithin p (asked_line (line_at k n) stood) (Failed x)
within_error p k n stood (NoSuchObject name) e = tt
within_error p k n stood (AttributeProblem a kind) e = tt
within_error p k n stood (UpdateProblem a) e = tt
within_error p k n stood (ServiceProblem a None i) e = tt
within_error p k n stood (ServiceProblem a (Some r) i) e = λ f. absurd (let z : true ≡ false = sym f ∙ e in cc)

pub refused_right : Refused
refused_right p s most k j x g a b c fault at comes =
    let placed_at = placed_here p s g k j at in
    let going : is_done k.message.progress ≡ false = early k.message x placed_at.fit fault in
    let not_unable : is_unable (s.holdings k.receiver) k.message ≡ false = unfaulted (nat_lt (length k.message.trace) 128) (is_none (fault_of k.message.request.body)) _ (ap (λ (o : Option DirError). is_none o) fault) in
    with_nothing p s most g k j at comes (Failed x)
    (usual (ap not not_unable)
    (right.error (own_answered at.line (length j.accepted) j.lines (line_there p s k j at)) (told_fault (λ key. false) (tree_at p) k.message x going fault)
    (or_left (is_some (fault_of k.message.request.body)) _ (ap (λ (o : Option DirError). is_some o) fault)) ((nat_same_decides (length j.accepted) (length j.accepted)).1 refl)))
    (within_error p k at.line.number (length j.accepted) x going)
    (no_needs (s.holdings k.receiver) k.message x fault)
    (settled_unless p s most g k j at comes (λ due. (let none = due_faultless p s most g k j at comes due in let z : Some x ≡ None = sym fault ∙ none in cc)))
    refl
  where
    unfaulted : (x y z : Bool) → y ≡ false → (x && (y && z)) ≡ false
    unfaulted true true z e = cc
    unfaulted true false z e = refl
    unfaulted false y z e = refl

-- ---- no such entry

pub nowhere_right : NeededAgents → IsNowhere
nowhere_right known p s most k j n g a e at comes =
    let free : Nowhere n ≡ Stuck → ⊥ = λ z. cc in
    let look = looked p s g k j at comes.none a (Nowhere n) e free in
    let found = found_is p s g k j at comes.none a (Nowhere n) e free in
    let same = found_same p s g k j at comes.none a (Nowhere n) e free in
    let t = nowhere_is_told p k.receiver k.message n g.setting.whole (agent_here p s g k j at known) look found in
    let none : needs (s.holdings k.receiver) k.message ≡ [] =
    ap (λ (h : ℕ → Holdings). needs (h k.receiver) k.message) g.setting.holdings ∙ nothing_needed (holdings_at p k.receiver) k.message (holdings_orderly p k.receiver (sound p s g)) look (inl (n, found)) in
    with_nothing p s most g k j at comes (Failed (NoSuchObject n))
    (usual (ap not (able p s g k j at comes.none a (Nowhere n) e free))
    (right.error (own_answered at.line (length j.accepted) j.lines (line_there p s k j at)) t.0
    (or_right (is_some (fault_of k.message.request.body)) _ (known_by n t.1))
    ((nat_same_decides (length j.accepted) (length j.accepted)).1 refl)))
    tt none (settled_elsewhere p s most g k j at comes look (Nowhere n) found (λ c z. cc)) refl
  where
    same_target : same_name at.line.message.target k.message.target ≡ true
    same_target = (key_decides (key_of at.line.message.target) (key_of k.message.target)).1 (ap (λ (m : Chained). key_of m.target) at.message_is)

    stands : In at.line j.lines
    stands = line_there p s k j at

    known_by : (x : Name) → Ends p k.receiver k.message [] x
        → (hears_master p (serving_of j k at.line.number) j.lines (lowest (tree_at p).entries (key_of k.message.target))
        && (hears_nssr p s (serving_of j k at.line.number) j.lines (lowest (tree_at p).entries (key_of k.message.target)) && true)) ≡ true
    known_by _ (at_none first low) =
        subst (λ (o : Option Named). (hears_master p (serving_of j k at.line.number) j.lines o && (hears_nssr p s (serving_of j k at.line.number) j.lines o && true)) ≡ true) (sym low)
        (and_true _ true (own_back (λ y. first_level_at (knowledge_at p) y.receiver && same_name y.message.target k.message.target) at.line (length j.accepted) j.lines stands
        (and_true (first_level_at (knowledge_at p) at.line.receiver) _ (ap (first_level_at (knowledge_at p)) at.receiver_is ∙ first) same_target)) refl)
    known_by _ (at_entry ent low master nssr) =
        subst (λ (o : Option Named). (hears_master p (serving_of j k at.line.number) j.lines o && (hears_nssr p s (serving_of j k at.line.number) j.lines o && true)) ≡ true) (sym low)
        (and_true _ _
        (ap (some_and (hears_of (serving_of j k at.line.number) j.lines k.message.target)) master
        ∙ own_back (λ y. (y.receiver == k.receiver) && same_name y.message.target k.message.target) at.line (length j.accepted) j.lines stands
        (and_true (at.line.receiver == k.receiver) _ ((nat_same_decides at.line.receiver k.receiver).1 at.receiver_is) same_target))
        (and_true _ true (or_right (same_name ent.name k.message.target) _
        (subst (λ (agents : List ℕ). list_all (hears_below (serving_of j k at.line.number) j.lines (length ent.name + 1)) agents ≡ true) (sym (nssr s g.setting.holdings)) refl)) refl))
