-- What the judge of an update accepts is right, without probes and after them: the whole tree accepts it too, its line is
-- the first that may accept, and each agent that a probe goes to was heard.
use Rattle.std.proofs.Common.{◌≡◌, ℕ, ◌==◌, Bool, true, false, not, ◌&&◌, ◌||◌, ◌⊎◌, inl, inr, List, [], ◌∷◌, ◌++◌, length, reverse, refl, sym, ap, subst, ◌∙◌, arith, Some, Ok, Err}
use Rattle.std.proofs.lemmas.List.{reverse-append, append_assoc}
use Rattle.std.specs.List.{list_all, find}
use Rattle.std.specs.Result.{is_ok}
use Rattle.x5_model.specs.Words.{has, first_of, is_empty, some_and}
use Rattle.x5_model.specs.Members.{In, here, there}
use Rattle.x5_model.specs.Values.{key_of}
use Rattle.x5_model.specs.Entries.{Named}
use Rattle.x5_model.specs.Requests.{Body}
use Rattle.x5_model.specs.References.{Next, Reference, Chained}
use Rattle.x5_model.specs.Answers.{Changed, Answered}
use Rattle.x5_model.proofs.Lists.{both_true, and_true, not_true, true_or_false, in_first, in_right, in_either, any_in, of_all, all_in, has_in, or_right}
use Rattle.x5_model.proofs.Decide.{nat_same_decides}
use Rattle.x5_model_tree.specs.Tree.{Tree}
use Rattle.x5_model_tree.specs.Masters.{masters}
use Rattle.x5_model_tree.specs.Ask.{is_update}
use Rattle.x5_model_tree.specs.Apply.{UpdatedEntries, Applied, ground_of, apply, apply_over}
use Rattle.x5_model_run.specs.Network.{arrives, is_sent}
use Rattle.x5_model_run.specs.Journal.{Line, Journal, operation_of, settled, is_reached, some_line}
use Rattle.x5_model_run.specs.Holdings.{Holdings, ground_at, holds_within}
use Rattle.x5_model_run.specs.Needs.{due_probes, is_unable, falls_short}
use Rattle.x5_model_run.specs.History.{Point, knowledge_at, tree_at, holdings_at}
use Rattle.x5_model_run.specs.Chain.{Scene, AllLicensed, is_asked, is_cleared}
use Rattle.x5_model_run.specs.Accepting.{carries_update, lacks_probe, may_accept, accepting, is_probed}
use Rattle.x5_model_run.specs.Right as right
use Rattle.x5_model_run.specs.Right.{is_master_at, is_accepted_right}
use Rattle.x5_model_replies.specs.Replies.{RightReply, usual}
use Rattle.x5_model_updates.proofs.Judges.{accepts_alone, accepts_probed, unable_masters_none}
use Rattle.x5_model_serve.specs.Serving.{Hand, with_accepted, holds_now, judged}
use Rattle.x5_model_serve.specs.Claims.{Setting, Accepted, Keeps, NotedSoFar, is_due_line, is_settled_line, serving_of, AtMaster}
use Rattle.x5_model_joins.proofs.Backs.{own_back, own_answered}
use Rattle.x5_model_verdicts.specs.Verdicts.{JustCame, AloneIsRight, ProbedIsRight}
use Rattle.x5_model_verdicts.proofs.At.{holds_is, judge, line_in, of_settled, scene_update, scene_body, scene_master, none_yet}
use Rattle.x5_model_verdicts.proofs.Refused.{able}
use Rattle.x5_model_verdicts.proofs.NewName.{probe, new_is, name_inside}
use Rattle.x5_model_verdicts.proofs.Below.{At, some_at, before_in, never_again, ended}
use Rattle.x5_model_verdicts.proofs.Probing.{lacks_none}

-- ---- the first that passes

find_past : {X : Type 0} (test : X → Bool) (xs : List X) (y : X) (ys : List X) → ((x : X) → In x xs → test x ≡ false) → test y ≡ true → find test (xs ++ y ∷ ys) ≡ Some y
find_past test [] y ys off on = rw on refl
find_past test (x ∷ xs) y ys off on = rw (off x here) (find_past test xs y ys (λ z i. off z (there i)) on)

reverse_front : {X : Type 0} (y : X) (ys : List X) → reverse (y ∷ ys) ≡ reverse ys ++ y ∷ []
reverse_front y ys = reverse-append (y ∷ []) ys

in_reverse : {X : Type 0} (xs : List X) (x : X) → In x (reverse xs) → In x xs
in_reverse [] x i = elim i [ ]
in_reverse {X} (y ∷ ys) x i = elim (in_either x (reverse ys) (y ∷ []) (subst (λ (zs : List X). In x zs) (reverse_front y ys) i)) [
  | inl j ↦ there (in_reverse ys x j)
  | inr j ↦ elim (in_first x y [] j) [ inl e ↦ subst (λ (z : X). In z (y ∷ ys)) (sym e) here | inr n ↦ elim n [ ] ]
]

reverse_around : {X : Type 0} (xs ys : List X) (y : X) → reverse (xs ++ y ∷ ys) ≡ reverse ys ++ y ∷ reverse xs
reverse_around {X} xs ys y =
    reverse-append xs (y ∷ ys) ∙ ap (λ (zs : List X). zs ++ reverse xs) (reverse_front y ys) ∙ append_assoc (reverse ys) (y ∷ []) (reverse xs)

-- a line that lacks a probe lacks it where lines are added
some_more : (test : Line → List Line → Bool) (new lines : List Line) → some_line test lines ≡ true → some_line test (new ++ lines) ≡ true
some_more test [] lines h = h
some_more test (x ∷ xs) lines h = or_right (test x (xs ++ lines)) _ (some_more test xs lines h)

-- nothing goes back to the newest line
newest_whole : (s : Scene) (l : Line) (before : List Line) → AllLicensed s (l ∷ before) → some_line (lacks_probe s l.number) (l ∷ before) ≡ false
newest_whole s l before all = elim (true_or_false (some_line (lacks_probe s l.number) (l ∷ before))) [
  | inr f ↦ f
  | inl t ↦
      let w = some_at (lacks_probe s l.number) (l ∷ before) t in
      let up = (both_true _ _ (both_true _ _ w.3).1).1 in
      let v = ended s (λ x. x.number == l.number) (λ x. true) _ w.1 up in
      absurd (never_again s l before all v.0 (inside w.0 w.1 w.2 v.0 v.1) (sym ((nat_same_decides v.0.number l.number).0 v.2)))
]
  where
    inside : (x : Line) (e : List Line) → ((x ≡ l) × (e ≡ before)) ⊎ At before x e → (y : Line) → In y e → In y before
    inside x e (inl u) y i = subst (λ (ys : List Line). In y ys) u.1 i
    inside x e (inr a) y i = before_in before x e a y i

-- ---- what was accepted

abbrev pub as_applied : Tree → UpdatedEntries → Applied
as_applied t (Ok entries) = Ok (record t { entries = entries })
as_applied t (Err x) = Err x

abbrev pub applied : Tree → Body → Applied
applied t body = as_applied t (apply_over (ground_of t) body)

-- the journal j has the line at hand, which nothing that is unheard goes back to, and what came before it
module _ (p : Point) (s : Scene) (k : Hand) (i j : Journal) (set : Setting p s) (at : AtMaster p s k i) (came : JustCame p s at.at_hand.line i) (new : List Line) (lines_are : j.lines ≡ new ++ i.lines)
    (t : Tree) (accepts : apply (tree_at p) k.message.request ≡ Ok t) (whole : some_line (lacks_probe s at.at_hand.line.number) j.lines ≡ false) (none : j.accepted ≡ []) where
  there_still : In at.at_hand.line j.lines
  there_still = subst (λ (xs : List Line). In at.at_hand.line xs) (sym lines_are) (in_right at.at_hand.line new i.lines (line_in p s k i set at))

  carries : carries_update s at.at_hand.line ≡ true
  carries =
      and_true (is_update s.message.request.body) _ (scene_update p s k i set at)
      ((nat_same_decides (operation_of at.at_hand.line.message.request.body) (operation_of s.message.request.body)).1
      (ap (λ (m : Chained). operation_of m.request.body) at.at_hand.message_is ∙ ap (λ (b : Body). operation_of b) (scene_body p s k i set at)))

  may : may_accept s j.lines k.receiver at.at_hand.line ≡ true
  may =
      and_true (at.at_hand.line.receiver == k.receiver) _ ((nat_same_decides at.at_hand.line.receiver k.receiver).1 at.at_hand.receiver_is)
      (and_true (arrives at.at_hand.line.fate) _ at.at_hand.arrived
      (and_true (carries_update s at.at_hand.line) _ carries
      (and_true (not (is_unable (s.holdings k.receiver) at.at_hand.line.message)) _
      (ap (λ (m : Chained). not (is_unable (s.holdings k.receiver) m)) at.at_hand.message_is ∙ ap not (able p s k i set at)) (ap not whole))))

  ok : is_ok (apply (tree_at p) s.message.request) ≡ true
  ok = ap (λ (b : Body). is_ok (applied (tree_at p) b)) (sym (scene_body p s k i set at)) ∙ ap (λ (x : Applied). is_ok x) accepts

  mastered_here : is_master_at p (key_of s.message.target) k.receiver ≡ true
  mastered_here = ap (some_and (λ (x : ℕ). x == k.receiver)) (scene_master p s k i set at) ∙ (nat_same_decides k.receiver k.receiver).1 refl

  -- none before it may accept
  not_earlier : (e : Line) → In e came.before → may_accept s j.lines k.receiver e ≡ false
  not_earlier e m = elim (true_or_false (may_accept s j.lines k.receiver e)) [
    | inr f ↦ f
    | inl y ↦
        let a = both_true (e.receiver == k.receiver) _ y in
        let b = both_true (arrives e.fate) _ a.1 in
        let c = both_true (carries_update s e) _ b.1 in
        let d = both_true (not (is_unable (s.holdings k.receiver) e.message)) _ c.1 in
        let same : e.receiver ≡ k.receiver = (nat_same_decides e.receiver k.receiver).0 a.0 in
        let lacks : some_line (lacks_probe s e.number) i.lines ≡ false = elim (true_or_false (some_line (lacks_probe s e.number) i.lines)) [
          | inr f ↦ f
          | inl l ↦ (let more : some_line (lacks_probe s e.number) j.lines ≡ true = ap (some_line (lacks_probe s e.number)) lines_are ∙ some_more (lacks_probe s e.number) new i.lines l in
              let no : some_line (lacks_probe s e.number) j.lines ≡ false = not_true _ d.1 in absurd (let z : true ≡ false = sym more ∙ no in cc))
        ] in
        let earlier : may_accept s i.lines e.receiver e ≡ true =
        and_true (e.receiver == e.receiver) _ ((nat_same_decides e.receiver e.receiver).1 refl)
        (and_true (arrives e.fate) _ b.0 (and_true (carries_update s e) _ c.0
        (and_true (not (is_unable (s.holdings e.receiver) e.message)) _ (ap (λ (o : ℕ). not (is_unable (s.holdings o) e.message)) same ∙ d.0) (ap not lacks)))) in
        let due : is_due_line p s i e ≡ true =
        and_true (may_accept s i.lines e.receiver e) _ earlier
        (and_true (is_master_at p (key_of s.message.target) e.receiver) _ (ap (is_master_at p (key_of s.message.target)) same ∙ mastered_here) ok) in
        let settled_one : is_settled_line p s i e ≡ true = of_all (is_settled_line p s i) e came.before came.all_settled m in
        let off : is_settled_line p s i e ≡ false = ap (λ (x : Bool). not x || not (is_empty i.accepted)) due ∙ ap (λ (xs : List ℕ). not (is_empty xs)) (none_yet p s k i set at) in
        absurd (let z : true ≡ false = sym settled_one ∙ off in cc)
  ]

  accepting_is : accepting s j.lines k.receiver ≡ Some at.at_hand.line
  accepting_is =
      ap (λ (xs : List Line). find (may_accept s j.lines k.receiver) (reverse xs)) (lines_are ∙ ap (λ (xs : List Line). new ++ xs) came.newest)
      ∙ ap (find (may_accept s j.lines k.receiver)) (reverse_around new came.before at.at_hand.line)
      ∙ find_past (may_accept s j.lines k.receiver) (reverse came.before) at.at_hand.line (reverse new) (λ e m. not_earlier e (in_reverse came.before e m)) may

  right_one : is_accepted_right p s j.lines k.receiver ≡ true
  right_one =
      and_true (is_update s.message.request.body) _ (scene_update p s k i set at)
      (and_true (is_reached j.lines k.receiver) _
      (any_in (λ (l : Line). (l.receiver == k.receiver) && arrives l.fate) at.at_hand.line j.lines there_still
      (and_true (at.at_hand.line.receiver == k.receiver) (arrives at.at_hand.line.fate) ((nat_same_decides at.at_hand.line.receiver k.receiver).1 at.at_hand.receiver_is) at.at_hand.arrived))
      (and_true (is_master_at p (key_of s.message.target) k.receiver) _ mastered_here ok))

  pub accepted_now : is_probed s j.lines at.at_hand.line ≡ true → Accepted p s (with_accepted k.receiver j)
  accepted_now probed = record {
    one = (let e : length j.accepted ≡ 0 = ap length none in omega (arith, e));
    right = all_in (is_accepted_right p s j.lines) (k.receiver ∷ j.accepted)
        (λ a m. elim (in_first a k.receiver j.accepted m) [
          | inl e ↦ subst (λ (x : ℕ). is_accepted_right p s j.lines x ≡ true) (sym e) right_one
          | inr l ↦ (let f : In a [] = subst (λ (xs : List ℕ). In a xs) none l in elim f [ ])
        ]);
    probed = all_in (λ a. some_and (is_probed s j.lines) (accepting s j.lines a)) (k.receiver ∷ j.accepted)
        (λ a m. elim (in_first a k.receiver j.accepted m) [
          | inl e ↦ subst (λ (x : ℕ). some_and (is_probed s j.lines) (accepting s j.lines x) ≡ true) (sym e) (ap (some_and (is_probed s j.lines)) accepting_is ∙ probed)
          | inr l ↦ (let f : In a [] = subst (λ (xs : List ℕ). In a xs) none l in elim f [ ])
        ]);
  }

  -- its own line came back, and carried the update to who accepted
  pub changed_right : (spent : Bool) → RightReply p s (serving_of i k at.at_hand.line.number) (with_accepted k.receiver j) spent (Answered Changed)
  changed_right spent =
      usual (ap not (able p s k i set at))
      (right.changed (own_answered at.at_hand.line (length i.accepted) j.lines there_still) at.update
      (own_back (λ l. has ◌==◌ (k.receiver ∷ j.accepted) l.receiver && carries_update s l) at.at_hand.line (length i.accepted) j.lines there_still
      (and_true (has ◌==◌ (k.receiver ∷ j.accepted) at.at_hand.line.receiver) _ (has_in ◌==◌ nat_same_decides at.at_hand.line.receiver (k.receiver ∷ j.accepted) (subst (λ (x : ℕ). In x (k.receiver ∷ j.accepted)) (sym at.at_hand.receiver_is) here)) carries)))

-- the probes that are due to the line at hand
probes_are : (p : Point) (s : Scene) (k : Hand) (i : Journal) (set : Setting p s) (at : AtMaster p s k i) (rs : List Reference) → due_probes (holds_now s i k) k.message ≡ rs → due_probes (s.holdings at.at_hand.line.receiver) at.at_hand.line.message ≡ rs
probes_are p s k i set at rs due =
    ap (λ (o : ℕ). due_probes (s.holdings o) at.at_hand.line.message) at.at_hand.receiver_is
    ∙ ap (due_probes (s.holdings k.receiver)) at.at_hand.message_is
    ∙ ap (λ (h : ℕ → Holdings). due_probes (h k.receiver) k.message) set.holdings
    ∙ ap (λ (h : Holdings). due_probes h k.message) (sym (holds_is p s k i set at))
    ∙ due

pub alone_is_right : AloneIsRight
alone_is_right p s k i mine spent set at came h due =
    let holds = holds_is p s k i set at in
    let t = accepts_alone p k.receiver k.message mine (judge p s k i set at) (ap (λ (y : Holdings). apply_over (ground_at k.message.request y) k.message.request.body) (sym holds) ∙ h) (ap (λ (y : Holdings). due_probes y k.message) (sym holds) ∙ due) in
    let whole : some_line (lacks_probe s at.at_hand.line.number) i.lines ≡ false =
    ap (some_line (lacks_probe s at.at_hand.line.number)) came.newest ∙ newest_whole s at.at_hand.line came.before (subst (AllLicensed s) came.newest at.at_hand.licensed) in (
      changed_right p s k i i set at came [] refl t.0 t.1 whole (none_yet p s k i set at) spent,
      accepted_now p s k i i set at came [] refl t.0 t.1 whole (none_yet p s k i set at)
          (ap (list_all (λ r. list_all (is_asked is_sent i.lines at.at_hand.line.number r) r.agents)) (probes_are p s k i set at [] due)),
    )

-- ---- after probes

module _ (p : Point) (s : Scene) (k : Hand) (i j : Journal) (set : Setting p s) (at : AtMaster p s k i) (r : Reference) (due : due_probes (holds_now s i k) k.message ≡ r ∷ []) where
  one_due : (q : Reference) → In q (due_probes (holdings_at p k.receiver) k.message) → q ≡ r
  one_due q m =
      elim (in_first q r [] (subst (λ (rs : List Reference). In q rs) (ap (λ (y : Holdings). due_probes y k.message) (sym (holds_is p s k i set at)) ∙ due) m)) [ inl e ↦ e | inr n ↦ elim n [ ] ]

  -- an agent that is cleared masters nothing there
  masters_none : (lines : List Line) (number a : ℕ) → is_cleared s lines number r a ≡ true → masters (knowledge_at p) a (key_of r.target) ≡ false
  masters_none lines number a c =
      let w = (both_true (is_asked is_sent lines number r a) _ c).1 in
      let is = probe p s k i set at r due in
      let v = new_is p s k i set at r due in
      let next : r.progress ≡ Next (length is.name) = ap (λ (x : Reference). x.progress) is.is in
      let size : length is.name ≡ length r.target = ap length (name_inside is.name v.0 (sym is.named ∙ v.1)) ∙ sym v.3 in
      let u : not (holds_within (s.holdings a) (key_of r.target) (length is.name)) ≡ true = ap (falls_short (s.holdings a) (key_of r.target)) (sym next) ∙ w in
      unable_masters_none p a r.target set.whole
      (ap (holds_within (holdings_at p a) (key_of r.target)) (sym size)
      ∙ ap (λ (h : ℕ → Holdings). holds_within (h a) (key_of r.target) (length is.name)) (sym set.holdings)
      ∙ not_true (holds_within (s.holdings a) (key_of r.target) (length is.name)) u)

  pub probed_is : (most : ℕ) (mine : List Named) (spent : Bool) → JustCame p s at.at_hand.line i → judged s i k ≡ Ok mine → Keeps p s most k i j → j.accepted ≡ i.accepted → NotedSoFar s k r j r.agents []
      → RightReply p s (serving_of i k at.at_hand.line.number) (with_accepted k.receiver j) spent (Answered Changed) × Accepted p s (with_accepted k.receiver j)
  probed_is most mine spent came h keeps stays noted =
      let holds = holds_is p s k i set at in
      let at_hand_still : first_of (settled (length k.message.trace) j.lines) ≡ Some at.at_hand.line = ap (λ (xs : List Line). first_of xs) keeps.settled_is ∙ at.at_hand.at_hand in
      let cleared : ((a : ℕ) → In a r.agents → is_cleared s j.lines at.at_hand.line.number r a ≡ true) = λ a m. noted.cleared at.at_hand.line at_hand_still a m (λ n. elim n [ ]) in
      let t = accepts_probed p k.receiver k.message mine (judge p s k i set at) (ap (λ (y : Holdings). apply_over (ground_at k.message.request y) k.message.request.body) (sym holds) ∙ h)
      (λ q a m l. (let only : q ≡ r = one_due q m in
      subst (λ (x : Reference). masters (knowledge_at p) a (key_of x.target) ≡ false) (sym only) (masters_none j.lines at.at_hand.line.number a (cleared a (subst (λ (x : Reference). In a x.agents) only l))))) in
      let there : In at.at_hand.line j.lines = of_settled (length k.message.trace) j.lines at.at_hand.line at_hand_still in
      let whole = lacks_none p s k i set at r due j.lines keeps.licensed there cleared in (
        changed_right p s k i j set at came keeps.grows.0 keeps.grows.1 t.0 t.1 whole (stays ∙ none_yet p s k i set at) spent,
        accepted_now p s k i j set at came keeps.grows.0 keeps.grows.1 t.0 t.1 whole (stays ∙ none_yet p s k i set at)
            (ap (list_all (λ y. list_all (is_asked is_sent j.lines at.at_hand.line.number y) y.agents)) (probes_are p s k i set at (r ∷ []) due)
            ∙ and_true (list_all (is_asked is_sent j.lines at.at_hand.line.number r) r.agents) true
            (all_in (is_asked is_sent j.lines at.at_hand.line.number r) r.agents (λ a m. (both_true (is_asked is_sent j.lines at.at_hand.line.number r a) _ (cleared a m)).0)) refl),
      )

pub probed_is_right : ProbedIsRight
probed_is_right p s most k i j mine r spent set at came h due keeps stays noted = probed_is p s k i j set at r due most mine spent came h keeps stays noted
