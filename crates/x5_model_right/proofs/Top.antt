-- A request of a user: his message comes to its first agent as the one line, and what is done for it is claimed there.
-- Messages never run out, so all lines are finished; and what came back to the agent's line came back to the user, if
-- that line did. Where he hears nothing, his own message is lost.
use Rattle.std.proofs.Common.{◌≡◌, ℕ, ◌+◌, ◌<◌, ◌≤◌, nat_le, nat_lt, Bool, true, false, not, ◌&&◌, ◌||◌, ◌==◌, ◌⊎◌, inl, inr, List, [], ◌∷◌, length, reverse, refl, sym, ap, subst, ◌∙◌, arith, Option, Some, None}
use Rattle.std.proofs.lemmas.Bool.Decides.{leb_tells}
use Rattle.std.specs.Prelude.{IsTrue}
use Rattle.std.specs.Option.{is_some, is_none}
use Rattle.x5_model.specs.Statics.{fault_of}
use Rattle.std.specs.List.{list_all, AllByRecursion}
use Rattle.x5_model.specs.Words.{has, is_empty, some_and, in_option}
use Rattle.x5_model.specs.Members.{In, here}
use Rattle.x5_model.specs.Values.{Name, key_of}
use Rattle.x5_model.specs.Entries.{Named}
use Rattle.x5_model.specs.Requests.{Request}
use Rattle.x5_model.specs.References.{Reference}
use Rattle.x5_model.specs.Answers.{Answer, DirError, NoSuchObject, AttributeProblem, UpdateProblem, ServiceProblem, Reply}
use Rattle.x5_model.specs.Problems.{entry_already_exists}
use Rattle.x5_model.proofs.Decide.{nat_same_decides}
use Rattle.x5_model.proofs.Lists.{both_true, and_true, either_true, not_true, or_left, or_right, true_or_false, in_first, in_right, any_in, all_in, of_all, of_find}
use Rattle.x5_model_tree.specs.Tree.{lowest}
use Rattle.x5_model_tree.specs.Masters.{master_of}
use Rattle.x5_model_tree.specs.Ask.{is_update, sources_of, unexplored_of}
use Rattle.x5_model_run.specs.Network.{Lost, NoReply, Sent, arrives, is_sent, is_unheard}
use Rattle.x5_model_run.specs.Journal.{Line, Journal, depth, is_done}
use Rattle.x5_model_run.specs.Needs.{target_of, ends_here, new_name}
use Rattle.x5_model_run.specs.History.{Point, knowledge_at, tree_at}
use Rattle.x5_model_run.specs.Stage.{budget}
use Rattle.x5_model_run.specs.Chain.{Scene, scene_at, AllLicensed, begins}
use Rattle.x5_model_run.specs.Accepting.{may_accept, accepting, is_probed, carries_update}
use Rattle.x5_model_run.specs.Blocked.{Asked, by_user, is_answered_line, is_answered, came_back, hears_by, hears, IsUntried, IsLost, Blocked, user, untried, lost}
use Rattle.x5_model_run.specs.Right as right
use Rattle.x5_model_run.specs.Right.{master_at, is_master_at, is_accepted_right, is_due, is_sent_later, is_noreply, heard_whole, accepts_none, is_holder, is_source, is_found, IsResult, is_for, first_level_at, hears_of, hears_master, hears_below, hears_nssr, nssr_agents, is_pin, knows, hears_pin, hears_taken, is_told, hears_accepted, Right, IsRight, Accepts, Finished}
use Rattle.x5_model_replies.specs.Replies as placed
use Rattle.x5_model_replies.specs.Replies.{RightReply, is_long}
use Rattle.x5_model_run.specs.Thorough.{is_served, sender_follows, Thorough}
use Rattle.x5_model_run.proofs.Growing.{all_grow}
use Rattle.x5_model_run.proofs.Journals.{leads_from}
use Rattle.x5_model_theory.proofs.Carrying.{no_journal_is_long}
use Rattle.x5_model_joins.proofs.Backs.{heard_line, hears_further, lost_further}
use Rattle.x5_model_bounds.proofs.Going.{sound_by}
use Rattle.x5_model_serve.specs.Serving.{Hand, hand, Does, Serves, with_line, IsRequest, nothing_yet, user_line, user_in_vain, is_spent, not_heard, not_told, answers}
use Rattle.x5_model_serve.specs.Claims.{Setting, Accepted, AtHand, is_due_line, is_settled_line, last_number, serving_of}
use Rattle.x5_model_right.specs.Kept.{Ground, Comes}
use Rattle.x5_model_right.specs.Claim.{ServedRight}
use Rattle.x5_model_right.specs.Right.{RequestIsRight}
use Rattle.x5_model_joins.proofs.Keeping.{at_most}
use Rattle.x5_model_bounds.proofs.Able.{replies_able}
use Rattle.x5_model_bounds.proofs.Going.{resolution_pays}
use Rattle.x5_model_bounds.proofs.Judge.{judge_is_master}
use Rattle.x5_model_bounds.proofs.Probing.{probes_pay}
use Rattle.x5_model_bounds.proofs.Searching.{parts_pay}
use Rattle.x5_model_bounds.proofs.Top.{never_spent}
use Rattle.x5_model_bounds.proofs.Walk.{serving_pays}
use Rattle.x5_model_lasting.proofs.Finishing.{is_at_most}
use Rattle.x5_model_right.proofs.Kept.{old_line, some_stays}
use Rattle.x5_model_right.proofs.Messages.{lost_settled}
use Rattle.x5_model_right.proofs.Sending.{served_alone}
use Rattle.x5_model_right.proofs.Adding.{some_is, in_reverse}
use Rattle.x5_model_right.proofs.Induction.{serving_is_right}

-- ---- what is heard at the agent is heard by the user, where its line came back

-- as it is asked at the agent
abbrev at_agent : Scene → ℕ → Asked
at_agent s n = record { to = s.first; message = s.message; number = n; counts = true; stood = 0 }

some_grow : {X : Type 0} (f g : X → Bool) → ((x : X) → f x ≡ true → g x ≡ true) → (o : Option X) → some_and f o ≡ true → some_and g o ≡ true
some_grow f g h None e = e
some_grow f g h (Some x) e = h x e

either_grow : (a b c : Bool) → (b ≡ true → c ≡ true) → (a || b) ≡ true → (a || c) ≡ true
either_grow true b c f e = refl
either_grow false b c f e = f e

module _ (p : Point) (s : Scene) (j : Journal) (n : ℕ) (all : AllLicensed s j.lines) (back : hears_by (λ l. l.number == n) (by_user s) j.lines ≡ true) (come : is_answered (by_user s) j.lines ≡ true) where
  heard : (test : Line → Bool) → hears_by test (at_agent s n) j.lines ≡ true → hears_by test (by_user s) j.lines ≡ true
  heard test h = hears_further s (by_user s) (at_agent s n) test j.lines all back h

  lost_too : (u : Reference) → IsLost s (at_agent s n) j.lines u → IsLost s (by_user s) j.lines u
  lost_too u h = lost_further s (by_user s) (at_agent s n) j.lines all back refl u h

  untried_too : (u : Reference) → IsUntried s (at_agent s n) j.lines u → IsUntried s (by_user s) j.lines u
  untried_too u x = record { idle = x.idle; heard = come; needed = x.needed }

  blocked_too : (us : List Reference) → AllByRecursion (Blocked s (at_agent s n) j.lines) us → AllByRecursion (Blocked s (by_user s) j.lines) us
  blocked_too [] h = tt
  blocked_too (u ∷ us) h = (one h.0, blocked_too us h.1)
    where
      one : Blocked s (at_agent s n) j.lines u → Blocked s (by_user s) j.lines u
      one (untried x) = untried (untried_too u x)
      one (lost x) = lost (lost_too u x)

  result_too : (a : Answer) → IsResult p s (at_agent s n) j.lines a → IsResult p s (by_user s) j.lines a
  result_too a res = record {
    found = either_grow (is_done s.message.progress) _ _ (heard (λ l. ends_here (s.holdings l.receiver) l.message)) res.found;
    sources = all_grow (is_source p (at_agent s n) j.lines) (is_source p (by_user s) j.lines)
        (λ x h. let b = both_true (hears (at_agent s n) j.lines x.agent) _ h in and_true (hears (by_user s) j.lines x.agent) _ (heard (λ l. l.receiver == x.agent) b.0) b.1) (sources_of a) res.sources;
    spelled = res.spelled;
    once = res.once;
    exactly = res.exactly;
    answered = res.answered;
    blocked = blocked_too (unexplored_of a) res.blocked;
    completed = res.completed;
    apart = res.apart;
  }

  master_too : (o : Option Named) → hears_master p (at_agent s n) j.lines o ≡ true → hears_master p (by_user s) j.lines o ≡ true
  master_too None h = heard (λ l. first_level_at (knowledge_at p) l.receiver && is_for s.message.target l) h
  master_too (Some e) h = some_grow (hears_of (at_agent s n) j.lines s.message.target) (hears_of (by_user s) j.lines s.message.target) (λ a k. heard (λ l. (l.receiver == a) && is_for s.message.target l) k) (master_at p (key_of e.name)) h

  nssr_too : (o : Option Named) → hears_nssr p s (at_agent s n) j.lines o ≡ true → hears_nssr p s (by_user s) j.lines o ≡ true
  nssr_too None h = refl
  nssr_too (Some e) h = either_grow _ _ _ (all_grow (hears_below (at_agent s n) j.lines (length e.name + 1)) (hears_below (by_user s) j.lines (length e.name + 1)) (λ a k. heard _ k) (nssr_agents p s e)) h

  pin_too : (name : Name) → hears_pin p s (at_agent s n) j.lines name ≡ true → hears_pin p s (by_user s) j.lines name ≡ true
  pin_too name h =
      either_grow (not (is_pin p (key_of name))) _ _
      (either_grow (some_and (λ o. knows s s.message.request o (key_of name)) (master_at p (key_of s.message.target))) _ _
      (some_grow (hears_of (at_agent s n) j.lines name) (hears_of (by_user s) j.lines name) (λ a k. heard (λ l. (l.receiver == a) && is_for name l) k) (master_of (knowledge_at p) (key_of name)))) h

  taken_too : (x : DirError) → hears_taken p s (at_agent s n) j.lines x ≡ true → hears_taken p s (by_user s) j.lines x ≡ true
  taken_too (UpdateProblem m) h = either_grow (not (m == entry_already_exists)) _ _ (by (new_name s.message.request.body)) h
    where
      by : (o : Option Name) → in_option true (hears_pin p s (at_agent s n) j.lines) o ≡ true → in_option true (hears_pin p s (by_user s) j.lines) o ≡ true
      by None k = refl
      by (Some name) k = pin_too name k
  taken_too (NoSuchObject name) h = refl
  taken_too (AttributeProblem m kind) h = refl
  taken_too (ServiceProblem m r i) h = refl

  told_too : (x : DirError) → is_told p s (at_agent s n) j.lines x ≡ true → is_told p s (by_user s) j.lines x ≡ true
  told_too x h =
      either_grow _ _ _ (λ k.
      let a = both_true (hears_master p (at_agent s n) j.lines (lowest (tree_at p).entries (key_of s.message.target))) _ k in
      let b = both_true (hears_nssr p s (at_agent s n) j.lines (lowest (tree_at p).entries (key_of s.message.target))) _ a.1 in
      and_true (hears_master p (by_user s) j.lines (lowest (tree_at p).entries (key_of s.message.target))) _ (master_too _ a.0)
      (and_true (hears_nssr p s (by_user s) j.lines (lowest (tree_at p).entries (key_of s.message.target))) _ (nssr_too _ b.0) (taken_too x b.1))) h

  pub right_too : (reply : Reply) → Right p s (at_agent s n) j reply → Right p s (by_user s) j reply
  right_too _ (right.result {a} on res up none) = right.result come (result_too a res) up none
  right_too _ (right.changed on up h) = right.changed come up (heard (λ l. has ◌==◌ j.accepted l.receiver && carries_update s l) h)
  right_too _ (right.error {x} on t h none) = right.error come t (told_too x h) none
  right_too _ (right.referral {r} x f none) = right.referral (untried_too r x) f none
  right_too _ (right.unheard {r} x f none) = right.unheard (lost_too r x) f none

-- ---- the user's own line

module _ (p : Point) (first : ℕ) (r : Request) (set : Setting p (scene_at p first r)) (short : length (target_of r.body) ≤ 16) (names : (name : Name) → new_name r.body ≡ Some name → length name ≤ 16) where
  abbrev s : Scene
  s = scene_at p first r

  abbrev u : Line
  u = user_line (scene_at p first r)

  abbrev k : Hand
  k = hand (scene_at p first r).first (scene_at p first r).message

  abbrev i : Journal
  i = with_line (user_line (scene_at p first r)) nothing_yet

  ground : Ground p (scene_at p first r)
  ground = record {
    setting = set;
    short = λ lines l all m. (let h = no_journal_is_long p first r lines l (sound_by p (scene_at p first r) set) short names all m in omega (arith, h));
  }

  licensed : AllLicensed (scene_at p first r) (user_line (scene_at p first r) ∷ [])
  licensed = (record { number_is = refl; fate_is = refl; cause = begins (record { sender_is = refl; receiver_is = refl; message_is = refl }) }, tt)

  accepted : Accepted p (scene_at p first r) (with_line (user_line (scene_at p first r)) nothing_yet)
  accepted = record { one = omega arith; right = refl; probed = refl }

  abbrev at_hand : IsTrue (arrives (user_line (scene_at p first r)).fate) → AtHand p (scene_at p first r) (hand (scene_at p first r).first (scene_at p first r).message) (with_line (user_line (scene_at p first r)) nothing_yet)
  at_hand arrived = record {
    line = user_line (scene_at p first r);
    receiver_is = refl;
    message_is = refl;
    licensed = licensed;
    at_hand = refl;
    arrived = arrived;
    prohibited = inr (λ e. e);
    accepted = accepted;
  }

  comes : Comes p (scene_at p first r) (hand (scene_at p first r).first (scene_at p first r).message) (user_line (scene_at p first r)) (with_line (user_line (scene_at p first r)) nothing_yet)
  comes = record {
    newest = ([], refl);
    alone = refl;
    came = λ up. record { before = []; newest = refl; all_settled = refl };
    none = λ e. refl;
    earlier = λ a m. elim m [ ];
    at_once = refl;
  }

-- ---- what is accepted is what is due

module _ (p : Point) (s : Scene) (j : Journal) (acc : Accepted p s j) (calm : list_all (is_settled_line p s j) j.lines ≡ true) where
  line_of : (o : Option ℕ) → some_and (λ a. is_some (accepting s j.lines a)) o ≡ true → (a : ℕ) × (o ≡ Some a) × (l : Line) × (accepting s j.lines a ≡ Some l)
  line_of None e = cc
  line_of (Some a) e = (a, refl, (by (accepting s j.lines a) e).0, (by (accepting s j.lines a) e).1)
    where
      by : (x : Option Line) → is_some x ≡ true → (l : Line) × (x ≡ Some l)
      by None q = cc
      by (Some l) q = (l, refl)

  filled_by : is_due p s j.lines ≡ true → not (is_empty j.accepted) ≡ true
  filled_by e =
      let b = both_true (some_and (λ a. is_some (accepting s j.lines a)) (master_at p (key_of s.message.target))) _ e in
      let w = line_of (master_at p (key_of s.message.target)) b.0 in
      let f = of_find (may_accept s j.lines w.0) w.2 (reverse j.lines) w.3 in
      let there_too = in_reverse j.lines w.2 f.0 in
      let to : w.2.receiver ≡ w.0 = (nat_same_decides w.2.receiver w.0).0 (both_true (w.2.receiver == w.0) _ f.1).0 in
      let may : may_accept s j.lines w.2.receiver w.2 ≡ true = ap (λ (a : ℕ). may_accept s j.lines a w.2) to ∙ f.1 in
      let mastered_here : is_master_at p (key_of s.message.target) w.2.receiver ≡ true = ap (some_and (λ m. m == w.2.receiver)) w.1 ∙ (nat_same_decides w.0 w.2.receiver).1 (sym to) in
      let due : is_due_line p s j w.2 ≡ true = and_true (may_accept s j.lines w.2.receiver w.2) _ may (and_true (is_master_at p (key_of s.message.target) w.2.receiver) _ mastered_here b.1) in
      elim (either_true (not (is_due_line p s j w.2)) _ (of_all (is_settled_line p s j) w.2 j.lines calm there_too)) [
        | inl off ↦ (let z = not_true (is_due_line p s j w.2) off in absurd (let y : true ≡ false = sym due ∙ z in cc))
        | inr kept ↦ kept
      ]

  due_by : (a : ℕ) → In a j.accepted → is_due p s j.lines ≡ true
  due_by a m =
      let right_one = of_all (is_accepted_right p s j.lines) a j.accepted acc.right m in
      let b = both_true (is_update s.message.request.body) _ right_one in
      let c = both_true _ _ b.1 in
      let d = both_true (is_master_at p (key_of s.message.target) a) _ c.1 in
      let x = some_is (is_probed s j.lines) (accepting s j.lines a) (of_all (λ y. some_and (is_probed s j.lines) (accepting s j.lines y)) a j.accepted acc.probed m) in
      and_true (some_and (λ y. is_some (accepting s j.lines y)) (master_at p (key_of s.message.target))) _ (at (master_at p (key_of s.message.target)) d.0 (ap (λ (o : Option Line). is_some o) x.1)) d.1
    where
      at : (o : Option ℕ) → some_and (λ y. y == a) o ≡ true → is_some (accepting s j.lines a) ≡ true → some_and (λ y. is_some (accepting s j.lines y)) o ≡ true
      at None e f = cc
      at (Some y) e f = ap (λ (n : ℕ). is_some (accepting s j.lines n)) ((nat_same_decides y a).0 e) ∙ f

  pub due_is : is_due p s j.lines ≡ not (is_empty j.accepted)
  due_is = elim (true_or_false (is_due p s j.lines)) [
    | inl t ↦ t ∙ sym (filled_by t)
    | inr f ↦ f ∙ sym (by j.accepted refl f)
  ]
    where
      by : (xs : List ℕ) → j.accepted ≡ xs → is_due p s j.lines ≡ false → not (is_empty j.accepted) ≡ false
      by [] e f = ap (λ (ys : List ℕ). not (is_empty ys)) e
      by (a ∷ xs) e f = (let t = due_by a (subst (λ (ys : List ℕ). In a ys) (sym e) here) in absurd (let z : true ≡ false = sym t ∙ f in cc))

pub accepts_of : (p : Point) (s : Scene) (j : Journal) → Accepted p s j → Accepts p s j
accepts_of p s j acc = record { one = at_most (length j.accepted) 1 acc.one; right = acc.right; probed = acc.probed }

-- ---- the three fates

never : (b : Bool) → (b && false) ≡ false
never true = refl
never false = refl

module _ (p : Point) (first : ℕ) (r : Request) (set : Setting p (scene_at p first r)) (short : length (target_of r.body) ≤ 16) (names : (name : Name) → new_name r.body ≡ Some name → length name ≤ 16) where
  number_is : ((user_line (scene_at p first r)).number == (scene_at p first r).sent + 1) ≡ true
  number_is = (nat_same_decides (user_line (scene_at p first r)).number ((scene_at p first r).sent + 1)).1 (omega arith)

  unheard_is : (j : Journal) → In (user_line (scene_at p first r)) j.lines → is_unheard (user_line (scene_at p first r)).fate ≡ true → IsTrue (accepts_none (by_user (scene_at p first r)) j || not (heard_whole j.lines)) → Right p (scene_at p first r) (by_user (scene_at p first r)) j (user_in_vain (scene_at p first r))
  unheard_is j m lossy none = right.unheard (user (record {
    own = refl;
    unheard = any_in (λ l. (l.number == (scene_at p first r).sent + 1) && is_unheard l.fate) (user_line (scene_at p first r)) j.lines m (and_true ((user_line (scene_at p first r)).number == (scene_at p first r).sent + 1) _ number_is lossy);
    same = refl;
  })) refl none

  lost_case : (user_line (scene_at p first r)).fate ≡ Lost → IsRight p (scene_at p first r) (with_line (user_line (scene_at p first r)) nothing_yet) (user_in_vain (scene_at p first r)) × Thorough (scene_at p first r) (with_line (user_line (scene_at p first r)) nothing_yet)
  lost_case fate =
      let gone : arrives (user_line (scene_at p first r)).fate ≡ false = ap arrives fate in (
        record {
          licensed = licensed p first r set short names;
          accepts = accepts_of p (scene_at p first r) (with_line (user_line (scene_at p first r)) nothing_yet) (accepted p first r set short names);
          finished = record {
            done = due_is p (scene_at p first r) (with_line (user_line (scene_at p first r)) nothing_yet) (accepted p first r set short names)
                (and_true _ true (lost_settled p (scene_at p first r) (with_line (user_line (scene_at p first r)) nothing_yet) (user_line (scene_at p first r)) gone) refl);
            at_once = refl;
          };
          answer = unheard_is (with_line (user_line (scene_at p first r)) nothing_yet) here (ap is_unheard fate) refl;
        },
        and_true _ true (or_left _ _ (ap not gone)) refl,
      )

  -- where it arrives
  module _ (j : Journal) (reply : Reply) (few : length j.lines < budget p) (sv : ServedRight p (scene_at p first r) (budget p) (user_line (scene_at p first r)) (hand (scene_at p first r).first (scene_at p first r).message) reply (with_line (user_line (scene_at p first r)) nothing_yet) j) where
    not_spent : is_spent (budget p) j ≡ false
    not_spent = elim (leb_tells (budget p) (length j.lines)) [ inl t ↦ (let h = t.1 in absurd (omega (arith, h, few))) | inr f ↦ f.0 ]

    unspent : {X : Type 0} → is_spent (budget p) j ≡ true ⊎ X → X
    unspent (inl e) = absurd (let f = not_spent in let z : true ≡ false = sym e ∙ f in cc)
    unspent (inr x) = x

    stands_user : In (user_line (scene_at p first r)) j.lines
    stands_user = subst (λ (xs : List Line). In (user_line (scene_at p first r)) xs) (sym sv.keeps.keeps.grows.1) (in_right (user_line (scene_at p first r)) sv.keeps.keeps.grows.0 (user_line (scene_at p first r) ∷ []) here)

    alone : sender_follows (scene_at p first r) (user_line (scene_at p first r)) ≡ false
    alone = never (is_sent (user_line (scene_at p first r)).fate)

    fine : (e : Line) → In e j.lines → (is_served (scene_at p first r) j e ≡ true) × (is_settled_line p (scene_at p first r) j e ≡ true)
    fine e m = elim (either_true (nat_le e.number (last_number (scene_at p first r) (with_line (user_line (scene_at p first r)) nothing_yet))) _ (of_all _ e j.lines (unspent sv.keeps.keeps.finished) m)) [
      | inr y ↦ both_true (is_served (scene_at p first r) j e) _ y
      | inl low ↦
          let old = old_line (scene_at p first r) sv.keeps.keeps.grows.0 (user_line (scene_at p first r) ∷ []) e (subst (λ (xs : List Line). AllLicensed (scene_at p first r) xs) sv.keeps.keeps.grows.1 sv.keeps.keeps.licensed) (subst (λ (xs : List Line). In e xs) sv.keeps.keeps.grows.1 m)
          (is_at_most e.number (last_number (scene_at p first r) (with_line (user_line (scene_at p first r)) nothing_yet)) low) in
          elim (in_first e (user_line (scene_at p first r)) [] old) [
            | inr none ↦ elim none [ ]
            | inl same ↦
                let w = unspent sv.own in
                subst (λ (l : Line). (is_served (scene_at p first r) j l ≡ true) × (is_settled_line p (scene_at p first r) j l ≡ true)) (sym same) (served_alone (scene_at p first r) j (user_line (scene_at p first r)) alone w.0, w.1)
          ]
    ]

    all_fine : (last : Reply) → Right p (scene_at p first r) (by_user (scene_at p first r)) j last → IsRight p (scene_at p first r) j last × Thorough (scene_at p first r) j
    all_fine last answer = (
      record {
        licensed = sv.keeps.keeps.licensed;
        accepts = accepts_of p (scene_at p first r) j sv.keeps.keeps.accepted;
        finished = record {
          done = due_is p (scene_at p first r) j sv.keeps.keeps.accepted (all_in (is_settled_line p (scene_at p first r) j) j.lines (λ e m. (fine e m).1));
          at_once = sv.keeps.at_once;
        };
        answer = answer;
      },
      all_in (is_served (scene_at p first r) j) j.lines (λ e m. (fine e m).0),
    )

    untold : (user_line (scene_at p first r)).fate ≡ NoReply → Right p (scene_at p first r) (by_user (scene_at p first r)) j (user_in_vain (scene_at p first r))
    untold fate = unheard_is j stands_user (ap is_unheard fate) (or_right (accepts_none (by_user (scene_at p first r)) j) _ (ap (λ (b : Bool). not (not b)) (any_in (λ (l : Line). is_noreply l.fate) (user_line (scene_at p first r)) j.lines stands_user (ap is_noreply fate))))

    back_user : (user_line (scene_at p first r)).fate ≡ Sent → hears_by (λ l. l.number == (user_line (scene_at p first r)).number) (by_user (scene_at p first r)) j.lines ≡ true
    back_user fate =
        let came : came_back (by_user (scene_at p first r)) (user_line (scene_at p first r)) [] ≡ true =
        leads_from (is_answered_line (by_user (scene_at p first r))) (λ l. is_sent l.fate) (user_line (scene_at p first r)) []
        ∙ or_left (is_answered_line (by_user (scene_at p first r)) (user_line (scene_at p first r))) _ (and_true ((user_line (scene_at p first r)).number == (scene_at p first r).sent + 1) _ number_is (ap is_sent fate)) in
        subst (λ (xs : List Line). hears_by (λ l. l.number == (user_line (scene_at p first r)).number) (by_user (scene_at p first r)) xs ≡ true) (sym sv.keeps.keeps.grows.1)
        (some_stays (λ l before. (l.number == (user_line (scene_at p first r)).number) && came_back (by_user (scene_at p first r)) l before) sv.keeps.keeps.grows.0 (user_line (scene_at p first r) ∷ [])
        (or_left _ _ (and_true ((user_line (scene_at p first r)).number == (user_line (scene_at p first r)).number) _ ((nat_same_decides _ _).1 refl) came)))

    come_user : (user_line (scene_at p first r)).fate ≡ Sent → is_answered (by_user (scene_at p first r)) j.lines ≡ true
    come_user fate = any_in (is_answered_line (by_user (scene_at p first r))) (user_line (scene_at p first r)) j.lines stands_user (and_true ((user_line (scene_at p first r)).number == (scene_at p first r).sent + 1) _ number_is (ap is_sent fate))

    told : (user_line (scene_at p first r)).fate ≡ Sent → Right p (scene_at p first r) (by_user (scene_at p first r)) j reply
    told fate = by reply sv.right
      where
        narrow : (a b : Bool) → (a && (b && false)) ≡ true → ⊥
        narrow true true e = (let z : false ≡ true = e in cc)
        narrow true false e = (let z : false ≡ true = e in cc)
        narrow false b e = (let z : false ≡ true = e in cc)

        long_one : hears_by (λ l. depth l == 128) (serving_of (with_line (user_line (scene_at p first r)) nothing_yet) (hand (scene_at p first r).first (scene_at p first r).message) (user_line (scene_at p first r)).number) j.lines ≡ true → ⊥
        long_one e =
            let x = heard_line (λ l. depth l == 128) (serving_of (with_line (user_line (scene_at p first r)) nothing_yet) (hand (scene_at p first r).first (scene_at p first r).message) (user_line (scene_at p first r)).number) j.lines e in
            let n = (ground p first r set short names).short j.lines x.0 sv.keeps.keeps.licensed x.1 in
            let m = (nat_same_decides (depth x.0) 128).0 x.2 in
            omega (arith, n, m)

        by : (y : Reply) → RightReply p (scene_at p first r) (serving_of (with_line (user_line (scene_at p first r)) nothing_yet) (hand (scene_at p first r).first (scene_at p first r).message) (user_line (scene_at p first r)).number) j (is_spent (budget p) j) y
            → Right p (scene_at p first r) (by_user (scene_at p first r)) j y
        by y (placed.usual able x) = right_too p (scene_at p first r) j (user_line (scene_at p first r)).number sv.keeps.keeps.licensed (back_user fate) (come_user fate) y x
        by _ (placed.unable h) = absurd (narrow (nat_lt (length (scene_at p first r).message.trace) 128) (is_none (fault_of r.body)) h)
        by _ (placed.limit on h none) = absurd (elim (either_true (is_spent (budget p) j) _ h) [
          | inl e ↦ (let f = not_spent in let z : true ≡ false = sym e ∙ f in cc)
          | inr e ↦ long_one e
        ])

pub request_is_right : RequestIsRight
request_is_right c p first r j reply set short names q = by j reply q
  where
    few : (j : Journal) (reply : Reply) → IsRequest (scene_at p first r) (budget p) j reply → length j.lines < budget p
    few j reply q = never_spent (serving_pays resolution_pays parts_pay probes_pay judge_is_master replies_able) p first r j reply set q

    served_right : (j : Journal) (reply : Reply) → arrives (user_line (scene_at p first r)).fate ≡ true → Does (scene_at p first r) (budget p) (Serves (hand (scene_at p first r).first (scene_at p first r).message) reply) (with_line (user_line (scene_at p first r)) nothing_yet) j
        → ServedRight p (scene_at p first r) (budget p) (user_line (scene_at p first r)) (hand (scene_at p first r).first (scene_at p first r).message) reply (with_line (user_line (scene_at p first r)) nothing_yet) j
    served_right j reply arrived d =
        serving_is_right c p (scene_at p first r) (budget p) (Serves (hand (scene_at p first r).first (scene_at p first r).message) reply) (with_line (user_line (scene_at p first r)) nothing_yet) j
        (ground p first r set short names) d (at_hand p first r set short names arrived) (comes p first r set short names)

    by : (j : Journal) (reply : Reply) → IsRequest (scene_at p first r) (budget p) j reply → IsRight p (scene_at p first r) j reply × Thorough (scene_at p first r) j
    by _ _ (not_heard fate) = lost_case p first r set short names fate
    by _ _ (not_told {j} reply fate d) =
        let sv = served_right j reply (ap arrives fate) d in
        all_fine p first r set short names j reply (few j (user_in_vain (scene_at p first r)) (not_told reply fate d)) sv (user_in_vain (scene_at p first r)) (untold p first r set short names j reply (few j (user_in_vain (scene_at p first r)) (not_told reply fate d)) sv fate)
    by _ _ (answers {j} reply fate d) =
        let sv = served_right j reply (ap arrives fate) d in
        all_fine p first r set short names j reply (few j reply (answers reply fate d)) sv reply (told p first r set short names j reply (few j reply (answers reply fate d)) sv fate)
