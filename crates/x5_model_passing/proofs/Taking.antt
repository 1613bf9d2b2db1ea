-- What is heard by a reference is passed back to the message at hand: its line stands in the journal, so the lemmas on
-- lines serve; and what was accepted meanwhile is known by what was done.
use Rattle.std.proofs.Common.{◌≡◌, ℕ, Bool, true, false, not, ◌||◌, ◌⊎◌, inl, inr, List, [], ◌∷◌, length, refl, sym, ap, subst, ◌∙◌, Option, if◌then◌else◌}
use Rattle.x5_model.specs.Members.{In, here}
use Rattle.x5_model.specs.Values.{key_of}
use Rattle.x5_model.specs.References.{Reference}
use Rattle.x5_model.specs.Answers.{Changed, DirError, Reply, Answered}
use Rattle.x5_model.specs.Problems.{unavailable, unable_to_proceed, administrative_limit_exceeded}
use Rattle.x5_model.proofs.Lists.{in_first, in_right, either_true, or_left, or_right}
use Rattle.x5_model_tree.specs.Ask.{Refuses}
use Rattle.x5_model_run.specs.Journal.{Line, Journal, is_done, is_wide}
use Rattle.x5_model_run.specs.Holdings.{Holdings}
use Rattle.x5_model_run.specs.Needs.{is_unable}
use Rattle.x5_model_run.specs.History.{Point, knowledge_at, tree_at, holdings_at}
use Rattle.x5_model_run.specs.Chain.{Scene, IsCarried}
use Rattle.x5_model_run.specs.Covers.{covered_roots, told}
use Rattle.x5_model_run.specs.Right as right
use Rattle.x5_model_run.specs.Right.{accepts_none, heard_whole, same_phase}
use Rattle.x5_model_replies.specs.Replies as placed
use Rattle.x5_model_replies.specs.Replies.{RightReply, usual}
use Rattle.x5_model.proofs.Decide.{nat_same_decides}
use Rattle.x5_model_serve.specs.Finding.{Onward, IsLooked, find}
use Rattle.x5_model_serve.specs.Answering.{is_service, in_vain, is_unavailable}
use Rattle.x5_model_serve.specs.Serving.{Hand, hand_of, line_for, Heard, Unheard, Hears, Does, Takes, Casts, heard_or, is_spent, limit_reply}
use Rattle.x5_model_serve.specs.Claims.{Setting, AtHand, Keeps, asked_line, serving_of}
use Rattle.x5_model_replies.specs.Heard.{HeardRight, TakenRight, IsSpentReply}
use Rattle.x5_model_find.proofs.Needing.{false_true}
use Rattle.x5_model_joins.proofs.Backs.{own_answered}
use Rattle.x5_model_verdicts.proofs.At.{of_settled}
use Rattle.x5_model_passing.specs.Passing.{PassedOn, Meanwhile}
use Rattle.x5_model_passing.specs.Acceptance.{IsSilent, is_off}
use Rattle.x5_model_passing.specs.Taking.{GoesOn, IsRightFor, TakingIsRight, CastingIsRight}
use Rattle.x5_model_passing.proofs.Same.{Ways, the_way, way_able, way_phase, way_done}
use Rattle.x5_model_passing.proofs.Back.{none_by_error, within_passes_back, passes_back}
use Rattle.x5_model_passing.proofs.Silence.{quiet}

-- ---- for a line

-- the premises for the message of a line that stands in the journal
pub record OnLine (p : Point) (s : Scene) (most : ℕ) (l : Line) (r : Reference) (i j : Journal) : Type 0 where
  pub setting : Setting p s
  pub stands : In l j.lines
  pub looked : IsLooked l.message
  pub found : find (holdings_at p l.receiver) l.message ≡ Onward r
  pub keeps : Keeps p s most (hand_of l) i j

module _ (p : Point) (s : Scene) (most : ℕ) (l : Line) (r : Reference) (i j : Journal) (on : OnLine p s most l r i j) where
  way : Ways (holdings_at p l.receiver) l.message r
  way = the_way (holdings_at p l.receiver) l.message r on.found

  pub able_here : is_unable (s.holdings l.receiver) l.message ≡ false
  able_here = ap (λ (f : ℕ → Holdings). is_unable (f l.receiver) l.message) on.setting.holdings ∙ way_able
      (holdings_at p l.receiver) l.message r way

  none_before : j.accepted ≡ [] → length i.accepted ≡ 0
  none_before e = by i.accepted refl
    where
      by : (xs : List ℕ) → i.accepted ≡ xs → length i.accepted ≡ 0
      by [] f = ap length f
      by (a ∷ xs) f = absurd (elim (subst (λ (ys : List ℕ). In a ys) e
          (on.keeps.only_more a (subst (λ (ys : List ℕ). In a ys) (sym f) here))) [ ])

  pub meanwhile : (reply : Reply) → (is_off reply ≡ true → IsSilent i j) → Meanwhile p s l (length i.accepted) j reply
  meanwhile reply quiet = record {
    accepted = on.keeps.accepted;
    only_more = none_before;
    reads = λ off. ap length (on.keeps.reads off);
    silent = λ e. elim (quiet (off_of e)) [ inl f ↦ inl (ap length f) | inr f ↦ inr f ];
  }
    where
      off_of : (is_service unavailable reply || is_service administrative_limit_exceeded reply) ≡ true → is_off reply ≡ true
      off_of e = elim (either_true (is_service unavailable reply) (is_service administrative_limit_exceeded reply) e) [
        | inl f ↦ or_left (is_service unavailable reply) _ f
        | inr f ↦ or_right (is_service unavailable reply) _ (or_left (is_service administrative_limit_exceeded reply) _ f)
      ]

  pub none_by_refusal : (e : DirError) → told (λ key. false) (tree_at p) l.message ≡ Refuses e → accepts_none
      (asked_line l (length i.accepted)) j ≡ true
  none_by_refusal e h =
      (nat_same_decides (length j.accepted) (length i.accepted)).1
      (none_by_error p s l j (length i.accepted) (Answered Changed) on.setting on.keeps.licensed on.stands on.looked
      (meanwhile (Answered Changed) (λ f. absurd (false_true f))) e h)

  pub same_phase_here : (u : Reference) → u.progress ≡ r.progress → same_phase (asked_line l (length i.accepted)) u ≡ true
  same_phase_here u e = by (is_done l.message.progress) (ap is_done e ∙ way_phase (holdings_at p l.receiver) l.message r way)
    where
      by : (b : Bool) → is_done u.progress ≡ b → (if b then is_done u.progress else not (is_done u.progress)) ≡ true
      by true f = f
      by false f = ap not f

  pub nothing_or_lost : IsSilent i j → (accepts_none (asked_line l (length i.accepted)) j || not (heard_whole j.lines)) ≡ true
  nothing_or_lost (inl e) = or_left _ _ ((nat_same_decides (length j.accepted) (length i.accepted)).1 (ap length e))
  nothing_or_lost (inr e) = or_right (accepts_none (asked_line l (length i.accepted)) j) _ (ap not e)

  pub within_here : is_done l.message.progress ≡ true → (is_wide l.message.kind ≡ false)
      × (covered_roots (knowledge_at p) (in_vain r) ≡ key_of l.message.target ∷ [])
  within_here d =
      let w = way_done (holdings_at p l.receiver) l.message r way d in
      (w.0, ap (λ (y : Reference). covered_roots (knowledge_at p) (in_vain y)) w.1.1)

  module _ (from : Option ℕ) where
    -- somebody was heard
    pub heard_here : (reply : Reply) (k : Line) (stood : ℕ) → In k.receiver r.agents → IsCarried from (line_for (hand_of l)) r k.message
        → (is_wide r.kind ≡ true → is_service unable_to_proceed reply ≡ false) → (is_off reply ≡ true → IsSilent i j)
        → HeardRight p s most (asked_line l stood) j k reply → IsRightFor p s most (hand_of l) l.number i j reply
    heard_here reply k stood ia carried wide quiet h = (
      passes_back p s most l k from r j (length i.accepted) reply passed (meanwhile reply quiet) wide again,
      within_passes_back p s l k from r j.lines (length i.accepted) h.stood reply passed h.within,
    )
      where
        passed : PassedOn p s l k from r j.lines
        passed = record {
          setting = on.setting;
          licensed = on.keeps.licensed;
          stands = on.stands;
          looked = on.looked;
          found =
              on.found;
          agent = ia;
          carried = carried;
        }

        again : HeardRight p s most (asked_line l (length i.accepted)) j k reply
        again = record {
          stands = h.stands;
          heard = h.heard;
          back = h.back;
          stood = h.stood;
          right = h.right;
          followed =
              h.followed;
          within = h.within;
        }

    spent_here : (reply : Reply) → (is_off reply ≡ true → IsSilent i j) → IsSpentReply most j (Hears reply)
        → IsRightFor p s most (hand_of l) l.number i j reply
    spent_here reply quiet (e, f) = subst (λ (y : Reply). IsRightFor p s most (hand_of l) l.number i j y) (is_it reply e) (
      placed.limit (own_answered l (length i.accepted) j.lines on.stands) (or_left (is_spent most j) _ f)
          (nothing_or_lost (quiet (ap is_off (sym (is_it reply e))))),
      tt,
    )
      where
        is_it : (y : Reply) → Hears y ≡ Hears limit_reply → limit_reply ≡ y
        is_it y z = cc

    taking_here : (heard : Heard) → is_wide r.kind ≡ false → Does s most (Takes from (hand_of l) r heard) i j
        → TakenRight p s most (serving_of i (hand_of l) l.number) from (hand_of l) r j heard ⊎ IsSpentReply most j heard
        → IsRightFor p s most (hand_of l) l.number i j (heard_or (is_unavailable (in_vain r)) heard)
    taking_here Unheard narrow did (inl lost) = (
      usual (ap not able_here) (right.unheard lost (same_phase_here (in_vain r) refl) (nothing_or_lost (quiet s most _ i j did))),
      within_here,
    )
    taking_here Unheard narrow did (inr w) = (let e = w.0 in cc)
    taking_here (Hears reply) narrow did (inl w) =
        heard_here reply w.0 (length i.accepted) w.1 w.2 (λ y. absurd (false_true (sym narrow ∙ y))) (quiet s most _ i j did) w.3
    taking_here (Hears reply) narrow did (inr w) = spent_here reply (quiet s most _ i j did) w

    casting_here : (before : Journal) (a : ℕ) (reply : Reply) → In a r.agents → is_service unable_to_proceed reply ≡ false
        → Does s most (Casts from (hand_of l) r reply) i j
        → TakenRight p s most (serving_of before (hand_of l) l.number) from (hand_of l) (record r { agents = a ∷ [] }) j (Hears reply)
        ⊎ IsSpentReply most j (Hears reply)
        → IsRightFor p s most (hand_of l) l.number i j reply
    casting_here before a reply ia able did (inl w) =
        heard_here reply w.0 (length before.accepted) (subst (λ (x : ℕ). In x r.agents) (sym only) ia) carried (λ y. able)
        (quiet s most _ i j did) w.3
      where
        only : w.0.receiver ≡ a
        only = elim (in_first w.0.receiver a [] w.1) [ inl e ↦ e | inr n ↦ elim n [ ] ]

        carried : IsCarried from (line_for (hand_of l)) r w.0.message
        carried = (let c : IsCarried from (line_for (hand_of l)) (record r { agents = a ∷ [] }) w.0.message = w.2 in record {
          target_is = c.target_is;
          progress_is = c.progress_is;
          kind_is = c.kind_is;
          exclusions_are = c.exclusions_are;
          trace_is = c.trace_is;
          request_is = c.request_is;
        })
    casting_here before a reply ia able did (inr w) = spent_here reply (quiet s most _ i j did) w

-- ---- for the message at hand

pub hand_is : (p : Point) (s : Scene) (k : Hand) (i : Journal) (at : AtHand p s k i) → hand_of at.line ≡ k
hand_is p s k i at = λ t. record { receiver = at.receiver_is t; message = at.message_is t }

pub line_on : (p : Point) (s : Scene) (most : ℕ) (k : Hand) (r : Reference) (i j : Journal) (on : GoesOn p s k r i)
    → Keeps p s most k i j → OnLine p s most on.at_hand.line r i j
line_on p s most k r i j on keeps = record {
  setting = on.setting;
  stands = subst (λ (xs : List Line). In on.at_hand.line xs) (sym keeps.grows.1)
      (in_right on.at_hand.line keeps.grows.0 i.lines (of_settled (length k.message.trace) i.lines on.at_hand.line on.at_hand.at_hand));
  looked = subst (λ (h : Hand). IsLooked h.message) (sym (hand_is p s k i on.at_hand)) on.looked;
  found = subst (λ (h : Hand). find (holdings_at p h.receiver) h.message ≡ Onward r) (sym (hand_is p s k i on.at_hand)) on.found;
  keeps = subst (λ (h : Hand). Keeps p s most h i j) (sym (hand_is p s k i on.at_hand)) keeps;
}

pub taking_is_right : TakingIsRight
taking_is_right p s most from k r i j heard on narrow did keeps taken =
    let e = hand_is p s k i on.at_hand in
    let n : ℕ = on.at_hand.line.number in
    subst (λ (h : Hand). IsRightFor p s most h n i j (heard_or (is_unavailable (in_vain r)) heard)) e
    (taking_here p s most on.at_hand.line r i j (line_on p s most k r i j on keeps) from heard narrow
    (subst (λ (h : Hand). Does s most (Takes from h r heard) i j) (sym e) did)
    (subst (λ (h : Hand). TakenRight p s most (serving_of i h n) from h r j heard ⊎ IsSpentReply most j heard) (sym e) taken))

pub casting_is_right : CastingIsRight
casting_is_right p s most from k r i before j a reply on ia able did keeps taken =
    let e = hand_is p s k i on.at_hand in
    let n : ℕ = on.at_hand.line.number in
    subst (λ (h : Hand). IsRightFor p s most h n i j reply) e
    (casting_here p s most on.at_hand.line r i j (line_on p s most k r i j on keeps) from before a reply ia able
    (subst (λ (h : Hand). Does s most (Casts from h r reply) i j) (sym e) did)
    (subst (λ (h : Hand). TakenRight p s most (serving_of before h n) from h (record r { agents = a ∷ [] }) j (Hears reply)
    ⊎ IsSpentReply most j (Hears reply)) (sym e) taken))
