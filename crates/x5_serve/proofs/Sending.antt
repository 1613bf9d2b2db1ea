-- Messages that may be sent, and references within the limits, as they are seen from a network that was passed through:
-- it stays what it was.
use Rattle.std.proofs.Common.{◌≡◌, ℕ, ◌<◌, zero, suc, true, false, List, [], ◌∷◌, length, map, get_or, refl, sym, ap, subst, ◌∙◌, arith, Some, Option}
use Rattle.x5_model.specs.Words.{is_empty}
use Rattle.x5_model.specs.Members.{In, here, there}
use Rattle.x5_model.specs.References as model
use Rattle.x5_model.specs.Answers as answers
use Rattle.x5_model.proofs.Lists.{in_map}
use Rattle.x5_model_run.specs.Journal.{Journal, operation_of}
use Rattle.x5_model_run.specs.Chain.{Scene}
use Rattle.x5_model_serve.specs.Answering.{to_follow}
use Rattle.x5_model_serve.specs.Serving.{hand, Serves, Arrives, is_final}
use Rattle.x5_model_fitting.specs.Names.{Each}
use Rattle.x5_model_limits.specs.Messages.{BoundedReference, BoundedReply}
use Rattle.x5_ops.specs.ReferenceViews.{chained_view, reference_view}
use Rattle.x5_ops.specs.AnswerViews.{answer_view, reply_view}
use Rattle.x5_ops.specs.RequestViews.{body_view}
use Rattle.x5_ops.specs.declared.references.Chained.{Chained}
use Rattle.x5_ops.specs.declared.references.Reference.{Reference}
use Rattle.x5_ops.specs.declared.answers.Answer.{Answer}
use Rattle.x5_ops.specs.declared.answers.Reply.{Reply}
use Rattle.x5_ops.specs.declared.answers.Reply.TheVariants as reply
use Rattle.x5_serve.specs.Networks.{left_of, Stays, DoesAt, IsCarriedBy, IsDue}
use Rattle.x5_serve.specs.Steps.{IsStep}
use Rattle.x5_serve.specs.Sendable.{MayBeSent, IsTaken, MayBeReplied, MayBePassedOn, KeepsLimits}
use Rattle.x5_serve.specs.declared.arrival.Step.{Step}
use Rattle.x5_serve.specs.declared.arrival.Step.TheVariants as step
use Rattle.x5_serve.specs.declared.network.Carried.{Carried}
use Rattle.x5_serve.specs.declared.network.Carried.TheVariants as carried
use Rattle.x5_serve.proofs.Cycle.{is_more}
use Rattle.x5_serve.proofs.Sent.{not_spent}
use Rattle.x5_serve.proofs.Limits.{onward_bounded, parts_bounded, probe_bounded, may_be_replied, left_bounded}
use Rattle.x5_serve.proofs.Operations.{served_passable}

in_at : {A : Type 0} (xs : List A) (n : ℕ) (x : A) → n < length xs → x ≡ get_or xs n x → In x xs
in_at [] n x h e = absurd (omega arith)
in_at {A} (y ∷ ys) zero x h e = subst (λ (z : A). In z (y ∷ ys)) (sym e) here
in_at (y ∷ ys) (suc n) x h e = there (in_at ys n x (omega arith) e)

-- a message that is looked at might be passed on
arrived : (s : Scene) (names : List (List ℕ)) (me : ℕ) (m : Chained) (j : Journal)
    → Arrives s (hand me (chained_view names m)) j → MayBePassedOn (hand me (chained_view names m))
arrived s names me m j a = record { unlooped = a.unlooped; short = a.short }

pub due_passable : (s : Scene) (names : List (List ℕ)) (me : ℕ) (m : Chained) (j : Journal)
    → IsDue s j (hand me (chained_view names m)) → MayBePassedOn (hand me (chained_view names m))
due_passable s names me m j due = arrived s names me m j due.arrives

module _ {N : Type 0} (scene : N → Scene) (most : N → ℕ) (names : N → List (List ℕ)) (journal : N → Journal) where
  pub sent_stays : (old now : N) (m : Chained) → Stays scene most names old now → MayBeSent (names old) m
      → MayBeSent (names now) m
  sent_stays old now m s p = subst (λ (ns : List (List ℕ)). MayBeSent ns m) (sym s.names_are) p

  pub passable_stays : (old now : N) (owner : ℕ) (m : Chained) → Stays scene most names old now
      → MayBePassedOn (hand owner (chained_view (names old) m)) → MayBePassedOn (hand owner (chained_view (names now) m))
  passable_stays old now owner m s p =
      subst (λ (ns : List (List ℕ)). MayBePassedOn (hand owner (chained_view ns m))) (sym s.names_are) p

  pub next_bounded : (old now : N) (references xs : List Reference) (n : ℕ) (x : Reference)
      → Stays scene most names old now → xs ≡ references → n < length xs → x ≡ get_or xs n x
      → Each BoundedReference (map (reference_view (names old)) references)
      → BoundedReference (reference_view (names now) x)
  next_bounded old now references xs n x s is h e bounded =
      subst (λ (ns : List (List ℕ)). BoundedReference (reference_view ns x)) (sym s.names_are)
      (bounded (reference_view (names old) x) (in_map (reference_view (names old)) x references
      (subst (λ (ys : List Reference). In x ys) is (in_at xs n x h e))))

  -- what a receiver takes
  pub taken_sent : (old now : N) (x : Carried) (taken : Chained) → Stays scene most names old now
      → IsTaken (names old) x → x ≡ carried.Taken taken → MayBeSent (names now) taken
  taken_sent old now x taken s is e =
      sent_stays old now taken s (subst (λ (y : Carried). IsTaken (names old) y) e is)

  pub dropped_sent : (old now : N) (x : Carried) (taken : Chained) → Stays scene most names old now
      → IsTaken (names old) x → x ≡ carried.Unheard taken → MayBeSent (names now) taken
  dropped_sent old now x taken s is e =
      sent_stays old now taken s (subst (λ (y : Carried). IsTaken (names old) y) e is)

  -- a message whose reply will be lost is taken as it was sent too, and takes one of those that were left
  pub dropped_is : (old now : N) (from to : ℕ) (m : Chained) (x : Carried) (taken : Chained)
      → IsCarriedBy (scene old) (most old) (names old) (journal old) (journal now) (Some from) to
      (chained_view (names old) m) x
      → x ≡ carried.Unheard taken → chained_view (names old) taken ≡ chained_view (names old) m
  dropped_is old now from to m x taken is e =
      (subst (IsCarriedBy (scene old) (most old) (names old) (journal old) (journal now) (Some from) to
      (chained_view (names old) m)) e is).3

  pub dropped_less : (old now : N) (from to : ℕ) (m : Chained) (x : Carried) (taken : Chained)
      → IsCarriedBy (scene old) (most old) (names old) (journal old) (journal now) (Some from) to
      (chained_view (names old) m) x
      → x ≡ carried.Unheard taken → Stays scene most names old now
      → left_of (most now) (journal now) < left_of (most old) (journal old)
  dropped_less old now from to m x taken is e s =
      let w = subst (IsCarriedBy (scene old) (most old) (names old) (journal old) (journal now) (Some from) to
      (chained_view (names old) m)) e is in
      let more : length (journal now).lines ≡ suc (length (journal old).lines) = ap (λ (j : Journal). length j.lines)
      w.2 in
      let some : length (journal old).lines < most old = not_spent (most old) (length (journal old).lines) w.0 in
      omega (arith, more, some, s.most_is)

  -- ---- a message that goes further
  module _ (old : N) (me : ℕ) (m : Chained) (x : Step)
      (is : IsStep (scene old) (most old) (names old) (journal old) (hand me (chained_view (names old) m)) x)
      (limits : KeepsLimits (length (names old)) (scene old) (journal old)) (inside : me < length (names old))
      (sent : MayBeSent (names old) m) where
    pub goes_passable : (r : Reference) → x ≡ step.Goes r → MayBePassedOn (hand me (chained_view (names old) m))
    goes_passable r e =
        let w = subst (IsStep (scene old) (most old) (names old) (journal old) (hand me (chained_view (names old) m))) e
        is in
        arrived (scene old) (names old) me m (journal old) w.0

    pub goes_bounded : (r : Reference) → x ≡ step.Goes r → BoundedReference (reference_view (names old) r)
    goes_bounded r e =
        let w = subst (IsStep (scene old) (most old) (names old) (journal old) (hand me (chained_view (names old) m))) e
        is in
        onward_bounded (length (names old)) (scene old) (journal old) limits (journal old)
        (hand me (chained_view (names old) m)) inside sent.bounded (reference_view (names old) r) w.1

    pub joins_passable : (a : Answer) (rs : List Reference) → x ≡ step.Joins a rs
        → MayBePassedOn (hand me (chained_view (names old) m))
    joins_passable a rs e =
        let w = subst (IsStep (scene old) (most old) (names old) (journal old) (hand me (chained_view (names old) m))) e
        is in
        arrived (scene old) (names old) me m (journal old) w.0

    pub joins_bounded : (a : Answer) (rs : List Reference) → x ≡ step.Joins a rs
        → Each BoundedReference (map (reference_view (names old)) rs)
    joins_bounded a rs e =
        let w = subst (IsStep (scene old) (most old) (names old) (journal old) (hand me (chained_view (names old) m))) e
        is in
        parts_bounded (length (names old)) (scene old) (journal old) limits (journal old)
        (hand me (chained_view (names old) m)) inside sent.bounded (map (reference_view (names old)) rs) w.2.rest

  -- ---- what is replied, and heard back
  module _ (now then : N) (me : ℕ) (m : Chained) (y : Reply) (s : Stays scene most names now then)
      (d : DoesAt scene most journal now then (Serves (hand me (chained_view (names now) m)) (reply_view (names now) y)))
    where
      pub back_replied : (operation : ℕ) → KeepsLimits (length (names now)) (scene now) (journal now)
          → me < length (names now) → MayBeSent (names now) m → operation ≡ operation_of (body_view m.request.body)
          → MayBeReplied (names then) operation y
      back_replied operation limits inside sent same =
          subst (λ (ns : List (List ℕ)). MayBeReplied ns operation y) (sym s.names_are)
          (may_be_replied (names now) (scene now) (most now) (journal now) (journal then) me m y operation limits inside
          sent same d)

      pub back_passable : (back : Reply) → reply_view (names then) back ≡ reply_view (names then) y
          → is_final (reply_view (names then) back) ≡ false → MayBePassedOn (hand me (chained_view (names then) m))
      back_passable back b e =
          let f : is_final (reply_view (names then) y) ≡ false = ap is_final (sym b) ∙ e in
          let g : is_final (reply_view (names now) y) ≡ false =
          subst (λ (ns : List (List ℕ)). is_final (reply_view ns y) ≡ false) s.names_are f in
          passable_stays now then me m s
          (served_passable (scene now) (most now) (hand me (chained_view (names now) m)) (reply_view (names now) y)
          (journal now) (journal then) d g)

  pub back_bounded : (then : N) (operation : ℕ) (y back : Reply) → MayBeReplied (names then) operation y
      → reply_view (names then) back ≡ reply_view (names then) y → BoundedReply (reply_view (names then) back)
  back_bounded then operation y back p b = subst (λ (z : answers.Reply). BoundedReply z) (sym b) p.bounded

  -- ---- what is made of a reply
  module _ (old : N) (owner : ℕ) (m : Chained) (y : Reply)
      (passable : is_final (reply_view (names old) y) ≡ false → MayBePassedOn (hand owner (chained_view (names old) m)))
      (bounded : BoundedReply (reply_view (names old) y)) where
    pub referral_passable : (r : Reference) → y ≡ reply.Refer r → MayBePassedOn (hand owner (chained_view (names old) m))
    referral_passable r e = passable (ap (λ (z : Reply). is_final (reply_view (names old) z)) e)

    pub referral_bounded : (r : Reference) → y ≡ reply.Refer r → BoundedReference (reference_view (names old) r)
    referral_bounded r e = subst (λ (z : Reply). BoundedReply (reply_view (names old) z)) e bounded

    module _ (a : Answer) (rs : List Reference) (e : y ≡ reply.Done a)
        (view : (ns : List (List ℕ)) → map (reference_view ns) rs ≡ to_follow (answer_view ns a)) where
      pub rest_passable : (length rs ≡ 0 → ⊥) → MayBePassedOn (hand owner (chained_view (names old) m))
      rest_passable some =
          passable (ap (λ (z : Reply). is_final (reply_view (names old) z)) e
          ∙ ap is_empty (sym (view (names old))) ∙ is_more (reference_view (names old)) rs some)

      pub rest_bounded : Each BoundedReference (map (reference_view (names old)) rs)
      rest_bounded =
          left_bounded (names old) a (map (reference_view (names old)) rs) (view (names old))
          (subst (λ (z : Reply). BoundedReply (reply_view (names old) z)) e bounded)
