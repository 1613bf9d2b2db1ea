-- What an agent does with a message that goes further, what is made of a reply, and what an update comes to.
use Rattle.std.proofs.Common.{◌≡◌, ℕ, ◌<◌, true, List, [], ◌∷◌, length, map, refl, sym, ap, subst, ◌∙◌, Ok, Option, Some, None}
use Rattle.x5_model.specs.Words.{is_empty}
use Rattle.x5_model.specs.Answers as model
use Rattle.x5_model.specs.Entries.{Named}
use Rattle.x5_model_run.specs.Needs.{due_probes}
use Rattle.x5_model_run.specs.Journal.{Journal}
use Rattle.x5_model_run.specs.Chain.{Scene}
use Rattle.x5_model_heard.specs.Told.{are_agents, name_agents, KnowsAgents, IsTold}
use Rattle.x5_model_heard.proofs.Loops.{probed_misses, probed_clear}
use Rattle.x5_model_serve.specs.Answering.{is_unavailable, of_these, to_follow, passed_by, only_unexplored}
use Rattle.x5_model_serve.specs.Serving.{hand, Serves, Follows, Gathers, Probes, Updates, Does, judged, holds_now, with_accepted, gathered_reply, final, not_done, updates}
use Rattle.x5_ops.specs.ReferenceViews.{chained_view, reference_view, access_view}
use Rattle.x5_ops.specs.AnswerViews.{answer_view, error_view, reply_view}
use Rattle.x5_ops.specs.declared.answers.Answer.{Answer}
use Rattle.x5_ops.specs.declared.answers.DirError.{DirError}
use Rattle.x5_ops.specs.declared.answers.Reply.{Reply}
use Rattle.x5_ops.specs.declared.answers.Reply.TheVariants as reply
use Rattle.x5_ops.specs.declared.references.AccessPoint.{AccessPoint}
use Rattle.x5_ops.specs.declared.references.Chained as code
use Rattle.x5_ops.specs.declared.references.Reference as code_reference
use Rattle.x5_merge.specs.Merging.{are_alike}
use Rattle.x5_serve.specs.Networks.{Stays, DoesAt, IsVerdict, IsDue, IsReady, IsOwnPart}
use Rattle.x5_serve.specs.Steps.{gathered_view, IsStep, IsProbed, Goes}
use Rattle.x5_serve.specs.declared.network.Verdict.{Verdict}
use Rattle.x5_serve.specs.declared.network.Verdict.TheVariants as verdict
use Rattle.x5_serve.specs.declared.parts.Gathered.{Gathered}
use Rattle.x5_serve.specs.declared.arrival.Step.{Step}
use Rattle.x5_serve.specs.declared.arrival.Step.TheVariants as step
use Rattle.x5_serve.specs.declared.dispatch.Probed.{Probed}
use Rattle.x5_serve.specs.declared.dispatch.Probed.TheVariants as probed
use Rattle.x5_model_limits.specs.Messages.{BoundedReference}
use Rattle.x5_serve.specs.Sendable.{MayBeSent, KeepsLimits}
use Rattle.x5_serve.proofs.Limits.{probe_bounded}
use Rattle.x5_serve.proofs.Cycle.{goes_does, refers_does, parts_does, unexplored_does, is_last, is_more, left_named, ready_now, ready_then, does_alone, probe_named, onward_named, parts_named}

module _ {N : Type 0} (scene : N → Scene) (most : N → ℕ) (names : N → List (List ℕ)) (journal : N → Journal) where
  -- ---- a message that goes further
  module _ (old : N) (me : ℕ) (m : code.Chained) (x : Step)
      (is : IsStep (scene old) (most old) (names old) (journal old) (hand me (chained_view (names old) m)) x) where
    pub step_named : (r : code_reference.Reference) → x ≡ step.Goes r → KnowsAgents (length (names old)) (scene old)
        → me < length (names old)
        → are_agents (length (names old)) (map (access_view (names old)) r.agents) ≡ true
    step_named r e knows h =
        let w = subst (IsStep (scene old) (most old) (names old) (journal old) (hand me (chained_view (names old) m))) e
        is in
        onward_named (length (names old)) (scene old) (journal old) (hand me (chained_view (names old) m))
        (reference_view (names old) r) knows h w.1

    pub step_goes : (new : N) (r : code_reference.Reference) (y : Reply) → x ≡ step.Goes r
        → Goes (scene old) (most old) (Some me) (hand me (chained_view (names old) m)) (reference_view (names old) r)
        (reply_view (names old) y) (journal old) (journal new)
        → DoesAt scene most journal old new (Serves (hand me (chained_view (names old) m)) (reply_view (names old) y))
    step_goes new r y e d =
        let w = subst (IsStep (scene old) (most old) (names old) (journal old) (hand me (chained_view (names old) m))) e
        is in
        goes_does (scene old) (most old) (hand me (chained_view (names old) m)) (reference_view (names old) r)
        (reply_view (names old) y) (journal old) (journal new) w.0 w.1 w.2 d

    own_part : (a : Answer) (rs : List code_reference.Reference) → x ≡ step.Joins a rs
        → IsOwnPart (scene old) (names old) (journal old) (hand me (chained_view (names old) m)) a rs
    own_part a rs e = (subst (IsStep (scene old) (most old) (names old) (journal old)
        (hand me (chained_view (names old) m))) e is).2

    pub rest_named : (a : Answer) (rs : List code_reference.Reference) → x ≡ step.Joins a rs
        → KnowsAgents (length (names old)) (scene old) → me < length (names old)
        → name_agents (length (names old)) (map (reference_view (names old)) rs) ≡ true
    rest_named a rs e knows h =
        parts_named (length (names old)) (scene old) (journal old) (hand me (chained_view (names old) m))
        (map (reference_view (names old)) rs) knows h (own_part a rs e).rest

    pub own_alike : (a : Answer) (rs : List code_reference.Reference) → x ≡ step.Joins a rs → are_alike (a ∷ []) ≡ true
    own_alike a rs e = (own_part a rs e).kind

    pub step_joins : (new : N) (a : Answer) (rs : List code_reference.Reference) (whole : Gathered) (y : Reply)
        → x ≡ step.Joins a rs
        → ((ns : List (List ℕ)) (who : ℕ) → reply_view ns y ≡ gathered_reply (hand who (chained_view ns m))
        (gathered_view ns whole))
        → DoesAt scene most journal old new (Gathers (Some me) (hand me (chained_view (names old) m))
        (map (reference_view (names old)) rs) (answer_view (names old) a) (gathered_view (names old) whole))
        → DoesAt scene most journal old new (Serves (hand me (chained_view (names old) m)) (reply_view (names old) y))
    step_joins new a rs whole y e f d =
        let w = subst (IsStep (scene old) (most old) (names old) (journal old) (hand me (chained_view (names old) m))) e
        is in
        parts_does (scene old) (most old) (hand me (chained_view (names old) m)) (map (reference_view (names old)) rs)
        (answer_view (names old) a) (gathered_view (names old) whole) (reply_view (names old) y) (journal old)
        (journal new) w.0 w.2.begins w.1 w.2.part w.2.rest (f (names old) me) d

    pub step_updates : (new : N) (y : Reply) → x ≡ step.Updates
        → DoesAt scene most journal old new (Updates (hand me (chained_view (names old) m)) (reply_view (names old) y))
        → DoesAt scene most journal old new (Serves (hand me (chained_view (names old) m)) (reply_view (names old) y))
    step_updates new y e d =
        let w = subst (IsStep (scene old) (most old) (names old) (journal old) (hand me (chained_view (names old) m))) e
        is in
        updates w.1 (reply_view (names old) y) w.0 w.2 w.3 d

  -- ---- what is made of a reply
  module _ (old : N) (from owner : ℕ) (m : code.Chained) (y : Reply) where
    pub follows_none : (a : Answer) (rs : List code_reference.Reference) → y ≡ reply.Done a → length rs ≡ 0
        → ((ns : List (List ℕ)) → map (reference_view ns) rs ≡ to_follow (answer_view ns a))
        → DoesAt scene most journal old old (Follows (Some from) (hand owner (chained_view (names old) m))
        (reply_view (names old) y) (model.Answered (answer_view (names old) a)))
    follows_none a rs e none view =
        rw e (final (model.Answered (answer_view (names old) a)) (ap is_empty (sym (view (names old))) ∙ is_last
        (reference_view (names old)) rs none))

    pub follows_error : (x : DirError) → y ≡ reply.Failed x
        → DoesAt scene most journal old old (Follows (Some from) (hand owner (chained_view (names old) m))
        (reply_view (names old) y) (model.Failed (error_view (names old) x)))
    follows_error x e = rw e (final (model.Failed (error_view (names old) x)) refl)

    pub follows_referral : (new : N) (r : code_reference.Reference) (z : Reply) → y ≡ reply.Refer r
        → Goes (scene old) (most old) (Some from) (hand owner (chained_view (names old) m)) (reference_view (names old)
        r) (reply_view (names old) z) (journal old) (journal new)
        → DoesAt scene most journal old new (Follows (Some from) (hand owner (chained_view (names old) m))
        (reply_view (names old) y) (reply_view (names old) z))
    follows_referral new r z e d =
        rw e (refers_does (scene old) (most old) (Some from) (hand owner (chained_view (names old) m))
        (reference_view (names old) r) (reply_view (names old) z) (journal old) (journal new) d)

    pub follows_rest : (new : N) (a b : Answer) (rs : List code_reference.Reference) (whole : Gathered) (z : Reply)
        → y ≡ reply.Done a
        → (length rs ≡ 0 → ⊥) → ((ns : List (List ℕ)) → map (reference_view ns) rs ≡ to_follow (answer_view ns a))
        → ((ns : List (List ℕ)) → answer_view ns b ≡ only_unexplored (passed_by (answer_view ns a)) (answer_view ns a))
        → ((ns : List (List ℕ)) (who : ℕ) → reply_view ns z ≡ gathered_reply (hand who (chained_view ns m))
        (gathered_view ns whole))
        → DoesAt scene most journal old new (Gathers (Some from) (hand owner (chained_view (names old) m))
        (map (reference_view (names old)) rs) (answer_view (names old) b) (gathered_view (names old) whole))
        → DoesAt scene most journal old new (Follows (Some from) (hand owner (chained_view (names old) m))
        (reply_view (names old) y) (reply_view (names old) z))
    follows_rest new a b rs whole z e some left rest is d =
        rw e (unexplored_does (scene old) (most old) (Some from) (hand owner (chained_view (names old) m))
        (answer_view (names old) a) (answer_view (names old) b) (map (reference_view (names old)) rs)
        (gathered_view (names old) whole) (reply_view (names old) z) (journal old) (journal new) (left (names old))
        (is_more (reference_view (names old)) rs some) (rest (names old)) (is (names old) owner) d)

    pub referral_named : (r : code_reference.Reference) → y ≡ reply.Refer r → IsTold (length (names old))
        (reply_view (names old) y)
        → are_agents (length (names old)) (map (access_view (names old)) r.agents) ≡ true
    referral_named r e told = (subst (λ (z : Reply). IsTold (length (names old)) (reply_view (names old) z)) e
        told).agents

    pub rest_is_named : (a : Answer) (rs : List code_reference.Reference) → y ≡ reply.Done a
        → IsTold (length (names old)) (reply_view (names old) y)
        → ((ns : List (List ℕ)) → map (reference_view ns) rs ≡ to_follow (answer_view ns a))
        → name_agents (length (names old)) (map (reference_view (names old)) rs) ≡ true
    rest_is_named a rs e told view =
        left_named (length (names old)) (answer_view (names old) a) (map (reference_view (names old)) rs)
        (view (names old))
        (subst (λ (z : Reply). IsTold (length (names old)) (reply_view (names old) z)) e told)

  -- ---- updates
  module _ (old : N) (me : ℕ) (m : code.Chained) (x : Verdict)
      (due : IsDue (scene old) (journal old) (hand me (chained_view (names old) m)))
      (is : IsVerdict (scene old) (names old) (journal old) (hand me (chained_view (names old) m)) x) where
    pub update_refused : (z : DirError) → x ≡ verdict.Refused z
        → DoesAt scene most journal old old (Updates (hand me (chained_view (names old) m))
        (model.Failed (error_view (names old) z)))
    update_refused z e =
        not_done (error_view (names old) z)
        (subst (IsVerdict (scene old) (names old) (journal old) (hand me (chained_view (names old) m))) e is)

    passed : (r : Option code_reference.Reference) → x ≡ verdict.Passed r
        → IsVerdict (scene old) (names old) (journal old) (hand me (chained_view (names old) m)) (verdict.Passed r)
    passed r e = subst (IsVerdict (scene old) (names old) (journal old) (hand me (chained_view (names old) m))) e is

    pub alone_ready : (r : Option code_reference.Reference) → x ≡ verdict.Passed r → r ≡ None
        → IsReady (scene old) (journal old) (hand me (chained_view (names old) m))
    alone_ready r e q =
        let w = passed None (e ∙ ap verdict.Passed q) in
        ready_now (scene old) (hand me (chained_view (names old) m)) (journal old) w.0 due w.1

    pub alone_does : (new : N) (r : Option code_reference.Reference) → x ≡ verdict.Passed r → r ≡ None
        → journal new ≡ with_accepted me (journal old)
        → DoesAt scene most journal old new (Updates (hand me (chained_view (names old) m))
        (model.Answered model.Changed))
    alone_does new r e q accepted =
        let w = passed None (e ∙ ap verdict.Passed q) in
        does_alone (scene old) (most old) (hand me (chained_view (names old) m)) (journal old) (journal new) w.0 w.1 w.2
        accepted

    module _ (o : Option code_reference.Reference) (r : code_reference.Reference) (e : x ≡ verdict.Passed o)
        (q : o ≡ Some r) where
      probes_due : (mine : List Named) × (judged (scene old) (journal old) (hand me (chained_view (names old) m)) ≡ Ok
          mine)
          × (due_probes (holds_now (scene old) (journal old) (hand me (chained_view (names old) m)))
          (chained_view (names old) m) ≡ reference_view (names old) r ∷ [])
      probes_due = passed (Some r) (e ∙ ap verdict.Passed q)

      pub probed_named : KnowsAgents (length (names old)) (scene old) → me < length (names old)
          → are_agents (length (names old)) (map (access_view (names old)) r.agents) ≡ true
      probed_named knows h =
          probe_named (length (names old)) (scene old) (journal old) (hand me (chained_view (names old) m))
          (reference_view (names old) r) knows h probes_due.2

      pub probed_bounded : KeepsLimits (length (names old)) (scene old) (journal old) → me < length (names old)
          → MayBeSent (names old) m → BoundedReference (reference_view (names old) r)
      probed_bounded limits h sent =
          probe_bounded (length (names old)) (scene old) (journal old) limits (journal old)
          (hand me (chained_view (names old) m)) h sent.bounded (reference_view (names old) r) probes_due.2

      module _ (now : N) (p : Probed)
          (d : IsProbed (scene old) (most old) (names old) (hand me (chained_view (names old) m))
          (reference_view (names old) r) (journal old) (journal now) p) where
        pub probed_ends : (z : DirError) → p ≡ probed.Ends z
            → DoesAt scene most journal old now (Updates (hand me (chained_view (names old) m))
            (model.Failed (error_view (names old) z)))
        probed_ends z f =
            subst (IsProbed (scene old) (most old) (names old) (hand me (chained_view (names old) m))
            (reference_view (names old) r) (journal old) (journal now)) f d
            probes_due.0 probes_due.1 probes_due.2

        module _ (noted : List AccessPoint) (f : p ≡ probed.Through noted) where
          through : Does (scene old) (most old) (Probes (hand me (chained_view (names old) m))
              (reference_view (names old) r) (reference_view (names old) r).agents (map (access_view (names old))
              noted)) (journal old) (journal now)
          through = subst (IsProbed (scene old) (most old) (names old) (hand me (chained_view (names old) m))
              (reference_view (names old) r) (journal old) (journal now)) f d

          pub probed_missed : (y : Reply) → (length noted ≡ 0 → ⊥)
              → ((ns : List (List ℕ)) → reply_view ns y ≡ is_unavailable (of_these (map (access_view ns) noted)
              (reference_view ns r)))
              → DoesAt scene most journal old now (Updates (hand me (chained_view (names old) m))
              (reply_view (names old) y))
          probed_missed y some g =
              probed_misses (access_view (names old)) (hand me (chained_view (names old) m)) (reference_view (names old)
              r) probes_due.0 probes_due.1 probes_due.2 noted (reply_view (names old) y) some (g (names old))
              through

          pub probed_ready : Stays scene most names old now → IsReady (scene now) (journal now)
              (hand me (chained_view (names now) m))
          probed_ready s =
              subst (λ (ns : List (List ℕ)). IsReady (scene now) (journal now) (hand me (chained_view ns m)))
              (sym s.names_are)
              (subst (λ (z : Scene). IsReady z (journal now) (hand me (chained_view (names old) m))) (sym s.scene_is)
              (ready_then (scene old) (most old) (hand me (chained_view (names old) m)) (reference_view (names old) r)
              (reference_view (names old) r).agents (map (access_view (names old)) noted) (journal old)
              (journal now) probes_due.0 due probes_due.1 probes_due.2 through))

          pub probed_does : (new : N) → length noted ≡ 0 → journal new ≡ with_accepted me (journal now)
              → DoesAt scene most journal old new (Updates (hand me (chained_view (names old) m))
              (model.Answered model.Changed))
          probed_does new none accepted =
              probed_clear (access_view (names old)) (hand me (chained_view (names old) m)) (reference_view (names old)
              r) probes_due.0 probes_due.1 probes_due.2 noted none accepted through
