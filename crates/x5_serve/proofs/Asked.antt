-- The loops over agents and references, one step further, and what comes of them at their ends.
use Rattle.std.proofs.Common.{◌≡◌, ℕ, ◌+◌, ◌<◌, ◌≤◌, true, false, List, [], ◌∷◌, ◌++◌, length, map, take, get_or, refl, sym, ap, subst, ◌∙◌, Ok, Some, inl, inr}
use Rattle.x5_model.specs.Problems.{unable_to_proceed}
use Rattle.x5_model.specs.References.{Reference}
use Rattle.x5_model.specs.Answers as model
use Rattle.x5_model.specs.Entries.{Named}
use Rattle.x5_model_run.specs.Needs.{due_probes}
use Rattle.x5_model_run.specs.Journal.{Journal}
use Rattle.x5_model_run.specs.Chain.{Scene}
use Rattle.x5_model_heard.specs.Told.{HasReference, IsTold, IsToldHeard}
use Rattle.x5_model_heard.proofs.Loops.{next_tried, one_heard, none_heard, next_silent, next_unable, one_answers, nobody_answers, some_unheard, probe_silent, probe_unsure, probe_clear, all_probed, probe_found, probe_breaks, next_unheard, next_left, next_part, one_breaks, all_gathered}
use Rattle.x5_model_serve.proofs.Finals.{idle_is_followed}
use Rattle.x5_model_serve.specs.Answering.{is_service, is_unavailable, of_these, above_next, merged, with_unexplored, in_vain}
use Rattle.x5_model_serve.specs.Serving.{Hand, hand, Heard, Hears, Unheard, Sends, Tries, Takes, Spreads, Casts, Gathers, Probes, Updates, Whole, Broken, Does, carried_for, judged, holds_now, is_final, no_part}
use Rattle.x5_ops.specs.ReferenceViews.{chained_view, reference_view, access_view}
use Rattle.x5_ops.specs.AnswerViews.{answer_view, error_view, reply_view}
use Rattle.x5_ops.specs.declared.answers.Answer.{Answer}
use Rattle.x5_ops.specs.declared.answers.DirError.{DirError}
use Rattle.x5_ops.specs.declared.answers.Reply.{Reply}
use Rattle.x5_ops.specs.declared.references.AccessPoint.{AccessPoint}
use Rattle.x5_ops.specs.declared.references.Chained as code
use Rattle.x5_ops.specs.declared.references.Reference as code_reference
use Rattle.x5_serve.specs.Networks.{Stays, DoesAt}
use Rattle.x5_serve.specs.Steps.{heard_view, whole_view, IsPart, IsTelling}
use Rattle.x5_serve.specs.declared.replies.Heard as heard_type
use Rattle.x5_serve.specs.declared.replies.Heard.TheVariants as heard
use Rattle.x5_serve.specs.declared.replies.Told.{Told}
use Rattle.x5_serve.specs.declared.replies.Told.TheVariants as told
use Rattle.x5_serve.specs.declared.parts.Part.{Part}
use Rattle.x5_serve.specs.declared.parts.Part.TheVariants as part
use Rattle.x5_serve.proofs.Walks.{Carries}

map_push : {A B : Type 0} (f : A → B) (xs ys : List A) (x : A) → ys ≡ xs ++ x ∷ [] → map f ys ≡ map f xs ++ f x ∷ []
map_push {A} {B} f xs ys x e = ap (map f) e ∙ go xs
  where
    go : (zs : List A) → map f (zs ++ x ∷ []) ≡ map f zs ++ f x ∷ []
    go [] = refl
    go (z ∷ zs) = ap (λ (ws : List B). f z ∷ ws) (go zs)

module _ {N : Type 0} (scene : N → Scene) (most : N → ℕ) (names : N → List (List ℕ)) (journal : N → Journal) where
  -- what is heard by one more message, seen from where the loop began
  sent_before : (old now new : N) (from : ℕ) (o : Hand) (r : Reference) (a b : ℕ) (h : heard_type.Heard)
      → Stays scene most names old now
      → a ≡ b
      → DoesAt scene most journal now new (Sends (Some from) o r a (heard_view (names now) h))
      → Does (scene old) (most old) (Sends (Some from) o r b (heard_view (names old) h)) (journal now) (journal new)
  sent_before old now new from o r a b h s e d = rw e at (rw (s.scene_is, s.most_is, s.names_are) at d)

  taken_before : (old now new : N) (from owner : ℕ) (m : code.Chained) (x : code_reference.Reference)
      (h : heard_type.Heard)
      → Stays scene most names old now
      → DoesAt scene most journal now new (Takes (Some from) (hand owner (chained_view (names now) m))
      (reference_view (names now) x) (heard_view (names now) h))
      → Does (scene old) (most old) (Takes (Some from) (hand owner (chained_view (names old) m))
      (reference_view (names old) x) (heard_view (names old) h)) (journal now) (journal new)
  taken_before old now new from owner m x h s d = rw (s.scene_is, s.most_is, s.names_are) at d

  -- ---- the agents of a reference, until one is heard
  module _ (old now new : N) (from : ℕ) (xs : List AccessPoint) (onward : code.Chained) (n : ℕ) (x : AccessPoint)
      (a : ℕ)
      (h : heard_type.Heard) (s : Stays scene most names old now) (l : n < length xs) (at : x ≡ get_or xs n x)
      (to : a ≡ access_view (names now) x)
      (d : (o : Hand) (r : Reference) → chained_view (names now) onward ≡ carried_for (Some from) o r
      → DoesAt scene most journal now new (Sends (Some from) o r a (heard_view (names now) h))) where
    sent : (o : Hand) (r : Reference) → chained_view (names old) onward ≡ carried_for (Some from) o r
        → Does (scene old) (most old) (Sends (Some from) o r (access_view (names old) x) (heard_view (names old) h))
        (journal now) (journal new)
    sent o r c =
        sent_before old now new from o r a (access_view (names old) x) h s
        (to ∙ ap (λ (ns : List (List ℕ)). access_view ns x) s.names_are)
        (d o r (ap (λ (ns : List (List ℕ)). chained_view ns onward) s.names_are ∙ c))

    pub turn_in_vain : (o : Hand) (r : Reference) → map (access_view (names old)) xs ≡ r.agents
        → chained_view (names old) onward ≡ carried_for (Some from) o r → heard_view (names old) h ≡ Unheard
        → Does (scene old) (most old) (Tries (Some from) o r (map (access_view (names old)) (take n xs))) (journal old)
        (journal now)
        → Does (scene old) (most old) (Tries (Some from) o r (map (access_view (names old)) (take (n + 1) xs)))
        (journal old) (journal new)
    turn_in_vain o r agents c e tried =
        next_tried (access_view (names old)) xs r agents n x l at tried (rw e at (sent o r c))

    pub turn_heard : (o : Hand) (r : Reference) → map (access_view (names old)) xs ≡ r.agents
        → chained_view (names old) onward ≡ carried_for (Some from) o r
        → (w : (y : model.Reply) × (heard_view (names old) h ≡ Hears y))
        → Does (scene old) (most old) (Tries (Some from) o r (map (access_view (names old)) (take n xs))) (journal old)
        (journal now)
        → Does (scene old) (most old) (Takes (Some from) o r (heard_view (names old) h)) (journal old) (journal new)
    turn_heard o r agents c w tried =
        subst (λ (z : Heard). Does (scene old) (most old) (Takes (Some from) o r z) (journal old) (journal new))
        (sym w.1)
        (one_heard (access_view (names old)) xs r agents n x w.0 l at tried
        (subst (λ (z : Heard). Does (scene old) (most old) (Sends (Some from) o r (access_view (names old) x) z)
        (journal now) (journal new)) w.1 (sent o r c)))

    -- ---- the agents of an NSSR, until one can go on
    module _ (owner : ℕ) (message : code.Chained) (reference : code_reference.Reference) (noted more : List AccessPoint)
        (c : Carries (names old) owner message reference onward xs)
        (asked : Does (scene old) (most old) (Spreads (Some from) (hand owner (chained_view (names old) message))
        (reference_view (names old) reference) (map (access_view (names old)) (take n xs))
        (map (access_view (names old)) noted)) (journal old) (journal now)) where
      pub cast_silent : h ≡ heard.Unheard → more ≡ noted ++ x ∷ []
          → Does (scene old) (most old) (Spreads (Some from) (hand owner (chained_view (names old) message))
          (reference_view (names old) reference) (map (access_view (names old)) (take (n + 1) xs))
          (map (access_view (names old)) more)) (journal old) (journal new)
      cast_silent e p =
          rw (map_push (access_view (names old)) noted more x p)
          (next_silent (access_view (names old)) xs (reference_view (names old) reference)
          (ap (map (access_view (names old))) c.agents_are) n x l at asked
          (rw e at (sent (hand owner (chained_view (names old) message)) (reference_view (names old) reference)
          (c.onward_is from))))

      pub cast_unable : (y : Reply) → h ≡ heard.Hears y → is_service unable_to_proceed (reply_view (names old) y) ≡ true
          → more ≡ noted
          → Does (scene old) (most old) (Spreads (Some from) (hand owner (chained_view (names old) message))
          (reference_view (names old) reference) (map (access_view (names old)) (take (n + 1) xs))
          (map (access_view (names old)) more)) (journal old) (journal new)
      cast_unable y e u p =
          rw p
          (next_unable (access_view (names old)) xs (reference_view (names old) reference)
          (ap (map (access_view (names old))) c.agents_are) n x (reply_view (names old) y) l at u asked
          (rw e at (sent (hand owner (chained_view (names old) message)) (reference_view (names old) reference)
          (c.onward_is from))))

      pub cast_answered : (y : Reply) → h ≡ heard.Hears y → is_service unable_to_proceed (reply_view (names old) y)
          ≡ false
          → DoesAt scene most journal old new (Casts (Some from) (hand owner (chained_view (names old) message))
          (reference_view (names old) reference) (reply_view (names old) y))
      cast_answered y e u =
          one_answers (access_view (names old)) xs (reference_view (names old) reference)
          (ap (map (access_view (names old))) c.agents_are) n x (reply_view (names old) y) l at u asked
          (rw e at (sent (hand owner (chained_view (names old) message)) (reference_view (names old) reference)
          (c.onward_is from)))

    -- ---- the agents that a probe goes to
    module _ (message : code.Chained) (reference : code_reference.Reference) (noted more : List AccessPoint)
        (c : Carries (names old) from message reference onward xs)
        (probed : Does (scene old) (most old) (Probes (hand from (chained_view (names old) message))
        (reference_view (names old) reference) (map (access_view (names old)) (take n xs))
        (map (access_view (names old)) noted)) (journal old) (journal now)) where
      probe_sent : Does (scene old) (most old) (Sends (Some from) (hand from (chained_view (names old) message))
          (reference_view (names old) reference) (access_view (names old) x) (heard_view (names old) h)) (journal now)
          (journal new)
      probe_sent = sent (hand from (chained_view (names old) message)) (reference_view (names old) reference)
          (c.onward_is from)

      -- what is heard has nothing left to be followed
      probe_final : (y : Reply) → h ≡ heard.Hears y → is_final (reply_view (names old) y) ≡ true
      probe_final y e =
          idle_is_followed (scene old) (most old) (Sends (Some from) (hand from (chained_view (names old) message))
          (reference_view (names old) reference) (access_view (names old) x) (Hears (reply_view (names old) y)))
          (journal now) (journal new)
          (rw e at probe_sent)

      telling : (y : Reply) (t u : Told) → h ≡ heard.Hears y → t ≡ u
          → ((ns : List (List ℕ)) → is_final (reply_view ns y) ≡ true → IsTelling ns y t) → IsTelling (names old) y u
      telling y t u e q f = subst (IsTelling (names old) y) q (f (names old) (probe_final y e))

      pub probe_unheard : h ≡ heard.Unheard → more ≡ noted ++ x ∷ []
          → Does (scene old) (most old) (Probes (hand from (chained_view (names old) message))
          (reference_view (names old) reference) (map (access_view (names old)) (take (n + 1) xs))
          (map (access_view (names old)) more)) (journal old) (journal new)
      probe_unheard e p =
          rw (map_push (access_view (names old)) noted more x p)
          (probe_silent (access_view (names old)) xs (hand from (chained_view (names old) message))
          (reference_view (names old) reference) (ap (map (access_view (names old))) c.agents_are) n x l at probed
          (rw e at probe_sent))

      pub probe_noted : (y : Reply) (t : Told) → h ≡ heard.Hears y → t ≡ told.Unsure
          → ((ns : List (List ℕ)) → is_final (reply_view ns y) ≡ true → IsTelling ns y t) → more ≡ noted ++ x ∷ []
          → Does (scene old) (most old) (Probes (hand from (chained_view (names old) message))
          (reference_view (names old) reference) (map (access_view (names old)) (take (n + 1) xs))
          (map (access_view (names old)) more)) (journal old) (journal new)
      probe_noted y t e q f p =
          rw (map_push (access_view (names old)) noted more x p)
          (probe_unsure (access_view (names old)) xs (hand from (chained_view (names old) message))
          (reference_view (names old) reference) (ap (map (access_view (names old))) c.agents_are) n x
          (reply_view (names old) y) l at (telling y t told.Unsure e q f) probed (rw e at probe_sent))

      pub probe_passed : (y : Reply) (t : Told) → h ≡ heard.Hears y → t ≡ told.Unable
          → ((ns : List (List ℕ)) → is_final (reply_view ns y) ≡ true → IsTelling ns y t) → more ≡ noted
          → Does (scene old) (most old) (Probes (hand from (chained_view (names old) message))
          (reference_view (names old) reference) (map (access_view (names old)) (take (n + 1) xs))
          (map (access_view (names old)) more)) (journal old) (journal new)
      probe_passed y t e q f p =
          rw p
          (probe_clear (access_view (names old)) xs (hand from (chained_view (names old) message))
          (reference_view (names old) reference) (ap (map (access_view (names old))) c.agents_are) n x
          (reply_view (names old) y) l at (telling y t told.Unable e q f) probed (rw e at probe_sent))

      pub probe_ends : (y : Reply) (t : Told) (z : DirError) → h ≡ heard.Hears y → t ≡ told.Ends z
          → ((ns : List (List ℕ)) → is_final (reply_view ns y) ≡ true → IsTelling ns y t)
          → (mine : List Named) → judged (scene old) (journal old) (hand from (chained_view (names old) message)) ≡ Ok
          mine
          → due_probes (holds_now (scene old) (journal old) (hand from (chained_view (names old) message)))
          (chained_view (names old) message) ≡ reference_view (names old) reference ∷ []
          → Does (scene old) (most old) (Updates (hand from (chained_view (names old) message))
          (model.Failed (error_view (names old) z))) (journal old) (journal new)
      probe_ends y t z e q f = by (telling y t (told.Ends z) e q f)
        where
          by : IsTelling (names old) y (told.Ends z)
              → (mine : List Named) → judged (scene old) (journal old) (hand from (chained_view (names old) message))
              ≡ Ok mine
              → due_probes (holds_now (scene old) (journal old) (hand from (chained_view (names old) message)))
              (chained_view (names old) message) ≡ reference_view (names old) reference ∷ []
              → Does (scene old) (most old) (Updates (hand from (chained_view (names old) message))
              (model.Failed (error_view (names old) z))) (journal old) (journal new)
          by (inl w) =
              probe_found (access_view (names old)) xs (hand from (chained_view (names old) message))
              (reference_view (names old) reference) (ap (map (access_view (names old))) c.agents_are) n x
              (reply_view (names old) y) (error_view (names old) z) w.0 l at w.1 w.2 probed (rw e at probe_sent)
          by (inr w) =
              probe_breaks (access_view (names old)) xs (hand from (chained_view (names old) message))
              (reference_view (names old) reference) (ap (map (access_view (names old))) c.agents_are) n x
              (reply_view (names old) y) (error_view (names old) z) l at w.0 w.1 w.2 probed (rw e at probe_sent)

  -- ---- the ends of these loops
  module _ (old now : N) (xs : List AccessPoint) (n : ℕ) (l : length xs ≤ n) where
    pub turn_unheard : (from : ℕ) (o : Hand) (r : Reference) → map (access_view (names old)) xs ≡ r.agents
        → Does (scene old) (most old) (Tries (Some from) o r (map (access_view (names old)) (take n xs))) (journal old)
        (journal now)
        → DoesAt scene most journal old now (Takes (Some from) o r Unheard)
    turn_unheard from o r agents tried = none_heard (access_view (names old)) xs r agents n l tried

    module _ (from owner : ℕ) (message onward : code.Chained) (reference : code_reference.Reference)
        (noted : List AccessPoint)
        (c : Carries (names old) owner message reference onward xs)
        (asked : Does (scene old) (most old) (Spreads (Some from) (hand owner (chained_view (names old) message))
        (reference_view (names old) reference) (map (access_view (names old)) (take n xs))
        (map (access_view (names old)) noted)) (journal old) (journal now)) where
      pub cast_nobody : (y : Reply) → length noted ≡ 0
          → ((ns : List (List ℕ)) → reply_view ns y ≡ model.Failed (model.NoSuchObject
          (above_next (reference_view ns reference))))
          → DoesAt scene most journal old now (Casts (Some from) (hand owner (chained_view (names old) message))
          (reference_view (names old) reference) (reply_view (names old) y))
      cast_nobody y e f =
          nobody_answers (access_view (names old)) xs (reference_view (names old) reference)
          (ap (map (access_view (names old))) c.agents_are) n noted (reply_view (names old) y) l e (f (names old))
          asked

      pub cast_some : (y : Reply) → (length noted ≡ 0 → ⊥)
          → ((ns : List (List ℕ)) → reply_view ns y ≡ is_unavailable (of_these (map (access_view ns) noted)
          (reference_view ns reference)))
          → DoesAt scene most journal old now (Casts (Some from) (hand owner (chained_view (names old) message))
          (reference_view (names old) reference) (reply_view (names old) y))
      cast_some y e f =
          some_unheard (access_view (names old)) xs (reference_view (names old) reference)
          (ap (map (access_view (names old))) c.agents_are) n noted (reply_view (names old) y) l e (f (names old))
          asked

    pub probe_through : (me : ℕ) (message onward : code.Chained) (reference : code_reference.Reference)
        (noted : List AccessPoint)
        → Carries (names old) me message reference onward xs
        → Does (scene old) (most old) (Probes (hand me (chained_view (names old) message)) (reference_view (names old)
        reference) (map (access_view (names old)) (take n xs)) (map (access_view (names old)) noted)) (journal old)
        (journal now)
        → Does (scene old) (most old) (Probes (hand me (chained_view (names old) message)) (reference_view (names old)
        reference) (reference_view (names old) reference).agents (map (access_view (names old)) noted))
        (journal old) (journal now)
    probe_through me message onward reference noted c probed =
        all_probed (access_view (names old)) xs (hand me (chained_view (names old) message)) (reference_view (names old)
        reference) (ap (map (access_view (names old))) c.agents_are) n l probed

  -- ---- the references of parts
  module _ (old now new : N) (from owner : ℕ) (message : code.Chained) (first : Answer)
      (xs : List code_reference.Reference) (n : ℕ)
      (x : code_reference.Reference) (h : heard_type.Heard) (parts more : List Answer) (s : Stays scene most names old
      now)
      (l : n < length xs) (at : x ≡ get_or xs n x)
      (d : DoesAt scene most journal now new (Takes (Some from) (hand owner (chained_view (names now) message))
      (reference_view (names now) x) (heard_view (names now) h)))
      (t : IsToldHeard (length (names now)) (heard_view (names now) h))
      (so_far : Does (scene old) (most old) (Gathers (Some from) (hand owner (chained_view (names old) message))
      (map (reference_view (names old)) (take n xs)) (answer_view (names old) first)
      (Whole (whole_view (names old) parts))) (journal old) (journal now)) where
    took : Does (scene old) (most old) (Takes (Some from) (hand owner (chained_view (names old) message))
        (reference_view (names old) x) (heard_view (names old) h)) (journal now) (journal new)
    took = taken_before old now new from owner message x h s d

    is_part : (y : Reply) (p q : Part) → h ≡ heard.Hears y → p ≡ q
        → ((ns : List (List ℕ)) → is_final (reply_view ns y) ≡ true → HasReference (reply_view ns y) → IsPart ns y p)
        → IsPart (names old) y q
    is_part y p q e is f =
        let told : IsTold (length (names now)) (reply_view (names now) y) = subst (λ (z : heard_type.Heard). IsToldHeard
        (length (names now)) (heard_view (names now) z)) e t in
        subst (IsPart (names old) y) is
        (f (names old)
        (idle_is_followed (scene old) (most old) (Takes (Some from) (hand owner (chained_view (names old) message))
        (reference_view (names old) x) (Hears (reply_view (names old) y))) (journal now) (journal new)
        (rw e at took))
        (subst (λ (ns : List (List ℕ)). HasReference (reply_view ns y)) s.names_are told.reference))

    pub part_lost : h ≡ heard.Unheard
        → ((ns : List (List ℕ)) → whole_view ns more ≡ with_unexplored (in_vain (reference_view ns x) ∷ [])
        (whole_view ns parts))
        → Does (scene old) (most old) (Gathers (Some from) (hand owner (chained_view (names old) message))
        (map (reference_view (names old)) (take (n + 1) xs)) (answer_view (names old) first)
        (Whole (whole_view (names old) more))) (journal old) (journal new)
    part_lost e f =
        next_unheard (reference_view (names old)) xs (answer_view (names old) first) (whole_view (names old) parts) n x
        (whole_view (names old) more) l at (f (names old)) so_far (rw e at took)

    pub part_joins : (y : Reply) (p : Part) (z : Answer) → h ≡ heard.Hears y → p ≡ part.Joins z
        → ((ns : List (List ℕ)) → is_final (reply_view ns y) ≡ true → HasReference (reply_view ns y) → IsPart ns y p)
        → ((ns : List (List ℕ)) → whole_view ns more ≡ merged (whole_view ns parts) (answer_view ns z))
        → Does (scene old) (most old) (Gathers (Some from) (hand owner (chained_view (names old) message))
        (map (reference_view (names old)) (take (n + 1) xs)) (answer_view (names old) first)
        (Whole (whole_view (names old) more))) (journal old) (journal new)
    part_joins y p z e is f g =
        next_part (reference_view (names old)) xs (answer_view (names old) first) (whole_view (names old) parts) n x
        (whole_view (names old) more) (answer_view (names old) z) (reply_view (names old) y) l at (g (names old))
        (is_part y p (part.Joins z) e is f) so_far (rw e at took)

    pub part_leaves : (y : Reply) (p : Part) (u : code_reference.Reference) → h ≡ heard.Hears y → p ≡ part.Leaves u
        → ((ns : List (List ℕ)) → is_final (reply_view ns y) ≡ true → HasReference (reply_view ns y) → IsPart ns y p)
        → ((ns : List (List ℕ)) → whole_view ns more ≡ with_unexplored (in_vain (reference_view ns u) ∷ [])
        (whole_view ns parts))
        → Does (scene old) (most old) (Gathers (Some from) (hand owner (chained_view (names old) message))
        (map (reference_view (names old)) (take (n + 1) xs)) (answer_view (names old) first)
        (Whole (whole_view (names old) more))) (journal old) (journal new)
    part_leaves y p u e is f g =
        next_left (reference_view (names old)) xs (answer_view (names old) first) (whole_view (names old) parts) n x
        (whole_view (names old) more) (reference_view (names old) u) (reply_view (names old) y) l at (g (names old))
        (is_part y p (part.Leaves u) e is f) so_far (rw e at took)

    pub part_ends : (references : List code_reference.Reference) (y : Reply) (p : Part) (z : DirError) → xs ≡ references
        → h ≡ heard.Hears y → p ≡ part.Breaks z
        → ((ns : List (List ℕ)) → is_final (reply_view ns y) ≡ true → HasReference (reply_view ns y) → IsPart ns y p)
        → DoesAt scene most journal old new (Gathers (Some from) (hand owner (chained_view (names old) message))
        (map (reference_view (names old)) references) (answer_view (names old) first)
        (Broken (model.Failed (error_view (names old) z))))
    part_ends references y p z same e is f =
        let w = is_part y p (part.Breaks z) e is f in
        subst (λ (rs : List code_reference.Reference). Does (scene old) (most old) (Gathers (Some from)
        (hand owner (chained_view (names old) message)) (map (reference_view (names old)) rs)
        (answer_view (names old) first) (Broken (model.Failed (error_view (names old) z)))) (journal old)
        (journal new)) same
        (one_breaks (reference_view (names old)) xs (answer_view (names old) first) (whole_view (names old) parts) n x
        (error_view (names old) z) (reply_view (names old) y) l at w.0 w.1 so_far (rw e at took))

  pub first_part : (old : N) (from owner : ℕ) (message : code.Chained) (first : Answer) (parts : List Answer)
      → parts ≡ first ∷ []
      → Does (scene old) (most old) (Gathers (Some from) (hand owner (chained_view (names old) message)) []
      (answer_view (names old) first) (Whole (whole_view (names old) parts))) (journal old) (journal old)
  first_part old from owner message first parts e = rw e no_part

  pub parts_gathered : (old now : N) (from owner : ℕ) (message : code.Chained) (first last : Answer)
      (references xs : List code_reference.Reference)
      (n : ℕ) (parts : List Answer) → xs ≡ references → length xs ≤ n
      → ((ns : List (List ℕ)) → answer_view ns last ≡ whole_view ns parts)
      → Does (scene old) (most old) (Gathers (Some from) (hand owner (chained_view (names old) message))
      (map (reference_view (names old)) (take n xs)) (answer_view (names old) first)
      (Whole (whole_view (names old) parts))) (journal old) (journal now)
      → DoesAt scene most journal old now (Gathers (Some from) (hand owner (chained_view (names old) message))
      (map (reference_view (names old)) references) (answer_view (names old) first)
      (Whole (answer_view (names old) last)))
  parts_gathered old now from owner message first last references xs n parts same l e so_far =
      subst (λ (rs : List code_reference.Reference). Does (scene old) (most old) (Gathers (Some from)
      (hand owner (chained_view (names old) message)) (map (reference_view (names old)) rs) (answer_view (names old)
      first) (Whole (answer_view (names old) last))) (journal old) (journal now)) same
      (all_gathered (reference_view (names old)) xs (answer_view (names old) first) (whole_view (names old) parts) n
      (answer_view (names old) last) l (e (names old)) so_far)
