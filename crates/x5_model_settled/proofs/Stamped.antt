-- The stamps of copies stay moments of lines before. A refresh is stamped with the moment of its own line where the master
-- supplies it, and as the supplier's copy where a consumer does: no later either way. Every other command refreshes
-- nothing.
use Rattle.std.proofs.Common.{◌≡◌, ◌≤◌, ℕ, suc, ◌==◌, Bool, true, false, not, ◌&&◌, List, [], ◌∷◌, ◌++◌, length, reverse, refl, sym, subst, arith, Option, Some, None, if◌then◌else◌, Ok, Err}
use Rattle.std.specs.Prelude.{⊤}
use Rattle.std.specs.List.{find}
use Rattle.std.specs.Option.{is_some}
use Rattle.x5_model.specs.Words.{first_of, in_option, when}
use Rattle.x5_model.specs.Values.{key_of}
use Rattle.x5_model.specs.Requests.{Request}
use Rattle.x5_model.proofs.Lists.{of_find}
use Rattle.x5_model_tree.specs.World.{Agreement, World}
use Rattle.x5_model_tree.specs.Masters.{masters, is_consumer}
use Rattle.x5_model_tree.specs.Consistent.{first_breach}
use Rattle.x5_model_run.specs.Network.{is_lost, is_unheard, is_sent}
use Rattle.x5_model_run.specs.Refresh.{RequestShadowUpdate, UpdateShadow, CoordinateShadowUpdate, ShadowLine, RefreshOutcome, Done, Unheard, Problem, Missed, NotConsistent, RefreshBlock, inactive_agreement, full_update_required, invalid_agreement_id, consumed_by, supplied, peer_moment, same_moment, needs_total, shadow_line, ended, updates_with, refresh_with, pull, push, refresh_block}
use Rattle.x5_model_run.specs.History.{Refreshed, Refreshes, Did, Point, moment_of, knowledge_at, refresh_of, refreshes_of, stamp_of, as_of, acked}
use Rattle.x5_model_run.specs.Run.{Blank, Asks, Changes, Drops, Updates, Hands, Silent, Set, Replies, Refreshing, Handed, Rejected, Judge, refreshed_by, did_by}
use Rattle.x5_model_verdicts.specs.Committing.{IsStamped}
use Rattle.x5_model_settled.specs.Afterwards.{line_after, StampedAfterRefresh, StampedAfter}
use Rattle.x5_model_settled.proofs.Settled.{accepted_deed, did_none_move}
use Rattle.x5_model_settled.proofs.After.{stamped_on}

-- what a refresh brings is stamped no later than this
abbrev IsEarly : ℕ → RefreshOutcome → Type 0
IsEarly n (Done f) = f.stamp ≤ n
IsEarly n Unheard = ⊤
IsEarly n (Problem k) = ⊤
IsEarly n (Missed a b) = ⊤
IsEarly n NotConsistent = ⊤

abbrev BlockEarly : ℕ → RefreshBlock → Type 0
BlockEarly n b = IsEarly n b.outcome

either : (n : ℕ) (b : Bool) (x y : RefreshBlock) → BlockEarly n x → BlockEarly n y → BlockEarly n (if b then x else y)
either n true x y f g = f
either n false x y f g = g

module _ (p : Point) (stamped : IsStamped p) where
  abbrev now : ℕ
  now = suc (length p.past)

  abbrev supply : Agreement → Bool → Option ℕ
  supply g b =
      if b then Some (moment_of p)
      else in_option None (λ own. as_of p own.number) (consumed_by (knowledge_at p) g.supplier (key_of g.context))

  -- a supplier's own copy is by an agreement of the world
  supplied_early : (g : Agreement) (m : ℕ) → supplied p g ≡ Some m → m ≤ now
  supplied_early g m e = by (masters (knowledge_at p) g.supplier (key_of g.context)) e
    where
      copy : (o : Option Agreement) → consumed_by (knowledge_at p) g.supplier (key_of g.context) ≡ o
          → in_option None (λ own. as_of p own.number) o ≡ Some m → m ≤ now
      copy None f q = cc
      copy (Some own) f q =
          let there = (of_find (is_consumer g.supplier (key_of g.context)) own (knowledge_at p).agreements f).0 in
          let l : m ≤ length p.past = stamped own m there q in omega arith

      by : (b : Bool) → supply g b ≡ Some m → m ≤ now
      by true q = (let same : moment_of p ≡ m = cc in omega arith)
      by false q = copy (consumed_by (knowledge_at p) g.supplier (key_of g.context)) refl q

  updates_early : (first last : ShadowLine) (f : Refreshed) → f.stamp ≤ now → BlockEarly now (updates_with first last f)
  updates_early first last f h =
      either now (is_lost last.fate) (ended (first ∷ last ∷ []) Unheard)
      (ended (first ∷ last ∷ []) (Done (record f { acknowledged = is_sent last.fate }))) tt h

  pull_early : (total : Bool) (g : Agreement) → BlockEarly now (pull p total g)
  pull_early total g = by (supplied p g) refl
    where
      first : ShadowLine
      first = shadow_line p g 1 RequestShadowUpdate

      none : BlockEarly now (if is_unheard first.fate then ended (first ∷ []) Unheard else ended (first ∷ []) (Problem inactive_agreement))
      none =
          either now (is_unheard first.fate) (ended (first ∷ []) Unheard) (ended (first ∷ []) (Problem inactive_agreement)) tt tt

      by : (o : Option ℕ) → supplied p g ≡ o → BlockEarly now (pull p total g)
      by None e = rw e none
      by (Some stamp) e =
          rw e
          (either now (is_unheard first.fate) (ended (first ∷ []) Unheard) _ tt
          (either now (not total && needs_total p g (peer_moment p false g)) (ended (first ∷ []) (Problem full_update_required))
          (updates_with first (shadow_line p g 2 UpdateShadow) (refresh_with p false total g stamp)) tt
          (updates_early first (shadow_line p g 2 UpdateShadow) (refresh_with p false total g stamp) (supplied_early g stamp e))))

  push_early : (total : Bool) (g : Agreement) → BlockEarly now (push p total g)
  push_early total g = by (supplied p g) refl
    where
      first : ShadowLine
      first = shadow_line p g 1 CoordinateShadowUpdate

      by : (o : Option ℕ) → supplied p g ≡ o → BlockEarly now (push p total g)
      by None e = rw e tt
      by (Some stamp) e =
          rw e
          (either now (not total && needs_total p g (peer_moment p true g)) (ended [] (Problem full_update_required)) _ tt
          (either now (is_unheard first.fate) (ended (first ∷ []) Unheard) _ tt
          (either now (not total && not (same_moment (acked p g.number) (as_of p g.number)))
          (ended (first ∷ []) (Missed (as_of p g.number) (acked p g.number)))
          (updates_with first (shadow_line p g 2 UpdateShadow) (refresh_with p true total g stamp)) tt
          (updates_early first (shadow_line p g 2 UpdateShadow) (refresh_with p true total g stamp) (supplied_early g stamp e)))))

  block_early : (number : ℕ) (pushes total : Bool) → BlockEarly now (refresh_block p number pushes total)
  block_early number pushes total =
      either now (is_some (first_breach p.described)) (ended [] NotConsistent) _ tt
      (by (find (λ g. g.number == number) (knowledge_at p).agreements))
    where
      block : Option Agreement → RefreshBlock
      block None = ended [] (Problem invalid_agreement_id)
      block (Some g) = if pushes then push p total g else pull p total g

      by : (o : Option Agreement) → BlockEarly now (block o)
      by None = tt
      by (Some g) = either now pushes (push p total g) (pull p total g) (push_early total g) (pull_early total g)

-- ---- line by line

module _ (w : World) (past : List Did) (stamped : IsStamped (line_after w past)) where
  -- by the agreement that was refreshed the stamp is the refresh's; by any other it's as before
  refreshed_on : (f : Refreshed) (sent : ℕ) → f.stamp ≤ suc (length past)
      → IsStamped (line_after w (record { deed = Refreshes f; sent = sent } ∷ past))
  refreshed_on f sent early g moment i e = by (f.agreement == g.number) e
    where
      by : (b : Bool) → stamp_of (first_of (when b f ++ refreshes_of past g.number)) ≡ Some moment → moment ≤ suc (length past)
      by true q = (let same : f.stamp ≡ moment = cc in omega arith)
      by false q = (let l : moment ≤ length past = stamped g moment i q in omega arith)

  outcome_on : (o : RefreshOutcome) (sent : ℕ) → IsEarly (suc (length past)) o
      → IsStamped (line_after w (record { deed = refreshed_by o; sent = sent } ∷ past))
  outcome_on (Done f) sent early = refreshed_on f sent early
  outcome_on Unheard sent early = stamped_on w past (record { deed = refreshed_by Unheard; sent = sent }) tt (λ n. refl) stamped
  outcome_on (Problem k) sent early = stamped_on w past (record { deed = refreshed_by (Problem k); sent = sent }) tt (λ n. refl) stamped
  outcome_on (Missed a b) sent early = stamped_on w past (record { deed = refreshed_by (Missed a b); sent = sent }) tt (λ n. refl) stamped
  outcome_on NotConsistent sent early = stamped_on w past (record { deed = refreshed_by NotConsistent; sent = sent }) tt (λ n. refl) stamped

  block_on : (b : RefreshBlock) → BlockEarly (suc (length past)) b
      → IsStamped (line_after w (record { deed = refreshed_by b.outcome; sent = length b.lines } ∷ past))
  block_on b early = outcome_on b.outcome (length b.lines) early

pub stamped_after_refresh : StampedAfterRefresh
stamped_after_refresh w past number pushes total stamped =
    block_on w past stamped (refresh_block (line_after w past) number pushes total)
    (block_early (line_after w past) stamped number pushes total)

accepts_plain : (r : Request) (accepted : List ℕ) (agreement : ℕ) → refresh_of (accepted_deed r accepted) agreement ≡ []
accepts_plain r [] agreement = refl
accepts_plain r (a ∷ more) agreement = refl

pub stamped_after : (judge : Judge) → StampedAfter judge
stamped_after judge w past Blank block is = stamped_on w past (did_by Blank block) tt (λ n. refl)
stamped_after judge w past (Changes o) block is = stamped_on w past (did_by (Changes o) block) tt (λ n. refl)
stamped_after judge w past (Drops reply k) block is = stamped_on w past (did_by (Drops reply k) block) tt (λ n. refl)
stamped_after judge w past (Asks first r) Silent is = absurd is
stamped_after judge w past (Asks first r) Set is = absurd is
stamped_after judge w past (Asks first r) (Replies j reply) is =
    stamped_on w past (did_by (Asks first r) (Replies j reply)) (did_none_move (Asks first r) (Replies j reply))
    (accepts_plain r (reverse j.accepted))
stamped_after judge w past (Asks first r) (Refreshing b) is = absurd is
stamped_after judge w past (Asks first r) (Handed by n j reply) is = absurd is
stamped_after judge w past (Asks first r) (Rejected raw breach) is = absurd is
stamped_after judge w past (Updates number pushes total) Silent is = absurd is
stamped_after judge w past (Updates number pushes total) Set is = absurd is
stamped_after judge w past (Updates number pushes total) (Replies j reply) is = absurd is
stamped_after judge w past (Updates number pushes total) (Handed by n j reply) is = absurd is
stamped_after judge w past (Updates number pushes total) (Rejected raw breach) is = absurd is
stamped_after judge w past (Hands via first count (Ok m)) Silent is = absurd is
stamped_after judge w past (Hands via first count (Ok m)) Set is = absurd is
stamped_after judge w past (Hands via first count (Ok m)) (Replies j reply) is = absurd is
stamped_after judge w past (Hands via first count (Ok m)) (Refreshing b) is = absurd is
stamped_after judge w past (Hands via first count (Ok m)) (Rejected raw breach) is = absurd is
stamped_after judge w past (Hands via first count (Ok m)) (Handed by n j reply) is =
    stamped_on w past (did_by (Hands via first count (Ok m)) (Handed by n j reply))
    (did_none_move (Hands via first count (Ok m)) (Handed by n j reply)) (accepts_plain m.request (reverse j.accepted))
stamped_after judge w past (Hands via first count (Err x)) Silent is = absurd is
stamped_after judge w past (Hands via first count (Err x)) Set is = absurd is
stamped_after judge w past (Hands via first count (Err x)) (Replies j reply) is = absurd is
stamped_after judge w past (Hands via first count (Err x)) (Refreshing b) is = absurd is
stamped_after judge w past (Hands via first count (Err x)) (Handed by n j reply) is = absurd is
stamped_after judge w past (Hands via first count (Err x)) (Rejected raw breach) is =
    stamped_on w past (did_by (Hands via first count (Err x)) (Rejected raw breach)) tt (λ n. refl)
stamped_after judge w past (Updates number pushes total) (Refreshing b) is =
    λ stamped. subst (λ (x : RefreshBlock). IsStamped (line_after w (did_by (Updates number pushes total) (Refreshing x) ∷ past)))
    (sym is) (stamped_after_refresh w past number pushes total stamped)
