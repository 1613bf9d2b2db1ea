-- What each step of a refresh by an agreement comes to, from its first message to its line.
use Rattle.std.proofs.Common.{◌≡◌, ℕ, ◌+◌, ◌*◌, ◌≤◌, ◌<◌, Bool, List, [], ◌∷◌, ◌++◌, length, refl, sym, ap, ◌∙◌, arith, Option, Some, None}
use Rattle.x5_model_tree.specs.World.{Agreement}
use Rattle.x5_model_run.specs.Network.{Fate}
use Rattle.x5_model_run.specs.Refresh.{RefreshBlock, RefreshOutcome, ShadowLine, UpdateShadow, ended}
use Rattle.x5_ops.specs.declared.journal.Line.{Line}
use Rattle.x5_ops.specs.RefreshViews.{shadow_view, shadows_view}
use Rattle.x5_refresh.specs.Course.{finished, line_of, opening, stopped, unless_ended, unsent}
use Rattle.x5_world.specs.Refreshing.{OnlyHeld, count_of, first_fate, last_block, last_fate, opened_block, problem_in, stamp_in, whole_block}
use Rattle.x5_world.specs.State.{HasRoom, Net}
use Rattle.x5_world.specs.declared.refreshing.Supplied.{Supplied}
use Rattle.x5_world.specs.declared.refreshing.Way.{Way}
use Rattle.x5_world.proofs.Stopping.{ends, follows, one_more}

-- ---- the last message

pub last_so : (names : List (List ℕ)) (g : Agreement) (total : Bool) (sent : Supplied) (lines : List Line) (line : Line)
    (last : Fate) (o : RefreshOutcome) → shadow_view names line ≡ line_of g UpdateShadow last ∷ []
    → o ≡ finished total g.number (stamp_in sent) (count_of sent) last
    → ended (shadows_view names (lines ++ line ∷ [])) o ≡ last_block g total sent (shadows_view names lines) last
last_so names g total sent lines line last o e f =
    (λ i. ended (one_more names lines line i) (f i))
    ∙ ap (λ (ys : List ShadowLine). ended (shadows_view names lines ++ ys) (finished total g.number (stamp_in sent) (count_of sent) last)) e

-- ---- the first message

module _ (n : Net) (by : Way) (sent : Supplied) (lines : List ShadowLine)
    (first : lines ≡ line_of by.agreement (opening by.push) (first_fate n by.agreement by.push) ∷ []) where
  abbrev stops : Option RefreshOutcome
  stops = stopped by.push by.total (problem_in sent) by.own by.acked (first_fate n by.agreement by.push)

  abbrev one : List ShadowLine
  one = line_of by.agreement (opening by.push) (first_fate n by.agreement by.push) ∷ []

  pub opened_ends : (o : RefreshOutcome) → stops ≡ Some o → ended lines o ≡ opened_block n by sent
  opened_ends o e =
      ap (λ (ys : List ShadowLine). ended ys o) first
      ∙ sym (ends stops o one (last_block by.agreement by.total sent one (last_fate n by.agreement)) e)

  pub opened_goes_on : stops ≡ None
      → last_block by.agreement by.total sent lines (last_fate n by.agreement) ≡ opened_block n by sent
  opened_goes_on e =
      ap (λ (ys : List ShadowLine). last_block by.agreement by.total sent ys (last_fate n by.agreement)) first
      ∙ sym (follows stops one (last_block by.agreement by.total sent one (last_fate n by.agreement)) e)

-- ---- before any message

pub whole_ends : (n : Net) (by : Way) (sent : Supplied) (o : RefreshOutcome) → unsent by.push (problem_in sent) ≡ Some o
    → ended [] o ≡ whole_block n by sent
whole_ends n by sent o e = sym (ends (unsent by.push (problem_in sent)) o [] (opened_block n by sent) e)

pub whole_goes_on : (n : Net) (by : Way) (sent : Supplied) → unsent by.push (problem_in sent) ≡ None
    → opened_block n by sent ≡ whole_block n by sent
whole_goes_on n by sent e = sym (follows (unsent by.push (problem_in sent)) [] (opened_block n by sent) e)

-- ---- the line

pub few_sent : (n : Net) → (lines : ℕ) × (HasRoom n lines × (lines < 100000)) → n.sent ≤ 18446744073709551613
few_sent n h = (let e = h.1.0.sent in let f = h.1.1 in omega (arith, e, f))

pub room_then : (old mid new : Net) (count lines : ℕ) → OnlyHeld old mid
    → new ≡ record mid { sent = mid.sent + count; line = mid.line + 1 } → count ≤ 2 → HasRoom old lines → HasRoom new (lines + 1)
room_then old mid new count lines only e few h =
    let sent : new.sent ≡ old.sent + count = ap (λ (n : Net). n.sent) e ∙ ap (λ (n : Net). n.sent + count) only in
    let line : new.line ≡ old.line + 1 = ap (λ (n : Net). n.line) e ∙ ap (λ (n : Net). n.line + 1) only in
    let lost : length new.network.lost_replies ≡ length old.network.lost_replies =
    ap (λ (n : Net). length n.network.lost_replies) e ∙ ap (λ (n : Net). length n.network.lost_replies) only in
    record {
      line = (let a = h.line in omega (arith, a, line));
      sent = (let a = h.sent in omega (arith, a, sent, few));
      lost = (let a = h.lost in omega (arith, a, lost));
    }
