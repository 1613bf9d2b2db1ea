-- A refresh is what the run says, and then it's the network of the next line; what was seen is no part of it.
use Rattle.std.proofs.Common.{◌≡◌, ℕ, ◌+◌, ◌≤◌, List, inl, inr, length, ap, subst, sym, ◌∙◌, arith, true}
use Rattle.std.specs.List.{list_all}
use Rattle.x5_world.specs.Answered.{line_names_agents}
use Rattle.x5_world.specs.Refreshes.{IsSound}
use Rattle.x5_ops.specs.RefreshViews.{shadows_view}
use Rattle.x5_world.specs.Refreshing.{IsDoneBy, IsInvalid}
use Rattle.x5_world.specs.State.{Net}
use Rattle.x5_world.specs.declared.refreshment.Refreshment.{Refreshment}
use Rattle.x5_world.proofs.Concluding.{is_done, is_invalid}
use Rattle.x5_world.proofs.Worlds.{few_lines, one_line_more}
use Rattle.x5_world.proofs.world.World.refresh.Goals as goal

pub refreshed-requires-clause-few : goal.refreshed-requires-clause-few
refreshed-requires-clause-few c =
    let few = few_lines c.args.self.now c.requires.room in
    let same = ap (λ (n : Net). n.line) c.take_seen-seen.ensures in omega (arith, few, same)

pub refreshed-requires-clause-room : goal.refreshed-requires-clause-room
refreshed-requires-clause-room c =
    let sent = c.requires.room.1.0.sent in
    let few = c.requires.room.1.1 in
    let same = ap (λ (n : Net). n.sent) c.take_seen-seen.ensures in omega (arith, sent, few, same)

pub refreshed-requires-clause-sound : goal.refreshed-requires-clause-sound
refreshed-requires-clause-sound c = subst IsSound (sym c.take_seen-seen.ensures) c.requires.sound

pub returns-clause-names : goal.returns-clause-names
returns-clause-names c =
    ap (λ (n : Net). n.names) c.count.ensures ∙ ap (λ (n : Net). n.names) c.keep_seen.ensures
    ∙ ap (λ (n : Net). n.names) c.in_ok-done.ensures.only ∙ ap (λ (n : Net). n.names) c.take_seen-seen.ensures

pub returns-clause-named : goal.returns-clause-named
returns-clause-named c =
    subst (λ (n : Net). list_all (line_names_agents n.names) c.in_ok-done.done.lines ≡ true) c.take_seen-seen.ensures
    c.in_ok-done.ensures.messages.named

pub returns-clause-room_after : goal.returns-clause-room_after
returns-clause-room_after c =
    let few : length c.in_ok-done.done.lines ≤ 2 = c.in_ok-done.ensures.messages.few in
    let kept : c.keep_seen.new.self ≡ c.refreshed.new.world = c.keep_seen.ensures in
    let len : c.len.result ≡ length c.in_ok-done.done.lines = c.len.ensures in
    let line : c.count.new.self.line ≡ c.args.self.now.line + 1 =
    ap (λ (n : Net). n.line) c.count.ensures ∙ ap (λ (n : Net). n.line + 1) kept
    ∙ ap (λ (n : Net). n.line + 1) c.in_ok-done.ensures.only ∙ ap (λ (n : Net). n.line + 1) c.take_seen-seen.ensures in
    let sent : c.count.new.self.sent ≡ c.args.self.now.sent + c.len.result =
    ap (λ (n : Net). n.sent) c.count.ensures ∙ ap (λ (n : Net). n.sent + c.len.result) kept
    ∙ ap (λ (n : Net). n.sent + c.len.result) c.in_ok-done.ensures.only
    ∙ ap (λ (n : Net). n.sent + c.len.result) c.take_seen-seen.ensures in
    let lost : length c.count.new.self.network.lost_replies ≡ length c.args.self.now.network.lost_replies =
    ap (λ (n : Net). length n.network.lost_replies) c.count.ensures
    ∙ ap (λ (n : Net). length n.network.lost_replies) kept
    ∙ ap (λ (n : Net). length n.network.lost_replies) c.in_ok-done.ensures.only
    ∙ ap (λ (n : Net). length n.network.lost_replies) c.take_seen-seen.ensures in
    λ lines h.
    one_line_more c.args.self.now c.count.new.self lines (omega (arith, sent, len, few)) (omega (arith, lost)) line h

pub returns-clause-refreshed : goal.returns-clause-refreshed
returns-clause-refreshed c =
    let old : Net = c.args.self.now in
    let mid : Net = c.refreshed.new.world in
    let kept : Net = c.keep_seen.new.self in
    let new : Net = c.count.new.self in
    let r : Refreshment = c.in_ok-done.done in
    let next : new ≡ record mid { sent = mid.sent + length r.lines; line = mid.line + 1 } =
    c.count.ensures ∙ ap (λ (k : ℕ). record kept { sent = kept.sent + k; line = kept.line + 1 }) c.len.ensures
    ∙ ap (λ (n : Net). record n { sent = n.sent + length r.lines; line = n.line + 1 }) c.keep_seen.ensures in
    λ p s consistent. elim c.in_ok-done.ensures.done [
      | inl x ↦
          is_invalid old mid new p c.args.number c.args.push c.args.total r s consistent
          (subst (λ (n : Net). IsInvalid n c.args.number r mid) c.take_seen-seen.ensures x) next
      | inr x ↦
          is_done old mid new p c.args.number c.args.push c.args.total r s consistent
          (subst (λ (n : Net). IsDoneBy n c.args.number c.args.push c.args.total r mid) c.take_seen-seen.ensures x)
          (subst (λ (n : Net). length (shadows_view n.names r.lines) ≡ length r.lines) c.take_seen-seen.ensures c.in_ok-done.ensures.messages.all) next
    ]
