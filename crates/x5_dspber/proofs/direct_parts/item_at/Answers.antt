-- An agent, a name, how far it's resolved, and a mark or none are the item.
use Rattle.std.proofs.Common.{◌-◌, List, ℕ, length, drop, refl, sym, subst, ◌∙◌}
use Rattle.x5_model_messages.specs.Replies as replies
use Rattle.x5_model_typed.specs.Named as named
use Rattle.x5_ops.specs.ReferenceViews.{progress_view}
use Rattle.x5_direct.specs.Spelled.{Reads}
use Rattle.x5_direct.proofs.Heads.{rest_here}
use Rattle.x5_direct.proofs.Spelling.{read_taken}
use Rattle.x5_dspber.proofs.DirectParts.{item_read}
use Rattle.x5_dspber.proofs.direct_parts.item_at.Goals as goal

pub returns-clause-reads : goal.returns-clause-reads
returns-clause-reads c =
    let octets = c.args.octets.now in
    let rest = c.in_ok-content.rest.now in
    let behind = c.in_ok-agent.behind.now in
    let size = c.in_ok-target.size in
    let target = c.in_ok-target.target in
    let p = progress_view c.in_ok-progress.progress in
    let progress : Reads 1 named.Progress replies.progress_in p (drop size behind) c.in_ok-progress.end.now =
    subst (λ (l : List ℕ). Reads 1 named.Progress replies.progress_in p l c.in_ok-progress.end.now)
    (rest_here behind size) c.in_ok-progress.ensures in
    subst (λ (a : List ℕ). Reads 4 named.TraceItem replies.item_in
    (record { agent = a; target = target; progress = p; wide = c.in-Some.wide }) octets
    (drop (length octets - length rest) octets)) (sym (c.new-2.ensures ∙ c.in_ok-new.ensures))
    (read_taken 4 named.TraceItem replies.item_in
    (record { agent = c.in_ok-agent.agent.now; target = target; progress = p; wide = c.in-Some.wide }) octets rest
    (length octets - length rest) refl
    (item_read c.in_ok-agent.agent.now target p c.in-Some.wide c.in_ok-content.content.now behind (drop size behind)
    c.in_ok-progress.end.now octets rest c.in_ok-content.ensures.opens c.in_ok-agent.ensures.is
    c.in_ok-target.ensures.reads progress c.in-Some.ensures))
