-- The last message is behind the others, and what became of it is what the course says, as many as were taken.
use Rattle.std.proofs.Common.{◌≡◌, ℕ, ◌<◌, Bool, List, [], ◌∷◌, length, sym, ap, subst, ◌∙◌}
use Rattle.std.proofs.lemmas.Option.{slice_get_within}
use Rattle.x5_model_tree.specs.World.{Agreement}
use Rattle.x5_model_run.specs.Network.{Fate}
use Rattle.x5_model_run.specs.Refresh.{RefreshOutcome, UpdateShadow, ended}
use Rattle.x5_ops.specs.declared.journal.Line.{Line}
use Rattle.x5_ops.specs.JournalViews.{fate_view}
use Rattle.x5_ops.specs.RefreshViews.{refreshed_view, shadow_view, shadows_view}
use Rattle.x5_refresh.specs.Course.{finished, line_of}
use Rattle.x5_refresh.specs.Sent.{count_in}
use Rattle.x5_world.specs.Refreshing.{IsLeft, count_of, last_fate, stamp_in}
use Rattle.x5_world.specs.State.{Net}
use Rattle.x5_world.specs.declared.shadows.Arrived.{Arrived}
use Rattle.x5_world.proofs.Arriving.{bring_arrived, count_arrived, left_arrived, stamp_arrived}
use Rattle.x5_world.proofs.Rounding.{last_so}
use Rattle.x5_world.proofs.Stopping.{finished_same, way_agents}
use Rattle.x5_world.proofs.refreshing.updated.Goals as goal

pub line-requires-clause-supplier : goal.line-requires-clause-supplier
line-requires-clause-supplier c =
    subst (λ (ns : List (List ℕ)). c.args.by.now.agreement.supplier < length ns) (sym c.names.ensures)
    (way_agents c.args.world.now c.args.by.now c.requires.sound c.requires.way).0

pub line-requires-clause-consumer : goal.line-requires-clause-consumer
line-requires-clause-consumer c =
    subst (λ (ns : List (List ℕ)). c.args.by.now.agreement.consumer < length ns) (sym c.names.ensures)
    (way_agents c.args.world.now c.args.by.now c.requires.sound c.requires.way).1

pub taken-requires-clause-consumer : goal.taken-requires-clause-consumer
taken-requires-clause-consumer c =
    subst (λ (g : Agreement). g.consumer < length c.args.world.now.names) (sym c.in_ok-read.ensures.agreement)
    (way_agents c.args.world.now c.args.by.now c.requires.sound c.requires.way).1

pub taken-requires-clause-there : goal.taken-requires-clause-there
taken-requires-clause-there c =
    slice_get_within c.args.world.now.acked c.args.by.now.place c.args.by.now.acked c.requires.way.acked

pub taken-requires-clause-can : goal.taken-requires-clause-can
taken-requires-clause-can c =
    bring_arrived c.args.world.now c.args.by.now.agreement c.args.supplied c.in_ok-read.read c.in_ok-read.ensures c.requires.can

pub returns-clause-left : goal.returns-clause-left
returns-clause-left c =
    let n : Net = c.args.world.now in
    let g : Agreement = c.args.by.now.agreement in
    let last : Fate = fate_view c.fate_of_last-last.result in
    let became : refreshed_view c.is_heard.result g.number c.ended.result
    ≡ finished c.args.by.now.total c.in_ok-read.read.agreement.number c.in_ok-read.read.stamp c.in_ok-count.count last =
    ap (λ (b : Bool). refreshed_view b g.number c.ended.result) c.is_heard.ensures
    ∙ c.ended.ensures g.number
    ∙ ap (λ (h : Agreement). finished c.args.by.now.total h.number c.in_ok-read.read.stamp c.in_ok-count.count last)
    (sym c.in_ok-read.ensures.agreement) in
    subst (λ (o : RefreshOutcome). IsLeft n g c.args.by.now.place c.args.supplied o c.taken.new.world) (sym became)
    (left_arrived n g c.args.by.now.place c.args.supplied c.in_ok-read.read _ c.taken.new.world c.in_ok-read.ensures
    c.in_ok-count.ensures.left)

pub returns-clause-block : goal.returns-clause-block
returns-clause-block c =
    let n : Net = c.args.world.now in
    let g : Agreement = c.args.by.now.agreement in
    let total : Bool = c.args.by.now.total in
    let read : Arrived = c.in_ok-read.read in
    let last : Fate = fate_view c.fate_of_last-last.result in
    let heard : RefreshOutcome = refreshed_view c.is_heard.result g.number c.ended.result in
    let line : shadow_view n.names c.in_ok-line.field-0 ≡ line_of g UpdateShadow (last_fate n g) ∷ [] =
    ap (λ (ns : List (List ℕ)). shadow_view ns c.in_ok-line.field-0) (sym c.names.ensures)
    ∙ c.in_ok-line.ensures.view
    ∙ ap (λ (f : Fate). line_of g UpdateShadow f ∷ []) c.fate_of_last-last.ensures in
    let became : heard ≡ finished total g.number (stamp_in c.args.supplied) (count_of c.args.supplied) (last_fate n g) =
    ap (λ (b : Bool). refreshed_view b g.number c.ended.result) c.is_heard.ensures
    ∙ c.ended.ensures g.number
    ∙ finished_same total g.number read.stamp c.in_ok-count.count (count_in read.brought) last
    c.in_ok-count.ensures.count
    ∙ ap (finished total g.number read.stamp (count_in read.brought)) c.fate_of_last-last.ensures
    ∙ (λ i. finished total g.number (stamp_arrived g c.args.supplied read c.in_ok-read.ensures i)
    (count_arrived g c.args.supplied read c.in_ok-read.ensures i) (last_fate n g)) in
    ap (λ (ls : List Line). ended (shadows_view n.names ls) heard) c.in_ok-push.ensures.ok
    ∙ last_so n.names g total c.args.supplied c.args.lines c.in_ok-line.field-0 (last_fate n g) heard line became
