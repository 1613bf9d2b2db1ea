-- An agreement, a moment and a total refresh, and nothing else, are what is sent.
use Rattle.std.proofs.Common.{ℕ, List, drop, subst, arith}
use Rattle.x5_model_typed.specs.Layouts.{time_leaf}
use Rattle.x5_model_typed.specs.Nodes.{whole}
use Rattle.x5_types.specs.FormView.{world}
use Rattle.x5_direct.specs.Spelled.{Opens}
use Rattle.x5_direct.proofs.Heads.{rest_here}
use Rattle.x5_dispber.specs.Direct.{LeafAt}
use Rattle.x5_dispber.specs.ShadowViews.{told_refresh}
use Rattle.x5_dispber.specs.declared.shadow.Refresh.TheVariants.{Total}
use Rattle.x5_dispber.proofs.DirectParts.{nothing_behind, sent_read}
use Rattle.x5_dispber.proofs.direct.sent_in.Goals as goal

pub returns : goal.returns
returns c =
    let names = c.args.names.now in
    let w = world c.args.start.now names in
    let content = c.in_ok-content.content.now in
    let size = c.in_ok-agreement.size in
    let taken = c.in_ok-stamp.taken in
    let stamp = c.in_ok-stamp.stamp in
    let chosen = c.in_ok-chosen.chosen.now in
    let end = c.in_ok-chosen.end.now in
    let behind = drop size content in
    let here = rest_here content size in
    let moment : LeafAt (time_leaf w) 24 (whole stamp) behind (drop taken behind) =
    subst (λ (l : List ℕ). LeafAt (time_leaf w) 24 (whole stamp) l (drop taken l)) here c.in_ok-stamp.ensures.says in
    let last : Opens 160 chosen (drop taken behind) end =
    subst (λ (l : List ℕ). Opens 160 chosen (drop taken l) end) here
    (subst (λ (l : List ℕ). Opens 160 chosen l end) (rest_here _ taken) c.in_ok-chosen.ensures.opens) in
    let none = nothing_behind c.in_ok-content.rest.now end (omega (arith, c.if-rest-end-gt0.false)) in
    sent_read w c.in_ok-agreement.agreement stamp (told_refresh names (Total c.in_ok-total.total)) c.args.octets.now
    content
    c.in_ok-content.rest.now behind (drop taken behind) chosen end c.in_ok-content.ensures.opens none.0
    c.in_ok-agreement.ensures.says moment last none.1 c.in_ok-total.ensures
