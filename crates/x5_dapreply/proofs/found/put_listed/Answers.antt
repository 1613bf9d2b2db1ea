-- The entries below, the sources and the outcome stand in the element.
use Rattle.std.proofs.Common.{[], ◌∷◌, map, refl}
use Rattle.x5_model_messages.specs.Replies as replies
use Rattle.x5_model_messages.specs.Terms.{node_of}
use Rattle.x5_model_typed.specs.Named as named
use Rattle.x5_ops.specs.AnswerViews.{sub_view}
use Rattle.x5_direct_writer.proofs.Putting.{one_put}
use Rattle.x5_direct_writer.proofs.Rows.{front_lost, front_put, others_lost}
use Rattle.x5_direct_writer.proofs.Wholes.{first_fault, later_fault}
use Rattle.x5_dapreply.specs.ReplyViews.{told_outcome, told_source}
use Rattle.x5_dapreply.proofs.Founding.{at, of, outcome_elements, whence}
use Rattle.x5_dapreply.proofs.found.put_listed.Goals as goal

pub returns-in_err-put_outcome : goal.returns-in_err-put_outcome
returns-in_err-put_outcome c =
    let a = node_of (map replies.sub_node (map sub_view c.args.subs.now)) in
    let b = node_of (map replies.source_node (map told_source c.args.sources.now)) in
    let q = replies.outcome_node (told_outcome c.args.outcome.now) in
    let old = c.args.out.now in
    let new = c.put_outcome.new.out in
    let fault = c.in_err-put_outcome.field-0.0 in
    others_lost 0 17 (of (named.Outcome named.ListBelow) (node_of (a ∷ b ∷ q ∷ []))) (at 0 named.Subs a) (whence b q) fault old new old new
    c.from_residual.result refl c.from_residual.ensures.1
    (later_fault (at 1 named.Sources b) (outcome_elements q) fault old new old new c.in_err-put_outcome.ensures)

pub returns-in_err-put_sources : goal.returns-in_err-put_sources
returns-in_err-put_sources c =
    let a = node_of (map replies.sub_node (map sub_view c.args.subs.now)) in
    let b = node_of (map replies.source_node (map told_source c.args.sources.now)) in
    let q = replies.outcome_node (told_outcome c.args.outcome.now) in
    let old = c.args.out.now in
    let mid = c.put_outcome.new.out in
    let new = c.put_sources.new.out in
    let fault = c.in_err-put_sources.field-0.0 in
    others_lost 0 17 (of (named.Outcome named.ListBelow) (node_of (a ∷ b ∷ q ∷ []))) (at 0 named.Subs a) (whence b q) fault mid new old new
    c.from_residual-in_err-put_sources.result refl c.from_residual-in_err-put_sources.ensures.1
    (first_fault (at 1 named.Sources b) (outcome_elements q) fault mid new mid new c.in_err-put_sources.ensures)

pub returns-in_err-put_subs : goal.returns-in_err-put_subs
returns-in_err-put_subs c =
    let a = node_of (map replies.sub_node (map sub_view c.args.subs.now)) in
    let b = node_of (map replies.source_node (map told_source c.args.sources.now)) in
    let q = replies.outcome_node (told_outcome c.args.outcome.now) in
    let new = c.put_subs.new.out in
    front_lost 0 17 (of (named.Outcome named.ListBelow) (node_of (a ∷ b ∷ q ∷ []))) (at 0 named.Subs a) (whence b q)
    c.in_err-put_subs.field-0.0 c.put_sources.new.out new c.args.out.now new c.from_residual-in_err-put_subs.result refl
    c.from_residual-in_err-put_subs.ensures.1 c.in_err-put_subs.ensures

pub returns : goal.returns
returns c =
    let a = node_of (map replies.sub_node (map sub_view c.args.subs.now)) in
    let b = node_of (map replies.source_node (map told_source c.args.sources.now)) in
    let q = replies.outcome_node (told_outcome c.args.outcome.now) in
    let old = c.args.out.now in
    let early = c.put_outcome.new.out in
    let mid = c.put_sources.new.out in
    front_put 0 17 c.len-behind.result (of (named.Outcome named.ListBelow) (node_of (a ∷ b ∷ q ∷ []))) (at 0 named.Subs a) (whence b q)
    old mid c.put_subs.new.out c.enclose.new.out refl c.len-behind.ensures c.in_ok-enclose.ensures
    (one_put (at 1 named.Sources b) (outcome_elements q) old early mid c.in_ok-put_outcome.ensures
    c.in_ok-put_sources.ensures) c.in_ok-put_subs.ensures
