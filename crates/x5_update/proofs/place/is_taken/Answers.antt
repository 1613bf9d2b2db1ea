-- An entry of a context that is mastered, or a known pin.
use Rattle.std.proofs.Common.{List, Bool, ◌||◌, sym, ap, ◌∙◌}
use Rattle.std.specs.List.{list_any}
use Rattle.x5_model.specs.Words.{has}
use Rattle.x5_model.specs.Keys.{same_key}
use Rattle.x5_model.specs.Values.{Name, key_of}
use Rattle.x5_model_tree.specs.Tree.{is_there}
use Rattle.x5_dse.specs.Linked.{entries_of}
use Rattle.x5_ops.specs.RequestViews.{request_view}
use Rattle.x5_holdings.specs.State.{Kept, holdings_view}
use Rattle.x5_update.proofs.Committed.{pins_at}
use Rattle.x5_update.proofs.Testing.{taken_by, known_or}
use Rattle.x5_update.proofs.place.is_taken.Goals as goal

pub returns-then-is_entry : goal.returns-then-is_entry
returns-then-is_entry c =
    known_or c.args.state.now (request_view c.args.request.now) (key_of c.args.name.now) c.is_entry.result
    (c.is_entry.ensures ∙ ap (λ (l : List Kept). list_any (λ (k : Kept). is_there (entries_of k.nodes.nodes) (key_of c.args.name.now)) l) c.own.ensures.own)
    c.if-is_entry.true

pub returns-else-is_entry : goal.returns-else-is_entry
returns-else-is_entry c =
    ap (λ (b : Bool). b || c.knows.result) (sym c.if-is_entry.false)
    ∙ taken_by c.args.state.now (request_view c.args.request.now) (key_of c.args.name.now) c.is_entry.result c.knows.result
    (c.is_entry.ensures ∙ ap (λ (l : List Kept). list_any (λ (k : Kept). is_there (entries_of k.nodes.nodes) (key_of c.args.name.now)) l) c.own.ensures.own)
    (c.knows.ensures ∙ ap (λ (n : Name). has same_key (pins_at (request_view c.args.request.now) (holdings_view c.args.state.now)) (key_of n)) c.rdns.ensures)
