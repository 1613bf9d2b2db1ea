-- Where the whole name is known it's the longest, and else the longest is that of the name above.
use Rattle.std.proofs.Common.{◌≡◌, ◌-◌, length, take, refl, sym, ◌∙◌}
use Rattle.std.proofs.lemmas.List.{length-map}
use Rattle.x5_model.specs.Values.{key_of, key_of_rdn}
use Rattle.x5_model.proofs.Decide.{nat_same_decides}
use Rattle.x5_ops.specs.RequestViews.{request_view}
use Rattle.x5_holdings.specs.State.{holdings_view}
use Rattle.x5_holdings.proofs.Knowing.{known_found, known_root, known_above, upper_key}
use Rattle.x5_holdings.proofs.holdings.Holdings.+known.Goals as goal

pub returns-then-is_some : goal.returns-then-is_some
returns-then-is_some t c = known_found (request_view c.args.request.now) (holdings_view c.args.self.now)
    (key_of c.args.name.now) c.known_at-found.result c.known_at-found.ensures
    (sym c.is_some.ensures ∙ c.if-is_some.true)

pub returns-then-is_empty : goal.returns-then-is_empty
returns-then-is_empty t c =
    let z : length c.args.name.now ≡ 0 = (nat_same_decides (length c.args.name.now) 0).0
    (sym c.is_empty.ensures ∙ c.if-is_empty.true) in
    known_root (request_view c.args.request.now) (holdings_view c.args.self.now) (key_of c.args.name.now)
    c.known_at-found.result (length-map c.args.name.now key_of_rdn ∙ z) c.known_at-found.ensures
    (sym c.is_some.ensures ∙ c.if-is_some.false)

pub returns : goal.returns
returns t c =
    known_above (request_view c.args.request.now) (holdings_view c.args.self.now) (key_of c.args.name.now)
    (key_of (take (length c.args.name.now - 1) c.args.name.now)) c.known_at-found.result c.known.result
    (upper_key c.args.name.now (length c.args.name.now - 1) refl) c.known_at-found.ensures
    (sym c.is_some.ensures ∙ c.if-is_some.false) c.known.ensures
