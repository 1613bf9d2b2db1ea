-- The pair goes before the first with a larger number.
use Rattle.std.proofs.Common.{ℕ, List, nat_lt, insert, sym, ◌∙◌, ap}
use Rattle.std.specs.List.{position_or_len}
use Rattle.x5_model.specs.Values.{Text}
use Rattle.x5_syntax.proofs.NameLemmas.{inserted_is}
use Rattle.x5_syntax.proofs.names.insert.Goals as goal

pub returns : goal.returns
returns c =
    let place = c.place_of-place.ensures.place
    ∙ ap (λ n. position_or_len (λ (q : ℕ × Text). nat_lt n q.0) c.deref.result.now) c.number.ensures.same
    ∙ ap (position_or_len (λ (q : ℕ × Text). nat_lt c.args.pair.0 q.0)) c.deref.ensures.value in
    c.in_ok-insert.ensures.items
    ∙ ap (λ n. insert c.args.pairs.now.items n c.args.pair) place
    ∙ sym (inserted_is c.args.pair c.args.pairs.now.items)
