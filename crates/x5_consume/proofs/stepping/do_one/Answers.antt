-- The step can be done, and the change that is made is what it does.
use Rattle.x5_holdings.proofs.Holding.{some_within}
use Rattle.x5_consume.proofs.Going.{find_first, one_done, ready_at, room_at}
use Rattle.x5_consume.proofs.stepping.do_one.Goals as goal

pub change_at-change-requires : goal.change_at-change-requires
change_at-change-requires c = find_first c.args.state.now c.args.place c.args.one c.requires

pub change_copy-requires-clause-there : goal.change_copy-requires-clause-there
change_copy-requires-clause-there c = some_within c.args.state.now.copies c.args.place c.requires.copy c.requires.there

pub change_copy-requires-clause-ready : goal.change_copy-requires-clause-ready
change_copy-requires-clause-ready c = λ k got.
    ready_at c.args.state.now c.args.place c.args.one c.change_at-change.result c.requires c.change_at-change.ensures k got

pub change_copy-requires-clause-room : goal.change_copy-requires-clause-room
change_copy-requires-clause-room c = λ k got.
    room_at c.args.state.now c.args.place c.args.one c.change_at-change.result c.requires c.change_at-change.ensures k got

pub returns : goal.returns
returns c =
    one_done c.args.state.now c.args.place c.args.one c.change_at-change.result c.requires c.change_at-change.ensures
    c.args.stamp c.change_copy.new.self c.change_copy.ensures
