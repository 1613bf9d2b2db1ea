-- A read of a name that is read from a text is within the limits of messages.
use Rattle.std.proofs.lemmas.Result.{IfOk-at_ok}
use Rattle.x5_model_fitting.specs.Names.{NameWithin}
use Rattle.x5_model_within.proofs.Texts.{name_within}
use Rattle.x5_test_worlds.proofs.swaps.read.Goals as goal

pub ask-asked-requires-clause-short : goal.ask-asked-requires-clause-short
ask-asked-requires-clause-short c =
    let within : NameWithin c.in_ok-parse.field-0 =
    IfOk-at_ok NameWithin c.in_ok-parse.ensures (name_within c.args.object.now) in
    record { target = within.few; new_name = λ name e. cc }

pub ask-asked-requires-clause-within : goal.ask-asked-requires-clause-within
ask-asked-requires-clause-within c = record {
  controls = tt;
  body = (IfOk-at_ok NameWithin c.in_ok-parse.ensures (name_within c.args.object.now), tt);
}

pub ask-asked-requires-clause-room : goal.ask-asked-requires-clause-room
ask-asked-requires-clause-room c = (c.args.before, (c.requires.room, c.requires.few))

pub returns : goal.returns
returns c = c.in_ok-reply.ensures.room_after c.args.before c.requires.room
