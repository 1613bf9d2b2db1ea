-- What is read straight is what the octets spell, and they come to nothing else; otherwise the reader over the table says it.
use Rattle.std.specs.declared.result.Result.TheVariants.{Ok}
use Rattle.x5_model_messages.specs.Replies as replies
use Rattle.x5_model_typed.specs.Named as named
use Rattle.x5_dapber.proofs.Decoding.{known_read}
use Rattle.x5_dapber.proofs.Octets.{spelled_comes}
use Rattle.x5_dapreply.specs.ReplyViews.{heard_in, unnumbered}
use Rattle.x5_dapreply.proofs.SaidReplies.{heard_back, said_decodes, seen}
use Rattle.x5_dapreply.proofs.WholeSpelling.{spelled_whole}
use Rattle.x5_dspber.proofs.messages.decode_result.Goals as goal

pub returns-in-Ok-clause-decodes : goal.returns-in-Ok-clause-decodes
returns-in-Ok-clause-decodes c = λ e comes.
    said_decodes named.DspAnswer c.args.octets.now c.in-Ok.reply c.in-Ok.ensures.1 e comes

pub returns-in-Ok-clause-comes : goal.returns-in-Ok-clause-comes
returns-in-Ok-clause-comes c =
    let w = spelled_whole named.DspAnswer heard_in (seen c.in-Ok.reply) c.args.octets.now c.in-Ok.ensures.1 in
    (Ok w.0, spelled_comes named.DspAnswer c.args.octets.now w.0 w.1)

pub returns-in-Ok-clause-exact : goal.returns-in-Ok-clause-exact
returns-in-Ok-clause-exact c = λ n spells.
    said_decodes named.DspAnswer c.args.octets.now c.in-Ok.reply c.in-Ok.ensures.1 (Ok n)
    (spelled_comes named.DspAnswer c.args.octets.now n spells)

pub returns-in-Ok-clause-spelled : goal.returns-in-Ok-clause-spelled
returns-in-Ok-clause-spelled c =
    spelled_whole named.DspAnswer heard_in (seen c.in-Ok.reply) c.args.octets.now c.in-Ok.ensures.1

pub returns-in-Ok-clause-back : goal.returns-in-Ok-clause-back
returns-in-Ok-clause-back c = λ id r is_told spells.
    let n = replies.reply_node replies.to_agent id r in
    known_read seen heard_in n (id, unnumbered r) (Ok c.in-Ok.reply) (heard_back replies.to_agent id r is_told)
    (said_decodes named.DspAnswer c.args.octets.now c.in-Ok.reply c.in-Ok.ensures.1 (Ok n)
    (spelled_comes named.DspAnswer c.args.octets.now n spells))
