-- The text doesn't begin with a `/`.
use lib.Utf8.{encode}
use Rattle.x5_syntax.proofs.NameLemmas.{not_slash}
use Rattle.x5_syntax.proofs.names.written_name.Goals as goal

pub returns-in-None : goal.returns-in-None
unfolding encode
returns-in-None c = not_slash c.args.limited c.args.text.now c.in-None.ensures.cases
