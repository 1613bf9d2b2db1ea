-- By cases on what `strip_suffix` gives.
use Rattle.std.proofs.lemmas.Str.Pattern.{strip_suffix_char}
use Rattle.x5_match.proofs.ParseLemmas.{sides_of_strip}
use Rattle.x5_match.proofs.parse.before_last.Goals as goal

pub returns : goal.returns
returns c = sides_of_strip c.args.sign c.args.text.now c.strip_suffix.result (strip_suffix_char c.args.sign c.args.text.now c.strip_suffix.result c.strip_suffix.ensures.cases c.requires)
