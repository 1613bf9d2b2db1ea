-- Summaries that the texts of a script and an output tell, by computing.
use Rattle.std.proofs.Common.{◌≡◌, refl, codes}
use Rattle.std.specs.Fmt.{digits}
use Rattle.x5_model.specs.Values.{Text}
use Rattle.x5_model_counted.specs.Lines.{summary_of}

-- a read at the agent that masters the entry
abbrev read_script : Text
read_script = codes "at Beta read /C=NL/O=Acme\n"

abbrev read_output : Text
read_output =
    codes "knowledge consistent\n#1\nmsg user Beta read start t=0 /C=NL/O=Acme sent\nentry /C=NL/O=Acme\nattr objectClass=2.5.6.4\nattr O=Acme\nattr description=tools\nsource /C=NL/O=Acme Beta now\n"

one_read : summary_of read_script read_output
    ≡ codes "knowledge consistent\nsummary requests 1 entries 1 subs 0 errors 0 referrals 0 unexplored 0 accepted 0 refreshed 0\n"
unfolding digits
one_read = refl

-- a list that isn't whole, an update and two refreshes, of which one isn't heard of; a comment is no request, and a last
-- line without a line feed is a line
abbrev script : Text
script = codes "# at no agent\nat A list /C=NL\n\ndown B\nat A remove /C=NL/O=X\npull 1 total\npull 2 total"

abbrev output : Text
output =
    codes "knowledge inconsistent C4 A /C=NL\n#2\nlisted 2\nsub O=X\nsub O=Y copy\nunexplored cross /C=NL/O=Z next=2 B\n#4\nset\n#5\naccepted A\nchanged\n#6\nrefreshed 1 total 19930101000001Z 2\n#7\nunrefreshed 2\n"

several : summary_of script output
    ≡ codes "knowledge inconsistent C4 A /C=NL\nsummary requests 2 entries 0 subs 2 errors 0 referrals 0 unexplored 1 accepted 1 refreshed 1\n"
unfolding digits
several = refl
