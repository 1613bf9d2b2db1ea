-- What a sink keeps of the octets that it took, so that a refusal can be told in words besides.
use Rattle.std.specs.Prelude.{ℕ, ◌==◌, List, take}
use Rattle.std.specs.List.{before_first}
use Rattle.std.specs.Str.Lossy.{utf8_valid_len}
use Rattle.xdir.specs.declared.told.ToldSink.{ToldSink}

-- how many octets are kept
abbrev pub most_kept : ℕ
most_kept = 512

-- the first octets that it took
abbrev pub kept : {K : Type 0} → ToldSink K → List ℕ
kept told = take told.count told.first

-- the first line of a text, as far as it is UTF-8, without its line feed
abbrev pub first_line : List ℕ → List ℕ
first_line octets = before_first (λ octet. octet == 10) (take (utf8_valid_len octets) octets)
