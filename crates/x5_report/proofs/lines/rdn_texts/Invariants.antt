-- The texts so far, with those of the keyed RDNs that are left, are the texts of all RDNs.
use Rattle.std.proofs.Common.{◌≡◌, ◌++◌, map, drop, string_bytes}
use Rattle.x5_report.specs.Order.{keyed_text}
use Rattle.x5_report.proofs.lines.rdn_texts.Given as goal

abbrev pub invariant-loop-rdn : goal.invariant-loop-rdn
invariant-loop-rdn l = map string_bytes l.texts.items ++ map keyed_text (drop l.rdn-index l.rdns) ≡ map keyed_text l.rdns
