-- RDNs of one pair at most are sorted as they stand.
use Rattle.std.proofs.Common.{sym, ◌∙◌, ap, length, nat_lt}
use Rattle.std.specs.List.{list_all}
use Rattle.x5_syntax.proofs.NameLemmas.{singles_sorted}
use Rattle.x5_syntax.proofs.names.sorted_rdns.Goals as goal

pub returns-then-are_single : goal.returns-then-are_single
returns-then-are_single c =
    sym (singles_sorted c.args.rdns.items (ap (list_all (λ r. nat_lt (length r) 2)) (sym c.deref.ensures.value) ∙ sym c.if-are_single.ensures))
