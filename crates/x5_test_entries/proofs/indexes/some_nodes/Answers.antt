-- Each node differs from those before, so it isn't there yet; and the first stays until it is dropped.
use Rattle.std.proofs.Common.{List, sym, ap, subst, ◌∙◌, arith}
use Rattle.x5_index.specs.Index.{Posting, is_there, IsEntryAt}
use Rattle.x5_index.proofs.Laws.{absent_elsewhere, entry_elsewhere}
use Rattle.x5_test_entries.proofs.indexes.some_nodes.Goals as goal

pub add-requires-2 : goal.add-requires-2
add-requires-2 c =
    absent_elsewhere c.new-postings.result.postings c.add.new.self.postings 7 9 c.in_ok-add.ensures.ok.others (λ e. omega arith)
    (ap (λ (ps : List Posting). is_there ps 9) c.new-postings.ensures)

pub put-requires-clause-absent : goal.put-requires-clause-absent
put-requires-clause-absent c =
    ap (λ (ps : List Posting). is_there ps 5) c.reserve.ensures.postings
    ∙ absent_elsewhere c.add.new.self.postings c.add-2.new.self.postings 9 5 c.in_ok-add-2.ensures.ok.others (λ e. omega arith)
    (absent_elsewhere c.new-postings.result.postings c.add.new.self.postings 7 5 c.in_ok-add.ensures.ok.others (λ e. omega arith)
    (ap (λ (ps : List Posting). is_there ps 5) c.new-postings.ensures))

pub drop_node-requires : goal.drop_node-requires
drop_node-requires c =
    entry_elsewhere c.reserve.new.self.postings c.put.new.self.postings 5 7 (c.put.ensures.put c.args.entry.now c.new.ensures.ordered c.in_ok-room.ensures.terms).others (λ e. omega arith) c.args.entry.now
    (subst (λ (ps : List Posting). IsEntryAt ps 7 c.args.entry.now) (sym c.reserve.ensures.postings)
    (entry_elsewhere c.add.new.self.postings c.add-2.new.self.postings 9 7 c.in_ok-add-2.ensures.ok.others (λ e. omega arith) c.args.entry.now c.in_ok-add.ensures.ok.here))
