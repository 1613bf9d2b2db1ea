-- Each way of the first reading, and what octets come to then.
use Rattle.std.proofs.Common.{◌++◌}
use Rattle.x5_ber.specs.Views.{fault_view}
use Rattle.std.specs.declared.result.Result.TheVariants.{Err}
use Rattle.x5_model_octets.specs.Breaches as octet_breaches
use Rattle.x5_model_typed.specs.Judged as judged
use Rattle.x5_typed.specs.Comes.{faulty, whole}
use Rattle.x5_types.specs.FormView.{named_view, table_in}
use Rattle.x5_typed.proofs.Whole.{faulty_comes, more_comes, comes_more, whole_comes, tree_of, spelled_by}
use Rattle.x5_typed.proofs.reader.read_in.Goals as goal

pub returns-in-Err-clause-reads : goal.returns-in-Err-clause-reads
returns-in-Err-clause-reads c = λ r k. faulty_comes (table_in c.args.surroundings) (named_view c.args.form) c.args.octets.now c.in-Err.fault
    c.in-Err.ensures.fault (λ e s p q. c.in-Err.ensures.only e s p q) r k

pub returns-in-Err-clause-comes : goal.returns-in-Err-clause-comes
returns-in-Err-clause-comes c = (
  Err (octet_breaches.Ber (fault_view c.in-Err.fault)),
  faulty (fault_view c.in-Err.fault)
      c.in-Err.ensures.fault,
)

pub returns-in-Ok-clause-reads : goal.returns-in-Ok-clause-reads
returns-in-Ok-clause-reads c =
    λ r k. more_comes (table_in c.args.surroundings) (named_view c.args.form) c.args.octets.now c.in-Ok.next c.wrong_tag.result c.if-next-octets.true
    c.wrong_tag.ensures (λ f k. c.in-Ok.ensures.exact f k) (λ e s p q. c.in-Ok.ensures.only e s p q) r k

pub returns-in-Ok-clause-comes : goal.returns-in-Ok-clause-comes
returns-in-Ok-clause-comes c =
    let f = c.in-Ok.ensures.found in
    comes_more (table_in c.args.surroundings) (named_view c.args.form) c.args.octets.now c.in-Ok.next f.element (f.header ++ (f.content ++ f.tail))
    c.if-next-octets.true f.spells f.stands f.next_is

pub returns-in-Ok-2-clause-reads : goal.returns-in-Ok-2-clause-reads
returns-in-Ok-2-clause-reads c =
    λ r k. whole_comes (table_in c.args.surroundings) (named_view c.args.form) c.args.octets.now c.in-Ok.next c.read_whole.result
    c.if-next-octets.false (λ f k. c.in-Ok.ensures.exact f k) (λ e s p q. c.in-Ok.ensures.only e s p q)
    (λ t l. c.read_whole.ensures t l) r k

pub returns-in-Ok-2-clause-comes : goal.returns-in-Ok-2-clause-comes
returns-in-Ok-2-clause-comes c =
    let f = c.in-Ok.ensures.found in
    let tree = tree_of c.args.octets.now c.in-Ok.next f.element (f.header ++ (f.content ++ f.tail))
    c.if-next-octets.false f.spells f.stands f.next_is in
    (judged.judged (table_in c.args.surroundings) ((table_in c.args.surroundings) (named_view c.args.form)) tree.0, whole tree.0 tree.1)

pub returns-in-Ok-2-clause-spelled : goal.returns-in-Ok-2-clause-spelled
returns-in-Ok-2-clause-spelled c =
    let f = c.in-Ok.ensures.found in
    let tree = tree_of c.args.octets.now c.in-Ok.next f.element (f.header ++ (f.content ++ f.tail))
    c.if-next-octets.false f.spells f.stands f.next_is in
    spelled_by (table_in c.args.surroundings) (named_view c.args.form) c.args.octets.now tree.0 c.read_whole.result tree.1
    (c.read_whole.ensures tree.0 tree.1)
