-- How a feeder takes a piece, by what is seen of its octets with the part that still fits: a whole value is taken up to
-- its end, a beginning that passes the longest value is too long, and a fault is the first one of the octets.
use Rattle.std.proofs.Common.{◌≡◌, ℕ, ◌-◌, ◌<◌, ◌++◌, List, length, take, min, arith, sym, ap, subst, ◌∙◌}
use Rattle.std.proofs.Common.{length-append, length-take, Ok, Result}
use Rattle.x5_ber.specs.declared.feeder.FeedFault.{FeedFault}
use Rattle.x5_ber.specs.Reading.{ValueAt, AreOpen}
use Rattle.x5_ber.specs.States.{State, reading, whole}
use Rattle.x5_ber.specs.Feeding.{IsBeginning, IsBreach, Feeds, longest}
use Rattle.x5_ber.proofs.Opening.{open_more}
use Rattle.x5_ber.proofs.Pieces.{wanting, value_beyond, whole_kept, whole_reads, cut_piece, beginning_cut}
use Rattle.x5_ber.proofs.feeder.Feeder.read.Goals as goal

pub look-requires-clause-open_at : goal.look-requires-clause-open_at
look-requires-clause-open_at c =
    let was = wanting c.self.inside.octets.items c.self.inside.reader c.self.inside.progress c.args.self.now c.self.view_is c.requires c.self.invariant in
    subst (λ (xs : List ℕ). AreOpen (xs ++ take c.min.result c.args.piece.now) c.self.inside.reader.enclosing 0 c.self.inside.reader.depth c.self.inside.reader.at) (sym c.deref.ensures.value)
    (open_more c.self.inside.octets.items (take c.min.result c.args.piece.now) c.self.inside.reader.enclosing 0 c.self.inside.reader.depth c.self.inside.reader.at was.1.open_at)

pub overflow_sub-count : goal.overflow_sub-count
overflow_sub-count c =
    let was = wanting c.self.inside.octets.items c.self.inside.reader c.self.inside.progress c.args.self.now c.self.view_is c.requires c.self.invariant in
    let value : ValueAt (c.self.inside.octets.items ++ take c.min.result c.args.piece.now) 0 c.look.new.reader.at =
    subst (λ (xs : List ℕ). ValueAt (xs ++ take c.min.result c.args.piece.now) 0 c.look.new.reader.at) c.deref.ensures.value c.in-Whole.ensures.sees in
    omega (arith, value_beyond _ _ _ was.1.beginning value, c.len-before.ensures, c.deref.ensures.len, ap length c.deref.ensures.value)

pub invariant_of-self-in-Whole : goal.invariant_of-self-in-Whole
invariant_of-self-in-Whole c =
    let was = wanting c.self.inside.octets.items c.self.inside.reader c.self.inside.progress c.args.self.now c.self.view_is c.requires c.self.invariant in
    let value : ValueAt (c.self.inside.octets.items ++ take c.min.result c.args.piece.now) 0 c.look.new.reader.at =
    subst (λ (xs : List ℕ). ValueAt (xs ++ take c.min.result c.args.piece.now) 0 c.look.new.reader.at) c.deref.ensures.value c.in-Whole.ensures.sees in
    let size : length c.self.inside.octets.items ≡ c.len-before.result = omega (arith, c.len-before.ensures, c.deref.ensures.len, ap length c.deref.ensures.value) in
    whole_kept c.self.inside.octets.items c.args.piece.now c.look.new.reader.at c.len-before.result c.min.result size was.1.short c.min.ensures was.1.beginning value
    c.extend_from_slice.new.self.items c.in_ok-extend_from_slice-in-Whole.ensures.items

pub returns-in_ok-extend_from_slice-in-Whole : goal.returns-in_ok-extend_from_slice-in-Whole
returns-in_ok-extend_from_slice-in-Whole c =
    let was = wanting c.self.inside.octets.items c.self.inside.reader c.self.inside.progress c.args.self.now c.self.view_is c.requires c.self.invariant in
    let value : ValueAt (c.self.inside.octets.items ++ take c.min.result c.args.piece.now) 0 c.look.new.reader.at =
    subst (λ (xs : List ℕ). ValueAt (xs ++ take c.min.result c.args.piece.now) 0 c.look.new.reader.at) c.deref.ensures.value c.in-Whole.ensures.sees in
    let size : length c.self.inside.octets.items ≡ c.len-before.result = omega (arith, c.len-before.ensures, c.deref.ensures.len, ap length c.deref.ensures.value) in
    subst (λ (s : State). Feeds s c.args.piece.now (whole c.extend_from_slice.new.self.items) (Ok (c.look.new.reader.at - c.len-before.result))) (sym was.0)
    (whole_reads c.self.inside.octets.items c.args.piece.now c.look.new.reader.at c.len-before.result c.min.result size was.1.short c.min.ensures was.1.beginning value
    c.extend_from_slice.new.self.items c.in_ok-extend_from_slice-in-Whole.ensures.items)

pub returns-in-Beginning-2 : goal.returns-in-Beginning-2
returns-in-Beginning-2 c =
    let was = wanting c.self.inside.octets.items c.self.inside.reader c.self.inside.progress c.args.self.now c.self.view_is c.requires c.self.invariant in
    let size : length c.self.inside.octets.items ≡ c.len-before.result = omega (arith, c.len-before.ensures, c.deref.ensures.len, ap length c.deref.ensures.value) in
    let cut : c.min.result ≡ min (length c.args.piece.now) (longest - length c.self.inside.octets.items) = c.min.ensures ∙ ap (λ (k : ℕ). min (length c.args.piece.now) (longest - k)) (sym size) in
    let longer : longest < length (c.self.inside.octets.items ++ c.args.piece.now) =
    omega (arith, length-append c.self.inside.octets.items c.args.piece.now, length-take c.min.result c.args.piece.now, cut, was.1.short) in
    subst (λ (s : State). Feeds s c.args.piece.now c.fail.new.self c.fail.result) (sym was.0)
    (subst (λ (r : Result ℕ FeedFault). Feeds (reading c.self.inside.octets.items) c.args.piece.now c.fail.new.self r) (sym c.fail.ensures.same) (
      c.fail.ensures.state,
      longer,
      beginning_cut c.self.inside.octets.items c.args.piece.now c.min.result was.1.short cut
          (subst (λ (xs : List ℕ). IsBeginning (xs ++ take c.min.result c.args.piece.now)) c.deref.ensures.value c.in-Beginning.ensures.sees.0),
    ))

pub returns-in-Breach : goal.returns-in-Breach
returns-in-Breach c =
    let was = wanting c.self.inside.octets.items c.self.inside.reader c.self.inside.progress c.args.self.now c.self.view_is c.requires c.self.invariant in
    let size : length c.self.inside.octets.items ≡ c.len-before.result = omega (arith, c.len-before.ensures, c.deref.ensures.len, ap length c.deref.ensures.value) in
    let cut : c.min.result ≡ min (length c.args.piece.now) (longest - length c.self.inside.octets.items) = c.min.ensures ∙ ap (λ (k : ℕ). min (length c.args.piece.now) (longest - k)) (sym size) in
    subst (λ (s : State). Feeds s c.args.piece.now c.fail-in-Breach.new.self c.fail-in-Breach.result) (sym was.0)
    (subst (λ (r : Result ℕ FeedFault). Feeds (reading c.self.inside.octets.items) c.args.piece.now c.fail-in-Breach.new.self r) (sym c.fail-in-Breach.ensures.same) (
      c.fail-in-Breach.ensures.state,
      subst (λ (l : List ℕ). IsBreach l c.in-Breach.fault) (sym (cut_piece c.self.inside.octets.items c.args.piece.now c.min.result was.1.short cut))
          (subst (λ (xs : List ℕ). IsBreach (xs ++ take c.min.result c.args.piece.now) c.in-Breach.fault) c.deref.ensures.value c.in-Breach.ensures.sees),
    ))
