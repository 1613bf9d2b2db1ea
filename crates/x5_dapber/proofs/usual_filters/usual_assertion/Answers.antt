-- A type and a value, and nothing behind it, are the assertion.
use Rattle.std.proofs.Common.{List, ℕ, [], ◌-◌, drop, length, subst, take}
use Rattle.x5_model_typed.specs.Named as named
use Rattle.x5_model_typed.specs.Rules.{value_in}
use Rattle.x5_syntax.specs.ValueView.{value_view}
use Rattle.x5_direct.specs.Spelled.{Reads}
use Rattle.x5_direct.proofs.Heads.{rest_here}
use Rattle.x5_dapber.proofs.Invoking.{all_taken}
use Rattle.x5_dapber.proofs.UsualFilters.{assertion_reads}
use Rattle.x5_dapber.proofs.usual_filters.usual_assertion.Goals as goal

pub returns : goal.returns
returns c =
    let content = c.in_ok-content.content.now in
    let behind = take (length content - 5) (drop 5 content) in
    let value = value_view c.in_ok-value.value in
    let all : Reads 3 named.Value value_in value behind [] =
    subst (λ (l : List ℕ). Reads 3 named.Value value_in value behind l)
    (all_taken c.in_ok-value.taken behind c.if-taken-behind.false) c.in_ok-value.ensures.reads in
    assertion_reads c.in_ok-kind.kind value content (drop 5 content) c.args.octets.now c.in_ok-content.ensures
    c.in_ok-kind.ensures.known c.in_ok-kind.ensures.is
    (subst (λ (l : List ℕ). Reads 3 named.Value value_in value l []) (rest_here content 5) all)
