-- The name takes all of the content.
use Rattle.std.proofs.Common.{List, ℕ, [], lit<, lit≤, subst}
use Rattle.x5_model_messages.specs.Terms as terms
use Rattle.x5_model_typed.specs.Forms.{Required}
use Rattle.x5_model_typed.specs.Named as named
use Rattle.x5_direct.specs.Spelled.{Reads}
use Rattle.x5_dapber.proofs.Invoking.{all_taken}
use Rattle.x5_dapber.proofs.Sets.{next_given, reads_higher}
use Rattle.x5_dapber.proofs.direct.object_at.Goals as goal

pub returns : goal.returns
returns c =
    let content = c.in_ok-content.content.now in
    let name = c.in_ok-name.name in
    let whole : Reads 3 named.Name terms.name_of name content [] =
    subst (λ (l : List ℕ). Reads 3 named.Name terms.name_of name content l)
    (all_taken c.in_ok-name.taken content c.if-taken-content.false) c.in_ok-name.ensures.reads in
    next_given 48 160 named.Name Required terms.name_of name content c.args.octets.now c.in_ok-content.rest.now
    (lit≤ tt) (lit< tt) c.in_ok-content.ensures.opens
    (reads_higher 3 48 named.Name terms.name_of name content [] (lit≤ tt) whole)
