-- The limit is reached, and a part is left.
use Rattle.std.proofs.Common.{◌+◌, [], List, ℕ, Bor, sym, ◌∙◌, ap, map, get_or, drop, arith}
use Rattle.x5_model_text.specs.NameText as text_of
use Rattle.x5_syntax.proofs.EscapeLemmas.{seen_from}
use Rattle.x5_syntax.proofs.NameLemmas.{pairs_at_full}
use Rattle.x5_syntax.proofs.names.pairs_at.Goals as goal

pub returns-then-len-ge-MOST_PAIRS : goal.returns-then-len-ge-MOST_PAIRS
returns-then-len-ge-MOST_PAIRS c =
    let i = c.loop-part.part-index in
    let part : Bor (List ℕ) = get_or c.args.parts.now i (record { ref_ptr = (0, 0); now = [] }) in
    let rest = map (λ (x : Bor (List ℕ)). x.now) (drop (i + 1) c.args.parts.now) in
    let cut = seen_from c.args.parts.now i (record { ref_ptr = (0, 0); now = [] }) c.loop-part-test.true in
    sym c.loop-part.invariant.read
    ∙ ap (text_of.pairs_at c.args.limited c.loop-part.place c.loop-part.pairs.items) cut
    ∙ pairs_at_full c.args.limited c.loop-part.place c.loop-part.pairs.items part.now rest c.if-limited.true (omega arith)
