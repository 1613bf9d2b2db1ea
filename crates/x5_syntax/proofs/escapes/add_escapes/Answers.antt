-- One part more.
use Rattle.std.proofs.Common.{◌≡◌, ◌+◌, [], ◌∷◌, List, ℕ, Bor, Ok, sym, ◌∙◌, ap, map, length, get_or, drop, add_assoc, arith}
use Rattle.x5_model_text.specs.ValueText.{joined, escape_at, escapes_at}
use Rattle.x5_syntax.specs.Escapes.{span}
use Rattle.x5_syntax.proofs.EscapeLemmas.{joined_after, seen_from}
use Rattle.x5_syntax.proofs.escapes.add_escapes.Goals as goal

pub loop-part-preserved : goal.loop-part-preserved
loop-part-preserved c =
    let i = c.loop-part.part-index in
    let part : Bor (List ℕ) = get_or c.args.parts.now i (record { ref_ptr = (0, 0); now = [] }) in
    let rest = map (λ (x : Bor (List ℕ)). x.now) (drop (i + 1) c.args.parts.now) in
    let cut = seen_from c.args.parts.now i (record { ref_ptr = (0, 0); now = [] }) c.loop-part-test.true in
    let added : joined (Ok c.loop-part.out.items) (escape_at c.loop-part.place part.now) ≡ Ok c.add_escape.new.out.items =
    ap (λ t. joined (Ok c.loop-part.out.items) (escape_at c.loop-part.place t)) (sym c.as_bytes.ensures.value) ∙ c.in_ok-add_escape.ensures in
    record {
      in_range = omega (arith, ap span cut, c.loop-part.invariant.in_range);
      read =
          joined_after c.loop-part.out.items c.add_escape.new.out.items (escape_at c.loop-part.place part.now) (escapes_at (c.loop-part.place + (length part.now + 1)) rest) added
          ∙ ap (λ n. joined (Ok c.loop-part.out.items) (joined (escape_at c.loop-part.place part.now) (escapes_at n rest))) (sym (add_assoc c.loop-part.place (length part.now) 1))
          ∙ ap (λ ts. joined (Ok c.loop-part.out.items) (escapes_at c.loop-part.place ts)) (sym cut)
          ∙ c.loop-part.invariant.read;
    }
