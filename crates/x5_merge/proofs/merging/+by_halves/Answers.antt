-- Both halves are of the parts' kind, and neither is empty nor the whole.
use Rattle.std.proofs.Common.{◌≡◌, ◌++◌, ◌/◌, ◌∷◌, [], true, List, length, take, drop, sym, ap, subst, ◌∙◌, arith}
use Rattle.std.proofs.lemmas.List.{take-append-drop, length-take-le, length-drop}
use Rattle.x5_ops.specs.declared.answers.Answer.{Answer}
use Rattle.x5_merge.specs.Merging.{are_alike}
use Rattle.x5_merge.proofs.Halves.{front_alike, back_alike, merges_alike, if_halves}
use Rattle.x5_merge.proofs.merging.+by_halves.Goals as goal

pub by_halves-requires : goal.by_halves-requires
by_halves-requires t c =
    let items = c.in_ok-later.ensures.items in
    let tail = c.in_ok-later.ensures.tail in
    let all : c.split_off.new.self.items ++ c.in_ok-later.later.items ≡ c.args.parts.items = (λ i. items i ++ tail i) ∙ take-append-drop (c.len-middle.result / 2) c.args.parts.items in
    let long : length c.split_off.new.self.items ≡ c.len-middle.result / 2 = ap length items ∙ length-take-le (c.len-middle.result / 2) c.args.parts.items (omega (arith, c.len-middle.ensures, c.args.parts.ok.0)) in
    let alike : are_alike (c.split_off.new.self.items ++ c.in_ok-later.later.items) ≡ true = subst (λ (ps : List Answer). are_alike ps ≡ true) (sym all) c.requires.alike in (
      omega (arith, long, c.len-middle.ensures, c.args.parts.ok.0, c.decreases),
      (omega (arith, long), front_alike c.split_off.new.self.items c.in_ok-later.later.items alike),
    )

pub by_halves-requires-2 : goal.by_halves-requires-2
by_halves-requires-2 t c =
    let items = c.in_ok-later.ensures.items in
    let tail = c.in_ok-later.ensures.tail in
    let all : c.split_off.new.self.items ++ c.in_ok-later.later.items ≡ c.args.parts.items = (λ i. items i ++ tail i) ∙ take-append-drop (c.len-middle.result / 2) c.args.parts.items in
    let long = ap length tail ∙ length-drop (c.len-middle.result / 2) c.args.parts.items in
    let alike : are_alike (c.split_off.new.self.items ++ c.in_ok-later.later.items) ≡ true = subst (λ (ps : List Answer). are_alike ps ≡ true) (sym all) c.requires.alike in (
      omega (arith, long, c.len-middle.ensures, c.args.parts.ok.0, c.decreases),
      (omega (arith, long, c.len-middle.ensures, c.args.parts.ok.0, c.requires.filled), back_alike c.split_off.new.self.items c.in_ok-later.later.items alike),
    )

pub both-requires : goal.both-requires
both-requires t c =
    let items = c.in_ok-later.ensures.items in
    let tail = c.in_ok-later.ensures.tail in
    let all : c.split_off.new.self.items ++ c.in_ok-later.later.items ≡ c.args.parts.items = (λ i. items i ++ tail i) ∙ take-append-drop (c.len-middle.result / 2) c.args.parts.items in
    merges_alike c.split_off.new.self.items c.in_ok-later.later.items (subst (λ (ps : List Answer). are_alike ps ≡ true) (sym all) c.requires.alike)
    c.in_ok-front.front c.in-Ok.back c.in_ok-front.ensures c.in-Ok.ensures

pub returns-in-Ok : goal.returns-in-Ok
returns-in-Ok t c =
    let items = c.in_ok-later.ensures.items in
    let tail = c.in_ok-later.ensures.tail in
    let all : c.split_off.new.self.items ++ c.in_ok-later.later.items ≡ c.args.parts.items = (λ i. items i ++ tail i) ∙ take-append-drop (c.len-middle.result / 2) c.args.parts.items in
    if_halves c.split_off.new.self.items c.in_ok-later.later.items c.args.parts.items c.in_ok-front.front c.in-Ok.back c.both.result all c.requires.alike
    c.in_ok-front.ensures c.in-Ok.ensures c.both.ensures.merged c.both.ensures.kind
