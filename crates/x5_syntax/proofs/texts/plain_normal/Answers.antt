-- The small letter of an octet goes behind those before it, and the octet leaves the rest as plain as the whole text
-- is; at the end all small letters are there.
use Rattle.std.proofs.Common.{◌≡◌, true, ◌<◌, ◌+◌, ◌++◌, ◌==◌, ◌&&◌, not, [], ◌∷◌, length, drop, map, take}
use Rattle.std.proofs.Common.{get_or, inl, inr, sym, ap, ap₂, ◌∙◌, append_assoc, append-nil, arith}
use Rattle.std.proofs.lemmas.List.{drop_all, drop_more, take_more_set, length-set}
use Rattle.std.specs.Char.{to_ascii_lowercase}
use Rattle.x5_syntax.specs.Plain.{is_plain}
use Rattle.x5_syntax.proofs.TextLemmas.{plain_folded}
use Rattle.x5_syntax.proofs.texts.plain_normal.Goals as goal

pub loop-i-preserved : goal.loop-i-preserved
loop-i-preserved c =
    let i = c.loop-i.i in
    let text = c.args.text.now in
    let octet = get_or text i 0 in
    let octets = c.loop-i.octets in
    let before = take i octets in
    let small = c.to_ascii_lowercase.result in
    let rest = drop (i + 1) text in
    let inv = c.loop-i.invariant in
    let next : drop i text ≡ octet ∷ rest = drop_more text i 0 c.loop-i-test.true in
    let room : i < length octets = omega (arith, c.loop-i-test.true, c.if-text-gt-MOST_IN_PLACE.false, inv.2) in (
      ap (λ t. t ++ map to_ascii_lowercase rest) (take_more_set octets i small room)
          ∙ append_assoc before (small ∷ []) (map to_ascii_lowercase rest)
          ∙ ap (λ b. before ++ b ∷ map to_ascii_lowercase rest) c.to_ascii_lowercase.ensures.value
          ∙ sym (ap (λ t. before ++ map to_ascii_lowercase t) next)
          ∙ inv.0,
      sym (ap (λ s. s && is_plain (octet == 32) c.args.last rest) (sym c.stays.ensures ∙ c.if-not-stays.false))
          ∙ sym (ap (is_plain c.loop-i.behind_space c.args.last) next)
          ∙ inv.1,
      length-set octets i small ∙ inv.2,
    )

pub returns : goal.returns
returns c =
    let i = c.loop-i.i in
    let text = c.args.text.now in
    let octets = c.loop-i.octets in
    let inv = c.loop-i.invariant in
    let none_left : drop i text ≡ [] = drop_all i text c.loop-i-test.false in
    let whole : length text ≡ i = omega (arith, c.loop-i-test.false, c.loop-i.auto.i-end) in
    let ends : not (c.loop-i.behind_space && c.args.last) ≡ true =
    elim c.else-behind_space.either [
      | inl w ↦ ap₂ (λ b last. not (b && last)) w.0 w.1
      | inr w ↦ ap (λ b. not (b && c.args.last)) w
    ] in
    let plain = sym inv.1 ∙ ap (is_plain c.loop-i.behind_space c.args.last) none_left ∙ ends in
    c.from_first.ensures
    ∙ ap (λ n. take n octets) whole
    ∙ sym (append-nil (take i octets))
    ∙ sym (ap (λ t. take i octets ++ map to_ascii_lowercase t) none_left)
    ∙ inv.0
    ∙ plain_folded c.args.first c.args.last text plain
