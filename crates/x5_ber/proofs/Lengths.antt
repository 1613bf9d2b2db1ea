-- A length in the long form, read from octets of which the enclosing end cuts some off.
use Rattle.std.proofs.Common.{◌≡◌, ℕ, ◌+◌, ◌-◌, ◌<◌, ◌≤◌, List, ◌∷◌, length, take, drop, arith, refl, sym, ap, ◌∙◌, length-drop, length-take}
use Rattle.std.specs.declared.option.Option.TheVariants.{Some}
use Rattle.std.specs.declared.result.Result.TheVariants.{Ok}
use Rattle.std.proofs.lemmas.Bool.{le-ltb, ne_eqb}
use Rattle.std.proofs.lemmas.List.{drop-drop, drop-take, take-take}
use Rattle.x5_model_octets.specs.Headers.{length_at, big_endian}

cut_between : (whole : List ℕ) (end start count : ℕ) → start + count ≤ end → take count (drop start (take end whole)) ≡ drop start (take (start + count) whole)
cut_between whole end start count fits =
    let sum : start + (end - start) ≡ end = omega arith in
    let seen : drop start (take end whole) ≡ take (end - start) (drop start whole) = ap (λ (n : ℕ). drop start (take n whole)) (sym sum) ∙ drop-take start (end - start) whole in
    ap (λ (l : List ℕ). take count l) seen ∙ take-take count (end - start) (drop start whole) (omega arith) ∙ sym (drop-take start count whole)

pub long_length : (whole : List ℕ) (end start first : ℕ) → end ≤ length whole → drop start (take end whole) ≡ first ∷ drop (start + 1) (take end whole)
    → 128 < first → first ≤ 136 → start + 1 + (first - 128) ≤ end
    → length_at (drop start (take end whole)) ≡ Ok (Some (big_endian 0 (drop (start + 1) (take (start + 1 + (first - 128)) whole))), drop (start + 1 + (first - 128)) (take end whole))
long_length whole end start first there at above below fits =
    let room : first - 128 ≤ length (drop (start + 1) (take end whole)) = omega (arith, length-drop (start + 1) (take end whole), length-take end whole) in
    rw (at, le-ltb first 128 (omega arith), ne_eqb first 128 (λ e. omega arith), le-ltb 136 first below, le-ltb _ _ room, cut_between whole end (start + 1) (first - 128) fits, drop-drop (first - 128) (start + 1) (take end whole)) refl
