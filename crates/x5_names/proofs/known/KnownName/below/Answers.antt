-- What was read goes on from the known text, and its name from the known name.
use Rattle.std.proofs.Common.{◌≡◌, ◌<◌, false, [], ◌∷◌, ◌++◌, length, Ok, subst, sym, ap, ◌∙◌, arith}
use Rattle.x5_model.specs.Keys.{is_root}
use Rattle.x5_model.specs.Values.{key_of}
use Rattle.x5_names.specs.Reading.{stored_name_of_text}
use Rattle.x5_names.proofs.Below.{read_below, some_rdn}
use Rattle.x5_names.proofs.known.KnownName.below.Goals as goal

pub returns-in_ok-name-in-Ok : goal.returns-in_ok-name-in-Ok
returns-in_ok-name-in-Ok c =
    let known = c.args.self.now in
    let there : stored_name_of_text known.0 ≡ Ok known.1 = subst (λ k. stored_name_of_text k.0 ≡ Ok k.1) c.self.view_is c.self.invariant in
    let is : c.self.inside.name ≡ known.1 = ap (λ k. k.1) c.self.view_is in
    let more : is_root (key_of known.1) ≡ false = ap (λ n. is_root (key_of n)) (sym is) ∙ sym c.is_root.ensures ∙ c.if-is_root.false in
    let few : length known.1 < 16 = let size = c.len.ensures in let same = ap length is in let under = c.if-len-ge-MOST_RDNS.false in omega (arith, size, same, under) in
    read_below known.0 c.args.text.now known.1 c.in-Ok.rdn (some_rdn known.1 more) few there c.in-Ok.ensures
    ∙ ap Ok (sym (c.in_ok-name-in-Ok.ensures ∙ ap (λ n. n ++ c.in-Ok.rdn ∷ []) is))
