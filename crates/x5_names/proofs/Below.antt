-- A text that goes on from the text of a name with a `/` and the text of an RDN spells what stands below the name by that
-- RDN, normal forms and all.
use Rattle.std.proofs.Common.{◌≡◌, ◌<◌, ◌≤◌, false, [], ◌∷◌, ◌++◌, length, Result, Ok, sym, ap, ap₂, ◌∙◌, arith}
use Rattle.std.proofs.lemmas.List.{length-map, map-append}
use Rattle.x5_model.specs.Keys.{is_root}
use Rattle.x5_model.specs.Values.{Text, NameValue, Rdn, Name, key_of}
use Rattle.x5_model.specs.Normal.{stored, stored_rdn}
use Rattle.x5_model_text.specs.NameText.{NameFault, ◌>>=◌, slash, name_of_text, rdn_of_text}
use Rattle.x5_model_text_laws.proofs.GivenNames.{answer, bound}
use Rattle.x5_model_text_laws.proofs.Longer.{name_more}
use Rattle.x5_names.specs.Reading.{stored_name_of_text, stored_rdn_of_text}

pub read_below : (t piece : Text) (known : Name) (rdn : Rdn) → 1 ≤ length known → length known < 16
    → stored_name_of_text t ≡ Ok known → stored_rdn_of_text piece ≡ Ok rdn → stored_name_of_text (t ++ slash ∷ piece) ≡ Ok (known ++ rdn ∷ [])
read_below t piece known rdn some few name last =
    let n = bound (name_of_text t) (λ x. Ok (stored x)) known name in
    let r = bound (rdn_of_text piece) (λ x. Ok (stored_rdn x)) rdn last in
    let is : stored n.0 ≡ known = answer n.2 in
    let size : length n.0 ≡ length known = sym (length-map n.0 stored_rdn) ∙ ap length is in
    ap (λ (o : Result NameValue NameFault). o >>= λ x. Ok (stored x)) (name_more t piece n.0 r.0 (omega (arith, size, some)) (omega (arith, size, few)) n.1 r.1)
    ∙ ap Ok (map-append stored_rdn n.0 (r.0 ∷ []) ∙ ap₂ (λ (x : Name) (y : Rdn). x ++ y ∷ []) is (answer r.2))

pub some_rdn : (n : Name) → is_root (key_of n) ≡ false → 1 ≤ length n
some_rdn [] h = cc
some_rdn (r ∷ n) h = omega arith
