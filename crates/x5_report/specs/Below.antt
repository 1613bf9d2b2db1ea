-- The text of a name that begins with the text of another.
use Rattle.std.specs.Prelude.{[], ◌∷◌, ◌++◌}
use Rattle.x5_model.specs.Values.{Name, Text}
use Rattle.x5_model_text.specs.NameText.{slash, text_of_name}

-- of what stands below the name by an RDN of the text (X.501, section 9.2)
abbrev pub text_below : Name → Text → Text
text_below [] rdn = slash ∷ rdn
text_below (r ∷ n) rdn = text_of_name (r ∷ n) ++ slash ∷ rdn
