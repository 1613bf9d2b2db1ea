-- A name, or an RDN, from its text, with its normal forms.
use Rattle.std.specs.Prelude.{Result, Ok}
use Rattle.x5_model.specs.Values.{Text, Rdn, Name}
use Rattle.x5_model.specs.Normal.{stored, stored_rdn}
use Rattle.x5_model_text.specs.NameText.{NameFault, ◌>>=◌, name_of_text, rdn_of_text}

abbrev pub stored_name_of_text : Text → Result Name NameFault
stored_name_of_text t = do
  n ← name_of_text t
  Ok (stored n)

abbrev pub stored_rdn_of_text : Text → Result Rdn NameFault
stored_rdn_of_text t = do
  r ← rdn_of_text t
  Ok (stored_rdn r)
