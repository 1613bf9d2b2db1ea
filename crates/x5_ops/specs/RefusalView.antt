-- What a refusal stands for, and the values of an attribute as they are offered.
use Rattle.std.specs.Prelude.{ℕ, Bool, false, List, [], map}
use Rattle.std.specs.declared.option.Option.{Option}
use Rattle.x5_model.specs.Words.{in_option, same_octets}
use Rattle.x5_model.specs.Answers as model
use Rattle.x5_model.specs.Assertions.{offered}
use Rattle.x5_model.specs.Values as values
use Rattle.x5_syntax.specs.TypeView.{type_view}
use Rattle.x5_syntax.specs.ValueView.{value_view}
use Rattle.x5_syntax.specs.declared.values.Value.{Value}
use Rattle.x5_ops.specs.declared.statics.Refusal.{Refusal}
use Rattle.x5_ops.specs.declared.statics.Refusal.TheVariants as refusals

abbrev pub refusal_view : Refusal → model.DirError
refusal_view refusals.NoObject = model.NoSuchObject []
refusal_view (refusals.Attribute problem kind) = model.AttributeProblem problem (type_view kind)
refusal_view (refusals.Update problem) = model.UpdateProblem problem

-- values that are offered for a type, each with its normal form, where it has one
abbrev pub given_values : values.TypeRef → List Value → List values.Offered
given_values type vs = map (λ v. offered type (value_view v)) vs

-- both are there and the same
abbrev pub same_normal : Option (List ℕ) → Option (List ℕ) → Bool
same_normal a b = in_option false (λ m. in_option false (same_octets m) b) a
