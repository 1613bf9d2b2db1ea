-- The numbers of problems: this project's own, after X.511, section 12.
use Rattle.std.specs.Prelude.{ℕ}

-- of attributes (X.511, section 12.4)
abbrev pub no_such_attribute_or_value : ℕ
no_such_attribute_or_value = 1

abbrev pub invalid_attribute_syntax : ℕ
invalid_attribute_syntax = 2

abbrev pub undefined_attribute_type : ℕ
undefined_attribute_type = 3

abbrev pub constraint_violation : ℕ
constraint_violation = 5

abbrev pub attribute_or_value_already_exists : ℕ
attribute_or_value_already_exists = 6

-- of updates (X.511, section 12.9)
abbrev pub naming_violation : ℕ
naming_violation = 1

abbrev pub object_class_violation : ℕ
object_class_violation = 2

abbrev pub not_allowed_on_non_leaf : ℕ
not_allowed_on_non_leaf = 3

abbrev pub not_allowed_on_rdn : ℕ
not_allowed_on_rdn = 4

abbrev pub entry_already_exists : ℕ
entry_already_exists = 5

abbrev pub affects_multiple_dsas : ℕ
affects_multiple_dsas = 6

abbrev pub object_class_modification_prohibited : ℕ
object_class_modification_prohibited = 7

-- of the service (X.511, section 12.8)
abbrev pub unavailable : ℕ
unavailable = 2

abbrev pub unable_to_proceed : ℕ
unable_to_proceed = 5

abbrev pub invalid_reference : ℕ
invalid_reference = 6

abbrev pub administrative_limit_exceeded : ℕ
administrative_limit_exceeded = 8

abbrev pub loop_detected : ℕ
loop_detected = 9
