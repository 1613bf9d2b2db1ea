-- Static refusals and changes of entries beside those of Updates: each line computes.
use Rattle.std.specs.Prelude.{◌≡◌, List, [], ◌∷◌}
use Rattle.std.specs.declared.option.Option.{Option}
use Rattle.std.specs.declared.option.Option.TheVariants.{None, Some}
use Rattle.std.specs.declared.result.Result.TheVariants.{Ok, Err}
use Rattle.std.proofs.Common.{refl}
use lib.Chars.{codes}
use Rattle.x5_model.specs.Values.{Text, TextValue, TypeRef, Known, Unknown, Name}
use Rattle.x5_model.specs.Entries.{Entry}
use Rattle.x5_model.specs.Requests.{Attribute, Change, AddAttribute, RemoveAttribute, AddValues, RemoveValues, All}
use Rattle.x5_model.specs.Requests.{Read, Compare, AddEntry, ModifyEntry}
use Rattle.x5_model.specs.Answers.{DirError, NoSuchObject, AttributeProblem, UpdateProblem}
use Rattle.x5_model.specs.Problems.{no_such_attribute_or_value, invalid_attribute_syntax, undefined_attribute_type}
use Rattle.x5_model.specs.Problems.{constraint_violation, attribute_or_value_already_exists, object_class_violation}
use Rattle.x5_model.specs.Problems.{not_allowed_on_rdn}
use Rattle.x5_model.specs.Statics.{fault_of}
use Rattle.x5_model.specs.Changes.{ChangedEntry, modified}
use Rattle.x5_model_rows.proofs.Literals.{rdn, under, text, oid, one, give}
use Rattle.x5_model_rows.proofs.BaseWorld.{nl}

abbrev name_a : Name
name_a = under nl (rdn 3 (codes "a") (codes "a"))

abbrev classes : Attribute
classes = give 0 (oid (2 ∷ 5 ∷ 6 ∷ 6 ∷ []) ∷ [])

abbrev unknown : TypeRef
unknown = Unknown (1 ∷ 2 ∷ 3 ∷ [])

-- a value without a normal form: one that isn't of its type's kind, or of a type that nobody knows
abbrev spoilt : TypeRef → Text → Attribute
spoilt kind t = record { kind = kind; values = (record { value = TextValue t; normal = None }) ∷ [] }

abbrev adding : List Attribute → Option DirError
adding attributes = fault_of (AddEntry name_a attributes)

-- ---- additions

pub add_unknown_type : adding (classes ∷ spoilt unknown (codes "x") ∷ [])
    ≡ Some (AttributeProblem undefined_attribute_type unknown)
add_unknown_type = refl

pub add_wrong_syntax : adding (classes ∷ spoilt (Known 6) (codes "NLD") ∷ [])
    ≡ Some (AttributeProblem invalid_attribute_syntax (Known 6))
add_wrong_syntax = refl

pub add_equal_values : adding
    (give 13 (text (codes "x y") (codes "x y") ∷ text (codes "X  Y") (codes "x y") ∷ []) ∷ classes ∷ [])
    ≡ Some (AttributeProblem attribute_or_value_already_exists (Known 13))
add_equal_values = refl

pub add_type_twice : adding
    (classes ∷ give 4 (text (codes "x") (codes "x") ∷ []) ∷ give 4 (text (codes "y") (codes "y") ∷ []) ∷ [])
    ≡ Some (AttributeProblem attribute_or_value_already_exists (Known 4))
add_type_twice = refl

pub add_no_class : adding (give 4 (text (codes "x") (codes "x") ∷ []) ∷ [])
    ≡ Some (UpdateProblem object_class_violation)
add_no_class = refl

pub add_taken : adding (classes ∷ give 4 (text (codes "x") (codes "x") ∷ text (codes "y") (codes "y") ∷ []) ∷ []) ≡ None
add_taken = refl

-- ---- reads, comparisons and modifications

pub read_root : fault_of (Read [] All) ≡ Some (NoSuchObject [])
read_root = refl

pub read_taken : fault_of (Read nl All) ≡ None
read_taken = refl

pub compare_root : fault_of
    (Compare [] (record { kind = Known 3; value = TextValue (codes "x"); normal = Some (codes "x") }))
    ≡ Some (NoSuchObject [])
compare_root = refl

pub compare_taken : fault_of
    (Compare nl (record { kind = Known 3; value = TextValue (codes "NLD"); normal = Some (codes "nld") })) ≡ None
compare_taken = refl

pub compare_wrong_syntax : fault_of
    (Compare nl (record { kind = Known 6; value = TextValue (codes "NLD"); normal = None }))
    ≡ Some (AttributeProblem invalid_attribute_syntax (Known 6))
compare_wrong_syntax = refl

pub compare_unknown_type : fault_of
    (Compare nl (record { kind = unknown; value = TextValue (codes "NLD"); normal = None }))
    ≡ Some (AttributeProblem undefined_attribute_type unknown)
compare_unknown_type = refl

pub modify_root : fault_of (ModifyEntry [] (RemoveAttribute (Known 0) ∷ [])) ≡ Some (NoSuchObject [])
modify_root = refl

-- ---- changes, of an entry with two common names and a country, whose name has the first

abbrev entry : Entry
entry = record {
  attributes = (record {
    kind = 3;
    values = text (codes "a") (codes "a") ∷ text (codes "b") (codes "b") ∷ [];
  })
      ∷ one 6 (text (codes "NL") (codes "nl")) ∷ [];
}

abbrev changing : Change → ChangedEntry
changing c = modified (rdn 3 (codes "a") (codes "a")) (c ∷ []) entry

pub present_again : changing (AddAttribute (give 3 (text (codes "c") (codes "c") ∷ [])))
    ≡ Err (AttributeProblem attribute_or_value_already_exists (Known 3))
present_again = refl

pub absent_removed : changing (RemoveAttribute (Known 13))
    ≡ Err (AttributeProblem no_such_attribute_or_value (Known 13))
absent_removed = refl

pub equal_value_added : changing (AddValues (give 3 (text (codes "c") (codes "c") ∷ text (codes "B") (codes "b") ∷ [])))
    ≡ Err (AttributeProblem attribute_or_value_already_exists (Known 3))
equal_value_added = refl

pub absent_value_removed : changing
    (RemoveValues (give 3 (text (codes "b") (codes "b") ∷ text (codes "c") (codes "c") ∷ [])))
    ≡ Err (AttributeProblem no_such_attribute_or_value (Known 3))
absent_value_removed = refl

pub absent_attributes_value : changing (RemoveValues (give 13 (text (codes "c") (codes "c") ∷ [])))
    ≡ Err (AttributeProblem no_such_attribute_or_value (Known 13))
absent_attributes_value = refl

pub names_value_removed : changing (RemoveValues (give 3 (text (codes "A") (codes "a") ∷ [])))
    ≡ Err (UpdateProblem not_allowed_on_rdn)
names_value_removed = refl

pub country_twice : changing (AddValues (give 6 (text (codes "BE") (codes "be") ∷ [])))
    ≡ Err (AttributeProblem constraint_violation (Known 6))
country_twice = refl

abbrev without_country : Entry
without_country = record {
  attributes = (record {
    kind = 3;
    values = text (codes "a") (codes "a") ∷ text (codes "b") (codes "b") ∷ [];
  }) ∷ [];
}

pub last_value_removed : changing (RemoveValues (give 6 (text (codes "nl") (codes "nl") ∷ []))) ≡ Ok without_country
last_value_removed = refl

pub attribute_removed : changing (RemoveAttribute (Known 6)) ≡ Ok without_country
attribute_removed = refl
