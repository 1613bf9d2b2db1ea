-- Updates: each refusal in its order, and what accepted ones leave.
use Rattle.std.specs.Prelude.{◌≡◌, true, false, [], ◌∷◌}
use Rattle.std.specs.declared.option.Option.TheVariants.{Some}
use Rattle.std.specs.declared.result.Result.TheVariants.{Ok, Err}
use Rattle.std.proofs.Common.{refl}
use lib.Chars.{codes}
use Rattle.x5_model.specs.Values.{Known, Name}
use Rattle.x5_model.specs.Entries.{Entry, Named}
use Rattle.x5_model.specs.Requests.{AddAttribute, RemoveAttribute, AddValues, RemoveValues, AddEntry, RemoveEntry}
use Rattle.x5_model.specs.Requests.{ModifyEntry, ModifyDn}
use Rattle.x5_model.specs.Answers.{NoSuchObject, AttributeProblem, UpdateProblem}
use Rattle.x5_model.specs.Problems.{no_such_attribute_or_value, constraint_violation, attribute_or_value_already_exists}
use Rattle.x5_model.specs.Problems.{naming_violation, not_allowed_on_rdn, entry_already_exists, affects_multiple_dsas}
use Rattle.x5_model.specs.Problems.{object_class_modification_prohibited}
use Rattle.x5_model.specs.Statics.{fault_of}
use Rattle.x5_model.specs.Changes.{modified}
use Rattle.x5_model_tree.specs.Tree.{Tree}
use Rattle.x5_model_tree.specs.Masters.{whole}
use Rattle.x5_model_tree.specs.Apply.{apply, apply_over, own_ground}
use Rattle.x5_model.specs.Values.{key_of}
use Rattle.x5_model_rows.proofs.Literals.{rdn, under, text, oid, one, class, named, give, plainly}
use Rattle.x5_model_rows.proofs.BaseWorld.{nl, acme, desk, lab, jan, nl_entry, acme_entry, desk_entry, lab_entry}
use Rattle.x5_model_rows.proofs.BaseWorld.{jan_entry, shop_entry, ada_entry, acme_context, base_world}

-- static refusals
pub add_one_rdn : fault_of (AddEntry nl []) ≡ Some (UpdateProblem naming_violation)
add_one_rdn = refl

pub remove_root : fault_of (RemoveEntry []) ≡ Some (NoSuchObject [])
remove_root = refl

pub equal_values : fault_of
    (ModifyEntry jan (AddValues (give 4 (text (codes "x") (codes "x") ∷ text (codes "X") (codes "x") ∷ [])) ∷ []))
    ≡ Some (AttributeProblem attribute_or_value_already_exists (Known 4))
equal_values = refl

pub class_changed : fault_of (ModifyEntry jan (RemoveAttribute (Known 0) ∷ []))
    ≡ Some (UpdateProblem object_class_modification_prohibited)
class_changed = refl

pub two_countries : fault_of
    (AddEntry (under nl (rdn 6 (codes "BE") (codes "be")))
    (give 0 (oid (2 ∷ 5 ∷ 6 ∷ 2 ∷ []) ∷ []) ∷ give 6 (text (codes "FR") (codes "fr") ∷ []) ∷ []))
    ≡ Some (AttributeProblem constraint_violation (Known 6))
two_countries = refl

-- changes of an entry, one after another
abbrev country : Entry
country = nl_entry.entry

abbrev person : Entry
person = jan_entry.entry

pub not_twice : modified (rdn 3 (codes "Jan") (codes "jan"))
    (AddAttribute (give 4 (text (codes "x") (codes "x") ∷ [])) ∷ []) person
    ≡ Err (AttributeProblem attribute_or_value_already_exists (Known 4))
not_twice = refl

-- a change doesn't give a value twice
pub twice_in_one : modified (rdn 3 (codes "Jan") (codes "jan"))
    (AddAttribute (give 13 (text (codes "x") (codes "x") ∷ text (codes "X") (codes "x") ∷ [])) ∷ []) person
    ≡ Err (AttributeProblem attribute_or_value_already_exists (Known 13))
twice_in_one = refl

pub twice_in_values : modified (rdn 3 (codes "Jan") (codes "jan"))
    (AddValues (give 13 (text (codes "x") (codes "x") ∷ text (codes "X") (codes "x") ∷ [])) ∷ []) person
    ≡ Err (AttributeProblem attribute_or_value_already_exists (Known 13))
twice_in_values = refl

pub last_value : modified (rdn 3 (codes "Jan") (codes "jan"))
    (RemoveValues (give 4 (text (codes "SMIT") (codes "smit") ∷ [])) ∷ []) person
    ≡ Ok (record { attributes = class 7 ∷ one 3 (text (codes "Jan") (codes "jan")) ∷ [] })
last_value = refl

pub gone_then_absent : modified (rdn 3 (codes "Jan") (codes "jan"))
    (RemoveAttribute (Known 4) ∷ RemoveValues (give 4 (text (codes "Smit") (codes "smit") ∷ [])) ∷ []) person
    ≡ Err (AttributeProblem no_such_attribute_or_value (Known 4))
gone_then_absent = refl

pub gone_and_back : modified (rdn 3 (codes "Jan") (codes "jan"))
    (RemoveAttribute (Known 3)
    ∷ AddAttribute (give 3 (text (codes "Piet") (codes "piet") ∷ text (codes "JAN") (codes "jan") ∷ [])) ∷ []) person
    ≡ Ok (record {
      attributes = class 7
          ∷ (record { kind = 3; values = text (codes "JAN") (codes "jan") ∷ text (codes "Piet") (codes "piet") ∷ [] })
          ∷ one 4 (text (codes "Smit") (codes "smit")) ∷ [];
    })
gone_and_back = refl

pub second_country : modified (rdn 6 (codes "NL") (codes "nl"))
    (AddValues (give 6 (text (codes "BE") (codes "be") ∷ [])) ∷ []) country
    ≡ Err (AttributeProblem constraint_violation (Known 6))
second_country = refl

-- the RDN's value is looked at before the single values
pub name_first : modified (rdn 6 (codes "NL") (codes "nl"))
    (RemoveAttribute (Known 6)
    ∷ AddAttribute (give 6 (text (codes "BE") (codes "be") ∷ text (codes "FR") (codes "fr") ∷ [])) ∷ []) country
    ≡ Err (UpdateProblem not_allowed_on_rdn)
name_first = refl

-- on the tree
abbrev tree : Tree
tree = whole base_world

pub add_there : apply tree (plainly (AddEntry desk (give 0 (oid (2 ∷ 5 ∷ 6 ∷ 7 ∷ []) ∷ []) ∷ [])))
    ≡ Err (UpdateProblem entry_already_exists)
add_there = refl

pub add_nowhere : apply tree
    (plainly (AddEntry (under (under acme (rdn 11 (codes "None") (codes "none"))) (rdn 3 (codes "x") (codes "x")))
    (give 0 (oid (2 ∷ 5 ∷ 6 ∷ 7 ∷ []) ∷ []) ∷ []))) ≡ Err (NoSuchObject acme)
add_nowhere = refl

pub move_pin : apply tree (plainly (ModifyDn lab (rdn 11 (codes "New") (codes "new")) false))
    ≡ Err (UpdateProblem affects_multiple_dsas)
move_pin = refl

-- an entry with names below it moves to a taken name, to a new spelling, and to a new name
abbrev ink : Name
ink = under desk (rdn 3 (codes "Ink") (codes "ink"))

abbrev bare : Name → Named
bare name = named name (class 7 ∷ [])

abbrev with_ink : Tree
with_ink =
    record tree {
      entries = nl_entry ∷ acme_entry ∷ desk_entry ∷ bare ink ∷ lab_entry ∷ jan_entry ∷ shop_entry
          ∷ ada_entry ∷ [];
    }

pub move_to_taken : apply with_ink (plainly (ModifyDn desk (rdn 11 (codes "Lab") (codes "lab")) true))
    ≡ Err (UpdateProblem entry_already_exists)
move_to_taken = refl

abbrev desk_again : Name
desk_again = under acme (rdn 3 (codes "DESK") (codes "desk"))

-- a new spelling changes the names, and not the value that is kept
pub respell : apply with_ink (plainly (ModifyDn desk (rdn 3 (codes "DESK") (codes "desk")) true))
    ≡ Ok (record with_ink {
      entries = nl_entry ∷ acme_entry ∷ (record desk_entry { name = desk_again })
          ∷ bare (under desk_again (rdn 3 (codes "Ink") (codes "ink"))) ∷ lab_entry ∷ jan_entry ∷ shop_entry ∷ ada_entry
          ∷ [];
    })
respell = refl

abbrev table : Name
table = under acme (rdn 12 (codes "Table") (codes "table"))

-- without deleteOldRDN the old value stays, and the entries find their new places
pub move_keeping : apply with_ink (plainly (ModifyDn desk (rdn 12 (codes "Table") (codes "table")) false))
    ≡ Ok (record with_ink {
      entries = nl_entry ∷ acme_entry ∷ lab_entry ∷ jan_entry ∷ shop_entry ∷ ada_entry
          ∷ named table (class 7 ∷ one 3 (text (codes "Desk") (codes "desk"))
          ∷ one 4 (text (codes "Desk") (codes "desk")) ∷ one 12 (text (codes "Table") (codes "table")) ∷ [])
          ∷ bare (under table (rdn 3 (codes "Ink") (codes "ink"))) ∷ [];
    })
move_keeping = refl

-- at one agent: an NSSR at an entry makes it count as above a pin, and a known pin is a taken name
pub remove_above_nssr : apply_over
    (own_ground (key_of acme ∷ [])
    ((record acme_context { nssrs = (record { at = desk; agents = 2 ∷ [] }) ∷ [] }) ∷ [])) (RemoveEntry desk)
    ≡ Err (UpdateProblem affects_multiple_dsas)
remove_above_nssr = refl

pub remove_desk : apply_over (own_ground (key_of acme ∷ []) (acme_context ∷ [])) (RemoveEntry desk)
    ≡ Ok (acme_entry ∷ [])
remove_desk = refl

pub add_known_pin : apply_over (own_ground (key_of acme ∷ key_of lab ∷ []) (acme_context ∷ []))
    (AddEntry lab (give 0 (oid (2 ∷ 5 ∷ 6 ∷ 5 ∷ []) ∷ []) ∷ [])) ≡ Err (UpdateProblem entry_already_exists)
add_known_pin = refl
