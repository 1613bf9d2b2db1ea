-- What the one tree of the base world answers to queries and becomes by updates.
use Rattle.std.specs.Prelude.{◌≡◌, ℕ, true, false, [], ◌∷◌}
use Rattle.std.specs.declared.option.Option.TheVariants.{None, Some}
use Rattle.std.specs.declared.result.Result.TheVariants.{Ok, Err}
use Rattle.std.proofs.Common.{refl}
use lib.Chars.{codes}
use Rattle.x5_model.specs.Values.{Known, Unknown, Value, TextValue, OidValue, Rdn, Name}
use Rattle.x5_model.specs.Filters.{Assertion, SubstringItem, Initial, Equality, Substrings, Filter, Is, And, Not, Nil}
use Rattle.x5_model.specs.Requests.{WholeSubtree, All, Only, RemoveValues, Body, Read, Compare, ListBelow, Search}
use Rattle.x5_model.specs.Requests.{AddEntry, RemoveEntry, ModifyEntry, ModifyDn}
use Rattle.x5_model.specs.Answers.{Shown, EntryInfo, Sub, NoSuchObject, AttributeProblem, UpdateProblem}
use Rattle.x5_model.specs.Problems.{no_such_attribute_or_value, invalid_attribute_syntax, undefined_attribute_type}
use Rattle.x5_model.specs.Problems.{object_class_violation, not_allowed_on_rdn, affects_multiple_dsas}
use Rattle.x5_model.specs.Problems.{not_allowed_on_non_leaf}
use Rattle.x5_model_tree.specs.Tree.{Tree}
use Rattle.x5_model_tree.specs.Masters.{whole}
use Rattle.x5_model_tree.specs.Apply.{apply}
use Rattle.x5_model_tree.specs.Ask.{Shows, Compares, Lists, Finds, Refuses, ask}
use Rattle.x5_model_rows.proofs.Literals.{rdn, under, text, oid, one, class, named, give, plainly, within}
use Rattle.x5_model_rows.proofs.BaseWorld.{nl, acme, desk, lab, jan, shop, ada, lab_rdn, shop_rdn, nl_entry, acme_entry}
use Rattle.x5_model_rows.proofs.BaseWorld.{desk_entry, lab_entry, jan_entry, shop_entry, ada_entry, base_world}

abbrev pub tree : Tree
tree = whole base_world

-- the entries by their keys
pub whole_tree : tree.entries ≡ nl_entry ∷ acme_entry ∷ desk_entry ∷ lab_entry ∷ jan_entry ∷ shop_entry ∷ ada_entry ∷ []
whole_tree = refl

-- answers, written out
abbrev bare : Name → EntryInfo
bare name = record { name = name; copy = false; attributes = [] }

abbrev sub : Rdn → Sub
sub last = record { rdn = last; copy = false }

abbrev shows : ℕ → Value → Shown
shows kind value = record { kind = Known kind; values = value ∷ [] }

abbrev shows_class : ℕ → Shown
shows_class number = shows 0 (OidValue (2 ∷ 5 ∷ 6 ∷ number ∷ []))

-- a type that nobody knows: 1.2.3
abbrev unknown_type : Assertion
unknown_type = record { kind = Unknown (1 ∷ 2 ∷ 3 ∷ []); value = TextValue (codes "x"); normal = None }

-- read ~
pub read_acme : ask tree (plainly (Read acme All))
    ≡ Shows (record {
      name = acme;
      copy = false;
      attributes = shows_class 4 ∷ shows 10 (TextValue (codes "Acme")) ∷ shows 13 (TextValue (codes "tools")) ∷ [];
    })
read_acme = refl

-- read ~/OU=None/CN=x: the lowest entry on the way
pub read_none : ask tree
    (plainly (Read (under (under acme (rdn 11 (codes "None") (codes "none"))) (rdn 3 (codes "x") (codes "x"))) All))
    ≡ Refuses (NoSuchObject acme)
read_none = refl

-- searches at ~/OU=Shop, subset tree, without attributes
abbrev shop_search : Filter → Body
shop_search f = Search shop WholeSubtree f (Only [])

-- (!(1.2.3=x)) is undefined, so nothing is found
pub not_unknown : ask tree (plainly (shop_search (Not (Is (Equality unknown_type))))) ≡ Finds [] false
not_unknown = refl

-- (OU=s*)
abbrev begins_with_s : SubstringItem
begins_with_s =
    record {
      kind = Known 11;
      pieces = (record { place = Initial; value = TextValue (codes "s") }) ∷ [];
      normal = Some (record { initial = Some (codes "s"); any = []; last = None });
    }

pub by_initial : ask tree (plainly (shop_search (Is (Substrings begins_with_s)))) ≡ Finds (bare shop ∷ []) false
by_initial = refl

-- (&), without a limit and with the limits 2, 1 and 0
pub all_of_shop : ask tree (plainly (shop_search (And Nil))) ≡ Finds (bare shop ∷ bare ada ∷ []) false
all_of_shop = refl

pub limit_2 : ask tree (within 2 (shop_search (And Nil))) ≡ Finds (bare shop ∷ bare ada ∷ []) false
limit_2 = refl

pub limit_1 : ask tree (within 1 (shop_search (And Nil))) ≡ Finds (bare shop ∷ []) true
limit_1 = refl

pub limit_0 : ask tree (within 0 (shop_search (And Nil))) ≡ Finds [] true
limit_0 = refl

-- list ~
pub list_acme : ask tree (plainly (ListBelow acme))
    ≡ Lists (sub (rdn 3 (codes "Desk") (codes "desk")) ∷ sub lab_rdn ∷ sub shop_rdn ∷ []) false
list_acme = refl

-- compare /C=NL C=n1: no country
pub no_country : ask tree
    (plainly (Compare nl (record { kind = Known 6; value = TextValue (codes "n1"); normal = None })))
    ≡ Refuses (AttributeProblem invalid_attribute_syntax (Known 6))
no_country = refl

-- compare /C=NL C=nl, and a type that it lacks
pub equal_country : ask tree
    (plainly (Compare nl (record { kind = Known 6; value = TextValue (codes "nl"); normal = Some (codes "nl") })))
    ≡ Compares true false
equal_country = refl

pub no_description : ask tree
    (plainly (Compare nl (record { kind = Known 13; value = TextValue (codes "a"); normal = Some (codes "a") })))
    ≡ Refuses (AttributeProblem no_such_attribute_or_value (Known 13))
no_description = refl

-- updates that are refused
abbrev new_name : Name
new_name = under acme (rdn 3 (codes "X") (codes "x"))

pub add_without_class : apply tree (plainly (AddEntry new_name (give 4 (text (codes "Y") (codes "y") ∷ []) ∷ [])))
    ≡ Err (UpdateProblem object_class_violation)
add_without_class = refl

pub add_unknown_type : apply tree
    (plainly (AddEntry new_name
    ((record {
      kind = Unknown (1 ∷ 2 ∷ 3 ∷ []);
      values = (record { value = TextValue (codes "x"); normal = None }) ∷ [];
    }) ∷ [])))
    ≡ Err (AttributeProblem undefined_attribute_type (Unknown (1 ∷ 2 ∷ 3 ∷ [])))
add_unknown_type = refl

pub drop_name : apply tree
    (plainly (ModifyEntry jan (RemoveValues (give 3 (text (codes "jan") (codes "jan") ∷ [])) ∷ [])))
    ≡ Err (UpdateProblem not_allowed_on_rdn)
drop_name = refl

pub remove_pin : apply tree (plainly (RemoveEntry acme)) ≡ Err (UpdateProblem affects_multiple_dsas)
remove_pin = refl

-- move ~/OU=Lab/CN=Jan CN=Piet drop, and then read ~/OU=Lab/CN=piet
abbrev piet : Name
piet = under lab (rdn 3 (codes "Piet") (codes "piet"))

abbrev after_move : Tree
after_move =
    record tree {
      entries = nl_entry ∷ acme_entry ∷ desk_entry ∷ lab_entry
          ∷ named piet (class 7 ∷ one 3 (text (codes "Piet") (codes "piet"))
          ∷ one 4 (text (codes "Smit") (codes "smit")) ∷ []) ∷ shop_entry ∷ ada_entry ∷ [];
    }

pub move_jan : apply tree (plainly (ModifyDn jan (rdn 3 (codes "Piet") (codes "piet")) true)) ≡ Ok after_move
move_jan = refl

pub read_piet : ask after_move (plainly (Read (under lab (rdn 3 (codes "piet") (codes "piet"))) All))
    ≡ Shows (record {
      name = piet;
      copy = false;
      attributes = shows_class 7 ∷ shows 3 (TextValue (codes "Piet")) ∷ shows 4 (TextValue (codes "Smit")) ∷ [];
    })
read_piet = refl

-- add ~/CN=Desk/CN=Pen: the RDN's value is added; then Desk is no leaf
abbrev pen : Name
pen = under desk (rdn 3 (codes "Pen") (codes "pen"))

abbrev with_pen : Tree
with_pen =
    record tree {
      entries = nl_entry ∷ acme_entry ∷ desk_entry
          ∷ named pen (class 7 ∷ one 3 (text (codes "Pen") (codes "pen")) ∷ []) ∷ lab_entry ∷ jan_entry ∷ shop_entry
          ∷ ada_entry ∷ [];
    }

pub add_pen : apply tree (plainly (AddEntry pen (give 0 (oid (2 ∷ 5 ∷ 6 ∷ 7 ∷ []) ∷ []) ∷ []))) ≡ Ok with_pen
add_pen = refl

pub remove_desk : apply with_pen (plainly (RemoveEntry desk)) ≡ Err (UpdateProblem not_allowed_on_non_leaf)
remove_desk = refl

pub remove_pen : apply with_pen (plainly (RemoveEntry pen)) ≡ Ok tree
remove_pen = refl
