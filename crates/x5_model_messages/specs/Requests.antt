-- Requests as the nodes of messages, and what such nodes say (X.511, sections 7, 9 to 11; docs/FORMATS.md, section 4).
-- The argument stands by itself, since messages between agents have it within theirs (X.518, section 12).
use Rattle.std.specs.Prelude.{ℕ, false, ◌==◌, if◌then◌else◌, List, [], ◌∷◌, ◌++◌, map}
use Rattle.std.specs.declared.option.Option.{Option}
use Rattle.std.specs.declared.option.Option.TheVariants.{None, Some}
use Rattle.x5_model.specs.Words.{in_option}
use Rattle.x5_model.specs.Requests.{Subset, Base, OneLevel, WholeSubtree, Selection, All, Only, Controls, Body, Read}
use Rattle.x5_model.specs.Requests.{Compare, ListBelow, Search, AddEntry, RemoveEntry, ModifyEntry, ModifyDn, Request}
use Rattle.x5_model_run.specs.Journal.{operation_of}
use Rattle.x5_model_typed.specs.Nodes.{Node, Vacant, Flag, Chosen, whole, parts}
use Rattle.x5_model_typed.specs.Leaves.{options_node}
use Rattle.x5_model_typed.specs.Judged.{last_node}
use Rattle.x5_model_messages.specs.Terms.{node_of, type_node, rdn_node, name_node, attribute_node, assertion_node}
use Rattle.x5_model_messages.specs.Terms.{change_node, type_in, name_of, rdn_of, flag_in, number_in, attribute_in}
use Rattle.x5_model_messages.specs.Terms.{assertion_in, change_in}
use Rattle.x5_model_messages.specs.FilterTerms.{filter_node, filter_in}

-- ---- what is written

abbrev pub size_node : Option ℕ → Node
size_node None = Vacant
size_node (Some n) = whole n

abbrev pub controls_node : Controls → Node
controls_node c = node_of (options_node c.nocopy c.nochain ∷ Vacant ∷ Vacant ∷ size_node c.size ∷ [])

abbrev pub subset_number : Subset → ℕ
subset_number Base = 0
subset_number OneLevel = 1
subset_number WholeSubtree = 2

abbrev pub selection_node : Selection → Node
selection_node All = node_of (Vacant ∷ [])
selection_node (Only types) = node_of (node_of (map type_node types) ∷ [])

-- the components of an argument, without the controls
abbrev pub body_nodes : Body → List Node
body_nodes (Read name selection) = name_node name ∷ selection_node selection ∷ []
body_nodes (Compare name assertion) = name_node name ∷ assertion_node assertion ∷ []
body_nodes (ListBelow name) = name_node name ∷ []
body_nodes (Search base subset filter selection) =
    name_node base ∷ whole (subset_number subset) ∷ filter_node filter ∷ selection_node selection ∷ []
body_nodes (AddEntry name attributes) = name_node name ∷ node_of (map attribute_node attributes) ∷ []
body_nodes (RemoveEntry name) = name_node name ∷ []
body_nodes (ModifyEntry name changes) = name_node name ∷ node_of (map change_node changes) ∷ []
body_nodes (ModifyDn name rdn drops) = name_node name ∷ rdn_node rdn ∷ Flag drops ∷ []

abbrev pub argument_node : Request → Node
argument_node r = node_of (body_nodes r.body ++ controls_node r.controls ∷ [])

-- a user's message
abbrev pub request_node : ℕ → Request → Node
request_node id r = Chosen 1 (node_of (whole id ∷ whole (operation_of r.body) ∷ argument_node r ∷ []))

-- ---- what nodes say; a node of another type says nothing, for which something stands

abbrev pub controls_in : Node → Controls
controls_in n = by (parts n)
  where
    by_options : List Node → Option ℕ → Controls
    by_options (nocopy ∷ nochain ∷ []) size = record { nocopy = flag_in nocopy; nochain = flag_in nochain; size = size }
    by_options other size = record { nocopy = false; nochain = false; size = size }

    by : List Node → Controls
    by (options ∷ priority ∷ time ∷ size ∷ []) = by_options (parts options) (number_in size)
    by other = record { nocopy = false; nochain = false; size = None }

abbrev pub subset_in : Node → Subset
subset_in n = by (in_option 0 (λ k. k) (number_in n))
  where
    by : ℕ → Subset
    by k = if k == 0 then Base else if k == 1 then OneLevel else WholeSubtree

abbrev pub selection_in : Node → Selection
selection_in n = by (parts n)
  where
    of : Node → Selection
    of Vacant = All
    of types = Only (map type_in (parts types))

    by : List Node → Selection
    by (types ∷ []) = of types
    by other = All

-- by the number of parts, of which the last is the controls
abbrev pub two_of : (Node → Body) → List Node → Body
two_of f (a ∷ controls ∷ []) = f a
two_of f other = ListBelow []

abbrev pub three_of : (Node → Node → Body) → List Node → Body
three_of f (a ∷ b ∷ controls ∷ []) = f a b
three_of f other = ListBelow []

abbrev pub four_of : (Node → Node → Node → Body) → List Node → Body
four_of f (a ∷ b ∷ c ∷ controls ∷ []) = f a b c
four_of f other = ListBelow []

abbrev pub five_of : (Node → Node → Node → Node → Body) → List Node → Body
five_of f (a ∷ b ∷ c ∷ d ∷ controls ∷ []) = f a b c d
five_of f other = ListBelow []

abbrev pub body_in : ℕ → List Node → Body
body_in code ns =
    if code == 1 then three_of (λ name selection. Read (name_of name) (selection_in selection)) ns
    else if code == 2 then three_of (λ name assertion. Compare (name_of name) (assertion_in assertion)) ns
    else if code == 4 then two_of (λ name. ListBelow (name_of name)) ns
    else if code == 5 then five_of (λ base subset filter selection. Search (name_of base) (subset_in subset)
    (filter_in filter) (selection_in selection)) ns
    else if code == 6 then three_of (λ name attributes. AddEntry (name_of name)
    (map attribute_in (parts attributes))) ns
    else if code == 7 then two_of (λ name. RemoveEntry (name_of name)) ns
    else if code == 8 then three_of (λ name changes. ModifyEntry (name_of name) (map change_in (parts changes))) ns
    else four_of (λ name rdn drops. ModifyDn (name_of name) (rdn_of rdn) (flag_in drops)) ns

-- the request of an operation with that argument
abbrev pub argument_in : ℕ → Node → Request
argument_in code n = record { controls = controls_in (last_node (parts n)); body = body_in code (parts n) }

-- a user's message: its id and the request
abbrev pub request_in : Node → ℕ × Request
request_in m = by m
  where
    of : List Node → ℕ × Request
    of (id ∷ code ∷ argument ∷ []) =
        (in_option 0 (λ k. k) (number_in id), argument_in (in_option 0 (λ k. k) (number_in code)) argument)
    of other = (0, record { controls = record { nocopy = false; nochain = false; size = None }; body = ListBelow [] })

    by : Node → ℕ × Request
    by (Chosen tag n) = of (parts n)
    by n = of []
