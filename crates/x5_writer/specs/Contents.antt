-- What is written of a value by one alternative of a type.
use Rattle.std.specs.Prelude.{ℕ, ◌+◌, Bool, true, false, ◌&&◌, if◌then◌else◌, List, [], ◌∷◌}
use Rattle.std.specs.declared.option.Option.{Option}
use Rattle.std.specs.declared.option.Option.TheVariants.{None, Some}
use Rattle.x5_model.specs.Words.{in_option}
use Rattle.x5_model_octets.specs.Elements.{Element, Elements}
use Rattle.x5_model_typed.specs.Nodes.{Node, Nodes, Flag, Chosen, Many, Nil, More}
use Rattle.x5_model_typed.specs.Named.{Named}
use Rattle.x5_model_typed.specs.Forms.{Component, Content, Alternative, Layout}
use Rattle.x5_model_typed.specs.Written.{is_many, leaf_octets, primitive_of, constructed_of, by_content, written}
use Rattle.x5_model_typed.specs.Written.{written_components, written_members}

-- the bits of options, without zeros behind the last that is set
abbrev pub option_bits : Bool → Bool → List Bool
option_bits true nochain = false ∷ nochain ∷ false ∷ true ∷ []
option_bits false true = false ∷ true ∷ []
option_bits false false = []

abbrev pub is_chosen : Node → Bool
is_chosen (Chosen tag n) = true
is_chosen n = false

abbrev pub flag_of : Node → Option Bool
flag_of (Flag b) = Some b
flag_of n = None

abbrev pub octets_in : Option (List ℕ) → List ℕ
octets_in None = []
octets_in (Some octets) = octets

-- components or members, of a value that has parts
abbrev pub components_of : Layout → Node → List Component → Option Elements
components_of layout (Many ns) cs = written_components layout cs ns
components_of layout n cs = None

abbrev pub members_of : Layout → Node → Named → Option Elements
members_of layout (Many ns) form = written_members layout (layout form) ns
members_of layout n form = None

-- an element of another type stands only where the tag was chosen
abbrev pub one_of : Layout → Bool → Node → Named → Option Element
one_of layout true n form = written layout (layout form) n
one_of layout false n form = None

abbrev pub content_of : Layout → Bool → Content → Node → Option Elements
content_of layout chosen c n = by_content c (one_of layout chosen n) (components_of layout n) (members_of layout n)

-- octets, where the value isn't one with parts whose tag was chosen
abbrev pub octets_of : Bool → Content → Node → Option (List ℕ)
octets_of chosen c n = if chosen && is_many n then None else leaf_octets c n

abbrev pub element_of : Layout → Bool → Alternative → Node → Option Element
element_of layout chosen a n =
    in_option (constructed_of a (content_of layout chosen a.content n)) (λ octets. Some (primitive_of a octets))
    (octets_of chosen a.content n)

-- how large a value is: each part of it is smaller
abbrev mutual
  pub weight : Node → ℕ
  weight (Chosen tag n) = weight n + 1
  weight (Many ns) = weights ns + 1
  weight n = 1

  pub weights : Nodes → ℕ
  weights Nil = 0
  weights (More n ns) = weight n + weights ns + 1

abbrev pub more : Bool → ℕ
more true = 3
more false = 0
