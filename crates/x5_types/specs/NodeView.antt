-- The code's values as the definitions see them.
use Rattle.std.specs.Prelude.{ℕ, List, [], ◌∷◌, string_bytes}
use Rattle.std.specs.declared.option.Option.{Option}
use Rattle.std.specs.declared.option.Option.TheVariants.{None, Some}
use Rattle.x5_model_typed.specs.Nodes as nodes
use Rattle.x5_types.specs.declared.node.Bytes.{Bytes}
use Rattle.x5_types.specs.declared.node.Bytes.TheVariants.{Lent, Kept}
use Rattle.x5_types.specs.declared.node.Characters.{Characters}
use Rattle.x5_types.specs.declared.node.Characters.TheVariants as characters
use Rattle.x5_types.specs.declared.node.Node.{Node, Vacant, Flag, Number, Oid, Bits, Octets, Text, Chosen', Many'}
use Rattle.x5_types.specs.declared.node.Node.{Row_of-Node, end_of-Node, more_of-Node}

abbrev pub bytes_view : Bytes → List ℕ
bytes_view (Lent octets) = octets.now
bytes_view (Kept octets) = octets.items

abbrev pub characters_view : Characters → List ℕ
characters_view (characters.Lent text) = text.now
characters_view (characters.Kept text) = string_bytes text

abbrev mutual
  pub node_view : Node → nodes.Node
  node_view Vacant = nodes.Vacant
  node_view (Flag b) = nodes.Flag b
  node_view (Number k) = nodes.Number k
  node_view (Oid v) = nodes.Oid v.items
  node_view (Bits v) = nodes.Bits v.items
  node_view (Octets b) = nodes.Octets (bytes_view b)
  node_view (Text t) = nodes.Text (characters_view t)
  node_view (Chosen' tag p m) = nodes.Chosen tag (node_view m)
  node_view (Many' shape all) = nodes.Many (row_view all)

  pub row_view : {m : _} → Row_of-Node m → nodes.Nodes
  row_view end_of-Node = nodes.Nil
  row_view (more_of-Node m rest) = nodes.More (node_view m) (row_view rest)

abbrev pub option_view : Option Node → Option nodes.Node
option_view None = None
option_view (Some n) = Some (node_view n)

-- None, one, or three and more.
pub data IsNotTwo : List nodes.Node → Type 0 where
  none : IsNotTwo []
  one : {a : nodes.Node} → IsNotTwo (a ∷ [])
  three : {a b c : nodes.Node} {others : List nodes.Node} → IsNotTwo (a ∷ b ∷ c ∷ others)
