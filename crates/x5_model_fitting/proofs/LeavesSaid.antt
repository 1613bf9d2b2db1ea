-- What fits as a number, a flag or the name of an agent is one.
use Rattle.std.proofs.Common.{◌≡◌, ℕ, ◌≤◌, Bool, true, false, ◌&&◌, if◌then◌else◌, nat_le, List, refl}
use Rattle.std.specs.Prelude.{pos, negsuc}
use Rattle.std.proofs.lemmas.Bool.{leb-true}
use Rattle.std.specs.declared.option.Option.TheVariants.{Some}
use Rattle.x5_model.specs.Values.{Text}
use Rattle.x5_model.proofs.Lists.{both_true}
use Rattle.x5_model_typed.specs.Nodes as nodes
use Rattle.x5_model_typed.specs.Nodes.{Node, Vacant, Flag, Number, Oid, Bits, Octets, Chosen, Many, whole}
use Rattle.x5_model_typed.specs.Named as named
use Rattle.x5_model_typed.specs.Forms.{Primitive, universal}
use Rattle.x5_model_typed.specs.Leaves.{boolean, number, number_octets, is_short_number, from_to, is_agent_name, text_where}
use Rattle.x5_model_typed.specs.Layouts.{Surroundings, layout, integer, agent_name, any_agent}
use Rattle.x5_model_typed_laws.specs.Fits.{Fits}
use Rattle.x5_model_typed_laws.proofs.Leaves.{so}
use Rattle.x5_model_fitting.proofs.Taking.{only_leaf}

-- ---- numbers

pub record IsNumber (low high : ℕ) (n : Node) : Type 0 where
  pub value : ℕ
  pub is : n ≡ whole value
  pub least : low ≤ value
  pub most : value ≤ high

writes_number : (low high : ℕ) (n : Node) (octets : List ℕ) → (number (from_to low high)).writes n ≡ Some octets
    → IsNumber low high n
writes_number low high (Number (pos m)) octets h =
    let b = so (is_short_number (pos m) && (nat_le low m && nat_le m high)) (number_octets (pos m)) octets h in
    let v = both_true (is_short_number (pos m)) (nat_le low m && nat_le m high) b.0 in
    let u = both_true (nat_le low m) (nat_le m high) v.1 in
    record { value = m; is = refl; least = leb-true low m u.0; most = leb-true m high u.1 }
writes_number low high (Number (negsuc m)) octets h =
    let b = so (is_short_number (negsuc m) && false) (number_octets (negsuc m)) octets h in
    let v = both_true (is_short_number (negsuc m)) false b.0 in absurd (cc v.1)
writes_number low high Vacant octets h = absurd (cc h)
writes_number low high (Flag b) octets h = absurd (cc h)
writes_number low high (Oid arcs) octets h = absurd (cc h)
writes_number low high (Bits b) octets h = absurd (cc h)
writes_number low high (Octets o) octets h = absurd (cc h)
writes_number low high (nodes.Text t) octets h = absurd (cc h)
writes_number low high (Chosen tag n) octets h = absurd (cc h)
writes_number low high (Many ns) octets h = absurd (cc h)

pub number_said : (w : Surroundings) (low high : ℕ) (n : Node)
    → Fits (layout w) (layout w (named.NumberBelow low high)) n → IsNumber low high n
number_said w low high n f =
    let v = only_leaf (layout w) (integer (from_to low high)) n refl refl f in writes_number low high n v.0 v.1

pub enumeration_said : (w : Surroundings) (low high : ℕ) (n : Node)
    → Fits (layout w) (layout w (named.Enumeration low high)) n → IsNumber low high n
enumeration_said w low high n f =
    let v = only_leaf (layout w) (universal 10 (Primitive (number (from_to low high)))) n refl refl f in writes_number
    low high n v.0 v.1

-- ---- flags and names of agents

pub record IsFlag (n : Node) : Type 0 where
  pub value : Bool
  pub is : n ≡ Flag value

writes_flag : (n : Node) (octets : List ℕ) → boolean.writes n ≡ Some octets → IsFlag n
writes_flag (Flag b) octets h = record { value = b; is = refl }
writes_flag Vacant octets h = absurd (cc h)
writes_flag (Number k) octets h = absurd (cc h)
writes_flag (Oid arcs) octets h = absurd (cc h)
writes_flag (Bits b) octets h = absurd (cc h)
writes_flag (Octets o) octets h = absurd (cc h)
writes_flag (nodes.Text t) octets h = absurd (cc h)
writes_flag (Chosen tag n) octets h = absurd (cc h)
writes_flag (Many ns) octets h = absurd (cc h)

pub flag_said : (w : Surroundings) (n : Node) → Fits (layout w) (layout w named.Boolean) n → IsFlag n
flag_said w n f =
    (let v = only_leaf (layout w) (universal 1 (Primitive boolean)) n refl refl f in writes_flag n v.0 v.1)

pub record IsAgent (n : Node) : Type 0 where
  pub name : Text
  pub is : n ≡ nodes.Text name
  pub agent : is_agent_name name ≡ true

if_true : (b : Bool) → (if b then true else false) ≡ true → b ≡ true
if_true true h = refl
if_true false h = absurd (cc h)

writes_agent : (n : Node) (octets : List ℕ) → (text_where (λ t. if is_agent_name t then any_agent t else false)).writes
    n ≡ Some octets → IsAgent n
writes_agent (nodes.Text t) octets h = record {
  name = t;
  is = refl;
  agent = if_true (is_agent_name t) (so (if is_agent_name t then true else false) t octets h).0;
}
writes_agent Vacant octets h = absurd (cc h)
writes_agent (Flag b) octets h = absurd (cc h)
writes_agent (Number k) octets h = absurd (cc h)
writes_agent (Oid arcs) octets h = absurd (cc h)
writes_agent (Bits b) octets h = absurd (cc h)
writes_agent (Octets o) octets h = absurd (cc h)
writes_agent (Chosen tag n) octets h = absurd (cc h)
writes_agent (Many ns) octets h = absurd (cc h)

pub agent_said : (w : Surroundings) (n : Node) → Fits (layout w) (layout w named.AgentName) n → IsAgent n
agent_said w n f = (let v = only_leaf (layout w) (agent_name any_agent) n refl refl f in writes_agent n v.0 v.1)
