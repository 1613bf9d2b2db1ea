-- Numbers, flags, options and names of agents within the limits fit.
use Rattle.std.proofs.Common.{◌≡◌, ℕ, ◌≤◌, ◌<◌, ◌^◌, Bool, true, false, ◌&&◌, if◌then◌else◌, nat_le, [], ◌∷◌, refl, ap, arith}
use Rattle.std.specs.Prelude.{pos}
use Rattle.std.proofs.lemmas.Bool.{lt-ltb, le-leb}
use Rattle.x5_model.specs.Values.{Text}
use Rattle.x5_model.proofs.Lists.{and_true}
use Rattle.x5_model_typed.specs.Nodes as nodes
use Rattle.x5_model_typed.specs.Nodes.{Flag, whole}
use Rattle.x5_model_typed.specs.Named as named
use Rattle.x5_model_typed.specs.Forms.{Primitive, JoinedBits, universal}
use Rattle.x5_model_typed.specs.Leaves.{boolean, number, number_octets, is_short_number, any_number, from_to, is_agent_name, options, options_node}
use Rattle.x5_model_typed.specs.Layouts.{Surroundings, layout, integer, agent_name, any_agent}
use Rattle.x5_model_typed_laws.specs.Fits.{Fits}
use Rattle.x5_model_typed_laws.proofs.Leaves.{let_through}
use Rattle.x5_model_fitting.proofs.Making.{leaf_fits}

-- ---- numbers

small : (k : ℕ) → k < 2 ^ 32 → is_short_number (pos k) ≡ true
small k h = lt-ltb k (2 ^ 63) (omega (arith, h))

between : (low high k : ℕ) → low ≤ k → k ≤ high → high < 2 ^ 32
    → (is_short_number (pos k) && from_to low high (pos k)) ≡ true
between low high k h l m =
    and_true (is_short_number (pos k)) (nat_le low k && nat_le k high) (small k (omega (arith, l, m)))
    (and_true (nat_le low k) (nat_le k high) (le-leb low k h) (le-leb k high l))

pub number_fits : (w : Surroundings) (low high k : ℕ) → low ≤ k → k ≤ high → high < 2 ^ 32
    → Fits (layout w) (layout w (named.NumberBelow low high)) (whole k)
number_fits w low high k h l m =
    leaf_fits (layout w) (integer (from_to low high)) (whole k) (number_octets (pos k)) refl refl
    (let_through (is_short_number (pos k) && from_to low high (pos k)) (number_octets (pos k))
    (between low high k h l m)) refl

pub count_fits : (w : Surroundings) (k : ℕ) → k < 2 ^ 32 → Fits (layout w) (layout w (named.NumberBelow 0 4294967295))
    (whole k)
count_fits w k h = number_fits w 0 4294967295 k (omega arith) (omega (arith, h)) (omega arith)

pub enumeration_fits : (w : Surroundings) (low high k : ℕ) → low ≤ k → k ≤ high → high < 2 ^ 32
    → Fits (layout w) (layout w (named.Enumeration low high)) (whole k)
enumeration_fits w low high k h l m =
    leaf_fits (layout w) (universal 10 (Primitive (number (from_to low high)))) (whole k) (number_octets (pos k)) refl
    refl
    (let_through (is_short_number (pos k) && from_to low high (pos k)) (number_octets (pos k))
    (between low high k h l m)) refl

pub code_fits : (w : Surroundings) (k : ℕ) → k < 2 ^ 32 → Fits (layout w) (layout w named.AnyNumber) (whole k)
code_fits w k h =
    leaf_fits (layout w) (integer any_number) (whole k) (number_octets (pos k)) refl refl
    (let_through (is_short_number (pos k) && true) (number_octets (pos k))
    (and_true (is_short_number (pos k)) true (small k h) refl)) refl

-- ---- flags, options and names of agents

pub flag_fits : (w : Surroundings) (b : Bool) → Fits (layout w) (layout w named.Boolean) (Flag b)
flag_fits w true = leaf_fits (layout w) (universal 1 (Primitive boolean)) (Flag true) (255 ∷ []) refl refl refl refl
flag_fits w false = leaf_fits (layout w) (universal 1 (Primitive boolean)) (Flag false) (0 ∷ []) refl refl refl refl

pub options_fit : (w : Surroundings) (a b : Bool) → Fits (layout w) (layout w named.Options) (options_node a b)
options_fit w true true =
    leaf_fits (layout w) (universal 3 (JoinedBits options)) (options_node true true) _ refl refl refl refl
options_fit w true false =
    leaf_fits (layout w) (universal 3 (JoinedBits options)) (options_node true false) _ refl refl refl refl
options_fit w false true =
    leaf_fits (layout w) (universal 3 (JoinedBits options)) (options_node false true) _ refl refl refl refl
options_fit w false false =
    leaf_fits (layout w) (universal 3 (JoinedBits options)) (options_node false false) _ refl refl refl refl

pub agent_fits : (w : Surroundings) (t : Text) → is_agent_name t ≡ true
    → Fits (layout w) (layout w named.AgentName) (nodes.Text t)
agent_fits w t h =
    leaf_fits (layout w) (agent_name any_agent) (nodes.Text t) t refl refl
    (let_through (if is_agent_name t then any_agent t else false) t (ap (λ (b : Bool). if b then true else false) h))
    refl
