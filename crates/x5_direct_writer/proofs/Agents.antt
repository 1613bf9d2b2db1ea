-- What is written of the name of an agent.
use Rattle.std.proofs.Common.{◌≡◌, ℕ, Bool, true, false, List, ap, ◌∙◌}
use Rattle.std.specs.Option.{is_some}
use Rattle.std.specs.Prelude.{if◌then◌else◌}
use Rattle.std.specs.declared.option.Option.TheVariants.{None, Some}
use Rattle.x5_model.specs.Words.{in_option}
use Rattle.x5_model_octets.specs.Elements as elements
use Rattle.x5_model_typed.specs.Forms.{Alternative}
use Rattle.x5_model_typed.specs.Layouts.{Surroundings, agent_name, any_agent, layout}
use Rattle.x5_model_typed.specs.Leaves.{is_agent_name, where_so}
use Rattle.x5_model_typed.specs.Named as named
use Rattle.x5_model_typed.specs.Nodes.{Text}
use Rattle.x5_model_typed.specs.Written.{can_hold, leaf_or, primitive_of, written}

-- whether the text may stand there
abbrev pub may_name : List ℕ → Bool
may_name t = if is_agent_name t then any_agent t else false

abbrev alternative : Alternative
alternative = agent_name any_agent

pub agent_is : (w : Surroundings) (t : List ℕ) → may_name t ≡ true
    → written (layout w) (layout w named.AgentName) (Text t) ≡ Some (elements.Primitive 0 19 t)
agent_is w t h =
    let held : can_hold (Text t) alternative ≡ true =
    ap (λ (b : Bool). if is_some (where_so b t) then true else false) h in
    ap (λ (b : Bool). in_option None (λ (a : Alternative). leaf_or a (Text t) None) (if b then Some alternative else None))
    held
    ∙ ap (λ (b : Bool). in_option None (λ (octets : List ℕ). Some (primitive_of alternative octets)) (where_so b t)) h

pub no_agent : (w : Surroundings) (t : List ℕ) → may_name t ≡ false
    → written (layout w) (layout w named.AgentName) (Text t) ≡ None
no_agent w t h =
    let held : can_hold (Text t) alternative ≡ false =
    ap (λ (b : Bool). if is_some (where_so b t) then true else false) h in
    ap (λ (b : Bool). in_option None (λ (a : Alternative). leaf_or a (Text t) None) (if b then Some alternative else None))
    held
