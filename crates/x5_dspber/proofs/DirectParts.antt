-- Items of a trace, each from what is found of its parts.
use Rattle.std.proofs.Common.{◌≡◌, ℕ, ◌≤◌, ◌<◌, Bool, true, false, List, [], ◌∷◌}
use Rattle.std.proofs.Common.{refl, sym, subst, lit<, lit≤, if◌then◌else◌}
use Rattle.x5_model.specs.References.{Progress}
use Rattle.x5_model.specs.Values as values
use Rattle.x5_model_messages.specs.Replies.{item_in, progress_in}
use Rattle.x5_model_messages.specs.Terms as terms
use Rattle.x5_model_typed.specs.Named as named
use Rattle.x5_model_typed.specs.Nodes as nodes
use Rattle.x5_model_typed.specs.Nodes.{Node, Flag, Many, row}
use Rattle.x5_model_typed.specs.Forms.{Primitive, Component, plain, or, universal}
use Rattle.x5_model_typed.specs.Leaves.{boolean, is_agent_name}
use Rattle.x5_model_typed.specs.Layouts.{sequence, agent_name, any_agent}
use Rattle.x5_model_typed.specs.Typed as typed
use Rattle.x5_model_typed.specs.Trees.{Bare}
use Rattle.x5_dapber.proofs.Invoking.{one_octet}
use Rattle.x5_dspber.specs.Direct.{IsWide}
use Rattle.x5_direct.specs.Spelled.{Opens, Spelled, SpelledInOrder, Reads}
use Rattle.x5_direct.proofs.Naming.{so}
use Rattle.x5_direct.proofs.Spelling.{branch_spelled, leaf_spelled, order_in, order_next, order_given, order_over}
use Rattle.x5_direct.proofs.Spelling.{spelled_higher}

-- A last component that is missing.
order_missing : (levels : ℕ) (form : named.Named) (d : Node)
    → SpelledInOrder levels (or d (plain form) ∷ []) (d ∷ []) []
order_missing levels form d depth at room =
    record { members = Bare; lie = refl; in_order = λ w. typed.passed d refl tt typed.over }

-- ---- items of a trace

pub agent_spelled : (content octets rest : List ℕ) → Opens 19 content octets rest
    → (if is_agent_name content then any_agent content else false) ≡ true
    → Spelled 0 named.AgentName (nodes.Text content) octets rest
agent_spelled content octets rest o e =
    leaf_spelled named.AgentName 19 0 19 (agent_name any_agent) (nodes.Text content) (nodes.Text content) content octets
    rest o refl (lit< tt) (λ w. refl)
    (so (if is_agent_name content then any_agent content else false) (nodes.Text content) e) refl

true_spelled : (rest : List ℕ) → Spelled 0 named.Boolean (Flag true) (1 ∷ 1 ∷ 255 ∷ rest) rest
true_spelled rest =
    leaf_spelled named.Boolean 1 0 1 (universal 1 (Primitive boolean)) (Flag true) (Flag true) (255 ∷ [])
    (1 ∷ 1 ∷ 255 ∷ rest) rest (one_octet 1 255 rest (lit< tt) (lit< tt)) refl (lit< tt) (λ w. refl) refl refl

mark_last : (wide : Bool) (octets : List ℕ) → IsWide wide octets
    → SpelledInOrder 3 (or (Flag false) (plain named.Boolean) ∷ []) (Flag wide ∷ []) octets
mark_last true octets is =
    subst (λ (l : List ℕ). SpelledInOrder 3 (or (Flag false) (plain named.Boolean) ∷ []) (Flag true ∷ []) l) (sym is)
    (order_given 3 named.Boolean (Flag false) [] (Flag true) [] (1 ∷ 1 ∷ 255 ∷ []) []
    (spelled_higher 0 3 named.Boolean (Flag true) (1 ∷ 1 ∷ 255 ∷ []) [] (lit≤ tt) (true_spelled [])) (order_over 3))
mark_last false octets is =
    subst (λ (l : List ℕ). SpelledInOrder 3 (or (Flag false) (plain named.Boolean) ∷ []) (Flag false ∷ []) l) (sym is)
    (order_missing 3 named.Boolean (Flag false))

abbrev item_parts : List Component
item_parts =
    plain named.AgentName ∷ plain named.Name ∷ plain named.Progress ∷ or (Flag false) (plain named.Boolean) ∷ []

item_said : (agent : values.Text) (target : values.Name) (p : Progress) (wide : Bool) (b c : Node)
    → target ≡ terms.name_of b → p ≡ progress_in c
    → record { agent = agent; target = target; progress = p; wide = wide }
    ≡ item_in (Many (row (nodes.Text agent ∷ b ∷ c ∷ Flag wide ∷ [])))
item_said agent target p wide b c e f = cc (e, f)

pub item_read : (agent : values.Text) (target : values.Name) (p : Progress) (wide : Bool)
    (content first second third octets rest : List ℕ) → Opens 48 content octets rest
    → Spelled 0 named.AgentName (nodes.Text agent) content first
    → Reads 3 named.Name terms.name_of target first second
    → Reads 1 named.Progress progress_in p second third → IsWide wide third
    → Reads 4 named.TraceItem item_in (record { agent = agent; target = target; progress = p; wide = wide }) octets rest
item_read agent target p wide content first second third octets rest o a b c d =
    let ns : List Node = nodes.Text agent ∷ b.0 ∷ c.0 ∷ Flag wide ∷ [] in
    let n : Node = Many (row ns) in (
      n,
      branch_spelled 3 named.TraceItem 48 0 16 (sequence item_parts) n n content octets rest o refl (λ w. refl)
          (order_in 3 item_parts ns content
          (order_next 3 named.AgentName _ (nodes.Text agent) (b.0 ∷ c.0 ∷ Flag wide ∷ []) content first
          (spelled_higher 0 3 named.AgentName (nodes.Text agent) content first (lit≤ tt) a)
          (order_next 3 named.Name _ b.0 (c.0 ∷ Flag wide ∷ []) first second b.1
          (order_next 3 named.Progress _ c.0 (Flag wide ∷ []) second third
          (spelled_higher 1 3 named.Progress c.0 second third (lit≤ tt) c.1) (mark_last wide third d)))))
          refl,
      item_said agent target p wide b.0 c.0 b.2 c.2,
    )
