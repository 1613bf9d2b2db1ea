-- Messages between agents as the nodes of messages, with agents by their names, and what such nodes say (X.518,
-- sections 10 and 12; docs/FORMATS.md, section 4). The results and errors between agents are in Replies.
use Rattle.std.specs.Prelude.{ℕ, List, [], ◌∷◌, map}
use Rattle.x5_model.specs.Values.{Rdn, Name}
use Rattle.x5_model.specs.Requests.{Request}
use Rattle.x5_model.specs.References.{Progress, Start, RefType, Own}
use Rattle.x5_model_run.specs.Journal.{operation_of, kind_number}
use Rattle.x5_model_typed.specs.Nodes.{Node, Vacant, Chosen, whole, parts}
use Rattle.x5_model_messages.specs.Terms.{node_of, rdn_node, name_node, name_of, rdn_of, number_in}
use Rattle.x5_model_messages.specs.Requests.{argument_node, argument_in}
use Rattle.x5_model_messages.specs.Replies.{TraceItem, progress_node, item_node, progress_in, kind_in, item_in, or_zero}

-- a message between agents; the newest item of the trace is its last
pub record Chained : Type 0 where
  pub target : Name
  pub progress : Progress
  pub kind : RefType
  pub exclusions : List Rdn
  pub trace : List TraceItem
  pub request : Request

-- ---- what is written

-- chaining arguments (X.518, section 10.3)
abbrev pub chaining_node : Chained → Node
chaining_node m =
    node_of (name_node m.target ∷ progress_node m.progress ∷ node_of (map item_node m.trace)
    ∷ whole (kind_number m.kind) ∷ node_of (map rdn_node m.exclusions) ∷ [])

-- the chaining arguments, and the argument of the operation as a user gives it
abbrev pub carried_node : Chained → Node
carried_node m = node_of (chaining_node m ∷ argument_node m.request ∷ [])

-- an agent's message
abbrev pub chained_node : ℕ → Chained → Node
chained_node id m = Chosen 1 (node_of (whole id ∷ whole (operation_of m.request.body) ∷ carried_node m ∷ []))

-- ---- what nodes say; a node of another type says nothing, for which something stands

-- the message of a request with those chaining arguments
abbrev pub chaining_in : Request → Node → Chained
chaining_in request n = by (parts n)
  where
    by : List Node → Chained
    by (target ∷ progress ∷ trace ∷ kind ∷ exclusions ∷ []) = record {
      target = name_of target;
      progress = progress_in progress;
      kind = kind_in kind;
      exclusions = map rdn_of (parts exclusions);
      trace = map item_in (parts trace);
      request = request;
    }
    by other = record { target = []; progress = Start; kind = Own; exclusions = []; trace = []; request = request }

-- the message of an operation with those arguments
abbrev pub carried_in : ℕ → Node → Chained
carried_in code n = by (parts n)
  where
    by : List Node → Chained
    by (chaining ∷ argument ∷ []) = chaining_in (argument_in code argument) chaining
    by other = chaining_in (argument_in code Vacant) Vacant

-- an agent's message: its id, and what it asks
abbrev pub chained_in : Node → ℕ × Chained
chained_in m = by m
  where
    of : List Node → ℕ × Chained
    of (id ∷ code ∷ argument ∷ []) = (or_zero (number_in id), carried_in (or_zero (number_in code)) argument)
    of other = (0, carried_in 0 Vacant)

    by : Node → ℕ × Chained
    by (Chosen tag n) = of (parts n)
    by n = of []
