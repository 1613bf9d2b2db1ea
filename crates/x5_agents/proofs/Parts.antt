-- What an agent holds by its parts is what is described of it by its parts.
use Rattle.std.proofs.Common.{◌≡◌, ℕ, ◌==◌, if◌then◌else◌, List, [], map, length, ap, ◌∙◌}
use Rattle.std.specs.List.{filter}
use Rattle.std.specs.Option.{is_none}
use Rattle.x5_model_tree.specs.World.{Agent, World}
use Rattle.x5_model_tree.specs.Masters.{held_contexts}
use Rattle.x5_model_run.specs.History.{agreements_of}
use Rattle.x5_model_held.specs.Beginning.{described_context, described_copy, described_holdings}
use Rattle.x5_ops.specs.declared.knowledge.Cross.{Cross}
use Rattle.x5_ops.specs.declared.knowledge.Specific.{Specific}
use Rattle.x5_ops.specs.KnowledgeViews.{specific_view, cross_view}
use Rattle.x5_holdings.specs.State.{State, Kept, CopyKept, held_view, copy_view, holdings_view}

pub held_by_parts : (w : World) (me : ℕ) (a : Agent) (h : State) (own : List Kept) (copies : List CopyKept) (root : List Specific)
    (cross : List Cross)
    → h ≡ record { me = me; moment = 0; superior = a.superior; own = own; copies = copies; root = root; cross = cross }
    → map held_view own ≡ map (described_context a.subordinate) (held_contexts [] a.contexts)
    → map copy_view copies ≡ map described_copy (agreements_of w me)
    → map specific_view root ≡ (if is_none a.superior then filter (λ k. length k.pin == 1) a.subordinate else [])
    → map cross_view cross ≡ a.cross → holdings_view h ≡ described_holdings w me a
held_by_parts w me a h own copies root cross is p q r s =
    ap holdings_view is
    ∙ (λ i. record { me = me; superior = a.superior; own = p i; copies = q i; root = r i; cross = s i })
