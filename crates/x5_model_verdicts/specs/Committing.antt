-- What the agents hold at the line after an accepted update.
use Rattle.std.specs.Prelude.{◌≡◌, ℕ, ◌≤◌, ◌==◌, if◌then◌else◌, List, [], ◌∷◌, length}
use Rattle.std.specs.declared.option.Option.TheVariants.{Some}
use Rattle.std.specs.declared.result.Result.TheVariants.{Ok}
use Rattle.x5_model.specs.Members.{In}
use Rattle.x5_model.specs.Requests.{Request}
use Rattle.x5_model.specs.References.{Chained}
use Rattle.x5_model_tree.specs.World.{Agreement, World}
use Rattle.x5_model_tree.specs.Tree.{Tree}
use Rattle.x5_model_tree.specs.Apply.{apply}
use Rattle.x5_model_run.specs.History.{Did, Accepts, Point, knowledge_at, tree_at, as_of, holdings_at}
use Rattle.x5_model_run.specs.Run.{Command, Block, Judge, IsRun}
use Rattle.x5_model_updates.specs.Judging.{IsJudge}
use Rattle.x5_model_serve.specs.Committed.{committed}

-- the line after one at which this agent accepted the update
abbrev pub accepting_at : Point → ℕ → Request → ℕ → Point
accepting_at p o r sent =
    record p { past = record { deed = Accepts (record { agent = o; request = r } ∷ []); sent = sent } ∷ p.past }

-- the stamps of copies are moments of lines before
abbrev pub IsStamped : Point → Type 0
IsStamped p =
    (g : Agreement) (moment : ℕ)
    → In g (knowledge_at p).agreements → as_of p g.number ≡ Some moment → moment ≤ length p.past

-- What an agent holds at the next line is what it held, changed where it accepted.
abbrev pub CommittedIsAfter : Type 0
CommittedIsAfter =
    (p : Point) (o a : ℕ) (m : Chained) (u : Tree) (sent : ℕ)
    → IsJudge p o m → IsStamped p → apply (tree_at p) m.request ≡ Ok u
    → holdings_at (accepting_at p o m.request sent) a
    ≡ (if a == o then committed m.request (holdings_at p a) else holdings_at p a)

-- So it is at every line of a run.
abbrev pub RunsAreStamped : Judge → Type 0
RunsAreStamped judge =
    (w : World) (commands : List Command) (blocks : List Block) (past : List Did)
    → IsRun judge w commands blocks past → IsStamped (record { described = w; past = past })
