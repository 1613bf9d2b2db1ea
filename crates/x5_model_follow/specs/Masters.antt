-- What masters alone tell (X.511, section 7.5: dontUseCopy) is what the one tree tells.
use Rattle.std.specs.Prelude.{◌≡◌, ◌⊎◌, true, false, List, []}
use Rattle.x5_model.specs.Requests.{Request}
use Rattle.x5_model.specs.Answers.{Answer, DirError}
use Rattle.x5_model_tree.specs.Ask.{Refuses, rest_of, unexplored_of, is_read, is_update, ask}
use Rattle.x5_model_run.specs.Journal.{Line}
use Rattle.x5_model_run.specs.History.{Point, tree_at}
use Rattle.x5_model_run.specs.Chain.{Scene, opening}
use Rattle.x5_model_run.specs.Blocked.{Asked}
use Rattle.x5_model_run.specs.Right.{IsResult}
use Rattle.x5_model_parts.specs.Standing.{Stands}
use Rattle.x5_model_updates.specs.Standing.{StandsWhole}

-- The tree refuses nothing: the object or base is there. And a read or compare tells what the tree tells; so does a list
-- or search that leaves nothing unexplored.
pub record IsTrees (p : Point) (r : Request) (a : Answer) : Type 0 where
  pub there : (x : DirError) → ask (tree_at p) r ≡ Refuses x → ⊥
  pub whole : (is_read r.body ≡ true) ⊎ (unexplored_of a ≡ []) → rest_of a ≡ ask (tree_at p) r

-- So it is of a result, at a line over consistent knowledge, where copies may not be used.
abbrev pub MastersTell : Type 0
MastersTell =
    (p : Point) (s : Scene) (q : Asked) (r : Request) (lines : List Line) (a : Answer)
    → StandsWhole p → Stands p → q.message ≡ opening r → r.controls.nocopy ≡ true → is_update r.body ≡ false
    → IsResult p s q lines a → IsTrees p r a
