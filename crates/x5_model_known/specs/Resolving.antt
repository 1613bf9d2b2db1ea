-- Which names an agent resolves (X.518, section 18): as many after an update as before, and of an update's that it
-- doesn't resolve it finds nothing.
use Rattle.std.specs.Prelude.{◌≡◌, true, false}
use Rattle.x5_model.specs.Requests.{Request}
use Rattle.x5_model.specs.References.{Chained}
use Rattle.x5_model_tree.specs.Ask.{is_update}
use Rattle.x5_model_run.specs.Holdings.{Holdings}
use Rattle.x5_model_run.specs.Needs.{resolves}
use Rattle.x5_model_run.specs.Placed.{fits}
use Rattle.x5_model_serve.specs.Committed.{committed}
use Rattle.x5_model_serve.specs.Finding.{Stuck, find}

-- An update changes entries, and not which contexts are held: so names are resolved as far as before.
abbrev pub ResolvesAlike : Type 0
ResolvesAlike = (r : Request) (h : Holdings) (m : Chained) → resolves (committed r h) m ≡ resolves h m

-- An update's message that fits, and whose name the agent doesn't resolve, goes no further.
abbrev pub UnresolvedIsStuck : Type 0
UnresolvedIsStuck =
    (h : Holdings) (m : Chained)
    → is_update m.request.body ≡ true → fits m ≡ true → resolves h m ≡ false → find h m ≡ Stuck
