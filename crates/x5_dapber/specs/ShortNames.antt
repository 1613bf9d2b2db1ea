-- The names that a request leads agents to (X.518, sections 18 and 19).
use Rattle.std.specs.Prelude.{◌≡◌, ◌≤◌, length}
use Rattle.std.specs.declared.option.Option.TheVariants.{Some}
use Rattle.x5_model.specs.Normal.{most_rdns}
use Rattle.x5_model.specs.Requests.{Body}
use Rattle.x5_model.specs.Values.{Name}
use Rattle.x5_model_run.specs.Needs as needs

-- They have no more RDNs than names may have: the target, and the name that an entry gets, where it gets one.
pub record HasShortNames (b : Body) : Type 0 where
  pub target : length (needs.target_of b) ≤ most_rdns
  pub new_name : (name : Name) → needs.new_name b ≡ Some name → length name ≤ most_rdns
