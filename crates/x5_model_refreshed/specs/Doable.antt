-- When the steps of an incremental refresh can be done on a context's entries, one after another (X.525, section 11.3:
-- update shadow; X.511, section 11: what an update may be). A step names entries as its supplier spells them, and a
-- copy spells them so too: each name goes on that of the entry above.
use Rattle.std.specs.Prelude.{◌≡◌, ◌≤◌, ◌<◌, ◌⊎◌, ℕ, true, false, not, ◌&&◌, List, [], ◌∷◌, ◌++◌, ⊤, length}
use Rattle.std.specs.Option.{option_map}
use Rattle.std.specs.declared.option.Option.TheVariants.{Some}
use Rattle.std.specs.declared.result.Result.TheVariants.{Ok}
use Rattle.x5_model.specs.Words.{ascending, first_of}
use Rattle.x5_model.specs.Members.{In}
use Rattle.x5_model.specs.Keys.{Key, same_key}
use Rattle.x5_model.specs.Values.{Name, key_of, last_rdn, name_above}
use Rattle.x5_model.specs.Entries.{Named}
use Rattle.x5_model.specs.Requests.{Request}
use Rattle.x5_model_tree.specs.World.{Agreement}
use Rattle.x5_model_tree.specs.Tree.{Tree, key_at, named_below, entry_at, is_there, has_below, belongs, part}
use Rattle.x5_model_tree.specs.Masters.{masters}
use Rattle.x5_model_tree.specs.Ask.{is_update}
use Rattle.x5_model_tree.specs.Apply.{apply}
use Rattle.x5_model_run.specs.Needs.{target_of}
use Rattle.x5_model_run.specs.History.{Point, Refreshed, tree_at, tree_of_moment, knowledge_at, refreshes_of, as_of}
use Rattle.x5_model_run.specs.History.{copy_by}
use Rattle.x5_model_run.specs.Refresh.{consumed_by}
use Rattle.x5_model_theory.specs.Knowledge.{Knowledge}
use Rattle.x5_model_theory.specs.Coherent.{Coherent}
use Rattle.x5_model_updates.specs.Standing.{IsTreeOf}
use Rattle.x5_model_refreshed.specs.Steps.{Step, Add, Remove, Modify, Rename, replayed, step_of}
use Rattle.x5_model_refreshed.specs.Logs.{steps_later, log_at, stamps_since}
use Rattle.x5_model_refreshed.specs.Replaying.{IsLed, IsBrought}

-- the entry just above is there, by the name that this one's goes on
pub record IsBelow (entries : List Named) (e : Named) : Type 0 where
  pub above : Named
  pub there : In above entries
  pub spelled : e.name ≡ above.name ++ last_rdn e.name ∷ []

-- what is added isn't there, and the entry just above is
pub record CanAdd (entries : List Named) (e : Named) : Type 0 where
  pub absent : is_there entries (key_at e) ≡ false
  pub below : IsBelow entries e

-- what is removed is a leaf other than the prefix
pub record CanRemove (pin : Key) (entries : List Named) (name : Name) : Type 0 where
  pub there : is_there entries (key_of name) ≡ true
  pub other : same_key (key_of name) pin ≡ false
  pub leaf : has_below entries (key_of name) ≡ false

-- what is modified is there, and keeps its name
pub record CanModify (entries : List Named) (e : Named) : Type 0 where
  pub old : Named
  pub there : entry_at entries (key_at e) ≡ Some old
  pub spelled : e.name ≡ old.name

-- what is renamed is there and isn't the prefix; it stays below the same entry, and no other has its new name
pub record CanRename (pin : Key) (entries : List Named) (name : Name) (e : Named) : Type 0 where
  pub old : Named
  pub there : entry_at entries (key_of name) ≡ Some old
  pub other : same_key (key_of name) pin ≡ false
  pub spelled : e.name ≡ name_above old.name ++ last_rdn e.name ∷ []
  pub free : (not (same_key (key_at e) (key_of name)) && is_there entries (key_at e)) ≡ false

-- a step can be done on the entries of the context of a pin,
abbrev pub CanDo : Key → List Named → Step → Type 0
CanDo pin entries (Add e) = CanAdd entries e
CanDo pin entries (Remove name) = CanRemove pin entries name
CanDo pin entries (Modify e) = CanModify entries e
CanDo pin entries (Rename name e) = CanRename pin entries name e

-- and so can each behind what those before it make of them
abbrev pub CanReplay : Key → List Named → List Step → Type 0
CanReplay pin entries [] = ⊤
CanReplay pin entries (s ∷ more) = CanDo pin entries s × CanReplay pin (replayed s entries) more

-- The entries of a naming context in the order of their keys, the prefix's first, and of each other the one just above
-- (X.501, section 7), by the name that its own goes on.
pub record AreWhole (pin : Key) (entries : List Named) : Type 0 where
  pub below_root : 0 < length pin
  pub first : option_map key_at (first_of entries) ≡ Some pin
  pub in_order : ascending named_below entries ≡ true
  pub above : (e : Named) → In e entries → (key_at e ≡ pin) ⊎ IsBelow entries e

-- ---- what a supplier has is so

-- 1. Whatever its master has of a context is whole,
abbrev pub PartsAreWhole : Type 0
PartsAreWhole =
    (p : Point) (a : ℕ) (pin : Key) → IsLed p → masters (knowledge_at p) a pin ≡ true
    → AreWhole pin (part (tree_at p) pin)

-- 2. and so is a copy that was refreshed, which its consumer may supply to others.
abbrev pub CopiesAreWhole : Type 0
CopiesAreWhole =
    (p : Point) (g : Agreement) (m : ℕ) → IsLed p → In g (knowledge_at p).agreements → as_of p g.number ≡ Some m
    → AreWhole (key_of g.context) (copy_by p g).held.entries

-- 3. The step that the master notes of an update can be done on what the context had.
abbrev pub StepCanBeDone : Type 0
StepCanBeDone =
    (k : Knowledge) (t u : Tree) (r : Request) (pin : Key) (step : Step) → Coherent k → IsTreeOf k t
    → is_update r.body ≡ true → apply t r ≡ Ok u → belongs t.pins pin (key_of (target_of r.body)) ≡ true
    → step_of (part t pin) r.body ≡ Some step → CanDo pin (part t pin) step

-- 4. The later steps of the master's log can be done on what the context had at an earlier moment,
abbrev pub MasterCanReplay : Type 0
MasterCanReplay =
    (p : Point) (a m : ℕ) (pin : Key) → IsLed p → masters (knowledge_at p) a pin ≡ true → m ≤ length p.past
    → CanReplay pin (part (tree_of_moment p m) pin) (steps_later m (log_at p a pin))

-- 5. and those of a consumer's log on what it had at a stamp of its copy since the last total refresh.
abbrev pub ConsumerCanReplay : Type 0
ConsumerCanReplay =
    (p : Point) (a m : ℕ) (pin : Key) (g : Agreement) → IsLed p → masters (knowledge_at p) a pin ≡ false
    → consumed_by (knowledge_at p) a pin ≡ Some g → In m (stamps_since (refreshes_of p.past g.number))
    → CanReplay pin (part (tree_of_moment p m) pin) (steps_later m (log_at p a pin))

-- 6. So the steps of an incremental refresh can be done on the copy's entries.
abbrev pub RefreshCanReplay : Type 0
RefreshCanReplay =
    (p : Point) (f : Refreshed) (g : Agreement) (m : ℕ) → IsLed p → IsBrought p f → f.total ≡ false
    → In g (knowledge_at p).agreements → g.number ≡ f.agreement → as_of p g.number ≡ Some m
    → CanReplay (key_of g.context) (copy_by p g).held.entries (steps_later m (log_at p g.supplier (key_of g.context)))
