-- What a copy becomes by a refresh, from what its supplier holds (X.525, section 7: shadowed information; section 9).
use Rattle.std.specs.Prelude.{◌≡◌, ℕ, false, if◌then◌else◌, map}
use Rattle.std.specs.declared.option.Option.TheVariants.{None, Some}
use Rattle.x5_model.specs.Words.{in_option}
use Rattle.x5_model.specs.Members.{In}
use Rattle.x5_model.specs.Values.{key_of}
use Rattle.x5_model_tree.specs.World.{Agent, Agreement}
use Rattle.x5_model_tree.specs.Masters.{Mastered, agent_at}
use Rattle.x5_model_run.specs.Holdings.{Held, Copy, held_at, masters_pin, copy_at}
use Rattle.x5_model_run.specs.History.{Refreshed, Point, moment_of, knowledge_at, as_of, copy_as_of}
use Rattle.x5_model_run.specs.History.{copy_by, holdings_at}
use Rattle.x5_model_run.specs.History.{references_below, sent_references}
use Rattle.x5_model_run.specs.Refresh.{supplied}
use Rattle.x5_model_refreshed.specs.Steps.{replay}
use Rattle.x5_model_refreshed.specs.Logs.{log_at, steps_later}
use Rattle.x5_model_refreshed.specs.Replaying.{IsLed, IsBrought}
use Rattle.x5_model_refreshed.specs.Renewing.{renewed}

-- 1. The moment as of which the supplier has the context, by what it holds: now where the context is among its own,
-- else the stamp of its copy.
abbrev pub SuppliedIsHeld : Type 0
SuppliedIsHeld =
    (p : Point) (g : Agreement) → IsLed p
    → supplied p g
    ≡ (if masters_pin (holdings_at p g.supplier) (key_of g.context) then Some (moment_of p)
    else in_option None (λ c. c.stamp) (copy_at (holdings_at p g.supplier) (key_of g.context)))

-- A master holds its contexts in the order of the file, each with the references below its entries. The copy that it
-- supplies now has the context's entries and NSSRs, and the references that are sent of it.
pub record IsFromMaster (p : Point) (g : Agreement) (c : Held) : Type 0 where
  pub of_it : Mastered
  pub agent : Agent
  pub me : of_it.master ≡ g.supplier
  pub here : agent_at (knowledge_at p) of_it.master ≡ Some agent
  pub contexts : map (λ h. h.prefix) (holdings_at p g.supplier).own ≡ map (λ h. h.prefix) agent.contexts
  pub references : c.subordinate ≡ references_below c.entries agent.subordinate
  pub copy : copy_as_of p g (Some (moment_of p)) ≡ record {
    prefix = g.context;
    entries = c.entries;
    subordinate = sent_references (knowledge_at p) of_it c.entries;
    nssrs = c.nssrs;
  }

-- 2. What is copied now is the master's context, of which it has this,
abbrev pub MasterSupplies : Type 0
MasterSupplies =
    (p : Point) (g : Agreement) (c : Held) → IsLed p
    → held_at (holdings_at p g.supplier).own (key_of g.context) ≡ Some c → IsFromMaster p g c

-- 3. and of a consumer its own copy, spelled as the agreement spells it.
abbrev pub ConsumerSupplies : Type 0
ConsumerSupplies =
    (p : Point) (g : Agreement) (c : Copy) (m : ℕ) → IsLed p
    → copy_at (holdings_at p g.supplier) (key_of g.context) ≡ Some c → c.stamp ≡ Some m
    → copy_as_of p g (Some m) ≡ record c.held { prefix = g.context }

-- 4. From one moment to another a copy's references and NSSRs stay: where a context is known doesn't change.
abbrev pub ReferencesStay : Type 0
ReferencesStay =
    (p : Point) (g : Agreement) (m n : ℕ) → IsLed p
    → copy_as_of p g (Some n)
    ≡ record (copy_as_of p g (Some m)) { entries = (copy_as_of p g (Some n)).entries }

-- 5. So an incremental refresh leaves the copy as it was, but for its stamp and what the steps make of its entries.
abbrev pub CopyAdvances : Type 0
CopyAdvances =
    (p : Point) (f : Refreshed) (g : Agreement) (m : ℕ) → IsLed p → IsBrought p f → f.total ≡ false
    → In g (knowledge_at p).agreements → g.number ≡ f.agreement → as_of p g.number ≡ Some m
    → renewed p g f.stamp ≡ record {
      held = record (copy_by p g).held {
        entries = replay (steps_later m (log_at p g.supplier (key_of g.context))) (copy_by p g).held.entries;
      };
      stamp = Some f.stamp;
      supplier = g.supplier;
    }
