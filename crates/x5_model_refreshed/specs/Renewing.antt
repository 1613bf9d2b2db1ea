-- What agents hold after a refresh (X.525, section 7: shadowed information): the consumer's copy by the agreement is
-- what its supplier had as of the stamp; and all else that anybody holds is as it was.
use Rattle.std.specs.Prelude.{◌≡◌, ◌≢◌, ℕ, slice_get, slice_set}
use Rattle.std.specs.Option.{is_some, option_map}
use Rattle.std.specs.declared.option.Option.TheVariants.{Some}
use Rattle.x5_model.specs.Members.{In}
use Rattle.x5_model.specs.Keys.{Key}
use Rattle.x5_model.specs.Values.{key_of}
use Rattle.x5_model_tree.specs.World.{Agreement}
use Rattle.x5_model_tree.specs.Masters.{masters}
use Rattle.x5_model_run.specs.Holdings.{Copy, held_at, copy_at}
use Rattle.x5_model_run.specs.History.{Refreshed, Point, knowledge_at, copy_as_of, copy_by, agreements_of, holdings_at}
use Rattle.x5_model_run.specs.Refresh.{consumed_by}
use Rattle.x5_model_refreshed.specs.Refreshed.{after_refresh}
use Rattle.x5_model_refreshed.specs.Replaying.{IsLed}

-- ---- where contexts and copies are

-- 1. An agent holds among its own contexts those that it masters,
abbrev pub OwnAreMastered : Type 0
OwnAreMastered =
    (p : Point) (a : ℕ) (pin : Key) → IsLed p
    → masters (knowledge_at p) a pin ≡ is_some (held_at (holdings_at p a).own pin)

-- 2. and has the copy of a context by the agreement by which it consumes it.
abbrev pub CopiesAreConsumed : Type 0
CopiesAreConsumed =
    (p : Point) (a : ℕ) (pin : Key) → IsLed p
    → copy_at (holdings_at p a) pin ≡ option_map (copy_by p) (consumed_by (knowledge_at p) a pin)

-- 3. So by each agreement its consumer has a copy,
abbrev pub ConsumersHaveCopies : Type 0
ConsumersHaveCopies =
    (p : Point) (g : Agreement) → IsLed p → In g (knowledge_at p).agreements
    → copy_at (holdings_at p g.consumer) (key_of g.context) ≡ Some (copy_by p g)

-- 4. whose place among the copies is that of the agreement: of several with one prefix there is one alone.
abbrev pub CopiesHavePlaces : Type 0
CopiesHavePlaces =
    (p : Point) (g : Agreement) (place : ℕ) (c : Copy) → IsLed p → In g (knowledge_at p).agreements
    → slice_get (holdings_at p g.consumer).copies place ≡ Some c → key_of c.held.prefix ≡ key_of g.context
    → (c ≡ copy_by p g) × (slice_get (agreements_of (knowledge_at p) g.consumer) place ≡ Some g)

-- ---- after a refresh

-- a copy as of a moment
abbrev pub renewed : Point → Agreement → ℕ → Copy
renewed p g m = record { held = copy_as_of p g (Some m); stamp = Some m; supplier = g.supplier }

-- 5. The copy by the agreement is as of the stamp, told by the line before,
abbrev pub CopyIsRenewed : Type 0
CopyIsRenewed =
    (p : Point) (f : Refreshed) (sent : ℕ) (g : Agreement) → g.number ≡ f.agreement
    → copy_by (after_refresh p f sent) g ≡ renewed p g f.stamp

-- 6. and the copies by other agreements are what they were.
abbrev pub OtherCopiesStay : Type 0
OtherCopiesStay =
    (p : Point) (f : Refreshed) (sent : ℕ) (g : Agreement) → g.number ≢ f.agreement
    → copy_by (after_refresh p f sent) g ≡ copy_by p g

-- 7. So the consumer holds what it held, but for the copy at its place,
abbrev pub ConsumerIsRenewed : Type 0
ConsumerIsRenewed =
    (p : Point) (f : Refreshed) (sent : ℕ) (g : Agreement) (place : ℕ) (c : Copy) → IsLed p
    → In g (knowledge_at p).agreements → g.number ≡ f.agreement
    → slice_get (holdings_at p g.consumer).copies place ≡ Some c → key_of c.held.prefix ≡ key_of g.context
    → holdings_at (after_refresh p f sent) g.consumer
    ≡ record (holdings_at p g.consumer) {
      copies = slice_set (holdings_at p g.consumer).copies place (renewed p g f.stamp);
    }

-- 8. and every other agent just what it held.
abbrev pub OthersHoldOn : Type 0
OthersHoldOn =
    (p : Point) (f : Refreshed) (sent : ℕ) (g : Agreement) (a : ℕ) → IsLed p
    → In g (knowledge_at p).agreements → g.number ≡ f.agreement → a ≢ g.consumer
    → holdings_at (after_refresh p f sent) a ≡ holdings_at p a
