-- What the line after a refresh finds (X.525, section 7: shadowed information): the consumer's copy is what its
-- supplier had as of the stamp, and all else is as it was.
use Rattle.std.specs.Prelude.{◌≡◌, ◌≢◌, ℕ, ◌≤◌, ◌∷◌, length}
use Rattle.std.specs.declared.option.Option.TheVariants.{Some}
use Rattle.x5_model.specs.Values.{key_of}
use Rattle.x5_model_tree.specs.World.{Agreement}
use Rattle.x5_model_tree.specs.Tree.{part}
use Rattle.x5_model_run.specs.History.{Refreshed, Refreshes, Point, moment_of, tree_at, as_of, copy_by, holdings_at}

-- the line after one that brought this refresh by so many messages
abbrev pub after_refresh : Point → Refreshed → ℕ → Point
after_refresh p f sent = record p { past = record { deed = Refreshes f; sent = sent } ∷ p.past }

-- 1. The copy by the agreement is as of the stamp,
abbrev pub CopyIsStamped : Type 0
CopyIsStamped = (p : Point) (f : Refreshed) (sent : ℕ) → as_of (after_refresh p f sent) f.agreement ≡ Some f.stamp

-- 2. and the copies by other agreements are as of their own.
abbrev pub OtherStampsStay : Type 0
OtherStampsStay =
    (p : Point) (f : Refreshed) (sent number : ℕ) → number ≢ f.agreement
    → as_of (after_refresh p f sent) number ≡ as_of p number

-- 3. What a master supplies is stamped with the line's moment; the copy then has the entries that the context has in
-- the tree that this line found.
abbrev pub MasterIsCopied : Type 0
MasterIsCopied =
    (p : Point) (f : Refreshed) (sent : ℕ) (g : Agreement) → g.number ≡ f.agreement → f.stamp ≡ moment_of p
    → (copy_by (after_refresh p f sent) g).held.entries ≡ part (tree_at p) (key_of g.context)

-- 4. What a consumer supplies is stamped as its own copy is; the copy is then that copy, spelled as the agreement
-- spells it.
abbrev pub CopyIsCopied : Type 0
CopyIsCopied =
    (p : Point) (f : Refreshed) (sent m : ℕ) (own g : Agreement) → g.number ≡ f.agreement → f.stamp ≡ m
    → as_of p own.number ≡ Some m → m ≤ length p.past → key_of own.context ≡ key_of g.context
    → (copy_by (after_refresh p f sent) g).held ≡ record (copy_by p own).held { prefix = g.context }

-- 5. Whatever an agent holds beside its copies is as it was.
pub record AreAsBefore (p : Point) (f : Refreshed) (sent agent : ℕ) : Type 0 where
  pub own : (holdings_at (after_refresh p f sent) agent).own ≡ (holdings_at p agent).own
  pub superior : (holdings_at (after_refresh p f sent) agent).superior ≡ (holdings_at p agent).superior
  pub root : (holdings_at (after_refresh p f sent) agent).root ≡ (holdings_at p agent).root
  pub cross : (holdings_at (after_refresh p f sent) agent).cross ≡ (holdings_at p agent).cross

abbrev pub AllElseStays : Type 0
AllElseStays = (p : Point) (f : Refreshed) (sent agent : ℕ) → AreAsBefore p f sent agent
