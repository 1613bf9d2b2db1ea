-- Accepted updates keep knowledge coherent (X.511, section 11): pins keep their parents, and NSSRs their entries.
use Rattle.std.specs.Prelude.{◌≡◌, ◌≢◌, ◌<◌, ◌⊎◌, ◌↔◌, List, length, map, if◌then◌else◌, ◌++◌, drop}
use Rattle.x5_model.specs.Keys.{Key, IsPrefix, parent, is_prefix}
use Rattle.x5_model.specs.Members.{In, Once}
use Rattle.x5_model_theory.specs.Knowledge.{Knowledge, Area, IsEntry}
use Rattle.x5_model_theory.specs.Coherent.{Coherent}

-- the same contexts with other entries
abbrev pub holding : (Area → List Key) → Area → Area
holding f c = record c { entries = f c }

abbrev pub with_entries : (Area → List Key) → Knowledge → Knowledge
with_entries f k = record k { areas = map (holding f) k.areas }

-- the context has one entry more, below one that it has, and no context had it
pub record Adds (k : Knowledge) (f : Area → List Key) (c : Area) (e : Key) : Type 0 where
  pub mine : In c k.areas
  pub filled : 0 < length e
  pub below : In (parent e) c.entries
  pub new : IsEntry k e → ⊥
  pub members : (d : Area) (x : Key) → In d k.areas → In x (f d) ↔ (In x d.entries ⊎ ((x ≡ e) × (d ≡ c)))
  pub once : (d : Area) → In d k.areas → Once (f d)

-- an entry goes that is no pin, above no pin and above no entry
pub record Removes (k : Knowledge) (f : Area → List Key) (e : Key) : Type 0 where
  pub filled : 0 < length e
  pub above_none : (x : Key) → IsEntry k x → IsPrefix e x → x ≡ e
  pub no_pin : (d : Area) → In d k.areas → IsPrefix e d.prefix → ⊥
  pub members : (d : Area) (x : Key) → In d k.areas → In x (f d) ↔ (In x d.entries × (x ≢ e))
  pub once : (d : Area) → In d k.areas → Once (f d)

abbrev pub AddingKeeps : Type 0
AddingKeeps =
    (k : Knowledge) (f : Area → List Key) (c : Area) (e : Key) → Coherent k → Adds k f c e → Coherent (with_entries f k)

abbrev pub RemovingKeeps : Type 0
RemovingKeeps =
    (k : Knowledge) (f : Area → List Key) (e : Key) → Coherent k → Removes k f e → Coherent (with_entries f k)

-- the name of an entry and all names below it begin otherwise
abbrev pub moved : Key → Key → Key → Key
moved e n x = if is_prefix e x then n ++ drop (length e) x else x

-- an entry gets another last RDN: it is no pin and above none, and the new name is new
pub record Renames (k : Knowledge) (f : Area → List Key) (e n : Key) : Type 0 where
  pub filled : 0 < length e
  pub level : (0 < length n) × (parent n ≡ parent e)
  pub new : IsEntry k n → ⊥
  pub no_pin : (d : Area) → In d k.areas → IsPrefix e d.prefix → ⊥
  pub members : (d : Area) (x : Key) → In d k.areas → In x (f d) ↔ ((y : Key) × In y d.entries × (x ≡ moved e n y))
  pub once : (d : Area) → In d k.areas → Once (f d)

abbrev pub RenamingKeeps : Type 0
RenamingKeeps =
    (k : Knowledge) (f : Area → List Key) (e n : Key) → Coherent k → Renames k f e n → Coherent (with_entries f k)

-- the same entries, maybe in another order
pub record Reorders (k : Knowledge) (f : Area → List Key) : Type 0 where
  pub members : (d : Area) (x : Key) → In d k.areas → In x (f d) ↔ In x d.entries
  pub once : (d : Area) → In d k.areas → Once (f d)

abbrev pub ReorderingKeeps : Type 0
ReorderingKeeps = (k : Knowledge) (f : Area → List Key) → Coherent k → Reorders k f → Coherent (with_entries f k)
