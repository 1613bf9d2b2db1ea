-- What a modifyEntry and a modifyDN do to an entry (X.511, sections 11.3 and 11.4). The order in which refusals count,
-- and that values may be added to an absent attribute, is this project's own.
use Rattle.std.specs.Prelude.{ℕ, Bool, true, false, if◌then◌else◌, List, [], ◌∷◌}
use Rattle.std.specs.declared.option.Option.{Option}
use Rattle.std.specs.declared.option.Option.TheVariants.{None, Some}
use Rattle.std.specs.declared.result.Result.{Result}
use Rattle.std.specs.declared.result.Result.TheVariants.{Ok, Err}
use Rattle.x5_model.specs.Values.{TypeRef, Known, Unknown, StoredValue, Offered, Rdn}
use Rattle.x5_model.specs.Entries.{Entry}
use Rattle.x5_model.specs.Attributes.{is_present, has_value, entry_with, put_value, drop_value, has_rdn, with_rdn}
use Rattle.x5_model.specs.Attributes.{without_rdn, doubled, stored_value}
use Rattle.x5_model.specs.Requests.{Change, AddAttribute, RemoveAttribute, AddValues, RemoveValues}
use Rattle.x5_model.specs.Answers.{DirError, AttributeProblem, UpdateProblem}
use Rattle.x5_model.specs.Problems.{no_such_attribute_or_value, constraint_violation, attribute_or_value_already_exists}
use Rattle.x5_model.specs.Problems.{not_allowed_on_rdn}

-- an entry, or the first refusal
abbrev pub ChangedEntry : Type 0
ChangedEntry = Result Entry DirError

abbrev pub and_then : ChangedEntry → (Entry → ChangedEntry) → ChangedEntry
and_then (Ok e) f = f e
and_then (Err x) f = Err x

-- the values of one change in their order; each acts on what the earlier ones left
abbrev pub each_value : (StoredValue → Entry → ChangedEntry) → List Offered → Entry → ChangedEntry
each_value change [] e = Ok e
each_value change (o ∷ more) e = and_then (with_stored (stored_value o)) (each_value change more)
  where
    with_stored : Option StoredValue → ChangedEntry
    with_stored None = Ok e
    with_stored (Some v) = change v e

abbrev pub put_new : ℕ → StoredValue → Entry → ChangedEntry
put_new kind v e =
    if has_value e kind v.normal then Err (AttributeProblem attribute_or_value_already_exists (Known kind))
    else Ok (put_value kind v e)

abbrev pub drop_old : ℕ → StoredValue → Entry → ChangedEntry
drop_old kind v e =
    if has_value e kind v.normal then Ok (drop_value kind v.normal e)
    else Err (AttributeProblem no_such_attribute_or_value (Known kind))

-- types that aren't known have been refused before
abbrev pub on_known : (ℕ → Entry → ChangedEntry) → TypeRef → Entry → ChangedEntry
on_known change (Known kind) e = change kind e
on_known change (Unknown arcs) e = Ok e

-- an attribute that is present isn't added again, one that is absent isn't removed; an equal value isn't added, also
-- where the change itself gives it twice, and an absent one isn't removed; an attribute that has no value left goes
abbrev pub changed : Change → Entry → ChangedEntry
changed (AddAttribute a) e = on_known add a.kind e
  where
    add : ℕ → Entry → ChangedEntry
    add kind f =
        if is_present f kind then Err (AttributeProblem attribute_or_value_already_exists (Known kind))
        else each_value (put_new kind) a.values f
changed (RemoveAttribute type) e = on_known remove type e
  where
    remove : ℕ → Entry → ChangedEntry
    remove kind f =
        if is_present f kind then Ok (entry_with kind [] f)
        else Err (AttributeProblem no_such_attribute_or_value (Known kind))
changed (AddValues a) e = on_known (λ kind f. each_value (put_new kind) a.values f) a.kind e
changed (RemoveValues a) e = on_known (λ kind f. each_value (drop_old kind) a.values f) a.kind e

-- the changes in their order; the first that can't gives its problem
abbrev pub changed_by : List Change → Entry → ChangedEntry
changed_by [] e = Ok e
changed_by (c ∷ more) e = and_then (changed c e) (changed_by more)

-- at the end of an update no single-valued type has two values
abbrev pub single_valued : Entry → ChangedEntry
single_valued e = by (doubled e)
  where
    by : Option ℕ → ChangedEntry
    by None = Ok e
    by (Some kind) = Err (AttributeProblem constraint_violation (Known kind))

-- at the end of a modifyEntry the values of the RDN are still there
abbrev pub keeps_rdn : Rdn → Entry → ChangedEntry
keeps_rdn rdn e = if has_rdn e rdn then Ok e else Err (UpdateProblem not_allowed_on_rdn)

abbrev pub modified : Rdn → List Change → Entry → ChangedEntry
modified rdn changes e = and_then (and_then (changed_by changes e) (keeps_rdn rdn)) single_valued

-- modifyDN: with deleteOldRDN the old RDN's values that aren't in the new one go, and the new RDN's missing values are
-- added
abbrev pub renamed : Rdn → Rdn → Bool → Entry → Entry
renamed old new true e = with_rdn new (without_rdn old new e)
renamed old new false e = with_rdn new e
