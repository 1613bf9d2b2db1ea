-- What one member of a list brings to the breaches of a condition.
use Rattle.std.specs.Prelude.{◌≡◌, ℕ, ◌<◌, Bool, true, false, not, ◌&&◌, ◌||◌, ◌==◌, nat_lt, nat_le, if◌then◌else◌}
use Rattle.std.specs.Prelude.{List, [], map, reverse, take, length, slice_get}
use Rattle.std.specs.Option.{MatchOption}
use Rattle.std.specs.declared.option.Option.{Option}
use Rattle.std.specs.declared.option.Option.TheVariants.{None, Some}
use Rattle.std.specs.List.{list_any}
use Rattle.x5_model.specs.Words.{when, in_option, some_and}
use Rattle.x5_model.specs.Keys.{parent, is_prefix}
use Rattle.x5_model.specs.Values.{key_of, name_above}
use Rattle.x5_model.specs.Entries.{Named}
use Rattle.x5_model_tree.specs.World.{Specific, Nssr, Agent, Agreement, World}
use Rattle.x5_model_tree.specs.Tree.{key_at, is_there, is_there_or_root}
use Rattle.x5_model_tree.specs.Masters.{Mastered, pin_of, numbered, masters, master_of, consumes, all_entries}
use Rattle.x5_model_tree.specs.Consistent.{Inconsistency, breach, NamePrinted, AgentPrinted, AgreementPrinted, in_nssr}
use Rattle.x5_model_tree.specs.Consistent.{masters_below, name_of_nssr, endless, is_supplied}
use Rattle.x5_check.specs.Numbers.{referrers_in}

-- of the member at the place: it stood there before, by its key, or isn't fit
abbrev pub unfit_at : {A K X : Type 0} → (K → K → Bool) → (A → K) → (A → Bool) → (A → X) → List A → ℕ → A → List X
unfit_at same key fit told xs place x =
    when (list_any (λ y. same (key y) (key x)) (take place xs) || not (fit x)) (told x)

abbrev pub missing_parent_part : World → Mastered → List Inconsistency
missing_parent_part w m =
    when (not (is_there_or_root (all_entries w) (parent (pin_of m))))
    (breach 2 (NamePrinted m.context.prefix) (NamePrinted (name_above m.context.prefix)))

abbrev pub endless_part : World → ℕ × Agent → List Inconsistency
endless_part w a = in_option [] (endless w a.0) a.1.superior

abbrev pub unsupplied_part : World → Agreement → List Inconsistency
unsupplied_part w g = when (not (is_supplied w g)) (breach 10 (AgreementPrinted g.number) (NamePrinted g.context))

abbrev pub shadow_part : World → Specific → List ℕ → ℕ → ℕ → List Inconsistency
shadow_part w k shadows place s =
    unfit_at ◌==◌ (λ a. a) (λ a. consumes w a (key_of k.pin))
    (λ a. breach 5 (NamePrinted k.pin) (AgentPrinted a)) shadows place s

abbrev pub member_part : World → Mastered → Nssr → List ℕ → ℕ → ℕ → List Inconsistency
member_part w m n agents place s =
    unfit_at ◌==◌ (λ a. a) (λ a. not (a == m.master) && masters_below w a (key_of n.at))
    (λ a. breach 7 (NamePrinted (name_of_nssr m.context n)) (AgentPrinted a)) agents place s

-- of a context that has the entry above a pin: its master doesn't know the pin
abbrev pub knows_at : World → Mastered → Mastered → Bool
knows_at w p m =
    masters w m.master (pin_of p) || (referrers_in (numbered w) (pin_of p) m.master
    || some_and (in_nssr m.context (parent (pin_of p))) (master_of w (pin_of p)))

abbrev pub unknown_part : World → Mastered → Mastered → List Inconsistency
unknown_part w p m =
    when (is_there m.context.entries (parent (pin_of p)) && not (knows_at w p m))
    (breach 6 (AgentPrinted m.master) (NamePrinted p.context.prefix))

-- the context's prefix is a longer prefix of the entry's name
abbrev pub is_longer : Mastered → Named → Mastered → Bool
is_longer m e p = nat_lt (length (pin_of m)) (length (pin_of p)) && is_prefix (pin_of p) (key_at e)

-- and not longer than so many RDNs
abbrev pub is_longer_within : ℕ → Mastered → Named → Mastered → Bool
is_longer_within count m e p =
    (nat_lt (length (pin_of m)) (length (pin_of p)) && nat_le (length (pin_of p)) count)
    && is_prefix (pin_of p) (key_at e)

-- the place of the first member that passes
abbrev pub IsPlace : {A : Type 0} → (A → Bool) → List A → Option ℕ → Type 0
IsPlace test xs found =
    MatchOption found ((n : ℕ) → some_and test (slice_get xs n) ≡ false)
    (λ n. (some_and test (slice_get xs n) ≡ true) × ((m : ℕ) → m < n → some_and test (slice_get xs m) ≡ false))

abbrev pub earlier : Option ℕ → Option ℕ → Option ℕ
earlier None b = b
earlier (Some a) None = Some a
earlier (Some a) (Some b) = Some (if nat_lt b a then b else a)

-- the keys of the first members, the last first
abbrev pub seen : {A K : Type 0} → (A → K) → List A → ℕ → List K
seen key xs count = reverse (map key (take count xs))
