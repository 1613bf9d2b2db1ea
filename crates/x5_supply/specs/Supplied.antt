-- What a supplier sends of a naming context, by what it holds (X.525, section 7: shadowed information; sections 9 and
-- 11: total and incremental refreshes).
use Rattle.std.specs.Prelude.{ℕ, not, nat_lt, if◌then◌else◌, List, [], ◌++◌, map}
use Rattle.std.specs.List.{filter, find}
use Rattle.std.specs.Option.{is_some, option_map}
use Rattle.std.specs.declared.option.Option.{Option}
use Rattle.std.specs.declared.option.Option.TheVariants.{None, Some}
use Rattle.std.specs.declared.result.Result.{Result}
use Rattle.std.specs.declared.result.Result.TheVariants.{Ok, Err}
use Rattle.x5_model.specs.Words.{in_option}
use Rattle.x5_model.specs.Keys.{Key, same_key, parent}
use Rattle.x5_model.specs.Values.{Name, key_of}
use Rattle.x5_model.specs.Entries.{Named}
use Rattle.x5_model_tree.specs.Tree.{is_there}
use Rattle.x5_model_run.specs.Refresh.{inactive_agreement, full_update_required}
use Rattle.x5_ops.specs.declared.knowledge.Content.{Content}
use Rattle.x5_ops.specs.declared.knowledge.Specific.{Specific}
use Rattle.x5_ops.specs.declared.knowledge.Nssr.{Nssr}
use Rattle.x5_ops.specs.declared.knowledge.Step.{Step}
use Rattle.x5_dse.specs.Linked.{entries_of}
use Rattle.x5_holdings.specs.Logs.{Log}
use Rattle.x5_holdings.specs.State.{Kept, CopyKept, State}

-- ---- what it has of a context

-- the context of this prefix that it masters, and its copy of it
abbrev pub mastered_of : State → Key → Option Kept
mastered_of s pin = find (λ c. same_key (key_of c.prefix) pin) s.own

abbrev pub copy_of : State → Key → Option CopyKept
copy_of s pin = find (λ c. same_key (key_of c.prefix) pin) s.copies

-- what refreshes brought, with its stamp: nothing of a copy that was never refreshed
abbrev pub refreshed_of : State → Key → Option (Kept × ℕ)
refreshed_of s pin = in_option None (λ c. c.refreshed) (copy_of s pin)

abbrev pub brought_of : State → Key → Option Kept
brought_of s pin = option_map (λ r. r.0) (refreshed_of s pin)

-- what it supplies the context from: as its master, or else as a consumer
abbrev pub or_else : {A : Type 0} → Option A → Option A → Option A
or_else None other = other
or_else (Some x) other = Some x

abbrev pub supplied : State → Key → Option Kept
supplied s pin = or_else (mastered_of s pin) (brought_of s pin)

-- the moment as of which it has the context: now at the master, else that of its own copy
abbrev pub stamp_of : State → Key → Option ℕ
stamp_of s pin = or_else (option_map (λ c. s.moment) (mastered_of s pin)) (option_map (λ r. r.1) (refreshed_of s pin))

-- ---- what is sent of it

-- To which context a reference belongs isn't sent along: it goes with the context.
abbrev pub reference : Specific → Specific
reference k = record { context = []; pin = k.pin; access = k.access }

abbrev pub nssr : Nssr → Nssr
nssr n = record { context = []; at = n.at; agents = n.agents }

-- to an agent alone, without shadows
abbrev pub reference_to : ℕ → Name → Specific
reference_to me pin = record { context = []; pin = pin; access = record { master = me; shadows = [] } }

-- A pin just below one of the entries that the master masters too is sent once, as a reference to it alone,
abbrev pub mastered_among : ℕ → List Named → List Kept → List Specific
mastered_among me entries own =
    map (λ c. reference_to me c.prefix) (filter (λ c. is_there entries (parent (key_of c.prefix))) own)

abbrev pub mastered_below : State → List Named → List Specific
mastered_below s entries = mastered_among s.me entries s.own

-- and the references to all other pins as the master has them.
abbrev pub others : State → List Specific → List Specific
others s ks = map reference (filter (λ k. not (is_some (mastered_of s (key_of k.pin)))) ks)

abbrev pub of_master : State → Kept → List Specific
of_master s c = mastered_below s (entries_of c.nodes.nodes) ++ others s c.subordinate

abbrev pub content_of_master : State → Kept → Content
content_of_master s c = record {
  entries = entries_of c.nodes.nodes;
  specific = of_master s c;
  nssr = map nssr c.nssrs;
}

-- a consumer sends what it was sent
abbrev pub content_of_copy : Kept → Content
content_of_copy c = record {
  entries = entries_of c.nodes.nodes;
  specific = map reference c.subordinate;
  nssr = map nssr c.nssrs;
}

-- ---- a total refresh, or its problem by number

abbrev pub or_inactive : {A : Type 0} → Option A → Result A ℕ
or_inactive None = Err inactive_agreement
or_inactive (Some x) = Ok x

abbrev pub total_of : State → Key → Result Content ℕ
total_of s pin =
    or_inactive
    (or_else (option_map (content_of_master s) (mastered_of s pin)) (option_map content_of_copy (brought_of s pin)))

-- ---- an incremental refresh, or its problem by number

-- the steps of the changes later than a moment, in their order
abbrev pub steps_later : Log → ℕ → List Step
steps_later l m = map (λ x. x.step) (filter (λ x. nat_lt m x.moment) l.changes)

-- nothing is known before the base of the log
abbrev pub steps_after : Log → Option ℕ → Result (List Step) ℕ
steps_after l None = Err full_update_required
steps_after l (Some m) = if nat_lt m l.base then Err full_update_required else Ok (steps_later l m)

abbrev pub since_from : Option Kept → Option ℕ → Result (List Step) ℕ
since_from None last = Err inactive_agreement
since_from (Some c) last = steps_after c.log last

abbrev pub since_of : State → Key → Option ℕ → Result (List Step) ℕ
since_of s pin last = since_from (supplied s pin) last
