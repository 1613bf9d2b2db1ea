-- The contexts that an agent holds by numbers: those that it masters by their places, its copies behind them (X.518,
-- section 19.3: evaluation of list and search). The numbers are this project's own.
use Rattle.std.specs.Prelude.{ℕ, ◌+◌, ◌-◌, nat_lt, Bool, true, not, ◌&&◌, ◌||◌, ◌==◌, if◌then◌else◌, List, [], ◌++◌}
use Rattle.std.specs.Prelude.{length, map, slice_get}
use Rattle.std.specs.List.{filter}
use Rattle.std.specs.Option.{is_some}
use Rattle.std.specs.declared.option.Option.{Option}
use Rattle.std.specs.declared.option.Option.TheVariants.{None, Some}
use Rattle.x5_model.specs.Words.{in_option, sorted}
use Rattle.x5_model.specs.Keys.{Key, key_below, is_prefix, parent}
use Rattle.x5_model.specs.Values.{Name, key_of}
use Rattle.x5_model.specs.Requests.{Subset, Request}
use Rattle.x5_model_tree.specs.Tree.{is_there}
use Rattle.x5_model_tree.specs.Ask.{in_subset}
use Rattle.x5_model_run.specs.Holdings.{Held, Copy, Holdings, may_copy, masters_pin}
use Rattle.x5_holdings.specs.Rows.{KeyRow, numbered}
use Rattle.x5_holdings.specs.Runs.{run_of, is_long}

abbrev pub own_pins : Holdings → List Key
own_pins h = map (λ c. key_of c.prefix) h.own

abbrev pub copy_pins : Holdings → List Key
copy_pins h = map (λ c. key_of c.held.prefix) h.copies

-- what stands at a number; nothing is past the last
abbrev pub no_context : Held
no_context = record { prefix = []; entries = []; subordinate = []; nssrs = [] }

abbrev pub no_copy : Copy
no_copy = record { held = no_context; stamp = None; supplier = 0 }

abbrev pub copy_number : Holdings → ℕ → Copy
copy_number h n = in_option no_copy (λ k. k) (slice_get h.copies (n - length h.own))

abbrev pub held_number : Holdings → ℕ → Held
held_number h n = in_option (copy_number h n).held (λ c. c) (slice_get h.own n)

abbrev pub pin_number : Holdings → ℕ → Key
pin_number h n = key_of (held_number h n).prefix

-- its prefix, as it's spelled where it stands; past the last another name
abbrev pub prefix_number : Holdings → Name → ℕ → Name
prefix_number h other n =
    in_option (in_option other (λ k. k.held.prefix) (slice_get h.copies (n - length h.own))) (λ c. c.prefix)
    (slice_get h.own n)

-- something is held there, and of when it is: a copy's stamp
abbrev pub is_held : Holdings → ℕ → Bool
is_held h n = nat_lt n (length h.own) || is_some (copy_number h n).stamp

abbrev pub stamp_number : Holdings → ℕ → Option ℕ
stamp_number h n = if nat_lt n (length h.own) then None else (copy_number h n).stamp

-- the request may be answered from the copy, and its context isn't mastered
abbrev pub counts : Request → Holdings → Copy → Bool
counts r h k = may_copy r && (is_some k.stamp && not (masters_pin h (key_of k.held.prefix)))

abbrev pub own_place : KeyRow → ℕ
own_place row = row.1

abbrev pub copy_place : Holdings → KeyRow → ℕ
copy_place h row = length h.own + row.1

abbrev pub own_numbers : Holdings → List ℕ
own_numbers h = map own_place (numbered (own_pins h))

abbrev pub copy_numbers : Holdings → List ℕ
copy_numbers h = map (copy_place h) (numbered (copy_pins h))

abbrev pub served_numbers : Request → Holdings → List ℕ
served_numbers r h = own_numbers h ++ filter (λ n. counts r h (copy_number h n)) (copy_numbers h)

abbrev pub number_below : Holdings → ℕ → ℕ → Bool
number_below h m n = key_below (pin_number h m) (pin_number h n)

-- those in the subset whose pins stand just below an entry of the context
abbrev pub is_under : Holdings → Key → Subset → Held → ℕ → Bool
is_under h base subset c n = in_subset subset base (pin_number h n) && is_there c.entries (parent (pin_number h n))

abbrev pub numbers_under : Request → Holdings → Key → Subset → ℕ → List ℕ
numbers_under r h base subset n =
    sorted (number_below h) (filter (is_under h base subset (held_number h n)) (served_numbers r h))

-- ---- those that rows of pins lead to

-- the rows with so many RDNs, or all
abbrev pub in_reach : Option ℕ → KeyRow → Bool
in_reach None row = true
in_reach (Some depth) row = is_long depth row

abbrev pub own_reach : Holdings → Key → Option ℕ → List ℕ
own_reach h at depth = map own_place (filter (in_reach depth) (run_of (own_pins h) at))

abbrev pub copy_reach : Request → Holdings → Key → Option ℕ → List ℕ
copy_reach r h at depth =
    filter (λ n. counts r h (copy_number h n)) (map (copy_place h) (filter (in_reach depth) (run_of (copy_pins h) at)))

abbrev pub served_reach : Request → Holdings → Key → Option ℕ → List ℕ
served_reach r h at depth = own_reach h at depth ++ copy_reach r h at depth

-- the pin stands there, with so many RDNs
abbrev pub reaches : Key → Option ℕ → Key → Bool
reaches at None pin = is_prefix at pin
reaches at (Some depth) pin = is_prefix at pin && (length pin == depth)
