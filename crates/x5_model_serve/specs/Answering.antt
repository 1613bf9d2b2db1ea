-- What an agent answers from what it holds, and how the parts of a list or search are joined (X.518, section 19).
use Rattle.std.specs.Prelude.{ℕ, ◌-◌, Bool, true, false, not, ◌&&◌, ◌||◌, ◌==◌, if◌then◌else◌, List, [], ◌∷◌, ◌++◌, map}
use Rattle.std.specs.Prelude.{take}
use Rattle.std.specs.List.{filter, flat_map, list_any}
use Rattle.std.specs.Option.{is_some}
use Rattle.std.specs.declared.option.Option.{Option}
use Rattle.std.specs.declared.option.Option.TheVariants.{None, Some}
use Rattle.x5_model.specs.Words.{in_option, ascending, sorted}
use Rattle.x5_model.specs.Keys.{same_key, key_below}
use Rattle.x5_model.specs.Values.{Name, key_of}
use Rattle.x5_model.specs.Filters.{Filter}
use Rattle.x5_model.specs.Truth.{selects_entry}
use Rattle.x5_model.specs.Requests.{Subset, Selection, Body, ListBelow, Search}
use Rattle.x5_model.specs.References.{Progress, Start, Next, Done, Reference, Chained}
use Rattle.x5_model.specs.Answers.{EntryInfo, Sub, Source, Outcome, Answer, EntryFound, Matched, Listed, Found, Changed}
use Rattle.x5_model.specs.Answers.{ServiceProblem, Reply, Answered, Failed}
use Rattle.x5_model.specs.Problems.{unavailable}
use Rattle.x5_model_tree.specs.Tree.{key_at, tree_of}
use Rattle.x5_model_tree.specs.Ask.{Told, Shows, Compares, Lists, Finds, Changes, Refuses, unexplored_of, limited}
use Rattle.x5_model_tree.specs.Ask.{is_cut, info_of, sub_of, ask_marked}
use Rattle.x5_model_run.specs.Journal.{is_wide}
use Rattle.x5_model_run.specs.Holdings.{Held, Copy, Holdings, copy_at, masters_pin}
use Rattle.x5_model_run.specs.Needs.{subset_of, answers_root, below_needs, wide_needs}
use Rattle.x5_model_parts.specs.Parts.{asks_for}
use Rattle.x5_model_serve.specs.Walking.{entered, left}

-- an answer with the contexts that it comes from
abbrev pub reply_from : List Source → Told → Reply
reply_from sources (Shows info) = by sources
  where
    by : List Source → Reply
    by [] = Failed (ServiceProblem unavailable None None)
    by (s ∷ more) = Answered (EntryFound info s)
reply_from sources (Compares equal copy) = by sources
  where
    by : List Source → Reply
    by [] = Failed (ServiceProblem unavailable None None)
    by (s ∷ more) = Answered (Matched equal copy s)
reply_from sources (Lists subs cut) = Answered (Listed subs sources (record { limited = cut; unexplored = [] }))
reply_from sources (Finds infos cut) = Answered (Found infos sources (record { limited = cut; unexplored = [] }))
reply_from sources Changes = Answered Changed
reply_from sources (Refuses x) = Failed x

-- a read or compare at a context that it masters, or at a copy
abbrev pub own_source : ℕ → Held → Source
own_source me c = record { context = c.prefix; agent = me; moment = None }

abbrev pub copy_source : ℕ → Copy → Source
copy_source me c = record { context = c.held.prefix; agent = me; moment = c.stamp }

abbrev pub reply_in_own : ℕ → Chained → Held → Reply
reply_in_own me m c = reply_from (own_source me c ∷ []) (ask_marked (λ key. false) (tree_of c.entries []) m.request)

abbrev pub reply_in_copy : ℕ → Chained → Copy → Reply
reply_in_copy me m c =
    reply_from (copy_source me c ∷ []) (ask_marked (λ key. true) (tree_of c.held.entries []) m.request)

-- The local part of a list or search, without a limit: of each context that the walk comes to, its entries that are
-- asked for, as that context has them; of two with one key the later one is dropped. The contexts are the sources, in
-- the order of the walk.
abbrev pub stamp_at : Holdings → Held → Option ℕ
stamp_at h c =
    if masters_pin h (key_of c.prefix) then None else in_option None (λ x. x.stamp) (copy_at h (key_of c.prefix))

abbrev pub local_sources : Holdings → Chained → List Source
local_sources h m = map (λ c. record { context = c.prefix; agent = h.me; moment = stamp_at h c }) (entered h m)

abbrev pub subs_in : Holdings → Chained → Held → List Sub
subs_in h m c = map (sub_of (λ key. is_some (stamp_at h c))) (filter (λ e. asks_for m (key_at e)) c.entries)

abbrev pub infos_in : Holdings → Chained → Filter → Selection → Held → List EntryInfo
infos_in h m f selection c =
    map (info_of (λ key. is_some (stamp_at h c)) selection)
    (filter (λ e. asks_for m (key_at e) && selects_entry f e.entry) c.entries)

-- of those of which neither is below the other the first
abbrev pub first_each : {X : Type 0} → (X → X → Bool) → List X → List X
first_each below [] = []
first_each below (x ∷ xs) = x ∷ filter (λ y. below x y || below y x) (first_each below xs)

abbrev pub before_sub : Sub → Sub → Bool
before_sub a b = key_below (key_of (a.rdn ∷ [])) (key_of (b.rdn ∷ []))

abbrev pub before_info : EntryInfo → EntryInfo → Bool
before_info a b = key_below (key_of a.name) (key_of b.name)

-- no other request has parts
abbrev pub told_in : Holdings → Chained → Body → Told
told_in h m (ListBelow name) =
    Lists (sorted before_sub (first_each before_sub (flat_map (subs_in h m) (entered h m)))) false
told_in h m (Search base subset f selection) =
    Finds (sorted before_info (first_each before_info (flat_map (infos_in h m f selection) (entered h m)))) false
told_in h m other = Refuses (ServiceProblem unavailable None None)

abbrev pub local_told : Holdings → Chained → Told
local_told h m = told_in h m m.request.body

abbrev pub local_part : Holdings → Chained → Reply
local_part h m = reply_from (local_sources h m) (local_told h m)

abbrev pub unlimited : Chained → Chained
unlimited m = record m { request = record m.request { controls = record m.request.controls { size = None } } }

-- The references for the rest, by their targets; at one target specific ones come first. Among equals the order is that
-- in which the walk leaves their contexts: a context's NSSRs come after all below it; and so does a reference to a pin
-- that a context below knows of too, since by their keys the pins on the way to it come before it.
abbrev pub taken_before : Reference → Reference → Bool
taken_before a b =
    key_below (key_of a.target) (key_of b.target)
    || (same_key (key_of a.target) (key_of b.target) && (not (is_wide a.kind) && is_wide b.kind))

abbrev pub walked_needs : Holdings → Chained → List Reference
walked_needs h m = in_option [] by (subset_of m)
  where
    by : Subset → List Reference
    by subset =
        (if answers_root h m then below_needs h m subset h.root else [])
        ++ flat_map (λ c. below_needs h m subset c.subordinate ++ wide_needs h m subset c) (left h m)

abbrev pub rest_of_parts : Holdings → Chained → List Reference
rest_of_parts h m = sorted taken_before (walked_needs h m)

-- its entries or names are in the order of their keys
abbrev pub is_in_order : Answer → Bool
is_in_order (Listed subs sources o) = ascending before_sub subs
is_in_order (Found infos sources o) = ascending before_info infos
is_in_order other = true

-- joined by key, of two with one key the earlier part's
abbrev pub joined : {X : Type 0} → (X → X → Bool) → List X → List X → List X
joined below xs ys = sorted below (xs ++ filter (λ y. not (list_any (λ x. not (below x y) && not (below y x)) xs)) ys)

abbrev pub both_outcomes : Outcome → Outcome → Outcome
both_outcomes a b = record { limited = a.limited || b.limited; unexplored = a.unexplored ++ b.unexplored }

abbrev pub merged : Answer → Answer → Answer
merged (Listed subs sources o) (Listed more others q) =
    Listed (joined before_sub subs more) (sources ++ others) (both_outcomes o q)
merged (Found infos sources o) (Found more others q) =
    Found (joined before_info infos more) (sources ++ others) (both_outcomes o q)
merged a b = a

abbrev pub with_unexplored : List Reference → Answer → Answer
with_unexplored rs (Listed subs sources o) = Listed subs sources (record o { unexplored = o.unexplored ++ rs })
with_unexplored rs (Found infos sources o) = Found infos sources (record o { unexplored = o.unexplored ++ rs })
with_unexplored rs other = other

abbrev pub only_unexplored : List Reference → Answer → Answer
only_unexplored rs (Listed subs sources o) = Listed subs sources (record o { unexplored = rs })
only_unexplored rs (Found infos sources o) = Found infos sources (record o { unexplored = rs })
only_unexplored rs other = other

-- the size limit, last of all
abbrev pub limited_answer : Option ℕ → Answer → Answer
limited_answer size (Listed subs sources o) =
    Listed (limited size subs) sources (record o { limited = o.limited || is_cut size subs })
limited_answer size (Found infos sources o) =
    Found (limited size infos) sources (record o { limited = o.limited || is_cut size infos })
limited_answer size other = other

-- what is left to be followed of a reply
abbrev pub to_follow : Answer → List Reference
to_follow a = filter (λ r. not r.tried) (unexplored_of a)

abbrev pub passed_by : Answer → List Reference
passed_by a = filter (λ r. r.tried) (unexplored_of a)

-- service errors that carry a reference
abbrev pub is_service : ℕ → Reply → Bool
is_service n (Failed (ServiceProblem k r i)) = by k n
  where
    by : ℕ → ℕ → Bool
    by a b = a == b
is_service n other = false

abbrev pub in_vain : Reference → Reference
in_vain r = record r { tried = true }

abbrev pub of_these : List ℕ → Reference → Reference
of_these agents r = record r { agents = agents; tried = true }

abbrev pub is_unavailable : Reference → Reply
is_unavailable r = Failed (ServiceProblem unavailable (Some r) None)

-- the name above what a nonSpecific reference still has to resolve, as its owner spells it
abbrev pub above_next : Reference → Name
above_next r = by r.progress
  where
    by : Progress → Name
    by Start = []
    by (Next k) = take (k - 1) r.target
    by Done = r.target
