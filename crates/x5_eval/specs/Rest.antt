-- The references for the rest of a list or search, piece by piece: those to pins below a context, and those for an NSSR
-- (X.518, section 19.3). Where a list is put in order afterwards, only the order of those that tie is of account.
use Rattle.std.specs.Prelude.{◌≡◌, ℕ, ◌+◌, Bool, true, if◌then◌else◌, List, [], ◌∷◌, ◌++◌, map, slice_get}
use Rattle.std.specs.List.{filter}
use Rattle.std.specs.List.Sorted.{ties}
use Rattle.std.specs.declared.option.Option.{Option}
use Rattle.std.specs.declared.option.Option.TheVariants.{None, Some}
use Rattle.std.specs.declared.cmp.Ordering.{Ordering}
use Rattle.std.specs.Ordering.{bool_cmp, ordering_then}
use Rattle.x5_model.specs.Members.{In}
use Rattle.x5_model.specs.Words.{in_option, last_of, some_and}
use Rattle.x5_model.specs.Keys.{Key, is_child, key_cmp}
use Rattle.x5_model.specs.Values.{Rdn, Name, key_of, last_rdn}
use Rattle.x5_model.specs.Requests.{Subset, Base, OneLevel, WholeSubtree, Request}
use Rattle.x5_model.specs.References.{Done, Reference, NonSpecific, Chained}
use Rattle.x5_model_tree.specs.World.{Specific, Nssr}
use Rattle.x5_model_tree.specs.Tree.{entry_at}
use Rattle.x5_model_run.specs.Journal.{same_spelled_rdn}
use Rattle.x5_model_run.specs.Holdings.{Held, Copy, Holdings, served}
use Rattle.x5_model_run.specs.Needs.{reference, others, answers_root, below_needs, in_scope, to_each, treated_below}
use Rattle.x5_model_run.specs.Needs.{wide_needs}
use Rattle.x5_model_heard.specs.Told.{are_agents}
use Rattle.x5_model_serve.specs.Answering.{taken_before}
use Rattle.x5_holdings.specs.Runs.{run_of}
use Rattle.x5_eval.specs.Numbers.{counts, in_reach, own_place}

-- references that name agents alone of a world that has so many
abbrev pub AreKnown : ℕ → List Reference → Type 0
AreKnown n rs = (r : Reference) → In r rs → are_agents n r.agents ≡ true

-- put in order they are one list
abbrev pub AreAlike : List Reference → List Reference → Type 0
AreAlike rs ts = (q : Reference) → filter (ties taken_before q) rs ≡ filter (ties taken_before q) ts

-- what is told of the member at a place
abbrev pub at_place : {A B : Type 0} → (A → List B) → List A → ℕ → List B
at_place f xs n = in_option [] f (slice_get xs n)

-- ---- pins

-- in the subset below a base with so many RDNs a pin has so many
abbrev pub depth_in : Subset → ℕ → Option ℕ
depth_in Base n = Some n
depth_in OneLevel n = Some (n + 1)
depth_in WholeSubtree n = None

-- the places of the names that stand at or below the base, with so many RDNs
abbrev pub places_to : List Key → Key → Option ℕ → List ℕ
places_to keys base depth = map own_place (filter (in_reach depth) (run_of keys base))

abbrev pub pin_needs : Holdings → Chained → Subset → Specific → List Reference
pin_needs h m subset k = below_needs h m subset (k ∷ [])

abbrev pub root_needs : Holdings → Chained → Subset → List Reference
root_needs h m subset = if answers_root h m then below_needs h m subset h.root else []

-- ---- NSSRs

abbrev pub wide_to : Name → List Rdn → ℕ → Reference
wide_to name exclusions a = record (reference name Done NonSpecific (a ∷ [])) { exclusions = exclusions }

abbrev pub wide_by : Name → List Rdn → ℕ → List ℕ → List Reference
wide_by name exclusions me agents = map (wide_to name exclusions) (others me agents)

-- those at an entry of this name
abbrev pub entry_needs : Holdings → Chained → Subset → Held → List ℕ → Name → List Reference
entry_needs h m subset c agents name =
    if in_scope subset (key_of m.target) (key_of name)
    then wide_by name (treated_below h m c (key_of name)) h.me agents
    else []

abbrev pub nssr_needs : Holdings → Chained → Subset → Held → Nssr → List Reference
nssr_needs h m subset c n = in_option [] (to_each h m subset c n) (entry_at c.entries (key_of n.at))

-- ---- contexts

abbrev pub context_needs : Holdings → Chained → Subset → Held → List Reference
context_needs h m subset c = below_needs h m subset c.subordinate ++ wide_needs h m subset c

-- which context it is is of no account: entries and knowledge are
abbrev pub unnamed : Held → Held
unnamed c = record c { prefix = [] }

-- ---- what an NSSR's references leave out

-- the last RDN; the root has none
abbrev pub last_in : Name → List Rdn
last_in [] = []
last_in (r ∷ rs) = last_rdn (r ∷ rs) ∷ []

abbrev pub own_last : Held → List Rdn
own_last c = last_in c.prefix

abbrev pub copy_last : Request → Holdings → Copy → List Rdn
copy_last r h k = if counts r h k then last_in k.held.prefix else []

abbrev pub pin_last : Specific → List Rdn
pin_last k = last_in k.pin

-- the pins just below an entry of a context that the agent answers itself, or asks for by a subordinate reference of
-- the context
abbrev pub treated_pins : Request → Holdings → List Specific → Key → List Name
treated_pins r h ks at = filter (λ p. is_child at (key_of p)) (map (λ d. d.prefix) (served r h) ++ map (λ k. k.pin) ks)

-- the RDN, if it isn't the same as the last of these; and so with one after the other
abbrev pub other_last : List Rdn → Rdn → List Rdn
other_last kept r = if some_and (λ x. same_spelled_rdn x r) (last_of kept) then [] else r ∷ []

abbrev pub others_last : List Rdn → List Rdn → List Rdn
others_last kept [] = kept
others_last kept (r ∷ rs) = others_last (kept ++ other_last kept r) rs

-- ---- the order in which references are asked: by their targets, and of one target specific ones first
abbrev pub taken_cmp : Key → Key → Bool → Bool → Ordering
taken_cmp a b wide other = ordering_then (key_cmp a b) (bool_cmp wide other)
