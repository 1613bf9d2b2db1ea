-- The references that an agent needs for a message that it received: what it can't answer from what it holds (X.518,
-- sections 18 and 19: name resolution and evaluation of operations). A function of its holdings and of the message.
-- Beside a read or an update an agent needs one reference at most; a list or search may need many.
use Rattle.std.specs.Prelude.{ℕ, zero, suc, ◌+◌, ◌-◌, Bool, true, false, not, ◌&&◌, ◌==◌, nat_lt, if◌then◌else◌, List}
use Rattle.std.specs.Prelude.{[], ◌∷◌, ◌++◌, length, map, take, drop}
use Rattle.std.specs.List.{list_any, filter, find, flat_map}
use Rattle.std.specs.Option.{is_some, is_none}
use Rattle.std.specs.Result.{is_err}
use Rattle.std.specs.declared.option.Option.{Option}
use Rattle.std.specs.declared.option.Option.TheVariants.{None, Some}
use Rattle.std.specs.Ordering.{is_lt}
use Rattle.x5_model.specs.Words.{has, is_empty, in_option, when, sorted}
use Rattle.x5_model.specs.Keys.{Key, same_key, is_prefix, is_child, is_root, parent, rdn_cmp}
use Rattle.x5_model.specs.Values.{Rdn, Name, key_of, key_of_rdn, name_above, last_rdn}
use Rattle.x5_model.specs.Entries.{Named}
use Rattle.x5_model.specs.Requests.{Subset, Base, OneLevel, WholeSubtree, Body, Read, Compare, ListBelow, Search}
use Rattle.x5_model.specs.Requests.{AddEntry, RemoveEntry, ModifyEntry, ModifyDn, Request}
use Rattle.x5_model.specs.References.{Progress, Start, Next, Done, Reference, RefType, Superior, Subordinate, Cross}
use Rattle.x5_model.specs.References.{NonSpecific, Supplier, Chained}
use Rattle.x5_model.specs.Statics.{fault_of}
use Rattle.x5_model_tree.specs.World.{Specific, Nssr}
use Rattle.x5_model_tree.specs.Tree.{tree_of, is_there, entry_at, lowest}
use Rattle.x5_model_tree.specs.Ask.{Told, Shows, Compares, Lists, Finds, Changes, Refuses, in_subset, ask}
use Rattle.x5_model_tree.specs.Apply.{apply_over}
use Rattle.x5_model_run.specs.Journal.{same_name, same_spelled_rdn, is_done, is_wide}
use Rattle.x5_model_run.specs.Holdings.{Held, Copy, Holdings, ground_at, usable_agents, held_at, copy_at, served}
use Rattle.x5_model_run.specs.Holdings.{subordinates, known_pin, holds_within, is_first_level, usable_copies}

-- the target of an addEntry is the new entry's parent, of any other request it's the object or base
abbrev pub target_of : Body → Name
target_of (Read name selection) = name
target_of (Compare name assertion) = name
target_of (ListBelow name) = name
target_of (Search base subset f selection) = base
target_of (AddEntry name attributes) = name_above name
target_of (RemoveEntry name) = name
target_of (ModifyEntry name changes) = name
target_of (ModifyDn name rdn drops) = name

abbrev pub others : ℕ → List ℕ → List ℕ
others me agents = filter (λ a. not (a == me)) agents

abbrev pub reference : Name → Progress → RefType → List ℕ → Reference
reference target progress kind agents =
    record { target = target; progress = progress; kind = kind; agents = agents; exclusions = []; tried = false }

-- with nextRDNToBeResolved k the first k - 1 RDNs are spelled as the agent keeps them, the others as they were received
abbrev pub proceeding : ℕ → Name → Name → RefType → List ℕ → Reference
proceeding k kept name kind agents = reference (take (k - 1) kept ++ drop (k - 1) name) (Next k) kind agents

-- whether the receiver resolves the name: with `next=k` it holds a context on the way with at least k RDNs; a completed
-- name isn't resolved any more
abbrev pub resolves_by : Holdings → Key → Progress → Bool
resolves_by h target Start = true
resolves_by h target (Next k) = holds_within h target k
resolves_by h target Done = false

abbrev pub resolves : Holdings → Chained → Bool
resolves h m = resolves_by h (key_of m.target) m.progress

-- The receiver is unable to proceed: it was asked by a nonSpecific reference, and holds nothing on the way that goes as
-- far.
abbrev pub falls_short : Holdings → Key → Progress → Bool
falls_short h target Start = false
falls_short h target (Next k) = not (holds_within h target k)
falls_short h target Done = false

abbrev pub is_unable : Holdings → Chained → Bool
is_unable h m =
    nat_lt (length m.trace) 128 && (is_none (fault_of m.request.body)
    && (is_wide m.kind && falls_short h (key_of m.target) m.progress))

-- 1. No pin on the way is known: the superior.
abbrev pub to_superior : Name → ℕ → List Reference
to_superior target s = reference target Start Superior (s ∷ []) ∷ []

abbrev pub superior_needs : Holdings → Chained → List Reference
superior_needs h m = in_option [] (to_superior m.target) h.superior

-- 2. The longest known pin is mastered here, its lowest entry on the way isn't the name, and an NSSR at that entry
-- lists other agents: these.
abbrev pub nssr_at : List Nssr → Key → Option Nssr
nssr_at nssrs at = find (λ n. same_key (key_of n.at) at) nssrs

abbrev pub to_nssr : Holdings → Chained → Named → Nssr → List Reference
to_nssr h m e n =
    when (not (same_name e.name m.target) && not (is_empty (others h.me n.agents)))
    (proceeding (length e.name + 1) e.name m.target NonSpecific (others h.me n.agents))

abbrev pub from_lowest : Holdings → Chained → Held → Named → List Reference
from_lowest h m c e = in_option [] (to_nssr h m e) (nssr_at c.nssrs (key_of e.name))

abbrev pub multicast_needs : Holdings → Chained → Held → List Reference
multicast_needs h m c = in_option [] (from_lowest h m c) (lowest c.entries (key_of m.target))

-- 3. It is consumed here and not mastered, and the copy can't be used, lacks the name or gives an error: the supplier.
abbrev pub fails : Told → Bool
fails (Shows info) = false
fails (Compares equal copy) = false
fails (Lists subs cut) = false
fails (Finds infos cut) = false
fails Changes = false
fails (Refuses x) = true

abbrev pub copy_answers : Holdings → Chained → Copy → Bool
copy_answers h m c =
    is_some (held_at (usable_copies m.request h) (key_of c.held.prefix))
    && (is_there c.held.entries (key_of m.target) && not (fails (ask (tree_of c.held.entries []) m.request)))

abbrev pub supplier_needs : Holdings → Chained → Copy → List Reference
supplier_needs h m c =
    when (not (copy_answers h m c)) (proceeding (length c.held.prefix) c.held.prefix m.target Supplier (c.supplier
    ∷ []))

-- 4. It is known by references alone: a subordinate one before a cross one.
abbrev pub specific_at : List Specific → Key → Option Specific
specific_at ks p = find (λ k. same_key (key_of k.pin) p) ks

abbrev pub to_specific : Chained → RefType → Specific → List Reference
to_specific m kind k = proceeding (length k.pin) k.pin m.target kind (usable_agents m.request k.access) ∷ []

abbrev pub specific_needs : Holdings → Chained → Key → List Reference
specific_needs h m p =
    in_option (in_option [] (to_specific m Cross) (specific_at h.cross p)) (to_specific m Subordinate)
    (specific_at (subordinates m.request h) p)

abbrev pub foreign_needs : Holdings → Chained → Key → List Reference
foreign_needs h m p = in_option (specific_needs h m p) (supplier_needs h m) (copy_at h p)

abbrev pub known_needs : Holdings → Chained → Key → List Reference
known_needs h m p = in_option (foreign_needs h m p) (multicast_needs h m) (held_at h.own p)

abbrev pub pin_needs : Holdings → Chained → Option Key → List Reference
pin_needs h m pin = in_option (superior_needs h m) (known_needs h m) pin

abbrev pub resolution_needs : Holdings → Chained → List Reference
resolution_needs h m = if resolves h m then pin_needs h m (known_pin m.request h (key_of m.target)) else []

-- The resolution ends here: the name is in the mastered context of the longest known pin, or in a copy of it that
-- answers; or it is the root, and a first-level agent knows no pin on the way.
abbrev pub ends_at_pin : Holdings → Chained → Key → Bool
ends_at_pin h m p =
    in_option (in_option false (copy_answers h m) (copy_at h p)) (λ c. is_there c.entries (key_of m.target))
    (held_at h.own p)

abbrev pub ends_here : Holdings → Chained → Bool
ends_here h m =
    resolves h m
    && in_option (is_first_level h && is_root (key_of m.target)) (ends_at_pin h m)
    (known_pin m.request h (key_of m.target))

-- What a list or search looks at below its base, which is the target. A list looks just below; where it came by a
-- reference to a pin it asks for that pin's own RDN, and looks at nothing below.
abbrev pub by_pin : Chained → Bool
by_pin m = is_done m.progress && not (is_wide m.kind)

abbrev pub subset_in : Bool → Body → Option Subset
subset_in pinned (Read name selection) = None
subset_in pinned (Compare name assertion) = None
subset_in pinned (ListBelow name) = if pinned then Some Base else Some OneLevel
subset_in pinned (Search base subset f selection) = Some subset
subset_in pinned (AddEntry name attributes) = None
subset_in pinned (RemoveEntry name) = None
subset_in pinned (ModifyEntry name changes) = None
subset_in pinned (ModifyDn name rdn drops) = None

abbrev pub subset_of : Chained → Option Subset
subset_of m = subset_in (by_pin m) m.request.body

-- it is excluded from what a nonSpecific reference asks
abbrev pub is_excluded : List Rdn → Name → Bool
is_excluded exclusions pin = has same_spelled_rdn exclusions (last_rdn pin)

-- the contexts at which the agent's part of a list or search begins: those just below the entry of a nonSpecific
-- reference, the one that a reference to a pin names, or the one in which the base was found
abbrev pub found_at_root : Holdings → Chained → Subset → List Held
found_at_root h m subset =
    if is_first_level h && is_root (key_of m.target)
    then filter (λ c. (length c.prefix == 1) && in_subset subset (key_of m.target) (key_of c.prefix))
    (served m.request h)
    else []

abbrev pub found_in : Holdings → Chained → Key → List Held
found_in h m p = filter (λ c. same_key (key_of c.prefix) p && is_there c.entries (key_of m.target)) (served m.request h)

abbrev pub found_by_name : Holdings → Chained → Subset → List Held
found_by_name h m subset =
    if resolves h m then in_option (found_at_root h m subset) (found_in h m) (known_pin m.request h (key_of m.target))
    else []

abbrev pub found_below : Holdings → Chained → Subset → List Held
found_below h m subset =
    filter (λ c. is_child (key_of m.target) (key_of c.prefix)
    && (in_subset subset (key_of m.target) (key_of c.prefix) && not (is_excluded m.exclusions c.prefix))) h.own

abbrev pub found_at_pin : Holdings → Chained → List Held
found_at_pin h m = filter (λ c. same_key (key_of c.prefix) (key_of m.target)) (served m.request h)

abbrev pub begins_by : Holdings → Chained → Subset → Progress → List Held
begins_by h m subset Start = found_by_name h m subset
begins_by h m subset (Next k) = found_by_name h m subset
begins_by h m subset Done = if is_wide m.kind then found_below h m subset else found_at_pin h m

abbrev pub begins_at : Holdings → Chained → Subset → List Held
begins_at h m subset = begins_by h m subset m.progress

-- with these contexts, those whose pin is in the subset just below an entry of one, and so on; a name has 16 RDNs at
-- most
abbrev pub and_below : ℕ → List Held → Key → Subset → List Held → List Held
and_below zero all base subset level = level
and_below (suc n) all base subset level =
    if is_empty level then []
    else level ++ and_below n all base subset (filter (λ c. in_subset subset base (key_of c.prefix)
    && list_any (λ d. is_there d.entries (parent (key_of c.prefix))) level) all)

-- the contexts that the agent evaluates on the spot
abbrev pub evaluated : Holdings → Chained → List Held
evaluated h m = in_option [] (λ subset. and_below 16 (served m.request h) (key_of m.target) subset
    (begins_at h m subset)) (subset_of m)

-- the base is the root, and the agent answers it itself
abbrev pub answers_root : Holdings → Chained → Bool
answers_root h m =
    is_some (subset_of m)
    && (is_first_level h && (is_root (key_of m.target)
    && (resolves h m && is_none (known_pin m.request h (key_of m.target)))))

-- 5. A pin in the subset just below an entry of an evaluated context, or of the root, that isn't evaluated here, and a
-- subordinate reference to it: that one.
abbrev pub below_needs : Holdings → Chained → Subset → List Specific → List Reference
below_needs h m subset ks =
    map (λ k. reference k.pin Done Subordinate (usable_agents m.request k.access))
    (filter (λ k. in_subset subset (key_of m.target) (key_of k.pin)
    && is_none (held_at (served m.request h) (key_of k.pin))) ks)

-- 6. An entry in scope with an NSSR, in an evaluated context: each other agent by itself. Pins just below the entry
-- that are evaluated here or asked for by a subordinate reference are excluded.
abbrev pub in_scope : Subset → Key → Key → Bool
in_scope Base base at = false
in_scope OneLevel base at = same_key base at
in_scope WholeSubtree base at = is_prefix base at

abbrev pub rdn_below : Rdn → Rdn → Bool
rdn_below a b = is_lt (rdn_cmp (key_of_rdn a) (key_of_rdn b))

-- of those with one key the first
abbrev pub once : List Rdn → List Rdn
once [] = []
once (r ∷ rs) = r ∷ filter (λ x. not (same_spelled_rdn r x)) (once rs)

abbrev pub treated_below : Holdings → Chained → Held → Key → List Rdn
treated_below h m c at =
    sorted rdn_below (once (map last_rdn (filter (λ p. is_child at (key_of p)) (map (λ d. d.prefix) (served m.request h)
    ++ map (λ k. k.pin) c.subordinate))))

abbrev pub to_each : Holdings → Chained → Subset → Held → Nssr → Named → List Reference
to_each h m subset c n e =
    if in_scope subset (key_of m.target) (key_of e.name)
    then map (λ a. record (reference e.name Done NonSpecific (a ∷ [])) {
      exclusions = treated_below h m c
          (key_of e.name);
    }) (others h.me n.agents)
    else []

abbrev pub wide_needs : Holdings → Chained → Subset → Held → List Reference
wide_needs h m subset c =
    flat_map (λ n. in_option [] (to_each h m subset c n) (entry_at c.entries (key_of n.at))) c.nssrs

abbrev pub subset_needs : Holdings → Chained → Subset → List Reference
subset_needs h m subset =
    (if answers_root h m then below_needs h m subset h.root else [])
    ++ flat_map (λ c. below_needs h m subset c.subordinate ++ wide_needs h m subset c) (evaluated h m)

abbrev pub part_needs : Holdings → Chained → List Reference
part_needs h m = in_option [] (subset_needs h m) (subset_of m)

-- 7. A list or search came by a reference to a pin, and here is only a copy of the context, which can't be used: the
-- supplier.
abbrev pub to_supplier : Holdings → Chained → Copy → List Reference
to_supplier h m c =
    when (is_none (held_at (served m.request h) (key_of m.target))) (reference m.target Done Supplier (c.supplier ∷ []))

abbrev pub copied_needs : Holdings → Chained → List Reference
copied_needs h m =
    if by_pin m && is_some (subset_of m) then in_option [] (to_supplier h m) (copy_at h (key_of m.target)) else []

-- 8. Probes. An addEntry, or a modifyDN to another key, is at its master and nothing that the master knows refuses it,
-- and the parent has an NSSR: its other agents, since one of them may have the new name (X.518, section 19.1).
abbrev pub new_name : Body → Option Name
new_name (Read name selection) = None
new_name (Compare name assertion) = None
new_name (ListBelow name) = None
new_name (Search base subset f selection) = None
new_name (AddEntry name attributes) = Some name
new_name (RemoveEntry name) = None
new_name (ModifyEntry name changes) = None
new_name (ModifyDn name rdn drops) =
    if same_name (name_above name ++ rdn ∷ []) name then None else Some (name_above name ++ rdn ∷ [])

-- what the master knows refuses the update
abbrev pub is_refused_here : Holdings → Request → Bool
is_refused_here h r = is_err (apply_over (ground_at r h) r.body)

abbrev pub probe_by : Holdings → Name → Named → Nssr → List Reference
probe_by h name e n =
    when (not (is_empty (others h.me n.agents))) (proceeding (length name) e.name name NonSpecific
    (others h.me n.agents))

abbrev pub probe_from : Holdings → Name → Held → Named → List Reference
probe_from h name c e = in_option [] (probe_by h name e) (nssr_at c.nssrs (key_of e.name))

abbrev pub probe_of : Holdings → Name → Held → List Reference
probe_of h name c = in_option [] (probe_from h name c) (entry_at c.entries (parent (key_of name)))

abbrev pub probe_at_master : Holdings → Chained → Name → Held → List Reference
probe_at_master h m name c =
    if is_there c.entries (key_of m.target) && not (is_refused_here h m.request) then probe_of h name c else []

abbrev pub probe_due : Holdings → Chained → Name → List Reference
probe_due h m name =
    if resolves h m
    then in_option [] (λ p. in_option [] (probe_at_master h m name) (held_at h.own p))
    (known_pin m.request h (key_of m.target))
    else []

abbrev pub probe_needs : Holdings → Chained → List Reference
probe_needs h m = in_option [] (probe_due h m) (new_name m.request.body)

-- All of these. For what is refused at once, by the request alone, nothing is needed.
abbrev pub passing_needs : Holdings → Chained → List Reference
passing_needs h m =
    if is_some (fault_of m.request.body) then [] else resolution_needs h m ++ part_needs h m ++ copied_needs h m

abbrev pub due_probes : Holdings → Chained → List Reference
due_probes h m = if is_some (fault_of m.request.body) then [] else probe_needs h m

abbrev pub needs : Holdings → Chained → List Reference
needs h m = passing_needs h m ++ due_probes h m
