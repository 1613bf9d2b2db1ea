-- The walk that an agent makes of a list or search (X.518, section 19.3): which contexts it evaluates on the spot, each
-- once, and in which order. Depth first: a context, then in the order of their pins those that stand in the subset just
-- below one of its entries, each with all below it. Over consistent knowledge no context comes a second time; where
-- contexts overlap, so that an entry stands at or below another's pin, one may, and then the first time counts.
use Rattle.std.specs.Prelude.{ℕ, zero, suc, Bool, true, false, not, ◌&&◌, List, [], ◌∷◌, ◌++◌}
use Rattle.std.specs.List.{filter, flat_map}
use Rattle.x5_model.specs.Words.{in_option, sorted}
use Rattle.x5_model.specs.Keys.{Key, same_key, key_below, parent}
use Rattle.x5_model.specs.Values.{key_of}
use Rattle.x5_model.specs.Requests.{Subset}
use Rattle.x5_model.specs.References.{Chained}
use Rattle.x5_model_tree.specs.Tree.{is_there}
use Rattle.x5_model_tree.specs.Ask.{in_subset}
use Rattle.x5_model_run.specs.Holdings.{Held, Holdings, served}
use Rattle.x5_model_run.specs.Needs.{subset_of, begins_at}

abbrev pub pin_below : Held → Held → Bool
pin_below a b = key_below (key_of a.prefix) (key_of b.prefix)

-- of all contexts those whose pin is in the subset just below an entry of this one, in the order of their pins
abbrev pub just_under : List Held → Key → Subset → Held → List Held
just_under all base subset c =
    sorted pin_below (filter (λ d. in_subset subset base (key_of d.prefix) && is_there c.entries
    (parent (key_of d.prefix))) all)

-- a context before all below it, or behind
abbrev pub beside : Bool → Held → List Held → List Held
beside false c below = c ∷ below
beside true c below = below ++ c ∷ []

-- these contexts, each with all below it; a name has 16 RDNs at most
abbrev pub descent : Bool → ℕ → List Held → Key → Subset → List Held → List Held
descent behind zero all base subset level = level
descent behind (suc n) all base subset level =
    flat_map (λ c. beside behind c (descent behind n all base subset (just_under all base subset c))) level

-- of those with one pin the first
abbrev pub each_once : List Held → List Held
each_once [] = []
each_once (c ∷ cs) = c ∷ filter (λ d. not (same_key (key_of c.prefix) (key_of d.prefix))) (each_once cs)

abbrev pub walk : Bool → Holdings → Chained → List Held
walk behind h m = in_option [] by (subset_of m)
  where
    by : Subset → List Held
    by subset =
        each_once (descent behind 16 (served m.request h) (key_of m.target) subset
        (sorted pin_below (begins_at h m subset)))

-- the contexts in the order in which the walk comes to them, and in the order in which it leaves them
abbrev pub entered : Holdings → Chained → List Held
entered h m = walk false h m

abbrev pub left : Holdings → Chained → List Held
left h m = walk true h m
