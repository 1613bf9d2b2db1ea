-- The first name, in the order of the file, that refers to an agent and is no agent's. It counts once all else is as it
-- must be; so what isn't of the right type is passed over here.
use Rattle.std.specs.Prelude.{ℕ, ◌+◌, if◌then◌else◌, List, Option, Some, None, option_and_then, codes}
use Rattle.serde_json.specs.Data.{Data, Items, no_items, item}
use Rattle.serde_json.specs.Find.{get, as_str, as_array}
use Rattle.x5_model.specs.Values.{Text}
use Rattle.x5_know.specs.Names.{has_name}
use Rattle.x5_model_world.specs.Reading.{at, nth}

-- the first path of two
abbrev pub first_of_two : Option Text → Option Text → Option Text
first_of_two None q = q
first_of_two (Some p) q = Some p

abbrev pub unknown_name : List Text → Text → Option Text → Option Text
unknown_name names path None = None
unknown_name names path (Some t) = if has_name names t then None else Some path

abbrev pub unknown_at : List Text → Text → Text → Data → Option Text
unknown_at names path name d = unknown_name names (at path name) (option_and_then as_str (get name d))

-- the members of a list, if it's one
abbrev pub or_no_items : Option Items → Items
or_no_items None = no_items
or_no_items (Some items) = items

abbrev pub items_at : Text → Data → Items
items_at name d = or_no_items (option_and_then as_array (get name d))

-- the first of a list's members, from the place i on
abbrev pub first_in : (Text → Data → Option Text) → Text → ℕ → Items → Option Text
first_in unknown path i no_items = None
first_in unknown path i (item d ds) = first_of_two (unknown (nth path i) d) (first_in unknown path (i + 1) ds)

abbrev pub first_at : (Text → Data → Option Text) → Text → Text → Data → Option Text
first_at unknown path name d = first_in unknown (at path name) 0 (items_at name d)

-- names of agents in a list
abbrev pub unknown_text : List Text → Text → Data → Option Text
unknown_text names path d = unknown_name names path (as_str d)

abbrev pub unknown_in_nssr : List Text → Text → Data → Option Text
unknown_in_nssr names path d = first_at (unknown_text names) path (codes "agents") d

abbrev pub unknown_in_context : List Text → Text → Data → Option Text
unknown_in_context names path d = first_at (unknown_in_nssr names) path (codes "nssr") d

abbrev pub unknown_in_reference : List Text → Text → Data → Option Text
unknown_in_reference names path d =
    first_of_two (unknown_at names path (codes "master") d) (first_at (unknown_text names) path (codes "shadows") d)

abbrev pub unknown_in_agent : List Text → Text → Data → Option Text
unknown_in_agent names path d =
    first_of_two (unknown_at names path (codes "superior") d)
    (first_of_two (first_at (unknown_in_context names) path (codes "contexts") d)
    (first_at (unknown_in_reference names) path (codes "refs") d))

abbrev pub unknown_in_agreement : List Text → Text → Data → Option Text
unknown_in_agreement names path d =
    first_of_two (unknown_at names path (codes "supplier") d) (unknown_at names path (codes "consumer") d)

-- the two agents of a pair stand at the places 0 and 1
abbrev pub unknown_in_pair : List Text → Text → Data → Option Text
unknown_in_pair names path d = first_in (unknown_text names) path 0 (or_no_items (as_array d))

abbrev pub unknown_in_network : List Text → Option Data → Option Text
unknown_in_network names None = None
unknown_in_network names (Some d) =
    first_of_two (first_at (unknown_text names) (codes "/network") (codes "down") d)
    (first_of_two (first_at (unknown_text names) (codes "/network") (codes "refuse") d)
    (first_at (unknown_in_pair names) (codes "/network") (codes "cut") d))

-- the first of the world; the whole file's path is the empty text
abbrev pub unknown_in_world : List Text → Data → Option Text
unknown_in_world names d =
    first_of_two (first_at (unknown_in_agent names) (codes "") (codes "agents") d)
    (first_of_two (first_at (unknown_in_agreement names) (codes "") (codes "agreements") d)
    (unknown_in_network names (get (codes "network") d)))
