-- What a query touches, what unexplored references leave out of its answer, and what its sources together would answer
-- (X.511, sections 9 and 10; X.518, section 19.3).
use Rattle.std.specs.Prelude.{ℕ, Bool, true, not, ◌&&◌, ◌||◌, ◌==◌, if◌then◌else◌, List, [], ◌∷◌, ◌++◌, map}
use Rattle.std.specs.List.{list_any, filter, flat_map}
use Rattle.std.specs.Option.{is_some}
use Rattle.std.specs.declared.option.Option.{Option}
use Rattle.std.specs.declared.option.Option.TheVariants.{None, Some}
use Rattle.x5_model.specs.Words.{has, in_option, some_and}
use Rattle.x5_model.specs.Keys.{Key, same_key, is_prefix, is_child}
use Rattle.x5_model.specs.Values.{Name, key_of}
use Rattle.x5_model.specs.Entries.{Named}
use Rattle.x5_model.specs.Requests.{Subset, OneLevel, Body, Read, Compare, ListBelow, Search, AddEntry, RemoveEntry}
use Rattle.x5_model.specs.Requests.{ModifyEntry, ModifyDn, Request}
use Rattle.x5_model.specs.References.{Reference, Chained}
use Rattle.x5_model.specs.Answers.{Source}
use Rattle.x5_model_tree.specs.World.{World}
use Rattle.x5_model_tree.specs.Tree.{Tree, tree_of, longest, part, entry_at}
use Rattle.x5_model_tree.specs.Masters.{Mastered, pin_of, mastered}
use Rattle.x5_model_tree.specs.Ask.{Told, in_subset, just_below, searched, limited_list, limited_found, ask_marked}
use Rattle.x5_model_run.specs.Journal.{is_done, is_wide}
use Rattle.x5_model_run.specs.Needs.{by_pin, is_excluded}
use Rattle.x5_model_run.specs.History.{Point, tree_at, tree_of_moment}

-- The names at which the subtrees begin that a reference covers: its target; for a nonSpecific one with progress done
-- those pins just below its target that one of its agents masters and that it doesn't exclude.
abbrev pub is_below_wide : Reference → Mastered → Bool
is_below_wide r m =
    is_child (key_of r.target) (pin_of m) && (has ◌==◌ r.agents m.master
    && not (is_excluded r.exclusions m.context.prefix))

abbrev pub covered_roots : World → Reference → List Key
covered_roots w r =
    if is_wide r.kind then (if is_done r.progress then map pin_of (filter (is_below_wide r) (mastered w)) else [])
    else key_of r.target ∷ []

abbrev pub covers : World → Reference → Key → Bool
covers w r key = list_any (λ root. is_prefix root key) (covered_roots w r)

abbrev pub is_covered : World → List Reference → Key → Bool
is_covered w rs key = list_any (λ r. covers w r key) rs

-- Two references cover a common name exactly where one of the names at which a subtree of one begins is at or below one
-- of the other's.
abbrev pub meet : World → Reference → Reference → Bool
meet w r q = list_any (λ a. list_any (λ b. is_prefix a b || is_prefix b a) (covered_roots w q)) (covered_roots w r)

-- no two cover the same name
abbrev pub are_apart : World → List Reference → Bool
are_apart w [] = true
are_apart w (r ∷ rs) = not (list_any (meet w r) rs) && are_apart w rs

-- the context of a name is that of its longest pin
abbrev pub context_of : Tree → Key → List Key
context_of t key = in_option [] (λ p. p ∷ []) (longest t.pins key)

abbrev pub pins_below : Tree → Key → Subset → List Key
pins_below t base subset = filter (λ p. in_subset subset base p && not (has same_key (context_of t base) p)) t.pins

-- The contexts that a query touches: the object's; for a list or search the base's, and each whose pin is in the
-- subset. A list that came by a reference to a pin asks for the pin's own RDN and touches its context alone. What came
-- by a nonSpecific reference with a completed name touches the contexts that the receiver masters just below the target
-- and that aren't excluded, and those below them.
abbrev pub reached_below : World → Tree → ℕ → Chained → Subset → List Key
reached_below w t to m subset = filter inside t.pins
  where
    roots : List Key
    roots =
        map pin_of (filter (λ c. (c.master == to)
        && (is_child (key_of m.target) (pin_of c) && not (is_excluded m.exclusions c.context.prefix))) (mastered w))

    inside : Key → Bool
    inside p = in_subset subset (key_of m.target) p && list_any (λ root. is_prefix root p) roots

abbrev pub touched_part : World → Tree → ℕ → Chained → Subset → List Key
touched_part w t to m subset =
    if is_done m.progress && is_wide m.kind then reached_below w t to m subset
    else context_of t (key_of m.target) ++ pins_below t (key_of m.target) subset

abbrev pub touched : World → Tree → ℕ → Chained → List Key
touched w t to m = of m.request.body
  where
    of : Body → List Key
    of (Read name selection) = context_of t (key_of name)
    of (Compare name assertion) = context_of t (key_of name)
    of (ListBelow name) = if by_pin m then context_of t (key_of name) else touched_part w t to m OneLevel
    of (Search base subset f selection) = touched_part w t to m subset
    of (AddEntry name attributes) = []
    of (RemoveEntry name) = []
    of (ModifyEntry name changes) = []
    of (ModifyDn name rdn drops) = []

-- the sources together: of each its context, a copy's as of its moment
abbrev pub source_tree : Point → Option ℕ → Tree
source_tree p None = tree_at p
source_tree p (Some m) = tree_of_moment p m

abbrev pub mixed : Point → List Source → Tree
mixed p sources =
    tree_of (flat_map (λ s. part (source_tree p s.moment) (key_of s.context)) sources) (tree_at p).pins

-- a part is a copy's exactly where the source of its context has a moment
abbrev pub is_copied : Point → List Source → Key → Bool
is_copied p sources key = some_and from (longest (tree_at p).pins key)
  where
    from : Key → Bool
    from pin = list_any (λ s. same_key (key_of s.context) pin && is_some s.moment) sources

-- What a tree answers to a message: to a query as it stands, to a list that came by a reference to a pin that pin's own
-- RDN, and to what came by a nonSpecific reference with a completed name what is there below the target.
abbrev pub own_rdn : Tree → Name → List Named
own_rdn t name = in_option [] (λ e. e ∷ []) (entry_at t.entries (key_of name))

abbrev pub answer_below : (Key → Bool) → Tree → Request → Body → Told
answer_below copies t r (ListBelow name) = limited_list copies r.controls.size (just_below t name)
answer_below copies t r (Search base subset f selection) =
    limited_found copies r.controls.size selection (searched t base subset f)
answer_below copies t r other = ask_marked copies t r

abbrev pub answer_at_pin : (Key → Bool) → Tree → Request → Body → Told
answer_at_pin copies t r (ListBelow name) = limited_list copies r.controls.size (own_rdn t name)
answer_at_pin copies t r other = ask_marked copies t r

abbrev pub told : (Key → Bool) → Tree → Chained → Told
told copies t m =
    if is_done m.progress
    then (if is_wide m.kind then answer_below copies t m.request m.request.body
    else answer_at_pin copies t m.request m.request.body)
    else ask_marked copies t m.request
