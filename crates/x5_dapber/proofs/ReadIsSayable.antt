-- What fits the type of a user's message is a value for whose parts the code has types.
use Rattle.std.proofs.Common.{◌≡◌, ℕ, zero, suc, ◌<◌, ◌≤◌, ◌^◌, ℤ, pos, negsuc, Bool, true, false, cond, ◌&&◌, ◌==◌, nat_le, nat_lt, List, [], ◌∷◌, length, refl, sym, ap, subst, ◌∙◌, arith}
use Rattle.std.specs.Prelude.{All}
use Rattle.std.specs.List.{find}
use Rattle.std.specs.Option.{is_some}
use Rattle.std.proofs.lemmas.Bool.{leb-true, eqb-true}
use Rattle.std.proofs.lemmas.List.Elements.{All-nil}
use Rattle.std.specs.declared.option.Option.{Option}
use Rattle.std.specs.declared.option.Option.TheVariants.{None, Some}
use Rattle.x5_model.specs.Normal.{is_oid, most_rdns}
use Rattle.x5_model.proofs.Lists.{both_true}
use Rattle.x5_model_typed.specs.Nodes as nodes
use Rattle.x5_model_typed.specs.Nodes.{Node, Nodes, Vacant, Flag, Number, Oid, Bits, Octets, Chosen, Many, Nil, More, list}
use Rattle.x5_model_typed.specs.Named as named
use Rattle.x5_model_typed.specs.Forms as forms
use Rattle.x5_model_typed.specs.Forms.{Component, Explicit, Sequence, Set, Members, Never, Alternative, choice, plain, at, or, code, ruled}
use Rattle.x5_model_typed.specs.Leaves.{where_so, any_oid, short_oid, oid, oid_octets, from_to, is_short_number, number, number_octets, options_node}
use Rattle.x5_model_typed.specs.Layouts as layouts
use Rattle.x5_model_typed.specs.Rules.{name_rule}
use Rattle.x5_model_typed.specs.Typed.{named, required}
use Rattle.x5_model_typed.specs.Written.{can_hold, is_marked}
use Rattle.x5_model_typed_laws.specs.Fits.{Fits, FitsIn, FitsSequence, FitsSet, FitsEach, more, left_out, given, over, whole, made, chosen, chosen_made}
use Rattle.x5_types.specs.FormView.{table}
use Rattle.x5_dapber.specs.Sayable.{IsType, IsValue, IsAttribute, IsAssertion, IsChange, IsPiece, IsSubstrings, IsItem, IsFilter, HasFilters, AreFilters, IsCount, IsSelection, AreControls, IsShortName, IsArgument, IsRequest}
use Rattle.x5_model.specs.Words.{in_option}
use Rattle.x5_model_messages.specs.Terms.{number_in}
use Rattle.x5_dapber.proofs.Fitting.{so, only, IsMade, only_made, only_settles, sequence_in, set_in, members_in, only_leaf, found_is, tag_below, is_explicit, no_explicit, as_form, each_in, pair_in, required_in, optional_in, no_more}

-- ---- types and values

writes_oid : (n : Node) (octets : List ℕ) → (oid any_oid).writes n ≡ Some octets → IsType n
writes_oid (Oid arcs) octets h = (both_true (is_oid arcs) true (so (is_oid arcs && true) (oid_octets arcs) octets h)).0
writes_oid Vacant octets h = absurd (cc h)
writes_oid (Flag b) octets h = absurd (cc h)
writes_oid (Number k) octets h = absurd (cc h)
writes_oid (Bits b) octets h = absurd (cc h)
writes_oid (Octets o) octets h = absurd (cc h)
writes_oid (nodes.Text t) octets h = absurd (cc h)
writes_oid (Chosen tag n) octets h = absurd (cc h)
writes_oid (Many ns) octets h = absurd (cc h)

pub type_fits : (n : Node) → Fits table (table named.AnyOid) n → IsType n
type_fits n f = (let w = only_leaf table 6 (oid any_oid) n f in writes_oid n w.0 w.1)

held_oid : (b : Bool) (octets : List ℕ) (x a : Alternative)
    → cond (cond (is_some (where_so b octets)) true false) (Some x) None ≡ Some a → b ≡ true
held_oid true octets x a h = refl
held_oid false octets x a h = absurd (cc h)

arcs_of_value : (arcs : List ℕ) → Fits table (table named.Value) (Oid arcs) → is_oid arcs ≡ true
arcs_of_value arcs (whole a octets free held unmarked writes settles) =
    (both_true (is_oid arcs) (short_oid arcs) (held_oid (is_oid arcs && short_oid arcs) (oid_octets arcs) _ a held)).0

arcs_of_part : (arcs : List ℕ) → Fits table (table named.Part) (Oid arcs) → is_oid arcs ≡ true
arcs_of_part arcs (whole a octets free held unmarked writes settles) =
    (both_true (is_oid arcs) (short_oid arcs) (held_oid (is_oid arcs && short_oid arcs) (oid_octets arcs) _ a held)).0

pub value_fits : (n : Node) → Fits table (table named.Value) n → IsValue n
value_fits (Oid arcs) f = arcs_of_value arcs f
value_fits Vacant f = tt
value_fits (Flag b) f = tt
value_fits (Number k) f = tt
value_fits (Bits b) f = tt
value_fits (Octets o) f = tt
value_fits (nodes.Text t) f = tt
value_fits (Chosen tag n) f = tt
value_fits (Many ns) f = tt

part_fits : (n : Node) → Fits table (table named.Part) n → IsValue n
part_fits (Oid arcs) f = arcs_of_part arcs f
part_fits Vacant f = tt
part_fits (Flag b) f = tt
part_fits (Number k) f = tt
part_fits (Bits b) f = tt
part_fits (Octets o) f = tt
part_fits (nodes.Text t) f = tt
part_fits (Chosen tag n) f = tt
part_fits (Many ns) f = tt

-- ---- members

-- what has members of a type has members that are so
pub many_of : (form : named.Named) (P : Node → Type 0) → ((n : Node) → Fits table (table form) n → P n) → (n : Node)
    → IsMade table (Members form) n → All P (nodes.parts n)
many_of form P of n m =
    subst (λ (x : Node). All P (nodes.parts x)) (sym m.is_many)
    (each_in table form P of m.members (members_in table form m.members m.within))

pub values_fit : (n : Node) → Fits table (table named.Values) n → All IsValue (nodes.parts n)
values_fit n f = many_of named.Value IsValue value_fits n (only_made table _ n refl (λ m. refl) f)

types_fit : (n : Node) → Fits table (table named.TypeList) n → All IsType (nodes.parts n)
types_fit n f = many_of named.AnyOid IsType type_fits n (only_made table _ n refl (λ m. refl) f)

pub attribute_fits : (n : Node) → Fits table (table named.Attribute) n → IsAttribute n
attribute_fits n f =
    let m = only_made table _ n refl (λ x. refl) f in
    let two = pair_in table named.AnyOid named.Values m.members (sequence_in table _ m.members m.within) in
    let is : n ≡ Many (More two.first (More two.second Nil)) = m.is_many ∙ ap Many two.split in
    subst IsAttribute (sym is) (type_fits two.first two.fits_first, values_fit two.second two.fits_second)

pub attributes_fit : (n : Node) → Fits table (table named.Attributes) n → All IsAttribute (nodes.parts n)
attributes_fit n f = many_of named.Attribute IsAttribute attribute_fits n (only_made table _ n refl (λ m. refl) f)

pub assertion_fits : (n : Node) → Fits table (table named.Assertion) n → IsAssertion n
assertion_fits n f =
    let m = only_made table _ n refl (λ x. refl) f in
    let two = pair_in table named.AnyOid named.Value m.members (sequence_in table _ m.members m.within) in
    let is : n ≡ Many (More two.first (More two.second Nil)) = m.is_many ∙ ap Many two.split in
    subst IsAssertion (sym is) (type_fits two.first two.fits_first, value_fits two.second two.fits_second)

-- ---- one of several

-- of alternatives with tags of their own a value has one, with an element of its type
pub record IsChoice (types : List Alternative) (n : Node) : Type 0 where
  pub tag : ℕ
  pub inner : Node
  pub chosen_is : n ≡ Chosen tag inner
  pub found : Alternative
  pub found_is_so : find (is_marked tag) types ≡ Some found
  pub form : named.Named
  pub explicit : found.content ≡ Explicit form
  pub fits_inner : Fits table (table form) inner

pub choice_in : (types : List Alternative) (n : Node) → Rattle.std.specs.List.list_all (λ a. a.marked) types ≡ true
    → Rattle.std.specs.List.list_all (λ a. is_explicit a.content) types ≡ true → Fits table types n → IsChoice types n
choice_in types n marked all (whole a octets free held unmarked writes settles) =
    let m : a.marked ≡ true = found_is (λ x. x.marked) (can_hold n) types a marked held in
    absurd (cc (unmarked, m))
choice_in types _ marked all (made {ns} a held unmarked empty inside settles) =
    let m : a.marked ≡ true = found_is (λ x. x.marked) (can_hold (Many ns)) types a marked held in
    absurd (cc (unmarked, m))
choice_in types _ marked all (chosen {n} a tag form found c f settles) =
    record { tag = tag; inner = n; chosen_is = refl; found = a; found_is_so = found; form = form; explicit = c; fits_inner = f }
choice_in types _ marked all (chosen_made {ns} a tag found inside settles) =
    absurd (no_explicit table a.content ns (found_is (λ x. is_explicit x.content) (is_marked tag) types a all found) inside)

pub inner_fits : (types : List Alternative) (n : Node) (c : IsChoice types n) (form : named.Named) (a : Alternative)
    → a.content ≡ Explicit form → (let o : Option Alternative = Some a in o) ≡ Some c.found → Fits table (table form) c.inner
inner_fits types n c form a e s = as_form table a c.found form c.form c.inner e s c.explicit c.fits_inner

of_choice : (types : List Alternative) (P : Node → Type 0) (n : Node) (c : IsChoice types n)
    → ((tag : ℕ) → find (is_marked tag) types ≡ Some c.found → P (Chosen tag c.inner)) → P n
of_choice types P n c h = subst P (sym c.chosen_is) (h c.tag c.found_is_so)

change_by : (n : Node) (c : IsChoice (table named.Change) n) (tag : ℕ)
    → find (is_marked tag) (table named.Change) ≡ Some c.found → IsChange (Chosen tag c.inner)
change_by n c zero e = attribute_fits c.inner (inner_fits (table named.Change) n c named.Attribute _ refl e)
change_by n c (suc zero) e = type_fits c.inner (inner_fits (table named.Change) n c named.AnyOid _ refl e)
change_by n c (suc (suc zero)) e = attribute_fits c.inner (inner_fits (table named.Change) n c named.Attribute _ refl e)
change_by n c (suc (suc (suc zero))) e = attribute_fits c.inner (inner_fits (table named.Change) n c named.Attribute _ refl e)
change_by n c (suc (suc (suc (suc k)))) e =
    absurd (omega (arith, tag_below (table named.Change) (suc (suc (suc (suc k)))) 4 c.found refl e))

change_fits : (n : Node) → Fits table (table named.Change) n → IsChange n
change_fits n f =
    let c = choice_in (table named.Change) n refl refl f in
    of_choice (table named.Change) IsChange n c (change_by n c)

changes_fit : (n : Node) → Fits table (table named.Changes) n → All IsChange (nodes.parts n)
changes_fit n f = many_of named.Change IsChange change_fits n (only_made table _ n refl (λ m. refl) f)

-- ---- filters

piece_by : (n : Node) (c : IsChoice (table named.PlacedPart) n) (tag : ℕ)
    → find (is_marked tag) (table named.PlacedPart) ≡ Some c.found → IsPiece (Chosen tag c.inner)
piece_by n c zero e = part_fits c.inner (inner_fits (table named.PlacedPart) n c named.Part _ refl e)
piece_by n c (suc zero) e = part_fits c.inner (inner_fits (table named.PlacedPart) n c named.Part _ refl e)
piece_by n c (suc (suc zero)) e = part_fits c.inner (inner_fits (table named.PlacedPart) n c named.Part _ refl e)
piece_by n c (suc (suc (suc k))) e =
    absurd (omega (arith, tag_below (table named.PlacedPart) (suc (suc (suc k))) 3 c.found refl e))

piece_fits : (n : Node) → Fits table (table named.PlacedPart) n → IsPiece n
piece_fits n f =
    let c = choice_in (table named.PlacedPart) n refl refl f in
    of_choice (table named.PlacedPart) IsPiece n c (piece_by n c)

pieces_fit : (n : Node) → Fits table (table named.Parts) n → All IsPiece (nodes.parts n)
pieces_fit n f = many_of named.PlacedPart IsPiece piece_fits n (only_made table _ n refl (λ m. refl) f)

substrings_fit : (n : Node) → Fits table (table named.Substrings) n → IsSubstrings n
substrings_fit n f =
    let m = only_made table _ n refl (λ x. refl) f in
    let two = pair_in table named.AnyOid named.Parts m.members (sequence_in table _ m.members m.within) in
    let is : n ≡ Many (More two.first (More two.second Nil)) = m.is_many ∙ ap Many two.split in
    subst IsSubstrings (sym is) (type_fits two.first two.fits_first, pieces_fit two.second two.fits_second)

item_by : (n : Node) (c : IsChoice (table named.Item) n) (tag : ℕ)
    → find (is_marked tag) (table named.Item) ≡ Some c.found → IsItem (Chosen tag c.inner)
item_by n c zero e = assertion_fits c.inner (inner_fits (table named.Item) n c named.Assertion _ refl e)
item_by n c (suc zero) e = substrings_fit c.inner (inner_fits (table named.Item) n c named.Substrings _ refl e)
item_by n c (suc (suc zero)) e = assertion_fits c.inner (inner_fits (table named.Item) n c named.Assertion _ refl e)
item_by n c (suc (suc (suc zero))) e = assertion_fits c.inner (inner_fits (table named.Item) n c named.Assertion _ refl e)
item_by n c (suc (suc (suc (suc zero)))) e = type_fits c.inner (inner_fits (table named.Item) n c named.AnyOid _ refl e)
item_by n c (suc (suc (suc (suc (suc zero))))) e = assertion_fits c.inner (inner_fits (table named.Item) n c named.Assertion _ refl e)
item_by n c (suc (suc (suc (suc (suc (suc k)))))) e =
    absurd (omega (arith, tag_below (table named.Item) (suc (suc (suc (suc (suc (suc k)))))) 6 c.found refl e))

item_fits : (n : Node) → Fits table (table named.Item) n → IsItem n
item_fits n f =
    let c = choice_in (table named.Item) n refl refl f in
    of_choice (table named.Item) IsItem n c (item_by n c)

filters_of : (k : ℕ) → ((n : Node) → Fits table (table (named.Filter k)) n → IsFilter n) → (ns : Nodes)
    → FitsEach table (named.Filter k) ns → AreFilters ns
filters_of k of Nil f = tt
filters_of k of (More n ns) (more f g) = (of n f, filters_of k of ns g)

has_filters : (k : ℕ) → ((n : Node) → Fits table (table (named.Filter k)) n → IsFilter n) → (n : Node)
    → Fits table (table (named.Filters k)) n → HasFilters n
has_filters k of n f =
    let m = only_made table (layouts.set_of (named.Filter k)) n refl (λ x. refl) f in
    subst HasFilters (sym m.is_many) (filters_of k of m.members (members_in table (named.Filter k) m.members m.within))

-- the types of a filter below which those of a filter of so many levels may stand
abbrev pub filter_types : ℕ → List Alternative
filter_types k =
    choice 0 (Explicit named.Item) ∷ choice 1 (Explicit (named.Filters k)) ∷ choice 2 (Explicit (named.Filters k))
    ∷ choice 3 (Explicit (named.Filter k)) ∷ []

filter_by : (k : ℕ) → ((n : Node) → Fits table (table (named.Filter k)) n → IsFilter n) → (n : Node)
    → (c : IsChoice (filter_types k) n) (tag : ℕ) → find (is_marked tag) (filter_types k) ≡ Some c.found
    → IsFilter (Chosen tag c.inner)
filter_by k of n c zero e = item_fits c.inner (inner_fits (filter_types k) n c named.Item _ refl e)
filter_by k of n c (suc zero) e = has_filters k of c.inner (inner_fits (filter_types k) n c (named.Filters k) _ refl e)
filter_by k of n c (suc (suc zero)) e = has_filters k of c.inner (inner_fits (filter_types k) n c (named.Filters k) _ refl e)
filter_by k of n c (suc (suc (suc zero))) e = of c.inner (inner_fits (filter_types k) n c (named.Filter k) _ refl e)
filter_by k of n c (suc (suc (suc (suc i)))) e =
    absurd (omega (arith, tag_below (filter_types k) (suc (suc (suc (suc i)))) 4 c.found refl e))

above : (k l : ℕ) → table (named.Filter l) ≡ filter_types k → ((n : Node) → Fits table (table (named.Filter k)) n → IsFilter n)
    → (n : Node) → Fits table (table (named.Filter l)) n → IsFilter n
above k l types of n f =
    let c = choice_in (filter_types k) n refl refl (subst (λ (ts : List Alternative). Fits table ts n) types f) in
    of_choice (filter_types k) IsFilter n c (filter_by k of n c)

-- where no level is left no content is right
abbrev pub is_never : forms.Content → Bool
is_never Never = true
is_never c = false

pub never_within : (c : forms.Content) (ns : Nodes) → is_never c ≡ true → FitsIn table c ns → ⊥
never_within Never ns e f = elim f [ ]
never_within (forms.Primitive leaf) ns e f = absurd (cc e)
never_within (forms.Joined leaf) ns e f = absurd (cc e)
never_within (forms.JoinedBits leaf) ns e f = absurd (cc e)
never_within (Explicit form) ns e f = absurd (cc e)
never_within (Sequence cs) ns e f = absurd (cc e)
never_within (Set cs) ns e f = absurd (cc e)
never_within (Members form) ns e f = absurd (cc e)

pub never_explicit : (c : forms.Content) (form : named.Named) → is_never c ≡ true → c ≡ Explicit form → ⊥
never_explicit c form e is = absurd (cc (sym (ap is_never is) ∙ e))

no_filter : (n : Node) → Fits table (table (named.Filter 0)) n → IsFilter n
no_filter n (whole a octets free held unmarked writes settles) =
    let m : a.marked ≡ true = found_is (λ x. x.marked) (can_hold n) (table (named.Filter 0)) a refl held in
    absurd (cc (unmarked, m))
no_filter _ (made {ns} a held unmarked empty inside settles) =
    let m : a.marked ≡ true = found_is (λ x. x.marked) (can_hold (Many ns)) (table (named.Filter 0)) a refl held in
    absurd (cc (unmarked, m))
no_filter _ (chosen a tag form found c f settles) =
    absurd (never_explicit a.content form (found_is (λ x. is_never x.content) (is_marked tag) (table (named.Filter 0)) a refl found) c)
no_filter _ (chosen_made {ns} a tag found inside settles) =
    absurd (never_within a.content ns (found_is (λ x. is_never x.content) (is_marked tag) (table (named.Filter 0)) a refl found) inside)

pub filter_fits : (n : Node) → Fits table (table (named.Filter 16)) n → IsFilter n
filter_fits =
    above 15 16 refl (above 14 15 refl (above 13 14 refl (above 12 13 refl (above 11 12 refl (above 10 11 refl
    (above 9 10 refl (above 8 9 refl (above 7 8 refl (above 6 7 refl (above 5 6 refl (above 4 5 refl
    (above 3 4 refl (above 2 3 refl (above 1 2 refl (above 0 1 refl no_filter)))))))))))))))

-- ---- numbers

count_writes : (high : ℕ) → high < 2 ^ 32 → (n : Node) (octets : List ℕ) → (number (from_to 0 high)).writes n ≡ Some octets
    → IsCount n
count_writes high small (Number (pos m)) octets h = λ k e.
    let b = so (is_short_number (pos m) && (nat_le 0 m && nat_le m high)) (number_octets (pos m)) octets h in
    let w = both_true (is_short_number (pos m)) (nat_le 0 m && nat_le m high) b in
    let v = both_true (nat_le 0 m) (nat_le m high) w.1 in
    let le : m ≤ high = leb-true m high v.1 in
    let same : m ≡ k = cc in
    subst (λ (x : ℕ). x < 2 ^ 32) same (omega (arith, le, small))
count_writes high small (Number (negsuc m)) octets h = λ k e. absurd (cc e)
count_writes high small Vacant octets h = absurd (cc h)
count_writes high small (Flag b) octets h = absurd (cc h)
count_writes high small (Oid arcs) octets h = absurd (cc h)
count_writes high small (Bits b) octets h = absurd (cc h)
count_writes high small (Octets o) octets h = absurd (cc h)
count_writes high small (nodes.Text t) octets h = absurd (cc h)
count_writes high small (Chosen tag n) octets h = absurd (cc h)
count_writes high small (Many ns) octets h = absurd (cc h)

pub count_fits : (high : ℕ) → high < 2 ^ 32 → (n : Node) → Fits table (table (named.NumberBelow 0 high)) n → IsCount n
count_fits high small n f = (let w = only_leaf table 2 (number (from_to 0 high)) n f in count_writes high small n w.0 w.1)

pub small_count : (m : ℕ) → m < 2 ^ 32 → IsCount (Number (pos m))
small_count m small k e = (let same : m ≡ k = cc in subst (λ (x : ℕ). x < 2 ^ 32) same small)

-- ---- arguments

pub selection_fits : (n : Node) → Fits table (table named.Selection) n → IsSelection n
selection_fits n f =
    let m = only_made table _ n refl (λ x. refl) f in
    let first = optional_in table Vacant 1 named.TypeList [] (λ types. All IsType (nodes.parts types)) (All-nil IsType) types_fit m.members (set_in table _ m.members m.within) in
    let is : n ≡ Many (More first.first Nil) = m.is_many ∙ ap Many (first.split ∙ ap (More first.first) (no_more table first.others first.rest)) in
    subst IsSelection (sym is) first.is

abbrev anything : Node → Type 0
anything n = Unit {0}

pub no_count : IsCount Vacant
no_count k e = absurd (cc e)

pub controls_fit : (n : Node) → Fits table (table named.Controls) n → AreControls n
controls_fit n f =
    let m = only_made table _ n refl (λ x. refl) f in
    let a = optional_in table (options_node false false) 0 named.Options _ anything tt (λ x g. tt) m.members (set_in table _ m.members m.within) in
    let b = optional_in table Vacant 1 named.AnyNumber _ anything tt (λ x g. tt) a.others a.rest in
    let c = optional_in table Vacant 2 named.AnyNumber _ anything tt (λ x g. tt) b.others b.rest in
    let d = optional_in table Vacant 3 (named.NumberBelow 0 4294967295) [] IsCount no_count (count_fits 4294967295 (omega arith)) c.others c.rest in
    let last : d.others ≡ Nil = no_more table d.others d.rest in
    let is : n ≡ Many (More a.first (More b.first (More c.first (More d.first Nil)))) =
    m.is_many ∙ ap Many (a.split ∙ ap (More a.first) (b.split ∙ ap (More b.first) (c.split ∙ ap (More c.first) (d.split ∙ ap (More d.first) last)))) in
    subst AreControls (sym is) d.is

record Alone (P : Node → Type 0) (ns : Nodes) : Type 0 where
  first : Node
  split : ns ≡ More first Nil
  is : P first

controls_last : (ns : Nodes) → FitsSet table (layouts.controls ∷ []) ns → Alone AreControls ns
controls_last ns f =
    let a = optional_in table layouts.no_controls 30 named.Controls [] AreControls no_count controls_fit ns f in
    record { first = a.first; split = a.split ∙ ap (More a.first) (no_more table a.others a.rest); is = a.is }

name_fits : (n : Node) → Fits table (table named.Name) n → IsShortName n
name_fits n f =
    let settled = only_settles table (ruled name_rule (layouts.sequence_of named.Rdn)) n refl f in
    leb-true (length (nodes.parts n)) most_rdns (so (nat_le (length (nodes.parts n)) most_rdns) n n settled)

pub read_fits : (n : Node) → Fits table (table (named.Argument named.Read)) n → IsArgument 1 n
read_fits n f =
    let m = only_made table _ n refl (λ x. refl) f in
    let a = required_in table 0 named.Name _ IsShortName name_fits m.members (set_in table _ m.members m.within) in
    let b = optional_in table layouts.all_attributes 1 named.Selection _ IsSelection (All-nil IsType) selection_fits a.others a.rest in
    let c = controls_last b.others b.rest in
    let is : n ≡ Many (More a.first (More b.first (More c.first Nil))) =
    m.is_many ∙ ap Many (a.split ∙ ap (More a.first) (b.split ∙ ap (More b.first) c.split)) in
    subst (IsArgument 1) (sym is) (c.is, b.is, a.is)

pub compare_fits : (n : Node) → Fits table (table (named.Argument named.Compare)) n → IsArgument 2 n
compare_fits n f =
    let m = only_made table _ n refl (λ x. refl) f in
    let a = required_in table 0 named.Name _ IsShortName name_fits m.members (set_in table _ m.members m.within) in
    let b = required_in table 1 named.Assertion _ IsAssertion assertion_fits a.others a.rest in
    let c = controls_last b.others b.rest in
    let is : n ≡ Many (More a.first (More b.first (More c.first Nil))) =
    m.is_many ∙ ap Many (a.split ∙ ap (More a.first) (b.split ∙ ap (More b.first) c.split)) in
    subst (IsArgument 2) (sym is) (c.is, b.is, a.is)

pub list_fits : (n : Node) → Fits table (table (named.Argument named.ListBelow)) n → IsArgument 4 n
list_fits n f =
    let m = only_made table _ n refl (λ x. refl) f in
    let a = required_in table 0 named.Name _ IsShortName name_fits m.members (set_in table _ m.members m.within) in
    let c = controls_last a.others a.rest in
    let is : n ≡ Many (More a.first (More c.first Nil)) = m.is_many ∙ ap Many (a.split ∙ ap (More a.first) c.split) in
    subst (IsArgument 4) (sym is) (c.is, tt, a.is)

pub search_fits : (n : Node) → Fits table (table (named.Argument named.Search)) n → IsArgument 5 n
search_fits n f =
    let m = only_made table _ n refl (λ x. refl) f in
    let a = required_in table 0 named.Name _ IsShortName name_fits m.members (set_in table _ m.members m.within) in
    let b = optional_in table (nodes.whole 0) 1 (named.NumberBelow 0 2) _ IsCount (small_count 0 (omega arith)) (count_fits 2 (omega arith)) a.others a.rest in
    let c = optional_in table layouts.everything 2 (named.Filter 16) _ IsFilter tt filter_fits b.others b.rest in
    let d = optional_in table layouts.all_attributes 4 named.Selection _ IsSelection (All-nil IsType) selection_fits c.others c.rest in
    let e = controls_last d.others d.rest in
    let is : n ≡ Many (More a.first (More b.first (More c.first (More d.first (More e.first Nil))))) =
    m.is_many ∙ ap Many (a.split ∙ ap (More a.first) (b.split ∙ ap (More b.first) (c.split ∙ ap (More c.first) (d.split ∙ ap (More d.first) e.split)))) in
    subst (IsArgument 5) (sym is) (e.is, (b.is, c.is, d.is), a.is)

pub add_fits : (n : Node) → Fits table (table (named.Argument named.AddEntry)) n → IsArgument 6 n
add_fits n f =
    let m = only_made table _ n refl (λ x. refl) f in
    let a = required_in table 0 named.Name _ IsShortName name_fits m.members (set_in table _ m.members m.within) in
    let b = required_in table 1 named.Attributes _ (λ x. All IsAttribute (nodes.parts x)) attributes_fit a.others a.rest in
    let c = controls_last b.others b.rest in
    let is : n ≡ Many (More a.first (More b.first (More c.first Nil))) =
    m.is_many ∙ ap Many (a.split ∙ ap (More a.first) (b.split ∙ ap (More b.first) c.split)) in
    subst (IsArgument 6) (sym is) (c.is, b.is, a.is)

pub remove_fits : (n : Node) → Fits table (table (named.Argument named.RemoveEntry)) n → IsArgument 7 n
remove_fits n f =
    let m = only_made table _ n refl (λ x. refl) f in
    let a = required_in table 0 named.Name _ IsShortName name_fits m.members (set_in table _ m.members m.within) in
    let c = controls_last a.others a.rest in
    let is : n ≡ Many (More a.first (More c.first Nil)) = m.is_many ∙ ap Many (a.split ∙ ap (More a.first) c.split) in
    subst (IsArgument 7) (sym is) (c.is, tt, a.is)

pub modify_fits : (n : Node) → Fits table (table (named.Argument named.ModifyEntry)) n → IsArgument 8 n
modify_fits n f =
    let m = only_made table _ n refl (λ x. refl) f in
    let a = required_in table 0 named.Name _ IsShortName name_fits m.members (set_in table _ m.members m.within) in
    let b = required_in table 1 named.Changes _ (λ x. All IsChange (nodes.parts x)) changes_fit a.others a.rest in
    let c = controls_last b.others b.rest in
    let is : n ≡ Many (More a.first (More b.first (More c.first Nil))) =
    m.is_many ∙ ap Many (a.split ∙ ap (More a.first) (b.split ∙ ap (More b.first) c.split)) in
    subst (IsArgument 8) (sym is) (c.is, b.is, a.is)

pub rename_fits : (n : Node) → Fits table (table (named.Argument named.ModifyDn)) n → IsArgument 9 n
rename_fits n f =
    let m = only_made table _ n refl (λ x. refl) f in
    let a = required_in table 0 named.Name _ IsShortName name_fits m.members (set_in table _ m.members m.within) in
    let b = required_in table 1 named.Rdn _ anything (λ x g. tt) a.others a.rest in
    let c = optional_in table (Flag false) 2 named.Boolean _ anything tt (λ x g. tt) b.others b.rest in
    let d = controls_last c.others c.rest in
    let is : n ≡ Many (More a.first (More b.first (More c.first (More d.first Nil)))) =
    m.is_many ∙ ap Many (a.split ∙ ap (More a.first) (b.split ∙ ap (More b.first) (c.split ∙ ap (More c.first) d.split))) in
    subst (IsArgument 9) (sym is) (d.is, tt, a.is)

-- ---- messages

abbrev pub codes : ℤ → Option named.Named
codes = layouts.named_by (layouts.operation_codes named.Argument)

code_first : (x form : named.Named) (k m limit : ℕ) (b : Bool) (o : Option named.Named) → (k == m) ≡ b
    → cond b (Some x) o ≡ Some form → suc k ≤ limit → (o ≡ Some form → m < limit) → m < limit
code_first x form k m limit true o h e low later = (let same : k ≡ m = eqb-true k m h in omega (arith, low, same))
code_first x form k m limit false o h e low later = later e

-- the code is one of those that there are
pub code_below : (rows : List (ℕ × named.Named)) (m limit : ℕ) (form : named.Named)
    → Rattle.std.specs.List.list_all (λ r. nat_lt r.0 limit) rows ≡ true → layouts.named_by rows (pos m) ≡ Some form → m < limit
code_below [] m limit form h e = absurd (cc e)
code_below (r ∷ rows) m limit form h e =
    let w = both_true (nat_lt r.0 limit) (Rattle.std.specs.List.list_all (λ (x : ℕ × named.Named). nat_lt x.0 limit) rows) h in
    code_first r.1 form r.0 m limit (r.0 == m) (layouts.named_by rows (pos m)) refl e (leb-true (suc r.0) limit w.0)
    (λ f. code_below rows m limit form w.1 f)

abbrev pub number_or_zero : ℤ → ℕ
number_or_zero k = in_option 0 (λ m. m) (number_in (Number k))

argument_fits : (k : ℤ) (form : named.Named) (n : Node) → codes k ≡ Some form → Fits table (table form) n
    → IsCount (Number k) × IsArgument (number_or_zero k) n
argument_fits (negsuc m) form n e f = absurd (cc e)
argument_fits (pos zero) form n e f = absurd (cc e)
argument_fits (pos (suc zero)) form n e f =
    let same : form ≡ named.Argument named.Read = cc in
    (small_count 1 (omega arith), read_fits n (subst (λ (x : named.Named). Fits table (table x) n) same f))
argument_fits (pos (suc (suc zero))) form n e f =
    let same : form ≡ named.Argument named.Compare = cc in
    (small_count 2 (omega arith), compare_fits n (subst (λ (x : named.Named). Fits table (table x) n) same f))
argument_fits (pos (suc (suc (suc zero)))) form n e f = absurd (cc e)
argument_fits (pos (suc (suc (suc (suc zero))))) form n e f =
    let same : form ≡ named.Argument named.ListBelow = cc in
    (small_count 4 (omega arith), list_fits n (subst (λ (x : named.Named). Fits table (table x) n) same f))
argument_fits (pos (suc (suc (suc (suc (suc zero)))))) form n e f =
    let same : form ≡ named.Argument named.Search = cc in
    (small_count 5 (omega arith), search_fits n (subst (λ (x : named.Named). Fits table (table x) n) same f))
argument_fits (pos (suc (suc (suc (suc (suc (suc zero))))))) form n e f =
    let same : form ≡ named.Argument named.AddEntry = cc in
    (small_count 6 (omega arith), add_fits n (subst (λ (x : named.Named). Fits table (table x) n) same f))
argument_fits (pos (suc (suc (suc (suc (suc (suc (suc zero)))))))) form n e f =
    let same : form ≡ named.Argument named.RemoveEntry = cc in
    (small_count 7 (omega arith), remove_fits n (subst (λ (x : named.Named). Fits table (table x) n) same f))
argument_fits (pos (suc (suc (suc (suc (suc (suc (suc (suc zero))))))))) form n e f =
    let same : form ≡ named.Argument named.ModifyEntry = cc in
    (small_count 8 (omega arith), modify_fits n (subst (λ (x : named.Named). Fits table (table x) n) same f))
argument_fits (pos (suc (suc (suc (suc (suc (suc (suc (suc (suc zero)))))))))) form n e f =
    let same : form ≡ named.Argument named.ModifyDn = cc in
    (small_count 9 (omega arith), rename_fits n (subst (λ (x : named.Named). Fits table (table x) n) same f))
argument_fits (pos (suc (suc (suc (suc (suc (suc (suc (suc (suc (suc m))))))))))) form n e f =
    absurd (omega (arith, code_below (layouts.operation_codes named.Argument) (suc (suc (suc (suc (suc (suc (suc (suc (suc (suc m)))))))))) 10 form refl e))

pub record IsInvoke (ns : Nodes) : Type 0 where
  pub id : Node
  pub operation : ℤ
  pub argument : Node
  pub split : ns ≡ More id (More (Number operation) (More argument Nil))
  pub id_is : IsCount id
  pub form : named.Named
  pub names : codes operation ≡ Some form
  pub fits_argument : Fits table (table form) argument

pub invoke_in : (ns : Nodes) → FitsSequence table (layouts.id ∷ code named.AnyNumber codes ∷ []) ns → IsInvoke ns
invoke_in _ (left_out d e f g) = absurd (cc e)
invoke_in _ (given nd f required (left_out d e g h)) = absurd (cc e)
invoke_in _ (given nd f required (given nd' f' (named k form is names) (left_out d e g h))) = absurd (cc e)
invoke_in _ (given {n = i} nd f required (given {n = c} nd' f' (named k form is names) (given {n = a} nd'' f'' required over))) =
    record {
      id = i;
      operation = k;
      argument = a;
      split = ap (λ (x : Node). More i (More x (More a Nil))) is;
      id_is = count_fits 4294967295 (omega arith) i f;
      form = form;
      names = names;
      fits_argument = f'';
    }

abbrev pub is_sequence : forms.Content → Bool
is_sequence (Sequence cs) = true
is_sequence c = false

pub sequence_explicit : (c : forms.Content) (form : named.Named) → is_sequence c ≡ true → c ≡ Explicit form → ⊥
sequence_explicit c form e is = absurd (cc (sym (ap is_sequence is) ∙ e))

pub request_fits : (n : Node) → Fits table (table named.DapRequest) n → IsRequest n
request_fits n (whole a octets free held unmarked writes settles) =
    let m : a.marked ≡ true = found_is (λ x. x.marked) (can_hold n) (table named.DapRequest) a refl held in
    absurd (cc (unmarked, m))
request_fits _ (made {ns} a held unmarked empty inside settles) =
    let m : a.marked ≡ true = found_is (λ x. x.marked) (can_hold (Many ns)) (table named.DapRequest) a refl held in
    absurd (cc (unmarked, m))
request_fits _ (chosen a tag form found c f settles) =
    absurd (sequence_explicit a.content form (found_is (λ x. is_sequence x.content) (is_marked tag) (table named.DapRequest) a refl found) c)
request_fits _ (chosen_made {ns} a tag found inside settles) =
    let invoke = layouts.invoke (layouts.operation_codes named.Argument) in
    let same : a ≡ invoke = only invoke a (is_marked tag invoke) found in
    let i = invoke_in ns (sequence_in table _ ns (subst (λ (x : Alternative). FitsIn table x.content ns) same inside)) in
    let both = argument_fits i.operation i.form i.argument i.names i.fits_argument in
    subst (λ (x : Nodes). IsRequest (Chosen tag (Many x))) (sym i.split) (i.id_is, both.0, both.1)
