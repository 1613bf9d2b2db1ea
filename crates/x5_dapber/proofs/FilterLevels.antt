-- The filter of a search that is a value of its type has sixteen levels at most, and parts of substrings in it are texts.
use Rattle.std.proofs.Common.{◌≡◌, ℕ, zero, suc, ◌+◌, ◌-◌, ◌≤◌, ℤ, pos, Bool, true, false, List, [], ◌∷◌, ◌++◌, map, refl, sym, ap, subst, ◌∙◌, arith}
use Rattle.std.specs.List.{find}
use Rattle.std.specs.declared.option.Option.{Option}
use Rattle.std.specs.declared.option.Option.TheVariants.{None, Some}
use Rattle.x5_model.specs.Filters as filters
use Rattle.x5_model.specs.Filters.{PiecePlace, Initial, Any, Last, Piece, SubstringItem, Item, Equality, Substrings, GreaterOrEqual, LessOrEqual, Present, Approximate}
use Rattle.x5_model.specs.Filters.{Filter, Filters, Is, And, Or, Not}
use Rattle.x5_model.specs.Requests.{Request, Controls, Body, Read, Compare, ListBelow, Search, AddEntry, RemoveEntry, ModifyEntry, ModifyDn}
use Rattle.x5_model.specs.Values.{Value, TextValue, OctetsValue, OidValue, NameOf}
use Rattle.x5_model_messages.specs.FilterTerms.{place_tag, piece_node, substrings_node, item_node, filter_node, filter_nodes}
use Rattle.x5_model_messages.specs.Requests.{argument_node, request_node}
use Rattle.x5_model_messages.specs.Terms.{node_of, pairs_node, value_node}
use Rattle.x5_model_run.specs.Journal.{operation_of}
use Rattle.x5_model_typed.specs.Nodes as nodes
use Rattle.x5_model_typed.specs.Nodes.{Node, Nodes, Number, Oid, Octets, Chosen, Many, Nil, More, parts, row}
use Rattle.x5_model_typed.specs.Named as named
use Rattle.x5_model_typed.specs.Forms.{Primitive, Joined, Explicit, Alternative, choice, ruled, universal}
use Rattle.x5_model_typed.specs.Leaves.{oid, short_oid, octet_string}
use Rattle.x5_model_typed.specs.Rules.{text_rule, is_text}
use Rattle.x5_model_typed.specs.Layouts as layouts
use Rattle.x5_model_typed.specs.Written.{can_hold, is_marked}
use Rattle.x5_model_typed_laws.specs.Fits.{Fits, FitsIn, FitsEach, more, whole, made, chosen, chosen_made}
use Rattle.x5_types.specs.FormView.{table}
use Rattle.x5_dapber.proofs.Levels.{AreTexts, HasTexts, HasLevels, HaveLevels, IsShallow}
use Rattle.x5_dapber.proofs.Fitting.{only, only_made, pair_in, sequence_in, set_in, members_in, required_in, optional_in, found_is}
use Rattle.x5_dapber.proofs.ReadIsSayable.{IsChoice, choice_in, inner_fits, filter_types, is_never, never_within, never_explicit, IsInvoke, invoke_in, codes, is_sequence, sequence_explicit}

-- no filter is a value of the type that has no right content
nothing_fits : (n : Node) → Fits table (table (named.Filter 0)) n → ⊥
nothing_fits n (whole a octets free held unmarked writes settles) =
    let m : a.marked ≡ true = found_is (λ x. x.marked) (can_hold n) (table (named.Filter 0)) a refl held in
    absurd (cc (unmarked, m))
nothing_fits _ (made {ns} a held unmarked empty inside settles) =
    let m : a.marked ≡ true = found_is (λ x. x.marked) (can_hold (Many ns)) (table (named.Filter 0)) a refl held in
    absurd (cc (unmarked, m))
nothing_fits _ (chosen a tag form found c f settles) =
    never_explicit a.content form (found_is (λ x. is_never x.content) (is_marked tag) (table (named.Filter 0)) a refl found) c
nothing_fits _ (chosen_made {ns} a tag found inside settles) =
    never_within a.content ns (found_is (λ x. is_never x.content) (is_marked tag) (table (named.Filter 0)) a refl found) inside

have_levels : (k : ℕ) → ((f : Filter) → Fits table (table (named.Filter k)) (filter_node f) → HasLevels k f) → (fs : Filters)
    → FitsEach table (named.Filter k) (filter_nodes fs) → HaveLevels k fs
have_levels k of filters.Nil h = tt
have_levels k of (filters.More f fs) (more g h) = (of f g, have_levels k of fs h)

-- what is chosen under the tag
chosen_of : (types : List Alternative) (tag : ℕ) (m : Node) (form : named.Named) (a : Alternative)
    → find (is_marked tag) types ≡ Some a → a.content ≡ Explicit form → IsChoice types (Chosen tag m)
    → Fits table (table form) m
chosen_of types tag m form a found is c =
    let tags : c.tag ≡ tag = cc in
    let inner : c.inner ≡ m = cc in
    let same : Some a ≡ Some c.found =
    sym found ∙ ap (λ (t : ℕ). find (is_marked t) types) (sym tags) ∙ c.found_is_so in
    subst (λ (x : Node). Fits table (table form) x) inner (inner_fits types (Chosen tag m) c form a is same)

-- ---- parts of substrings

no_node : (o : Option Node) (n : Node) → o ≡ None → o ≡ Some n → ⊥
no_node o n e f = cc

-- a value isn't kept that the one alternative has no place for
not_kept : (a b : Alternative) (n : Node) → a ≡ b → b.settles n ≡ None → a.settles n ≡ Some n → ⊥
not_kept a b n e not_so kept = no_node (b.settles n) n not_so (ap (λ (x : Alternative). x.settles n) (sym e) ∙ kept)

abbrev oid_part : Alternative
oid_part = ruled text_rule (universal 6 (Primitive (oid short_oid)))

abbrev octets_part : Alternative
octets_part = ruled text_rule (universal 4 (Joined octet_string))

abbrev name_part : Alternative
name_part = ruled text_rule (layouts.sequence_of named.Rdn)

no_oid : (arcs : List ℕ) → Fits table (table named.Part) (Oid arcs) → ⊥
no_oid arcs (whole a octets free held unmarked writes settles) =
    not_kept a oid_part (Oid arcs) (only oid_part a (can_hold (Oid arcs) oid_part) held) refl settles

no_octets : (o : List ℕ) → Fits table (table named.Part) (Octets o) → ⊥
no_octets o (whole a octets free held unmarked writes settles) =
    not_kept a octets_part (Octets o) (only octets_part a (can_hold (Octets o) octets_part) held) refl settles

no_name : (ns : Nodes) → Fits table (table named.Part) (Many ns) → ⊥
no_name ns (whole a octets free held unmarked writes settles) =
    not_kept a name_part (Many ns) (only name_part a (can_hold (Many ns) name_part) held) refl settles
no_name ns (made a held unmarked empty inside settles) =
    not_kept a name_part (Many ns) (only name_part a (can_hold (Many ns) name_part) held) refl settles

part_text : (v : Value) → Fits table (table named.Part) (value_node v) → is_text (value_node v) ≡ true
part_text (TextValue t) f = refl
part_text (OctetsValue o) f = absurd (no_octets o f)
part_text (OidValue arcs) f = absurd (no_oid arcs f)
part_text (NameOf n) f = absurd (no_name (row (map pairs_node n)) f)

placed : (p : PiecePlace) → find (is_marked (place_tag p)) (table named.PlacedPart) ≡ Some (choice (place_tag p) (Explicit named.Part))
placed Initial = refl
placed Any = refl
placed Last = refl

piece_text : (p : Piece) → Fits table (table named.PlacedPart) (piece_node p) → is_text (value_node p.value) ≡ true
piece_text p f =
    part_text p.value
    (chosen_of (table named.PlacedPart) (place_tag p.place) (value_node p.value) named.Part (choice (place_tag p.place) (Explicit named.Part))
    (placed p.place) refl (choice_in (table named.PlacedPart) (piece_node p) refl refl f))

pieces_text : (ps : List Piece) → FitsEach table named.PlacedPart (row (map piece_node ps)) → AreTexts ps
pieces_text [] f = tt
pieces_text (p ∷ ps) (more f g) = (piece_text p f, pieces_text ps g)

pub second_same : (a b x y : Node) → Many (More a (More b Nil)) ≡ Many (More x (More y Nil)) → y ≡ b
second_same a b x y e = cc

substrings_text : (s : SubstringItem) → Fits table (table named.Substrings) (substrings_node s) → AreTexts s.pieces
substrings_text s f =
    let m = only_made table _ (substrings_node s) refl (λ x. refl) f in
    let two = pair_in table named.AnyOid named.Parts m.members (sequence_in table _ m.members m.within) in
    let same = second_same _ (node_of (map piece_node s.pieces)) _ two.second (m.is_many ∙ ap Many two.split) in
    let k = only_made table _ (node_of (map piece_node s.pieces)) refl (λ x. refl)
    (subst (λ (x : Node). Fits table (table named.Parts) x) same two.fits_second) in
    let all : k.members ≡ row (map piece_node s.pieces) = cc in
    pieces_text s.pieces
    (subst (λ (ns : Nodes). FitsEach table named.PlacedPart ns) all (members_in table named.PlacedPart k.members k.within))

item_text : (i : Item) → Fits table (table named.Item) (item_node i) → HasTexts i
item_text (Equality a) f = tt
item_text (Substrings s) f =
    substrings_text s
    (chosen_of (table named.Item) 1 (substrings_node s) named.Substrings (choice 1 (Explicit named.Substrings)) refl refl
    (choice_in (table named.Item) (Chosen 1 (substrings_node s)) refl refl f))
item_text (GreaterOrEqual a) f = tt
item_text (LessOrEqual a) f = tt
item_text (Present type) f = tt
item_text (Approximate a) f = tt

-- ---- levels

members_of : (k : ℕ) (fs : Filters) → Fits table (table (named.Filters k)) (Many (filter_nodes fs))
    → FitsEach table (named.Filter k) (filter_nodes fs)
members_of k fs f =
    let m = only_made table (layouts.set_of (named.Filter k)) (Many (filter_nodes fs)) refl (λ x. refl) f in
    let same : m.members ≡ filter_nodes fs = cc in
    subst (λ (ns : Nodes). FitsEach table (named.Filter k) ns) same (members_in table (named.Filter k) m.members m.within)

one_more : (k l : ℕ) → table (named.Filter l) ≡ filter_types k → l ≡ k + 1
    → ((f : Filter) → Fits table (table (named.Filter k)) (filter_node f) → HasLevels k f)
    → (f : Filter) → Fits table (table (named.Filter l)) (filter_node f) → HasLevels l f
one_more k l types next of f fit = by f (choice_in (filter_types k) (filter_node f) refl refl (subst (λ (ts : List Alternative). Fits table ts (filter_node f)) types fit))
  where
    left : l - 1 ≡ k
    left = omega (arith, next)

    some : 1 ≤ l
    some = omega (arith, next)

    members : (fs : Filters) → Fits table (table (named.Filters k)) (Many (filter_nodes fs)) → HaveLevels (l - 1) fs
    members fs g = subst (λ (m : ℕ). HaveLevels m fs) (sym left) (have_levels k of fs (members_of k fs g))

    by : (g : Filter) → IsChoice (filter_types k) (filter_node g) → HasLevels l g
    by (Is i) c = (
      some,
      item_text i (chosen_of (filter_types k) 0 (item_node i) named.Item (choice 0 (Explicit named.Item)) refl refl c),
    )
    by (And fs) c = (some, members fs (chosen_of (filter_types k) 1 (Many (filter_nodes fs)) (named.Filters k) (choice 1 (Explicit (named.Filters k))) refl refl c))
    by (Or fs) c = (some, members fs (chosen_of (filter_types k) 2 (Many (filter_nodes fs)) (named.Filters k) (choice 2 (Explicit (named.Filters k))) refl refl c))
    by (Not g) c = (
      some,
      subst (λ (m : ℕ). HasLevels m g) (sym left)
          (of g (chosen_of (filter_types k) 3 (filter_node g) (named.Filter k) (choice 3 (Explicit (named.Filter k))) refl refl c)),
    )

sixteen : (f : Filter) → Fits table (table (named.Filter 16)) (filter_node f) → HasLevels 16 f
sixteen =
    one_more 15 16 refl refl (one_more 14 15 refl refl (one_more 13 14 refl refl (one_more 12 13 refl refl
    (one_more 11 12 refl refl (one_more 10 11 refl refl (one_more 9 10 refl refl (one_more 8 9 refl refl
    (one_more 7 8 refl refl (one_more 6 7 refl refl (one_more 5 6 refl refl (one_more 4 5 refl refl (one_more 3 4 refl refl
    (one_more 2 3 refl refl (one_more 1 2 refl refl (one_more 0 1 refl refl
    (λ f fit. absurd (nothing_fits (filter_node f) fit)))))))))))))))))

-- ---- the filter of a search

abbrev anything : Node → Type 0
anything n = Unit {0}

everything_shallow : (f : Filter) → layouts.everything ≡ filter_node f → HasLevels 16 f
everything_shallow (Is i) e = absurd (cc e)
everything_shallow (And filters.Nil) e = (omega arith, tt)
everything_shallow (And (filters.More f fs)) e = absurd (cc e)
everything_shallow (Or fs) e = absurd (cc e)
everything_shallow (Not f) e = absurd (cc e)

third_same : (a b c x y z : Node) (ms ns : Nodes) → Many (More a (More b (More c ms))) ≡ Many (More x (More y (More z ns))) → z ≡ c
third_same a b c x y z ms ns e = cc

search_shallow : (a b d e : Node) (f : Filter)
    → Fits table (table (named.Argument named.Search)) (Many (More a (More b (More (filter_node f) (More d (More e Nil)))))) → HasLevels 16 f
search_shallow a b d e f fit =
    let n = Many (More a (More b (More (filter_node f) (More d (More e Nil))))) in
    let m = only_made table _ n refl (λ x. refl) fit in
    let one = required_in table 0 named.Name _ anything (λ x g. tt) m.members (set_in table _ m.members m.within) in
    let two = optional_in table (nodes.whole 0) 1 (named.NumberBelow 0 2) _ anything tt (λ x g. tt) one.others one.rest in
    let three = optional_in table layouts.everything 2 (named.Filter 16) _ (λ x. (g : Filter) → x ≡ filter_node g → HasLevels 16 g)
    everything_shallow (λ x g h e. sixteen h (subst (λ (y : Node). Fits table (table (named.Filter 16)) y) e g)) two.others two.rest in
    let same : n ≡ Many (More one.first (More two.first (More three.first three.others))) =
    m.is_many ∙ ap Many (one.split ∙ ap (More one.first) (two.split ∙ ap (More two.first) three.split)) in
    three.is f (third_same _ _ _ _ _ _ _ _ same)

pub argument_shallow : (c : Controls) (b : Body) (form : named.Named)
    → (k : ℕ) → k ≡ operation_of b → codes (pos k) ≡ Some form
    → Fits table (table form) (argument_node (record { controls = c; body = b })) → IsShallow b
argument_shallow c (Search base subset filter selection) form k is e fit =
    let names : codes (pos 5) ≡ Some form = ap (λ (m : ℕ). codes (pos m)) (sym is) ∙ e in
    let same : form ≡ named.Argument named.Search = cc in
    search_shallow _ _ _ _ filter
    (subst (λ (x : named.Named). Fits table (table x) (argument_node (record { controls = c; body = Search base subset filter selection }))) same fit)
argument_shallow c (Read name selection) form k is e fit = tt
argument_shallow c (Compare name assertion) form k is e fit = tt
argument_shallow c (ListBelow name) form k is e fit = tt
argument_shallow c (AddEntry name attributes) form k is e fit = tt
argument_shallow c (RemoveEntry name) form k is e fit = tt
argument_shallow c (ModifyEntry name changes) form k is e fit = tt
argument_shallow c (ModifyDn name rdn drops) form k is e fit = tt

invoke_of : (n : Node) → Fits table (table named.DapRequest) n → (ns : Nodes) → n ≡ Chosen 1 (Many ns) → IsInvoke ns
invoke_of n (whole a octets free held unmarked writes settles) ms e =
    let m : a.marked ≡ true = found_is (λ x. x.marked) (can_hold n) (table named.DapRequest) a refl held in
    absurd (cc (unmarked, m))
invoke_of _ (made {ns} a held unmarked empty inside settles) ms e =
    let m : a.marked ≡ true = found_is (λ x. x.marked) (can_hold (Many ns)) (table named.DapRequest) a refl held in
    absurd (cc (unmarked, m))
invoke_of _ (chosen a tag form found c f settles) ms e =
    absurd (sequence_explicit a.content form (found_is (λ x. is_sequence x.content) (is_marked tag) (table named.DapRequest) a refl found) c)
invoke_of _ (chosen_made {ns} a tag found inside settles) ms e =
    let invoke = layouts.invoke (layouts.operation_codes named.Argument) in
    let same : a ≡ invoke = only invoke a (is_marked tag invoke) found in
    let all : ns ≡ ms = cc in
    subst IsInvoke all (invoke_in ns (sequence_in table _ ns (subst (λ (x : Alternative). FitsIn table x.content ns) same inside)))

pub request_shallow : (id : ℕ) (r : Request) → Fits table (table named.DapRequest) (request_node id r) → IsShallow r.body
request_shallow id r fit =
    let ns = More (nodes.whole id) (More (nodes.whole (operation_of r.body)) (More (argument_node r) Nil)) in
    let i = invoke_of (request_node id r) fit ns refl in
    let code : pos (operation_of r.body) ≡ i.operation = cc in
    let argument : i.argument ≡ argument_node r = cc in
    argument_shallow r.controls r.body i.form (operation_of r.body) refl (ap codes code ∙ i.names)
    (subst (λ (x : Node). Fits table (table i.form) x) argument i.fits_argument)
