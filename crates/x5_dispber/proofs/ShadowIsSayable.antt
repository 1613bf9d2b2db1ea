-- What fits the type of a message of shadowing is a value for whose parts the code has types.
use Rattle.std.proofs.Common.{◌≡◌, ℕ, zero, suc, ◌<◌, ◌^◌, Bool, true, false, not, ◌&&◌, ◌==◌, nat_lt, List, [], ◌∷◌}
use Rattle.std.proofs.Common.{refl, sym, ap, subst, ◌∙◌, arith}
use Rattle.std.specs.Prelude.{All, ℤ, pos, negsuc, if◌then◌else◌}
use Rattle.std.specs.List.{find, list_all}
use Rattle.std.proofs.lemmas.Bool.{eqb-true, ltb-true}
use Rattle.std.proofs.lemmas.List.Elements.{All-nil, All-cons, All-head, All-tail}
use Rattle.std.specs.declared.option.Option.{Option}
use Rattle.std.specs.declared.option.Option.TheVariants.{None, Some}
use Rattle.x5_model.specs.Members.{In, here, there}
use Rattle.x5_model.specs.Words.{is_empty}
use Rattle.x5_model.proofs.Lists.{both_true, of_all, of_find}
use Rattle.x5_model_fitting.specs.Names.{Each}
use Rattle.x5_model_fitting.specs.Terms.{ValueWithin}
use Rattle.x5_model_fitting.proofs.LeavesSaid.{IsNumber, number_said, enumeration_said}
use Rattle.x5_model_fitting.proofs.MessagesSaid.{marked_in, coded_in, invoke_in, code_below}
use Rattle.x5_model_fitting.proofs.Taking.{only_made, only_leaf, many_in, sequence_in, first_in, maybe_in, sequence_over}
use Rattle.x5_model_fitting.proofs.Taking.{is_explicit, no_explicit, IsChoice, choice_in, inner_fits, tag_below}
use Rattle.x5_model_fitting.proofs.TermsSaid.{AreValues, values_said, value_said, typed_in}
use Rattle.x5_model_messages.specs.Replies.{or_zero}
use Rattle.x5_model_messages.specs.Terms.{number_in}
use Rattle.x5_model_typed.specs.Forms.{Content, Explicit, Joined, Alternative, plain, at, or, ruled, universal}
use Rattle.x5_model_typed.specs.Layouts as layouts
use Rattle.x5_model_typed.specs.Layouts.{Surroundings, layout, named_by, agent_name, time_leaf}
use Rattle.x5_model_typed.specs.Leaves.{is_agent_name, text_where}
use Rattle.x5_model_typed.specs.Named as named
use Rattle.x5_model_typed.specs.Nodes as nodes
use Rattle.x5_model_typed.specs.Nodes.{Node, Nodes, Vacant, Flag, Number, Oid, Bits, Octets, Chosen, Many, Nil, More, parts}
use Rattle.x5_model_typed.specs.Rules.{agents_of, entry_rule, is_of_type, is_stored, known_rule, master_first, masters_rule}
use Rattle.x5_model_typed.specs.Rules.{text_in, type_number, value_in}
use Rattle.x5_model_typed.specs.Written.{is_marked}
use Rattle.x5_model_typed_laws.specs.Fits.{is_chosen, Fits, FitsIn, whole, made, chosen, chosen_made}
use Rattle.x5_model_typed_laws.proofs.Leaves.{so}
use Rattle.x5_dapber.specs.Sayable.{IsCount, IsValue}
use Rattle.x5_dapber.proofs.ReadIsSayable.{no_count, small_count}
use Rattle.x5_dapreply.specs.Sayable.{IsSmall}
use Rattle.x5_dispber.specs.Sayable.{IsStoredValue, IsStored, IsEntry, IsRenamed, IsStep, IsAgent, HaveMaster, IsKnown}
use Rattle.x5_dispber.specs.Sayable.{IsNonSpecific, IsTotal, IsRefresh, IsArgument, IsFailed, IsDone, IsMessage}
use Rattle.x5_dispber.proofs.Clock.{AreFew}
use Rattle.x5_dispber.proofs.InOrder.{IsAttribute, IsKept, three, rule_keeps, stored_so, entry_ordered}

all_of : {X : Type 0} (P : X → Type 0) (xs : List X) → Each P xs → All P xs
all_of P [] h = All-nil P
all_of P (x ∷ xs) h = All-cons P x xs (h x here) (all_of P xs (λ y i. h y (there i)))

-- nothing is asked
abbrev anything : Node → Type 0
anything n = Unit {0}

-- ---- values and attributes

value_is : (n : Node) → ValueWithin (value_in n) → IsValue n
value_is (Oid arcs) h = h.0
value_is Vacant h = tt
value_is (Flag b) h = tt
value_is (Number k) h = tt
value_is (Bits b) h = tt
value_is (Octets o) h = tt
value_is (nodes.Text t) h = tt
value_is (Chosen tag n) h = tt
value_is (Many ns) h = tt

values_are : (k : ℕ) (ns : List Node) → Each (λ x. ValueWithin (value_in x)) ns → list_all (is_of_type k) ns ≡ true
    → All (IsStoredValue k) ns
values_are k [] h e = All-nil (IsStoredValue k)
values_are k (n ∷ ns) h e =
    let w = both_true (is_of_type k n) (list_all (is_of_type k) ns) e in
    All-cons (IsStoredValue k) n ns (value_is n (h n here), w.0) (values_are k ns (λ m i. h m (there i)) w.1)

abbrev HasValues : Node → Type 0
HasValues n = AreValues (λ x. ValueWithin (value_in x)) n

attribute_is : (w : Surroundings) (n : Node) → Fits (layout w) (layout w named.Attribute) n → IsAttribute n
attribute_is w n f =
    let t = typed_in w named.Values HasValues (values_said w) n f in
    record { type = t.type; values = t.behind; is = t.is; some = t.so_behind.some }

stored_is : (w : Surroundings) (n : Node) → Fits (layout w) (layout w named.Attribute) n → is_stored n ≡ true → IsStored n
stored_is w n f h =
    let t = typed_in w named.Values HasValues (values_said w) n f in
    let s = stored_so t.type t.behind (subst (λ (x : Node). is_stored x ≡ true) t.is h) in
    subst IsStored (sym t.is) (values_are (type_number t.type) (parts t.behind) t.so_behind.each s.0)

all_stored : (w : Surroundings) (ns : List Node) → Each (λ a. Fits (layout w) (layout w named.Attribute) a) ns
    → list_all is_stored ns ≡ true → All IsStored ns
all_stored w [] f h = All-nil IsStored
all_stored w (n ∷ ns) f h =
    let v = both_true (is_stored n) (list_all is_stored ns) h in
    All-cons IsStored n ns (stored_is w n (f n here) v.0) (all_stored w ns (λ m i. f m (there i)) v.1)

-- ---- entries

abbrev HasAttributes : Surroundings → Node → Type 0
HasAttributes w n = Each (λ a. Fits (layout w) (layout w named.Attribute) a) (parts n)

attributes_are : (w : Surroundings) (n : Node) → Fits (layout w) (layout w named.Attributes) n → HasAttributes w n
attributes_are w n f =
    many_in (layout w) _ named.Attribute (λ a. Fits (layout w) (layout w named.Attribute) a) refl (λ a h. h) n
    (only_made (layout w) (layouts.set_of named.Attribute) n refl refl f)

abbrev entry : Alternative
entry =
    ruled entry_rule
    (layouts.sequence (plain named.Name ∷ or (Flag true) (plain named.Boolean) ∷ plain named.Attributes ∷ []))

entry_is : (w : Surroundings) (n : Node) → Fits (layout w) (layout w named.Entry) n → IsEntry n
entry_is w n f =
    let m = only_made (layout w) entry n refl refl f in
    let a = first_in (layout w) named.Name _ anything (λ x g. tt) m.members (sequence_in (layout w) _ m.members m.within) in
    let b = maybe_in (layout w) (Flag true) (plain named.Boolean) _ anything tt (λ x g. tt) a.others a.rest in
    let c = first_in (layout w) named.Attributes [] (HasAttributes w) (attributes_are w) b.others b.rest in
    let is : n ≡ three a.first b.first c.first =
    m.is_many ∙ ap Many (a.split ∙ ap (More a.first) (b.split ∙ ap (More b.first) (c.split ∙ ap (More c.first)
    (sequence_over (layout w) c.others c.rest)))) in
    let rule : entry_rule (three a.first b.first c.first) ≡ Some (three a.first b.first c.first) =
    subst (λ (x : Node). entry_rule x ≡ Some x) is m.settled in
    let k = rule_keeps a.first b.first c.first rule in
    subst IsEntry (sym is) (
      all_stored w (parts c.first) c.is k.stored,
      entry_ordered a.first b.first c.first k (λ x i. attribute_is w x (c.is x i)),
    )

entries_are : (w : Surroundings) (n : Node) → Fits (layout w) (layout w named.Entries) n → All IsEntry (parts n)
entries_are w n f =
    all_of IsEntry (parts n) (many_in (layout w) _ named.Entry IsEntry refl (entry_is w) n
    (only_made (layout w) (layouts.sequence_of named.Entry) n refl refl f))

-- ---- changes of entries

renamed_is : (w : Surroundings) (n : Node) → Fits (layout w) (layout w named.Renamed) n → IsRenamed n
renamed_is w n f =
    let m = only_made (layout w) (layouts.sequence (plain named.Name ∷ plain named.Entry ∷ [])) n refl refl f in
    let a = first_in (layout w) named.Name _ anything (λ x g. tt) m.members (sequence_in (layout w) _ m.members m.within) in
    let b = first_in (layout w) named.Entry [] IsEntry (entry_is w) a.others a.rest in
    let is : n ≡ Many (More a.first (More b.first Nil)) =
    m.is_many ∙ ap Many (a.split ∙ ap (More a.first) (b.split ∙ ap (More b.first) (sequence_over (layout w) b.others b.rest))) in
    subst IsRenamed (sym is) b.is

step_by : (w : Surroundings) (n : Node) (c : IsChoice (layout w) (layout w named.Step) n) (tag : ℕ)
    → find (is_marked tag) (layout w named.Step) ≡ Some c.alternative → IsStep (Chosen tag c.inner)
step_by w n c zero e = entry_is w c.inner (inner_fits (layout w) (layout w named.Step) n c named.Entry _ refl e)
step_by w n c (suc zero) e = tt
step_by w n c (suc (suc zero)) e = entry_is w c.inner (inner_fits (layout w) (layout w named.Step) n c named.Entry _ refl e)
step_by w n c (suc (suc (suc zero))) e =
    renamed_is w c.inner (inner_fits (layout w) (layout w named.Step) n c named.Renamed _ refl e)
step_by w n c (suc (suc (suc (suc k)))) e =
    absurd (omega (arith, tag_below (layout w named.Step) (suc (suc (suc (suc k)))) 4 c.alternative refl e))

step_is : (w : Surroundings) (n : Node) → Fits (layout w) (layout w named.Step) n → IsStep n
step_is w n f =
    let c = choice_in (layout w) (layout w named.Step) n refl refl f in
    subst IsStep (sym c.is) (step_by w n c c.tag c.found)

steps_are : (w : Surroundings) (n : Node) → Fits (layout w) (layout w named.Steps) n → All IsStep (parts n)
steps_are w n f =
    all_of IsStep (parts n) (many_in (layout w) _ named.Step IsStep refl (step_is w) n
    (only_made (layout w) (layouts.sequence_of named.Step) n refl refl f))

-- ---- references

writes_text : (test : List ℕ → Bool) (n : Node) (octets : List ℕ) → (text_where test).writes n ≡ Some octets
    → test (text_in n) ≡ true
writes_text test (nodes.Text t) octets h = (so (test t) t octets h).0
writes_text test Vacant octets h = absurd (cc h)
writes_text test (Flag b) octets h = absurd (cc h)
writes_text test (Number k) octets h = absurd (cc h)
writes_text test (Oid arcs) octets h = absurd (cc h)
writes_text test (Bits b) octets h = absurd (cc h)
writes_text test (Octets o) octets h = absurd (cc h)
writes_text test (Chosen tag n) octets h = absurd (cc h)
writes_text test (Many ns) octets h = absurd (cc h)

behind_so : (a b : Bool) → (if a then b else false) ≡ true → b ≡ true
behind_so true b h = h
behind_so false b h = absurd (cc h)

world_agent : (w : Surroundings) (n : Node) → Fits (layout w) (layout w named.WorldAgentName) n → w.is_agent (text_in n) ≡ true
world_agent w n f =
    let v = only_leaf (layout w) (agent_name w.is_agent) n refl refl f in
    behind_so (is_agent_name (text_in n)) (w.is_agent (text_in n))
    (writes_text (λ t. if is_agent_name t then w.is_agent t else false) n v.0 v.1)

agent_is : (w : Surroundings) (n : Node) → Fits (layout w) (layout w named.WorldAgent) n → IsAgent w.is_agent n
agent_is w n f =
    let m = only_made (layout w) (layouts.sequence (plain named.WorldAgentName ∷ or (Flag false) (plain named.Boolean) ∷ [])) n
    refl refl f in
    let a = first_in (layout w) named.WorldAgentName _ (λ x. w.is_agent (text_in x) ≡ true) (world_agent w) m.members
    (sequence_in (layout w) _ m.members m.within) in
    let b = maybe_in (layout w) (Flag false) (plain named.Boolean) [] anything tt (λ x g. tt) a.others a.rest in
    let is : n ≡ Many (More a.first (More b.first Nil)) =
    m.is_many ∙ ap Many (a.split ∙ ap (More a.first) (b.split ∙ ap (More b.first) (sequence_over (layout w) b.others b.rest))) in
    subst (IsAgent w.is_agent) (sym is) a.is

agents_are : (w : Surroundings) (n : Node) → Fits (layout w) (layout w named.WorldAgents) n → All (IsAgent w.is_agent) (parts n)
agents_are w n f =
    all_of (IsAgent w.is_agent) (parts n) (many_in (layout w) _ named.WorldAgent (IsAgent w.is_agent) refl (agent_is w) n
    (only_made (layout w) (layouts.sequence_of named.WorldAgent) n refl refl f))

have_master : (is_agent : List ℕ → Bool) (ns : List Node) → master_first ns ≡ true → All (IsAgent is_agent) ns
    → HaveMaster is_agent ns
have_master is_agent [] h all = absurd (cc h)
have_master is_agent (n ∷ ns) h all = (All-head (IsAgent is_agent) n ns all, All-tail (IsAgent is_agent) n ns all)

known_is : (w : Surroundings) (n : Node) → Fits (layout w) (layout w named.Known) n → IsKnown w.is_agent n
known_is w n f =
    let m = only_made (layout w) (ruled known_rule (layouts.sequence (plain named.Name ∷ plain named.WorldAgents ∷ []))) n refl
    refl f in
    let a = first_in (layout w) named.Name _ anything (λ x g. tt) m.members (sequence_in (layout w) _ m.members m.within) in
    let b = first_in (layout w) named.WorldAgents [] (λ x. All (IsAgent w.is_agent) (parts x)) (agents_are w) a.others a.rest in
    let is : n ≡ Many (More a.first (More b.first Nil)) =
    m.is_many ∙ ap Many (a.split ∙ ap (More a.first) (b.split ∙ ap (More b.first) (sequence_over (layout w) b.others b.rest))) in
    let rule : master_first (agents_of n) ≡ true = (so (master_first (agents_of n)) n n m.settled).0 in
    subst (IsKnown w.is_agent) (sym is)
    (have_master w.is_agent (parts b.first) (subst (λ (x : Node). master_first (agents_of x) ≡ true) is rule) b.is)

all_known : (w : Surroundings) (n : Node) → Fits (layout w) (layout w named.Knowns) n → All (IsKnown w.is_agent) (parts n)
all_known w n f =
    all_of (IsKnown w.is_agent) (parts n) (many_in (layout w) _ named.Known (IsKnown w.is_agent) refl (known_is w) n
    (only_made (layout w) (layouts.sequence_of named.Known) n refl refl f))

other_is : (w : Surroundings) (n : Node) → Fits (layout w) (layout w named.NonSpecific) n → IsNonSpecific w.is_agent n
other_is w n f =
    let m = only_made (layout w) (ruled masters_rule (layouts.sequence (plain named.Name ∷ plain named.WorldAgents ∷ []))) n
    refl refl f in
    let a = first_in (layout w) named.Name _ anything (λ x g. tt) m.members (sequence_in (layout w) _ m.members m.within) in
    let b = first_in (layout w) named.WorldAgents [] (λ x. All (IsAgent w.is_agent) (parts x)) (agents_are w) a.others a.rest in
    let is : n ≡ Many (More a.first (More b.first Nil)) =
    m.is_many ∙ ap Many (a.split ∙ ap (More a.first) (b.split ∙ ap (More b.first) (sequence_over (layout w) b.others b.rest))) in
    subst (IsNonSpecific w.is_agent) (sym is) b.is

others_are : (w : Surroundings) (n : Node) → Fits (layout w) (layout w named.NonSpecifics) n
    → All (IsNonSpecific w.is_agent) (parts n)
others_are w n f =
    all_of (IsNonSpecific w.is_agent) (parts n) (many_in (layout w) _ named.NonSpecific (IsNonSpecific w.is_agent) refl
    (other_is w) n (only_made (layout w) (layouts.sequence_of named.NonSpecific) n refl refl f))

-- ---- refreshes

total_is : (w : Surroundings) (n : Node) → Fits (layout w) (layout w named.Total) n → IsTotal w.is_agent n
total_is w n f =
    let m = only_made (layout w)
    (layouts.sequence (plain named.Entries ∷ plain named.Knowns ∷ plain named.NonSpecifics ∷ [])) n refl refl f in
    let a = first_in (layout w) named.Entries _ (λ x. All IsEntry (parts x)) (entries_are w) m.members
    (sequence_in (layout w) _ m.members m.within) in
    let b = first_in (layout w) named.Knowns _ (λ x. All (IsKnown w.is_agent) (parts x)) (all_known w) a.others a.rest in
    let c = first_in (layout w) named.NonSpecifics [] (λ x. All (IsNonSpecific w.is_agent) (parts x)) (others_are w) b.others
    b.rest in
    let is : n ≡ three a.first b.first c.first =
    m.is_many ∙ ap Many (a.split ∙ ap (More a.first) (b.split ∙ ap (More b.first) (c.split ∙ ap (More c.first)
    (sequence_over (layout w) c.others c.rest)))) in
    subst (IsTotal w.is_agent) (sym is) (a.is, b.is, c.is)

unchosen : (is_agent : List ℕ → Bool) (n : Node) → is_chosen n ≡ false → IsRefresh is_agent n
unchosen is_agent (Chosen tag n) h = absurd (cc h)
unchosen is_agent Vacant h = tt
unchosen is_agent (Flag b) h = tt
unchosen is_agent (Number k) h = tt
unchosen is_agent (Oid arcs) h = tt
unchosen is_agent (Bits b) h = tt
unchosen is_agent (Octets o) h = tt
unchosen is_agent (nodes.Text t) h = tt
unchosen is_agent (Many ns) h = tt

-- each type with a tag of its own has one of two, and an element of a type
abbrev is_low : Alternative → Bool
is_low a = if a.marked then nat_lt a.tag 2 else true

abbrev is_whole : Alternative → Bool
is_whole a = if a.marked then is_explicit a.content else true

if_so : (a b : Bool) → (if a then b else true) ≡ true → a ≡ true → b ≡ true
if_so true b h e = h
if_so false b h e = absurd (cc e)

refresh_by : (w : Surroundings) (n : Node) (c : IsChoice (layout w) (layout w named.Refresh) n) (tag : ℕ)
    → find (is_marked tag) (layout w named.Refresh) ≡ Some c.alternative → IsRefresh w.is_agent (Chosen tag c.inner)
refresh_by w n c zero e = total_is w c.inner (inner_fits (layout w) (layout w named.Refresh) n c named.Total _ refl e)
refresh_by w n c (suc zero) e = steps_are w c.inner (inner_fits (layout w) (layout w named.Refresh) n c named.Steps _ refl e)
refresh_by w n c (suc (suc k)) e =
    let a = c.alternative in
    let found = of_find (is_marked (suc (suc k))) a (layout w named.Refresh) e in
    let both = both_true a.marked (a.tag == suc (suc k)) found.1 in
    let low = ltb-true a.tag 2
    (if_so a.marked (nat_lt a.tag 2) (of_all is_low a (layout w named.Refresh) refl found.0) both.0) in
    let same = eqb-true a.tag (suc (suc k)) both.1 in
    absurd (omega (arith, low, same))

refresh_is : (w : Surroundings) (n : Node) → Fits (layout w) (layout w named.Refresh) n → IsRefresh w.is_agent n
refresh_is w n (whole a octets free held unmarked writes settles) = unchosen w.is_agent n free
refresh_is w _ (made a held unmarked empty inside settles) = tt
refresh_is w _ (chosen {n} a tag form found c f settles) =
    refresh_by w (Chosen tag n)
    (record { tag = tag; inner = n; is = refl; alternative = a; found = found; form = form; explicit = c; fits_inner = f }) tag found
refresh_is w _ (chosen_made {ns} a tag found inside settles) =
    let there = of_find (is_marked tag) a (layout w named.Refresh) found in
    let both = both_true a.marked (a.tag == tag) there.1 in
    absurd (no_explicit (layout w) a.content ns
    (if_so a.marked (is_explicit a.content) (of_all is_whole a (layout w named.Refresh) refl there.0) both.0) inside)

-- ---- numbers and moments

count_is : (low high : ℕ) → high < 2 ^ 32 → (n : Node) → IsNumber low high n → IsCount n
count_is low high small n i = subst IsCount (sym i.is) (small_count i.value (omega (arith, i.most, small)))

small_is : (low high : ℕ) → high < 2 ^ 8 → (n : Node) → IsNumber low high n → IsSmall n
small_is low high small n i = subst IsSmall (sym i.is) (by i.value (omega (arith, i.most, small)))
  where
    by : (m : ℕ) → m < 2 ^ 8 → IsSmall (Number (pos m))
    by m less k e = (let same : m ≡ k = cc in subst (λ (x : ℕ). x < 2 ^ 8) same less)

agreement_is : (w : Surroundings) (n : Node) → Fits (layout w) (layout w named.Agreement) n → IsCount n
agreement_is w n f = count_is 0 4294967295 (omega arith) n (number_said w 0 4294967295 n f)

strategy_is : (w : Surroundings) (n : Node) → Fits (layout w) (layout w (named.Enumeration 1 2)) n → IsCount n
strategy_is w n f = count_is 1 2 (omega arith) n (enumeration_said w 1 2 n f)

writes_time : (w : Surroundings) → AreFew w → (n : Node) (octets : List ℕ) → (time_leaf w).writes n ≡ Some octets → IsCount n
writes_time w few (Number (pos m)) octets h = small_count m (few m octets h)
writes_time w few (Number (negsuc m)) octets h = absurd (cc h)
writes_time w few Vacant octets h = absurd (cc h)
writes_time w few (Flag b) octets h = absurd (cc h)
writes_time w few (Oid arcs) octets h = absurd (cc h)
writes_time w few (Bits b) octets h = absurd (cc h)
writes_time w few (Octets o) octets h = absurd (cc h)
writes_time w few (nodes.Text t) octets h = absurd (cc h)
writes_time w few (Chosen tag n) octets h = absurd (cc h)
writes_time w few (Many ns) octets h = absurd (cc h)

time_is : (w : Surroundings) → AreFew w → (n : Node) → Fits (layout w) (layout w named.Time) n → IsCount n
time_is w few n f =
    let v = only_leaf (layout w) (universal 24 (Joined (time_leaf w))) n refl refl f in
    writes_time w few n v.0 v.1

-- ---- arguments, results and errors

abbrev IsCounted : Node → Type 0
IsCounted n = IsCount n

-- what is asked or told with the operation of that code, which brings nothing
asked_is : (w : Surroundings) → AreFew w → (code : ℕ) → (code == 2) ≡ false → (n : Node)
    → Fits (layout w) (layout w named.ShadowArgument) n → IsArgument w.is_agent code n
asked_is w few code other n f =
    let m = only_made (layout w)
    (layouts.sequence (plain named.Agreement ∷ or Vacant (at 0 named.Time) ∷ plain (named.Enumeration 1 2) ∷ [])) n refl refl f in
    let a = first_in (layout w) named.Agreement _ IsCounted (agreement_is w) m.members
    (sequence_in (layout w) _ m.members m.within) in
    let b = maybe_in (layout w) Vacant (at 0 named.Time) _ IsCounted no_count (time_is w few) a.others a.rest in
    let c = first_in (layout w) (named.Enumeration 1 2) [] IsCounted (strategy_is w) b.others b.rest in
    let is : n ≡ three a.first b.first c.first =
    m.is_many ∙ ap Many (a.split ∙ ap (More a.first) (b.split ∙ ap (More b.first) (c.split ∙ ap (More c.first)
    (sequence_over (layout w) c.others c.rest)))) in
    subst (IsArgument w.is_agent code) (sym is) (a.is, b.is, rw other c.is)

sent_is : (w : Surroundings) → AreFew w → (n : Node) → Fits (layout w) (layout w named.UpdateArgument) n
    → IsArgument w.is_agent 2 n
sent_is w few n f =
    let m = only_made (layout w)
    (layouts.sequence (plain named.Agreement ∷ plain named.Time ∷ plain named.Refresh ∷ [])) n refl refl f in
    let a = first_in (layout w) named.Agreement _ IsCounted (agreement_is w) m.members
    (sequence_in (layout w) _ m.members m.within) in
    let b = first_in (layout w) named.Time _ IsCounted (time_is w few) a.others a.rest in
    let c = first_in (layout w) named.Refresh [] (IsRefresh w.is_agent) (refresh_is w) b.others b.rest in
    let is : n ≡ three a.first b.first c.first =
    m.is_many ∙ ap Many (a.split ∙ ap (More a.first) (b.split ∙ ap (More b.first) (c.split ∙ ap (More c.first)
    (sequence_over (layout w) c.others c.rest)))) in
    subst (IsArgument w.is_agent 2) (sym is) (a.is, b.is, c.is)

failed_is : (w : Surroundings) → AreFew w → (n : Node) → Fits (layout w) (layout w named.ShadowError) n → IsFailed n
failed_is w few n f =
    let m = only_made (layout w)
    (layouts.sequence (plain (named.NumberBelow 1 11) ∷ or Vacant (at 0 named.Time) ∷ or Vacant (at 1 named.Time) ∷ [])) n refl
    refl f in
    let a = first_in (layout w) (named.NumberBelow 1 11) _ IsSmall
    (λ x g. small_is 1 11 (omega arith) x (number_said w 1 11 x g)) m.members (sequence_in (layout w) _ m.members m.within) in
    let b = maybe_in (layout w) Vacant (at 0 named.Time) _ IsCounted no_count (time_is w few) a.others a.rest in
    let c = maybe_in (layout w) Vacant (at 1 named.Time) [] IsCounted no_count (time_is w few) b.others b.rest in
    let is : n ≡ three a.first b.first c.first =
    m.is_many ∙ ap Many (a.split ∙ ap (More a.first) (b.split ∙ ap (More b.first) (c.split ∙ ap (More c.first)
    (sequence_over (layout w) c.others c.rest)))) in
    subst IsFailed (sym is) (a.is, b.is, c.is)

-- ---- codes

abbrev code_of : ℤ → ℕ
code_of k = or_zero (number_in (Number k))

argument_coded : (w : Surroundings) → AreFew w → (k : ℤ) (form : named.Named) (n : Node)
    → named_by layouts.shadow_operations k ≡ Some form → Fits (layout w) (layout w form) n
    → IsCount (Number k) × IsArgument w.is_agent (code_of k) n
argument_coded w few (negsuc m) form n e f = absurd (cc e)
argument_coded w few (pos zero) form n e f = absurd (cc e)
argument_coded w few (pos (suc zero)) form n e f =
    let same : form ≡ named.ShadowArgument = cc in
    (small_count 1 (omega arith), asked_is w few 1 refl n (subst (λ (x : named.Named). Fits (layout w) (layout w x) n) same f))
argument_coded w few (pos (suc (suc zero))) form n e f =
    let same : form ≡ named.UpdateArgument = cc in
    (small_count 2 (omega arith), sent_is w few n (subst (λ (x : named.Named). Fits (layout w) (layout w x) n) same f))
argument_coded w few (pos (suc (suc (suc zero)))) form n e f =
    let same : form ≡ named.ShadowArgument = cc in
    (small_count 3 (omega arith), asked_is w few 3 refl n (subst (λ (x : named.Named). Fits (layout w) (layout w x) n) same f))
argument_coded w few (pos (suc (suc (suc (suc m))))) form n e f =
    absurd (omega (arith, code_below layouts.shadow_operations (suc (suc (suc (suc m)))) 4 form refl e))

result_coded : (k : ℤ) (form : named.Named) → named_by layouts.shadow_results k ≡ Some form → IsSmall (Number k)
result_coded (negsuc m) form e = absurd (cc e)
result_coded (pos m) form e = λ k h.
    let same : m ≡ k = cc in
    let low = code_below layouts.shadow_results m 4 form refl e in
    subst (λ (x : ℕ). x < 2 ^ 8) same (omega (arith, low))

done_is : (w : Surroundings) (n : Node) → Fits (layout w) (layout w named.DispResult) n → IsDone n
done_is w n f =
    let m = only_made (layout w) (layouts.result_inner layouts.shadow_results) n refl refl f in
    let c = coded_in (layout w) (named_by layouts.shadow_results) m.members (sequence_in (layout w) _ m.members m.within) in
    subst IsDone (sym (m.is_many ∙ ap Many c.split)) (result_coded c.number c.form c.names_it)

error_coded : (w : Surroundings) → AreFew w → (k : ℤ) (form : named.Named) (n : Node)
    → named_by layouts.shadow_errors k ≡ Some form → Fits (layout w) (layout w form) n → IsCount (Number k) × IsFailed n
error_coded w few (negsuc m) form n e f = absurd (cc e)
error_coded w few (pos zero) form n e f = absurd (cc e)
error_coded w few (pos (suc zero)) form n e f =
    let same : form ≡ named.ShadowError = cc in
    (small_count 1 (omega arith), failed_is w few n (subst (λ (x : named.Named). Fits (layout w) (layout w x) n) same f))
error_coded w few (pos (suc (suc m))) form n e f =
    absurd (omega (arith, code_below layouts.shadow_errors (suc (suc m)) 2 form refl e))

-- ---- messages

message_by : (w : Surroundings) → AreFew w → (tag : ℕ) (a : Alternative) (ns : Nodes)
    → find (is_marked tag) (layout w named.DispMessage) ≡ Some a → FitsIn (layout w) a.content ns
    → IsMessage w.is_agent (Chosen tag (Many ns))
message_by w few zero a ns found inside = absurd (cc found)
message_by w few (suc zero) a ns found inside =
    let invoke : Alternative = layouts.invoke layouts.shadow_operations in
    let same : a ≡ invoke = cc in
    let i = invoke_in w layouts.shadow_operations ns
    (sequence_in (layout w) _ ns (subst (λ (x : Alternative). FitsIn (layout w) x.content ns) same inside)) in
    let said = argument_coded w few i.number i.form i.said i.names_it i.fits_said in
    subst (λ (x : Nodes). IsMessage w.is_agent (Chosen 1 (Many x))) (sym i.split)
    (small_count i.id (omega (arith, i.small)), said.0, said.1)
message_by w few (suc (suc zero)) a ns found inside =
    let result : Alternative = layouts.result named.DispResult in
    let same : a ≡ result = cc in
    let i = first_in (layout w) (named.NumberBelow 0 4294967295) _ IsCounted
    (λ x g. count_is 0 4294967295 (omega arith) x (number_said w 0 4294967295 x g)) ns
    (sequence_in (layout w) _ ns (subst (λ (x : Alternative). FitsIn (layout w) x.content ns) same inside)) in
    let inner = first_in (layout w) named.DispResult [] IsDone (done_is w) i.others i.rest in
    let split : ns ≡ More i.first (More inner.first Nil) =
    i.split ∙ ap (More i.first) (inner.split ∙ ap (More inner.first) (sequence_over (layout w) inner.others inner.rest)) in
    subst (λ (x : Nodes). IsMessage w.is_agent (Chosen 2 (Many x))) (sym split) (i.is, inner.is)
message_by w few (suc (suc (suc zero))) a ns found inside =
    let error : Alternative = layouts.error layouts.shadow_errors in
    let same : a ≡ error = cc in
    let i = invoke_in w layouts.shadow_errors ns
    (sequence_in (layout w) _ ns (subst (λ (x : Alternative). FitsIn (layout w) x.content ns) same inside)) in
    let said = error_coded w few i.number i.form i.said i.names_it i.fits_said in
    subst (λ (x : Nodes). IsMessage w.is_agent (Chosen 3 (Many x))) (sym i.split)
    (small_count i.id (omega (arith, i.small)), said.0, said.1)
message_by w few (suc (suc (suc (suc k)))) a ns found inside =
    absurd (omega (arith, tag_below (layout w named.DispMessage) (suc (suc (suc (suc k)))) 4 a refl found))

pub message_fits : (w : Surroundings) → AreFew w → (n : Node) → Fits (layout w) (layout w named.DispMessage) n
    → IsMessage w.is_agent n
message_fits w few n f =
    let m = marked_in (layout w) (layout w named.DispMessage) n refl refl f in
    subst (IsMessage w.is_agent) (sym m.is) (message_by w few m.tag m.alternative m.members m.found m.within)
