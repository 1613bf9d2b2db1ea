-- What is of a type where there's no world is of it in any surroundings: no time and no world's agent is read there.
use Rattle.std.proofs.Common.{◌≡◌, ℕ, ◌==◌, ◌&&◌, Bool, true, false, List, [], ◌∷◌, refl, ap, sym, ◌∙◌, subst}
use Rattle.std.specs.Prelude.{if◌then◌else◌}
use Rattle.std.specs.declared.option.Option.{Option}
use Rattle.std.specs.declared.option.Option.TheVariants.{None, Some}
use Rattle.x5_model_typed.specs.Trees.{Tree, Trees}
use Rattle.x5_model_typed.specs.Nodes.{Node, Text}
use Rattle.x5_model_typed.specs.Forms.{Leaf, Content, Joined, Alternative, Layout, by_tag, has_tag, may_be_tagged}
use Rattle.x5_model_typed.specs.Forms.{tagged, universal}
use Rattle.x5_model_typed.specs.Judged.{leaf_node}
use Rattle.x5_model_typed.specs.Leaves.{is_agent_name, text_where, where_so}
use Rattle.x5_model_typed.specs.Layouts.{Surroundings, layout, time_leaf}
use Rattle.x5_model_typed.specs.Typed as typed
use Rattle.x5_model_typed.specs.Typed.{IsOf, Holds}
use Rattle.x5_types.specs.FormView.{nowhere}
use Rattle.x5_model_typed.specs.Named.{Named, DapRequest, DapAnswer, DspRequest, DspAnswer, DispMessage}
use Rattle.x5_model_typed.specs.Named.{Argument, Chained, DapResult, DspResult, DispResult, Outcome, AnyNumber}
use Rattle.x5_model_typed.specs.Named.{NumberBelow, Enumeration, Boolean, Null, AnyOid, Value, Part, AgentName}
use Rattle.x5_model_typed.specs.Named.{Time, Options, RefType, Name, Rdn, Rdns, Pair, Attribute, Attributes}
use Rattle.x5_model_typed.specs.Named.{Values, TypeList, Selection, Controls, Assertion, Changes, Change, Filter}
use Rattle.x5_model_typed.specs.Named.{Filters, Item, Substrings, Parts, PlacedPart, Chaining, Progress, Trace}
use Rattle.x5_model_typed.specs.Named.{TraceItem, Agents, Agent, Reference, References, Source, Sources}
use Rattle.x5_model_typed.specs.Named.{EntryInfo, EntryInfos, Sub, Subs, Qualifier, AttributeError, NameError}
use Rattle.x5_model_typed.specs.Named.{ServiceError, UpdateError, ShadowError, Agreement, ShadowArgument}
use Rattle.x5_model_typed.specs.Named.{UpdateArgument, Refresh, Total, Entries, Entry, Knowns, Known}
use Rattle.x5_model_typed.specs.Named.{NonSpecifics, NonSpecific, WorldAgents, WorldAgent, WorldAgentName, Steps}
use Rattle.x5_model_typed.specs.Named.{Step, Renamed}
use Rattle.x5_model_typed.specs.Named.{LdapMessage, LdapResponse, LdapOperation, LdapAnswer, LdapString, LdapStrings}
use Rattle.x5_model_typed.specs.Named.{LdapValues, LdapSomeValues, LdapAttribute, LdapShown, LdapNewAttribute}
use Rattle.x5_model_typed.specs.Named.{LdapNewAttributes, LdapChange, LdapChanges, LdapAssertion, LdapFilter, LdapPiece}
use Rattle.x5_model_typed.specs.Named.{LdapPieces, LdapAuthentication, LdapSuperior, LdapExtension, LdapExtensionValue}
use Rattle.x5_model_typed.specs.Named.{LdapMatchingRule, LdapMatchedType, LdapMatchedValue, LdapMatchesNames}
use Rattle.x5_model_typed.specs.Named.{LdapControl, LdapControls}

-- ---- one alternative

found_so : (x : Alternative) (b c : Bool) → b ≡ c
    → (if b then Some x else None) ≡ (let o : Option Alternative = if c then Some x else None in o)
found_so x b c e = ap (λ (d : Bool). let o : Option Alternative = if d then Some x else None in o) e

found_one : (class tag : ℕ) (x a : Alternative) (b : Bool) → has_tag class tag x ≡ b
    → by_tag class tag (x ∷ []) ≡ Some a → x ≡ a
found_one class tag x a true e f =
    let same : Some x ≡ Some a = sym (found_so x (has_tag class tag x) true e) ∙ f in cc same
found_one class tag x a false e f =
    let none : None ≡ Some a = sym (found_so x (has_tag class tag x) false e) ∙ f in absurd (cc none)

same_tag : (class tag : ℕ) (x y : Alternative) (b : Bool) → has_tag class tag x ≡ b → has_tag class tag y ≡ b
    → may_be_tagged class tag (x ∷ []) ≡ may_be_tagged class tag (y ∷ [])
same_tag class tag x y true e f = rw (e, f) refl
same_tag class tag x y false e f = rw (e, f) refl

-- A string in segments is read from their octets.
string_read : (l : Layout) (c : Content) (ts : Trees) (m : Node) (leaf : Leaf (List ℕ)) → c ≡ Joined leaf
    → Holds l c ts m → (octets : List ℕ) × (leaf.reads octets ≡ Some m)
string_read l c ts m leaf e (typed.one h) = absurd (cc e)
string_read l c ts m leaf e (typed.in_order h) = absurd (cc e)
string_read l c ts m leaf e (typed.in_any_order h) = absurd (cc e)
string_read l c ts m leaf e (typed.each h) = absurd (cc e)
string_read l c ts m leaf e (typed.string octets other h r) =
    let same : other ≡ leaf = cc e in (octets, ap (λ (k : Leaf (List ℕ)). k.reads octets) (sym same) ∙ r)
string_read l c ts m leaf e (typed.bit_string bits other h r) = absurd (cc e)

-- Nothing is of a type whose leaf reads nothing.
silent : (l : Layout) (x : Alternative) (leaf : Leaf (List ℕ)) → x.content ≡ Joined leaf
    → ((octets : List ℕ) → leaf.reads octets ≡ None) → (t : Tree) (n : Node) → IsOf l (x ∷ []) t n → ⊥
silent l x leaf e none t n (typed.primitive {class = class} {tag = tag} {octets = octets} a m k found reads settles) =
    let same : x ≡ a = found_one class tag x a (has_tag class tag x) refl found in
    let content : Joined leaf ≡ a.content = sym e ∙ ap (λ (b : Alternative). b.content) same in
    let read : leaf.reads octets ≡ Some m = ap (λ (c : Content). leaf_node c octets) content ∙ reads in
    let nothing : None ≡ Some m = sym (none octets) ∙ read in
    cc nothing
silent l x leaf e none t n
    (typed.constructed {class = class} {tag = tag} {members = members} a m k found holds settles) =
    let same : x ≡ a = found_one class tag x a (has_tag class tag x) refl found in
    let content : a.content ≡ Joined leaf = sym (ap (λ (b : Alternative). b.content) same) ∙ e in
    let r = string_read l a.content members m leaf content holds in
    let nothing : None ≡ Some m = sym (none r.0) ∙ r.1 in
    cc nothing

-- ---- times and agents of a world

abbrev time_of : Surroundings → Alternative
time_of w = universal 24 (Joined (time_leaf w))

abbrev time_here : ℕ → ℕ → Bool
time_here class tag = (0 == class) && (24 == tag)

no_moment : (octets : List ℕ) → (time_leaf nowhere).reads octets ≡ None
no_moment octets = refl

abbrev agent_test : Surroundings → List ℕ → Bool
agent_test w t = if is_agent_name t then w.is_agent t else false

abbrev agent_of : Surroundings → Alternative
agent_of w = universal 19 (Joined (text_where (agent_test w)))

abbrev agent_here : ℕ → ℕ → Bool
agent_here class tag = (0 == class) && (19 == tag)

no_agent : (octets : List ℕ) → (text_where (agent_test nowhere)).reads octets ≡ None
no_agent octets = by (is_agent_name octets)
  where
    by : (b : Bool) → where_so (if b then false else false) (Text octets) ≡ None
    by true = refl
    by false = refl

-- ---- the table

-- The type has the same tags everywhere, and whatever is of it where there is no world.
pub record Anywhere (w : Surroundings) (form : Named) : Type 0 where
  pub tags : (class tag : ℕ) → may_be_tagged class tag (layout nowhere form) ≡ may_be_tagged class tag (layout w form)
  pub values : (l : Layout) (t : Tree) (n : Node) → IsOf l (layout nowhere form) t n → IsOf l (layout w form) t n

alike : (w : Surroundings) (form : Named) → layout nowhere form ≡ layout w form → Anywhere w form
alike w form e = record {
  tags = λ class tag. ap (may_be_tagged class tag) e;
  values = λ l t n is. subst (λ (types : List Alternative). IsOf l types t n) e is;
}

pub anywhere : (w : Surroundings) (form : Named) → Anywhere w form
anywhere w DapRequest = alike w DapRequest refl
anywhere w DapAnswer = alike w DapAnswer refl
anywhere w DspRequest = alike w DspRequest refl
anywhere w DspAnswer = alike w DspAnswer refl
anywhere w DispMessage = alike w DispMessage refl
anywhere w (Argument operation) = alike w (Argument operation) refl
anywhere w (Chained operation) = alike w (Chained operation) refl
anywhere w DapResult = alike w DapResult refl
anywhere w DspResult = alike w DspResult refl
anywhere w DispResult = alike w DispResult refl
anywhere w (Outcome operation) = alike w (Outcome operation) refl
anywhere w AnyNumber = alike w AnyNumber refl
anywhere w (NumberBelow low high) = alike w (NumberBelow low high) refl
anywhere w (Enumeration low high) = alike w (Enumeration low high) refl
anywhere w Boolean = alike w Boolean refl
anywhere w Null = alike w Null refl
anywhere w AnyOid = alike w AnyOid refl
anywhere w Value = alike w Value refl
anywhere w Part = alike w Part refl
anywhere w AgentName = alike w AgentName refl
anywhere w Time = record {
  tags = λ class tag. same_tag class tag (time_of nowhere) (time_of w) (time_here class tag) refl refl;
  values = λ l t n is. absurd (silent l (time_of nowhere) (time_leaf nowhere) refl no_moment t n is);
}
anywhere w Options = alike w Options refl
anywhere w RefType = alike w RefType refl
anywhere w Name = alike w Name refl
anywhere w Rdn = alike w Rdn refl
anywhere w Rdns = alike w Rdns refl
anywhere w Pair = alike w Pair refl
anywhere w Attribute = alike w Attribute refl
anywhere w Attributes = alike w Attributes refl
anywhere w Values = alike w Values refl
anywhere w TypeList = alike w TypeList refl
anywhere w Selection = alike w Selection refl
anywhere w Controls = alike w Controls refl
anywhere w Assertion = alike w Assertion refl
anywhere w Changes = alike w Changes refl
anywhere w Change = alike w Change refl
anywhere w (Filter levels) = alike w (Filter levels) refl
anywhere w (Filters levels) = alike w (Filters levels) refl
anywhere w Item = alike w Item refl
anywhere w Substrings = alike w Substrings refl
anywhere w Parts = alike w Parts refl
anywhere w PlacedPart = alike w PlacedPart refl
anywhere w Chaining = alike w Chaining refl
anywhere w Progress = alike w Progress refl
anywhere w Trace = alike w Trace refl
anywhere w TraceItem = alike w TraceItem refl
anywhere w Agents = alike w Agents refl
anywhere w Agent = alike w Agent refl
anywhere w Reference = alike w Reference refl
anywhere w References = alike w References refl
anywhere w Source = alike w Source refl
anywhere w Sources = alike w Sources refl
anywhere w EntryInfo = alike w EntryInfo refl
anywhere w EntryInfos = alike w EntryInfos refl
anywhere w Sub = alike w Sub refl
anywhere w Subs = alike w Subs refl
anywhere w Qualifier = alike w Qualifier refl
anywhere w AttributeError = alike w AttributeError refl
anywhere w NameError = alike w NameError refl
anywhere w ServiceError = alike w ServiceError refl
anywhere w UpdateError = alike w UpdateError refl
anywhere w ShadowError = alike w ShadowError refl
anywhere w Agreement = alike w Agreement refl
anywhere w ShadowArgument = alike w ShadowArgument refl
anywhere w UpdateArgument = alike w UpdateArgument refl
anywhere w Refresh = alike w Refresh refl
anywhere w Total = alike w Total refl
anywhere w Entries = alike w Entries refl
anywhere w Entry = alike w Entry refl
anywhere w Knowns = alike w Knowns refl
anywhere w Known = alike w Known refl
anywhere w NonSpecifics = alike w NonSpecifics refl
anywhere w NonSpecific = alike w NonSpecific refl
anywhere w WorldAgents = alike w WorldAgents refl
anywhere w WorldAgent = alike w WorldAgent refl
anywhere w WorldAgentName = record {
  tags = λ class tag. same_tag class tag (agent_of nowhere) (agent_of w) (agent_here class tag) refl refl;
  values = λ l t n is. absurd (silent l (agent_of nowhere) (text_where (agent_test nowhere)) refl no_agent t n is);
}
anywhere w Steps = alike w Steps refl
anywhere w Step = alike w Step refl
anywhere w Renamed = alike w Renamed refl
anywhere w LdapMessage = alike w LdapMessage refl
anywhere w LdapResponse = alike w LdapResponse refl
anywhere w LdapOperation = alike w LdapOperation refl
anywhere w LdapAnswer = alike w LdapAnswer refl
anywhere w LdapString = alike w LdapString refl
anywhere w LdapStrings = alike w LdapStrings refl
anywhere w LdapValues = alike w LdapValues refl
anywhere w LdapSomeValues = alike w LdapSomeValues refl
anywhere w LdapAttribute = alike w LdapAttribute refl
anywhere w LdapShown = alike w LdapShown refl
anywhere w LdapNewAttribute = alike w LdapNewAttribute refl
anywhere w LdapNewAttributes = alike w LdapNewAttributes refl
anywhere w LdapChange = alike w LdapChange refl
anywhere w LdapChanges = alike w LdapChanges refl
anywhere w LdapAssertion = alike w LdapAssertion refl
anywhere w LdapFilter = alike w LdapFilter refl
anywhere w LdapPiece = alike w LdapPiece refl
anywhere w LdapPieces = alike w LdapPieces refl
anywhere w LdapAuthentication = alike w LdapAuthentication refl
anywhere w LdapSuperior = alike w LdapSuperior refl
anywhere w LdapExtension = alike w LdapExtension refl
anywhere w LdapExtensionValue = alike w LdapExtensionValue refl
anywhere w LdapMatchingRule = alike w LdapMatchingRule refl
anywhere w LdapMatchedType = alike w LdapMatchedType refl
anywhere w LdapMatchedValue = alike w LdapMatchedValue refl
anywhere w LdapMatchesNames = alike w LdapMatchesNames refl
anywhere w LdapControl = alike w LdapControl refl
anywhere w LdapControls = alike w LdapControls refl

-- ---- components

pub tags_anywhere : (w : Surroundings) (own : Option ℕ) (form : Named) (class tag : ℕ)
    → may_be_tagged class tag (tagged (layout nowhere) own form) ≡ may_be_tagged class tag (tagged (layout w) own form)
tags_anywhere w None form class tag = (anywhere w form).tags class tag
tags_anywhere w (Some k) form class tag = refl

pub values_anywhere : (w : Surroundings) (tag : Option ℕ) (form : Named) (l : Layout) (t : Tree) (n : Node)
    → IsOf l (tagged (layout nowhere) tag form) t n → IsOf l (tagged (layout w) tag form) t n
values_anywhere w None form l t n is = (anywhere w form).values l t n is
values_anywhere w (Some k) form l t n is = is
