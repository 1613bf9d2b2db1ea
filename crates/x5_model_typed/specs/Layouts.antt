-- The types of messages (X.511, X.518, X.519, X.525, with numbers of this project's own where the
-- standards' aren't used). docs/FORMATS.md shows them in the notation of X.680.
use Rattle.std.specs.Prelude.{ℕ, ◌-◌, ◌==◌, ℤ, pos, negsuc, Bool, true, false, if◌then◌else◌, List, [], ◌∷◌, List}
use Rattle.std.specs.Option.{is_some}
use Rattle.std.specs.declared.option.Option.{Option}
use Rattle.std.specs.declared.option.Option.TheVariants.{None, Some}
use Rattle.x5_model.specs.Normal.{is_printable}
use Rattle.x5_model_typed.specs.Nodes.{Node, Vacant, Flag, Number, Chosen, Many, Nil, whole, row}
use Rattle.x5_model_typed.specs.Named.{Named, Operation, Read, Compare, ListBelow, Search, AddEntry, RemoveEntry}
use Rattle.x5_model_typed.specs.Named.{ModifyEntry, ModifyDn, DapRequest, DapAnswer, DspRequest, DspAnswer, DispMessage}
use Rattle.x5_model_typed.specs.Named.{Argument, Chained, DapResult, DspResult, DispResult, Outcome, AnyNumber}
use Rattle.x5_model_typed.specs.Named.{NumberBelow, Enumeration, Boolean, Null, AnyOid, Value, Part, AgentName, Time}
use Rattle.x5_model_typed.specs.Named.{Options, RefType, Name, Rdn, Rdns, Pair, Attribute, Attributes, Values, TypeList}
use Rattle.x5_model_typed.specs.Named.{Selection, Controls, Assertion, Changes, Change, Filter, Filters, Item}
use Rattle.x5_model_typed.specs.Named.{Substrings, Parts, PlacedPart, Chaining, Progress, Trace, TraceItem, Agents}
use Rattle.x5_model_typed.specs.Named.{Agent, Reference, References, Source, Sources, EntryInfo, EntryInfos, Sub, Subs}
use Rattle.x5_model_typed.specs.Named.{Qualifier, AttributeError, NameError, ServiceError, UpdateError, ShadowError}
use Rattle.x5_model_typed.specs.Named.{Agreement, ShadowArgument, UpdateArgument, Refresh, Total, Entries, Entry}
use Rattle.x5_model_typed.specs.Named.{Knowns, Known, NonSpecifics, NonSpecific, WorldAgents, WorldAgent}
use Rattle.x5_model_typed.specs.Named.{WorldAgentName, Steps, Step, Renamed}
use Rattle.x5_model_typed.specs.Named.{LdapMessage, LdapResponse, LdapOperation, LdapAnswer, LdapString, LdapStrings}
use Rattle.x5_model_typed.specs.Named.{LdapValues, LdapSomeValues, LdapAttribute, LdapShown, LdapNewAttribute}
use Rattle.x5_model_typed.specs.Named.{LdapNewAttributes, LdapChange, LdapChanges, LdapAssertion, LdapFilter, LdapPiece}
use Rattle.x5_model_typed.specs.Named.{LdapPieces, LdapAuthentication, LdapSuperior, LdapExtension, LdapExtensionValue}
use Rattle.x5_model_typed.specs.Named.{LdapMatchingRule, LdapMatchedType, LdapMatchedValue, LdapMatchesNames}
use Rattle.x5_model_typed.specs.Named.{LdapControl, LdapControls}
use Rattle.x5_model_typed.specs.Forms.{Leaf, Component, Primitive, Joined, JoinedBits, Explicit, Sequence, Set, Members}
use Rattle.x5_model_typed.specs.Forms.{Never, Alternative, Layout, universal, context, choice, ruled, plain, at, or}
use Rattle.x5_model_typed.specs.Forms.{code, any_node, Content}
use Rattle.x5_model_typed.specs.Leaves.{boolean, null, number, any_number, from_to, one_of, oid, any_oid, short_oid}
use Rattle.x5_model_typed.specs.Leaves.{octet_string, any_octets, placed, text_where, text_of, is_numeric}
use Rattle.x5_model_typed.specs.Leaves.{is_seven_bit, universal_string, is_agent_name, options, options_node, where_so}
use Rattle.x5_model_typed.specs.Rules.{name_rule, rdn_rule, pair_rule, some_members, controls_rule, text_rule}
use Rattle.x5_model_typed.specs.Rules.{parts_rule, pieces_rule, progress_rule, trace_rule, entry_rule, known_rule}
use Rattle.x5_model_typed.specs.Rules.{masters_rule}

-- What shadow messages are read and written with: the moments that times are, the times of the moments that have one,
-- and the world's agents.
pub record Surroundings : Type 0 where
  pub moment : List ℕ → Option ℕ
  pub time : ℕ → Option (List ℕ)
  pub is_agent : List ℕ → Bool

-- ---- words of the table

abbrev pub is : Alternative → List Alternative
is a = a ∷ []

abbrev pub sequence : List Component → Alternative
sequence components = universal 16 (Sequence components)

abbrev pub set : List Component → Alternative
set components = universal 17 (Set components)

abbrev pub sequence_of : Named → Alternative
sequence_of type = universal 16 (Members type)

abbrev pub set_of : Named → Alternative
set_of type = universal 17 (Members type)

abbrev pub integer : (ℤ → Bool) → Alternative
integer test = universal 2 (Primitive (number test))

-- which may be missing; it is then vacant
abbrev pub optional : Component → Component
optional = or Vacant

-- which is the list of nothing where it is missing
abbrev pub or_nothing : Component → Component
or_nothing = or (Many Nil)

-- ---- codes

abbrev pub named_by : List (ℕ × Named) → ℤ → Option Named
named_by [] k = None
named_by (r ∷ rows) (pos n) = if r.0 == n then Some r.1 else named_by rows (pos n)
named_by rows (negsuc n) = None

abbrev pub operation_codes : (Operation → Named) → List (ℕ × Named)
operation_codes of =
    (1, of Read) ∷ (2, of Compare) ∷ (4, of ListBelow) ∷ (5, of Search) ∷ (6, of AddEntry) ∷ (7, of RemoveEntry)
    ∷ (8, of ModifyEntry) ∷ (9, of ModifyDn) ∷ []

abbrev pub dap_errors : List (ℕ × Named)
dap_errors = (1, AttributeError) ∷ (2, NameError) ∷ (3, ServiceError) ∷ (4, Reference) ∷ (8, UpdateError) ∷ []

abbrev pub dsp_errors : List (ℕ × Named)
dsp_errors = (1, AttributeError) ∷ (2, NameError) ∷ (3, ServiceError) ∷ (8, UpdateError) ∷ (9, Reference) ∷ []

abbrev pub shadow_operations : List (ℕ × Named)
shadow_operations = (1, ShadowArgument) ∷ (2, UpdateArgument) ∷ (3, ShadowArgument) ∷ []

abbrev pub shadow_results : List (ℕ × Named)
shadow_results = (1, Null) ∷ (2, Null) ∷ (3, Null) ∷ []

abbrev pub shadow_errors : List (ℕ × Named)
shadow_errors = (1, ShadowError) ∷ []

-- ---- messages: an id, a code, and what the code says

abbrev pub id : Component
id = plain (NumberBelow 0 4294967295)

abbrev pub invoke : List (ℕ × Named) → Alternative
invoke codes = choice 1 (Sequence (id ∷ code AnyNumber (named_by codes) ∷ []))

abbrev pub result : Named → Alternative
result inner = choice 2 (Sequence (id ∷ plain inner ∷ []))

abbrev pub error : List (ℕ × Named) → Alternative
error codes = choice 3 (Sequence (id ∷ code AnyNumber (named_by codes) ∷ []))

abbrev pub result_inner : List (ℕ × Named) → Alternative
result_inner codes = sequence (code AnyNumber (named_by codes) ∷ [])

-- ---- defaults

abbrev pub no_controls : Node
no_controls = Many (row (options_node false false ∷ Vacant ∷ Vacant ∷ Vacant ∷ []))

abbrev pub all_attributes : Node
all_attributes = Many (row (Vacant ∷ []))

abbrev pub everything : Node
everything = Chosen 1 (Many Nil)

abbrev pub no_qualifier : Node
no_qualifier = Many (row (Vacant ∷ Many Nil ∷ []))

abbrev pub controls : Component
controls = or no_controls (at 30 Controls)

abbrev pub argument : Operation → List Component
argument Read = at 0 Name ∷ or all_attributes (at 1 Selection) ∷ controls ∷ []
argument Compare = at 0 Name ∷ at 1 Assertion ∷ controls ∷ []
argument ListBelow = at 0 Name ∷ controls ∷ []
argument Search = at 0 Name ∷ or (whole 0) (at 1 (NumberBelow 0 2)) ∷ or everything (at 2 (Filter 16))
    ∷ or all_attributes (at 4 Selection) ∷ controls ∷ []
argument AddEntry = at 0 Name ∷ at 1 Attributes ∷ controls ∷ []
argument RemoveEntry = at 0 Name ∷ controls ∷ []
argument ModifyEntry = at 0 Name ∷ at 1 Changes ∷ controls ∷ []
argument ModifyDn = at 0 Name ∷ at 1 Rdn ∷ or (Flag false) (at 2 Boolean) ∷ controls ∷ []

abbrev pub outcome : Operation → Alternative
outcome Read = set (at 0 EntryInfo ∷ at 1 Source ∷ [])
outcome Compare = set (at 0 Boolean ∷ or (Flag true) (at 1 Boolean) ∷ at 2 Source ∷ [])
outcome ListBelow = set (at 0 Subs ∷ at 1 Sources ∷ or no_qualifier (at 2 Qualifier) ∷ [])
outcome Search = set (at 0 EntryInfos ∷ at 1 Sources ∷ or no_qualifier (at 2 Qualifier) ∷ [])
outcome update = universal 5 (Primitive null)

-- a filter that is the 17th on its way has no right content
abbrev pub filter : ℕ → List Alternative
filter levels = if levels == 0 then choice 0 Never ∷ choice 1 Never ∷ choice 2 Never ∷ choice 3 Never ∷ []
    else choice 0 (Explicit Item) ∷ choice 1 (Explicit (Filters (levels - 1)))
    ∷ choice 2 (Explicit (Filters (levels - 1))) ∷ choice 3 (Explicit (Filter (levels - 1))) ∷ []

abbrev pub printable : Alternative
printable = universal 19 (Joined (text_where (text_of is_printable)))

abbrev pub agent_name : (List ℕ → Bool) → Alternative
agent_name test = universal 19 (Joined (text_where (λ t. if is_agent_name t then test t else false)))

abbrev pub any_agent : List ℕ → Bool
any_agent name = true

-- the moment of a time; one that has no time is none
abbrev pub time_leaf : Surroundings → Leaf (List ℕ)
time_leaf w = record { reads = λ octets. moment_node (w.moment octets); writes = writes }
  where
    moment_node : Option ℕ → Option Node
    moment_node None = None
    moment_node (Some m) = where_so (is_some (w.time m)) (whole m)

    writes : Node → Option (List ℕ)
    writes (Number (pos m)) = w.time m
    writes n = None

-- ---- messages of LDAP (RFC 4511, section 4 and appendix B: implicit tags, definite lengths, strings in one piece)

-- one of several, by its application tag; one whose values no other has needs no mark
abbrev pub application : Bool → ℕ → Content → Alternative
application marked tag content = record { class = 1; tag = tag; content = content; marked = marked; settles = any_node }

abbrev pub string : Content
string = Primitive any_octets

-- MessageID, and the limits of a search
abbrev pub count : Component
count = plain (NumberBelow 0 2147483647)

abbrev pub assertion : List Component
assertion = plain LdapString ∷ plain LdapString ∷ []

-- a part of a substrings item: initial, any or final by its tag
abbrev pub piece : ℕ → Alternative
piece tag = context tag (Primitive (placed tag))

-- what users ask
abbrev pub ldap_operations : List Alternative
ldap_operations =
    application true 0 (Sequence (plain (NumberBelow 1 127) ∷ plain LdapString ∷ plain LdapAuthentication ∷ []))
    ∷ application false 2 (Primitive null)
    ∷ application true 3 (Sequence (plain LdapString ∷ plain (Enumeration 0 2) ∷ plain (Enumeration 0 3) ∷ count ∷ count
    ∷ plain Boolean ∷ plain LdapFilter ∷ plain LdapStrings ∷ []))
    ∷ application true 6 (Sequence (plain LdapString ∷ plain LdapChanges ∷ []))
    ∷ application true 8 (Sequence (plain LdapString ∷ plain LdapNewAttributes ∷ []))
    ∷ application false 10 string
    ∷ application true 12 (Sequence (plain LdapString ∷ plain LdapString ∷ plain Boolean
    ∷ optional (plain LdapSuperior) ∷ []))
    ∷ application true 14 (Sequence (plain LdapString ∷ plain LdapAssertion ∷ []))
    ∷ application false 16 (Primitive (number (from_to 0 2147483647)))
    ∷ application true 23 (Sequence (plain LdapExtension ∷ optional (plain LdapExtensionValue) ∷ []))
    ∷ []

-- LDAPResult: a code, the matched name and a text
abbrev pub ldap_result : ℕ → Alternative
ldap_result tag = application true tag (Sequence (plain (Enumeration 0 80) ∷ plain LdapString ∷ plain LdapString ∷ []))

-- what they are answered
abbrev pub ldap_answers : List Alternative
ldap_answers =
    ldap_result 1 ∷ application true 4 (Sequence (plain LdapString ∷ plain LdapShown ∷ [])) ∷ ldap_result 5
    ∷ ldap_result 7 ∷ ldap_result 9 ∷ ldap_result 11 ∷ ldap_result 13 ∷ ldap_result 15 ∷ ldap_result 24 ∷ []

abbrev pub ldap_filter : List Alternative
ldap_filter =
    ruled some_members (choice 0 (Members LdapFilter))
    ∷ ruled some_members (choice 1 (Members LdapFilter))
    ∷ choice 2 (Explicit LdapFilter)
    ∷ choice 3 (Sequence assertion)
    ∷ choice 4 (Sequence (plain LdapString ∷ plain LdapPieces ∷ []))
    ∷ choice 5 (Sequence assertion)
    ∷ choice 6 (Sequence assertion)
    ∷ context 7 string
    ∷ choice 8 (Sequence assertion)
    ∷ choice 9 (Sequence (optional (plain LdapMatchingRule) ∷ optional (plain LdapMatchedType) ∷ plain LdapMatchedValue
    ∷ or (Flag false) (plain LdapMatchesNames) ∷ []))
    ∷ []

-- ---- the table

abbrev pub layout : Surroundings → Layout
layout w DapRequest = is (invoke (operation_codes Argument))
layout w DapAnswer = result DapResult ∷ error dap_errors ∷ []
layout w DspRequest = is (invoke (operation_codes Chained))
layout w DspAnswer = result DspResult ∷ error dsp_errors ∷ []
layout w DispMessage = invoke shadow_operations ∷ result DispResult ∷ error shadow_errors ∷ []
layout w (Argument operation) = is (set (argument operation))
layout w (Chained operation) = is (sequence (plain Chaining ∷ plain (Argument operation) ∷ []))
layout w DapResult = is (result_inner (operation_codes Outcome))
layout w DspResult = is (result_inner (operation_codes Outcome))
layout w DispResult = is (result_inner shadow_results)
layout w (Outcome operation) = is (outcome operation)
layout w AnyNumber = is (integer any_number)
layout w (NumberBelow low high) = is (integer (from_to low high))
layout w (Enumeration low high) = is (universal 10 (Primitive (number (from_to low high))))
layout w Boolean = is (universal 1 (Primitive boolean))
layout w Null = is (universal 5 (Primitive null))
layout w AnyOid = is (universal 6 (Primitive (oid any_oid)))
layout w Value =
    universal 6 (Primitive (oid short_oid))
    ∷ universal 4 (Joined octet_string)
    ∷ ruled name_rule (sequence_of Rdn)
    ∷ printable
    ∷ universal 28 (Joined universal_string)
    ∷ universal 18 (Joined (text_where (text_of is_numeric)))
    ∷ universal 22 (Joined (text_where (text_of is_seven_bit)))
    ∷ []
layout w Part =
    printable
    ∷ universal 28 (Joined universal_string)
    ∷ universal 18 (Joined (text_where (text_of is_numeric)))
    ∷ universal 22 (Joined (text_where (text_of is_seven_bit)))
    ∷ ruled text_rule (universal 6 (Primitive (oid short_oid)))
    ∷ ruled text_rule (universal 4 (Joined octet_string))
    ∷ ruled text_rule (sequence_of Rdn)
    ∷ []
layout w AgentName = is (agent_name any_agent)
layout w Time = is (universal 24 (Joined (time_leaf w)))
layout w Options = is (universal 3 (JoinedBits options))
layout w RefType = is (integer (one_of (1 ∷ 2 ∷ 3 ∷ 4 ∷ 5 ∷ 8 ∷ [])))
layout w Name = is (ruled name_rule (sequence_of Rdn))
layout w Rdn = is (ruled rdn_rule (set_of Pair))
layout w Rdns = is (sequence_of Rdn)
layout w Pair = is (ruled pair_rule (sequence (plain AnyOid ∷ plain Value ∷ [])))
layout w Attribute = is (sequence (plain AnyOid ∷ plain Values ∷ []))
layout w Attributes = is (set_of Attribute)
layout w Values = is (ruled some_members (set_of Value))
layout w TypeList = is (set_of AnyOid)
layout w Selection = is (set (optional (at 1 TypeList) ∷ []))
layout w Controls = is (ruled controls_rule (set (or (options_node false false) (at 0 Options)
    ∷ optional (at 1 AnyNumber) ∷ optional (at 2 AnyNumber) ∷ optional (at 3 (NumberBelow 0 4294967295)) ∷ [])))
layout w Assertion = is (sequence (plain AnyOid ∷ plain Value ∷ []))
layout w Changes = is (sequence_of Change)
layout w Change = choice 0 (Explicit Attribute) ∷ choice 1 (Explicit AnyOid) ∷ choice 2 (Explicit Attribute)
    ∷ choice 3 (Explicit Attribute) ∷ []
layout w (Filter levels) = filter levels
layout w (Filters levels) = is (set_of (Filter levels))
layout w Item =
    choice 0 (Explicit Assertion)
    ∷ choice 1 (Explicit Substrings)
    ∷ choice 2 (Explicit Assertion)
    ∷ choice 3 (Explicit Assertion)
    ∷ choice 4 (Explicit AnyOid)
    ∷ choice 5 (Explicit Assertion)
    ∷ []
layout w Substrings = is (sequence (plain AnyOid ∷ plain Parts ∷ []))
layout w Parts = is (ruled parts_rule (sequence_of PlacedPart))
layout w PlacedPart = choice 0 (Explicit Part) ∷ choice 1 (Explicit Part) ∷ choice 2 (Explicit Part) ∷ []
layout w Chaining = is (set (at 0 Name ∷ at 1 Progress ∷ at 2 Trace ∷ at 3 RefType ∷ or_nothing (at 4 Rdns) ∷ []))
layout w Progress =
    is (ruled progress_rule (sequence (plain (Enumeration 1 3) ∷ optional (plain (NumberBelow 1 16)) ∷ [])))
layout w Trace = is (ruled trace_rule (sequence_of TraceItem))
layout w TraceItem =
    is (sequence (plain AgentName ∷ plain Name ∷ plain Progress ∷ or (Flag false) (plain Boolean) ∷ []))
layout w Agents = is (sequence_of Agent)
layout w Agent = is (sequence (plain AgentName ∷ or (Flag false) (plain Boolean) ∷ []))
layout w Reference = is (set (at 0 Name ∷ at 1 Progress ∷ at 2 RefType ∷ at 3 Agents ∷ or_nothing (at 4 Rdns)
    ∷ or (Flag false) (at 5 Boolean) ∷ []))
layout w References = is (sequence_of Reference)
layout w Source = is (sequence (plain Name ∷ plain AgentName ∷ optional (plain (NumberBelow 0 4294967295)) ∷ []))
layout w Sources = is (sequence_of Source)
layout w EntryInfo = is (sequence (plain Name ∷ or (Flag true) (plain Boolean) ∷ plain Attributes ∷ []))
layout w EntryInfos = is (sequence_of EntryInfo)
layout w Sub = is (sequence (plain Rdn ∷ or (Flag true) (plain Boolean) ∷ []))
layout w Subs = is (sequence_of Sub)
layout w Qualifier = is (set (optional (at 0 (NumberBelow 1 1)) ∷ or_nothing (at 1 References) ∷ []))
layout w AttributeError = is (sequence (plain (NumberBelow 1 6) ∷ plain AnyOid ∷ []))
layout w NameError = is (sequence (plain (NumberBelow 1 1) ∷ plain Name ∷ []))
layout w ServiceError =
    is (sequence (plain (NumberBelow 1 12) ∷ optional (at 0 Reference) ∷ optional (at 1 TraceItem) ∷ []))
layout w UpdateError = is (sequence (plain (NumberBelow 1 7) ∷ []))
layout w ShadowError = is (sequence (plain (NumberBelow 1 11) ∷ optional (at 0 Time) ∷ optional (at 1 Time) ∷ []))
layout w Agreement = is (integer (from_to 0 4294967295))
layout w ShadowArgument = is (sequence (plain Agreement ∷ optional (at 0 Time) ∷ plain (Enumeration 1 2) ∷ []))
layout w UpdateArgument = is (sequence (plain Agreement ∷ plain Time ∷ plain Refresh ∷ []))
layout w Refresh = universal 5 (Primitive null) ∷ choice 0 (Explicit Total) ∷ choice 1 (Explicit Steps) ∷ []
layout w Total = is (sequence (plain Entries ∷ plain Knowns ∷ plain NonSpecifics ∷ []))
layout w Entries = is (sequence_of Entry)
layout w Entry = is (ruled entry_rule (sequence (plain Name ∷ or (Flag true) (plain Boolean) ∷ plain Attributes ∷ [])))
layout w Knowns = is (sequence_of Known)
layout w Known = is (ruled known_rule (sequence (plain Name ∷ plain WorldAgents ∷ [])))
layout w NonSpecifics = is (sequence_of NonSpecific)
layout w NonSpecific = is (ruled masters_rule (sequence (plain Name ∷ plain WorldAgents ∷ [])))
layout w WorldAgents = is (sequence_of WorldAgent)
layout w WorldAgent = is (sequence (plain WorldAgentName ∷ or (Flag false) (plain Boolean) ∷ []))
layout w WorldAgentName = is (agent_name w.is_agent)
layout w Steps = is (sequence_of Step)
layout w Step =
    choice 0 (Explicit Entry) ∷ choice 1 (Explicit Name) ∷ choice 2 (Explicit Entry) ∷ choice 3 (Explicit Renamed) ∷ []
layout w Renamed = is (sequence (plain Name ∷ plain Entry ∷ []))
layout w LdapMessage = is (sequence (count ∷ plain LdapOperation ∷ or_nothing (plain LdapControls) ∷ []))
layout w LdapResponse = is (sequence (count ∷ plain LdapAnswer ∷ []))
layout w LdapOperation = ldap_operations
layout w LdapAnswer = ldap_answers
layout w LdapString = is (universal 4 string)
layout w LdapStrings = is (sequence_of LdapString)
layout w LdapValues = is (set_of LdapString)
layout w LdapSomeValues = is (ruled some_members (set_of LdapString))
layout w LdapAttribute = is (sequence (plain LdapString ∷ plain LdapValues ∷ []))
layout w LdapShown = is (sequence_of LdapAttribute)
layout w LdapNewAttribute = is (sequence (plain LdapString ∷ plain LdapSomeValues ∷ []))
layout w LdapNewAttributes = is (sequence_of LdapNewAttribute)
layout w LdapChange = is (sequence (plain (Enumeration 0 2) ∷ plain LdapAttribute ∷ []))
layout w LdapChanges = is (sequence_of LdapChange)
layout w LdapAssertion = is (sequence assertion)
layout w LdapFilter = ldap_filter
layout w LdapPiece = piece 0 ∷ piece 1 ∷ piece 2 ∷ []
layout w LdapPieces = is (ruled pieces_rule (sequence_of LdapPiece))
layout w LdapAuthentication =
    context 0 string ∷ context 3 (Sequence (plain LdapString ∷ optional (plain LdapString) ∷ [])) ∷ []
layout w LdapSuperior = is (context 0 string)
layout w LdapExtension = is (context 0 string)
layout w LdapExtensionValue = is (context 1 string)
layout w LdapMatchingRule = is (context 1 string)
layout w LdapMatchedType = is (context 2 string)
layout w LdapMatchedValue = is (context 3 string)
layout w LdapMatchesNames = is (context 4 (Primitive boolean))
layout w LdapControl =
    is (sequence (plain LdapString ∷ or (Flag false) (plain Boolean) ∷ optional (plain LdapString) ∷ []))
layout w LdapControls = is (context 0 (Members LdapControl))
