-- The types of the code as the definitions see them.
use Rattle.std.specs.Prelude.{ℕ, ℤ, Bool, List, [], ◌∷◌, map, if◌then◌else◌}
use Rattle.std.specs.declared.option.Option.{Option}
use Rattle.x5_model.specs.Normal.{is_printable}
use Rattle.x5_model_typed.specs.Nodes as nodes
use Rattle.x5_model_typed.specs.Named as named
use Rattle.x5_model_typed.specs.Forms as forms
use Rattle.x5_model_typed.specs.Leaves as leaves
use Rattle.x5_model_typed.specs.Rules as rules
use Rattle.x5_model_typed.specs.Judged as judged
use Rattle.x5_model_typed.specs.Layouts as layouts
use Rattle.std.specs.declared.option.Option.TheVariants.{None}
use Rattle.std.specs.Prelude.{false, nat_lt}
use Rattle.x5_know.specs.Moments.{Start, moment_count, moment_of, moment_text}
use Rattle.x5_know.specs.Names.{has_name}
use Rattle.x5_types.specs.declared.surroundings.Surroundings.{Surroundings}
use Rattle.x5_types.specs.declared.surroundings.Surroundings.TheVariants as surroundings
use Rattle.x5_types.specs.declared.form.Operation.{Operation}
use Rattle.x5_types.specs.declared.form.Operation.TheVariants as o
use Rattle.x5_types.specs.declared.form.Named.{Named}
use Rattle.x5_types.specs.declared.form.Named.TheVariants as n
use Rattle.x5_types.specs.declared.form.Numbers.{Numbers}
use Rattle.x5_types.specs.declared.form.Numbers.TheVariants as numbers
use Rattle.x5_types.specs.declared.form.Letters.{Letters}
use Rattle.x5_types.specs.declared.form.Letters.TheVariants as letters
use Rattle.x5_types.specs.declared.form.Leaf.{Leaf}
use Rattle.x5_types.specs.declared.form.Leaf.TheVariants as leaf
use Rattle.x5_types.specs.declared.form.BitLeaf.{BitLeaf}
use Rattle.x5_types.specs.declared.form.BitLeaf.TheVariants as bits
use Rattle.x5_types.specs.declared.form.Given.{Given}
use Rattle.x5_types.specs.declared.form.Given.TheVariants as given
use Rattle.x5_types.specs.declared.form.Codes.{Codes}
use Rattle.x5_types.specs.declared.form.Codes.TheVariants as codes
use Rattle.x5_types.specs.declared.form.Presence.{Presence}
use Rattle.x5_types.specs.declared.form.Presence.TheVariants as presence
use Rattle.x5_types.specs.declared.form.Content.{Content}
use Rattle.x5_types.specs.declared.form.Content.TheVariants as content
use Rattle.x5_types.specs.declared.form.Rule.{Rule}
use Rattle.x5_types.specs.declared.form.Rule.TheVariants as rule
use Rattle.x5_types.specs.declared.form.Choices.{Choices}
use Rattle.x5_types.specs.declared.form.Choices.TheVariants as choices
use Rattle.x5_types.specs.declared.form.Component.{Component}
use Rattle.x5_types.specs.declared.form.Alternative.{Alternative}

abbrev pub operation_view : Operation → named.Operation
operation_view o.Read = named.Read
operation_view o.Compare = named.Compare
operation_view o.ListBelow = named.ListBelow
operation_view o.Search = named.Search
operation_view o.AddEntry = named.AddEntry
operation_view o.RemoveEntry = named.RemoveEntry
operation_view o.ModifyEntry = named.ModifyEntry
operation_view o.ModifyDn = named.ModifyDn

abbrev pub named_view : Named → named.Named
named_view n.DapRequest = named.DapRequest
named_view n.DapAnswer = named.DapAnswer
named_view n.DspRequest = named.DspRequest
named_view n.DspAnswer = named.DspAnswer
named_view n.DispMessage = named.DispMessage
named_view n.DapResult = named.DapResult
named_view n.DspResult = named.DspResult
named_view n.DispResult = named.DispResult
named_view n.AnyNumber = named.AnyNumber
named_view n.Boolean = named.Boolean
named_view n.Null = named.Null
named_view n.AnyOid = named.AnyOid
named_view n.Value = named.Value
named_view n.Part = named.Part
named_view n.AgentName = named.AgentName
named_view n.Time = named.Time
named_view n.Options = named.Options
named_view n.RefType = named.RefType
named_view n.Name = named.Name
named_view n.Rdn = named.Rdn
named_view n.Rdns = named.Rdns
named_view n.Pair = named.Pair
named_view n.Attribute = named.Attribute
named_view n.Attributes = named.Attributes
named_view n.Values = named.Values
named_view n.TypeList = named.TypeList
named_view n.Selection = named.Selection
named_view n.Controls = named.Controls
named_view n.Assertion = named.Assertion
named_view n.Changes = named.Changes
named_view n.Change = named.Change
named_view n.Item = named.Item
named_view n.Substrings = named.Substrings
named_view n.Parts = named.Parts
named_view n.PlacedPart = named.PlacedPart
named_view n.Chaining = named.Chaining
named_view n.Progress = named.Progress
named_view n.Trace = named.Trace
named_view n.TraceItem = named.TraceItem
named_view n.Agents = named.Agents
named_view n.Agent = named.Agent
named_view n.Reference = named.Reference
named_view n.References = named.References
named_view n.Source = named.Source
named_view n.Sources = named.Sources
named_view n.EntryInfo = named.EntryInfo
named_view n.EntryInfos = named.EntryInfos
named_view n.Sub = named.Sub
named_view n.Subs = named.Subs
named_view n.Qualifier = named.Qualifier
named_view n.AttributeError = named.AttributeError
named_view n.NameError = named.NameError
named_view n.ServiceError = named.ServiceError
named_view n.UpdateError = named.UpdateError
named_view n.ShadowError = named.ShadowError
named_view n.Agreement = named.Agreement
named_view n.ShadowArgument = named.ShadowArgument
named_view n.UpdateArgument = named.UpdateArgument
named_view n.Refresh = named.Refresh
named_view n.Total = named.Total
named_view n.Entries = named.Entries
named_view n.Entry = named.Entry
named_view n.Knowns = named.Knowns
named_view n.Known = named.Known
named_view n.NonSpecifics = named.NonSpecifics
named_view n.NonSpecific = named.NonSpecific
named_view n.WorldAgents = named.WorldAgents
named_view n.WorldAgent = named.WorldAgent
named_view n.WorldAgentName = named.WorldAgentName
named_view n.Steps = named.Steps
named_view n.Step = named.Step
named_view n.Renamed = named.Renamed
named_view n.LdapMessage = named.LdapMessage
named_view n.LdapResponse = named.LdapResponse
named_view n.LdapOperation = named.LdapOperation
named_view n.LdapAnswer = named.LdapAnswer
named_view n.LdapString = named.LdapString
named_view n.LdapStrings = named.LdapStrings
named_view n.LdapValues = named.LdapValues
named_view n.LdapSomeValues = named.LdapSomeValues
named_view n.LdapAttribute = named.LdapAttribute
named_view n.LdapShown = named.LdapShown
named_view n.LdapNewAttribute = named.LdapNewAttribute
named_view n.LdapNewAttributes = named.LdapNewAttributes
named_view n.LdapChange = named.LdapChange
named_view n.LdapChanges = named.LdapChanges
named_view n.LdapAssertion = named.LdapAssertion
named_view n.LdapFilter = named.LdapFilter
named_view n.LdapPiece = named.LdapPiece
named_view n.LdapPieces = named.LdapPieces
named_view n.LdapAuthentication = named.LdapAuthentication
named_view n.LdapSuperior = named.LdapSuperior
named_view n.LdapExtension = named.LdapExtension
named_view n.LdapExtensionValue = named.LdapExtensionValue
named_view n.LdapMatchingRule = named.LdapMatchingRule
named_view n.LdapMatchedType = named.LdapMatchedType
named_view n.LdapMatchedValue = named.LdapMatchedValue
named_view n.LdapMatchesNames = named.LdapMatchesNames
named_view n.LdapControl = named.LdapControl
named_view n.LdapControls = named.LdapControls
named_view (n.Argument op) = named.Argument (operation_view op)
named_view (n.Chained op) = named.Chained (operation_view op)
named_view (n.Outcome op) = named.Outcome (operation_view op)
named_view (n.NumberBelow low high) = named.NumberBelow low high
named_view (n.Enumeration low high) = named.Enumeration low high
named_view (n.Filter levels) = named.Filter levels
named_view (n.Filters levels) = named.Filters levels

-- No world: in messages of users and between agents there are no times, and agents of any name.
abbrev pub nowhere : layouts.Surroundings
nowhere = record { moment = λ t. None; time = λ m. None; is_agent = λ a. false }

-- A world: its start, of which each moment that there is has a date and time, and its agents.
abbrev pub world : Start → List (List ℕ) → layouts.Surroundings
world start names = record {
  moment = moment_of start;
  time = λ m. leaves.where_so (nat_lt m moment_count) (moment_text start m);
  is_agent = has_name names;
}

abbrev pub around : Surroundings → layouts.Surroundings
around surroundings.Nowhere = nowhere
around (surroundings.World start names) = world start.now names.now

abbrev pub numbers_view : Numbers → ℤ → Bool
numbers_view numbers.Any = leaves.any_number
numbers_view (numbers.FromTo low high) = leaves.from_to low high
numbers_view numbers.RefType = leaves.one_of (1 ∷ 2 ∷ 3 ∷ 4 ∷ 5 ∷ 8 ∷ [])

abbrev pub letters_view : layouts.Surroundings → Letters → List ℕ → Bool
letters_view w letters.Numeric = leaves.text_of leaves.is_numeric
letters_view w letters.Printable = leaves.text_of is_printable
letters_view w letters.SevenBit = leaves.text_of leaves.is_seven_bit
letters_view w letters.Agent = λ t. if leaves.is_agent_name t then layouts.any_agent t else false
letters_view w letters.WorldAgent = λ t. if leaves.is_agent_name t then w.is_agent t else false

abbrev pub leaf_view : layouts.Surroundings → Leaf → forms.Leaf (List ℕ)
leaf_view w leaf.Boolean = leaves.boolean
leaf_view w leaf.Null = leaves.null
leaf_view w (leaf.Number ns) = leaves.number (numbers_view ns)
leaf_view w leaf.Oid = leaves.oid leaves.any_oid
leaf_view w leaf.ShortOid = leaves.oid leaves.short_oid
leaf_view w leaf.Octets = leaves.octet_string
leaf_view w (leaf.Text ls) = leaves.text_where (letters_view w ls)
leaf_view w leaf.Universal = leaves.universal_string
leaf_view w leaf.Time = layouts.time_leaf w
leaf_view w leaf.Segment = judged.octets_leaf
leaf_view w leaf.AnyOctets = leaves.any_octets
leaf_view w (leaf.Placed place) = leaves.placed place

abbrev pub bit_leaf_view : BitLeaf → forms.Leaf (List Bool)
bit_leaf_view bits.Options = leaves.options
bit_leaf_view bits.Segment = judged.bits_leaf

abbrev pub given_view : Given → nodes.Node
given_view given.Vacant = nodes.Vacant
given_view (given.Flag b) = nodes.Flag b
given_view given.Zero = nodes.whole 0
given_view given.Nothing = nodes.Many nodes.Nil
given_view given.NoOptions = leaves.options_node false false
given_view given.NoControls = layouts.no_controls
given_view given.AllAttributes = layouts.all_attributes
given_view given.Everything = layouts.everything
given_view given.NoQualifier = layouts.no_qualifier

abbrev pub codes_view : Codes → ℤ → Option named.Named
codes_view codes.Arguments = layouts.named_by (layouts.operation_codes named.Argument)
codes_view codes.ChainedArguments = layouts.named_by (layouts.operation_codes named.Chained)
codes_view codes.Outcomes = layouts.named_by (layouts.operation_codes named.Outcome)
codes_view codes.DapErrors = layouts.named_by layouts.dap_errors
codes_view codes.DspErrors = layouts.named_by layouts.dsp_errors
codes_view codes.ShadowOperations = layouts.named_by layouts.shadow_operations
codes_view codes.ShadowResults = layouts.named_by layouts.shadow_results
codes_view codes.ShadowErrors = layouts.named_by layouts.shadow_errors

abbrev pub presence_view : Presence → forms.Presence
presence_view presence.Required = forms.Required
presence_view (presence.Default g) = forms.Default (given_view g)
presence_view (presence.Code c) = forms.Code (codes_view c)

abbrev pub component_view : Component → forms.Component
component_view c = record { tag = c.tag; form = named_view c.form; presence = presence_view c.presence }

abbrev pub components_view : List Component → List forms.Component
components_view cs = map component_view cs

abbrev pub content_view : layouts.Surroundings → Content → forms.Content
content_view w (content.Primitive l) = forms.Primitive (leaf_view w l)
content_view w (content.Joined l) = forms.Joined (leaf_view w l)
content_view w (content.JoinedBits l) = forms.JoinedBits (bit_leaf_view l)
content_view w (content.Explicit f) = forms.Explicit (named_view f)
content_view w (content.Sequence cs) = forms.Sequence (components_view cs.now)
content_view w (content.Set cs) = forms.Set (components_view cs.now)
content_view w (content.Members f) = forms.Members (named_view f)
content_view w content.Never = forms.Never

abbrev pub rule_view : Rule → nodes.Node → Option nodes.Node
rule_view rule.Any = forms.any_node
rule_view rule.Name = rules.name_rule
rule_view rule.Rdn = rules.rdn_rule
rule_view rule.Pair = rules.pair_rule
rule_view rule.Some = rules.some_members
rule_view rule.Controls = rules.controls_rule
rule_view rule.Text = rules.text_rule
rule_view rule.Parts = rules.parts_rule
rule_view rule.Progress = rules.progress_rule
rule_view rule.Trace = rules.trace_rule
rule_view rule.Entry = rules.entry_rule
rule_view rule.Known = rules.known_rule
rule_view rule.Masters = rules.masters_rule
rule_view rule.Pieces = rules.pieces_rule

abbrev pub alternative_view : layouts.Surroundings → Alternative → forms.Alternative
alternative_view w a = record {
  class = a.class;
  tag = a.tag;
  content = content_view w a.content;
  marked = a.marked;
  settles = rule_view a.rule;
}

abbrev pub types_view : layouts.Surroundings → List Alternative → List forms.Alternative
types_view w types = map (alternative_view w) types

abbrev pub choices_view : layouts.Surroundings → Choices → List forms.Alternative
choices_view w (choices.Listed types) = types_view w types.now
choices_view w (choices.One a) = alternative_view w a ∷ []
choices_view w (choices.Filter levels) = layouts.filter levels

-- The types of messages of users and between agents.
abbrev pub table : forms.Layout
table = layouts.layout nowhere

-- The types of messages in a world.
abbrev pub world_table : Start → List (List ℕ) → forms.Layout
world_table start names = layouts.layout (world start names)

-- The types of messages in their surroundings.
abbrev pub table_in : Surroundings → forms.Layout
table_in s = layouts.layout (around s)
