-- The classes of tags in the table of messages are below 4 (X.690, 8.1.2.2).
use Rattle.std.proofs.Common.{◌≡◌, ℕ, ◌-◌, ◌<◌, nat_lt, Bool, true, false, [], ◌∷◌, refl}
use Rattle.std.specs.Prelude.{◌==◌, if◌then◌else◌}
use Rattle.std.proofs.lemmas.Bool.{ltb-true}
use Rattle.std.specs.List.{find, list_all}
use Rattle.std.specs.declared.option.Option.TheVariants.{Some}
use Rattle.x5_model.proofs.Lists.{of_all, of_find}
use Rattle.x5_model_typed.specs.Named.{Named, Read, Compare, ListBelow, Search, AddEntry, RemoveEntry, ModifyEntry, ModifyDn, DapRequest, DapAnswer, DspRequest, DspAnswer, DispMessage, Argument, Chained, DapResult, DspResult, DispResult, Outcome, AnyNumber, NumberBelow, Enumeration, Boolean, Null, AnyOid, Value, Part, AgentName, Time, Options, RefType, Name, Rdn, Rdns, Pair, Attribute, Attributes, Values, TypeList, Selection, Controls, Assertion, Changes, Change, Filter, Filters, Item, Substrings, Parts, PlacedPart, Chaining, Progress, Trace, TraceItem, Agents, Agent, Reference, References, Source, Sources, EntryInfo, EntryInfos, Sub, Subs, Qualifier, AttributeError, NameError, ServiceError, UpdateError, ShadowError, Agreement, ShadowArgument, UpdateArgument, Refresh, Total, Entries, Entry, Knowns, Known, NonSpecifics, NonSpecific, WorldAgents, WorldAgent, WorldAgentName, Steps, Step, Renamed}
use Rattle.x5_model_typed.specs.Named.{LdapMessage, LdapResponse, LdapOperation, LdapAnswer, LdapString, LdapStrings}
use Rattle.x5_model_typed.specs.Named.{LdapValues, LdapSomeValues, LdapAttribute, LdapShown, LdapNewAttribute}
use Rattle.x5_model_typed.specs.Named.{LdapNewAttributes, LdapChange, LdapChanges, LdapAssertion, LdapFilter, LdapPiece}
use Rattle.x5_model_typed.specs.Named.{LdapPieces, LdapAuthentication, LdapSuperior, LdapExtension, LdapExtensionValue}
use Rattle.x5_model_typed.specs.Named.{LdapMatchingRule, LdapMatchedType, LdapMatchedValue, LdapMatchesNames}
use Rattle.x5_model_typed.specs.Named.{LdapControl, LdapControls}
use Rattle.x5_model_typed.specs.Forms.{Alternative, Explicit, Never, choice}
use Rattle.x5_model_typed.specs.Layouts.{Surroundings, layout}

abbrev is_class : Alternative → Bool
is_class a = nat_lt a.class 4

filter_classes : (levels : ℕ) (b : Bool)
    → list_all is_class
    (if b then choice 0 Never ∷ choice 1 Never ∷ choice 2 Never ∷ choice 3 Never ∷ [] else (choice 0 (Explicit Item) ∷ choice 1 (Explicit (Filters (levels - 1))) ∷ choice 2 (Explicit (Filters (levels - 1))) ∷ choice 3 (Explicit (Filter (levels - 1))) ∷ [])) ≡ true
filter_classes levels true = refl
filter_classes levels false = refl

classes : (w : Surroundings) (form : Named) → list_all is_class (layout w form) ≡ true
classes w DapRequest = refl
classes w DapAnswer = refl
classes w DspRequest = refl
classes w DspAnswer = refl
classes w DispMessage = refl
classes w (Argument Read) = refl
classes w (Argument Compare) = refl
classes w (Argument ListBelow) = refl
classes w (Argument Search) = refl
classes w (Argument AddEntry) = refl
classes w (Argument RemoveEntry) = refl
classes w (Argument ModifyEntry) = refl
classes w (Argument ModifyDn) = refl
classes w (Chained operation) = refl
classes w DapResult = refl
classes w DspResult = refl
classes w DispResult = refl
classes w (Outcome Read) = refl
classes w (Outcome Compare) = refl
classes w (Outcome ListBelow) = refl
classes w (Outcome Search) = refl
classes w (Outcome AddEntry) = refl
classes w (Outcome RemoveEntry) = refl
classes w (Outcome ModifyEntry) = refl
classes w (Outcome ModifyDn) = refl
classes w AnyNumber = refl
classes w (NumberBelow low high) = refl
classes w (Enumeration low high) = refl
classes w Boolean = refl
classes w Null = refl
classes w AnyOid = refl
classes w Value = refl
classes w Part = refl
classes w AgentName = refl
classes w Time = refl
classes w Options = refl
classes w RefType = refl
classes w Name = refl
classes w Rdn = refl
classes w Rdns = refl
classes w Pair = refl
classes w Attribute = refl
classes w Attributes = refl
classes w Values = refl
classes w TypeList = refl
classes w Selection = refl
classes w Controls = refl
classes w Assertion = refl
classes w Changes = refl
classes w Change = refl
classes w (Filter levels) = filter_classes levels (levels == 0)
classes w (Filters levels) = refl
classes w Item = refl
classes w Substrings = refl
classes w Parts = refl
classes w PlacedPart = refl
classes w Chaining = refl
classes w Progress = refl
classes w Trace = refl
classes w TraceItem = refl
classes w Agents = refl
classes w Agent = refl
classes w Reference = refl
classes w References = refl
classes w Source = refl
classes w Sources = refl
classes w EntryInfo = refl
classes w EntryInfos = refl
classes w Sub = refl
classes w Subs = refl
classes w Qualifier = refl
classes w AttributeError = refl
classes w NameError = refl
classes w ServiceError = refl
classes w UpdateError = refl
classes w ShadowError = refl
classes w Agreement = refl
classes w ShadowArgument = refl
classes w UpdateArgument = refl
classes w Refresh = refl
classes w Total = refl
classes w Entries = refl
classes w Entry = refl
classes w Knowns = refl
classes w Known = refl
classes w NonSpecifics = refl
classes w NonSpecific = refl
classes w WorldAgents = refl
classes w WorldAgent = refl
classes w WorldAgentName = refl
classes w Steps = refl
classes w Step = refl
classes w Renamed = refl
classes w LdapMessage = refl
classes w LdapResponse = refl
classes w LdapOperation = refl
classes w LdapAnswer = refl
classes w LdapString = refl
classes w LdapStrings = refl
classes w LdapValues = refl
classes w LdapSomeValues = refl
classes w LdapAttribute = refl
classes w LdapShown = refl
classes w LdapNewAttribute = refl
classes w LdapNewAttributes = refl
classes w LdapChange = refl
classes w LdapChanges = refl
classes w LdapAssertion = refl
classes w LdapFilter = refl
classes w LdapPiece = refl
classes w LdapPieces = refl
classes w LdapAuthentication = refl
classes w LdapSuperior = refl
classes w LdapExtension = refl
classes w LdapExtensionValue = refl
classes w LdapMatchingRule = refl
classes w LdapMatchedType = refl
classes w LdapMatchedValue = refl
classes w LdapMatchesNames = refl
classes w LdapControl = refl
classes w LdapControls = refl

-- So is the class of one that was found.
pub class_of_found : (w : Surroundings) (form : Named) (test : Alternative → Bool) (a : Alternative) → find test (layout w form) ≡ Some a → a.class < 4
class_of_found w form test a is = ltb-true a.class 4 (of_all is_class a (layout w form) (classes w form) (of_find test a (layout w form) is).0)
