-- All tags of the table of messages can be written.
use Rattle.std.proofs.Common.{◌≡◌, ℕ, ◌-◌, Bool, true, false, ◌==◌, [], ◌∷◌, refl}
use Rattle.std.specs.Prelude.{if◌then◌else◌}
use Rattle.x5_model_typed.specs.Named as named
use Rattle.x5_model_typed.specs.Forms.{Explicit, Never, choice}
use Rattle.x5_model_typed.specs.Layouts.{Surroundings, layout}
use Rattle.x5_dapber.proofs.Rooms.{are_good}

filters_good : (levels : ℕ) (b : Bool)
    → are_good
    (if b then choice 0 Never ∷ choice 1 Never ∷ choice 2 Never ∷ choice 3 Never ∷ [] else (choice 0 (Explicit named.Item) ∷ choice 1 (Explicit (named.Filters (levels - 1))) ∷ choice 2 (Explicit (named.Filters (levels - 1))) ∷ choice 3 (Explicit (named.Filter (levels - 1))) ∷ [])) ≡ true
filters_good levels true = refl
filters_good levels false = refl

pub good_tags : (w : Surroundings) (form : named.Named) → are_good (layout w form) ≡ true
good_tags w named.DapRequest = refl
good_tags w named.DapAnswer = refl
good_tags w named.DspRequest = refl
good_tags w named.DspAnswer = refl
good_tags w named.DispMessage = refl
good_tags w (named.Argument named.Read) = refl
good_tags w (named.Argument named.Compare) = refl
good_tags w (named.Argument named.ListBelow) = refl
good_tags w (named.Argument named.Search) = refl
good_tags w (named.Argument named.AddEntry) = refl
good_tags w (named.Argument named.RemoveEntry) = refl
good_tags w (named.Argument named.ModifyEntry) = refl
good_tags w (named.Argument named.ModifyDn) = refl
good_tags w (named.Chained operation) = refl
good_tags w named.DapResult = refl
good_tags w named.DspResult = refl
good_tags w named.DispResult = refl
good_tags w (named.Outcome named.Read) = refl
good_tags w (named.Outcome named.Compare) = refl
good_tags w (named.Outcome named.ListBelow) = refl
good_tags w (named.Outcome named.Search) = refl
good_tags w (named.Outcome named.AddEntry) = refl
good_tags w (named.Outcome named.RemoveEntry) = refl
good_tags w (named.Outcome named.ModifyEntry) = refl
good_tags w (named.Outcome named.ModifyDn) = refl
good_tags w named.AnyNumber = refl
good_tags w (named.NumberBelow low high) = refl
good_tags w (named.Enumeration low high) = refl
good_tags w named.Boolean = refl
good_tags w named.Null = refl
good_tags w named.AnyOid = refl
good_tags w named.Value = refl
good_tags w named.Part = refl
good_tags w named.AgentName = refl
good_tags w named.Time = refl
good_tags w named.Options = refl
good_tags w named.RefType = refl
good_tags w named.Name = refl
good_tags w named.Rdn = refl
good_tags w named.Rdns = refl
good_tags w named.Pair = refl
good_tags w named.Attribute = refl
good_tags w named.Attributes = refl
good_tags w named.Values = refl
good_tags w named.TypeList = refl
good_tags w named.Selection = refl
good_tags w named.Controls = refl
good_tags w named.Assertion = refl
good_tags w named.Changes = refl
good_tags w named.Change = refl
good_tags w (named.Filter levels) = filters_good levels (levels == 0)
good_tags w (named.Filters levels) = refl
good_tags w named.Item = refl
good_tags w named.Substrings = refl
good_tags w named.Parts = refl
good_tags w named.PlacedPart = refl
good_tags w named.Chaining = refl
good_tags w named.Progress = refl
good_tags w named.Trace = refl
good_tags w named.TraceItem = refl
good_tags w named.Agents = refl
good_tags w named.Agent = refl
good_tags w named.Reference = refl
good_tags w named.References = refl
good_tags w named.Source = refl
good_tags w named.Sources = refl
good_tags w named.EntryInfo = refl
good_tags w named.EntryInfos = refl
good_tags w named.Sub = refl
good_tags w named.Subs = refl
good_tags w named.Qualifier = refl
good_tags w named.AttributeError = refl
good_tags w named.NameError = refl
good_tags w named.ServiceError = refl
good_tags w named.UpdateError = refl
good_tags w named.ShadowError = refl
good_tags w named.Agreement = refl
good_tags w named.ShadowArgument = refl
good_tags w named.UpdateArgument = refl
good_tags w named.Refresh = refl
good_tags w named.Total = refl
good_tags w named.Entries = refl
good_tags w named.Entry = refl
good_tags w named.Knowns = refl
good_tags w named.Known = refl
good_tags w named.NonSpecifics = refl
good_tags w named.NonSpecific = refl
good_tags w named.WorldAgents = refl
good_tags w named.WorldAgent = refl
good_tags w named.WorldAgentName = refl
good_tags w named.Steps = refl
good_tags w named.Step = refl
good_tags w named.Renamed = refl
good_tags w named.LdapMessage = refl
good_tags w named.LdapResponse = refl
good_tags w named.LdapOperation = refl
good_tags w named.LdapAnswer = refl
good_tags w named.LdapString = refl
good_tags w named.LdapStrings = refl
good_tags w named.LdapValues = refl
good_tags w named.LdapSomeValues = refl
good_tags w named.LdapAttribute = refl
good_tags w named.LdapShown = refl
good_tags w named.LdapNewAttribute = refl
good_tags w named.LdapNewAttributes = refl
good_tags w named.LdapChange = refl
good_tags w named.LdapChanges = refl
good_tags w named.LdapAssertion = refl
good_tags w named.LdapFilter = refl
good_tags w named.LdapPiece = refl
good_tags w named.LdapPieces = refl
good_tags w named.LdapAuthentication = refl
good_tags w named.LdapSuperior = refl
good_tags w named.LdapExtension = refl
good_tags w named.LdapExtensionValue = refl
good_tags w named.LdapMatchingRule = refl
good_tags w named.LdapMatchedType = refl
good_tags w named.LdapMatchedValue = refl
good_tags w named.LdapMatchesNames = refl
good_tags w named.LdapControl = refl
good_tags w named.LdapControls = refl
