-- The tags of the table of messages are apart, and its contents read back, type by type.
use Rattle.std.proofs.Common.{◌≡◌, ℕ, Bool, true, false, refl, [], ◌∷◌}
use Rattle.std.specs.Prelude.{◌-◌, ◌==◌, if◌then◌else◌}
use Rattle.x5_model_typed.specs.Named.{Read, Compare, ListBelow, Search, AddEntry, RemoveEntry, ModifyEntry, ModifyDn}
use Rattle.x5_model_typed.specs.Named.{DapRequest, DapAnswer, DspRequest, DspAnswer, DispMessage, Argument, Chained}
use Rattle.x5_model_typed.specs.Named.{DapResult, DspResult, DispResult, Outcome, AnyNumber, NumberBelow, Enumeration}
use Rattle.x5_model_typed.specs.Named.{Boolean, Null, AnyOid, Value, Part, AgentName, Time, Options, RefType, Name, Rdn}
use Rattle.x5_model_typed.specs.Named.{Rdns, Pair, Attribute, Attributes, Values, TypeList, Selection, Controls}
use Rattle.x5_model_typed.specs.Named.{Assertion, Changes, Change, Filter, Filters, Item, Substrings, Parts, PlacedPart}
use Rattle.x5_model_typed.specs.Named.{Chaining, Progress, Trace, TraceItem, Agents, Agent, Reference, References}
use Rattle.x5_model_typed.specs.Named.{Source, Sources, EntryInfo, EntryInfos, Sub, Subs, Qualifier, AttributeError}
use Rattle.x5_model_typed.specs.Named.{NameError, ServiceError, UpdateError, ShadowError, Agreement, ShadowArgument}
use Rattle.x5_model_typed.specs.Named.{UpdateArgument, Refresh, Total, Entries, Entry, Knowns, Known, NonSpecifics}
use Rattle.x5_model_typed.specs.Named.{NonSpecific, WorldAgents, WorldAgent, WorldAgentName, Steps, Step, Renamed}
use Rattle.x5_model_typed.specs.Named.{LdapMessage, LdapResponse, LdapOperation, LdapAnswer, LdapString, LdapStrings}
use Rattle.x5_model_typed.specs.Named.{LdapValues, LdapSomeValues, LdapAttribute, LdapShown, LdapNewAttribute}
use Rattle.x5_model_typed.specs.Named.{LdapNewAttributes, LdapChange, LdapChanges, LdapAssertion, LdapFilter, LdapPiece}
use Rattle.x5_model_typed.specs.Named.{LdapPieces, LdapAuthentication, LdapSuperior, LdapExtension, LdapExtensionValue}
use Rattle.x5_model_typed.specs.Named.{LdapMatchingRule, LdapMatchedType, LdapMatchedValue, LdapMatchesNames}
use Rattle.x5_model_typed.specs.Named.{LdapControl, LdapControls}
use Rattle.x5_model_typed.specs.Forms.{Explicit, Never, choice}
use Rattle.x5_model.specs.Normal.{is_printable}
use Rattle.x5_model_typed.specs.Leaves.{any_number, from_to, one_of, any_oid, short_oid, text_of, is_numeric}
use Rattle.x5_model_typed.specs.Leaves.{is_seven_bit, is_agent_name}
use Rattle.x5_model_typed.specs.Layouts.{Surroundings, layout, any_agent}
use Rattle.x5_model_typed_laws.specs.Fits.{are_tags_apart, AreTagsApart, AllReadBack, LeavesReadBack, ClockReadsBack}
use Rattle.x5_model_typed_laws.proofs.Leaves.{any_octets_back, placed_back, boolean_back, null_back, number_reads_back}
use Rattle.x5_model_typed_laws.proofs.Leaves.{oid_reads_back, octets_back, text_back, universal_back, time_back}
use Rattle.x5_model_typed_laws.proofs.Leaves.{options_back}

filters_apart : (w : Surroundings) (levels : ℕ) (b : Bool)
    → are_tags_apart (layout w)
    (if b then choice 0 Never ∷ choice 1 Never ∷ choice 2 Never ∷ choice 3 Never ∷ [] else (choice 0 (Explicit Item) ∷ choice 1 (Explicit (Filters (levels - 1))) ∷ choice 2 (Explicit (Filters (levels - 1))) ∷ choice 3 (Explicit (Filter (levels - 1))) ∷ [])) ≡ true
filters_apart w levels true = refl
filters_apart w levels false = refl

pub messages_apart : (w : Surroundings) → AreTagsApart (layout w)
messages_apart w DapRequest = refl
messages_apart w DapAnswer = refl
messages_apart w DspRequest = refl
messages_apart w DspAnswer = refl
messages_apart w DispMessage = refl
messages_apart w (Argument Read) = refl
messages_apart w (Argument Compare) = refl
messages_apart w (Argument ListBelow) = refl
messages_apart w (Argument Search) = refl
messages_apart w (Argument AddEntry) = refl
messages_apart w (Argument RemoveEntry) = refl
messages_apart w (Argument ModifyEntry) = refl
messages_apart w (Argument ModifyDn) = refl
messages_apart w (Chained operation) = refl
messages_apart w DapResult = refl
messages_apart w DspResult = refl
messages_apart w DispResult = refl
messages_apart w (Outcome Read) = refl
messages_apart w (Outcome Compare) = refl
messages_apart w (Outcome ListBelow) = refl
messages_apart w (Outcome Search) = refl
messages_apart w (Outcome AddEntry) = refl
messages_apart w (Outcome RemoveEntry) = refl
messages_apart w (Outcome ModifyEntry) = refl
messages_apart w (Outcome ModifyDn) = refl
messages_apart w AnyNumber = refl
messages_apart w (NumberBelow low high) = refl
messages_apart w (Enumeration low high) = refl
messages_apart w Boolean = refl
messages_apart w Null = refl
messages_apart w AnyOid = refl
messages_apart w Value = refl
messages_apart w Part = refl
messages_apart w AgentName = refl
messages_apart w Time = refl
messages_apart w Options = refl
messages_apart w RefType = refl
messages_apart w Name = refl
messages_apart w Rdn = refl
messages_apart w Rdns = refl
messages_apart w Pair = refl
messages_apart w Attribute = refl
messages_apart w Attributes = refl
messages_apart w Values = refl
messages_apart w TypeList = refl
messages_apart w Selection = refl
messages_apart w Controls = refl
messages_apart w Assertion = refl
messages_apart w Changes = refl
messages_apart w Change = refl
messages_apart w (Filter levels) = filters_apart w levels (levels == 0)
messages_apart w (Filters levels) = refl
messages_apart w Item = refl
messages_apart w Substrings = refl
messages_apart w Parts = refl
messages_apart w PlacedPart = refl
messages_apart w Chaining = refl
messages_apart w Progress = refl
messages_apart w Trace = refl
messages_apart w TraceItem = refl
messages_apart w Agents = refl
messages_apart w Agent = refl
messages_apart w Reference = refl
messages_apart w References = refl
messages_apart w Source = refl
messages_apart w Sources = refl
messages_apart w EntryInfo = refl
messages_apart w EntryInfos = refl
messages_apart w Sub = refl
messages_apart w Subs = refl
messages_apart w Qualifier = refl
messages_apart w AttributeError = refl
messages_apart w NameError = refl
messages_apart w ServiceError = refl
messages_apart w UpdateError = refl
messages_apart w ShadowError = refl
messages_apart w Agreement = refl
messages_apart w ShadowArgument = refl
messages_apart w UpdateArgument = refl
messages_apart w Refresh = refl
messages_apart w Total = refl
messages_apart w Entries = refl
messages_apart w Entry = refl
messages_apart w Knowns = refl
messages_apart w Known = refl
messages_apart w NonSpecifics = refl
messages_apart w NonSpecific = refl
messages_apart w WorldAgents = refl
messages_apart w WorldAgent = refl
messages_apart w WorldAgentName = refl
messages_apart w Steps = refl
messages_apart w Step = refl
messages_apart w Renamed = refl
messages_apart w LdapMessage = refl
messages_apart w LdapResponse = refl
messages_apart w LdapOperation = refl
messages_apart w LdapAnswer = refl
messages_apart w LdapString = refl
messages_apart w LdapStrings = refl
messages_apart w LdapValues = refl
messages_apart w LdapSomeValues = refl
messages_apart w LdapAttribute = refl
messages_apart w LdapShown = refl
messages_apart w LdapNewAttribute = refl
messages_apart w LdapNewAttributes = refl
messages_apart w LdapChange = refl
messages_apart w LdapChanges = refl
messages_apart w LdapAssertion = refl
messages_apart w LdapFilter = refl
messages_apart w LdapPiece = refl
messages_apart w LdapPieces = refl
messages_apart w LdapAuthentication = refl
messages_apart w LdapSuperior = refl
messages_apart w LdapExtension = refl
messages_apart w LdapExtensionValue = refl
messages_apart w LdapMatchingRule = refl
messages_apart w LdapMatchedType = refl
messages_apart w LdapMatchedValue = refl
messages_apart w LdapMatchesNames = refl
messages_apart w LdapControl = refl
messages_apart w LdapControls = refl

filters_read_back : (levels : ℕ) (b : Bool)
    → AllReadBack (if b then choice 0 Never ∷ choice 1 Never ∷ choice 2 Never ∷ choice 3 Never ∷ [] else (choice 0 (Explicit Item) ∷ choice 1 (Explicit (Filters (levels - 1))) ∷ choice 2 (Explicit (Filters (levels - 1))) ∷ choice 3 (Explicit (Filter (levels - 1))) ∷ []))
filters_read_back levels true = (
  λ n octets h. absurd (cc h),
  (λ n octets h. absurd (cc h), (λ n octets h. absurd (cc h), (λ n octets h. absurd (cc h), tt))),
)
filters_read_back levels false = (
  λ n octets h. absurd (cc h),
  (λ n octets h. absurd (cc h), (λ n octets h. absurd (cc h), (λ n octets h. absurd (cc h), tt))),
)

pub messages_read_back : (w : Surroundings) → ClockReadsBack w → LeavesReadBack (layout w)
messages_read_back w clock DapRequest = (λ n octets h. absurd (cc h), tt)
messages_read_back w clock DapAnswer = (λ n octets h. absurd (cc h), (λ n octets h. absurd (cc h), tt))
messages_read_back w clock DspRequest = (λ n octets h. absurd (cc h), tt)
messages_read_back w clock DspAnswer = (λ n octets h. absurd (cc h), (λ n octets h. absurd (cc h), tt))
messages_read_back w clock DispMessage =
    (λ n octets h. absurd (cc h), (λ n octets h. absurd (cc h), (λ n octets h. absurd (cc h), tt)))
messages_read_back w clock (Argument Read) = (λ n octets h. absurd (cc h), tt)
messages_read_back w clock (Argument Compare) = (λ n octets h. absurd (cc h), tt)
messages_read_back w clock (Argument ListBelow) = (λ n octets h. absurd (cc h), tt)
messages_read_back w clock (Argument Search) = (λ n octets h. absurd (cc h), tt)
messages_read_back w clock (Argument AddEntry) = (λ n octets h. absurd (cc h), tt)
messages_read_back w clock (Argument RemoveEntry) = (λ n octets h. absurd (cc h), tt)
messages_read_back w clock (Argument ModifyEntry) = (λ n octets h. absurd (cc h), tt)
messages_read_back w clock (Argument ModifyDn) = (λ n octets h. absurd (cc h), tt)
messages_read_back w clock (Chained operation) = (λ n octets h. absurd (cc h), tt)
messages_read_back w clock DapResult = (λ n octets h. absurd (cc h), tt)
messages_read_back w clock DspResult = (λ n octets h. absurd (cc h), tt)
messages_read_back w clock DispResult = (λ n octets h. absurd (cc h), tt)
messages_read_back w clock (Outcome Read) = (λ n octets h. absurd (cc h), tt)
messages_read_back w clock (Outcome Compare) = (λ n octets h. absurd (cc h), tt)
messages_read_back w clock (Outcome ListBelow) = (λ n octets h. absurd (cc h), tt)
messages_read_back w clock (Outcome Search) = (λ n octets h. absurd (cc h), tt)
messages_read_back w clock (Outcome AddEntry) = (null_back, tt)
messages_read_back w clock (Outcome RemoveEntry) = (null_back, tt)
messages_read_back w clock (Outcome ModifyEntry) = (null_back, tt)
messages_read_back w clock (Outcome ModifyDn) = (null_back, tt)
messages_read_back w clock AnyNumber = (number_reads_back any_number, tt)
messages_read_back w clock (NumberBelow low high) = (number_reads_back (from_to low high), tt)
messages_read_back w clock (Enumeration low high) = (number_reads_back (from_to low high), tt)
messages_read_back w clock Boolean = (boolean_back, tt)
messages_read_back w clock Null = (null_back, tt)
messages_read_back w clock AnyOid = (oid_reads_back any_oid, tt)
messages_read_back w clock Value = (
  oid_reads_back short_oid,
  (
    octets_back,
    (
      λ n octets h. absurd (cc h),
      (
        text_back (text_of is_printable),
        (universal_back, (text_back (text_of is_numeric), (text_back (text_of is_seven_bit), tt))),
      ),
    ),
  ),
)
messages_read_back w clock Part = (
  text_back (text_of is_printable),
  (
    universal_back,
    (
      text_back (text_of is_numeric),
      (
        text_back (text_of is_seven_bit),
        (oid_reads_back short_oid, (octets_back, (λ n octets h. absurd (cc h), tt))),
      ),
    ),
  ),
)
messages_read_back w clock AgentName = (text_back (λ t. if is_agent_name t then any_agent t else false), tt)
messages_read_back w clock Time = (time_back w clock, tt)
messages_read_back w clock Options = (options_back, tt)
messages_read_back w clock RefType = (number_reads_back (one_of (1 ∷ 2 ∷ 3 ∷ 4 ∷ 5 ∷ 8 ∷ [])), tt)
messages_read_back w clock Name = (λ n octets h. absurd (cc h), tt)
messages_read_back w clock Rdn = (λ n octets h. absurd (cc h), tt)
messages_read_back w clock Rdns = (λ n octets h. absurd (cc h), tt)
messages_read_back w clock Pair = (λ n octets h. absurd (cc h), tt)
messages_read_back w clock Attribute = (λ n octets h. absurd (cc h), tt)
messages_read_back w clock Attributes = (λ n octets h. absurd (cc h), tt)
messages_read_back w clock Values = (λ n octets h. absurd (cc h), tt)
messages_read_back w clock TypeList = (λ n octets h. absurd (cc h), tt)
messages_read_back w clock Selection = (λ n octets h. absurd (cc h), tt)
messages_read_back w clock Controls = (λ n octets h. absurd (cc h), tt)
messages_read_back w clock Assertion = (λ n octets h. absurd (cc h), tt)
messages_read_back w clock Changes = (λ n octets h. absurd (cc h), tt)
messages_read_back w clock Change = (
  λ n octets h. absurd (cc h),
  (λ n octets h. absurd (cc h), (λ n octets h. absurd (cc h), (λ n octets h. absurd (cc h), tt))),
)
messages_read_back w clock (Filter levels) = filters_read_back levels (levels == 0)
messages_read_back w clock (Filters levels) = (λ n octets h. absurd (cc h), tt)
messages_read_back w clock Item = (
  λ n octets h. absurd (cc h),
  (
    λ n octets h. absurd (cc h),
    (
      λ n octets h. absurd (cc h),
      (λ n octets h. absurd (cc h), (λ n octets h. absurd (cc h), (λ n octets h. absurd (cc h), tt))),
    ),
  ),
)
messages_read_back w clock Substrings = (λ n octets h. absurd (cc h), tt)
messages_read_back w clock Parts = (λ n octets h. absurd (cc h), tt)
messages_read_back w clock PlacedPart =
    (λ n octets h. absurd (cc h), (λ n octets h. absurd (cc h), (λ n octets h. absurd (cc h), tt)))
messages_read_back w clock Chaining = (λ n octets h. absurd (cc h), tt)
messages_read_back w clock Progress = (λ n octets h. absurd (cc h), tt)
messages_read_back w clock Trace = (λ n octets h. absurd (cc h), tt)
messages_read_back w clock TraceItem = (λ n octets h. absurd (cc h), tt)
messages_read_back w clock Agents = (λ n octets h. absurd (cc h), tt)
messages_read_back w clock Agent = (λ n octets h. absurd (cc h), tt)
messages_read_back w clock Reference = (λ n octets h. absurd (cc h), tt)
messages_read_back w clock References = (λ n octets h. absurd (cc h), tt)
messages_read_back w clock Source = (λ n octets h. absurd (cc h), tt)
messages_read_back w clock Sources = (λ n octets h. absurd (cc h), tt)
messages_read_back w clock EntryInfo = (λ n octets h. absurd (cc h), tt)
messages_read_back w clock EntryInfos = (λ n octets h. absurd (cc h), tt)
messages_read_back w clock Sub = (λ n octets h. absurd (cc h), tt)
messages_read_back w clock Subs = (λ n octets h. absurd (cc h), tt)
messages_read_back w clock Qualifier = (λ n octets h. absurd (cc h), tt)
messages_read_back w clock AttributeError = (λ n octets h. absurd (cc h), tt)
messages_read_back w clock NameError = (λ n octets h. absurd (cc h), tt)
messages_read_back w clock ServiceError = (λ n octets h. absurd (cc h), tt)
messages_read_back w clock UpdateError = (λ n octets h. absurd (cc h), tt)
messages_read_back w clock ShadowError = (λ n octets h. absurd (cc h), tt)
messages_read_back w clock Agreement = (number_reads_back (from_to 0 4294967295), tt)
messages_read_back w clock ShadowArgument = (λ n octets h. absurd (cc h), tt)
messages_read_back w clock UpdateArgument = (λ n octets h. absurd (cc h), tt)
messages_read_back w clock Refresh = (null_back, (λ n octets h. absurd (cc h), (λ n octets h. absurd (cc h), tt)))
messages_read_back w clock Total = (λ n octets h. absurd (cc h), tt)
messages_read_back w clock Entries = (λ n octets h. absurd (cc h), tt)
messages_read_back w clock Entry = (λ n octets h. absurd (cc h), tt)
messages_read_back w clock Knowns = (λ n octets h. absurd (cc h), tt)
messages_read_back w clock Known = (λ n octets h. absurd (cc h), tt)
messages_read_back w clock NonSpecifics = (λ n octets h. absurd (cc h), tt)
messages_read_back w clock NonSpecific = (λ n octets h. absurd (cc h), tt)
messages_read_back w clock WorldAgents = (λ n octets h. absurd (cc h), tt)
messages_read_back w clock WorldAgent = (λ n octets h. absurd (cc h), tt)
messages_read_back w clock WorldAgentName = (text_back (λ t. if is_agent_name t then w.is_agent t else false), tt)
messages_read_back w clock Steps = (λ n octets h. absurd (cc h), tt)
messages_read_back w clock Step = (
  λ n octets h. absurd (cc h),
  (λ n octets h. absurd (cc h), (λ n octets h. absurd (cc h), (λ n octets h. absurd (cc h), tt))),
)
messages_read_back w clock Renamed = (λ n octets h. absurd (cc h), tt)
messages_read_back w clock LdapMessage = (λ n octets h. absurd (cc h), tt)
messages_read_back w clock LdapResponse = (λ n octets h. absurd (cc h), tt)
messages_read_back w clock LdapOperation = (
  λ n octets h. absurd (cc h),
  (
    null_back,
    (
      λ n octets h. absurd (cc h),
      (
        λ n octets h. absurd (cc h),
        (
          λ n octets h. absurd (cc h),
          (
            any_octets_back,
            (
              λ n octets h. absurd (cc h),
              (
                λ n octets h. absurd (cc h),
                (
                  number_reads_back (from_to 0 2147483647),
                  (
                    λ n octets h. absurd (cc h),
                    tt,
                  ),
                ),
              ),
            ),
          ),
        ),
      ),
    ),
  ),
)
messages_read_back w clock LdapAnswer = (
  λ n octets h. absurd (cc h),
  (
    λ n octets h. absurd (cc h),
    (
      λ n octets h. absurd (cc h),
      (
        λ n octets h. absurd (cc h),
        (
          λ n octets h. absurd (cc h),
          (
            λ n octets h. absurd (cc h),
            (
              λ n octets h. absurd (cc h),
              (
                λ n octets h. absurd (cc h),
                (
                  λ n octets h. absurd (cc h),
                  tt,
                ),
              ),
            ),
          ),
        ),
      ),
    ),
  ),
)
messages_read_back w clock LdapString = (any_octets_back, tt)
messages_read_back w clock LdapStrings = (λ n octets h. absurd (cc h), tt)
messages_read_back w clock LdapValues = (λ n octets h. absurd (cc h), tt)
messages_read_back w clock LdapSomeValues = (λ n octets h. absurd (cc h), tt)
messages_read_back w clock LdapAttribute = (λ n octets h. absurd (cc h), tt)
messages_read_back w clock LdapShown = (λ n octets h. absurd (cc h), tt)
messages_read_back w clock LdapNewAttribute = (λ n octets h. absurd (cc h), tt)
messages_read_back w clock LdapNewAttributes = (λ n octets h. absurd (cc h), tt)
messages_read_back w clock LdapChange = (λ n octets h. absurd (cc h), tt)
messages_read_back w clock LdapChanges = (λ n octets h. absurd (cc h), tt)
messages_read_back w clock LdapAssertion = (λ n octets h. absurd (cc h), tt)
messages_read_back w clock LdapFilter = (
  λ n octets h. absurd (cc h),
  (
    λ n octets h. absurd (cc h),
    (
      λ n octets h. absurd (cc h),
      (
        λ n octets h. absurd (cc h),
        (
          λ n octets h. absurd (cc h),
          (
            λ n octets h. absurd (cc h),
            (
              λ n octets h. absurd (cc h),
              (
                any_octets_back,
                (
                  λ n octets h. absurd (cc h),
                  (
                    λ n octets h. absurd (cc h),
                    tt,
                  ),
                ),
              ),
            ),
          ),
        ),
      ),
    ),
  ),
)
messages_read_back w clock LdapPiece = (placed_back 0, (placed_back 1, (placed_back 2, tt)))
messages_read_back w clock LdapPieces = (λ n octets h. absurd (cc h), tt)
messages_read_back w clock LdapAuthentication = (any_octets_back, (λ n octets h. absurd (cc h), tt))
messages_read_back w clock LdapSuperior = (any_octets_back, tt)
messages_read_back w clock LdapExtension = (any_octets_back, tt)
messages_read_back w clock LdapExtensionValue = (any_octets_back, tt)
messages_read_back w clock LdapMatchingRule = (any_octets_back, tt)
messages_read_back w clock LdapMatchedType = (any_octets_back, tt)
messages_read_back w clock LdapMatchedValue = (any_octets_back, tt)
messages_read_back w clock LdapMatchesNames = (boolean_back, tt)
messages_read_back w clock LdapControl = (λ n octets h. absurd (cc h), tt)
messages_read_back w clock LdapControls = (λ n octets h. absurd (cc h), tt)
