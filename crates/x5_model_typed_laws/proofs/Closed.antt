-- The table of messages is closed, type by type: the rule of each type keeps what was read, or what it makes of it fits
-- and is kept.
use Rattle.std.specs.Prelude.{ℤ}
use Rattle.std.proofs.Common.{◌≡◌, ℕ, subst, Bool, true, false, not, ◌&&◌, ◌||◌, ◌==◌, if◌then◌else◌, cond, Option}
use Rattle.std.proofs.Common.{List, [], ◌∷◌, ◌-◌, length, refl, sym, ap, ◌∙◌}
use Rattle.std.specs.Prelude.{nat_le}
use Rattle.std.specs.List.{find, list_all}
use Rattle.std.specs.Option.{is_some}
use Rattle.std.specs.declared.option.Option.TheVariants.{None, Some}
use Rattle.x5_model.specs.Words.{distinct, is_empty}
use Rattle.x5_model.specs.Normal as normal
use Rattle.x5_model_typed.specs.Nodes as nodes
use Rattle.x5_model_typed.specs.Nodes.{Node, Nodes, Vacant, Flag, Many, Nil, More, parts, is_vacant}
use Rattle.x5_model_typed.specs.Named.{Named, AddEntry, Agent, AgentName, Agents, Agreement, AnyNumber, AnyOid}
use Rattle.x5_model_typed.specs.Named.{Argument, Assertion, Attribute, AttributeError, Attributes, Boolean, Chained}
use Rattle.x5_model_typed.specs.Named.{Chaining, Change, Changes, Compare, Controls, DapAnswer, DapRequest, DapResult}
use Rattle.x5_model_typed.specs.Named.{DispMessage, DispResult, DspAnswer, DspRequest, DspResult, Entries, Entry}
use Rattle.x5_model_typed.specs.Named.{EntryInfo, EntryInfos, Enumeration, Filter, Filters, Item, Known, Knowns}
use Rattle.x5_model_typed.specs.Named.{ListBelow, ModifyDn, ModifyEntry, Name, NameError, NonSpecific, NonSpecifics}
use Rattle.x5_model_typed.specs.Named.{Null, NumberBelow, Options, Outcome, Pair, Part, Parts, PlacedPart, Progress}
use Rattle.x5_model_typed.specs.Named.{Qualifier, Rdn, Rdns, Read, RefType, Reference, References, Refresh, RemoveEntry}
use Rattle.x5_model_typed.specs.Named.{Renamed, Search, Selection, ServiceError, ShadowArgument, ShadowError, Source}
use Rattle.x5_model_typed.specs.Named.{Sources, Step, Steps, Sub, Subs, Substrings, Time, Total, Trace, TraceItem}
use Rattle.x5_model_typed.specs.Named.{TypeList, UpdateArgument, UpdateError, Value, Values, WorldAgent, WorldAgentName}
use Rattle.x5_model_typed.specs.Named.{WorldAgents}
use Rattle.x5_model_typed.specs.Named.{LdapMessage, LdapResponse, LdapOperation, LdapAnswer, LdapString, LdapStrings}
use Rattle.x5_model_typed.specs.Named.{LdapValues, LdapSomeValues, LdapAttribute, LdapShown, LdapNewAttribute}
use Rattle.x5_model_typed.specs.Named.{LdapNewAttributes, LdapChange, LdapChanges, LdapAssertion, LdapFilter, LdapPiece}
use Rattle.x5_model_typed.specs.Named.{LdapPieces, LdapAuthentication, LdapSuperior, LdapExtension, LdapExtensionValue}
use Rattle.x5_model_typed.specs.Named.{LdapMatchingRule, LdapMatchedType, LdapMatchedValue, LdapMatchesNames}
use Rattle.x5_model_typed.specs.Named.{LdapControl, LdapControls}
use Rattle.x5_model_typed.specs.Forms.{Content, Sequence, Members, context, Primitive, Joined, JoinedBits, Explicit}
use Rattle.x5_model_typed.specs.Forms.{Never, Alternative, Layout, universal, choice, ruled, plain, at, or}
use Rattle.x5_model_typed.specs.Leaves.{boolean, null, number, any_number, from_to, one_of, oid, any_oid, is_agent_name}
use Rattle.x5_model_typed.specs.Leaves.{options}
use Rattle.x5_model_typed.specs.Rules.{name_rule, is_pair, pair_rule, some_members, in_their_places, parts_rule}
use Rattle.x5_model_typed.specs.Rules.{pieces_rule, in_line, is_proceeding, progress_rule, same_item, most_items}
use Rattle.x5_model_typed.specs.Rules.{trace_rule, master_first, agents_of, is_copy, known_rule, masters_rule}
use Rattle.x5_model_typed.specs.Written.{leaf_octets, is_made_of_members, can_hold}
use Rattle.x5_model_typed.specs.Judged.{marked}
use Rattle.x5_model_typed.specs.Layouts.{application, string, count, assertion, piece, ldap_result, Surroundings}
use Rattle.x5_model_typed.specs.Layouts.{layout, sequence, set, sequence_of, set_of, integer, optional, or_nothing}
use Rattle.x5_model_typed.specs.Layouts.{invoke, result, error, result_inner, operation_codes, dap_errors, dsp_errors}
use Rattle.x5_model_typed.specs.Layouts.{shadow_operations, shadow_results, shadow_errors, argument, outcome}
use Rattle.x5_model_typed.specs.Layouts.{agent_name, any_agent, time_leaf}
use Rattle.x5_model_typed_laws.specs.Said.{IsSaid, is_uncoded, Closes, AllClose, MessagesAreClosed, MessagesSpelledFit}
use Rattle.x5_model_typed_laws.specs.Fits as fits
use Rattle.x5_model_typed_laws.specs.Fits.{Fits}
use Rattle.x5_model_typed_laws.proofs.Leaves.{so, some_is}
use Rattle.x5_model_typed_laws.proofs.Closing.{any_octets_writes, placed_writes, number_is, null_is, Keeps, any_keeps}
use Rattle.x5_model_typed_laws.proofs.Closing.{test_keeps, no_leaf, made_closes, chosen_closes, explicit_closes}
use Rattle.x5_model_typed_laws.proofs.Closing.{leaf_closes, leaf_alone, held_by, boolean_writes, null_writes}
use Rattle.x5_model_typed_laws.proofs.Closing.{text_writes, time_writes, options_writes, oid_writes, number_writes}
use Rattle.x5_model_typed_laws.proofs.Texts.{printable_value_closes, printable_part_closes, universal_value_closes}
use Rattle.x5_model_typed_laws.proofs.Texts.{universal_part_closes, numeric_value_closes, numeric_part_closes}
use Rattle.x5_model_typed_laws.proofs.Texts.{seven_value_closes, seven_part_closes, oid_value_closes}
use Rattle.x5_model_typed_laws.proofs.Texts.{octets_value_closes, oid_part_closes, octets_part_closes, name_part_closes}
use Rattle.x5_model_typed_laws.proofs.Settling.{rdn_closes, controls_close, entry_closes}
use Rattle.x5_model_typed_laws.proofs.Spelled.{spelled_fits}

-- ---- rules that take a value or refuse it
name_keeps : Keeps name_rule
name_keeps m n h = test_keeps (λ x. nat_le (length (parts x)) normal.most_rdns) m n h

pair_keeps : Keeps pair_rule
pair_keeps m n h = test_keeps is_pair m n h

some_keeps : Keeps some_members
some_keeps m n h = test_keeps (λ x. not (is_empty (parts x))) m n h

parts_keeps : Keeps parts_rule
parts_keeps m n h = test_keeps (λ x. not (is_empty (parts x)) && in_their_places (parts x)) m n h

trace_keeps : Keeps trace_rule
trace_keeps m n h = test_keeps (λ x. nat_le (length (parts x)) most_items && distinct same_item (parts x)) m n h

known_keeps : Keeps known_rule
known_keeps m n h = test_keeps (λ x. master_first (agents_of x)) m n h

masters_keeps : Keeps masters_rule
masters_keeps m n h = test_keeps (λ x. list_all (λ a. not (is_copy a)) (agents_of x)) m n h

progress_keeps : Keeps progress_rule
progress_keeps Vacant n h = absurd (cc h)
progress_keeps (Flag b) n h = absurd (cc h)
progress_keeps (nodes.Number k) n h = absurd (cc h)
progress_keeps (nodes.Oid arcs) n h = absurd (cc h)
progress_keeps (nodes.Bits bits) n h = absurd (cc h)
progress_keeps (nodes.Octets octets) n h = absurd (cc h)
progress_keeps (nodes.Text text) n h = absurd (cc h)
progress_keeps (nodes.Chosen tag x) n h = absurd (cc h)
progress_keeps (Many Nil) n h = absurd (cc h)
progress_keeps (Many (More p Nil)) n h = absurd (cc h)
progress_keeps (Many (More p (More q Nil))) n h =
    sym (so ((is_proceeding p && not (is_vacant q)) || (not (is_proceeding p) && is_vacant q))
    (Many (More p (More q Nil))) n h).1
progress_keeps (Many (More p (More q (More r rs)))) n h = absurd (cc h)

pieces_keeps : Keeps pieces_rule
pieces_keeps m n h = test_keeps (λ x. not (is_empty (parts x)) && in_line (parts x)) m n h

-- ---- contents of octets among others (RFC 4511)
octets_held : (L : Layout) (types : List Alternative) (a : Alternative) → a.content ≡ string → a.marked ≡ false
    → Keeps a.settles → ((octets : List ℕ) → find (can_hold (nodes.Octets octets)) types ≡ Some a) → Closes L types a
octets_held L types a c plain keeps held m n said rule =
    let s : IsSaid L string m = subst (λ (x : Content). IsSaid L x m) c said in
    let e : nodes.Octets s.0 ≡ m = some_is (nodes.Octets s.0) m s.2 in
    let same : n ≡ m = keeps m n rule in
    subst (λ (x : Node). Fits L types x)
    (ap (λ (b : Bool). if b then nodes.Chosen a.tag (nodes.Octets s.0) else nodes.Octets s.0) (sym plain)
    ∙ ap (λ (x : Node). marked a x) (e ∙ sym same))
    (fits.whole a s.0 refl (held s.0) plain (ap (λ (x : Content). leaf_octets x (nodes.Octets s.0)) c)
    (subst (λ (x : Node). a.settles x ≡ Some x) (sym e) (rule ∙ ap (λ (x : Node). Some x) same)))

operation_octets_closes : (w : Surroundings) → Closes (layout w) (layout w LdapOperation) (application false 10 string)
operation_octets_closes w =
    octets_held (layout w) (layout w LdapOperation) (application false 10 string) refl refl any_keeps (λ octets. refl)

present_closes : (w : Surroundings) → Closes (layout w) (layout w LdapFilter) (context 7 string)
present_closes w = octets_held (layout w) (layout w LdapFilter) (context 7 string) refl refl any_keeps (λ octets. refl)

simple_closes : (w : Surroundings) → Closes (layout w) (layout w LdapAuthentication) (context 0 string)
simple_closes w =
    octets_held (layout w) (layout w LdapAuthentication) (context 0 string) refl refl any_keeps (λ octets. refl)

operation_null_closes : (w : Surroundings)
    → Closes (layout w) (layout w LdapOperation) (application false 2 (Primitive null))
operation_null_closes w =
    leaf_closes (layout w) (layout w LdapOperation) (application false 2 (Primitive null)) refl any_keeps
    null_writes
    (λ m said.
    subst (λ (x : Node). find (can_hold x) (layout w LdapOperation) ≡ Some (application false 2 (Primitive null)))
    (null_is said.0 m said.2) refl)

-- MessageID
abbrev abandoned : Alternative
abandoned = application false 16 (Primitive (number (from_to 0 2147483647)))

number_found : (w : Surroundings) (m : Node) (k : ℤ) → nodes.Number k ≡ m → can_hold m abandoned ≡ true
    → find (can_hold m) (layout w LdapOperation) ≡ Some abandoned
number_found w m k e h =
    subst (λ (x : Node). can_hold x abandoned ≡ true → find (can_hold x) (layout w LdapOperation) ≡ Some abandoned) e
    (λ g. ap (λ (b : Bool). cond b (Some abandoned)
    (find (can_hold (nodes.Number k))
    (application true 23 (Sequence (plain LdapExtension ∷ optional (plain LdapExtensionValue) ∷ [])) ∷ []))) g) h

operation_number_closes : (w : Surroundings) → Closes (layout w) (layout w LdapOperation) abandoned
operation_number_closes w =
    leaf_closes (layout w) (layout w LdapOperation) abandoned refl any_keeps (number_writes (from_to 0 2147483647))
    (λ m said. let x = number_is (from_to 0 2147483647) said.0 m said.2 in
    number_found w m x.0 x.1 (held_by abandoned m (number_writes (from_to 0 2147483647) (layout w) m said)))

abbrev placed_node : ℕ → List ℕ → Node
placed_node k octets = Many (nodes.row (nodes.whole k ∷ nodes.Octets octets ∷ []))

abbrev AreFound : Surroundings → ℕ → Type 0
AreFound w k = (octets : List ℕ) → find (can_hold (placed_node k octets)) (layout w LdapPiece) ≡ Some (piece k)

piece_found : (w : Surroundings) (k : ℕ) → AreFound w k
    → Closes (layout w) (layout w LdapPiece) (piece k)
piece_found w k found =
    leaf_closes (layout w) (layout w LdapPiece) (piece k) refl any_keeps (placed_writes k)
    (λ m said. subst (λ (x : Node). find (can_hold x) (layout w LdapPiece) ≡ Some (piece k))
    (some_is (placed_node k said.0) m said.2) (found said.0))

pieces_close : (w : Surroundings) → AllClose (layout w) (layout w LdapPiece) (layout w LdapPiece)
pieces_close w =
    (piece_found w 0 (λ octets. refl), (piece_found w 1 (λ octets. refl), (piece_found w 2 (λ octets. refl), tt)))

-- ---- a type with one alternative, of elements
made_alone : (L : Layout) (a : Alternative) → is_made_of_members a.content ≡ true → a.marked ≡ false → Keeps a.settles
    → AllClose L (a ∷ []) (a ∷ [])
made_alone L a made free_of keeps = (
  made_closes L (a ∷ []) a made free_of keeps (λ ns. ap (λ (b : Bool). cond b (Some a) None)
      (ap (λ (o : Option (List ℕ)). if is_some o then true else (true && is_made_of_members a.content))
      (no_leaf a.content (Many ns) made)
      ∙ made)),
  tt,
)

null_refresh_closes : (w : Surroundings) → Closes (layout w) (layout w Refresh) (universal 5 (Primitive null))
null_refresh_closes w =
    leaf_closes (layout w) (layout w Refresh) (universal 5 (Primitive null)) refl any_keeps null_writes
    (λ m said. ap (λ (b : Bool). cond b (Some (universal 5 (Primitive null)))
    (find (can_hold m) (choice 0 (Explicit Total) ∷ choice 1 (Explicit Steps) ∷ [])))
    (held_by (universal 5 (Primitive null)) m (null_writes (layout w) m said)))

abbrev filter_types : ℕ → Bool → List Alternative
filter_types levels b =
    if b then choice 0 Never ∷ choice 1 Never ∷ choice 2 Never ∷ choice 3 Never ∷ []
    else (choice 0 (Explicit Item) ∷ choice 1 (Explicit (Filters (levels - 1))) ∷ choice 2
    (Explicit (Filters (levels - 1)))
    ∷ choice 3 (Explicit (Filter (levels - 1))) ∷ [])

filters_close : (w : Surroundings) (levels : ℕ) (b : Bool)
    → AllClose (layout w) (filter_types levels b) (filter_types levels b)
filters_close w levels true = (
  λ m n said rule. absurd said,
  (λ m n said rule. absurd said, (λ m n said rule. absurd said, (λ m n said rule. absurd said, tt))),
)
filters_close w levels false = (
  explicit_closes (layout w) (filter_types levels false) (choice 0 (Explicit Item)) Item refl refl any_keeps refl,
  (
    explicit_closes (layout w) (filter_types levels false) (choice 1 (Explicit (Filters (levels - 1))))
        (Filters (levels - 1)) refl refl any_keeps refl,
    (
      explicit_closes (layout w) (filter_types levels false) (choice 2 (Explicit (Filters (levels - 1))))
          (Filters (levels - 1)) refl refl any_keeps refl,
      (
        explicit_closes (layout w) (filter_types levels false) (choice 3 (Explicit (Filter (levels - 1))))
            (Filter (levels - 1)) refl refl any_keeps refl,
        tt,
      ),
    ),
  ),
)

filters_uncoded : (levels : ℕ) (b : Bool) → list_all (λ a. is_uncoded a.content) (filter_types levels b) ≡ true
filters_uncoded levels true = refl
filters_uncoded levels false = refl

-- ---- the table
pub messages_close : (w : Surroundings) (form : Named) → AllClose (layout w) (layout w form) (layout w form)
messages_close w DapRequest =
    (chosen_closes (layout w) (layout w DapRequest) (invoke (operation_codes Argument)) refl refl any_keeps refl, tt)
messages_close w DapAnswer = (
  chosen_closes (layout w) (layout w DapAnswer) (result DapResult) refl refl any_keeps
      refl,
  (chosen_closes (layout w) (layout w DapAnswer) (error dap_errors) refl refl any_keeps refl, tt),
)
messages_close w DspRequest =
    (chosen_closes (layout w) (layout w DspRequest) (invoke (operation_codes Chained)) refl refl any_keeps refl, tt)
messages_close w DspAnswer = (
  chosen_closes (layout w) (layout w DspAnswer) (result DspResult) refl refl any_keeps
      refl,
  (chosen_closes (layout w) (layout w DspAnswer) (error dsp_errors) refl refl any_keeps refl, tt),
)
messages_close w DispMessage = (
  chosen_closes (layout w) (layout w DispMessage) (invoke shadow_operations) refl refl any_keeps
      refl,
  (
    chosen_closes (layout w) (layout w DispMessage)
        (result DispResult) refl refl any_keeps refl,
    (
      chosen_closes (layout w) (layout w DispMessage)
          (error shadow_errors) refl refl any_keeps refl,
      tt,
    ),
  ),
)
messages_close w (Argument operation) = made_alone (layout w) (set (argument operation)) refl refl any_keeps
messages_close w (Chained operation) =
    made_alone (layout w) (sequence (plain Chaining ∷ plain (Argument operation) ∷ [])) refl refl any_keeps
messages_close w DapResult = made_alone (layout w) (result_inner (operation_codes Outcome)) refl refl any_keeps
messages_close w DspResult = made_alone (layout w) (result_inner (operation_codes Outcome)) refl refl any_keeps
messages_close w DispResult = made_alone (layout w) (result_inner shadow_results) refl refl any_keeps
messages_close w (Outcome Read) = made_alone (layout w) (outcome Read) refl refl any_keeps
messages_close w (Outcome Compare) = made_alone (layout w) (outcome Compare) refl refl any_keeps
messages_close w (Outcome ListBelow) = made_alone (layout w) (outcome ListBelow) refl refl any_keeps
messages_close w (Outcome Search) = made_alone (layout w) (outcome Search) refl refl any_keeps
messages_close w (Outcome AddEntry) =
    (leaf_alone (layout w) (universal 5 (Primitive null)) refl any_keeps null_writes, tt)
messages_close w (Outcome RemoveEntry) =
    (leaf_alone (layout w) (universal 5 (Primitive null)) refl any_keeps null_writes, tt)
messages_close w (Outcome ModifyEntry) =
    (leaf_alone (layout w) (universal 5 (Primitive null)) refl any_keeps null_writes, tt)
messages_close w (Outcome ModifyDn) =
    (leaf_alone (layout w) (universal 5 (Primitive null)) refl any_keeps null_writes, tt)
messages_close w AnyNumber =
    (leaf_alone (layout w) (integer any_number) refl any_keeps (number_writes any_number), tt)
messages_close w (NumberBelow low high) =
    (leaf_alone (layout w) (integer (from_to low high)) refl any_keeps (number_writes (from_to low high)), tt)
messages_close w (Enumeration low high) = (
  leaf_alone (layout w) (universal 10 (Primitive (number (from_to low high)))) refl any_keeps
      (number_writes (from_to low high)),
  tt,
)
messages_close w Boolean =
    (leaf_alone (layout w) (universal 1 (Primitive boolean)) refl any_keeps boolean_writes, tt)
messages_close w Null = (leaf_alone (layout w) (universal 5 (Primitive null)) refl any_keeps null_writes, tt)
messages_close w AnyOid =
    (leaf_alone (layout w) (universal 6 (Primitive (oid any_oid))) refl any_keeps (oid_writes any_oid), tt)
messages_close w Value = (
  oid_value_closes w,
  (
    octets_value_closes w,
    (
      made_closes (layout w) (layout w Value)
          (ruled name_rule (sequence_of Rdn)) refl refl name_keeps
          (λ ns. refl),
      (
        printable_value_closes w,
        (
          universal_value_closes
              w,
          (numeric_value_closes w, (seven_value_closes w, tt)),
        ),
      ),
    ),
  ),
)
messages_close w Part = (
  printable_part_closes w,
  (
    universal_part_closes w,
    (
      numeric_part_closes
          w,
      (seven_part_closes w, (oid_part_closes w, (octets_part_closes w, (name_part_closes w, tt)))),
    ),
  ),
)
messages_close w AgentName = (
  leaf_alone (layout w) (agent_name any_agent) refl any_keeps
      (text_writes (λ t. if is_agent_name t then any_agent t else false)),
  tt,
)
messages_close w Time =
    (leaf_alone (layout w) (universal 24 (Joined (time_leaf w))) refl any_keeps (time_writes w), tt)
messages_close w Options =
    (leaf_alone (layout w) (universal 3 (JoinedBits options)) refl any_keeps options_writes, tt)
messages_close w RefType = (
  leaf_alone (layout w) (integer (one_of (1 ∷ 2 ∷ 3 ∷ 4 ∷ 5 ∷ 8 ∷ []))) refl any_keeps
      (number_writes (one_of (1 ∷ 2 ∷ 3 ∷ 4 ∷ 5 ∷ 8 ∷ []))),
  tt,
)
messages_close w Name = made_alone (layout w) (ruled name_rule (sequence_of Rdn)) refl refl name_keeps
messages_close w Rdn = (rdn_closes w, tt)
messages_close w Rdns = made_alone (layout w) (sequence_of Rdn) refl refl any_keeps
messages_close w Pair =
    made_alone (layout w) (ruled pair_rule (sequence (plain AnyOid ∷ plain Value ∷ []))) refl refl pair_keeps
messages_close w Attribute =
    made_alone (layout w) (sequence (plain AnyOid ∷ plain Values ∷ [])) refl refl any_keeps
messages_close w Attributes = made_alone (layout w) (set_of Attribute) refl refl any_keeps
messages_close w Values = made_alone (layout w) (ruled some_members (set_of Value)) refl refl some_keeps
messages_close w TypeList = made_alone (layout w) (set_of AnyOid) refl refl any_keeps
messages_close w Selection = made_alone (layout w) (set (optional (at 1 TypeList) ∷ [])) refl refl any_keeps
messages_close w Controls = (controls_close w, tt)
messages_close w Assertion =
    made_alone (layout w) (sequence (plain AnyOid ∷ plain Value ∷ [])) refl refl any_keeps
messages_close w Changes = made_alone (layout w) (sequence_of Change) refl refl any_keeps
messages_close w Change = (
  explicit_closes (layout w) (layout w Change) (choice 0 (Explicit Attribute)) Attribute refl refl any_keeps
      refl,
  (
    explicit_closes (layout w) (layout w Change)
        (choice 1 (Explicit AnyOid)) AnyOid refl refl any_keeps
        refl,
    (
      explicit_closes (layout w) (layout w Change)
          (choice 2 (Explicit Attribute)) Attribute refl refl any_keeps
          refl,
      (
        explicit_closes (layout w) (layout w Change)
            (choice 3 (Explicit Attribute)) Attribute refl refl any_keeps refl,
        tt,
      ),
    ),
  ),
)
messages_close w (Filter levels) = filters_close w levels (levels == 0)
messages_close w (Filters levels) = made_alone (layout w) (set_of (Filter levels)) refl refl any_keeps
messages_close w Item = (
  explicit_closes (layout w) (layout w Item) (choice 0 (Explicit Assertion)) Assertion refl refl any_keeps
      refl,
  (
    explicit_closes (layout w) (layout w Item)
        (choice 1 (Explicit Substrings)) Substrings refl refl any_keeps
        refl,
    (
      explicit_closes (layout w) (layout w Item)
          (choice 2 (Explicit Assertion)) Assertion refl refl any_keeps
          refl,
      (
        explicit_closes (layout w) (layout w Item)
            (choice 3 (Explicit Assertion)) Assertion refl refl any_keeps
            refl,
        (
          explicit_closes (layout w) (layout w Item)
              (choice 4 (Explicit AnyOid)) AnyOid refl refl any_keeps
              refl,
          (
            explicit_closes (layout w) (layout w Item)
                (choice 5 (Explicit Assertion)) Assertion refl refl any_keeps refl,
            tt,
          ),
        ),
      ),
    ),
  ),
)
messages_close w Substrings =
    made_alone (layout w) (sequence (plain AnyOid ∷ plain Parts ∷ [])) refl refl any_keeps
messages_close w Parts = made_alone (layout w) (ruled parts_rule (sequence_of PlacedPart)) refl refl parts_keeps
messages_close w PlacedPart = (
  explicit_closes (layout w) (layout w PlacedPart) (choice 0 (Explicit Part)) Part refl refl any_keeps
      refl,
  (
    explicit_closes (layout w) (layout w PlacedPart)
        (choice 1 (Explicit Part)) Part refl refl any_keeps
        refl,
    (
      explicit_closes (layout w) (layout w PlacedPart)
          (choice 2 (Explicit Part)) Part refl refl any_keeps refl,
      tt,
    ),
  ),
)
messages_close w Chaining =
    made_alone (layout w) (set (at 0 Name ∷ at 1 Progress ∷ at 2 Trace ∷ at 3 RefType ∷ or_nothing (at 4 Rdns) ∷ []))
    refl refl any_keeps
messages_close w Progress =
    made_alone (layout w) (ruled progress_rule (sequence
    (plain (Enumeration 1 3) ∷ optional (plain (NumberBelow 1 16)) ∷ []))) refl refl progress_keeps
messages_close w Trace = made_alone (layout w) (ruled trace_rule (sequence_of TraceItem)) refl refl trace_keeps
messages_close w TraceItem =
    made_alone (layout w) (sequence (plain AgentName ∷ plain Name ∷ plain Progress ∷ or (Flag false)
    (plain Boolean) ∷ [])) refl refl any_keeps
messages_close w Agents = made_alone (layout w) (sequence_of Agent) refl refl any_keeps
messages_close w Agent =
    made_alone (layout w) (sequence (plain AgentName ∷ or (Flag false) (plain Boolean) ∷ [])) refl refl any_keeps
messages_close w Reference =
    made_alone (layout w) (set (at 0 Name ∷ at 1 Progress ∷ at 2 RefType ∷ at 3 Agents ∷ or_nothing (at 4 Rdns) ∷ or
    (Flag false) (at 5 Boolean) ∷ [])) refl refl any_keeps
messages_close w References = made_alone (layout w) (sequence_of Reference) refl refl any_keeps
messages_close w Source =
    made_alone (layout w) (sequence (plain Name ∷ plain AgentName ∷ optional
    (plain (NumberBelow 0 4294967295)) ∷ [])) refl refl any_keeps
messages_close w Sources = made_alone (layout w) (sequence_of Source) refl refl any_keeps
messages_close w EntryInfo =
    made_alone (layout w) (sequence (plain Name ∷ or (Flag true) (plain Boolean) ∷ plain Attributes ∷ [])) refl refl
    any_keeps
messages_close w EntryInfos = made_alone (layout w) (sequence_of EntryInfo) refl refl any_keeps
messages_close w Sub =
    made_alone (layout w) (sequence (plain Rdn ∷ or (Flag true) (plain Boolean) ∷ [])) refl refl any_keeps
messages_close w Subs = made_alone (layout w) (sequence_of Sub) refl refl any_keeps
messages_close w Qualifier =
    made_alone (layout w) (set (optional (at 0 (NumberBelow 1 1)) ∷ or_nothing (at 1 References) ∷ [])) refl refl
    any_keeps
messages_close w AttributeError =
    made_alone (layout w) (sequence (plain (NumberBelow 1 6) ∷ plain AnyOid ∷ [])) refl refl any_keeps
messages_close w NameError =
    made_alone (layout w) (sequence (plain (NumberBelow 1 1) ∷ plain Name ∷ [])) refl refl any_keeps
messages_close w ServiceError =
    made_alone (layout w) (sequence (plain (NumberBelow 1 12) ∷ optional (at 0 Reference) ∷ optional
    (at 1 TraceItem) ∷ [])) refl refl any_keeps
messages_close w UpdateError =
    made_alone (layout w) (sequence (plain (NumberBelow 1 7) ∷ [])) refl refl any_keeps
messages_close w ShadowError =
    made_alone (layout w) (sequence (plain (NumberBelow 1 11) ∷ optional (at 0 Time) ∷ optional (at 1 Time) ∷ []))
    refl refl any_keeps
messages_close w Agreement =
    (leaf_alone (layout w) (integer (from_to 0 4294967295)) refl any_keeps (number_writes (from_to 0 4294967295)), tt)
messages_close w ShadowArgument =
    made_alone (layout w) (sequence (plain Agreement ∷ optional (at 0 Time) ∷ plain (Enumeration 1 2) ∷ [])) refl
    refl any_keeps
messages_close w UpdateArgument =
    made_alone (layout w) (sequence (plain Agreement ∷ plain Time ∷ plain Refresh ∷ [])) refl refl any_keeps
messages_close w Refresh = (
  null_refresh_closes w,
  (
    explicit_closes (layout w) (layout w Refresh)
        (choice 0 (Explicit Total)) Total refl refl any_keeps
        refl,
    (
      explicit_closes (layout w) (layout w Refresh)
          (choice 1 (Explicit Steps)) Steps refl refl any_keeps refl,
      tt,
    ),
  ),
)
messages_close w Total =
    made_alone (layout w) (sequence (plain Entries ∷ plain Knowns ∷ plain NonSpecifics ∷ [])) refl refl any_keeps
messages_close w Entries = made_alone (layout w) (sequence_of Entry) refl refl any_keeps
messages_close w Entry = (entry_closes w, tt)
messages_close w Knowns = made_alone (layout w) (sequence_of Known) refl refl any_keeps
messages_close w Known =
    made_alone (layout w) (ruled known_rule (sequence (plain Name ∷ plain WorldAgents ∷ []))) refl refl known_keeps
messages_close w NonSpecifics = made_alone (layout w) (sequence_of NonSpecific) refl refl any_keeps
messages_close w NonSpecific =
    made_alone (layout w) (ruled masters_rule (sequence (plain Name ∷ plain WorldAgents ∷ []))) refl refl masters_keeps
messages_close w WorldAgents = made_alone (layout w) (sequence_of WorldAgent) refl refl any_keeps
messages_close w WorldAgent =
    made_alone (layout w) (sequence (plain WorldAgentName ∷ or (Flag false) (plain Boolean) ∷ [])) refl refl any_keeps
messages_close w WorldAgentName = (
  leaf_alone (layout w) (agent_name w.is_agent) refl any_keeps
      (text_writes (λ t. if is_agent_name t then w.is_agent t else false)),
  tt,
)
messages_close w Steps = made_alone (layout w) (sequence_of Step) refl refl any_keeps
messages_close w Step = (
  explicit_closes (layout w) (layout w Step) (choice 0 (Explicit Entry)) Entry refl refl any_keeps
      refl,
  (
    explicit_closes (layout w) (layout w Step)
        (choice 1 (Explicit Name)) Name refl refl any_keeps
        refl,
    (
      explicit_closes (layout w) (layout w Step)
          (choice 2 (Explicit Entry)) Entry refl refl any_keeps
          refl,
      (
        explicit_closes (layout w) (layout w Step)
            (choice 3 (Explicit Renamed)) Renamed refl refl any_keeps refl,
        tt,
      ),
    ),
  ),
)
messages_close w Renamed = made_alone (layout w) (sequence (plain Name ∷ plain Entry ∷ [])) refl refl any_keeps
messages_close w LdapMessage =
    made_alone (layout w) (sequence (count ∷ plain LdapOperation ∷ or_nothing (plain LdapControls) ∷ [])) refl
    refl any_keeps
messages_close w LdapResponse = made_alone (layout w) (sequence (count ∷ plain LdapAnswer ∷ [])) refl refl any_keeps
messages_close w LdapOperation = (
  chosen_closes (layout w) (layout w LdapOperation) (application true 0 (Sequence (plain (NumberBelow 1 127) ∷
      plain LdapString ∷ plain LdapAuthentication ∷ []))) refl refl any_keeps refl,
  (
    operation_null_closes w,
    (
      chosen_closes (layout w) (layout w LdapOperation) (application true 3 (Sequence (plain LdapString ∷ plain
          (Enumeration 0 2) ∷ plain (Enumeration 0 3) ∷ count ∷ count ∷ plain Boolean ∷ plain LdapFilter ∷ plain
          LdapStrings ∷ []))) refl refl any_keeps refl,
      (
        chosen_closes (layout w) (layout w LdapOperation) (application true 6 (Sequence (plain LdapString ∷
            plain LdapChanges ∷ []))) refl refl any_keeps refl,
        (
          chosen_closes (layout w) (layout w LdapOperation) (application true 8 (Sequence (plain LdapString ∷
              plain LdapNewAttributes ∷ []))) refl refl any_keeps refl,
          (
            operation_octets_closes w,
            (
              chosen_closes (layout w) (layout w LdapOperation) (application true 12 (Sequence (plain LdapString
                  ∷ plain LdapString ∷ plain Boolean ∷ optional (plain LdapSuperior) ∷ []))) refl refl
                  any_keeps refl,
              (
                chosen_closes (layout w) (layout w LdapOperation) (application true 14 (Sequence (plain
                    LdapString ∷ plain LdapAssertion ∷ []))) refl refl any_keeps refl,
                (
                  operation_number_closes w,
                  (
                    chosen_closes (layout w) (layout w LdapOperation) (application true 23 (Sequence (plain
                        LdapExtension ∷ optional (plain LdapExtensionValue) ∷ []))) refl refl any_keeps refl,
                    tt,
                  ),
                ),
              ),
            ),
          ),
        ),
      ),
    ),
  ),
)
messages_close w LdapAnswer = (
  chosen_closes (layout w) (layout w LdapAnswer) (ldap_result 1) refl refl any_keeps refl,
  (
    chosen_closes (layout w) (layout w LdapAnswer) (application true 4 (Sequence (plain LdapString ∷ plain
        LdapShown ∷ []))) refl refl any_keeps refl,
    (
      chosen_closes (layout w) (layout w LdapAnswer) (ldap_result 5) refl refl any_keeps refl,
      (
        chosen_closes (layout w) (layout w LdapAnswer) (ldap_result 7) refl refl any_keeps refl,
        (
          chosen_closes (layout w) (layout w LdapAnswer) (ldap_result 9) refl refl any_keeps refl,
          (
            chosen_closes (layout w) (layout w LdapAnswer) (ldap_result 11) refl refl any_keeps refl,
            (
              chosen_closes (layout w) (layout w LdapAnswer) (ldap_result 13) refl refl any_keeps refl,
              (
                chosen_closes (layout w) (layout w LdapAnswer) (ldap_result 15) refl refl any_keeps refl,
                (
                  chosen_closes (layout w) (layout w LdapAnswer) (ldap_result 24) refl refl any_keeps refl,
                  tt,
                ),
              ),
            ),
          ),
        ),
      ),
    ),
  ),
)
messages_close w LdapString = (leaf_alone (layout w) (universal 4 string) refl any_keeps any_octets_writes, tt)
messages_close w LdapStrings = made_alone (layout w) (sequence_of LdapString) refl refl any_keeps
messages_close w LdapValues = made_alone (layout w) (set_of LdapString) refl refl any_keeps
messages_close w LdapSomeValues = made_alone (layout w) (ruled some_members (set_of LdapString)) refl refl some_keeps
messages_close w LdapAttribute =
    made_alone (layout w) (sequence (plain LdapString ∷ plain LdapValues ∷ [])) refl refl any_keeps
messages_close w LdapShown = made_alone (layout w) (sequence_of LdapAttribute) refl refl any_keeps
messages_close w LdapNewAttribute =
    made_alone (layout w) (sequence (plain LdapString ∷ plain LdapSomeValues ∷ [])) refl refl any_keeps
messages_close w LdapNewAttributes = made_alone (layout w) (sequence_of LdapNewAttribute) refl refl any_keeps
messages_close w LdapChange =
    made_alone (layout w) (sequence (plain (Enumeration 0 2) ∷ plain LdapAttribute ∷ [])) refl refl any_keeps
messages_close w LdapChanges = made_alone (layout w) (sequence_of LdapChange) refl refl any_keeps
messages_close w LdapAssertion = made_alone (layout w) (sequence assertion) refl refl any_keeps
messages_close w LdapFilter = (
  chosen_closes (layout w) (layout w LdapFilter) (ruled some_members (choice 0 (Members LdapFilter))) refl refl
      some_keeps refl,
  (
    chosen_closes (layout w) (layout w LdapFilter) (ruled some_members (choice 1 (Members LdapFilter))) refl
        refl some_keeps refl,
    (
      explicit_closes (layout w) (layout w LdapFilter) (choice 2 (Explicit LdapFilter)) LdapFilter refl refl
          any_keeps refl,
      (
        chosen_closes (layout w) (layout w LdapFilter) (choice 3 (Sequence assertion)) refl refl any_keeps refl,
        (
          chosen_closes (layout w) (layout w LdapFilter) (choice 4 (Sequence (plain LdapString ∷ plain
              LdapPieces ∷ []))) refl refl any_keeps refl,
          (
            chosen_closes (layout w) (layout w LdapFilter) (choice 5 (Sequence assertion)) refl refl any_keeps refl,
            (
              chosen_closes (layout w) (layout w LdapFilter) (choice 6 (Sequence assertion)) refl refl any_keeps
                  refl,
              (
                present_closes w,
                (
                  chosen_closes (layout w) (layout w LdapFilter) (choice 8 (Sequence assertion)) refl refl
                      any_keeps refl,
                  (
                    chosen_closes (layout w) (layout w LdapFilter) (choice 9 (Sequence (optional (plain
                        LdapMatchingRule) ∷ optional (plain LdapMatchedType) ∷ plain LdapMatchedValue ∷ or
                        (Flag false) (plain LdapMatchesNames) ∷ []))) refl refl any_keeps refl,
                    tt,
                  ),
                ),
              ),
            ),
          ),
        ),
      ),
    ),
  ),
)
messages_close w LdapPiece = pieces_close w
messages_close w LdapPieces = made_alone (layout w) (ruled pieces_rule (sequence_of LdapPiece)) refl refl pieces_keeps
messages_close w LdapAuthentication = (
  simple_closes w,
  (
    made_closes (layout w) (layout w LdapAuthentication) (context 3 (Sequence (plain LdapString ∷ optional
        (plain LdapString) ∷ []))) refl refl any_keeps (λ ns. refl),
    tt,
  ),
)
messages_close w LdapSuperior = (leaf_alone (layout w) (context 0 string) refl any_keeps any_octets_writes, tt)
messages_close w LdapExtension = (leaf_alone (layout w) (context 0 string) refl any_keeps any_octets_writes, tt)
messages_close w LdapExtensionValue = (leaf_alone (layout w) (context 1 string) refl any_keeps any_octets_writes, tt)
messages_close w LdapMatchingRule = (leaf_alone (layout w) (context 1 string) refl any_keeps any_octets_writes, tt)
messages_close w LdapMatchedType = (leaf_alone (layout w) (context 2 string) refl any_keeps any_octets_writes, tt)
messages_close w LdapMatchedValue = (leaf_alone (layout w) (context 3 string) refl any_keeps any_octets_writes, tt)
messages_close w LdapMatchesNames =
    (leaf_alone (layout w) (context 4 (Primitive boolean)) refl any_keeps boolean_writes, tt)
messages_close w LdapControl =
    made_alone (layout w) (sequence (plain LdapString ∷ or (Flag false) (plain Boolean) ∷ optional (plain
    LdapString) ∷ [])) refl refl any_keeps
messages_close w LdapControls = made_alone (layout w) (context 0 (Members LdapControl)) refl refl any_keeps

pub messages_uncoded : (w : Surroundings) (form : Named) → list_all (λ a. is_uncoded a.content) (layout w form) ≡ true
messages_uncoded w DapRequest = refl
messages_uncoded w DapAnswer = refl
messages_uncoded w DspRequest = refl
messages_uncoded w DspAnswer = refl
messages_uncoded w DispMessage = refl
messages_uncoded w (Argument Read) = refl
messages_uncoded w (Argument Compare) = refl
messages_uncoded w (Argument ListBelow) = refl
messages_uncoded w (Argument Search) = refl
messages_uncoded w (Argument AddEntry) = refl
messages_uncoded w (Argument RemoveEntry) = refl
messages_uncoded w (Argument ModifyEntry) = refl
messages_uncoded w (Argument ModifyDn) = refl
messages_uncoded w (Chained operation) = refl
messages_uncoded w DapResult = refl
messages_uncoded w DspResult = refl
messages_uncoded w DispResult = refl
messages_uncoded w (Outcome Read) = refl
messages_uncoded w (Outcome Compare) = refl
messages_uncoded w (Outcome ListBelow) = refl
messages_uncoded w (Outcome Search) = refl
messages_uncoded w (Outcome AddEntry) = refl
messages_uncoded w (Outcome RemoveEntry) = refl
messages_uncoded w (Outcome ModifyEntry) = refl
messages_uncoded w (Outcome ModifyDn) = refl
messages_uncoded w AnyNumber = refl
messages_uncoded w (NumberBelow low high) = refl
messages_uncoded w (Enumeration low high) = refl
messages_uncoded w Boolean = refl
messages_uncoded w Null = refl
messages_uncoded w AnyOid = refl
messages_uncoded w Value = refl
messages_uncoded w Part = refl
messages_uncoded w AgentName = refl
messages_uncoded w Time = refl
messages_uncoded w Options = refl
messages_uncoded w RefType = refl
messages_uncoded w Name = refl
messages_uncoded w Rdn = refl
messages_uncoded w Rdns = refl
messages_uncoded w Pair = refl
messages_uncoded w Attribute = refl
messages_uncoded w Attributes = refl
messages_uncoded w Values = refl
messages_uncoded w TypeList = refl
messages_uncoded w Selection = refl
messages_uncoded w Controls = refl
messages_uncoded w Assertion = refl
messages_uncoded w Changes = refl
messages_uncoded w Change = refl
messages_uncoded w (Filter levels) = filters_uncoded levels (levels == 0)
messages_uncoded w (Filters levels) = refl
messages_uncoded w Item = refl
messages_uncoded w Substrings = refl
messages_uncoded w Parts = refl
messages_uncoded w PlacedPart = refl
messages_uncoded w Chaining = refl
messages_uncoded w Progress = refl
messages_uncoded w Trace = refl
messages_uncoded w TraceItem = refl
messages_uncoded w Agents = refl
messages_uncoded w Agent = refl
messages_uncoded w Reference = refl
messages_uncoded w References = refl
messages_uncoded w Source = refl
messages_uncoded w Sources = refl
messages_uncoded w EntryInfo = refl
messages_uncoded w EntryInfos = refl
messages_uncoded w Sub = refl
messages_uncoded w Subs = refl
messages_uncoded w Qualifier = refl
messages_uncoded w AttributeError = refl
messages_uncoded w NameError = refl
messages_uncoded w ServiceError = refl
messages_uncoded w UpdateError = refl
messages_uncoded w ShadowError = refl
messages_uncoded w Agreement = refl
messages_uncoded w ShadowArgument = refl
messages_uncoded w UpdateArgument = refl
messages_uncoded w Refresh = refl
messages_uncoded w Total = refl
messages_uncoded w Entries = refl
messages_uncoded w Entry = refl
messages_uncoded w Knowns = refl
messages_uncoded w Known = refl
messages_uncoded w NonSpecifics = refl
messages_uncoded w NonSpecific = refl
messages_uncoded w WorldAgents = refl
messages_uncoded w WorldAgent = refl
messages_uncoded w WorldAgentName = refl
messages_uncoded w Steps = refl
messages_uncoded w Step = refl
messages_uncoded w Renamed = refl
messages_uncoded w LdapMessage = refl
messages_uncoded w LdapResponse = refl
messages_uncoded w LdapOperation = refl
messages_uncoded w LdapAnswer = refl
messages_uncoded w LdapString = refl
messages_uncoded w LdapStrings = refl
messages_uncoded w LdapValues = refl
messages_uncoded w LdapSomeValues = refl
messages_uncoded w LdapAttribute = refl
messages_uncoded w LdapShown = refl
messages_uncoded w LdapNewAttribute = refl
messages_uncoded w LdapNewAttributes = refl
messages_uncoded w LdapChange = refl
messages_uncoded w LdapChanges = refl
messages_uncoded w LdapAssertion = refl
messages_uncoded w LdapFilter = refl
messages_uncoded w LdapPiece = refl
messages_uncoded w LdapPieces = refl
messages_uncoded w LdapAuthentication = refl
messages_uncoded w LdapSuperior = refl
messages_uncoded w LdapExtension = refl
messages_uncoded w LdapExtensionValue = refl
messages_uncoded w LdapMatchingRule = refl
messages_uncoded w LdapMatchedType = refl
messages_uncoded w LdapMatchedValue = refl
messages_uncoded w LdapMatchesNames = refl
messages_uncoded w LdapControl = refl
messages_uncoded w LdapControls = refl

pub messages_are_closed : MessagesAreClosed
messages_are_closed w = record { uncoded = messages_uncoded w; closes = messages_close w }

pub messages_spelled_fit : MessagesSpelledFit
messages_spelled_fit w form octets n eights spelled =
    spelled_fits (layout w) form octets n (messages_are_closed w) eights spelled
