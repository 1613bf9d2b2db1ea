-- Replies within the limits fit.
use Rattle.std.proofs.Common.{◌≡◌, ℕ, ◌<◌, ◌≤◌, ◌^◌, Bool, true, false, not, List, [], ◌∷◌, map, refl, sym, subst, inl, inr, arith}
use Rattle.std.specs.Prelude.{pos}
use Rattle.std.specs.declared.option.Option.{Option}
use Rattle.std.specs.declared.option.Option.TheVariants.{None, Some}
use Rattle.x5_model.specs.Members.{In}
use Rattle.x5_model.specs.Answers.{Shown, EntryInfo, Sub}
use Rattle.x5_model.specs.Values.{Value}
use Rattle.x5_model.proofs.Lists.{in_first}
use Rattle.x5_model_typed.specs.Nodes.{Node, Nodes, Vacant, Flag, Many, Nil, More, whole}
use Rattle.x5_model_typed.specs.Named as named
use Rattle.x5_model_typed.specs.Forms.{Primitive, universal, plain, at, code}
use Rattle.x5_model_typed.specs.Leaves.{null}
use Rattle.x5_model_typed.specs.Typed as typed
use Rattle.x5_model_typed.specs.Typed.{required, default}
use Rattle.x5_model_typed.specs.Layouts as layouts
use Rattle.x5_model_typed.specs.Layouts.{Surroundings, layout, named_by, operation_codes, optional}
use Rattle.x5_model_typed_laws.specs.Fits as fits
use Rattle.x5_model_typed_laws.specs.Fits.{Fits, FitsSequence, FitsSet}
use Rattle.x5_model_messages.specs.Terms.{node_of, rdn_node}
use Rattle.x5_model_messages.specs.Replies.{Access, Reference, TraceItem, Source, Outcome, Answer, Entry, Match, Listed, Found, Changed, Reply, Answered, NoSuchObject, AttributeProblem, UpdateProblem, ServiceProblem, Referred, access_node, reference_node, number_or_vacant, source_node, shown_node, info_node, sub_node, limit_node, outcome_node, answer_node, reference_or_vacant, item_or_vacant, result_node, error_node, reply_node, to_user, to_agent}
use Rattle.x5_model_fitting.specs.Names.{Each}
use Rattle.x5_model_fitting.specs.Requests.{CountWithin, IfThere}
use Rattle.x5_model_fitting.specs.Chained.{ItemWithin}
use Rattle.x5_model_fitting.specs.Replies.{AccessWithin, ReferenceWithin, SourceWithin, ShownWithin, InfoWithin, SubWithin, OutcomeWithin, AnswerWithin, answered_by, ReplyWithin}
use Rattle.x5_model_fitting.specs.Laws.{ReplyFits, ReplyToAgentFits}
use Rattle.x5_model_fitting.proofs.Making.{leaf_fits, each_fits, set_or, sequence_or}
use Rattle.x5_model_fitting.proofs.Texts.{type_fits}
use Rattle.x5_model_fitting.proofs.Names.{name_fits, rdn_fits, rdns_fit}
use Rattle.x5_model_fitting.proofs.Terms.{values_fit}
use Rattle.x5_model_fitting.proofs.Leaves.{number_fits, count_fits, code_fits, flag_fits, agent_fits}
use Rattle.x5_model_fitting.proofs.Requests.{invoke_fits}
use Rattle.x5_model_fitting.proofs.Chained.{progress_fits, kind_fits, item_fits}

-- ---- references and sources

access_fits : (w : Surroundings) (a : Access) → AccessWithin a → Fits (layout w) (layout w named.Agent) (access_node a)
access_fits w a h =
    fits.made _ refl refl refl
    (fits.sequence (fits.given refl (agent_fits w a.agent h) required
    (sequence_or (layout w) (Flag false) (Flag a.copy) named.Boolean [] Nil (flag_fits w a.copy) fits.over)))
    refl

reference_fits : (w : Surroundings) (r : Reference) → ReferenceWithin r
    → Fits (layout w) (layout w named.Reference) (reference_node r)
reference_fits w r h =
    fits.made _ refl refl refl
    (fits.set (fits.present refl (name_fits w r.target h.target) required
    (fits.present refl (progress_fits w r.progress h.progress) required
    (fits.present refl (kind_fits w r.kind) required
    (fits.present refl agents_fit required
    (set_or (layout w) (Many Nil) (node_of (map rdn_node r.exclusions)) 4 named.Rdns _ _
    (rdns_fit w r.exclusions h.exclusions)
    (set_or (layout w) (Flag false) (Flag r.tried) 5 named.Boolean [] Nil (flag_fits w r.tried) fits.all)))))))
    refl
  where
    agents_fit : Fits (layout w) (layout w named.Agents) (node_of (map access_node r.agents))
    agents_fit =
        fits.made _ refl refl refl
        (fits.members (each_fits (layout w) named.Agent access_node r.agents (λ a i. access_fits w a (h.agents a i))))
        refl

references_fit : (w : Surroundings) (rs : List Reference) → Each ReferenceWithin rs
    → Fits (layout w) (layout w named.References) (node_of (map reference_node rs))
references_fit w rs h =
    fits.made _ refl refl refl
    (fits.members (each_fits (layout w) named.Reference reference_node rs (λ r i. reference_fits w r (h r i)))) refl

moment_last : (w : Surroundings) (o : Option ℕ) → IfThere CountWithin o
    → FitsSequence (layout w) (optional (plain (named.NumberBelow 0 4294967295)) ∷ []) (More (number_or_vacant o) Nil)
moment_last w None h = fits.left_out Vacant refl refl fits.over
moment_last w (Some n) h = fits.given refl (count_fits w n h) default fits.over

source_fits : (w : Surroundings) (s : Source) → SourceWithin s → Fits (layout w) (layout w named.Source) (source_node s)
source_fits w s h =
    fits.made _ refl refl refl
    (fits.sequence (fits.given refl (name_fits w s.context h.context) required
    (fits.given refl (agent_fits w s.agent h.agent) required (moment_last w s.moment h.moment))))
    refl

sources_fit : (w : Surroundings) (ss : List Source) → Each SourceWithin ss
    → Fits (layout w) (layout w named.Sources) (node_of (map source_node ss))
sources_fit w ss h =
    fits.made _ refl refl refl (fits.members (each_fits (layout w) named.Source source_node ss
    (λ s i. source_fits w s (h s i)))) refl

-- ---- results

shown_fits : (w : Surroundings) (a : Shown) → ShownWithin a → Fits (layout w) (layout w named.Attribute) (shown_node a)
shown_fits w a h =
    fits.made _ refl refl refl
    (fits.sequence (fits.given refl (type_fits w a.kind h.type) required
    (fits.given refl (values_fit w (λ (v : Value). v) a.values h.some h.values) required fits.over)))
    refl

info_fits : (w : Surroundings) (e : EntryInfo) → InfoWithin e → Fits (layout w) (layout w named.EntryInfo) (info_node e)
info_fits w e h =
    fits.made _ refl refl refl
    (fits.sequence (fits.given refl (name_fits w e.name h.name) required
    (sequence_or (layout w) (Flag true) (Flag (not e.copy)) named.Boolean _ _ (flag_fits w (not e.copy))
    (fits.given refl attributes_fit required fits.over))))
    refl
  where
    attributes_fit : Fits (layout w) (layout w named.Attributes) (node_of (map shown_node e.attributes))
    attributes_fit =
        fits.made _ refl refl refl
        (fits.members (each_fits (layout w) named.Attribute shown_node e.attributes
        (λ a i. shown_fits w a (h.attributes a i)))) refl

sub_fits : (w : Surroundings) (s : Sub) → SubWithin s → Fits (layout w) (layout w named.Sub) (sub_node s)
sub_fits w s h =
    fits.made _ refl refl refl
    (fits.sequence (fits.given refl (rdn_fits w s.rdn h) required
    (sequence_or (layout w) (Flag true) (Flag (not s.copy)) named.Boolean [] Nil (flag_fits w (not s.copy)) fits.over)))
    refl

limit_first : (w : Surroundings) (b : Bool) (rs : Nodes) → FitsSet (layout w)
    (layouts.or_nothing (at 1 named.References) ∷ []) rs
    → FitsSet (layout w) (optional (at 0 (named.NumberBelow 1 1)) ∷ layouts.or_nothing (at 1 named.References) ∷ [])
    (More (limit_node b) rs)
limit_first w true rs h = fits.present refl (number_fits w 1 1 1 (omega arith) (omega arith) (omega arith)) default h
limit_first w false rs h = fits.absent Vacant refl refl h

outcome_fits : (w : Surroundings) (o : Outcome) → OutcomeWithin o
    → Fits (layout w) (layout w named.Qualifier) (outcome_node o)
outcome_fits w o h =
    fits.made _ refl refl refl
    (fits.set (limit_first w o.limited _
    (set_or (layout w) (Many Nil) (node_of (map reference_node o.unexplored)) 1 named.References [] Nil
    (references_fit w o.unexplored h) fits.all)))
    refl

outcome_last : (w : Surroundings) (o : Outcome) → OutcomeWithin o
    → FitsSet (layout w) (Rattle.x5_model_typed.specs.Forms.or layouts.no_qualifier (at 2 named.Qualifier) ∷ [])
    (More (outcome_node o) Nil)
outcome_last w o h =
    set_or (layout w) layouts.no_qualifier (outcome_node o) 2 named.Qualifier [] Nil (outcome_fits w o h) fits.all

entry_fits : (w : Surroundings) (e : EntryInfo) (s : Source) → InfoWithin e → SourceWithin s
    → Fits (layout w) (layout w (named.Outcome named.Read)) (answer_node (Entry e s))
entry_fits w e s h k =
    fits.made _ refl refl refl
    (fits.set (fits.present refl (info_fits w e h) required (fits.present refl (source_fits w s k) required fits.all)))
    refl

match_fits : (w : Surroundings) (matched copy : Bool) (s : Source) → SourceWithin s
    → Fits (layout w) (layout w (named.Outcome named.Compare)) (answer_node (Match matched copy s))
match_fits w matched copy s h =
    fits.made _ refl refl refl
    (fits.set (fits.present refl (flag_fits w matched) required
    (set_or (layout w) (Flag true) (Flag (not copy)) 1 named.Boolean _ _ (flag_fits w (not copy))
    (fits.present refl (source_fits w s h) required fits.all))))
    refl

listed_fits : (w : Surroundings) (subs : List Sub) (ss : List Source) (o : Outcome) → Each SubWithin subs
    → Each SourceWithin ss → OutcomeWithin o
    → Fits (layout w) (layout w (named.Outcome named.ListBelow)) (answer_node (Listed subs ss o))
listed_fits w subs ss o h k l =
    fits.made _ refl refl refl
    (fits.set (fits.present refl subs_fit required (fits.present refl (sources_fit w ss k) required
    (outcome_last w o l)))) refl
  where
    subs_fit : Fits (layout w) (layout w named.Subs) (node_of (map sub_node subs))
    subs_fit =
        fits.made _ refl refl refl (fits.members (each_fits (layout w) named.Sub sub_node subs
        (λ s i. sub_fits w s (h s i)))) refl

found_fits : (w : Surroundings) (es : List EntryInfo) (ss : List Source) (o : Outcome) → Each InfoWithin es
    → Each SourceWithin ss → OutcomeWithin o
    → Fits (layout w) (layout w (named.Outcome named.Search)) (answer_node (Found es ss o))
found_fits w es ss o h k l =
    fits.made _ refl refl refl
    (fits.set (fits.present refl entries_fit required (fits.present refl (sources_fit w ss k) required
    (outcome_last w o l)))) refl
  where
    entries_fit : Fits (layout w) (layout w named.EntryInfos) (node_of (map info_node es))
    entries_fit =
        fits.made _ refl refl refl (fits.members (each_fits (layout w) named.EntryInfo info_node es
        (λ e i. info_fits w e (h e i)))) refl

-- ---- by the code of the operation

-- The code names a result, and the answer is one.
record IsResult (w : Surroundings) (code : ℕ) (answer : Answer) : Type 0 where
  small : code < 2 ^ 32
  form : named.Named
  names : named_by (operation_codes named.Outcome) (pos code) ≡ Some form
  result : Fits (layout w) (layout w form) (answer_node answer)

update_result : (w : Surroundings) (code : ℕ) → In code (6 ∷ 7 ∷ 8 ∷ 9 ∷ []) → IsResult w code Changed
update_result w code i = elim (in_first code 6 (7 ∷ 8 ∷ 9 ∷ []) i) [
  | inl e ↦ by 6 (named.Outcome named.AddEntry) (omega arith) refl nothing e
  | inr j ↦ elim (in_first code 7 (8 ∷ 9 ∷ []) j) [
    | inl e ↦ by 7 (named.Outcome named.RemoveEntry) (omega arith) refl nothing e
    | inr k ↦ elim (in_first code 8 (9 ∷ []) k) [
      | inl e ↦ by 8 (named.Outcome named.ModifyEntry) (omega arith) refl nothing e
      | inr l ↦ elim (in_first code 9 [] l) [
        | inl e ↦ by 9 (named.Outcome named.ModifyDn) (omega arith) refl nothing e
        | inr m ↦ elim m [ ]
      ]
    ]
  ]
]
  where
    nothing : Fits (layout w) (universal 5 (Primitive null) ∷ []) Vacant
    nothing = leaf_fits (layout w) (universal 5 (Primitive null)) Vacant [] refl refl refl refl

    by : (k : ℕ) (form : named.Named) → k < 2 ^ 32 → named_by (operation_codes named.Outcome) (pos k) ≡ Some form
        → Fits (layout w) (layout w form) Vacant → code ≡ k → IsResult w code Changed
    by k form small names f e =
        subst (λ (x : ℕ). IsResult w x Changed) (sym e) (record
        { small = small; form = form; names = names; result = f })

only_code : (code k : ℕ) → In code (k ∷ []) → code ≡ k
only_code code k i = elim (in_first code k [] i) [ inl e ↦ e | inr j ↦ elim j [ ] ]

result_of : (w : Surroundings) (code : ℕ) (answer : Answer) → In code (answered_by answer) → AnswerWithin answer
    → IsResult w code answer
result_of w code (Entry e s) i h =
    subst (λ (x : ℕ). IsResult w x (Entry e s)) (sym (only_code code 1 i))
    (record { small = omega arith; form = named.Outcome named.Read; names = refl; result = entry_fits w e s h.0 h.1 })
result_of w code (Match matched copy s) i h =
    subst (λ (x : ℕ). IsResult w x (Match matched copy s)) (sym (only_code code 2 i))
    (record {
      small = omega arith;
      form = named.Outcome named.Compare;
      names = refl;
      result = match_fits w matched copy
          s h;
    })
result_of w code (Listed subs ss o) i h =
    subst (λ (x : ℕ). IsResult w x (Listed subs ss o)) (sym (only_code code 4 i))
    (record {
      small = omega arith;
      form = named.Outcome named.ListBelow;
      names = refl;
      result = listed_fits w subs ss o
          h.0 h.1 h.2;
    })
result_of w code (Found es ss o) i h =
    subst (λ (x : ℕ). IsResult w x (Found es ss o)) (sym (only_code code 5 i))
    (record {
      small = omega arith;
      form = named.Outcome named.Search;
      names = refl;
      result = found_fits w es ss o h.0
          h.1 h.2;
    })
result_of w code Changed i h = update_result w code i

-- ---- errors

reference_first : (w : Surroundings) (o : Option Reference) (ns : Nodes) → IfThere ReferenceWithin o
    → FitsSequence (layout w) (optional (at 1 named.TraceItem) ∷ []) ns
    → FitsSequence (layout w) (optional (at 0 named.Reference) ∷ optional (at 1 named.TraceItem) ∷ [])
    (More (reference_or_vacant o) ns)
reference_first w None ns h g = fits.left_out Vacant refl refl g
reference_first w (Some r) ns h g = fits.given refl (reference_fits w r h) default g

item_last : (w : Surroundings) (o : Option TraceItem) → IfThere ItemWithin o
    → FitsSequence (layout w) (optional (at 1 named.TraceItem) ∷ []) (More (item_or_vacant o) Nil)
item_last w None h = fits.left_out Vacant refl refl fits.over
item_last w (Some i) h = fits.given refl (item_fits w i h) default fits.over

service_fits : (w : Surroundings) (problem : ℕ) (reference : Option Reference) (item : Option TraceItem) → 1 ≤ problem
    → problem ≤ 12
    → IfThere ReferenceWithin reference → IfThere ItemWithin item
    → Fits (layout w) (layout w named.ServiceError) (node_of (whole problem ∷ reference_or_vacant reference ∷
    item_or_vacant item ∷ []))
service_fits w problem reference item some most h k =
    fits.made _ refl refl refl
    (fits.sequence (fits.given refl (number_fits w 1 12 problem some most (omega arith)) required
    (reference_first w reference _ h (item_last w item k))))
    refl

attribute_error_fits : (w : Surroundings) (problem : ℕ) (n : Node) → 1 ≤ problem → problem ≤ 6
    → Fits (layout w) (layout w named.AnyOid) n
    → Fits (layout w) (layout w named.AttributeError) (node_of (whole problem ∷ n ∷ []))
attribute_error_fits w problem n some most f =
    fits.made _ refl refl refl
    (fits.sequence (fits.given refl (number_fits w 1 6 problem some most (omega arith)) required
    (fits.given refl f required fits.over))) refl

name_error_fits : (w : Surroundings) (n : Node) → Fits (layout w) (layout w named.Name) n
    → Fits (layout w) (layout w named.NameError) (node_of (whole 1 ∷ n ∷ []))
name_error_fits w n f =
    fits.made _ refl refl refl
    (fits.sequence (fits.given refl (number_fits w 1 1 1 (omega arith) (omega arith) (omega arith)) required
    (fits.given refl f required fits.over))) refl

update_error_fits : (w : Surroundings) (problem : ℕ) → 1 ≤ problem → problem ≤ 7
    → Fits (layout w) (layout w named.UpdateError) (node_of (whole problem ∷ []))
update_error_fits w problem some most =
    fits.made _ refl refl refl (fits.sequence (fits.given refl (number_fits w 1 7 problem some most (omega arith))
    required fits.over)) refl

-- ---- messages, with the codes of errors and of a referral

record AreErrors (rows : List (ℕ × named.Named)) (referral : ℕ) : Type 0 where
  attribute : named_by rows (pos 1) ≡ Some named.AttributeError
  name : named_by rows (pos 2) ≡ Some named.NameError
  service : named_by rows (pos 3) ≡ Some named.ServiceError
  update : named_by rows (pos 8) ≡ Some named.UpdateError
  referred : named_by rows (pos referral) ≡ Some named.Reference
  small : referral < 2 ^ 32

module _ (w : Surroundings) (inner : named.Named) (is_inner : layout w inner ≡ layouts.is
    (layouts.result_inner (operation_codes named.Outcome)))
    (rows : List (ℕ × named.Named)) (referral : ℕ) (errors : AreErrors rows referral) (id : ℕ) (small : CountWithin id)
  where
    answered_fits : (code : ℕ) (answer : Answer) → IsResult w code answer
        → Fits (layout w) (layouts.result inner ∷ layouts.error rows ∷ []) (result_node id code (answer_node answer))
    answered_fits code answer h =
        fits.chosen_made (layouts.result inner) 2 refl
        (fits.sequence (fits.given refl (count_fits w id small) required (fits.given refl inside required fits.over)))
        refl
      where
        one : Fits (layout w) (layouts.is (layouts.result_inner (operation_codes named.Outcome)))
            (node_of (whole code ∷ answer_node answer ∷ []))
        one =
            fits.made _ refl refl refl
            (fits.sequence (fits.given refl (code_fits w code h.small) (typed.named (pos code) h.form refl h.names)
            (fits.given refl h.result required fits.over)))
            refl

        inside : Fits (layout w) (layout w inner) (node_of (whole code ∷ answer_node answer ∷ []))
        inside =
            subst (λ (ts : List Rattle.x5_model_typed.specs.Forms.Alternative). Fits (layout w) ts
            (node_of (whole code ∷ answer_node answer ∷ []))) (sym is_inner) one

    error_fits : (k : ℕ) (form : named.Named) (n : Node) → k < 2 ^ 32 → named_by rows (pos k) ≡ Some form
        → Fits (layout w) (layout w form) n
        → Fits (layout w) (layouts.result inner ∷ layouts.error rows ∷ []) (error_node id k n)
    error_fits k form n few names f =
        fits.chosen_made (layouts.error rows) 3 refl (fits.sequence (invoke_fits w rows id k form n small few names f))
        refl

    message_fits : (r : Reply) → ReplyWithin r → Fits (layout w) (layouts.result inner ∷ layouts.error rows ∷ [])
        (reply_node referral id r)
    message_fits (Answered code answer) h = answered_fits code answer (result_of w code answer h.0 h.1)
    message_fits (NoSuchObject matched) h =
        error_fits 2 named.NameError _ (omega arith) errors.name (name_error_fits w _ (name_fits w matched h))
    message_fits (AttributeProblem problem type) h =
        error_fits 1 named.AttributeError _ (omega arith) errors.attribute
        (attribute_error_fits w problem _ h.0.0 h.0.1 (type_fits w type h.1))
    message_fits (UpdateProblem problem) h =
        error_fits 8 named.UpdateError _ (omega arith) errors.update (update_error_fits w problem h.0 h.1)
    message_fits (ServiceProblem problem reference item) h =
        error_fits 3 named.ServiceError _ (omega arith) errors.service
        (service_fits w problem reference item h.0.0 h.0.1 h.1 h.2)
    message_fits (Referred reference) h =
        error_fits referral named.Reference _ errors.small errors.referred (reference_fits w reference h)

pub reply_fits : ReplyFits
reply_fits w id r small h =
    message_fits w named.DapResult refl layouts.dap_errors to_user
    (record { attribute = refl; name = refl; service = refl; update = refl; referred = refl; small = omega arith }) id
    small r h

pub reply_to_agent_fits : ReplyToAgentFits
reply_to_agent_fits w id r small h =
    message_fits w named.DspResult refl layouts.dsp_errors to_agent
    (record { attribute = refl; name = refl; service = refl; update = refl; referred = refl; small = omega arith }) id
    small r h
