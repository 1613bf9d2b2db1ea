-- What octets say of a message between agents is within the limits, component by component.
use Rattle.std.proofs.Common.{◌≡◌, ℕ, zero, suc, ◌≤◌, Bool, true, false, ◌&&◌, nat_le, [], ◌∷◌, length, map, ◌⊎◌, inl, inr, refl, sym, ap, ap₂, subst, ◌∙◌, arith}
use Rattle.std.specs.Prelude.{ℤ}
use Rattle.std.proofs.lemmas.Bool.{leb-true}
use Rattle.std.proofs.lemmas.List.{length-map}
use Rattle.std.specs.declared.option.Option.TheVariants.{Some}
use Rattle.x5_model.specs.Words.{distinct, same_octets}
use Rattle.x5_model.specs.Keys.{same_key}
use Rattle.x5_model.specs.Values.{Text}
use Rattle.x5_model.specs.References.{Progress, Start, Next, Done}
use Rattle.x5_model.proofs.Lists.{both_true}
use Rattle.x5_model_run.specs.Journal.{same_progress}
use Rattle.x5_model_typed.specs.Nodes as nodes
use Rattle.x5_model_typed.specs.Nodes.{Node, Nodes, Vacant, Flag, Number, Chosen, Many, Nil, More, same_bit, parts, whole}
use Rattle.x5_model_typed.specs.Named as named
use Rattle.x5_model_typed.specs.Forms.{Alternative, plain, ruled}
use Rattle.x5_model_typed.specs.Rules as rules
use Rattle.x5_model_typed.specs.Rules.{name_in, progress_rule, most_items, trace_rule}
use Rattle.x5_model_typed.specs.Layouts as layouts
use Rattle.x5_model_typed.specs.Layouts.{Surroundings, layout, operation_codes}
use Rattle.x5_model_typed_laws.specs.Fits.{Fits, FitsIn}
use Rattle.x5_model_typed_laws.proofs.Closed.{messages_spelled_fit}
use Rattle.x5_model_typed_laws.proofs.Leaves.{so}
use Rattle.x5_model_messages.specs.Terms.{name_of, rdn_of}
use Rattle.x5_model_messages.specs.Requests.{argument_in}
use Rattle.x5_model_messages.specs.Replies.{progress_node, progress_in, item_in}
use Rattle.x5_model_messages.specs.Chained.{carried_in, chained_in}
use Rattle.x5_model_fitting.specs.Names.{Each, NameWithin, RdnWithin}
use Rattle.x5_model_fitting.specs.Requests.{CountWithin, RequestWithin}
use Rattle.x5_model_fitting.specs.Chained.{ProgressWithin, ItemWithin, same_item, TraceWithin, ChainedWithin}
use Rattle.x5_model_fitting.specs.Laws.{SpelledChainedIsWithin}
use Rattle.x5_model_fitting.proofs.Names.{name_key_of}
use Rattle.x5_model_fitting.proofs.Chained.{progress_same, distinct_kept}
use Rattle.x5_model_fitting.proofs.Taking.{only_made, many_in, each_mapped, set_in, set_first, set_maybe, set_over, sequence_in, first_in, maybe_in, sequence_over}
use Rattle.x5_model_fitting.proofs.NamesSaid.{name_said, rdns_said}
use Rattle.x5_model_fitting.proofs.LeavesSaid.{IsNumber, number_said, enumeration_said, IsFlag, flag_said, IsAgent, agent_said}
use Rattle.x5_model_fitting.proofs.MessagesSaid.{marked_in, only_marked, invoke_in, code_of, operation_in}
use Rattle.x5_model_fitting.proofs.RequestsSaid.{argument_said}

abbrev anything : Node → Type 0
anything n = Unit {0}

-- ---- progress

-- what fits is written of a progress
pub record IsProgress (n : Node) : Type 0 where
  pub progress : Progress
  pub is : n ≡ progress_node progress
  pub within : ProgressWithin progress

progress_back : (p : Progress) → progress_in (progress_node p) ≡ p
progress_back Start = refl
progress_back (Next k) = refl
progress_back Done = refl

pub progress_within : (n : Node) → IsProgress n → ProgressWithin (progress_in n)
progress_within n i =
    subst (λ (x : Node). ProgressWithin (progress_in x)) (sym i.is)
    (subst ProgressWithin (sym (progress_back i.progress)) i.within)

abbrev MaybeNext : Node → Type 0
MaybeNext n = (n ≡ Vacant) ⊎ IsNumber 1 16 n

abbrev phased : Node → Node → Node
phased phase next = Many (More phase (More next Nil))

phase_by : (k : ℕ) (next : Node) → 1 ≤ k → k ≤ 3 → MaybeNext next
    → progress_rule (phased (whole k) next) ≡ Some (phased (whole k) next)
    → IsProgress (phased (whole k) next)
phase_by zero next least most m settled = absurd (omega (arith, least))
phase_by (suc zero) next least most (inl e) settled =
    record { progress = Start; is = ap (phased (whole 1)) e; within = tt }
phase_by (suc zero) next least most (inr i) settled =
    let h : progress_rule (phased (whole 1) (whole i.value)) ≡ Some (phased (whole 1) (whole i.value)) =
    subst (λ (x : Node). progress_rule (phased (whole 1) x) ≡ Some (phased (whole 1) x)) i.is settled in
    absurd (cc h)
phase_by (suc (suc zero)) next least most (inl e) settled =
    let h : progress_rule (phased (whole 2) Vacant) ≡ Some (phased (whole 2) Vacant) =
    subst (λ (x : Node). progress_rule (phased (whole 2) x) ≡ Some (phased (whole 2) x)) e settled in
    absurd (cc h)
phase_by (suc (suc zero)) next least most (inr i) settled =
    record { progress = Next i.value; is = ap (phased (whole 2)) i.is; within = (i.least, i.most) }
phase_by (suc (suc (suc zero))) next least most (inl e) settled =
    record { progress = Done; is = ap (phased (whole 3)) e; within = tt }
phase_by (suc (suc (suc zero))) next least most (inr i) settled =
    let h : progress_rule (phased (whole 3) (whole i.value)) ≡ Some (phased (whole 3) (whole i.value)) =
    subst (λ (x : Node). progress_rule (phased (whole 3) x) ≡ Some (phased (whole 3) x)) i.is settled in
    absurd (cc h)
phase_by (suc (suc (suc (suc k)))) next least most m settled = absurd (omega (arith, most))

pub progress_said : (w : Surroundings) (n : Node) → Fits (layout w) (layout w named.Progress) n → IsProgress n
progress_said w n f =
    let m = only_made (layout w) _ n refl refl f in
    let a = first_in (layout w) (named.Enumeration 1 3) _ (IsNumber 1 3) (enumeration_said w 1 3) m.members
    (sequence_in (layout w) _ m.members m.within) in
    let b = maybe_in (layout w) Vacant (plain (named.NumberBelow 1 16)) [] MaybeNext (inl refl)
    (λ x g. inr (number_said w 1 16 x g)) a.others a.rest in
    let is : n ≡ phased (whole a.is.value) b.first =
    m.is_many ∙ ap Many (a.split ∙ ap (λ (x : Node). More x a.others) a.is.is
    ∙ ap (More (whole a.is.value)) (b.split ∙ ap (More b.first) (sequence_over (layout w) b.others b.rest))) in
    subst IsProgress (sym is) (phase_by a.is.value b.first a.is.least a.is.most b.is
    (subst (λ (x : Node). progress_rule x ≡ Some x) is m.settled))

-- ---- items

-- what fits is written of an agent, a target, a progress and a mark
pub record IsItem (n : Node) : Type 0 where
  pub agent : Text
  pub target : Node
  pub progress : Progress
  pub wide : Bool
  pub is : n ≡ Many (More (nodes.Text agent) (More target (More (progress_node progress) (More (Flag wide) Nil))))
  pub agent_within : Rattle.x5_model_typed.specs.Leaves.is_agent_name agent ≡ true
  pub target_within : NameWithin (name_of target)
  pub progress_within : ProgressWithin progress

item_node_said : (w : Surroundings) (n : Node) → Fits (layout w) (layout w named.TraceItem) n → IsItem n
item_node_said w n f =
    let m = only_made (layout w) _ n refl refl f in
    let a = first_in (layout w) named.AgentName _ IsAgent (agent_said w) m.members
    (sequence_in (layout w) _ m.members m.within) in
    let b = first_in (layout w) named.Name _ (λ x. NameWithin (name_of x)) (name_said w) a.others a.rest in
    let c = first_in (layout w) named.Progress _ IsProgress (progress_said w) b.others b.rest in
    let d = maybe_in (layout w) (Flag false) (plain named.Boolean) [] IsFlag (record { value = false; is = refl })
    (flag_said w) c.others c.rest in
    record {
      agent = a.is.name;
      target = b.first;
      progress = c.is.progress;
      wide = d.is.value;
      is =
          m.is_many ∙ ap Many (a.split ∙ ap (λ (x : Node). More x a.others) a.is.is ∙ ap (More (nodes.Text a.is.name))
          (b.split
          ∙ ap (More b.first) (c.split ∙ ap (λ (x : Node). More x c.others) c.is.is ∙ ap
          (More (progress_node c.is.progress)) (d.split
          ∙ ap (λ (x : Node). More x d.others) d.is.is ∙ ap (More (Flag d.is.value))
          (sequence_over (layout w) d.others d.rest)))));
      agent_within = a.is.agent;
      target_within = b.is;
      progress_within = c.is.within;
    }

item_within : (n : Node) → IsItem n → ItemWithin (item_in n)
item_within n i =
    subst (λ (x : Node). ItemWithin (item_in x)) (sym i.is)
    (record {
      agent = i.agent_within;
      target = i.target_within;
      progress = subst ProgressWithin (sym (progress_back i.progress)) i.progress_within;
    })

pub item_said : (w : Surroundings) (n : Node) → Fits (layout w) (layout w named.TraceItem) n → ItemWithin (item_in n)
item_said w n f = item_within n (item_node_said w n f)

abbrev made_item : Text → Node → Progress → Bool → Node
made_item agent target progress wide =
    Many (More (nodes.Text agent) (More target (More (progress_node progress) (More (Flag wide) Nil))))

items_alike : (a b : Text) (s t : Node) (p q : Progress) (v x : Bool)
    → same_item (item_in (made_item a s p v)) (item_in (made_item b t q x)) ≡ rules.same_item (made_item a s p v)
    (made_item b t q x)
items_alike a b s t p q v x =
    ap₂ (λ (i j : Bool). same_octets a b && i && j && same_bit v x)
    (ap₂ same_key (name_key_of (name_in s)) (name_key_of (name_in t)))
    (ap₂ same_progress (progress_back p) (progress_back q) ∙ sym (progress_same p q))

-- two items are the same exactly where what is said of them is
item_alike : (m n : Node) → IsItem m → IsItem n → same_item (item_in m) (item_in n) ≡ rules.same_item m n
item_alike m n i j =
    subst (λ (x : Node). same_item (item_in x) (item_in n) ≡ rules.same_item x n) (sym i.is)
    (subst (λ (x : Node). same_item (item_in (made_item i.agent i.target i.progress i.wide)) (item_in x)
    ≡ rules.same_item (made_item i.agent i.target i.progress i.wide) x) (sym j.is)
    (items_alike i.agent j.agent i.target j.target i.progress j.progress i.wide j.wide))

trace_said : (w : Surroundings) (n : Node) → Fits (layout w) (layout w named.Trace) n
    → TraceWithin (map item_in (parts n))
trace_said w n f =
    let m = only_made (layout w) (ruled trace_rule (layouts.sequence_of named.TraceItem)) n refl refl f in
    let h = (so (nat_le (length (parts n)) most_items && distinct rules.same_item (parts n)) n n m.settled).0 in
    let v = both_true (nat_le (length (parts n)) most_items) (distinct rules.same_item (parts n)) h in
    let few : length (parts n) ≤ most_items = leb-true (length (parts n)) most_items v.0 in
    let items = many_in (layout w) _ named.TraceItem IsItem refl (item_node_said w) n m in
    record {
      few = omega (arith, few, length-map (parts n) item_in);
      items = each_mapped ItemWithin item_in (parts n) (λ x i. item_within x (items x i));
      once =
          distinct_kept item_in rules.same_item same_item (parts n) (λ x y i j. item_alike x y (items x i) (items y j))
          ∙ v.1;
    }

-- ---- messages

abbrev ChainingSaid : Node → Type 0
ChainingSaid n =
    (r : Rattle.x5_model.specs.Requests.Request) → RequestWithin r
    → ChainedWithin (Rattle.x5_model_messages.specs.Chained.chaining_in r n)

chaining_said : (w : Surroundings) (n : Node) → Fits (layout w) (layout w named.Chaining) n → ChainingSaid n
chaining_said w n f =
    let m = only_made (layout w) _ n refl refl f in
    let a = set_first (layout w) 0 named.Name _ (λ x. NameWithin (name_of x)) (name_said w) m.members
    (set_in (layout w) _ m.members m.within) in
    let b = set_first (layout w) 1 named.Progress _ IsProgress (progress_said w) a.others a.rest in
    let c = set_first (layout w) 2 named.Trace _ (λ x. TraceWithin (map item_in (parts x))) (trace_said w) b.others
    b.rest in
    let d = set_first (layout w) 3 named.RefType _ anything (λ x g. tt) c.others c.rest in
    let e = set_maybe (layout w) (Many Nil) 4 named.Rdns [] (λ x. Each RdnWithin (map rdn_of (parts x)))
    (λ r i. elim i [ ]) (rdns_said w) d.others d.rest in
    let is : n ≡ Many (More a.first (More b.first (More c.first (More d.first (More e.first Nil))))) =
    m.is_many ∙ ap Many (a.split ∙ ap (More a.first) (b.split ∙ ap (More b.first) (c.split ∙ ap (More c.first)
    (d.split ∙ ap (More d.first) (e.split ∙ ap (More e.first) (set_over (layout w) e.others e.rest)))))) in
    subst ChainingSaid (sym is) (λ r h. record {
      target = a.is;
      progress = progress_within b.first b.is;
      exclusions = e.is;
      trace = c.is;
      request = h;
    })

abbrev CarriedSaid : ℕ → Node → Type 0
CarriedSaid code n = ChainedWithin (carried_in code n)

carried_said : (w : Surroundings) (o : named.Operation) (n : Node) → Fits (layout w) (layout w (named.Chained o)) n
    → CarriedSaid (code_of o) n
carried_said w o n f =
    let m = only_made (layout w) (layouts.sequence (plain named.Chaining ∷ plain (named.Argument o) ∷ [])) n refl refl
    f in
    let a = first_in (layout w) named.Chaining _ ChainingSaid (chaining_said w) m.members
    (sequence_in (layout w) _ m.members m.within) in
    let b = first_in (layout w) (named.Argument o) [] (λ x. RequestWithin (argument_in (code_of o) x))
    (argument_said w o) a.others a.rest in
    let is : n ≡ Many (More a.first (More b.first Nil)) =
    m.is_many ∙ ap Many (a.split ∙ ap (More a.first) (b.split ∙ ap (More b.first)
    (sequence_over (layout w) b.others b.rest))) in
    subst (CarriedSaid (code_of o)) (sym is) (a.is (argument_in (code_of o) b.first) b.is)

abbrev ChainedSaid : Node → Type 0
ChainedSaid n = CountWithin (chained_in n).0 × ChainedWithin (chained_in n).1

chained_said : (w : Surroundings) (n : Node) → Fits (layout w) (layout w named.DspRequest) n → ChainedSaid n
chained_said w n f =
    let m = marked_in (layout w) (layout w named.DspRequest) n refl refl f in
    let invoke = layouts.invoke (operation_codes named.Chained) in
    let same : m.alternative ≡ invoke = only_marked invoke m.alternative m.tag m.found in
    let i = invoke_in w (operation_codes named.Chained) m.members
    (sequence_in (layout w) _ m.members (subst (λ (x : Alternative). FitsIn (layout w) x.content m.members) same
    m.within)) in
    let o = operation_in named.Chained i.number i.form i.names_it in
    let said = carried_said w o.operation i.said (subst (λ (x : named.Named). Fits (layout w) (layout w x) i.said)
    o.named_so i.fits_said) in
    subst ChainedSaid (sym (m.is ∙ ap (λ (x : Nodes). Chosen m.tag (Many x)) (i.split
    ∙ ap (λ (k : ℤ). More (whole i.id) (More (Number k) (More i.said Nil))) o.number)))
    (i.small, said)

pub chained_spelled : SpelledChainedIsWithin
chained_spelled w octets n eights spells =
    chained_said w n (messages_spelled_fit w named.DspRequest octets n eights spells)
