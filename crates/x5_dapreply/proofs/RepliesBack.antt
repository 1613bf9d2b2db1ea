-- Replies are read back, component by component.
use Rattle.std.proofs.Common.{◌≡◌, ℕ, Bool, true, false, not, ◌&&◌, List, [], ◌∷◌, map, refl, ap, ap₂, sym, ◌∙◌}
use Rattle.std.specs.Prelude.{◌==◌, if◌then◌else◌}
use Rattle.std.specs.List.{list_all}
use Rattle.std.specs.declared.option.Option.{Option}
use Rattle.std.specs.declared.option.Option.TheVariants.{None, Some}
use Rattle.x5_model.specs.Values.{TypeRef, Unknown, Value, TextValue, Rdn, Name}
use Rattle.x5_model.specs.Answers.{Shown, EntryInfo, Sub}
use Rattle.x5_model.specs.Assertions.{assertion_of}
use Rattle.x5_model.specs.Requests as model_requests
use Rattle.x5_model.specs.Types.{is_type}
use Rattle.x5_model.specs.References as model
use Rattle.x5_model.proofs.Lists.{both_true}
use Rattle.x5_model_run.specs.Journal.{kind_number}
use Rattle.x5_model_typed.specs.Nodes.{Node, row, list, whole}
use Rattle.x5_model_typed.specs.Rules.{value_in}
use Rattle.x5_model_typed.proofs.Laws.{list_row}
use Rattle.x5_model_messages.specs.Laws.{IsName, IsRdn, is_sayable}
use Rattle.x5_model_messages.specs.Terms.{node_of, name_node, rdn_node, value_node, type_node, name_of, rdn_of, type_in, number_in}
use Rattle.x5_model_messages.specs.Replies as replies
use Rattle.x5_model_messages.specs.Replies.{Access, Reference, TraceItem, Source, Outcome, Answer, Entry, Match, Listed, Found, Changed, Reply, Answered, NoSuchObject, AttributeProblem, UpdateProblem, ServiceProblem, Referred}
use Rattle.x5_model_messages.specs.Replies.{progress_node, access_node, reference_node, item_node, source_node, shown_node, info_node, sub_node, outcome_node, answer_node, progress_in, kind_in, access_in, reference_in, item_in, source_in, shown_in, info_in, sub_in, outcome_in, answer_in}
use Rattle.x5_model_messages.proofs.Requests.{requests_back}
use Rattle.x5_dapreply.specs.Told as told
use Rattle.x5_dapreply.specs.Told.{Each, IfThere, RepliesReadBack}

-- what is read back one by one is read back together
each_back : {X : Type 0} (node : X → Node) (said : Node → X) (P : X → Type 0) → ((x : X) → P x → said (node x) ≡ x) → (xs : List X)
    → Each P xs → map said (list (row (map node xs))) ≡ xs
each_back node said P back xs h = ap (λ ns. map said ns) (list_row (map node xs)) ∙ by xs h
  where
    by : (ys : List _) → Each P ys → map said (map node ys) ≡ ys
    by [] g = refl
    by (y ∷ ys) g = ap₂ (λ z zs. z ∷ zs) (back y g.0) (by ys g.1)

-- ---- names, RDNs, types and values, as requests have them

abbrev no_controls : model_requests.Controls
no_controls = record { nocopy = false; nochain = false; size = None }

abbrev request_of : model_requests.Body → model_requests.Request
request_of b = record { controls = no_controls; body = b }

abbrev object_of : model_requests.Body → Name
object_of (model_requests.ListBelow n) = n
object_of b = []

the_name : (n : Name) → IsName n → name_of (name_node n) ≡ n
the_name n h =
    ap (λ (p : ℕ × model_requests.Request). object_of p.1.body) (requests_back 0 (request_of (model_requests.ListBelow n)) h)

abbrev rdn_of_body : model_requests.Body → Rdn
rdn_of_body (model_requests.ModifyDn n r drops) = r
rdn_of_body b = []

the_rdn : (r : Rdn) → IsRdn r → rdn_of (rdn_node r) ≡ r
the_rdn r h =
    ap (λ (p : ℕ × model_requests.Request). rdn_of_body p.1.body)
    (requests_back 0 (request_of (model_requests.ModifyDn [] r false)) ((refl, refl), h))

abbrev value_of_body : model_requests.Body → Value
value_of_body (model_requests.Compare n a) = a.value
value_of_body b = TextValue []

value_back : (v : Value) → is_sayable v ≡ true → value_in (value_node v) ≡ v
value_back v h =
    ap (λ (p : ℕ × model_requests.Request). value_of_body p.1.body)
    (requests_back 0 (request_of (model_requests.Compare [] (assertion_of (Unknown []) v))) ((refl, refl), (refl, h, refl)))

abbrev types_of_body : model_requests.Body → List TypeRef
types_of_body (model_requests.Read n (model_requests.Only types)) = types
types_of_body b = []

abbrev first_type : List TypeRef → TypeRef
first_type [] = Unknown []
first_type (t ∷ ts) = t

types_back : (t : TypeRef) → is_type t ≡ true → type_in (type_node t) ≡ t
types_back t h =
    ap (λ (p : ℕ × model_requests.Request). first_type (types_of_body p.1.body))
    (requests_back 0 (request_of (model_requests.Read [] (model_requests.Only (t ∷ [])))) ((refl, refl), ap (λ (b : Bool). b && true) h))

values_back : (vs : List Value) → list_all is_sayable vs ≡ true → map value_in (map value_node vs) ≡ vs
values_back [] h = refl
values_back (v ∷ vs) h =
    let w = both_true (is_sayable v) (list_all is_sayable vs) h in
    ap₂ (λ (x : Value) (xs : List Value). x ∷ xs) (value_back v w.0) (values_back vs w.1)

-- ---- references, trace items and sources

progress_back : (p : model.Progress) → progress_in (progress_node p) ≡ p
progress_back model.Start = refl
progress_back (model.Next k) = refl
progress_back model.Done = refl

kind_back : (k : model.RefType) → kind_in (whole (kind_number k)) ≡ k
kind_back model.Superior = refl
kind_back model.Subordinate = refl
kind_back model.Cross = refl
kind_back model.NonSpecific = refl
kind_back model.Supplier = refl
kind_back model.Own = refl

accesses_back : (as' : List Access) → map access_in (list (row (map access_node as'))) ≡ as'
accesses_back as' = ap (λ (ns : List Node). map access_in ns) (list_row (map access_node as')) ∙ by as'
  where
    by : (l : List Access) → map access_in (map access_node l) ≡ l
    by [] = refl
    by (a ∷ l) = ap (λ (m : List Access). a ∷ m) (by l)

reference_of : Name → model.Progress → model.RefType → List Access → List Rdn → Bool → Reference
reference_of n p k a x t = record { target = n; progress = p; kind = k; agents = a; exclusions = x; tried = t }

reference_same : (n m : Name) (p q : model.Progress) (k l : model.RefType) (a b : List Access) (x y : List Rdn) (t : Bool)
    → n ≡ m → p ≡ q → k ≡ l → a ≡ b → x ≡ y → reference_of n p k a x t ≡ reference_of m q l b y t
reference_same n m p q k l a b x y t e f g h i = cc

reference_back : (r : Reference) → told.IsReference r → reference_in (reference_node r) ≡ r
unfolding reference_of
reference_back r h =
    reference_same _ _ _ _ _ _ _ _ _ _ r.tried (the_name r.target h.0) (progress_back r.progress) (kind_back r.kind) (accesses_back r.agents)
    (each_back rdn_node rdn_of IsRdn the_rdn r.exclusions h.1)

item_back : (i : TraceItem) → told.IsItem i → item_in (item_node i) ≡ i
item_back i h =
    ap₂ (λ (n : Name) (p : model.Progress). record { agent = i.agent; target = n; progress = p; wide = i.wide }) (the_name i.target h)
    (progress_back i.progress)

moment_back : (o : Option ℕ) → number_in (replies.number_or_vacant o) ≡ o
moment_back None = refl
moment_back (Some n) = refl

source_back : (s : Source) → told.IsSource s → source_in (source_node s) ≡ s
source_back s h =
    ap₂ (λ (n : Name) (o : Option ℕ). record { context = n; agent = s.agent; moment = o }) (the_name s.context h) (moment_back s.moment)

-- ---- results

shown_back : (a : Shown) → told.IsShown a → shown_in (shown_node a) ≡ a
shown_back a h =
    ap₂ (λ (t : TypeRef) (vs : List Value). record { kind = t; values = vs }) (types_back a.kind h.0)
    (ap (λ (ns : List Node). map value_in ns) (list_row (map value_node a.values)) ∙ values_back a.values h.1)

twice : (b : Bool) → not (not b) ≡ b
twice true = refl
twice false = refl

info_of : Name → Bool → List Shown → EntryInfo
info_of n b l = record { name = n; copy = b; attributes = l }

info_same : (n m : Name) (b c : Bool) (k l : List Shown) → n ≡ m → b ≡ c → k ≡ l → info_of n b k ≡ info_of m c l
info_same n m b c k l e f g = cc

info_back : (e : EntryInfo) → told.IsInfo e → info_in (info_node e) ≡ e
unfolding info_of
info_back e h =
    info_same _ _ _ _ _ _ (the_name e.name h.0) (twice e.copy) (each_back shown_node shown_in told.IsShown shown_back e.attributes h.1)

sub_back : (s : Sub) → told.IsSub s → sub_in (sub_node s) ≡ s
sub_back s h = ap₂ (λ (r : Rdn) (b : Bool). record { rdn = r; copy = b }) (the_rdn s.rdn h) (twice s.copy)

limit_back : (b : Bool) → replies.is_limit (number_in (replies.limit_node b)) ≡ b
limit_back true = refl
limit_back false = refl

outcome_back : (o : Outcome) → told.IsOutcome o → outcome_in (outcome_node o) ≡ o
outcome_back o h =
    ap₂ (λ (b : Bool) (l : List Reference). record { limited = b; unexplored = l }) (limit_back o.limited)
    (each_back reference_node reference_in told.IsReference reference_back o.unexplored h)

sources_back : (l : List Source) → Each told.IsSource l → map source_in (list (row (map source_node l))) ≡ l
sources_back l h = each_back source_node source_in told.IsSource source_back l h

chosen : {X : Type 0} (b c : Bool) (x y : X) → b ≡ c → (if b then x else y) ≡ (if c then x else y)
chosen b c x y e = ap (λ d. if d then x else y) e

listed_same : (a b : List Sub) (c d : List Source) (e f : Outcome) → a ≡ b → c ≡ d → e ≡ f → Listed a c e ≡ Listed b d f
listed_same a b c d e f g h i = cc

found_same : (a b : List EntryInfo) (c d : List Source) (e f : Outcome) → a ≡ b → c ≡ d → e ≡ f → Found a c e ≡ Found b d f
found_same a b c d e f g h i = cc

answer_back : (code : ℕ) (a : Answer) → told.IsResultOf code a → answer_in code (answer_node a) ≡ a
answer_back code (Entry entry source) h = ap₂ Entry (info_back entry h.0) (source_back source h.1)
answer_back code (Match matched copy source) h =
    chosen (code == 2) true _ _ h.0
    ∙ ap₂ (λ (b : Bool) (s : Source). Match matched b s) (twice copy) (source_back source h.1)
answer_back code (Listed subs sources outcome) h =
    chosen (code == 2) false _ _ h.0 ∙ (chosen (code == 4) true _ _ h.1
    ∙ listed_same _ _ _ _ _ _ (each_back sub_node sub_in told.IsSub sub_back subs h.2) (sources_back sources h.3) (outcome_back outcome h.4))
answer_back code (Found entries sources outcome) h =
    chosen (code == 2) false _ _ h.0 ∙ (chosen (code == 4) false _ _ h.1
    ∙ found_same _ _ _ _ _ _ (each_back info_node info_in told.IsInfo info_back entries h.2) (sources_back sources h.3) (outcome_back outcome h.4))
answer_back code Changed h = refl

-- ---- errors

reference_if_back : (o : Option Reference) → IfThere told.IsReference o → replies.reference_if (replies.reference_or_vacant o) ≡ o
reference_if_back None h = refl
reference_if_back (Some r) h = ap (λ (s : Reference). let p : Option Reference = Some s in p) (reference_back r h)

item_if_back : (o : Option TraceItem) → IfThere told.IsItem o → replies.item_if (replies.item_or_vacant o) ≡ o
item_if_back None h = refl
item_if_back (Some i) h = ap (λ (j : TraceItem). let p : Option TraceItem = Some j in p) (item_back i h)

with_id : ℕ → Reply → ℕ × Reply
with_id id r = (id, r)

pub replies_back : RepliesReadBack
unfolding with_id
replies_back referral id (Answered code answer) h = ap (λ (a : Answer). with_id id (Answered code a)) (answer_back code answer h)
replies_back referral id (NoSuchObject matched) h = ap (λ (n : Name). with_id id (NoSuchObject n)) (the_name matched h)
replies_back referral id (AttributeProblem problem type) h = ap (λ (t : TypeRef). with_id id (AttributeProblem problem t)) (types_back type h)
replies_back referral id (UpdateProblem problem) h = refl
replies_back referral id (ServiceProblem problem reference item) h =
    ap₂ (λ (r : Option Reference) (i : Option TraceItem). with_id id (ServiceProblem problem r i)) (reference_if_back reference h.0)
    (item_if_back item h.1)
replies_back referral id (Referred reference) h = ap (λ (r : Reference). with_id id (Referred r)) (reference_back reference h)
