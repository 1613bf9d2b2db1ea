-- Sources, agents of references, references, trace items and partial outcomes, from what is found of their parts.
use Rattle.std.proofs.Common.{◌≡◌, ℕ, ◌+◌, ◌≤◌, Bool, true, false, List, [], ◌∷◌, map, refl, ap, sym, ◌∙◌, subst}
use Rattle.std.proofs.Common.{arith, inl, inr, ◌++◌, drop, if◌then◌else◌, not}
use Rattle.std.specs.declared.option.Option.{Option}
use Rattle.std.specs.declared.option.Option.TheVariants.{Some}
use Rattle.std.proofs.lemmas.List.{map-append}
use Rattle.x5_model.specs.Values.{Text, Name, Rdn}
use Rattle.x5_model.specs.Answers as model
use Rattle.x5_model.specs.References.{Progress, RefType}
use Rattle.x5_model_typed.specs.Nodes.{Node, Vacant, Flag, Many, Nil, row, parts}
use Rattle.x5_model_typed.specs.Named as named
use Rattle.x5_model_typed.specs.Named.{Named}
use Rattle.x5_model_typed.specs.Forms.{Component, Required, plain, at, or, by_tag}
use Rattle.x5_model_typed.specs.Layouts.{Surroundings, layout, sequence, sequence_of, set, optional, or_nothing}
use Rattle.x5_model_typed.specs.Layouts.{any_agent}
use Rattle.x5_model_typed.specs.Leaves.{is_agent_name}
use Rattle.x5_model_typed.specs.Rules.{text_in}
use Rattle.x5_model_typed.proofs.Laws.{list_row}
use Rattle.x5_model_messages.specs.Terms.{node_of, name_of, rdn_of, flag_in, number_in}
use Rattle.x5_model_messages.specs.Replies as replies
use Rattle.x5_model_messages.specs.Replies.{progress_in, kind_in, access_in, reference_in, item_in, source_in}
use Rattle.x5_model_messages.specs.Replies.{outcome_in, sub_in}
use Rattle.x5_direct.specs.Spelled.{Opens, Spelled, SpelledInOrder, Reads, ReadEach}
use Rattle.x5_direct.proofs.Spelling.{Goes, one_done, branch_spelled, spelled_higher, each_in, order_next, order_in}
use Rattle.x5_dapreply.specs.Said.{accesses_in, rdns_in, references_in, limited_in}
use Rattle.x5_dapreply.specs.Components.{SpelledComponents, ReadsTagged, MayReadTagged, ReadsLast, ReadsInside}
use Rattle.x5_dapreply.specs.Components.{MayOpen, MayRead}
use Rattle.x5_dapreply.proofs.LeafSpelling.{agent_made}
use Rattle.x5_dapreply.proofs.SetSpelling.{components_over, components_in, tagged_next, tagged_higher, maybe_next}
use Rattle.x5_dapreply.proofs.SetSpelling.{may_tagged}

-- ---- SEQUENCE OF

pub list_read : {X : Type 0} (levels : ℕ) (form outer : Named) (says : Node → X) (xs : List X)
    (content octets rest : List ℕ)
    → ((w : Surroundings) → by_tag 0 16 (layout w outer) ≡ Some (sequence_of form)) → Opens 48 content octets rest
    → ReadEach levels form says xs content → Reads (levels + 1) outer (λ n. map says (parts n)) xs octets rest
list_read levels form outer says xs content octets rest tagged o each = (
  Many (row each.0),
  branch_spelled levels outer 48 0 16 (sequence_of form) (Many (row each.0)) (Many (row each.0)) content octets rest o
      refl tagged (each_in levels form each.0 content each.1) refl,
  each.2 ∙ ap (λ (l : List Node). map says l) (sym (list_row each.0)),
)

pub order_higher : (levels more : ℕ) (cs : List Component) (ns : List Node) (octets : List ℕ) → levels ≤ more
    → SpelledInOrder levels cs ns octets → SpelledInOrder more cs ns octets
order_higher levels more cs ns octets less all depth at room = all depth at (omega (arith, less, room))

pub may_higher : {X : Type 0} (levels more k : ℕ) (form : Named) (says : Node → X) (d : Node) (x : X)
    (octets rest : List ℕ)
    → levels ≤ more → MayReadTagged levels k form says d x octets rest → MayReadTagged more k form says d x octets rest
may_higher levels more k form says d x octets rest less r =
    elim r [ inl t ↦ inl (tagged_higher levels more k form says x octets rest less t) | inr t ↦ inr t ]

-- One more is read of what is left of members.
pub list_more : {A X : Type 0} (levels : ℕ) (form : Named) (says : Node → X) (view : A → X) (octets left rest : List ℕ)
    (items now : List A) (a : A) → now ≡ items ++ a ∷ [] → Goes levels form says octets (map view items) left
    → Reads levels form says (view a) left rest → Goes levels form says octets (map view now) rest
list_more levels form says view octets left rest items now a e g r =
    subst (λ xs. Goes levels form says octets xs rest) (sym (ap (map view) e ∙ map-append view items (a ∷ [])))
    (one_done levels form says octets left rest (map view items) (view a) g r)

-- ---- sources

abbrev moment_of : Component
moment_of = optional (plain (named.NumberBelow 0 4294967295))

abbrev source_of : Name → Text → Option ℕ → replies.Source
source_of context agent moment = record { context = context; agent = agent; moment = moment }

same_source : (a b : Name) (c d : Text) (e f : Option ℕ) → a ≡ b → c ≡ d → e ≡ f → source_of a c e ≡ source_of b d f
same_source a b c d e f g h i = cc

pub source_read : (context : Name) (agent : Text) (moment : Option ℕ) (content behind left octets rest : List ℕ)
    → Opens 48 content octets rest → Reads 3 named.Name name_of context content behind
    → Reads 0 named.AgentName text_in agent behind left → ReadsLast 0 moment_of number_in moment left
    → Reads 4 named.Source source_in (source_of context agent moment) octets rest
source_read context agent moment content behind left octets rest o c a m =
    let n : Node = node_of (c.0 ∷ a.0 ∷ m.0 ∷ []) in (
      n,
      branch_spelled 3 named.Source 48 0 16 (sequence (plain named.Name ∷ plain named.AgentName ∷ moment_of ∷ [])) n n
          content octets rest o refl (λ w. refl)
          (order_in 3 (plain named.Name ∷ plain named.AgentName ∷ moment_of ∷ []) (c.0 ∷ a.0 ∷ m.0 ∷ []) content
          (order_next 3 named.Name (plain named.AgentName ∷ moment_of ∷ []) c.0 (a.0 ∷ m.0 ∷ []) content behind c.1
          (order_next 3 named.AgentName (moment_of ∷ []) a.0 (m.0 ∷ []) behind left
          (spelled_higher 0 3 named.AgentName a.0 behind left (omega arith) a.1)
          (order_higher 0 3 (moment_of ∷ []) (m.0 ∷ []) left (omega arith) m.1)))) refl,
      same_source context (name_of c.0) agent (text_in a.0) moment (number_in m.0) c.2 a.2 m.2,
    )

pub source_made : (context : Name) (agent text : Text) (moment : Option ℕ) (taken : ℕ) (content behind left : List ℕ)
    → behind ≡ drop taken content → Reads 3 named.Name name_of context content (drop taken content)
    → Opens 19 text behind left → agent ≡ text → (if is_agent_name text then any_agent text else false) ≡ true
    → ReadsLast 0 moment_of number_in moment left
    → ReadsInside 4 named.Source 48 source_in (source_of context agent moment) content
source_made context agent text moment taken content behind left e c o is may m octets rest opens =
    source_read context agent moment content behind left octets rest opens
    (subst (λ (l : List ℕ). Reads 3 named.Name name_of context content l) (sym e) c)
    (agent_made agent text behind left o may is) m

-- ---- agents of references

abbrev copy_of : Component
copy_of = or (Flag false) (plain named.Boolean)

abbrev access_of : Text → Bool → replies.Access
access_of agent copy = record { agent = agent; copy = copy }

same_access : (a b : Text) (c d : Bool) → a ≡ b → c ≡ d → access_of a c ≡ access_of b d
same_access a b c d e f = cc

pub access_read : (agent : Text) (copy : Bool) (content left octets rest : List ℕ) → Opens 48 content octets rest
    → Reads 0 named.AgentName text_in agent content left → ReadsLast 0 copy_of flag_in copy left
    → Reads 1 named.Agent access_in (access_of agent copy) octets rest
access_read agent copy content left octets rest o a c =
    let n : Node = node_of (a.0 ∷ c.0 ∷ []) in (
      n,
      branch_spelled 0 named.Agent 48 0 16 (sequence (plain named.AgentName ∷ copy_of ∷ [])) n n content octets rest o
          refl (λ w. refl)
          (order_in 0 (plain named.AgentName ∷ copy_of ∷ []) (a.0 ∷ c.0 ∷ []) content
          (order_next 0 named.AgentName (copy_of ∷ []) a.0 (c.0 ∷ []) content left a.1 c.1)) refl,
      same_access agent (text_in a.0) copy (flag_in c.0) a.2 c.2,
    )

pub access_made : (agent text : Text) (copy : Bool) (content left : List ℕ) → Opens 19 text content left → agent ≡ text
    → (if is_agent_name text then any_agent text else false) ≡ true → ReadsLast 0 copy_of flag_in copy left
    → ReadsInside 1 named.Agent 48 access_in (access_of agent copy) content
access_made agent text copy content left o is may c octets rest opens =
    access_read agent copy content left octets rest opens (agent_made agent text content left o may is) c

-- ---- trace items

abbrev item_of : Text → Name → Progress → Bool → replies.TraceItem
item_of agent target progress wide = record { agent = agent; target = target; progress = progress; wide = wide }

same_item : (a b : Text) (c d : Name) (e f : Progress) (g h : Bool) → a ≡ b → c ≡ d → e ≡ f → g ≡ h
    → item_of a c e g ≡ item_of b d f h
same_item a b c d e f g h i j k l = cc

abbrev item_parts : List Component
item_parts = plain named.AgentName ∷ plain named.Name ∷ plain named.Progress ∷ copy_of ∷ []

pub item_read : (agent : Text) (target : Name) (progress : Progress) (wide : Bool)
    (content first second left octets rest : List ℕ) → Opens 48 content octets rest
    → Reads 0 named.AgentName text_in agent content first → Reads 3 named.Name name_of target first second
    → Reads 1 named.Progress progress_in progress second left → ReadsLast 0 copy_of flag_in wide left
    → Reads 4 named.TraceItem item_in (item_of agent target progress wide) octets rest
item_read agent target progress wide content first second left octets rest o a t p w =
    let n : Node = node_of (a.0 ∷ t.0 ∷ p.0 ∷ w.0 ∷ []) in (
      n,
      branch_spelled 3 named.TraceItem 48 0 16 (sequence item_parts) n n content octets rest o refl (λ v. refl)
          (order_in 3 item_parts (a.0 ∷ t.0 ∷ p.0 ∷ w.0 ∷ []) content
          (order_next 3 named.AgentName (plain named.Name ∷ plain named.Progress ∷ copy_of ∷ []) a.0
          (t.0 ∷ p.0 ∷ w.0 ∷ []) content first (spelled_higher 0 3 named.AgentName a.0 content first (omega arith) a.1)
          (order_next 3 named.Name (plain named.Progress ∷ copy_of ∷ []) t.0 (p.0 ∷ w.0 ∷ []) first second t.1
          (order_next 3 named.Progress (copy_of ∷ []) p.0 (w.0 ∷ []) second left
          (spelled_higher 1 3 named.Progress p.0 second left (omega arith) p.1)
          (order_higher 0 3 (copy_of ∷ []) (w.0 ∷ []) left (omega arith) w.1))))) refl,
      same_item agent (text_in a.0) target (name_of t.0) progress (progress_in p.0) wide (flag_in w.0) a.2 t.2 p.2 w.2,
    )

pub item_made : (agent text : Text) (target : Name) (progress : Progress) (wide : Bool) (taken : ℕ)
    (content first second left : List ℕ) → Opens 19 text content first → agent ≡ text
    → (if is_agent_name text then any_agent text else false) ≡ true
    → Reads 3 named.Name name_of target first (drop taken first) → second ≡ drop taken first
    → Reads 1 named.Progress progress_in progress second left → ReadsLast 0 copy_of flag_in wide left
    → ReadsInside 4 named.TraceItem 48 item_in (item_of agent target progress wide) content
item_made agent text target progress wide taken content first second left o is may t e p w octets rest opens =
    item_read agent target progress wide content first second left octets rest opens
    (agent_made agent text content first o may is)
    (subst (λ (l : List ℕ). Reads 3 named.Name name_of target first l) (sym e) t) p w

-- ---- references

abbrev reference_of : Name → Progress → RefType → List replies.Access → List Rdn → Bool → replies.Reference
reference_of n p k a x t = record { target = n; progress = p; kind = k; agents = a; exclusions = x; tried = t }

same_reference : (n m : Name) (p q : Progress) (k l : RefType) (a b : List replies.Access) (x y : List Rdn) (t u : Bool)
    → n ≡ m → p ≡ q → k ≡ l → a ≡ b → x ≡ y → t ≡ u → reference_of n p k a x t ≡ reference_of m q l b y u
same_reference n m p q k l a b x y t u e f g h i j = cc

abbrev tried_part : List Component
tried_part = or (Flag false) (at 5 named.Boolean) ∷ []

abbrev excluded_parts : List Component
excluded_parts = or_nothing (at 4 named.Rdns) ∷ tried_part

abbrev agents_parts : List Component
agents_parts = at 3 named.Agents ∷ excluded_parts

abbrev kind_parts : List Component
kind_parts = at 2 named.RefType ∷ agents_parts

abbrev progress_parts : List Component
progress_parts = at 1 named.Progress ∷ kind_parts

abbrev reference_parts : List Component
reference_parts = at 0 named.Name ∷ progress_parts

reference_whole : (a b c d e f : Node) (content octets rest : List ℕ) → Opens 49 content octets rest
    → SpelledComponents 4 0 reference_parts (a ∷ b ∷ c ∷ d ∷ e ∷ f ∷ []) content
    → Spelled 5 named.Reference (node_of (a ∷ b ∷ c ∷ d ∷ e ∷ f ∷ [])) octets rest
reference_whole a b c d e f content octets rest o s =
    let n : Node = node_of (a ∷ b ∷ c ∷ d ∷ e ∷ f ∷ []) in
    branch_spelled 4 named.Reference 49 0 17 (set reference_parts) n n content octets rest o refl (λ w. refl)
    (components_in 4 0 reference_parts (a ∷ b ∷ c ∷ d ∷ e ∷ f ∷ []) content s) refl

record EndsRead (exclusions : List Rdn) (tried : Bool) (octets : List ℕ) : Type 0 where
  e : Node
  f : Node
  spelled : SpelledComponents 4 4 excluded_parts (e ∷ f ∷ []) octets
  says_e : exclusions ≡ rdns_in e
  says_f : tried ≡ flag_in f

ends_read : (exclusions : List Rdn) (tried : Bool) (octets left : List ℕ)
    → MayReadTagged 3 4 named.Rdns rdns_in (Many Nil) exclusions octets left
    → MayReadTagged 0 5 named.Boolean flag_in (Flag false) tried left [] → EndsRead exclusions tried octets
ends_read exclusions tried octets left x t =
    let last = maybe_next 3 5 5 named.Boolean (Flag false) flag_in tried [] [] left [] (omega arith) refl
    (may_higher 0 3 5 named.Boolean flag_in (Flag false) tried left [] (omega arith) t) (components_over 4 6) in
    let first = maybe_next 3 4 4 named.Rdns (Many Nil) rdns_in exclusions tried_part (last.0 ∷ []) octets left
    (omega arith)
    refl x last.1 in
    record { e = first.0; f = last.0; spelled = first.1; says_e = first.2; says_f = last.2 }

pub reference_read : (target : Name) (progress : Progress) (kind : RefType) (agents : List replies.Access)
    (exclusions : List Rdn) (tried : Bool) (content one two three four five octets rest : List ℕ)
    → Opens 49 content octets rest → ReadsTagged 3 0 named.Name name_of target content one
    → ReadsTagged 1 1 named.Progress progress_in progress one two → ReadsTagged 0 2 named.RefType kind_in kind two three
    → ReadsTagged 2 3 named.Agents accesses_in agents three four
    → MayReadTagged 3 4 named.Rdns rdns_in (Many Nil) exclusions four five
    → MayReadTagged 0 5 named.Boolean flag_in (Flag false) tried five []
    → Reads 5 named.Reference reference_in (reference_of target progress kind agents exclusions tried) octets rest
reference_read target progress kind agents exclusions tried content one two three four five octets rest o n p k a x t =
    let w = ends_read exclusions tried four five x t in (
      node_of (n.2.0 ∷ p.2.0 ∷ k.2.0 ∷ a.2.0 ∷ w.e ∷ w.f ∷ []),
      reference_whole n.2.0 p.2.0 k.2.0 a.2.0 w.e w.f content octets rest o
          (tagged_next 3 0 0 named.Name Required name_of target progress_parts
          (p.2.0 ∷ k.2.0 ∷ a.2.0 ∷ w.e ∷ w.f ∷ []) content one (omega arith) refl n
          (tagged_next 3 1 1 named.Progress Required progress_in progress kind_parts (k.2.0 ∷ a.2.0 ∷ w.e ∷ w.f ∷ [])
          one two (omega arith) refl (tagged_higher 1 3 1 named.Progress progress_in progress one two (omega arith) p)
          (tagged_next 3 2 2 named.RefType Required kind_in kind agents_parts (a.2.0 ∷ w.e ∷ w.f ∷ []) two three
          (omega arith) refl (tagged_higher 0 3 2 named.RefType kind_in kind two three (omega arith) k)
          (tagged_next 3 3 3 named.Agents Required accesses_in agents excluded_parts (w.e ∷ w.f ∷ []) three four
          (omega arith) refl (tagged_higher 2 3 3 named.Agents accesses_in agents three four (omega arith) a)
          w.spelled)))),
      same_reference target (name_of n.2.0) progress (progress_in p.2.0) kind (kind_in k.2.0) agents (accesses_in a.2.0)
          exclusions (rdns_in w.e) tried (flag_in w.f) n.2.2 p.2.2 k.2.2 a.2.2 w.says_e w.says_f,
    )

pub reference_made : (target : Name) (progress : Progress) (kind : RefType) (agents : List replies.Access)
    (exclusions : List Rdn) (tried excludes tells : Bool)
    (content inner₀ one inner₁ two inner₂ three inner₃ four inner₄ five inner₅ : List ℕ)
    → Opens 160 inner₀ content one → Opens 161 inner₁ one two → Opens 162 inner₂ two three → Opens 163 inner₃ three four
    → MayOpen excludes 164 inner₄ four five → MayOpen tells 165 inner₅ five []
    → Reads 3 named.Name name_of target inner₀ [] → Reads 1 named.Progress progress_in progress inner₁ []
    → Reads 0 named.RefType kind_in kind inner₂ [] → Reads 2 named.Agents accesses_in agents inner₃ []
    → MayRead excludes 3 named.Rdns rdns_in (Many Nil) exclusions inner₄
    → MayRead tells 0 named.Boolean flag_in (Flag false) tried inner₅
    → ReadsInside 5 named.Reference 49 reference_in (reference_of target progress kind agents exclusions tried) content
reference_made target progress kind agents exclusions tried excludes tells content inner₀ one inner₁ two inner₂ three
    inner₃
    four inner₄ five inner₅ o₀ o₁ o₂ o₃ o₄ o₅ n p k a x t octets rest opens =
    reference_read target progress kind agents exclusions tried content one two three four five octets rest opens
    (inner₀, o₀, n) (inner₁, o₁, p) (inner₂, o₂, k) (inner₃, o₃, a)
    (may_tagged excludes 3 4 named.Rdns rdns_in (Many Nil) exclusions inner₄ four five o₄ x)
    (may_tagged tells 0 5 named.Boolean flag_in (Flag false) tried inner₅ five [] o₅ t)

-- ---- partial outcomes

abbrev outcome_of : Bool → List replies.Reference → replies.Outcome
outcome_of limited unexplored = record { limited = limited; unexplored = unexplored }

same_outcome : (a b : Bool) (c d : List replies.Reference) → a ≡ b → c ≡ d → outcome_of a c ≡ outcome_of b d
same_outcome a b c d e f = cc

abbrev unexplored_part : List Component
unexplored_part = or_nothing (at 1 named.References) ∷ []

abbrev outcome_parts : List Component
outcome_parts = optional (at 0 (named.NumberBelow 1 1)) ∷ unexplored_part

pub outcome_read : (limited : Bool) (unexplored : List replies.Reference) (content left octets rest : List ℕ)
    → Opens 49 content octets rest
    → MayReadTagged 0 0 (named.NumberBelow 1 1) limited_in Vacant limited content left
    → MayReadTagged 6 1 named.References references_in (Many Nil) unexplored left []
    → Reads 8 named.Qualifier outcome_in (outcome_of limited unexplored) octets rest
outcome_read limited unexplored content left octets rest o l u =
    let last = maybe_next 6 1 1 named.References (Many Nil) references_in unexplored [] [] left [] (omega arith) refl u
    (components_over 7 2) in
    let first = maybe_next 6 0 0 (named.NumberBelow 1 1) Vacant limited_in limited unexplored_part
    (last.0 ∷ []) content left
    (omega arith) refl (may_higher 0 6 0 (named.NumberBelow 1 1) limited_in Vacant limited content left (omega arith) l)
    last.1 in
    let n : Node = node_of (first.0 ∷ last.0 ∷ []) in (
      n,
      branch_spelled 7 named.Qualifier 49 0 17 (set outcome_parts) n n content octets rest o refl (λ w. refl)
          (components_in 7 0 outcome_parts (first.0 ∷ last.0 ∷ []) content first.1) refl,
      same_outcome limited (limited_in first.0) unexplored (references_in last.0) first.2 last.2,
    )

pub outcome_made : (limited limits leaves : Bool) (unexplored : List replies.Reference)
    (content inner₀ left inner₁ : List ℕ)
    → MayOpen limits 160 inner₀ content left → MayOpen leaves 161 inner₁ left []
    → MayRead limits 0 (named.NumberBelow 1 1) limited_in Vacant limited inner₀
    → MayRead leaves 6 named.References references_in (Many Nil) unexplored inner₁
    → ReadsInside 8 named.Qualifier 49 outcome_in (outcome_of limited unexplored) content
outcome_made limited limits leaves unexplored content inner₀ left inner₁ o₀ o₁ l u octets rest opens =
    outcome_read limited unexplored content left octets rest opens
    (may_tagged limits 0 0 (named.NumberBelow 1 1) limited_in Vacant limited inner₀ content left o₀ l)
    (may_tagged leaves 6 1 named.References references_in (Many Nil) unexplored inner₁ left [] o₁ u)

-- ---- what a list says of an entry below

abbrev from_entry_of : Component
from_entry_of = or (Flag true) (plain named.Boolean)

abbrev sub_of : Rdn → Bool → model.Sub
sub_of rdn copy = record { rdn = rdn; copy = copy }

same_sub : (a b : Rdn) (c d : Bool) → a ≡ b → c ≡ d → sub_of a c ≡ sub_of b d
same_sub a b c d e f = cc

pub sub_made : (rdn : Rdn) (from_entry : Bool) (taken : ℕ) (content left : List ℕ) → left ≡ drop taken content
    → Reads 2 named.Rdn rdn_of rdn content (drop taken content) → ReadsLast 0 from_entry_of flag_in from_entry left
    → ReadsInside 3 named.Sub 48 sub_in (sub_of rdn (not from_entry)) content
sub_made rdn from_entry taken content left e r f octets rest opens =
    let n : Node = node_of (r.0 ∷ f.0 ∷ []) in (
      n,
      branch_spelled 2 named.Sub 48 0 16 (sequence (plain named.Rdn ∷ from_entry_of ∷ [])) n n content octets rest opens
          refl (λ w. refl)
          (order_in 2 (plain named.Rdn ∷ from_entry_of ∷ []) (r.0 ∷ f.0 ∷ []) content
          (order_next 2 named.Rdn (from_entry_of ∷ []) r.0 (f.0 ∷ []) content left
          (subst (λ (l : List ℕ). Spelled 2 named.Rdn r.0 content l) (sym e) r.1)
          (order_higher 0 2 (from_entry_of ∷ []) (f.0 ∷ []) left (omega arith) f.1))) refl,
      same_sub rdn (rdn_of r.0) (not from_entry) (not (flag_in f.0)) r.2 (ap not f.2),
    )
