-- Answers and replies, from what is found of their parts.
use Rattle.std.proofs.Common.{◌≡◌, ℕ, ◌≤◌, ◌<◌, ◌%◌, Bool, true, false, List, [], ◌∷◌, refl, ap, ap₂, sym}
use Rattle.std.proofs.Common.{◌∙◌, subst, arith, lit<, ◌⊎◌, inl, inr, pos, ◌==◌, get_or, length}
use Rattle.std.proofs.lemmas.Bool.{eq-eqb}
use Rattle.std.proofs.lemmas.Bool.Decides.{Decides-eqb}
use Rattle.std.specs.declared.option.Option.{Option}
use Rattle.std.specs.declared.option.Option.TheVariants.{Some}
use Rattle.x5_model.specs.Values.{Name}
use Rattle.x5_model.specs.Answers as model
use Rattle.x5_model_typed.specs.Nodes.{Node, Vacant, Chosen, whole}
use Rattle.x5_model_typed.specs.Named as named
use Rattle.x5_model_typed.specs.Named.{Named, Operation}
use Rattle.x5_model_typed.specs.Forms.{Component, Primitive, Required, universal, plain, at, or, code}
use Rattle.x5_model_typed.specs.Forms.{by_tag}
use Rattle.x5_model_typed.specs.Leaves.{null, from_to}
use Rattle.x5_model_typed.specs.Layouts as layouts
use Rattle.x5_model_typed.specs.Layouts.{Surroundings, layout, sequence, set, no_qualifier, named_by, operation_codes}
use Rattle.x5_model_typed.specs.Layouts.{result_inner, integer}
use Rattle.x5_model_messages.specs.Terms.{node_of, name_of, number_in}
use Rattle.x5_model_messages.specs.Replies as replies
use Rattle.x5_model_messages.specs.Replies.{info_in, source_in, sub_in, outcome_in, answer_in, or_zero}
use Rattle.x5_direct.specs.Spelled.{Opens, Spelled, Reads}
use Rattle.x5_direct.proofs.Heads.{opens_so, short_length, three_octets}
use Rattle.x5_direct.proofs.Spelling.{leaf_spelled, branch_spelled, spelled_higher, order_over, order_next, order_in}
use Rattle.x5_dapreply.specs.ReplyViews.{heard_in}
use Rattle.x5_dapreply.specs.Results.{ReadsResult, ReadsReply}
use Rattle.x5_dapreply.specs.Said.{infos_in, subs_in, sources_in, limited_in}
use Rattle.x5_dapreply.specs.Components.{ReadsTagged, MayReadTagged, ReadsInside, MayOpen, MayRead}
use Rattle.x5_dapreply.proofs.SetSpelling.{components_over, components_in, tagged_next, tagged_higher, reads_higher}
use Rattle.x5_dapreply.proofs.SetSpelling.{maybe_next, order_coded, may_tagged, may_there}
use Rattle.x5_dapreply.proofs.LeafSpelling.{one_octet, code_spelled, number_there, small_number, within, none_left}
use Rattle.x5_dapreply.proofs.LeafSpelling.{three_only}

-- ---- the limit of a partial outcome

one_spelled : (rest : List ℕ) → Spelled 0 (named.NumberBelow 1 1) (whole 1) (2 ∷ 1 ∷ 1 ∷ rest) rest
one_spelled rest =
    leaf_spelled (named.NumberBelow 1 1) 2 0 2 (integer (from_to 1 1)) (whole 1) (whole 1) (1 ∷ [])
    (2 ∷ 1 ∷ 1 ∷ rest) rest
    (one_octet 2 1 rest (lit< tt) (lit< tt)) refl (lit< tt) (λ w. refl)
    (number_there (from_to 1 1) (1 ∷ []) (pos 1) (small_number 1 (lit< tt))
    (within 1 1 1 (omega arith) (omega arith))) refl

pub limit_read : (rest : List ℕ)
    → ReadsTagged 0 0 (named.NumberBelow 1 1) limited_in true (160 ∷ 3 ∷ 2 ∷ 1 ∷ 1 ∷ rest) rest
limit_read rest =
    (2 ∷ 1 ∷ 1 ∷ [], three_octets 160 2 1 1 rest (lit< tt) (lit< tt), (whole 1, one_spelled [], refl))

-- ---- answers

same_found : (a b : List model.EntryInfo) (c d : List replies.Source) (e f : replies.Outcome) → a ≡ b → c ≡ d → e ≡ f
    → replies.Found a c e ≡ replies.Found b d f
same_found a b c d e f g h i = cc

same_listed : (a b : List model.Sub) (c d : List replies.Source) (e f : replies.Outcome) → a ≡ b → c ≡ d → e ≡ f
    → replies.Listed a c e ≡ replies.Listed b d f
same_listed a b c d e f g h i = cc

abbrev qualifier_part : List Component
qualifier_part = or no_qualifier (at 2 named.Qualifier) ∷ []

abbrev source_parts : List Component
source_parts = at 1 named.Sources ∷ qualifier_part

pub found_read : (entries : List model.EntryInfo) (sources : List replies.Source) (outcome : replies.Outcome)
    (content one two octets rest : List ℕ) → Opens 49 content octets rest
    → ReadsTagged 8 0 named.EntryInfos infos_in entries content one
    → ReadsTagged 5 1 named.Sources sources_in sources one two
    → MayReadTagged 8 2 named.Qualifier outcome_in no_qualifier outcome two []
    → Reads 10 (named.Outcome named.Search) (answer_in 5) (replies.Found entries sources outcome) octets rest
found_read entries sources outcome content one two octets rest o e s q =
    let last = maybe_next 8 2 2 named.Qualifier no_qualifier outcome_in outcome [] [] two [] (omega arith) refl q
    (components_over 9 3) in
    let n : Node = node_of (e.2.0 ∷ s.2.0 ∷ last.0 ∷ []) in (
      n,
      branch_spelled 9 (named.Outcome named.Search) 49 0 17 (set (at 0 named.EntryInfos ∷ source_parts)) n n content
          octets rest o refl (λ w. refl)
          (components_in 9 0 (at 0 named.EntryInfos ∷ source_parts) (e.2.0 ∷ s.2.0 ∷ last.0 ∷ []) content
          (tagged_next 8 0 0 named.EntryInfos Required infos_in entries source_parts (s.2.0 ∷ last.0 ∷ []) content one
          (omega arith) refl e
          (tagged_next 8 1 1 named.Sources Required sources_in sources qualifier_part (last.0 ∷ []) one two
          (omega arith)
          refl (tagged_higher 5 8 1 named.Sources sources_in sources one two (omega arith) s) last.1))) refl,
      same_found entries (infos_in e.2.0) sources (sources_in s.2.0) outcome (outcome_in last.0) e.2.2 s.2.2 last.2,
    )

pub listed_read : (subs : List model.Sub) (sources : List replies.Source) (outcome : replies.Outcome)
    (content one two octets rest : List ℕ) → Opens 49 content octets rest
    → ReadsTagged 8 0 named.Subs subs_in subs content one
    → ReadsTagged 5 1 named.Sources sources_in sources one two
    → MayReadTagged 8 2 named.Qualifier outcome_in no_qualifier outcome two []
    → Reads 10 (named.Outcome named.ListBelow) (answer_in 4) (replies.Listed subs sources outcome) octets rest
listed_read subs sources outcome content one two octets rest o e s q =
    let last = maybe_next 8 2 2 named.Qualifier no_qualifier outcome_in outcome [] [] two [] (omega arith) refl q
    (components_over 9 3) in
    let n : Node = node_of (e.2.0 ∷ s.2.0 ∷ last.0 ∷ []) in (
      n,
      branch_spelled 9 (named.Outcome named.ListBelow) 49 0 17 (set (at 0 named.Subs ∷ source_parts)) n n content octets
          rest o refl (λ w. refl)
          (components_in 9 0 (at 0 named.Subs ∷ source_parts) (e.2.0 ∷ s.2.0 ∷ last.0 ∷ []) content
          (tagged_next 8 0 0 named.Subs Required subs_in subs source_parts (s.2.0 ∷ last.0 ∷ []) content one
          (omega arith) refl e
          (tagged_next 8 1 1 named.Sources Required sources_in sources qualifier_part (last.0 ∷ []) one two
          (omega arith)
          refl (tagged_higher 5 8 1 named.Sources sources_in sources one two (omega arith) s) last.1))) refl,
      same_listed subs (subs_in e.2.0) sources (sources_in s.2.0) outcome (outcome_in last.0) e.2.2 s.2.2 last.2,
    )

pub entry_read : (entry : model.EntryInfo) (source : replies.Source) (content one octets rest : List ℕ)
    → Opens 49 content octets rest → ReadsTagged 8 0 named.EntryInfo info_in entry content one
    → ReadsTagged 4 1 named.Source source_in source one []
    → Reads 10 (named.Outcome named.Read) (answer_in 1) (replies.Entry entry source) octets rest
entry_read entry source content one octets rest o e s =
    let n : Node = node_of (e.2.0 ∷ s.2.0 ∷ []) in (
      n,
      branch_spelled 9 (named.Outcome named.Read) 49 0 17 (set (at 0 named.EntryInfo ∷ at 1 named.Source ∷ [])) n n
          content octets rest o refl (λ w. refl)
          (components_in 9 0 (at 0 named.EntryInfo ∷ at 1 named.Source ∷ []) (e.2.0 ∷ s.2.0 ∷ []) content
          (tagged_next 8 0 0 named.EntryInfo Required info_in entry (at 1 named.Source ∷ []) (s.2.0 ∷ []) content one
          (omega arith) refl e
          (tagged_next 8 1 1 named.Source Required source_in source [] [] one [] (omega arith) refl
          (tagged_higher 4 8 1 named.Source source_in source one [] (omega arith) s) (components_over 9 2)))) refl,
      ap₂ (λ (x : model.EntryInfo) (y : replies.Source). replies.Entry x y) e.2.2 s.2.2,
    )

-- ---- results behind their codes

pub coded : (k : ℕ) (operation : Operation) (answer : replies.Answer) (octets rest : List ℕ) → k < 128
    → named_by (operation_codes named.Outcome) (pos k) ≡ Some (named.Outcome operation) → octets ≡ 2 ∷ 1 ∷ k ∷ rest
    → Reads 10 (named.Outcome operation) (answer_in k) answer rest [] → ReadsResult answer octets
coded k operation answer octets rest less known e r = (
  k,
  r.0,
  order_coded 10 named.AnyNumber (named_by (operation_codes named.Outcome)) (pos k) (named.Outcome operation) (r.0 ∷ [])
      octets rest known
      (spelled_higher 0 10 named.AnyNumber (whole k) octets rest (omega arith)
      (subst (λ (o : List ℕ). Spelled 0 named.AnyNumber (whole k) o rest) (sym e) (code_spelled k rest less)))
      (order_next 10 (named.Outcome operation) [] r.0 [] rest [] r.1 (order_over 10)),
  r.2,
)

no_octet : (first : ℕ) (rest : List ℕ) → first < 256 → first % 32 < 31
    → Opens first [] (first ∷ 0 ∷ rest) rest
no_octet first rest small low =
    opens_so first 0 (first ∷ 0 ∷ rest) (0 ∷ rest) rest [] rest small low refl (short_length 0 rest (lit< tt))
    (omega arith)
    refl refl

-- An update's result, whatever its code.
pub changed_read : (k : ℕ) (operation : Operation)
    → ((w : Surroundings) → by_tag 0 5 (layout w (named.Outcome operation)) ≡ Some (universal 5 (Primitive null)))
    → Reads 10 (named.Outcome operation) (answer_in k) replies.Changed (5 ∷ 0 ∷ []) []
changed_read k operation tagged = (
  Vacant,
  spelled_higher 0 10 (named.Outcome operation) Vacant (5 ∷ 0 ∷ []) [] (omega arith)
      (leaf_spelled (named.Outcome operation) 5 0 5 (universal 5 (Primitive null)) Vacant Vacant [] (5 ∷ 0 ∷ []) []
      (no_octet 5 [] (lit< tt) (lit< tt)) refl (lit< tt) tagged refl refl),
  refl,
)

-- ---- replies

id_said : (id : ℕ) (n : Node) → (let o : Option ℕ = Some id in o) ≡ number_in n → id ≡ or_zero (number_in n)
id_said id n e = ap or_zero e

pub result_read : (form inner : Named) (id : ℕ) (answer : replies.Answer) (content left body octets : List ℕ)
    → ((w : Surroundings) → by_tag 2 2 (layout w form) ≡ Some (layouts.result inner))
    → ((w : Surroundings) → by_tag 0 16 (layout w inner) ≡ Some (result_inner (operation_codes named.Outcome)))
    → Opens 162 content octets [] → Reads 0 (named.NumberBelow 0 4294967295) number_in (Some id) content left
    → Opens 48 body left [] → ReadsResult answer body
    → Reads 12 form heard_in (id, replies.Answered 0 answer) octets []
result_read form inner id answer content left body octets tagged inside o i b r =
    let m : Node = node_of (whole r.0 ∷ r.1 ∷ []) in
    let n : Node = node_of (i.0 ∷ m ∷ []) in (
      Chosen 2 n,
      branch_spelled 11 form 162 2 2 (layouts.result inner) n n content octets [] o refl tagged
          (order_in 11 (layouts.id ∷ plain inner ∷ []) (i.0 ∷ m ∷ []) content
          (order_next 11 (named.NumberBelow 0 4294967295) (plain inner ∷ []) i.0 (m ∷ []) content left
          (spelled_higher 0 11 (named.NumberBelow 0 4294967295) i.0 content left (omega arith) i.1)
          (order_next 11 inner [] m [] left []
          (branch_spelled 10 inner 48 0 16 (result_inner (operation_codes named.Outcome)) m m body left [] b refl inside
          (order_in 10 (code named.AnyNumber (named_by (operation_codes named.Outcome)) ∷ [])
          (whole r.0 ∷ r.1 ∷ []) body
          r.2) refl)
          (order_over 11)))) refl,
      ap₂ (λ (x : ℕ) (y : replies.Answer). (x, replies.Answered 0 y)) (id_said id i.0 i.2) r.3,
    )

-- ---- from the contents of elements

pub limit_whole : (there : Bool) (octets rest : List ℕ) → there ≡ true → octets ≡ 2 ∷ 1 ∷ 1 ∷ rest → length rest ≡ 0
    → MayRead there 0 (named.NumberBelow 1 1) limited_in Vacant true octets
limit_whole there octets rest e f none =
    may_there there 0 (named.NumberBelow 1 1) limited_in Vacant true octets e
    (subst (λ (o : List ℕ). Reads 0 (named.NumberBelow 1 1) limited_in true o [])
    (sym (f ∙ ap (λ (r : List ℕ). 2 ∷ 1 ∷ 1 ∷ r) (none_left rest none))) (whole 1, one_spelled [], refl))

pub found_made : (entries : List model.EntryInfo) (sources : List replies.Source) (outcome : replies.Outcome)
    (qualified : Bool) (content inner₀ one inner₁ two inner₂ : List ℕ) → Opens 160 inner₀ content one
    → Opens 161 inner₁ one two → MayOpen qualified 162 inner₂ two []
    → Reads 8 named.EntryInfos infos_in entries inner₀ [] → Reads 5 named.Sources sources_in sources inner₁ []
    → MayRead qualified 8 named.Qualifier outcome_in no_qualifier outcome inner₂
    → ReadsInside 10 (named.Outcome named.Search) 49 (answer_in 5) (replies.Found entries sources outcome) content
found_made entries sources outcome qualified content inner₀ one inner₁ two inner₂ o₀ o₁ o₂ e s q octets rest opens =
    found_read entries sources outcome content one two octets rest opens (inner₀, o₀, e) (inner₁, o₁, s)
    (may_tagged qualified 8 2 named.Qualifier outcome_in no_qualifier outcome inner₂ two [] o₂ q)

pub listed_made : (subs : List model.Sub) (sources : List replies.Source) (outcome : replies.Outcome)
    (qualified : Bool) (content inner₀ one inner₁ two inner₂ : List ℕ) → Opens 160 inner₀ content one
    → Opens 161 inner₁ one two → MayOpen qualified 162 inner₂ two []
    → Reads 4 named.Subs subs_in subs inner₀ [] → Reads 5 named.Sources sources_in sources inner₁ []
    → MayRead qualified 8 named.Qualifier outcome_in no_qualifier outcome inner₂
    → ReadsInside 10 (named.Outcome named.ListBelow) 49 (answer_in 4) (replies.Listed subs sources outcome) content
listed_made subs sources outcome qualified content inner₀ one inner₁ two inner₂ o₀ o₁ o₂ e s q octets rest opens =
    listed_read subs sources outcome content one two octets rest opens
    (inner₀, o₀, reads_higher 4 8 named.Subs subs_in subs inner₀ [] (omega arith) e) (inner₁, o₁, s)
    (may_tagged qualified 8 2 named.Qualifier outcome_in no_qualifier outcome inner₂ two [] o₂ q)

pub entry_made : (entry : model.EntryInfo) (source : replies.Source) (content inner₀ left inner₁ : List ℕ)
    → Opens 160 inner₀ content left → Opens 161 inner₁ left [] → Reads 7 named.EntryInfo info_in entry inner₀ []
    → Reads 4 named.Source source_in source inner₁ []
    → ReadsInside 10 (named.Outcome named.Read) 49 (answer_in 1) (replies.Entry entry source) content
entry_made entry source content inner₀ left inner₁ o₀ o₁ e s octets rest opens =
    entry_read entry source content left octets rest opens
    (inner₀, o₀, reads_higher 7 8 named.EntryInfo info_in entry inner₀ [] (omega arith) e) (inner₁, o₁, s)

-- ---- updates

either : (a b : ℕ) → (a ≡ b) ⊎ ((a == b) ≡ false)
either a b = by (a == b) refl
  where
    by : (v : Bool) → (a == b) ≡ v → (a ≡ b) ⊎ ((a == b) ≡ false)
    by true e = inl ((Decides-eqb a b).0 e)
    by false e = inr e

abbrev IsChangedBy : ℕ → Type 0
IsChangedBy k = ReadsResult replies.Changed (2 ∷ 1 ∷ k ∷ 5 ∷ 0 ∷ [])

changed_by : (k : ℕ) (operation : Operation) → k < 128
    → named_by (operation_codes named.Outcome) (pos k) ≡ Some (named.Outcome operation)
    → ((w : Surroundings) → by_tag 0 5 (layout w (named.Outcome operation)) ≡ Some (universal 5 (Primitive null)))
    → IsChangedBy k
changed_by k operation less known tagged =
    coded k operation replies.Changed (2 ∷ 1 ∷ k ∷ 5 ∷ 0 ∷ []) (5 ∷ 0 ∷ []) less known refl
    (changed_read k operation tagged)

the_same : (k j : ℕ) → k ≡ j → IsChangedBy j → IsChangedBy k
the_same k j e h = subst IsChangedBy (sym e) h

not_that : (k j : ℕ) → (k == j) ≡ false → k ≡ j → ⊥
not_that k j e same = absurd (cc (sym e ∙ eq-eqb k j same))

pub changed_coded : (k : ℕ) → 6 ≤ k → k ≤ 9 → IsChangedBy k
changed_coded k low high =
    elim (either k 6) [
      | inl e ↦ the_same k 6 e (changed_by 6 named.AddEntry (lit< tt) refl (λ w. refl))
      | inr a ↦ elim (either k 7) [
        | inl e ↦ the_same k 7 e (changed_by 7 named.RemoveEntry (lit< tt) refl (λ w. refl))
        | inr b ↦ elim (either k 8) [
          | inl e ↦ the_same k 8 e (changed_by 8 named.ModifyEntry (lit< tt) refl (λ w. refl))
          | inr c ↦
              let not_six : k ≡ 6 → ⊥ = not_that k 6 a in
              let not_seven : k ≡ 7 → ⊥ = not_that k 7 b in
              let not_eight : k ≡ 8 → ⊥ = not_that k 8 c in
              let nine : k ≡ 9 = omega (arith, low, high, not_six, not_seven, not_eight) in
              the_same k 9 nine (changed_by 9 named.ModifyDn (lit< tt) refl (λ w. refl))
        ]
      ]
    ]

pub changed_whole : (octets rest : List ℕ) → octets ≡ 2 ∷ 1 ∷ rest → length rest ≡ 3 → 6 ≤ get_or rest 0 0
    → get_or rest 0 0 ≤ 9 → get_or rest 1 0 ≡ 5 → get_or rest 2 0 ≡ 0 → ReadsResult replies.Changed octets
changed_whole octets rest e three low high five zero =
    let same : octets ≡ 2 ∷ 1 ∷ get_or rest 0 0 ∷ 5 ∷ 0 ∷ [] =
    e ∙ ap (λ (r : List ℕ). 2 ∷ 1 ∷ r) (three_only rest three)
    ∙ ap₂ (λ (x y : ℕ). 2 ∷ 1 ∷ get_or rest 0 0 ∷ x ∷ y ∷ []) five zero in
    subst (λ (o : List ℕ). ReadsResult replies.Changed o) (sym same) (changed_coded (get_or rest 0 0) low high)

-- ---- whole replies

pub done_read : (id : ℕ) (answer : replies.Answer) (octets content left body : List ℕ) → Opens 162 content octets []
    → Reads 0 (named.NumberBelow 0 4294967295) number_in (Some id) content left → Opens 48 body left []
    → ReadsResult answer body → ReadsReply (id, replies.Answered 0 answer) octets
done_read id answer octets content left body o i b r = (
  result_read named.DapAnswer named.DapResult id answer content left body octets (λ w. refl) (λ w. refl) o i b r,
  result_read named.DspAnswer named.DspResult id answer content left body octets (λ w. refl) (λ w. refl) o i b r,
)

matched_read : (form : Named) (codes : List (ℕ × Named)) (id : ℕ) (matched : Name)
    (octets content left after inside name : List ℕ)
    → ((w : Surroundings) → by_tag 2 3 (layout w form) ≡ Some (layouts.error codes))
    → named_by codes (pos 2) ≡ Some named.NameError
    → Opens 163 content octets [] → Reads 0 (named.NumberBelow 0 4294967295) number_in (Some id) content left
    → left ≡ 2 ∷ 1 ∷ 2 ∷ after → Opens 48 inside after [] → inside ≡ 2 ∷ 1 ∷ 1 ∷ name
    → Reads 3 named.Name name_of matched name [] → Reads 12 form heard_in (id, replies.NoSuchObject matched) octets []
matched_read form codes id matched octets content left after inside name tagged known o i e b f r =
    let m : Node = node_of (whole 1 ∷ r.0 ∷ []) in
    let n : Node = node_of (i.0 ∷ whole 2 ∷ m ∷ []) in (
      Chosen 3 n,
      branch_spelled 11 form 163 2 3 (layouts.error codes) n n content octets [] o refl tagged
          (order_in 11 (layouts.id ∷ code named.AnyNumber (named_by codes) ∷ []) (i.0 ∷ whole 2 ∷ m ∷ []) content
          (order_next 11 (named.NumberBelow 0 4294967295) (code named.AnyNumber (named_by codes) ∷ []) i.0
          (whole 2 ∷ m ∷ [])
          content left (spelled_higher 0 11 (named.NumberBelow 0 4294967295) i.0 content left (omega arith) i.1)
          (order_coded 11 named.AnyNumber (named_by codes) (pos 2) named.NameError (m ∷ []) left after known
          (spelled_higher 0 11 named.AnyNumber (whole 2) left after (omega arith)
          (subst (λ (l : List ℕ). Spelled 0 named.AnyNumber (whole 2) l after) (sym e)
          (code_spelled 2 after (lit< tt))))
          (order_next 11 named.NameError [] m [] after []
          (spelled_higher 4 11 named.NameError m after [] (omega arith)
          (branch_spelled 3 named.NameError 48 0 16
          (sequence (plain (named.NumberBelow 1 1) ∷ plain named.Name ∷ [])) m m
          inside after [] b refl (λ w. refl)
          (order_in 3 (plain (named.NumberBelow 1 1) ∷ plain named.Name ∷ []) (whole 1 ∷ r.0 ∷ []) inside
          (order_next 3 (named.NumberBelow 1 1) (plain named.Name ∷ []) (whole 1) (r.0 ∷ []) inside name
          (spelled_higher 0 3 (named.NumberBelow 1 1) (whole 1) inside name (omega arith)
          (subst (λ (l : List ℕ). Spelled 0 (named.NumberBelow 1 1) (whole 1) l name) (sym f) (one_spelled name)))
          (order_next 3 named.Name [] r.0 [] name [] r.1 (order_over 3)))) refl))
          (order_over 11))))) refl,
      ap₂ (λ (x : ℕ) (y : Name). (x, replies.NoSuchObject y)) (id_said id i.0 i.2) r.2,
    )

pub unmatched_read : (id : ℕ) (matched : Name) (octets content left after inside name : List ℕ)
    → Opens 163 content octets [] → Reads 0 (named.NumberBelow 0 4294967295) number_in (Some id) content left
    → left ≡ 2 ∷ 1 ∷ 2 ∷ after → Opens 48 inside after [] → inside ≡ 2 ∷ 1 ∷ 1 ∷ name
    → Reads 3 named.Name name_of matched name [] → ReadsReply (id, replies.NoSuchObject matched) octets
unmatched_read id matched octets content left after inside name o i e b f r = (
  matched_read named.DapAnswer layouts.dap_errors id matched octets content left after inside name
      (λ w. refl) refl o i e b
      f r,
  matched_read named.DspAnswer layouts.dsp_errors id matched octets content left after inside name
      (λ w. refl) refl o i e b
      f r,
)
