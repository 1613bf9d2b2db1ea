-- What is read as a filter is spelled so by the grammar.
use Rattle.std.proofs.Common.{◌≡◌, ℕ, zero, suc, ◌<◌, Bool, true, false, ◌==◌, if◌then◌else◌, nat_lt, [], ◌∷◌, ◌++◌, length, Result, Ok, Err, refl, sym, ◌∙◌, ap, ap₂, subst, inl, inr, ◌⊎◌, append_assoc, append-nil}
use Rattle.std.specs.List.{position_or_len, before_first, after_first}
use Rattle.std.proofs.lemmas.Bool.{eqb-true, ltb-true}
use Rattle.std.proofs.lemmas.List.Sums.{split_at_first, passes_at_first}
use Rattle.x5_model.specs.Values.{Text}
use Rattle.x5_model.specs.Filters.{Item, Filter, Is, And, Or, Not, Filters, Nil, More}
use Rattle.x5_model_text.specs.Filters.{Read, ◌>>=◌, closes, place, item_at, closed, item_read, members_read, inside_read, filter_read, ended, filter_of_text, deepest}
use Rattle.x5_model_text.specs.FilterGrammar.{Spells, SpellsAll}

either : (b : Bool) → (b ≡ true) ⊎ (b ≡ false)
either true = inl refl
either false = inr refl

abbrev value_or : {X : Type 0} → Result X ℕ → X → X
value_or (Ok x) d = x
value_or (Err place) d = d

same_value : {X : Type 0} (a b : X) → (let r : Result X ℕ = Ok a in r) ≡ Ok b → a ≡ b
same_value a b h = ap (λ r. value_or r a) h

-- what was read first, and what was read of it
after : {A B : Type 0} (r : Result A ℕ) (next : A → Result B ℕ) (y : B) → (r >>= next) ≡ Ok y → (x : A) × (r ≡ Ok x) × (next x ≡ Ok y)
after (Ok x) next y h = (x, refl, h)
after (Err place) next y h = absurd (cc)

-- what a reading gives stands at the front of the text
abbrev Sound : {X : Type 0} → (Text → Read X) → (X → Text → Type 0) → Type 0
Sound {X} one Spelled = (t : Text) (x : X) (rest : Text) → one t ≡ Ok (x, rest) → (u : Text) × Spelled x u × (t ≡ u ++ rest)

-- ---- what stands at the end of a filter

closed_read : (all : ℕ) (f g : Filter) (t rest : Text) → closed all f t ≡ Ok (g, rest) → (f ≡ g) × (t ≡ 41 ∷ rest)
closed_read all f g [] rest h = absurd (cc)
closed_read all f g (b ∷ t) rest h = elim (either (b == 41)) [
  | inl same ↦ (let e = same_value (f, t) (g, rest) (rw same at h) in (ap (λ p. p.0) e, ap₂ ◌∷◌ (eqb-true b 41 same) (ap (λ p. p.1) e)))
  | inr other ↦ (let no = rw other at h in absurd (cc))
]

ended_read : (all : ℕ) (f g : Filter) (t : Text) → ended all f t ≡ Ok g → (f ≡ g) × (t ≡ [])
ended_read all f g [] h = (same_value f g h, refl)
ended_read all f g (b ∷ t) h = absurd (cc)

-- ---- members

none_read : (Spelled : Filter → Text → Type 0) (t : Text) (fs : Filters) (rest : Text) → (let r : Read Filters = Ok (Nil, t) in r) ≡ Ok (fs, rest) → (u : Text) × SpellsAll Spelled fs u × (t ≡ u ++ rest)
none_read Spelled t fs rest h =
    let e = same_value (Nil, t) (fs, rest) h in
    ([], subst (λ x. SpellsAll Spelled x []) (ap (λ p. p.0) e) refl, ap (λ p. p.1) e)

abbrev with_first : Filter → Filters × Text → Read Filters
with_first f gs = Ok (More f gs.0, gs.1)

more_read : (one : Text → Read Filter) (Spelled : Filter → Text → Type 0) → Sound one Spelled → (most : ℕ) → Sound (members_read one most) (SpellsAll Spelled)
    → (t : Text) (fs : Filters) (rest : Text) → (one t >>= (λ f. members_read one most f.1 >>= (with_first f.0))) ≡ Ok (fs, rest) → (u : Text) × SpellsAll Spelled fs u × (t ≡ u ++ rest)
more_read one Spelled s most others t fs rest h =
    let first = after (one t) (λ f. members_read one most f.1 >>= (with_first f.0)) (fs, rest) h in
    let f = first.0 in
    let second = after (members_read one most f.1) (with_first f.0) (fs, rest) first.2 in
    let gs = second.0 in
    let e = same_value (More f.0 gs.0, gs.1) (fs, rest) second.2 in
    let front = s t f.0 f.1 first.1 in
    let back = others f.1 gs.0 gs.1 second.1 in (
      front.0 ++ back.0,
      subst (λ x. SpellsAll Spelled x (front.0 ++ back.0)) (ap (λ p. p.0) e) (front.0, back.0, front.1, back.1, refl),
      front.2 ∙ ap (λ r. front.0 ++ r) (back.2 ∙ ap (λ r. back.0 ++ r) (ap (λ p. p.1) e)) ∙ sym (append_assoc front.0 back.0 rest),
    )

members_sound : (one : Text → Read Filter) (Spelled : Filter → Text → Type 0) → Sound one Spelled → (most : ℕ) → Sound (members_read one most) (SpellsAll Spelled)
members_sound one Spelled s most [] fs rest h = none_read Spelled [] fs rest h
members_sound one Spelled s zero (b ∷ t) fs rest h = none_read Spelled (b ∷ t) fs rest h
members_sound one Spelled s (suc most) (b ∷ t) fs rest h = elim (either (b == 40)) [
  | inl same ↦ more_read one Spelled s most (members_sound one Spelled s most) (b ∷ t) fs rest (rw same at h)
  | inr other ↦ none_read Spelled (b ∷ t) fs rest (rw other at h)
]

-- ---- items

cut_at : (t : Text) → position_or_len closes t < length t → t ≡ before_first closes t ++ (41 ∷ after_first closes t)
cut_at t h = split_at_first closes t 0 h ∙ ap (λ b. before_first closes t ++ (b ∷ after_first closes t)) (eqb-true _ 41 (passes_at_first closes t 0 h))

abbrev item_end : ℕ → Text → Item → Bool → Read Filter
item_end all t item b = if b then Ok (Is item, after_first closes t) else Err (place all [])

item_ended : (n all : ℕ) (t : Text) (item : Item) (f : Filter) (rest : Text) → item_at (place all t) (before_first closes t) ≡ Ok item → (b : Bool) → nat_lt (position_or_len closes t) (length t) ≡ b
    → item_end all t item b ≡ Ok (f, rest) → (u : Text) × Spells (suc n) f (40 ∷ u) × (t ≡ u ++ rest)
item_ended n all t item f rest is true cut h =
    let e = same_value (Is item, after_first closes t) (f, rest) h in
    let word = before_first closes t in (
      word ++ 41 ∷ [],
      subst (λ x. Spells (suc n) x (40 ∷ word ++ 41 ∷ [])) (ap (λ p. p.0) e) (place all t, word, is, refl),
      cut_at t (ltb-true (position_or_len closes t) (length t) cut) ∙ ap (λ r. word ++ (41 ∷ r)) (ap (λ p. p.1) e) ∙ sym (append_assoc word (41 ∷ []) rest),
    )
item_ended n all t item f rest is false cut h = absurd (cc)

item_sound : (n all : ℕ) (t : Text) (f : Filter) (rest : Text) → item_read all t ≡ Ok (f, rest) → (u : Text) × Spells (suc n) f (40 ∷ u) × (t ≡ u ++ rest)
item_sound n all t f rest h =
    let first = after (item_at (place all t) (before_first closes t)) (λ item. item_end all t item (nat_lt (position_or_len closes t) (length t))) (f, rest) h in
    item_ended n all t first.0 f rest first.1 (nat_lt (position_or_len closes t) (length t)) refl first.2

-- ---- filters

members_closed : (n all sign : ℕ) (build : Filters → Filter) → ((fs : Filters) (u : Text) → SpellsAll (Spells n) fs u → Spells (suc n) (build fs) (40 ∷ sign ∷ u ++ 41 ∷ [])) → Sound (filter_read n all) (Spells n)
    → (t : Text) (f : Filter) (rest : Text) → (members_read (filter_read n all) (length t) t >>= (λ fs. closed all (build fs.0) fs.1)) ≡ Ok (f, rest) → (u : Text) × Spells (suc n) f (40 ∷ sign ∷ u) × (t ≡ u ++ rest)
members_closed n all sign build spelled s t f rest h =
    let first = after (members_read (filter_read n all) (length t) t) (λ fs. closed all (build fs.0) fs.1) (f, rest) h in
    let fs = first.0 in
    let end = closed_read all (build fs.0) f fs.1 rest first.2 in
    let inside = members_sound (filter_read n all) (Spells n) s (length t) t fs.0 fs.1 first.1 in (
      inside.0 ++ 41 ∷ [],
      subst (λ x. Spells (suc n) x (40 ∷ sign ∷ inside.0 ++ 41 ∷ [])) end.0 (spelled fs.0 inside.0 inside.1),
      inside.2 ∙ ap (λ r. inside.0 ++ r) end.1 ∙ sym (append_assoc inside.0 (41 ∷ []) rest),
    )

not_closed : (n all : ℕ) → Sound (filter_read n all) (Spells n) → (t : Text) (f : Filter) (rest : Text) → (filter_read n all t >>= (λ g. closed all (Not g.0) g.1)) ≡ Ok (f, rest) → (u : Text) × Spells (suc n) f (40 ∷ 33 ∷ u) × (t ≡ u ++ rest)
not_closed n all s t f rest h =
    let first = after (filter_read n all t) (λ g. closed all (Not g.0) g.1) (f, rest) h in
    let g = first.0 in
    let end = closed_read all (Not g.0) f g.1 rest first.2 in
    let inside = s t g.0 g.1 first.1 in (
      inside.0 ++ 41 ∷ [],
      subst (λ x. Spells (suc n) x (40 ∷ 33 ∷ inside.0 ++ 41 ∷ [])) end.0 (inside.0, inside.1, refl),
      inside.2 ∙ ap (λ r. inside.0 ++ r) end.1 ∙ sym (append_assoc inside.0 (41 ∷ []) rest),
    )

-- the sign in front of what is spelled
signed : (n b sign : ℕ) (t : Text) (f : Filter) (rest : Text) → b ≡ sign → (u : Text) × Spells (suc n) f (40 ∷ sign ∷ u) × (t ≡ u ++ rest) → (u : Text) × Spells (suc n) f (40 ∷ u) × (b ∷ t ≡ u ++ rest)
signed n b sign t f rest same h = (sign ∷ h.0, h.1, ap₂ ◌∷◌ same h.2)

inside_sound : (n all : ℕ) → Sound (filter_read n all) (Spells n) → (t : Text) (f : Filter) (rest : Text) → inside_read (filter_read n all) all t ≡ Ok (f, rest) → (u : Text) × Spells (suc n) f (40 ∷ u) × (t ≡ u ++ rest)
inside_sound n all s [] f rest h = item_sound n all [] f rest h
inside_sound n all s (b ∷ t) f rest h = elim (either (b == 38)) [
  | inl and ↦ signed n b 38 t f rest (eqb-true b 38 and) (members_closed n all 38 And (λ fs u x. (u, x, refl)) s t f rest (rw and at h))
  | inr a ↦ (elim (either (b == 124)) [
    | inl or ↦ signed n b 124 t f rest (eqb-true b 124 or) (members_closed n all 124 Or (λ fs u x. (u, x, refl)) s t f rest (rw (a, or) at h))
    | inr o ↦ (elim (either (b == 33)) [
      | inl negated ↦ signed n b 33 t f rest (eqb-true b 33 negated) (not_closed n all s t f rest (rw (a, o, negated) at h))
      | inr i ↦ item_sound n all (b ∷ t) f rest (rw (a, o, i) at h)
    ])
  ])
]

opened : (n : ℕ) (b : ℕ) (t : Text) (f : Filter) (rest : Text) → b ≡ 40 → (u : Text) × Spells (suc n) f (40 ∷ u) × (t ≡ u ++ rest) → (u : Text) × Spells (suc n) f u × (b ∷ t ≡ u ++ rest)
opened n b t f rest same h = (40 ∷ h.0, h.1, ap₂ ◌∷◌ same h.2)

filter_sound : (n all : ℕ) → Sound (filter_read n all) (Spells n)
filter_sound zero all t f rest h = absurd (cc)
filter_sound (suc n) all [] f rest h = absurd (cc)
filter_sound (suc n) all (b ∷ t) f rest h = elim (either (b == 40)) [
  | inl same ↦ opened n b t f rest (eqb-true b 40 same) (inside_sound n all (filter_sound n all) t f rest (rw same at h))
  | inr other ↦ (let no = rw other at h in absurd (cc))
]

whole : (t : Text) (f : Filter) (x : Filter × Text) → filter_read deepest (length t) t ≡ Ok x → ended (length t) x.0 x.1 ≡ Ok f → Spells deepest f t
whole t f x is end =
    let e = ended_read (length t) x.0 f x.1 end in
    let read = filter_sound deepest (length t) t x.0 x.1 is in
    let all : t ≡ read.0 = read.2 ∙ ap (λ r. read.0 ++ r) e.1 ∙ append-nil read.0 in
    subst (λ u. Spells deepest f u) (sym all) (subst (λ g. Spells deepest g read.0) e.0 read.1)

-- what is read is spelled so
pub read_is_spelled : (t : Text) (f : Filter) → filter_of_text t ≡ Ok f → Spells deepest f t
read_is_spelled t f h =
    let first = after (filter_read deepest (length t) t) (λ g. ended (length t) g.0 g.1) f h in
    whole t f first.0 first.1 first.2
