-- Filters as text: what the definitions give at a bracket, at a sign, and at the end of members.
use Rattle.std.proofs.Common.{◌≡◌, ◌≢◌, MatchOption, Bor, ℕ, zero, suc, ◌+◌, ◌<◌, ◌≤◌, arith, get_or, length-append, false, ◌==◌, if◌then◌else◌, List, [], ◌∷◌, ◌++◌, ◌-◌, length, Option, None, Some, Result, Ok, Err, refl, sym, ◌∙◌, ap, inl, inr}
use Rattle.std.specs.Option.{option_map, option_copied}
use Rattle.std.proofs.lemmas.Bool.{eqb-true, eq-eqb}
use Rattle.x5_syntax.proofs.EscapeLemmas.{cases_bool}
use Rattle.x5_model.specs.Values.{Text}
use Rattle.x5_model.specs.Filters as model
use Rattle.x5_model_text.specs.Filters.{Read, ◌>>=◌, before_last, place, closed, item_read, members_read, inside_read, filter_read}
use Rattle.x5_match.specs.declared.filter.Filter.{Filter}
use Rattle.x5_match.specs.FilterView.{filter_view, filters_of}
use Rattle.x5_match.proofs.CopyLemmas.{filters_behind, behind_nothing, one_more_behind}

pub last_there : (c : ℕ) (front : List ℕ) → before_last c (front ++ c ∷ []) ≡ Some front
last_there c [] = ap (λ t. if t then Some [] else None) (eq-eqb c c refl)
last_there c (b ∷ []) = ap (option_map (λ front. b ∷ front)) (last_there c [])
last_there c (b ∷ d ∷ front) = ap (option_map (λ front. b ∷ front)) (last_there c (d ∷ front))

pub last_missing : (c : ℕ) (t : List ℕ) → ((front : List ℕ) → t ≡ front ++ c ∷ [] → ⊥) → before_last c t ≡ None
last_missing c [] h = refl
last_missing c (b ∷ []) h = elim (cases_bool (b == c)) [
  | inl same ↦ absurd (h [] (ap (λ x. x ∷ []) (eqb-true b c same)))
  | inr other ↦ ap (λ t. if t then Some [] else None) other
]
last_missing c (b ∷ d ∷ t) h = ap (option_map (λ front. b ∷ front)) (last_missing c (d ∷ t) (λ front e. h (b ∷ front) (ap (λ x. b ∷ x) e)))

pub sides_of_strip : (c : ℕ) (t : List ℕ) (r : Option (Bor (List ℕ))) → MatchOption r ((front : List ℕ) → t ≢ front ++ (c ∷ [])) (λ x. t ≡ x.now ++ (c ∷ [])) → option_copied r ≡ before_last c t
sides_of_strip c t None h = sym (last_missing c t h)
sides_of_strip c t (Some x) h = sym (ap (before_last c) h ∙ last_there c x.now)

-- what is read, behind filters before it
abbrev pub read_behind : List Filter → Result (model.Filters × Text) ℕ → Result (model.Filters × Text) ℕ
read_behind fs (Ok p) = Ok (filters_behind fs p.0, p.1)
read_behind fs (Err place) = Err place

pub not_closed : (all : ℕ) (f : model.Filter) (t : Text) → ((rest : Text) → t ≡ 41 ∷ rest → ⊥) → closed all f t ≡ Err (all - length t)
not_closed all f [] h = refl
not_closed all f (b ∷ t) h = elim (cases_bool (b == 41)) [
  | inl same ↦ absurd (h t (ap (λ x. x ∷ t) (eqb-true b 41 same)))
  | inr other ↦ ap (λ x. if x then Ok (f, t) else Err (place all (b ∷ t))) other
]

-- ---- a filter, at its first bracket

pub opened : (nesting all : ℕ) (t inside : Text) → 0 < nesting → t ≡ 40 ∷ inside → inside_read (filter_read (nesting - 1) all) all inside ≡ filter_read nesting all t
opened zero all t inside h e = absurd (omega arith)
opened (suc n) all t inside h e = let same : suc n - 1 ≡ n = omega arith in rw same (ap (filter_read (suc n) all) (sym e))

pub too_deep : (nesting all : ℕ) (t : Text) → nesting ≤ 0 → filter_read nesting all t ≡ Err (all - length t)
too_deep zero all t h = refl
too_deep (suc n) all t h = absurd (omega arith)

pub not_opened : (nesting all : ℕ) (t : Text) → ((rest : Text) → t ≡ 40 ∷ rest → ⊥) → filter_read nesting all t ≡ Err (all - length t)
not_opened zero all t h = refl
not_opened (suc n) all [] h = refl
not_opened (suc n) all (b ∷ t) h = elim (cases_bool (b == 40)) [
  | inl same ↦ absurd (h t (ap (λ x. x ∷ t) (eqb-true b 40 same)))
  | inr other ↦ ap (λ x. if x then inside_read (filter_read n all) all t else Err (place all (b ∷ t))) other
]

-- ---- behind the first bracket

pub and_read : (one : Text → Read model.Filter) (all : ℕ) (t inside : Text) (fs : model.Filters) (behind : Text) → t ≡ 38 ∷ inside → members_read one (length inside) inside ≡ Ok (fs, behind) → closed all (model.And fs) behind ≡ inside_read one all t
and_read one all t inside fs behind e h = sym (ap (inside_read one all) e ∙ ap (λ r. r >>= (λ p. closed all (model.And p.0) p.1)) h)

pub or_read : (one : Text → Read model.Filter) (all : ℕ) (t inside : Text) (fs : model.Filters) (behind : Text) → t ≡ 124 ∷ inside → members_read one (length inside) inside ≡ Ok (fs, behind) → closed all (model.Or fs) behind ≡ inside_read one all t
or_read one all t inside fs behind e h = sym (ap (inside_read one all) e ∙ ap (λ r. r >>= (λ p. closed all (model.Or p.0) p.1)) h)

is_other : (b c : ℕ) (t : Text) → ((rest : Text) → b ∷ t ≡ c ∷ rest → ⊥) → (b == c) ≡ false
is_other b c t h = elim (cases_bool (b == c)) [
  | inl same ↦ absurd (h t (ap (λ x. x ∷ t) (eqb-true b c same)))
  | inr other ↦ other
]

pub unsigned : (one : Text → Read model.Filter) (all : ℕ) (t : Text) → ((rest : Text) → t ≡ 38 ∷ rest → ⊥) → ((rest : Text) → t ≡ 124 ∷ rest → ⊥) → ((rest : Text) → t ≡ 33 ∷ rest → ⊥) → item_read all t ≡ inside_read one all t
unsigned one all [] a o n = refl
unsigned one all (b ∷ t) a o n = rw (is_other b 38 t a, is_other b 124 t o, is_other b 33 t n) refl

-- ---- members

starts_there : (t : Text) → get_or t 0 0 ≡ 40 → (rest : Text) × (t ≡ 40 ∷ rest)
starts_there [] h = absurd (omega (arith, h))
starts_there (b ∷ t) h = (t, ap (λ x. x ∷ t) h)

add_member : model.Filter → Read model.Filters → Read model.Filters
add_member f read = read >>= (λ fs. Ok (model.More f fs.0, fs.1))

one_member : (one : Text → Read model.Filter) (most : ℕ) (t rest behind : Text) (f : model.Filter) → t ≡ 40 ∷ rest → one t ≡ Ok (f, behind) → members_read one (suc most) t ≡ add_member f (members_read one most behind)
unfolding add_member
one_member one most t rest behind f e h =
    let there : one (40 ∷ rest) ≡ Ok (f, behind) = ap one (sym e) ∙ h in
    ap (members_read one (suc most)) e ∙ ap (λ r. r >>= (λ p. members_read one most p.1 >>= (λ fs. Ok (model.More p.0 fs.0, fs.1)))) there

behind_added : (fs : List Filter) (f : Filter) (read : Read model.Filters) → read_behind fs (add_member (filter_view f) read) ≡ read_behind (fs ++ f ∷ []) read
unfolding add_member
behind_added fs f (Ok p) = ap (λ (x : model.Filters). Ok (x, p.1)) (sym (one_more_behind fs f p.0))
behind_added fs f (Err place) = refl

-- one member more was read
pub member_read : (one : Text → Read model.Filter) (all : ℕ) (fs more : List Filter) (f : Filter) (t behind : Text) (whole : Read model.Filters)
    → more ≡ fs ++ f ∷ [] → length t + length fs ≤ all → get_or t 0 0 ≡ 40 → one t ≡ Ok (filter_view f, behind)
    → read_behind fs (members_read one (all - length fs) t) ≡ whole → read_behind more (members_read one (all - length more) behind) ≡ whole
member_read one all fs more f t behind whole e fits starts h left =
    let there = starts_there t starts in
    let longer : length more ≡ length fs + 1 = ap length e ∙ length-append fs (f ∷ []) in
    let some : 1 ≤ length t = omega (arith, ap length there.1) in
    let fewer : all - length fs ≡ suc (all - length more) = omega (arith, longer, fits, some) in
    ap (λ l. read_behind l (members_read one (all - length more) behind)) e
    ∙ sym (behind_added fs f (members_read one (all - length more) behind))
    ∙ ap (read_behind fs) (sym (one_member one (all - length more) t there.0 behind (filter_view f) there.1 h))
    ∙ ap (λ n. read_behind fs (members_read one n t)) (sym fewer)
    ∙ left

no_member : (one : Text → Read model.Filter) (most : ℕ) (t : Text) → (get_or t 0 0 ≡ 40 → ⊥) → members_read one most t ≡ Ok (model.Nil, t)
no_member one most [] h = refl
no_member one zero (b ∷ t) h = refl
no_member one (suc most) (b ∷ t) h = elim (cases_bool (b == 40)) [
  | inl same ↦ absurd (h (eqb-true b 40 same))
  | inr other ↦ rw other refl
]

pub members_ended : (one : Text → Read model.Filter) (most : ℕ) (fs : List Filter) (t : Text) (whole : Read model.Filters) → (get_or t 0 0 ≡ 40 → ⊥) → read_behind fs (members_read one most t) ≡ whole → whole ≡ Ok (filters_of fs, t)
members_ended one most fs t whole h left = sym left ∙ ap (read_behind fs) (no_member one most t h) ∙ ap (λ (x : model.Filters). Ok (x, t)) (behind_nothing fs)
