-- What values of the code stand for, where a search doesn't see it: the place of an agent's name, parts joined so far,
-- and
-- the requests that go with references.
use Rattle.std.proofs.Common.{◌≡◌, ℕ, zero, suc, ◌+◌, ◌<◌, Bool, true, false, not, ◌&&◌, ◌||◌, inl, inr, List, [], ◌∷◌, ◌++◌, length, map, get_or, append_assoc, refl, sym, ap, subst, ◌∙◌, arith, Some, cond, if◌then◌else◌}
use Rattle.std.specs.List.{list_any, list_all, filter, slice_get, position_or_len}
use Rattle.std.specs.Cmp.Lexicographic.{bytes_decides}
use Rattle.std.proofs.lemmas.Option.{slice_get_within, get_or_from_slice_get}
use Rattle.x5_model.specs.Words.{has, distinct, same_octets}
use Rattle.x5_model.proofs.Lists.{both_true, true_or_false}
use Rattle.x5_model.specs.Answers as model
use Rattle.x5_model.specs.Requests.{Request}
use Rattle.x5_model.specs.References as references
use Rattle.x5_model.specs.Values.{Name}
use Rattle.x5_model_run.specs.Chain.{probe_request, is_probe, part_request, asks_part, request_for}
use Rattle.x5_model_run.specs.Journal.{is_wide}
use Rattle.x5_model_theory.proofs.Tests.{false_true}
use Rattle.x5_model_serve.specs.Answering.{before_sub, before_info, joined, merged, with_unexplored}
use Rattle.x5_ops.specs.AgentNames.{agent_of}
use Rattle.x5_ops.specs.AnswerViews.{answer_view}
use Rattle.x5_ops.specs.ReferenceViews.{reference_view}
use Rattle.x5_ops.specs.declared.answers.Answer.{Answer}
use Rattle.x5_ops.specs.declared.answers.Answer.TheVariants.{Entry, Match, Listed, Found, Changed}
use Rattle.x5_ops.specs.declared.references.Reference.{Reference}
use Rattle.x5_trace.specs.Items.{IsNamed}
use Rattle.x5_merge.specs.Merging.{is_list, is_find, are_alike, merged_all}
use Rattle.x5_serve.specs.Steps.{whole_view, IsOfKind}

-- ---- an agent's name stands once among the names

same_itself : (x : List ℕ) → same_octets x x ≡ true
same_itself x = (bytes_decides x x).1 refl

not_has : (xs : List (List ℕ)) (y x : List ℕ) (i : ℕ) → has same_octets xs y ≡ false → i < length xs → get_or xs i x ≡ x
    → same_octets y x ≡ false
not_has [] y x i h l e = absurd (omega arith)
not_has (z ∷ xs) y x zero h l e = elim (true_or_false (same_octets y x)) [
  | inl t ↦
      let same : z ≡ y = e ∙ sym ((bytes_decides y x).0 t) in
      let first : same_octets z y ≡ false = left (same_octets z y) (has same_octets xs y) h in
      absurd (false_true (sym first ∙ (bytes_decides z y).1 same))
  | inr f ↦ f
]
  where
    left : (b c : Bool) → (b || c) ≡ false → b ≡ false
    left true c q = absurd (false_true (sym q))
    left false c q = refl
not_has (z ∷ xs) y x (suc i) h l e = not_has xs y x i (right (same_octets z y) (has same_octets xs y) h) (omega arith) e
  where
    right : (b c : Bool) → (b || c) ≡ false → c ≡ false
    right true c q = absurd (false_true (sym q))
    right false c q = q

place_is : (names : List (List ℕ)) (me : ℕ) (x : List ℕ) → distinct same_octets names ≡ true → me < length names
    → get_or names me x ≡ x → position_or_len (λ n. same_octets n x) names ≡ me
place_is [] me x d l e = absurd (omega arith)
place_is (y ∷ names) zero x d l e = rw e (by (same_octets x x) (same_itself x))
  where
    by : (b : Bool) → b ≡ true → cond (not b) (1 + position_or_len (λ n. same_octets n x) names) 0 ≡ 0
    by true q = refl
    by false q = absurd (false_true q)
place_is (y ∷ names) (suc me) x d l e =
    let b = both_true (not (has same_octets names y)) (distinct same_octets names) d in
    let apart : same_octets y x ≡ false = not_has names y x me (no (has same_octets names y) b.0) (omega arith) e in
    by (same_octets y x) apart (place_is names me x b.1 (omega arith) e)
  where
    no : (b : Bool) → not b ≡ true → b ≡ false
    no true q = absurd (false_true q)
    no false q = refl

    by : (b : Bool) → b ≡ false → position_or_len (λ n. same_octets n x) names ≡ me
        → cond (not b) (1 + position_or_len (λ n. same_octets n x) names) 0 ≡ suc me
    by true q p = absurd (false_true (sym q))
    by false q p =
        let one : 1 + position_or_len (λ n. same_octets n x) names ≡ suc (position_or_len (λ n. same_octets n x) names)
        =
        omega arith in
        one ∙ ap suc p

pub own_place : (names : List (List ℕ)) (me : ℕ) (x : List ℕ) → distinct same_octets names ≡ true → slice_get names me
    ≡ Some x
    → agent_of names x ≡ me
own_place names me x d e =
    place_is names me x d (slice_get_within names me x e) (get_or_from_slice_get names me x x e)

pub own_named : (names : List (List ℕ)) (me : ℕ) (x : List ℕ) → slice_get names me ≡ Some x → IsNamed names x
own_named names me x e =
    go names me (slice_get_within names me x e) (get_or_from_slice_get names me x x e)
  where
    go : (ns : List (List ℕ)) (i : ℕ) → i < length ns → get_or ns i x ≡ x → list_any (λ n. same_octets n x) ns ≡ true
    go [] i l q = absurd (omega arith)
    go (y ∷ ns) zero l q = rw q (or_first (same_octets x x) (list_any (λ n. same_octets n x) ns) (same_itself x))
      where
        or_first : (b c : Bool) → b ≡ true → (b || c) ≡ true
        or_first true c p = refl
        or_first false c p = absurd (false_true p)
    go (y ∷ ns) (suc i) l q =
        or_second (same_octets y x) (list_any (λ n. same_octets n x) ns) (go ns i (omega arith) q)
      where
        or_second : (b c : Bool) → c ≡ true → (b || c) ≡ true
        or_second true c p = refl
        or_second false c p = p

-- ---- requests

abbrev request_by : Request → Name → references.Reference → Bool → Bool → Request
request_by asked t r probe part =
    if probe then probe_request t else (if part then part_request false (is_wide r.kind) t asked else asked)

pub as_asked : (asked : Request) (t : Name) (r : references.Reference) → is_probe asked.body t ≡ false
    → asks_part r ≡ false
    → request_for false asked t r ≡ asked
as_asked asked t r e f = by (is_probe asked.body t) (asks_part r) e f
  where
    by : (b c : Bool) → b ≡ false → c ≡ false → request_by asked t r b c ≡ asked
    by true c p q = absurd (false_true (sym p))
    by false true p q = absurd (false_true (sym q))
    by false false p q = refl

pub as_part : (asked : Request) (t : Name) (r : references.Reference) → is_probe asked.body t ≡ false
    → asks_part r ≡ true
    → request_for false asked t r ≡ part_request false (is_wide r.kind) t asked
as_part asked t r e f = by (is_probe asked.body t) (asks_part r) e f
  where
    by : (b c : Bool) → b ≡ false → c ≡ true
        → request_by asked t r b c ≡ part_request false (is_wide r.kind) t asked
    by true c p q = absurd (false_true (sym p))
    by false false p q = absurd (false_true q)
    by false true p q = refl

-- ---- parts

abbrev is_kind : Bool → Answer → Bool
is_kind true a = is_list a
is_kind false a = is_find a

-- the parts are all of a list, or all of a search
all_or : (parts : List Answer) → are_alike parts ≡ true → (b : Bool) × (list_all (is_kind b) parts ≡ true)
all_or parts e = by (list_all is_list parts) (list_all is_find parts) refl refl e
  where
    by : (x y : Bool) → list_all is_list parts ≡ x → list_all is_find parts ≡ y → (x || y) ≡ true
        → (b : Bool) × (list_all (is_kind b) parts ≡ true)
    by true y p q h = (true, p)
    by false true p q h = (false, q)
    by false false p q h = absurd (false_true h)

pub alike_of : (b : Bool) (parts : List Answer) → list_all (is_kind b) parts ≡ true → are_alike parts ≡ true
alike_of true parts e = by (list_all is_list parts) (list_all is_find parts) e
  where
    by : (x y : Bool) → x ≡ true → (x || y) ≡ true
    by true y p = refl
    by false y p = absurd (false_true p)
alike_of false parts e = by (list_all is_list parts) (list_all is_find parts) e
  where
    by : (x y : Bool) → y ≡ true → (x || y) ≡ true
    by true y p = refl
    by false y p = p

all_both : (test : Answer → Bool) (xs ys : List Answer) → list_all test xs ≡ true → list_all test ys ≡ true
    → list_all test (xs ++ ys) ≡ true
all_both test [] ys e f = f
all_both test (x ∷ xs) ys e f =
    let b = both_true (test x) (list_all test xs) e in
    by (test x) b.0 (all_both test xs ys b.1 f)
  where
    by : (b : Bool) → b ≡ true → list_all test (xs ++ ys) ≡ true → (b && list_all test (xs ++ ys)) ≡ true
    by true p q = q
    by false p q = absurd (false_true p)

all_front : (test : Answer → Bool) (xs ys : List Answer) → list_all test (xs ++ ys) ≡ true → list_all test xs ≡ true
all_front test [] ys e = refl
all_front test (x ∷ xs) ys e =
    let b = both_true (test x) (list_all test (xs ++ ys)) e in
    by (test x) b.0 (all_front test xs ys b.1)
  where
    by : (b : Bool) → b ≡ true → list_all test xs ≡ true → (b && list_all test xs) ≡ true
    by true p q = q
    by false p q = absurd (false_true p)

all_back : (test : Answer → Bool) (xs ys : List Answer) → list_all test (xs ++ ys) ≡ true → list_all test ys ≡ true
all_back test [] ys e = e
all_back test (x ∷ xs) ys e = all_back test xs ys (both_true (test x) (list_all test (xs ++ ys)) e).1

one_of : (b : Bool) (a : Answer) → list_all (is_kind b) (a ∷ []) ≡ true → is_kind b a ≡ true
one_of b a e = (both_true (is_kind b a) true e).0

-- one more at the end
merged_more : (a : model.Answer) (xs : List model.Answer) (c : model.Answer) → merged_all a (xs ++ c ∷ []) ≡ merged
    (merged_all a xs) c
merged_more a [] c = refl
merged_more a (x ∷ xs) c = merged_more (merged a x) xs c

map_both : (names : List (List ℕ)) (xs ys : List Answer)
    → map (answer_view names) (xs ++ ys) ≡ map (answer_view names) xs ++ map (answer_view names) ys
map_both names [] ys = refl
map_both names (x ∷ xs) ys = ap (λ (zs : List model.Answer). answer_view names x ∷ zs) (map_both names xs ys)

pub whole_more : (names : List (List ℕ)) (parts : List Answer) (c : Answer) → 0 < length parts
    → whole_view names (parts ++ c ∷ []) ≡ merged (whole_view names parts) (answer_view names c)
whole_more names [] c h = absurd (omega arith)
whole_more names (p ∷ parts) c h =
    ap (merged_all (answer_view names p)) (map_both names parts (c ∷ []))
    ∙ merged_more (answer_view names p) (map (answer_view names) parts) (answer_view names c)

-- the whole is of the parts' kind
abbrev model_kind : Bool → model.Answer → Bool
model_kind b (model.EntryFound info source) = false
model_kind b (model.Matched equal copy source) = false
model_kind b (model.Listed subs sources o) = b
model_kind b (model.Found infos sources o) = not b
model_kind b model.Changed = false

view_kind : (b : Bool) (names : List (List ℕ)) (a : Answer) → is_kind b a ≡ true → model_kind b (answer_view names a)
    ≡ true
view_kind true names (Entry entry source) e = e
view_kind true names (Match matched copy source) e = e
view_kind true names (Listed subs sources outcome) e = e
view_kind true names (Found entries sources outcome) e = e
view_kind true names Changed e = e
view_kind false names (Entry entry source) e = e
view_kind false names (Match matched copy source) e = e
view_kind false names (Listed subs sources outcome) e = e
view_kind false names (Found entries sources outcome) e = e
view_kind false names Changed e = e

merged_kind : (b : Bool) (x y : model.Answer) → model_kind b x ≡ true → model_kind b (merged x y) ≡ true
merged_kind b (model.EntryFound info source) y e = e
merged_kind b (model.Matched equal copy source) y e = e
merged_kind b model.Changed y e = e
merged_kind b (model.Listed subs sources o) (model.EntryFound info source) e = e
merged_kind b (model.Listed subs sources o) (model.Matched equal copy source) e = e
merged_kind b (model.Listed subs sources o) (model.Listed more others q) e = e
merged_kind b (model.Listed subs sources o) (model.Found more others q) e = e
merged_kind b (model.Listed subs sources o) model.Changed e = e
merged_kind b (model.Found subs sources o) (model.EntryFound info source) e = e
merged_kind b (model.Found subs sources o) (model.Matched equal copy source) e = e
merged_kind b (model.Found subs sources o) (model.Listed more others q) e = e
merged_kind b (model.Found subs sources o) (model.Found more others q) e = e
merged_kind b (model.Found subs sources o) model.Changed e = e

all_kind : (b : Bool) (a : model.Answer) (xs : List model.Answer) → model_kind b a ≡ true → model_kind b
    (merged_all a xs) ≡ true
all_kind b a [] e = e
all_kind b a (x ∷ xs) e = all_kind b (merged a x) xs (merged_kind b a x e)

whole_kind : (b : Bool) (names : List (List ℕ)) (parts : List Answer) → 0 < length parts → list_all (is_kind b) parts
    ≡ true
    → model_kind b (whole_view names parts) ≡ true
whole_kind b names [] h e = absurd (omega arith)
whole_kind b names (p ∷ parts) h e =
    all_kind b (answer_view names p) (map (answer_view names) parts)
    (view_kind b names p (both_true (is_kind b p) (list_all (is_kind b) parts) e).0)

-- what stays unexplored may as well be added to the last part
into_last : (b : Bool) (rs : List references.Reference) (x y : model.Answer) → model_kind b x ≡ true → model_kind b y
    ≡ true
    → merged x (with_unexplored rs y) ≡ with_unexplored rs (merged x y)
into_last b rs (model.Listed subs sources o) (model.Listed more others q) e f =
    ap (λ (us : List references.Reference). model.Listed (joined before_sub subs more) (sources ++ others)
    (record { limited = o.limited || q.limited; unexplored = us }))
    (sym (append_assoc o.unexplored q.unexplored rs))
into_last b rs (model.Found infos sources o) (model.Found more others q) e f =
    ap (λ (us : List references.Reference). model.Found (joined before_info infos more) (sources ++ others)
    (record { limited = o.limited || q.limited; unexplored = us }))
    (sym (append_assoc o.unexplored q.unexplored rs))
into_last true rs (model.Listed subs sources o) (model.Found more others q) e f = absurd (false_true f)
into_last false rs (model.Listed subs sources o) (model.Found more others q) e f = absurd (false_true e)
into_last true rs (model.Found subs sources o) (model.Listed more others q) e f = absurd (false_true e)
into_last false rs (model.Found subs sources o) (model.Listed more others q) e f = absurd (false_true f)
into_last b rs (model.EntryFound info source) y e f = absurd (false_true e)
into_last b rs (model.Matched equal copy source) y e f = absurd (false_true e)
into_last b rs model.Changed y e f = absurd (false_true e)
into_last b rs (model.Listed subs sources o) (model.EntryFound info source) e f = absurd (false_true f)
into_last b rs (model.Listed subs sources o) (model.Matched equal copy source) e f = absurd (false_true f)
into_last b rs (model.Listed subs sources o) model.Changed e f = absurd (false_true f)
into_last b rs (model.Found subs sources o) (model.EntryFound info source) e f = absurd (false_true f)
into_last b rs (model.Found subs sources o) (model.Matched equal copy source) e f = absurd (false_true f)
into_last b rs (model.Found subs sources o) model.Changed e f = absurd (false_true f)

pub left_in_last : (names : List (List ℕ)) (front : List Answer) (a c : Answer) (rs : List references.Reference)
    → are_alike (front ++ a ∷ []) ≡ true → answer_view names c ≡ with_unexplored rs (answer_view names a)
    → whole_view names (front ++ c ∷ []) ≡ with_unexplored rs (whole_view names (front ++ a ∷ []))
left_in_last names [] a c rs e f = f
left_in_last names (p ∷ front) a c rs e f =
    let k = all_or ((p ∷ front) ++ a ∷ []) e in
    let whole : model_kind k.0 (whole_view names (p ∷ front)) ≡ true =
    whole_kind k.0 names (p ∷ front) (omega arith) (all_front (is_kind k.0) (p ∷ front) (a ∷ []) k.1) in
    let last : model_kind k.0 (answer_view names a) ≡ true =
    view_kind k.0 names a (one_of k.0 a (all_back (is_kind k.0) (p ∷ front) (a ∷ []) k.1)) in
    whole_more names (p ∷ front) c (omega arith)
    ∙ ap (merged (whole_view names (p ∷ front))) f
    ∙ into_last k.0 rs (whole_view names (p ∷ front)) (answer_view names a) whole last
    ∙ ap (with_unexplored rs) (sym (whole_more names (p ∷ front) a (omega arith)))

pub alike_again : (front : List Answer) (a c : Answer) → are_alike (front ++ a ∷ []) ≡ true
    → is_list c ≡ is_list a → is_find c ≡ is_find a → are_alike (front ++ c ∷ []) ≡ true
alike_again front a c e f g =
    let k = all_or (front ++ a ∷ []) e in
    let last = one_of k.0 a (all_back (is_kind k.0) front (a ∷ []) k.1) in
    alike_of k.0 (front ++ c ∷ [])
    (all_both (is_kind k.0) front (c ∷ []) (all_front (is_kind k.0) front (a ∷ []) k.1) (one k.0 last))
  where
    one : (b : Bool) → is_kind b a ≡ true → list_all (is_kind b) (c ∷ []) ≡ true
    one true p = only (is_list c) (f ∙ p)
      where
        only : (x : Bool) → x ≡ true → (x && true) ≡ true
        only true q = refl
        only false q = absurd (false_true q)
    one false p = only (is_find c) (g ∙ p)
      where
        only : (x : Bool) → x ≡ true → (x && true) ≡ true
        only true q = refl
        only false q = absurd (false_true q)

-- what is of another kind adds nothing
other_kind : (b : Bool) (x y : model.Answer) → model_kind b x ≡ true → model_kind b y ≡ false → merged x y ≡ x
other_kind b (model.EntryFound info source) y e f = refl
other_kind b (model.Matched equal copy source) y e f = refl
other_kind b model.Changed y e f = refl
other_kind b (model.Listed subs sources o) (model.EntryFound info source) e f = refl
other_kind b (model.Listed subs sources o) (model.Matched equal copy source) e f = refl
other_kind b (model.Listed subs sources o) (model.Listed more others q) e f = absurd (false_true (sym f ∙ e))
other_kind b (model.Listed subs sources o) (model.Found more others q) e f = refl
other_kind b (model.Listed subs sources o) model.Changed e f = refl
other_kind b (model.Found subs sources o) (model.EntryFound info source) e f = refl
other_kind b (model.Found subs sources o) (model.Matched equal copy source) e f = refl
other_kind b (model.Found subs sources o) (model.Listed more others q) e f = refl
other_kind b (model.Found subs sources o) (model.Found more others q) e f = absurd (false_true (sym f ∙ e))
other_kind b (model.Found subs sources o) model.Changed e f = refl

view_other : (b : Bool) (names : List (List ℕ)) (a : Answer) → is_kind b a ≡ false → model_kind b (answer_view names a)
    ≡ false
view_other true names (Entry entry source) e = e
view_other true names (Match matched copy source) e = e
view_other true names (Listed subs sources outcome) e = e
view_other true names (Found entries sources outcome) e = e
view_other true names Changed e = e
view_other false names (Entry entry source) e = e
view_other false names (Match matched copy source) e = e
view_other false names (Listed subs sources outcome) e = e
view_other false names (Found entries sources outcome) e = e
view_other false names Changed e = e

kind_of_first : (b : Bool) (p : Answer) → is_kind b p ≡ true → is_list p ≡ b
kind_of_first true p e = e
kind_of_first false (Listed subs sources outcome) e = absurd (false_true e)
kind_of_first false (Entry entry source) e = refl
kind_of_first false (Match matched copy source) e = refl
kind_of_first false (Found entries sources outcome) e = refl
kind_of_first false Changed e = refl

by_kind : (b : Bool) (parts : List Answer) (a : Answer) → 0 < length parts → list_all (is_kind b) parts ≡ true
    → (x : Bool) → is_kind b a ≡ x → IsOfKind parts a x
by_kind b parts a h all true f =
    alike_of b (parts ++ a ∷ []) (all_both (is_kind b) parts (a ∷ []) all (one (is_kind b a) f))
  where
    one : (x : Bool) → x ≡ true → (x && true) ≡ true
    one true z = refl
    one false z = absurd (false_true z)
by_kind b parts a h all false f =
    λ names. other_kind b (whole_view names parts) (answer_view names a) (whole_kind b names parts h all)
    (view_other b names a f)

-- the parts' kind is the first one's
pub of_kind : (parts : List Answer) (p a : Answer) (b : Bool) → are_alike parts ≡ true → 0 < length parts
    → p ≡ get_or parts 0 p → is_list p ≡ b → IsOfKind parts a (is_kind b a)
of_kind [] p a b e h g l = absurd (omega arith)
of_kind (q ∷ parts) p a b e h g l =
    let k = all_or (q ∷ parts) e in
    let first : is_kind k.0 p ≡ true = ap (is_kind k.0) g ∙ (both_true (is_kind k.0 q) (list_all (is_kind k.0) parts)
    k.1).0 in
    let same : k.0 ≡ b = sym (kind_of_first k.0 p first) ∙ l in
    subst (λ (x : Bool). IsOfKind (q ∷ parts) a (is_kind x a)) same
    (by_kind k.0 (q ∷ parts) a h k.1 (is_kind k.0 a) refl)

-- ---- references that somebody tried, or nobody

pub untried_view : (names : List (List ℕ)) (rs : List Reference)
    → map (reference_view names) (filter (λ r. not r.tried) rs) ≡ filter (λ r. not r.tried) (map (reference_view names)
    rs)
untried_view names [] = refl
untried_view names (r ∷ rs) = by r.tried (untried_view names rs)
  where
    by : (b : Bool)
        → map (reference_view names) (filter (λ x. not x.tried) rs) ≡ filter (λ x. not x.tried)
        (map (reference_view names) rs)
        → map (reference_view names) (cond (not b) (r ∷ filter (λ x. not x.tried) rs) (filter (λ x. not x.tried) rs))
        ≡ cond (not b) (reference_view names r ∷ filter (λ x. not x.tried) (map (reference_view names) rs))
        (filter (λ x. not x.tried) (map (reference_view names) rs))
    by true e = e
    by false e = ap (λ (zs : List references.Reference). reference_view names r ∷ zs) e

pub tried_view : (names : List (List ℕ)) (rs : List Reference)
    → map (reference_view names) (filter (λ r. r.tried) rs) ≡ filter (λ r. r.tried) (map (reference_view names) rs)
tried_view names [] = refl
tried_view names (r ∷ rs) = by r.tried (tried_view names rs)
  where
    by : (b : Bool) → map (reference_view names) (filter (λ x. x.tried) rs) ≡ filter (λ x. x.tried)
        (map (reference_view names) rs)
        → map (reference_view names) (cond b (r ∷ filter (λ x. x.tried) rs) (filter (λ x. x.tried) rs))
        ≡ cond b (reference_view names r ∷ filter (λ x. x.tried) (map (reference_view names) rs))
        (filter (λ x. x.tried) (map (reference_view names) rs))
    by true e = ap (λ (zs : List references.Reference). reference_view names r ∷ zs) e
    by false e = e
