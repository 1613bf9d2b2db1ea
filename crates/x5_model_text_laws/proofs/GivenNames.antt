-- What a text gives as a name is fit to be printed and read again.
use Rattle.std.proofs.Common.{◌≡◌, ℕ, ◌+◌, ◌<◌, ◌≤◌, Bool, true, false, ◌&&◌, ◌||◌, ◌==◌, not, if◌then◌else◌, nat_lt, nat_le, List, [], ◌∷◌, ◌++◌, length, map, Option, None, Some, Result, Ok, Err, refl, sym, subst, ap, ap₂, ◌∙◌, arith}
use Rattle.std.proofs.lemmas.Bool.{and_parts, and_from, lt-ltb, le-leb, leb-false}
use Rattle.std.proofs.lemmas.List.{length_push, length-map}
use Rattle.std.proofs.lemmas.List.Folds.{list_all-append, list_all-map}
use Rattle.std.proofs.lemmas.List.Splits.{length-slice_split}
use Rattle.std.specs.List.{list_all, before_first, after_first, position_or_len, slice_split}
use Rattle.std.specs.Str.{is_utf8}
use Rattle.x5_model.specs.Values.{Text, TypeRef, Known, Unknown, NameValue}
use Rattle.x5_model.specs.Types.{kind_of, may_name}
use Rattle.x5_model.specs.Normal.{is_text_of_kind, is_pair, is_rdn, ascends, name_over}
use Rattle.x5_model_text.specs.TypeText.{type_of_text}
use Rattle.x5_model_text.specs.ValueText.{resolved}
use Rattle.x5_model_text.specs.NameText.{NameFault, BadSpelling, UnknownType, TooManyRdns, TooManyPairs, RepeatedType, ◌>>=◌, slash, plus, equals, spelled, naming, has_type, fits_text, fits_type, text_at, new_type, pair_cut, pair_at, pairs_at, sorted, rdn_at, rdns_at, behind_slash, written_name, name_of_text}
use Rattle.x5_model_text_laws.specs.Given.{are_utf8, IsGivenName}
use Rattle.x5_model_text_laws.proofs.Limits.{is_short, is_small, name_small, small_name}
use Rattle.x5_model_text_laws.proofs.Sorting.{Pairs, sorted_all, sorted_length, sorted_more}

-- ---- what an answer says of the steps before it

pub bound : {A B : Type 0} (r : Result A NameFault) (f : A → Result B NameFault) (y : B) → (r >>= f) ≡ Ok y → (x : A) × (r ≡ Ok x) × (f x ≡ Ok y)
bound (Ok x) f y h = (x, refl, h)
bound (Err e) f y h = cc

passed : {A : Type 0} (t : Bool) (x y : A) (e : NameFault) → (if t then Ok x else Err e) ≡ Ok y → (t ≡ true) × (x ≡ y)
passed true x y e h = (refl, cc)
passed false x y e h = cc

allowed : {A : Type 0} (t : Bool) (r : Result A NameFault) (y : A) (e : NameFault) → (if t then r else Err e) ≡ Ok y → r ≡ Ok y
allowed true r y e h = h
allowed false r y e h = cc

unblocked : {A : Type 0} (t : Bool) (r : Result A NameFault) (y : A) (e : NameFault) → (if t then Err e else r) ≡ Ok y → (t ≡ false) × (r ≡ Ok y)
unblocked true r y e h = cc
unblocked false r y e h = (refl, h)

abbrev of_fault : {A : Type 0} → A → Result A NameFault
of_fault x = Ok x

pub answer : {A : Type 0} {x y : A} → of_fault x ≡ of_fault y → x ≡ y
answer h = cc

-- ---- a pair

named : (o : Option TypeRef) (n : ℕ) → naming o ≡ Ok n → may_name n ≡ true
named None n h = cc
named (Some (Known m)) n h = let t = passed (may_name m) m n UnknownType h in ap may_name (sym t.1) ∙ t.0
named (Some (Unknown arcs)) n h = cc

record GivenPair (limited : Bool) (before : Pairs) (p : ℕ × Text) : Type 0 where
  pair : is_pair p ≡ true
  utf8 : is_utf8 p.1 ≡ true
  short : limited ≡ true → is_short p ≡ true
  new : has_type p.0 before ≡ false

is_limited : (limited t : Bool) → (not limited || t) ≡ true → limited ≡ true → t ≡ true
is_limited true t h e = h
is_limited false t h e = cc

pair_from : (limited : Bool) (before : Pairs) (number : ℕ) (text : Text) → may_name number ≡ true → has_type number before ≡ false → fits_type limited number text ≡ true → GivenPair limited before (number, text)
pair_from limited before number text may new fits =
    let outer = and_parts (is_utf8 text) (fits_text limited number text) fits in
    let inner = and_parts (is_text_of_kind (kind_of number) text) (not limited || nat_le (length text) 1024) outer.1 in
    record { pair = and_from (may_name number) _ may inner.0; utf8 = outer.0; short = is_limited limited (nat_le (length text) 1024) inner.1; new = new }

type_given : (before : Pairs) (word : Text) (n : ℕ) → new_type before word ≡ Ok n → (may_name n ≡ true) × (has_type n before ≡ false)
type_given before word n h =
    let number = bound (naming (type_of_text word)) (λ m. if has_type m before then Err RepeatedType else Ok m) n h in
    let fresh = unblocked (has_type number.0 before) (Ok number.0) n RepeatedType number.2 in
    let same : number.0 ≡ n = answer fresh.1 in
    (ap may_name (sym same) ∙ named (type_of_text word) number.0 number.1, ap (λ m. has_type m before) (sym same) ∙ fresh.0)

text_given : (limited : Bool) (number at : ℕ) (t u : Text) → text_at limited number at t ≡ Ok u → fits_type limited number u ≡ true
text_given limited number at t u h =
    let text = bound (spelled (resolved at t)) (λ v. if fits_type limited number v then Ok v else Err (BadSpelling at)) u h in
    let fits = passed (fits_type limited number text.0) text.0 u (BadSpelling at) text.2 in
    ap (fits_type limited number) (sym fits.1) ∙ fits.0

pair_given : (limited : Bool) (at : ℕ) (before : Pairs) (t : Text) (p : ℕ × Text) → pair_at limited at before t ≡ Ok p → GivenPair limited before p
pair_given limited at before t p h =
    let cut = position_or_len (λ b. b == equals) t in
    let word = before_first (λ b. b == equals) t in
    let rest = after_first (λ b. b == equals) t in
    let one : pair_cut limited at before t cut ≡ Ok p = allowed (nat_lt cut (length t)) (pair_cut limited at before t cut) p (BadSpelling (at + length t)) h in
    let type = bound (new_type before word) (λ n. text_at limited n (at + cut + 1) rest >>= λ v. Ok (n, v)) p one in
    let value = bound (text_at limited type.0 (at + cut + 1) rest) (λ v. Ok (type.0, v)) p type.2 in
    let number = type_given before word type.0 type.1 in
    let fits = text_given limited type.0 (at + cut + 1) rest value.0 value.1 in
    subst (GivenPair limited before) (answer value.2) (pair_from limited before type.0 value.0 number.0 number.1 fits)

-- ---- an RDN

record GivenRdn (limited : Bool) (r : Pairs) : Type 0 where
  pairs : list_all is_pair r ≡ true
  utf8 : are_utf8 r ≡ true
  order : ascends (sorted r) ≡ true
  small : limited ≡ true → is_small r ≡ true

push_all : {A : Type 0} (test : A → Bool) (xs : List A) (x : A) → list_all test xs ≡ true → test x ≡ true → list_all test (xs ++ x ∷ []) ≡ true
push_all test xs x all one = list_all-append test xs (x ∷ []) ∙ ap₂ (λ a b. a && (b && true)) all one

room : (limited : Bool) (most n : ℕ) → (limited && nat_le most n) ≡ false → limited ≡ true → n < most
room true most n h e = leb-false most n h
room false most n h e = cc

push_small : (before : Pairs) (p : ℕ × Text) → length before < 4 → is_small before ≡ true → is_short p ≡ true → is_small (before ++ p ∷ []) ≡ true
push_small before p few small short =
    let parts = and_parts (nat_le (length before) 4) (list_all is_short before) small in
    let count : length (before ++ p ∷ []) ≤ 4 = (let e = length_push before p in omega (arith, e)) in
    ap₂ ◌&&◌ (le-leb (length (before ++ p ∷ [])) 4 count) (push_all is_short before p parts.1 short)

pairs_given : (limited : Bool) (at : ℕ) (before : Pairs) (ts : List Text) (r : Pairs) → pairs_at limited at before ts ≡ Ok r → GivenRdn limited before → GivenRdn limited r × (length r ≡ length before + length ts)
pairs_given limited at before [] r h given = let same : before ≡ r = answer h in (subst (GivenRdn limited) same given, (let e = ap length same in omega (arith, e)))
pairs_given limited at before (t ∷ ts) r h given =
    let f = λ (q : ℕ × Text). pairs_at limited (at + length t + 1) (before ++ q ∷ []) ts in
    let open_ = unblocked (limited && nat_le 4 (length before)) (pair_at limited at before t >>= f) r TooManyPairs h in
    let step = bound (pair_at limited at before t) f r open_.1 in
    let p = pair_given limited at before t step.0 step.1 in
    let more : GivenRdn limited (before ++ step.0 ∷ []) = record {
      pairs = push_all is_pair before step.0 given.pairs p.pair;
      utf8 = push_all (λ q. is_utf8 q.1) before step.0 given.utf8 p.utf8;
      order = sorted_more before step.0 p.new given.order;
      small = λ e. push_small before step.0 (room limited 4 (length before) open_.0 e) (given.small e) (p.short e);
    } in
    let rest = pairs_given limited (at + length t + 1) (before ++ step.0 ∷ []) ts r step.2 more in
    let count : length r ≡ length before + length (t ∷ ts) = (let e = rest.1 in let l = length_push before step.0 in omega (arith, e, l)) in
    (rest.0, count)

none_given : (limited : Bool) → GivenRdn limited []
none_given limited = record { pairs = refl; utf8 = refl; order = refl; small = λ e. refl }

-- what the sorted RDN is
pub record SortedRdn (limited : Bool) (r : Pairs) : Type 0 where
  pub rdn : is_rdn (sorted r) ≡ true
  pub utf8 : are_utf8 (sorted r) ≡ true
  pub small : limited ≡ true → is_small (sorted r) ≡ true

pub sorted_small : (r : Pairs) → is_small r ≡ true → is_small (sorted r) ≡ true
sorted_small r h =
    let parts = and_parts (nat_le (length r) 4) (list_all is_short r) h in
    ap₂ ◌&&◌ (ap (λ n. nat_le n 4) (sorted_length r) ∙ parts.0) (sorted_all is_short r parts.1)

pub rdn_given : (limited : Bool) (at : ℕ) (t : Text) (r : Pairs) → rdn_at limited at t ≡ Ok r → SortedRdn limited r
rdn_given limited at t r h =
    let g = pairs_given limited at [] (slice_split (λ b. b == plus) t) r h (none_given limited) in
    let count = g.1 in
    let parts = length-slice_split (λ b. b == plus) t in
    let length_kept = sorted_length r in
    let some : 0 < length (sorted r) = omega (arith, count, parts, length_kept) in
    let given = g.0 in
    record {
      rdn = and_from _ _ (and_from (nat_lt 0 (length (sorted r))) (list_all is_pair (sorted r)) (lt-ltb 0 (length (sorted r)) some) (sorted_all is_pair r given.pairs)) given.order;
      utf8 = sorted_all (λ q. is_utf8 q.1) r given.utf8;
      small = λ e. sorted_small r (given.small e);
    }

-- ---- a name

pub record GivenWritten (limited : Bool) (n : NameValue) : Type 0 where
  pub rdns : list_all (λ r. is_rdn (sorted r)) n ≡ true
  pub utf8 : list_all (λ r. are_utf8 (sorted r)) n ≡ true
  pub small : limited ≡ true → list_all (λ r. is_small (sorted r)) n ≡ true
  pub few : limited ≡ true → length n ≤ 16

rdns_given : (limited : Bool) (at : ℕ) (before : NameValue) (ts : List Text) (n : NameValue) → rdns_at limited at before ts ≡ Ok n → GivenWritten limited before → GivenWritten limited n
rdns_given limited at before [] n h given = subst (GivenWritten limited) (answer h) given
rdns_given limited at before (t ∷ ts) n h given =
    let f = λ (q : Pairs). rdns_at limited (at + length t + 1) (before ++ q ∷ []) ts in
    let open_ = unblocked (limited && nat_le 16 (length before)) (rdn_at limited at t >>= f) n TooManyRdns h in
    let step = bound (rdn_at limited at t) f n open_.1 in
    let r = rdn_given limited at t step.0 step.1 in
    let more : GivenWritten limited (before ++ step.0 ∷ []) = record {
      rdns = push_all (λ q. is_rdn (sorted q)) before step.0 given.rdns r.rdn;
      utf8 = push_all (λ q. are_utf8 (sorted q)) before step.0 given.utf8 r.utf8;
      small = λ e. push_all (λ q. is_small (sorted q)) before step.0 (given.small e) (r.small e);
      few = λ e. (let lt = room limited 16 (length before) open_.0 e in let l = length_push before step.0 in omega (arith, lt, l));
    } in
    rdns_given limited (at + length t + 1) (before ++ step.0 ∷ []) ts n step.2 more

no_rdns : (limited : Bool) → GivenWritten limited []
no_rdns limited = record { rdns = refl; utf8 = refl; small = λ e. refl; few = λ e. omega arith }

behind_given : (limited : Bool) (t : Text) (n : NameValue) → behind_slash limited t ≡ Ok n → GivenWritten limited n
behind_given limited [] n h = subst (GivenWritten limited) (answer h) (no_rdns limited)
behind_given limited (b ∷ t) n h = rdns_given limited 1 [] (slice_split (λ c. c == slash) (b ∷ t)) n h (no_rdns limited)

pub written_given : (limited : Bool) (t : Text) (n : NameValue) → written_name limited t ≡ Ok n → GivenWritten limited n
written_given limited [] n h = cc
written_given limited (b ∷ t) n h = behind_given limited t n (allowed (b == slash) (behind_slash limited t) n (BadSpelling 0) h)

sorted_name : (n : NameValue) → list_all (λ r. is_rdn (sorted r)) n ≡ true → list_all (λ r. are_utf8 (sorted r)) n ≡ true → list_all (λ r. is_small (sorted r)) n ≡ true → length n ≤ 16 → IsGivenName (map sorted n)
sorted_name n rdns utf8 small few =
    let count = length-map n sorted in
    record {
      valid = list_all-map is_rdn sorted n ∙ rdns;
      short = small_name 0 (map sorted n) (omega (arith, count)) (list_all-map is_small sorted n ∙ small);
      utf8 = list_all-map are_utf8 sorted n ∙ utf8;
    }

pub name_given : (t : Text) (n : NameValue) → name_of_text t ≡ Ok n → IsGivenName n
name_given t n h =
    let step = bound (written_name true t) (λ m. Ok (map sorted m)) n h in
    let g = written_given true t step.0 step.1 in
    subst IsGivenName (answer step.2) (sorted_name step.0 g.rdns g.utf8 (g.small refl) (g.few refl))

all_sorted_small : (n : NameValue) → list_all is_small n ≡ true → list_all (λ r. is_small (sorted r)) n ≡ true
all_sorted_small [] h = refl
all_sorted_small (r ∷ n) h =
    let parts = and_parts (is_small r) (list_all is_small n) h in
    ap₂ ◌&&◌ (sorted_small r parts.0) (all_sorted_small n parts.1)

-- so is a name that was read without limits and passes none
pub short_given : (t : Text) (n : NameValue) → written_name false t ≡ Ok n → name_over 0 n ≡ None → IsGivenName (map sorted n)
short_given t n h short =
    let g = written_given false t n h in
    let s = name_small 0 n (omega arith) short in
    let c = s.count in
    sorted_name n g.rdns g.utf8 (all_sorted_small n s.rdns) (omega (arith, c))
