-- What stays within the limits of messages.
use Rattle.std.proofs.Common.{◌≡◌, ℕ, zero, suc, ◌+◌, ◌≤◌, Bool, true, false, not, ◌&&◌, ◌||◌, List, [], ◌∷◌, ◌++◌, length, map, take, inl, inr, refl, sym, ap, ap₂, subst, ◌∙◌, arith, length-append}
use Rattle.std.specs.Prelude.{Result, Ok, Err, ◌==◌, if◌then◌else◌}
use Rattle.std.proofs.lemmas.List.{length-map, length-take}
use Rattle.std.specs.List.{list_all}
use Rattle.std.specs.declared.option.Option.{Option}
use Rattle.std.specs.declared.option.Option.TheVariants.{None, Some}
use Rattle.x5_model.specs.Words.{has, distinct}
use Rattle.x5_model.specs.Keys.{Key, same_key}
use Rattle.x5_model.specs.Members.{In, here, there}
use Rattle.x5_model.specs.Values.{Text, NameValue, Value, TextValue, OctetsValue, OidValue, NameOf, Rdn, Name, key_of, written, written_pair}
use Rattle.x5_model.specs.Types.{Kind, TextKind, PrintableKind, CountryKind, NumericKind, TelephoneKind, OidKind, NameKind, OctetsKind}
use Rattle.x5_model.specs.Normal.{most_octets, most_rdns, is_of_kind, is_part_of_kind, is_enough, is_oid, is_rdn, is_name, first_found, over, rdn_over, name_over, value_over, oid_content_len, normal_form, ValueFault, WrongSyntax, within, normal_of, stored, stored_rdn, written_rdn}
use Rattle.x5_model.specs.References.{Progress, Start, Next, Done}
use Rattle.x5_model.proofs.KeyLaws.{key_decides}
use Rattle.x5_model.proofs.Lists.{both_true, and_true, not_true, of_all, in_either, in_first, in_map}
use Rattle.x5_model_run.specs.Journal.{same_progress}
use Rattle.x5_model_typed.specs.Nodes.{same_bit}
use Rattle.x5_model_typed_laws.proofs.Sorting.{octets_turned}
use Rattle.x5_model_messages.specs.Replies.{TraceItem}
use Rattle.x5_model_fitting.specs.Names.{Each, are_utf8, WrittenNameWithin, RdnWithin}
use Rattle.x5_model_fitting.specs.Terms.{ValueWithin}
use Rattle.x5_model_fitting.specs.Chained.{ItemWithin, same_item}
use Rattle.x5_model_fitting.specs.Keeping.{StoredNameIsWithin, BeginningIsWithin, LongerNameIsWithin, LongerTraceIsWithin, has_utf8, NormalIsWithin}
use Rattle.x5_model_fitting.proofs.Names.{none_first, not_over, enough}

-- ---- names

-- so many RDNs, and each within its own limits
name_limits : (before : ℕ) (n : NameValue) → before ≤ most_rdns → name_over before n ≡ None
    → (before + length n ≤ most_rdns) × Each (λ (r : List (ℕ × Text)). rdn_over 0 r ≡ None) n
name_limits before [] l e = (omega arith, λ r i. elim i [ ])
name_limits before (r ∷ n) l e =
    let w = none_first (over most_rdns (before + 1)) (first_found (rdn_over 0 r) (name_over (before + 1) n)) e in
    let v = none_first (rdn_over 0 r) (name_over (before + 1) n) w.1 in
    let k = name_limits (before + 1) n (not_over most_rdns (before + 1) w.0) v.1 in
    let few : before + 1 + length n ≤ most_rdns = k.0 in
    (omega (arith, few), by v.0 k.1)
  where
    by : rdn_over 0 r ≡ None → Each (λ (x : List (ℕ × Text)). rdn_over 0 x ≡ None) n → (s : List (ℕ × Text))
        → In s (r ∷ n) → rdn_over 0 s ≡ None
    by one rest s here = one
    by one rest s (there i) = rest s i

written_name_within : (n : NameValue) → is_name n ≡ true → name_over 0 n ≡ None → list_all are_utf8 n ≡ true
    → WrittenNameWithin n
written_name_within n valid short utf8 =
    let l = name_limits 0 n (omega arith) short in
    let few : 0 + length n ≤ most_rdns = l.0 in
    record {
      few = omega (arith, few);
      rdns = λ r i. record { valid = of_all is_rdn r n valid i; short = l.1 r i; utf8 = of_all are_utf8 r n utf8 i };
    }

-- each RDN has the normal forms of its texts, where the name has
normals_apart : (n : Name) → n ≡ stored (written n) → Each (λ (r : Rdn). r ≡ stored_rdn (written_rdn r)) n
normals_apart [] e r i = elim i [ ]
normals_apart (s ∷ n) e r i =
    let first : s ≡ stored_rdn (written_rdn s) = cc in
    let rest : n ≡ stored (written n) = cc in
    by first (normals_apart n rest) r i
  where
    by : s ≡ stored_rdn (written_rdn s) → Each (λ (x : Rdn). x ≡ stored_rdn (written_rdn x)) n → (x : Rdn)
        → In x (s ∷ n) → x ≡ stored_rdn (written_rdn x)
    by one rest x here = one
    by one rest x (there j) = rest x j

pub stored_name_within : StoredNameIsWithin
stored_name_within n s utf8 =
    let h = written_name_within (written n) s.valid s.short utf8 in
    record {
      few = omega (arith, h.few, length-map n (map written_pair));
      rdns = λ r i. record {
        is_written = h.rdns (written_rdn r) (in_map (map written_pair) r n i);
        normal = normals_apart n s.normal r i;
      };
    }

in_beginning : {X : Type 0} (k : ℕ) (x : X) (xs : List X) → In x (take k xs) → In x xs
in_beginning zero x xs i = elim i [ ]
in_beginning (suc k) x [] i = elim i [ ]
in_beginning (suc k) x (y ∷ xs) here = here
in_beginning (suc k) x (y ∷ xs) (there i) = there (in_beginning k x xs i)

pub beginning_within : BeginningIsWithin
beginning_within k n h = record {
  few = omega (arith, h.few, length-take k n);
  rdns = λ r i. h.rdns r (in_beginning k r n i);
}

one_more : {X : Type 0} (P : X → Type 0) (xs : List X) (y : X) → Each P xs → P y → Each P (xs ++ y ∷ [])
one_more P xs y h p x i = elim (in_either x xs (y ∷ []) i) [
  | inl j ↦ h x j
  | inr j ↦ elim (in_first x y [] j) [ inl e ↦ subst P (sym e) p | inr k ↦ elim k [ ] ]
]

pub longer_name_within : LongerNameIsWithin
longer_name_within n r h k less = record {
  few = omega (arith, less, length-append n (r ∷ []));
  rdns = one_more RdnWithin n r h.rdns k;
}

-- ---- trace information

or_false : (a b : Bool) → (a || b) ≡ false → (a ≡ false) × (b ≡ false)
or_false true b e = absurd (cc e)
or_false false b e = (refl, e)

module _ {X : Type 0} (same : X → X → Bool) where
  has_behind : (xs : List X) (x y : X) → has same xs x ≡ false → same y x ≡ false → has same (xs ++ y ∷ []) x ≡ false
  has_behind [] x y h e = ap (λ (b : Bool). b || false) e
  has_behind (z ∷ xs) x y h e =
      let w = or_false (same z x) (has same xs x) h in
      ap₂ (λ (a b : Bool). a || b) w.0 (has_behind xs x y w.1 e)

  distinct_behind : ((x y : X) → same x y ≡ same y x) → (xs : List X) (y : X) → distinct same xs ≡ true
      → has same xs y ≡ false
      → distinct same (xs ++ y ∷ []) ≡ true
  distinct_behind turned [] y h e = refl
  distinct_behind turned (x ∷ xs) y h e =
      let w = both_true (not (has same xs x)) (distinct same xs) h in
      let v = or_false (same x y) (has same xs y) e in
      and_true (not (has same (xs ++ y ∷ []) x)) (distinct same (xs ++ y ∷ []))
      (ap not (has_behind xs x y (not_true (has same xs x) w.0) (turned y x ∙ v.0)))
      (distinct_behind turned xs y w.1 v.1)

by_both : (b c : Bool) → (b ≡ true → c ≡ true) → (c ≡ true → b ≡ true) → b ≡ c
by_both true c f g = sym (f refl)
by_both false true f g = absurd (cc (g refl))
by_both false false f g = refl

keys_turned : (a b : Key) → same_key a b ≡ same_key b a
keys_turned a b =
    by_both (same_key a b) (same_key b a) (λ e. (key_decides b a).1 (sym ((key_decides a b).0 e)))
    (λ e. (key_decides a b).1 (sym ((key_decides b a).0 e)))

numbers_turned : (a b : ℕ) → (a == b) ≡ (b == a)
numbers_turned a b = grind arith

progress_turned : (p q : Progress) → same_progress p q ≡ same_progress q p
progress_turned Start Start = refl
progress_turned Start (Next k) = refl
progress_turned Start Done = refl
progress_turned (Next k) Start = refl
progress_turned (Next k) (Next j) = numbers_turned k j
progress_turned (Next k) Done = refl
progress_turned Done Start = refl
progress_turned Done (Next j) = refl
progress_turned Done Done = refl

marks_turned : (a b : Bool) → same_bit a b ≡ same_bit b a
marks_turned true true = refl
marks_turned true false = refl
marks_turned false true = refl
marks_turned false false = refl

items_turned : (i j : TraceItem) → same_item i j ≡ same_item j i
items_turned i j =
    ap₂ (λ (a b : Bool). a && b)
    (ap₂ (λ (a b : Bool). a && b)
    (ap₂ (λ (a b : Bool). a && b) (octets_turned i.agent j.agent) (keys_turned (key_of i.target) (key_of j.target)))
    (progress_turned i.progress j.progress))
    (marks_turned i.wide j.wide)

pub longer_trace_within : LongerTraceIsWithin
longer_trace_within trace i h k less new = record {
  few = omega (arith, less, length-append trace (i ∷ []));
  items = one_more ItemWithin trace i h.items k;
  once = distinct_behind same_item items_turned trace i h.once new;
}

-- ---- values with a normal form

-- the value is of the kind, and passes no limit
record HasNormal (k : Kind) (v : Value) : Type 0 where
  kind : is_of_kind k v ≡ true
  short : value_over v ≡ None

has_normal : (k : Kind) (v : Value) (normal : List ℕ) → normal_of k v ≡ Ok normal → HasNormal k v
has_normal k v normal h = by (is_of_kind k v) refl h
  where
    passes : (o : Option ℕ) → within o (normal_form k v) ≡ Ok normal → o ≡ None
    passes None e = refl
    passes (Some most) e = absurd (cc e)

    by : (b : Bool) → is_of_kind k v ≡ b
        → (let r : Result (List ℕ) ValueFault = if b then within (value_over v) (normal_form k v) else Err WrongSyntax
        in r) ≡ Ok normal
        → HasNormal k v
    by true e g = record { kind = e; short = passes (value_over v) g }
    by false e g = absurd (cc g)

kind_oid : (k : Kind) (arcs : List ℕ) → is_of_kind k (OidValue arcs) ≡ true → is_oid arcs ≡ true
kind_oid OidKind arcs h = h
kind_oid TextKind arcs h = absurd (cc h)
kind_oid PrintableKind arcs h = absurd (cc h)
kind_oid CountryKind arcs h = absurd (cc h)
kind_oid NumericKind arcs h = absurd (cc h)
kind_oid TelephoneKind arcs h = absurd (cc h)
kind_oid NameKind arcs h = absurd (cc h)
kind_oid OctetsKind arcs h = absurd (cc h)

kind_name : (k : Kind) (n : NameValue) → is_of_kind k (NameOf n) ≡ true → is_name n ≡ true
kind_name NameKind n h = h
kind_name TextKind n h = absurd (cc h)
kind_name PrintableKind n h = absurd (cc h)
kind_name CountryKind n h = absurd (cc h)
kind_name NumericKind n h = absurd (cc h)
kind_name TelephoneKind n h = absurd (cc h)
kind_name OidKind n h = absurd (cc h)
kind_name OctetsKind n h = absurd (cc h)

value_by : (k : Kind) (v : Value) → HasNormal k v → has_utf8 v ≡ true → ValueWithin v
value_by k (TextValue t) h utf8 =
    let w = both_true (is_part_of_kind k t) (is_enough k t) h.kind in
    record { utf8 = utf8; some = enough k t w.1; short = not_over most_octets (length t) h.short }
value_by k (OctetsValue octets) h utf8 = not_over most_octets (length octets) h.short
value_by k (OidValue arcs) h utf8 = (kind_oid k arcs h.kind, not_over most_octets (oid_content_len arcs) h.short)
value_by k (NameOf n) h utf8 = written_name_within n (kind_name k n h.kind) h.short utf8

pub normal_within : NormalIsWithin
normal_within k v normal h utf8 = value_by k v (has_normal k v normal h) utf8
