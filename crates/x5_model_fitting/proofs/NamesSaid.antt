-- What octets say of RDNs and names is within the limits: each pair is of a type that may name, and the pairs stand in
-- the order of their types, each once.
use Rattle.std.proofs.Common.{◌≡◌, ℕ, ◌+◌, ◌<◌, ◌≤◌, Bool, true, false, not, cond, ◌&&◌, ◌||◌, ◌==◌, nat_lt, nat_le, List, [], ◌∷◌, length, map, refl, sym, ap, subst, ◌∙◌, arith}
use Rattle.std.specs.Prelude.{if◌then◌else◌}
use Rattle.std.proofs.lemmas.Bool.{ltb-true, le-leb, leb-true}
use Rattle.std.proofs.lemmas.List.{length-map}
use Rattle.std.specs.List.{list_all}
use Rattle.std.specs.Str.{is_utf8}
use Rattle.std.specs.declared.option.Option.{Option}
use Rattle.std.specs.declared.option.Option.TheVariants.{None, Some}
use Rattle.x5_model.specs.Words.{in_option, has, distinct, insert_sorted, sorted}
use Rattle.x5_model.specs.Members.{here, there}
use Rattle.x5_model.specs.Values.{Text, NameValue, Value, OctetsValue, OidValue, NameOf, Rdn, Name}
use Rattle.x5_model.specs.Types.{Kind, TextKind, PrintableKind, CountryKind, NumericKind, TelephoneKind, OidKind, NameKind, OctetsKind, Row, table, row_of, in_row, may_name, kind_of}
use Rattle.x5_model.specs.Normal.{most_octets, most_pairs, most_rdns, is_of_kind, is_pair, ascends_from, over, rdn_over, stored, stored_rdn}
use Rattle.x5_model.proofs.Lists.{both_true, and_true, all_in, of_all, of_find, of_map}
use Rattle.x5_model_typed.specs.Nodes as nodes
use Rattle.x5_model_typed.specs.Nodes.{Node, Vacant, Flag, Number, Oid, Bits, Octets, Chosen, Many, Nil, More, row, parts}
use Rattle.x5_model_typed.specs.Named as named
use Rattle.x5_model_typed.specs.Forms.{plain, ruled}
use Rattle.x5_model_typed.specs.Rules as rules
use Rattle.x5_model_typed.specs.Rules.{known_type, text_in, value_in, pair_in, rdn_in, name_in, pair_below, same_type, rdn_rule, name_rule, pair_rule}
use Rattle.x5_model_typed.specs.Layouts as layouts
use Rattle.x5_model_typed.specs.Layouts.{Surroundings, layout}
use Rattle.x5_model_typed.proofs.Laws.{list_row}
use Rattle.x5_model_typed_laws.specs.Fits.{Fits}
use Rattle.x5_model_typed_laws.proofs.Leaves.{so}
use Rattle.x5_model_messages.specs.Terms.{name_of, rdn_of}
use Rattle.x5_model_fitting.specs.Names.{Each, TextWithin, WrittenRdnWithin, WrittenNameWithin, RdnWithin, NameWithin}
use Rattle.x5_model_fitting.proofs.Names.{written_rdn_of}
use Rattle.x5_model_fitting.proofs.Taking.{IsMade, only_made, many_in, each_mapped, sequence_in, first_in, sequence_over}
use Rattle.x5_model_fitting.proofs.TextsSaid.{text_said}

-- ---- types that may name have texts

abbrev has_texts : Kind → Bool
has_texts TextKind = true
has_texts PrintableKind = true
has_texts CountryKind = true
has_texts NumericKind = true
has_texts TelephoneKind = true
has_texts OidKind = false
has_texts NameKind = false
has_texts OctetsKind = false

abbrev names_by_texts : Row → Bool
names_by_texts r = if r.names then has_texts r.kind else true

row_texts : (k : ℕ) (o : Option Row) → row_of k ≡ o → in_row false (λ r. r.names) o ≡ true
    → has_texts (in_row OctetsKind (λ r. r.kind) o) ≡ true
row_texts k None e h = absurd (cc h)
row_texts k (Some r) e h =
    let w = of_find (λ (x : Row). x.number == k) r table e in
    let so_named : names_by_texts r ≡ true = of_all names_by_texts r table refl w.0 in
    sym (ap (λ (b : Bool). if b then has_texts r.kind else true) h) ∙ so_named

naming_texts : (k : ℕ) → may_name k ≡ true → has_texts (kind_of k) ≡ true
naming_texts k h = row_texts k (row_of k) refl h

no_octets : (k : Kind) (o : List ℕ) → has_texts k ≡ true → is_of_kind k (OctetsValue o) ≡ true → ⊥
no_octets TextKind o t h = cc h
no_octets PrintableKind o t h = cc h
no_octets CountryKind o t h = cc h
no_octets NumericKind o t h = cc h
no_octets TelephoneKind o t h = cc h
no_octets OidKind o t h = cc t
no_octets NameKind o t h = cc t
no_octets OctetsKind o t h = cc t

no_oid : (k : Kind) (arcs : List ℕ) → has_texts k ≡ true → is_of_kind k (OidValue arcs) ≡ true → ⊥
no_oid TextKind o t h = cc h
no_oid PrintableKind o t h = cc h
no_oid CountryKind o t h = cc h
no_oid NumericKind o t h = cc h
no_oid TelephoneKind o t h = cc h
no_oid OidKind o t h = cc t
no_oid NameKind o t h = cc t
no_oid OctetsKind o t h = cc t

no_name : (k : Kind) (n : NameValue) → has_texts k ≡ true → is_of_kind k (NameOf n) ≡ true → ⊥
no_name TextKind o t h = cc h
no_name PrintableKind o t h = cc h
no_name CountryKind o t h = cc h
no_name NumericKind o t h = cc h
no_name TelephoneKind o t h = cc h
no_name OidKind o t h = cc t
no_name NameKind o t h = cc t
no_name OctetsKind o t h = cc t

-- ---- pairs

record IsGoodPair (p : ℕ × Text) : Type 0 where
  is : is_pair p ≡ true
  text : TextWithin p.1

naming_value : (w : Surroundings) (k : ℕ) (value : Node) → (may_name k && is_of_kind (kind_of k) (value_in value)) ≡
    true
    → Fits (layout w) (layout w named.Value) value → IsGoodPair (k, text_in value)
naming_value w k (nodes.Text t) h f = record { is = h; text = text_said w t f }
naming_value w k (Octets o) h f =
    let v = both_true (may_name k) (is_of_kind (kind_of k) (OctetsValue o)) h in absurd
    (no_octets (kind_of k) o (naming_texts k v.0) v.1)
naming_value w k (Oid arcs) h f =
    let v = both_true (may_name k) (is_of_kind (kind_of k) (OidValue arcs)) h in absurd
    (no_oid (kind_of k) arcs (naming_texts k v.0) v.1)
naming_value w k Vacant h f =
    (let v = both_true (may_name k) _ h in absurd (no_name (kind_of k) _ (naming_texts k v.0) v.1))
naming_value w k (Flag b) h f =
    (let v = both_true (may_name k) _ h in absurd (no_name (kind_of k) _ (naming_texts k v.0) v.1))
naming_value w k (Number i) h f =
    (let v = both_true (may_name k) _ h in absurd (no_name (kind_of k) _ (naming_texts k v.0) v.1))
naming_value w k (Bits b) h f =
    (let v = both_true (may_name k) _ h in absurd (no_name (kind_of k) _ (naming_texts k v.0) v.1))
naming_value w k (Chosen tag n) h f =
    (let v = both_true (may_name k) _ h in absurd (no_name (kind_of k) _ (naming_texts k v.0) v.1))
naming_value w k (Many ns) h f =
    (let v = both_true (may_name k) _ h in absurd (no_name (kind_of k) _ (naming_texts k v.0) v.1))

-- a pair of a type and a value
abbrev two : Node → Node → Node
two type value = Many (More type (More value Nil))

pair_by : (w : Surroundings) (type value : Node) (o : Option ℕ) → known_type type ≡ o
    → rules.is_pair (two type value) ≡ true
    → Fits (layout w) (layout w named.Value) value → IsGoodPair (pair_in (two type value))
pair_by w type value None e h f = (let no : false ≡ true = rw e at h in absurd (cc no))
pair_by w type value (Some k) e h f =
    let yes : (may_name k && is_of_kind (kind_of k) (value_in value)) ≡ true = rw e at h in
    let is : pair_in (two type value) ≡ (k, text_in value) = ap
    (λ (o : Option ℕ). (in_option 0 (λ n. n) o, text_in value)) e in
    subst IsGoodPair (sym is) (naming_value w k value yes f)

abbrev anything : Node → Type 0
anything n = Unit {0}

pair_said : (w : Surroundings) (n : Node) → Fits (layout w) (layout w named.Pair) n → IsGoodPair (pair_in n)
pair_said w n f =
    let m = only_made (layout w) (ruled pair_rule (layouts.sequence (plain named.AnyOid ∷ plain named.Value ∷ []))) n
    refl refl f in
    let a = first_in (layout w) named.AnyOid _ anything (λ x g. tt) m.members
    (sequence_in (layout w) _ m.members m.within) in
    let b = first_in (layout w) named.Value [] (λ x. Fits (layout w) (layout w named.Value) x) (λ x g. g) a.others
    a.rest in
    let is : n ≡ two a.first b.first =
    m.is_many ∙ ap Many (a.split ∙ ap (More a.first) (b.split ∙ ap (More b.first)
    (sequence_over (layout w) b.others b.rest))) in
    let holds = (so (rules.is_pair n) n n m.settled).0 in
    subst (λ (x : Node). IsGoodPair (pair_in x)) (sym is)
    (pair_by w a.first b.first (known_type a.first) refl (subst (λ (x : Node). rules.is_pair x ≡ true) is holds) b.is)

-- ---- the order of pairs

-- none is below itself
not_itself : (n : ℕ) → nat_lt n n ≡ true → ⊥
not_itself n h = (let l : n < n = ltb-true n n h in omega (arith, l))

record Stays (p : Node) (ys zs : List Node) : Type 0 where
  same : ys ≡ zs
  free : (y : Node) (rest : List Node) → ys ≡ y ∷ rest → pair_below y p ≡ false

stays : (p : Node) (ys zs : List Node) → insert_sorted pair_below p ys ≡ p ∷ zs → Stays p ys zs
stays p [] zs e = record { same = (let s : [] ≡ zs = cc in s); free = λ y rest h. absurd (cc h) }
stays p (y ∷ ys) zs e = by (pair_below y p) refl e
  where
    by : (b : Bool) → pair_below y p ≡ b → cond b (y ∷ insert_sorted pair_below p ys) (p ∷ y ∷ ys) ≡ p ∷ zs
        → Stays p (y ∷ ys) zs
    by true b h =
        let same : y ≡ p = cc in
        absurd (not_itself (pair_in p).0 (subst (λ (x : Node). pair_below x p ≡ true) same b))
    by false b h = record {
      same = (let s : y ∷ ys ≡ zs = cc in s);
      free = λ z rest g. (let s : y ≡ z = cc in subst (λ (x : Node). pair_below x p ≡ false) s b);
    }

abbrev BeginsAt : ℕ → List Node → Type 0
BeginsAt least [] = Unit {0}
BeginsAt least (p ∷ ps) = least ≤ (pair_in p).0

above : (m n : ℕ) → nat_lt m n ≡ false → (m == n) ≡ false → n + 1 ≤ m
above m n h k = grind arith

next_above : (p : Node) (ps : List Node) → ((y : Node) (rest : List Node) → ps ≡ y ∷ rest → pair_below y p ≡ false)
    → has same_type ps p ≡ false → BeginsAt ((pair_in p).0 + 1) ps
next_above p [] free apart = tt
next_above p (q ∷ ps) free apart =
    above (pair_in q).0 (pair_in p).0 (free q ps refl) (first_not (same_type q p) (has same_type ps p) apart)
  where
    first_not : (a b : Bool) → (a || b) ≡ false → a ≡ false
    first_not true b h = absurd (cc h)
    first_not false b h = refl

is_false : (b : Bool) → not b ≡ true → b ≡ false
is_false true h = absurd (cc h)
is_false false h = refl

order_said : (least : ℕ) (ps : List Node) → BeginsAt least ps → sorted pair_below ps ≡ ps → distinct same_type ps ≡ true
    → ascends_from least (map pair_in ps) ≡ true
order_said least [] begin order apart = refl
order_said least (p ∷ ps) begin order apart =
    let s = stays p (sorted pair_below ps) ps order in
    let d = both_true (not (has same_type ps p)) (distinct same_type ps) apart in
    and_true (nat_le least (pair_in p).0) (ascends_from ((pair_in p).0 + 1) (map pair_in ps))
    (le-leb least (pair_in p).0 begin)
    (order_said ((pair_in p).0 + 1) ps
    (next_above p ps (λ y rest e. s.free y rest (s.same ∙ e)) (is_false (has same_type ps p) d.0)) s.same d.1)

begins_at_zero : (ps : List Node) → BeginsAt 0 ps
begins_at_zero [] = tt
begins_at_zero (p ∷ ps) = omega arith

-- ---- limits

within_none : (most n : ℕ) → n ≤ most → over most n ≡ None
within_none most n h = by (nat_lt most n) refl
  where
    by : (b : Bool) → nat_lt most n ≡ b → (let o : Option ℕ = if b then Some most else None in o) ≡ None
    by true e = (let l : most < n = ltb-true most n e in absurd (omega (arith, h, l)))
    by false e = refl

no_limit : (before : ℕ) (r : List (ℕ × Text)) → before + length r ≤ most_pairs
    → Each (λ (p : ℕ × Text). length p.1 ≤ most_octets) r
    → rdn_over before r ≡ None
no_limit before [] few short = refl
no_limit before (p ∷ r) few short =
    rw (within_none most_pairs (before + 1) (omega (arith, few)), within_none most_octets (length p.1) (short p here))
    (no_limit (before + 1) r (omega (arith, few)) (λ q i. short q (there i)))

-- ---- RDNs

abbrev passes : List Node → Bool
passes ps = nat_lt 0 (length ps) && nat_le (length ps) most_pairs && distinct same_type ps

record IsKept (n : Node) : Type 0 where
  some : nat_lt 0 (length (parts n)) ≡ true
  few : nat_le (length (parts n)) most_pairs ≡ true
  apart : distinct same_type (parts n) ≡ true
  order : sorted pair_below (parts n) ≡ parts n

rdn_kept : (n : Node) → rdn_rule n ≡ Some n → IsKept n
rdn_kept n h =
    let s = so (passes (parts n)) (Many (row (sorted pair_below (parts n)))) n h in
    let a = both_true (nat_lt 0 (length (parts n)) && nat_le (length (parts n)) most_pairs)
    (distinct same_type (parts n)) s.0 in
    let b = both_true (nat_lt 0 (length (parts n))) (nat_le (length (parts n)) most_pairs) a.0 in
    record { some = b.0; few = b.1; apart = a.1; order = sym (list_row (sorted pair_below (parts n))) ∙ ap parts s.1 }

pub rdn_said : (w : Surroundings) (n : Node) → Fits (layout w) (layout w named.Rdn) n → WrittenRdnWithin (rdn_in n)
rdn_said w n f =
    let m = only_made (layout w) (ruled rdn_rule (layouts.set_of named.Pair)) n refl refl f in
    let k = rdn_kept n m.settled in
    let good = each_mapped IsGoodPair pair_in (parts n)
    (many_in (layout w) _ named.Pair (λ x. IsGoodPair (pair_in x)) refl (pair_said w) n m) in
    let long = length-map (parts n) pair_in in
    record {
      valid = and_true (nat_lt 0 (length (rdn_in n)) && list_all is_pair (rdn_in n)) (ascends_from 0 (rdn_in n))
          (and_true (nat_lt 0 (length (rdn_in n))) (list_all is_pair (rdn_in n))
          (ap (λ (i : ℕ). nat_lt 0 i) long ∙ k.some) (all_in is_pair (rdn_in n) (λ p i. (good p i).is)))
          (order_said 0 (parts n) (begins_at_zero (parts n)) k.order k.apart);
      short = no_limit 0 (rdn_in n)
          (let few : length (parts n) ≤ most_pairs = leb-true (length (parts n)) most_pairs k.few in omega
          (arith, few, long))
          (λ p i. (good p i).text.short);
      utf8 = all_in (λ (p : ℕ × Text). is_utf8 p.1) (rdn_in n) (λ p i. (good p i).text.utf8);
    }

-- with the normal forms of its texts
pub stored_within : (r : List (ℕ × Text)) → WrittenRdnWithin r → RdnWithin (stored_rdn r)
stored_within r h = record {
  is_written = subst WrittenRdnWithin (sym (written_rdn_of r)) h;
  normal = ap stored_rdn (sym (written_rdn_of r));
}

pub rdn_of_said : (w : Surroundings) (n : Node) → Fits (layout w) (layout w named.Rdn) n → RdnWithin (rdn_of n)
rdn_of_said w n f = stored_within (rdn_in n) (rdn_said w n f)

pub rdns_said : (w : Surroundings) (n : Node) → Fits (layout w) (layout w named.Rdns) n
    → Each RdnWithin (map rdn_of (parts n))
rdns_said w n f =
    each_mapped RdnWithin rdn_of (parts n)
    (many_in (layout w) _ named.Rdn (λ x. RdnWithin (rdn_of x)) refl (rdn_of_said w) n
    (only_made (layout w) (layouts.sequence_of named.Rdn) n refl refl f))

-- ---- names

-- a name's RDNs, of no more than names may have
pub name_parts_said : (w : Surroundings) (n : Node) → IsMade (layout w)
    (ruled name_rule (layouts.sequence_of named.Rdn)) n
    → WrittenNameWithin (name_in n)
name_parts_said w n m =
    let h = (so (nat_le (length (parts n)) most_rdns) n n m.settled).0 in
    let few : length (parts n) ≤ most_rdns = leb-true (length (parts n)) most_rdns h in
    record {
      few = omega (arith, few, length-map (parts n) rdn_in);
      rdns = each_mapped WrittenRdnWithin rdn_in (parts n)
          (many_in (layout w) _ named.Rdn (λ x. WrittenRdnWithin (rdn_in x)) refl (rdn_said w) n m);
    }

pub name_in_said : (w : Surroundings) (n : Node) → Fits (layout w) (layout w named.Name) n
    → WrittenNameWithin (name_in n)
name_in_said w n f =
    name_parts_said w n (only_made (layout w) (ruled name_rule (layouts.sequence_of named.Rdn)) n refl refl f)

pub name_of_within : (n : NameValue) → WrittenNameWithin n → NameWithin (stored n)
name_of_within n h = record {
  few = omega (arith, h.few, length-map n stored_rdn);
  rdns = λ r i. (let o = of_map stored_rdn r n i in subst RdnWithin (sym o.2) (stored_within o.0 (h.rdns o.0 o.1)));
}

pub name_said : (w : Surroundings) (n : Node) → Fits (layout w) (layout w named.Name) n → NameWithin (name_of n)
name_said w n f = name_of_within (name_in n) (name_in_said w n f)
