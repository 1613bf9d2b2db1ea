-- RDNs and names within the limits fit: each pair, then the pairs in their order, then the RDNs.
use Rattle.std.proofs.Common.{◌≡◌, ℕ, ◌+◌, ◌<◌, ◌≤◌, Bool, true, false, not, ◌&&◌, ◌||◌, ◌==◌, nat_lt, nat_le, List, [], ◌∷◌, length, map, refl, sym, ap, ap₂, subst, ◌∙◌, arith}
use Rattle.std.specs.Prelude.{if◌then◌else◌}
use Rattle.std.proofs.lemmas.Bool.{ltb-true, le-leb, leb-true}
use Rattle.std.proofs.lemmas.List.{length-map}
use Rattle.std.specs.List.{list_all, list_any}
use Rattle.std.specs.Str.{is_utf8}
use Rattle.std.specs.declared.option.Option.{Option}
use Rattle.std.specs.declared.option.Option.TheVariants.{None, Some}
use Rattle.x5_model.specs.Words.{in_option, has, distinct, insert_sorted, sorted}
use Rattle.x5_model.specs.Members.{In, here, there}
use Rattle.x5_model.specs.Keys.{Key, KeyRdn}
use Rattle.x5_model.specs.Values.{Text, Known, NameValue, Rdn, Name, key_of, key_of_rdn, written, written_pair}
use Rattle.x5_model.specs.Types.{Kind, TextKind, PrintableKind, CountryKind, NumericKind, TelephoneKind, OidKind, NameKind, OctetsKind, is_known, may_name, kind_of}
use Rattle.x5_model.specs.Normal.{most_octets, most_pairs, most_rdns, is_enough, is_part_of_kind, is_text_of_kind, is_pair, ascends_from, ascends, is_rdn, first_found, over, rdn_over, written_rdn, stored, stored_rdn, normal_pair, written_key}
use Rattle.x5_model.proofs.Lists.{both_true, and_true, of_all, all_in, of_map}
use Rattle.x5_model_text.specs.TypeText.{known_below}
use Rattle.x5_model_typed.specs.Nodes.{Node, Many, row}
use Rattle.x5_model_typed.specs.Named as named
use Rattle.x5_model_typed.specs.Leaves.{where_so}
use Rattle.x5_model_typed.specs.Rules.{pair_in, name_in, pair_below, same_type, pair_rule, rdn_rule, name_rule}
use Rattle.x5_model_typed.specs.Typed.{required}
use Rattle.x5_model_typed.specs.Layouts.{Surroundings, layout}
use Rattle.x5_model_typed.proofs.Laws.{list_row}
use Rattle.x5_model_typed_laws.specs.Fits as fits
use Rattle.x5_model_typed_laws.specs.Fits.{Fits, FitsEach}
use Rattle.x5_model_typed_laws.proofs.Leaves.{let_through}
use Rattle.x5_model_messages.specs.Terms.{node_of, pair_node, pairs_node, rdn_node, name_value_node, name_node}
use Rattle.x5_model_messages.specs.Laws.{has_known_types, IsName, IsRdn}
use Rattle.x5_model_messages.proofs.Requests.{the_name}
use Rattle.x5_model_fitting.specs.Names.{Each, TextWithin, WrittenRdnWithin, WrittenNameWithin, RdnWithin, NameWithin}
use Rattle.x5_model_fitting.proofs.Making.{each_fits}
use Rattle.x5_model_fitting.proofs.Texts.{text_fits, known_within, naming_known, type_fits}

-- ---- limits

pub none_first : (o p : Option ℕ) → first_found o p ≡ None → (o ≡ None) × (p ≡ None)
none_first None p e = (refl, e)
none_first (Some n) p e = cc

pub not_over : (most n : ℕ) → over most n ≡ None → n ≤ most
not_over most n e = by (nat_lt most n) refl
  where
    by : (b : Bool) → nat_lt most n ≡ b → n ≤ most
    by true q = cc
    by false q = grind arith

few_pairs : (before : ℕ) (r : List (ℕ × Text)) → before ≤ most_pairs → rdn_over before r ≡ None
    → before + length r ≤ most_pairs
few_pairs before [] l e = omega arith
few_pairs before (p ∷ r) l e =
    let w = none_first (over most_pairs (before + 1)) (first_found (over most_octets (length p.1))
    (rdn_over (before + 1) r)) e in
    let v = none_first (over most_octets (length p.1)) (rdn_over (before + 1) r) w.1 in
    let k : before + 1 + length r ≤ most_pairs = few_pairs (before + 1) r (not_over most_pairs (before + 1) w.0) v.1 in
    omega arith

short_texts : (before : ℕ) (r : List (ℕ × Text)) → rdn_over before r ≡ None
    → Each (λ (p : ℕ × Text). length p.1 ≤ most_octets) r
short_texts before [] e p i = elim i [ ]
short_texts before (p ∷ r) e q i =
    let w = none_first (over most_pairs (before + 1)) (first_found (over most_octets (length p.1))
    (rdn_over (before + 1) r)) e in
    let v = none_first (over most_octets (length p.1)) (rdn_over (before + 1) r) w.1 in
    by (not_over most_octets (length p.1) v.0) (short_texts (before + 1) r v.1) q i
  where
    by : length p.1 ≤ most_octets → Each (λ (x : ℕ × Text). length x.1 ≤ most_octets) r → (x : ℕ × Text) → In x (p ∷ r)
        → length x.1 ≤ most_octets
    by here_so rest x here = here_so
    by here_so rest x (there j) = rest x j

some_digit : (q : ℕ → Bool) (t : Text) → list_any q t ≡ true → 0 < length t
some_digit q [] h = absurd (cc h)
some_digit q (o ∷ t) h = omega arith

pub enough : (k : Kind) (t : Text) → is_enough k t ≡ true → 0 < length t
enough TextKind t h = ltb-true 0 (length t) h
enough PrintableKind t h = ltb-true 0 (length t) h
enough CountryKind t h = grind arith
enough NumericKind t h = some_digit _ t h
enough TelephoneKind t h = ltb-true 0 (length t) h
enough OidKind t h = absurd (cc h)
enough NameKind t h = absurd (cc h)
enough OctetsKind t h = absurd (cc h)

-- ---- pairs

pair_text : (p : ℕ × Text) → is_pair p ≡ true → length p.1 ≤ most_octets → is_utf8 p.1 ≡ true → TextWithin p.1
pair_text p h short utf8 =
    let w = both_true (may_name p.0) (is_text_of_kind (kind_of p.0) p.1) h in
    let v = both_true (is_part_of_kind (kind_of p.0) p.1) (is_enough (kind_of p.0) p.1) w.1 in
    record { utf8 = utf8; some = enough (kind_of p.0) p.1 v.1; short = short }

pub known_number : (k : ℕ) → is_known k ≡ true → known_below (2 ∷ 5 ∷ 4 ∷ k ∷ []) ≡ Some k
known_number k h = ap (λ (b : Bool). if b then Some k else None) h

pair_kept : (p : ℕ × Text) → is_pair p ≡ true → pair_rule (pair_node p) ≡ Some (pair_node p)
pair_kept p h =
    let w = both_true (may_name p.0) (is_text_of_kind (kind_of p.0) p.1) h in
    let e = known_number p.0 (naming_known p.0 w.0) in
    rw e (let_through (may_name p.0 && is_text_of_kind (kind_of p.0) p.1) (pair_node p) h)

pub pair_fits : (w : Surroundings) (p : ℕ × Text) → is_pair p ≡ true → length p.1 ≤ most_octets → is_utf8 p.1 ≡ true
    → Fits (layout w) (layout w named.Pair) (pair_node p)
pair_fits w p h short utf8 =
    fits.made _ refl refl refl
    (fits.sequence (fits.given refl (type_fits w (Known p.0) (known_within p.0
    (naming_known p.0 (both_true (may_name p.0) (is_text_of_kind (kind_of p.0) p.1) h).0))) required
    (fits.given refl (text_fits w p.1 (pair_text p h short utf8)) required fits.over)))
    (pair_kept p h)

-- ---- the order of pairs

number_of : (p : ℕ × Text) → is_pair p ≡ true → (pair_in (pair_node p)).0 ≡ p.0
number_of p h =
    let w = both_true (may_name p.0) (is_text_of_kind (kind_of p.0) p.1) h in
    ap (λ (o : Option ℕ). in_option 0 (λ k. k) o) (known_number p.0 (naming_known p.0 w.0))

none_of_type : (p : ℕ × Text) (least : ℕ) (r : List (ℕ × Text)) → is_pair p ≡ true → list_all is_pair r ≡ true
    → p.0 < least → ascends_from least r ≡ true → has same_type (map pair_node r) (pair_node p) ≡ false
none_of_type p least [] h all lt up = refl
none_of_type p least (q ∷ r) h all lt up =
    let a = both_true (is_pair q) (list_all is_pair r) all in
    let b = both_true (nat_le least q.0) (ascends_from (q.0 + 1) r) up in
    let c : least ≤ q.0 = leb-true least q.0 b.0 in
    rw (number_of q a.0, number_of p h) (ap₂ (λ (x y : Bool). x || y) (apart q.0 p.0 (omega arith))
    (none_of_type p (q.0 + 1) r h a.1 (omega arith) b.1))
  where
    apart : (m n : ℕ) → n < m → (m == n) ≡ false
    apart m n l = grind arith

types_apart : (least : ℕ) (r : List (ℕ × Text)) → list_all is_pair r ≡ true → ascends_from least r ≡ true
    → distinct same_type (map pair_node r) ≡ true
types_apart least [] all up = refl
types_apart least (p ∷ r) all up =
    let a = both_true (is_pair p) (list_all is_pair r) all in
    let b = both_true (nat_le least p.0) (ascends_from (p.0 + 1) r) up in
    and_true (not (has same_type (map pair_node r) (pair_node p))) (distinct same_type (map pair_node r))
    (ap not (none_of_type p (p.0 + 1) r a.0 a.1 (omega arith) b.1)) (types_apart (p.0 + 1) r a.1 b.1)

first_stays : (p : ℕ × Text) (r : List (ℕ × Text)) → is_pair p ≡ true → list_all is_pair r ≡ true
    → ascends_from (p.0 + 1) r ≡ true → insert_sorted pair_below (pair_node p) (map pair_node r) ≡ pair_node p ∷ map
    pair_node r
first_stays p [] h all up = refl
first_stays p (q ∷ r) h all up =
    let a = both_true (is_pair q) (list_all is_pair r) all in
    let b = both_true (nat_le (p.0 + 1) q.0) (ascends_from (q.0 + 1) r) up in
    let c : p.0 + 1 ≤ q.0 = leb-true (p.0 + 1) q.0 b.0 in
    let e : pair_below (pair_node q) (pair_node p) ≡ false =
    ap₂ (λ (x y : ℕ). nat_lt x y) (number_of q a.0) (number_of p h) ∙ not_below q.0 p.0 c in
    rw e refl
  where
    not_below : (m n : ℕ) → n + 1 ≤ m → nat_lt m n ≡ false
    not_below m n l = grind arith

pairs_sorted : (least : ℕ) (r : List (ℕ × Text)) → list_all is_pair r ≡ true → ascends_from least r ≡ true
    → sorted pair_below (map pair_node r) ≡ map pair_node r
pairs_sorted least [] all up = refl
pairs_sorted least (p ∷ r) all up =
    let a = both_true (is_pair p) (list_all is_pair r) all in
    let b = both_true (nat_le least p.0) (ascends_from (p.0 + 1) r) up in
    ap (λ (l : List Node). insert_sorted pair_below (pair_node p) l) (pairs_sorted (p.0 + 1) r a.1 b.1)
    ∙ first_stays p r a.0 a.1 b.1

-- ---- RDNs

-- what an RDN is made of
record Made (r : List (ℕ × Text)) : Type 0 where
  some : nat_lt 0 (length r) ≡ true
  pairs : list_all is_pair r ≡ true
  order : ascends_from 0 r ≡ true

made_of : (r : List (ℕ × Text)) → is_rdn r ≡ true → Made r
made_of r h =
    let a = both_true (nat_lt 0 (length r) && list_all is_pair r) (ascends r) h in
    let b = both_true (nat_lt 0 (length r)) (list_all is_pair r) a.0 in
    record { some = b.0; pairs = b.1; order = a.1 }

abbrev passes : List Node → Bool
passes ps = nat_lt 0 (length ps) && nat_le (length ps) most_pairs && distinct same_type ps

rdn_passes : (r : List (ℕ × Text)) → WrittenRdnWithin r → passes (map pair_node r) ≡ true
rdn_passes r h =
    let m = made_of r h.valid in
    let few : 0 + length r ≤ most_pairs = few_pairs 0 r (omega arith) h.short in
    and_true (nat_lt 0 (length (map pair_node r)) && nat_le (length (map pair_node r)) most_pairs)
    (distinct same_type (map pair_node r))
    (ap (λ (k : ℕ). nat_lt 0 k && nat_le k most_pairs) (length-map r pair_node)
    ∙ and_true (nat_lt 0 (length r)) (nat_le (length r) most_pairs) m.some (le-leb (length r) most_pairs (omega arith)))
    (types_apart 0 r m.pairs m.order)

rdn_kept : (r : List (ℕ × Text)) → WrittenRdnWithin r → rdn_rule (pairs_node r) ≡ Some (pairs_node r)
rdn_kept r h =
    let m = made_of r h.valid in
    ap (λ (ps : List Node). where_so (passes ps) (Many (row (sorted pair_below ps)))) (list_row (map pair_node r))
    ∙ ap (λ (ps : List Node). where_so (passes (map pair_node r)) (Many (row ps))) (pairs_sorted 0 r m.pairs m.order)
    ∙ let_through (passes (map pair_node r)) (pairs_node r) (rdn_passes r h)

pub pairs_fit : (w : Surroundings) (r : List (ℕ × Text)) → WrittenRdnWithin r
    → Fits (layout w) (layout w named.Rdn) (pairs_node r)
pairs_fit w r h =
    fits.made _ refl refl refl
    (fits.members (each_fits (layout w) named.Pair pair_node r (λ p i.
    pair_fits w p (of_all is_pair p r (made_of r h.valid).pairs i) (short_texts 0 r h.short p i)
    (of_all (λ (q : ℕ × Text). is_utf8 q.1) p r h.utf8 i))))
    (rdn_kept r h)

pub rdn_fits : (w : Surroundings) (r : Rdn) → RdnWithin r → Fits (layout w) (layout w named.Rdn) (rdn_node r)
rdn_fits w r h = pairs_fit w (written_rdn r) h.is_written

pub rdns_fit : (w : Surroundings) (rs : List Rdn) → Each RdnWithin rs
    → Fits (layout w) (layout w named.Rdns) (node_of (map rdn_node rs))
rdns_fit w rs h =
    fits.made _ refl refl refl (fits.members (each_fits (layout w) named.Rdn rdn_node rs
    (λ r i. rdn_fits w r (h r i)))) refl

-- ---- names

pub written_within : (n : Name) → NameWithin n → WrittenNameWithin (written n)
written_within n h = record {
  few = omega (arith, h.few, length-map n (map written_pair));
  rdns = λ r i.
      (let o = of_map (map written_pair) r n i in subst (λ (x : List (ℕ × Text)). WrittenRdnWithin x) (sym o.2)
      (h.rdns o.0 o.1).is_written);
}

-- RDNs of the name's node
pub name_members : (w : Surroundings) (n : NameValue) → WrittenNameWithin n
    → FitsEach (layout w) named.Rdn (row (map pairs_node n))
name_members w n h = each_fits (layout w) named.Rdn pairs_node n (λ r i. pairs_fit w r (h.rdns r i))

pub name_kept : (n : NameValue) → WrittenNameWithin n → name_rule (name_value_node n) ≡ Some (name_value_node n)
name_kept n h =
    ap (λ (l : List Node). where_so (nat_le (length l) most_rdns) (name_value_node n)) (list_row (map pairs_node n))
    ∙ let_through (nat_le (length (map pairs_node n)) most_rdns) (name_value_node n)
    (le-leb (length (map pairs_node n)) most_rdns (omega (arith, h.few, length-map n pairs_node)))

pub name_fits : (w : Surroundings) (n : Name) → NameWithin n → Fits (layout w) (layout w named.Name) (name_node n)
name_fits w n h =
    let v = written_within n h in
    fits.made _ refl refl refl (fits.members (name_members w (written n) v)) (name_kept (written n) v)

-- ---- such names are as they are spelled

types_known : (r : List (ℕ × Text)) → list_all is_pair r ≡ true → list_all (λ p. is_known p.0) r ≡ true
types_known [] h = refl
types_known (p ∷ r) h =
    let a = both_true (is_pair p) (list_all is_pair r) h in
    and_true (is_known p.0) (list_all (λ (q : ℕ × Text). is_known q.0) r)
    (naming_known p.0 (both_true (may_name p.0) (is_text_of_kind (kind_of p.0) p.1) a.0).0) (types_known r a.1)

pub rdn_types : (r : List (ℕ × Text)) → WrittenRdnWithin r → list_all (λ p. is_known p.0) r ≡ true
rdn_types r h = types_known r (made_of r h.valid).pairs

pub name_types : (n : NameValue) → WrittenNameWithin n → has_known_types n ≡ true
name_types n h =
    all_in (λ (r : List (ℕ × Text)). list_all (λ (p : ℕ × Text). is_known p.0) r) n (λ r i. rdn_types r (h.rdns r i))

pub rdn_is : (r : Rdn) → RdnWithin r → IsRdn r
rdn_is r h = (rdn_types (written_rdn r) h.is_written, h.normal)

stored_same : (n : Name) → Each RdnWithin n → n ≡ stored (written n)
stored_same [] h = refl
stored_same (r ∷ n) h = ap₂ (λ (x : Rdn) (xs : Name). x ∷ xs) (h r here).normal (stored_same n (λ s i. h s (there i)))

pub name_is : (n : Name) → NameWithin n → IsName n
name_is n h = (name_types (written n) (written_within n h), stored_same n h.rdns)

-- ---- the key of what is written of a name is its own

pub written_rdn_of : (r : List (ℕ × Text)) → map written_pair (stored_rdn r) ≡ r
written_rdn_of [] = refl
written_rdn_of (p ∷ r) = ap (λ (s : List (ℕ × Text)). p ∷ s) (written_rdn_of r)

written_of : (n : NameValue) → written (stored n) ≡ n
written_of [] = refl
written_of (r ∷ n) = ap₂ (λ (s : List (ℕ × Text)) (m : NameValue). s ∷ m) (written_rdn_of r) (written_of n)

rdn_key_of : (r : List (ℕ × Text)) → key_of_rdn (stored_rdn r) ≡ map normal_pair r
rdn_key_of [] = refl
rdn_key_of (p ∷ r) = ap (λ (s : KeyRdn). normal_pair p ∷ s) (rdn_key_of r)

pub name_key_of : (n : NameValue) → key_of (stored n) ≡ written_key n
name_key_of [] = refl
name_key_of (r ∷ n) = ap₂ (λ (s : KeyRdn) (m : Key). s ∷ m) (rdn_key_of r) (name_key_of n)

pub key_said : (n : Name) → NameWithin n → written_key (name_in (name_node n)) ≡ key_of n
key_said n h = sym (name_key_of (name_in (name_node n))) ∙ ap key_of (the_name n (name_is n h))
