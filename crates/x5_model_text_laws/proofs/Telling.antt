-- Normal forms of object identifiers and of names tell these apart.
use Rattle.std.proofs.Common.{◌≡◌, ℕ, ◌^◌, Bool, true, ◌&&◌, ◌==◌, not, nat_lt, zero, suc, List, [], ◌∷◌, ◌++◌, length, map, flat_map, take, drop, refl, sym, ap, ap₂, ◌∙◌, append_assoc, length-append, arith}
use Rattle.std.proofs.lemmas.Bool.{and_parts, and_from, ltb-true, both_ways, not-true, eq-eqb, ne_eqb}
use Rattle.std.proofs.lemmas.Bool.Decides.{nat_tests}
use Rattle.std.proofs.lemmas.List.{take_at, drop_at}
use Rattle.std.proofs.lemmas.Nat.{from_be_bytes-to_be_bytes_4}
use Rattle.std.specs.Int.{from_be_bytes, to_be_bytes, w32}
use Rattle.std.specs.List.{list_all}
use Rattle.std.specs.Str.{is_utf8}
use Rattle.x5_model.specs.Keys.{KeyPair, KeyRdn, Key}
use Rattle.x5_model.specs.Values.{Text, NameValue, OidValue, NameOf}
use Rattle.x5_model.specs.Types.{Kind, TextKind, PrintableKind, CountryKind, NumericKind, TelephoneKind, OidKind, NameKind, OctetsKind, kind_of, may_name}
use Rattle.x5_model.specs.Normal.{may_stand, is_enough, is_part_of_kind, is_text_of_kind, text_normal, is_oid, oid_normal, is_pair, is_rdn, is_name, ascends, normal_pair, written_key, pair_octets, rdn_octets, key_octets, normal_form}
use Rattle.x5_model_text_laws.specs.Given.{are_utf8, IsGivenName}
use Rattle.x5_model_text_laws.proofs.NormalForms.{part_kind_stays}
use Rattle.x5_model_text_laws.proofs.Oids.{are_arcs, arcs_of_oid}
use Rattle.x5_model_text_laws.proofs.Pieces.{is_free}
use Rattle.x5_model_text_laws.proofs.Sorting.{Pairs}

-- ---- names: a zero ends what has none

no_zero : (b : ℕ) → not (b == 0) ≡ true → b ≡ 0 → ⊥
no_zero b h e = both_ways (b == 0) (not-true (b == 0) h) (eq-eqb b 0 e)

same_ends : (a b u v : Text) → is_free 0 a ≡ true → is_free 0 b ≡ true → a ++ 0 ∷ u ≡ b ++ 0 ∷ v → (a ≡ b) × (u ≡ v)
same_ends [] [] u v h k e = (refl, cc)
same_ends [] (y ∷ b) u v h k e = absurd (no_zero y (and_parts (not (y == 0)) (is_free 0 b) k).0 (let same : 0 ≡ y = cc in sym same))
same_ends (x ∷ a) [] u v h k e = absurd (no_zero x (and_parts (not (x == 0)) (is_free 0 a) h).0 (let same : x ≡ 0 = cc in same))
same_ends (x ∷ a) (y ∷ b) u v h k e =
    let first : x ≡ y = cc in
    let rest : a ++ 0 ∷ u ≡ b ++ 0 ∷ v = cc in
    let r = same_ends a b u v (and_parts (not (x == 0)) (is_free 0 a) h).1 (and_parts (not (y == 0)) (is_free 0 b) k).1 rest in
    (ap₂ ◌∷◌ first r.0, r.1)

abbrev is_sound : KeyPair → Bool
is_sound p = not (p.0 == 0) && is_free 0 p.1

pair_first : (p : KeyPair) (r : KeyRdn) (u : Text) → flat_map pair_octets (p ∷ r) ++ 0 ∷ u ≡ p.0 ∷ (p.1 ++ 0 ∷ (flat_map pair_octets r ++ 0 ∷ u))
pair_first p r u =
    ap (λ t. p.0 ∷ t) (append_assoc (p.1 ++ 0 ∷ []) (flat_map pair_octets r) (0 ∷ u) ∙ append_assoc p.1 (0 ∷ []) (flat_map pair_octets r ++ 0 ∷ u))

same_pairs : (r s : KeyRdn) (u v : Text) → list_all is_sound r ≡ true → list_all is_sound s ≡ true → flat_map pair_octets r ++ 0 ∷ u ≡ flat_map pair_octets s ++ 0 ∷ v → (r ≡ s) × (u ≡ v)
same_pairs [] [] u v h k e = (refl, cc)
same_pairs [] (q ∷ s) u v h k e =
    let sound = and_parts (is_sound q) (list_all is_sound s) k in
    let f : 0 ∷ u ≡ q.0 ∷ (q.1 ++ 0 ∷ (flat_map pair_octets s ++ 0 ∷ v)) = e ∙ pair_first q s v in
    let first : 0 ≡ q.0 = cc f in
    absurd (no_zero q.0 (and_parts (not (q.0 == 0)) (is_free 0 q.1) sound.0).0 (sym first))
same_pairs (p ∷ r) [] u v h k e =
    let sound = and_parts (is_sound p) (list_all is_sound r) h in
    let f : p.0 ∷ (p.1 ++ 0 ∷ (flat_map pair_octets r ++ 0 ∷ u)) ≡ 0 ∷ v = sym (pair_first p r u) ∙ e in
    let first : p.0 ≡ 0 = cc f in
    absurd (no_zero p.0 (and_parts (not (p.0 == 0)) (is_free 0 p.1) sound.0).0 first)
same_pairs (p ∷ r) (q ∷ s) u v h k e =
    let a = and_parts (is_sound p) (list_all is_sound r) h in
    let b = and_parts (is_sound q) (list_all is_sound s) k in
    let f : p.0 ∷ (p.1 ++ 0 ∷ (flat_map pair_octets r ++ 0 ∷ u)) ≡ q.0 ∷ (q.1 ++ 0 ∷ (flat_map pair_octets s ++ 0 ∷ v)) = sym (pair_first p r u) ∙ e ∙ pair_first q s v in
    let number : p.0 ≡ q.0 = cc f in
    let tails : p.1 ++ 0 ∷ (flat_map pair_octets r ++ 0 ∷ u) ≡ q.1 ++ 0 ∷ (flat_map pair_octets s ++ 0 ∷ v) = cc f in
    let ends = same_ends p.1 q.1 _ _ (and_parts (not (p.0 == 0)) (is_free 0 p.1) a.0).1 (and_parts (not (q.0 == 0)) (is_free 0 q.1) b.0).1 tails in
    let rest = same_pairs r s u v a.1 b.1 ends.1 in
    let normal = ends.0 in
    (ap₂ ◌∷◌ (λ i. (number i, normal i)) rest.0, rest.1)

rdn_first : (r : KeyRdn) (t : Text) → rdn_octets r ++ t ≡ flat_map pair_octets r ++ 0 ∷ t
rdn_first r t = append_assoc (flat_map pair_octets r) (0 ∷ []) t

rdn_some : (r : KeyRdn) (t : Text) → rdn_octets r ++ t ≡ [] → ⊥
rdn_some r t e =
    let l = length-append (flat_map pair_octets r) (0 ∷ t) in
    let f : flat_map pair_octets r ++ 0 ∷ t ≡ [] = sym (rdn_first r t) ∙ e in
    let m = ap length f in
    omega (arith, l, m)

same_keys : (k l : Key) → list_all (list_all is_sound) k ≡ true → list_all (list_all is_sound) l ≡ true → key_octets k ≡ key_octets l → k ≡ l
same_keys [] [] h i e = refl
same_keys [] (s ∷ l) h i e = absurd (rdn_some s (key_octets l) (sym e))
same_keys (r ∷ k) [] h i e = absurd (rdn_some r (key_octets k) e)
same_keys (r ∷ k) (s ∷ l) h i e =
    let a = and_parts (list_all is_sound r) (list_all (list_all is_sound) k) h in
    let b = and_parts (list_all is_sound s) (list_all (list_all is_sound) l) i in
    let both = same_pairs r s (key_octets k) (key_octets l) a.0 b.0 (sym (rdn_first r (key_octets k)) ∙ e ∙ rdn_first s (key_octets l)) in
    ap₂ ◌∷◌ both.0 (same_keys k l a.1 b.1 both.1)

-- ---- the keys of names are sound

stands_above : (k : Kind) (b : ℕ) → may_stand k b ≡ true → not (b == 0) ≡ true
stands_above TextKind b h = grind (arith, nat_tests)
stands_above PrintableKind b h = grind (arith, nat_tests)
stands_above CountryKind b h = grind (arith, nat_tests)
stands_above NumericKind b h = grind (arith, nat_tests)
stands_above TelephoneKind b h = grind (arith, nat_tests)
stands_above OidKind b h = cc
stands_above NameKind b h = cc
stands_above OctetsKind b h = cc

text_above : (k : Kind) (t : Text) → is_part_of_kind k t ≡ true → is_free 0 t ≡ true
text_above k [] h = refl
text_above k (b ∷ t) h =
    let parts = and_parts (may_stand k b) (is_part_of_kind k t) h in
    ap₂ ◌&&◌ (stands_above k b parts.0) (text_above k t parts.1)

number_above : (n : ℕ) → may_name n ≡ true → not (n == 0) ≡ true
number_above zero h = cc
number_above (suc n) h = ap not (ne_eqb (suc n) 0 (λ e. omega (arith, e)))

pair_sound : (p : ℕ × Text) → is_pair p ≡ true → is_utf8 p.1 ≡ true → is_sound (normal_pair p) ≡ true
pair_sound p h utf8 =
    let parts = and_parts (may_name p.0) (is_text_of_kind (kind_of p.0) p.1) h in
    let part = (and_parts (is_part_of_kind (kind_of p.0) p.1) (is_enough (kind_of p.0) p.1) parts.1).0 in
    and_from (not (p.0 == 0)) (is_free 0 (text_normal (kind_of p.0) p.1)) (number_above p.0 parts.0)
    (text_above (kind_of p.0) (text_normal (kind_of p.0) p.1) (part_kind_stays (kind_of p.0) true true p.1 utf8 part))

rdn_sound : (r : Pairs) → list_all is_pair r ≡ true → are_utf8 r ≡ true → list_all is_sound (map normal_pair r) ≡ true
rdn_sound [] h utf8 = refl
rdn_sound (p ∷ r) h utf8 =
    let a = and_parts (is_pair p) (list_all is_pair r) h in
    let u = and_parts (is_utf8 p.1) (are_utf8 r) utf8 in
    ap₂ ◌&&◌ (pair_sound p a.0 u.0) (rdn_sound r a.1 u.1)

name_sound : (n : NameValue) → is_name n ≡ true → list_all are_utf8 n ≡ true → list_all (list_all is_sound) (written_key n) ≡ true
name_sound [] h utf8 = refl
name_sound (r ∷ n) h utf8 =
    let a = and_parts (is_rdn r) (is_name n) h in
    let u = and_parts (are_utf8 r) (list_all are_utf8 n) utf8 in
    let outer = and_parts (nat_lt 0 (length r) && list_all is_pair r) (ascends r) a.0 in
    let pairs = (and_parts (nat_lt 0 (length r)) (list_all is_pair r) outer.0).1 in
    ap₂ ◌&&◌ (rdn_sound r pairs u.0) (name_sound n a.1 u.1)

pub names_told : (n m : NameValue) → IsGivenName n → IsGivenName m → normal_form NameKind (NameOf n) ≡ normal_form NameKind (NameOf m) → written_key n ≡ written_key m
names_told n m h k e = same_keys (written_key n) (written_key m) (name_sound n h.valid h.utf8) (name_sound m k.valid k.utf8) e

-- ---- object identifiers: four octets an arc

four : (n : ℕ) → length (to_be_bytes w32 n) ≡ 4
four n = refl

same_arcs : (ns ms : List ℕ) → are_arcs ns ≡ true → are_arcs ms ≡ true → oid_normal ns ≡ oid_normal ms → ns ≡ ms
same_arcs [] [] h k e = refl
same_arcs [] (m ∷ ms) h k e = (let l = length-append (to_be_bytes w32 m) (oid_normal ms) in let f = four m in let g = ap length e in absurd (omega (arith, l, f, g)))
same_arcs (n ∷ ns) [] h k e = (let l = length-append (to_be_bytes w32 n) (oid_normal ns) in let f = four n in let g = ap length e in absurd (omega (arith, l, f, g)))
same_arcs (n ∷ ns) (m ∷ ms) h k e =
    let a = and_parts (nat_lt n (2 ^ 32)) (are_arcs ns) h in
    let b = and_parts (nat_lt m (2 ^ 32)) (are_arcs ms) k in
    let first : to_be_bytes w32 n ≡ to_be_bytes w32 m = sym (take_at (to_be_bytes w32 n) (oid_normal ns) 4 (four n)) ∙ ap (take 4) e ∙ take_at (to_be_bytes w32 m) (oid_normal ms) 4 (four m) in
    let rest : oid_normal ns ≡ oid_normal ms = sym (drop_at (to_be_bytes w32 n) (oid_normal ns) 4 (four n)) ∙ ap (drop 4) e ∙ drop_at (to_be_bytes w32 m) (oid_normal ms) 4 (four m) in
    ap₂ ◌∷◌
    (sym (from_be_bytes-to_be_bytes_4 n (ltb-true n (2 ^ 32) a.0)) ∙ ap (from_be_bytes w32) first ∙ from_be_bytes-to_be_bytes_4 m (ltb-true m (2 ^ 32) b.0))
    (same_arcs ns ms a.1 b.1 rest)

oid_arcs : (ns : List ℕ) → is_oid ns ≡ true → are_arcs ns ≡ true
oid_arcs [] h = cc
oid_arcs (a ∷ []) h = cc
oid_arcs (a ∷ b ∷ ns) h = arcs_of_oid a b ns h

pub oids_told : (ns ms : List ℕ) → is_oid ns ≡ true → is_oid ms ≡ true → normal_form OidKind (OidValue ns) ≡ normal_form OidKind (OidValue ms) → ns ≡ ms
oids_told ns ms h k e = same_arcs ns ms (oid_arcs ns h) (oid_arcs ms k) e
