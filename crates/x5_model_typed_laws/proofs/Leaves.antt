-- Each kind of content that the table of messages has reads back what is written in it.
use Rattle.std.proofs.Common.{◌≡◌, ℕ, ◌^◌, ◌<◌, Bool, true, false, ◌&&◌, nat_lt, nat_le, inl, inr, List, [], ◌∷◌}
use Rattle.std.proofs.Common.{length, refl, sym, ap, ◌∙◌, arith}
use Rattle.std.specs.Prelude.{if◌then◌else◌, ℤ, pos, negsuc, flat_map, chars, encode_utf8_all}
use Rattle.std.proofs.lemmas.Bool.{ltb-true, eqb-true}
use Rattle.std.specs.Cmp.Lexicographic.{bytes_decides}
use Rattle.std.specs.Int.{to_be_bytes, w32}
use Rattle.std.specs.List.{list_all}
use Rattle.std.specs.declared.option.Option.{Option}
use Rattle.std.specs.declared.option.Option.TheVariants.{None, Some}
use Rattle.x5_model.specs.Words.{in_option, same_octets}
use Rattle.x5_model.specs.Normal.{is_oid, most_octets}
use Rattle.x5_model.proofs.Lists.{both_true, and_true, either_true}
use Rattle.x5_model_octets.specs.Headers.{big_endian}
use Rattle.x5_model_typed.specs.Nodes as nodes
use Rattle.x5_model_typed.specs.Nodes.{Node, Nodes, Vacant, Flag, Number, Oid, Bits, Octets, Text, Chosen, Many, whole}
use Rattle.x5_model_typed.specs.Nodes.{list, row, parts}
use Rattle.x5_model_typed.specs.Forms.{Primitive, Joined, JoinedBits}
use Rattle.x5_model_typed.specs.Judged.{leaf_node}
use Rattle.x5_model_typed.specs.Leaves.{any_octets, is_place, octets_in, placed, where_so, boolean, null, number_octets}
use Rattle.x5_model_typed.specs.Leaves.{is_short_number, number, cons_to, oid_octets, oid, octet_string, is_length}
use Rattle.x5_model_typed.specs.Leaves.{text_where, cells, is_character, are_characters, universal_string, options}
use Rattle.x5_model_typed.specs.Written.{leaf_octets, bit_content}
use Rattle.x5_model_typed.specs.Layouts.{Surroundings, time_leaf}
use Rattle.x5_model_typed_laws.specs.Fits.{ReadsBack, ClockReadsBack}
use Rattle.x5_model_typed_laws.proofs.Numbers.{number_back}
use Rattle.x5_model_typed_laws.proofs.Oids.{oid_back}

-- what a test lets through
pub so : {X : Type 0} (b : Bool) (x y : X) → where_so b x ≡ Some y → (b ≡ true) × (x ≡ y)
so true x y h = (refl, cc)
so false x y h = absurd (cc h)

pub let_through : {X : Type 0} (b : Bool) (x : X) → b ≡ true → where_so b x ≡ Some x
let_through true x h = refl
let_through false x h = absurd (cc h)

pub some_is : {X : Type 0} (x y : X) → (let o : Option X = Some x in o) ≡ Some y → x ≡ y
some_is x y h = cc

-- ---- BOOLEAN and NULL

pub boolean_back : ReadsBack (Primitive boolean)
boolean_back Vacant octets h = absurd (cc h)
boolean_back (Flag true) octets h = ap boolean.reads (sym (some_is (255 ∷ []) octets h))
boolean_back (Flag false) octets h = ap boolean.reads (sym (some_is (0 ∷ []) octets h))
boolean_back (Number k) octets h = absurd (cc h)
boolean_back (Oid arcs) octets h = absurd (cc h)
boolean_back (Bits bits) octets h = absurd (cc h)
boolean_back (Octets o) octets h = absurd (cc h)
boolean_back (Text t) octets h = absurd (cc h)
boolean_back (Chosen tag m) octets h = absurd (cc h)
boolean_back (Many ns) octets h = absurd (cc h)

pub null_back : ReadsBack (Primitive null)
null_back Vacant octets h = ap null.reads (sym (some_is [] octets h))
null_back (Flag b) octets h = absurd (cc h)
null_back (Number k) octets h = absurd (cc h)
null_back (Oid arcs) octets h = absurd (cc h)
null_back (Bits bits) octets h = absurd (cc h)
null_back (Octets o) octets h = absurd (cc h)
null_back (Text t) octets h = absurd (cc h)
null_back (Chosen tag m) octets h = absurd (cc h)
null_back (Many ns) octets h = absurd (cc h)

-- ---- INTEGER and ENUMERATED

pub number_reads_back : (test : ℤ → Bool) → ReadsBack (Primitive (number test))
number_reads_back test Vacant octets h = absurd (cc h)
number_reads_back test (Flag b) octets h = absurd (cc h)
number_reads_back test (Number k) octets h =
    let w = so (is_short_number k && test k) (number_octets k) octets h in
    let v = both_true (is_short_number k) (test k) w.0 in
    ap (number test).reads (sym w.1)
    ∙ ap (λ (o : Option ℤ). in_option None (λ j. where_so (test j) (Number j)) o) (number_back k v.0)
    ∙ let_through (test k) (Number k) v.1
number_reads_back test (Oid arcs) octets h = absurd (cc h)
number_reads_back test (Bits bits) octets h = absurd (cc h)
number_reads_back test (Octets o) octets h = absurd (cc h)
number_reads_back test (Text t) octets h = absurd (cc h)
number_reads_back test (Chosen tag m) octets h = absurd (cc h)
number_reads_back test (Many ns) octets h = absurd (cc h)

-- ---- OBJECT IDENTIFIER

pub oid_reads_back : (test : List ℕ → Bool) → ReadsBack (Primitive (oid test))
oid_reads_back test Vacant octets h = absurd (cc h)
oid_reads_back test (Flag b) octets h = absurd (cc h)
oid_reads_back test (Number k) octets h = absurd (cc h)
oid_reads_back test (Oid arcs) octets h =
    let w = so (is_oid arcs && test arcs) (oid_octets arcs) octets h in
    let v = both_true (is_oid arcs) (test arcs) w.0 in
    ap (oid test).reads (sym w.1)
    ∙ ap (λ (o : Option (List ℕ)). in_option None (λ l. where_so (test l) (Oid l)) o) (oid_back arcs v.0)
    ∙ let_through (test arcs) (Oid arcs) v.1
oid_reads_back test (Bits bits) octets h = absurd (cc h)
oid_reads_back test (Octets o) octets h = absurd (cc h)
oid_reads_back test (Text t) octets h = absurd (cc h)
oid_reads_back test (Chosen tag m) octets h = absurd (cc h)
oid_reads_back test (Many ns) octets h = absurd (cc h)

-- ---- strings

pub octets_back : ReadsBack (Joined octet_string)
octets_back Vacant octets h = absurd (cc h)
octets_back (Flag b) octets h = absurd (cc h)
octets_back (Number k) octets h = absurd (cc h)
octets_back (Oid arcs) octets h = absurd (cc h)
octets_back (Bits bits) octets h = absurd (cc h)
octets_back (Octets o) octets h =
    let w = so (nat_le (length o) most_octets) o octets h in
    ap octet_string.reads (sym w.1) ∙ let_through (nat_le (length o) most_octets) (Octets o) w.0
octets_back (Text t) octets h = absurd (cc h)
octets_back (Chosen tag m) octets h = absurd (cc h)
octets_back (Many ns) octets h = absurd (cc h)

pub any_octets_back : ReadsBack (Primitive any_octets)
any_octets_back Vacant octets h = absurd (cc h)
any_octets_back (Flag b) octets h = absurd (cc h)
any_octets_back (Number k) octets h = absurd (cc h)
any_octets_back (Oid arcs) octets h = absurd (cc h)
any_octets_back (Bits bits) octets h = absurd (cc h)
any_octets_back (Octets o) octets h = ap any_octets.reads (sym (some_is o octets h))
any_octets_back (Text t) octets h = absurd (cc h)
any_octets_back (Chosen tag m) octets h = absurd (cc h)
any_octets_back (Many ns) octets h = absurd (cc h)

place_so : (place : ℕ) (n : Node) → is_place place n ≡ true → n ≡ whole place
place_so place (Number (pos k)) h = ap whole (eqb-true k place h)
place_so place (Number (negsuc k)) h = absurd (cc h)
place_so place Vacant h = absurd (cc h)
place_so place (Flag b) h = absurd (cc h)
place_so place (Oid arcs) h = absurd (cc h)
place_so place (Bits bits) h = absurd (cc h)
place_so place (Octets o) h = absurd (cc h)
place_so place (Text t) h = absurd (cc h)
place_so place (Chosen tag m) h = absurd (cc h)
place_so place (Many ns) h = absurd (cc h)

octets_so : (n : Node) (octets : List ℕ) → octets_in n ≡ Some octets → n ≡ Octets octets
octets_so (Octets o) octets h = ap Octets (some_is o octets h)
octets_so (Number k) octets h = absurd (cc h)
octets_so Vacant octets h = absurd (cc h)
octets_so (Flag b) octets h = absurd (cc h)
octets_so (Oid arcs) octets h = absurd (cc h)
octets_so (Bits bits) octets h = absurd (cc h)
octets_so (Text t) octets h = absurd (cc h)
octets_so (Chosen tag m) octets h = absurd (cc h)
octets_so (Many ns) octets h = absurd (cc h)

abbrev placed_node : ℕ → List ℕ → Node
placed_node place octets = Many (row (whole place ∷ Octets octets ∷ []))

two_back : (place : ℕ) (p q : Node) (octets : List ℕ) (b : Bool) → is_place place p ≡ b
    → (if b then octets_in q else None) ≡ Some octets
    → (let o : Option Node = Some (placed_node place octets) in o) ≡ Some (Many (row (p ∷ q ∷ [])))
two_back place p q octets true e h =
    ap (λ (x : Node). Some (Many (row (x ∷ Octets octets ∷ [])))) (sym (place_so place p e))
    ∙ ap (λ (x : Node). Some (Many (row (p ∷ x ∷ [])))) (sym (octets_so q octets h))
two_back place p q octets false e h = absurd (cc h)

pub placed_back : (place : ℕ) → ReadsBack (Primitive (placed place))
placed_back place Vacant octets h = absurd (cc h)
placed_back place (Flag b) octets h = absurd (cc h)
placed_back place (Number k) octets h = absurd (cc h)
placed_back place (Oid arcs) octets h = absurd (cc h)
placed_back place (Bits bits) octets h = absurd (cc h)
placed_back place (Octets o) octets h = absurd (cc h)
placed_back place (Text t) octets h = absurd (cc h)
placed_back place (Chosen tag m) octets h = absurd (cc h)
placed_back place (Many nodes.Nil) octets h = absurd (cc h)
placed_back place (Many (nodes.More p nodes.Nil)) octets h = absurd (cc h)
placed_back place (Many (nodes.More p (nodes.More q nodes.Nil))) octets h =
    two_back place p q octets (is_place place p) refl h
placed_back place (Many (nodes.More p (nodes.More q (nodes.More r rs)))) octets h = absurd (cc h)

pub text_back : (test : List ℕ → Bool) → ReadsBack (Joined (text_where test))
text_back test Vacant octets h = absurd (cc h)
text_back test (Flag b) octets h = absurd (cc h)
text_back test (Number k) octets h = absurd (cc h)
text_back test (Oid arcs) octets h = absurd (cc h)
text_back test (Bits bits) octets h = absurd (cc h)
text_back test (Octets o) octets h = absurd (cc h)
text_back test (Text t) octets h =
    let w = so (test t) t octets h in
    ap (text_where test).reads (sym w.1) ∙ let_through (test t) (Text t) w.0
text_back test (Chosen tag m) octets h = absurd (cc h)
text_back test (Many ns) octets h = absurd (cc h)

character_small : (c : ℕ) → is_character c ≡ true → c < 2 ^ 32
character_small c h = elim (either_true (nat_lt c 55296) (nat_lt 57343 c && nat_lt c 1114112) h) [
  | inl e ↦ (let l : c < 55296 = ltb-true c 55296 e in omega arith)
  | inr e ↦
      (let l : c < 1114112 = ltb-true c 1114112 (both_true (nat_lt 57343 c) (nat_lt c 1114112) e).1 in omega arith)
]

cell_gives : (c : ℕ) → c < 2 ^ 32 → big_endian 0 (to_be_bytes w32 c) ≡ c
cell_gives c small = omega arith

cells_back : (cs : List ℕ) → list_all is_character cs ≡ true → cells (flat_map (to_be_bytes w32) cs) ≡ Some cs
cells_back [] h = refl
cells_back (c ∷ cs) h =
    let w = both_true (is_character c) (list_all is_character cs) h in
    ap (λ (o : Option (List ℕ)). cons_to o (big_endian 0 (to_be_bytes w32 c))) (cells_back cs w.1)
    ∙ ap (λ (k : ℕ). cons_to (Some cs) k) (cell_gives c (character_small c w.0))

pub universal_back : ReadsBack (Joined universal_string)
universal_back Vacant octets h = absurd (cc h)
universal_back (Flag b) octets h = absurd (cc h)
universal_back (Number k) octets h = absurd (cc h)
universal_back (Oid arcs) octets h = absurd (cc h)
universal_back (Bits bits) octets h = absurd (cc h)
universal_back (Octets o) octets h = absurd (cc h)
universal_back (Text t) octets h =
    let w = so (are_characters t && is_length t) (flat_map (to_be_bytes w32) (chars t)) octets h in
    let v = both_true (are_characters t) (is_length t) w.0 in
    let u = both_true (list_all is_character (chars t)) (same_octets (encode_utf8_all (chars t)) t) v.0 in
    let same : encode_utf8_all (chars t) ≡ t = (bytes_decides (encode_utf8_all (chars t)) t).0 u.1 in
    let fine : (list_all is_character (chars t) && is_length (encode_utf8_all (chars t))) ≡ true =
    and_true (list_all is_character (chars t)) (is_length (encode_utf8_all (chars t))) u.0
    (ap is_length same ∙ v.1) in
    ap universal_string.reads (sym w.1)
    ∙ ap
    (λ (o : Option (List ℕ)). in_option None (λ cs. where_so (list_all is_character cs && is_length (encode_utf8_all cs)) (Text (encode_utf8_all cs))) o)
    (cells_back (chars t) u.0)
    ∙ let_through (list_all is_character (chars t) && is_length (encode_utf8_all (chars t)))
    (Text (encode_utf8_all (chars t))) fine
    ∙ ap (λ (l : List ℕ). Some (Text l)) same
universal_back (Chosen tag m) octets h = absurd (cc h)
universal_back (Many ns) octets h = absurd (cc h)

-- a time, where the clock reads what it writes
pub time_back : (w : Surroundings) → ClockReadsBack w → ReadsBack (Joined (time_leaf w))
time_back w clock Vacant octets h = absurd (cc h)
time_back w clock (Flag b) octets h = absurd (cc h)
time_back w clock (Number (pos m)) octets h = rw (clock m octets h) (rw h refl)
time_back w clock (Number (negsuc m)) octets h = absurd (cc h)
time_back w clock (Oid arcs) octets h = absurd (cc h)
time_back w clock (Bits bits) octets h = absurd (cc h)
time_back w clock (Octets o) octets h = absurd (cc h)
time_back w clock (Text t) octets h = absurd (cc h)
time_back w clock (Chosen tag m) octets h = absurd (cc h)
time_back w clock (Many ns) octets h = absurd (cc h)

-- ---- the options

two_flags : (a b : Bool) (octets : List ℕ)
    → leaf_octets (JoinedBits options) (Many (row (Flag a ∷ Flag b ∷ []))) ≡ Some octets
    → leaf_node (JoinedBits options) octets ≡ Some (Many (row (Flag a ∷ Flag b ∷ [])))
two_flags true true octets h =
    ap (leaf_node (JoinedBits options)) (sym (some_is (bit_content (false ∷ true ∷ false ∷ true ∷ [])) octets h))
two_flags true false octets h =
    ap (leaf_node (JoinedBits options)) (sym (some_is (bit_content (false ∷ false ∷ false ∷ true ∷ [])) octets h))
two_flags false true octets h =
    ap (leaf_node (JoinedBits options)) (sym (some_is (bit_content (false ∷ true ∷ [])) octets h))
two_flags false false octets h = ap (leaf_node (JoinedBits options)) (sym (some_is (bit_content []) octets h))

pub options_back : ReadsBack (JoinedBits options)
options_back Vacant octets h = absurd (cc h)
options_back (Flag b) octets h = absurd (cc h)
options_back (Number k) octets h = absurd (cc h)
options_back (Oid arcs) octets h = absurd (cc h)
options_back (Bits bits) octets h = absurd (cc h)
options_back (Octets o) octets h = absurd (cc h)
options_back (Text t) octets h = absurd (cc h)
options_back (Chosen tag m) octets h = absurd (cc h)
options_back (Many (nodes.More (Flag true) (nodes.More (Flag b) nodes.Nil))) octets h = two_flags true b octets h
options_back (Many (nodes.More (Flag false) (nodes.More (Flag true) nodes.Nil))) octets h =
    two_flags false true octets h
options_back (Many (nodes.More (Flag false) (nodes.More (Flag false) nodes.Nil))) octets h =
    two_flags false false octets h
options_back (Many ns) octets h = absurd (cc h)
