-- Object identifiers of the table, texts, pairs, RDNs and names, each from what is found of its parts.
use Rattle.std.proofs.Common.{◌≡◌, ℕ, ◌+◌, ◌*◌, ◌≤◌, ◌<◌, nat_lt, nat_le, Bool, true, false, List, [], ◌∷◌}
use Rattle.std.proofs.Common.{length, map, refl, ap, sym, ◌∙◌, subst, arith, lit<, drop, if◌then◌else◌}
use Rattle.std.specs.declared.option.Option.TheVariants.{None, Some}
use Rattle.std.specs.List.{list_all}
use Rattle.std.proofs.lemmas.Bool.{ne_eqb, lt-ltb, le-leb, and_parts}
use Rattle.std.proofs.lemmas.Bool.Decides.{nat_tests}
use Rattle.x5_model.specs.Types.{TextKind, PrintableKind, TelephoneKind, is_known}
use Rattle.x5_model.specs.Normal as normal
use Rattle.x5_model.specs.Normal.{is_printable, is_text_of_kind, stored, stored_rdn}
use Rattle.x5_model.specs.Values as values
use Rattle.x5_model_typed.specs.Nodes.{Node, Many, Oid, Text, row, list}
use Rattle.x5_model_typed.specs.Named as named
use Rattle.x5_model_typed.specs.Forms.{plain, ruled, universal, Primitive}
use Rattle.x5_model_typed.specs.Judged.{leaf_node}
use Rattle.x5_model_typed.specs.Leaves.{any_oid, oid, text_of, where_so}
use Rattle.x5_model_typed.specs.Layouts.{printable, sequence, sequence_of, set_of}
use Rattle.x5_model_typed.specs.Rules as rules
use Rattle.x5_model_typed.specs.Rules.{name_rule, rdn_rule, pair_rule, rdn_in, name_in}
use Rattle.x5_model_typed.proofs.Laws.{list_row}
use Rattle.x5_model_messages.specs.Terms as terms
use Rattle.x5_direct.specs.Spelled.{Opens, Spelled, Reads, ReadEach, pair_of}
use Rattle.x5_direct.proofs.Spelling.{leaf_spelled, branch_spelled, order_over, order_next, order_in, each_none}
use Rattle.x5_direct.proofs.Spelling.{each_more, each_in}
use Rattle.x5_direct.proofs.Heads.{three_octets}

pub so : (b : Bool) (n : Node) → b ≡ true → where_so b n ≡ Some n
so true n e = refl
so false n e = absurd (cc e)

-- ---- types

oid_reads : (k : ℕ) → k < 128
    → leaf_node (Primitive (oid any_oid)) (85 ∷ 4 ∷ k ∷ []) ≡ Some (Oid (2 ∷ 5 ∷ 4 ∷ k ∷ []))
oid_reads k small =
    rw (ne_eqb k 128 (λ e. omega (arith, small, e)), lt-ltb k 128 small)
    (let same : 0 * 128 + k ≡ k = omega arith in
    rw (same, lt-ltb k 4294967296 (omega (arith, small))) refl)

pub type_spelled : (k : ℕ) (rest : List ℕ) → k < 128
    → Spelled 0 named.AnyOid (terms.type_node (values.Known k)) (6 ∷ 3 ∷ 85 ∷ 4 ∷ k ∷ rest) rest
type_spelled k rest small =
    leaf_spelled named.AnyOid 6 0 6 (universal 6 (Primitive (oid any_oid))) (Oid (2 ∷ 5 ∷ 4 ∷ k ∷ []))
    (Oid (2 ∷ 5 ∷ 4 ∷ k ∷ [])) (85 ∷ 4 ∷ k ∷ []) (6 ∷ 3 ∷ 85 ∷ 4 ∷ k ∷ rest) rest
    (three_octets 6 85 4 k rest (lit< tt) (lit< tt)) refl (lit< tt) (λ w. refl) (oid_reads k small) refl

-- ---- texts

pub text_spelled : (content octets rest : List ℕ) → Opens 19 content octets rest → text_of is_printable content ≡ true
    → Spelled 0 named.Value (Text content) octets rest
text_spelled content octets rest o e =
    leaf_spelled named.Value 19 0 19 printable (Text content) (Text content) content octets rest o refl (lit< tt)
    (λ w. refl) (so (text_of is_printable content) (Text content) e) refl

-- printable texts are of most kinds of text
stands : (b : ℕ) → is_printable b ≡ true → normal.may_stand TextKind b ≡ true
stands b e = grind (arith, nat_tests)

all_stand : (t : List ℕ) → list_all is_printable t ≡ true → list_all (normal.may_stand TextKind) t ≡ true
all_stand [] e = refl
all_stand (b ∷ t) e =
    let two = and_parts (is_printable b) (list_all is_printable t) e in
    rw (stands b two.0) (all_stand t two.1)

some_there : (t : List ℕ) → text_of is_printable t ≡ true → nat_lt 0 (length t) ≡ true
some_there t e = (and_parts (nat_lt 0 (length t)) (nat_le (length t) normal.most_octets)
    (and_parts (list_all is_printable t) _ e).1).0

all_there : (t : List ℕ) → text_of is_printable t ≡ true → list_all is_printable t ≡ true
all_there t e = (and_parts (list_all is_printable t) _ e).0

pub printable_is_text : (t : List ℕ) → text_of is_printable t ≡ true → is_text_of_kind TextKind t ≡ true
printable_is_text t e = rw (all_stand t (all_there t e)) (some_there t e)

pub printable_is_printable : (t : List ℕ) → text_of is_printable t ≡ true → is_text_of_kind PrintableKind t ≡ true
printable_is_printable t e = rw (all_there t e) (some_there t e)

pub printable_is_dialled : (t : List ℕ) → text_of is_printable t ≡ true → is_text_of_kind TelephoneKind t ≡ true
printable_is_dialled t e = rw (all_there t e) (some_there t e)

-- ---- pairs

pub found_known : (n k : ℕ) → Some k ≡ (if is_known n then Some n else None) → (k ≡ n) × (is_known k ≡ true)
found_known n k e = by (is_known n) refl e
  where
    by : (b : Bool) → is_known n ≡ b → Some k ≡ (if b then Some n else None) → (k ≡ n) × (is_known k ≡ true)
    by true is h = let same : k ≡ n = cc h in (same, ap is_known same ∙ is)
    by false is h = absurd (cc h)

pair_spelled : (k : ℕ) (t content behind octets rest : List ℕ) → Opens 48 content octets rest
    → Spelled 0 named.AnyOid (terms.type_node (values.Known k)) content behind
    → Spelled 0 named.Value (Text t) behind []
    → is_known k ≡ true → normal.is_pair (k, t) ≡ true
    → Spelled 1 named.Pair (terms.pair_node (k, t)) octets rest
pair_spelled k t content behind octets rest o kind text known is =
    let n : Node = terms.pair_node (k, t) in
    branch_spelled 0 named.Pair 48 0 16
    (ruled pair_rule (sequence (plain named.AnyOid ∷ plain named.Value ∷ []))) n n content octets rest o refl
    (λ w. refl)
    (order_in 0 (plain named.AnyOid ∷ plain named.Value ∷ []) (Oid (2 ∷ 5 ∷ 4 ∷ k ∷ []) ∷ Text t ∷ []) content
    (order_next 0 named.AnyOid (plain named.Value ∷ []) (Oid (2 ∷ 5 ∷ 4 ∷ k ∷ [])) (Text t ∷ []) content behind kind
    (order_next 0 named.Value [] (Text t) [] behind [] text (order_over 0))))
    (so (rules.is_pair n) n (rw known is))

pair_said : (k : ℕ) (t : List ℕ) → is_known k ≡ true → normal.stored_pair (k, t) ≡ pair_of (terms.pair_node (k, t))
pair_said k t known = rw known refl

pub pair_read : (k : ℕ) (t content octets rest behind : List ℕ) → Opens 48 content octets rest
    → Spelled 0 named.AnyOid (terms.type_node (values.Known k)) content (drop 5 content)
    → Spelled 0 named.Value (Text t) (drop 5 content) behind → behind ≡ [] → rest ≡ []
    → is_known k ≡ true → normal.is_pair (k, t) ≡ true
    → Reads 1 named.Pair pair_of (normal.stored_pair (k, t)) octets []
pair_read k t content octets rest behind o kind text over all known is =
    let here : Spelled 0 named.Value (Text t) (drop 5 content) [] =
    subst (λ (l : List ℕ). Spelled 0 named.Value (Text t) (drop 5 content) l) over text in (
      terms.pair_node (k, t),
      subst (λ (l : List ℕ). Spelled 1 named.Pair (terms.pair_node (k, t)) octets l) all
          (pair_spelled k t content (drop 5 content) octets rest o kind here known is),
      pair_said k t known,
    )

-- ---- RDNs

pub rdn_read : (p : values.Pair) (content octets rest : List ℕ) → Opens 49 content octets rest
    → Reads 1 named.Pair pair_of p content []
    → Reads 2 named.Rdn terms.rdn_of (p ∷ []) octets rest
rdn_read p content octets rest o r =
    let n : Node = Many (row (r.0 ∷ [])) in (
      n,
      branch_spelled 1 named.Rdn 49 0 17 (ruled rdn_rule (set_of named.Pair)) n n content octets rest o refl
          (λ w. refl)
          (each_in 1 named.Pair (r.0 ∷ []) content
          (each_more 1 named.Pair r.0 [] content [] r.1 (each_none 1 named.Pair)))
          refl,
      ap (λ (q : values.Pair). q ∷ []) r.2,
    )

-- ---- names

names_said : (ns : List Node) → map terms.rdn_of ns ≡ stored (map rdn_in ns)
names_said [] = refl
names_said (n ∷ ns) = ap (λ (r : values.Name). terms.rdn_of n ∷ r) (names_said ns)

same_length : {A B : Type 0} (f : A → B) (xs : List A) → length (map f xs) ≡ length xs
same_length f [] = refl
same_length f (x ∷ xs) = let more = same_length f xs in omega (arith, more)

pub name_read : (rdns : values.Name) (content octets rest : List ℕ) → Opens 48 content octets rest
    → ReadEach 2 named.Rdn terms.rdn_of rdns content → length rdns ≤ 16
    → Reads 3 named.Name terms.name_of rdns octets rest
name_read rdns content octets rest o each few =
    let ns = each.0 in
    let n : Node = Many (row ns) in
    let size : length (list (row ns)) ≤ 16 =
    omega (arith, few, ap length (list_row ns), ap length each.2, same_length terms.rdn_of ns) in (
      n,
      branch_spelled 2 named.Name 48 0 16 (ruled name_rule (sequence_of named.Rdn)) n n content octets rest o refl
          (λ w. refl) (each_in 2 named.Rdn ns content each.1)
          (so (nat_le (length (list (row ns))) 16) n (le-leb (length (list (row ns))) 16 size)),
      each.2 ∙ names_said ns ∙ ap (λ (l : List Node). stored (map rdn_in l)) (sym (list_row ns)),
    )

pub ruleset printables = (printable_is_text, printable_is_printable, printable_is_dialled)
