-- Values, each from what is found of it.
use Rattle.std.proofs.Common.{◌≡◌, ℕ, ◌+◌, ◌*◌, ◌≤◌, ◌<◌, nat_le, Bool, true, false, List, [], ◌∷◌, length, refl}
use Rattle.std.proofs.Common.{arith, lit<, lit≤, if◌then◌else◌}
use Rattle.std.specs.declared.option.Option.TheVariants.{None, Some}
use Rattle.std.proofs.lemmas.Bool.{ne_eqb, lt-ltb, le-leb}
use Rattle.x5_model.specs.Normal.{is_oid}
use Rattle.x5_model.specs.Values.{TextValue, OctetsValue, OidValue}
use Rattle.x5_model_typed.specs.Nodes.{Node, Oid, Octets, Text}
use Rattle.x5_model_typed.specs.Named as named
use Rattle.x5_model_typed.specs.Forms.{universal, Primitive, Joined}
use Rattle.x5_model_typed.specs.Judged.{leaf_node}
use Rattle.x5_model_typed.specs.Leaves.{short_oid, oid, octet_string}
use Rattle.x5_model_typed.specs.Rules as rules
use Rattle.x5_direct.specs.Spelled.{Opens, Spelled, Reads}
use Rattle.x5_direct.proofs.Spelling.{leaf_spelled, spelled_higher}
use Rattle.x5_direct.proofs.Heads.{three_octets}
use Rattle.x5_direct.proofs.Naming.{so}

higher : (n : Node) (octets rest : List ℕ) → Spelled 0 named.Value n octets rest → Spelled 3 named.Value n octets rest
higher n octets rest s = spelled_higher 0 3 named.Value n octets rest (lit≤ tt) s

pub text_value : (t octets rest : List ℕ) → Spelled 0 named.Value (Text t) octets rest
    → Reads 3 named.Value rules.value_in (TextValue t) octets rest
text_value t octets rest s = (Text t, higher (Text t) octets rest s, refl)

oid_reads : (f k : ℕ) → f < 128 → k < 128
    → leaf_node (Primitive (oid short_oid)) (85 ∷ f ∷ k ∷ []) ≡ Some (Oid (2 ∷ 5 ∷ f ∷ k ∷ []))
oid_reads f k low small =
    rw (
      ne_eqb f 128 (λ e. omega (arith, low, e)),
      lt-ltb f 128 low,
      ne_eqb k 128 (λ e. omega (arith, small, e)),
      lt-ltb k 128 small,
    )
    (let same : 0 * 128 + k ≡ k = omega arith in
    let alike : 0 * 128 + f ≡ f = omega arith in
    rw (
      same,
      alike,
      lt-ltb k 4294967296 (omega (arith, small)),
      lt-ltb f 4294967296 (omega (arith, low)),
      lt-ltb f 128 low,
      lt-ltb k 128 small,
    ) refl)

pub oid_found : (arcs o : List ℕ) → Some o ≡ (if is_oid arcs then Some arcs else None) → o ≡ arcs
oid_found arcs o e = by (is_oid arcs) e
  where
    by : (b : Bool) → Some o ≡ (if b then Some arcs else None) → o ≡ arcs
    by true h = cc h
    by false h = absurd (cc h)

pub oid_value : (f k : ℕ) (rest : List ℕ) → f < 128 → k < 128
    → Reads 3 named.Value rules.value_in (OidValue (2 ∷ 5 ∷ f ∷ k ∷ [])) (6 ∷ 3 ∷ 85 ∷ f ∷ k ∷ rest) rest
oid_value f k rest low small =
    let n : Node = Oid (2 ∷ 5 ∷ f ∷ k ∷ []) in (
      n,
      higher n (6 ∷ 3 ∷ 85 ∷ f ∷ k ∷ rest) rest
          (leaf_spelled named.Value 6 0 6 (universal 6 (Primitive (oid short_oid))) n n (85 ∷ f ∷ k ∷ [])
          (6 ∷ 3 ∷ 85 ∷ f ∷ k ∷ rest) rest (three_octets 6 85 f k rest (lit< tt) (lit< tt)) refl (lit< tt) (λ w. refl)
          (oid_reads f k low small) refl),
      refl,
    )

pub octets_value : (content octets rest : List ℕ) → Opens 4 content octets rest → length content ≤ 1024
    → Reads 3 named.Value rules.value_in (OctetsValue content) octets rest
octets_value content octets rest o few =
    let n : Node = Octets content in (
      n,
      higher n octets rest
          (leaf_spelled named.Value 4 0 4 (universal 4 (Joined octet_string)) n n content octets rest o refl (lit< tt)
          (λ w. refl) (so (nat_le (length content) 1024) n (le-leb (length content) 1024 few)) refl),
      refl,
    )
