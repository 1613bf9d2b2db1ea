-- Names that are spelled alike are one name: type by type, text by text and normal form by normal form.
use Rattle.std.proofs.Common.{◌≡◌, ◌==◌, ◌&&◌, true, [], ◌∷◌, refl}
use Rattle.std.specs.Cmp.Lexicographic.{pointwise, bytes_decides}
use Rattle.x5_model.specs.Words.{same_octets}
use Rattle.x5_model.specs.Values.{Pair, Rdn, Name}
use Rattle.x5_model.proofs.Lists.{both_true}
use Rattle.x5_model.proofs.Decide.{nat_same_decides}
use Rattle.x5_model_tree.specs.Described.{same_pair_spelled, same_spelling}

one_pair : (p q : Pair) → same_pair_spelled p q ≡ true → p ≡ q
one_pair p q e =
    let w = both_true (p.kind == q.kind) (same_octets p.text q.text && same_octets p.normal q.normal) e in
    let v = both_true (same_octets p.text q.text) (same_octets p.normal q.normal) w.1 in
    let kind : p.kind ≡ q.kind = (nat_same_decides p.kind q.kind).0 w.0 in
    let text : p.text ≡ q.text = (bytes_decides p.text q.text).0 v.0 in
    let normal : p.normal ≡ q.normal = (bytes_decides p.normal q.normal).0 v.1 in
    λ i. record { kind = kind i; text = text i; normal = normal i }

one_rdn : (r s : Rdn) → pointwise same_pair_spelled r s ≡ true → r ≡ s
one_rdn [] [] e = refl
one_rdn [] (q ∷ s) e = cc
one_rdn (p ∷ r) [] e = cc
one_rdn (p ∷ r) (q ∷ s) e =
    let w = both_true (same_pair_spelled p q) (pointwise same_pair_spelled r s) e in
    λ i. one_pair p q w.0 i ∷ one_rdn r s w.1 i

pub one_name : (m n : Name) → same_spelling m n ≡ true → m ≡ n
one_name [] [] e = refl
one_name [] (s ∷ n) e = cc
one_name (r ∷ m) [] e = cc
one_name (r ∷ m) (s ∷ n) e =
    let w = both_true (pointwise same_pair_spelled r s) (same_spelling m n) e in
    λ i. one_rdn r s w.0 i ∷ one_name m n w.1 i
