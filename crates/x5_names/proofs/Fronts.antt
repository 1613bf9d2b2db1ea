-- The front of a name's RDNs, that is as long as the name at most, is the front of its key.
use Rattle.std.proofs.Common.{◌≡◌, ℕ, min, length, take, sym, ◌∙◌, ap, inl, inr, arith, take_all}
use Rattle.std.proofs.lemmas.Bool.{cases_lt}
use Rattle.std.proofs.lemmas.List.{take-map, length-map}
use Rattle.std.specs.Cmp.Derive.Mapped.{pointwise-map}
use Rattle.std.specs.Cmp.Lexicographic.{pointwise}
use Rattle.x5_model.specs.Keys.{is_prefix, same_key, same_rdn}
use Rattle.x5_model.specs.Values.{Name, key_of, key_of_rdn}

take_min : (n : ℕ) (k : Name) → take (min n (length k)) k ≡ take n k
take_min n k = elim (cases_lt (length k) n) [
  | inl longer ↦ (
      let e : min n (length k) ≡ length k = omega arith in
      ap (λ m. take m k) e ∙ take_all (length k) k (omega arith) ∙ sym (take_all n k (omega arith)))
  | inr within ↦ (let e : min n (length k) ≡ n = omega arith in ap (λ m. take m k) e)
]

-- the key of the first RDNs is the front of the key
pub key_front : (n : ℕ) (a : Name) → key_of (take n a) ≡ take n (key_of a)
key_front n a = sym (take-map key_of_rdn n a)

pub front_is : (a b : Name)
    → pointwise (λ x y. same_rdn (key_of_rdn x) (key_of_rdn y)) (take (min (length a) (length b)) b) a
    ≡ is_prefix (key_of a) (key_of b)
front_is a b =
    let shorter : take (min (length a) (length b)) b ≡ take (length (key_of a)) b =
    take_min (length a) b ∙ ap (λ n. take n b) (sym (length-map a key_of_rdn)) in
    let front : key_of (take (min (length a) (length b)) b) ≡ take (length (key_of a)) (key_of b) =
    ap key_of shorter ∙ key_front (length (key_of a)) b in
    sym (pointwise-map key_of_rdn same_rdn (take (min (length a) (length b)) b) a)
    ∙ ap (λ k. same_key k (key_of a)) front
