-- The key of a name as it is stored is that of its texts: pair by pair.
use Rattle.std.proofs.Common.{◌≡◌, ℕ, List, [], ◌∷◌, map, refl, ap, sym, ◌∙◌}
use Rattle.x5_model.specs.Keys.{KeyPair, KeyRdn, Key, same_key}
use Rattle.x5_model.specs.Normal.{normal_pair, stored, stored_pair, stored_rdn, written_key}
use Rattle.x5_model.specs.Values.{NameValue, Text, key_of, key_of_pair, key_of_rdn}

key_stored_rdn : (r : List (ℕ × Text)) → map key_of_pair (map stored_pair r) ≡ map normal_pair r
key_stored_rdn [] = refl
key_stored_rdn (p ∷ r) = ap (λ (k : KeyRdn). normal_pair p ∷ k) (key_stored_rdn r)

pub key_stored : (n : NameValue) → key_of (stored n) ≡ written_key n
key_stored [] = refl
key_stored (r ∷ n) =
    ap (λ (k : KeyRdn). k ∷ key_of (stored n)) (key_stored_rdn r) ∙ ap (λ (k : Key). map normal_pair r ∷ k) (key_stored n)
