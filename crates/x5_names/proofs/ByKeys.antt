-- What is compared or hashed pair by pair and RDN by RDN is compared and hashed by key.
use Rattle.std.proofs.Common.{◌≡◌, sym}
use Rattle.std.specs.Cmp.Derive.Mapped.{pointwise-map, lex_map, items_map}
use Rattle.std.specs.Cmp.Lexicographic.{pointwise, slice_cmp}
use Rattle.std.specs.Hash.{slice}
use Rattle.x5_model.specs.Keys.{same_pair, same_rdn, same_key, pair_cmp, rdn_cmp, key_cmp}
use Rattle.x5_model.specs.Values.{Rdn, Name, key_of_pair, key_of_rdn, key_of}
use Rattle.x5_names.specs.KeyHash.{pair_writes, rdn_writes, key_writes}

pub same_rdns : (a b : Rdn) → pointwise (λ x y. same_pair (key_of_pair x) (key_of_pair y)) a b
    ≡ same_rdn (key_of_rdn a) (key_of_rdn b)
same_rdns a b = sym (pointwise-map key_of_pair same_pair a b)

pub same_names : (a b : Name) → pointwise (λ x y. same_rdn (key_of_rdn x) (key_of_rdn y)) a b
    ≡ same_key (key_of a) (key_of b)
same_names a b = sym (pointwise-map key_of_rdn same_rdn a b)

pub rdns_cmp : (a b : Rdn) → slice_cmp (λ x y. pair_cmp (key_of_pair x) (key_of_pair y)) a b
    ≡ rdn_cmp (key_of_rdn a) (key_of_rdn b)
rdns_cmp a b = sym (lex_map key_of_pair pair_cmp a b)

pub names_cmp : (a b : Name) → slice_cmp (λ x y. rdn_cmp (key_of_rdn x) (key_of_rdn y)) a b
    ≡ key_cmp (key_of a) (key_of b)
names_cmp a b = sym (lex_map key_of_rdn rdn_cmp a b)

pub rdn_hash : (r : Rdn) → slice (λ p. pair_writes (key_of_pair p)) r ≡ rdn_writes (key_of_rdn r)
rdn_hash r = sym (items_map key_of_pair pair_writes r)

pub name_hash : (n : Name) → slice (λ r. rdn_writes (key_of_rdn r)) n ≡ key_writes (key_of n)
name_hash n = sym (items_map key_of_rdn rdn_writes n)
