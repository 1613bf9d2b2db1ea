-- What a name is compared by (X.501, section 9: names): a list of keys of RDNs from the root,
-- each a list of pairs of a type number and a normal value, in the order of type numbers.
-- On keys `≡` is sameness, a prefix is a `take`, and so is a parent.
use Rattle.std.specs.Prelude.{◌≡◌, ℕ, ◌+◌, ◌-◌, Bool, ◌&&◌, ◌==◌, nat_lt, List, [], length, take}
use Rattle.std.specs.Cmp.Lexicographic.{pointwise, slice_cmp}
use Rattle.std.specs.declared.cmp.Ordering.{Ordering}
use Rattle.std.specs.Ordering.{is_lt, ordering_then, nat_cmp}

-- a type number and the octets of a normal value
abbrev pub KeyPair : Type 0
KeyPair = ℕ × List ℕ

abbrev pub KeyRdn : Type 0
KeyRdn = List KeyPair

abbrev pub Key : Type 0
Key = List KeyRdn

-- the root is no entry
abbrev pub root : Key
root = []

-- the first RDNs of the name are those
abbrev pub IsPrefix : Key → Key → Type 0
IsPrefix a b = take (length a) b ≡ a

-- all RDNs but the last
abbrev pub parent : Key → Key
parent a = take (length a - 1) a

-- the same by tests, for what is computed
abbrev pub same_pair : KeyPair → KeyPair → Bool
same_pair a b = (a.0 == b.0) && pointwise ◌==◌ a.1 b.1

abbrev pub same_rdn : KeyRdn → KeyRdn → Bool
same_rdn a b = pointwise same_pair a b

abbrev pub same_key : Key → Key → Bool
same_key a b = pointwise same_rdn a b

abbrev pub is_prefix : Key → Key → Bool
is_prefix a b = same_key (take (length a) b) a

abbrev pub is_root : Key → Bool
is_root a = length a == 0

-- just below
abbrev pub is_child : Key → Key → Bool
is_child above a = (length a == (length above + 1)) && is_prefix above a

-- below, and not the same
abbrev pub is_below : Key → Key → Bool
is_below above a = nat_lt (length above) (length a) && is_prefix above a

-- the order, which is this project's own: RDN by RDN and a prefix first; RDNs pair by pair, by type number and then by
-- the octets
abbrev pub pair_cmp : KeyPair → KeyPair → Ordering
pair_cmp a b = ordering_then (nat_cmp a.0 b.0) (slice_cmp nat_cmp a.1 b.1)

abbrev pub rdn_cmp : KeyRdn → KeyRdn → Ordering
rdn_cmp a b = slice_cmp pair_cmp a b

abbrev pub key_cmp : Key → Key → Ordering
key_cmp a b = slice_cmp rdn_cmp a b

abbrev pub key_below : Key → Key → Bool
key_below a b = is_lt (key_cmp a b)
