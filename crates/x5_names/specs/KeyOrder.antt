-- What the impls of `PartialEq`, `Eq`, `PartialOrd` and `Ord` owe of the order of keys, from the laws of keys.
use Rattle.std.proofs.Common.{rules}
use Rattle.std.specs.Cmp.{IsPartialEquivalence, IsEquivalence, IsPartialOrder, partial_order_from_own_ties}
use Rattle.std.specs.Cmp.Rules.{comparing}
use Rattle.std.specs.Ordering.{as_partial_cmp}
use Rattle.x5_model.specs.Keys.{same_pair, same_rdn, same_key, pair_cmp, rdn_cmp, key_cmp}
use Rattle.x5_model.proofs.KeyLaws.{pair_cmp_total, pair_ties, rdn_cmp_total, rdn_ties, key_cmp_total, key_ties}

pub same_pair_laws : IsPartialEquivalence same_pair
same_pair_laws = search (comparing, rules)

pub same_pair_equivalence : IsEquivalence same_pair
same_pair_equivalence = search (comparing, rules)

pub pair_partial_order : IsPartialOrder same_pair (as_partial_cmp pair_cmp)
pair_partial_order = search (comparing, rules, pair_cmp_total, pair_ties, partial_order_from_own_ties)

pub rdn_partial_order : IsPartialOrder same_rdn (as_partial_cmp rdn_cmp)
rdn_partial_order = search (comparing, rules, rdn_cmp_total, rdn_ties, partial_order_from_own_ties)

pub key_partial_order : IsPartialOrder same_key (as_partial_cmp key_cmp)
key_partial_order = search (comparing, rules, key_cmp_total, key_ties, partial_order_from_own_ties)
