-- What the impls of `PartialEq`, `Eq`, `PartialOrd` and `Ord` owe of the order of rows, from the laws of keys.
use Rattle.std.specs.Prelude.{◌≡◌}
use Rattle.std.proofs.Common.{rules}
use Rattle.std.specs.Cmp.{IsTotalOrder, IsPartialEquivalence, IsEquivalence, IsPartialOrder, nat_cmp_total, on_total}
use Rattle.std.specs.Cmp.{then_total, partial_order_from_own_ties}
use Rattle.std.specs.Cmp.Rules.{comparing}
use Rattle.std.specs.Cmp.Lexicographic.{lists_per, lists_equiv}
use Rattle.x5_names.specs.KeyOrder.{same_pair_laws, same_pair_equivalence}
use Rattle.std.specs.Ordering.{as_partial_cmp, eq_by_cmp}
use Rattle.x5_model.specs.Keys.{same_key}
use Rattle.x5_model.proofs.KeyLaws.{key_cmp_total, key_ties}
use Rattle.x5_check.specs.Rows.{KeyRow, same_row, row_cmp}

key_laws : IsPartialEquivalence same_key
key_laws = lists_per (lists_per same_pair_laws)

key_equivalence : IsEquivalence same_key
key_equivalence = lists_equiv (lists_equiv same_pair_equivalence)

pub same_row_laws : IsPartialEquivalence same_row
same_row_laws = search (comparing, rules, key_laws)

pub same_row_equivalence : IsEquivalence same_row
same_row_equivalence = search (comparing, rules, key_equivalence)

pub row_cmp_total : IsTotalOrder row_cmp
row_cmp_total = then_total (on_total (λ (p : KeyRow). p.0) key_cmp_total) (on_total (λ (p : KeyRow). p.1) nat_cmp_total)

pub row_ties : (x y : KeyRow) → same_row x y ≡ eq_by_cmp row_cmp x y
row_ties = search (comparing, rules, key_ties)

pub row_partial_order : IsPartialOrder same_row (as_partial_cmp row_cmp)
row_partial_order = search (comparing, rules, row_cmp_total, row_ties, partial_order_from_own_ties)
