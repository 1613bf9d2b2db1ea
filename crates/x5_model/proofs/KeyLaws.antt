-- The laws of keys: the tests decide `≡`, and the order is total with `≡` as its ties.
use Rattle.std.specs.Prelude.{◌≡◌, ℕ, Bool, true, false, ◌&&◌, ◌==◌}
use Rattle.std.specs.Bool.{Decides}
use Rattle.std.specs.Cmp.{IsTotalOrder, tied_itself, Equal-is, nat_cmp_total, on_total, then_total}
use Rattle.std.specs.Cmp.Rules.{comparing}
use Rattle.std.specs.Cmp.Lexicographic.{pointwise, pointwise_decides, bytes_decides, lists_total, lists_ties, nat_list_cmp_total}
use Rattle.std.specs.declared.cmp.Ordering.{Ordering}
use Rattle.std.specs.declared.cmp.Ordering.TheVariants.{Less, Equal, Greater}
use Rattle.std.specs.Ordering.{is_lt, ordering_reverse, eq_by_cmp}
use Rattle.std.proofs.Common.{refl, sym, ap, ◌∙◌, rules, arith}
use Rattle.x5_model.specs.Keys.{KeyPair, KeyRdn, Key, same_pair, same_rdn, same_key, pair_cmp, rdn_cmp, key_cmp, key_below}

first_of_two : (a b : Bool) → (a && b) ≡ true → a ≡ true
first_of_two true b e = refl
first_of_two false b e = e

second_of_two : (a b : Bool) → (a && b) ≡ true → b ≡ true
second_of_two true b e = e
second_of_two false b e = cc

nat_decides : (x y : ℕ) → Decides (x == y) (x ≡ y)
nat_decides x y = (λ e. grind arith, λ e. grind arith)

pub pair_decides : (x y : KeyPair) → Decides (same_pair x y) (x ≡ y)
pair_decides x y = (equal, λ e. ap (same_pair x) (sym e) ∙ itself)
  where
    equal : same_pair x y ≡ true → x ≡ y
    equal e =
        let a : x.0 ≡ y.0 = (nat_decides x.0 y.0).0 (first_of_two _ _ e) in
        let b : x.1 ≡ y.1 = (bytes_decides x.1 y.1).0 (second_of_two (x.0 == y.0) _ e) in
        λ i. (a i, b i)

    itself : same_pair x x ≡ true
    itself =
        let a : (x.0 == x.0) ≡ true = (nat_decides x.0 x.0).1 refl in
        let b : pointwise ◌==◌ x.1 x.1 ≡ true = (bytes_decides x.1 x.1).1 refl in
        λ i. a i && b i

pub rdn_decides : (x y : KeyRdn) → Decides (same_rdn x y) (x ≡ y)
rdn_decides = pointwise_decides pair_decides

pub key_decides : (x y : Key) → Decides (same_key x y) (x ≡ y)
key_decides = pointwise_decides rdn_decides

pub pair_cmp_total : IsTotalOrder pair_cmp
pair_cmp_total = then_total (on_total (λ (p : KeyPair). p.0) nat_cmp_total) (on_total (λ (p : KeyPair). p.1) nat_list_cmp_total)

pub rdn_cmp_total : IsTotalOrder rdn_cmp
rdn_cmp_total = lists_total pair_cmp_total

-- the order of keys is total
pub key_cmp_total : IsTotalOrder key_cmp
key_cmp_total = lists_total rdn_cmp_total

pub pair_ties : (x y : KeyPair) → same_pair x y ≡ eq_by_cmp pair_cmp x y
pair_ties = search (comparing, rules)

pub rdn_ties : (x y : KeyRdn) → same_rdn x y ≡ eq_by_cmp rdn_cmp x y
rdn_ties = lists_ties pair_cmp pair_ties

pub key_ties : (x y : Key) → same_key x y ≡ eq_by_cmp key_cmp x y
key_ties = lists_ties rdn_cmp rdn_ties

-- its ties are equality
pub equal_keys : (x y : Key) → key_cmp x y ≡ Equal → x ≡ y
equal_keys x y e = (key_decides x y).0 (key_ties x y ∙ (Equal-is (key_cmp x y)).1 e)

pub key_itself : (x : Key) → key_cmp x x ≡ Equal
key_itself = tied_itself key_cmp_total

is_less : (o : Ordering) → is_lt o ≡ true → o ≡ Less
is_less Less e = refl
is_less Equal e = cc
is_less Greater e = cc

-- below is irreflexive, transitive, and of two keys that aren't below each other it tells that they are one
pub never_below : (x : Key) → key_below x x ≡ true → ⊥
never_below x e =
    let h : key_below x x ≡ false = ap is_lt (key_itself x) in
    cc

pub below_chain : (x y z : Key) → key_below x y ≡ true → key_below y z ≡ true → key_below x z ≡ true
below_chain x y z p q = ap is_lt (key_cmp_total.trans x y z (is_less _ p) (is_less _ q))

pub neither_below : (x y : Key) → key_below x y ≡ false → key_below y x ≡ false → x ≡ y
neither_below x y p q = equal_keys x y (level (key_cmp x y) (key_cmp y x) (key_cmp_total.antisymm x y) p q)
  where
    level : (r s : Ordering) → r ≡ ordering_reverse s → is_lt r ≡ false → is_lt s ≡ false → r ≡ Equal
    level Less s e p q = cc
    level Equal s e p q = refl
    level Greater Less e p q = cc
    level Greater Equal e p q = cc
    level Greater Greater e p q = cc
