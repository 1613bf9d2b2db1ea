-- Counts of blocks are sums of numbers: what holds of sums holds of each kind of line.
use Rattle.std.proofs.Common.{◌≡◌, ℕ, ◌+◌, [], ◌∷◌, ap, ◌∙◌, arith}
use Rattle.x5_model_output.specs.Summary.{Counts, no_counts, both, block_counts, counts_of, capped}
use Rattle.x5_model_output.specs.Summary.{OneMoreAdds, CappedOnTheWay}

none_first : (n : ℕ) → n + 0 ≡ 0 + n
none_first n = omega arith

three : (a b c : ℕ) → a + (b + c) ≡ a + b + c
three a b c = omega arith

alone : (c : Counts) → both c no_counts ≡ both no_counts c
alone c =
    λ i. record {
      requests = none_first c.requests i;
      entries = none_first c.entries i;
      subs = none_first c.subs i;
      errors = none_first c.errors i;
      referrals = none_first c.referrals i;
      unexplored = none_first c.unexplored i;
      accepted = none_first c.accepted i;
      refreshed = none_first c.refreshed i;
    }

together : (a b c : Counts) → both a (both b c) ≡ both (both a b) c
together a b c =
    λ i. record {
      requests = three a.requests b.requests c.requests i;
      entries = three a.entries b.entries c.entries i;
      subs = three a.subs b.subs c.subs i;
      errors = three a.errors b.errors c.errors i;
      referrals = three a.referrals b.referrals c.referrals i;
      unexplored = three a.unexplored b.unexplored c.unexplored i;
      accepted = three a.accepted b.accepted c.accepted i;
      refreshed = three a.refreshed b.refreshed c.refreshed i;
    }

pub one_more_adds : OneMoreAdds
one_more_adds [] b = alone (block_counts b)
one_more_adds (x ∷ bs) b =
    ap (both (block_counts x)) (one_more_adds bs b) ∙ together (block_counts x) (counts_of bs) (block_counts b)

cap : (a b : ℕ) → capped (capped a + b) ≡ capped (a + b)
cap a b = omega arith

pub capped_on_the_way : CappedOnTheWay
capped_on_the_way a b =
    λ i. record {
      requests = cap a.requests b.requests i;
      entries = cap a.entries b.entries i;
      subs = cap a.subs b.subs i;
      errors = cap a.errors b.errors i;
      referrals = cap a.referrals b.referrals i;
      unexplored = cap a.unexplored b.unexplored i;
      accepted = cap a.accepted b.accepted i;
      refreshed = cap a.refreshed b.refreshed i;
    }
