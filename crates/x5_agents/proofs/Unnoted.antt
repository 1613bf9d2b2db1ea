-- Where no change is noted so far, none is with one context or agent more of which none is noted.
use Rattle.std.proofs.Common.{◌≡◌, inl, inr, List, [], ◌∷◌, ◌++◌, ap, subst, sym, ◌∙◌}
use Rattle.x5_model.specs.Members.{In}
use Rattle.x5_model.proofs.Lists.{in_either, in_first}
use Rattle.x5_model.specs.Entries.{Named}
use Rattle.x5_holdings.specs.Logs.{Log}
use Rattle.x5_holdings.specs.State.{Kept, State}
use Rattle.x5_agents.specs.Growing.{Grown}
use Rattle.x5_agents.specs.Unnoted.{IsUnnoted, AreUnnoted, AllUnnoted}

pub none_yet : AreUnnoted []
none_yet c i = elim i [ ]

pub one_more : (own after : List Kept) (c : Kept) → after ≡ own ++ c ∷ [] → IsUnnoted c → AreUnnoted own → AreUnnoted after
one_more own after c e one so_far k i =
    elim (in_either k own (c ∷ []) (subst (λ (xs : List Kept). In k xs) e i)) [
      | inl j ↦ so_far k j
      | inr j ↦ elim (in_first k c [] j) [ inl s ↦ subst IsUnnoted (sym s) one | inr l ↦ elim l [ ] ]
    ]

pub as_many : (own after : List Kept) → after ≡ own → AreUnnoted own → AreUnnoted after
as_many own after e so_far = subst AreUnnoted (sym e) so_far

pub nobody_yet : AllUnnoted []
nobody_yet s i = elim i [ ]

pub one_agent_more : (agents after : List State) (s : State) → after ≡ agents ++ s ∷ [] → AreUnnoted s.own
    → AllUnnoted agents → AllUnnoted after
one_agent_more agents after s e one so_far t i =
    elim (in_either t agents (s ∷ []) (subst (λ (xs : List State). In t xs) e i)) [
      | inl j ↦ so_far t j
      | inr j ↦ elim (in_first t s [] j) [ inl q ↦ subst (λ (x : State). AreUnnoted x.own) (sym q) one | inr l ↦ elim l [ ] ]
    ]

-- entries more are no changes that are noted
pub grown_unnoted : (old after : Kept) (more : List Named) → Grown old more after
    → IsUnnoted old → IsUnnoted after
grown_unnoted old after more g u = record {
  base = ap (λ (l : Log). l.base) g.rest.log ∙ u.base;
  changes = ap (λ (l : Log). l.changes) g.rest.log ∙ u.changes;
}
