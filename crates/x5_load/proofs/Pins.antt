-- References, and the keys of their names, by the code's lists of both kinds.
use Rattle.std.proofs.Common.{◌≡◌, Bool, true, false, List, [], ◌∷◌, ◌++◌, map, refl, ap}
use Rattle.x5_model.specs.Keys.{Key}
use Rattle.x5_model.specs.Values.{key_of}
use Rattle.x5_model_world.specs.AgentText.{References, pin_keys, of_kind, with_reference}
use Rattle.x5_model_tree.specs.World as tree
use Rattle.x5_ops.specs.KnowledgeViews.{specific_view, cross_view}
use Rattle.x5_ops.specs.declared.knowledge.Cross.{Cross}
use Rattle.x5_ops.specs.declared.knowledge.Specific.{Specific}

pub specific_more : (rs : List Specific) (r : Specific)
    → map specific_view (rs ++ r ∷ []) ≡ map specific_view rs ++ specific_view r ∷ []
specific_more [] r = refl
specific_more (s ∷ rs) r = ap (λ l. specific_view s ∷ l) (specific_more rs r)

pub cross_more : (rs : List Cross) (r : Cross) → map cross_view (rs ++ r ∷ []) ≡ map cross_view rs ++ cross_view r ∷ []
cross_more [] r = refl
cross_more (s ∷ rs) r = ap (λ l. cross_view s ∷ l) (cross_more rs r)

pub specific_keys : (rs : List Specific) (r : Specific)
    → pin_keys (map specific_view (rs ++ r ∷ [])) ≡ pin_keys (map specific_view rs) ++ key_of r.pin ∷ []
specific_keys [] r = refl
specific_keys (s ∷ rs) r = ap (λ (l : List Key). key_of s.pin ∷ l) (specific_keys rs r)

pub cross_keys : (rs : List Cross) (r : Cross)
    → pin_keys (map cross_view (rs ++ r ∷ [])) ≡ pin_keys (map cross_view rs) ++ key_of r.pin ∷ []
cross_keys [] r = refl
cross_keys (s ∷ rs) r = ap (λ (l : List Key). key_of s.pin ∷ l) (cross_keys rs r)

-- by the kind that is told
pub of_cross : (r : References) (b : Bool) → b ≡ true → of_kind r b ≡ r.cross
of_cross r true e = refl
of_cross r false e = cc

pub of_subordinate : (r : References) (b : Bool) → b ≡ false → of_kind r b ≡ r.subordinate
of_subordinate r true e = cc
of_subordinate r false e = refl

pub with_cross : (r : References) (b : Bool) (k : tree.Specific) → b ≡ true → with_reference r b k ≡ with_reference r true k
with_cross r b k e = ap (λ (c : Bool). with_reference r c k) e

pub with_subordinate : (r : References) (b : Bool) (k : tree.Specific) → b ≡ false
    → with_reference r b k ≡ with_reference r false k
with_subordinate r b k e = ap (λ (c : Bool). with_reference r c k) e
