-- What a part left out takes the place of the reference by which it was asked, where it covers the same: nothing that
-- is said of covered names changes.
use Rattle.std.proofs.Common.{◌≡◌, true, not, ◌&&◌, ◌||◌, List, [], ◌∷◌, ◌++◌, map, ap, subst, ◌∙◌, inl, inr}
use Rattle.std.specs.List.{list_any, list_all, filter, AllByRecursion}
use Rattle.x5_model.specs.Members.{In, here, there}
use Rattle.x5_model.specs.Keys.{Key, is_prefix}
use Rattle.x5_model.specs.References.{Reference}
use Rattle.x5_model.specs.Answers.{EntryFound, Matched, Listed, Found, Changed}
use Rattle.x5_model.proofs.Lists.{both_true, and_true, in_left, in_right, in_either, in_first}
use Rattle.x5_model_tree.specs.World.{World}
use Rattle.x5_model_run.specs.Journal.{is_done}
use Rattle.x5_model_run.specs.History.{knowledge_at, tree_at}
use Rattle.x5_model_run.specs.Right.{same_keys}
use Rattle.x5_model.specs.Values.{key_of}
use Rattle.x5_model_run.specs.Covers.{covered_roots, is_covered, meet, are_apart, touched}
use Rattle.x5_model_run.specs.Blocked.{IsLost}
use Rattle.x5_model_joins.specs.Joins.{LossReplaces}

module _ (w : World) (r u : Reference) (same : covered_roots w u ≡ covered_roots w r) where
  abbrev before : List Reference → List Reference → List Reference
  before us rest = us ++ r ∷ rest

  abbrev after : List Reference → List Reference → List Reference
  after us rest = (us ++ u ∷ []) ++ rest

  covered_alike : (us rest : List Reference) (k : Key) → is_covered w (after us rest) k ≡ is_covered w (before us rest) k
  covered_alike [] rest k = ap (λ (roots : List Key). list_any (λ x. is_prefix x k) roots || is_covered w rest k) same
  covered_alike (v ∷ us) rest k = ap (λ b. list_any (λ x. is_prefix x k) (covered_roots w v) || b) (covered_alike us rest k)

  meets_alike : (v : Reference) (us rest : List Reference) → list_any (meet w v) (after us rest) ≡ list_any (meet w v) (before us rest)
  meets_alike v [] rest =
      ap (λ (roots : List Key). list_any (λ a. list_any (λ b. is_prefix a b || is_prefix b a) roots) (covered_roots w v) || list_any (meet w v) rest) same
  meets_alike v (x ∷ us) rest = ap (λ b. meet w v x || b) (meets_alike v us rest)

  apart_alike : (us rest : List Reference) → are_apart w (after us rest) ≡ are_apart w (before us rest)
  apart_alike [] rest =
      ap (λ (roots : List Key). not (list_any (λ x. list_any (λ a. list_any (λ b. is_prefix a b || is_prefix b a) (covered_roots w x)) roots) rest) && are_apart w rest) same
  apart_alike (v ∷ us) rest = λ i. not (meets_alike v us rest i) && apart_alike us rest i

  in_after : (us rest : List Reference) (v : Reference) (b : Key) → In v (after us rest) → In b (covered_roots w v) → (x : Reference) × In x (before us rest) × In b (covered_roots w x)
  in_after us rest v b i at =
      elim (in_either v (us ++ u ∷ []) rest i) [
        | inl j ↦ elim (in_either v us (u ∷ []) j) [
          | inl k ↦ (v, in_left v us (r ∷ rest) k, at)
          | inr k ↦ (r, in_right r us (r ∷ rest) here, subst (λ xs. In b xs) same (subst (λ x. In b (covered_roots w x)) (only k) at))
        ]
        | inr j ↦ (v, in_right v us (r ∷ rest) (there j), at)
      ]
    where
      only : {x : Reference} → In x (u ∷ []) → x ≡ u
      only i = elim (in_first _ u [] i) [ inl e ↦ e | inr k ↦ elim k [ ] ]

  completed_alike : is_done u.progress ≡ true → (us rest : List Reference) → list_all (λ x. is_done x.progress) (before us rest) ≡ true → list_all (λ x. is_done x.progress) (after us rest) ≡ true
  completed_alike d [] rest e = and_true (is_done u.progress) _ d (both_true (is_done r.progress) _ e).1
  completed_alike d (v ∷ us) rest e =
      let b = both_true (is_done v.progress) _ e in and_true (is_done v.progress) _ b.0 (completed_alike d us rest b.1)

all_more : (P : Reference → Type 0) (us : List Reference) (u : Reference) → AllByRecursion P us → P u → AllByRecursion P (us ++ u ∷ [])
all_more P [] u all p = (p, tt)
all_more P (v ∷ us) u all p = (all.0, all_more P us u all.1 p)

pub loss_replaces : LossReplaces
loss_replaces p s q lines (EntryFound info source) r u rest so lost done roots =
    record { tells = so.tells; lost = so.lost }
loss_replaces p s q lines (Matched equal copy source) r u rest so lost done roots =
    record { tells = so.tells; lost = so.lost }
loss_replaces p s q lines Changed r u rest so lost done roots =
    record { tells = so.tells; lost = so.lost }
loss_replaces p s q lines (Listed subs sources o) r u rest so lost done roots = record {
  tells = record {
    found = so.tells.found;
    spelled = so.tells.spelled;
    sources = so.tells.sources;
    once = so.tells.once;
    exactly = (λ i. same_keys (map (λ x. key_of x.context) sources) (filter (λ pin. not (covered_alike (knowledge_at p) r u roots o.unexplored rest pin i)) (touched (knowledge_at p) (tree_at p) q.to q.message))) ∙ so.tells.exactly;
    ordered = so.tells.ordered;
    answered = so.tells.answered;
    completed = completed_alike (knowledge_at p) r u roots done o.unexplored rest so.tells.completed;
    apart = apart_alike (knowledge_at p) r u roots o.unexplored rest ∙ so.tells.apart;
    nested = λ v b i at. let x : _ = in_after (knowledge_at p) r u roots o.unexplored rest v b i at in so.tells.nested x.0 b x.1 x.2;
  };
  lost = all_more (IsLost s q lines) o.unexplored u so.lost lost;
}
loss_replaces p s q lines (Found infos sources o) r u rest so lost done roots = record {
  tells = record {
    found = so.tells.found;
    spelled = so.tells.spelled;
    sources = so.tells.sources;
    once = so.tells.once;
    exactly = (λ i. same_keys (map (λ x. key_of x.context) sources) (filter (λ pin. not (covered_alike (knowledge_at p) r u roots o.unexplored rest pin i)) (touched (knowledge_at p) (tree_at p) q.to q.message))) ∙ so.tells.exactly;
    ordered = so.tells.ordered;
    answered = so.tells.answered;
    completed = completed_alike (knowledge_at p) r u roots done o.unexplored rest so.tells.completed;
    apart = apart_alike (knowledge_at p) r u roots o.unexplored rest ∙ so.tells.apart;
    nested = λ v b i at. let x : _ = in_after (knowledge_at p) r u roots o.unexplored rest v b i at in so.tells.nested x.0 b x.1 x.2;
  };
  lost = all_more (IsLost s q lines) o.unexplored u so.lost lost;
}
