-- The size limit comes last: with nothing left to be asked, what tells so far is a result, by its fields.
use Rattle.std.proofs.Common.{◌≡◌, true, List, [], ◌∷◌, ◌++◌, refl, ap, subst}
use Rattle.std.specs.List.{list_all, AllByRecursion}
use Rattle.x5_model.specs.References.{Reference}
use Rattle.x5_model.specs.Answers.{EntryFound, Matched, Listed, Found, Changed}
use Rattle.x5_model_run.specs.Journal.{Line, is_done}
use Rattle.x5_model_run.specs.History.{knowledge_at}
use Rattle.x5_model_run.specs.Chain.{Scene}
use Rattle.x5_model_run.specs.Covers.{are_apart}
use Rattle.x5_model_run.specs.Blocked.{Asked, IsLost, Blocked, lost}
use Rattle.x5_model_run.specs.Right.{source_keys, same_keys, uncovered}
use Rattle.x5_model_joins.specs.Joins.{LimitLast}

pub nothing_more : {A : Type 0} (xs : List A) → xs ++ [] ≡ xs
nothing_more [] = refl
nothing_more (x ∷ xs) = ap (λ ys. x ∷ ys) (nothing_more xs)

pub blocked_by : (s : Scene) (q : Asked) (lines : List Line) (us : List Reference) → AllByRecursion (IsLost s q lines) us → AllByRecursion (Blocked s q lines) us
blocked_by s q lines [] h = tt
blocked_by s q lines (u ∷ us) h = (lost h.0, blocked_by s q lines us h.1)

pub limit_last : LimitLast
limit_last p s q lines (EntryFound info source) so = record {
  found = so.tells.found;
  spelled = so.tells.spelled;
  sources = so.tells.sources;
  once = so.tells.once;
  exactly = so.tells.exactly;
  answered = so.tells.answered;
  blocked = tt;
  completed = so.tells.completed;
  apart = so.tells.apart;
}
limit_last p s q lines (Matched equal copy source) so = record {
  found = so.tells.found;
  spelled = so.tells.spelled;
  sources = so.tells.sources;
  once = so.tells.once;
  exactly = so.tells.exactly;
  answered = so.tells.answered;
  blocked = tt;
  completed = so.tells.completed;
  apart = so.tells.apart;
}
limit_last p s q lines Changed so = record {
  found = so.tells.found;
  spelled = so.tells.spelled;
  sources = so.tells.sources;
  once = so.tells.once;
  exactly = so.tells.exactly;
  answered = so.tells.answered;
  blocked = tt;
  completed = so.tells.completed;
  apart = so.tells.apart;
}
limit_last p s q lines (Listed subs sources o) so = record {
  found = so.tells.found;
  spelled = so.tells.spelled;
  sources = so.tells.sources;
  once = so.tells.once;
  exactly = subst (λ (us : List Reference). same_keys (source_keys (Listed subs sources o)) (uncovered p q us) ≡ true) (nothing_more o.unexplored) so.tells.exactly;
  answered = so.tells.answered;
  blocked = blocked_by s q lines o.unexplored so.lost;
  completed = subst (λ (us : List Reference). list_all (λ r. is_done r.progress) us ≡ true) (nothing_more o.unexplored) so.tells.completed;
  apart = subst (λ (us : List Reference). are_apart (knowledge_at p) us ≡ true) (nothing_more o.unexplored) so.tells.apart;
}
limit_last p s q lines (Found infos sources o) so = record {
  found = so.tells.found;
  spelled = so.tells.spelled;
  sources = so.tells.sources;
  once = so.tells.once;
  exactly = subst (λ (us : List Reference). same_keys (source_keys (Found infos sources o)) (uncovered p q us) ≡ true) (nothing_more o.unexplored) so.tells.exactly;
  answered = so.tells.answered;
  blocked = blocked_by s q lines o.unexplored so.lost;
  completed = subst (λ (us : List Reference). list_all (λ r. is_done r.progress) us ≡ true) (nothing_more o.unexplored) so.tells.completed;
  apart = subst (λ (us : List Reference). are_apart (knowledge_at p) us ≡ true) (nothing_more o.unexplored) so.tells.apart;
}
