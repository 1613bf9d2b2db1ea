-- A result and what was lost are passed back: what came back to the line of the message that was passed on came back to
-- the one before, and both look into the same contexts and are told the same.
use Rattle.std.proofs.Common.{◌≡◌, ℕ, ◌==◌, Bool, true, false, not, ◌&&◌, cond, inl, inr, List, [], ◌∷◌, refl, sym, ap, subst, ◌∙◌, Option, Some, None}
use Rattle.std.specs.List.{filter, AllByRecursion}
use Rattle.x5_model.specs.Words.{is_empty}
use Rattle.x5_model.specs.Keys.{Key}
use Rattle.x5_model.specs.References.{Reference}
use Rattle.x5_model.specs.Answers.{Source, Answer, Answered}
use Rattle.x5_model.proofs.Lists.{both_true, and_true, either_true, or_left, or_right}
use Rattle.x5_model_tree.specs.Ask.{sources_of, unexplored_of}
use Rattle.x5_model_run.specs.Journal.{Line, is_done}
use Rattle.x5_model_run.specs.Holdings.{may_copy}
use Rattle.x5_model_run.specs.Needs.{ends_here, passing_needs}
use Rattle.x5_model_run.specs.History.{Point, knowledge_at}
use Rattle.x5_model_run.specs.Chain.{Scene}
use Rattle.x5_model_run.specs.Covers.{is_covered, mixed, is_copied}
use Rattle.x5_model_run.specs.Blocked.{Asked, hears_by, hears, IsLost, Blocked, untried, lost}
use Rattle.x5_model_run.specs.Right.{same_keys, source_keys, is_copy_source, is_source, IsResult}
use Rattle.x5_model_run.proofs.Growing.{all_grow}
use Rattle.x5_model_serve.specs.Serving.{is_final}
use Rattle.x5_model_serve.specs.Claims.{asked_line}
use Rattle.x5_model_joins.proofs.Backs.{hears_further, lost_further}
use Rattle.x5_model_joins.proofs.Untried.{of_contains, untried_passing}
use Rattle.x5_model_find.proofs.Needing.{false_true}
use Rattle.x5_model_passing.specs.Passing.{PassedOn, IsSame, IsBack, ResultPassesBack, LossPassesBack}
use Rattle.x5_model_passing.proofs.Same.{asked_same}

-- a source stays one for a message of the same request, whoever hears more
source_moves : (p : Point) (q r : Asked) (lines : List Line) → may_copy q.message.request ≡ may_copy r.message.request
    → ((a : ℕ) → hears q lines a ≡ true → hears r lines a ≡ true) → (x : Source) → is_source p q lines x ≡ true
    → is_source p r lines x ≡ true
source_moves p q r lines copies more x h = go x.moment h
  where
    go : (o : Option ℕ) → is_source p q lines (record x { moment = o }) ≡ true → is_source p r lines (record x { moment = o }) ≡ true
    go None e = let b = both_true (hears q lines x.agent) _ e in and_true (hears r lines x.agent) _ (more x.agent b.0) b.1
    go (Some m) e =
        let b = both_true (hears q lines x.agent) (may_copy q.message.request && is_copy_source p x m) e in
        and_true (hears r lines x.agent) (may_copy r.message.request && is_copy_source p x m) (more x.agent b.0)
        (ap (λ y. y && is_copy_source p x m) (sym copies) ∙ b.1)

module _ (p : Point) (s : Scene) (l k : Line) (from : Option ℕ) (r : Reference) (lines : List Line) (stood at : ℕ)
    (x : PassedOn p s l k from r lines) (back : IsBack l k stood lines) where
  abbrev q : Asked
  q = asked_line l stood

  abbrev qk : Asked
  qk = asked_line k at

  same : IsSame p l k
  same = (asked_same p s l k from r lines x).0

  pub heard_too : (test : Line → Bool) → hears_by test (asked_line k at) lines ≡ true → hears_by test (asked_line l stood) lines ≡ true
  heard_too test h = hears_further s (asked_line l stood) (asked_line k at) test lines x.licensed back h

  pub lost_too : (u : Reference) → IsLost s (asked_line k at) lines u → IsLost s (asked_line l stood) lines u
  lost_too u h = lost_further s (asked_line l stood) (asked_line k at) lines x.licensed back refl u h

  blocked_too : (us : List Reference) → AllByRecursion (Blocked s (asked_line k at) lines) us → is_empty
      (filter (λ u. not u.tried) us) ≡ true → AllByRecursion (Blocked s (asked_line l stood) lines) us
  blocked_too [] h e = tt
  blocked_too (u ∷ us) h e = by u.tried refl (λ f. blocked_too us h.1 f) e
    where
      one : u.tried ≡ true → Blocked s (asked_line k at) lines u → Blocked s (asked_line l stood) lines u
      one t (untried y) = absurd (false_true
          (sym (untried_passing (s.holdings k.receiver) k.message u
          (of_contains (passing_needs (s.holdings k.receiver) k.message) u y.needed)) ∙ t))
      one t (lost y) = lost (lost_too u y)

      by : (b : Bool) → u.tried ≡ b
          → (is_empty (filter (λ v. not v.tried) us) ≡ true → AllByRecursion (Blocked s (asked_line l stood) lines) us)
          → is_empty (cond (not b) (u ∷ filter (λ v. not v.tried) us) (filter (λ v. not v.tried) us)) ≡ true → AllByRecursion
          (Blocked s (asked_line l stood) lines) (u ∷ us)
      by true t rest f = (one t h.0, rest f)
      by false t rest f = absurd (false_true f)

  pub result_too : (a : Answer) → is_final (Answered a) ≡ true → IsResult p s (asked_line k at) lines a → IsResult p s
      (asked_line l stood) lines a
  result_too a done res = record {
    found = elim (either_true (is_done k.message.progress) _ res.found) [
      | inl d ↦ or_left (is_done l.message.progress) _ (sym same.phase ∙ d)
      | inr h ↦ or_right (is_done l.message.progress) _ (heard_too (λ y. ends_here (s.holdings y.receiver) y.message) h)
    ];
    sources = all_grow (is_source p (asked_line k at) lines) (is_source p (asked_line l stood) lines)
        (source_moves p (asked_line k at) (asked_line l stood) lines (ap may_copy same.request)
        (λ a h. heard_too (λ y. y.receiver == a) h)) (sources_of a) res.sources;
    spelled = res.spelled;
    once = res.once;
    exactly = subst (λ (ks : List Key). same_keys (source_keys a)
        (filter (λ pin. not (is_covered (knowledge_at p) (unexplored_of a) pin)) ks) ≡ true) same.looks res.exactly;
    answered = res.answered ∙ same.tells (is_copied p (sources_of a)) (mixed p (sources_of a));
    blocked = blocked_too (unexplored_of a) res.blocked done;
    completed = res.completed;
    apart = res.apart;
  }

pub result_passes_back : ResultPassesBack
result_passes_back p s l k from r lines stood at a x back done res = result_too p s l k from r lines stood at x back a done res

pub loss_passes_back : LossPassesBack
loss_passes_back p s l k from r lines stood at u x back h = lost_too p s l k from r lines stood at x back u h
