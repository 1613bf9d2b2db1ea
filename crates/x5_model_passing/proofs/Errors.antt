-- Who knows of an error and was heard by the line of the message that was passed on was heard by the one before: each
-- test is by the target's key and by the request, which are the same.
use Rattle.std.proofs.Common.{◌≡◌, ℕ, ◌+◌, ◌==◌, Bool, true, not, ◌&&◌, inl, inr, List, length, refl, sym, ap, subst, ◌∙◌, Option, Some, None}
use Rattle.std.specs.List.{list_all}
use Rattle.std.specs.Option.{is_some}
use Rattle.x5_model.specs.Words.{in_option, some_and}
use Rattle.x5_model.specs.Keys.{Key, same_key}
use Rattle.x5_model.specs.Values.{Name, key_of}
use Rattle.x5_model.specs.Entries.{Named}
use Rattle.x5_model.specs.Requests.{Request}
use Rattle.x5_model.specs.References.{Next, Reference}
use Rattle.x5_model.specs.Answers.{DirError, UpdateProblem}
use Rattle.x5_model.specs.Problems.{entry_already_exists}
use Rattle.x5_model.specs.Statics.{fault_of}
use Rattle.x5_model.proofs.Lists.{both_true, and_true, either_true, or_left, or_right}
use Rattle.x5_model_tree.specs.Tree.{lowest}
use Rattle.x5_model_tree.specs.Masters.{master_of}
use Rattle.x5_model_run.specs.Journal.{Line, same_progress}
use Rattle.x5_model_run.specs.Needs.{new_name}
use Rattle.x5_model_run.specs.History.{Point, knowledge_at, tree_at}
use Rattle.x5_model_run.specs.Chain.{Scene}
use Rattle.x5_model_run.specs.Blocked.{hears_by}
use Rattle.x5_model_run.specs.Right.{master_at, first_level_at, hears_of, hears_master, nssr_agents, hears_below, hears_nssr, is_pin, knows, hears_pin, hears_taken, is_told}
use Rattle.x5_model_run.proofs.Growing.{all_grow}
use Rattle.x5_model_serve.specs.Claims.{asked_line}
use Rattle.x5_model_passing.specs.Passing.{PassedOn, IsSame, IsBack, ErrorPassesBack}
use Rattle.x5_model_passing.proofs.Same.{asked_same}
use Rattle.x5_model_passing.proofs.Results.{heard_too}

module _ (p : Point) (s : Scene) (l k : Line) (from : Option ℕ) (r : Reference) (lines : List Line) (stood at : ℕ)
    (x : PassedOn p s l k from r lines) (back : IsBack l k stood lines) where
  same : IsSame p l k
  same = (asked_same p s l k from r lines x).0

  -- who was asked for the target was so for the one before
  for_target : (test : Line → Bool) → hears_by (λ y. test y && same_key (key_of y.message.target) (key_of k.message.target))
      (asked_line k at) lines ≡ true
      → hears_by (λ y. test y && same_key (key_of y.message.target) (key_of l.message.target)) (asked_line l stood) lines ≡ true
  for_target test h =
      subst (λ (n : Key). hears_by (λ y. test y && same_key (key_of y.message.target) n) (asked_line l stood) lines ≡ true) same.target
      (heard_too p s l k from r lines stood at x back (λ y. test y && same_key (key_of y.message.target) (key_of k.message.target)) h)

  master_too : (o : Option Named) → hears_master p (asked_line k at) lines o ≡ true → hears_master p (asked_line l stood) lines o ≡ true
  master_too None h = for_target (λ y. first_level_at (knowledge_at p) y.receiver) h
  master_too (Some e) h = by (master_at p (key_of e.name)) h
    where
      by : (o : Option ℕ) → some_and (hears_of (asked_line k at) lines k.message.target) o ≡ true → some_and
          (hears_of (asked_line l stood) lines l.message.target) o ≡ true
      by None g = g
      by (Some a) g = for_target (λ y. y.receiver == a) g

  below_too : (n a : ℕ) → hears_below (asked_line k at) lines n a ≡ true → hears_below (asked_line l stood) lines n a ≡ true
  below_too n a h =
      subst (λ (z : Key). hears_by (λ y. (y.receiver == a)
      && (same_progress y.message.progress (Next n) && same_key (key_of y.message.target) z))
      (asked_line l stood) lines ≡ true) same.target
      (heard_too p s l k from r lines stood at x back
      (λ y. (y.receiver == a) && (same_progress y.message.progress (Next n) && same_key (key_of y.message.target)
      (key_of k.message.target))) h)

  nssr_too : (o : Option Named) → hears_nssr p s (asked_line k at) lines o ≡ true → hears_nssr p s (asked_line l stood) lines o ≡ true
  nssr_too None h = refl
  nssr_too (Some e) h =
      elim (either_true (same_key (key_of e.name) (key_of k.message.target))
      (list_all (hears_below (asked_line k at) lines (length e.name + 1)) (nssr_agents p s e)) h) [
        | inl g ↦ or_left _ _ (ap (same_key (key_of e.name)) (sym same.target) ∙ g)
        | inr g ↦ or_right _ _ (all_grow (hears_below (asked_line k at) lines (length e.name + 1))
            (hears_below (asked_line l stood) lines (length e.name + 1)) (below_too (length e.name + 1)) (nssr_agents p s e) g)
      ]

  pin_too : (name : Name) → hears_pin p s (asked_line k at) lines name ≡ true → hears_pin p s (asked_line l stood) lines name ≡ true
  pin_too name h =
      elim (either_true (not (is_pin p (key_of name))) _ h) [
        | inl g ↦ or_left _ _ g
        | inr g ↦ or_right (not (is_pin p (key_of name))) _
            (elim (either_true (some_and (λ o. knows s k.message.request o (key_of name)) (master_at p (key_of k.message.target))) _ g) [
              | inl m ↦ or_left _ _ (moved m)
              | inr m ↦ or_right (some_and (λ o. knows s l.message.request o (key_of name)) (master_at p (key_of l.message.target))) _
                  (asked (master_of (knowledge_at p) (key_of name)) m)
            ])
      ]
    where
      moved : some_and (λ o. knows s k.message.request o (key_of name)) (master_at p (key_of k.message.target)) ≡ true → some_and
          (λ o. knows s l.message.request o (key_of name)) (master_at p (key_of l.message.target)) ≡ true
      moved m =
          subst (λ (y : Key). some_and (λ o. knows s l.message.request o (key_of name)) (master_at p y) ≡ true) same.target
          (subst (λ (y : Request). some_and (λ o. knows s y o (key_of name))
          (master_at p (key_of k.message.target)) ≡ true) same.request m)

      asked : (o : Option ℕ) → some_and (hears_of (asked_line k at) lines name) o ≡ true → some_and
          (hears_of (asked_line l stood) lines name) o ≡ true
      asked None m = m
      asked (Some a) m = heard_too p s l k from r lines stood at x back
          (λ y. (y.receiver == a) && same_key (key_of y.message.target) (key_of name)) m

  taken_too : (e : DirError) → hears_taken p s (asked_line k at) lines e ≡ true → hears_taken p s (asked_line l stood) lines e ≡ true
  taken_too (UpdateProblem n) h =
      elim (either_true (not (n == entry_already_exists))
      (in_option true (hears_pin p s (asked_line k at) lines) (new_name k.message.request.body)) h) [
        | inl g ↦ or_left _ _ g
        | inr g ↦ or_right (not (n == entry_already_exists)) _
            (by (new_name l.message.request.body)
            (subst (λ (y : Request). in_option true (hears_pin p s (asked_line k at) lines) (new_name y.body) ≡ true) same.request g))
      ]
    where
      by : (o : Option Name) → in_option true (hears_pin p s (asked_line k at) lines) o ≡ true → in_option true
          (hears_pin p s (asked_line l stood) lines) o ≡ true
      by None g = refl
      by (Some name) g = pin_too name g
  taken_too e h = refl

  pub told_too : (e : DirError) → is_told p s (asked_line k at) lines e ≡ true → is_told p s (asked_line l stood) lines e ≡ true
  told_too e h =
      elim (either_true (is_some (fault_of k.message.request.body)) _ h) [
        | inl g ↦ or_left _ _ (subst (λ (y : Request). is_some (fault_of y.body) ≡ true) same.request g)
        | inr g ↦ or_right (is_some (fault_of l.message.request.body)) _ (by g)
      ]
    where
      by : (hears_master p (asked_line k at) lines (lowest (tree_at p).entries (key_of k.message.target))
          && (hears_nssr p s (asked_line k at) lines (lowest (tree_at p).entries (key_of k.message.target)) && hears_taken p s
          (asked_line k at) lines e)) ≡ true
          → (hears_master p (asked_line l stood) lines (lowest (tree_at p).entries (key_of l.message.target))
          && (hears_nssr p s (asked_line l stood) lines (lowest (tree_at p).entries (key_of l.message.target)) && hears_taken p s
          (asked_line l stood) lines e)) ≡ true
      by g =
          let a = both_true (hears_master p (asked_line k at) lines (lowest (tree_at p).entries (key_of k.message.target))) _ g in
          let b = both_true (hears_nssr p s (asked_line k at) lines (lowest (tree_at p).entries (key_of k.message.target))) _ a.1 in
          subst (λ (n : Key). (hears_master p (asked_line l stood) lines (lowest (tree_at p).entries n)
          && (hears_nssr p s (asked_line l stood) lines (lowest (tree_at p).entries n) && hears_taken p s
          (asked_line l stood) lines e)) ≡ true) same.target
          (and_true _ _ (master_too (lowest (tree_at p).entries (key_of k.message.target)) a.0)
          (and_true _ _ (nssr_too (lowest (tree_at p).entries (key_of k.message.target)) b.0) (taken_too e b.1)))

pub error_passes_back : ErrorPassesBack
error_passes_back p s l k from r lines stood at e x back h = told_too p s l k from r lines stood at x back e h
