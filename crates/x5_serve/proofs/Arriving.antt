-- What an agent does with a message at once, as steps of the relation.
use Rattle.std.proofs.Common.{◌≡◌, ℕ, ◌<◌, ◌≤◌, Bool, true, false, not, ◌||◌, inl, inr, List, [], ◌∷◌, ◌++◌, length, map, refl, sym, ap, subst, ◌∙◌, arith, Option, Some, None}
use Rattle.std.proofs.lemmas.Bool.Decides.{leb_tells}
use Rattle.std.proofs.lemmas.List.{length-map}
use Rattle.x5_model.specs.Words.{has}
use Rattle.x5_model.specs.Answers.{ServiceProblem, Reply, Failed}
use Rattle.x5_model.specs.References.{TraceItem}
use Rattle.x5_model.specs.Problems.{loop_detected}
use Rattle.x5_model_run.specs.Network.{refuses}
use Rattle.x5_model_run.specs.Journal.{Journal, same_item, item_of}
use Rattle.x5_model_run.specs.Chain.{Scene}
use Rattle.x5_model_serve.specs.Serving.{Hand, hand, Serves, Does, Arrives, is_looped, is_too_long, is_idle, loops, reads, reads_copy}
use Rattle.x5_ops.specs.ReferenceViews.{chained_view, item_view}
use Rattle.x5_ops.specs.declared.references.Chained.{Chained}
use Rattle.x5_ops.specs.declared.references.TraceItem as code
use Rattle.x5_ops.specs.declared.answers.Reply as code_reply
use Rattle.x5_serve.specs.Networks.{IsToldHere}
use Rattle.x5_serve.specs.Steps.{IsEarly}

-- a message that has come round
pub looped_is : (names : List (List ℕ)) (me : ℕ) (message : Chained) (item : code.TraceItem) (b : Bool)
    → item_view names item ≡ item_of me (chained_view names message)
    → b ≡ has same_item (map (item_view names) message.trace) (item_view names item)
    → is_looped (hand me (chained_view names message)) ≡ b
looped_is names me message item b own e =
    ap (has same_item (map (item_view names) message.trace)) (sym own) ∙ sym e

pub loops_with : {s : Scene} {most : ℕ} (k : Hand) (j : Journal) (item : TraceItem) → is_looped k ≡ true
    → item ≡ item_of k.receiver k.message
    → Does s most (Serves k (Failed (ServiceProblem loop_detected None (Some item)))) j j
loops_with {s} {most} k j item e same =
    subst (λ (x : TraceItem). Does s most (Serves k (Failed (ServiceProblem loop_detected None (Some x)))) j j)
    (sym same) (loops e)

-- one with a long trace
pub too_long : (names : List (List ℕ)) (me : ℕ) (message : Chained) → 128 ≤ length message.trace
    → is_too_long (hand me (chained_view names message)) ≡ true
too_long names me message h =
    let l : length (map (item_view names) message.trace) ≡ length message.trace = length-map message.trace
    (item_view names) in
    elim (leb_tells 128 (length (map (item_view names) message.trace))) [
      | inl x ↦ x.0
      | inr y ↦ absurd
          (omega (arith, y.1))
    ]

pub not_long : (names : List (List ℕ)) (me : ℕ) (message : Chained) → length message.trace < 128
    → is_too_long (hand me (chained_view names message)) ≡ false
not_long names me message h =
    let l : length (map (item_view names) message.trace) ≡ length message.trace = length-map message.trace
    (item_view names) in
    elim (leb_tells 128 (length (map (item_view names) message.trace))) [
      | inl x ↦ absurd (omega (arith, x.1))
      | inr y ↦
          y.0
    ]

-- an agent that may not chain
pub idle_is : (s : Scene) (names : List (List ℕ)) (me : ℕ) (message : Chained) (willing : Bool)
    → willing ≡ not (refuses s.network me)
    → is_idle s (hand me (chained_view names message)) ≡ (message.request.controls.nochain || not willing)
idle_is s names me message willing e =
    ap (λ (b : Bool). message.request.controls.nochain || b) (back (refuses s.network me) ∙ ap not (sym e))
  where
    back : (b : Bool) → b ≡ not (not b)
    back true = refl
    back false = refl

-- what is told of an entry here
pub told_does : {s : Scene} {most : ℕ} (k : Hand) (j : Journal) (y : Reply) → Arrives s k j → IsToldHere s j k y
    → Does s most (Serves k y) j j
told_does {s} {most} k j y a (inl w) =
    subst (λ (z : Reply). Does s most (Serves k z) j j) (sym w.4) (reads w.0 a w.1 w.2 w.3)
told_does {s} {most} k j y a (inr w) =
    subst (λ (z : Reply). Does s most (Serves k z) j j) (sym w.3) (reads_copy w.0 a w.1 w.2)

-- a message that isn't answered at once is looked at
pub looked_at : (s : Scene) (most : ℕ) (names : List (List ℕ)) (j : Journal) (k : Hand) (o : Option code_reply.Reply)
    → IsEarly s most names j k o
    → o ≡ None → Arrives s k j
looked_at s most names j k o e q = subst (IsEarly s most names j k) q e

-- the trace with one more item
pub trace_more : (names : List (List ℕ)) (xs : List code.TraceItem) (x : code.TraceItem) (y : TraceItem)
    → item_view names x ≡ y
    → map (item_view names) (xs ++ x ∷ []) ≡ map (item_view names) xs ++ y ∷ []
trace_more names [] x y e = ap (λ (z : TraceItem). z ∷ []) e
trace_more names (z ∷ xs) x y e = ap (λ (zs : List TraceItem). item_view names z ∷ zs) (trace_more names xs x y e)
