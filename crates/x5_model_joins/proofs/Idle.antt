-- Who may not chain answers with what it has and all references for the rest: it needs each of them, and nobody tried
-- it, so each is blocked.
use Rattle.std.proofs.Common.{◌≡◌, ℕ, Bool, true, if◌then◌else◌, List, [], ◌∷◌, ◌++◌, length, refl, sym, ap, subst, arith}
use Rattle.std.specs.List.{AllByRecursion}
use Rattle.std.specs.Prelude.{Contains}
use Rattle.std.specs.Option.{is_some}
use Rattle.x5_model.specs.Members.{In, here, there}
use Rattle.x5_model.specs.References.{Reference}
use Rattle.x5_model.specs.Answers.{Answer, EntryFound, Matched, Listed, Found, Changed}
use Rattle.x5_model.proofs.Lists.{in_left, in_right}
use Rattle.x5_model_run.specs.Journal.{Line, Journal}
use Rattle.x5_model_run.specs.Holdings.{Holdings}
use Rattle.x5_model_run.specs.Needs.{part_needs, resolution_needs, copied_needs, passing_needs}
use Rattle.x5_model_run.specs.History.{Point, holdings_at}
use Rattle.x5_model_run.specs.Chain.{Scene}
use Rattle.x5_model_run.specs.Blocked.{Blocked, untried}
use Rattle.x5_model_run.specs.Right.{IsResult}
use Rattle.x5_model_run.proofs.Growing.{contains_more}
use Rattle.x5_model_theory.proofs.Following.{query_of}
use Rattle.x5_model_parts.specs.Parts.{BeginsHere, rest_needs}
use Rattle.x5_model_parts.proofs.Joining.{sight}
use Rattle.x5_model_serve.specs.Answering.{with_unexplored, limited_answer, rest_of_parts}
use Rattle.x5_model_serve.specs.Serving.{hand_of, is_idle}
use Rattle.x5_model_serve.specs.Claims.{SoFar, asked_line}
use Rattle.x5_model_joins.specs.Joins.{IdleTells}
use Rattle.x5_model_joins.proofs.Contexts.{each_joined}
use Rattle.x5_model_joins.proofs.Limit.{blocked_by}
use Rattle.x5_model_joins.proofs.Local.{no_fault}
use Rattle.x5_model_joins.proofs.Walked.{of_the_rest}
use Rattle.x5_model_joins.proofs.Backs.{own_answered}

contains_of : {X : Type 0} (xs : List X) (x : X) → In x xs → Contains xs x
contains_of [] x i = elim i [ ]
contains_of (x ∷ xs) _ here = (0, omega arith, refl)
contains_of (y ∷ xs) x (there i) = contains_more xs y x (contains_of xs x i)

each_of : {A : Type 0} (P : A → Type 0) (xs : List A) → ((x : A) → In x xs → P x) → AllByRecursion P xs
each_of P [] f = tt
each_of P (x ∷ xs) f = (f x here, each_of P xs (λ y i. f y (there i)))

module _ (p : Point) (s : Scene) (l : Line) (j : Journal) (scene : s.holdings ≡ holdings_at p) (b : BeginsHere p l) (idle : is_idle s (hand_of l) ≡ true) (stands : In l j.lines) where
  passing : (r : Reference) → In r (rest_needs p l) → In r (passing_needs (s.holdings l.receiver) l.message)
  passing r i =
      subst (λ (f : ℕ → Holdings). In r (passing_needs (f l.receiver) l.message)) (sym scene)
      (subst (λ (o : Bool). In r (if o then [] else resolution_needs (holdings_at p l.receiver) l.message ++ part_needs (holdings_at p l.receiver) l.message ++ copied_needs (holdings_at p l.receiver) l.message))
      (sym (ap is_some (no_fault l.message.request.body (query_of l.message (ap is_some (sight p l b).sees_it.subset)))))
      (in_left r (resolution_needs (holdings_at p l.receiver) l.message ++ part_needs (holdings_at p l.receiver) l.message) (copied_needs (holdings_at p l.receiver) l.message)
      (in_right r (resolution_needs (holdings_at p l.receiver) l.message) (part_needs (holdings_at p l.receiver) l.message) i)))

  blocked_rest : AllByRecursion (Blocked s (asked_line l (length j.accepted)) j.lines) (rest_of_parts (holdings_at p l.receiver) l.message)
  blocked_rest = each_of (Blocked s (asked_line l (length j.accepted)) j.lines) (rest_of_parts (holdings_at p l.receiver) l.message) (λ r i.
      (let n : In r (rest_needs p l) = of_the_rest p l r i in
      untried (record {
        idle = idle;
        heard = own_answered l (length j.accepted) j.lines stands;
        needed = contains_of (passing_needs (s.holdings l.receiver) l.message) r (passing r n);
      })))

  idle_result : (a : Answer) → SoFar p s (asked_line l (length j.accepted)) j.lines a (rest_of_parts (holdings_at p l.receiver) l.message)
      → IsResult p s (asked_line l (length j.accepted)) j.lines (limited_answer l.message.request.controls.size (with_unexplored (rest_of_parts (holdings_at p l.receiver) l.message) a))
  idle_result (EntryFound info x) so = record { found = so.tells.found; spelled = so.tells.spelled; sources = so.tells.sources; once = so.tells.once; exactly = so.tells.exactly; answered = so.tells.answered; blocked = tt; completed = so.tells.completed; apart = so.tells.apart }
  idle_result (Matched equal copy x) so = record { found = so.tells.found; spelled = so.tells.spelled; sources = so.tells.sources; once = so.tells.once; exactly = so.tells.exactly; answered = so.tells.answered; blocked = tt; completed = so.tells.completed; apart = so.tells.apart }
  idle_result Changed so = record { found = so.tells.found; spelled = so.tells.spelled; sources = so.tells.sources; once = so.tells.once; exactly = so.tells.exactly; answered = so.tells.answered; blocked = tt; completed = so.tells.completed; apart = so.tells.apart }
  idle_result (Listed subs xs o) so = record {
    found = so.tells.found;
    spelled = so.tells.spelled;
    sources = so.tells.sources;
    once = so.tells.once;
    exactly = so.tells.exactly;
    answered = so.tells.answered;
    blocked = each_joined (Blocked s (asked_line l (length j.accepted)) j.lines) o.unexplored (rest_of_parts (holdings_at p l.receiver) l.message) (blocked_by s (asked_line l (length j.accepted)) j.lines o.unexplored so.lost) blocked_rest;
    completed = so.tells.completed;
    apart = so.tells.apart;
  }
  idle_result (Found infos xs o) so = record {
    found = so.tells.found;
    spelled = so.tells.spelled;
    sources = so.tells.sources;
    once = so.tells.once;
    exactly = so.tells.exactly;
    answered = so.tells.answered;
    blocked = each_joined (Blocked s (asked_line l (length j.accepted)) j.lines) o.unexplored (rest_of_parts (holdings_at p l.receiver) l.message) (blocked_by s (asked_line l (length j.accepted)) j.lines o.unexplored so.lost) blocked_rest;
    completed = so.tells.completed;
    apart = so.tells.apart;
  }

pub idle_tells : IdleTells
idle_tells p s l j a scene b idle stands so = idle_result p s l j scene b idle stands a so
