-- Stages are ordered.
use Rattle.std.proofs.Common.{◌≡◌, ℕ, suc, ◌<◌, ◌==◌, nat_lt, Bool, true, false, ◌&&◌, ◌⊎◌, inl, inr, [], ◌∷◌, length, refl, sym, ap, subst, ◌∙◌, arith, take, if◌then◌else◌, ◌||◌}
use Rattle.std.specs.Bool.{Decides}
use Rattle.std.proofs.lemmas.Bool.Decides.{Decides-eqb}
use Rattle.x5_model.specs.Keys.{Key}
use Rattle.x5_model.specs.Values.{Name, key_of}
use Rattle.x5_model.specs.References.{Progress, Start, Next, Done, TraceItem}
use Rattle.x5_model.proofs.KeyLaws.{key_decides}
use Rattle.x5_model.proofs.Lists.{both_true, of_all}
use Rattle.x5_model_tree.specs.World.{World}
use Rattle.x5_model_run.specs.History.{knowledge_at}
use Rattle.x5_model_run.specs.Journal.{item_of, same_item, same_name, same_progress}
use Rattle.x5_model_run.specs.Stage.{Stage, stage_of, is_lower, steps_to_master}
use Rattle.x5_model_theory.specs.Leading.{NeverLower, LowerChain, NoLoop}
use Rattle.x5_model_theory.proofs.Tests.{false_true}
use Rattle.x5_model.proofs.Decide.{and_decides, or_decides, less_decides, nat_same_decides}

-- lower in plain words
abbrev pub IsLower : Stage → Stage → Type 0
IsLower a b =
    (a.phase < b.phase) ⊎ ((a.phase ≡ b.phase) × ((a.size < b.size) ⊎ ((a.size ≡ b.size) × ((a.mark < b.mark) ⊎ ((a.mark ≡ b.mark) × (b.distance < a.distance))))))

pub lower_decides : (a b : Stage) → Decides (is_lower a b) (IsLower a b)
lower_decides a b =
    let marks : Decides (nat_lt a.mark b.mark || ((a.mark == b.mark) && nat_lt b.distance a.distance)) ((a.mark < b.mark) ⊎ ((a.mark ≡ b.mark) × (b.distance < a.distance))) =
    or_decides {P = a.mark < b.mark} {Q = (a.mark ≡ b.mark) × (b.distance < a.distance)} _ _ (less_decides a.mark b.mark)
    (and_decides {P = a.mark ≡ b.mark} {Q = b.distance < a.distance} _ _ (nat_same_decides a.mark b.mark) (less_decides b.distance a.distance)) in
    let sizes : Decides (nat_lt a.size b.size || ((a.size == b.size) && (nat_lt a.mark b.mark || ((a.mark == b.mark) && nat_lt b.distance a.distance)))) ((a.size < b.size) ⊎ ((a.size ≡ b.size) × ((a.mark < b.mark) ⊎ ((a.mark ≡ b.mark) × (b.distance < a.distance))))) =
    or_decides {P = a.size < b.size} {Q = (a.size ≡ b.size) × ((a.mark < b.mark) ⊎ ((a.mark ≡ b.mark) × (b.distance < a.distance)))} _ _ (less_decides a.size b.size)
    (and_decides {P = a.size ≡ b.size} {Q = (a.mark < b.mark) ⊎ ((a.mark ≡ b.mark) × (b.distance < a.distance))} _ _ (nat_same_decides a.size b.size) marks) in
    or_decides {P = a.phase < b.phase} {Q = (a.phase ≡ b.phase) × ((a.size < b.size) ⊎ ((a.size ≡ b.size) × ((a.mark < b.mark) ⊎ ((a.mark ≡ b.mark) × (b.distance < a.distance)))))} _ _ (less_decides a.phase b.phase)
    (and_decides {P = a.phase ≡ b.phase} {Q = (a.size < b.size) ⊎ ((a.size ≡ b.size) × ((a.mark < b.mark) ⊎ ((a.mark ≡ b.mark) × (b.distance < a.distance))))} _ _ (nat_same_decides a.phase b.phase) sizes)

pub never_lower : NeverLower
never_lower a e =
    elim ((lower_decides a a).0 e) [
      | inl p ↦ omega arith
      | inr p ↦ elim p.1 [ inl q ↦ omega arith | inr q ↦ elim q.1 [ inl r ↦ omega arith | inr r ↦ (let d : a.distance < a.distance = r.1 in omega arith) ] ]
    ]

chain_marks : (a b c : Stage) → (a.mark < b.mark) ⊎ ((a.mark ≡ b.mark) × (b.distance < a.distance)) → (b.mark < c.mark) ⊎ ((b.mark ≡ c.mark) × (c.distance < b.distance))
    → (a.mark < c.mark) ⊎ ((a.mark ≡ c.mark) × (c.distance < a.distance))
chain_marks a b c (inl p) (inl q) = inl (omega arith)
chain_marks a b c (inl p) (inr q) = inl (omega arith)
chain_marks a b c (inr p) (inl q) = inl (omega arith)
chain_marks a b c (inr p) (inr q) = inr (p.0 ∙ q.0, omega arith)

chain_sizes : (a b c : Stage) → (a.size < b.size) ⊎ ((a.size ≡ b.size) × ((a.mark < b.mark) ⊎ ((a.mark ≡ b.mark) × (b.distance < a.distance))))
    → (b.size < c.size) ⊎ ((b.size ≡ c.size) × ((b.mark < c.mark) ⊎ ((b.mark ≡ c.mark) × (c.distance < b.distance))))
    → (a.size < c.size) ⊎ ((a.size ≡ c.size) × ((a.mark < c.mark) ⊎ ((a.mark ≡ c.mark) × (c.distance < a.distance))))
chain_sizes a b c (inl p) (inl q) = inl (omega arith)
chain_sizes a b c (inl p) (inr q) = let e : b.size ≡ c.size = q.0 in inl (omega arith)
chain_sizes a b c (inr p) (inl q) = let e : a.size ≡ b.size = p.0 in inl (omega arith)
chain_sizes a b c (inr p) (inr q) = inr (p.0 ∙ q.0, chain_marks a b c p.1 q.1)

chain_phases : (a b c : Stage) → IsLower a b → IsLower b c → IsLower a c
chain_phases a b c (inl p) (inl q) = inl (omega arith)
chain_phases a b c (inl p) (inr q) = let e : b.phase ≡ c.phase = q.0 in inl (omega arith)
chain_phases a b c (inr p) (inl q) = let e : a.phase ≡ b.phase = p.0 in inl (omega arith)
chain_phases a b c (inr p) (inr q) = inr (p.0 ∙ q.0, chain_sizes a b c p.1 q.1)

pub lower_chain : LowerChain
lower_chain a b c p q = (lower_decides a c).1 (chain_phases a b c ((lower_decides a b).0 p) ((lower_decides b c).0 q))

pub key_length : (n : Name) → length (key_of n) ≡ length n
key_length [] = refl
key_length (r ∷ n) = ap suc (key_length n)

-- items that are the same are at the same stage
pub same_progress_is : (a b : Progress) → same_progress a b ≡ true → a ≡ b
same_progress_is Start Start e = refl
same_progress_is Start (Next k) e = absurd (false_true e)
same_progress_is Start Done e = absurd (false_true e)
same_progress_is (Next k) Start e = absurd (false_true e)
same_progress_is (Next k) (Next j) e = ap Next ((Decides-eqb k j).0 e)
same_progress_is (Next k) Done e = absurd (false_true e)
same_progress_is Done Start e = absurd (false_true e)
same_progress_is Done (Next j) e = absurd (false_true e)
same_progress_is Done Done e = refl

pub stage_by_key : (w : World) (agent : ℕ) (s t : Name) (p : Progress) (wide : Bool) → key_of s ≡ key_of t
    → stage_of w (record { agent = agent; target = s; progress = p; wide = wide }) ≡ stage_of w (record { agent = agent; target = t; progress = p; wide = wide })
stage_by_key w agent s t Start wide e = refl
stage_by_key w agent s t (Next k) wide e = ap (λ (x : Key). next_stage (steps_to_master 4 w (take k x) agent)) e
  where
    next_stage : ℕ → Stage
    next_stage d = record { phase = 1; size = k; mark = 0; distance = d }
stage_by_key w agent s t Done wide e =
    let n : length s ≡ length t = sym (key_length s) ∙ ap length e ∙ key_length t in
    ap (λ (x : Key). done_stage (length s) (steps_to_master 4 w x agent)) e ∙ ap (λ (x : ℕ). done_stage x (steps_to_master 4 w (key_of t) agent)) n
  where
    done_stage : ℕ → ℕ → Stage
    done_stage n d = record { phase = 2; size = n; mark = if wide then 1 else 0; distance = d }

never_last : (a b c : Bool) → (a && (b && (c && false))) ≡ true → false ≡ true
never_last a b c e = (both_true c false (both_true b (c && false) (both_true a (b && (c && false)) e).1).1).1

same_wide_is : (a b : ℕ) (s t : Name) (p q : Progress) (v w : Bool)
    → same_item (record { agent = a; target = s; progress = p; wide = v }) (record { agent = b; target = t; progress = q; wide = w }) ≡ true → v ≡ w
same_wide_is a b s t p q true true e = refl
same_wide_is a b s t p q true false e = absurd (false_true (never_last (a == b) (same_name s t) (same_progress p q) e))
same_wide_is a b s t p q false true e = absurd (false_true (never_last (a == b) (same_name s t) (same_progress p q) e))
same_wide_is a b s t p q false false e = refl

pub same_stage : (w : World) (i j : TraceItem) → same_item i j ≡ true → stage_of w i ≡ stage_of w j
same_stage w i j e =
    let a = both_true (i.agent == j.agent) _ e in
    let t = both_true (same_name i.target j.target) _ a.1 in
    let p = both_true (same_progress i.progress j.progress) _ t.1 in
    let agent : i.agent ≡ j.agent = (Decides-eqb i.agent j.agent).0 a.0 in
    let target : key_of i.target ≡ key_of j.target = (key_decides (key_of i.target) (key_of j.target)).0 t.0 in
    let progress : i.progress ≡ j.progress = same_progress_is i.progress j.progress p.0 in
    let wide : i.wide ≡ j.wide = same_wide_is i.agent j.agent i.target j.target i.progress j.progress i.wide j.wide e in
    stage_by_key w i.agent i.target j.target i.progress i.wide target
    ∙ ap (λ (n : ℕ). stage_of w (record { agent = n; target = j.target; progress = i.progress; wide = i.wide })) agent
    ∙ ap (λ (x : Progress). stage_of w (record { agent = j.agent; target = j.target; progress = x; wide = i.wide })) progress
    ∙ ap (λ (b : Bool). stage_of w (record { agent = j.agent; target = j.target; progress = j.progress; wide = b })) wide

pub no_loop : NoLoop
no_loop p m to i placed inside same =
    let w : World = knowledge_at p in
    let lower : is_lower (stage_of w i) (stage_of w (item_of to m)) ≡ true = of_all (λ (j : TraceItem). is_lower (stage_of w j) (stage_of w (item_of to m))) i m.trace placed.lower inside in
    never_lower (stage_of w (item_of to m)) (subst (λ (s : Stage). is_lower s (stage_of w (item_of to m)) ≡ true) (same_stage w i (item_of to m) same) lower)
