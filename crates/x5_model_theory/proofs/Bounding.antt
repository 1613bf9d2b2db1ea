-- Along a trace each item is further than the one before, so a trace has 96 items at most.
use Rattle.std.proofs.Common.{◌≡◌, ℕ, zero, suc, ◌+◌, ◌-◌, ◌*◌, ◌<◌, ◌≤◌, Bool, true, false, ◌⊎◌, inl, inr, List, [], ◌∷◌, ◌++◌, length, take, refl, sym, ap, subst, ◌∙◌, arith, length-append, Option, Some, None, if◌then◌else◌}
use Rattle.x5_model.specs.Words.{in_option}
use Rattle.x5_model.specs.Members.{In, here, there}
use Rattle.x5_model.specs.Keys.{Key}
use Rattle.x5_model.specs.Values.{Name, key_of}
use Rattle.x5_model.specs.References.{Progress, Start, Next, Done, Reference, TraceItem, Chained}
use Rattle.x5_model.proofs.KeyLaws.{key_decides}
use Rattle.x5_model.proofs.Lists.{in_either}
use Rattle.x5_model_tree.specs.World.{World}
use Rattle.x5_model_tree.specs.Masters.{masters, superior_of, supplier_of}
use Rattle.x5_model_run.specs.History.{knowledge_at, holdings_at}
use Rattle.x5_model_run.specs.Journal.{Line, item_of, is_wide}
use Rattle.x5_model_run.specs.Needs.{passing_needs, due_probes}
use Rattle.x5_model_run.specs.Chain.{IsCarried}
use Rattle.x5_model_run.specs.Stage.{Stage, stage_of, steps_up, steps_to_master}
use Rattle.x5_model_theory.specs.Leading.{item_for, level_of, IsFurther, IsGoing, TracesGoOn, NoLongTrace}
use Rattle.x5_model_theory.proofs.Stages.{key_length, stage_by_key}
use Rattle.x5_model_theory.proofs.Following.{leads_on}
use Rattle.x5_model_theory.proofs.Probing.{probe_further}

-- ---- traces go on

going_more : (w : World) (xs : List TraceItem) (i j : TraceItem) → IsGoing w (xs ++ i ∷ []) → IsFurther w i j → IsGoing w ((xs ++ i ∷ []) ++ j ∷ [])
going_more w [] i j g f = (f, tt)
going_more w (x ∷ []) i j g f = (g.0, (f, tt))
going_more w (x ∷ y ∷ ys) i j g f = (g.0, going_more w (y ∷ ys) i j g.1 f)

pub same_level : (a : ℕ) (s t : Name) (x : Progress) (wide : Bool) → length s ≡ length t
    → level_of (record { agent = a; target = s; progress = x; wide = wide }) ≡ level_of (record { agent = a; target = t; progress = x; wide = wide })
same_level a s t Start wide e = refl
same_level a s t (Next k) wide e = refl
same_level a s t Done wide e = ap (λ (n : ℕ). if wide then n + 1 else n) e

-- what is carried is as far as its reference
pub carried_further : (w : World) (i : TraceItem) (a : ℕ) (sender : Option ℕ) (opener : Line) (r : Reference) (m : Chained) → IsCarried sender opener r m → IsFurther w i (item_for a r) → IsFurther w i (item_of a m)
carried_further w i a sender opener r m carried f =
    let target : key_of r.target ≡ key_of m.target = (key_decides (key_of r.target) (key_of m.target)).0 carried.target_is in
    let long : length r.target ≡ length m.target = sym (key_length r.target) ∙ ap length target ∙ key_length m.target in
    let wide : is_wide r.kind ≡ is_wide m.kind = ap is_wide (sym carried.kind_is) in
    let stage : stage_of w (item_for a r) ≡ stage_of w (item_of a m) =
    stage_by_key w a r.target m.target r.progress (is_wide r.kind) target
    ∙ ap (λ (x : Progress). stage_of w (record { agent = a; target = m.target; progress = x; wide = is_wide r.kind })) (sym carried.progress_is)
    ∙ ap (λ (b : Bool). stage_of w (record { agent = a; target = m.target; progress = m.progress; wide = b })) wide in
    let level : level_of (item_for a r) ≡ level_of (item_of a m) =
    same_level a r.target m.target r.progress (is_wide r.kind) long
    ∙ ap (λ (x : Progress). level_of (record { agent = a; target = m.target; progress = x; wide = is_wide r.kind })) (sym carried.progress_is)
    ∙ ap (λ (b : Bool). level_of (record { agent = a; target = m.target; progress = m.progress; wide = b })) wide in
    elim f [
      | inl less ↦ inl (subst (λ (n : ℕ). level_of i < n) level less)
      | inr same ↦ inr (same.0 ∙ level, subst (λ (s : Stage). s.distance < (stage_of w i).distance) stage same.1)
    ]

pub traces_go_on : TracesGoOn
traces_go_on p sender opener r m a sound fit i ia carried going =
    let w : World = knowledge_at p in
    let o : ℕ = opener.receiver in
    let f : IsFurther (knowledge_at p) (item_of o opener.message) (item_for a r) =
    elim (in_either r (passing_needs (holdings_at p o) opener.message) (due_probes (holdings_at p o) opener.message) i) [
      | inl j ↦ (leads_on p o opener.message r a sound j ia).further
      | inr j ↦ probe_further p o opener.message r a sound fit j
    ] in
    subst (λ (xs : List TraceItem). IsGoing (knowledge_at p) (xs ++ item_of a m ∷ [])) (sym carried.trace_is)
    (going_more (knowledge_at p) opener.message.trace (item_of o opener.message) (item_of a m) going (carried_further (knowledge_at p) (item_of o opener.message) a sender opener r m carried f))

-- ---- and none is long

up_small : (n : ℕ) (w : World) (a : ℕ) → steps_up n w a ≤ n
up_small zero w a = omega arith
up_small (suc n) w a = go (superior_of w a) (up_small n w)
  where
    go : (x : Option ℕ) → ((b : ℕ) → steps_up n w b ≤ n) → in_option 0 (λ (above : ℕ). steps_up n w above + 1) x ≤ suc n
    go None f = omega arith
    go (Some b) f = (let h : steps_up n w b ≤ n = f b in omega arith)

to_master_small : (n : ℕ) (w : World) (pin : Key) (a : ℕ) → steps_to_master n w pin a ≤ n
to_master_small zero w pin a = omega arith
to_master_small (suc n) w pin a = go (masters w a pin) (supplier_of w a pin) (to_master_small n w pin)
  where
    go : (b : Bool) (x : Option ℕ) → ((s : ℕ) → steps_to_master n w pin s ≤ n) → (if b then 0 else in_option 0 (λ (s : ℕ). steps_to_master n w pin s + 1) x) ≤ suc n
    go true x f = omega arith
    go false None f = omega arith
    go false (Some s) f = (let h : steps_to_master n w pin s ≤ n = f s in omega arith)

-- the distance at a level is at most this
abbrev widest : ℕ → ℕ
widest zero = 16
widest (suc l) = 4

widest_small : (l : ℕ) → 4 ≤ widest l
widest_small zero = omega arith
widest_small (suc l) = omega arith

distance_small : (w : World) (i : TraceItem) → (stage_of w i).distance ≤ widest (level_of i)
distance_small w i = go i.progress
  where
    go : (x : Progress) → (stage_of w (record i { progress = x })).distance ≤ widest (level_of (record i { progress = x }))
    go Start = up_small 16 w i.agent
    go (Next k) =
        let a : steps_to_master 4 w (take k (key_of i.target)) i.agent ≤ 4 = to_master_small 4 w (take k (key_of i.target)) i.agent in
        let b : 4 ≤ widest k = widest_small k in
        omega arith
    go Done =
        let l : ℕ = level_of (record i { progress = Done }) in
        let a : steps_to_master 4 w (key_of i.target) i.agent ≤ 4 = to_master_small 4 w (key_of i.target) i.agent in
        let b : 4 ≤ widest (level_of (record i { progress = Done })) = widest_small (level_of (record i { progress = Done })) in
        omega arith

-- levels and distances in one row: 17 numbers for the level 0, then five for each
abbrev rank : ℕ → ℕ → ℕ
rank zero d = 16 - d
rank (suc l) d = 17 + 5 * l + (4 - d)

rank_rises : (l d k e : ℕ) → d ≤ widest l → e ≤ widest k → (l < k) ⊎ ((l ≡ k) × (e < d)) → rank l d < rank k e
rank_rises zero d zero e a b (inl less) = absurd (omega arith)
rank_rises zero d zero e a b (inr same) = (let h : e < d = same.1 in omega arith)
rank_rises zero d (suc k) e a b f = omega arith
rank_rises (suc l) d zero e a b (inl less) = absurd (omega arith)
rank_rises (suc l) d zero e a b (inr same) = (let z : suc l ≡ 0 = same.0 in absurd (omega arith))
rank_rises (suc l) d (suc k) e a b (inl less) = omega arith
rank_rises (suc l) d (suc k) e a b (inr same) = (let z : suc l ≡ suc k = same.0 in let h : e < d = same.1 in omega arith)

rank_small : (l d : ℕ) → l ≤ 16 → rank l d ≤ 96
rank_small zero d h = omega arith
rank_small (suc l) d h = omega arith

abbrev rank_of : World → TraceItem → ℕ
rank_of w i = rank (level_of i) (stage_of w i).distance

counted : (w : World) (i : TraceItem) (is : List TraceItem) → IsGoing w (i ∷ is) → ((j : TraceItem) → In j (i ∷ is) → level_of j ≤ 16) → length (i ∷ is) + rank_of w i ≤ 97
counted w i [] g f = (let h : rank (level_of i) (stage_of w i).distance ≤ 96 = rank_small (level_of i) (stage_of w i).distance (f i here) in omega arith)
counted w i (j ∷ is) g f =
    let more : length (j ∷ is) + rank (level_of j) (stage_of w j).distance ≤ 97 = counted w j is g.1 (λ x k. f x (there k)) in
    let rise : rank (level_of i) (stage_of w i).distance < rank (level_of j) (stage_of w j).distance =
    rank_rises (level_of i) (stage_of w i).distance (level_of j) (stage_of w j).distance (distance_small w i) (distance_small w j) g.0 in
    omega arith

pub no_long_trace : NoLongTrace
no_long_trace w to m going short = go m.trace going short
  where
    go : (xs : List TraceItem) → IsGoing w (xs ++ item_of to m ∷ []) → ((i : TraceItem) → In i (xs ++ item_of to m ∷ []) → level_of i ≤ 16) → length xs ≤ 96
    go [] g f = omega arith
    go (x ∷ xs) g f =
        let c : length (x ∷ (xs ++ item_of to m ∷ [])) + rank_of w x ≤ 97 = counted w x (xs ++ item_of to m ∷ []) g f in
        let l : length (xs ++ item_of to m ∷ []) ≡ length xs + 1 = length-append xs (item_of to m ∷ []) in
        omega arith
