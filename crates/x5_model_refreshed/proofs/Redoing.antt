-- The later steps of the master's log can be done one after another: each could when it was noted, on what those before it had made.
use Rattle.std.proofs.Common.{◌≡◌, ℕ, suc, ◌+◌, ◌-◌, ◌≤◌, Bool, true, false, nat_lt, ◌⊎◌, inl, inr, List, [], ◌∷◌, ◌++◌, length, drop, refl, sym, ap, subst, ◌∙◌, arith, Ok, Err}
use Rattle.std.proofs.lemmas.List.{map-append}
use Rattle.x5_model.specs.Members.{In}
use Rattle.x5_model.specs.Keys.{Key}
use Rattle.x5_model.specs.Entries.{Named}
use Rattle.x5_model.proofs.Lists.{true_or_false}
use Rattle.x5_model.proofs.Decide.{less_decides}
use Rattle.x5_model_tree.specs.World.{World}
use Rattle.x5_model_tree.specs.Tree.{Tree, part}
use Rattle.x5_model_tree.specs.Masters.{masters, pins}
use Rattle.x5_model_tree.specs.Ask.{is_update}
use Rattle.x5_model_tree.specs.Apply.{Applied, apply}
use Rattle.x5_model_tree.specs.Consistent.{IsConsistent}
use Rattle.x5_model_tree.specs.Described.{IsDescribed}
use Rattle.x5_model_run.specs.History.{Acceptance, Did, tree_with, tree_by}
use Rattle.x5_model_run.specs.Refresh.{is_change_in, accepted_in}
use Rattle.x5_model_theory.specs.Knowledge.{Knowledge}
use Rattle.x5_model_theory.specs.Coherent.{Coherent}
use Rattle.x5_model_theory.specs.Changing.{with_entries}
use Rattle.x5_model_updates.specs.Standing.{IsTreeOf}
use Rattle.x5_model_updates.specs.Keeping.{keys_in}
use Rattle.x5_model_updates.proofs.Outcomes.{tree_made}
use Rattle.x5_model_updates.proofs.Keeps.{updates_keep}
use Rattle.x5_model_refreshed.specs.Steps.{Step, step_of, replayed, replay}
use Rattle.x5_model_refreshed.specs.Logs.{Log, steps_later, noted_of, noted, logs_by}
use Rattle.x5_model_refreshed.specs.Replaying.{AreTaken, AllHappen}
use Rattle.x5_model_refreshed.specs.Doable.{CanReplay, MasterCanReplay}
use Rattle.x5_model_refreshed.proofs.Listing.{steps_of, later_joined, all_later, none_later, not_less}
use Rattle.x5_model_refreshed.proofs.Noting.{step_is_update}
use Rattle.x5_model_refreshed.proofs.Stepping.{step_can_be_done}
use Rattle.x5_model_refreshed.proofs.Leading.{at_line, accepts_taken, tree_before, knowledge_stays, mastered_pin, stands, pins_stay}
use Rattle.x5_model_refreshed.proofs.Mastering.{as_noted, noted_one, noted_at, grows, past_only, replays}

pub can_joined : (pin : Key) (xs ys : List Step) (es : List Named) → CanReplay pin es xs → CanReplay pin (replay xs es) ys → CanReplay pin es (xs ++ ys)
can_joined pin [] ys es a b = b
can_joined pin (s ∷ xs) ys es a b = (a.0, can_joined pin xs ys (replayed s es) a.1 b)

-- the same steps on the same entries
pub can_same : (pin : Key) (xs ys : List Step) (es us : List Named) → xs ≡ ys → es ≡ us → CanReplay pin us ys → CanReplay pin es xs
can_same pin xs ys es us s e c =
    subst (λ (zs : List Step). CanReplay pin es zs) (sym s) (subst (λ (zs : List Named). CanReplay pin zs ys) (sym e) c)

-- ---- one update

module _ (k : Knowledge) (t u : Tree) (good : Coherent k) (is : IsTreeOf k t) (n : ℕ) (pin : Key) (a : Acceptance)
    (up : is_update a.request.body ≡ true) (done : apply t a.request ≡ Ok u) where
  can_one : (b : Bool) → is_change_in t.pins pin a ≡ b → CanReplay pin (part t pin) (steps_of (noted_of n t.pins pin t a))
  can_one true e =
      let s = step_is_update k t u a.request pin good is up done e in
      let q : noted_of n t.pins pin t a ≡ (n, s.step) ∷ [] =
      ap (λ (b : Bool). as_noted n b (step_of (part t pin) a.request.body)) e ∙ ap (as_noted n true) s.noted in
      can_same pin (steps_of (noted_of n t.pins pin t a)) (s.step ∷ []) (part t pin) (part t pin) (ap steps_of q) refl
      (step_can_be_done k t u a.request pin s.step good is up done e s.noted, tt)
  can_one false e =
      let q : noted_of n t.pins pin t a ≡ [] = ap (λ (b : Bool). as_noted n b (step_of (part t pin) a.request.body)) e in
      can_same pin (steps_of (noted_of n t.pins pin t a)) [] (part t pin) (part t pin) (ap steps_of q) refl tt

-- ---- updates one after the other

abbrev or_left : Tree → Applied → Tree
or_left t (Ok u) = u
or_left t (Err x) = t

can_all : (k : Knowledge) (t : Tree) → Coherent k → IsTreeOf k t → (n : ℕ) (ps : List Key) (pin : Key) → t.pins ≡ ps
    → In pin ps → (accepted : List Acceptance) → AreTaken t accepted → CanReplay pin (part t pin) (steps_of (noted n ps pin t accepted))
can_all k t good is n ps pin same held [] taken = tt
can_all k t good is n ps pin same held (a ∷ more) taken =
    let u : Tree = taken.1.0 in
    let done : apply t a.request ≡ Ok u = taken.1.1 in
    let now : tree_with t a.request ≡ u = ap (or_left t) done in
    let next = updates_keep k t u a.request good is done in
    let pins_now : u.pins ≡ ps = ap (λ (x : Tree). x.pins) (tree_made t u a.request done).1 ∙ same in
    let rest = can_all (with_entries (keys_in u) k) u next.0 next.1 n ps pin pins_now held more (subst (λ (x : Tree). AreTaken x more) now taken.2) in
    let first = subst (λ (qs : List Key). CanReplay pin (part t pin) (steps_of (noted_of n qs pin t a))
    × (replay (steps_of (noted_of n qs pin t a)) (part t pin) ≡ part u pin)) same (
      can_one k t u good is n pin a taken.0 done (is_change_in t.pins pin a) refl,
      (noted_one k t u good is n pin a taken.0 done (subst (λ (qs : List Key). In pin qs) (sym same) held) (is_change_in t.pins pin a) refl).1,
    ) in
    let moved : noted n ps pin t (a ∷ more) ≡ noted_of n ps pin t a ++ noted n ps pin u more =
    ap (λ (x : Tree). noted_of n ps pin t a ++ noted n ps pin x more) now in
    can_same pin (steps_of (noted n ps pin t (a ∷ more))) (steps_of (noted_of n ps pin t a) ++ steps_of (noted n ps pin u more)) (part t pin) (part t pin)
    (ap steps_of moved ∙ map-append (λ (x : ℕ × Step). x.1) (noted_of n ps pin t a) (noted n ps pin u more)) refl
    (can_joined pin (steps_of (noted_of n ps pin t a)) (steps_of (noted n ps pin u more)) (part t pin) first.0
    (can_same pin (steps_of (noted n ps pin u more)) (steps_of (noted n ps pin u more)) (replay (steps_of (noted_of n ps pin t a)) (part t pin)) (part u pin) refl first.1 rest))

-- ---- line by line

module _ (w : World) (described : IsDescribed w) (consistent : IsConsistent w) (a : ℕ) (pin : Key) (mine : masters w a pin ≡ true) where
  abbrev log : List Did → Log
  log past = logs_by w past a pin

  abbrev fresh : Did → List Did → Log
  fresh d before = noted (length before + 1) (pins w) pin (tree_by w before) (accepted_in d.deed)

  abbrev then_part : List Did → ℕ → List Named
  then_part past m = part (tree_by w (drop (length past - m) past)) pin

  can_line : (d : Did) (before : List Did) → AllHappen w (d ∷ before) → CanReplay pin (part (tree_by w before) pin) (steps_of (fresh d before))
  can_line d before h =
      let s = stands w described consistent before h.1 in
      can_all _ (tree_by w before) s.coherent s.tree (length before + 1) (pins w) pin (pins_stay w described consistent before h.1)
      (mastered_pin w a pin mine) (accepted_in d.deed) (accepts_taken (at_line w before) d.deed h.0)

  abbrev CanFrom : List Did → ℕ → Type 0
  CanFrom past m = CanReplay pin (then_part past m) (steps_later m (log past))

  can_now : (past : List Did) (m : ℕ) → AllHappen w past → m ≡ length past → CanFrom past m
  can_now past m h s =
      can_same pin (steps_later m (log past)) [] (then_part past m) (then_part past m)
      (none_later m (log past) (λ x i. (let b = past_only w described consistent a pin mine past h x i in omega arith))) refl tt

  can_before : (d : Did) (before : List Did) (m : ℕ) → AllHappen w (d ∷ before) → m ≤ length before → CanFrom before m → CanFrom (d ∷ before) m
  can_before d before m h l so_far =
      let late : steps_later m (fresh d before) ≡ steps_of (fresh d before) = all_later m (fresh d before)
      (λ x i. (let e = noted_at (length before + 1) (pins w) pin (tree_by w before) (accepted_in d.deed) x i in omega arith)) in
      can_same pin (steps_later m (log (d ∷ before))) (steps_later m (log before) ++ steps_of (fresh d before)) (then_part (d ∷ before) m) (then_part before m)
      (ap (steps_later m) (grows w described consistent a pin mine d before h) ∙ later_joined m (log before) (fresh d before)
      ∙ ap (λ (steps : List Step). steps_later m (log before) ++ steps) late)
      (ap (λ (x : Tree). part x pin) (tree_before w d before m l))
      (can_joined pin (steps_later m (log before)) (steps_of (fresh d before)) (then_part before m) so_far
      (can_same pin (steps_of (fresh d before)) (steps_of (fresh d before)) (replay (steps_later m (log before)) (then_part before m)) (part (tree_by w before) pin) refl
      (replays w described consistent a pin mine before m h.1 l) (can_line d before h)))

  now_or_before : (x y : ℕ) → x ≤ suc y → (x ≡ suc y) ⊎ (x ≤ y)
  now_or_before x y g = elim (true_or_false (nat_lt y x)) [
    | inl e ↦ inl (let l = (less_decides y x).0 e in omega arith)
    | inr e ↦ inr (not_less y x e)
  ]

  pub can_from : (past : List Did) (m : ℕ) → AllHappen w past → m ≤ length past → CanFrom past m
  can_from [] m h l = can_now [] m h (omega arith)
  can_from (d ∷ before) m h l = elim (now_or_before m (length before) (omega arith)) [
    | inl s ↦ can_now (d ∷ before) m h (omega arith)
    | inr s ↦ can_before d before m h s (can_from before m h.1 s)
  ]

pub master_can_replay : MasterCanReplay
master_can_replay p a m pin led mine l =
    can_from p.described led.described led.consistent a pin
    (ap (λ (x : World). masters x a pin) (sym (knowledge_stays p.described p.past led.happened)) ∙ mine) p.past m led.happened l
