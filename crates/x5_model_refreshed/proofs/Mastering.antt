-- The master's log: line by line it grows by the steps of the updates that the line accepted in the context, at the line's
-- moment, and these make of the context's entries what the updates make of them.
use Rattle.std.proofs.Common.{◌≡◌, ℕ, suc, ◌+◌, ◌-◌, ◌≤◌, Bool, true, false, nat_lt, if◌then◌else◌, ◌⊎◌, inl, inr, List, [], ◌∷◌, ◌++◌, length, drop, reverse, refl, sym, ap, subst, ◌∙◌, arith, Option, Some, None, Ok, Err}
use Rattle.std.specs.List.{filter}
use Rattle.std.proofs.lemmas.List.{map-append, reverse-append}
use Rattle.x5_model.specs.Words.{in_option}
use Rattle.x5_model.specs.Members.{In}
use Rattle.x5_model.specs.Keys.{Key}
use Rattle.x5_model.specs.Values.{key_of}
use Rattle.x5_model.proofs.Lists.{in_either, in_first, true_or_false}
use Rattle.x5_model.proofs.Decide.{less_decides}
use Rattle.x5_model_tree.specs.World.{World}
use Rattle.x5_model_tree.specs.Tree.{Tree, belongs, part}
use Rattle.x5_model_tree.specs.Masters.{masters, pins}
use Rattle.x5_model_tree.specs.Ask.{is_update}
use Rattle.x5_model_tree.specs.Apply.{Applied, ground_of, apply}
use Rattle.x5_model_tree.specs.Consistent.{IsConsistent}
use Rattle.x5_model_tree.specs.Described.{IsDescribed}
use Rattle.x5_model_tree.proofs.Longest.{belongs_decides}
use Rattle.x5_model_run.specs.Needs.{target_of}
use Rattle.x5_model_run.specs.History.{Acceptance, Deed, Nothing, Outs, Loses, Accepts, Refreshes, Splits, Unsplits, Did, tree_with, tree_accepting, tree_by, knowledge_by}
use Rattle.x5_model_run.specs.Refresh.{is_change_in, accepted_in, updates_in}
use Rattle.x5_model_theory.specs.Knowledge.{Knowledge}
use Rattle.x5_model_theory.specs.Coherent.{Coherent}
use Rattle.x5_model_theory.specs.Changing.{with_entries}
use Rattle.x5_model_updates.specs.Standing.{IsTreeOf}
use Rattle.x5_model_updates.specs.Keeping.{keys_in}
use Rattle.x5_model_updates.proofs.Outcomes.{accepted_over, tree_made}
use Rattle.x5_model_updates.proofs.Trees.{longest_own}
use Rattle.x5_model_updates.proofs.After.{target_in}
use Rattle.x5_model_updates.proofs.Keeps.{updates_keep}
use Rattle.x5_model_refreshed.specs.Steps.{Step, step_of, replay}
use Rattle.x5_model_refreshed.specs.Logs.{Log, moments_of, steps_later, noted_of, noted, log_after, logs_by}
use Rattle.x5_model_refreshed.specs.Replaying.{AreTaken, Happens, AllHappen}
use Rattle.x5_model_refreshed.proofs.Listing.{steps_of, later_joined, all_later, none_later, replay_joined, constant, constant_reversed, nothing_more, not_less}
use Rattle.x5_model_refreshed.proofs.Noting.{step_is_update}
use Rattle.x5_model_refreshed.proofs.Leading.{at_line, accepts_taken, tree_accepted, tree_before, tree_now, knowledge_stays, mastered_pin, stands, pins_stay}

-- ---- one update

abbrev pub as_noted : ℕ → Bool → Option Step → Log
as_noted n b o = if b then in_option [] (λ (s : Step). (n, s) ∷ []) o else []

module _ (k : Knowledge) (t u : Tree) (good : Coherent k) (is : IsTreeOf k t) (n : ℕ) (pin : Key) (a : Acceptance)
    (up : is_update a.request.body ≡ true) (done : apply t a.request ≡ Ok u) (held : In pin t.pins) where
  -- a context in which the update isn't has what it had
  pub elsewhere : belongs t.pins pin (key_of (target_of a.request.body)) ≡ false → part t pin ≡ part u pin
  elsewhere out =
      let v = accepted_over (ground_of t) a.request.body u.entries (tree_made t u a.request done).0 in
      let c = target_in k t good is a.request.body u.entries up v.1 in
      let own = (belongs_decides t.pins c.0.prefix (key_of (target_of a.request.body))).1 (longest_own k t good is c.0 (key_of (target_of a.request.body)) c.1 c.2) in
      sym ((step_is_update k t u a.request c.0.prefix good is up done own).others pin held
      (λ s. (let both : true ≡ false = sym own ∙ ap (λ (x : Key). belongs t.pins x (key_of (target_of a.request.body))) (sym s) ∙ out in cc)))

  -- what is noted of it: one change where it is in the context, and nothing elsewhere
  pub noted_one : (b : Bool) → is_change_in t.pins pin a ≡ b
      → (moments_of (noted_of n t.pins pin t a) ≡ (if b then n ∷ [] else []))
      × (replay (steps_of (noted_of n t.pins pin t a)) (part t pin) ≡ part u pin)
  noted_one true e =
      let s = step_is_update k t u a.request pin good is up done e in
      let q : noted_of n t.pins pin t a ≡ (n, s.step) ∷ [] =
      ap (λ (b : Bool). as_noted n b (step_of (part t pin) a.request.body)) e ∙ ap (as_noted n true) s.noted in
      (ap moments_of q, ap (λ (log : Log). replay (steps_of log) (part t pin)) q ∙ sym s.makes)
  noted_one false e =
      let q : noted_of n t.pins pin t a ≡ [] = ap (λ (b : Bool). as_noted n b (step_of (part t pin) a.request.body)) e in
      (ap moments_of q, ap (λ (log : Log). replay (steps_of log) (part t pin)) q ∙ elsewhere e)

-- ---- updates one after the other

abbrev or_left : Tree → Applied → Tree
or_left t (Ok u) = u
or_left t (Err x) = t

-- what is noted is at one moment
pub noted_at : (n : ℕ) (ps : List Key) (pin : Key) (t : Tree) (accepted : List Acceptance) (x : ℕ × Step)
    → In x (noted n ps pin t accepted) → x.0 ≡ n
noted_at n ps pin t [] x i = elim i [ ]
noted_at n ps pin t (a ∷ more) x i =
    elim (in_either x (noted_of n ps pin t a) (noted n ps pin (tree_with t a.request) more) i) [
      | inl j ↦ one (is_change_in ps pin a) (step_of (part t pin) a.request.body) j
      | inr j ↦ noted_at n ps pin (tree_with t a.request) more x j
    ]
  where
    one : (b : Bool) (o : Option Step) → In x (as_noted n b o) → x.0 ≡ n
    one false o j = elim j [ ]
    one true None j = elim j [ ]
    one true (Some s) j = elim (in_first x (n, s) [] j) [ inl e ↦ ap (λ (y : ℕ × Step). y.0) e | inr l ↦ elim l [ ] ]

first_kept : (n : ℕ) (test : Acceptance → Bool) (a : Acceptance) (more : List Acceptance) (b : Bool) → test a ≡ b
    → (if b then n ∷ [] else []) ++ constant n (filter test more) ≡ constant n (filter test (a ∷ more))
first_kept n test a more true e = sym (ap (λ (b : Bool). constant n (if b then a ∷ filter test more else filter test more)) e)
first_kept n test a more false e = sym (ap (λ (b : Bool). constant n (if b then a ∷ filter test more else filter test more)) e)

noted_all : (k : Knowledge) (t : Tree) → Coherent k → IsTreeOf k t → (n : ℕ) (ps : List Key) (pin : Key) → t.pins ≡ ps
    → In pin ps → (accepted : List Acceptance) → AreTaken t accepted
    → (moments_of (noted n ps pin t accepted) ≡ constant n (filter (is_change_in ps pin) accepted))
    × (replay (steps_of (noted n ps pin t accepted)) (part t pin) ≡ part (tree_accepting accepted t) pin)
noted_all k t good is n ps pin same held [] taken = (refl, refl)
noted_all k t good is n ps pin same held (a ∷ more) taken =
    let u : Tree = taken.1.0 in
    let done : apply t a.request ≡ Ok u = taken.1.1 in
    let now : tree_with t a.request ≡ u = ap (or_left t) done in
    let next = updates_keep k t u a.request good is done in
    let pins_now : u.pins ≡ ps = ap (λ (x : Tree). x.pins) (tree_made t u a.request done).1 ∙ same in
    let rest = noted_all (with_entries (keys_in u) k) u next.0 next.1 n ps pin pins_now held more (subst (λ (x : Tree). AreTaken x more) now taken.2) in
    let first = subst (λ (qs : List Key). (moments_of (noted_of n qs pin t a) ≡ (if is_change_in qs pin a then n ∷ [] else []))
    × (replay (steps_of (noted_of n qs pin t a)) (part t pin) ≡ part u pin)) same
    (noted_one k t u good is n pin a taken.0 done (subst (λ (qs : List Key). In pin qs) (sym same) held) (is_change_in t.pins pin a) refl) in
    let moved : noted n ps pin t (a ∷ more) ≡ noted_of n ps pin t a ++ noted n ps pin u more =
    ap (λ (x : Tree). noted_of n ps pin t a ++ noted n ps pin x more) now in (
      ap moments_of moved
          ∙ map-append (λ (x : ℕ × Step). x.0) (noted_of n ps pin t a) (noted n ps pin u more)
          ∙ ap (λ (ns : List ℕ). ns ++ moments_of (noted n ps pin u more)) first.0
          ∙ ap (λ (ns : List ℕ). (if is_change_in ps pin a then n ∷ [] else []) ++ ns) rest.0
          ∙ first_kept n (is_change_in ps pin) a more (is_change_in ps pin a) refl,
      ap (λ (log : Log). replay (steps_of log) (part t pin)) moved
          ∙ ap (λ (steps : List Step). replay steps (part t pin)) (map-append (λ (x : ℕ × Step). x.1) (noted_of n ps pin t a) (noted n ps pin u more))
          ∙ replay_joined (steps_of (noted_of n ps pin t a)) (steps_of (noted n ps pin u more)) (part t pin)
          ∙ ap (replay (steps_of (noted n ps pin u more))) first.1
          ∙ rest.1
          ∙ ap (λ (x : Tree). part (tree_accepting more x) pin) (sym now),
    )

-- ---- line by line

module _ (w : World) (described : IsDescribed w) (consistent : IsConsistent w) (a : ℕ) (pin : Key) (mine : masters w a pin ≡ true) where
  abbrev log : List Did → Log
  log past = logs_by w past a pin

  abbrev pub news : Did → List Did → Log
  news d before = noted (length before + 1) (pins w) pin (tree_by w before) (accepted_in d.deed)

  pub grows : (d : Did) (before : List Did) → AllHappen w (d ∷ before) → log (d ∷ before) ≡ log before ++ news d before
  grows d before h =
      let same : knowledge_by w before ≡ w = knowledge_stays w before h.1 in
      by d.deed h.0 (ap (λ (x : World). masters x a pin) same ∙ mine)
      ∙ ap (λ (x : World). log before ++ noted (length before + 1) (pins x) pin (tree_by w before) (accepted_in d.deed)) same
    where
      by : (x : Deed) → Happens (at_line w before) x → masters (knowledge_by w before) a pin ≡ true
          → log_after w before (logs_by w before) x a pin
          ≡ log before ++ noted (length before + 1) (pins (knowledge_by w before)) pin (tree_by w before) (accepted_in x)
      by Nothing m e = sym (nothing_more (log before))
      by (Outs o) m e = sym (nothing_more (log before))
      by (Loses reply j) m e = sym (nothing_more (log before))
      by (Accepts accepted) m e = rw e refl
      by (Refreshes f) m e = rw e (sym (nothing_more (log before)))
      by (Splits name to) m e = absurd m
      by (Unsplits name) m e = absurd m

  pub brings : (d : Did) (before : List Did) → AllHappen w (d ∷ before)
      → (moments_of (news d before) ≡ constant (length before + 1) (filter (is_change_in (pins w) pin) (accepted_in d.deed)))
      × (replay (steps_of (news d before)) (part (tree_by w before) pin) ≡ part (tree_by w (d ∷ before)) pin)
  brings d before h =
      let s = stands w described consistent before h.1 in
      let all = noted_all _ (tree_by w before) s.coherent s.tree (length before + 1) (pins w) pin (pins_stay w described consistent before h.1)
      (mastered_pin w a pin mine) (accepted_in d.deed) (accepts_taken (at_line w before) d.deed h.0) in
      (all.0, all.1 ∙ ap (λ (x : Tree). part x pin) (sym (tree_accepted (at_line w before) (tree_by w before) d.deed h.0)))

  -- the moments are those that are counted
  pub counted : (past : List Did) → AllHappen w past → moments_of (log past) ≡ reverse (updates_in (pins w) past pin)
  counted [] h = refl
  counted (d ∷ before) h =
      let own = constant (length before + 1) (filter (is_change_in (pins w) pin) (accepted_in d.deed)) in
      ap moments_of (grows d before h)
      ∙ map-append (λ (x : ℕ × Step). x.0) (log before) (news d before)
      ∙ ap (λ (ns : List ℕ). ns ++ moments_of (news d before)) (counted before h.1)
      ∙ ap (λ (ns : List ℕ). reverse (updates_in (pins w) before pin) ++ ns) ((brings d before h).0 ∙ sym (constant_reversed (length before + 1) (filter (is_change_in (pins w) pin) (accepted_in d.deed))))
      ∙ sym (reverse-append own (updates_in (pins w) before pin))

  -- none is later than the last line
  pub past_only : (past : List Did) → AllHappen w past → (x : ℕ × Step) → In x (log past) → x.0 ≤ length past
  past_only [] h x i = elim i [ ]
  past_only (d ∷ before) h x i =
      elim (in_either x (log before) (news d before) (subst (λ (xs : Log). In x xs) (grows d before h) i)) [
        | inl j ↦ (let l = past_only before h.1 x j in omega arith)
        | inr j ↦ (let e = noted_at (length before + 1) (pins w) pin (tree_by w before) (accepted_in d.deed) x j in omega arith)
      ]

  abbrev Replays : List Did → ℕ → Type 0
  Replays past m = replay (steps_later m (log past)) (part (tree_by w (drop (length past - m) past)) pin) ≡ part (tree_by w past) pin

  of_now : (past : List Did) (m : ℕ) → AllHappen w past → m ≡ length past → Replays past m
  of_now past m h s =
      ap (λ (steps : List Step). replay steps (part (tree_by w (drop (length past - m) past)) pin))
      (none_later m (log past) (λ x i. (let b = past_only past h x i in omega arith)))
      ∙ ap (λ (x : Tree). part x pin) (tree_now w past m s)

  of_before : (d : Did) (before : List Did) (m : ℕ) → AllHappen w (d ∷ before) → m ≤ length before → Replays before m → Replays (d ∷ before) m
  of_before d before m h l so_far =
      let late : steps_later m (news d before) ≡ steps_of (news d before) = all_later m (news d before)
      (λ x i. (let e = noted_at (length before + 1) (pins w) pin (tree_by w before) (accepted_in d.deed) x i in omega arith)) in
      ap (λ (steps : List Step). replay steps (part (tree_by w (drop (length (d ∷ before) - m) (d ∷ before))) pin))
      (ap (steps_later m) (grows d before h) ∙ later_joined m (log before) (news d before) ∙ ap (λ (steps : List Step). steps_later m (log before) ++ steps) late)
      ∙ ap (λ (x : Tree). replay (steps_later m (log before) ++ steps_of (news d before)) (part x pin)) (tree_before w d before m l)
      ∙ replay_joined (steps_later m (log before)) (steps_of (news d before)) (part (tree_by w (drop (length before - m) before)) pin)
      ∙ ap (replay (steps_of (news d before))) so_far
      ∙ (brings d before h).1

  now_or_before : (x y : ℕ) → x ≤ suc y → (x ≡ suc y) ⊎ (x ≤ y)
  now_or_before x y g = elim (true_or_false (nat_lt y x)) [
    | inl e ↦ inl (let l = (less_decides y x).0 e in omega arith)
    | inr e ↦ inr (not_less y x e)
  ]

  pub replays : (past : List Did) (m : ℕ) → AllHappen w past → m ≤ length past → Replays past m
  replays [] m h l = of_now [] m h (omega arith)
  replays (d ∷ before) m h l = elim (now_or_before m (length before) (omega arith)) [
    | inl s ↦ of_now (d ∷ before) m h (omega arith)
    | inr s ↦ of_before d before m h s (replays before m h.1 s)
  ]
