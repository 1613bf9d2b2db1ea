-- The later steps of a consumer's log can be done one after another: each refresh brought such as its supplier's log had since the
-- copy's stamp. By induction over the lines before, for all consumers at once, since a supplier may be one itself.
use Rattle.std.proofs.Common.{◌≡◌, ℕ, ◌≤◌, ◌<◌, Bool, false, if◌then◌else◌, nat_lt, inl, inr, List, [], ◌∷◌, ◌++◌, length, refl, sym, ap, subst, ◌∙◌, arith, Option, Some}
use Rattle.x5_model.specs.Words.{in_option}
use Rattle.x5_model.specs.Members.{In}
use Rattle.x5_model.specs.Keys.{Key}
use Rattle.x5_model.specs.Values.{key_of}
use Rattle.x5_model.proofs.Lists.{in_first, true_or_false}
use Rattle.x5_model.proofs.Decide.{less_decides}
use Rattle.x5_model_tree.specs.World.{Agreement, World}
use Rattle.x5_model_tree.specs.Tree.{part}
use Rattle.x5_model_tree.specs.Masters.{masters}
use Rattle.x5_model_tree.specs.Consistent.{IsConsistent}
use Rattle.x5_model_tree.specs.Described.{IsDescribed}
use Rattle.x5_model_tree.specs.Conditions.{AgreementSupplies}
use Rattle.x5_model_tree.proofs.Exact.{conditions_hold}
use Rattle.x5_model_run.specs.History.{Refreshed, Refreshes, Did, Deed, as_of, refreshes_of, knowledge_at, tree_of_moment, mastered_at, copy_as_of, copy_by}
use Rattle.x5_model_run.specs.Refresh.{consumed_by, changes_at, base_of}
use Rattle.x5_model_refreshed.specs.Steps.{Step, replay}
use Rattle.x5_model_refreshed.specs.Logs.{Log, steps_later, stamped, logs_by, stamps_since, log_at}
use Rattle.x5_model_refreshed.specs.Replaying.{Happens, AllHappen, IsBrought}
use Rattle.x5_model_refreshed.specs.Doable.{CanReplay, ConsumerCanReplay, RefreshCanReplay}
use Rattle.x5_model_refreshed.proofs.Listing.{later_joined, all_later, none_later, stamped_steps, stamped_at, not_less}
use Rattle.x5_model_refreshed.proofs.Stamping.{since_in, since_below, stamps_more}
use Rattle.x5_model_refreshed.proofs.Refreshed.{entries_are}
use Rattle.x5_model_refreshed.proofs.Leading.{at_line, knowledge_stays}
use Rattle.x5_model_refreshed.proofs.Supplying.{Source, Since, source, since, IsByIt, change}
use Rattle.x5_model_refreshed.proofs.Consuming.{then_of, then_before, KeptBy, still_since, last_early, more_under, agreement_of, all_kept}
use Rattle.x5_model_refreshed.proofs.Bringing.{not_master, by_it, some_number}
use Rattle.x5_model_refreshed.proofs.Redoing.{can_joined, can_same, can_from}

-- from each stamp since the last total refresh
abbrev CanBy : World → List Did → ℕ → Key → Agreement → Type 0
CanBy w past a pin g =
    (m : ℕ) → In m (stamps_since (refreshes_of past g.number)) → CanReplay pin (then_of w past pin m) (steps_later m (logs_by w past a pin))

-- ---- a line that brings a refresh

module _ (w : World) (described : IsDescribed w) (consistent : IsConsistent w) (d : Did) (before : List Did) (h : AllHappen w before)
    (a : ℕ) (pin : Key) (g : Agreement) (kept : KeptBy w before a pin g)
    (theirs : (own : Agreement) → masters w g.supplier pin ≡ false → consumed_by w g.supplier pin ≡ Some own → KeptBy w before g.supplier pin own)
    (f : Refreshed) (brings : d.deed ≡ Refreshes f) (from : Source w before pin g f)
    (they_can : (own : Agreement) → masters w g.supplier pin ≡ false → consumed_by w g.supplier pin ≡ Some own → CanBy w before g.supplier pin own) where
  abbrev last : Option ℕ
  last = as_of (at_line w before) g.number

  abbrev supplied_log : Log
  supplied_log = logs_by w before g.supplier pin

  -- what the supplier has since the copy's stamp can be done on the copy
  supplier_can : (m : ℕ) → last ≡ Some m → nat_lt m (base_of (changes_at (at_line w before) g.supplier pin)) ≡ false
      → CanReplay pin (then_of w before pin m) (steps_later m supplied_log)
  supplier_can m e known =
      let early = last_early w described consistent d before h a pin g kept theirs f brings from m e in
      let still = still_since w described consistent d before h a pin g kept theirs f brings from m e known in
      elim from [
        | inl v ↦ can_from w described consistent g.supplier pin v.0 before m h early.0
        | inr v ↦ they_can v.1.0 v.0 v.1.1 m (still v.1.0 v.0 v.1.1)
      ]

  module _ (mine : CanBy w before a pin g) (t : f.total ≡ false) (go : Since w before pin g f) where
    abbrev steps : List Step
    steps = steps_later go.0 supplied_log

    abbrev more : Log
    more = logs_by w before a pin ++ stamped f.stamp steps

    can_new : (n : ℕ) → In n (stamps_since (refreshes_of before g.number))
        → CanReplay pin (replay (steps_later n (logs_by w before a pin)) (then_of w before pin n)) (steps_later n (stamped f.stamp steps))
    can_new n i = elim (true_or_false (nat_lt n f.stamp)) [
      | inl e ↦
          let less : n < f.stamp = (less_decides n f.stamp).0 e in
          can_same pin (steps_later n (stamped f.stamp steps)) steps
          (replay (steps_later n (logs_by w before a pin)) (then_of w before pin n)) (then_of w before pin go.0)
          (all_later n (stamped f.stamp steps) (λ x j. (let q = stamped_at f.stamp steps x j in omega arith)) ∙ stamped_steps f.stamp steps)
          (kept.replays n go.0 go.1 i) (supplier_can go.0 go.1 go.2)
      | inr e ↦
          let up : f.stamp ≤ n = not_less n f.stamp e in
          subst (λ (xs : List Step). CanReplay pin (replay (steps_later n (logs_by w before a pin)) (then_of w before pin n)) xs)
          (sym (none_later n (stamped f.stamp steps) (λ x j. (let q = stamped_at f.stamp steps x j in omega arith)))) tt
    ]

    can_after : (n : ℕ) → In n (stamps_since (refreshes_of before g.number)) → CanReplay pin (then_of w (d ∷ before) pin n) (steps_later n more)
    can_after n i =
        let fs = refreshes_of before g.number in
        let early = last_early w described consistent d before h a pin g kept theirs f brings from go.0 go.1 in
        let low : n ≤ go.0 = since_below fs go.0 n kept.falls go.1 i in
        let l0 : go.0 ≤ length before = early.0 in
        can_same pin (steps_later n more) (steps_later n (logs_by w before a pin) ++ steps_later n (stamped f.stamp steps))
        (then_of w (d ∷ before) pin n) (then_of w before pin n)
        (later_joined n (logs_by w before a pin) (stamped f.stamp steps)) (then_before w d before pin n (omega arith))
        (can_joined pin (steps_later n (logs_by w before a pin)) (steps_later n (stamped f.stamp steps)) (then_of w before pin n) (mine n i) (can_new n i))

    can_more : (n : ℕ) → In n (stamps_since (f ∷ refreshes_of before g.number)) → CanReplay pin (then_of w (d ∷ before) pin n) (steps_later n more)
    can_more n i = elim (in_first n f.stamp (stamps_since (refreshes_of before g.number)) (subst (λ (ms : List ℕ). In n ms) (stamps_more f (refreshes_of before g.number) t) i)) [
      | inl q ↦ subst (λ (xs : List Step). CanReplay pin (then_of w (d ∷ before) pin n) xs)
          (sym (none_later n more (λ x j. (let l = more_under w described consistent d before h a pin g kept theirs f brings from t go x j in omega arith)))) tt
      | inr j ↦ can_after n j
    ]

-- ---- line by line

module _ (w : World) (described : IsDescribed w) (consistent : IsConsistent w) where
  module _ (d : Did) (before : List Did) (h : AllHappen w (d ∷ before)) (a : ℕ) (pin : Key) (g : Agreement) (o : masters w a pin ≡ false)
      (c : consumed_by w a pin ≡ Some g) (mine : CanBy w before a pin g)
      (they_can : (own : Agreement) → masters w g.supplier pin ≡ false → consumed_by w g.supplier pin ≡ Some own → CanBy w before g.supplier pin own) where
    abbrev new_if : Refreshed → Bool → Log
    new_if f b =
        if b then [] else (logs_by w before a pin ++ in_option [] (λ (m : ℕ). stamped f.stamp (steps_later m (logs_by w before g.supplier pin))) (as_of (at_line w before) g.number))

    brought_can : (f : Refreshed) → IsByIt w before a pin g d.deed f → CanBy w (d ∷ before) a pin g
    brought_can f one m i =
        let at = agreement_of w described consistent a pin g c in
        let is : IsBrought (at_line w before) f = subst (λ (x : Deed). Happens (at_line w before) x) one.0 h.0 in
        let from = source w described before h.1 f is pin g at.0 one.1 at.2 in
        let j : In m (stamps_since (f ∷ refreshes_of before g.number)) = subst (λ (xs : List Refreshed). In m (stamps_since xs)) one.3 i in
        elim (true_or_false f.total) [
          | inl t ↦ subst (λ (xs : Log). CanReplay pin (then_of w (d ∷ before) pin m) (steps_later m xs)) (sym (one.2 ∙ ap (new_if f) t)) tt
          | inr t ↦
              let go = since w described before h.1 f is pin g at.0 one.1 at.2 t in
              subst (λ (xs : Log). CanReplay pin (then_of w (d ∷ before) pin m) (steps_later m xs))
              (sym (one.2 ∙ ap (new_if f) t
              ∙ ap (λ (o : Option ℕ). logs_by w before a pin ++ in_option [] (λ (m : ℕ). stamped f.stamp (steps_later m (logs_by w before g.supplier pin))) o) go.1))
              (can_more w described consistent d before h.1 a pin g (all_kept w described consistent before h.1 a pin g o c)
              (λ own e q. all_kept w described consistent before h.1 g.supplier pin own e q) f one.0 from they_can mine t go m j)
        ]

    quiet_can : (refreshes_of (d ∷ before) g.number ≡ refreshes_of before g.number) → logs_by w (d ∷ before) a pin ≡ logs_by w before a pin
        → CanBy w (d ∷ before) a pin g
    quiet_can fewer same m i =
        let j : In m (stamps_since (refreshes_of before g.number)) = subst (λ (xs : List Refreshed). In m (stamps_since xs)) fewer i in
        let kept = all_kept w described consistent before h.1 a pin g o c in
        let x = since_in (refreshes_of before g.number) m j in
        let l : x.0.stamp ≤ length before = kept.early x.0 x.1 in
        let q : x.0.stamp ≡ m = x.2 in
        can_same pin (steps_later m (logs_by w (d ∷ before) a pin)) (steps_later m (logs_by w before a pin)) (then_of w (d ∷ before) pin m) (then_of w before pin m)
        (ap (steps_later m) same) (then_before w d before pin m (omega arith)) (mine m j)

  all_can : (past : List Did) → AllHappen w past → (a : ℕ) (pin : Key) (g : Agreement) → masters w a pin ≡ false → consumed_by w a pin ≡ Some g
      → CanBy w past a pin g
  all_can [] h a pin g o c m i = elim i [ ]
  all_can (d ∷ before) h a pin g o c m i = elim (change w before h.1 a pin g o c d.deed h.0) [
    | inl same ↦ quiet_can d before h a pin g o c (all_can before h.1 a pin g o c) (λ own e q. all_can before h.1 g.supplier pin own e q) same.1 same.0 m i
    | inr by_one ↦ brought_can d before h a pin g o c (all_can before h.1 a pin g o c) (λ own e q. all_can before h.1 g.supplier pin own e q)
        by_one.0 by_one.1 m i
  ]

pub consumer_can_replay : ConsumerCanReplay
consumer_can_replay p a m pin g led other mine i =
    let same = sym (knowledge_stays p.described p.past led.happened) in
    all_can p.described led.described led.consistent p.past led.happened a pin g
    (ap (λ (x : World). masters x a pin) same ∙ other) (ap (λ (x : World). consumed_by x a pin) same ∙ mine) m i

pub refresh_can_replay : RefreshCanReplay
refresh_can_replay p f g m led is t i e at =
    let here : In g p.described.agreements = subst (λ (k : World). In g k.agreements) (knowledge_stays p.described p.past led.happened) i in
    let supplies : AgreementSupplies p.described g = (conditions_hold p.described led.consistent).supplied g here in
    let kept = all_kept p.described led.described led.consistent p.past led.happened g.consumer (key_of g.context) g
    (not_master p.described g here supplies) (by_it p.described g here supplies) in
    let from = source p.described led.described p.past led.happened f is (key_of g.context) g here (sym e) refl in
    let go = since p.described led.described p.past led.happened f is (key_of g.context) g here (sym e) refl t in
    let same : go.0 ≡ m = some_number go.0 m (sym go.1 ∙ at) in
    let had : (copy_by p g).held.entries ≡ part (tree_of_moment p m) (key_of g.context) =
    ap (λ (x : Option ℕ). (copy_as_of p g x).entries) at
    ∙ entries_are (knowledge_at p) g.context (part (tree_of_moment p m) (key_of g.context)) (mastered_at (knowledge_at p) (key_of g.context)) in
    can_same (key_of g.context) (steps_later m (log_at p g.supplier (key_of g.context))) (steps_later m (log_at p g.supplier (key_of g.context)))
    (copy_by p g).held.entries (part (tree_of_moment p m) (key_of g.context)) refl had
    (supplier_can p.described led.described led.consistent (record { deed = Refreshes f; sent = 0 }) p.past led.happened
    g.consumer (key_of g.context) g kept
    (λ own o c. all_kept p.described led.described led.consistent p.past led.happened g.supplier (key_of g.context) own o c)
    f refl from
    (λ own o c. all_can p.described led.described led.consistent p.past led.happened g.supplier (key_of g.context) own o c)
    m at (subst (λ (n : ℕ). nat_lt n (base_of (changes_at p g.supplier (key_of g.context))) ≡ false) same go.2))
