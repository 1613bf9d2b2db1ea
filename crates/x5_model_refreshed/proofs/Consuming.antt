-- A consumer's log: it has what is counted of its agreement's refreshes, whose stamps fall, and it replays from each stamp since
-- the last total refresh. By induction over the lines before, for all consumers at once, since a supplier may be one itself.
use Rattle.std.proofs.Common.{◌≡◌, ℕ, ◌+◌, ◌-◌, ◌<◌, ◌≤◌, ◌==◌, Bool, true, false, if◌then◌else◌, nat_lt, inl, inr, List, [], ◌∷◌, ◌++◌, length, replicate, drop, reverse, refl, sym, ap, subst, ◌∙◌, arith, Option, Some}
use Rattle.std.proofs.lemmas.List.{map-append, reverse-append}
use Rattle.x5_model.specs.Words.{first_of, in_option}
use Rattle.x5_model.specs.Members.{In}
use Rattle.x5_model.specs.Keys.{Key, same_key}
use Rattle.x5_model.specs.Values.{key_of}
use Rattle.x5_model.specs.Entries.{Named}
use Rattle.x5_model.proofs.KeyLaws.{key_decides}
use Rattle.x5_model.proofs.Lists.{in_first, in_either, in_right, of_find, both_true, true_or_false}
use Rattle.x5_model.proofs.Decide.{less_decides, nat_same_decides}
use Rattle.x5_model_tree.specs.World.{Agreement, World}
use Rattle.x5_model_tree.specs.Tree.{Tree, part}
use Rattle.x5_model_tree.specs.Masters.{masters, is_consumer}
use Rattle.x5_model_tree.specs.Consistent.{IsConsistent}
use Rattle.x5_model_tree.specs.Described.{IsDescribed}
use Rattle.x5_model_run.specs.History.{Refreshed, Deed, Refreshes, Did, tree_after, tree_by, refresh_of, refreshes_of, stamp_of, as_of}
use Rattle.x5_model_run.specs.Refresh.{Changes, steps_since, consumed_by, changes_at, base_of}
use Rattle.x5_model_refreshed.specs.Steps.{Step, replay}
use Rattle.x5_model_refreshed.specs.Logs.{Log, moments_of, steps_later, stamped, logs_by, stamps_since}
use Rattle.x5_model_refreshed.specs.Replaying.{Happens, AllHappen, IsBrought}
use Rattle.x5_model_refreshed.proofs.Listing.{later_joined, all_later, none_later, replay_joined, stamped_steps, stamped_at, not_less}
use Rattle.x5_model_refreshed.proofs.Stamping.{Falls, newest_in, below_newest, since_below, kept_since, as_many, stamped_moments, copies_reversed, after_total, after_steps, stamps_total, stamps_more}
use Rattle.x5_model_refreshed.proofs.Leading.{at_line, tree_before, tree_now}
use Rattle.x5_model_refreshed.proofs.Supplying.{some_agreement, changes_master, changes_consumer, Source, Since, source, since, IsByIt, change}
use Rattle.x5_model_refreshed.proofs.Mastering.{counted, replays}

-- the entries of a context as of a moment
abbrev pub then_of : World → List Did → Key → ℕ → List Named
then_of w past pin m = part (tree_by w (drop (length past - m) past)) pin

pub then_before : (w : World) (d : Did) (before : List Did) (pin : Key) (m : ℕ) → m ≤ length before
    → then_of w (d ∷ before) pin m ≡ then_of w before pin m
then_before w d before pin m l = ap (λ (t : Tree). part t pin) (tree_before w d before m l)

-- what is so of a consumer's log, and of the refreshes by its agreement
pub record Kept (w : World) (past : List Did) (pin : Key) (g : Agreement) (log : Log) (fs : List Refreshed) : Type 0 where
  pub moments : moments_of log ≡ reverse (steps_since fs).moments
  pub falls : Falls fs
  pub early : (f : Refreshed) → In f fs → f.stamp ≤ length past
  pub under : (s : ℕ) → stamp_of (first_of fs) ≡ Some s → (x : ℕ × Step) → In x log → x.0 ≤ s
  pub from : (own : Agreement) → masters w g.supplier pin ≡ false → consumed_by w g.supplier pin ≡ Some own → (f : Refreshed) → In f fs
      → (e : Refreshed) × In e (refreshes_of past own.number) × (e.stamp ≡ f.stamp)
  pub replays : (m s : ℕ) → stamp_of (first_of fs) ≡ Some s → In m (stamps_since fs)
      → replay (steps_later m log) (then_of w past pin m) ≡ then_of w past pin s

abbrev pub KeptBy : World → List Did → ℕ → Key → Agreement → Type 0
KeptBy w past a pin g = Kept w past pin g (logs_by w past a pin) (refreshes_of past g.number)

-- ---- a line that brings it nothing

kept_on : (w : World) (d : Did) (before : List Did) (pin : Key) (g : Agreement) (log : Log) (fs : List Refreshed)
    → Kept w before pin g log fs → Kept w (d ∷ before) pin g log fs
kept_on w d before pin g log fs k = record {
  moments = k.moments;
  falls = k.falls;
  early = λ f i. (let l = k.early f i in omega arith);
  under = k.under;
  from = λ own o c f i. (let e = k.from own o c f i in (e.0, in_right e.0 (refresh_of d.deed own.number) (refreshes_of before own.number) e.1, e.2));
  replays = λ m s e i.
      let n = newest_in fs s e in
      let l : n.0.stamp ≤ length before = k.early n.0 n.1 in
      let q : n.0.stamp ≡ s = n.2 in
      let j : m ≤ s = since_below fs s m k.falls e i in
      ap (replay (steps_later m log)) (then_before w d before pin m (omega arith))
      ∙ k.replays m s e i
      ∙ sym (then_before w d before pin s (omega arith));
}

-- ---- a line that brings it a refresh

module _ (w : World) (described : IsDescribed w) (consistent : IsConsistent w) (d : Did) (before : List Did) (h : AllHappen w before)
    (a : ℕ) (pin : Key) (g : Agreement) (kept : KeptBy w before a pin g)
    (theirs : (own : Agreement) → masters w g.supplier pin ≡ false → consumed_by w g.supplier pin ≡ Some own → KeptBy w before g.supplier pin own)
    (f : Refreshed) (brings : d.deed ≡ Refreshes f) (from : Source w before pin g f) where
  abbrev fs : List Refreshed
  fs = refreshes_of before g.number

  abbrev log : Log
  log = logs_by w before a pin

  abbrev supplied_log : Log
  supplied_log = logs_by w before g.supplier pin

  abbrev last : Option ℕ
  last = as_of (at_line w before) g.number

  -- its stamp isn't before the earlier ones, and no moment is later
  risen : (x : Refreshed) → In x fs → x.stamp ≤ f.stamp
  risen x i = elim from [
    | inl m ↦ (let l = kept.early x i in let e = m.1 in omega arith)
    | inr v ↦
        let own : Agreement = v.1.0 in
        let k : KeptBy w before g.supplier pin own = theirs own v.0 v.1.1 in
        let e = kept.from own v.0 v.1.1 x i in
        let l : e.0.stamp ≤ f.stamp = below_newest (refreshes_of before own.number) f.stamp k.falls v.1.2 e.0 e.1 in
        let q : e.0.stamp ≡ x.stamp = e.2 in
        omega arith
  ]

  in_time : f.stamp ≤ length before + 1
  in_time = elim from [
    | inl m ↦ (let e = m.1 in omega arith)
    | inr v ↦
        let own : Agreement = v.1.0 in
        let k : KeptBy w before g.supplier pin own = theirs own v.0 v.1.1 in
        let n = newest_in (refreshes_of before own.number) f.stamp v.1.2 in
        let l : n.0.stamp ≤ length before = k.early n.0 n.1 in
        let q : n.0.stamp ≡ f.stamp = n.2 in
        omega arith
  ]

  some_same : (x y : Agreement) → consumed_by w g.supplier pin ≡ Some x → consumed_by w g.supplier pin ≡ Some y → x ≡ y
  some_same x y e c = some_agreement x y (sym e ∙ c)

  -- a consumer that supplies it had the stamp
  new_from : (own : Agreement) → masters w g.supplier pin ≡ false → consumed_by w g.supplier pin ≡ Some own
      → (e : Refreshed) × In e (refreshes_of (d ∷ before) own.number) × (e.stamp ≡ f.stamp)
  new_from own o c = elim from [
    | inl m ↦ (let both : true ≡ false = sym m.0 ∙ o in cc)
    | inr v ↦
        let n = newest_in (refreshes_of before v.1.0.number) f.stamp v.1.2 in
        let i = subst (λ (x : Agreement). In n.0 (refreshes_of before x.number)) (some_same v.1.0 own v.1.1 c) n.1 in
        (n.0, in_right n.0 (refresh_of d.deed own.number) (refreshes_of before own.number) i, n.2)
  ]

  old_from : (own : Agreement) → masters w g.supplier pin ≡ false → consumed_by w g.supplier pin ≡ Some own → (x : Refreshed) → In x fs
      → (e : Refreshed) × In e (refreshes_of (d ∷ before) own.number) × (e.stamp ≡ x.stamp)
  old_from own o c x i = (let e = kept.from own o c x i in (e.0, in_right e.0 (refresh_of d.deed own.number) (refreshes_of before own.number) e.1, e.2))

  any_from : (own : Agreement) → masters w g.supplier pin ≡ false → consumed_by w g.supplier pin ≡ Some own → (x : Refreshed) → In x (f ∷ fs)
      → (e : Refreshed) × In e (refreshes_of (d ∷ before) own.number) × (e.stamp ≡ x.stamp)
  any_from own o c x i = elim (in_first x f fs i) [
    | inl q ↦ (let n = new_from own o c in (n.0, n.1, n.2 ∙ ap (λ (y : Refreshed). y.stamp) (sym q)))
    | inr j ↦ old_from own o c x j
  ]

  all_early : (x : Refreshed) → In x (f ∷ fs) → x.stamp ≤ length (d ∷ before)
  all_early x i = elim (in_first x f fs i) [
    | inl q ↦ (let l = in_time in let e : x.stamp ≡ f.stamp = ap (λ (y : Refreshed). y.stamp) q in omega arith)
    | inr j ↦ (let l = kept.early x j in omega arith)
  ]

  -- a stamp of the copy so far
  pub last_early : (m : ℕ) → last ≡ Some m → (m ≤ length before) × (m ≤ f.stamp)
  last_early m e =
      let n = newest_in fs m e in
      let q : n.0.stamp ≡ m = n.2 in
      let l : n.0.stamp ≤ length before = kept.early n.0 n.1 in
      let r : n.0.stamp ≤ f.stamp = risen n.0 n.1 in
      (omega arith, omega arith)

  -- ---- the supplier's log

  tree_stays : tree_by w (d ∷ before) ≡ tree_by w before
  tree_stays = ap (λ (x : Deed). tree_after x (tree_by w before)) brings

  -- it has what is counted
  pub supplier_counts : moments_of supplied_log ≡ reverse (changes_at (at_line w before) g.supplier pin).moments
  supplier_counts = elim from [
    | inl m ↦
        counted w described consistent g.supplier pin m.0 before h
        ∙ ap (λ (c : Changes). reverse c.moments) (sym (changes_master w before h g.supplier pin m.0))
    | inr v ↦
        let k : KeptBy w before g.supplier pin v.1.0 = theirs v.1.0 v.0 v.1.1 in
        k.moments ∙ ap (λ (c : Changes). reverse c.moments) (sym (changes_consumer w before h g.supplier pin v.1.0 v.0 v.1.1))
  ]

  -- where it still has all changes since the copy's stamp, that is a stamp of a consumer's that supplies it
  pub still_since : (m : ℕ) → last ≡ Some m → nat_lt m (base_of (changes_at (at_line w before) g.supplier pin)) ≡ false
      → (own : Agreement) → masters w g.supplier pin ≡ false → consumed_by w g.supplier pin ≡ Some own → In m (stamps_since (refreshes_of before own.number))
  still_since m e known own o c =
      let k : KeptBy w before g.supplier pin own = theirs own o c in
      let n = newest_in fs m e in
      let x = kept.from own o c n.0 n.1 in
      let same : x.0.stamp ≡ m = x.2 ∙ n.2 in
      let not_low : nat_lt x.0.stamp (base_of (steps_since (refreshes_of before own.number))) ≡ false =
      ap (λ (y : ℕ). nat_lt y (base_of (steps_since (refreshes_of before own.number)))) same
      ∙ ap (λ (c : Changes). nat_lt m (base_of c)) (sym (changes_consumer w before h g.supplier pin own o c))
      ∙ known in
      subst (λ (y : ℕ). In y (stamps_since (refreshes_of before own.number))) same (kept_since (refreshes_of before own.number) k.falls x.0 x.1 not_low)

  -- and replays from the copy's stamp to the new one, where it still has all changes
  pub supplier_replays : (m : ℕ) → last ≡ Some m → nat_lt m (base_of (changes_at (at_line w before) g.supplier pin)) ≡ false
      → replay (steps_later m supplied_log) (then_of w before pin m) ≡ then_of w (d ∷ before) pin f.stamp
  supplier_replays m e known =
      let early = last_early m e in
      elim from [
        | inl v ↦
            let now : f.stamp ≡ length (d ∷ before) = (let q = v.1 in omega arith) in
            replays w described consistent g.supplier pin v.0 before m h early.0
            ∙ ap (λ (t : Tree). part t pin) (sym tree_stays)
            ∙ ap (λ (t : Tree). part t pin) (sym (tree_now w (d ∷ before) f.stamp now))
        | inr v ↦
            let own : Agreement = v.1.0 in
            let k : KeptBy w before g.supplier pin own = theirs own v.0 v.1.1 in
            let i : In m (stamps_since (refreshes_of before own.number)) = still_since m e known own v.0 v.1.1 in
            let y = newest_in (refreshes_of before own.number) f.stamp v.1.2 in
            let l : y.0.stamp ≤ length before = k.early y.0 y.1 in
            let q : y.0.stamp ≡ f.stamp = y.2 in
            k.replays m f.stamp v.1.2 i ∙ sym (then_before w d before pin f.stamp (omega arith))
      ]

  -- ---- after a total refresh

  pub kept_total : f.total ≡ true → Kept w (d ∷ before) pin g [] (f ∷ fs)
  kept_total t = record {
    moments = ap (λ (ns : List ℕ). reverse ns) (sym (after_total f fs t));
    falls = (risen, kept.falls);
    early = all_early;
    under = λ s e x i. elim i [ ];
    from = any_from;
    replays = λ m s e i.
        elim (in_first m f.stamp [] (subst (λ (ms : List ℕ). In m ms) (stamps_total f fs t) i)) [
          | inl q ↦ (let same : f.stamp ≡ s = stamp_same f.stamp s e in ap (then_of w (d ∷ before) pin) (q ∙ same))
          | inr l ↦ elim l [ ]
        ];
  }
    where
      stamp_same : (x y : ℕ) → Some x ≡ Some y → x ≡ y
      stamp_same x y e = cc

  -- ---- after an incremental one

  module _ (t : f.total ≡ false) (go : Since w before pin g f) where
    abbrev m : ℕ
    m = go.0

    abbrev steps : List Step
    steps = steps_later m supplied_log

    abbrev more : Log
    more = log ++ stamped f.stamp steps

    many : length steps ≡ f.count
    many = as_many m supplied_log (changes_at (at_line w before) g.supplier pin) supplier_counts ∙ sym go.3

    more_moments : moments_of more ≡ reverse (steps_since (f ∷ fs)).moments
    more_moments =
        map-append (λ (x : ℕ × Step). x.0) log (stamped f.stamp steps)
        ∙ ap (λ (ns : List ℕ). ns ++ moments_of (stamped f.stamp steps)) kept.moments
        ∙ ap (λ (ns : List ℕ). reverse (steps_since fs).moments ++ ns)
        (stamped_moments f.stamp steps ∙ ap (λ (n : ℕ). replicate n f.stamp) many ∙ sym (copies_reversed f.count f.stamp))
        ∙ sym (reverse-append (replicate f.count f.stamp) (steps_since fs).moments)
        ∙ ap (λ (ns : List ℕ). reverse ns) (sym (after_steps f fs t))

    pub more_under : (x : ℕ × Step) → In x more → x.0 ≤ f.stamp
    more_under x i = elim (in_either x log (stamped f.stamp steps) i) [
      | inl j ↦ (let l : x.0 ≤ m = kept.under m go.1 x j in let r = (last_early m go.1).1 in omega arith)
      | inr j ↦ (let e = stamped_at f.stamp steps x j in omega arith)
    ]

    -- from an earlier stamp: the log so far, and then the new steps, unless the stamp stayed
    from_before : (n : ℕ) → In n (stamps_since fs) → replay (steps_later n more) (then_of w (d ∷ before) pin n) ≡ then_of w (d ∷ before) pin f.stamp
    from_before n i =
        let low : n ≤ m = since_below fs m n kept.falls go.1 i in
        let early = last_early m go.1 in
        let l0 : m ≤ length before = early.0 in
        let l1 : m ≤ f.stamp = early.1 in
        let so_far : replay (steps_later n log) (then_of w (d ∷ before) pin n) ≡ then_of w before pin m =
        ap (replay (steps_later n log)) (then_before w d before pin n (omega arith)) ∙ kept.replays n m go.1 i in
        ap (λ (xs : List Step). replay xs (then_of w (d ∷ before) pin n)) (later_joined n log (stamped f.stamp steps))
        ∙ replay_joined (steps_later n log) (steps_later n (stamped f.stamp steps)) (then_of w (d ∷ before) pin n)
        ∙ ap (replay (steps_later n (stamped f.stamp steps))) so_far
        ∙ elim (true_or_false (nat_lt n f.stamp)) [
          | inl e ↦
              let less : n < f.stamp = (less_decides n f.stamp).0 e in
              let late : steps_later n (stamped f.stamp steps) ≡ steps =
              all_later n (stamped f.stamp steps) (λ x j. (let q = stamped_at f.stamp steps x j in omega arith)) ∙ stamped_steps f.stamp steps in
              ap (λ (xs : List Step). replay xs (then_of w before pin m)) late ∙ supplier_replays m go.1 go.2
          | inr e ↦
              let up : f.stamp ≤ n = not_less n f.stamp e in
              let none : steps_later n (stamped f.stamp steps) ≡ [] =
              none_later n (stamped f.stamp steps) (λ x j. (let q = stamped_at f.stamp steps x j in omega arith)) in
              let same : m ≡ f.stamp = omega arith in
              ap (λ (xs : List Step). replay xs (then_of w before pin m)) none
              ∙ sym (then_before w d before pin m l0) ∙ ap (then_of w (d ∷ before) pin) same
        ]

    from_any : (n : ℕ) → In n (stamps_since (f ∷ fs)) → replay (steps_later n more) (then_of w (d ∷ before) pin n) ≡ then_of w (d ∷ before) pin f.stamp
    from_any n i = elim (in_first n f.stamp (stamps_since fs) (subst (λ (ms : List ℕ). In n ms) (stamps_more f fs t) i)) [
      | inl q ↦
          ap (λ (xs : List Step). replay xs (then_of w (d ∷ before) pin n)) (none_later n more (λ x j. (let l = more_under x j in omega arith)))
          ∙ ap (then_of w (d ∷ before) pin) q
      | inr j ↦ from_before n j
    ]

    pub kept_steps : Kept w (d ∷ before) pin g more (f ∷ fs)
    kept_steps = record {
      moments = more_moments;
      falls = (risen, kept.falls);
      early = all_early;
      under = λ s e x i. (let l = more_under x i in let q : f.stamp ≡ s = stamp_same f.stamp s e in omega arith);
      from = any_from;
      replays = λ n s e i. from_any n i ∙ ap (then_of w (d ∷ before) pin) (stamp_same f.stamp s e);
    }
      where
        stamp_same : (x y : ℕ) → Some x ≡ Some y → x ≡ y
        stamp_same x y e = cc

-- ---- line by line

module _ (w : World) (described : IsDescribed w) (consistent : IsConsistent w) where
  -- the agreement by which an agent consumes a context is one of the world, and is of that context
  pub agreement_of : (a : ℕ) (pin : Key) (g : Agreement) → consumed_by w a pin ≡ Some g
      → In g w.agreements × (g.consumer ≡ a) × (key_of g.context ≡ pin)
  agreement_of a pin g c =
      let v = of_find (is_consumer a pin) g w.agreements c in
      let b = both_true (g.consumer == a) (same_key (key_of g.context) pin) v.1 in
      (v.0, (nat_same_decides g.consumer a).0 b.0, (key_decides (key_of g.context) pin).0 b.1)

  after_brought : (d : Did) (before : List Did) → AllHappen w (d ∷ before) → (a : ℕ) (pin : Key) (g : Agreement)
      → consumed_by w a pin ≡ Some g → KeptBy w before a pin g
      → ((own : Agreement) → masters w g.supplier pin ≡ false → consumed_by w g.supplier pin ≡ Some own → KeptBy w before g.supplier pin own)
      → (f : Refreshed) → IsByIt w before a pin g d.deed f → KeptBy w (d ∷ before) a pin g
  after_brought d before h a pin g c kept theirs f by_it =
      let at = agreement_of a pin g c in
      let is : IsBrought (at_line w before) f = subst (λ (x : Deed). Happens (at_line w before) x) by_it.0 h.0 in
      let from = source w described before h.1 f is pin g at.0 by_it.1 at.2 in
      subst (λ (xs : List Refreshed). Kept w (d ∷ before) pin g (logs_by w (d ∷ before) a pin) xs) (sym by_it.3)
      (subst (λ (xs : Log). Kept w (d ∷ before) pin g xs (f ∷ refreshes_of before g.number)) (sym by_it.2)
      (elim (true_or_false f.total) [
        | inl t ↦ subst (λ (xs : Log). Kept w (d ∷ before) pin g xs (f ∷ refreshes_of before g.number)) (sym (ap (new_if f) t))
            (kept_total w described consistent d before h.1 a pin g kept theirs f by_it.0 from t)
        | inr t ↦
            let go = since w described before h.1 f is pin g at.0 by_it.1 at.2 t in
            subst (λ (xs : Log). Kept w (d ∷ before) pin g xs (f ∷ refreshes_of before g.number))
            (sym (ap (new_if f) t ∙ ap (λ (o : Option ℕ). logs_by w before a pin ++ in_option [] (λ (m : ℕ). stamped f.stamp (steps_later m (logs_by w before g.supplier pin))) o) go.1))
            (kept_steps w described consistent d before h.1 a pin g kept theirs f by_it.0 from t go)
      ]))
    where
      new_if : Refreshed → Bool → Log
      new_if f b =
          if b then [] else (logs_by w before a pin ++ in_option [] (λ (m : ℕ). stamped f.stamp (steps_later m (logs_by w before g.supplier pin))) (as_of (at_line w before) g.number))

  pub all_kept : (past : List Did) → AllHappen w past → (a : ℕ) (pin : Key) (g : Agreement) → masters w a pin ≡ false → consumed_by w a pin ≡ Some g
      → KeptBy w past a pin g
  all_kept [] h a pin g o c = record {
    moments = refl;
    falls = tt;
    early = λ f i. elim i [ ];
    under = λ s e x i. elim i [ ];
    from = λ own e q f i. elim i [ ];
    replays = λ m s e i. elim i [ ];
  }
  all_kept (d ∷ before) h a pin g o c = elim (change w before h.1 a pin g o c d.deed h.0) [
    | inl same ↦
        subst (λ (xs : List Refreshed). Kept w (d ∷ before) pin g (logs_by w (d ∷ before) a pin) xs) (sym same.1)
        (subst (λ (xs : Log). Kept w (d ∷ before) pin g xs (refreshes_of before g.number)) (sym same.0)
        (kept_on w d before pin g (logs_by w before a pin) (refreshes_of before g.number) (all_kept before h.1 a pin g o c)))
    | inr by_it ↦ after_brought d before h a pin g c (all_kept before h.1 a pin g o c)
        (λ own e q. all_kept before h.1 g.supplier pin own e q) by_it.0 by_it.1
  ]
