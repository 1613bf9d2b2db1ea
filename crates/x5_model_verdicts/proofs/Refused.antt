-- What the judge of an update refuses is the tree's error, by who knows: the judge is the master of the lowest entry on
-- the way, and knows every pin just below it or asks for it.
use Rattle.std.proofs.Common.{◌≡◌, ◌≤◌, ◌<◌, ℕ, nat_lt, ◌++◌, ◌==◌, Bool, true, false, not, ◌&&◌, inl, inr, List, [], ◌∷◌, map, length, refl, sym, ap, subst, ◌∙◌, Option, Some, None, Ok, Err, if◌then◌else◌}
use Rattle.std.specs.Option.{is_some, is_none}
use Rattle.x5_model.specs.Words.{has, in_option, some_and}
use Rattle.x5_model.specs.Members.{In}
use Rattle.x5_model.specs.Keys.{Key, IsPrefix, parent, same_key}
use Rattle.x5_model.specs.Values.{Name, key_of, last_rdn, name_above}
use Rattle.x5_model.specs.Entries.{Entry, Named}
use Rattle.x5_model.specs.Changes.{ChangedEntry, renamed, single_valued}
use Rattle.x5_model.specs.Attributes.{doubled}
use Rattle.x5_model.specs.Values.{Known}
use Rattle.x5_model.specs.Problems.{entry_already_exists, affects_multiple_dsas, constraint_violation}
use Rattle.x5_model.specs.Requests.{Body, Read, Compare, ListBelow, Search, AddEntry, RemoveEntry, ModifyEntry, ModifyDn, Request}
use Rattle.x5_model.specs.References.{Progress, Start, Next, Done, Chained}
use Rattle.x5_model.specs.Answers.{DirError, NoSuchObject, AttributeProblem, UpdateProblem, ServiceProblem}
use Rattle.x5_model.specs.Statics.{fault_of}
use Rattle.x5_model.proofs.KeyLaws.{key_decides}
use Rattle.x5_model.proofs.Lists.{both_true, and_true, or_left, or_right, true_or_false, has_in, of_has, of_map}
use Rattle.x5_model.proofs.Prefixes.{prefix_itself, prefix_length}
use Rattle.x5_model.proofs.Decide.{nat_same_decides}
use Rattle.x5_model_tree.specs.Tree.{Tree, key_at, lowest, entry_at}
use Rattle.x5_model_tree.specs.Masters.{pin_of}
use Rattle.x5_model_tree.specs.Ask.{Told, Refuses, is_update, updated, ask_body, ask_marked}
use Rattle.x5_model_tree.specs.Apply.{Ground, UpdatedEntries, apply, apply_over, update, is_taken, above_pin}
use Rattle.x5_model_tree.proofs.Longest.{IsLongest, IsLowest, lowest_is, lowest_right}
use Rattle.x5_model_run.specs.Journal.{Line, Journal, same_name, is_done, is_wide}
use Rattle.x5_model_run.specs.Holdings.{Held, Holdings, known_pins, ground_at, holds_within}
use Rattle.x5_model_run.specs.Needs.{resolves, falls_short, is_unable, new_name}
use Rattle.x5_model_run.specs.History.{Point, tree_at, world_at, holdings_at}
use Rattle.x5_model_run.specs.Chain.{Scene}
use Rattle.x5_model_run.specs.Covers.{told}
use Rattle.x5_model_run.specs.Blocked.{Asked}
use Rattle.x5_model_run.specs.Right as right
use Rattle.x5_model_run.specs.Right.{master_at, is_for, hears_of, hears_master, hears_nssr, hears_pin, hears_taken, is_pin, knows, is_told}
use Rattle.x5_model_replies.specs.Replies.{usual}
use Rattle.x5_model_theory.specs.Described.{knowledge_of}
use Rattle.x5_model_updates.proofs.Outcomes.{clashes, add_none, add_free, rename_none, rename_some, none_or_some, ok_or_err, over_update}
use Rattle.x5_model_updates.proofs.Grounds.{Knows, Taken, taken_decides}
use Rattle.x5_model_updates.proofs.Trees.{tree_one_each, tree_filled, of_part}
use Rattle.x5_model_updates.proofs.Divided.{one_pin}
use Rattle.x5_model_updates.proofs.Held.{of_held}
use Rattle.x5_model_updates.proofs.Own.{own_knows}
use Rattle.x5_model_updates.proofs.Judges.{refuses_alike}
use Rattle.x5_model_serve.specs.Serving.{Hand, judged}
use Rattle.x5_model_serve.specs.Claims.{Setting, serving_of, AtMaster}
use Rattle.x5_model_verdicts.specs.Verdicts.{RefusalIsRight}
use Rattle.x5_model_joins.proofs.Backs.{own_back, own_answered}
use Rattle.x5_model_verdicts.proofs.Here.{resolves_by, IsHere, found_here}
use Rattle.x5_model_verdicts.proofs.At.{holds_is, found_is, judge, line_in}

-- ---- what is told of an update that was resolved

pub not_done : (h : Holdings) (m : Chained) → resolves h m ≡ true → is_done m.progress ≡ false
not_done h m e = by m.progress e
  where
    by : (x : Progress) → resolves_by h (key_of m.target) x ≡ true → is_done x ≡ false
    by Start q = refl
    by (Next k) q = refl
    by Done q = cc

ask_update : (copies : Key → Bool) (t : Tree) (r : Request) (body : Body) → is_update body ≡ true → ask_body copies t r body ≡ updated (apply t r)
ask_update copies t r (Read name selection) u = cc
ask_update copies t r (Compare name assertion) u = cc
ask_update copies t r (ListBelow name) u = cc
ask_update copies t r (Search base subset f selection) u = cc
ask_update copies t r (AddEntry name attributes) u = refl
ask_update copies t r (RemoveEntry name) u = refl
ask_update copies t r (ModifyEntry name changes) u = refl
ask_update copies t r (ModifyDn name rdn drops) u = refl

abbrev asked_first : (Key → Bool) → Tree → Request → Option DirError → Told
asked_first copies t r (Some x) = Refuses x
asked_first copies t r None = ask_body copies t r r.body

abbrev never : Key → Bool
never key = false

pub told_update : (t : Tree) (m : Chained) → is_done m.progress ≡ false → fault_of m.request.body ≡ None → is_update m.request.body ≡ true → told (λ key. false) t m ≡ updated (apply t m.request)
told_update t m e none up =
    let a : told (λ key. false) t m ≡ ask_marked (λ key. false) t m.request = rw e refl in
    a ∙ ap (asked_first (λ key. false) t m.request) none ∙ ask_update (λ key. false) t m.request m.request.body up

-- ---- a name that is taken

abbrev bad_changed : DirError → ChangedEntry
bad_changed x = Err x

abbrev bad : DirError → UpdatedEntries
bad x = Err x

abbrev one_of : Entry → Option ℕ → ChangedEntry
one_of e None = Ok e
one_of e (Some kind) = Err (AttributeProblem constraint_violation (Known kind))

-- what refuses two values of a type isn't an update's problem
single_bad : (e : Entry) (n : ℕ) → single_valued e ≡ Err (UpdateProblem n) → ⊥
single_bad e n q = by (doubled e) q
  where
    by : (o : Option ℕ) → one_of e o ≡ Err (UpdateProblem n) → ⊥
    by None h = cc
    by (Some kind) h = cc

inside : (a b : ℕ) → bad (UpdateProblem a) ≡ bad (UpdateProblem b) → a ≡ b
inside a b e = cc

bad_inside : (a b : DirError) → bad a ≡ bad b → a ≡ b
bad_inside a b e = cc

name_inside : (a b : Name) → Some a ≡ Some b → a ≡ b
name_inside a b e = cc

is_exists : (n : ℕ) → (n == entry_already_exists) ≡ true → n ≡ entry_already_exists
is_exists n e = (nat_same_decides n entry_already_exists).0 e

pub taken_name : (g : Ground) (body : Body) (name : Name) → update g body ≡ Err (UpdateProblem entry_already_exists) → new_name body ≡ Some name → is_taken g (key_of name) ≡ true
taken_name g (Read n selection) name h q = cc
taken_name g (Compare n assertion) name h q = cc
taken_name g (ListBelow n) name h q = cc
taken_name g (Search base subset f selection) name h q = cc
taken_name g (RemoveEntry n) name h q = cc
taken_name g (ModifyEntry n changes) name h q = cc
taken_name g (AddEntry n list) name h q =
    let same : n ≡ name = name_inside n name q in
    subst (λ (x : Name). is_taken g (key_of x) ≡ true) same
    (elim (none_or_some (entry_at g.entries (parent (key_of n)))) [
      | inl e ↦ (let f = add_none g n list e in cc)
      | inr e ↦ elim (true_or_false (is_taken g (key_of n))) [
        | inl t ↦ t
        | inr t ↦ (let f = add_free g n list e.0 e.1 t in cc)
      ]
    ])
taken_name g (ModifyDn n rdn drops) name h q =
    elim (none_or_some (entry_at g.entries (key_of n))) [
      | inl e ↦ (let f = rename_none g n rdn drops e in cc)
      | inr e ↦ elim (true_or_false (above_pin g (key_of n))) [
        | inl a ↦ (let f = rename_some g n rdn drops e.0 true (single_valued (renamed (last_rdn n) rdn drops e.0.entry)) (clashes g n rdn) e.1 a refl refl in
            let z : affects_multiple_dsas ≡ entry_already_exists = inside affects_multiple_dsas entry_already_exists (sym f ∙ h) in cc)
        | inr a ↦ elim (ok_or_err (single_valued (renamed (last_rdn n) rdn drops e.0.entry))) [
          | inr y ↦ (let f = rename_some g n rdn drops e.0 false (Err y.0) (clashes g n rdn) e.1 a y.1 refl in
              let z : y.0 ≡ UpdateProblem entry_already_exists = bad_inside y.0 (UpdateProblem entry_already_exists) (sym f ∙ h) in
              absurd (single_bad (renamed (last_rdn n) rdn drops e.0.entry) entry_already_exists (y.1 ∙ ap bad_changed z)))
          | inl v ↦ elim (true_or_false (clashes g n rdn)) [
            | inr d ↦ (let f = rename_some g n rdn drops e.0 false (Ok v.0) false e.1 a v.1 d in cc)
            | inl d ↦ subst (λ (x : Name). is_taken g (key_of x) ≡ true) (new_is (same_name (name_above n ++ rdn ∷ []) n) q) (both_true (not (same_key (key_of (name_above n ++ rdn ∷ [])) (key_of n))) (is_taken g (key_of (name_above n ++ rdn ∷ []))) d).1
          ]
        ]
      ]
    ]
  where
    new_is : (b : Bool) → (if b then None else Some (name_above n ++ rdn ∷ [])) ≡ Some name → name_above n ++ rdn ∷ [] ≡ name
    new_is true e = cc
    new_is false e = name_inside (name_above n ++ rdn ∷ []) name e

-- ---- who knows

module _ (p : Point) (s : Scene) (k : Hand) (i : Journal) (set : Setting p s) (at : AtMaster p s k i) where
  here_is : IsHere (holdings_at p k.receiver) k.message at.context
  here_is = (found_here (holdings_at p k.receiver) k.message at.context at.arrives.fit at.update (found_is p s k i set at)).1

  entry_key : key_at here_is.entry ≡ key_of k.message.target
  entry_key = (key_decides (key_at here_is.entry) (key_of k.message.target)).0 here_is.same

  entry_there : In here_is.entry (tree_at p).entries
  entry_there =
      let w : IsLowest at.context.entries (key_of k.message.target) (length (key_of k.message.target)) (Some here_is.entry) =
      subst (λ (x : Option Named). IsLowest at.context.entries (key_of k.message.target) (length (key_of k.message.target)) x) here_is.lowest_is (lowest_right at.context.entries (key_of k.message.target)) in
      let h = of_held p set.whole k.receiver at.context here_is.own in
      (of_part (knowledge_of (world_at p)) (tree_at p) set.whole.coherent set.whole.tree (pin_of h.1) here_is.entry (subst (λ (x : Held). In here_is.entry x.entries) h.6 w.0)).0

  -- the target is an entry, and so the lowest on the way
  lowest_there : lowest (tree_at p).entries (key_of k.message.target) ≡ Some here_is.entry
  lowest_there =
      lowest_is (tree_at p).entries (key_of k.message.target) here_is.entry (tree_one_each (knowledge_of (world_at p)) (tree_at p) set.whole.coherent set.whole.tree)
      (tree_filled (knowledge_of (world_at p)) (tree_at p) set.whole.coherent set.whole.tree here_is.entry entry_there) entry_there
      (subst (λ (x : Key). IsPrefix (key_at here_is.entry) x) entry_key (prefix_itself (key_at here_is.entry)))
      (λ f j l. subst (λ (x : Key). length (key_at f) ≤ length x) (sym entry_key) (prefix_length (key_at f) (key_of k.message.target) l))

  pub target_filled : 0 < length (key_of k.message.target)
  target_filled =
      subst (λ (x : Key). 0 < length x) entry_key
      (tree_filled (knowledge_of (world_at p)) (tree_at p) set.whole.coherent set.whole.tree here_is.entry entry_there)

  abbrev asked : Asked
  asked = serving_of i k at.at_hand.line.number

  -- the line at hand asked it for the target, and counts as having come back
  hears_itself : (lines : List Line) → In at.at_hand.line lines → hears_of (serving_of i k at.at_hand.line.number) lines k.message.target k.receiver ≡ true
  hears_itself lines stands =
      own_back (λ l. (l.receiver == k.receiver) && is_for k.message.target l) at.at_hand.line (length i.accepted) lines stands
      (and_true (at.at_hand.line.receiver == k.receiver) _ ((nat_same_decides at.at_hand.line.receiver k.receiver).1 at.at_hand.receiver_is)
      ((key_decides (key_of at.at_hand.line.message.target) (key_of k.message.target)).1 (ap (λ (m : Chained). key_of m.target) at.at_hand.message_is)))

  told_master : (lines : List Line) → In at.at_hand.line lines → hears_master p (serving_of i k at.at_hand.line.number) lines (lowest (tree_at p).entries (key_of k.message.target)) ≡ true
  told_master lines stands =
      ap (hears_master p (serving_of i k at.at_hand.line.number) lines) lowest_there
      ∙ ap (some_and (hears_of (serving_of i k at.at_hand.line.number) lines k.message.target)) (ap (master_at p) entry_key ∙ (judge p s k i set at).master)
      ∙ hears_itself lines stands

  told_nssr : (lines : List Line) → hears_nssr p s (serving_of i k at.at_hand.line.number) lines (lowest (tree_at p).entries (key_of k.message.target)) ≡ true
  told_nssr lines =
      ap (hears_nssr p s (serving_of i k at.at_hand.line.number) lines) lowest_there ∙ or_left (same_name here_is.entry.name k.message.target) _ here_is.same

  -- a pin that its own ground takes it knows
  knows_taken : (x : Key) → is_taken (ground_at k.message.request (holdings_at p k.receiver)) x ≡ true → is_pin p x ≡ true → knows s k.message.request k.receiver x ≡ true
  knows_taken x t pin =
      subst (λ (h : Holdings). has same_key (map key_of (known_pins k.message.request h)) x ≡ true) (ap (λ (f : ℕ → Holdings). f k.receiver) (sym set.holdings))
      (has_in same_key key_decides x (map key_of (known_pins k.message.request (holdings_at p k.receiver))) (by ((taken_decides (ground_at k.message.request (holdings_at p k.receiver)) x).0 t)))
    where
      g : Knows (knowledge_of (world_at p)) (tree_at p) k.receiver (ground_at k.message.request (holdings_at p k.receiver))
      g = own_knows p set.whole k.message.request k.receiver

      by : Taken (ground_at k.message.request (holdings_at p k.receiver)) x → In x (map key_of (known_pins k.message.request (holdings_at p k.receiver)))
      by (inl l) =
          let e = of_map key_at x (ground_at k.message.request (holdings_at p k.receiver)).entries l in
          let c = g.of_own e.0 e.1 in
          let long : IsLongest (tree_at p).pins x (Some c.0.prefix) =
          subst (λ (y : Key). IsLongest (tree_at p).pins y (Some c.0.prefix)) (sym e.2) (of_part (knowledge_of (world_at p)) (tree_at p) set.whole.coherent set.whole.tree c.0.prefix e.0 c.3).1 in
          let itself : IsLongest (tree_at p).pins x (Some x) = (of_has same_key key_decides x (tree_at p).pins pin, (prefix_itself x, λ q j u. prefix_length q x u)) in
          subst (λ (y : Key). In y (map key_of (known_pins k.message.request (holdings_at p k.receiver)))) (one_pin (tree_at p).pins x c.0.prefix x long itself) (g.own_pins c.0 c.1 c.2)
      by (inr (inl l)) = l
      by (inr (inr l)) = absurd (g.none_taken x l)

  told_taken : (lines : List Line) (x : DirError) → judged s i k ≡ Err x → hears_taken p s (serving_of i k at.at_hand.line.number) lines x ≡ true
  told_taken lines (NoSuchObject n) h = refl
  told_taken lines (AttributeProblem n kind) h = refl
  told_taken lines (ServiceProblem n r t) h = refl
  told_taken lines (UpdateProblem n) h =
      elim (true_or_false (n == entry_already_exists)) [
        | inr f ↦ or_left (not (n == entry_already_exists)) _ (ap not f)
        | inl t ↦ or_right (not (n == entry_already_exists)) _ (named (new_name k.message.request.body) refl (is_exists n t))
      ]
    where
      refusal : n ≡ entry_already_exists → update (ground_at k.message.request (holdings_at p k.receiver)) k.message.request.body ≡ Err (UpdateProblem entry_already_exists)
      refusal e =
          sym (over_update (ground_at k.message.request (holdings_at p k.receiver)) k.message.request.body at.arrives.unrefused)
          ∙ ap (λ (y : Holdings). apply_over (ground_at k.message.request y) k.message.request.body) (sym (holds_is p s k i set at))
          ∙ h ∙ ap (λ (y : ℕ). bad (UpdateProblem y)) e

      named : (o : Option Name) → new_name k.message.request.body ≡ o → n ≡ entry_already_exists → in_option true (hears_pin p s (serving_of i k at.at_hand.line.number) lines) o ≡ true
      named None q e = refl
      named (Some name) q e =
          elim (true_or_false (is_pin p (key_of name))) [
            | inr f ↦ or_left (not (is_pin p (key_of name))) _ (ap not f)
            | inl t ↦ or_right (not (is_pin p (key_of name))) _
                (or_left (some_and (λ o. knows s k.message.request o (key_of name)) (master_at p (key_of k.message.target))) _
                (ap (some_and (λ o. knows s k.message.request o (key_of name))) (judge p s k i set at).master
                ∙ knows_taken (key_of name) (taken_name (ground_at k.message.request (holdings_at p k.receiver)) k.message.request.body name (refusal e) q) t))
          ]

  pub is_told_by : (lines : List Line) → In at.at_hand.line lines → (x : DirError) → hears_taken p s (serving_of i k at.at_hand.line.number) lines x ≡ true → is_told p s (serving_of i k at.at_hand.line.number) lines x ≡ true
  is_told_by lines stands x t =
      or_right (is_some (fault_of k.message.request.body)) _
      (and_true (hears_master p (serving_of i k at.at_hand.line.number) lines (lowest (tree_at p).entries (key_of k.message.target))) _ (told_master lines stands)
      (and_true (hears_nssr p s (serving_of i k at.at_hand.line.number) lines (lowest (tree_at p).entries (key_of k.message.target))) _ (told_nssr lines) t))

  pub told_is : told (λ key. false) (tree_at p) k.message ≡ updated (apply (tree_at p) k.message.request)
  told_is = told_update (tree_at p) k.message (not_done (holdings_at p k.receiver) k.message (judge p s k i set at).resolving) at.arrives.unrefused at.update

  -- it goes on, so it isn't unable to
  pub able : is_unable (s.holdings k.receiver) k.message ≡ false
  able =
      ap (λ (b : Bool). nat_lt (length k.message.trace) 128 && (is_none (fault_of k.message.request.body) && b)) (no_way k.message.progress (judge p s k i set at).resolving)
      ∙ and_false (nat_lt (length k.message.trace) 128) (is_none (fault_of k.message.request.body))
    where
      and_false : (a b : Bool) → (a && (b && false)) ≡ false
      and_false true true = refl
      and_false true false = refl
      and_false false b = refl

      wide_false : (b : Bool) → (b && false) ≡ false
      wide_false true = refl
      wide_false false = refl

      no_way : (x : Progress) → resolves_by (holdings_at p k.receiver) (key_of k.message.target) x ≡ true → (is_wide k.message.kind && falls_short (s.holdings k.receiver) (key_of k.message.target) x) ≡ false
      no_way Start q = wide_false (is_wide k.message.kind)
      no_way (Next n) q =
          ap (λ (h : ℕ → Holdings). is_wide k.message.kind && not (holds_within (h k.receiver) (key_of k.message.target) n)) set.holdings
          ∙ ap (λ (b : Bool). is_wide k.message.kind && not b) q ∙ wide_false (is_wide k.message.kind)
      no_way Done q = wide_false (is_wide k.message.kind)

abbrev refuses_told : DirError → Told
refuses_told x = Refuses x

pub refusal_is_right : RefusalIsRight
refusal_is_right p s k i x spent set at h =
    let j = judge p s k i set at in
    let mine : apply_over (ground_at k.message.request (holdings_at p k.receiver)) k.message.request.body ≡ Err x =
    ap (λ (y : Holdings). apply_over (ground_at k.message.request y) k.message.request.body) (sym (holds_is p s k i set at)) ∙ h in
    usual (ap not (able p s k i set at))
    (right.error (own_answered at.at_hand.line (length i.accepted) i.lines (line_in p s k i set at))
    (told_is p s k i set at ∙ ap updated (refuses_alike p k.receiver k.message x j mine))
    (is_told_by p s k i set at i.lines (line_in p s k i set at) x (told_taken p s k i set at i.lines x h)) ((nat_same_decides (length i.accepted) (length i.accepted)).1 refl))
