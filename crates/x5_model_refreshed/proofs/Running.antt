-- What the lines of a run over consistent knowledge do: an update that was accepted is one that the tree took, and a refresh is
-- stamped, goes on and counts as its block says. By cases of commands and blocks.
use Rattle.std.proofs.Common.{◌≡◌, ℕ, suc, ◌==◌, Bool, true, false, not, ◌&&◌, if◌then◌else◌, nat_le, List, [], ◌∷◌, map, length, reverse, refl, sym, ap, subst, ◌∙◌, arith, Option, Some, None, Ok, Err}
use Rattle.std.specs.Prelude.{⊤}
use Rattle.std.specs.List.{find, list_all}
use Rattle.std.specs.Result.{is_ok}
use Rattle.std.specs.Option.{is_some}
use Rattle.x5_model.specs.Values.{key_of}
use Rattle.x5_model.specs.Requests.{Request}
use Rattle.x5_model.specs.References.{Chained}
use Rattle.x5_model.proofs.Lists.{of_find, both_true, not_false}
use Rattle.x5_model.proofs.Decide.{nat_same_decides}
use Rattle.x5_model_tree.specs.World.{Agreement, World}
use Rattle.x5_model_tree.specs.Tree.{Tree}
use Rattle.x5_model_tree.specs.Ask.{is_update}
use Rattle.x5_model_tree.specs.Apply.{Applied, apply}
use Rattle.x5_model_tree.specs.Consistent.{first_breach}
use Rattle.x5_model_run.specs.Network.{is_lost, is_unheard, is_sent}
use Rattle.x5_model_run.specs.Journal.{Line, is_reached}
use Rattle.x5_model_run.specs.Refresh.{RequestShadowUpdate, UpdateShadow, CoordinateShadowUpdate, ShadowLine, RefreshOutcome, Done, Unheard, Problem, Missed, NotConsistent, RefreshBlock, inactive_agreement, full_update_required, invalid_agreement_id, supplied, peer_moment, same_moment, needs_total, count_of, shadow_line, ended, updates_with, refresh_with, pull, push, refresh_block}
use Rattle.x5_model_run.specs.History.{Refreshed, Deed, Nothing, Accepts, Did, Point, tree_at, knowledge_at, as_of, acked}
use Rattle.x5_model_run.specs.Chain.{opening, scene_with}
use Rattle.x5_model_run.specs.Right.{is_accepted_right, is_master_at, SendsRight}
use Rattle.x5_model_run.specs.Run.{Command, Blank, Asks, Changes, Drops, Updates, Hands, Block, Silent, Set, Replies, Refreshing, Handed, Rejected, IsBlock, refreshed_by, did_by, IsRun, begin, next}
use Rattle.x5_model_refreshed.specs.Replaying.{GoesOn, IsBrought, Happens, AllHappen, RunsLead}

-- ---- an update

took : (a : Applied) → is_ok a ≡ true → (u : Tree) × (a ≡ Ok u)
took (Ok u) e = (u, refl)
took (Err x) e = cc

abbrev accepted_deed : Request → List ℕ → Deed
accepted_deed r [] = Nothing
accepted_deed r (a ∷ more) = Accepts (map (λ x. record { agent = x; request = r }) (a ∷ more))

module _ (p : Point) (first : ℕ) (m : Chained) (lines : List Line) where
  pub accepted_happens : (accepted : List ℕ) → nat_le (length accepted) 1 ≡ true → list_all (is_accepted_right p (scene_with p first m) lines) accepted ≡ true
      → Happens p (accepted_deed m.request (reverse accepted))
  accepted_happens [] one right = tt
  accepted_happens (a ∷ []) one right =
      let w = (both_true (is_accepted_right p (scene_with p first m) lines a) true right).0 in
      let u = both_true (is_update m.request.body) _ w in
      let v = both_true (is_reached lines a) _ u.1 in
      let x = both_true (is_master_at p (key_of m.target) a) (is_ok (apply (tree_at p) m.request)) v.1 in
      (u.0, took (apply (tree_at p) m.request) x.1, tt)
  accepted_happens (a ∷ b ∷ more) one right = absurd (too_many (length more) one)
    where
      too_many : (n : ℕ) → nat_le (suc (suc n)) 1 ≡ true → ⊥
      too_many n e = grind arith

-- ---- a refresh

abbrev pub Fits : Point → RefreshOutcome → Type 0
Fits p (Done f) = IsBrought p f
Fits p Unheard = ⊤
Fits p (Problem k) = ⊤
Fits p (Missed a b) = ⊤
Fits p NotConsistent = ⊤

module _ (p : Point) where
  either_fits : (b : Bool) (x y : RefreshBlock) → (b ≡ true → Fits p x.outcome) → (b ≡ false → Fits p y.outcome) → Fits p (if b then x else y).outcome
  either_fits true x y f g = f refl
  either_fits false x y f g = g refl

  updates_fit : (first last : ShadowLine) (f : Refreshed) → ((heard : Bool) → IsBrought p (record f { acknowledged = heard }))
      → Fits p (updates_with first last f).outcome
  updates_fit first last f is =
      either_fits (is_lost last.fate) (ended (first ∷ last ∷ []) Unheard) (ended (first ∷ last ∷ []) (Done (record f { acknowledged = is_sent last.fate })))
      (λ e. tt) (λ e. is (is_sent last.fate))

  never_not : (b c : Bool) → (not b && c) ≡ false → b ≡ false → c ≡ false
  never_not true c e f = cc
  never_not false c e f = e

  same_is : (x y : Option ℕ) → same_moment x y ≡ true → x ≡ y
  same_is None None e = refl
  same_is None (Some b) e = cc
  same_is (Some a) None e = cc
  same_is (Some a) (Some b) e = ap (λ (n : ℕ). Some n) ((nat_same_decides a b).0 e)

  -- what an incremental refresh goes on from, where no total one is needed
  goes_on : (pushes heard : Bool) (g : Agreement) (stamp : ℕ) → needs_total p g (peer_moment p pushes g) ≡ false → peer_moment p pushes g ≡ as_of p g.number
      → GoesOn p g (record (refresh_with p pushes false g stamp) { acknowledged = heard })
  goes_on pushes heard g stamp enough same = by (peer_moment p pushes g) refl enough
    where
      by : (o : Option ℕ) → peer_moment p pushes g ≡ o → needs_total p g o ≡ false
          → GoesOn p g (record (refresh_with p pushes false g stamp) { acknowledged = heard })
      by None q e = cc
      by (Some m) q e = record {
        from = m;
        last = sym same ∙ q;
        known = e;
        count = ap (λ (o : Option ℕ). count_of p false g o stamp) q;
      }

  abbrev Found : ℕ → Option Agreement → Type 0
  Found number o = find (λ (x : Agreement). x.number == number) (knowledge_at p).agreements ≡ o

  -- the agreement is found by its own number
  by_number : (number : ℕ) (g : Agreement) → Found number (Some g) → Found g.number (Some g)
  by_number number g e =
      let v = of_find (λ (x : Agreement). x.number == number) g (knowledge_at p).agreements e in
      subst (λ (n : ℕ). Found n (Some g)) (sym ((nat_same_decides g.number number).0 v.1)) e

  brought_by : (pushes total heard : Bool) (g : Agreement) (stamp number : ℕ) → Found number (Some g) → supplied p g ≡ Some stamp
      → (total ≡ false → needs_total p g (peer_moment p pushes g) ≡ false) → (total ≡ false → peer_moment p pushes g ≡ as_of p g.number)
      → IsBrought p (record (refresh_with p pushes total g stamp) { acknowledged = heard })
  brought_by pushes true heard g stamp number found at enough same =
      record { agreement = g; found = by_number number g found; stamp = at; since = λ e. cc }
  brought_by pushes false heard g stamp number found at enough same =
      record { agreement = g; found = by_number number g found; stamp = at; since = λ e. goes_on pushes heard g stamp (enough refl) (same refl) }

  pull_fits : (total : Bool) (g : Agreement) (number : ℕ) → Found number (Some g) → Fits p (pull p total g).outcome
  pull_fits total g number found = by (supplied p g) refl
    where
      first : ShadowLine
      first = shadow_line p g 1 RequestShadowUpdate

      none : Fits p (if is_unheard first.fate then ended (first ∷ []) Unheard else ended (first ∷ []) (Problem inactive_agreement)).outcome
      none = either_fits (is_unheard first.fate) (ended (first ∷ []) Unheard) (ended (first ∷ []) (Problem inactive_agreement)) (λ e. tt) (λ e. tt)

      by : (o : Option ℕ) → supplied p g ≡ o → Fits p (pull p total g).outcome
      by None e = rw e none
      by (Some stamp) e =
          rw e
          (either_fits (is_unheard first.fate) (ended (first ∷ []) Unheard) _ (λ q. tt) (λ q.
          either_fits (not total && needs_total p g (peer_moment p false g)) (ended (first ∷ []) (Problem full_update_required)) (updates_with first (shadow_line p g 2 UpdateShadow) (refresh_with p false total g stamp)) (λ r. tt) (λ r.
          updates_fit first (shadow_line p g 2 UpdateShadow) (refresh_with p false total g stamp)
          (λ heard. brought_by false total heard g stamp number found e (never_not total (needs_total p g (peer_moment p false g)) r) (λ t. refl)))))

  push_fits : (total : Bool) (g : Agreement) (number : ℕ) → Found number (Some g) → Fits p (push p total g).outcome
  push_fits total g number found = by (supplied p g) refl
    where
      first : ShadowLine
      first = shadow_line p g 1 CoordinateShadowUpdate

      by : (o : Option ℕ) → supplied p g ≡ o → Fits p (push p total g).outcome
      by None e = rw e tt
      by (Some stamp) e =
          rw e
          (either_fits (not total && needs_total p g (peer_moment p true g)) (ended [] (Problem full_update_required)) _ (λ q. tt) (λ q.
          either_fits (is_unheard first.fate) (ended (first ∷ []) Unheard) _ (λ r. tt) (λ r.
          either_fits (not total && not (same_moment (acked p g.number) (as_of p g.number))) (ended (first ∷ []) (Missed (as_of p g.number) (acked p g.number))) (updates_with first (shadow_line p g 2 UpdateShadow) (refresh_with p true total g stamp)) (λ s. tt) (λ s.
          updates_fit first (shadow_line p g 2 UpdateShadow) (refresh_with p true total g stamp)
          (λ heard. brought_by true total heard g stamp number found e (never_not total (needs_total p g (peer_moment p true g)) q)
          (λ t. same_is (acked p g.number) (as_of p g.number) (not_false (same_moment (acked p g.number) (as_of p g.number))
          (never_not total (not (same_moment (acked p g.number) (as_of p g.number))) s t))))))))

  pub block_fits : (number : ℕ) (pushes total : Bool) → Fits p (refresh_block p number pushes total).outcome
  block_fits number pushes total =
      either_fits (is_some (first_breach p.described)) (ended [] NotConsistent) _ (λ e. tt)
      (λ e. by (find (λ (g : Agreement). g.number == number) (knowledge_at p).agreements) refl)
    where
      block : Option Agreement → RefreshBlock
      block None = ended [] (Problem invalid_agreement_id)
      block (Some g) = if pushes then push p total g else pull p total g

      by : (o : Option Agreement) → Found number o → Fits p (block o).outcome
      by None q = tt
      by (Some g) q = either_fits pushes (push p total g) (pull p total g) (λ e. push_fits total g number q) (λ e. pull_fits total g number q)

  outcome_happens : (o : RefreshOutcome) → Fits p o → Happens p (refreshed_by o)
  outcome_happens (Done f) h = h
  outcome_happens Unheard h = tt
  outcome_happens (Problem k) h = tt
  outcome_happens (Missed a b) h = tt
  outcome_happens NotConsistent h = tt

  -- ---- a command

  pub did_happen : (command : Command) (block : Block) → IsBlock SendsRight p command block → Happens p (did_by command block).deed
  did_happen Blank block is = tt
  did_happen (Changes o) block is = tt
  did_happen (Drops reply n) block is = tt
  did_happen (Asks to r) Silent is = tt
  did_happen (Asks to r) Set is = tt
  did_happen (Asks to r) (Replies j reply) is = accepted_happens p to (opening r) j.lines j.accepted is.one is.right
  did_happen (Asks to r) (Refreshing b) is = tt
  did_happen (Asks to r) (Handed by n j reply) is = tt
  did_happen (Asks to r) (Rejected raw breach) is = tt
  did_happen (Updates number pushes total) Silent is = tt
  did_happen (Updates number pushes total) Set is = tt
  did_happen (Updates number pushes total) (Replies j reply) is = tt
  did_happen (Updates number pushes total) (Handed by n j reply) is = tt
  did_happen (Updates number pushes total) (Rejected raw breach) is = tt
  did_happen (Hands via to count (Ok m)) Silent is = tt
  did_happen (Hands via to count (Ok m)) Set is = tt
  did_happen (Hands via to count (Ok m)) (Replies j reply) is = tt
  did_happen (Hands via to count (Ok m)) (Refreshing b) is = tt
  did_happen (Hands via to count (Ok m)) (Handed by n j reply) is = accepted_happens p to m j.lines j.accepted is.2.one is.2.right
  did_happen (Hands via to count (Ok m)) (Rejected raw breach) is = tt
  did_happen (Hands via to count (Err x)) Silent is = tt
  did_happen (Hands via to count (Err x)) Set is = tt
  did_happen (Hands via to count (Err x)) (Replies j reply) is = tt
  did_happen (Hands via to count (Err x)) (Refreshing b) is = tt
  did_happen (Hands via to count (Err x)) (Handed by n j reply) is = tt
  did_happen (Hands via to count (Err x)) (Rejected raw breach) is = tt
  did_happen (Updates number pushes total) (Refreshing b) is =
      outcome_happens b.outcome (subst (λ (x : RefreshBlock). Fits p x.outcome) (sym is) (block_fits number pushes total))

run_happens : (w : World) (commands : List Command) (blocks : List Block) (past : List Did) → IsRun SendsRight w commands blocks past → AllHappen w past
run_happens w commands blocks past begin = tt
run_happens w commands blocks past (next {commands = cs} {blocks = bs} {past = before} command block run is) =
    (did_happen (record { described = w; past = before }) command block is, run_happens w cs bs before run)

pub runs_lead : RunsLead SendsRight
runs_lead w commands blocks past described consistent run =
    record { described = described; consistent = consistent; happened = run_happens w commands blocks past run }
