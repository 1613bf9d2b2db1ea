-- The stamps of copies are moments of lines before, at every line of a run: by induction over the run.
use Rattle.std.proofs.Common.{◌≡◌, ◌≤◌, ℕ, suc, ◌==◌, Bool, true, false, not, ◌&&◌, inl, inr, List, [], ◌∷◌, map, length, reverse, refl, sym, subst, arith, Option, Some, None, if◌then◌else◌, Ok, Err}
use Rattle.std.specs.Prelude.{⊤}
use Rattle.std.specs.List.{find}
use Rattle.std.specs.Option.{is_some}
use Rattle.x5_model.specs.Words.{first_of, in_option, when}
use Rattle.x5_model.specs.Members.{In, here}
use Rattle.x5_model.specs.Values.{key_of}
use Rattle.x5_model.specs.Requests.{Request}
use Rattle.x5_model.proofs.Lists.{in_either, in_first}
use Rattle.x5_model_tree.specs.World.{Agreement, World}
use Rattle.x5_model_tree.specs.Masters.{masters}
use Rattle.x5_model_tree.specs.Consistent.{first_breach}
use Rattle.x5_model_run.specs.Network.{is_lost, is_unheard, is_sent}
use Rattle.x5_model_run.specs.Refresh.{RequestShadowUpdate, UpdateShadow, CoordinateShadowUpdate, ShadowLine, RefreshOutcome, Done, Unheard, Problem, Missed, NotConsistent, RefreshBlock, inactive_agreement, full_update_required, invalid_agreement_id, consumed_by, supplied, peer_moment, same_moment, needs_total, shadow_line, ended, updates_with, refresh_with, pull, push, refresh_block}
use Rattle.x5_model_run.specs.History.{Refreshed, Deed, Nothing, Outs, Loses, Accepts, Refreshes, Splits, Unsplits, Did, Point, moment_of, knowledge_at, refresh_of, refreshes_of, stamp_of, as_of, acked}
use Rattle.x5_model_run.specs.Run.{Command, Blank, Asks, Changes, Drops, Updates, Hands, Block, Silent, Set, Replies, Refreshing, Handed, Rejected, Judge, IsBlock, refreshed_by, did_by, IsRun, begin, next}
use Rattle.x5_model_verdicts.specs.Committing.{RunsAreStamped}

-- a refresh's stamp is no later than this
abbrev IsEarly : ℕ → RefreshOutcome → Type 0
IsEarly n (Done f) = f.stamp ≤ n
IsEarly n Unheard = ⊤
IsEarly n (Problem k) = ⊤
IsEarly n (Missed a b) = ⊤
IsEarly n NotConsistent = ⊤

abbrev AllEarly : List Did → Type 0
AllEarly past = (n : ℕ) (f : Refreshed) → In f (refreshes_of past n) → f.stamp ≤ length past

abbrev EarlyBlock : ℕ → RefreshBlock → Type 0
EarlyBlock n b = IsEarly n b.outcome

either_early : (n : ℕ) (b : Bool) (x y : RefreshBlock) → EarlyBlock n x → EarlyBlock n y → EarlyBlock n (if b then x else y)
either_early n true x y f g = f
either_early n false x y f g = g

first_in : {A : Type 0} (xs : List A) (x : A) → first_of xs ≡ Some x → In x xs
first_in [] x e = cc
first_in {A} (y ∷ ys) x e = (let same : y ≡ x = cc in subst (λ (z : A). In z (y ∷ ys)) same here)

stamp_early : (past : List Did) (n m : ℕ) → AllEarly past → stamp_of (first_of (refreshes_of past n)) ≡ Some m → m ≤ length past
stamp_early past n m all e = by (first_of (refreshes_of past n)) refl e
  where
    by : (o : Option Refreshed) → first_of (refreshes_of past n) ≡ o → stamp_of o ≡ Some m → m ≤ length past
    by None q h = cc
    by (Some f) q h = (let same : f.stamp ≡ m = cc in let l = all n f (first_in (refreshes_of past n) f q) in omega arith)

module _ (p : Point) (all : AllEarly p.past) where
  as_of_early : (n m : ℕ) → as_of p n ≡ Some m → m ≤ length p.past
  as_of_early n m e = stamp_early p.past n m all e

  abbrev supply : Agreement → Bool → Option ℕ
  supply g b = if b then Some (moment_of p) else in_option None (λ own. as_of p own.number) (consumed_by (knowledge_at p) g.supplier (key_of g.context))

  supplied_early : (g : Agreement) (m : ℕ) → supplied p g ≡ Some m → m ≤ suc (length p.past)
  supplied_early g m e = by (masters (knowledge_at p) g.supplier (key_of g.context)) e
    where
      copy : (o : Option Agreement) → in_option None (λ own. as_of p own.number) o ≡ Some m → m ≤ suc (length p.past)
      copy None q = cc
      copy (Some own) q = (let l = as_of_early own.number m q in omega arith)

      by : (b : Bool) → supply g b ≡ Some m → m ≤ suc (length p.past)
      by true q = (let same : moment_of p ≡ m = cc in omega arith)
      by false q = copy (consumed_by (knowledge_at p) g.supplier (key_of g.context)) q

  updates_early : (first last : ShadowLine) (f : Refreshed) → f.stamp ≤ suc (length p.past) → EarlyBlock (suc (length p.past)) (updates_with first last f)
  updates_early first last f h = either_early (suc (length p.past)) (is_lost last.fate) (ended (first ∷ last ∷ []) Unheard) (ended (first ∷ last ∷ []) (Done (record f { acknowledged = is_sent last.fate }))) tt h

  pull_early : (total : Bool) (g : Agreement) → EarlyBlock (suc (length p.past)) (pull p total g)
  pull_early total g = by (supplied p g) refl
    where
      first : ShadowLine
      first = shadow_line p g 1 RequestShadowUpdate

      none : EarlyBlock (suc (length p.past)) (if is_unheard first.fate then ended (first ∷ []) Unheard else ended (first ∷ []) (Problem inactive_agreement))
      none = either_early (suc (length p.past)) (is_unheard first.fate) (ended (first ∷ []) Unheard) (ended (first ∷ []) (Problem inactive_agreement)) tt tt

      by : (o : Option ℕ) → supplied p g ≡ o → EarlyBlock (suc (length p.past)) (pull p total g)
      by None e = rw e none
      by (Some stamp) e =
          rw e
          (either_early (suc (length p.past)) (is_unheard first.fate) (ended (first ∷ []) Unheard) _ tt
          (either_early (suc (length p.past)) (not total && needs_total p g (peer_moment p false g)) (ended (first ∷ []) (Problem full_update_required)) (updates_with first (shadow_line p g 2 UpdateShadow) (refresh_with p false total g stamp)) tt
          (updates_early first (shadow_line p g 2 UpdateShadow) (refresh_with p false total g stamp) (supplied_early g stamp e))))

  push_early : (total : Bool) (g : Agreement) → EarlyBlock (suc (length p.past)) (push p total g)
  push_early total g = by (supplied p g) refl
    where
      first : ShadowLine
      first = shadow_line p g 1 CoordinateShadowUpdate

      by : (o : Option ℕ) → supplied p g ≡ o → EarlyBlock (suc (length p.past)) (push p total g)
      by None e = rw e tt
      by (Some stamp) e =
          rw e
          (either_early (suc (length p.past)) (not total && needs_total p g (peer_moment p true g)) (ended [] (Problem full_update_required)) _ tt
          (either_early (suc (length p.past)) (is_unheard first.fate) (ended (first ∷ []) Unheard) _ tt
          (either_early (suc (length p.past)) (not total && not (same_moment (acked p g.number) (as_of p g.number))) (ended (first ∷ []) (Missed (as_of p g.number) (acked p g.number))) (updates_with first (shadow_line p g 2 UpdateShadow) (refresh_with p true total g stamp)) tt
          (updates_early first (shadow_line p g 2 UpdateShadow) (refresh_with p true total g stamp) (supplied_early g stamp e)))))

  block_early : (number : ℕ) (pushes total : Bool) → EarlyBlock (suc (length p.past)) (refresh_block p number pushes total)
  block_early number pushes total = either_early (suc (length p.past)) (is_some (first_breach p.described)) (ended [] NotConsistent) _ tt (by (find (λ g. g.number == number) (knowledge_at p).agreements))
    where
      block : Option Agreement → RefreshBlock
      block None = ended [] (Problem invalid_agreement_id)
      block (Some g) = if pushes then push p total g else pull p total g

      by : (o : Option Agreement) → EarlyBlock (suc (length p.past)) (block o)
      by None = tt
      by (Some g) = either_early (suc (length p.past)) pushes (push p total g) (pull p total g) (push_early total g) (pull_early total g)

-- ---- line by line

abbrev EarlyDeed : ℕ → Deed → Type 0
EarlyDeed n (Refreshes f) = f.stamp ≤ n
EarlyDeed n Nothing = ⊤
EarlyDeed n (Outs o) = ⊤
EarlyDeed n (Loses reply k) = ⊤
EarlyDeed n (Accepts accepted) = ⊤
EarlyDeed n (Splits name a) = ⊤
EarlyDeed n (Unsplits name) = ⊤

abbrev accepted_deed : Request → List ℕ → Deed
accepted_deed r [] = Nothing
accepted_deed r (a ∷ more) = Accepts (map (λ x. record { agent = x; request = r }) (a ∷ more))

accepts_early : (n : ℕ) (r : Request) (xs : List ℕ) → EarlyDeed n (accepted_deed r xs)
accepts_early n r [] = tt
accepts_early n r (a ∷ more) = tt

outcome_early : (n : ℕ) (o : RefreshOutcome) → IsEarly n o → EarlyDeed n (refreshed_by o)
outcome_early n (Done f) h = h
outcome_early n Unheard h = tt
outcome_early n (Problem k) h = tt
outcome_early n (Missed a b) h = tt
outcome_early n NotConsistent h = tt

did_early : (judge : Judge) (p : Point) (command : Command) (block : Block) → AllEarly p.past → IsBlock judge p command block → EarlyDeed (suc (length p.past)) (did_by command block).deed
did_early judge p Blank block all is = tt
did_early judge p (Changes o) block all is = tt
did_early judge p (Drops reply n) block all is = tt
did_early judge p (Asks to r) Silent all is = tt
did_early judge p (Asks to r) Set all is = tt
did_early judge p (Asks to r) (Replies j reply) all is = accepts_early (suc (length p.past)) r (reverse j.accepted)
did_early judge p (Asks to r) (Refreshing b) all is = tt
did_early judge p (Asks to r) (Handed by n j reply) all is = tt
did_early judge p (Asks to r) (Rejected raw breach) all is = tt
did_early judge p (Updates number pushes total) Silent all is = tt
did_early judge p (Updates number pushes total) Set all is = tt
did_early judge p (Updates number pushes total) (Replies j reply) all is = tt
did_early judge p (Updates number pushes total) (Handed by n j reply) all is = tt
did_early judge p (Updates number pushes total) (Rejected raw breach) all is = tt
did_early judge p (Hands via to count (Ok m)) Silent all is = tt
did_early judge p (Hands via to count (Ok m)) Set all is = tt
did_early judge p (Hands via to count (Ok m)) (Replies j reply) all is = tt
did_early judge p (Hands via to count (Ok m)) (Refreshing b) all is = tt
did_early judge p (Hands via to count (Ok m)) (Handed by n j reply) all is = accepts_early (suc (length p.past)) m.request (reverse j.accepted)
did_early judge p (Hands via to count (Ok m)) (Rejected raw breach) all is = tt
did_early judge p (Hands via to count (Err x)) Silent all is = tt
did_early judge p (Hands via to count (Err x)) Set all is = tt
did_early judge p (Hands via to count (Err x)) (Replies j reply) all is = tt
did_early judge p (Hands via to count (Err x)) (Refreshing b) all is = tt
did_early judge p (Hands via to count (Err x)) (Handed by n j reply) all is = tt
did_early judge p (Hands via to count (Err x)) (Rejected raw breach) all is = tt
did_early judge p (Updates number pushes total) (Refreshing b) all is =
    outcome_early (suc (length p.past)) b.outcome (subst (λ (x : RefreshBlock). EarlyBlock (suc (length p.past)) x) (sym is) (block_early p all number pushes total))

of_deed : (n : ℕ) (d : Deed) (number : ℕ) (f : Refreshed) → EarlyDeed n d → In f (refresh_of d number) → f.stamp ≤ n
of_deed n (Refreshes g) number f h i = by (g.agreement == number) i
  where
    by : (b : Bool) → In f (when b g) → f.stamp ≤ n
    by true j = elim (in_first f g [] j) [ inl e ↦ subst (λ (x : Refreshed). x.stamp ≤ n) (sym e) h | inr l ↦ elim l [ ] ]
    by false j = elim j [ ]
of_deed n Nothing number f h i = elim i [ ]
of_deed n (Outs o) number f h i = elim i [ ]
of_deed n (Loses reply k) number f h i = elim i [ ]
of_deed n (Accepts accepted) number f h i = elim i [ ]
of_deed n (Splits name a) number f h i = elim i [ ]
of_deed n (Unsplits name) number f h i = elim i [ ]

run_early : (judge : Judge) (w : World) (commands : List Command) (blocks : List Block) (past : List Did) → IsRun judge w commands blocks past → AllEarly past
run_early judge w commands blocks past begin n f i = elim i [ ]
run_early judge w commands blocks past (next {commands = cs} {blocks = bs} {past = before} command block run is) n f i =
    let all = run_early judge w cs bs before run in
    elim (in_either f (refresh_of (did_by command block).deed n) (refreshes_of before n) i) [
      | inl j ↦ of_deed (suc (length before)) (did_by command block).deed n f (did_early judge (record { described = w; past = before }) command block all is) j
      | inr j ↦ (let l = all n f j in omega arith)
    ]

pub runs_are_stamped : (judge : Judge) → RunsAreStamped judge
runs_are_stamped judge w commands blocks past run g moment i e = stamp_early past g.number moment (run_early judge w commands blocks past run) e
