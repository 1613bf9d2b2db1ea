-- What may be accepted while a message is sent, and what is answered then: lines only grow, by one induction, and what
-- a lost reply hides stays lost.
use Rattle.std.proofs.Common.{◌≡◌, ℕ, true, false, not, ◌&&◌, ◌⊎◌, inl, inr, List, [], ◌∷◌, ◌++◌, append_assoc, refl, sym, ap, subst, ◌∙◌, Option, Ok, Err}
use Rattle.std.specs.List.{list_any}
use Rattle.std.specs.Result.{is_ok}
use Rattle.x5_model.specs.Words.{is_empty}
use Rattle.x5_model.specs.Members.{In, here}
use Rattle.x5_model.specs.Values.{key_of}
use Rattle.x5_model.specs.Requests.{Body, Request}
use Rattle.x5_model.specs.References.{Reference}
use Rattle.x5_model.specs.Answers.{Changed, DirError, Reply, Answered}
use Rattle.x5_model.specs.Problems.{unable_to_proceed}
use Rattle.x5_model.specs.Statics.{fault_of}
use Rattle.x5_model.proofs.Lists.{both_true, either_true, not_true, not_false, in_right, any_in, of_any, of_all}
use Rattle.x5_model_tree.specs.Tree.{Tree}
use Rattle.x5_model_tree.specs.Ask.{Refuses, is_update, updated}
use Rattle.x5_model_tree.specs.Apply.{UpdatedEntries, Applied, ground_of, apply_over, apply}
use Rattle.x5_model_run.specs.Journal.{Line, Journal, is_reached}
use Rattle.x5_model_run.specs.History.{tree_at}
use Rattle.x5_model_run.specs.Chain.{Scene}
use Rattle.x5_model_run.specs.Right as right
use Rattle.x5_model_run.specs.Right.{Right, result, changed, accepts_none, is_noreply, heard_whole, is_accepted_right, is_master_at}
use Rattle.x5_model_replies.specs.Replies as placed
use Rattle.x5_model_replies.specs.Replies.{RightReply, usual}
use Rattle.x5_model_updates.proofs.Outcomes.{ok_or_err, accepted_over, tree_made}
use Rattle.x5_model_serve.specs.Answering.{is_service}
use Rattle.x5_model_serve.specs.Claims.{Grows}
use Rattle.x5_model_serve.specs.Serving.{Hand, Act, Does, next_line, Tries, Sends, Unheard, loops, is_long, done_before, refused, unfit, stuck, nowhere, refers, goes, casts, reads, reads_copy, gives_parts, asks_parts, updates, not_done, does, probes_all, misses, taken, breaks, no_probe, clear, unsure, silent, holds_back, holds_back, spent, lost, dropped, sends, final, referral, wide_referral, unexplored, none_yet, in_vain_too, heard, unheard, none_asked, unable_too, silent_too, answered, nobody_has, some_silent, no_part, part_unheard, part_unavailable, part_answered, part_breaks}
use Rattle.x5_model_verdicts.specs.Growth.{LinesGrow, NoErrorAfter, AcceptedMeanwhile, TriedInVain}
use Rattle.x5_model_verdicts.proofs.Refused.{told_update}

-- ---- lines grow

abbrev InFront : List Line → List Line → Type 0
InFront xs ys = (new : List Line) × (ys ≡ new ++ xs)

further : (xs ys zs : List Line) → InFront xs ys → InFront ys zs → InFront xs zs
further xs ys zs a b = (b.0 ++ a.0, b.1 ∙ ap (λ (ls : List Line). b.0 ++ ls) a.1 ∙ sym (append_assoc b.0 a.0 xs))

module _ (s : Scene) (most : ℕ) where
  pub grown : (x : Act) (i j : Journal) → Does s most x i j → Grows i j
  grown _ _ _ (loops e) = ([], refl)
  grown _ _ _ (is_long e f) = ([], refl)
  grown _ _ _ (done_before e f g) = ([], refl)
  grown _ _ _ (refused x e f g h) = ([], refl)
  grown _ _ _ (unfit e f g h i) = ([], refl)
  grown _ _ _ (stuck a e) = ([], refl)
  grown _ _ _ (nowhere n a e) = ([], refl)
  grown _ _ _ (refers r a e f) = ([], refl)
  grown _ _ _ (goes r h a e f g d) = grown _ _ _ d
  grown _ _ _ (casts r y a e f g d) = grown _ _ _ d
  grown _ _ _ (reads c a e f g) = ([], refl)
  grown _ _ _ (reads_copy c a e f) = ([], refl)
  grown _ _ _ (gives_parts y a e f g) = ([], refl)
  grown _ _ _ (asks_parts y w a e f g d) = grown _ _ _ d
  grown _ _ _ (updates c y a e f d) = grown _ _ _ d
  grown _ _ _ (not_done x e) = ([], refl)
  grown _ _ _ (does mine e f) = ([], refl)
  grown _ _ _ (probes_all mine r e f d) = grown _ _ _ d
  grown _ _ _ (misses mine r a noted e f d) = grown _ _ _ d
  grown _ _ _ (taken mine r a b c n y e f g d u) = further _ _ _ (grown _ _ _ d) (grown _ _ _ u)
  grown _ _ _ (breaks mine r a b c n y e f g p q d u) = further _ _ _ (grown _ _ _ d) (grown _ _ _ u)
  grown _ _ _ no_probe = ([], refl)
  grown _ _ _ (clear a y e d u) = further _ _ _ (grown _ _ _ d) (grown _ _ _ u)
  grown _ _ _ (unsure a y e d u) = further _ _ _ (grown _ _ _ d) (grown _ _ _ u)
  grown _ _ _ (silent a d u) = further _ _ _ (grown _ _ _ d) (grown _ _ _ u)
  grown _ _ _ (holds_back a e) = ([], refl)
  grown _ _ _ (spent a hb e) = ([], refl)
  grown _ _ _ (lost {from} {o} {r} {j} a hb e f) = (next_line s j from o r a ∷ [], refl)
  grown _ _ _ (dropped {from} {o} {r} {i} {j} a y hb e f d) = further i.lines (next_line s i from o r a ∷ i.lines) j.lines (next_line s i from o r a ∷ [], refl) (grown _ _ _ d)
  grown _ _ _ (sends {from} {o} {r} {i} {j} {l} a y z hb e f d u) = further i.lines j.lines l.lines (further i.lines (next_line s i from o r a ∷ i.lines) j.lines (next_line s i from o r a ∷ [], refl) (grown _ _ _ d)) (grown _ _ _ u)
  grown _ _ _ (final y e) = ([], refl)
  grown _ _ _ (referral r h e d) = grown _ _ _ d
  grown _ _ _ (wide_referral r y e d) = grown _ _ _ d
  grown _ _ _ (unexplored a w e d) = grown _ _ _ d
  grown _ _ _ none_yet = ([], refl)
  grown _ _ _ (in_vain_too a d u) = further _ _ _ (grown _ _ _ d) (grown _ _ _ u)
  grown _ _ _ (heard b c a y e d u) = further _ _ _ (grown _ _ _ d) (grown _ _ _ u)
  grown _ _ _ (unheard d) = grown _ _ _ d
  grown _ _ _ none_asked = ([], refl)
  grown _ _ _ (unable_too a y e d u) = further _ _ _ (grown _ _ _ d) (grown _ _ _ u)
  grown _ _ _ (silent_too a d u) = further _ _ _ (grown _ _ _ d) (grown _ _ _ u)
  grown _ _ _ (answered b c n a y e f d u) = further _ _ _ (grown _ _ _ d) (grown _ _ _ u)
  grown _ _ _ (nobody_has d) = grown _ _ _ d
  grown _ _ _ (some_silent n e d) = grown _ _ _ d
  grown _ _ _ no_part = ([], refl)
  grown _ _ _ (part_unheard r d u) = further _ _ _ (grown _ _ _ d) (grown _ _ _ u)
  grown _ _ _ (part_unavailable r v d u) = further _ _ _ (grown _ _ _ d) (grown _ _ _ u)
  grown _ _ _ (part_answered r c d u) = further _ _ _ (grown _ _ _ d) (grown _ _ _ u)
  grown _ _ _ (part_breaks b c r x e d u) = further _ _ _ (grown _ _ _ d) (grown _ _ _ u)

pub lines_grow : LinesGrow
lines_grow s most x i j d = grown s most x i j d

-- a lost reply stays
loss_stays : (i j : Journal) → Grows i j → heard_whole i.lines ≡ false → heard_whole j.lines ≡ false
loss_stays i j g h =
    let w = of_any (λ (l : Line). is_noreply l.fate) i.lines (not_false (list_any (λ (l : Line). is_noreply l.fate) i.lines) h) in
    ap not (any_in (λ (l : Line). is_noreply l.fate) w.0 j.lines (subst (λ (xs : List Line). In w.0 xs) (sym g.1) (in_right w.0 g.0 i.lines w.1)) w.2)

module _ (s : Scene) (most : ℕ) where
  sent_in_vain : (from : Option ℕ) (o : Hand) (r : Reference) (a : ℕ) (i j : Journal) → Does s most (Sends from o r a Unheard) i j → (j.accepted ≡ i.accepted) ⊎ (heard_whole j.lines ≡ false)
  sent_in_vain _ _ _ _ _ _ (lost a hb e f) = inl refl
  sent_in_vain _ _ _ _ _ _ (dropped {from} {o} {r} {i} {j} a y hb e f d) =
      let g = grown s most _ _ _ d in
      inr (ap not (any_in (λ (l : Line). is_noreply l.fate) (next_line s i from o r a) j.lines (subst (λ (xs : List Line). In (next_line s i from o r a) xs) (sym g.1) (in_right (next_line s i from o r a) g.0 (next_line s i from o r a ∷ i.lines) here)) (ap is_noreply f)))

  pub tries_in_vain : (from : Option ℕ) (o : Hand) (r : Reference) (agents : List ℕ) (i j : Journal) → Does s most (Tries from o r agents) i j → (j.accepted ≡ i.accepted) ⊎ (heard_whole j.lines ≡ false)
  tries_in_vain _ _ _ _ _ _ none_yet = inl refl
  tries_in_vain _ _ _ _ _ _ (in_vain_too {from} {o} {r} {i} {j} {l} {before} a d u) =
      elim (sent_in_vain from o r a j l u) [
        | inr f ↦ inr f
        | inl e ↦ elim (tries_in_vain from o r before i j d) [
          | inl f ↦ inl (e ∙ f)
          | inr f ↦ inr (loss_stays j l (grown s most _ _ _ u) f)
        ]
      ]

pub tried_in_vain : TriedInVain
tried_in_vain s most from o r agents i j d = tries_in_vain s most from o r agents i j d

-- ---- after it was accepted

some_member : (xs : List ℕ) → is_empty xs ≡ false → (a : ℕ) × In a xs
some_member [] e = cc
some_member (x ∷ xs) e = (x, here)

no_refusal : (t : Tree) (r : Request) (u : Tree) (x : DirError) → apply t r ≡ Ok u → updated (apply t r) ≡ Refuses x → ⊥
no_refusal t r u x e f = (let g = sym (ap updated e) ∙ f in cc)

abbrev as_applied : Tree → UpdatedEntries → Applied
as_applied t (Ok entries) = Ok (record t { entries = entries })
as_applied t (Err x) = Err x

abbrev applied : Tree → Body → Applied
applied t body = as_applied t (apply_over (ground_of t) body)

pub no_error_after : NoErrorAfter
no_error_after p s q j x acc some body going h =
    let a = some_member j.accepted some in
    let r = of_all (is_accepted_right p s j.lines) a.0 j.accepted acc.right a.1 in
    let r1 = both_true (is_update s.message.request.body) (is_reached j.lines a.0 && (is_master_at p (key_of s.message.target) a.0 && is_ok (apply (tree_at p) s.message.request))) r in
    let r2 = both_true (is_reached j.lines a.0) (is_master_at p (key_of s.message.target) a.0 && is_ok (apply (tree_at p) s.message.request)) r1.1 in
    let r3 = both_true (is_master_at p (key_of s.message.target) a.0) (is_ok (apply (tree_at p) s.message.request)) r2.1 in
    elim (ok_or_err (apply (tree_at p) s.message.request)) [
      | inr y ↦ (let f : is_ok (apply (tree_at p) s.message.request) ≡ false = ap (λ (z : Applied). is_ok z) y.1 in let g = r3.1 in cc)
      | inl u ↦
          let w = tree_made (tree_at p) u.0 s.message.request u.1 in
          let v = accepted_over (ground_of (tree_at p)) s.message.request.body u.0.entries w.0 in
          let mine : apply (tree_at p) q.message.request ≡ Ok u.0 = ap (applied (tree_at p)) body ∙ u.1 in
          let t = told_update (tree_at p) q.message going (ap (λ (b : Body). fault_of b) body ∙ v.0) (ap (λ (b : Body). is_update b) body ∙ r1.0) in
          no_refusal (tree_at p) q.message.request u.0 x mine (sym t ∙ h)
    ]

pub accepted_meanwhile : AcceptedMeanwhile
accepted_meanwhile p s q j over reply acc some body going more (usual able r) = by reply r
  where
    abbrev_goal : Reply → Type 0
    abbrev_goal y = (y ≡ Answered Changed) ⊎ ((heard_whole j.lines ≡ false) ⊎ (is_service unable_to_proceed y ≡ true))

    never : {A : Type 0} → accepts_none q j ≡ true → A
    never n = (let f = more in absurd (let z : true ≡ false = sym n ∙ f in cc))

    by : (y : Reply) → Right p s q j y → abbrev_goal y
    by _ (result on x u n) = never n
    by _ (changed on u n) = inl refl
    by _ (right.error {x} on t o n) = never n
    by _ (right.referral u f n) = never n
    by _ (right.unheard l f n) = elim (either_true (accepts_none q j) (not (heard_whole j.lines)) n) [ inl e ↦ never e | inr e ↦ inr (inl (not_true (heard_whole j.lines) e)) ]
accepted_meanwhile p s q j over reply acc some body going more (placed.unable u) = inr (inr refl)
accepted_meanwhile p s q j over reply acc some body going more (placed.limit on long none) = elim (either_true (accepts_none q j) (not (heard_whole j.lines)) none) [
  | inl e ↦ absurd (let f = more in let z : true ≡ false = sym e ∙ f in cc)
  | inr e ↦ inr (inl (not_true (heard_whole j.lines) e))
]
