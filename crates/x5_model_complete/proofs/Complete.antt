-- That an answer is complete where each line of the journal is sent: nobody was asked in vain, and the user's agent may
-- chain; so nothing is blocked. By the cases of a right answer. Where nothing is in the way each line is sent. That no service error but
-- `unavailable` comes to a user is read off the same cases.
use Rattle.std.proofs.Common.{◌≡◌, ◌<◌, ◌≤◌, ℕ, ◌+◌, ◌==◌, Bool, true, false, not, ◌&&◌, List, [], ◌∷◌, length, refl, sym, ap, ◌∙◌, Option, Some, None, inl, inr, arith}
use Rattle.std.specs.List.{list_all, AllByRecursion}
use Rattle.std.specs.Result.{is_ok}
use Rattle.std.proofs.lemmas.Bool.Decides.{Decides-eqb}
use Rattle.x5_model.specs.Words.{has, is_empty}
use Rattle.x5_model.specs.Members.{In, here, there}
use Rattle.x5_model.specs.Values.{key_of}
use Rattle.x5_model.specs.Requests.{Request}
use Rattle.x5_model.specs.References.{Reference}
use Rattle.x5_model.specs.Answers.{Reply}
use Rattle.x5_model.specs.Problems.{unavailable, unable_to_proceed, invalid_reference, administrative_limit_exceeded, loop_detected}
use Rattle.x5_model.proofs.Lists.{both_true, either_true, not_true, true_or_false, of_any, of_all, and_true}
use Rattle.x5_model_tree.specs.World.{Network}
use Rattle.x5_model_tree.specs.Ask.{Changes, unexplored_of, is_update, updated, ask}
use Rattle.x5_model_tree.specs.Tree.{Tree}
use Rattle.x5_model_tree.specs.Apply.{ground_of, apply}
use Rattle.x5_model_run.specs.Network.{Fate, Lost, NoReply, Sent, refuses, fate_of, is_unheard, is_sent}
use Rattle.x5_model_run.specs.Journal.{Line, Journal, some_line, opened_by, is_reached}
use Rattle.x5_model_run.specs.History.{Point, tree_at, network_at}
use Rattle.x5_model_run.specs.Chain.{Scene, opening, scene_at, AllLicensed, is_in_vain, is_asked, is_broken, is_broken_off, is_broken_line, asks_by, is_probe}
use Rattle.x5_model_run.specs.Blocked.{Asked, by_user, is_idle, IsLost, user, asked, Blocked, untried, lost, came_back}
use Rattle.x5_model_run.specs.Right.{Right, result, changed, error, referral, unheard, Accepts, is_accepted_right, hears_accepted, is_master_at}
use Rattle.x5_model_run.specs.Holdings.{masters_pin}
use Rattle.x5_model_run.specs.Accepting.{carries_update}
use Rattle.x5_model_serve.specs.Answering.{is_service}
use Rattle.x5_model_run.specs.Run.{Judge}
use Rattle.x5_model_updates.proofs.Outcomes.{ok_or_err, accepted_over, tree_made}
use Rattle.x5_model_verdicts.proofs.Refused.{told_update}
use Rattle.x5_model_settled.proofs.Settled.{lines_are_right, runs_are_right}
use Rattle.x5_model_complete.specs.Complete as complete
use Rattle.x5_model_complete.specs.Complete.{IsClear, IsComplete, LinesAreComplete, RunsAreComplete, ClearLinesAreComplete, ClearRunsAreComplete, IsSpared, LinesAreSpared, RunsAreSpared}
use Rattle.x5_model_complete.proofs.Errors.{told_plain, no_service}

true_false : {X : Type 0} → true ≡ false → X
true_false e = cc

-- ---- each message arrived, and so did each reply

is_so : (f : Fate) → is_sent f ≡ true → f ≡ Sent
is_so Lost e = true_false (sym e)
is_so NoReply e = true_false (sym e)
is_so Sent e = refl

abbrev are_sent : List Line → Bool
are_sent lines = list_all (λ l. is_sent l.fate) lines

abbrev Arrived : List Line → Type 0
Arrived lines = (l : Line) → In l lines → l.fate ≡ Sent

all_arrived : (lines : List Line) → are_sent lines ≡ true → Arrived lines
all_arrived lines e l i = is_so l.fate (of_all (λ (x : Line). is_sent x.fate) l lines e i)

-- where nothing is in the way of so many messages

free : (net : Network) (sent count n : ℕ) (from : Option ℕ) (to : ℕ) → IsClear net sent count → sent < n
    → n ≤ sent + count → fate_of net n from to ≡ Sent
free net sent count n None to c h k = rw (c.up to, c.carried n h k, c.replied n h k) refl
free net sent count n (Some a) to c h k =
    rw (c.up a, c.up to, c.joined a to, c.carried n h k, c.replied n h k) refl

licensed_sent : (s : Scene) (count : ℕ) → IsClear s.network s.sent count → (lines : List Line)
    → length lines ≤ count → AllLicensed s lines → are_sent lines ≡ true
licensed_sent s count c [] k a = refl
licensed_sent s count c (x ∷ before) k a =
    let e : x.fate ≡ Sent =
    a.0.fate_is ∙ free s.network s.sent count x.number x.sender x.receiver c
    (let e = a.0.number_is in omega arith) (let e = a.0.number_is in omega arith) in
    and_true (is_sent x.fate) (are_sent before) (ap is_sent e)
    (licensed_sent s count c before (omega arith) a.1)

-- ---- nobody was asked in vain

unheard_not : (l : Line) → l.fate ≡ Sent → is_unheard l.fate ≡ true → ⊥
unheard_not l e h = true_false (sym h ∙ ap is_unheard e)

no_line : (test : Line → List Line → Bool) (lines : List Line)
    → ((l : Line) (before : List Line) → In l lines → test l before ≡ true → ⊥) → some_line test lines ≡ true → ⊥
no_line test [] f e = true_false (sym e)
no_line test (l ∷ before) f e = elim (either_true (test l before) (some_line test before) e) [
  | inl a ↦ f l before here a
  | inr b ↦ no_line test before (λ x y i. f x y (there i)) b
]

none_unheard : (f : Line → List Line → Bool) (lines : List Line) → Arrived lines
    → some_line (λ l before. is_unheard l.fate && f l before) lines ≡ true → ⊥
none_unheard f lines arrived =
    no_line (λ l before. is_unheard l.fate && f l before) lines
    (λ l before i t. unheard_not l (arrived l i) (both_true (is_unheard l.fate) (f l before) t).0)

not_broken : (s : Scene) (lines : List Line) (number : ℕ) (r : Reference) (a : ℕ) → Arrived lines
    → is_broken s lines number r a ≡ true → ⊥
not_broken s lines number r a arrived =
    no_line (λ e before. asks_by r a e && (opened_by number before e && is_broken_line s lines e)) lines
    (λ e before i t.
    let b = both_true (opened_by number before e) (is_broken_line s lines e)
    (both_true (asks_by r a e) (opened_by number before e && is_broken_line s lines e) t).1 in
    let c = both_true (not (masters_pin (s.holdings e.receiver) (key_of e.message.target))) (some_line
    (is_broken_off s e) lines)
    (both_true (is_sent e.fate) _ b.1).1 in
    no_line (is_broken_off s e) lines (λ l earlier k u. unheard_not l (arrived l k) (both_true
    (is_unheard l.fate) _ u).0) c.1)

not_vain : (s : Scene) (lines : List Line) (o : Line) (r : Reference) (a : ℕ) → Arrived lines
    → is_in_vain s lines o r a ≡ true → ⊥
not_vain s lines o r a arrived e =
    elim (either_true (is_asked is_unheard lines o.number r a)
    (is_probe o.message.request.body r.target && is_broken s lines o.number r a) e) [
      | inl x ↦ none_unheard (λ l before. asks_by r a l && opened_by o.number before l) lines arrived x
      | inr x ↦ not_broken s lines o.number r a arrived (both_true (is_probe o.message.request.body r.target) _ x).1
    ]

some_vain : (s : Scene) (lines : List Line) (o : Line) (r : Reference) (agents : List ℕ) → Arrived lines
    → not (is_empty agents) ≡ true
    → list_all (is_in_vain s lines o r) agents ≡ true → ⊥
some_vain s lines o r [] arrived e h = true_false (sym e)
some_vain s lines o r (a ∷ more) arrived e h =
    not_vain s lines o r a arrived (both_true (is_in_vain s lines o r a) (list_all (is_in_vain s lines o r) more) h).0

-- ---- so nothing is blocked

not_lost : (s : Scene) (q : Asked) (lines : List Line) (r : Reference) → Arrived lines → IsLost s q lines r → ⊥
not_lost s q lines r arrived (user x) =
    let w = of_any (λ (l : Line). (l.number == q.number) && is_unheard l.fate) lines x.unheard in
    unheard_not w.0 (arrived w.0 w.1) (both_true (w.0.number == q.number) (is_unheard w.0.fate) w.2).1
not_lost s q lines r arrived (asked x) =
    some_vain s lines x.line x.full r.agents arrived (both_true (not (is_empty r.agents)) _ x.listed).0 x.vain

not_idle : (s : Scene) (q : Asked) → q.message.request.controls.nochain ≡ false → refuses s.network q.to ≡ false
    → is_idle s q ≡ true → ⊥
not_idle s q n c e = elim (either_true q.message.request.controls.nochain (refuses s.network q.to) e) [
  | inl x ↦ true_false (sym x ∙ n)
  | inr x ↦ true_false (sym x ∙ c)
]

not_blocked : (s : Scene) (q : Asked) (lines : List Line) (r : Reference) → q.message.request.controls.nochain ≡ false
    → refuses s.network q.to ≡ false → Arrived lines → Blocked s q lines r → ⊥
not_blocked s q lines r n c arrived (untried x) = not_idle s q n c x.idle
not_blocked s q lines r n c arrived (lost x) = not_lost s q lines r arrived x

none_blocked : (s : Scene) (q : Asked) (lines : List Line) (rs : List Reference)
    → q.message.request.controls.nochain ≡ false
    → refuses s.network q.to ≡ false → Arrived lines → AllByRecursion (Blocked s q lines) rs → rs ≡ []
none_blocked s q lines [] n c arrived b = refl
none_blocked s q lines (r ∷ rs) n c arrived b = absurd (not_blocked s q lines r n c arrived b.0)

-- ---- what is accepted the tree takes

accepted_ok : (p : Point) (s : Scene) (lines : List Line) (agents : List ℕ) (a : ℕ)
    → list_all (is_accepted_right p s lines) agents ≡ true → has ◌==◌ agents a ≡ true
    → (is_update s.message.request.body ≡ true) × (is_ok (apply (tree_at p) s.message.request) ≡ true)
accepted_ok p s lines [] a h e = true_false (sym e)
accepted_ok p s lines (b ∷ more) a h e =
    let x = both_true (is_update s.message.request.body) _ (both_true (is_accepted_right p s lines b) (list_all
    (is_accepted_right p s lines) more) h).0 in
    let y = both_true (is_reached lines b) _ x.1 in
    (x.0, (both_true (is_master_at p (key_of s.message.target) b) (is_ok (apply (tree_at p) s.message.request)) y.1).1)

abbrev accepts_at : Scene → Asked → Journal → Line → List Line → Bool
accepts_at s q j l before = (has ◌==◌ j.accepted l.receiver && carries_update s l) && came_back q l before

accepted_in : (s : Scene) (q : Asked) (j : Journal) (lines : List Line) → some_line (accepts_at s q j) lines ≡ true
    → (a : ℕ) × (has ◌==◌ j.accepted a ≡ true)
accepted_in s q j [] h = true_false (sym h)
accepted_in s q j (l ∷ before) h = elim (either_true (accepts_at s q j l before) (some_line
    (accepts_at s q j) before) h) [
      | inl x ↦ (
        l.receiver,
        (both_true (has ◌==◌ j.accepted l.receiver) (carries_update s l)
            (both_true (has ◌==◌ j.accepted l.receiver && carries_update s l) (came_back q l before) x).0).0,
      )
      | inr x ↦ accepted_in s q j before x
    ]

some_accepted : (s : Scene) (q : Asked) (j : Journal) → hears_accepted s q j ≡ true
    → (a : ℕ) × (has ◌==◌ j.accepted a ≡ true)
some_accepted s q j e = accepted_in s q j j.lines e

changes_by : (t : Tree) (r : Request) → is_update r.body ≡ true → is_ok (apply t r) ≡ true → ask t r ≡ Changes
changes_by t r up ok = elim (ok_or_err (apply t r)) [
  | inl w ↦ told_update t (opening r) refl (accepted_over (ground_of t) r.body w.0.entries
      (tree_made t w.0 r w.1).0).0 up ∙ ap updated w.1
  | inr w ↦ true_false (sym ok ∙ ap is_ok w.1)
]

-- ---- the cases of a right answer

module _ (p : Point) (first : ℕ) (r : Request) (j : Journal) (chains : r.controls.nochain ≡ false)
    (willing : refuses (network_at p) first ≡ false) (back : are_sent j.lines ≡ true) where
  abbrev s : Scene
  s = scene_at p first r

  complete_by : AllLicensed s j.lines → Accepts p s j → (reply : Reply) → Right p s (by_user s) j reply
      → IsComplete p first r j reply
  complete_by l a _ (result {a = answer} came is off none) =
      complete.result (not_true (is_update r.body) off) is
      (none_blocked s (by_user s) j.lines (unexplored_of answer) chains willing
      (all_arrived j.lines back) is.blocked)
  complete_by l a _ (changed came up hears) =
      let w = some_accepted s (by_user s) j hears in
      let ok = accepted_ok p s j.lines j.accepted w.0 a.right w.1 in
      complete.changed (changes_by (tree_at p) r ok.0 ok.1)
  complete_by l a _ (error came told known none) = complete.error told
  complete_by l a _ (referral x same none) = absurd (not_idle s (by_user s) chains willing x.idle)
  complete_by l a _ (unheard {r = u} x same none) = absurd (not_lost s (by_user s) j.lines u
      (all_arrived j.lines back) x)

spared_by : (p : Point) (s : Scene) (q : Asked) (j : Journal) (reply : Reply) → Right p s q j reply → (n : ℕ)
    → is_service n reply ≡ true → n ≡ unavailable
spared_by p s q j _ (result back is off none) n e = true_false (sym e)
spared_by p s q j _ (changed back up hears) n e = true_false (sym e)
spared_by p s q j _ (error {x} back told known none) n e =
    true_false (sym e ∙ no_service n x (told_plain (λ key. false) (tree_at p) q.message x told))
spared_by p s q j _ (referral x same none) n e = true_false (sym e)
spared_by p s q j _ (unheard x same none) n e = sym ((Decides-eqb unavailable n).0 e)

none_of : (reply : Reply) (k : ℕ) → ((n : ℕ) → is_service n reply ≡ true → n ≡ unavailable) → (k ≡ unavailable → ⊥)
    → is_service k reply ≡ false
none_of reply k f off = elim (true_or_false (is_service k reply)) [ inl e ↦ absurd (off (f k e)) | inr e ↦ e ]

spared : (reply : Reply) → ((n : ℕ) → is_service n reply ≡ true → n ≡ unavailable) → IsSpared reply
spared reply f = record {
  only = f;
  reference = none_of reply invalid_reference f (λ e. omega arith);
  unable = none_of reply unable_to_proceed f (λ e. omega arith);
  looped = none_of reply loop_detected f (λ e. omega arith);
  limited = none_of reply administrative_limit_exceeded f (λ e. omega arith);
}

-- ---- at every line

pub lines_are_complete : LinesAreComplete
lines_are_complete w past first r described consistent none agent j reply short fresh chains willing back is =
    let x = lines_are_right w past first r described consistent none agent j reply short fresh is in
    complete_by (record { described = w; past = past }) first r j chains willing back x.0.licensed x.0.accepts reply
    x.0.answer

pub runs_are_complete : (judge : Judge) → RunsAreComplete judge
runs_are_complete judge w commands blocks past first r described consistent run agent j reply short fresh chains willing
    back is =
    let x = runs_are_right judge w commands blocks past first r described consistent run agent j reply short fresh is in
    complete_by (record { described = w; past = past }) first r j chains willing back x.0.licensed x.0.accepts reply
    x.0.answer

-- so too where nothing is in the way

pub clear_lines_are_complete : ClearLinesAreComplete
clear_lines_are_complete w past first r described consistent none agent j reply short fresh chains clear is =
    let p : Point = record { described = w; past = past } in
    let x = lines_are_right w past first r described consistent none agent j reply short fresh is in
    complete_by p first r j chains (clear.willing first)
    (licensed_sent (scene_at p first r) (length j.lines) clear j.lines (omega arith) x.0.licensed) x.0.licensed
    x.0.accepts reply x.0.answer

pub clear_runs_are_complete : (judge : Judge) → ClearRunsAreComplete judge
clear_runs_are_complete judge w commands blocks past first r described consistent run agent j reply short fresh chains
    clear is =
    let p : Point = record { described = w; past = past } in
    let x = runs_are_right judge w commands blocks past first r described consistent run agent j reply short fresh is in
    complete_by p first r j chains (clear.willing first)
    (licensed_sent (scene_at p first r) (length j.lines) clear j.lines (omega arith) x.0.licensed) x.0.licensed
    x.0.accepts reply x.0.answer

pub lines_are_spared : LinesAreSpared
lines_are_spared w past first r described consistent none agent j reply short fresh is =
    let x = lines_are_right w past first r described consistent none agent j reply short fresh is in
    spared reply (spared_by (record { described = w; past = past }) (scene_at
    (record { described = w; past = past }) first r)
    (by_user (scene_at (record { described = w; past = past }) first r)) j reply x.0.answer)

pub runs_are_spared : (judge : Judge) → RunsAreSpared judge
runs_are_spared judge w commands blocks past first r described consistent run agent j reply short fresh is =
    let x = runs_are_right judge w commands blocks past first r described consistent run agent j reply short fresh is in
    spared reply (spared_by (record { described = w; past = past }) (scene_at
    (record { described = w; past = past }) first r)
    (by_user (scene_at (record { described = w; past = past }) first r)) j reply x.0.answer)
