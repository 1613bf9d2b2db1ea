-- What agents do with two requests over the base world, step by step. A search, with Gamma down: Alpha answers its part
-- and asks Beta, which asks the agents of its NSSR in turn; what is left out and what is found is joined. And an
-- addEntry whose new name Gamma has: Beta's probe finds it.
use Rattle.std.specs.Prelude.{ℕ, [], ◌∷◌}
use Rattle.std.proofs.Common.{◌≡◌, Bool, true, false, List, ◌++◌, refl, sym, ap, ◌∙◌, arith, Option, Some, None}
use Rattle.x5_model.specs.Requests.{WholeSubtree}
use Rattle.x5_model.specs.References.{Next, Done, NonSpecific, Reference}
use Rattle.x5_model.specs.Answers.{Source, Answer, Found, Reply, Answered, Failed, UpdateProblem}
use Rattle.x5_model.specs.Problems.{entry_already_exists}
use Rattle.x5_model_run.specs.Network.{Lost, Sent}
use Rattle.x5_model_run.specs.Journal.{Line, Journal}
use Rattle.x5_model_run.specs.Needs.{reference}
use Rattle.x5_model_run.specs.Chain.{Scene, scene_at, probe_request}
use Rattle.x5_model_run.specs.Stage.{budget}
use Rattle.x5_model.specs.Statics.{fault_of}
use Rattle.x5_model_run.specs.Placed.{fits}
use Rattle.x5_model_serve.specs.Finding as finding
use Rattle.x5_model_serve.specs.Answering.{local_part}
use Rattle.x5_model_serve.specs.Serving.{hand_of, Serves, Whole, Does, IsRequest, Hand, Gathered, Gathers, is_looped}
use Rattle.x5_model_serve.specs.Serving.{is_too_long, is_done_here, is_idle, found_at, parts_refs, gathered_reply}
use Rattle.x5_model_serve.specs.Serving.{holds_now, answers, loops, is_long, done_before, refused, unfit, stuck}
use Rattle.x5_model_serve.specs.Serving.{nowhere, refers, goes, casts, reads_copy, gives_parts, part_unavailable}
use Rattle.x5_model_serve.specs.Serving.{part_breaks, updates, taken, no_probe, reads, asks_parts, no_part}
use Rattle.x5_model_serve.specs.Serving.{part_answered, part_unheard, heard, unheard, none_yet, in_vain_too, lost}
use Rattle.x5_model_serve.specs.Serving.{sends, final}
use Rattle.x5_model_rows.proofs.BaseWorld.{base_world, nl, acme, desk, shop, ada}
use Rattle.x5_model_rows.proofs.Messages.{passes, journal, point, now, bare, in_vain, whole_outcome, left_out}
use Rattle.x5_model_rows.proofs.Searching.{gamma_down, from_nl, nl_at_alpha, nl_part, nl_journal, everything}
use Rattle.x5_model_rows.proofs.Searching.{acme_reference}
use Rattle.x5_model_rows.proofs.Probing.{new_lab, add_lab, add_at_beta, add_journal}

abbrev pub scene : Scene
scene = scene_at gamma_down 0 from_nl

abbrev pub most : ℕ
most = budget gamma_down

abbrev pub to_gamma : Line
to_gamma = passes 3 nl_part 2 acme Done NonSpecific (everything acme WholeSubtree) Lost

abbrev pub to_delta : Line
to_delta = passes 4 nl_part 3 acme Done NonSpecific (everything acme WholeSubtree) Sent

abbrev pub by_gamma : Reference
by_gamma = reference acme Done NonSpecific (2 ∷ [])

abbrev pub by_delta : Reference
by_delta = reference acme Done NonSpecific (3 ∷ [])

-- the parts
abbrev pub of_alpha : Answer
of_alpha = Found (bare nl ∷ []) (now nl 0 ∷ []) whole_outcome

abbrev pub of_beta : Answer
of_beta = Found (bare acme ∷ bare desk ∷ []) (now acme 1 ∷ []) whole_outcome

abbrev pub of_delta : Answer
of_delta = Found (bare shop ∷ bare ada ∷ []) (now shop 3 ∷ []) whole_outcome

abbrev pub below_acme : Answer
below_acme =
    Found (bare acme ∷ bare desk ∷ bare shop ∷ bare ada ∷ []) (now acme 1 ∷ now shop 3 ∷ [])
    (left_out (in_vain NonSpecific acme Done (2 ∷ []) ∷ []))

abbrev pub at_nl : Answer
at_nl =
    Found (bare nl ∷ bare acme ∷ bare desk ∷ bare shop ∷ bare ada ∷ []) (now nl 0 ∷ now acme 1 ∷ now shop 3 ∷ [])
    (left_out (in_vain NonSpecific acme Done (2 ∷ []) ∷ []))

-- Delta has its own context, and needs nothing
pub delta_serves : Does scene most (Serves (hand_of to_delta) (Answered of_delta)) nl_journal nl_journal
delta_serves =
    asks_parts of_delta (Whole of_delta)
    (record { unlooped = refl; short = refl; fresh = refl; unrefused = refl; fit = refl }) refl refl refl no_part

-- Beta has Acme, and asks Gamma in vain and Delta
pub beta_serves : Does scene most (Serves (hand_of nl_part) (Answered below_acme))
    (journal (nl_at_alpha ∷ nl_part ∷ [])) nl_journal
beta_serves =
    asks_parts of_beta (Whole below_acme)
    (record { unlooped = refl; short = refl; fresh = refl; unrefused = refl; fit = refl }) refl refl refl
    (part_answered by_delta of_delta
    (part_unheard by_gamma no_part (unheard (in_vain_too 2 none_yet (lost 2 refl refl refl))))
    (heard [] [] 3 (Answered of_delta) refl none_yet
    (sends 3 (Answered of_delta) (Answered of_delta) refl refl refl delta_serves (final (Answered of_delta) refl))))

-- Alpha has the base, and asks Beta
pub nl_served : IsRequest scene most nl_journal (Answered at_nl)
nl_served =
    answers (Answered at_nl) refl
    (asks_parts of_alpha (Whole at_nl)
    (record { unlooped = refl; short = refl; fresh = refl; unrefused = refl; fit = refl }) refl refl refl
    (part_answered acme_reference below_acme no_part
    (heard [] (4 ∷ []) 1 (Answered below_acme) refl none_yet
    (sends 1 (Answered below_acme) (Answered below_acme) refl refl refl beta_serves (final (Answered below_acme) refl)))))

-- Gamma has the new name: it answers the probe with its entry, and nothing is added
abbrev pub probe_of_gamma : Line
probe_of_gamma = passes 2 add_at_beta 2 new_lab (Next 3) NonSpecific (probe_request new_lab) Sent

abbrev pub new_lab_probe : Reference
new_lab_probe = reference new_lab (Next 3) NonSpecific (2 ∷ 3 ∷ [])

pub lab_served : IsRequest (scene_at (point base_world []) 1 add_lab) (budget (point base_world [])) add_journal
    (Failed (UpdateProblem entry_already_exists))
lab_served =
    answers _ refl
    (updates _ _ (record { unlooped = refl; short = refl; fresh = refl; unrefused = refl; fit = refl }) refl refl
    (taken _ new_lab_probe 2 [] (3 ∷ []) [] _ refl refl refl no_probe
    (sends 2 _ _ refl refl refl
    (reads _ (record { unlooped = refl; short = refl; fresh = refl; unrefused = refl; fit = refl }) refl refl refl)
    (final _ refl))))

-- ---- nothing else is answered

false_true : false ≡ true → ⊥
false_true e = cc

none_some : {X : Type 0} (x : X) → None ≡ Some x → ⊥
none_some x e = cc

no_more : (xs : List Reference) (r : Reference) (ys : List Reference) → xs ++ r ∷ ys ≡ [] → ⊥
no_more [] r ys e = cc
no_more (x ∷ xs) r ys e = cc

-- where no reference is asked the answer stays
gathers_none : (s : Scene) (n : ℕ) (from : Option ℕ) (o : Hand) (rs : List Reference) (a : Answer) (whole : Gathered)
    (i j : Journal) → Does s n (Gathers from o rs a whole) i j → rs ≡ [] → whole ≡ Whole a
gathers_none s n from o _ a _ _ _ no_part e = refl
gathers_none s n from o _ a _ _ _ (part_unheard {rs = rs} r d u) e = absurd (no_more rs r [] e)
gathers_none s n from o _ a _ _ _ (part_unavailable {rs = rs} r x d u) e = absurd (no_more rs r [] e)
gathers_none s n from o _ a _ _ _ (part_answered {rs = rs} r c d u) e = absurd (no_more rs r [] e)
gathers_none s n from o _ a _ _ _ (part_breaks before after r x f d u) e = absurd (no_more before r after e)

abbrev is_below : finding.Found → Bool
is_below finding.Below = true
is_below other = false

answer_inside : (a b : Answer) → Answered a ≡ Answered b → a ≡ b
answer_inside a b e = cc

other : (k : Hand) (i : Journal) (f : finding.Found) → found_at scene i k ≡ f → k ≡ hand_of to_delta → i ≡ nl_journal
    → is_below f ≡ false → ⊥
other k i f e q w off =
    let below : is_below (found_at scene i k) ≡ true = ap (λ (z : Journal). is_below (found_at scene z k)) w
    ∙ ap (λ (z : Hand). is_below (found_at scene nl_journal z)) q in
    false_true (sym off ∙ sym (ap is_below e) ∙ below)

-- Delta answers its own part, from its own context
delta_answers : (k : Hand) (i j : Journal) (reply : Reply) → Does scene most (Serves k reply) i j → k ≡ hand_of to_delta
    → i ≡ nl_journal → reply ≡ Answered of_delta
delta_answers k _ _ _ (loops e) q w = absurd (false_true (sym (ap (λ (y : Hand). is_looped y) q) ∙ e))
delta_answers k _ _ _ (is_long e f) q w = absurd (false_true (sym (ap (λ (y : Hand). is_too_long y) q) ∙ f))
delta_answers k i _ _ (done_before e f g) q w =
    absurd (false_true (sym (ap (λ (y : Hand). is_done_here scene y i) q) ∙ g))
delta_answers k _ _ _ (refused x e f g h) q w =
    absurd (none_some x (sym (ap (λ (y : Hand). fault_of y.message.request.body) q) ∙ h))
delta_answers k _ _ _ (unfit e f g h u) q w = absurd (false_true (sym u ∙ ap (λ (y : Hand). fits y.message) q))
delta_answers k i _ _ (stuck a e) q w = absurd (other k i finding.Stuck e q w refl)
delta_answers k i _ _ (nowhere n a e) q w = absurd (other k i (finding.Nowhere n) e q w refl)
delta_answers k i _ _ (refers r a e f) q w = absurd (other k i (finding.Onward r) e q w refl)
delta_answers k i _ _ (goes r h a e f g d) q w = absurd (other k i (finding.Onward r) e q w refl)
delta_answers k i _ _ (casts r y a e f g d) q w = absurd (other k i (finding.Onward r) e q w refl)
delta_answers k i _ _ (reads c a e f g) q w = absurd (other k i (finding.Here c) e q w refl)
delta_answers k i _ _ (reads_copy c a e f) q w = absurd (other k i (finding.CopyHere c) e q w refl)
delta_answers k _ _ _ (gives_parts y a e f g) q w = absurd (false_true (sym (ap (λ (z : Hand). is_idle scene z) q) ∙ f))
delta_answers k i j _ (asks_parts y whole a e f g d) q w =
    let part : of_delta ≡ y =
    answer_inside of_delta y (sym (ap (λ (z : Hand). local_part (holds_now scene nl_journal z) z.message) q)
    ∙ sym (ap (λ (z : Journal). local_part (holds_now scene z k) k.message) w) ∙ g) in
    let none : parts_refs scene i k ≡ [] = ap (λ (z : Journal). parts_refs scene z k) w
    ∙ ap (parts_refs scene nl_journal) q in
    let only : whole ≡ Whole y =
    gathers_none scene most (Some k.receiver) k (parts_refs scene i k) y whole i j d none in
    ap (gathered_reply k) (only ∙ ap Whole (sym part)) ∙ ap (λ (z : Hand). gathered_reply z (Whole of_delta)) q
delta_answers k i _ _ (updates c y a e f d) q w = absurd (other k i (finding.Here c) e q w refl)

abbrev agents_of : List Source → ℕ
agents_of [] = 0
agents_of (x ∷ xs) = x.agent

abbrev source_of : Reply → ℕ
source_of (Answered (Found infos sources o)) = agents_of sources
source_of other = 0

-- so a reply that names another agent as the source is refused
pub wrong_source : (j : Journal)
    → Does scene most (Serves (hand_of to_delta)
    (Answered (Found (bare shop ∷ bare ada ∷ []) (now shop 2 ∷ []) whole_outcome))) nl_journal j → ⊥
wrong_source j d =
    let e : 2 ≡ 3 = ap (λ (y : Reply). source_of y) (delta_answers (hand_of to_delta) nl_journal j _ d refl refl) in
    omega (arith, e)
