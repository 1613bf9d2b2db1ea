-- Serving a message where nothing is sent, and something was accepted before or is left: an update that its agent did
-- before is done; who can't go on is unable; who may not chain refers its sender on. And a reply with nothing left is
-- followed as it is.
use Rattle.std.proofs.Common.{◌≡◌, ℕ, nat_le, nat_lt, Bool, true, false, not, ◌&&◌, ◌||◌, ◌==◌, ◌⊎◌, if◌then◌else◌, inl, inr, List, [], ◌∷◌, ◌++◌, length, refl, sym, ap, subst, ◌∙◌, Some, None}
use Rattle.std.specs.Option.{is_some, is_none}
use Rattle.x5_model.specs.Words.{has, some_and}
use Rattle.x5_model.specs.Members.{In, here}
use Rattle.x5_model.specs.Values.{key_of}
use Rattle.x5_model.specs.Requests.{Body}
use Rattle.x5_model.specs.References.{Progress, Start, Next, Done, Reference, Chained}
use Rattle.x5_model.specs.Answers.{ServiceProblem, Failed}
use Rattle.x5_model.specs.Problems.{unable_to_proceed, invalid_reference}
use Rattle.std.proofs.lemmas.Bool.Decides.{leb_tells}
use Rattle.x5_model.specs.Statics.{fault_of}
use Rattle.x5_model.proofs.Decide.{nat_same_decides, less_decides}
use Rattle.x5_model.proofs.Lists.{both_true, and_true, either_true, or_left, or_right, true_or_false, in_left, in_right, in_either, any_in, of_has}
use Rattle.x5_model_tree.specs.Ask.{is_update}
use Rattle.x5_model_run.specs.Network.{arrives}
use Rattle.x5_model_run.specs.Journal.{Journal, operation_of, same_name, is_done, is_wide}
use Rattle.x5_model_run.specs.Holdings.{Holdings, holds_within}
use Rattle.x5_model_run.specs.Needs.{target_of, resolves, resolves_by, falls_short, is_unable, resolution_needs, part_needs, copied_needs, passing_needs, needs}
use Rattle.x5_model_run.specs.History.{Point, holdings_at}
use Rattle.x5_model_run.specs.Chain.{Scene}
use Rattle.x5_model_run.specs.Accepting.{carries_update, accepting, is_later, is_done_before}
use Rattle.x5_model_run.specs.Right as right
use Rattle.x5_model_run.specs.Right.{same_phase}
use Rattle.x5_model_replies.specs.Replies as placed
use Rattle.x5_model_run.specs.Placed.{Placed, fits, is_query_below}
use Rattle.x5_model_replies.specs.Replies.{RightReply, usual}
use Rattle.x5_model_run.specs.Thorough.{is_taken, sends_itself}
use Rattle.x5_model_serve.specs.Committed.{committed}
use Rattle.x5_model_serve.specs.Finding.{Onward, Below, Stuck, find}
use Rattle.x5_model_serve.specs.Serving.{Hand, Arrives, holds_now, found_at, is_spent, asked_by, stuck_problem}
use Rattle.x5_model_serve.specs.Claims.{AtHand, serving_of}
use Rattle.x5_model_serve.proofs.Needing.{onward_resolution}
use Rattle.x5_model_find.proofs.Goes.{resolved_moves, placed_goes_on}
use Rattle.x5_model_find.proofs.Deciding.{nothing_needed}
use Rattle.x5_model_find.proofs.Orderly.{holdings_orderly}
use Rattle.x5_model_joins.proofs.Backs.{own_back, own_answered}
use Rattle.x5_model_joins.proofs.Following.{no_update_below}
use Rattle.x5_model_verdicts.proofs.At.{each_of_update, each_off, fit_key}
use Rattle.x5_model_passing.proofs.Same.{the_way, way_phase}
use Rattle.x5_model_bounds.proofs.AsFar.{holds_as_far}
use Rattle.x5_model_right.specs.Kept.{Ground, Comes}
use Rattle.x5_model_right.specs.Journeys.{NeededAgents}
use Rattle.x5_model_right.specs.Served.{DoneBefore, IsStuck, Refers, CarriesOut}
use Rattle.x5_model_right.specs.Sent.{IsFinal}
use Rattle.x5_model_right.proofs.Kept.{member_fills, unchanged, line_there}
use Rattle.x5_model_right.proofs.Journeys.{sound, placed_here, contains_of}
use Rattle.x5_model_right.proofs.Adding.{update_no_read}
use Rattle.x5_model_right.proofs.Finding.{looked, found_same, found_is, able, fresh}
use Rattle.x5_model_right.proofs.Leaves.{with_nothing, settled_elsewhere, within_error}
use Rattle.x5_model_right.proofs.Onward.{own_settled, line_idle, line_probe, all_by}

-- ---- a reply with nothing left to be followed

pub final_right : IsFinal
final_right p s most from k j reply g last stood at m rests = record {
  keeps = unchanged p s most k (is_update k.message.request.body) j at.licensed at.accepted m.at_once;
  right = m.right;
  within = m.within;
  served = elim m.own [ inl w ↦ inl w | inr w ↦ inr (w.1 last) ];
}

-- ---- an update that its agent did before

module _ (p : Point) (s : Scene) (g : Ground p s) (k : Hand) (j : Journal) (at : AtHand p s k j) (up : is_update k.message.request.body ≡ true) where
  line_update : is_update at.line.message.request.body ≡ true
  line_update = ap (λ (m : Chained). is_update m.request.body) at.message_is ∙ up

  scene_update : is_update s.message.request.body ≡ true
  scene_update = elim (true_or_false (is_update s.message.request.body)) [
    | inl e ↦ e
    | inr e ↦ (let f = each_off s e j.lines at.licensed at.line (line_there p s k j at) in let y = line_update in absurd (let z : true ≡ false = sym y ∙ f in cc))
  ]

  pub carries_here : carries_update s at.line ≡ true
  carries_here = elim (each_of_update s scene_update (fit_key s.message g.setting.first.fit) j.lines at.licensed at.line (line_there p s k j at)) [
    | inl read ↦ (let no = update_no_read at.line.message.request.body line_update in absurd (let z : true ≡ false = sym read ∙ no in cc))
    | inr w ↦ and_true (is_update s.message.request.body) _ scene_update ((nat_same_decides (operation_of at.line.message.request.body) (operation_of s.message.request.body)).1 (ap (λ (b : Body). operation_of b) w.0))
  ]

unshort : (a b c d : Bool) → d ≡ false → (a && (b && (c && d))) ≡ false
unshort true true true d e = e
unshort true true false d e = refl
unshort true false c d e = refl
unshort false b c d e = refl

pub done_before_right : DoneBefore
done_before_right p s most k j g a b done at comes =
    let u = both_true (is_update k.message.request.body) _ done in
    let v = both_true (has ◌==◌ j.accepted k.receiver) _ u.1 in
    let member : In k.receiver j.accepted = of_has ◌==◌ nat_same_decides k.receiver j.accepted v.0 in
    let x = comes.earlier k.receiver member in
    let carries = carries_here p s g k j at u.0 in
    let again : is_done_before s j at.line ≡ true =
    any_in (λ c. some_and (is_later s c at.line) (accepting s j.lines c)) k.receiver j.accepted member
    (ap (some_and (is_later s k.receiver at.line)) x.1
    ∙ and_true (at.line.receiver == k.receiver) _ ((nat_same_decides at.line.receiver k.receiver).1 at.receiver_is)
    (and_true (nat_lt x.0.number at.line.number) _ ((less_decides x.0.number at.line.number).1 x.2) carries)) in
    record {
      keeps = unchanged p s most k (is_update k.message.request.body) j at.licensed at.accepted comes.at_once;
      right =
          usual (ap not (able_still v.1))
          (right.changed (own_answered at.line (length j.accepted) j.lines (line_there p s k j at)) u.0
          (own_back (λ l. has ◌==◌ j.accepted l.receiver && carries_update s l) at.line (length j.accepted) j.lines (line_there p s k j at)
          (and_true (has ◌==◌ j.accepted at.line.receiver) _ (ap (has ◌==◌ j.accepted) at.receiver_is ∙ v.0) carries)));
      within = λ q c m. elim m [ ];
      own = inr (
        or_left (is_done_before s j at.line) _ again,
        or_right (not _) _ (member_fills j.accepted k.receiver member),
        λ e. or_right (not (arrives at.line.fate)) _ (or_left (is_done_before s j at.line) _ again),
      );
      left = λ e. cc;
    }
  where
    able_still : resolves (holds_now s j k) k.message ≡ true → is_unable (s.holdings k.receiver) k.message ≡ false
    able_still res = unshort (nat_lt (length k.message.trace) 128) (is_none (fault_of k.message.request.body)) (is_wide k.message.kind) (falls_short (s.holdings k.receiver) (key_of k.message.target) k.message.progress) (by k.message.progress refl)
      where
        by : (y : Progress) → k.message.progress ≡ y → falls_short (s.holdings k.receiver) (key_of k.message.target) k.message.progress ≡ false
        by Start q = rw q refl
        by (Next n) q =
            let w : resolves_by (holds_now s j k) (key_of k.message.target) (Next n) ≡ true = ap (resolves_by (holds_now s j k) (key_of k.message.target)) (sym q) ∙ res in
            let v : holds_within (s.holdings k.receiver) (key_of k.message.target) n ≡ true = sym (holds_as_far s k j (key_of k.message.target) n) ∙ w in
            ap (falls_short (s.holdings k.receiver) (key_of k.message.target)) q ∙ ap not v
        by Done q = rw q refl

-- ---- who can't go on

module _ (p : Point) (s : Scene) (most : ℕ) (g : Ground p s) (k : Hand) (j : Journal) (at : AtHand p s k j) (comes : Comes p s k at.line j) (a : Arrives s k j) (e : found_at s j k ≡ Stuck) where
  not_held : (n : ℕ) → k.message.progress ≡ Next n → holds_within (s.holdings k.receiver) (key_of k.message.target) n ≡ false
  not_held n q = sym (holds_as_far s k j (key_of k.message.target) n) ∙ by (holds_within (holds_now s j k) (key_of k.message.target) n) refl
    where
      by : (b : Bool) → holds_within (holds_now s j k) (key_of k.message.target) n ≡ b → holds_within (holds_now s j k) (key_of k.message.target) n ≡ false
      by true w = absurd (resolved_moves (holds_now s j k) k.message (rw (q, w) at e))
      by false w = w

  -- a completed name is no update's, so nothing was accepted
  quiet_done : k.message.progress ≡ Done → holds_now s j k ≡ s.holdings k.receiver
  quiet_done q = elim (true_or_false (is_update k.message.request.body)) [
    | inr u ↦ ap (λ (xs : List ℕ). if has ◌==◌ xs k.receiver then committed s.message.request (s.holdings k.receiver) else s.holdings k.receiver) (comes.none u)
    | inl u ↦ elim (either_true (not (is_done k.message.progress)) _ (both_true (same_name (target_of k.message.request.body) k.message.target) _ a.fit).1) [
      | inl f ↦ (let z : false ≡ true = ap (λ (x : Progress). not (is_done x)) (sym q) ∙ f in cc)
      | inr f ↦ (let no = no_query k.message.request.body f in absurd (let z : true ≡ false = sym u ∙ no in cc))
    ]
  ]
    where
      no_query : (b : Body) → is_query_below b ≡ true → is_update b ≡ false
      no_query b f = no_update_below b f

  next_is : (n : ℕ) × (k.message.progress ≡ Next n)
  next_is = by k.message.progress refl
    where
      by : (y : Progress) → k.message.progress ≡ y → (n : ℕ) × (k.message.progress ≡ Next n)
      by Start q = absurd (resolved_moves (holds_now s j k) k.message (rw q at e))
      by (Next n) q = (n, q)
      by Done q = absurd (elim (true_or_false (is_wide k.message.kind)) [
        | inl w ↦ (let z : Below ≡ Stuck = rw (q, w) at e in cc)
        | inr w ↦ placed_goes_on p k.receiver k.message (sound p s g) (placed_here p s g k j at) w
            (ap (λ (h : Holdings). find h k.message) (sym (ap (λ (h : ℕ → Holdings). h k.receiver) g.setting.holdings)) ∙ ap (λ (h : Holdings). find h k.message) (sym (quiet_done q)) ∙ e)
      ])

  stuck_here : find (holdings_at p k.receiver) k.message ≡ Stuck
  stuck_here =
      let n = next_is in
      let far : holds_within (holdings_at p k.receiver) (key_of k.message.target) n.0 ≡ false = ap (λ (h : ℕ → Holdings). holds_within (h k.receiver) (key_of k.message.target) n.0) (sym g.setting.holdings) ∙ not_held n.0 n.1 in
      rw (n.1, far) refl

  wide_here : is_wide k.message.kind ≡ true
  wide_here = elim (true_or_false (is_wide k.message.kind)) [
    | inl w ↦ w
    | inr w ↦ absurd (placed_goes_on p k.receiver k.message (sound p s g) (placed_here p s g k j at) w stuck_here)
  ]

  unable_here : is_unable (s.holdings k.receiver) k.message ≡ true
  unable_here =
      let n = next_is in
      and_true (nat_lt (length k.message.trace) 128) _ (short_of (length k.message.trace) a.short)
      (and_true (is_none (fault_of k.message.request.body)) _ (ap is_none a.unrefused)
      (and_true (is_wide k.message.kind) _ wide_here (ap (falls_short (s.holdings k.receiver) (key_of k.message.target)) n.1 ∙ ap not (not_held n.0 n.1))))
    where
      short_of : (n : ℕ) → nat_le 128 n ≡ false → nat_lt n 128 ≡ true
      short_of n h = (less_decides n 128).1 (elim (leb_tells 128 n) [ inl t ↦ (let z = t.0 in cc) | inr f ↦ f.1 ])

  problem_is : stuck_problem k ≡ unable_to_proceed
  problem_is = by (is_wide k.message.kind) wide_here
    where
      problem : Bool → ℕ
      problem true = unable_to_proceed
      problem false = invalid_reference

      by : (b : Bool) → b ≡ true → problem b ≡ unable_to_proceed
      by true q = refl
      by false q = cc

pub stuck_right : IsStuck
stuck_right p s most k j g a e at comes =
    let n = next_is p s most g k j at comes a e in
    let going : is_done k.message.progress ≡ false = ap is_done n.1 in
    let none : needs (s.holdings k.receiver) k.message ≡ [] =
    ap (λ (h : ℕ → Holdings). needs (h k.receiver) k.message) g.setting.holdings
    ∙ nothing_needed (holdings_at p k.receiver) k.message (holdings_orderly p k.receiver (sound p s g)) (a.unrefused, a.fit) (inr (stuck_here p s most g k j at comes a e)) in
    with_nothing p s most g k j at comes (Failed (ServiceProblem (stuck_problem k) (Some (asked_by k)) None))
    (subst (λ (x : ℕ). RightReply p s (serving_of j k at.line.number) j (is_spent most j) (Failed (ServiceProblem x (Some (asked_by k)) None))) (sym (problem_is p s most g k j at comes a e)) (placed.unable (unable_here p s most g k j at comes a e)))
    (within_error p k at.line.number (length j.accepted) (ServiceProblem (stuck_problem k) (Some (asked_by k)) None) going)
    none
    (settled_elsewhere p s most g k j at comes (a.unrefused, a.fit) Stuck (stuck_here p s most g k j at comes a e) (λ c z. cc))
    refl

-- ---- who refers on

pub refers_right : NeededAgents → Refers
refers_right known p s most k j r g a e idle at comes =
    let free : Onward r ≡ Stuck → ⊥ = λ z. cc in
    let look = looked p s g k j at comes.none a (Onward r) e free in
    let found = found_same p s g k j at comes.none a (Onward r) e free in
    let there_found = found_is p s g k j at comes.none a (Onward r) e free in
    let owned : (resolution_needs (holdings_at p k.receiver) k.message ++ copied_needs (holdings_at p k.receiver) k.message) ≡ r ∷ [] = onward_resolution (holdings_at p k.receiver) k.message r there_found in
    let passing : In r (passing_needs (s.holdings k.receiver) k.message) = subst (λ (h : ℕ → Holdings). In r (passing_needs (h k.receiver) k.message)) (sym g.setting.holdings)
    (passes (holdings_at p k.receiver) look.0 (in_either r (resolution_needs (holdings_at p k.receiver) k.message) (copied_needs (holdings_at p k.receiver) k.message) (subst (λ (xs : List Reference). In r xs) (sym owned) here))) in
    let asleep : sends_itself s at.line r ≡ false = (λ q. line_probe known p s g k r j at look found q || not ((line_idle known p s g k r j at look found ∙ idle) q)) in
    record {
      keeps = unchanged p s most k (is_update k.message.request.body) j at.licensed at.accepted comes.at_once;
      right =
          usual (ap not (able p s g k j at comes.none a (Onward r) e free))
          (right.referral (record { idle = idle; heard = own_answered at.line (length j.accepted) j.lines (line_there p s k j at); needed = contains_of (passing_needs (s.holdings k.receiver) k.message) r passing })
          (phase there_found) ((nat_same_decides (length j.accepted) (length j.accepted)).1 refl));
      within = tt;
      own = inr (
        or_right (is_done_before s j at.line) _ (all_by known p s g k r j at look found (λ q. not (sends_itself s at.line q) || is_taken s j.lines at.line q) (or_left (not (sends_itself s at.line r)) _ (ap not asleep))),
        own_settled known p s g k r j at look found,
        λ z. cc,
      );
      left = λ z. ((found, look), idle, refl, fresh p s g k j at comes.none a (Onward r) e free);
    }
  where
    passes : (h : Holdings) → fault_of k.message.request.body ≡ None → In r (resolution_needs h k.message) ⊎ In r (copied_needs h k.message) → In r (passing_needs h k.message)
    passes h none i = go (is_some (fault_of k.message.request.body)) (ap is_some none)
      where
        both : In r ((resolution_needs h k.message ++ part_needs h k.message) ++ copied_needs h k.message)
        both = elim i [
          | inl y ↦ in_left r (resolution_needs h k.message ++ part_needs h k.message) (copied_needs h k.message) (in_left r (resolution_needs h k.message) (part_needs h k.message) y)
          | inr y ↦ in_right r (resolution_needs h k.message ++ part_needs h k.message) (copied_needs h k.message) y
        ]

        go : (b : Bool) → b ≡ false → In r (if b then [] else ((resolution_needs h k.message ++ part_needs h k.message) ++ copied_needs h k.message))
        go true f = cc
        go false f = both

    phase : find (holdings_at p k.receiver) k.message ≡ Onward r → same_phase (serving_of j k at.line.number) r ≡ true
    phase f = by (is_done k.message.progress) (way_phase (holdings_at p k.receiver) k.message r (the_way (holdings_at p k.receiver) k.message r f))
      where
        by : (b : Bool) → is_done r.progress ≡ b → (if b then is_done r.progress else not (is_done r.progress)) ≡ true
        by true q = q
        by false q = ap not q

-- ---- an update at its master is carried out

pub carries_out_right : CarriesOut
carries_out_right p s most k i j c reply g a e up d claim at comes = claim (record { at_hand = at; arrives = a; update = up; context = c; found = e }) comes
