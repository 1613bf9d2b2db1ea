-- What is accepted is right, by one induction over all that is done: an update that is passed on stays the user's;
-- while probes are sent nothing is accepted; and an agent that is cleared by its answer holds nothing as far.
use Rattle.std.proofs.Common.{◌≡◌, ℕ, ◌==◌, true, ◌&&◌, inl, inr, List, [], ◌∷◌, ◌++◌, refl, sym, ap}
use Rattle.std.proofs.Common.{subst, ◌∙◌}
use Rattle.x5_model.specs.Members.{In}
use Rattle.x5_model.specs.References.{Reference}
use Rattle.x5_model.specs.Answers.{Reply}
use Rattle.x5_model.proofs.Decide.{nat_same_decides}
use Rattle.x5_model.proofs.Lists.{both_true, and_true, or_left, or_right, in_left, in_right, in_first}
use Rattle.x5_model.proofs.Lists.{in_either}
use Rattle.x5_model_run.specs.Network.{Fate, arrives}
use Rattle.x5_model_run.specs.Journal.{Line, Journal, same_name, is_reached}
use Rattle.x5_model_run.specs.Needs.{target_of}
use Rattle.x5_model_run.specs.Placed.{fits}
use Rattle.x5_model_run.specs.History.{Point, holdings_at}
use Rattle.x5_model_run.specs.Chain.{Scene, scene_with}
use Rattle.x5_model_updates.specs.Standing.{StandsWhole}
use Rattle.x5_model_serve.specs.Framing.{line_at}
use Rattle.x5_model_serve.specs.Serving.{Hand, holds_now, next_line, user_line, nothing_yet, with_line, IsRequest}
use Rattle.x5_model_serve.specs.Serving.{not_heard, not_told, answers, Act, Serves, Follows, Sends, Tries, Takes}
use Rattle.x5_model_serve.specs.Serving.{Spreads, Casts, Gathers, Probes, Updates, Does, loops, is_long, done_before}
use Rattle.x5_model_serve.specs.Serving.{refused, unfit, stuck, nowhere, refers, goes, casts, reads, reads_copy}
use Rattle.x5_model_serve.specs.Serving.{gives_parts, asks_parts, updates, not_done, does, probes_all, misses, taken}
use Rattle.x5_model_serve.specs.Serving.{breaks, no_probe, clear, unsure, silent, holds_back, spent, lost, dropped, sends, final}
use Rattle.x5_model_serve.specs.Serving.{referral, wide_referral, unexplored, none_yet, in_vain_too, heard, unheard}
use Rattle.x5_model_serve.specs.Serving.{none_asked, unable_too, silent_too, answered, nobody_has, some_silent, no_part}
use Rattle.x5_model_serve.specs.Serving.{part_unheard, part_unavailable, part_answered, part_breaks}
use Rattle.x5_model_heard.specs.Kept.{IsOfUser}
use Rattle.x5_model_heard.proofs.Fresh.{updates_are_carried}
use Rattle.x5_model_heard.proofs.Still.{probes_accept_none}
use Rattle.x5_model_bounds.specs.Unable.{IsShort}
use Rattle.x5_model_bounds.proofs.Able.{replies_able}
use Rattle.x5_model_bounds.proofs.Unables.{unable_sends_nothing}
use Rattle.x5_model_verdicts.proofs.Lines.{lines_grow}
use Rattle.x5_model_handed.specs.Handed.{AnyIsRight}
use Rattle.x5_model_handed.proofs.Master.{Fit, Good, AtUpdate, line_good, alone, probed}

-- what an act begins with: a line that brought the message that is served, and once a message is looked at, a target
-- that fits
abbrev May : Scene → Act → Journal → Type 0
May s (Serves k reply) i = (is_reached i.lines k.receiver ≡ true) × (fits k.message ≡ true → Fit s)
May s (Follows from k reply last) i = Fit s
May s (Sends from o r a h) i = Fit s
May s (Tries from o r agents) i = Fit s
May s (Takes from o r h) i = Fit s
May s (Spreads from o r agents noted) i = Fit s
May s (Casts from o r reply) i = Fit s
May s (Gathers from o rs a whole) i = Fit s
May s (Probes k r agents noted) i = Fit s
May s (Updates k reply) i = AtUpdate s k i × Fit s

-- and what it tells: agents that a probe was sent to, and that aren't noted, hold nothing as far
abbrev Clears : Scene → Act → Type 0
Clears s (Serves k reply) = Unit {0}
Clears s (Follows from k reply last) = Unit {0}
Clears s (Sends from o r a h) = Unit {0}
Clears s (Tries from o r agents) = Unit {0}
Clears s (Takes from o r h) = Unit {0}
Clears s (Spreads from o r agents noted) = Unit {0}
Clears s (Casts from o r reply) = Unit {0}
Clears s (Gathers from o rs a whole) = Unit {0}
Clears s (Probes k r agents noted) = (a : ℕ) → In a agents → (In a noted → ⊥) → IsShort s a r.target r.progress
Clears s (Updates k reply) = Unit {0}

-- ---- lines

reached_more : (new lines : List Line) (a : ℕ) → is_reached lines a ≡ true → is_reached (new ++ lines) a ≡ true
reached_more [] lines a e = e
reached_more (l ∷ new) lines a e = or_right ((l.receiver == a) && arrives l.fate) _ (reached_more new lines a e)

reached_now : (l : Line) (j : Journal) (f : Fate) → l.fate ≡ f → arrives f ≡ true
    → is_reached (with_line l j).lines l.receiver ≡ true
reached_now l j f e a =
    or_left _ (is_reached j.lines l.receiver)
    (and_true (l.receiver == l.receiver) _ ((nat_same_decides l.receiver l.receiver).1 refl) (ap arrives e ∙ a))

-- ---- whatever is done

module _ (p : Point) (s : Scene) (most : ℕ) (whole : StandsWhole p) (held : s.holdings ≡ holdings_at p) where
  probes_done : {k : Hand} {i j : Journal} {r : Reference} {agents noted : List ℕ}
      → Does s most (Probes k r agents noted) i j
      → is_reached i.lines k.receiver ≡ true → is_reached j.lines k.receiver ≡ true
  probes_done {k} {i} {j} {r} {agents} {noted} d e =
      let g = lines_grow s most (Probes k r agents noted) i j d in
      subst (λ (xs : List Line). is_reached xs k.receiver ≡ true) (sym g.1) (reached_more g.0 i.lines k.receiver e)

  safe : (x : Act) (i j : Journal) → Does s most x i j → IsOfUser s (line_at x).message → May s x i → Good p s i
      → Good p s j × Clears s x
  safe _ _ _ (loops e) of may good = (good, tt)
  safe _ _ _ (is_long e f) of may good = (good, tt)
  safe _ _ _ (done_before e f g) of may good = (good, tt)
  safe _ _ _ (refused x e f g h) of may good = (good, tt)
  safe _ _ _ (unfit e f g h i) of may good = (good, tt)
  safe _ _ _ (stuck a e) of may good = (good, tt)
  safe _ _ _ (nowhere n a e) of may good = (good, tt)
  safe _ _ _ (refers r a e f) of may good = (good, tt)
  safe _ _ _ (goes r h a e f g d) of may good = ((safe _ _ _ d of (may.1 a.fit) good).0, tt)
  safe _ _ _ (casts r y a e f g d) of may good = ((safe _ _ _ d of (may.1 a.fit) good).0, tt)
  safe _ _ _ (reads c a e f g) of may good = (good, tt)
  safe _ _ _ (reads_copy c a e f) of may good = (good, tt)
  safe _ _ _ (gives_parts y a e f g) of may good = (good, tt)
  safe _ _ _ (asks_parts y w a e f g d) of may good = ((safe _ _ _ d of (may.1 a.fit) good).0, tt)
  safe _ _ _ (updates {k} {i} c y a e f d) of may good =
      let at : AtUpdate s k i = record { reached = may.0; context = c; arrives = a; found = e; update = f } in
      ((safe _ _ _ d of (at, may.1 a.fit) good).0, tt)
  safe _ _ _ (not_done x e) of may good = (good, tt)
  safe _ _ _ (does {k} {j} mine e f) of may good = (alone p s k j whole held may.1 of may.0 good mine e f, tt)
  safe _ _ _ (probes_all {k} {i} {j} mine r e f d) of may good =
      let cleared = (safe _ _ _ d of may.1 good).1 in (
        probed p s k i whole held may.1 of may.0 good mine e r f j
            (probes_accept_none s most k r r.agents [] (holds_now s i k) i j f d) (probes_done d may.0.reached)
            (λ a m. cleared a m (λ n. elim n [ ])),
        tt,
      )
  safe _ _ _ (misses mine r a noted e f d) of may good = ((safe _ _ _ d of may.1 good).0, tt)
  safe _ _ _ (taken mine r a b c n y e f g d u) of may good =
      ((safe _ _ _ u of may.1 (safe _ _ _ d of may.1 good).0).0, tt)
  safe _ _ _ (breaks mine r a b c n y e f g x q d u) of may good =
      ((safe _ _ _ u of may.1 (safe _ _ _ d of may.1 good).0).0, tt)
  safe _ _ _ no_probe of may good = (good, λ a m n. elim m [ ])
  safe _ _ _ (clear {k} {r} {i} {j} {l} {before} {noted} a y e d u) of may good =
      let first = safe _ _ _ d of may good in
      let last = unable_sends_nothing replies_able s most _ _ _ u e in (
        (safe _ _ _ u of may first.0).0,
        λ b m n. elim (in_either b before (a ∷ []) m) [
          | inl old ↦ first.1 b old n
          | inr new ↦ elim (in_first b a [] new) [
            | inl same ↦ subst (λ (c : ℕ). IsShort s c r.target r.progress) (sym same) last.3
            | inr none ↦ elim none [ ]
          ]
        ],
      )
  safe _ _ _ (unsure {k} {r} {i} {j} {l} {before} {noted} a y e d u) of may good =
      let first = safe _ _ _ d of may good in (
        (safe _ _ _ u of may first.0).0,
        λ b m n. elim (in_either b before (a ∷ []) m) [
          | inl old ↦ first.1 b old (λ w. n (in_left b noted (a ∷ []) w))
          | inr new ↦ absurd (n (in_right b noted (a ∷ []) new))
        ],
      )
  safe _ _ _ (silent {k} {r} {i} {j} {l} {before} {noted} a d u) of may good =
      let first = safe _ _ _ d of may good in (
        (safe _ _ _ u of may first.0).0,
        λ b m n. elim (in_either b before (a ∷ []) m) [
          | inl old ↦ first.1 b old (λ w. n (in_left b noted (a ∷ []) w))
          | inr new ↦ absurd (n (in_right b noted (a ∷ []) new))
        ],
      )
  safe _ _ _ (holds_back a e) of may good = (good, tt)
  safe _ _ _ (spent a hb e) of may good = (good, tt)
  safe _ _ _ (lost {from} {o} {r} {j} a hb e f) of may good = (line_good p s (next_line s j from o r a) j good, tt)
  safe _ _ _ (dropped {from} {o} {r} {i} {j} a y hb e f d) of may good =
      let l = next_line s i from o r a in (
        (safe _ _ _ d (updates_are_carried s from o r of) (reached_now l i _ f refl, λ q. may)
            (line_good p s l i good)).0,
        tt,
      )
  safe _ _ _ (sends {from} {o} {r} {i} {j} {l} a y z hb e f d u) of may good =
      let line = next_line s i from o r a in
      let carried = updates_are_carried s from o r of in
      let served = safe _ _ _ d carried (reached_now line i _ f refl, λ q. may) (line_good p s line i good) in
      ((safe _ _ _ u carried may served.0).0, tt)
  safe _ _ _ (final y e) of may good = (good, tt)
  safe _ _ _ (referral r h e d) of may good = ((safe _ _ _ d of may good).0, tt)
  safe _ _ _ (wide_referral r y e d) of may good = ((safe _ _ _ d of may good).0, tt)
  safe _ _ _ (unexplored a w e d) of may good = ((safe _ _ _ d of may good).0, tt)
  safe _ _ _ none_yet of may good = (good, tt)
  safe _ _ _ (in_vain_too a d u) of may good = ((safe _ _ _ u of may (safe _ _ _ d of may good).0).0, tt)
  safe _ _ _ (heard b c a y e d u) of may good = ((safe _ _ _ u of may (safe _ _ _ d of may good).0).0, tt)
  safe _ _ _ (unheard d) of may good = ((safe _ _ _ d of may good).0, tt)
  safe _ _ _ none_asked of may good = (good, tt)
  safe _ _ _ (unable_too a y e d u) of may good = ((safe _ _ _ u of may (safe _ _ _ d of may good).0).0, tt)
  safe _ _ _ (silent_too a d u) of may good = ((safe _ _ _ u of may (safe _ _ _ d of may good).0).0, tt)
  safe _ _ _ (answered b c n a y e f d u) of may good = ((safe _ _ _ u of may (safe _ _ _ d of may good).0).0, tt)
  safe _ _ _ (nobody_has d) of may good = ((safe _ _ _ d of may good).0, tt)
  safe _ _ _ (some_silent n e d) of may good = ((safe _ _ _ d of may good).0, tt)
  safe _ _ _ no_part of may good = (good, tt)
  safe _ _ _ (part_unheard r d u) of may good = ((safe _ _ _ u of may (safe _ _ _ d of may good).0).0, tt)
  safe _ _ _ (part_unavailable r v d u) of may good = ((safe _ _ _ u of may (safe _ _ _ d of may good).0).0, tt)
  safe _ _ _ (part_answered r c d u) of may good = ((safe _ _ _ u of may (safe _ _ _ d of may good).0).0, tt)
  safe _ _ _ (part_breaks b c r x e d u) of may good = ((safe _ _ _ u of may (safe _ _ _ d of may good).0).0, tt)

  -- ---- a message of a user

  begun : Good p s (with_line (user_line s) nothing_yet)
  begun = record { one = refl; right = refl; fit = refl }

  own : IsOfUser s s.message
  own = record { update = λ u. refl; alone = λ u. refl }

  fits_first : fits s.message ≡ true → Fit s
  fits_first f = (both_true (same_name (target_of s.message.request.body) s.message.target) _ f).0

  pub request_good : (j : Journal) (reply : Reply) → IsRequest s most j reply → Good p s j
  request_good _ _ (not_heard e) = begun
  request_good _ _ (not_told reply e d) =
      (safe _ _ _ d own (reached_now (user_line s) nothing_yet _ e refl, fits_first) begun).0
  request_good _ _ (answers reply e d) =
      (safe _ _ _ d own (reached_now (user_line s) nothing_yet _ e refl, fits_first) begun).0

pub any_is_right : AnyIsRight
any_is_right p first m most j reply whole is =
    let good = request_good p (scene_with p first m) most whole refl j reply is in
    record { one = good.one; right = good.right; fit = good.fit }
