-- One message, case by case: none is left; it is lost; its reply is lost; or it is heard, and what it leaves is followed.
-- What is kept by the serving of the message is kept by sending it, since its line is one deeper and is itself served.
use Rattle.std.proofs.Common.{◌≡◌, ℕ, ◌+◌, ◌-◌, ◌<◌, nat_le, nat_lt, Bool, true, false, not, ◌&&◌, ◌||◌, ◌==◌, ◌⊎◌, if◌then◌else◌, inl, inr, List, [], ◌∷◌, ◌++◌, length, refl, sym, ap, subst, ◌∙◌, arith, Option, Some, None}
use Rattle.std.specs.Prelude.{IsTrue}
use Rattle.x5_model.specs.Words.{some_and, first_of}
use Rattle.x5_model.specs.Members.{In, here}
use Rattle.x5_model.specs.Values.{key_of}
use Rattle.x5_model.specs.References.{Progress, Start, Next, Done, Reference, Chained}
use Rattle.x5_model.proofs.KeyLaws.{key_decides}
use Rattle.x5_model.proofs.Decide.{nat_same_decides, less_decides}
use Rattle.std.proofs.lemmas.Bool.Decides.{leb_tells}
use Rattle.x5_model.proofs.Lists.{and_true, either_true, or_left, or_right, true_or_false, in_first, in_left, in_right, in_either, all_in, of_all}
use Rattle.x5_model_run.specs.Network.{arrives, is_sent, is_unheard}
use Rattle.x5_model_run.specs.Journal.{Line, Journal, depth, same_sender, same_progress, settled, siblings, opened_by, leads_up}
use Rattle.x5_model_run.specs.History.{Point}
use Rattle.x5_model_run.specs.Chain.{Scene, IsCarried, asks_by, is_asked, is_passed, is_in_vain}
use Rattle.x5_model_run.specs.Accepting.{carries_update, accepting, is_done_before}
use Rattle.x5_model_run.specs.Thorough.{is_served, is_taken, taken_needs, is_sent_by, sends_itself, sender_follows}
use Rattle.x5_model_run.proofs.Carrying.{is_carried}
use Rattle.x5_model_run.proofs.Growing.{all_grow}
use Rattle.x5_model_run.proofs.Journals.{settled_above, siblings_under}
use Rattle.x5_model_serve.specs.Serving.{Hand, hand, line_for, carried_for, next_line, with_line, is_spent}
use Rattle.x5_model_serve.specs.Claims.{AtHand, MayTake, AskedSoFar, OnlyBy, depth_at, last_number, is_settled_line, is_finished, is_served_itself, takes_itself}
use Rattle.x5_model_verdicts.proofs.Below.{same_number}
use Rattle.x5_model_right.specs.Kept.{Ground, KeepsAll, Rests, asks_update, is_sent_to}
use Rattle.x5_model_right.specs.Journeys.{NeededAgents}
use Rattle.x5_model_lasting.proofs.Composes.{grows_both}
use Rattle.x5_model_lasting.proofs.Finishing.{is_at_most}
use Rattle.x5_model_right.proofs.Kept.{some_stays, sent_to_stays, passed_stays}
use Rattle.x5_model_right.proofs.Adding.{no_carrier, query_asks, deeper, listed, accepting_same}

-- ---- tests of one line

pub progress_itself : (x : Progress) → same_progress x x ≡ true
progress_itself Start = refl
progress_itself (Next n) = (nat_same_decides n n).1 refl
progress_itself Done = refl

pub sender_itself : (x : Option ℕ) → same_sender x x ≡ true
sender_itself None = refl
sender_itself (Some n) = (nat_same_decides n n).1 refl

pub number_itself : (n : ℕ) → (n == n) ≡ true
number_itself n = (nat_same_decides n n).1 refl

-- the way up from where the line at hand is the last that isn't deeper
pub leads_at : (ends passes : Line → Bool) (d : ℕ) (lines : List Line) (o : Line) → first_of (settled d lines) ≡ Some o → ends o ≡ true → leads_up ends passes d lines ≡ true
leads_at ends passes d [] o e f = cc
leads_at ends passes d (l ∷ before) o e f = by (nat_lt d (depth l)) (leads_at ends passes d before o) e
  where
    by : (b : Bool) → (first_of (settled d before) ≡ Some o → ends o ≡ true → leads_up ends passes d before ≡ true) → first_of (if b then settled d before else (l ∷ before)) ≡ Some o
        → (if b then leads_up ends passes d before else ends l || (passes l && leads_up ends passes (depth l - 1) before)) ≡ true
    by true rest q = rest q f
    by false rest q = (let same : l ≡ o = cc in or_left (ends l) _ (ap ends same ∙ f))

-- a line whose sender doesn't follow is served where its agent took what it takes itself
pub served_alone : (s : Scene) (j : Journal) (e : Line) → sender_follows s e ≡ false → is_served_itself s j e ≡ true → is_served s j e ≡ true
served_alone s j e alone h =
    or_right (not (arrives e.fate)) _ (elim (either_true (is_done_before s j e) (takes_itself s j e) h) [
      | inl d ↦ or_left (is_done_before s j e) _ d
      | inr t ↦ or_right (is_done_before s j e) _ (all_grow (λ r. not (sends_itself s e r) || is_taken s j.lines e r) (is_taken s j.lines e) (λ r q. by r (sends_itself s e r) q) (taken_needs s e) t)
    ])
  where
    by : (r : Reference) (b : Bool) → (not b || (if b then is_sent_by j.lines e (Some e.receiver) r else not (sender_follows s e) || is_sent_by j.lines e e.sender r)) ≡ true
        → (if b then is_sent_by j.lines e (Some e.receiver) r else not (sender_follows s e) || is_sent_by j.lines e e.sender r) ≡ true
    by r true q = q
    by r false q = or_left (not (sender_follows s e)) _ (ap not alone)

-- ---- the line of the message

module _ (known : NeededAgents) (p : Point) (s : Scene) (most : ℕ) (g : Ground p s) (from : Option ℕ) (o : Hand) (r : Reference) (i : Journal) (before after : List ℕ) (a : ℕ)
    (at : AtHand p s o i) (may : MayTake s from o r i) (rests : Rests p s most at.line (asks_update from o r) i) (split : r.agents ≡ before ++ a ∷ after) (so_far : AskedSoFar s o r i before) where
  abbrev x : Line
  x = next_line s i from o r a

  abbrev k : Hand
  k = hand a (carried_for from o r)

  abbrev i' : Journal
  i' = with_line (next_line s i from o r a) i

  deep : depth (next_line s i from o r a) ≡ depth_at o + 1
  deep = deeper known p s most g from o r i before after a at may rests split so_far

  same_accepting : (b : ℕ) → In b i.accepted → accepting s (next_line s i from o r a ∷ i.lines) b ≡ accepting s i.lines b
  same_accepting = accepting_same known p s most g from o r i before after a at may rests split so_far

  asks_it : asks_by r a (next_line s i from o r a) ≡ true
  asks_it = and_true (a == a) _ (number_itself a) (and_true (same_progress r.progress r.progress) _ (progress_itself r.progress) ((key_decides (key_of r.target) (key_of r.target)).1 refl))

  opens_it : opened_by at.line.number i.lines (next_line s i from o r a) ≡ true
  opens_it =
      let d = deep in
      let up : depth (next_line s i from o r a) - 1 ≡ depth_at o = omega (arith, d) in
      let mine : depth at.line ≡ depth_at o = ap (λ (m : Chained). length m.trace) at.message_is in
      let level : (depth at.line + 1) ≡ depth (next_line s i from o r a) = omega (arith, d, mine) in
      let some : 0 < depth (next_line s i from o r a) = omega (arith, d) in
      and_true (nat_lt 0 (depth (next_line s i from o r a))) _ (positive (depth (next_line s i from o r a)) some)
      (ap (λ (n : ℕ). some_and (λ y. (y.number == at.line.number) && ((depth y + 1) == depth (next_line s i from o r a))) (first_of (settled n i.lines))) up
      ∙ ap (some_and (λ y. (y.number == at.line.number) && ((depth y + 1) == depth (next_line s i from o r a)))) at.at_hand
      ∙ and_true (at.line.number == at.line.number) _ (number_itself at.line.number) ((nat_same_decides (depth at.line + 1) (depth (next_line s i from o r a))).1 level))
    where
      positive : (n : ℕ) → 0 < n → nat_lt 0 n ≡ true
      positive n h = (less_decides 0 n).1 h

  sent_now : is_sent_to (next_line s i from o r a ∷ i.lines) at.line.number from r a ≡ true
  sent_now = or_left _ _ (and_true (asks_by r a (next_line s i from o r a)) _ asks_it (and_true (same_sender from from) _ (sender_itself from) opens_it))

  -- in a later journal, which keeps what stood when the message had come
  module _ (j : Journal) (kept : KeepsAll p s most (hand a (carried_for from o r)) (asks_update from o r) (with_line (next_line s i from o r a) i) j) where
    pub stands : In (next_line s i from o r a) j.lines
    stands = subst (λ (xs : List Line). In (next_line s i from o r a) xs) (sym kept.keeps.grows.1) (in_right (next_line s i from o r a) kept.keeps.grows.0 (next_line s i from o r a ∷ i.lines) here)

    pub sent_there : IsTrue (is_sent_to j.lines at.line.number from r a)
    sent_there = subst (λ (xs : List Line). is_sent_to xs at.line.number from r a ≡ true) (sym kept.keeps.grows.1) (sent_to_stays kept.keeps.grows.0 (next_line s i from o r a ∷ i.lines) at.line.number from r a sent_now)

    pub vain_there : is_unheard (next_line s i from o r a).fate ≡ true → is_in_vain s j.lines at.line r a ≡ true
    vain_there u =
        let now : is_asked is_unheard (next_line s i from o r a ∷ i.lines) at.line.number r a ≡ true = or_left _ _ (and_true (is_unheard (next_line s i from o r a).fate) _ u (and_true (asks_by r a (next_line s i from o r a)) _ asks_it opens_it)) in
        subst (λ (xs : List Line). is_in_vain s xs at.line r a ≡ true) (sym kept.keeps.grows.1)
        (or_left _ _ (some_stays (λ l earlier. is_unheard l.fate && (asks_by r a l && opened_by at.line.number earlier l)) kept.keeps.grows.0 (next_line s i from o r a ∷ i.lines) now))

    pub heard_there : is_sent (next_line s i from o r a).fate ≡ true → is_asked is_sent j.lines at.line.number r a ≡ true
    heard_there u =
        let now : is_asked is_sent (next_line s i from o r a ∷ i.lines) at.line.number r a ≡ true = or_left _ _ (and_true (is_sent (next_line s i from o r a).fate) _ u (and_true (asks_by r a (next_line s i from o r a)) _ asks_it opens_it)) in
        subst (λ (xs : List Line). is_asked is_sent xs at.line.number r a ≡ true) (sym kept.keeps.grows.1)
        (some_stays (λ l earlier. is_sent l.fate && (asks_by r a l && opened_by at.line.number earlier l)) kept.keeps.grows.0 (next_line s i from o r a ∷ i.lines) now)

    settled_same : settled (depth_at o) j.lines ≡ settled (depth_at o) i.lines
    settled_same = settled_above (depth_at o) (next_line s i from o r a) i.lines j.lines (let d = deep in omega (arith, d)) kept.keeps.settled_is

    sibling : siblings (depth_at o) j.lines ≡ next_line s i from o r a ∷ siblings (depth_at o) i.lines
    sibling = siblings_under (depth_at o) (next_line s i from o r a) i.lines j.lines deep kept.keeps.settled_is

    pub only_it : OnlyBy o (r ∷ []) i j
    only_it e m = elim (in_first e (next_line s i from o r a) (siblings (depth_at o) i.lines) (subst (λ (xs : List Line). In e xs) sibling m)) [
      | inr old ↦ inl old
      | inl same ↦ inr (
        r,
        here,
        subst (λ (y : Line). In y.receiver r.agents) (sym same) (listed known p s most g from o r i before after a at may rests split so_far),
        subst (λ (y : Line). IsCarried y.sender (line_for o) r y.message) (sym same) (is_carried from (line_for o) r),
      )
    ]

    opener_is : (e : Line) → first_of (settled (depth_at o) j.lines) ≡ Some e → e ≡ at.line
    opener_is e f = (let q : Some e ≡ Some at.line = sym f ∙ ap first_of settled_same ∙ at.at_hand in cc)

    pub next_so_far : is_passed s j.lines at.line r a ≡ true → AskedSoFar s o r j (before ++ a ∷ [])
    next_so_far h = record {
      passed = λ e f b m. subst (λ (y : Line). is_passed s j.lines y r b ≡ true) (sym (opener_is e f)) (elim (in_either b before (a ∷ []) m) [
        | inl old ↦ subst (λ (xs : List Line). is_passed s xs at.line r b ≡ true) (sym kept.keeps.grows.1)
            (passed_stays s kept.keeps.grows.0 (next_line s i from o r a ∷ i.lines) at.line r b (passed_stays s (next_line s i from o r a ∷ []) i.lines at.line r b (so_far.passed at.line at.at_hand b old)))
        | inr new ↦ elim (in_first b a [] new) [ inl same ↦ subst (λ (n : ℕ). is_passed s j.lines at.line r n ≡ true) (sym same) h | inr none ↦ elim none [ ] ]
      ]);
      only = λ l m agent carried. elim (in_first l (next_line s i from o r a) (siblings (depth_at o) i.lines) (subst (λ (xs : List Line). In l xs) sibling m)) [
        | inl same ↦ in_right l.receiver before (a ∷ []) (subst (λ (y : Line). In y.receiver (a ∷ [])) (sym same) here)
        | inr old ↦ in_left l.receiver before (a ∷ []) (so_far.only l old agent carried)
      ];
    }

    -- what is kept by all of it, where the line itself is served and settled
    module _ (own : is_spent most j ≡ true ⊎ ((is_served s j (next_line s i from o r a) ≡ true) × (is_settled_line p s j (next_line s i from o r a) ≡ true))) where
      fine : Line → Bool
      fine e = is_served s j e && is_settled_line p s j e

      finished : is_finished p s j (last_number s (with_line (next_line s i from o r a) i)) ≡ true → (is_served s j (next_line s i from o r a) ≡ true) × (is_settled_line p s j (next_line s i from o r a) ≡ true) → is_finished p s j (last_number s i) ≡ true
      finished f mine = all_in (λ e. nat_le e.number (last_number s i) || (is_served s j e && is_settled_line p s j e)) j.lines (λ e m.
          elim (true_or_false (nat_le e.number (last_number s i))) [
            | inl low ↦ or_left _ _ low
            | inr high ↦ or_right (nat_le e.number (last_number s i)) _ (elim (either_true (nat_le e.number (last_number s (with_line (next_line s i from o r a) i))) _ (of_all (λ y. nat_le y.number (last_number s (with_line (next_line s i from o r a) i)) || (is_served s j y && is_settled_line p s j y)) e j.lines f m)) [
              | inr y ↦ y
              | inl y ↦
                  let up = is_at_most e.number (last_number s (with_line (next_line s i from o r a) i)) y in
                  let over : last_number s i < e.number = above e.number (last_number s i) high in
                  let same : e ≡ next_line s i from o r a = same_number s j.lines kept.keeps.licensed e (next_line s i from o r a) m stands (omega (arith, up, over)) in
                  subst (λ (l : Line). (is_served s j l && is_settled_line p s j l) ≡ true) (sym same) (and_true (is_served s j (next_line s i from o r a)) _ mine.0 mine.1)
            ])
          ])
        where
          above : (n m : ℕ) → nat_le n m ≡ false → m < n
          above n m h = elim (leb_tells n m) [ inl t ↦ (let z = t.0 in cc) | inr f ↦ f.1 ]

      pub sent_keeps : KeepsAll p s most o (asks_update from o r) i j
      sent_keeps = record {
        keeps = record {
          licensed = kept.keeps.licensed;
          settled_is = settled_same;
          grows = grows_both i (with_line (next_line s i from o r a) i) j (next_line s i from o r a ∷ [], refl) kept.keeps.grows;
          only_more = kept.keeps.only_more;
          same_line = λ b m. kept.keeps.same_line b m ∙ same_accepting b m;
          accepted = kept.keeps.accepted;
          finished = by kept.keeps.finished own;
          reads = λ e. kept.keeps.reads (query_asks from o r e);
        };
        since = λ b m. elim (kept.since b m) [ inl y ↦ inl y | inr y ↦ (let n = y.2 in inr (y.0, y.1, omega (arith, n))) ];
        at_once = kept.at_once;
        reads = λ e. record {
          accepted_same = (kept.reads e).accepted_same;
          lines = λ l m. elim ((kept.reads e).lines l m) [
            | inr y ↦ inr y
            | inl y ↦ elim (in_first l (next_line s i from o r a) i.lines y) [
              | inr old ↦ inl old
              | inl same ↦ inr (subst (λ (z : Line). carries_update s z ≡ false) (sym same) (no_carrier s (next_line s i from o r a) e))
            ]
          ];
        };
      }
        where
          by : is_spent most j ≡ true ⊎ (is_finished p s j (last_number s (with_line (next_line s i from o r a) i)) ≡ true)
              → is_spent most j ≡ true ⊎ ((is_served s j (next_line s i from o r a) ≡ true) × (is_settled_line p s j (next_line s i from o r a) ≡ true))
              → is_spent most j ≡ true ⊎ (is_finished p s j (last_number s i) ≡ true)
          by (inl e) mine = inl e
          by (inr f) (inl e) = inl e
          by (inr f) (inr mine) = inr (finished f mine)
