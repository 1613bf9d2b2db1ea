-- Where probes weren't heard, the update is unavailable by the reference to those agents, which stand in it in its
-- order.
use Rattle.std.proofs.Common.{◌≡◌, ℕ, ◌==◌, Bool, true, false, cond, not, ◌&&◌, inl, inr, List, [], ◌∷◌, ◌++◌, length, refl, sym, ap, subst, ◌∙◌, arith, Some, if◌then◌else◌}
use Rattle.std.specs.List.{filter, Contains}
use Rattle.std.specs.Cmp.Lexicographic.{bytes_decides}
use Rattle.std.proofs.lemmas.List.{append-nil}
use Rattle.std.proofs.lemmas.List.Elements.{filter-append}
use Rattle.x5_model.specs.Words.{has, first_of, is_empty}
use Rattle.x5_model.specs.Members.{In, Once, here, there}
use Rattle.x5_model.specs.References.{Progress, Next, Reference}
use Rattle.x5_model.proofs.Lists.{and_true, or_left, or_right, true_or_false, not_true, in_first, in_left, in_right, in_either, all_in, of_filter, has_in, of_has}
use Rattle.x5_model.proofs.Decide.{nat_same_decides}
use Rattle.x5_model_run.specs.Journal.{Line, Journal, is_wide, is_done, settled}
use Rattle.x5_model_run.specs.Holdings.{Holdings}
use Rattle.x5_model_run.specs.Needs.{due_probes}
use Rattle.x5_model_run.specs.History.{Point, holdings_at}
use Rattle.x5_model_run.specs.Chain.{Scene, is_in_vain, is_cleared}
use Rattle.x5_model_run.specs.Blocked.{proceeds, lists_of, IsTried, asked}
use Rattle.x5_model_run.specs.Needs.{passing_needs, needs}
use Rattle.x5_model_run.specs.Right as right
use Rattle.x5_model_run.specs.Right.{accepts_none, same_phase}
use Rattle.x5_model_replies.specs.Replies.{RightReply, usual}
use Rattle.x5_model_run.proofs.Growing.{contains_more}
use Rattle.x5_model_updates.proofs.Probes.{Probe}
use Rattle.x5_model_serve.specs.Answering.{of_these, is_unavailable}
use Rattle.x5_model_serve.specs.Serving.{Hand, Does, Probes, holds_now, no_probe, clear, unsure, silent}
use Rattle.x5_model_serve.specs.Claims.{Setting, Keeps, NotedSoFar, serving_of, AtMaster}
use Rattle.x5_model_verdicts.specs.Verdicts.{MissedIsRight}
use Rattle.x5_model_verdicts.proofs.At.{holds_is, judge, line_in}
use Rattle.x5_model_verdicts.proofs.Refused.{able, not_done}
use Rattle.x5_model_verdicts.proofs.NewName.{probe}
use Rattle.x5_model_joins.proofs.Backs.{own_back}
use Rattle.x5_model_verdicts.proofs.Alone.{filter_same}

-- ---- the noted agents stand in the order of the reference

abbrev pub Picked : List ℕ → List ℕ → Type 0
Picked before noted = ((x : ℕ) → In x noted → In x before) × (Once before → filter (has ◌==◌ noted) before ≡ noted)

once_front : {A : Type 0} (xs ys : List A) → Once (xs ++ ys) → Once xs
once_front [] ys h = tt
once_front (x ∷ xs) ys h = ((λ i. h.0 (in_left x xs ys i)), once_front xs ys h.1)

once_end : {A : Type 0} (xs : List A) (y : A) → Once (xs ++ y ∷ []) → In y xs → ⊥
once_end [] y h i = elim i [ ]
once_end {A} (x ∷ xs) y h i =
    elim (in_first y x xs i) [
      | inl e ↦ h.0 (subst (λ (z : A). In z (xs ++ y ∷ [])) e (in_right y xs (y ∷ []) here))
      | inr j ↦ once_end xs y h.1 j
    ]

-- not a member
has_not : (xs : List ℕ) (x : ℕ) → (In x xs → ⊥) → has ◌==◌ xs x ≡ false
has_not xs x none = elim (true_or_false (has ◌==◌ xs x)) [ inl t ↦ absurd (none (of_has ◌==◌ nat_same_decides x xs t)) | inr f ↦ f ]

has_same : (xs ys : List ℕ) (x : ℕ) → (In x xs → In x ys) → (In x ys → In x xs) → has ◌==◌ xs x ≡ has ◌==◌ ys x
has_same xs ys x f g =
    elim (true_or_false (has ◌==◌ ys x)) [
      | inl t ↦ has_in ◌==◌ nat_same_decides x xs (g (of_has ◌==◌ nat_same_decides x ys t)) ∙ sym t
      | inr n ↦ has_not xs x (λ i. let t : has ◌==◌ ys x ≡ true = has_in ◌==◌ nat_same_decides x ys (f i) in cc) ∙ sym n
    ]

one_left : (test : ℕ → Bool) (a : ℕ) (b : Bool) → test a ≡ b → filter test (a ∷ []) ≡ cond b (a ∷ []) []
one_left test a b e = ap (λ (x : Bool). cond x (a ∷ []) []) e

passed : (before noted : List ℕ) (a : ℕ) → Picked before noted → Picked (before ++ a ∷ []) noted
passed before noted a w = (
  λ x i. in_left x before (a ∷ []) (w.0 x i),
  λ once.
      filter-append (has ◌==◌ noted) before (a ∷ [])
      ∙ ap (λ (xs : List ℕ). xs ++ filter (has ◌==◌ noted) (a ∷ [])) (w.1 (once_front before (a ∷ []) once))
      ∙ ap (λ (xs : List ℕ). noted ++ xs) (one_left (has ◌==◌ noted) a false (has_not noted a (λ i. once_end before a once (w.0 a i))))
      ∙ append-nil noted,
)

taken_too : (before noted : List ℕ) (a : ℕ) → Picked before noted → Picked (before ++ a ∷ []) (noted ++ a ∷ [])
taken_too before noted a w = (
  λ x i. elim (in_either x noted (a ∷ []) i) [ inl l ↦ in_left x before (a ∷ []) (w.0 x l) | inr l ↦ in_right x before (a ∷ []) l ],
  λ once.
      filter-append (has ◌==◌ (noted ++ a ∷ [])) before (a ∷ [])
      ∙ ap (λ (xs : List ℕ). xs ++ filter (has ◌==◌ (noted ++ a ∷ [])) (a ∷ []))
      (filter_same (has ◌==◌ (noted ++ a ∷ [])) (has ◌==◌ noted) before
      (λ x i. has_same (noted ++ a ∷ []) noted x
      (λ j. elim (in_either x noted (a ∷ []) j) [
        | inl l ↦ l
        | inr l ↦ elim (in_first x a [] l) [ inl e ↦ absurd (once_end before a once (subst (λ (z : ℕ). In z before) e i)) | inr n ↦ elim n [ ] ]
      ])
      (λ j. in_left x noted (a ∷ []) j))
      ∙ w.1 (once_front before (a ∷ []) once))
      ∙ ap (λ (xs : List ℕ). noted ++ xs) (one_left (has ◌==◌ (noted ++ a ∷ [])) a true (has_in ◌==◌ nat_same_decides a (noted ++ a ∷ []) (in_right a noted (a ∷ []) here))),
)

module _ (s : Scene) (most : ℕ) where
  pub picked : (k : Hand) (r : Reference) (agents noted : List ℕ) (i j : Journal) → Does s most (Probes k r agents noted) i j → Picked agents noted
  picked _ _ _ _ _ _ no_probe = ((λ x i. i), λ once. refl)
  picked _ _ _ _ _ _ (clear {before = before} {noted = noted} a y e d u) = passed before noted a (picked _ _ _ _ _ _ d)
  picked _ _ _ _ _ _ (unsure {before = before} {noted = noted} a y e d u) = taken_too before noted a (picked _ _ _ _ _ _ d)
  picked _ _ _ _ _ _ (silent {before = before} {noted = noted} a d u) = taken_too before noted a (picked _ _ _ _ _ _ d)

-- ---- the reference to these

listed_of : (r : Reference) (noted : List ℕ) → is_wide r.kind ≡ true → is_empty noted ≡ false → filter (has ◌==◌ noted) r.agents ≡ noted → lists_of (is_wide r.kind) noted r.agents ≡ true
listed_of r noted wide some e =
    ap (λ (b : Bool). lists_of b noted r.agents) wide
    ∙ and_true (not (is_empty noted)) _ (ap not some) ((bytes_decides noted (filter (has ◌==◌ noted) r.agents)).1 (sym e))

contains_of : {X : Type 0} (xs : List X) (x : X) → In x xs → Contains xs x
contains_of [] x i = elim i [ ]
contains_of (x ∷ xs) _ here = (0, omega arith, refl)
contains_of (y ∷ xs) x (there i) = contains_more xs y x (contains_of xs x i)

module _ (p : Point) (s : Scene) (most : ℕ) (k : Hand) (i j : Journal) (set : Setting p s) (at : AtMaster p s k i) (r : Reference) (due : due_probes (holds_now s i k) k.message ≡ r ∷ []) where
  is : Probe (holdings_at p k.receiver) k.message r
  is = probe p s k i set at r due

  wide : is_wide r.kind ≡ true
  wide = ap (λ (x : Reference). is_wide x.kind) is.is

  next : r.progress ≡ Next (length is.name)
  next = ap (λ (x : Reference). x.progress) is.is

  needed : due_probes (s.holdings at.at_hand.line.receiver) at.at_hand.line.message ≡ r ∷ []
  needed =
      ap (λ (o : ℕ). due_probes (s.holdings o) at.at_hand.line.message) at.at_hand.receiver_is
      ∙ ap (due_probes (s.holdings k.receiver)) at.at_hand.message_is
      ∙ ap (λ (h : ℕ → Holdings). due_probes (h k.receiver) k.message) set.holdings
      ∙ ap (λ (h : Holdings). due_probes h k.message) (sym (holds_is p s k i set at))
      ∙ due

  module _ (noted : List ℕ) (once : Once r.agents) (does : Does s most (Probes k r r.agents noted) i j) (keeps : Keeps p s most k i j) (some : is_empty noted ≡ false) (so : NotedSoFar s k r j r.agents noted) where
    there_still : In at.at_hand.line j.lines
    there_still = subst (λ (xs : List Line). In at.at_hand.line xs) (sym keeps.grows.1) (in_right at.at_hand.line keeps.grows.0 i.lines (line_in p s k i set at))

    at_hand_still : first_of (settled (length k.message.trace) j.lines) ≡ Some at.at_hand.line
    at_hand_still = ap (λ (xs : List Line). first_of xs) keeps.settled_is ∙ at.at_hand.at_hand

    pub lost : IsTried s (serving_of i k at.at_hand.line.number) j.lines (of_these noted r)
    lost = record {
      line = at.at_hand.line;
      full = r;
      stands = contains_of j.lines at.at_hand.line there_still;
      back = own_back (λ (l : Line). l.number == at.at_hand.line.number) at.at_hand.line (length i.accepted) j.lines there_still ((nat_same_decides at.at_hand.line.number at.at_hand.line.number).1 refl);
      needed = contains_of (needs (s.holdings at.at_hand.line.receiver) at.at_hand.line.message) r
          (in_right r (passing_needs (s.holdings at.at_hand.line.receiver) at.at_hand.line.message) (due_probes (s.holdings at.at_hand.line.receiver) at.at_hand.line.message)
          (subst (λ (rs : List Reference). In r rs) (sym needed) here));
      same = refl;
      listed = listed_of r noted wide some ((picked s most k r r.agents noted i j does).1 once);
      vain = all_in (is_in_vain s j.lines at.at_hand.line r) noted (λ a m. so.silent at.at_hand.line at_hand_still a m);
      cleared = or_right (not (is_wide r.kind && proceeds r.progress)) _
          (all_in (is_cleared s j.lines at.at_hand.line.number (of_these noted r)) (filter (λ a. not (has ◌==◌ noted a)) r.agents)
          (λ a m. (let w = of_filter (λ (x : ℕ). not (has ◌==◌ noted x)) a r.agents m in
          so.cleared at.at_hand.line at_hand_still a w.0 (λ l. let t : has ◌==◌ noted a ≡ true = has_in ◌==◌ nat_same_decides a noted l in let f = not_true (has ◌==◌ noted a) w.1 in cc))));
    }

    phase : same_phase (serving_of i k at.at_hand.line.number) (of_these noted r) ≡ true
    phase =
        ap (λ (b : Bool). if b then is_done r.progress else not (is_done r.progress)) (not_done (holdings_at p k.receiver) k.message (judge p s k i set at).resolving)
        ∙ ap (λ (x : Progress). not (is_done x)) next

    pub missed : (spent : Bool) → j.accepted ≡ i.accepted → RightReply p s (serving_of i k at.at_hand.line.number) j spent (is_unavailable (of_these noted r))
    missed spent stays =
        usual (ap not (able p s k i set at))
        (right.unheard (asked lost) phase (or_left (accepts_none (serving_of i k at.at_hand.line.number) j) _ ((nat_same_decides (length j.accepted) (length i.accepted)).1 (ap length stays))))

pub missed_is_right : MissedIsRight
missed_is_right p s most k i j r noted spent set at due once done keeps stays some so = missed p s most k i j set at r due noted once done keeps some so spent stays
