-- Where some agents of an NSSR weren't heard, the name is unavailable by the reference with these: they stand in it in its
-- order, and the others were heard.
use Rattle.std.proofs.Common.{◌≡◌, ℕ, ◌==◌, Bool, true, false, cond, not, ◌&&◌, inl, inr, List, [], ◌∷◌, ◌++◌, length, refl, sym, ap, subst, ◌∙◌, arith, Option}
use Rattle.std.specs.List.{filter, Contains}
use Rattle.std.specs.Cmp.Lexicographic.{bytes_decides}
use Rattle.std.proofs.lemmas.List.{append-nil}
use Rattle.std.proofs.lemmas.List.Elements.{filter-append}
use Rattle.x5_model.specs.Words.{has, first_of, is_empty}
use Rattle.x5_model.specs.Members.{In, Once, here, there}
use Rattle.x5_model.specs.References.{Reference}
use Rattle.x5_model.proofs.Lists.{and_true, or_right, true_or_false, not_true, in_first, in_left, in_right, in_either, all_in, of_filter, has_in, of_has}
use Rattle.x5_model.proofs.Decide.{nat_same_decides}
use Rattle.x5_model_run.specs.Journal.{Line, Journal, is_wide}
use Rattle.x5_model_run.specs.Holdings.{Holdings}
use Rattle.x5_model_run.specs.Needs.{needs}
use Rattle.x5_model_run.specs.History.{Point, holdings_at}
use Rattle.x5_model_run.specs.Chain.{Scene, is_in_vain, is_cleared}
use Rattle.x5_model_run.specs.Blocked.{proceeds, lists_of, IsTried, asked}
use Rattle.x5_model_run.specs.Right as right
use Rattle.x5_model_replies.specs.Replies.{usual}
use Rattle.x5_model_run.proofs.Growing.{contains_more}
use Rattle.x5_model_theory.specs.Leading.{IsSound}
use Rattle.x5_model_serve.specs.Answering.{of_these, is_unavailable}
use Rattle.x5_model_serve.specs.Serving.{Hand, hand_of, Does, Spreads, none_asked, unable_too, silent_too}
use Rattle.x5_model_serve.specs.Claims.{asked_line}
use Rattle.x5_model_find.proofs.Orderly.{holdings_orderly}
use Rattle.x5_model_find.proofs.Deciding.{onward_needs}
use Rattle.x5_model_find.proofs.Needing.{false_true}
use Rattle.x5_model_joins.proofs.Backs.{own_back}
use Rattle.x5_model_verdicts.proofs.Alone.{filter_same}
use Rattle.x5_model_verdicts.proofs.Missed.{Picked}
use Rattle.x5_model_passing.specs.Taking.{IsRightFor, SilenceIsRight}
use Rattle.x5_model_passing.proofs.Same.{the_way, way_done}
use Rattle.x5_model_passing.proofs.Taking.{OnLine, able_here, same_phase_here, nothing_or_lost, hand_is, line_on}
use Rattle.x5_model_passing.proofs.Silence.{quiet}

-- ---- the noted agents stand in the order of the reference

once_front : {A : Type 0} (xs ys : List A) → Once (xs ++ ys) → Once xs
once_front [] ys h = tt
once_front (x ∷ xs) ys h = ((λ i. h.0 (in_left x xs ys i)), once_front xs ys h.1)

once_end : {A : Type 0} (xs : List A) (y : A) → Once (xs ++ y ∷ []) → In y xs → ⊥
once_end [] y h i = elim i [ ]
once_end {A} (x ∷ xs) y h i =
    elim (in_first y x xs i) [
      | inl e ↦ h.0 (subst (λ (z : A). In z (xs ++ y ∷ [])) e (in_right y xs (y ∷ []) here))
      | inr j ↦ once_end xs y h.1 j
    ]

has_not : (xs : List ℕ) (x : ℕ) → (In x xs → ⊥) → has ◌==◌ xs x ≡ false
has_not xs x none = elim (true_or_false (has ◌==◌ xs x)) [ inl t ↦ absurd (none (of_has ◌==◌ nat_same_decides x xs t)) | inr f ↦ f ]

has_same : (xs ys : List ℕ) (x : ℕ) → (In x xs → In x ys) → (In x ys → In x xs) → has ◌==◌ xs x ≡ has ◌==◌ ys x
has_same xs ys x f g =
    elim (true_or_false (has ◌==◌ ys x)) [
      | inl t ↦ has_in ◌==◌ nat_same_decides x xs (g (of_has ◌==◌ nat_same_decides x ys t)) ∙ sym t
      | inr n ↦ has_not xs x (λ i. false_true (sym n ∙ has_in ◌==◌ nat_same_decides x ys (f i))) ∙ sym n
    ]

one_left : (test : ℕ → Bool) (a : ℕ) (b : Bool) → test a ≡ b → filter test (a ∷ []) ≡ cond b (a ∷ []) []
one_left test a b e = ap (λ (x : Bool). cond x (a ∷ []) []) e

passed : (before noted : List ℕ) (a : ℕ) → Picked before noted → Picked (before ++ a ∷ []) noted
passed before noted a w = (
  λ x i. in_left x before (a ∷ []) (w.0 x i),
  λ once.
      filter-append (has ◌==◌ noted) before (a ∷ [])
      ∙ ap (λ (xs : List ℕ). xs ++ filter (has ◌==◌ noted) (a ∷ [])) (w.1 (once_front before (a ∷ []) once))
      ∙ ap (λ (xs : List ℕ). noted ++ xs) (one_left (has ◌==◌ noted) a false (has_not noted a (λ i. once_end before a once (w.0 a i))))
      ∙ append-nil noted,
)

noted_too : (before noted : List ℕ) (a : ℕ) → Picked before noted → Picked (before ++ a ∷ []) (noted ++ a ∷ [])
noted_too before noted a w = (
  λ x i. elim (in_either x noted (a ∷ []) i) [ inl l ↦ in_left x before (a ∷ []) (w.0 x l) | inr l ↦ in_right x before (a ∷ []) l ],
  λ once.
      filter-append (has ◌==◌ (noted ++ a ∷ [])) before (a ∷ [])
      ∙ ap (λ (xs : List ℕ). xs ++ filter (has ◌==◌ (noted ++ a ∷ [])) (a ∷ []))
      (filter_same (has ◌==◌ (noted ++ a ∷ [])) (has ◌==◌ noted) before
      (λ x i. has_same (noted ++ a ∷ []) noted x
      (λ j. elim (in_either x noted (a ∷ []) j) [
        | inl l ↦ l
        | inr l ↦ elim (in_first x a [] l) [
          | inl e ↦ absurd
              (once_end before a once (subst (λ (z : ℕ). In z before) e i))
          | inr n ↦ elim n [ ]
        ]
      ])
      (λ j. in_left x noted (a ∷ []) j))
      ∙ w.1 (once_front before (a ∷ []) once))
      ∙ ap (λ (xs : List ℕ). noted ++ xs)
      (one_left (has ◌==◌ (noted ++ a ∷ [])) a true
      (has_in ◌==◌ nat_same_decides a (noted ++ a ∷ []) (in_right a noted (a ∷ []) here))),
)

picked : (s : Scene) (most : ℕ) (from : Option ℕ) (k : Hand) (r : Reference) (agents noted : List ℕ) (i j : Journal) → Does s most
    (Spreads from k r agents noted) i j → Picked agents noted
picked s most _ _ _ _ _ _ _ none_asked = ((λ x i. i), λ once. refl)
picked s most _ _ _ _ _ _ _ (unable_too {before = before} {noted = noted} a y e d u) =
    passed before noted a (picked s most _ _ _ _ _ _ _ d)
picked s most _ _ _ _ _ _ _ (silent_too {before = before} {noted = noted} a d u) = noted_too before noted a (picked s most _ _ _ _ _ _ _ d)

-- ---- the reference to these

listed_of : (r : Reference) (noted : List ℕ) → is_wide r.kind ≡ true → is_empty noted ≡ false
    → filter (has ◌==◌ noted) r.agents ≡ noted → lists_of (is_wide r.kind) noted r.agents ≡ true
listed_of r noted wide some e =
    ap (λ (b : Bool). lists_of b noted r.agents) wide
    ∙ and_true (not (is_empty noted)) _ (ap not some) ((bytes_decides noted (filter (has ◌==◌ noted) r.agents)).1 (sym e))

contains_of : {X : Type 0} (xs : List X) (x : X) → In x xs → Contains xs x
contains_of [] x i = elim i [ ]
contains_of (x ∷ xs) _ here = (0, omega arith, refl)
contains_of (y ∷ xs) x (there i) = contains_more xs y x (contains_of xs x i)

module _ (p : Point) (s : Scene) (most : ℕ) (l : Line) (r : Reference) (i j : Journal) (on : OnLine p s most l r i j) (from : Option ℕ)
    (noted : List ℕ) (wide : is_wide r.kind ≡ true) (once : Once r.agents)
    (did : Does s most (Spreads from (hand_of l) r r.agents noted) i j) (some : is_empty noted ≡ false)
    (silent : (a : ℕ) → In a noted → is_in_vain s j.lines l r a ≡ true)
    (cleared : (a : ℕ) → In a r.agents → (In a noted → ⊥) → is_cleared s j.lines l.number r a ≡ true) where
  sound : IsSound p
  sound = record { described = on.setting.by_keys.described; consistent = on.setting.by_keys.consistent }

  needed : needs (s.holdings l.receiver) l.message ≡ r ∷ []
  needed =
      ap (λ (f : ℕ → Holdings). needs (f l.receiver) l.message) on.setting.holdings
      ∙ onward_needs (holdings_at p l.receiver) l.message r (holdings_orderly p l.receiver sound) on.looked on.found

  tried : IsTried s (asked_line l (length i.accepted)) j.lines (of_these noted r)
  tried = record {
    line = l;
    full = r;
    stands = contains_of j.lines l on.stands;
    back = own_back (λ (y : Line). y.number == l.number) l (length i.accepted) j.lines on.stands
        ((nat_same_decides l.number l.number).1 refl);
    needed = contains_of (needs (s.holdings l.receiver) l.message) r (subst (λ (rs : List Reference). In r rs) (sym needed) here);
    same = refl;
    listed = listed_of r noted wide some ((picked s most from (hand_of l) r r.agents noted i j did).1 once);
    vain = all_in (is_in_vain s j.lines l r) noted silent;
    cleared = or_right (not (is_wide r.kind && proceeds r.progress)) _
        (all_in (is_cleared s j.lines l.number (of_these noted r)) (filter (λ a. not (has ◌==◌ noted a)) r.agents)
        (λ a m. (let w = of_filter (λ (x : ℕ). not (has ◌==◌ noted x)) a r.agents m in
        cleared a w.0 (λ n. false_true (sym (not_true (has ◌==◌ noted a) w.1) ∙ has_in ◌==◌ nat_same_decides a noted n)))));
  }

  pub unsure_here : IsRightFor p s most (hand_of l) l.number i j (is_unavailable (of_these noted r))
  unsure_here = (
    usual (ap not (able_here p s most l r i j on))
        (right.unheard (asked tried) (same_phase_here p s most l r i j on (of_these noted r) refl)
        (nothing_or_lost p s most l r i j on (quiet s most _ i j did))),
    λ d. (let w = way_done (holdings_at p l.receiver) l.message r (the_way (holdings_at p l.receiver) l.message r on.found) d in
        absurd (false_true (sym (ap (λ (y : Reference). is_wide y.kind) w.1.1) ∙ wide))),
  )

pub silence_is_right : SilenceIsRight
silence_is_right p s most from k r i j noted on wide once did keeps some so =
    let e = hand_is p s k i on.at_hand in
    let last = ap (λ (xs : List Line). first_of xs) keeps.settled_is ∙ on.at_hand.at_hand in
    subst (λ (h : Hand). IsRightFor p s most h on.at_hand.line.number i j (is_unavailable (of_these noted r))) e
    (unsure_here p s most on.at_hand.line r i j (line_on p s most k r i j on keeps) from noted wide once
    (subst (λ (h : Hand). Does s most (Spreads from h r r.agents noted) i j) (sym e) did) some
    (so.silent on.at_hand.line last) (so.cleared on.at_hand.line last))
