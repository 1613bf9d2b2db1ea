-- What was sent for an opener, once a message by a reference was: the new sibling is its line, since all that was done
-- for it is deeper.
use Rattle.std.proofs.Common.{◌≡◌, ℕ, true, inl, inr, List, [], ◌∷◌, ◌++◌, length, refl, sym, ap, subst, ◌∙◌, arith, Option}
use Rattle.x5_model.specs.Words.{first_of}
use Rattle.x5_model.specs.Members.{In, here}
use Rattle.x5_model.specs.References.{Reference}
use Rattle.x5_model.proofs.Lists.{in_first, in_left, in_right, in_either}
use Rattle.x5_model_run.specs.Journal.{Line, Journal, settled, siblings}
use Rattle.x5_model_run.specs.Chain.{Scene, IsCarried, is_passed}
use Rattle.x5_model_run.proofs.Carrying.{is_carried}
use Rattle.x5_model_run.proofs.Journals.{settled_above, siblings_under}
use Rattle.x5_model_serve.specs.Serving.{Hand, hand, line_for, carried_for, next_line, with_line}
use Rattle.x5_model_serve.specs.Claims.{depth_at}
use Rattle.x5_model_serve.proofs.Frame.{deeper}
use Rattle.x5_model_lasting.specs.Keeping.{SameAbove, AskedSent, OnlyOneSent, OnlyByBoth}
use Rattle.x5_model_lasting.proofs.Lines.{passed_stays}
use Rattle.x5_model_lasting.proofs.Composes.{grows_both}

module _ (s : Scene) (from : Option ℕ) (o : Hand) (r : Reference) (a : ℕ) (i j : Journal)
    (above : SameAbove (hand a (carried_for from o r)) (with_line (next_line s i from o r a) i) j) where
  abbrev l : Line
  l = next_line s i from o r a

  sibling : siblings (depth_at o) j.lines ≡ l ∷ siblings (depth_at o) i.lines
  sibling = siblings_under (length o.message.trace) l i.lines j.lines (deeper from o r) above

  framed : settled (depth_at o) j.lines ≡ settled (depth_at o) i.lines
  framed = settled_above (length o.message.trace) l i.lines j.lines (omega (arith, deeper from o r)) above

pub asked_sent : AskedSent
asked_sent s from o r a before i j g above last h = record {
  passed = λ e at x k. elim (in_either x before (a ∷ []) k) [
    | inl old ↦ passed_stays s e r x i j (grows_both i (with_line (next_line s i from o r a) i) j (next_line s i from o r a ∷ [], refl) g)
        (h.passed e (sym (ap first_of (framed s from o r a i j above)) ∙ at) x old)
    | inr new ↦ elim (in_first x a [] new) [
      | inl same ↦ subst (λ y. is_passed s j.lines e r y ≡ true) (sym same) (last e at)
      | inr none ↦ elim none [ ]
    ]
  ];
  only = λ x k agent carried. elim (in_first x (next_line s i from o r a) (siblings (depth_at o) i.lines)
      (subst (λ (xs : List Line). In x xs) (sibling s from o r a i j above) k)) [
        | inl same ↦ subst (λ y. In y (before ++ a ∷ [])) (sym (ap (λ (y : Line). y.receiver) same)) (in_right a before (a ∷ []) here)
        | inr old ↦ in_left x.receiver before (a ∷ []) (h.only x old agent carried)
      ];
}

pub only_one_sent : OnlyOneSent
only_one_sent s from o r a i j agent above x k =
    elim (in_first x (next_line s i from o r a) (siblings (depth_at o) i.lines)
    (subst (λ (xs : List Line). In x xs) (sibling s from o r a i j above) k)) [
      | inl same ↦ inr (
        r,
        here,
        subst (λ y. In y r.agents) (sym (ap (λ (y : Line). y.receiver) same)) agent,
        subst (λ (y : Line). IsCarried y.sender (line_for o) r y.message) (sym same) (is_carried from (line_for o) r),
      )
      | inr old ↦ inl old
    ]

pub only_by_both : OnlyByBoth
only_by_both o rs more all i j l every f g e k = elim (g e k) [
  | inr x ↦ inr (x.0, every x.0 (inr x.1), x.2, x.3)
  | inl old ↦ elim (f e old) [ inl x ↦ inl x | inr x ↦ inr (x.0, every x.0 (inl x.1), x.2, x.3) ]
]
