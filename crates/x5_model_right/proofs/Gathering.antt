-- The references of a list or search, in turn: what was gathered so far is joined with what one more brings, by the loop
-- of x5_model_joins; and each reference was taken. A list or search is no update.
use Rattle.std.proofs.Common.{◌≡◌, ℕ, Bool, true, false, inl, inr, List, [], ◌∷◌, ◌++◌, refl, sym, ap, subst, ◌∙◌, Option}
use Rattle.std.specs.Option.{is_some}
use Rattle.x5_model.specs.Members.{In, here, Once}
use Rattle.x5_model.specs.Values.{key_of}
use Rattle.x5_model.proofs.KeyLaws.{key_decides}
use Rattle.x5_model.specs.References.{Reference}
use Rattle.x5_model.specs.Answers.{Answer, Answered, Failed}
use Rattle.x5_model.proofs.Lists.{in_first, in_left, in_right, in_either}
use Rattle.x5_model_tree.specs.Ask.{is_update}
use Rattle.x5_model_run.specs.Journal.{Line, Journal, same_progress}
use Rattle.x5_model_run.specs.History.{Point}
use Rattle.x5_model_run.specs.Chain.{Scene, IsCarried}
use Rattle.x5_model_run.specs.Thorough.{is_sent_by}
use Rattle.x5_model_theory.proofs.Following.{query_of}
use Rattle.x5_model_parts.proofs.Joining.{sight}
use Rattle.x5_model_serve.specs.Answering.{is_unavailable}
use Rattle.x5_model_serve.specs.Serving.{Hand, line_for, Heard, Unheard, Hears, Whole}
use Rattle.x5_model_replies.specs.Heard as claims
use Rattle.x5_model_serve.specs.Claims.{AtHand, MayTake, AskedSoFar, OnlyBy, SoFar, serving_of}
use Rattle.x5_model_replies.specs.Heard.{MayGather, GatheredRight}
use Rattle.x5_model_joins.proofs.Following.{no_update_below}
use Rattle.x5_model_joins.proofs.Cases.{progress_itself, part_unheard, part_unavailable, part_answered, part_breaks}
use Rattle.x5_model_right.specs.Kept.{KeepsAll, Rests, asks_update}
use Rattle.x5_model_right.specs.Claim.{TookRight, TakesRight, GatherRight, GathersRight}
use Rattle.x5_model_right.specs.Gathered.{NoPart, PartUnheard, PartUnavailable, PartAnswered, PartBreaks}
use Rattle.x5_model_right.proofs.Kept.{all_both, unchanged, at_hand_later, may_later, rests_later, sent_by_stays}
use Rattle.x5_model_right.proofs.Adding.{query_asks}

pub no_part_right : NoPart
no_part_right p s most from o a j g rest at may rests so = record {
  keeps = unchanged p s most o (is_update o.message.request.body) j at.licensed at.accepted rests.at_once;
  only = λ e m. inl m;
  gathered = so;
  asked = λ r m. elim m [ ];
}

-- a list or search is no update
query_here : (p : Point) (s : Scene) (from : Option ℕ) (o : Hand) (rs : List Reference) (i : Journal) → MayGather p s from o rs i → is_update o.message.request.body ≡ false
query_here p s from o rs i may = no_update_below o.message.request.body (query_of o.message (ap is_some (sight p (line_for o) may.begins).sees_it.subset))

-- the claims in the words of x5_model_joins, where what rests before is known
module _ (p : Point) (s : Scene) (most : ℕ) (from : Option ℕ) (o : Hand) (rs more : List Reference) (a b : Answer) (r : Reference) (h : Heard) (i j l : Journal)
    (loop : GathersRight p s most from o rs a (Whole b) i j) (one : TakesRight p s most from o r h j l) (at : AtHand p s o i) (may : MayGather p s from o (rs ++ r ∷ more) i)
    (rests : Rests p s most at.line (is_update o.message.request.body) i) where
  query : is_update o.message.request.body ≡ false
  query = query_here p s from o (rs ++ r ∷ more) i may

  -- the line at hand is one
  line_is : (x : AtHand p s o i) → x.line ≡ at.line
  line_is x = (let q = sym x.at_hand ∙ at.at_hand in cc)

  old_loop : claims.GathersRight p s most from o rs a (Whole b) i j
  old_loop rest x m so =
      let w = loop rest x m (subst (λ (y : Line). Rests p s most y (is_update o.message.request.body) i) (sym (line_is x)) rests) so in
      (w.keeps.keeps, w.only, w.gathered)

  module _ (kept : KeepsAll p s most o (is_update o.message.request.body) i j) where
    rests_then : Rests p s most at.line (asks_update from o r) j
    rests_then = subst (λ (y : Bool). Rests p s most at.line y j) (query ∙ sym (query_asks from o r query)) (rests_later p s most o (is_update o.message.request.body) i j at rests kept)

    took : (x : AtHand p s o j) → MayTake s from o r j → AskedSoFar s o r j [] → TookRight p s most x.line from o r h j l
    took x m f =
        one x m (subst (λ (y : Line). Rests p s most y (asks_update from o r) j)
        (let q = sym (at_hand_later p s most o i j at kept.keeps).at_hand ∙ x.at_hand in cc) rests_then) f

    old_one : claims.TakesRight p s most from o r h j l
    old_one x m f =
        let w = took x m f in
        (w.keeps.keeps, w.only, elim w.taken [ inl y ↦ inl y.0 | inr y ↦ inr y ])

-- ---- one more

-- the references before
fewer : (p : Point) (s : Scene) (from : Option ℕ) (o : Hand) (rs more : List Reference) (i : Journal) → MayGather p s from o (rs ++ more) i → MayGather p s from o rs i
fewer p s from o rs more i m = record {
  begins = m.begins;
  needed = λ r k. m.needed r (in_left r rs more k);
  takes = λ r k. m.takes r (in_left r rs more k);
  fresh = λ r k. m.fresh r (in_left r rs more k);
  once = once_of rs m.once;
  apart = m.apart;
}
  where
    once_of : (us : List Reference) → Once (us ++ more) → Once us
    once_of [] h = tt
    once_of (u ∷ us) h = ((λ k. h.0 (in_left u us more k)), once_of us h.1)

not_before : (r : Reference) (rs more : List Reference) → Once (rs ++ r ∷ more) → In r rs → ⊥
not_before r [] more h k = elim k [ ]
not_before r (u ∷ us) more h k = elim (in_first r u us k) [
  | inl e ↦ h.0 (subst (λ (x : Reference). In x (us ++ r ∷ more)) e (in_right r us (r ∷ more) here))
  | inr j ↦ not_before r us more h.1 j
]

-- nobody was asked by the next one
still_fresh : (p : Point) (s : Scene) (from : Option ℕ) (o : Hand) (rs more : List Reference) (r : Reference) (i j : Journal) → MayGather p s from o (rs ++ r ∷ more) i → OnlyBy o rs i j → AskedSoFar s o r j []
still_fresh p s from o rs more r i j m by = record {
  passed = λ e at a k. elim k [ ];
  only = λ e k agent carried. elim (by e k) [
    | inl old ↦ (m.fresh r (in_right r rs (r ∷ more) here)).only e old agent carried
    | inr x ↦ absurd (not_before r rs more m.once (subst (λ (y : Reference). In y rs) (one e x.0 x.1 x.2 x.3 agent carried) x.1))
  ];
}
  where
    one : (e : Line) (q : Reference) → In q rs → In e.receiver q.agents → IsCarried e.sender (line_for o) q e.message → In e.receiver r.agents → IsCarried e.sender (line_for o) r e.message → q ≡ r
    one e q k qa qc ra rc =
        let names : key_of q.target ≡ key_of r.target = (key_decides (key_of q.target) (key_of e.message.target)).0 qc.target_is ∙ sym ((key_decides (key_of r.target) (key_of e.message.target)).0 rc.target_is) in
        let steps : same_progress q.progress r.progress ≡ true = subst (λ x. same_progress x r.progress ≡ true) qc.progress_is (subst (λ x. same_progress e.message.progress x ≡ true) rc.progress_is (progress_itself e.message.progress)) in
        m.apart.unlike q r e.receiver (m.takes q (in_left q rs (r ∷ more) k)).needed (m.takes r (in_right r rs (r ∷ more) here)).needed ((key_decides (key_of q.target) (key_of r.target)).1 names) steps qa ra

only_by_both : (o : Hand) (rs more : List Reference) (r : Reference) (i j l : Journal) → OnlyBy o rs i j → OnlyBy o (r ∷ []) j l → OnlyBy o (rs ++ r ∷ more) i l
only_by_both o rs more r i j l f g e k = elim (g e k) [
  | inl old ↦ elim (f e old) [ inl x ↦ inl x | inr x ↦ inr (x.0, in_left x.0 rs (r ∷ more) x.1, x.2, x.3) ]
  | inr x ↦ inr (x.0, elim (in_first x.0 r [] x.1) [ inl e ↦ subst (λ (y : Reference). In y (rs ++ r ∷ more)) (sym e) (in_right r rs (r ∷ more) here) | inr j ↦ elim j [ ] ], x.2, x.3)
]

assoc_rest : (rs : List Reference) (r : Reference) (more rest : List Reference) → (rs ++ r ∷ more) ++ rest ≡ rs ++ r ∷ (more ++ rest)
assoc_rest [] r more rest = refl
assoc_rest (u ∷ us) r more rest = ap (λ zs. u ∷ zs) (assoc_rest us r more rest)

-- the loop so far, and the next reference
pub record Further (p : Point) (s : Scene) (most : ℕ) (from : Option ℕ) (o : Hand) (e : Line) (rs more rest : List Reference) (a b : Answer) (r : Reference) (h : Heard) (i j l : Journal) : Type 0 where
  pub loop : GatherRight p s most e from o rs (r ∷ (more ++ rest)) (Whole b) i j
  pub taken : TookRight p s most e from o r h j l
  pub keeps : KeepsAll p s most o (is_update o.message.request.body) i l
  pub only : OnlyBy o (rs ++ r ∷ more) i l
  pub old_loop : claims.GathersRight p s most from o rs a (Whole b) i j
  pub old_one : claims.TakesRight p s most from o r h j l

next : (p : Point) (s : Scene) (most : ℕ) (from : Option ℕ) (o : Hand) (rs more rest : List Reference) (a b : Answer) (r : Reference) (h : Heard) (i j l : Journal)
    → GathersRight p s most from o rs a (Whole b) i j → TakesRight p s most from o r h j l → (at : AtHand p s o i) → MayGather p s from o (rs ++ r ∷ more) i
    → Rests p s most at.line (is_update o.message.request.body) i → SoFar p s (serving_of i o at.line.number) i.lines a ((rs ++ r ∷ more) ++ rest)
    → Further p s most from o at.line rs more rest a b r h i j l
next p s most from o rs more rest a b r h i j l loop one at may rests so =
    let w = loop (r ∷ (more ++ rest)) at (fewer p s from o rs (r ∷ more) i may) rests (subst (λ (zs : List Reference). SoFar p s (serving_of i o at.line.number) i.lines a zs) (assoc_rest rs r more rest) so) in
    let t = took p s most from o rs more a b r h i j l loop one at may rests w.keeps (at_hand_later p s most o i j at w.keeps.keeps)
    (may_later p s most from o r i j (may.takes r (in_right r rs (r ∷ more) here)) w.keeps.keeps) (still_fresh p s from o rs more r i j may w.only) in
    record {
      loop = w;
      taken = t;
      keeps = all_both p s most o (is_update o.message.request.body) i j l w.keeps (subst (λ (y : Bool). KeepsAll p s most o y j l) (query_asks from o r (query_here p s from o (rs ++ r ∷ more) i may) ∙ sym (query_here p s from o (rs ++ r ∷ more) i may)) t.keeps);
      only = only_by_both o rs more r i j l w.only t.only;
      old_loop = old_loop p s most from o rs more a b r h i j l loop one at may rests;
      old_one = old_one p s most from o rs more a b r h i j l loop one at may rests w.keeps;
    }

-- each was taken, where that one was
all_asked : (j l : Journal) (e : Line) (from : Option ℕ) (rs : List Reference) (r : Reference) (new : List Line) → l.lines ≡ new ++ j.lines → ((q : Reference) → In q rs → is_sent_by j.lines e from q ≡ true) → is_sent_by l.lines e from r ≡ true
    → (q : Reference) → In q (rs ++ r ∷ []) → is_sent_by l.lines e from q ≡ true
all_asked j l e from rs r new lines before now q m = elim (in_either q rs (r ∷ []) m) [
  | inl old ↦ subst (λ (xs : List Line). is_sent_by xs e from q ≡ true) (sym lines) (sent_by_stays new j.lines e from q (before q old))
  | inr one ↦ elim (in_first q r [] one) [ inl same ↦ subst (λ (y : Reference). is_sent_by l.lines e from y ≡ true) (sym same) now | inr none ↦ elim none [ ] ]
]

pub part_unheard_right : PartUnheard
part_unheard_right p s most from o i j l rs a b r g d loop e one rest at may rests so =
    let n = next p s most from o rs [] rest a b r Unheard i j l loop one at may rests so in
    let old = part_unheard p s most from o rs a b r i j l n.old_loop n.old_one rest at may so in
    record {
      keeps = n.keeps;
      only = n.only;
      gathered = old.2;
      asked = elim n.taken.taken [
        | inl w ↦ all_asked j l at.line from rs r n.taken.keeps.keeps.grows.0 n.taken.keeps.keeps.grows.1 n.loop.asked w.1
        | inr w ↦ (let z = w.0 in cc)
      ];
    }

pub part_unavailable_right : PartUnavailable
part_unavailable_right p s most from o i j l rs a b r u g d loop e one rest at may rests so =
    let n = next p s most from o rs [] rest a b r (Hears (is_unavailable u)) i j l loop one at may rests so in
    let old = part_unavailable p s most from o rs a b r u i j l n.old_loop n.old_one rest at may so in
    record {
      keeps = n.keeps;
      only = n.only;
      gathered = old.2;
      asked = elim n.taken.taken [
        | inl w ↦ all_asked j l at.line from rs r n.taken.keeps.keeps.grows.0 n.taken.keeps.keeps.grows.1 n.loop.asked w.1
        | inr w ↦ (let z = w.0 in cc)
      ];
    }

pub part_answered_right : PartAnswered
part_answered_right p s most from o i j l rs a b r c g d loop e one rest at may rests so =
    let n = next p s most from o rs [] rest a b r (Hears (Answered c)) i j l loop one at may rests so in
    let old = part_answered p s most from o rs a b c r i j l n.old_loop n.old_one rest at may so in
    record {
      keeps = n.keeps;
      only = n.only;
      gathered = old.2;
      asked = elim n.taken.taken [
        | inl w ↦ all_asked j l at.line from rs r n.taken.keeps.keeps.grows.0 n.taken.keeps.keeps.grows.1 n.loop.asked w.1
        | inr w ↦ (let z = w.0 in cc)
      ];
    }

pub part_breaks_right : PartBreaks
part_breaks_right p s most from o i j l before after a b r x g other d loop e one rest at may rests so =
    let n = next p s most from o before after rest a b r (Hears (Failed x)) i j l loop one at may rests so in
    let old = part_breaks p s most from o before after a b r x i j l other (λ y m. g.short l.lines y n.keeps.keeps.licensed m) n.old_loop n.old_one rest at may so in
    record {
      keeps = n.keeps;
      only = n.only;
      gathered = old.2;
      asked = tt;
    }
