-- The agents of one reference, in their order: each that isn't heard was asked in vain; the first that is heard ends it;
-- and where none is, the reference is lost, since the line that needs it came back to itself.
use Rattle.std.proofs.Common.{◌≡◌, ℕ, Bool, true, false, cond, not, ◌&&◌, ◌==◌, if◌then◌else◌, inl, inr, List, [], ◌∷◌, ◌++◌, length, refl, sym, ap, subst, ◌∙◌, Option, Some}
use Rattle.std.specs.Prelude.{IsTrue}
use Rattle.std.specs.List.{list_any, list_all, filter}
use Rattle.std.specs.Cmp.Lexicographic.{pointwise}
use Rattle.x5_model.specs.Words.{has, is_empty, in_option, first_of}
use Rattle.x5_model.specs.Members.{In, here, there}
use Rattle.x5_model.specs.References.{Reference, Chained}
use Rattle.x5_model.proofs.Decide.{nat_same_decides}
use Rattle.x5_model.proofs.Lists.{and_true, or_left, or_right, not_false, in_first, in_right, in_either, any_in, of_any, all_in, has_in}
use Rattle.x5_model_run.specs.Journal.{Line, Journal, is_wide, same_sender, some_line, opened_by}
use Rattle.x5_model_run.specs.Holdings.{Holdings}
use Rattle.x5_model_run.specs.Needs.{needs}
use Rattle.x5_model_run.specs.History.{Point, holdings_at}
use Rattle.x5_model_run.specs.Chain.{Scene, asks_by, is_cleared, is_in_vain}
use Rattle.x5_model_run.specs.Blocked.{asked, proceeds}
use Rattle.x5_model_run.specs.Right.{is_noreply, heard_whole}
use Rattle.x5_model_run.specs.Thorough.{is_sent_by}
use Rattle.x5_model_joins.proofs.Backs.{own_back}
use Rattle.x5_model_serve.specs.Answering.{in_vain}
use Rattle.x5_model_serve.specs.Serving.{Hand, Heard, Unheard, Hears}
use Rattle.x5_model_serve.specs.Claims.{Grows, AtHand, OnlyBy}
use Rattle.x5_model_right.specs.Kept.{KeepsAll, Rests, asks_update, is_sent_to, Meanwhile}
use Rattle.x5_model_right.specs.Journeys.{NeededAgents}
use Rattle.x5_model_right.specs.Claim.{SentRight, TriedRight}
use Rattle.x5_model_right.specs.Taken.{NoneYet, InVainToo, NextIsHeard, NoneIsHeard}
use Rattle.x5_model_right.proofs.Kept.{vain_stays, sent_to_stays, all_both, unchanged, at_hand_later, may_later, rests_later, line_there}
use Rattle.x5_model_right.proofs.Journeys.{sound, contains_of}
use Rattle.x5_model_right.proofs.Adding.{middle}

-- ---- lists

pub snoc_before : (xs ys : List ℕ) (a : ℕ) → (xs ++ a ∷ []) ++ ys ≡ xs ++ a ∷ ys
snoc_before [] ys a = refl
snoc_before (x ∷ xs) ys a = ap (λ zs. x ∷ zs) (snoc_before xs ys a)

pub none_after : (xs : List ℕ) → xs ++ [] ≡ xs
none_after [] = refl
none_after (x ∷ xs) = ap (λ zs. x ∷ zs) (none_after xs)

pub same_all : (xs : List ℕ) → pointwise ◌==◌ xs xs ≡ true
same_all [] = refl
same_all (x ∷ xs) = and_true (x == x) _ ((nat_same_decides x x).1 refl) (same_all xs)

pub filter_all : (test : ℕ → Bool) (xs : List ℕ) → ((x : ℕ) → In x xs → test x ≡ true) → filter test xs ≡ xs
filter_all test [] f = refl
filter_all test (x ∷ xs) f = (λ i. cond (f x here i) (x ∷ filter test xs) (filter test xs)) ∙ ap (λ zs. x ∷ zs) (filter_all test xs (λ y m. f y (there m)))

pub filter_none : (test : ℕ → Bool) (xs : List ℕ) → ((x : ℕ) → In x xs → test x ≡ false) → filter test xs ≡ []
filter_none test [] f = refl
filter_none test (x ∷ xs) f = (λ i. cond (f x here i) (x ∷ filter test xs) (filter test xs)) ∙ filter_none test xs (λ y m. f y (there m))

pub loss_stays : (i j : Journal) → Grows i j → heard_whole i.lines ≡ false → heard_whole j.lines ≡ false
loss_stays i j g h =
    let w = of_any (λ (l : Line). is_noreply l.fate) i.lines (not_false (list_any (λ (l : Line). is_noreply l.fate) i.lines) h) in
    ap not (any_in (λ (l : Line). is_noreply l.fate) w.0 j.lines (subst (λ (xs : List Line). In w.0 xs) (sym g.1) (in_right w.0 g.0 i.lines w.1)) w.2)

-- the first agent was asked, so the reference was taken
pub sent_by_first : (lines : List Line) (l : Line) (from : Option ℕ) (r : Reference) (xs : List ℕ) (b : ℕ) → r.agents ≡ xs → first_of xs ≡ Some b → is_sent_to lines l.number from r b ≡ true → is_sent_by lines l from r ≡ true
sent_by_first lines l from r xs b split e h =
    ap (in_option true (λ a. some_line (λ y before. asks_by r a y && (same_sender y.sender from && opened_by l.number before y)) lines)) (ap first_of split ∙ e) ∙ h

pub only_both : (o : Hand) (r : Reference) (i j l : Journal) → OnlyBy o (r ∷ []) i j → OnlyBy o (r ∷ []) j l → OnlyBy o (r ∷ []) i l
only_both o r i j l f h e m = elim (h e m) [ inl old ↦ f e old | inr w ↦ inr w ]

-- ---- none so far, and one more in vain

pub none_yet_right : NoneYet
none_yet_right p s most from o r j g after at may rests split so_far = record {
  keeps = unchanged p s most o (asks_update from o r) j at.licensed at.accepted rests.at_once;
  only = λ l m. inl m;
  so_far = so_far;
  vain = λ a m. elim m [ ];
  first = λ a e. cc;
  none = inl refl;
}

module _ (p : Point) (s : Scene) (most : ℕ) (from : Option ℕ) (o : Hand) (r : Reference) (i j : Journal) (at : AtHand p s o i) (rests : Rests p s most at.line (asks_update from o r) i)
    (before : List ℕ) (t : TriedRight p s most at.line from o r before i j) where
  abbrev at_then : AtHand p s o j
  at_then = at_hand_later p s most o i j at t.keeps.keeps

  rests_then : Rests p s most at.line (asks_update from o r) j
  rests_then = rests_later p s most o (asks_update from o r) i j at rests t.keeps

  module _ (l : Journal) (a : ℕ) (h : Heard) (u : SentRight p s most at.line from o r before a h j l) where
    kept : KeepsAll p s most o (asks_update from o r) i l
    kept = all_both p s most o (asks_update from o r) i j l t.keeps u.keeps

    first_there : IsTrue (is_sent_to l.lines at.line.number from r a) → (b : ℕ) → first_of (before ++ a ∷ []) ≡ Some b → IsTrue (is_sent_to l.lines at.line.number from r b)
    first_there sent b e = by before e (λ f. subst (λ (xs : List Line). is_sent_to xs at.line.number from r b ≡ true) (sym u.keeps.keeps.grows.1) (sent_to_stays u.keeps.keeps.grows.0 j.lines at.line.number from r b (t.first b f)))
      where
        by : (xs : List ℕ) → first_of (xs ++ a ∷ []) ≡ Some b → (first_of xs ≡ Some b → is_sent_to l.lines at.line.number from r b ≡ true) → is_sent_to l.lines at.line.number from r b ≡ true
        by [] q more = (let same : a ≡ b = cc in subst (λ (n : ℕ). is_sent_to l.lines at.line.number from r n ≡ true) same sent)
        by (x ∷ xs) q more = more q

    meanwhile_too : Meanwhile i l h
    meanwhile_too = elim t.none [
      | inr lossy ↦ inr (inr (inl (loss_stays j l u.keeps.keeps.grows lossy)))
      | inl same ↦ elim u.meanwhile [ inl e ↦ inl (e ∙ same) | inr w ↦ inr w ]
    ]

pub in_vain_too_right : InVainToo
in_vain_too_right p s most from o r i j l before a g d tries e sends after at may rests split so_far =
    let more : r.agents ≡ before ++ a ∷ after = split ∙ snoc_before before after a in
    let t = tries (a ∷ after) at may rests more so_far in
    let u = sends before after (at_then p s most from o r i j at rests before t) (may_later p s most from o r i j may t.keeps.keeps) (rests_then p s most from o r i j at rests before t) more t.so_far in
    record {
      keeps = kept p s most from o r i j at rests before t l a Unheard u;
      only = only_both o r i j l t.only u.only;
      so_far = u.next (or_left _ _ u.heard.0);
      vain = λ b m. elim (in_either b before (a ∷ []) m) [
        | inl old ↦ subst (λ (xs : List Line). is_in_vain s xs at.line r b ≡ true) (sym u.keeps.keeps.grows.1) (vain_stays s u.keeps.keeps.grows.0 j.lines at.line r b (t.vain b old))
        | inr new ↦ elim (in_first b a [] new) [ inl same ↦ subst (λ (n : ℕ). is_in_vain s l.lines at.line r n ≡ true) (sym same) u.heard.0 | inr none ↦ elim none [ ] ]
      ];
      first = first_there p s most from o r i j at rests before t l a Unheard u u.heard.1;
      none = elim (meanwhile_too p s most from o r i j at rests before t l a Unheard u) [
        | inl e ↦ inl e
        | inr w ↦ elim w [ inl f ↦ (let z = f in cc) | inr v ↦ elim v [ inl lossy ↦ inr lossy | inr none ↦ absurd none ] ]
      ];
    }

-- ---- the next one is heard

pub next_is_heard_right : NextIsHeard
next_is_heard_right p s most from o r i j l before after a reply g split d tries e sends at may rests so_far =
    let t = tries (a ∷ after) at may rests split so_far in
    let u = sends before after (at_then p s most from o r i j at rests before t) (may_later p s most from o r i j may t.keeps.keeps) (rests_then p s most from o r i j at rests before t) split t.so_far in
    record {
      keeps = kept p s most from o r i j at rests before t l a (Hears reply) u;
      only = only_both o r i j l t.only u.only;
      taken = elim u.heard [
        | inr w ↦ inr w.0
        | inl w ↦ inl (
          (
            w.0,
            subst (λ (n : ℕ). In n r.agents) (sym w.1) (subst (λ (xs : List ℕ). In a xs) (sym split) (middle before after a)),
            w.2,
            record { stands = w.3.stands; heard = w.3.heard; back = w.3.back; stood = w.3.stood; right = w.3.right; followed = w.3.followed; within = w.3.within },
          ),
          first_asked before split (first_there p s most from o r i j at rests before t l a (Hears reply) u w.4),
        )
      ];
      meanwhile = meanwhile_too p s most from o r i j at rests before t l a (Hears reply) u;
    }
  where
    first_asked : (xs : List ℕ) → r.agents ≡ xs ++ a ∷ after → ((b : ℕ) → first_of (xs ++ a ∷ []) ≡ Some b → is_sent_to l.lines at.line.number from r b ≡ true) → is_sent_by l.lines at.line from r ≡ true
    first_asked [] q f = sent_by_first l.lines at.line from r (a ∷ after) a q refl (f a refl)
    first_asked (x ∷ xs) q f = sent_by_first l.lines at.line from r (x ∷ (xs ++ a ∷ after)) x q refl (f x refl)

-- ---- nobody is heard

pub none_is_heard_right : NeededAgents → NoneIsHeard
none_is_heard_right known p s most from o r i j g d tries at may rests so_far =
    let t = tries [] at may rests (sym (none_after r.agents)) so_far in
    let need : In r (needs (holdings_at p o.receiver) o.message) = subst (λ (h : ℕ → Holdings). In r (needs (h o.receiver) o.message)) g.setting.holdings may.needed in
    let filled : is_empty r.agents ≡ false = (known p o.receiver o.message r (sound p s g) need).0 in
    let line : In at.line j.lines = line_there p s o j (at_hand_later p s most o i j at t.keeps.keeps) in
    record {
      keeps = t.keeps;
      only = t.only;
      taken = inl (
        asked (record {
          line = at.line;
          full = r;
          stands = contains_of j.lines at.line line;
          back = own_back (λ l. l.number == at.line.number) at.line (length i.accepted) j.lines line ((nat_same_decides at.line.number at.line.number).1 refl);
          needed = contains_of (needs (s.holdings at.line.receiver) at.line.message) r
              (subst (λ (n : ℕ). In r (needs (s.holdings n) at.line.message)) (sym at.receiver_is) (subst (λ (m : Chained). In r (needs (s.holdings o.receiver) m)) (sym at.message_is) may.needed));
          same = refl;
          listed = and_true (not (is_empty r.agents)) _ (ap not filled) (listed_by (is_wide r.kind));
          vain = all_in (is_in_vain s j.lines at.line r) r.agents t.vain;
          cleared = or_right (not (is_wide r.kind && proceeds r.progress)) _ (ap (list_all (is_cleared s j.lines at.line.number (in_vain r))) (filter_none (λ a. not (has ◌==◌ r.agents a)) r.agents (λ a m. ap not (has_in ◌==◌ nat_same_decides a r.agents m))));
        }),
        first_asked r.agents refl filled t.first,
      );
      meanwhile = elim t.none [ inl e ↦ inl e | inr lossy ↦ inr (inr (inl lossy)) ];
    }
  where
    listed_by : (wide : Bool) → pointwise ◌==◌ r.agents (if wide then filter (has ◌==◌ r.agents) r.agents else r.agents) ≡ true
    listed_by true = ap (pointwise ◌==◌ r.agents) (filter_all (has ◌==◌ r.agents) r.agents (λ a m. has_in ◌==◌ nat_same_decides a r.agents m)) ∙ same_all r.agents
    listed_by false = same_all r.agents

    first_asked : (xs : List ℕ) → r.agents ≡ xs → is_empty xs ≡ false → ((b : ℕ) → first_of xs ≡ Some b → is_sent_to j.lines at.line.number from r b ≡ true) → is_sent_by j.lines at.line from r ≡ true
    first_asked [] q e f = cc
    first_asked (x ∷ xs) q e f = sent_by_first j.lines at.line from r (x ∷ xs) x q refl (f x refl)
