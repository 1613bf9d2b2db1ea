-- What is kept by two things that are done, one after the other, is kept by both together; and what holds before the
-- first holds before the second. What was taken stays taken where lines are added, what was accepted stays, and the
-- numbers of new lines are higher.
use Rattle.std.proofs.Common.{◌≡◌, ℕ, ◌+◌, ◌≤◌, Bool, true, false, not, ◌&&◌, ◌||◌, nat_le, ◌==◌, ◌⊎◌, inl, inr, List, [], ◌∷◌, ◌++◌, length, refl, sym, ap, subst, ◌∙◌, arith, nat_lt, length-append, Option, Some, None}
use Rattle.std.specs.List.{list_all}
use Rattle.x5_model.specs.Words.{is_empty, in_option, some_and, first_of}
use Rattle.x5_model.specs.Members.{In, here, there}
use Rattle.x5_model.specs.References.{Reference}
use Rattle.x5_model.proofs.Lists.{both_true, and_true, either_true, not_true, true_or_false, or_left, or_right, in_first, any_in, of_any, of_all}
use Rattle.x5_model_run.specs.Network.{arrives}
use Rattle.x5_model_run.specs.Journal.{Line, Journal, some_line, opened_by, same_sender}
use Rattle.x5_model_run.specs.Needs.{is_unable}
use Rattle.x5_model_run.specs.History.{Point}
use Rattle.x5_model_run.specs.Chain.{Scene, AllLicensed, asks_by, is_in_vain, is_passed, is_cleared}
use Rattle.x5_model_run.specs.Accepting.{carries_update, lacks_probe, may_accept, accepting, is_later, is_done_before}
use Rattle.x5_model_run.specs.Thorough.{is_served, is_taken, taken_needs, is_sent_by, sends_itself}
use Rattle.x5_model_run.proofs.Growing.{all_grow}
use Rattle.x5_model.proofs.Decide.{less_decides}
use Rattle.x5_model_joins.proofs.Keeping.{at_most}
use Rattle.x5_model_joins.proofs.Backs.{numbers}
use Rattle.x5_model_verdicts.proofs.At.{of_settled}
use Rattle.x5_model_serve.specs.Serving.{Hand, is_spent}
use Rattle.x5_model_serve.specs.Claims.{Accepted, AtHand, Keeps, MayTake, NotedSoFar, Grows, depth_at, last_number, is_due_line, is_settled_line, is_finished, is_served_itself, takes_itself}
use Rattle.x5_model_lasting.proofs.Lines as lasting
use Rattle.x5_model_lasting.proofs.Lines.{some_line_stays}
use Rattle.x5_model_lasting.proofs.Composes.{grows_both}
use Rattle.x5_model_lasting.proofs.Finishing.{is_at_most}
use Rattle.x5_model_right.specs.Kept.{AtOnce, ReadsOnly, AcceptedSince, KeepsAll, Rests, is_sent_to}

-- ---- what is said of lines stays said where lines were added

abbrev of_lines : List Line → Journal
of_lines lines = record { lines = lines; accepted = [] }

pub some_stays : (test : Line → List Line → Bool) (new lines : List Line) → some_line test lines ≡ true
    → some_line test (new ++ lines) ≡ true
some_stays test new lines = some_line_stays test (of_lines lines) (of_lines (new ++ lines)) (new, refl)

pub sent_to_stays : (new lines : List Line) (number : ℕ) (from : Option ℕ) (r : Reference) (a : ℕ) → is_sent_to lines number from r a ≡ true → is_sent_to (new ++ lines) number from r a ≡ true
sent_to_stays new lines number from r a e = some_stays (λ x before. asks_by r a x && (same_sender x.sender from && opened_by number before x)) new lines e

pub sent_by_stays : (new lines : List Line) (l : Line) (sender : Option ℕ) (r : Reference) → is_sent_by lines l sender r ≡ true → is_sent_by (new ++ lines) l sender r ≡ true
sent_by_stays new lines l sender r e = by (first_of r.agents) e
  where
    by : (o : Option ℕ) → in_option true (λ a. some_line (λ e before. asks_by r a e && (same_sender e.sender sender && opened_by l.number before e)) lines) o ≡ true
        → in_option true (λ a. some_line (λ e before. asks_by r a e && (same_sender e.sender sender && opened_by l.number before e)) (new ++ lines)) o ≡ true
    by None f = refl
    by (Some a) f = some_stays (λ e before. asks_by r a e && (same_sender e.sender sender && opened_by l.number before e)) new lines f

pub taken_stays : (s : Scene) (new lines : List Line) (l : Line) (r : Reference) → is_taken s lines l r ≡ true
    → is_taken s (new ++ lines) l r ≡ true
taken_stays s new lines l r = lasting.taken_stays s l r (of_lines lines) (of_lines (new ++ lines)) (new, refl)

pub vain_stays : (s : Scene) (new lines : List Line) (o : Line) (r : Reference) (a : ℕ) → is_in_vain s lines o r a ≡ true
    → is_in_vain s (new ++ lines) o r a ≡ true
vain_stays s new lines o r a = lasting.vain_stays s o r a (of_lines lines) (of_lines (new ++ lines)) (new, refl)

pub cleared_stays : (s : Scene) (new lines : List Line) (number : ℕ) (r : Reference) (a : ℕ)
    → is_cleared s lines number r a ≡ true → is_cleared s (new ++ lines) number r a ≡ true
cleared_stays s new lines number r a = lasting.cleared_stays s number r a (of_lines lines) (of_lines (new ++ lines)) (new, refl)

pub passed_stays : (s : Scene) (new lines : List Line) (o : Line) (r : Reference) (a : ℕ) → is_passed s lines o r a ≡ true
    → is_passed s (new ++ lines) o r a ≡ true
passed_stays s new lines o r a = lasting.passed_stays s o r a (of_lines lines) (of_lines (new ++ lines)) (new, refl)

-- a line that may be the accepting one by more lines may by fewer
pub may_before : (s : Scene) (lines new : List Line) (a : ℕ) (e : Line) → may_accept s (new ++ lines) a e ≡ true → may_accept s lines a e ≡ true
may_before s lines new a e h =
    let b = both_true (e.receiver == a) _ h in
    let c = both_true (arrives e.fate) _ b.1 in
    let d = both_true (carries_update s e) _ c.1 in
    let f = both_true (not (is_unable (s.holdings a) e.message)) _ d.1 in
    and_true (e.receiver == a) _ b.0 (and_true (arrives e.fate) _ c.0 (and_true (carries_update s e) _ d.0 (and_true (not (is_unable (s.holdings a) e.message)) _ f.0
    (by (some_line (lacks_probe s e.number) lines) refl (not_true (some_line (lacks_probe s e.number) (new ++ lines)) f.1)))))
  where
    by : (x : Bool) → some_line (lacks_probe s e.number) lines ≡ x → some_line (lacks_probe s e.number) (new ++ lines) ≡ false → not (some_line (lacks_probe s e.number) lines) ≡ true
    by true q k = (let t : true ≡ false = sym (some_stays (lacks_probe s e.number) new lines q) ∙ k in cc)
    by false q k = ap not q

pub member_fills : {X : Type 0} (xs : List X) (x : X) → In x xs → not (is_empty xs) ≡ true
member_fills [] x i = elim i [ ]
member_fills (y ∷ ys) x i = refl

filled : {X : Type 0} (xs ys : List X) → ((x : X) → In x xs → In x ys) → not (is_empty xs) ≡ true → not (is_empty ys) ≡ true
filled [] ys f e = cc
filled (x ∷ xs) ys f e = member_fills ys x (f x here)

-- from the journal j to one with more lines, and as much or more accepted
module _ (p : Point) (s : Scene) (j l : Journal) (new : List Line) (lines_are : l.lines ≡ new ++ j.lines) (more : (a : ℕ) → In a j.accepted → In a l.accepted)
    (same : (a : ℕ) → In a j.accepted → accepting s l.lines a ≡ accepting s j.lines a) where
  pub done_stays : (e : Line) → is_done_before s j e ≡ true → is_done_before s l e ≡ true
  done_stays e h =
      let x = of_any (λ a. some_and (is_later s a e) (accepting s j.lines a)) j.accepted h in
      any_in (λ a. some_and (is_later s a e) (accepting s l.lines a)) x.0 l.accepted (more x.0 x.1) (ap (some_and (is_later s x.0 e)) (same x.0 x.1) ∙ x.2)

  pub served_stays : (e : Line) → is_served s j e ≡ true → is_served s l e ≡ true
  served_stays e h = elim (either_true (not (arrives e.fate)) _ h) [
    | inl a ↦ or_left (not (arrives e.fate)) (is_done_before s l e || list_all (is_taken s l.lines e) (taken_needs s e)) a
    | inr a ↦ or_right (not (arrives e.fate)) (is_done_before s l e || list_all (is_taken s l.lines e) (taken_needs s e)) (elim (either_true (is_done_before s j e) _ a) [
      | inl d ↦ or_left (is_done_before s l e) (list_all (is_taken s l.lines e) (taken_needs s e)) (done_stays e d)
      | inr t ↦ or_right (is_done_before s l e) (list_all (is_taken s l.lines e) (taken_needs s e))
          (subst (λ (xs : List Line). list_all (is_taken s xs e) (taken_needs s e) ≡ true) (sym lines_are) (all_grow (is_taken s j.lines e) (is_taken s (new ++ j.lines) e) (taken_stays s new j.lines e) (taken_needs s e) t))
    ])
  ]

  pub itself_stays : (e : Line) → is_served_itself s j e ≡ true → is_served_itself s l e ≡ true
  itself_stays e h = elim (either_true (is_done_before s j e) _ h) [
    | inl d ↦ or_left (is_done_before s l e) (takes_itself s l e) (done_stays e d)
    | inr t ↦ or_right (is_done_before s l e) (takes_itself s l e)
        (subst (λ (xs : List Line). list_all (λ r. not (sends_itself s e r) || is_taken s xs e r) (taken_needs s e) ≡ true) (sym lines_are)
        (all_grow (λ r. not (sends_itself s e r) || is_taken s j.lines e r) (λ r. not (sends_itself s e r) || is_taken s (new ++ j.lines) e r) (λ r q. elim (either_true (not (sends_itself s e r)) _ q) [
          | inl u ↦ or_left (not (sends_itself s e r)) _ u
          | inr u ↦ or_right (not (sends_itself s e r)) _ (taken_stays s new j.lines e r u)
        ]) (taken_needs s e) t))
  ]

  due_before : (e : Line) → is_due_line p s l e ≡ true → is_due_line p s j e ≡ true
  due_before e h =
      let b = both_true (may_accept s l.lines e.receiver e) _ h in
      and_true (may_accept s j.lines e.receiver e) _ (may_before s j.lines new e.receiver e (subst (λ (xs : List Line). may_accept s xs e.receiver e ≡ true) lines_are b.0)) b.1

  pub settled_stays : (e : Line) → is_settled_line p s j e ≡ true → is_settled_line p s l e ≡ true
  settled_stays e h = elim (either_true (not (is_due_line p s j e)) _ h) [
    | inl a ↦ or_left (not (is_due_line p s l e)) (not (is_empty l.accepted)) (by (is_due_line p s l e) refl (not_true (is_due_line p s j e) a))
    | inr a ↦ or_right (not (is_due_line p s l e)) (not (is_empty l.accepted)) (filled j.accepted l.accepted more a)
  ]
    where
      by : (x : Bool) → is_due_line p s l e ≡ x → is_due_line p s j e ≡ false → not (is_due_line p s l e) ≡ true
      by true q k = (let t : true ≡ false = sym (due_before e q) ∙ k in cc)
      by false q k = ap not q

  abbrev fine : Journal → Line → Bool
  fine k e = is_served s k e && is_settled_line p s k e

  pub old_stay : (n : ℕ) (xs : List Line) → list_all (λ e. nat_le e.number n || fine j e) xs ≡ true → list_all (λ e. nat_le e.number n || fine l e) xs ≡ true
  old_stay n [] h = refl
  old_stay n (x ∷ xs) h =
      let b = both_true (nat_le x.number n || fine j x) _ h in
      and_true (nat_le x.number n || fine l x) _ (elim (either_true (nat_le x.number n) (fine j x) b.0) [
        | inl y ↦ or_left (nat_le x.number n) (fine l x) y
        | inr y ↦ (let c = both_true (is_served s j x) (is_settled_line p s j x) y in
            or_right (nat_le x.number n) (fine l x) (and_true (is_served s l x) (is_settled_line p s l x) (served_stays x c.0) (settled_stays x c.1)))
      ]) (old_stay n xs b.1)

  -- the new lines have higher numbers
  pub both_stay : (n : ℕ) (xs : List Line) → AllLicensed s (xs ++ j.lines) → list_all (λ e. nat_le e.number n || fine l e) j.lines ≡ true
      → list_all (λ e. nat_le e.number (last_number s j) || fine l e) (xs ++ j.lines) ≡ true → list_all (λ e. nat_le e.number n || fine l e) (xs ++ j.lines) ≡ true
  both_stay n [] h old since = old
  both_stay n (x ∷ xs) h old since =
      let b = both_true (nat_le x.number (last_number s j) || fine l x) _ since in
      let number : x.number ≡ s.sent + length (xs ++ j.lines) + 1 = h.0.number_is in
      let many : length (xs ++ j.lines) ≡ length xs + length j.lines = length-append xs j.lines in
      and_true (nat_le x.number n || fine l x) _ (elim (either_true (nat_le x.number (last_number s j)) (fine l x) b.0) [
        | inl y ↦ (let less : x.number ≤ s.sent + length j.lines = is_at_most x.number (last_number s j) y in absurd (omega (arith, less, number, many)))
        | inr y ↦ or_right (nat_le x.number n) (fine l x) y
      ]) (both_stay n xs h.1 old b.1)

-- ---- one after the other

assoc : (us vs ws : List Line) → (us ++ vs) ++ ws ≡ us ++ (vs ++ ws)
assoc [] vs ws = refl
assoc (u ∷ us) vs ws = ap (λ zs. u ∷ zs) (assoc us vs ws)

pub longer : (i j : Journal) → Grows i j → length i.lines ≤ length j.lines
longer i j g = (let more : length j.lines ≡ length g.0 + length i.lines = ap length g.1 ∙ length-append g.0 i.lines in omega (arith, more))

pub spent_still : (most : ℕ) (j l : Journal) → Grows j l → is_spent most j ≡ true → is_spent most l ≡ true
spent_still most j l g e =
    let less : most ≤ length j.lines = is_at_most most (length j.lines) e in
    let more = longer j l g in
    at_most most (length l.lines) (omega (arith, less, more))

pub keeps_more : (p : Point) (s : Scene) (most : ℕ) (o : Hand) (i j l : Journal) → Keeps p s most o i j → Keeps p s most o j l → Keeps p s most o i l
keeps_more p s most o i j l a b = record {
  licensed = b.licensed;
  settled_is = b.settled_is ∙ a.settled_is;
  grows = grows_both i j l a.grows b.grows;
  accepted = b.accepted;
  finished = by a.finished b.finished;
  reads = λ e. b.reads e ∙ a.reads e;
  only_more = λ x i. b.only_more x (a.only_more x i);
  same_line = λ x i. b.same_line x (a.only_more x i) ∙ a.same_line x i;
}
  where
    done : is_finished p s j (last_number s i) ≡ true → is_finished p s l (last_number s j) ≡ true → is_finished p s l (last_number s i) ≡ true
    done f g =
        subst (λ (xs : List Line). list_all (λ e. nat_le e.number (last_number s i) || (is_served s l e && is_settled_line p s l e)) xs ≡ true) (sym b.grows.1)
        (both_stay p s j l b.grows.0 b.grows.1 b.only_more b.same_line (last_number s i) b.grows.0 (subst (λ (xs : List Line). AllLicensed s xs) b.grows.1 b.licensed)
        (old_stay p s j l b.grows.0 b.grows.1 b.only_more b.same_line (last_number s i) j.lines f)
        (subst (λ (xs : List Line). list_all (λ e. nat_le e.number (last_number s j) || (is_served s l e && is_settled_line p s l e)) xs ≡ true) b.grows.1 g))

    by : (is_spent most j ≡ true) ⊎ (is_finished p s j (last_number s i) ≡ true) → (is_spent most l ≡ true) ⊎ (is_finished p s l (last_number s j) ≡ true)
        → (is_spent most l ≡ true) ⊎ (is_finished p s l (last_number s i) ≡ true)
    by (inl x) y = inl (spent_still most j l b.grows x)
    by (inr x) (inl y) = inl y
    by (inr x) (inr y) = inr (done x y)

pub reads_both : (s : Scene) (i j l : Journal) → ReadsOnly s i j → ReadsOnly s j l → ReadsOnly s i l
reads_both s i j l a b = record {
  accepted_same = b.accepted_same ∙ a.accepted_same;
  lines = λ e m. elim (b.lines e m) [ inl y ↦ a.lines e y | inr y ↦ inr y ];
}

pub since_both : (p : Point) (s : Scene) (most : ℕ) (o : Hand) (i j l : Journal) → Keeps p s most o j l → Grows i j → AcceptedSince s i j → AcceptedSince s j l → AcceptedSince s i l
since_both p s most o i j l k g a b x m = elim (b x m) [
  | inl y ↦ elim (a x y) [ inl z ↦ inl z | inr z ↦ inr (z.0, k.same_line x y ∙ z.1, z.2) ]
  | inr y ↦ (let more = longer i j g in let n = y.2 in inr (y.0, y.1, omega (arith, more, n)))
]

pub all_both : (p : Point) (s : Scene) (most : ℕ) (o : Hand) (u : Bool) (i j l : Journal) → KeepsAll p s most o u i j → KeepsAll p s most o u j l → KeepsAll p s most o u i l
all_both p s most o u i j l a b = record {
  keeps = keeps_more p s most o i j l a.keeps b.keeps;
  since = since_both p s most o i j l b.keeps a.keeps.grows a.since b.since;
  at_once = b.at_once;
  reads = λ e. reads_both s i j l (a.reads e) (b.reads e);
}

-- ---- nothing is done

none_since : (s : Scene) (test : Line → Bool) (lines : List Line) (n : ℕ) → AllLicensed s lines → s.sent + length lines ≤ n → list_all (λ l. nat_le l.number n || test l) lines ≡ true
none_since s test [] n h l = refl
none_since s test (x ∷ lines) n h l =
    let number : x.number ≡ s.sent + length lines + 1 = h.0.number_is in
    let first : (nat_le x.number n || test x) ≡ true = or_left (nat_le x.number n) (test x) (at_most x.number n (omega (arith, l, number))) in
    let rest = none_since s test lines n h.1 (omega (arith, l)) in
    λ i. first i && rest i

pub unchanged : (p : Point) (s : Scene) (most : ℕ) (k : Hand) (u : Bool) (j : Journal) → AllLicensed s j.lines → Accepted p s j → AtOnce s j → KeepsAll p s most k u j j
unchanged p s most k u j licensed accepted at_once = record {
  keeps = record {
    licensed = licensed;
    settled_is = refl;
    grows = ([], refl);
    accepted = accepted;
    finished = inr (none_since s (λ l. is_served s j l && is_settled_line p s j l) j.lines (last_number s j) licensed (omega arith));
    reads = λ e. refl;
    only_more = λ x i. i;
    same_line = λ x i. refl;
  };
  since = λ x i. inl i;
  at_once = at_once;
  reads = λ e. record { accepted_same = refl; lines = λ x i. inl i };
}

-- ---- what holds before the next thing that is done

abbrev pub at_hand_later : (p : Point) (s : Scene) (most : ℕ) (o : Hand) (i j : Journal) → AtHand p s o i → Keeps p s most o i j → AtHand p s o j
at_hand_later p s most o i j h k = record {
  line = h.line;
  receiver_is = h.receiver_is;
  message_is = h.message_is;
  licensed = k.licensed;
  at_hand = ap first_of k.settled_is ∙ h.at_hand;
  arrived = h.arrived;
  prohibited = h.prohibited;
  accepted = k.accepted;
}

pub may_later : (p : Point) (s : Scene) (most : ℕ) (from : Option ℕ) (o : Hand) (r : Reference) (i j : Journal) → MayTake s from o r i → Keeps p s most o i j → MayTake s from o r j
may_later p s most from o r i j m k = record {
  needed = m.needed;
  sender_is = λ e at. m.sender_is e (sym (ap first_of k.settled_is) ∙ at);
  chains = m.chains;
}

pub noted_later : (p : Point) (s : Scene) (most : ℕ) (o : Hand) (r : Reference) (i j : Journal) (agents noted : List ℕ) → Keeps p s most o i j → NotedSoFar s o r i agents noted → NotedSoFar s o r j agents noted
noted_later p s most o r i j agents noted k n = record {
  silent = λ e at a m. subst (λ (xs : List Line). is_in_vain s xs e r a ≡ true) (sym k.grows.1) (vain_stays s k.grows.0 i.lines e r a (n.silent e (sym (ap first_of k.settled_is) ∙ at) a m));
  cleared = λ e at a m f. subst (λ (xs : List Line). is_cleared s xs e.number r a ≡ true) (sym k.grows.1) (cleared_stays s k.grows.0 i.lines e.number r a (n.cleared e (sym (ap first_of k.settled_is) ∙ at) a m f));
}

-- the lines so far stay settled, and each new one is
all_settled : (p : Point) (s : Scene) (n : ℕ) (j : Journal) (xs : List Line) → list_all (λ e. nat_le e.number n || (is_served s j e && is_settled_line p s j e)) xs ≡ true
    → ((e : Line) → In e xs → e.number ≤ n → is_settled_line p s j e ≡ true) → list_all (is_settled_line p s j) xs ≡ true
all_settled p s n j [] h f = refl
all_settled p s n j (x ∷ xs) h f =
    let b = both_true (nat_le x.number n || (is_served s j x && is_settled_line p s j x)) _ h in
    and_true (is_settled_line p s j x) _ (elim (either_true (nat_le x.number n) _ b.0) [
      | inl y ↦ f x here (is_at_most x.number n y)
      | inr y ↦ (both_true (is_served s j x) (is_settled_line p s j x) y).1
    ]) (all_settled p s n j xs b.1 (λ e m. f e (there m)))

-- a line whose number isn't higher was there before
pub old_line : (s : Scene) (new lines : List Line) (e : Line) → AllLicensed s (new ++ lines) → In e (new ++ lines) → e.number ≤ s.sent + length lines → In e lines
old_line s [] lines e all m n = m
old_line s (x ∷ new) lines e all m n = elim (in_first e x (new ++ lines) m) [
  | inr k ↦ old_line s new lines e all.1 k n
  | inl q ↦
      let number : x.number ≡ s.sent + length (new ++ lines) + 1 = all.0.number_is in
      let many : length (new ++ lines) ≡ length new + length lines = length-append new lines in
      let same : e.number ≡ x.number = ap (λ (y : Line). y.number) q in
      absurd (omega (arith, number, many, same, n))
]

pub line_there : (p : Point) (s : Scene) (o : Hand) (i : Journal) (at : AtHand p s o i) → In at.line i.lines
line_there p s o i at = of_settled (depth_at o) i.lines at.line at.at_hand

pub line_number : (p : Point) (s : Scene) (o : Hand) (i : Journal) (at : AtHand p s o i) → at.line.number ≤ last_number s i
line_number p s o i at = numbers s i.lines at.licensed at.line (line_there p s o i at)

-- a line that hadn't brought what its agent accepted before still hasn't
pub still_fresh : (s : Scene) (i j : Journal) (e : Line) → ((a : ℕ) → In a i.accepted → accepting s j.lines a ≡ accepting s i.lines a) → AcceptedSince s i j → e.number ≤ last_number s i
    → is_done_before s i e ≡ false → is_done_before s j e ≡ false
still_fresh s i j e same since low fresh = elim (true_or_false (is_done_before s j e)) [
  | inr f ↦ f
  | inl t ↦
      let x = of_any (λ a. some_and (is_later s a e) (accepting s j.lines a)) j.accepted t in
      elim (since x.0 x.1) [
        | inl old ↦
            let again : is_done_before s i e ≡ true = any_in (λ a. some_and (is_later s a e) (accepting s i.lines a)) x.0 i.accepted old (ap (some_and (is_later s x.0 e)) (sym (same x.0 old)) ∙ x.2) in
            absurd (let z : true ≡ false = sym again ∙ fresh in cc)
        | inr y ↦
            let later : some_and (is_later s x.0 e) (Some y.0) ≡ true = ap (some_and (is_later s x.0 e)) (sym y.1) ∙ x.2 in
            let less = (less_decides y.0.number e.number).0 (both_true (nat_lt y.0.number e.number) _ (both_true (e.receiver == x.0) _ later).1).0 in
            let high = y.2 in
            absurd (omega (arith, less, high, low))
      ]
]

pub rests_later : (p : Point) (s : Scene) (most : ℕ) (o : Hand) (u : Bool) (i j : Journal) (at : AtHand p s o i) → Rests p s most at.line u i → KeepsAll p s most o u i j → Rests p s most at.line u j
rests_later p s most o u i j at r k = record {
  calm = λ e. by (r.calm e) k.keeps.finished;
  none = λ e. (k.reads e).accepted_same ∙ r.none e;
  fresh = still_fresh s i j at.line k.keeps.same_line k.since (line_number p s o i at) r.fresh;
  at_once = k.at_once;
}
  where
    old_settled : list_all (is_settled_line p s i) i.lines ≡ true → (e : Line) → In e j.lines → e.number ≤ last_number s i → is_settled_line p s j e ≡ true
    old_settled h e m n =
        let there = old_line s k.keeps.grows.0 i.lines e (subst (λ (xs : List Line). AllLicensed s xs) k.keeps.grows.1 k.keeps.licensed) (subst (λ (xs : List Line). In e xs) k.keeps.grows.1 m) n in
        settled_stays p s i j k.keeps.grows.0 k.keeps.grows.1 k.keeps.only_more k.keeps.same_line e (of_all (is_settled_line p s i) e i.lines h there)

    by : is_spent most i ≡ true ⊎ (list_all (is_settled_line p s i) i.lines ≡ true) → is_spent most j ≡ true ⊎ (is_finished p s j (last_number s i) ≡ true)
        → is_spent most j ≡ true ⊎ (list_all (is_settled_line p s j) j.lines ≡ true)
    by (inl x) y = inl (spent_still most i j k.keeps.grows x)
    by (inr x) (inl y) = inl y
    by (inr x) (inr y) = inr (all_settled p s (last_number s i) j j.lines y (old_settled x))
