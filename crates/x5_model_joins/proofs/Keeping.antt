-- What is kept by two things that are done for a query is kept by both together: what was taken stays taken where lines
-- are added, and the numbers of the new lines are higher.
use Rattle.std.proofs.Common.{◌≡◌, ℕ, ◌+◌, ◌≤◌, Bool, true, false, not, ◌&&◌, ◌||◌, if◌then◌else◌, nat_le, ◌==◌, ◌⊎◌, inl, inr, List, [], ◌∷◌, ◌++◌, length, refl, sym, ap, subst, ◌∙◌, arith, length-append, Option, Some, None}
use Rattle.std.specs.List.{list_any, list_all}
use Rattle.std.proofs.lemmas.Bool.Decides.{leb_tells}
use Rattle.x5_model.specs.Words.{is_empty, in_option, some_and, first_of}
use Rattle.x5_model.specs.Members.{In, here, there}
use Rattle.x5_model.specs.References.{Reference}
use Rattle.x5_model.proofs.Lists.{both_true, and_true, either_true, not_true, or_left, or_right}
use Rattle.x5_model_run.specs.Network.{arrives}
use Rattle.x5_model_run.specs.Journal.{Line, Journal, some_line, opened_by, same_sender}
use Rattle.x5_model_run.specs.Needs.{is_unable}
use Rattle.x5_model_run.specs.History.{Point}
use Rattle.x5_model_run.specs.Chain.{Scene, AllLicensed, asks_by}
use Rattle.x5_model_run.specs.Accepting.{carries_update, lacks_probe, may_accept, accepting, is_later, is_done_before}
use Rattle.x5_model_run.specs.Thorough.{is_served, is_taken, taken_needs, is_sent_by, sends_itself, sender_follows}
use Rattle.x5_model_run.proofs.Growing.{all_grow}
use Rattle.x5_model_serve.specs.Claims.{last_number, is_due_line, is_settled_line, is_finished}
use Rattle.x5_model_joins.specs.Loop.{QueriesKeep}

pub at_most : (a b : ℕ) → a ≤ b → nat_le a b ≡ true
at_most a b l = elim (leb_tells a b) [ inl t ↦ t.0 | inr f ↦ (let m = f.1 in absurd (omega (arith, l, m))) ]

is_at_most : (a b : ℕ) → nat_le a b ≡ true → a ≤ b
is_at_most a b e = elim (leb_tells a b) [ inl t ↦ t.1 | inr f ↦ (let x = f.0 in cc) ]

-- ---- what is said of lines stays said where lines were added

some_stays : (test : Line → List Line → Bool) (new lines : List Line) → some_line test lines ≡ true → some_line test (new ++ lines) ≡ true
some_stays test [] lines e = e
some_stays test (x ∷ new) lines e = or_right (test x (new ++ lines)) (some_line test (new ++ lines)) (some_stays test new lines e)

any_stays : (test : Line → Bool) (new lines : List Line) → list_any test lines ≡ true → list_any test (new ++ lines) ≡ true
any_stays test [] lines e = e
any_stays test (x ∷ new) lines e = or_right (test x) (list_any test (new ++ lines)) (any_stays test new lines e)

sent_stays : (new lines : List Line) (l : Line) (sender : Option ℕ) (r : Reference) → is_sent_by lines l sender r ≡ true → is_sent_by (new ++ lines) l sender r ≡ true
sent_stays new lines l sender r e = by (first_of r.agents) e
  where
    by : (o : Option ℕ) → in_option true (λ a. some_line (λ e before. asks_by r a e && (same_sender e.sender sender && opened_by l.number before e)) lines) o ≡ true
        → in_option true (λ a. some_line (λ e before. asks_by r a e && (same_sender e.sender sender && opened_by l.number before e)) (new ++ lines)) o ≡ true
    by None f = refl
    by (Some a) f = some_stays (λ e before. asks_by r a e && (same_sender e.sender sender && opened_by l.number before e)) new lines f

taken_stays : (s : Scene) (new lines : List Line) (l : Line) (r : Reference) → is_taken s lines l r ≡ true → is_taken s (new ++ lines) l r ≡ true
taken_stays s new lines l r e = by (sends_itself s l r) e
  where
    by : (b : Bool) → (if b then is_sent_by lines l (Some l.receiver) r else not (sender_follows s l) || is_sent_by lines l l.sender r) ≡ true
        → (if b then is_sent_by (new ++ lines) l (Some l.receiver) r else not (sender_follows s l) || is_sent_by (new ++ lines) l l.sender r) ≡ true
    by true f = sent_stays new lines l (Some l.receiver) r f
    by false f = elim (either_true (not (sender_follows s l)) (is_sent_by lines l l.sender r) f) [
      | inl g ↦ or_left (not (sender_follows s l)) (is_sent_by (new ++ lines) l l.sender r) g
      | inr g ↦ or_right (not (sender_follows s l)) (is_sent_by (new ++ lines) l l.sender r) (sent_stays new lines l l.sender r g)
    ]

-- ---- with the same accepted lines

any_same : (f g : ℕ → Bool) (xs : List ℕ) → ((a : ℕ) → In a xs → f a ≡ g a) → list_any f xs ≡ list_any g xs
any_same f g [] h = refl
any_same f g (x ∷ xs) h = λ i. h x here i || any_same f g xs (λ a k. h a (there k)) i

-- a line that may be the accepting one by more lines may by fewer
may_before : (s : Scene) (lines new : List Line) (a : ℕ) (e : Line) → may_accept s (new ++ lines) a e ≡ true → may_accept s lines a e ≡ true
may_before s lines new a e h =
    let b = both_true (e.receiver == a) _ h in
    let c = both_true (arrives e.fate) _ b.1 in
    let d = both_true (carries_update s e) _ c.1 in
    let f = both_true (not (is_unable (s.holdings a) e.message)) _ d.1 in
    and_true (e.receiver == a) _ b.0 (and_true (arrives e.fate) _ c.0 (and_true (carries_update s e) _ d.0 (and_true (not (is_unable (s.holdings a) e.message)) _ f.0
    (by (some_line (lacks_probe s e.number) lines) refl (not_true (some_line (lacks_probe s e.number) (new ++ lines)) f.1)))))
  where
    by : (x : Bool) → some_line (lacks_probe s e.number) lines ≡ x → some_line (lacks_probe s e.number) (new ++ lines) ≡ false → not (some_line (lacks_probe s e.number) lines) ≡ true
    by true q k = (let t : true ≡ false = sym (some_stays (lacks_probe s e.number) new lines q) ∙ k in cc)
    by false q k = ap not q

module _ (p : Point) (s : Scene) (j l : Journal) (new : List Line) (lines_are : l.lines ≡ new ++ j.lines) (accepted : l.accepted ≡ j.accepted)
    (same : (a : ℕ) → In a j.accepted → accepting s l.lines a ≡ accepting s j.lines a) where
  done_same : (e : Line) → is_done_before s l e ≡ is_done_before s j e
  done_same e =
      ap (λ (xs : List ℕ). list_any (λ a. some_and (is_later s a e) (accepting s l.lines a)) xs) accepted
      ∙ any_same (λ a. some_and (is_later s a e) (accepting s l.lines a)) (λ a. some_and (is_later s a e) (accepting s j.lines a)) j.accepted (λ a k. ap (some_and (is_later s a e)) (same a k))

  served_stays : (e : Line) → is_served s j e ≡ true → is_served s l e ≡ true
  served_stays e h = elim (either_true (not (arrives e.fate)) _ h) [
    | inl a ↦ or_left (not (arrives e.fate)) (is_done_before s l e || list_all (is_taken s l.lines e) (taken_needs s e)) a
    | inr a ↦ or_right (not (arrives e.fate)) (is_done_before s l e || list_all (is_taken s l.lines e) (taken_needs s e)) (elim (either_true (is_done_before s j e) _ a) [
      | inl d ↦ or_left (is_done_before s l e) (list_all (is_taken s l.lines e) (taken_needs s e)) (done_same e ∙ d)
      | inr t ↦ or_right (is_done_before s l e) (list_all (is_taken s l.lines e) (taken_needs s e))
          (subst (λ (xs : List Line). list_all (is_taken s xs e) (taken_needs s e) ≡ true) (sym lines_are) (all_grow (is_taken s j.lines e) (is_taken s (new ++ j.lines) e) (taken_stays s new j.lines e) (taken_needs s e) t))
    ])
  ]

  due_before : (e : Line) → is_due_line p s l e ≡ true → is_due_line p s j e ≡ true
  due_before e h =
      let b = both_true (may_accept s l.lines e.receiver e) _ h in
      and_true (may_accept s j.lines e.receiver e) _ (may_before s j.lines new e.receiver e (subst (λ (xs : List Line). may_accept s xs e.receiver e ≡ true) lines_are b.0)) b.1

  settled_stays : (e : Line) → is_settled_line p s j e ≡ true → is_settled_line p s l e ≡ true
  settled_stays e h = elim (either_true (not (is_due_line p s j e)) _ h) [
    | inl a ↦ or_left (not (is_due_line p s l e)) (not (is_empty l.accepted)) (by (is_due_line p s l e) refl (not_true (is_due_line p s j e) a))
    | inr a ↦ or_right (not (is_due_line p s l e)) (not (is_empty l.accepted)) (ap (λ (xs : List ℕ). not (is_empty xs)) accepted ∙ a)
  ]
    where
      by : (x : Bool) → is_due_line p s l e ≡ x → is_due_line p s j e ≡ false → not (is_due_line p s l e) ≡ true
      by true q k = (let t : true ≡ false = sym (due_before e q) ∙ k in cc)
      by false q k = ap not q

  abbrev fine : Journal → Line → Bool
  fine k e = is_served s k e && is_settled_line p s k e

  old_stay : (n : ℕ) (xs : List Line) → list_all (λ e. nat_le e.number n || fine j e) xs ≡ true → list_all (λ e. nat_le e.number n || fine l e) xs ≡ true
  old_stay n [] h = refl
  old_stay n (x ∷ xs) h =
      let b = both_true (nat_le x.number n || fine j x) _ h in
      and_true (nat_le x.number n || fine l x) _ (elim (either_true (nat_le x.number n) (fine j x) b.0) [
        | inl y ↦ or_left (nat_le x.number n) (fine l x) y
        | inr y ↦ (let c = both_true (is_served s j x) (is_settled_line p s j x) y in
            or_right (nat_le x.number n) (fine l x) (and_true (is_served s l x) (is_settled_line p s l x) (served_stays x c.0) (settled_stays x c.1)))
      ]) (old_stay n xs b.1)

  -- the new lines have higher numbers
  both_stay : (n : ℕ) (xs : List Line) → AllLicensed s (xs ++ j.lines) → list_all (λ e. nat_le e.number n || fine l e) j.lines ≡ true
      → list_all (λ e. nat_le e.number (last_number s j) || fine l e) (xs ++ j.lines) ≡ true → list_all (λ e. nat_le e.number n || fine l e) (xs ++ j.lines) ≡ true
  both_stay n [] h old since = old
  both_stay n (x ∷ xs) h old since =
      let b = both_true (nat_le x.number (last_number s j) || fine l x) _ since in
      let number : x.number ≡ s.sent + length (xs ++ j.lines) + 1 = h.0.number_is in
      let many : length (xs ++ j.lines) ≡ length xs + length j.lines = length-append xs j.lines in
      and_true (nat_le x.number n || fine l x) _ (elim (either_true (nat_le x.number (last_number s j)) (fine l x) b.0) [
        | inl y ↦ (let less : x.number ≤ s.sent + length j.lines = is_at_most x.number (last_number s j) y in absurd (omega (arith, less, number, many)))
        | inr y ↦ or_right (nat_le x.number n) (fine l x) y
      ]) (both_stay n xs h.1 old b.1)

pub queries_keep : QueriesKeep
queries_keep p s most o i j l query a b = record {
  licensed = b.licensed;
  settled_is = b.settled_is ∙ a.settled_is;
  grows = (b.grows.0 ++ a.grows.0, b.grows.1 ∙ ap (λ (xs : List Line). b.grows.0 ++ xs) a.grows.1 ∙ sym (assoc b.grows.0 a.grows.0 i.lines));
  accepted = b.accepted;
  finished = by a.finished b.finished;
  reads = λ e. b.reads e ∙ a.reads e;
  only_more = λ x i. b.only_more x (a.only_more x i);
  same_line = λ x i. b.same_line x (a.only_more x i) ∙ a.same_line x i;
}
  where
    assoc : (us vs ws : List Line) → (us ++ vs) ++ ws ≡ us ++ (vs ++ ws)
    assoc [] vs ws = refl
    assoc (u ∷ us) vs ws = ap (λ zs. u ∷ zs) (assoc us vs ws)

    spent_still : nat_le most (length j.lines) ≡ true → nat_le most (length l.lines) ≡ true
    spent_still e =
        let less : most ≤ length j.lines = is_at_most most (length j.lines) e in
        let more : length l.lines ≡ length b.grows.0 + length j.lines = ap length b.grows.1 ∙ length-append b.grows.0 j.lines in
        at_most most (length l.lines) (omega (arith, less, more))

    done : is_finished p s j (last_number s i) ≡ true → is_finished p s l (last_number s j) ≡ true → is_finished p s l (last_number s i) ≡ true
    done f g =
        subst (λ (xs : List Line). list_all (λ e. nat_le e.number (last_number s i) || (is_served s l e && is_settled_line p s l e)) xs ≡ true) (sym b.grows.1)
        (both_stay p s j l b.grows.0 b.grows.1 (b.reads query) b.same_line (last_number s i) b.grows.0 (subst (λ (xs : List Line). AllLicensed s xs) b.grows.1 b.licensed)
        (old_stay p s j l b.grows.0 b.grows.1 (b.reads query) b.same_line (last_number s i) j.lines f)
        (subst (λ (xs : List Line). list_all (λ e. nat_le e.number (last_number s j) || (is_served s l e && is_settled_line p s l e)) xs ≡ true) b.grows.1 g))

    by : (nat_le most (length j.lines) ≡ true) ⊎ (is_finished p s j (last_number s i) ≡ true) → (nat_le most (length l.lines) ≡ true) ⊎ (is_finished p s l (last_number s j) ≡ true)
        → (nat_le most (length l.lines) ≡ true) ⊎ (is_finished p s l (last_number s i) ≡ true)
    by (inl x) y = inl (spent_still x)
    by (inr x) (inl y) = inl y
    by (inr x) (inr y) = inr (done x y)
