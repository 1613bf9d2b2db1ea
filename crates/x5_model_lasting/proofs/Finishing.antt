-- What is finished stays so: an accepting line is the first that may accept, and more lines can only hinder others;
-- what was taken is taken; and lines that are added have higher numbers.
use Rattle.std.proofs.Common.{◌≡◌, ℕ, ◌+◌, ◌-◌, ◌≤◌, Bool, true, false, cond, not, ◌&&◌, ◌||◌, ◌==◌, nat_le, nat_lt, inl, inr, List, [], ◌∷◌, ◌++◌, length, reverse, refl, sym, ap, subst, ◌∙◌, arith, length-append, Option, Some, None}
use Rattle.std.specs.List.{list_all, find}
use Rattle.std.proofs.lemmas.List.{reverse-append}
use Rattle.std.proofs.lemmas.Bool.{ltb-true}
use Rattle.std.proofs.lemmas.Bool.Decides.{leb_tells}
use Rattle.x5_model.specs.Words.{is_empty, some_and}
use Rattle.x5_model.specs.Members.{In, here}
use Rattle.x5_model.specs.References.{Reference}
use Rattle.x5_model.proofs.Lists.{in_first, both_true, and_true, either_true, not_true, or_left, or_right, of_find, of_any, any_in, of_all, all_in}
use Rattle.x5_model_tree.specs.Ask.{is_update}
use Rattle.x5_model_run.specs.Network.{arrives, is_unheard, is_sent}
use Rattle.x5_model_run.specs.Journal.{Line, Journal, depth, some_line, leads_up, is_reached}
use Rattle.x5_model_run.specs.Needs.{is_unable, due_probes}
use Rattle.x5_model_run.specs.History.{Point}
use Rattle.x5_model_run.specs.Chain.{Scene, AllLicensed, is_asked, is_probe_line}
use Rattle.x5_model_run.specs.Accepting.{carries_update, lacks_probe, may_accept, accepting, is_probed, is_later, is_done_before}
use Rattle.x5_model_run.specs.Right.{is_accepted_right}
use Rattle.x5_model_run.specs.Thorough.{is_served, is_taken, taken_needs, sends_itself}
use Rattle.x5_model_run.proofs.Growing.{all_grow}
use Rattle.x5_model_serve.specs.Claims.{Grows, Accepted, last_number, is_due_line, is_settled_line, takes_itself}
use Rattle.x5_model_lasting.specs.Lasting.{AcceptingStays, LineLeavesThem, Lasts, AcceptedStays, DoneStays, NotDoneStays, ServedStays, ServedItselfStays, SettledStays, FinishedStays, ThoroughStays, FinishedIsThorough}
use Rattle.x5_model_lasting.proofs.Lines.{grown, taken_stays}

pub at_most : (a b : ℕ) → a ≤ b → nat_le a b ≡ true
at_most a b l = elim (leb_tells a b) [ inl t ↦ t.0 | inr f ↦ (let m = f.1 in absurd (omega (arith, l, m))) ]

pub is_at_most : (a b : ℕ) → nat_le a b ≡ true → a ≤ b
is_at_most a b e = elim (leb_tells a b) [ inl t ↦ t.1 | inr f ↦ (let x = f.0 in cc) ]

-- ---- accepting lines

-- the first that passes is the first that passes a harder test, if it does, whatever comes behind
find_harder : {A : Type 0} (f g : A → Bool) (harder : (x : A) → g x ≡ true → f x ≡ true) (e : A) (xs ys : List A)
    → find f xs ≡ Some e → g e ≡ true → find g (xs ++ ys) ≡ Some e
find_harder f g harder e [] ys h passes = cc
find_harder f g harder e (x ∷ xs) ys h passes = by (f x) (g x) refl refl h (λ k. find_harder f g harder e xs ys k passes)
  where
    by : (b c : Bool) → f x ≡ b → g x ≡ c → cond b (Some x) (find f xs) ≡ Some e → (find f xs ≡ Some e → find g (xs ++ ys) ≡ Some e)
        → cond c (Some x) (find g (xs ++ ys)) ≡ Some e
    by true true p q k rest = k
    by true false p q k rest = (let same : x ≡ e = cc in let r : g x ≡ true = ap g same ∙ passes in cc)
    by false true p q k rest = (let r : f x ≡ true = harder x q in cc)
    by false false p q k rest = rest k

-- a line that may accept by more lines may by fewer
pub may_before : (s : Scene) (l : Line) (lines : List Line) (a : ℕ) (e : Line) → may_accept s (l ∷ lines) a e ≡ true
    → may_accept s lines a e ≡ true
may_before s l lines a e h =
    let b = both_true (e.receiver == a) _ h in
    let c = both_true (arrives e.fate) _ b.1 in
    let d = both_true (carries_update s e) _ c.1 in
    let f = both_true (not (is_unable (s.holdings a) e.message)) _ d.1 in
    and_true (e.receiver == a) _ b.0 (and_true (arrives e.fate) _ c.0 (and_true (carries_update s e) _ d.0
    (and_true (not (is_unable (s.holdings a) e.message)) _ f.0
    (by (lacks_probe s e.number l lines) (some_line (lacks_probe s e.number) lines) f.1))))
  where
    by : (x y : Bool) → not (x || y) ≡ true → not y ≡ true
    by true y k = cc
    by false y k = k

-- and one that may by fewer does by more, if no unheard probe came below it
may_after : (s : Scene) (l : Line) (lines : List Line) (a : ℕ) (e : Line) → may_accept s lines a e ≡ true
    → lacks_probe s e.number l lines ≡ false → may_accept s (l ∷ lines) a e ≡ true
may_after s l lines a e h fine =
    let b = both_true (e.receiver == a) _ h in
    let c = both_true (arrives e.fate) _ b.1 in
    let d = both_true (carries_update s e) _ c.1 in
    let f = both_true (not (is_unable (s.holdings a) e.message)) _ d.1 in
    and_true (e.receiver == a) _ b.0 (and_true (arrives e.fate) _ c.0 (and_true (carries_update s e) _ d.0
    (and_true (not (is_unable (s.holdings a) e.message)) _ f.0
    (by (lacks_probe s e.number l lines) (some_line (lacks_probe s e.number) lines) fine f.1))))
  where
    by : (x y : Bool) → x ≡ false → not y ≡ true → not (x || y) ≡ true
    by true y k m = cc
    by false y k m = m

one_accepting : (s : Scene) (a : ℕ) (e l : Line) (lines : List Line) → accepting s lines a ≡ Some e
    → lacks_probe s e.number l lines ≡ false
    → accepting s (l ∷ lines) a ≡ Some e
one_accepting s a e l lines h fine =
    ap (λ (xs : List Line). find (may_accept s (l ∷ lines) a) xs) (reverse-append (l ∷ []) lines)
    ∙ find_harder (may_accept s lines a) (may_accept s (l ∷ lines) a) (may_before s l lines a) e (reverse lines) (reverse (l ∷ [])) h
    (may_after s l lines a e (of_find (may_accept s lines a) e (reverse lines) h).1 fine)

pub accepting_stays : AcceptingStays
accepting_stays s a e i j g h fine =
    subst (λ (xs : List Line). accepting s xs a ≡ Some e) (sym g.1)
    (more g.0 (subst (λ (xs : List Line). some_line (lacks_probe s e.number) xs ≡ false) g.1 fine))
  where
    more : (new : List Line) → some_line (lacks_probe s e.number) (new ++ i.lines) ≡ false → accepting s (new ++ i.lines) a ≡ Some e
    more [] f = h
    more (x ∷ new) f =
        let b = neither (lacks_probe s e.number x (new ++ i.lines)) (some_line (lacks_probe s e.number) (new ++ i.lines)) f in
        one_accepting s a e x (new ++ i.lines) (more new b.1) b.0
      where
        neither : (x y : Bool) → (x || y) ≡ false → (x ≡ false) × (y ≡ false)
        neither true y k = cc
        neither false y k = (refl, k)

there_is : (o : Option Line) (test : Line → Bool) → some_and test o ≡ true → (e : Line) × (o ≡ Some e) × (test e ≡ true)
there_is None test h = cc
there_is (Some e) test h = (e, refl, h)

pub accepted_by : (p : Point) (s : Scene) (i : Journal) → Accepted p s i → (a : ℕ) → In a i.accepted
    → (e : Line) × (accepting s i.lines a ≡ Some e) × (is_probed s i.lines e ≡ true)
accepted_by p s i acc a k =
    there_is (accepting s i.lines a) (is_probed s i.lines) (of_all
    (λ a. some_and (is_probed s i.lines) (accepting s i.lines a)) a i.accepted acc.probed k)

pub line_leaves_them : LineLeavesThem
line_leaves_them p s l i acc (inr none) a k = elim (subst (λ (xs : List ℕ). In a xs) none k) [ ]
line_leaves_them p s l i acc (inl plain) a k =
    let w = accepted_by p s i acc a k in
    one_accepting s a w.0 l i.lines w.1 (no (is_probe_line s l)
    (is_unheard l.fate && leads_up (λ x. x.number == w.0.number) (λ x. true) (depth l - 1) i.lines) plain) ∙ sym w.1
  where
    no : (b c : Bool) → b ≡ false → (b && c) ≡ false
    no true c e = cc
    no false c e = refl

-- ---- what was accepted

pub accepted_stays : AcceptedStays
accepted_stays p s i j g same lines acc = record {
  one = subst (λ (xs : List ℕ). length xs ≤ 1) (sym same) acc.one;
  right = subst (λ (xs : List ℕ). list_all (is_accepted_right p s j.lines) xs ≡ true) (sym same)
      (all_grow (is_accepted_right p s i.lines) (is_accepted_right p s j.lines) right i.accepted acc.right);
  probed = subst (λ (xs : List ℕ). list_all (λ a. some_and (is_probed s j.lines) (accepting s j.lines a)) xs ≡ true) (sym same)
      (all_in (λ a. some_and (is_probed s j.lines) (accepting s j.lines a)) i.accepted probed);
}
  where
    right : (a : ℕ) → is_accepted_right p s i.lines a ≡ true → is_accepted_right p s j.lines a ≡ true
    right a h =
        let b = both_true (is_update s.message.request.body) _ h in
        let c = both_true (is_reached i.lines a) _ b.1 in
        and_true (is_update s.message.request.body) _ b.0
        (and_true (is_reached j.lines a) _ (grown (λ lines. is_reached lines a ≡ true) (λ l lines e. or_right _ _ e) i j g c.0) c.1)

    asked : (number : ℕ) (r : Reference) (a : ℕ) → is_asked is_sent i.lines number r a ≡ true → is_asked is_sent j.lines number r a ≡ true
    asked number r a = grown (λ lines. is_asked is_sent lines number r a ≡ true) (λ l lines e. or_right _ _ e) i j g

    heard : (e : Line) → is_probed s i.lines e ≡ true → is_probed s j.lines e ≡ true
    heard e = all_grow (λ r. list_all (is_asked is_sent i.lines e.number r) r.agents)
        (λ r. list_all (is_asked is_sent j.lines e.number r) r.agents)
        (λ r. all_grow (is_asked is_sent i.lines e.number r) (is_asked is_sent j.lines e.number r) (asked e.number r) r.agents)
        (due_probes (s.holdings e.receiver) e.message)

    probed : (a : ℕ) → In a i.accepted → some_and (is_probed s j.lines) (accepting s j.lines a) ≡ true
    probed a k =
        let w = accepted_by p s i acc a k in
        ap (some_and (is_probed s j.lines)) (lines a k ∙ w.1) ∙ heard w.0 w.2

-- ---- what is served and settled

pub done_stays : DoneStays
done_stays s l i j b h =
    let w = of_any (λ a. some_and (is_later s a l) (accepting s i.lines a)) i.accepted h in
    any_in (λ a. some_and (is_later s a l) (accepting s j.lines a)) w.0 j.accepted (b.only_more w.0 w.1)
    (ap (some_and (is_later s w.0 l)) (b.same_line w.0 w.1) ∙ w.2)

pub not_done_stays : NotDoneStays
not_done_stays s l i j same later h = by (is_done_before s j l) refl
  where
    by : (b : Bool) → is_done_before s j l ≡ b → b ≡ false
    by false e = refl
    by true e =
        let w = of_any (λ a. some_and (is_later s a l) (accepting s j.lines a)) j.accepted e in
        elim (later w.0 w.1) [
          | inl k ↦ (let t : is_done_before s i l ≡ true = any_in (λ a. some_and (is_later s a l) (accepting s i.lines a)) w.0 i.accepted k
              (sym (ap (some_and (is_later s w.0 l)) (same w.0 k)) ∙ w.2) in cc)
          | inr x ↦ (let t : is_later s w.0 l x.0 ≡ true = sym (ap (some_and (is_later s w.0 l)) x.1) ∙ w.2 in
              let less : nat_lt x.0.number l.number ≡ true =
              (both_true (nat_lt x.0.number l.number) (carries_update s l) (both_true (l.receiver == w.0) _ t).1).0 in
              let below = ltb-true _ _ less in
              let above = x.2 in
              absurd (omega (arith, below, above)))
        ]

pub served_stays : ServedStays
served_stays s l i j b h = elim (either_true (not (arrives l.fate)) _ h) [
  | inl a ↦ or_left (not (arrives l.fate)) (is_done_before s j l || list_all (is_taken s j.lines l) (taken_needs s l)) a
  | inr a ↦ or_right (not (arrives l.fate)) (is_done_before s j l || list_all (is_taken s j.lines l) (taken_needs s l))
      (elim (either_true (is_done_before s i l) _ a) [
        | inl d ↦ or_left (is_done_before s j l) (list_all (is_taken s j.lines l) (taken_needs s l)) (done_stays s l i j b d)
        | inr t ↦ or_right (is_done_before s j l) (list_all (is_taken s j.lines l) (taken_needs s l))
            (all_grow (is_taken s i.lines l) (is_taken s j.lines l) (λ r. taken_stays s l r i j b.grows) (taken_needs s l) t)
      ])
]

pub served_itself_stays : ServedItselfStays
served_itself_stays s l i j b h = elim (either_true (is_done_before s i l) (takes_itself s i l) h) [
  | inl d ↦ or_left (is_done_before s j l) (takes_itself s j l) (done_stays s l i j b d)
  | inr t ↦ or_right (is_done_before s j l) (takes_itself s j l)
      (all_grow (λ r. not (sends_itself s l r) || is_taken s i.lines l r) (λ r. not (sends_itself s l r) || is_taken s j.lines l r) one
      (taken_needs s l) t)
]
  where
    one : (r : Reference) → (not (sends_itself s l r) || is_taken s i.lines l r) ≡ true
        → (not (sends_itself s l r) || is_taken s j.lines l r) ≡ true
    one r e = elim (either_true (not (sends_itself s l r)) (is_taken s i.lines l r) e) [
      | inl x ↦ or_left (not (sends_itself s l r)) (is_taken s j.lines l r) x
      | inr x ↦ or_right (not (sends_itself s l r)) (is_taken s j.lines l r) (taken_stays s l r i j b.grows x)
    ]

pub due_before : (p : Point) (s : Scene) (l : Line) (i j : Journal) → Grows i j → is_due_line p s j l ≡ true → is_due_line p s i l ≡ true
due_before p s l i j g h =
    let b = both_true (may_accept s j.lines l.receiver l) _ h in
    and_true (may_accept s i.lines l.receiver l) _
    (fewer g.0 (subst (λ (xs : List Line). may_accept s xs l.receiver l ≡ true) g.1 b.0)) b.1
  where
    fewer : (new : List Line) → may_accept s (new ++ i.lines) l.receiver l ≡ true → may_accept s i.lines l.receiver l ≡ true
    fewer [] e = e
    fewer (x ∷ new) e = fewer new (may_before s x (new ++ i.lines) l.receiver l e)

some_more_accepted : (i j : Journal) → ((a : ℕ) → In a i.accepted → In a j.accepted) → not (is_empty i.accepted) ≡ true
    → not (is_empty j.accepted) ≡ true
some_more_accepted i j more e = to j.accepted (of i.accepted more e)
  where
    of : (xs : List ℕ) → ((a : ℕ) → In a xs → In a j.accepted) → not (is_empty xs) ≡ true → (a : ℕ) × In a j.accepted
    of [] m f = cc
    of (x ∷ xs) m f = (x, m x here)

    to : (ys : List ℕ) → (a : ℕ) × In a ys → not (is_empty ys) ≡ true
    to [] w = elim w.1 [ ]
    to (y ∷ ys) w = refl

pub settled_stays : SettledStays
settled_stays p s l i j g more h = elim (either_true (not (is_due_line p s i l)) (not (is_empty i.accepted)) h) [
  | inl a ↦ or_left (not (is_due_line p s j l)) (not (is_empty j.accepted))
      (by (is_due_line p s j l) refl (not_true (is_due_line p s i l) a))
  | inr a ↦ or_right (not (is_due_line p s j l)) (not (is_empty j.accepted)) (some_more_accepted i j more a)
]
  where
    by : (x : Bool) → is_due_line p s j l ≡ x → is_due_line p s i l ≡ false → not (is_due_line p s j l) ≡ true
    by true q k = (let t : true ≡ false = sym (due_before p s l i j g q) ∙ k in cc)
    by false q k = ap not q

-- ---- what is finished

module _ (p : Point) (s : Scene) (i j : Journal) (b : Lasts s i j) where
  abbrev pub fine : Journal → Line → Bool
  fine k l = is_served s k l && is_settled_line p s k l

  abbrev pub since : ℕ → Journal → Line → Bool
  since n k l = nat_le l.number n || fine k l

  one_stays : (n : ℕ) (l : Line) → since n i l ≡ true → since n j l ≡ true
  one_stays n l h = elim (either_true (nat_le l.number n) (fine i l) h) [
    | inl y ↦ or_left (nat_le l.number n) (fine j l) y
    | inr y ↦ (let c = both_true (is_served s i l) (is_settled_line p s i l) y in
        or_right (nat_le l.number n) (fine j l)
        (and_true (is_served s j l) (is_settled_line p s j l) (served_stays s l i j b c.0)
        (settled_stays p s l i j b.grows b.only_more c.1)))
  ]

  -- the new lines have higher numbers
  pub both_stay : (n : ℕ) (new : List Line) → AllLicensed s (new ++ i.lines) → list_all (since n j) i.lines ≡ true
      → list_all (since (last_number s i) j) (new ++ i.lines) ≡ true → list_all (since n j) (new ++ i.lines) ≡ true
  both_stay n [] h old new = old
  both_stay n (x ∷ xs) h old new =
      let c = both_true (since (last_number s i) j x) _ new in
      let number : x.number ≡ s.sent + length (xs ++ i.lines) + 1 = h.0.number_is in
      let many : length (xs ++ i.lines) ≡ length xs + length i.lines = length-append xs i.lines in
      and_true (since n j x) _ (elim (either_true (nat_le x.number (last_number s i)) (fine j x) c.0) [
        | inl y ↦ (let less : x.number ≤ s.sent + length i.lines = is_at_most x.number (last_number s i) y in absurd
            (omega (arith, less, number, many)))
        | inr y ↦ or_right (nat_le x.number n) (fine j x) y
      ]) (both_stay n xs h.1 old c.1)

pub finished_stays : FinishedStays
finished_stays p s n i j b licensed old new =
    subst (λ (xs : List Line). list_all (since p s i j b n j) xs ≡ true) (sym b.grows.1)
    (both_stay p s i j b n b.grows.0 (subst (λ (xs : List Line). AllLicensed s xs) b.grows.1 licensed)
    (all_grow (since p s i j b n i) (since p s i j b n j) (one_stays p s i j b n) i.lines old)
    (subst (λ (xs : List Line). list_all (since p s i j b (last_number s i) j) xs ≡ true) b.grows.1 new))

pub thorough_stays : ThoroughStays
thorough_stays s i j b new h = all_in (is_served s j) j.lines (λ l k. elim (new l k) [
  | inl old ↦ served_stays s l i j b (of_all (is_served s i) l i.lines h old)
  | inr e ↦ e
])

pub finished_is_thorough : FinishedIsThorough
finished_is_thorough p s j licensed h = (
  all_in (is_served s j) j.lines (λ l k. (both_true (is_served s j l) (is_settled_line p s j l) (each l k)).0),
  all_in (is_settled_line p s j) j.lines (λ l k. (both_true (is_served s j l) (is_settled_line p s j l) (each l k)).1),
)
  where
    -- each line has a number above those that were sent before
    above : (lines : List Line) → AllLicensed s lines → (l : Line) → In l lines → s.sent + 1 ≤ l.number
    above [] a l k = elim k [ ]
    above (x ∷ lines) a l k = elim (in_first l x lines k) [
      | inl same ↦ subst (λ (y : Line). s.sent + 1 ≤ y.number) (sym same)
          (let number : x.number ≡ s.sent + length lines + 1 = a.0.number_is in omega (arith, number))
      | inr old ↦ above lines a.1 l old
    ]

    each : (l : Line) → In l j.lines → (is_served s j l && is_settled_line p s j l) ≡ true
    each l k = elim (either_true (nat_le l.number s.sent) (is_served s j l && is_settled_line p s j l)
        (of_all (λ x. nat_le x.number s.sent || (is_served s j x && is_settled_line p s j x)) l j.lines h k)) [
          | inl e ↦ (let less = is_at_most l.number s.sent e in let more = above j.lines licensed l k in absurd (omega (arith, less, more)))
          | inr e ↦ e
        ]
