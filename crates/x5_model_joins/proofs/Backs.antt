-- What came back to a line that itself came back to another's came back to that one too: the way up from a line passes
-- the first, since no two lines of a journal have one number, and goes on from there.
use Rattle.std.proofs.Common.{◌≡◌, ℕ, ◌+◌, ◌-◌, ◌≤◌, Bool, true, false, ◌&&◌, ◌||◌, ◌==◌, nat_lt, inl, inr, List, [], ◌∷◌, length, refl, sym, ap, subst, ◌∙◌, arith, if◌then◌else◌}
use Rattle.std.proofs.lemmas.Bool.Decides.{Decides-eqb}
use Rattle.x5_model.specs.Members.{In, here, there}
use Rattle.x5_model.specs.References.{Reference}
use Rattle.x5_model.proofs.Lists.{both_true, and_true, either_true, or_left, or_right, in_first, any_in}
use Rattle.x5_model_run.specs.Network.{is_sent}
use Rattle.x5_model_run.specs.Journal.{Line, depth, leads_up, some_line}
use Rattle.x5_model_run.specs.Chain.{Scene, AllLicensed}
use Rattle.x5_model_run.specs.Blocked.{Asked, is_answered_line, is_answered, came_back, hears_by, IsLost, user, asked}
use Rattle.x5_model_run.proofs.Journals.{leads_from}
use Rattle.x5_model_serve.specs.Claims.{asked_line}

abbrev sent : Line → Bool
sent x = is_sent x.fate

-- numbers rise
pub numbers : (s : Scene) (lines : List Line) → AllLicensed s lines → (l : Line) → In l lines → l.number ≤ s.sent + length lines
numbers s [] all l i = elim i [ ]
numbers s (x ∷ before) all l i = elim (in_first l x before i) [
  | inl e ↦ (let n : x.number ≡ s.sent + length before + 1 = all.0.number_is in let m : l.number ≡ x.number = ap (λ (y : Line). y.number) e in omega (arith, n, m))
  | inr j ↦ (let m = numbers s before all.1 l j in omega (arith, m))
]

-- the way up ends at a line
ended : (ends : Line → Bool) (d : ℕ) (lines : List Line) → leads_up ends sent d lines ≡ true → (l : Line) × In l lines × (ends l ≡ true)
ended ends d [] h = cc
ended ends d (x ∷ before) h = by (λ e. ended ends e before) (nat_lt d (depth x)) h
  where
    by : ((e : ℕ) → leads_up ends sent e before ≡ true → (l : Line) × In l before × (ends l ≡ true)) → (b : Bool)
        → (if b then leads_up ends sent d before else ends x || (sent x && leads_up ends sent (depth x - 1) before)) ≡ true → (l : Line) × In l (x ∷ before) × (ends l ≡ true)
    by rest true k = (let w = rest d k in (w.0, there w.1, w.2))
    by rest false k = elim (either_true (ends x) _ k) [
      | inl e ↦ (x, here, e)
      | inr e ↦ (let w = rest (depth x - 1) (both_true (sent x) _ e).1 in (w.0, there w.1, w.2))
    ]

-- some line passes what is asked of one
some_there : (test : Line → List Line → Bool) (check : Line → Bool) → ((l : Line) (before : List Line) → test l before ≡ true → check l ≡ true) → (lines : List Line) → some_line test lines ≡ true → (l : Line) × In l lines × (check l ≡ true)
some_there test check f [] h = cc
some_there test check f (x ∷ before) h = elim (either_true (test x before) _ h) [
  | inl e ↦ (x, here, f x before e)
  | inr e ↦ (let w = some_there test check f before e in (w.0, there w.1, w.2))
]

module _ (s : Scene) (q r : Asked) where
  abbrev first : Line → Bool
  first l = l.number == r.number

  only : (l : Line) → is_answered_line r l ≡ true → l.number ≡ r.number
  only l h = (Decides-eqb l.number r.number).0 (both_true (l.number == r.number) _ h).0

  never_twice : (x : Line) (before : List Line) → AllLicensed s (x ∷ before) → x.number ≡ r.number → (l : Line) → In l before → l.number ≡ r.number → ⊥
  never_twice x before all e l i f =
      let n : x.number ≡ s.sent + length before + 1 = all.0.number_is in
      let m = numbers s before all.1 l i in
      omega (arith, e, f, n, m)

  -- the line that brought the part came back here, or before
  pub further : (lines : List Line) → AllLicensed s lines → hears_by first q lines ≡ true → (d : ℕ) → leads_up (is_answered_line r) sent d lines ≡ true → leads_up (is_answered_line q) sent d lines ≡ true
  further [] all back d h = cc
  further (x ∷ before) all back d h = elim (either_true (first x && came_back q x before) _ back) [
    | inl now ↦
        let b = both_true (first x) (came_back q x before) now in
        at_first ((Decides-eqb x.number r.number).0 b.0) (sym (leads_from (is_answered_line q) sent x before) ∙ b.1) (nat_lt d (depth x)) h
    | inr old ↦ at_later (further before all.1 old) old (nat_lt d (depth x)) h
  ]
    where
      at_first : x.number ≡ r.number → (is_answered_line q x || (sent x && leads_up (is_answered_line q) sent (depth x - 1) before)) ≡ true → (b : Bool)
          → (if b then leads_up (is_answered_line r) sent d before else is_answered_line r x || (sent x && leads_up (is_answered_line r) sent (depth x - 1) before)) ≡ true
          → (if b then leads_up (is_answered_line q) sent d before else is_answered_line q x || (sent x && leads_up (is_answered_line q) sent (depth x - 1) before)) ≡ true
      at_first e up true k = let w = ended (is_answered_line r) d before k in absurd (never_twice x before all e w.0 w.1 (only w.0 w.2))
      at_first e up false k = up

      at_later : ((e : ℕ) → leads_up (is_answered_line r) sent e before ≡ true → leads_up (is_answered_line q) sent e before ≡ true) → hears_by first q before ≡ true → (b : Bool)
          → (if b then leads_up (is_answered_line r) sent d before else is_answered_line r x || (sent x && leads_up (is_answered_line r) sent (depth x - 1) before)) ≡ true
          → (if b then leads_up (is_answered_line q) sent d before else is_answered_line q x || (sent x && leads_up (is_answered_line q) sent (depth x - 1) before)) ≡ true
      at_later rest old true k = rest d k
      at_later rest old false k = elim (either_true (is_answered_line r x) _ k) [
        | inl e ↦
            let w = some_there (λ l earlier. first l && came_back q l earlier) first (λ l earlier y. (both_true (first l) _ y).0) before old in
            absurd (never_twice x before all (only x e) w.0 w.1 ((Decides-eqb w.0.number r.number).0 w.2))
        | inr e ↦ (let c = both_true (sent x) _ e in or_right (is_answered_line q x) _ (and_true (sent x) _ c.0 (rest (depth x - 1) c.1)))
      ]

  pub hears_further : (test : Line → Bool) (lines : List Line) → AllLicensed s lines → hears_by first q lines ≡ true → hears_by test r lines ≡ true → hears_by test q lines ≡ true
  hears_further test [] all back h = cc
  hears_further test (x ∷ before) all back h = elim (either_true (test x && came_back r x before) _ h) [
    | inl e ↦ (let b = both_true (test x) _ e in or_left _ _ (and_true (test x) _ b.0 (further (x ∷ before) all back (depth x) b.1)))
    | inr old ↦ elim (either_true (first x && came_back q x before) _ back) [
      | inr k ↦ or_right _ _ (hears_further test before all.1 k old)
      | inl now ↦
          let w = some_up before old in
          absurd (never_twice x before all ((Decides-eqb x.number r.number).0 (both_true (first x) _ now).0) w.0 w.1 (only w.0 w.2))
    ]
  ]
    where
      some_up : (lines : List Line) → hears_by test r lines ≡ true → (l : Line) × In l lines × (is_answered_line r l ≡ true)
      some_up [] k = cc
      some_up (y ∷ ys) k = elim (either_true (test y && came_back r y ys) _ k) [
        | inl e ↦ ended (is_answered_line r) (depth y) (y ∷ ys) (both_true (test y) _ e).1
        | inr e ↦ (let w = some_up ys e in (w.0, there w.1, w.2))
      ]

  -- who wasn't heard there wasn't heard here
  pub lost_further : (lines : List Line) → AllLicensed s lines → hears_by first q lines ≡ true → r.counts ≡ true → (u : Reference) → IsLost s r lines u → IsLost s q lines u
  lost_further lines all back counts u (user t) = absurd (let own = t.own in let e : true ≡ false = sym counts ∙ own in cc)
  lost_further lines all back counts u (asked t) = asked (record {
    line = t.line;
    full = t.full;
    stands = t.stands;
    back = hears_further (λ l. l.number == t.line.number) lines all back t.back;
    needed = t.needed;
    same = t.same;
    listed = t.listed;
    vain = t.vain;
    cleared = t.cleared;
  })

-- who was heard stands among the lines
pub heard_line : (test : Line → Bool) (q : Asked) (lines : List Line) → hears_by test q lines ≡ true → (l : Line) × In l lines × (test l ≡ true)
heard_line test q lines h = some_there (λ l before. test l && came_back q l before) test (λ l before e. (both_true (test l) (came_back q l before) e).0) lines h

-- a line comes back to itself
pub own_back : (test : Line → Bool) (l : Line) (stood : ℕ) (lines : List Line) → In l lines → test l ≡ true → hears_by test (asked_line l stood) lines ≡ true
own_back test l stood [] i h = elim i [ ]
own_back test l stood (x ∷ before) i h = elim (in_first l x before i) [
  | inl e ↦ or_left _ _ (and_true (test x) _ (subst (λ (y : Line). test y ≡ true) e h) (leads_from (is_answered_line (asked_line l stood)) sent x before ∙ or_left _ _ (and_true (x.number == l.number) _ ((Decides-eqb x.number l.number).1 (ap (λ (y : Line). y.number) (sym e))) refl)))
  | inr j ↦ or_right _ _ (own_back test l stood before j h)
]

pub own_answered : (l : Line) (stood : ℕ) (lines : List Line) → In l lines → is_answered (asked_line l stood) lines ≡ true
own_answered l stood lines i = any_in (is_answered_line (asked_line l stood)) l lines i (and_true (l.number == l.number) true ((Decides-eqb l.number l.number).1 refl) refl)
