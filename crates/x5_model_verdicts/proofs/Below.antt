-- Where a line stands in a journal, what it goes back to, and that what was sent for one message was sent once.
use Rattle.std.proofs.Common.{◌≡◌, ℕ, ◌+◌, ◌-◌, Bool, true, false, ◌&&◌, ◌||◌, ◌==◌, nat_lt, ◌⊎◌, inl, inr, List, [], ◌∷◌, length, refl, sym, ap, subst, ◌∙◌, arith, Option, Some, None, if◌then◌else◌}
use Rattle.x5_model.specs.Words.{first_of, some_and}
use Rattle.x5_model.specs.Members.{In, here, there}
use Rattle.x5_model.proofs.Lists.{both_true, either_true, in_first, any_in}
use Rattle.x5_model.proofs.Decide.{nat_same_decides, less_decides}
use Rattle.x5_model_run.specs.Journal.{Line, depth, same_message, settled, siblings, some_line, opened_by, leads_up}
use Rattle.x5_model_run.specs.Chain.{Scene, Follows, Caused, begins, later, is_fresh, Licensed, AllLicensed}
use Rattle.x5_model_joins.proofs.Backs.{numbers}

-- ---- places in a journal

-- the line stands there, with these before it
abbrev pub At : List Line → Line → List Line → Type 0
At [] l e = ⊥
At (x ∷ xs) l e = ((l ≡ x) × (e ≡ xs)) ⊎ At xs l e

pub at_in : (xs : List Line) (l : Line) (e : List Line) → At xs l e → In l xs
at_in [] l e a = absurd a
at_in (x ∷ xs) l e (inl u) = subst (λ (y : Line). In y (x ∷ xs)) (sym u.0) here
at_in (x ∷ xs) l e (inr v) = there (at_in xs l e v)

pub before_in : (xs : List Line) (l : Line) (e : List Line) → At xs l e → (y : Line) → In y e → In y xs
before_in [] l e a y i = absurd a
before_in (x ∷ xs) l e (inl u) y i = there (subst (λ (ys : List Line). In y ys) u.1 i)
before_in (x ∷ xs) l e (inr v) y i = there (before_in xs l e v y i)

-- of two lines one stands before the other
pub either_first : (xs : List Line) (l : Line) (e : List Line) (m : Line) (f : List Line) → At xs l e → At xs m f → (l ≡ m) ⊎ (At e m f ⊎ At f l e)
either_first [] l e m f a b = absurd a
either_first (x ∷ xs) l e m f (inl u) (inl v) = inl (u.0 ∙ sym v.0)
either_first (x ∷ xs) l e m f (inl u) (inr v) = inr (inl (subst (λ (ys : List Line). At ys m f) (sym u.1) v))
either_first (x ∷ xs) l e m f (inr u) (inl v) = inr (inr (subst (λ (ys : List Line). At ys l e) (sym v.1) u))
either_first (x ∷ xs) l e m f (inr u) (inr v) = either_first xs l e m f u v

pub some_at : (test : Line → List Line → Bool) (lines : List Line) → some_line test lines ≡ true → (l : Line) × (e : List Line) × At lines l e × (test l e ≡ true)
some_at test [] h = cc
some_at test (x ∷ before) h = elim (either_true (test x before) _ h) [
  | inl t ↦ (x, before, inl (refl, refl), t)
  | inr t ↦ (let w = some_at test before t in (w.0, w.1, inr w.2, w.3))
]

pub of_some : {X : Type 0} (test : X → Bool) (o : Option X) → some_and test o ≡ true → (x : X) × (o ≡ Some x) × (test x ≡ true)
of_some test None h = cc
of_some test (Some x) h = (x, refl, h)

module _ (s : Scene) where
  pub licensed_at : (xs : List Line) (l : Line) (e : List Line) → AllLicensed s xs → At xs l e → Licensed s e l × AllLicensed s e
  licensed_at [] l e all a = absurd a
  licensed_at (x ∷ xs) l e all (inl u) = (
    subst (λ (ys : List Line). Licensed s ys l) (sym u.1) (subst (λ (y : Line). Licensed s xs y) (sym u.0) all.0),
    subst (λ (ys : List Line). AllLicensed s ys) (sym u.1) all.1,
  )
  licensed_at (x ∷ xs) l e all (inr v) = licensed_at xs l e all.1 v

  -- ---- numbers
  pub never_again : (z : Line) (zs : List Line) → AllLicensed s (z ∷ zs) → (y : Line) → In y zs → z.number ≡ y.number → ⊥
  never_again z zs all y i e =
      let n : z.number ≡ s.sent + length zs + 1 = all.0.number_is in
      let m = numbers s zs all.1 y i in
      omega (arith, e, n, m)

  pub same_number : (lines : List Line) → AllLicensed s lines → (x y : Line) → In x lines → In y lines → x.number ≡ y.number → x ≡ y
  same_number [] all x y i j e = elim i [ ]
  same_number (z ∷ zs) all x y i j e = elim (in_first x z zs i) [
    | inl a ↦ elim (in_first y z zs j) [
      | inl b ↦ a ∙ sym b
      | inr b ↦ absurd (never_again z zs all y b (sym (ap (λ (l : Line). l.number) a) ∙ e))
    ]
    | inr a ↦ elim (in_first y z zs j) [
      | inl b ↦ absurd (never_again z zs all x a (sym (ap (λ (l : Line). l.number) b) ∙ sym e))
      | inr b ↦ same_number zs all.1 x y a b e
    ]
  ]

  -- ---- the way up
  pub ended : (ends passes : Line → Bool) (d : ℕ) (lines : List Line) → leads_up ends passes d lines ≡ true → (l : Line) × In l lines × (ends l ≡ true)
  ended ends passes d [] h = cc
  ended ends passes d (x ∷ before) h = by (λ e. ended ends passes e before) (nat_lt d (depth x)) h
    where
      by : ((e : ℕ) → leads_up ends passes e before ≡ true → (l : Line) × In l before × (ends l ≡ true)) → (b : Bool)
          → (if b then leads_up ends passes d before else ends x || (passes x && leads_up ends passes (depth x - 1) before)) ≡ true → (l : Line) × In l (x ∷ before) × (ends l ≡ true)
      by rest true k = (let w = rest d k in (w.0, there w.1, w.2))
      by rest false k = elim (either_true (ends x) _ k) [
        | inl e ↦ (x, here, e)
        | inr e ↦ (let w = rest (depth x - 1) (both_true (passes x) _ e).1 in (w.0, there w.1, w.2))
      ]

  -- what holds where the way up ends, and of a line whose opener it holds of, holds of each line on the way
  module _ (full : List Line) (ends passes : Line → Bool) (P : Line → Type 0) (start : (x : Line) → In x full → ends x ≡ true → P x)
      (step : (x : Line) (before : List Line) → In x full → (f : Follows s before x) → In f.opener full → P f.opener → P x) (settled_in : (above : ℕ) (before : List Line) (o : Line) → first_of (settled above before) ≡ Some o → In o before) where
    pub climbs : (lines : List Line) → AllLicensed s lines → ((y : Line) → In y lines → In y full) → (d : ℕ) → leads_up ends passes d lines ≡ true → (o : Line) → first_of (settled d lines) ≡ Some o → P o
    climbs [] all sub d h o e = cc
    climbs (x ∷ before) all sub d h o e = by (λ n u. climbs before all.1 (λ y i. sub y (there i)) n u) (nat_lt d (depth x)) h e
      where
        caused : (earlier : List Line) → Caused s earlier x → ((y : Line) → In y earlier → In y full) → leads_up ends passes (depth x - 1) earlier ≡ true
            → ((q : Line) → first_of (settled (depth x - 1) earlier) ≡ Some q → P q) → P x
        caused _ (begins f) within up rest = cc
        caused earlier (later f fresh) within up rest =
            let above : depth x - 1 ≡ f.above = (let a : depth x ≡ f.above + 1 = f.deeper in omega (arith, a)) in
            step x earlier (sub x here) f (within f.opener (settled_in f.above earlier f.opener f.opens)) (rest f.opener (subst (λ (n : ℕ). first_of (settled n earlier) ≡ Some f.opener) (sym above) f.opens))

        by : ((n : ℕ) → leads_up ends passes n before ≡ true → (q : Line) → first_of (settled n before) ≡ Some q → P q) → (b : Bool)
            → (if b then leads_up ends passes d before else ends x || (passes x && leads_up ends passes (depth x - 1) before)) ≡ true
            → first_of (if b then settled d before else (x ∷ before)) ≡ Some o → P o
        by rest true u v = rest d u o v
        by rest false u v =
            let same : x ≡ o = cc in
            subst P same (elim (either_true (ends x) _ u) [
              | inl y ↦ start x (sub x here) y
              | inr y ↦ caused before all.0.cause (λ z j. sub z (there j)) (both_true (passes x) _ y).1 (rest (depth x - 1) (both_true (passes x) _ y).1)
            ])

  -- ---- sent once
  in_siblings : (d : ℕ) (lines : List Line) → AllLicensed s lines → (o : Line) → first_of (settled d lines) ≡ Some o → (m : Line) (f : List Line) → At lines m f → depth m ≡ d + 1 → In o f → In m (siblings d lines)
  in_siblings d [] all o e m f a deep i = absurd a
  in_siblings d (x ∷ before) all o e m f a deep i = by (nat_lt d (depth x)) refl e (λ u v. in_siblings d before all.1 o u m f v deep i)
    where
      more : (b : Bool) → In m (siblings d before) → In m (if b then x ∷ siblings d before else siblings d before)
      more true j = there j
      more false j = j

      front : (b : Bool) → b ≡ true → m ≡ x → In m (if b then x ∷ siblings d before else siblings d before)
      front true q u = subst (λ (y : Line). In y (x ∷ siblings d before)) (sym u) here
      front false q u = cc

      by : (b : Bool) → nat_lt d (depth x) ≡ b → first_of (if b then settled d before else (x ∷ before)) ≡ Some o → (first_of (settled d before) ≡ Some o → At before m f → In m (siblings d before))
          → In m (if b then (if depth x == (d + 1) then x ∷ siblings d before else siblings d before) else [])
      by true q v rest = elim a [
        | inl u ↦ front (depth x == (d + 1)) ((nat_same_decides (depth x) (d + 1)).1 (ap depth (sym u.0) ∙ deep)) u.0
        | inr w ↦ more (depth x == (d + 1)) (rest v w)
      ]
      by false q v rest =
          let same : x ≡ o = cc in
          elim a [
            | inl u ↦ (let far : depth x ≡ d + 1 = ap depth (sym u.0) ∙ deep in let t : nat_lt d (depth x) ≡ true = (less_decides d (depth x)).1 (omega (arith, far)) in cc)
            | inr w ↦ absurd (never_again x before all o (before_in before m f w o i) (ap (λ (l : Line). l.number) same))
          ]

  -- a line isn't fresh after one for the same message that asks the same
  pub not_twice : (o x y : Line) (e f : List Line) → AllLicensed s e → (g : Follows s e x) → is_fresh (siblings g.above e) x ≡ true → g.opener ≡ o → At e y f → depth y ≡ depth o + 1 → In o f → same_message x y ≡ true → ⊥
  not_twice o x y e f all g fresh opener a deep i same =
      let above : depth o ≡ g.above = ap depth (sym opener) ∙ g.at_above in
      let deeper : depth y ≡ g.above + 1 = omega (arith, deep, above) in
      let opens : first_of (settled g.above e) ≡ Some o = subst (λ (z : Line). first_of (settled g.above e) ≡ Some z) opener g.opens in
      let t = any_in (same_message x) y (siblings g.above e) (in_siblings g.above e all o opens y f a deeper i) same in
      cc

  -- who opened a line
  pub opened : (lines : List Line) → AllLicensed s lines → (o : Line) → In o lines → (settled_in : (above : ℕ) (before : List Line) (z : Line) → first_of (settled above before) ≡ Some z → In z before)
      → (x : Line) (e : List Line) → At lines x e → opened_by o.number e x ≡ true
      → (g : Follows s e x) × (is_fresh (siblings g.above e) x ≡ true) × (g.opener ≡ o) × (depth x ≡ depth o + 1) × In o e
  opened lines all o i settled_in x e a h =
      let up = of_some (λ z. (z.number == o.number) && ((depth z + 1) == depth x)) (first_of (settled (depth x - 1) e)) (both_true (nat_lt 0 (depth x)) _ h).1 in
      let both = both_true (up.0.number == o.number) ((depth up.0 + 1) == depth x) up.2 in
      let inside : In up.0 e = settled_in (depth x - 1) e up.0 up.1 in
      let is_o : up.0 ≡ o = same_number lines all up.0 o (before_in lines x e a up.0 inside) i ((nat_same_decides up.0.number o.number).0 both.0) in
      let far : depth x ≡ depth o + 1 = sym ((nat_same_decides (depth up.0 + 1) (depth x)).0 both.1) ∙ ap (λ (z : Line). depth z + 1) is_o in
      from up.0 is_o far e (licensed_at lines x e all a).0.cause up.1 inside
    where
      from : (u : Line) → u ≡ o → depth x ≡ depth o + 1 → (earlier : List Line) → Caused s earlier x → first_of (settled (depth x - 1) earlier) ≡ Some u → In u earlier
          → (g : Follows s earlier x) × (is_fresh (siblings g.above earlier) x ≡ true) × (g.opener ≡ o) × (depth x ≡ depth o + 1) × In o earlier
      from u is_o far _ (begins f) q j = elim j [ ]
      from u is_o far earlier (later f fresh) q j =
          let above : depth x - 1 ≡ f.above = (let y : depth x ≡ f.above + 1 = f.deeper in omega (arith, y)) in
          let mine : first_of (settled f.above earlier) ≡ Some u = subst (λ (n : ℕ). first_of (settled n earlier) ≡ Some u) above q in
          let opens : first_of (settled f.above earlier) ≡ Some f.opener = f.opens in
          let same : f.opener ≡ u = cc in
          (f, fresh, same ∙ is_o, far, subst (λ (z : Line). In z earlier) is_o j)
