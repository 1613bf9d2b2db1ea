-- The stamps of refreshes are moments of lines before, so four octets count them where they count the line's own
-- moment.
use Rattle.std.proofs.Common.{◌≡◌, ◌≤◌, ◌<◌, ℕ, ◌+◌, ◌^◌, ◌==◌, Bool, true, false, inl, inr, List, [], ◌∷◌, length, refl, ap, arith, Option, Some, None, if◌then◌else◌}
use Rattle.std.specs.List.{find}
use Rattle.x5_model.specs.Words.{in_option, when}
use Rattle.x5_model.specs.Members.{In}
use Rattle.x5_model.specs.Values.{key_of}
use Rattle.x5_model.proofs.Lists.{in_first, in_either, of_find}
use Rattle.x5_model_tree.specs.World.{Agreement, World}
use Rattle.x5_model_tree.specs.Masters.{masters}
use Rattle.x5_model_run.specs.History.{Refreshed, Deed, Nothing, Outs, Loses, Accepts, Refreshes, Splits, Unsplits, Did, Point, moment_of, knowledge_at, refresh_of, refreshes_of, stamp_of, as_of, acked}
use Rattle.x5_model_run.specs.Refresh.{consumed_by, supplied}
use Rattle.x5_model_refreshed.specs.Replaying.{Happens, AllHappen}
use Rattle.x5_model_refreshed.proofs.Stamping.{newest_in}
use Rattle.x5_model_fitting.specs.Requests.{CountWithin, IfThere}
use Rattle.x5_model_shadowing.specs.Lines.{LineIsCounted}

-- all stamps are so
abbrev AreLow : Point → ℕ → Type 0
AreLow p most = (number : ℕ) (f : Refreshed) → In f (refreshes_of p.past number) → f.stamp ≤ most

some_is : (a b : ℕ) → Some a ≡ Some b → a ≡ b
some_is a b e = cc

copy_low : (p : Point) (most number m : ℕ) → AreLow p most → as_of p number ≡ Some m → m ≤ most
copy_low p most number m low e =
    let w = newest_in (refreshes_of p.past number) m e in
    let l : w.0.stamp ≤ most = low number w.0 w.1 in
    let s : w.0.stamp ≡ m = w.2 in
    omega (arith, l, s)

acked_low : (p : Point) (most number m : ℕ) → AreLow p most → acked p number ≡ Some m → m ≤ most
acked_low p most number m low e = by (find (λ (f : Refreshed). f.acknowledged) (refreshes_of p.past number)) refl e
  where
    by : (o : Option Refreshed) → find (λ (f : Refreshed). f.acknowledged) (refreshes_of p.past number) ≡ o
        → stamp_of o ≡ Some m → m ≤ most
    by None q r = absurd (cc r)
    by (Some f) q r =
        let l : f.stamp ≤ most =
        low number f (of_find (λ (x : Refreshed). x.acknowledged) f (refreshes_of p.past number) q).0 in
        let s : f.stamp ≡ m = some_is f.stamp m r in
        omega (arith, l, s)

supplied_low : (p : Point) (g : Agreement) (m : ℕ) → AreLow p (length p.past) → supplied p g ≡ Some m
    → m ≤ length p.past + 1
supplied_low p g m low e = by (masters (knowledge_at p) g.supplier (key_of g.context)) e
  where
    copied : Option Agreement → Option ℕ
    copied o = in_option None (λ own. as_of p own.number) o

    of_copy : (o : Option Agreement) → copied o ≡ Some m → m ≤ length p.past + 1
    of_copy None q = absurd (cc q)
    of_copy (Some own) q =
        let l : m ≤ length p.past = copy_low p (length p.past) own.number m low q in omega (arith, l)

    by : (b : Bool)
        → (if b then Some (moment_of p) else copied (consumed_by (knowledge_at p) g.supplier (key_of g.context)))
        ≡ Some m
        → m ≤ length p.past + 1
    by true q = (let s : length p.past + 1 ≡ m = some_is (length p.past + 1) m q in omega (arith, s))
    by false q = of_copy (consumed_by (knowledge_at p) g.supplier (key_of g.context)) q

-- ---- line by line

one_when : (b : Bool) (f g : Refreshed) → In f (when b g) → f ≡ g
one_when true f g i = elim (in_first f g [] i) [ inl e ↦ e | inr j ↦ elim j [ ] ]
one_when false f g i = elim i [ ]

abbrev at_line : World → List Did → Point
at_line w past = record { described = w; past = past }

deed_low : (w : World) (before : List Did) (d : Deed) → Happens (at_line w before) d
    → AreLow (at_line w before) (length before) → (number : ℕ) (f : Refreshed) → In f (refresh_of d number)
    → f.stamp ≤ length before + 1
deed_low w before Nothing h low number f i = elim i [ ]
deed_low w before (Outs o) h low number f i = elim i [ ]
deed_low w before (Loses reply k) h low number f i = elim i [ ]
deed_low w before (Accepts accepted) h low number f i = elim i [ ]
deed_low w before (Splits name a) h low number f i = elim i [ ]
deed_low w before (Unsplits name) h low number f i = elim i [ ]
deed_low w before (Refreshes g) h low number f i =
    let same : f ≡ g = one_when (g.agreement == number) f g i in
    let stamp : f.stamp ≡ g.stamp = ap (λ (x : Refreshed). x.stamp) same in
    let l : g.stamp ≤ length before + 1 = supplied_low (at_line w before) h.agreement g.stamp low h.stamp in
    omega (arith, stamp, l)

stamps_low : (w : World) (past : List Did) → AllHappen w past → AreLow (at_line w past) (length past)
stamps_low w [] h number f i = elim i [ ]
stamps_low w (d ∷ before) h number f i =
    let low = stamps_low w before h.1 in
    elim (in_either f (refresh_of d.deed number) (refreshes_of before number) i) [
      | inl j ↦ (let l : f.stamp ≤ length before + 1 = deed_low w before d.deed h.0 low number f j in omega (arith, l))
      | inr j ↦ (let l : f.stamp ≤ length before = low number f j in omega (arith, l))
    ]

-- where there is one it is no later than the line
if_low : (o : Option ℕ) (most : ℕ) → ((m : ℕ) → o ≡ Some m → m ≤ most) → CountWithin most → IfThere CountWithin o
if_low None most f c = tt
if_low (Some m) most f c = (let l : m ≤ most = f m refl in omega (arith, l, c))

pub line_is_counted : LineIsCounted
line_is_counted p line =
    let low : AreLow p (length p.past) = stamps_low p.described p.past line.led.happened in
    let c : length p.past + 1 < 2 ^ 32 = line.counted in
    record {
      copies = λ number.
          if_low (as_of p number) (length p.past) (λ m e. copy_low p (length p.past) number m low e) (omega (arith, c));
      acked = λ number.
          if_low (acked p number) (length p.past) (λ m e. acked_low p (length p.past) number m low e)
          (omega (arith, c));
      supplied = λ g. if_low (supplied p g) (length p.past + 1) (λ m e. supplied_low p g m low e) c;
    }
