-- How costs add, what a line adds, and that a reply that is lost pays for all that was done for it.
use Rattle.std.proofs.Common.{◌≡◌, ℕ, suc, ◌+◌, ◌≤◌, Bool, true, false, not, ◌||◌, ◌==◌, List, [], ◌∷◌, ◌++◌, length, refl, ap, arith, length-append, Option, if◌then◌else◌}
use Rattle.x5_model.specs.Words.{has}
use Rattle.x5_model.specs.References.{Chained}
use Rattle.x5_model_tree.specs.World.{Network}
use Rattle.x5_model_run.specs.Network.{Lost, NoReply, Sent, fate_of, reaches}
use Rattle.x5_model_run.specs.Journal.{Line, Journal}
use Rattle.x5_model_run.specs.History.{Point}
use Rattle.x5_model_run.specs.Chain.{Scene}
use Rattle.x5_model_serve.specs.Serving.{line_of, with_line}
use Rattle.x5_model_bounds.specs.Costs.{total, lost_cost, Costs, whole_cost}
use Rattle.x5_model_bounds.specs.Bounds.{Stays, After}

-- ---- lines

pub costs_none : (s : Scene) (w : ℕ) (i j : Journal) (n : ℕ) → j.lines ≡ i.lines → Costs s w i j n
costs_none s w i j n e = rw e (omega arith)

pub costs_then : (s : Scene) (w : ℕ) (i j l : Journal) (n m t : ℕ) → Costs s w i j n → Costs s w j l m → n + m ≤ t → Costs s w i l t
costs_then s w i j l n m t p q h = add (length i.lines) (length j.lines) (length l.lines) (lost_cost s w (length i.lines)) (lost_cost s w (length j.lines)) (lost_cost s w (length l.lines)) p q
  where
    add : (a b c x y z : ℕ) → b + x ≤ (a + n) + y → c + y ≤ (b + m) + z → c + x ≤ (a + t) + z
    add a b c x y z p q = omega arith

pub costs_more : (s : Scene) (w : ℕ) (i j : Journal) (n m : ℕ) → Costs s w i j n → n ≤ m → Costs s w i j m
costs_more s w i j n m p h = add (length i.lines) (length j.lines) (lost_cost s w (length i.lines)) (lost_cost s w (length j.lines)) p
  where
    add : (a b x y : ℕ) → b + x ≤ (a + n) + y → b + x ≤ (a + m) + y
    add a b x y p = omega arith

pub costs_line : (s : Scene) (w : ℕ) (l : Line) (i : Journal) → Costs s w i (with_line l i) 1
costs_line s w l i = add (length i.lines) (lost_cost s w (length i.lines)) (if has ◌==◌ s.network.lost_replies (s.sent + length i.lines + 1) then w else 0)
  where
    add : (a x y : ℕ) → suc a + x ≤ (a + 1) + (y + x)
    add a x y = omega arith

-- whose reply is lost pays for what is done meanwhile
lost_fate : (net : Network) (number : ℕ) (from : Option ℕ) (to : ℕ) → fate_of net number from to ≡ NoReply → has ◌==◌ net.lost_replies number ≡ true
lost_fate net number from to e = go (not (reaches net from to) || has ◌==◌ net.lost_messages number) (has ◌==◌ net.lost_replies number) e
  where
    go : (a b : Bool) → (if a then Lost else (if b then NoReply else Sent)) ≡ NoReply → b ≡ true
    go true b f = cc
    go false true f = refl
    go false false f = cc

pub costs_dropped : (s : Scene) (w : ℕ) (from : Option ℕ) (a : ℕ) (m : Chained) (i j : Journal) (n : ℕ) → (line_of s i from a m).fate ≡ NoReply
    → Costs s w (with_line (line_of s i from a m) i) j n → n ≤ w → Costs s w i j 1
costs_dropped s w from a m i j n e p h =
    let lost : has ◌==◌ s.network.lost_replies (s.sent + length i.lines + 1) ≡ true = lost_fate s.network (s.sent + length i.lines + 1) from a e in
    add (length i.lines) (length j.lines) (lost_cost s w (length i.lines)) (lost_cost s w (length j.lines)) (if has ◌==◌ s.network.lost_replies (s.sent + length i.lines + 1) then w else 0)
    (ap (λ (b : Bool). if b then w else 0) lost) p
  where
    add : (a b x y z : ℕ) → z ≡ w → b + (z + x) ≤ (suc a + n) + y → b + x ≤ (a + 1) + y
    add a b x y z e p = omega arith

-- ---- sums

pub total_last : {X : Type 0} (f : X → ℕ) (xs : List X) (y : X) → total f (xs ++ y ∷ []) ≡ total f xs + f y
total_last f [] y = omega arith
total_last f (x ∷ xs) y = let h : total f (xs ++ y ∷ []) ≡ total f xs + f y = total_last f xs y in omega arith

pub total_within : {X : Type 0} (f : X → ℕ) (xs : List X) (y : X) (ys : List X) → total f xs + f y ≤ total f (xs ++ y ∷ ys)
total_within f [] y ys = omega arith
total_within f (x ∷ xs) y ys = let h : total f xs + f y ≤ total f (xs ++ y ∷ ys) = total_within f xs y ys in omega arith

pub length_last : {X : Type 0} (xs : List X) (y : X) → length xs + 1 ≡ length (xs ++ y ∷ [])
length_last xs y = omega (arith, length-append xs (y ∷ []))

pub length_within : {X : Type 0} (zs xs : List X) (y : X) (ys : List X) → zs ≡ xs ++ y ∷ ys → length xs + 1 ≤ length zs
length_within zs xs y ys e = omega (arith, ap length e, length-append xs (y ∷ ys))

-- ---- journals

module _ (p : Point) (s : Scene) (asks : Bool) where
  pub stays_lined : (l : Line) (i : Journal) → Stays p s asks i → Stays p s asks (with_line l i)
  stays_lined l i st = record { masters = st.masters; quiet = st.quiet }

  pub after_none : (i : Journal) (n : ℕ) → Stays p s asks i → After p s asks i i n
  after_none i n st = record { stays = st; costs = costs_none s (whole_cost p) i i n refl }

  pub after_then : (i j l : Journal) (n m t : ℕ) → After p s asks i j n → After p s asks j l m → n + m ≤ t → After p s asks i l t
  after_then i j l n m t a b h = record { stays = b.stays; costs = costs_then s (whole_cost p) i j l n m t a.costs b.costs h }

  pub after_more : (i j : Journal) (n t : ℕ) → After p s asks i j n → n ≤ t → After p s asks i j t
  after_more i j n t a h = record { stays = a.stays; costs = costs_more s (whole_cost p) i j n t a.costs h }
