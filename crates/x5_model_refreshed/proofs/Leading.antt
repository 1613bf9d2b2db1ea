-- What each line of a run over consistent knowledge finds: no context was moved, so the knowledge is that of the described
-- world, and the tree has its pins; and what a line did is told by the updates that it accepted.
use Rattle.std.proofs.Common.{◌≡◌, ℕ, suc, ◌-◌, ◌≤◌, ◌==◌, ◌&&◌, true, List, [], ◌∷◌, map, length, drop, refl, ap, subst, ◌∙◌, arith, inl, inr, Ok, Err}
use Rattle.x5_model.specs.Members.{In}
use Rattle.x5_model.specs.Keys.{Key, same_key}
use Rattle.x5_model.proofs.KeyLaws.{key_decides}
use Rattle.x5_model.proofs.Lists.{in_map, of_any, both_true}
use Rattle.x5_model_tree.specs.World.{World}
use Rattle.x5_model_tree.specs.Tree.{Tree}
use Rattle.x5_model_tree.specs.Masters.{Mastered, pin_of, mastered, masters, pins}
use Rattle.x5_model_tree.specs.Consistent.{IsConsistent}
use Rattle.x5_model_tree.specs.Described.{IsDescribed}
use Rattle.x5_model_run.specs.History.{Deed, Nothing, Outs, Loses, Accepts, Refreshes, Splits, Unsplits, Did, Point, Acceptance, tree_with, tree_accepting, tree_after, tree_by, tree_at, knowledge_by, knowledge_after}
use Rattle.x5_model.specs.Requests.{Request}
use Rattle.x5_model_tree.specs.Apply.{Applied, apply}
use Rattle.x5_model_updates.proofs.Outcomes.{ok_or_err, tree_made}
use Rattle.x5_model_run.specs.Refresh.{accepted_in}
use Rattle.x5_model_theory.specs.Knowledge.{Area}
use Rattle.x5_model_theory.specs.Described.{area_of}
use Rattle.x5_model_theory.proofs.Cohering.{map_map}
use Rattle.x5_model_updates.specs.Standing.{StandsWhole}
use Rattle.x5_model_updates.specs.Keeping.{MovesNone, NoneMoved}
use Rattle.x5_model_updates.proofs.Moments.{with_tree, mastered_now, now_mastered}
use Rattle.x5_model_updates.proofs.Stood.{lines_stand}
use Rattle.x5_model_refreshed.specs.Replaying.{AreTaken, Happens, AllHappen}

abbrev pub at_line : World → List Did → Point
at_line w past = record { described = w; past = past }

module _ (p : Point) where
  pub moves_none : (x : Deed) → Happens p x → MovesNone x
  moves_none Nothing h = tt
  moves_none (Outs o) h = tt
  moves_none (Loses reply k) h = tt
  moves_none (Accepts accepted) h = tt
  moves_none (Refreshes f) h = tt
  moves_none (Splits name a) h = absurd h
  moves_none (Unsplits name) h = absurd h

  pub accepts_taken : (x : Deed) → Happens p x → AreTaken (tree_at p) (accepted_in x)
  accepts_taken Nothing h = tt
  accepts_taken (Outs o) h = tt
  accepts_taken (Loses reply k) h = tt
  accepts_taken (Accepts accepted) h = h
  accepts_taken (Refreshes f) h = tt
  accepts_taken (Splits name a) h = absurd h
  accepts_taken (Unsplits name) h = absurd h

  pub tree_accepted : (t : Tree) (x : Deed) → Happens p x → tree_after x t ≡ tree_accepting (accepted_in x) t
  tree_accepted t Nothing h = refl
  tree_accepted t (Outs o) h = refl
  tree_accepted t (Loses reply k) h = refl
  tree_accepted t (Accepts accepted) h = refl
  tree_accepted t (Refreshes f) h = refl
  tree_accepted t (Splits name a) h = absurd h
  tree_accepted t (Unsplits name) h = absurd h

-- the tree of a moment before a line is that of the line before
pub tree_before : (w : World) (d : Did) (before : List Did) (m : ℕ) → m ≤ length before
    → tree_by w (drop (length (d ∷ before) - m) (d ∷ before)) ≡ tree_by w (drop (length before - m) before)
tree_before w d before m l =
    let e : length (d ∷ before) - m ≡ suc (length before - m) = omega arith in
    ap (λ (n : ℕ). tree_by w (drop n (d ∷ before))) e

-- and that of its own moment is the one that it leaves
pub tree_now : (w : World) (past : List Did) (m : ℕ) → m ≡ length past → tree_by w (drop (length past - m) past) ≡ tree_by w past
tree_now w past m s = (let e : length past - m ≡ 0 = omega arith in ap (λ (n : ℕ). tree_by w (drop n past)) e)

abbrev as_left : Tree → Applied → Tree
as_left t (Ok u) = u
as_left t (Err x) = t

module _ (w : World) where
  pub none_moved : (past : List Did) → AllHappen w past → NoneMoved past
  none_moved [] h = tt
  none_moved (d ∷ before) h = (moves_none (at_line w before) d.deed h.0, none_moved before h.1)

  pub knowledge_stays : (past : List Did) → AllHappen w past → knowledge_by w past ≡ w
  knowledge_stays [] h = refl
  knowledge_stays (d ∷ before) h = by d.deed h.0 (knowledge_stays before h.1)
    where
      by : (x : Deed) → Happens (at_line w before) x → knowledge_by w before ≡ w → knowledge_after w before x (knowledge_by w before) ≡ w
      by Nothing m q = q
      by (Outs o) m q = q
      by (Loses reply j) m q = q
      by (Accepts accepted) m q = q
      by (Refreshes f) m q = q
      by (Splits name a) m q = absurd m
      by (Unsplits name) m q = absurd m

  -- who masters a context has it among the pins
  pub mastered_pin : (a : ℕ) (pin : Key) → masters w a pin ≡ true → In pin (pins w)
  mastered_pin a pin e =
      let m = of_any (λ (m : Mastered). (m.master == a) && same_key (pin_of m) pin) (mastered w) e in
      let s = both_true (m.0.master == a) (same_key (pin_of m.0) pin) m.2 in
      subst (λ (x : Key). In x (pins w)) ((key_decides (pin_of m.0) pin).0 s.1) (in_map pin_of m.0 (mastered w) m.1)

  with_pins : (t : Tree) (r : Request) → (tree_with t r).pins ≡ t.pins
  with_pins t r =
      elim (ok_or_err (apply t r)) [
        | inl u ↦ ap (λ (x : Applied). (as_left t x).pins) u.1 ∙ ap (λ (y : Tree). y.pins) (tree_made t u.0 r u.1).1
        | inr x ↦ ap (λ (y : Applied). (as_left t y).pins) x.1
      ]

  accepted_pins : (accepted : List Acceptance) (t : Tree) → (tree_accepting accepted t).pins ≡ t.pins
  accepted_pins [] t = refl
  accepted_pins (a ∷ more) t = accepted_pins more (tree_with t a.request) ∙ with_pins t a.request

  pins_by : (past : List Did) → AllHappen w past → (tree_by w past).pins ≡ pins w
  pins_by [] h = refl
  pins_by (d ∷ before) h = by d.deed h.0 (tree_by w before) (pins_by before h.1)
    where
      by : (x : Deed) → Happens (at_line w before) x → (t : Tree) → t.pins ≡ pins w → (tree_after x t).pins ≡ pins w
      by Nothing m t q = q
      by (Outs o) m t q = q
      by (Loses reply j) m t q = q
      by (Accepts accepted) m t q = accepted_pins accepted t ∙ q
      by (Refreshes f) m t q = q
      by (Splits name a) m t q = absurd m
      by (Unsplits name) m t q = absurd m

  module _ (described : IsDescribed w) (consistent : IsConsistent w) (past : List Did) (h : AllHappen w past) where
    pub stands : StandsWhole (at_line w past)
    stands = lines_stand w past described consistent (none_moved past h)

    pub pins_stay : (tree_by w past).pins ≡ pins w
    pins_stay = pins_by past h
