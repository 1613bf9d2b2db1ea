-- The walk step by step: a context that is passed over, one to which it comes, and contexts one after the other.
use Rattle.std.proofs.Common.{◌≡◌, ℕ, zero, suc, ◌+◌, ◌<◌, true, false, inl, inr, List, [], ◌∷◌, ◌++◌, length, get_or, set, take, replicate, refl, sym, ap, subst, ◌∙◌, arith, Some}
use Rattle.std.proofs.lemmas.List.{length-map, length-replicate}
use Rattle.std.proofs.lemmas.Option.{get_or_from_slice_get, slice_get-get_or}
use Rattle.x5_model.specs.Members.{In}
use Rattle.x5_model.proofs.Lists.{in_first}
use Rattle.x5_model.specs.Keys.{Key}
use Rattle.x5_model.specs.Requests.{Subset, Request}
use Rattle.x5_model_run.specs.Holdings.{Holdings}
use Rattle.x5_holdings.specs.State.{State, holdings_view, held_view, copy_view}
use Rattle.x5_holdings.proofs.Numbered.{taken}
use Rattle.x5_eval.specs.Numbers.{numbers_under, served_numbers}
use Rattle.x5_eval.specs.Visited.{adds, order, Walked, IsSound, IsVisited}
use Rattle.x5_eval.specs.Walks.{HasMarks, IsDescendedIn, IsVisitedIn, rank, walked_of}
use Rattle.x5_eval.specs.declared.visits.Visits.{Visits}
use Rattle.x5_eval.proofs.Visiting.{descended_none, descended_some, visit_known, visit_more, visit_none, visit_through}
use Rattle.x5_eval.proofs.Choosing.{served_below, under_served}

-- what stands there, whatever would stand past the last
itself : (xs : List ℕ) (i n : ℕ) → i < length xs → n ≡ get_or xs i 0 → n ≡ get_or xs i n
itself xs i n l e = sym (get_or_from_slice_get xs i n n (slice_get-get_or xs i 0 l ∙ ap Some (sym e)))

pub mark_read : (xs : List ℕ) (i n : ℕ) → i < length xs → n ≡ get_or xs i n → n ≡ get_or xs i 0
mark_read xs i n l e = sym (get_or_from_slice_get xs i n 0 (slice_get-get_or xs i n l ∙ ap Some (sym e)))

-- it has its marks, and came to these
pub record Came (r : Request) (h : Holdings) (base : Key) (subset : Subset) (deep : ℕ) (cs : List ℕ) (old new : Visits) : Type 0 where
  pub marks : HasMarks h new
  pub visited : IsVisitedIn r h base subset deep cs old new

module _ (r : Request) (h : Holdings) (base : Key) (subset : Subset) where
  pub came_none : (deep : ℕ) (v : Visits) → HasMarks h v → Came r h base subset deep [] v v
  came_none deep v marks = record { marks = marks; visited = visit_none (numbers_under r h base subset) (rank h) deep (walked_of v) }

  -- one more
  pub came_more : (deep : ℕ) (numbers : List ℕ) (i n : ℕ) (a b c : Visits) → i < length numbers → n ≡ get_or numbers i 0
      → Came r h base subset deep (take i numbers) a b → HasMarks h c → IsVisitedIn r h base subset deep (n ∷ []) b c
      → Came r h base subset deep (take (i + 1) numbers) a c
  came_more deep numbers i n a b c l e came marks visited = record {
    marks = marks;
    visited = subst (λ (cs : List ℕ). IsVisitedIn r h base subset deep cs a c) (sym (taken numbers i n l (itself numbers i n l e)))
        (visit_more (numbers_under r h base subset) (rank h) deep (take i numbers) (n ∷ []) (walked_of a) (walked_of b) (walked_of c) came.visited visited);
  }

  -- passed over
  pub passed : (deep c before : ℕ) (v : Visits) → before ≡ get_or v.seen.items c 0 → deep < before
      → IsVisitedIn r h base subset deep (c ∷ []) v v
  passed deep c before v e l = by before e l
    where
      by : (k : ℕ) → k ≡ get_or v.seen.items c 0 → deep < k → IsVisitedIn r h base subset deep (c ∷ []) v v
      by zero p q = absurd (omega (arith, q))
      by (suc f) p q = visit_known (numbers_under r h base subset) (rank h) deep f c (walked_of v) (sym p) (omega (arith, q))

  -- all below
  pub all_below : (deep c : ℕ) (v w : Visits) → ((n : ℕ) → In n (numbers_under r h base subset c) → rank h c < rank h n)
      → IsVisitedIn r h base subset deep (numbers_under r h base subset c) v w → IsDescendedIn r h base subset (suc deep) c v w
  all_below deep c v w rising visited =
      descended_some (numbers_under r h base subset) (rank h) deep c (walked_of v) (walked_of w)
      (λ p n i j. rises p n (one p i) j) visited
    where
      one : (p : ℕ) → In p (c ∷ []) → p ≡ c
      one p i = elim (in_first p c [] i) [ inl e ↦ e | inr j ↦ elim j [ ] ]

      rises : (p n : ℕ) → p ≡ c → In n (numbers_under r h base subset c) → rank h p < rank h n
      rises p n e j = subst (λ (q : ℕ). rank h q < rank h n) (sym e) (rising n j)

  pub below_all : (deep less c : ℕ) (v w : Visits) (cs : List ℕ) → suc less ≡ deep → cs ≡ numbers_under r h base subset c
      → ((n : ℕ) → In n cs → rank h c < rank h n) → IsVisitedIn r h base subset less cs v w → IsDescendedIn r h base subset deep c v w
  below_all deep less c v w cs d e rising visited =
      subst (λ (k : ℕ). IsDescendedIn r h base subset k c v w) d
      (all_below less c v w (λ n i. rising n (subst (λ (l : List ℕ). In n l) (sym e) i))
      (subst (λ (l : List ℕ). IsVisitedIn r h base subset less l v w) e visited))

  pub none_below : (deep c : ℕ) (v : Visits) → deep ≡ 0 → IsDescendedIn r h base subset deep c v v
  none_below deep c v e = subst (λ (d : ℕ). IsDescendedIn r h base subset d c v v) (sym e)
      (descended_none (numbers_under r h base subset) (rank h) c (walked_of v))

  -- one to which it comes
  pub went : (deep c mark before : ℕ) (v v1 v2 v3 : Visits) → c < length v.seen.items → mark ≡ suc deep → before ≡ get_or v.seen.items c 0
      → v1.seen.items ≡ set v.seen.items c mark
      → (before ≡ 0 → v1.entered.items ≡ v.entered.items ++ c ∷ []) → (0 < before → v1.entered.items ≡ v.entered.items)
      → v1.left.items ≡ v.left.items → v3.seen.items ≡ v2.seen.items → v3.entered.items ≡ v2.entered.items
      → (before ≡ 0 → v3.left.items ≡ v2.left.items ++ c ∷ []) → (0 < before → v3.left.items ≡ v2.left.items)
      → IsDescendedIn r h base subset deep c v1 v2 → IsVisitedIn r h base subset deep (c ∷ []) v v3
  went deep c mark before v v1 v2 v3 room m b seen first again left seen_then entered_then first_left again_left descended =
      visit_through (numbers_under r h base subset) (rank h) deep c (walked_of v) (walked_of v1) (walked_of v2) (walked_of v3) room
      (seen ∙ ap (set v.seen.items c) m)
      ((λ e. first (b ∙ e)), (λ l. again (subst (λ (k : ℕ). 0 < k) (sym b) l)))
      left seen_then entered_then
      ((λ e. first_left (b ∙ e)), (λ l. again_left (subst (λ (k : ℕ). 0 < k) (sym b) l)))
      descended

  -- ---- from the beginning
  zero_marks : (n c : ℕ) → get_or (replicate n zero) c zero ≡ zero
  zero_marks zero c = refl
  zero_marks (suc n) zero = refl
  zero_marks (suc n) (suc c) = zero_marks n c

  started : (n : ℕ) → IsSound (numbers_under r h base subset) (rank h) [] (record { entered = []; left = []; seen = replicate n 0 })
  started n = record {
    known = λ c i. elim i [ inl j ↦ elim j [ ] | inr j ↦ elim j [ ] ];
    done = λ c deep f e. absurd (let z : get_or (replicate n 0) c 0 ≡ 0 = zero_marks n c in omega (arith, z, e));
  }

  pub walked_from : (n deep : ℕ) (cs : List ℕ) (old new : Visits) → old.entered.items ≡ [] → old.left.items ≡ [] → old.seen.items ≡ replicate n 0
      → IsVisitedIn r h base subset deep cs old new
      → (new.entered.items ≡ adds [] (order (numbers_under r h base subset) false deep cs))
      × (new.left.items ≡ adds [] (order (numbers_under r h base subset) true deep cs))
  walked_from n deep cs old new e f g visited = (
      let v = subst (λ (w : Walked). IsVisited (numbers_under r h base subset) (rank h) deep cs w (walked_of new))
      (λ i. record { entered = e i; left = f i; seen = g i }) visited [] (λ p c i j. elim i [ ]) (started n) in
      (v.comes, v.leaves))

-- ---- how many numbers there are
pub count_is : (s : State) → length (holdings_view s).own + length (holdings_view s).copies ≡ length s.own + length s.copies
count_is s = λ i. length-map s.own held_view i + length-map s.copies copy_view i

pub served_count : (r : Request) (s : State) (n : ℕ) → In n (served_numbers r (holdings_view s)) → n < length s.own + length s.copies
served_count r s n i = subst (λ (c : ℕ). n < c) (count_is s) (served_below (holdings_view s) r n i)

pub under_count : (r : Request) (s : State) (base : Key) (subset : Subset) (above n : ℕ) → In n (numbers_under r (holdings_view s) base subset above)
    → n < length s.own + length s.copies
under_count r s base subset above n i = served_count r s n (under_served (holdings_view s) r base subset above n i)

pub marks_made : (s : State) (marks : List ℕ) (count : ℕ) → marks ≡ replicate count 0 → count ≡ length s.own + length s.copies
    → length marks ≡ length (holdings_view s).own + length (holdings_view s).copies
marks_made s marks count e f = ap length e ∙ length-replicate count 0 ∙ f ∙ sym (count_is s)

pub has_room : (s : State) (v : Visits) (n : ℕ) → HasMarks (holdings_view s) v → n < length s.own + length s.copies → n < length v.seen.items
has_room s v n marks l = subst (λ (k : ℕ). n < k) (sym (marks ∙ count_is s)) l
