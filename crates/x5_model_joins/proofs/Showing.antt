-- What is shown of entries joins, with a size limit before and after: just below one entry names are in the order of
-- their last RDNs, and entries in that of their keys.
use Rattle.std.proofs.Common.{◌≡◌, ℕ, suc, Bool, true, ◌||◌, List, [], ◌∷◌, ◌++◌, map, length, refl, sym, ap, ◌∙◌, arith, Option, Some, None, nat_lt}
use Rattle.std.specs.List.{filter}
use Rattle.std.specs.Cmp.{tied_itself}
use Rattle.std.specs.declared.cmp.Ordering.{Ordering}
use Rattle.std.specs.Ordering.{is_lt, ordering_then}
use Rattle.std.specs.Cmp.Lexicographic.{slice_cmp}
use Rattle.x5_model.specs.Words.{ascending, sorted}
use Rattle.x5_model.specs.Members.{In, here, there}
use Rattle.x5_model.specs.Keys.{Key, KeyRdn, key_below, rdn_cmp, parent}
use Rattle.x5_model.specs.Values.{Name, key_of, key_of_rdn, last_rdn}
use Rattle.x5_model.specs.Entries.{Named}
use Rattle.x5_model.proofs.KeyLaws.{rdn_cmp_total}
use Rattle.x5_model.proofs.Lists.{and_true, both_true, of_filter}
use Rattle.x5_model.proofs.Ascending.{AllApart}
use Rattle.x5_model_tree.specs.Tree.{named_below}
use Rattle.x5_model_tree.specs.Ask.{limited, is_cut}
use Rattle.x5_model_tree.proofs.Order.{named_chain, named_never}
use Rattle.x5_model_serve.specs.Answering.{joined}
use Rattle.x5_model_parts.proofs.Asking.{last_key}
use Rattle.x5_model_joins.proofs.Joined.{Across, picked_ascending, shown_joined}
use Rattle.x5_model_joins.proofs.Limits.{lower, joined_ascending, limited_alike, cut_alike}

-- ---- names just below one entry are ordered as their last RDNs

tails_alike : (p : Key) (a b : KeyRdn) → key_below (a ∷ []) (b ∷ []) ≡ key_below (p ++ a ∷ []) (p ++ b ∷ [])
tails_alike [] a b = refl
tails_alike (c ∷ p) a b = tails_alike p a b ∙ sym (ap (λ (o : Ordering). is_lt (ordering_then o (slice_cmp rdn_cmp (p ++ a ∷ []) (p ++ b ∷ [])))) (tied_itself rdn_cmp_total c))

pub siblings_alike : (x y : Name) → length (key_of x) ≡ length (key_of y) → parent (key_of x) ≡ parent (key_of y) → key_below (key_of (last_rdn x ∷ [])) (key_of (last_rdn y ∷ [])) ≡ key_below (key_of x) (key_of y)
siblings_alike [] [] l e = refl
siblings_alike [] (s ∷ ss) l e = absurd (omega (arith, l))
siblings_alike (r ∷ rs) [] l e = absurd (omega (arith, l))
siblings_alike (r ∷ rs) (s ∷ ss) l e =
    let a = last_key (r ∷ rs) (omega arith) in
    let b = last_key (s ∷ ss) (omega arith) in
    tails_alike (parent (key_of (r ∷ rs))) (key_of_rdn (last_rdn (r ∷ rs))) (key_of_rdn (last_rdn (s ∷ ss)))
    ∙ ap (λ (p : Key). key_below (parent (key_of (r ∷ rs)) ++ key_of_rdn (last_rdn (r ∷ rs)) ∷ []) (p ++ key_of_rdn (last_rdn (s ∷ ss)) ∷ [])) e
    ∙ ap (λ (p : Key). key_below p (parent (key_of (s ∷ ss)) ++ key_of_rdn (last_rdn (s ∷ ss)) ∷ [])) (sym a)
    ∙ ap (key_below (key_of (r ∷ rs))) (sym b)

-- ---- what is shown

length_map : {A B : Type 0} (f : A → B) (xs : List A) → length (map f xs) ≡ length xs
length_map f [] = refl
length_map f (x ∷ xs) = ap suc (length_map f xs)

pub cut_map : {A B : Type 0} (size : Option ℕ) (f : A → B) (xs : List A) → is_cut size (map f xs) ≡ is_cut size xs
cut_map None f xs = refl
cut_map (Some n) f xs = ap (nat_lt n) (length_map f xs)

map_ascending : {E X : Type 0} (low : E → E → Bool) (below : X → X → Bool) (h : E → X) (xs : List E) → ((d e : E) → In d xs → In e xs → below (h d) (h e) ≡ low d e) → ascending low xs ≡ true → ascending below (map h xs) ≡ true
map_ascending low below h [] f a = refl
map_ascending low below h (x ∷ []) f a = refl
map_ascending low below h (x ∷ y ∷ ys) f a =
    let b = both_true (low x y) (ascending low (y ∷ ys)) a in
    and_true (below (h x) (h y)) (ascending below (map h (y ∷ ys))) (f x y here (there here) ∙ b.0) (map_ascending low below h (y ∷ ys) (λ d e i j. f d e (there i) (there j)) b.1)

-- what is shown of the entries of one tree that pass a test
abbrev pub shown_of : {X : Type 0} → (Named → X) → (Named → Bool) → List Named → List X
shown_of f t es = map f (filter t (sorted named_below es))

module _ {X : Type 0} (k : X → Key) where
  pub shown_in_order : (f : Named → X) (t : Named → Bool) (es : List Named) → AllApart named_below es → ((d e : Named) → t d ≡ true → t e ≡ true → lower k (f d) (f e) ≡ named_below d e)
      → ascending (lower k) (shown_of f t es) ≡ true
  shown_in_order f t es a order =
      map_ascending named_below (lower k) f (filter t (sorted named_below es)) (λ d e i j. order d e (of_filter t d (sorted named_below es) i).1 (of_filter t e (sorted named_below es) j).1)
      (picked_ascending named_below (lower k) named_chain named_never t es a)

  -- what is shown so far, in order and limited as what is shown of these entries is, joined with what is shown of others
  pub joins_shown : (f g h : Named → X) (t u : Named → Bool) (es fs : List Named) → AllApart named_below es → AllApart named_below fs → Across named_below es fs
      → ((e : Named) → In e fs → u e ≡ t e) → ((e : Named) → In e es → f e ≡ h e) → ((e : Named) → In e fs → g e ≡ h e)
      → ((d e : Named) → t d ≡ true → t e ≡ true → lower k (f d) (f e) ≡ named_below d e)
      → ((d e : Named) → u d ≡ true → u e ≡ true → lower k (g d) (g e) ≡ named_below d e)
      → ((d e : Named) → t d ≡ true → t e ≡ true → lower k (h d) (h e) ≡ named_below d e)
      → (size : Option ℕ) (cut : Bool) (xs : List X) → ascending (lower k) xs ≡ true
      → limited size xs ≡ limited size (shown_of f t es) → (cut || is_cut size xs) ≡ is_cut size (filter t (sorted named_below es))
      → (ascending (lower k) (joined (lower k) xs (shown_of g u fs)) ≡ true)
      × (limited size (joined (lower k) xs (shown_of g u fs)) ≡ limited size (shown_of h t (es ++ fs)))
      × ((cut || is_cut size (joined (lower k) xs (shown_of g u fs))) ≡ is_cut size (filter t (sorted named_below (es ++ fs))))
  joins_shown f g h t u es fs a b c eu fh gh of og oh size cut xs ax same flag =
      let zs = shown_in_order f t es a of in
      let ys = shown_in_order g u fs b og in
      let whole : joined (lower k) (shown_of f t es) (shown_of g u fs) ≡ shown_of h t (es ++ fs) = shown_joined named_below (lower k) named_chain named_never f g h t u t es fs a b c (λ e i. refl) eu fh gh oh in (
        joined_ascending k xs (shown_of g u fs) ax ys,
        limited_alike k size xs (shown_of f t es) (shown_of g u fs) ax zs ys same ∙ ap (limited size) whole,
        cut_alike k size cut xs (shown_of f t es) (shown_of g u fs) same (flag ∙ sym (cut_map size f (filter t (sorted named_below es)))) ∙ ap (is_cut size) whole ∙ cut_map size h (filter t (sorted named_below (es ++ fs))),
      )
