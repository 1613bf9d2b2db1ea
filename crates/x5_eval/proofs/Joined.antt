-- The parts that contexts show by their numbers are of one kind, and joined they are the agent's own part.
use Rattle.std.proofs.Common.{◌≡◌, ℕ, ◌+◌, ◌<◌, Bool, true, false, ◌&&◌, ◌||◌, ◌⊎◌, inl, inr, List, [], ◌∷◌, ◌++◌, map, length, drop, take, get_or, append_assoc, refl, sym, ap, subst, ◌∙◌, arith, Option, Some}
use Rattle.std.proofs.lemmas.Option.{get_or_from_slice_get, slice_get-get_or}
use Rattle.std.specs.List.{list_all}
use Rattle.x5_model.specs.Words.{distinct}
use Rattle.x5_model.specs.Members.{In, here, there}
use Rattle.x5_model.specs.Keys.{same_key}
use Rattle.x5_model.specs.Values.{Name}
use Rattle.x5_model.specs.Filters.{Filter}
use Rattle.x5_model.specs.Answers as model
use Rattle.x5_model.specs.Requests.{Subset, Selection, Body, Read, Compare, ListBelow, Search, AddEntry, RemoveEntry, ModifyEntry, ModifyDn}
use Rattle.x5_model.specs.References.{Chained}
use Rattle.x5_model.proofs.Lists.{or_left, or_right, in_first, in_either, of_map}
use Rattle.x5_model_run.specs.Holdings.{Held, Holdings}
use Rattle.x5_model_run.specs.Placed.{is_query_below}
use Rattle.x5_model_serve.specs.Walking.{entered}
use Rattle.x5_model_serve.specs.Answering.{is_in_order, local_part, stamp_at}
use Rattle.x5_merge.specs.Merging.{is_list, is_find, are_alike, merged_all, IsMerge, IsMergeOf}
use Rattle.x5_ops.specs.AnswerViews.{answer_view}
use Rattle.x5_ops.specs.declared.answers.Answer.{Answer}
use Rattle.x5_ops.specs.declared.answers.Answer.TheVariants.{Entry, Match, Listed, Found, Changed}
use Rattle.x5_ops.proofs.Dropping.{drop_at}
use Rattle.x5_holdings.specs.State.{State, are_once, holdings_view}
use Rattle.x5_holdings.proofs.Numbered.{taken}
use Rattle.x5_eval.specs.Numbers.{held_number, copy_pins, served_numbers, stamp_number}
use Rattle.x5_eval.specs.Parts.{AreNumbers, part_shown}
use Rattle.x5_eval.specs.Shown.{nothing_by, shown_by}
use Rattle.x5_eval.proofs.Joining.{local_joined}
use Rattle.x5_eval.proofs.Numbered.{copy_pins_are}
use Rattle.x5_eval.proofs.Singles.{stamp_is}

-- ---- one more part
module _ (xs : List ℕ) (i : ℕ) (l : i < length xs) where
  itself : get_or xs i 0 ≡ get_or xs i (get_or xs i 0)
  itself = sym (get_or_from_slice_get xs i (get_or xs i 0) (get_or xs i 0) (slice_get-get_or xs i 0 l))

  pub more_shown : {A : Type 0} (f : ℕ → A) (acc new all : List A) → acc ++ map f (drop i xs) ≡ all → new ≡ acc ++ f (get_or xs i 0) ∷ []
      → new ++ map f (drop (i + 1) xs) ≡ all
  more_shown {A} f acc new all so e =
      ap (λ (r : List A). r ++ map f (drop (i + 1) xs)) e
      ∙ append_assoc acc (f (get_or xs i 0) ∷ []) (map f (drop (i + 1) xs))
      ∙ ap (λ (r : List ℕ). acc ++ map f r) (sym (drop_at xs i (get_or xs i 0) l itself))
      ∙ so

  pub more_so : (P : ℕ → Type 0) → ((n : ℕ) → In n (take i xs) → P n) → P (get_or xs i 0) → (n : ℕ) → In n (take (i + 1) xs) → P n
  more_so P f p n j =
      by (in_either n (take i xs) (get_or xs i 0 ∷ []) (subst (λ (r : List ℕ). In n r) (taken xs i (get_or xs i 0) l itself) j))
    where
      by : In n (take i xs) ⊎ In n (get_or xs i 0 ∷ []) → P n
      by (inl k) = f n k
      by (inr k) = elim (in_first n (get_or xs i 0) [] k) [ inl e ↦ subst P (sym e) p | inr q ↦ elim q [ ] ]

pub seen_more : (names : List (List ℕ)) (parts new : List Answer) (a : Answer) (x : model.Answer) → new ≡ parts ++ a ∷ [] → answer_view names a ≡ x
    → map (answer_view names) new ≡ map (answer_view names) parts ++ x ∷ []
seen_more names parts new a x e is = ap (map (answer_view names)) e ∙ both parts ∙ ap (λ (y : model.Answer). map (answer_view names) parts ++ y ∷ []) is
  where
    both : (ps : List Answer) → map (answer_view names) (ps ++ a ∷ []) ≡ map (answer_view names) ps ++ answer_view names a ∷ []
    both [] = refl
    both (p ∷ ps) = ap (λ (l : List model.Answer). answer_view names p ∷ l) (both ps)

-- ---- their kind
abbrev listed : model.Answer → Bool
listed (model.Listed subs sources outcome) = true
listed (model.EntryFound info source) = false
listed (model.Matched matched copy source) = false
listed (model.Found infos sources outcome) = false
listed model.Changed = false

abbrev found : model.Answer → Bool
found (model.Found infos sources outcome) = true
found (model.EntryFound info source) = false
found (model.Matched matched copy source) = false
found (model.Listed subs sources outcome) = false
found model.Changed = false

module _ (names : List (List ℕ)) where
  list_is : (a : Answer) → is_list a ≡ listed (answer_view names a)
  list_is (Listed subs sources outcome) = refl
  list_is (Entry entry source) = refl
  list_is (Match matched copy source) = refl
  list_is (Found entries sources outcome) = refl
  list_is Changed = refl

  find_is : (a : Answer) → is_find a ≡ found (answer_view names a)
  find_is (Found entries sources outcome) = refl
  find_is (Entry entry source) = refl
  find_is (Match matched copy source) = refl
  find_is (Listed subs sources outcome) = refl
  find_is Changed = refl

  all_seen : (t : Answer → Bool) (u : model.Answer → Bool) → ((a : Answer) → t a ≡ u (answer_view names a)) → (parts : List Answer)
      → list_all t parts ≡ list_all u (map (answer_view names) parts)
  all_seen t u f [] = refl
  all_seen t u f (p ∷ ps) = λ i. f p i && all_seen t u f ps i

  module _ (m : Chained) (h : Holdings) where
    all_listed : (name : Name) (ns : List ℕ) → list_all listed (map (part_shown (ListBelow name) m h) ns) ≡ true
    all_listed name [] = refl
    all_listed name (n ∷ ns) = all_listed name ns

    all_found : (base : Name) (subset : Subset) (f : Filter) (selection : Selection) (ns : List ℕ)
        → list_all found (map (part_shown (Search base subset f selection) m h) ns) ≡ true
    all_found base subset f selection [] = refl
    all_found base subset f selection (n ∷ ns) = all_found base subset f selection ns

    kinds : (body : Body) → is_query_below body ≡ true → (ns : List ℕ) (parts : List Answer)
        → map (answer_view names) parts ≡ nothing_by body ∷ map (part_shown body m h) ns
        → (list_all is_list parts ≡ true) ⊎ (list_all is_find parts ≡ true)
    kinds (ListBelow name) q ns parts e = inl (all_seen is_list listed list_is parts ∙ ap (list_all listed) e ∙ all_listed name ns)
    kinds (Search base subset f selection) q ns parts e =
        inr (all_seen is_find found find_is parts ∙ ap (list_all found) e ∙ all_found base subset f selection ns)
    kinds (Read name sel) q ns parts e = cc
    kinds (Compare name a) q ns parts e = cc
    kinds (AddEntry name attributes) q ns parts e = cc
    kinds (RemoveEntry name) q ns parts e = cc
    kinds (ModifyEntry name changes) q ns parts e = cc
    kinds (ModifyDn name rdn drops) q ns parts e = cc

pub some_parts : (names : List (List ℕ)) (parts : List Answer) (x : model.Answer) (xs : List model.Answer) → map (answer_view names) parts ≡ x ∷ xs
    → 0 < length parts
some_parts names [] x xs e = cc
some_parts names (p ∷ ps) x xs e = omega arith

-- ---- joined
module _ (s : State) (names : List (List ℕ)) (m : Chained) (ns : List ℕ) (q : is_query_below m.request.body ≡ true) (parts : List Answer)
    (are : map (answer_view names) parts ≡ nothing_by m.request.body ∷ map (part_shown m.request.body m (holdings_view s)) ns) where
  abbrev h : Holdings
  h = holdings_view s

  kind : (list_all is_list parts ≡ true) ⊎ (list_all is_find parts ≡ true)
  kind = kinds names m h m.request.body q ns parts are

  pub parts_alike : are_alike parts ≡ true
  parts_alike = elim kind [
    | inl e ↦ or_left (list_all is_list parts) (list_all is_find parts) e
    | inr e ↦ or_right (list_all is_list parts) (list_all is_find parts) e
  ]

  module _ (a : Answer) (is : IsMergeOf parts a) where
    pub whole_alike : are_alike (a ∷ []) ≡ true
    whole_alike = elim kind [
      | inl e ↦ or_left (list_all is_list (a ∷ [])) (list_all is_find (a ∷ [])) (alone is_list (is.list e))
      | inr e ↦ or_right (list_all is_list (a ∷ [])) (list_all is_find (a ∷ [])) (alone is_find (is.find e))
    ]
      where
        alone : (t : Answer → Bool) → t a ≡ true → list_all t (a ∷ []) ≡ true
        alone t e = ap (λ (b : Bool). b && true) e

    module _ (once : are_once s.copies ≡ true) (from : AreNumbers m.request h (entered h m) ns)
        (order : (n : ℕ) → In n ns → is_in_order (part_shown m.request.body m h n) ≡ true) where
      stamped : (n : ℕ) → In n (served_numbers m.request h) → stamp_at h (held_number h n) ≡ stamp_number h n
      stamped n i = stamp_is h m.request (ap (distinct same_key) (sym (copy_pins_are s)) ∙ once) n i

      shown_are : (xs : List ℕ) → ((n : ℕ) → In n xs → In n (served_numbers m.request h))
          → map (part_shown m.request.body m h) xs ≡ map (λ c. shown_by m.request.body m h.me (stamp_at h c) c) (map (held_number h) xs)
      shown_are [] f = refl
      shown_are (n ∷ xs) f = λ i.
          ap (λ (o : Option ℕ). shown_by m.request.body m h.me o (held_number h n)) (sym (stamped n (f n here))) i
          ∷ shown_are xs (λ k j. f k (there j)) i

      ordered : (c : Held) → In c (entered h m) → is_in_order (shown_by m.request.body m h.me (stamp_at h c) c) ≡ true
      ordered c i =
          let w = of_map (held_number h) c ns (subst (λ (l : List Held). In c l) (sym from.views) i) in
          ap (λ (d : Held). is_in_order (shown_by m.request.body m h.me (stamp_at h d) d)) w.2
          ∙ ap (λ (o : Option ℕ). is_in_order (shown_by m.request.body m h.me o (held_number h w.0))) (stamped w.0 (from.served w.0 w.1))
          ∙ order w.0 w.1

      pub whole_is : local_part h m ≡ model.Answered (answer_view names a)
      whole_is = local_joined h m q ordered (answer_view names a)
          (subst (λ (l : List model.Answer). IsMerge l (answer_view names a)) are (is.merge names)
          ∙ ap (merged_all (nothing_by m.request.body)) (shown_are ns from.served
          ∙ ap (map (λ c. shown_by m.request.body m h.me (stamp_at h c) c)) from.views))
