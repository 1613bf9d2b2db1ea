-- What is left of the postings of a list in order where one is taken away, or those of a node for some terms but the kept ones.
use Rattle.std.proofs.Common.{◌≡◌, ◌≢◌, ℕ, suc, ◌+◌, ◌<◌, Bool, true, false, cond, inl, inr, List, [], ◌∷◌, ◌++◌, length, get_or, map, take, drop, refl, sym, ap, subst, ◌∙◌, append-nil, arith}
use Rattle.std.proofs.lemmas.List.{take_more, map-append}
use Rattle.std.proofs.lemmas.Grind.{flat_map-append}
use Rattle.std.specs.List.{flat_map}
use Rattle.x5_model.specs.Words.{ascending}
use Rattle.x5_model.specs.Members.{In, here, there}
use Rattle.x5_model.specs.Keys.{KeyPair}
use Rattle.x5_model.specs.Values.{StoredValue}
use Rattle.x5_model.specs.Entries.{Stored}
use Rattle.x5_model.proofs.Lists.{in_first, in_left, in_right, in_either}
use Rattle.x5_model.proofs.Ascending.{rest_ascending, first_below, cons_ascending}
use Rattle.x5_index.specs.Index.{Posting, posting_below, terms_in}
use Rattle.x5_index.specs.Places.{place_of, Goes, AreTaken}
use Rattle.x5_index.proofs.Order.{never_below, below_chain, one_posting}

-- ---- one posting at its place

-- the list without the first that isn't below x
abbrev pub without : Posting → List Posting → List Posting
without x [] = []
without x (p ∷ ps) = cond (posting_below p x) (p ∷ without x ps) ps

pub remove_at : (ps : List Posting) (x : Posting) → take (place_of ps x) ps ++ drop (suc (place_of ps x)) ps ≡ without x ps
remove_at [] x = refl
remove_at (p ∷ ps) x = by (posting_below p x) (remove_at ps x)
  where
    by : (b : Bool) → take (place_of ps x) ps ++ drop (suc (place_of ps x)) ps ≡ without x ps
        → take (cond b (suc (place_of ps x)) 0) (p ∷ ps) ++ drop (suc (cond b (suc (place_of ps x)) 0)) (p ∷ ps) ≡ cond b (p ∷ without x ps) ps
    by true e = ap (λ (qs : List Posting). p ∷ qs) e
    by false e = refl

pub place_within : (ps : List Posting) (x : Posting) → ascending posting_below ps ≡ true → In x ps → place_of ps x < length ps
place_within [] x h i = elim i [ ]
place_within (p ∷ ps) x h i = by (posting_below p x) refl (place_within ps x (rest_ascending posting_below below_chain p ps h))
  where
    by : (b : Bool) → posting_below p x ≡ b → (In x ps → place_of ps x < length ps) → cond b (suc (place_of ps x)) 0 < length (p ∷ ps)
    by true e f =
        elim (in_first x p ps i) [
          | inl s ↦ absurd (never_below p (subst (λ (y : Posting). posting_below p y ≡ true) s e))
          | inr j ↦ (let l = f j in omega (arith, l))
        ]
    by false e f = omega arith

module _ (x : Posting) where
  later : (p : Posting) (ps : List Posting) → posting_below p x ≡ true → In x (p ∷ ps) → In x ps
  later p ps e i =
      elim (in_first x p ps i) [ inl s ↦ absurd (never_below p (subst (λ (y : Posting). posting_below p y ≡ true) s e)) | inr j ↦ j ]

  first : (p : Posting) (ps : List Posting) → ascending posting_below (p ∷ ps) ≡ true → posting_below p x ≡ false → In x (p ∷ ps) → x ≡ p
  first p ps h e i =
      elim (in_first x p ps i) [
        | inl s ↦ s
        | inr j ↦ absurd (let b : posting_below p x ≡ true = first_below posting_below below_chain p x ps h j in cc)
      ]

  pub of_without : (ps : List Posting) (z : Posting) → ascending posting_below ps ≡ true → In x ps → In z (without x ps) → In z ps × (z ≢ x)
  of_without [] z h i j = elim j [ ]
  of_without (p ∷ ps) z h i j = by (posting_below p x) refl (of_without ps z (rest_ascending posting_below below_chain p ps h)) j
    where
      by : (b : Bool) → posting_below p x ≡ b → (In x ps → In z (without x ps) → In z ps × (z ≢ x)) → In z (cond b (p ∷ without x ps) ps) → In z (p ∷ ps) × (z ≢ x)
      by true e f j =
          elim (in_first z p (without x ps) j) [
            | inl s ↦ (subst (λ (y : Posting). In y (p ∷ ps)) (sym s) here, λ q. never_below p (subst (λ (y : Posting). posting_below p y ≡ true) (sym q ∙ s) e))
            | inr k ↦ (let w = f (later p ps e i) k in (there w.0, w.1))
          ]
      by false e f j =
          (there j, λ q. never_below p (subst (λ (y : Posting). posting_below p y ≡ true) (q ∙ first p ps h e i) (first_below posting_below below_chain p z ps h j)))

  pub in_without : (ps : List Posting) (z : Posting) → ascending posting_below ps ≡ true → In x ps → In z ps → z ≢ x → In z (without x ps)
  in_without [] z h i j n = elim j [ ]
  in_without (p ∷ ps) z h i j n = by (posting_below p x) refl (in_without ps z (rest_ascending posting_below below_chain p ps h))
    where
      by : (b : Bool) → posting_below p x ≡ b → (In x ps → In z ps → z ≢ x → In z (without x ps)) → In z (cond b (p ∷ without x ps) ps)
      by true e f =
          elim (in_first z p ps j) [
            | inl s ↦ subst (λ (y : Posting). In y (p ∷ without x ps)) (sym s) here
            | inr k ↦ there (f (later p ps e i) k n)
          ]
      by false e f =
          elim (in_first z p ps j) [ inl s ↦ absurd (n (s ∙ sym (first p ps h e i))) | inr k ↦ k ]

  pub without_ascending : (ps : List Posting) → ascending posting_below ps ≡ true → In x ps → ascending posting_below (without x ps) ≡ true
  without_ascending [] h i = refl
  without_ascending (p ∷ ps) h i = by (posting_below p x) refl (without_ascending ps (rest_ascending posting_below below_chain p ps h))
    where
      by : (b : Bool) → posting_below p x ≡ b → (In x ps → ascending posting_below (without x ps) ≡ true) → ascending posting_below (cond b (p ∷ without x ps) ps) ≡ true
      by true e f =
          let g : ascending posting_below ps ≡ true = rest_ascending posting_below below_chain p ps h in
          cons_ascending posting_below below_chain p (without x ps) (λ z k. first_below posting_below below_chain p z ps h (of_without ps z g (later p ps e i) k).0)
          (f (later p ps e i))
      by false e f = rest_ascending posting_below below_chain p ps h

-- ---- those of a node for some terms

abbrev pub term_with : ℕ → StoredValue → KeyPair
term_with kind v = (kind, v.normal)

module _ (node : ℕ) (kept : List KeyPair) where
  pub taken_none : (ps : List Posting) → ascending posting_below ps ≡ true → AreTaken ps node [] kept ps
  taken_none ps h = record {
    in_order = h;
    same = λ p. ((λ i. (i, λ w. elim w.1 [ ])), λ w. w.0);
  }

  is_this : (t : KeyPair) (p : Posting) → Goes node (t ∷ []) kept p → p ≡ record { term = t; node = node }
  is_this t p w = one_posting t node p w.0 w.1

  goes_this : (t : KeyPair) (p : Posting) → (In t kept → ⊥) → p ≡ record { term = t; node = node } → Goes node (t ∷ []) kept p
  goes_this t p a e =
      let s : p.term ≡ t = ap (λ (y : Posting). y.term) e in
      (ap (λ (y : Posting). y.node) e, subst (λ (s : KeyPair). In s (t ∷ [])) (sym s) here, λ k. a (subst (λ (s : KeyPair). In s kept) s k))

  pub taken_one : (t : KeyPair) (ps : List Posting) → (In t kept → ⊥) → ascending posting_below ps ≡ true → In (record { term = t; node = node }) ps
      → AreTaken ps node (t ∷ []) kept (without (record { term = t; node = node }) ps)
  taken_one t ps a h i = record {
    in_order = without_ascending (record { term = t; node = node }) ps h i;
    same = λ p. (
      (λ j. (let w = of_without (record { term = t; node = node }) ps p h i j in (w.0, λ v. w.1 (is_this t p v)))),
      λ w. in_without (record { term = t; node = node }) ps p h i w.0 (λ e. w.1 (goes_this t p a e)),
    );
  }

  pub taken_absent : (t : KeyPair) (ps : List Posting) → ascending posting_below ps ≡ true → (In (record { term = t; node = node }) ps → ⊥) → AreTaken ps node (t ∷ []) kept ps
  taken_absent t ps h n = record {
    in_order = h;
    same = λ p. ((λ i. (i, λ v. n (subst (λ (y : Posting). In y ps) (is_this t p v) i))), λ w. w.0);
  }

  -- where the term is kept, nothing goes
  pub taken_kept : (t : KeyPair) (ps : List Posting) → ascending posting_below ps ≡ true → In t kept → AreTaken ps node (t ∷ []) kept ps
  taken_kept t ps h k = record {
    in_order = h;
    same = λ p. ((λ i. (i, λ v. v.2 (subst (λ (s : KeyPair). In s kept) (ap (λ (y : Posting). y.term) (sym (is_this t p v))) k))), λ w. w.0);
  }

  pub taken_more : (old mid after : List Posting) (ts us : List KeyPair) → AreTaken old node ts kept mid → AreTaken mid node us kept after → AreTaken old node (ts ++ us) kept after
  taken_more old mid after ts us a b = record {
    in_order = b.in_order;
    same = λ p. (forth p, back p);
  }
    where
      forth : (p : Posting) → In p after → In p old × ¬ Goes node (ts ++ us) kept p
      forth p i =
          let v = (b.same p).0 i in
          let w = (a.same p).0 v.0 in
          (w.0, λ q. elim (in_either p.term ts us q.1) [ inl j ↦ w.1 (q.0, j, q.2) | inr j ↦ v.1 (q.0, j, q.2) ])

      back : (p : Posting) → In p old × ¬ Goes node (ts ++ us) kept p → In p after
      back p w =
          (b.same p).1 ((a.same p).1 (w.0, λ q. w.1 (q.0, in_left p.term ts us q.1, q.2)), λ q. w.1 (q.0, in_right p.term ts us q.1, q.2))

  -- one value of an attribute more, and one attribute of an entry more
  pub taken_value : (old mid after : List Posting) (kind : ℕ) (vs : List StoredValue) (i : ℕ) (v : StoredValue) (t : KeyPair) → i < length vs → v ≡ get_or vs i v → t ≡ term_with kind v
      → AreTaken old node (map (term_with kind) (take i vs)) kept mid → AreTaken mid node (t ∷ []) kept after → AreTaken old node (map (term_with kind) (take (i + 1) vs)) kept after
  taken_value old mid after kind vs i v t l at e a b =
      let more : map (term_with kind) (take (i + 1) vs) ≡ map (term_with kind) (take i vs) ++ t ∷ [] =
      ap (map (term_with kind)) (take_more vs i v l) ∙ map-append (term_with kind) (take i vs) (get_or vs i v ∷ [])
      ∙ ap (λ (s : KeyPair). map (term_with kind) (take i vs) ++ s ∷ []) (ap (term_with kind) (sym at) ∙ sym e) in
      subst (λ (ts : List KeyPair). AreTaken old node ts kept after) (sym more) (taken_more old mid after (map (term_with kind) (take i vs)) (t ∷ []) a b)

  pub taken_attribute : (old mid after : List Posting) (xs : List Stored) (i : ℕ) (x : Stored) → i < length xs → x ≡ get_or xs i x
      → AreTaken old node (flat_map terms_in (take i xs)) kept mid → AreTaken mid node (terms_in x) kept after → AreTaken old node (flat_map terms_in (take (i + 1) xs)) kept after
  taken_attribute old mid after xs i x l at a b =
      let more : flat_map terms_in (take (i + 1) xs) ≡ flat_map terms_in (take i xs) ++ terms_in x =
      ap (flat_map terms_in) (take_more xs i x l) ∙ flat_map-append terms_in (take i xs) (get_or xs i x ∷ [])
      ∙ ap (λ (y : Stored). flat_map terms_in (take i xs) ++ (terms_in y ++ [])) (sym at)
      ∙ ap (λ (ts : List KeyPair). flat_map terms_in (take i xs) ++ ts) (append-nil (terms_in x)) in
      subst (λ (ts : List KeyPair). AreTaken old node ts kept after) (sym more) (taken_more old mid after (flat_map terms_in (take i xs)) (terms_in x) a b)
