-- What octets say of filters is within the limits: an item by its tag, a filter level by level.
use Rattle.std.proofs.Common.{◌≡◌, ℕ, zero, suc, ◌+◌, ◌-◌, ◌≤◌, Bool, true, false, List, refl, sym, ap, subst, ◌∙◌, arith}
use Rattle.std.specs.List.{find}
use Rattle.std.specs.declared.option.Option.TheVariants.{Some}
use Rattle.x5_model_typed.specs.Nodes.{Node, Nodes, Chosen, Many, Nil, More}
use Rattle.x5_model_typed.specs.Named as named
use Rattle.x5_model_typed.specs.Forms.{Content, Primitive, Joined, JoinedBits, Explicit, Sequence, Set, Members, Never, Alternative}
use Rattle.x5_model_typed.specs.Written.{can_hold, is_marked}
use Rattle.x5_model_typed.specs.Layouts as layouts
use Rattle.x5_model_typed.specs.Layouts.{Surroundings, layout}
use Rattle.x5_model.proofs.Lists.{of_all, of_find}
use Rattle.x5_model_typed_laws.specs.Fits.{Fits, FitsIn, FitsEach, none, more, whole, made, chosen, chosen_made}
use Rattle.x5_model_messages.specs.FilterTerms.{item_in, filter_in, filters_in, filters_of}
use Rattle.x5_model_fitting.specs.Filters.{ItemWithin, FilterWithin, FiltersWithin}
use Rattle.x5_model_fitting.proofs.Filters.{level_types, some_level}
use Rattle.x5_model_fitting.proofs.Taking.{only_made, members_of, IsChoice, choice_in, inner_fits, tag_below}
use Rattle.x5_model_fitting.proofs.TextsSaid.{type_said}
use Rattle.x5_model_fitting.proofs.TermsSaid.{assertion_said, substrings_said}

-- ---- items

item_by : (w : Surroundings) (n : Node) (c : IsChoice (layout w) (layout w named.Item) n) (tag : ℕ)
    → find (is_marked tag) (layout w named.Item) ≡ Some c.alternative → ItemWithin (item_in (Chosen tag c.inner))
item_by w n c zero e =
    assertion_said w c.inner (inner_fits (layout w) (layout w named.Item) n c named.Assertion _ refl e)
item_by w n c (suc zero) e =
    substrings_said w c.inner (inner_fits (layout w) (layout w named.Item) n c named.Substrings _ refl e)
item_by w n c (suc (suc zero)) e =
    assertion_said w c.inner (inner_fits (layout w) (layout w named.Item) n c named.Assertion _ refl e)
item_by w n c (suc (suc (suc zero))) e =
    assertion_said w c.inner (inner_fits (layout w) (layout w named.Item) n c named.Assertion _ refl e)
item_by w n c (suc (suc (suc (suc zero)))) e =
    type_said w c.inner (inner_fits (layout w) (layout w named.Item) n c named.AnyOid _ refl e)
item_by w n c (suc (suc (suc (suc (suc zero))))) e =
    assertion_said w c.inner (inner_fits (layout w) (layout w named.Item) n c named.Assertion _ refl e)
item_by w n c (suc (suc (suc (suc (suc (suc k)))))) e =
    absurd (omega (arith, tag_below (layout w named.Item) (suc (suc (suc (suc (suc (suc k)))))) 6 c.alternative refl e))

item_said : (w : Surroundings) (n : Node) → Fits (layout w) (layout w named.Item) n → ItemWithin (item_in n)
item_said w n f =
    let c = choice_in (layout w) (layout w named.Item) n refl refl f in
    subst (λ (x : Node). ItemWithin (item_in x)) (sym c.is) (item_by w n c c.tag c.found)

-- ---- one level, over what those below it say

filters_by : (w : Surroundings) (k : ℕ) → ((n : Node) → Fits (layout w) (layouts.filter k) n → FilterWithin k
    (filter_in n))
    → (ns : Nodes) → FitsEach (layout w) (named.Filter k) ns → FiltersWithin k (filters_of ns)
filters_by w k of Nil none = tt
filters_by w k of (More n ns) (more f g) = (of n f, filters_by w k of ns g)

has_filters : (w : Surroundings) (k : ℕ) → ((n : Node) → Fits (layout w) (layouts.filter k) n → FilterWithin k
    (filter_in n))
    → (n : Node) → Fits (layout w) (layout w (named.Filters k)) n → FiltersWithin k (filters_in n)
has_filters w k of n f =
    let m = only_made (layout w) (layouts.set_of (named.Filter k)) n refl refl f in
    subst (λ (x : Node). FiltersWithin k (filters_in x)) (sym m.is_many)
    (filters_by w k of m.members (members_of (layout w) (named.Filter k) m.members m.within))

module _ (w : Surroundings) (k l : ℕ) (types : layouts.filter l ≡ level_types k) (next : l ≡ k + 1)
    (of : (n : Node) → Fits (layout w) (layouts.filter k) n → FilterWithin k (filter_in n)) where
  left : l - 1 ≡ k
  left = omega (arith, next)

  some : 1 ≤ l
  some = omega (arith, next)

  level_by : (n : Node) (c : IsChoice (layout w) (level_types k) n) (tag : ℕ)
      → find (is_marked tag) (level_types k) ≡ Some c.alternative
      → FilterWithin l (filter_in (Chosen tag c.inner))
  level_by n c zero e = (some, item_said w c.inner (inner_fits (layout w) (level_types k) n c named.Item _ refl e))
  level_by n c (suc zero) e = (
    some,
    subst (λ (m : ℕ). FiltersWithin m (filters_in c.inner)) (sym left)
        (has_filters w k of c.inner (inner_fits (layout w) (level_types k) n c (named.Filters k) _ refl e)),
  )
  level_by n c (suc (suc zero)) e = (
    some,
    subst (λ (m : ℕ). FiltersWithin m (filters_in c.inner)) (sym left)
        (has_filters w k of c.inner (inner_fits (layout w) (level_types k) n c (named.Filters k) _ refl e)),
  )
  level_by n c (suc (suc (suc zero))) e = (
    some,
    subst (λ (m : ℕ). FilterWithin m (filter_in c.inner)) (sym left)
        (of c.inner (inner_fits (layout w) (level_types k) n c (named.Filter k) _ refl e)),
  )
  level_by n c (suc (suc (suc (suc i)))) e =
      absurd (omega (arith, tag_below (level_types k) (suc (suc (suc (suc i)))) 4 c.alternative refl e))

  one_level : (n : Node) → Fits (layout w) (layouts.filter l) n → FilterWithin l (filter_in n)
  one_level n f =
      let c = choice_in (layout w) (level_types k) n refl refl
      (subst (λ (ts : List Alternative). Fits (layout w) ts n) types f) in
      subst (λ (x : Node). FilterWithin l (filter_in x)) (sym c.is) (level_by n c c.tag c.found)

-- ---- where no level is left no content is right

abbrev is_never : Content → Bool
is_never Never = true
is_never c = false

never_within : (w : Surroundings) (c : Content) (ns : Nodes) → is_never c ≡ true → FitsIn (layout w) c ns → ⊥
never_within w Never ns e f = elim f [ ]
never_within w (Primitive leaf) ns e f = absurd (cc e)
never_within w (Joined leaf) ns e f = absurd (cc e)
never_within w (JoinedBits leaf) ns e f = absurd (cc e)
never_within w (Explicit form) ns e f = absurd (cc e)
never_within w (Sequence cs) ns e f = absurd (cc e)
never_within w (Set cs) ns e f = absurd (cc e)
never_within w (Members form) ns e f = absurd (cc e)

nothing_fits : (w : Surroundings) (n : Node) → Fits (layout w) (layouts.filter 0) n → ⊥
nothing_fits w n (whole a octets free held unmarked writes settles) =
    let m = of_all (λ (x : Alternative). x.marked) a (layouts.filter 0) refl
    (of_find (can_hold n) a (layouts.filter 0) held).0 in
    cc (unmarked, m)
nothing_fits w _ (made {ns} a held unmarked empty inside settles) =
    let m = of_all (λ (x : Alternative). x.marked) a (layouts.filter 0) refl
    (of_find (can_hold (Many ns)) a (layouts.filter 0) held).0 in
    cc (unmarked, m)
nothing_fits w _ (chosen a tag form found c f settles) =
    let m = of_all (λ (x : Alternative). is_never x.content) a (layouts.filter 0) refl
    (of_find (is_marked tag) a (layouts.filter 0) found).0 in
    let no : is_never (Explicit form) ≡ true = ap is_never (sym c) ∙ m in
    cc no
nothing_fits w _ (chosen_made {ns} a tag found inside settles) =
    never_within w a.content ns
    (of_all (λ (x : Alternative). is_never x.content) a (layouts.filter 0) refl
    (of_find (is_marked tag) a (layouts.filter 0) found).0) inside

pub filter_said : (w : Surroundings) (levels : ℕ) (n : Node) → Fits (layout w) (layouts.filter levels) n
    → FilterWithin levels (filter_in n)
filter_said w zero n f = absurd (nothing_fits w n f)
filter_said w (suc k) n f =
    let one : suc k - 1 ≡ k = omega arith in
    one_level w k (suc k) (some_level (suc k) (omega arith) ∙ ap level_types one) (omega arith) (filter_said w k) n f
