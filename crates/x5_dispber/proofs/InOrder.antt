-- The attributes that a node says of an entry of a refresh are in order: the rule of its type keeps them so, each type once, with values
-- of its kind, each once.
use Rattle.std.proofs.Common.{◌≡◌, ℕ, Bool, true, false, not, ◌&&◌, ◌||◌, ◌==◌, nat_lt, List, [], ◌∷◌, map, inl, inr, ◌⊎◌}
use Rattle.std.proofs.Common.{refl, sym, ap, ap₂, subst, ◌∙◌, arith}
use Rattle.std.proofs.lemmas.Bool.{lt-ltb, ltb-true}
use Rattle.std.specs.List.{list_all}
use Rattle.std.specs.declared.option.Option.{Option}
use Rattle.std.specs.declared.option.Option.TheVariants.{None, Some}
use Rattle.x5_model.specs.Attributes.{kind_below, is_ordered}
use Rattle.x5_model.specs.Attributes as attributes
use Rattle.x5_model.specs.Entries.{Stored, Entry}
use Rattle.x5_model.specs.Members.{In, here, there}
use Rattle.x5_model.specs.Values.{StoredValue}
use Rattle.x5_model.specs.Words.{ascending, distinct, has, is_empty, same_octets, sorted}
use Rattle.x5_model.proofs.Ascending.{AllApart, of_sorted, sorted_ascending}
use Rattle.x5_model.proofs.Lists.{all_in, and_true, both_true, not_true, of_all, of_map}
use Rattle.x5_model_messages.specs.Shadows.{entry_in, stored_in, stored_value}
use Rattle.x5_model_typed.specs.Leaves.{where_so}
use Rattle.x5_model_typed.specs.Nodes.{Node, Nodes, Many, Nil, More, parts, row, list}
use Rattle.x5_model_typed.specs.Rules.{attribute_below, attribute_type, entry_rule, in_order, is_of_type, is_stored, is_true}
use Rattle.x5_model_typed.specs.Rules.{known_type, normal_in, same_attribute, same_value, type_number, value_below, value_in}
use Rattle.x5_model_typed.proofs.Laws.{list_row}
use Rattle.x5_model_typed_laws.proofs.Leaves.{so}
use Rattle.x5_model_typed_laws.proofs.Settling.{type_kept}
use Rattle.x5_model_typed_laws.proofs.Sorting.{some_sorted}
use Rattle.x5_ops.proofs.EntryOrder.{octets_apart, value_chain}

-- ---- lists by what their members are

ascending_mapped : {A B : Type 0} (f : A → B) (p : A → A → Bool) (q : B → B → Bool) → ((x y : A) → q (f x) (f y) ≡ p x y)
    → (xs : List A) → ascending q (map f xs) ≡ ascending p xs
ascending_mapped f p q h [] = refl
ascending_mapped f p q h (x ∷ []) = refl
ascending_mapped f p q h (x ∷ y ∷ xs) = ap₂ ◌&&◌ (h x y) (ascending_mapped f p q h (y ∷ xs))

empty_mapped : {A B : Type 0} (f : A → B) (xs : List A) → is_empty (map f xs) ≡ is_empty xs
empty_mapped f [] = refl
empty_mapped f (x ∷ xs) = refl

neither : (a b : Bool) → (a || b) ≡ false → (a ≡ false) × (b ≡ false)
neither false b h = (refl, h)
neither true b h = absurd (cc h)

none_has : {A : Type 0} (same : A → A → Bool) (x : A) (xs : List A) → has same xs x ≡ false → (z : A) → In z xs → same z x ≡ false
none_has same x [] h z i = elim i [ ]
none_has same x (z ∷ xs) h _ here = (neither (same z x) (has same xs x) h).0
none_has same x (y ∷ xs) h z (there i) = none_has same x xs (neither (same y x) (has same xs x) h).1 z i

-- ---- the values of an attribute

values_apart : (k : ℕ) (xs : List Node) → distinct (same_value k) xs ≡ true → AllApart (value_below k) xs
values_apart k [] h = tt
values_apart k (x ∷ xs) h =
    let w = both_true (not (has (same_value k) xs x)) (distinct (same_value k) xs) h in
    let none = not_true (has (same_value k) xs x) w.0 in
    (λ z i. octets_apart (normal_in k x) (normal_in k z) (none_has (same_value k) x xs none z i), values_apart k xs w.1)

abbrev stored_as : ℕ → Node → StoredValue
stored_as k n = stored_value k (value_in n)

chain : (k : ℕ) (x y z : Node) → value_below k x y ≡ true → value_below k y z ≡ true → value_below k x z ≡ true
chain k x y z p q = value_chain (stored_as k x) (stored_as k y) (stored_as k z) p q

abbrev is_kept : Stored → Bool
is_kept a = not (is_empty a.values) && ascending attributes.value_below a.values

kept_so : (k : ℕ) (xs : List Node) → not (is_empty xs) ≡ true → ascending (value_below k) xs ≡ true
    → is_kept (record { kind = k; values = map (stored_as k) xs }) ≡ true
kept_so k xs some up =
    and_true (not (is_empty (map (stored_as k) xs))) (ascending attributes.value_below (map (stored_as k) xs))
    (ap not (empty_mapped (stored_as k) xs) ∙ some)
    (ascending_mapped (stored_as k) (value_below k) attributes.value_below (λ x y. refl) xs ∙ up)

-- an attribute's values are kept in order
abbrev two : Node → Node → Node
two a b = Many (More a (More b Nil))

values_kept : (type values : Node) → distinct (same_value (type_number type)) (parts values) ≡ true
    → not (is_empty (parts values)) ≡ true → is_kept (stored_in (in_order (two type values))) ≡ true
values_kept type values once some =
    let k = type_number type in
    let xs = sorted (value_below k) (parts values) in
    ap (λ (l : List Node). is_kept (record { kind = k; values = map (stored_as k) l })) (list_row xs)
    ∙ kept_so k xs (some_sorted (value_below k) (parts values) some)
    (sorted_ascending (value_below k) (chain k) (parts values) (values_apart k (parts values) once))

-- what is asked of an attribute beside
pub record IsAttribute (n : Node) : Type 0 where
  pub type : Node
  pub values : Node
  pub is : n ≡ two type values
  pub some : not (is_empty (parts values)) ≡ true

known_so : (type values : Node) (o : Option ℕ) → known_type type ≡ o → is_stored (two type values) ≡ true
    → (list_all (is_of_type (type_number type)) (parts values) && distinct (same_value (type_number type)) (parts values)) ≡ true
known_so type values None e h =
    let none : is_stored (two type values) ≡ false = rw e refl in
    absurd (cc (none, h))
known_so type values (Some k) e h =
    let said : is_stored (two type values) ≡ (list_all (is_of_type k) (parts values) && distinct (same_value k) (parts values)) =
    rw e refl in
    let number : type_number type ≡ k = rw e refl in
    subst (λ (j : ℕ). (list_all (is_of_type j) (parts values) && distinct (same_value j) (parts values)) ≡ true) (sym number)
    (sym said ∙ h)

pub stored_so : (type values : Node) → is_stored (two type values) ≡ true
    → (list_all (is_of_type (type_number type)) (parts values) ≡ true) × (distinct (same_value (type_number type)) (parts values) ≡ true)
stored_so type values h =
    both_true (list_all (is_of_type (type_number type)) (parts values)) (distinct (same_value (type_number type)) (parts values))
    (known_so type values (known_type type) refl h)

attribute_kept : (n : Node) → IsAttribute n → is_stored n ≡ true → is_kept (stored_in (in_order n)) ≡ true
attribute_kept n a h =
    let s = stored_so a.type a.values (subst (λ (x : Node). is_stored x ≡ true) a.is h) in
    subst (λ (x : Node). is_kept (stored_in (in_order x)) ≡ true) (sym a.is) (values_kept a.type a.values s.1 a.some)

-- ---- the types of attributes

kind_by : (n : Node) (l : List Node) → parts n ≡ l → (stored_in n).kind ≡ attribute_type n
kind_by n [] e = rw e refl
kind_by n (a ∷ []) e = rw e refl
kind_by n (a ∷ b ∷ []) e = rw e refl
kind_by n (a ∷ b ∷ c ∷ l) e = rw e refl

kind_is : (n : Node) → (stored_in n).kind ≡ attribute_type n
kind_is n = kind_by n (parts n) refl

numbers_apart : (a b : ℕ) → (b == a) ≡ false → (nat_lt a b ≡ true) ⊎ (nat_lt b a ≡ true)
numbers_apart a b e = by (nat_lt a b) (nat_lt b a) refl refl
  where
    by : (p q : Bool) → nat_lt a b ≡ p → nat_lt b a ≡ q → (nat_lt a b ≡ true) ⊎ (nat_lt b a ≡ true)
    by true q f g = inl f
    by false true f g = inr g
    by false false f g = grind arith

types_apart : (x y : Node) → same_attribute y x ≡ false
    → (attribute_below (in_order x) (in_order y) ≡ true) ⊎ (attribute_below (in_order y) (in_order x) ≡ true)
types_apart x y h =
    numbers_apart (attribute_type (in_order x)) (attribute_type (in_order y))
    (ap₂ (λ (j k : ℕ). j == k) (type_kept y) (type_kept x) ∙ h)

attributes_apart : (xs : List Node) → distinct same_attribute xs ≡ true → AllApart attribute_below (map in_order xs)
attributes_apart [] h = tt
attributes_apart (x ∷ xs) h =
    let w = both_true (not (has same_attribute xs x)) (distinct same_attribute xs) h in
    let none = not_true (has same_attribute xs x) w.0 in (
      λ z i.
          (let y = of_map in_order z xs i in
          subst (λ (v : Node). (attribute_below (in_order x) v ≡ true) ⊎ (attribute_below v (in_order x) ≡ true)) (sym y.2)
          (types_apart x y.0 (none_has same_attribute x xs none y.0 y.1))),
      attributes_apart xs w.1,
    )

less_chain : (a b c : ℕ) → nat_lt a b ≡ true → nat_lt b c ≡ true → nat_lt a c ≡ true
less_chain a b c p q = lt-ltb a c (omega (arith, ltb-true a b p, ltb-true b c q))

attribute_chain : (x y z : Node) → attribute_below x y ≡ true → attribute_below y z ≡ true → attribute_below x z ≡ true
attribute_chain x y z p q = less_chain (attribute_type x) (attribute_type y) (attribute_type z) p q

-- ---- entries

abbrev kept : List Node → List Node
kept xs = sorted attribute_below (map in_order xs)

abbrev pub three : Node → Node → Node → Node
three a b c = Many (More a (More b (More c Nil)))

abbrev passes : Node → List Node → Bool
passes from xs = is_true from && list_all is_stored xs && distinct same_attribute xs

-- what the rule keeps as it is
pub record IsKept (xs : List Node) : Type 0 where
  pub stored : list_all is_stored xs ≡ true
  pub once : distinct same_attribute xs ≡ true
  pub same : xs ≡ kept xs

pub rule_keeps : (a b c : Node) → entry_rule (three a b c) ≡ Some (three a b c) → IsKept (parts c)
rule_keeps a b c h =
    let v = so (passes b (parts c)) (three a b (Many (row (kept (parts c))))) (three a b c) h in
    let whole : three a b (Many (row (kept (parts c)))) ≡ three a b c = v.1 in
    let last : Many (row (kept (parts c))) ≡ c = cc in
    let w = both_true (is_true b && list_all is_stored (parts c)) (distinct same_attribute (parts c)) v.0 in
    record {
      stored = (both_true (is_true b) (list_all is_stored (parts c)) w.0).1;
      once = w.1;
      same = sym (ap parts last) ∙ list_row (kept (parts c));
    }

all_ordered : (xs : List Node) → IsKept xs → ((x : Node) → In x xs → IsAttribute x)
    → is_ordered (record { attributes = map stored_in (kept xs) }) ≡ true
all_ordered xs k each =
    and_true (ascending kind_below (map stored_in (kept xs))) (list_all is_kept (map stored_in (kept xs)))
    (ascending_mapped stored_in attribute_below kind_below (λ x y. ap₂ nat_lt (kind_is x) (kind_is y)) (kept xs)
    ∙ sorted_ascending attribute_below attribute_chain (map in_order xs) (attributes_apart xs k.once))
    (all_in is_kept (map stored_in (kept xs)) (λ s i.
    (let a = of_map stored_in s (kept xs) i in
    let b = of_map in_order a.0 xs (of_sorted attribute_below a.0 (map in_order xs) a.1) in
    subst (λ (v : Stored). is_kept v ≡ true) (sym (a.2 ∙ ap stored_in b.2))
    (attribute_kept b.0 (each b.0 b.1) (of_all is_stored b.0 xs k.stored b.1)))))

-- the entry that they are the attributes of is in order
pub entry_ordered : (a b c : Node) → IsKept (parts c) → ((x : Node) → In x (parts c) → IsAttribute x)
    → is_ordered (entry_in (three a b c)).entry ≡ true
entry_ordered a b c k each =
    ap (λ (l : List Node). is_ordered (record { attributes = map stored_in l })) k.same ∙ all_ordered (parts c) k each
