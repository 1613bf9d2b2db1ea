-- Items of a trace: sameness has no sides, so a trace stays distinct with an item that none of it is the same as; and where the
-- agent is one of the world, names and places tell the same of an item.
use Rattle.std.proofs.Common.{◌≡◌, ℕ, ◌+◌, Bool, true, false, not, ◌&&◌, ◌||◌, ◌==◌, inl, inr, List, [], ◌∷◌, ◌++◌, map, refl, sym, ap, ◌∙◌, arith}
use Rattle.std.specs.Bool.{Decides}
use Rattle.std.specs.List.{list_any}
use Rattle.std.specs.Cmp.Lexicographic.{bytes_decides}
use Rattle.x5_model.specs.Words.{has, distinct, same_octets}
use Rattle.x5_model.specs.Keys.{same_key}
use Rattle.x5_model.specs.References.{Progress, Start, Next, Done}
use Rattle.x5_model.specs.Values.{Name, key_of}
use Rattle.x5_model.proofs.Lists.{true_or_false, both_true}
use Rattle.x5_model.proofs.KeyLaws.{key_decides}
use Rattle.x5_model_run.specs.Journal.{same_item, same_progress, same_name}
use Rattle.x5_ops.specs.AgentNames.{agent_of}
use Rattle.x5_ops.specs.ReferenceViews.{item_view, progress_view}
use Rattle.x5_ops.specs.declared.references.TraceItem.{TraceItem}
use Rattle.x5_trace.specs.Items.{same_kind, same_named, IsNamed}

swap_decided : {A : Type 0} (same : A → A → Bool) → ((x y : A) → Decides (same x y) (x ≡ y)) → (x y : A) → same x y ≡ same y x
swap_decided same d x y = elim (true_or_false (same x y)) [
  | inl e ↦ e ∙ sym ((d y x).1 (sym ((d x y).0 e)))
  | inr e ↦ elim (true_or_false (same y x)) [
    | inl f ↦ (let t : same x y ≡ true = (d x y).1 (sym ((d y x).0 f)) in t ∙ sym f)
    | inr f ↦ e ∙ sym f
  ]
]

swap_numbers : (a b : ℕ) → (a == b) ≡ (b == a)
swap_numbers = swap_decided ◌==◌ (λ a b. (λ e. grind arith, λ e. grind arith))

swap_octets : (a b : List ℕ) → same_octets a b ≡ same_octets b a
swap_octets = swap_decided same_octets bytes_decides

swap_names : (a b : Name) → same_name a b ≡ same_name b a
swap_names a b = swap_decided same_key key_decides (key_of a) (key_of b)

swap_progress : (a b : Progress) → same_progress a b ≡ same_progress b a
swap_progress Start Start = refl
swap_progress Start (Next k) = refl
swap_progress Start Done = refl
swap_progress (Next k) Start = refl
swap_progress (Next k) (Next j) = swap_numbers k j
swap_progress (Next k) Done = refl
swap_progress Done Start = refl
swap_progress Done (Next j) = refl
swap_progress Done Done = refl

swap_kinds : (a b : Bool) → same_kind a b ≡ same_kind b a
swap_kinds true true = refl
swap_kinds true false = refl
swap_kinds false true = refl
swap_kinds false false = refl

swap_items : (a b : TraceItem) → same_named a b ≡ same_named b a
swap_items a b =
    let agents = swap_octets a.agent b.agent in
    let names = swap_names a.target b.target in
    let progress = swap_progress (progress_view a.progress) (progress_view b.progress) in
    let kinds = swap_kinds a.wide b.wide in
    λ i. agents i && (names i && (progress i && kinds i))

pub any_has : {A : Type 0} (same : A → A → Bool) (xs : List A) (x : A) → list_any (λ y. same y x) xs ≡ has same xs x
any_has same [] x = refl
any_has same (y ∷ ys) x = ap (λ b. same y x || b) (any_has same ys x)

has_push : {A : Type 0} (same : A → A → Bool) (xs : List A) (y x : A) → same y x ≡ false → has same (xs ++ y ∷ []) x ≡ has same xs x
has_push same [] y x apart = ap (λ b. b || false) apart
has_push same (z ∷ zs) y x apart = ap (λ b. same z x || b) (has_push same zs y x apart)

first_false : (a b : Bool) → (a || b) ≡ false → a ≡ false
first_false false b e = refl
first_false true b e = e

second_false : (a b : Bool) → (a || b) ≡ false → b ≡ false
second_false false b e = e
second_false true b e = cc

pub distinct_push : (xs : List TraceItem) (x : TraceItem) → has same_named xs x ≡ false → distinct same_named xs ≡ true → distinct same_named (xs ++ x ∷ []) ≡ true
distinct_push [] x fresh apart = refl
distinct_push (y ∷ ys) x fresh apart =
    let here : same_named x y ≡ false = swap_items x y ∙ first_false _ _ fresh in
    let both = both_true (not (has same_named ys y)) (distinct same_named ys) apart in
    let none = has_push same_named ys x y here in
    let rest = distinct_push ys x (second_false (same_named y x) _ fresh) both.1 in
    ap (λ b. not b && distinct same_named (ys ++ x ∷ [])) none ∙ ap (λ b. not (has same_named ys y) && b) rest ∙ ap (λ b. b && true) both.0

-- ---- names and places

-- the first name of a list: whoever has it is at place 0, and whoever hasn't stands behind
at_first : (n : List ℕ) (ns : List (List ℕ)) (a : List ℕ) → same_octets n a ≡ true → agent_of (n ∷ ns) a ≡ 0
at_first n ns a e = rw e refl

behind_first : (n : List ℕ) (ns : List (List ℕ)) (a : List ℕ) → same_octets n a ≡ false → agent_of (n ∷ ns) a ≡ 1 + agent_of ns a
behind_first n ns a e = rw e refl

none_at_first : (k : ℕ) → (1 + k == 0) ≡ false
none_at_first k = grind arith

first_is_none : (k : ℕ) → (0 == 1 + k) ≡ false
first_is_none k = grind arith

both_behind : (j k : ℕ) → (1 + j == 1 + k) ≡ (j == k)
both_behind j k = elim (true_or_false (j == k)) [
  | inl e ↦ (let t : (1 + j == 1 + k) ≡ true = grind arith in t ∙ sym e)
  | inr e ↦ (let t : (1 + j == 1 + k) ≡ false = grind arith in t ∙ sym e)
]

one_name : (n a b : List ℕ) → same_octets n a ≡ true → same_octets n b ≡ true → same_octets a b ≡ true
one_name n a b e f = (bytes_decides a b).1 (sym ((bytes_decides n a).0 e) ∙ (bytes_decides n b).0 f)

two_names : (n a b : List ℕ) → same_octets n a ≡ true → same_octets n b ≡ false → same_octets a b ≡ false
two_names n a b e f = ap (λ x. same_octets x b) (sym ((bytes_decides n a).0 e)) ∙ f

same_place : (names : List (List ℕ)) (a name : List ℕ) → list_any (λ n. same_octets n name) names ≡ true → (agent_of names a == agent_of names name) ≡ same_octets a name
same_place [] a name named = cc
same_place (n ∷ ns) a name named = elim (true_or_false (same_octets n name)) [
  | inl e ↦ elim (true_or_false (same_octets n a)) [
    | inl f ↦
        let places : (agent_of (n ∷ ns) a == agent_of (n ∷ ns) name) ≡ true = (λ i. at_first n ns a f i == at_first n ns name e i) in
        places ∙ sym (one_name n a name f e)
    | inr f ↦
        let places : (agent_of (n ∷ ns) a == agent_of (n ∷ ns) name) ≡ (1 + agent_of ns a == 0) = (λ i. behind_first n ns a f i == at_first n ns name e i) in
        places ∙ none_at_first (agent_of ns a) ∙ sym (swap_octets a name ∙ two_names n name a e f)
  ]
  | inr e ↦ elim (true_or_false (same_octets n a)) [
    | inl f ↦
        let places : (agent_of (n ∷ ns) a == agent_of (n ∷ ns) name) ≡ (0 == 1 + agent_of ns name) = (λ i. at_first n ns a f i == behind_first n ns name e i) in
        places ∙ first_is_none (agent_of ns name) ∙ sym (two_names n a name f e)
    | inr f ↦
        let rest : list_any (λ m. same_octets m name) ns ≡ true = sym (ap (λ b. b || list_any (λ m. same_octets m name) ns) e) ∙ named in
        let places : (agent_of (n ∷ ns) a == agent_of (n ∷ ns) name) ≡ (1 + agent_of ns a == 1 + agent_of ns name) = (λ i. behind_first n ns a f i == behind_first n ns name e i) in
        places ∙ both_behind (agent_of ns a) (agent_of ns name) ∙ same_place ns a name rest
  ]
]

same_where_placed : (names : List (List ℕ)) (x y : TraceItem) → list_any (λ n. same_octets n x.agent) names ≡ true → same_item (item_view names y) (item_view names x) ≡ same_named y x
same_where_placed names x y named =
    let agents = same_place names y.agent x.agent named in
    λ i. agents i && (same_name y.target x.target && (same_progress (progress_view y.progress) (progress_view x.progress) && same_kind y.wide x.wide))

pub repeats_placed : (names : List (List ℕ)) (xs : List TraceItem) (x : TraceItem) → IsNamed names x.agent → list_any (λ y. same_named y x) xs ≡ has same_item (map (item_view names) xs) (item_view names x)
repeats_placed names [] x named = refl
repeats_placed names (y ∷ ys) x named =
    let first = same_where_placed names x y named in
    let rest = repeats_placed names ys x named in
    λ i. sym first i || rest i
