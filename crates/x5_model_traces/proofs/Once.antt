-- No item twice: to be the same goes both ways, so what is the same as none before can stand behind them.
use Rattle.std.proofs.Common.{◌≡◌, ℕ, Bool, true, false, not, ◌&&◌, ◌||◌, ◌==◌, List, [], ◌∷◌, ◌++◌, refl, sym, ap, ap₂, ◌∙◌, arith}
use Rattle.x5_model.specs.Words.{has, distinct}
use Rattle.x5_model.specs.Keys.{Key, same_key}
use Rattle.x5_model.specs.Values.{Name, key_of}
use Rattle.x5_model.specs.References.{Progress, Start, Next, Done, TraceItem}
use Rattle.x5_model.proofs.KeyLaws.{key_decides}
use Rattle.x5_model.proofs.Lists.{both_true, and_true, not_true}
use Rattle.x5_model_run.specs.Journal.{same_item, same_name, same_progress}

or_false : (a b : Bool) → (a || b) ≡ false → (a ≡ false) × (b ≡ false)
or_false true b e = absurd (cc e)
or_false false b e = (refl, e)

module _ {X : Type 0} (same : X → X → Bool) where
  has_behind : (xs : List X) (x y : X) → has same xs x ≡ false → same y x ≡ false → has same (xs ++ y ∷ []) x ≡ false
  has_behind [] x y h e = ap (λ (b : Bool). b || false) e
  has_behind (z ∷ xs) x y h e =
      let w = or_false (same z x) (has same xs x) h in
      ap₂ (λ (a b : Bool). a || b) w.0 (has_behind xs x y w.1 e)

  pub distinct_behind : ((x y : X) → same x y ≡ same y x) → (xs : List X) (y : X) → distinct same xs ≡ true
      → has same xs y ≡ false → distinct same (xs ++ y ∷ []) ≡ true
  distinct_behind turned [] y h e = refl
  distinct_behind turned (x ∷ xs) y h e =
      let w = both_true (not (has same xs x)) (distinct same xs) h in
      let v = or_false (same x y) (has same xs y) e in
      and_true (not (has same (xs ++ y ∷ []) x)) (distinct same (xs ++ y ∷ []))
      (ap not (has_behind xs x y (not_true (has same xs x) w.0) (turned y x ∙ v.0)))
      (distinct_behind turned xs y w.1 v.1)

by_both : (b c : Bool) → (b ≡ true → c ≡ true) → (c ≡ true → b ≡ true) → b ≡ c
by_both true c f g = sym (f refl)
by_both false true f g = absurd (cc (g refl))
by_both false false f g = refl

keys_turned : (a b : Key) → same_key a b ≡ same_key b a
keys_turned a b =
    by_both (same_key a b) (same_key b a) (λ e. (key_decides b a).1 (sym ((key_decides a b).0 e)))
    (λ e. (key_decides a b).1 (sym ((key_decides b a).0 e)))

numbers_turned : (a b : ℕ) → (a == b) ≡ (b == a)
numbers_turned a b = grind arith

progress_turned : (p q : Progress) → same_progress p q ≡ same_progress q p
progress_turned Start Start = refl
progress_turned Start (Next k) = refl
progress_turned Start Done = refl
progress_turned (Next k) Start = refl
progress_turned (Next k) (Next j) = numbers_turned k j
progress_turned (Next k) Done = refl
progress_turned Done Start = refl
progress_turned Done (Next j) = refl
progress_turned Done Done = refl

by_parts : (a b : ℕ) (s t : Name) (p q : Progress) (c d : Bool) → c ≡ d
    → ((a == b) && (same_name s t && (same_progress p q && c))) ≡ ((b == a) && (same_name t s && (same_progress q p && d)))
by_parts a b s t p q c d e =
    ap₂ (λ (x y : Bool). x && y) (numbers_turned a b)
    (ap₂ (λ (x y : Bool). x && y) (keys_turned (key_of s) (key_of t))
    (ap₂ (λ (x y : Bool). x && y) (progress_turned p q) e))

abbrev item : ℕ → Name → Progress → Bool → TraceItem
item a s p v = record { agent = a; target = s; progress = p; wide = v }

wide_too : (a b : ℕ) (s t : Name) (p q : Progress) (v w : Bool)
    → same_item (item a s p v) (item b t q w) ≡ same_item (item b t q w) (item a s p v)
wide_too a b s t p q true true = by_parts a b s t p q true true refl
wide_too a b s t p q true false = by_parts a b s t p q false false refl
wide_too a b s t p q false true = by_parts a b s t p q false false refl
wide_too a b s t p q false false = by_parts a b s t p q true true refl

pub items_turned : (i j : TraceItem) → same_item i j ≡ same_item j i
items_turned i j = wide_too i.agent j.agent i.target j.target i.progress j.progress i.wide j.wide
