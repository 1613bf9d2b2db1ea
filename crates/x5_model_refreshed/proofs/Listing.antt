-- Logs as lists: what is later than a moment in two logs joined, in one whose changes are all of one moment, and in one whose
-- changes are all as early; and steps replayed one after the other.
use Rattle.std.proofs.Common.{◌≡◌, ℕ, ◌<◌, ◌≤◌, Bool, true, false, cond, nat_lt, List, [], ◌∷◌, ◌++◌, map, reverse, refl, ap, ◌∙◌, arith}
use Rattle.std.specs.List.{filter}
use Rattle.std.proofs.lemmas.List.{map-append}
use Rattle.std.proofs.lemmas.List.Elements.{filter-append}
use Rattle.std.proofs.lemmas.Grind.{reverse_onto}
use Rattle.x5_model.specs.Members.{In, here, there}
use Rattle.x5_model.specs.Entries.{Named}
use Rattle.x5_model_refreshed.specs.Steps.{Step, replayed, replay}
use Rattle.x5_model_refreshed.specs.Logs.{Log, steps_later, stamped}

abbrev pub steps_of : Log → List Step
steps_of log = map (λ (x : ℕ × Step). x.1) log

-- ---- tests

pub kept_all : {A : Type 0} (test : A → Bool) (xs : List A) → ((x : A) → In x xs → test x ≡ true) → filter test xs ≡ xs
kept_all test [] h = refl
kept_all {A} test (x ∷ xs) h =
    ap (λ (b : Bool). cond b (x ∷ filter test xs) (filter test xs)) (h x here)
    ∙ ap (λ (ys : List A). x ∷ ys) (kept_all test xs (λ y i. h y (there i)))

pub kept_none : {A : Type 0} (test : A → Bool) (xs : List A) → ((x : A) → In x xs → test x ≡ false) → filter test xs ≡ []
kept_none test [] h = refl
kept_none test (x ∷ xs) h =
    ap (λ (b : Bool). cond b (x ∷ filter test xs) (filter test xs)) (h x here) ∙ kept_none test xs (λ y i. h y (there i))

pub less_true : (a b : ℕ) → a < b → nat_lt a b ≡ true
less_true a b l = grind arith

pub less_false : (a b : ℕ) → b ≤ a → nat_lt a b ≡ false
less_false a b l = grind arith

pub not_less : (a b : ℕ) → nat_lt a b ≡ false → b ≤ a
not_less a b e = grind arith

-- ---- later steps

pub later_joined : (m : ℕ) (xs ys : Log) → steps_later m (xs ++ ys) ≡ steps_later m xs ++ steps_later m ys
later_joined m xs ys =
    ap (map (λ (x : ℕ × Step). x.1)) (filter-append (λ (x : ℕ × Step). nat_lt m x.0) xs ys)
    ∙ map-append (λ (x : ℕ × Step). x.1) (filter (λ (x : ℕ × Step). nat_lt m x.0) xs) (filter (λ (x : ℕ × Step). nat_lt m x.0) ys)

pub all_later : (m : ℕ) (xs : Log) → ((x : ℕ × Step) → In x xs → m < x.0) → steps_later m xs ≡ steps_of xs
all_later m xs h = ap (map (λ (x : ℕ × Step). x.1)) (kept_all (λ (x : ℕ × Step). nat_lt m x.0) xs (λ x i. less_true m x.0 (h x i)))

pub none_later : (m : ℕ) (xs : Log) → ((x : ℕ × Step) → In x xs → x.0 ≤ m) → steps_later m xs ≡ []
none_later m xs h = ap (map (λ (x : ℕ × Step). x.1)) (kept_none (λ (x : ℕ × Step). nat_lt m x.0) xs (λ x i. less_false m x.0 (h x i)))

-- ---- replaying

pub replay_joined : (xs ys : List Step) (es : List Named) → replay (xs ++ ys) es ≡ replay ys (replay xs es)
replay_joined [] ys es = refl
replay_joined (s ∷ xs) ys es = replay_joined xs ys (replayed s es)

-- ---- steps of one stamp

pub stamped_steps : (stamp : ℕ) (steps : List Step) → steps_of (stamped stamp steps) ≡ steps
stamped_steps stamp [] = refl
stamped_steps stamp (s ∷ steps) = ap (λ (xs : List Step). s ∷ xs) (stamped_steps stamp steps)

pub stamped_at : (stamp : ℕ) (steps : List Step) (x : ℕ × Step) → In x (stamped stamp steps) → x.0 ≡ stamp
stamped_at stamp [] x i = elim i [ ]
stamped_at stamp (s ∷ steps) x here = refl
stamped_at stamp (s ∷ steps) x (there i) = stamped_at stamp steps x i

-- ---- lists of one number, backwards

abbrev pub constant : {A : Type 0} → ℕ → List A → List ℕ
constant n xs = map (λ x. n) xs

one_more : {A : Type 0} (n : ℕ) (xs : List A) → constant n xs ++ n ∷ [] ≡ n ∷ constant n xs
one_more n [] = refl
one_more n (x ∷ xs) = ap (λ (ns : List ℕ). n ∷ ns) (one_more n xs)

pub constant_reversed : {A : Type 0} (n : ℕ) (xs : List A) → reverse (constant n xs) ≡ constant n xs
constant_reversed n [] = refl
constant_reversed n (x ∷ xs) =
    reverse_onto (constant n xs) n [] ∙ ap (λ (ns : List ℕ). ns ++ n ∷ []) (constant_reversed n xs) ∙ one_more n xs

pub nothing_more : {A : Type 0} (xs : List A) → xs ++ [] ≡ xs
nothing_more [] = refl
nothing_more {A} (x ∷ xs) = ap (λ (ys : List A). x ∷ ys) (nothing_more xs)
