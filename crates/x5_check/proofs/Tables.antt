-- Which keys have which numbers by the rows that the tables are made of: a row is found exactly where a member with its number
-- has its key.
use Rattle.std.proofs.Common.{◌≡◌, ℕ, zero, suc, ◌+◌, ◌<◌, Bool, true, false, not, ◌&&◌, ◌||◌, ◌==◌, List, [], ◌∷◌, ◌++◌, map, drop, length, ◌≤◌, refl, sym, ap, subst, ◌∙◌, arith}
use Rattle.std.specs.Cmp.{both_ways}
use Rattle.std.specs.declared.result.Result.{Result}
use Rattle.std.specs.Result.{IfOk}
use Rattle.std.proofs.lemmas.List.{drop_all}
use Rattle.std.specs.Prelude.{slice_get}
use Rattle.std.specs.List.{list_any, flat_map, enumerate_from}
use Rattle.std.proofs.lemmas.List.Folds.{list_any-append}
use Rattle.x5_model.specs.Words.{has, some_and, is_empty, when}
use Rattle.x5_model.specs.Keys.{Key, same_key, parent, is_child}
use Rattle.x5_model.specs.Values.{key_of}
use Rattle.x5_model.proofs.KeyLaws.{key_decides}
use Rattle.x5_model.proofs.Prefixes.{child_decides}
use Rattle.x5_model_tree.specs.World.{Specific, Nssr, Context, Agent, Agreement}
use Rattle.x5_model_tree.specs.Tree.{key_at, is_there}
use Rattle.x5_model_tree.specs.Masters.{Mastered, pin_of, is_consumer}
use Rattle.x5_model_tree.specs.Consistent.{refers_to}
use Rattle.x5_check.specs.Rows.{KeyRow, same_row, Numbers, numbers_of}
use Rattle.x5_check.specs.Numbers.{keyed, rows_by, numbers_by, prefix_key, entry_keys, above_key, reference_keys, agreement_key, prefix_places, entry_places, masters_in, masters_below_in, referrers_in, consumers_in, members_of, member_rows}
use Rattle.x5_check.proofs.Steps.{append_nothing}

-- ---- whether some member passes

pub any_flat : {A B : Type 0} (test : B → Bool) (f : A → List B) (xs : List A) → list_any test (flat_map f xs) ≡ list_any (λ x. list_any test (f x)) xs
any_flat test f [] = refl
any_flat test f (x ∷ xs) =
    list_any-append test (f x) (flat_map f xs) ∙ ap (λ (b : Bool). list_any test (f x) || b) (any_flat test f xs)

pub any_map : {A B : Type 0} (test : B → Bool) (f : A → B) (xs : List A) → list_any test (map f xs) ≡ list_any (λ x. test (f x)) xs
any_map test f [] = refl
any_map test f (x ∷ xs) = ap (λ (b : Bool). test (f x) || b) (any_map test f xs)

pub any_same : {A : Type 0} (s t : A → Bool) (xs : List A) → ((x : A) → s x ≡ t x) → list_any s xs ≡ list_any t xs
any_same {A} s t xs e = ap (λ (u : A → Bool). list_any u xs) (λ i x. e x i)

none_any : {A : Type 0} (xs : List A) → list_any (λ x. false) xs ≡ false
none_any [] = refl
none_any (x ∷ xs) = none_any xs

any_both : {A : Type 0} (b : Bool) (test : A → Bool) (xs : List A) → list_any (λ x. test x && b) xs ≡ (b && list_any test xs)
any_both true test xs = any_same (λ x. test x && true) test xs (λ x. and_itself (test x))
  where
    and_itself : (b : Bool) → (b && true) ≡ b
    and_itself true = refl
    and_itself false = refl
any_both false test xs = any_same (λ x. test x && false) (λ x. false) xs (λ x. and_nothing (test x)) ∙ none_any xs
  where
    and_nothing : (b : Bool) → (b && false) ≡ false
    and_nothing true = refl
    and_nothing false = refl

pub and_any : {A : Type 0} (b : Bool) (test : A → Bool) (xs : List A) → list_any (λ x. b && test x) xs ≡ (b && list_any test xs)
and_any true test xs = refl
and_any false test xs = none_any xs

pub has_any : {A : Type 0} (same : A → A → Bool) (xs : List A) (x : A) → has same xs x ≡ list_any (λ y. same y x) xs
has_any same [] x = refl
has_any same (y ∷ xs) x = ap (λ (b : Bool). same y x || b) (has_any same xs x)

or_nothing : (b : Bool) → (b || false) ≡ b
or_nothing true = refl
or_nothing false = refl

-- ---- rows by members

in_keyed : (m n : ℕ) (key : Key) (keys : List Key) → list_any (λ row. same_row row (key, n)) (keyed m keys) ≡ ((m == n) && list_any (λ k. same_key k key) keys)
in_keyed m n key keys =
    any_map (λ (row : KeyRow). same_row row (key, n)) (λ (k : Key). (k, m)) keys ∙ any_both (m == n) (λ (k : Key). same_key k key) keys

pub rows_are : {A : Type 0} (number : A → ℕ) (keys : A → List Key) (xs : List A) → numbers_of (rows_by number keys xs) ≡ numbers_by number keys xs
rows_are {A} number keys xs =
    λ i key n. (any_flat (λ (row : KeyRow). same_row row (key, n)) (λ x. keyed (number x) (keys x)) xs
    ∙ any_same (λ x. list_any (λ row. same_row row (key, n)) (keyed (number x) (keys x))) (λ x. (number x == n) && list_any (λ k. same_key k key) (keys x)) xs (λ x. in_keyed (number x) n key (keys x))) i

-- ---- members by their places

numbered_later : {A : Type 0} (test : A → Bool) (xs : List A) (i n : ℕ) → n < i → list_any (λ p. (p.0 == n) && test p.1) (enumerate_from i xs) ≡ false
numbered_later test [] i n h = refl
numbered_later test (x ∷ xs) i n h =
    let e : (i == n) ≡ false = grind arith in
    let rest = numbered_later test xs (i + 1) n (omega arith) in
    λ j. (e j && test x) || rest j

at_number_from : {A : Type 0} (test : A → Bool) (xs : List A) (i n m : ℕ) → m ≡ i + n → list_any (λ p. (p.0 == m) && test p.1) (enumerate_from i xs) ≡ some_and test (slice_get xs n)
at_number_from test [] i n m e = refl
at_number_from test (x ∷ xs) i zero m e =
    let a : (i == m) ≡ true = grind arith in
    let rest = numbered_later test xs (i + 1) m (omega arith) in
    (λ j. (a j && test x) || rest j) ∙ or_nothing (test x)
at_number_from test (x ∷ xs) i (suc n) m e =
    let a : (i == m) ≡ false = (let ne : i ≡ m → ⊥ = λ p. absurd (omega arith) in grind arith) in
    let rest = at_number_from test xs (i + 1) n m (omega arith) in
    λ j. (a j && test x) || rest j

pub at_number : {A : Type 0} (test : A → Bool) (xs : List A) (n : ℕ) → list_any (λ p. (p.0 == n) && test p.1) (enumerate_from 0 xs) ≡ some_and test (slice_get xs n)
at_number test xs n = at_number_from test xs 0 n n (omega arith)

-- ---- the tables

pub prefixes_by_place : (ms : List Mastered) → numbers_of (rows_by (λ p. p.0) (λ p. prefix_key p.1) (enumerate_from 0 ms)) ≡ prefix_places ms
prefixes_by_place ms =
    rows_are (λ (p : ℕ × Mastered). p.0) (λ p. prefix_key p.1) (enumerate_from 0 ms)
    ∙ (λ i key n. (at_number (λ (m : Mastered). same_key (pin_of m) key || false) ms n ∙ ap (λ (t : Mastered → Bool). some_and t (slice_get ms n)) (λ j m. or_nothing (same_key (pin_of m) key) j)) i)

keys_there : (m : Mastered) (key : Key) → list_any (λ k. same_key k key) (entry_keys m) ≡ is_there m.context.entries key
keys_there m key = any_map (λ (k : Key). same_key k key) key_at m.context.entries

pub entries_by_place : (ms : List Mastered) → numbers_of (rows_by (λ p. p.0) (λ p. entry_keys p.1) (enumerate_from 0 ms)) ≡ entry_places ms
entries_by_place ms =
    rows_are (λ (p : ℕ × Mastered). p.0) (λ p. entry_keys p.1) (enumerate_from 0 ms)
    ∙ (λ i key n. (at_number (λ (m : Mastered). list_any (λ k. same_key k key) (entry_keys m)) ms n ∙ ap (λ (t : Mastered → Bool). some_and t (slice_get ms n)) (λ j m. keys_there m key j)) i)

pub prefixes_by_master : (ms : List Mastered) → numbers_of (rows_by (λ m. m.master) prefix_key ms) ≡ masters_in ms
prefixes_by_master ms =
    rows_are (λ (m : Mastered). m.master) prefix_key ms
    ∙ (λ i key n. any_same (λ (m : Mastered). (m.master == n) && (same_key (pin_of m) key || false)) (λ m. (m.master == n) && same_key (pin_of m) key) ms (λ m. ap (λ (b : Bool). (m.master == n) && b) (or_nothing (same_key (pin_of m) key))) i)

-- a key is just below where it isn't the root's and that is its parent
child_by_parent : (key pin : Key) → list_any (λ k. same_key k key) (when (not (is_empty pin)) (parent pin)) ≡ is_child key pin
child_by_parent key [] = both_ways false (is_child key []) (λ e. cc) (λ e. absurd (let w = (child_decides key []).0 e in omega (arith, w.0)))
child_by_parent key (r ∷ rs) =
    or_nothing (same_key (parent (r ∷ rs)) key)
    ∙ both_ways (same_key (parent (r ∷ rs)) key) (is_child key (r ∷ rs)) (λ e. (child_decides key (r ∷ rs)).1 (omega arith, (key_decides (parent (r ∷ rs)) key).0 e)) (λ e. (key_decides (parent (r ∷ rs)) key).1 ((child_decides key (r ∷ rs)).0 e).1)

pub parents_by_master : (ms : List Mastered) → numbers_of (rows_by (λ m. m.master) above_key ms) ≡ masters_below_in ms
parents_by_master ms =
    rows_are (λ (m : Mastered). m.master) above_key ms
    ∙ (λ i key n. any_same (λ (m : Mastered). (m.master == n) && list_any (λ k. same_key k key) (above_key m)) (λ m. (m.master == n) && is_child key (pin_of m)) ms (λ m. ap (λ (b : Bool). (m.master == n) && b) (child_by_parent key (pin_of m))) i)

pub references_by_agent : (agents : List (ℕ × Agent)) → numbers_of (rows_by (λ a. a.0) reference_keys agents) ≡ referrers_in agents
references_by_agent agents =
    rows_are (λ (a : ℕ × Agent). a.0) reference_keys agents
    ∙ (λ i key n. any_same (λ (a : ℕ × Agent). (a.0 == n) && list_any (λ k. same_key k key) (reference_keys a)) (λ a. (a.0 == n) && refers_to a.1 key) agents (λ a. ap (λ (b : Bool). (a.0 == n) && b) (any_map (λ (k : Key). same_key k key) (λ (k : Specific). key_of k.pin) a.1.subordinate)) i)

pub contexts_by_consumer : (gs : List Agreement) → numbers_of (rows_by (λ g. g.consumer) agreement_key gs) ≡ consumers_in gs
contexts_by_consumer gs =
    rows_are (λ (g : Agreement). g.consumer) agreement_key gs
    ∙ (λ i key n. any_same (λ (g : Agreement). (g.consumer == n) && (same_key (key_of g.context) key || false)) (is_consumer n key) gs (λ g. ap (λ (b : Bool). (g.consumer == n) && b) (or_nothing (same_key (key_of g.context) key))) i)

-- the agents of NSSRs
one_nssr : (n : Nssr) (key : Key) (agent : ℕ) → list_any (λ row. same_row row (key, agent)) (member_rows n) ≡ (same_key (key_of n.at) key && has ◌==◌ n.agents agent)
one_nssr n key agent =
    any_map (λ (row : KeyRow). same_row row (key, agent)) (λ (a : ℕ). (key_of n.at, a)) n.agents
    ∙ (and_any (same_key (key_of n.at) key) (λ (a : ℕ). a == agent) n.agents ∙ ap (λ (b : Bool). same_key (key_of n.at) key && b) (sym (has_any ◌==◌ n.agents agent)))

pub members_by_entry : (c : Context) → numbers_of (flat_map member_rows c.nssrs) ≡ members_of c
members_by_entry c =
    λ i key agent. (any_flat (λ (row : KeyRow). same_row row (key, agent)) member_rows c.nssrs
    ∙ any_same (λ (n : Nssr). list_any (λ row. same_row row (key, agent)) (member_rows n)) (λ n. same_key (key_of n.at) key && has ◌==◌ n.agents agent) c.nssrs (λ n. one_nssr n key agent)) i

-- ---- a table of the rows that a loop has gathered

pub tabled : {E : Type 0} (r : Result (List KeyRow) E) (rows whole : List KeyRow) (numbers : Numbers) → IfOk r (λ table. numbers_of table ≡ numbers_of rows) → rows ≡ whole → numbers_of whole ≡ numbers → IfOk r (λ table. numbers_of table ≡ numbers)
tabled {E} r rows whole numbers h e f =
    subst (λ (g : Numbers). IfOk r (λ table. numbers_of table ≡ g)) (ap (λ (l : List KeyRow). numbers_of l) e ∙ f) h

pub all_placed : {A : Type 0} (keys : A → List Key) (xs : List A) (i : ℕ) (rows whole : List KeyRow) → length xs ≤ i → rows ++ rows_by (λ p. p.0) (λ p. keys p.1) (enumerate_from i (drop i xs)) ≡ whole → rows ≡ whole
all_placed {A} keys xs i rows whole le h =
    sym (append_nothing rows) ∙ (ap (λ (l : List A). rows ++ rows_by (λ p. p.0) (λ p. keys p.1) (enumerate_from i l)) (sym (drop_all i xs le)) ∙ h)
