-- What the words behind each subcommand come to, for all words of which those that begin with `-` are the flag.
use Rattle.std.proofs.Common.{◌≡◌, ℕ, Bool, true, false, List, [], ◌∷◌, Option, None, Some, get_or, if◌then◌else◌}
use Rattle.std.proofs.Common.{option_map, refl, sym, subst, codes, inl, inr}
use Rattle.std.specs.List.{list_all}
use Rattle.std.specs.Option.{option_and_then}
use Rattle.std.specs.Str.{bytes_eq}
use Rattle.clap.specs.Words.{Text, built, first_of}
use Rattle.clap.specs.Simple.{Shape}
use Rattle.clap.specs.Walk.{Held, nothing_held, walk_from, walked, to_positional, arg_by_index}
use Rattle.clap.proofs.OnLiterals.{clap_on_literals}
use Rattle.clap.specs.Faults.{turn_fault}
use Rattle.x5_words.specs.Forms.{FileNames, Form, Run, GenRun, GenWorld, GenScript, is_file_name, number_in, run_in}
use Rattle.x5_words.specs.Forms.{name_in, tree_in, gen_in}
use Rattle.x5_words.specs.Command.{xdir_app, is_fit, run_read, tree_read, gen_read, made_of}
use Rattle.x5_words.proofs.Walking.{Faulty, Says, at, fault_from, rows_from, on, stop, plain_on, plain_stop, fit_word}
use Rattle.x5_words.proofs.Walking.{no_flag, both_fit}

-- the subcommands as they are built
abbrev pub shape_at : ℕ → Shape
shape_at n = get_or (built xdir_app).subs n xdir_app.top

abbrev pub run_shape : Shape
run_shape = shape_at 0

abbrev flag : Text
flag = codes "--summary"

-- after a word for the argument at the place, and after the flag
abbrev taken : Shape → ℕ → Text → Held → Held
taken s place word h = (to_positional s.rules (arg_by_index s.rules place) word (at h place) h).held

abbrev marked : Shape → ℕ → Held → Held
marked s place h = (walked s.rules [] (at h place) flag).held

module _ (a : Text) (p : is_file_name a ≡ true) where
  one_file : run_in (a ∷ []) ≡ None
  one_file = refl

  file_flag : run_in (a ∷ flag ∷ []) ≡ None
  file_flag = rw p refl

  file_flag_flag : run_in (a ∷ flag ∷ flag ∷ []) ≡ None
  file_flag_flag = rw (no_flag a p, p) refl

  flag_file_flag : run_in (flag ∷ a ∷ flag ∷ []) ≡ None
  flag_file_flag = rw p refl

  module _ (b : Text) (q : is_file_name b ≡ true) where
    abbrev files : FileNames
    files = record { world = a; script = b }

    two_files : run_in (a ∷ b ∷ []) ≡ Some (Run files false)
    two_files = rw (p, q) refl

    files_flag : run_in (a ∷ b ∷ flag ∷ []) ≡ Some (Run files true)
    files_flag = rw (no_flag a p, no_flag b q, p, q) refl

    file_flag_file : run_in (a ∷ flag ∷ b ∷ []) ≡ Some (Run files true)
    file_flag_file = rw (no_flag a p, p, q) refl

    flag_files : run_in (flag ∷ a ∷ b ∷ []) ≡ Some (Run files true)
    flag_files = rw (p, q) refl

    three_files : (c : Text) → is_file_name c ≡ true → run_in (a ∷ b ∷ c ∷ []) ≡ None
    three_files c r = rw (no_flag a p, no_flag b q, no_flag c r) refl

-- ---- run

abbrev one : Text → Held
one a = taken run_shape 1 a nothing_held

abbrev two : Text → Text → Held
two a b = taken run_shape 2 b (one a)

abbrev flag_one : Text → Held
flag_one a = taken run_shape 1 a (marked run_shape 1 nothing_held)

abbrev RunSays : Held → ℕ → List Text → Option Form → Type 0
RunSays h place words wanted = Says run_shape run_read (at h place) words wanted

-- nothing may follow
abbrev only_here : Option Form → List Text → Option Form
only_here found [] = found
only_here found (w ∷ words) = None

run_full : (h : Held) (found : Option Form) → fault_from run_shape (at h 3) [] ≡ []
    → run_read (rows_from run_shape (at h 3) []) ≡ found
    → Faulty (turn_fault run_shape [] (at h 3) flag) → (words : List Text) → list_all is_fit words ≡ true
    → RunSays h 3 words (only_here found words)
run_full h found none says again [] fits = inl (none, says)
run_full h found none says again (w ∷ words) fits =
    elim (fit_word w (both_fit w words fits).0) [
      | inl p ↦ plain_stop run_shape run_read h 3 w words None p tt refl
      | inr e ↦ subst (λ (x : Text). RunSays h 3 (x ∷ words) None) (sym e) (stop run_shape run_read
          (at h 3) flag words None again refl)
    ]

module _ (a : Text) (p : is_file_name a ≡ true) where
  module _ (b : Text) (q : is_file_name b ≡ true) where
    abbrev found : Bool → Option Form
    found b_set = Some (Run (record { world = a; script = b }) b_set)

    files_flag_only : (words : List Text) → only_here (found true) words ≡ run_in (a ∷ b ∷ flag ∷ words)
    files_flag_only [] = sym (files_flag a p b q)
    files_flag_only (w ∷ words) = refl

    file_flag_file_only : (words : List Text) → only_here (found true) words ≡ run_in (a ∷ flag ∷ b ∷ words)
    file_flag_file_only [] = sym (file_flag_file a p b q)
    file_flag_file_only (w ∷ words) = refl

    flag_files_only : (words : List Text) → only_here (found true) words ≡ run_in (flag ∷ a ∷ b ∷ words)
    flag_files_only [] = sym (flag_files a p b q)
    flag_files_only (w ∷ words) = refl

    no_third : (c : Text) → is_file_name c ≡ true → (words : List Text) → run_in (a ∷ b ∷ c ∷ words) ≡ None
    no_third c r [] = three_files a p b q c r
    no_third c r (w ∷ words) = refl

    after_files : (words : List Text) → list_all is_fit words ≡ true
        → RunSays (two a b) 3 words (run_in (a ∷ b ∷ words))
    unfolding clap_on_literals
    after_files [] fits = inl (refl, sym (two_files a p b q))
    after_files (c ∷ words) fits =
        elim (fit_word c (both_fit c words fits).0) [
          | inl r ↦ plain_stop run_shape run_read (two a b) 3 c words (run_in (a ∷ b ∷ c ∷ words)) r tt
              (no_third c r words)
          | inr e ↦ subst (λ (x : Text). RunSays (two a b) 3 (x ∷ words) (run_in (a ∷ b ∷ x ∷ words))) (sym e)
              (on run_shape run_read (at (two a b) 3) (at (marked run_shape 3 (two a b)) 3) flag words (run_in (a ∷ b
              ∷ flag ∷ words)) refl refl
              (subst (λ (o : Option Form). RunSays (marked run_shape 3 (two a b)) 3 words o) (files_flag_only words)
              (run_full (marked run_shape 3 (two a b)) (found true) refl refl tt words (both_fit c words fits).1)))
        ]

    after_file_flag_file : (words : List Text) → list_all is_fit words ≡ true
        → RunSays (taken run_shape 2 b (marked run_shape 2 (one a))) 3 words (run_in (a ∷ flag ∷ b ∷ words))
    unfolding clap_on_literals
    after_file_flag_file words fits =
        subst (λ (o : Option Form). RunSays (taken run_shape 2 b (marked run_shape 2 (one a))) 3 words o)
        (file_flag_file_only words)
        (run_full (taken run_shape 2 b (marked run_shape 2 (one a))) (found true) refl refl tt words fits)

    after_flag_files : (words : List Text) → list_all is_fit words ≡ true
        → RunSays (taken run_shape 2 b (flag_one a)) 3 words (run_in (flag ∷ a ∷ b ∷ words))
    unfolding clap_on_literals
    after_flag_files words fits =
        subst (λ (o : Option Form). RunSays (taken run_shape 2 b (flag_one a)) 3 words o) (flag_files_only words)
        (run_full (taken run_shape 2 b (flag_one a)) (found true) refl refl tt words fits)

  two_flags : (words : List Text) → run_in (a ∷ flag ∷ flag ∷ words) ≡ None
  two_flags [] = file_flag_flag a p
  two_flags (w ∷ words) = refl

  around : (words : List Text) → run_in (flag ∷ a ∷ flag ∷ words) ≡ None
  around [] = flag_file_flag a p
  around (w ∷ words) = refl

  after_file_flag : (words : List Text) → list_all is_fit words ≡ true
      → RunSays (marked run_shape 2 (one a)) 2 words (run_in (a ∷ flag ∷ words))
  unfolding clap_on_literals
  after_file_flag [] fits = inr (tt, file_flag a p)
  after_file_flag (b ∷ words) fits =
      elim (fit_word b (both_fit b words fits).0) [
        | inl q ↦ plain_on run_shape run_read (marked run_shape 2 (one a)) 2 b words (run_in (a ∷ flag ∷ b
            ∷ words)) q (at (taken run_shape 2 b (marked run_shape 2 (one a))) 3) refl refl
            (after_file_flag_file b q words (both_fit b words fits).1)
        | inr e ↦ subst (λ (x : Text). RunSays (marked run_shape 2 (one a)) 2 (x ∷ words) (run_in (a ∷ flag ∷ x
            ∷ words))) (sym e)
            (stop run_shape run_read (at (marked run_shape 2 (one a)) 2) flag words (run_in (a ∷ flag ∷ flag
            ∷ words)) tt (two_flags words))
      ]

  after_flag_file : (words : List Text) → list_all is_fit words ≡ true
      → RunSays (flag_one a) 2 words (run_in (flag ∷ a ∷ words))
  unfolding clap_on_literals
  after_flag_file [] fits = inr (tt, refl)
  after_flag_file (b ∷ words) fits =
      elim (fit_word b (both_fit b words fits).0) [
        | inl q ↦ plain_on run_shape run_read (flag_one a) 2 b words (run_in (flag ∷ a ∷ b ∷ words)) q (at
            (taken run_shape 2 b (flag_one a)) 3) refl refl
            (after_flag_files b q words (both_fit b words fits).1)
        | inr e ↦ subst (λ (x : Text). RunSays (flag_one a) 2 (x ∷ words) (run_in (flag ∷ a ∷ x ∷ words))) (sym e)
            (stop run_shape run_read (at (flag_one a) 2) flag words (run_in (flag ∷ a ∷ flag ∷ words)) tt
            (around words))
      ]

  after_file : (words : List Text) → list_all is_fit words ≡ true → RunSays (one a) 2 words (run_in (a ∷ words))
  unfolding clap_on_literals
  after_file [] fits = inr (tt, refl)
  after_file (b ∷ words) fits =
      elim (fit_word b (both_fit b words fits).0) [
        | inl q ↦ plain_on run_shape run_read (one a) 2 b words (run_in (a ∷ b ∷ words)) q (at (two a b) 3) refl refl
            (after_files b q words (both_fit b words fits).1)
        | inr e ↦ subst (λ (x : Text). RunSays (one a) 2 (x ∷ words) (run_in (a ∷ x ∷ words))) (sym e)
            (on run_shape run_read (at (one a) 2) (at (marked run_shape 2 (one a)) 2) flag words (run_in (a ∷ flag
            ∷ words)) refl refl
            (after_file_flag words (both_fit b words fits).1))
      ]

flags_first : (words : List Text) → run_in (flag ∷ flag ∷ words) ≡ None
flags_first [] = refl
flags_first (a ∷ []) = refl
flags_first (a ∷ b ∷ words) = refl

after_flag : (words : List Text) → list_all is_fit words ≡ true
    → RunSays (marked run_shape 1 nothing_held) 1 words (run_in (flag ∷ words))
unfolding clap_on_literals
after_flag [] fits = inr (tt, refl)
after_flag (a ∷ words) fits =
    elim (fit_word a (both_fit a words fits).0) [
      | inl p ↦ plain_on run_shape run_read (marked run_shape 1 nothing_held) 1 a words (run_in (flag ∷ a ∷ words)) p
          (at (flag_one a) 2) refl refl
          (after_flag_file a p words (both_fit a words fits).1)
      | inr e ↦ subst (λ (x : Text). RunSays (marked run_shape 1 nothing_held) 1 (x ∷ words) (run_in (flag ∷ x
          ∷ words))) (sym e)
          (stop run_shape run_read (at (marked run_shape 1 nothing_held) 1) flag words (run_in (flag ∷ flag
          ∷ words)) tt (flags_first words))
    ]

pub run_says : (words : List Text) → list_all is_fit words ≡ true
    → Says run_shape run_read (walk_from nothing_held) words (run_in words)
unfolding clap_on_literals
run_says [] fits = inr (tt, refl)
run_says (a ∷ words) fits =
    elim (fit_word a (both_fit a words fits).0) [
      | inl p ↦ plain_on run_shape run_read nothing_held 1 a words (run_in (a ∷ words)) p (at (one a) 2) refl refl
          (after_file a p words (both_fit a words fits).1)
      | inr e ↦ subst (λ (x : Text). RunSays nothing_held 1 (x ∷ words) (run_in (x ∷ words))) (sym e)
          (on run_shape run_read (at nothing_held 1) (at (marked run_shape 1 nothing_held) 1) flag words (run_in
          (flag ∷ words)) refl refl
          (after_flag words (both_fit a words fits).1))
    ]

-- ---- check and show

no_flag_file : (words : List Text) → name_in (flag ∷ words) ≡ None
no_flag_file [] = refl
no_flag_file (w ∷ words) = refl

-- ---- check

abbrev pub check_shape : Shape
check_shape = shape_at 1

check_done : (a : Text) → is_file_name a ≡ true → (words : List Text) → list_all is_fit words ≡ true
    → Says check_shape (first_of (codes "world")) (at (taken check_shape 1 a nothing_held) 2) words (name_in (a
    ∷ words))
unfolding clap_on_literals
check_done a p [] fits = inl (refl, rw p refl)
check_done a p (b ∷ words) fits =
    elim (fit_word b (both_fit b words fits).0) [
      | inl q ↦ plain_stop check_shape (first_of (codes "world")) (taken check_shape 1 a nothing_held) 2 b words
          (name_in (a ∷ b ∷ words)) q tt refl
      | inr e ↦ subst (λ (x : Text). Says check_shape (first_of (codes "world")) (at
          (taken check_shape 1 a nothing_held) 2) (x ∷ words) (name_in (a ∷ x ∷ words))) (sym e)
          (stop check_shape (first_of (codes "world")) (at (taken check_shape 1 a nothing_held) 2) flag words
          (name_in (a ∷ flag ∷ words)) tt refl)
    ]

pub check_says : (words : List Text) → list_all is_fit words ≡ true
    → Says check_shape (first_of (codes "world")) (walk_from nothing_held) words (name_in words)
unfolding clap_on_literals
check_says [] fits = inr (tt, refl)
check_says (a ∷ words) fits =
    elim (fit_word a (both_fit a words fits).0) [
      | inl p ↦ plain_on check_shape (first_of (codes "world")) nothing_held 1 a words (name_in (a ∷ words)) p (at
          (taken check_shape 1 a nothing_held) 2) refl refl (check_done a p words (both_fit a words fits).1)
      | inr e ↦ subst (λ (x : Text). Says check_shape (first_of (codes "world")) (at nothing_held 1) (x ∷ words)
          (name_in (x ∷ words))) (sym e)
          (stop check_shape (first_of (codes "world")) (at nothing_held 1) flag words (name_in (flag ∷ words)) tt
          (no_flag_file words))
    ]

-- ---- show

abbrev pub show_shape : Shape
show_shape = shape_at 4

show_done : (a : Text) → is_file_name a ≡ true → (words : List Text) → list_all is_fit words ≡ true
    → Says show_shape (first_of (codes "file")) (at (taken show_shape 1 a nothing_held) 2) words (name_in (a
    ∷ words))
unfolding clap_on_literals
show_done a p [] fits = inl (refl, rw p refl)
show_done a p (b ∷ words) fits =
    elim (fit_word b (both_fit b words fits).0) [
      | inl q ↦ plain_stop show_shape (first_of (codes "file")) (taken show_shape 1 a nothing_held) 2 b words
          (name_in (a ∷ b ∷ words)) q tt refl
      | inr e ↦ subst (λ (x : Text). Says show_shape (first_of (codes "file")) (at
          (taken show_shape 1 a nothing_held) 2) (x ∷ words) (name_in (a ∷ x ∷ words))) (sym e)
          (stop show_shape (first_of (codes "file")) (at (taken show_shape 1 a nothing_held) 2) flag words (name_in
          (a ∷ flag ∷ words)) tt refl)
    ]

pub show_says : (words : List Text) → list_all is_fit words ≡ true
    → Says show_shape (first_of (codes "file")) (walk_from nothing_held) words (name_in words)
unfolding clap_on_literals
show_says [] fits = inr (tt, refl)
show_says (a ∷ words) fits =
    elim (fit_word a (both_fit a words fits).0) [
      | inl p ↦ plain_on show_shape (first_of (codes "file")) nothing_held 1 a words (name_in (a ∷ words)) p (at
          (taken show_shape 1 a nothing_held) 2) refl refl (show_done a p words (both_fit a words fits).1)
      | inr e ↦ subst (λ (x : Text). Says show_shape (first_of (codes "file")) (at nothing_held 1) (x ∷ words)
          (name_in (x ∷ words))) (sym e)
          (stop show_shape (first_of (codes "file")) (at nothing_held 1) flag words (name_in (flag ∷ words)) tt
          (no_flag_file words))
    ]

-- ---- tree

abbrev pub tree_shape : Shape
tree_shape = shape_at 2

abbrev tree_one : Text → Held
tree_one a = taken tree_shape 1 a nothing_held

abbrev tree_two : Text → Text → Held
tree_two a b = taken tree_shape 2 b (tree_one a)

abbrev TreeSays : Held → ℕ → List Text → List Text → Type 0
TreeSays h place words all = Says tree_shape tree_read (at h place) words (tree_in all)

tree_flag_first : (words : List Text) → tree_in (flag ∷ words) ≡ None
tree_flag_first [] = refl
tree_flag_first (a ∷ []) = refl
tree_flag_first (a ∷ b ∷ words) = refl

module _ (a : Text) (p : is_file_name a ≡ true) where
  tree_flag_second : (words : List Text) → tree_in (a ∷ flag ∷ words) ≡ None
  tree_flag_second [] = rw p refl
  tree_flag_second (b ∷ words) = refl

  module _ (b : Text) (q : is_file_name b ≡ true) where
    tree_done : (words : List Text) → list_all is_fit words ≡ true → TreeSays (tree_two a b) 3 words (a ∷ b ∷ words)
    unfolding clap_on_literals
    tree_done [] fits = inl (refl, rw (p, q) refl)
    tree_done (c ∷ words) fits =
        elim (fit_word c (both_fit c words fits).0) [
          | inl r ↦ plain_stop tree_shape tree_read (tree_two a b) 3 c words None r tt refl
          | inr e ↦ subst (λ (x : Text). TreeSays (tree_two a b) 3 (x ∷ words) (a ∷ b ∷ x ∷ words)) (sym e)
              (stop tree_shape tree_read (at (tree_two a b) 3) flag words None tt refl)
        ]

  tree_after : (words : List Text) → list_all is_fit words ≡ true → TreeSays (tree_one a) 2 words (a ∷ words)
  unfolding clap_on_literals
  tree_after [] fits = inr (tt, refl)
  tree_after (b ∷ words) fits =
      elim (fit_word b (both_fit b words fits).0) [
        | inl q ↦ plain_on tree_shape tree_read (tree_one a) 2 b words (tree_in (a ∷ b ∷ words)) q (at
            (tree_two a b) 3) refl refl (tree_done b q words (both_fit b words fits).1)
        | inr e ↦ subst (λ (x : Text). TreeSays (tree_one a) 2 (x ∷ words) (a ∷ x ∷ words)) (sym e)
            (stop tree_shape tree_read (at (tree_one a) 2) flag words (tree_in (a ∷ flag ∷ words)) tt
            (tree_flag_second words))
      ]

pub tree_says : (words : List Text) → list_all is_fit words ≡ true
    → Says tree_shape tree_read (walk_from nothing_held) words (tree_in words)
unfolding clap_on_literals
tree_says [] fits = inr (tt, refl)
tree_says (a ∷ words) fits =
    elim (fit_word a (both_fit a words fits).0) [
      | inl p ↦ plain_on tree_shape tree_read nothing_held 1 a words (tree_in (a ∷ words)) p (at
          (tree_one a) 2) refl refl (tree_after a p words (both_fit a words fits).1)
      | inr e ↦ subst (λ (x : Text). TreeSays nothing_held 1 (x ∷ words) (x ∷ words)) (sym e)
          (stop tree_shape tree_read (at nothing_held 1) flag words (tree_in (flag ∷ words)) tt (tree_flag_first words))
    ]

-- ---- gen

abbrev pub gen_shape : Shape
gen_shape = shape_at 3

abbrev gen_one : Text → Held
gen_one n = taken gen_shape 1 n nothing_held

abbrev gen_two : Text → Text → Held
gen_two n what = taken gen_shape 2 what (gen_one n)

abbrev GenSays : Held → ℕ → List Text → List Text → Type 0
GenSays h place words all = Says gen_shape gen_read (at h place) words (gen_in all)

alone : (n : Option ℕ) → option_and_then (made_of None) n ≡ option_map GenRun n
alone None = refl
alone (Some n) = refl

abbrev no_form : Option Form
no_form = None

chosen : (what : Text) (n : Option ℕ) → option_and_then (made_of (Some what)) n
    ≡ (if bytes_eq what (codes "world") then option_map GenWorld n else if bytes_eq what
    (codes "script") then option_map GenScript n else None)
chosen what None = by (bytes_eq what (codes "world")) (bytes_eq what (codes "script"))
  where
    by : (b c : Bool) → no_form ≡ (if b then no_form else if c then no_form else no_form)
    by true c = refl
    by false true = refl
    by false false = refl
chosen what (Some n) = by (bytes_eq what (codes "world")) (bytes_eq what (codes "script"))
  where
    by : (b c : Bool) → (if b then Some (GenWorld n) else if c then Some (GenScript n) else None)
        ≡ (if b then option_map GenWorld (Some n) else if c then option_map GenScript (Some n) else None)
    by true c = refl
    by false true = refl
    by false false = refl

gen_flag_first : (words : List Text) → gen_in (flag ∷ words) ≡ None
gen_flag_first [] = refl
gen_flag_first (what ∷ []) = sym (chosen what None)
gen_flag_first (what ∷ b ∷ words) = refl

gen_flag_second : (n : Text) (words : List Text) → gen_in (n ∷ flag ∷ words) ≡ None
gen_flag_second n [] = refl
gen_flag_second n (b ∷ words) = refl

gen_done : (n what : Text) (words : List Text) → list_all is_fit words ≡ true
    → GenSays (gen_two n what) 3 words (n ∷ what ∷ words)
unfolding clap_on_literals
gen_done n what [] fits = inl (refl, chosen what (number_in n))
gen_done n what (c ∷ words) fits =
    elim (fit_word c (both_fit c words fits).0) [
      | inl r ↦ plain_stop gen_shape gen_read (gen_two n what) 3 c words None r tt refl
      | inr e ↦ subst (λ (x : Text). GenSays (gen_two n what) 3 (x ∷ words) (n ∷ what ∷ x ∷ words)) (sym e)
          (stop gen_shape gen_read (at (gen_two n what) 3) flag words None tt refl)
    ]

gen_after : (n : Text) (words : List Text) → list_all is_fit words ≡ true → GenSays (gen_one n) 2 words (n ∷ words)
unfolding clap_on_literals
gen_after n [] fits = inl (refl, alone (number_in n))
gen_after n (what ∷ words) fits =
    elim (fit_word what (both_fit what words fits).0) [
      | inl q ↦ plain_on gen_shape gen_read (gen_one n) 2 what words (gen_in (n ∷ what ∷ words)) q (at
          (gen_two n what) 3) refl refl (gen_done n what words (both_fit what words fits).1)
      | inr e ↦ subst (λ (x : Text). GenSays (gen_one n) 2 (x ∷ words) (n ∷ x ∷ words)) (sym e)
          (stop gen_shape gen_read (at (gen_one n) 2) flag words (gen_in (n ∷ flag ∷ words)) tt
          (gen_flag_second n words))
    ]

pub gen_says : (words : List Text) → list_all is_fit words ≡ true
    → Says gen_shape gen_read (walk_from nothing_held) words (gen_in words)
unfolding clap_on_literals
gen_says [] fits = inr (tt, refl)
gen_says (n ∷ words) fits =
    elim (fit_word n (both_fit n words fits).0) [
      | inl p ↦ plain_on gen_shape gen_read nothing_held 1 n words (gen_in (n ∷ words)) p (at
          (gen_one n) 2) refl refl (gen_after n words (both_fit n words fits).1)
      | inr e ↦ subst (λ (x : Text). GenSays nothing_held 1 (x ∷ words) (x ∷ words)) (sym e)
          (stop gen_shape gen_read (at nothing_held 1) flag words (gen_in (flag ∷ words)) tt (gen_flag_first words))
    ]
