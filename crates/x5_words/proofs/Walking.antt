-- A walk over the words of a subcommand, word by word: a word that stands for itself goes to the argument at the
-- place, and the first fault stays the first.
use Rattle.std.proofs.Common.{◌≡◌, ℕ, Bool, true, false, not, ◌&&◌, ◌||◌, ◌==◌, List, [], ◌∷◌, Option, None, Some}
use Rattle.std.proofs.Common.{if◌then◌else◌, fold, refl, sym, ap, subst, ◌∙◌, codes, ◌⊎◌, inl, inr}
use Rattle.std.specs.Bool.{⊤}
use Rattle.std.specs.List.{list_all}
use Rattle.std.specs.Option.{option_and_then, option_map_or}
use Rattle.std.specs.Str.{bytes_eq}
use Rattle.clap.specs.Lexer.{strip_byte, long_of, long_of_rest, short_of, short_of_rest}
use Rattle.std.specs.Cmp.{nat_eq_equiv}
use Rattle.std.specs.Cmp.Lexicographic.{bytes_decides}
use Rattle.clap.specs.Words.{Row, Text, Kinds}
use Rattle.clap.specs.Kinds.{or_else}
use Rattle.clap.specs.Simple.{Shape}
use Rattle.clap.specs.Walk.{Held, Names, Walk, subcommand_met, subcommand_or_other, long_or_other, short_or_plain}
use Rattle.clap.specs.Walk.{trailing, idle, value, walked, walk_from, nothing_held, to_positional, arg_by_index}
use Rattle.clap.specs.Walk.{word_met, after_step, finished, settled, rows_after}
use Rattle.clap.specs.Faults.{turn_fault, walk_fault, step_fault, word_fault, other_fault, flag_word_fault}
use Rattle.clap.specs.Faults.{bundle_fault, settle_fault, defaults_fault, check_fault, level_fault}
use Rattle.x5_words.specs.Forms.{is_file_name, is_summary}
use Rattle.x5_words.specs.Command.{is_fit}

abbrev pub Faulty : Kinds → Type 0
Faulty [] = ⊥
Faulty (k ∷ ks) = ⊤

-- between two words, with nothing that waits
abbrev pub at : Held → ℕ → Walk
at h place = record { held = h; waiting = idle; position = place; is_trailing = false; stopped = None }

-- what is at fault at the end of the words
abbrev pub end_fault : Shape → Walk → Kinds
end_fault s w =
    or_else [] (or_else (settle_fault s.rules s.args_override_self w.held)
    (or_else (defaults_fault (settled s.rules w.held).rows s.rules) (check_fault s (finished s.rules w.held) false)))

abbrev pub fault_from : Shape → Walk → List Text → Kinds
fault_from s w words = or_else (walk_fault s [] w words) (end_fault s (fold (walked s.rules []) w words))

abbrev pub rows_from : Shape → Walk → List Text → List Row
rows_from s w words = finished s.rules (fold (walked s.rules []) w words).held

pub level_is : (s : Shape) (words : List Text)
    → level_fault s [] nothing_held words false [] ≡ fault_from s (walk_from nothing_held) words
level_is s words = refl

pub rows_are : (s : Shape) (words : List Text)
    → rows_after s.rules [] words ≡ rows_from s (walk_from nothing_held) words
rows_are s words = refl

pub faulty_first : (k l : Kinds) → Faulty k → Faulty (or_else k l)
faulty_first [] l f = absurd f
faulty_first (x ∷ xs) l f = f

none_first : (k l m : Kinds) → k ≡ [] → or_else (or_else k l) m ≡ or_else l m
none_first k l m e = ap (λ (x : Kinds). or_else (or_else x l) m) e

module _ (s : Shape) (w : Walk) (word : Text) (words : List Text) where
  -- a fault at a word is one of the whole
  pub faulty : Faulty (turn_fault s [] w word) → Faulty (fault_from s w (word ∷ words))
  unfolding walk_fault
  faulty f =
      faulty_first (or_else (turn_fault s [] w word) (walk_fault s [] (walked s.rules [] w word) words)) (end_fault s
      (fold (walked s.rules []) w (word ∷ words)))
      (faulty_first (turn_fault s [] w word) (walk_fault s [] (walked s.rules [] w word) words) f)

  -- past a word without one the walk goes on
  pub past : (v : Walk) → turn_fault s [] w word ≡ [] → walked s.rules [] w word ≡ v
      → fault_from s w (word ∷ words) ≡ fault_from s v words
  unfolding walk_fault
  past v none to =
      none_first (turn_fault s [] w word) (walk_fault s [] (walked s.rules [] w word) words) (end_fault s (fold
      (walked s.rules []) (walked s.rules [] w word) words)) none
      ∙ ap (λ (u : Walk). fault_from s u words) to

  pub rows_past : (v : Walk) → walked s.rules [] w word ≡ v → rows_from s w (word ∷ words) ≡ rows_from s v words
  rows_past v to = ap (λ (u : Walk). rows_from s u words) to

-- ---- words that stand for themselves

pub no_dash : (x : ℕ) (xs : Text) → is_file_name (x ∷ xs) ≡ true → (x == 45) ≡ false
no_dash x xs e = nat_eq_equiv.symm x 45 ∙ by (45 == x) e
  where
    by : (b : Bool) → not (b && true) ≡ true → b ≡ false
    by true f = sym f
    by false f = refl

-- a word without a first hyphen is no flag
module _ (x : ℕ) (xs : Text) (e : is_file_name (x ∷ xs) ≡ true) where
  stripped : strip_byte 45 (x ∷ xs) ≡ None
  stripped = ap (λ b. if b then Some xs else None) (no_dash x xs e)

  no_long : long_of (x ∷ xs) ≡ None
  no_long = ap (λ s. option_and_then long_of_rest (option_and_then (strip_byte 45) s)) stripped

  no_short : short_of (x ∷ xs) ≡ None
  no_short = ap (option_and_then short_of_rest) stripped

  no_dashes : bytes_eq (x ∷ xs) (45 ∷ 45 ∷ []) ≡ false
  no_dashes = ap (λ b. b && bytes_eq xs (45 ∷ [])) (no_dash x xs e)

module _ (s : Shape) (names : Names) (h : Held) (place : ℕ) where
  plain_met : (word : Text) → is_file_name word ≡ true → subcommand_met names idle word ≡ None
      → word_met s.rules names false idle place word h ≡ (h, value)
  plain_met [] e n = ap (λ met. subcommand_or_other s.rules met idle place [] h) n
  plain_met (x ∷ xs) e n =
      ap (λ met. subcommand_or_other s.rules met idle place (x ∷ xs) h) n
      ∙ (λ i. if no_dashes x xs e i then (h, trailing place) else long_or_other s.rules idle (x ∷ xs)
      (no_long x xs e i) h)
      ∙ ap (λ flags. short_or_plain s.rules idle (x ∷ xs) flags h) (no_short x xs e)

  plain_word : (word : Text) → is_file_name word ≡ true → subcommand_met names idle word ≡ None
      → word_fault s names false idle word h ≡ []
  plain_word [] e n = ap (λ met. other_fault s met [] h) n
  plain_word (x ∷ xs) e n =
      ap (λ met. other_fault s met (x ∷ xs) h) n
      ∙ (λ i. if no_dashes x xs e i then [] else flag_word_fault s.rules s.args_override_self (no_long x xs e i) (x
      ∷ xs) h)
      ∙ ap (λ flags. option_map_or (λ f. bundle_fault s.rules s.args_override_self f h) flags []) (no_short x xs e)

  pub word_stands : (word : Text) → is_file_name word ≡ true → subcommand_met names idle word ≡ None
      → turn_fault s names (at h place) word ≡ step_fault s place h value
  word_stands word e n =
      λ i. or_else (plain_word word e n i) (step_fault s place (plain_met word e n i).0 (plain_met word e n i).1)

module _ (s : Shape) (h : Held) (place : ℕ) where
  pub plain_walked : (word : Text) → is_file_name word ≡ true
      → walked s.rules [] (at h place) word ≡ to_positional s.rules (arg_by_index s.rules place) word (at h place) h
  unfolding walked
  plain_walked word e = ap (λ met. after_step s.rules word (at h place) met.0 met.1)
      (plain_met s [] h place word e refl)

  pub plain_fault : (word : Text) → is_file_name word ≡ true
      → turn_fault s [] (at h place) word ≡ step_fault s place h value
  plain_fault word e = word_stands s [] h place word e refl

pub no_flag : (word : Text) → is_file_name word ≡ true → is_summary word ≡ false
no_flag [] e = refl
no_flag (x ∷ xs) e = rw (no_dash x xs e) refl

-- ---- what becomes of the words

-- there is no fault and the rows say what is wanted; or there is one, and nothing is wanted
abbrev pub Says : {X : Type 0} → Shape → (List Row → Option X) → Walk → List Text → Option X → Type 0
Says s read w words wanted =
    ((fault_from s w words ≡ []) × (read (rows_from s w words) ≡ wanted)) ⊎ (Faulty (fault_from s w words) × (wanted
    ≡ None))

module _ {X : Type 0} (s : Shape) (read : List Row → Option X) where
  pub on : (w v : Walk) (word : Text) (words : List Text) (wanted : Option X) → turn_fault s [] w word ≡ []
      → walked s.rules [] w word ≡ v → Says s read v words wanted → Says s read w (word ∷ words) wanted
  on w v word words wanted none to (inl e) =
      inl (past s w word words v none to ∙ e.0, ap read (rows_past s w word words v to) ∙ e.1)
  on w v word words wanted none to (inr e) =
      inr (subst Faulty (sym (past s w word words v none to)) e.0, e.1)

  pub stop : (w : Walk) (word : Text) (words : List Text) (wanted : Option X) → Faulty (turn_fault s [] w word)
      → wanted ≡ None → Says s read w (word ∷ words) wanted
  stop w word words wanted f e = inr (faulty s w word words f, e)

  module _ (h : Held) (place : ℕ) (word : Text) (words : List Text) (wanted : Option X) (plain : is_file_name word
      ≡ true) where
    pub plain_on : (v : Walk) → step_fault s place h value ≡ []
        → to_positional s.rules (arg_by_index s.rules place) word (at h place) h ≡ v → Says s read v words wanted
        → Says s read (at h place) (word ∷ words) wanted
    plain_on v none to says =
        on (at h place) v word words wanted (plain_fault s h place word plain ∙ none)
        (plain_walked s h place word plain ∙ to) says

    pub plain_stop : Faulty (step_fault s place h value) → wanted ≡ None
        → Says s read (at h place) (word ∷ words) wanted
    plain_stop f e = stop (at h place) word words wanted (subst Faulty (sym (plain_fault s h place word plain)) f) e

-- a fit word stands for itself or is the flag
pub fit_word : (word : Text) → is_fit word ≡ true → (is_file_name word ≡ true) ⊎ (word ≡ codes "--summary")
fit_word word e = by (is_file_name word) refl
  where
    by : (b : Bool) → is_file_name word ≡ b → (is_file_name word ≡ true) ⊎ (word ≡ codes "--summary")
    by true f = inl f
    by false f = inr ((bytes_decides word (codes "--summary")).0 (sym (ap (λ b. b || is_summary word) f) ∙ e))

pub both_fit : (word : Text) (words : List Text) → list_all is_fit (word ∷ words) ≡ true
    → (is_fit word ≡ true) × (list_all is_fit words ≡ true)
both_fit word words e = by (is_fit word) e
  where
    by : (b : Bool) → (b && list_all is_fit words) ≡ true → (b ≡ true) × (list_all is_fit words ≡ true)
    by true f = (refl, f)
    by false f = cc
