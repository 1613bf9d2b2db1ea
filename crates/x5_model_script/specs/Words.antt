-- The words of a script's line, and their columns (docs/FORMATS.md, script). The grammar is this project's own.
use Rattle.std.specs.Prelude.{ℕ, ◌+◌, Bool, true, false, ◌==◌, if◌then◌else◌, List, [], ◌∷◌, length, drop, Option, None}
use Rattle.std.specs.Prelude.{Some, option_and_then, Result, Ok, Err}
use Rattle.std.specs.List.{slice_split}
use Rattle.std.specs.Str.{is_utf8}
use Rattle.std.specs.Str.Lossy.{utf8_valid_len}
use Rattle.x5_model.specs.Words.{is_empty, same_octets, first_of, some_and}
use Rattle.x5_model.specs.Values.{Text}

-- Why a line is refused: it's too long; or the word at this column isn't as it should be, is no name, no filter, or no
-- octets in hexadecimal digits. Columns count octets from 1.
pub data Fault : Type 0 where
  Long : Fault
  BadWord : ℕ → Fault
  BadName : ℕ → Fault
  BadFilter : ℕ → Fault
  BadHex : ℕ → Fault

infixl 10 ◌>>=◌
abbrev pub ◌>>=◌ : {A B : Type 0} → Result A Fault → (A → Result B Fault) → Result B Fault
Ok x >>= f = f x
Err e >>= f = Err e

abbrev pub or_fault : {A : Type 0} → Fault → Option A → Result A Fault
or_fault fault None = Err fault
or_fault fault (Some x) = Ok x

-- a word, and the column of its first octet
pub record Word : Type 0 where
  pub column : ℕ
  pub text : Text

-- the words that are left to read, and the column behind the line's last octet
pub record Left : Type 0 where
  pub words : List Word
  pub end : ℕ

abbrev pub is_space : ℕ → Bool
is_space b = b == 32

-- words that stand behind one another from a column on, one space between two
abbrev pub placed : ℕ → List Text → List Word
placed column [] = []
placed column (t ∷ ts) = record { column = column; text = t } ∷ placed (column + length t + 1) ts

abbrev pub words_of : Text → Left
words_of line = record { words = placed 1 (slice_split is_space line); end = length line + 1 }

-- a word that isn't empty and is UTF-8; the first octet that isn't has the column of the fault
abbrev pub sound : Word → Result Word Fault
sound w = if is_empty w.text then Err (BadWord w.column) else if is_utf8 w.text then Ok w
    else Err (BadWord (w.column + utf8_valid_len w.text))

-- the words behind the next
abbrev pub passed : Left → Left
passed left = record { words = drop 1 left.words; end = left.end }

-- the next word; one that is missing is looked for behind the line
abbrev pub next : Left → Result (Word × Left) Fault
next left = do
  w ← or_fault (BadWord left.end) (first_of left.words)
  word ← sound w
  Ok (word, passed left)

-- octets that are UTF-8
abbrev pub text_in : Text → Option Text
text_in t = if is_utf8 t then Some t else None

-- the next word, if one is left that is UTF-8
abbrev pub peeked : Left → Option Text
peeked left = option_and_then (λ w. text_in w.text) (first_of left.words)

-- whether the next word is this one, which is then passed over
abbrev pub stands : Text → Left → Bool
stands word left = some_and (λ w. same_octets w.text word) (first_of left.words)

abbrev pub skipped : Text → Left → Bool × Left
skipped word left = if stands word left then (true, passed left) else (false, left)

-- no word is left
abbrev pub ended_by : Option Word → Result (Unit {0}) Fault
ended_by None = Ok tt
ended_by (Some w) = do
  word ← sound w
  Err (BadWord word.column)

abbrev pub ended : Left → Result (Unit {0}) Fault
ended left = ended_by (first_of left.words)
