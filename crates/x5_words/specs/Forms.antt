-- The words of the command line: which lists of words ask for something, and for what. This project's own.
use Rattle.std.specs.Prelude.{ℕ, ◌^◌, Bool, true, false, not, ◌&&◌, nat_lt, nat_le, if◌then◌else◌, List, [], ◌∷◌}
use Rattle.std.specs.Prelude.{length, Option, Some, None, option_map, codes, nat_eq}
use Rattle.std.specs.List.{starts_with, list_all}
use Rattle.std.specs.Char.{is_ascii_digit}
use Rattle.std.specs.Str.{bytes_eq}
use Rattle.std.specs.Str.Parse.{digits_value}

-- the names of a world file and of a script
pub record FileNames : Type 0 where
  pub world : List ℕ
  pub script : List ℕ

-- What a command line asks for: a run, which prints its blocks or a summary of them; the knowledge line of a world; a
-- script on the one tree; the world and the script of a number, run or printed; the elements in a file.
pub data Form : Type 0 where
  Run : FileNames → Bool → Form
  Check : List ℕ → Form
  Tree : FileNames → Form
  GenRun : ℕ → Form
  GenWorld : ℕ → Form
  GenScript : ℕ → Form
  Show : List ℕ → Form

-- the name of a file is a word that doesn't begin with `-`
abbrev pub is_file_name : List ℕ → Bool
is_file_name word = not (starts_with nat_eq word (codes "-"))

abbrev pub is_summary : List ℕ → Bool
is_summary word = bytes_eq word (codes "--summary")

-- one to ten digits, of a number below 2^32
abbrev pub are_digits : List ℕ → Bool
are_digits word = list_all is_ascii_digit word

abbrev pub is_numeral : List ℕ → Bool
is_numeral word = are_digits word && nat_lt 0 (length word) && nat_le (length word) 10

abbrev pub number_in : List ℕ → Option ℕ
number_in word = if is_numeral word && nat_lt (digits_value 10 word) (2 ^ 32) then Some (digits_value 10 word) else None

-- two names of files
abbrev pub files_in : List ℕ → List ℕ → Option FileNames
files_in world script =
    if is_file_name world && is_file_name script then Some (record { world = world; script = script }) else None

-- behind `run`: WORLD SCRIPT, with `--summary` before, between or behind them
abbrev pub run_in : List (List ℕ) → Option Form
run_in (a ∷ b ∷ []) = option_map (λ files. Run files false) (files_in a b)
run_in (a ∷ b ∷ c ∷ []) =
    if is_summary a then option_map (λ files. Run files true) (files_in b c)
    else if is_summary b then option_map (λ files. Run files true) (files_in a c)
    else if is_summary c then option_map (λ files. Run files true) (files_in a b)
    else None
run_in words = None

-- behind `gen`: N, and `world` or `script`
abbrev pub gen_in : List (List ℕ) → Option Form
gen_in (n ∷ []) = option_map GenRun (number_in n)
gen_in (n ∷ what ∷ []) =
    if bytes_eq what (codes "world") then option_map GenWorld (number_in n)
    else if bytes_eq what (codes "script") then option_map GenScript (number_in n)
    else None
gen_in words = None

-- behind `check` and `show`: a file
abbrev pub name_in : List (List ℕ) → Option (List ℕ)
name_in (file ∷ []) = if is_file_name file then Some file else None
name_in words = None

-- behind `tree`: WORLD SCRIPT
abbrev pub tree_in : List (List ℕ) → Option Form
tree_in (a ∷ b ∷ []) = option_map Tree (files_in a b)
tree_in words = None

abbrev pub form_behind : List ℕ → List (List ℕ) → Option Form
form_behind command words =
    if bytes_eq command (codes "run") then run_in words
    else if bytes_eq command (codes "check") then option_map Check (name_in words)
    else if bytes_eq command (codes "tree") then tree_in words
    else if bytes_eq command (codes "gen") then gen_in words
    else if bytes_eq command (codes "show") then option_map Show (name_in words)
    else None

-- there is no other form
abbrev pub form_in : List (List ℕ) → Option Form
form_in [] = None
form_in (command ∷ words) = form_behind command words
