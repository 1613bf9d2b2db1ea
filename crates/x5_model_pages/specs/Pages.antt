-- Answers to a list or a search in pages (X.511, section 7.9: paged results). The agents answer at once and whole; the
-- user's side keeps what is left of an answer by a number, of 64 answers at most.
use Rattle.std.specs.Prelude.{ℕ, Bool, true, false, not, ◌==◌, nat_lt, nat_le, if◌then◌else◌, List, [], ◌∷◌, ◌++◌, length}
use Rattle.std.specs.Prelude.{take, drop, filter}
use Rattle.std.specs.List.{find, list_any}
use Rattle.std.specs.declared.option.Option.{Option}
use Rattle.std.specs.declared.option.Option.TheVariants.{None, Some}
use Rattle.x5_model.specs.Answers.{Outcome, Answer, Listed, Found}

-- what is left of an answer, and how many members a page has
pub record Kept : Type 0 where
  pub id : ℕ
  pub size : ℕ
  pub left : Answer

abbrev pub Table : Type 0
Table = List Kept

-- ---- an answer and its parts

-- what comes in pages
abbrev pub is_paged : Answer → Bool
is_paged (Listed subs sources o) = true
is_paged (Found infos sources o) = true
is_paged a = false

abbrev pub count_of : Answer → ℕ
count_of (Listed subs sources o) = length subs
count_of (Found infos sources o) = length infos
count_of a = 0

-- the first members, with all that is told beside them
abbrev pub first_part : ℕ → Answer → Answer
first_part k (Listed subs sources o) = Listed (take k subs) sources o
first_part k (Found infos sources o) = Found (take k infos) sources o
first_part k a = a

abbrev pub nothing_beside : Outcome
nothing_beside = record { limited = false; unexplored = [] }

-- the members behind them alone
abbrev pub rest_of : ℕ → Answer → Answer
rest_of k (Listed subs sources o) = Listed (drop k subs) [] nothing_beside
rest_of k (Found infos sources o) = Found (drop k infos) [] nothing_beside
rest_of k a = a

-- ---- the table

abbrev pub has_id : ℕ → Kept → Bool
has_id id k = k.id == id

abbrev pub kept_at : ℕ → Table → Option Kept
kept_at id t = find (has_id id) t

abbrev pub most_kept : ℕ
most_kept = 64

-- why a number can't be used, by its number; the first in this order
pub data Fault : Type 0 where
  Unknown : Fault
  Taken : Fault
  Full : Fault

abbrev pub start_fault : ℕ → Table → Option Fault
start_fault id t =
    if list_any (has_id id) t then Some Taken else if nat_le most_kept (length t) then Some Full else None

abbrev pub without : ℕ → Table → Table
without id t = filter (λ k. not (has_id id k)) t

-- a page: its part, and whether more is left
pub record Page : Type 0 where
  pub part : Answer
  pub more : Bool

abbrev pub page_of : ℕ → Answer → Page
page_of size a = record { part = first_part size a; more = nat_lt size (count_of a) }

-- what is left is kept behind the others; where nothing is, the number is free
abbrev pub keeping : ℕ → ℕ → Answer → Table → Table
keeping id size a t =
    if nat_lt size (count_of a) then t ++ record { id = id; size = size; left = rest_of size a } ∷ [] else t

abbrev pub started : ℕ → ℕ → Answer → Table → Table
started id size a t = keeping id size a t

-- the next page of what is kept
abbrev pub passed : Kept → Table → Table
passed k t = keeping k.id k.size k.left (without k.id t)
