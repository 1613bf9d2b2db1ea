-- What standard error says of a file that is refused, behind its name: where it is wrong, what is wrong there in words,
-- and where to read on (docs/FORMATS.md). It goes by the words of the line that is printed: `refused world` with a
-- reason and a path, `refused line` with a number, a reason and a column, or `refused octet` with a place and a reason.
use Rattle.std.specs.Prelude.{ℕ, ◌==◌, Bool, if◌then◌else◌, List, [], ◌∷◌, length, codes}
use Rattle.std.specs.List.{before_first, after_first, concat}
use Rattle.std.specs.Str.{bytes_eq}
use Rattle.xdir.specs.declared.explained.Explained.{Explained}
use Rattle.xdir.specs.declared.explained.Place.{Place}
use Rattle.xdir.specs.declared.explained.Place.TheVariants.{File, Path, Line, Column, Octet}

pub record Explanation : Type 0 where
  pub place : List ℕ
  pub reason : List ℕ
  pub section : List ℕ

-- all that is said
abbrev pub explanation_text : Explanation → List ℕ
explanation_text x = concat (x.place ∷ x.reason ∷ codes " (docs/FORMATS.md, '" ∷ x.section ∷ codes "')" ∷ [])

-- ---- words, with a space between two

abbrev pub first_word : List ℕ → List ℕ
first_word text = before_first (λ octet. octet == 32) text

abbrev pub behind_word : List ℕ → List ℕ
behind_word text = after_first (λ octet. octet == 32) text

-- ---- what is wrong

-- in a world file
abbrev pub world_reason : List ℕ → List ℕ
world_reason word =
    if bytes_eq word (codes "notJson") then codes "this is no value of JSON in UTF-8"
    else if bytes_eq word (codes "badShape")
    then codes "a member is missing, isn't known here, or hasn't the form that it must have"
    else if bytes_eq word (codes "badName") then codes "this is no name"
    else if bytes_eq word (codes "overLimit") then codes "this passes the limit that stands behind the path"
    else if bytes_eq word (codes "repeatedAgent") then codes "an agent before this one has the same name"
    else if bytes_eq word (codes "unknownAgent") then codes "no agent of this world has this name"
    else []

-- in a line of a script
abbrev pub line_reason : List ℕ → List ℕ
line_reason word =
    if bytes_eq word (codes "word") then codes "another word must stand here, or none"
    else if bytes_eq word (codes "name") then codes "this is no name, or no agent of this world has it"
    else if bytes_eq word (codes "filter") then codes "this is no filter"
    else if bytes_eq word (codes "hex") then codes "these are no octets in hexadecimal digits"
    else if bytes_eq word (codes "long")
    then codes "this line has more than 4,096 octets, or stands behind line 100,000"
    else []

-- with the octets of a shown file (X.690, clause 8)
abbrev pub octet_reason : List ℕ → List ℕ
octet_reason word =
    if bytes_eq word (codes "truncated") then codes "the octets end inside an element"
    else if bytes_eq word (codes "badLength") then codes "this length passes what lies around it, or is none"
    else if bytes_eq word (codes "badTag") then codes "no element begins with this"
    else if bytes_eq word (codes "badContent") then codes "this content isn't of its type"
    else if bytes_eq word (codes "tooDeep") then codes "this element lies deeper than 64"
    else []

-- ---- where it is wrong

-- at a path; that of the whole file is empty
abbrev pub at_path : List ℕ → List ℕ
at_path path = if length path == 0 then [] else concat (codes "at " ∷ path ∷ codes ": " ∷ [])

-- in a line, at a column where there is one
abbrev pub at_column : List ℕ → List ℕ → List ℕ
at_column number column =
    if length column == 0 then concat (codes "line " ∷ number ∷ codes ": " ∷ [])
    else concat (codes "line " ∷ number ∷ codes ", column " ∷ column ∷ codes ": " ∷ [])

abbrev pub at_octet : List ℕ → List ℕ
at_octet place = concat (codes "octet " ∷ place ∷ codes ": " ∷ [])

-- ---- by the words of the line

abbrev pub of_world : List ℕ → Explanation
of_world words = record {
  place = at_path (behind_word words);
  reason = world_reason (first_word words);
  section = codes "World file";
}

abbrev pub of_line : List ℕ → Explanation
of_line words = record {
  place = at_column (first_word words) (behind_word (behind_word words));
  reason = line_reason (first_word (behind_word words));
  section = codes "Script";
}

abbrev pub of_octet : List ℕ → Explanation
of_octet words = record {
  place = at_octet (first_word words);
  reason = octet_reason (behind_word words);
  section = codes "What show prints";
}

abbrev pub of_kind : List ℕ → List ℕ → Explanation
of_kind kind words =
    if bytes_eq kind (codes "world") then of_world words
    else if bytes_eq kind (codes "line") then of_line words else of_octet words

-- behind the word `refused`
abbrev pub explanation : List ℕ → Explanation
explanation line = of_kind (first_word (behind_word line)) (behind_word (behind_word line))

-- ---- what the code keeps of it

abbrev pub place_view : Place → List ℕ
place_view File = []
place_view (Path path) = concat (codes "at " ∷ path.now ∷ codes ": " ∷ [])
place_view (Line number) = concat (codes "line " ∷ number.now ∷ codes ": " ∷ [])
place_view (Column number column) =
    concat (codes "line " ∷ number.now ∷ codes ", column " ∷ column.now ∷ codes ": " ∷ [])
place_view (Octet place) = concat (codes "octet " ∷ place.now ∷ codes ": " ∷ [])

abbrev pub explained_view : Explained → Explanation
explained_view x = record { place = place_view x.place; reason = x.reason.now; section = x.section.now }
