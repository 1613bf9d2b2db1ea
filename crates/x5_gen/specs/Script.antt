-- The script that is made of a number (docs/FORMATS.md, generated files): 2,000 lines, each of four draws that follow
-- those of the world. It is this project's own.
use Rattle.std.specs.Prelude.{ℕ, zero, suc, ◌+◌, ◌*◌, ◌%◌, ◌==◌, nat_lt, if◌then◌else◌, [], ◌∷◌, ◌++◌, codes}
use Rattle.std.specs.List.{concat}
use Rattle.std.specs.Fmt.{decimal}
use Rattle.x5_model.specs.Values.{Text}
use Rattle.x5_gen.specs.Draws.{after, below}
use Rattle.x5_gen.specs.World.{agents_count, people_count, prefix}

abbrev pub lines_count : ℕ
lines_count = 2000

-- what a line asks of person j below a prefix: it has this number, and is of kind k
abbrev pub asked : ℕ → ℕ → Text → ℕ → Text
asked n k above j =
    if nat_lt k 4 then concat (codes " read " ∷ above ∷ codes "/CN=P" ∷ decimal j ∷ codes " attrs=SN\n" ∷ [])
    else if nat_lt k 6 then concat (codes " search tree " ∷ above ∷ codes " (SN=S" ∷ decimal (j % 100)
    ∷ codes ") attrs=CN\n" ∷ [])
    else if nat_lt k 7 then concat (codes " list " ∷ above ∷ codes "/CN=P" ∷ decimal j ∷ codes "\n" ∷ [])
    else if nat_lt k 8 then concat (codes " modify " ∷ above ∷ codes "/CN=P" ∷ decimal j ∷ codes " put:description="
    ∷ decimal n ∷ codes "\n" ∷ [])
    else concat (codes " nocopy read " ∷ above ∷ codes "/CN=P" ∷ decimal j ∷ codes " attrs=SN\n" ∷ [])

-- a refresh of one of the nine agreements
abbrev pub pull : ℕ → Text
pull j = concat (codes "pull " ∷ decimal (1 + j % 9) ∷ codes " total\n" ∷ [])

-- line n asks agent a of person j of agent c, or refreshes
abbrev pub line : ℕ → ℕ → ℕ → ℕ → ℕ → Text
line n a k c j =
    if k == 9 then pull j else concat (codes "at A" ∷ decimal a ∷ asked n k (prefix c) j ∷ [])

-- the line, where the sequence has come to x: an agent, a kind, the agent of the context and a person are drawn
abbrev pub drawn_line : ℕ → ℕ → Text
drawn_line n x =
    line n (below agents_count (after x 1)) (below 10 (after x 2)) (below agents_count (after x 3))
    (below people_count (after x 4) + 1)

unfoldable pub lines : ℕ → ℕ → Text
lines x zero = []
lines x (suc n) = lines x n ++ drawn_line (suc n) (after x (4 * n))

-- the world draws a surname for each person
abbrev pub world_draws : ℕ
world_draws = agents_count * people_count

-- the script: its draws come after the world's
abbrev pub script_text : ℕ → Text
script_text seed = lines (after seed world_draws) lines_count
