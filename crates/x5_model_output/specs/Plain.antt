-- What a request's block prints on the one tree (docs/FORMATS.md, output): nothing passes between agents there, so the
-- block has no messages; nobody accepts, nothing is a copy, and no agent is a source. All of it is this project's own.
use Rattle.std.specs.Prelude.{◌≡◌, ℕ, ◌+◌, false, List, [], ◌∷◌, ◌++◌, length, map, codes}
use Rattle.std.specs.List.{concat, flat_map}
use Rattle.x5_model.specs.Values.{Text}
use Rattle.x5_model.specs.Answers.{EntryInfo, Sub, Answer, EntryFound, Matched, Listed, Found, Changed, Reply}
use Rattle.x5_model.specs.Answers.{Answered, Failed, Referred}
use Rattle.x5_model.specs.Requests.{Request}
use Rattle.x5_model_tree.specs.World.{World}
use Rattle.x5_model_tree.specs.Tree.{Tree}
use Rattle.x5_model_tree.specs.Masters.{whole}
use Rattle.x5_model_tree.specs.Consistent.{first_breach}
use Rattle.x5_model_tree.specs.Ask.{Told, Shows, Compares, Lists, Finds, Changes, Refuses, rest_of, unexplored_of, ask}
use Rattle.x5_model_run.specs.History.{tree_with}
use Rattle.x5_model_run.specs.Run.{Command, Blank, Asks}
use Rattle.x5_model_output.specs.Output.{Names, names_of, knowledge_line, number_line, entry_lines, match_line}
use Rattle.x5_model_output.specs.Output.{sub_line, count_line, limit_line, answer_lines, error_line, reply_lines}

-- not as a copy
abbrev pub plain_info : EntryInfo → EntryInfo
plain_info info = record info { copy = false }

abbrev pub plain_sub : Sub → Sub
plain_sub s = record s { copy = false }

-- what an answer prints without marks of copies and without sources
abbrev pub plain_answer_lines : Names → Answer → Text
plain_answer_lines names (EntryFound info source) = entry_lines (plain_info info)
plain_answer_lines names (Matched equal copy source) = match_line equal false
plain_answer_lines names (Listed subs sources o) = answer_lines names (Listed (map plain_sub subs) [] o)
plain_answer_lines names (Found infos sources o) = answer_lines names (Found (map plain_info infos) [] o)
plain_answer_lines names Changed = answer_lines names Changed

abbrev pub plain_reply_lines : Names → Reply → Text
plain_reply_lines names (Answered a) = plain_answer_lines names a
plain_reply_lines names (Failed x) = reply_lines names (Failed x)
plain_reply_lines names (Referred r) = reply_lines names (Referred r)

abbrev pub plain_block_text : Names → ℕ → Reply → Text
plain_block_text names n reply = number_line n ++ plain_reply_lines names reply

-- what the tree tells, printed: all that such a block has where nothing is unexplored
abbrev pub told_lines : Names → Told → Text
told_lines names (Shows info) = entry_lines (plain_info info)
told_lines names (Compares equal copy) = match_line equal false
told_lines names (Lists subs cut) =
    concat (count_line (codes "listed") (length subs) ∷ flat_map (λ s. sub_line (plain_sub s)) subs ∷ limit_line cut
    ∷ [])
told_lines names (Finds infos cut) =
    concat (count_line (codes "found") (length infos) ∷ flat_map (λ i. entry_lines (plain_info i)) infos
    ∷ limit_line cut ∷ [])
told_lines names Changes = codes "changed\n"
told_lines names (Refuses x) = error_line names x

abbrev pub PlainIsTold : Type 0
PlainIsTold = (names : Names) (a : Answer) → unexplored_of a ≡ []
    → plain_answer_lines names a ≡ told_lines names (rest_of a)

-- the tree after a request: an update that isn't refused has changed it
abbrev pub tree_left : Tree → Request → Told → Tree
tree_left t r Changes = tree_with t r
tree_left t r other = t

abbrev pub tree_after : Tree → Command → Tree
tree_after t (Asks to r) = tree_left t r (ask t r)
tree_after t other = t

-- what is printed for line n: nothing for a comment or an empty line, and `set` for a line that is no request
abbrev pub plain_text : Names → ℕ → Tree → Command → Text
plain_text names n t Blank = []
plain_text names n t (Asks to r) = number_line n ++ told_lines names (ask t r)
plain_text names n t other = number_line n ++ codes "set\n"

abbrev pub plain_texts : Names → ℕ → Tree → List Command → Text
plain_texts names n t [] = []
plain_texts names n t (c ∷ cs) = plain_text names n t c ++ plain_texts names (n + 1) (tree_after t c) cs

-- the whole output of a script on the one tree of a world whose knowledge is consistent
abbrev pub tree_text : World → (ℕ → Text) → List Command → Text
tree_text w moment commands =
    knowledge_line (names_of w moment) (first_breach w) ++ plain_texts (names_of w moment) 1 (whole w) commands
