-- The merge of the parts of a list or search (X.518, section 21): part by part, in their order.
use Rattle.std.specs.Prelude.{◌≡◌, ℕ, Bool, true, false, ◌&&◌, ◌||◌, List, [], ◌∷◌, map}
use Rattle.std.specs.List.{list_all}
use Rattle.x5_model.specs.Answers as model
use Rattle.x5_model_serve.specs.Answering.{merged}
use Rattle.x5_ops.specs.AnswerViews.{answer_view}
use Rattle.x5_ops.specs.declared.answers.Answer.{Answer}
use Rattle.x5_ops.specs.declared.answers.Answer.TheVariants.{Entry, Match, Listed, Found, Changed}

abbrev pub is_list : Answer → Bool
is_list (Listed subs sources outcome) = true
is_list (Entry entry source) = false
is_list (Match matched copy source) = false
is_list (Found entries sources outcome) = false
is_list Changed = false

abbrev pub is_find : Answer → Bool
is_find (Found entries sources outcome) = true
is_find (Entry entry source) = false
is_find (Match matched copy source) = false
is_find (Listed subs sources outcome) = false
is_find Changed = false

-- all are of a list, or all are of a search
abbrev pub are_alike : List Answer → Bool
are_alike parts = list_all is_list parts || list_all is_find parts

-- an answer joined with those of later parts
abbrev pub merged_all : model.Answer → List model.Answer → model.Answer
merged_all a [] = a
merged_all a (b ∷ more) = merged_all (merged a b) more

abbrev pub IsMerge : List model.Answer → model.Answer → Type 0
IsMerge [] whole = ⊥
IsMerge (a ∷ more) whole = whole ≡ merged_all a more

-- the answer is the parts' merge, whatever the agents are called, and of the parts' kind
pub record IsMergeOf (parts : List Answer) (whole : Answer) : Type 0 where
  pub merge : (names : List (List ℕ)) → IsMerge (map (answer_view names) parts) (answer_view names whole)
  pub list : list_all is_list parts ≡ true → is_list whole ≡ true
  pub find : list_all is_find parts ≡ true → is_find whole ≡ true
