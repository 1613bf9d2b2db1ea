-- The contexts of a part of a list or search by their numbers, and what each shows (X.518, section 19).
use Rattle.std.specs.Prelude.{◌≡◌, ℕ, List, map}
use Rattle.x5_model.specs.Members.{In}
use Rattle.x5_model.specs.Answers.{Answer}
use Rattle.x5_model.specs.Requests.{Body, Request}
use Rattle.x5_model.specs.References.{Chained}
use Rattle.x5_model_run.specs.Holdings.{Held, Holdings}
use Rattle.x5_eval.specs.Numbers.{held_number, served_numbers, stamp_number}
use Rattle.x5_eval.specs.Shown.{shown_by}

-- these are the contexts, in their order, and the request may be answered from each
pub record AreNumbers (r : Request) (h : Holdings) (cs : List Held) (numbers : List ℕ) : Type 0 where
  pub views : map (held_number h) numbers ≡ cs
  pub served : (n : ℕ) → In n numbers → In n (served_numbers r h)

-- what the context of the number shows
abbrev pub part_shown : Body → Chained → Holdings → ℕ → Answer
part_shown body m h n = shown_by body m h.me (stamp_number h n) (held_number h n)
