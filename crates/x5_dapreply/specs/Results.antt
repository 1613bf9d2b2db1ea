-- Octets that are the result of an operation behind its code, and whole replies.
use Rattle.std.specs.Prelude.{◌≡◌, ℕ, List, [], ◌∷◌}
use Rattle.x5_model_typed.specs.Nodes.{Node, whole}
use Rattle.x5_model_typed.specs.Named.{Outcome, AnyNumber, DapAnswer, DspAnswer}
use Rattle.x5_model_typed.specs.Forms.{code}
use Rattle.x5_model_typed.specs.Layouts.{named_by, operation_codes}
use Rattle.x5_model_messages.specs.Replies.{Answer, Reply, answer_in}
use Rattle.x5_direct.specs.Spelled.{SpelledInOrder, Reads}
use Rattle.x5_dapreply.specs.ReplyViews.{heard_in}

abbrev pub ReadsResult : Answer → List ℕ → Type 0
ReadsResult answer octets =
    (k : ℕ) × (n : Node)
    × SpelledInOrder 10 (code AnyNumber (named_by (operation_codes Outcome)) ∷ []) (whole k ∷ n ∷ []) octets
    × (answer ≡ answer_in k n)

-- The octets are the reply to a user with that id, and just so the reply to an agent.
abbrev pub ReadsReply : ℕ × Reply → List ℕ → Type 0
ReadsReply said octets = Reads 12 DapAnswer heard_in said octets [] × Reads 12 DspAnswer heard_in said octets []
