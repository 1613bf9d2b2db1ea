-- Values of types of messages for whose parts the code has types, of messages between agents, as those of requests and
-- of answers. What octets spell of such a message is such a value.
use Rattle.std.specs.Prelude.{ℕ, All}
use Rattle.x5_model_typed.specs.Nodes.{Node, Chosen, parts}
use Rattle.x5_model_messages.specs.Replies.{or_zero}
use Rattle.x5_model_messages.specs.Terms.{number_in}
use Rattle.x5_dapber.specs.Sayable.{OfTwo, OfThree, OfFive, IsCount, IsArgument}
use Rattle.x5_dapreply.specs.Sayable.{IsProgress, IsItem}

abbrev pub IsChaining : Node → Type 0
IsChaining n =
    OfFive (λ target progress trace kind exclusions. IsProgress progress × All IsItem (parts trace)
    × IsCount kind) (parts n)

abbrev pub IsCarried : ℕ → Node → Type 0
IsCarried code n = OfTwo (λ chaining argument. IsChaining chaining × IsArgument code argument) (parts n)

abbrev pub IsChained : Node → Type 0
IsChained (Chosen tag n) =
    OfThree (λ id code carried. IsCount id × IsCount code × IsCarried (or_zero (number_in code)) carried) (parts n)
IsChained n = ⊥
