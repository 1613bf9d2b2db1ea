-- Values of types of messages for whose parts the code has types, of messages of shadowing: ids, codes and moments have
-- four octets at most and problems one, agents are the world's, values are of their types' kinds, and entries are in
-- order. What octets spell of such a message is such a value.
use Rattle.std.specs.Prelude.{◌≡◌, ℕ, ◌==◌, Bool, true, List, [], ◌∷◌, All}
use Rattle.x5_model.specs.Attributes.{is_ordered}
use Rattle.x5_model_typed.specs.Nodes.{Node, Chosen, parts}
use Rattle.x5_model_typed.specs.Rules.{is_of_type, text_in, type_number}
use Rattle.x5_model_messages.specs.Replies.{or_zero}
use Rattle.x5_model_messages.specs.Shadows.{entry_in}
use Rattle.x5_model_messages.specs.Terms.{number_in}
use Rattle.x5_dapber.specs.Sayable.{pick, OfTwo, OfThree, IsCount, IsValue}
use Rattle.x5_dapreply.specs.Sayable.{IsSmall}

-- ---- entries, and changes of them

-- a value of the type
abbrev pub IsStoredValue : ℕ → Node → Type 0
IsStoredValue k n = IsValue n × (is_of_type k n ≡ true)

abbrev pub IsStored : Node → Type 0
IsStored n = OfTwo (λ type values. All (IsStoredValue (type_number type)) (parts values)) (parts n)

abbrev pub IsEntry : Node → Type 0
IsEntry n = OfThree (λ name from_entry attributes. All IsStored (parts attributes)) (parts n)
    × (is_ordered (entry_in n).entry ≡ true)

abbrev pub IsRenamed : Node → Type 0
IsRenamed n = OfTwo (λ name entry. IsEntry entry) (parts n)

abbrev pub IsStep : Node → Type 0
IsStep (Chosen tag n) =
    pick (tag == 0) (IsEntry n) (pick (tag == 1) (Unit {0}) (pick (tag == 2) (IsEntry n) (IsRenamed n)))
IsStep n = ⊥

-- ---- references to agents of the world

abbrev pub IsAgent : (List ℕ → Bool) → Node → Type 0
IsAgent is_agent n = OfTwo (λ agent copy. is_agent (text_in agent) ≡ true) (parts n)

-- one at least, of which the first is the master
abbrev pub HaveMaster : (List ℕ → Bool) → List Node → Type 0
HaveMaster is_agent [] = ⊥
HaveMaster is_agent (a ∷ others) = IsAgent is_agent a × All (IsAgent is_agent) others

abbrev pub IsKnown : (List ℕ → Bool) → Node → Type 0
IsKnown is_agent n = OfTwo (λ name agents. HaveMaster is_agent (parts agents)) (parts n)

abbrev pub IsNonSpecific : (List ℕ → Bool) → Node → Type 0
IsNonSpecific is_agent n = OfTwo (λ name agents. All (IsAgent is_agent) (parts agents)) (parts n)

-- ---- refreshes

abbrev pub IsTotal : (List ℕ → Bool) → Node → Type 0
IsTotal is_agent n =
    OfThree (λ entries known others. All IsEntry (parts entries) × All (IsKnown is_agent) (parts known)
    × All (IsNonSpecific is_agent) (parts others)) (parts n)

abbrev pub IsRefresh : (List ℕ → Bool) → Node → Type 0
IsRefresh is_agent (Chosen tag n) = pick (tag == 0) (IsTotal is_agent n) (All IsStep (parts n))
IsRefresh is_agent n = Unit {0}

-- ---- messages

-- the argument of the operation with the code
abbrev pub IsArgument : (List ℕ → Bool) → ℕ → Node → Type 0
IsArgument is_agent code n =
    OfThree (λ agreement a b. IsCount agreement × IsCount a
    × pick (code == 2) (IsRefresh is_agent b) (IsCount b)) (parts n)

abbrev pub IsFailed : Node → Type 0
IsFailed n = OfThree (λ problem held given. IsSmall problem × IsCount held × IsCount given) (parts n)

abbrev pub IsDone : Node → Type 0
IsDone n = OfTwo (λ code result. IsSmall code) (parts n)

abbrev pub AreMessage : (List ℕ → Bool) → ℕ → List Node → Type 0
AreMessage is_agent tag (id ∷ inner ∷ []) = IsCount id × IsDone inner
AreMessage is_agent tag (id ∷ code ∷ said ∷ []) = IsCount id × IsCount code
    × pick (tag == 1) (IsArgument is_agent (or_zero (number_in code)) said) (IsFailed said)
AreMessage is_agent tag other = ⊥

abbrev pub IsMessage : (List ℕ → Bool) → Node → Type 0
IsMessage is_agent (Chosen tag n) = AreMessage is_agent tag (parts n)
IsMessage is_agent n = ⊥
