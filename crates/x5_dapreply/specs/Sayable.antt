-- Values of types of messages for whose parts the code has types, of answers: problems and places of RDNs have one
-- octet, ids, codes and moments four at most, and each type of an attribute is an object identifier. What octets spell
-- of an answer is such a value.
use Rattle.std.specs.Prelude.{◌≡◌, ℕ, ◌<◌, ◌^◌, ◌==◌, List, [], ◌∷◌, All}
use Rattle.std.specs.declared.option.Option.TheVariants.{Some}
use Rattle.x5_model_typed.specs.Nodes.{Node, Vacant, Chosen, parts}
use Rattle.x5_model_messages.specs.Terms.{number_in}
use Rattle.x5_model_messages.specs.Replies.{or_zero}
use Rattle.x5_dapber.specs.Sayable.{pick, OfTwo, OfThree, OfFour, IsType, IsAttribute, IsCount}

abbrev pub IsSmall : Node → Type 0
IsSmall n = (k : ℕ) → number_in n ≡ Some k → k < 2 ^ 8

-- of just six parts
abbrev pub OfSix : (Node → Node → Node → Node → Node → Node → Type 0) → List Node → Type 0
OfSix P (a ∷ b ∷ c ∷ d ∷ e ∷ f ∷ []) = P a b c d e f
OfSix P other = ⊥

-- ---- references, trace items and sources

abbrev pub IsProgress : Node → Type 0
IsProgress n = OfTwo (λ phase next. IsCount phase × IsSmall next) (parts n)

abbrev pub IsAccess : Node → Type 0
IsAccess n = OfTwo (λ agent copy. Unit {0}) (parts n)

abbrev pub IsReference : Node → Type 0
IsReference n =
    OfSix (λ target progress kind agents exclusions tried. IsProgress progress × IsCount kind
    × All IsAccess (parts agents)) (parts n)

abbrev pub IsItem : Node → Type 0
IsItem n = OfFour (λ agent target progress wide. IsProgress progress) (parts n)

abbrev pub IsSource : Node → Type 0
IsSource n = OfThree (λ context agent moment. IsCount moment) (parts n)

-- ---- results

abbrev pub IsInfo : Node → Type 0
IsInfo n = OfThree (λ name from_entry attributes. All IsAttribute (parts attributes)) (parts n)

abbrev pub IsSub : Node → Type 0
IsSub n = OfTwo (λ rdn from_entry. Unit {0}) (parts n)

abbrev pub IsOutcome : Node → Type 0
IsOutcome n = OfTwo (λ limit unexplored. IsCount limit × All IsReference (parts unexplored)) (parts n)

abbrev pub IsListed : Node → Node → Node → Type 0
IsListed subs sources outcome = All IsSub (parts subs) × All IsSource (parts sources) × IsOutcome outcome

abbrev pub IsFound : Node → Node → Node → Type 0
IsFound entries sources outcome = All IsInfo (parts entries) × All IsSource (parts sources) × IsOutcome outcome

abbrev pub AreResult : ℕ → List Node → Type 0
AreResult code (entry ∷ source ∷ []) = IsInfo entry × IsSource source
AreResult code (a ∷ b ∷ c ∷ []) = pick (code == 2) (IsSource c) (pick (code == 4) (IsListed a b c) (IsFound a b c))
AreResult code other = Unit {0}

-- ---- errors

abbrev pub IsReferenceIf : Node → Type 0
IsReferenceIf Vacant = Unit {0}
IsReferenceIf n = IsReference n

abbrev pub IsItemIf : Node → Type 0
IsItemIf Vacant = Unit {0}
IsItemIf n = IsItem n

abbrev pub IsError : ℕ → Node → Type 0
IsError code n = by (parts n)
  where
    by : List Node → Type 0
    by (problem ∷ []) = IsSmall problem
    by (problem ∷ a ∷ []) = IsSmall problem × pick (code == 1) (IsType a) (Unit {0})
    by (problem ∷ reference ∷ item ∷ []) = IsSmall problem × IsReferenceIf reference × IsItemIf item
    by other = IsReference n

-- ---- messages

abbrev pub IsResult : Node → Type 0
IsResult n = OfTwo (λ code result. IsCount code × AreResult (or_zero (number_in code)) (parts result)) (parts n)

abbrev pub AreReply : List Node → Type 0
AreReply (id ∷ inner ∷ []) = IsCount id × IsResult inner
AreReply (id ∷ code ∷ parameter ∷ []) = IsCount id × IsCount code × IsError (or_zero (number_in code)) parameter
AreReply other = ⊥

abbrev pub IsReply : Node → Type 0
IsReply (Chosen tag n) = AreReply (parts n)
IsReply n = ⊥
