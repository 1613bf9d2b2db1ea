-- The place of a part is what the first of its two parts says: case by case of what that is.
use Rattle.std.proofs.Common.{◌≡◌, List, [], ◌∷◌, refl}
use Rattle.std.specs.Prelude.{pos, negsuc}
use Rattle.x5_model_typed.specs.Nodes as nodes
use Rattle.x5_model_typed.specs.Nodes.{Node, Vacant, Flag, Number, Oid, Bits, Octets, Text, Chosen, Many}
use Rattle.x5_model_typed.specs.Rules as rules
use Rattle.x5_types.specs.NodeView.{IsNotTwo, none, one, three}
use Rattle.x5_rules.specs.Pieces.{place_of}

pub placed : (n p q : Node) → nodes.parts n ≡ p ∷ q ∷ [] → rules.place_in n ≡ place_of p
placed n Vacant q e = rw e refl
placed n (Flag f) q e = rw e refl
placed n (Number (pos k)) q e = rw e refl
placed n (Number (negsuc k)) q e = rw e refl
placed n (Oid arcs) q e = rw e refl
placed n (Bits bits) q e = rw e refl
placed n (Octets octets) q e = rw e refl
placed n (Text text) q e = rw e refl
placed n (Chosen tag m) q e = rw e refl
placed n (Many ns) q e = rw e refl

without_place : (n : Node) (l : List Node) → nodes.parts n ≡ l → IsNotTwo l → rules.place_in n ≡ 1
without_place n [] e none = rw e refl
without_place n (Vacant ∷ []) e one = rw e refl
without_place n ((Flag f) ∷ []) e one = rw e refl
without_place n ((Number (pos k)) ∷ []) e one = rw e refl
without_place n ((Number (negsuc k)) ∷ []) e one = rw e refl
without_place n ((Oid arcs) ∷ []) e one = rw e refl
without_place n ((Bits bits) ∷ []) e one = rw e refl
without_place n ((Octets octets) ∷ []) e one = rw e refl
without_place n ((Text text) ∷ []) e one = rw e refl
without_place n ((Chosen tag m) ∷ []) e one = rw e refl
without_place n ((Many ns) ∷ []) e one = rw e refl
without_place n (Vacant ∷ b ∷ c ∷ l) e three = rw e refl
without_place n ((Flag f) ∷ b ∷ c ∷ l) e three = rw e refl
without_place n ((Number (pos k)) ∷ b ∷ c ∷ l) e three = rw e refl
without_place n ((Number (negsuc k)) ∷ b ∷ c ∷ l) e three = rw e refl
without_place n ((Oid arcs) ∷ b ∷ c ∷ l) e three = rw e refl
without_place n ((Bits bits) ∷ b ∷ c ∷ l) e three = rw e refl
without_place n ((Octets octets) ∷ b ∷ c ∷ l) e three = rw e refl
without_place n ((Text text) ∷ b ∷ c ∷ l) e three = rw e refl
without_place n ((Chosen tag m) ∷ b ∷ c ∷ l) e three = rw e refl
without_place n ((Many ns) ∷ b ∷ c ∷ l) e three = rw e refl
without_place n (a ∷ (b ∷ [])) e x = elim x [ ]

pub no_place : (n : Node) → IsNotTwo (nodes.parts n) → rules.place_in n ≡ 1
no_place n x = without_place n (nodes.parts n) refl x
