-- A reference says its six components, and an error that has no fewer is a referral.
use Rattle.std.proofs.Common.{◌≡◌, ℕ, Bool, List, [], ◌∷◌, map, refl, sym, ap, ◌∙◌}
use Rattle.x5_model.specs.References.{Progress, RefType}
use Rattle.x5_model.specs.Values.{Name, Rdn}
use Rattle.x5_model_messages.specs.Replies.{Access, Reference, Referred, access_in, progress_in, kind_in, reference_in, error_in}
use Rattle.x5_model_messages.specs.Terms.{name_of, rdn_of, flag_in}
use Rattle.x5_model_typed.specs.Nodes as nodes
use Rattle.x5_model_typed.specs.Nodes.{Node, Many, More, Nil, parts}
use Rattle.x5_dapreply.specs.Sayable.{IsReference}
use Rattle.x5_dapreply.proofs.Six.{as_row}

reference_of : Name → Progress → RefType → List Access → List Rdn → Bool → Reference
reference_of n p k a x t = record { target = n; progress = p; kind = k; agents = a; exclusions = x; tried = t }

reference_same : (n m : Name) (p q : Progress) (k l : RefType) (a b : List Access) (x y : List Rdn) (t u : Bool)
    → n ≡ m → p ≡ q → k ≡ l → a ≡ b → x ≡ y → t ≡ u → reference_of n p k a x t ≡ reference_of m q l b y u
reference_same n m p q k l a b x y t u e f g h i j = cc

pub reference_said : (n a b c d e f : Node) (r : Reference) → parts n ≡ a ∷ b ∷ c ∷ d ∷ e ∷ f ∷ [] → r.target ≡ name_of a
    → r.progress ≡ progress_in b → r.kind ≡ kind_in c → r.agents ≡ map access_in (parts d) → r.exclusions ≡ map rdn_of (parts e)
    → r.tried ≡ flag_in f → r ≡ reference_in n
unfolding reference_of
reference_said n a b c d e f r are g h i j k l =
    reference_same _ _ _ _ _ _ _ _ _ _ _ _ g h i j k l ∙ sym (ap reference_in (as_row n a (b ∷ c ∷ d ∷ e ∷ f ∷ []) are))

pub referral_said : (code : ℕ) (n : Node) → IsReference n → error_in code n ≡ Referred (reference_in n)
referral_said code (Many (More a (More b (More c (More d ns))))) h = refl
referral_said code (Many (More a (More b (More c Nil)))) h = absurd h
referral_said code (Many (More a (More b Nil))) h = absurd h
referral_said code (Many (More a Nil)) h = absurd h
referral_said code (Many Nil) h = absurd h
referral_said code nodes.Vacant h = absurd h
referral_said code (nodes.Flag b) h = absurd h
referral_said code (nodes.Number k) h = absurd h
referral_said code (nodes.Oid arcs) h = absurd h
referral_said code (nodes.Bits b) h = absurd h
referral_said code (nodes.Octets o) h = absurd h
referral_said code (nodes.Text t) h = absurd h
referral_said code (nodes.Chosen tag m) h = absurd h
