-- Octets of a slice are octets, and what they spell is what reading comes to.
use Rattle.std.proofs.Common.{◌≡◌, ℕ, suc, ◌<◌, ◌&&◌, true, List, [], ◌∷◌, get_or, refl, ap₂, subst}
use Rattle.std.specs.List.{list_all}
use Rattle.std.proofs.lemmas.Bool.{lt-ltb}
use Rattle.std.specs.declared.result.Result.{Result}
use Rattle.std.specs.declared.result.Result.TheVariants.{Ok}
use Rattle.x5_model_typed.specs.Forms.{Layout}
use Rattle.x5_model_octets.specs.Breaches.{Breach}
use Rattle.x5_model_typed.specs.Named.{Named}
use Rattle.x5_model_typed.specs.Nodes.{Node}
use Rattle.x5_model_typed.specs.Typed.{Spells}
use Rattle.x5_model_typed_laws.specs.Said.{is_octet}
use Rattle.x5_model_typed_laws.proofs.Deciding.{is_judged}
use Rattle.x5_typed.specs.Comes.{Comes, ComesTo, whole}
use Rattle.x5_types.specs.FormView.{table}

pub are_octets : (xs : List ℕ) → ((k : ℕ) → get_or xs k 0 < 256) → list_all is_octet xs ≡ true
are_octets [] h = refl
are_octets (x ∷ xs) h = ap₂ ◌&&◌ (lt-ltb x 256 (h 0)) (are_octets xs (λ k. h (suc k)))

pub spelled_in : (layout : Layout) (form : Named) (octets : List ℕ) (n : Node) → Spells layout form octets n
    → Comes layout form octets (Ok n)
spelled_in layout form octets n s =
    subst (λ (r : Result Node Breach). Comes layout form octets r) (is_judged layout (layout form) s.tree n s.is_of)
    (whole s.tree s.lies)

pub spelled_comes : (form : Named) (octets : List ℕ) (n : Node) → Spells table form octets n → ComesTo form octets (Ok n)
spelled_comes form octets n s = spelled_in table form octets n s
