-- A name that is spelled as another one and an RDN more is that other name with its own last RDN behind.
use Rattle.std.specs.Prelude.{◌≡◌, ◌&&◌, not, Bool, true, false, List, [], ◌∷◌, ◌++◌, take}
use Rattle.std.proofs.Common.{refl, ap, ◌∙◌}
use Rattle.x5_model.specs.Values.{Name, last_rdn, name_above}
use Rattle.x5_model.specs.Words.{is_empty}
use Rattle.x5_model_tree.specs.Described.{same_spelling}
use Rattle.x5_model_tree.proofs.Stored.{same_name_is}
use Rattle.x5_world_members.specs.Spelling.{is_spelled_above}
use Rattle.x5_world_members.proofs.Owned.{one_less}

whole : (n : Name) → is_empty n ≡ false → name_above n ++ last_rdn n ∷ [] ≡ n
whole [] e = cc
whole (r ∷ []) e = refl
whole (r ∷ s ∷ rest) e =
    ap (λ (k : Name). k ++ last_rdn (s ∷ rest) ∷ []) (ap (λ k. take k (r ∷ s ∷ rest)) (one_less r s rest))
    ∙ ap (λ (k : Name). r ∷ k) (whole (s ∷ rest) refl)

told : (above n : Name) (b : Bool) → is_empty n ≡ b → (not b && same_spelling above (name_above n)) ≡ true → above ++ last_rdn n ∷ [] ≡ n
told above n true some e = cc
told above n false some e =
    ap (λ (k : Name). k ++ last_rdn n ∷ []) (same_name_is above (name_above n) e) ∙ whole n some

pub spelled_below : (above n : Name) → is_spelled_above above n ≡ true → above ++ last_rdn n ∷ [] ≡ n
spelled_below above n e = told above n (is_empty n) refl e
