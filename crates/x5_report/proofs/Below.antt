-- A name's text is that of what stands above, a slash and its last RDN's.
use Rattle.std.proofs.Common.{◌≡◌, ℕ, suc, ◌-◌, List, [], ◌∷◌, ◌++◌, take, map, length, Some, sym, ap, ◌∙◌, arith, append-nil}
use Rattle.std.proofs.lemmas.Grind.{flat_map-append}
use Rattle.std.proofs.lemmas.List.{map_push}
use Rattle.std.specs.List.{flat_map}
use Rattle.std.specs.Prelude.{slice_get}
use Rattle.x5_model.specs.Values.{Name, Rdn, name_above, written_pair}
use Rattle.x5_model_text.specs.NameText.{slash, slash_and_pairs, text_of_name, text_of_rdn}
use Rattle.x5_report.specs.Below.{text_below}

rejoined : (n : Name) (r : Rdn) → Some r ≡ slice_get n (length n - 1) → name_above n ++ r ∷ [] ≡ n
rejoined [] r e = cc
rejoined (x ∷ []) r e = inside e
  where
    inside : Some r ≡ Some x → r ∷ [] ≡ x ∷ []
    inside q = cc
rejoined (x ∷ y ∷ rest) r e =
    let k : length (x ∷ y ∷ rest) - 1 ≡ suc (length (y ∷ rest) - 1) = omega arith in
    ap (λ (k : ℕ). take k (x ∷ y ∷ rest) ++ r ∷ []) k
    ∙ ap (λ (n : Name). x ∷ n) (rejoined (y ∷ rest) r (e ∙ ap (slice_get (x ∷ y ∷ rest)) k))

pushed : (n : Name) (r : Rdn) → text_below n (text_of_rdn r) ≡ text_of_name (n ++ r ∷ [])
pushed [] r = ap (λ (t : List ℕ). slash ∷ t) (sym (append-nil (text_of_rdn r)))
pushed (x ∷ n) r =
    sym (ap (flat_map slash_and_pairs) (map_push (map written_pair) (x ∷ n) r)
    ∙ flat_map-append slash_and_pairs (map (map written_pair) (x ∷ n)) (map written_pair r ∷ [])
    ∙ ap (λ (t : List ℕ). text_of_name (x ∷ n) ++ t) (append-nil (slash ∷ text_of_rdn r)))

pub is_below : (n : Name) (r : Rdn) → Some r ≡ slice_get n (length n - 1)
    → text_below (name_above n) (text_of_rdn r) ≡ text_of_name n
is_below n r e = pushed (name_above n) r ∙ ap text_of_name (rejoined n r e)
