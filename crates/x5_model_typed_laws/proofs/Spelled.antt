-- Octets that spell a value are the contents of its element; so in a closed table what they spell fits.
use Rattle.std.proofs.Common.{◌≡◌, ℕ, ◌+◌, true, List, [], ◌∷◌, ◌++◌, length, refl, sym, ap, ◌∙◌}
use Rattle.std.proofs.lemmas.List.Folds.{list_all-append}
use Rattle.std.specs.List.{list_all}
use Rattle.x5_model.proofs.Lists.{both_true}
use Rattle.x5_model_typed.specs.Trees as trees
use Rattle.x5_model_typed.specs.Trees.{Tree, Trees, Leaf, Branch, Bare, Row, Frames, Lies, LieAll}
use Rattle.x5_model_typed_laws.specs.Said.{is_octet, HasOctets, HaveOctets, SpelledFits}
use Rattle.x5_model_typed_laws.proofs.Reading.{read_fits}

parts : (octets front rest : List ℕ) → list_all is_octet octets ≡ true → octets ≡ front ++ rest
    → (list_all is_octet front ≡ true) × (list_all is_octet rest ≡ true)
parts octets front rest h e =
    both_true (list_all is_octet front) (list_all is_octet rest)
    (sym (list_all-append is_octet front rest) ∙ ap (λ (l : List ℕ). list_all is_octet l) (sym e) ∙ h)

within : (header : List ℕ) (class tag : ℕ) (content octets : List ℕ) → Frames header class tag content octets
    → list_all is_octet octets ≡ true → list_all is_octet content ≡ true
within header class tag content octets (trees.definite is whole) h = (parts octets header content h whole).1
within header class tag content octets (trees.indefinite is whole) h =
    let w = parts octets header (content ++ (0 ∷ 0 ∷ [])) h whole in
    (parts (content ++ (0 ∷ 0 ∷ [])) content (0 ∷ 0 ∷ []) w.1 refl).0

mutual
  lies_octets : (d at : ℕ) (t : Tree) (octets : List ℕ) → Lies d at t octets → list_all is_octet octets ≡ true
      → HasOctets t
  lies_octets d at (Leaf place class tag content) octets l h = (parts octets l.1.header content h l.1.whole).1
  lies_octets d at (Branch place class tag members) octets l h =
      all_octets (d + 1) (at + length l.2) members l.3 l.4 (within l.2 class tag l.3 octets l.5 h)

  all_octets : (d at : ℕ) (ts : Trees) (octets : List ℕ) → LieAll d at ts octets → list_all is_octet octets ≡ true
      → HaveOctets ts
  all_octets d at Bare octets l h = tt
  all_octets d at (Row t ts) octets l h =
      let w = parts octets l.0 l.1 h l.4 in
      (lies_octets d at t l.0 l.2 w.0, all_octets d (at + length l.0) ts l.1 l.3 w.1)

pub spelled_fits : SpelledFits
spelled_fits layout form octets n closed h s =
    read_fits layout closed (layout form) s.tree n (closed.closes form) (closed.uncoded form)
    (lies_octets 1 0 s.tree octets s.lies h) s.is_of
