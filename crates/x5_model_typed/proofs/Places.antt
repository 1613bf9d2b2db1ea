-- Octets lie at a place as one tree at most, and none of which others are the beginning.
use Rattle.std.proofs.Common.{◌≡◌, ℕ, ◌+◌, true, List, [], ◌∷◌, ◌++◌, length, refl, ap, sym, ◌∙◌, subst, append-nil}
use Rattle.std.proofs.lemmas.List.{append_cancel_right}
use Rattle.std.specs.declared.option.Option.TheVariants.{None, Some}
use Rattle.x5_model_octets.specs.Elements.{Spells, SpellsAll, Encloses, definite, indefinite, identifier}
use Rattle.x5_model_octets.proofs.ElementLaws.{spelled_once, header_reads, reads_unique}
use Rattle.x5_model_typed.specs.Trees as trees
use Rattle.x5_model_typed.specs.Trees.{Tree, Trees, Leaf, Branch, Bare, Row, Lies, LieAll, Frames, plain, plain_all}

pub frames_enclose : (header : List ℕ) (class tag : ℕ) (content octets : List ℕ) → Frames header class tag content octets → Encloses class tag content octets
frames_enclose header class tag content octets (trees.definite is whole) = definite header is whole
frames_enclose header class tag content octets (trees.indefinite is whole) = indefinite header is whole

mutual
  -- What lies there spells the element without places.
  pub lies_spells : (d at : ℕ) (t : Tree) (s : List ℕ) → Lies d at t s → Spells d (plain t) s
  lies_spells d at (Leaf place class tag content) s l = l.1
  lies_spells d at (Branch place class tag members) s l = (l.1, l.3, lie_all_spell (d + 1) (at + length l.2) members l.3 l.4, frames_enclose l.2 class tag l.3 s l.5)

  pub lie_all_spell : (d at : ℕ) (ts : Trees) (s : List ℕ) → LieAll d at ts s → SpellsAll d (plain_all ts) s
  lie_all_spell d at Bare s l = l
  lie_all_spell d at (Row t ts) s l = (l.0, l.1, lies_spells d at t l.0 l.2, lie_all_spell d (at + length l.0) ts l.1 l.3, l.4)

-- One spelling has one header and one content.
pub framed_once : (header header' : List ℕ) (class tag : ℕ) (content content' octets : List ℕ) → Frames header class tag content octets → Frames header' class tag content' octets → (header ≡ header') × (content ≡ content')
framed_once header header' class tag content content' octets (trees.definite is whole) (trees.definite is' whole') =
    let i = identifier true class tag in
    let same = reads_unique i i (Some (length content)) (Some (length content')) octets content content' (header_reads i (Some (length content)) header octets content is whole) (header_reads i (Some (length content')) header' octets content' is' whole') in
    (append_cancel_right header header' content (sym whole ∙ whole' ∙ ap (λ (l : List ℕ). header' ++ l) (sym same.rests)), same.rests)
framed_once header header' class tag content content' octets (trees.indefinite is whole) (trees.indefinite is' whole') =
    let i = identifier true class tag in
    let same = reads_unique i i None None octets (content ++ (0 ∷ 0 ∷ [])) (content' ++ (0 ∷ 0 ∷ [])) (header_reads i None header octets (content ++ (0 ∷ 0 ∷ [])) is whole) (header_reads i None header' octets (content' ++ (0 ∷ 0 ∷ [])) is' whole') in
    (append_cancel_right header header' (content ++ (0 ∷ 0 ∷ [])) (sym whole ∙ whole' ∙ ap (λ (l : List ℕ). header' ++ l) (sym same.rests)), append_cancel_right content content' (0 ∷ 0 ∷ []) same.rests)
framed_once header header' class tag content content' octets (trees.definite is whole) (trees.indefinite is' whole') =
    let i = identifier true class tag in
    let same = reads_unique i i (Some (length content)) None octets content (content' ++ (0 ∷ 0 ∷ [])) (header_reads i (Some (length content)) header octets content is whole) (header_reads i None header' octets (content' ++ (0 ∷ 0 ∷ [])) is' whole') in
    let none : Some (length content) ≡ None = same.extents in
    cc
framed_once header header' class tag content content' octets (trees.indefinite is whole) (trees.definite is' whole') =
    let i = identifier true class tag in
    let same = reads_unique i i None (Some (length content')) octets (content ++ (0 ∷ 0 ∷ [])) content' (header_reads i None header octets (content ++ (0 ∷ 0 ∷ [])) is whole) (header_reads i (Some (length content')) header' octets content' is' whole') in
    let none : None ≡ Some (length content') = same.extents in
    cc

mutual
  pub placed_once : (d at : ℕ) (t t' : Tree) (s : List ℕ) → Lies d at t s → Lies d at t' s → t ≡ t'
  placed_once d at (Leaf p class tag content) (Leaf p' class' tag' content') s l l' =
      let same = spelled_once d (plain (Leaf p class tag content)) (plain (Leaf p' class' tag' content')) s s [] [] l.1 l'.1 refl in
      let elements : plain (Leaf p class tag content) ≡ plain (Leaf p' class' tag' content') = same.elements in
      let places : p ≡ p' = l.0 ∙ sym l'.0 in
      cc
  placed_once d at (Leaf p class tag content) (Branch p' class' tag' members') s l l' =
      let same = spelled_once d (plain (Leaf p class tag content)) (plain (Branch p' class' tag' members')) s s [] [] l.1 (lies_spells d at (Branch p' class' tag' members') s l') refl in
      let elements : plain (Leaf p class tag content) ≡ plain (Branch p' class' tag' members') = same.elements in
      absurd (cc)
  placed_once d at (Branch p class tag members) (Leaf p' class' tag' content') s l l' =
      let same = spelled_once d (plain (Branch p class tag members)) (plain (Leaf p' class' tag' content')) s s [] [] (lies_spells d at (Branch p class tag members) s l) l'.1 refl in
      let elements : plain (Branch p class tag members) ≡ plain (Leaf p' class' tag' content') = same.elements in
      absurd (cc)
  placed_once d at (Branch p class tag members) (Branch p' class' tag' members') s l l' =
      let same = spelled_once d (plain (Branch p class tag members)) (plain (Branch p' class' tag' members')) s s [] [] (lies_spells d at (Branch p class tag members) s l) (lies_spells d at (Branch p' class' tag' members') s l') refl in
      let elements : plain (Branch p class tag members) ≡ plain (Branch p' class' tag' members') = same.elements in
      let classes : class ≡ class' = cc elements in
      let tags : tag ≡ tag' = cc elements in
      let places : p ≡ p' = l.0 ∙ sym l'.0 in
      let frame : Frames l'.2 class tag l'.3 s = subst (λ (c : ℕ). Frames l'.2 c tag l'.3 s) (sym classes) (subst (λ (k : ℕ). Frames l'.2 class' k l'.3 s) (sym tags) l'.5) in
      let framed = framed_once l.2 l'.2 class tag l.3 l'.3 s l.5 frame in
      let theirs : LieAll (d + 1) (at + length l.2) members' l.3 =
      subst (λ (h : List ℕ). LieAll (d + 1) (at + length h) members' l.3) (sym framed.0) (subst (λ (c : List ℕ). LieAll (d + 1) (at + length l'.2) members' c) (sym framed.1) l'.4) in
      let all : members ≡ members' = all_placed_once (d + 1) (at + length l.2) members members' l.3 (cc elements) l.4 theirs in
      cc

  pub all_placed_once : (d at : ℕ) (ts ts' : Trees) (s : List ℕ) → plain_all ts ≡ plain_all ts' → LieAll d at ts s → LieAll d at ts' s → ts ≡ ts'
  all_placed_once d at Bare Bare s e l l' = refl
  all_placed_once d at Bare (Row t' ts') s e l l' = absurd (cc e)
  all_placed_once d at (Row t ts) Bare s e l l' = absurd (cc e)
  all_placed_once d at (Row t ts) (Row t' ts') s e l l' =
      let same = spelled_once d (plain t) (plain t') l.0 l'.0 l.1 l'.1 (lies_spells d at t l.0 l.2) (lies_spells d at t' l'.0 l'.2) (sym l.4 ∙ l'.4) in
      let first : t ≡ t' = placed_once d at t t' l.0 l.2 (subst (λ (o : List ℕ). Lies d at t' o) (sym same.spellings) l'.2) in
      let theirs : LieAll d (at + length l.0) ts' l.1 =
      subst (λ (o : List ℕ). LieAll d (at + length o) ts' l.1) (sym same.spellings) (subst (λ (o : List ℕ). LieAll d (at + length l'.0) ts' o) (sym same.rests) l'.3) in
      let rest : ts ≡ ts' = all_placed_once d (at + length l.0) ts ts' l.1 (cc e) l.3 theirs in
      cc

-- No spelling is the beginning of another.
pub whole_spelling : (t t' : Tree) (octets more : List ℕ) → Lies 1 0 t octets → Lies 1 0 t' (octets ++ more) → more ≡ []
whole_spelling t t' octets more l l' =
    let same = spelled_once 1 (plain t) (plain t') octets (octets ++ more) more [] (lies_spells 1 0 t octets l) (lies_spells 1 0 t' (octets ++ more) l') (sym (append-nil (octets ++ more))) in
    same.rests
