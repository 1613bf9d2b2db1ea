-- An octet list spells at most one element, no spelling begins another, and no spelling begins with
-- end-of-contents octets.
use Rattle.std.proofs.Common.{◌≡◌, ℕ, ◌+◌, Bool, true, false, List, [], ◌∷◌, ◌++◌, length, take, refl, ap, sym, ◌∙◌, arith, append_assoc}
use Rattle.std.specs.declared.option.Option.{Option}
use Rattle.std.specs.declared.option.Option.TheVariants.{None, Some}
use Rattle.std.specs.declared.result.Result.TheVariants.{Ok}
use Rattle.std.proofs.lemmas.List.{append_cancel_left, append_cancel_right}
use Rattle.std.proofs.Math.Seq.{take-append_seam}
use Rattle.x5_model_octets.specs.Headers.{Identifier, identifier_at, identifier_of, length_at, IsHeader}
use Rattle.x5_model_octets.specs.Elements.{Element, Elements, Primitive, Constructed, Nil, More, Spells, SpellsAll, SpellsPrimitive, Encloses, definite, indefinite, identifier}
use Rattle.x5_model_octets.proofs.HeaderLaws.{ok_parts, identifier_again, length_again}

-- Two lists that are cut at one place.
pub cut_alike : (a b x y : List ℕ) → length a ≡ length b → a ++ x ≡ b ++ y → (a ≡ b) × (x ≡ y)
cut_alike a b x y same e =
    let front : a ≡ b = sym (take-append_seam a x) ∙ ap (λ (l : List ℕ). take (length a) l) e ∙ rw same (take-append_seam b y) in
    (front, append_cancel_left a x y (e ∙ ap (λ (l : List ℕ). l ++ y) (sym front)))

some_same : {A : Type 0} (x y : A) → Some x ≡ Some y → x ≡ y
some_same x y e = cc

-- A header is read from the octets, with the rest behind it.
pub record HeaderReads (i : Identifier) (n : Option ℕ) (octets rest : List ℕ) : Type 0 where
  pub lengths : List ℕ
  pub reads_identifier : identifier_at octets ≡ Ok (i, lengths)
  pub reads_length : length_at lengths ≡ Ok (n, rest)

pub header_reads : (i : Identifier) (n : Option ℕ) (header octets rest : List ℕ) → IsHeader i n header → octets ≡ header ++ rest → HeaderReads i n octets rest
header_reads i n header octets rest is e =
    let split : octets ≡ is.identifier_octets ++ (is.length_octets ++ rest) = e ∙ ap (λ (l : List ℕ). l ++ rest) is.whole ∙ append_assoc is.identifier_octets is.length_octets rest in
    record {
      lengths = is.length_octets ++ rest;
      reads_identifier = ap identifier_at split ∙ identifier_again i is.identifier_octets (is.length_octets ++ rest) is.identifier;
      reads_length = length_again n is.length_octets rest is.length_form;
    }

-- What stands behind one header, where another one stands too.
pub record SameReads (i j : Identifier) (m n : Option ℕ) (x y : List ℕ) : Type 0 where
  pub identifiers : i ≡ j
  pub extents : m ≡ n
  pub rests : x ≡ y

pub reads_unique : (i j : Identifier) (m n : Option ℕ) (octets x y : List ℕ) → HeaderReads i m octets x → HeaderReads j n octets y → SameReads i j m n x y
reads_unique i j m n octets x y is js =
    let firsts : (i ≡ j) × (is.lengths ≡ js.lengths) = ok_parts (i, is.lengths) (j, js.lengths) (identifier_at octets) is.reads_identifier js.reads_identifier in
    let seconds : (m ≡ n) × (x ≡ y) = ok_parts (m, x) (n, y) (length_at is.lengths) is.reads_length (ap length_at firsts.1 ∙ js.reads_length) in
    record { identifiers = firsts.0; extents = seconds.0; rests = seconds.1 }

-- A spelling begins with a header.
pub record Opening (constructed : Bool) (octets : List ℕ) : Type 0 where
  pub said : Identifier
  pub form : said.constructed ≡ constructed
  pub extent : Option ℕ
  pub header : List ℕ
  pub after : List ℕ
  pub is_header : IsHeader said extent header
  pub whole : octets ≡ header ++ after

abbrev pub encloses_opening : (class tag : ℕ) (content octets : List ℕ) → Encloses class tag content octets → Opening true octets
encloses_opening class tag content octets (definite header is whole) = record { said = identifier true class tag; form = refl; extent = Some (length content); header = header; after = content; is_header = is; whole = whole }
encloses_opening class tag content octets (indefinite header is whole) = record { said = identifier true class tag; form = refl; extent = None; header = header; after = content ++ (0 ∷ 0 ∷ []); is_header = is; whole = whole }

-- A member stands at the front of the octets.
pub record Begins (d : ℕ) (octets : List ℕ) : Type 0 where
  pub member : Element
  pub spelling : List ℕ
  pub rest : List ℕ
  pub spells : Spells d member spelling
  pub whole : octets ≡ spelling ++ rest

pub opening_reads : (constructed : Bool) (octets spelling rest : List ℕ) (o : Opening constructed spelling) → octets ≡ spelling ++ rest → HeaderReads o.said o.extent octets (o.after ++ rest)
opening_reads constructed octets spelling rest o e =
    header_reads o.said o.extent o.header octets (o.after ++ rest) o.is_header (e ∙ ap (λ (l : List ℕ). l ++ rest) o.whole ∙ append_assoc o.header o.after rest)

abbrev pub primitive_opening : (d class tag : ℕ) (content octets : List ℕ) → SpellsPrimitive d class tag content octets → Opening false octets
primitive_opening d class tag content octets s = record { said = identifier false class tag; form = refl; extent = Some (length content); header = s.header; after = content; is_header = s.is_header; whole = s.whole }

pub nothing_begins : (d : ℕ) → Begins d [] → ⊥
nothing_begins d b = by_element b.member b.spells
  where
    none : (constructed : Bool) → Opening constructed b.spelling → ⊥
    none constructed o = let reads = opening_reads constructed [] b.spelling b.rest o b.whole in let is : identifier_at [] ≡ Ok (o.said, reads.lengths) = reads.reads_identifier in cc

    by_element : (e : Element) → Spells d e b.spelling → ⊥
    by_element (Primitive class tag content) s = none false (primitive_opening d class tag content b.spelling s)
    by_element (Constructed class tag members) s = none true (encloses_opening class tag s.1 b.spelling s.3)

is_empty : (xs : List ℕ) → 0 ≡ length xs → xs ≡ []
is_empty [] h = refl
is_empty (x ∷ xs) h = absurd (omega arith)

pub end_begins_none : (d : ℕ) (rest : List ℕ) → Begins d (0 ∷ 0 ∷ rest) → ⊥
end_begins_none d rest b = by_element b.member b.spells
  where
    reads_end : HeaderReads (identifier_of 0 0) (Some 0) (0 ∷ 0 ∷ rest) rest
    reads_end = record { lengths = 0 ∷ rest; reads_identifier = refl; reads_length = refl }

    by_element : (e : Element) → Spells d e b.spelling → ⊥
    by_element (Primitive class tag content) s =
        let o = primitive_opening d class tag content b.spelling s in
        let same = reads_unique (identifier_of 0 0) (identifier false class tag) (Some 0) (Some (length content)) (0 ∷ 0 ∷ rest) rest (content ++ b.rest) reads_end (opening_reads false (0 ∷ 0 ∷ rest) b.spelling b.rest o b.whole) in
        let empty : content ≡ [] = is_empty content (some_same 0 (length content) same.extents) in
        let rests : rest ≡ b.rest = same.rests ∙ ap (λ (l : List ℕ). l ++ b.rest) empty in
        s.no_end (append_cancel_right b.spelling (0 ∷ 0 ∷ []) b.rest (sym b.whole ∙ ap (λ (l : List ℕ). 0 ∷ 0 ∷ l) rests))
    by_element (Constructed class tag members) s =
        let o = encloses_opening class tag s.1 b.spelling s.3 in
        let same = reads_unique (identifier_of 0 0) o.said (Some 0) o.extent (0 ∷ 0 ∷ rest) rest (o.after ++ b.rest) reads_end (opening_reads true (0 ∷ 0 ∷ rest) b.spelling b.rest o b.whole) in
        let form : false ≡ o.said.constructed = ap (λ (i : Identifier). i.constructed) same.identifiers in
        let other : o.said.constructed ≡ true = o.form in
        cc

-- Two spellings at the front of the same octets.
pub record Same (e e' : Element) (s s' r r' : List ℕ) : Type 0 where
  pub elements : e ≡ e'
  pub spellings : s ≡ s'
  pub rests : r ≡ r'

-- Two rows of spellings at the front of the same octets: they are one, or behind one of them stands
-- another member.
pub data Compared (d : ℕ) (es es' : Elements) (f f' r r' : List ℕ) : Type 0 where
  alike : es ≡ es' → f ≡ f' → r ≡ r' → Compared d es es' f f' r r'
  first_begins : Begins d r → Compared d es es' f f' r r'
  second_begins : Begins d r' → Compared d es es' f f' r r'

same_rests : (e e' : Element) (s s' r r' : List ℕ) → s ++ r ≡ s' ++ r' → e ≡ e' → r ≡ r' → Same e e' s s' r r'
same_rests e e' s s' r r' whole elements rests =
    record { elements = elements; spellings = append_cancel_right s s' r (whole ∙ ap (λ (l : List ℕ). s' ++ l) (sym rests)); rests = rests }

forms_differ : (s s' r r' : List ℕ) → Opening false s → Opening true s' → s ++ r ≡ s' ++ r' → ⊥
forms_differ s s' r r' o o' e =
    let same = reads_unique o.said o'.said o.extent o'.extent (s ++ r) (o.after ++ r) (o'.after ++ r') (opening_reads false (s ++ r) s r o refl) (opening_reads true (s ++ r) s' r' o' e) in
    let form : o.said.constructed ≡ o'.said.constructed = ap (λ (i : Identifier). i.constructed) same.identifiers in
    let one : o.said.constructed ≡ false = o.form in
    let other : o'.said.constructed ≡ true = o'.form in
    cc

primitives_unique : (d class tag class' tag' : ℕ) (content content' s s' r r' : List ℕ) → SpellsPrimitive d class tag content s → SpellsPrimitive d class' tag' content' s' → s ++ r ≡ s' ++ r'
    → Same (Primitive class tag content) (Primitive class' tag' content') s s' r r'
primitives_unique d class tag class' tag' content content' s s' r r' p q e =
    let o = primitive_opening d class tag content s p in
    let o' = primitive_opening d class' tag' content' s' q in
    let same = reads_unique (identifier false class tag) (identifier false class' tag') (Some (length content)) (Some (length content')) (s ++ r) (content ++ r) (content' ++ r') (opening_reads false (s ++ r) s r o refl) (opening_reads false (s ++ r) s' r' o' e) in
    let cut = cut_alike content content' r r' (some_same _ _ same.extents) same.rests in
    let classes : class ≡ class' = ap (λ (i : Identifier). i.class) same.identifiers in
    let tags : tag ≡ tag' = ap (λ (i : Identifier). i.tag) same.identifiers in
    let contents : content ≡ content' = cut.0 in
    same_rests (Primitive class tag content) (Primitive class' tag' content') s s' r r' e (cc) cut.1

constructed_unique : (d class tag class' tag' : ℕ) (es es' : Elements) (content content' s s' r r' : List ℕ)
    → ((x y : List ℕ) → content ++ x ≡ content' ++ y → Compared d es es' content content' x y)
    → Encloses class tag content s → Encloses class' tag' content' s' → s ++ r ≡ s' ++ r'
    → Same (Constructed class tag es) (Constructed class' tag' es') s s' r r'
constructed_unique d class tag class' tag' es es' content content' s s' r r' members (definite header is whole) (definite header' is' whole') e =
    let o = encloses_opening class tag content s (definite header is whole) in
    let o' = encloses_opening class' tag' content' s' (definite header' is' whole') in
    let same = reads_unique (identifier true class tag) (identifier true class' tag') (Some (length content)) (Some (length content')) (s ++ r) (content ++ r) (content' ++ r') (opening_reads true (s ++ r) s r o refl) (opening_reads true (s ++ r) s' r' o' e) in
    let cut = cut_alike content content' r r' (some_same _ _ same.extents) same.rests in
    let classes : class ≡ class' = ap (λ (i : Identifier). i.class) same.identifiers in
    let tags : tag ≡ tag' = ap (λ (i : Identifier). i.tag) same.identifiers in
    same_rests (Constructed class tag es) (Constructed class' tag' es') s s' r r' e (let all : es ≡ es' = by_row (members [] [] (ap (λ (l : List ℕ). l ++ []) cut.0)) in cc) cut.1
  where
    by_row : Compared d es es' content content' [] [] → es ≡ es'
    by_row (alike all fronts rests) = all
    by_row (first_begins b) = absurd (nothing_begins d b)
    by_row (second_begins b) = absurd (nothing_begins d b)
constructed_unique d class tag class' tag' es es' content content' s s' r r' members (indefinite header is whole) (indefinite header' is' whole') e =
    let o = encloses_opening class tag content s (indefinite header is whole) in
    let o' = encloses_opening class' tag' content' s' (indefinite header' is' whole') in
    let same = reads_unique (identifier true class tag) (identifier true class' tag') None None (s ++ r) ((content ++ (0 ∷ 0 ∷ [])) ++ r) ((content' ++ (0 ∷ 0 ∷ [])) ++ r') (opening_reads true (s ++ r) s r o refl) (opening_reads true (s ++ r) s' r' o' e) in
    let classes : class ≡ class' = ap (λ (i : Identifier). i.class) same.identifiers in
    let tags : tag ≡ tag' = ap (λ (i : Identifier). i.tag) same.identifiers in
    let rows : content ++ (0 ∷ 0 ∷ r) ≡ content' ++ (0 ∷ 0 ∷ r') = sym (append_assoc content (0 ∷ 0 ∷ []) r) ∙ same.rests ∙ append_assoc content' (0 ∷ 0 ∷ []) r' in
    by_row classes tags (members (0 ∷ 0 ∷ r) (0 ∷ 0 ∷ r') rows)
  where
    by_row : class ≡ class' → tag ≡ tag' → Compared d es es' content content' (0 ∷ 0 ∷ r) (0 ∷ 0 ∷ r') → Same (Constructed class tag es) (Constructed class' tag' es') s s' r r'
    by_row classes tags (alike all fronts rests) = same_rests (Constructed class tag es) (Constructed class' tag' es') s s' r r' e (cc) (cc)
    by_row classes tags (first_begins b) = absurd (end_begins_none d r b)
    by_row classes tags (second_begins b) = absurd (end_begins_none d r' b)
constructed_unique d class tag class' tag' es es' content content' s s' r r' members (definite header is whole) (indefinite header' is' whole') e =
    let o = encloses_opening class tag content s (definite header is whole) in
    let o' = encloses_opening class' tag' content' s' (indefinite header' is' whole') in
    let same = reads_unique (identifier true class tag) (identifier true class' tag') (Some (length content)) None (s ++ r) (content ++ r) ((content' ++ (0 ∷ 0 ∷ [])) ++ r') (opening_reads true (s ++ r) s r o refl) (opening_reads true (s ++ r) s' r' o' e) in
    let none : Some (length content) ≡ None = same.extents in
    cc
constructed_unique d class tag class' tag' es es' content content' s s' r r' members (indefinite header is whole) (definite header' is' whole') e =
    let o = encloses_opening class tag content s (indefinite header is whole) in
    let o' = encloses_opening class' tag' content' s' (definite header' is' whole') in
    let same = reads_unique (identifier true class tag) (identifier true class' tag') None (Some (length content')) (s ++ r) ((content ++ (0 ∷ 0 ∷ [])) ++ r) (content' ++ r') (opening_reads true (s ++ r) s r o refl) (opening_reads true (s ++ r) s' r' o' e) in
    let none : None ≡ Some (length content') = same.extents in
    cc

-- A row with a member behind a first one.
row_of : (d : ℕ) (e : Element) (first rest r : List ℕ) (octets : List ℕ) → Spells d e first → octets ≡ (first ++ rest) ++ r → Begins d octets
row_of d e first rest r octets s whole = record { member = e; spelling = first; rest = rest ++ r; spells = s; whole = whole ∙ append_assoc first rest r }

more_alike : (d : ℕ) (e e' : Element) (es es' : Elements) (first first' rest rest' f f' r r' : List ℕ) → f ≡ first ++ rest → f' ≡ first' ++ rest' → e ≡ e' → first ≡ first'
    → Compared d es es' rest rest' r r' → Compared d (More e es) (More e' es') f f' r r'
more_alike d e e' es es' first first' rest rest' f f' r r' whole whole' elements firsts (alike all rests ends) =
    alike (cc) (whole ∙ ap (λ (l : List ℕ). l ++ rest) firsts ∙ ap (λ (l : List ℕ). first' ++ l) rests ∙ sym whole') ends
more_alike d e e' es es' first first' rest rest' f f' r r' whole whole' elements firsts (first_begins b) = first_begins b
more_alike d e e' es es' first first' rest rest' f f' r r' whole whole' elements firsts (second_begins b) = second_begins b

mutual
  pub spelled_once : (d : ℕ) (e e' : Element) (s s' r r' : List ℕ) → Spells d e s → Spells d e' s' → s ++ r ≡ s' ++ r' → Same e e' s s' r r'
  spelled_once d (Primitive class tag content) (Primitive class' tag' content') s s' r r' p q e = primitives_unique d class tag class' tag' content content' s s' r r' p q e
  spelled_once d (Primitive class tag content) (Constructed class' tag' es') s s' r r' p q e =
      absurd (forms_differ s s' r r' (primitive_opening d class tag content s p) (encloses_opening class' tag' q.1 s' q.3) e)
  spelled_once d (Constructed class tag es) (Primitive class' tag' content') s s' r r' p q e =
      absurd (forms_differ s' s r' r (primitive_opening d class' tag' content' s' q) (encloses_opening class tag p.1 s p.3) (sym e))
  spelled_once d (Constructed class tag es) (Constructed class' tag' es') s s' r r' p q e =
      constructed_unique (d + 1) class tag class' tag' es es' p.1 q.1 s s' r r' (λ x y h. compared (d + 1) es es' p.1 q.1 x y p.2 q.2 h) p.3 q.3 e

  pub compared : (d : ℕ) (es es' : Elements) (f f' r r' : List ℕ) → SpellsAll d es f → SpellsAll d es' f' → f ++ r ≡ f' ++ r' → Compared d es es' f f' r r'
  compared d Nil Nil f f' r r' p q e = alike refl (p ∙ sym q) (sym (ap (λ (l : List ℕ). l ++ r) p) ∙ e ∙ ap (λ (l : List ℕ). l ++ r') q)
  compared d Nil (More e' es') f f' r r' p q e =
      first_begins (row_of d e' q.0 q.1 r' r q.2 (sym (ap (λ (l : List ℕ). l ++ r) p) ∙ e ∙ ap (λ (l : List ℕ). l ++ r') q.4))
  compared d (More e1 es) Nil f f' r r' p q e =
      second_begins (row_of d e1 p.0 p.1 r r' p.2 (sym (ap (λ (l : List ℕ). l ++ r') q) ∙ sym e ∙ ap (λ (l : List ℕ). l ++ r) p.4))
  compared d (More e1 es) (More e' es') f f' r r' p q e =
      let split : p.0 ++ (p.1 ++ r) ≡ q.0 ++ (q.1 ++ r') = sym (append_assoc p.0 p.1 r) ∙ sym (ap (λ (l : List ℕ). l ++ r) p.4) ∙ e ∙ ap (λ (l : List ℕ). l ++ r') q.4 ∙ append_assoc q.0 q.1 r' in
      let same = spelled_once d e1 e' p.0 q.0 (p.1 ++ r) (q.1 ++ r') p.2 q.2 split in
      more_alike d e1 e' es es' p.0 q.0 p.1 q.1 f f' r r' p.4 q.4 same.elements same.spellings (compared d es es' p.1 q.1 r r' p.3 q.3 same.rests)
