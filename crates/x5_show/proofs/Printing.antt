-- Lines of elements in a row, and of one element with its members.
use Rattle.std.proofs.Common.{◌≡◌, ℕ, ◌+◌, ◌-◌, ◌<◌, ◌≤◌, true, false, List, [], ◌++◌, length, take, drop, refl, ap, sym, subst, ◌∙◌, arith, append_assoc, append-nil, length-append}
use Rattle.std.proofs.lemmas.List.{drop-drop, drop_all}
use Rattle.std.specs.Result.{OnOk, IfOk}
use Rattle.std.specs.declared.result.Result.{Result}
use Rattle.std.specs.declared.result.Result.TheVariants.{Ok, Err}
use Rattle.std.proofs.Math.Seq.{take-append_seam, drop-append_seam}
use lib.Chars.{codes}
use Rattle.x5_model_octets.specs.Elements.{Element, Elements, Primitive, Constructed, Nil, More, Spells, SpellsAll, identifier}
use Rattle.x5_model_octets.proofs.ElementLaws.{Same, spelled_once}
use Rattle.x5_ber.specs.declared.element.Tlv.{Tlv}
use Rattle.x5_ber.specs.Reading.{Stands}
use Rattle.x5_ber.specs.Found as found
use Rattle.x5_ber.specs.Found.{IsElementAt, Describes, Frames}
use Rattle.std.specs.declared.option.Option.TheVariants.{None, Some}
use Rattle.x5_model_octets.proofs.FaultLaws.{header_some}
use Rattle.x5_show.specs.Show.{Lines, LinesAll, line}
use Rattle.x5_show.proofs.Values.{spelling_some}

-- The front of octets that stand, and what is behind it.
pub front_stands : (bytes : List ℕ) (at : ℕ) (front rest : List ℕ) → Stands bytes at (front ++ rest) → Stands bytes at front × Stands bytes (at + length front) rest
front_stands bytes at front rest s =
    let behind : drop (at + length front) bytes ≡ rest ++ drop (at + length (front ++ rest)) bytes =
    sym (drop-drop (length front) at bytes) ∙ ap (λ (l : List ℕ). drop (length front) l) (s.split ∙ append_assoc front rest _) ∙ drop-append_seam front _ in
    let size : at + length (front ++ rest) ≡ at + length front + length rest = omega (arith, length-append front rest) in (
      record { split = s.split ∙ append_assoc front rest _ ∙ ap (λ (l : List ℕ). front ++ l) (sym behind); there = omega (arith, s.there, size) },
      record { split = behind ∙ ap (λ (n : ℕ). rest ++ drop n bytes) size; there = omega (arith, s.there, size) },
    )

mutual
  -- What is spelled deeper is spelled further out, too.
  pub shallower : (d k : ℕ) (e : Element) (octets : List ℕ) → Spells (d + k) e octets → Spells d e octets
  shallower d k (Primitive class tag content) octets s = record { deep = omega (arith, s.deep); header = s.header; is_header = s.is_header; whole = s.whole; no_end = s.no_end }
  shallower d k (Constructed class tag members) octets s =
      (omega (arith, s.0), s.1, all_shallower (d + 1) k members s.1 (subst (λ (n : ℕ). SpellsAll n members s.1) (omega arith) s.2), s.3)

  pub all_shallower : (d k : ℕ) (es : Elements) (octets : List ℕ) → SpellsAll (d + k) es octets → SpellsAll d es octets
  all_shallower d k Nil octets all = all
  all_shallower d k (More e es) octets all = (all.0, all.1, shallower d k e all.0 all.2, all_shallower d k es all.1 all.3, all.4)

-- What is left of elements in a row: their lines, behind the text so far, are the lines of all.
pub record Left (bytes : List ℕ) (level start end : ℕ) (es : Elements) (octets before : List ℕ) (at : ℕ) (now : List ℕ) : Type 0 where
  pub elements : Elements
  pub rest : List ℕ
  pub spells : SpellsAll 1 elements rest
  pub stands : Stands bytes at rest
  pub ends : end ≡ at + length rest
  pub joins : (more : List ℕ) → LinesAll level at elements rest more → (text : List ℕ) × LinesAll level start es octets text × (now ++ more ≡ before ++ text)

pub left_first : (bytes : List ℕ) (level start end : ℕ) (es : Elements) (octets before : List ℕ) → SpellsAll 1 es octets → Stands bytes start octets → end ≡ start + length octets
    → Left bytes level start end es octets before start before
left_first bytes level start end es octets before all stands ends =
    record { elements = es; rest = octets; spells = all; stands = stands; ends = ends; joins = λ more lines. (more, lines, refl) }

-- The lines of the first of the elements that are left.
pub record Next (bytes : List ℕ) (level start end : ℕ) (es : Elements) (octets before : List ℕ) (at : ℕ) (now : List ℕ) : Type 0 where
  pub element : Element
  pub spelling : List ℕ
  pub spells : Spells 1 element spelling
  pub stands : Stands bytes at spelling
  pub fits : at + length spelling ≤ end
  pub left : (one : List ℕ) → Lines level at element spelling one → Left bytes level start end es octets before (at + length spelling) (now ++ one)

pub left_next : (bytes : List ℕ) (level start end : ℕ) (es : Elements) (octets before : List ℕ) (at : ℕ) (now : List ℕ) → at < end → Left bytes level start end es octets before at now
    → Next bytes level start end es octets before at now
left_next bytes level start end es octets before at now open_at l = by_elements l.elements l.rest l.spells l.stands l.ends l.joins
  where
    by_elements : (left : Elements) (rest : List ℕ) → SpellsAll 1 left rest → Stands bytes at rest → end ≡ at + length rest
        → ((more : List ℕ) → LinesAll level at left rest more → (text : List ℕ) × LinesAll level start es octets text × (now ++ more ≡ before ++ text)) → Next bytes level start end es octets before at now
    by_elements Nil rest all stands ends joins = absurd (omega (arith, ends, ap length all))
    by_elements (More e left) rest all stands ends joins =
        let both = front_stands bytes at all.0 all.1 (subst (λ (o : List ℕ). Stands bytes at o) all.4 stands) in
        let size : length rest ≡ length all.0 + length all.1 = ap length all.4 ∙ length-append all.0 all.1 in
        record {
          element = e;
          spelling = all.0;
          spells = all.2;
          stands = both.0;
          fits = omega (arith, ends, size);
          left = λ one lines. record {
            elements = left;
            rest = all.1;
            spells = all.3;
            stands = both.1;
            ends = omega (arith, ends, size);
            joins = λ more rest_lines.
                let joined = joins (one ++ more) (all.0, all.1, one, more, all.2, all.4, lines, rest_lines, refl) in
                (joined.0, joined.1, append_assoc now one more ∙ joined.2);
          };
        }

-- All lines are there where nothing is left.
pub left_none : (bytes : List ℕ) (level start end : ℕ) (es : Elements) (octets before : List ℕ) (at : ℕ) (now : List ℕ) → end ≤ at → Left bytes level start end es octets before at now
    → (text : List ℕ) × LinesAll level start es octets text × (now ≡ before ++ text)
left_none bytes level start end es octets before at now ended l = by_elements l.elements l.rest l.spells l.ends l.joins
  where
    by_elements : (left : Elements) (rest : List ℕ) → SpellsAll 1 left rest → end ≡ at + length rest
        → ((more : List ℕ) → LinesAll level at left rest more → (text : List ℕ) × LinesAll level start es octets text × (now ++ more ≡ before ++ text)) → (text : List ℕ) × LinesAll level start es octets text × (now ≡ before ++ text)
    by_elements Nil rest all ends joins = let joined = joins [] (all, refl) in (joined.0, joined.1, sym (append-nil now) ∙ joined.2)
    by_elements (More e left) rest all ends joins =
        absurd (omega (arith, ends, ap length all.4, length-append all.0 all.1, spelling_some e all.0 all.2))

-- The element that was found is the one that is spelled there.
pub found_same : (bytes : List ℕ) (at next : ℕ) (tlv : Tlv) (f : IsElementAt bytes at tlv next) (e : Element) (octets : List ℕ) → Spells 1 e octets → Stands bytes at octets
    → Same f.element e (f.header ++ (f.content ++ f.tail)) octets (drop (at + length (f.header ++ (f.content ++ f.tail))) bytes) (drop (at + length octets) bytes)
found_same bytes at next tlv f e octets s st = spelled_once 1 f.element e (f.header ++ (f.content ++ f.tail)) octets _ _ f.spells s (sym f.stands.split ∙ st.split)

-- The content of an element that was found stands where it says.
pub content_stands : (bytes : List ℕ) (at next : ℕ) (tlv : Tlv) (f : IsElementAt bytes at tlv next) → Stands bytes tlv.start f.content
content_stands bytes at next tlv f =
    subst (λ (n : ℕ). Stands bytes n f.content) (sym f.start) (front_stands bytes (at + length f.header) f.content f.tail (front_stands bytes at f.header (f.content ++ f.tail) f.stands).1).0

pub content_bounds : (bytes : List ℕ) (at next : ℕ) (tlv : Tlv) (f : IsElementAt bytes at tlv next) → (at < tlv.start) × (tlv.start ≤ tlv.end) × (tlv.end ≤ next) × (next ≤ length bytes)
content_bounds bytes at next tlv f =
    let size : length (f.header ++ (f.content ++ f.tail)) ≡ length f.header + (length f.content + length f.tail) = length-append f.header (f.content ++ f.tail) ∙ ap (λ (n : ℕ). length f.header + n) (length-append f.content f.tail) in
    let some : 0 < length f.header = header_before f.element f.describes in
    (omega (arith, f.start, some), omega (arith, f.end), omega (arith, f.start, f.end, f.next_is, size), omega (arith, f.next_is, f.stands.there))
  where
    header_before : (e : Element) → Describes e tlv f.header f.content f.tail → 0 < length f.header
    header_before (Primitive class tag octets) d = header_some (identifier false class tag) (Some (length f.content)) f.header d.4
    header_before (Constructed class tag members) d = by_frames d.4
      where
        by_frames : Frames class tag (length f.content) f.header f.tail → 0 < length f.header
        by_frames (found.definite is ends) = header_some (identifier true class tag) (Some (length f.content)) f.header is
        by_frames (found.indefinite is ends) = header_some (identifier true class tag) None f.header is

-- The line of a primitive element that was found.
pub primitive_lines : (bytes : List ℕ) (level at next : ℕ) (tlv : Tlv) (f : IsElementAt bytes at tlv next) (e : Element) (octets : List ℕ) → Spells 1 e octets → Stands bytes at octets → tlv.constructed ≡ false
    → Lines level at e octets (line level at tlv.class tlv.tag (codes "prim") f.content)
primitive_lines bytes level at next tlv f e octets s st form =
    let same = found_same bytes at next tlv f e octets s st in
    subst (λ (x : Element). Lines level at x octets (line level at tlv.class tlv.tag (codes "prim") f.content)) same.elements (by_element f.element f.describes)
  where
    by_element : (x : Element) → Describes x tlv f.header f.content f.tail → Lines level at x octets (line level at tlv.class tlv.tag (codes "prim") f.content)
    by_element (Primitive class tag content) d =
        ap (λ (c : ℕ). line level at c tlv.tag (codes "prim") f.content) d.0 ∙ ap (λ (t : ℕ). line level at class t (codes "prim") f.content) d.2 ∙ ap (λ (o : List ℕ). line level at class tag (codes "prim") o) d.3
    by_element (Constructed class tag members) d = let other : tlv.constructed ≡ true = d.1 in cc

-- The members of a constructed element that was found.
pub record Members (bytes : List ℕ) (level at : ℕ) (tlv : Tlv) (e : Element) (octets : List ℕ) : Type 0 where
  pub members : Elements
  pub content : List ℕ
  pub spells : SpellsAll 1 members content
  pub stands : Stands bytes tlv.start content
  pub ends : tlv.end ≡ tlv.start + length content
  pub lines : (more : List ℕ) → LinesAll (level + 1) tlv.start members content more → Lines level at e octets (line level at tlv.class tlv.tag (codes "cons") [] ++ more)

pub members_of : (bytes : List ℕ) (level at next : ℕ) (tlv : Tlv) (f : IsElementAt bytes at tlv next) (e : Element) (octets : List ℕ) → Spells 1 e octets → Stands bytes at octets → tlv.constructed ≡ true
    → Members bytes level at tlv e octets
members_of bytes level at next tlv f e octets s st form =
    let same = found_same bytes at next tlv f e octets s st in
    subst (λ (x : Element). Members bytes level at tlv x octets) same.elements (by_element f.element f.describes same.spellings)
  where
    by_element : (x : Element) → Describes x tlv f.header f.content f.tail → f.header ++ (f.content ++ f.tail) ≡ octets → Members bytes level at tlv x octets
    by_element (Primitive class tag content) d whole = let other : tlv.constructed ≡ false = d.1 in cc
    by_element (Constructed class tag members) d whole = record {
      members = members;
      content = f.content;
      spells = all_shallower 1 1 members f.content d.3;
      stands = content_stands bytes at next tlv f;
      ends = f.end;
      lines = λ more lines. (
        f.header,
        f.content,
        f.tail,
        more,
        sym whole,
        d.4,
        subst (λ (n : ℕ). LinesAll (level + 1) n members f.content more) f.start lines,
        ap (λ (c : ℕ). line level at c tlv.tag (codes "cons") [] ++ more) d.0 ∙ ap (λ (t : ℕ). line level at class t (codes "cons") [] ++ more) d.2,
      );
    }

-- The octets of a content that was found.
pub content_slice : (bytes : List ℕ) (at next : ℕ) (tlv : Tlv) (f : IsElementAt bytes at tlv next) → take (tlv.end - tlv.start) (drop tlv.start bytes) ≡ f.content
content_slice bytes at next tlv f =
    let size : tlv.end - tlv.start ≡ length f.content = omega (arith, f.end) in
    ap (λ (n : ℕ). take n (drop tlv.start bytes)) size ∙ ap (λ (l : List ℕ). take (length f.content) l) (content_stands bytes at next tlv f).split ∙ take-append_seam f.content _

pub on_ok_map : {T E : Type 0} (r : Result T E) (P Q : Type 0) → (P → Q) → OnOk r P → OnOk r Q
on_ok_map (Ok x) P Q g h = g h
on_ok_map (Err e) P Q g h = h

pub if_ok_map : {T E : Type 0} (r : Result T E) (P Q : T → Type 0) → ((x : T) → P x → Q x) → IfOk r P → IfOk r Q
if_ok_map (Ok x) P Q g h = g x h
if_ok_map (Err e) P Q g h = h

pub whole_stands : (bytes : List ℕ) → Stands bytes 0 bytes
whole_stands bytes = record { split = sym (append-nil bytes) ∙ ap (λ (l : List ℕ). bytes ++ l) (sym (drop_all (0 + length bytes) bytes (omega arith))); there = omega arith }
