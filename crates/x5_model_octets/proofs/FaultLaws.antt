-- Where an element's spelling stands there is no fault, and a place has one first fault at most.
use Rattle.std.proofs.Common.{◌≡◌, ℕ, ◌+◌, ◌-◌, ◌%◌, ◌<◌, ◌≤◌, Bool, true, false, ◌&&◌, List, [], ◌∷◌, ◌++◌, length, take, drop, refl, ap, sym, subst, ◌∙◌, inl, inr, arith, append_assoc, append-nil, length-append, length-take, length-drop}
use Rattle.std.specs.Prelude.{◌==◌}
use Rattle.std.specs.declared.option.Option.{Option}
use Rattle.std.specs.declared.option.Option.TheVariants.{None, Some}
use Rattle.std.specs.declared.result.Result.TheVariants.{Ok, Err}
use Rattle.std.proofs.lemmas.Bool.{le-ltb, le-leb}
use Rattle.std.proofs.lemmas.Bool.Decides.{nat_tests}
use Rattle.std.proofs.lemmas.List.{drop-drop, drop-take, take_all, take-take}
use Rattle.std.proofs.Math.Seq.{take-append_seam, drop-append_seam}
use Rattle.x5_model_octets.specs.Headers.{Identifier, identifier_of, length_at, IsHeader, IsIdentifier, low, high}
use Rattle.x5_model_octets.specs.Elements.{Element, Elements, Primitive, Constructed, Spells, SpellsPrimitive, Encloses, definite, indefinite, identifier, deepest}
use Rattle.x5_model_octets.specs.Faults.{Fault, Around, seen, begins_with_end, runs_out, Head, may_extend, head_at, within, limit_within, IsUnfinished, StandsAt, IsCutOff, FirstFault, in_header, in_octets, in_member}
use Rattle.x5_model_octets.proofs.HeaderLaws.{ok_parts, chosen}
use Rattle.x5_model_octets.proofs.ElementLaws.{Begins, HeaderReads, header_reads, opening_reads, primitive_opening, encloses_opening, nothing_begins, end_begins_none, Compared, alike, first_begins, second_begins, compared}

-- What stands behind the front of the octets at a place.
pub drop_past : (at : ℕ) (xs s r : List ℕ) → drop at xs ≡ s ++ r → drop (at + length s) xs ≡ r
drop_past at xs s r e = sym (drop-drop (length s) at xs) ∙ ap (λ (l : List ℕ). drop (length s) l) e ∙ drop-append_seam s r

-- The front of the octets at a place ends within them.
pub stands_within : (at : ℕ) (xs s r : List ℕ) → drop at xs ≡ s ++ r → 0 < length s → at + length s + length r ≡ length xs
stands_within at xs s r e some = omega (arith, simp (length-drop, length-append) at (ap length e))

-- Octets that stand before the enclosing end stand before their own.
cut_take : (p m : ℕ) (xs c r : List ℕ) → drop p (take (p + m) xs) ≡ c ++ r → drop p (take (p + length c) xs) ≡ c
cut_take p m xs c r e =
    let front : take m (drop p xs) ≡ c ++ r = sym (drop-take p m xs) ∙ e in
    let fits : length c ≤ m = omega (arith, simp (length-take, length-append) at (ap length front)) in
    drop-take p (length c) xs ∙ sym (take-take (length c) m (drop p xs) fits) ∙ ap (λ (l : List ℕ). take (length c) l) front ∙ take-append_seam c r

pub cut_seen : (limit : Option ℕ) (input : List ℕ) (p : ℕ) (c r : List ℕ) → p ≤ length (seen limit input) → drop p (seen limit input) ≡ c ++ r → drop p (take (p + length c) input) ≡ c
cut_seen None input p c r fits e =
    cut_take p (length input - p) input c r (ap (λ (l : List ℕ). drop p l) (take_all (p + (length input - p)) input (omega arith)) ∙ e)
cut_seen (Some end) input p c r fits e =
    let bound : p ≤ end = omega (arith, simp length-take at fits) in
    let sum : p + (end - p) ≡ end = omega arith in
    cut_take p (end - p) input c r (rw sum e)

pub seen_short : (limit : Option ℕ) (input : List ℕ) → length (seen limit input) ≤ length input
seen_short None input = omega arith
seen_short (Some end) input = omega (arith, length-take end input)

-- A header that stands at the place is the header there.
pub header_head : (a : Around) (input : List ℕ) (at : ℕ) (i : Identifier) (n : Option ℕ) (header rest : List ℕ) → IsHeader i n header
    → drop at (seen a.limit input) ≡ header ++ rest → 0 < length header → a.depth ≤ deepest
    → runs_out a.closes (drop at (seen a.limit input)) ≡ false → begins_with_end (drop at (seen a.limit input)) ≡ false
    → may_extend a.limit (record { identifier = i; extent = n; content = at + length header }) ≡ true
    → head_at a input at ≡ Ok (record { identifier = i; extent = n; content = at + length header })
header_head a input at i n header rest is stands some shallow going on may =
    let reads = header_reads i n header (drop at (seen a.limit input)) rest is stands in
    let place : length (seen a.limit input) - length rest ≡ at + length header = omega (arith, stands_within at (seen a.limit input) header rest stands some) in
    rw (going, le-ltb 64 a.depth shallow, on, reads.reads_identifier, reads.reads_length, place, may) refl

pub header_some : (i : Identifier) (n : Option ℕ) (header : List ℕ) → IsHeader i n header → 0 < length header
header_some i n header is = by_identifier is.identifier
  where
    size : (first : ℕ) (more : List ℕ) → is.identifier_octets ≡ first ∷ more → 0 < length header
    size first more e = rw (is.whole, e) (omega arith)

    by_identifier : IsIdentifier i is.identifier_octets → 0 < length header
    by_identifier (low class_small tag_small whole) = size _ [] whole
    by_identifier (high groups class_small large tag_small unpadded is_groups whole) = size _ groups whole

pub both_true : (x y : ℕ) → ((x == 0) && (y == 0)) ≡ true → (x ≡ 0) × (y ≡ 0)
both_true x y e = by_first (x == 0) (y == 0) refl refl e
  where
    by_first : (p q : Bool) → (x == 0) ≡ p → (y == 0) ≡ q → (p && q) ≡ true → (x ≡ 0) × (y ≡ 0)
    by_first true true hp hq h = (grind (arith, nat_tests), grind (arith, nat_tests))
    by_first true false hp hq h = cc
    by_first false q hp hq h = cc

-- Where a member stands, octets are left, and they aren't end-of-contents octets.
pub begins_tests : (d : ℕ) (closes : Bool) (octets : List ℕ) → Begins d octets → (runs_out closes octets ≡ false) × (begins_with_end octets ≡ false)
begins_tests d closes [] b = absurd (nothing_begins d b)
begins_tests d closes (x ∷ []) b = absurd (by_element b.member b.spells)
  where
    too_short : (i : Identifier) (n : Option ℕ) (rest : List ℕ) → HeaderReads i n (x ∷ []) rest → ⊥
    too_short i n rest reads = elim (chosen (x % 32 == 31) _ _ _ reads.reads_identifier) [
      | inl (is_high, e) ↦ cc
      | inr (is_low, e) ↦
          let same : (identifier_of x (x % 32) ≡ i) × ([] ≡ reads.lengths) = ok_parts _ _ _ refl e in
          let none : length_at [] ≡ Ok (n, rest) = ap length_at same.1 ∙ reads.reads_length in
          cc
    ]

    by_element : (e : Element) → Spells d e b.spelling → ⊥
    by_element (Primitive class tag content) s =
        let o = primitive_opening d class tag content b.spelling s in
        too_short o.said o.extent (o.after ++ b.rest) (opening_reads false (x ∷ []) b.spelling b.rest o b.whole)
    by_element (Constructed class tag members) s =
        let o = encloses_opening class tag s.1 b.spelling s.3 in
        too_short o.said o.extent (o.after ++ b.rest) (opening_reads true (x ∷ []) b.spelling b.rest o b.whole)
begins_tests d closes (x ∷ y ∷ more) b = (refl, by_test ((x == 0) && (y == 0)) refl)
  where
    by_test : (t : Bool) → ((x == 0) && (y == 0)) ≡ t → t ≡ false
    by_test false e = refl
    by_test true e =
        let zeros = both_true x y e in
        let at_end : x ∷ y ∷ more ≡ 0 ∷ 0 ∷ more = let p : x ≡ 0 = zeros.0 in let q : y ≡ 0 = zeros.1 in cc in
        absurd (end_begins_none d more (subst (λ (o : List ℕ). Begins d o) at_end b))

-- The front of a place's octets, in the two forms of a spelling.
behind : (header content r octets : List ℕ) (s : List ℕ) → octets ≡ s ++ r → s ≡ header ++ content → octets ≡ header ++ (content ++ r)
behind header content r octets s e whole = e ∙ ap (λ (l : List ℕ). l ++ r) whole ∙ append_assoc header content r

-- The head of a primitive element that stands at the place.
pub primitive_head : (a : Around) (input : List ℕ) (at class tag : ℕ) (content s r : List ℕ) (p : SpellsPrimitive a.depth class tag content s)
    → drop at (seen a.limit input) ≡ s ++ r
    → head_at a input at ≡ Ok (record { identifier = identifier false class tag; extent = Some (length content); content = at + length p.header })
primitive_head a input at class tag content s r p stands =
    let tests = begins_tests a.depth a.closes (drop at (seen a.limit input)) (record { member = Primitive class tag content; spelling = s; rest = r; spells = p; whole = stands }) in
    let apart : drop at (seen a.limit input) ≡ p.header ++ (content ++ r) = behind p.header content r _ s stands p.whole in
    header_head a input at (identifier false class tag) (Some (length content)) p.header (content ++ r) p.is_header apart (header_some _ _ p.header p.is_header) p.deep tests.0 tests.1
    (by_limit a.limit apart)
  where
    by_limit : (limit : Option ℕ) → drop at (seen limit input) ≡ p.header ++ (content ++ r) → may_extend limit (record { identifier = identifier false class tag; extent = Some (length content); content = at + length p.header }) ≡ true
    by_limit None apart = refl
    by_limit (Some end) apart =
        let whole = stands_within at (take end input) p.header (content ++ r) apart (header_some _ _ p.header p.is_header) in
        let fits : at + length p.header + length content ≤ end = omega (arith, whole, length-append content r, length-take end input) in
        le-leb _ _ fits

-- The head of a constructed element that stands at the place, where its members' octets stand, and
-- what is behind them.
pub record Opened (a : Around) (input : List ℕ) (at : ℕ) (content : List ℕ) : Type 0 where
  pub head : Head
  pub is_head : head_at a input at ≡ Ok head
  pub form : head.identifier.constructed ≡ true
  pub behind : List ℕ
  pub stand : drop head.content (seen (limit_within a.limit head) input) ≡ content ++ behind
  pub none_behind : Begins (a.depth + 1) behind → ⊥
  pub finished : IsUnfinished head (limit_within a.limit head) input (head.content + length content) → ⊥

pub constructed_head : (a : Around) (input : List ℕ) (at class tag : ℕ) (members : Elements) (s r : List ℕ) (p : Spells a.depth (Constructed class tag members) s)
    → drop at (seen a.limit input) ≡ s ++ r → Opened a input at p.1
constructed_head a input at class tag members s r p stands = by_form p.3
  where
    tests : (runs_out a.closes (drop at (seen a.limit input)) ≡ false) × (begins_with_end (drop at (seen a.limit input)) ≡ false)
    tests = begins_tests a.depth a.closes (drop at (seen a.limit input)) (record { member = Constructed class tag members; spelling = s; rest = r; spells = p; whole = stands })

    by_form : Encloses class tag p.1 s → Opened a input at p.1
    by_form (definite header is whole) =
        let some = header_some _ _ header is in
        let apart : drop at (seen a.limit input) ≡ header ++ (p.1 ++ r) = behind header p.1 r _ s stands whole in
        let size = stands_within at (seen a.limit input) header (p.1 ++ r) apart some in
        let inner : drop (at + length header) (seen a.limit input) ≡ p.1 ++ r = drop_past at (seen a.limit input) header (p.1 ++ r) apart in
        record {
          head = record { identifier = identifier true class tag; extent = Some (length p.1); content = at + length header };
          is_head = header_head a input at (identifier true class tag) (Some (length p.1)) header (p.1 ++ r) is apart some p.0 tests.0 tests.1 (by_limit header some a.limit apart);
          form = refl;
          behind = [];
          stand = cut_seen a.limit input (at + length header) p.1 r (omega (arith, size)) inner ∙ sym (append-nil p.1);
          none_behind = nothing_begins (a.depth + 1);
          finished = λ h. omega arith;
        }
      where
        by_limit : (header : List ℕ) → 0 < length header → (limit : Option ℕ) → drop at (seen limit input) ≡ header ++ (p.1 ++ r) → may_extend limit (record { identifier = identifier true class tag; extent = Some (length p.1); content = at + length header }) ≡ true
        by_limit header some None apart = refl
        by_limit header some (Some end) apart =
            let whole = stands_within at (take end input) header (p.1 ++ r) apart some in
            let fits : at + length header + length p.1 ≤ end = omega (arith, whole, length-append p.1 r, length-take end input) in
            le-leb _ _ fits
    by_form (indefinite header is whole) =
        let some = header_some _ _ header is in
        let apart : drop at (seen a.limit input) ≡ header ++ ((p.1 ++ (0 ∷ 0 ∷ [])) ++ r) = behind header (p.1 ++ (0 ∷ 0 ∷ [])) r _ s stands whole in
        let inner : drop (at + length header) (seen a.limit input) ≡ p.1 ++ (0 ∷ 0 ∷ r) = drop_past at (seen a.limit input) header _ apart ∙ append_assoc p.1 (0 ∷ 0 ∷ []) r in
        let ends : drop (at + length header + length p.1) (seen a.limit input) ≡ 0 ∷ 0 ∷ r = drop_past (at + length header) (seen a.limit input) p.1 (0 ∷ 0 ∷ r) inner in
        record {
          head = record { identifier = identifier true class tag; extent = None; content = at + length header };
          is_head = header_head a input at (identifier true class tag) None header _ is apart some p.0 tests.0 tests.1 refl;
          form = refl;
          behind = 0 ∷ 0 ∷ r;
          stand = inner;
          none_behind = end_begins_none (a.depth + 1) r;
          finished = λ (h : begins_with_end (drop (at + length header + length p.1) (seen a.limit input)) ≡ false).
              let t : begins_with_end (0 ∷ 0 ∷ r) ≡ false = subst (λ (o : List ℕ). begins_with_end o ≡ false) ends h in cc;
        }

heads_same : (a : Around) (input : List ℕ) (at : ℕ) (h k : Head) → head_at a input at ≡ Ok h → head_at a input at ≡ Ok k → h ≡ k
heads_same a input at h k p q = let e : Ok h ≡ Ok k = sym p ∙ q in cc

-- Where an element's spelling stands before the enclosing end there is no fault.
pub spelled_no_fault : (input : List ℕ) (a : Around) (at : ℕ) (fault : Fault) → FirstFault input a at fault → Begins a.depth (drop at (seen a.limit input)) → ⊥
spelled_no_fault input a at fault (in_header is) b = by_element b.member b.spells
  where
    by_element : (e : Element) → Spells a.depth e b.spelling → ⊥
    by_element (Primitive class tag content) s = let is_head = primitive_head a input at class tag content b.spelling b.rest s b.whole in cc
    by_element (Constructed class tag members) s = let o = constructed_head a input at class tag members b.spelling b.rest s b.whole in let is_head : head_at a input at ≡ Ok o.head = o.is_head in cc
spelled_no_fault input a at fault (in_octets {head = head} is form cut) b = by_element b.member b.spells
  where
    by_element : (e : Element) → Spells a.depth e b.spelling → ⊥
    by_element (Primitive class tag content) s =
        let same = heads_same a input at head _ is (primitive_head a input at class tag content b.spelling b.rest s b.whole) in
        let short : IsCutOff (record { identifier = identifier false class tag; extent = Some (length content); content = at + length s.header }) input = subst (λ (h : Head). IsCutOff h input) same cut in
        let apart = behind s.header content b.rest _ b.spelling b.whole s.whole in
        let size = stands_within at (seen a.limit input) s.header (content ++ b.rest) apart (header_some _ _ s.header s.is_header) in
        absurd (omega (arith, short, size, length-append content b.rest, seen_short a.limit input))
    by_element (Constructed class tag members) s =
        let o = constructed_head a input at class tag members b.spelling b.rest s b.whole in
        let same : head ≡ o.head = heads_same a input at head o.head is o.is_head in
        let forms : head.identifier.constructed ≡ o.head.identifier.constructed = ap (λ (h : Head). h.identifier.constructed) same in
        let one : o.head.identifier.constructed ≡ true = o.form in
        cc
spelled_no_fault input a at fault (in_member {head = head} members octets is form spelled stand unfinished inner) b =
    by_element (λ (next : Begins (a.depth + 1) (drop (head.content + length octets) (seen (limit_within a.limit head) input))). spelled_no_fault input (within a head) (head.content + length octets) fault inner next) b.member b.spells
  where
    by_element : (Begins (a.depth + 1) (drop (head.content + length octets) (seen (limit_within a.limit head) input)) → ⊥) → (e : Element) → Spells a.depth e b.spelling → ⊥
    by_element again (Primitive class tag content) s =
        let same = heads_same a input at head _ is (primitive_head a input at class tag content b.spelling b.rest s b.whole) in
        let forms : head.identifier.constructed ≡ false = ap (λ (h : Head). h.identifier.constructed) same in
        cc
    by_element again (Constructed class tag others) s =
        let o = constructed_head a input at class tag others b.spelling b.rest s b.whole in
        let same : o.head ≡ head = heads_same a input at o.head head o.is_head is in
        let whole : drop head.content (seen (limit_within a.limit head) input) ≡ s.1 ++ o.behind = subst (λ (h : Head). drop h.content (seen (limit_within a.limit h) input) ≡ s.1 ++ o.behind) same o.stand in
        by_row o same (compared (a.depth + 1) members others octets s.1 _ o.behind spelled s.2 (sym stand ∙ whole))
      where
        by_row : (o : Opened a input at s.1) → o.head ≡ head
            → Compared (a.depth + 1) members others octets s.1 (drop (head.content + length octets) (seen (limit_within a.limit head) input)) o.behind → ⊥
        by_row o same (alike all fronts rests) =
            o.finished (subst (λ (h : Head). IsUnfinished h (limit_within a.limit h) input (h.content + length s.1)) (sym same)
            (subst (λ (f : List ℕ). IsUnfinished head (limit_within a.limit head) input (head.content + length f)) fronts unfinished))
        by_row o same (first_begins next) = again next
        by_row o same (second_begins next) = o.none_behind next

-- A place has one first fault at most.
pub one_first_fault : (input : List ℕ) (a : Around) (at : ℕ) (f g : Fault) → FirstFault input a at f → FirstFault input a at g → f ≡ g
one_first_fault input a at f g (in_header is) (in_header js) = let e : Err f ≡ Err g = sym is ∙ js in cc
one_first_fault input a at f g (in_header is) (in_octets js form cut) = cc
one_first_fault input a at f g (in_header is) (in_member members octets js form spelled stand unfinished inner) = cc
one_first_fault input a at f g (in_octets is form cut) (in_header js) = cc
one_first_fault input a at f g (in_octets is form cut) (in_octets js form' cut') = refl
one_first_fault input a at f g (in_octets {head = head} is form cut) (in_member {head = head'} members octets js form' spelled stand unfinished inner) =
    let forms : head.identifier.constructed ≡ head'.identifier.constructed = ap (λ (h : Head). h.identifier.constructed) (heads_same a input at head head' is js) in
    cc
one_first_fault input a at f g (in_member members octets is form spelled stand unfinished inner) (in_header js) = cc
one_first_fault input a at f g (in_member {head = head} members octets is form spelled stand unfinished inner) (in_octets {head = head'} js form' cut) =
    let forms : head.identifier.constructed ≡ head'.identifier.constructed = ap (λ (h : Head). h.identifier.constructed) (heads_same a input at head head' is js) in
    cc
one_first_fault input a at f g (in_member {head = head} members octets is form spelled stand unfinished inner) (in_member {head = head'} members' octets' js form' spelled' stand' unfinished' inner') =
    by_row (λ (other : FirstFault input (within a head) (head.content + length octets) g). one_first_fault input (within a head) (head.content + length octets) f g inner other)
    same (compared (a.depth + 1) members members' octets octets' _ _ spelled spelled' (sym stand ∙ stand_same))
  where
    same : head' ≡ head
    same = heads_same a input at head' head js is

    stand_same : drop head.content (seen (limit_within a.limit head) input) ≡ octets' ++ drop (head.content + length octets') (seen (limit_within a.limit head) input)
    stand_same = subst (λ (h : Head). StandsAt (limit_within a.limit h) input h.content octets') same stand'

    by_row : (FirstFault input (within a head) (head.content + length octets) g → f ≡ g) → head' ≡ head
        → Compared (a.depth + 1) members members' octets octets' (drop (head.content + length octets) (seen (limit_within a.limit head) input)) (drop (head.content + length octets') (seen (limit_within a.limit head) input)) → f ≡ g
    by_row again same (alike all fronts rests) =
        again (subst (λ (o : List ℕ). FirstFault input (within a head) (head.content + length o) g) (sym fronts)
        (subst (λ (h : Head). FirstFault input (within a h) (h.content + length octets') g) same inner'))
    by_row again same (first_begins next) = absurd (spelled_no_fault input (within a head) (head.content + length octets) f inner next)
    by_row again same (second_begins next) =
        absurd (spelled_no_fault input (within a head) (head.content + length octets') g (subst (λ (h : Head). FirstFault input (within a h) (h.content + length octets') g) same inner') next)
