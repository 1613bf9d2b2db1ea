-- Octets that stand at a place of the input, and headers among them.
use Rattle.std.proofs.Common.{◌≡◌, ℕ, ◌+◌, ◌-◌, ◌<◌, ◌≤◌, Bool, true, false, List, [], ◌∷◌, ◌++◌, length, take, drop, get_or, refl, ap, sym, subst, ◌∙◌, inl, inr, arith, append_assoc, length-append, length-take, length-drop, lit<}
use Rattle.std.specs.Prelude.{nat_lt}
use Rattle.std.specs.declared.option.Option.{Option}
use Rattle.std.specs.declared.option.Option.TheVariants.{None, Some}
use Rattle.std.specs.declared.result.Result.{Result}
use Rattle.std.specs.declared.result.Result.TheVariants.{Ok, Err}
use Rattle.std.proofs.lemmas.List.{drop-drop, drop-take, drop-append-le, get_or-drop, take-append-drop, get_or-take, get_or_past}
use Rattle.std.proofs.Math.Seq.{drop-append_seam, take-append-add}
use Rattle.std.proofs.lemmas.Bool.{ltb-true, ltb-false}
use Rattle.x5_model_octets.specs.Headers.{Identifier, identifier_at, length_at, IsIdentifier, IsLength, IsHeader, low, high, short, long, indefinite, Stop, Short, Malformed}
use Rattle.x5_model_octets.specs.Faults.{Around, Head, seen, runs_out, begins_with_end, may_extend, head_at, after_identifier, after_length}
use Rattle.x5_model_octets.specs.Elements.{deepest}
use Rattle.x5_model_octets.proofs.HeaderLaws.{chosen, identifier_front, length_front}
use Rattle.x5_model_octets.proofs.FaultLaws.{header_head}
use Rattle.x5_ber.specs.Reading.{Stands, EndsWithin, Headed}

-- What stands in the input stands before an end that it doesn't pass.
pub stands_seen : (limit : Option ℕ) (input : List ℕ) (at : ℕ) (octets : List ℕ) → Stands input at octets → EndsWithin limit (at + length octets)
    → drop at (seen limit input) ≡ octets ++ drop (at + length octets) (seen limit input)
stands_seen None input at octets s fits = s.split
stands_seen (Some end) input at octets s fits =
    let rest : ℕ = end - (at + length octets) in
    let sum : at + (length octets + rest) ≡ end = omega (arith, fits) in
    let sum' : at + length octets + rest ≡ end = omega (arith, fits) in
    let left : drop at (take end input) ≡ octets ++ take rest (drop (at + length octets) input) =
    ap (λ (n : ℕ). drop at (take n input)) (sym sum) ∙ drop-take at (length octets + rest) input ∙ ap (λ (l : List ℕ). take (length octets + rest) l) s.split ∙ take-append-add octets (drop (at + length octets) input) rest in
    let right : drop (at + length octets) (take end input) ≡ take rest (drop (at + length octets) input) =
    ap (λ (n : ℕ). drop (at + length octets) (take n input)) (sym sum') ∙ drop-take (at + length octets) rest input in
    left ∙ ap (λ (l : List ℕ). octets ++ l) (sym right)

whole_stands : (input : List ℕ) (at : ℕ) (octets rest : List ℕ) → drop at input ≡ octets ++ rest → at ≤ length input → Stands input at octets
whole_stands input at octets rest e inside = record {
  split = e ∙ ap (λ (l : List ℕ). octets ++ l) (sym (sym (drop-drop (length octets) at input) ∙ ap (λ (l : List ℕ). drop (length octets) l) e ∙ drop-append_seam octets rest));
  there = omega (arith, simp (length-drop, length-append) at (ap length e));
}

-- What stands before an end stands in the input, and doesn't pass the end.
pub seen_stands : (limit : Option ℕ) (input : List ℕ) (at : ℕ) (octets rest : List ℕ) → drop at (seen limit input) ≡ octets ++ rest → at ≤ length (seen limit input)
    → Stands input at octets × EndsWithin limit (at + length octets)
seen_stands None input at octets rest e inside = (whole_stands input at octets rest e inside, tt)
seen_stands (Some end) input at octets rest e inside =
    let whole : drop at input ≡ octets ++ (rest ++ drop end input) =
    ap (λ (l : List ℕ). drop at l) (sym (take-append-drop end input)) ∙ drop-append-le at (take end input) (drop end input) inside ∙ ap (λ (l : List ℕ). l ++ drop end input) e ∙ append_assoc octets rest (drop end input) in
    let size : at ≤ length input = omega (arith, inside, length-take end input) in (
      whole_stands input at octets (rest ++ drop end input) whole size,
      omega (arith, inside, length-take end input, simp (length-drop, length-append) at (ap length e)),
    )

pub stands_more : (input more : List ℕ) (at : ℕ) (octets : List ℕ) → Stands input at octets → Stands (input ++ more) at octets
stands_more input more at octets s =
    whole_stands (input ++ more) at octets (drop (at + length octets) input ++ more)
    (drop-append-le at input more (omega (arith, s.there)) ∙ ap (λ (l : List ℕ). l ++ more) s.split ∙ append_assoc octets (drop (at + length octets) input) more)
    (omega (arith, s.there, length-append input more))

identifier_some : (i : Identifier) (octets : List ℕ) → IsIdentifier i octets → 0 < length octets
identifier_some i octets (low class_small tag_small whole) = omega (arith, ap length whole)
identifier_some i octets (high groups class_small large tag_small unpadded is_groups whole) = omega (arith, ap length whole)

length_some : (n : Option ℕ) (octets : List ℕ) → IsLength n octets → 0 < length octets
length_some n octets (short k small is whole) = omega (arith, ap length whole)
length_some n octets (long digits some few is whole) = omega (arith, ap length whole)
length_some n octets (indefinite is whole) = omega (arith, ap length whole)

-- A header has two octets at least.
pub header_two : (i : Identifier) (n : Option ℕ) (header : List ℕ) → IsHeader i n header → 2 ≤ length header
header_two i n header is = omega (arith, ap length is.whole, length-append is.identifier_octets is.length_octets, identifier_some i is.identifier_octets is.identifier, length_some n is.length_octets is.length_form)

-- Whether end-of-contents octets stand at the front is seen at two octets.
pub end_of_two : (front rest : List ℕ) → 2 ≤ length front → begins_with_end (front ++ rest) ≡ begins_with_end front
end_of_two [] rest two = absurd (omega arith)
end_of_two (x ∷ []) rest two = absurd (omega arith)
end_of_two (x ∷ y ∷ more) rest two = refl

cut_of_two : (closes : Bool) (front rest : List ℕ) → 2 ≤ length front → runs_out closes (front ++ rest) ≡ false
cut_of_two closes [] rest two = absurd (omega arith)
cut_of_two closes (x ∷ []) rest two = absurd (omega arith)
cut_of_two closes (x ∷ y ∷ more) rest two = refl

-- A header that stands at the place is the one that is read there.
pub headed_head : (input : List ℕ) (a : Around) (at : ℕ) (head : Head) → Headed input a at head → head_at a input at ≡ Ok head
headed_head input a at head h =
    let rest : List ℕ = drop (at + length h.header) (seen a.limit input) in
    let fits : EndsWithin a.limit (at + length h.header) = subst (λ (p : ℕ). EndsWithin a.limit p) h.content h.fits in
    let stand : drop at (seen a.limit input) ≡ h.header ++ rest = stands_seen a.limit input at h.header h.stands fits in
    let two = header_two head.identifier head.extent h.header h.is_header in
    let same : record { identifier = head.identifier; extent = head.extent; content = at + length h.header } ≡ head = ap (λ (p : ℕ). record { identifier = head.identifier; extent = head.extent; content = p }) (sym h.content) in
    header_head a input at head.identifier head.extent h.header rest h.is_header stand (omega (arith, two)) h.shallow
    (rw stand (cut_of_two a.closes h.header rest two)) (rw stand (end_of_two h.header rest two ∙ h.no_end))
    (ap (λ (k : Head). may_extend a.limit k) same ∙ h.may) ∙ ap (λ (k : Head). Ok k) same

-- Numbers below 256.
abbrev pub IsOctets : List ℕ → Type 0
IsOctets xs = (k : ℕ) → get_or xs k 0 < 256

get_or-take_small : (xs : List ℕ) (n k : ℕ) → IsOctets xs → get_or (take n xs) k 0 < 256
get_or-take_small xs n k small = by_place (nat_lt k n) refl
  where
    by_place : (b : Bool) → nat_lt k n ≡ b → get_or (take n xs) k 0 < 256
    by_place true e = rw (get_or-take n xs k 0 (ltb-true _ _ e)) (small k)
    by_place false e = rw (get_or_past (take n xs) k 0 (omega (arith, length-take n xs, ltb-false _ _ e))) (lit< tt)

seen_small : (limit : Option ℕ) (input : List ℕ) (at : ℕ) → IsOctets input → get_or (drop at (seen limit input)) 0 0 < 256
seen_small None input at small = rw (get_or-drop at input 0 0) (small (at + 0))
seen_small (Some end) input at small = rw (get_or-drop at (take end input) 0 0) (get_or-take_small input end (at + 0) small)

-- The parts of a header that was read.
record ReadHead (a : Around) (input : List ℕ) (at : ℕ) (head : Head) : Type 0 where
  header : List ℕ
  rest : List ℕ
  is_header : IsHeader head.identifier head.extent header
  stand : drop at (seen a.limit input) ≡ header ++ rest
  content : head.content ≡ length (seen a.limit input) - length rest
  may : may_extend a.limit head ≡ true

read_length_part : (a : Around) (input : List ℕ) (at : ℕ) (i : Identifier) (front lengths : List ℕ) (head : Head) → IsIdentifier i front → drop at (seen a.limit input) ≡ front ++ lengths
    → (r : Result (Option ℕ × List ℕ) Stop) → length_at lengths ≡ r → after_length a.limit input i (length (seen a.limit input) - length lengths) r ≡ Ok head → ReadHead a input at head
read_length_part a input at i front lengths head is stand (Err Short) e reads = cc
read_length_part a input at i front lengths head is stand (Err Malformed) e reads = cc
read_length_part a input at i front lengths head is stand (Ok (n, rest)) e reads =
    elim (chosen (may_extend a.limit (record { identifier = i; extent = n; content = length (seen a.limit input) - length rest })) _ _ _ reads) [
      | inl (may, is_head) ↦
          let found = length_front lengths n rest e in
          let same : record { identifier = i; extent = n; content = length (seen a.limit input) - length rest } ≡ head = cc in
          subst (λ (h : Head). ReadHead a input at h) same (record {
            header = front ++ found.0;
            rest = rest;
            is_header = record { identifier_octets = front; length_octets = found.0; identifier = is; length_form = found.1; whole = refl };
            stand = stand ∙ ap (λ (l : List ℕ). front ++ l) found.2 ∙ sym (append_assoc front found.0 rest);
            content = refl;
            may = may;
          })
      | inr (may_not, is_err) ↦ cc
    ]

read_parts : (a : Around) (input : List ℕ) (at : ℕ) (head : Head) → IsOctets input
    → (r : Result (Identifier × List ℕ) Stop) → identifier_at (drop at (seen a.limit input)) ≡ r → after_identifier a.limit input at r ≡ Ok head → ReadHead a input at head
read_parts a input at head small (Err Short) e reads = cc
read_parts a input at head small (Err Malformed) e reads = cc
read_parts a input at head small (Ok (i, lengths)) e reads =
    let found = identifier_front (drop at (seen a.limit input)) i lengths (seen_small a.limit input at small) e in
    read_length_part a input at i found.0 lengths head found.1 found.2 (length_at lengths) refl reads

-- The header that is read at a place stands there.
pub head_headed : (a : Around) (input : List ℕ) (at : ℕ) (head : Head) → IsOctets input → head_at a input at ≡ Ok head → Headed input a at head
head_headed a input at head small e =
    elim (chosen (runs_out a.closes (drop at (seen a.limit input))) _ _ _ e) [
      | inl (out, is_err) ↦ cc
      | inr (left, e1) ↦ elim (chosen (nat_lt deepest a.depth) _ _ _ e1) [
        | inl (deep, is_err) ↦ cc
        | inr (shallow, e2) ↦ elim (chosen (begins_with_end (drop at (seen a.limit input))) _ _ _ e2) [
          | inl (ended, is_err) ↦ cc
          | inr (on, e3) ↦
              let r = read_parts a input at head small (identifier_at (drop at (seen a.limit input))) refl e3 in
              let two = header_two head.identifier head.extent r.header r.is_header in
              let size : length (seen a.limit input) - at ≡ length r.header + length r.rest = sym (length-drop at (seen a.limit input)) ∙ ap length r.stand ∙ length-append r.header r.rest in
              let place : head.content ≡ at + length r.header = omega (arith, r.content, size, two) in
              let stood = seen_stands a.limit input at r.header r.rest r.stand (omega (arith, size, two)) in
              record {
                header = r.header;
                is_header = r.is_header;
                stands = stood.0;
                content = place;
                fits = subst (λ (p : ℕ). EndsWithin a.limit p) (sym place) stood.1;
                shallow = ltb-false _ _ shallow;
                may = r.may;
                no_end = sym (end_of_two r.header r.rest two) ∙ sym (ap begins_with_end r.stand) ∙ on;
              }
        ]
      ]
    ]
