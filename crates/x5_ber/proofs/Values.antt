-- A value that was read, and its header.
use Rattle.std.proofs.Common.{◌≡◌, ℕ, ◌+◌, ◌-◌, true, false, List, [], ◌∷◌, ◌++◌, length, drop, refl, ap, sym, subst, ◌∙◌, arith, append_assoc, append-nil, length-append}
use Rattle.std.specs.Result.{IfOk, IfErr, IsOkAnd, IsErrAnd}
use Rattle.std.specs.declared.option.Option.{Option}
use Rattle.std.specs.declared.option.Option.TheVariants.{None, Some}
use Rattle.std.specs.declared.result.Result.{Result}
use Rattle.std.specs.declared.result.Result.TheVariants.{Ok, Err}
use Rattle.std.proofs.lemmas.List.{append_cancel_right}
use Rattle.x5_model_octets.specs.Headers.{Identifier, IsHeader}
use Rattle.x5_model_octets.specs.Elements.{Element, Primitive, Constructed, Spells, SpellsPrimitive, Encloses, definite, indefinite, identifier}
use Rattle.x5_model_octets.specs.Faults.{Fault, Around, Head, head_at, FirstFault, outermost}
use Rattle.x5_model_octets.proofs.ElementLaws.{Begins, header_reads, reads_unique, spelled_once}
use Rattle.x5_model_octets.proofs.FaultLaws.{spelled_no_fault, one_first_fault}
use Rattle.x5_ber.specs.declared.element.Tlv.{Tlv}
use Rattle.x5_ber.specs.declared.element.BerFault.{BerFault}
use Rattle.x5_ber.specs.Views.{fault_view}
use Rattle.x5_ber.specs.Reading.{Stands, ValueAt, Headed}
use Rattle.x5_ber.specs.Found as found
use Rattle.x5_ber.specs.Found.{IsElementAt, IsTlv, Describes, Frames, end_before}
use Rattle.x5_ber.proofs.Standing.{IsOctets, head_headed}

-- The header that stands in front of other octets is the one that is read.
pub record SameHead (head : Head) (i : Identifier) (n : Option ℕ) (content : ℕ) : Type 0 where
  pub said : head.identifier ≡ i
  pub extent : head.extent ≡ n
  pub place : head.content ≡ content

same_head : (input : List ℕ) (a : Around) (at : ℕ) (head : Head) (i : Identifier) (n : Option ℕ) (header more : List ℕ) → Headed input a at head → IsHeader i n header → Stands input at (header ++ more)
    → SameHead head i n (at + length header)
same_head input a at head i n header more h is s =
    let right : drop at input ≡ header ++ (more ++ drop (at + length (header ++ more)) input) = s.split ∙ append_assoc header more _ in
    let same = reads_unique head.identifier i head.extent n (drop at input) _ _
    (header_reads head.identifier head.extent h.header (drop at input) _ h.is_header h.stands.split) (header_reads i n header (drop at input) _ is right) in
    let tails : drop (at + length h.header) input ≡ more ++ drop (at + length (header ++ more)) input = same.rests in
    let fronts : h.header ≡ header = append_cancel_right h.header header (drop (at + length h.header) input) (sym h.stands.split ∙ right ∙ ap (λ (l : List ℕ). header ++ l) (sym tails)) in
    record { said = same.identifiers; extent = same.extents; place = h.content ∙ ap (λ (l : List ℕ). at + length l) fronts }

-- A value and what its header says make the element that was found.
pub value_found : (bytes : List ℕ) (at next : ℕ) (head : Head) (tlv : Tlv) → IsOctets bytes → head_at outermost bytes at ≡ Ok head → ValueAt bytes at next → IsTlv head next tlv → IsElementAt bytes at tlv next
value_found bytes at next head tlv small reads v says = by_element v.element v.spells
  where
    headed : Headed bytes outermost at head
    headed = head_headed outermost bytes at head small reads

    ended : (xs : List ℕ) → v.octets ≡ xs → next ≡ at + length xs
    ended xs e = v.ends ∙ ap (λ (l : List ℕ). at + length l) e

    by_element : (e : Element) → Spells 1 e v.octets → IsElementAt bytes at tlv next
    by_element (Primitive class tag content) s =
        let whole : v.octets ≡ s.header ++ (content ++ []) = s.whole ∙ ap (λ (l : List ℕ). s.header ++ l) (sym (append-nil content)) in
        let stands : Stands bytes at (s.header ++ (content ++ [])) = subst (λ (l : List ℕ). Stands bytes at l) whole v.stands in
        let same = same_head bytes outermost at head (identifier false class tag) (Some (length content)) s.header (content ++ []) headed s.is_header stands in
        let tlv_end : tlv.end ≡ next = says.end ∙ ap (λ (x : Option ℕ). end_before x next) same.extent in
        record {
          element = Primitive class tag content;
          header = s.header;
          content = content;
          tail = [];
          spells = subst (λ (l : List ℕ). SpellsPrimitive 1 class tag content l) whole s;
          stands = stands;
          next_is = ended _ whole;
          start = says.start ∙ same.place;
          end = omega (arith, tlv_end, ended (s.header ++ content) s.whole, says.start, same.place, length-append s.header content);
          describes = (says.class ∙ ap (λ (i : Identifier). i.class) same.said, says.constructed ∙ ap (λ (i : Identifier). i.constructed) same.said, says.tag ∙ ap (λ (i : Identifier). i.tag) same.said, refl, s.is_header, refl);
        }
    by_element (Constructed class tag members) s = by_form s.3
      where
        by_form : Encloses class tag s.1 v.octets → IsElementAt bytes at tlv next
        by_form (definite header is is_whole) =
            let whole : v.octets ≡ header ++ (s.1 ++ []) = is_whole ∙ ap (λ (l : List ℕ). header ++ l) (sym (append-nil s.1)) in
            let stands : Stands bytes at (header ++ (s.1 ++ [])) = subst (λ (l : List ℕ). Stands bytes at l) whole v.stands in
            let same = same_head bytes outermost at head (identifier true class tag) (Some (length s.1)) header (s.1 ++ []) headed is stands in
            let tlv_end : tlv.end ≡ next = says.end ∙ ap (λ (x : Option ℕ). end_before x next) same.extent in
            record {
              element = Constructed class tag members;
              header = header;
              content = s.1;
              tail = [];
              spells = subst (λ (l : List ℕ). Spells 1 (Constructed class tag members) l) whole s;
              stands = stands;
              next_is = ended _ whole;
              start = says.start ∙ same.place;
              end = omega (arith, tlv_end, ended (header ++ s.1) is_whole, says.start, same.place, length-append header s.1);
              describes = (says.class ∙ ap (λ (i : Identifier). i.class) same.said, says.constructed ∙ ap (λ (i : Identifier). i.constructed) same.said, says.tag ∙ ap (λ (i : Identifier). i.tag) same.said, s.2, found.definite is refl);
            }
        by_form (indefinite header is is_whole) =
            let stands : Stands bytes at (header ++ (s.1 ++ (0 ∷ 0 ∷ []))) = subst (λ (l : List ℕ). Stands bytes at l) is_whole v.stands in
            let same = same_head bytes outermost at head (identifier true class tag) None header (s.1 ++ (0 ∷ 0 ∷ [])) headed is stands in
            let tlv_end : tlv.end ≡ next - 2 = says.end ∙ ap (λ (x : Option ℕ). end_before x next) same.extent in
            record {
              element = Constructed class tag members;
              header = header;
              content = s.1;
              tail = 0 ∷ 0 ∷ [];
              spells = subst (λ (l : List ℕ). Spells 1 (Constructed class tag members) l) is_whole s;
              stands = stands;
              next_is = ended _ is_whole;
              start = says.start ∙ same.place;
              end = omega (arith, tlv_end, ended _ is_whole, says.start, same.place, length-append header (s.1 ++ (0 ∷ 0 ∷ [])), length-append s.1 (0 ∷ 0 ∷ []));
              describes = (says.class ∙ ap (λ (i : Identifier). i.class) same.said, says.constructed ∙ ap (λ (i : Identifier). i.constructed) same.said, says.tag ∙ ap (λ (i : Identifier). i.tag) same.said, s.2, found.indefinite is refl);
            }

begins_here : (bytes : List ℕ) (at : ℕ) (element : Element) (octets : List ℕ) → Spells 1 element octets → Stands bytes at octets → Begins 1 (drop at bytes)
begins_here bytes at element octets s st = record { member = element; spelling = octets; rest = drop (at + length octets) bytes; spells = s; whole = st.split }

-- Where an element is spelled, the answer is its end.
pub only_found : (bytes : List ℕ) (at : ℕ) (r : Result (Tlv × ℕ) BerFault) → IfOk r (λ f. IsElementAt bytes at f.0 f.1) → IfErr r (λ f. FirstFault bytes outermost at (fault_view f))
    → (element : Element) (octets : List ℕ) → Spells 1 element octets → Stands bytes at octets → IsOkAnd r (λ f. f.1 ≡ at + length octets)
only_found bytes at (Ok f) found fault element octets s st =
    let same = spelled_once 1 found.element element (found.header ++ (found.content ++ found.tail)) octets _ _ found.spells s (sym found.stands.split ∙ st.split) in
    found.next_is ∙ ap (λ (l : List ℕ). at + length l) same.spellings
only_found bytes at (Err f) found fault element octets s st = absurd (spelled_no_fault bytes outermost at (fault_view f) fault (begins_here bytes at element octets s st))

-- Where there is a first fault, it is the answer.
pub exact_fault : (bytes : List ℕ) (at : ℕ) (r : Result (Tlv × ℕ) BerFault) → IfOk r (λ f. IsElementAt bytes at f.0 f.1) → IfErr r (λ f. FirstFault bytes outermost at (fault_view f))
    → (first : Fault) → FirstFault bytes outermost at first → IsErrAnd r (λ f. fault_view f ≡ first)
exact_fault bytes at (Ok f) found fault first is = absurd (spelled_no_fault bytes outermost at first is (begins_here bytes at found.element _ found.spells found.stands))
exact_fault bytes at (Err f) found fault first is = one_first_fault bytes outermost at (fault_view f) first fault is
