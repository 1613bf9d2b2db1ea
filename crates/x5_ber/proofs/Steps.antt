-- One step of the reader, over plain values.
use Rattle.std.proofs.Common.{◌≡◌, ℕ, zero, suc, ◌+◌, ◌-◌, ◌<◌, ◌≤◌, Bool, true, false, ◌&&◌, List, ◌++◌, length, get_or, set, refl, ap, sym, subst, ◌∙◌, arith}
use Rattle.std.specs.Prelude.{nat_lt, if◌then◌else◌, unwrap_or}
use Rattle.std.specs.declared.option.Option.{Option}
use Rattle.std.specs.declared.option.Option.TheVariants.{None, Some}
use Rattle.std.specs.declared.result.Result.TheVariants.{Ok, Err}
use Rattle.std.proofs.lemmas.Bool.{ltb-true, ltb-false, lt-ltb}
use Rattle.std.proofs.lemmas.List.{get_or-append_right, get_or_append_left}
use Rattle.x5_model_octets.specs.Elements.{deepest}
use Rattle.x5_model_octets.specs.Faults.{Fault, Truncated, Around, Head, may_extend, head_at, FirstFault, in_header, in_octets, IsCutOff, outermost}
use Rattle.x5_ber.specs.declared.reader.Enclosing.{Enclosing}
use Rattle.x5_ber.specs.Reading.{Headed, AreOpen, IsRead, around_at, enclosing_of, is_over}
use Rattle.x5_ber.proofs.Standing.{IsOctets, head_headed, headed_head, header_two}
use Rattle.x5_ber.proofs.Opening.{primitive_member, member_joins, closed_member, fault_first, opens}

pub octets_append : (a b : List ℕ) → IsOctets a → IsOctets b → IsOctets (a ++ b)
octets_append a b p q k = by_place (nat_lt k (length a)) refl
  where
    by_place : (t : Bool) → nat_lt k (length a) ≡ t → get_or (a ++ b) k 0 < 256
    by_place true e = rw (get_or_append_left a b 0 k (ltb-true _ _ e)) (p k)
    by_place false e = rw (get_or-append_right a b (length a) k 0 refl (ltb-false _ _ e)) (q (k - length a))

pub headed_here : (input : List ℕ) (a b : Around) (at : ℕ) (head : Head) → IsOctets input → a ≡ b → head_at a input at ≡ Ok head → Headed input b at head
headed_here input a b at head small same e = subst (λ (x : Around). Headed input x at head) same (head_headed a input at head small e)

-- A header lies before the end of the input.
pub headed_bounds : (input : List ℕ) (a : Around) (at : ℕ) (head : Head) → Headed input a at head → (at + 2 ≤ head.content) × (head.content ≤ length input) × (a.depth ≤ deepest)
headed_bounds input a at head h =
    (omega (arith, h.content, header_two head.identifier head.extent h.header h.is_header), omega (arith, h.content, h.stands.there), h.shallow)

-- With an element open, the test is whether its content is over.
over_open : (d : ℕ) (q r : Bool) → r ≡ (nat_lt 0 (suc d) && q) → q ≡ r
over_open d q r e = sym (rw (lt-ltb 0 (suc d) (omega arith)) at e)

pub close_step : (input : List ℕ) (es fs : List Enclosing) (start depth at depth' at' : ℕ) (a : Around) → AreOpen input es start depth at → a ≡ around_at es depth
    → true ≡ (nat_lt 0 depth && is_over a input at) → at' ≡ (if a.closes then at + 2 else at) → depth' + 1 ≡ depth → fs ≡ es → IsRead input fs start depth' at'
close_step input es fs start zero at depth' at' a o around over place one same = cc
close_step input es fs start (suc depth) at depth' at' a o around over place one same =
    let now : is_over (around_at es (suc depth)) input at ≡ true = subst (λ (x : Around). is_over x input at ≡ true) around (over_open depth (is_over a input at) true over) in
    let place' : at' ≡ (if (around_at es (suc depth)).closes then at + 2 else at) = subst (λ (x : Around). at' ≡ (if x.closes then at + 2 else at)) around place in
    let member = closed_member input (around_at es depth) o.0 (around_at es (suc depth)) at o.2 now in
    let level : depth ≡ depth' = omega (arith, one) in
    subst (λ (d : ℕ). IsRead input fs start d at') level
    (subst (λ (p : ℕ). IsRead input fs start depth p) (sym place')
    (subst (λ (xs : List Enclosing). IsRead input xs start depth (if (around_at es (suc depth)).closes then at + 2 else at)) (sym same)
    (member_joins input es start depth o.0 _ o.1 member)))

-- Where no open element's content is over, an element has to begin.
pub not_over : (input : List ℕ) (es : List Enclosing) (start depth at : ℕ) (a : Around) → AreOpen input es start depth at → a ≡ around_at es depth
    → false ≡ (nat_lt 0 depth && is_over a input at) → is_over (around_at es depth) input at ≡ false
not_over input es start zero at a o around over = subst (λ (x : Around). is_over x input at ≡ false) (sym o.1) refl
not_over input es start (suc depth) at a o around over = subst (λ (x : Around). is_over x input at ≡ false) around (over_open depth (is_over a input at) false over)

pub header_fault : (input : List ℕ) (es : List Enclosing) (start depth at : ℕ) (a : Around) (f : Fault) → AreOpen input es start depth at → a ≡ around_at es depth
    → false ≡ (nat_lt 0 depth && is_over a input at) → head_at a input at ≡ Err f → FirstFault input outermost start f
header_fault input es start depth at a f o around over e =
    fault_first input es start depth at f o (not_over input es start depth at a o around over) (subst (λ (x : Around). FirstFault input x at f) around (in_header e))

pub open_step : (input : List ℕ) (es fs : List Enclosing) (start depth at depth' at' : ℕ) (a : Around) (head : Head) → AreOpen input es start depth at → a ≡ around_at es depth
    → Headed input (around_at es depth) at head → head.identifier.constructed ≡ true → depth + 1 < length es
    → at' ≡ head.content → depth' ≡ depth + 1 → fs ≡ set es (depth + 1) (enclosing_of a head) → IsRead input fs start depth' at'
open_step input es fs start depth at depth' at' a head o around h form room place level same =
    let here : AreOpen input (set es (suc depth) (enclosing_of a head)) start (suc depth) head.content =
    opens input es start depth at head (enclosing_of a head) o h form (omega (arith, room)) (ap (λ (x : Around). enclosing_of x head) around) in
    let list : set es (suc depth) (enclosing_of a head) ≡ fs = ap (λ (n : ℕ). set es n (enclosing_of a head)) (omega arith) ∙ sym same in
    let next : suc depth ≡ depth' = omega (arith, level) in
    subst (λ (d : ℕ). IsRead input fs start d at') next
    (subst (λ (p : ℕ). IsRead input fs start (suc depth) p) (sym place)
    (subst (λ (xs : List Enclosing). IsRead input xs start (suc depth) head.content) list here))

-- A primitive element has a definite length.
extent_is : (limit : Option ℕ) (head : Head) → may_extend limit head ≡ true → head.identifier.constructed ≡ false → head.extent ≡ Some (unwrap_or head.extent 0)
extent_is limit head may form = by_extent head.extent refl
  where
    by_extent : (e : Option ℕ) → head.extent ≡ e → e ≡ Some (unwrap_or e 0)
    by_extent None e = let open_one : may_extend limit head ≡ head.identifier.constructed = rw e refl in cc
    by_extent (Some n) e = refl

pub primitive_step : (input : List ℕ) (es : List Enclosing) (start depth at n : ℕ) (head : Head) → AreOpen input es start depth at
    → Headed input (around_at es depth) at head → head.identifier.constructed ≡ false → n ≡ unwrap_or head.extent 0 → head.content + n ≤ length input → IsRead input es start depth (head.content + n)
primitive_step input es start depth at n head o h form extent there =
    member_joins input es start depth at (head.content + n) o
    (primitive_member input (around_at es depth) at head n h form (extent_is (around_at es depth).limit head h.may form ∙ ap (λ (k : ℕ). Some k) (sym extent)) there)

cut_off : (head : Head) (input : List ℕ) (n : ℕ) → head.extent ≡ Some n → length input < head.content + n → IsCutOff head input
cut_off head input n e short = rw e short

pub content_fault : (input : List ℕ) (es : List Enclosing) (start depth at n : ℕ) (a : Around) (head : Head) → AreOpen input es start depth at → a ≡ around_at es depth
    → false ≡ (nat_lt 0 depth && is_over a input at) → Headed input (around_at es depth) at head → head.identifier.constructed ≡ false → n ≡ unwrap_or head.extent 0
    → length input < head.content + n → FirstFault input outermost start (Truncated (length input))
content_fault input es start depth at n a head o around over h form extent short =
    fault_first input es start depth at (Truncated (length input)) o (not_over input es start depth at a o around over)
    (in_octets (headed_head input (around_at es depth) at head h) form
    (cut_off head input n (extent_is (around_at es depth).limit head h.may form ∙ ap (λ (k : ℕ). Some k) (sym extent)) short))
