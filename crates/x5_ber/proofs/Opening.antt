-- Elements that are open around a place: how one is whole, how one more opens, and how a fault in
-- the innermost is the first fault of the value.
use Rattle.std.proofs.Common.{◌≡◌, ℕ, zero, suc, ◌+◌, ◌<◌, ◌≤◌, Bool, true, false, List, [], ◌∷◌, ◌++◌, length, take, drop, get_or, set, refl, ap, sym, subst, ◌∙◌, arith, append_assoc, append-nil, add-zero, length-append, length-take, length-drop}
use Rattle.std.specs.Prelude.{◌==◌, if◌then◌else◌}
use Rattle.std.proofs.Math.Dec.{leb}
use Rattle.std.specs.declared.option.Option.{Option}
use Rattle.std.specs.declared.option.Option.TheVariants.{None, Some}
use Rattle.std.proofs.lemmas.List.{drop-drop, take-append-drop, get_or-set_other, get_or-set_same}
use Rattle.std.proofs.lemmas.Bool.{leb-true, eqb-true, eqb-false, ne_eqb}
use Rattle.x5_model_octets.specs.Headers.{Identifier, IsHeader}
use Rattle.x5_model_octets.specs.Elements.{Element, Elements, Primitive, Constructed, Nil, More, Spells, SpellsAll, definite, indefinite, identifier}
use Rattle.x5_model_octets.specs.Faults.{Fault, Around, Head, seen, begins_with_end, may_extend, within, limit_within, is_indefinite, IsUnfinished, FirstFault, in_member, outermost}
use Rattle.x5_ber.specs.declared.reader.Enclosing.{Enclosing}
use Rattle.x5_ber.specs.Reading.{Stands, EndsWithin, Headed, Inside, AreOpen, IsRead, around_at, bare, is_over}
use Rattle.x5_model_octets.proofs.FaultLaws.{both_true}
use Rattle.x5_ber.proofs.Standing.{stands_seen, seen_stands, stands_more, headed_head, header_two, end_of_two}

-- A whole element, at a depth and before an end.
pub record MemberAt (input : List ℕ) (depth : ℕ) (limit : Option ℕ) (at end : ℕ) : Type 0 where
  pub element : Element
  pub octets : List ℕ
  pub spells : Spells depth element octets
  pub stands : Stands input at octets
  pub ends : end ≡ at + length octets
  pub fits : EndsWithin limit end

-- Octets behind octets that stand.
pub stands_both : (input : List ℕ) (at : ℕ) (a b : List ℕ) → Stands input at a → Stands input (at + length a) b → Stands input at (a ++ b)
stands_both input at a b s t = record {
  split = s.split ∙ ap (λ (l : List ℕ). a ++ l) t.split ∙ sym (append_assoc a b _) ∙ ap (λ (n : ℕ). (a ++ b) ++ drop n input) (omega (arith, length-append a b));
  there = omega (arith, t.there, length-append a b);
}

pub some_stand : (input : List ℕ) (at n : ℕ) → at + n ≤ length input → (octets : List ℕ) × Stands input at octets × (length octets ≡ n)
some_stand input at n there =
    let size : length (take n (drop at input)) ≡ n = omega (arith, length-take n (drop at input), length-drop at input) in (
      take n (drop at input),
      record {
        split = sym (take-append-drop n (drop at input)) ∙ ap (λ (l : List ℕ). take n (drop at input) ++ l) (drop-drop n at input ∙ ap (λ (k : ℕ). drop (at + k) input) (sym size));
        there = omega (arith, size);
      },
      size,
    )

-- A definite length that may stand at a place ends within the enclosing end.
may_fits : (limit : Option ℕ) (head : Head) (n : ℕ) → may_extend limit head ≡ true → head.extent ≡ Some n → EndsWithin limit (head.content + n)
may_fits None head n may extent = tt
may_fits (Some end) head n may extent = leb-true _ _ (by_extent head.extent extent may)
  where
    by_extent : (e : Option ℕ) → e ≡ Some n → may_extend (Some end) (record { identifier = head.identifier; extent = e; content = head.content }) ≡ true → leb (head.content + n) end ≡ true
    by_extent None is may = cc
    by_extent (Some m) is may = let same : m ≡ n = cc in subst (λ (k : ℕ). leb (head.content + k) end ≡ true) same may

identifier_form : (i : Identifier) (form : Bool) → i.constructed ≡ form → i ≡ identifier form i.class i.tag
identifier_form i form e = ap (λ (b : Bool). record { class = i.class; constructed = b; tag = i.tag }) e

-- A primitive element whose content is there is whole.
pub primitive_member : (input : List ℕ) (a : Around) (at : ℕ) (head : Head) (n : ℕ) → Headed input a at head → head.identifier.constructed ≡ false → head.extent ≡ Some n
    → head.content + n ≤ length input → MemberAt input a.depth a.limit at (head.content + n)
primitive_member input a at head n h form extent there =
    let found = some_stand input head.content n there in
    let whole : Stands input at (h.header ++ found.0) = stands_both input at h.header found.0 h.stands (subst (λ (p : ℕ). Stands input p found.0) h.content found.1) in
    let same : head.identifier ≡ identifier false head.identifier.class head.identifier.tag = identifier_form head.identifier false form in
    let size : head.extent ≡ Some (length found.0) = extent ∙ ap (λ (k : ℕ). Some k) (sym found.2) in
    record {
      element = Primitive head.identifier.class head.identifier.tag found.0;
      octets = h.header ++ found.0;
      spells = record {
        deep = h.shallow;
        header = h.header;
        is_header = subst (λ (i : Identifier). IsHeader i (Some (length found.0)) h.header) same (subst (λ (e : Option ℕ). IsHeader head.identifier e h.header) size h.is_header);
        whole = refl;
        no_end = λ (e : h.header ++ found.0 ≡ 0 ∷ 0 ∷ []).
            let one : begins_with_end (h.header ++ found.0) ≡ true = ap begins_with_end e in
            let other : begins_with_end (h.header ++ found.0) ≡ false = end_of_two h.header found.0 (header_two head.identifier head.extent h.header h.is_header) ∙ h.no_end in
            cc;
      };
      stands = whole;
      ends = omega (arith, length-append h.header found.0, h.content, found.2);
      fits = may_fits a.limit head n h.may extent;
    }

-- One more element behind a row.
abbrev pub and_last : Elements → Element → Elements
and_last Nil e = More e Nil
and_last (More first rest) e = More first (and_last rest e)

spells_last : (d : ℕ) (es : Elements) (e : Element) (octets spelling : List ℕ) → SpellsAll d es octets → Spells d e spelling → SpellsAll d (and_last es e) (octets ++ spelling)
spells_last d Nil e octets spelling all one = (spelling, [], one, refl, ap (λ (l : List ℕ). l ++ spelling) all ∙ sym (append-nil spelling))
spells_last d (More first rest) e octets spelling all one =
    (all.0, all.1 ++ spelling, all.2, spells_last d rest e all.1 spelling all.3 one, ap (λ (l : List ℕ). l ++ spelling) all.4 ∙ append_assoc all.0 all.1 spelling)

-- A whole member joins those before it.
inside_joins : (input : List ℕ) (outer : Around) (place : ℕ) (inner : Around) (at end : ℕ) → Inside input outer place inner at → MemberAt input (outer.depth + 1) inner.limit at end
    → Inside input outer place inner end
inside_joins input outer place inner at end i m =
    let ended : end ≡ i.head.content + length (i.octets ++ m.octets) = omega (arith, m.ends, i.ends, length-append i.octets m.octets) in
    record {
      head = i.head;
      headed = i.headed;
      form = i.form;
      around = i.around;
      members = and_last i.members m.element;
      octets = i.octets ++ m.octets;
      spelled = spells_last (outer.depth + 1) i.members m.element i.octets m.octets i.spelled m.spells;
      stands = stands_both input i.head.content i.octets m.octets i.stands (subst (λ (p : ℕ). Stands input p m.octets) i.ends m.stands);
      ends = ended;
      fits = m.fits;
    }

pub member_joins : (input : List ℕ) (es : List Enclosing) (start depth at end : ℕ) → AreOpen input es start depth at → MemberAt input (depth + 1) (around_at es depth).limit at end
    → IsRead input es start depth end
member_joins input es start zero at end o m =
    record { element = m.element; octets = m.octets; spells = m.spells; stands = subst (λ (p : ℕ). Stands input p m.octets) o.0 m.stands; ends = m.ends ∙ ap (λ (p : ℕ). p + length m.octets) o.0 }
member_joins input es start (suc depth) at end o m = (
  o.0,
  o.1,
  inside_joins input (around_at es depth) o.0 (around_at es (suc depth)) at end o.2
      (subst (λ (d : ℕ). MemberAt input d (around_at es (suc depth)).limit at end) (omega arith) m),
)

limit_none : (limit : Option ℕ) (head : Head) → head.extent ≡ None → limit_within limit head ≡ limit
limit_none limit head e = rw e refl

limit_some : (limit : Option ℕ) (head : Head) (n : ℕ) → head.extent ≡ Some n → limit_within limit head ≡ Some (head.content + n)
limit_some limit head n e = rw e refl

end_cells : (xs : List ℕ) → begins_with_end xs ≡ true → xs ≡ 0 ∷ 0 ∷ drop 2 xs
end_cells [] e = cc
end_cells (x ∷ []) e = cc
end_cells (x ∷ y ∷ more) e = let zeros = both_true x y e in let p : x ≡ 0 = zeros.0 in let q : y ≡ 0 = zeros.1 in cc

-- The members of an element, between its header and the place.
enclosed_stand : (input : List ℕ) (outer : Around) (place : ℕ) (inner : Around) (at : ℕ) (i : Inside input outer place inner at) → Stands input place (i.headed.header ++ i.octets)
enclosed_stand input outer place inner at i = stands_both input place i.headed.header i.octets i.headed.stands (subst (λ (p : ℕ). Stands input p i.octets) i.headed.content i.stands)

closed_definite : (input : List ℕ) (outer : Around) (place : ℕ) (inner : Around) (at : ℕ) (n : ℕ) (i : Inside input outer place inner at) → i.head.extent ≡ Some n → at ≡ i.head.content + n → MemberAt input outer.depth outer.limit place at
closed_definite input outer place inner at n i extent over =
    let same : i.head.identifier ≡ identifier true i.head.identifier.class i.head.identifier.tag = identifier_form i.head.identifier true i.form in
    let count : n ≡ length i.octets = omega (arith, over, i.ends) in
    let size : i.head.extent ≡ Some (length i.octets) = extent ∙ ap (λ (k : ℕ). Some k) count in
    record {
      element = Constructed i.head.identifier.class i.head.identifier.tag i.members;
      octets = i.headed.header ++ i.octets;
      spells = (
        i.headed.shallow,
        i.octets,
        i.spelled,
        definite i.headed.header (subst (λ (j : Identifier). IsHeader j (Some (length i.octets)) i.headed.header) same (subst (λ (e : Option ℕ). IsHeader i.head.identifier e i.headed.header) size i.headed.is_header)) refl,
      );
      stands = enclosed_stand input outer place inner at i;
      ends = omega (arith, i.ends, i.headed.content, length-append i.headed.header i.octets);
      fits = subst (λ (p : ℕ). EndsWithin outer.limit p) (sym over) (may_fits outer.limit i.head n i.headed.may extent);
    }

closed_indefinite : (input : List ℕ) (outer : Around) (place : ℕ) (inner : Around) (at : ℕ) (i : Inside input outer place inner at) → i.head.extent ≡ None
    → begins_with_end (drop at (seen outer.limit input)) ≡ true → MemberAt input outer.depth outer.limit place (at + 2)
closed_indefinite input outer place inner at i extent over =
    let cells : drop at (seen outer.limit input) ≡ (0 ∷ 0 ∷ []) ++ drop 2 (drop at (seen outer.limit input)) = end_cells (drop at (seen outer.limit input)) over in
    let inside : at ≤ length (seen outer.limit input) = omega (arith, simp (length-drop, length-append) at (ap length cells)) in
    let ended = seen_stands outer.limit input at (0 ∷ 0 ∷ []) _ cells inside in
    let here : at ≡ place + length (i.headed.header ++ i.octets) = omega (arith, i.ends, i.headed.content, length-append i.headed.header i.octets) in
    let both : Stands input place ((i.headed.header ++ i.octets) ++ (0 ∷ 0 ∷ [])) =
    stands_both input place (i.headed.header ++ i.octets) (0 ∷ 0 ∷ []) (enclosed_stand input outer place inner at i) (subst (λ (p : ℕ). Stands input p (0 ∷ 0 ∷ [])) here ended.0) in
    let same : i.head.identifier ≡ identifier true i.head.identifier.class i.head.identifier.tag = identifier_form i.head.identifier true i.form in
    record {
      element = Constructed i.head.identifier.class i.head.identifier.tag i.members;
      octets = (i.headed.header ++ i.octets) ++ (0 ∷ 0 ∷ []);
      spells = (
        i.headed.shallow,
        i.octets,
        i.spelled,
        indefinite i.headed.header (subst (λ (j : Identifier). IsHeader j None i.headed.header) same (subst (λ (e : Option ℕ). IsHeader i.head.identifier e i.headed.header) extent i.headed.is_header)) (append_assoc i.headed.header i.octets (0 ∷ 0 ∷ [])),
      );
      stands = both;
      ends = omega (arith, here, length-append (i.headed.header ++ i.octets) (0 ∷ 0 ∷ []));
      fits = ended.1;
    }

over_closes : (a : Around) (input : List ℕ) (at : ℕ) (limit : Option ℕ) → a.closes ≡ true → a.limit ≡ limit → is_over a input at ≡ begins_with_end (drop at (seen limit input))
over_closes a input at limit closes is = rw (closes, is) refl

over_ends : (a : Around) (input : List ℕ) (at end : ℕ) → a.closes ≡ false → a.limit ≡ Some end → is_over a input at ≡ (at == end)
over_ends a input at end closes is = rw (closes, is) refl

-- The content is over at the place, so the element is whole.
pub closed_member : (input : List ℕ) (outer : Around) (place : ℕ) (inner : Around) (at : ℕ) → Inside input outer place inner at → is_over inner input at ≡ true
    → MemberAt input outer.depth outer.limit place (if inner.closes then at + 2 else at)
closed_member input outer place inner at i over = by_extent i.head.extent refl
  where
    by_extent : (e : Option ℕ) → i.head.extent ≡ e → MemberAt input outer.depth outer.limit place (if inner.closes then at + 2 else at)
    by_extent None e =
        let closes : inner.closes ≡ true = ap (λ (a : Around). a.closes) i.around ∙ ap is_indefinite e in
        let limit : inner.limit ≡ outer.limit = ap (λ (a : Around). a.limit) i.around ∙ limit_none outer.limit i.head e in
        rw closes (closed_indefinite input outer place inner at i e (sym (over_closes inner input at outer.limit closes limit) ∙ over))
    by_extent (Some n) e =
        let closes : inner.closes ≡ false = ap (λ (a : Around). a.closes) i.around ∙ ap is_indefinite e in
        let limit : inner.limit ≡ Some (i.head.content + n) = ap (λ (a : Around). a.limit) i.around ∙ limit_some outer.limit i.head n e in
        let tested : (at == i.head.content + n) ≡ true = sym (over_ends inner input at (i.head.content + n) closes limit) ∙ over in
        rw closes (closed_definite input outer place inner at n i e (eqb-true _ _ tested))

unfinished_none : (head : Head) (limit : Option ℕ) (input : List ℕ) (place : ℕ) → head.extent ≡ None → begins_with_end (drop place (seen limit input)) ≡ false → IsUnfinished head limit input place
unfinished_none head limit input place e on = rw e on

unfinished_some : (head : Head) (limit : Option ℕ) (input : List ℕ) (place n : ℕ) → head.extent ≡ Some n → place < head.content + n → IsUnfinished head limit input place
unfinished_some head limit input place n e below = rw e below

-- The content isn't over at the place.
unfinished : (input : List ℕ) (outer : Around) (place : ℕ) (inner : Around) (at : ℕ) (i : Inside input outer place inner at) → is_over inner input at ≡ false
    → IsUnfinished i.head (limit_within outer.limit i.head) input (i.head.content + length i.octets)
unfinished input outer place inner at i over = by_extent i.head.extent refl
  where
    by_extent : (e : Option ℕ) → i.head.extent ≡ e → IsUnfinished i.head (limit_within outer.limit i.head) input (i.head.content + length i.octets)
    by_extent None e =
        let closes : inner.closes ≡ true = ap (λ (a : Around). a.closes) i.around ∙ ap is_indefinite e in
        let limit : inner.limit ≡ limit_within outer.limit i.head = ap (λ (a : Around). a.limit) i.around in
        unfinished_none i.head (limit_within outer.limit i.head) input (i.head.content + length i.octets) e
        (ap (λ (p : ℕ). begins_with_end (drop p (seen (limit_within outer.limit i.head) input))) (sym i.ends) ∙ sym (over_closes inner input at (limit_within outer.limit i.head) closes limit) ∙ over)
    by_extent (Some n) e =
        let closes : inner.closes ≡ false = ap (λ (a : Around). a.closes) i.around ∙ ap is_indefinite e in
        let limit : inner.limit ≡ Some (i.head.content + n) = ap (λ (a : Around). a.limit) i.around ∙ limit_some outer.limit i.head n e in
        let tested : at ≡ i.head.content + n → ⊥ = eqb-false _ _ (sym (over_ends inner input at (i.head.content + n) closes limit) ∙ over) in
        let below : at ≤ i.head.content + n = subst (λ (l : Option ℕ). EndsWithin l at) limit i.fits in
        unfinished_some i.head (limit_within outer.limit i.head) input (i.head.content + length i.octets) n e (omega (arith, i.ends, tested, below))

-- Where a header stands, the content around it isn't over.
headed_not_over : (input : List ℕ) (a : Around) (at : ℕ) (head : Head) → Headed input a at head → is_over a input at ≡ false
headed_not_over input a at head h = by_form a.closes a.limit refl refl
  where
    fits : EndsWithin a.limit (at + length h.header)
    fits = subst (λ (p : ℕ). EndsWithin a.limit p) h.content h.fits

    by_form : (c : Bool) (l : Option ℕ) → a.closes ≡ c → a.limit ≡ l → is_over a input at ≡ false
    by_form true l closes limit =
        over_closes a input at a.limit closes refl ∙ ap begins_with_end (stands_seen a.limit input at h.header h.stands fits)
        ∙ end_of_two h.header _ (header_two head.identifier head.extent h.header h.is_header) ∙ h.no_end
    by_form false None closes limit = rw (closes, limit) refl
    by_form false (Some end) closes limit =
        let room : at + length h.header ≤ end = subst (λ (l : Option ℕ). EndsWithin l (at + length h.header)) limit fits in
        over_ends a input at end closes limit ∙ ne_eqb at end (λ e. omega (arith, room, e, header_two head.identifier head.extent h.header h.is_header))

-- The first fault of a member is the first fault of the element that it lies in.
fault_outside : (input : List ℕ) (outer : Around) (place : ℕ) (inner : Around) (at : ℕ) (f : Fault) (i : Inside input outer place inner at) → is_over inner input at ≡ false
    → FirstFault input inner at f → FirstFault input outer place f
fault_outside input outer place inner at f i on fault =
    let inside : FirstFault input (within outer i.head) (i.head.content + length i.octets) f =
    subst (λ (a : Around). FirstFault input a (i.head.content + length i.octets) f) i.around (subst (λ (p : ℕ). FirstFault input inner p f) i.ends fault) in
    let limit : inner.limit ≡ limit_within outer.limit i.head = ap (λ (a : Around). a.limit) i.around in
    let fits : EndsWithin (limit_within outer.limit i.head) (i.head.content + length i.octets) = subst (λ (l : Option ℕ). EndsWithin l (i.head.content + length i.octets)) limit (subst (λ (p : ℕ). EndsWithin inner.limit p) i.ends i.fits) in
    in_member i.members i.octets (headed_head input outer place i.head i.headed) i.form i.spelled
    (stands_seen (limit_within outer.limit i.head) input i.head.content i.octets i.stands fits)
    (unfinished input outer place inner at i on) inside

-- The first fault at the place is the first fault of the value.
pub fault_first : (input : List ℕ) (es : List Enclosing) (start depth at : ℕ) (f : Fault) → AreOpen input es start depth at → is_over (around_at es depth) input at ≡ false
    → FirstFault input (around_at es depth) at f → FirstFault input outermost start f
fault_first input es start zero at f o on fault =
    subst (λ (a : Around). FirstFault input a start f) o.1 (subst (λ (p : ℕ). FirstFault input (around_at es 0) p f) o.0 fault)
fault_first input es start (suc depth) at f o on fault =
    fault_first input es start depth o.0 f o.1 (headed_not_over input (around_at es depth) o.0 o.2.head o.2.headed)
    (fault_outside input (around_at es depth) o.0 (around_at es (suc depth)) at f o.2 on fault)

around_same : (es fs : List Enclosing) (k : ℕ) → get_or es k bare ≡ get_or fs k bare → around_at es k ≡ around_at fs k
around_same es fs k e = ap (λ (x : Enclosing). record { depth = k + 1; limit = x.limit; closes = x.closes }) e

open_same : (input : List ℕ) (es fs : List Enclosing) (start depth at : ℕ) → ((k : ℕ) → k ≤ depth → get_or es k bare ≡ get_or fs k bare)
    → AreOpen input es start depth at → AreOpen input fs start depth at
open_same input es fs start zero at same o = (o.0, ap (λ (a : Around). a) (sym (around_same es fs 0 (same 0 (omega arith)))) ∙ o.1, o.2)
open_same input es fs start (suc depth) at same o = (
  o.0,
  open_same input es fs start depth o.0 (λ k h. same k (omega arith)) o.1,
  subst (λ (a : Around). Inside input (around_at fs depth) o.0 a at) (around_same es fs (suc depth) (same (suc depth) (omega arith)))
      (subst (λ (a : Around). Inside input a o.0 (around_at es (suc depth)) at) (around_same es fs depth (same depth (omega arith))) o.2),
)

-- The header of a constructed element opens it.
pub opens : (input : List ℕ) (es : List Enclosing) (start depth at : ℕ) (head : Head) (e : Enclosing) → AreOpen input es start depth at → Headed input (around_at es depth) at head
    → head.identifier.constructed ≡ true → suc depth < length es
    → e ≡ record { limit = limit_within (around_at es depth).limit head; closes = is_indefinite head.extent }
    → AreOpen input (set es (suc depth) e) start (suc depth) head.content
opens input es start depth at head e o h form room is =
    let same : (k : ℕ) → k ≤ depth → get_or es k bare ≡ get_or (set es (suc depth) e) k bare = λ (k : ℕ) (below : k ≤ depth). sym (get_or-set_other es (suc depth) k e bare (λ (q : k ≡ suc depth). omega arith)) in
    let outer : around_at es depth ≡ around_at (set es (suc depth) e) depth = around_same es (set es (suc depth) e) depth (same depth (omega arith)) in
    let inner : around_at (set es (suc depth) e) (suc depth) ≡ within (around_at es depth) head =
    ap (λ (x : Enclosing). record { depth = suc depth + 1; limit = x.limit; closes = x.closes }) (get_or-set_same es (suc depth) e bare room ∙ is)
    ∙ ap (λ (n : ℕ). record { depth = n; limit = limit_within (around_at es depth).limit head; closes = is_indefinite head.extent }) (omega arith) in (
      at,
      open_same input es (set es (suc depth) e) start depth at same o,
      subst (λ (a : Around). Inside input a at (around_at (set es (suc depth) e) (suc depth)) head.content) outer (record {
        head = head;
        headed = h;
        form = form;
        around = inner;
        members = Nil;
        octets = [];
        spelled = refl;
        stands = record { split = ap (λ (n : ℕ). drop n input) (sym (add-zero head.content)); there = omega (arith, h.content, h.stands.there) };
        ends = sym (add-zero head.content);
        fits = subst (λ (a : Around). EndsWithin a.limit head.content) (sym inner) (by_extent head.extent refl);
      }),
    )
  where
    by_extent : (x : Option ℕ) → head.extent ≡ x → EndsWithin (limit_within (around_at es depth).limit head) head.content
    by_extent None x = subst (λ (l : Option ℕ). EndsWithin l head.content) (sym (limit_none (around_at es depth).limit head x)) h.fits
    by_extent (Some n) x = subst (λ (l : Option ℕ). EndsWithin l head.content) (sym (limit_some (around_at es depth).limit head n x)) (omega arith)

-- What is open stays open where more octets come.
headed_more : (input more : List ℕ) (a : Around) (at : ℕ) (head : Head) → Headed input a at head → Headed (input ++ more) a at head
headed_more input more a at head h = record { header = h.header; is_header = h.is_header; stands = stands_more input more at h.header h.stands; content = h.content; fits = h.fits; shallow = h.shallow; may = h.may; no_end = h.no_end }

pub open_more : (input more : List ℕ) (es : List Enclosing) (start depth at : ℕ) → AreOpen input es start depth at → AreOpen (input ++ more) es start depth at
open_more input more es start zero at o = (o.0, o.1, omega (arith, o.2, length-append input more))
open_more input more es start (suc depth) at o = (
  o.0,
  open_more input more es start depth o.0 o.1,
  record {
    head = o.2.head;
    headed = headed_more input more (around_at es depth) o.0 o.2.head o.2.headed;
    form = o.2.form;
    around = o.2.around;
    members = o.2.members;
    octets = o.2.octets;
    spelled = o.2.spelled;
    stands = stands_more input more o.2.head.content o.2.octets o.2.stands;
    ends = o.2.ends;
    fits = o.2.fits;
  },
)

pub open_there : (input : List ℕ) (es : List Enclosing) (start depth at : ℕ) → AreOpen input es start depth at → at ≤ length input
open_there input es start zero at o = o.2
open_there input es start (suc depth) at o = omega (arith, o.2.ends, o.2.stands.there)
