-- What is written for a value is what the alternative that is found for it writes.
use Rattle.std.proofs.Common.{◌≡◌, ℕ, ◌-◌, Bool, true, false, ◌&&◌, List, ◌++◌, length, refl, ap, sym, ◌∙◌, append_assoc, arith, length-append}
use Rattle.std.specs.List.{find}
use Rattle.std.specs.Option.{is_some}
use Rattle.std.specs.Prelude.{if◌then◌else◌}
use Rattle.std.specs.declared.option.Option.{Option}
use Rattle.std.specs.declared.option.Option.TheVariants.{None, Some}
use Rattle.x5_model.specs.Words.{in_option}
use Rattle.x5_model_octets.specs.Headers.{Identifier}
use Rattle.x5_model_octets.specs.Elements.{Element, Elements, identifier_octets, shortest_length, enclosed}
use Rattle.x5_model_typed.specs.Nodes.{Node, Vacant, Flag, Number, Oid, Bits, Octets, Text, Chosen, Many}
use Rattle.x5_model_typed.specs.Forms.{Content, Primitive, Joined, JoinedBits, Explicit, Sequence, Set, Members, Never, Alternative, Layout}
use Rattle.x5_model_typed.specs.Written.{can_hold, is_marked, is_many, leaf_octets, leaf_or, constructed_of, by_content, primitive_of, written}
use Rattle.x5_writer.specs.Contents.{content_of, element_of, is_chosen, octets_in, octets_of}

in_both : (f g : Alternative → Option Element) → ((a : Alternative) → f a ≡ g a) → (o : Option Alternative) → in_option None f o ≡ in_option None g o
in_both f g h None = refl
in_both f g h (Some a) = h a

-- a content of elements has none for a value without parts
no_members : (c : Content) → by_content c (λ form. None) (λ cs. None) (λ form. None) ≡ None
no_members (Primitive leaf) = refl
no_members (Joined leaf) = refl
no_members (JoinedBits leaf) = refl
no_members (Explicit form) = refl
no_members (Sequence cs) = refl
no_members (Set cs) = refl
no_members (Members form) = refl
no_members Never = refl

leaf_alone : (table : Layout) (a : Alternative) (n : Node)
    → content_of table false a.content n ≡ by_content a.content (λ form. None) (λ cs. None) (λ form. None)
    → leaf_or a n None ≡ element_of table false a n
leaf_alone table a n h =
    sym (ap (λ (es : Option Elements). in_option (constructed_of a es) (λ octets. Some (primitive_of a octets)) (leaf_octets a.content n)) (h ∙ no_members a.content))

pub plain_is : (table : Layout) (types : List Alternative) (n : Node) → is_chosen n ≡ false
    → written table types n ≡ in_option None (λ a. element_of table false a n) (find (can_hold n) types)
plain_is table types Vacant h = in_both _ (λ a. element_of table false a Vacant) (λ a. leaf_alone table a Vacant refl) (find (can_hold Vacant) types)
plain_is table types (Flag b) h = in_both _ (λ a. element_of table false a (Flag b)) (λ a. leaf_alone table a (Flag b) refl) (find (can_hold (Flag b)) types)
plain_is table types (Number k) h = in_both _ (λ a. element_of table false a (Number k)) (λ a. leaf_alone table a (Number k) refl) (find (can_hold (Number k)) types)
plain_is table types (Oid arcs) h = in_both _ (λ a. element_of table false a (Oid arcs)) (λ a. leaf_alone table a (Oid arcs) refl) (find (can_hold (Oid arcs)) types)
plain_is table types (Bits bits) h = in_both _ (λ a. element_of table false a (Bits bits)) (λ a. leaf_alone table a (Bits bits) refl) (find (can_hold (Bits bits)) types)
plain_is table types (Octets os) h = in_both _ (λ a. element_of table false a (Octets os)) (λ a. leaf_alone table a (Octets os) refl) (find (can_hold (Octets os)) types)
plain_is table types (Text t) h = in_both _ (λ a. element_of table false a (Text t)) (λ a. leaf_alone table a (Text t) refl) (find (can_hold (Text t)) types)
plain_is table types (Chosen tag n) h = absurd (cc h)
plain_is table types (Many ns) h = refl

pub chosen_is : (table : Layout) (types : List Alternative) (tag : ℕ) (n : Node)
    → written table types (Chosen tag n) ≡ in_option None (λ a. element_of table true a n) (find (is_marked tag) types)
chosen_is table types tag Vacant = refl
chosen_is table types tag (Flag b) = refl
chosen_is table types tag (Number k) = refl
chosen_is table types tag (Oid arcs) = refl
chosen_is table types tag (Bits bits) = refl
chosen_is table types tag (Octets os) = refl
chosen_is table types tag (Text t) = refl
chosen_is table types tag (Chosen l m) = refl
chosen_is table types tag (Many ns) = refl

around : (a b c d : List ℕ) → a ++ (b ++ (c ++ d)) ≡ (a ++ b ++ c) ++ d
around a b c d = sym (append_assoc a b (c ++ d)) ∙ sym (append_assoc (a ++ b) c d)

-- A header before a content is the element's, where the length is the content's.
pub headed : (i : Identifier) (content old mid new : List ℕ) (n : ℕ) → mid ≡ content ++ old → n ≡ length mid - length old
    → new ≡ identifier_octets i ++ (shortest_length n ++ mid) → new ≡ enclosed i content ++ old
headed i content old mid new n is len e =
    let count : n ≡ length content = omega (arith, len, ap length is, length-append content old) in
    e
    ∙ ap (λ (k : ℕ). identifier_octets i ++ (shortest_length k ++ mid)) count
    ∙ ap (λ (l : List ℕ). identifier_octets i ++ (shortest_length (length content) ++ l)) is
    ∙ around (identifier_octets i) (shortest_length (length content)) content old

-- ---- whether there are octets

some_octets : (b : Bool) (o : Option (List ℕ)) → is_some (if b then None else o) ≡ true → (if b then None else o) ≡ Some (octets_in o)
some_octets true o h = absurd (cc h)
some_octets false None h = absurd (cc h)
some_octets false (Some os) h = refl

pub octets_are : (chosen : Bool) (c : Content) (n : Node) → is_some (octets_of chosen c n) ≡ true → octets_of chosen c n ≡ Some (octets_in (leaf_octets c n))
octets_are chosen c n h = some_octets (chosen && is_many n) (leaf_octets c n) h

pub no_octets : (o : Option (List ℕ)) → is_some o ≡ false → o ≡ None
no_octets None h = refl
no_octets (Some os) h = absurd (cc h)
