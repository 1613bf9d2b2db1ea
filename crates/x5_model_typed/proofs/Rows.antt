-- Messages by hand: what they spell, what is written for them, and their first breach.
use Rattle.std.proofs.Common.{◌≡◌, ℕ, [], ◌∷◌, List, refl}
use Rattle.std.specs.Prelude.{pos, negsuc, true, false, codes, zero, suc}
use Rattle.std.specs.declared.option.Option.TheVariants.{None, Some}
use Rattle.std.specs.declared.result.Result.{Result}
use Rattle.std.specs.declared.result.Result.TheVariants.{Ok, Err}
use Rattle.x5_model_octets.specs.Faults.{BadTag, BadContent}
use Rattle.x5_model_octets.specs.Elements as elements
use Rattle.x5_model_octets.specs.Elements.{Element, Elements, Primitive, Constructed, canonical}
use Rattle.x5_model_typed.specs.Trees.{laid}
use Rattle.x5_model_typed.specs.Nodes.{Node, Flag, Oid, Text, Chosen, Many, whole, row}
use Rattle.x5_model_typed.specs.Named as named
use Rattle.x5_model_typed.specs.Named.{Named, DapRequest}
use Rattle.x5_model_octets.specs.Breaches.{Breach, Ber, Unrecognised}
use Rattle.x5_model_typed.specs.Judged.{judged}
use Rattle.x5_model_typed.specs.Layouts.{Surroundings, layout, no_controls, all_attributes}
use Rattle.x5_model_typed.specs.Leaves.{cells}
use Rattle.x5_model_typed.specs.Written.{canonical_octets}

abbrev nowhere : Surroundings
nowhere = record { moment = λ t. None; time = λ m. None; is_agent = λ a. false }

abbrev judge : Named → Element → Result Node Breach
judge form e = judged (layout nowhere) (layout nowhere form) (laid 0 e)

abbrev es : List Element → Elements
es [] = elements.Nil
es (e ∷ more) = elements.More e (es more)

abbrev con : ℕ → ℕ → List Element → Element
con class tag members = Constructed class tag (es members)

abbrev integer : ℕ → Element
integer n = Primitive 0 2 (n ∷ [])

-- /C=NL
abbrev name : Element
name = con 0 16 (con 0 17 (con 0 16 (Primitive 0 6 (0x55 ∷ 0x04 ∷ 0x06 ∷ []) ∷ Primitive 0 19 (codes "NL") ∷ []) ∷ []) ∷ [])

abbrev request : List Element → Element
request argument = con 2 1 (integer 1 ∷ integer 1 ∷ con 0 17 argument ∷ [])

abbrev read : Element
read = request (con 2 0 (name ∷ []) ∷ [])

abbrev name_node : Node
name_node = Many (row (Many (row (Many (row (Oid (2 ∷ 5 ∷ 4 ∷ 6 ∷ []) ∷ Text (codes "NL") ∷ [])) ∷ [])) ∷ []))

abbrev read_node : Node
read_node = Chosen 1 (Many (row (whole 1 ∷ whole 1 ∷ Many (row (name_node ∷ all_attributes ∷ no_controls ∷ [])) ∷ [])))

abbrev read_octets : List ℕ
read_octets =
    0xa1 ∷ 0x19 ∷ 0x02 ∷ 0x01 ∷ 0x01 ∷ 0x02 ∷ 0x01 ∷ 0x01 ∷ 0x31 ∷ 0x11 ∷ 0xa0 ∷ 0x0f ∷ 0x30 ∷ 0x0d ∷ 0x31 ∷ 0x0b ∷ 0x30 ∷ 0x09
    ∷ 0x06 ∷ 0x03 ∷ 0x55 ∷ 0x04 ∷ 0x06 ∷ 0x13 ∷ 0x02 ∷ 0x4e ∷ 0x4c ∷ []

spelled : canonical read ≡ read_octets
spelled = refl

reads : judge DapRequest read ≡ Ok read_node
reads = refl

writes : canonical_octets (layout nowhere) DapRequest read_node ≡ Some read_octets
writes = refl

-- An empty controls component is the same as none.
empty_controls : judge DapRequest (request (con 2 0 (name ∷ []) ∷ con 2 30 (con 0 17 [] ∷ []) ∷ [])) ≡ Ok read_node
empty_controls = refl

-- Components of a SET in another order.
other_order : judge DapRequest (request (con 2 30 (con 0 17 [] ∷ []) ∷ con 2 0 (name ∷ []) ∷ [])) ≡ Ok read_node
other_order = refl

-- The object twice: the second one's octet, before its content is looked at.
twice : judge DapRequest (request (con 2 0 (name ∷ []) ∷ con 2 0 [] ∷ [])) ≡ Err (Ber (BadContent 27))
twice = refl

-- No object: the SET's octet.
missing : judge DapRequest (request []) ≡ Err (Ber (BadContent 8))
missing = refl

-- A code that the table lacks comes before the missing argument.
unrecognised : judge DapRequest (con 2 1 (integer 1 ∷ integer 3 ∷ [])) ≡ Err (Unrecognised (pos 3))
unrecognised = refl

no_argument : judge DapRequest (con 2 1 (integer 1 ∷ integer 1 ∷ [])) ≡ Err (Ber (BadContent 0))
no_argument = refl

-- An unknown component, and a component in the place of the id.
unknown : judge DapRequest (request (con 2 7 (name ∷ []) ∷ [])) ≡ Err (Ber (BadTag 10))
unknown = refl

not_id : judge DapRequest (con 2 1 (con 0 17 [] ∷ [])) ≡ Err (Ber (BadTag 2))
not_id = refl

-- ---- rules of wholes

abbrev pair : ℕ → List ℕ → Element
pair k text = con 0 16 (Primitive 0 6 (0x55 ∷ 0x04 ∷ k ∷ []) ∷ Primitive 0 19 text ∷ [])

abbrev pair_node : ℕ → List ℕ → Node
pair_node k text = Many (row (Oid (2 ∷ 5 ∷ 4 ∷ k ∷ []) ∷ Text text ∷ []))

-- Pairs are kept in the order of their types.
sorted_pairs : judge named.Rdn (con 0 17 (pair 11 (codes "a") ∷ pair 3 (codes "b") ∷ [])) ≡ Ok (Many (row (pair_node 3 (codes "b") ∷ pair_node 11 (codes "a") ∷ [])))
sorted_pairs = refl

-- Two pairs of one type, and no pair: the RDN's own octet.
same_types : judge named.Rdn (con 0 17 (pair 3 (codes "a") ∷ pair 3 (codes "b") ∷ [])) ≡ Err (Ber (BadContent 0))
same_types = refl

no_pair : judge named.Rdn (con 0 17 []) ≡ Err (Ber (BadContent 0))
no_pair = refl

-- A type that may not name, after its value.
not_naming : judge named.Rdn (con 0 17 (pair 0 (codes "a") ∷ [])) ≡ Err (Ber (BadContent 2))
not_naming = refl

-- A country of three letters.
not_of_kind : judge named.Rdn (con 0 17 (pair 6 (codes "NLD") ∷ [])) ≡ Err (Ber (BadContent 2))
not_of_kind = refl

-- A string in segments, one of them constructed, and a UniversalString's characters.
in_segments : judge named.Value (con 0 19 (Primitive 0 4 (65 ∷ []) ∷ con 0 4 (Primitive 0 4 [] ∷ Primitive 0 4 (66 ∷ []) ∷ []) ∷ [])) ≡ Ok (Text (codes "AB"))
in_segments = refl

characters : cells (0 ∷ 0 ∷ 0 ∷ 65 ∷ []) ≡ Some (65 ∷ [])
characters = refl

-- A segment that isn't an OCTET STRING.
wrong_segment : judge named.Value (con 0 19 (Primitive 0 4 (65 ∷ []) ∷ Primitive 0 19 (65 ∷ []) ∷ [])) ≡ Err (Ber (BadTag 5))
wrong_segment = refl

-- A right tag in the wrong form.
wrong_form : judge named.Boolean (con 0 1 (Primitive 0 2 [] ∷ [])) ≡ Err (Ber (BadContent 0))
wrong_form = refl

-- An explicit tag around nothing, and around two elements.
around_nothing : judge named.Change (con 2 1 []) ≡ Err (Ber (BadContent 0))
around_nothing = refl

around_two : judge named.Change (con 2 1 (Primitive 0 6 (0x55 ∷ []) ∷ Primitive 0 6 (0x55 ∷ []) ∷ [])) ≡ Err (Ber (BadTag 5))
around_two = refl

-- Options: bits 1 and 3, with 0 and 4 that aren't kept and an unused bit; bit 2; a segment with unused bits
-- before another one.
some_options : judge named.Options (Primitive 0 3 (3 ∷ 0xdf ∷ [])) ≡ Ok (Many (row (Flag true ∷ Flag true ∷ [])))
some_options = refl

bad_option : judge named.Options (Primitive 0 3 (0 ∷ 0x20 ∷ [])) ≡ Err (Ber (BadContent 0))
bad_option = refl

ragged : judge named.Options (con 0 3 (Primitive 0 3 (1 ∷ 0x40 ∷ []) ∷ Primitive 0 3 (0 ∷ []) ∷ [])) ≡ Err (Ber (BadContent 2))
ragged = refl

-- The next RDN is there exactly in phase 2.
proceeding : judge named.Progress (con 0 16 (Primitive 0 10 (2 ∷ []) ∷ [])) ≡ Err (Ber (BadContent 0))
proceeding = refl

-- The 17th filter on a way, before its content.
abbrev nots : ℕ → Element → Element
nots n e = fold n
  where
    fold : ℕ → Element
    fold zero = e
    fold (suc n) = con 2 3 (fold n ∷ [])

abbrev nots_node : ℕ → Node → Node
nots_node n e = fold n
  where
    fold : ℕ → Node
    fold zero = e
    fold (suc n) = Chosen 3 (fold n)

deep : judge (named.Filter 16) (nots 15 (con 2 1 (con 0 17 [] ∷ []))) ≡ Ok (nots_node 15 (Chosen 1 (Many (row []))))
deep = refl

too_deep : judge (named.Filter 16) (nots 16 (con 2 1 [])) ≡ Err (Ber (BadContent 32))
too_deep = refl

no_filter : judge (named.Filter 16) (nots 16 (con 2 4 [])) ≡ Err (Ber (BadTag 32))
no_filter = refl

-- A trace with one item twice, where the spellings differ.
abbrev item : List ℕ → Element
item text = con 0 16 (Primitive 0 19 (codes "A1") ∷ con 0 16 (con 0 17 (pair 24 text ∷ []) ∷ []) ∷ con 0 16 (Primitive 0 10 (1 ∷ []) ∷ []) ∷ [])

repeated : judge named.Trace (con 0 16 (item (codes "1") ∷ item (codes "1 ") ∷ [])) ≡ Err (Ber (BadContent 0))
repeated = refl

-- A number in more octets than it needs, and a negative code.
padded : judge named.AnyNumber (Primitive 0 2 (0 ∷ 1 ∷ [])) ≡ Err (Ber (BadContent 0))
padded = refl

negative : judge DapRequest (con 2 1 (integer 1 ∷ integer 0xff ∷ [])) ≡ Err (Unrecognised (negsuc 0))
negative = refl
