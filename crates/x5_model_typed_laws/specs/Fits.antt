-- Which values are written and read back the same, in every table of types whose tags are apart.
use Rattle.std.specs.Prelude.{◌≡◌, ℕ, Bool, true, false, not, ◌&&◌, if◌then◌else◌, List, [], ◌∷◌}
use Rattle.std.specs.List.{find, list_all}
use Rattle.std.specs.declared.option.Option.TheVariants.{None, Some}
use Rattle.x5_model.specs.Words.{distinct}
use Rattle.x5_model_typed.specs.Nodes.{Node, Nodes, Chosen, Many, Nil, More}
use Rattle.x5_model_typed.specs.Named.{Named}
use Rattle.x5_model_typed.specs.Forms.{Default, Component, Content, Explicit, Sequence, Set, Members, Alternative}
use Rattle.x5_model_typed.specs.Forms.{Layout, has_tag, may_be_tagged, alternatives}
use Rattle.x5_model_typed.specs.Judged.{leaf_node, may_be_missing}
use Rattle.x5_model_typed.specs.Typed.{Goes}
use Rattle.x5_model_typed.specs.Layouts.{Surroundings}
use Rattle.x5_model_typed.specs.Written.{leaf_octets, can_hold, is_marked, is_default}

-- ---- tags that are apart (X.680: a CHOICE's alternatives, a SET's components, and in a SEQUENCE each component that
-- may be missing
-- and those that may follow it up to the first that may not)

abbrev pub same_tag : Alternative → Alternative → Bool
same_tag a b = has_tag a.class a.tag b

-- no element is of both components
abbrev pub are_apart : Layout → Component → Component → Bool
are_apart layout b c = list_all (λ a. not (may_be_tagged a.class a.tag (alternatives layout c))) (alternatives layout b)

abbrev pub apart_from : Layout → Component → List Component → Bool
apart_from layout c [] = true
apart_from layout c (b ∷ bs) = are_apart layout b c && (if may_be_missing b then apart_from layout c bs else true)

abbrev pub is_sequence_apart : Layout → List Component → Bool
is_sequence_apart layout [] = true
is_sequence_apart layout (c ∷ cs) =
    (if may_be_missing c then apart_from layout c cs else true) && is_sequence_apart layout cs

abbrev pub is_set_apart : Layout → List Component → Bool
is_set_apart layout [] = true
is_set_apart layout (c ∷ cs) = list_all (λ b. are_apart layout b c) cs && is_set_apart layout cs

abbrev pub is_content_apart : Layout → Content → Bool
is_content_apart layout (Sequence cs) = is_sequence_apart layout cs
is_content_apart layout (Set cs) = is_set_apart layout cs
is_content_apart layout content = true

abbrev pub are_tags_apart : Layout → List Alternative → Bool
are_tags_apart layout types = distinct same_tag types && list_all (λ a. is_content_apart layout a.content) types

abbrev pub AreTagsApart : Layout → Type 0
AreTagsApart layout = (form : Named) → are_tags_apart layout (layout form) ≡ true

-- ---- contents that read back: what is written in one is read as the value

abbrev pub ReadsBack : Content → Type 0
ReadsBack c = (n : Node) (octets : List ℕ) → leaf_octets c n ≡ Some octets → leaf_node c octets ≡ Some n

abbrev pub AllReadBack : List Alternative → Type 0
AllReadBack [] = Unit {0}
AllReadBack (a ∷ as') = ReadsBack a.content × AllReadBack as'

abbrev pub LeavesReadBack : Layout → Type 0
LeavesReadBack layout = (form : Named) → AllReadBack (layout form)

-- What is asked of a table of types.
pub record IsTable (layout : Layout) : Type 0 where
  pub apart : AreTagsApart layout
  pub back : LeavesReadBack layout

-- the clock that both ends share reads the times that it writes
abbrev pub ClockReadsBack : Surroundings → Type 0
ClockReadsBack w = (m : ℕ) (octets : List ℕ) → w.time m ≡ Some octets → w.moment octets ≡ Some m

-- ---- values that fit: the alternative that is written for the value takes it as it is

abbrev pub is_chosen : Node → Bool
is_chosen (Chosen tag n) = true
is_chosen n = false

mutual
  pub data Fits (layout : Layout) : List Alternative → Node → Type 0 where
    -- a content of octets or bits
    whole : {types : List Alternative} {n : Node} (a : Alternative) (octets : List ℕ)
        → is_chosen n ≡ false → find (can_hold n) types ≡ Some a → a.marked ≡ false
        → leaf_octets a.content n ≡ Some octets → a.settles n ≡ Some n
        → Fits layout types n
    -- a content of elements
    made : {types : List Alternative} {ns : Nodes} (a : Alternative)
        → find (can_hold (Many ns)) types ≡ Some a → a.marked ≡ false → leaf_octets a.content (Many ns) ≡ None
        → FitsIn layout a.content ns → a.settles (Many ns) ≡ Some (Many ns)
        → Fits layout types (Many ns)
    -- one of several, by its tag: an element of a type, or a content of elements
    chosen : {types : List Alternative} {n : Node} (a : Alternative) (tag : ℕ) (form : Named)
        → find (is_marked tag) types ≡ Some a → a.content ≡ Explicit form → Fits layout (layout form) n
        → a.settles n ≡ Some n
        → Fits layout types (Chosen tag n)
    chosen_made : {types : List Alternative} {ns : Nodes} (a : Alternative) (tag : ℕ)
        → find (is_marked tag) types ≡ Some a → FitsIn layout a.content ns → a.settles (Many ns) ≡ Some (Many ns)
        → Fits layout types (Chosen tag (Many ns))

  -- The nodes are the members of the content.
  pub data FitsIn (layout : Layout) : Content → Nodes → Type 0 where
    sequence : {cs : List Component} {ns : Nodes} → FitsSequence layout cs ns → FitsIn layout (Sequence cs) ns
    set : {cs : List Component} {ns : Nodes} → FitsSet layout cs ns → FitsIn layout (Set cs) ns
    members : {form : Named} {ns : Nodes} → FitsEach layout form ns → FitsIn layout (Members form) ns

  -- A SEQUENCE's components: those that are left out have their default, and no other has.
  pub data FitsSequence (layout : Layout) : List Component → Nodes → Type 0 where
    over : FitsSequence layout [] Nil
    left_out : {c : Component} {cs : List Component} {ns : Nodes} (d : Node) → c.presence ≡ Default d
        → is_default c.presence d ≡ true → FitsSequence layout cs ns → FitsSequence layout (c ∷ cs) (More d ns)
    given : {c : Component} {cs rest : List Component} {n : Node} {ns : Nodes}
        → is_default c.presence n ≡ false → Fits layout (layout c.form) n → Goes cs n c.presence rest
        → FitsSequence layout rest ns
        → FitsSequence layout (c ∷ cs) (More n ns)

  -- A SET's components likewise.
  pub data FitsSet (layout : Layout) : List Component → Nodes → Type 0 where
    all : FitsSet layout [] Nil
    absent : {c : Component} {cs : List Component} {ns : Nodes} (d : Node) → c.presence ≡ Default d
        → is_default c.presence d ≡ true → FitsSet layout cs ns → FitsSet layout (c ∷ cs) (More d ns)
    present : {c : Component} {cs : List Component} {n : Node} {ns : Nodes}
        → is_default c.presence n ≡ false → Fits layout (layout c.form) n → Goes cs n c.presence cs
        → FitsSet layout cs ns
        → FitsSet layout (c ∷ cs) (More n ns)

  pub data FitsEach (layout : Layout) : Named → Nodes → Type 0 where
    none : {form : Named} → FitsEach layout form Nil
    more : {form : Named} {n : Node} {ns : Nodes} → Fits layout (layout form) n → FitsEach layout form ns
        → FitsEach layout form (More n ns)
