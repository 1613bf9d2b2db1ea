-- Elements of members, from the last to the first.
use Rattle.std.proofs.Common.{◌≡◌, ℕ, zero, suc, ◌+◌, ◌-◌, ◌<◌, ◌≤◌, Bool, false, List, [], ◌∷◌, length, get_or, take, drop, map, refl, ap, ap₂, sym, ◌∙◌, arith, add-one, drop-cons}
use Rattle.std.proofs.lemmas.List.{take_all}
use Rattle.std.specs.Prelude.{if◌then◌else◌}
use Rattle.std.specs.declared.option.Option.{Option}
use Rattle.std.specs.declared.option.Option.TheVariants.{None, Some}
use Rattle.x5_model_octets.specs.Elements as elements
use Rattle.x5_model_octets.specs.Elements.{Element, Elements}
use Rattle.x5_model_typed.specs.Nodes.{row}
use Rattle.x5_model_typed.specs.Forms.{Alternative, Component, Layout}
use Rattle.x5_model_typed.specs.Written.{goes_on, is_default, one_before, tagged_with, written, written_components, written_members}
use Rattle.x5_types.specs.declared.node.Node.{Node}
use Rattle.x5_types.specs.NodeView.{node_view}

drop_at : (items : List Node) (i : ℕ) (d : Node) → i < length items → drop i items ≡ get_or items i d ∷ drop (i + 1) items
drop_at items i d lt = rw (add-one, drop-cons items i d) refl

nothing_before : (o : Option Element) → one_before o None ≡ None
nothing_before None = refl
nothing_before (Some e) = refl

pub one_more : (table : Layout) (types : List Alternative) (items : List Node) (i : ℕ) (d : Node) (e : Element) (es : Elements)
    → i < length items → written table types (node_view (get_or items i d)) ≡ Some e
    → written_members table types (row (map node_view (drop (i + 1) items))) ≡ Some es
    → written_members table types (row (map node_view (drop i items))) ≡ Some (elements.More e es)
one_more table types items i d e es lt first others =
    ap (λ (l : List Node). written_members table types (row (map node_view l))) (drop_at items i d lt)
    ∙ ap₂ one_before first others

pub none_there : (table : Layout) (types : List Alternative) (items : List Node) (i : ℕ) (d : Node) → i < length items
    → written table types (node_view (get_or items i d)) ≡ None
    → written_members table types (row (map node_view items)) ≡ None
none_there table types [] i d lt h = absurd (omega (arith, lt))
none_there table types (x ∷ items) zero d lt h = ap (λ (o : Option Element). one_before o (written_members table types (row (map node_view items)))) h
none_there table types (x ∷ items) (suc i) d lt h =
    ap (λ (o : Option Elements). one_before (written table types (node_view x)) o) (none_there table types items i d (omega (arith, lt)) h)
    ∙ nothing_before (written table types (node_view x))

-- ---- components

-- all but the first
abbrev pub tail_of : List Node → List Node
tail_of l = take (length l - 1) (drop 1 l)

pub front_of : (l : List Node) (x : Node) → 1 ≤ length l → x ≡ get_or l 0 x → l ≡ x ∷ tail_of l
front_of [] x h e = absurd (omega (arith, h))
front_of (y ∷ ys) x h e =
    let few : length ys ≤ suc (length ys) - 1 = omega arith in
    ap₂ (λ (z : Node) (zs : List Node). z ∷ zs) (sym e) (sym (take_all (suc (length ys) - 1) ys few))

if_false : {X : Type 0} (b : Bool) (x y : X) → b ≡ false → (if b then x else y) ≡ y
if_false b x y h = ap (λ (c : Bool). if c then x else y) h

pub given_step : (table : Layout) (left others behind : List Component) (c : Component) (values : List Node) (v : Node)
    → left ≡ c ∷ others → 1 ≤ length values → v ≡ get_or values 0 v → is_default c.presence (node_view v) ≡ false
    → behind ≡ goes_on c.presence (node_view v) others
    → written_components table left (row (map node_view values))
    ≡ one_before (tagged_with c.tag (written table (table c.form) (node_view v))) (written_components table behind (row (map node_view (tail_of values))))
given_step table left others behind c values v first some value given goes =
    ap (λ (cs : List Component). written_components table cs (row (map node_view values))) first
    ∙ ap (λ (l : List Node). written_components table (c ∷ others) (row (map node_view l))) (front_of values v some value)
    ∙ if_false (is_default c.presence (node_view v)) _ _ given
    ∙ ap (λ (cs : List Component). one_before (tagged_with c.tag (written table (table c.form) (node_view v))) (written_components table cs (row (map node_view (tail_of values))))) (sym goes)
