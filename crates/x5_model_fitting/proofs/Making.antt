-- How a value is shown to fit a type of messages: by its content, component by component and member by member.
use Rattle.std.proofs.Common.{◌≡◌, ℕ, Bool, true, false, cond, List, [], ◌∷◌, refl, ap, subst}
use Rattle.std.specs.declared.option.Option.TheVariants.{None, Some}
use Rattle.x5_model.specs.Members.{here, there}
use Rattle.x5_model_typed.specs.Nodes.{Node, Nodes, More, row, same}
use Rattle.x5_model_typed.specs.Named.{Named}
use Rattle.x5_model_typed.specs.Forms.{Component, Alternative, Layout, plain, at, or}
use Rattle.x5_model_typed.specs.Typed.{default}
use Rattle.x5_model_typed.specs.Written.{leaf_octets}
use Rattle.x5_model_typed_laws.specs.Fits as fits
use Rattle.x5_model_typed_laws.specs.Fits.{is_chosen, Fits, FitsSequence, FitsSet, FitsEach}
use Rattle.x5_model_typed_laws.proofs.Closing.{held_by}
use Rattle.x5_model_typed_laws.proofs.Reading.{same_is, same_itself}
use Rattle.x5_model_fitting.specs.Names.{Each}

-- ---- a content of octets, in a type that has no other

pub leaf_fits : (L : Layout) (a : Alternative) (n : Node) (octets : List ℕ) → a.marked ≡ false → is_chosen n ≡ false
    → leaf_octets a.content n ≡ Some octets → a.settles n ≡ Some n → Fits L (a ∷ []) n
leaf_fits L a n octets plain free writes settles =
    fits.whole a octets free
    (ap (λ (b : Bool). cond b (Some a) None) (held_by a n (record { octets = octets; writes = writes; free = free })))
    plain writes settles

-- ---- members

pub each_fits : {X : Type 0} (L : Layout) (form : Named) (f : X → Node) (xs : List X)
    → Each (λ x. Fits L (L form) (f x)) xs
    → FitsEach L form (row (Rattle.std.specs.Prelude.map f xs))
each_fits L form f [] h = fits.none
each_fits L form f (x ∷ xs) h = fits.more (h x here) (each_fits L form f xs (λ y i. h y (there i)))

-- ---- components, of which one that has its default is left out

pub set_or : (L : Layout) (d n : Node) (tag : ℕ) (form : Named) (cs : List Component) (ns : Nodes) → Fits L (L form) n
    → FitsSet L cs ns → FitsSet L (or d (at tag form) ∷ cs) (More n ns)
set_or L d n tag form cs ns f g = by (same d n) refl
  where
    by : (b : Bool) → same d n ≡ b → FitsSet L (or d (at tag form) ∷ cs) (More n ns)
    by true e = subst (λ (x : Node). FitsSet L (or d (at tag form) ∷ cs) (More x ns)) (same_is d n e)
        (fits.absent d refl (same_itself d) g)
    by false e = fits.present e f default g

pub sequence_or : (L : Layout) (d n : Node) (form : Named) (cs : List Component) (ns : Nodes) → Fits L (L form) n
    → FitsSequence L cs ns → FitsSequence L (or d (plain form) ∷ cs) (More n ns)
sequence_or L d n form cs ns f g = by (same d n) refl
  where
    by : (b : Bool) → same d n ≡ b → FitsSequence L (or d (plain form) ∷ cs) (More n ns)
    by true e = subst (λ (x : Node). FitsSequence L (or d (plain form) ∷ cs) (More x ns)) (same_is d n e)
        (fits.left_out d refl (same_itself d) g)
    by false e = fits.given e f default g
