-- The components of a SEQUENCE, one by one.
use Rattle.std.proofs.Common.{◌≡◌, List, [], ◌∷◌, refl, subst}
use Rattle.x5_model_typed.specs.Nodes.{Node, Nodes, Nil}
use Rattle.x5_model_typed.specs.Named.{Named}
use Rattle.x5_model_typed.specs.Forms.{Component, Layout, plain, or}
use Rattle.x5_model_typed.specs.Typed.{required, default}
use Rattle.x5_model_typed_laws.specs.Fits.{Fits, FitsSequence, left_out, given, over}
use Rattle.x5_dapber.proofs.Fitting.{First}

pub first_in : (L : Layout) (form : Named) (cs : List Component) (P : Node → Type 0) → ((n : Node) → Fits L (L form) n → P n)
    → (ns : Nodes) → FitsSequence L (plain form ∷ cs) ns → First P (FitsSequence L cs) ns
first_in L form cs P of _ (left_out d e f g) = absurd (cc e)
first_in L form cs P of _ (given {n} {ns} nd f required g) =
    record { first = n; others = ns; split = refl; is = of n f; rest = g }

pub maybe_in : (L : Layout) (d : Node) (c : Component) (cs : List Component) (P : Node → Type 0) → P d
    → ((n : Node) → Fits L (L c.form) n → P n) → (ns : Nodes) → FitsSequence L (or d c ∷ cs) ns
    → First P (FitsSequence L cs) ns
maybe_in L d c cs P missing of _ (left_out {ns} x e f g) =
    let same : d ≡ x = cc in
    record { first = x; others = ns; split = refl; is = subst P same missing; rest = g }
maybe_in L d c cs P missing of _ (given {n} {ns} nd f default g) =
    record { first = n; others = ns; split = refl; is = of n f; rest = g }

pub none_left : (L : Layout) (ns : Nodes) → FitsSequence L [] ns → ns ≡ Nil
none_left L _ over = refl
