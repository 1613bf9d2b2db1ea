-- Attributes and the types of earlier ones.
use Rattle.std.proofs.Common.{◌≡◌, Bool, true, false, ◌||◌, List, [], ◌∷◌, ◌++◌, refl, sym, ◌∙◌}
use Rattle.std.specs.List.{list_any}
use Rattle.x5_model.specs.Words.{has}
use Rattle.x5_model.specs.Values.{TypeRef}
use Rattle.x5_model.specs.Statics.{same_type}
use Rattle.x5_syntax.specs.TypeView.{type_view}
use Rattle.x5_ops.specs.declared.requests.Attribute.{Attribute}

-- their types, the newest first
abbrev pub kinds_before : List Attribute → List TypeRef → List TypeRef
kinds_before [] earlier = earlier
kinds_before (a ∷ more) earlier = kinds_before more (type_view a.kind ∷ earlier)

pub one_more_kind : (given : List Attribute) (a : Attribute) (earlier : List TypeRef) → kinds_before (given ++ a ∷ []) earlier ≡ type_view a.kind ∷ kinds_before given earlier
one_more_kind [] a earlier = refl
one_more_kind (b ∷ given) a earlier = one_more_kind given a (type_view b.kind ∷ earlier)

swapped : (a b c : Bool) → ((a || b) || c) ≡ (b || (a || c))
swapped true true c = refl
swapped true false c = refl
swapped false true c = refl
swapped false false c = refl

pub has_kind : (given : List Attribute) (earlier : List TypeRef) (t : TypeRef) → has same_type (kinds_before given earlier) t ≡ (has same_type earlier t || list_any (λ a. same_type (type_view a.kind) t) given)
has_kind [] earlier t = sym (or-false (has same_type earlier t))
  where
    or-false : (b : Bool) → (b || false) ≡ b
    or-false true = refl
    or-false false = refl
has_kind (a ∷ given) earlier t = has_kind given (type_view a.kind ∷ earlier) t ∙ swapped (same_type (type_view a.kind) t) (has same_type earlier t) (list_any (λ a. same_type (type_view a.kind) t) given)

pub has_earlier : (given : List Attribute) (t : TypeRef) → has same_type (kinds_before given []) t ≡ list_any (λ a. same_type (type_view a.kind) t) given
has_earlier given t = has_kind given [] t
