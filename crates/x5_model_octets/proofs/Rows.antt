-- Octets by hand: what they spell, or their first fault.
use Rattle.std.proofs.Common.{◌≡◌, [], ◌∷◌, refl, lit<, lit≤}
use Rattle.std.specs.declared.option.Option.TheVariants.{Some}
use Rattle.std.specs.declared.result.Result.TheVariants.{Ok}
use Rattle.x5_model_octets.specs.Headers.{length_at, low, short, indefinite}
use Rattle.x5_model_octets.specs.Elements.{Element, Elements, Primitive, Constructed, Nil, More, Spells, canonical, definite, identifier}
use Rattle.x5_model_octets.specs.Elements as elements
use Rattle.x5_model_octets.specs.Faults.{Truncated, BadLength, BadTag, FirstFault, in_header, in_octets, in_member, outermost}

-- A low form is used below 31.
tag_30 : FirstFault (0xbf ∷ 0x1e ∷ 0x00 ∷ []) outermost 0 (BadTag 0)
tag_30 = in_header refl

-- The leading octet 80 of a high tag number.
tag_80 : FirstFault (0x1f ∷ 0x80 ∷ 0x1f ∷ 0x00 ∷ []) outermost 0 (BadTag 0)
tag_80 = in_header refl

-- Four empty groups that can't end below 2 ^ 31 are cut off first, and the fifth one shows it.
tag_cut : FirstFault (0x1f ∷ 0x88 ∷ 0x80 ∷ 0x80 ∷ 0x80 ∷ []) outermost 0 (Truncated 5)
tag_cut = in_header refl

tag_long : FirstFault (0x1f ∷ 0x88 ∷ 0x80 ∷ 0x80 ∷ 0x80 ∷ 0x80 ∷ []) outermost 0 (BadTag 0)
tag_long = in_header refl

length_ff : FirstFault (0x30 ∷ 0xff ∷ []) outermost 0 (BadLength 1)
length_ff = in_header refl

indefinite_primitive : FirstFault (0x04 ∷ 0x80 ∷ 0x00 ∷ 0x00 ∷ []) outermost 0 (BadLength 1)
indefinite_primitive = in_header refl

end_outside : FirstFault (0x00 ∷ 0x00 ∷ []) outermost 0 (BadTag 0)
end_outside = in_header refl

empty : FirstFault [] outermost 0 (Truncated 0)
empty = in_header refl

content_cut : FirstFault (0x04 ∷ 0x02 ∷ 0x01 ∷ []) outermost 0 (Truncated 3)
content_cut = in_octets refl refl (lit< tt)

-- A length is a fault as soon as it is whole.
past_end : FirstFault (0x30 ∷ 0x0a ∷ 0x04 ∷ 0x20 ∷ 0x01 ∷ []) outermost 0 (BadLength 3)
past_end = in_member Nil [] refl refl refl refl (lit< tt) (in_header refl)

-- The enclosing end comes before the input's at one place.
both_ends : FirstFault (0x30 ∷ 0x03 ∷ 0x04 ∷ 0x82 ∷ 0x01 ∷ []) outermost 0 (BadLength 5)
both_ends = in_member Nil [] refl refl refl refl (lit< tt) (in_header refl)

no_end : FirstFault (0x30 ∷ 0x03 ∷ 0x30 ∷ 0x80 ∷ 0x00 ∷ []) outermost 0 (BadLength 5)
no_end = in_member Nil [] refl refl refl refl (lit< tt) (in_member Nil [] refl refl refl refl refl (in_header refl))

-- Below the indefinite form the nearest definite end counts.
far_end : FirstFault (0x30 ∷ 0x06 ∷ 0x30 ∷ 0x80 ∷ 0x04 ∷ 0x05 ∷ 0x01 ∷ 0x02 ∷ []) outermost 0 (BadLength 5)
far_end = in_member Nil [] refl refl refl refl (lit< tt) (in_member Nil [] refl refl refl refl refl (in_header refl))

canonical_row : canonical (Constructed 0 16 (More (Primitive 0 2 (5 ∷ [])) (More (Primitive 2 31 []) Nil))) ≡ 0x30 ∷ 0x06 ∷ 0x02 ∷ 0x01 ∷ 0x05 ∷ 0x9f ∷ 0x1f ∷ 0x00 ∷ []
canonical_row = refl

-- An indefinite length within a definite one.
nested : Spells 1 (Constructed 0 16 (More (Constructed 0 16 Nil) Nil)) (0x30 ∷ 0x04 ∷ 0x30 ∷ 0x80 ∷ 0x00 ∷ 0x00 ∷ [])
nested = (
  lit≤ tt,
  0x30 ∷ 0x80 ∷ 0x00 ∷ 0x00 ∷ [],
  (
    0x30 ∷ 0x80 ∷ 0x00 ∷ 0x00 ∷ [],
    [],
    (
      lit≤ tt,
      [],
      refl,
      elements.indefinite (0x30 ∷ 0x80 ∷ [])
          (record { identifier_octets = 0x30 ∷ []; length_octets = 0x80 ∷ []; identifier = low (lit< tt) (lit< tt) refl; length_form = indefinite refl refl; whole = refl }) refl,
    ),
    refl,
    refl,
  ),
  definite (0x30 ∷ 0x04 ∷ [])
      (record { identifier_octets = 0x30 ∷ []; length_octets = 0x04 ∷ []; identifier = low (lit< tt) (lit< tt) refl; length_form = short 4 (lit< tt) refl refl; whole = refl }) refl,
)

-- A length in the long form with leading zeros.
long_zeros : length_at (0x83 ∷ 0x00 ∷ 0x00 ∷ 0x05 ∷ []) ≡ Ok (Some 5, [])
long_zeros = refl
