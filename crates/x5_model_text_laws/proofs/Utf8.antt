-- UTF-8 is octets.
use Rattle.std.proofs.Common.{◌≡◌, ℕ, ◌<◌, true, List, [], ◌∷◌, ◌++◌, subst, inl, inr, arith}
use Rattle.std.proofs.lemmas.Bool.{and_parts, cond_both, ltb-true}
use Rattle.std.proofs.lemmas.Str.{IsUtf8-from_is_utf8}
use Rattle.std.specs.List.{AllByRecursion}
use Rattle.std.specs.Str.{is_utf8}
use lib.Dec.{ltb}
use lib.Utf8.{encode, encodes, scalar, scalars, scalar_cases}
use Rattle.x5_model.specs.Values.{Text}

abbrev pub AreOctets : Text → Type 0
AreOctets t = AllByRecursion (λ b. b < 256) t

pub octets_joined : (t u : Text) → AreOctets t → AreOctets u → AreOctets (t ++ u)
octets_joined [] u h k = k
octets_joined (b ∷ t) u h k = (h.0, octets_joined t u h.1 k)

below_planes : (c : ℕ) → scalar c ≡ true → c < 1114112
below_planes c s = elim (scalar_cases c s) [
  | inl low ↦ omega arith
  | inr high ↦ high.1
]

char_octets : (c : ℕ) → scalar c ≡ true → AreOctets (encode c)
unfolding encode
char_octets c s =
    let fits = below_planes c s in
    cond_both (ltb c 128) _ _ AreOctets (λ e. (let h = ltb-true c 128 e in omega arith, tt))
    (λ e. cond_both (ltb c 2048) _ _ AreOctets (λ f. (let h = ltb-true c 2048 f in omega arith, (omega arith, tt)))
    (λ f. cond_both (ltb c 65536) _ _ AreOctets (λ g. (let h = ltb-true c 65536 g in omega arith, (omega arith, (omega arith, tt))))
    (λ g. (omega arith, (omega arith, (omega arith, (omega arith, tt)))))))

chars_octets : (cs : List ℕ) → scalars cs ≡ true → AreOctets (encodes cs)
chars_octets [] h = tt
chars_octets (c ∷ cs) h =
    let parts = and_parts (scalar c) (scalars cs) h in
    octets_joined (encode c) (encodes cs) (char_octets c parts.0) (chars_octets cs parts.1)

pub utf8_octets : (t : Text) → is_utf8 t ≡ true → AreOctets t
utf8_octets t h = let u = IsUtf8-from_is_utf8 t h in subst AreOctets u.1.1 (chars_octets u.0 u.1.0)
