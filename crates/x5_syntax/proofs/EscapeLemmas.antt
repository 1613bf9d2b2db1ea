-- Texts with escapes, part by part.
use Rattle.std.proofs.Common.{◌≡◌, ℕ, ◌+◌, List, [], ◌∷◌, ◌++◌, length, Result, Ok, Err, refl, sym, ◌∙◌, ap, append_assoc, append-nil, ◌==◌, Bor, map, get_or, drop, suc, add-one, IsUtf8, Bool, true, false, ◌<◌, ◌⊎◌, inl, inr, arith}
use Rattle.std.proofs.lemmas.Bool.{or_parts}
use Rattle.std.proofs.lemmas.List.Splits.{slice_split-cons_yes, slice_split-cons_no, length-slice_split}
use Rattle.std.proofs.lemmas.Str.{IsUtf8-from_is_utf8}
use Rattle.std.specs.Str.{is_utf8}
use Rattle.std.proofs.Math.Seq.{drop-cons}
use Rattle.std.specs.List.{list_any, slice_split, onto_first}
use Rattle.x5_model.specs.Values.{Text}
use Rattle.x5_model_text.specs.ValueText.{joined, plain_at, parts_at, resolved}
use Rattle.x5_syntax.specs.Escapes.{span}

pub cases_bool : (b : Bool) → (b ≡ true) ⊎ (b ≡ false)
cases_bool true = inl refl
cases_bool false = inr refl

pub joined_joined : (a b : Text) (r : Result Text ℕ) → joined (Ok a) (joined (Ok b) r) ≡ joined (Ok (a ++ b)) r
joined_joined a b (Ok t) = ap Ok (sym (append_assoc a b t))
joined_joined a b (Err place) = refl

-- a fault is that of what is read, whatever stands before
pub fault_of_joined : (a : Text) (r : Result Text ℕ) (place : ℕ) → joined (Ok a) r ≡ Err place → r ≡ Err place
fault_of_joined a (Ok t) place h = cc
fault_of_joined a (Err other) place h = h

pub joined_after : (old new : Text) (first rest : Result Text ℕ) → joined (Ok old) first ≡ Ok new → joined (Ok new) rest ≡ joined (Ok old) (joined first rest)
joined_after old new (Ok t) rest h = let same : old ++ t ≡ new = cc in ap (λ x. joined (Ok x) rest) (sym same) ∙ sym (joined_joined old t rest)
joined_after old new (Err place) rest h = cc

pub joined_fault : (old : Text) (first rest : Result Text ℕ) (place : ℕ) → first ≡ Err place → joined (Ok old) (joined first rest) ≡ Err place
joined_fault old first rest place h = ap (λ r. joined (Ok old) (joined r rest)) h

-- ---- how far the parts go

onto_some : (x : ℕ) (ts : List Text) → 0 < length ts → span (onto_first x ts) ≡ span ts + 1
onto_some x [] h = absurd (omega arith)
onto_some x (t ∷ ts) h = omega arith

part_of_split : (p : ℕ → Bool) (xs : Text) → 0 < length (slice_split p xs)
part_of_split p xs = omega (arith, length-slice_split p xs)

pub span-slice_split : (p : ℕ → Bool) (xs : Text) → span (slice_split p xs) ≡ length xs + 1
span-slice_split p [] = refl
span-slice_split p (x ∷ xs) = elim (cases_bool (p x)) [
  | inl cut ↦ (let e = ap span (slice_split-cons_yes p x xs cut) in omega (arith, e, span-slice_split p xs))
  | inr kept ↦ (let e = ap span (slice_split-cons_no p x xs kept) ∙ onto_some x (slice_split p xs) (part_of_split p xs) in omega (arith, e, span-slice_split p xs))
]

-- the texts from a place on
pub seen_from : (ts : List (Bor Text)) (i : ℕ) (d : Bor Text) → i < length ts → map (λ t. t.now) (drop i ts) ≡ (get_or ts i d).now ∷ map (λ t. t.now) (drop (i + 1) ts)
seen_from ts i d h = rw add-one (ap (map (λ (t : Bor Text). t.now)) (drop-cons ts i d h))

pub not_utf8 : (bs : Text) → (IsUtf8 bs → ⊥) → is_utf8 bs ≡ false
not_utf8 bs h = elim (cases_bool (is_utf8 bs)) [
  | inl valid ↦ absurd (h (IsUtf8-from_is_utf8 bs valid))
  | inr invalid ↦ invalid
]

-- ---- a text that isn't cut

one_part : (p : ℕ → Bool) (t : Text) → list_any p t ≡ false → slice_split p t ≡ t ∷ []
one_part p [] h = refl
one_part p (b ∷ t) h =
    let parts = or_parts (p b) (list_any p t) h in
    slice_split-cons_no p b t parts.0 ∙ ap (onto_first b) (one_part p t parts.1)

pub uncut : (c : ℕ) (t : Text) → list_any (λ b. b == c) t ≡ false → slice_split (λ b. b == c) t ≡ t ∷ []
uncut c t h = one_part (λ b. b == c) t h

joined_nil : (r : Result Text ℕ) → joined r (Ok []) ≡ r
joined_nil (Ok t) = ap Ok (append-nil t)
joined_nil (Err place) = refl

pub resolved_uncut : (at : ℕ) (t : Text) → list_any (λ b. b == 92) t ≡ false → resolved at t ≡ plain_at at t
resolved_uncut at t h = ap (parts_at at) (uncut 92 t h) ∙ joined_nil (plain_at at t)
