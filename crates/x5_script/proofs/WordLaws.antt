-- Words that are sound or aren't, and lists of which each member is read.
use Rattle.std.proofs.Common.{◌≡◌, ℕ, ◌+◌, ◌==◌, Bool, true, false, if◌then◌else◌, List, [], ◌∷◌, ◌++◌, map, length, Option, None, Some, Result, Ok, Err, refl, sym, ◌∙◌, ap, append_assoc}
use Rattle.std.proofs.lemmas.List.{map-append}
use Rattle.std.specs.Option.{option_map, option_and_then}
use Rattle.std.specs.Str.{is_utf8}
use Rattle.std.specs.Str.Lossy.{utf8_valid_len}
use Rattle.x5_model.specs.Values.{Text}
use Rattle.x5_model.specs.Words.{is_empty}
use Rattle.x5_model_script.specs.Words.{Fault, BadWord, Word, sound, text_in}
use Rattle.x5_model_script.specs.Texts.{all_of}

-- ---- words

pub some_octets : (octets : Text) → false ≡ (length octets == 0) → is_empty octets ≡ false
some_octets [] h = absurd (cc)
some_octets (b ∷ bs) h = refl

abbrev sound_from : ℕ → Text → Bool → Bool → Result Word Fault
sound_from column octets empty valid = if empty then Err (BadWord column) else if valid then Ok (record { column = column; text = octets }) else Err (BadWord (column + utf8_valid_len octets))

pub sound_word : (column : ℕ) (octets text : Text) → is_empty octets ≡ false → text ≡ octets → is_utf8 octets ≡ true
    → sound (record { column = column; text = octets }) ≡ Ok (record { column = column; text = text })
sound_word column octets text some same valid =
    ap (λ b. sound_from column octets b (is_utf8 octets)) some ∙ ap (sound_from column octets false) valid ∙ ap (λ (t : Text). Ok (record { column = column; text = t })) (sym same)

pub unsound_word : (column n : ℕ) (octets : Text) → is_empty octets ≡ false → is_utf8 octets ≡ false
    → n ≡ utf8_valid_len octets → sound (record { column = column; text = octets }) ≡ Err (BadWord (column + n))
unsound_word column n octets some faulty up =
    ap (λ b. sound_from column octets b (is_utf8 octets)) some ∙ ap (sound_from column octets false) faulty ∙ ap (λ (m : ℕ). Err (BadWord (column + m))) (sym up)

pub some_text : (octets text : Text) → text ≡ octets → is_utf8 octets ≡ true → Some text ≡ text_in octets
some_text octets text same valid = ap Some same ∙ sym (ap (λ b. if b then Some octets else None) valid)

pub no_text : (octets : Text) → is_utf8 octets ≡ false → None ≡ text_in octets
no_text octets faulty = sym (ap (λ b. if b then Some octets else None) faulty)

-- ---- lists

-- what is read of a list behind the front that was read
abbrev pub behind : {Y : Type 0} → List Y → Option (List Y) → Option (List Y)
behind front o = option_map (λ ys. front ++ ys) o

behind_one : {Y : Type 0} (front : List Y) (y : Y) (o : Option (List Y))
    → behind front (option_map (λ ys. y ∷ ys) o) ≡ behind (front ++ y ∷ []) o
behind_one front y None = refl
behind_one front y (Some ys) = ap Some (sym (append_assoc front (y ∷ []) ys))

pub one_more : {X Y Z : Type 0} (view : Z → Y) (read : X → Option Y) (done : List Z) (z : Z) (x : X) (xs : List X)
    → Some (view z) ≡ read x
    → behind (map view (done ++ z ∷ [])) (all_of read xs) ≡ behind (map view done) (all_of read (x ∷ xs))
one_more view read done z x xs h =
    ap (λ front. behind front (all_of read xs)) (map-append view done (z ∷ []))
    ∙ sym (behind_one (map view done) (view z) (all_of read xs))
    ∙ ap (λ o. behind (map view done) (option_and_then (λ y. option_map (λ ys. y ∷ ys) (all_of read xs)) o)) h

pub no_more : {X Y : Type 0} (read : X → Option Y) (done : List Y) (x : X) (xs : List X) → None ≡ read x
    → None ≡ behind done (all_of read (x ∷ xs))
no_more read done x xs h = ap (λ o. behind done (option_and_then (λ y. option_map (λ ys. y ∷ ys) (all_of read xs)) o)) h

pub behind_nothing : {Y : Type 0} (o : Option (List Y)) → behind [] o ≡ o
behind_nothing None = refl
behind_nothing (Some ys) = refl
