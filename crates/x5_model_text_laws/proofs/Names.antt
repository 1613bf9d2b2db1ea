-- Whole names, printed and read.
use Rattle.std.proofs.Common.{◌≡◌, Bool, true, ◌&&◌, ◌==◌, nat_lt, List, [], ◌∷◌, length, map, Ok, Err, refl, sym, ap, ap₂, subst, ◌∙◌, arith}
use Rattle.std.proofs.lemmas.Bool.{and_parts}
use Rattle.std.specs.List.{list_all, slice_split}
use Rattle.x5_model.specs.Values.{Text, NameValue, Name, written, written_pair}
use Rattle.x5_model.specs.Normal.{is_pair, is_rdn, is_name, ascends, name_over, IsStored, stored, stored_pair}
use Rattle.x5_model_text.specs.NameText.{BadSpelling, ◌>>=◌, slash, text_of_pairs, text_of_written, text_of_name, sorted, rdn_at, rdn_alone, rdn_of_text, written_name, name_of_text}
use Rattle.x5_model_text_laws.specs.Given.{are_utf8, IsGivenName}
use Rattle.x5_model_text_laws.proofs.GivenNames.{answer, bound, name_given, rdn_given}
use Rattle.x5_model_text_laws.proofs.Limits.{is_small, name_small, small_name}
use Rattle.x5_model_text_laws.proofs.NamesRead.{rdn_no_slash, rdn_read, written_read}
use Rattle.x5_model_text_laws.proofs.Pieces.{cut_all}
use Rattle.x5_model_text_laws.proofs.Sorting.{Pairs, sorted_stands}

rdn_stands : (r : Pairs) → is_rdn r ≡ true → sorted r ≡ r
rdn_stands r h = sorted_stands r (and_parts (nat_lt 0 (length r) && list_all is_pair r) (ascends r) h).1

pub name_stands : (n : NameValue) → is_name n ≡ true → map sorted n ≡ n
name_stands [] h = refl
name_stands (r ∷ n) h =
    let parts = and_parts (is_rdn r) (is_name n) h in
    ap₂ ◌∷◌ (rdn_stands r parts.0) (name_stands n parts.1)

-- with limits or without
pub given_read : (limited : Bool) (n : NameValue) → IsGivenName n → written_name limited (text_of_written n) ≡ Ok n
given_read limited n h =
    let small = name_small 0 n (omega arith) h.short in
    let count = small.count in
    written_read limited n h.valid h.utf8 small.rdns (omega (arith, count))

pub name_read_back : (n : NameValue) → IsGivenName n → name_of_text (text_of_written n) ≡ Ok n
name_read_back n h =
    ap (λ r. r >>= λ m. Ok (map sorted m)) (given_read true n h) ∙ ap Ok (name_stands n h.valid)

pub name_read_again : (t : Text) (n : NameValue) → name_of_text t ≡ Ok n → name_of_text (text_of_written n) ≡ Ok n
name_read_again t n h = name_read_back n (name_given t n h)

pub stored_read_back : (n : Name) → IsStored n → list_all are_utf8 (written n) ≡ true → (name_of_text (text_of_name n) ≡ Ok (written n)) × (stored (written n) ≡ n)
stored_read_back n h utf8 = (name_read_back (written n) (record { valid = h.valid; short = h.short; utf8 = utf8 }), sym h.normal)

-- what was read, with its normal forms
written_stored : (n : NameValue) → written (stored n) ≡ n
written_stored [] = refl
written_stored (r ∷ n) = ap₂ ◌∷◌ (pairs r) (written_stored n)
  where
    pairs : (r : Pairs) → map written_pair (map stored_pair r) ≡ r
    pairs [] = refl
    pairs (p ∷ r) = ap (λ q. p ∷ q) (pairs r)

pub stored_given : (t : Text) (n : NameValue) → name_of_text t ≡ Ok n → IsStored (stored n)
stored_given t n h =
    let g = name_given t n h in
    let same = written_stored n in
    record { valid = ap is_name same ∙ g.valid; short = ap (name_over 0) same ∙ g.short; normal = ap stored (sym same) }

-- ---- an RDN alone

rdn_alone_read : (t : Text) (r : Pairs) → slice_split (λ b. b == slash) t ≡ t ∷ [] → rdn_at true 0 t ≡ Ok r → rdn_of_text t ≡ Ok (sorted r)
rdn_alone_read t r cut h = ap rdn_alone cut ∙ ap (λ x. x >>= λ q. Ok (sorted q)) h

pub rdn_read_back : (r : Pairs) → IsGivenName (r ∷ []) → rdn_of_text (text_of_pairs r) ≡ Ok r
rdn_read_back r h =
    let valid = (and_parts (is_rdn r) true h.valid).0 in
    let utf8 = (and_parts (are_utf8 r) true h.utf8).0 in
    let small = (and_parts (is_small r) true (name_small 0 (r ∷ []) (omega arith) h.short).rdns).0 in
    rdn_alone_read (text_of_pairs r) r (cut_all slash (text_of_pairs r) (rdn_no_slash r valid)) (rdn_read true 0 r valid utf8 small)
    ∙ ap Ok (rdn_stands r valid)

alone_given : (ts : List Text) (r : Pairs) → rdn_alone ts ≡ Ok r → IsGivenName (r ∷ [])
alone_given [] r h = cc
alone_given (t ∷ []) r h =
    let step = bound (rdn_at true 0 t) (λ q. Ok (sorted q)) r h in
    let g = rdn_given true 0 t step.0 step.1 in
    let one : IsGivenName (sorted step.0 ∷ []) = record {
      valid = ap (λ b. b && true) g.rdn;
      short = small_name 0 (sorted step.0 ∷ []) (omega arith) (ap (λ b. b && true) (g.small refl));
      utf8 = ap (λ b. b && true) g.utf8;
    } in
    subst (λ q. IsGivenName (q ∷ [])) (answer step.2) one
alone_given (t ∷ u ∷ ts) r h = let step = bound (rdn_at true 0 t) (λ q. Err (BadSpelling (length t))) r h in cc (step.2)

pub rdn_given_alone : (t : Text) (r : Pairs) → rdn_of_text t ≡ Ok r → IsGivenName (r ∷ [])
rdn_given_alone t r h = alone_given (slice_split (λ b. b == slash) t) r h
