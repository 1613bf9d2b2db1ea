-- The text of an RDN spells the same RDN wherever it stands in a name: the place is told in faults alone.
use Rattle.std.proofs.Common.{◌≡◌, ℕ, ◌+◌, Bool, true, false, ◌==◌, if◌then◌else◌, nat_lt, nat_le, List, [], ◌∷◌, ◌++◌, length, Option, None, Some, Result, Ok, Err, refl, ap, ap₂, ◌∙◌}
use Rattle.std.specs.List.{position, position_or_len, before_first, after_first, slice_split}
use Rattle.x5_model.specs.Normal.{is_control}
use Rattle.x5_model.specs.Values.{Text}
use Rattle.x5_model_text.specs.NameText.{NameFault, BadSpelling, TooManyPairs, ◌>>=◌, plus, equals, spelled, fits_type, text_at, new_type, pair_cut, pair_at, pairs_at, rdn_at}
use Rattle.x5_model_text.specs.ValueText.{at_place, plain_at, octet_of, octet_before, escape_at, joined, escapes_at, parts_at, resolved}
use Rattle.x5_model_text_laws.proofs.Sorting.{Pairs}
use Rattle.hex.specs.Hex.{hex_digit_value}

-- ---- what steps give

pub bind_same : {A B : Type 0} (a b : Result A NameFault) (f g : A → Result B NameFault) (v : B)
    → ((x : A) → a ≡ Ok x → b ≡ Ok x) → ((x : A) → f x ≡ Ok v → g x ≡ Ok v) → (a >>= f) ≡ Ok v → (b >>= g) ≡ Ok v
bind_same (Ok x) b f g v first next h = ap (λ r. r >>= g) (first x refl) ∙ next x h
bind_same (Err e) b f g v first next h = cc

-- where the test passes
pub if_same : {A B : Type 0} (t : Bool) (x : Result A NameFault) (y : Result B NameFault) (e d : NameFault) (v : A) (w : B)
    → (x ≡ Ok v → y ≡ Ok w) → (if t then x else Err e) ≡ Ok v → (if t then y else Err d) ≡ Ok w
if_same true x y e d v w step h = step h
if_same false x y e d v w step h = cc

-- where the test fails
pub else_same : {A B : Type 0} (t : Bool) (x : Result A NameFault) (y : Result B NameFault) (e d : NameFault) (v : A) (w : B)
    → (x ≡ Ok v → y ≡ Ok w) → (if t then Err e else x) ≡ Ok v → (if t then Err d else y) ≡ Ok w
else_same true x y e d v w step h = cc
else_same false x y e d v w step h = step h

-- ---- a text, resolved

plain_same : (p q : ℕ) (t u : Text) (o : Option ℕ) → at_place p t o ≡ Ok u → at_place q t o ≡ Ok u
plain_same p q t u None h = h
plain_same p q t u (Some i) h = cc

joined_same : (a b c d : Result Text ℕ) (v : Text)
    → ((x : Text) → a ≡ Ok x → b ≡ Ok x) → ((x : Text) → c ≡ Ok x → d ≡ Ok x) → joined a c ≡ Ok v → joined b d ≡ Ok v
joined_same (Ok x) b (Ok y) d v first next h = ap₂ joined (first x refl) (next y refl) ∙ h
joined_same (Ok x) b (Err e) d v first next h = cc
joined_same (Err e) b c d v first next h = cc

octet_same : (p q : ℕ) (o : Option ℕ) (a b : Result Text ℕ) (v : Text)
    → ((x : Text) → a ≡ Ok x → b ≡ Ok x) → octet_before p o a ≡ Ok v → octet_before q o b ≡ Ok v
octet_same p q None a b v step h = cc
octet_same p q (Some octet) (Ok x) b v step h = ap (octet_before q (Some octet)) (step x refl) ∙ h
octet_same p q (Some octet) (Err e) b v step h = cc

escape_same : (p q : ℕ) (t v : Text) → escape_at p t ≡ Ok v → escape_at q t ≡ Ok v
escape_same p q [] v h = cc
escape_same p q (a ∷ []) v h = cc
escape_same p q (a ∷ b ∷ rest) v h =
    octet_same p q (octet_of (hex_digit_value a) (hex_digit_value b)) (plain_at (p + 3) rest) (plain_at (q + 3) rest) v
    (λ x. plain_same (p + 3) (q + 3) rest x (position is_control rest)) h

escapes_same : (p q : ℕ) (ts : List Text) (v : Text) → escapes_at p ts ≡ Ok v → escapes_at q ts ≡ Ok v
escapes_same p q [] v h = h
escapes_same p q (t ∷ ts) v h =
    joined_same (escape_at p t) (escape_at q t) (escapes_at (p + length t + 1) ts) (escapes_at (q + length t + 1) ts) v
    (escape_same p q t) (escapes_same (p + length t + 1) (q + length t + 1) ts) h

parts_same : (p q : ℕ) (ts : List Text) (v : Text) → parts_at p ts ≡ Ok v → parts_at q ts ≡ Ok v
parts_same p q [] v h = h
parts_same p q (t ∷ ts) v h =
    joined_same (plain_at p t) (plain_at q t) (escapes_at (p + length t) ts) (escapes_at (q + length t) ts) v
    (λ x. plain_same p q t x (position is_control t)) (escapes_same (p + length t) (q + length t) ts) h

spelled_same : (a b : Result Text ℕ) (v : Text) → ((x : Text) → a ≡ Ok x → b ≡ Ok x) → spelled a ≡ Ok v → spelled b ≡ Ok v
spelled_same (Ok x) b v step h = ap spelled (step x refl) ∙ h
spelled_same (Err e) b v step h = cc

-- ---- pairs

text_same : (limited : Bool) (number p q : ℕ) (t v : Text) → text_at limited number p t ≡ Ok v → text_at limited number q t ≡ Ok v
text_same limited number p q t v h =
    bind_same (spelled (resolved p t)) (spelled (resolved q t))
    (λ u. if fits_type limited number u then Ok u else Err (BadSpelling p)) (λ u. if fits_type limited number u then Ok u else Err (BadSpelling q)) v
    (λ x. spelled_same (resolved p t) (resolved q t) x (parts_same p q (slice_split (λ b. b == 92) t)))
    (λ u. if_same (fits_type limited number u) (Ok u) (Ok u) (BadSpelling p) (BadSpelling q) v v (λ e. e)) h

cut_same : (limited : Bool) (p q : ℕ) (before : Pairs) (t : Text) (cut : ℕ) (v : ℕ × Text) → pair_cut limited p before t cut ≡ Ok v → pair_cut limited q before t cut ≡ Ok v
cut_same limited p q before t cut v h =
    let word = before_first (λ b. b == equals) t in
    let behind = after_first (λ b. b == equals) t in
    bind_same (new_type before word) (new_type before word)
    (λ number. text_at limited number (p + cut + 1) behind >>= λ value. Ok (number, value)) (λ number. text_at limited number (q + cut + 1) behind >>= λ value. Ok (number, value)) v
    (λ x e. e)
    (λ number. bind_same (text_at limited number (p + cut + 1) behind) (text_at limited number (q + cut + 1) behind) (λ value. Ok (number, value)) (λ value. Ok (number, value)) v
    (text_same limited number (p + cut + 1) (q + cut + 1) behind) (λ x e. e)) h

pair_same : (limited : Bool) (p q : ℕ) (before : Pairs) (t : Text) (v : ℕ × Text) → pair_at limited p before t ≡ Ok v → pair_at limited q before t ≡ Ok v
pair_same limited p q before t v h =
    let cut = position_or_len (λ b. b == equals) t in
    if_same (nat_lt cut (length t)) (pair_cut limited p before t cut) (pair_cut limited q before t cut) (BadSpelling (p + length t)) (BadSpelling (q + length t)) v v
    (cut_same limited p q before t cut v) h

pairs_same : (p q : ℕ) (before : Pairs) (ts : List Text) (v : Pairs) → pairs_at true p before ts ≡ Ok v → pairs_at true q before ts ≡ Ok v
pairs_same p q before [] v h = h
pairs_same p q before (t ∷ ts) v h =
    else_same (nat_le 4 (length before))
    (pair_at true p before t >>= λ pair. pairs_at true (p + length t + 1) (before ++ pair ∷ []) ts) (pair_at true q before t >>= λ pair. pairs_at true (q + length t + 1) (before ++ pair ∷ []) ts)
    TooManyPairs TooManyPairs v v
    (bind_same (pair_at true p before t) (pair_at true q before t)
    (λ pair. pairs_at true (p + length t + 1) (before ++ pair ∷ []) ts) (λ pair. pairs_at true (q + length t + 1) (before ++ pair ∷ []) ts) v
    (pair_same true p q before t) (λ pair. pairs_same (p + length t + 1) (q + length t + 1) (before ++ pair ∷ []) ts v)) h

pub rdn_same : (p q : ℕ) (t : Text) (v : Pairs) → rdn_at true p t ≡ Ok v → rdn_at true q t ≡ Ok v
rdn_same p q t v h = pairs_same p q [] (slice_split (λ b. b == plus) t) v h
