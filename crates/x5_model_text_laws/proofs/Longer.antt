-- A text that goes on from the text of a name with a `/` and the text of an RDN is that of the name with this RDN behind.
use Rattle.std.proofs.Common.{◌≡◌, ℕ, ◌+◌, ◌<◌, ◌≤◌, Bool, true, false, ◌==◌, if◌then◌else◌, nat_le, List, [], ◌∷◌, ◌++◌, length, map, Result, Ok, Err, refl, sym, ap, ap₂, ◌∙◌, arith}
use Rattle.std.proofs.lemmas.Bool.{eq-eqb, lt-leb}
use Rattle.std.proofs.lemmas.List.{length-map, map-append}
use Rattle.std.proofs.lemmas.List.Splits.{slice_split-cons_yes, slice_split-cons_no, length-slice_split}
use Rattle.std.specs.List.{slice_split, onto_first}
use Rattle.x5_model.specs.Values.{Text, NameValue}
use Rattle.x5_model_text.specs.NameText.{NameFault, BadSpelling, TooManyRdns, ◌>>=◌, slash, sorted, rdn_at, rdns_at, behind_slash, written_name, name_of_text, rdn_alone, rdn_of_text}
use Rattle.x5_model_text_laws.proofs.Anywhere.{if_same, else_same, rdn_same}
use Rattle.x5_model_text_laws.proofs.GivenNames.{answer, bound}
use Rattle.x5_model_text_laws.proofs.Sorting.{Pairs}

-- ---- pieces

onto_more : (b : ℕ) (ts us : List Text) → 1 ≤ length ts → onto_first b (ts ++ us) ≡ onto_first b ts ++ us
onto_more b [] us h = absurd (omega (arith, h))
onto_more b (t ∷ ts) us h = refl

cut_step : (c b : ℕ) (t u : Text) (same : Bool) → (b == c) ≡ same
    → slice_split (λ x. x == c) (t ++ c ∷ u) ≡ slice_split (λ x. x == c) t ++ slice_split (λ x. x == c) u
    → slice_split (λ x. x == c) (b ∷ t ++ c ∷ u) ≡ slice_split (λ x. x == c) (b ∷ t) ++ slice_split (λ x. x == c) u
cut_step c b t u true is rest =
    slice_split-cons_yes (λ x. x == c) b (t ++ c ∷ u) is
    ∙ ap (λ (ts : List Text). [] ∷ ts) rest
    ∙ sym (ap (λ (ts : List Text). ts ++ slice_split (λ x. x == c) u) (slice_split-cons_yes (λ x. x == c) b t is))
cut_step c b t u false is rest =
    slice_split-cons_no (λ x. x == c) b (t ++ c ∷ u) is
    ∙ ap (onto_first b) rest
    ∙ onto_more b (slice_split (λ x. x == c) t) (slice_split (λ x. x == c) u) (let l = length-slice_split (λ x. x == c) t in omega (arith, l))
    ∙ sym (ap (λ (ts : List Text). ts ++ slice_split (λ x. x == c) u) (slice_split-cons_no (λ x. x == c) b t is))

cut_between : (c : ℕ) (t u : Text) → slice_split (λ x. x == c) (t ++ c ∷ u) ≡ slice_split (λ x. x == c) t ++ slice_split (λ x. x == c) u
cut_between c [] u = slice_split-cons_yes (λ x. x == c) c u (eq-eqb c c refl)
cut_between c (b ∷ t) u = cut_step c b t u (b == c) refl (cut_between c t u)

-- ---- RDNs

last_rdn : (at : ℕ) (m : NameValue) (t : Text) (r : Pairs) → length m < 16 → rdn_at true 0 t ≡ Ok r → rdns_at true at m (t ∷ []) ≡ Ok (m ++ r ∷ [])
last_rdn at m t r few h =
    ap (λ (full : Bool). if full then Err TooManyRdns else rdn_at true at t >>= λ rdn. Ok (m ++ rdn ∷ [])) (lt-leb 16 (length m) few)
    ∙ ap (λ (o : Result Pairs NameFault). o >>= λ rdn. Ok (m ++ rdn ∷ [])) (rdn_same 0 at t r h)

rdns_more : (at : ℕ) (before m : NameValue) (ts : List Text) (t : Text) (r : Pairs) → length m < 16 → rdn_at true 0 t ≡ Ok r
    → rdns_at true at before ts ≡ Ok m → rdns_at true at before (ts ++ t ∷ []) ≡ Ok (m ++ r ∷ [])
rdns_more at before m [] t r few read h =
    ap (λ (n : NameValue). rdns_at true at n (t ∷ [])) (answer h) ∙ last_rdn at m t r few read
rdns_more at before m (u ∷ ts) t r few read h =
    let next : Pairs → List Text → Result NameValue NameFault = λ rdn us. rdns_at true (at + length u + 1) (before ++ rdn ∷ []) us in
    else_same (nat_le 16 (length before)) (rdn_at true at u >>= λ rdn. next rdn ts) (rdn_at true at u >>= λ rdn. next rdn (ts ++ t ∷ [])) TooManyRdns TooManyRdns m (m ++ r ∷ [])
    (λ e. let step = bound (rdn_at true at u) (λ rdn. next rdn ts) m e in
    ap (λ (o : Result Pairs NameFault). o >>= λ rdn. next rdn (ts ++ t ∷ [])) step.1
    ∙ rdns_more (at + length u + 1) (before ++ step.0 ∷ []) m ts t r few read step.2) h

-- ---- names as they are written

alone : (ts : List Text) (r : Pairs) → rdn_alone ts ≡ Ok r → (t : Text) × (raw : Pairs) × (ts ≡ t ∷ []) × (rdn_at true 0 t ≡ Ok raw) × (sorted raw ≡ r)
alone [] r h = cc
alone (t ∷ []) r h = let step = bound (rdn_at true 0 t) (λ q. Ok (sorted q)) r h in (t, step.0, refl, step.1, answer step.2)
alone (t ∷ u ∷ ts) r h = let step = bound (rdn_at true 0 t) (λ q. Err (BadSpelling (length t))) r h in cc (step.2)

behind_more : (t piece u : Text) (m : NameValue) (r : Pairs) → 1 ≤ length m → length m < 16 → slice_split (λ b. b == slash) piece ≡ u ∷ [] → rdn_at true 0 u ≡ Ok r
    → behind_slash true t ≡ Ok m → behind_slash true (t ++ slash ∷ piece) ≡ Ok (m ++ r ∷ [])
behind_more [] piece u m r some few cut read h = let none : length m ≡ 0 = ap length (sym (answer h)) in absurd (omega (arith, some, none))
behind_more (b ∷ t) piece u m r some few cut read h =
    ap (rdns_at true 1 []) (cut_between slash (b ∷ t) piece ∙ ap (λ (us : List Text). slice_split (λ x. x == slash) (b ∷ t) ++ us) cut)
    ∙ rdns_more 1 [] m (slice_split (λ x. x == slash) (b ∷ t)) u r few read h

written_more : (t piece u : Text) (m : NameValue) (r : Pairs) → 1 ≤ length m → length m < 16 → slice_split (λ b. b == slash) piece ≡ u ∷ [] → rdn_at true 0 u ≡ Ok r
    → written_name true t ≡ Ok m → written_name true (t ++ slash ∷ piece) ≡ Ok (m ++ r ∷ [])
written_more [] piece u m r some few cut read h = cc
written_more (b ∷ t) piece u m r some few cut read h =
    if_same (b == slash) (behind_slash true t) (behind_slash true (t ++ slash ∷ piece)) (BadSpelling 0) (BadSpelling 0) m (m ++ r ∷ [])
    (behind_more t piece u m r some few cut read) h

-- ---- names

pub name_more : (t piece : Text) (n : NameValue) (r : Pairs) → 1 ≤ length n → length n < 16
    → name_of_text t ≡ Ok n → rdn_of_text piece ≡ Ok r → name_of_text (t ++ slash ∷ piece) ≡ Ok (n ++ r ∷ [])
name_more t piece n r some few name rdn =
    let whole = bound (written_name true t) (λ m. Ok (map sorted m)) n name in
    let m = whole.0 in
    let is : map sorted m ≡ n = answer whole.2 in
    let size : length m ≡ length n = sym (length-map m sorted) ∙ ap length is in
    let one = alone (slice_split (λ b. b == slash) piece) r rdn in
    let raw = one.1 in
    ap (λ (o : Result NameValue NameFault). o >>= λ x. Ok (map sorted x)) (written_more t piece one.0 m raw (omega (arith, size, some)) (omega (arith, size, few)) one.2 one.3 whole.1)
    ∙ ap Ok (map-append sorted m (raw ∷ []) ∙ ap₂ (λ (x : NameValue) (y : Pairs). x ++ y ∷ []) is one.4)
