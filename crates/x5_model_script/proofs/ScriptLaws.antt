-- A script line by line: its first line and the others, and what is read of it behind the asked that were read.
use Rattle.std.proofs.Common.{◌≡◌, ℕ, ◌+◌, ◌-◌, ◌<◌, ◌≤◌, Bool, true, false, List, [], ◌∷◌, ◌++◌, length, take, drop, None, Some, Result, Ok, Err, refl, sym, ◌∙◌, ap, append_assoc, append-nil, length-drop, inl, inr, arith}
use Rattle.std.proofs.Math.ListN.{drop_of_length-le}
use Rattle.std.proofs.Math.Seq.{drop-length}
use Rattle.std.proofs.lemmas.Bool.{cases_lt}
use Rattle.std.proofs.lemmas.List.{take_all}
use Rattle.std.proofs.lemmas.List.Splits.{slice_split-cons_no, slice_split_first, length-slice_split}
use Rattle.std.specs.List.{position, slice_split, onto_first, position_or_len, before_first, after_first}
use Rattle.x5_model.specs.Values.{Text}
use Rattle.x5_model_script.specs.Lines.{Asked}
use Rattle.x5_model_script.specs.Words.{Fault}
use Rattle.x5_model_script.specs.Script.{is_line_feed, without_last_empty, lines_of, line_behind, lost_with, lost_behind, with_others, lines_from, script_of}
use Rattle.x5_model_script.proofs.Places.{position_some, position_none}

-- ---- lines

pub first_line_cut : (octets : Text) (i : ℕ) → position is_line_feed octets ≡ Some i
    → take i octets ≡ before_first is_line_feed octets
first_line_cut octets i h = ap (λ n. take n octets) (position_some is_line_feed octets i h).0

pub behind_line_cut : (octets : Text) (i : ℕ) → position is_line_feed octets ≡ Some i
    → take (length octets - (i + 1)) (drop (i + 1) octets) ≡ after_first is_line_feed octets
behind_line_cut octets i h =
    take_all (length octets - (i + 1)) (drop (i + 1) octets) (omega (arith, length-drop (i + 1) octets))
    ∙ ap (λ n. drop (n + 1) octets) (position_some is_line_feed octets i h).0

pub first_line_whole : (octets : Text) → position is_line_feed octets ≡ None → octets ≡ before_first is_line_feed octets
first_line_whole octets h = sym (take_all (position_or_len is_line_feed octets) octets (position_none is_line_feed octets h))

pub behind_line_whole : (octets : Text) → position is_line_feed octets ≡ None
    → take (length octets - length octets) (drop (length octets) octets) ≡ after_first is_line_feed octets
behind_line_whole octets h =
    let absent : length octets ≤ position_or_len is_line_feed octets = position_none is_line_feed octets h in
    let far : length octets ≤ position_or_len is_line_feed octets + 1 = omega arith in
    take_all (length octets - length octets) (drop (length octets) octets) (omega (arith, length-drop (length octets) octets))
    ∙ drop-length octets
    ∙ sym (drop_of_length-le octets far)

not_last : (line : Text) (lines : List Text) → 0 < length lines
    → without_last_empty (line ∷ lines) ≡ line ∷ without_last_empty lines
not_last [] [] h = absurd (omega arith)
not_last (b ∷ bs) [] h = absurd (omega arith)
not_last [] (next ∷ lines) h = refl
not_last (b ∷ bs) (next ∷ lines) h = refl

no_cut_from : (p : ℕ → Bool) (x : ℕ) (xs : Text) (b : Bool) → p x ≡ b → length (x ∷ xs) ≤ position_or_len p (x ∷ xs)
    → (length xs ≤ position_or_len p xs → slice_split p xs ≡ xs ∷ []) → slice_split p (x ∷ xs) ≡ (x ∷ xs) ∷ []
no_cut_from p x xs true e far rest = let at : position_or_len p (x ∷ xs) ≡ 0 = rw e refl in absurd (omega (arith, at, far))
no_cut_from p x xs false e far rest =
    let at : position_or_len p (x ∷ xs) ≡ 1 + position_or_len p xs = rw e refl in
    slice_split-cons_no p x xs e ∙ ap (onto_first x) (rest (omega (arith, at, far)))

no_cut : (p : ℕ → Bool) (xs : Text) → length xs ≤ position_or_len p xs → slice_split p xs ≡ xs ∷ []
no_cut p [] far = refl
no_cut p (x ∷ xs) far = no_cut_from p x xs (p x) refl far (no_cut p xs)

-- octets are the first line and what stands behind it
pub lines_next : (b : ℕ) (bs : Text)
    → lines_of (b ∷ bs) ≡ before_first is_line_feed (b ∷ bs) ∷ lines_of (after_first is_line_feed (b ∷ bs))
lines_next b bs = elim (cases_lt (position_or_len is_line_feed (b ∷ bs)) (length (b ∷ bs))) [
  | inl there ↦ (
      let behind = after_first is_line_feed (b ∷ bs) in
      let some : 0 < length (slice_split is_line_feed behind) = omega (arith, length-slice_split is_line_feed behind) in
      ap without_last_empty (slice_split_first is_line_feed (b ∷ bs) 0 there)
      ∙ not_last (before_first is_line_feed (b ∷ bs)) (slice_split is_line_feed behind) some)
  | inr absent ↦ (
      let far : length (b ∷ bs) ≤ position_or_len is_line_feed (b ∷ bs) + 1 = omega arith in
      let line : before_first is_line_feed (b ∷ bs) ≡ b ∷ bs = take_all (position_or_len is_line_feed (b ∷ bs)) (b ∷ bs) absent in
      let rest : after_first is_line_feed (b ∷ bs) ≡ [] = drop_of_length-le (b ∷ bs) far in
      ap without_last_empty (no_cut is_line_feed (b ∷ bs) absent)
      ∙ sym (ap (λ x. x ∷ []) line)
      ∙ sym (ap (λ r. before_first is_line_feed (b ∷ bs) ∷ lines_of r) rest))
]

pub shorter_behind : (rest : Text) → 0 < length rest → length (after_first is_line_feed rest) + 1 ≤ length rest
shorter_behind rest h = omega (arith, length-drop (position_or_len is_line_feed rest + 1) rest)

-- ---- asked

-- what is read of a script behind the asked that were read
abbrev pub behind : List Asked → Result (List Asked) (ℕ × Fault) → Result (List Asked) (ℕ × Fault)
behind done (Ok asked) = Ok (done ++ asked)
behind done (Err fault) = Err fault

behind_one : (number : ℕ) (done : List Asked) (one : Asked) (rest : Result (List Asked) (ℕ × Fault))
    → behind done (with_others number (Ok one) rest) ≡ behind (done ++ one ∷ []) rest
behind_one number done one (Ok asked) = ap Ok (sym (append_assoc done (one ∷ []) asked))
behind_one number done one (Err fault) = refl

-- what is left to read of a script, behind the asked that were read of so many lines, with so many lost replies
abbrev pub left : List Text → List Asked → ℕ → ℕ → Text → Result (List Asked) (ℕ × Fault)
left names done before lost rest = behind done (lines_from names before lost (lines_of rest))

-- what is read of the lines behind a line, by what is read of it
abbrev others : List Text → ℕ → ℕ → Text → Result Asked Fault → Result (List Asked) (ℕ × Fault)
others names before lost rest r =
    with_others (before + 1) r (lines_from names (before + 1) (lost_behind lost r) (lines_of rest))

pub line_taken : (names : List Text) (done : List Asked) (before lost : ℕ) (rest : Text) (one : Asked) → 0 < length rest
    → line_behind names before lost (before_first is_line_feed rest) ≡ Ok one
    → left names done before lost rest
    ≡ left names (done ++ one ∷ []) (before + 1) (lost_with lost one) (after_first is_line_feed rest)
line_taken names done before lost [] one some h = absurd (omega arith)
line_taken names done before lost (b ∷ bs) one some h =
    ap (λ ls. behind done (lines_from names before lost ls)) (lines_next b bs)
    ∙ ap (λ r. behind done (others names before lost (after_first is_line_feed (b ∷ bs)) r)) h
    ∙ behind_one (before + 1) done one
    (lines_from names (before + 1) (lost_with lost one) (lines_of (after_first is_line_feed (b ∷ bs))))

pub line_refused : (names : List Text) (done : List Asked) (before lost : ℕ) (rest : Text) (fault : Fault)
    → 0 < length rest → line_behind names before lost (before_first is_line_feed rest) ≡ Err fault
    → left names done before lost rest ≡ Err (before + 1, fault)
line_refused names done before lost [] fault some h = absurd (omega arith)
line_refused names done before lost (b ∷ bs) fault some h =
    ap (λ ls. behind done (lines_from names before lost ls)) (lines_next b bs)
    ∙ ap (λ r. behind done (others names before lost (after_first is_line_feed (b ∷ bs)) r)) h

pub all_lines : (names : List Text) (done : List Asked) (before lost : ℕ) (rest : Text) → length rest ≡ 0
    → left names done before lost rest ≡ Ok done
all_lines names done before lost [] h = ap Ok (append-nil done)
all_lines names done before lost (b ∷ bs) h = absurd (omega arith)

pub nothing_read : (names : List Text) (lost : ℕ) (octets : Text) → left names [] 0 lost octets ≡ script_of names lost octets
nothing_read names lost octets = by (script_of names lost octets)
  where
    by : (r : Result (List Asked) (ℕ × Fault)) → behind [] r ≡ r
    by (Ok asked) = refl
    by (Err fault) = refl
