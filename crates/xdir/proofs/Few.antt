-- A script that is taken has 100,000 lines at most, and the agents that it names have names.
use Rattle.std.proofs.Common.{◌≡◌, ℕ, suc, ◌+◌, ◌<◌, ◌≤◌, Bool, true, false, cond, nat_lt, List, [], ◌∷◌, length, refl, sym, ap, arith, Result, Ok, Err}
use Rattle.std.proofs.lemmas.Bool.{ltb-true}
use Rattle.x5_model.specs.Values.{Text}
use Rattle.x5_model_script.specs.Lines.{Asked, line_of}
use Rattle.x5_model_script.specs.Words.{Fault, Long, ◌>>=◌}
use Rattle.x5_model_script.specs.Script.{most_lines, within_losses, line_behind, lost_behind, with_others, lines_from, lines_of, script_of}

abbrev Taken : Type 0
Taken = Result (List Asked) (ℕ × Fault)

abbrev taken : List Asked → Taken
taken asked = Ok asked

same_ok : (xs ys : List Asked) → taken xs ≡ taken ys → xs ≡ ys
same_ok xs ys e = cc

-- a line that is taken isn't line 100,001
early : (names : List Text) (before lost : ℕ) (line : Text) (a : Asked) → line_behind names before lost line ≡ Ok a → before < most_lines
early names before lost line a e = by (nat_lt before most_lines) refl e
  where
    by : (b : Bool) → nat_lt before most_lines ≡ b → (cond b (line_of names line) (Err Long) >>= within_losses lost) ≡ Ok a → before < most_lines
    by true q h = ltb-true before most_lines q
    by false q h = cc

few_from : (names : List Text) (lines : List Text) (before lost : ℕ) (asked : List Asked) → before ≤ most_lines
    → lines_from names before lost lines ≡ Ok asked → before + length asked ≤ most_lines
few_from names [] before lost asked le e =
    let none : length asked ≡ 0 = sym (ap length (same_ok [] asked e)) in omega arith
few_from names (line ∷ lines) before lost asked le e =
    let r = line_behind names before lost line in
    by (λ more l q. few_from names lines (before + 1) (lost_behind lost r) more l q) r refl
    (lines_from names (before + 1) (lost_behind lost r) lines) refl e
  where
    by : ((more : List Asked) → before + 1 ≤ most_lines → lines_from names (before + 1) (lost_behind lost (line_behind names before lost line)) lines ≡ Ok more → before + 1 + length more ≤ most_lines)
        → (first : Result Asked Fault) → line_behind names before lost line ≡ first → (others : Result (List Asked) (ℕ × Fault))
        → lines_from names (before + 1) (lost_behind lost (line_behind names before lost line)) lines ≡ others
        → with_others (before + 1) first others ≡ Ok asked → before + length asked ≤ most_lines
    by again (Err fault) p others q h = cc
    by again (Ok a) p (Err fault) q h = cc
    by again (Ok a) p (Ok more) q h =
        let l : before < most_lines = early names before lost line a p in
        let rest : before + 1 + length more ≤ most_lines = again more (omega arith) q in
        let all : length asked ≡ suc (length more) = sym (ap length (same_ok (a ∷ more) asked h)) in
        omega arith

pub few : (names : List Text) (lost : ℕ) (octets : Text) (asked : List Asked) → script_of names lost octets ≡ Ok asked → length asked ≤ most_lines
few names lost octets asked e =
    let f : 0 + length asked ≤ most_lines = few_from names (lines_of octets) 0 lost asked (omega arith) e in omega arith
