-- Laws of journals: where the message at hand stands, and what was sent for it.
use Rattle.std.proofs.Common.{◌≡◌, ℕ, ◌+◌, ◌-◌, ◌<◌, ◌≤◌, Bool, ◌&&◌, ◌||◌, List, [], ◌∷◌, refl, ap, sym, ◌∙◌, arith}
use Rattle.std.proofs.lemmas.Bool.Decides.{nat_tests}
use Rattle.x5_model_run.specs.Journal.{Line, depth, settled, siblings, leads_up}

pub settled_past : (d : ℕ) (l : Line) (lines : List Line) → d < depth l → settled d (l ∷ lines) ≡ settled d lines
settled_past d l lines h = grind (arith, nat_tests)

pub settled_at : (d : ℕ) (l : Line) (lines : List Line) → depth l ≡ d → settled d (l ∷ lines) ≡ l ∷ lines
settled_at d l lines h = grind (arith, nat_tests)

pub siblings_at : (d : ℕ) (l : Line) (lines : List Line) → depth l ≡ d → siblings d (l ∷ lines) ≡ []
siblings_at d l lines h = grind (arith, nat_tests)

pub settled_twice : (d e : ℕ) (lines : List Line) → d ≤ e → settled d (settled e lines) ≡ settled d lines
settled_twice d e [] h = refl
settled_twice d e (l ∷ lines) h = let i = settled_twice d e lines h in grind (arith, nat_tests, i)

-- what came after a line doesn't reach above it
pub settled_above : (d : ℕ) (l : Line) (lines after : List Line) → d < depth l → settled (depth l) after ≡ settled (depth l) (l ∷ lines) → settled d after ≡ settled d lines
settled_above d l lines after h e =
    let a = settled_twice d (depth l) after (omega arith) in
    let b = settled_twice d (depth l) (l ∷ lines) (omega arith) in
    let p = settled_past d l lines h in
    let q : settled d (settled (depth l) after) ≡ settled d (settled (depth l) (l ∷ lines)) = ap (settled d) e in
    cc

pub siblings_settled : (d e : ℕ) (lines : List Line) → e ≡ d + 1 → siblings d (settled e lines) ≡ siblings d lines
siblings_settled d e [] h = refl
siblings_settled d e (l ∷ lines) h = let i = siblings_settled d e lines h in grind (arith, nat_tests, i)

pub siblings_past : (d : ℕ) (l : Line) (lines : List Line) → depth l ≡ d + 1 → siblings d (l ∷ lines) ≡ l ∷ siblings d lines
siblings_past d l lines h = grind (arith, nat_tests)

-- what came after a line one deeper leaves it as the last sibling
pub siblings_under : (d : ℕ) (l : Line) (lines after : List Line) → depth l ≡ d + 1 → settled (depth l) after ≡ settled (depth l) (l ∷ lines) → siblings d after ≡ l ∷ siblings d lines
siblings_under d l lines after h e =
    sym (siblings_settled d (depth l) after h) ∙ ap (siblings d) e ∙ siblings_settled d (depth l) (l ∷ lines) h ∙ siblings_past d l lines h

-- from a line itself
pub leads_from : (ends passes : Line → Bool) (l : Line) (before : List Line) → leads_up ends passes (depth l) (l ∷ before) ≡ (ends l || (passes l && leads_up ends passes (depth l - 1) before))
leads_from ends passes l before = grind (arith, nat_tests)
