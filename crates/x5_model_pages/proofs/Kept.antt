-- What is kept by a number stays so where lines are about others.
use Rattle.std.proofs.Common.{◌≡◌, ℕ, ◌==◌, Bool, true, false, not, cond, [], ◌∷◌, ◌++◌, refl, sym, ap, ◌∙◌, subst}
use Rattle.std.specs.Prelude.{nat_lt, if◌then◌else◌}
use Rattle.std.proofs.lemmas.Bool.{eqb-true, eq-eqb}
use Rattle.std.specs.declared.option.Option.{Option}
use Rattle.std.specs.declared.option.Option.TheVariants.{None, Some}
use Rattle.x5_model.specs.Words.{in_option}
use Rattle.x5_model.specs.Answers.{Answer, EntryFound, Matched, Listed, Found, Changed, Answered, Failed, Referred}
use Rattle.x5_model_run.specs.Run.{Block, Silent, Set, Replies, Refreshing, Handed, Rejected}
use Rattle.x5_model_pages.specs.Pages.{Kept, Table, Fault, has_id, kept_at, start_fault, without, keeping, passed, count_of, rest_of}
use Rattle.x5_model_pages.specs.Lines.{Line, Plain, Start, Next, Close, after_line, after_reply, after_start}

some_kept : (x y : Kept) → (let o : Option Kept = Some x in o) ≡ Some y → x ≡ y
some_kept x y h = cc

pub kept_append : (id : ℕ) (t : Table) (k : Kept) (xs : Table) → kept_at id t ≡ Some k → kept_at id (t ++ xs) ≡ Some k
kept_append id [] k xs h = absurd (cc h)
kept_append id (x ∷ t) k xs h = by (has_id id x) refl (kept_append id t k xs)
  where
    by : (b : Bool) → has_id id x ≡ b → (kept_at id t ≡ Some k → kept_at id (t ++ xs) ≡ Some k)
        → kept_at id ((x ∷ t) ++ xs) ≡ Some k
    by true e rec = ap (λ b. cond b (Some x) (kept_at id (t ++ xs))) e ∙ sym (ap (λ b. cond b (Some x) (kept_at id t)) e) ∙ h
    by false e rec = ap (λ b. cond b (Some x) (kept_at id (t ++ xs))) e
        ∙ rec (sym (ap (λ b. cond b (Some x) (kept_at id t)) e) ∙ h)

pub kept_behind : (id : ℕ) (t : Table) (xs : Table) → kept_at id t ≡ None → kept_at id (t ++ xs) ≡ kept_at id xs
kept_behind id [] xs h = refl
kept_behind id (x ∷ t) xs h = by (has_id id x) refl (kept_behind id t xs)
  where
    by : (b : Bool) → has_id id x ≡ b → (kept_at id t ≡ None → kept_at id (t ++ xs) ≡ kept_at id xs)
        → kept_at id ((x ∷ t) ++ xs) ≡ kept_at id xs
    by true e rec = absurd (cc (sym (ap (λ b. cond b (Some x) (kept_at id t)) e) ∙ h))
    by false e rec = ap (λ b. cond b (Some x) (kept_at id (t ++ xs))) e
        ∙ rec (sym (ap (λ b. cond b (Some x) (kept_at id t)) e) ∙ h)

pub kept_has : (id : ℕ) (t : Table) (k : Kept) → kept_at id t ≡ Some k → k.id ≡ id
kept_has id [] k h = absurd (cc h)
kept_has id (x ∷ t) k h = by (has_id id x) refl (kept_has id t k)
  where
    by : (b : Bool) → has_id id x ≡ b → (kept_at id t ≡ Some k → k.id ≡ id) → k.id ≡ id
    by true e rec =
        let same : x ≡ k = some_kept x k (sym (ap (λ b. cond b (Some x) (kept_at id t)) e) ∙ h) in
        ap (λ (y : Kept). y.id) (sym same) ∙ eqb-true x.id id e
    by false e rec = rec (sym (ap (λ b. cond b (Some x) (kept_at id t)) e) ∙ h)

pub kept_without : (id other : ℕ) (t : Table) → (other == id) ≡ false → kept_at id (without other t) ≡ kept_at id t
kept_without id other [] h = refl
kept_without id other (x ∷ t) h = by (has_id other x) refl (kept_without id other t h)
  where
    by : (b : Bool) → has_id other x ≡ b → kept_at id (without other t) ≡ kept_at id t
        → kept_at id (without other (x ∷ t)) ≡ kept_at id (x ∷ t)
    by true e rec =
        let gone : has_id id x ≡ false = ap (λ n. n == id) (eqb-true x.id other e) ∙ h in
        ap (λ b. kept_at id (cond (not b) (x ∷ without other t) (without other t))) e
        ∙ rec
        ∙ sym (ap (λ b. cond b (Some x) (kept_at id t)) gone)
    by false e rec =
        ap (λ b. kept_at id (cond (not b) (x ∷ without other t) (without other t))) e
        ∙ ap (λ o. cond (has_id id x) (Some x) o) rec

pub kept_gone : (id : ℕ) (t : Table) → kept_at id (without id t) ≡ None
kept_gone id [] = refl
kept_gone id (x ∷ t) = by (has_id id x) refl (kept_gone id t)
  where
    by : (b : Bool) → has_id id x ≡ b → kept_at id (without id t) ≡ None → kept_at id (without id (x ∷ t)) ≡ None
    by true e rec = ap (λ b. kept_at id (cond (not b) (x ∷ without id t) (without id t))) e ∙ rec
    by false e rec =
        ap (λ b. kept_at id (cond (not b) (x ∷ without id t) (without id t))) e
        ∙ ap (λ b. cond b (Some x) (kept_at id (without id t))) e ∙ rec

-- what is kept more of changes nothing of it
pub kept_keeping : (id other size : ℕ) (a : Answer) (t : Table) (k : Kept) → kept_at id t ≡ Some k
    → kept_at id (keeping other size a t) ≡ Some k
kept_keeping id other size a t k h = by (nat_lt size (count_of a)) refl
  where
    one : Table
    one = record { id = other; size = size; left = rest_of size a } ∷ []

    by : (b : Bool) → nat_lt size (count_of a) ≡ b → kept_at id (keeping other size a t) ≡ Some k
    by true e = ap (λ b. kept_at id (if b then t ++ one else t)) e ∙ kept_append id t k one h
    by false e = ap (λ b. kept_at id (if b then t ++ one else t)) e ∙ h

started_by : (id other size : ℕ) (a : Answer) (t : Table) (k : Kept) → kept_at id t ≡ Some k
    → kept_at id (after_reply other size (Answered a) t) ≡ Some k
started_by id other size (Listed subs sources o) t k h = kept_keeping id other size (Listed subs sources o) t k h
started_by id other size (Found infos sources o) t k h = kept_keeping id other size (Found infos sources o) t k h
started_by id other size (EntryFound info source) t k h = h
started_by id other size (Matched equal copy source) t k h = h
started_by id other size Changed t k h = h

start_stays : (id other size : ℕ) (b : Block) (t : Table) (k : Kept) → kept_at id t ≡ Some k
    → kept_at id (after_start other size b t) ≡ Some k
start_stays id other size (Replies j (Answered a)) t k h = started_by id other size a t k h
start_stays id other size (Replies j (Failed x)) t k h = h
start_stays id other size (Replies j (Referred r)) t k h = h
start_stays id other size Silent t k h = h
start_stays id other size Set t k h = h
start_stays id other size (Refreshing f) t k h = h
start_stays id other size (Handed via count j reply) t k h = h
start_stays id other size (Rejected raw breach) t k h = h

-- the line is about pages of this number that there are
abbrev pub is_about : ℕ → Line → Bool
is_about id (Next other) = other == id
is_about id (Close other) = other == id
is_about id line = false

pub others_stay : (id : ℕ) (t : Table) (k : Kept) (l : Line) (b : Block) → kept_at id t ≡ Some k → is_about id l ≡ false
    → kept_at id (after_line l b t) ≡ Some k
others_stay id t k (Plain c) b h other = h
others_stay id t k (Start n to size r) b h other = by (start_fault n t)
  where
    by : (o : Option Fault) → kept_at id (in_option (after_start n size b t) (λ f. t) o) ≡ Some k
    by None = start_stays id n size b t k h
    by (Some f) = h
others_stay id t k (Next n) b h other = by (kept_at n t) refl
  where
    by : (o : Option Kept) → kept_at n t ≡ o → kept_at id (in_option t (λ x. passed x t) o) ≡ Some k
    by None e = h
    by (Some x) e =
        let same : x.id ≡ n = kept_has n t x e in
        kept_keeping id x.id x.size x.left (without x.id t) k
        (kept_without id x.id t (ap (λ m. m == id) same ∙ other) ∙ h)
others_stay id t k (Close n) b h other = kept_without id n t other ∙ h

-- behind a page with more, what is left is kept
pub next_stays : (id : ℕ) (t : Table) (k : Kept) → k.id ≡ id → nat_lt k.size (count_of k.left) ≡ true
    → kept_at id (passed k t) ≡ Some (record { id = k.id; size = k.size; left = rest_of k.size k.left })
next_stays id t k same more =
    ap (λ b. kept_at id (if b then without k.id t ++ one else without k.id t)) more
    ∙ kept_behind id (without k.id t) one (subst (λ n. kept_at id (without n t) ≡ None) (sym same) (kept_gone id t))
    ∙ ap (λ b. cond b (Some kept) None) (eq-eqb k.id id same)
  where
    kept : Kept
    kept = record { id = k.id; size = k.size; left = rest_of k.size k.left }

    one : Table
    one = kept ∷ []
