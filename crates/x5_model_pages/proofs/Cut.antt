-- Pages of one start, joined.
use Rattle.std.proofs.Common.{◌≡◌, ℕ, ◌==◌, Bool, true, false, List, [], ◌∷◌, ◌++◌, take, refl, sym, ap, ◌∙◌, subst}
use Rattle.std.specs.Prelude.{nat_lt, if◌then◌else◌, length}
use Rattle.std.specs.List.{flat_map}
use Rattle.std.proofs.lemmas.Bool.{eqb-true, ltb-false}
use Rattle.std.proofs.lemmas.List.{take_all, take-append-drop, append_assoc, append-nil}
use Rattle.std.specs.declared.option.Option.TheVariants.{Some}
use Rattle.x5_model.specs.Words.{in_option}
use Rattle.x5_model.specs.Answers.{Answer, EntryFound, Matched, Listed, Found, Changed}
use Rattle.x5_model_run.specs.Run.{Block}
use Rattle.x5_model_pages.specs.Pages.{Kept, Table, Page, page_of, kept_at, count_of, first_part, rest_of, passed}
use Rattle.x5_model_pages.specs.Lines.{Line, Plain, Start, Next, Close, after_line}
use Rattle.x5_model_pages.specs.Laws.{infos_of, subs_of, unless_last, printed_by, pages_of, last_said, IsPrefix, PagesAreAPrefix, PagesAreAll}
use Rattle.x5_model_pages.proofs.Kept.{others_stay, next_stays, kept_has}

taken_all : {X : Type 0} (n : ℕ) (xs : List X) → nat_lt n (length xs) ≡ false → take n xs ≡ xs
taken_all n xs h = take_all n xs (ltb-false n (length xs) h)

-- a part and the rest are the whole, and where no more is left the part is
infos_cut : (n : ℕ) (a : Answer) → infos_of (first_part n a) ++ infos_of (rest_of n a) ≡ infos_of a
infos_cut n (Found infos sources o) = take-append-drop n infos
infos_cut n (Listed subs sources o) = refl
infos_cut n (EntryFound info source) = refl
infos_cut n (Matched equal copy source) = refl
infos_cut n Changed = refl

subs_cut : (n : ℕ) (a : Answer) → subs_of (first_part n a) ++ subs_of (rest_of n a) ≡ subs_of a
subs_cut n (Found infos sources o) = refl
subs_cut n (Listed subs sources o) = take-append-drop n subs
subs_cut n (EntryFound info source) = refl
subs_cut n (Matched equal copy source) = refl
subs_cut n Changed = refl

infos_whole : (n : ℕ) (a : Answer) → nat_lt n (count_of a) ≡ false → infos_of (first_part n a) ≡ infos_of a
infos_whole n (Found infos sources o) h = taken_all n infos h
infos_whole n (Listed subs sources o) h = refl
infos_whole n (EntryFound info source) h = refl
infos_whole n (Matched equal copy source) h = refl
infos_whole n Changed h = refl

subs_whole : (n : ℕ) (a : Answer) → nat_lt n (count_of a) ≡ false → subs_of (first_part n a) ≡ subs_of a
subs_whole n (Found infos sources o) h = refl
subs_whole n (Listed subs sources o) h = taken_all n subs h
subs_whole n (EntryFound info source) h = refl
subs_whole n (Matched equal copy source) h = refl
subs_whole n Changed h = refl

-- ---- both kinds of members at once
abbrev Of : {X : Type 0} → (Answer → List X) → List Page → List X
Of members pages = flat_map (λ p. members p.part) pages

abbrev IsCut : {X : Type 0} → (Answer → List X) → Type 0
IsCut members = (n : ℕ) (a : Answer) → members (first_part n a) ++ members (rest_of n a) ≡ members a

abbrev IsWhole : {X : Type 0} → (Answer → List X) → Type 0
IsWhole members = (n : ℕ) (a : Answer) → nat_lt n (count_of a) ≡ false → members (first_part n a) ≡ members a

-- what is claimed of the pages that lines print of what is kept
abbrev Claimed : {X : Type 0} → (Answer → List X) → Kept → List Page → Type 0
Claimed members k pages = IsPrefix (Of members pages) (members k.left) × (last_said pages ≡ true → Of members pages ≡ members k.left)

nothing : {X : Type 0} (members : Answer → List X) (k : Kept) → Claimed members k []
nothing members k = ((members k.left, refl), λ h. absurd (cc h))

-- one page with more behind it, and the pages of what is left
full : {X : Type 0} (members : Answer → List X) → IsCut members → (k : Kept) (later : List Page) → nat_lt k.size (count_of k.left) ≡ true
    → Claimed members (record { id = k.id; size = k.size; left = rest_of k.size k.left }) later
    → Claimed members k (page_of k.size k.left ∷ later)
full members cut k [] more c = (
  (members (rest_of k.size k.left), by),
  λ h. absurd (cc (sym (ap (λ b. if b then false else true) more) ∙ h)),
)
  where
    by : members k.left ≡ (members (first_part k.size k.left) ++ []) ++ members (rest_of k.size k.left)
    by = sym (cut k.size k.left) ∙ ap (λ xs. xs ++ members (rest_of k.size k.left)) (sym (append-nil (members (first_part k.size k.left))))
full members cut k (p ∷ ps) more c = ((c.0.0, by), λ h. ap (λ xs. members (first_part k.size k.left) ++ xs) (c.1 h) ∙ cut k.size k.left)
  where
    by : members k.left ≡ (members (first_part k.size k.left) ++ Of members (p ∷ ps)) ++ c.0.0
    by = sym (cut k.size k.left) ∙ ap (λ xs. members (first_part k.size k.left) ++ xs) c.0.1
        ∙ sym (append_assoc (members (first_part k.size k.left)) (Of members (p ∷ ps)) c.0.0)

-- the last page
final : {X : Type 0} (members : Answer → List X) → IsWhole members → (k : Kept) → nat_lt k.size (count_of k.left) ≡ false
    → Claimed members k (page_of k.size k.left ∷ [])
final members whole k less = (([], sym (append-nil _ ∙ all)), λ h. all)
  where
    all : Of members (page_of k.size k.left ∷ []) ≡ members k.left
    all = append-nil (members (first_part k.size k.left)) ∙ whole k.size k.left less

-- the pages that later lines print of whatever is kept by the number
abbrev Later : {X : Type 0} → (Answer → List X) → ℕ → List Line → List Block → Type 0
Later members id ls bs = (t : Table) (k : Kept) → kept_at id t ≡ Some k → Claimed members k (pages_of id t ls bs)

abbrev left_of : Kept → Kept
left_of k = record { id = k.id; size = k.size; left = rest_of k.size k.left }

next_by : {X : Type 0} (members : Answer → List X) → IsCut members → IsWhole members → (id n : ℕ) (t : Table) (k : Kept)
    (ls : List Line) (bs : List Block) (b : Block) → Later members id ls bs → kept_at id t ≡ Some k → n ≡ id
    → (more : Bool) → nat_lt k.size (count_of k.left) ≡ more
    → Claimed members k (unless_last (page_of k.size k.left) (pages_of id (after_line (Next n) b t) ls bs))
next_by members cut whole id n t k ls bs b later h same true m =
    let there : after_line (Next n) b t ≡ passed k t =
    ap (λ o. in_option t (λ x. passed x t) o) (ap (λ j. kept_at j t) same ∙ h) in
    subst (λ c. Claimed members k (page_of k.size k.left ∷ (if c then pages_of id (after_line (Next n) b t) ls bs else []))) (sym m)
    (full members cut k (pages_of id (after_line (Next n) b t) ls bs) m
    (later (after_line (Next n) b t) (left_of k) (ap (λ u. kept_at id u) there ∙ next_stays id t k (kept_has id t k h) m)))
next_by members cut whole id n t k ls bs b later h same false m =
    subst (λ c. Claimed members k (page_of k.size k.left ∷ (if c then pages_of id (after_line (Next n) b t) ls bs else []))) (sym m)
    (final members whole k m)

next_of : {X : Type 0} (members : Answer → List X) → IsCut members → IsWhole members → (id n : ℕ) (t : Table) (k : Kept)
    (ls : List Line) (bs : List Block) (b : Block) → Later members id ls bs → kept_at id t ≡ Some k
    → (same : Bool) → (n == id) ≡ same
    → Claimed members k (if same then unless_last (page_of k.size k.left) (pages_of id (after_line (Next n) b t) ls bs)
    else pages_of id (after_line (Next n) b t) ls bs)
next_of members cut whole id n t k ls bs b later h true e =
    next_by members cut whole id n t k ls bs b later h (eqb-true n id e) (nat_lt k.size (count_of k.left)) refl
next_of members cut whole id n t k ls bs b later h false e =
    later (after_line (Next n) b t) k (others_stay id t k (Next n) b h e)

close_of : {X : Type 0} (members : Answer → List X) (id n : ℕ) (t : Table) (k : Kept)
    (ls : List Line) (bs : List Block) (b : Block) → Later members id ls bs → kept_at id t ≡ Some k
    → (same : Bool) → (n == id) ≡ same
    → Claimed members k (if same then [] else pages_of id (after_line (Close n) b t) ls bs)
close_of members id n t k ls bs b later h true e = nothing members k
close_of members id n t k ls bs b later h false e =
    later (after_line (Close n) b t) k (others_stay id t k (Close n) b h e)

line_of : {X : Type 0} (members : Answer → List X) → IsCut members → IsWhole members → (id : ℕ) (t : Table) (k : Kept)
    (ls : List Line) (bs : List Block) (l : Line) (b : Block) → Later members id ls bs → kept_at id t ≡ Some k
    → Claimed members k (printed_by id l (Some k) (pages_of id (after_line l b t) ls bs))
line_of members cut whole id t k ls bs (Plain c) b later h = later (after_line (Plain c) b t) k (others_stay id t k (Plain c) b h refl)
line_of members cut whole id t k ls bs (Start n to size r) b later h =
    later (after_line (Start n to size r) b t) k (others_stay id t k (Start n to size r) b h refl)
line_of members cut whole id t k ls bs (Next n) b later h = next_of members cut whole id n t k ls bs b later h (n == id) refl
line_of members cut whole id t k ls bs (Close n) b later h = close_of members id n t k ls bs b later h (n == id) refl

pub pages_claimed : {X : Type 0} (members : Answer → List X) → IsCut members → IsWhole members
    → (id : ℕ) (ls : List Line) (bs : List Block) → Later members id ls bs
pages_claimed members cut whole id [] bs t k h = nothing members k
pages_claimed members cut whole id (l ∷ ls) [] t k h = nothing members k
pages_claimed members cut whole id (l ∷ ls) (b ∷ bs) t k h =
    subst (λ o. Claimed members k (printed_by id l o (pages_of id (after_line l b t) ls bs))) (sym h)
    (line_of members cut whole id t k ls bs l b (pages_claimed members cut whole id ls bs) h)

pub pages_are_a_prefix : PagesAreAPrefix
pages_are_a_prefix id t k ls bs h =
    ((pages_claimed infos_of infos_cut infos_whole id ls bs t k h).0, (pages_claimed subs_of subs_cut subs_whole id ls bs t k h).0)

pub pages_are_all : PagesAreAll
pages_are_all id t k ls bs h last =
    ((pages_claimed infos_of infos_cut infos_whole id ls bs t k h).1 last, (pages_claimed subs_of subs_cut subs_whole id ls bs t k h).1 last)
