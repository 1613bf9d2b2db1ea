-- What pages of one start are, whatever lines come between.
use Rattle.std.specs.Prelude.{◌≡◌, map, ℕ, ◌<◌, ◌==◌, Bool, true, false, if◌then◌else◌, List, [], ◌∷◌, ◌++◌}
use Rattle.std.specs.List.{flat_map}
use Rattle.std.specs.declared.option.Option.{Option}
use Rattle.std.specs.declared.option.Option.TheVariants.{None, Some}
use Rattle.x5_model.specs.Answers.{EntryInfo, Sub, Answer, Listed, Found}
use Rattle.x5_model_run.specs.Run.{Command, Block}
use Rattle.x5_model_output.specs.Output.{Names, blocks_text}
use Rattle.x5_model_pages.specs.Pages.{Kept, Table, Page, page_of, kept_at, count_of}
use Rattle.x5_model_pages.specs.Lines.{Line, Plain, Next, Close, after_line, commands_of, lines_text}

-- the members of an answer, one after another
abbrev pub infos_of : Answer → List EntryInfo
infos_of (Found infos sources o) = infos
infos_of a = []

abbrev pub subs_of : Answer → List Sub
subs_of (Listed subs sources o) = subs
subs_of a = []

-- the pages that lines print of what is kept by a number, up to the last one or to where it's closed
abbrev pub unless_last : Page → List Page → List Page
unless_last p later = p ∷ (if p.more then later else [])

abbrev pub printed_by : ℕ → Line → Option Kept → List Page → List Page
printed_by id (Next other) (Some k) later = if other == id then unless_last (page_of k.size k.left) later else later
printed_by id (Close other) (Some k) later = if other == id then [] else later
printed_by id line None later = []
printed_by id line (Some k) later = later

abbrev pub pages_of : ℕ → Table → List Line → List Block → List Page
pages_of id t [] bs = []
pages_of id t (l ∷ ls) [] = []
pages_of id t (l ∷ ls) (b ∷ bs) = printed_by id l (kept_at id t) (pages_of id (after_line l b t) ls bs)

abbrev pub all_infos : List Page → List EntryInfo
all_infos pages = flat_map (λ p. infos_of p.part) pages

abbrev pub all_subs : List Page → List Sub
all_subs pages = flat_map (λ p. subs_of p.part) pages

abbrev pub last_said : List Page → Bool
last_said [] = false
last_said (p ∷ []) = if p.more then false else true
last_said (p ∷ q ∷ ps) = last_said (q ∷ ps)

abbrev pub IsPrefix : {X : Type 0} → List X → List X → Type 0
IsPrefix {X} xs ys = (zs : List X) × (ys ≡ xs ++ zs)

-- 1. They're a first part of what is kept,
abbrev pub PagesAreAPrefix : Type 0
PagesAreAPrefix = (id : ℕ) (t : Table) (k : Kept) (ls : List Line) (bs : List Block) → kept_at id t ≡ Some k
    → IsPrefix (all_infos (pages_of id t ls bs)) (infos_of k.left) × IsPrefix (all_subs (pages_of id t ls bs)) (subs_of k.left)

-- 2. all of it where the last one said so,
abbrev pub PagesAreAll : Type 0
PagesAreAll = (id : ℕ) (t : Table) (k : Kept) (ls : List Line) (bs : List Block) → kept_at id t ≡ Some k
    → last_said (pages_of id t ls bs) ≡ true
    → (all_infos (pages_of id t ls bs) ≡ infos_of k.left) × (all_subs (pages_of id t ls bs) ≡ subs_of k.left)

-- 3. and a page with more behind it is full, with a member left at least.
abbrev pub MoreIsMore : Type 0
MoreIsMore = (size : ℕ) (a : Answer) → (page_of size a).more ≡ true → (count_of (page_of size a).part ≡ size) × (size < count_of a)

-- 4. Where no line speaks of pages, the agents are asked what the lines say, and what is printed is what a run prints:
-- so, however its blocks are judged, `PrintsPaged` is `PrintsRun`.
abbrev pub PlainIsRun : Type 0
PlainIsRun =
    ((commands : List Command) (blocks : List Block) → commands_of [] (map Plain commands) blocks ≡ commands)
    × ((names : Names) (n : ℕ) (commands : List Command) (blocks : List Block)
    → lines_text names n [] (map Plain commands) blocks ≡ blocks_text names n commands blocks)
