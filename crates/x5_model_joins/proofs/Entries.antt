-- What the sources of two answers tell together is the merge of what each tells: entries of both are apart by their
-- keys, so a filter of their union is the merge of the filters.
use Rattle.std.proofs.Common.{◌≡◌, ℕ, ◌+◌, Bool, true, false, not, ◌&&◌, ◌||◌, inl, inr, List, [], ◌∷◌, ◌++◌, length, refl, sym, ap, subst, ◌∙◌, Option, None}
use Rattle.std.specs.List.{filter}
use Rattle.std.specs.Option.{is_none}
use Rattle.x5_model.specs.Words.{ascending}
use Rattle.x5_model.specs.Members.{In}
use Rattle.x5_model.specs.Keys.{Key, same_key, is_prefix, is_child, is_root, parent}
use Rattle.x5_model.specs.Values.{Name, key_of, last_rdn}
use Rattle.x5_model.specs.Entries.{Named}
use Rattle.x5_model.specs.Filters.{Filter}
use Rattle.x5_model.specs.Truth.{selects_entry}
use Rattle.x5_model.specs.Requests.{Subset, Selection, Controls, Body, ListBelow, Search, Request}
use Rattle.x5_model.specs.Selections.{shown}
use Rattle.x5_model.specs.References.{Chained}
use Rattle.x5_model.specs.Answers.{EntryInfo, Sub, Source, Answer, EntryFound, Matched, Listed, Found, Changed}
use Rattle.x5_model.specs.Statics.{fault_of}
use Rattle.x5_model.proofs.KeyLaws.{key_decides, below_chain}
use Rattle.x5_model.proofs.Prefixes.{child_decides, parent_length}
use Rattle.x5_model.proofs.Lists.{both_true, and_true, either_true, or_left, or_right, true_or_false, any_in, of_any, in_left}
use Rattle.x5_model.proofs.Ascending.{AllApart, of_sorted, in_sorted, sorted_ascending}
use Rattle.x5_model_tree.specs.Tree.{Tree, key_at, named_below, sorted_entries, is_there, is_there_or_root}
use Rattle.x5_model_tree.specs.Ask.{Told, Lists, Finds, Refuses, rest_of, sources_of, in_subset, limited, is_cut, info_of, sub_of, limited_list, limited_found}
use Rattle.x5_model_tree.proofs.Order.{named_chain}
use Rattle.x5_model_run.specs.Journal.{is_done, is_wide, same_name}
use Rattle.x5_model_run.specs.History.{Point}
use Rattle.x5_model_run.specs.Chain.{part_request, part_subset}
use Rattle.x5_model_run.specs.Covers.{mixed, is_copied, told}
use Rattle.x5_model_run.specs.Needs.{target_of}
use Rattle.x5_model_run.specs.Placed.{fits, is_query_below}
use Rattle.x5_model_parts.specs.Standing.{Stands}
use Rattle.x5_model_parts.specs.Parts.{asks_for}
use Rattle.x5_model_parts.proofs.Asking.{false_true}
use Rattle.x5_model_serve.specs.Answering.{before_sub, before_info, is_in_order, joined, unlimited, merged, limited_answer}
use Rattle.x5_model_joins.specs.Joins.{AreParts, ToldInOrder, JoinsEntries, JoinsLimited, LimitsBefore}
use Rattle.x5_model_joins.proofs.Joined.{apart_ascending}
use Rattle.x5_model_joins.proofs.Showing.{siblings_alike, shown_of, shown_in_order, joins_shown}
use Rattle.x5_model_joins.proofs.Limits.{limited_twice, cut_once, limited_ascending, limited_before, flags_before}
use Rattle.x5_model_joins.proofs.Telling.{list_picks, told_list, answers_list, list_told, list_refused, search_picks, told_search, answers_search, search_told, search_refused}
use Rattle.x5_model_joins.proofs.Sources.{entries_of, entries_joined, left_parts, right_parts, of_source, across_sources, apart_sources, left_marks, right_marks}

-- ---- what a list or search may tell at all

abbrev fits_list : Told → Bool
fits_list (Lists subs cut) = true
fits_list (Refuses x) = true
fits_list other = false

abbrev fits_search : Told → Bool
fits_search (Finds infos cut) = true
fits_search (Refuses x) = true
fits_search other = false

all_list : (d w : Bool) (copies : Key → Bool) (t : Tree) (c : Controls) (name : Name) → AllApart named_below t.entries → fits_list (told_list d w copies t c name) ≡ true
all_list d w copies t c name a = elim (true_or_false (answers_list d t.entries name)) [
  | inl p ↦ ap fits_list (list_told d w copies t c name name refl a p)
  | inr p ↦ ap fits_list (list_refused d w copies t c name p).1
]

all_search : (d w : Bool) (copies : Key → Bool) (t : Tree) (c : Controls) (base : Name) (s : Subset) (f : Filter) (sel : Selection) → fits_search (told_search d w copies t c base s f sel) ≡ true
all_search d w copies t c base s f sel = elim (true_or_false (answers_search d w t.entries base s f sel)) [
  | inl p ↦ ap fits_search (search_told d w copies t c base base s f sel refl p)
  | inr p ↦ ap fits_search (search_refused d w copies t c base s f sel p).1
]

-- what it told, it answers
list_answers : (d w : Bool) (copies : Key → Bool) (t : Tree) (c : Controls) (name : Name) (subs : List Sub) (cut : Bool) → Lists subs cut ≡ told_list d w copies t c name → answers_list d t.entries name ≡ true
list_answers d w copies t c name subs cut e = elim (true_or_false (answers_list d t.entries name)) [
  | inl p ↦ p
  | inr p ↦ (let x = list_refused d w copies t c name p in let wrong : Lists subs cut ≡ Refuses x.0 = e ∙ x.1 in cc)
]

search_answers : (d w : Bool) (copies : Key → Bool) (t : Tree) (c : Controls) (base : Name) (s : Subset) (f : Filter) (sel : Selection) (infos : List EntryInfo) (cut : Bool)
    → Finds infos cut ≡ told_search d w copies t c base s f sel → answers_search d w t.entries base s f sel ≡ true
search_answers d w copies t c base s f sel infos cut e = elim (true_or_false (answers_search d w t.entries base s f sel)) [
  | inl p ↦ p
  | inr p ↦ (let x = search_refused d w copies t c base s f sel p in let wrong : Finds infos cut ≡ Refuses x.0 = e ∙ x.1 in cc)
]

-- the base is still there among more entries
there_more : (es fs : List Named) (k : Key) → ((e : Named) → In e es → In e fs) → is_there_or_root es k ≡ true → is_there_or_root fs k ≡ true
there_more es fs k f h = elim (either_true (is_root k) (is_there es k) h) [
  | inl p ↦ or_left (is_root k) (is_there fs k) p
  | inr p ↦ (let w = of_any (λ (e : Named). same_key (key_at e) k) es p in or_right (is_root k) (is_there fs k) (any_in (λ (e : Named). same_key (key_at e) k) w.0 fs (f w.0 w.1) w.2))
]

more_list : (d : Bool) (es fs : List Named) (name : Name) → ((e : Named) → In e es → In e fs) → answers_list d es name ≡ true → answers_list d fs name ≡ true
more_list true es fs name f h = refl
more_list false es fs name f h =
    let b = both_true (is_none (fault_of (ListBelow name))) (is_there_or_root es (key_of name)) h in
    and_true (is_none (fault_of (ListBelow name))) (is_there_or_root fs (key_of name)) b.0 (there_more es fs (key_of name) f b.1)

more_search : (d w : Bool) (es fs : List Named) (base : Name) (s : Subset) (f : Filter) (sel : Selection) → ((e : Named) → In e es → In e fs)
    → answers_search d w es base s f sel ≡ true → answers_search d w fs base s f sel ≡ true
more_search d w es fs base s f sel g h = elim (either_true (d && w) (is_none (fault_of (Search base s f sel)) && is_there_or_root es (key_of base)) h) [
  | inl p ↦ or_left (d && w) (is_none (fault_of (Search base s f sel)) && is_there_or_root fs (key_of base)) p
  | inr p ↦ (let b = both_true (is_none (fault_of (Search base s f sel))) (is_there_or_root es (key_of base)) p in
      or_right (d && w) (is_none (fault_of (Search base s f sel)) && is_there_or_root fs (key_of base))
      (and_true (is_none (fault_of (Search base s f sel))) (is_there_or_root fs (key_of base)) b.0 (there_more es fs (key_of base) g b.1)))
]

-- ---- the order of what is shown

abbrev pub sub_key : Sub → Key
sub_key x = key_of (x.rdn ∷ [])

abbrev pub info_key : EntryInfo → Key
info_key x = key_of x.name

child_order : (copies : Key → Bool) (k : Key) (d e : Named) → is_child k (key_at d) ≡ true → is_child k (key_at e) ≡ true → before_sub (sub_of copies d) (sub_of copies e) ≡ named_below d e
child_order copies k d e p q =
    let x = (child_decides k (key_at d)).0 p in
    let y = (child_decides k (key_at e)).0 q in
    let up : parent (key_at d) ≡ parent (key_at e) = x.1 ∙ sym y.1 in
    let a : length (parent (key_at d)) + 1 ≡ length (key_at d) = parent_length (key_at d) x.0 in
    let b : length (parent (key_at e)) + 1 ≡ length (key_at e) = parent_length (key_at e) y.0 in
    siblings_alike d.name e.name (sym a ∙ ap (λ (z : Key). length z + 1) up ∙ b) up

own_order : (copies : Key → Bool) (k : Key) (d e : Named) → same_key k (key_at d) ≡ true → same_key k (key_at e) ≡ true → before_sub (sub_of copies d) (sub_of copies e) ≡ named_below d e
own_order copies k d e p q =
    let same : key_at d ≡ key_at e = sym ((key_decides k (key_at d)).0 p) ∙ (key_decides k (key_at e)).0 q in
    siblings_alike d.name e.name (ap length same) (ap parent same)

pub list_order : (d w : Bool) (target : Name) (copies : Key → Bool) (x y : Named) → list_picks d w target x ≡ true → list_picks d w target y ≡ true → before_sub (sub_of copies x) (sub_of copies y) ≡ named_below x y
list_order true true target copies x y p q = child_order copies (key_of target) x y p q
list_order true false target copies x y p q = own_order copies (key_of target) x y p q
list_order false w target copies x y p q = child_order copies (key_of target) x y p q

-- ---- parts of what is told

abbrev subs_in : Told → List Sub
subs_in (Lists subs cut) = subs
subs_in other = []

abbrev infos_in : Told → List EntryInfo
infos_in (Finds infos cut) = infos
infos_in other = []

abbrev cut_in : Told → Bool
cut_in (Lists subs cut) = cut
cut_in (Finds infos cut) = cut
cut_in other = false

lists_subs : (xs ys : List Sub) (a b : Bool) → Lists xs a ≡ Lists ys b → xs ≡ ys
lists_subs xs ys a b e = ap subs_in e

lists_cut : (xs ys : List Sub) (a b : Bool) → Lists xs a ≡ Lists ys b → a ≡ b
lists_cut xs ys a b e = ap cut_in e

finds_infos : (xs ys : List EntryInfo) (a b : Bool) → Finds xs a ≡ Finds ys b → xs ≡ ys
finds_infos xs ys a b e = ap infos_in e

finds_cut : (xs ys : List EntryInfo) (a b : Bool) → Finds xs a ≡ Finds ys b → a ≡ b
finds_cut xs ys a b e = ap cut_in e

or_none : (a b : Bool) → b ≡ false → (a || b) ≡ a
or_none true b e = refl
or_none false b e = e

twice : {X : Type 0} (size : Option ℕ) (a : Bool) (xs : List X) → ((a || is_cut size xs) || is_cut size (limited size xs)) ≡ (a || is_cut size xs)
twice size a xs = or_none (a || is_cut size xs) (is_cut size (limited size xs)) (cut_once size xs)

-- ---- the entries of a mixed tree

pub sorted_apart : (es : List Named) → AllApart named_below es → AllApart named_below (sorted_entries es)
sorted_apart es a = apart_ascending named_below named_chain (sorted_entries es) (sorted_ascending named_below named_chain es a)

module _ (p : Point) (stands : Stands p) (xs ys : List Source) (parts : AreParts p (xs ++ ys)) where
  apart_left : AllApart named_below (entries_of p xs)
  apart_left = apart_sources p stands xs (left_parts p xs ys parts)

  apart_right : AllApart named_below (entries_of p ys)
  apart_right = apart_sources p stands ys (right_parts p xs ys parts)

  apart_both : AllApart named_below (entries_of p (xs ++ ys))
  apart_both = apart_sources p stands (xs ++ ys) parts

  into_both : (e : Named) → In e (mixed p xs).entries → In e (mixed p (xs ++ ys)).entries
  into_both e i =
      in_sorted named_below e (entries_of p (xs ++ ys)) (subst (λ (es : List Named). In e es) (sym (entries_joined p xs ys)) (in_left e (entries_of p xs) (entries_of p ys) (of_sorted named_below e (entries_of p xs) i)))

  -- lists
  join_listed : (d w v u : Bool) (c : Controls) (name target base : Name) (b : Controls) → key_of name ≡ key_of target → b.size ≡ None
      → ((e : Named) → In e (entries_of p ys) → list_picks v u base e ≡ list_picks d w target e)
      → (subs more : List Sub) (cut short : Bool) → ascending before_sub subs ≡ true
      → Lists (limited c.size subs) (cut || is_cut c.size subs) ≡ told_list d w (is_copied p xs) (mixed p xs) c name
      → Lists more short ≡ told_list v u (is_copied p ys) (mixed p ys) b base
      → (ascending before_sub (joined before_sub subs more) ≡ true)
      × (Lists (limited c.size (joined before_sub subs more)) ((cut || short) || is_cut c.size (joined before_sub subs more)) ≡ told_list d w (is_copied p (xs ++ ys)) (mixed p (xs ++ ys)) c name)
  join_listed d w v u c name target base b same none picks subs more cut short order one two =
      let yes = list_answers d w (is_copied p xs) (mixed p xs) c name (limited c.size subs) (cut || is_cut c.size subs) one in
      let one_is = one ∙ list_told d w (is_copied p xs) (mixed p xs) c name target same (sorted_apart (entries_of p xs) apart_left) yes in
      let first : limited c.size subs ≡ limited c.size (shown_of (sub_of (is_copied p xs)) (list_picks d w target) (entries_of p xs)) = lists_subs _ _ _ _ one_is in
      let flag : (cut || is_cut c.size subs) ≡ is_cut c.size (filter (list_picks d w target) (sorted_entries (entries_of p xs))) = lists_cut _ _ _ _ one_is in
      let two_is = two ∙ list_told v u (is_copied p ys) (mixed p ys) b base base refl (sorted_apart (entries_of p ys) apart_right) (list_answers v u (is_copied p ys) (mixed p ys) b base more short two)
      ∙ ap (λ (o : Option ℕ). limited_list (is_copied p ys) o (filter (list_picks v u base) (mixed p ys).entries)) none in
      let rest : more ≡ shown_of (sub_of (is_copied p ys)) (list_picks v u base) (entries_of p ys) = lists_subs _ _ _ _ two_is in
      let whole_part : short ≡ false = lists_cut _ _ _ _ two_is in
      let j = joins_shown sub_key (sub_of (is_copied p xs)) (sub_of (is_copied p ys)) (sub_of (is_copied p (xs ++ ys))) (list_picks d w target) (list_picks v u base) (entries_of p xs) (entries_of p ys)
      apart_left apart_right (across_sources p stands xs ys parts) picks
      (λ e i. ap (λ (x : Bool). record { rdn = last_rdn e.name; copy = x }) (left_marks p stands xs ys parts e i))
      (λ e i. ap (λ (x : Bool). record { rdn = last_rdn e.name; copy = x }) (right_marks p stands xs ys parts e i))
      (list_order d w target (is_copied p xs)) (list_order v u base (is_copied p ys)) (list_order d w target (is_copied p (xs ++ ys))) c.size cut subs order first flag in
      let all = list_told d w (is_copied p (xs ++ ys)) (mixed p (xs ++ ys)) c name target same (sorted_apart (entries_of p (xs ++ ys)) apart_both)
      (more_list d (mixed p xs).entries (mixed p (xs ++ ys)).entries name into_both yes) in
      let list : limited c.size (joined before_sub subs more) ≡ limited c.size (shown_of (sub_of (is_copied p (xs ++ ys))) (list_picks d w target) (entries_of p (xs ++ ys))) =
      ap (λ (zs : List Sub). limited c.size (joined before_sub subs zs)) rest ∙ j.1 ∙ ap (λ (es : List Named). limited c.size (shown_of (sub_of (is_copied p (xs ++ ys))) (list_picks d w target) es)) (sym (entries_joined p xs ys)) in
      let cuts : ((cut || short) || is_cut c.size (joined before_sub subs more)) ≡ is_cut c.size (filter (list_picks d w target) (sorted_entries (entries_of p (xs ++ ys)))) =
      ap (λ (z : Bool). z || is_cut c.size (joined before_sub subs more)) (or_none cut short whole_part)
      ∙ ap (λ (zs : List Sub). cut || is_cut c.size (joined before_sub subs zs)) rest ∙ j.2 ∙ ap (λ (es : List Named). is_cut c.size (filter (list_picks d w target) (sorted_entries es))) (sym (entries_joined p xs ys)) in (
        subst (λ (zs : List Sub). ascending before_sub (joined before_sub subs zs) ≡ true) (sym rest) j.0,
        (λ i. Lists (list i) (cuts i)) ∙ sym all,
      )

  -- searches
  join_found : (d w v u : Bool) (c : Controls) (name target base : Name) (b : Controls) (s t : Subset) (f : Filter) (sel : Selection) → key_of name ≡ key_of target → b.size ≡ None
      → ((e : Named) → In e (entries_of p ys) → in_subset t (key_of base) (key_at e) ≡ in_subset s (key_of target) (key_at e))
      → (infos more : List EntryInfo) (cut short : Bool) → ascending before_info infos ≡ true
      → Finds (limited c.size infos) (cut || is_cut c.size infos) ≡ told_search d w (is_copied p xs) (mixed p xs) c name s f sel
      → Finds more short ≡ told_search v u (is_copied p ys) (mixed p ys) b base t f sel
      → (ascending before_info (joined before_info infos more) ≡ true)
      × (Finds (limited c.size (joined before_info infos more)) ((cut || short) || is_cut c.size (joined before_info infos more)) ≡ told_search d w (is_copied p (xs ++ ys)) (mixed p (xs ++ ys)) c name s f sel)
  join_found d w v u c name target base b s t f sel same none picks infos more cut short order one two =
      let yes = search_answers d w (is_copied p xs) (mixed p xs) c name s f sel (limited c.size infos) (cut || is_cut c.size infos) one in
      let one_is = one ∙ search_told d w (is_copied p xs) (mixed p xs) c name target s f sel same yes in
      let first : limited c.size infos ≡ limited c.size (shown_of (info_of (is_copied p xs) sel) (search_picks target s f) (entries_of p xs)) = finds_infos _ _ _ _ one_is in
      let flag : (cut || is_cut c.size infos) ≡ is_cut c.size (filter (search_picks target s f) (sorted_entries (entries_of p xs))) = finds_cut _ _ _ _ one_is in
      let two_is = two ∙ search_told v u (is_copied p ys) (mixed p ys) b base base t f sel refl (search_answers v u (is_copied p ys) (mixed p ys) b base t f sel more short two)
      ∙ ap (λ (o : Option ℕ). limited_found (is_copied p ys) o sel (filter (search_picks base t f) (mixed p ys).entries)) none in
      let rest : more ≡ shown_of (info_of (is_copied p ys) sel) (search_picks base t f) (entries_of p ys) = finds_infos _ _ _ _ two_is in
      let whole_part : short ≡ false = finds_cut _ _ _ _ two_is in
      let j = joins_shown info_key (info_of (is_copied p xs) sel) (info_of (is_copied p ys) sel) (info_of (is_copied p (xs ++ ys)) sel) (search_picks target s f) (search_picks base t f) (entries_of p xs) (entries_of p ys)
      apart_left apart_right (across_sources p stands xs ys parts) (λ e i. ap (λ (z : Bool). z && selects_entry f e.entry) (picks e i))
      (λ e i. ap (λ (x : Bool). record { name = e.name; copy = x; attributes = shown sel e.entry }) (left_marks p stands xs ys parts e i))
      (λ e i. ap (λ (x : Bool). record { name = e.name; copy = x; attributes = shown sel e.entry }) (right_marks p stands xs ys parts e i))
      (λ x y h k. refl) (λ x y h k. refl) (λ x y h k. refl) c.size cut infos order first flag in
      let all = search_told d w (is_copied p (xs ++ ys)) (mixed p (xs ++ ys)) c name target s f sel same
      (more_search d w (mixed p xs).entries (mixed p (xs ++ ys)).entries name s f sel into_both yes) in
      let list : limited c.size (joined before_info infos more) ≡ limited c.size (shown_of (info_of (is_copied p (xs ++ ys)) sel) (search_picks target s f) (entries_of p (xs ++ ys))) =
      ap (λ (zs : List EntryInfo). limited c.size (joined before_info infos zs)) rest ∙ j.1 ∙ ap (λ (es : List Named). limited c.size (shown_of (info_of (is_copied p (xs ++ ys)) sel) (search_picks target s f) es)) (sym (entries_joined p xs ys)) in
      let cuts : ((cut || short) || is_cut c.size (joined before_info infos more)) ≡ is_cut c.size (filter (search_picks target s f) (sorted_entries (entries_of p (xs ++ ys)))) =
      ap (λ (z : Bool). z || is_cut c.size (joined before_info infos more)) (or_none cut short whole_part)
      ∙ ap (λ (zs : List EntryInfo). cut || is_cut c.size (joined before_info infos zs)) rest ∙ j.2 ∙ ap (λ (es : List Named). is_cut c.size (filter (search_picks target s f) (sorted_entries es))) (sym (entries_joined p xs ys)) in (
        subst (λ (zs : List EntryInfo). ascending before_info (joined before_info infos zs) ≡ true) (sym rest) j.0,
        (λ i. Finds (list i) (cuts i)) ∙ sym all,
      )

-- ---- two answers

abbrev pub alike : Answer → Answer → Bool
alike (Listed subs xs o) (Listed more ys q) = true
alike (Found infos xs o) (Found more ys q) = true
alike x y = false

abbrev with_body : Chained → Controls → Body → Chained
with_body m c b = record m { request = record { controls = c; body = b } }

abbrev as_part : Chained → Bool → Bool → Controls → Body → Chained
as_part n user wide c b = record n { request = part_request user wide n.target (record { controls = c; body = b }) }

abbrev Result : Point → Chained → Answer → Type 0
Result p m x = (is_in_order x ≡ true) × (rest_of (limited_answer m.request.controls.size x) ≡ told (is_copied p (sources_of x)) (mixed p (sources_of x)) m)

target_is : (m : Chained) (c : Controls) (b : Body) → fits (with_body m c b) ≡ true → key_of (target_of b) ≡ key_of m.target
target_is m c b h = (key_decides (key_of (target_of b)) (key_of m.target)).0 (both_true (same_name (target_of b) m.target) (not (is_done m.progress) || is_query_below b) h).0

module _ (p : Point) (m n : Chained) (user wide : Bool) (c : Controls) (stands : Stands p) where
  abbrev Same : Body → List Source → Type 0
  Same b sources = (x : Source) (e : Key) → In x sources → is_prefix (key_of x.context) e ≡ true → asks_for (as_part n user wide c b) e ≡ asks_for (with_body m c b) e

  same_at : (b : Body) (xs ys : List Source) → AreParts p (xs ++ ys) → Same b ys → (e : Named) → In e (entries_of p ys) → asks_for (as_part n user wide c b) (key_at e) ≡ asks_for (with_body m c b) (key_at e)
  same_at b xs ys parts same e i = let w = of_source p stands ys (right_parts p xs ys parts) e i in same w.0 (key_at e) w.1 w.3

  joins_by : (b : Body) (x y : Answer) → is_query_below b ≡ true → fits (with_body m c b) ≡ true → AreParts p (sources_of x ++ sources_of y) → Same b (sources_of y) → is_in_order x ≡ true
      → rest_of (limited_answer c.size x) ≡ told (is_copied p (sources_of x)) (mixed p (sources_of x)) (with_body m c b)
      → rest_of y ≡ told (is_copied p (sources_of y)) (mixed p (sources_of y)) (as_part n user wide c b)
      → Result p (with_body m c b) (merged x y)
  joins_by (ListBelow name) (Listed subs xs o) (Listed more ys q) query fit parts same order one two =
      join_listed p stands xs ys parts (is_done m.progress) (is_wide m.kind) (is_done n.progress) (is_wide n.kind) c name m.target n.target (part_request user wide n.target (record { controls = c; body = ListBelow name })).controls
      (target_is m c (ListBelow name) fit) refl (same_at (ListBelow name) xs ys parts same) subs more o.limited q.limited order one two
  joins_by (ListBelow name) (Listed subs xs o) y query fit parts same order one two =
      absurd (false_true (ap fits_list two ∙ all_list (is_done n.progress) (is_wide n.kind) (is_copied p (sources_of y)) (mixed p (sources_of y)) (part_request user wide n.target (record { controls = c; body = ListBelow name })).controls n.target
      (sorted_apart (entries_of p (sources_of y)) (apart_sources p stands (sources_of y) (right_parts p xs (sources_of y) parts)))))
  joins_by (ListBelow name) x y query fit parts same order one two =
      absurd (false_true (ap fits_list one ∙ all_list (is_done m.progress) (is_wide m.kind) (is_copied p (sources_of x)) (mixed p (sources_of x)) c name
      (sorted_apart (entries_of p (sources_of x)) (apart_sources p stands (sources_of x) (left_parts p (sources_of x) (sources_of y) parts)))))
  joins_by (Search base s f sel) (Found infos xs o) (Found more ys q) query fit parts same order one two =
      join_found p stands xs ys parts (is_done m.progress) (is_wide m.kind) (is_done n.progress) (is_wide n.kind) c base m.target n.target (part_request user wide n.target (record { controls = c; body = Search base s f sel })).controls
      s (part_subset wide s) f sel (target_is m c (Search base s f sel) fit) refl (same_at (Search base s f sel) xs ys parts same) infos more o.limited q.limited order one two
  joins_by (Search base s f sel) (Found infos xs o) y query fit parts same order one two =
      absurd (false_true (ap fits_search two ∙ all_search (is_done n.progress) (is_wide n.kind) (is_copied p (sources_of y)) (mixed p (sources_of y)) (part_request user wide n.target (record { controls = c; body = Search base s f sel })).controls n.target (part_subset wide s) f sel))
  joins_by (Search base s f sel) x y query fit parts same order one two =
      absurd (false_true (ap fits_search one ∙ all_search (is_done m.progress) (is_wide m.kind) (is_copied p (sources_of x)) (mixed p (sources_of x)) c base s f sel))
  joins_by b x y query fit parts same order one two = absurd (false_true query)

  -- and both are lists, or both searches
  pub both_alike : (b : Body) (x y : Answer) → is_query_below b ≡ true → AreParts p (sources_of x) → AreParts p (sources_of y)
      → rest_of (limited_answer c.size x) ≡ told (is_copied p (sources_of x)) (mixed p (sources_of x)) (with_body m c b)
      → rest_of y ≡ told (is_copied p (sources_of y)) (mixed p (sources_of y)) (as_part n user wide c b)
      → alike x y ≡ true
  both_alike (ListBelow name) (Listed subs xs o) (Listed more ys q) query left right one two = refl
  both_alike (ListBelow name) (Listed subs xs o) y query left right one two =
      absurd (false_true (ap fits_list two ∙ all_list (is_done n.progress) (is_wide n.kind) (is_copied p (sources_of y)) (mixed p (sources_of y)) (part_request user wide n.target (record { controls = c; body = ListBelow name })).controls n.target
      (sorted_apart (entries_of p (sources_of y)) (apart_sources p stands (sources_of y) right))))
  both_alike (ListBelow name) x y query left right one two =
      absurd (false_true (ap fits_list one ∙ all_list (is_done m.progress) (is_wide m.kind) (is_copied p (sources_of x)) (mixed p (sources_of x)) c name
      (sorted_apart (entries_of p (sources_of x)) (apart_sources p stands (sources_of x) left))))
  both_alike (Search base s f sel) (Found infos xs o) (Found more ys q) query left right one two = refl
  both_alike (Search base s f sel) (Found infos xs o) y query left right one two =
      absurd (false_true (ap fits_search two ∙ all_search (is_done n.progress) (is_wide n.kind) (is_copied p (sources_of y)) (mixed p (sources_of y)) (part_request user wide n.target (record { controls = c; body = Search base s f sel })).controls n.target (part_subset wide s) f sel))
  both_alike (Search base s f sel) x y query left right one two =
      absurd (false_true (ap fits_search one ∙ all_search (is_done m.progress) (is_wide m.kind) (is_copied p (sources_of x)) (mixed p (sources_of x)) c base s f sel))
  both_alike b x y query left right one two = absurd (false_true query)

pub told_alike : (p : Point) (m n : Chained) (user wide : Bool) (a c : Answer) → Stands p → AreParts p (sources_of a) → AreParts p (sources_of c) → is_query_below m.request.body ≡ true → n.request ≡ part_request user wide n.target m.request
    → rest_of (limited_answer m.request.controls.size a) ≡ told (is_copied p (sources_of a)) (mixed p (sources_of a)) m
    → rest_of c ≡ told (is_copied p (sources_of c)) (mixed p (sources_of c)) n → alike a c ≡ true
told_alike p m n user wide a c stands left right query is one two =
    both_alike p m n user wide m.request.controls stands m.request.body a c query left right one
    (subst (λ (k : Chained). rest_of c ≡ told (is_copied p (sources_of c)) (mixed p (sources_of c)) k) (ap (λ (r : Request). record n { request = r }) is) two)

pub joins_limited : JoinsLimited
joins_limited p m n a c stands parts fit query asks order one two =
    joins_by p m n asks.by_user asks.wide m.request.controls stands m.request.body a c query fit parts
    (λ x e i h. subst (λ (k : Chained). asks_for k e ≡ asks_for m e) is (asks.same x e i h)) order one
    (subst (λ (k : Chained). rest_of c ≡ told (is_copied p (sources_of c)) (mixed p (sources_of c)) k) is two)
  where
    is : n ≡ as_part n asks.by_user asks.wide m.request.controls m.request.body
    is = ap (λ (r : Request). record n { request = r }) asks.request_is

-- ---- what is told is in order

module _ (p : Point) (stands : Stands p) (xs : List Source) (parts : AreParts p xs) where
  listed_ordered : (d w : Bool) (c : Controls) (name : Name) (subs : List Sub) (cut : Bool) → Lists subs cut ≡ told_list d w (is_copied p xs) (mixed p xs) c name → ascending before_sub subs ≡ true
  listed_ordered d w c name subs cut e =
      let apart = apart_sources p stands xs parts in
      let is = e ∙ list_told d w (is_copied p xs) (mixed p xs) c name name refl (sorted_apart (entries_of p xs) apart) (list_answers d w (is_copied p xs) (mixed p xs) c name subs cut e) in
      let list : subs ≡ limited c.size (shown_of (sub_of (is_copied p xs)) (list_picks d w name) (entries_of p xs)) = lists_subs _ _ _ _ is in
      subst (λ (zs : List Sub). ascending before_sub zs ≡ true) (sym list)
      (limited_ascending before_sub (λ x y z h k. below_chain (sub_key x) (sub_key y) (sub_key z) h k) c.size (shown_of (sub_of (is_copied p xs)) (list_picks d w name) (entries_of p xs))
      (shown_in_order sub_key (sub_of (is_copied p xs)) (list_picks d w name) (entries_of p xs) apart (list_order d w name (is_copied p xs))))

  found_ordered : (d w : Bool) (c : Controls) (base : Name) (s : Subset) (f : Filter) (sel : Selection) (infos : List EntryInfo) (cut : Bool)
      → Finds infos cut ≡ told_search d w (is_copied p xs) (mixed p xs) c base s f sel → ascending before_info infos ≡ true
  found_ordered d w c base s f sel infos cut e =
      let apart = apart_sources p stands xs parts in
      let is = e ∙ search_told d w (is_copied p xs) (mixed p xs) c base base s f sel refl (search_answers d w (is_copied p xs) (mixed p xs) c base s f sel infos cut e) in
      let list : infos ≡ limited c.size (shown_of (info_of (is_copied p xs) sel) (search_picks base s f) (entries_of p xs)) = finds_infos _ _ _ _ is in
      subst (λ (zs : List EntryInfo). ascending before_info zs ≡ true) (sym list)
      (limited_ascending before_info (λ x y z h k. below_chain (info_key x) (info_key y) (info_key z) h k) c.size (shown_of (info_of (is_copied p xs) sel) (search_picks base s f) (entries_of p xs))
      (shown_in_order info_key (info_of (is_copied p xs) sel) (search_picks base s f) (entries_of p xs) apart (λ x y h k. refl)))

ordered_by : (p : Point) (m : Chained) (c : Controls) → Stands p → (b : Body) (x : Answer) → is_query_below b ≡ true → AreParts p (sources_of x)
    → rest_of x ≡ told (is_copied p (sources_of x)) (mixed p (sources_of x)) (with_body m c b) → is_in_order x ≡ true
ordered_by p m c stands (ListBelow name) (Listed subs xs o) query parts e = listed_ordered p stands xs parts (is_done m.progress) (is_wide m.kind) c name subs o.limited e
ordered_by p m c stands (ListBelow name) x query parts e =
    absurd (false_true (ap fits_list e ∙ all_list (is_done m.progress) (is_wide m.kind) (is_copied p (sources_of x)) (mixed p (sources_of x)) c name (sorted_apart (entries_of p (sources_of x)) (apart_sources p stands (sources_of x) parts))))
ordered_by p m c stands (Search base s f sel) (Found infos xs o) query parts e = found_ordered p stands xs parts (is_done m.progress) (is_wide m.kind) c base s f sel infos o.limited e
ordered_by p m c stands (Search base s f sel) x query parts e =
    absurd (false_true (ap fits_search e ∙ all_search (is_done m.progress) (is_wide m.kind) (is_copied p (sources_of x)) (mixed p (sources_of x)) c base s f sel))
ordered_by p m c stands b x query parts e = absurd (false_true query)

-- what is told with a limit is limited
module _ (p : Point) (stands : Stands p) (xs : List Source) (parts : AreParts p xs) where
  listed_short : (d w : Bool) (c : Controls) (name : Name) (subs : List Sub) (cut : Bool) → Lists subs cut ≡ told_list d w (is_copied p xs) (mixed p xs) c name
      → Lists (limited c.size subs) (cut || is_cut c.size subs) ≡ told_list d w (is_copied p xs) (mixed p xs) c name
  listed_short d w c name subs cut e =
      let apart = apart_sources p stands xs parts in
      let is = e ∙ list_told d w (is_copied p xs) (mixed p xs) c name name refl (sorted_apart (entries_of p xs) apart) (list_answers d w (is_copied p xs) (mixed p xs) c name subs cut e) in
      let list : subs ≡ limited c.size (shown_of (sub_of (is_copied p xs)) (list_picks d w name) (entries_of p xs)) = lists_subs _ _ _ _ is in
      let same : limited c.size subs ≡ subs = ap (limited c.size) list ∙ limited_twice c.size (shown_of (sub_of (is_copied p xs)) (list_picks d w name) (entries_of p xs)) ∙ sym list in
      let once : is_cut c.size subs ≡ false = ap (is_cut c.size) list ∙ cut_once c.size (shown_of (sub_of (is_copied p xs)) (list_picks d w name) (entries_of p xs)) in
      (λ i. Lists (same i) (or_none cut (is_cut c.size subs) once i)) ∙ e

  found_short : (d w : Bool) (c : Controls) (base : Name) (s : Subset) (f : Filter) (sel : Selection) (infos : List EntryInfo) (cut : Bool)
      → Finds infos cut ≡ told_search d w (is_copied p xs) (mixed p xs) c base s f sel
      → Finds (limited c.size infos) (cut || is_cut c.size infos) ≡ told_search d w (is_copied p xs) (mixed p xs) c base s f sel
  found_short d w c base s f sel infos cut e =
      let is = e ∙ search_told d w (is_copied p xs) (mixed p xs) c base base s f sel refl (search_answers d w (is_copied p xs) (mixed p xs) c base s f sel infos cut e) in
      let list : infos ≡ limited c.size (shown_of (info_of (is_copied p xs) sel) (search_picks base s f) (entries_of p xs)) = finds_infos _ _ _ _ is in
      let same : limited c.size infos ≡ infos = ap (limited c.size) list ∙ limited_twice c.size (shown_of (info_of (is_copied p xs) sel) (search_picks base s f) (entries_of p xs)) ∙ sym list in
      let once : is_cut c.size infos ≡ false = ap (is_cut c.size) list ∙ cut_once c.size (shown_of (info_of (is_copied p xs) sel) (search_picks base s f) (entries_of p xs)) in
      (λ i. Finds (same i) (or_none cut (is_cut c.size infos) once i)) ∙ e

short_by : (p : Point) (m : Chained) (c : Controls) → Stands p → (b : Body) (x : Answer) → is_query_below b ≡ true → AreParts p (sources_of x)
    → rest_of x ≡ told (is_copied p (sources_of x)) (mixed p (sources_of x)) (with_body m c b) → rest_of (limited_answer c.size x) ≡ told (is_copied p (sources_of x)) (mixed p (sources_of x)) (with_body m c b)
short_by p m c stands (ListBelow name) (Listed subs xs o) query parts e = listed_short p stands xs parts (is_done m.progress) (is_wide m.kind) c name subs o.limited e
short_by p m c stands (ListBelow name) x query parts e =
    absurd (false_true (ap fits_list e ∙ all_list (is_done m.progress) (is_wide m.kind) (is_copied p (sources_of x)) (mixed p (sources_of x)) c name (sorted_apart (entries_of p (sources_of x)) (apart_sources p stands (sources_of x) parts))))
short_by p m c stands (Search base s f sel) (Found infos xs o) query parts e = found_short p stands xs parts (is_done m.progress) (is_wide m.kind) c base s f sel infos o.limited e
short_by p m c stands (Search base s f sel) x query parts e =
    absurd (false_true (ap fits_search e ∙ all_search (is_done m.progress) (is_wide m.kind) (is_copied p (sources_of x)) (mixed p (sources_of x)) c base s f sel))
short_by p m c stands b x query parts e = absurd (false_true query)

pub told_short : (p : Point) (m : Chained) (a : Answer) → Stands p → AreParts p (sources_of a) → is_query_below m.request.body ≡ true → rest_of a ≡ told (is_copied p (sources_of a)) (mixed p (sources_of a)) m
    → rest_of (limited_answer m.request.controls.size a) ≡ told (is_copied p (sources_of a)) (mixed p (sources_of a)) m
told_short p m a stands parts query e = short_by p m m.request.controls stands m.request.body a query parts e

-- a part may be limited before it is joined
pub limits_before : LimitsBefore
limits_before size (Listed subs xs o) (Listed more ys v) a c = λ i. Lists (limited_before sub_key size subs more a c i) (flags_before sub_key size o.limited v.limited subs more i)
limits_before size (Found infos xs o) (Found more ys v) a c = λ i. Finds (limited_before info_key size infos more a c i) (flags_before info_key size o.limited v.limited infos more i)
limits_before size (Listed subs xs o) y a c = λ i. Lists (limited_twice size subs i) (twice size o.limited subs i)
limits_before size (Found infos xs o) y a c = λ i. Finds (limited_twice size infos i) (twice size o.limited infos i)
limits_before size (EntryFound info x) y a c = refl
limits_before size (Matched equal copy x) y a c = refl
limits_before size Changed y a c = refl

pub told_in_order : ToldInOrder
told_in_order p m x stands parts query e = ordered_by p m m.request.controls stands m.request.body x query parts e

no_limit : (x : Answer) → rest_of (limited_answer None x) ≡ rest_of x
no_limit (EntryFound info source) = refl
no_limit (Matched equal copy source) = refl
no_limit (Listed subs sources o) = ap (Lists subs) (or_none o.limited false refl)
no_limit (Found infos sources o) = ap (Finds infos) (or_none o.limited false refl)
no_limit Changed = refl

-- parts without a limit
pub joins_entries : JoinsEntries
joins_entries p m n a c stands parts fit query asks one two =
    let order = told_in_order p (unlimited m) a stands (left_parts p (sources_of a) (sources_of c) parts) query one in
    let x = joins_limited p (unlimited m) n a c stands parts fit query (record { by_user = asks.by_user; wide = asks.wide; request_is = asks.request_is; same = asks.same }) order (no_limit a ∙ one) two in
    (x.0, sym (no_limit (merged a c)) ∙ x.1)
