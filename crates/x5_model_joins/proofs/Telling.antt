-- What a tree tells of a list or search is what it shows of the entries that the message asks for, one filter of the
-- tree; or it refuses.
use Rattle.std.proofs.Common.{◌≡◌, Bool, true, false, cond, not, ◌&&◌, ◌||◌, if◌then◌else◌, ◌⊎◌, inl, inr, List, [], ◌∷◌, refl, sym, ap, subst, ◌∙◌, Option, Some, None}
use Rattle.std.specs.List.{filter}
use Rattle.std.specs.Option.{is_none}
use Rattle.x5_model.specs.Words.{in_option}
use Rattle.x5_model.specs.Members.{In, here, there}
use Rattle.x5_model.specs.Keys.{Key, same_key, is_child, key_below}
use Rattle.x5_model.specs.Values.{Name, key_of}
use Rattle.x5_model.specs.Entries.{Named}
use Rattle.x5_model.specs.Filters.{Filter}
use Rattle.x5_model.specs.Truth.{selects_entry}
use Rattle.x5_model.specs.Requests.{Subset, Base, OneLevel, Selection, Controls, ListBelow, Search, Request}
use Rattle.x5_model.specs.Answers.{DirError, NoSuchObject}
use Rattle.x5_model.specs.Statics.{fault_of}
use Rattle.x5_model.proofs.KeyLaws.{key_decides, never_below}
use Rattle.x5_model.proofs.Lists.{both_true, true_or_false}
use Rattle.x5_model.proofs.Ascending.{AllApart}
use Rattle.x5_model_tree.specs.Tree.{Tree, key_at, named_below, entry_at, is_there_or_root, matched}
use Rattle.x5_model_tree.specs.Ask.{Told, Refuses, in_subset, just_below, searched, limited_list, limited_found, ask_body, ask_marked}
use Rattle.x5_model_run.specs.Covers.{own_rdn}

-- ---- static refusals first

abbrev marked : Option DirError → Told → Told
marked o t = elim o [ None ↦ t | Some x ↦ Refuses x ]

marked_is : (copies : Key → Bool) (t : Tree) (r : Request) → ask_marked copies t r ≡ marked (fault_of r.body) (ask_body copies t r r.body)
marked_is copies t r = refl

when_none : (o : Option DirError) (t : Told) → is_none o ≡ true → marked o t ≡ t
when_none None t e = refl
when_none (Some x) t e = cc

when_some : (o : Option DirError) (t : Told) → is_none o ≡ false → (x : DirError) × (marked o t ≡ Refuses x)
when_some None t e = cc
when_some (Some x) t e = (x, refl)

-- ---- a pin's own RDN

filter_none : (t : Named → Bool) (es : List Named) → ((e : Named) → In e es → t e ≡ false) → filter t es ≡ []
filter_none t [] f = refl
filter_none t (e ∷ es) f = ap (λ b. cond b (e ∷ filter t es) (filter t es)) (f e here) ∙ filter_none t es (λ x i. f x (there i))

other_key : (x y : Named) → (named_below x y ≡ true) ⊎ (named_below y x ≡ true) → key_at x ≡ key_at y → ⊥
other_key x y (inl p) e = never_below (key_at y) (subst (λ (k : Key). key_below k (key_at y) ≡ true) e p)
other_key x y (inr p) e = never_below (key_at y) (subst (λ (k : Key). key_below (key_at y) k ≡ true) e p)

own_picked : (es : List Named) (k : Key) → AllApart named_below es → in_option [] (λ e. e ∷ []) (entry_at es k) ≡ filter (λ e. same_key k (key_at e)) es
own_picked [] k a = refl
own_picked (x ∷ xs) k a = by (same_key (key_at x) k) refl (own_picked xs k a.1)
  where
    by : (b : Bool) → same_key (key_at x) k ≡ b → in_option [] (λ e. e ∷ []) (entry_at xs k) ≡ filter (λ e. same_key k (key_at e)) xs
        → in_option [] (λ e. e ∷ []) (cond b (Some x) (entry_at xs k)) ≡ filter (λ e. same_key k (key_at e)) (x ∷ xs)
    by true e rest =
        let same : key_at x ≡ k = (key_decides (key_at x) k).0 e in
        let mine : same_key k (key_at x) ≡ true = (key_decides k (key_at x)).1 (sym same) in
        let none : filter (λ y. same_key k (key_at y)) xs ≡ [] = filter_none (λ y. same_key k (key_at y)) xs (λ y i. elim (true_or_false (same_key k (key_at y))) [
          | inl p ↦ absurd (other_key x y (a.0 y i) (same ∙ (key_decides k (key_at y)).0 p))
          | inr p ↦ p
        ]) in
        sym (ap (λ b. cond b (x ∷ filter (λ y. same_key k (key_at y)) xs) (filter (λ y. same_key k (key_at y)) xs)) mine ∙ ap (λ ys. x ∷ ys) none)
    by false e rest =
        let other : same_key k (key_at x) ≡ false = elim (true_or_false (same_key k (key_at x))) [
          | inl p ↦ (let q : same_key (key_at x) k ≡ true = (key_decides (key_at x) k).1 (sym ((key_decides k (key_at x)).0 p)) in cc)
          | inr p ↦ p
        ] in
        rest ∙ sym (ap (λ b. cond b (x ∷ filter (λ y. same_key k (key_at y)) xs) (filter (λ y. same_key k (key_at y)) xs)) other)

-- ---- a list: d says that the name was completed, w that it came by a nonSpecific reference

abbrev pub list_picks : Bool → Bool → Name → Named → Bool
list_picks d w target e = in_option false (λ s. in_subset s (key_of target) (key_at e)) (if d && not w then Some Base else Some OneLevel)

abbrev pub told_list : Bool → Bool → (Key → Bool) → Tree → Controls → Name → Told
told_list d w copies t c name =
    if d then (if w then limited_list copies c.size (just_below t name) else limited_list copies c.size (own_rdn t name))
    else ask_marked copies t (record { controls = c; body = ListBelow name })

abbrev pub answers_list : Bool → List Named → Name → Bool
answers_list d es name = d || (is_none (fault_of (ListBelow name)) && is_there_or_root es (key_of name))

pub list_told : (d w : Bool) (copies : Key → Bool) (t : Tree) (c : Controls) (name target : Name) → key_of name ≡ key_of target → AllApart named_below t.entries
    → answers_list d t.entries name ≡ true → told_list d w copies t c name ≡ limited_list copies c.size (filter (list_picks d w target) t.entries)
list_told true true copies t c name target e a h = ap (λ (k : Key). limited_list copies c.size (filter (λ x. is_child k (key_at x)) t.entries)) e
list_told true false copies t c name target e a h = ap (limited_list copies c.size) (own_picked t.entries (key_of name) a) ∙ ap (λ (k : Key). limited_list copies c.size (filter (λ x. same_key k (key_at x)) t.entries)) e
list_told false w copies t c name target e a h =
    let b = both_true (is_none (fault_of (ListBelow name))) (is_there_or_root t.entries (key_of name)) h in
    when_none (fault_of (ListBelow name)) (ask_body copies t (record { controls = c; body = ListBelow name }) (ListBelow name)) b.0
    ∙ ap (λ x. cond x (limited_list copies c.size (just_below t name)) (Refuses (NoSuchObject (matched t.entries (key_of name))))) b.1
    ∙ ap (λ (k : Key). limited_list copies c.size (filter (λ x. is_child k (key_at x)) t.entries)) e

neither : (a b : Bool) → (a && b) ≡ false → (a ≡ false) ⊎ (b ≡ false)
neither true b e = inr e
neither false b e = inl refl

pub list_refused : (d w : Bool) (copies : Key → Bool) (t : Tree) (c : Controls) (name : Name) → answers_list d t.entries name ≡ false → (x : DirError) × (told_list d w copies t c name ≡ Refuses x)
list_refused true w copies t c name h = cc
list_refused false w copies t c name h = elim (true_or_false (is_none (fault_of (ListBelow name)))) [
  | inl p ↦ (
    NoSuchObject (matched t.entries (key_of name)),
    when_none (fault_of (ListBelow name)) (ask_body copies t (record { controls = c; body = ListBelow name }) (ListBelow name)) p
        ∙ ap (λ x. cond x (limited_list copies c.size (just_below t name)) (Refuses (NoSuchObject (matched t.entries (key_of name))))) (by (neither (is_none (fault_of (ListBelow name))) (is_there_or_root t.entries (key_of name)) h) p),
  )
  | inr p ↦ when_some (fault_of (ListBelow name)) (ask_body copies t (record { controls = c; body = ListBelow name }) (ListBelow name)) p
]
  where
    by : (is_none (fault_of (ListBelow name)) ≡ false) ⊎ (is_there_or_root t.entries (key_of name) ≡ false) → is_none (fault_of (ListBelow name)) ≡ true → is_there_or_root t.entries (key_of name) ≡ false
    by (inl q) p = cc
    by (inr q) p = q

-- ---- a search

abbrev pub search_picks : Name → Subset → Filter → Named → Bool
search_picks target s f e = in_subset s (key_of target) (key_at e) && selects_entry f e.entry

abbrev pub told_search : Bool → Bool → (Key → Bool) → Tree → Controls → Name → Subset → Filter → Selection → Told
told_search d w copies t c base s f sel =
    if d then (if w then limited_found copies c.size sel (searched t base s f) else ask_marked copies t (record { controls = c; body = Search base s f sel }))
    else ask_marked copies t (record { controls = c; body = Search base s f sel })

abbrev pub answers_search : Bool → Bool → List Named → Name → Subset → Filter → Selection → Bool
answers_search d w es base s f sel = (d && w) || (is_none (fault_of (Search base s f sel)) && is_there_or_root es (key_of base))

asked_search : (copies : Key → Bool) (t : Tree) (c : Controls) (base target : Name) (s : Subset) (f : Filter) (sel : Selection) → key_of base ≡ key_of target
    → (is_none (fault_of (Search base s f sel)) && is_there_or_root t.entries (key_of base)) ≡ true
    → ask_marked copies t (record { controls = c; body = Search base s f sel }) ≡ limited_found copies c.size sel (filter (search_picks target s f) t.entries)
asked_search copies t c base target s f sel e h =
    let b = both_true (is_none (fault_of (Search base s f sel))) (is_there_or_root t.entries (key_of base)) h in
    when_none (fault_of (Search base s f sel)) (ask_body copies t (record { controls = c; body = Search base s f sel }) (Search base s f sel)) b.0
    ∙ ap (λ x. cond x (limited_found copies c.size sel (searched t base s f)) (Refuses (NoSuchObject (matched t.entries (key_of base))))) b.1
    ∙ ap (λ (k : Key). limited_found copies c.size sel (filter (λ x. in_subset s k (key_at x) && selects_entry f x.entry) t.entries)) e

pub search_told : (d w : Bool) (copies : Key → Bool) (t : Tree) (c : Controls) (base target : Name) (s : Subset) (f : Filter) (sel : Selection) → key_of base ≡ key_of target
    → answers_search d w t.entries base s f sel ≡ true → told_search d w copies t c base s f sel ≡ limited_found copies c.size sel (filter (search_picks target s f) t.entries)
search_told true true copies t c base target s f sel e h = ap (λ (k : Key). limited_found copies c.size sel (filter (λ x. in_subset s k (key_at x) && selects_entry f x.entry) t.entries)) e
search_told true false copies t c base target s f sel e h = asked_search copies t c base target s f sel e h
search_told false w copies t c base target s f sel e h = asked_search copies t c base target s f sel e h

refused_search : (copies : Key → Bool) (t : Tree) (c : Controls) (base : Name) (s : Subset) (f : Filter) (sel : Selection)
    → (is_none (fault_of (Search base s f sel)) && is_there_or_root t.entries (key_of base)) ≡ false
    → (x : DirError) × (ask_marked copies t (record { controls = c; body = Search base s f sel }) ≡ Refuses x)
refused_search copies t c base s f sel h = elim (true_or_false (is_none (fault_of (Search base s f sel)))) [
  | inl p ↦ (
    NoSuchObject (matched t.entries (key_of base)),
    when_none (fault_of (Search base s f sel)) (ask_body copies t (record { controls = c; body = Search base s f sel }) (Search base s f sel)) p
        ∙ ap (λ x. cond x (limited_found copies c.size sel (searched t base s f)) (Refuses (NoSuchObject (matched t.entries (key_of base))))) (by (neither (is_none (fault_of (Search base s f sel))) (is_there_or_root t.entries (key_of base)) h) p),
  )
  | inr p ↦ when_some (fault_of (Search base s f sel)) (ask_body copies t (record { controls = c; body = Search base s f sel }) (Search base s f sel)) p
]
  where
    by : (is_none (fault_of (Search base s f sel)) ≡ false) ⊎ (is_there_or_root t.entries (key_of base) ≡ false) → is_none (fault_of (Search base s f sel)) ≡ true → is_there_or_root t.entries (key_of base) ≡ false
    by (inl q) p = cc
    by (inr q) p = q

pub search_refused : (d w : Bool) (copies : Key → Bool) (t : Tree) (c : Controls) (base : Name) (s : Subset) (f : Filter) (sel : Selection)
    → answers_search d w t.entries base s f sel ≡ false → (x : DirError) × (told_search d w copies t c base s f sel ≡ Refuses x)
search_refused true true copies t c base s f sel h = cc
search_refused true false copies t c base s f sel h = refused_search copies t c base s f sel h
search_refused false w copies t c base s f sel h = refused_search copies t c base s f sel h
