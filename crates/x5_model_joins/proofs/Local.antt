-- The local part with all references for the rest still to be asked: its sources are the spots, and the other contexts
-- that are looked into are covered, each by one reference.
use Rattle.std.proofs.Common.{◌≡◌, ℕ, Bool, true, false, cond, not, ◌&&◌, ◌⊎◌, inl, inr, List, [], ◌∷◌, ◌++◌, map, refl, sym, ap, subst, ◌∙◌, None}
use Rattle.std.specs.List.{list_any, list_all, filter, flat_map}
use Rattle.std.specs.Option.{is_some, is_none}
use Rattle.x5_model.specs.Words.{in_option, ascending, sorted, insert_sorted}
use Rattle.x5_model.specs.Members.{In, here, there}
use Rattle.x5_model.specs.Keys.{Key, IsPrefix}
use Rattle.x5_model.specs.Values.{Name, key_of, last_rdn}
use Rattle.x5_model.specs.Entries.{Named}
use Rattle.x5_model.specs.Filters.{Filter}
use Rattle.x5_model.specs.Truth.{selects_entry}
use Rattle.x5_model.specs.Selections.{shown}
use Rattle.x5_model.specs.Requests.{Subset, Selection, Controls, Body, ListBelow, Search}
use Rattle.x5_model.specs.References.{Reference, Chained}
use Rattle.x5_model.specs.Answers.{EntryInfo, Sub, Source, Answer, Listed, Found, Answered}
use Rattle.x5_model.specs.Statics.{fault_of}
use Rattle.x5_model.proofs.KeyLaws.{key_decides}
use Rattle.x5_model.proofs.Prefixes.{prefix_itself}
use Rattle.x5_model.proofs.Lists.{both_true, and_true, not_true, true_or_false, in_map, any_in, of_any, all_in}
use Rattle.x5_model.proofs.Ascending.{AllApart, of_insert, of_sorted}
use Rattle.x5_model_tree.specs.World.{World}
use Rattle.x5_model_tree.specs.Tree.{Tree, key_at, named_below, sorted_entries, is_there_or_root}
use Rattle.x5_model_tree.specs.Ask.{Lists, Finds, in_subset, limited, is_cut, sub_of, info_of}
use Rattle.x5_model_tree.proofs.Order.{named_chain, named_never}
use Rattle.x5_model_run.specs.Journal.{Line, is_done, is_wide, same_name}
use Rattle.x5_model_run.specs.Holdings.{Held, Holdings}
use Rattle.x5_model_run.specs.Needs.{target_of, by_pin, subset_in}
use Rattle.x5_model_run.specs.History.{Point, knowledge_at, tree_at, holdings_at}
use Rattle.x5_model_run.specs.Chain.{Scene}
use Rattle.x5_model_run.specs.Covers.{covered_roots, meet, are_apart, touched, mixed, is_copied, told}
use Rattle.x5_model_run.specs.Blocked.{Asked}
use Rattle.x5_model_run.specs.Right.{same_keys, uncovered}
use Rattle.x5_model_run.specs.Placed.{is_query_below}
use Rattle.x5_model_theory.proofs.Following.{query_of}
use Rattle.x5_model_parts.specs.Standing.{knowledge_now}
use Rattle.x5_model_parts.specs.Parts.{asks_for, BeginsHere, rest_needs, looks_into}
use Rattle.x5_model_parts.proofs.Asking.{false_true}
use Rattle.x5_model_parts.proofs.Covering.{root_area, scope_of, scope_touched}
use Rattle.x5_model_parts.proofs.Joining.{sight, View, the_view, spots_are_touched, spots_are_apart, all_are_parts, parts_are_apart}
use Rattle.x5_model_serve.specs.Walking.{entered}
use Rattle.x5_model_serve.specs.Answering.{before_sub, before_info, first_each, taken_before, walked_needs, stamp_at, local_sources, told_in, local_part, rest_of_parts, reply_from}
use Rattle.x5_model_serve.specs.Claims.{asked_line, SoFar}
use Rattle.x5_model_joins.proofs.Here.{found_locally, spelled_locally}
use Rattle.x5_model_joins.specs.Joins.{AreParts, LocalTells}
use Rattle.x5_model_joins.proofs.Showing.{shown_in_order, cut_map}
use Rattle.x5_model_joins.proofs.Telling.{list_picks, answers_list, list_told, search_picks, answers_search, search_told}
use Rattle.x5_model_joins.proofs.Sources.{entries_of, apart_sources, own_mark}
use Rattle.x5_model_joins.proofs.Entries.{list_order, sorted_apart, sub_key, info_key}
use Rattle.x5_model_joins.proofs.Contexts.{of_uncovered, in_uncovered, are_same, meet_back}
use Rattle.x5_model_joins.proofs.Replacing.{are_parts}
use Rattle.x5_model_joins.proofs.Spots.{IsSourceHere, source_here, here_is, sources_right, of_keys, in_keys, sources_once}
use Rattle.x5_model_joins.proofs.Walked.{of_the_rest, in_the_rest, walked_apart, flat_shown, shown_sorted}
use Rattle.x5_model_joins.proofs.Basing.{local_tree, base_there}

-- ---- references in another order are still apart

module _ (w : World) (below : Reference → Reference → Bool) where
  insert_apart : (u : Reference) (vs : List Reference) → ((v : Reference) → In v vs → meet w u v ≡ true → ⊥) → are_apart w vs ≡ true → are_apart w (insert_sorted below u vs) ≡ true
  insert_apart u [] f h = refl
  insert_apart u (v ∷ vs) f h = by (below v u) (insert_apart u vs (λ x i. f x (there i)) rest)
    where
      split : (not (list_any (meet w v) vs) ≡ true) × (are_apart w vs ≡ true)
      split = both_true (not (list_any (meet w v) vs)) (are_apart w vs) h

      rest : are_apart w vs ≡ true
      rest = split.1

      none : (x : Reference) (xs : List Reference) → ((y : Reference) → In y xs → meet w x y ≡ true → ⊥) → not (list_any (meet w x) xs) ≡ true
      none x xs g = elim (true_or_false (list_any (meet w x) xs)) [ inl p ↦ (let y = of_any (meet w x) xs p in absurd (g y.0 y.1 y.2)) | inr p ↦ ap not p ]

      never : (x : Reference) → In x vs → meet w v x ≡ true → ⊥
      never x i m = (let a : list_any (meet w v) vs ≡ true = any_in (meet w v) x vs i m in let b : list_any (meet w v) vs ≡ false = not_true (list_any (meet w v) vs) split.0 in cc)

      by : (b : Bool) → are_apart w (insert_sorted below u vs) ≡ true → are_apart w (cond b (v ∷ insert_sorted below u vs) (u ∷ v ∷ vs)) ≡ true
      by true k =
          and_true (not (list_any (meet w v) (insert_sorted below u vs))) (are_apart w (insert_sorted below u vs)) (none v (insert_sorted below u vs) (λ x i m. elim (of_insert below x u vs i) [
            | inl e ↦ f v here (meet_back w v u (subst (λ y. meet w v y ≡ true) e m))
            | inr j ↦ never x j m
          ])) k
      by false k = and_true (not (list_any (meet w u) (v ∷ vs))) (are_apart w (v ∷ vs)) (none u (v ∷ vs) f) h

  in_order_apart : (us : List Reference) → are_apart w us ≡ true → are_apart w (sorted below us) ≡ true
  in_order_apart [] h = refl
  in_order_apart (u ∷ us) h =
      let b = both_true (not (list_any (meet w u) us)) (are_apart w us) h in
      insert_apart u (sorted below us)
      (λ v i m. (let a : list_any (meet w u) us ≡ true = any_in (meet w u) v us (of_sorted below v us i) m in let n : list_any (meet w u) us ≡ false = not_true (list_any (meet w u) us) b.0 in cc))
      (in_order_apart us b.1)

-- ---- at an agent that begins it

module _ (p : Point) (l : Line) (b : BeginsHere p l) (lines : List Line) (stood : ℕ) (stands : In l lines) where
  abbrev h : Holdings
  h = holdings_at p l.receiver

  abbrev m : Chained
  m = l.message

  abbrev xs : List Source
  xs = local_sources (holdings_at p l.receiver) l.message

  abbrev rest : List Reference
  rest = rest_of_parts (holdings_at p l.receiver) l.message

  abbrev q : Asked
  q = asked_line l stood

  query : is_query_below l.message.request.body ≡ true
  query = query_of l.message (ap is_some (sight p l b).sees_it.subset)

  parts : AreParts p (local_sources (holdings_at p l.receiver) l.message)
  parts = are_parts p (asked_line l stood) lines b.copies (local_sources (holdings_at p l.receiver) l.message) (sources_right p l b lines stood stands) (sources_once p l b lines stood stands)

  -- the references
  of_rest : (u : Reference) → In u rest → In u (rest_needs p l)
  of_rest u i = of_the_rest p l u i

  exactly : same_keys (map (λ x. key_of x.context) (local_sources (holdings_at p l.receiver) l.message)) (uncovered p (asked_line l stood) (rest_of_parts (holdings_at p l.receiver) l.message)) ≡ true
  exactly =
      are_same (map (λ x. key_of x.context) (local_sources (holdings_at p l.receiver) l.message)) (uncovered p (asked_line l stood) (rest_of_parts (holdings_at p l.receiver) l.message))
      (λ z i. in_uncovered (knowledge_at p) (rest_of_parts (holdings_at p l.receiver) l.message) (looks_into p l.receiver l.message) z (spots_are_touched p l z b (of_keys p l b lines stood stands z i))
      (λ u j c. false_true (sym (spots_are_apart p l z u b (of_keys p l b lines stood stands z i) (of_rest u j)) ∙ c)))
      (λ z i. (let v = of_uncovered (knowledge_at p) (rest_of_parts (holdings_at p l.receiver) l.message) (looks_into p l.receiver l.message) z i in
      elim (all_are_parts p l z b v.0) [
        | inl j ↦ in_keys p l b lines stood stands z j
        | inr r ↦ absurd (v.1 r.0 (in_the_rest p l b r.0 r.1) r.2)
      ]))

  completed : list_all (λ r. is_done r.progress) (rest_of_parts (holdings_at p l.receiver) l.message) ≡ true
  completed = all_in (λ r. is_done r.progress) (rest_of_parts (holdings_at p l.receiver) l.message) (λ u i. by u (the_view p l b u (of_rest u i)))
    where
      by : (u : Reference) → View p l b u → is_done u.progress ≡ true
      by u (inl v) = ap is_done v.1.progress
      by u (inr v) = ap is_done v.2.progress

  apart : are_apart (knowledge_at p) (rest_of_parts (holdings_at p l.receiver) l.message) ≡ true
  apart =
      in_order_apart (knowledge_at p) taken_before (walked_needs (holdings_at p l.receiver) l.message)
      (walked_apart (knowledge_at p) p l b (parts_are_apart p l b))

  nested : (u : Reference) (z : Key) → In u (rest_of_parts (holdings_at p l.receiver) l.message) → In z (covered_roots (knowledge_at p) u) → In z (touched (knowledge_at p) (tree_at p) l.receiver l.message)
  nested u z i c =
      let v = sight p l b in
      let view = the_view p l b u (of_rest u i) in
      let d = root_area (knowledge_at p) (tree_at p) (knowledge_now p) l.receiver (holdings_at p l.receiver) l.message v.look v.sees_it u view z c in
      let scope = scope_of (knowledge_at p) (tree_at p) (knowledge_now p) l.receiver (holdings_at p l.receiver) l.message v.look v.sees_it u view z d.0 c (subst (λ (x : Key). IsPrefix x d.0.prefix) d.2 (prefix_itself d.0.prefix)) d.3 in
      (v.sees_it.looks z).1 (d.0, d.1, d.2, scope_touched (knowledge_at p) (tree_at p) (knowledge_now p) l.receiver (holdings_at p l.receiver) l.message v.look v.sees_it u view d.0 d.1 scope)

  -- the entries
  flat_sources : (cs : List Held) → ((c : Held) → In c cs → IsSourceHere p l lines stood (holdings_at p l.receiver) c) → flat_map (λ c. c.entries) cs ≡ entries_of p (map (source_here (holdings_at p l.receiver)) cs)
  flat_sources [] f = refl
  flat_sources (c ∷ cs) f = λ i. (f c here).entries i ++ flat_sources cs (λ d j. f d (there j)) i

  held_entries : flat_map (λ c. c.entries) (entered (holdings_at p l.receiver) l.message) ≡ entries_of p (local_sources (holdings_at p l.receiver) l.message)
  held_entries = flat_sources (entered (holdings_at p l.receiver) l.message) (here_is p l b lines stood stands)

  same_entries : (local_tree (holdings_at p l.receiver) l.message).entries ≡ (mixed p (local_sources (holdings_at p l.receiver) l.message)).entries
  same_entries = ap sorted_entries held_entries

  -- the marks
  same_mark : (c : Held) → In c (entered (holdings_at p l.receiver) l.message) → (e : Named) → In e c.entries
      → is_some (stamp_at (holdings_at p l.receiver) c) ≡ is_copied p (local_sources (holdings_at p l.receiver) l.message) (key_at e)
  same_mark c i e j =
      sym (own_mark p b.stands (local_sources (holdings_at p l.receiver) l.message) parts (source_here (holdings_at p l.receiver) c) e
      (in_map (source_here (holdings_at p l.receiver)) c (entered (holdings_at p l.receiver) l.message) i)
      (subst (λ (es : List Named). In e es) (here_is p l b lines stood stands c i).entries j))

  abbrev with_body : Controls → Body → Chained
  with_body c x = record l.message { request = record { controls = c; body = x } }

  abbrev mark : Key → Bool
  mark = is_copied p (local_sources (holdings_at p l.receiver) l.message)

  abbrev tree : Tree
  tree = mixed p (local_sources (holdings_at p l.receiver) l.message)

  tree_apart : AllApart named_below (mixed p (local_sources (holdings_at p l.receiver) l.message)).entries
  tree_apart = sorted_apart (entries_of p (local_sources (holdings_at p l.receiver) l.message)) (apart_sources p b.stands (local_sources (holdings_at p l.receiver) l.message) parts)

  -- what is told of it: a list, or a search
  abbrev ListForm : Controls → Body → Type 0
  ListForm c x =
      (subs : List Sub) × (told_in (holdings_at p l.receiver) l.message x ≡ Lists subs false) × (told mark tree (with_body c x) ≡ Lists (limited c.size subs) (is_cut c.size subs)) × (ascending before_sub subs ≡ true)

  abbrev SearchForm : Controls → Body → Type 0
  SearchForm c x =
      (infos : List EntryInfo) × (told_in (holdings_at p l.receiver) l.message x ≡ Finds infos false) × (told mark tree (with_body c x) ≡ Finds (limited c.size infos) (is_cut c.size infos)) × (ascending before_info infos ≡ true)

  base_at : (name : Name) → key_of name ≡ key_of l.message.target → (is_done l.message.progress && is_wide l.message.kind) ≡ false → is_there_or_root (local_tree (holdings_at p l.receiver) l.message).entries (key_of name) ≡ true
  base_at name same narrow = subst (λ (k : Key). is_there_or_root (local_tree (holdings_at p l.receiver) l.message).entries k ≡ true) (sym same) (base_there p l b narrow)

  answering_list : (d w : Bool) (name : Name) → is_done l.message.progress ≡ d → is_wide l.message.kind ≡ w → key_of name ≡ key_of l.message.target → fault_of (ListBelow name) ≡ None
      → answers_list d (local_tree (holdings_at p l.receiver) l.message).entries name ≡ true
  answering_list true w name d k same fault = refl
  answering_list false w name d k same fault =
      and_true (is_none (fault_of (ListBelow name))) (is_there_or_root (local_tree (holdings_at p l.receiver) l.message).entries (key_of name)) (ap is_none fault) (base_at name same (ap (λ (x : Bool). x && is_wide l.message.kind) d))

  answering_search : (d w : Bool) (base : Name) (s : Subset) (f : Filter) (sel : Selection) → is_done l.message.progress ≡ d → is_wide l.message.kind ≡ w → key_of base ≡ key_of l.message.target → fault_of (Search base s f sel) ≡ None
      → answers_search d w (local_tree (holdings_at p l.receiver) l.message).entries base s f sel ≡ true
  answering_search true true base s f sel d k same fault = refl
  answering_search true false base s f sel d k same fault =
      and_true (is_none (fault_of (Search base s f sel))) (is_there_or_root (local_tree (holdings_at p l.receiver) l.message).entries (key_of base)) (ap is_none fault) (base_at base same (λ i. d i && k i))
  answering_search false w base s f sel d k same fault =
      and_true (is_none (fault_of (Search base s f sel))) (is_there_or_root (local_tree (holdings_at p l.receiver) l.message).entries (key_of base)) (ap is_none fault) (base_at base same (ap (λ (x : Bool). x && is_wide l.message.kind) d))

  -- what the contexts show, one after the other, as one filter of the tree
  shown_here : {X : Type 0} (f : Held → Named → X) (g : Named → X) (u t : Named → Bool) (below : X → X → Bool)
      → ((e : Named) → u e ≡ t e) → ((c : Held) → In c (entered (holdings_at p l.receiver) l.message) → (e : Named) → In e c.entries → f c e ≡ g e)
      → ((d e : Named) → t d ≡ true → t e ≡ true → below (g d) (g e) ≡ named_below d e)
      → sorted below (first_each below (flat_map (λ c. map (f c) (filter u c.entries)) (entered (holdings_at p l.receiver) l.message))) ≡ map g (filter t tree.entries)
  shown_here f g u t below same h order =
      ap (λ ys. sorted below (first_each below ys)) (flat_shown f g u t (entered (holdings_at p l.receiver) l.message) same h ∙ ap (λ (es : List Named). map g (filter t es)) held_entries)
      ∙ shown_sorted named_below below named_chain named_never g t order (entries_of p (local_sources (holdings_at p l.receiver) l.message))
      (apart_sources p b.stands (local_sources (holdings_at p l.receiver) l.message) parts)

  list_form : (c : Controls) (name : Name) → l.message.request.body ≡ ListBelow name → key_of name ≡ key_of l.message.target → fault_of (ListBelow name) ≡ None → ListForm c (ListBelow name)
  list_form c name body same fault =
      let t = list_picks (is_done l.message.progress) (is_wide l.message.kind) l.message.target in
      let yes = answering_list (is_done l.message.progress) (is_wide l.message.kind) name refl refl same fault in
      let yes_too : answers_list (is_done l.message.progress) tree.entries name ≡ true = subst (λ (es : List Named). answers_list (is_done l.message.progress) es name ≡ true) same_entries yes in (
        map (sub_of mark) (filter t tree.entries),
        ap (λ (ys : List Sub). Lists ys false) (shown_here (λ c. sub_of (λ key. is_some (stamp_at (holdings_at p l.receiver) c))) (sub_of mark) (λ e. asks_for l.message (key_at e)) t before_sub
            (λ e. ap (λ (x : Body). in_option false (λ (s : Subset). in_subset s (key_of l.message.target) (key_at e)) (subset_in (by_pin l.message) x)) body)
            (λ c i e j. ap (λ (x : Bool). record { rdn = last_rdn e.name; copy = x }) (same_mark c i e j))
            (list_order (is_done l.message.progress) (is_wide l.message.kind) l.message.target mark)),
        list_told (is_done l.message.progress) (is_wide l.message.kind) mark tree c name l.message.target same tree_apart yes_too
            ∙ ap (λ (x : Bool). Lists (limited c.size (map (sub_of mark) (filter t tree.entries))) x) (sym (cut_map c.size (sub_of mark) (filter t tree.entries))),
        shown_in_order sub_key (sub_of mark) t (entries_of p xs) (apart_sources p b.stands xs parts) (list_order (is_done l.message.progress) (is_wide l.message.kind) l.message.target mark),
      )

  search_form : (c : Controls) (base : Name) (s : Subset) (f : Filter) (sel : Selection) → l.message.request.body ≡ Search base s f sel → key_of base ≡ key_of l.message.target → fault_of (Search base s f sel) ≡ None → SearchForm c (Search base s f sel)
  search_form c base s f sel body same fault =
      let t = search_picks l.message.target s f in
      let yes = answering_search (is_done l.message.progress) (is_wide l.message.kind) base s f sel refl refl same fault in
      let yes_too : answers_search (is_done l.message.progress) (is_wide l.message.kind) tree.entries base s f sel ≡ true = subst (λ (es : List Named). answers_search (is_done l.message.progress) (is_wide l.message.kind) es base s f sel ≡ true) same_entries yes in (
        map (info_of mark sel) (filter t tree.entries),
        ap (λ (ys : List EntryInfo). Finds ys false) (shown_here (λ c. info_of (λ key. is_some (stamp_at (holdings_at p l.receiver) c)) sel) (info_of mark sel) (λ e. asks_for l.message (key_at e) && selects_entry f e.entry) t before_info
            (λ e. ap (λ (x : Body). in_option false (λ (s : Subset). in_subset s (key_of l.message.target) (key_at e)) (subset_in (by_pin l.message) x) && selects_entry f e.entry) body)
            (λ c i e j. ap (λ (x : Bool). record { name = e.name; copy = x; attributes = shown sel e.entry }) (same_mark c i e j))
            (λ x y i j. refl)),
        search_told (is_done l.message.progress) (is_wide l.message.kind) mark tree c base l.message.target s f sel same yes_too
            ∙ ap (λ (x : Bool). Finds (limited c.size (map (info_of mark sel) (filter t tree.entries))) x) (sym (cut_map c.size (info_of mark sel) (filter t tree.entries))),
        shown_in_order info_key (info_of mark sel) t (entries_of p xs) (apart_sources p b.stands xs parts) (λ x y i j. refl),
      )

  form : (c : Controls) (x : Body) → l.message.request.body ≡ x → is_query_below x ≡ true → key_of (target_of x) ≡ key_of l.message.target → fault_of x ≡ None → ListForm c x ⊎ SearchForm c x
  form c (ListBelow name) body asked same fault = inl (list_form c name body same fault)
  form c (Search base s f sel) body asked same fault = inr (search_form c base s f sel body same fault)
  form c x body asked same fault = absurd (false_true asked)

  target : key_of (target_of l.message.request.body) ≡ key_of l.message.target
  target = (key_decides (key_of (target_of l.message.request.body)) (key_of l.message.target)).0 (both_true (same_name (target_of l.message.request.body) l.message.target) _ b.fit).0

  pub tells_locally : (s : Scene) → s.holdings ≡ holdings_at p → fault_of l.message.request.body ≡ None
      → (a : Answer) × (local_part (holdings_at p l.receiver) l.message ≡ Answered a) × SoFar p s (asked_line l stood) lines a (rest_of_parts (holdings_at p l.receiver) l.message)
  tells_locally s scene fault = elim (form l.message.request.controls l.message.request.body refl query target fault) [
    | inl f ↦ (
      Listed f.0 xs (record { limited = false; unexplored = [] }),
      ap (reply_from xs) f.1,
      record {
        tells = record { found = found_locally p l b lines stood stands s scene (fault, b.fit) (ap is_some (sight p l b).sees_it.subset); spelled = spelled_locally p l b s scene; sources = sources_right p l b lines stood stands; once = sources_once p l b lines stood stands; exactly = exactly; ordered = f.3; answered = sym f.2; completed = completed; apart = apart; nested = nested };
        lost = tt;
      },
    )
    | inr f ↦ (
      Found f.0 xs (record { limited = false; unexplored = [] }),
      ap (reply_from xs) f.1,
      record {
        tells = record { found = found_locally p l b lines stood stands s scene (fault, b.fit) (ap is_some (sight p l b).sees_it.subset); spelled = spelled_locally p l b s scene; sources = sources_right p l b lines stood stands; once = sources_once p l b lines stood stands; exactly = exactly; ordered = f.3; answered = sym f.2; completed = completed; apart = apart; nested = nested };
        lost = tt;
      },
    )
  ]

-- no list or search is refused by itself
pub no_fault : (x : Body) → is_query_below x ≡ true → fault_of x ≡ None
no_fault (ListBelow name) e = refl
no_fault (Search base subset f selection) e = refl
no_fault x e = absurd (false_true e)

pub local_tells : LocalTells
local_tells p s l lines stood scene b stands = tells_locally p l b lines stood stands s scene (no_fault l.message.request.body (query_of l.message (ap is_some (sight p l b).sees_it.subset)))
