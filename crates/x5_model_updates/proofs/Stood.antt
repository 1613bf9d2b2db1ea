-- What a line of a run over consistent knowledge finds.
use Rattle.std.proofs.Common.{◌≡◌, true, ℕ, inl, inr, List, [], ◌∷◌, map, reverse, refl, sym, ap, subst, ◌∙◌, Ok, Err}
use Rattle.std.specs.List.{list_all}
use Rattle.x5_model.specs.Members.{In, Once}
use Rattle.x5_model.specs.Keys.{Key}
use Rattle.x5_model.specs.Entries.{Named}
use Rattle.x5_model.specs.Attributes.{is_ordered}
use Rattle.x5_model.specs.Requests.{Request}
use Rattle.x5_model.proofs.Lists.{in_map, of_map}
use Rattle.x5_model.proofs.Ascending.{filter_ascending, of_sorted, in_sorted}
use Rattle.x5_model_tree.specs.World.{World}
use Rattle.x5_model_tree.specs.Tree.{Tree, key_at, keys_of, named_below, sorted_entries, belongs, part}
use Rattle.x5_model_tree.specs.Masters.{Mastered, pin_of, mastered, pins, whole}
use Rattle.x5_model_tree.specs.Consistent.{IsConsistent}
use Rattle.x5_model_tree.specs.Described.{IsDescribed}
use Rattle.x5_model_tree.specs.Good.{Good}
use Rattle.x5_model_tree.specs.Apply.{Applied, apply}
use Rattle.x5_model_tree.proofs.Order.{named_chain}
use Rattle.x5_model_tree.proofs.Exact.{conditions_hold}
use Rattle.x5_model_tree.proofs.Gives.{consistent_is_good}
use Rattle.x5_model_tree.proofs.WholeTree.{whole_is_tree, of_whole, whole_in_order, part_is_context}
use Rattle.x5_model_run.specs.Refresh.{RefreshOutcome, Done, Unheard, Problem, Missed, NotConsistent}
use Rattle.x5_model_run.specs.History.{Deed, Nothing, Outs, Loses, Accepts, Refreshes, Splits, Unsplits, Did, Acceptance, tree_with, tree_accepting, tree_after, tree_by, knowledge_after, knowledge_by}
use Rattle.x5_model_run.specs.Run.{Command, Blank, Asks, Changes, Drops, Updates, Hands, Block, Silent, Set, Replies, Refreshing, Handed, Rejected, Judge, refreshed_by, did_by, IsRun, begin, next}
use Rattle.x5_model_theory.specs.Knowledge.{Knowledge, Area}
use Rattle.x5_model_theory.specs.Described.{area_of, knowledge_of}
use Rattle.x5_model_theory.specs.Coherent.{Coherent}
use Rattle.x5_model_theory.specs.Changing.{holding, with_entries}
use Rattle.x5_model_theory.proofs.Cohering.{map_map, consistent_is_coherent}
use Rattle.x5_model_theory.proofs.Changes.{reordering_keeps}
use Rattle.x5_model_updates.specs.Standing.{IsTreeOf}
use Rattle.x5_model_updates.specs.Keeping.{keys_in, MovesNone, NoneMoved, LinesStand, RunsStand}
use Rattle.x5_model_updates.proofs.Lookups.{once_keys}
use Rattle.x5_model_updates.proofs.Outcomes.{ok_or_err}
use Rattle.x5_model_updates.proofs.Moments.{with_tree, knowledge_now, again}
use Rattle.x5_model_updates.proofs.Keeps.{updates_keep, order_stays}

-- this knowledge, with the parts of the tree, is coherent, and the tree is of it
abbrev StandsWith : Knowledge → Tree → Type 0
StandsWith k t = Coherent (with_entries (keys_in t) k) × IsTreeOf (with_entries (keys_in t) k) t × (list_all (λ (e : Named). is_ordered e.entry) t.entries ≡ true)

-- ---- as the world is described

module _ (w : World) (described : IsDescribed w) (consistent : IsConsistent w) where
  good : Good w
  good = consistent_is_good w described consistent

  once_pins : Once (pins w)
  once_pins = (conditions_hold w consistent).one_master

  -- a context has the keys of its part
  same_keys : (m : Mastered) → In m (mastered w) → (x : Key) → (In x (keys_in (whole w) (area_of m)) → In x (keys_of m.context.entries)) × (In x (keys_of m.context.entries) → In x (keys_in (whole w) (area_of m)))
  same_keys m i x =
      subst (λ (es : List Named). (In x (keys_of es) → In x (keys_of m.context.entries)) × (In x (keys_of m.context.entries) → In x (keys_of es))) (sym (part_is_context w good once_pins m i)) (
        λ j. (let e = of_map key_at x (sorted_entries m.context.entries) j in subst (λ (y : Key). In y (keys_of m.context.entries)) (sym e.2) (in_map key_at e.0 m.context.entries (of_sorted named_below e.0 m.context.entries e.1))),
        λ j. (let e = of_map key_at x m.context.entries j in subst (λ (y : Key). In y (keys_of (sorted_entries m.context.entries))) (sym e.2) (in_map key_at e.0 (sorted_entries m.context.entries) (in_sorted named_below e.0 m.context.entries e.1))),
      )

  once_part : (m : Mastered) → In m (mastered w) → Once (keys_in (whole w) (area_of m))
  once_part m i =
      once_keys (part (whole w) (pin_of m)) (filter_ascending named_below named_chain (λ (e : Named). belongs (pins w) (pin_of m) (key_at e)) (whole w).entries (whole_in_order w good once_pins))

  pub begins : StandsWith (knowledge_of w) (whole w)
  begins = (
    reordering_keeps (knowledge_of w) (keys_in (whole w)) (consistent_is_coherent w described consistent)
        (record {
          members = λ d x j. (let m = of_map area_of d (mastered w) j in subst (λ (y : Area). (In x (keys_in (whole w) y) → In x y.entries) × (In x y.entries → In x (keys_in (whole w) y))) (sym m.2) (same_keys m.0 m.1 x));
          once = λ d j. (let m = of_map area_of d (mastered w) j in subst (λ (y : Area). Once (keys_in (whole w) y)) (sym m.2) (once_part m.0 m.1));
        }),
    record {
      in_order = whole_in_order w good once_pins;
      pins = λ q. (λ i. subst (λ (ks : List Key). In q ks) (sym (map_map (holding (keys_in (whole w))) (λ (d : Area). d.prefix) (map area_of (mastered w)) ∙ map_map area_of (λ (d : Area). d.prefix) (mastered w))) i, λ i. subst (λ (ks : List Key). In q ks) (map_map (holding (keys_in (whole w))) (λ (d : Area). d.prefix) (map area_of (mastered w)) ∙ map_map area_of (λ (d : Area). d.prefix) (mastered w)) i);
      parts = λ d j. (let v = of_map (holding (keys_in (whole w))) d (map area_of (mastered w)) j in ap (λ (x : Area). x.entries) v.2 ∙ ap (λ (x : Key). keys_of (part (whole w) x)) (ap (λ (x : Area). x.prefix) (sym v.2)));
      parted = λ e j. (let m = of_whole w good once_pins e j in (
        holding (keys_in (whole w)) (area_of m.0),
        in_map (holding (keys_in (whole w))) (area_of m.0) (map area_of (mastered w)) (in_map area_of m.0 (mastered w) m.1),
        subst (λ (es : List Named). In e es) (sym (part_is_context w good once_pins m.0 m.1)) (in_sorted named_below e m.0.context.entries m.2),
      ));
    },
    (whole_is_tree w good once_pins).ordered,
  )

-- ---- line by line

module _ (k : Knowledge) where
  abbrev or_left : Tree → Applied → Tree
  or_left t (Ok u) = u
  or_left t (Err x) = t

  request_stands : (t : Tree) (r : Request) → StandsWith k t → StandsWith k (tree_with t r)
  request_stands t r s =
      elim (ok_or_err (apply t r)) [
        | inl u ↦
            let v = updates_keep (with_entries (keys_in t) k) t u.0 r s.0 s.1 u.1 in
            subst (λ (x : Tree). StandsWith k x) (sym (ap (or_left t) u.1)) (subst (λ (x : Knowledge). Coherent x × IsTreeOf x u.0 × (list_all (λ (e : Named). is_ordered e.entry) u.0.entries ≡ true)) (again t u.0 k) (v.0, v.1, order_stays (with_entries (keys_in t) k) t u.0 r s.0 s.1 s.2 u.1))
        | inr x ↦ subst (λ (y : Tree). StandsWith k y) (sym (ap (or_left t) x.1)) s
      ]

  accepted_stand : (accepted : List Acceptance) (t : Tree) → StandsWith k t → StandsWith k (tree_accepting accepted t)
  accepted_stand [] t s = s
  accepted_stand (a ∷ more) t s = accepted_stand more (tree_with t a.request) (request_stands t a.request s)

  deed_stands : (d : Deed) (t : Tree) → MovesNone d → StandsWith k t → StandsWith k (tree_after d t)
  deed_stands Nothing t n s = s
  deed_stands (Outs o) t n s = s
  deed_stands (Loses reply j) t n s = s
  deed_stands (Accepts accepted) t n s = accepted_stand accepted t s
  deed_stands (Refreshes f) t n s = s
  deed_stands (Splits name a) t n s = absurd n
  deed_stands (Unsplits name) t n s = absurd n

  lines_stand_with : (w : World) (past : List Did) → NoneMoved past → StandsWith k (whole w) → StandsWith k (tree_by w past)
  lines_stand_with w [] n s = s
  lines_stand_with w (d ∷ before) n s = deed_stands d.deed (tree_by w before) n.0 (lines_stand_with w before n.1 s)

-- contexts and references stay
knowledge_stays : (w : World) (past : List Did) → NoneMoved past → knowledge_by w past ≡ w
knowledge_stays w [] n = refl
knowledge_stays w (d ∷ before) n = by d.deed n.0 (knowledge_stays w before n.1)
  where
    by : (x : Deed) → MovesNone x → knowledge_by w before ≡ w → knowledge_after w before x (knowledge_by w before) ≡ w
    by Nothing m q = q
    by (Outs o) m q = q
    by (Loses reply j) m q = q
    by (Accepts accepted) m q = q
    by (Refreshes f) m q = q
    by (Splits name a) m q = absurd m
    by (Unsplits name) m q = absurd m

pub lines_stand : LinesStand
lines_stand w past described consistent none =
    let same : knowledge_by w past ≡ w = knowledge_stays w past none in
    let s = lines_stand_with (knowledge_of w) w past none (begins w described consistent) in
    let now : knowledge_of (with_tree (tree_by w past) (knowledge_by w past)) ≡ with_entries (keys_in (tree_by w past)) (knowledge_of w) =
    knowledge_now (tree_by w past) (knowledge_by w past) ∙ ap (λ (x : World). with_entries (keys_in (tree_by w past)) (knowledge_of x)) same in
    record {
      described = subst (λ (x : World). IsDescribed x) (sym same) described;
      consistent = subst (λ (x : World). IsConsistent x) (sym same) consistent;
      coherent = subst (λ (x : Knowledge). Coherent x) (sym now) s.0;
      ordered = s.2;
      tree = subst (λ (x : Knowledge). IsTreeOf x (tree_by w past)) (sym now) s.1;
    }

-- ---- runs move no contexts

abbrev accepted_deed : Request → List ℕ → Deed
accepted_deed r [] = Nothing
accepted_deed r (a ∷ more) = Accepts (map (λ x. record { agent = x; request = r }) (a ∷ more))

accepts_none_moved : (r : Request) (accepted : List ℕ) → MovesNone (accepted_deed r accepted)
accepts_none_moved r [] = tt
accepts_none_moved r (a ∷ more) = tt

refreshed_none_moved : (o : RefreshOutcome) → MovesNone (refreshed_by o)
refreshed_none_moved (Done f) = tt
refreshed_none_moved Unheard = tt
refreshed_none_moved (Problem n) = tt
refreshed_none_moved (Missed a b) = tt
refreshed_none_moved NotConsistent = tt

did_none_move : (command : Command) (block : Block) → MovesNone (did_by command block).deed
did_none_move Blank block = tt
did_none_move (Changes o) block = tt
did_none_move (Drops reply n) block = tt
did_none_move (Asks to r) Silent = tt
did_none_move (Asks to r) Set = tt
did_none_move (Asks to r) (Replies j reply) = accepts_none_moved r (reverse j.accepted)
did_none_move (Asks to r) (Refreshing b) = tt
did_none_move (Asks to r) (Handed by n j reply) = tt
did_none_move (Asks to r) (Rejected raw breach) = tt
did_none_move (Updates number pushes total) Silent = tt
did_none_move (Updates number pushes total) Set = tt
did_none_move (Updates number pushes total) (Replies j reply) = tt
did_none_move (Updates number pushes total) (Refreshing b) = refreshed_none_moved b.outcome
did_none_move (Updates number pushes total) (Handed by n j reply) = tt
did_none_move (Updates number pushes total) (Rejected raw breach) = tt
did_none_move (Hands via to count (Ok m)) Silent = tt
did_none_move (Hands via to count (Ok m)) Set = tt
did_none_move (Hands via to count (Ok m)) (Replies j reply) = tt
did_none_move (Hands via to count (Ok m)) (Refreshing b) = tt
did_none_move (Hands via to count (Ok m)) (Handed by n j reply) = accepts_none_moved m.request (reverse j.accepted)
did_none_move (Hands via to count (Ok m)) (Rejected raw breach) = tt
did_none_move (Hands via to count (Err x)) Silent = tt
did_none_move (Hands via to count (Err x)) Set = tt
did_none_move (Hands via to count (Err x)) (Replies j reply) = tt
did_none_move (Hands via to count (Err x)) (Refreshing b) = tt
did_none_move (Hands via to count (Err x)) (Handed by n j reply) = tt
did_none_move (Hands via to count (Err x)) (Rejected raw breach) = tt

run_none_moved : (judge : Judge) (w : World) (commands : List Command) (blocks : List Block) (past : List Did) → IsRun judge w commands blocks past → NoneMoved past
run_none_moved judge w commands blocks past begin = tt
run_none_moved judge w commands blocks past (next {commands = cs} {blocks = bs} {past = before} command block run is) = (did_none_move command block, run_none_moved judge w cs bs before run)

pub runs_stand : (judge : Judge) → RunsStand judge
runs_stand judge w commands blocks past described consistent run = lines_stand w past described consistent (run_none_moved judge w commands blocks past run)
