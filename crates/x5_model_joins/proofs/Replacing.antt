-- The right answer of a part takes the place of the reference by which it was asked: field by field of what tells so
-- far, from the laws of contexts and of entries.
use Rattle.std.proofs.Common.{◌≡◌, ℕ, Bool, true, false, cond, not, ◌&&◌, ◌==◌, ◌⊎◌, inl, inr, ◌↔◌, List, [], ◌∷◌, ◌++◌, map, refl, sym, ap, subst, ◌∙◌, Option, Some, None}
use Rattle.std.specs.List.{list_all, filter, AllByRecursion}
use Rattle.std.specs.Option.{is_some}
use Rattle.std.proofs.lemmas.Bool.Decides.{Decides-eqb}
use Rattle.x5_model.specs.Words.{distinct, is_empty, some_and}
use Rattle.x5_model.specs.Members.{In, there}
use Rattle.x5_model.specs.Keys.{Key, same_key}
use Rattle.x5_model.specs.Values.{key_of}
use Rattle.x5_model.specs.Requests.{Body, ListBelow, Search, Request}
use Rattle.x5_model.specs.References.{Reference, Chained}
use Rattle.x5_model.specs.Answers.{Source, Answer, EntryFound, Matched, Listed, Found, Changed, Reply, Answered}
use Rattle.x5_model.proofs.KeyLaws.{key_decides}
use Rattle.x5_model.proofs.Prefixes.{prefix_decides}
use Rattle.x5_model.proofs.Decide.{once_decides}
use Rattle.x5_model.proofs.Lists.{both_true, and_true, in_left, in_right, in_either, in_map, of_any, of_all, all_in}
use Rattle.x5_model_tree.specs.World.{World, Agreement}
use Rattle.x5_model_tree.specs.Masters.{is_consumer}
use Rattle.x5_model_tree.specs.Ask.{rest_of, sources_of, unexplored_of, is_update}
use Rattle.x5_model_run.specs.Journal.{Line, Journal, is_done, is_wide}
use Rattle.x5_model_run.specs.Holdings.{may_copy}
use Rattle.x5_model_run.specs.Needs.{subset_of, passing_needs}
use Rattle.x5_model_run.specs.History.{Point, knowledge_at, tree_at, as_of}
use Rattle.x5_model_run.specs.Chain.{Scene, AllLicensed, IsCarried, is_user, part_body, part_request}
use Rattle.x5_model_run.specs.Covers.{covered_roots, covers, are_apart, touched, mixed, is_copied, told}
use Rattle.x5_model_run.specs.Blocked.{Asked, hears_by, hears, IsLost, Blocked, untried, lost}
use Rattle.x5_model_run.specs.Right.{kept_name, is_copy_source, is_source, same_keys, uncovered, IsResult, Right, result, changed, error, referral, unheard}
use Rattle.x5_model_run.specs.Placed.{is_query_below}
use Rattle.x5_model_replies.specs.Replies.{RightReply, usual, unable, limit}
use Rattle.x5_model_parts.specs.Standing.{StoodAt, CopiesStand}
use Rattle.x5_model_parts.specs.Parts.{BeginsHere, rest_needs, looks_into}
use Rattle.x5_model_theory.proofs.Following.{query_of, part_fits}
use Rattle.x5_model_parts.proofs.Asking.{false_true}
use Rattle.x5_model_parts.proofs.Parting.{request_is}
use Rattle.x5_model_parts.proofs.Joining.{sight, View, the_view, asks, scope_is_covered}
use Rattle.x5_model_parts.proofs.Nesting.{same_are_asked}
use Rattle.x5_model_serve.specs.Answering.{with_unexplored, limited_answer}
use Rattle.x5_model_serve.specs.Serving.{hand_of, line_for, is_spent}
use Rattle.x5_model_serve.specs.Claims.{asked_line, Tells, LiesWithin}
use Rattle.x5_model_joins.specs.Joins.{AreParts, AsksPart, PartReplaces}
use Rattle.x5_model_joins.proofs.Backs.{hears_further, lost_further}
use Rattle.x5_model_joins.proofs.Untried.{of_contains, untried_passing}
use Rattle.x5_model_joins.proofs.Joined.{map_joined}
use Rattle.x5_model_joins.proofs.Contexts.{all_joined, each_joined, still_apart, exactly_both, once_both, second_covered, covers_below}
use Rattle.x5_model_joins.proofs.Entries.{alike, told_alike, joins_limited}

-- ---- what a right reply with an answer to a list or search is

from_right : (p : Point) (s : Scene) (q : Asked) (j : Journal) (reply : Reply) → Right p s q j reply → (c : Answer) → reply ≡ Answered c → is_update q.message.request.body ≡ false → IsResult p s q j.lines c
from_right p s q j reply (result {a = a} on res no_update none) c e f = (let same : a ≡ c = cc in subst (λ (x : Answer). IsResult p s q j.lines x) same res)
from_right p s q j reply (changed on update some) c e f = absurd (false_true (sym f ∙ update))
from_right p s q j reply (error on t i n) c e f = cc
from_right p s q j reply (referral u h n) c e f = cc
from_right p s q j reply (unheard l h n) c e f = cc

pub result_of : (p : Point) (s : Scene) (q : Asked) (j : Journal) (spent : Bool) (reply : Reply) → RightReply p s q j spent reply → (c : Answer) → reply ≡ Answered c → is_update q.message.request.body ≡ false → IsResult p s q j.lines c
result_of p s q j spent reply (usual h right) c e f = from_right p s q j reply right c e f
result_of p s q j spent reply (unable h) c e f = cc
result_of p s q j spent reply (limit on h none) c e f = cc

-- what is final and blocked is lost
all_lost : (s : Scene) (q : Asked) (lines : List Line) (us : List Reference) → AllByRecursion (Blocked s q lines) us → is_empty (filter (λ r. not r.tried) us) ≡ true → AllByRecursion (IsLost s q lines) us
all_lost s q lines [] h e = tt
all_lost s q lines (u ∷ us) h e = by u.tried refl (λ f. all_lost s q lines us h.1 f) e
  where
    lost_one : Blocked s q lines u → u.tried ≡ true → IsLost s q lines u
    lost_one (untried x) t = absurd (false_true (sym (untried_passing (s.holdings q.to) q.message u (of_contains (passing_needs (s.holdings q.to) q.message) u x.needed)) ∙ t))
    lost_one (lost x) t = x

    by : (b : Bool) → u.tried ≡ b → (is_empty (filter (λ r. not r.tried) us) ≡ true → AllByRecursion (IsLost s q lines) us) → is_empty (cond (not b) (u ∷ filter (λ r. not r.tried) us) (filter (λ r. not r.tried) us)) ≡ true → AllByRecursion (IsLost s q lines) (u ∷ us)
    by true t rest f = (lost_one h.0 t, rest f)
    by false t rest f = absurd (false_true f)

-- ---- sources

same_copies : (user wide : Bool) (l k : Chained) → is_query_below l.request.body ≡ true → k.request ≡ part_request user wide k.target l.request → may_copy k.request ≡ may_copy l.request
same_copies user wide l k query is = ap may_copy is ∙ ap (λ b. not l.request.controls.nocopy && not b) (by l.request.body query)
  where
    by : (b : Body) → is_query_below b ≡ true → is_update (part_body wide k.target b) ≡ is_update b
    by (ListBelow name) e = refl
    by (Search base subset f selection) e = refl
    by b e = absurd (false_true e)

source_too : (p : Point) (q r : Asked) (lines : List Line) → may_copy q.message.request ≡ may_copy r.message.request → ((a : ℕ) → hears q lines a ≡ true → hears r lines a ≡ true) → (x : Source) → is_source p q lines x ≡ true → is_source p r lines x ≡ true
source_too p q r lines copies more x h = go x.moment h
  where
    go : (o : Option ℕ) → is_source p q lines (record x { moment = o }) ≡ true → is_source p r lines (record x { moment = o }) ≡ true
    go None e =
        let b = both_true (hears q lines x.agent) _ e in and_true (hears r lines x.agent) _ (more x.agent b.0) b.1
    go (Some m) e =
        let b = both_true (hears q lines x.agent) (may_copy q.message.request && is_copy_source p x m) e in
        and_true (hears r lines x.agent) (may_copy r.message.request && is_copy_source p x m) (more x.agent b.0) (ap (λ y. y && is_copy_source p x m) (sym copies) ∙ b.1)

-- a source's copy is of a moment at which contexts were the same
pub source_stood : (p : Point) (q : Asked) (lines : List Line) → (may_copy q.message.request ≡ false) ⊎ CopiesStand p → (x : Source) (m : ℕ) → is_source p q lines x ≡ true → x.moment ≡ Some m → StoodAt p m
source_stood p q lines copies x m h e =
    let at : is_source p q lines (record x { moment = Some m }) ≡ true = subst (λ (o : Option ℕ). is_source p q lines (record x { moment = o }) ≡ true) e h in
    let b = both_true (hears q lines x.agent) (may_copy q.message.request && is_copy_source p x m) at in
    let c = both_true (may_copy q.message.request) (is_copy_source p x m) b.1 in
    let g = of_any (λ (a : Agreement). is_consumer x.agent (key_of x.context) a && some_and (λ t. t == m) (as_of p a.number)) (knowledge_at p).agreements c.1 in
    let d = both_true (is_consumer x.agent (key_of x.context) g.0) (some_and (λ t. t == m) (as_of p g.0.number)) g.2 in
    elim copies [
      | inl none ↦ absurd (false_true (sym none ∙ c.0))
      | inr stood ↦ stood g.0 m g.1 (at_moment (as_of p g.0.number) d.1)
    ]
  where
    at_moment : (o : Option ℕ) → some_and (λ t. t == m) o ≡ true → o ≡ Some m
    at_moment None f = cc
    at_moment (Some t) f = ap Some ((Decides-eqb t m).0 f)

pub are_parts : (p : Point) (q : Asked) (lines : List Line) → (may_copy q.message.request ≡ false) ⊎ CopiesStand p → (xs : List Source) → list_all (is_source p q lines) xs ≡ true → distinct same_key (map (λ x. key_of x.context) xs) ≡ true → AreParts p xs
are_parts p q lines copies xs all once = record {
  once = (once_decides same_key key_decides (map (λ x. key_of x.context) xs)).0 once;
  stood = λ x m i e. source_stood p q lines copies x m (of_all (is_source p q lines) x xs all i) e;
}

-- ---- a part

module _ (p : Point) (s : Scene) (l k : Line) (from : Option ℕ) (j : Journal) (stood at : ℕ) (r : Reference) (b : BeginsHere p l) (needed : In r (rest_needs p l)) (agent : In k.receiver r.agents)
    (carried : IsCarried from (line_for (hand_of l)) r k.message) (all : AllLicensed s j.lines) (back : hears_by (λ x. x.number == k.number) (asked_line l stood) j.lines ≡ true) where
  abbrev w : World
  w = knowledge_at p

  abbrev q : Asked
  q = asked_line l stood

  abbrev qk : Asked
  qk = asked_line k at

  on_line : IsCarried from l r k.message
  on_line = record {
    target_is = carried.target_is;
    progress_is = carried.progress_is;
    kind_is = carried.kind_is;
    exclusions_are = carried.exclusions_are;
    trace_is = carried.trace_is;
    request_is = carried.request_is;
  }

  asked : subset_of l.message ≡ Some (sight p l b).look.subset
  asked = (sight p l b).sees_it.subset

  query : is_query_below l.message.request.body ≡ true
  query = query_of l.message (ap is_some asked)

  request : k.message.request ≡ part_request (is_user from) (is_wide r.kind) k.message.target l.message.request
  request = request_is l from r k.message on_line (asks p l b r (the_view p l b r needed)) (sight p l b).look.subset asked

  part_query : is_update k.message.request.body ≡ false
  part_query = ap (λ (x : Request). is_update x.body) request ∙ by l.message.request.body query
    where
      by : (x : Body) → is_query_below x ≡ true → is_update (part_body (is_wide r.kind) k.message.target x) ≡ false
      by (ListBelow name) e = refl
      by (Search base subset f selection) e = refl
      by x e = absurd (false_true e)

  scope : (z : Key) → In z (looks_into p k.receiver k.message) ↔ (In z (looks_into p l.receiver l.message) × (covers (knowledge_at p) r z ≡ true))
  scope z = scope_is_covered p l from r k.message k.receiver z b needed agent on_line

  heard_too : (a : ℕ) → hears qk j.lines a ≡ true → hears q j.lines a ≡ true
  heard_too a h = hears_further s q qk (λ x. x.receiver == a) j.lines all back h

  module _ (xs ys : List Source) (us cs rs : List Reference)
      (sources : list_all (is_source p q j.lines) xs ≡ true) (once : distinct same_key (map (λ x. key_of x.context) xs) ≡ true)
      (exactly : same_keys (map (λ x. key_of x.context) xs) (uncovered p q (us ++ r ∷ rs)) ≡ true)
      (completed : list_all (λ x. is_done x.progress) (us ++ r ∷ rs) ≡ true) (apart : are_apart (knowledge_at p) (us ++ r ∷ rs) ≡ true)
      (nested : (u : Reference) (z : Key) → In u (us ++ r ∷ rs) → In z (covered_roots (knowledge_at p) u) → In z (touched (knowledge_at p) (tree_at p) l.receiver l.message))
      (part_sources : list_all (is_source p qk j.lines) ys ≡ true) (part_once : distinct same_key (map (λ x. key_of x.context) ys) ≡ true)
      (part_exactly : same_keys (map (λ x. key_of x.context) ys) (uncovered p qk cs) ≡ true)
      (part_completed : list_all (λ x. is_done x.progress) cs ≡ true) (part_apart : are_apart (knowledge_at p) cs ≡ true)
      (part_nested : (u : Reference) (z : Key) → In u cs → In z (covered_roots (knowledge_at p) u) → In z (touched (knowledge_at p) (tree_at p) k.receiver k.message)) where
    abbrev at_key : Source → Key
    at_key x = key_of x.context

    inside : (u : Reference) (z : Key) → In u cs → In z (covered_roots (knowledge_at p) u) → covers (knowledge_at p) r z ≡ true
    inside u z i c = ((scope z).0 (part_nested u z i c)).1

    sources_after : list_all (is_source p q j.lines) (xs ++ ys) ≡ true
    sources_after = all_joined (is_source p q j.lines) xs ys sources (all_in (is_source p q j.lines) ys (λ x i. source_too p qk q j.lines (same_copies (is_user from) (is_wide r.kind) l.message k.message query request) heard_too x (of_all (is_source p qk j.lines) x ys part_sources i)))

    once_after : distinct same_key (map at_key (xs ++ ys)) ≡ true
    once_after = subst (λ (ks : List Key). distinct same_key ks ≡ true) (sym (map_joined at_key xs ys))
        (once_both (knowledge_at p) us rs cs r apart inside (looks_into p l.receiver l.message) (looks_into p k.receiver k.message) scope (map at_key xs) (map at_key ys) exactly part_exactly once part_once)

    exactly_after : same_keys (map at_key (xs ++ ys)) (uncovered p q ((us ++ cs) ++ rs)) ≡ true
    exactly_after = subst (λ (ks : List Key). same_keys ks (uncovered p q ((us ++ cs) ++ rs)) ≡ true) (sym (map_joined at_key xs ys))
        (exactly_both (knowledge_at p) us rs cs r apart inside (looks_into p l.receiver l.message) (looks_into p k.receiver k.message) scope (map at_key xs) (map at_key ys) exactly part_exactly)

    completed_after : list_all (λ x. is_done x.progress) ((us ++ cs) ++ rs) ≡ true
    completed_after = all_in (λ x. is_done x.progress) ((us ++ cs) ++ rs) (λ u i. elim (in_either u (us ++ cs) rs i) [
      | inl m ↦ elim (in_either u us cs m) [
        | inl n ↦ of_all (λ x. is_done x.progress) u (us ++ r ∷ rs) completed (in_left u us (r ∷ rs) n)
        | inr n ↦ of_all (λ x. is_done x.progress) u cs part_completed n
      ]
      | inr m ↦ of_all (λ x. is_done x.progress) u (us ++ r ∷ rs) completed (in_right u us (r ∷ rs) (there m))
    ])

    apart_after : are_apart (knowledge_at p) ((us ++ cs) ++ rs) ≡ true
    apart_after = still_apart (knowledge_at p) us rs cs r apart inside part_apart

    nested_after : (u : Reference) (z : Key) → In u ((us ++ cs) ++ rs) → In z (covered_roots (knowledge_at p) u) → In z (touched (knowledge_at p) (tree_at p) l.receiver l.message)
    nested_after u z i c = elim (in_either u (us ++ cs) rs i) [
      | inl m ↦ elim (in_either u us cs m) [
        | inl n ↦ nested u z (in_left u us (r ∷ rs) n) c
        | inr n ↦ ((scope z).0 (part_nested u z n c)).0
      ]
      | inr m ↦ nested u z (in_right u us (r ∷ rs) (there m)) c
    ]

    parts_after : AreParts p (xs ++ ys)
    parts_after = are_parts p q j.lines b.copies (xs ++ ys) sources_after once_after

    asks_part : AsksPart l.message k.message ys
    asks_part = record {
      by_user = is_user from;
      wide = is_wide r.kind;
      request_is = request;
      same = λ x e i on. same_are_asked p l from r k.message e b needed on_line
          (covers_below (knowledge_at p) r (key_of x.context) e
          (second_covered (knowledge_at p) us rs cs r apart inside (looks_into p l.receiver l.message) (looks_into p k.receiver k.message) scope (map at_key xs) (map at_key ys) exactly part_exactly (key_of x.context) (in_map at_key x ys i))
          ((prefix_decides (key_of x.context) e).0 on));
    }

  -- all of this together
  pub record After (xs ys : List Source) (us cs rs : List Reference) : Type 0 where
    pub sources : list_all (is_source p q j.lines) (xs ++ ys) ≡ true
    pub once : distinct same_key (map (λ x. key_of x.context) (xs ++ ys)) ≡ true
    pub exactly : same_keys (map (λ x. key_of x.context) (xs ++ ys)) (uncovered p q ((us ++ cs) ++ rs)) ≡ true
    pub completed : list_all (λ x. is_done x.progress) ((us ++ cs) ++ rs) ≡ true
    pub apart : are_apart (knowledge_at p) ((us ++ cs) ++ rs) ≡ true
    pub nested : (u : Reference) (z : Key) → In u ((us ++ cs) ++ rs) → In z (covered_roots (knowledge_at p) u) → In z (touched (knowledge_at p) (tree_at p) l.receiver l.message)
    pub parts : AreParts p (xs ++ ys)
    pub asks : AsksPart l.message k.message ys

  pub after_part : (a c : Answer) (xs ys : List Source) (us cs rs : List Reference) → Tells p s q j.lines a → sources_of a ≡ xs → unexplored_of a ≡ us ++ r ∷ rs
      → IsResult p s qk j.lines c → LiesWithin p qk (Answered c) → sources_of c ≡ ys → unexplored_of c ≡ cs → After xs ys us cs rs
  after_part a c xs ys us cs rs t xa ua res within yc uc = record {
    sources = sources_after xs ys us cs rs t_sources t_once t_exactly t_completed t_apart t_nested c_sources c_once c_exactly c_completed c_apart c_nested;
    once = once_after xs ys us cs rs t_sources t_once t_exactly t_completed t_apart t_nested c_sources c_once c_exactly c_completed c_apart c_nested;
    exactly = exactly_after xs ys us cs rs t_sources t_once t_exactly t_completed t_apart t_nested c_sources c_once c_exactly c_completed c_apart c_nested;
    completed = completed_after xs ys us cs rs t_sources t_once t_exactly t_completed t_apart t_nested c_sources c_once c_exactly c_completed c_apart c_nested;
    apart = apart_after xs ys us cs rs t_sources t_once t_exactly t_completed t_apart t_nested c_sources c_once c_exactly c_completed c_apart c_nested;
    nested = nested_after xs ys us cs rs t_sources t_once t_exactly t_completed t_apart t_nested c_sources c_once c_exactly c_completed c_apart c_nested;
    parts = parts_after xs ys us cs rs t_sources t_once t_exactly t_completed t_apart t_nested c_sources c_once c_exactly c_completed c_apart c_nested;
    asks = asks_part xs ys us cs rs t_sources t_once t_exactly t_completed t_apart t_nested c_sources c_once c_exactly c_completed c_apart c_nested;
  }
    where
      t_sources : list_all (is_source p q j.lines) xs ≡ true
      t_sources = subst (λ (zs : List Source). list_all (is_source p q j.lines) zs ≡ true) xa t.sources

      t_once : distinct same_key (map (λ x. key_of x.context) xs) ≡ true
      t_once = subst (λ (zs : List Source). distinct same_key (map (λ x. key_of x.context) zs) ≡ true) xa t.once

      t_exactly : same_keys (map (λ x. key_of x.context) xs) (uncovered p q (us ++ r ∷ rs)) ≡ true
      t_exactly = (λ i. same_keys (map (λ x. key_of x.context) (sym xa i)) (uncovered p q (sym ua i))) ∙ t.exactly

      t_completed : list_all (λ x. is_done x.progress) (us ++ r ∷ rs) ≡ true
      t_completed = subst (λ (zs : List Reference). list_all (λ x. is_done x.progress) zs ≡ true) ua t.completed

      t_apart : are_apart (knowledge_at p) (us ++ r ∷ rs) ≡ true
      t_apart = subst (λ (zs : List Reference). are_apart (knowledge_at p) zs ≡ true) ua t.apart

      t_nested : (u : Reference) (z : Key) → In u (us ++ r ∷ rs) → In z (covered_roots (knowledge_at p) u) → In z (touched (knowledge_at p) (tree_at p) l.receiver l.message)
      t_nested u z i v = t.nested u z (subst (λ (zs : List Reference). In u zs) (sym ua) i) v

      c_sources : list_all (is_source p qk j.lines) ys ≡ true
      c_sources = subst (λ (zs : List Source). list_all (is_source p qk j.lines) zs ≡ true) yc res.sources

      c_once : distinct same_key (map (λ x. key_of x.context) ys) ≡ true
      c_once = subst (λ (zs : List Source). distinct same_key (map (λ x. key_of x.context) zs) ≡ true) yc res.once

      c_exactly : same_keys (map (λ x. key_of x.context) ys) (uncovered p qk cs) ≡ true
      c_exactly = (λ i. same_keys (map (λ x. key_of x.context) (sym yc i)) (uncovered p qk (sym uc i))) ∙ res.exactly

      c_completed : list_all (λ x. is_done x.progress) cs ≡ true
      c_completed = subst (λ (zs : List Reference). list_all (λ x. is_done x.progress) zs ≡ true) uc res.completed

      c_apart : are_apart (knowledge_at p) cs ≡ true
      c_apart = subst (λ (zs : List Reference). are_apart (knowledge_at p) zs ≡ true) uc res.apart

      c_nested : (u : Reference) (z : Key) → In u cs → In z (covered_roots (knowledge_at p) u) → In z (touched (knowledge_at p) (tree_at p) k.receiver k.message)
      c_nested u z i v = within u z (subst (λ (zs : List Reference). In u zs) (sym uc) i) v

  pub is_answer : (spent : Bool) (c : Answer) → RightReply p s qk j spent (Answered c) → IsResult p s qk j.lines c
  is_answer spent c h = result_of p s qk j spent (Answered c) h c refl part_query

  pub query_here : is_query_below l.message.request.body ≡ true
  query_here = query

  -- it and the whole so far have one form
  pub in_one_form : (a c : Answer) (rs : List Reference) → Tells p s q j.lines (with_unexplored (r ∷ rs) a) → IsResult p s qk j.lines c → alike a c ≡ true
  in_one_form a c rs t res =
      told_alike p l.message k.message (is_user from) (is_wide r.kind) a c b.stands
      (are_parts p q j.lines b.copies (sources_of a) (subst (λ (zs : List Source). list_all (is_source p q j.lines) zs ≡ true) (same_sources a) t.sources) (subst (λ (zs : List Source). distinct same_key (map (λ x. key_of x.context) zs) ≡ true) (same_sources a) t.once))
      (are_parts p qk j.lines copies (sources_of c) res.sources res.once)
      query request
      (sym (same_rest l.message.request.controls.size a) ∙ t.answered ∙ ap (λ (zs : List Source). told (is_copied p zs) (mixed p zs) l.message) (same_sources a))
      res.answered
    where
      copies : (may_copy k.message.request ≡ false) ⊎ CopiesStand p
      copies = elim b.copies [ inl e ↦ inl (same_copies (is_user from) (is_wide r.kind) l.message k.message query request ∙ e) | inr e ↦ inr e ]

      same_sources : (x : Answer) → sources_of (with_unexplored (r ∷ rs) x) ≡ sources_of x
      same_sources (EntryFound info source) = refl
      same_sources (Matched equal copy source) = refl
      same_sources (Listed subs sources o) = refl
      same_sources (Found infos sources o) = refl
      same_sources Changed = refl

      same_rest : (size : Option ℕ) (x : Answer) → rest_of (limited_answer size (with_unexplored (r ∷ rs) x)) ≡ rest_of (limited_answer size x)
      same_rest size (EntryFound info source) = refl
      same_rest size (Matched equal copy source) = refl
      same_rest size (Listed subs sources o) = refl
      same_rest size (Found infos sources o) = refl
      same_rest size Changed = refl

-- what was lost for a part is lost for the whole
all_further : (s : Scene) (q r : Asked) (lines : List Line) → AllLicensed s lines → hears_by (λ x. x.number == r.number) q lines ≡ true → r.counts ≡ true → (us : List Reference) → AllByRecursion (IsLost s r lines) us → AllByRecursion (IsLost s q lines) us
all_further s q r lines all back counts [] h = tt
all_further s q r lines all back counts (u ∷ us) h = (lost_further s q r lines all back counts u h.0, all_further s q r lines all back counts us h.1)

-- sources of both are spelled as their agents keep them
spelled_both : (s : Scene) (xs ys : List Source) → map (kept_name s) xs ≡ map (λ x. Some x.context) xs → map (kept_name s) ys ≡ map (λ x. Some x.context) ys → map (kept_name s) (xs ++ ys) ≡ map (λ x. Some x.context) (xs ++ ys)
spelled_both s xs ys e f = map_joined (kept_name s) xs ys ∙ (λ i. e i ++ f i) ∙ sym (map_joined (λ (x : Source). Some x.context) xs ys)

pub part_replaces : PartReplaces
part_replaces p s most l k from j stood (Listed subs xs o) (Listed more ys v) r rest b i all ia carried so heard =
    let res = is_answer p s l k from j stood heard.stood r b i ia carried all heard.back (is_spent most j) (Listed more ys v) heard.right in
    let x = after_part p s l k from j stood heard.stood r b i ia carried all heard.back (Listed subs xs (record o { unexplored = o.unexplored ++ r ∷ rest })) (Listed more ys v) xs ys o.unexplored v.unexplored rest so.tells refl refl res heard.within refl refl in
    let t = joins_limited p l.message k.message (Listed subs xs o) (Listed more ys v) b.stands x.parts b.fit (query_here p s l k from j stood heard.stood r b i ia carried all heard.back) x.asks so.tells.ordered so.tells.answered res.answered in
    record {
      tells = record { found = so.tells.found; spelled = spelled_both s xs ys so.tells.spelled res.spelled; sources = x.sources; once = x.once; exactly = x.exactly; ordered = t.0; answered = t.1; completed = x.completed; apart = x.apart; nested = x.nested };
      lost = each_joined (IsLost s (asked_line l stood) j.lines) o.unexplored v.unexplored so.lost (all_further s (asked_line l stood) (asked_line k heard.stood) j.lines all heard.back refl v.unexplored (all_lost s (asked_line k heard.stood) j.lines v.unexplored res.blocked heard.followed));
    }
part_replaces p s most l k from j stood (Found infos xs o) (Found more ys v) r rest b i all ia carried so heard =
    let res = is_answer p s l k from j stood heard.stood r b i ia carried all heard.back (is_spent most j) (Found more ys v) heard.right in
    let x = after_part p s l k from j stood heard.stood r b i ia carried all heard.back (Found infos xs (record o { unexplored = o.unexplored ++ r ∷ rest })) (Found more ys v) xs ys o.unexplored v.unexplored rest so.tells refl refl res heard.within refl refl in
    let t = joins_limited p l.message k.message (Found infos xs o) (Found more ys v) b.stands x.parts b.fit (query_here p s l k from j stood heard.stood r b i ia carried all heard.back) x.asks so.tells.ordered so.tells.answered res.answered in
    record {
      tells = record { found = so.tells.found; spelled = spelled_both s xs ys so.tells.spelled res.spelled; sources = x.sources; once = x.once; exactly = x.exactly; ordered = t.0; answered = t.1; completed = x.completed; apart = x.apart; nested = x.nested };
      lost = each_joined (IsLost s (asked_line l stood) j.lines) o.unexplored v.unexplored so.lost (all_further s (asked_line l stood) (asked_line k heard.stood) j.lines all heard.back refl v.unexplored (all_lost s (asked_line k heard.stood) j.lines v.unexplored res.blocked heard.followed));
    }
part_replaces p s most l k from j stood a c r rest b i all ia carried so heard =
    absurd (false_true (in_one_form p s l k from j stood heard.stood r b i ia carried all heard.back a c rest so.tells
    (is_answer p s l k from j stood heard.stood r b i ia carried all heard.back (is_spent most j) c heard.right)))

-- what a part is asked is a list or search, by a completed reference
pub part_asks : (p : Point) (l : Line) (from : Option ℕ) (r : Reference) (m : Chained) → BeginsHere p l → In r (rest_needs p l) → IsCarried from (line_for (hand_of l)) r m → is_query_below m.request.body ≡ true
part_asks p l from r m b needed carried =
    ap (λ (x : Request). is_query_below x.body) (request_is l from r m here_too (asks p l b r (the_view p l b r needed)) (sight p l b).look.subset (sight p l b).sees_it.subset)
    ∙ (part_fits (is_user from) (is_wide r.kind) m.target l.message.request (query_of l.message (ap is_some (sight p l b).sees_it.subset))).2
  where
    here_too : IsCarried from l r m
    here_too = record {
      target_is = carried.target_is;
      progress_is = carried.progress_is;
      kind_is = carried.kind_is;
      exclusions_are = carried.exclusions_are;
      trace_is = carried.trace_is;
      request_is = carried.request_is;
    }

pub needed_done : (p : Point) (l : Line) (b : BeginsHere p l) (r : Reference) → In r (rest_needs p l) → is_done r.progress ≡ true
needed_done p l b r needed = by (the_view p l b r needed)
  where
    by : View p l b r → is_done r.progress ≡ true
    by (inl v) = ap is_done v.1.progress
    by (inr v) = ap is_done v.2.progress
