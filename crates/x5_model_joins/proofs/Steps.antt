-- The steps of the loop over references, and where it begins anew when what was left unexplored is followed: each takes
-- the head of what is still to be asked away.
use Rattle.std.proofs.Common.{◌≡◌, ℕ, Bool, true, false, cond, not, ◌==◌, if◌then◌else◌, inl, inr, List, [], ◌∷◌, ◌++◌, map, length, refl, sym, ap, subst, ◌∙◌, arith, Option, Some, None}
use Rattle.std.specs.List.{filter, AllByRecursion}
use Rattle.x5_model.specs.Members.{here}
use Rattle.x5_model.specs.Keys.{Key}
use Rattle.x5_model.specs.Values.{Name, key_of}
use Rattle.x5_model.specs.Filters.{Filter}
use Rattle.x5_model.specs.Problems.{unavailable, unable_to_proceed}
use Rattle.x5_model.specs.Requests.{Subset, Selection, Controls, Body, ListBelow, Search}
use Rattle.x5_model.specs.References.{Reference, TraceItem, Chained}
use Rattle.x5_model.specs.Answers.{Source, Answer, EntryFound, Matched, Listed, Found, Changed, NoSuchObject, ServiceProblem, Reply, Answered}
use Rattle.x5_model.proofs.KeyLaws.{key_decides}
use Rattle.x5_model.proofs.Lists.{both_true, and_true, either_true, or_left, or_right, in_right, of_all, all_in}
use Rattle.x5_model_tree.specs.Tree.{Tree, is_there_or_root, matched}
use Rattle.x5_model_tree.specs.Masters.{pin_of, mastered}
use Rattle.x5_model_tree.specs.Ask.{Told, Refuses, limited_list, limited_found, just_below, searched, sources_of, unexplored_of}
use Rattle.x5_model_run.specs.Journal.{Line, Journal, is_done, is_wide}
use Rattle.x5_model_run.specs.History.{Point, knowledge_at, tree_at}
use Rattle.x5_model_run.specs.Chain.{Scene}
use Rattle.x5_model_run.specs.Covers.{covered_roots, is_below_wide, told}
use Rattle.x5_model_run.specs.Blocked.{Asked, hears_by, hears, IsLost, user, asked}
use Rattle.x5_model_run.specs.Right.{is_found, is_source, same_phase, Right, result, changed, error, referral, unheard}
use Rattle.x5_model_run.specs.Placed.{is_query_below}
use Rattle.x5_model_replies.specs.Replies.{RightReply, usual, unable, limit}
use Rattle.x5_model_run.proofs.Growing.{lost_grows}
use Rattle.x5_model_parts.proofs.Asking.{false_true}
use Rattle.x5_model_serve.specs.Answering.{with_unexplored, in_vain, is_unavailable}
use Rattle.x5_model_serve.specs.Serving.{is_spent}
use Rattle.x5_model_serve.specs.Claims.{SoFar, Grows, line_at, asked_line, serving_of}
use Rattle.x5_model_replies.specs.Heard.{HeardRight}
use Rattle.x5_model_run.specs.Needs.{ends_here}
use Rattle.x5_model_joins.proofs.Walked.{of_the_rest}
use Rattle.x5_model_joins.proofs.Backs.{lost_further}
use Rattle.x5_model_joins.proofs.LeftOut.{loss_replaces}
use Rattle.x5_model_joins.specs.Joins.{SoFarStays, PartIsGathered, LossIsGathered, UnavailableIsGathered}
use Rattle.x5_model_joins.proofs.Replacing.{part_replaces, part_asks, needed_done}
use Rattle.x5_model_joins.proofs.Telling.{told_list, told_search}

-- ---- more messages

lost_stays : (s : Scene) (q : Asked) (lines new : List Line) (u : Reference) → IsLost s q lines u → IsLost s q (new ++ lines) u
lost_stays s q lines [] u h = h
lost_stays s q lines (x ∷ new) u h = lost_grows s q (new ++ lines) x u (lost_stays s q lines new u h)

-- how many `accepted` lines stood is nothing to it
lost_restood : (s : Scene) (l : Line) (a b : ℕ) (lines : List Line) (u : Reference) → IsLost s (asked_line l a) lines u → IsLost s (asked_line l b) lines u
lost_restood s l a b lines u (user t) = user (record { own = t.own; unheard = t.unheard; same = t.same })
lost_restood s l a b lines u (asked t) = asked (record {
  line = t.line;
  full = t.full;
  stands = t.stands;
  back = t.back;
  needed = t.needed;
  same = t.same;
  listed = t.listed;
  vain = t.vain;
  cleared = t.cleared;
})

all_stay : (s : Scene) (l : Line) (a b : ℕ) (lines new : List Line) (us : List Reference) → AllByRecursion (IsLost s (asked_line l a) lines) us → AllByRecursion (IsLost s (asked_line l b) (new ++ lines)) us
all_stay s l a b lines new [] h = tt
all_stay s l a b lines new (u ∷ us) h = (lost_restood s l a b (new ++ lines) u (lost_stays s (asked_line l a) lines new u h.0), all_stay s l a b lines new us h.1)

heard_stays : (q : Asked) (test : Line → Bool) (lines new : List Line) → hears_by test q lines ≡ true → hears_by test q (new ++ lines) ≡ true
heard_stays q test lines [] h = h
heard_stays q test lines (x ∷ new) h = or_right _ _ (heard_stays q test lines new h)

-- a source stays one where lines are added
source_stays : (p : Point) (l : Line) (a b : ℕ) (lines new : List Line) (x : Source) → is_source p (asked_line l a) lines x ≡ true → is_source p (asked_line l b) (new ++ lines) x ≡ true
source_stays p l a b lines new x h = go x.moment h
  where
    go : (o : Option ℕ) → is_source p (asked_line l a) lines (record x { moment = o }) ≡ true → is_source p (asked_line l b) (new ++ lines) (record x { moment = o }) ≡ true
    go None e = let c = both_true (hears (asked_line l a) lines x.agent) _ e in and_true (hears (asked_line l b) (new ++ lines) x.agent) _ (heard_stays (asked_line l a) (λ y. y.receiver == x.agent) lines new c.0) c.1
    go (Some m) e = let c = both_true (hears (asked_line l a) lines x.agent) _ e in and_true (hears (asked_line l b) (new ++ lines) x.agent) _ (heard_stays (asked_line l a) (λ y. y.receiver == x.agent) lines new c.0) c.1

found_stays : (s : Scene) (l : Line) (a b : ℕ) (lines new : List Line) → is_found s (asked_line l a) lines ≡ true → is_found s (asked_line l b) (new ++ lines) ≡ true
found_stays s l a b lines new h = elim (either_true (is_done l.message.progress) _ h) [
  | inl e ↦ or_left (is_done l.message.progress) _ e
  | inr e ↦ or_right (is_done l.message.progress) _ (heard_stays (asked_line l a) (λ y. ends_here (s.holdings y.receiver) y.message) lines new e)
]

so_far_at : (p : Point) (s : Scene) (l : Line) (m n : ℕ) (lines new : List Line) (a : Answer) (rest : List Reference) → SoFar p s (asked_line l m) lines a rest → SoFar p s (asked_line l n) (new ++ lines) a rest
so_far_at p s l m n lines new a rest so = record {
  tells = record {
    found = found_stays s l m n lines new so.tells.found;
    spelled = so.tells.spelled;
    sources = all_in (is_source p (asked_line l n) (new ++ lines)) (sources_of (with_unexplored rest a))
        (λ x k. source_stays p l m n lines new x (of_all (is_source p (asked_line l m) lines) x (sources_of (with_unexplored rest a)) so.tells.sources k));
    once = so.tells.once;
    exactly = so.tells.exactly;
    ordered = so.tells.ordered;
    answered = so.tells.answered;
    completed = so.tells.completed;
    apart = so.tells.apart;
    nested = so.tells.nested;
  };
  lost = all_stay s l m n lines new (unexplored_of a) so.lost;
}

so_far_later : (p : Point) (s : Scene) (l : Line) (i j : Journal) (a : Answer) (rest : List Reference) → Grows i j → SoFar p s (asked_line l (length i.accepted)) i.lines a rest → SoFar p s (asked_line l (length j.accepted)) j.lines a rest
so_far_later p s l i j a rest grows so = subst (λ (lines : List Line). SoFar p s (asked_line l (length j.accepted)) lines a rest) (sym grows.1) (so_far_at p s l (length i.accepted) (length j.accepted) i.lines grows.0 a rest so)

pub so_far_stays : SoFarStays
so_far_stays p s o number i j a rest grows so = so_far_later p s (line_at o number) i j a rest grows so

-- what was heard stays heard, whatever was accepted meanwhile
heard_restood : (p : Point) (s : Scene) (most : ℕ) (l : Line) (a b : ℕ) (j : Journal) (k : Line) (reply : Reply) → HeardRight p s most (asked_line l a) j k reply → HeardRight p s most (asked_line l b) j k reply
heard_restood p s most l a b j k reply h = record { stands = h.stands; heard = h.heard; back = h.back; stood = h.stood; right = h.right; followed = h.followed; within = h.within }

pub part_is_gathered : PartIsGathered
part_is_gathered p s most from l i j a c r rest b needed grows all so taken =
    part_replaces p s most l taken.0 from j (length j.accepted) a c r rest b (of_the_rest p l r needed) all taken.1 taken.2 (so_far_later p s l i j a (r ∷ rest) grows so) (heard_restood p s most l (length i.accepted) (length j.accepted) j taken.0 (Answered c) taken.3)

-- what was lost takes the place of the reference, if it covers the same
lost_instead : (p : Point) (s : Scene) (q : Asked) (lines : List Line) (x : Answer) (r u : Reference) (rest : List Reference) → SoFar p s q lines x (r ∷ rest) → IsLost s q lines u
    → (is_done r.progress ≡ true → is_done u.progress ≡ true) → covered_roots (knowledge_at p) u ≡ covered_roots (knowledge_at p) r → SoFar p s q lines (with_unexplored (u ∷ []) x) rest
lost_instead p s q lines (EntryFound info source) r u rest h gone done same = record { tells = h.tells; lost = h.lost }
lost_instead p s q lines (Matched equal copy source) r u rest h gone done same = record { tells = h.tells; lost = h.lost }
lost_instead p s q lines Changed r u rest h gone done same = record { tells = h.tells; lost = h.lost }
lost_instead p s q lines (Listed subs xs o) r u rest h gone done same =
    loss_replaces p s q lines (Listed subs xs o) r u rest h gone (done (of_all (λ x. is_done x.progress) r (o.unexplored ++ r ∷ rest) h.tells.completed (in_right r o.unexplored (r ∷ rest) here))) same
lost_instead p s q lines (Found infos xs o) r u rest h gone done same =
    loss_replaces p s q lines (Found infos xs o) r u rest h gone (done (of_all (λ x. is_done x.progress) r (o.unexplored ++ r ∷ rest) h.tells.completed (in_right r o.unexplored (r ∷ rest) here))) same

pub loss_is_gathered : LossIsGathered
loss_is_gathered p s most from o number i j a r rest grows so taken =
    lost_instead p s (serving_of j o number) j.lines a r (in_vain r) rest (so_far_stays p s o number i j a (r ∷ rest) grows so)
    (lost_restood s (line_at o number) (length i.accepted) (length j.accepted) j.lines (in_vain r) taken) (λ d. d) refl

-- ---- a part that isn't available

-- a list or search isn't refused by such an error
not_refused : (b : Bool) (t : Told) (name : Name) (n : ℕ) (r : Option Reference) (i : Option TraceItem) → (t ≡ Refuses (ServiceProblem n r i) → ⊥) → cond b t (Refuses (NoSuchObject name)) ≡ Refuses (ServiceProblem n r i) → ⊥
not_refused true t name n r i f e = f e
not_refused false t name n r i f e = cc

list_not_refused : (d w : Bool) (copies : Key → Bool) (t : Tree) (c : Controls) (name : Name) (n : ℕ) (r : Option Reference) (i : Option TraceItem) → told_list d w copies t c name ≡ Refuses (ServiceProblem n r i) → ⊥
list_not_refused true true copies t c name n r i e = cc
list_not_refused true false copies t c name n r i e = cc
list_not_refused false w copies t c name n r i e = not_refused (is_there_or_root t.entries (key_of name)) (limited_list copies c.size (just_below t name)) (matched t.entries (key_of name)) n r i (λ f. cc) e

search_not_refused : (d w : Bool) (copies : Key → Bool) (t : Tree) (c : Controls) (base : Name) (s : Subset) (f : Filter) (sel : Selection) (n : ℕ) (r : Option Reference) (i : Option TraceItem) → told_search d w copies t c base s f sel ≡ Refuses (ServiceProblem n r i) → ⊥
search_not_refused true true copies t c base s f sel n r i e = cc
search_not_refused true false copies t c base s f sel n r i e = not_refused (is_there_or_root t.entries (key_of base)) (limited_found copies c.size sel (searched t base s f)) (matched t.entries (key_of base)) n r i (λ g. cc) e
search_not_refused false w copies t c base s f sel n r i e = not_refused (is_there_or_root t.entries (key_of base)) (limited_found copies c.size sel (searched t base s f)) (matched t.entries (key_of base)) n r i (λ g. cc) e

told_not_refused : (copies : Key → Bool) (t : Tree) (m : Chained) (c : Controls) (b : Body) (n : ℕ) (r : Option Reference) (i : Option TraceItem) → is_query_below b ≡ true → told copies t (record m { request = record { controls = c; body = b } }) ≡ Refuses (ServiceProblem n r i) → ⊥
told_not_refused copies t m c (ListBelow name) n r i query e = list_not_refused (is_done m.progress) (is_wide m.kind) copies t c name n r i e
told_not_refused copies t m c (Search base s f sel) n r i query e = search_not_refused (is_done m.progress) (is_wide m.kind) copies t c base s f sel n r i e
told_not_refused copies t m c b n r i query e = false_true query

from_unheard : (p : Point) (s : Scene) (q : Asked) (j : Journal) (reply : Reply) → Right p s q j reply → (u : Reference) → reply ≡ is_unavailable u → is_query_below q.message.request.body ≡ true → IsLost s q j.lines u × (same_phase q u ≡ true)
from_unheard p s q j reply (result on res no_update none) u e query = cc
from_unheard p s q j reply (changed on update some) u e query = cc
from_unheard p s q j reply (error {x = x} on t i n) u e query =
    (let same : x ≡ ServiceProblem unavailable (Some u) None = cc in absurd (told_not_refused (λ key. false) (tree_at p) q.message q.message.request.controls q.message.request.body unavailable (Some u) None query (t ∙ ap Refuses same)))
from_unheard p s q j reply (referral v h n) u e query = cc
from_unheard p s q j reply (unheard {r = v} l h n) u e query = (let same : v ≡ u = cc in (subst (λ x. IsLost s q j.lines x) same l, subst (λ x. same_phase q x ≡ true) same h))

unavailable_is : (p : Point) (s : Scene) (q : Asked) (j : Journal) (spent : Bool) (reply : Reply) → RightReply p s q j spent reply → (u : Reference) → reply ≡ is_unavailable u → is_query_below q.message.request.body ≡ true → IsLost s q j.lines u × (same_phase q u ≡ true)
unavailable_is p s q j spent reply (usual h right) u e query = from_unheard p s q j reply right u e query
unavailable_is p s q j spent reply (unable h) u e query = (let wrong : unable_to_proceed ≡ unavailable = cc in absurd (omega (arith, wrong)))
unavailable_is p s q j spent reply (limit on h none) u e query = cc

in_vain_is : (s : Scene) (q : Asked) (lines : List Line) (u : Reference) → IsLost s q lines u → in_vain u ≡ u
in_vain_is s q lines u h = ap (λ (b : Bool). record u { tried = b }) (sym (by h))
  where
    by : IsLost s q lines u → u.tried ≡ true
    by (user x) = ap (λ (y : Reference). y.tried) x.same
    by (asked x) = ap (λ (y : Reference). y.tried) x.same

pub unavailable_is_gathered : UnavailableIsGathered
unavailable_is_gathered p s most from l i j a r u rest b needed grows all so taken =
    lost_instead p s (asked_line l (length j.accepted)) j.lines a r (in_vain u) rest (so_far_later p s l i j a (r ∷ rest) grows so)
    (subst (λ x. IsLost s (asked_line l (length j.accepted)) j.lines x) (sym (in_vain_is s (asked_line k taken.3.stood) j.lines u lost_it.0))
    (lost_further s (asked_line l (length j.accepted)) (asked_line k taken.3.stood) j.lines all taken.3.back refl u lost_it.0)) done_too same_roots
  where
    k : Line
    k = taken.0

    part_query : is_query_below taken.0.message.request.body ≡ true
    part_query = part_asks p l from r taken.0.message b (of_the_rest p l r needed) taken.2

    lost_it : IsLost s (asked_line taken.0 taken.3.stood) j.lines u × (same_phase (asked_line taken.0 taken.3.stood) u ≡ true)
    lost_it = unavailable_is p s (asked_line taken.0 taken.3.stood) j (is_spent most j) (is_unavailable u) taken.3.right u refl part_query

    done_too : is_done r.progress ≡ true → is_done u.progress ≡ true
    done_too d = sym (ap (λ x. if x then is_done u.progress else not (is_done u.progress)) (ap is_done taken.2.progress_is ∙ d)) ∙ lost_it.1

    completed : is_done r.progress ≡ true
    completed = needed_done p l b r (of_the_rest p l r needed)

    within : (is_wide taken.0.message.kind ≡ false) × (covered_roots (knowledge_at p) u ≡ key_of taken.0.message.target ∷ [])
    within = taken.3.within (ap is_done taken.2.progress_is ∙ completed)

    same_roots : covered_roots (knowledge_at p) (in_vain u) ≡ covered_roots (knowledge_at p) r
    same_roots =
        within.1 ∙ ap (λ (x : Key). x ∷ []) (sym ((key_decides (key_of r.target) (key_of taken.0.message.target)).0 taken.2.target_is))
        ∙ sym (ap (λ (x : Bool). if x then (if is_done r.progress then map pin_of (filter (is_below_wide r) (mastered (knowledge_at p))) else []) else key_of r.target ∷ []) (sym (ap is_wide taken.2.kind_is) ∙ within.0))
