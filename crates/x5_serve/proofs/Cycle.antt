-- The steps of the cycle as steps of the relation.
use Rattle.std.proofs.Common.{◌≡◌, ℕ, ◌<◌, ◌==◌, Bool, true, false, not, ◌&&◌, inl, inr, List, [], ◌∷◌, length, map, refl, sym, ap, subst, ◌∙◌, arith, Option, Some, Ok, if◌then◌else◌}
use Rattle.std.specs.List.{filter, list_all}
use Rattle.x5_model.specs.Words.{has, is_empty}
use Rattle.x5_model.specs.References.{Reference}
use Rattle.x5_model.specs.Answers.{Answer, Reply, Answered, Referred, Changed}
use Rattle.x5_model.specs.Entries.{Named}
use Rattle.x5_model.proofs.Decide.{less_decides}
use Rattle.x5_model.proofs.Lists.{both_true, and_true}
use Rattle.x5_model_tree.specs.Ask.{is_update, unexplored_of}
use Rattle.x5_model_tree.specs.Apply.{apply_over}
use Rattle.x5_model_run.specs.Journal.{Journal}
use Rattle.x5_model_run.specs.Holdings.{Holdings, ground_at}
use Rattle.x5_model_run.specs.Needs.{resolves, due_probes}
use Rattle.x5_model_run.specs.Chain.{Scene}
use Rattle.x5_model_heard.specs.Told.{are_agents, name_agents, KnowsAgents, IsTold}
use Rattle.x5_model_heard.specs.Kept.{IsOfUser}
use Rattle.x5_model_heard.proofs.Told.{replies_are_told}
use Rattle.x5_model_heard.proofs.Still.{probes_accept_none}
use Rattle.x5_model_heard.proofs.Fresh.{here_is_fresh, updates_are_carried}
use Rattle.x5_model_serve.specs.Committed.{committed}
use Rattle.x5_model_serve.specs.Finding as finding
use Rattle.x5_model_serve.specs.Finding.{find}
use Rattle.x5_model_serve.specs.Answering.{local_part, to_follow, passed_by, only_unexplored}
use Rattle.x5_model_serve.specs.Serving.{Hand, hand, Gathered, Serves, Follows, Gathers, Probes, Updates, Does, Arrives, found_at, holds_now, parts_refs, begins_parts, is_idle, is_done_here, judged, gathered_reply, with_accepted, goes, casts, asks_parts, referral, wide_referral, unexplored, does}
use Rattle.x5_ops.specs.ReferenceViews.{chained_view, reference_view}
use Rattle.x5_ops.specs.declared.references.AccessPoint.{AccessPoint}
use Rattle.x5_ops.specs.declared.references.Chained as code
use Rattle.x5_ops.specs.declared.references.Reference as code_reference
use Rattle.x5_serve.specs.Networks.{IsDue, IsReady}
use Rattle.x5_serve.specs.Steps.{Goes}
use Rattle.x5_serve.proofs.Walks.{Carries}

-- what is carried on of an update is the user's
pub carried_user : (s : Scene) (names : List (List ℕ)) (owner : ℕ) (message : code.Chained)
    (reference : code_reference.Reference)
    (onward : code.Chained) (agents : List AccessPoint) → Carries names owner message reference onward agents
    → IsOfUser s (chained_view names message) → IsOfUser s (chained_view names onward)
carried_user s names owner message reference onward agents c u =
    subst (IsOfUser s) (sym (c.onward_is 0))
    (updates_are_carried s (Some 0) (hand owner (chained_view names message)) (reference_view names reference) u)

-- replies tell what may be relied on
pub served_told : (n : ℕ) (s : Scene) (most : ℕ) (k : Hand) (y : Reply) (i j : Journal) → KnowsAgents n s → k.receiver <
    n
    → Does s most (Serves k y) i j → IsTold n y
served_told n s most k y i j knows h d = replies_are_told n s most (Serves k y) i j knows d
    ((less_decides k.receiver n).1 h)

pub followed_told : (n : ℕ) (s : Scene) (most : ℕ) (from : Option ℕ) (k : Hand) (y z : Reply) (i j : Journal)
    → KnowsAgents n s
    → Does s most (Follows from k y z) i j → IsTold n y → IsTold n z
followed_told n s most from k y z i j knows d told = replies_are_told n s most (Follows from k y z) i j knows d told

-- ---- a name that goes on

pub goes_does : (s : Scene) (most : ℕ) (k : Hand) (r : Reference) (y : Reply) (i j : Journal) → Arrives s k i
    → found_at s i k ≡ finding.Onward r → is_idle s k ≡ false → Goes s most (Some k.receiver) k r y i j
    → Does s most (Serves k y) i j
goes_does s most k r y i j a e f (inl w) = casts r y a e f w.0 w.1
goes_does s most k r y i j a e f (inr w) =
    subst (λ (z : Reply). Does s most (Serves k z) i j) (sym w.2) (goes r w.1 a e f w.0 w.3)

pub refers_does : (s : Scene) (most : ℕ) (from : Option ℕ) (k : Hand) (r : Reference) (y : Reply) (i j : Journal)
    → Goes s most from k r y i j → Does s most (Follows from k (Referred r) y) i j
refers_does s most from k r y i j (inl w) = wide_referral r y w.0 w.1
refers_does s most from k r y i j (inr w) =
    subst (λ (z : Reply). Does s most (Follows from k (Referred r) z) i j) (sym w.2) (referral r w.1 w.0 w.3)

-- ---- parts

pub parts_does : (s : Scene) (most : ℕ) (k : Hand) (rs : List Reference) (a : Answer) (whole : Gathered) (y : Reply)
    (i j : Journal) → Arrives s k i → begins_parts k (found_at s i k) ≡ true → is_idle s k ≡ false
    → local_part (holds_now s i k) k.message ≡ Answered a → parts_refs s i k ≡ rs → y ≡ gathered_reply k whole
    → Does s most (Gathers (Some k.receiver) k rs a whole) i j
    → Does s most (Serves k y) i j
parts_does s most k rs a whole y i j arrives begins idle own rest is d =
    subst (λ (z : Reply). Does s most (Serves k z) i j) (sym is)
    (asks_parts a whole arrives begins idle own
    (subst (λ (xs : List Reference). Does s most (Gathers (Some k.receiver) k xs a whole) i j) (sym rest) d))

pub unexplored_does : (s : Scene) (most : ℕ) (from : Option ℕ) (k : Hand) (a b : Answer) (rs : List Reference)
    (whole : Gathered)
    (y : Reply) (i j : Journal) → rs ≡ to_follow a → is_empty rs ≡ false → b ≡ only_unexplored (passed_by a) a
    → y ≡ gathered_reply k whole → Does s most (Gathers from k rs b whole) i j
    → Does s most (Follows from k (Answered a) y) i j
unexplored_does s most from k a b rs whole y i j left some rest is d =
    subst (λ (z : Reply). Does s most (Follows from k (Answered a) z) i j) (sym is)
    (unexplored a whole (ap is_empty (sym left) ∙ some)
    (subst (λ (xs : List Reference). Does s most (Gathers from k xs (only_unexplored (passed_by a) a) whole) i j) left
    (subst (λ (x : Answer). Does s most (Gathers from k rs x whole) i j) rest d)))

pub is_last : {A B : Type 0} (f : A → B) (xs : List A) → length xs ≡ 0 → is_empty (map f xs) ≡ true
is_last f [] e = refl
is_last f (x ∷ xs) e = absurd (omega arith)

pub is_more : {A B : Type 0} (f : A → B) (xs : List A) → (length xs ≡ 0 → ⊥) → is_empty (map f xs) ≡ false
is_more f [] e = absurd (e refl)
is_more f (x ∷ xs) e = refl

all_filter : (test keep : Reference → Bool) (xs : List Reference) → list_all test xs ≡ true
    → list_all test (filter keep xs) ≡ true
all_filter test keep [] e = refl
all_filter test keep (x ∷ xs) e =
    let b = both_true (test x) (list_all test xs) e in
    by (keep x) b.0 (all_filter test keep xs b.1)
  where
    by : (k : Bool) → test x ≡ true → list_all test (filter keep xs) ≡ true
        → list_all test (if k then x ∷ filter keep xs else filter keep xs) ≡ true
    by true f g = and_true (test x) (list_all test (filter keep xs)) f g
    by false f g = g

pub left_named : (n : ℕ) (a : Answer) (rs : List Reference) → rs ≡ to_follow a → IsTold n (Answered a)
    → name_agents n rs ≡ true
left_named n a rs e told =
    ap (name_agents n) e ∙ all_filter (λ r. are_agents n r.agents) (λ r. not r.tried) (unexplored_of a) told.agents

-- ---- updates

-- what depends on who accepted stays
pub held_still : (s : Scene) (k : Hand) (i j : Journal) → j.accepted ≡ i.accepted → holds_now s j k ≡ holds_now s i k
held_still s k i j e =
    ap (λ (xs : List ℕ). if has ◌==◌ xs k.receiver then committed s.message.request (s.holdings k.receiver) else
    s.holdings k.receiver) e

done_still : (s : Scene) (k : Hand) (i j : Journal) → j.accepted ≡ i.accepted → is_done_here s k j ≡ is_done_here s k i
done_still s k i j e =
    ap (λ (xs : List ℕ). is_update k.message.request.body && (has ◌==◌ xs k.receiver
    && resolves (if has ◌==◌ xs k.receiver then committed s.message.request (s.holdings k.receiver) else s.holdings
    k.receiver) k.message)) e

due_still : (s : Scene) (k : Hand) (i j : Journal) → j.accepted ≡ i.accepted → IsDue s i k → IsDue s j k
due_still s k i j e due = record {
  arrives = record {
    unlooped = due.arrives.unlooped;
    short = due.arrives.short;
    fresh = done_still s k i j e ∙ due.arrives.fresh;
    unrefused = due.arrives.unrefused;
    fit = due.arrives.fit;
  };
  context = due.context;
  found = ap (λ (h : Holdings). find h k.message) (held_still s k i j e) ∙ due.found;
  update = due.update;
  of_user = due.of_user;
}

pub ready_now : (s : Scene) (k : Hand) (i : Journal) (mine : List Named) → IsDue s i k → judged s i k ≡ Ok mine
    → IsReady s i k
ready_now s k i mine due ok = record {
  due = due;
  fresh = here_is_fresh s k i due.context due.arrives due.found due.update;
  made = mine;
  passed = ok;
}

pub ready_then : (s : Scene) (most : ℕ) (k : Hand) (r : Reference) (agents noted : List ℕ) (i j : Journal)
    (mine : List Named)
    → IsDue s i k → judged s i k ≡ Ok mine → due_probes (holds_now s i k) k.message ≡ r ∷ []
    → Does s most (Probes k r agents noted) i j → IsReady s j k
ready_then s most k r agents noted i j mine due ok probes d =
    let still = probes_accept_none s most k r agents noted (holds_now s i k) i j probes d in
    ready_now s k j mine (due_still s k i j still due)
    (ap (λ (h : Holdings). apply_over (ground_at k.message.request h) k.message.request.body) (held_still s k i j still)
    ∙ ok)

pub does_alone : (s : Scene) (most : ℕ) (k : Hand) (i j : Journal) (mine : List Named) → judged s i k ≡ Ok mine
    → due_probes (holds_now s i k) k.message ≡ [] → j ≡ with_accepted k.receiver i
    → Does s most (Updates k (Answered Changed)) i j
does_alone s most k i j mine ok none is =
    subst (λ (l : Journal). Does s most (Updates k (Answered Changed)) i l) (sym is) (does mine ok none)

pub probe_named : (n : ℕ) (s : Scene) (i : Journal) (k : Hand) (r : Reference) → KnowsAgents n s → k.receiver < n
    → due_probes (holds_now s i k) k.message ≡ r ∷ [] → are_agents n r.agents ≡ true
probe_named n s i k r knows h e =
    (both_true (are_agents n r.agents) true
    (ap (name_agents n) (sym e) ∙ knows.probes i k ((less_decides k.receiver n).1 h))).0

pub onward_named : (n : ℕ) (s : Scene) (i : Journal) (k : Hand) (r : Reference) → KnowsAgents n s → k.receiver < n
    → found_at s i k ≡ finding.Onward r → are_agents n r.agents ≡ true
onward_named n s i k r knows h e = knows.onward i k r ((less_decides k.receiver n).1 h) e

pub parts_named : (n : ℕ) (s : Scene) (i : Journal) (k : Hand) (rs : List Reference) → KnowsAgents n s → k.receiver < n
    → parts_refs s i k ≡ rs → name_agents n rs ≡ true
parts_named n s i k rs knows h e = ap (name_agents n) (sym e) ∙ knows.parts i k ((less_decides k.receiver n).1 h)
