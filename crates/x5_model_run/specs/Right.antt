-- A right answer to a request over consistent knowledge (X.511, sections 9 to 12; X.518, sections 18 to 20).
use Rattle.std.specs.Prelude.{◌≡◌, ℕ, ◌+◌, ◌-◌, Bool, true, false, not, ◌&&◌, ◌||◌, ◌==◌, nat_le, if◌then◌else◌, IsTrue}
use Rattle.std.specs.Prelude.{List, [], length, map}
use Rattle.std.specs.List.{list_any, list_all, filter, AllByRecursion}
use Rattle.std.specs.Option.{is_some}
use Rattle.std.specs.Result.{is_ok}
use Rattle.std.specs.declared.option.Option.{Option}
use Rattle.std.specs.declared.option.Option.TheVariants.{None, Some}
use Rattle.x5_model.specs.Words.{has, distinct, is_empty, first_of, in_option, some_and}
use Rattle.x5_model.specs.Keys.{Key, same_key}
use Rattle.x5_model.specs.Values.{Name, key_of}
use Rattle.x5_model.specs.Entries.{Named}
use Rattle.x5_model.specs.Requests.{Request}
use Rattle.x5_model.specs.References.{Next, Reference, Chained}
use Rattle.x5_model.specs.Answers.{Source, Answer, Changed, DirError, UpdateProblem, ServiceProblem, Reply, Answered}
use Rattle.x5_model.specs.Answers.{Failed, Referred}
use Rattle.x5_model.specs.Statics.{fault_of}
use Rattle.x5_model.specs.Problems.{entry_already_exists, unavailable}
use Rattle.x5_model_tree.specs.World.{World}
use Rattle.x5_model_tree.specs.Tree.{longest, lowest}
use Rattle.x5_model_tree.specs.Masters.{master_of, is_consumer, agent_at, is_first_level}
use Rattle.x5_model_tree.specs.Ask.{Refuses, rest_of, sources_of, unexplored_of, is_update}
use Rattle.x5_model_tree.specs.Apply.{apply}
use Rattle.x5_model_run.specs.Network.{Fate, Lost, NoReply, Sent}
use Rattle.x5_model_run.specs.Journal.{Line, Journal, depth, same_progress, same_name, is_done, is_reached, settled}
use Rattle.x5_model_run.specs.Journal.{some_line}
use Rattle.x5_model_run.specs.Holdings.{Held, Holdings, may_copy, known_pins, held_at, copy_at}
use Rattle.x5_model_run.specs.Needs.{others, nssr_at, new_name, ends_here}
use Rattle.x5_model_run.specs.History.{Point, knowledge_at, tree_at, as_of}
use Rattle.x5_model_run.specs.Chain.{Scene, opening, scene_with, scene_at, AllLicensed}
use Rattle.x5_model_run.specs.Covers.{is_covered, are_apart, touched, mixed, is_copied, told}
use Rattle.x5_model_run.specs.Blocked.{Asked, by_user, is_answered, hears_by, hears, IsUntried, IsLost, Blocked}
use Rattle.x5_model_run.specs.Accepting.{carries_update, accepting, is_probed, is_done_before}

-- the agent that masters the context of a name
abbrev pub master_at : Point → Key → Option ℕ
master_at p key = in_option None (master_of (knowledge_at p)) (longest (tree_at p).pins key)

abbrev pub is_master_at : Point → Key → ℕ → Bool
is_master_at p key a = some_and (λ m. m == a) (master_at p key)

-- Updates. What is accepted is right: at most one agent accepts, the master of the target's context, which has the
-- message, and the tree doesn't refuse; and what it probed for was heard.
abbrev pub is_accepted_right : Point → Scene → List Line → ℕ → Bool
is_accepted_right p s lines a =
    is_update s.message.request.body
    && (is_reached lines a && (is_master_at p (key_of s.message.target) a
    && is_ok (apply (tree_at p) s.message.request)))

pub record Accepts (p : Point) (s : Scene) (j : Journal) : Type 0 where
  pub one : IsTrue (nat_le (length j.accepted) 1)
  pub right : IsTrue (list_all (is_accepted_right p s j.lines) j.accepted)
  pub probed : IsTrue (list_all (λ a. some_and (is_probed s j.lines) (accepting s j.lines a)) j.accepted)

-- The update is accepted exactly where that master has an accepting line and the tree doesn't refuse: also where the
-- reply is lost. Nothing is sent for a later line that brings the update there again.
abbrev pub is_due : Point → Scene → List Line → Bool
is_due p s lines =
    some_and (λ a. is_some (accepting s lines a)) (master_at p (key_of s.message.target))
    && is_ok (apply (tree_at p) s.message.request)

abbrev pub is_sent_later : Scene → Journal → Line → List Line → Bool
is_sent_later s j l before = some_and (is_done_before s j) (first_of (settled (depth l - 1) before))

pub record Finished (p : Point) (s : Scene) (j : Journal) : Type 0 where
  pub done : is_due p s j.lines ≡ not (is_empty j.accepted)
  pub at_once : IsTrue (not (some_line (is_sent_later s j) j.lines))

-- no `accepted` line is new
abbrev pub accepts_none : Asked → Journal → Bool
accepts_none q j = length j.accepted == q.stood

-- 1. A result. A source is a naming context with the agent that answered from it, which was heard: its master; or,
-- where copies may be used, a consumer, with the moment of the last refresh. It is spelled as that agent keeps it.
abbrev pub is_copy_source : Point → Source → ℕ → Bool
is_copy_source p x m =
    list_any (λ g. is_consumer x.agent (key_of x.context) g && some_and (λ at. at == m) (as_of p g.number))
    (knowledge_at p).agreements

abbrev pub is_holder : Point → Asked → Source → Option ℕ → Bool
is_holder p q x None = some_and (λ a. a == x.agent) (master_of (knowledge_at p) (key_of x.context))
is_holder p q x (Some m) = may_copy q.message.request && is_copy_source p x m

abbrev pub is_source : Point → Asked → List Line → Source → Bool
is_source p q lines x = hears q lines x.agent && is_holder p q x x.moment

abbrev pub own_name : Holdings → Key → Option Name
own_name h pin = in_option None (λ c. Some c.prefix) (held_at h.own pin)

abbrev pub copy_name : Holdings → Key → Option Name
copy_name h pin = in_option None (λ c. Some c.held.prefix) (copy_at h pin)

abbrev pub kept_name : Scene → Source → Option Name
kept_name s x =
    if is_some x.moment then copy_name (s.holdings x.agent) (key_of x.context)
    else own_name (s.holdings x.agent) (key_of x.context)

abbrev pub source_keys : Answer → List Key
source_keys a = map (λ x. key_of x.context) (sources_of a)

abbrev pub same_keys : List Key → List Key → Bool
same_keys xs ys = list_all (has same_key ys) xs && list_all (has same_key xs) ys

abbrev pub uncovered : Point → Asked → List Reference → List Key
uncovered p q unexplored =
    filter (λ pin. not (is_covered (knowledge_at p) unexplored pin))
    (touched (knowledge_at p) (tree_at p) q.to q.message)

-- the object or base was found, by an agent that was heard; what came with a completed name was found before
abbrev pub is_found : Scene → Asked → List Line → Bool
is_found s q lines = is_done q.message.progress || hears_by (λ l. ends_here (s.holdings l.receiver) l.message) q lines

-- Each context is a source once, and the sources are exactly the contexts that the query touches without those that an
-- unexplored reference covers; the rest is what the sources together answer, marked as a copy where it comes from one;
-- each unexplored reference is blocked, and no two cover a common name.
pub record IsResult (p : Point) (s : Scene) (q : Asked) (lines : List Line) (a : Answer) : Type 0 where
  pub found : IsTrue (is_found s q lines)
  pub sources : IsTrue (list_all (is_source p q lines) (sources_of a))
  pub spelled : map (kept_name s) (sources_of a) ≡ map (λ x. Some x.context) (sources_of a)
  pub once : IsTrue (distinct same_key (source_keys a))
  pub exactly : IsTrue (same_keys (source_keys a) (uncovered p q (unexplored_of a)))
  pub answered : rest_of a ≡ told (is_copied p (sources_of a)) (mixed p (sources_of a)) q.message
  pub blocked : AllByRecursion (Blocked s q lines) (unexplored_of a)
  pub completed : IsTrue (list_all (λ r. is_done r.progress) (unexplored_of a))
  pub apart : IsTrue (are_apart (knowledge_at p) (unexplored_of a))

-- 3. An error is the tree's, and comes from who knows: the master of the lowest entry on the way to the target, or a
-- first-level agent where there is none, was asked for the target and heard; where that entry isn't the target and has
-- an NSSR, so was each other agent of it, for the rest of the name; and so was, for the new name, the master of a pin
-- that an addEntry or modifyDN would name anew and the target's master doesn't know.
abbrev pub is_for : Name → Line → Bool
is_for name l = same_name l.message.target name

abbrev pub first_level_at : World → ℕ → Bool
first_level_at w a = in_option false is_first_level (agent_at w a)

abbrev pub hears_of : Asked → List Line → Name → ℕ → Bool
hears_of q lines name a = hears_by (λ l. (l.receiver == a) && is_for name l) q lines

abbrev pub hears_master : Point → Asked → List Line → Option Named → Bool
hears_master p q lines None =
    hears_by (λ l. first_level_at (knowledge_at p) l.receiver && is_for q.message.target l) q lines
hears_master p q lines (Some e) = some_and (hears_of q lines q.message.target) (master_at p (key_of e.name))

abbrev pub nssr_of : Key → ℕ → Held → List ℕ
nssr_of entry o c = in_option [] (λ n. others o n.agents) (nssr_at c.nssrs entry)

abbrev pub nssr_at_master : Point → Scene → Key → ℕ → List ℕ
nssr_at_master p s entry o =
    in_option [] (nssr_of entry o) (in_option None (held_at (s.holdings o).own) (longest (tree_at p).pins entry))

abbrev pub nssr_agents : Point → Scene → Named → List ℕ
nssr_agents p s e = in_option [] (nssr_at_master p s (key_of e.name)) (master_at p (key_of e.name))

abbrev pub hears_below : Asked → List Line → ℕ → ℕ → Bool
hears_below q lines k a =
    hears_by (λ l. (l.receiver == a) && (same_progress l.message.progress (Next k)
    && is_for q.message.target l)) q lines

abbrev pub hears_nssr : Point → Scene → Asked → List Line → Option Named → Bool
hears_nssr p s q lines None = true
hears_nssr p s q lines (Some e) =
    same_name e.name q.message.target || list_all (hears_below q lines (length e.name + 1)) (nssr_agents p s e)

abbrev pub is_pin : Point → Key → Bool
is_pin p key = has same_key (tree_at p).pins key

abbrev pub knows : Scene → Request → ℕ → Key → Bool
knows s r o pin = has same_key (map key_of (known_pins r (s.holdings o))) pin

abbrev pub hears_pin : Point → Scene → Asked → List Line → Name → Bool
hears_pin p s q lines name =
    not (is_pin p (key_of name))
    || (some_and (λ o. knows s q.message.request o (key_of name)) (master_at p (key_of q.message.target))
    || some_and (hears_of q lines name) (master_of (knowledge_at p) (key_of name)))

abbrev pub hears_taken : Point → Scene → Asked → List Line → DirError → Bool
hears_taken p s q lines (UpdateProblem n) =
    not (n == entry_already_exists) || in_option true (hears_pin p s q lines) (new_name q.message.request.body)
hears_taken p s q lines other = true

abbrev pub is_told : Point → Scene → Asked → List Line → DirError → Bool
is_told p s q lines x =
    is_some (fault_of q.message.request.body)
    || (hears_master p q lines (lowest (tree_at p).entries (key_of q.message.target))
    && (hears_nssr p s q lines (lowest (tree_at p).entries (key_of q.message.target)) && hears_taken p s q lines x))

-- where the message came with a completed name, so do references in its answer, and else they don't
abbrev pub same_phase : Asked → Reference → Bool
same_phase q r = if is_done q.message.progress then is_done r.progress else not (is_done r.progress)

abbrev pub is_noreply : Fate → Bool
is_noreply Lost = false
is_noreply NoReply = true
is_noreply Sent = false

abbrev pub heard_whole : List Line → Bool
heard_whole lines = not (list_any (λ l. is_noreply l.fate) lines)

-- 2. an agent that accepted the update was heard
abbrev pub hears_accepted : Scene → Asked → Journal → Bool
hears_accepted s q j = hears_by (λ l. has ◌==◌ j.accepted l.receiver && carries_update s l) q j.lines

-- The answers: 1 a result; 2 `changed`, by an accepted update; 3 an error; 4 a referral that is blocked and not tried;
-- 5 `unavailable` with a reference that is blocked and tried. In 1 to 4 the line that brought the message came back.
-- Nothing is accepted in 1, 3 and 4, and in 5 only where a reply was lost.
pub data Right (p : Point) (s : Scene) (q : Asked) (j : Journal) : Reply → Type 0 where
  result : {a : Answer} → IsTrue (is_answered q j.lines) → IsResult p s q j.lines a →
      IsTrue (not (is_update q.message.request.body)) → IsTrue (accepts_none q j) → Right p s q j (Answered a)
  changed : IsTrue (is_answered q j.lines) → IsTrue (is_update q.message.request.body) → IsTrue (hears_accepted s q j) →
      Right p s q j (Answered Changed)
  error : {x : DirError} → IsTrue (is_answered q j.lines) → told (λ key. false) (tree_at p) q.message ≡ Refuses x →
      IsTrue (is_told p s q j.lines x) → IsTrue (accepts_none q j) → Right p s q j (Failed x)
  referral : {r : Reference} → IsUntried s q j.lines r → IsTrue (same_phase q r) → IsTrue (accepts_none q j) →
      Right p s q j (Referred r)
  unheard : {r : Reference} → IsLost s q j.lines r → IsTrue (same_phase q r) →
      IsTrue (accepts_none q j || not (heard_whole j.lines)) →
      Right p s q j (Failed (ServiceProblem unavailable (Some r) None))

-- A request's journal and answer are right: every line is licensed, what is accepted is right, and so is the answer.
pub record IsRight (p : Point) (s : Scene) (j : Journal) (reply : Reply) : Type 0 where
  pub licensed : AllLicensed s j.lines
  pub accepts : Accepts p s j
  pub finished : Finished p s j
  pub answer : Right p s (by_user s) j reply

-- a user asks this agent, over consistent knowledge
abbrev pub AnswersRight : Point → ℕ → Request → Journal → Reply → Type 0
AnswersRight p first r j reply = IsRight p (scene_at p first r) j reply

-- He sends it a message, which may say that it comes of other agents. Then what is accepted is right all the same; and
-- where it is a request of his, so is all.
pub record SendsRight (p : Point) (first : ℕ) (m : Chained) (j : Journal) (reply : Reply) : Type 0 where
  pub one : IsTrue (nat_le (length j.accepted) 1)
  pub right : IsTrue (list_all (is_accepted_right p (scene_with p first m) j.lines) j.accepted)
  pub answers : (r : Request) → m ≡ opening r → AnswersRight p first r j reply
