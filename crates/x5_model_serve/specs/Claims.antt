-- What holds of journals and replies over consistent knowledge while a request is served, and is kept by each thing
-- that is done: the words in which the lemmas on serving speak. A journal has the newest line first.
use Rattle.std.specs.Prelude.{◌≡◌, ℕ, map, ◌+◌, ◌≤◌, ◌⊎◌, Bool, true, false, not, ◌&&◌, ◌||◌, nat_le, IsTrue}
use Rattle.std.specs.Prelude.{List, [], ◌∷◌, ◌++◌, length, ⊤}
use Rattle.std.specs.List.{list_all, AllByRecursion}
use Rattle.std.specs.declared.option.Option.{Option}
use Rattle.std.specs.declared.option.Option.TheVariants.{None, Some}
use Rattle.std.specs.Result.{is_ok}
use Rattle.x5_model.specs.Words.{distinct, is_empty, some_and, first_of}
use Rattle.x5_model.specs.Members.{In, Once}
use Rattle.x5_model.specs.Keys.{Key, same_key}
use Rattle.x5_model.specs.Values.{key_of}
use Rattle.x5_model.specs.References.{Reference}
use Rattle.x5_model.specs.Answers.{Answer, ServiceProblem, Reply, Answered, Failed}
use Rattle.x5_model_tree.specs.World.{Agent}
use Rattle.x5_model_tree.specs.Masters.{agent_at}
use Rattle.x5_model_tree.specs.Ask.{rest_of, sources_of, unexplored_of, is_update}
use Rattle.x5_model_tree.specs.Apply.{apply}
use Rattle.x5_model_run.specs.Network.{Sent, arrives}
use Rattle.x5_model_run.specs.Journal.{Line, Journal, same_name, same_progress, is_done, is_wide, settled, siblings}
use Rattle.x5_model_run.specs.Holdings.{Held}
use Rattle.x5_model_run.specs.Needs.{needs}
use Rattle.x5_model_run.specs.History.{Point, knowledge_at, tree_at, holdings_at}
use Rattle.x5_model_run.specs.Chain.{Scene, may_chain, AllLicensed, IsCarried, is_prohibited, is_probe_line, may_send}
use Rattle.x5_model_run.specs.Chain.{is_in_vain, is_cleared, is_passed}
use Rattle.x5_model_run.specs.Accepting.{may_accept, accepting, is_probed, is_done_before}
use Rattle.x5_model_run.specs.Covers.{covered_roots, are_apart, touched, mixed, is_copied, told}
use Rattle.x5_model_run.specs.Blocked.{Asked, IsLost}
use Rattle.x5_model_run.specs.Right.{is_accepted_right, is_found, is_source, kept_name, source_keys, same_keys}
use Rattle.x5_model_run.specs.Right.{uncovered, is_master_at}
use Rattle.x5_model_run.specs.Placed.{Placed}
use Rattle.x5_model_run.specs.Thorough.{is_served, is_taken, taken_needs, sends_itself}
use Rattle.x5_model_parts.specs.Standing as parts
use Rattle.x5_model_updates.specs.Standing as updates
use Rattle.x5_model_serve.specs.Finding as finding
use Rattle.x5_model_serve.specs.Answering.{is_in_order, with_unexplored, limited_answer}
use Rattle.x5_model_serve.specs.Serving.{Hand, line_for, Arrives}
use Rattle.x5_model_serve.specs.Serving.{found_at, is_spent}

-- ---- what it all rests on
-- a place has an agent: whoever has none holds nothing, and finds nothing
abbrev pub IsAgent : Point → ℕ → Type 0
IsAgent p o = (a : Agent) × (agent_at (knowledge_at p) o ≡ Some a)

-- A line of a run over consistent knowledge, and a message that is placed at an agent and that nobody passed on.
pub record Setting (p : Point) (s : Scene) : Type 0 where
  pub holdings : s.holdings ≡ holdings_at p
  pub whole : updates.StandsWhole p
  pub by_keys : parts.Stands p
  pub copies : parts.CopiesStand p
  pub first : Placed p s.message s.first
  pub agent : IsAgent p s.first
  pub untraced : s.message.trace ≡ []

-- the message at hand with the number of the line that brought it
abbrev pub line_at : Hand → ℕ → Line
line_at k number = record { number = number; sender = None; receiver = k.receiver; message = k.message; fate = Sent }

-- whose serving is spoken of, and how many `accepted` lines stood when it began; its own line counts as having come
-- back
abbrev pub asked_line : Line → ℕ → Asked
asked_line l stood = record { to = l.receiver; message = l.message; number = l.number; counts = true; stood = stood }

abbrev pub serving_of : Journal → Hand → ℕ → Asked
serving_of i k number = asked_line (line_at k number) (length i.accepted)

-- ---- answers
-- What a result tells, whatever its unexplored references rest on: all that `IsResult` says beside `blocked`, before
-- the size limit is applied, or after: it may have been applied to a part of it, and what is in order stays right
-- where more is joined. And what is left unexplored lies in what the message looks into.
pub record Tells (p : Point) (s : Scene) (q : Asked) (lines : List Line) (a : Answer) : Type 0 where
  pub found : IsTrue (is_found s q lines)
  pub spelled : map (kept_name s) (sources_of a) ≡ map (λ x. Some x.context) (sources_of a)
  pub sources : IsTrue (list_all (is_source p q lines) (sources_of a))
  pub once : IsTrue (distinct same_key (source_keys a))
  pub exactly : IsTrue (same_keys (source_keys a) (uncovered p q (unexplored_of a)))
  pub ordered : IsTrue (is_in_order a)
  pub answered :
      rest_of (limited_answer q.message.request.controls.size a)
      ≡ told (is_copied p (sources_of a)) (mixed p (sources_of a)) q.message
  pub completed : IsTrue (list_all (λ r. is_done r.progress) (unexplored_of a))
  pub apart : IsTrue (are_apart (knowledge_at p) (unexplored_of a))
  pub nested :
      (u : Reference) (b : Key) → In u (unexplored_of a) → In b (covered_roots (knowledge_at p) u)
      → In b (touched (knowledge_at p) (tree_at p) q.to q.message)

-- an answer so far, with these references still to be asked
pub record SoFar (p : Point) (s : Scene) (q : Asked) (lines : List Line) (a : Answer)
    (rest : List Reference) : Type 0 where
  pub tells : Tells p s q lines (with_unexplored rest a)
  pub lost : AllByRecursion (IsLost s q lines) (unexplored_of a)

-- What an unavailable part, or one with a result, says of what is left out of it: an unavailable one came by a
-- reference to a pin, and leaves out what is at or below it.
abbrev pub LiesWithin : Point → Asked → Reply → Type 0
LiesWithin p q (Answered a) =
    (u : Reference) (b : Key) → In u (unexplored_of a) → In b (covered_roots (knowledge_at p) u)
    → In b (touched (knowledge_at p) (tree_at p) q.to q.message)
LiesWithin p q (Failed (ServiceProblem n (Some r) i)) =
    is_done q.message.progress ≡ true
    → (is_wide q.message.kind ≡ false) × (covered_roots (knowledge_at p) r ≡ key_of q.message.target ∷ [])
LiesWithin p q other = ⊤

-- ---- journals
-- lines are added in front
abbrev pub Grows : Journal → Journal → Type 0
Grows i j = (new : List Line) × (j.lines ≡ new ++ i.lines)

abbrev pub last_number : Scene → Journal → ℕ
last_number s j = s.sent + length j.lines

-- A line that brings the update to the master of its target, which the tree doesn't refuse: it is accepted, or the
-- agent couldn't go on, or a probe below it wasn't heard.
abbrev pub is_due_line : Point → Scene → Journal → Line → Bool
is_due_line p s j l =
    may_accept s j.lines l.receiver l
    && (is_master_at p (key_of s.message.target) l.receiver && is_ok (apply (tree_at p) s.message.request))

abbrev pub is_settled_line : Point → Scene → Journal → Line → Bool
is_settled_line p s j l = not (is_due_line p s j l) || not (is_empty j.accepted)

-- so it is of each line with a later number
abbrev pub is_finished : Point → Scene → Journal → ℕ → Bool
is_finished p s j number =
    list_all (λ l. nat_le l.number number || (is_served s j l && is_settled_line p s j l)) j.lines

-- Of the line that is being served: what it takes itself is taken, but where its agent did the update before.
abbrev pub takes_itself : Scene → Journal → Line → Bool
takes_itself s j k = list_all (λ r. not (sends_itself s k r) || is_taken s j.lines k r) (taken_needs s k)

abbrev pub is_served_itself : Scene → Journal → Line → Bool
is_served_itself s j k = is_done_before s j k || takes_itself s j k

-- What was accepted is right: one thing at most, by the master of the target, and each agent that a probe goes to was
-- heard.
pub record Accepted (p : Point) (s : Scene) (j : Journal) : Type 0 where
  pub one : length j.accepted ≤ 1
  pub right : IsTrue (list_all (is_accepted_right p s j.lines) j.accepted)
  pub probed : IsTrue (list_all (λ a. some_and (is_probed s j.lines) (accepting s j.lines a)) j.accepted)

-- how many agents passed the message on before
abbrev pub depth_at : Hand → ℕ
depth_at k = length k.message.trace

-- The message at hand is that of the last line at its depth, which arrived.
pub record AtHand (p : Point) (s : Scene) (k : Hand) (j : Journal) : Type 0 where
  pub line : Line
  pub receiver_is : line.receiver ≡ k.receiver
  pub message_is : line.message ≡ k.message
  pub licensed : AllLicensed s j.lines
  pub at_hand : first_of (settled (depth_at k) j.lines) ≡ Some line
  pub arrived : IsTrue (arrives line.fate)
  pub prohibited :
      is_probe_line s line ≡ true ⊎ (k.message.request.controls.nochain ≡ true → is_prohibited s ≡ true)
  pub accepted : Accepted p s j

-- What is kept by whatever is done for a message: lines are licensed, what stands above the message stays, lines are
-- only added and so is what was accepted, which is right, by the line for which it was; the lines since then are
-- finished, unless messages ran out; and a query accepts nothing.
pub record Keeps (p : Point) (s : Scene) (most : ℕ) (k : Hand) (i j : Journal) : Type 0 where
  pub licensed : AllLicensed s j.lines
  pub settled_is : settled (depth_at k) j.lines ≡ settled (depth_at k) i.lines
  pub grows : Grows i j
  pub only_more : (a : ℕ) → In a i.accepted → In a j.accepted
  pub same_line : (a : ℕ) → In a i.accepted → accepting s j.lines a ≡ accepting s i.lines a
  pub accepted : Accepted p s j
  pub finished : is_spent most j ≡ true ⊎ IsTrue (is_finished p s j (last_number s i))
  pub reads : is_update k.message.request.body ≡ false → j.accepted ≡ i.accepted

-- ---- one message
-- a sender may send for an opener by a reference: it is needed, and chaining is allowed
pub record MayTake (s : Scene) (from : Option ℕ) (o : Hand) (r : Reference) (j : Journal) : Type 0 where
  pub needed : In r (needs (s.holdings o.receiver) o.message)
  pub sender_is : (e : Line) → first_of (settled (depth_at o) j.lines) ≡ Some e → IsTrue (may_send s e from)
  pub chains :
      (l : Line) → l.sender ≡ from → IsCarried from (line_for o) r l.message → IsTrue (may_chain s l from)

-- No two of these references ask the same of one agent, none stands twice, and none names an agent twice.
pub record Apart (rs : List Reference) : Type 0 where
  pub once : Once rs
  pub agents : (r : Reference) → In r rs → Once r.agents
  pub unlike :
      (r q : Reference) (a : ℕ) → In r rs → In q rs
      → same_name r.target q.target ≡ true → same_progress r.progress q.progress ≡ true
      → In a r.agents → In a q.agents → r ≡ q

-- These agents of the reference were passed; and no other agent of it was asked the same for this opener.
pub record AskedSoFar (s : Scene) (o : Hand) (r : Reference) (j : Journal) (agents : List ℕ) : Type 0 where
  pub passed :
      (e : Line) → first_of (settled (depth_at o) j.lines) ≡ Some e → (a : ℕ) → In a agents
      → is_passed s j.lines e r a ≡ true
  pub only :
      (l : Line) → In l (siblings (depth_at o) j.lines) → In l.receiver r.agents
      → IsCarried l.sender (line_for o) r l.message → In l.receiver agents

-- Of these agents of a nonSpecific reference, those that are noted were asked in vain; the others were heard, and hold
-- nothing that goes as far.
pub record NotedSoFar (s : Scene) (o : Hand) (r : Reference) (j : Journal) (agents noted : List ℕ) : Type 0 where
  pub silent :
      (e : Line) → first_of (settled (depth_at o) j.lines) ≡ Some e → (a : ℕ) → In a noted
      → is_in_vain s j.lines e r a ≡ true
  pub cleared :
      (e : Line) → first_of (settled (depth_at o) j.lines) ≡ Some e → (a : ℕ) → In a agents → (In a noted → ⊥)
      → is_cleared s j.lines e.number r a ≡ true

-- what was sent meanwhile for this opener was sent by one of these references
abbrev pub OnlyBy : Hand → List Reference → Journal → Journal → Type 0
OnlyBy o rs i j =
    (e : Line) → In e (siblings (depth_at o) j.lines)
    → In e (siblings (depth_at o) i.lines)
    ⊎ ((r : Reference) × In r rs × In e.receiver r.agents × IsCarried e.sender (line_for o) r e.message)

-- ---- updates
-- an update is at hand, and its target is found in a context that its agent masters
pub record AtMaster (p : Point) (s : Scene) (k : Hand) (i : Journal) : Type 0 where
  pub at_hand : AtHand p s k i
  pub arrives : Arrives s k i
  pub update : is_update k.message.request.body ≡ true
  pub context : Held
  pub found : found_at s i k ≡ finding.Here context
