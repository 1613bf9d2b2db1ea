-- The network of a line, as the definitions judge it: each agent holds what it holds at that line, and each kind of line
-- leads to the network of the next one.
use Rattle.std.proofs.Common.{◌≡◌, ℕ, zero, suc, ◌+◌, ◌*◌, ◌<◌, ◌==◌, Bool, true, false, List, [], ◌∷◌, length, map, reverse, slice_get, Option, Result, Ok, Err, IfOk, Some, refl, sym, ap, subst, ◌∙◌, arith}
use Rattle.std.specs.List.{filter}
use Rattle.std.specs.Prelude.{nat_lt, if◌then◌else◌}
use Rattle.std.proofs.lemmas.List.{length-map}
use mathlib.Core.Path.{fun_ext}
use Rattle.x5_model.specs.Words.{has}
use Rattle.x5_model.specs.References.{Chained}
use Rattle.x5_model.specs.Requests.{Request}
use Rattle.x5_model.specs.Answers.{Reply}
use Rattle.x5_model_tree.specs.World.{Agent, Agreement, Network, World}
use Rattle.x5_model_tree.specs.Masters.{mastered}
use Rattle.x5_model_tree.specs.Consistent.{IsConsistent}
use Rattle.x5_model_run.specs.Network.{Outage, after_outage, after_loss}
use Rattle.x5_model_run.specs.Holdings.{Holdings}
use Rattle.x5_model_run.specs.Journal.{Journal}
use Rattle.x5_model_run.specs.History.{Point, knowledge_at, network_at, sent_before}
use Rattle.x5_model_run.specs.Stage.{budget, nssr_pairs, once_each}
use Rattle.x5_model_run.specs.Chain.{Scene}
use Rattle.x5_model_run.specs.Run.{Dsp, Command, Changes, Drops, Hands, Block, Blank, Silent, Set, Handed, IsBlock, did_by}
use Rattle.x5_model_run.specs.Right.{SendsRight}
use Rattle.x5_model_serve.specs.Committed.{committed}
use Rattle.x5_model_serve.specs.Serving.{IsRequest}
use Rattle.x5_model_held.specs.Theorems.{is_still}
use Rattle.x5_model_settled.specs.Settled.{HasAgent}
use Rattle.x5_model_settled.specs.Held.{BySteps, held_at, scene_held}
use Rattle.x5_model_settled.proofs.After.{network_stays, moved_none_after, knows_as_described}
use Rattle.x5_model_settled.proofs.Held.{held_on, held_after_line, scene_is as settled_scene_is}
use Rattle.x5_model_settled.proofs.Settled.{lines_handle_right}
use Rattle.x5_model_fitting.specs.Requests.{RequestWithin}
use Rattle.x5_model_refreshed.specs.Growing.{IsQuiet}
use Rattle.x5_model_refreshed.proofs.Running.{did_happen}
use Rattle.x5_model_settled.proofs.Stamped.{stamped_after}
use Rattle.x5_world.specs.Logs.{AreNoted, Logs}
use Rattle.x5_world.specs.State.{Net, StandsAt, HasShortNames, after, holdings_in, logs_in}
use Rattle.x5_world.specs.Sent.{held_since, scene_of}
use Rattle.x5_world.proofs.Keeping.{logs_stay}
use Rattle.x5_world.proofs.Within.{accepted_bounded, one_more_within, quiet_bounded}
use Rattle.x5_world.proofs.Logging.{logs_after, quiet_acked, quiet_happens, request_acked}

-- ---- what a line is judged by

pub scene_is : (n : Net) (p : Point) (first : ℕ) (m : Chained) → StandsAt n p → scene_of n first m ≡ scene_held p first m
scene_is n p first m s =
    let held : holdings_in n ≡ held_at p = fun_ext s.holds in
    λ i. record {
      holdings = held i;
      network = s.network i;
      sent = s.sent i;
      first = first;
      message = m;
      follows = false;
    }

-- how many messages a request may take, of these counts
abbrev pub most_of : Net → ℕ
most_of n =
    ((n.contexts + 34) * (length n.names + 9) + n.pairs)
    * (1 + length (once_each (filter (λ number. nat_lt n.sent number) n.network.lost_replies)))

abbrev most_by : ℕ → ℕ → ℕ → ℕ → Network → ℕ
most_by contexts agents pairs sent net =
    ((contexts + 34) * (agents + 9) + pairs)
    * (1 + length (once_each (filter (λ number. nat_lt sent number) net.lost_replies)))

agents_are : (w : World) → length (map (λ a. a.name) w.agents) ≡ length w.agents
agents_are w = length-map w.agents (λ a. a.name)

pub budget_is : (n : Net) (p : Point) → StandsAt n p → most_of n ≡ budget p
budget_is n p s =
    let known : knowledge_at p ≡ p.described = knows_as_described p.described p.past s.unmoved in
    let agents : length n.names ≡ length p.described.agents = ap length s.names ∙ agents_are p.described in
    (λ i. most_by (s.contexts i) (agents i) (s.pairs i) (s.sent i) (s.network i))
    ∙ sym (λ i. most_by (length (mastered (known i))) (length (known i).agents) (nssr_pairs (known i))
    (sent_before p.past) (network_at p))

-- ---- the next line

-- a network that is as it was, but for its links and its number of messages
pub record IsAs (old new : Net) (links : Network) (count : ℕ) : Type 0 where
  pub names : new.names ≡ old.names
  pub agents : new.agents ≡ old.agents
  pub logs : new.logs ≡ old.logs
  pub network : new.network ≡ links
  pub sent : new.sent ≡ count
  pub contexts : new.contexts ≡ old.contexts
  pub pairs : new.pairs ≡ old.pairs
  pub agreements : new.agreements ≡ old.agreements
  pub acked : new.acked ≡ old.acked
  pub line : new.line ≡ old.line + 1

-- as where one line more was counted
pub as_before : (old new : Net) (links : Network) → new ≡ record old { network = links; line = old.line + 1 }
    → IsAs old new links old.sent
as_before old new links e = record {
  names = ap (λ (n : Net). n.names) e;
  agents = ap (λ (n : Net). n.agents) e;
  logs = ap (λ (n : Net). n.logs) e;
  network = ap (λ (n : Net). n.network) e;
  sent = ap (λ (n : Net). n.sent) e;
  contexts = ap (λ (n : Net). n.contexts) e;
  pairs = ap (λ (n : Net). n.pairs) e;
  agreements = ap (λ (n : Net). n.agreements) e;
  acked = ap (λ (n : Net). n.acked) e;
  line = ap (λ (n : Net). n.line) e;
}

next_line : (n k length_now : ℕ) → n ≡ k + 1 → k ≡ length_now → n ≡ suc length_now
next_line n k length_now e f = omega (arith, e, f)

-- at a line that changes nothing that is held
stands : (old new : Net) (p : Point) (command : Command) (block : Block) (network : Network) (sent : ℕ)
    → IsBlock BySteps p command block → is_still (did_by command block).deed ≡ true → IsQuiet (did_by command block).deed
    → StandsAt old p → IsAs old new network sent → network ≡ network_at (after (did_by command block) p)
    → sent ≡ sent_before (did_by command block ∷ p.past) → StandsAt new (after (did_by command block) p)
stands old new p command block network sent is still quiet s q e f =
    let did = did_by command block in record {
      described = s.described;
      unmoved = moved_none_after p.past command block s.unmoved;
      stamped = λ consistent. stamped_after BySteps p.described p.past command block is (s.stamped consistent);
      names = q.names ∙ s.names;
      holds = λ a. ap (λ (hs : List Holdings). holdings_in (record old { agents = hs }) a) q.agents ∙ s.holds a
          ∙ sym (held_on p.described p.past did a still);
      network = q.network ∙ e;
      sent = q.sent ∙ f;
      contexts = q.contexts ∙ s.contexts;
      pairs = q.pairs ∙ s.pairs;
      agreements = q.agreements ∙ s.agreements;
      acked = q.acked ∙ s.acked
          ∙ ap (λ (known : Agreement → Option ℕ). map known p.described.agreements)
          (fun_ext (λ g. sym (quiet_acked p did.deed did.sent g.number quiet)));
      line = next_line new.line old.line (length p.past) q.line s.line;
      happened = λ consistent. (quiet_happens p did.deed quiet, s.happened consistent);
      logs = λ consistent a. ap (λ (ls : List Logs). logs_in (record old { logs = ls }) a) q.logs ∙ s.logs consistent a
          ∙ sym (logs_stay p did.deed did.sent a quiet);
      within = one_more_within p did (quiet_bounded did.deed quiet) s.within;
    }

pub after_comment : (old new : Net) (p : Point) → StandsAt old p → IsAs old new old.network old.sent
    → StandsAt new (after (did_by Blank Silent) p)
after_comment old new p s q =
    stands old new p Blank Silent old.network old.sent tt refl tt s q
    s.network (s.sent ∙ (let z : sent_before p.past ≡ 0 + sent_before p.past = omega arith in z))

pub after_change : (old new : Net) (p : Point) (o : Outage) → StandsAt old p
    → IsAs old new (after_outage o old.network) old.sent → StandsAt new (after (did_by (Changes o) Set) p)
after_change old new p o s q =
    stands old new p (Changes o) Set (after_outage o old.network) old.sent tt refl tt s q
    (ap (after_outage o) s.network)
    (s.sent ∙ (let z : sent_before p.past ≡ 0 + sent_before p.past = omega arith in z))

pub after_drop : (old new : Net) (p : Point) (reply : Bool) (number : ℕ) → StandsAt old p
    → IsAs old new (after_loss reply (old.sent + number) old.network) old.sent
    → StandsAt new (after (did_by (Drops reply number) Set) p)
after_drop old new p reply number s q =
    stands old new p (Drops reply number) Set (after_loss reply (old.sent + number) old.network) old.sent tt refl tt s q
    (λ i. after_loss reply (s.sent i + number) (s.network i))
    (s.sent ∙ (let z : sent_before p.past ≡ 0 + sent_before p.past = omega arith in z))

pub if_ok_then : {T E : Type 0} {P Q : T → Type 0} (result : Result T E) → IfOk result P → ((x : T) → P x → Q x)
    → IfOk result Q
if_ok_then (Ok x) p more = more x p
if_ok_then (Err e) p more = p

-- a network after a request: each agent holds what it held, changed where it accepted the update
pub record IsAfter (old new : Net) (r : Request) (accepted : List ℕ) (count : ℕ) : Type 0 where
  pub names : new.names ≡ old.names
  pub holds : (a : ℕ) → holdings_in new a ≡ held_since accepted r a (holdings_in old a)
  pub network : new.network ≡ old.network
  pub sent : new.sent ≡ count
  pub contexts : new.contexts ≡ old.contexts
  pub pairs : new.pairs ≡ old.pairs
  pub agreements : new.agreements ≡ old.agreements
  pub acked : new.acked ≡ old.acked
  pub line : new.line ≡ old.line + 1
  pub notes : (a : ℕ) → has ◌==◌ accepted a ≡ true
      → ∥ AreNoted (old.line + 1) r (holdings_in old a) (logs_in old a) (logs_in new a) ∥₁
  pub others : (a : ℕ) → has ◌==◌ accepted a ≡ false → logs_in new a ≡ logs_in old a

at_agent : (agents : List Agent) (a : ℕ) → a < length agents → (x : Agent) × (slice_get agents a ≡ Some x)
at_agent [] a l = absurd (omega (arith, l))
at_agent (x ∷ more) zero l = (x, refl)
at_agent (x ∷ more) (suc a) l = at_agent more a (omega (arith, l))

-- an agent of the network is one of the world
agent_there : (n : Net) (p : Point) (first : ℕ) → StandsAt n p → first < length n.names → HasAgent p.described first
agent_there n p first s there =
    let few : first < length p.described.agents =
    (let e = ap length s.names ∙ agents_are p.described in omega (arith, e, there)) in
    at_agent p.described.agents first few

-- a message that the user sends, as a command of a run and its block
abbrev sends : ℕ → Chained → Command
sends first m = Hands Dsp first 0 (Ok m)

abbrev answers : Journal → Reply → Block
answers j reply = Handed Dsp 0 j reply

-- over consistent knowledge what is done with it is right
right : (n : Net) (p : Point) (first : ℕ) (m : Chained) (j : Journal) (reply : Reply) → StandsAt n p
    → first < length n.names → HasShortNames m.request.body → BySteps p first m j reply → IsConsistent p.described
    → SendsRight p first m j reply
right n p first m j reply s there short asked consistent =
    (lines_handle_right p.described p.past first m s.described consistent s.unmoved (agent_there n p first s there) j reply
    short.target short.new_name
    (subst (λ (x : Scene). IsRequest x (budget p) j reply) (settled_scene_is p first m consistent) asked)).sends

pub after_message : (old new : Net) (p : Point) (first : ℕ) (m : Chained) (j : Journal) (reply : Reply)
    (accepted : List ℕ)
    → StandsAt old p → first < length old.names → HasShortNames m.request.body → BySteps p first m j reply
    → ((a : ℕ) → has ◌==◌ j.accepted a ≡ has ◌==◌ accepted a)
    → IsAfter old new m.request accepted (old.sent + length j.lines) → RequestWithin m.request
    → StandsAt new (after (did_by (sends first m) (answers j reply)) p)
after_message old new p first m j reply accepted s there short asked same q fit = record {
  described = s.described;
  unmoved = moved_none_after p.past (sends first m) (answers j reply) s.unmoved;
  stamped = λ consistent. stamped_after BySteps p.described p.past (sends first m) (answers j reply) (refl, refl, asked)
      (s.stamped consistent);
  names = q.names ∙ s.names;
  holds = λ a. q.holds a ∙ ap (held_since accepted m.request a) (s.holds a)
      ∙ ap (λ (b : Bool). if b then committed m.request (held_at p a) else held_at p a) (sym (same a))
      ∙ sym (held_after_line p.described p.past first m j reply a s.described s.unmoved s.stamped asked);
  network = q.network ∙ s.network ∙ sym (network_stays p.described p.past m j);
  sent = q.sent ∙ ap (λ (k : ℕ). k + length j.lines) s.sent
      ∙ (let z : sent_before p.past + length j.lines ≡ length j.lines + sent_before p.past = omega arith in z);
  contexts = q.contexts ∙ s.contexts;
  pairs = q.pairs ∙ s.pairs;
  agreements = q.agreements ∙ s.agreements;
  acked = q.acked ∙ s.acked
      ∙ ap (λ (known : Agreement → Option ℕ). map known p.described.agreements)
      (fun_ext (λ g. sym (request_acked p m.request (reverse j.accepted) (length j.lines) g.number)));
  line = next_line new.line old.line (length p.past) q.line s.line;
  happened = λ consistent. (
    did_happen p (sends first m) (answers j reply) (refl, refl, right old p first m j reply s there short asked consistent),
    s.happened consistent,
  );
  logs = λ consistent a. logs_after old new p m.request s consistent accepted q.notes q.others j.accepted (length j.lines)
      (right old p first m j reply s there short asked consistent).one same a;
  within = one_more_within p (did_by (sends first m) (answers j reply)) (accepted_bounded m.request j fit) s.within;
}
