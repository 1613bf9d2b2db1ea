-- The states that a run goes through: the one tree, the network, when copies were refreshed, and what each agent holds.
-- Line n of a script is at moment n; what earlier lines did is a list with the newest first, one item for each line.
use Rattle.std.specs.Prelude.{ℕ, ◌+◌, ◌-◌, Bool, not, ◌&&◌, ◌==◌, if◌then◌else◌, List, [], ◌∷◌, ◌++◌, length, map, drop}
use Rattle.std.specs.List.{filter, find}
use Rattle.std.specs.Option.{is_none}
use Rattle.std.specs.declared.option.Option.{Option}
use Rattle.std.specs.declared.option.Option.TheVariants.{None, Some}
use Rattle.std.specs.declared.result.Result.TheVariants.{Ok, Err}
use Rattle.x5_model.specs.Words.{has, first_of, in_option, when}
use Rattle.x5_model.specs.Keys.{Key, same_key, parent}
use Rattle.x5_model.specs.Values.{key_of}
use Rattle.x5_model.specs.Entries.{Named}
use Rattle.x5_model.specs.Requests.{Request}
use Rattle.x5_model_tree.specs.World.{Specific, Context, Agent, Agreement, Network, World}
use Rattle.x5_model_tree.specs.Tree.{Tree, is_there, part}
use Rattle.x5_model_tree.specs.Masters.{Mastered, pin_of, mastered, masters, agent_at, held_contexts, whole}
use Rattle.x5_model_tree.specs.Apply.{Applied, apply}
use Rattle.x5_model_run.specs.Network.{Outage, after_outage, after_loss}
use Rattle.x5_model_run.specs.Replant.{split_tree, unsplit_tree, split_world, unsplit_world}
use Rattle.x5_model_run.specs.Holdings.{Held, Copy, Holdings}

-- what a `refreshed` line says (X.525, section 9): the agreement, whether the refresh was total, the stamp, how many
-- entries or steps were sent, and whether the supplier knows that they were taken
pub record Refreshed : Type 0 where
  pub agreement : ℕ
  pub total : Bool
  pub stamp : ℕ
  pub count : ℕ
  pub acknowledged : Bool

-- an agent accepted an update
pub record Acceptance : Type 0 where
  pub agent : ℕ
  pub request : Request

-- what a line did, as far as later lines see it. A loss names a message, or the reply to it, by its distance from the
-- last message that was sent before. Agents accept updates, in this order; over consistent knowledge one at most does.
-- An entry was made a pin that an agent masters, or a pin was taken away.
pub data Deed : Type 0 where
  Nothing : Deed
  Outs : Outage → Deed
  Loses : Bool → ℕ → Deed
  Accepts : List Acceptance → Deed
  Refreshes : Refreshed → Deed
  Splits : Key → ℕ → Deed
  Unsplits : Key → Deed

-- with the number of messages that it sent
pub record Did : Type 0 where
  pub deed : Deed
  pub sent : ℕ

-- a line of a run: the described world, and what the lines before did
pub record Point : Type 0 where
  pub described : World
  pub past : List Did

-- its moment
abbrev pub moment_of : Point → ℕ
moment_of p = length p.past + 1

-- how many messages were sent before
abbrev pub sent_before : List Did → ℕ
sent_before [] = 0
sent_before (d ∷ before) = d.sent + sent_before before

-- the network before a line: the described one, and what the lines before did to it
abbrev pub network_after : Deed → ℕ → Network → Network
network_after Nothing sent net = net
network_after (Outs o) sent net = after_outage o net
network_after (Loses reply k) sent net = after_loss reply (sent + k) net
network_after (Accepts accepted) sent net = net
network_after (Refreshes f) sent net = net
network_after (Splits name a) sent net = net
network_after (Unsplits name) sent net = net

abbrev pub network_by : World → List Did → Network
network_by w [] = w.network
network_by w (d ∷ before) = network_after d.deed (sent_before before) (network_by w before)

abbrev pub network_at : Point → Network
network_at p = network_by p.described p.past

-- H: the one tree after these lines. An accepted update has changed it, and so have pins that were made or taken away;
-- all else leaves it as it is.
abbrev pub tree_with : Tree → Request → Tree
tree_with t r = or_same (apply t r)
  where
    or_same : Applied → Tree
    or_same (Ok new) = new
    or_same (Err x) = t

abbrev pub tree_accepting : List Acceptance → Tree → Tree
tree_accepting [] t = t
tree_accepting (a ∷ more) t = tree_accepting more (tree_with t a.request)

abbrev pub tree_after : Deed → Tree → Tree
tree_after Nothing t = t
tree_after (Outs o) t = t
tree_after (Loses reply k) t = t
tree_after (Accepts accepted) t = tree_accepting accepted t
tree_after (Refreshes f) t = t
tree_after (Splits name a) t = split_tree name t
tree_after (Unsplits name) t = unsplit_tree name t

abbrev pub tree_by : World → List Did → Tree
tree_by w [] = whole w
tree_by w (d ∷ before) = tree_after d.deed (tree_by w before)

-- the tree that a line finds
abbrev pub tree_at : Point → Tree
tree_at p = tree_by p.described p.past

-- the tree at a moment: after the line of that number
abbrev pub tree_of_moment : Point → ℕ → Tree
tree_of_moment p m = tree_by p.described (drop (length p.past - m) p.past)

-- The contexts, references and agreements that a line finds. Accepted updates leave them as they are; contexts that are
-- moved change who masters and knows what.
abbrev pub knowledge_after : World → List Did → Deed → World → World
knowledge_after w before (Splits name a) k = split_world (tree_by w before) name a k
knowledge_after w before (Unsplits name) k = unsplit_world (tree_by w before) name k
knowledge_after w before other k = k

abbrev pub knowledge_by : World → List Did → World
knowledge_by w [] = w
knowledge_by w (d ∷ before) = knowledge_after w before d.deed (knowledge_by w before)

abbrev pub knowledge_at : Point → World
knowledge_at p = knowledge_by p.described p.past

-- the world that it finds: each master has its part of the tree
abbrev pub world_at : Point → World
world_at p = record (knowledge_at p) { agents = map now_agent (knowledge_at p).agents }
  where
    now_context : Context → Context
    now_context c = record c { entries = part (tree_at p) (key_of c.prefix) }

    now_agent : Agent → Agent
    now_agent a = record a { contexts = map now_context a.contexts }

-- the moment of the last refresh by an agreement (X.525, section 9: last update); and of the last one of which the
-- supplier knows
abbrev pub refresh_of : Deed → ℕ → List Refreshed
refresh_of Nothing agreement = []
refresh_of (Outs o) agreement = []
refresh_of (Loses reply k) agreement = []
refresh_of (Accepts accepted) agreement = []
refresh_of (Splits name a) agreement = []
refresh_of (Unsplits name) agreement = []
refresh_of (Refreshes f) agreement = when (f.agreement == agreement) f

abbrev pub refreshes_of : List Did → ℕ → List Refreshed
refreshes_of [] agreement = []
refreshes_of (d ∷ before) agreement = refresh_of d.deed agreement ++ refreshes_of before agreement

abbrev pub stamp_of : Option Refreshed → Option ℕ
stamp_of None = None
stamp_of (Some f) = Some f.stamp

abbrev pub as_of : Point → ℕ → Option ℕ
as_of p agreement = stamp_of (first_of (refreshes_of p.past agreement))

abbrev pub acked : Point → ℕ → Option ℕ
acked p agreement = stamp_of (find (λ f. f.acknowledged) (refreshes_of p.past agreement))

-- the subordinate references that go with these entries of an agent: their pins are just below one of them
abbrev pub references_below : List Named → List Specific → List Specific
references_below entries ks = filter (λ k. is_there entries (parent (key_of k.pin))) ks

-- the contexts that an agent masters, and what it knows below them
abbrev pub own_context : Tree → Agent → Context → Held
own_context t a c = by (part t (key_of c.prefix))
  where
    by : List Named → Held
    by entries = record {
      prefix = c.prefix;
      entries = entries;
      subordinate = references_below entries a.subordinate;
      nssrs = c.nssrs;
    }

-- What a supplier sends of a context: its entries, its NSSRs and its subordinate references. A pin that its master
-- masters too is sent once, as a reference to the master alone.
abbrev pub sent_references : World → Mastered → List Named → List Specific
sent_references w m entries =
    map (λ d. record { pin = d.context.prefix; access = record { master = m.master; shadows = [] } })
    (filter (λ d. (d.master == m.master) && is_there entries (parent (pin_of d))) (mastered w))
    ++ in_option [] (λ a. filter (λ k. not (masters w m.master (key_of k.pin)))
    (references_below entries a.subordinate)) (agent_at w m.master)

abbrev pub mastered_at : World → Key → Option Mastered
mastered_at w pin = find (λ m. same_key (pin_of m) pin) (mastered w)

-- a copy as of a moment; none was sent before the first refresh
abbrev pub copy_as_of : Point → Agreement → Option ℕ → Held
copy_as_of p g None = record { prefix = g.context; entries = []; subordinate = []; nssrs = [] }
copy_as_of p g (Some m) = by (part (tree_of_moment p m) (key_of g.context))
  where
    by : List Named → Held
    by entries =
        in_option (record { prefix = g.context; entries = entries; subordinate = []; nssrs = [] })
        (λ c. record {
          prefix = g.context;
          entries = entries;
          subordinate = sent_references (knowledge_at p) c entries;
          nssrs = c.context.nssrs;
        }) (mastered_at (knowledge_at p) (key_of g.context))

abbrev pub copy_by : Point → Agreement → Copy
copy_by p g = record { held = copy_as_of p g (as_of p g.number); stamp = as_of p g.number; supplier = g.supplier }

-- where several agreements give an agent one context, it has one copy, by the first
abbrev pub first_agreements : List Key → List Agreement → List Agreement
first_agreements before [] = []
first_agreements before (g ∷ gs) =
    if has same_key before (key_of g.context) then first_agreements before gs
    else (g ∷ first_agreements (key_of g.context ∷ before) gs)

abbrev pub agreements_of : World → ℕ → List Agreement
agreements_of w a = first_agreements [] (filter (λ g. g.consumer == a) w.agreements)

-- what an agent holds at a line of a run over consistent knowledge
abbrev pub agent_holdings : Point → ℕ → Agent → Holdings
agent_holdings p me a = record {
  me = me;
  superior = a.superior;
  own = map (own_context (tree_at p) a) (held_contexts [] a.contexts);
  copies = map (copy_by p) (agreements_of (knowledge_at p) me);
  root = if is_none a.superior then filter (λ k. length k.pin == 1) a.subordinate else [];
  cross = a.cross;
}

abbrev pub no_holdings : ℕ → Holdings
no_holdings me = record { me = me; superior = None; own = []; copies = []; root = []; cross = [] }

abbrev pub holdings_at : Point → ℕ → Holdings
holdings_at p me = in_option (no_holdings me) (agent_holdings p me) (agent_at (knowledge_at p) me)
