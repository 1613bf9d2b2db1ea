-- Contexts that are moved between agents: a split makes an entry a pin whose context an agent masters, and an unsplit
-- joins the context of a pin to that of its parent. Both are administration, and send no message.
use Rattle.std.specs.Prelude.{ℕ, Bool, false, not, ◌&&◌, ◌==◌, if◌then◌else◌, List, [], ◌∷◌, ◌++◌, length, map, drop}
use Rattle.std.specs.List.{list_any, filter}
use Rattle.std.specs.declared.option.Option.{Option}
use Rattle.std.specs.declared.option.Option.TheVariants.{None, Some}
use Rattle.x5_model.specs.Words.{is_empty, in_option, when}
use Rattle.x5_model.specs.Keys.{Key, same_key, is_prefix, parent}
use Rattle.x5_model.specs.Values.{Name, key_of}
use Rattle.x5_model.specs.Entries.{Named}
use Rattle.x5_model_tree.specs.World.{Specific, Nssr, Context, Agent, World}
use Rattle.x5_model_tree.specs.Tree.{Tree, key_at, entry_at, is_there, longest, part}
use Rattle.x5_model_tree.specs.Masters.{agent_at, master_of, masters, numbered}

-- The tree keeps its entries; a pin is added or taken away. Where it's taken, the names of its entries begin from then
-- on as its parent's is spelled.
abbrev pub split_tree : Key → Tree → Tree
split_tree name t = record t { pins = t.pins ++ name ∷ [] }

abbrev pub respelled_below : Name → Named → Named
respelled_below above e = record e { name = above ++ drop (length above) e.name }

abbrev pub unsplit_tree : Key → Tree → Tree
unsplit_tree name t = in_option t joined (entry_at t.entries (parent name))
  where
    joined : Named → Tree
    joined above = record {
      entries = map (λ e. if is_there (part t name) (key_at e) then respelled_below above.name e else e) t.entries;
      pins = filter (λ p. not (same_key p name)) t.pins;
    }

-- what is moved: from which agent, to which, and which entries
pub record Move : Type 0 where
  pub from : ℕ
  pub to : ℕ
  pub moved : List Named

abbrev pub is_moved : Move → Key → Bool
is_moved v key = is_there v.moved key

-- the references and NSSRs below what is moved
abbrev pub moved_references : World → Move → List Specific
moved_references w v =
    in_option [] (λ a. filter (λ k. is_moved v (parent (key_of k.pin))) a.subordinate) (agent_at w v.from)

abbrev pub nssr_without : ℕ → Nssr → Nssr
nssr_without a n = record n { agents = filter (λ x. not (x == a)) n.agents }

abbrev pub without_agent : ℕ → List Nssr → List Nssr
without_agent a nssrs = filter (λ n. not (is_empty n.agents)) (map (nssr_without a) nssrs)

abbrev pub moved_nssrs : Move → List Context → List Nssr
moved_nssrs v [] = []
moved_nssrs v (c ∷ cs) = without_agent v.to (filter (λ n. is_moved v (key_of n.at)) c.nssrs) ++ moved_nssrs v cs

abbrev pub nssrs_along : World → Move → List Nssr
nssrs_along w v = in_option [] (λ a. moved_nssrs v a.contexts) (agent_at w v.from)

-- the new master knows the moved references but those to what it masters, and the old master for each pin just below
-- that the old one masters and no moved reference names
abbrev pub references_along : World → Move → List Specific
references_along w v = filter (λ k. not (masters w v.to (key_of k.pin))) (moved_references w v)

abbrev pub is_named : List Specific → Key → Bool
is_named ks pin = list_any (λ k. same_key (key_of k.pin) pin) ks

abbrev pub back_references : World → Move → List Specific
back_references w v = if v.from == v.to then [] else in_option [] back (agent_at w v.from)
  where
    back : Agent → List Specific
    back a =
        map (λ c. record { pin = c.prefix; access = record { master = v.from; shadows = [] } })
        (filter (λ c. is_moved v (parent (key_of c.prefix))
        && not (is_named (moved_references w v) (key_of c.prefix))) a.contexts)

-- one agent of the world changed
abbrev pub with_agent : ℕ → (Agent → Agent) → World → World
with_agent a change w = record w { agents = map (λ x. if x.0 == a then change x.1 else x.1) (numbered w) }

-- what is moved leaves its agent
abbrev pub context_without : Move → Context → Context
context_without v c =
    record c {
      entries = filter (λ e. not (is_moved v (key_at e))) c.entries;
      nssrs = filter (λ n. not (is_moved v (key_of n.at))) c.nssrs;
    }

abbrev pub leaves : Move → Agent → Agent
leaves v a =
    record a {
      contexts = map (context_without v) a.contexts;
      subordinate = filter (λ k. not (is_moved v (parent (key_of k.pin)))) a.subordinate;
    }

-- after a split the new master has a context more, its last, and the old one knows it by a reference
abbrev pub split_move : Tree → World → Key → ℕ → Option Move
split_move t w name to = in_option None (λ pin. in_option None
    (λ o. Some (record { from = o; to = to; moved = filter (λ e. is_prefix name (key_at e)) (part t pin) }))
    (master_of w pin)) (longest t.pins name)

abbrev pub split_by : World → Name → Move → World
split_by w name v = with_agent v.to joins (with_agent v.from knows (with_agent v.from (leaves v) w))
  where
    knows : Agent → Agent
    knows a =
        record a {
          subordinate = a.subordinate ++ when (not (v.from == v.to))
              (record { pin = name; access = record { master = v.to; shadows = [] } });
        }

    joins : Agent → Agent
    joins a = record a {
      contexts = a.contexts ++ (record { prefix = name; entries = v.moved; nssrs = nssrs_along w v }) ∷ [];
      subordinate = a.subordinate ++ references_along w v ++ back_references w v;
    }

abbrev pub split_world : Tree → Key → ℕ → World → World
split_world t name to w =
    in_option w (λ e. in_option w (split_by w e.name) (split_move t w name to)) (entry_at t.entries name)

-- After an unsplit the parent's master has the entries in the parent's context, and nobody refers to the pin. The old
-- master leaves the NSSR at the parent, unless it masters another pin just below.
abbrev pub unsplit_move : Tree → World → Key → Option Move
unsplit_move t w name = in_option None (λ o. in_option None
    (λ pin. in_option None (λ a. Some (record { from = o; to = a; moved = part t name })) (master_of w pin))
    (longest t.pins (parent name))) (master_of w name)

abbrev pub masters_beside : World → ℕ → Key → Bool
masters_beside w a name = in_option false (λ x. list_any (λ c. same_key (parent (key_of c.prefix)) (parent name)
    && not (same_key (key_of c.prefix) name)) x.contexts) (agent_at w a)

abbrev pub forgets : Key → Agent → Agent
forgets name a =
    record a {
      subordinate = filter (λ k. not (same_key (key_of k.pin) name)) a.subordinate;
      cross = filter (λ k. not (same_key (key_of k.pin) name)) a.cross;
    }

abbrev pub unsplit_by : Tree → World → Key → Move → World
unsplit_by t w name v = forgotten (with_agent v.to joins (with_agent v.from drops w))
  where
    drops : Agent → Agent
    drops a =
        record (leaves v a) { contexts = filter (λ c. not (same_key (key_of c.prefix) name)) (leaves v a).contexts }

    left : List Nssr → List Nssr
    left nssrs =
        if masters_beside w v.from name then nssrs
        else filter (λ n. not (is_empty n.agents))
        (map (λ n. if same_key (key_of n.at) (parent name) then nssr_without v.from n else n) nssrs)

    is_above : Context → Bool
    is_above c = in_option false (λ pin. same_key (key_of c.prefix) pin) (longest t.pins (parent name))

    joins : Agent → Agent
    joins a = record a {
      contexts = map (λ c. if is_above c then record c {
        entries = c.entries ++ v.moved;
        nssrs = left c.nssrs
            ++ nssrs_along w v;
      } else c) a.contexts;
      subordinate = a.subordinate ++ references_along w v ++ back_references w v;
    }

    forgotten : World → World
    forgotten x = record x { agents = map (forgets name) x.agents }

abbrev pub unsplit_world : Tree → Key → World → World
unsplit_world t name w = in_option w (unsplit_by t w name) (unsplit_move t w name)
