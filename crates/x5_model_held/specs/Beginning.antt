-- What agents hold as their world's file describes it, before the first line of a script: the contexts that they master
-- with the knowledge that goes with them, copies of which nothing was sent yet, and references (X.501, section 22: DSA
-- information tree; X.525, section 9). Whether the knowledge is consistent doesn't matter.
use Rattle.std.specs.Prelude.{ℕ, ◌==◌, if◌then◌else◌, List, [], length, map}
use Rattle.std.specs.List.{filter}
use Rattle.std.specs.Option.{is_none}
use Rattle.std.specs.declared.option.Option.TheVariants.{None}
use Rattle.x5_model.specs.Words.{in_option}
use Rattle.x5_model_tree.specs.World.{Specific, Context, Agent, Agreement, World}
use Rattle.x5_model_tree.specs.Tree.{sorted_entries}
use Rattle.x5_model_tree.specs.Masters.{agent_at, held_contexts}
use Rattle.x5_model_run.specs.Holdings.{Held, Copy, Holdings}
use Rattle.x5_model_run.specs.History.{references_below, agreements_of, no_holdings}

-- a context with its entries in the order of their keys, and those of the subordinate references that belong to it
abbrev pub described_context : List Specific → Context → Held
described_context known c = record {
  prefix = c.prefix;
  entries = sorted_entries c.entries;
  subordinate = references_below (sorted_entries c.entries) known;
  nssrs = c.nssrs;
}

-- a copy before the first refresh
abbrev pub described_copy : Agreement → Copy
described_copy g = record {
  held = record { prefix = g.context; entries = []; subordinate = []; nssrs = [] };
  stamp = None;
  supplier = g.supplier;
}

abbrev pub described_holdings : World → ℕ → Agent → Holdings
described_holdings w me a = record {
  me = me;
  superior = a.superior;
  own = map (described_context a.subordinate) (held_contexts [] a.contexts);
  copies = map described_copy (agreements_of w me);
  root = if is_none a.superior then filter (λ k. length k.pin == 1) a.subordinate else [];
  cross = a.cross;
}

abbrev pub holdings_described : World → ℕ → Holdings
holdings_described w me = in_option (no_holdings me) (described_holdings w me) (agent_at w me)
