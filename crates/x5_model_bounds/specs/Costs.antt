-- How many messages what is done for a message may take, where no reply is lost. Over consistent knowledge each step
-- of name resolution comes to a later level, where a width is paid for each: the agents of one reference, of which
-- all but one are silent or unable, and four suppliers. A list or search pays a width for each context that it looks
-- into, for the reference by which it is asked, and one for each agent of an NSSR there. A reply that is lost pays
-- once more for all of it.
use Rattle.std.specs.Prelude.{ℕ, zero, suc, ◌+◌, ◌-◌, ◌*◌, ◌≤◌, min, Bool, ◌&&◌, ◌==◌, if◌then◌else◌, List, [], ◌∷◌}
use Rattle.std.specs.Prelude.{length}
use Rattle.std.specs.List.{flat_map}
use Rattle.std.specs.Option.{is_some}
use Rattle.x5_model.specs.Words.{has}
use Rattle.x5_model.specs.Keys.{same_key}
use Rattle.x5_model.specs.Values.{key_of}
use Rattle.x5_model.specs.References.{TraceItem, Chained}
use Rattle.x5_model_tree.specs.World.{World}
use Rattle.x5_model_tree.specs.Masters.{Mastered, pin_of, mastered}
use Rattle.x5_model_run.specs.Journal.{Journal, is_done, item_of}
use Rattle.x5_model_run.specs.Needs.{by_pin, subset_of, new_name}
use Rattle.x5_model_run.specs.History.{Point, knowledge_at, tree_at}
use Rattle.x5_model_run.specs.Chain.{Scene}
use Rattle.x5_model_run.specs.Covers.{touched}
use Rattle.x5_model_run.specs.Stage.{stage_of, nssr_pairs}
use Rattle.x5_model_theory.specs.Leading.{level_of}

abbrev pub total : {X : Type 0} → (X → ℕ) → List X → ℕ
total f [] = 0
total f (x ∷ xs) = f x + total f xs

-- what a level costs: no reference has more agents than there are and one, and a chain of suppliers has four hops
abbrev pub width : World → ℕ
width w = length w.agents + 9

-- name resolution: a width for each level still to come, of which there are 16 at most, since no pin has more RDNs;
-- and the superiors or suppliers at this one
abbrev pub hops : World → TraceItem → ℕ
hops w i = if is_done i.progress && i.wide then 0 else (stage_of w i).distance

abbrev pub left_of : World → ℕ → Chained → ℕ
left_of w to m = (min (length m.target) 16 - level_of (item_of to m)) * width w + hops w (item_of to m)

-- a list or search: each context that is looked into, but where the message came by a reference to its pin, which has
-- paid
abbrev pub pairs_in : Mastered → ℕ
pairs_in c = length (flat_map (λ n. n.agents) c.context.nssrs)

abbrev pub is_paid : Chained → Mastered → Bool
is_paid m c = by_pin m && same_key (pin_of c) (key_of m.target)

abbrev pub context_cost : World → Chained → Mastered → ℕ
context_cost w m c = (if is_paid m c then 0 else width w) + pairs_in c

abbrev pub part_cost : Point → ℕ → Chained → Mastered → ℕ
part_cost p to m c =
    if has same_key (touched (knowledge_at p) (tree_at p) to m) (pin_of c) then context_cost (knowledge_at p) m c else 0

abbrev pub parts_cost : Point → ℕ → Chained → ℕ
parts_cost p to m = total (part_cost p to m) (mastered (knowledge_at p))

-- an update that gives a new name: its probes, each with four suppliers
abbrev pub probes_cost : Point → Chained → ℕ
probes_cost p m = if is_some (new_name m.request.body) then 5 * width (knowledge_at p) else 0

abbrev pub serving_cost : Point → ℕ → Chained → ℕ
serving_cost p to m =
    left_of (knowledge_at p) to m + ((if is_some (subset_of m) then parts_cost p to m else 0) + probes_cost p m)

-- more than any message takes; what a request may take is so much for each reply that is lost, and once more
abbrev pub whole_cost : Point → ℕ
whole_cost p = (length (mastered (knowledge_at p)) + 34) * width (knowledge_at p) + nssr_pairs (knowledge_at p)

-- that much for each of the first n messages whose reply is lost
abbrev pub lost_cost : Scene → ℕ → ℕ → ℕ
lost_cost s whole zero = 0
lost_cost s whole (suc n) =
    (if has ◌==◌ s.network.lost_replies (s.sent + n + 1) then whole else 0) + lost_cost s whole n

-- from journal to journal it takes so many messages, and the whole for each reply that is lost meanwhile
abbrev pub Costs : Scene → ℕ → Journal → Journal → ℕ → Type 0
Costs s whole i j n =
    length j.lines + lost_cost s whole (length i.lines) ≤ (length i.lines + n) + lost_cost s whole (length j.lines)
