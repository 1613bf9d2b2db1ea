-- How far a message has come. Over consistent knowledge each item of a trace is at a lower stage than the next, so no
-- trace is long and no message goes round (X.518, section 17: request validation detects loops). And how many messages
-- a request may take.
use Rattle.std.specs.Prelude.{ℕ, zero, suc, ◌+◌, ◌*◌, Bool, ◌&&◌, ◌||◌, ◌==◌, nat_lt, if◌then◌else◌, List, [], ◌∷◌}
use Rattle.std.specs.Prelude.{length, take}
use Rattle.std.specs.List.{filter, flat_map}
use Rattle.x5_model.specs.Words.{has, in_option}
use Rattle.x5_model.specs.Keys.{Key}
use Rattle.x5_model.specs.Values.{key_of}
use Rattle.x5_model.specs.References.{Progress, Start, Next, Done, TraceItem}
use Rattle.x5_model_tree.specs.World.{World}
use Rattle.x5_model_tree.specs.Masters.{masters, superior_of, supplier_of, mastered}
use Rattle.x5_model_run.specs.History.{Point, sent_before, network_at, knowledge_at}

-- how many steps a chain has: of superiors up to a first-level agent, 16 at most; of suppliers up to the master, four
-- at most; none where the agent doesn't hold the context
abbrev pub steps_up : ℕ → World → ℕ → ℕ
steps_up zero w a = 0
steps_up (suc n) w a = in_option 0 (λ above. steps_up n w above + 1) (superior_of w a)

abbrev pub steps_to_master : ℕ → World → Key → ℕ → ℕ
steps_to_master zero w pin a = 0
steps_to_master (suc n) w pin a =
    if masters w a pin then 0 else in_option 0 (λ s. steps_to_master n w pin s + 1) (supplier_of w a pin)

-- a phase, a length, a mark, and a distance, of which the smaller is the later
pub record Stage : Type 0 where
  pub phase : ℕ
  pub size : ℕ
  pub mark : ℕ
  pub distance : ℕ

abbrev pub stage_of : World → TraceItem → Stage
stage_of w i = by i.progress
  where
    by : Progress → Stage
    by Start = record { phase = 0; size = 0; mark = 0; distance = steps_up 16 w i.agent }
    by (Next k) =
        record { phase = 1; size = k; mark = 0; distance = steps_to_master 4 w (take k (key_of i.target)) i.agent }
    by Done = record {
      phase = 2;
      size = length i.target;
      mark = if i.wide then 1 else 0;
      distance = steps_to_master 4 w (key_of i.target) i.agent;
    }

-- the first is the lower
abbrev pub is_lower : Stage → Stage → Bool
is_lower a b =
    nat_lt a.phase b.phase
    || ((a.phase == b.phase)
    && (nat_lt a.size b.size
    || ((a.size == b.size) && (nat_lt a.mark b.mark || ((a.mark == b.mark) && nat_lt b.distance a.distance)))))

-- the agents of all NSSRs, one for each place
abbrev pub nssr_pairs : World → ℕ
nssr_pairs w = length (flat_map (λ m. flat_map (λ n. n.agents) m.context.nssrs) (mastered w))

abbrev pub once_each : List ℕ → List ℕ
once_each [] = []
once_each (x ∷ xs) = if has ◌==◌ xs x then once_each xs else x ∷ once_each xs

-- how many messages a request may take at a line: more where replies to messages that are still to come are lost
abbrev pub budget : Point → ℕ
budget p =
    ((length (mastered (knowledge_at p)) + 34) * (length (knowledge_at p).agents + 9) + nssr_pairs (knowledge_at p))
    * (1 + length (once_each (filter (λ number. nat_lt (sent_before p.past) number) (network_at p).lost_replies)))
