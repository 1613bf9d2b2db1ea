-- Step by step along a run: over consistent knowledge the scene of each message is its line's, so what agents do with it
-- is what holds there.
use Rattle.std.proofs.Common.{List, subst}
use Rattle.std.specs.List.{AllByRecursion}
use Rattle.x5_model_tree.specs.World.{World}
use Rattle.x5_model_tree.specs.Consistent.{IsConsistent}
use Rattle.x5_model_tree.specs.Described.{IsDescribed}
use Rattle.x5_model_run.specs.History.{Did}
use Rattle.x5_model_run.specs.Stage.{budget}
use Rattle.x5_model_run.specs.Chain.{Scene}
use Rattle.x5_model_run.specs.Run.{Command, Block, IsBlock, IsRun, begin, next}
use Rattle.x5_model_serve.specs.Serving.{IsRequest}
use Rattle.x5_model_settled.specs.Judges.{RightAndWhole}
use Rattle.x5_model_settled.specs.Runs.{ByAgents, IsAskable}
use Rattle.x5_model_settled.specs.Afterwards.{line_after}
use Rattle.x5_model_local.proofs.Own.{requests_are_by_their_own}
use Rattle.x5_model_settled.specs.Held.{scene_held, BySteps, StepsAreAgents, StepsAreRight, StepsPrintRun, Performed, StepsArePerformed, StepsPrintPerformed, PerformedIsRight}
use Rattle.x5_model_settled.proofs.Settled.{runs_handle_right}
use Rattle.x5_model_settled.proofs.Held.{scene_is}
use Rattle.x5_model_settled.proofs.Runs.{before_last, block_more, agents_run_is_run}

-- ---- over consistent knowledge

module _ (w : World) (consistent : IsConsistent w) where
  agents : (commands : List Command) (blocks : List Block) (past : List Did) → IsRun BySteps w commands blocks past
      → IsRun ByAgents w commands blocks past
  agents _ _ _ begin = begin
  agents _ _ _ (next {commands = cs} {blocks = bs} {past = before} command block run is) =
      next command block (agents cs bs before run)
      (block_more BySteps ByAgents (line_after w before) command block (λ first m j reply e.
      subst (λ (s : Scene). IsRequest s (budget (line_after w before)) j reply)
      (scene_is (line_after w before) first m consistent)) is)

pub steps_are_agents : StepsAreAgents
steps_are_agents w commands blocks past consistent run = agents w consistent commands blocks past run

pub steps_are_right : StepsAreRight
steps_are_right w commands blocks past described consistent may run =
    agents_run_is_run w commands blocks past described consistent may
    (steps_are_agents w commands blocks past consistent run)

pub steps_print_run : StepsPrintRun
steps_print_run w moment commands octets described consistent may prints = record {
  blocks = prints.blocks;
  past = prints.past;
  runs = steps_are_right w commands prints.blocks prints.past described consistent may prints.runs;
  octets_are = prints.octets_are;
}

-- ---- whether or not knowledge is consistent

module _ (w : World) (described : IsDescribed w) where
  -- the block of the next command
  right_too : (commands : List Command) (blocks : List Block) (past : List Did) (command : Command) (block : Block)
      → IsAskable w command → IsRun BySteps w commands blocks past
      → IsBlock BySteps (line_after w past) command block → IsBlock Performed (line_after w past) command block
  right_too commands blocks past command block asked run =
      block_more BySteps Performed (line_after w past) command block (λ first m j reply e is. (
        is,
        λ consistent.
            let may = asked first m e in
            runs_handle_right BySteps w commands blocks past first m described consistent run may.0 j reply may.1 may.2
            (subst (λ (s : Scene). IsRequest s (budget (line_after w past)) j reply)
            (scene_is (line_after w past) first m consistent) is),
        requests_are_by_their_own (scene_held (line_after w past) first m) (budget (line_after w past)) j reply is,
      ))

  performed : (commands : List Command) (blocks : List Block) (past : List Did) → AllByRecursion (IsAskable w) commands
      → IsRun BySteps w commands blocks past → IsRun Performed w commands blocks past
  performed _ _ _ may begin = begin
  performed _ _ _ may (next {commands = cs} {blocks = bs} {past = before} command block run is) =
      let all = before_last (IsAskable w) cs command may in
      next command block (performed cs bs before all.0 run) (right_too cs bs before command block all.1 run is)

pub steps_are_performed : StepsArePerformed
steps_are_performed w commands blocks past described may run = performed w described commands blocks past may run

pub steps_print_performed : StepsPrintPerformed
steps_print_performed w moment commands octets described may prints = record {
  blocks = prints.blocks;
  past = prints.past;
  runs = steps_are_performed w commands prints.blocks prints.past described may prints.runs;
  octets_are = prints.octets_are;
}

pub performed_is_right : PerformedIsRight
performed_is_right w _ _ _ consistent begin = begin
performed_is_right w _ _ _ consistent (next {commands = cs} {blocks = bs} {past = before} command block run is) =
    next command block (performed_is_right w cs bs before consistent run)
    (block_more Performed RightAndWhole (line_after w before) command block (λ first m j reply e p. p.1 consistent) is)
