-- The lines of a run whose requests are within the limits lead to a line that is.
use Rattle.std.proofs.Common.{◌≡◌, ◌<◌, ◌+◌, ◌^◌, List, [], ◌∷◌, length, refl, arith, length-append}
use Rattle.x5_model_tree.specs.World.{World}
use Rattle.x5_model_run.specs.History.{Did}
use Rattle.x5_model_run.specs.Run.{Command, Block, Judge, IsRun, begin, next}
use Rattle.x5_model_within.proofs.Runs.{accepted_bounded}
use Rattle.x5_model_shadowing.specs.Lines.{RunsAreBounded}

-- each line did something
run_length : (judge : Judge) (w : World) (commands : List Command) (blocks : List Block) (past : List Did)
    → IsRun judge w commands blocks past → length past ≡ length commands
run_length judge w commands blocks past begin = refl
run_length judge w commands blocks past (next {commands = cs} {blocks = bs} {past = before} command block run is) =
    let e : length before ≡ length cs = run_length judge w cs bs before run in
    omega (arith, e, length-append cs (command ∷ []))

pub runs_are_bounded : (judge : Judge) → RunsAreBounded judge
runs_are_bounded judge n w commands blocks past run each few utf8 nssrs led =
    let e : length past ≡ length commands = run_length judge w commands blocks past run in
    let c : length commands + 1 < 2 ^ 32 = few in
    record {
      led = led;
      texts = utf8;
      references = nssrs;
      accepted = accepted_bounded judge n w commands blocks past run each;
      counted = omega (arith, e, c);
    }
