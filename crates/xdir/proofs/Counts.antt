-- The counts grow by those of a block for each command, as the output does, and their line behind that on knowledge is the
-- summary of the run.
use Rattle.std.proofs.Common.{◌≡◌, ℕ, List, [], ◌∷◌, ◌++◌, refl, ap, ◌∙◌, Result, Ok, Err, IfOk}
use Rattle.x5_model_run.specs.History.{Did, Point}
use Rattle.x5_model_run.specs.Run.{Command, Block, Silent, did_by, begin, next}
use Rattle.x5_model_output.specs.Output.{run_text}
use Rattle.x5_model_output.specs.Summary.{Counts, no_counts, both, block_counts, counts_of, capped_counts, summary_line}
use Rattle.x5_model_run.specs.Refresh as refresh
use Rattle.x5_model_script.specs.Lines.{Asked}
use Rattle.x5_model_settled.specs.Runs.{IsAskable}
use Rattle.x5_model_settled.proofs.Steps.{steps_are_performed}
use Rattle.x5_model_world.specs.WorldFile.{File}
use Rattle.x5_know.specs.Moments.{moment_text}
use Rattle.x5_ops.specs.declared.journal.Journal.{Journal}
use Rattle.x5_report.specs.Counted.{IsOf}
use Rattle.x5_report.specs.declared.report.LineOutcome.{LineOutcome}
use Rattle.x5_report.specs.declared.report.LineOutcome.TheVariants.{Set, Answered, Plain, Refreshed, NotConsistent, Handed, Rejected}
use Rattle.x5_world.specs.State.{Net, StandsAt}
use Rattle.x5_model_tree.specs.World.{names_of_agents}
use Rattle.xdir.specs.declared.lines.Course.{Course}
use Rattle.xdir.specs.Blocks.{Gives, IsTold, IsCourse}
use Rattle.xdir.specs.Checked.{knowledge_text}
use Rattle.xdir.specs.Counted.{CountsOneMore, AddsBlock, IsCounted}
use Rattle.xdir.specs.Summed.{IsAskedSummary}
use Rattle.xdir.specs.Taken.{IsCommand, point}
use Rattle.xdir.proofs.SoFar.{and_last, commands_more}
use Rattle.xdir.proofs.Sound.{knowledge_is}

pub none_counted : (f : File) (net : Net) (counts : Counts) → StandsAt net (point f.world []) → counts ≡ no_counts → IsCounted f [] net counts
none_counted f net counts stands e =
    record { commands = []; are = tt; blocks = []; past = []; runs = begin; askable = tt; stands = stands; counted = e }

-- a comment adds nothing
silent_adds_none : (blocks : List Block) → counts_of blocks ≡ counts_of (blocks ++ Silent ∷ [])
silent_adds_none [] = refl
silent_adds_none (x ∷ xs) = ap (both (block_counts x)) (silent_adds_none xs)

pub comment_adds : (p : Point) (a : Asked) (command : Command) (net : Net) (counts : Counts) → IsCommand (names_of_agents p.described) a command
    → IsAskable p.described command → Gives p command net Silent → AddsBlock p a net counts counts
comment_adds p a command net counts is askable gives blocks before = record {
  command = command;
  is = is;
  askable = askable;
  block = Silent;
  gives = gives;
  counted = before ∙ ap capped_counts (silent_adds_none blocks);
}

-- what came of a command is counted as its block
told_of : (names : List (List ℕ)) (command : Command) (j : Journal) (o : LineOutcome) (b : Block) → IsTold names command j o b → IsOf names j o b
told_of names command j Set b t = t
told_of names command j (Answered reply) b t = t
told_of names command j (Plain reply) b t = absurd t
told_of names command j (Refreshed number f heard) b t = (t.refreshing, t.outcome, t.is)
told_of names command j NotConsistent b t = (refresh.ended [] refresh.NotConsistent, refl, t.1)
told_of names command j (Handed dsp count reply) b t = t
told_of names command j (Rejected dsp to count fate breach) b t = t

pub course_adds : (p : Point) (a : Asked) (command : Command) (net : Net) (c : Course) (old new : Counts) → IsCommand (names_of_agents p.described) a command
    → IsAskable p.described command → IsCourse p command net c
    → ((b : Block) (blocks : List Block) → IsOf (names_of_agents p.described) c.journal c.outcome b → old ≡ capped_counts (counts_of blocks)
    → new ≡ capped_counts (counts_of (blocks ++ b ∷ [])))
    → AddsBlock p a net old new
course_adds p a command net c old new is askable course counts blocks before = record {
  command = command;
  is = is;
  askable = askable;
  block = course.block;
  gives = course.gives;
  counted = counts course.block blocks (told_of (names_of_agents p.described) command c.journal c.outcome course.block course.told) before;
}

pub counted_more : (f : File) (asked : List Asked) (net later : Net) (old new : Counts) → IsCounted f asked net old → (a : Asked)
    → ((past : List Did) → StandsAt net (point f.world past) → AddsBlock (point f.world past) a later old new)
    → IsCounted f (asked ++ a ∷ []) later new
counted_more f asked net later old new far a adds =
    let m : CountsOneMore (point f.world far.past) a later far.blocks new = adds far.past far.stands far.blocks far.counted in
    record {
      commands = far.commands ++ m.command ∷ [];
      are = commands_more (names_of_agents f.world) asked far.commands a m.command far.are m.is;
      blocks = far.blocks ++ m.block ∷ [];
      past = did_by m.command m.block ∷ far.past;
      runs = next m.command m.block far.runs m.gives.is;
      askable = and_last (IsAskable f.world) far.commands m.command far.askable m.askable;
      stands = m.gives.stands;
      counted = m.counted;
    }

pub is_summary : (f : File) (asked : List Asked) (net : Net) (counts : Counts) → IsCounted f asked net counts
    → (line text : List ℕ) → line ≡ knowledge_text f.world → text ≡ line ++ summary_line counts → IsAskedSummary f asked text
is_summary f asked net counts far line text line_is is = record {
  commands = far.commands;
  are = far.are;
  sums = record {
    output = run_text f.world (moment_text f.start) far.commands far.blocks;
    prints = record {
      blocks = far.blocks;
      past = far.past;
      runs = steps_are_performed f.world far.commands far.blocks far.past far.stands.described far.askable far.runs;
      octets_are = refl;
    };
    sums_up = is
        ∙ ap (λ (c : Counts). line ++ summary_line c) far.counted
        ∙ ap (λ (first : List ℕ). first ++ summary_line (capped_counts (counts_of far.blocks))) (line_is ∙ knowledge_is f);
  };
}

pub if_ok_more : {T E : Type 0} {P Q : T → Type 0} (result : Result T E) → ((x : T) → P x → Q x) → IfOk result P → IfOk result Q
if_ok_more (Ok x) more p = more x p
if_ok_more (Err e) more p = p
