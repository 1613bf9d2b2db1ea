-- What is written of the summary of a script over a world, and of the files that hold them: what the blocks are counted to
-- is what the texts of the script and of the output tell.
use Rattle.std.proofs.Common.{◌≡◌, inl, inr, ◌⊎◌, ℕ, List, [], ◌∷◌, map, Option, refl, sym, ap, ap₂, ◌∙◌, Ok, Err, append-nil}
use Rattle.x5_load.specs.Views.{Loads}
use Rattle.x5_model_counted.proofs.Summaries.{summary_is_of_texts}
use Rattle.x5_model_counted.specs.Laws as counted
use Rattle.x5_model_counted.specs.Lines.{summary_of}
use Rattle.x5_model_loaded.proofs.Worlds.{file_described}
use Rattle.x5_model_run.specs.Run.{Command}
use Rattle.x5_model_script.specs.Lines.{Asked, Delivers}
use Rattle.x5_model_script.specs.Lines as lines
use Rattle.x5_model_settled.specs.Held.{Performed}
use Rattle.x5_model_tree.specs.Described.{IsDescribed}
use Rattle.x5_model_world.specs.WorldFile.{File, Describes}
use Rattle.x5_port.specs.Outside as outside
use Rattle.x5_port.specs.Outside.{IsContent}
use Rattle.x5_script.specs.Views.{ReadsScript}
use Rattle.x5_script.specs.declared.script.ScriptRefusal.{ScriptRefusal}
use Rattle.x5_words.specs.Forms.{FileNames}
use Rattle.x5_world_members.specs.declared.fault.LoadFault.{LoadFault}
use Rattle.xdir.specs.declared.top.Status.{Status}
use Rattle.xdir.specs.declared.top.Status.TheVariants.{Done, Refused, Usage, ReadFault, WriteFault, NoMemory, Inconsistent, TooLong}
use Rattle.xdir.specs.Faults.{IsWorldLine, IsRefusalLine}
use Rattle.xdir.specs.Run.{lost_in, AsksFor}
use Rattle.x5_model_tree.specs.World.{names_of_agents}
use Rattle.xdir.specs.Steps.{WritesSuchLine, OfScript}
use Rattle.xdir.specs.Taken.{IsCommand, AreCommands}
use Rattle.xdir.specs.Summed.{Sums, EndsAtOnce, WritesSummed, SumsRun, IsAskedSummary, IsScriptSummary, SumsScript, SumsScriptFile}
use Rattle.xdir.proofs.Ends.{wrote_more, broke_more}
use Rattle.xdir.proofs.Files.{no_line, refused_as, refusal_of, wrong_as}

-- what is said of the texts may say less
module _ {output refusal output' refusal' : List ℕ → Type 0} (out : (text : List ℕ) → output text → output' text) (refuse : (text : List ℕ) → refusal text → refusal' text) where
  either : (text : List ℕ) → output text ⊎ refusal text → output' text ⊎ refusal' text
  either text (inl o) = inl (out text o)
  either text (inr r) = inr (refuse text r)

  at_once_more : (status : Status) (old new : Option (List ℕ)) (before after : ℕ) → EndsAtOnce output refusal status old new before after
      → EndsAtOnce output' refusal' status old new before after
  at_once_more Done old new before after w = wrote_more out old new w
  at_once_more Refused old new before after w = wrote_more refuse old new w
  at_once_more WriteFault old new before after w = (w.0, broke_more either old new w.1)
  at_once_more NoMemory old new before after w = w
  at_once_more ReadFault old new before after w = w
  at_once_more TooLong old new before after w = w
  at_once_more Usage old new before after w = absurd w
  at_once_more Inconsistent old new before after w = w

-- a line that is written alone, where it is a refusal, ends a summary too
module _ {P Q : List ℕ → Type 0} (more : (text : List ℕ) → P text → Q text) where
  pub such_at_once : (output : List ℕ → Type 0) (status : Status) (old new : Option (List ℕ)) (before after : ℕ)
      → WritesSuchLine status P old new before after → EndsAtOnce output Q status old new before after
  such_at_once output Refused old new before after w = wrote_more more old new w
  such_at_once output WriteFault old new before after w = (w.0, broke_more (λ text p. inr (more text p)) old new w.1)
  such_at_once output NoMemory old new before after w = w
  such_at_once output Done old new before after w = absurd w
  such_at_once output ReadFault old new before after w = absurd w
  such_at_once output TooLong old new before after w = absurd w
  such_at_once output Usage old new before after w = absurd w
  such_at_once output Inconsistent old new before after w = w

-- ---- a script

module _ (f : File) (octets : List ℕ) (asked : List Asked) (asks : AsksFor f.world octets asked) where
  script_summary : (text : List ℕ) → IsAskedSummary f asked text → IsScriptSummary f octets text
  script_summary text s = record { asked = asked; asks = asks; sums = s }

  pub sums_script : (status : Status) (old new : Option (List ℕ)) (before after : ℕ) → SumsRun status f asked old new before after
      → SumsScript status f octets old new before after
  sums_script status old new before after w =
      at_once_more script_summary (no_line f octets) status old new before after w

pub sums_refused : (f : File) (octets : List ℕ) (refusal : ScriptRefusal) → ReadsScript (Err refusal) (names_of_agents f.world) (lost_in f.world) octets
    → (status : Status) (old new : Option (List ℕ)) (before after : ℕ) → WritesSuchLine status (IsRefusalLine refusal) old new before after
    → SumsScript status f octets old new before after
sums_refused f octets refusal h status old new before after w =
    such_at_once (refused_as f octets refusal h) (IsScriptSummary f octets) status old new before after w

-- the script of a file
pub sums_of_file : (told : Option (List outside.File)) (name octets : List ℕ) (f : File) → IsContent told name octets
    → (status : Status) (old new : Option (List ℕ)) (before after : ℕ) → SumsScript status f octets old new before after
    → SumsScriptFile status told name f old new before after
sums_of_file told name octets f is status old new before after w =
    at_once_more (λ text p. (octets, is, p)) (λ text p. (octets, is, p)) status old new before after w

-- ---- what the texts of the script and the output tell

-- a line is a request where its command is one: octets that are handed over never are
request_same : (names : List (List ℕ)) (a : Asked) (c : Command) → IsCommand names a c → counted.is_request c ≡ counted.asks a
request_same names (lines.Runs d) c is = ap counted.is_request is
request_same names (Delivers dsp to octets) c is = ap counted.is_request is.2

requests_same : (names : List (List ℕ)) (asked : List Asked) (commands : List Command) → AreCommands names asked commands
    → map counted.is_request commands ≡ map counted.asks asked
requests_same names [] [] are = refl
requests_same names [] (c ∷ commands) are = absurd are
requests_same names (a ∷ asked) [] are = absurd are
requests_same names (a ∷ asked) (c ∷ commands) are =
    ap₂ ◌∷◌ (request_same names a c are.0) (requests_same names asked commands are.1)

told_by_texts : (f : File) (asked : List Asked) (script text : List ℕ) → IsDescribed f.world → AsksFor f.world script asked
    → (s : IsAskedSummary f asked text) → text ≡ summary_of script s.sums.output
told_by_texts f asked script text described asks_for s =
    let prints = s.sums.prints in
    let agents = names_of_agents f.world in
    s.sums.sums_up
    ∙ summary_is_of_texts Performed f.world f.start s.commands prints.blocks prints.past described prints.runs agents (lost_in f.world) script asked asks_for
    (requests_same agents asked s.commands s.are)
    ∙ ap (summary_of script) (sym prints.octets_are)

-- ---- over the world that another file describes, or that is none

module _ (told : Option (List outside.File)) (names : FileNames) (octets : List ℕ) (octets_is : IsContent told names.world octets) where
  module _ (f : File) (described : Describes octets (Ok f)) where
    summary_of_files : (text : List ℕ) → OfScript told names.script (IsScriptSummary f) text → Sums told names text
    summary_of_files text p = record {
      output = p.2.sums.sums.output;
      runs = record {
        world = octets;
        script = p.0;
        world_is = octets_is;
        script_is = p.1;
        file = f;
        described = described;
        asked = p.2.asked;
        asks = p.2.asks ∙ ap (λ (lines : List Asked). Ok lines) (sym (append-nil p.2.asked));
        commands = p.2.sums.commands;
        are = p.2.sums.are;
        prints = p.2.sums.sums.prints;
      };
      sums_up = told_by_texts f p.2.asked p.0 text (file_described described.value f described.is_found) p.2.asks p.2.sums;
    }

    pub sums_files : (status : Status) (old new : Option (List ℕ)) (before after : ℕ) → SumsScriptFile status told names.script f old new before after
        → WritesSummed status told names old new before after
    sums_files status old new before after w =
        at_once_more summary_of_files (refusal_of told names octets octets_is f described) status old new before after w

  module _ (fault : LoadFault) (faults : Loads (Err fault) octets) where
    pub sums_refused_file : (status : Status) (old new : Option (List ℕ)) (before after : ℕ) → WritesSuchLine status (IsWorldLine fault) old new before after
        → WritesSummed status told names old new before after
    sums_refused_file status old new before after w =
        such_at_once (λ text p. inl (wrong_as told names octets octets_is fault faults text p)) (Sums told names) status old new before after w
