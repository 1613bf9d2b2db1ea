-- What is written of a script over a world, and of the files that hold them.
use Rattle.std.proofs.Common.{◌≡◌, ◌≤◌, inl, inr, ℕ, List, [], map, length, IsSomeAnd, Option, Some, None, sym, ap, subst, ◌∙◌, Ok, Err, append-nil}
use Rattle.x5_load.specs.Views.{Loads}
use Rattle.x5_model_script.specs.Lines.{Asked}
use Rattle.x5_model_script.specs.Script.{script_of}
use Rattle.x5_model_script.specs.Words as words
use Rattle.x5_model_world.specs.Reading as model
use Rattle.x5_model_world.specs.WorldFile.{File, Describes}
use Rattle.x5_port.specs.Outside as outside
use Rattle.x5_port.specs.Outside.{IsContent}
use Rattle.x5_script.specs.Views.{IsLineFault, ReadsScript, command_view}
use Rattle.x5_script.specs.declared.command.Command.{Command as Line}
use Rattle.x5_script.specs.declared.command.ScriptFault.{ScriptFault}
use Rattle.x5_script.specs.declared.command.ScriptFault.TheVariants as script
use Rattle.x5_script.specs.declared.script.ScriptRefusal.{ScriptRefusal}
use Rattle.x5_script.specs.declared.script.ScriptRefusal.TheVariants as refusals
use Rattle.x5_world_members.specs.declared.fault.LoadFault.{LoadFault}
use Rattle.x5_world_members.specs.declared.fault.LoadFault.TheVariants as world
use Rattle.x5_words.specs.Forms.{FileNames}
use Rattle.xdir.specs.declared.top.Status.{Status}
use Rattle.xdir.specs.declared.top.Status.TheVariants.{Done, Refused, Usage, ReadFault, WriteFault, NoMemory, Inconsistent, TooLong}
use Rattle.xdir.specs.Faults.{IsWorldLine, IsScriptLine, IsRefusalLine}
use Rattle.xdir.specs.Outcomes.{IsReadable, most_octets}
use Rattle.xdir.specs.Run.{lost_in, AsksFor, Runs, RunsSoFar, RefusesFile, no_json, faulty, RefusesWorld, RefusesScript, Refuses, Writes, TakesWorld, FilesRead}
use Rattle.x5_model_tree.specs.World.{names_of_agents}
use Rattle.xdir.specs.Steps.{WritesSuchLine, WritesRun, IsAskedOutput, IsFirstAskedOutput, IsScriptOutput, IsFirstScriptOutput, WritesScript, OfScript, WritesScriptFile, ReadsFile}
use Rattle.xdir.proofs.Ends.{ends_more, rose_later, wrote_more, broke_more, such_ends}

-- ---- a script over a world

-- no line of a script that reads is refused
pub no_line : (f : File) (octets text : List ℕ) → ⊥ → RefusesScript f.world octets text
no_line f octets text p = absurd p

module _ (f : File) (octets : List ℕ) (asked : List Asked) (asks : AsksFor f.world octets asked) where
  script_output : (text : List ℕ) → IsAskedOutput f asked text → IsScriptOutput f octets text
  script_output text p = record { asked = asked; asks = asks; prints = p }

  first_script : (text : List ℕ) → IsFirstAskedOutput f asked text → IsFirstScriptOutput f octets text
  first_script text p = record { asked = asked; asks = asks; first = p }

  pub runs_script : (status : Status) (old new : Option (List ℕ)) (before after : ℕ) → WritesRun status f asked old new before after
      → WritesScript status f octets old new before after
  runs_script status old new before after w = ends_more script_output first_script (no_line f octets) status old new before after w

-- as it was read, given the names of the agents and how many replies are lost
pub asked_for : (f : File) (names : List (List ℕ)) (lost : ℕ) (octets : List ℕ) (cs items : List Line) → names ≡ names_of_agents f.world → lost ≡ lost_in f.world
    → cs ≡ items → script_of names lost octets ≡ Ok (map command_view items) → AsksFor f.world octets (map command_view cs)
asked_for f names lost octets cs items same_names same_lost same e =
    subst (λ (ns : List (List ℕ)). script_of ns (lost_in f.world) octets ≡ Ok (map command_view cs)) same_names
    (subst (λ (n : ℕ). script_of names n octets ≡ Ok (map command_view cs)) same_lost
    (subst (λ (xs : List Line). script_of names lost octets ≡ Ok (map command_view xs)) (sym same) e))

pub refused_for : (f : File) (names : List (List ℕ)) (lost : ℕ) (octets : List ℕ) (refusal : ScriptRefusal) → names ≡ names_of_agents f.world → lost ≡ lost_in f.world
    → ReadsScript (Err refusal) names lost octets → ReadsScript (Err refusal) (names_of_agents f.world) (lost_in f.world) octets
refused_for f names lost octets refusal same_names same_lost h =
    subst (λ (ns : List (List ℕ)). ReadsScript (Err refusal) ns (lost_in f.world) octets) same_names
    (subst (λ (n : ℕ). ReadsScript (Err refusal) names n octets) same_lost h)

-- the line of a script's first line that is refused
refuses_as : (f : File) (octets : List ℕ) (number : ℕ) (fault : ScriptFault) → IsLineFault number fault (script_of (names_of_agents f.world) (lost_in f.world) octets)
    → (text : List ℕ) → IsScriptLine number fault text → RefusesScript f.world octets text
refuses_as f octets number (script.BadWord column) h text is =
    record { number = number; fault = words.BadWord column; refused = h; is_line = is }
refuses_as f octets number (script.BadName column) h text is =
    record { number = number; fault = words.BadName column; refused = h; is_line = is }
refuses_as f octets number (script.BadFilter column) h text is =
    record { number = number; fault = words.BadFilter column; refused = h; is_line = is }
refuses_as f octets number (script.BadHex column) h text is =
    record { number = number; fault = words.BadHex column; refused = h; is_line = is }
refuses_as f octets number script.LineTooLong h text is =
    record { number = number; fault = words.Long; refused = h; is_line = is }
refuses_as f octets number script.NoMemory h text is = absurd is

-- and of a script that is refused, by how it is
pub refused_as : (f : File) (octets : List ℕ) (refusal : ScriptRefusal) → ReadsScript (Err refusal) (names_of_agents f.world) (lost_in f.world) octets
    → (text : List ℕ) → IsRefusalLine refusal text → RefusesScript f.world octets text
refused_as f octets (refusals.Line number fault) h text is = refuses_as f octets number fault h text is
refused_as f octets refusals.NoMemory h text is = absurd is

pub refuses_script : (f : File) (octets : List ℕ) (refusal : ScriptRefusal) → ReadsScript (Err refusal) (names_of_agents f.world) (lost_in f.world) octets
    → (status : Status) (old new : Option (List ℕ)) (before after : ℕ) → WritesSuchLine status (IsRefusalLine refusal) old new before after
    → WritesScript status f octets old new before after
refuses_script f octets refusal h status old new before after w =
    such_ends (refused_as f octets refusal h) (IsScriptOutput f octets) (IsFirstScriptOutput f octets) status old new before after w

-- the script of a file
pub of_file : (told : Option (List outside.File)) (name octets : List ℕ) (f : File) → IsContent told name octets
    → (status : Status) (old new : Option (List ℕ)) (before after : ℕ) → WritesScript status f octets old new before after
    → WritesScriptFile status told name f old new before after
of_file told name octets f is status old new before after w =
    ends_more (λ text p. (octets, is, p)) (λ text p. (octets, is, p)) (λ text p. (octets, is, p)) status old new before after w

-- the line of a file that is no JSON, or in which something is wrong
pub wrong : (octets : List ℕ) (fault : LoadFault) → Loads (Err fault) octets → (text : List ℕ) → IsWorldLine fault text → RefusesFile octets text
wrong octets world.NotJson h text is = no_json h is
wrong octets (world.BadShape path) h text is = faulty (model.BadShape path) h is
wrong octets (world.BadName path) h text is = faulty (model.BadName path) h is
wrong octets (world.OverLimit path limit) h text is = faulty (model.OverLimit path limit) h is
wrong octets (world.RepeatedAgent path) h text is = faulty (model.RepeatedAgent path) h is
wrong octets (world.UnknownAgent path) h text is = faulty (model.UnknownAgent path) h is
wrong octets world.NoMemory h text is = absurd is

-- ---- over the world that another file describes

pub readable : (told : Option (List outside.File)) (name octets : List ℕ) → IsContent told name octets → length octets ≤ most_octets → IsReadable told name
readable None name octets is le = tt
readable (Some files) name octets is le = subst (λ (o : Option (List ℕ)). IsSomeAnd o (λ content. length content ≤ most_octets)) (sym is) le

module _ (told : Option (List outside.File)) (names : FileNames) (octets : List ℕ) (octets_is : IsContent told names.world octets) where
  -- one that is described
  module _ (f : File) (described : Describes octets (Ok f)) where
    run_of : (text : List ℕ) → OfScript told names.script (IsScriptOutput f) text → Runs told names [] text
    run_of text p = record {
      world = octets;
      script = p.0;
      world_is = octets_is;
      script_is = p.1;
      file = f;
      described = described;
      asked = p.2.asked;
      asks = p.2.asks ∙ ap (λ (lines : List Asked). Ok lines) (sym (append-nil p.2.asked));
      commands = p.2.prints.commands;
      are = p.2.prints.are;
      prints = p.2.prints.prints;
    }

    first_of : (text : List ℕ) → OfScript told names.script (IsFirstScriptOutput f) text → RunsSoFar told names text
    first_of text p = record {
      next = p.2.first.next;
      rest = p.2.first.rest;
      runs = record {
        world = octets;
        script = p.0;
        world_is = octets_is;
        script_is = p.1;
        file = f;
        described = described;
        asked = p.2.first.first;
        asks = p.2.asks ∙ ap (λ (lines : List Asked). Ok lines) p.2.first.parts;
        commands = p.2.first.prints.commands;
        are = p.2.first.prints.are;
        prints = p.2.first.prints.prints;
      };
    }

    pub refusal_of : (text : List ℕ) → OfScript told names.script (RefusesScript f.world) text → Refuses told names text
    refusal_of text p = inr (record {
      world = octets;
      script = p.0;
      world_is = octets_is;
      script_is = p.1;
      file = f;
      described = described;
      refuses = p.2;
    })

    pub of_files : (status : Status) (old new : Option (List ℕ)) (before after : ℕ) → WritesScriptFile status told names.script f old new before after
        → Writes status told names old new before after
    of_files status old new before after w = ends_more run_of first_of refusal_of status old new before after w

    pub takes : IsReadable told names.world → TakesWorld told names.world
    takes r = record { readable = r; world = octets; world_is = octets_is; file = f; described = described }

    pub reads_both : (status : Status) (first before after : ℕ) (failed old new : Option (List ℕ)) → IsReadable told names.world → first ≤ before
        → ReadsFile status names.script told before after failed → FilesRead status names told first after failed old new
    reads_both Done first before after failed old new r le o = (r, o)
    reads_both Refused first before after failed old new r le o = (r, inr o)
    reads_both WriteFault first before after failed old new r le o = (r, inr o)
    reads_both NoMemory first before after failed old new r le o = tt
    reads_both ReadFault first before after failed old new r le o = (rose_later first before after le o.0, inr (o.1, takes r))
    reads_both TooLong first before after failed old new r le o = inr (o, takes r)
    reads_both Usage first before after failed old new r le o = absurd o
    reads_both Inconsistent first before after failed old new r le o = o

  -- one that isn't
  module _ (fault : LoadFault) (faults : Loads (Err fault) octets) where
    pub wrong_as : (text : List ℕ) → IsWorldLine fault text → RefusesWorld told names.world text
    wrong_as text is = record { world = octets; world_is = octets_is; refuses = wrong octets fault faults text is }

    pub refuses_file : (status : Status) (old new : Option (List ℕ)) (before after : ℕ) → WritesSuchLine status (IsWorldLine fault) old new before after
        → Writes status told names old new before after
    refuses_file status old new before after w =
        such_ends (λ text p. inl (wrong_as text p)) (Runs told names []) (RunsSoFar told names) status old new before after w

    pub reads_first : (status : Status) (first after rising risen : ℕ) (failed old new : Option (List ℕ)) → IsReadable told names.world
        → WritesSuchLine status (IsWorldLine fault) old new rising risen → FilesRead status names told first after failed old new
    reads_first Refused first after rising risen failed old new r w = (r, inl (wrote_more wrong_as old new w))
    reads_first WriteFault first after rising risen failed old new r w = (r, inl (broke_more wrong_as old new w.1))
    reads_first NoMemory first after rising risen failed old new r w = tt
    reads_first Done first after rising risen failed old new r w = absurd w
    reads_first ReadFault first after rising risen failed old new r w = absurd w
    reads_first TooLong first after rising risen failed old new r w = absurd w
    reads_first Usage first after rising risen failed old new r w = w
    reads_first Inconsistent first after rising risen failed old new r w = w
