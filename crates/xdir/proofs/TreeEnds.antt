-- What `tree` reads and writes, from what lines ask for to both files, by how it ends.
use Rattle.std.proofs.Common.{◌≡◌, ◌≤◌, ◌⊎◌, inl, inr, ℕ, List, Option, Ok, Err}
use Rattle.x5_load.specs.Views.{Loads}
use Rattle.x5_model_script.specs.Lines.{Asked}
use Rattle.x5_model_world.specs.WorldFile.{File, Describes}
use Rattle.x5_port.specs.Outside as outside
use Rattle.x5_port.specs.Outside.{IsContent, Rose, with_octets, TookPrefix}
use Rattle.x5_script.specs.Views.{ReadsScript}
use Rattle.x5_script.specs.declared.script.ScriptRefusal.{ScriptRefusal}
use Rattle.x5_world_members.specs.declared.fault.LoadFault.{LoadFault}
use Rattle.x5_words.specs.Forms.{FileNames}
use Rattle.xdir.specs.declared.top.Status.{Status}
use Rattle.xdir.specs.declared.top.Status.TheVariants.{Done, Refused, Usage, ReadFault, WriteFault, NoMemory, Inconsistent, TooLong}
use Rattle.xdir.specs.Checked.{knowledge_text, IsInconsistent, ReadsChecked}
use Rattle.xdir.specs.Faults.{IsWorldLine, IsRefusalLine}
use Rattle.xdir.specs.Outcomes.{IsReadable}
use Rattle.xdir.specs.Run.{lost_in, AsksFor, RefusesWorld}
use Rattle.x5_model_tree.specs.World.{names_of_agents}
use Rattle.xdir.specs.Steps.{WritesSuchLine, OfScript}
use Rattle.xdir.specs.Tree.{TakesBoth, Tells, TellsSoFar, TellsNone, EndsTree, WritesTree, ReadsTree, IsTold, IsToldSoFar, IsNoTree, TellsLines, OfLines, TellsScript, TellsFile}
use Rattle.xdir.proofs.Ends.{rose_later, wrote_more, broke_more}
use Rattle.xdir.proofs.Files.{no_line, refused_as, refusal_of, takes, wrong_as}

-- ---- in general

-- what is said of the texts may say less
module _ {output first none refusal output' first' none' refusal' : List ℕ → Type 0}
    (out : (text : List ℕ) → output text → output' text) (part : (text : List ℕ) → first text → first' text)
    (no : (text : List ℕ) → none text → none' text) (refuse : (text : List ℕ) → refusal text → refusal' text) where
  either : (text : List ℕ) → (output text ⊎ first text) ⊎ (none text ⊎ refusal text)
      → (output' text ⊎ first' text) ⊎ (none' text ⊎ refusal' text)
  either text (inl (inl o)) = inl (inl (out text o))
  either text (inl (inr f)) = inl (inr (part text f))
  either text (inr (inl n)) = inr (inl (no text n))
  either text (inr (inr r)) = inr (inr (refuse text r))

  pub tree_more : (status : Status) (old new : Option (List ℕ)) (before after : ℕ)
      → EndsTree output first none refusal status old new before after → EndsTree output' first' none' refusal' status old new before after
  tree_more Done old new before after w = wrote_more out old new w
  tree_more Inconsistent old new before after w = wrote_more no old new w
  tree_more Refused old new before after w = wrote_more refuse old new w
  tree_more WriteFault old new before after w = (w.0, broke_more either old new w.1)
  tree_more NoMemory old new before after (inl e) = inl e
  tree_more NoMemory old new before after (inr w) = inr (wrote_more part old new w)
  tree_more ReadFault old new before after w = w
  tree_more TooLong old new before after w = w
  tree_more Usage old new before after w = absurd w

-- the line of a refusal ends it
such_ends_tree : {P Q : List ℕ → Type 0} (more : (text : List ℕ) → P text → Q text) (output first none : List ℕ → Type 0) (status : Status)
    (old new : Option (List ℕ)) (before after : ℕ) → WritesSuchLine status P old new before after
    → EndsTree output first none Q status old new before after
such_ends_tree more output first none Refused old new before after w = wrote_more more old new w
such_ends_tree more output first none WriteFault old new before after w =
    (w.0, broke_more (λ text p. inr (inr (more text p))) old new w.1)
such_ends_tree more output first none NoMemory old new before after w = inl w
such_ends_tree more output first none Done old new before after w = absurd w
such_ends_tree more output first none ReadFault old new before after w = absurd w
such_ends_tree more output first none TooLong old new before after w = absurd w
such_ends_tree more output first none Usage old new before after w = w
such_ends_tree more output first none Inconsistent old new before after w = absurd w

-- ---- where there is no one tree

module _ (f : File) (asked : List Asked) (inconsistent : IsInconsistent f.world) (line : List ℕ) (is : line ≡ knowledge_text f.world) where
  pub tells_none : (old new : Option (List ℕ)) (before after : ℕ) → new ≡ with_octets line old
      → TellsLines Inconsistent f asked old new before after
  tells_none old new before after w = record { text = line; is = record { inconsistent = inconsistent; is_line = is }; whole = w }

  pub breaks_none : (old new : Option (List ℕ)) (before after : ℕ) → Rose before after → TookPrefix line old new
      → TellsLines WriteFault f asked old new before after
  breaks_none old new before after rose part =
      (rose, record { text = line; is = inr (inl (record { inconsistent = inconsistent; is_line = is })); part = part })

-- ---- a script

pub tells_script : (f : File) (octets : List ℕ) (asked : List Asked) → AsksFor f.world octets asked
    → (status : Status) (old new : Option (List ℕ)) (before after : ℕ) → TellsLines status f asked old new before after
    → TellsScript status f octets old new before after
tells_script f octets asked asks status old new before after w =
    tree_more (λ text p. (asked, asks, p)) (λ text p. (asked, asks, p)) (λ text p. (asked, asks, p)) (no_line f octets) status old new
    before after w

pub refuses_line : (f : File) (octets : List ℕ) (refusal : ScriptRefusal) → ReadsScript (Err refusal) (names_of_agents f.world) (lost_in f.world) octets
    → (status : Status) (old new : Option (List ℕ)) (before after : ℕ) → WritesSuchLine status (IsRefusalLine refusal) old new before after
    → TellsScript status f octets old new before after
refuses_line f octets refusal h status old new before after w =
    such_ends_tree (refused_as f octets refusal h) (OfLines f IsTold octets) (OfLines f IsToldSoFar octets) (OfLines f IsNoTree octets)
    status old new before after w

pub tells_file : (told : Option (List outside.File)) (name octets : List ℕ) (f : File) → IsContent told name octets
    → (status : Status) (old new : Option (List ℕ)) (before after : ℕ) → TellsScript status f octets old new before after
    → TellsFile status told name f old new before after
tells_file told name octets f is status old new before after w =
    tree_more (λ text p. (octets, is, p)) (λ text p. (octets, is, p)) (λ text p. (octets, is, p)) (λ text p. (octets, is, p)) status old
    new before after w

-- ---- both files

module _ (told : Option (List outside.File)) (names : FileNames) (octets : List ℕ) (octets_is : IsContent told names.world octets) where
  -- a world that is described
  module _ (f : File) (described : Describes octets (Ok f)) where
    abbrev taken : (script : List ℕ) → IsContent told names.script script → (asked : List Asked) → AsksFor f.world script asked → TakesBoth told names
    taken script script_is asked asks = record {
      world = octets;
      script = script;
      world_is = octets_is;
      script_is = script_is;
      file = f;
      described = described;
      asked = asked;
      asks = asks;
    }

    told_as : (text : List ℕ) → OfScript told names.script (OfLines f IsTold) text → Tells told names text
    told_as text p = record { both = taken p.0 p.1 p.2.0 p.2.1; consistent = p.2.2.consistent; prints = p.2.2.prints }

    first_as : (text : List ℕ) → OfScript told names.script (OfLines f IsToldSoFar) text → TellsSoFar told names text
    first_as text p = record {
      both = taken p.0 p.1 p.2.0 p.2.1;
      consistent = p.2.2.consistent;
      first = p.2.2.first;
      next = p.2.2.next;
      rest = p.2.2.rest;
      parts = p.2.2.parts;
      prints = p.2.2.prints;
    }

    none_as : (text : List ℕ) → OfScript told names.script (OfLines f IsNoTree) text → TellsNone told names text
    none_as text p = record { both = taken p.0 p.1 p.2.0 p.2.1; inconsistent = p.2.2.inconsistent; is_line = p.2.2.is_line }

    pub writes_tree : (status : Status) (old new : Option (List ℕ)) (before after : ℕ) → TellsFile status told names.script f old new before after
        → WritesTree status told names old new before after
    writes_tree status old new before after w = tree_more told_as first_as none_as (refusal_of told names octets octets_is f described) status old new before after w

    pub reads_tree : (status : Status) (first before after : ℕ) (failed old new : Option (List ℕ)) → IsReadable told names.world
        → first ≤ before → ReadsChecked status names.script told before after failed → ReadsTree status names told first after failed old new
    reads_tree Done first before after failed old new r le o = (r, o)
    reads_tree Inconsistent first before after failed old new r le o = (r, o)
    reads_tree Refused first before after failed old new r le o = (r, inr o)
    reads_tree WriteFault first before after failed old new r le o = (r, inr o)
    reads_tree NoMemory first before after failed old new r le o = tt
    reads_tree ReadFault first before after failed old new r le o = (rose_later first before after le o.0, inr (o.1, takes told names octets octets_is f described r))
    reads_tree TooLong first before after failed old new r le o = inr (o, takes told names octets octets_is f described r)
    reads_tree Usage first before after failed old new r le o = absurd o

  -- one that isn't
  module _ (fault : LoadFault) (faults : Loads (Err fault) octets) where
    abbrev line_as : (text : List ℕ) → IsWorldLine fault text → RefusesWorld told names.world text
    line_as = wrong_as told names octets octets_is fault faults

    pub writes_refused : (status : Status) (old new : Option (List ℕ)) (before after : ℕ) → WritesSuchLine status (IsWorldLine fault) old new before after
        → WritesTree status told names old new before after
    writes_refused status old new before after w =
        such_ends_tree (λ text p. inl (line_as text p)) (Tells told names) (TellsSoFar told names) (TellsNone told names) status old new
        before after w

    pub reads_refused : (status : Status) (first after rising risen : ℕ) (failed old new : Option (List ℕ)) → IsReadable told names.world
        → WritesSuchLine status (IsWorldLine fault) old new rising risen → ReadsTree status names told first after failed old new
    reads_refused Refused first after rising risen failed old new r w = (r, inl (wrote_more line_as old new w))
    reads_refused WriteFault first after rising risen failed old new r w = (r, inl (broke_more line_as old new w.1))
    reads_refused NoMemory first after rising risen failed old new r w = tt
    reads_refused Done first after rising risen failed old new r w = absurd w
    reads_refused ReadFault first after rising risen failed old new r w = absurd w
    reads_refused TooLong first after rising risen failed old new r w = absurd w
    reads_refused Usage first after rising risen failed old new r w = absurd w
    reads_refused Inconsistent first after rising risen failed old new r w = absurd w
