-- The output grows by a block for each command, and the network is that of the next line.
use Rattle.std.proofs.Common.{◌≡◌, ◌≤◌, ◌<◌, ◌+◌, ◌++◌, ◌⊎◌, inl, inr, ℕ, zero, suc, List, [], ◌∷◌, length, map, get_or, Option, Some, refl, sym, ap, subst, ◌∙◌, arith, slice_get, length-append, append_assoc, append-nil}
use Rattle.std.specs.List.{AllByRecursion}
use Rattle.std.proofs.Common.{All}
use Rattle.std.proofs.lemmas.List.Elements.{All-get_or}
use Rattle.x5_model_run.specs.History.{Did}
use Rattle.x5_model_run.specs.Run.{Command, Block, did_by, IsRun, begin, next}
use Rattle.x5_model_output.specs.Output.{Names, names_of, block_text, blocks_text}
use Rattle.x5_model_settled.specs.Held.{BySteps}
use Rattle.x5_model_settled.specs.Runs.{IsAskable}
use Rattle.x5_model_settled.proofs.Steps.{steps_print_performed}
use Rattle.x5_port.specs.Outside.{with_octets}
use Rattle.x5_port.proofs.Octets.{with_octets-with_octets}
use Rattle.x5_know.specs.Moments.{moment_text}
use Rattle.x5_model_tree.specs.World.{names_of_agents}
use Rattle.x5_model_world.specs.WorldFile.{File}
use Rattle.x5_model_script.specs.Lines.{Asked}
use Rattle.x5_script.specs.declared.command.Command.{Command as Line}
use Rattle.x5_world.specs.State.{Net, StandsAt}
use Rattle.xdir.specs.declared.top.Status.{Status}
use Rattle.xdir.specs.declared.top.Status.TheVariants.{Done, Refused, Usage, ReadFault, WriteFault, NoMemory, Inconsistent, TooLong}
use Rattle.xdir.specs.Blocks.{IsAskedText, IsBlockText, WritesBlock}
use Rattle.xdir.specs.Checked.{knowledge_text}
use Rattle.xdir.specs.Outcomes.{Wrote}
use Rattle.xdir.specs.Run.{IsOutput}
use Rattle.xdir.specs.Steps.{IsAskedOutput, IsFirstAskedOutput, Prints, WritesRun}
use Rattle.xdir.specs.Taken.{AreCommands, IsCommand, IsTaken, point}
use Rattle.xdir.proofs.Ends.{rose_later, took_after}
use Rattle.xdir.proofs.Sound.{knowledge_is}

-- one block more, at the end
blocks_text-snoc : (names : Names) (n : ℕ) (commands : List Command) (blocks : List Block) (c : Command) (b : Block) → length blocks ≡ length commands → blocks_text names n (commands ++ c ∷ []) (blocks ++ b ∷ []) ≡ blocks_text names n commands blocks ++ block_text names (n + length commands) c b
blocks_text-snoc names n [] [] c b e =
    append-nil (block_text names n c b) ∙ ap (λ (k : ℕ). block_text names k c b) (let z : n ≡ n + 0 = omega arith in z)
blocks_text-snoc names n [] (x ∷ xs) c b e = cc
blocks_text-snoc names n (d ∷ ds) [] c b e = cc
blocks_text-snoc names n (d ∷ ds) (x ∷ xs) c b e =
    ap (λ (t : List ℕ). block_text names n d x ++ t) (blocks_text-snoc names (n + 1) ds xs c b (let s : suc (length xs) ≡ suc (length ds) = e in omega arith))
    ∙ sym (append_assoc (block_text names n d x) (blocks_text names (n + 1) ds xs) (block_text names (n + 1 + length ds) c b))
    ∙ ap (λ (k : ℕ). (block_text names n d x ++ blocks_text names (n + 1) ds xs) ++ block_text names k c b) (let z : n + 1 + length ds ≡ n + suc (length ds) = omega arith in z)

-- how agents and moments are printed
abbrev pub printing : File → Names
printing f = names_of f.world (moment_text f.start)

-- The text is the output of these commands, which agents carry out; then it's the network of the next line.
pub record IsText (f : File) (commands : List Command) (net : Net) (text : List ℕ) : Type 0 where
  pub blocks : List Block
  pub past : List Did
  pub runs : IsRun BySteps f.world commands blocks past
  pub askable : AllByRecursion (IsAskable f.world) commands
  pub as_many : length blocks ≡ length commands
  pub printed : text ≡ knowledge_text f.world ++ blocks_text (printing f) 1 commands blocks
  pub stands : StandsAt net (point f.world past)

pub of_nothing : (f : File) (net : Net) (text : List ℕ) → StandsAt net (point f.world []) → text ≡ knowledge_text f.world → IsText f [] net text
of_nothing f net text stands e =
    record { blocks = []; past = []; runs = begin; askable = tt; as_many = refl; printed = e ∙ sym (append-nil (knowledge_text f.world)); stands = stands }

pub and_last : {X : Type 0} (P : X → Type 0) (xs : List X) (x : X) → AllByRecursion P xs → P x → AllByRecursion P (xs ++ x ∷ [])
and_last P [] x all p = (p, tt)
and_last P (y ∷ ys) x all p = (all.0, and_last P ys x all.1 p)

module _ (f : File) (commands : List Command) (net : Net) (text : List ℕ) (far : IsText f commands net text) where
  snoc_length : {X Y : Type 0} (xs : List X) (ys : List Y) (x : X) (y : Y) → length xs ≡ length ys → length (xs ++ x ∷ []) ≡ length (ys ++ y ∷ [])
  snoc_length xs ys x y e = length-append xs (x ∷ []) ∙ ap (λ (k : ℕ). k + 1) e ∙ sym (length-append ys (y ∷ []))

  -- what is printed with one block more
  grown : (c : Command) (b : Block) (block : List ℕ) → block ≡ block_text (printing f) (length commands + 1) c b
      → text ++ block ≡ knowledge_text f.world ++ blocks_text (printing f) 1 (commands ++ c ∷ []) (far.blocks ++ b ∷ [])
  grown c b block is =
      let z : length commands + 1 ≡ 1 + length commands = omega arith in
      ap (λ (t : List ℕ). t ++ block) far.printed
      ∙ ap (λ (t : List ℕ). (knowledge_text f.world ++ blocks_text (printing f) 1 commands far.blocks) ++ t) (is ∙ ap (λ (k : ℕ). block_text (printing f) k c b) z)
      ∙ append_assoc (knowledge_text f.world) (blocks_text (printing f) 1 commands far.blocks) (block_text (printing f) (1 + length commands) c b)
      ∙ ap (λ (t : List ℕ). knowledge_text f.world ++ t) (sym (blocks_text-snoc (printing f) 1 commands far.blocks c b far.as_many))

  pub one_more : (c : Command) (later : Net) (block : List ℕ) → IsAskable f.world c → IsBlockText f far.past (length commands + 1) c later block
      → IsText f (commands ++ c ∷ []) later (text ++ block)
  one_more c later block askable b = record {
    blocks = far.blocks ++ b.block ∷ [];
    past = did_by c b.block ∷ far.past;
    runs = next c b.block far.runs b.gives.is;
    askable = and_last (IsAskable f.world) commands c far.askable askable;
    as_many = snoc_length far.blocks commands b.block c far.as_many;
    printed = grown c b.block block b.printed;
    stands = b.gives.stands;
  }

  -- it is the output of a run
  pub is_output : IsOutput f commands text
  is_output =
      steps_print_performed f.world (moment_text f.start) commands text far.stands.described far.askable (record {
        blocks = far.blocks;
        past = far.past;
        runs = far.runs;
        octets_are = far.printed ∙ ap (λ (line : List ℕ). line ++ blocks_text (printing f) 1 commands far.blocks) (knowledge_is f);
      })

-- ---- which lines are taken

pub taken_at : (agents : ℕ) (commands : List Line) (i : ℕ) (c : Line) → i < length commands → c ≡ get_or commands i c
    → All (IsTaken agents) commands → IsTaken agents c
taken_at agents commands i c within is all =
    subst (λ (x : Line). IsTaken agents x) (sym is) (All-get_or (IsTaken agents) commands i c within all)

-- ---- lines as commands

module _ (names : List (List ℕ)) where
  pub commands_more : (asked : List Asked) (commands : List Command) (a : Asked) (c : Command) → AreCommands names asked commands
      → IsCommand names a c → AreCommands names (asked ++ a ∷ []) (commands ++ c ∷ [])
  commands_more [] [] a c are is = (is, tt)
  commands_more [] (d ∷ ds) a c are is = absurd are
  commands_more (b ∷ bs) [] a c are is = absurd are
  commands_more (b ∷ bs) (d ∷ ds) a c are is = (are.0, commands_more bs ds a c are.1 is)

  as_many_commands : (asked : List Asked) (commands : List Command) → AreCommands names asked commands → length asked ≡ length commands
  as_many_commands [] [] are = refl
  as_many_commands [] (d ∷ ds) are = absurd are
  as_many_commands (b ∷ bs) [] are = absurd are
  as_many_commands (b ∷ bs) (d ∷ ds) are = ap suc (as_many_commands bs ds are.1)

-- ---- the output so far, of which the text was written

pub record IsSoFar (f : File) (asked : List Asked) (net : Net) (old now : Option (List ℕ)) : Type 0 where
  pub commands : List Command
  pub are : AreCommands (names_of_agents f.world) asked commands
  pub text : List ℕ
  pub is_text : IsText f commands net text
  pub whole : now ≡ with_octets text old

-- what is written of the next line
abbrev pub WritesNext : Status → File → ℕ → Asked → Net → Net → Option (List ℕ) → Option (List ℕ) → ℕ → ℕ → Type 0
WritesNext status f line asked net later old new before after =
    (past : List Did) → StandsAt net (point f.world past) → WritesBlock status f past line asked later old new before after

-- one line more
module _ (f : File) (asked : List Asked) (net : Net) (old now : Option (List ℕ)) (far : IsSoFar f asked net old now) (a : Asked) where
  pub line_more : (later : Net) (block : List ℕ) (b : IsAskedText f far.is_text.past (length asked + 1) a later block)
      → IsText f (far.commands ++ b.command ∷ []) later (far.text ++ block)
  line_more later block b =
      one_more f far.commands net far.text far.is_text b.command later block b.askable
      (subst (λ (n : ℕ). IsBlockText f far.is_text.past (n + 1) b.command later block)
      (as_many_commands (names_of_agents f.world) asked far.commands far.are) b.text_is)

  pub output_more : (later : Net) (block : List ℕ) → IsAskedText f far.is_text.past (length asked + 1) a later block
      → IsAskedOutput f (asked ++ a ∷ []) (far.text ++ block)
  output_more later block b = record {
    commands = far.commands ++ b.command ∷ [];
    are = commands_more (names_of_agents f.world) asked far.commands a b.command far.are b.is;
    prints = is_output f (far.commands ++ b.command ∷ []) later (far.text ++ block) (line_more later block b);
  }

  pub output_so_far : IsAskedOutput f asked far.text
  output_so_far =
      record { commands = far.commands; are = far.are; prints = is_output f far.commands net far.text far.is_text }

pub so_far_more : (f : File) (asked : List Asked) (a : Asked) (net later : Net) (old mid new : Option (List ℕ)) (before after : ℕ)
    → IsSoFar f asked net old mid
    → WritesNext Done f (length asked + 1) a net later mid new before after → IsSoFar f (asked ++ a ∷ []) later old new
so_far_more f asked a net later old mid new before after far writes =
    let wrote = writes far.is_text.past far.is_text.stands in
    record {
      commands = far.commands ++ wrote.is.command ∷ [];
      are = commands_more (names_of_agents f.world) asked far.commands a wrote.is.command far.are wrote.is.is;
      text = far.text ++ wrote.text;
      is_text = line_more f asked net old mid far a later wrote.text wrote.is;
      whole = wrote.whole ∙ ap (λ (taken : Option (List ℕ)). with_octets wrote.text taken) far.whole ∙ with_octets-with_octets far.text wrote.text old;
    }

-- before the first line
pub none_asked : (f : File) (net : Net) (text : List ℕ) (old now : Option (List ℕ)) → StandsAt net (point f.world [])
    → text ≡ knowledge_text f.world → now ≡ with_octets text old → IsSoFar f [] net old now
none_asked f net text old now stands e whole =
    record { commands = []; are = tt; text = text; is_text = of_nothing f net text stands e; whole = whole }

-- the output of the first lines is that of all, or more are to come
first_output : (f : File) (asked first rest : List Asked) (text : List ℕ) → asked ≡ first ++ rest → IsAskedOutput f first text
    → IsAskedOutput f asked text ⊎ IsFirstAskedOutput f asked text
first_output f asked first [] text parts prints =
    inl (subst (λ (lines : List Asked). IsAskedOutput f lines text) (sym (parts ∙ append-nil first)) prints)
first_output f asked first (a ∷ rest) text parts prints =
    inr (record { first = first; next = a; rest = rest; parts = parts; prints = prints })

pub no_output : (f : File) (asked : List Asked) (net : Net) (text : List ℕ) → StandsAt net (point f.world [])
    → text ≡ knowledge_text f.world → IsAskedOutput f asked text ⊎ IsFirstAskedOutput f asked text
no_output f asked net text stands e =
    first_output f asked [] asked text refl
    (record { commands = []; are = tt; prints = is_output f [] net text (of_nothing f net text stands e) })

-- a block that can't be written ends the run
module _ (f : File) (asked first : List Asked) (a : Asked) (rest : List Asked) (parts : asked ≡ first ++ a ∷ rest) where
  stopped : (status : Status) (net later : Net) (old mid new : Option (List ℕ)) (begun before after : ℕ) → (status ≡ Done → ⊥) → begun ≤ before
      → (far : IsSoFar f first net old mid) → WritesBlock status f far.is_text.past (length first + 1) a later mid new before after
      → WritesRun status f asked old new begun after
  stopped Done net later old mid new begun before after n le far w = absurd (n refl)
  stopped WriteFault net later old mid new begun before after n le far w = (
    rose_later begun before after le w.0,
    record {
      text = far.text ++ w.1.text;
      is = inl (first_output f asked (first ++ a ∷ []) rest (far.text ++ w.1.text) (parts ∙ sym (append_assoc first (a ∷ []) rest)) (output_more f first net old mid far a later w.1.text w.1.is));
      part = took_after far.text w.1.text old mid new far.whole w.1.part;
    },
  )
  stopped NoMemory net later old mid new begun before after n le far w =
      inr (record {
        text = far.text;
        is = record { first = first; next = a; rest = rest; parts = parts; prints = output_so_far f first net old mid far a };
        whole = w ∙ far.whole;
      })
  stopped Refused net later old mid new begun before after n le far w = absurd w
  stopped Usage net later old mid new begun before after n le far w = absurd w
  stopped ReadFault net later old mid new begun before after n le far w = absurd w
  stopped Inconsistent net later old mid new begun before after n le far w = absurd w
  stopped TooLong net later old mid new begun before after n le far w = absurd w

  pub writes_stopped : (status : Status) (net later : Net) (old mid new : Option (List ℕ)) (begun before after : ℕ) → (status ≡ Done → ⊥) → begun ≤ before
      → IsSoFar f first net old mid → WritesNext status f (length first + 1) a net later mid new before after
      → WritesRun status f asked old new begun after
  writes_stopped status net later old mid new begun before after n le far writes =
      stopped status net later old mid new begun before after n le far (writes far.is_text.past far.is_text.stands)

-- all lines are done
pub writes_all : (f : File) (asked : List Asked) (net : Net) (old new : Option (List ℕ)) → IsSoFar f asked net old new → Wrote (IsAskedOutput f asked) old new
writes_all f asked net old new far = record {
  text = far.text;
  is = record { commands = far.commands; are = far.are; prints = is_output f far.commands net far.text far.is_text };
  whole = far.whole;
}

prints_block : (status : Status) (f : File) (past : List Did) (line : ℕ) (a : Asked) (net : Net) (old new : Option (List ℕ)) (before after : ℕ)
    → WritesBlock status f past line a net old new before after → Prints status
prints_block Done f past line a net old new before after w = tt
prints_block WriteFault f past line a net old new before after w = tt
prints_block NoMemory f past line a net old new before after w = tt
prints_block Refused f past line a net old new before after w = absurd w
prints_block Usage f past line a net old new before after w = w
prints_block ReadFault f past line a net old new before after w = w
prints_block Inconsistent f past line a net old new before after w = w
prints_block TooLong f past line a net old new before after w = w

pub prints_next : (status : Status) (f : File) (a : Asked) (asked : List Asked) (line : ℕ) (net later : Net) (old mid new : Option (List ℕ)) (before after : ℕ)
    → IsSoFar f asked net old mid → WritesNext status f line a net later mid new before after → Prints status
prints_next status f a asked line net later old mid new before after far writes =
    prints_block status f far.is_text.past line a later mid new before after (writes far.is_text.past far.is_text.stands)
