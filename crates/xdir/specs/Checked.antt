-- What `check WORLD` writes: the line on knowledge of the world that the file describes, or of the first thing wrong in
-- it.
use Rattle.std.specs.Prelude.{◌≡◌, ℕ, ◌⊎◌, List, [], Option, Some, Ok, ⊤}
use Rattle.x5_model.specs.Values.{Text}
use Rattle.x5_model_output.specs.Output.{names_of, knowledge_line}
use Rattle.x5_model_tree.specs.Consistent.{first_breach, IsConsistent}
use Rattle.x5_model_tree.specs.World.{World}
use Rattle.x5_model_world.specs.WorldFile.{File, Describes}
use Rattle.x5_port.specs.Outside.{IsLonger, Rose, with_octets, TookPrefix}
use Rattle.x5_port.specs.Outside as outside
use Rattle.xdir.specs.Outcomes.{most_octets, Wrote, Broke, IsReadable, OfContent}
use Rattle.xdir.specs.Run.{RefusesFile}
use Rattle.xdir.specs.declared.top.Status.{Status}
use Rattle.xdir.specs.declared.top.Status.TheVariants.{Done, Refused, Usage, ReadFault, WriteFault, NoMemory}
use Rattle.xdir.specs.declared.top.Status.TheVariants.{Inconsistent, TooLong}

-- the line on a world's knowledge, in which no moment stands: that it is consistent, or the first of the ten conditions
-- that fails, with its two values
abbrev pub knowledge_text : World → Text
knowledge_text w = knowledge_line (names_of w (λ moment. [])) (first_breach w)

abbrev pub IsInconsistent : World → Type 0
IsInconsistent w = IsConsistent w → ⊥

-- these octets describe a world of which this holds, and the text is the line on its knowledge
pub record ShowsKnowledge (P : World → Type 0) (octets text : List ℕ) : Type 0 where
  pub file : File
  pub described : Describes octets (Ok file)
  pub holds : P file.world
  pub is_line : text ≡ knowledge_text file.world

abbrev pub IsAny : World → Type 0
IsAny w = ⊤

abbrev pub IsCheckLine : List ℕ → List ℕ → Type 0
IsCheckLine octets text = ShowsKnowledge IsAny octets text ⊎ RefusesFile octets text

-- what is written of a world's knowledge, by how that ends
abbrev pub WritesKnowledge : Status → World → Option (List ℕ) → Option (List ℕ) → ℕ → ℕ → Type 0
WritesKnowledge Done w old new before after =
    IsConsistent w × (new ≡ with_octets (knowledge_text w) old)
WritesKnowledge Inconsistent w old new before after =
    IsInconsistent w × (new ≡ with_octets (knowledge_text w) old)
WritesKnowledge WriteFault w old new before after = Rose before after × TookPrefix (knowledge_text w) old new
WritesKnowledge NoMemory w old new before after = new ≡ old
WritesKnowledge Refused w old new before after = ⊥
WritesKnowledge Usage w old new before after = ⊥
WritesKnowledge ReadFault w old new before after = ⊥
WritesKnowledge TooLong w old new before after = ⊥

-- what is written of a world file's octets, by how that ends
abbrev pub ChecksOctets : Status → List ℕ → Option (List ℕ) → Option (List ℕ) → ℕ → ℕ → Type 0
ChecksOctets Done octets old new before after = Wrote (ShowsKnowledge IsConsistent octets) old new
ChecksOctets Inconsistent octets old new before after = Wrote (ShowsKnowledge IsInconsistent octets) old new
ChecksOctets Refused octets old new before after = Wrote (RefusesFile octets) old new
ChecksOctets WriteFault octets old new before after = Rose before after × Broke (IsCheckLine octets) old new
ChecksOctets NoMemory octets old new before after = new ≡ old
ChecksOctets Usage octets old new before after = ⊥
ChecksOctets ReadFault octets old new before after = ⊥
ChecksOctets TooLong octets old new before after = ⊥

-- what `check` writes, by how it ends: before the file is read nothing is
abbrev pub WritesChecked : Status → Option (List outside.File) → List ℕ → Option (List ℕ) → Option (List ℕ) → ℕ → ℕ →
    Type 0
WritesChecked Done told name old new before after =
    OfContent told name (λ octets. ChecksOctets Done octets old new before after)
WritesChecked Inconsistent told name old new before after =
    OfContent told name (λ octets. ChecksOctets Inconsistent octets old new before after)
WritesChecked Refused told name old new before after =
    OfContent told name (λ octets. ChecksOctets Refused octets old new before after)
WritesChecked WriteFault told name old new before after =
    OfContent told name (λ octets. ChecksOctets WriteFault octets old new before after)
WritesChecked NoMemory told name old new before after = new ≡ old
WritesChecked ReadFault told name old new before after = new ≡ old
WritesChecked TooLong told name old new before after = new ≡ old
WritesChecked Usage told name old new before after = ⊥

-- what ends a world file that is read
abbrev pub EndsCheck : Status → Type 0
EndsCheck Done = ⊤
EndsCheck Inconsistent = ⊤
EndsCheck Refused = ⊤
EndsCheck WriteFault = ⊤
EndsCheck NoMemory = ⊤
EndsCheck Usage = ⊥
EndsCheck ReadFault = ⊥
EndsCheck TooLong = ⊥

-- what is known of the file, by how a check ends
abbrev pub ReadsChecked : Status → List ℕ → Option (List outside.File) → ℕ → ℕ → Option (List ℕ) → Type 0
ReadsChecked Done name told before after failed = IsReadable told name
ReadsChecked Inconsistent name told before after failed = IsReadable told name
ReadsChecked Refused name told before after failed = IsReadable told name
ReadsChecked WriteFault name told before after failed = IsReadable told name
ReadsChecked NoMemory name told before after failed = ⊤
ReadsChecked ReadFault name told before after failed = Rose before after × (failed ≡ Some name)
ReadsChecked TooLong name told before after failed = IsLonger told name most_octets
ReadsChecked Usage name told before after failed = ⊥
