-- What is read and written, in words that all forms share: a text of some kind was written, whole or in part; a file is
-- there.
use Rattle.std.specs.Prelude.{◌≡◌, ℕ, ◌≤◌, ◌⊎◌, List, length, Option, Some, None, IsSomeAnd, ⊤}
use Rattle.x5_port.specs.Outside.{File, content_of, IsContent, Rose, with_octets, TookPrefix}
use Rattle.xdir.specs.declared.top.Status.{Status}
use Rattle.xdir.specs.declared.top.Status.TheVariants.{Done, Refused, Usage, ReadFault, WriteFault, NoMemory}
use Rattle.xdir.specs.declared.top.Status.TheVariants.{Inconsistent, TooLong}

-- the most octets of a file
abbrev pub most_octets : ℕ
most_octets = 16777216

-- such a text was written whole
pub record Wrote (P : List ℕ → Type 0) (old new : Option (List ℕ)) : Type 0 where
  pub text : List ℕ
  pub is : P text
  pub whole : new ≡ with_octets text old

-- a first part of such a text was written
pub record Broke (P : List ℕ → Type 0) (old new : Option (List ℕ)) : Type 0 where
  pub text : List ℕ
  pub is : P text
  pub part : TookPrefix text old new

-- What is written, by how a run ends: the whole output, the line of a refusal, a first part of one of these or of the
-- output of some first commands, or the output of the commands before the one at which memory ran out; before both
-- files are read nothing is, but the line of a refused world.
abbrev pub Ends : (List ℕ → Type 0) → (List ℕ → Type 0) → (List ℕ → Type 0) → Status → Option (List ℕ) →
    Option (List ℕ) → ℕ → ℕ → Type 0
Ends output first refusal Done old new before after = Wrote output old new
Ends output first refusal Refused old new before after = Wrote refusal old new
Ends output first refusal WriteFault old new before after =
    Rose before after × Broke (λ text. (output text ⊎ first text) ⊎ refusal text) old new
Ends output first refusal NoMemory old new before after = (new ≡ old) ⊎ Wrote first old new
Ends output first refusal ReadFault old new before after = new ≡ old
Ends output first refusal TooLong old new before after = new ≡ old
Ends output first refusal Usage old new before after = ⊥
Ends output first refusal Inconsistent old new before after = ⊥

-- the file is there and isn't too long, as far as the files tell their contents
abbrev pub IsReadable : Option (List File) → List ℕ → Type 0
IsReadable None name = ⊤
IsReadable (Some files) name = IsSomeAnd (content_of files name) (λ content. length content ≤ most_octets)

-- it holds of some octets, which are the file's as far as the files tell their contents
pub record OfContent (told : Option (List File)) (name : List ℕ) (P : List ℕ → Type 0) : Type 0 where
  pub octets : List ℕ
  pub is_content : IsContent told name octets
  pub holds : P octets
