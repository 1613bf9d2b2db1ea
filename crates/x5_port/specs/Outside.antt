-- What files and a sink of octets tell of themselves, and what the answers of their calls mean.
use Rattle.std.specs.Prelude.{◌≡◌, ◌≢◌, ℕ, ◌+◌, ◌<◌, min, ◌⊎◌, List, ◌∷◌, ◌++◌, length, take, Option, Some}
use Rattle.std.specs.Prelude.{None, Result, Ok, Err, IsSomeAnd, ⊤}
use Rattle.std.specs.List.{find}
use Rattle.std.specs.Option.{option_map}
use Rattle.std.specs.Str.{bytes_eq}
use Rattle.x5_port.specs.declared.fault.FileFault.{FileFault}
use Rattle.x5_port.specs.declared.fault.FileFault.TheVariants.{Failed, TooLong, NoMemory}

-- a file that is told: its name and its octets
pub record File : Type 0 where
  pub name : List ℕ
  pub content : List ℕ

-- the content under a name; of two files with one name the first counts
abbrev pub content_of : List File → List ℕ → Option (List ℕ)
content_of files name = option_map (λ file. file.content) (find (λ file. bytes_eq file.name name) files)

-- these octets are the file's, as far as the files tell their contents
abbrev pub IsContent : Option (List File) → List ℕ → List ℕ → Type 0
IsContent None name octets = ⊤
IsContent (Some files) name octets = content_of files name ≡ Some octets

-- the file is longer than the limit, as far as the files tell their contents
abbrev pub IsLonger : Option (List File) → List ℕ → ℕ → Type 0
IsLonger None name limit = ⊤
IsLonger (Some files) name limit = IsSomeAnd (content_of files name) (λ content. limit < length content)

-- the last value of a count of faults, which is a u64
abbrev pub last_count : ℕ
last_count = 18446744073709551615

-- one more; a count stops at its last value
abbrev pub next_count : ℕ → ℕ
next_count count = min (count + 1) last_count

-- the count rose, or stands at its last value
abbrev pub Rose : ℕ → ℕ → Type 0
Rose before now = now ≢ last_count → before < now

-- how many faults there were, after a call with this answer: no other answer is one
abbrev pub faults_after : {T : Type 0} → Result T FileFault → ℕ → ℕ
faults_after (Ok octets) before = before
faults_after (Err Failed) before = next_count before
faults_after (Err TooLong) before = before
faults_after (Err NoMemory) before = before

-- the name of the last call that was answered `Failed`, after a call for this name with this answer
abbrev pub failed_after : {T : Type 0} → Result T FileFault → List ℕ → Option (List ℕ) → Option (List ℕ)
failed_after (Ok octets) name before = before
failed_after (Err Failed) name before = Some name
failed_after (Err TooLong) name before = before
failed_after (Err NoMemory) name before = before

-- A file was asked for by this name, with this answer: the name stands in front of those before. Where memory ran out,
-- the call may have ended before that, and then nothing was read.
abbrev pub IsAsked : {T : Type 0} → Result T FileFault → List ℕ → List (List ℕ) → List (List ℕ) → Type 0
IsAsked (Ok octets) name before now = now ≡ name ∷ before
IsAsked (Err Failed) name before now = now ≡ name ∷ before
IsAsked (Err TooLong) name before now = now ≡ name ∷ before
IsAsked (Err NoMemory) name before now = (now ≡ name ∷ before) ⊎ (now ≡ before)

-- what was taken, with these octets after it
abbrev pub with_octets : List ℕ → Option (List ℕ) → Option (List ℕ)
with_octets octets taken = option_map (λ before. before ++ octets) taken

-- some first part of the octets was taken, but not all of them, and nothing else
abbrev pub TookPrefix : List ℕ → Option (List ℕ) → Option (List ℕ) → Type 0
TookPrefix octets before now = (count : ℕ) × (count < length octets) × (now ≡ with_octets (take count octets) before)
