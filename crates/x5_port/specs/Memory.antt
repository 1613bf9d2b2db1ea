-- What the files and the sink in memory hold, and which of their calls are to fail.
use Rattle.std.specs.Prelude.{◌≡◌, ℕ, ◌==◌, nat_lt, Bool, if◌then◌else◌, List, [], map, length, Option, Some}
use Rattle.std.specs.Prelude.{None, Result, Ok, Err, string_bytes, Vec, ⊤}
use Rattle.std.specs.List.{list_any}
use Rattle.std.specs.Option.{option_map}
use Rattle.x5_port.specs.Names.{names_in}
use Rattle.x5_port.specs.Outside.{File, content_of, next_count}
use Rattle.x5_port.specs.declared.fault.FileFault.{FileFault}
use Rattle.x5_port.specs.declared.fault.FileFault.TheVariants.{Failed, TooLong, NoMemory}
use Rattle.x5_port.specs.declared.memory.HeldFile.{HeldFile}
use Rattle.x5_port.specs.declared.memory.MemoryFiles.{MemoryFiles}
use Rattle.x5_port.specs.declared.memory.MemorySink.{MemorySink}

-- whether the call of this number is to fail
abbrev pub is_marked : List ℕ → ℕ → Bool
is_marked failing number = list_any (λ marked. marked == number) failing

abbrev pub file_of : HeldFile → File
file_of held = record { name = string_bytes held.name; content = held.content.items }

-- the files, the one added last first
abbrev pub files_in : MemoryFiles → List File
files_in files = map file_of files.held.items

-- the name of the last call that was answered `Failed`
abbrev pub failed_in : MemoryFiles → Option (List ℕ)
failed_in files = option_map string_bytes files.failed

-- the names of all calls so far, the last one first
abbrev pub asked_in : MemoryFiles → List (List ℕ)
asked_in files = names_in files.asked.items

-- no file, no call and no fault yet
pub record IsNewFiles (files : MemoryFiles) (failing : List ℕ) : Type 0 where
  pub no_files : files_in files ≡ []
  pub failing_is : files.schedule.failing.items ≡ failing
  pub no_calls : files.schedule.calls ≡ 0
  pub no_faults : files.faults ≡ 0
  pub none_failed : failed_in files ≡ None
  pub none_asked : asked_in files ≡ []

-- the calls and the faults so far are the same
pub record SameButFiles (old new : MemoryFiles) : Type 0 where
  pub failing_is : new.schedule.failing.items ≡ old.schedule.failing.items
  pub calls_are : new.schedule.calls ≡ old.schedule.calls
  pub faults_are : new.faults ≡ old.faults
  pub failed_is : failed_in new ≡ failed_in old
  pub asked_is : asked_in new ≡ asked_in old

-- what a file's reader is answered where the call isn't to fail
abbrev pub read_in : Option (List ℕ) → ℕ → Result (List ℕ) FileFault
read_in None limit = Err Failed
read_in (Some content) limit = if nat_lt limit (length content) then Err TooLong else Ok content

-- what the next call is answered
abbrev pub answer_of : MemoryFiles → List ℕ → ℕ → Result (List ℕ) FileFault
answer_of files name limit =
    if is_marked files.schedule.failing.items (next_count files.schedule.calls) then Err Failed
    else read_in (content_of (files_in files) name) limit

-- the answer is this one, unless memory ran out
abbrev pub Answers : {A : Type 0} → Result (Vec ℕ A) FileFault → Result (List ℕ) FileFault → Type 0
Answers (Ok octets) answer = answer ≡ Ok octets.items
Answers (Err Failed) answer = answer ≡ Err Failed
Answers (Err TooLong) answer = answer ≡ Err TooLong
Answers (Err NoMemory) answer = ⊤

-- the octets taken so far
abbrev pub octets_in : MemorySink → List ℕ
octets_in sink = sink.taken.items

-- whether the next call is to fail
abbrev pub next_is_marked : MemorySink → Bool
next_is_marked sink = is_marked sink.schedule.failing.items (next_count sink.schedule.calls)

-- nothing taken, no call and no fault yet
pub record IsNewSink (sink : MemorySink) (room most : ℕ) (failing : List ℕ) : Type 0 where
  pub nothing_taken : octets_in sink ≡ []
  pub room_is : sink.room ≡ room
  pub most_is : sink.most ≡ most
  pub failing_is : sink.schedule.failing.items ≡ failing
  pub no_calls : sink.schedule.calls ≡ 0
  pub no_faults : sink.faults ≡ 0

-- the call is counted, except where memory ran out before it
abbrev pub CountsCall : {T : Type 0} → Result T FileFault → ℕ → ℕ → Type 0
CountsCall (Err NoMemory) before now = ⊤
CountsCall (Err Failed) before now = now ≡ next_count before
CountsCall (Err TooLong) before now = now ≡ next_count before
CountsCall (Ok octets) before now = now ≡ next_count before
