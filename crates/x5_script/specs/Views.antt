-- What words, commands and faults stand for, and what the reader's answer says of a line.
use Rattle.std.specs.Prelude.{◌≡◌, ℕ, List, Vec, map, drop, Result, Ok, Err}
use Rattle.std.specs.declared.alloc.Global.{Global}
use Rattle.x5_model.specs.Values as model
use Rattle.x5_model_run.specs.Run as run
use Rattle.x5_model_script.specs.Words as words
use Rattle.x5_model_script.specs.Lines.{Asked, Runs, Delivers, line_of}
use Rattle.x5_model_script.specs.Script.{script_of}
use Rattle.x5_ops.specs.JournalViews.{outage_view}
use Rattle.x5_ops.specs.RequestViews.{request_view}
use Rattle.x5_syntax.specs.TypeView.{type_view}
use Rattle.x5_syntax.specs.ValueView.{value_view}
use Rattle.x5_syntax.specs.declared.kinds.TypeRef.{TypeRef}
use Rattle.x5_syntax.specs.declared.values.Value.{Value}
use Rattle.x5_script.specs.declared.command.Command.{Command}
use Rattle.x5_script.specs.declared.command.Command.TheVariants as commands
use Rattle.x5_script.specs.declared.command.ScriptFault.{ScriptFault}
use Rattle.x5_script.specs.declared.command.ScriptFault.TheVariants.{BadWord, BadName, BadFilter, BadHex, LineTooLong}
use Rattle.x5_script.specs.declared.command.ScriptFault.TheVariants.{NoMemory}
use Rattle.x5_script.specs.declared.script.ScriptRefusal.{ScriptRefusal}
use Rattle.x5_script.specs.declared.script.ScriptRefusal.TheVariants as refusals
use Rattle.x5_script.specs.declared.script.ScriptRefusal.TheVariants.{Line}
use Rattle.x5_script.specs.declared.tokens.Token.{Token}
use Rattle.x5_script.specs.declared.tokens.Word.{Word}
use Rattle.x5_script.specs.declared.tokens.Words.{Words}

abbrev pub token_view : Token → words.Word
token_view t = record { column = t.column; text = t.octets.now }

abbrev pub word_view : Word → words.Word
word_view w = record { column = w.column; text = w.text.now }

abbrev pub left_view : Words → words.Left
left_view w = record { words = map token_view (drop w.at w.tokens.now); end = w.end }

abbrev pub pair_view : TypeRef × Value → model.TypeRef × model.Value
pair_view p = (type_view p.0, value_view p.1)

abbrev pub command_view : Command → Asked
command_view commands.Nothing = Runs run.Blank
command_view (commands.Ask to request) = Runs (run.Asks to (request_view request))
command_view (commands.Outage change) = Runs (run.Changes (outage_view change))
command_view (commands.Refresh id push total) = Runs (run.Updates id push total)
command_view (commands.Deliver dsp to octets) = Delivers dsp to octets
command_view (commands.Lose reply k) = Runs (run.Drops reply k)

-- the fault is that of what is read, unless memory ran out
abbrev pub IsFault : {Y : Type 0} → ScriptFault → Result Y words.Fault → Type 0
IsFault (BadWord column) read = read ≡ Err (words.BadWord column)
IsFault (BadName column) read = read ≡ Err (words.BadName column)
IsFault (BadFilter column) read = read ≡ Err (words.BadFilter column)
IsFault (BadHex column) read = read ≡ Err (words.BadHex column)
IsFault LineTooLong read = read ≡ Err words.Long
IsFault NoMemory read = Unit {0}

-- what a function returned, seen by `view`, is what is read, unless memory ran out
abbrev pub Says : {X Y : Type 0} → (X → Y) → Result X ScriptFault → Result Y words.Fault → Type 0
Says view (Ok x) read = read ≡ Ok (view x)
Says view (Err fault) read = IsFault fault read

-- and these words are left behind it
abbrev pub Takes : {X Y : Type 0} → (X → Y) → Result X ScriptFault → Words → Result (Y × words.Left) words.Fault →
    Type 0
Takes view (Ok x) after read = read ≡ Ok (view x, left_view after)
Takes view (Err fault) after read = IsFault fault read

-- the line's command, or its first fault; want of memory says nothing
abbrev pub ReadsLine : Result Command ScriptFault → List model.Text → model.Text → Type 0
ReadsLine result names line = Says command_view result (line_of names line)

-- what is told of a script whose line of this number is refused
abbrev pub refusal_of : ℕ → ScriptFault → ScriptRefusal
refusal_of number (BadWord column) = Line number (BadWord column)
refusal_of number (BadName column) = Line number (BadName column)
refusal_of number (BadFilter column) = Line number (BadFilter column)
refusal_of number (BadHex column) = Line number (BadHex column)
refusal_of number LineTooLong = Line number LineTooLong
refusal_of number NoMemory = refusals.NoMemory

-- the fault of the line is that of the script
abbrev pub IsLineFault : ℕ → ScriptFault → Result (List Asked) (ℕ × words.Fault) → Type 0
IsLineFault number (BadWord column) read = read ≡ Err (number, words.BadWord column)
IsLineFault number (BadName column) read = read ≡ Err (number, words.BadName column)
IsLineFault number (BadFilter column) read = read ≡ Err (number, words.BadFilter column)
IsLineFault number (BadHex column) read = read ≡ Err (number, words.BadHex column)
IsLineFault number LineTooLong read = read ≡ Err (number, words.Long)
IsLineFault number NoMemory read = ⊥

-- the script's commands, or its first line that is refused, in a world that loses so many replies; want of memory says
-- nothing
abbrev pub ReadsScript : Result (Vec Command Global) ScriptRefusal → List model.Text → ℕ → model.Text → Type 0
ReadsScript (Ok commands) names lost octets = script_of names lost octets ≡ Ok (map command_view commands.items)
ReadsScript (Err (Line number fault)) names lost octets = IsLineFault number fault (script_of names lost octets)
ReadsScript (Err refusals.NoMemory) names lost octets = Unit {0}
