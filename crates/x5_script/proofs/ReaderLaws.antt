-- What the reader of a script keeps from line to line.
use Rattle.std.proofs.Common.{◌≡◌, ℕ, ◌+◌, ◌<◌, ◌==◌, Bool, false, All, List, [], ◌∷◌, ◌++◌, length, map, Result, Ok, Err, IfOk, sym, ◌∙◌, ap, subst, arith}
use Rattle.std.proofs.lemmas.List.{map-append}
use Rattle.std.proofs.lemmas.List.Elements.{All-push}
use Rattle.std.proofs.lemmas.Result.{IfOk-at_ok}
use Rattle.std.specs.List.{before_first, after_first}
use Rattle.x5_model.specs.Values.{Text}
use Rattle.x5_model_script.specs.Words as words
use Rattle.x5_model_script.specs.Script.{is_line_feed, line_behind, lost_with, script_of}
use Rattle.x5_model_script.proofs.ScriptLaws.{left, line_taken, line_refused}
use Rattle.x5_script.specs.declared.command.Command.{Command}
use Rattle.x5_script.specs.declared.command.ScriptFault.{ScriptFault}
use Rattle.x5_script.specs.declared.command.ScriptFault.TheVariants.{BadWord, BadName, BadFilter, BadHex, LineTooLong, NoMemory}
use Rattle.x5_script.specs.Views.{ReadsScript, IsFault, command_view, refusal_of}

pub not_empty : {X : Type 0} (xs : List X) (b : Bool) → b ≡ (length xs == 0) → b ≡ false → 0 < length xs
not_empty [] b h other = absurd (cc)
not_empty (x ∷ xs) b h other = omega arith

refused : (names : List Text) (done : List Command) (before lost from : ℕ) (rest line octets : Text) (fault : words.Fault)
    → line ≡ before_first is_line_feed rest → 0 < length rest → line_behind names before lost line ≡ Err fault
    → left names (map command_view done) before lost rest ≡ script_of names from octets → script_of names from octets ≡ Err (before + 1, fault)
refused names done before lost from rest line octets fault first some h read =
    sym read ∙ line_refused names (map command_view done) before lost rest fault some (ap (line_behind names before lost) (sym first) ∙ h)

-- a line that is refused ends the script
pub ends : (names : List Text) (done : List Command) (before lost from : ℕ) (rest line octets : Text) (fault : ScriptFault)
    → line ≡ before_first is_line_feed rest → 0 < length rest → IsFault fault (line_behind names before lost line)
    → left names (map command_view done) before lost rest ≡ script_of names from octets
    → ReadsScript (Err (refusal_of (before + 1) fault)) names from octets
ends names done before lost from rest line octets (BadWord column) first some h read = refused names done before lost from rest line octets (words.BadWord column) first some h read
ends names done before lost from rest line octets (BadName column) first some h read = refused names done before lost from rest line octets (words.BadName column) first some h read
ends names done before lost from rest line octets (BadFilter column) first some h read = refused names done before lost from rest line octets (words.BadFilter column) first some h read
ends names done before lost from rest line octets (BadHex column) first some h read = refused names done before lost from rest line octets (words.BadHex column) first some h read
ends names done before lost from rest line octets LineTooLong first some h read = refused names done before lost from rest line octets words.Long first some h read
ends names done before lost from rest line octets NoMemory first some h read = tt

-- a line that is taken adds its command
pub goes_on : (names : List Text) (done new : List Command) (before lost now from : ℕ) (rest line behind octets : Text) (command : Command)
    → line ≡ before_first is_line_feed rest → behind ≡ after_first is_line_feed rest → new ≡ done ++ command ∷ []
    → now ≡ lost_with lost (command_view command) → 0 < length rest
    → line_behind names before lost line ≡ Ok (command_view command)
    → left names (map command_view done) before lost rest ≡ script_of names from octets
    → left names (map command_view new) (before + 1) now behind ≡ script_of names from octets
goes_on names done new before lost now from rest line behind octets command first last pushed counted some h read =
    ap (λ t. left names (map command_view new) (before + 1) now t) last
    ∙ ap (λ n. left names (map command_view new) (before + 1) n (after_first is_line_feed rest)) counted
    ∙ ap (λ cs. left names (map command_view cs) (before + 1) (lost_with lost (command_view command)) (after_first is_line_feed rest)) pushed
    ∙ ap (λ cs. left names cs (before + 1) (lost_with lost (command_view command)) (after_first is_line_feed rest))
    (map-append command_view done (command ∷ []))
    ∙ sym (line_taken names (map command_view done) before lost rest (command_view command) some
    (ap (line_behind names before lost) (sym first) ∙ h))
    ∙ read
