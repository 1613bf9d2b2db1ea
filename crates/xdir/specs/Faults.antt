-- What is printed of a fault of a world file or of a script, as the readers tell it; want of memory has no line.
use Rattle.std.specs.Prelude.{◌≡◌, ℕ, List}
use Rattle.x5_model_script.specs.Words as words
use Rattle.x5_model_world.specs.Reading as model
use Rattle.x5_script.specs.declared.command.ScriptFault.{ScriptFault}
use Rattle.x5_script.specs.declared.command.ScriptFault.TheVariants as script
use Rattle.x5_script.specs.declared.script.ScriptRefusal.{ScriptRefusal}
use Rattle.x5_script.specs.declared.script.ScriptRefusal.TheVariants as refusals
use Rattle.x5_world_members.specs.declared.fault.LoadFault.{LoadFault}
use Rattle.x5_world_members.specs.declared.fault.LoadFault.TheVariants as world
use Rattle.xdir.specs.Text.{not_json_text, refused_world_text, refused_line_text}

abbrev pub IsWorldLine : LoadFault → List ℕ → Type 0
IsWorldLine world.NotJson text = text ≡ not_json_text
IsWorldLine (world.BadShape path) text = text ≡ refused_world_text (model.BadShape path)
IsWorldLine (world.BadName path) text = text ≡ refused_world_text (model.BadName path)
IsWorldLine (world.OverLimit path limit) text = text ≡ refused_world_text (model.OverLimit path limit)
IsWorldLine (world.RepeatedAgent path) text = text ≡ refused_world_text (model.RepeatedAgent path)
IsWorldLine (world.UnknownAgent path) text = text ≡ refused_world_text (model.UnknownAgent path)
IsWorldLine world.NoMemory text = ⊥

abbrev pub IsScriptLine : ℕ → ScriptFault → List ℕ → Type 0
IsScriptLine number (script.BadWord column) text = text ≡ refused_line_text number (words.BadWord column)
IsScriptLine number (script.BadName column) text = text ≡ refused_line_text number (words.BadName column)
IsScriptLine number (script.BadFilter column) text = text ≡ refused_line_text number (words.BadFilter column)
IsScriptLine number (script.BadHex column) text = text ≡ refused_line_text number (words.BadHex column)
IsScriptLine number script.LineTooLong text = text ≡ refused_line_text number words.Long
IsScriptLine number script.NoMemory text = ⊥

-- of a script that is refused
abbrev pub IsRefusalLine : ScriptRefusal → List ℕ → Type 0
IsRefusalLine (refusals.Line number fault) text = IsScriptLine number fault text
IsRefusalLine refusals.NoMemory text = ⊥
