-- The file found under a name among those held is the one found among the files as they are told: a search commutes
-- with the map from held files to files.
use Rattle.std.proofs.Common.{List, ◌∙◌, ap, string_bytes}
use Rattle.std.specs.List.{find}
use Rattle.std.specs.Option.{option_map}
use Rattle.std.specs.Str.{bytes_eq}
use Rattle.x5_port.specs.Outside.{File}
use Rattle.x5_port.specs.Memory.{file_of}
use Rattle.x5_port.specs.declared.memory.HeldFile.{HeldFile}
use Rattle.x5_port.proofs.Found.{find-map}
use Rattle.x5_port.proofs.memory.MemoryFiles.held_under.Goals as goal

pub returns : goal.returns
returns c =
    ap (option_map file_of) (c.first_named.ensures ∙ ap (λ (held : List HeldFile). find (λ file. bytes_eq (string_bytes file.name) c.args.name.now) held) c.deref.ensures.value)
    ∙ find-map file_of (λ (file : File). bytes_eq file.name c.args.name.now) c.args.self.now.held.items
