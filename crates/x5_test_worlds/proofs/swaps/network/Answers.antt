-- What the file describes is a described world, all of whose texts are UTF-8.
use Rattle.x5_load.specs.Views.{file_view}
use Rattle.x5_model_loaded.proofs.Worlds.{file_described}
use Rattle.x5_model_shadowing.proofs.Files.{files_have_utf8}
use Rattle.x5_model_within.proofs.Files.{files_are_utf8}
use Rattle.x5_test_worlds.proofs.swaps.network.Goals as goal

pub new-made-requires-clause-described : goal.new-made-requires-clause-described
new-made-requires-clause-described c =
    let h = c.in_ok-described.ensures.loads in file_described h.value (file_view c.in_ok-described.described) h.is_found

pub new-made-requires-clause-utf8 : goal.new-made-requires-clause-utf8
new-made-requires-clause-utf8 c =
    let h = c.in_ok-described.ensures.loads in files_are_utf8 h.value (file_view c.in_ok-described.described) h.is_found

pub new-made-requires-clause-references : goal.new-made-requires-clause-references
new-made-requires-clause-references c =
    let h = c.in_ok-described.ensures.loads in files_have_utf8 h.value (file_view c.in_ok-described.described) h.is_found
