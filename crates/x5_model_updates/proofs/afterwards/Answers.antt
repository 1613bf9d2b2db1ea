-- The tree after an accepted update, entry by entry, key by key and context by context: a lemma of After for each.
use Rattle.x5_model_updates.proofs.After.{entries_after, keys_after, parts_after}
use Rattle.x5_model_updates.proofs.afterwards.Goals as goal

pub returns-clause-entries : goal.returns-clause-entries
returns-clause-entries c = entries_after

pub returns-clause-keys : goal.returns-clause-keys
returns-clause-keys c = keys_after

pub returns-clause-parts : goal.returns-clause-parts
returns-clause-parts c = parts_after
