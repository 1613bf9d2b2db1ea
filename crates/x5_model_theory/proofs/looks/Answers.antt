-- Where an agent begins a list or search, from a base, the root or an NSSR's pins, it may look; each sub-request looks
-- into the scope of its reference, and the reference covers just that scope.
use Rattle.x5_model_theory.proofs.LooksFrom.{base_may_look, root_may_look, pins_may_look, entries_are_touched}
use Rattle.x5_model_theory.proofs.LooksFrom.{specific_leads, nonspecific_leads, same_entries, same_wide_entries}
use Rattle.x5_model_theory.proofs.LooksFrom.{specific_covers, nonspecific_covers}
use Rattle.x5_model_theory.proofs.looks.Goals as goal

pub returns-clause-from_base : goal.returns-clause-from_base
returns-clause-from_base c = base_may_look

pub returns-clause-from_root : goal.returns-clause-from_root
returns-clause-from_root c = root_may_look

pub returns-clause-from_pins : goal.returns-clause-from_pins
returns-clause-from_pins c = pins_may_look

pub returns-clause-entries : goal.returns-clause-entries
returns-clause-entries c = entries_are_touched

pub returns-clause-specific_leads : goal.returns-clause-specific_leads
returns-clause-specific_leads c = specific_leads

pub returns-clause-nonspecific_leads : goal.returns-clause-nonspecific_leads
returns-clause-nonspecific_leads c = nonspecific_leads

pub returns-clause-same_entries : goal.returns-clause-same_entries
returns-clause-same_entries c = same_entries

pub returns-clause-same_wide_entries : goal.returns-clause-same_wide_entries
returns-clause-same_wide_entries c = same_wide_entries

pub returns-clause-specific_covers : goal.returns-clause-specific_covers
returns-clause-specific_covers c = specific_covers

pub returns-clause-nonspecific_covers : goal.returns-clause-nonspecific_covers
returns-clause-nonspecific_covers c = nonspecific_covers
