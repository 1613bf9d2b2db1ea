-- Each needed reference leads on to a nearer message: stages are ordered, so a trace rises, has no item twice and has
-- 96 items at most; by the lemmas on stages, references and traces.
use Rattle.x5_model_theory.proofs.Stages.{never_lower, lower_chain, no_loop}
use Rattle.x5_model_theory.proofs.Rows.{resolution_leads}
use Rattle.x5_model_theory.proofs.Parts.{parts_lead_on, copies_lead_on}
use Rattle.x5_model_theory.proofs.Following.{followed_is_placed, traces_rise, no_item_twice}
use Rattle.x5_model_theory.proofs.Probing.{probes_are_placed}
use Rattle.x5_model_theory.proofs.Bounding.{traces_go_on, no_long_trace}
use Rattle.x5_model_theory.proofs.leading.Goals as goal

pub returns-clause-never_lower : goal.returns-clause-never_lower
returns-clause-never_lower c = never_lower

pub returns-clause-lower_chain : goal.returns-clause-lower_chain
returns-clause-lower_chain c = lower_chain

pub returns-clause-no_loop : goal.returns-clause-no_loop
returns-clause-no_loop c = no_loop

pub returns-clause-resolution : goal.returns-clause-resolution
returns-clause-resolution c = resolution_leads

pub returns-clause-parts : goal.returns-clause-parts
returns-clause-parts c = parts_lead_on

pub returns-clause-copies : goal.returns-clause-copies
returns-clause-copies c = copies_lead_on

pub returns-clause-followed : goal.returns-clause-followed
returns-clause-followed c = followed_is_placed

pub returns-clause-probes : goal.returns-clause-probes
returns-clause-probes c = probes_are_placed

pub returns-clause-traces : goal.returns-clause-traces
returns-clause-traces c = traces_rise

pub returns-clause-no_item_twice : goal.returns-clause-no_item_twice
returns-clause-no_item_twice c = no_item_twice

pub returns-clause-going : goal.returns-clause-going
returns-clause-going c = traces_go_on

pub returns-clause-no_long_trace : goal.returns-clause-no_long_trace
returns-clause-no_long_trace c = no_long_trace
