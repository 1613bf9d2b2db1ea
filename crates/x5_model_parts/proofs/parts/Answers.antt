-- The answers to the goals that the tactics leave.
use Rattle.x5_model_parts.proofs.Joining.{spots_are_right, spots_are_once, spots_are_touched, spots_are_apart, all_are_parts, parts_are_apart, scope_is_covered}
use Rattle.x5_model_parts.proofs.Nesting.{parts_begin, parts_go_on, needs_are_nested, same_are_asked}
use Rattle.x5_model_parts.proofs.parts.Goals as goal

pub returns-clause-right : goal.returns-clause-right
returns-clause-right c = spots_are_right

pub returns-clause-once : goal.returns-clause-once
returns-clause-once c = spots_are_once

pub returns-clause-touched : goal.returns-clause-touched
returns-clause-touched c = spots_are_touched

pub returns-clause-spots_apart : goal.returns-clause-spots_apart
returns-clause-spots_apart c = spots_are_apart

pub returns-clause-all : goal.returns-clause-all
returns-clause-all c = all_are_parts

pub returns-clause-apart : goal.returns-clause-apart
returns-clause-apart c = parts_are_apart

pub returns-clause-scopes : goal.returns-clause-scopes
returns-clause-scopes c = scope_is_covered

pub returns-clause-begin : goal.returns-clause-begin
returns-clause-begin c = parts_begin

pub returns-clause-nested : goal.returns-clause-nested
returns-clause-nested c = needs_are_nested

pub returns-clause-same_asked : goal.returns-clause-same_asked
returns-clause-same_asked c = same_are_asked

pub returns-clause-go_on : goal.returns-clause-go_on
returns-clause-go_on c = parts_go_on
