-- A member is one less deep than the filter that has it.
use Rattle.std.proofs.Common.{◌≡◌, IsUtf8, ◌+◌, ◌*◌, ◌-◌, ◌≤◌, length}
use Rattle.x5_model_text.specs.Filters as text_of
use Rattle.x5_match.proofs.ParseLemmas.{read_behind}
use Rattle.x5_match.proofs.parse.+filter.Given as goal

abbrev pub decreases-filter_from : goal.decreases-filter_from
decreases-filter_from l = 3 * l.nesting

abbrev pub decreases-members_from : goal.decreases-members_from
decreases-members_from l = 3 * l.nesting + 1

abbrev pub decreases-inside_from : goal.decreases-inside_from
decreases-inside_from l = 3 * l.nesting + 2

abbrev pub invariant-members_from-members : goal.invariant-members_from-members
invariant-members_from-members l = record {
  text : IsUtf8 l.rest;
  left : length l.rest + length l.members.items ≤ length l.text;
  read : read_behind l.members.items (text_of.members_read (text_of.filter_read l.nesting l.all) (length l.text - length l.members.items) l.rest)
      ≡ text_of.members_read (text_of.filter_read l.nesting l.all) (length l.text) l.text;
}

abbrev pub decreases-members_from-members : goal.decreases-members_from-members
decreases-members_from-members l = length l.rest
