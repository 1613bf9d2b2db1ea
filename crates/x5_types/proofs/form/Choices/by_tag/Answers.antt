-- The types are those of a filter.
use Rattle.x5_types.proofs.form.Choices.by_tag.Goals as goal

pub returns-in-Filter : goal.returns-in-Filter
returns-in-Filter c = λ w. rw c.in-Filter.is (c.filter_by_tag.ensures w)
