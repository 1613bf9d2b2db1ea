-- What the code's filters stand for.
use Rattle.std.specs.Prelude.{List, [], ◌∷◌}
use Rattle.x5_model.specs.Filters as model
use Rattle.x5_syntax.specs.TypeView.{type_view}
use Rattle.x5_match.specs.declared.filter.Item.{Item}
use Rattle.x5_match.specs.declared.filter.Item.TheVariants as items
use Rattle.x5_match.specs.declared.filter.Filter.{Filter, Item as ItemFilter, And', Or', Not', Row_of-Filter}
use Rattle.x5_match.specs.declared.filter.Filter.{end_of-Filter, more_of-Filter}

abbrev pub item_view : Item → model.Item
item_view (items.Equality a) = model.Equality a
item_view (items.Substrings s) = model.Substrings s
item_view (items.GreaterOrEqual a) = model.GreaterOrEqual a
item_view (items.LessOrEqual a) = model.LessOrEqual a
item_view (items.Present kind) = model.Present (type_view kind)
item_view (items.Approximate a) = model.Approximate a

abbrev mutual
  pub filter_view : Filter → model.Filter
  filter_view (ItemFilter i) = model.Is (item_view i)
  filter_view (And' shape all) = model.And (row_view all)
  filter_view (Or' shape all) = model.Or (row_view all)
  filter_view (Not' p f) = model.Not (filter_view f)

  pub row_view : {m : _} → Row_of-Filter m → model.Filters
  row_view end_of-Filter = model.Nil
  row_view (more_of-Filter f rest) = model.More (filter_view f) (row_view rest)

-- members in a vector
abbrev pub filters_of : List Filter → model.Filters
filters_of [] = model.Nil
filters_of (f ∷ fs) = model.More (filter_view f) (filters_of fs)
