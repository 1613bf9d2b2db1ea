-- What was gathered, and what is gathered of the words that are left.
use Rattle.std.proofs.Common.{◌≡◌, [], ◌∷◌, map, length, drop}
use Rattle.x5_ops.specs.RequestViews.{change_view}
use Rattle.x5_model_script.specs.Lines.{gathered, with_change}
use Rattle.x5_model_script.specs.Texts.{change_in}
use Rattle.x5_script.specs.Views.{token_view}
use Rattle.x5_script.proofs.operations.changes.Given as goal

abbrev pub invariant-words : goal.invariant-words
invariant-words l = record {
  same : gathered change_in with_change (map change_view l.changes) (map token_view (drop l.words.at l.words.tokens.now)) ≡ gathered change_in with_change (change_view l.fn.first ∷ []) (map token_view (drop l.fn.words.at l.fn.words.tokens.now));
  end : l.words.end ≡ l.fn.words.end;
}

abbrev pub decreases-words : goal.decreases-words
decreases-words l = length (map token_view (drop l.words.at l.words.tokens.now))
