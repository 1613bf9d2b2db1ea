-- What a user's next turn stands for, given the reply to the read of the alias.
use Rattle.x5_model.specs.Answers.{Reply}
use Rattle.x5_model_follow.specs.Alias as model
use Rattle.x5_ops.specs.RequestViews.{request_view}
use Rattle.x5_alias.specs.declared.turning.Turn.{Turn}
use Rattle.x5_alias.specs.declared.turning.Turn.TheVariants.{Again, First, Own}

abbrev pub turn_view : Reply → Turn → model.Turn
turn_view read (Again request) = model.Again (request_view request)
turn_view read First = model.First
turn_view read Own = model.Own read
