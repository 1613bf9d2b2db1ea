-- Contexts that move: Ada becomes a pin that Gamma masters, and is joined to Shop again. Knowledge stays consistent.
use Rattle.std.specs.Prelude.{◌≡◌, [], ◌∷◌}
use Rattle.std.specs.declared.option.Option.TheVariants.{None}
use Rattle.std.proofs.Common.{refl}
use lib.Chars.{codes}
use Rattle.x5_model.specs.Values.{Known, TextValue, key_of}
use Rattle.x5_model.specs.Requests.{Request, Read, Only}
use Rattle.x5_model.specs.References.{Next, Subordinate}
use Rattle.x5_model.specs.Answers.{Answered, EntryFound}
use Rattle.x5_model_tree.specs.Consistent.{first_breach}
use Rattle.x5_model_run.specs.Network.{Sent}
use Rattle.x5_model_run.specs.Journal.{Line, Journal}
use Rattle.x5_model_run.specs.History.{Point, Nothing, Splits, Unsplits, world_at}
use Rattle.x5_model_run.specs.Chain.{scene_at}
use Rattle.x5_model_run.specs.Right.{AnswersRight, result}
use Rattle.x5_model_run.specs.Thorough.{Thorough}
use Rattle.x5_model_run.proofs.Licensing.{licensed_by, licensed_first}
use Rattle.x5_model_rows.proofs.Literals.{plainly}
use Rattle.x5_model_rows.proofs.BaseWorld.{base_world, shop, acme, ada}
use Rattle.x5_model_rows.proofs.Messages.{asks, passes, journal, did, point, now, info, shows}

abbrev pub after_split : Point
after_split = point base_world (did (Splits (key_of ada) 2) 0 ∷ [])

pub split_consistent : first_breach (world_at after_split) ≡ None
split_consistent = refl

abbrev pub read_ada : Request
read_ada = plainly (Read ada (Only (Known 4 ∷ [])))

abbrev pub ada_at_delta : Line
ada_at_delta = asks 1 3 read_ada Sent

abbrev pub ada_journal : Journal
ada_journal = journal (ada_at_delta ∷ passes 2 ada_at_delta 2 ada (Next 4) Subordinate read_ada Sent ∷ [])

pub ada_at_gamma : AnswersRight after_split 3 read_ada ada_journal
    (Answered (EntryFound (info ada (shows 4 (TextValue (codes "Bos") ∷ []) ∷ [])) (now ada 2)))
ada_at_gamma = record {
  licensed = (licensed_by ada_at_delta 0 0 refl refl refl refl refl, (licensed_first refl refl refl refl refl, tt));
  accepts = record { one = refl; right = refl; probed = refl };
  finished = record { done = refl; at_once = refl };
  answer = result refl (record {
    found = refl;
    sources = refl;
    spelled = refl;
    once = refl;
    exactly = refl;
    answered = refl;
    blocked = tt;
    completed = refl;
    apart = refl;
  }) refl refl;
}

pub ada_thorough : Thorough (scene_at after_split 3 read_ada) ada_journal
ada_thorough = refl

abbrev pub after_unsplit : Point
after_unsplit =
    point base_world (did (Unsplits (key_of ada)) 0 ∷ did Nothing 2 ∷ did (Splits (key_of ada) 2) 0 ∷ [])

pub unsplit_consistent : first_breach (world_at after_unsplit) ≡ None
unsplit_consistent = refl

pub ada_back : AnswersRight after_unsplit 3 read_ada (journal (asks 3 3 read_ada Sent ∷ []))
    (Answered (EntryFound (info ada (shows 4 (TextValue (codes "Bos") ∷ []) ∷ [])) (now shop 3)))
ada_back = record {
  licensed = (licensed_first refl refl refl refl refl, tt);
  accepts = record { one = refl; right = refl; probed = refl };
  finished = record { done = refl; at_once = refl };
  answer = result refl (record {
    found = refl;
    sources = refl;
    spelled = refl;
    once = refl;
    exactly = refl;
    answered = refl;
    blocked = tt;
    completed = refl;
    apart = refl;
  }) refl refl;
}

-- Shop leaves Delta for Beta, and Delta leaves the NSSR
abbrev pub shop_at_beta : Point
shop_at_beta = point base_world (did (Unsplits (key_of shop)) 0 ∷ [])

pub shop_consistent : first_breach (world_at shop_at_beta) ≡ None
shop_consistent = refl

pub shop_read : AnswersRight shop_at_beta 1 read_ada (journal (asks 1 1 read_ada Sent ∷ []))
    (Answered (EntryFound (info ada (shows 4 (TextValue (codes "Bos") ∷ []) ∷ [])) (now acme 1)))
shop_read = record {
  licensed = (licensed_first refl refl refl refl refl, tt);
  accepts = record { one = refl; right = refl; probed = refl };
  finished = record { done = refl; at_once = refl };
  answer = result refl (record {
    found = refl;
    sources = refl;
    spelled = refl;
    once = refl;
    exactly = refl;
    answered = refl;
    blocked = tt;
    completed = refl;
    apart = refl;
  }) refl refl;
}
