-- A whole run: a total pull, a change at the master, a read of the copy, and a read at the master.
use Rattle.std.specs.Prelude.{ℕ, true, false, List, [], ◌∷◌}
use Rattle.std.proofs.Common.{refl, ap, subst}
use lib.Chars.{codes}
use Rattle.x5_model.specs.Values.{TextValue}
use Rattle.x5_model.specs.Requests.{Request}
use Rattle.x5_model.specs.References.{Chained}
use Rattle.x5_model.specs.Answers.{Reply, Answered, Changed, EntryFound}
use Rattle.x5_model_run.specs.Journal.{Journal}
use Rattle.x5_model_run.specs.History.{Point}
use Rattle.x5_model_run.specs.Chain.{opening}
use Rattle.x5_model_run.specs.Refresh.{Done, RefreshBlock}
use Rattle.x5_model_run.specs.Right.{AnswersRight, SendsRight}
use Rattle.x5_model_run.specs.Run.{Command, Asks, Updates, Block, Replies, Refreshing, IsRun, begin, next}
use Rattle.x5_model_rows.proofs.BaseWorld.{base_world, acme}
use Rattle.x5_model_rows.proofs.Messages.{journal, info, copied, shows, now}
use Rattle.x5_model_rows.proofs.Shadowing.{to_beta, to_epsilon, total_at, put_gears, gears_journal, gears_put}
use Rattle.x5_model_rows.proofs.Shadowing.{read_description, description_at_epsilon, as_of_first, copy_read, at_master}
use Rattle.x5_model_rows.proofs.Shadowing.{master_journal, master_read}

abbrev pub the_pull : RefreshBlock
the_pull = record { lines = to_beta ∷ to_epsilon ∷ []; outcome = Done (total_at 1 2) }

abbrev pub the_script : List Command
the_script = Updates 1 false true ∷ Asks 1 put_gears ∷ Asks 4 read_description ∷ Asks 4 at_master ∷ []

abbrev pub the_blocks : List Block
the_blocks =
    Refreshing the_pull
    ∷ Replies gears_journal (Answered Changed)
    ∷ Replies (journal (description_at_epsilon ∷ []))
    (Answered (EntryFound (copied (info acme (shows 13 (TextValue (codes "tools") ∷ []) ∷ []))) as_of_first))
    ∷ Replies master_journal
    (Answered (EntryFound (info acme (shows 13 (TextValue (codes "gears") ∷ TextValue (codes "tools") ∷ []) ∷ []))
    (now acme 1)))
    ∷ []

-- what is right of a request is right of the message that it opens with
sent : (p : Point) (first : ℕ) (r : Request) (j : Journal) (reply : Reply) → AnswersRight p first r j reply
    → SendsRight p first (opening r) j reply
sent p first r j reply is = record {
  one = is.accepts.one;
  right = is.accepts.right;
  answers = λ q e. subst (λ (x : Request). AnswersRight p first x j reply) (ap (λ (m : Chained). m.request) e) is;
}

pub ran : (past : _) × IsRun SendsRight base_world the_script the_blocks past
ran = (
  _,
  next _ _
      (next _ _ (next _ _ (next (Updates 1 false true) (Refreshing the_pull) begin refl) (sent _ _ _ _ _ gears_put))
      (sent _ _ _ _ _ copy_read))
      (sent _ _ _ _ _ master_read),
)
