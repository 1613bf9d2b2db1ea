-- A script that is read has few lines, each of which can be taken, and what is written or summed of its commands is
-- that of its octets; of another script it's the line of its first line that is refused.
use Rattle.std.proofs.Common.{ℕ, List, ◌≤◌, length, map, sym, subst, ◌∙◌, All}
use Rattle.std.proofs.lemmas.List.{length-map}
use Rattle.std.proofs.lemmas.Result.{IfOk-at_ok}
use Rattle.x5_load.specs.Views.{file_view}
use Rattle.x5_model_within.specs.Scripts.{BoundedAsked}
use Rattle.x5_model_within.proofs.Scripts.{scripts_bounded}
use Rattle.x5_script.specs.Views.{command_view}
use Rattle.x5_script.specs.declared.command.Command.{Command}
use Rattle.xdir.specs.Taken.{IsTaken}
use Rattle.xdir.proofs.Ends.{such_prints}
use Rattle.xdir.proofs.Few.{few}
use Rattle.xdir.proofs.Files.{runs_script, refuses_script, asked_for, refused_for}
use Rattle.xdir.proofs.Summaries.{sums_script, sums_refused}
use Rattle.xdir.proofs.Taken.{all_taken}
use Rattle.xdir.proofs.top.run_octets.Goals as goal

pub run_commands-requires-clause-few : goal.run_commands-requires-clause-few
run_commands-requires-clause-few g c =
    let f = few c.names.result.now c.len-lost_replies.result c.args.script.now (map command_view c.in-Ok.commands.items) c.in-Ok.ensures in
    subst (λ (cs : List Command). length cs ≤ 100000) (sym c.deref.ensures.value)
    (subst (λ (n : ℕ). n ≤ 100000) (length-map c.in-Ok.commands.items command_view) f)

pub run_commands-requires-clause-taken : goal.run_commands-requires-clause-taken
run_commands-requires-clause-taken g c =
    let names = c.names.result.now in
    let agents = length names in
    subst (λ (cs : List Command). All (IsTaken (length c.args.network.now.names)) cs) (sym c.deref.ensures.value)
    (subst (λ (ns : List (List ℕ)). All (IsTaken (length ns)) c.in-Ok.commands.items) c.names.ensures
    (all_taken agents c.in-Ok.commands.items
    (IfOk-at_ok (All (BoundedAsked agents)) c.in-Ok.ensures (scripts_bounded names c.len-lost_replies.result c.args.script.now))))

pub returns-in-Ok-clause-writes : goal.returns-in-Ok-clause-writes
returns-in-Ok-clause-writes g c = λ printed.
    let f = file_view c.args.described.now in
    runs_script f c.args.script.now (map command_view c.deref.result.now)
    (asked_for f c.names.result.now c.len-lost_replies.result c.args.script.now c.deref.result.now c.in-Ok.commands.items (c.names.ensures ∙ c.requires.stands.names) (c.len-lost_replies.ensures ∙ (λ i. length (c.described.view_is i).network.lost_replies)) c.deref.ensures.value c.in-Ok.ensures)
    c.run_commands.result (g.K.Sink.octets c.args.out.now) (g.K.Sink.octets c.run_commands.new.out) (g.K.Sink.fault_count c.args.out.now) (g.K.Sink.fault_count c.run_commands.new.out) (c.run_commands.ensures.writes printed)

pub returns-in-Ok-clause-sums : goal.returns-in-Ok-clause-sums
returns-in-Ok-clause-sums g c = λ printed.
    let f = file_view c.args.described.now in
    sums_script f c.args.script.now (map command_view c.deref.result.now)
    (asked_for f c.names.result.now c.len-lost_replies.result c.args.script.now c.deref.result.now c.in-Ok.commands.items (c.names.ensures ∙ c.requires.stands.names) (c.len-lost_replies.ensures ∙ (λ i. length (c.described.view_is i).network.lost_replies)) c.deref.ensures.value c.in-Ok.ensures)
    c.run_commands.result (g.K.Sink.octets c.args.out.now) (g.K.Sink.octets c.run_commands.new.out) (g.K.Sink.fault_count c.args.out.now) (g.K.Sink.fault_count c.run_commands.new.out) (c.run_commands.ensures.sums printed)

pub returns-in-Err-clause-prints : goal.returns-in-Err-clause-prints
returns-in-Err-clause-prints g c = such_prints c.refuse_script.result _ _ _ _ _ c.refuse_script.ensures

pub returns-in-Err-clause-writes : goal.returns-in-Err-clause-writes
returns-in-Err-clause-writes g c = λ printed.
    let f = file_view c.args.described.now in
    refuses_script f c.args.script.now c.in-Err.refusal
    (refused_for f c.names.result.now c.len-lost_replies.result c.args.script.now c.in-Err.refusal (c.names.ensures ∙ c.requires.stands.names) (c.len-lost_replies.ensures ∙ (λ i. length (c.described.view_is i).network.lost_replies)) c.in-Err.ensures)
    c.refuse_script.result (g.K.Sink.octets c.args.out.now) (g.K.Sink.octets c.refuse_script.new.out) (g.K.Sink.fault_count c.args.out.now) (g.K.Sink.fault_count c.refuse_script.new.out) c.refuse_script.ensures

pub returns-in-Err-clause-sums : goal.returns-in-Err-clause-sums
returns-in-Err-clause-sums g c = λ printed.
    let f = file_view c.args.described.now in
    sums_refused f c.args.script.now c.in-Err.refusal
    (refused_for f c.names.result.now c.len-lost_replies.result c.args.script.now c.in-Err.refusal (c.names.ensures ∙ c.requires.stands.names) (c.len-lost_replies.ensures ∙ (λ i. length (c.described.view_is i).network.lost_replies)) c.in-Err.ensures)
    c.refuse_script.result (g.K.Sink.octets c.args.out.now) (g.K.Sink.octets c.refuse_script.new.out) (g.K.Sink.fault_count c.args.out.now) (g.K.Sink.fault_count c.refuse_script.new.out) c.refuse_script.ensures
