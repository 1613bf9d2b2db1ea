-- Messages that a user hands to Beta as another agent's, of an update to its own context. Beta takes what they say of
-- how far they have come as it is: the update is accepted where it goes on from there, and nothing is where it can't.
use Rattle.std.specs.Prelude.{false, [], ◌∷◌}
use Rattle.std.specs.List.{concat}
use Rattle.std.specs.Fmt.{digits}
use Rattle.std.specs.declared.option.Option.TheVariants.{None, Some}
use Rattle.std.specs.declared.result.Result.TheVariants.{Ok}
use Rattle.std.proofs.Common.{refl}
use lib.Chars.{codes}
use Rattle.x5_model.specs.Values.{Text}
use Rattle.x5_model.specs.References.{Progress, Start, Next, Subordinate, Chained}
use Rattle.x5_model.specs.Answers.{Changed, ServiceProblem, Reply, Answered, Failed}
use Rattle.x5_model.specs.Problems.{invalid_reference}
use Rattle.x5_model_run.specs.Network.{Sent}
use Rattle.x5_model_run.specs.Journal.{Line, Journal}
use Rattle.x5_model_run.specs.Chain.{opening}
use Rattle.x5_model_run.specs.Run.{Dsp, Hands, Handed, begin, next}
use Rattle.x5_model_output.specs.Output.{PrintsRun}
use Rattle.x5_model_serve.specs.Serving.{hand_of, asked_by, answers, stuck, updates, does}
use Rattle.x5_model_rows.proofs.BaseWorld.{base_world, acme}
use Rattle.x5_model_rows.proofs.Messages.{journal, accepted_journal}
use Rattle.x5_model_rows.proofs.Resolution.{at_first}
use Rattle.x5_model_rows.proofs.Shadowing.{put_gears}
use Rattle.x5_model_rows.proofs.Stepping.{IsHandled}
use Rattle.x5_model_rows.proofs.Outputs.{moment}

-- it says that it came of Alpha, by a subordinate reference
abbrev pub of_alpha : Progress → Chained
of_alpha progress = record (opening put_gears) {
  progress = progress;
  kind = Subordinate;
  trace = (record { agent = 0; target = acme; progress = Start; wide = false }) ∷ [];
}

abbrev pub brought : Progress → Line
brought progress = record { number = 1; sender = None; receiver = 1; message = of_alpha progress; fate = Sent }

-- two RDNs are resolved so far, as Beta's context has: it is accepted
abbrev pub taken_journal : Journal
taken_journal = accepted_journal (brought (Next 2) ∷ []) 1

pub taken_here : IsHandled at_first 1 (of_alpha (Next 2)) taken_journal (Answered Changed)
taken_here =
    answers (Answered Changed) refl
    (updates _ _ (record { unlooped = refl; short = refl; fresh = refl; unrefused = refl; fit = refl }) refl refl
    (does _ refl refl))

-- eight are, as no context of Beta's has: nothing is accepted
abbrev pub too_far : Reply
too_far = Failed (ServiceProblem invalid_reference (Some (asked_by (hand_of (brought (Next 9))))) None)

pub refused_there : IsHandled at_first 1 (of_alpha (Next 9)) (journal (brought (Next 9) ∷ [])) too_far
refused_there =
    answers too_far refl
    (stuck (record { unlooped = refl; short = refl; fresh = refl; unrefused = refl; fit = refl }) refl)

-- what is printed of both
abbrev pub refused_text : Text
refused_text = concat
    (codes "knowledge consistent\n"
    ∷ codes "#1\n"
    ∷ codes "raw Beta dsp 140 sent\n"
    ∷ codes "error service invalidReference subordinate /C=NL/O=Acme next=9 Beta\n"
    ∷ [])

abbrev pub taken_text : Text
taken_text = concat
    (codes "knowledge consistent\n"
    ∷ codes "#1\n"
    ∷ codes "raw Beta dsp 140 sent\n"
    ∷ codes "accepted Beta\n"
    ∷ codes "changed\n"
    ∷ [])

pub refused_printed : PrintsRun IsHandled base_world moment (Hands Dsp 1 140 (Ok (of_alpha (Next 9))) ∷ []) refused_text
unfolding digits
refused_printed = record {
  blocks = Handed Dsp 140 (journal (brought (Next 9) ∷ [])) too_far ∷ [];
  past = _;
  runs = next _ _ begin (refl, refl, refused_there);
  octets_are = refl;
}

pub taken_printed : PrintsRun IsHandled base_world moment (Hands Dsp 1 140 (Ok (of_alpha (Next 2))) ∷ []) taken_text
unfolding digits
taken_printed = record {
  blocks = Handed Dsp 140 taken_journal (Answered Changed) ∷ [];
  past = _;
  runs = next _ _ begin (refl, refl, taken_here);
  octets_are = refl;
}
