-- What worked examples print, whole: each request is served as agents do it, step by step, and each octet of the output
-- is that of the script's blocks, in order. That such a script is a run whose answers are right, where knowledge is
-- consistent, is a theorem of x5_model_settled.
use Rattle.std.specs.Prelude.{ℕ, true, false, List, [], ◌∷◌, ◌++◌}
use Rattle.std.specs.List.{concat}
use Rattle.std.specs.declared.option.Option.TheVariants.{None, Some}
use Rattle.std.specs.Fmt.{decimal, digits}
use Rattle.std.proofs.Common.{refl}
use lib.Chars.{codes}
use Rattle.x5_model.specs.Values.{Text, OidValue, TextValue}
use Rattle.x5_model.specs.References.{Start, Next, Own, NonSpecific}
use Rattle.x5_model.specs.Answers.{Answer, EntryFound, Found, Changed, NoSuchObject, UpdateProblem, ServiceProblem}
use Rattle.x5_model.specs.Answers.{Reply, Answered, Failed, Referred}
use Rattle.x5_model.specs.Problems.{unavailable, entry_already_exists}
use Rattle.x5_model_run.specs.Network.{Down, Cut, Refuse, Lost, NoReply, Sent}
use Rattle.x5_model_run.specs.History.{Point, Loses}
use Rattle.x5_model_run.specs.Run.{Command, Asks, Changes, Drops, Updates, Set, Replies, Refreshing, begin, next}
use Rattle.x5_model_output.specs.Output.{PrintsRun}
use Rattle.x5_model_serve.specs.Serving.{answers, reads}
use Rattle.x5_model_rows.proofs.BaseWorld.{base_world, nl, acme}
use Rattle.x5_model_rows.proofs.Messages.{takes, asks, journal, accepted_journal, did, point, bare, info, shows, now}
use Rattle.x5_model_rows.proofs.Messages.{in_vain, left_out}
use Rattle.x5_model_rows.proofs.Resolution.{at_first, read_acme, acme_journal, read_jan, jan_journal, read_absent}
use Rattle.x5_model_rows.proofs.Resolution.{absent_journal, read_lab, lab_at_alpha, lab_journal, read_shop}
use Rattle.x5_model_rows.proofs.Resolution.{shop_journal, name_lab, followed_journal, to_beta, compare_country}
use Rattle.x5_model_rows.proofs.Searching.{from_root, root_journal, from_nl, nl_journal, unchained, acme_reference}
use Rattle.x5_model_rows.proofs.Searching.{shop_known, below_acme, less_journal, gamma_consumes, twice_journal}
use Rattle.x5_model_rows.proofs.Searching.{list_acme, list_journal, smit_below, smit_journal}
use Rattle.x5_model_rows.proofs.Probing.{new_lab, add_lab, add_journal, again_journal}
use Rattle.x5_model_rows.proofs.Shadowing as shadowing
use Rattle.x5_model_rows.proofs.Shadowing.{put_gears, add_new, new_journal, below_journal, read_new, unknown_journal}
use Rattle.x5_model_rows.proofs.Shadowing.{read_master}
use Rattle.x5_model_rows.proofs.Losing.{read_description as read_gears}
use Rattle.x5_model_rows.proofs.Running.{the_pull, the_script, the_blocks}
use Rattle.x5_model_rows.proofs.Serving as serving
use Rattle.x5_model_rows.proofs.Serving.{at_nl, nl_served}
use Rattle.x5_model_rows.proofs.Stepping as stepping
use Rattle.x5_model_rows.proofs.Stepping.{IsHandled, IsServed, jan_reply, jan_served, absent_served, of_all}
use Rattle.x5_model_rows.proofs.Stepping.{root_served, lab_reply, shop_reply, shop_served, name_reply, followed_served}
use Rattle.x5_model_rows.proofs.Stepping.{referred_served, unchained_served, again_served, gears_served, acme_unserved}
use Rattle.x5_model_rows.proofs.Parting as parting
use Rattle.x5_model_rows.proofs.Parting.{less_answer, less_served, twice_served, all_names, list_served}
use Rattle.x5_model_rows.proofs.Parting.{country_refused, jan_of_all, smit_served, gears_taken, copy_served, new_reply}
use Rattle.x5_model_rows.proofs.Parting.{master_served, new_served, found_by_copy, below_served, unknown_reply}
use Rattle.x5_model_rows.proofs.Parting.{unknown_served, unmastered, master_unserved}

-- a moment is a second after the start
abbrev pub moment : ℕ → Text
moment m = codes "1993010100000" ++ decimal m ++ codes "Z"

-- answers that the steps don't name
abbrev pub acme_reply : Reply
acme_reply =
    Answered (EntryFound
    (info acme (shows 0 (OidValue (2 ∷ 5 ∷ 6 ∷ 4 ∷ []) ∷ [])
    ∷ shows 10 (TextValue (codes "Acme") ∷ []) ∷ shows 13 (TextValue (codes "tools") ∷ []) ∷ [])) (now acme 1))

pub acme_served : IsServed at_first 1 read_acme acme_journal acme_reply
acme_served =
    answers acme_reply refl
    (reads _ (record { unlooped = refl; short = refl; fresh = refl; unrefused = refl; fit = refl }) refl refl refl)

abbrev pub nl_alone : Answer
nl_alone = Found (bare nl ∷ []) (now nl 0 ∷ []) (left_out (acme_reference ∷ []))

abbrev pub lab_unknown : Reply
lab_unknown = Failed (ServiceProblem unavailable (Some (in_vain NonSpecific new_lab (Next 3) (2 ∷ []))) None)

abbrev pub acme_unheard : Reply
acme_unheard = Failed (ServiceProblem unavailable (Some (in_vain Own acme Start (1 ∷ []))) None)

abbrev pub after_loss : Point
after_loss = point base_world (did (takes 1 put_gears) 1 ∷ did (Loses true 1) 0 ∷ [])

pub gears_read : IsServed after_loss 1 read_gears (journal (asks 2 1 read_gears Sent ∷ [])) new_reply
gears_read =
    answers new_reply refl
    (reads _ (record { unlooped = refl; short = refl; fresh = refl; unrefused = refl; fit = refl }) refl refl refl)

-- an empty script
pub nothing_printed : PrintsRun IsHandled base_world moment [] (codes "knowledge consistent\n")
unfolding digits
nothing_printed = record { blocks = []; past = []; runs = begin; octets_are = refl }

-- an entry at its master
abbrev pub acme_text : Text
acme_text = concat
    (codes "knowledge consistent\n"
    ∷ codes "#1\n"
    ∷ codes "msg user Beta read start t=0 /C=NL/O=Acme sent\n"
    ∷ codes "entry /C=NL/O=Acme\n"
    ∷ codes "attr objectClass=2.5.6.4\n"
    ∷ codes "attr O=Acme\n"
    ∷ codes "attr description=tools\n"
    ∷ codes "source /C=NL/O=Acme Beta now\n"
    ∷ [])

pub acme_printed : PrintsRun IsHandled base_world moment (Asks 1 read_acme ∷ []) acme_text
unfolding digits
acme_printed = record {
  blocks = Replies acme_journal acme_reply ∷ [];
  past = _;
  runs = next _ _ begin acme_served;
  octets_are = refl;
}

-- by the superior reference, then by an NSSR
abbrev pub jan_text : Text
jan_text = concat
    (codes "knowledge consistent\n"
    ∷ codes "#1\n"
    ∷ codes "msg user Delta read start t=0 /C=NL/O=Acme/OU=Lab/CN=Jan sent\n"
    ∷ codes "msg Delta Beta read start t=1 /C=NL/O=Acme/OU=Lab/CN=Jan sent\n"
    ∷ codes "msg Beta Gamma read next=3 t=2 /C=NL/O=Acme/OU=Lab/CN=Jan sent\n"
    ∷ codes "entry /C=NL/O=Acme/OU=Lab/CN=Jan\n"
    ∷ codes "attr SN=Smit\n"
    ∷ codes "source /C=NL/O=Acme/OU=Lab Gamma now\n"
    ∷ [])

pub jan_printed : PrintsRun IsHandled base_world moment (Asks 3 read_jan ∷ []) jan_text
unfolding digits
jan_printed = record {
  blocks = Replies jan_journal jan_reply ∷ [];
  past = _;
  runs = next _ _ begin jan_served;
  octets_are = refl;
}

-- an absent name
abbrev pub absent_text : Text
absent_text = concat
    (codes "knowledge consistent\n"
    ∷ codes "#1\n"
    ∷ codes "msg user Beta read start t=0 /C=NL/O=Acme/OU=None sent\n"
    ∷ codes "msg Beta Gamma read next=3 t=1 /C=NL/O=Acme/OU=None sent\n"
    ∷ codes "msg Beta Delta read next=3 t=1 /C=NL/O=Acme/OU=None sent\n"
    ∷ codes "error name noSuchObject /C=NL/O=Acme\n"
    ∷ [])

pub absent_printed : PrintsRun IsHandled base_world moment (Asks 1 read_absent ∷ []) absent_text
unfolding digits
absent_printed = record {
  blocks = Replies absent_journal (Failed (NoSuchObject acme)) ∷ [];
  past = _;
  runs = next _ _ begin absent_served;
  octets_are = refl;
}

-- a search from the root
abbrev pub root_text : Text
root_text = concat
    (codes "knowledge consistent\n"
    ∷ codes "#1\n"
    ∷ codes "msg user Gamma search start t=0 / sent\n"
    ∷ codes "msg Gamma Beta search start t=1 / sent\n"
    ∷ codes "msg Beta Alpha search start t=2 / sent\n"
    ∷ codes "msg Alpha Beta search done t=3 /C=NL/O=Acme sent\n"
    ∷ codes "msg Beta Gamma search done t=4 /C=NL/O=Acme sent\n"
    ∷ codes "msg Beta Delta search done t=4 /C=NL/O=Acme sent\n"
    ∷ codes "found 7\n"
    ∷ codes "entry /C=NL\n"
    ∷ codes "entry /C=NL/O=Acme\n"
    ∷ codes "entry /C=NL/O=Acme/CN=Desk\n"
    ∷ codes "entry /C=NL/O=Acme/OU=Lab\n"
    ∷ codes "entry /C=NL/O=Acme/OU=Lab/CN=Jan\n"
    ∷ codes "entry /C=NL/O=Acme/OU=Shop\n"
    ∷ codes "entry /C=NL/O=Acme/OU=Shop/CN=Ada\n"
    ∷ codes "source /C=NL Alpha now\n"
    ∷ codes "source /C=NL/O=Acme Beta now\n"
    ∷ codes "source /C=NL/O=Acme/OU=Lab Gamma now\n"
    ∷ codes "source /C=NL/O=Acme/OU=Shop Delta now\n"
    ∷ [])

pub root_printed : PrintsRun IsHandled base_world moment (Asks 2 from_root ∷ []) root_text
unfolding digits
root_printed = record {
  blocks = Replies root_journal (Answered of_all) ∷ [];
  past = _;
  runs = next _ _ begin root_served;
  octets_are = refl;
}

-- a search with Gamma down
abbrev pub nl_text : Text
nl_text = concat
    (codes "knowledge consistent\n"
    ∷ codes "#1\n"
    ∷ codes "set\n"
    ∷ codes "#2\n"
    ∷ codes "msg user Alpha search start t=0 /C=NL sent\n"
    ∷ codes "msg Alpha Beta search done t=1 /C=NL/O=Acme sent\n"
    ∷ codes "msg Beta Gamma search done t=2 /C=NL/O=Acme lost\n"
    ∷ codes "msg Beta Delta search done t=2 /C=NL/O=Acme sent\n"
    ∷ codes "found 5\n"
    ∷ codes "entry /C=NL\n"
    ∷ codes "entry /C=NL/O=Acme\n"
    ∷ codes "entry /C=NL/O=Acme/CN=Desk\n"
    ∷ codes "entry /C=NL/O=Acme/OU=Shop\n"
    ∷ codes "entry /C=NL/O=Acme/OU=Shop/CN=Ada\n"
    ∷ codes "source /C=NL Alpha now\n"
    ∷ codes "source /C=NL/O=Acme Beta now\n"
    ∷ codes "source /C=NL/O=Acme/OU=Shop Delta now\n"
    ∷ codes "unexplored nonSpecific /C=NL/O=Acme done Gamma tried\n"
    ∷ [])

pub nl_printed : PrintsRun IsHandled base_world moment (Changes (Down 2) ∷ Asks 0 from_nl ∷ []) nl_text
unfolding digits
nl_printed = record {
  blocks = Set ∷ Replies nl_journal (Answered at_nl) ∷ [];
  past = _;
  runs = next _ _ (next (Changes (Down 2)) Set begin tt) nl_served;
  octets_are = refl;
}

-- reads of what Gamma may have, with Gamma down
abbrev pub lab_text : Text
lab_text = concat
    (codes "knowledge consistent\n"
    ∷ codes "#1\n"
    ∷ codes "set\n"
    ∷ codes "#2\n"
    ∷ codes "msg user Alpha read start t=0 /C=NL/O=Acme/OU=Lab sent\n"
    ∷ codes "msg Alpha Beta read next=2 t=1 /C=NL/O=Acme/OU=Lab sent\n"
    ∷ codes "msg Beta Gamma read next=3 t=2 /C=NL/O=Acme/OU=Lab lost\n"
    ∷ codes "msg Beta Delta read next=3 t=2 /C=NL/O=Acme/OU=Lab sent\n"
    ∷ codes "error service unavailable nonSpecific /C=NL/O=Acme/OU=Lab next=3 Gamma tried\n"
    ∷ codes "#3\n"
    ∷ codes "msg user Alpha read start t=0 /C=NL/O=Acme/OU=Shop sent\n"
    ∷ codes "msg Alpha Beta read next=2 t=1 /C=NL/O=Acme/OU=Shop sent\n"
    ∷ codes "msg Beta Gamma read next=3 t=2 /C=NL/O=Acme/OU=Shop lost\n"
    ∷ codes "msg Beta Delta read next=3 t=2 /C=NL/O=Acme/OU=Shop sent\n"
    ∷ codes "entry /C=NL/O=Acme/OU=Shop\n"
    ∷ codes "attr OU=Shop\n"
    ∷ codes "source /C=NL/O=Acme/OU=Shop Delta now\n"
    ∷ [])

pub lab_printed : PrintsRun IsHandled base_world moment
    (Changes (Down 2) ∷ Asks 0 read_lab ∷ Asks 0 read_shop ∷ []) lab_text
unfolding digits
lab_printed = record {
  blocks = Set ∷ Replies lab_journal lab_reply ∷ Replies shop_journal shop_reply ∷ [];
  past = _;
  runs = next _ _ (next _ _ (next (Changes (Down 2)) Set begin tt) stepping.lab_served) shop_served;
  octets_are = refl;
}

-- Beta refuses to chain, and its referral is followed
abbrev pub followed_text : Text
followed_text = concat
    (codes "knowledge consistent\n"
    ∷ codes "#1\n"
    ∷ codes "set\n"
    ∷ codes "#2\n"
    ∷ codes "msg user Alpha read start t=0 /C=NL/O=Acme/OU=Lab sent\n"
    ∷ codes "msg Alpha Beta read next=2 t=1 /C=NL/O=Acme/OU=Lab sent\n"
    ∷ codes "msg Alpha Gamma read next=3 t=2 /C=NL/O=Acme/OU=Lab sent\n"
    ∷ codes "entry /C=NL/O=Acme/OU=Lab\n"
    ∷ codes "attr OU=Lab\n"
    ∷ codes "source /C=NL/O=Acme/OU=Lab Gamma now\n"
    ∷ [])

pub followed_printed : PrintsRun IsHandled base_world moment (Changes (Refuse 1) ∷ Asks 0 name_lab ∷ []) followed_text
unfolding digits
followed_printed = record {
  blocks = Set ∷ Replies followed_journal name_reply ∷ [];
  past = _;
  runs = next _ _ (next (Changes (Refuse 1)) Set begin tt) followed_served;
  octets_are = refl;
}

-- Alpha refuses, and its referral is given
abbrev pub referred_text : Text
referred_text = concat
    (codes "knowledge consistent\n"
    ∷ codes "#1\n"
    ∷ codes "set\n"
    ∷ codes "#2\n"
    ∷ codes "msg user Alpha read start t=0 /C=NL/O=Acme/OU=Lab sent\n"
    ∷ codes "referral subordinate /C=NL/O=Acme/OU=Lab next=2 Beta,Epsilon\n"
    ∷ [])

pub referred_printed : PrintsRun IsHandled base_world moment (Changes (Refuse 0) ∷ Asks 0 read_lab ∷ []) referred_text
unfolding digits
referred_printed = record {
  blocks = Set ∷ Replies (journal (lab_at_alpha ∷ [])) (Referred to_beta) ∷ [];
  past = _;
  runs = next _ _ (next (Changes (Refuse 0)) Set begin tt) referred_served;
  octets_are = refl;
}

-- chaining is prohibited
abbrev pub unchained_text : Text
unchained_text = concat
    (codes "knowledge consistent\n"
    ∷ codes "#1\n"
    ∷ codes "msg user Alpha search start t=0 /C=NL sent\n"
    ∷ codes "found 1\n"
    ∷ codes "entry /C=NL\n"
    ∷ codes "source /C=NL Alpha now\n"
    ∷ codes "unexplored subordinate /C=NL/O=Acme done Beta,Epsilon\n"
    ∷ [])

pub unchained_printed : PrintsRun IsHandled base_world moment (Asks 0 unchained ∷ []) unchained_text
unfolding digits
unchained_printed = record {
  blocks = Replies (journal (asks 1 0 unchained Sent ∷ [])) (Answered nl_alone) ∷ [];
  past = _;
  runs = next _ _ begin unchained_served;
  octets_are = refl;
}

-- an addEntry whose new name Gamma has, then with Gamma down
abbrev pub added_text : Text
added_text = concat
    (codes "knowledge consistent\n"
    ∷ codes "#1\n"
    ∷ codes "msg user Beta add start t=0 /C=NL/O=Acme sent\n"
    ∷ codes "msg Beta Gamma read next=3 t=1 /C=NL/O=Acme/OU=lab sent\n"
    ∷ codes "error update entryAlreadyExists\n"
    ∷ codes "#2\n"
    ∷ codes "set\n"
    ∷ codes "#3\n"
    ∷ codes "msg user Beta add start t=0 /C=NL/O=Acme sent\n"
    ∷ codes "msg Beta Gamma read next=3 t=1 /C=NL/O=Acme/OU=lab lost\n"
    ∷ codes "msg Beta Delta read next=3 t=1 /C=NL/O=Acme/OU=lab sent\n"
    ∷ codes "error service unavailable nonSpecific /C=NL/O=Acme/OU=lab next=3 Gamma tried\n"
    ∷ [])

pub added_printed : PrintsRun IsHandled base_world moment
    (Asks 1 add_lab ∷ Changes (Down 2) ∷ Asks 1 add_lab ∷ []) added_text
unfolding digits
added_printed = record {
  blocks =
      Replies add_journal (Failed (UpdateProblem entry_already_exists)) ∷ Set ∷ Replies again_journal lab_unknown ∷ [];
  past = _;
  runs = next _ _ (next (Changes (Down 2)) Set (next _ _ begin serving.lab_served) tt) again_served;
  octets_are = refl;
}

-- an update whose reply is lost, and is there
abbrev pub gears_text : Text
gears_text = concat
    (codes "knowledge consistent\n"
    ∷ codes "#1\n"
    ∷ codes "set\n"
    ∷ codes "#2\n"
    ∷ codes "msg user Beta modify start t=0 /C=NL/O=Acme noreply\n"
    ∷ codes "accepted Beta\n"
    ∷ codes "error service unavailable self /C=NL/O=Acme start Beta tried\n"
    ∷ codes "#3\n"
    ∷ codes "msg user Beta read start t=0 /C=NL/O=Acme sent\n"
    ∷ codes "entry /C=NL/O=Acme\n"
    ∷ codes "attr description=gears\n"
    ∷ codes "attr description=tools\n"
    ∷ codes "source /C=NL/O=Acme Beta now\n"
    ∷ [])

pub gears_printed : PrintsRun IsHandled base_world moment
    (Drops true 1 ∷ Asks 1 put_gears ∷ Asks 1 read_gears ∷ []) gears_text
unfolding digits
gears_printed = record {
  blocks =
      Set ∷ Replies (accepted_journal (asks 1 1 put_gears NoReply ∷ []) 1) acme_unheard
      ∷ Replies (journal (asks 2 1 read_gears Sent ∷ [])) new_reply ∷ [];
  past = _;
  runs = next _ _ (next _ _ (next (Drops true 1) Set begin tt) gears_served) gears_read;
  octets_are = refl;
}

-- exclusions beside a subordinate reference, with Gamma down
abbrev pub less_text : Text
less_text = concat
    (codes "knowledge consistent\n"
    ∷ codes "#1\n"
    ∷ codes "set\n"
    ∷ codes "#2\n"
    ∷ codes "msg user Beta search start t=0 /C=NL/O=Acme sent\n"
    ∷ codes "msg Beta Gamma search done t=1 /C=NL/O=Acme lost\n"
    ∷ codes "msg Beta Delta search done t=1 /C=NL/O=Acme sent\n"
    ∷ codes "msg Beta Delta search done t=1 /C=NL/O=Acme/OU=Shop sent\n"
    ∷ codes "found 2\n"
    ∷ codes "entry /C=NL/O=Acme/CN=Desk\n"
    ∷ codes "entry /C=NL/O=Acme/OU=Shop\n"
    ∷ codes "source /C=NL/O=Acme Beta now\n"
    ∷ codes "source /C=NL/O=Acme/OU=Shop Delta now\n"
    ∷ codes "unexplored nonSpecific /C=NL/O=Acme done Gamma less OU=Shop tried\n"
    ∷ [])

pub less_printed : PrintsRun IsHandled shop_known moment (Changes (Down 2) ∷ Asks 1 below_acme ∷ []) less_text
unfolding digits
less_printed = record {
  blocks = Set ∷ Replies less_journal (Answered less_answer) ∷ [];
  past = _;
  runs = next _ _ (next (Changes (Down 2)) Set begin tt) less_served;
  octets_are = refl;
}

-- a pull and a change at the master: the copy as of the pull, and the master
abbrev pub pull_text : Text
pull_text = concat
    (codes "knowledge consistent\n"
    ∷ codes "#1\n"
    ∷ codes "dis Epsilon Beta requestShadowUpdate 1 sent\n"
    ∷ codes "dis Beta Epsilon updateShadow 1 sent\n"
    ∷ codes "refreshed 1 total 19930101000001Z 2\n"
    ∷ codes "#2\n"
    ∷ codes "msg user Beta modify start t=0 /C=NL/O=Acme sent\n"
    ∷ codes "accepted Beta\n"
    ∷ codes "changed\n"
    ∷ codes "#3\n"
    ∷ codes "msg user Epsilon read start t=0 /C=NL/O=Acme sent\n"
    ∷ codes "entry /C=NL/O=Acme copy\n"
    ∷ codes "attr description=tools\n"
    ∷ codes "source /C=NL/O=Acme Epsilon 19930101000001Z\n"
    ∷ codes "#4\n"
    ∷ codes "msg user Epsilon read start t=0 /C=NL/O=Acme sent\n"
    ∷ codes "msg Epsilon Beta read next=2 t=1 /C=NL/O=Acme sent\n"
    ∷ codes "entry /C=NL/O=Acme\n"
    ∷ codes "attr description=gears\n"
    ∷ codes "attr description=tools\n"
    ∷ codes "source /C=NL/O=Acme Beta now\n"
    ∷ [])

pub pull_printed : PrintsRun IsHandled base_world moment the_script pull_text
unfolding digits
pull_printed = record {
  blocks = the_blocks;
  past = _;
  runs =
      next _ _
      (next _ _
      (next _ _ (next (Updates 1 false true) (Refreshing the_pull) begin refl) gears_taken) copy_served) master_served;
  octets_are = refl;
}

-- a pull and an entry more; then the master goes down
abbrev pub copy_script : List Command
copy_script =
    Updates 1 false true ∷ Asks 1 add_new ∷ Changes (Down 1) ∷ Asks 0 shadowing.below_acme ∷ Asks 0 read_new
    ∷ Asks 0 read_master ∷ []

abbrev pub copied_text : Text
copied_text = concat
    (codes "knowledge consistent\n"
    ∷ codes "#1\n"
    ∷ codes "dis Epsilon Beta requestShadowUpdate 1 sent\n"
    ∷ codes "dis Beta Epsilon updateShadow 1 sent\n"
    ∷ codes "refreshed 1 total 19930101000001Z 2\n"
    ∷ codes "#2\n"
    ∷ codes "msg user Beta add start t=0 /C=NL/O=Acme sent\n"
    ∷ codes "msg Beta Gamma read next=3 t=1 /C=NL/O=Acme/CN=New sent\n"
    ∷ codes "msg Beta Delta read next=3 t=1 /C=NL/O=Acme/CN=New sent\n"
    ∷ codes "accepted Beta\n"
    ∷ codes "changed\n"
    ∷ codes "#3\n"
    ∷ codes "set\n"
    ∷ codes "#4\n"
    ∷ codes "msg user Alpha search start t=0 /C=NL/O=Acme sent\n"
    ∷ codes "msg Alpha Beta search next=2 t=1 /C=NL/O=Acme lost\n"
    ∷ codes "msg Alpha Epsilon search next=2 t=1 /C=NL/O=Acme sent\n"
    ∷ codes "msg Epsilon Gamma search done t=2 /C=NL/O=Acme sent\n"
    ∷ codes "msg Epsilon Delta search done t=2 /C=NL/O=Acme sent\n"
    ∷ codes "found 3\n"
    ∷ codes "entry /C=NL/O=Acme/CN=Desk copy\n"
    ∷ codes "entry /C=NL/O=Acme/OU=Lab\n"
    ∷ codes "entry /C=NL/O=Acme/OU=Shop\n"
    ∷ codes "source /C=NL/O=Acme Epsilon 19930101000001Z\n"
    ∷ codes "source /C=NL/O=Acme/OU=Lab Gamma now\n"
    ∷ codes "source /C=NL/O=Acme/OU=Shop Delta now\n"
    ∷ codes "#5\n"
    ∷ codes "msg user Alpha read start t=0 /C=NL/O=Acme/CN=New sent\n"
    ∷ codes "msg Alpha Beta read next=2 t=1 /C=NL/O=Acme/CN=New lost\n"
    ∷ codes "msg Alpha Epsilon read next=2 t=1 /C=NL/O=Acme/CN=New sent\n"
    ∷ codes "msg Epsilon Beta read next=2 t=2 /C=NL/O=Acme/CN=New lost\n"
    ∷ codes "error service unavailable supplier /C=NL/O=Acme/CN=New next=2 Beta tried\n"
    ∷ codes "#6\n"
    ∷ codes "msg user Alpha read start t=0 /C=NL/O=Acme sent\n"
    ∷ codes "msg Alpha Beta read next=2 t=1 /C=NL/O=Acme lost\n"
    ∷ codes "error service unavailable subordinate /C=NL/O=Acme next=2 Beta tried\n"
    ∷ [])

pub copied_printed : PrintsRun IsHandled base_world moment copy_script copied_text
unfolding digits
copied_printed = record {
  blocks =
      Refreshing the_pull ∷ Replies new_journal (Answered Changed) ∷ Set
      ∷ Replies below_journal (Answered found_by_copy) ∷ Replies unknown_journal unknown_reply
      ∷ Replies shadowing.acme_journal unmastered ∷ [];
  past = _;
  runs =
      next _ _
      (next _ _
      (next _ _
      (next (Changes (Down 1)) Set (next _ _ (next (Updates 1 false true) (Refreshing the_pull) begin refl) new_served)
      tt) below_served) unknown_served) master_unserved;
  octets_are = refl;
}

-- a list, and a comparison that is refused
abbrev pub listed_text : Text
listed_text = concat
    (codes "knowledge consistent\n"
    ∷ codes "#1\n"
    ∷ codes "msg user Beta list start t=0 /C=NL/O=Acme sent\n"
    ∷ codes "msg Beta Gamma list done t=1 /C=NL/O=Acme sent\n"
    ∷ codes "msg Beta Delta list done t=1 /C=NL/O=Acme sent\n"
    ∷ codes "listed 3\n"
    ∷ codes "sub CN=Desk\n"
    ∷ codes "sub OU=Lab\n"
    ∷ codes "sub OU=Shop\n"
    ∷ codes "source /C=NL/O=Acme Beta now\n"
    ∷ codes "source /C=NL/O=Acme/OU=Lab Gamma now\n"
    ∷ codes "source /C=NL/O=Acme/OU=Shop Delta now\n"
    ∷ codes "#2\n"
    ∷ codes "msg user Alpha compare start t=0 /C=NL sent\n"
    ∷ codes "error attribute invalidAttributeSyntax C\n"
    ∷ [])

pub listed_printed : PrintsRun IsHandled base_world moment (Asks 1 list_acme ∷ Asks 0 compare_country ∷ []) listed_text
unfolding digits
listed_printed = record {
  blocks =
      Replies list_journal (Answered all_names)
      ∷ Replies (journal (asks 4 0 compare_country Sent ∷ [])) country_refused ∷ [];
  past = _;
  runs = next _ _ (next _ _ begin list_served) parting.country_served;
  octets_are = refl;
}

-- a search by a filter, asked of an agent with a copy that isn't pull_printed
abbrev pub smit_text : Text
smit_text = concat
    (codes "knowledge consistent\n"
    ∷ codes "#1\n"
    ∷ codes "msg user Epsilon search start t=0 / sent\n"
    ∷ codes "msg Epsilon Alpha search start t=1 / sent\n"
    ∷ codes "msg Alpha Beta search done t=2 /C=NL/O=Acme sent\n"
    ∷ codes "msg Beta Gamma search done t=3 /C=NL/O=Acme sent\n"
    ∷ codes "msg Beta Delta search done t=3 /C=NL/O=Acme sent\n"
    ∷ codes "found 1\n"
    ∷ codes "entry /C=NL/O=Acme/OU=Lab/CN=Jan\n"
    ∷ codes "attr CN=Jan\n"
    ∷ codes "attr SN=Smit\n"
    ∷ codes "source /C=NL Alpha now\n"
    ∷ codes "source /C=NL/O=Acme Beta now\n"
    ∷ codes "source /C=NL/O=Acme/OU=Lab Gamma now\n"
    ∷ codes "source /C=NL/O=Acme/OU=Shop Delta now\n"
    ∷ [])

pub smit_printed : PrintsRun IsHandled base_world moment (Asks 4 (smit_below []) ∷ []) smit_text
unfolding digits
smit_printed = record {
  blocks = Replies smit_journal (Answered jan_of_all) ∷ [];
  past = _;
  runs = next _ _ begin smit_served;
  octets_are = refl;
}

-- the agent that the user asks is down
abbrev pub down_text : Text
down_text = concat
    (codes "knowledge consistent\n"
    ∷ codes "#1\n"
    ∷ codes "set\n"
    ∷ codes "#2\n"
    ∷ codes "msg user Beta read start t=0 /C=NL/O=Acme lost\n"
    ∷ codes "error service unavailable self /C=NL/O=Acme start Beta tried\n"
    ∷ [])

pub down_printed : PrintsRun IsHandled base_world moment (Changes (Down 1) ∷ Asks 1 read_acme ∷ []) down_text
unfolding digits
down_printed = record {
  blocks = Set ∷ Replies (journal (asks 1 1 read_acme Lost ∷ [])) acme_unheard ∷ [];
  past = _;
  runs = next _ _ (next (Changes (Down 1)) Set begin tt) acme_unserved;
  octets_are = refl;
}

-- one agent by two references, with Alpha and Beta cut off from one another
abbrev pub twice_text : Text
twice_text = concat
    (codes "knowledge consistent\n"
    ∷ codes "#1\n"
    ∷ codes "set\n"
    ∷ codes "#2\n"
    ∷ codes "msg user Alpha search start t=0 /C=NL sent\n"
    ∷ codes "msg Alpha Beta search done t=1 /C=NL/O=Acme lost\n"
    ∷ codes "msg Alpha Gamma search done t=1 /C=NL/O=Acme sent\n"
    ∷ codes "msg Gamma Beta search done t=2 /C=NL/O=Acme sent\n"
    ∷ codes "msg Beta Gamma search done t=3 /C=NL/O=Acme sent\n"
    ∷ codes "msg Beta Delta search done t=3 /C=NL/O=Acme sent\n"
    ∷ codes "found 7\n"
    ∷ codes "entry /C=NL\n"
    ∷ codes "entry /C=NL/O=Acme\n"
    ∷ codes "entry /C=NL/O=Acme/CN=Desk\n"
    ∷ codes "entry /C=NL/O=Acme/OU=Lab\n"
    ∷ codes "entry /C=NL/O=Acme/OU=Lab/CN=Jan\n"
    ∷ codes "entry /C=NL/O=Acme/OU=Shop\n"
    ∷ codes "entry /C=NL/O=Acme/OU=Shop/CN=Ada\n"
    ∷ codes "source /C=NL Alpha now\n"
    ∷ codes "source /C=NL/O=Acme Beta now\n"
    ∷ codes "source /C=NL/O=Acme/OU=Lab Gamma now\n"
    ∷ codes "source /C=NL/O=Acme/OU=Shop Delta now\n"
    ∷ [])

pub twice_printed : PrintsRun IsHandled gamma_consumes moment (Changes (Cut 0 1) ∷ Asks 0 from_nl ∷ []) twice_text
unfolding digits
twice_printed = record {
  blocks = Set ∷ Replies twice_journal (Answered of_all) ∷ [];
  past = _;
  runs = next _ _ (next (Changes (Cut 0 1)) Set begin tt) twice_served;
  octets_are = refl;
}
