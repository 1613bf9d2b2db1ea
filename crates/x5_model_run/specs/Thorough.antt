-- No message that is needed is left out (X.518, section 20: continuation references are followed).
use Rattle.std.specs.Prelude.{ℕ, Bool, true, not, ◌&&◌, ◌||◌, nat_le, if◌then◌else◌, IsTrue, List, [], length}
use Rattle.std.specs.List.{list_all}
use Rattle.std.specs.declared.option.Option.{Option}
use Rattle.std.specs.declared.option.Option.TheVariants.{Some}
use Rattle.x5_model.specs.Words.{has, in_option, first_of}
use Rattle.x5_model.specs.References.{Reference, Chained}
use Rattle.x5_model_run.specs.Network.{arrives, is_sent, refuses}
use Rattle.x5_model_run.specs.Journal.{Line, Journal, same_sender, same_item, item_of, some_line, opened_by}
use Rattle.x5_model_run.specs.Needs.{needs}
use Rattle.x5_model_run.specs.Chain.{Scene, is_user, is_probe, asks_by}
use Rattle.x5_model_run.specs.Accepting.{is_done_before}

-- the agent passes the message by: it had it before, or 128 agents had (X.518, section 17: loop detection)
abbrev pub is_stopped : ℕ → Chained → Bool
is_stopped o m = has same_item m.trace (item_of o m) || nat_le 128 (length m.trace)

abbrev pub taken_needs : Scene → Line → List Reference
taken_needs s l = if is_stopped l.receiver l.message then [] else needs (s.holdings l.receiver) l.message

-- the agent sends for this reference itself: it may chain, or the reference is a probe's
abbrev pub sends_itself : Scene → Line → Reference → Bool
sends_itself s l r =
    is_probe l.message.request.body r.target || not (refuses s.network l.receiver || l.message.request.controls.nochain)

-- else its sender has the reference, where it hears the reply; the user has it too and need not follow
abbrev pub sender_follows : Scene → Line → Bool
sender_follows s l = is_sent l.fate && (not (is_user l.sender) || s.follows)

-- there is a line for the message of this one, from this sender, to the reference's first agent
abbrev pub is_sent_by : List Line → Line → Option ℕ → Reference → Bool
is_sent_by lines l sender r =
    in_option true (λ a. some_line (λ e before. asks_by r a e
    && (same_sender e.sender sender && opened_by l.number before e)) lines) (first_of r.agents)

abbrev pub is_taken : Scene → List Line → Line → Reference → Bool
is_taken s lines l r =
    if sends_itself s l r then is_sent_by lines l (Some l.receiver) r
    else not (sender_follows s l) || is_sent_by lines l l.sender r

-- For each message that arrived each reference that its receiver needs is taken; but an agent that has accepted the
-- update answers `changed` at once when it comes again.
abbrev pub is_served : Scene → Journal → Line → Bool
is_served s j l =
    not (arrives l.fate) || (is_done_before s j l || list_all (is_taken s j.lines l) (taken_needs s l))

abbrev pub is_thorough : Scene → Journal → Bool
is_thorough s j = list_all (is_served s j) j.lines

abbrev pub Thorough : Scene → Journal → Type 0
Thorough s j = IsTrue (is_thorough s j)
