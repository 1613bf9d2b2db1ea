-- A right reply to a message from agent to agent, over consistent knowledge (X.518, sections 17 to 21).
use Rattle.std.specs.Prelude.{◌≡◌, Bool, false, not, ◌||◌, ◌==◌, IsTrue, List, length}
use Rattle.std.specs.declared.option.Option.TheVariants.{None, Some}
use Rattle.x5_model.specs.Words.{is_empty}
use Rattle.x5_model.specs.Answers.{ServiceProblem, Reply, Failed}
use Rattle.x5_model.specs.Problems.{unable_to_proceed, administrative_limit_exceeded}
use Rattle.x5_model_run.specs.Journal.{Line, Journal, depth, some_line}
use Rattle.x5_model_run.specs.Needs.{is_unable}
use Rattle.x5_model_run.specs.History.{Point}
use Rattle.x5_model_run.specs.Chain.{Scene, AllLicensed}
use Rattle.x5_model_run.specs.Blocked.{Asked, by_user, is_answered, hears_by}
use Rattle.x5_model_run.specs.Right.{Accepts, is_due, is_sent_later, accepts_none, heard_whole, Right}
use Rattle.x5_model_run.specs.Placed.{Placed, asked_by}

-- 128 agents had the message, or one that was sent for it, whose reply came back
abbrev pub is_long : Asked → List Line → Bool
is_long q lines = (length q.message.trace == 128) || hears_by (λ l. depth l == 128) q lines

-- A right reply to a placed message is a right answer, as if the receiver were the user's agent, with these changes:
-- too long a trace may end it (and, over a network that sends no further message, `spent`, that end), and then the
-- line that brought the message came back, and nothing new was accepted, unless a reply was lost; a receiver that is
-- unable to proceed says so, and no other does. What a message asks that came with a completed name is told where an
-- answer is defined; references keep its phase; and where the serving is spoken of, the line that brought the message
-- counts as having come back.
pub data RightReply (p : Point) (s : Scene) (q : Asked) (j : Journal) (spent : Bool) : Reply → Type 0 where
  usual : {reply : Reply} → IsTrue (not (is_unable (s.holdings q.to) q.message)) → Right p s q j reply →
      RightReply p s q j spent reply
  unable : IsTrue (is_unable (s.holdings q.to) q.message) →
      RightReply p s q j spent (Failed (ServiceProblem unable_to_proceed (Some (asked_by q)) None))
  limit : IsTrue (is_answered q j.lines) → IsTrue (spent || is_long q j.lines) →
      IsTrue (accepts_none q j || not (heard_whole j.lines)) →
      RightReply p s q j spent (Failed (ServiceProblem administrative_limit_exceeded None None))

-- A raw message that is placed: the journal begins with its line. Where too long a trace ends it, an update that is due
-- may be left; whatever ends it, nothing is sent for a later line that brings the update there again.
abbrev pub is_limit : Reply → Bool
is_limit (Failed (ServiceProblem n r i)) = n == administrative_limit_exceeded
is_limit other = false

pub record RepliesRight (p : Point) (s : Scene) (j : Journal) (reply : Reply) : Type 0 where
  pub placed : Placed p s.message s.first
  pub licensed : AllLicensed s j.lines
  pub accepts : Accepts p s j
  pub done : IsTrue (not (is_limit reply)) → is_due p s j.lines ≡ not (is_empty j.accepted)
  pub at_once : IsTrue (not (some_line (is_sent_later s j) j.lines))
  pub answer : RightReply p s (by_user s) j false reply
