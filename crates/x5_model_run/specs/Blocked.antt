-- What an unexplored reference, a referral or `unavailable` rests on: agents that this request could not hear or might
-- not ask (X.518, section 10.9: continuation references; X.511, section 12.8: service errors).
use Rattle.std.specs.Prelude.{◌≡◌, ℕ, ◌+◌, Bool, true, false, not, ◌&&◌, ◌||◌, ◌==◌, if◌then◌else◌, IsTrue, List, []}
use Rattle.std.specs.Prelude.{◌∷◌}
use Rattle.std.specs.List.{list_any, list_all, filter, Contains}
use Rattle.std.specs.Cmp.Lexicographic.{pointwise}
use Rattle.x5_model.specs.Words.{has, is_empty}
use Rattle.x5_model.specs.References.{Progress, Start, Next, Done, Reference, Own, Chained}
use Rattle.x5_model_run.specs.Network.{is_unheard, is_sent, refuses}
use Rattle.x5_model_run.specs.Journal.{Line, depth, is_wide, some_line, leads_up}
use Rattle.x5_model_run.specs.Needs.{reference, passing_needs, needs}
use Rattle.x5_model_run.specs.Chain.{Scene, is_cleared, is_in_vain}

-- A message that an agent serves, from which its answer is judged: the user's, or one that another agent sent, and the
-- number of the line that brought it. In what is said of the serving itself that line counts as having come back:
-- whether the reply arrives isn't known there. `stood` is how many `accepted` lines stood before.
pub record Asked : Type 0 where
  pub to : ℕ
  pub message : Chained
  pub number : ℕ
  pub counts : Bool
  pub stood : ℕ

abbrev pub by_user : Scene → Asked
by_user s = record { to = s.first; message = s.message; number = s.sent + 1; counts = false; stood = 0 }

-- A line came back: it is `sent`, and it brought the message, or the line that brought its owner the message came back.
-- A reply below a lost reply is heard by nobody.
abbrev pub is_answered_line : Asked → Line → Bool
is_answered_line q l = (l.number == q.number) && (q.counts || is_sent l.fate)

abbrev pub came_back : Asked → Line → List Line → Bool
came_back q l before = leads_up (is_answered_line q) (λ x. is_sent x.fate) (depth l) (l ∷ before)

-- the line that brought the message did
abbrev pub is_answered : Asked → List Line → Bool
is_answered q lines = list_any (is_answered_line q) lines

-- so did a line that passes the test; so did one to this agent
abbrev pub hears_by : (Line → Bool) → Asked → List Line → Bool
hears_by test q lines = some_line (λ l before. test l && came_back q l before) lines

abbrev pub hears : Asked → List Line → ℕ → Bool
hears q lines a = hears_by (λ l. l.receiver == a) q lines

-- it refuses to chain, or may not chain this request
abbrev pub is_idle : Scene → Asked → Bool
is_idle s q = q.message.request.controls.nochain || refuses s.network q.to

-- 1. Not tried: the agent that was asked was heard and needs just this, not for a probe, and may not chain.
pub record IsUntried (s : Scene) (q : Asked) (lines : List Line) (r : Reference) : Type 0 where
  pub idle : IsTrue (is_idle s q)
  pub heard : IsTrue (is_answered q lines)
  pub needed : Contains (passing_needs (s.holdings q.to) q.message) r

-- 2. Tried: the user's own message was not heard.
abbrev pub to_self : Scene → Reference
to_self s = record (reference s.message.target Start Own (s.first ∷ [])) { tried = true }

pub record IsUserLost (s : Scene) (q : Asked) (lines : List Line) (r : Reference) : Type 0 where
  pub own : q.counts ≡ false
  pub unheard : IsTrue (list_any (λ l. (l.number == q.number) && is_unheard l.fate) lines)
  pub same : r ≡ to_self s

-- agents of a reference, in its order; all of them, but of a nonSpecific one some
abbrev pub lists_of : Bool → List ℕ → List ℕ → Bool
lists_of wide some all =
    not (is_empty some) && pointwise ◌==◌ some (if wide then filter (has ◌==◌ some) all else all)

-- in name resolution the agents of an NSSR that aren't listed were heard and hold nothing of what is looked for
abbrev pub proceeds : Progress → Bool
proceeds Start = false
proceeds (Next k) = true
proceeds Done = false

abbrev pub others_cleared : Scene → List Line → ℕ → Reference → List ℕ → Bool
others_cleared s lines number r agents =
    not (is_wide r.kind && proceeds r.progress)
    || list_all (is_cleared s lines number r) (filter (λ a. not (has ◌==◌ r.agents a)) agents)

-- 3 and 4. Tried: the owner of a line that came back needs it, and what each agent that it lists was asked for that
-- line was asked in vain.
pub record IsTried (s : Scene) (q : Asked) (lines : List Line) (r : Reference) : Type 0 where
  pub line : Line
  pub full : Reference
  pub stands : Contains lines line
  pub back : IsTrue (hears_by (λ l. l.number == line.number) q lines)
  pub needed : Contains (needs (s.holdings line.receiver) line.message) full
  pub same : r ≡ record full { agents = r.agents; tried = true }
  pub listed : IsTrue (lists_of (is_wide full.kind) r.agents full.agents)
  pub vain : IsTrue (list_all (is_in_vain s lines line full) r.agents)
  pub cleared : IsTrue (others_cleared s lines line.number r full.agents)

-- by case 2, 3 or 4: somebody wasn't heard
pub data IsLost (s : Scene) (q : Asked) (lines : List Line) (r : Reference) : Type 0 where
  user : IsUserLost s q lines r → IsLost s q lines r
  asked : IsTried s q lines r → IsLost s q lines r

pub data Blocked (s : Scene) (q : Asked) (lines : List Line) (r : Reference) : Type 0 where
  untried : IsUntried s q lines r → Blocked s q lines r
  lost : IsLost s q lines r → Blocked s q lines r
