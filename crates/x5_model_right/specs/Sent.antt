-- The cases of one message, and of what its sender makes of the reply: what is claimed of each, from what is claimed of
-- what it does (X.518, section 20).
use Rattle.std.specs.Prelude.{◌≡◌, ℕ, true, false}
use Rattle.std.specs.declared.option.Option.{Option}
use Rattle.x5_model.specs.References.{Reference}
use Rattle.x5_model_run.specs.Journal.{Journal}
use Rattle.x5_model_run.specs.History.{Point}
use Rattle.x5_model_run.specs.Chain.{Scene}
use Rattle.x5_model_right.specs.Kept.{Ground}
use Rattle.x5_model.specs.Answers.{Answer, Reply, Answered, Referred}
use Rattle.x5_model_run.specs.Network.{Lost, NoReply, Sent}
use Rattle.x5_model_run.specs.Journal.{is_wide}
use Rattle.x5_model_serve.specs.Answering.{only_unexplored, to_follow, passed_by, in_vain, is_unavailable}
use Rattle.x5_model_serve.specs.Serving.{Hand, hand, Heard, Unheard, Hears, Gathered, Serves, Follows, Takes, Casts}
use Rattle.x5_model_serve.specs.Serving.{Gathers, Does, carried_for, next_line, with_line, is_spent, is_final, is_held_back, held_back}
use Rattle.x5_model_serve.specs.Serving.{gathered_reply, limit_reply, heard_or}
use Rattle.x5_model_right.specs.Claim.{ServesRight, FollowsRight, SendsRight, TakesRight, CastsRight, GathersRight}

-- a user holds his own message back
abbrev pub HoldsBack : Type 0
HoldsBack =
    (p : Point) (s : Scene) (most : ℕ) (from : Option ℕ) (o : Hand) (r : Reference) (j : Journal) (a : ℕ)
    → Ground p s → is_held_back from (hand a (carried_for from o r)) ≡ true
    → SendsRight p s most from o r a (Hears (held_back (hand a (carried_for from o r)))) j j

-- no message is left
abbrev pub Spent : Type 0
Spent =
    (p : Point) (s : Scene) (most : ℕ) (from : Option ℕ) (o : Hand) (r : Reference) (j : Journal) (a : ℕ)
    → Ground p s → is_spent most j ≡ true → SendsRight p s most from o r a (Hears limit_reply) j j

-- the message is lost
abbrev pub IsLost : Type 0
IsLost =
    (p : Point) (s : Scene) (most : ℕ) (from : Option ℕ) (o : Hand) (r : Reference) (j : Journal) (a : ℕ)
    → Ground p s → is_spent most j ≡ false → (next_line s j from o r a).fate ≡ Lost
    → SendsRight p s most from o r a Unheard j (with_line (next_line s j from o r a) j)

-- it is served, and the reply is lost
abbrev pub Dropped : Type 0
Dropped =
    (p : Point) (s : Scene) (most : ℕ) (from : Option ℕ) (o : Hand) (r : Reference) (i j : Journal) (a : ℕ)
    (reply : Reply)
    → Ground p s → is_spent most i ≡ false → (next_line s i from o r a).fate ≡ NoReply
    → Does s most (Serves (hand a (carried_for from o r)) reply) (with_line (next_line s i from o r a) i) j
    → ServesRight p s most (hand a (carried_for from o r)) reply (with_line (next_line s i from o r a) i) j
    → SendsRight p s most from o r a Unheard i j

-- the reply is heard, and what it leaves is followed
abbrev pub IsHeard : Type 0
IsHeard =
    (p : Point) (s : Scene) (most : ℕ) (from : Option ℕ) (o : Hand) (r : Reference) (i j l : Journal) (a : ℕ)
    (reply last : Reply)
    → Ground p s → is_spent most i ≡ false → (next_line s i from o r a).fate ≡ Sent
    → Does s most (Serves (hand a (carried_for from o r)) reply) (with_line (next_line s i from o r a) i) j
    → ServesRight p s most (hand a (carried_for from o r)) reply (with_line (next_line s i from o r a) i) j
    → Does s most (Follows from (hand a (carried_for from o r)) reply last) j l
    → FollowsRight p s most from (hand a (carried_for from o r)) reply last j l
    → SendsRight p s most from o r a (Hears last) i l

-- nothing is left to be followed
abbrev pub IsFinal : Type 0
IsFinal =
    (p : Point) (s : Scene) (most : ℕ) (from : Option ℕ) (k : Hand) (j : Journal) (reply : Reply)
    → Ground p s → is_final reply ≡ true → FollowsRight p s most from k reply reply j j

-- a referral is followed
abbrev pub Referral : Type 0
Referral =
    (p : Point) (s : Scene) (most : ℕ) (from : Option ℕ) (k : Hand) (i j : Journal) (r : Reference) (h : Heard)
    → Ground p s → is_wide r.kind ≡ false
    → Does s most (Takes from k r h) i j → TakesRight p s most from k r h i j
    → FollowsRight p s most from k (Referred r) (heard_or (is_unavailable (in_vain r)) h) i j

-- so is one to the agents of an NSSR
abbrev pub WideReferral : Type 0
WideReferral =
    (p : Point) (s : Scene) (most : ℕ) (from : Option ℕ) (k : Hand) (i j : Journal) (r : Reference)
    (reply : Reply)
    → Ground p s → is_wide r.kind ≡ true
    → Does s most (Casts from k r reply) i j → CastsRight p s most from k r reply i j
    → FollowsRight p s most from k (Referred r) reply i j

-- unexplored references that nobody tried are asked
abbrev pub Unexplored : Type 0
Unexplored =
    (p : Point) (s : Scene) (most : ℕ) (from : Option ℕ) (k : Hand) (i j : Journal) (a : Answer)
    (whole : Gathered)
    → Ground p s → is_final (Answered a) ≡ false
    → Does s most (Gathers from k (to_follow a) (only_unexplored (passed_by a) a) whole) i j
    → GathersRight p s most from k (to_follow a) (only_unexplored (passed_by a) a) whole i j
    → FollowsRight p s most from k (Answered a) (gathered_reply k whole) i j

pub record SendingCases : Type 0 where
  pub holds_back : HoldsBack
  pub spent : Spent
  pub is_lost : IsLost
  pub dropped : Dropped
  pub is_heard : IsHeard
  pub is_final : IsFinal
  pub referral : Referral
  pub wide_referral : WideReferral
  pub unexplored : Unexplored
