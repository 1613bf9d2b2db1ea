-- A line accepts at most the update that it carries; so what the lines of a run accepted is within the limits where
-- they are. So each line finds agents that hold what is within them, and what these do with its message is.
use Rattle.std.proofs.Common.{◌≡◌, ◌+◌, ℕ, nat_lt, true, List, [], ◌∷◌, ◌++◌, length, reverse, refl, sym, ap, subst, arith, length-append, Ok, Err}
use Rattle.std.specs.Prelude.{zip}
use Rattle.x5_model.specs.Members.{here}
use Rattle.x5_model.specs.Requests.{Request}
use Rattle.x5_model.specs.References.{Chained}
use Rattle.x5_model.specs.Answers.{Reply}
use Rattle.x5_model.proofs.Lists.{in_left, in_right}
use Rattle.x5_model_tree.specs.World.{World}
use Rattle.x5_model_tree.specs.Described.{IsDescribed}
use Rattle.x5_model_run.specs.Refresh.{RefreshOutcome, Done, Unheard, Problem, Missed, NotConsistent}
use Rattle.x5_model_run.specs.History.{Acceptance, Did, Point}
use Rattle.x5_model_run.specs.Journal.{Journal}
use Rattle.x5_model_run.specs.Stage.{budget}
use Rattle.x5_model_run.specs.Chain.{opening}
use Rattle.x5_model_run.specs.Run.{Command, Blank, Asks, Changes, Drops, Updates, Hands, Block, Silent, Set, Replies, Refreshing, Handed, Rejected, Judge, IsBlock, refreshed_by, did_by, IsRun, begin, next}
use Rattle.x5_model_updates.specs.Keeping.{NoneMoved}
use Rattle.x5_model_verdicts.proofs.Stamped.{runs_are_stamped}
use Rattle.x5_model_settled.specs.Afterwards.{line_after}
use Rattle.x5_model_settled.specs.Held.{scene_held, BySteps}
use Rattle.x5_model_settled.proofs.Settled.{accepted_deed, run_none_moved}
use Rattle.x5_model_fitting.specs.Names.{Each}
use Rattle.x5_model_fitting.specs.Requests.{CountWithin, RequestWithin}
use Rattle.x5_model_limits.specs.Messages.{BoundedMessage}
use Rattle.x5_model_limits.specs.Described.{world_is_utf8, BoundedDeed, BoundedPast, BoundedMoments}
use Rattle.x5_model_limits.proofs.Lists.{each_none, each_one, each_both, each_map}
use Rattle.x5_model_limits.proofs.Carrying.{opening_bounded}
use Rattle.x5_model_limits.proofs.Doing.{requests_bounded}
use Rattle.x5_model_limits.proofs.Replying.{requests_answered}
use Rattle.x5_model_within.specs.Runs.{BoundedCommand, AcceptedBounded, BoundedExchange, BoundedBlock, RunsBounded}
use Rattle.x5_model_within.proofs.Held.{moments_bounded, held_bounded, held_name_agents}

-- ---- what lines accepted

accepts_bounded : (r : Request) (accepted : List ℕ) → RequestWithin r → BoundedDeed (accepted_deed r accepted)
accepts_bounded r [] h = tt
accepts_bounded r (a ∷ more) h =
    each_map (λ (x : Acceptance). RequestWithin x.request) (λ x. record { agent = x; request = r }) (a ∷ more)
    (λ x i. h)

refresh_bounded : (o : RefreshOutcome) → BoundedDeed (refreshed_by o)
refresh_bounded (Done f) = tt
refresh_bounded Unheard = tt
refresh_bounded (Problem n) = tt
refresh_bounded (Missed a b) = tt
refresh_bounded NotConsistent = tt

did_bounded : (n : ℕ) (command : Command) (block : Block) → BoundedCommand n command
    → BoundedDeed (did_by command block).deed
did_bounded n Blank block h = tt
did_bounded n (Changes o) block h = tt
did_bounded n (Drops reply k) block h = tt
did_bounded n (Asks to r) Silent h = tt
did_bounded n (Asks to r) Set h = tt
did_bounded n (Asks to r) (Replies j reply) h = accepts_bounded r (reverse j.accepted) h.1
did_bounded n (Asks to r) (Refreshing b) h = tt
did_bounded n (Asks to r) (Handed by k j reply) h = tt
did_bounded n (Asks to r) (Rejected raw breach) h = tt
did_bounded n (Updates number pushes total) Silent h = tt
did_bounded n (Updates number pushes total) Set h = tt
did_bounded n (Updates number pushes total) (Replies j reply) h = tt
did_bounded n (Updates number pushes total) (Refreshing b) h = refresh_bounded b.outcome
did_bounded n (Updates number pushes total) (Handed by k j reply) h = tt
did_bounded n (Updates number pushes total) (Rejected raw breach) h = tt
did_bounded n (Hands via to count (Ok m)) Silent h = tt
did_bounded n (Hands via to count (Ok m)) Set h = tt
did_bounded n (Hands via to count (Ok m)) (Replies j reply) h = tt
did_bounded n (Hands via to count (Ok m)) (Refreshing b) h = tt
did_bounded n (Hands via to count (Ok m)) (Handed by k j reply) h =
    accepts_bounded m.request (reverse j.accepted) h.1.request
did_bounded n (Hands via to count (Ok m)) (Rejected raw breach) h = tt
did_bounded n (Hands via to count (Err x)) Silent h = tt
did_bounded n (Hands via to count (Err x)) Set h = tt
did_bounded n (Hands via to count (Err x)) (Replies j reply) h = tt
did_bounded n (Hands via to count (Err x)) (Refreshing b) h = tt
did_bounded n (Hands via to count (Err x)) (Handed by k j reply) h = tt
did_bounded n (Hands via to count (Err x)) (Rejected raw breach) h = tt

-- one line more
one_more : {X : Type 0} (P : X → Type 0) (xs : List X) (x : X) → Each P xs → P x → Each P (xs ++ x ∷ [])
one_more P xs x each p = each_both P xs (x ∷ []) each (each_one P x p)

all_but : {X : Type 0} (P : X → Type 0) (xs : List X) (x : X) → Each P (xs ++ x ∷ []) → Each P xs
all_but P xs x each y i = each y (in_left y xs (x ∷ []) i)

last_so : {X : Type 0} (P : X → Type 0) (xs : List X) (x : X) → Each P (xs ++ x ∷ []) → P x
last_so P xs x each = each x (in_right x xs (x ∷ []) here)

pub accepted_bounded : (judge : Judge) → AcceptedBounded judge
accepted_bounded judge n w commands blocks past begin h = each_none (λ (d : Did). BoundedDeed d.deed)
accepted_bounded judge n w commands blocks past (next {commands = cs} {blocks = bs} {past = before} c b run is) h =
    each_both (λ (d : Did). BoundedDeed d.deed) (did_by c b ∷ []) before
    (each_one (λ (d : Did). BoundedDeed d.deed) (did_by c b)
    (did_bounded n c b (last_so (BoundedCommand n) cs c h)))
    (accepted_bounded judge n w cs bs before run (all_but (BoundedCommand n) cs c h))

-- each line did something
run_length : (judge : Judge) (w : World) (commands : List Command) (blocks : List Block) (past : List Did)
    → IsRun judge w commands blocks past → length past ≡ length commands
run_length judge w commands blocks past begin = refl
run_length judge w commands blocks past (next {commands = cs} {blocks = bs} {past = before} command block run is) =
    let e : length before ≡ length cs = run_length judge w cs bs before run in
    omega (arith, e, length-append cs (command ∷ []))

-- ---- what is done at a line

-- any message at it
abbrev Sends : Judge → ℕ → Point → Type 0
Sends judge n p =
    (first : ℕ) (m : Chained) (j : Journal) (reply : Reply) → nat_lt first n ≡ true → BoundedMessage m
    → judge p first m j reply → BoundedExchange n m.request j reply

line_bounded : (w : World) (past : List Did) → IsDescribed w → world_is_utf8 w ≡ true → NoneMoved past
    → BoundedPast past → BoundedMoments (line_after w past) → Sends BySteps (length w.agents) (line_after w past)
line_bounded w past d u none b moments first m j reply to h is =
    let p = line_after w past in
    let done = requests_bounded (length w.agents) (scene_held p first m) (budget p) j reply
    (λ a l. held_name_agents w past a d none) (λ a l. held_bounded w past a d u none b moments) to h is in
    record {
      within = done.0;
      asked = requests_answered (scene_held p first m) (budget p) j reply is;
      messages = done.1;
    }

block_bounded : (judge : Judge) (n : ℕ) (p : Point) → Sends judge n p → (command : Command) (block : Block)
    → IsBlock judge p command block → BoundedCommand n command → BoundedBlock n command block
block_bounded judge n p sends Blank block is h = tt
block_bounded judge n p sends (Changes o) block is h = tt
block_bounded judge n p sends (Drops lost k) block is h = tt
block_bounded judge n p sends (Updates number pushes total) block is h = tt
block_bounded judge n p sends (Asks to r) Silent is h = tt
block_bounded judge n p sends (Asks to r) Set is h = tt
block_bounded judge n p sends (Asks to r) (Replies j reply) is h =
    sends to (opening r) j reply h.0 (opening_bounded r h.1) is
block_bounded judge n p sends (Asks to r) (Refreshing b) is h = tt
block_bounded judge n p sends (Asks to r) (Handed by k j reply) is h = tt
block_bounded judge n p sends (Asks to r) (Rejected raw breach) is h = tt
block_bounded judge n p sends (Hands via to count (Ok m)) Silent is h = tt
block_bounded judge n p sends (Hands via to count (Ok m)) Set is h = tt
block_bounded judge n p sends (Hands via to count (Ok m)) (Replies j reply) is h = tt
block_bounded judge n p sends (Hands via to count (Ok m)) (Refreshing b) is h = tt
block_bounded judge n p sends (Hands via to count (Ok m)) (Handed by k j reply) is h = sends to m j reply h.0 h.1 is.2
block_bounded judge n p sends (Hands via to count (Ok m)) (Rejected raw breach) is h = tt
block_bounded judge n p sends (Hands via to count (Err b)) block is h = tt

-- lines and blocks go together, one by one
zip_behind : {X Y : Type 0} (xs : List X) (ys : List Y) (x : X) (y : Y) → length xs ≡ length ys
    → zip (xs ++ x ∷ []) (ys ++ y ∷ []) ≡ zip xs ys ++ (x, y) ∷ []
zip_behind [] [] x y e = refl
zip_behind [] (z ∷ ys) x y e = absurd (omega (arith, e))
zip_behind (z ∷ xs) [] x y e = absurd (omega (arith, e))
zip_behind {X} {Y} (z ∷ xs) (v ∷ ys) x y e =
    ap (λ (ps : List (X × Y)). (z, v) ∷ ps) (zip_behind xs ys x y (omega (arith, e)))

block_count : (judge : Judge) (w : World) (commands : List Command) (blocks : List Block) (past : List Did)
    → IsRun judge w commands blocks past → length commands ≡ length blocks
block_count judge w commands blocks past begin = refl
block_count judge w commands blocks past (next {commands = cs} {blocks = bs} {past = before} command block run is) =
    let e : length cs ≡ length bs = block_count judge w cs bs before run in
    omega (arith, e, length-append cs (command ∷ []), length-append bs (block ∷ []))

abbrev LineBounded : ℕ → Command × Block → Type 0
LineBounded n l = BoundedBlock n l.0 l.1

-- however blocks are judged, if that they are what agents do is part of it
pub runs_bounded : (judge : Judge)
    → ((p : Point) (first : ℕ) (m : Chained) (j : Journal) (reply : Reply) → judge p first m j reply
    → BySteps p first m j reply) → RunsBounded judge
runs_bounded judge so w commands blocks past d u begin h few = each_none (LineBounded (length w.agents))
runs_bounded judge so w commands blocks past d u (next {commands = cs} {blocks = bs} {past = ds} c b run is) h few =
    let size : ℕ = length w.agents in
    let rest = all_but (BoundedCommand size) cs c h in
    let count : length ds ≡ length cs = run_length judge w cs bs ds run in
    let long : length (cs ++ c ∷ []) ≡ length cs + 1 = length-append cs (c ∷ []) in
    let fewer : CountWithin (length cs) = omega (arith, few, long) in
    let early : CountWithin (length ds) = omega (arith, fewer, count) in
    let moments = moments_bounded (line_after w ds) (runs_are_stamped judge w cs bs ds run) early in
    let steps = line_bounded w ds d u (run_none_moved judge w cs bs ds run)
    (accepted_bounded judge size w cs bs ds run rest) moments in
    subst (Each (LineBounded size)) (sym (zip_behind cs bs c b (block_count judge w cs bs ds run)))
    (one_more (LineBounded size) (zip cs bs) (c, b) (runs_bounded judge so w cs bs ds d u run rest fewer)
    (block_bounded judge size (line_after w ds)
    (λ first m j reply to x k. steps first m j reply to x (so (line_after w ds) first m j reply k)) c b is
    (last_so (BoundedCommand size) cs c h)))
