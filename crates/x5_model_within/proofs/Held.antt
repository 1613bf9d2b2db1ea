-- What an agent holds at a line: over consistent knowledge its part of the one tree, and over any other what the
-- world's file describes, changed by each update that it accepted.
use Rattle.std.proofs.Common.{◌≡◌, ◌≤◌, ◌==◌, ℕ, Bool, true, false, List, [], ◌∷◌, length, refl, sym, subst, ◌∙◌, arith, Option, Some, None, if◌then◌else◌}
use Rattle.std.specs.Option.{is_none}
use Rattle.x5_model.specs.Members.{here, there}
use Rattle.x5_model_tree.specs.World.{World}
use Rattle.x5_model_tree.specs.Described.{IsDescribed}
use Rattle.x5_model_tree.specs.Consistent.{first_breach}
use Rattle.x5_model_run.specs.Holdings.{Holdings}
use Rattle.x5_model_run.specs.History.{Acceptance, Deed, Nothing, Outs, Loses, Accepts, Refreshes, Splits, Unsplits, Did, knowledge_at, as_of, holdings_at}
use Rattle.x5_model_serve.specs.Committed.{committed}
use Rattle.x5_model_known.specs.Holding.{holdings_name}
use Rattle.x5_model_known.proofs.Finding as known
use Rattle.x5_model_known.proofs.Describing.{described_name_agents}
use Rattle.x5_model_known.proofs.AtLines.{lines_name_agents}
use Rattle.x5_model_settled.specs.Afterwards.{line_after}
use Rattle.x5_model_settled.specs.Held.{held_accepting, held_after, held_by}
use Rattle.x5_model_settled.proofs.Settled.{knowledge_stays}
use Rattle.x5_model_fitting.specs.Names.{Each}
use Rattle.x5_model_fitting.specs.Requests.{CountWithin, IfThere, RequestWithin}
use Rattle.x5_model_limits.specs.Holding.{BoundedHoldings}
use Rattle.x5_model_limits.specs.Described.{world_is_utf8, BoundedDeed, BoundedPast}
use Rattle.x5_model_limits.proofs.Committing.{committed_bounded}
use Rattle.x5_model_limits.proofs.Described.{described_bounded}
use Rattle.x5_model_limits.proofs.AtLines.{lines_bounded}
use Rattle.x5_model_within.specs.Held.{MomentsBounded, HeldBounded, HeldNameAgents}

pub moments_bounded : MomentsBounded
moments_bounded p stamped few g i = by (as_of p g.number) refl
  where
    by : (o : Option ℕ) → as_of p g.number ≡ o → IfThere CountWithin o
    by None e = tt
    by (Some moment) e = (let l : moment ≤ length p.past = stamped g moment i e in omega (arith, l, few))

-- ---- what each step leaves

accepting_bounded : (accepted : List Acceptance) (a : ℕ) (h : Holdings)
    → Each (λ (x : Acceptance). RequestWithin x.request) accepted → BoundedHoldings h
    → BoundedHoldings (held_accepting accepted a h)
accepting_bounded [] a h each b = b
accepting_bounded (x ∷ more) a h each b =
    by (x.agent == a) (accepting_bounded more a h (λ y i. each y (there i)) b)
  where
    by : (c : Bool) → BoundedHoldings (held_accepting more a h)
        → BoundedHoldings (if c then committed x.request h else held_accepting more a h)
    by true later = committed_bounded x.request h (each x here) b
    by false later = later

after_bounded : (d : Deed) (a : ℕ) (h : Holdings) → BoundedDeed d → BoundedHoldings h
    → BoundedHoldings (held_after d a h)
after_bounded Nothing a h d b = b
after_bounded (Outs o) a h d b = b
after_bounded (Loses reply k) a h d b = b
after_bounded (Accepts accepted) a h d b = accepting_bounded accepted a h d b
after_bounded (Refreshes f) a h d b = b
after_bounded (Splits name o) a h d b = b
after_bounded (Unsplits name) a h d b = b

by_bounded : (w : World) (past : List Did) (a : ℕ) → IsDescribed w → world_is_utf8 w ≡ true → BoundedPast past
    → BoundedHoldings (held_by w past a)
by_bounded w [] a d u b = described_bounded w a d u
by_bounded w (x ∷ before) a d u b =
    after_bounded x.deed a (held_by w before a) (b x here) (by_bounded w before a d u (λ y i. b y (there i)))

pub held_bounded : HeldBounded
held_bounded w past a d u none b moments = by (is_none (first_breach w))
  where
    same : knowledge_at (line_after w past) ≡ w
    same = knowledge_stays w past none

    by : (c : Bool)
        → BoundedHoldings (if c then holdings_at (line_after w past) a else held_by w past a)
    by true =
        lines_bounded (line_after w past) a d u (subst IsDescribed (sym same) d)
        (subst (λ (x : World). world_is_utf8 x ≡ true) (sym same) u) b moments
    by false = by_bounded w past a d u b

-- ---- whom it names

accepting_names : (n : ℕ) (accepted : List Acceptance) (a : ℕ) (h : Holdings) → holdings_name n h ≡ true
    → holdings_name n (held_accepting accepted a h) ≡ true
accepting_names n [] a h e = e
accepting_names n (x ∷ more) a h e = by (x.agent == a) (accepting_names n more a h e)
  where
    by : (c : Bool) → holdings_name n (held_accepting more a h) ≡ true
        → holdings_name n (if c then committed x.request h else held_accepting more a h) ≡ true
    by true later = (known.knowledge_stays n x.request h).1 ∙ e
    by false later = later

after_names : (n : ℕ) (d : Deed) (a : ℕ) (h : Holdings) → holdings_name n h ≡ true
    → holdings_name n (held_after d a h) ≡ true
after_names n Nothing a h e = e
after_names n (Outs o) a h e = e
after_names n (Loses reply k) a h e = e
after_names n (Accepts accepted) a h e = accepting_names n accepted a h e
after_names n (Refreshes f) a h e = e
after_names n (Splits name o) a h e = e
after_names n (Unsplits name) a h e = e

by_names : (w : World) (past : List Did) (a : ℕ) → IsDescribed w
    → holdings_name (length w.agents) (held_by w past a) ≡ true
by_names w [] a d = described_name_agents w a d
by_names w (x ∷ before) a d =
    after_names (length w.agents) x.deed a (held_by w before a) (by_names w before a d)

pub held_name_agents : HeldNameAgents
held_name_agents w past a d none = by (is_none (first_breach w))
  where
    same : knowledge_at (line_after w past) ≡ w
    same = knowledge_stays w past none

    by : (c : Bool)
        → holdings_name (length w.agents) (if c then holdings_at (line_after w past) a else held_by w past a) ≡ true
    by true =
        subst (λ (x : World). holdings_name (length x.agents) (holdings_at (line_after w past) a) ≡ true) same
        (lines_name_agents (line_after w past) a (subst IsDescribed (sym same) d))
    by false = by_names w past a d
