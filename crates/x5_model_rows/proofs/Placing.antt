-- Messages between agents by themselves: what is placed, the stages along a trace, right replies, and the budget. And a
-- user who follows.
use Rattle.std.specs.Prelude.{◌≡◌, ℕ, true, false, Bool, List, [], ◌∷◌}
use Rattle.std.specs.declared.option.Option.TheVariants.{None, Some}
use Rattle.std.proofs.Common.{refl, arith, ap}
use lib.Chars.{codes}
use Rattle.x5_model.specs.Values.{TextValue}
use Rattle.x5_model.specs.Requests.{ListBelow, WholeSubtree}
use Rattle.x5_model.specs.References.{Next, Done, Subordinate, NonSpecific, Chained}
use Rattle.x5_model.specs.Answers.{Reply, Answered, Failed, EntryFound, Found, Listed, NoSuchObject, ServiceProblem}
use Rattle.x5_model.specs.Problems.{unable_to_proceed}
use Rattle.x5_model_run.specs.Network.{Refuse, Sent}
use Rattle.x5_model_run.specs.Journal.{Line, Journal, item_of}
use Rattle.x5_model_run.specs.History.{Point, Outs, holdings_at, network_at}
use Rattle.x5_model_run.specs.Chain.{Scene, scene_at}
use Rattle.x5_model_run.specs.Blocked.{by_user}
use Rattle.x5_model_run.specs.Needs.{fails}
use Rattle.x5_model_run.specs.Right.{IsRight, result, error}
use Rattle.x5_model_run.specs.Stage.{Stage, stage_of, is_lower, budget}
use Rattle.x5_model_run.specs.Placed.{Placed, asked_by}
use Rattle.x5_model_replies.specs.Replies.{RightReply, usual, unable, limit, RepliesRight}
use Rattle.x5_model_run.proofs.Licensing.{licensed_by, licensed_first}
use Rattle.x5_model_rows.proofs.Literals.{plainly}
use Rattle.x5_model_rows.proofs.BaseWorld.{base_world, acme, lab, shop, ada}
use Rattle.x5_model_rows.proofs.Messages.{did, point, journal, passes, now, info, bare, shows, whole_outcome}
use Rattle.x5_model_rows.proofs.Resolution.{at_first, absent, read_absent, name_lab}
use Rattle.x5_model_rows.proofs.Searching.{everything, root_at_gamma, root_at_beta, root_at_alpha, acme_part, sub_at}
use Rattle.x5_model_rows.proofs.Refused.{no}

-- the stages along the trace of the longest way of a search from the root: each is lower than the next
abbrev pub ascends : List Stage → Bool
ascends [] = true
ascends (a ∷ []) = true
ascends (a ∷ b ∷ more) = if_both (is_lower a b) (ascends (b ∷ more))
  where
    if_both : Bool → Bool → Bool
    if_both true rest = rest
    if_both false rest = false

abbrev pub stage_at : Line → Stage
stage_at l = stage_of base_world (item_of l.receiver l.message)

pub nearer : ascends
    (stage_at root_at_gamma ∷ stage_at root_at_beta ∷ stage_at root_at_alpha ∷ stage_at acme_part
    ∷ stage_at (passes 5 acme_part 2 acme Done NonSpecific (everything acme WholeSubtree) Sent) ∷ []) ≡ true
nearer = refl

-- four contexts, five agents and an NSSR with two
pub base_budget : budget at_first ≡ 534
base_budget = refl

-- what is brought to an agent
abbrev pub brought_to : ℕ → Chained → Scene
brought_to to m = record {
  holdings = holdings_at at_first;
  network = network_at at_first;
  sent = 0;
  first = to;
  message = m;
  follows = false;
}

abbrev pub raw_line : Scene → Line
raw_line s = record { number = 1; sender = None; receiver = s.first; message = s.message; fate = Sent }

-- Gamma is asked by an NSSR for a name of which it holds nothing
abbrev pub for_absent : Scene
for_absent =
    brought_to 2 (record {
      target = absent;
      progress = Next 3;
      kind = NonSpecific;
      exclusions = [];
      trace = [];
      request = read_absent;
    })

pub gamma_unable : RepliesRight at_first for_absent (journal (raw_line for_absent ∷ []))
    (Failed (ServiceProblem unable_to_proceed (Some (asked_by (by_user for_absent))) None))
gamma_unable = record {
  placed = record { fit = refl; lower = refl; brought = refl };
  licensed = (licensed_first refl refl refl refl refl, tt);
  accepts = record { one = refl; right = refl; probed = refl };
  done = λ usual. refl;
  at_once = refl;
  answer = unable refl;
}

-- Refused: that Gamma can go on with the absent name, and says that there is none; that it can't go on with Lab, which
-- it has; and that it can't and names another agent.
pub no_verdict : RightReply at_first for_absent (by_user for_absent) (journal (raw_line for_absent ∷ [])) false
    (Failed (NoSuchObject acme)) → ⊥
no_verdict (usual able right) = no able

abbrev pub for_lab : Scene
for_lab =
    brought_to 2 (record {
      target = lab;
      progress = Next 3;
      kind = NonSpecific;
      exclusions = [];
      trace = [];
      request = name_lab;
    })

pub not_unable : RightReply at_first for_lab (by_user for_lab) (journal (raw_line for_lab ∷ [])) false
    (Failed (ServiceProblem unable_to_proceed (Some (asked_by (by_user for_lab))) None)) → ⊥
not_unable (unable falls) = no falls
not_unable (usual able (error back given known none)) = no (ap fails given)

abbrev pub first_agent : List ℕ → ℕ
first_agent [] = 0
first_agent (a ∷ agents) = a

abbrev pub agent_told : Reply → ℕ
agent_told (Failed (ServiceProblem n (Some r) i)) = first_agent r.agents
agent_told other = 0

pub no_other_agent : (reply : Reply)
    → RightReply at_first for_absent (by_user for_absent) (journal (raw_line for_absent ∷ [])) false reply
    → agent_told reply ≡ 3 → ⊥
no_other_agent _ (usual able right) e = no able
no_other_agent _ (unable falls) e = omega (arith, e)
no_other_agent _ (limit back over none) e = no over

-- Messages that aren't placed: one whose target isn't what its request asks for; a read of a name that is completed;
-- one that came no nearer since an agent of its trace; and some that no reference brings to Beta: to a pin that it
-- doesn't hold, whether it's to go on from there or is completed, and to the parts below an entry at whose NSSR Beta
-- isn't listed.
abbrev pub to_gamma : Chained
to_gamma = for_lab.message

pub not_fitting : Placed at_first (record to_gamma { target = shop }) 2 → ⊥
not_fitting p = no p.fit

pub not_completed : Placed at_first (record to_gamma { progress = Done }) 2 → ⊥
not_completed p = no p.fit

pub not_nearer : Placed at_first (record to_gamma { trace = item_of 2 to_gamma ∷ [] }) 2 → ⊥
not_nearer p = no p.lower

pub not_from_there : Placed at_first (record to_gamma { kind = Subordinate }) 1 → ⊥
not_from_there p = no p.brought

abbrev pub of_part : Chained
of_part =
    record {
      target = lab;
      progress = Done;
      kind = Subordinate;
      exclusions = [];
      trace = [];
      request = everything lab WholeSubtree;
    }

pub not_held : Placed at_first of_part 1 → ⊥
not_held p = no p.brought

pub not_listed : Placed at_first (record of_part { kind = NonSpecific }) 1 → ⊥
not_listed p = no p.brought

-- Delta is asked for its part of a search below Acme
abbrev pub for_part : Scene
for_part =
    brought_to 3 (record {
      target = acme;
      progress = Done;
      kind = NonSpecific;
      exclusions = [];
      trace = [];
      request = everything acme WholeSubtree;
    })

pub delta_part : RepliesRight at_first for_part (journal (raw_line for_part ∷ []))
    (Answered (Found (bare shop ∷ bare ada ∷ []) (now shop 3 ∷ []) whole_outcome))
delta_part = record {
  placed = record { fit = refl; lower = refl; brought = refl };
  licensed = (licensed_first refl refl refl refl refl, tt);
  accepts = record { one = refl; right = refl; probed = refl };
  done = λ usual. refl;
  at_once = refl;
  answer = usual refl (result refl (record {
    found = refl;
    sources = refl;
    spelled = refl;
    once = refl;
    exactly = refl;
    answered = refl;
    blocked = tt;
    completed = refl;
    apart = refl;
  }) refl refl);
}

-- a list by a reference to the pin Shop asks for Shop's own RDN
abbrev pub for_own : Scene
for_own =
    brought_to 3 (record {
      target = shop;
      progress = Done;
      kind = Subordinate;
      exclusions = [];
      trace = [];
      request = plainly (ListBelow shop);
    })

pub shop_itself : RepliesRight at_first for_own (journal (raw_line for_own ∷ []))
    (Answered (Listed (sub_at shop ∷ []) (now shop 3 ∷ []) whole_outcome))
shop_itself = record {
  placed = record { fit = refl; lower = refl; brought = refl };
  licensed = (licensed_first refl refl refl refl refl, tt);
  accepts = record { one = refl; right = refl; probed = refl };
  done = λ usual. refl;
  at_once = refl;
  answer = usual refl (result refl (record {
    found = refl;
    sources = refl;
    spelled = refl;
    once = refl;
    exactly = refl;
    answered = refl;
    blocked = tt;
    completed = refl;
    apart = refl;
  }) refl refl);
}

-- Alpha refuses to chain, and the user follows its referral
abbrev pub alpha_refuses : Point
alpha_refuses = point base_world (did (Outs (Refuse 0)) 0 ∷ [])

abbrev pub following : Scene
following = record (scene_at alpha_refuses 0 name_lab) { follows = true }

abbrev pub first_asked : Line
first_asked = raw_line following

abbrev pub then_asked : Line
then_asked = record (passes 2 first_asked 1 lab (Next 2) Subordinate name_lab Sent) { sender = None }

abbrev pub followed_journal : Journal
followed_journal =
    journal (first_asked ∷ then_asked ∷ passes 3 then_asked 2 lab (Next 3) NonSpecific name_lab Sent ∷ [])

pub followed : IsRight alpha_refuses following followed_journal
    (Answered (EntryFound (info lab (shows 11 (TextValue (codes "Lab") ∷ []) ∷ [])) (now lab 2)))
followed = record {
  licensed = (
    licensed_by then_asked 0 0 refl refl refl refl refl,
    (licensed_by first_asked 0 0 refl refl refl refl refl, (licensed_first refl refl refl refl refl, tt)),
  );
  accepts = record { one = refl; right = refl; probed = refl };
  finished = record { done = refl; at_once = refl };
  answer = result refl (record {
    found = refl;
    sources = refl;
    spelled = refl;
    once = refl;
    exactly = refl;
    answered = refl;
    blocked = tt;
    completed = refl;
    apart = refl;
  }) refl refl;
}
