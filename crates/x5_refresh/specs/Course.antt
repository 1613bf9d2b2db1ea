-- The course of one refresh, by what is looked at of a run (X.525, sections 9 to 12): its messages and what becomes of
-- it.
use Rattle.std.specs.Prelude.{◌≡◌, ℕ, Bool, true, false, not, ◌&&◌, ◌==◌, if◌then◌else◌, List, [], ◌∷◌}
use Rattle.std.specs.List.{find}
use Rattle.std.specs.Option.{is_some, option_map}
use Rattle.std.specs.declared.option.Option.{Option}
use Rattle.std.specs.declared.option.Option.TheVariants.{None, Some}
use Rattle.x5_model.specs.Words.{in_option}
use Rattle.x5_model_tree.specs.World.{Agreement}
use Rattle.x5_model_tree.specs.Consistent.{first_breach}
use Rattle.x5_model_run.specs.Network.{Fate, is_unheard, is_lost, is_sent}
use Rattle.x5_model_run.specs.History.{Point, knowledge_at}
use Rattle.x5_model_run.specs.History as history
use Rattle.x5_model_run.specs.Refresh as refresh
use Rattle.x5_model_run.specs.Refresh.{ShadowOperation, RequestShadowUpdate, UpdateShadow, CoordinateShadowUpdate}
use Rattle.x5_model_run.specs.Refresh.{ShadowLine, RefreshOutcome, Done, Unheard, Problem, Missed, RefreshBlock}
use Rattle.x5_model_run.specs.Refresh.{inactive_agreement, full_update_required, same_moment, peer_moment, needs_total}
use Rattle.x5_model_run.specs.Refresh.{count_of, shadow_line, ended, refresh_block}

-- The moment as of which the supplier has the context; that of the consumer's copy, and the last one that the consumer
-- acknowledged; whether an incremental refresh isn't possible from the moment that the supplier goes on from; how many
-- entries or steps are sent; and what becomes of the first message and of the last.
pub record Facts : Type 0 where
  pub supplied : Option ℕ
  pub own : Option ℕ
  pub acked : Option ℕ
  pub needs : Bool
  pub count : ℕ
  pub first : Fate
  pub last : Fate

-- ---- what ends it

-- the supplier's problem: an inactive agreement, and then, of an incremental refresh, the need of a total one
abbrev pub problem_with : Bool → Option ℕ → Option ℕ
problem_with short None = Some inactive_agreement
problem_with short (Some stamp) = if short then Some full_update_required else None

abbrev pub problem_of : Bool → Facts → Option ℕ
problem_of total f = problem_with (not total && f.needs) f.supplied

-- before any message: in a push the supplier's problem
abbrev pub unsent : Bool → Option ℕ → Option RefreshOutcome
unsent true problem = option_map Problem problem
unsent false problem = None

-- behind the first message, where it is heard: in a push, of an incremental refresh, that the consumer has it as of
-- another moment than it acknowledged; in a pull the supplier's problem
abbrev pub missing : Bool → Option ℕ → Option ℕ → Option RefreshOutcome
missing total own acked = if not total && not (same_moment acked own) then Some (Missed own acked) else None

abbrev pub answered : Bool → Bool → Option ℕ → Option ℕ → Option ℕ → Option RefreshOutcome
answered true total problem own acked = missing total own acked
answered false total problem own acked = option_map Problem problem

abbrev pub stopped : Bool → Bool → Option ℕ → Option ℕ → Option ℕ → Fate → Option RefreshOutcome
stopped push total problem own acked first =
    if is_unheard first then Some Unheard else answered push total problem own acked

-- with the last message: where it is lost nothing was taken; where its reply is lost the supplier doesn't know
abbrev pub taken : Bool → ℕ → ℕ → ℕ → Bool → RefreshOutcome
taken total number stamp count heard =
    Done (record { agreement = number; total = total; stamp = stamp; count = count; acknowledged = heard })

abbrev pub finished : Bool → ℕ → ℕ → ℕ → Fate → RefreshOutcome
finished total number stamp count last =
    if is_lost last then Unheard else taken total number stamp count (is_sent last)

-- ---- the messages

-- the consumer asks, or is told
abbrev pub opening : Bool → ShadowOperation
opening true = CoordinateShadowUpdate
opening false = RequestShadowUpdate

abbrev pub line_of : Agreement → ShadowOperation → Fate → ShadowLine
line_of g RequestShadowUpdate fate = record {
  sender = g.consumer;
  receiver = g.supplier;
  operation = RequestShadowUpdate;
  agreement = g.number;
  fate = fate;
}
line_of g UpdateShadow fate = record {
  sender = g.supplier;
  receiver = g.consumer;
  operation = UpdateShadow;
  agreement = g.number;
  fate = fate;
}
line_of g CoordinateShadowUpdate fate = record {
  sender = g.supplier;
  receiver = g.consumer;
  operation = CoordinateShadowUpdate;
  agreement = g.number;
  fate = fate;
}

-- ---- the course

-- these messages and the outcome that ends them, or else what follows
abbrev pub unless_ended : Option RefreshOutcome → List ShadowLine → RefreshBlock → RefreshBlock
unless_ended None lines next = next
unless_ended (Some outcome) lines next = ended lines outcome

-- The stamp is the supplier's moment, which is there where nothing ended it before.
abbrev pub course : Bool → Bool → Agreement → Facts → RefreshBlock
course push total g f =
    unless_ended (unsent push (problem_of total f)) []
    (unless_ended (stopped push total (problem_of total f) f.own f.acked f.first)
    (line_of g (opening push) f.first ∷ [])
    (ended (line_of g (opening push) f.first ∷ line_of g UpdateShadow f.last ∷ [])
    (finished total g.number (in_option 0 (λ m. m) f.supplied) f.count f.last)))

-- ---- in a run

-- what a refresh by an agreement looks at, at a line of a run
abbrev pub facts_at : Point → Bool → Bool → Agreement → Facts
facts_at p push total g = record {
  supplied = refresh.supplied p g;
  own = history.as_of p g.number;
  acked = history.acked p g.number;
  needs = needs_total p g (peer_moment p push g);
  count = in_option 0 (count_of p total g (peer_moment p push g)) (refresh.supplied p g);
  first = (shadow_line p g 1 (opening push)).fate;
  last = (shadow_line p g 2 UpdateShadow).fate;
}

-- Over consistent knowledge the block of a refresh by an agreement is the course of these.
abbrev pub BlocksAreCourses : Type 0
BlocksAreCourses =
    (p : Point) (number : ℕ) (push total : Bool) (g : Agreement) → is_some (first_breach p.described) ≡ false
    → find (λ (a : Agreement). a.number == number) (knowledge_at p).agreements ≡ Some g
    → refresh_block p number push total ≡ course push total g (facts_at p push total g)
