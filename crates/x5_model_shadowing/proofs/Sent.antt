-- What can be sent is within the limits of messages of shadowing, and so is each message of a refresh that sends it.
use Rattle.std.proofs.Common.{◌≡◌, ◌<◌, ◌≤◌, ℕ, ◌^◌, nat_lt, nat_le, Bool, true, false, List, [], length, map, sym, subst, arith, Option, Some, None}
use Rattle.std.proofs.lemmas.Bool.{leb-true}
use Rattle.std.proofs.lemmas.List.{length-map}
use Rattle.x5_model.specs.Members.{In}
use Rattle.x5_model.specs.Values.{Text, key_of}
use Rattle.x5_model.proofs.Decide.{less_decides}
use Rattle.x5_model.proofs.Lists.{both_true, of_all}
use Rattle.x5_model_tree.specs.World.{Agent, Agreement, World, names_of_agents}
use Rattle.x5_model_tree.specs.Described.{is_number, is_agreement}
use Rattle.x5_model_heard.specs.Told.{are_agents}
use Rattle.x5_model_run.specs.History.{Point, knowledge_at, as_of, acked, copy_as_of}
use Rattle.x5_model_refreshed.specs.Logs.{log_at, steps_later}
use Rattle.x5_model_refreshed.proofs.Leading.{knowledge_stays}
use Rattle.x5_model_typed.specs.Layouts.{Surroundings}
use Rattle.x5_model_messages.specs.Shadows as shadows
use Rattle.x5_model_fitting.specs.Names.{Each}
use Rattle.x5_model_fitting.specs.Requests.{CountWithin, IfThere}
use Rattle.x5_model_limits.proofs.Lists.{each_map}
use Rattle.x5_model_shadowed.specs.Agents.{AreAgents, name_at}
use Rattle.x5_model_shadowed.specs.Sending.{carried_step}
use Rattle.x5_model_shadowed.specs.Within.{StepWithin, AgentWithin, MomentWithin, KnownWithin, NonSpecificWithin, RefreshWithin, ShadowWithin}
use Rattle.x5_model_shadowed.proofs.Agents.{agent_is_within}
use Rattle.x5_model_shadowed.proofs.Sending.{entry_is_within, step_is_within}
use Rattle.x5_model_shadowing.specs.Holding.{SendableContext}
use Rattle.x5_model_shadowing.specs.Lines.{IsBoundedLine, RefreshesWithin}
use Rattle.x5_model_shadowing.specs.Messages.{IsAround, carried_known, carried_other, refresh_of, first_message, last_message, KnownIsWithin, OtherIsWithin, TotalIsWithin, StepsAreWithin}
use Rattle.x5_model_shadowing.proofs.Held.{copies_sendable}
use Rattle.x5_model_shadowing.proofs.Logs.{logs_sendable, later_sendable}
use Rattle.x5_model_shadowing.proofs.Moments.{line_is_counted}

-- ---- references

module _ (w : Surroundings) (names : List Text) (are : AreAgents w names) where
  agent_so : (a : ℕ) → nat_lt a (length names) ≡ true → AgentWithin w (name_at names a)
  agent_so a e = agent_is_within w names a are ((less_decides a (length names)).0 e)

  agents_so : (agents : List ℕ) → are_agents (length names) agents ≡ true
      → Each (AgentWithin w) (map (name_at names) agents)
  agents_so agents e =
      each_map (AgentWithin w) (name_at names) agents
      (λ a i. agent_so a (of_all (λ (x : ℕ). nat_lt x (length names)) a agents e i))

pub known_is_within : KnownIsWithin
known_is_within w names k are h =
    let n = both_true (nat_lt k.access.master (length names)) (are_agents (length names) k.access.shadows) h.named in
    record {
      pin = h.pin;
      master = agent_so w names are k.access.master n.0;
      shadows = agents_so w names are k.access.shadows n.1;
    }

pub other_is_within : OtherIsWithin
other_is_within w names n are h = record { at = h.at; agents = agents_so w names are n.agents h.named }

-- ---- refreshes

pub total_is_within : TotalIsWithin
total_is_within w names c are h = (
  λ e i. entry_is_within e (h.entries e i),
  each_map (KnownWithin w) (carried_known names) c.subordinate
      (λ k i. known_is_within w names k are (h.subordinate k i)),
  each_map (NonSpecificWithin w) (carried_other names) c.nssrs
      (λ n i. other_is_within w names n are (h.nssrs n i)),
)

pub steps_are_within : StepsAreWithin
steps_are_within w steps each = each_map StepWithin carried_step steps (λ s i. step_is_within s (each s i))

-- ---- messages

module _ (w : Surroundings) (p : Point) (g : Agreement) (around : IsAround w (names_of_agents p.described))
    (line : IsBoundedLine p) (its : In g (knowledge_at p).agreements)
  where
    abbrev names : List Text
    names = names_of_agents p.described

    same : knowledge_at p ≡ p.described
    same = knowledge_stays p.described p.past line.led.happened

    -- an agreement's number is no more than a million
    number : CountWithin g.number
    number =
        let i : In g p.described.agreements = subst (λ (x : World). In g x.agreements) same its in
        let a = both_true (is_number g.number) _ (of_all (is_agreement p.described) g p.described.agreements
        line.led.described.agreements i) in
        let b = both_true (nat_lt 0 g.number) (nat_le g.number 1000000) a.0 in
        few g.number b.1
      where
        few : (n : ℕ) → nat_le n 1000000 ≡ true → n < 2 ^ 32
        few n e = (let l : n ≤ 1000000 = leb-true n 1000000 e in let m : n < 4_294_967_296 = omega (arith, l) in m)

    moment : (o : Option ℕ) → IfThere CountWithin o → IfThere (MomentWithin w) o
    moment None h = tt
    moment (Some m) h = around.times m h

    copy : IfThere (MomentWithin w) (as_of p g.number)
    copy = moment (as_of p g.number) ((line_is_counted p line).copies g.number)

    known : IfThere (MomentWithin w) (acked p g.number)
    known = moment (acked p g.number) ((line_is_counted p line).acked g.number)

    first_so : (pushes total : Bool) → ShadowWithin w (first_message p pushes total g)
    first_so true total = (number, known)
    first_so false total = (number, copy)

    as_many : length p.described.agents ≡ length names
    as_many = sym (length-map p.described.agents (λ (a : Agent). a.name))

    refresh_so : (total : Bool) (from : Option ℕ) (stamp : ℕ)
        → RefreshWithin w (refresh_of p names total g from stamp)
    refresh_so true from stamp =
        total_is_within w names (copy_as_of p g (Some stamp)) around.agents
        (subst (λ (n : ℕ). SendableContext n (copy_as_of p g (Some stamp))) as_many
        (copies_sendable p g (Some stamp) line its))
    refresh_so false None stamp = tt
    refresh_so false (Some m) stamp =
        steps_are_within w (steps_later m (log_at p g.supplier (key_of g.context)))
        (later_sendable m (log_at p g.supplier (key_of g.context))
        (logs_sendable p g.supplier (key_of g.context) line))

    last_so : (total : Bool) (from : Option ℕ) (stamp : ℕ) → CountWithin stamp
        → ShadowWithin w (last_message p names total g from stamp)
    last_so total from stamp few = (number, around.times stamp few, refresh_so total from stamp)

pub refreshes_within : RefreshesWithin
refreshes_within w p g around line its = record {
  first = first_so w p g around line its;
  last = last_so w p g around line its;
  done = λ operation i. i;
  problem = λ k h. (h, tt, tt);
  missed = λ k h. (h, copy w p g around line its, known w p g around line its);
}
