-- What came of a command stands for its block of a run: whom messages and reply name are agents of the world, so what is
-- printed of it is what the definitions print of that block.
use Rattle.std.proofs.Common.{◌≡◌, ◌≤◌, ◌<◌, ℕ, zero, suc, Bool, true, false, is_some, List, [], ◌∷◌, length, map, slice_get, refl, sym, ap, subst, ◌∙◌, Some, None, Option, Result, Ok, Err, append-nil, arith}
use Rattle.std.specs.List.{list_all}
use Rattle.x5_model.specs.Words.{in_option}
use Rattle.x5_model.specs.References.{Chained}
use Rattle.x5_model.specs.Requests.{Request}
use Rattle.x5_model.specs.Values.{Name}
use Rattle.x5_model.proofs.Lists.{both_true, and_true}
use Rattle.x5_know.specs.Moments.{moment_text}
use Rattle.x5_model_output.specs.Output as print
use Rattle.x5_model_output.specs.Output.{names_of}
use Rattle.x5_model_run.specs.History.{Did, Point}
use Rattle.x5_model_run.specs.Refresh as refresh
use Rattle.x5_model_run.specs.Run.{Command, Blank, Asks, Changes, Drops, Updates, sent_by, Block, Silent, did_by}
use Rattle.x5_model_run.specs.Chain.{opening}
use Rattle.x5_model_run.specs.Needs.{target_of, new_name}
use Rattle.x5_model_run.specs.Network.{Outage}
use Rattle.x5_model_script.specs.Lines.{Asked}
use Rattle.x5_model_script.specs.Lines as script
use Rattle.x5_model_settled.specs.Settled.{HasAgent}
use Rattle.x5_model_settled.specs.Runs.{IsAskable}
use Rattle.x5_model_octets.specs.Breaches.{Breach}
use Rattle.x5_model_run.specs.Run as model
use Rattle.x5_model_tree.specs.Consistent.{first_breach, IsConsistent}
use Rattle.x5_model_world.specs.WorldFile.{File}
use Rattle.x5_ops.specs.AnswerViews.{reply_view}
use Rattle.x5_ops.specs.JournalViews.{protocol_view}
use Rattle.x5_ops.specs.declared.answers.Reply.{Reply}
use Rattle.x5_ops.specs.declared.journal.Line.{Line as Message}
use Rattle.x5_ops.specs.declared.journal.Line.TheVariants.{Msg, Dis, Raw}
use Rattle.x5_ops.specs.declared.journal.Journal.{Journal}
use Rattle.x5_port.specs.Outside.{with_octets}
use Rattle.x5_report.specs.Views.{is_known, line_known, journal_known, reply_known}
use Rattle.x5_ops.specs.RefreshViews.{shadows_view}
use Rattle.x5_report.specs.Blocks.{block_known, IsJournal}
use Rattle.x5_report.specs.Blocks as report
use Rattle.x5_report.specs.declared.report.LineOutcome.{LineOutcome}
use Rattle.x5_report.specs.declared.report.LineOutcome.TheVariants.{Set, Answered, Plain, NotConsistent, Handed, Rejected}
use Rattle.x5_report.specs.declared.report.LineOutcome.TheVariants as outcomes
use Rattle.x5_ops.specs.AgentNames.{agent_of}
use Rattle.x5_ops.specs.declared.journal.Fate.{Fate}
use Rattle.x5_typed.specs.declared.fault.Breach as typed
use Rattle.x5_world.specs.Answered.{IsAnswered, NamesAgents, is_agent, line_names_agents}
use Rattle.x5_world.specs.Delivered.{Comes, IsDelivered, IsDeliveredAt}
use Rattle.x5_world.specs.declared.delivered.Delivered.TheVariants as delivered
use Rattle.x5_world.specs.Refreshes.{IsRefreshedAt}
use Rattle.x5_world.specs.declared.refreshment.Refreshment.{Refreshment}
use Rattle.x5_world.specs.State.{Net, StandsAt, HasShortNames, after}
use Rattle.x5_model_tree.specs.World.{Agent, World, names_of_agents}
use Rattle.xdir.specs.Blocks.{Gives, IsTold, IsCourse, IsCarriedOut, IsDone, IsTextOf, IsAskedText, WritesCourse, WritesBlock}
use Rattle.xdir.specs.Taken.{IsCommand, point}
use Rattle.xdir.specs.declared.lines.Course.{Course}
use Rattle.xdir.specs.declared.top.Status.{Status}
use Rattle.xdir.specs.declared.top.Status.TheVariants.{Done, Refused, Usage, ReadFault, WriteFault, NoMemory, Inconsistent, TooLong}
use Rattle.xdir.proofs.Ends.{wrote_more, broke_more}
use Rattle.xdir.proofs.Named.{named, reply_is_known}
use Rattle.xdir.proofs.Sound.{other_is_broken}

-- ---- whom messages name

module _ (names : List (List ℕ)) where
  line_is : (l : Message) → line_names_agents names l ≡ true → line_known names l ≡ true
  line_is (Msg None to operation progress t target fate) e = named names to e
  line_is (Msg (Some from) to operation progress t target fate) e =
      let b = both_true (is_agent names from) (is_agent names to) e in
      and_true (is_known names from) (is_known names to) (named names from b.0) (named names to b.1)
  line_is (Dis from to operation agreement fate) e =
      let b = both_true (is_agent names from) (is_agent names to) e in
      and_true (is_known names from) (is_known names to) (named names from b.0) (named names to b.1)
  line_is (Raw to dsp count fate) e = named names to e

  pub lines_are : (ls : List Message) → list_all (line_names_agents names) ls ≡ true → list_all (line_known names) ls ≡ true
  lines_are [] e = refl
  lines_are (l ∷ more) e =
      let b = both_true (line_names_agents names l) (list_all (line_names_agents names) more) e in
      and_true (line_known names l) (list_all (line_known names) more) (line_is l b.0) (lines_are more b.1)

  accepted_are : (agents : List (List ℕ)) → list_all (is_agent names) agents ≡ true → list_all (is_known names) agents ≡ true
  accepted_are [] e = refl
  accepted_are (a ∷ more) e =
      let b = both_true (is_agent names a) (list_all (is_agent names) more) e in
      and_true (is_known names a) (list_all (is_known names) more) (named names a b.0) (accepted_are more b.1)

  pub answer_known : (reply : Reply) (journal : Journal) → NamesAgents names reply journal
      → block_known names journal (Answered reply) ≡ true
  answer_known reply journal n =
      and_true (journal_known names journal) (reply_known names reply)
      (and_true (list_all (line_known names) journal.lines) (list_all (is_known names) journal.accepted)
      (lines_are journal.lines n.lines) (accepted_are journal.accepted n.accepted))
      (reply_is_known names reply n.reply)

-- ---- what came of a request

abbrev answered : Journal → Reply → Course
answered journal reply = record { journal = journal; outcome = Answered reply }

pub course_of : (old new : Net) (p : Point) (to : ℕ) (r : Request) (reply : Reply) (journal : Journal) → StandsAt old p
    → IsAnswered old new p to (opening r) reply journal → NamesAgents old.names reply journal
    → IsCourse p (Asks to r) new (answered journal reply)
course_of old new p to r reply journal stands a n =
    let told : IsTold old.names (Asks to r) journal (Answered reply) (model.Replies a.whole (reply_view old.names reply)) =
    (a.whole, (a.lines, a.accepted), refl) in
    record {
      block = model.Replies a.whole (reply_view old.names reply);
      gives = record { is = a.asked; stands = a.stands };
      told = subst (λ (ns : List (List ℕ)). IsTold ns (Asks to r) journal (Answered reply) (model.Replies a.whole (reply_view old.names reply))) stands.names told;
      known = subst (λ (ns : List (List ℕ)). block_known ns journal (Answered reply) ≡ true) stands.names (answer_known old.names reply journal n);
    }

-- ---- what came of an outage or a loss

pub changed_course : (p : Point) (outage : Outage) (net : Net) (c : Course) → c ≡ record { journal = record { lines = []; accepted = [] }; outcome = Set }
    → StandsAt net (after (did_by (Changes outage) model.Set) p) → IsCourse p (Changes outage) net c
changed_course p outage net c e stands =
    subst (IsCourse p (Changes outage) net) (sym e)
    (record { block = model.Set; gives = record { is = tt; stands = stands }; told = refl; known = refl })

pub lost_course : (p : Point) (reply : Bool) (k : ℕ) (net : Net) (c : Course) → c ≡ record { journal = record { lines = []; accepted = [] }; outcome = Set }
    → StandsAt net (after (did_by (Drops reply k) model.Set) p) → IsCourse p (Drops reply k) net c
lost_course p reply k net c e stands =
    subst (IsCourse p (Drops reply k) net) (sym e)
    (record { block = model.Set; gives = record { is = tt; stands = stands }; told = refl; known = refl })

-- ---- what came of a refresh where knowledge isn't consistent

not_refreshed : (p : Point) (number : ℕ) (pushes total : Bool) → (IsConsistent p.described → ⊥)
    → refresh.ended [] refresh.NotConsistent ≡ refresh.refresh_block p number pushes total
not_refreshed p number pushes total other =
    let e : is_some (first_breach p.described) ≡ true = other_is_broken p.described other in
    rw e

pub unrefreshed_course : (p : Point) (number : ℕ) (pushes total : Bool) (net : Net) (c : Course)
    → c ≡ record { journal = record { lines = []; accepted = [] }; outcome = NotConsistent } → (IsConsistent p.described → ⊥)
    → StandsAt net (after (did_by Blank Silent) p) → IsCourse p (Updates number pushes total) net c
unrefreshed_course p number pushes total net c e other stands =
    subst (IsCourse p (Updates number pushes total) net) (sym e) (record {
      block = model.Refreshing (refresh.ended [] refresh.NotConsistent);
      gives = record { is = not_refreshed p number pushes total other; stands = stands };
      told = (refl, refl);
      known = refl;
    })

-- ---- what came of a refresh over consistent knowledge

abbrev refreshed : Refreshment → ℕ → Course
refreshed r number = record {
  journal = record { lines = r.lines; accepted = [] };
  outcome = outcomes.Refreshed number r.became r.heard;
}

refreshing_known : (names : List (List ℕ)) (r : Refreshment) (number : ℕ) → list_all (line_names_agents names) r.lines ≡ true
    → block_known names (refreshed r number).journal (refreshed r number).outcome ≡ true
refreshing_known names r number n =
    let all : list_all (line_known names) r.lines ≡ true = lines_are names r.lines n in
    rw all

refreshed_course : (p : Point) (number : ℕ) (pushes total : Bool) (old new : Net) (r : Refreshment) → StandsAt old p
    → IsRefreshedAt new p number pushes total r → list_all (line_names_agents old.names) r.lines ≡ true
    → IsCourse p (Updates number pushes total) new (refreshed r number)
refreshed_course p number pushes total old new r stands is n = record {
  block = model.Refreshing (refresh.refresh_block p number pushes total);
  gives = record { is = refl; stands = is.stands };
  told = record {
    refreshing = refresh.refresh_block p number pushes total;
    agreement = refl;
    lines = is.lines;
    outcome = is.outcome;
    is = refl;
  };
  known = refreshing_known (names_of_agents p.described) r number
      (subst (λ (names : List (List ℕ)). list_all (line_names_agents names) r.lines ≡ true) stands.names n);
}

pub refreshed_as : (p : Point) (number : ℕ) (pushes total : Bool) (old new : Net) (r : Refreshment) (c : Course) → refreshed r number ≡ c
    → StandsAt old p → IsRefreshedAt new p number pushes total r → list_all (line_names_agents old.names) r.lines ≡ true
    → IsCourse p (Updates number pushes total) new c
refreshed_as p number pushes total old new r c e stands is n =
    subst (IsCourse p (Updates number pushes total) new) e (refreshed_course p number pushes total old new r stands is n)

-- ---- what was carried out

pub carried : (p : Point) (command : Command) (net : Net) (o : Option Course) (c : Course) → o ≡ Some c → IsCarriedOut p command net o
    → IsCourse p command net c
carried p command net o c e h = subst (IsCarriedOut p command net) e h

pub silent : (p : Point) (command : Command) (net : Net) (o : Option Course) → o ≡ None → IsCarriedOut p command net o
    → Gives p command net Silent
silent p command net o e h = subst (IsCarriedOut p command net) e h

-- ---- what was done of what a line asks for

-- an agent at a place among the names
agent_there : (agents : List Agent) (a : ℕ) → a < length (map (λ (x : Agent). x.name) agents) → (x : Agent) × (slice_get agents a ≡ Some x)
agent_there [] a l = absurd (omega (arith, l))
agent_there (x ∷ more) zero l = (x, refl)
agent_there (x ∷ more) (suc a) l = agent_there more a (omega (arith, l))

abbrev both : ℕ → Chained → ℕ × Chained
both to m = (to, m)

-- of the network of a line
there_in : (net : Net) (p : Point) (to : ℕ) → StandsAt net p → to < length net.names → to < length (names_of_agents p.described)
there_in net p to s l = subst (λ (names : List (List ℕ)). to < length names) s.names l

-- a message with short names may be sent to an agent of the world
may_send : (w : World) (command : Command) (to : ℕ) (m : Chained) → sent_by command ≡ Some (both to m)
    → to < length (names_of_agents w) → HasShortNames m.request.body → IsAskable w command
may_send w command to m sends there short = λ first q e.
    let same : both to m ≡ both first q =
    ap (λ (o : Option (ℕ × Chained)). in_option (both to m) (λ x. x) o) (sym sends ∙ e) in
    subst (λ (x : ℕ × Chained). HasAgent w x.0 × (length (target_of x.1.request.body) ≤ 16)
    × ((name : Name) → new_name x.1.request.body ≡ Some name → length name ≤ 16)) same
    (agent_there w.agents to there, short.target, short.new_name)

-- a command of a run that sends no message of the user
may_send_none : (w : World) (command : Command) → sent_by command ≡ None → IsAskable w command
may_send_none w command none = λ first m e. (let no : None ≡ Some (first, m) = sym none ∙ e in cc)

pub done_as : (p : Point) (command : Command) → sent_by command ≡ None → (net : Net) (o : Option Course)
    → IsCarriedOut p command net o → IsDone p (script.Runs command) net o
done_as p command none net o carried = record {
  command = command;
  is = refl;
  askable = may_send_none p.described command none;
  carried = carried;
}

pub done_asking : (p : Point) (to : ℕ) (r : Request) (old net : Net) (o : Option Course) → StandsAt old p → to < length old.names
    → HasShortNames r.body → IsCarriedOut p (Asks to r) net o → IsDone p (script.Runs (Asks to r)) net o
done_asking p to r old net o s there short carried = record {
  command = Asks to r;
  is = refl;
  askable = may_send p.described (Asks to r) to (opening r) refl (there_in old p to s there)
      short;
  carried = carried;
}

-- ---- what came of octets

abbrev handed : Bool → Journal → ℕ → Reply → Course
handed dsp journal count reply = record { journal = journal; outcome = Handed dsp count reply }

abbrev rejected : Bool → List ℕ → ℕ → Fate → typed.Breach → Course
rejected dsp name count fate breach = record {
  journal = record { lines = []; accepted = [] };
  outcome = Rejected dsp name count fate breach;
}

module _ (old new : Net) (p : Point) (dsp : Bool) (to : ℕ) (octets : List ℕ) (s : StandsAt old p) (there : to < length old.names) where
  abbrev n : ℕ
  n = length octets

  abbrev via : model.Protocol
  via = protocol_view dsp

  abbrev hands : Result Chained Breach → Command
  hands e = model.Hands via to n e

  -- what is done of them, by what they come to
  done_handing : (e : Result Chained Breach) (c : Course) → Comes old.names via octets e → IsAskable p.described (hands e)
      → IsCourse p (hands e) new c → IsDone p (script.Delivers dsp to octets) new (Some c)
  done_handing e c comes askable course = record {
    command = hands e;
    is = (e, subst (λ (names : List (List ℕ)). Comes names via octets e) s.names comes, refl);
    askable = askable;
    carried = course;
  }

  handed_command : (reply : Reply) (journal : Journal) (m : Chained) → IsAnswered old new p to m reply journal
      → NamesAgents old.names reply journal → IsCourse p (hands (Ok m)) new (handed dsp journal n reply)
  handed_command reply journal m a named =
      let told : IsTold old.names (hands (Ok m)) journal (Handed dsp n reply) (model.Handed via n a.whole (reply_view old.names reply)) =
      (a.whole, (a.lines, a.accepted), refl) in
      record {
        block = model.Handed via n a.whole (reply_view old.names reply);
        gives = record { is = (refl, refl, a.asked); stands = a.stands };
        told = subst (λ (ns : List (List ℕ)). IsTold ns (hands (Ok m)) journal (Handed dsp n reply) (model.Handed via n a.whole (reply_view old.names reply))) s.names told;
        known = subst (λ (ns : List (List ℕ)). block_known ns journal (Answered reply) ≡ true) s.names (answer_known old.names reply journal named);
      }

  pub handed_course : (reply : Reply) (journal : Journal) → IsDeliveredAt old new p via to octets (delivered.Answered reply journal)
      → NamesAgents old.names reply journal → IsDone p (script.Delivers dsp to octets) new (Some (handed dsp journal n reply))
  handed_course reply journal d named = by d.read d.comes d.short d.delivered
    where
      by : (e : Result Chained Breach) → Comes old.names via octets e → ((m : Chained) → e ≡ Ok m → HasShortNames m.request.body)
          → IsDelivered old new p via to n e (delivered.Answered reply journal)
          → IsDone p (script.Delivers dsp to octets) new (Some (handed dsp journal n reply))
      by (Ok m) comes short a =
          done_handing (Ok m) (handed dsp journal n reply) comes
          (may_send p.described (hands (Ok m)) to m refl (there_in old p to s there) (short m refl))
          (handed_command reply journal m a named)
      by (Err b) comes short a = absurd a

  pub rejected_course : (name : List ℕ) (fate : Fate) (breach : typed.Breach) → IsDeliveredAt old new p via to octets (delivered.Rejected name fate breach)
      → is_agent old.names name ≡ true → IsDone p (script.Delivers dsp to octets) new (Some (rejected dsp name n fate breach))
  rejected_course name fate breach d is = by d.read d.comes d.delivered
    where
      by : (e : Result Chained Breach) → Comes old.names via octets e → IsDelivered old new p via to n e (delivered.Rejected name fate breach)
          → IsDone p (script.Delivers dsp to octets) new (Some (rejected dsp name n fate breach))
      by (Ok m) comes a = absurd a
      by (Err b) comes a =
          done_handing (Err b) (rejected dsp name n fate breach) comes (may_send_none p.described (hands (Err b)) refl) (record {
            block = model.Rejected (model.raw_to p via to n) b;
            gives = record { is = (refl, refl); stands = a.3 };
            told = (λ i. model.Rejected (record {
              protocol = via;
              receiver = (sym a.0 ∙ ap (λ (ns : List (List ℕ)). agent_of ns name) s.names) i;
              count = n;
              fate = sym a.1 i;
            }) (sym a.2 i));
            known = subst (λ (ns : List (List ℕ)). is_known ns name ≡ true) s.names (named old.names name is);
          })

-- ---- what is printed of it

pub is_text_of : (f : File) (line : ℕ) (c : Course) (text : List ℕ)
    → (block_known (names_of_agents f.world) c.journal c.outcome ≡ true
    → report.IsBlockText (names_of f.world (moment_text f.start)) (names_of_agents f.world) line c.journal c.outcome text)
    → IsTextOf f line c text
is_text_of f line c text prints = record { prints = λ command b told known. by c.journal c.outcome command b told (prints known) }
  where
    by : (j : Journal) (o : LineOutcome) (command : Command) (b : Block) → IsTold (names_of_agents f.world) command j o b
        → report.IsBlockText (names_of f.world (moment_text f.start)) (names_of_agents f.world) line j o text
        → text ≡ print.block_text (names_of f.world (moment_text f.start)) line command b
    by j Set command b told is =
        is command ∙ ap (λ (x : Block). print.block_text (names_of f.world (moment_text f.start)) line command x) (sym told)
    by j (Answered reply) command b told is =
        is command told.0 told.1
        ∙ ap (λ (x : Block). print.block_text (names_of f.world (moment_text f.start)) line command x) (sym told.2)
    by j (Plain reply) command b told is = absurd told
    by j (outcomes.Refreshed number g heard) command b told is =
        is command told.refreshing told.agreement told.lines told.outcome
        ∙ ap (λ (x : Block). print.block_text (names_of f.world (moment_text f.start)) line command x) (sym told.is)
    by j (Handed dsp count reply) command b told is =
        is command told.0 told.1
        ∙ ap (λ (x : Block). print.block_text (names_of f.world (moment_text f.start)) line command x) (sym told.2)
    by j (Rejected dsp to count fate breach) command b told is =
        is command ∙ ap (λ (x : Block). print.block_text (names_of f.world (moment_text f.start)) line command x) (sym told)
    by j NotConsistent command b told is =
        is command (refresh.ended [] refresh.NotConsistent) (sym (ap (λ (ls : List Message). shadows_view (names_of_agents f.world) ls) told.0)) refl
        ∙ ap (λ (x : Block). print.block_text (names_of f.world (moment_text f.start)) line command x) (sym told.1)

pub is_text_at : (f : File) (line : ℕ) (c : Course) (text shown : List ℕ) → shown ≡ text
    → (block_known (names_of_agents f.world) c.journal c.outcome ≡ true
    → report.IsBlockText (names_of f.world (moment_text f.start)) (names_of_agents f.world) line c.journal c.outcome text)
    → IsTextOf f line c shown
is_text_at f line c text shown e prints = subst (IsTextOf f line c) (sym e) (is_text_of f line c text prints)

module _ (f : File) (past : List Did) (line : ℕ) (a : Asked) (command : Command) (net : Net) (is : IsCommand (names_of_agents f.world) a command)
    (askable : IsAskable f.world command) where
  block_text_of : (c : Course) → IsCourse (point f.world past) command net c → (text : List ℕ) → IsTextOf f line c text
      → IsAskedText f past line a net text
  block_text_of c course text shown = record {
    command = command;
    is = is;
    askable = askable;
    text_is = record { block = course.block; gives = course.gives; printed = shown.prints command course.block course.told course.known };
  }

  pub writes_course : (c : Course) → IsCourse (point f.world past) command net c → (status : Status) (old new : Option (List ℕ)) (before after : ℕ)
      → WritesCourse status f line c old new before after → WritesBlock status f past line a net old new before after
  writes_course c course Done old new before after w = wrote_more (block_text_of c course) old new w
  writes_course c course WriteFault old new before after w = (w.0, broke_more (block_text_of c course) old new w.1)
  writes_course c course NoMemory old new before after w = w
  writes_course c course Refused old new before after w = absurd w
  writes_course c course Usage old new before after w = absurd w
  writes_course c course ReadFault old new before after w = absurd w
  writes_course c course Inconsistent old new before after w = absurd w
  writes_course c course TooLong old new before after w = absurd w

  -- a comment has no block
  pub writes_nothing : (old : Option (List ℕ)) (before after : ℕ) → Gives (point f.world past) command net Silent
      → WritesBlock Done f past line a net old old before after
  writes_nothing old before after gives = record {
    text = [];
    is = record { command = command; is = is; askable = askable; text_is = record { block = Silent; gives = gives; printed = refl } };
    whole = none_more old;
  }
    where
      none_more : (old : Option (List ℕ)) → old ≡ with_octets [] old
      none_more None = refl
      none_more (Some taken) = ap (λ (octets : List ℕ). Some octets) (sym (append-nil taken))
