-- Links and the count of messages may change, and it's a network as before; each line leaves room for the next one; and a
-- request that was asked was answered.
use Rattle.std.proofs.Common.{◌≡◌, ℕ, zero, ◌+◌, ◌*◌, ◌<◌, ◌≤◌, ◌==◌, Bool, true, false, List, [], ◌∷◌, length, map, refl, sym, ap, subst, ◌∙◌, arith}
use Rattle.std.proofs.Math.Nat.{le-mul_of_pos_right}
use Rattle.std.proofs.lemmas.List.{reverse-reverse}
use Rattle.x5_model.specs.References.{Chained}
use Rattle.x5_model.specs.Requests.{Request}
use Rattle.x5_model_tree.specs.World.{Network}
use Rattle.x5_model_run.specs.Network.{Outage, Down, Up, Cut, Join, Refuse, Willing, after_outage, after_loss}
use Rattle.x5_model_run.specs.History.{Point}
use Rattle.x5_model_run.specs.Journal as model
use Rattle.x5_model_run.specs.Stage.{budget}
use Rattle.x5_model_run.specs.Chain.{Scene}
use Rattle.x5_model_serve.specs.Serving.{IsRequest}
use Rattle.x5_model_settled.specs.Held.{BySteps}
use Rattle.x5_model_fitting.specs.Requests.{RequestWithin}
use Rattle.x5_ops.specs.AgentNames.{agent_of}
use Rattle.x5_ops.specs.AnswerViews.{reply_view}
use Rattle.x5_ops.specs.JournalViews.{messages_view}
use Rattle.x5_ops.specs.declared.answers.Reply.{Reply}
use Rattle.x5_ops.specs.declared.journal.Journal.{Journal}
use Rattle.x5_world.specs.Answered.{IsAnswered}
use Rattle.x5_model.specs.Words.{has}
use Rattle.x5_world.specs.Logs.{AreNoted, Logs}
use Rattle.x5_world.specs.State.{Net, StandsAt, HasRoom, HasShortNames, holdings_in, logs_in}
use Rattle.x5_world.specs.Sent.{IsChanged, line_view, journal_of, scene_of}
use Rattle.x5_world.specs.declared.journal.Sent.{Sent}
use Rattle.x5_world.proofs.Holding.{has_reverse}
use Rattle.x5_world.proofs.Sending.{many}
use Rattle.x5_world.proofs.Standing.{scene_is, budget_is, most_of, IsAfter, after_message}

-- ---- room

pub one_line_more : (old new : Net) (lines : ℕ) → new.sent ≤ old.sent + 400000000000
    → length new.network.lost_replies ≤ length old.network.lost_replies + 1 → new.line ≡ old.line + 1 → HasRoom old lines
    → HasRoom new (lines + 1)
one_line_more old new lines sent lost line h =
    let a : old.sent ≤ lines * 400000000000 = h.sent in
    let b : new.sent ≤ (lines + 1) * 400000000000 = omega (arith, a, sent) in
    let c : length new.network.lost_replies ≤ (lines + 1) + 16 = (let d = h.lost in omega (arith, d, lost)) in
    let e : new.line ≤ lines + 1 = (let f = h.line in omega (arith, f, line)) in
    record { line = e; sent = b; lost = c }

-- where links aside nothing but the line was counted
pub room_next : (old new : Net) (links : Network) (lines : ℕ) → new ≡ record old { network = links; line = old.line + 1 }
    → length links.lost_replies ≤ length old.network.lost_replies + 1 → HasRoom old lines → HasRoom new (lines + 1)
room_next old new links lines e lost h =
    one_line_more old new lines (let f = ap (λ (n : Net). n.sent) e in omega (arith, f))
    (let f = ap (λ (n : Net). length n.network.lost_replies) e in omega (arith, f, lost)) (ap (λ (n : Net). n.line) e) h

-- so one line more can be counted
pub few_lines : (n : Net) → (lines : ℕ) × (HasRoom n lines × (lines < 100000)) → n.line < 100000
few_lines n h = (let e = h.1.0.line in let f = h.1.1 in omega (arith, e, f))

pub kept_losses : (o : Outage) (n : Network) → (after_outage o n).lost_replies ≡ n.lost_replies
kept_losses (Down a) n = refl
kept_losses (Up a) n = refl
kept_losses (Cut a b) n = refl
kept_losses (Join a b) n = refl
kept_losses (Refuse a) n = refl
kept_losses (Willing a) n = refl

pub one_loss : (reply : Bool) (number : ℕ) (n : Network)
    → length (after_loss reply number n).lost_replies ≤ length n.lost_replies + 1
one_loss true number n = omega arith
one_loss false number n = omega arith

-- a request may take some message
some : (x p z c : ℕ) → c + 34 ≤ x → x + p ≤ z → 0 < z
some x p z c e f = omega arith

pub positive : (c n p l : ℕ) → 0 < ((c + 34) * (n + 9) + p) * (1 + l)
positive c n p l =
    some ((c + 34) * (n + 9)) p (((c + 34) * (n + 9) + p) * (1 + l)) c
    (le-mul_of_pos_right (c + 34) (let h : zero < n + 9 = omega arith in h))
    (le-mul_of_pos_right ((c + 34) * (n + 9) + p) (let h : zero < 1 + l = omega arith in h))

-- ---- what was sent

map_both : {A B C : Type 0} (f : A → B) (g : B → C) (xs : List A) → map g (map f xs) ≡ map (λ x. g (f x)) xs
map_both f g [] = refl
map_both f g (x ∷ xs) = ap (λ zs. g (f x) ∷ zs) (map_both f g xs)

-- what the network comes to, with the messages and the line counted
pub is_after : (old mid inside : Net) (r : Request) (accepted : List ℕ) (count many : ℕ)
    → IsChanged old mid r accepted → inside ≡ mid → count ≡ many
    → IsAfter old (record inside { sent = inside.sent + count; line = inside.line + 1 }) r accepted (old.sent + many)
is_after old mid inside r accepted count many changed same e = record {
  names = ap (λ (n : Net). n.names) (same ∙ changed.rest);
  holds = λ a. ap (λ (n : Net). holdings_in n a) same ∙ changed.holds a;
  network = ap (λ (n : Net). n.network) (same ∙ changed.rest);
  sent = ap (λ (n : Net). n.sent + count) (same ∙ changed.rest) ∙ ap (λ (k : ℕ). old.sent + k) e;
  contexts = ap (λ (n : Net). n.contexts) (same ∙ changed.rest);
  pairs = ap (λ (n : Net). n.pairs) (same ∙ changed.rest);
  agreements = ap (λ (n : Net). n.agreements) (same ∙ changed.rest);
  acked = ap (λ (n : Net). n.acked) (same ∙ changed.rest);
  line = ap (λ (n : Net). n.line + 1) (same ∙ changed.rest);
  notes = λ a h. subst (λ (l : Logs). ∥ AreNoted (old.line + 1) r (holdings_in old a) (logs_in old a) l ∥₁)
      (sym (ap (λ (n : Net). logs_in n a) same)) (changed.notes a h);
  others = λ a h. ap (λ (n : Net). logs_in n a) same ∙ changed.others a h;
}

pub answered : (old new : Net) (p : Point) (first most : ℕ) (m : Chained) (lines : List Sent) (accepted : List ℕ)
    (reply : Reply) (journal : Journal)
    → IsRequest (scene_of old first m) most (journal_of old.names lines accepted) (reply_view old.names reply)
    → most ≡ most_of old
    → messages_view old.names journal.lines ≡ map (λ l. model.printed_line (line_view old.names l)) lines
    → map (agent_of old.names) journal.accepted ≡ accepted → IsAfter old new m.request accepted (old.sent + length lines)
    → first < length old.names → HasShortNames m.request.body → RequestWithin m.request → StandsAt old p
    → IsAnswered old new p first m reply journal
answered old new p first most m lines accepted reply journal asked limit printed named q there short fit s =
    let j : model.Journal = journal_of old.names lines accepted in
    let at_line : BySteps p first m j (reply_view old.names reply) =
    subst (λ (x : Scene). IsRequest x (budget p) j (reply_view old.names reply)) (scene_is old p first m s)
    (subst (λ (k : ℕ). IsRequest (scene_of old first m) k j (reply_view old.names reply))
    (limit ∙ budget_is old p s) asked) in
    record {
      whole = j;
      asked = at_line;
      lines = ap (map model.printed_line) (reverse-reverse (map (line_view old.names) lines))
          ∙ map_both (line_view old.names) model.printed_line lines
          ∙ sym printed;
      accepted = reverse-reverse accepted ∙ sym named;
      stands = after_message old new p first m j (reply_view old.names reply) accepted s there short at_line
          (λ a. has_reverse accepted a)
          (record {
            names = q.names;
            holds = q.holds;
            network = q.network;
            sent = q.sent ∙ ap (λ (k : ℕ). old.sent + k) (sym (many old.names lines accepted));
            contexts = q.contexts;
            pairs = q.pairs;
            agreements = q.agreements;
            acked = q.acked;
            line = q.line;
            notes = q.notes;
            others = q.others;
          })
          fit;
    }
