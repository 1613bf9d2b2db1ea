-- What may be sent or replied between agents of a network is within the limits with agents by their names, and so has
-- octets; and what a receiver reads in these may be sent on.
use Rattle.std.proofs.Common.{◌≡◌, ℕ, ◌≤◌, ◌==◌, nat_le, ◌&&◌, true, false, List, [], ◌∷◌, length, map, refl, sym, ap, subst, ◌∙◌, arith}
use Rattle.std.specs.List.{list_all}
use Rattle.std.proofs.lemmas.List.{length-map}
use Rattle.x5_model.specs.Members.{In, here, there}
use Rattle.x5_model.specs.Words.{distinct}
use Rattle.x5_model.specs.References as model
use Rattle.x5_model.specs.Requests.{Request}
use Rattle.x5_model.specs.Answers.{Answer, EntryFound, Matched, Listed, Found, Changed}
use Rattle.x5_model_tree.specs.Described.{is_agent_name}
use Rattle.x5_model_run.specs.Chain.{opening}
use Rattle.x5_model_run.specs.Network as fates
use Rattle.x5_model_fitting.specs.Requests.{RequestWithin}
use Rattle.x5_model_fitting.specs.Chained.{ChainedWithin}
use Rattle.x5_model_fitting.specs.Replies.{ReplyWithin}
use Rattle.x5_model_limits.specs.Messages.{BoundedMessage}
use Rattle.x5_model_limits.specs.Operations.{answered_by}
use Rattle.x5_model_limits.proofs.Carrying.{opening_bounded}
use Rattle.x5_dapreply.specs.ReplyViews.{told_reply}
use Rattle.x5_dspber.specs.ChainedViews.{told_chained}
use Rattle.x5_ops.specs.JournalViews.{code_view}
use Rattle.x5_ops.specs.ReferenceViews.{chained_view, item_view}
use Rattle.x5_ops.specs.declared.answers.Reply.{Reply}
use Rattle.x5_ops.specs.declared.journal.Operation.{Operation}
use Rattle.x5_ops.specs.declared.journal.Operation.TheVariants as operations
use Rattle.x5_ops.specs.declared.references.Chained.{Chained}
use Rattle.x5_ops.specs.declared.references.TraceItem.{TraceItem}
use Rattle.x5_trace.specs.Items.{same_named}
use Rattle.x5_serve.specs.Sendable.{MayBeSent, MayBeReplied, IsTaken, is_answer_to, replies_to}
use Rattle.x5_serve.specs.declared.network.Carried.{Carried}
use Rattle.x5_serve.specs.declared.network.Carried.TheVariants.{Unheard, Taken}
use Rattle.x5_wire.proofs.Within.{message_within, message_bounded, items_apart, items_plain, reply_within}
use Rattle.x5_world.specs.Arrivals.{arrival_by}

-- ---- messages

pub sent_within : (names : List (List ℕ)) (m : Chained) → MayBeSent names m → ChainedWithin (told_chained m)
sent_within names m h = message_within names m h.bounded h.apart h.plain

pub may_be_sent : (names : List (List ℕ)) (m : Chained) → ChainedWithin (told_chained m) → MayBeSent names m
may_be_sent names m h = record {
  bounded = message_bounded names m h;
  apart = items_apart names m h;
  plain = items_plain names m h;
}

-- what is read is what was sent
pub read_as_sent : (names : List (List ℕ)) (m taken : Chained) → MayBeSent names m
    → told_chained taken ≡ told_chained m → MayBeSent names taken
read_as_sent names m taken h e = may_be_sent names taken (subst ChainedWithin (sym e) (sent_within names m h))

pub arrives_so : (names : List (List ℕ)) (fate : fates.Fate) (taken : Chained) → MayBeSent names taken
    → IsTaken names (arrival_by fate taken)
arrives_so names fates.Lost taken h = tt
arrives_so names fates.NoReply taken h = h
arrives_so names fates.Sent taken h = h

pub unheard_sent : (names : List (List ℕ)) (x : Carried) (m : Chained) → x ≡ Unheard m → IsTaken names x
    → MayBeSent names m
unheard_sent names x m e h = subst (IsTaken names) e h

pub taken_sent : (names : List (List ℕ)) (x : Carried) (m : Chained) → x ≡ Taken m → IsTaken names x
    → MayBeSent names m
taken_sent names x m e h = subst (IsTaken names) e h

-- its trace can be counted
pub short_trace : (names : List (List ℕ)) (m : Chained) → MayBeSent names m → length m.trace ≤ 4294967295
short_trace names m h =
    let few : length (map (item_view names) m.trace) ≤ 128 = h.bounded.few in
    let same = length-map m.trace (item_view names) in omega (arith, few, same)

-- what a user asks
no_items : (names : List (List ℕ)) (l : List TraceItem) → map (item_view names) l ≡ [] → l ≡ []
no_items names [] e = refl
no_items names (x ∷ l) e = absurd (cc e)

pub opening_sent : (names : List (List ℕ)) (m : Chained) (r : Request) → chained_view names m ≡ opening r
    → RequestWithin r → MayBeSent names m
opening_sent names m r e h =
    let none = no_items names m.trace (ap (λ (x : model.Chained). x.trace) e) in
    record {
      bounded = subst BoundedMessage (sym e) (opening_bounded r h);
      apart = ap (distinct same_named) none;
      plain = ap (list_all (λ (i : TraceItem). is_agent_name i.agent)) none;
    }

-- ---- replies

only : (n k : ℕ) → (n == k) ≡ true → In n (k ∷ [])
only n k e = let same : n ≡ k = grind arith in subst (λ (m : ℕ). In m (k ∷ [])) (sym same) here

no_update : {A : Type 0} → false ≡ true → A
no_update e = absurd (cc e)

changed_by : (o : Operation) → (nat_le 6 (code_view o) && nat_le (code_view o) 9) ≡ true
    → In (code_view o) (6 ∷ 7 ∷ 8 ∷ 9 ∷ [])
changed_by operations.Read e = no_update e
changed_by operations.Compare e = no_update e
changed_by operations.List e = no_update e
changed_by operations.Search e = no_update e
changed_by operations.AddEntry e = here
changed_by operations.RemoveEntry e = there here
changed_by operations.ModifyEntry e = there (there here)
changed_by operations.ModifyDn e = there (there (there here))

answer_in : (o : Operation) (a : Answer) → is_answer_to (code_view o) a ≡ true → In (code_view o) (answered_by a)
answer_in o (EntryFound info source) e = only (code_view o) 1 e
answer_in o (Matched equal copy source) e = only (code_view o) 2 e
answer_in o (Listed subs sources outcome) e = only (code_view o) 4 e
answer_in o (Found infos sources outcome) e = only (code_view o) 5 e
answer_in o Changed e = changed_by o e

pub replied_within : (names : List (List ℕ)) (o : Operation) (y : Reply) → list_all is_agent_name names ≡ true
    → MayBeReplied names (code_view o) y → ReplyWithin (told_reply (code_view o) y)
replied_within names o y plain h =
    reply_within names plain (code_view o) y h.bounded h.agents
    (λ a e. answer_in o a (sym (ap (replies_to (code_view o)) e) ∙ h.answers))
