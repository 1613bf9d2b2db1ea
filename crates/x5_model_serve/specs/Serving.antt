-- What agents do with a request, step by step (X.518, sections 17 to 21: request validation, name resolution,
-- evaluation, continuation references, merging). `Does s most x i j` says that x is done from the journal i to the
-- journal j: an agent serves a message; a message is sent; a reply is followed; the agents of a reference are asked
-- in turn; so are the agents of an NSSR, the references of a list or search, the agents of a probe; an update is
-- carried out. `most` is how many messages the request may take.
use Rattle.std.specs.Prelude.{◌≡◌, ℕ, ◌+◌, Bool, true, false, not, ◌&&◌, ◌||◌, ◌==◌, nat_le, List, [], ◌∷◌, ◌++◌}
use Rattle.std.specs.Prelude.{length, if◌then◌else◌}
use Rattle.std.specs.Option.{is_none}
use Rattle.std.specs.declared.option.Option.{Option}
use Rattle.std.specs.declared.option.Option.TheVariants.{None, Some}
use Rattle.std.specs.declared.result.Result.TheVariants.{Ok, Err}
use Rattle.x5_model.specs.Words.{has, is_empty}
use Rattle.x5_model.specs.Values.{Name}
use Rattle.x5_model.specs.Entries.{Named}
use Rattle.x5_model.specs.References.{Reference, Chained}
use Rattle.x5_model.specs.Answers.{Answer, Changed, DirError, NoSuchObject, UpdateProblem, ServiceProblem, Reply}
use Rattle.x5_model.specs.Answers.{Answered, Failed, Referred}
use Rattle.x5_model.specs.Problems.{entry_already_exists, unavailable, unable_to_proceed, invalid_reference}
use Rattle.x5_model.specs.Problems.{administrative_limit_exceeded, loop_detected}
use Rattle.x5_model.specs.Statics.{fault_of}
use Rattle.x5_model_tree.specs.Ask.{is_update}
use Rattle.x5_model_tree.specs.Apply.{UpdatedEntries, apply_over}
use Rattle.x5_model_run.specs.Network.{Lost, NoReply, Sent, refuses, fate_of}
use Rattle.x5_model_run.specs.Journal.{Line, Journal, same_item, item_of, is_wide}
use Rattle.x5_model_run.specs.Holdings.{Held, Copy, Holdings, ground_at}
use Rattle.x5_model_run.specs.Needs.{resolves, subset_of, due_probes}
use Rattle.x5_model_run.specs.Chain.{Scene, carried}
use Rattle.x5_model_run.specs.Placed.{fits}
use Rattle.x5_model_serve.specs.Committed.{committed}
use Rattle.x5_model_serve.specs.Finding as finding
use Rattle.x5_model_serve.specs.Finding.{find}
use Rattle.x5_model_serve.specs.Answering.{reply_in_own, reply_in_copy, local_part, rest_of_parts, merged}
use Rattle.x5_model_serve.specs.Answering.{with_unexplored, only_unexplored, limited_answer, to_follow, passed_by}
use Rattle.x5_model_serve.specs.Answering.{is_service, in_vain, of_these, is_unavailable, above_next}

-- a message at the agent that has it: what is done for it doesn't look at its number, its sender or its fate
pub record Hand : Type 0 where
  pub receiver : ℕ
  pub message : Chained

abbrev pub hand : ℕ → Chained → Hand
hand a m = record { receiver = a; message = m }

abbrev pub hand_of : Line → Hand
hand_of l = record { receiver = l.receiver; message = l.message }

abbrev pub line_for : Hand → Line
line_for k = record { number = 0; sender = None; receiver = k.receiver; message = k.message; fate = Sent }

-- what the sender hears in the end: nothing, or a reply
pub data Heard : Type 0 where
  Unheard : Heard
  Hears : Reply → Heard

-- the answers of the parts so far, as one, or the error that ends them
pub data Gathered : Type 0 where
  Whole : Answer → Gathered
  Broken : Reply → Gathered

-- The things that are done. Serves: the receiver serves its message, and replies this. Follows: this sender (none is
-- a user who follows) makes that of a reply to its message. Sends: this sender sends for the opener, by a reference,
-- to one of its agents. Tries: the first agents of a reference are asked in vain. Takes: a reference is asked.
-- Spreads: the first agents of an NSSR are asked, of which these weren't heard. Casts: an NSSR is asked. Gathers:
-- references of parts are asked one after the other, from an answer to the next. Probes: the first agents that a
-- probe goes to are asked, of which these weren't heard. Updates: the master carries out an update.
pub data Act : Type 0 where
  Serves : Hand → Reply → Act
  Follows : Option ℕ → Hand → Reply → Reply → Act
  Sends : Option ℕ → Hand → Reference → ℕ → Heard → Act
  Tries : Option ℕ → Hand → Reference → List ℕ → Act
  Takes : Option ℕ → Hand → Reference → Heard → Act
  Spreads : Option ℕ → Hand → Reference → List ℕ → List ℕ → Act
  Casts : Option ℕ → Hand → Reference → Reply → Act
  Gathers : Option ℕ → Hand → List Reference → Answer → Gathered → Act
  Probes : Hand → Reference → List ℕ → List ℕ → Act
  Updates : Hand → Reply → Act

-- ---- messages and journals
-- what is carried by a reference for the message of an opener (X.518, section 10: chaining arguments)
abbrev pub carried_for : Option ℕ → Hand → Reference → Chained
carried_for from o r = carried from o.receiver o.message r

-- the next line, with the fate that the network gives it
abbrev pub line_of : Scene → Journal → Option ℕ → ℕ → Chained → Line
line_of s j from a m = record {
  number = s.sent + length j.lines + 1;
  sender = from;
  receiver = a;
  message = m;
  fate = fate_of s.network (s.sent + length j.lines + 1) from a;
}

-- the next line for an opener, by a reference
abbrev pub next_line : Scene → Journal → Option ℕ → Hand → Reference → ℕ → Line
next_line s j from o r a = line_of s j from a (carried_for from o r)

abbrev pub with_line : Line → Journal → Journal
with_line l j = record j { lines = l ∷ j.lines }

abbrev pub with_accepted : ℕ → Journal → Journal
with_accepted a j = record j { accepted = a ∷ j.accepted }

-- no message is left
abbrev pub is_spent : ℕ → Journal → Bool
is_spent most j = nat_le most (length j.lines)

-- ---- arrival
-- the agent may not chain: the request says so, or the agent refuses (X.511, section 7.5: service controls)
abbrev pub is_idle : Scene → Hand → Bool
is_idle s k = k.message.request.controls.nochain || refuses s.network k.receiver

-- its own item stands in the trace (X.518, section 17: loop detection)
abbrev pub is_looped : Hand → Bool
is_looped k = has same_item k.message.trace (item_of k.receiver k.message)

abbrev pub is_too_long : Hand → Bool
is_too_long k = nat_le 128 (length k.message.trace)

-- what an agent holds by then: where it accepted the update, its entries are those afterwards
abbrev pub holds_now : Scene → Journal → Hand → Holdings
holds_now s j k =
    if has ◌==◌ j.accepted k.receiver then committed s.message.request (s.holdings k.receiver)
    else s.holdings k.receiver

-- it can go on with the name of an update that it accepted before in this line
abbrev pub is_done_here : Scene → Hand → Journal → Bool
is_done_here s k j =
    is_update k.message.request.body
    && (has ◌==◌ j.accepted k.receiver && resolves (holds_now s j k) k.message)

-- the message is looked at: it is no loop, not too long, not done before, and not refused by the request alone; it fits
pub record Arrives (s : Scene) (k : Hand) (j : Journal) : Type 0 where
  pub unlooped : is_looped k ≡ false
  pub short : is_too_long k ≡ false
  pub fresh : is_done_here s k j ≡ false
  pub unrefused : fault_of k.message.request.body ≡ None
  pub fit : fits k.message ≡ true

-- ---- what is found, and what comes of it
abbrev pub found_at : Scene → Journal → Hand → finding.Found
found_at s j k = find (holds_now s j k) k.message

-- the reference by which the agent was asked
abbrev pub asked_by : Hand → Reference
asked_by k = record {
  target = k.message.target;
  progress = k.message.progress;
  kind = k.message.kind;
  agents = k.receiver ∷ [];
  exclusions = k.message.exclusions;
  tried = false;
}

-- it is a list or search, where its base is found
abbrev pub begins_parts : Hand → finding.Found → Bool
begins_parts k (finding.Here c) = not (is_none (subset_of k.message))
begins_parts k (finding.CopyHere c) = not (is_none (subset_of k.message))
begins_parts k finding.Root = not (is_none (subset_of k.message))
begins_parts k finding.Below = true
begins_parts k (finding.Onward r) = false
begins_parts k (finding.Nowhere n) = false
begins_parts k finding.Stuck = false

-- who can't go on says so: unableToProceed where it was asked by a nonSpecific reference, else invalidReference
abbrev pub stuck_problem : Hand → ℕ
stuck_problem k = by (is_wide k.message.kind)
  where
    by : Bool → ℕ
    by true = unable_to_proceed
    by false = invalid_reference

abbrev pub parts_refs : Scene → Journal → Hand → List Reference
parts_refs s j k = rest_of_parts (holds_now s j k) k.message

abbrev pub at_limit : Hand → Answer → Answer
at_limit k a = limited_answer k.message.request.controls.size a

-- what the whole is: the answer, cut by the size limit, or the error that broke it
abbrev pub gathered_reply : Hand → Gathered → Reply
gathered_reply k (Whole a) = Answered (at_limit k a)
gathered_reply k (Broken x) = x

abbrev pub limit_reply : Reply
limit_reply = Failed (ServiceProblem administrative_limit_exceeded None None)

-- A user who follows has no item of his own, so his message could come round unseen until its receiver looks at it. He
-- looks himself, before he sends it, as that one would.
abbrev pub is_held_back : Option ℕ → Hand → Bool
is_held_back None k = is_looped k || is_too_long k
is_held_back (Some a) k = false

abbrev pub held_back : Hand → Reply
held_back k =
    if is_looped k then Failed (ServiceProblem loop_detected None (Some (item_of k.receiver k.message)))
    else limit_reply

abbrev pub heard_or : Reply → Heard → Reply
heard_or other Unheard = other
heard_or other (Hears reply) = reply

-- what the agent makes of the update by its own ground
abbrev pub judged : Scene → Journal → Hand → UpdatedEntries
judged s j k = apply_over (ground_at k.message.request (holds_now s j k)) k.message.request.body

-- there is nothing in the reply that its receiver follows
abbrev pub is_final : Reply → Bool
is_final (Answered a) = is_empty (to_follow a)
is_final (Failed x) = true
is_final (Referred r) = false

-- ---- the relation
pub data Does (s : Scene) (most : ℕ) : Act → Journal → Journal → Type 0 where
  -- Arrival (X.518, section 17). An agent that finds its own item in the trace says so, and gives that item.
  loops : {k : Hand} {j : Journal}
      → is_looped k ≡ true
      → Does s most (Serves k (Failed (ServiceProblem loop_detected None (Some (item_of k.receiver k.message))))) j j
  -- A trace of 128 items is at the limit.
  is_long : {k : Hand} {j : Journal}
      → is_looped k ≡ false → is_too_long k ≡ true
      → Does s most (Serves k limit_reply) j j
  -- An update that the agent has accepted in this line, for a message whose reply was lost, is answered `changed` at
  -- once.
  done_before : {k : Hand} {j : Journal}
      → is_looped k ≡ false → is_too_long k ≡ false → is_done_here s k j ≡ true
      → Does s most (Serves k (Answered Changed)) j j
  -- What is refused by the request alone is refused before any name is resolved (X.511, sections 9 to 12).
  refused : {k : Hand} {j : Journal} (x : DirError)
      → is_looped k ≡ false → is_too_long k ≡ false → is_done_here s k j ≡ false
      → fault_of k.message.request.body ≡ Some x
      → Does s most (Serves k (Failed x)) j j
  -- A message that doesn't fit its request has come by a wrong reference.
  unfit : {k : Hand} {j : Journal}
      → is_looped k ≡ false → is_too_long k ≡ false → is_done_here s k j ≡ false
      → fault_of k.message.request.body ≡ None → fits k.message ≡ false
      → Does s most (Serves k (Failed (ServiceProblem invalid_reference (Some (asked_by k)) None))) j j
  -- Name resolution (X.518, section 18). From its progress the agent can't go on.
  stuck : {k : Hand} {j : Journal}
      → Arrives s k j → found_at s j k ≡ finding.Stuck
      → Does s most (Serves k (Failed (ServiceProblem (stuck_problem k) (Some (asked_by k)) None))) j j
  -- There is no such entry, and the lowest one on the way is told.
  nowhere : {k : Hand} {j : Journal} (n : Name)
      → Arrives s k j → found_at s j k ≡ finding.Nowhere n
      → Does s most (Serves k (Failed (NoSuchObject n))) j j
  -- The name goes on elsewhere: an agent that may not chain replies with the reference,
  refers : {k : Hand} {j : Journal} (r : Reference)
      → Arrives s k j → found_at s j k ≡ finding.Onward r → is_idle s k ≡ true
      → Does s most (Serves k (Referred r)) j j
  -- any other asks the agents of the reference; with none of them heard it is unavailable, by the reference, tried;
  goes : {k : Hand} {i j : Journal} (r : Reference) (heard : Heard)
      → Arrives s k i → found_at s i k ≡ finding.Onward r → is_idle s k ≡ false → is_wide r.kind ≡ false
      → Does s most (Takes (Some k.receiver) k r heard) i j
      → Does s most (Serves k (heard_or (is_unavailable (in_vain r)) heard)) i j
  -- and those of an NSSR until one can go on.
  casts : {k : Hand} {i j : Journal} (r : Reference) (reply : Reply)
      → Arrives s k i → found_at s i k ≡ finding.Onward r → is_idle s k ≡ false → is_wide r.kind ≡ true
      → Does s most (Casts (Some k.receiver) k r reply) i j
      → Does s most (Serves k reply) i j
  -- Evaluation (X.518, section 19). A read or compare is answered from the context that has the entry (19.2),
  reads : {k : Hand} {j : Journal} (c : Held)
      → Arrives s k j → found_at s j k ≡ finding.Here c
      → is_update k.message.request.body ≡ false → subset_of k.message ≡ None
      → Does s most (Serves k (reply_in_own k.receiver k.message c)) j j
  -- or from a copy of it.
  reads_copy : {k : Hand} {j : Journal} (c : Copy)
      → Arrives s k j → found_at s j k ≡ finding.CopyHere c → subset_of k.message ≡ None
      → Does s most (Serves k (reply_in_copy k.receiver k.message c)) j j
  -- Where the base of a list or search is found, an agent that may not chain replies with its own part, and with the
  -- references for the rest (19.3);
  gives_parts : {k : Hand} {j : Journal} (a : Answer)
      → Arrives s k j → begins_parts k (found_at s j k) ≡ true → is_idle s k ≡ true
      → local_part (holds_now s j k) k.message ≡ Answered a
      → Does s most (Serves k (Answered (at_limit k (with_unexplored (parts_refs s j k) a)))) j j
  -- any other asks them, one after the other, and joins the parts.
  asks_parts : {k : Hand} {i j : Journal} (a : Answer) (whole : Gathered)
      → Arrives s k i → begins_parts k (found_at s i k) ≡ true → is_idle s k ≡ false
      → local_part (holds_now s i k) k.message ≡ Answered a
      → Does s most (Gathers (Some k.receiver) k (parts_refs s i k) a whole) i j
      → Does s most (Serves k (gathered_reply k whole)) i j
  -- An update is carried out by the agent that has the target in a context of its own (19.1).
  updates : {k : Hand} {i j : Journal} (c : Held) (reply : Reply)
      → Arrives s k i → found_at s i k ≡ finding.Here c → is_update k.message.request.body ≡ true
      → Does s most (Updates k reply) i j
      → Does s most (Serves k reply) i j
  -- Updates (X.511, section 11; X.518, section 19.1). What its own ground refuses is refused.
  not_done : {k : Hand} {j : Journal} (x : DirError)
      → judged s j k ≡ Err x
      → Does s most (Updates k (Failed x)) j j
  -- Where no probe is due it is done.
  does : {k : Hand} {j : Journal} (mine : List Named)
      → judged s j k ≡ Ok mine → due_probes (holds_now s j k) k.message ≡ []
      → Does s most (Updates k (Answered Changed)) j (with_accepted k.receiver j)
  -- It is done where each agent that a probe goes to was heard, and can't go on with the new name.
  probes_all : {k : Hand} {i j : Journal} (mine : List Named) (r : Reference)
      → judged s i k ≡ Ok mine → due_probes (holds_now s i k) k.message ≡ r ∷ []
      → Does s most (Probes k r r.agents []) i j
      → Does s most (Updates k (Answered Changed)) i (with_accepted k.receiver j)
  -- Where some weren't heard it is unavailable, by the reference with these agents.
  misses : {k : Hand} {i j : Journal} (mine : List Named) (r : Reference) (a : ℕ) (noted : List ℕ)
      → judged s i k ≡ Ok mine → due_probes (holds_now s i k) k.message ≡ r ∷ []
      → Does s most (Probes k r r.agents (noted ++ a ∷ [])) i j
      → Does s most (Updates k (is_unavailable (of_these (noted ++ a ∷ []) r))) i j
  -- A probe that is answered by an entry says that the new name is taken.
  taken : {k : Hand} {i j l : Journal} (mine : List Named) (r : Reference) (a : ℕ) (before after noted : List ℕ)
      (found : Answer)
      → judged s i k ≡ Ok mine → due_probes (holds_now s i k) k.message ≡ r ∷ [] → r.agents ≡ before ++ a ∷ after
      → Does s most (Probes k r before noted) i j
      → Does s most (Sends (Some k.receiver) k r a (Hears (Answered found))) j l
      → Does s most (Updates k (Failed (UpdateProblem entry_already_exists))) i l
  -- Any other error that a probe brings is the answer.
  breaks : {k : Hand} {i j l : Journal} (mine : List Named) (r : Reference) (a : ℕ) (before after noted : List ℕ)
      (x : DirError)
      → judged s i k ≡ Ok mine → due_probes (holds_now s i k) k.message ≡ r ∷ [] → r.agents ≡ before ++ a ∷ after
      → is_service unable_to_proceed (Failed x) ≡ false → is_service unavailable (Failed x) ≡ false
      → Does s most (Probes k r before noted) i j
      → Does s most (Sends (Some k.receiver) k r a (Hears (Failed x))) j l
      → Does s most (Updates k (Failed x)) i l
  -- Probes go to the agents of the NSSR in their order. None was asked yet;
  no_probe : {k : Hand} {r : Reference} {j : Journal}
      → Does s most (Probes k r [] []) j j
  -- the next one is unable to proceed, so it has no such entry;
  clear : {k : Hand} {r : Reference} {i j l : Journal} {before noted : List ℕ} (a : ℕ) (reply : Reply)
      → is_service unable_to_proceed reply ≡ true
      → Does s most (Probes k r before noted) i j
      → Does s most (Sends (Some k.receiver) k r a (Hears reply)) j l
      → Does s most (Probes k r (before ++ a ∷ []) noted) i l
  -- it couldn't hear its own supplier, and is noted;
  unsure : {k : Hand} {r : Reference} {i j l : Journal} {before noted : List ℕ} (a : ℕ) (reply : Reply)
      → is_service unavailable reply ≡ true
      → Does s most (Probes k r before noted) i j
      → Does s most (Sends (Some k.receiver) k r a (Hears reply)) j l
      → Does s most (Probes k r (before ++ a ∷ []) (noted ++ a ∷ [])) i l
  -- or it wasn't heard, and is noted.
  silent : {k : Hand} {r : Reference} {i j l : Journal} {before noted : List ℕ} (a : ℕ)
      → Does s most (Probes k r before noted) i j
      → Does s most (Sends (Some k.receiver) k r a Unheard) j l
      → Does s most (Probes k r (before ++ a ∷ []) (noted ++ a ∷ [])) i l
  -- A message for the message of an opener (X.518, section 20). A user holds it back that would be a loop, or too long,
  -- and that is the reply;
  holds_back : {from : Option ℕ} {o : Hand} {r : Reference} {j : Journal} (a : ℕ)
      → is_held_back from (hand a (carried_for from o r)) ≡ true
      → Does s most (Sends from o r a (Hears (held_back (hand a (carried_for from o r))))) j j
  -- none is left, and that is the reply;
  spent : {from : Option ℕ} {o : Hand} {r : Reference} {j : Journal} (a : ℕ)
      → is_held_back from (hand a (carried_for from o r)) ≡ false → is_spent most j ≡ true
      → Does s most (Sends from o r a (Hears limit_reply)) j j
  -- the message is lost;
  lost : {from : Option ℕ} {o : Hand} {r : Reference} {j : Journal} (a : ℕ)
      → is_held_back from (hand a (carried_for from o r)) ≡ false → is_spent most j ≡ false → (next_line s j from o r a).fate ≡ Lost
      → Does s most (Sends from o r a Unheard) j (with_line (next_line s j from o r a) j)
  -- it is served, and the reply is lost;
  dropped : {from : Option ℕ} {o : Hand} {r : Reference} {i j : Journal} (a : ℕ) (reply : Reply)
      → is_held_back from (hand a (carried_for from o r)) ≡ false → is_spent most i ≡ false → (next_line s i from o r a).fate ≡ NoReply
      → Does s most (Serves (hand a (carried_for from o r)) reply) (with_line (next_line s i from o r a) i) j
      → Does s most (Sends from o r a Unheard) i j
  -- or the reply is heard, and what it leaves is followed.
  sends : {from : Option ℕ} {o : Hand} {r : Reference} {i j l : Journal} (a : ℕ) (reply final : Reply)
      → is_held_back from (hand a (carried_for from o r)) ≡ false → is_spent most i ≡ false → (next_line s i from o r a).fate ≡ Sent
      → Does s most (Serves (hand a (carried_for from o r)) reply) (with_line (next_line s i from o r a) i) j
      → Does s most (Follows from (hand a (carried_for from o r)) reply final) j l
      → Does s most (Sends from o r a (Hears final)) i l
  -- A reply (X.518, section 20: continuation references). Nothing in it is left to be followed;
  final : {from : Option ℕ} {k : Hand} {j : Journal} (reply : Reply)
      → is_final reply ≡ true
      → Does s most (Follows from k reply reply) j j
  -- a referral is followed as the agent that gave it would have, with that agent's item in the trace;
  referral : {from : Option ℕ} {k : Hand} {i j : Journal} (r : Reference) (heard : Heard)
      → is_wide r.kind ≡ false
      → Does s most (Takes from k r heard) i j
      → Does s most (Follows from k (Referred r) (heard_or (is_unavailable (in_vain r)) heard)) i j
  -- so is one to the agents of an NSSR;
  wide_referral : {from : Option ℕ} {k : Hand} {i j : Journal} (r : Reference) (reply : Reply)
      → is_wide r.kind ≡ true
      → Does s most (Casts from k r reply) i j
      → Does s most (Follows from k (Referred r) reply) i j
  -- unexplored references that nobody tried are asked one after the other, and those that somebody tried passed on.
  unexplored : {from : Option ℕ} {k : Hand} {i j : Journal} (a : Answer) (whole : Gathered)
      → is_final (Answered a) ≡ false
      → Does s most (Gathers from k (to_follow a) (only_unexplored (passed_by a) a) whole) i j
      → Does s most (Follows from k (Answered a) (gathered_reply k whole)) i j
  -- The agents of a reference are asked in their order, the master first, until one is heard (X.518, section 20).
  -- None was asked yet;
  none_yet : {from : Option ℕ} {o : Hand} {r : Reference} {j : Journal}
      → Does s most (Tries from o r []) j j
  -- one more wasn't heard;
  in_vain_too : {from : Option ℕ} {o : Hand} {r : Reference} {i j l : Journal} {before : List ℕ} (a : ℕ)
      → Does s most (Tries from o r before) i j
      → Does s most (Sends from o r a Unheard) j l
      → Does s most (Tries from o r (before ++ a ∷ [])) i l
  -- the next one is heard;
  heard : {from : Option ℕ} {o : Hand} {r : Reference} {i j l : Journal} (before after : List ℕ) (a : ℕ) (reply : Reply)
      → r.agents ≡ before ++ a ∷ after
      → Does s most (Tries from o r before) i j
      → Does s most (Sends from o r a (Hears reply)) j l
      → Does s most (Takes from o r (Hears reply)) i l
  -- or none of them is.
  unheard : {from : Option ℕ} {o : Hand} {r : Reference} {i j : Journal}
      → Does s most (Tries from o r r.agents) i j
      → Does s most (Takes from o r Unheard) i j
  -- The agents of an NSSR are asked in their order until one can go on (X.518, section 20: multi-chaining). None was
  -- asked yet;
  none_asked : {from : Option ℕ} {o : Hand} {r : Reference} {j : Journal}
      → Does s most (Spreads from o r [] []) j j
  -- one more is unable to proceed;
  unable_too : {from : Option ℕ} {o : Hand} {r : Reference} {i j l : Journal} {before noted : List ℕ} (a : ℕ)
      (reply : Reply)
      → is_service unable_to_proceed reply ≡ true
      → Does s most (Spreads from o r before noted) i j
      → Does s most (Sends from o r a (Hears reply)) j l
      → Does s most (Spreads from o r (before ++ a ∷ []) noted) i l
  -- one more wasn't heard, and is noted;
  silent_too : {from : Option ℕ} {o : Hand} {r : Reference} {i j l : Journal} {before noted : List ℕ} (a : ℕ)
      → Does s most (Spreads from o r before noted) i j
      → Does s most (Sends from o r a Unheard) j l
      → Does s most (Spreads from o r (before ++ a ∷ []) (noted ++ a ∷ [])) i l
  -- the next one replies anything else, and that is the reply;
  answered : {from : Option ℕ} {o : Hand} {r : Reference} {i j l : Journal} (before after noted : List ℕ) (a : ℕ)
      (reply : Reply)
      → r.agents ≡ before ++ a ∷ after → is_service unable_to_proceed reply ≡ false
      → Does s most (Spreads from o r before noted) i j
      → Does s most (Sends from o r a (Hears reply)) j l
      → Does s most (Casts from o r reply) i l
  -- all of them are unable, so there is no such entry, and the NSSR's is the lowest;
  nobody_has : {from : Option ℕ} {o : Hand} {r : Reference} {i j : Journal}
      → Does s most (Spreads from o r r.agents []) i j
      → Does s most (Casts from o r (Failed (NoSuchObject (above_next r)))) i j
  -- or some weren't heard, and the name is unavailable, by the reference with these.
  some_silent : {from : Option ℕ} {o : Hand} {r : Reference} {i j : Journal} (noted : List ℕ)
      → is_empty noted ≡ false
      → Does s most (Spreads from o r r.agents noted) i j
      → Does s most (Casts from o r (is_unavailable (of_these noted r))) i j
  -- The references of a list or search, one after the other (X.518, sections 19.3 and 21). None is left;
  no_part : {from : Option ℕ} {o : Hand} {a : Answer} {j : Journal}
      → Does s most (Gathers from o [] a (Whole a)) j j
  -- nobody is heard by one more, and it is left unexplored, tried;
  part_unheard : {from : Option ℕ} {o : Hand} {i j l : Journal} {rs : List Reference} {a b : Answer} (r : Reference)
      → Does s most (Gathers from o rs a (Whole b)) i j
      → Does s most (Takes from o r Unheard) j l
      → Does s most (Gathers from o (rs ++ r ∷ []) a (Whole (with_unexplored (in_vain r ∷ []) b))) i l
  -- who was heard couldn't hear somebody, and that reference is left unexplored, tried;
  part_unavailable : {from : Option ℕ} {o : Hand} {i j l : Journal} {rs : List Reference} {a b : Answer}
      (r u : Reference)
      → Does s most (Gathers from o rs a (Whole b)) i j
      → Does s most (Takes from o r (Hears (is_unavailable u))) j l
      → Does s most (Gathers from o (rs ++ r ∷ []) a (Whole (with_unexplored (in_vain u ∷ []) b))) i l
  -- its answer is merged into the whole;
  part_answered : {from : Option ℕ} {o : Hand} {i j l : Journal} {rs : List Reference} {a b : Answer} (r : Reference)
      (c : Answer)
      → Does s most (Gathers from o rs a (Whole b)) i j
      → Does s most (Takes from o r (Hears (Answered c))) j l
      → Does s most (Gathers from o (rs ++ r ∷ []) a (Whole (merged b c))) i l
  -- or any other error is the answer of the whole.
  part_breaks : {from : Option ℕ} {o : Hand} {i j l : Journal} {a b : Answer} (before after : List Reference)
      (r : Reference) (x : DirError)
      → is_service unavailable (Failed x) ≡ false
      → Does s most (Gathers from o before a (Whole b)) i j
      → Does s most (Takes from o r (Hears (Failed x))) j l
      → Does s most (Gathers from o (before ++ r ∷ after) a (Broken (Failed x))) i l

-- ---- the request of a user
abbrev pub nothing_yet : Journal
nothing_yet = record { lines = []; accepted = [] }

abbrev pub user_line : Scene → Line
user_line s = line_of s nothing_yet None s.first s.message

abbrev pub user_in_vain : Scene → Reply
user_in_vain s = is_unavailable (in_vain (asked_by (hand_of (user_line s))))

-- The user's message is lost; or it is served, and the reply is lost; or it is served, and the user has the reply. He
-- doesn't follow what it leaves. Of a raw message the second and third say what is served; one that is lost has no
-- reply.
pub data IsRequest (s : Scene) (most : ℕ) : Journal → Reply → Type 0 where
  not_heard :
      (user_line s).fate ≡ Lost
      → IsRequest s most (with_line (user_line s) nothing_yet) (user_in_vain s)
  not_told : {j : Journal} (reply : Reply)
      → (user_line s).fate ≡ NoReply
      → Does s most (Serves (hand s.first s.message) reply) (with_line (user_line s) nothing_yet) j
      → IsRequest s most j (user_in_vain s)
  answers : {j : Journal} (reply : Reply)
      → (user_line s).fate ≡ Sent
      → Does s most (Serves (hand s.first s.message) reply) (with_line (user_line s) nothing_yet) j
      → IsRequest s most j reply
