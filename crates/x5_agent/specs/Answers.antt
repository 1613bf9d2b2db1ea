-- What an agent makes of a message by what it holds (X.518, sections 18 and 19: name resolution, evaluation), in the
-- words of the definitions of both.
use Rattle.std.specs.Prelude.{◌≡◌, ℕ, ◌≤◌, ◌⊎◌, Bool, true, false, List, [], ◌∷◌, length, map, slice_get}
use Rattle.std.specs.declared.option.Option.TheVariants.{Some}
use Rattle.x5_model.specs.References.{Next, Supplier, Reference, Chained}
use Rattle.x5_model.specs.Answers.{Reply, Answered, Failed, Referred}
use Rattle.x5_model_tree.specs.Ask.{is_update}
use Rattle.x5_model_run.specs.Holdings.{Held, Copy, Holdings}
use Rattle.x5_model_run.specs.Needs.{proceeding}
use Rattle.x5_model_heard.specs.Told.{are_agents}
use Rattle.x5_model_heard.specs.Kept.{looks_at_one}
use Rattle.x5_model_serve.specs.Finding as finding
use Rattle.x5_model_serve.specs.Answering.{reply_in_own, reply_in_copy, local_part, rest_of_parts}
use Rattle.x5_model_serve.specs.Serving.{begins_parts, hand}
use Rattle.x5_holdings.specs.State.{CopyKept, State, holdings_view}
use Rattle.x5_find.specs.Ways as ways
use Rattle.x5_ops.specs.ReferenceViews.{reference_view}
use Rattle.x5_ops.specs.AnswerViews.{answer_view, reply_view}
use Rattle.x5_ops.specs.declared.answers.Answer as ops
use Rattle.x5_ops.specs.declared.references.Reference as refs
use Rattle.x5_merge.specs.Merging.{are_alike}
use Rattle.x5_serve.specs.declared.network.Found.{Found}
use Rattle.x5_serve.specs.declared.network.Found.TheVariants as found

-- a reference by which the name goes on from there names agents of a world that has so many
abbrev pub KnowsThem : ℕ → Holdings → Chained → Type 0
KnowsThem n h m = (r : Reference) → finding.find h m ≡ finding.Onward r → are_agents n r.agents ≡ true

-- What it counts of a name fits an octet (X.518, section 10.5: nextRDNToBeResolved): the RDNs of the longest known pin
-- on the way, and how far a reference leads by which the name goes on.
pub record IsNear (s : State) (m : Chained) : Type 0 where
  pub pin : ways.IsNear s m
  pub onward : (r : Reference) (k : ℕ) → finding.find (holdings_view s) m ≡ finding.Onward r → r.progress ≡ Next k
      → k ≤ 255

-- the target is in a context that is mastered, or in a copy that answers, and this is the reply there
abbrev pub IsReplied : Holdings → Chained → Reply → Type 0
IsReplied h m y =
    ((c : Held) × (finding.find h m ≡ finding.Here c) × (y ≡ reply_in_own h.me m c))
    ⊎ ((c : Copy) × (finding.find h m ≡ finding.CopyHere c) × (y ≡ reply_in_copy h.me m c))

-- the base of a list or search is found there: its own part of the answer, and the references for the rest
pub record IsPartHere (names : List (List ℕ)) (h : Holdings) (m : Chained) (a : ops.Answer) (rs : List refs.Reference) :
    Type 0 where
  pub begins : begins_parts (hand h.me m) (finding.find h m) ≡ true
  pub part : local_part h m ≡ Answered (answer_view names a)
  pub rest : rest_of_parts h m ≡ map (reference_view names) rs
  pub kind : are_alike (a ∷ []) ≡ true

-- What the agent says: of a read or compare the reply, of a list or search its part, of an update that it has the
-- target; or how the name goes on, or that it doesn't.
abbrev pub IsSaid : List (List ℕ) → Holdings → Chained → Found → Type 0
IsSaid names h m (found.Told y) = (looks_at_one m.request.body ≡ true) × IsReplied h m (reply_view names y)
IsSaid names h m (found.Part a rs) = IsPartHere names h m a rs
IsSaid names h m found.Due = (c : Held) × (finding.find h m ≡ finding.Here c) × (is_update m.request.body ≡ true)
IsSaid names h m (found.Onward r) = finding.find h m ≡ finding.Onward (reference_view names r)
IsSaid names h m (found.Nowhere n) = finding.find h m ≡ finding.Nowhere n
IsSaid names h m found.Stuck = finding.find h m ≡ finding.Stuck

-- a copy that may be used has the target, but its answer would be an error, so that its supplier is needed
pub record IsAtSupplier (s : State) (m : Chained) (copy : ℕ) : Type 0 where
  pub kept : CopyKept
  pub held : slice_get s.copies copy ≡ Some kept
  pub found : finding.find (holdings_view s) m ≡ finding.Onward
      (proceeding (length kept.prefix) kept.prefix m.target Supplier (kept.supplier ∷ []))

-- it is an error
abbrev pub is_failed : Reply → Bool
is_failed (Answered a) = false
is_failed (Failed x) = true
is_failed (Referred r) = false
