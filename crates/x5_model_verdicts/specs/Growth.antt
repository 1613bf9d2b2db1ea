-- What may be accepted while a message is sent, and what is answered then.
use Rattle.std.specs.Prelude.{◌≡◌, ℕ, ◌⊎◌, ◌==◌, Bool, true, false, List, length}
use Rattle.std.specs.declared.option.Option.{Option}
use Rattle.x5_model.specs.Words.{is_empty}
use Rattle.x5_model.specs.References.{Reference}
use Rattle.x5_model.specs.Answers.{Changed, DirError, Reply, Answered}
use Rattle.x5_model.specs.Problems.{unable_to_proceed}
use Rattle.x5_model_tree.specs.Ask.{Refuses}
use Rattle.x5_model_run.specs.Journal.{Journal, is_done}
use Rattle.x5_model_run.specs.History.{Point, tree_at}
use Rattle.x5_model_run.specs.Chain.{Scene}
use Rattle.x5_model_run.specs.Covers.{told}
use Rattle.x5_model_run.specs.Blocked.{Asked}
use Rattle.x5_model_run.specs.Right.{heard_whole}
use Rattle.x5_model_replies.specs.Replies.{RightReply}
use Rattle.x5_model_serve.specs.Answering.{is_service}
use Rattle.x5_model_serve.specs.Serving.{Hand, Act, Does, Tries}
use Rattle.x5_model_serve.specs.Claims.{Accepted, Grows}

-- Whatever is done, lines are added in front.
abbrev pub LinesGrow : Type 0
LinesGrow = (s : Scene) (most : ℕ) (x : Act) (i j : Journal) → Does s most x i j → Grows i j

-- Once the update was accepted, the tree has no error for it.
abbrev pub NoErrorAfter : Type 0
NoErrorAfter =
    (p : Point) (s : Scene) (q : Asked) (j : Journal) (x : DirError)
    → Accepted p s j → is_empty j.accepted ≡ false → q.message.request.body ≡ s.message.request.body
    → is_done q.message.progress ≡ false → told (λ key. false) (tree_at p) q.message ≡ Refuses x → ⊥

-- Where it was accepted since a message of it was begun, a right reply is `changed`, or some reply was lost; or its
-- receiver was unable to proceed, of which nothing is said.
abbrev pub AcceptedMeanwhile : Type 0
AcceptedMeanwhile =
    (p : Point) (s : Scene) (q : Asked) (j : Journal) (spent : Bool) (reply : Reply)
    → Accepted p s j → is_empty j.accepted ≡ false → q.message.request.body ≡ s.message.request.body
    → is_done q.message.progress ≡ false → (length j.accepted == q.stood) ≡ false → RightReply p s q j spent reply
    → (reply ≡ Answered Changed)
    ⊎ ((heard_whole j.lines ≡ false) ⊎ (is_service unable_to_proceed reply ≡ true))

-- What is accepted while agents are asked in vain comes with a lost reply.
abbrev pub TriedInVain : Type 0
TriedInVain =
    (s : Scene) (most : ℕ) (from : Option ℕ) (o : Hand) (r : Reference) (agents : List ℕ) (i j : Journal)
    → Does s most (Tries from o r agents) i j
    → (j.accepted ≡ i.accepted) ⊎ (heard_whole j.lines ≡ false)
