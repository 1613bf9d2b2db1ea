-- Whom the reply to a request names, beside its references: the agents that an answer comes from, and that of a trace
-- item (X.518, sections 10.6 and 20). Sources are this project's own.
use Rattle.std.specs.Prelude.{◌≡◌, ℕ, nat_lt, Bool, true, ◌&&◌, List}
use Rattle.std.specs.List.{list_all}
use Rattle.std.specs.declared.option.Option.{Option}
use Rattle.std.specs.declared.option.Option.TheVariants.{None, Some}
use Rattle.x5_model.specs.References.{TraceItem}
use Rattle.x5_model.specs.Answers.{Source, Answer, EntryFound, Matched, Listed, Found, Changed, DirError, NoSuchObject}
use Rattle.x5_model.specs.Answers.{AttributeProblem, UpdateProblem, ServiceProblem, Reply, Answered, Failed, Referred}
use Rattle.x5_model_run.specs.Journal.{Journal}
use Rattle.x5_model_run.specs.Chain.{Scene}
use Rattle.x5_model_serve.specs.Serving.{Hand, Serves, Does, IsRequest}
use Rattle.x5_model_heard.specs.Told.{reply_names}
use Rattle.x5_model_known.specs.Holding.{HoldAgents, AreThemselves}

-- sources at agents of a world that has so many
abbrev pub sources_name : ℕ → List Source → Bool
sources_name n sources = list_all (λ x. nat_lt x.agent n) sources

abbrev pub answer_sources : ℕ → Answer → Bool
answer_sources n (EntryFound info source) = nat_lt source.agent n
answer_sources n (Matched equal copy source) = nat_lt source.agent n
answer_sources n (Listed subs sources o) = sources_name n sources
answer_sources n (Found infos sources o) = sources_name n sources
answer_sources n Changed = true

-- the item by which an agent finds a loop
abbrev pub item_names : ℕ → Option TraceItem → Bool
item_names n None = true
item_names n (Some i) = nat_lt i.agent n

abbrev pub error_items : ℕ → DirError → Bool
error_items n (NoSuchObject name) = true
error_items n (AttributeProblem k t) = true
error_items n (UpdateProblem k) = true
error_items n (ServiceProblem k r i) = item_names n i

abbrev pub reply_sources : ℕ → Reply → Bool
reply_sources n (Answered a) = answer_sources n a
reply_sources n (Failed x) = error_items n x
reply_sources n (Referred r) = true

-- all that a reply names, in its references or beside them
abbrev pub reply_agents : ℕ → Reply → Bool
reply_agents n y = reply_names n y && reply_sources n y

-- Where what agents hold names agents of the world alone, and the request comes to one, so does its reply.
abbrev pub RepliesNameAgents : Type 0
RepliesNameAgents =
    (n : ℕ) (s : Scene) (most : ℕ) (j : Journal) (reply : Reply)
    → HoldAgents n s → AreThemselves n s → nat_lt s.first n ≡ true → IsRequest s most j reply
    → reply_agents n reply ≡ true

-- So it is of what any agent of the world replies to any message.
abbrev pub ServedNameAgents : Type 0
ServedNameAgents =
    (n : ℕ) (s : Scene) (most : ℕ) (k : Hand) (reply : Reply) (i j : Journal)
    → HoldAgents n s → AreThemselves n s → nat_lt k.receiver n ≡ true → Does s most (Serves k reply) i j
    → reply_agents n reply ≡ true
