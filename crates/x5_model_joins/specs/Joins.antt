-- How the parts of a list or search are joined: what the sources of both tell together (X.518, sections 19.3 and 21).
use Rattle.std.specs.Prelude.{◌≡◌, ℕ, ◌⊎◌, Bool, true, false, Some, Option, List, [], ◌∷◌, ◌++◌, length, map}
use Rattle.x5_model.specs.Members.{In, Once}
use Rattle.x5_model.specs.Keys.{Key, is_prefix}
use Rattle.x5_model.specs.Values.{key_of}
use Rattle.x5_model.specs.References.{Reference, Chained}
use Rattle.x5_model.specs.Answers.{Source, Answer, Answered}
use Rattle.x5_model_tree.specs.Ask.{rest_of, sources_of}
use Rattle.x5_model_run.specs.Journal.{Line, Journal, is_done}
use Rattle.x5_model_run.specs.Holdings.{may_copy}
use Rattle.x5_model_run.specs.History.{Point, knowledge_at, holdings_at}
use Rattle.x5_model_run.specs.Chain.{Scene, AllLicensed, IsCarried, part_request}
use Rattle.x5_model_run.specs.Covers.{covered_roots, mixed, is_copied, told}
use Rattle.x5_model_run.specs.Blocked.{Asked, IsLost}
use Rattle.x5_model_run.specs.Right.{IsResult}
use Rattle.x5_model_run.specs.Placed.{fits, is_query_below}
use Rattle.x5_model_replies.specs.Replies.{RightReply}
use Rattle.x5_model_parts.specs.Standing.{Stands, StoodAt, CopiesStand}
use Rattle.x5_model_parts.specs.Parts.{asks_for, BeginsHere, rest_needs}
use Rattle.x5_model_serve.specs.Answering.{is_in_order, local_part, unlimited, merged, limited_answer, with_unexplored}
use Rattle.x5_model_serve.specs.Answering.{only_unexplored, to_follow, passed_by, in_vain, is_unavailable}
use Rattle.x5_model_serve.specs.Answering.{rest_of_parts}
use Rattle.x5_model_serve.specs.Serving.{Hand, hand_of, line_for, Unheard, Hears, is_idle}
use Rattle.x5_model_serve.specs.Claims.{SoFar, LiesWithin, Grows, asked_line, serving_of}
use Rattle.x5_model_replies.specs.Heard.{HeardRight, TakenRight}

-- ---- what two answers tell together
-- Sources of parts: no context twice, and each as of now or of a moment at which contexts were the same.
pub record AreParts (p : Point) (sources : List Source) : Type 0 where
  pub once : Once (map (λ x. key_of x.context) sources)
  pub stood : (x : Source) (m : ℕ) → In x sources → x.moment ≡ Some m → StoodAt p m

-- The message n asks of a part what m asks of the whole: by a reference to the part it asks the same of each name
-- there.
pub record AsksPart (m n : Chained) (sources : List Source) : Type 0 where
  pub by_user : Bool
  pub wide : Bool
  pub request_is : n.request ≡ part_request by_user wide n.target m.request
  pub same : (x : Source) (e : Key) → In x sources → is_prefix (key_of x.context) e ≡ true → asks_for n e ≡ asks_for m e

-- the answer is what its sources tell of the message
abbrev pub TellsOf : Point → Answer → Answer → Chained → Type 0
TellsOf p a shown m = rest_of shown ≡ told (is_copied p (sources_of a)) (mixed p (sources_of a)) m

-- What sources tell of a list or search is in the order of keys.
abbrev pub ToldInOrder : Type 0
ToldInOrder =
    (p : Point) (m : Chained) (a : Answer)
    → Stands p → AreParts p (sources_of a) → is_query_below m.request.body ≡ true → TellsOf p a a m
    → is_in_order a ≡ true

-- Before the size limit: what the sources of two answers tell together is the merge of what each tells.
abbrev pub JoinsEntries : Type 0
JoinsEntries =
    (p : Point) (m n : Chained) (a c : Answer)
    → Stands p → AreParts p (sources_of a ++ sources_of c) → fits m ≡ true → is_query_below m.request.body ≡ true
    → AsksPart m n (sources_of c) → TellsOf p a a (unlimited m) → TellsOf p c c n
    → (is_in_order (merged a c) ≡ true) × TellsOf p (merged a c) (merged a c) (unlimited m)

-- With it: where an answer in order is right once it is limited, so is it with a part joined. So a part may be
-- limited before it is joined, or not, and the limit comes last.
abbrev pub JoinsLimited : Type 0
JoinsLimited =
    (p : Point) (m n : Chained) (a c : Answer)
    → Stands p → AreParts p (sources_of a ++ sources_of c) → fits m ≡ true → is_query_below m.request.body ≡ true
    → AsksPart m n (sources_of c) → is_in_order a ≡ true
    → TellsOf p a (limited_answer m.request.controls.size a) m → TellsOf p c c n
    → (is_in_order (merged a c) ≡ true)
    × TellsOf p (merged a c) (limited_answer m.request.controls.size (merged a c)) m

-- A part may be limited before it is joined.
abbrev pub LimitsBefore : Type 0
LimitsBefore =
    (size : Option ℕ) (a c : Answer) → is_in_order a ≡ true → is_in_order c ≡ true
    → rest_of (limited_answer size (merged (limited_answer size a) c)) ≡ rest_of (limited_answer size (merged a c))

-- The limit comes last: with nothing left to be asked, what tells so far is a result.
abbrev pub LimitLast : Type 0
LimitLast =
    (p : Point) (s : Scene) (q : Asked) (lines : List Line) (a : Answer)
    → SoFar p s q lines a [] → IsResult p s q lines (limited_answer q.message.request.controls.size a)

-- ---- parts and references
-- What an agent evaluates on the spot tells, with all references that it needs for the rest still to be asked.
abbrev pub LocalTells : Type 0
LocalTells =
    (p : Point) (s : Scene) (l : Line) (lines : List Line) (stood : ℕ)
    → s.holdings ≡ holdings_at p → BeginsHere p l → In l lines
    → (a : Answer) × (local_part (holdings_at p l.receiver) l.message ≡ Answered a)
    × SoFar p s (asked_line l stood) lines a (rest_of_parts (holdings_at p l.receiver) l.message)

-- The right answer of a part takes the place of the reference by which it was asked;
abbrev pub PartReplaces : Type 0
PartReplaces =
    (p : Point) (s : Scene) (most : ℕ) (l k : Line) (from : Option ℕ) (j : Journal) (stood : ℕ) (a c : Answer)
    (r : Reference) (rest : List Reference)
    → BeginsHere p l → In r (rest_needs p l) → AllLicensed s j.lines
    → In k.receiver r.agents → IsCarried from (line_for (hand_of l)) r k.message
    → SoFar p s (asked_line l stood) j.lines a (r ∷ rest) → HeardRight p s most (asked_line l stood) j k (Answered c)
    → SoFar p s (asked_line l stood) j.lines (merged a c) rest

-- and so does a lost reference that covers the same.
abbrev pub LossReplaces : Type 0
LossReplaces =
    (p : Point) (s : Scene) (q : Asked) (lines : List Line) (a : Answer) (r u : Reference) (rest : List Reference)
    → SoFar p s q lines a (r ∷ rest) → IsLost s q lines u → is_done u.progress ≡ true
    → covered_roots (knowledge_at p) u ≡ covered_roots (knowledge_at p) r
    → SoFar p s q lines (with_unexplored (u ∷ []) a) rest

-- What is right so far stays so where more messages were sent; how many `accepted` lines stood before is nothing to it.
abbrev pub SoFarStays : Type 0
SoFarStays =
    (p : Point) (s : Scene) (o : Hand) (number : ℕ) (i j : Journal) (a : Answer) (rest : List Reference)
    → Grows i j → SoFar p s (serving_of i o number) i.lines a rest → SoFar p s (serving_of j o number) j.lines a rest

-- The steps of the loop over references: somebody was heard by it, nobody was, or who was heard told of somebody
-- unheard.
abbrev pub PartIsGathered : Type 0
PartIsGathered =
    (p : Point) (s : Scene) (most : ℕ) (from : Option ℕ) (l : Line) (i j : Journal) (a c : Answer) (r : Reference)
    (rest : List Reference)
    → BeginsHere p l → In r (rest_of_parts (holdings_at p l.receiver) l.message) → Grows i j → AllLicensed s j.lines
    → SoFar p s (asked_line l (length i.accepted)) i.lines a (r ∷ rest)
    → TakenRight p s most (asked_line l (length i.accepted)) from (hand_of l) r j (Hears (Answered c))
    → SoFar p s (asked_line l (length j.accepted)) j.lines (merged a c) rest

abbrev pub LossIsGathered : Type 0
LossIsGathered =
    (p : Point) (s : Scene) (most : ℕ) (from : Option ℕ) (o : Hand) (number : ℕ) (i j : Journal) (a : Answer)
    (r : Reference) (rest : List Reference)
    → Grows i j → SoFar p s (serving_of i o number) i.lines a (r ∷ rest)
    → TakenRight p s most (serving_of i o number) from o r j Unheard
    → SoFar p s (serving_of j o number) j.lines (with_unexplored (in_vain r ∷ []) a) rest

abbrev pub UnavailableIsGathered : Type 0
UnavailableIsGathered =
    (p : Point) (s : Scene) (most : ℕ) (from : Option ℕ) (l : Line) (i j : Journal) (a : Answer) (r u : Reference)
    (rest : List Reference)
    → BeginsHere p l → In r (rest_of_parts (holdings_at p l.receiver) l.message) → Grows i j → AllLicensed s j.lines
    → SoFar p s (asked_line l (length i.accepted)) i.lines a (r ∷ rest)
    → TakenRight p s most (asked_line l (length i.accepted)) from (hand_of l) r j (Hears (is_unavailable u))
    → SoFar p s (asked_line l (length j.accepted)) j.lines (with_unexplored (in_vain u ∷ []) a) rest

-- ---- where others follow
-- Where somebody follows what a right reply left unexplored, that reply tells so far, with what nobody tried still to
-- be asked.
abbrev pub FollowTells : Type 0
FollowTells =
    (p : Point) (s : Scene) (q : Asked) (j : Journal) (spent : Bool) (a : Answer)
    → Stands p → (may_copy q.message.request ≡ false) ⊎ CopiesStand p → is_query_below q.message.request.body ≡ true
    → RightReply p s q j spent (Answered a) → LiesWithin p q (Answered a)
    → SoFar p s q j.lines (only_unexplored (passed_by a) a) (to_follow a)

-- Who may not chain answers with what it has, and with all references for the rest, which nobody tried: a result.
abbrev pub IdleTells : Type 0
IdleTells =
    (p : Point) (s : Scene) (l : Line) (j : Journal) (a : Answer)
    → s.holdings ≡ holdings_at p → BeginsHere p l → is_idle s (hand_of l) ≡ true
    → In l j.lines
    → SoFar p s (asked_line l (length j.accepted)) j.lines a (rest_of_parts (holdings_at p l.receiver) l.message)
    → IsResult p s (asked_line l (length j.accepted)) j.lines
    (limited_answer l.message.request.controls.size
    (with_unexplored (rest_of_parts (holdings_at p l.receiver) l.message) a))
