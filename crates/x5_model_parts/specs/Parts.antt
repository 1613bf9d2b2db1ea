-- How a list or search falls into parts, in the words of the definitions themselves (X.518, section 19): what an agent
-- evaluates on the spot, and what each reference that it needs stands for. So whoever proves an answer right joins the
-- parts, and need not know of the theory below.
use Rattle.std.specs.Prelude.{◌≡◌, ℕ, Bool, true, false, not, ◌&&◌, ◌||◌, ◌⊎◌, ◌↔◌, Option, Some, List, map, ◌++◌}
use Rattle.std.specs.Option.{is_some}
use Rattle.x5_model.specs.Words.{is_empty, in_option}
use Rattle.x5_model.specs.Members.{In, Once}
use Rattle.x5_model.specs.Keys.{Key}
use Rattle.x5_model.specs.Values.{key_of}
use Rattle.x5_model.specs.Requests.{Subset}
use Rattle.x5_model.specs.References.{Reference, Chained}
use Rattle.x5_model_tree.specs.World.{Agreement}
use Rattle.x5_model_tree.specs.Tree.{part}
use Rattle.x5_model_tree.specs.Masters.{agent_at, master_of}
use Rattle.x5_model_tree.specs.Ask.{in_subset}
use Rattle.x5_model_run.specs.Journal.{Line, is_done, is_wide}
use Rattle.x5_model_run.specs.Holdings.{Held, Holdings, may_copy}
use Rattle.x5_model_run.specs.Needs.{subset_of, begins_at, evaluated, answers_root, part_needs, resolution_needs}
use Rattle.x5_model_run.specs.Needs.{copied_needs}
use Rattle.x5_model_run.specs.History.{Point, knowledge_at, tree_at, tree_of_moment, as_of, holdings_at}
use Rattle.x5_model_run.specs.Chain.{IsCarried}
use Rattle.x5_model_run.specs.Covers.{covered_roots, covers, are_apart, touched}
use Rattle.x5_model_run.specs.Placed.{fits}
use Rattle.x5_model_theory.specs.Leading.{IsSound}
use Rattle.x5_model_parts.specs.Standing.{Stands, CopiesStand}

-- The agent begins a list or search here: it came by a nonSpecific reference with a completed name, or the base is the
-- root and this a first-level agent, or the base is found in a context that it may answer from.
abbrev pub begins_here : Holdings → Chained → Bool
begins_here h m = in_option false by (subset_of m)
  where
    by : Subset → Bool
    by subset = (is_done m.progress && is_wide m.kind) || (answers_root h m || not (is_empty (begins_at h m subset)))

-- A line brought a list or search to an agent that begins it here. Where copies may be used, they are of moments at
-- which knowledge was the same.
pub record BeginsHere (p : Point) (l : Line) : Type 0 where
  pub stands : Stands p
  pub agent : is_some (agent_at (knowledge_at p) l.receiver) ≡ true
  pub fit : fits l.message ≡ true
  pub begins : begins_here (holdings_at p l.receiver) l.message ≡ true
  pub copies : (may_copy l.message.request ≡ false) ⊎ CopiesStand p

-- what its receiver evaluates on the spot, by pins; the references that it needs for the rest; and what all of it looks
-- into
abbrev pub spots : Point → Line → List Key
spots p l = map (λ c. key_of c.prefix) (evaluated (holdings_at p l.receiver) l.message)

abbrev pub rest_needs : Point → Line → List Reference
rest_needs p l = part_needs (holdings_at p l.receiver) l.message

abbrev pub looks_into : Point → ℕ → Chained → List Key
looks_into p to m = touched (knowledge_at p) (tree_at p) to m

-- On the spot it evaluates contexts that it masters, with the tree's entries, and copies, with those of the tree as of
-- the last refresh; each once.
abbrev pub IsOwn : Point → Line → Held → Type 0
IsOwn p l c =
    (c.entries ≡ part (tree_at p) (key_of c.prefix)) × (master_of (knowledge_at p) (key_of c.prefix) ≡ Some l.receiver)

pub record IsCopied (p : Point) (l : Line) (c : Held) : Type 0 where
  pub allowed : may_copy l.message.request ≡ true
  pub agreement : Agreement
  pub moment : ℕ
  pub stands : In agreement (knowledge_at p).agreements
  pub consumer : agreement.consumer ≡ l.receiver
  pub context : key_of agreement.context ≡ key_of c.prefix
  pub refreshed : as_of p agreement.number ≡ Some moment
  pub entries : c.entries ≡ part (tree_of_moment p moment) (key_of c.prefix)

abbrev pub SpotsAreRight : Type 0
SpotsAreRight = (p : Point) (l : Line) (c : Held) → BeginsHere p l →
    In c (evaluated (holdings_at p l.receiver) l.message) → IsOwn p l c ⊎ IsCopied p l c

abbrev pub SpotsAreOnce : Type 0
SpotsAreOnce = (p : Point) (l : Line) → BeginsHere p l → Once (spots p l)

-- They are looked into, and no reference covers one.
abbrev pub SpotsAreTouched : Type 0
SpotsAreTouched =
    (p : Point) (l : Line) (q : Key) → BeginsHere p l → In q (spots p l) → In q (looks_into p l.receiver l.message)

abbrev pub SpotsAreApart : Type 0
SpotsAreApart = (p : Point) (l : Line) (q : Key) (r : Reference) → BeginsHere p l → In q (spots p l) →
    In r (rest_needs p l) → covers (knowledge_at p) r q ≡ false

-- Each context that is looked into is evaluated on the spot, or a reference covers it.
abbrev pub AllAreParts : Type 0
AllAreParts = (p : Point) (l : Line) (q : Key) → BeginsHere p l → In q (looks_into p l.receiver l.message)
    → In q (spots p l) ⊎ ((r : Reference) × In r (rest_needs p l) × (covers (knowledge_at p) r q ≡ true))

-- No two references cover a common name, and none stands twice.
abbrev pub PartsAreApart : Type 0
PartsAreApart = (p : Point) (l : Line) → BeginsHere p l → are_apart (knowledge_at p) (rest_needs p l) ≡ true

-- What is asked by a reference looks into what the reference covers of the whole, and into nothing else: its scope.
abbrev pub ScopeIsCovered : Type 0
ScopeIsCovered = (p : Point) (l : Line) (sender : Option ℕ) (r : Reference) (m : Chained) (a : ℕ) (q : Key) →
    BeginsHere p l → In r (rest_needs p l) → In a r.agents
    → IsCarried sender l r m → In q (looks_into p a m) ↔ (In q (looks_into p l.receiver l.message)
    × (covers (knowledge_at p) r q ≡ true))

-- Where no copies may be used, it begins where it comes, so the same holds of it there; else, where it begins.
abbrev pub PartsBegin : Type 0
PartsBegin = (p : Point) (l k : Line) (sender : Option ℕ) (r : Reference) → BeginsHere p l → may_copy l.message.request
    ≡ false → In r (rest_needs p l) → In k.receiver r.agents
    → IsCarried sender l r k.message → BeginsHere p k

abbrev pub PartsGoOn : Type 0
PartsGoOn = (p : Point) (l k : Line) (sender : Option ℕ) (r : Reference) → BeginsHere p l → In r (rest_needs p l) →
    IsCarried sender l r k.message
    → is_some (agent_at (knowledge_at p) k.receiver) ≡ true → begins_here (holdings_at p k.receiver) k.message ≡ true →
    BeginsHere p k

-- What that needs covers no more than the reference does, so what is left out of a part is left out of that part alone.
abbrev pub NeedsAreNested : Type 0
NeedsAreNested = (p : Point) (l k : Line) (sender : Option ℕ) (r u : Reference) (b : Key) → BeginsHere p l →
    In r (rest_needs p l) → In k.receiver r.agents
    → IsCarried sender l r k.message → BeginsHere p k → In u (rest_needs p k) →
    In b (covered_roots (knowledge_at p) u) → covers (knowledge_at p) r b ≡ true

-- whether a list or search asks for an entry, by its name
abbrev pub asks_for : Chained → Key → Bool
asks_for m e = in_option false (λ subset. in_subset subset (key_of m.target) e) (subset_of m)

-- Of what the reference covers, the part asks for the same entries as the whole.
abbrev pub SameAreAsked : Type 0
SameAreAsked = (p : Point) (l : Line) (sender : Option ℕ) (r : Reference) (m : Chained) (e : Key) → BeginsHere p l →
    In r (rest_needs p l)
    → IsCarried sender l r m → covers (knowledge_at p) r e ≡ true → asks_for m e ≡ asks_for l.message e

-- A reference of name resolution, and one to the supplier of a copy that can't be used, goes on with the same question:
-- what is carried looks into the same contexts and asks for the same entries.
abbrev pub SameIsPassedOn : Type 0
SameIsPassedOn =
    (p : Point) (l : Line) (sender : Option ℕ) (r : Reference) (m : Chained) (a : ℕ) → IsSound p → fits l.message ≡ true
    → In r (resolution_needs (holdings_at p l.receiver) l.message
    ++ copied_needs (holdings_at p l.receiver) l.message) → In a r.agents → IsCarried sender l r m
    → (m.request ≡ l.message.request) × ((looks_into p a m ≡ looks_into p l.receiver l.message)
    × ((e : Key) → asks_for m e ≡ asks_for l.message e))
