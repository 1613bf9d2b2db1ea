-- The world that is made of a number (docs/FORMATS.md, generated files): a tree of 40 agents, three below each, each
-- with a context of 500 entries, which its superior knows by a subordinate reference or a non-specific one, and nine
-- shadows. It is this project's own.
use Rattle.std.specs.Prelude.{ℕ, zero, suc, ◌&&◌, ◌+◌, ◌*◌, ◌/◌, ◌%◌, ◌==◌, nat_lt, nat_le, if◌then◌else◌, List, []}
use Rattle.std.specs.Prelude.{◌∷◌, ◌++◌, map, codes}
use Rattle.std.specs.List.{concat, filter, join_with_byte}
use Rattle.std.specs.Fmt.{decimal}
use Rattle.x5_model.specs.Values.{Text}
use Rattle.x5_gen.specs.Draws.{after, below}

-- the agents are A0 to A39
abbrev pub agents_count : ℕ
agents_count = 40

-- the entries just below a context's prefix
abbrev pub people_count : ℕ
people_count = 499

-- the agreements, whose suppliers are A1 to A9
abbrev pub agreements_count : ℕ
agreements_count = 9

-- ---- the tree of agents

-- the parts of a prefix below the country; the superior of agent i + 1 is agent i / 3, so there are at most i of them
unfoldable pub units : ℕ → ℕ → Text
units zero i = []
units (suc most) zero = []
units (suc most) (suc i) = units most (i / 3) ++ (codes "/OU=U" ++ decimal (suc i))

-- the prefix of an agent's context
unfoldable pub prefix : ℕ → Text
prefix i = codes "/C=NL" ++ units i i

-- the agents just below another, those whose numbers leave this rest by two: less one and divided by three, a number is
-- the other's
abbrev pub just_below : ℕ → ℕ → List ℕ
just_below s rest =
    filter (λ c. nat_lt c agents_count && (c % 2 == rest)) ((3 * s + 1) ∷ (3 * s + 2) ∷ (3 * s + 3) ∷ [])

-- ---- entries

abbrev pub prefix_class : ℕ → Text
prefix_class zero = codes "2.5.6.2"
prefix_class (suc i) = codes "2.5.6.5"

abbrev pub prefix_entry : Text → Text → Text
prefix_entry at class =
    concat (codes "{\"name\":\"" ∷ at ∷ codes "\",\"attrs\":[\"objectClass=" ∷ class ∷ codes "\"]}" ∷ [])

-- the entry of person j, with a surname of this number
abbrev pub person : Text → ℕ → ℕ → Text
person above j d = concat (codes ",{\"name\":\"" ∷ above ∷ codes "/CN=P" ∷ decimal j
    ∷ codes "\",\"attrs\":[\"objectClass=2.5.6.7\",\"SN=S" ∷ decimal d ∷ codes "\"]}" ∷ [])

-- so many people, each with a surname drawn, where the sequence has come to x
unfoldable pub people : Text → ℕ → ℕ → Text
people above x zero = []
people above x (suc j) = people above x j ++ person above (suc j) (below 100 (after x (suc j)))

-- ---- knowledge

abbrev pub agent_name : ℕ → Text
agent_name i = concat (codes "\"A" ∷ decimal i ∷ codes "\"" ∷ [])

abbrev pub listed : List Text → Text
listed texts = join_with_byte 44 texts

-- a list that stands behind a word, unless it's empty
abbrev pub member_of : Text → List Text → Text → Text
member_of before [] behind = []
member_of before (x ∷ xs) behind = concat (before ∷ listed (x ∷ xs) ∷ behind ∷ [])

-- the non-specific reference at the prefix lists the agents of even numbers just below
abbrev pub nssr : Text → ℕ → Text
nssr at i = member_of (concat (codes ",\"nssr\":[{\"at\":\"" ∷ at ∷ codes "\",\"agents\":[" ∷ []))
    (map agent_name (just_below i 0)) (codes "]}]")

-- agents 1 to 9 have a shadow
abbrev pub shadow : ℕ → Text
shadow c =
    if nat_le c agreements_count then concat (codes ",\"shadows\":[\"A" ∷ decimal (c + 30) ∷ codes "\"]" ∷ []) else []

unfoldable pub reference : ℕ → Text
reference c = concat (codes "{\"kind\":\"subordinate\",\"name\":\"" ∷ prefix c ∷ codes "\",\"master\":\"A" ∷ decimal c
    ∷ codes "\"" ∷ shadow c ∷ codes "}" ∷ [])

-- subordinate references to the agents of odd numbers just below
abbrev pub references : ℕ → Text
references i = member_of (codes ",\"refs\":[") (map reference (just_below i 1)) (codes "]")

-- ---- agents

abbrev pub superior : ℕ → Text
superior zero = []
superior (suc i) = concat (codes ",\"superior\":\"A" ∷ decimal (i / 3) ∷ codes "\"" ∷ [])

abbrev pub context_head : Text → Text
context_head at = concat (codes ",\"contexts\":[{\"prefix\":\"" ∷ at ∷ codes "\",\"entries\":[" ∷ [])

-- the context with a prefix that an agent masters, where the sequence has come to x
abbrev pub context : Text → ℕ → ℕ → Text
context at i x =
    concat (context_head at ∷ prefix_entry at (prefix_class i) ∷ people at x people_count ∷ codes "]" ∷ nssr at i
    ∷ codes "}]" ∷ [])

abbrev pub agent_head : ℕ → Text
agent_head i = concat (codes "{\"name\":\"A" ∷ decimal i ∷ codes "\"" ∷ [])

-- an agent, where the sequence has come to x
abbrev pub agent : ℕ → ℕ → Text
agent i x = concat (agent_head i ∷ superior i ∷ context (prefix i) i x ∷ references i ∷ codes "}" ∷ [])

-- a comma before all but the first
abbrev pub comma : ℕ → Text
comma zero = []
comma (suc i) = codes ","

-- so many agents; each draws the surnames of its people
unfoldable pub agents : ℕ → ℕ → Text
agents x zero = []
agents x (suc i) = agents x i ++ (comma i ++ agent i (after x (people_count * i)))

abbrev pub agreement : ℕ → Text
agreement i = concat (codes "{\"id\":" ∷ decimal i
    ∷ codes ",\"supplier\":\"A" ∷ decimal i ∷ codes "\",\"consumer\":\"A" ∷ decimal (i + 30)
    ∷ codes "\",\"context\":\"" ∷ prefix i ∷ codes "\"}" ∷ [])

unfoldable pub agreements : ℕ → Text
agreements zero = []
agreements (suc i) = agreements i ++ (comma i ++ agreement (suc i))

-- the world file
abbrev pub world_text : ℕ → Text
world_text seed =
    concat (codes "{\"format\":1,\"start\":\"19930101000000Z\",\"agents\":[" ∷ agents seed agents_count
    ∷ codes "],\"agreements\":[" ∷ agreements agreements_count ∷ codes "]}\n" ∷ [])
