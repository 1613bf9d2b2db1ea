-- The world of the worked examples: five agents, four naming contexts and one agreement.
use Rattle.std.specs.Prelude.{false, List, [], ◌∷◌}
use Rattle.std.specs.declared.option.Option.TheVariants.{None, Some}
use lib.Chars.{codes}
use Rattle.x5_model.specs.Values.{Rdn, Name}
use Rattle.x5_model.specs.Entries.{Named}
use Rattle.x5_model_tree.specs.World.{Specific, Context, Agent, Agreement, Network, World}
use Rattle.x5_model_rows.proofs.Literals.{rdn, under, text, one, class, named}

abbrev pub nl : Name
nl = rdn 6 (codes "NL") (codes "nl") ∷ []

abbrev pub acme_rdn : Rdn
acme_rdn = rdn 10 (codes "Acme") (codes "acme")

abbrev pub acme : Name
acme = under nl acme_rdn

abbrev pub desk : Name
desk = under acme (rdn 3 (codes "Desk") (codes "desk"))

abbrev pub lab_rdn : Rdn
lab_rdn = rdn 11 (codes "Lab") (codes "lab")

abbrev pub lab : Name
lab = under acme lab_rdn

abbrev pub jan : Name
jan = under lab (rdn 3 (codes "Jan") (codes "jan"))

abbrev pub shop_rdn : Rdn
shop_rdn = rdn 11 (codes "Shop") (codes "shop")

abbrev pub shop : Name
shop = under acme shop_rdn

abbrev pub ada : Name
ada = under shop (rdn 3 (codes "Ada") (codes "ada"))

-- the entries, with the values of their RDNs
abbrev pub nl_entry : Named
nl_entry = named nl (class 2 ∷ one 6 (text (codes "NL") (codes "nl")) ∷ [])

abbrev pub acme_entry : Named
acme_entry =
    named acme (class 4 ∷ one 10 (text (codes "Acme") (codes "acme")) ∷ one 13 (text (codes "tools") (codes "tools"))
    ∷ [])

abbrev pub desk_entry : Named
desk_entry =
    named desk (class 7 ∷ one 3 (text (codes "Desk") (codes "desk")) ∷ one 4 (text (codes "Desk") (codes "desk")) ∷ [])

abbrev pub lab_entry : Named
lab_entry = named lab (class 5 ∷ one 11 (text (codes "Lab") (codes "lab")) ∷ [])

abbrev pub jan_entry : Named
jan_entry =
    named jan (class 7 ∷ one 3 (text (codes "Jan") (codes "jan")) ∷ one 4 (text (codes "Smit") (codes "smit")) ∷ [])

abbrev pub shop_entry : Named
shop_entry = named shop (class 5 ∷ one 11 (text (codes "Shop") (codes "shop")) ∷ [])

abbrev pub ada_entry : Named
ada_entry =
    named ada (class 7 ∷ one 3 (text (codes "Ada") (codes "ada")) ∷ one 4 (text (codes "Bos") (codes "bos")) ∷ [])

-- the naming contexts
abbrev pub nl_context : Context
nl_context = record { prefix = nl; entries = nl_entry ∷ []; nssrs = [] }

abbrev pub acme_context : Context
acme_context =
    record {
      prefix = acme;
      entries = acme_entry ∷ desk_entry ∷ [];
      nssrs = (record { at = acme; agents = 2 ∷ 3 ∷ [] }) ∷ [];
    }

abbrev pub lab_context : Context
lab_context = record { prefix = lab; entries = lab_entry ∷ jan_entry ∷ []; nssrs = [] }

abbrev pub shop_context : Context
shop_context = record { prefix = shop; entries = shop_entry ∷ ada_entry ∷ []; nssrs = [] }

-- the agents, by their places 0 to 4
abbrev pub to_acme : Specific
to_acme = record { pin = acme; access = record { master = 1; shadows = 4 ∷ [] } }

abbrev pub alpha : Agent
alpha =
    record {
      name = codes "Alpha";
      superior = None;
      contexts = nl_context ∷ [];
      subordinate = to_acme ∷ [];
      cross = [];
      crosses = false ∷ [];
    }

abbrev pub beta : Agent
beta = record {
  name = codes "Beta";
  superior = Some 0;
  contexts = acme_context ∷ [];
  subordinate = [];
  cross = [];
  crosses = [];
}

abbrev pub gamma : Agent
gamma = record {
  name = codes "Gamma";
  superior = Some 1;
  contexts = lab_context ∷ [];
  subordinate = [];
  cross = [];
  crosses = [];
}

abbrev pub delta : Agent
delta = record {
  name = codes "Delta";
  superior = Some 1;
  contexts = shop_context ∷ [];
  subordinate = [];
  cross = [];
  crosses = [];
}

abbrev pub epsilon : Agent
epsilon = record {
  name = codes "Epsilon";
  superior = Some 0;
  contexts = [];
  subordinate = [];
  cross = [];
  crosses = [];
}

abbrev pub first_agreement : Agreement
first_agreement = record { number = 1; supplier = 1; consumer = 4; context = acme }

abbrev pub no_outages : Network
no_outages = record { down = []; refusing = []; cut = []; lost_messages = []; lost_replies = [] }

-- a world of these agents and agreements, and the base world
abbrev pub world_of : List Agent → List Agreement → World
world_of agents agreements = record { agents = agents; agreements = agreements; network = no_outages }

abbrev pub base_world : World
base_world = world_of (alpha ∷ beta ∷ gamma ∷ delta ∷ epsilon ∷ []) (first_agreement ∷ [])
