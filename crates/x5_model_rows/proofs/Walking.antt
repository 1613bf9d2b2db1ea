-- In which order an agent walks the contexts of a search. One agent masters two contexts below one entry, the later key
-- first in the file: it walks them by key. Another's contexts overlap, so that its knowledge isn't consistent: depth
-- first, each context once; of two entries with one key the later one is dropped, and only after the filter; and of two
-- NSSRs at one entry that of the context below is asked first.
use Rattle.std.specs.Prelude.{List, [], ◌∷◌, map}
use Rattle.std.specs.declared.option.Option.TheVariants.{None, Some}
use Rattle.std.proofs.Common.{◌≡◌, refl}
use lib.Chars.{codes}
use Rattle.x5_model.specs.Values.{Known, TextValue, Name}
use Rattle.x5_model.specs.Entries.{Named}
use Rattle.x5_model.specs.Filters.{Is, Equality}
use Rattle.x5_model.specs.Requests.{WholeSubtree, Search, Only, Request}
use Rattle.x5_model.specs.References.{Chained}
use Rattle.x5_model.specs.Answers.{Found, Answered}
use Rattle.x5_model_tree.specs.World.{Context, Agent, World}
use Rattle.x5_model_tree.specs.Consistent.{breach, NamePrinted, first_breach, IsConsistent}
use Rattle.x5_model_run.specs.Holdings.{Held, Holdings}
use Rattle.x5_model_run.specs.Needs.{evaluated}
use Rattle.x5_model_run.specs.History.{holdings_at}
use Rattle.x5_model_run.specs.Chain.{opening}
use Rattle.x5_model_serve.specs.Walking.{entered, left}
use Rattle.x5_model_serve.specs.Answering.{local_part, rest_of_parts}
use Rattle.x5_model_rows.proofs.Literals.{rdn, under, class, one, text, named, plainly}
use Rattle.x5_model_rows.proofs.BaseWorld.{nl, acme, desk, lab_rdn, lab, jan, shop, ada, nl_entry, acme_entry}
use Rattle.x5_model_rows.proofs.BaseWorld.{desk_entry, jan_entry, shop_entry, ada_entry, lab_context, shop_context}
use Rattle.x5_model_rows.proofs.BaseWorld.{beta, gamma, world_of}
use Rattle.x5_model_rows.proofs.Messages.{point, now, bare, whole_outcome}
use Rattle.x5_model_rows.proofs.Searching.{from_nl}

abbrev pins : List Held → List Name
pins cs = map (λ c. c.prefix) cs

abbrev pub searched : Chained
searched = opening from_nl

-- ---- two contexts below one entry, Shop before Lab in the file
abbrev pub alone : Agent
alone = record {
  name = codes "Alpha";
  superior = None;
  contexts = (record { prefix = nl; entries = nl_entry ∷ acme_entry ∷ desk_entry ∷ []; nssrs = [] }) ∷ shop_context ∷
      lab_context ∷ [];
  subordinate = [];
  cross = [];
  crosses = [];
}

abbrev pub two_below : World
two_below = world_of (alone ∷ []) []

pub consistent_below : IsConsistent two_below
consistent_below =
    record {
      one_master = refl;
      parents = refl;
      no_longer_pin = refl;
      references = refl;
      shadows = refl;
      known_below = refl;
      members = refl;
      top_known = refl;
      superiors = refl;
      supplied = refl;
    }

abbrev pub held_below : Holdings
held_below = holdings_at (point two_below []) 0

pub as_in_the_file : pins (evaluated held_below searched) ≡ nl ∷ shop ∷ lab ∷ []
as_in_the_file = refl

pub by_key : pins (entered held_below searched) ≡ nl ∷ lab ∷ shop ∷ []
by_key = refl

pub left_by_key : pins (left held_below searched) ≡ lab ∷ shop ∷ nl ∷ []
left_by_key = refl

pub part_by_key : local_part held_below searched
    ≡ Answered (Found (bare nl ∷ bare acme ∷ bare desk ∷ bare lab ∷ bare jan ∷ bare shop ∷ bare ada ∷ [])
    (now nl 0 ∷ now lab 0 ∷ now shop 0 ∷ []) whole_outcome)
part_by_key = refl

-- ---- contexts that overlap: that of NL has an entry at the pin Acme, spelled otherwise, and one below it
abbrev pub loud : Name
loud = under nl (rdn 10 (codes "ACME") (codes "acme"))

abbrev pub loud_lab : Name
loud_lab = under loud lab_rdn

abbrev pub loud_entry : Named
loud_entry = named loud (class 4 ∷ one 10 (text (codes "ACME") (codes "acme")) ∷ [])

abbrev pub loud_lab_entry : Named
loud_lab_entry = named loud_lab (class 5 ∷ one 11 (text (codes "Lab") (codes "lab")) ∷ [])

abbrev pub layered : Agent
layered = record {
  name = codes "Alpha";
  superior = None;
  contexts =
      (record {
        prefix = nl;
        entries = nl_entry ∷ loud_entry ∷ loud_lab_entry ∷ [];
        nssrs =
            (record { at = loud; agents = 1 ∷ [] }) ∷ [];
      })
      ∷ (record {
        prefix = acme;
        entries = acme_entry ∷ shop_entry ∷ [];
        nssrs =
            (record { at = acme; agents = 2 ∷ [] }) ∷ [];
      })
      ∷ (record { prefix = jan; entries = jan_entry ∷ []; nssrs = [] })
      ∷ (record { prefix = ada; entries = ada_entry ∷ []; nssrs = [] })
      ∷ (record { prefix = desk; entries = desk_entry ∷ []; nssrs = [] })
      ∷ [];
  subordinate = [];
  cross = [];
  crosses = [];
}

abbrev pub overlaps : World
overlaps = world_of (layered ∷ (record beta { contexts = [] }) ∷
    (record gamma { superior = Some 0; contexts = [] }) ∷ []) []

pub overlap_is_told : first_breach overlaps ≡ Some (breach 3 (NamePrinted loud) (NamePrinted acme))
overlap_is_told = refl

-- each context as the file gives it, since here it isn't the part of one tree
abbrev pub as_described : Context → Held
as_described c = record { prefix = c.prefix; entries = c.entries; subordinate = []; nssrs = c.nssrs }

abbrev pub held_over : Holdings
held_over = record {
  me = 0;
  superior = None;
  own = map as_described layered.contexts;
  copies = [];
  root = [];
  cross = [];
}

-- Level by level Desk has two places, since both NL and Acme have the entry above it, and Jan comes before Ada.
pub by_level : pins (evaluated held_over searched) ≡ nl ∷ acme ∷ jan ∷ desk ∷ ada ∷ desk ∷ []
by_level = refl

-- The walk goes through Acme before it comes to Jan, and to Desk there, once.
pub depth_first : pins (entered held_over searched) ≡ nl ∷ acme ∷ desk ∷ ada ∷ jan ∷ []
depth_first = refl

-- Acme is told once, as NL has it; the sources are in the order of the walk.
pub first_counts : local_part held_over searched
    ≡ Answered (Found (bare nl ∷ bare loud ∷ bare desk ∷ bare loud_lab ∷ bare jan ∷ bare shop ∷ bare ada ∷ [])
    (now nl 0 ∷ now acme 0 ∷ now desk 0 ∷ now ada 0 ∷ now jan 0 ∷ []) whole_outcome)
first_counts = refl

-- Where only the later one passes the filter, that one is told: nothing was dropped before.
abbrev pub for_tools : Request
for_tools = plainly (Search nl WholeSubtree (Is (Equality
    (record { kind = Known 13; value = TextValue (codes "tools"); normal = Some (codes "tools") }))) (Only []))

pub later_passes : local_part held_over (opening for_tools)
    ≡ Answered (Found (bare acme ∷ []) (now nl 0 ∷ now acme 0 ∷ now desk 0 ∷ now ada 0 ∷ now jan 0 ∷ []) whole_outcome)
later_passes = refl

-- Both NSSRs are at one entry; that of Acme is asked first, since NL's comes after all below NL.
pub below_asked_first : map (λ r. r.agents) (rest_of_parts held_over searched) ≡ (2 ∷ []) ∷ (1 ∷ []) ∷ []
below_asked_first = refl
