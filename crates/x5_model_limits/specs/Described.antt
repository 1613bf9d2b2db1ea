-- Worlds whose texts are UTF-8, as those that were read from a file, and histories whose updates and moments are within
-- the limits of messages.
use Rattle.std.specs.Prelude.{Bool, ◌&&◌, List}
use Rattle.std.specs.List.{list_all}
use Rattle.x5_model.specs.Values.{Name, written}
use Rattle.x5_model.specs.Entries.{Stored, Named}
use Rattle.x5_model.specs.Members.{In}
use Rattle.x5_model_tree.specs.World.{Specific, Context, Agent, Agreement, World}
use Rattle.x5_model_run.specs.History.{Acceptance, Deed, Nothing, Outs, Loses, Accepts, Refreshes, Splits}
use Rattle.x5_model_run.specs.History.{Unsplits, Did}
use Rattle.x5_model_run.specs.History.{Point, knowledge_at, as_of}
use Rattle.x5_model_fitting.specs.Names.{Each, are_utf8}
use Rattle.x5_model_fitting.specs.Keeping.{has_utf8}
use Rattle.x5_model_fitting.specs.Requests.{CountWithin, IfThere, RequestWithin}

abbrev pub name_is_utf8 : Name → Bool
name_is_utf8 n = list_all are_utf8 (written n)

abbrev pub stored_is_utf8 : Stored → Bool
stored_is_utf8 a = list_all (λ v. has_utf8 v.value) a.values

abbrev pub entry_is_utf8 : Named → Bool
entry_is_utf8 e = name_is_utf8 e.name && list_all stored_is_utf8 e.entry.attributes

abbrev pub context_is_utf8 : Context → Bool
context_is_utf8 c = name_is_utf8 c.prefix && list_all entry_is_utf8 c.entries

abbrev pub references_are_utf8 : List Specific → Bool
references_are_utf8 ks = list_all (λ k. name_is_utf8 k.pin) ks

abbrev pub agent_is_utf8 : Agent → Bool
agent_is_utf8 a =
    list_all context_is_utf8 a.contexts && (references_are_utf8 a.subordinate && references_are_utf8 a.cross)

abbrev pub world_is_utf8 : World → Bool
world_is_utf8 w = list_all agent_is_utf8 w.agents && list_all (λ g. name_is_utf8 g.context) w.agreements

-- the updates that lines accepted (X.511, section 11)
abbrev pub BoundedDeed : Deed → Type 0
BoundedDeed Nothing = Unit {0}
BoundedDeed (Outs o) = Unit {0}
BoundedDeed (Loses reply k) = Unit {0}
BoundedDeed (Accepts accepted) = Each (λ (x : Acceptance). RequestWithin x.request) accepted
BoundedDeed (Refreshes f) = Unit {0}
BoundedDeed (Splits name a) = Unit {0}
BoundedDeed (Unsplits name) = Unit {0}

abbrev pub BoundedPast : List Did → Type 0
BoundedPast past = Each (λ (d : Did). BoundedDeed d.deed) past

-- the moments of copies, by their agreements (X.525, section 9: last update): four octets have them
abbrev pub BoundedMoments : Point → Type 0
BoundedMoments p = (g : Agreement) → In g (knowledge_at p).agreements → IfThere CountWithin (as_of p g.number)
