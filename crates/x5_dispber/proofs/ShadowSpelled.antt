-- What is written of a message of shadowing that is a value of its type spells it: there is room under it.
use Rattle.std.proofs.Common.{◌≡◌, ℕ, ◌+◌, ◌<◌, ◌≤◌, ◌^◌, Bool, true, false, List, [], ◌∷◌, map, length, arith}
use Rattle.std.specs.declared.option.Option.{Option}
use Rattle.std.specs.declared.option.Option.TheVariants.{None, Some}
use Rattle.x5_model.specs.Entries.{Stored, Named}
use Rattle.x5_model.specs.Values.{Text, StoredValue}
use Rattle.x5_model_messages.specs.Replies.{number_or_vacant}
use Rattle.x5_model_messages.specs.Shadows as shadows
use Rattle.x5_model_messages.specs.Shadows.{Known, NonSpecific, Step, Add, Remove, Modify, Rename, Refresh, Nothing, Total, Steps}
use Rattle.x5_model_messages.specs.Shadows.{Shadow, Request, Coordinate, Update, Done, Failed, shadow_node}
use Rattle.x5_model_messages.specs.Terms.{value_node}
use Rattle.x5_model_octets.specs.Elements.{deepest}
use Rattle.x5_model_typed.specs.Layouts.{Surroundings, layout}
use Rattle.x5_model_typed.specs.Named as named
use Rattle.x5_model_typed.specs.Typed.{Spells}
use Rattle.x5_model_typed.specs.Written.{canonical_octets}
use Rattle.x5_model_typed_laws.specs.Fits.{ClockReadsBack, Fits}
use Rattle.x5_model_typed_laws.proofs.Back.{written_is_spelled}
use Rattle.x5_model_typed_laws.proofs.Table.{messages_apart, messages_read_back}
use Rattle.x5_dapber.proofs.RequestRooms.{Takes, mapped_take, many_take, name_takes, value_takes}
use Rattle.x5_dapber.proofs.Rooms.{Room, has_spelling}
use Rattle.x5_dapber.proofs.Tags.{good_tags}

-- ---- entries and references

stored_takes : (a : Stored) → Takes 10 (shadows.stored_node a)
stored_takes a d le = (
  omega (arith, le),
  (
    omega (arith, le),
    (many_take (λ (v : StoredValue). value_node v.value) 6 (λ v. value_takes v.value) a.values (d + 2) (omega (arith, le)), tt),
  ),
)

entry_takes : (e : Named) → Takes 14 (shadows.entry_node e)
entry_takes e d le = (
  omega (arith, le),
  (
    name_takes e.name (d + 2) (omega (arith, le)),
    (
      omega (arith, le),
      (many_take shadows.stored_node 10 stored_takes e.entry.attributes (d + 2) (omega (arith, le)), tt),
    ),
  ),
)

agent_takes : (copy : Bool) (t : Text) → Takes 2 (shadows.agent_node copy t)
agent_takes copy t d le = (omega (arith, le), (omega (arith, le), (omega (arith, le), tt)))

known_takes : (k : Known) → Takes 8 (shadows.known_node k)
known_takes k d le = (
  omega (arith, le),
  (
    name_takes k.pin (d + 2) (omega (arith, le)),
    (
      (
        omega (arith, le),
        (
          agent_takes false k.master (d + 2 + 2) (omega (arith, le)),
          mapped_take (shadows.agent_node true) 2 (agent_takes true) k.shadows (d + 2 + 2) (omega (arith, le)),
        ),
      ),
      tt,
    ),
  ),
)

non_specific_takes : (n : NonSpecific) → Takes 8 (shadows.non_specific_node n)
non_specific_takes n d le = (
  omega (arith, le),
  (
    name_takes n.at (d + 2) (omega (arith, le)),
    (many_take (shadows.agent_node false) 2 (agent_takes false) n.agents (d + 2) (omega (arith, le)), tt),
  ),
)

-- ---- refreshes

step_takes : (s : Step) → Takes 17 (shadows.step_node s)
step_takes (Add e) d le = (omega (arith, le), entry_takes e (d + 1) (omega (arith, le)))
step_takes (Remove n) d le = (omega (arith, le), name_takes n (d + 1) (omega (arith, le)))
step_takes (Modify e) d le = (omega (arith, le), entry_takes e (d + 1) (omega (arith, le)))
step_takes (Rename n e) d le = (
  omega (arith, le),
  (
    omega (arith, le),
    (name_takes n (d + 1 + 2) (omega (arith, le)), (entry_takes e (d + 1 + 2) (omega (arith, le)), tt)),
  ),
)

refresh_takes : (r : Refresh) → Takes 20 (shadows.refresh_node r)
refresh_takes Nothing d le = omega (arith, le)
refresh_takes (Total es ks ns) d le = (
  omega (arith, le),
  (
    omega (arith, le),
    (
      many_take shadows.entry_node 14 entry_takes es (d + 1 + 2) (omega (arith, le)),
      (
        many_take shadows.known_node 8 known_takes ks (d + 1 + 2) (omega (arith, le)),
        (many_take shadows.non_specific_node 8 non_specific_takes ns (d + 1 + 2) (omega (arith, le)), tt),
      ),
    ),
  ),
)
refresh_takes (Steps ss) d le =
    (omega (arith, le), many_take shadows.step_node 17 step_takes ss (d + 1) (omega (arith, le)))

-- ---- messages

number_takes : (o : Option ℕ) → Takes 0 (number_or_vacant o)
number_takes None d le = omega (arith, le)
number_takes (Some n) d le = omega (arith, le)

strategy_takes : (total : Bool) → Takes 0 (shadows.strategy_node total)
strategy_takes true d le = omega (arith, le)
strategy_takes false d le = omega (arith, le)

asked_takes : (agreement : ℕ) (last : Option ℕ) (total : Bool) → Takes 2 (shadows.asked_node agreement last total)
asked_takes agreement last total d le = (
  omega (arith, le),
  (
    omega (arith, le),
    (number_takes last (d + 2) (omega (arith, le)), (strategy_takes total (d + 2) (omega (arith, le)), tt)),
  ),
)

sent_takes : (agreement stamp : ℕ) (r : Refresh) → Takes 22 (shadows.sent_node agreement stamp r)
sent_takes agreement stamp r d le = (
  omega (arith, le),
  (omega (arith, le), (omega (arith, le), (refresh_takes r (d + 2) (omega (arith, le)), tt))),
)

failed_takes : (problem : ℕ) (held given : Option ℕ) → Takes 2 (shadows.failed_node problem held given)
failed_takes problem held given d le = (
  omega (arith, le),
  (
    omega (arith, le),
    (number_takes held (d + 2) (omega (arith, le)), (number_takes given (d + 2) (omega (arith, le)), tt)),
  ),
)

shadow_room : (id : ℕ) (m : Shadow) → Room 1 (shadow_node id m)
shadow_room id (Request agreement last total) =
    (omega arith, (omega arith, (omega arith, (omega arith, (asked_takes agreement last total 4 (omega arith), tt)))))
shadow_room id (Coordinate agreement last total) =
    (omega arith, (omega arith, (omega arith, (omega arith, (asked_takes agreement last total 4 (omega arith), tt)))))
shadow_room id (Update agreement stamp r) =
    (omega arith, (omega arith, (omega arith, (omega arith, (sent_takes agreement stamp r 4 (omega arith), tt)))))
shadow_room id (Done code) =
    (omega arith, (omega arith, (omega arith, ((omega arith, (omega arith, (omega arith, tt))), tt))))
shadow_room id (Failed problem held given) =
    (omega arith, (omega arith, (omega arith, (omega arith, (failed_takes problem held given 4 (omega arith), tt)))))

pub shadow_spelled : (w : Surroundings) → ClockReadsBack w → (id : ℕ) (m : Shadow) (octets : List ℕ)
    → Fits (layout w) (layout w named.DispMessage) (shadow_node id m)
    → canonical_octets (layout w) named.DispMessage (shadow_node id m) ≡ Some octets → length octets < 2 ^ 64
    → Spells (layout w) named.DispMessage octets (shadow_node id m)
shadow_spelled w clock id m octets fit written short =
    written_is_spelled (layout w) named.DispMessage (shadow_node id m) octets
    (record { apart = messages_apart w; back = messages_read_back w clock }) fit
    (has_spelling (layout w) (good_tags w) named.DispMessage (shadow_node id m) octets (shadow_room id m) written short)
    written
