-- Messages of shadowing within the limits are as they are spelled.
use Rattle.std.proofs.Common.{◌≡◌, ℕ, List, [], ◌∷◌, map, refl, ap₂}
use Rattle.x5_model.specs.Entries.{Stored, Named}
use Rattle.x5_model.specs.Members.{here, there}
use Rattle.x5_model.specs.Values.{StoredValue}
use Rattle.x5_model.proofs.Lists.{all_in}
use Rattle.x5_model_typed.specs.Layouts.{Surroundings}
use Rattle.x5_model_messages.specs.Laws.{is_sayable}
use Rattle.x5_model_messages.specs.ShadowLaws.{IsStored, AreStored, IsEntry, AreEntries, AreKnown, AreNonSpecific}
use Rattle.x5_model_messages.specs.ShadowLaws.{IsStep, AreSteps, IsRefresh}
use Rattle.x5_model_messages.specs.Shadows.{Known, NonSpecific, Step, Add, Remove, Modify, Rename, Refresh, Nothing, Total, Steps}
use Rattle.x5_model_messages.specs.Shadows.{Request, Coordinate, Update, Done, Failed, stored_value}
use Rattle.x5_model_fitting.specs.Names.{Each}
use Rattle.x5_model_fitting.proofs.Names.{name_is}
use Rattle.x5_model_fitting.proofs.Terms.{value_said}
use Rattle.x5_model_shadowed.specs.Laws.{ShadowIsSpelled}
use Rattle.x5_model_shadowed.specs.Within.{StoredValueWithin, StoredWithin, EntryWithin, StepWithin, KnownWithin}
use Rattle.x5_model_shadowed.specs.Within.{NonSpecificWithin, RefreshWithin}

values_same : (k : ℕ) (vs : List StoredValue) → Each (StoredValueWithin k) vs → vs ≡ map (λ v. stored_value k v.value) vs
values_same k [] h = refl
values_same k (v ∷ vs) h =
    ap₂ (λ (x : StoredValue) (xs : List StoredValue). x ∷ xs) (h v here).normal (values_same k vs (λ x i. h x (there i)))

stored_is : (a : Stored) → StoredWithin a → IsStored a
stored_is a h = (
  h.type,
  all_in (λ (v : StoredValue). is_sayable v.value) a.values (λ v i. value_said v.value (h.values v i).value),
  values_same a.kind a.values h.values,
)

all_stored : (as' : List Stored) → Each StoredWithin as' → AreStored as'
all_stored [] h = tt
all_stored (a ∷ as') h = (stored_is a (h a here), all_stored as' (λ x i. h x (there i)))

entry_is : (e : Named) → EntryWithin e → IsEntry e
entry_is e h = (name_is e.name h.name, all_stored e.entry.attributes h.attributes)

entries_are : (es : List Named) → Each EntryWithin es → AreEntries es
entries_are [] h = tt
entries_are (e ∷ es) h = (entry_is e (h e here), entries_are es (λ x i. h x (there i)))

knowns_are : (w : Surroundings) (ks : List Known) → Each (KnownWithin w) ks → AreKnown ks
knowns_are w [] h = tt
knowns_are w (k ∷ ks) h = (name_is k.pin (h k here).pin, knowns_are w ks (λ x i. h x (there i)))

others_are : (w : Surroundings) (ns : List NonSpecific) → Each (NonSpecificWithin w) ns → AreNonSpecific ns
others_are w [] h = tt
others_are w (n ∷ ns) h = (name_is n.at (h n here).at, others_are w ns (λ x i. h x (there i)))

step_is : (s : Step) → StepWithin s → IsStep s
step_is (Add e) h = entry_is e h
step_is (Remove n) h = name_is n h
step_is (Modify e) h = entry_is e h
step_is (Rename n e) h = (name_is n h.0, entry_is e h.1)

steps_are : (ss : List Step) → Each StepWithin ss → AreSteps ss
steps_are [] h = tt
steps_are (s ∷ ss) h = (step_is s (h s here), steps_are ss (λ x i. h x (there i)))

refresh_is : (w : Surroundings) (r : Refresh) → RefreshWithin w r → IsRefresh r
refresh_is w Nothing h = tt
refresh_is w (Total es ks ns) h = (entries_are es h.0, knowns_are w ks h.1, others_are w ns h.2)
refresh_is w (Steps ss) h = steps_are ss h

pub shadow_is : ShadowIsSpelled
shadow_is w (Request agreement last total) h = tt
shadow_is w (Coordinate agreement last total) h = tt
shadow_is w (Update agreement stamp r) h = refresh_is w r h.2
shadow_is w (Done code) h = tt
shadow_is w (Failed problem held given) h = tt
