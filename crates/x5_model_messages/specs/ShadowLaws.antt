-- What is written of a message of shadowing whose parts are as they are spelled says it.
use Rattle.std.specs.Prelude.{◌≡◌, ℕ, true, List, [], ◌∷◌, map}
use Rattle.std.specs.List.{list_all}
use Rattle.x5_model.specs.Entries.{Stored, Named}
use Rattle.x5_model.specs.Types.{is_known}
use Rattle.x5_model_messages.specs.Laws.{IsName, is_sayable}
use Rattle.x5_model_messages.specs.Shadows.{Known, NonSpecific, Step, Add, Remove, Modify, Rename, Refresh, Nothing}
use Rattle.x5_model_messages.specs.Shadows.{Total, Steps, Shadow, Update, stored_value, shadow_node, shadow_in}

abbrev pub IsStored : Stored → Type 0
IsStored a = (is_known a.kind ≡ true) × (list_all (λ v. is_sayable v.value) a.values ≡ true)
    × (a.values ≡ map (λ v. stored_value a.kind v.value) a.values)

abbrev pub AreStored : List Stored → Type 0
AreStored [] = Unit {0}
AreStored (a ∷ attributes) = IsStored a × AreStored attributes

abbrev pub IsEntry : Named → Type 0
IsEntry e = IsName e.name × AreStored e.entry.attributes

abbrev pub AreEntries : List Named → Type 0
AreEntries [] = Unit {0}
AreEntries (e ∷ entries) = IsEntry e × AreEntries entries

abbrev pub AreKnown : List Known → Type 0
AreKnown [] = Unit {0}
AreKnown (k ∷ known) = IsName k.pin × AreKnown known

abbrev pub AreNonSpecific : List NonSpecific → Type 0
AreNonSpecific [] = Unit {0}
AreNonSpecific (n ∷ others) = IsName n.at × AreNonSpecific others

abbrev pub IsStep : Step → Type 0
IsStep (Add e) = IsEntry e
IsStep (Remove n) = IsName n
IsStep (Modify e) = IsEntry e
IsStep (Rename n e) = IsName n × IsEntry e

abbrev pub AreSteps : List Step → Type 0
AreSteps [] = Unit {0}
AreSteps (s ∷ steps) = IsStep s × AreSteps steps

abbrev pub IsRefresh : Refresh → Type 0
IsRefresh Nothing = Unit {0}
IsRefresh (Total entries known others) = AreEntries entries × AreKnown known × AreNonSpecific others
IsRefresh (Steps steps) = AreSteps steps

abbrev pub IsShadow : Shadow → Type 0
IsShadow (Update agreement stamp refresh) = IsRefresh refresh
IsShadow other = Unit {0}

-- Such a message is read back.
abbrev pub ShadowsReadBack : Type 0
ShadowsReadBack = (id : ℕ) (m : Shadow) → IsShadow m → shadow_in (shadow_node id m) ≡ (id, m)
