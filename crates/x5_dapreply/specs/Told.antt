-- Replies whose parts are as they are spelled: types are of the table exactly if they go by number, the normal forms of
-- names are those of what is spelled, and a result is one of the operation with the code. Such a reply is read back.
use Rattle.std.specs.Prelude.{◌≡◌, ℕ, true, false, ◌==◌, List, [], ◌∷◌}
use Rattle.std.specs.List.{list_all}
use Rattle.std.specs.declared.option.Option.{Option}
use Rattle.std.specs.declared.option.Option.TheVariants.{None, Some}
use Rattle.x5_model.specs.Answers.{Shown, EntryInfo, Sub}
use Rattle.x5_model.specs.Types.{is_type}
use Rattle.x5_model_messages.specs.Laws.{IsName, IsRdn, is_sayable}
use Rattle.x5_model_messages.specs.Replies.{Reference, TraceItem, Source, Outcome, Answer, Entry, Match, Listed, Found}
use Rattle.x5_model_messages.specs.Replies.{Changed, Reply, Answered, NoSuchObject, AttributeProblem, UpdateProblem}
use Rattle.x5_model_messages.specs.Replies.{ServiceProblem, Referred, reply_node, reply_in}

-- each of them is so
abbrev pub Each : {X : Type 0} → (X → Type 0) → List X → Type 0
Each P [] = Unit {0}
Each P (x ∷ xs) = P x × Each P xs

abbrev pub IfThere : {X : Type 0} → (X → Type 0) → Option X → Type 0
IfThere P None = Unit {0}
IfThere P (Some x) = P x

abbrev pub IsReference : Reference → Type 0
IsReference r = IsName r.target × Each IsRdn r.exclusions

abbrev pub IsItem : TraceItem → Type 0
IsItem i = IsName i.target

abbrev pub IsSource : Source → Type 0
IsSource s = IsName s.context

abbrev pub IsShown : Shown → Type 0
IsShown a = (is_type a.kind ≡ true) × (list_all is_sayable a.values ≡ true)

abbrev pub IsInfo : EntryInfo → Type 0
IsInfo e = IsName e.name × Each IsShown e.attributes

abbrev pub IsSub : Sub → Type 0
IsSub s = IsRdn s.rdn

abbrev pub IsOutcome : Outcome → Type 0
IsOutcome o = Each IsReference o.unexplored

abbrev pub IsResultOf : ℕ → Answer → Type 0
IsResultOf code (Entry entry source) = IsInfo entry × IsSource source
IsResultOf code (Match matched copy source) = ((code == 2) ≡ true) × IsSource source
IsResultOf code (Listed subs sources outcome) =
    ((code == 2) ≡ false) × ((code == 4) ≡ true) × Each IsSub subs × Each IsSource sources × IsOutcome outcome
IsResultOf code (Found entries sources outcome) =
    ((code == 2) ≡ false) × ((code == 4) ≡ false) × Each IsInfo entries × Each IsSource sources × IsOutcome outcome
IsResultOf code Changed = Unit {0}

abbrev pub IsTold : Reply → Type 0
IsTold (Answered code answer) = IsResultOf code answer
IsTold (NoSuchObject matched) = IsName matched
IsTold (AttributeProblem problem type) = is_type type ≡ true
IsTold (UpdateProblem problem) = Unit {0}
IsTold (ServiceProblem problem reference item) = IfThere IsReference reference × IfThere IsItem item
IsTold (Referred reference) = IsReference reference

-- whatever the code of a referral
abbrev pub RepliesReadBack : Type 0
RepliesReadBack = (referral id : ℕ) (r : Reply) → IsTold r → reply_in (reply_node referral id r) ≡ (id, r)
