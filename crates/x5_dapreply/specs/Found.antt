-- What is written of results and of whole replies, part by part.
use Rattle.std.specs.Prelude.{ℕ, Bool, true, false, List, [], ◌∷◌, Vec}
use Rattle.std.specs.Global.{Global}
use Rattle.std.specs.declared.option.Option.{Option}
use Rattle.std.specs.declared.option.Option.TheVariants.{Some}
use Rattle.std.specs.declared.result.Result.{Result}
use Rattle.x5_model_messages.specs.Replies as replies
use Rattle.x5_model_octets.specs.Elements.{Elements, canonical}
use Rattle.x5_model_typed.specs.Forms.{Component, at, or, plain}
use Rattle.x5_model_typed.specs.Layouts.{Surroundings, layout, no_qualifier, optional}
use Rattle.x5_model_typed.specs.Named as named
use Rattle.x5_model_typed.specs.Nodes.{Node, row}
use Rattle.x5_model_typed.specs.Written.{canonical_octets, tagged_with, written, written_components}
use Rattle.x5_ops.specs.declared.journal.Operation.{Operation}
use Rattle.x5_ops.specs.declared.journal.Operation.TheVariants as operations
use Rattle.x5_types.specs.FormView.{table}
use Rattle.x5_writer.specs.Puts.{Puts, Writes}
use Rattle.x5_writer.specs.declared.fault.WriteFault.{WriteFault}
use Rattle.x5_dapreply.specs.declared.whole.Protocol.{Protocol}
use Rattle.x5_dapreply.specs.declared.whole.Protocol.TheVariants.{Dap, Dsp}

-- ---- components that may be missing

-- the last component of a list's or search's result (X.511, 10.1.3)
abbrev pub qualifier : Component
qualifier = or no_qualifier (at 2 named.Qualifier)

-- the type of an id, and of a moment
abbrev pub count : named.Named
count = named.NumberBelow 0 4294967295

-- the last component of a source: the moment of a copy
abbrev pub moment_elements : Surroundings → Option ℕ → Option Elements
moment_elements w moment =
    written_components (layout w) (optional (plain count) ∷ []) (row (replies.number_or_vacant moment ∷ []))

-- ---- types by operation and by protocol (X.519, section 7)

abbrev pub form_of : Operation → named.Operation
form_of operations.Read = named.Read
form_of operations.Compare = named.Compare
form_of operations.List = named.ListBelow
form_of operations.Search = named.Search
form_of operations.AddEntry = named.AddEntry
form_of operations.RemoveEntry = named.RemoveEntry
form_of operations.ModifyEntry = named.ModifyEntry
form_of operations.ModifyDn = named.ModifyDn

-- the type of answers
abbrev pub answer_form : Protocol → named.Named
answer_form Dap = named.DapAnswer
answer_form Dsp = named.DspAnswer

-- the code of a referral
abbrev pub referral_of : Protocol → ℕ
referral_of Dap = replies.to_user
referral_of Dsp = replies.to_agent

-- ---- what functions do

-- The element of a value of the type stands before the octets that were there.
abbrev pub PutsPart : {Y : Type 0} → named.Named → Node → List ℕ → List ℕ → Result Y WriteFault → Type 0
PutsPart form n old new result = Puts canonical (written table (table form) n) old new result

-- The same, in an explicit tag.
abbrev pub PutsTagged : {Y : Type 0} → ℕ → named.Named → Node → List ℕ → List ℕ → Result Y WriteFault → Type 0
PutsTagged tag form n old new result =
    Puts canonical (tagged_with (Some tag) (written table (table form) n)) old new result

-- The element of a reply, whatever the protocol.
abbrev pub PutsReply : {Y : Type 0} → Node → List ℕ → List ℕ → Result Y WriteFault → Type 0
PutsReply n old new result = (p : Protocol) → PutsPart (answer_form p) n old new result

-- The octets of a reply, whatever the protocol.
abbrev pub WritesReply : Node → Result (Vec ℕ Global) WriteFault → Type 0
WritesReply n result = (p : Protocol) → Writes (canonical_octets table (answer_form p) n) result

-- Whether the entry has the value, and that it comes from a shadow where it does, in their tags (X.511, 9.2.3).
abbrev pub verdict : Bool → Bool → List ℕ
verdict true true = 160 ∷ 3 ∷ 1 ∷ 1 ∷ 255 ∷ 161 ∷ 3 ∷ 1 ∷ 1 ∷ 0 ∷ []
verdict true false = 160 ∷ 3 ∷ 1 ∷ 1 ∷ 255 ∷ []
verdict false true = 160 ∷ 3 ∷ 1 ∷ 1 ∷ 0 ∷ 161 ∷ 3 ∷ 1 ∷ 1 ∷ 0 ∷ []
verdict false false = 160 ∷ 3 ∷ 1 ∷ 1 ∷ 0 ∷ []
