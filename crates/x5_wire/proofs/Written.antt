-- A value of a type of messages has canonical octets; so messages within the limits are always written, and what they
-- are written as is read back.
use Rattle.std.proofs.Common.{◌≡◌, ℕ, ◌<◌, ◌^◌, List, refl, sym, ◌∙◌}
use Rattle.std.specs.declared.option.Option.{Option}
use Rattle.std.specs.declared.option.Option.TheVariants.{None, Some}
use Rattle.std.specs.declared.result.Result.TheVariants.{Err}
use Rattle.x5_dapber.specs.Results.{IsWritten, IsRead}
use Rattle.x5_dapber.specs.declared.fault.WireFault.{WireFault}
use Rattle.x5_dapber.specs.declared.fault.WireFault.TheVariants as wire
use Rattle.x5_dapber.proofs.Clock.{a_table}
use Rattle.x5_model.specs.Requests as model
use Rattle.x5_model_messages.specs.Chained as chains
use Rattle.x5_model_messages.specs.Replies as replies
use Rattle.x5_model_messages.specs.Requests as requests
use Rattle.x5_model_typed.specs.Nodes.{Node}
use Rattle.x5_model_typed.specs.Named as named
use Rattle.x5_model_typed.specs.Written.{canonical_octets}
use Rattle.x5_model_typed_laws.specs.Fits.{Fits}
use Rattle.x5_model_typed_laws.proofs.Back.{fits_is_written}
use Rattle.x5_model_fitting.specs.Requests.{RequestWithin}
use Rattle.x5_model_fitting.specs.Chained.{ChainedWithin}
use Rattle.x5_model_fitting.specs.Replies.{ReplyWithin}
use Rattle.x5_model_fitting.proofs.Requests as fitting
use Rattle.x5_model_fitting.proofs.Chained.{chained_fits}
use Rattle.x5_model_fitting.proofs.Replies as replying
use Rattle.x5_types.specs.FormView.{nowhere, table}
use Rattle.x5_writer.specs.declared.fault.WriteFault.TheVariants.{Misfit}

-- there are octets for what fits
octets_there : (form : named.Named) (n : Node) → Fits table (table form) n
    → (octets : List ℕ) × (canonical_octets table form n ≡ Some octets)
octets_there form n fit = fits_is_written table form n a_table fit

not_none : (o : Option (List ℕ)) (octets : List ℕ) → o ≡ Some octets → o ≡ None → ⊥
not_none o octets e f = let no : (let p : Option (List ℕ) = Some octets in p) ≡ None = sym e ∙ f in cc

no_misfit : (form : named.Named) (n : Node) → Fits table (table form) n
    → IsWritten (canonical_octets table form n) (Err Misfit) → ⊥
no_misfit form n fit is =
    let w = octets_there form n fit in not_none (canonical_octets table form n) w.0 w.1 is

pub message_fits : (id : ℕ) (m : chains.Chained) → id < 2 ^ 32 → ChainedWithin m
    → Fits table (table named.DspRequest) (chains.chained_node id m)
message_fits id m small h = chained_fits nowhere id m small h

pub message_written : (id : ℕ) (m : chains.Chained) → id < 2 ^ 32 → ChainedWithin m
    → IsWritten (canonical_octets table named.DspRequest (chains.chained_node id m)) (Err Misfit) → ⊥
message_written id m small h =
    no_misfit named.DspRequest (chains.chained_node id m) (message_fits id m small h)

pub request_fits : (id : ℕ) (r : model.Request) → id < 2 ^ 32 → RequestWithin r
    → Fits table (table named.DapRequest) (requests.request_node id r)
request_fits id r small h = fitting.request_fits nowhere id r small h

pub request_written : (id : ℕ) (r : model.Request) → id < 2 ^ 32 → RequestWithin r
    → IsWritten (canonical_octets table named.DapRequest (requests.request_node id r)) (Err Misfit) → ⊥
request_written id r small h =
    no_misfit named.DapRequest (requests.request_node id r) (request_fits id r small h)

pub reply_fits : (id : ℕ) (r : replies.Reply) → id < 2 ^ 32 → ReplyWithin r
    → Fits table (table named.DspAnswer) (replies.reply_node replies.to_agent id r)
reply_fits id r small h = replying.reply_to_agent_fits nowhere id r small h

pub reply_written : (id : ℕ) (r : replies.Reply) → id < 2 ^ 32 → ReplyWithin r
    → IsWritten (canonical_octets table named.DspAnswer (replies.reply_node replies.to_agent id r)) (Err Misfit) → ⊥
reply_written id r small h =
    no_misfit named.DspAnswer (replies.reply_node replies.to_agent id r) (reply_fits id r small h)

pub answer_fits : (id : ℕ) (r : replies.Reply) → id < 2 ^ 32 → ReplyWithin r
    → Fits table (table named.DapAnswer) (replies.reply_node replies.to_user id r)
answer_fits id r small h = replying.reply_fits nowhere id r small h

pub answer_written : (id : ℕ) (r : replies.Reply) → id < 2 ^ 32 → ReplyWithin r
    → IsWritten (canonical_octets table named.DapAnswer (replies.reply_node replies.to_user id r)) (Err Misfit) → ⊥
answer_written id r small h =
    no_misfit named.DapAnswer (replies.reply_node replies.to_user id r) (answer_fits id r small h)

-- what is read fails for want of memory alone
pub only_want : {X Y : Type 0} (view : X → Y) (y : Y) (f : WireFault) → IsRead view y (Err f) → f ≡ wire.NoMemory
only_want view y (wire.Ber fault) h = absurd h
only_want view y (wire.Unrecognised code) h = absurd h
only_want view y wire.NoMemory h = refl
