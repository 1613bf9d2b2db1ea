-- Octets that a user hands to an agent come to a message, which is answered as any other, or to their first breach, and
-- then they are a message that changes nothing.
use Rattle.std.proofs.Common.{◌≡◌, ℕ, ℤ, ◌+◌, List, [], ◌∷◌, length, map, true, None, Result, Some, Ok, Err, refl, sym, ap, subst, ◌∙◌}
use Rattle.std.specs.List.{list_all}
use Rattle.x5_ber.specs.declared.element.BerFault.{BerFault}
use Rattle.x5_dapber.specs.Results.{Decodes}
use Rattle.x5_dapber.specs.declared.fault.WireFault.{WireFault}
use Rattle.x5_dapber.specs.declared.fault.WireFault.TheVariants as wire
use Rattle.x5_dapreply.specs.ReplyViews.{told_item}
use Rattle.x5_dspber.specs.ChainedViews.{told_chained}
use Rattle.x5_model.specs.References.{Chained, TraceItem}
use Rattle.x5_model.specs.Requests as model
use Rattle.x5_model_fitting.specs.Requests.{RequestWithin}
use Rattle.x5_model_fitting.specs.Chained.{ChainedWithin}
use Rattle.x5_model_fitting.proofs.ChainedSaid.{chained_spelled}
use Rattle.x5_model_fitting.proofs.RequestsSaid.{request_spelled}
use Rattle.x5_model_messages.specs.Chained as chains
use Rattle.x5_model_messages.specs.Chained.{chained_in}
use Rattle.x5_model_messages.specs.Requests.{request_in}
use Rattle.x5_model_run.specs.Chain.{opening}
use Rattle.x5_model_run.specs.History.{Point}
use Rattle.x5_model_run.specs.Network.{fate_of}
use Rattle.x5_model_run.specs.Run.{Protocol, Dap, Dsp}
use Rattle.x5_model_octets.specs.Breaches.{Breach, Ber, Unrecognised}
use Rattle.x5_model_typed.specs.Named as named
use Rattle.x5_model_typed.specs.Nodes.{Node}
use Rattle.x5_model_typed.specs.Typed.{Spells}
use Rattle.x5_model_typed_laws.specs.Said.{is_octet}
use Rattle.x5_ops.specs.AgentNames.{agent_of}
use Rattle.x5_ops.specs.JournalViews.{fate_view}
use Rattle.x5_ops.specs.ReferenceViews.{chained_view, item_view}
use Rattle.x5_ops.specs.RequestViews.{request_view}
use Rattle.x5_ops.specs.declared.journal.Fate.{Fate}
use Rattle.x5_ops.specs.declared.references.Chained as code
use Rattle.x5_ops.specs.declared.references.TraceItem as items
use Rattle.x5_ops.specs.declared.requests.Request.{Request}
use Rattle.x5_types.specs.FormView.{nowhere, table}
use Rattle.x5_typed.specs.Breaches.{breach_view}
use Rattle.x5_typed.specs.declared.fault.Breach as typed
use Rattle.x5_typed.specs.declared.fault.Breach.TheVariants as breaches
use Rattle.x5_world.specs.Delivered.{Comes, IsDelivered, IsDeliveredAt, breach_in, item_at, placed, spelled}
use Rattle.x5_world.specs.State.{Net, StandsAt, HasShortNames}
use Rattle.x5_world.specs.declared.delivered.Delivered.{Delivered}
use Rattle.x5_world.specs.declared.delivered.Delivered.TheVariants.{Rejected}
use Rattle.x5_world.proofs.Onward.{after_nothing}

-- ---- what they come to

-- a user's request
abbrev pub seen : ℕ × Request → ℕ × model.Request
seen p = (p.0, request_view p.1)

pub request_so : (names : List (List ℕ)) (e : Result Node Breach) (x : ℕ × Request) → Decodes seen request_in e (Ok x)
    → Ok (opening (request_view x.1)) ≡ spelled names Dap e
request_so names (Ok n) x d = ap (λ (q : ℕ × model.Request). Ok (opening q.1)) d
request_so names (Err (Ber fault)) x d = absurd d
request_so names (Err (Unrecognised code)) x d = absurd d

-- another agent's message, in which agents stand by their places
items_placed : (names : List (List ℕ)) (l : List items.TraceItem) → map (item_view names) l ≡ map (item_at names) (map told_item l)
items_placed names [] = refl
items_placed names (x ∷ l) = ap (λ (k : List TraceItem). item_view names x ∷ k) (items_placed names l)

message_placed : (names : List (List ℕ)) (m : code.Chained) → chained_view names m ≡ placed names (told_chained m)
message_placed names m = ap (λ (t : List TraceItem). record (placed names (told_chained m)) { trace = t }) (items_placed names m.trace)

abbrev pub told : ℕ × code.Chained → ℕ × chains.Chained
told p = (p.0, told_chained p.1)

pub message_so : (names : List (List ℕ)) (e : Result Node Breach) (x : ℕ × code.Chained) → Decodes told chained_in e (Ok x)
    → Ok (chained_view names x.1) ≡ spelled names Dsp e
message_so names (Ok n) x d =
    ap (λ (m : Chained). Ok m) (message_placed names x.1) ∙ ap (λ (q : ℕ × chains.Chained). Ok (placed names q.1)) d
message_so names (Err (Ber fault)) x d = absurd d
message_so names (Err (Unrecognised code)) x d = absurd d

-- which is within the limits of messages, as all that octets spell
pub request_within : (octets : List ℕ) (x : ℕ × Request) → list_all is_octet octets ≡ true
    → ((n : Node) × Spells table named.DapRequest octets n × (seen x ≡ request_in n)) → RequestWithin (request_view x.1)
request_within octets x are w =
    subst (λ (p : ℕ × model.Request). RequestWithin p.1) (sym w.2) (request_spelled nowhere octets w.0 are w.1).1

pub message_within : (octets : List ℕ) (x : ℕ × code.Chained) → list_all is_octet octets ≡ true
    → ((n : Node) × Spells table named.DspRequest octets n × (told x ≡ chained_in n)) → ChainedWithin (told_chained x.1)
message_within octets x are w =
    subst (λ (p : ℕ × chains.Chained). ChainedWithin p.1) (sym w.2) (chained_spelled nowhere octets w.0 are w.1).1

-- or a first breach
module _ {X Y : Type 0} (view : X → Y) (said : Node → Y) where
  fault_of : (e : Result Node Breach) (fault : BerFault) → Decodes view said e (Err (wire.Ber fault))
      → Err (breach_view (breaches.Ber fault)) ≡ e
  fault_of (Ok n) fault d = absurd d
  fault_of (Err (Ber f)) fault d = ap (λ x. Err (Ber x)) d
  fault_of (Err (Unrecognised code)) fault d = absurd d

  code_of : (e : Result Node Breach) (code : ℤ) → Decodes view said e (Err (wire.Unrecognised code))
      → Err (breach_view (breaches.Unrecognised code)) ≡ e
  code_of (Ok n) code d = absurd d
  code_of (Err (Ber f)) code d = absurd d
  code_of (Err (Unrecognised k)) code d = ap (λ x. Err (Unrecognised x)) d

  pub breach_so : (e : Result Node Breach) (f : WireFault) (b : typed.Breach) → Decodes view said e (Err f) → breach_in f ≡ Some b
      → Err (breach_view b) ≡ e
  breach_so e (wire.Ber fault) b d is =
      let same : breaches.Ber fault ≡ b = cc in
      subst (λ (x : typed.Breach). Err (breach_view x) ≡ e) same (fault_of e fault d)
  breach_so e (wire.Unrecognised code) b d is =
      let same : breaches.Unrecognised code ≡ b = cc in
      subst (λ (x : typed.Breach). Err (breach_view x) ≡ e) same (code_of e code d)
  breach_so e wire.NoMemory b d is = cc

-- ---- those that bring no message

pub rejected_so : (old new : Net) (p : Point) (via : Protocol) (to count : ℕ) (name : List ℕ) (fate : Fate) (breach : typed.Breach)
    → StandsAt old p → agent_of old.names name ≡ to → fate_view fate ≡ fate_of old.network (old.sent + 1) None to
    → new ≡ record old { sent = old.sent + 1; line = old.line + 1 }
    → IsDelivered old new p via to count (Err (breach_view breach)) (Rejected name fate breach)
rejected_so old new p via to count name fate breach s named fate_is e =
    (named, fate_is ∙ (λ i. fate_of (s.network i) (s.sent i + 1) None to), refl, after_nothing old new p 1 s e)

pub breach_told : (old new : Net) (p : Point) (via : Protocol) (to : ℕ) (octets : List ℕ) (d : Delivered) (b : Breach)
    → Comes old.names via octets (Err b) → IsDelivered old new p via to (length octets) (Err b) d
    → IsDeliveredAt old new p via to octets d
breach_told old new p via to octets d b comes is =
    record { read = Err b; comes = comes; short = λ m e. cc; delivered = is }

-- ---- those that bring one

pub message_told : (old new : Net) (p : Point) (via : Protocol) (to : ℕ) (octets : List ℕ) (d : Delivered) (m : Chained)
    → Comes old.names via octets (Ok m) → HasShortNames m.request.body → IsDelivered old new p via to (length octets) (Ok m) d
    → IsDeliveredAt old new p via to octets d
message_told old new p via to octets d m comes short is = record {
  read = Ok m;
  comes = comes;
  short = λ q e.
      let same : m ≡ q = cc in
      subst (λ (x : Chained). HasShortNames x.request.body) same short;
  delivered = is;
}
