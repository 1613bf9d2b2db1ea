-- What was read straight is what reading comes to; and what is known of what that says holds of every decoding.
use Rattle.std.proofs.Common.{◌≡◌, ℕ, List, [], subst, sym}
use Rattle.std.specs.declared.result.Result.{Result}
use Rattle.std.specs.declared.result.Result.TheVariants.{Ok}
use Rattle.x5_model_messages.specs.ShadowLaws.{IsShadow}
use Rattle.x5_model_messages.specs.Shadows as shadows
use Rattle.x5_model_messages.specs.Shadows.{shadow_in, shadow_node}
use Rattle.x5_model_messages.proofs.Shadows.{shadow_back}
use Rattle.x5_model_octets.specs.Breaches.{Breach}
use Rattle.x5_model_typed.specs.Named as named
use Rattle.x5_model_typed.specs.Nodes.{Node}
use Rattle.x5_model_typed.specs.Typed.{Spells}
use Rattle.x5_know.specs.Moments.{Start}
use Rattle.x5_typed.specs.Comes.{Comes}
use Rattle.x5_types.specs.FormView.{world, world_table}
use Rattle.x5_dapber.specs.Results.{Decodes, IsRead}
use Rattle.x5_dapber.specs.declared.fault.WireFault.{WireFault}
use Rattle.x5_dapber.proofs.Decoding.{known_read}
use Rattle.x5_dapber.proofs.Octets.{spelled_in}
use Rattle.x5_direct.specs.Here.{ReadsHere}
use Rattle.x5_dispber.specs.ShadowViews.{told_shadow}
use Rattle.x5_dispber.specs.declared.shadow.Shadow.{Shadow}
use Rattle.x5_dispber.proofs.DirectParts.{message_spelled}
use Rattle.x5_dispber.proofs.Once.{comes_once}
use Rattle.x5_dispber.proofs.messages.decode_shadow.Goals as goal

abbrev seen : List (List ℕ) → ℕ × Shadow → ℕ × shadows.Shadow
seen names p = (p.0, told_shadow names p.1)

-- what every decoding promises
abbrev DecodesAll : Start → List (List ℕ) → List ℕ → Result (ℕ × Shadow) WireFault → Type 0
DecodesAll start names octets r =
    (e : Result Node Breach) → Comes (world_table start names) named.DispMessage octets e
    → Decodes (seen names) shadow_in e r

exact : (start : Start) (names : List (List ℕ)) (octets : List ℕ) (r : Result (ℕ × Shadow) WireFault)
    → DecodesAll start names octets r → (n : Node) → Spells (world_table start names) named.DispMessage octets n
    → Decodes (seen names) shadow_in (Ok n) r
exact start names octets r all n s = all (Ok n) (spelled_in (world_table start names) named.DispMessage octets n s)

back : (start : Start) (names : List (List ℕ)) (octets : List ℕ) (r : Result (ℕ × Shadow) WireFault)
    → DecodesAll start names octets r → (id : ℕ) (m : shadows.Shadow) → IsShadow m
    → Spells (world_table start names) named.DispMessage octets (shadow_node id m) → IsRead (seen names) (id, m) r
back start names octets r all id m is s =
    known_read (seen names) shadow_in (shadow_node id m) (id, m) r (shadow_back id m is)
    (exact start names octets r all (shadow_node id m) s)

-- what was read straight
spelled : (start : Start) (names : List (List ℕ)) (octets : List ℕ) (p : ℕ × Shadow)
    → ReadsHere (world start names) 12 named.DispMessage shadow_in (seen names p) octets []
    → (n : Node) × Spells (world_table start names) named.DispMessage octets n × (seen names p ≡ shadow_in n)
spelled start names octets p r = (r.0, message_spelled (world start names) octets r.0 r.1, r.2)

straight : (start : Start) (names : List (List ℕ)) (octets : List ℕ) (p : ℕ × Shadow)
    → ReadsHere (world start names) 12 named.DispMessage shadow_in (seen names p) octets []
    → DecodesAll start names octets (Ok p)
straight start names octets p r e comes =
    let s = spelled start names octets p r in
    subst (λ (o : Result Node Breach). Decodes (seen names) shadow_in o (Ok p))
    (sym (comes_once (world_table start names) named.DispMessage octets s.0 e s.1 comes)) s.2

pub returns-in-Ok-clause-decodes : goal.returns-in-Ok-clause-decodes
returns-in-Ok-clause-decodes c =
    straight c.args.start.now c.args.names.now c.args.octets.now c.in-Ok.read c.in-Ok.ensures

pub returns-in-Ok-clause-comes : goal.returns-in-Ok-clause-comes
returns-in-Ok-clause-comes c =
    let s = spelled c.args.start.now c.args.names.now c.args.octets.now c.in-Ok.read c.in-Ok.ensures in
    (Ok s.0, spelled_in (world_table c.args.start.now c.args.names.now) named.DispMessage c.args.octets.now s.0 s.1)

pub returns-in-Ok-clause-exact : goal.returns-in-Ok-clause-exact
returns-in-Ok-clause-exact c =
    exact c.args.start.now c.args.names.now c.args.octets.now (Ok c.in-Ok.read)
    (straight c.args.start.now c.args.names.now c.args.octets.now c.in-Ok.read c.in-Ok.ensures)

pub returns-in-Ok-clause-back : goal.returns-in-Ok-clause-back
returns-in-Ok-clause-back c =
    back c.args.start.now c.args.names.now c.args.octets.now (Ok c.in-Ok.read)
    (straight c.args.start.now c.args.names.now c.args.octets.now c.in-Ok.read c.in-Ok.ensures)

pub returns-in-Ok-clause-spelled : goal.returns-in-Ok-clause-spelled
returns-in-Ok-clause-spelled c =
    spelled c.args.start.now c.args.names.now c.args.octets.now c.in-Ok.read c.in-Ok.ensures

pub returns-in-Err-clause-exact : goal.returns-in-Err-clause-exact
returns-in-Err-clause-exact c =
    exact c.args.start.now c.args.names.now c.args.octets.now c.decode_by_table.result c.decode_by_table.ensures.decodes

pub returns-in-Err-clause-back : goal.returns-in-Err-clause-back
returns-in-Err-clause-back c =
    back c.args.start.now c.args.names.now c.args.octets.now c.decode_by_table.result c.decode_by_table.ensures.decodes
