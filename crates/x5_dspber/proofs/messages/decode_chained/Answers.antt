-- What octets in their usual spelling say is what they spell; all others are read by the table of types.
use Rattle.std.proofs.Common.{◌≡◌, ℕ, true, List, sym, subst, arith}
use Rattle.std.specs.List.{list_all}
use Rattle.std.proofs.lemmas.Result.{IfOk-weaker}
use Rattle.std.specs.declared.result.Result.{Result}
use Rattle.std.specs.declared.result.Result.TheVariants.{Ok}
use Rattle.x5_model_messages.specs.Chained as chains
use Rattle.x5_model_messages.specs.Chained.{chained_in, chained_node}
use Rattle.x5_model_messages.proofs.Chained.{chained_back}
use Rattle.x5_model_octets.specs.Breaches as octet_breaches
use Rattle.x5_model_typed.specs.Named as named
use Rattle.x5_model_typed.specs.Nodes.{Node}
use Rattle.x5_model_typed.specs.Typed.{Spells}
use Rattle.x5_model_typed_laws.specs.Said.{is_octet}
use Rattle.x5_model_typed_laws.proofs.Closed.{messages_spelled_fit}
use Rattle.x5_ops.specs.RequestViews.{request_view}
use Rattle.x5_ops.specs.declared.references.Chained.{Chained}
use Rattle.x5_typed.specs.Comes.{ComesTo}
use Rattle.x5_types.specs.FormView.{nowhere, table}
use Rattle.x5_dapber.specs.Results.{Decodes}
use Rattle.x5_dapber.specs.ShortNames.{HasShortNames}
use Rattle.x5_dapber.proofs.Decoding.{known_read}
use Rattle.x5_dapber.proofs.Octets.{are_octets, spelled_comes}
use Rattle.x5_dapber.proofs.Coming.{comes_only}
use Rattle.x5_dspber.specs.ChainedViews.{told_chained}
use Rattle.x5_dspber.proofs.ChainedIsSayable.{chained_fits}
use Rattle.x5_dspber.proofs.MessagesShort.{message_short}
use Rattle.x5_dspber.proofs.messages.decode_chained.Goals as goal

abbrev seen : ℕ × Chained → ℕ × chains.Chained
seen p = (p.0, told_chained p.1)

-- the octets spell what the message says
abbrev Says : List ℕ → ℕ × Chained → Type 0
Says octets p = (n : Node) × Spells table named.DspRequest octets n × (seen p ≡ chained_in n)

said_decodes : (octets : List ℕ) (p : ℕ × Chained) → Says octets p → (e : Result Node octet_breaches.Breach)
    → ComesTo named.DspRequest octets e → Decodes seen chained_in e (Ok p)
said_decodes octets p s e comes =
    subst (λ (r : Result Node octet_breaches.Breach). Decodes seen chained_in r (Ok p))
    (sym (comes_only named.DspRequest octets s.0 s.1 e comes)) s.2

said_short : (octets : List ℕ) → list_all is_octet octets ≡ true → (p : ℕ × Chained) → Says octets p
    → HasShortNames (request_view p.1.request).body
said_short octets are p s =
    subst (λ (q : ℕ × chains.Chained). HasShortNames q.1.request.body) (sym s.2)
    (message_short s.0 (chained_fits s.0 (messages_spelled_fit nowhere named.DspRequest octets s.0 are s.1)))

-- ---- in their usual spelling

pub returns-clause-decodes : goal.returns-clause-decodes
returns-clause-decodes c = said_decodes c.args.octets.now c.in-Ok.message c.in-Ok.ensures

pub returns-clause-comes : goal.returns-clause-comes
returns-clause-comes c =
    (Ok c.in-Ok.ensures.0, spelled_comes named.DspRequest c.args.octets.now c.in-Ok.ensures.0 c.in-Ok.ensures.1)

pub returns-clause-exact : goal.returns-clause-exact
returns-clause-exact c = λ n spells.
    said_decodes c.args.octets.now c.in-Ok.message c.in-Ok.ensures (Ok n)
    (spelled_comes named.DspRequest c.args.octets.now n spells)

pub returns-clause-spelled : goal.returns-clause-spelled
returns-clause-spelled c = c.in-Ok.ensures

pub returns-clause-back : goal.returns-clause-back
returns-clause-back c = λ id m is_chained spells.
    let n = chained_node id m in
    known_read seen chained_in n (id, m) (Ok c.in-Ok.message) (chained_back id m is_chained)
    (said_decodes c.args.octets.now c.in-Ok.message c.in-Ok.ensures (Ok n)
    (spelled_comes named.DspRequest c.args.octets.now n spells))

pub returns-clause-short : goal.returns-clause-short
returns-clause-short c =
    said_short c.args.octets.now (are_octets c.args.octets.now (λ k. omega (arith, c.type_inv.octets k)))
    c.in-Ok.message c.in-Ok.ensures

-- ---- by the table of types

pub returns-in_default-clause-exact : goal.returns-in_default-clause-exact
returns-in_default-clause-exact c = λ n spells.
    c.chained_by_table.ensures.decodes (Ok n) (spelled_comes named.DspRequest c.args.octets.now n spells)

pub returns-in_default-clause-back : goal.returns-in_default-clause-back
returns-in_default-clause-back c = λ id m is_chained spells.
    let n = chained_node id m in
    known_read seen chained_in n (id, m) c.chained_by_table.result (chained_back id m is_chained)
    (c.chained_by_table.ensures.decodes (Ok n) (spelled_comes named.DspRequest c.args.octets.now n spells))

pub returns-in_default-clause-short : goal.returns-in_default-clause-short
returns-in_default-clause-short c =
    IfOk-weaker c.chained_by_table.result (Says c.args.octets.now)
    (λ (p : ℕ × Chained). HasShortNames (request_view p.1.request).body)
    (λ p s. said_short c.args.octets.now (are_octets c.args.octets.now (λ k. omega (arith, c.type_inv.octets k))) p s)
    c.chained_by_table.ensures.spelled
