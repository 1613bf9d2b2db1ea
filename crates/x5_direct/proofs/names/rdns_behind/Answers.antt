-- Each RDN that is read stands before those that are left.
use Rattle.std.proofs.Common.{sym, ◌∙◌}
use Rattle.x5_model_messages.specs.Terms as terms
use Rattle.x5_model_typed.specs.Named as named
use Rattle.x5_direct.proofs.Heads.{nothing}
use Rattle.x5_direct.proofs.Beginning.{each_done, front_kept, one_ahead}
use Rattle.x5_direct.proofs.names.rdns_behind.Goals as goal

pub loop-front-preserved : goal.loop-front-preserved
loop-front-preserved c =
    let octets = c.args.octets.now in
    let left = c.loop-front.left.now in
    let done = c.loop-front.rdns.items in
    let rdn = c.in_ok-rdn.rdn in
    let now = c.push.new.self.items in
    let more = c.in_ok-push.ensures.items in (
      one_ahead 2 named.Rdn terms.rdn_of octets left done rdn c.in_ok-rdn.taken now more c.loop-front.invariant.0
          c.in_ok-rdn.ensures.reads,
      front_kept 2 named.Rdn terms.rdn_of octets left done now rdn c.front_of-before.result more c.loop-front.invariant.0
          c.front_of-before.ensures,
    )

pub returns-clause-read : goal.returns-clause-read
returns-clause-read c = each_done 2 named.Rdn terms.rdn_of c.args.octets.now c.loop-front.left.now c.loop-front.rdns.items
    c.loop-front.invariant.0
    (nothing c.loop-front.left.now (sym c.is_empty.ensures ∙ c.loop-front-test.false))
