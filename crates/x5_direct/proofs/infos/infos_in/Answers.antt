-- Each that is read stands before those that are left.
use Rattle.std.proofs.Common.{map, sym, ◌∙◌, subst}
use Rattle.x5_model_messages.specs.Replies as replies
use Rattle.x5_model_messages.specs.Terms.{rdn_of}
use Rattle.x5_model_typed.specs.Named as named
use Rattle.x5_ops.specs.AnswerViews.{info_view}
use Rattle.x5_direct.specs.Spelled.{BeginEach, ReadEach}
use Rattle.x5_direct.proofs.Heads.{nothing}
use Rattle.x5_direct.proofs.Spelling.{all_done, mapped_end, one_more}
use Rattle.x5_direct.proofs.infos.infos_in.Goals as goal

pub loop-above_octets-preserved : goal.loop-above_octets-preserved
loop-above_octets-preserved c = (
  one_more 7 named.EntryInfo replies.info_in c.args.octets.now c.loop-above_octets.left.now
      (map info_view c.loop-above_octets.infos.items) (info_view c.in_ok-info.info) c.in_ok-info.taken
      (map info_view c.push.new.self.items)
      (mapped_end info_view c.loop-above_octets.infos.items c.in_ok-info.info c.push.new.self.items
      c.in_ok-push.ensures.items) c.loop-above_octets.invariant.0 c.in_ok-info.ensures.reads,
  c.in_ok-known.ensures,
)

pub returns : goal.returns
returns c =
    subst (λ l. ReadEach 7 named.EntryInfo replies.info_in (map info_view l) c.args.octets.now) (sym c.from_vec.ensures)
    (all_done 7 named.EntryInfo replies.info_in c.args.octets.now c.loop-above_octets.left.now
    (map info_view c.loop-above_octets.infos.items) c.loop-above_octets.invariant.0
    (nothing c.loop-above_octets.left.now (sym c.is_empty.ensures ∙ c.loop-above_octets-test.false)))

pub info_behind-requires : goal.info_behind-requires
info_behind-requires c =
    subst (λ rdns. BeginEach 2 named.Rdn rdn_of rdns c.loop-above_octets.above_octets.now) (sym c.deref.ensures.value)
    c.loop-above_octets.invariant.1

pub known_above-requires-clause-front : goal.known_above-requires-clause-front
known_above-requires-clause-front c = c.in_ok-info.ensures.front
