-- Where memory runs out within the tag number, what stood in the output before is still its front: the leading octet
-- and each group only append, and what is kept over one write is kept over several.
use Rattle.x5_ber.specs.Written.{IsPrefixOf}
use Rattle.x5_ber.proofs.Prefixes.{kept_append, kept_on}
use Rattle.x5_ber.proofs.writer.put_identifier.Goals as goal

pub returns-in_err-put_group-2-clause-kept : goal.returns-in_err-put_group-2-clause-kept
returns-in_err-put_group-2-clause-kept c =
    let one : IsPrefixOf c.args.out.now.items c.push-2.new.self.items = kept_append _ _ _ c.in_ok-push-2.ensures.items in
    kept_on _ _ _ (kept_on _ _ _ one c.in_ok-put_group.ensures.kept) c.in_err-put_group-2.ensures.kept

pub returns-in_err-put_group-3-clause-kept : goal.returns-in_err-put_group-3-clause-kept
returns-in_err-put_group-3-clause-kept c =
    let one : IsPrefixOf c.args.out.now.items c.push-2.new.self.items = kept_append _ _ _ c.in_ok-push-2.ensures.items in
    kept_on _ _ _ (kept_on _ _ _ (kept_on _ _ _ one c.in_ok-put_group.ensures.kept) c.in_ok-put_group-2.ensures.kept) c.in_err-put_group-3.ensures.kept

pub returns-in_err-put_group-4-clause-kept : goal.returns-in_err-put_group-4-clause-kept
returns-in_err-put_group-4-clause-kept c =
    let one : IsPrefixOf c.args.out.now.items c.push-2.new.self.items = kept_append _ _ _ c.in_ok-push-2.ensures.items in
    kept_on _ _ _ (kept_on _ _ _ (kept_on _ _ _ (kept_on _ _ _ one c.in_ok-put_group.ensures.kept) c.in_ok-put_group-2.ensures.kept) c.in_ok-put_group-3.ensures.kept) c.in_err-put_group-4.ensures.kept
