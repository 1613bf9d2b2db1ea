-- Of an entry that kept its name it's the last RDN: the member before the end of the name's list.
use Rattle.std.proofs.Common.{◌<◌, length, sym, ap, ◌∙◌, arith}
use Rattle.x5_model.specs.Values.{last_rdn}
use Rattle.x5_dse.specs.Slot.{Slot, own_rdn}
use Rattle.x5_dse.proofs.Lasts.{last_is}
use Rattle.x5_dse.proofs.node.Dse.rdn.Goals as goal

pub returns-in_ok-clone-in-len1-up : goal.returns-in_ok-clone-in-len1-up
returns-in_ok-clone-in-len1-up c =
    let l : 0 < length c.rdns.result.now = (let m = c.in-len1-up.len_at_least in omega arith) in
    c.in_ok-clone-in-len1-up.ensures.cases ∙ c.last-item.is ∙ last_is c.rdns.result.now c.last-item.result l
    ∙ ap last_rdn c.rdns.ensures ∙ sym (ap own_rdn c.in-Last.is) ∙ ap (λ (s : Slot). s.rdn) c.self.view_is
