-- A row of a key that is there is added to the others; a new key has the row's number.
use Rattle.std.proofs.Common.{◌≡◌, ℕ, Option, None, Some, sym, ap, subst, ◌∙◌}
use Rattle.std.specs.Prelude.{cond, is_some, false}
use Rattle.indexmap.specs.IndexMap.{get}
use Rattle.x5_model.specs.Keys.{Key, same_key}
use Rattle.x5_check.proofs.Indexes.{none_of, added}
use Rattle.x5_check.proofs.index.Indexing.add.Goals as goal

pub returns : goal.returns
returns c =
    let k : c.in_ok-clone.field-0 ≡ c.args.row.now.0 = c.in_ok-clone.ensures.cases ∙ c.key-2.ensures in
    let n : c.number-2.result ≡ c.args.row.now.1 = c.number-2.ensures in
    let lacks : get same_key c.args.self.now.firsts c.args.row.now.0 ≡ None =
    none_of (get same_key c.args.self.now.firsts c.args.row.now.0)
    (subst (λ (k : Key). is_some (get same_key c.args.self.now.firsts k) ≡ false) c.key.ensures
    (sym c.contains_key.ensures ∙ c.if-contains_key.false)) in
    added c.args.self.now.firsts c.insert.new.self c.args.self.now.more.items c.args.row.now lacks
    (λ q. c.in_ok-insert.ensures.updates.0 q
    ∙ (λ i. cond (same_key (k i) q) (Some (n i)) (get same_key c.args.self.now.firsts q)))
