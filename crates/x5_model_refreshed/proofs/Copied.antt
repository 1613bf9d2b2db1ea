-- A copy that was refreshed is whole: it has what its context's master had at the moment of its stamp.
use Rattle.std.proofs.Common.{◌≡◌, ℕ, zero, suc, ◌-◌, List, [], ◌∷◌, length, drop, sym, ap, subst, ◌∙◌, Option, true}
use Rattle.x5_model.specs.Members.{In}
use Rattle.x5_model.specs.Values.{key_of}
use Rattle.x5_model.specs.Entries.{Named}
use Rattle.x5_model_tree.specs.World.{World}
use Rattle.x5_model_tree.specs.Tree.{part}
use Rattle.x5_model_tree.specs.Masters.{masters}
use Rattle.x5_model_tree.specs.Conditions.{AgreementSupplies}
use Rattle.x5_model_tree.proofs.Exact.{conditions_hold, masters_decides}
use Rattle.x5_model_run.specs.History.{Did, knowledge_at, tree_of_moment, mastered_at, copy_as_of, copy_by}
use Rattle.x5_model_refreshed.specs.Replaying.{AllHappen}
use Rattle.x5_model_refreshed.specs.Doable.{AreWhole, CopiesAreWhole}
use Rattle.x5_model_refreshed.proofs.Leading.{at_line, knowledge_stays}
use Rattle.x5_model_refreshed.proofs.Refreshed.{entries_are}
use Rattle.x5_model_refreshed.proofs.Wholes.{parts_are_whole}

-- what the lines did that were before an earlier one
pub earlier : (w : World) (n : ℕ) (past : List Did) → AllHappen w past → AllHappen w (drop n past)
earlier w zero past h = h
earlier w (suc n) [] h = tt
earlier w (suc n) (d ∷ past) h = earlier w n past h.1

pub copies_are_whole : CopiesAreWhole
copies_are_whole p g m led i at =
    let w : World = p.described in
    let back : List Did = drop (length p.past - m) p.past in
    let here : In g w.agreements = subst (λ (k : World). In g k.agreements) (knowledge_stays w p.past led.happened) i in
    let supplies : AgreementSupplies w g = (conditions_hold w led.consistent).supplied g here in
    let chain = supplies.1.1 in
    let master : ℕ = chain.1.1.0 in
    let mine : masters w master (key_of g.context) ≡ true = (masters_decides w master (key_of g.context)).1 chain.1.1.1.1 in
    let happened : AllHappen w back = earlier w (length p.past - m) p.past led.happened in
    let had : (copy_by p g).held.entries ≡ part (tree_of_moment p m) (key_of g.context) =
    ap (λ (x : Option ℕ). (copy_as_of p g x).entries) at
    ∙ entries_are (knowledge_at p) g.context (part (tree_of_moment p m) (key_of g.context)) (mastered_at (knowledge_at p) (key_of g.context)) in
    subst (λ (es : List Named). AreWhole (key_of g.context) es) (sym had)
    (parts_are_whole (at_line w back) master (key_of g.context) (record { described = led.described; consistent = led.consistent; happened = happened })
    (ap (λ (x : World). masters x master (key_of g.context)) (knowledge_stays w back happened) ∙ mine))
