-- The entry is in order, and so its terms are.
use Rattle.std.proofs.Common.{◌≡◌, ◌++◌, true, List, sym, ap, subst, ◌∙◌, append-nil}
use Rattle.std.proofs.lemmas.List.{drop_all}
use Rattle.std.specs.List.{flat_map}
use Rattle.x5_model.specs.Words.{ascending}
use Rattle.x5_model.specs.Keys.{KeyPair}
use Rattle.x5_model.specs.Entries.{Stored}
use Rattle.x5_index.specs.Index.{term_below, terms_in, terms_of}
use Rattle.x5_index.proofs.Terms.{terms_ascend}
use Rattle.x5_index.proofs.room.Room.new.Goals as goal

pub invariant_of-result : goal.invariant_of-result
invariant_of-result c =
    let all : c.loop-attribute.terms.items ≡ terms_of c.args.entry.now =
    sym (append-nil c.loop-attribute.terms.items)
    ∙ ap (λ (xs : List Stored). c.loop-attribute.terms.items ++ flat_map terms_in xs) (sym (drop_all c.loop-attribute.attribute-index c.attributes-attribute-items.result.now c.loop-attribute-test.false))
    ∙ c.loop-attribute.invariant ∙ ap (flat_map terms_in) c.attributes-attribute-items.ensures.same in
    subst (λ (ts : List KeyPair). ascending term_below ts ≡ true) (sym all) (terms_ascend c.args.entry.now c.attributes-attribute-items.ensures.ordered)
