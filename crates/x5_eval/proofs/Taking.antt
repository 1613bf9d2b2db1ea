-- The order in which references are asked is one of keys and kinds, so that those that tie can be told, and a stable sort has
-- one outcome.
use Rattle.std.proofs.Common.{◌≡◌, Bool, true, false, not, ◌&&◌, ◌||◌, refl, sym, ap, subst, ◌∙◌, rules}
use Rattle.std.proofs.lemmas.List.MinMax.{ranks_by}
use Rattle.std.specs.Cmp.{IsTotalOrder, IsStrictWeakOrder, on_total, then_total}
use Rattle.std.specs.Ordering.{is_lt, bool_cmp, ordering_then, is_eq}
use Rattle.std.specs.declared.cmp.Ordering.{Ordering}
use Rattle.std.specs.declared.cmp.Ordering.TheVariants.{Less, Equal, Greater}
use Rattle.x5_model.specs.Keys.{Key, same_key, key_below, key_cmp}
use Rattle.x5_model.specs.Values.{key_of}
use Rattle.x5_model.specs.References.{Reference}
use Rattle.x5_model.proofs.KeyLaws.{key_cmp_total, key_ties}
use Rattle.x5_model_run.specs.Journal.{is_wide}
use Rattle.x5_model_serve.specs.Answering.{taken_before}
use Rattle.x5_ops.specs.ReferenceViews.{kind_view}
use Rattle.x5_ops.specs.declared.references.Reference as code
use Rattle.x5_eval.specs.Rest.{taken_cmp}

abbrev pub by_taken : Reference → Reference → Bool
by_taken a b = is_lt (taken_cmp (key_of a.target) (key_of b.target) (is_wide a.kind) (is_wide b.kind))

kinds_order : (a b : Bool) → is_lt (bool_cmp a b) ≡ (not a && b)
kinds_order true true = refl
kinds_order true false = refl
kinds_order false true = refl
kinds_order false false = refl

then_order : (o : Ordering) (a b : Bool) → is_lt (ordering_then o (bool_cmp a b)) ≡ (is_lt o || (is_eq o && (not a && b)))
then_order Less a b = refl
then_order Equal a b = kinds_order a b
then_order Greater a b = refl

pub taken_same : (a b : Reference) → by_taken a b ≡ taken_before a b
taken_same a b =
    then_order (key_cmp (key_of a.target) (key_of b.target)) (is_wide a.kind) (is_wide b.kind)
    ∙ ap (λ (e : Bool). key_below (key_of a.target) (key_of b.target) || (e && (not (is_wide a.kind) && is_wide b.kind)))
    (sym (key_ties (key_of a.target) (key_of b.target)))

kinds_total : IsTotalOrder bool_cmp
kinds_total = search rules

pairs_total : IsTotalOrder (λ (p q : Key × Bool). ordering_then (key_cmp p.0 q.0) (bool_cmp p.1 q.1))
pairs_total = then_total (on_total (λ (p : Key × Bool). p.0) key_cmp_total) (on_total (λ (p : Key × Bool). p.1) kinds_total)

pub by_taken_weak : IsStrictWeakOrder by_taken
by_taken_weak = ranks_by pairs_total (λ (r : Reference). (key_of r.target, is_wide r.kind))

pub taken_weak : IsStrictWeakOrder taken_before
taken_weak =
    let same : by_taken ≡ taken_before = λ i a b. taken_same a b i in
    subst (λ (lt : Reference → Reference → Bool). IsStrictWeakOrder lt) same by_taken_weak

-- where one target is below the other, its reference is asked first
pub below_first : (a b : Reference) → key_below (key_of a.target) (key_of b.target) ≡ true → taken_before a b ≡ true
below_first a b e = ap (λ (c : Bool). c || (same_key (key_of a.target) (key_of b.target) && (not (is_wide a.kind) && is_wide b.kind))) e

-- the same of references as the code has them
pub code_weak : IsStrictWeakOrder (λ (a b : code.Reference). is_lt (taken_cmp (key_of a.target) (key_of b.target) (is_wide (kind_view a.kind)) (is_wide (kind_view b.kind))))
code_weak = ranks_by pairs_total (λ (r : code.Reference). (key_of r.target, is_wide (kind_view r.kind)))
