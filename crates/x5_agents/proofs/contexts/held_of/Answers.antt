-- The first entry is the prefix's, and the others are grown over it.
use Rattle.std.proofs.Common.{◌≡◌, List, [], ◌∷◌, map, sym, ap, ◌∙◌}
use Rattle.std.specs.List.{each_same}
use Rattle.std.proofs.lemmas.Result.{IfOk-weaker}
use Rattle.x5_model.specs.Entries.{Named}
use Rattle.x5_model_tree.specs.Described.{is_grown}
use Rattle.x5_dse.specs.Linked.{entries_of}
use Rattle.x5_holdings.specs.State.{held_view}
use Rattle.x5_model_held.specs.Beginning.{described_context}
use Rattle.x5_holdings.specs.Logs.{Log}
use Rattle.x5_agents.specs.Growing.{Grown}
use Rattle.x5_agents.specs.Unnoted.{IsUnnoted}
use Rattle.x5_agents.proofs.Unnoted.{grown_unnoted}
use Rattle.x5_ops.specs.declared.knowledge.Specific.{Specific}
use Rattle.x5_ops.specs.declared.knowledge.Nssr.{Nssr}
use Rattle.x5_ops.specs.KnowledgeViews.{context_view, specific_view, nssr_view}
use Rattle.x5_agents.proofs.Wholes.{others_grown, others_kept, prefix_is, held_whole}
use Rattle.x5_agents.proofs.contexts.held_of.Goals as goal

begins : (c : goal.In_ok-held) → (c.args.context.now.entries ≡ c.in-Some.first.now ∷ c.in-Some.rest.now)
begins c = sym c.as_slice.ensures ∙ c.in-Some.ensures.cases.0

-- it's held with that entry alone
alone : (c : goal.In_ok-held) → entries_of c.in_ok-held.held.nodes.nodes ≡ c.in-Some.first.now ∷ []
alone c =
    let name = c.in_ok-prefix.ensures.cases ∙ prefix_is (context_view c.args.context.now) c.in-Some.first.now c.in-Some.rest.now c.requires (begins c) in
    let entry = c.in_ok-entry.ensures.cases in
    c.in_ok-held.ensures.entries
    ∙ (λ i. record { name = (c.prefix.view_is ∙ name) i; entry = (entry ∙ (λ j. (c.first.view_is j).entry)) i } ∷ [])

pub with_entries-requires-clause-grown : goal.with_entries-requires-clause-grown
with_entries-requires-clause-grown c =
    ap (λ (es : List Named). is_grown es c.in-Some.rest.now) (alone c)
    ∙ others_grown (context_view c.args.context.now) c.in-Some.first.now c.in-Some.rest.now c.requires (begins c)

pub with_entries-requires-clause-kept : goal.with_entries-requires-clause-kept
with_entries-requires-clause-kept c =
    others_kept (context_view c.args.context.now) c.in-Some.first.now c.in-Some.rest.now c.requires (begins c)

pub returns-clause-held : goal.returns-clause-held
returns-clause-held c =
    IfOk-weaker c.with_entries.result (Grown c.in_ok-held.held c.in-Some.rest.now)
    (λ held. held_view held ≡ described_context (map specific_view c.args.specific.now) (context_view c.args.context.now))
    (λ now g. held_whole (context_view c.args.context.now) c.in-Some.first.now c.in-Some.rest.now
    (map specific_view c.args.specific.now) c.in_ok-held.held now c.requires (begins c.before)
    (c.in_ok-held.ensures.prefix ∙ c.prefix.view_is ∙ c.in_ok-prefix.ensures.cases) (alone c.before)
    (ap (λ (ks : List Specific). map specific_view ks) (c.in_ok-held.ensures.subordinate ∙ c.subordinate.view_is)
    ∙ c.in_ok-subordinate.ensures)
    (ap (λ (ns : List Nssr). map nssr_view ns) (c.in_ok-held.ensures.nssrs
    ∙ each_same c.args.context.now.nssr c.in_ok-clone.field-0 c.in_ok-clone.ensures.cases)) g)
    c.with_entries.ensures

pub returns-clause-unnoted : goal.returns-clause-unnoted
returns-clause-unnoted c =
    IfOk-weaker c.with_entries.result (Grown c.in_ok-held.held c.in-Some.rest.now) IsUnnoted
    (λ now g. grown_unnoted c.in_ok-held.held now c.in-Some.rest.now g
    (record {
      base = ap (λ (l : Log). l.base) (c.in_ok-held.ensures.log ∙ c.log.view_is) ∙ c.new-log.ensures.base;
      changes = ap (λ (l : Log). l.changes) (c.in_ok-held.ensures.log ∙ c.log.view_is) ∙ c.new-log.ensures.changes;
    }))
    c.with_entries.ensures
