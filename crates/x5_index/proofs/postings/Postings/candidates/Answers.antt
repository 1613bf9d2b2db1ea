-- The nodes of the asserted value are the candidates.
use Rattle.std.proofs.Common.{◌≡◌, List, ℕ, sym, ap, subst, ◌∙◌, Some}
use Rattle.x5_match.specs.FilterView.{filter_view}
use Rattle.x5_index.specs.Index.{Posting, Index}
use Rattle.x5_index.specs.Lookup.{looked_up}
use Rattle.x5_index.specs.Places.{AreAsserted}
use Rattle.x5_index.proofs.Finding.{candidates_are}
use Rattle.x5_index.proofs.postings.Postings.candidates.Goals as goal

pub returns-in_ok-asserted-in-Some : goal.returns-in_ok-asserted-in-Some
returns-in_ok-asserted-in-Some c =
    let a = c.in-Some.assertion.now in
    let nodes : List ℕ = c.in_ok-asserted-in-Some.field-0 in
    let first : looked_up (filter_view c.args.filter.now) ≡ Some a = sym c.in-Some.ensures in
    let same : c.deref.result.now ≡ c.args.self.now.postings = c.deref.ensures.value ∙ ap (λ (i : Index). i.postings) c.self.view_is in
    candidates_are c.args.self.now.postings (filter_view c.args.filter.now) a nodes first
    (subst (λ (ps : List Posting). AreAsserted ps a.kind a.normal nodes) same c.in_ok-asserted-in-Some.ensures)
