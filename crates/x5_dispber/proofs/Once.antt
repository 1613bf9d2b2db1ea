-- Reading octets that spell a value of the type comes to that value and to nothing else.
use Rattle.std.proofs.Common.{◌≡◌, ℕ, List, [], ◌∷◌, ap, sym, ◌∙◌, append-nil}
use Rattle.std.specs.declared.result.Result.{Result}
use Rattle.std.specs.declared.result.Result.TheVariants.{Ok}
use Rattle.x5_model_octets.specs.Faults.{outermost}
use Rattle.x5_model_octets.proofs.ElementLaws.{Begins, spelled_once}
use Rattle.x5_model_octets.proofs.FaultLaws.{spelled_no_fault}
use Rattle.x5_model_typed.specs.Forms.{Layout}
use Rattle.x5_model_octets.specs.Breaches.{Breach}
use Rattle.x5_model_typed.specs.Judged.{judged}
use Rattle.x5_model_typed.specs.Named.{Named}
use Rattle.x5_model_typed.specs.Nodes.{Node}
use Rattle.x5_model_typed.specs.Trees.{Tree, Lies, plain}
use Rattle.x5_model_typed.specs.Typed.{Spells}
use Rattle.x5_model_typed.proofs.Places.{lies_spells, placed_once}
use Rattle.x5_model_typed_laws.proofs.Deciding.{is_judged}
use Rattle.x5_typed.specs.Comes.{Comes, faulty, more, whole}

begins : (tree : Tree) (octets : List ℕ) → Lies 1 0 tree octets → Begins 1 octets
begins tree octets l = record {
  member = plain tree;
  spelling = octets;
  rest = [];
  spells = lies_spells 1 0 tree octets l;
  whole = sym (append-nil octets);
}

pub comes_once : (layout : Layout) (form : Named) (octets : List ℕ) (n : Node) (e : Result Node Breach)
    → Spells layout form octets n → Comes layout form octets e → e ≡ Ok n
comes_once layout form octets n e s (faulty fault f) =
    absurd (spelled_no_fault octets outermost 0 fault f (begins s.tree octets s.lies))
comes_once layout form octets n e s (more tree first rest o l w) =
    let same = spelled_once 1 (plain s.tree) (plain tree) octets first [] (o ∷ rest)
    (lies_spells 1 0 s.tree octets s.lies)
    (lies_spells 1 0 tree first l) (append-nil octets ∙ w) in
    let no : [] ≡ o ∷ rest = same.rests in
    absurd (cc no)
comes_once layout form octets n e s (whole tree l) =
    ap (λ (t : Tree). judged layout (layout form) t) (sym (placed_once 1 0 s.tree tree octets s.lies l))
    ∙ is_judged layout (layout form) s.tree n s.is_of
