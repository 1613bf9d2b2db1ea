-- Octets that spell a value come to it and to nothing else, and those that spell it as a part spell it as a whole.
use Rattle.std.proofs.Common.{◌≡◌, ℕ, ◌+◌, ◌≤◌, ◌∷◌, List, [], append-nil, sym, subst, ◌∙◌}
use Rattle.std.specs.declared.result.Result.{Result}
use Rattle.std.specs.declared.result.Result.TheVariants.{Ok}
use Rattle.x5_model_octets.specs.Elements.{deepest}
use Rattle.x5_model_octets.specs.Faults.{Fault, FirstFault, outermost}
use Rattle.x5_model_octets.proofs.FaultLaws.{spelled_no_fault}
use Rattle.x5_model_typed.specs.Trees.{Tree, Lies, plain}
use Rattle.x5_model_typed.specs.Nodes.{Node}
use Rattle.x5_model_typed.specs.Named.{Named}
use Rattle.x5_model_typed.specs.Forms.{Layout}
use Rattle.x5_model_octets.specs.Breaches.{Breach}
use Rattle.x5_model_typed.specs.Typed.{Spells, IsOf}
use Rattle.x5_model_typed.proofs.Places.{lies_spells, placed_once, whole_spelling}
use Rattle.x5_model_typed_laws.proofs.Deciding.{is_judged}
use Rattle.x5_types.specs.FormView.{nowhere, table}
use Rattle.x5_direct.specs.Spelled.{Spelled}
use Rattle.x5_typed.specs.Comes.{Comes, ComesTo, faulty, more, whole}

no_fault : (tree : Tree) (octets : List ℕ) → Lies 1 0 tree octets → (f : Fault) → FirstFault octets outermost 0 f → ⊥
no_fault tree octets l f is =
    spelled_no_fault octets outermost 0 f is (record {
      member = plain tree;
      spelling = octets;
      rest = [];
      spells = lies_spells 1 0 tree octets l;
      whole = sym (append-nil octets);
    })

comes_in : (layout : Layout) (form : Named) (octets : List ℕ) (n : Node) → Spells layout form octets n
    → (e : Result Node Breach) → Comes layout form octets e → e ≡ Ok n
comes_in layout form octets n s _ (faulty f is) = absurd (no_fault s.tree octets s.lies f is)
comes_in layout form octets n s _ (more tree first rest o l e) =
    let none : o ∷ rest ≡ [] = whole_spelling tree s.tree first (o ∷ rest) l
    (subst (λ (p : List ℕ). Lies 1 0 s.tree p) e s.lies) in
    absurd (cc none)
comes_in layout form octets n s _ (whole tree l) =
    let same : s.tree ≡ tree = placed_once 1 0 s.tree tree octets s.lies l in
    is_judged layout (layout form) tree n (subst (λ (t : Tree). IsOf layout (layout form) t n) same s.is_of)

pub comes_only : (form : Named) (octets : List ℕ) (n : Node) → Spells table form octets n
    → (e : Result Node Breach) → ComesTo form octets e → e ≡ Ok n
comes_only form octets n s e comes = comes_in table form octets n s e comes

pub whole_spelled : (levels : ℕ) (form : Named) (n : Node) (octets : List ℕ) → 1 + levels ≤ deepest
    → Spelled levels form n octets [] → Spells table form octets n
whole_spelled levels form n octets room s =
    let e = s.is_element 1 0 room in
    record {
      tree = e.tree;
      lies = subst (λ (l : List ℕ). Lies 1 0 e.tree l) (sym (s.whole ∙ append-nil s.part)) e.lies;
      is_of = e.is_of nowhere;
    }
