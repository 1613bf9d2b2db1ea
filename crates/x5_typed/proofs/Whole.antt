-- What reading octets comes to: one first fault, or one element with octets behind it or none.
use Rattle.std.proofs.Common.{◌≡◌, ◌<◌, ◌≤◌, ◌+◌, ◌++◌, ℕ, List, [], ◌∷◌, length, drop, refl, ap, sym, ◌∙◌}
use Rattle.std.proofs.Common.{subst, arith, append-nil, length-append, IfOk}
use Rattle.std.specs.declared.result.Result.{Result}
use Rattle.std.specs.declared.result.Result.TheVariants.{Ok, Err}
use Rattle.x5_model_octets.specs.Elements.{Element, Elements, Primitive, Constructed, Nil, More, Spells, SpellsAll}
use Rattle.x5_model_octets.specs.Elements.{Encloses, definite, indefinite}
use Rattle.x5_model_octets.specs.Faults as octet_faults
use Rattle.x5_model_octets.specs.Faults.{FirstFault, outermost}
use Rattle.x5_model_octets.proofs.FaultLaws.{one_first_fault}
use Rattle.x5_ber.specs.Reading.{Stands}
use Rattle.x5_ber.specs.Views.{fault_view}
use Rattle.x5_ber.specs.declared.element.BerFault.{BerFault}
use Rattle.x5_model_typed.specs.Trees as trees
use Rattle.x5_model_typed.specs.Trees.{Tree, Trees, Leaf, Branch, Bare, Row, Lies, LieAll, plain}
use Rattle.x5_model_typed.specs.Nodes as nodes
use Rattle.x5_model_typed.specs.Named.{Named}
use Rattle.x5_model_typed.specs.Forms.{Layout}
use Rattle.x5_model_octets.specs.Breaches as octet_breaches
use Rattle.x5_model_typed.specs.Judged as judged
use Rattle.x5_model_typed.proofs.Places.{lies_spells}
use Rattle.x5_typed.specs.declared.fault.Breach.{Breach}
use Rattle.x5_typed.specs.declared.fault.Breach.TheVariants.{Ber}
use Rattle.x5_typed.specs.declared.fault.ReadFault.{ReadFault}
use Rattle.x5_typed.specs.declared.fault.ReadFault.TheVariants as faults
use Rattle.x5_types.specs.declared.node.Node.{Node}
use Rattle.x5_typed.specs.Breaches.{Gives, breach_view}
use Rattle.x5_typed.specs.Comes.{Comes, faulty, more, whole}
use Rattle.x5_types.specs.NodeView.{node_view}
use Rattle.x5_model_typed.specs.Typed.{Spells as SpellsValue}
use Rattle.x5_model_typed.proofs.Soundness.{judged_is}
use Rattle.x5_typed.proofs.Heads.{stands_at}
use Rattle.x5_typed.proofs.Reading.{gives_ok}

-- With the places of its members wherever its content begins.
enclosed : (d at class tag : ℕ) (s content : List ℕ) → d ≤ Rattle.x5_model_octets.specs.Elements.deepest
    → Encloses class tag content s → ((place : ℕ) → (ts : Trees) × LieAll (d + 1) place ts content)
    → (t : Tree) × Lies d at t s
enclosed d at class tag s content deep (definite header is e) all =
    let inner = all (at + length header) in
    (Branch at class tag inner.0, (refl, deep, header, content, inner.1, trees.definite is e))
enclosed d at class tag s content deep (indefinite header is e) all =
    let inner = all (at + length header) in
    (Branch at class tag inner.0, (refl, deep, header, content, inner.1, trees.indefinite is e))

mutual
  -- What is spelled lies there as a tree.
  pub placed : (d at : ℕ) (e : Element) (s : List ℕ) → Spells d e s → (t : Tree) × Lies d at t s
  placed d at (Primitive class tag content) s p = (Leaf at class tag content, (refl, p))
  placed d at (Constructed class tag members) s p =
      enclosed d at class tag s p.1 p.0 p.3 (λ (place : ℕ). placed_all (d + 1) place members p.1 p.2)

  pub placed_all : (d at : ℕ) (es : Elements) (s : List ℕ) → SpellsAll d es s → (ts : Trees) × LieAll d at ts s
  placed_all d at Nil s p = (Bare, p)
  placed_all d at (More e es) s p =
      let first = placed d at e p.0 p.2 in
      let others = placed_all d (at + length p.0) es p.1 p.3 in
      (Row first.0 others.0, (p.0, p.1, first.1, others.1, p.4))

-- All octets stand at their beginning, and so does a front of them.
pub front_stands : (octets first rest : List ℕ) → octets ≡ first ++ rest → Stands octets 0 first
front_stands octets first rest e = stands_at octets 0 first rest e (omega arith)

pub all_stand : (octets : List ℕ) → Stands octets 0 octets
all_stand octets = front_stands octets octets [] (sym (append-nil octets))

-- Where there is a first fault.
pub faulty_comes : (table : Layout) (form : Named) (octets : List ℕ) (fault : BerFault)
    → FirstFault octets outermost 0 (fault_view fault)
    → ((e : Element) (s : List ℕ) → Spells 1 e s → Stands octets 0 s → ⊥) → (r : Result nodes.Node octet_breaches.Breach)
    → Comes table form octets r
    → Gives {X = Node} (λ m n. node_view m ≡ n) r (Err (faults.Breach (Ber fault)))
faulty_comes table form octets fault is none r (faulty other that) =
    ap (λ (f : octet_faults.Fault). octet_breaches.Ber f) (one_first_fault octets outermost 0 (fault_view fault) other is that)
faulty_comes table form octets fault is none r (more tree first rest o l e) =
    absurd (none (plain tree) first (lies_spells 1 0 tree first l) (front_stands octets first (o ∷ rest) e))
faulty_comes table form octets fault is none r (whole tree l) =
    absurd (none (plain tree) octets (lies_spells 1 0 tree octets l) (all_stand octets))

-- Where an element stands with octets behind it.
pub more_comes : (table : Layout) (form : Named) (octets : List ℕ) (next : ℕ) (b : Breach) → next < length octets
    → breach_view b ≡ octet_breaches.Ber (octet_faults.BadTag next)
    → ((f : octet_faults.Fault) → FirstFault octets outermost 0 f → ⊥)
    → ((e : Element) (s : List ℕ) → Spells 1 e s → Stands octets 0 s → next ≡ 0 + length s)
    → (r : Result nodes.Node octet_breaches.Breach) → Comes table form octets r
    → Gives {X = Node} (λ m n. node_view m ≡ n) r (Err (faults.Breach b))
more_comes table form octets next b less is none only r (faulty other that) = absurd (none other that)
more_comes table form octets next b less is none only r (more tree first rest o l e) =
    let same : next ≡ length first = omega (
      arith,
      only (plain tree) first (lies_spells 1 0 tree first l)
          (front_stands octets first (o ∷ rest) e),
    ) in
    is ∙ ap (λ (n : ℕ). octet_breaches.Ber (octet_faults.BadTag n)) same
more_comes table form octets next b less is none only r (whole tree l) =
    absurd (omega (arith, less, only (plain tree) octets (lies_spells 1 0 tree octets l) (all_stand octets)))

pub comes_more : (table : Layout) (form : Named) (octets : List ℕ) (next : ℕ) (e : Element) (s : List ℕ) → next < length octets
    → Spells 1 e s → Stands octets 0 s → next ≡ 0 + length s
    → (r : Result nodes.Node octet_breaches.Breach) × Comes table form octets r
comes_more table form octets next e s less p stand is = by (drop (0 + length s) octets) stand.split
  where
    by : (rest : List ℕ) → octets ≡ s ++ rest → (r : Result nodes.Node octet_breaches.Breach) × Comes table form octets r
    by [] e' = absurd (omega (arith, less, is, ap length e', length-append s []))
    by (o ∷ rest) e' = (
      Err (octet_breaches.Ber (octet_faults.BadTag (length s))),
      more (placed 1 0 e s p).0 s rest o
          (placed 1 0 e s p).1 e',
    )

-- Where one element is all.
pub whole_comes : (table : Layout) (form : Named) (octets : List ℕ) (next : ℕ) (result : Result Node ReadFault) → length octets ≤ next
    → ((f : octet_faults.Fault) → FirstFault octets outermost 0 f → ⊥)
    → ((e : Element) (s : List ℕ) → Spells 1 e s → Stands octets 0 s → next ≡ 0 + length s)
    → ((t : Tree) → Lies 1 0 t octets → Gives (λ m n. node_view m ≡ n) (judged.judged table (table form) t) result)
    → (r : Result nodes.Node octet_breaches.Breach) → Comes table form octets r → Gives (λ m n. node_view m ≡ n) r result
whole_comes table form octets next result full none only read r (faulty other that) = absurd (none other that)
whole_comes table form octets next result full none only read r (more tree first rest o l e) =
    absurd (omega (
      arith,
      full,
      only (plain tree) first (lies_spells 1 0 tree first l)
          (front_stands octets first (o ∷ rest) e),
      ap length e,
      length-append first (o ∷ rest),
    ))
whole_comes table form octets next result full none only read r (whole tree l) = read tree l

pub tree_of : (octets : List ℕ) (next : ℕ) (e : Element) (s : List ℕ) → length octets ≤ next → Spells 1 e s
    → Stands octets 0 s → next ≡ 0 + length s → (t : Tree) × Lies 1 0 t octets
tree_of octets next e s full p stand is = by (drop (0 + length s) octets) stand.split
  where
    by : (rest : List ℕ) → octets ≡ s ++ rest → (t : Tree) × Lies 1 0 t octets
    by [] e' =
        let same : s ≡ octets = sym (e' ∙ append-nil s) in
        ((placed 1 0 e s p).0, subst (λ (o : List ℕ). Lies 1 0 (placed 1 0 e s p).0 o) same (placed 1 0 e s p).1)
    by (o ∷ rest) e' = absurd (omega (arith, full, is, ap length e', length-append s (o ∷ rest)))

pub spelled_by : (table : Layout) (form : Named) (octets : List ℕ) (t : Tree) (r : Result Node ReadFault) → Lies 1 0 t octets
    → Gives (λ m n. node_view m ≡ n) (judged.judged table (table form) t) r
    → IfOk r (λ m. SpellsValue table form octets (node_view m))
spelled_by table form octets t (Ok m) l g =
    let found = gives_ok (λ (m : Node) (n : nodes.Node). node_view m ≡ n) (judged.judged table (table form) t) m g in
    record {
      tree = t;
      lies = l;
      is_of = judged_is table t (table form) (node_view m) (found.1
          ∙ ap (λ (n : nodes.Node). Ok n) (sym found.2));
    }
spelled_by table form octets t (Err f) l g = tt
