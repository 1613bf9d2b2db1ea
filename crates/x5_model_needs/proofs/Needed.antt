-- By what is found: one reference, none, the parts', or a probe's. Those of parts are apart as the parts are.
use Rattle.std.proofs.Common.{◌≡◌, ℕ, true, false, not, ◌⊎◌, inl, inr, List, [], ◌++◌, refl, sym, ap, subst, ◌∙◌, Option, Some, None, if◌then◌else◌}
use Rattle.std.specs.List.{flat_map}
use Rattle.std.specs.Option.{is_some, is_none}
use Rattle.x5_model.specs.Words.{in_option}
use Rattle.x5_model.specs.Members.{In, Once, here}
use Rattle.x5_model.specs.Values.{key_of}
use Rattle.x5_model.specs.Requests.{Subset}
use Rattle.x5_model.specs.Statics.{fault_of}
use Rattle.x5_model.specs.Answers.{DirError}
use Rattle.x5_model.specs.References.{Reference, Chained}
use Rattle.x5_model.proofs.KeyLaws.{key_decides}
use Rattle.x5_model.proofs.Lists.{in_either, in_right}
use Rattle.x5_model_tree.specs.World.{Specific}
use Rattle.x5_model_run.specs.Journal.{Line, same_name}
use Rattle.x5_model_run.specs.Holdings.{Held, usable_agents, subordinates, usable_copies}
use Rattle.x5_model_run.specs.Needs.{subset_of, evaluated, resolution_needs, part_needs, copied_needs, probe_needs, needs}
use Rattle.x5_model_run.specs.History.{Point, knowledge_at, tree_at, holdings_at}
use Rattle.x5_model_theory.specs.Leading.{IsSound}
use Rattle.x5_model_theory.proofs.Holding.{subordinates_right}
use Rattle.x5_model_parts.specs.Standing.{knowledge_now}
use Rattle.x5_model_parts.specs.Parts.{BeginsHere}
use Rattle.x5_model_parts.proofs.Lone.{Other, Lone, lone_pair, lone_once}
use Rattle.x5_model_parts.proofs.Spots.{spot_is}
use Rattle.x5_model_parts.proofs.Joining.{sight, parts_are_lone}
use Rattle.x5_model_serve.specs.Finding.{Found, Here, CopyHere, Root, Below, Onward, Nowhere, Stuck, find, IsLooked}
use Rattle.x5_model_serve.specs.Serving.{hand, line_for, begins_parts}
use Rattle.x5_model_serve.specs.Claims.{Apart}
use Rattle.x5_model_serve.proofs.Needing.{onward_resolution}
use Rattle.x5_model_find.specs.Finds.{Orderly}
use Rattle.x5_model_find.proofs.Needing.{is_onward, part_of, passing}
use Rattle.x5_model_find.proofs.Deciding.{needs_are, onward_needs, nothing_needed, parts_needed}
use Rattle.x5_model_find.proofs.Begins.{begins_alike}
use Rattle.x5_model_find.proofs.Orderly.{holdings_orderly}
use Rattle.x5_model_bounds.proofs.Agents.{subordinates_once}
use Rattle.x5_model_bounds.proofs.Scopes.{every_part, served_subordinate}
use Rattle.x5_model_needs.specs.Needed.{NeedsApart}
use Rattle.x5_model_needs.proofs.Few.{single, few_member, few_apart, usable_once, resolution_few, copied_few, probes_few}

-- ---- the references of parts

module _ (p : Point) (o : ℕ) (m : Chained) (sound : IsSound p) (b : BeginsHere p (line_for (hand o m))) where
  abbrev l : Line
  l = line_for (hand o m)

  part_agents : (r : Reference) → In r (part_needs (holdings_at p o) m) → Once r.agents
  part_agents r i = every_part (holdings_at p o) m (λ (x : Reference). Once x.agents) narrow (λ x a c ic e. subst (λ (xs : List ℕ). Once xs) (sym e) (single a)) r i
    where
      known : (k : Specific) → In k (subordinates m.request (holdings_at p o)) → Once (usable_agents m.request k.access)
      known k j = usable_once p o m sound m.request k (subordinates_right p o m.request k sound j) (subordinates_once p o m.request k sound j)

      narrow : (k : Specific) → In k (holdings_at p o).root ⊎ ((c : Held) × In c (evaluated (holdings_at p o) m) × In k c.subordinate) → Once (usable_agents m.request k.access)
      narrow k (inl j) = known k (in_right k (flat_map (λ (c : Held). c.subordinate) (holdings_at p o).own ++ flat_map (λ (c : Held). c.subordinate) (usable_copies m.request (holdings_at p o))) (holdings_at p o).root j)
      narrow k (inr w) =
          let v = sight p (line_for (hand o m)) b in
          let s = spot_is (knowledge_at p) (tree_at p) (knowledge_now p) o (holdings_at p o) m v.look v.sees_it w.0 w.1 in
          known k (served_subordinate (holdings_at p o) m.request w.0 k s.0 w.2)

  pub parts_apart : Apart (part_needs (holdings_at p o) m)
  parts_apart = record {
    once = lone_once (knowledge_at p) (part_needs (holdings_at p o) m) lone;
    agents = part_agents;
    unlike = λ r q a i j same steps ia ja. pair r q a same ia ja (lone_pair (knowledge_at p) (part_needs (holdings_at p o) m) lone r q i j);
  }
    where
      lone : Lone (knowledge_at p) (part_needs (holdings_at p o) m)
      lone = parts_are_lone p (line_for (hand o m)) b

      pair : (r q : Reference) (a : ℕ) → same_name r.target q.target ≡ true → In a r.agents → In a q.agents → (r ≡ q) ⊎ (Other (knowledge_at p) r q ⊎ Other (knowledge_at p) q r) → r ≡ q
      pair r q a same ia ja (inl e) = e
      pair r q a same ia ja (inr (inl x)) = absurd (x.unlike ((key_decides (key_of r.target) (key_of q.target)).0 same) (inr (a, ia, ja)))
      pair r q a same ia ja (inr (inr x)) = absurd (x.unlike (sym ((key_decides (key_of r.target) (key_of q.target)).0 same)) (inr (a, ja, ia)))

-- ---- all

pub needs_apart : NeedsApart
needs_apart p o m stands copies agent fit = by (fault_of m.request.body) refl
  where
    sound : IsSound p
    sound = record { described = stands.described; consistent = stands.consistent }

    ordered : Orderly (holdings_at p o)
    ordered = holdings_orderly p o sound

    none : needs (holdings_at p o) m ≡ [] → Apart (needs (holdings_at p o) m)
    none e = few_apart (needs (holdings_at p o) m) (inl e)

    one : IsLooked m → (r : Reference) → find (holdings_at p o) m ≡ Onward r → Apart (needs (holdings_at p o) m)
    one looked r e =
        let i : In r (resolution_needs (holdings_at p o) m ++ copied_needs (holdings_at p o) m) =
        subst (λ (xs : List Reference). In r xs) (sym (onward_resolution (holdings_at p o) m r e)) here in
        few_apart (needs (holdings_at p o) m) (inr (
          r,
          onward_needs (holdings_at p o) m r ordered looked e,
          elim (in_either r (resolution_needs (holdings_at p o) m) (copied_needs (holdings_at p o) m) i) [
            | inl j ↦ few_member (resolution_needs (holdings_at p o) m) (resolution_few p o m sound) r j
            | inr j ↦ few_member (copied_needs (holdings_at p o) m) (copied_few p o m sound) r j
          ],
        ))

    -- a base is found: the parts of a list or search, and the probes of an update
    based : IsLooked m → (f : Found) → find (holdings_at p o) m ≡ f → is_onward f ≡ false → (is_some (subset_of m) ≡ true → begins_parts (hand o m) f ≡ true) → Apart (needs (holdings_at p o) m)
    based looked f e stays begins = go (subset_of m) refl
      where
        go : (x : Option Subset) → subset_of m ≡ x → Apart (needs (holdings_at p o) m)
        go None q =
            let g = passing (holdings_at p o) m f e stays in
            let n : part_needs (holdings_at p o) m ≡ [] = ap (λ (y : Option Subset). in_option [] (part_of (holdings_at p o) m) y) q in
            subst Apart (sym (needs_are (holdings_at p o) m looked [] [] [] (probe_needs (holdings_at p o) m) g.0 n g.1 refl)) (few_apart (probe_needs (holdings_at p o) m) (probes_few p o m sound))
        go (Some subset) q =
            let some : is_some (subset_of m) ≡ true = ap (λ (y : Option Subset). is_some y) q in
            let start : begins_parts (hand o m) (find (holdings_at p o) m) ≡ true = ap (λ (y : Found). begins_parts (hand o m) y) e ∙ begins some in
            subst Apart (sym (parts_needed (holdings_at p o) m o looked start)) (parts_apart p o m sound (record {
              stands = stands;
              agent = ap (λ y. is_some y) agent.1;
              fit = fit;
              begins = sym (begins_alike (holdings_at p o) m o ordered looked some) ∙ start;
              copies = inr copies;
            }))

    asks : is_some (subset_of m) ≡ true → not (is_none (subset_of m)) ≡ true
    asks e = go (subset_of m) e
      where
        go : (x : Option Subset) → is_some x ≡ true → not (is_none x) ≡ true
        go (Some s) t = refl
        go None t = t

    by_found : IsLooked m → (f : Found) → find (holdings_at p o) m ≡ f → Apart (needs (holdings_at p o) m)
    by_found looked (Here c) e = based looked (Here c) e refl asks
    by_found looked (CopyHere c) e = based looked (CopyHere c) e refl asks
    by_found looked Root e = based looked Root e refl asks
    by_found looked Below e = based looked Below e refl (λ t. refl)
    by_found looked (Onward r) e = one looked r e
    by_found looked (Nowhere n) e = none (nothing_needed (holdings_at p o) m ordered looked (inl (n, e)))
    by_found looked Stuck e = none (nothing_needed (holdings_at p o) m ordered looked (inr e))

    by : (x : Option DirError) → fault_of m.request.body ≡ x → Apart (needs (holdings_at p o) m)
    by (Some x) q =
        none (ap (λ (y : Option DirError).
        (if is_some y then [] else (resolution_needs (holdings_at p o) m ++ part_needs (holdings_at p o) m ++ copied_needs (holdings_at p o) m))
        ++ (if is_some y then [] else probe_needs (holdings_at p o) m)) q)
    by None q = by_found (q, fit) (find (holdings_at p o) m) refl
