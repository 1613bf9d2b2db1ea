-- Nobody tried a reference that an agent needs of itself: by the ways in which needed references are made.
use Rattle.std.proofs.Common.{◌≡◌, ℕ, zero, suc, ◌<◌, length, slice_index_or, arith, Bool, true, false, ◌&&◌, ◌∙◌, inl, inr, List, [], ◌∷◌, ◌++◌, map, refl, ap, subst, sym, Option, Some, None, if◌then◌else◌}
use Rattle.std.specs.List.{flat_map, Contains}
use Rattle.std.specs.Option.{is_some}
use Rattle.x5_model.specs.Words.{in_option, when}
use Rattle.x5_model.specs.Members.{In, here, there}
use Rattle.x5_model.specs.Values.{key_of}
use Rattle.x5_model.specs.Requests.{Subset}
use Rattle.x5_model.specs.References.{Reference, Chained, Done, NonSpecific, Subordinate, Cross}
use Rattle.x5_model.specs.Statics.{fault_of}
use Rattle.x5_model.proofs.Lists.{in_first, in_either, of_map, of_flat}
use Rattle.x5_model_tree.specs.World.{Specific}
use Rattle.x5_model_tree.specs.Tree.{entry_at, lowest}
use Rattle.x5_model_run.specs.Holdings.{Held, Holdings, usable_agents, subordinates, held_at, copy_at, known_pin}
use Rattle.x5_model_run.specs.Needs.{reference, others, treated_below, to_superior, superior_needs, to_nssr, from_lowest, nssr_at, multicast_needs, supplier_needs, specific_at, to_specific, specific_needs, foreign_needs, known_needs, pin_needs, resolves, resolution_needs, below_needs, to_each, wide_needs, subset_needs, answers_root, evaluated, subset_of, part_needs, by_pin, to_supplier, copied_needs, passing_needs, in_scope}

of_index : {X : Type 0} (xs : List X) (i : ℕ) (x : X) → i < length xs → slice_index_or xs i x ≡ x → In x xs
of_index [] i x h e = absurd (omega arith)
of_index (y ∷ ys) zero x h e = subst (λ z. In z (y ∷ ys)) e here
of_index (y ∷ ys) (suc i) x h e = there (of_index ys i x (omega arith) e)

pub of_contains : {X : Type 0} (xs : List X) (x : X) → Contains xs x → In x xs
of_contains xs x c = of_index xs c.0 x c.1 c.2

abbrev Untried : List Reference → Type 0
Untried rs = (r : Reference) → In r rs → r.tried ≡ false

none : Untried []
none r i = elim i [ ]

one : (q : Reference) → q.tried ≡ false → Untried (q ∷ [])
one q e r i = elim (in_first r q [] i) [ inl s ↦ subst (λ (x : Reference). x.tried ≡ false) (sym s) e | inr j ↦ elim j [ ] ]

maybe : (b : Bool) (q : Reference) → q.tried ≡ false → Untried (when b q)
maybe true q e = one q e
maybe false q e = none

either : (b : Bool) (xs ys : List Reference) → Untried xs → Untried ys → Untried (if b then xs else ys)
either true xs ys f g = f
either false xs ys f g = g

option : {X : Type 0} (ys : List Reference) (f : X → List Reference) (o : Option X) → Untried ys → ((x : X) → Untried (f x)) → Untried (in_option ys f o)
option ys f None g h = g
option ys f (Some x) g h = h x

both : (xs ys : List Reference) → Untried xs → Untried ys → Untried (xs ++ ys)
both xs ys f g r i = elim (in_either r xs ys i) [ inl j ↦ f r j | inr j ↦ g r j ]

mapped : {X : Type 0} (f : X → Reference) (xs : List X) → ((x : X) → (f x).tried ≡ false) → Untried (map f xs)
mapped f xs h r i = let w = of_map f r xs i in ap (λ (x : Reference). x.tried) w.2 ∙ h w.0

flat : {X : Type 0} (f : X → List Reference) (xs : List X) → ((x : X) → Untried (f x)) → Untried (flat_map f xs)
flat f xs h r i = let w = of_flat f r xs i in h w.0 r w.2

module _ (h : Holdings) (m : Chained) where
  resolution : Untried (resolution_needs h m)
  resolution =
      either (resolves h m) (pin_needs h m (known_pin m.request h (key_of m.target))) []
      (option (superior_needs h m) (known_needs h m) (known_pin m.request h (key_of m.target))
      (option [] (to_superior m.target) h.superior none (λ s. one _ refl))
      (λ p. option (foreign_needs h m p) (multicast_needs h m) (held_at h.own p)
      (option (specific_needs h m p) (supplier_needs h m) (copy_at h p)
      (option (in_option [] (to_specific m Cross) (specific_at h.cross p)) (to_specific m Subordinate) (specific_at (subordinates m.request h) p)
      (option [] (to_specific m Cross) (specific_at h.cross p) none (λ k. one _ refl)) (λ k. one _ refl))
      (λ c. maybe _ _ refl))
      (λ c. option [] (from_lowest h m c) (lowest c.entries (key_of m.target)) none (λ e. option [] (to_nssr h m e) (nssr_at c.nssrs (key_of e.name)) none (λ n. maybe _ _ refl)))))
      none

  below : (subset : Subset) (ks : List Specific) → Untried (below_needs h m subset ks)
  below subset ks = mapped (λ (k : Specific). reference k.pin Done Subordinate (usable_agents m.request k.access)) _ (λ k. refl)

  wide : (subset : Subset) (c : Held) → Untried (wide_needs h m subset c)
  wide subset c =
      flat (λ n. in_option [] (to_each h m subset c n) (entry_at c.entries (key_of n.at))) c.nssrs (λ n. option [] (to_each h m subset c n) (entry_at c.entries (key_of n.at)) none (λ e.
      either (in_scope subset (key_of m.target) (key_of e.name)) _ []
      (mapped (λ (a : ℕ). record (reference e.name Done NonSpecific (a ∷ [])) { exclusions = treated_below h m c (key_of e.name) }) (others h.me n.agents) (λ a. refl)) none))

  pub untried_part : Untried (part_needs h m)
  untried_part =
      option [] (subset_needs h m) (subset_of m) none (λ subset.
      both (if answers_root h m then below_needs h m subset h.root else []) (flat_map (λ c. below_needs h m subset c.subordinate ++ wide_needs h m subset c) (evaluated h m))
      (either (answers_root h m) (below_needs h m subset h.root) [] (below subset h.root) none)
      (flat (λ c. below_needs h m subset c.subordinate ++ wide_needs h m subset c) (evaluated h m) (λ c. both (below_needs h m subset c.subordinate) (wide_needs h m subset c) (below subset c.subordinate) (wide subset c))))

  copied : Untried (copied_needs h m)
  copied = either (by_pin m && is_some (subset_of m)) (in_option [] (to_supplier h m) (copy_at h (key_of m.target))) []
      (option [] (to_supplier h m) (copy_at h (key_of m.target)) none (λ c. maybe _ _ refl)) none

  pub untried_passing : Untried (passing_needs h m)
  untried_passing =
      either (is_some (fault_of m.request.body)) [] (resolution_needs h m ++ part_needs h m ++ copied_needs h m) none
      (both (resolution_needs h m ++ part_needs h m) (copied_needs h m) (both (resolution_needs h m) (part_needs h m) resolution untried_part) copied)
