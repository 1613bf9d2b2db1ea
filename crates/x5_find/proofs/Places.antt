-- What the longest known pin on the way says of the context, or the copy, at its place: it's on the way, and the
-- definition goes on
-- in it.
use Rattle.std.proofs.Common.{◌≡◌, ℕ, zero, suc, ◌<◌, ◌≤◌, true, List, [], ◌∷◌, map, length, Option}
use Rattle.std.proofs.Common.{Some, None, Bor, refl, sym, ap, subst, ◌∙◌, arith}
use Rattle.std.proofs.lemmas.List.{length-map}
use Rattle.std.specs.Prelude.{slice_get}
use Rattle.std.specs.Option.{is_some, option_map}
use Rattle.x5_model.specs.Words.{distinct}
use Rattle.x5_model.specs.Keys.{Key, IsPrefix, same_key, is_prefix}
use Rattle.x5_model.specs.Values.{key_of, key_of_rdn}
use Rattle.x5_model.specs.Requests.{Request}
use Rattle.x5_model.specs.References.{Chained}
use Rattle.x5_model.proofs.KeyLaws.{key_decides}
use Rattle.x5_model.proofs.Prefixes.{prefix_decides}
use Rattle.x5_model.proofs.Lists.{of_find}
use Rattle.x5_model_tree.specs.World.{Specific}
use Rattle.x5_model_tree.specs.Tree.{longest}
use Rattle.x5_model_tree.proofs.Longest.{IsLongest as Longest, longest_right}
use Rattle.x5_model_run.specs.Holdings.{Held, Copy, Holdings, held_at, copy_at, subordinates, known_pins, known_pin}
use Rattle.x5_model_run.specs.Needs.{specific_at}
use Rattle.x5_model_serve.specs.Finding as finding
use Rattle.x5_ops.specs.declared.knowledge.Specific as knowledge
use Rattle.x5_ops.specs.declared.knowledge.Cross as knowledge_cross
use Rattle.x5_ops.specs.KnowledgeViews.{specific_view, cross_view}
use Rattle.x5_dse.specs.Linked.{prefix_of}
use Rattle.x5_holdings.specs.Known.{IsLongest}
use Rattle.x5_holdings.specs.State.{Kept, CopyKept, State, IsKept, held_view, copy_view, holdings_view, are_once}
use Rattle.x5_holdings.specs.declared.holdings.Pin.TheVariants.{Subordinate, Cross}
use Rattle.x5_find.specs.Ways.{IsOwnPin, IsCopyPin, IsNear}
use Rattle.x5_find.proofs.Ways.{by_known, at_own, at_copy}

-- ---- lists

pub get_mapped : {A B : Type 0} (f : A → B) (xs : List A) (i : ℕ) → slice_get (map f xs) i ≡ option_map f
    (slice_get xs i)
get_mapped f [] i = refl
get_mapped f (x ∷ xs) zero = refl
get_mapped f (x ∷ xs) (suc i) = get_mapped f xs i

place_within : {A B : Type 0} (f : A → B) (xs : List A) (i : ℕ) → is_some (slice_get (map f xs) i) ≡ true → i < length
    xs
place_within f [] i e = cc
place_within f (x ∷ xs) zero e = omega arith
place_within f (x ∷ xs) (suc i) e = let l = place_within f xs i e in omega arith

-- the longest is a prefix
pub on_way : (pins : List Key) (name p : Key) → longest pins name ≡ Some p → IsPrefix p name
on_way pins name p e = by (longest pins name) (longest_right pins name) e
  where
    by : (o : Option Key) → Longest pins name o → o ≡ Some p → IsPrefix p name
    by None h g = cc
    by (Some q) h g = (let s : q ≡ p = inside q g in subst (λ (k : Key). IsPrefix k name) s h.1.0)
      where
        inside : (q : Key) → Some q ≡ Some p → q ≡ p
        inside q g = cc

module _ (s : State) (m : Chained) (place : ℕ) where
  module _ (pin : IsOwnPin s m place) where
    pub own_within : place < length s.own
    own_within = place_within held_view s.own place pin.first.1

    module _ (kept : Kept) (at : slice_get s.own place ≡ Some kept) where
      own_found : held_at (holdings_view s).own pin.key ≡ Some (held_view kept)
      own_found = pin.first.0 ∙ (get_mapped held_view s.own place ∙ ap (option_map held_view) at)

      pub own_goes : finding.resolved (holdings_view s) m ≡ finding.in_own (holdings_view s) m (held_view kept)
      own_goes = by_known (holdings_view s) m (Some pin.key) pin.longest ∙ at_own (holdings_view s) m pin.key
          (held_view kept) own_found

      own_key : key_of kept.prefix ≡ pin.key
      own_key = (key_decides (key_of kept.prefix) pin.key).0
          (of_find (λ (c : Held). same_key (key_of c.prefix) pin.key) (held_view kept) (holdings_view s).own
          own_found).1

      pub own_on_way : IsKept kept → is_prefix (prefix_of kept.nodes.nodes) (key_of m.target) ≡ true
      own_on_way k =
          (prefix_decides (prefix_of kept.nodes.nodes) (key_of m.target)).1
          (subst (λ (p : Key). IsPrefix p (key_of m.target)) (sym (k.prefixed ∙ own_key))
          (on_way (map key_of (known_pins m.request (holdings_view s))) (key_of m.target) pin.key pin.longest))

  module _ (pin : IsCopyPin s m place) where
    pub copy_within : place < length s.copies
    copy_within = place_within copy_view s.copies place pin.first.2

    module _ (kept : CopyKept) (at : slice_get s.copies place ≡ Some kept) where
      pub copy_found : copy_at (holdings_view s) pin.key ≡ Some (copy_view kept)
      copy_found = pin.first.1 ∙ (get_mapped copy_view s.copies place ∙ ap (option_map copy_view) at)

      pub copy_goes : finding.resolved (holdings_view s) m ≡ finding.in_copy (holdings_view s) m (copy_view kept)
      copy_goes = by_known (holdings_view s) m (Some pin.key) pin.longest ∙ at_copy (holdings_view s) m pin.key
          (copy_view kept) pin.first.0 copy_found

      pub copy_key : key_of kept.prefix ≡ pin.key
      copy_key = (key_decides (key_of kept.prefix) pin.key).0
          (of_find (λ (c : Copy). same_key (key_of c.held.prefix) pin.key) (copy_view kept) (holdings_view s).copies
          copy_found).1

      -- its prefix has no more RDNs than an octet counts
      pub copy_near : IsNear s m → length kept.prefix ≤ 255
      copy_near near =
          let k : length (key_of kept.prefix) ≡ length pin.key = ap length copy_key in
          let l : length pin.key ≤ 255 = near pin.key pin.longest in
          omega (arith, length-map kept.prefix key_of_rdn, k, l)

-- no two copies are of one context, as the definitions see them
pub copies_once : (s : State) → are_once s.copies ≡ true → distinct same_key
    (map (λ (d : Copy). key_of d.held.prefix) (holdings_view s).copies) ≡ true
copies_once s e = ap (λ (l : List Key). distinct same_key l) (same s.copies) ∙ e
  where
    same : (cs : List CopyKept) → map (λ (d : Copy). key_of d.held.prefix) (map copy_view cs) ≡ map
        (λ (c : CopyKept). key_of c.prefix) cs
    same [] = refl
    same (c ∷ cs) = ap (λ (l : List Key). key_of c.prefix ∷ l) (same cs)

-- ---- the pins of references

module _ (r : Request) (h : Holdings) (name : Key) where
  module _ (near : (p : Key) → known_pin r h name ≡ Some p → length p ≤ 255) where
    pin_near : (ks : List Specific) (key : Key) (k : Specific) → specific_at ks key ≡ Some k
        → known_pin r h name ≡ Some key → length k.pin ≤ 255
    pin_near ks key k e l =
        let same : key_of k.pin ≡ key = (key_decides (key_of k.pin) key).0
        (of_find (λ (x : Specific). same_key (key_of x.pin) key) k ks e).1 in
        let n : length (key_of k.pin) ≡ length key = ap length same in
        let p : length key ≤ 255 = near key l in
        omega (arith, length-map k.pin key_of_rdn, n, p)

    pub subordinate_near : (k : Bor knowledge.Specific) → IsLongest r h name (Subordinate k) → length k.now.pin ≤ 255
    subordinate_near k e = pin_near (subordinates r h) e.key (specific_view k.now) e.first.2 e.longest

    pub cross_near : (k : Bor knowledge_cross.Cross) → IsLongest r h name (Cross k) → length k.now.pin ≤ 255
    cross_near k e = pin_near h.cross e.key (cross_view k.now) e.first.3 e.longest
