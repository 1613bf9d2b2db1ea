-- A described context: all its entries are below its prefix, each with its parent, and each key stands once.
use Rattle.std.proofs.Common.{◌≡◌, ℕ, zero, suc, ◌-◌, ◌<◌, true, false, not, ◌&&◌, ◌==◌, ◌⊎◌, inl, inr, List, [], ◌∷◌, map, take, length, refl, sym, ap, subst, ◌∙◌, arith}
use Rattle.std.specs.Cmp.Lexicographic.{pointwise, bytes_decides}
use Rattle.std.specs.List.{list_any, list_all}
use Rattle.x5_model.specs.Words.{distinct, same_octets}
use Rattle.x5_model.specs.Members.{In, here, there, Once}
use Rattle.x5_model.specs.Keys.{Key, IsPrefix, parent, same_key}
use Rattle.x5_model.specs.Values.{Pair, Rdn, Name, key_of_pair, key_of_rdn, key_of, name_above, last_rdn}
use Rattle.x5_model.specs.Entries.{Named}
use Rattle.x5_model.specs.Attributes.{is_ordered, has_rdn}
use Rattle.x5_model.proofs.KeyLaws.{key_decides}
use Rattle.x5_model.proofs.Prefixes.{prefix_chain, prefix_itself, parent_is_prefix}
use Rattle.x5_model.proofs.Lists.{both_true, not_true, of_any, of_all, of_map, in_first, once_map}
use Rattle.x5_model.proofs.Decide.{nat_same_decides, once_decides}
use Rattle.x5_model_tree.specs.World.{Nssr, Context, World}
use Rattle.x5_model_tree.specs.Tree.{key_at, keys_of, is_there}
use Rattle.x5_model_tree.specs.Described.{same_pair_spelled, same_spelling, is_grown, is_rooted, is_kept, is_entry_name, is_nssr, is_context}
use Rattle.x5_model_tree.specs.Conditions.{Has}
use Rattle.x5_model_tree.specs.Good.{IsContext}
use Rattle.x5_model_tree.proofs.Exact.{there_decides}

-- ---- names that are spelled alike have one key

same_pair_key : (p q : Pair) → same_pair_spelled p q ≡ true → key_of_pair p ≡ key_of_pair q
same_pair_key p q e =
    let w = both_true (p.kind == q.kind) (same_octets p.text q.text && same_octets p.normal q.normal) e in
    let v = both_true (same_octets p.text q.text) (same_octets p.normal q.normal) w.1 in
    let a : p.kind ≡ q.kind = (nat_same_decides p.kind q.kind).0 w.0 in
    let b : p.normal ≡ q.normal = (bytes_decides p.normal q.normal).0 v.1 in
    λ i. (a i, b i)

same_rdn_key : (r s : Rdn) → pointwise same_pair_spelled r s ≡ true → key_of_rdn r ≡ key_of_rdn s
same_rdn_key [] [] e = refl
same_rdn_key [] (q ∷ s) e = cc
same_rdn_key (p ∷ r) [] e = cc
same_rdn_key (p ∷ r) (q ∷ s) e =
    let w = both_true (same_pair_spelled p q) (pointwise same_pair_spelled r s) e in
    λ i. same_pair_key p q w.0 i ∷ same_rdn_key r s w.1 i

pub same_name_key : (m n : Name) → same_spelling m n ≡ true → key_of m ≡ key_of n
same_name_key [] [] e = refl
same_name_key [] (s ∷ n) e = cc
same_name_key (r ∷ m) [] e = cc
same_name_key (r ∷ m) (s ∷ n) e =
    let w = both_true (pointwise same_pair_spelled r s) (same_spelling m n) e in
    λ i. same_rdn_key r s w.0 i ∷ same_name_key m n w.1 i

key_length : (n : Name) → length (key_of n) ≡ length n
key_length [] = refl
key_length (r ∷ n) = ap (λ (k : ℕ). suc k) (key_length n)

key_take : (k : ℕ) (n : Name) → key_of (take k n) ≡ take k (key_of n)
key_take zero n = refl
key_take (suc k) [] = refl
key_take (suc k) (r ∷ n) = ap (λ (m : Key). key_of_rdn r ∷ m) (key_take k n)

-- the key of the name above is the parent
pub above_key : (n : Name) → key_of (name_above n) ≡ parent (key_of n)
above_key n = key_take (length n - 1) n ∙ ap (λ (k : ℕ). take (k - 1) (key_of n)) (sym (key_length n))

-- ---- entries that stand after their parents

above_in : (before : List Named) (e : Named) → list_any (λ f. same_spelling f.name (name_above e.name)) before ≡ true → (f : Named) × In f before × (key_at f ≡ parent (key_at e))
above_in before e h =
    let w = of_any (λ f. same_spelling f.name (name_above e.name)) before h in
    (w.0, w.1, same_name_key w.0.name (name_above e.name) w.2 ∙ above_key e.name)

record Step (before : List Named) (e : Named) (more : List Named) : Type 0 where
  above : (f : Named) × In f before × (key_at f ≡ parent (key_at e))
  fresh : is_there before (key_at e) ≡ false
  rest : is_grown (e ∷ before) more ≡ true

step : (before : List Named) (e : Named) (more : List Named) → is_grown before (e ∷ more) ≡ true → Step before e more
step before e more h =
    let w = both_true (list_any (λ f. same_spelling f.name (name_above e.name)) before) (not (is_there before (key_at e)) && is_grown (e ∷ before) more) h in
    let v = both_true (not (is_there before (key_at e))) (is_grown (e ∷ before) more) w.1 in
    record { above = above_in before e w.0; fresh = not_true _ v.0; rest = v.1 }

grown_below : (pin : Key) (before more : List Named) → is_grown before more ≡ true → ((f : Named) → In f before → IsPrefix pin (key_at f)) → (e : Named) → In e more → IsPrefix pin (key_at e)
grown_below pin before [] h p e i = elim i [ ]
grown_below pin before (x ∷ more) h p e i =
    let s = step before x more h in
    let up : IsPrefix pin (parent (key_at x)) = subst (λ (k : Key). IsPrefix pin k) s.above.2 (p s.above.0 s.above.1) in
    let here_too : IsPrefix pin (key_at x) = prefix_chain pin (parent (key_at x)) (key_at x) up (parent_is_prefix (key_at x)) in
    elim (in_first e x more i) [
      | inl q ↦ subst (λ (y : Named). IsPrefix pin (key_at y)) (sym q) here_too
      | inr j ↦ grown_below pin (x ∷ before) more s.rest (λ f k. elim (in_first f x before k) [ inl q ↦ subst (λ (y : Named). IsPrefix pin (key_at y)) (sym q) here_too | inr l ↦ p f l ]) e j
    ]

grown_above : (all before more : List Named) → is_grown before more ≡ true → ((f : Named) → In f before → In f all) → ((f : Named) → In f more → In f all) → (e : Named) → In e more → Has all (parent (key_at e))
grown_above all before [] h p q e i = elim i [ ]
grown_above all before (x ∷ more) h p q e i =
    let s = step before x more h in
    elim (in_first e x more i) [
      | inl r ↦ subst (λ (y : Named). Has all (parent (key_at y))) (sym r) (s.above.0, p s.above.0 s.above.1, s.above.2)
      | inr j ↦ grown_above all (x ∷ before) more s.rest (λ f k. elim (in_first f x before k) [ inl r ↦ subst (λ (y : Named). In y all) (sym r) (q x here) | inr l ↦ p f l ]) (λ f k. q f (there k)) e j
    ]

not_before : (before more : List Named) → is_grown before more ≡ true → (e f : Named) → In e more → In f before → key_at e ≡ key_at f → ⊥
not_before before [] h e f i j q = elim i [ ]
not_before before (x ∷ more) h e f i j q =
    let s = step before x more h in
    elim (in_first e x more i) [
      | inl r ↦ (let there_is : is_there before (key_at x) ≡ true = (there_decides before (key_at x)).1 (f, j, sym q ∙ ap key_at r) in
          let none = s.fresh in cc)
      | inr k ↦ not_before (x ∷ before) more s.rest e f k (there j) q
    ]

grown_once : (before more : List Named) → is_grown before more ≡ true → Once (keys_of more)
grown_once before [] h = tt
grown_once before (x ∷ more) h =
    let s = step before x more h in
    ((λ i. let w = of_map key_at (key_at x) more i in not_before (x ∷ before) more s.rest w.0 x w.1 here (sym w.2)), grown_once (x ∷ before) more s.rest)

-- ---- a described context

record Rooted (pin : Key) (entries : List Named) : Type 0 where
  prefix_there : Has entries pin
  below : (e : Named) → In e entries → IsPrefix pin (key_at e)
  grown : (e : Named) → In e entries → (key_at e ≡ pin) ⊎ Has entries (parent (key_at e))
  once : Once (keys_of entries)

rooted : (c : Context) (entries : List Named) → is_rooted c entries ≡ true → Rooted (key_of c.prefix) entries
rooted c [] h = cc
rooted c (x ∷ more) h =
    let w = both_true (same_spelling c.prefix x.name) (is_grown (x ∷ []) more) h in
    let at : key_of c.prefix ≡ key_at x = same_name_key c.prefix x.name w.0 in
    let first_is : IsPrefix (key_of c.prefix) (key_at x) = subst (λ (k : Key). IsPrefix (key_of c.prefix) k) at (prefix_itself (key_of c.prefix)) in
    let only : (f : Named) → In f (x ∷ []) → f ≡ x = (λ f k. elim (in_first f x [] k) [ inl q ↦ q | inr l ↦ elim l [ ] ]) in
    record {
      prefix_there = (x, here, sym at);
      below = λ e i. elim (in_first e x more i) [
        | inl q ↦ subst (λ (y : Named). IsPrefix (key_of c.prefix) (key_at y)) (sym q) first_is
        | inr j ↦ grown_below (key_of c.prefix) (x ∷ []) more w.1 (λ f k. subst (λ (y : Named). IsPrefix (key_of c.prefix) (key_at y)) (sym (only f k)) first_is) e j
      ];
      grown = λ e i. elim (in_first e x more i) [
        | inl q ↦ inl (ap key_at q ∙ sym at)
        | inr j ↦ inr (grown_above (x ∷ more) (x ∷ []) more w.1 (λ f k. subst (λ (y : Named). In y (x ∷ more)) (sym (only f k)) here) (λ f k. there k) e j)
      ];
      once = ((λ i. let v = of_map key_at (key_at x) more i in not_before (x ∷ []) more w.1 v.0 x v.1 here (sym v.2)), grown_once (x ∷ []) more w.1);
    }

filled_name : (n : Name) → is_entry_name n ≡ true → 0 < length (key_of n)
filled_name [] h = cc
filled_name (r ∷ n) h = omega (arith, key_length n)

pub context_grown : (w : World) (c : Context) → is_context w c ≡ true → IsContext c
context_grown w c h =
    let a = both_true (is_rooted c c.entries) (list_all is_kept c.entries && (list_all (is_nssr w c) c.nssrs && distinct same_key (map (λ n. key_of n.at) c.nssrs))) h in
    let b = both_true (list_all is_kept c.entries) (list_all (is_nssr w c) c.nssrs && distinct same_key (map (λ n. key_of n.at) c.nssrs)) a.1 in
    let d = both_true (list_all (is_nssr w c) c.nssrs) (distinct same_key (map (λ n. key_of n.at) c.nssrs)) b.1 in
    let r : Rooted (key_of c.prefix) c.entries = rooted c c.entries a.0 in
    let at : Has c.entries (key_of c.prefix) = r.prefix_there in
    let kept : is_kept at.0 ≡ true = of_all is_kept at.0 c.entries b.0 at.1 in
    let full : 0 < length (key_at at.0) = filled_name at.0.name (both_true (is_entry_name at.0.name) _ kept).0 in
    record {
      filled = subst (λ (k : Key). 0 < length k) at.2 full;
      prefix_there = r.prefix_there;
      below = r.below;
      grown = r.grown;
      once = r.once;
      one_entry = λ e f i j q. once_map key_at c.entries e f r.once i j q;
      kept = λ e i. (let v = both_true (is_entry_name e.name) _ (of_all is_kept e c.entries b.0 i) in (filled_name e.name v.0, (both_true (is_ordered e.entry) _ v.1).0));
      nssr_there = λ n i. (there_decides c.entries (key_of n.at)).0 (both_true (is_there c.entries (key_of n.at)) _ (of_all (is_nssr w c) n c.nssrs d.0 i)).0;
      one_nssr = λ n k i j q. once_map (λ (x : Nssr). key_of x.at) c.nssrs n k ((once_decides same_key key_decides (map (λ x. key_of x.at) c.nssrs)).0 d.1) i j q;
    }
