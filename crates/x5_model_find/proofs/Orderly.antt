-- Over sound knowledge an agent masters a prefix once, and has one copy of it; none is the root: of two contexts with
-- one prefix the first alone is held.
use Rattle.std.proofs.Common.{◌≡◌, ◌<◌, ◌==◌, Bool, true, false, inl, inr, List, [], ◌∷◌, length, map, refl, sym, ap, subst, ◌∙◌, if◌then◌else◌}
use Rattle.std.specs.List.{filter}
use Rattle.x5_model.specs.Words.{has}
use Rattle.x5_model.specs.Members.{In, Once, here, there}
use Rattle.x5_model.specs.Keys.{Key, same_key}
use Rattle.x5_model.specs.Values.{key_of}
use Rattle.x5_model.proofs.KeyLaws.{key_decides}
use Rattle.x5_model.proofs.Lists.{in_first, of_map, has_in}
use Rattle.x5_model_tree.specs.World.{Context, Agreement}
use Rattle.x5_model_tree.specs.Masters.{held_contexts}
use Rattle.x5_model_run.specs.Holdings.{Held, Copy}
use Rattle.x5_model_run.specs.History.{knowledge_at, tree_at, own_context, copy_by, first_agreements, agreements_of}
use Rattle.x5_model_theory.proofs.Cohering.{map_map}
use Rattle.x5_model_theory.proofs.Holding.{good_at, by_agent, copy_key, own_mastered}
use Rattle.x5_model_find.specs.Finds.{Orderly, HoldingsOrderly}

false_true : false ≡ true → ⊥
false_true e = cc

new_contexts : (before : List Key) (cs : List Context) (c : Context) → In c (held_contexts before cs) → In (key_of c.prefix) before → ⊥
new_contexts before [] c i j = elim i [ ]
new_contexts before (x ∷ cs) c i j = go (has same_key before (key_of x.prefix)) refl i (λ l. new_contexts before cs c l j) (λ l. new_contexts (key_of x.prefix ∷ before) cs c l (there j))
  where
    go : (b : Bool) → has same_key before (key_of x.prefix) ≡ b → In c (if b then held_contexts before cs else (x ∷ held_contexts (key_of x.prefix ∷ before) cs))
        → (In c (held_contexts before cs) → ⊥) → (In c (held_contexts (key_of x.prefix ∷ before) cs) → ⊥) → ⊥
    go true e l f g = f l
    go false e l f g =
        elim (in_first c x (held_contexts (key_of x.prefix ∷ before) cs) l) [
          | inl same ↦ false_true (sym e ∙ has_in same_key key_decides (key_of x.prefix) before (subst (λ (y : Context). In (key_of y.prefix) before) same j))
          | inr k ↦ g k
        ]

once_contexts : (before : List Key) (cs : List Context) → Once (map (λ (c : Context). key_of c.prefix) (held_contexts before cs))
once_contexts before [] = tt
once_contexts before (x ∷ cs) = go (has same_key before (key_of x.prefix)) (once_contexts before cs) (once_contexts (key_of x.prefix ∷ before) cs)
  where
    go : (b : Bool) → Once (map (λ (c : Context). key_of c.prefix) (held_contexts before cs)) → Once (map (λ (c : Context). key_of c.prefix) (held_contexts (key_of x.prefix ∷ before) cs))
        → Once (map (λ (c : Context). key_of c.prefix) (if b then held_contexts before cs else (x ∷ held_contexts (key_of x.prefix ∷ before) cs)))
    go true f g = f
    go false f g = (
      λ i.
          let c = of_map (λ (c : Context). key_of c.prefix) (key_of x.prefix) (held_contexts (key_of x.prefix ∷ before) cs) i in
          new_contexts (key_of x.prefix ∷ before) cs c.0 c.1 (subst (λ (k : Key). In k (key_of x.prefix ∷ before)) c.2 here),
      g,
    )

new_agreements : (before : List Key) (gs : List Agreement) (g : Agreement) → In g (first_agreements before gs) → In (key_of g.context) before → ⊥
new_agreements before [] g i j = elim i [ ]
new_agreements before (x ∷ gs) g i j = go (has same_key before (key_of x.context)) refl i (λ l. new_agreements before gs g l j) (λ l. new_agreements (key_of x.context ∷ before) gs g l (there j))
  where
    go : (b : Bool) → has same_key before (key_of x.context) ≡ b → In g (if b then first_agreements before gs else (x ∷ first_agreements (key_of x.context ∷ before) gs))
        → (In g (first_agreements before gs) → ⊥) → (In g (first_agreements (key_of x.context ∷ before) gs) → ⊥) → ⊥
    go true e l f h = f l
    go false e l f h =
        elim (in_first g x (first_agreements (key_of x.context ∷ before) gs) l) [
          | inl same ↦ false_true (sym e ∙ has_in same_key key_decides (key_of x.context) before (subst (λ (y : Agreement). In (key_of y.context) before) same j))
          | inr k ↦ h k
        ]

once_agreements : (before : List Key) (gs : List Agreement) → Once (map (λ (g : Agreement). key_of g.context) (first_agreements before gs))
once_agreements before [] = tt
once_agreements before (x ∷ gs) = go (has same_key before (key_of x.context)) (once_agreements before gs) (once_agreements (key_of x.context ∷ before) gs)
  where
    go : (b : Bool) → Once (map (λ (g : Agreement). key_of g.context) (first_agreements before gs)) → Once (map (λ (g : Agreement). key_of g.context) (first_agreements (key_of x.context ∷ before) gs))
        → Once (map (λ (g : Agreement). key_of g.context) (if b then first_agreements before gs else (x ∷ first_agreements (key_of x.context ∷ before) gs)))
    go true f h = f
    go false f h = (
      λ i.
          let c = of_map (λ (g : Agreement). key_of g.context) (key_of x.context) (first_agreements (key_of x.context ∷ before) gs) i in
          new_agreements (key_of x.context ∷ before) gs c.0 c.1 (subst (λ (k : Key). In k (key_of x.context ∷ before)) c.2 here),
      h,
    )

same_maps : {A B : Type 0} (f g : A → B) → ((x : A) → f x ≡ g x) → (xs : List A) → map f xs ≡ map g xs
same_maps f g e [] = refl
same_maps {A} {B} f g e (x ∷ xs) = ap (λ (y : B). y ∷ map f xs) (e x) ∙ ap (λ (ys : List B). g x ∷ ys) (same_maps f g e xs)

pub holdings_orderly : HoldingsOrderly
holdings_orderly p o sound =
    by_agent p o Orderly (record { own_once = tt; copies_once = tt; filled = λ c i. elim i [ ] }) (λ a ia. record {
      own_once = subst (λ (xs : List Key). Once xs) (sym (map_map (own_context (tree_at p) a) (λ (c : Held). key_of c.prefix) (held_contexts [] a.contexts))) (once_contexts [] a.contexts);
      copies_once = subst (λ (ks : List Key). Once ks) (sym (map_map (copy_by p) (λ (x : Copy). key_of x.held.prefix) (agreements_of (knowledge_at p) o)
          ∙ same_maps (λ (g : Agreement). key_of (copy_by p g).held.prefix) (λ (g : Agreement). key_of g.context) (λ g. copy_key p g) (agreements_of (knowledge_at p) o)))
          (once_agreements [] (filter (λ (g : Agreement). g.consumer == o) (knowledge_at p).agreements));
      filled = λ c i. (let w = own_mastered p o a c ia i in subst (λ (k : Key). 0 < length k) w.3 ((good_at p sound).filled w.0 w.1));
    })
