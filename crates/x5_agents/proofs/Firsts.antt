-- Of contexts with one prefix the first is held, and of agreements for one context the first counts: which these are depends
-- on the keys before, in whatever order they stand.
use Rattle.std.proofs.Common.{◌≡◌, Bool, true, false, cond, if◌then◌else◌, ◌||◌, inl, inr, List, [], ◌∷◌, refl, sym, ap, ◌∙◌}
use Rattle.std.specs.List.{list_any}
use Rattle.x5_model.specs.Words.{has}
use Rattle.x5_model.specs.Keys.{Key, same_key}
use Rattle.x5_model.specs.Values.{key_of}
use Rattle.x5_model.proofs.KeyLaws.{key_decides}
use Rattle.x5_model.proofs.Lists.{true_or_false}
use Rattle.x5_model_tree.specs.World.{Context, Agreement}
use Rattle.x5_model_tree.specs.Masters.{held_contexts}
use Rattle.x5_model_run.specs.History.{first_agreements}

pub same_both : (a b : Key) → same_key a b ≡ same_key b a
same_both a b = elim (true_or_false (same_key a b)) [
  | inl e ↦ e ∙ sym ((key_decides b a).1 (sym ((key_decides a b).0 e)))
  | inr e ↦ elim (true_or_false (same_key b a)) [
    | inl f ↦ (let g = (key_decides a b).1 (sym ((key_decides b a).0 f)) in cc)
    | inr f ↦ e ∙ sym f
  ]
]

pub has_any : (ks : List Key) (k : Key) → has same_key ks k ≡ list_any (same_key k) ks
has_any [] k = refl
has_any (x ∷ ks) k = (λ i. same_both x k i || has_any ks k i)

-- one more
pub has_more : (old new : List Key) (v : Key) → ((q : Key) → list_any (same_key q) new ≡ cond (same_key v q) true (list_any (same_key q) old))
    → (q : Key) → has same_key (v ∷ old) q ≡ has same_key new q
has_more old new v h q =
    or_cond (same_key v q) (has same_key old q) ∙ ap (λ (b : Bool). cond (same_key v q) true b) (has_any old q)
    ∙ sym (h q) ∙ sym (has_any new q)
  where
    or_cond : (b c : Bool) → (b || c) ≡ cond b true c
    or_cond true c = refl
    or_cond false c = refl

one_like : (a b : List Key) (v : Key) → ((q : Key) → has same_key a q ≡ has same_key b q)
    → (q : Key) → has same_key (v ∷ a) q ≡ has same_key (v ∷ b) q
one_like a b v h q = ap (λ (x : Bool). same_key v q || x) (h q)

pub held_like : (a b : List Key) (cs : List Context) → ((q : Key) → has same_key a q ≡ has same_key b q)
    → held_contexts a cs ≡ held_contexts b cs
held_like a b [] h = refl
held_like a b (c ∷ cs) h =
    (λ i. if h (key_of c.prefix) i then held_like a b cs h i
    else (c ∷ held_like (key_of c.prefix ∷ a) (key_of c.prefix ∷ b) cs (one_like a b (key_of c.prefix) h) i))

pub first_like : (a b : List Key) (gs : List Agreement) → ((q : Key) → has same_key a q ≡ has same_key b q)
    → first_agreements a gs ≡ first_agreements b gs
first_like a b [] h = refl
first_like a b (g ∷ gs) h =
    (λ i. if h (key_of g.context) i then first_like a b gs h i
    else (g ∷ first_like (key_of g.context ∷ a) (key_of g.context ∷ b) gs (one_like a b (key_of g.context) h) i))

-- the first of these is held, or isn't
pub first_held : (ks new : List Key) (c : Context) (cs : List Context) → list_any (same_key (key_of c.prefix)) ks ≡ false
    → ((q : Key) → list_any (same_key q) new ≡ cond (same_key (key_of c.prefix) q) true (list_any (same_key q) ks))
    → held_contexts ks (c ∷ cs) ≡ c ∷ held_contexts new cs
first_held ks new c cs e h =
    ap (λ (b : Bool). if b then held_contexts ks cs else (c ∷ held_contexts (key_of c.prefix ∷ ks) cs)) (has_any ks (key_of c.prefix) ∙ e)
    ∙ ap (λ (ds : List Context). c ∷ ds) (held_like (key_of c.prefix ∷ ks) new cs (has_more ks new (key_of c.prefix) h))

pub later_left : (ks : List Key) (c : Context) (cs : List Context) → list_any (same_key (key_of c.prefix)) ks ≡ true
    → held_contexts ks (c ∷ cs) ≡ held_contexts ks cs
later_left ks c cs e =
    ap (λ (b : Bool). if b then held_contexts ks cs else (c ∷ held_contexts (key_of c.prefix ∷ ks) cs)) (has_any ks (key_of c.prefix) ∙ e)
