-- Agents by their places: what the tables say of an agent's number is said of that agent.
use Rattle.std.proofs.Common.{◌≡◌, ℕ, zero, suc, ◌+◌, ◌<◌, Bool, true, false, not, ◌&&◌, ◌||◌, ◌==◌, List, [], ◌∷◌, ◌++◌, map, length, get_or, Option, Some, None, Bor, if◌then◌else◌, refl, sym, ap, subst, ◌∙◌, arith}
use Rattle.std.specs.Prelude.{slice_get}
use Rattle.std.specs.Cmp.{both_ways}
use Rattle.std.specs.List.{list_any, flat_map, find, enumerate_from}
use Rattle.std.specs.Option.{option_map}
use Rattle.std.specs.Slice.{IsItemAt}
use Rattle.x5_model.specs.Members.{In, here, there}
use Rattle.x5_model.specs.Words.{some_and, in_option, when}
use Rattle.x5_model.specs.Keys.{Key, same_key, parent, is_child}
use Rattle.x5_model.proofs.KeyLaws.{key_decides}
use Rattle.x5_model.proofs.Prefixes.{child_decides}
use Rattle.x5_model_tree.specs.World.{Context, Agent, World}
use Rattle.x5_model.specs.Entries.{Named}
use Rattle.x5_model_tree.specs.Tree.{key_at, is_there}
use Rattle.x5_model_tree.specs.Masters.{Mastered, pin_of, numbered, mastered, masters, master_among, master_of, agent_at, superior_of, is_first_level}
use Rattle.x5_model_tree.specs.Consistent.{breach, AgentPrinted, NamePrinted, in_nssr, refers_to, child_of_own, unknown_below}
use Rattle.x5_check.specs.Numbers.{referrers_in, owners_in}
use Rattle.x5_check.specs.Parts.{unknown_part}
use Rattle.x5_check.proofs.Places.{got, item_got, item_lacking}
use Rattle.x5_check.proofs.Tables.{any_flat, any_map, any_same, and_any, at_number}

-- ---- agents with their places

numbered_is : {A : Type 0} (xs : List A) (n i : ℕ) (p : ℕ × A) → slice_get (enumerate_from n xs) i ≡ Some p → (p.0 ≡ n + i) × (slice_get xs i ≡ Some p.1)
numbered_is [] n i p e = cc
numbered_is (x ∷ xs) n zero p e = (let a : n ≡ p.0 = cc in omega arith, cc)
numbered_is (x ∷ xs) n (suc i) p e = (let w = numbered_is xs (n + 1) i p e in (omega (arith, w.0), w.1))

pub agent_got : (w : World) (i : ℕ) (p : ℕ × Agent) → slice_get (numbered w) i ≡ Some p → agent_at w p.0 ≡ Some p.1
agent_got w i p e =
    let v = numbered_is w.agents 0 i p e in
    let n : p.0 ≡ i = omega (arith, v.0) in
    ap (slice_get w.agents) n ∙ v.1

pub agent_of : (w : World) (i : ℕ) (p : ℕ × Agent) → i < length (numbered w) → p ≡ get_or (numbered w) i p → agent_at w p.0 ≡ Some p.1
agent_of w i p lt e = agent_got w i p (got (numbered w) i p lt e)

in_at : {A : Type 0} (x : A) (xs : List A) → In x xs → (i : ℕ) × (slice_get xs i ≡ Some x)
in_at x [] i = elim i [ ]
in_at x (y ∷ xs) here = (0, refl)
in_at x (y ∷ xs) (there i) = (let w = in_at x xs i in (suc w.0, w.1))

pub number_of : (w : World) (i : ℕ) (p : ℕ × Agent) → slice_get (numbered w) i ≡ Some p → slice_get w.agents i ≡ Some p.1
number_of w i p e = (numbered_is w.agents 0 i p e).1

pub no_number : (w : World) (i : ℕ) → slice_get (numbered w) i ≡ None → slice_get w.agents i ≡ None
no_number w i e = by w.agents 0 i e
  where
    by : (xs : List Agent) (n i : ℕ) → slice_get (enumerate_from n xs) i ≡ None → slice_get xs i ≡ None
    by [] n i e = refl
    by (x ∷ xs) n zero e = cc
    by (x ∷ xs) n (suc i) e = by xs (n + 1) i e

-- ---- what the tables say of an agent

pub refers_at : (w : World) (n : ℕ) (a : Agent) (key : Key) → agent_at w n ≡ Some a → referrers_in (numbered w) key n ≡ refers_to a key
refers_at w n a key e =
    at_number (λ (b : Agent). refers_to b key) w.agents n ∙ ap (some_and (λ (b : Agent). refers_to b key)) e

pub owns_at : (w : World) (n : ℕ) (a : Agent) (key : Key) → agent_at w n ≡ Some a → owners_in (mastered w) key n ≡ list_any (λ c. is_there c.entries key) a.contexts
owns_at w n a key e =
    any_flat (λ (m : Mastered). (m.master == n) && is_there m.context.entries key) (λ (b : ℕ × Agent). map (λ c. record { master = b.0; context = c }) b.1.contexts) (numbered w)
    ∙ any_same (λ (b : ℕ × Agent). list_any (λ m. (m.master == n) && is_there m.context.entries key) (map (λ c. record { master = b.0; context = c }) b.1.contexts)) (λ b. (b.0 == n) && list_any (λ c. is_there c.entries key) b.1.contexts) (numbered w) (λ b. any_map (λ (m : Mastered). (m.master == n) && is_there m.context.entries key) (λ (c : Context). record { master = b.0; context = c }) b.1.contexts ∙ and_any (b.0 == n) (λ (c : Context). is_there c.entries key) b.1.contexts)
    ∙ at_number (λ (b : Agent). list_any (λ c. is_there c.entries key) b.contexts) w.agents n
    ∙ ap (some_and (λ (b : Agent). list_any (λ c. is_there c.entries key) b.contexts)) e

-- ---- a child of an agent's own entry

child_is : (above pin : Key) → 0 < length pin → is_child above pin ≡ same_key above (parent pin)
child_is above pin lt =
    both_ways (is_child above pin) (same_key above (parent pin)) (λ e. (key_decides above (parent pin)).1 (sym ((child_decides above pin).0 e).1)) (λ e. (child_decides above pin).1 (lt, sym ((key_decides above (parent pin)).0 e)))

children_are : (es : List Named) (pin : Key) → 0 < length pin → list_any (λ e. is_child (key_at e) pin) es ≡ is_there es (parent pin)
children_are es pin lt =
    any_same (λ (e : Named). is_child (key_at e) pin) (λ e. same_key (key_at e) (parent pin)) es (λ e. child_is (key_at e) pin lt)

pub own_below : (w : World) (n : ℕ) (a : Agent) (pin : Key) → 0 < length pin → agent_at w n ≡ Some a → owners_in (mastered w) (parent pin) n ≡ list_any (λ c. list_any (λ e. is_child (key_at e) pin) c.entries) a.contexts
own_below w n a pin lt e =
    owns_at w n a (parent pin) e
    ∙ any_same (λ (c : Context). is_there c.entries (parent pin)) (λ c. list_any (λ f. is_child (key_at f) pin) c.entries) a.contexts (λ c. sym (children_are c.entries pin lt))

no_child : (es : List Named) (pin : Key) → length pin ≡ 0 → list_any (λ e. is_child (key_at e) pin) es ≡ false
no_child [] pin e = refl
no_child (x ∷ es) pin e =
    let f : is_child (key_at x) pin ≡ false = both_ways (is_child (key_at x) pin) false (λ t. absurd (let w = (child_decides (key_at x) pin).0 t in omega (arith, w.0))) (λ t. cc) in
    λ i. f i || no_child es pin e i

no_children : (cs : List Context) (pin : Key) → length pin ≡ 0 → list_any (λ c. list_any (λ e. is_child (key_at e) pin) c.entries) cs ≡ false
no_children [] pin e = refl
no_children (c ∷ cs) pin e = λ i. no_child c.entries pin e i || no_children cs pin e i

pub root_is_no_child : (a : Agent) (pin : Key) → length pin ≡ 0 → false ≡ child_of_own a pin
root_is_no_child a pin e =
    let n : (length pin == 1) ≡ false = ap (λ (m : ℕ). m == 1) e in
    sym ((λ i. (is_first_level a && n i) || no_children a.contexts pin e i) ∙ by (is_first_level a))
  where
    by : (b : Bool) → ((b && false) || false) ≡ false
    by true = refl
    by false = refl

pub child_of_top : (a : Agent) (pin : Key) → length pin ≡ 1 → is_first_level a ≡ true → true ≡ child_of_own a pin
child_of_top a pin e f =
    let n : (length pin == 1) ≡ true = ap (λ (m : ℕ). m == 1) e in
    sym (λ i. (f i && n i) || list_any (λ c. list_any (λ e. is_child (key_at e) pin) c.entries) a.contexts)

pub child_of_entry : (w : World) (n : ℕ) (a : Agent) (pin : Key) (b : Bool) → 0 < length pin → agent_at w n ≡ Some a → (is_first_level a && (length pin == 1)) ≡ false → b ≡ owners_in (mastered w) (parent pin) n → b ≡ child_of_own a pin
child_of_entry w n a pin b lt e f h =
    h ∙ own_below w n a pin lt e ∙ sym (λ i. f i || list_any (λ c. list_any (λ e. is_child (key_at e) pin) c.entries) a.contexts)

-- ---- the contexts agent by agent, and all together

flat_flat : {A B X : Type 0} (f : B → List X) (g : A → List B) (xs : List A) → flat_map f (flat_map g xs) ≡ flat_map (λ x. flat_map f (g x)) xs
flat_flat f g [] = refl
flat_flat {A} {B} {X} f g (x ∷ xs) = joined (g x) (flat_map g xs) ∙ ap (λ (l : List X). flat_map f (g x) ++ l) (flat_flat f g xs)
  where
    joined : (ys zs : List B) → flat_map f (ys ++ zs) ≡ flat_map f ys ++ flat_map f zs
    joined [] zs = refl
    joined (y ∷ ys) zs = ap (λ (l : List X). f y ++ l) (joined ys zs) ∙ sym (again (f y) (flat_map f ys) (flat_map f zs))
      where
        again : (ps qs rs : List X) → (ps ++ qs) ++ rs ≡ ps ++ (qs ++ rs)
        again [] qs rs = refl
        again (p ∷ ps) qs rs = ap (λ (l : List X). p ∷ l) (again ps qs rs)

pub flat_mapped : {A B X : Type 0} (f : B → List X) (v : A → B) (xs : List A) → flat_map f (map v xs) ≡ flat_map (λ x. f (v x)) xs
flat_mapped f v [] = refl
flat_mapped {A} {B} {X} f v (x ∷ xs) = ap (λ (l : List X). f (v x) ++ l) (flat_mapped f v xs)

flat_same : {A X : Type 0} (f g : A → List X) (xs : List A) → ((x : A) → In x xs → f x ≡ g x) → flat_map f xs ≡ flat_map g xs
flat_same f g [] h = refl
flat_same f g (x ∷ xs) h = λ i. h x here i ++ flat_same f g xs (λ y j. h y (there j)) i

pub unknown_together : (w : World) (p : Mastered) → flat_map (unknown_part w p) (mastered w) ≡ flat_map (λ a. flat_map (λ c. unknown_below w a.0 a.1 c p) a.1.contexts) (numbered w)
unknown_together w p =
    flat_flat (unknown_part w p) (λ (a : ℕ × Agent). map (λ c. record { master = a.0; context = c }) a.1.contexts) (numbered w)
    ∙ flat_same (λ (a : ℕ × Agent). flat_map (unknown_part w p) (map (λ c. record { master = a.0; context = c }) a.1.contexts)) (λ a. flat_map (λ c. unknown_below w a.0 a.1 c p) a.1.contexts) (numbered w) (λ a i. flat_mapped (unknown_part w p) (λ (c : Context). record { master = a.0; context = c }) a.1.contexts ∙ of_agent a i)
  where
    of_agent : (a : ℕ × Agent) → In a (numbered w) → flat_map (λ c. unknown_part w p (record { master = a.0; context = c })) a.1.contexts ≡ flat_map (λ c. unknown_below w a.0 a.1 c p) a.1.contexts
    of_agent a i =
        let at = in_at a (numbered w) i in
        let e = refers_at w a.0 a.1 (pin_of p) (agent_got w at.0 a at.1) in
        λ j. flat_map (λ c. when (is_there c.entries (parent (pin_of p)) && not (masters w a.0 (pin_of p) || (e j || some_and (in_nssr c (parent (pin_of p))) (master_of w (pin_of p))))) (breach 6 (AgentPrinted a.0) (NamePrinted p.context.prefix))) a.1.contexts

-- ---- superiors

pub superior_got : (w : World) (agents : List (ℕ × Agent)) (i : ℕ) (r : Option (Bor (ℕ × Agent))) (x : Bor (ℕ × Agent)) → agents ≡ numbered w → IsItemAt agents i r → r ≡ Some x → x.now.1.superior ≡ superior_of w i
superior_got w agents i r x e h f =
    let g : slice_get (numbered w) i ≡ Some x.now = subst (λ (xs : List (ℕ × Agent)). slice_get xs i ≡ Some x.now) e (item_got agents i r x h f) in
    sym (ap (in_option None (λ (a : Agent). a.superior)) (number_of w i x.now g))

pub superior_lacking : (w : World) (agents : List (ℕ × Agent)) (i : ℕ) (r : Option (Bor (ℕ × Agent))) → agents ≡ numbered w → IsItemAt agents i r → r ≡ None → None ≡ superior_of w i
superior_lacking w agents i r e h f =
    let g : slice_get (numbered w) i ≡ None = subst (λ (xs : List (ℕ × Agent)). slice_get xs i ≡ None) e (item_lacking agents i r h f) in
    sym (ap (in_option None (λ (a : Agent). a.superior)) (no_number w i g))

-- ---- masters

master_by : (b : Bool) (m : Mastered) (rest : Option ℕ) (found : Option Mastered) → rest ≡ option_map (λ n. n.master) found → (if b then Some m.master else rest) ≡ option_map (λ n. n.master) (if b then Some m else found)
master_by true m rest found h = refl
master_by false m rest found h = h

pub master_found : (ms : List Mastered) (pin : Key) → master_among ms pin ≡ option_map (λ m. m.master) (find (λ m. same_key (pin_of m) pin) ms)
master_found [] pin = refl
master_found (m ∷ ms) pin =
    master_by (same_key (pin_of m) pin) m (master_among ms pin) (find (λ n. same_key (pin_of n) pin) ms) (master_found ms pin)
