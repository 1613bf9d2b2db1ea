-- The first context of a prefix, over all agents.
use Rattle.std.proofs.Common.{◌≡◌, ℕ, suc, ◌+◌, ◌<◌, ◌≤◌, nat_le, arith, Bool, true, false, cond, List, [], ◌∷◌, ◌++◌, map, drop, length, get_or, refl, sym, ap, ◌∙◌, add-one, drop-cons, Option, Some, None, option_map}
use Rattle.std.proofs.lemmas.List.Folds.{find-append}
use Rattle.std.specs.List.{find, flat_map}
use Rattle.std.specs.Option.{option_or}
use Rattle.x5_know.specs.WorldView.{described_agent_view}
use Rattle.x5_know.specs.declared.described.DescribedAgent.{DescribedAgent}
use Rattle.x5_model.specs.Keys.{same_key}
use Rattle.x5_model.specs.Values.{Name, key_of}
use Rattle.x5_model_tree.specs.World.{Agent, Agreement, Context}
use Rattle.x5_model_world.specs.WorldFile.{copies, entries_there, with_copies}
use Rattle.x5_ops.specs.KnowledgeViews.{context_view}

found_here : {A B : Type 0} (f : A → B) (b : Bool) (x : A) (rest : Option B) (more : Option A)
    → rest ≡ option_map f more → cond b (Some (f x)) rest ≡ option_map f (cond b (Some x) more)
found_here f true x rest more e = refl
found_here f false x rest more e = e

viewed : {A B : Type 0} (p : B → Bool) (f : A → B) (xs : List A)
    → find p (map f xs) ≡ option_map f (find (λ x. p (f x)) xs)
viewed p f [] = refl
viewed p f (x ∷ xs) = found_here f (p (f x)) x _ _ (viewed p f xs)

map_both : {A B : Type 0} (f : A → B) (xs ys : List A) → map f xs ++ map f ys ≡ map f (xs ++ ys)
map_both f [] ys = refl
map_both f (x ∷ xs) ys = ap (λ l. f x ∷ l) (map_both f xs ys)

all_contexts : (agents : List DescribedAgent)
    → flat_map (λ a. a.contexts) (map described_agent_view agents)
    ≡ map context_view (flat_map (λ a. a.spec.contexts) agents)
all_contexts [] = refl
all_contexts (a ∷ agents) =
    ap (λ (l : List Context). map context_view a.spec.contexts ++ l) (all_contexts agents)
    ∙ map_both context_view a.spec.contexts (flat_map (λ (b : DescribedAgent). b.spec.contexts) agents)

-- how many entries the first context of the name has
pub copied_by : (agents : List DescribedAgent) (n : Name)
    → entries_there (find (λ (c : Context). same_key (key_of c.prefix) (key_of n))
    (flat_map (λ (a : Agent). a.contexts) (map described_agent_view agents)))
    ≡ entries_there (option_map context_view (find (λ c. same_key (key_of c.prefix) (key_of n))
    (flat_map (λ a. a.spec.contexts) agents)))
copied_by agents n =
    ap (λ (l : List Context). entries_there (find (λ c. same_key (key_of c.prefix) (key_of n)) l)) (all_contexts agents)
    ∙ ap entries_there (viewed (λ (c : Context). same_key (key_of c.prefix) (key_of n)) context_view
    (flat_map (λ (a : DescribedAgent). a.spec.contexts) agents))

drop_at : {A : Type 0} (members : List A) (i : ℕ) (x : A)
    → i < length members → x ≡ get_or members i x → drop i members ≡ x ∷ drop (i + 1) members
drop_at {A} members i x lt is = rw (add-one, drop-cons members i x) (ap (λ (y : A). y ∷ drop (suc i) members) (sym is))

-- it's one of the member at the place, or one of those behind it
pub found_step : {A B : Type 0} (p : B → Bool) (f : A → List B) (xs : List A) (i : ℕ) (x : A)
    → i < length xs → x ≡ get_or xs i x
    → find p (flat_map f (drop i xs)) ≡ option_or (find p (f x)) (find p (flat_map f (drop (i + 1) xs)))
found_step p f xs i x lt is =
    ap (λ l. find p (flat_map f l)) (drop_at xs i x lt is) ∙ find-append p (f x) (flat_map f (drop (i + 1) xs))

pub found_first : {A B : Type 0} (p : B → Bool) (f : A → List B) (xs : List A) (i : ℕ) (x : A) (y : B)
    (whole : Option B)
    → i < length xs → x ≡ get_or xs i x → Some y ≡ find p (f x)
    → find p (flat_map f (drop i xs)) ≡ whole → Some y ≡ whole
found_first {A} {B} p f xs i x y whole lt is here so =
    ap (λ (o : Option B). option_or o (find p (flat_map f (drop (i + 1) xs)))) here
    ∙ sym (found_step p f xs i x lt is) ∙ so

pub found_later : {A B : Type 0} (p : B → Bool) (f : A → List B) (xs : List A) (i : ℕ) (x : A) (whole : Option B)
    → i < length xs → x ≡ get_or xs i x → None ≡ find p (f x) → find p (flat_map f (drop i xs)) ≡ whole
    → find p (flat_map f (drop (i + 1) xs)) ≡ whole
found_later {A} {B} p f xs i x whole lt is here so =
    ap (λ (o : Option B). option_or o (find p (flat_map f (drop (i + 1) xs)))) here
    ∙ sym (found_step p f xs i x lt is) ∙ so

-- the count only grows
pub copies_grow : (contexts : List Context) (n : ℕ) (gs : List Agreement) → n ≤ with_copies contexts n gs
copies_grow contexts n [] = omega arith
copies_grow contexts n (g ∷ gs) =
    let h : n + copies contexts g ≤ with_copies contexts (n + copies contexts g) gs =
    copies_grow contexts (n + copies contexts g) gs in
    omega arith

over : (n k : ℕ) → k < n → nat_le n k ≡ false
over n k h = grind arith

-- one agreement too many
pub too_many : (contexts : List Context) (gs : List Agreement) (i : ℕ) (g : Agreement) (total count whole : ℕ)
    → i < length gs → g ≡ get_or gs i g → count ≡ copies contexts g → 400_000 < total + count
    → with_copies contexts total (drop i gs) ≡ whole → nat_le whole 400_000 ≡ false
too_many contexts gs i g total count whole lt is e more h =
    let rest : List Agreement = drop (i + 1) gs in
    let at : with_copies contexts total (drop i gs) ≡ with_copies contexts (total + copies contexts g) rest =
    ap (with_copies contexts total) (drop_at gs i g lt is) in
    let grown : total + copies contexts g ≤ with_copies contexts (total + copies contexts g) rest =
    copies_grow contexts (total + copies contexts g) rest in
    let same : with_copies contexts (total + copies contexts g) rest ≡ whole = sym at ∙ h in
    over whole 400_000 (omega (arith, e, same, grown, more))
