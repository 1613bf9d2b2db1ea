-- No message that is ready costs the whole: levels, distances and sums of contexts are bounded each by itself.
use Rattle.std.proofs.Common.{◌≡◌, ℕ, zero, suc, ◌+◌, ◌-◌, ◌*◌, ◌<◌, ◌≤◌, min, Bool, true, false, ◌&&◌, List, [], ◌∷◌, length, take, refl, arith, length-append, Option, Some, None, if◌then◌else◌}
use Rattle.std.proofs.lemmas.Nat.{mul-le}
use Rattle.std.specs.List.{flat_map}
use Rattle.std.specs.Option.{is_some}
use Rattle.x5_model.specs.Words.{has, in_option}
use Rattle.x5_model.specs.Keys.{Key, same_key}
use Rattle.x5_model.specs.Values.{key_of}
use Rattle.x5_model.specs.References.{Progress, Start, Next, Done, TraceItem, Chained}
use Rattle.x5_model_tree.specs.World.{World}
use Rattle.x5_model_tree.specs.Masters.{Mastered, pin_of, mastered, masters, superior_of, supplier_of}
use Rattle.x5_model_run.specs.Journal.{is_done, item_of}
use Rattle.x5_model_run.specs.Needs.{subset_of, new_name}
use Rattle.x5_model_run.specs.History.{Point, knowledge_at, tree_at}
use Rattle.x5_model_run.specs.Covers.{touched}
use Rattle.x5_model_run.specs.Stage.{stage_of, steps_up, steps_to_master, nssr_pairs}
use Rattle.x5_model_theory.specs.Leading.{level_of}
use Rattle.x5_model_bounds.specs.Costs.{total, width, hops, left_of, pairs_in, is_paid, part_cost, parts_cost, probes_cost, serving_cost, whole_cost}

-- ---- distances

up_small : (n : ℕ) (w : World) (a : ℕ) → steps_up n w a ≤ n
up_small zero w a = omega arith
up_small (suc n) w a = go (superior_of w a) (up_small n w)
  where
    go : (x : Option ℕ) → ((b : ℕ) → steps_up n w b ≤ n) → in_option 0 (λ (above : ℕ). steps_up n w above + 1) x ≤ suc n
    go None f = omega arith
    go (Some b) f = (let h : steps_up n w b ≤ n = f b in omega arith)

pub to_master_small : (n : ℕ) (w : World) (pin : Key) (a : ℕ) → steps_to_master n w pin a ≤ n
to_master_small zero w pin a = omega arith
to_master_small (suc n) w pin a = go (masters w a pin) (supplier_of w a pin) (to_master_small n w pin)
  where
    go : (b : Bool) (x : Option ℕ) → ((s : ℕ) → steps_to_master n w pin s ≤ n) → (if b then 0 else in_option 0 (λ (s : ℕ). steps_to_master n w pin s + 1) x) ≤ suc n
    go true x f = omega arith
    go false None f = omega arith
    go false (Some s) f = (let h : steps_to_master n w pin s ≤ n = f s in omega arith)

-- past the start four suppliers, else sixteen superiors
pub late_distance : (w : World) (i : TraceItem) → 0 < level_of i → (stage_of w i).distance ≤ 4
late_distance w i late = go i.progress late
  where
    go : (x : Progress) → 0 < level_of (record i { progress = x }) → (stage_of w (record i { progress = x })).distance ≤ 4
    go Start h = absurd (omega arith)
    go (Next k) h = to_master_small 4 w (take k (key_of i.target)) i.agent
    go Done h = to_master_small 4 w (key_of i.target) i.agent

pub any_distance : (w : World) (i : TraceItem) → (stage_of w i).distance ≤ 16
any_distance w i = go i.progress
  where
    go : (x : Progress) → (stage_of w (record i { progress = x })).distance ≤ 16
    go Start = up_small 16 w i.agent
    go (Next k) = (let h : steps_to_master 4 w (take k (key_of i.target)) i.agent ≤ 4 = to_master_small 4 w (take k (key_of i.target)) i.agent in omega arith)
    go Done = (let h : steps_to_master 4 w (key_of i.target) i.agent ≤ 4 = to_master_small 4 w (key_of i.target) i.agent in omega arith)

pub hops_within : (w : World) (i : TraceItem) → hops w i ≤ (stage_of w i).distance
hops_within w i = go (is_done i.progress && i.wide)
  where
    go : (b : Bool) → (if b then 0 else (stage_of w i).distance) ≤ (stage_of w i).distance
    go true = omega arith
    go false = omega arith

left_small : (w : World) (to : ℕ) (m : Chained) → left_of w to m ≤ 16 * width w + 16
left_small w to m =
    let a : (min (length m.target) 16 - level_of (item_of to m)) * width w ≤ 16 * width w = mul-le (min (length m.target) 16 - level_of (item_of to m)) (width w) 16 (width w) (less (length m.target) (level_of (item_of to m))) (omega arith) in
    let b : hops w (item_of to m) ≤ (stage_of w (item_of to m)).distance = hops_within w (item_of to m) in
    let c : (stage_of w (item_of to m)).distance ≤ 16 = any_distance w (item_of to m) in
    add ((min (length m.target) 16 - level_of (item_of to m)) * width w) (16 * width w) (hops w (item_of to m)) (stage_of w (item_of to m)).distance a b c
  where
    less : (a b : ℕ) → min a 16 - b ≤ 16
    less a b = omega arith

    add : (a b c d : ℕ) → a ≤ b → c ≤ d → d ≤ 16 → a + c ≤ b + 16
    add a b c d p q r = omega arith

-- ---- contexts

pub total_flat : {X Y : Type 0} (f : X → List Y) (xs : List X) → total (λ x. length (f x)) xs ≡ length (flat_map f xs)
total_flat f [] = refl
total_flat f (x ∷ xs) = let h : total (λ y. length (f y)) xs ≡ length (flat_map f xs) = total_flat f xs in omega (arith, length-append (f x) (flat_map f xs))

pub total_le : {X : Type 0} (f g : X → ℕ) (xs : List X) → ((x : X) → f x ≤ g x) → total f xs ≤ total g xs
total_le f g [] h = omega arith
total_le f g (x ∷ xs) h = let a : f x ≤ g x = h x in let b : total f xs ≤ total g xs = total_le f g xs h in omega arith

pub total_plus : {X : Type 0} (w : ℕ) (f : X → ℕ) (xs : List X) → total (λ x. w + f x) xs ≡ length xs * w + total f xs
total_plus w f [] = omega arith
total_plus {X} w f (x ∷ xs) = let h : total (λ y. w + f y) xs ≡ length xs * w + total f xs = total_plus w f xs in add (total (λ y. w + f y) xs) (length xs) (f x) (total f xs) h
  where
    add : (a l b c : ℕ) → a ≡ l * w + c → (w + b) + a ≡ suc l * w + (b + c)
    add a l b c e = omega arith

part_small : (p : Point) (to : ℕ) (m : Chained) (c : Mastered) → part_cost p to m c ≤ width (knowledge_at p) + pairs_in c
part_small p to m c = go (has same_key (touched (knowledge_at p) (tree_at p) to m) (pin_of c)) (is_paid m c)
  where
    go : (a b : Bool) → (if a then ((if b then 0 else width (knowledge_at p)) + pairs_in c) else 0) ≤ width (knowledge_at p) + pairs_in c
    go true true = omega arith
    go true false = omega arith
    go false b = omega arith

parts_small : (p : Point) (to : ℕ) (m : Chained) → parts_cost p to m ≤ length (mastered (knowledge_at p)) * width (knowledge_at p) + nssr_pairs (knowledge_at p)
parts_small p to m =
    let ms : List Mastered = mastered (knowledge_at p) in
    let a : total (part_cost p to m) (mastered (knowledge_at p)) ≤ total (λ c. width (knowledge_at p) + pairs_in c) (mastered (knowledge_at p)) = total_le (part_cost p to m) (λ c. width (knowledge_at p) + pairs_in c) (mastered (knowledge_at p)) (part_small p to m) in
    let b : total (λ c. width (knowledge_at p) + pairs_in c) (mastered (knowledge_at p)) ≡ length (mastered (knowledge_at p)) * width (knowledge_at p) + total pairs_in (mastered (knowledge_at p)) = total_plus (width (knowledge_at p)) pairs_in (mastered (knowledge_at p)) in
    let c : total pairs_in (mastered (knowledge_at p)) ≡ nssr_pairs (knowledge_at p) = total_flat (λ (m : Mastered). flat_map (λ n. n.agents) m.context.nssrs) (mastered (knowledge_at p)) in
    add (total (part_cost p to m) (mastered (knowledge_at p))) (total (λ c. width (knowledge_at p) + pairs_in c) (mastered (knowledge_at p))) (length (mastered (knowledge_at p)) * width (knowledge_at p)) (total pairs_in (mastered (knowledge_at p))) (nssr_pairs (knowledge_at p)) a b c
  where
    add : (a b c d e : ℕ) → a ≤ b → b ≡ c + d → d ≡ e → a ≤ c + e
    add a b c d e p q r = omega arith

picked : (b : Bool) (a c : ℕ) → a ≤ c → (if b then a else 0) ≤ c
picked true a c h = h
picked false a c h = omega arith

pub serving_small : (p : Point) (to : ℕ) (m : Chained) → 2 + serving_cost p to m ≤ whole_cost p
serving_small p to m =
    let a : left_of (knowledge_at p) to m ≤ 16 * width (knowledge_at p) + 16 = left_small (knowledge_at p) to m in
    let b : (if is_some (subset_of m) then parts_cost p to m else 0) ≤ length (mastered (knowledge_at p)) * width (knowledge_at p) + nssr_pairs (knowledge_at p) = picked (is_some (subset_of m)) (parts_cost p to m) _ (parts_small p to m) in
    let c : probes_cost p m ≤ 5 * width (knowledge_at p) = picked (is_some (new_name m.request.body)) (5 * width (knowledge_at p)) (5 * width (knowledge_at p)) (omega arith) in
    add (left_of (knowledge_at p) to m) (if is_some (subset_of m) then parts_cost p to m else 0) (probes_cost p m) (length (knowledge_at p).agents) (length (mastered (knowledge_at p))) (nssr_pairs (knowledge_at p)) a b c
  where
    add : (a b c n l k : ℕ) → a ≤ 16 * (n + 9) + 16 → b ≤ l * (n + 9) + k → c ≤ 5 * (n + 9) → 2 + (a + (b + c)) ≤ (l + 34) * (n + 9) + k
    add a b c n l k p q r = omega arith
