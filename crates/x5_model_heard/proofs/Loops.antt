-- Steps of the relation as a loop over a list builds them: one more agent or reference is asked, at its place in the
-- list.
use Rattle.std.proofs.Common.{◌≡◌, ℕ, zero, suc, ◌+◌, ◌<◌, ◌≤◌, nat_lt, Bool, true, false, List, [], ◌∷◌, ◌++◌, length, map, take, drop, get_or, Ok, refl, sym, ap, subst, ◌∙◌, arith, Option, Some}
use Rattle.std.specs.List.{list_all}
use Rattle.x5_model.proofs.Decide.{less_decides}
use Rattle.x5_model.proofs.Lists.{both_true}
use Rattle.x5_model.specs.Problems.{unable_to_proceed, unavailable}
use Rattle.x5_model.specs.References.{Reference, Chained}
use Rattle.x5_model.specs.Answers.{Answer, Changed, DirError, NoSuchObject, UpdateProblem, Reply, Answered, Failed}
use Rattle.x5_model.specs.Problems.{entry_already_exists}
use Rattle.x5_model.specs.Entries.{Named}
use Rattle.x5_model_run.specs.Network.{Lost, NoReply, Sent}
use Rattle.x5_model_run.specs.Journal.{Journal}
use Rattle.x5_model_run.specs.Needs.{due_probes}
use Rattle.x5_model_run.specs.Chain.{Scene}
use Rattle.x5_model_serve.specs.Answering.{is_service, is_unavailable, of_these, above_next, merged, with_unexplored, in_vain}
use Rattle.x5_model_serve.specs.Serving.{Hand, hand, is_held_back, Heard, Hears, Unheard, Whole, Broken, Act, Serves, Follows, Sends, Tries, Takes, Spreads, Casts, Gathers, Probes, Updates, Does, carried_for, is_spent, line_of, with_line, with_accepted, limit_reply, holds_now, judged, spent, lost, dropped, sends, in_vain_too, heard, unheard, unable_too, silent_too, answered, nobody_has, some_silent, no_part, part_unheard, part_unavailable, part_answered, part_breaks, clear, unsure, silent, taken, breaks, misses, probes_all}
use Rattle.x5_model_heard.specs.Told.{are_agents, name_agents}

-- ---- lists at a place

at_suc : {A : Type 0} (P : ℕ → A → Type 0) (i : ℕ) (x : A) → P (suc i) x → P (i + 1) x
at_suc P i x p = (let e : suc i ≡ i + 1 = omega arith in subst (λ (k : ℕ). P k x) e p)

pub map_more : {A B : Type 0} (f : A → B) (xs : List A) (i : ℕ) (x : A) → i < length xs → x ≡ get_or xs i x
    → map f (take (i + 1) xs) ≡ map f (take i xs) ++ f x ∷ []
map_more {A} {B} f xs i x h e =
    let same : suc i ≡ i + 1 = omega arith in
    subst (λ (k : ℕ). map f (take k xs) ≡ map f (take i xs) ++ f x ∷ []) same (go xs i h e)
  where
    go : (ys : List A) (k : ℕ) → k < length ys → x ≡ get_or ys k x → map f (take (suc k) ys) ≡ map f (take k ys) ++ f
        x ∷ []
    go [] k l q = absurd (omega arith)
    go (y ∷ ys) zero l q = ap (λ (z : A). f z ∷ []) (sym q)
    go (y ∷ ys) (suc k) l q = ap (λ (zs : List B). f y ∷ zs) (go ys k (omega arith) q)

pub map_apart : {A B : Type 0} (f : A → B) (xs : List A) (i : ℕ) (x : A) → i < length xs → x ≡ get_or xs i x
    → map f xs ≡ map f (take i xs) ++ f x ∷ map f (drop (suc i) xs)
map_apart f [] i x h e = absurd (omega arith)
map_apart {A} {B} f (y ∷ ys) zero x h e = ap (λ (z : A). f z ∷ map f ys) (sym e)
map_apart {A} {B} f (y ∷ ys) (suc i) x h e = ap (λ (zs : List B). f y ∷ zs) (map_apart f ys i x (omega arith) e)

pub map_all : {A B : Type 0} (f : A → B) (xs : List A) (i : ℕ) → length xs ≤ i → map f (take i xs) ≡ map f xs
map_all f [] zero h = refl
map_all f [] (suc i) h = refl
map_all f (x ∷ xs) zero h = absurd (omega arith)
map_all {A} {B} f (x ∷ xs) (suc i) h = ap (λ (ys : List B). f x ∷ ys) (map_all f xs i (omega arith))

pub test_at : {A B : Type 0} (test : B → Bool) (f : A → B) (xs : List A) (i : ℕ) (x : A) → i < length xs → x ≡ get_or xs
    i x
    → list_all test (map f xs) ≡ true → test (f x) ≡ true
test_at test f [] i x h e t = absurd (omega arith)
test_at {A} test f (y ∷ ys) zero x h e t =
    ap (λ (z : A). test (f z)) e ∙ (both_true (test (f y)) (list_all test (map f ys)) t).0
test_at test f (y ∷ ys) (suc i) x h e t =
    test_at test f ys i x (omega arith) e (both_true (test (f y)) (list_all test (map f ys)) t).1

-- the agent at a place is one of the world
pub agent_at : {A : Type 0} (n : ℕ) (f : A → ℕ) (xs : List A) (i : ℕ) (x : A) → i < length xs → x ≡ get_or xs i x
    → are_agents n (map f xs) ≡ true → f x < n
agent_at n f xs i x h e t = (less_decides (f x) n).0 (test_at (λ a. nat_lt a n) f xs i x h e t)

-- ---- a message

module _ {s : Scene} {most : ℕ} {from : Option ℕ} {o : Hand} {r : Reference} {i j : Journal} where
  pub spent_does : (a : ℕ) (y : Reply) → is_held_back from (hand a (carried_for from o r)) ≡ false → is_spent most i ≡ true → j ≡ i → y ≡ limit_reply
      → Does s most (Sends from o r a (Hears y)) i j
  spent_does a y hb e same is =
      subst (λ (z : Reply). Does s most (Sends from o r a (Hears z)) i j) (sym is)
      (subst (λ (l : Journal). Does s most (Sends from o r a (Hears limit_reply)) i l) (sym same) (spent a hb e))

  pub lost_does : (a : ℕ) (m : Chained) → is_held_back from (hand a (carried_for from o r)) ≡ false → m ≡ carried_for from o r → is_spent most i ≡ false
      → (line_of s i from a m).fate ≡ Lost → j ≡ with_line (line_of s i from a m) i
      → Does s most (Sends from o r a Unheard) i j
  lost_does a m hb c e f same = by (carried_for from o r) (sym c)
    where
      by : (x : Chained) → x ≡ m → Does s most (Sends from o r a Unheard) i j
      by x q =
          subst (λ (l : Journal). Does s most (Sends from o r a Unheard) i l)
          (ap (λ (z : Chained). with_line (line_of s i from a z) i) (sym c) ∙ sym same)
          (lost a hb e (ap (λ (z : Chained). (line_of s i from a z).fate) (sym c) ∙ f))

  pub dropped_does : (a : ℕ) (m : Chained) (y : Reply) → is_held_back from (hand a (carried_for from o r)) ≡ false → m ≡ carried_for from o r → is_spent most i ≡ false
      → (line_of s i from a m).fate ≡ NoReply
      → Does s most (Serves (hand a m) y) (with_line (line_of s i from a m) i) j
      → Does s most (Sends from o r a Unheard) i j
  dropped_does a m y hb c e f d =
      dropped a y hb e (ap (λ (z : Chained). (line_of s i from a z).fate) (sym c) ∙ f)
      (subst (λ (z : Chained). Does s most (Serves (hand a z) y) (with_line (line_of s i from a z) i) j) c d)

  pub sends_does : {l : Journal} (a : ℕ) (m : Chained) (y last : Reply) → is_held_back from (hand a (carried_for from o r)) ≡ false → m ≡ carried_for from o r → is_spent most i
      ≡ false
      → (line_of s i from a m).fate ≡ Sent
      → Does s most (Serves (hand a m) y) (with_line (line_of s i from a m) i) j
      → Does s most (Follows from (hand a m) y last) j l
      → Does s most (Sends from o r a (Hears last)) i l
  sends_does {l} a m y last hb c e f d u =
      sends a y last hb e (ap (λ (z : Chained). (line_of s i from a z).fate) (sym c) ∙ f)
      (subst (λ (z : Chained). Does s most (Serves (hand a z) y) (with_line (line_of s i from a z) i) j) c d)
      (subst (λ (z : Chained). Does s most (Follows from (hand a z) y last) j l) c u)

-- ---- the agents of a reference

agents_apart : {A : Type 0} (f : A → ℕ) (xs : List A) (r : Reference) → map f xs ≡ r.agents → (n : ℕ) (x : A)
    → n < length xs
    → x ≡ get_or xs n x → r.agents ≡ map f (take n xs) ++ f x ∷ map f (drop (suc n) xs)
agents_apart f xs r agents n x h e = sym agents ∙ map_apart f xs n x h e

module _ {A : Type 0} (f : A → ℕ) (xs : List A) {s : Scene} {most : ℕ} {from : Option ℕ} {o : Hand} {i j : Journal}
    (r : Reference) (agents : map f xs ≡ r.agents) (n : ℕ) where
  pub next_tried : {l : Journal} (x : A) → n < length xs → x ≡ get_or xs n x
      → Does s most (Tries from o r (map f (take n xs))) i j
      → Does s most (Sends from o r (f x) Unheard) j l
      → Does s most (Tries from o r (map f (take (n + 1) xs))) i l
  next_tried {l} x h e d u =
      subst (λ (these : List ℕ). Does s most (Tries from o r these) i l) (sym (map_more f xs n x h e))
      (in_vain_too (f x) d u)

  pub one_heard : {l : Journal} (x : A) (y : Reply) → n < length xs → x ≡ get_or xs n x
      → Does s most (Tries from o r (map f (take n xs))) i j
      → Does s most (Sends from o r (f x) (Hears y)) j l
      → Does s most (Takes from o r (Hears y)) i l
  one_heard x y h e d u = heard (map f (take n xs)) (map f (drop (suc n) xs)) (f x) y (agents_apart f xs r agents n x h
      e) d u

  pub none_heard : length xs ≤ n → Does s most (Tries from o r (map f (take n xs))) i j
      → Does s most (Takes from o r Unheard) i j
  none_heard h d =
      unheard (subst (λ (these : List ℕ). Does s most (Tries from o r these) i j) (map_all f xs n h ∙ agents) d)

  -- the agents of an NSSR
  pub next_silent : {l : Journal} {noted : List ℕ} (x : A) → n < length xs → x ≡ get_or xs n x
      → Does s most (Spreads from o r (map f (take n xs)) noted) i j
      → Does s most (Sends from o r (f x) Unheard) j l
      → Does s most (Spreads from o r (map f (take (n + 1) xs)) (noted ++ f x ∷ [])) i l
  next_silent {l} {noted} x h e d u =
      subst (λ (these : List ℕ). Does s most (Spreads from o r these (noted ++ f x ∷ [])) i l)
      (sym (map_more f xs n x h e))
      (silent_too (f x) d u)

  pub next_unable : {l : Journal} {noted : List ℕ} (x : A) (y : Reply) → n < length xs → x ≡ get_or xs n x
      → is_service unable_to_proceed y ≡ true
      → Does s most (Spreads from o r (map f (take n xs)) noted) i j
      → Does s most (Sends from o r (f x) (Hears y)) j l
      → Does s most (Spreads from o r (map f (take (n + 1) xs)) noted) i l
  next_unable {l} {noted} x y h e q d u =
      subst (λ (these : List ℕ). Does s most (Spreads from o r these noted) i l) (sym (map_more f xs n x h e))
      (unable_too (f x) y q d u)

  pub one_answers : {l : Journal} {noted : List ℕ} (x : A) (y : Reply) → n < length xs → x ≡ get_or xs n x
      → is_service unable_to_proceed y ≡ false
      → Does s most (Spreads from o r (map f (take n xs)) noted) i j
      → Does s most (Sends from o r (f x) (Hears y)) j l
      → Does s most (Casts from o r y) i l
  one_answers {l} {noted} x y h e q d u =
      answered (map f (take n xs)) (map f (drop (suc n) xs)) noted (f x) y (agents_apart f xs r agents n x h e) q d u

  pub nobody_answers : (noted : List A) (y : Reply) → length xs ≤ n → length noted ≡ 0
      → y ≡ Failed (NoSuchObject (above_next r))
      → Does s most (Spreads from o r (map f (take n xs)) (map f noted)) i j
      → Does s most (Casts from o r y) i j
  nobody_answers [] y h e is d =
      subst (λ (z : Reply). Does s most (Casts from o r z) i j) (sym is)
      (nobody_has (subst (λ (these : List ℕ). Does s most (Spreads from o r these []) i j) (map_all f xs n h ∙ agents)
      d))
  nobody_answers (x ∷ more) y h e is d = absurd (omega arith)

  pub some_unheard : (noted : List A) (y : Reply) → length xs ≤ n → (length noted ≡ 0 → ⊥)
      → y ≡ is_unavailable (of_these (map f noted) r)
      → Does s most (Spreads from o r (map f (take n xs)) (map f noted)) i j
      → Does s most (Casts from o r y) i j
  some_unheard [] y h e is d = absurd (e refl)
  some_unheard (x ∷ more) y h e is d =
      subst (λ (z : Reply). Does s most (Casts from o r z) i j) (sym is)
      (some_silent (map f (x ∷ more)) refl
      (subst (λ (these : List ℕ). Does s most (Spreads from o r these (map f (x ∷ more))) i j) (map_all f xs n h ∙
      agents) d))

-- ---- the agents that a probe goes to

module _ {A : Type 0} (f : A → ℕ) (xs : List A) {s : Scene} {most : ℕ} (k : Hand) {i j : Journal}
    (r : Reference) (agents : map f xs ≡ r.agents) (n : ℕ) where
  pub probe_silent : {l : Journal} {noted : List ℕ} (x : A) → n < length xs → x ≡ get_or xs n x
      → Does s most (Probes k r (map f (take n xs)) noted) i j
      → Does s most (Sends (Some k.receiver) k r (f x) Unheard) j l
      → Does s most (Probes k r (map f (take (n + 1) xs)) (noted ++ f x ∷ [])) i l
  probe_silent {l} {noted} x h e d u =
      subst (λ (these : List ℕ). Does s most (Probes k r these (noted ++ f x ∷ [])) i l) (sym (map_more f xs n x h e))
      (silent (f x) d u)

  pub probe_unsure : {l : Journal} {noted : List ℕ} (x : A) (y : Reply) → n < length xs → x ≡ get_or xs n x
      → is_service unavailable y ≡ true
      → Does s most (Probes k r (map f (take n xs)) noted) i j
      → Does s most (Sends (Some k.receiver) k r (f x) (Hears y)) j l
      → Does s most (Probes k r (map f (take (n + 1) xs)) (noted ++ f x ∷ [])) i l
  probe_unsure {l} {noted} x y h e q d u =
      subst (λ (these : List ℕ). Does s most (Probes k r these (noted ++ f x ∷ [])) i l) (sym (map_more f xs n x h e))
      (unsure (f x) y q d u)

  pub probe_clear : {l : Journal} {noted : List ℕ} (x : A) (y : Reply) → n < length xs → x ≡ get_or xs n x
      → is_service unable_to_proceed y ≡ true
      → Does s most (Probes k r (map f (take n xs)) noted) i j
      → Does s most (Sends (Some k.receiver) k r (f x) (Hears y)) j l
      → Does s most (Probes k r (map f (take (n + 1) xs)) noted) i l
  probe_clear {l} {noted} x y h e q d u =
      subst (λ (these : List ℕ). Does s most (Probes k r these noted) i l) (sym (map_more f xs n x h e))
      (clear (f x) y q d u)

  pub all_probed : {noted : List ℕ} → length xs ≤ n → Does s most (Probes k r (map f (take n xs)) noted) i j
      → Does s most (Probes k r r.agents noted) i j
  all_probed {noted} h d =
      subst (λ (these : List ℕ). Does s most (Probes k r these noted) i j) (map_all f xs n h ∙ agents) d

  pub probe_found : {l : Journal} {noted : List ℕ} (x : A) (y : Reply) (z : DirError) (a : Answer) → n < length xs
      → x ≡ get_or xs n x → y ≡ Answered a → z ≡ UpdateProblem entry_already_exists
      → Does s most (Probes k r (map f (take n xs)) noted) i j
      → Does s most (Sends (Some k.receiver) k r (f x) (Hears y)) j l
      → (mine : List Named) → judged s i k ≡ Ok mine → due_probes (holds_now s i k) k.message ≡ r ∷ []
      → Does s most (Updates k (Failed z)) i l
  probe_found {l} {noted} x y z a h e is was d u mine ok due =
      subst (λ (w : DirError). Does s most (Updates k (Failed w)) i l) (sym was)
      (taken mine r (f x) (map f (take n xs)) (map f (drop (suc n) xs)) noted a ok due
      (sym agents ∙ map_apart f xs n x h e) d
      (subst (λ (w : Reply). Does s most (Sends (Some k.receiver) k r (f x) (Hears w)) j l) is u))

  pub probe_breaks : {l : Journal} {noted : List ℕ} (x : A) (y : Reply) (z : DirError) → n < length xs
      → x ≡ get_or xs n x → y ≡ Failed z → is_service unable_to_proceed (Failed z) ≡ false
      → is_service unavailable (Failed z) ≡ false
      → Does s most (Probes k r (map f (take n xs)) noted) i j
      → Does s most (Sends (Some k.receiver) k r (f x) (Hears y)) j l
      → (mine : List Named) → judged s i k ≡ Ok mine → due_probes (holds_now s i k) k.message ≡ r ∷ []
      → Does s most (Updates k (Failed z)) i l
  probe_breaks {l} {noted} x y z h e is p q d u mine ok due =
      breaks mine r (f x) (map f (take n xs)) (map f (drop (suc n) xs)) noted z ok due
      (sym agents ∙ map_apart f xs n x h e) p q d
      (subst (λ (w : Reply). Does s most (Sends (Some k.receiver) k r (f x) (Hears w)) j l) is u)

-- the update is done, or misses agents that a probe goes to
last_of : {A : Type 0} (x : A) (xs : List A) → (ys : List A) × (y : A) × (x ∷ xs ≡ ys ++ y ∷ [])
last_of x [] = ([], x, refl)
last_of {A} x (y ∷ more) = (let w = last_of y more in (x ∷ w.0, w.1, ap (λ (zs : List A). x ∷ zs) w.2))

module _ {A : Type 0} (f : A → ℕ) {s : Scene} {most : ℕ} (k : Hand) {i j : Journal} (r : Reference) (mine : List Named)
    (ok : judged s i k ≡ Ok mine) (due : due_probes (holds_now s i k) k.message ≡ r ∷ []) where
  pub probed_misses : (noted : List A) (y : Reply) → (length noted ≡ 0 → ⊥) → y ≡ is_unavailable (of_these (map f noted)
      r)
      → Does s most (Probes k r r.agents (map f noted)) i j
      → Does s most (Updates k y) i j
  probed_misses [] y e is d = absurd (e refl)
  probed_misses (x ∷ xs) y e is d =
      let w = last_of (f x) (map f xs) in
      subst (λ (z : Reply). Does s most (Updates k z) i j)
      (ap (λ (zs : List ℕ). is_unavailable (of_these zs r)) (sym w.2) ∙ sym is)
      (misses mine r w.1 w.0 ok due (subst (λ (zs : List ℕ). Does s most (Probes k r r.agents zs) i j) w.2 d))

  pub probed_clear : {l : Journal} (noted : List A) → length noted ≡ 0 → l ≡ with_accepted k.receiver j
      → Does s most (Probes k r r.agents (map f noted)) i j
      → Does s most (Updates k (Answered Changed)) i l
  probed_clear {l} [] e is d =
      subst (λ (z : Journal). Does s most (Updates k (Answered Changed)) i z) (sym is) (probes_all mine r ok due d)
  probed_clear {l} (x ∷ xs) e is d = absurd (omega arith)

-- ---- the references of parts

module _ {A : Type 0} (f : A → Reference) (xs : List A) (a b : Answer) {s : Scene} {most : ℕ} {from : Option ℕ}
    {o : Hand}
    {i j : Journal} (n : ℕ) where
  pub next_unheard : {l : Journal} (x : A) (c : Answer) → n < length xs → x ≡ get_or xs n x
      → c ≡ with_unexplored (in_vain (f x) ∷ []) b
      → Does s most (Gathers from o (map f (take n xs)) a (Whole b)) i j → Does s most (Takes from o (f x) Unheard) j l
      → Does s most (Gathers from o (map f (take (n + 1) xs)) a (Whole c)) i l
  next_unheard x c h q e d t = rw (map_more f xs n x h q, e) (part_unheard (f x) d t)

  pub next_left : {l : Journal} (x : A) (c : Answer) (u : Reference) (y : Reply) → n < length xs → x ≡ get_or xs n x
      → c ≡ with_unexplored (in_vain u ∷ []) b → y ≡ is_unavailable u
      → Does s most (Gathers from o (map f (take n xs)) a (Whole b)) i j → Does s most (Takes from o (f x) (Hears y)) j
      l
      → Does s most (Gathers from o (map f (take (n + 1) xs)) a (Whole c)) i l
  next_left x c u y h q e is d t = rw (map_more f xs n x h q, e) (part_unavailable (f x) u d (rw is at t))

  pub next_part : {l : Journal} (x : A) (c z : Answer) (y : Reply) → n < length xs → x ≡ get_or xs n x → c ≡ merged b z
      → y ≡ Answered z
      → Does s most (Gathers from o (map f (take n xs)) a (Whole b)) i j → Does s most (Takes from o (f x) (Hears y)) j
      l
      → Does s most (Gathers from o (map f (take (n + 1) xs)) a (Whole c)) i l
  next_part x c z y h q e is d t = rw (map_more f xs n x h q, e) (part_answered (f x) z d (rw is at t))

  pub one_breaks : {l : Journal} (x : A) (z : DirError) (y : Reply) → n < length xs → x ≡ get_or xs n x → y ≡ Failed z
      → is_service unavailable (Failed z) ≡ false
      → Does s most (Gathers from o (map f (take n xs)) a (Whole b)) i j → Does s most (Takes from o (f x) (Hears y)) j
      l
      → Does s most (Gathers from o (map f xs) a (Broken (Failed z))) i l
  one_breaks x z y h q is u d t =
      rw (map_apart f xs n x h q) (part_breaks (map f (take n xs)) (map f (drop (suc n) xs)) (f x) z u d (rw is at t))

  pub all_gathered : (c : Answer) → length xs ≤ n → c ≡ b → Does s most (Gathers from o (map f (take n xs)) a (Whole b))
      i j
      → Does s most (Gathers from o (map f xs) a (Whole c)) i j
  all_gathered c h e d = rw e (rw (map_all f xs n h) at d)
