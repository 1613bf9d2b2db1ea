-- What each agent holds, one agent more at a time.
use Rattle.std.proofs.Common.{◌≡◌, ℕ, zero, suc, ◌+◌, ◌<◌, ◌⊎◌, inl, inr, List, [], ◌∷◌, ◌++◌, map, length, get_or, slice_get, refl, sym, ap, subst, ◌∙◌, arith, length-append, Option, Some, option_map}
use Rattle.x5_model.specs.Words.{in_option}
use Rattle.x5_model_tree.specs.World.{Agent}
use Rattle.x5_model_tree.specs.Masters.{agent_at}
use Rattle.x5_model_run.specs.History.{no_holdings}
use Rattle.x5_model_held.specs.Beginning.{described_holdings, holdings_described}
use Rattle.x5_know.specs.declared.described.DescribedAgent.{DescribedAgent}
use Rattle.x5_know.specs.declared.described.Described.{Described}
use Rattle.x5_know.specs.WorldView.{described_agent_view, world_view}
use Rattle.x5_holdings.specs.State.{State, holdings_view}

abbrev pub AreEach : Described → List State → ℕ → Type 0
AreEach world hs n =
    (length hs ≡ n)
    × ((me : ℕ) → me < n → option_map holdings_view (slice_get hs me) ≡ Some (holdings_described (world_view world) me))

last_or_before : (m n : ℕ) → m < n + 1 → (m < n) ⊎ (m ≡ n)
last_or_before zero zero l = inr refl
last_or_before zero (suc n) l = inl (omega arith)
last_or_before (suc m) zero l = absurd (omega arith)
last_or_before (suc m) (suc n) l = elim (last_or_before m n (omega arith)) [
  | inl p ↦ inl (omega arith)
  | inr e ↦ inr (ap (λ (k : ℕ). suc k) e)
]

before_it : {A : Type 0} (xs : List A) (x : A) (i : ℕ) → i < length xs → slice_get (xs ++ x ∷ []) i ≡ slice_get xs i
before_it [] x i l = absurd (omega arith)
before_it (y ∷ ys) x zero l = refl
before_it (y ∷ ys) x (suc i) l = before_it ys x i (omega arith)

at_it : {A : Type 0} (xs : List A) (x : A) → slice_get (xs ++ x ∷ []) (length xs) ≡ Some x
at_it [] x = refl
at_it (y ∷ ys) x = at_it ys x

at_its_place : {A B : Type 0} (f : A → B) (xs : List A) (i : ℕ) (x : A) → i < length xs → x ≡ get_or xs i x → slice_get (map f xs) i ≡ Some (f x)
at_its_place f [] i x l e = absurd (omega arith)
at_its_place f (y ∷ ys) zero x l e = ap (λ z. Some (f z)) (sym e)
at_its_place f (y ∷ ys) (suc i) x l e = at_its_place f ys i x (omega arith) e

module _ (world : Described) (hs now : List State) (n : ℕ) (a : DescribedAgent) (h : State) (lt : n < length world.agents)
    (is : a ≡ get_or world.agents n a) (pushed : now ≡ hs ++ h ∷ [])
    (held : holdings_view h ≡ described_holdings (world_view world) n (described_agent_view a)) (so_far : AreEach world hs n) where
  agent_is : agent_at (world_view world) n ≡ Some (described_agent_view a)
  agent_is = at_its_place described_agent_view world.agents n a lt is

  held_is : holdings_view h ≡ holdings_described (world_view world) n
  held_is = held ∙ ap (λ (o : Option Agent). in_option (no_holdings n) (described_holdings (world_view world) n) o) (sym agent_is)

  pub one_each : AreEach world now (n + 1)
  one_each = (
    (ap length pushed ∙ length-append hs (h ∷ []) ∙ ap (λ (k : ℕ). k + 1) so_far.0),
    λ me l. elim (last_or_before me n l) [
      | inl p ↦
          let inside : me < length hs = subst (λ (k : ℕ). me < k) (sym so_far.0) p in
          ap (λ (xs : List State). option_map holdings_view (slice_get xs me)) pushed
          ∙ ap (λ (o : Option State). option_map holdings_view o) (before_it hs h me inside) ∙ so_far.1 me p
      | inr e ↦
          ap (λ (xs : List State). option_map holdings_view (slice_get xs me)) pushed
          ∙ ap (λ (k : ℕ). option_map holdings_view (slice_get (hs ++ h ∷ []) k)) (e ∙ sym so_far.0)
          ∙ ap (λ (o : Option State). option_map holdings_view o) (at_it hs h)
          ∙ ap Some held_is ∙ ap (λ (k : ℕ). Some (holdings_described (world_view world) k)) (sym e)
    ],
  )
