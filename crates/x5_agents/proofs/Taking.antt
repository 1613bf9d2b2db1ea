-- One context more is held where its prefix is new.
use Rattle.std.proofs.Common.{◌≡◌, ℕ, ◌+◌, ◌<◌, true, false, cond, List, [], ◌∷◌, ◌++◌, map, length, drop, get_or, sym, ap, ◌∙◌}
use Rattle.std.proofs.lemmas.List.{append_assoc, map-append}
use Rattle.std.specs.List.{list_any}
use Rattle.x5_model.specs.Keys.{Key, same_key}
use Rattle.x5_model.specs.Values.{key_of}
use Rattle.x5_model_tree.specs.World.{Specific, Context}
use Rattle.x5_model_tree.specs.Masters.{held_contexts}
use Rattle.x5_model_run.specs.Holdings.{Held}
use Rattle.x5_model_held.specs.Beginning.{described_context}
use Rattle.x5_ops.specs.declared.knowledge.ContextSpec.{ContextSpec}
use Rattle.x5_ops.specs.KnowledgeViews.{context_view}
use Rattle.x5_ops.proofs.Dropping.{drop_at}
use Rattle.x5_holdings.specs.State.{Kept, held_view}
use Rattle.x5_agents.proofs.Firsts.{first_held, later_left}

module _ (ks : List Specific) (xs : List ContextSpec) where
  abbrev held : List Context → List Held
  held cs = map (described_context ks) cs

  abbrev left : List Key → ℕ → List Held
  left before i = held (held_contexts before (map context_view (drop i xs)))

  abbrev pub AreHeld : List Kept → List Key → ℕ → Type 0
  AreHeld own before i = map held_view own ++ left before i ≡ held (held_contexts [] (map context_view xs))

  module _ (own : List Kept) (before : List Key) (i : ℕ) (x : ContextSpec) (lt : i < length xs) (is : x ≡ get_or xs i x)
      (so_far : AreHeld own before i) where
    at : map context_view (drop i xs) ≡ context_view x ∷ map context_view (drop (i + 1) xs)
    at = ap (λ (l : List ContextSpec). map context_view l) (drop_at xs i x lt is)

    pub one_held : (now : List Kept) (after : List Key) (y : Kept) → list_any (same_key (key_of x.prefix)) before ≡ false
        → ((q : Key) → list_any (same_key q) after ≡ cond (same_key (key_of x.prefix) q) true (list_any (same_key q) before))
        → held_view y ≡ described_context ks (context_view x) → now ≡ own ++ y ∷ [] → AreHeld now after (i + 1)
    one_held now after y fresh more v n =
        ap (λ (l : List Kept). map held_view l ++ left after (i + 1)) n
        ∙ ap (λ (l : List Held). l ++ left after (i + 1)) (map-append held_view own (y ∷ []))
        ∙ append_assoc (map held_view own) (held_view y ∷ []) (left after (i + 1))
        ∙ ap (λ (z : Held). map held_view own ++ z ∷ left after (i + 1)) v
        ∙ ap (λ (cs : List Context). map held_view own ++ held cs)
        (sym (first_held before after (context_view x) (map context_view (drop (i + 1) xs)) fresh more))
        ∙ ap (λ (cs : List Context). map held_view own ++ held (held_contexts before cs)) (sym at)
        ∙ so_far

    pub none_held : (now : List Kept) (after : List Key) → list_any (same_key (key_of x.prefix)) before ≡ true
        → now ≡ own → after ≡ before → AreHeld now after (i + 1)
    none_held now after late n k =
        (λ j. map held_view (n j) ++ left (k j) (i + 1))
        ∙ ap (λ (cs : List Context). map held_view own ++ held cs)
        (sym (later_left before (context_view x) (map context_view (drop (i + 1) xs)) late))
        ∙ ap (λ (cs : List Context). map held_view own ++ held (held_contexts before cs)) (sym at)
        ∙ so_far
