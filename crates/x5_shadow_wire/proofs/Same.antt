-- What is read as it was told brings the same: agents go by their names, each its own, and a reference's context aside
-- everything else is told.
use Rattle.std.proofs.Common.{◌≡◌, ℕ, zero, suc, ◌<◌, Bool, true, false, List, [], ◌∷◌, length, map, refl, sym, ap, ap₂, ◌∙◌, arith}
use Rattle.x5_model.specs.Entries.{Named}
use Rattle.x5_model.specs.Members.{In, here, there}
use Rattle.x5_model.specs.Values.{Text}
use Rattle.x5_model.proofs.Lists.{in_map}
use Rattle.x5_model_tree.specs.World as world
use Rattle.x5_model_fitting.specs.Names.{Each}
use Rattle.x5_model_typed.specs.Layouts.{Surroundings}
use Rattle.x5_model_typed.specs.Leaves.{is_agent_name}
use Rattle.x5_model_messages.specs.Shadows as shadows
use Rattle.x5_model_shadowed.specs.Agents.{AreAgents}
use Rattle.x5_model_shadowed.specs.Within.{AgentWithin, KnownWithin, NonSpecificWithin, RefreshWithin}
use Rattle.x5_model_shadowed.proofs.Agents.{agent_is_itself}
use Rattle.x5_ops.specs.KnowledgeViews.{specific_view, nssr_view}
use Rattle.x5_ops.specs.declared.knowledge.Specific.{Specific}
use Rattle.x5_ops.specs.declared.knowledge.Nssr.{Nssr}
use Rattle.x5_ops.specs.declared.knowledge.Step.{Step}
use Rattle.x5_ops.specs.declared.knowledge.Step.TheVariants as steps
use Rattle.x5_dispber.specs.ShadowViews.{agent_name, told_known, told_other, told_step}
use Rattle.x5_refresh.specs.declared.brought.Brought.{Brought}
use Rattle.x5_refresh.specs.declared.brought.Brought.TheVariants.{Total, Steps}
use Rattle.x5_shadow_wire.specs.Carried.{IsSame, bringing}

-- ---- what a message of shadowing tells

abbrev entries_in : shadows.Refresh → List Named
entries_in (shadows.Total entries known others) = entries
entries_in other = []

abbrev known_in : shadows.Refresh → List shadows.Known
known_in (shadows.Total entries known others) = known
known_in other = []

abbrev others_in : shadows.Refresh → List shadows.NonSpecific
others_in (shadows.Total entries known others) = others
others_in other = []

abbrev steps_in : shadows.Refresh → List shadows.Step
steps_in (shadows.Steps given) = given
steps_in other = []

abbrev is_total : shadows.Refresh → Bool
is_total (shadows.Total entries known others) = true
is_total other = false

abbrev is_nothing : shadows.Refresh → Bool
is_nothing shadows.Nothing = true
is_nothing other = false

differ : true ≡ false → ⊥
differ e = cc

-- ---- changes

abbrev step_by : shadows.Step → Step
step_by (shadows.Add e) = steps.Add e
step_by (shadows.Remove name) = steps.Remove name
step_by (shadows.Modify e) = steps.Modify e
step_by (shadows.Rename name e) = steps.Rename name e

step_back : (s : Step) → step_by (told_step s) ≡ s
step_back (steps.Add e) = refl
step_back (steps.Remove name) = refl
step_back (steps.Modify e) = refl
step_back (steps.Rename name e) = refl

steps_back : (given : List Step) → map step_by (map told_step given) ≡ given
steps_back [] = refl
steps_back (s ∷ more) = ap₂ ◌∷◌ (step_back s) (steps_back more)

same_steps : (a b : List Step) → map told_step a ≡ map told_step b → a ≡ b
same_steps a b e = sym (steps_back a) ∙ ap (map step_by) e ∙ steps_back b

-- ---- lists

no_more : {A : Type 0} {x : A} {xs : List A} → [] ≡ x ∷ xs → ⊥
no_more e = cc

no_less : {A : Type 0} {x : A} {xs : List A} → x ∷ xs ≡ [] → ⊥
no_less e = cc

first_is : {A : Type 0} {x y : A} {xs ys : List A} → x ∷ xs ≡ y ∷ ys → x ≡ y
first_is e = cc

rest_is : {A : Type 0} {x y : A} {xs ys : List A} → x ∷ xs ≡ y ∷ ys → xs ≡ ys
rest_is e = cc

each_same : {A B C : Type 0} (f : A → B) (g : A → C) (P : B → Type 0) → ((x y : A) → P (f y) → f x ≡ f y → g x ≡ g y)
    → (xs ys : List A) → Each P (map f ys) → map f xs ≡ map f ys → map g xs ≡ map g ys
each_same f g P same [] [] h e = refl
each_same f g P same [] (y ∷ ys) h e = absurd (no_more e)
each_same f g P same (x ∷ xs) [] h e = absurd (no_less e)
each_same f g P same (x ∷ xs) (y ∷ ys) h e =
    ap₂ ◌∷◌ (same x y (h (f y) here) (first_is e)) (each_same f g P same xs ys (λ z i. h z (there i)) (rest_is e))

-- ---- agents

placed : (names : List Text) (a : ℕ) → is_agent_name (agent_name names a) ≡ true → a < length names
placed [] a h = absurd (cc h)
placed (n ∷ ns) zero h = omega arith
placed (n ∷ ns) (suc a) h = let l = placed ns a h in omega (arith, l)

module _ (w : Surroundings) (names : List Text) (agents : AreAgents w names) where
  same_agent : (a b : ℕ) → is_agent_name (agent_name names b) ≡ true → agent_name names a ≡ agent_name names b → a ≡ b
  same_agent a b h e = agent_is_itself w names b a agents (placed names b h) e

  same_agents : (xs ys : List ℕ) → Each (AgentWithin w) (map (agent_name names) ys)
      → map (agent_name names) xs ≡ map (agent_name names) ys → xs ≡ ys
  same_agents [] [] h e = refl
  same_agents [] (y ∷ ys) h e = absurd (no_more e)
  same_agents (x ∷ xs) [] h e = absurd (no_less e)
  same_agents (x ∷ xs) (y ∷ ys) h e =
      ap₂ ◌∷◌ (same_agent x y (h (agent_name names y) here).named (first_is e))
      (same_agents xs ys (λ t i. h t (there i)) (rest_is e))

  same_known : (a b : Specific) → KnownWithin w (told_known names b)
      → told_known names a ≡ told_known names b → specific_view a ≡ specific_view b
  same_known a b h e = λ i. record {
    pin = ap (λ (k : shadows.Known). k.pin) e i;
    access = record {
      master = same_agent a.access.master b.access.master h.master.named (ap (λ (k : shadows.Known). k.master) e) i;
      shadows = same_agents a.access.shadows b.access.shadows h.shadows (ap (λ (k : shadows.Known). k.shadows) e) i;
    };
  }

  same_other : (a b : Nssr) → NonSpecificWithin w (told_other names b)
      → told_other names a ≡ told_other names b → nssr_view a ≡ nssr_view b
  same_other a b h e = λ i. record {
    at = ap (λ (n : shadows.NonSpecific). n.at) e i;
    agents = same_agents a.agents b.agents h.agents (ap (λ (n : shadows.NonSpecific). n.agents) e) i;
  }

  -- ---- what a refresh brings

  pub same_brought : (a b : Brought) → RefreshWithin w (bringing names b)
      → bringing names a ≡ bringing names b → IsSame a b
  same_brought (Total a) (Total b) h e = record {
    entries = ap entries_in e;
    references = each_same (told_known names) specific_view (KnownWithin w) same_known a.specific b.specific h.1
        (ap known_in e);
    nssrs = each_same (told_other names) nssr_view (NonSpecificWithin w) same_other a.nssr b.nssr h.2
        (ap others_in e);
  }
  same_brought (Total a) (Steps []) h e = absurd (differ (ap is_total e))
  same_brought (Total a) (Steps (s ∷ more)) h e = absurd (differ (ap is_total e))
  same_brought (Steps []) (Total b) h e = absurd (differ (ap is_total (sym e)))
  same_brought (Steps (s ∷ more)) (Total b) h e = absurd (differ (ap is_total (sym e)))
  same_brought (Steps []) (Steps []) h e = refl
  same_brought (Steps []) (Steps (s ∷ more)) h e = absurd (differ (ap is_nothing e))
  same_brought (Steps (s ∷ more)) (Steps []) h e = absurd (differ (ap is_nothing (sym e)))
  same_brought (Steps (s ∷ more)) (Steps (t ∷ others)) h e = same_steps (s ∷ more) (t ∷ others) (ap steps_in e)
