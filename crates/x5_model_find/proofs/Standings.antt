-- What a line finds is the same for parts and for updates: its two descriptions follow from one another. So are the
-- moments of copies, since knowledge stays as long as no context is moved.
use Rattle.std.proofs.Common.{◌≡◌, ◌↔◌, List, [], ◌∷◌, length, map, refl, sym, ap, subst, ◌∙◌, ℕ, zero, suc, ◌-◌, drop}
use Rattle.x5_model.specs.Members.{In}
use Rattle.x5_model.specs.Keys.{Key}
use Rattle.x5_model_tree.specs.World.{World}
use Rattle.x5_model_tree.specs.Tree.{keys_of, part}
use Rattle.x5_model_tree.specs.Masters.{mastered, pins}
use Rattle.x5_model_run.specs.History.{Deed, Nothing, Outs, Loses, Accepts, Refreshes, Splits, Unsplits, Did, Point, knowledge_at, tree_at, world_at, tree_by, knowledge_by, knowledge_after}
use Rattle.x5_model_theory.specs.Knowledge.{Knowledge, Area}
use Rattle.x5_model_theory.specs.Coherent.{Coherent}
use Rattle.x5_model_theory.specs.Described.{area_of, knowledge_of}
use Rattle.x5_model_theory.specs.Changing.{holding, with_entries}
use Rattle.x5_model_theory.proofs.Cohering.{map_map}
use Rattle.x5_model_updates.specs.Standing as updates
use Rattle.x5_model_updates.specs.Keeping.{keys_in, MovesNone, NoneMoved}
use Rattle.x5_model_updates.proofs.Moments.{knowledge_now}
use Rattle.x5_model_updates.proofs.Stood.{lines_stand}
use Rattle.x5_model_find.specs.Finds.{StandAlike, CopiesAlways}

module _ (p : Point) (s : updates.StandsWhole p) where
  now : knowledge_of (world_at p) ≡ with_entries (keys_in (tree_at p)) (knowledge_of (knowledge_at p))
  now = knowledge_now (tree_at p) (knowledge_at p)

  pub coherent_now : Coherent (with_entries (λ c. keys_of (part (tree_at p) c.prefix)) (knowledge_of (knowledge_at p)))
  coherent_now = subst (λ (k : Knowledge). Coherent k) now s.coherent

  prefixes_are : map (λ (c : Area). c.prefix) (knowledge_of (world_at p)).areas ≡ pins (knowledge_at p)
  prefixes_are =
      ap (λ (k : Knowledge). map (λ (c : Area). c.prefix) k.areas) now
      ∙ map_map (holding (keys_in (tree_at p))) (λ (c : Area). c.prefix) (map area_of (mastered (knowledge_at p)))
      ∙ map_map area_of (λ (c : Area). c.prefix) (mastered (knowledge_at p))

  pub pins_are : (q : Key) → In q (tree_at p).pins ↔ In q (pins (knowledge_at p))
  pins_are q = (λ i. subst (λ (ks : List Key). In q ks) prefixes_are ((s.tree.pins q).0 i), λ i. (s.tree.pins q).1 (subst (λ (ks : List Key). In q ks) (sym prefixes_are) i))

pub stand_alike : StandAlike
stand_alike p s = record {
  described = s.described;
  consistent = s.consistent;
  coherent = coherent_now p s;
  pins_are = pins_are p s;
}

-- contexts and references stay
knowledge_stays : (w : World) (past : List Did) → NoneMoved past → knowledge_by w past ≡ w
knowledge_stays w [] n = refl
knowledge_stays w (d ∷ before) n = by d.deed n.0 (knowledge_stays w before n.1)
  where
    by : (x : Deed) → MovesNone x → knowledge_by w before ≡ w → knowledge_after w before x (knowledge_by w before) ≡ w
    by Nothing m q = q
    by (Outs o) m q = q
    by (Loses reply j) m q = q
    by (Accepts accepted) m q = q
    by (Refreshes f) m q = q
    by (Splits name a) m q = absurd m
    by (Unsplits name) m q = absurd m

none_dropped : (n : ℕ) (past : List Did) → NoneMoved past → NoneMoved (drop n past)
none_dropped zero past h = h
none_dropped (suc n) [] h = tt
none_dropped (suc n) (d ∷ before) h = none_dropped n before h.1

pub copies_always : CopiesAlways
copies_always w past described consistent none g moment i e =
    let before : List Did = drop (length past - moment) past in
    let still : NoneMoved before = none_dropped (length past - moment) past none in
    let s = lines_stand w before described consistent still in
    let same : knowledge_by w before ≡ knowledge_by w past = knowledge_stays w before still ∙ sym (knowledge_stays w past none) in
    record {
      coherent = subst (λ (x : World). Coherent (with_entries (λ c. keys_of (part (tree_by w before) c.prefix)) (knowledge_of x))) same (coherent_now (record { described = w; past = before }) s);
      pins_are = subst (λ (x : World). (q : Key) → In q (tree_by w before).pins ↔ In q (pins x)) same (pins_are (record { described = w; past = before }) s);
    }
