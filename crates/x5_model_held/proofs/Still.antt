-- Outages, losses and what accepts nothing leave the tree, the knowledge and each copy's stamp as they are, line by line.
use Rattle.std.proofs.Common.{◌≡◌, ℕ, Bool, true, false, List, [], ◌∷◌, ◌++◌, map, refl, sym, ap, ◌∙◌, Option, None, Some, IsTrue}
use Rattle.x5_model.specs.Words.{first_of, in_option}
use Rattle.x5_model.proofs.Lists.{both_true}
use Rattle.x5_model_tree.specs.World.{Agent, Agreement, World}
use Rattle.x5_model_tree.specs.Tree.{Tree}
use Rattle.x5_model_tree.specs.Masters.{agent_at, held_contexts}
use Rattle.x5_model_run.specs.Holdings.{Held, Copy, Holdings}
use Rattle.x5_model_run.specs.History.{Deed, Nothing, Outs, Loses, Accepts, Refreshes, Splits, Unsplits, Did, Point, Refreshed, tree_by, tree_after, knowledge_by, knowledge_after, refresh_of, refreshes_of, stamp_of, copy_as_of, copy_by, own_context, agreements_of, agent_holdings, holdings_at, no_holdings}
use Rattle.x5_model_held.specs.Theorems.{is_still, are_still, HeldWhileStill}

one_tree : (d : Deed) (t : Tree) → is_still d ≡ true → tree_after d t ≡ t
one_tree Nothing t e = refl
one_tree (Outs o) t e = refl
one_tree (Loses reply k) t e = refl
one_tree (Accepts []) t e = refl
one_tree (Accepts (a ∷ more)) t e = cc
one_tree (Refreshes f) t e = cc
one_tree (Splits name a) t e = cc
one_tree (Unsplits name) t e = cc

one_world : (w : World) (before : List Did) (d : Deed) (k : World) → is_still d ≡ true → knowledge_after w before d k ≡ k
one_world w before Nothing k e = refl
one_world w before (Outs o) k e = refl
one_world w before (Loses reply n) k e = refl
one_world w before (Accepts accepted) k e = refl
one_world w before (Refreshes f) k e = refl
one_world w before (Splits name a) k e = cc
one_world w before (Unsplits name) k e = cc

one_stamp : (d : Deed) (number : ℕ) → is_still d ≡ true → refresh_of d number ≡ []
one_stamp Nothing number e = refl
one_stamp (Outs o) number e = refl
one_stamp (Loses reply n) number e = refl
one_stamp (Accepts accepted) number e = refl
one_stamp (Refreshes f) number e = cc
one_stamp (Splits name a) number e = cc
one_stamp (Unsplits name) number e = cc

first_still : (d : Did) (before : List Did) → are_still (d ∷ before) ≡ true → (is_still d.deed ≡ true) × (are_still before ≡ true)
first_still d before e = both_true (is_still d.deed) (are_still before) e

tree_stays : (w : World) (past : List Did) → are_still past ≡ true → tree_by w past ≡ tree_by w []
tree_stays w [] e = refl
tree_stays w (d ∷ before) e =
    let h = first_still d before e in one_tree d.deed (tree_by w before) h.0 ∙ tree_stays w before h.1

world_stays : (w : World) (past : List Did) → are_still past ≡ true → knowledge_by w past ≡ w
world_stays w [] e = refl
world_stays w (d ∷ before) e =
    let h = first_still d before e in
    one_world w before d.deed (knowledge_by w before) h.0 ∙ world_stays w before h.1

none_refreshed : (past : List Did) (number : ℕ) → are_still past ≡ true → refreshes_of past number ≡ []
none_refreshed [] number e = refl
none_refreshed (d ∷ before) number e =
    let h = first_still d before e in
    ap (λ (fs : List Refreshed). fs ++ refreshes_of before number) (one_stamp d.deed number h.0)
    ∙ none_refreshed before number h.1

abbrev beginning : Point → Point
beginning p = record { described = p.described; past = [] }

abbrev copy_with : Point → Agreement → Option ℕ → Copy
copy_with p g stamp = record { held = copy_as_of p g stamp; stamp = stamp; supplier = g.supplier }

copy_stays : (p : Point) (g : Agreement) → are_still p.past ≡ true → copy_by p g ≡ copy_by (beginning p) g
copy_stays p g e = ap (λ (fs : List Refreshed). copy_with p g (stamp_of (first_of fs))) (none_refreshed p.past g.number e)

copies_stay : (p : Point) (gs : List Agreement) → are_still p.past ≡ true → map (copy_by p) gs ≡ map (copy_by (beginning p)) gs
copies_stay p [] e = refl
copies_stay p (g ∷ gs) e =
    ap (λ (c : Copy). c ∷ map (copy_by p) gs) (copy_stays p g e)
    ∙ ap (λ (cs : List Copy). copy_by (beginning p) g ∷ cs) (copies_stay p gs e)

agent_stays : (p : Point) (me : ℕ) (a : Agent) → are_still p.past ≡ true → agent_holdings p me a ≡ agent_holdings (beginning p) me a
agent_stays p me a e =
    ap (λ (t : Tree). record (agent_holdings p me a) { own = map (own_context t a) (held_contexts [] a.contexts) })
    (tree_stays p.described p.past e)
    ∙ ap (λ (w : World). record (agent_holdings (beginning p) me a) { copies = map (copy_by p) (agreements_of w me) })
    (world_stays p.described p.past e)
    ∙ ap (λ (cs : List Copy). record (agent_holdings (beginning p) me a) { copies = cs })
    (copies_stay p (agreements_of p.described me) e)

any_stays : (p : Point) (me : ℕ) (x : Option Agent) → are_still p.past ≡ true
    → in_option (no_holdings me) (agent_holdings p me) x ≡ in_option (no_holdings me) (agent_holdings (beginning p) me) x
any_stays p me None e = refl
any_stays p me (Some a) e = agent_stays p me a e

pub held_while_still : HeldWhileStill
held_while_still p me e =
    let still : are_still p.past ≡ true = e in
    ap (λ (w : World). in_option (no_holdings me) (agent_holdings p me) (agent_at w me)) (world_stays p.described p.past still)
    ∙ any_stays p me (agent_at p.described me) still
