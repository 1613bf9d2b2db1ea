-- A list that is read has one member more, and its keys one key more.
use Rattle.std.proofs.Common.{◌≡◌, List, [], ◌∷◌, ◌++◌, map, refl, ap}
use Rattle.x5_model.specs.Entries.{Named}
use Rattle.x5_model.specs.Keys.{Key}
use Rattle.x5_model.specs.Values.{key_of}
use Rattle.x5_model_tree.specs.Tree.{key_at}
use Rattle.x5_model_world.specs.ContextText.{nssr_keys}
use Rattle.x5_ops.specs.KnowledgeViews.{nssr_view}
use Rattle.x5_ops.specs.declared.knowledge.Nssr.{Nssr}

pub nssr_more : (ns : List Nssr) (n : Nssr) → map nssr_view (ns ++ n ∷ []) ≡ map nssr_view ns ++ nssr_view n ∷ []
nssr_more [] n = refl
nssr_more (m ∷ ns) n = ap (λ l. nssr_view m ∷ l) (nssr_more ns n)

pub nssr_keys_more : (ns : List Nssr) (n : Nssr)
    → nssr_keys (map nssr_view (ns ++ n ∷ [])) ≡ nssr_keys (map nssr_view ns) ++ key_of n.at ∷ []
nssr_keys_more [] n = refl
nssr_keys_more (m ∷ ns) n = ap (λ (l : List Key). key_of m.at ∷ l) (nssr_keys_more ns n)

pub entry_keys_more : (es : List Named) (e : Named) → map key_at (es ++ e ∷ []) ≡ map key_at es ++ key_at e ∷ []
entry_keys_more [] e = refl
entry_keys_more (f ∷ es) e = ap (λ (l : List Key). key_at f ∷ l) (entry_keys_more es e)
