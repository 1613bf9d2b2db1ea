-- Lists through a view.
use Rattle.std.proofs.Common.{◌≡◌, ◌<◌, ◌+◌, ◌++◌, ℕ, List, ◌∷◌, [], map, drop, take}
use Rattle.std.proofs.Common.{length, slice_index_or, ap, sym, ◌∙◌, refl, arith, append_assoc}
use Rattle.std.proofs.lemmas.List.{drop_more, drop-map, take_more, map-append, length-drop}
use Rattle.std.specs.declared.option.Option.{Option}
use Rattle.std.specs.declared.option.Option.TheVariants.{None}
use Rattle.x5_model_typed.specs.Nodes as nodes
use Rattle.x5_model_typed.specs.Forms as forms
use Rattle.x5_model_typed.specs.Judged as judged
use Rattle.x5_types.specs.declared.form.Component.{Component}
use Rattle.x5_types.specs.FormView.{components_view}
use Rattle.x5_typed.specs.StateView.{no_node}

pub mapped_more : {X Y : Type 0} (f : X → Y) (xs : List X) (i : ℕ) (d : X) → i < length xs
    → drop i (map f xs) ≡ f (slice_index_or xs i d) ∷ drop (i + 1) (map f xs)
mapped_more {X = X} {Y = Y} f xs i d less =
    drop-map f i xs ∙ ap (map f) (drop_more xs i d less)
    ∙ ap (λ (l : List Y). f (slice_index_or xs i d) ∷ l) (sym (drop-map f (i + 1) xs))

-- One item more at the front, where the rest is known.
pub take_next : {X : Type 0} (xs more : List X) (i : ℕ) (x : X) → drop i xs ≡ x ∷ more
    → take (i + 1) xs ≡ take i xs ++ (x ∷ [])
take_next {X = X} xs more i x e =
    let less : i < length xs = omega (arith, length-drop i xs, ap length e) in
    let same : slice_index_or xs i x ∷ drop (i + 1) xs ≡ x ∷ more = sym (drop_more xs i x less) ∙ e in
    let first : slice_index_or xs i x ≡ x = cc same in
    take_more xs i x less ∙ ap (λ (y : X). take i xs ++ (y ∷ [])) first

-- The same through two views.
pub put_next : {A X Y : Type 0} (f : A → Y) (g : X → Y) (new old start : List A) (a : A) (xs more : List X) (i : ℕ)
    (x : X)
    → new ≡ old ++ (a ∷ []) → f a ≡ g x → drop i xs ≡ x ∷ more → map f old ≡ map f start ++ map g (take i xs)
    → map f new ≡ map f start ++ map g (take (i + 1) xs)
put_next {Y = Y} f g new old start a xs more i x is same e h =
    ap (map f) is ∙ map-append f old (a ∷ []) ∙ ap (λ (l : List Y). l ++ (f a ∷ [])) h
    ∙ append_assoc (map f start) (map g (take i xs)) (f a ∷ [])
    ∙ ap (λ (y : Y). map f start ++ (map g (take i xs) ++ (y ∷ []))) same
    ∙ ap (λ (l : List Y). map f start ++ l) (sym (map-append g (take i xs) (x ∷ [])))
    ∙ ap (λ (l : List _). map f start ++ map g l) (sym (take_next xs more i x e))

pub no_nodes : (cs : List Component) → map no_node cs ≡ judged.slots_in (forms.Set (components_view cs))
no_nodes [] = refl
no_nodes (c ∷ cs) = ap (λ (l : List (Option nodes.Node)). None ∷ l) (no_nodes cs)
