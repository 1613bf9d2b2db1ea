-- Messages between agents are read back, component by component.
use Rattle.std.proofs.Common.{◌≡◌, ℕ, List, [], ◌∷◌, map, refl, ap, ap₂, ◌∙◌}
use Rattle.x5_model.specs.Values.{Rdn, Name}
use Rattle.x5_model.specs.References.{Progress, Start, Next, Done, RefType, Superior, Subordinate, Cross, NonSpecific, Supplier, Own}
use Rattle.x5_model.specs.Requests.{Request}
use Rattle.x5_model_run.specs.Journal.{kind_number}
use Rattle.x5_model_typed.specs.Nodes.{Node, row, list, whole}
use Rattle.x5_model_typed.proofs.Laws.{list_row}
use Rattle.x5_model_messages.specs.Terms.{rdn_node, rdn_of}
use Rattle.x5_model_messages.specs.Replies.{TraceItem, progress_node, item_node, progress_in, kind_in, item_in}
use Rattle.x5_model_messages.specs.Chained.{Chained}
use Rattle.x5_model_messages.specs.Laws.{IsName}
use Rattle.x5_model_messages.specs.ChainedLaws.{AreRdns, AreItems, ChainedReadBack}
use Rattle.x5_model_messages.proofs.Requests.{the_name, the_rdn, argument_back}

progress_back : (p : Progress) → progress_in (progress_node p) ≡ p
progress_back Start = refl
progress_back (Next k) = refl
progress_back Done = refl

kind_back : (k : RefType) → kind_in (whole (kind_number k)) ≡ k
kind_back Superior = refl
kind_back Subordinate = refl
kind_back Cross = refl
kind_back NonSpecific = refl
kind_back Supplier = refl
kind_back Own = refl

rdns_back : (rs : List Rdn) → AreRdns rs → map rdn_of (map rdn_node rs) ≡ rs
rdns_back [] h = refl
rdns_back (r ∷ rs) h = ap₂ (λ (x : Rdn) (xs : List Rdn). x ∷ xs) (the_rdn r h.0) (rdns_back rs h.1)

item_back : (i : TraceItem) → IsName i.target → item_in (item_node i) ≡ i
item_back i h =
    ap₂ (λ (n : Name) (p : Progress). record { agent = i.agent; target = n; progress = p; wide = i.wide }) (the_name i.target h)
    (progress_back i.progress)

items_back : (is : List TraceItem) → AreItems is → map item_in (map item_node is) ≡ is
items_back [] h = refl
items_back (i ∷ is) h = ap₂ (λ (x : TraceItem) (xs : List TraceItem). x ∷ xs) (item_back i h.0) (items_back is h.1)

chained_of : Name → Progress → RefType → List Rdn → List TraceItem → Request → Chained
chained_of n p k x t r = record { target = n; progress = p; kind = k; exclusions = x; trace = t; request = r }

chained_same : (n m : Name) (p q : Progress) (k l : RefType) (x y : List Rdn) (t u : List TraceItem) (r s : Request)
    → n ≡ m → p ≡ q → k ≡ l → x ≡ y → t ≡ u → r ≡ s → chained_of n p k x t r ≡ chained_of m q l y u s
chained_same n m p q k l x y t u r s e f g h i j = cc

with_id : ℕ → Chained → ℕ × Chained
with_id id m = (id, m)

pub chained_back : ChainedReadBack
unfolding chained_of with_id
chained_back id m h =
    ap (with_id id)
    (chained_same _ _ _ _ _ _ _ _ _ _ _ _ (the_name m.target h.0) (progress_back m.progress) (kind_back m.kind)
    (ap (λ (ns : List Node). map rdn_of ns) (list_row (map rdn_node m.exclusions)) ∙ rdns_back m.exclusions h.1)
    (ap (λ (ns : List Node). map item_in ns) (list_row (map item_node m.trace)) ∙ items_back m.trace h.2)
    (argument_back m.request.controls m.request.body h.3))
