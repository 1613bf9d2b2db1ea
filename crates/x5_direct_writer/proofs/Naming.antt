-- What is written of names and RDNs has their RDNs and pairs as its members.
use Rattle.std.proofs.Common.{◌≡◌, ℕ, List, [], ◌∷◌, map, refl, ap, sym, ◌∙◌}
use Rattle.x5_model.specs.Values as values
use Rattle.x5_model_messages.specs.Terms as terms
use Rattle.x5_model_typed.specs.Layouts.{layout}
use Rattle.x5_model_typed.specs.Named as named
use Rattle.x5_model_typed.specs.Nodes.{Node, row}
use Rattle.x5_model_typed.specs.Written.{written_members}
use Rattle.x5_direct_writer.proofs.Putting.{HasMembers, around}

-- a list of what is made of what is made
pub in_two : {A B C : Type 0} (f : B → C) (g : A → B) (l : List A) → map f (map g l) ≡ map (λ x. f (g x)) l
in_two f g [] = refl
in_two f g (x ∷ l) = ap (λ r. f (g x) ∷ r) (in_two f g l)

pub has_pairs : (r pairs : values.Rdn) → pairs ≡ r
    → HasMembers 17 named.Rdn named.Pair (map (λ p. terms.pair_node (values.written_pair p)) pairs) (terms.rdn_node r)
has_pairs r pairs is w =
    ap (λ (ns : List Node). around 0 17 (written_members (layout w) (layout w named.Pair) (row ns)))
    (in_two terms.pair_node values.written_pair r
    ∙ ap (λ (l : values.Rdn). map (λ p. terms.pair_node (values.written_pair p)) l) (sym is))

pub has_written_pairs : (r pairs : List (ℕ × values.Text)) → pairs ≡ r
    → HasMembers 17 named.Rdn named.Pair (map terms.pair_node pairs) (terms.pairs_node r)
has_written_pairs r pairs is w =
    ap (λ (l : List (ℕ × values.Text)). around 0 17
    (written_members (layout w) (layout w named.Pair) (row (map terms.pair_node l)))) (sym is)

pub has_rdns : (n rdns : values.Name) → rdns ≡ n
    → HasMembers 16 named.Name named.Rdn (map terms.rdn_node rdns) (terms.name_node n)
has_rdns n rdns is w =
    ap (λ (ns : List Node). around 0 16 (written_members (layout w) (layout w named.Rdn) (row ns)))
    (in_two terms.pairs_node (map values.written_pair) n ∙ ap (map terms.rdn_node) (sym is))

pub has_written_rdns : (n rdns : values.NameValue) → rdns ≡ n
    → HasMembers 16 named.Value named.Rdn (map terms.pairs_node rdns) (terms.name_value_node n)
has_written_rdns n rdns is w =
    ap (λ (l : values.NameValue). around 0 16
    (written_members (layout w) (layout w named.Rdn) (row (map terms.pairs_node l)))) (sym is)
