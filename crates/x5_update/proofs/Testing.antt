-- What the tests of the code say of the agent's ground.
use Rattle.std.proofs.Common.{◌≡◌, ℕ, Bool, true, not, ◌||◌, ◌==◌, List, [], ◌∷◌, map, length, refl, sym, ap, ◌∙◌, Some}
use Rattle.std.specs.Prelude.{slice_get}
use Rattle.std.specs.List.{list_any}
use Rattle.x5_model.specs.Words.{has}
use Rattle.x5_model.specs.Keys.{Key, same_key, is_prefix}
use Rattle.x5_model.specs.Values.{key_of}
use Rattle.x5_model.specs.Requests.{Request}
use Rattle.x5_model_tree.specs.World.{Nssr}
use Rattle.x5_model_tree.specs.Tree.{is_there}
use Rattle.x5_model_tree.specs.Apply.{above_pin, is_taken}
use Rattle.x5_model_run.specs.Holdings.{Held}
use Rattle.x5_ops.specs.KnowledgeViews.{nssr_view}
use Rattle.x5_dse.specs.declared.node.NodeId.{NodeId}
use Rattle.x5_dse.specs.Linked.{entries_of}
use Rattle.x5_holdings.specs.Rows.{KeyRow}
use Rattle.x5_holdings.specs.Runs.{run_of}
use Rattle.x5_holdings.specs.State.{Kept, State, held_view, holdings_view}
use Rattle.x5_holdings.proofs.Standing.{some_under}
use Rattle.x5_update.specs.Judging.{ground_in}
use Rattle.x5_update.specs.Seats.{IsSeat}
use Rattle.x5_update.proofs.Committed.{pins_at}
use Rattle.x5_update.proofs.Seats.{ground_above, ground_taken}

any_map : {A B : Type 0} (test : B → Bool) (f : A → B) (xs : List A) → list_any test (map f xs) ≡ list_any (λ x. test (f x)) xs
any_map test f [] = refl
any_map test f (x ∷ xs) = ap (λ (b : Bool). test (f x) || b) (any_map test f xs)

kept_inside : {a b : Kept} → Some a ≡ Some b → a ≡ b
kept_inside e = cc

-- a known pin, or an NSSR, at the name or below it
pub above_by : (s : State) (r : Request) (key : Key) (own : ℕ) (id : NodeId) (is : IsSeat s r key own id) (kept : Kept)
    (known empty : Bool) (rows : List KeyRow) → slice_get s.own own ≡ Some kept
    → known ≡ list_any (is_prefix key) (pins_at r (holdings_view s)) → rows ≡ run_of (map (λ n. key_of n.at) kept.nssrs) key
    → empty ≡ (length rows == 0) → (known || not empty) ≡ above_pin (ground_in s r) key
above_by s r key own id is kept known empty rows got k w e =
    (λ i. k i || below i) ∙ sym (ground_above s r key own id is)
  where
    same : kept ≡ is.kept
    same = kept_inside (sym got ∙ is.held)

    below : not empty ≡ list_any (λ (n : Nssr). is_prefix key (key_of n.at)) (held_view is.kept).nssrs
    below =
        ap not e ∙ sym (some_under (map (λ n. key_of n.at) kept.nssrs) key rows w)
        ∙ any_map (is_prefix key) (λ n. key_of n.at) kept.nssrs
        ∙ sym (any_map (λ (n : Nssr). is_prefix key (key_of n.at)) nssr_view kept.nssrs)
        ∙ ap (λ (c : Kept). list_any (λ (n : Nssr). is_prefix key (key_of n.at)) (held_view c).nssrs) same

-- an entry of one of the contexts, or a known pin
pub taken_by : (s : State) (r : Request) (key : Key) (entry known : Bool)
    → entry ≡ list_any (λ (c : Kept). is_there (entries_of c.nodes.nodes) key) s.own
    → known ≡ has same_key (pins_at r (holdings_view s)) key → (entry || known) ≡ is_taken (ground_in s r) key
taken_by s r key entry known e k =
    (λ i. (e ∙ sym (any_map (λ (d : Held). is_there d.entries key) held_view s.own)) i || k i) ∙ sym (ground_taken s r key)

pub known_or : (s : State) (r : Request) (key : Key) (entry : Bool)
    → entry ≡ list_any (λ (c : Kept). is_there (entries_of c.nodes.nodes) key) s.own → entry ≡ true → entry ≡ is_taken (ground_in s r) key
known_or s r key entry e t =
    t ∙ ap (λ (b : Bool). b || has same_key (pins_at r (holdings_view s)) key) (sym t)
    ∙ taken_by s r key entry (has same_key (pins_at r (holdings_view s)) key) e refl
