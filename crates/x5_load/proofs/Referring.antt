-- A reference whose agents are read in a part of its own is what the definition reads step by step.
use Rattle.std.proofs.Common.{◌≡◌, Bool, true, false, not, List, [], map, refl, ap, ◌∙◌, Option, Some, None, Ok, Err, codes}
use Rattle.serde_json.specs.Data.{Data, Items, Members}
use Rattle.serde_json.specs.Events.{items_len}
use Rattle.x5_model.specs.Values.{Text, Name, key_of}
use Rattle.x5_model_tree.specs.Described.{most_shadows}
use Rattle.x5_model_tree.specs.World.{Access}
use Rattle.x5_model_world.specs.AgentText.{References, with_reference, of_kind, pin_keys, is_cross, reference_members, reference_behind}
use Rattle.x5_model_world.specs.ContextText.{has_key, agent_of, agents_behind}
use Rattle.x5_model_world.specs.Reading.{Read, ◌>>=◌, at, needed, if_fit, if_few, members_at, text_at, list_if_any, entry_name_at, only, unlisted, first_other}
use Rattle.x5_model_world.proofs.InTurn.{three_in_turn}
use Rattle.x5_load.specs.Parts.{access_at}

-- what a reading gives beside what three others come to, and what is then made of both
both : {N T G E P Z : Type 0} (n : Read N) (m : Read T) (h : T → Read G) (f : G → Read E) (made : N → E → P) (k : P → Read Z) →
    (n >>= λ x. m >>= λ t. h t >>= λ g. f g >>= λ e. k (made x e))
    ≡ ((n >>= λ x. m >>= λ t. h t >>= λ g. f g >>= λ e. Ok (made x e)) >>= k)
both (Ok x) m h f made k = three_in_turn m h f (λ e. Ok (made x e)) k
both (Err fault) m h f made k = refl

-- the agents, and what else the object has
abbrev rest : List Text → Text → References → Data → Members → Bool → Name → Read References
rest names path before d ms cross pin = do
  master ← text_at path (codes "master") d
  texts ← list_if_any path (codes "shadows") d
  few ← if_few (at path (codes "shadows")) most_shadows (items_len texts) texts
  shadows ← agents_behind names (at path (codes "shadows")) 0 [] few
  only path reference_members ms
      (with_reference before cross (record { pin = pin; access = record { master = agent_of names master; shadows = shadows } }))

-- a name to which no reference of the kind is
abbrev fit : Text → References → Bool → Name → Read Name
fit path before cross name = if_fit (at path (codes "name")) (not (has_key (pin_keys (of_kind before cross)) (key_of name))) name

pub by_access : (names : List Text) (path : Text) (before : References) (d : Data) (ms : Members) (word : Text) (cross : Bool) (pin : Name)
    → members_at path d ≡ Ok ms → text_at path (codes "kind") d ≡ Ok word → is_cross word ≡ Some cross
    → entry_name_at path (codes "name") d ≡ Ok pin → has_key (pin_keys (of_kind before cross)) (key_of pin) ≡ false
    → reference_behind names path before d
    ≡ (access_at names path d >>= λ a. only path reference_members ms (with_reference before cross (record { pin = pin; access = a })))
by_access names path before d ms word cross pin members said kind read new =
    ap (λ (r : Read Members). r >>= λ m. text_at path (codes "kind") d >>= λ w. needed (at path (codes "kind")) (is_cross w) >>= λ c. entry_name_at path (codes "name") d >>= λ n. fit path before c n >>= λ p. rest names path before d m c p) members
    ∙ ap (λ (r : Read Text). r >>= λ w. needed (at path (codes "kind")) (is_cross w) >>= λ c. entry_name_at path (codes "name") d >>= λ n. fit path before c n >>= λ p. rest names path before d ms c p) said
    ∙ ap (λ (o : Option Bool). needed (at path (codes "kind")) o >>= λ c. entry_name_at path (codes "name") d >>= λ n. fit path before c n >>= λ p. rest names path before d ms c p) kind
    ∙ ap (λ (r : Read Name). r >>= λ n. fit path before cross n >>= λ p. rest names path before d ms cross p) read
    ∙ ap (λ (b : Bool). if_fit (at path (codes "name")) (not b) pin >>= λ p. rest names path before d ms cross p) new
    ∙ both (text_at path (codes "master") d) (list_if_any path (codes "shadows") d)
    (λ texts. if_few (at path (codes "shadows")) most_shadows (items_len texts) texts)
    (λ few. agents_behind names (at path (codes "shadows")) 0 [] few)
    (λ master shadows. record { master = agent_of names master; shadows = shadows })
    (λ a. only path reference_members ms (with_reference before cross (record { pin = pin; access = a })))

only_read : (X : Type 0) (path : Text) (names : List Text) (ms : Members) (u : Unit {0}) (x : X)
    → only path names ms (tt {0}) ≡ Ok u → only path names ms x ≡ Ok x
only_read X path names ms u x = by (first_other names ms)
  where
    by : (o : Option Text) → unlisted path (tt {0}) o ≡ Ok u → unlisted path x o ≡ Ok x
    by None e = refl
    by (Some k) e = cc

-- a reference whose object has no other member
pub reference_read : (names : List Text) (path : Text) (before : References) (d : Data) (ms : Members) (word : Text)
    (cross : Bool) (pin : Name) (access : Access) (u : Unit {0})
    → members_at path d ≡ Ok ms → text_at path (codes "kind") d ≡ Ok word → is_cross word ≡ Some cross
    → entry_name_at path (codes "name") d ≡ Ok pin → has_key (pin_keys (of_kind before cross)) (key_of pin) ≡ false
    → access_at names path d ≡ Ok access → only path reference_members ms (tt {0}) ≡ Ok u
    → reference_behind names path before d ≡ Ok (with_reference before cross (record { pin = pin; access = access }))
reference_read names path before d ms word cross pin access u members said kind read new at_agents fits =
    by_access names path before d ms word cross pin members said kind read new
    ∙ ap (λ (r : Read Access). r >>= λ a. only path reference_members ms
    (with_reference before cross (record { pin = pin; access = a }))) at_agents
    ∙ only_read References path reference_members ms u (with_reference before cross (record { pin = pin; access = access })) fits
