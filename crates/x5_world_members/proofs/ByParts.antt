-- What is read in parts is what the definition reads step by step.
use Rattle.std.proofs.Common.{◌≡◌, ℕ, Bool, not, false, List, [], ◌∷◌, ◌++◌, map, refl, ap, ◌∙◌, Ok, Err, codes}
use Rattle.serde_json.specs.Data.{Data, Members}
use Rattle.x5_model.specs.Entries.{Named}
use Rattle.x5_model.specs.Values.{Text, Name, key_of, last_rdn}
use Rattle.x5_model_tree.specs.Tree.{key_at}
use Rattle.x5_model_world.specs.ContextText.{Contexts, Nssrs, entry_behind, entry_members, has_key, nssrs_behind}
use Rattle.x5_model_world.specs.ContextText.{context_members, with_context}
use Rattle.x5_model_world.specs.EntryTexts.{given_behind, entry_given}
use Rattle.x5_model_world.specs.Reading.{Read, ◌>>=◌, at, needed, if_fit, members_at, list_at, list_if_any}
use Rattle.x5_model_world.specs.Reading.{entry_name_at, only}
use Rattle.x5_model_world.proofs.InTurn.{in_turn, two_in_turn}
use Rattle.x5_world_members.specs.Parts.{whole_name_at, named_at, nssrs_at, with_entries_read}

-- what a reading gives beside what three others come to, and what is then made of both
both : {N T G E P Z : Type 0} (n : Read N) (m : Read T) (h : T → Read G) (f : G → Read E) (made : N → E
    → P) (k : P → Read Z) →
    (n >>= λ x. m >>= λ t. h t >>= λ g. f g >>= λ e. k (made x e))
    ≡ ((n >>= λ x. (m >>= λ t. h t >>= f) >>= λ e. Ok (made x e)) >>= k)
both (Ok x) m h f made k =
    two_in_turn m h f (λ e. k (made x e)) ∙ in_turn (m >>= λ t. h t >>= f) (λ e. Ok (made x e)) k
both (Err fault) m h f made k = refl

-- what follows once the members and the entry's own name are read
abbrev rest : Text → Name → List Named → Data → Members → Name → Read (List Named)
rest path prefix before d ms own = do
  name ← whole_name_at path prefix before own
  texts ← list_at path (codes "attrs") d
  given ← given_behind (at path (codes "attrs")) 0 [] texts
  entry ← needed path (entry_given (last_rdn own) given)
  only path entry_members ms (before ++ record { name = name; entry = entry } ∷ [])

-- an own name that is new
abbrev fit : Text → List Named → Name → Read Name
fit path before own = if_fit (at path (codes "name")) (not (has_key (map key_at before) (key_of own))) own

-- the entries with one more, where its members and its own name are these and its name is new
pub entry_by_parts : (path : Text) (prefix : Name) (before : List Named) (d : Data) (ms : Members) (own : Name)
    → members_at path d ≡ Ok ms → entry_name_at path (codes "name") d ≡ Ok own
    → has_key (map key_at before) (key_of own) ≡ false
    → entry_behind path prefix before d
    ≡ (named_at path prefix before own d >>= λ n. only path entry_members ms (before ++ n ∷ []))
entry_by_parts path prefix before d ms own members read new =
    ap (λ (r : Read Members). r >>= λ m. entry_name_at path
    (codes "name") d >>= λ o. fit path before o >>= λ n. rest path prefix before d m n) members
    ∙ ap (λ (r : Read Name). r >>= λ o. fit path before o >>= λ n. rest path prefix before d ms n) read
    ∙ ap (λ (b : Bool). if_fit (at path (codes "name")) (not b) own >>= λ n. rest path prefix before d ms n) new
    ∙ both (whole_name_at path prefix before own) (list_at path (codes "attrs") d)
    (λ texts. given_behind (at path (codes "attrs")) 0 [] texts)
    (λ given. needed path (entry_given (last_rdn own) given)) (λ name entry. record { name = name; entry = entry })
    (λ n. only path entry_members ms (before ++ n ∷ []))

-- the contexts with one more, behind its non-specific references
pub context_by_parts : (names : List Text) (path : Text) (before : Contexts) (prefix : Name) (entries : List Named)
    (used : ℕ) (ms : Members) (d : Data)
    → with_entries_read names path before prefix entries used ms d
    ≡ (nssrs_at names path before.counts.nssr_agents entries d >>= λ found. only path context_members ms
    (with_context before prefix entries found used))
context_by_parts names path before prefix entries used ms d =
    in_turn (list_if_any path (codes "nssr") d)
    (λ list. nssrs_behind names (at path (codes "nssr")) 0 entries
    (record { nssrs = []; listed = before.counts.nssr_agents }) list)
    (λ found. only path context_members ms (with_context before prefix entries found used))
