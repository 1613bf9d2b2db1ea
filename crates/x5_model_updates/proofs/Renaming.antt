-- The keys of names with another RDN in one place.
use Rattle.std.proofs.Common.{◌≡◌, ◌≢◌, ℕ, suc, ◌+◌, ◌-◌, ◌<◌, Bool, true, false, List, [], ◌∷◌, ◌++◌, map, length, take, drop, sym, ap, subst, ◌∙◌, arith, length-take, if◌then◌else◌}
use Rattle.std.specs.List.{take-map, drop-map}
use Rattle.std.proofs.lemmas.List.{map-append, append_assoc}
use Rattle.x5_model.specs.Keys.{Key, IsPrefix, parent, same_key, is_prefix}
use Rattle.x5_model.specs.Values.{Rdn, Name, key_of, key_of_rdn, last_rdn, name_above}
use Rattle.x5_model.specs.Entries.{Entry, Named}
use Rattle.x5_model.specs.Requests.{Attribute}
use Rattle.x5_model.proofs.KeyLaws.{key_decides}
use Rattle.x5_model.proofs.Lists.{true_or_false}
use Rattle.x5_model.proofs.Prefixes.{take_take, prefix_decides, prefix_itself}
use Rattle.x5_model_tree.specs.Tree.{key_at}
use Rattle.x5_model_theory.specs.Changing.{moved}
use Rattle.x5_model_theory.proofs.Stages.{key_length}
use Rattle.x5_model_updates.specs.Afterwards.{new_entry, new_key, name_after}
use Rattle.x5_model_updates.proofs.Alike.{new_key_is}
use Rattle.x5_model_updates.proofs.Outcomes.{moved_entry}
use Rattle.std.proofs.Common.{inl, inr}

-- a name ends with its last RDN
last_end : (name : Name) → 0 < length name → take (length name - 1) name ++ last_rdn name ∷ [] ≡ name
last_end [] h = absurd (omega arith)
last_end (r ∷ []) h = ap (λ (n : ℕ). take n (r ∷ []) ++ r ∷ []) (let e : length (r ∷ []) - 1 ≡ 0 = omega arith in e)
last_end (r ∷ q ∷ rest) h =
    let e : length (r ∷ q ∷ rest) - 1 ≡ suc (length (q ∷ rest) - 1) = omega arith in
    ap (λ (n : ℕ). take n (r ∷ q ∷ rest) ++ last_rdn (q ∷ rest) ∷ []) e
    ∙ ap (λ (ns : Name). r ∷ ns) (last_end (q ∷ rest) (omega arith))

pub filled_name : (n : Name) → 0 < length (key_of n) → 0 < length n
filled_name [] l = l
filled_name (r ∷ n) l = omega arith

pub filled_key : (n : Name) → 0 < length (parent (key_of n)) → 0 < length (key_of n)
filled_key [] l = l
filled_key (r ∷ n) l = omega arith

-- the key of what an addEntry puts below an entry
pub new_entry_key : (above : Named) (name : Name) (attributes : List Attribute) → 0 < length name → key_at above ≡ parent (key_of name) → key_at (new_entry above name attributes) ≡ key_of name
new_entry_key above name attributes full same =
    map-append key_of_rdn above.name (last_rdn name ∷ [])
    ∙ ap (λ (x : Key). x ++ key_of_rdn (last_rdn name) ∷ []) (same ∙ ap (λ (n : ℕ). take (n - 1) (key_of name)) (key_length name) ∙ take-map key_of_rdn (length name - 1) name)
    ∙ sym (map-append key_of_rdn (take (length name - 1) name) (last_rdn name ∷ []))
    ∙ ap key_of (last_end name full)

-- the key of a name below one whose last RDN changes
pub name_after_key : (name : Name) (rdn : Rdn) (old : Named) → 0 < length name → IsPrefix (key_of name) (key_at old)
    → key_of (name_after name rdn old) ≡ new_key name rdn ++ drop (length (key_of name)) (key_at old)
name_after_key name rdn old full on =
    let n : ℕ = length (name_above name) in
    let long : length (key_of name) ≡ length name = key_length name in
    let cut : length (name_above name) ≡ length (key_of name) - 1 = omega (arith, length-take (length name - 1) name) in
    let next : length (name_above name) + 1 ≡ length (key_of name) = omega arith in
    let front : take (length (name_above name)) (key_at old) ≡ parent (key_of name) =
    ap (λ (m : ℕ). take m (key_at old)) cut ∙ sym (take_take (length (key_of name) - 1) (length (key_of name)) (key_at old) (omega arith)) ∙ ap (take (length (key_of name) - 1)) on in
    map-append key_of_rdn (take (length (name_above name)) old.name) (rdn ∷ drop (length (name_above name) + 1) old.name)
    ∙ ap (λ (x : Key). x ++ (key_of_rdn rdn ∷ map key_of_rdn (drop (length (name_above name) + 1) old.name))) (sym (take-map key_of_rdn (length (name_above name)) old.name) ∙ front)
    ∙ ap (λ (x : Key). parent (key_of name) ++ (key_of_rdn rdn ∷ x)) (sym (drop-map key_of_rdn (length (name_above name) + 1) old.name) ∙ ap (λ (m : ℕ). drop m (key_at old)) next)
    ∙ sym (append_assoc (parent (key_of name)) (key_of_rdn rdn ∷ []) (drop (length (key_of name)) (key_at old)))
    ∙ ap (λ (x : Key). x ++ drop (length (key_of name)) (key_at old)) (sym (new_key_is name rdn))

-- ---- an entry that moves, or stays

abbrev moved_by : Name → Rdn → Entry → Named → Bool → Bool → Named
moved_by name rdn new e same below =
    if same then record { name = name_after name rdn e; entry = new }
    else (if below then record e { name = name_after name rdn e } else e)

pub moved_itself : (name : Name) (rdn : Rdn) (new : Entry) (e : Named) → key_at e ≡ key_of name → moved_entry name rdn new e ≡ record { name = name_after name rdn e; entry = new }
moved_itself name rdn new e same = ap (λ (b : Bool). moved_by name rdn new e b (is_prefix (key_of name) (key_at e))) ((key_decides (key_at e) (key_of name)).1 same)

not_same : (a b : Key) → a ≢ b → same_key a b ≡ false
not_same a b h = elim (true_or_false (same_key a b)) [ inl t ↦ absurd (h ((key_decides a b).0 t)) | inr f ↦ f ]

pub not_prefix : (a b : Key) → (IsPrefix a b → ⊥) → is_prefix a b ≡ false
not_prefix a b h = elim (true_or_false (is_prefix a b)) [ inl t ↦ absurd (h ((prefix_decides a b).0 t)) | inr f ↦ f ]

pub moved_below : (name : Name) (rdn : Rdn) (new : Entry) (e : Named) → key_at e ≢ key_of name → IsPrefix (key_of name) (key_at e) → moved_entry name rdn new e ≡ record e { name = name_after name rdn e }
moved_below name rdn new e other on =
    ap (λ (b : Bool). moved_by name rdn new e b (is_prefix (key_of name) (key_at e))) (not_same (key_at e) (key_of name) other)
    ∙ ap (λ (b : Bool). moved_by name rdn new e false b) ((prefix_decides (key_of name) (key_at e)).1 on)

pub moved_apart : (name : Name) (rdn : Rdn) (new : Entry) (e : Named) → (IsPrefix (key_of name) (key_at e) → ⊥) → moved_entry name rdn new e ≡ e
moved_apart name rdn new e off =
    ap (λ (b : Bool). moved_by name rdn new e b (is_prefix (key_of name) (key_at e))) (not_same (key_at e) (key_of name) (λ s. off (subst (λ (x : Key). IsPrefix x (key_at e)) s (prefix_itself (key_at e)))))
    ∙ ap (λ (b : Bool). moved_by name rdn new e false b) (not_prefix (key_of name) (key_at e) off)

-- keys below move, and the others stay
pub moved_goes : (e n x : Key) → IsPrefix e x → moved e n x ≡ n ++ drop (length e) x
moved_goes e n x h = ap (λ (b : Bool). if b then n ++ drop (length e) x else x) ((prefix_decides e x).1 h)

pub moved_stays : (e n x : Key) → (IsPrefix e x → ⊥) → moved e n x ≡ x
moved_stays e n x h = ap (λ (b : Bool). if b then n ++ drop (length e) x else x) (not_prefix e x h)

pub moved_key : (name : Name) (rdn : Rdn) (new : Entry) (e : Named) → 0 < length name → key_at (moved_entry name rdn new e) ≡ moved (key_of name) (new_key name rdn) (key_at e)
moved_key name rdn new e full =
    elim (true_or_false (is_prefix (key_of name) (key_at e))) [
      | inr f ↦
          let off : IsPrefix (key_of name) (key_at e) → ⊥ = (λ h. let t : is_prefix (key_of name) (key_at e) ≡ true = (prefix_decides (key_of name) (key_at e)).1 h in cc) in
          ap key_at (moved_apart name rdn new e off) ∙ sym (moved_stays (key_of name) (new_key name rdn) (key_at e) off)
      | inl t ↦
          let on : IsPrefix (key_of name) (key_at e) = (prefix_decides (key_of name) (key_at e)).0 t in
          elim (true_or_false (same_key (key_at e) (key_of name))) [
            | inl s ↦ ap key_at (moved_itself name rdn new e ((key_decides (key_at e) (key_of name)).0 s)) ∙ name_after_key name rdn e full on ∙ sym (moved_goes (key_of name) (new_key name rdn) (key_at e) on)
            | inr s ↦
                let other : key_at e ≢ key_of name = (λ q. let u : same_key (key_at e) (key_of name) ≡ true = (key_decides (key_at e) (key_of name)).1 q in cc) in
                ap key_at (moved_below name rdn new e other on) ∙ name_after_key name rdn e full on ∙ sym (moved_goes (key_of name) (new_key name rdn) (key_at e) on)
          ]
    ]
