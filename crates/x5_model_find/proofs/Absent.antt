-- What the tree answers where the object isn't there: noSuchObject with the lowest entry on the way, operation by
-- operation.
use Rattle.std.proofs.Common.{◌≡◌, ◌<◌, ◌≤◌, Bool, true, false, cond, inl, inr, List, [], ◌∷◌, length, refl, sym, ap, subst, ◌∙◌, Option, Some, None, Err, arith}
use Rattle.x5_model.specs.Members.{In}
use Rattle.x5_model.specs.Keys.{Key, IsPrefix, same_key, is_root, parent}
use Rattle.x5_model.specs.Values.{Name, key_of}
use Rattle.x5_model.specs.Entries.{Named}
use Rattle.x5_model.specs.Requests.{Body, Read, Compare, ListBelow, Search, AddEntry, RemoveEntry, ModifyEntry, ModifyDn, Request}
use Rattle.x5_model.specs.References.{Chained}
use Rattle.x5_model.specs.Answers.{DirError, NoSuchObject}
use Rattle.x5_model.specs.Statics.{fault_of}
use Rattle.x5_model.proofs.KeyLaws.{key_decides}
use Rattle.x5_model.proofs.Lists.{true_or_false, of_any, not_found, of_find}
use Rattle.x5_model.proofs.Prefixes.{prefix_itself, prefix_length, same_by_length}
use Rattle.x5_model_tree.specs.Tree.{Tree, key_at, entry_at, is_there, is_there_or_root, lowest, matched}
use Rattle.x5_model_tree.specs.Ask.{Told, Refuses, at_object, absent, limited_list, limited_found, just_below, searched, read, compare, ask_body, ask_marked, updated}
use Rattle.x5_model_tree.specs.Apply.{update, ground_of, apply}
use Rattle.x5_model_tree.proofs.Longest.{IsLowest, lowest_right}
use Rattle.x5_model_tree.proofs.Grown.{above_key}
use Rattle.x5_model_run.specs.Journal.{is_done, is_wide}
use Rattle.x5_model_run.specs.Needs.{target_of}
use Rattle.x5_model_run.specs.Covers.{answer_below, answer_at_pin, told}
use Rattle.x5_model_updates.proofs.Outcomes.{add_none, remove_none, modify_none, rename_none, over_update, tree_refuses}

abbrev no_such : Tree → Key → DirError
no_such t key = NoSuchObject (matched t.entries key)

-- what isn't found isn't there
pub not_there : (entries : List Named) (key : Key) → entry_at entries key ≡ None → is_there entries key ≡ false
not_there entries key none =
    elim (true_or_false (is_there entries key)) [
      | inr h ↦ h
      | inl h ↦
          let w = of_any (λ (e : Named). same_key (key_at e) key) entries h in
          let f : same_key (key_at w.0) key ≡ false = not_found (λ (e : Named). same_key (key_at e) key) w.0 entries none w.1 in
          absurd (let x : true ≡ false = sym w.2 ∙ f in cc)
    ]

not_root : (key : Key) → 0 < length key → is_root key ≡ false
not_root [] full = absurd (omega arith)
not_root (x ∷ key) full = grind arith

-- an entry that is the lowest on the way and isn't the name itself
pub absent_of : (entries : List Named) (key : Key) (o : Option Named) → lowest entries key ≡ o → 0 < length key → ((e : Named) → o ≡ Some e → key_at e ≡ key → ⊥) → entry_at entries key ≡ None
absent_of entries key o low full other = by (entry_at entries key) refl
  where
    right : IsLowest entries key (length key) o
    right = subst (λ (x : Option Named). IsLowest entries key (length key) x) low (lowest_right entries key)

    never : (x : Option Named) → IsLowest entries key (length key) x → ((e : Named) → x ≡ Some e → key_at e ≡ key → ⊥) → (f : Named) → In f entries → key_at f ≡ key → ⊥
    never None h other f i same =
        let on : IsPrefix (key_at f) key = subst (λ (y : Key). IsPrefix (key_at f) y) same (prefix_itself (key_at f)) in
        let long : length (key_at f) ≡ length key = ap length same in
        h f i on (omega arith) (omega arith)
    never (Some e) h other f i same =
        let on : IsPrefix (key_at f) key = subst (λ (y : Key). IsPrefix (key_at f) y) same (prefix_itself (key_at f)) in
        let long : length (key_at f) ≡ length key = ap length same in
        let low : length (key_at f) ≤ length (key_at e) = h.1.1 f i on (omega arith) in
        let short : length (key_at e) ≤ length key = prefix_length (key_at e) key h.1.0 in
        other e refl (same_by_length (key_at e) key key h.1.0 (prefix_itself key) (omega arith))

    by : (x : Option Named) → entry_at entries key ≡ x → x ≡ None
    by None q = refl
    by (Some f) q =
        let w = of_find (λ (g : Named). same_key (key_at g) key) f entries q in
        absurd (never o right other f w.0 ((key_decides (key_at f) key).0 w.1))

-- ---- each operation

abbrev pub picked : Tree → Name → (Named → Told) → Option Named → Told
picked t name f None = absent t name
picked t name f (Some e) = f e

object_absent : (t : Tree) (name : Name) (f : Named → Told) → entry_at t.entries (key_of name) ≡ None → at_object t name f ≡ absent t name
object_absent t name f none = ap (picked t name f) none

nor_root : (t : Tree) (key : Key) → 0 < length key → entry_at t.entries key ≡ None → is_there_or_root t.entries key ≡ false
nor_root t key full none = (let a = not_root key full in let b = not_there t.entries key none in rw (a, b) refl)

update_absent : (t : Tree) (r : Request) (key : Key) → fault_of r.body ≡ None → update (ground_of t) r.body ≡ Err (no_such t key) → updated (apply t r) ≡ Refuses (no_such t key)
update_absent t r key fine h = ap updated (tree_refuses t r (no_such t key) (over_update (ground_of t) r.body fine ∙ h))

body_absent : (copies : Key → Bool) (t : Tree) (r : Request) (b : Body) (key : Key) → r.body ≡ b → fault_of r.body ≡ None → key_of (target_of b) ≡ key → 0 < length key → entry_at t.entries key ≡ None
    → ask_body copies t r b ≡ Refuses (no_such t key)
body_absent copies t r (Read name selection) key is fine same full none =
    subst (λ (k : Key). ask_body copies t r (Read name selection) ≡ Refuses (no_such t k)) same (object_absent t name (read copies selection) (subst (λ (k : Key). entry_at t.entries k ≡ None) (sym same) none))
body_absent copies t r (Compare name a) key is fine same full none =
    subst (λ (k : Key). ask_body copies t r (Compare name a) ≡ Refuses (no_such t k)) same (object_absent t name (compare copies a) (subst (λ (k : Key). entry_at t.entries k ≡ None) (sym same) none))
body_absent copies t r (ListBelow name) key is fine same full none =
    subst (λ (k : Key). ask_body copies t r (ListBelow name) ≡ Refuses (no_such t k)) same
    (ap (λ (b : Bool). cond b (limited_list copies r.controls.size (just_below t name)) (absent t name)) (subst (λ (k : Key). is_there_or_root t.entries k ≡ false) (sym same) (nor_root t key full none)))
body_absent copies t r (Search base subset f selection) key is fine same full none =
    subst (λ (k : Key). ask_body copies t r (Search base subset f selection) ≡ Refuses (no_such t k)) same
    (ap (λ (b : Bool). cond b (limited_found copies r.controls.size selection (searched t base subset f)) (absent t base)) (subst (λ (k : Key). is_there_or_root t.entries k ≡ false) (sym same) (nor_root t key full none)))
body_absent copies t r (AddEntry name attributes) key is fine same full none =
    let at : parent (key_of name) ≡ key = sym (above_key name) ∙ same in
    update_absent t r key fine
    (subst (λ (b : Body). update (ground_of t) b ≡ Err (no_such t key)) (sym is)
    (subst (λ (k : Key). update (ground_of t) (AddEntry name attributes) ≡ Err (no_such t k)) at (add_none (ground_of t) name attributes (subst (λ (k : Key). entry_at t.entries k ≡ None) (sym at) none))))
body_absent copies t r (RemoveEntry name) key is fine same full none =
    update_absent t r key fine
    (subst (λ (b : Body). update (ground_of t) b ≡ Err (no_such t key)) (sym is)
    (subst (λ (k : Key). update (ground_of t) (RemoveEntry name) ≡ Err (no_such t k)) same (remove_none (ground_of t) name (subst (λ (k : Key). entry_at t.entries k ≡ None) (sym same) none))))
body_absent copies t r (ModifyEntry name changes) key is fine same full none =
    update_absent t r key fine
    (subst (λ (b : Body). update (ground_of t) b ≡ Err (no_such t key)) (sym is)
    (subst (λ (k : Key). update (ground_of t) (ModifyEntry name changes) ≡ Err (no_such t k)) same (modify_none (ground_of t) name changes (subst (λ (k : Key). entry_at t.entries k ≡ None) (sym same) none))))
body_absent copies t r (ModifyDn name rdn drops) key is fine same full none =
    update_absent t r key fine
    (subst (λ (b : Body). update (ground_of t) b ≡ Err (no_such t key)) (sym is)
    (subst (λ (k : Key). update (ground_of t) (ModifyDn name rdn drops) ≡ Err (no_such t k)) same (rename_none (ground_of t) name rdn drops (subst (λ (k : Key). entry_at t.entries k ≡ None) (sym same) none))))

abbrev refused_first : (Key → Bool) → Tree → Request → Option DirError → Told
refused_first copies t r (Some x) = Refuses x
refused_first copies t r None = ask_body copies t r r.body

pub ask_absent : (copies : Key → Bool) (t : Tree) (r : Request) (key : Key) → fault_of r.body ≡ None → key_of (target_of r.body) ≡ key → 0 < length key → entry_at t.entries key ≡ None
    → ask_marked copies t r ≡ Refuses (NoSuchObject (matched t.entries key))
ask_absent copies t r key fine same full none = ap (refused_first copies t r) fine ∙ body_absent copies t r r.body key refl fine same full none

-- the message asks for it by name
pub told_absent : (copies : Key → Bool) (t : Tree) (m : Chained) → is_done m.progress ≡ false → fault_of m.request.body ≡ None → key_of (target_of m.request.body) ≡ key_of m.target → 0 < length (key_of m.target)
    → entry_at t.entries (key_of m.target) ≡ None → told copies t m ≡ Refuses (NoSuchObject (matched t.entries (key_of m.target)))
told_absent copies t m going fine same full none =
    ap (λ (b : Bool). cond b (cond (is_wide m.kind) (answer_below copies t m.request m.request.body) (answer_at_pin copies t m.request m.request.body)) (ask_marked copies t m.request)) going
    ∙ ask_absent copies t m.request (key_of m.target) fine same full none
