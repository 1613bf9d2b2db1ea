-- Entries looked up by key, in a list and in a part of it.
use Rattle.std.proofs.Common.{◌≡◌, ◌<◌, ◌≤◌, Bool, true, false, inl, inr, List, [], length, refl, sym, ap, Option, Some, None}
use Rattle.std.specs.Bool.{Decides}
use Rattle.x5_model.specs.Words.{ascending, in_option}
use Rattle.x5_model.specs.Members.{In, Once}
use Rattle.x5_model.specs.Keys.{Key, IsPrefix, same_key}
use Rattle.x5_model.specs.Values.{Name}
use Rattle.x5_model.specs.Entries.{Named}
use Rattle.x5_model.proofs.KeyLaws.{key_decides}
use Rattle.x5_model.proofs.Lists.{of_find, not_found, once_map, true_or_false}
use Rattle.x5_model.proofs.Prefixes.{prefix_length}
use Rattle.x5_model.proofs.Decide.{once_decides}
use Rattle.x5_model_tree.specs.Tree.{key_at, keys_of, named_below, entry_at, lowest, matched}
use Rattle.x5_model_tree.proofs.Order.{entries_once}
use Rattle.x5_model_tree.proofs.Longest.{IsLowest, lowest_right, lowest_is, none_lowest, entry_is}

-- two tests that decide what implies each other are one
pub agree : {P Q : Type 0} (a b : Bool) → Decides a P → Decides b Q → (P → Q) → (Q → P) → a ≡ b
agree true b p q f g = sym (q.1 (f (p.0 refl)))
agree {P} {Q} false b p q f g = elim (true_or_false b) [ inl e ↦ absurd (no e) | inr e ↦ sym e ]
  where
    no : b ≡ true → ⊥
    no e = (let t : false ≡ true = p.1 (g (q.0 e)) in cc)

-- each key stands for one entry
abbrev pub OneEach : List Named → Type 0
OneEach entries = (e f : Named) → In e entries → In f entries → key_at e ≡ key_at f → e ≡ f

pub once_keys : (entries : List Named) → ascending named_below entries ≡ true → Once (keys_of entries)
once_keys entries h = (once_decides same_key key_decides (keys_of entries)).0 (entries_once entries h)

pub one_each : (entries : List Named) → ascending named_below entries ≡ true → OneEach entries
one_each entries h e f i j q = once_map key_at entries e f (once_keys entries h) i j q

pub entry_found : (entries : List Named) (key : Key) (e : Named) → entry_at entries key ≡ Some e → In e entries × (key_at e ≡ key)
entry_found entries key e q =
    let w = of_find (λ (f : Named). same_key (key_at f) key) e entries q in (w.0, (key_decides (key_at e) key).0 w.1)

pub none_found : (entries : List Named) (key : Key) → entry_at entries key ≡ None → (e : Named) → In e entries → key_at e ≡ key → ⊥
none_found entries key q e i same =
    let a : same_key (key_at e) key ≡ false = not_found (λ (f : Named). same_key (key_at f) key) e entries q i in
    let b : same_key (key_at e) key ≡ true = (key_decides (key_at e) key).1 same in
    cc

-- a list that has the entry of the key, if the other has, finds the same
pub same_entry_at : (xs ys : List Named) (key : Key) → OneEach ys → ((e : Named) → In e xs → In e ys) → ((e : Named) → In e ys → key_at e ≡ key → In e xs)
    → entry_at xs key ≡ entry_at ys key
same_entry_at xs ys key one within has = by (entry_at ys key) refl
  where
    one_x : OneEach xs
    one_x e f i j q = one e f (within e i) (within f j) q

    by_x : (o : Option Named) → entry_at ys key ≡ None → entry_at xs key ≡ o → o ≡ None
    by_x None q p = refl
    by_x (Some e) q p = (let w = entry_found xs key e p in absurd (none_found ys key q e (within e w.0) w.1))

    by : (o : Option Named) → entry_at ys key ≡ o → entry_at xs key ≡ o
    by None q = by_x (entry_at xs key) q refl
    by (Some e) q = (let w = entry_found ys key e q in entry_is xs key e one_x (has e w.0 w.1) w.1)

-- and so for the lowest entry on the way
pub same_lowest : (xs ys : List Named) (key : Key) → OneEach ys → ((e : Named) → In e ys → 0 < length (key_at e)) → ((e : Named) → In e xs → In e ys)
    → ((e : Named) → In e ys → IsPrefix (key_at e) key → ((f : Named) → In f ys → IsPrefix (key_at f) key → length (key_at f) ≤ length (key_at e)) → In e xs)
    → lowest xs key ≡ lowest ys key
same_lowest xs ys key one full within has = by (lowest ys key) (lowest_right ys key)
  where
    one_x : OneEach xs
    one_x e f i j q = one e f (within e i) (within f j) q

    by : (o : Option Named) → IsLowest ys key (length key) o → lowest xs key ≡ o
    by None h = none_lowest xs key (λ f i q. h f (within f i) q (full f (within f i)) (prefix_length (key_at f) key q))
    by (Some e) h =
        let low : (f : Named) → In f ys → IsPrefix (key_at f) key → length (key_at f) ≤ length (key_at e) = (λ f i q. h.1.1 f i q (prefix_length (key_at f) key q)) in
        lowest_is xs key e one_x (full e h.0) (has e h.0 h.1.0 low) h.1.0 (λ f i q. low f (within f i) q)

abbrev name_in : Option Named → Name
name_in o = in_option [] (λ e. e.name) o

pub same_matched : (xs ys : List Named) (key : Key) → lowest xs key ≡ lowest ys key → matched xs key ≡ matched ys key
same_matched xs ys key e = ap name_in e
