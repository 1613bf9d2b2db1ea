-- What a context's own part gives of an update that a larger ground accepts too: its entries judge alike, and the
-- others stay.
use Rattle.std.proofs.Common.{◌≡◌, ℕ, ◌<◌, ◌+◌, Bool, true, false, cond, not, inl, inr, List, [], ◌∷◌, map, length, refl, sym, ap, subst, ◌∙◌, arith, Some, Ok, Result, ◌&&◌}
use Rattle.std.specs.List.{filter}
use Rattle.x5_model.specs.Members.{In, here, there}
use Rattle.x5_model.specs.Keys.{Key, parent, same_key}
use Rattle.x5_model.specs.Values.{key_of, last_rdn}
use Rattle.x5_model.specs.Entries.{Named}
use Rattle.x5_model.specs.Changes.{renamed}
use Rattle.x5_model.specs.Answers.{DirError}
use Rattle.x5_model.specs.Requests.{Body, Read, Compare, ListBelow, Search, AddEntry, RemoveEntry, ModifyEntry, ModifyDn}
use Rattle.x5_model.proofs.Lists.{true_or_false, in_map, of_map}
use Rattle.x5_model.proofs.Prefixes.{parent_length}
use Rattle.x5_model_tree.specs.Tree.{Tree, key_at, keys_of, is_there, part}
use Rattle.x5_model_tree.specs.Ask.{is_update}
use Rattle.x5_model_tree.specs.Apply.{Ground, ground_of, update, is_taken}
use Rattle.x5_model_tree.proofs.Longest.{IsLongest}
use Rattle.x5_model_theory.specs.Knowledge.{Knowledge, IsEntry, IsMastered}
use Rattle.x5_model_theory.specs.Coherent.{Coherent}
use Rattle.x5_model_theory.proofs.Views.{there_decides}
use Rattle.x5_model_updates.specs.Standing.{IsTreeOf}
use Rattle.x5_model_updates.specs.Afterwards.{only_part, new_key}
use Rattle.x5_model_updates.proofs.Lookups.{agree}
use Rattle.x5_model_updates.proofs.Outcomes.{added, removed, changed_so, renamed_so, add_free, remove_some, modify_some, rename_some, clashes}
use Rattle.x5_model_updates.proofs.Trees.{tree_filled, of_part, entry_in_area, longest_own}
use Rattle.x5_model_updates.proofs.Divided.{one_pin}

abbrev pub alone : Ground → Tree → Key → Ground
alone g t pin = record g { entries = part t pin }

abbrev ok_entries : List Named → Result (List Named) DirError
ok_entries es = Ok es

-- what passes no larger test passes no smaller
still_false : (a b : Bool) → (b ≡ true → a ≡ true) → a ≡ false → b ≡ false
still_false a b f h = elim (true_or_false b) [ inr q ↦ q | inl q ↦ (let w = f q in cc) ]

-- what one accepts for its part of the tree, and a larger ground accepts, its ground with that part alone accepts
pub alone_made : (g : Ground) (t : Tree) (pin : Key) (us mine : List Named) (body : Body) → is_update body ≡ true
    → ((x : Key) → is_taken (alone g t pin) x ≡ true → is_taken g x ≡ true) → update g body ≡ Ok mine → update (ground_of (only_part t pin)) body ≡ Ok us → update (alone g t pin) body ≡ Ok us
alone_made g t pin us mine (Read name selection) up less h q = cc
alone_made g t pin us mine (Compare name assertion) up less h q = cc
alone_made g t pin us mine (ListBelow name) up less h q = cc
alone_made g t pin us mine (Search base subset f selection) up less h q = cc
alone_made g t pin us mine (AddEntry name attributes) up less h q =
    let a = added g name attributes mine h in
    let b = added (ground_of (only_part t pin)) name attributes us q in
    add_free (alone g t pin) name attributes b.above b.there (still_false (is_taken g (key_of name)) (is_taken (alone g t pin) (key_of name)) (less (key_of name)) a.free) ∙ ap ok_entries (sym b.made)
alone_made g t pin us mine (RemoveEntry name) up less h q =
    let a = removed g name mine h in
    let b = removed (ground_of (only_part t pin)) name us q in
    remove_some (alone g t pin) name b.at false false b.there a.above b.below ∙ ap ok_entries (sym b.made)
alone_made g t pin us mine (ModifyEntry name changes) up less h q =
    let b = changed_so (ground_of (only_part t pin)) name changes us q in
    modify_some (alone g t pin) name changes b.at (Ok b.new) b.there b.done ∙ ap ok_entries (sym b.made)
alone_made g t pin us mine (ModifyDn name rdn drops) up less h q =
    let a = renamed_so g name rdn drops mine h in
    let b = renamed_so (ground_of (only_part t pin)) name rdn drops us q in
    rename_some (alone g t pin) name rdn drops b.at false (Ok (renamed (last_rdn name) rdn drops b.at.entry)) false b.there a.above b.single (clear a.free) ∙ ap ok_entries (sym b.made)
  where
    clear : clashes g name rdn ≡ false → clashes (alone g t pin) name rdn ≡ false
    clear f = by (not (same_key (new_key name rdn) (key_of name))) refl f
      where
        by : (b : Bool) → not (same_key (new_key name rdn) (key_of name)) ≡ b → clashes g name rdn ≡ false → clashes (alone g t pin) name rdn ≡ false
        by true e k =
            ap (λ (b : Bool). b && is_taken (alone g t pin) (new_key name rdn)) e
            ∙ still_false (is_taken g (new_key name rdn)) (is_taken (alone g t pin) (new_key name rdn)) (less (new_key name rdn)) (sym (ap (λ (b : Bool). b && is_taken g (new_key name rdn)) e) ∙ k)
        by false e k = ap (λ (b : Bool). b && is_taken (alone g t pin) (new_key name rdn)) e

-- ---- lists

pub map_same : {A B : Type 0} (f g : A → B) (xs : List A) → ((x : A) → In x xs → f x ≡ g x) → map f xs ≡ map g xs
map_same f g [] h = refl
map_same {A} {B} f g (x ∷ xs) h = ap (λ (y : B). y ∷ map f xs) (h x here) ∙ ap (λ (ys : List B). g x ∷ ys) (map_same f g xs (λ y i. h y (there i)))

pub filter_same : {A : Type 0} (f g : A → Bool) (xs : List A) → ((x : A) → In x xs → f x ≡ g x) → filter f xs ≡ filter g xs
filter_same f g [] h = refl
filter_same {A} f g (x ∷ xs) h =
    ap (λ (b : Bool). cond b (x ∷ filter f xs) (filter f xs)) (h x here)
    ∙ ap (λ (ys : List A). cond (g x) (x ∷ ys) ys) (filter_same f g xs (λ y i. h y (there i)))

pub filter_all : {A : Type 0} (f : A → Bool) (xs : List A) → ((x : A) → In x xs → f x ≡ true) → filter f xs ≡ xs
filter_all f [] h = refl
filter_all {A} f (x ∷ xs) h =
    ap (λ (b : Bool). cond b (x ∷ filter f xs) (filter f xs)) (h x here) ∙ ap (λ (ys : List A). x ∷ ys) (filter_all f xs (λ y i. h y (there i)))

pub filter_none : {A : Type 0} (f : A → Bool) (xs : List A) → ((x : A) → In x xs → f x ≡ true) → filter (λ y. not (f y)) xs ≡ []
filter_none f [] h = refl
filter_none f (x ∷ xs) h =
    ap (λ (b : Bool). cond (not b) (x ∷ filter (λ y. not (f y)) xs) (filter (λ y. not (f y)) xs)) (h x here) ∙ filter_none f xs (λ y i. h y (there i))

-- ---- what stands above a pin stays in its context

stays_in : (k l : Knowledge) (t u : Tree) → Coherent k → IsTreeOf k t → Coherent l → IsTreeOf l u → u.pins ≡ t.pins → (q x : Key) → IsEntry l x → In x (keys_of (part t q)) → In x (keys_of (part u q))
stays_in k l t u good is good2 is2 pins q x d i =
    let e = of_map key_at x (part t q) i in
    let before : IsLongest t.pins x (Some q) = subst (λ (y : Key). IsLongest t.pins y (Some q)) (sym e.2) (of_part k t good is q e.0 e.1).1 in
    let after : IsLongest t.pins x (Some d.0.prefix) = subst (λ (ps : List Key). IsLongest ps x (Some d.0.prefix)) pins (longest_own l u good2 is2 d.0 x d.1 d.2) in
    let f = entry_in_area l u good2 is2 d.0 x d.1 d.2 in
    subst (λ (y : Key). In x (keys_of (part u y))) (one_pin t.pins x d.0.prefix q after before) (subst (λ (y : Key). In y (keys_of (part u d.0.prefix))) f.2 (in_map key_at f.0 (part u d.0.prefix) f.1))

above_is : (k l : Knowledge) (t : Tree) → Coherent k → IsTreeOf k t → Coherent l → (a : ℕ) (pin q : Key) → IsMastered l a pin → In (parent pin) (keys_of (part t q)) → IsEntry l (parent pin)
above_is k l t good is good2 a pin q w i =
    elim (good2.parents w.0 w.1) [
      | inl one ↦ absurd (
          let e = of_map key_at (parent pin) (part t q) i in
          let full : 0 < length (parent pin) = subst (λ (y : Key). 0 < length y) (sym e.2) (tree_filled k t good is e.0 (of_part k t good is q e.0 e.1).0) in
          let size : length pin ≡ 1 = ap length (sym w.3) ∙ one in
          let short : length (parent pin) + 1 ≡ length pin = parent_length pin (omega arith) in
          omega arith)
      | inr e ↦ subst (λ (y : Key). IsEntry l (parent y)) w.3 e
    ]

pub parent_stays : (k l : Knowledge) (t u : Tree) → Coherent k → IsTreeOf k t → Coherent l → IsTreeOf l u → u.pins ≡ t.pins → (a b : ℕ) (pin q : Key) → IsMastered k a pin → IsMastered l b pin
    → is_there (part u q) (parent pin) ≡ is_there (part t q) (parent pin)
parent_stays k l t u good is good2 is2 pins a b pin q m n =
    agree (is_there (part u q) (parent pin)) (is_there (part t q) (parent pin)) (there_decides (part u q) (parent pin)) (there_decides (part t q) (parent pin))
    (λ i. stays_in l k u t good2 is2 good is (sym pins) q (parent pin) (above_is l k u good2 is2 good a pin q m i) i)
    (λ i. stays_in k l t u good is good2 is2 pins q (parent pin) (above_is k l t good is good2 b pin q n i) i)
