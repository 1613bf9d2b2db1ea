-- Each condition's list of breaches is empty exactly where its plain statement holds.
use Rattle.std.proofs.Common.{◌≡◌, ℕ, zero, suc, ◌<◌, ◌≤◌, Bool, true, false, not, ◌&&◌, ◌||◌, ◌==◌, nat_lt, ◌⊎◌, inl, inr, List, [], ◌∷◌, ◌++◌, map, length, refl, sym, ap, subst, arith, Option, Some, None}
use Rattle.std.specs.Bool.{Decides}
use Rattle.std.specs.Option.{is_none}
use Rattle.std.specs.List.{list_any, filter, flat_map}
use Rattle.x5_model.specs.Words.{has, when, in_option, some_and}
use Rattle.x5_model.specs.Members.{In, Once}
use Rattle.x5_model.specs.Keys.{Key, IsPrefix, same_key, is_prefix, is_child, parent}
use Rattle.x5_model.specs.Values.{key_of, name_above}
use Rattle.x5_model.specs.Entries.{Named}
use Rattle.x5_model.proofs.KeyLaws.{key_decides}
use Rattle.x5_model.proofs.Prefixes.{prefix_decides, child_decides}
use Rattle.x5_model.proofs.Lists.{true_or_false, in_left, in_right, in_either}
use Rattle.x5_model.proofs.Decide.{EmptyWhere, nat_same_decides, less_decides, true_decides, and_decides, or_decides, not_decides, same_decides, any_decides, has_decides, fault_unless, fault_where, faults_both, faults_each, faults_same, faults_unfit}
use Rattle.x5_model_tree.specs.World.{Specific, Nssr, Context, Agent, Agreement, World}
use Rattle.x5_model_tree.specs.Tree.{key_at, is_there, is_there_or_root}
use Rattle.x5_model_tree.specs.Masters.{Mastered, pin_of, numbered, mastered, master_of, masters, is_consumer, consumes, supplier_of, is_first_level, superior_of, all_entries}
use Rattle.x5_model_tree.specs.Consistent.{breach, AgentPrinted, NamePrinted, AgreementPrinted, FileReference, ToBelow, ToAnywhere, specific_of, references, names_master, child_of_own, is_right, in_nssr, refers_to, knows, masters_below, name_of_nssr, ends_within, supplied_within, consumed_once, is_supplied, longer_pin, false_reference, false_shadows, unknown_below, false_members, unknown_top, endless, breaches_1, breaches_2, breaches_3, breaches_4, breaches_5, breaches_6, breaches_7, breaches_8, breaches_9, breaches_10, IsConsistent}
use Rattle.x5_model_tree.specs.Conditions.{Masters, Consumes, IsBy, Has, Refers, OneMaster, ParentThere, ParentsThere, NotLonger, NoLongerPin, NamesMaster, ChildOfOwn, ReferenceRight, ReferencesRight, ShadowsOf, ShadowsConsume, InNssr, KnowsBelow, KnownBelow, MastersBelow, MemberMasters, MembersOf, MembersMaster, KnowsTop, TopKnown, after, EndsWithin, SuperiorsEndOf, SuperiorsEnd, SuppliedWithin, AgreementSupplies, AgreementsSupply, Conditions}
use Rattle.x5_model_tree.specs.Breaking.{Each}
use Rattle.x5_model_tree.proofs.FileOrder.{IsOf, of_references, in_references}

-- ---- the tests that conditions are made of

pub there_decides : (entries : List Named) (key : Key) → Decides (is_there entries key) (Has entries key)
there_decides entries key = any_decides (λ e. same_key (key_at e) key) entries (λ e. key_decides (key_at e) key)

pub masters_decides : (w : World) (a : ℕ) (pin : Key) → Decides (masters w a pin) (Masters w a pin)
masters_decides w a pin =
    any_decides (λ m. (m.master == a) && same_key (pin_of m) pin) (mastered w) (λ m. and_decides (m.master == a) (same_key (pin_of m) pin) (nat_same_decides m.master a) (key_decides (pin_of m) pin))

pub consumer_decides : (a : ℕ) (pin : Key) (g : Agreement) → Decides (is_consumer a pin g) (IsBy a pin g)
consumer_decides a pin g =
    and_decides (g.consumer == a) (same_key (key_of g.context) pin) (nat_same_decides g.consumer a) (key_decides (key_of g.context) pin)

pub consumes_decides : (w : World) (a : ℕ) (pin : Key) → Decides (consumes w a pin) (Consumes w a pin)
consumes_decides w a pin = any_decides (is_consumer a pin) w.agreements (consumer_decides a pin)

pub refers_decides : (a : Agent) (pin : Key) → Decides (refers_to a pin) (Refers a pin)
refers_decides a pin = any_decides (λ k. same_key (key_of k.pin) pin) a.subordinate (λ k. key_decides (key_of k.pin) pin)

pub first_level_decides : (a : Agent) → Decides (is_first_level a) (a.superior ≡ None)
first_level_decides a = by a.superior
  where
    by : (s : Option ℕ) → Decides (is_none s) (s ≡ None)
    by None = (λ e. refl, λ e. refl)
    by (Some s) = (λ e. cc, λ e. cc)

-- ---- one by one

pub exact_1 : (w : World) → EmptyWhere (breaches_1 w) (OneMaster w)
exact_1 w =
    faults_same (breaches_1 w) (λ h. h.0) (λ h. (h, λ m i. tt)) (faults_unfit same_key key_decides pin_of (λ m. true) (λ m. breach 1 (NamePrinted m.context.prefix) (AgentPrinted m.master)) (λ m. true_decides) (mastered w))

parent_decides : (w : World) (m : Mastered) → Decides (is_there_or_root (all_entries w) (parent (pin_of m))) (ParentThere w m)
parent_decides w m =
    or_decides _ _ (nat_same_decides (length (parent (pin_of m))) 0) (there_decides (all_entries w) (parent (pin_of m)))

pub parent_exact : (w : World) (m : Mastered) → EmptyWhere (when (not (is_there_or_root (all_entries w) (parent (pin_of m)))) (breach 2 (NamePrinted m.context.prefix) (NamePrinted (name_above m.context.prefix)))) (ParentThere w m)
parent_exact w m = fault_unless (is_there_or_root (all_entries w) (parent (pin_of m))) _ (parent_decides w m)

pub exact_2 : (w : World) → EmptyWhere (breaches_2 w) (ParentsThere w)
exact_2 w = faults_each _ (mastered w) (parent_exact w)

pub not_longer : (m p : Mastered) (e : Named) → EmptyWhere (longer_pin m e p) (NotLonger m e p)
not_longer m p e =
    faults_same (longer_pin m e p) from to (fault_where (nat_lt (length (pin_of m)) (length (pin_of p)) && is_prefix (pin_of p) (key_at e)) _ (and_decides _ _ (less_decides (length (pin_of m)) (length (pin_of p))) (prefix_decides (pin_of p) (key_at e))))
  where
    from : ¬ ((length (pin_of m) < length (pin_of p)) × IsPrefix (pin_of p) (key_at e)) → IsPrefix (pin_of p) (key_at e) → length (pin_of p) ≤ length (pin_of m)
    from f p_is = let no : length (pin_of m) < length (pin_of p) → ⊥ = λ l. f (l, p_is) in omega (arith, no)

    to : (IsPrefix (pin_of p) (key_at e) → length (pin_of p) ≤ length (pin_of m)) → ¬ ((length (pin_of m) < length (pin_of p)) × IsPrefix (pin_of p) (key_at e))
    to f h = let l : length (pin_of p) ≤ length (pin_of m) = f h.1 in let k : length (pin_of m) < length (pin_of p) = h.0 in omega arith

pub entry_exact : (w : World) (m : Mastered) (e : Named) → EmptyWhere (flat_map (longer_pin m e) (mastered w)) (Each (mastered w) (NotLonger m e))
entry_exact w m e = faults_each (longer_pin m e) (mastered w) (λ p. not_longer m p e)

pub entries_exact : (w : World) (m : Mastered) → EmptyWhere (flat_map (λ e. flat_map (longer_pin m e) (mastered w)) m.context.entries) (Each m.context.entries (λ e. Each (mastered w) (NotLonger m e)))
entries_exact w m = faults_each _ m.context.entries (entry_exact w m)

pub exact_3 : (w : World) → EmptyWhere (breaches_3 w) (NoLongerPin w)
exact_3 w = faults_each _ (mastered w) (entries_exact w)

names_decides : (w : World) (k : Specific) → Decides (names_master w k) (NamesMaster w k)
names_decides w k = masters_decides w k.access.master (key_of k.pin)

child_of_own_decides : (a : Agent) (pin : Key) → Decides (child_of_own a pin) (ChildOfOwn a pin)
child_of_own_decides a pin =
    or_decides (is_first_level a && (length pin == 1)) (list_any (λ c. list_any (λ e. is_child (key_at e) pin) c.entries) a.contexts)
    (and_decides (is_first_level a) (length pin == 1) (first_level_decides a) (nat_same_decides (length pin) 1))
    (any_decides (λ c. list_any (λ e. is_child (key_at e) pin) c.entries) a.contexts (λ c. any_decides (λ e. is_child (key_at e) pin) c.entries (λ e. child_decides (key_at e) pin)))

right_decides : (w : World) (a : Agent) (r : FileReference) → Decides (is_right w a r) (ReferenceRight w a r)
right_decides w a (ToBelow k) = and_decides _ _ (names_decides w k) (child_of_own_decides a (key_of k.pin))
right_decides w a (ToAnywhere k) = names_decides w k

pub reference_exact : (w : World) (a : ℕ × Agent) (r : FileReference) → EmptyWhere (false_reference w a.0 a.1 r) (ReferenceRight w a.1 r)
reference_exact w a r = fault_unless (is_right w a.1 r) _ (right_decides w a.1 r)

pub references_exact : (w : World) (a : ℕ × Agent) → EmptyWhere (flat_map (false_reference w a.0 a.1) (references a.1)) (Each (references a.1) (ReferenceRight w a.1))
references_exact w a = faults_each (false_reference w a.0 a.1) (references a.1) (reference_exact w a)

abbrev ByKind : World → ℕ × Agent → Type 0
ByKind w a =
    ((k : Specific) → In k a.1.subordinate → NamesMaster w k × ChildOfOwn a.1 (key_of k.pin)) × ((k : Specific) → In k a.1.cross → NamesMaster w k)

pub exact_4 : (w : World) → EmptyWhere (breaches_4 w) (ReferencesRight w)
exact_4 w = faults_each _ (numbered w) (λ a. faults_same _ (from a) (to a) (references_exact w a))
  where
    from : (a : ℕ × Agent) → Each (references a.1) (ReferenceRight w a.1) → ByKind w a
    from a f = (
      λ k i. f (ToBelow k) (in_references a.1 (ToBelow k) i),
      λ k i. f (ToAnywhere k) (in_references a.1 (ToAnywhere k) i),
    )

    one : (a : ℕ × Agent) → ByKind w a → (r : FileReference) → IsOf a.1.subordinate a.1.cross r → ReferenceRight w a.1 r
    one a h (ToBelow k) i = h.0 k i
    one a h (ToAnywhere k) i = h.1 k i

    to : (a : ℕ × Agent) → ByKind w a → Each (references a.1) (ReferenceRight w a.1)
    to a h r i = one a h r (of_references a.1 r i)

map_same : (xs : List ℕ) → map (λ x. x) xs ≡ xs
map_same [] = refl
map_same (x ∷ xs) = ap (λ (ys : List ℕ). x ∷ ys) (map_same xs)

pub shadows_exact : (w : World) (k : Specific) → EmptyWhere (false_shadows w k) (ShadowsOf w k)
shadows_exact w k =
    faults_same (false_shadows w k) (λ h. (subst Once (map_same k.access.shadows) h.0, h.1)) (λ h. (subst Once (sym (map_same k.access.shadows)) h.0, h.1))
    (faults_unfit ◌==◌ nat_same_decides (λ s. s) (λ s. consumes w s (key_of k.pin)) (λ s. breach 5 (NamePrinted k.pin) (AgentPrinted s)) (λ s. consumes_decides w s (key_of k.pin)) k.access.shadows)

pub all_shadows_exact : (w : World) (a : ℕ × Agent) → EmptyWhere (flat_map (λ r. false_shadows w (specific_of r)) (references a.1)) (Each (references a.1) (λ r. ShadowsOf w (specific_of r)))
all_shadows_exact w a = faults_each (λ r. false_shadows w (specific_of r)) (references a.1) (λ r. shadows_exact w (specific_of r))

pub exact_5 : (w : World) → EmptyWhere (breaches_5 w) (ShadowsConsume w)
exact_5 w = faults_each _ (numbered w) (λ a. faults_same _ (from a) (to a) (all_shadows_exact w a))
  where
    from : (a : ℕ × Agent) → Each (references a.1) (λ r. ShadowsOf w (specific_of r)) → Each (a.1.subordinate ++ a.1.cross) (ShadowsOf w)
    from a f k i =
        elim (in_either k a.1.subordinate a.1.cross i) [
          | inl j ↦ f (ToBelow k) (in_references a.1 (ToBelow k) j)
          | inr j ↦ f (ToAnywhere k) (in_references a.1 (ToAnywhere k) j)
        ]

    one : (a : ℕ × Agent) → Each (a.1.subordinate ++ a.1.cross) (ShadowsOf w) → (r : FileReference) → IsOf a.1.subordinate a.1.cross r → ShadowsOf w (specific_of r)
    one a h (ToBelow k) i = h k (in_left k a.1.subordinate a.1.cross i)
    one a h (ToAnywhere k) i = h k (in_right k a.1.subordinate a.1.cross i)

    to : (a : ℕ × Agent) → Each (a.1.subordinate ++ a.1.cross) (ShadowsOf w) → Each (references a.1) (λ r. ShadowsOf w (specific_of r))
    to a h r i = one a h r (of_references a.1 r i)

nssr_decides : (c : Context) (at : Key) (m : ℕ) → Decides (in_nssr c at m) ((n : Nssr) × In n c.nssrs × ((key_of n.at ≡ at) × In m n.agents))
nssr_decides c at m =
    any_decides (λ n. same_key (key_of n.at) at && has ◌==◌ n.agents m) c.nssrs (λ n. and_decides _ _ (key_decides (key_of n.at) at) (has_decides ◌==◌ nat_same_decides n.agents m))

some_decides : {A : Type 0} {P : A → Type 0} (test : A → Bool) (o : Option A) → ((x : A) → Decides (test x) (P x)) → Decides (some_and test o) ((x : A) × (o ≡ Some x) × P x)
some_decides test None d = (λ e. cc, λ h. cc)
some_decides {A} {P} test (Some x) d =
    (λ e. (x, refl, (d x).0 e), λ h. (d x).1 (subst P (inside h.0 (sym h.1)) h.2))
  where
    inside : (y : A) → Some y ≡ Some x → y ≡ x
    inside y e = cc

knows_decides : (w : World) (a : Agent) (c : Context) (place : ℕ) (pin : Key) → Decides (knows w a c place pin) (Masters w place pin ⊎ (Refers a pin ⊎ InNssr w c pin))
knows_decides w a c place pin =
    or_decides (masters w place pin) (refers_to a pin || some_and (in_nssr c (parent pin)) (master_of w pin)) (masters_decides w place pin)
    (or_decides (refers_to a pin) (some_and (in_nssr c (parent pin)) (master_of w pin)) (refers_decides a pin) (some_decides (in_nssr c (parent pin)) (master_of w pin) (nssr_decides c (parent pin))))

-- a fault where the one test holds and the other doesn't
fault_if_not : {X P Q : Type 0} (a b : Bool) (x : X) → Decides a P → Decides b Q → EmptyWhere (when (a && not b) x) (P → Q)
fault_if_not {X} {P} {Q} a b x p q =
    faults_same (when (a && not b) x) from to (fault_where (a && not b) x (and_decides a (not b) p (not_decides b q)))
  where
    from : ¬ (P × ¬ Q) → P → Q
    from f h = elim (true_or_false b) [ inl e ↦ q.0 e | inr e ↦ absurd (f (h, λ g. let t : b ≡ true = q.1 g in cc)) ]

    to : (P → Q) → ¬ (P × ¬ Q)
    to f h = h.1 (f h.0)

pub known_exact : (w : World) (p : Mastered) (a : ℕ × Agent) (c : Context) → EmptyWhere (unknown_below w a.0 a.1 c p) (KnowsBelow w a c p)
known_exact w p a c =
    fault_if_not (is_there c.entries (parent (pin_of p))) (knows w a.1 c a.0 (pin_of p)) _ (there_decides c.entries (parent (pin_of p))) (knows_decides w a.1 c a.0 (pin_of p))

pub known_by_exact : (w : World) (p : Mastered) (a : ℕ × Agent) → EmptyWhere (flat_map (λ c. unknown_below w a.0 a.1 c p) a.1.contexts) (Each a.1.contexts (λ c. KnowsBelow w a c p))
known_by_exact w p a = faults_each (λ c. unknown_below w a.0 a.1 c p) a.1.contexts (known_exact w p a)

pub known_by_all_exact : (w : World) (p : Mastered) → EmptyWhere (flat_map (λ a. flat_map (λ c. unknown_below w a.0 a.1 c p) a.1.contexts) (numbered w)) (Each (numbered w) (λ a. Each a.1.contexts (λ c. KnowsBelow w a c p)))
known_by_all_exact w p = faults_each _ (numbered w) (known_by_exact w p)

pub exact_6 : (w : World) → EmptyWhere (breaches_6 w) (KnownBelow w)
exact_6 w =
    faults_same (breaches_6 w) (λ f a i c j p k. f p k a i c j) (λ f p k a i c j. f a i c j p k) (faults_each _ (mastered w) (known_by_all_exact w))

below_decides : (w : World) (s : ℕ) (at : Key) → Decides (masters_below w s at) (MastersBelow w s at)
below_decides w s at =
    any_decides (λ p. (p.master == s) && is_child at (pin_of p)) (mastered w) (λ p. and_decides _ _ (nat_same_decides p.master s) (child_decides at (pin_of p)))

pub member_decides : (w : World) (m : Mastered) (n : Nssr) (s : ℕ) → Decides (not (s == m.master) && masters_below w s (key_of n.at)) (MemberMasters w m n s)
member_decides w m n s =
    and_decides (not (s == m.master)) (masters_below w s (key_of n.at)) (not_decides (s == m.master) (nat_same_decides s m.master)) (below_decides w s (key_of n.at))

pub members_exact : (w : World) (m : Mastered) (n : Nssr) → EmptyWhere (false_members w m n) (MembersOf w m n)
members_exact w m n =
    faults_same (false_members w m n) (λ h. (subst Once (map_same n.agents) h.0, h.1)) (λ h. (subst Once (sym (map_same n.agents)) h.0, h.1))
    (faults_unfit ◌==◌ nat_same_decides (λ s. s) (λ s. not (s == m.master) && masters_below w s (key_of n.at)) (λ s. breach 7 (NamePrinted (name_of_nssr m.context n)) (AgentPrinted s))
    (member_decides w m n) n.agents)

pub all_members_exact : (w : World) (m : Mastered) → EmptyWhere (flat_map (false_members w m) m.context.nssrs) (Each m.context.nssrs (MembersOf w m))
all_members_exact w m = faults_each (false_members w m) m.context.nssrs (members_exact w m)

pub exact_7 : (w : World) → EmptyWhere (breaches_7 w) (MembersMaster w)
exact_7 w = faults_each _ (mastered w) (all_members_exact w)

pub top_exact : (w : World) (a : ℕ × Agent) (p : Mastered) → EmptyWhere (unknown_top w a.0 a.1 p) (KnowsTop w a p)
top_exact w a p =
    faults_same (unknown_top w a.0 a.1 p) from (λ f h. h.1.1 (f h.0 h.1.0)) (fault_where (is_first_level a.1 && ((length (pin_of p) == 1) && not known)) _ (and_decides (is_first_level a.1) ((length (pin_of p) == 1) && not known) (first_level_decides a.1) (and_decides (length (pin_of p) == 1) (not known) (nat_same_decides (length (pin_of p)) 1) (not_decides known known_decides))))
  where
    known : Bool
    known = masters w a.0 (pin_of p) || refers_to a.1 (pin_of p)

    known_decides : Decides known (Masters w a.0 (pin_of p) ⊎ Refers a.1 (pin_of p))
    known_decides = or_decides (masters w a.0 (pin_of p)) (refers_to a.1 (pin_of p)) (masters_decides w a.0 (pin_of p)) (refers_decides a.1 (pin_of p))

    from : ¬ ((a.1.superior ≡ None) × ((length (pin_of p) ≡ 1) × ¬ (Masters w a.0 (pin_of p) ⊎ Refers a.1 (pin_of p)))) → a.1.superior ≡ None → length (pin_of p) ≡ 1 → Masters w a.0 (pin_of p) ⊎ Refers a.1 (pin_of p)
    from f s l = elim (true_or_false known) [ inl e ↦ known_decides.0 e | inr e ↦ absurd (f (s, (l, λ h. let t : known ≡ true = known_decides.1 h in cc))) ]

pub tops_exact : (w : World) (a : ℕ × Agent) → EmptyWhere (flat_map (unknown_top w a.0 a.1) (mastered w)) (Each (mastered w) (KnowsTop w a))
tops_exact w a = faults_each (unknown_top w a.0 a.1) (mastered w) (top_exact w a)

pub exact_8 : (w : World) → EmptyWhere (breaches_8 w) (TopKnown w)
exact_8 w = faults_each _ (numbered w) (tops_exact w)

-- ---- chains

module _ (next : ℕ → Option ℕ) where
  less_to_end : (k n : ℕ) (a : ℕ) → k ≤ suc n → after next k (Some a) ≡ None → EndsWithin next n (next a)
  less_to_end zero n a l e = cc
  less_to_end (suc k) n a l e = (k, (omega arith, e))

  beyond_none : (k : ℕ) → after next k None ≡ None
  beyond_none zero = refl
  beyond_none (suc k) = refl

pub ends_decides : (w : World) (n : ℕ) (a : Option ℕ) → Decides (ends_within w n a) (EndsWithin (superior_of w) n a)
ends_decides w n None = (λ e. (0, (omega arith, refl)), λ h. refl)
ends_decides w zero (Some a) = (λ e. cc, none)
  where
    at_zero : (k : ℕ) → k ≤ 0 → after (superior_of w) k (Some a) ≡ None → false ≡ true
    at_zero zero l e = cc
    at_zero (suc k) l e = absurd (omega arith)

    none : EndsWithin (superior_of w) 0 (Some a) → false ≡ true
    none h = at_zero h.0 h.1.0 h.1.1
ends_decides w (suc n) (Some a) =
    same_decides (ends_within w n (superior_of w a)) (λ h. (suc h.0, (let l : h.0 ≤ n = h.1.0 in omega arith, h.1.1))) (λ h. less_to_end (superior_of w) h.0 n a h.1.0 h.1.1) (ends_decides w n (superior_of w a))

pub ends_exact : (w : World) (place : ℕ) (s : Option ℕ) → EmptyWhere (in_option [] (endless w place) s) (EndsWithin (superior_of w) 16 s)
ends_exact w place None = (λ e. (0, (omega arith, refl)), λ h. refl)
ends_exact w place (Some s) = fault_unless (ends_within w 16 (Some s)) _ (ends_decides w 16 (Some s))

pub exact_9 : (w : World) → EmptyWhere (breaches_9 w) (SuperiorsEnd w)
exact_9 w = faults_each _ (numbered w) (λ a. ends_exact w a.0 a.1.superior)

module _ (w : World) (pin : Key) where
  nobody : (k s : ℕ) → after (λ b. supplier_of w b pin) k None ≡ Some s → ⊥
  nobody k s e = let h : after (λ b. supplier_of w b pin) k None ≡ None = beyond_none (λ b. supplier_of w b pin) k in cc

  here_or_on : (k n a s : ℕ) → k < suc n → after (λ b. supplier_of w b pin) k (Some a) ≡ Some s → Masters w s pin → Masters w a pin ⊎ SuppliedWithin w pin n (supplier_of w a pin)
  here_or_on zero n a s l e m = inl (subst (λ (b : ℕ). Masters w b pin) (sym (inside a s e)) m)
    where
      inside : (a s : ℕ) → Some a ≡ Some s → a ≡ s
      inside a s e = cc
  here_or_on (suc k) n a s l e m = inr (k, (omega arith, (s, (e, m))))

  pub supplied_decides : (n : ℕ) (a : Option ℕ) → Decides (supplied_within w n pin a) (SuppliedWithin w pin n a)
  supplied_decides n None = (λ e. cc, λ h. absurd (nobody h.0 h.1.1.0 h.1.1.1.0))
  supplied_decides zero (Some a) = (λ e. cc, λ h. let l : h.0 < 0 = h.1.0 in absurd (omega arith))
  supplied_decides (suc n) (Some a) =
      same_decides (masters w a pin || supplied_within w n pin (supplier_of w a pin))
      (λ h. elim h [ inl m ↦ (0, (omega arith, (a, (refl, m)))) | inr g ↦ (suc g.0, (let l : g.0 < n = g.1.0 in omega arith, g.1.1)) ])
      (λ h. here_or_on h.0 n a h.1.1.0 h.1.0 h.1.1.1.0 h.1.1.1.1)
      (or_decides (masters w a pin) (supplied_within w n pin (supplier_of w a pin)) (masters_decides w a pin) (supplied_decides n (supplier_of w a pin)))

supply_decides : (w : World) (g : Agreement) → Decides (is_supplied w g) (AgreementSupplies w g)
supply_decides w g =
    and_decides _ _ (not_decides (masters w g.consumer (key_of g.context)) (masters_decides w g.consumer (key_of g.context)))
    (and_decides (consumed_once w g) (supplied_within w 4 (key_of g.context) (Some g.supplier)) (nat_same_decides (length (filter (is_consumer g.consumer (key_of g.context)) w.agreements)) 1) (supplied_decides w (key_of g.context) 4 (Some g.supplier)))

pub supply_exact : (w : World) (g : Agreement) → EmptyWhere (when (not (is_supplied w g)) (breach 10 (AgreementPrinted g.number) (NamePrinted g.context))) (AgreementSupplies w g)
supply_exact w g = fault_unless (is_supplied w g) _ (supply_decides w g)

pub exact_10 : (w : World) → EmptyWhere (breaches_10 w) (AgreementsSupply w)
exact_10 w = faults_each _ w.agreements (supply_exact w)

-- ---- all

pub conditions_hold : (w : World) → IsConsistent w → Conditions w
conditions_hold w c = record {
  one_master = (exact_1 w).0 c.one_master;
  parents = (exact_2 w).0 c.parents;
  no_longer_pin = (exact_3 w).0 c.no_longer_pin;
  references = (exact_4 w).0 c.references;
  shadows = (exact_5 w).0 c.shadows;
  known_below = (exact_6 w).0 c.known_below;
  members = (exact_7 w).0 c.members;
  top_known = (exact_8 w).0 c.top_known;
  superiors = (exact_9 w).0 c.superiors;
  supplied = (exact_10 w).0 c.supplied;
}

pub consistent_where : (w : World) → Conditions w → IsConsistent w
consistent_where w c = record {
  one_master = (exact_1 w).1 c.one_master;
  parents = (exact_2 w).1 c.parents;
  no_longer_pin = (exact_3 w).1 c.no_longer_pin;
  references = (exact_4 w).1 c.references;
  shadows = (exact_5 w).1 c.shadows;
  known_below = (exact_6 w).1 c.known_below;
  members = (exact_7 w).1 c.members;
  top_known = (exact_8 w).1 c.top_known;
  superiors = (exact_9 w).1 c.superiors;
  supplied = (exact_10 w).1 c.supplied;
}
