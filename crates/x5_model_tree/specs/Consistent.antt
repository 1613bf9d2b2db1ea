-- When knowledge is consistent: ten conditions on the lists of a world. They are this project's own, after X.501
-- (knowledge). Each is the list of its breaches in file order, with the two values that are printed; it holds where
-- that list is empty. `Breaking` says in its own words which breach is the first.
use Rattle.std.specs.Prelude.{◌≡◌, ℕ, zero, suc, Bool, true, false, not, ◌&&◌, ◌||◌, ◌==◌, nat_lt, List, [], ◌∷◌, ◌++◌}
use Rattle.std.specs.Prelude.{length, map}
use Rattle.std.specs.List.{list_any, filter, flat_map}
use Rattle.std.specs.declared.option.Option.{Option}
use Rattle.std.specs.declared.option.Option.TheVariants.{None, Some}
use Rattle.x5_model.specs.Words.{has, first_of, some_and, in_option, when, unfit}
use Rattle.x5_model.specs.Keys.{Key, same_key, is_prefix, is_child, parent}
use Rattle.x5_model.specs.Values.{Name, key_of, name_above}
use Rattle.x5_model.specs.Entries.{Named}
use Rattle.x5_model_tree.specs.World.{Specific, Nssr, Context, Agent, Agreement, World}
use Rattle.x5_model_tree.specs.Tree.{key_at, entry_at, is_there, is_there_or_root}
use Rattle.x5_model_tree.specs.Masters.{Mastered, pin_of, numbered, mastered, master_of, masters, is_consumer, consumes}
use Rattle.x5_model_tree.specs.Masters.{supplier_of, is_first_level, superior_of, all_entries}

pub data Printed : Type 0 where
  AgentPrinted : ℕ → Printed
  NamePrinted : Name → Printed
  AgreementPrinted : ℕ → Printed

pub record Inconsistency : Type 0 where
  pub condition : ℕ
  pub first : Printed
  pub second : Printed

abbrev pub breach : ℕ → Printed → Printed → Inconsistency
breach n a b = record { condition = n; first = a; second = b }

-- 1. No prefix is mastered twice: the prefix, the second agent.
abbrev pub breaches_1 : World → List Inconsistency
breaches_1 w =
    unfit same_key pin_of (λ m. true) (λ m. breach 1 (NamePrinted m.context.prefix) (AgentPrinted m.master)) []
    (mastered w)

-- 2. Each pin's parent is the root or an entry: the pin, the parent.
abbrev pub breaches_2 : World → List Inconsistency
breaches_2 w =
    flat_map (λ m. when (not (is_there_or_root (all_entries w) (parent (pin_of m))))
    (breach 2 (NamePrinted m.context.prefix) (NamePrinted (name_above m.context.prefix)))) (mastered w)

-- 3. No entry has among its prefixes a pin longer than its own context's prefix: the entry, the pin.
abbrev pub longer_pin : Mastered → Named → Mastered → List Inconsistency
longer_pin m e p =
    when (nat_lt (length (pin_of m)) (length (pin_of p)) && is_prefix (pin_of p) (key_at e))
    (breach 3 (NamePrinted e.name) (NamePrinted p.context.prefix))

abbrev pub breaches_3 : World → List Inconsistency
breaches_3 w = flat_map (λ m. flat_map (λ e. flat_map (longer_pin m e) (mastered w)) m.context.entries) (mastered w)

-- the references of an agent, both kinds together, in the order of the file; those that this order doesn't count stand
-- behind all others
pub data FileReference : Type 0 where
  ToBelow : Specific → FileReference
  ToAnywhere : Specific → FileReference

abbrev pub specific_of : FileReference → Specific
specific_of (ToBelow k) = k
specific_of (ToAnywhere k) = k

abbrev pub in_file_order : List Bool → List Specific → List Specific → List FileReference
in_file_order [] below anywhere = map ToBelow below ++ map ToAnywhere anywhere
in_file_order (false ∷ order) [] anywhere = in_file_order order [] anywhere
in_file_order (false ∷ order) (k ∷ below) anywhere = ToBelow k ∷ in_file_order order below anywhere
in_file_order (true ∷ order) below [] = in_file_order order below []
in_file_order (true ∷ order) below (k ∷ anywhere) = ToAnywhere k ∷ in_file_order order below anywhere

abbrev pub references : Agent → List FileReference
references a = in_file_order a.crosses a.subordinate a.cross

-- 4. Each subordinate or cross reference names a pin and its master; a subordinate one names a child of an entry that
-- the agent masters, or of the root at a first-level agent: the agent, the reference's name.
abbrev pub names_master : World → Specific → Bool
names_master w k = masters w k.access.master (key_of k.pin)

abbrev pub child_of_own : Agent → Key → Bool
child_of_own a pin =
    (is_first_level a && (length pin == 1)) || list_any
    (λ c. list_any (λ e. is_child (key_at e) pin) c.entries) a.contexts

abbrev pub is_right : World → Agent → FileReference → Bool
is_right w a (ToBelow k) = names_master w k && child_of_own a (key_of k.pin)
is_right w a (ToAnywhere k) = names_master w k

abbrev pub false_reference : World → ℕ → Agent → FileReference → List Inconsistency
false_reference w place a r =
    when (not (is_right w a r)) (breach 4 (AgentPrinted place) (NamePrinted (specific_of r).pin))

abbrev pub breaches_4 : World → List Inconsistency
breaches_4 w = flat_map (λ a. flat_map (false_reference w a.0 a.1) (references a.1)) (numbered w)

-- 5. The shadow agents of a reference are distinct consumers of that context: the reference's name, the shadow agent.
abbrev pub false_shadows : World → Specific → List Inconsistency
false_shadows w k =
    unfit ◌==◌ (λ s. s) (λ s. consumes w s (key_of k.pin))
    (λ s. breach 5 (NamePrinted k.pin) (AgentPrinted s)) [] k.access.shadows

abbrev pub breaches_5 : World → List Inconsistency
breaches_5 w = flat_map (λ a. flat_map (λ r. false_shadows w (specific_of r)) (references a.1)) (numbered w)

-- 6. Each pin whose parent is in a context is, at that context's master, mastered too, known by a subordinate
-- reference, or its master stands in the parent's NSSR: that master, the pin. Pin by pin, and for each the masters.
abbrev pub in_nssr : Context → Key → ℕ → Bool
in_nssr c at a = list_any (λ n. same_key (key_of n.at) at && has ◌==◌ n.agents a) c.nssrs

abbrev pub refers_to : Agent → Key → Bool
refers_to a pin = list_any (λ k. same_key (key_of k.pin) pin) a.subordinate

abbrev pub knows : World → Agent → Context → ℕ → Key → Bool
knows w a c place pin =
    masters w place pin || (refers_to a pin || some_and (in_nssr c (parent pin)) (master_of w pin))

abbrev pub unknown_below : World → ℕ → Agent → Context → Mastered → List Inconsistency
unknown_below w place a c p =
    when (is_there c.entries (parent (pin_of p)) && not (knows w a c place (pin_of p)))
    (breach 6 (AgentPrinted place) (NamePrinted p.context.prefix))

abbrev pub breaches_6 : World → List Inconsistency
breaches_6 w =
    flat_map (λ p. flat_map (λ a. flat_map (λ c. unknown_below w a.0 a.1 c p) a.1.contexts) (numbered w)) (mastered w)

-- 7. Each agent of an NSSR stands there once, isn't the context's master, and masters a pin just below the NSSR's
-- entry: the entry, the agent.
abbrev pub masters_below : World → ℕ → Key → Bool
masters_below w a at = list_any (λ p. (p.master == a) && is_child at (pin_of p)) (mastered w)

abbrev pub name_of_nssr : Context → Nssr → Name
name_of_nssr c n = in_option n.at (λ e. e.name) (entry_at c.entries (key_of n.at))

abbrev pub false_members : World → Mastered → Nssr → List Inconsistency
false_members w m n =
    unfit ◌==◌ (λ s. s) (λ s. not (s == m.master) && masters_below w s (key_of n.at))
    (λ s. breach 7 (NamePrinted (name_of_nssr m.context n)) (AgentPrinted s)) [] n.agents

abbrev pub breaches_7 : World → List Inconsistency
breaches_7 w = flat_map (λ m. flat_map (false_members w m) m.context.nssrs) (mastered w)

-- 8. Each first-level agent masters each pin of one RDN or has a subordinate reference to it: the agent, the pin.
abbrev pub unknown_top : World → ℕ → Agent → Mastered → List Inconsistency
unknown_top w place a p =
    when (is_first_level a && ((length (pin_of p) == 1) && not (masters w place (pin_of p) || refers_to a (pin_of p))))
    (breach 8 (AgentPrinted place) (NamePrinted p.context.prefix))

abbrev pub breaches_8 : World → List Inconsistency
breaches_8 w = flat_map (λ a. flat_map (unknown_top w a.0 a.1) (mastered w)) (numbered w)

-- 9. From each agent the chain of superiors ends at a first-level agent within 16 hops: the agent, its superior.
abbrev pub ends_within : World → ℕ → Option ℕ → Bool
ends_within w n None = true
ends_within w zero (Some a) = false
ends_within w (suc n) (Some a) = ends_within w n (superior_of w a)

abbrev pub endless : World → ℕ → ℕ → List Inconsistency
endless w place superior =
    when (not (ends_within w 16 (Some superior))) (breach 9 (AgentPrinted place) (AgentPrinted superior))

abbrev pub breaches_9 : World → List Inconsistency
breaches_9 w = flat_map (λ a. in_option [] (endless w a.0) a.1.superior) (numbered w)

-- 10. An agreement's consumer doesn't master the context and consumes it in this agreement alone; its supplier masters
-- it or consumes it; the suppliers' chain ends at the master within 4 hops: the agreement, the context.
abbrev pub supplied_within : World → ℕ → Key → Option ℕ → Bool
supplied_within w n pin None = false
supplied_within w zero pin (Some a) = false
supplied_within w (suc n) pin (Some a) = masters w a pin || supplied_within w n pin (supplier_of w a pin)

abbrev pub consumed_once : World → Agreement → Bool
consumed_once w g = length (filter (is_consumer g.consumer (key_of g.context)) w.agreements) == 1

abbrev pub is_supplied : World → Agreement → Bool
is_supplied w g =
    not (masters w g.consumer (key_of g.context))
    && (consumed_once w g && supplied_within w 4 (key_of g.context) (Some g.supplier))

abbrev pub breaches_10 : World → List Inconsistency
breaches_10 w =
    flat_map (λ g. when (not (is_supplied w g)) (breach 10 (AgreementPrinted g.number)
    (NamePrinted g.context))) w.agreements

-- the lists by condition, and all breaches in this order; `check` tells the first
abbrev pub by_condition : World → List (List Inconsistency)
by_condition w =
    breaches_1 w ∷ breaches_2 w ∷ breaches_3 w ∷ breaches_4 w ∷ breaches_5 w ∷ breaches_6 w ∷ breaches_7 w
    ∷ breaches_8 w ∷ breaches_9 w ∷ breaches_10 w ∷ []

abbrev pub breaches : World → List Inconsistency
breaches w = flat_map (λ list. list) (by_condition w)

abbrev pub first_breach : World → Option Inconsistency
first_breach w = first_of (breaches w)

pub record IsConsistent (w : World) : Type 0 where
  pub one_master : breaches_1 w ≡ []
  pub parents : breaches_2 w ≡ []
  pub no_longer_pin : breaches_3 w ≡ []
  pub references : breaches_4 w ≡ []
  pub shadows : breaches_5 w ≡ []
  pub known_below : breaches_6 w ≡ []
  pub members : breaches_7 w ≡ []
  pub top_known : breaches_8 w ≡ []
  pub superiors : breaches_9 w ≡ []
  pub supplied : breaches_10 w ≡ []
