-- The ten conditions as plain statements about members and keys, apart from the lists of their breaches. `proofs/Exact`
-- shows that the list of breaches of each is empty exactly where its statement holds.
use Rattle.std.specs.Prelude.{◌≡◌, ℕ, zero, suc, ◌<◌, ◌≤◌, ◌⊎◌, List, ◌++◌, length}
use Rattle.std.specs.List.{filter}
use Rattle.std.specs.declared.option.Option.{Option}
use Rattle.std.specs.declared.option.Option.TheVariants.{None, Some}
use Rattle.x5_model.specs.Members.{In, Once}
use Rattle.x5_model.specs.Keys.{Key, IsPrefix, parent}
use Rattle.x5_model.specs.Values.{key_of}
use Rattle.x5_model.specs.Entries.{Named}
use Rattle.x5_model_tree.specs.World.{Specific, Nssr, Context, Agent, Agreement, World}
use Rattle.x5_model_tree.specs.Tree.{key_at}
use Rattle.x5_model_tree.specs.Masters.{Mastered, pin_of, numbered, mastered, pins, master_of, is_consumer, superior_of}
use Rattle.x5_model_tree.specs.Masters.{supplier_of, all_entries}
use Rattle.x5_model_tree.specs.Consistent.{FileReference, ToBelow, ToAnywhere, specific_of}

-- a is the master of a context with this pin; a consumes it by some agreement
abbrev pub Masters : World → ℕ → Key → Type 0
Masters w a pin = (m : Mastered) × In m (mastered w) × ((m.master ≡ a) × (pin_of m ≡ pin))

abbrev pub IsBy : ℕ → Key → Agreement → Type 0
IsBy a pin g = (g.consumer ≡ a) × (key_of g.context ≡ pin)

abbrev pub Consumes : World → ℕ → Key → Type 0
Consumes w a pin = (g : Agreement) × In g w.agreements × IsBy a pin g

-- just below
abbrev pub IsChild : Key → Key → Type 0
IsChild above key = (0 < length key) × (parent key ≡ above)

-- an entry of this list has the key
abbrev pub Has : List Named → Key → Type 0
Has entries key = (e : Named) × In e entries × (key_at e ≡ key)

-- a subordinate reference of the agent names the pin
abbrev pub Refers : Agent → Key → Type 0
Refers a pin = (k : Specific) × In k a.subordinate × (key_of k.pin ≡ pin)

-- 1. No prefix is mastered twice.
abbrev pub OneMaster : World → Type 0
OneMaster w = Once (pins w)

-- 2. Each pin's parent is the root or an entry.
abbrev pub ParentThere : World → Mastered → Type 0
ParentThere w m = (length (parent (pin_of m)) ≡ 0) ⊎ Has (all_entries w) (parent (pin_of m))

abbrev pub ParentsThere : World → Type 0
ParentsThere w = (m : Mastered) → In m (mastered w) → ParentThere w m

-- 3. No entry has among its prefixes a pin longer than its own context's prefix.
abbrev pub NotLonger : Mastered → Named → Mastered → Type 0
NotLonger m e p = IsPrefix (pin_of p) (key_at e) → length (pin_of p) ≤ length (pin_of m)

abbrev pub NoLongerPin : World → Type 0
NoLongerPin w =
    (m : Mastered) → In m (mastered w) → (e : Named) → In e m.context.entries → (p : Mastered) → In p (mastered w) →
    NotLonger m e p

-- 4. Each subordinate or cross reference names a pin and its master; a subordinate one names a child of an entry that
-- the agent masters, or of the root at a first-level agent.
abbrev pub NamesMaster : World → Specific → Type 0
NamesMaster w k = Masters w k.access.master (key_of k.pin)

abbrev pub ChildOfOwn : Agent → Key → Type 0
ChildOfOwn a pin =
    ((a.superior ≡ None) × (length pin ≡ 1)) ⊎ ((c : Context) × In c a.contexts
    × ((e : Named) × In e c.entries × IsChild (key_at e) pin))

abbrev pub ReferenceRight : World → Agent → FileReference → Type 0
ReferenceRight w a (ToBelow k) = NamesMaster w k × ChildOfOwn a (key_of k.pin)
ReferenceRight w a (ToAnywhere k) = NamesMaster w k

abbrev pub ReferencesRight : World → Type 0
ReferencesRight w =
    (a : ℕ × Agent) → In a (numbered w)
    → ((k : Specific) → In k a.1.subordinate → NamesMaster w k × ChildOfOwn a.1 (key_of k.pin))
    × ((k : Specific) → In k a.1.cross → NamesMaster w k)

-- 5. The shadow agents of a reference are distinct consumers of that context.
abbrev pub ShadowsOf : World → Specific → Type 0
ShadowsOf w k = Once k.access.shadows × ((s : ℕ) → In s k.access.shadows → Consumes w s (key_of k.pin))

abbrev pub ShadowsConsume : World → Type 0
ShadowsConsume w =
    (a : ℕ × Agent) → In a (numbered w) → (k : Specific) → In k (a.1.subordinate ++ a.1.cross) → ShadowsOf w k

-- 6. Each pin whose parent is in a context is, at that context's master, mastered too, known by a subordinate
-- reference, or its master stands in the parent's NSSR.
abbrev pub InNssr : World → Context → Key → Type 0
InNssr w c pin =
    (m : ℕ) × (master_of w pin ≡ Some m) × ((n : Nssr) × In n c.nssrs × ((key_of n.at ≡ parent pin) × In m n.agents))

abbrev pub KnowsBelow : World → ℕ × Agent → Context → Mastered → Type 0
KnowsBelow w a c p =
    Has c.entries (parent (pin_of p)) → Masters w a.0 (pin_of p) ⊎ (Refers a.1 (pin_of p) ⊎ InNssr w c (pin_of p))

abbrev pub KnownBelow : World → Type 0
KnownBelow w =
    (a : ℕ × Agent) → In a (numbered w) → (c : Context) → In c a.1.contexts → (p : Mastered) → In p (mastered w) →
    KnowsBelow w a c p

-- 7. Each agent of an NSSR stands there once, isn't the context's master, and masters a pin just below the NSSR's
-- entry.
abbrev pub MastersBelow : World → ℕ → Key → Type 0
MastersBelow w a at = (p : Mastered) × In p (mastered w) × ((p.master ≡ a) × IsChild at (pin_of p))

abbrev pub MemberMasters : World → Mastered → Nssr → ℕ → Type 0
MemberMasters w m n s = ¬ (s ≡ m.master) × MastersBelow w s (key_of n.at)

abbrev pub MembersOf : World → Mastered → Nssr → Type 0
MembersOf w m n = Once n.agents × ((s : ℕ) → In s n.agents → MemberMasters w m n s)

abbrev pub MembersMaster : World → Type 0
MembersMaster w = (m : Mastered) → In m (mastered w) → (n : Nssr) → In n m.context.nssrs → MembersOf w m n

-- 8. Each first-level agent masters each pin of one RDN or has a subordinate reference to it.
abbrev pub KnowsTop : World → ℕ × Agent → Mastered → Type 0
KnowsTop w a p = a.1.superior ≡ None → length (pin_of p) ≡ 1 → Masters w a.0 (pin_of p) ⊎ Refers a.1 (pin_of p)

abbrev pub TopKnown : World → Type 0
TopKnown w = (a : ℕ × Agent) → In a (numbered w) → (p : Mastered) → In p (mastered w) → KnowsTop w a p

-- 9. From each agent the chain of superiors ends at a first-level agent within 16 hops: where some number of hops from
-- its superior on, 16 at most, leads beyond the last agent.
abbrev pub after : (ℕ → Option ℕ) → ℕ → Option ℕ → Option ℕ
after next zero a = a
after next (suc n) None = None
after next (suc n) (Some a) = after next n (next a)

abbrev pub EndsWithin : (ℕ → Option ℕ) → ℕ → Option ℕ → Type 0
EndsWithin next n a = (k : ℕ) × ((k ≤ n) × (after next k a ≡ None))

abbrev pub SuperiorsEndOf : World → ℕ × Agent → Type 0
SuperiorsEndOf w a = EndsWithin (superior_of w) 16 a.1.superior

abbrev pub SuperiorsEnd : World → Type 0
SuperiorsEnd w = (a : ℕ × Agent) → In a (numbered w) → SuperiorsEndOf w a

-- 10. An agreement's consumer doesn't master the context and consumes it in this agreement alone; its supplier masters
-- it or consumes it; the suppliers' chain ends at the master within 4 hops: fewer than 4 hops from the first supplier
-- on lead to it.
abbrev pub SuppliedWithin : World → Key → ℕ → Option ℕ → Type 0
SuppliedWithin w pin n a =
    (k : ℕ) × ((k < n) × ((s : ℕ) × ((after (λ b. supplier_of w b pin) k a ≡ Some s) × Masters w s pin)))

abbrev pub AgreementSupplies : World → Agreement → Type 0
AgreementSupplies w g =
    ¬ (Masters w g.consumer (key_of g.context))
    × ((length (filter (is_consumer g.consumer (key_of g.context)) w.agreements) ≡ 1)
    × SuppliedWithin w (key_of g.context) 4 (Some g.supplier))

abbrev pub AgreementsSupply : World → Type 0
AgreementsSupply w = (g : Agreement) → In g w.agreements → AgreementSupplies w g

-- all ten
pub record Conditions (w : World) : Type 0 where
  pub one_master : OneMaster w
  pub parents : ParentsThere w
  pub no_longer_pin : NoLongerPin w
  pub references : ReferencesRight w
  pub shadows : ShadowsConsume w
  pub known_below : KnownBelow w
  pub members : MembersMaster w
  pub top_known : TopKnown w
  pub superiors : SuperiorsEnd w
  pub supplied : AgreementsSupply w
