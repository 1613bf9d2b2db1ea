-- Which breach is the first: the one that `check` tells. It's of the first condition that fails, and there of the first
-- place in the file; which two values are told of it stands here in words of its own, apart from the lists of breaches.
use Rattle.std.specs.Prelude.{◌≡◌, ℕ, ⊤, ◌⊎◌, List, ◌∷◌, ◌++◌, map}
use Rattle.std.specs.declared.option.Option.TheVariants.{Some}
use Rattle.x5_model.specs.Members.{In, Once}
use Rattle.x5_model.specs.Values.{key_of, name_above}
use Rattle.x5_model.specs.Entries.{Named}
use Rattle.x5_model_tree.specs.World.{Specific, Nssr, Context, Agent, Agreement, World}
use Rattle.x5_model_tree.specs.Masters.{Mastered, pin_of, numbered, mastered}
use Rattle.x5_model_tree.specs.Consistent.{AgentPrinted, NamePrinted, AgreementPrinted, Inconsistency, breach}
use Rattle.x5_model_tree.specs.Consistent.{FileReference, specific_of, references, name_of_nssr}
use Rattle.x5_model_tree.specs.Conditions.{Consumes, OneMaster, ParentThere, ParentsThere, NotLonger, NoLongerPin}
use Rattle.x5_model_tree.specs.Conditions.{ReferenceRight, ReferencesRight, ShadowsOf, ShadowsConsume, KnowsBelow}
use Rattle.x5_model_tree.specs.Conditions.{KnownBelow, MemberMasters, MembersOf, MembersMaster, KnowsTop, TopKnown}
use Rattle.x5_model_tree.specs.Conditions.{SuperiorsEndOf, SuperiorsEnd, AgreementSupplies}

abbrev pub Each : {A : Type 0} → List A → (A → Type 0) → Type 0
Each {A} xs Holds = (x : A) → In x xs → Holds x

-- the first member of a list of which something doesn't hold, and what is told there
pub record FirstOf {A : Type 0} (Holds : A → Type 0) (Told : A → Type 0) (xs : List A) : Type 0 where
  pub before : List A
  pub at : A
  pub behind : List A
  pub stands : xs ≡ before ++ at ∷ behind
  pub earlier : Each before Holds
  pub told : Told at

-- the first member that comes a second time, by its key, or isn't fit
pub record FirstUnfit {A K : Type 0} (key : A → K) (Fit : A → Type 0) (Told : A → Type 0) (xs : List A) : Type 0 where
  pub before : List A
  pub at : A
  pub behind : List A
  pub stands : xs ≡ before ++ at ∷ behind
  pub once : Once (map key before)
  pub fit : Each before Fit
  pub unfit : In (key at) (map key before) ⊎ ¬ (Fit at)
  pub told : Told at

-- 1. The first context, in the order of the agents and of each one's contexts, whose prefix an earlier one has: the
-- prefix as it's spelled there, and the agent.
abbrev pub First1 : World → Inconsistency → Type 0
First1 w b =
    FirstUnfit pin_of (λ m. ⊤) (λ m. b ≡ breach 1 (NamePrinted m.context.prefix) (AgentPrinted m.master)) (mastered w)

-- 2. The first context whose prefix has no parent: the prefix, and the name above it.
abbrev pub First2 : World → Inconsistency → Type 0
First2 w b =
    FirstOf (ParentThere w)
    (λ m. ¬ (ParentThere w m) × (b ≡ breach 2 (NamePrinted m.context.prefix)
    (NamePrinted (name_above m.context.prefix))))
    (mastered w)

-- 3. The first context that has an entry with a longer pin, the first such entry of it, and the first such pin: the
-- entry's name and the pin.
abbrev pub First3 : World → Inconsistency → Type 0
First3 w b =
    FirstOf (λ m. Each m.context.entries (λ e. Each (mastered w) (NotLonger m e)))
    (λ m. FirstOf (λ e. Each (mastered w) (NotLonger m e))
    (λ e. FirstOf (NotLonger m e)
    (λ p. ¬ (NotLonger m e p) × (b ≡ breach 3 (NamePrinted e.name) (NamePrinted p.context.prefix)))
    (mastered w)) m.context.entries) (mastered w)

-- 4. The first agent with a false reference, and the first such reference of it, of either kind: the agent, and the
-- name that the reference gives.
abbrev pub First4 : World → Inconsistency → Type 0
First4 w b =
    FirstOf (λ a. Each (references a.1) (ReferenceRight w a.1))
    (λ a. FirstOf (ReferenceRight w a.1)
    (λ r. ¬ (ReferenceRight w a.1 r) × (b ≡ breach 4 (AgentPrinted a.0) (NamePrinted (specific_of r).pin)))
    (references a.1)) (numbered w)

-- 5. The first agent with a reference that has a false shadow agent, the first such reference of it, of either kind,
-- and the first of its shadow agents that stood there before or isn't a consumer: the reference's name, and that shadow
-- agent.
abbrev pub First5 : World → Inconsistency → Type 0
First5 w b =
    FirstOf (λ a. Each (references a.1) (λ r. ShadowsOf w (specific_of r)))
    (λ a. FirstOf (λ r. ShadowsOf w (specific_of r))
    (λ r. FirstUnfit (λ s. s) (λ s. Consumes w s (key_of (specific_of r).pin))
    (λ s. b ≡ breach 5 (NamePrinted (specific_of r).pin) (AgentPrinted s))
    (specific_of r).access.shadows) (references a.1)) (numbered w)

-- 6. The first pin that some master of its parent's context lacks, and the first such master, by the order of the
-- agents: that master, and the pin.
abbrev pub First6 : World → Inconsistency → Type 0
First6 w b =
    FirstOf (λ p. Each (numbered w) (λ a. Each a.1.contexts (λ c. KnowsBelow w a c p)))
    (λ p. FirstOf (λ a. Each a.1.contexts (λ c. KnowsBelow w a c p))
    (λ a. FirstOf (λ c. KnowsBelow w a c p)
    (λ c. ¬ (KnowsBelow w a c p) × (b ≡ breach 6 (AgentPrinted a.0) (NamePrinted p.context.prefix)))
    a.1.contexts) (numbered w)) (mastered w)

-- 7. The first context with a false NSSR, the first such NSSR of it, and the first of its agents that stood there
-- before, is the context's master or masters nothing just below: the entry's name as the context has it, and that
-- agent.
abbrev pub First7 : World → Inconsistency → Type 0
First7 w b =
    FirstOf (λ m. Each m.context.nssrs (MembersOf w m))
    (λ m. FirstOf (MembersOf w m)
    (λ n. FirstUnfit (λ s. s) (MemberMasters w m n)
    (λ s. b ≡ breach 7 (NamePrinted (name_of_nssr m.context n)) (AgentPrinted s))
    n.agents) m.context.nssrs) (mastered w)

-- 8. The first first-level agent that doesn't know a pin of one RDN, and the first such pin: the agent, and the pin.
abbrev pub First8 : World → Inconsistency → Type 0
First8 w b =
    FirstOf (λ a. Each (mastered w) (KnowsTop w a))
    (λ a. FirstOf (KnowsTop w a)
    (λ p. ¬ (KnowsTop w a p) × (b ≡ breach 8 (AgentPrinted a.0) (NamePrinted p.context.prefix)))
    (mastered w)) (numbered w)

-- 9. The first agent whose superiors don't end: the agent, and its superior.
abbrev pub First9 : World → Inconsistency → Type 0
First9 w b =
    FirstOf (SuperiorsEndOf w)
    (λ a. ¬ (SuperiorsEndOf w a) × ((s : ℕ) × (a.1.superior ≡ Some s)
    × (b ≡ breach 9 (AgentPrinted a.0) (AgentPrinted s))))
    (numbered w)

-- 10. The first agreement that is false: its number, and its context.
abbrev pub First10 : World → Inconsistency → Type 0
First10 w b =
    FirstOf (AgreementSupplies w)
    (λ g. ¬ (AgreementSupplies w g) × (b ≡ breach 10 (AgreementPrinted g.number) (NamePrinted g.context)))
    w.agreements

-- the first breach of this condition; or the condition holds, and it's that of a later one
abbrev pub OrLater : Type 0 → Type 0 → Type 0 → Type 0
OrLater First Holds Later = First ⊎ (Holds × Later)

abbrev pub IsFirstBreach : World → Inconsistency → Type 0
IsFirstBreach w b =
    OrLater (First1 w b) (OneMaster w)
    (OrLater (First2 w b) (ParentsThere w)
    (OrLater (First3 w b) (NoLongerPin w)
    (OrLater (First4 w b) (ReferencesRight w)
    (OrLater (First5 w b) (ShadowsConsume w)
    (OrLater (First6 w b) (KnownBelow w)
    (OrLater (First7 w b) (MembersMaster w)
    (OrLater (First8 w b) (TopKnown w)
    (OrLater (First9 w b) (SuperiorsEnd w) (First10 w b)))))))))
