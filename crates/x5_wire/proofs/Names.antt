-- Names that agents may have are those that messages have room for; and whoever stands among the agents of a network has
-- such a name where all of these have.
use Rattle.std.proofs.Common.{◌≡◌, ℕ, ◌+◌, ◌<◌, nat_lt, nat_le, Bool, true, false, not, List, [], ◌∷◌, length, refl, sym, subst, ◌∙◌, arith, codes}
use Rattle.std.specs.List.{list_all}
use Rattle.std.specs.Cmp.Lexicographic.{bytes_decides}
use Rattle.x5_model.specs.Members.{In, here, there}
use Rattle.x5_model.specs.Words.{same_octets}
use Rattle.x5_model.proofs.Decide.{less_decides}
use Rattle.x5_model.proofs.Lists.{both_true, and_true, of_all}
use Rattle.x5_model_tree.specs.Described as described
use Rattle.x5_model_typed.specs.Leaves as leaves
use Rattle.x5_ops.specs.AgentNames.{agent_of}

-- ---- what a name is made of

begins_same : (t : List ℕ) → described.begins_with_letter t ≡ leaves.begins_with_letter t
begins_same [] = refl
begins_same (b ∷ bs) = refl

pub agent_named : (t : List ℕ) → described.is_agent_name t ≡ true → leaves.is_agent_name t ≡ true
agent_named t h =
    let short = both_true (nat_le (length t) 32) _ h in
    let first = both_true (described.begins_with_letter t) _ short.1 in
    let rest = both_true (list_all described.is_name_octet t) _ first.1 in
    and_true _ (not (same_octets t (codes "user")))
    (and_true _ (nat_le (length t) 32)
    (and_true (leaves.begins_with_letter t) (list_all leaves.may_stand_in_agent t) (sym (begins_same t) ∙ first.0) rest.0)
    short.0)
    rest.1

pub name_described : (t : List ℕ) → leaves.is_agent_name t ≡ true → described.is_agent_name t ≡ true
name_described t h =
    let last = both_true _ (not (same_octets t (codes "user"))) h in
    let short = both_true _ (nat_le (length t) 32) last.0 in
    let first = both_true (leaves.begins_with_letter t) (list_all leaves.may_stand_in_agent t) short.0 in
    and_true (nat_le (length t) 32) _ short.1
    (and_true (described.begins_with_letter t) _ (begins_same t ∙ first.0)
    (and_true (list_all described.is_name_octet t) _ first.1 last.1))

-- ---- whose it is

behind_first : (n : List ℕ) (ns : List (List ℕ)) (a : List ℕ) → same_octets n a ≡ false
    → agent_of (n ∷ ns) a ≡ 1 + agent_of ns a
behind_first n ns a e = rw e refl

named_there : (names : List (List ℕ)) (a : List ℕ) → agent_of names a < length names → In a names
named_there [] a h = absurd (omega (arith, h))
named_there (n ∷ ns) a h = by (same_octets n a) refl (named_there ns a)
  where
    by : (b : Bool) → same_octets n a ≡ b → (agent_of ns a < length ns → In a ns) → In a (n ∷ ns)
    by true e rest = subst (λ (x : List ℕ). In x (n ∷ ns)) ((bytes_decides n a).0 e) here
    by false e rest = let behind = behind_first n ns a e in there (rest (omega (arith, h, behind)))

pub plain_of : (names : List (List ℕ)) (a : List ℕ) → list_all described.is_agent_name names ≡ true
    → nat_lt (agent_of names a) (length names) ≡ true → leaves.is_agent_name a ≡ true
plain_of names a plain h =
    agent_named a
    (of_all described.is_agent_name a names plain
    (named_there names a ((less_decides (agent_of names a) (length names)).0 h)))
