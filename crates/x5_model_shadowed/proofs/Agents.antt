-- An agent's name stands among the names, and at its place alone.
use Rattle.std.proofs.Common.{◌≡◌, ℕ, zero, suc, ◌<◌, ◌⊎◌, inl, inr, true, not, List, [], ◌∷◌, length, refl, sym, ap, subst, ◌∙◌, arith}
use Rattle.std.specs.Cmp.Lexicographic.{bytes_decides}
use Rattle.x5_model.specs.Members.{In, here, there}
use Rattle.x5_model.specs.Values.{Text}
use Rattle.x5_model.specs.Words.{distinct, has, same_octets}
use Rattle.x5_model.proofs.Lists.{both_true, has_in, not_true, of_all}
use Rattle.x5_model_typed.specs.Leaves.{is_agent_name}
use Rattle.x5_model_shadowed.specs.Agents.{name_at, AgentIsItself, AgentIsWithin}

named_in : (names : List Text) (a : ℕ) → a < length names → In (name_at names a) names
named_in [] a h = absurd (omega (arith, h))
named_in (n ∷ ns) zero h = here
named_in (n ∷ ns) (suc a) h = there (named_in ns a (omega (arith, h)))

pub agent_is_within : AgentIsWithin
agent_is_within w names a are h =
    let i = named_in names a h in
    record { named = of_all is_agent_name (name_at names a) names are.named i; of_world = are.of_world (name_at names a) i }

-- a name at a place is among the names, or there is none
there_or_none : (names : List Text) (b : ℕ) → (name_at names b ≡ []) ⊎ In (name_at names b) names
there_or_none [] b = inl refl
there_or_none (n ∷ ns) zero = inr here
there_or_none (n ∷ ns) (suc b) = elim (there_or_none ns b) [ inl e ↦ inl e | inr i ↦ inr (there i) ]

nobody : (t : Text) → is_agent_name t ≡ true → t ≡ [] → ⊥
nobody t h e = let no : is_agent_name [] ≡ true = subst (λ (x : Text). is_agent_name x ≡ true) e h in cc no

not_again : (n : Text) (ns : List Text) → distinct same_octets (n ∷ ns) ≡ true → In n ns → ⊥
not_again n ns d i =
    let no = not_true (has same_octets ns n) (both_true (not (has same_octets ns n)) (distinct same_octets ns) d).0 in
    let yes = has_in same_octets bytes_decides n ns i in
    cc (no, yes)

same_place : (names : List Text) (a b : ℕ) → distinct same_octets names ≡ true → a < length names
    → is_agent_name (name_at names a) ≡ true → name_at names b ≡ name_at names a → b ≡ a
same_place [] a b d h plain e = absurd (omega (arith, h))
same_place (n ∷ ns) zero zero d h plain e = refl
same_place (n ∷ ns) (suc a) (suc b) d h plain e =
    ap suc (same_place ns a b (both_true (not (has same_octets ns n)) (distinct same_octets ns) d).1 (omega (arith, h)) plain e)
same_place (n ∷ ns) zero (suc b) d h plain e =
    elim (there_or_none ns b) [
      | inl none ↦ absurd (nobody n plain (sym e ∙ none))
      | inr i ↦ absurd (not_again n ns d (subst (λ (t : Text). In t ns) e i))
    ]
same_place (n ∷ ns) (suc a) zero d h plain e =
    absurd (not_again n ns d (subst (λ (t : Text). In t ns) (sym e) (named_in ns a (omega (arith, h)))))

pub agent_is_itself : AgentIsItself
agent_is_itself w names a b are h e =
    same_place names a b are.once h (of_all is_agent_name (name_at names a) names are.named (named_in names a h)) e
