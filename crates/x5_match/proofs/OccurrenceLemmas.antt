-- The first occurrence of a part is as good as any: what stands behind it is the most.
use Rattle.std.proofs.Common.{◌≡◌, ℕ, zero, suc, ◌+◌, ◌-◌, ◌≤◌, ◌<◌, Bool, true, false, ◌&&◌, ◌||◌, ◌==◌, if◌then◌else◌, List, [], ◌∷◌, length, take, drop, get_or, add-one, drop-cons, refl, sym, arith, Option, None, Some}
use Rattle.std.specs.List.{list_any, starts_with}
use Rattle.std.proofs.lemmas.Bool.{leb-true, le-leb}
use Rattle.std.specs.Cmp.Derive.{both_true}
use Rattle.std.proofs.Math.Seq.{take-length}
use Rattle.x5_model.specs.Words.{tails, in_option}
use Rattle.x5_model.specs.Truth.{ends_so, in_order}
use Rattle.x5_match.specs.Occurrence.{behind_occurrence}

abbrev stands : List ℕ → List (List ℕ) → Option (List ℕ) → List ℕ → Bool
stands part parts last rest = starts_with ◌==◌ rest part && in_order parts last (drop (length part) rest)

or-right : (a b : Bool) → b ≡ true → (a || b) ≡ true
or-right true b h = refl
or-right false b h = h

and-parts : (a b : Bool) → (a && b) ≡ true → (a ≡ true) × (b ≡ true)
and-parts true b h = (refl, h)
and-parts false b h = absurd (cc)

drop-sooner : (n k b : ℕ) (t : List ℕ) → k ≤ n → drop (suc n - k) (b ∷ t) ≡ drop (n - k) t
drop-sooner n k b t h = let e : suc n - k ≡ suc (n - k) = omega arith in rw e refl

ends-more : (part : List ℕ) (b : ℕ) (t : List ℕ) → ends_so (Some part) t ≡ true → ends_so (Some part) (b ∷ t) ≡ true
ends-more part b t h =
    let both = and-parts _ _ h in
    let le : length part ≤ length t = leb-true (length part) (length t) both.0 in
    both_true (le-leb (length part) (suc (length t)) (omega arith)) (rw (drop-sooner (length t) (length part) b t le) both.1)

-- one more octet in front does no harm
in_order-more : (parts : List (List ℕ)) (last : Option (List ℕ)) (b : ℕ) (t : List ℕ) → in_order parts last t ≡ true → in_order parts last (b ∷ t) ≡ true
in_order-more [] None b t h = h
in_order-more [] (Some part) b t h = ends-more part b t h
in_order-more (p ∷ ps) last b t h = or-right (stands p ps last (b ∷ t)) (list_any (stands p ps last) (tails t)) h

drop-none : (n : ℕ) → drop n [] ≡ let e : List ℕ = [] in e
drop-none zero = refl
drop-none (suc n) = refl

in_order-dropped : (n : ℕ) (parts : List (List ℕ)) (last : Option (List ℕ)) (b : ℕ) (t : List ℕ) → in_order parts last (drop n t) ≡ true → in_order parts last (drop n (b ∷ t)) ≡ true
in_order-dropped zero parts last b t h = in_order-more parts last b t h
in_order-dropped (suc n) parts last b [] h = rw (drop-none n) h
in_order-dropped (suc n) parts last b (c ∷ t) h = in_order-dropped n parts last c t h

from_either : (a b c : Bool) → ((a && b) || c) ≡ true → (c ≡ true → b ≡ true) → b ≡ true
from_either true true c h k = refl
from_either true false c h k = k h
from_either false b c h k = k h

in_order-any : (part : List ℕ) (parts : List (List ℕ)) (last : Option (List ℕ)) (t : List ℕ) → list_any (stands part parts last) (tails t) ≡ true → in_order parts last (drop (length part) t) ≡ true
in_order-any part parts last [] h = from_either (starts_with ◌==◌ [] part) (in_order parts last (drop (length part) [])) false h (λ e. absurd (cc))
in_order-any part parts last (b ∷ t) h =
    from_either (starts_with ◌==◌ (b ∷ t) part) (in_order parts last (drop (length part) (b ∷ t))) (list_any (stands part parts last) (tails t)) h
    (λ e. in_order-dropped (length part) parts last b t (in_order-any part parts last t e))

absorb : (x c : Bool) → (c ≡ true → x ≡ true) → (x || c) ≡ x
absorb true c k = refl
absorb false true k = sym (k refl)
absorb false false k = refl

pick : (s : Bool) (f : List ℕ → Bool) (r : List ℕ) (o : Option (List ℕ)) (c : Bool) → c ≡ in_option false f o → (c ≡ true → f r ≡ true) → ((s && f r) || c) ≡ in_option false f (if s then Some r else o)
pick true f r o c e k = absorb (f r) c k
pick false f r o c e k = e

pub in_order-behind : (part : List ℕ) (parts : List (List ℕ)) (last : Option (List ℕ)) (t : List ℕ) → in_order (part ∷ parts) last t ≡ in_option false (in_order parts last) (behind_occurrence part t)
in_order-behind part parts last [] = pick (starts_with ◌==◌ [] part) (in_order parts last) (drop (length part) []) None false refl (λ e. absurd (cc))
in_order-behind part parts last (b ∷ t) =
    pick (starts_with ◌==◌ (b ∷ t) part) (in_order parts last) (drop (length part) (b ∷ t)) (behind_occurrence part t) (list_any (stands part parts last) (tails t))
    (in_order-behind part parts last t)
    (λ e. in_order-dropped (length part) parts last b t (in_order-any part parts last t e))

pub occurrence-here : (part t : List ℕ) → starts_with ◌==◌ t part ≡ true → behind_occurrence part t ≡ Some (drop (length part) t)
occurrence-here part [] h = rw h refl
occurrence-here part (b ∷ t) h = rw h refl

pub occurrence-none : (part t : List ℕ) → starts_with ◌==◌ t part ≡ false → length t ≤ 0 → behind_occurrence part t ≡ None
occurrence-none part [] h e = rw h refl
occurrence-none part (b ∷ t) h e = absurd (omega arith)

pub occurrence-later : (part t : List ℕ) → starts_with ◌==◌ t part ≡ false → 1 ≤ length t → behind_occurrence part (take (length t - 1) (drop 1 t)) ≡ behind_occurrence part t
occurrence-later part [] h e = absurd (omega arith)
occurrence-later part (b ∷ t) h e = let k : length (b ∷ t) - 1 ≡ length t = omega arith in rw (k, take-length t, h) refl

pub in_order-found : (parts : List (List ℕ)) (i : ℕ) (part : List ℕ) (last : Option (List ℕ)) (t rest : List ℕ) → i < length parts → part ≡ get_or parts i part → Some rest ≡ behind_occurrence part t → in_order (drop (i + 1) parts) last rest ≡ in_order (drop i parts) last t
in_order-found parts i part last t rest h e b = rw (drop-cons parts i part h, ← e, in_order-behind part (drop (suc i) parts) last t, ← b, add-one) refl

pub in_order-missing : (parts : List (List ℕ)) (i : ℕ) (part : List ℕ) (last : Option (List ℕ)) (t : List ℕ) → i < length parts → part ≡ get_or parts i part → None ≡ behind_occurrence part t → false ≡ in_order (drop i parts) last t
in_order-missing parts i part last t h e b = rw (drop-cons parts i part h, ← e, in_order-behind part (drop (suc i) parts) last t, ← b) refl
