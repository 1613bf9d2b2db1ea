-- Contexts that are taken one by one, each where no key before is its prefix's: no two have one prefix.
use Rattle.std.proofs.Common.{◌≡◌, Bool, true, false, cond, ◌||◌, List, [], ◌∷◌, ◌++◌, map, refl, sym, ap, ◌∙◌}
use Rattle.std.proofs.lemmas.List.{map-append}
use Rattle.std.proofs.lemmas.List.Folds.{list_any-append}
use Rattle.std.specs.List.{list_any}
use Rattle.x5_model.specs.Members.{In}
use Rattle.x5_model.specs.Words.{distinct}
use Rattle.x5_model.specs.Keys.{Key, same_key}
use Rattle.x5_model.specs.Values.{key_of}
use Rattle.x5_model.proofs.KeyLaws.{key_decides}
use Rattle.x5_model.proofs.Lists.{any_in}
use Rattle.x5_model.proofs.Decide.{once_decides}
use Rattle.x5_dse.proofs.Members.{once_push}
use Rattle.x5_holdings.specs.State.{Kept, are_apart}
use Rattle.x5_agents.proofs.Firsts.{same_both}

abbrev prefixes : List Kept → List Key
prefixes own = map (λ (c : Kept). key_of c.prefix) own

-- the keys are those of the prefixes, no two of which are one
pub record AreApart (own : List Kept) (keys : List Key) : Type 0 where
  pub apart : are_apart own ≡ true
  pub known : (q : Key) → list_any (same_key q) keys ≡ list_any (same_key q) (prefixes own)

pub none_yet : AreApart [] []
none_yet = record { apart = refl; known = λ q. refl }

pub still_apart : (own : List Kept) (keys : List Key) (now : List Kept) (after : List Key) → now ≡ own → after ≡ keys
    → AreApart own keys → AreApart now after
still_apart own keys now after n k a = record {
  apart = ap are_apart n ∙ a.apart;
  known = λ q. ap (list_any (same_key q)) k ∙ a.known q ∙ ap (λ (l : List Kept). list_any (same_key q) (prefixes l)) (sym n);
}

pub one_apart : (own : List Kept) (keys : List Key) (now : List Kept) (after : List Key) (x : Kept) (k : Key) → key_of x.prefix ≡ k
    → list_any (same_key k) keys ≡ false → ((q : Key) → list_any (same_key q) after ≡ cond (same_key k q) true (list_any (same_key q) keys))
    → now ≡ own ++ x ∷ [] → AreApart own keys → AreApart now after
one_apart own keys now after x k is fresh more n a = record { apart = apart_now; known = keys_now }
  where
    pushed : prefixes now ≡ prefixes own ++ k ∷ []
    pushed = ap prefixes n ∙ map-append (λ (c : Kept). key_of c.prefix) own (x ∷ []) ∙ ap (λ (z : Key). prefixes own ++ z ∷ []) is

    absent : In k (prefixes own) → ⊥
    absent i =
        let t : list_any (same_key k) (prefixes own) ≡ true = any_in (same_key k) k (prefixes own) i ((key_decides k k).1 refl) in
        let f : list_any (same_key k) (prefixes own) ≡ false = sym (a.known k) ∙ fresh in
        cc

    apart_now : are_apart now ≡ true
    apart_now =
        ap (distinct same_key) pushed
        ∙ (once_decides same_key key_decides (prefixes own ++ k ∷ [])).1
        (once_push k (prefixes own) ((once_decides same_key key_decides (prefixes own)).0 a.apart) absent)

    turned : (b c : Bool) → cond b true c ≡ (c || (b || false))
    turned true true = refl
    turned true false = refl
    turned false true = refl
    turned false false = refl

    keys_now : (q : Key) → list_any (same_key q) after ≡ list_any (same_key q) (prefixes now)
    keys_now q =
        more q ∙ turned (same_key k q) (list_any (same_key q) keys)
        ∙ (λ i. a.known q i || (same_both k q i || false))
        ∙ sym (list_any-append (same_key q) (prefixes own) (k ∷ []))
        ∙ ap (list_any (same_key q)) (sym pushed)
