-- Names that are spelled partly as an agent keeps them, and names on the way to others, are within the limits.
use Rattle.std.proofs.Common.{◌≡◌, ℕ, ◌-◌, ◌<◌, ◌≤◌, nat_lt, Bool, true, false, List, [], ◌∷◌, ◌++◌, length, take, drop, refl, sym, arith, ◌∙◌, length-append, length-take, length-drop}
use Rattle.std.proofs.lemmas.Bool.{ltb-true, ltb-false}
use Rattle.x5_model.specs.Words.{is_empty}
use Rattle.x5_model.specs.Members.{In, here, there}
use Rattle.x5_model.specs.Keys.{IsPrefix}
use Rattle.x5_model.specs.Values.{Rdn, Name, key_of, name_above, last_rdn}
use Rattle.x5_model.specs.Normal.{most_rdns}
use Rattle.x5_model.specs.References.{RefType}
use Rattle.x5_model.proofs.KeyLaws.{key_decides}
use Rattle.x5_model.proofs.Prefixes.{prefix_itself, prefix_length, same_by_length}
use Rattle.x5_model_run.specs.Journal.{same_name}
use Rattle.x5_model_run.specs.Needs.{proceeding}
use Rattle.x5_model_theory.proofs.Stages.{key_length}
use Rattle.x5_model_theory.proofs.Tests.{false_true}
use Rattle.x5_model_fitting.specs.Names.{RdnWithin, NameWithin}
use Rattle.x5_model_fitting.proofs.Kept.{beginning_within, longer_name_within}
use Rattle.x5_model_limits.specs.Messages.{BoundedReference}
use Rattle.x5_model_limits.proofs.Lists.{in_end, each_none, each_both}

pub root_within : NameWithin []
root_within = record { few = omega arith; rdns = each_none RdnWithin }

-- a name with another's end
pub respelled_within : (k : ℕ) (kept name : Name) → k < most_rdns → NameWithin kept → NameWithin name
    → NameWithin (take k kept ++ drop k name)
respelled_within k kept name less p q =
    let few : length name ≤ most_rdns = q.few in
    record {
      few = omega (arith, less, few, length-append (take k kept) (drop k name), length-take k kept, length-drop k name);
      rdns = each_both RdnWithin (take k kept) (drop k name) (beginning_within k kept p).rdns
          (λ r i. q.rdns r (in_end k r name i));
    }

-- a reference by which a name goes on
pub proceeding_bounded : (k : ℕ) (kept name : Name) (kind : RefType) (agents : List ℕ) → 1 ≤ k → k ≤ most_rdns
    → NameWithin kept → NameWithin name → BoundedReference (proceeding k kept name kind agents)
proceeding_bounded k kept name kind agents low high p q = record {
  target = respelled_within (k - 1) kept name (omega (arith, low, high)) p q;
  progress = (low, high);
  exclusions = each_none RdnWithin;
}

pub some_rdn : (n : Name) → is_empty n ≡ false → 0 < length n
some_rdn [] e = cc
some_rdn (r ∷ n) e = omega arith

-- the last RDN of a name that isn't the root's is one of its RDNs
last_in : (n : Name) → 0 < length n → In (last_rdn n) n
last_in [] l = absurd (omega (arith, l))
last_in (r ∷ []) l = here
last_in (r ∷ s ∷ n) l = there (last_in (s ∷ n) (omega arith))

pub last_within : (n : Name) → 0 < length n → NameWithin n → RdnWithin (last_rdn n)
last_within n l w = w.rdns (last_rdn n) (last_in n l)

-- the name of what would stand beside another
pub beside_within : (n : Name) (rdn : Rdn) → NameWithin n → RdnWithin rdn → NameWithin (name_above n ++ rdn ∷ [])
beside_within n rdn w r =
    let few : length n ≤ most_rdns = w.few in
    longer_name_within (name_above n) rdn (beginning_within (length n - 1) n w) r
    (omega (arith, few, length-take (length n - 1) n))

-- what is on the way to a name, and not that name, is shorter
pub shorter_on_way : (e n : Name) → IsPrefix (key_of e) (key_of n) → same_name e n ≡ false → length e < length n
shorter_on_way e n on other = by (nat_lt (length e) (length n)) refl
  where
    by : (b : Bool) → nat_lt (length e) (length n) ≡ b → length e < length n
    by true q = ltb-true (length e) (length n) q
    by false q =
        let k : length n ≤ length e = ltb-false (length e) (length n) q in
        let l : length (key_of e) ≡ length e = key_length e in
        let m : length (key_of n) ≡ length n = key_length n in
        let up : length (key_of e) ≤ length (key_of n) = prefix_length (key_of e) (key_of n) on in
        let same : key_of e ≡ key_of n =
        same_by_length (key_of e) (key_of n) (key_of n) on (prefix_itself (key_of n)) (omega arith) in
        absurd (false_true (sym other ∙ (key_decides (key_of e) (key_of n)).1 same))
