-- What stands at a number: a context that is mastered, a copy, or nothing past the last.
use Rattle.std.proofs.Common.{◌≡◌, ℕ, ◌+◌, ◌-◌, ◌<◌, ◌≤◌, nat_lt, Bool, true, false, cond, ◌&&◌, ◌||◌, List, [], ◌∷◌, length, map, refl, sym, ap, subst, ◌∙◌, arith, Option, Some, None}
use Rattle.std.proofs.lemmas.List.{length-map}
use Rattle.std.proofs.lemmas.Option.{slice_get-map}
use Rattle.std.specs.List.{filter, slice_get}
use Rattle.std.specs.Option.{is_some, option_map}
use Rattle.x5_model.specs.Words.{in_option, sorted}
use Rattle.x5_model.specs.Keys.{Key, key_below, parent, same_key}
use Rattle.x5_model.specs.Values.{Name, key_of, name_above}
use Rattle.x5_model.specs.Requests.{Subset, Request}
use Rattle.x5_model_tree.specs.Tree.{is_there}
use Rattle.x5_model_tree.specs.Ask.{in_subset}
use Rattle.x5_model_run.specs.Holdings.{Held, Copy, may_copy}
use Rattle.x5_holdings.specs.State.{Kept, CopyKept, State, IsBrought, held_view, copy_view, shadow_view, holdings_view, stamp_of, brought_entries}
use Rattle.x5_dse.specs.Linked.{Node, entries_of, id_of, node_at, node_key}
use Rattle.x5_holdings.specs.Rows.{KeyRow}
use Rattle.x5_holdings.proofs.Knowing.{upper_key}
use Rattle.x5_eval.specs.Numbers.{copy_number, copy_pins, copy_place, in_reach, is_under, own_place, counts, held_number, is_held, no_copy, number_below, own_pins, pin_number, prefix_number, stamp_number}
use Rattle.x5_eval.specs.Spots.{IsHeldAt, held_as}
use Rattle.x5_eval.proofs.Numbering.{copy_held, past_none}
use Rattle.x5_eval.proofs.Ordered.{sorted_same}

below_test : (n m : ℕ) → n < m → nat_lt n m ≡ true
below_test n m l = grind (arith, l)

behind_test : (n m : ℕ) → m ≤ n → nat_lt n m ≡ false
behind_test n m l = grind (arith, l)

-- without another name the prefix is the context's
pub prefix_is : (s : State) (n : ℕ) → prefix_number (holdings_view s) [] n ≡ (held_number (holdings_view s) n).prefix
prefix_is s n = by (slice_get (holdings_view s).own n) (slice_get (holdings_view s).copies (n - length (holdings_view s).own))
  where
    by : (o : Option Held) (q : Option Copy)
        → in_option (in_option [] (λ k. k.held.prefix) q) (λ c. c.prefix) o ≡ (in_option (in_option no_copy (λ k. k) q).held (λ c. c) o).prefix
    by None None = refl
    by None (Some k) = refl
    by (Some c) q = refl

module _ (s : State) (n : ℕ) where
  own_count : length (holdings_view s).own ≡ length s.own
  own_count = length-map s.own held_view

  -- ---- a context that is mastered
  module _ (k : Kept) (at : slice_get s.own n ≡ Some k) where
    own_at : slice_get (holdings_view s).own n ≡ Some (held_view k)
    own_at = slice_get-map held_view s.own n ∙ ap (option_map held_view) at

    pub own_number : held_number (holdings_view s) n ≡ held_view k
    own_number = ap (λ (o : Option Held). in_option (copy_number (holdings_view s) n).held (λ c. c) o) own_at

    pub own_prefix : (other : Name) → k.prefix ≡ prefix_number (holdings_view s) other n
    own_prefix other = sym (ap (λ (o : Option Held). in_option (in_option other (λ k. k.held.prefix)
        (slice_get (holdings_view s).copies (n - length (holdings_view s).own))) (λ c. c.prefix) o) own_at)

    pub own_held : IsHeldAt (holdings_view s) n (Some k)
    own_held = record {
      view = (λ i. held_as (own_number i).prefix k) ∙ sym own_number;
      pin = ap (λ (c : Held). key_of c.prefix) (sym own_number);
    }

  pub own_stamp : n < length s.own → None ≡ stamp_number (holdings_view s) n
  own_stamp l = sym (ap (λ (b : Bool). cond b None (copy_number (holdings_view s) n).stamp)
      (ap (nat_lt n) own_count ∙ below_test n (length s.own) l))

  -- ---- what stands behind
  module _ (behind : length s.own ≤ n) where
    no_own : slice_get (holdings_view s).own n ≡ None
    no_own = slice_get-map held_view s.own n ∙ ap (option_map held_view) (past s.own n behind)
      where
        past : {A : Type 0} (xs : List A) (i : ℕ) → length xs ≤ i → slice_get xs i ≡ None
        past xs i l = past_none xs i l

    copies_at : slice_get (holdings_view s).copies (n - length (holdings_view s).own) ≡ option_map copy_view (slice_get s.copies (n - length s.own))
    copies_at = ap (λ (m : ℕ). slice_get (holdings_view s).copies (n - m)) own_count ∙ slice_get-map copy_view s.copies (n - length s.own)

    is_copy : held_number (holdings_view s) n ≡ (copy_number (holdings_view s) n).held
    is_copy = copy_held (holdings_view s) n (subst (λ (m : ℕ). m ≤ n) (sym own_count) behind)

    stamp_behind : stamp_number (holdings_view s) n ≡ (copy_number (holdings_view s) n).stamp
    stamp_behind = ap (λ (b : Bool). cond b None (copy_number (holdings_view s) n).stamp)
        (ap (nat_lt n) own_count ∙ behind_test n (length s.own) behind)

    held_behind : is_held (holdings_view s) n ≡ is_some (copy_number (holdings_view s) n).stamp
    held_behind = ap (λ (b : Bool). b || is_some (copy_number (holdings_view s) n).stamp)
        (ap (nat_lt n) own_count ∙ behind_test n (length s.own) behind)

    prefix_behind : (other : Name) → prefix_number (holdings_view s) other n
        ≡ in_option other (λ k. k.held.prefix) (slice_get (holdings_view s).copies (n - length (holdings_view s).own))
    prefix_behind other = ap (λ (o : Option Held). in_option (in_option other (λ k. k.held.prefix)
        (slice_get (holdings_view s).copies (n - length (holdings_view s).own))) (λ c. c.prefix) o) no_own

    -- a copy
    module _ (k : CopyKept) (at : slice_get s.copies (n - length s.own) ≡ Some k) where
      copy_at : slice_get (holdings_view s).copies (n - length (holdings_view s).own) ≡ Some (copy_view k)
      copy_at = copies_at ∙ ap (option_map copy_view) at

      pub copy_is : copy_number (holdings_view s) n ≡ copy_view k
      copy_is = ap (in_option no_copy (λ k. k)) copy_at

      pub copy_prefix : (other : Name) → k.prefix ≡ prefix_number (holdings_view s) other n
      copy_prefix other = sym (prefix_behind other ∙ ap (in_option other (λ k. k.held.prefix)) copy_at)

      pub copy_stamp : stamp_of k.refreshed ≡ stamp_number (holdings_view s) n
      copy_stamp = sym (stamp_behind ∙ ap (λ (c : Copy). c.stamp) copy_is)

      pub copy_held_at : (found : Option Kept) → found ≡ option_map (λ s. s.0) k.refreshed → IsBrought k.prefix k.refreshed
          → IsHeldAt (holdings_view s) n found
      copy_held_at found e brought = subst (λ (o : Option Kept). IsHeldAt (holdings_view s) n o) (sym e) (by k.refreshed refl brought)
        where
          shadow : Option (Kept × ℕ) → Held
          shadow r = record {
            prefix = k.prefix;
            entries = brought_entries r;
            subordinate = (shadow_view (record k { refreshed = r })).subordinate;
            nssrs = (shadow_view (record k { refreshed = r })).nssrs;
          }

          number_is : (r : Option (Kept × ℕ)) → k.refreshed ≡ r → held_number (holdings_view s) n ≡ shadow r
          number_is r p = is_copy ∙ ap (λ (c : Copy). c.held) copy_is ∙ ap shadow p

          by : (r : Option (Kept × ℕ)) → k.refreshed ≡ r → IsBrought k.prefix r → IsHeldAt (holdings_view s) n (option_map (λ s. s.0) r)
          by None p b = (
            held_behind ∙ ap (λ (c : Copy). is_some c.stamp) copy_is ∙ ap (λ (r : Option (Kept × ℕ)). is_some (stamp_of r)) p,
            ap (λ (c : Held). c.entries) (number_is None p),
          )
          by (Some b) p q = record {
            view = (λ i. held_as (number_is (Some b) p i).prefix b.0) ∙ sym (number_is (Some b) p);
            pin = q ∙ ap (λ (c : Held). key_of c.prefix) (sym (number_is (Some b) p));
          }

    -- nothing
    module _ (at : slice_get s.copies (n - length s.own) ≡ None) where
      nothing_at : slice_get (holdings_view s).copies (n - length (holdings_view s).own) ≡ None
      nothing_at = copies_at ∙ ap (option_map copy_view) at

      nothing_is : copy_number (holdings_view s) n ≡ no_copy
      nothing_is = ap (in_option no_copy (λ k. k)) nothing_at

      pub no_prefix : (other : Name) → other ≡ prefix_number (holdings_view s) other n
      no_prefix other = sym (prefix_behind other ∙ ap (in_option other (λ k. k.held.prefix)) nothing_at)

      pub no_stamp : None ≡ stamp_number (holdings_view s) n
      no_stamp = sym (stamp_behind ∙ ap (λ (c : Copy). c.stamp) nothing_is)

      pub nothing_held : IsHeldAt (holdings_view s) n None
      nothing_held = (
        held_behind ∙ ap (λ (c : Copy). is_some c.stamp) nothing_is,
        ap (λ (c : Held). c.entries) (is_copy ∙ ap (λ (c : Copy). c.held) nothing_is),
      )

-- ---- copies that count
pub counts_nothing : (r : Request) (s : State) (place : ℕ) → slice_get s.copies place ≡ None
    → false ≡ counts r (holdings_view s) (copy_number (holdings_view s) (length s.own + place))
counts_nothing r s place e =
    sym (ap (counts r (holdings_view s)) (nothing_is s (length s.own + place) (omega arith) (ap (slice_get s.copies) back ∙ e))
    ∙ none (may_copy r))
  where
    back : (length s.own + place) - length s.own ≡ place
    back = omega arith

    none : (b : Bool) → (b && false) ≡ false
    none true = refl
    none false = refl

pub counts_copy : (r : Request) (s : State) (place : ℕ) (k : CopyKept) → slice_get s.copies place ≡ Some k
    → counts r (holdings_view s) (copy_view k) ≡ counts r (holdings_view s) (copy_number (holdings_view s) (length s.own + place))
counts_copy r s place k e =
    ap (counts r (holdings_view s)) (sym (copy_is s (length s.own + place) (omega arith) k (ap (slice_get s.copies) back ∙ e)))
  where
    back : (length s.own + place) - length s.own ≡ place
    back = omega arith

-- ---- their prefixes
own_prefixes : (ks : List Kept) → map (λ c. key_of c.prefix) (map held_view ks) ≡ map (λ k. key_of k.prefix) ks
own_prefixes [] = refl
own_prefixes (k ∷ ks) = ap (λ (l : List Key). key_of k.prefix ∷ l) (own_prefixes ks)

copy_prefixes : (ks : List CopyKept) → map (λ c. key_of c.held.prefix) (map copy_view ks) ≡ map (λ k. key_of k.prefix) ks
copy_prefixes [] = refl
copy_prefixes (k ∷ ks) = ap (λ (l : List Key). key_of k.prefix ∷ l) (copy_prefixes ks)

pub own_pins_are : (s : State) → map (λ k. key_of k.prefix) s.own ≡ own_pins (holdings_view s)
own_pins_are s = sym (own_prefixes s.own)

pub copy_pins_are : (s : State) → map (λ k. key_of k.prefix) s.copies ≡ copy_pins (holdings_view s)
copy_pins_are s = sym (copy_prefixes s.copies)

-- ---- their order
module _ (s : State) (root : Name) (is_root : root ≡ []) where
  pub prefix_same : (n : ℕ) → prefix_number (holdings_view s) root n ≡ (held_number (holdings_view s) n).prefix
  prefix_same n = ap (λ (r : Name). prefix_number (holdings_view s) r n) is_root ∙ prefix_is s n

  pub ordered : (ns : List ℕ)
      → sorted (λ a b. key_below (key_of (prefix_number (holdings_view s) root a)) (key_of (prefix_number (holdings_view s) root b))) ns
      ≡ sorted (number_below (holdings_view s)) ns
  ordered ns = sorted_same (λ a b. key_below (key_of (prefix_number (holdings_view s) root a)) (key_of (prefix_number (holdings_view s) root b)))
      (number_below (holdings_view s)) ns
      (λ x y i j. λ k. key_below (key_of (prefix_same y k)) (key_of (prefix_same x k)))

-- ---- rows
pub all_left : (rows : List KeyRow) → rows ≡ filter (in_reach None) rows
all_left [] = refl
all_left (r ∷ rows) = ap (λ (l : List KeyRow). r ∷ l) (all_left rows)

pub copy_places : (s : State) (rows : List KeyRow) → map (λ p. length s.own + p) (map own_place rows) ≡ map (copy_place (holdings_view s)) rows
copy_places s [] = refl
copy_places s (r ∷ rows) = λ i. (sym (length-map s.own held_view) i + r.1) ∷ copy_places s rows i

-- ---- an entry that stands at a key
pub found_there : (nodes : List Node) (key : Key) → is_some (option_map id_of (node_at nodes key)) ≡ is_there (entries_of nodes) key
found_there [] key = refl
found_there (n ∷ ns) key = by (same_key (node_key n) key) (found_there ns key)
  where
    by : (b : Bool) → is_some (option_map id_of (node_at ns key)) ≡ is_there (entries_of ns) key
        → is_some (option_map id_of (cond b (Some n) (node_at ns key))) ≡ (b || is_there (entries_of ns) key)
    by true e = refl
    by false e = e

-- ---- whether one stands under another
module _ (s : State) (root : Name) (is_root : root ≡ []) (base : Key) (subset : Subset) (above n : ℕ) (p upper : Name)
    (at : p ≡ prefix_number (holdings_view s) root n) (up : upper ≡ name_above p) (within : in_subset subset base (key_of p) ≡ true) where
  pin_is : key_of p ≡ pin_number (holdings_view s) n
  pin_is = ap key_of (at ∙ prefix_same s root is_root n)

  pub under_tested : (b : Bool) → b ≡ is_there (held_number (holdings_view s) above).entries (key_of upper)
      → b ≡ is_under (holdings_view s) base subset (held_number (holdings_view s) above) n
  under_tested b e =
      e ∙ ap (is_there (held_number (holdings_view s) above).entries) (ap key_of up ∙ upper_key p (length p - 1) refl ∙ ap parent pin_is)
      ∙ sym (ap (λ (t : Bool). t && is_there (held_number (holdings_view s) above).entries (parent (pin_number (holdings_view s) n)))
      (ap (in_subset subset base) (sym pin_is) ∙ within))
