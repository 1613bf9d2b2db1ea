-- Where a walk begins: the contexts that the definition names are those that are chosen by their numbers.
use Rattle.std.proofs.Common.{◌≡◌, ℕ, ◌+◌, ◌-◌, Bool, true, false, cond, not, ◌&&◌, ◌||◌, ◌==◌, List, [], ◌∷◌, length, map, refl, sym, ap, subst, ◌∙◌, Option, Some, None}
use Rattle.std.specs.List.{filter, list_any, slice_get}
use Rattle.std.specs.Option.{is_some}
use Rattle.std.proofs.lemmas.List.{length-map}
use Rattle.x5_model.specs.Words.{has, in_option, sorted}
use Rattle.x5_model.specs.Members.{In}
use Rattle.x5_model.specs.Keys.{Key, same_key, is_child, is_prefix, is_root}
use Rattle.x5_model.specs.Values.{Rdn, Name, key_of, key_of_rdn}
use Rattle.x5_model.specs.Requests.{Subset, Request}
use Rattle.x5_model.proofs.Decide.{nat_same_decides}
use Rattle.x5_model.proofs.KeyLaws.{key_decides}
use Rattle.x5_model.proofs.Lists.{both_true, and_true, of_find}
use Rattle.x5_model.proofs.Prefixes.{prefix_decides, root_is_prefix}
use Rattle.x5_model_tree.specs.Tree.{is_there}
use Rattle.x5_model_tree.specs.World.{Specific}
use Rattle.x5_model_tree.specs.Ask.{in_subset}
use Rattle.x5_model_run.specs.Holdings.{Held, Copy, Holdings, held_at, copy_at, served, known_pin}
use Rattle.x5_model_run.specs.Journal.{is_wide, same_spelled_rdn}
use Rattle.x5_model_run.specs.Needs.{is_excluded, begins_at, begins_by, found_at_pin, found_at_root, found_below, found_by_name, found_in, resolves, specific_at}
use Rattle.x5_model_serve.specs.Walking.{pin_below}
use Rattle.x5_ops.specs.ReferenceViews.{chained_view, kind_view, progress_view}
use Rattle.x5_ops.specs.RequestViews.{request_view}
use Rattle.x5_ops.specs.declared.references.Chained.{Chained}
use Rattle.x5_ops.specs.declared.references.Progress.{Progress}
use Rattle.x5_ops.specs.declared.references.Progress.TheVariants.{NotStarted, Proceeding, Completed}
use Rattle.x5_holdings.specs.State.{State, holdings_view}
use Rattle.x5_eval.specs.Numbers.{held_number, number_below, own_reach, prefix_number, reaches, served_reach}
use Rattle.x5_eval.specs.Walks.{Begins}
use Rattle.x5_eval.proofs.Choosing.{begun_own, begun_served}
use Rattle.x5_eval.proofs.Excluding.{last_rdn_is}
use Rattle.x5_eval.proofs.Numbered.{prefix_same}
use Rattle.x5_eval.proofs.Rises.{reaches_base, reaches_one}

-- where there is none
pub none_begin : (r : Request) (h : Holdings) (cs : List Held) (all : List ℕ) → cs ≡ [] → all ≡ [] → Begins r h cs all
none_begin r h cs all e f = record {
  views = ap (map (held_number h)) f ∙ ap (sorted pin_below) (sym e);
  served = λ n i. absurd (nowhere n (subst (λ (l : List ℕ). In n l) f i));
}
  where
    nowhere : (n : ℕ) → In n [] → ⊥
    nowhere n i = elim i [ ]

-- the definition's contexts are these
pub begin_those : (r : Request) (h : Holdings) (cs ds : List Held) (all : List ℕ) → cs ≡ ds → Begins r h cs all → Begins r h ds all
begin_those r h cs ds all e b = subst (λ (l : List Held). Begins r h l all) e b

-- ---- those that are chosen by a test of prefix and context
module _ (s : State) (root : Name) (is_empty : root ≡ []) (r : Request) where
  abbrev by_number : (Name → Held → Bool) → ℕ → Bool
  by_number f n = f (prefix_number (holdings_view s) root n) (held_number (holdings_view s) n)

  abbrev by_prefix : (Name → Held → Bool) → Held → Bool
  by_prefix f c = f c.prefix c

  module _ (f : Name → Held → Bool) (at : Key) (depth : Option ℕ)
      (within : (c : Held) → f c.prefix c ≡ true → reaches at depth (key_of c.prefix) ≡ true) (ns kept all : List ℕ)
      (keeps : kept ≡ filter (by_number f) ns) (orders : all ≡ sorted (number_below (holdings_view s)) kept) where
    same : (n : ℕ) → by_number f n ≡ by_prefix f (held_number (holdings_view s) n)
    same n = ap (λ (p : Name). f p (held_number (holdings_view s) n)) (prefix_same s root is_empty n)

    all_are : sorted (number_below (holdings_view s)) (filter (by_number f) ns) ≡ all
    all_are = sym (orders ∙ ap (sorted (number_below (holdings_view s))) keeps)

    served_begin : ns ≡ served_reach r (holdings_view s) at depth → Begins r (holdings_view s) (filter (by_prefix f) (served r (holdings_view s))) all
    served_begin e =
        subst (λ (l : List ℕ). Begins r (holdings_view s) (filter (by_prefix f) (served r (holdings_view s))) l) all_are
        (begun_served (holdings_view s) r at depth (by_number f) (by_prefix f) ns same within e)

    own_begin : ns ≡ own_reach (holdings_view s) at depth → Begins r (holdings_view s) (filter (by_prefix f) (holdings_view s).own) all
    own_begin e =
        subst (λ (l : List ℕ). Begins r (holdings_view s) (filter (by_prefix f) (holdings_view s).own) l) all_are
        (begun_own (holdings_view s) r at depth (by_number f) (by_prefix f) ns same within e)

  module _ (pin : Name) where
    at_there : (depth : ℕ) → depth ≡ length pin → (q : Key) → same_key q (key_of pin) ≡ true → reaches (key_of pin) (Some depth) q ≡ true
    at_there depth deep q e = reaches_base pin q depth deep ((key_decides (key_of pin) q).1 (sym ((key_decides q (key_of pin)).0 e)))

    abbrev is_pin : Name → Held → Bool
    is_pin p c = same_key (key_of p) (key_of pin)

    -- those of one pin
    pub pin_begins : (depth : ℕ) → depth ≡ length pin → (ns kept all : List ℕ) → ns ≡ served_reach r (holdings_view s) (key_of pin) (Some depth)
        → kept ≡ filter (by_number is_pin) ns → all ≡ sorted (number_below (holdings_view s)) kept
        → Begins r (holdings_view s) (filter (by_prefix is_pin) (served r (holdings_view s))) all
    pin_begins depth deep ns kept all e f g =
        served_begin is_pin (key_of pin) (Some depth) (λ c t. at_there depth deep (key_of c.prefix) t) ns kept all f g e

    abbrev has_target : Key → Name → Held → Bool
    has_target target p c = same_key (key_of p) (key_of pin) && is_there c.entries target

    -- and of those the ones that have the target
    pub target_begins : (target : Key) (depth : ℕ) → depth ≡ length pin → (ns kept all : List ℕ)
        → ns ≡ served_reach r (holdings_view s) (key_of pin) (Some depth)
        → kept ≡ filter (by_number (has_target target)) ns → all ≡ sorted (number_below (holdings_view s)) kept
        → Begins r (holdings_view s) (filter (by_prefix (has_target target)) (served r (holdings_view s))) all
    target_begins target depth deep ns kept all e f g =
        served_begin (has_target target) (key_of pin) (Some depth)
        (λ c t. at_there depth deep (key_of c.prefix) (both_true (same_key (key_of c.prefix) (key_of pin)) (is_there c.entries target) t).0) ns kept all f g e

  module _ (base : Name) (subset : Subset) where
    abbrev is_first : Name → Held → Bool
    is_first p c = (length p == 1) && in_subset subset (key_of base) (key_of p)

    root_reaches : is_root (key_of base) ≡ true → (c : Held) → is_first c.prefix c ≡ true → reaches (key_of base) (Some 1) (key_of c.prefix) ≡ true
    root_reaches e c t =
        and_true (is_prefix (key_of base) (key_of c.prefix)) (length (key_of c.prefix) == 1)
        (subst (λ (k : Key). is_prefix k (key_of c.prefix) ≡ true) (sym (empty (key_of base) ((nat_same_decides (length (key_of base)) 0).0 e)))
        ((prefix_decides [] (key_of c.prefix)).1 (root_is_prefix (key_of c.prefix))))
        (ap (λ (n : ℕ). n == 1) (length-map c.prefix key_of_rdn)
        ∙ (both_true (length c.prefix == 1) (in_subset subset (key_of base) (key_of c.prefix)) t).0)
      where
        empty : (k : Key) → length k ≡ 0 → k ≡ []
        empty [] q = refl
        empty (x ∷ k) q = cc

    -- those with one RDN
    pub root_begins : is_root (key_of base) ≡ true → (ns kept all : List ℕ) → ns ≡ served_reach r (holdings_view s) (key_of base) (Some 1)
        → kept ≡ filter (by_number is_first) ns → all ≡ sorted (number_below (holdings_view s)) kept
        → Begins r (holdings_view s) (filter (by_prefix is_first) (served r (holdings_view s))) all
    root_begins i ns kept all e f g = served_begin is_first (key_of base) (Some 1) (root_reaches i) ns kept all f g e

    abbrev is_asked : List Rdn → Name → Held → Bool
    is_asked exclusions p c =
        is_child (key_of base) (key_of p) && (in_subset subset (key_of base) (key_of p) && not (is_excluded exclusions p))

    -- those just below, but for those excluded
    pub below_begins : (exclusions : List Rdn) (depth : ℕ) → depth ≡ length base + 1 → (ns kept all : List ℕ)
        → ns ≡ own_reach (holdings_view s) (key_of base) (Some depth)
        → kept ≡ filter (by_number (is_asked exclusions)) ns → all ≡ sorted (number_below (holdings_view s)) kept
        → Begins r (holdings_view s) (filter (by_prefix (is_asked exclusions)) (holdings_view s).own) all
    below_begins exclusions depth deep ns kept all e f g =
        own_begin (is_asked exclusions) (key_of base) (Some depth)
        (λ c t. reaches_one base (key_of c.prefix) depth deep
        (both_true (is_child (key_of base) (key_of c.prefix))
        (in_subset subset (key_of base) (key_of c.prefix) && not (is_excluded exclusions c.prefix)) t).0) ns kept all f g e

-- ---- the name of what is known
module _ (p : Key) (other : Name) where
  pub own_known : (h : Holdings) (place : ℕ) (n : Name) → n ≡ in_option other (λ (c : Held). c.prefix) (slice_get h.own place)
      → held_at h.own p ≡ slice_get h.own place → is_some (slice_get h.own place) ≡ true → key_of n ≡ p
  own_known h place n e f some = ap key_of e ∙ by (slice_get h.own place) f some
    where
      by : (o : Option Held) → held_at h.own p ≡ o → is_some o ≡ true → key_of (in_option other (λ (c : Held). c.prefix) o) ≡ p
      by None q t = cc
      by (Some c) q t = (key_decides (key_of c.prefix) p).0 (of_find (λ (d : Held). same_key (key_of d.prefix) p) c h.own q).1

  pub copy_known : (h : Holdings) (place : ℕ) (n : Name) → n ≡ in_option other (λ (k : Copy). k.held.prefix) (slice_get h.copies place)
      → copy_at h p ≡ slice_get h.copies place → is_some (slice_get h.copies place) ≡ true → key_of n ≡ p
  copy_known h place n e f some = ap key_of e ∙ by (slice_get h.copies place) f some
    where
      by : (o : Option Copy) → copy_at h p ≡ o → is_some o ≡ true → key_of (in_option other (λ (k : Copy). k.held.prefix) o) ≡ p
      by None q t = cc
      by (Some k) q t = (key_decides (key_of k.held.prefix) p).0 (of_find (λ (d : Copy). same_key (key_of d.held.prefix) p) k h.copies q).1

  pub pin_known : (ks : List Specific) (k : Specific) → specific_at ks p ≡ Some k → key_of k.pin ≡ p
  pin_known ks k e = (key_decides (key_of k.pin) p).0 (of_find (λ (d : Specific). same_key (key_of d.pin) p) k ks e).1

-- ---- what is excluded
pub any_has : (exclusions : List Rdn) (x : Rdn) → list_any (λ rdn. same_spelled_rdn rdn x) exclusions ≡ has same_spelled_rdn exclusions x
any_has [] x = refl
any_has (y ∷ ys) x = ap (λ (b : Bool). same_spelled_rdn y x || b) (any_has ys x)

pub excluded_is : (exclusions : List Rdn) (p : Name) (x : Rdn) (b : Bool) → Some x ≡ slice_get p (length p - 1)
    → b ≡ list_any (λ rdn. same_spelled_rdn rdn x) exclusions → b ≡ is_excluded exclusions p
excluded_is exclusions p x b e f = f ∙ any_has exclusions x ∙ ap (has same_spelled_rdn exclusions) (sym (last_rdn_is p x e))

pub left_out : (child within excluded : Bool) → excluded ≡ true → false ≡ (child && (within && not excluded))
left_out true true excluded e = ap not (sym e)
left_out true false excluded e = refl
left_out false within excluded e = refl

pub left_in : (child within excluded t : Bool) → excluded ≡ false → t ≡ (child && within) → t ≡ (child && (within && not excluded))
left_in true true excluded t e f = f ∙ ap not (sym e)
left_in true false excluded t e f = f
left_in false within excluded t e f = f

-- ---- which of them the definition names
pub if_true : {A : Type 0} (b : Bool) (xs ys : List A) → b ≡ true → xs ≡ cond b xs ys
if_true b xs ys e = ap (λ (t : Bool). cond t xs ys) (sym e)

pub if_false : {A : Type 0} (b : Bool) (xs ys : List A) → b ≡ false → ys ≡ cond b xs ys
if_false b xs ys e = ap (λ (t : Bool). cond t xs ys) (sym e)

module _ (h : Holdings) (names : List (List ℕ)) (m : Chained) (subset : Subset) where
  abbrev here : Progress → List Held
  here p = begins_by h (chained_view names m) subset (progress_view p)

  abbrev resolved : List Held
  resolved = here Completed

  pub begin_below : m.progress ≡ Completed → is_wide (kind_view m.kind) ≡ true → found_below h (chained_view names m) subset ≡ begins_at h (chained_view names m) subset
  begin_below e w =
      if_true (is_wide (kind_view m.kind)) (found_below h (chained_view names m) subset) (found_at_pin h (chained_view names m)) w
      ∙ ap here (sym e)

  pub begin_at_pin : m.progress ≡ Completed → is_wide (kind_view m.kind) ≡ false → found_at_pin h (chained_view names m) ≡ begins_at h (chained_view names m) subset
  begin_at_pin e w =
      if_false (is_wide (kind_view m.kind)) (found_below h (chained_view names m) subset) (found_at_pin h (chained_view names m)) w
      ∙ ap here (sym e)

  pub begin_by_name : (m.progress ≡ Completed → ⊥) → found_by_name h (chained_view names m) subset ≡ begins_at h (chained_view names m) subset
  begin_by_name f = by m.progress f
    where
      by : (p : Progress) → (p ≡ Completed → ⊥) → found_by_name h (chained_view names m) subset ≡ here p
      by NotStarted g = refl
      by (Proceeding k) g = refl
      by Completed g = absurd (g refl)

  -- where it isn't resolved here
  pub name_nowhere : resolves h (chained_view names m) ≡ false → found_by_name h (chained_view names m) subset ≡ []
  name_nowhere e =
      sym (if_false (resolves h (chained_view names m))
      (in_option (found_at_root h (chained_view names m) subset) (found_in h (chained_view names m)) (known_pin (request_view m.request) h (key_of m.target))) [] e)

  -- with nothing known on the way, and with a pin
  pub name_at_root : resolves h (chained_view names m) ≡ true → known_pin (request_view m.request) h (key_of m.target) ≡ None
      → found_at_root h (chained_view names m) subset ≡ found_by_name h (chained_view names m) subset
  name_at_root e f =
      ap (λ (o : Option Key). in_option (found_at_root h (chained_view names m) subset) (found_in h (chained_view names m)) o) (sym f)
      ∙ if_true (resolves h (chained_view names m))
      (in_option (found_at_root h (chained_view names m) subset) (found_in h (chained_view names m)) (known_pin (request_view m.request) h (key_of m.target))) [] e

  pub name_at_pin : (p key : Key) → resolves h (chained_view names m) ≡ true → known_pin (request_view m.request) h (key_of m.target) ≡ Some key → p ≡ key
      → found_in h (chained_view names m) p ≡ found_by_name h (chained_view names m) subset
  name_at_pin p key e f g =
      ap (found_in h (chained_view names m)) g
      ∙ ap (λ (o : Option Key). in_option (found_at_root h (chained_view names m) subset) (found_in h (chained_view names m)) o) (sym f)
      ∙ if_true (resolves h (chained_view names m))
      (in_option (found_at_root h (chained_view names m) subset) (found_in h (chained_view names m)) (known_pin (request_view m.request) h (key_of m.target))) [] e
