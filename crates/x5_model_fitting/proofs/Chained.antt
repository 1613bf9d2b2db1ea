-- Messages between agents within the limits fit, and are as they are spelled.
use Rattle.std.proofs.Common.{◌≡◌, ℕ, Bool, true, false, not, ◌&&◌, ◌||◌, ◌==◌, nat_le, List, [], ◌∷◌, length, map, refl, ap, ap₂, ◌∙◌, arith}
use Rattle.std.proofs.lemmas.Bool.{le-leb}
use Rattle.std.proofs.lemmas.List.{length-map}
use Rattle.std.specs.declared.option.Option.TheVariants.{Some}
use Rattle.x5_model.specs.Words.{has, distinct, same_octets}
use Rattle.x5_model.specs.Members.{In, here, there}
use Rattle.x5_model.specs.Keys.{same_key}
use Rattle.x5_model.specs.Values.{Rdn}
use Rattle.x5_model.specs.References.{Progress, Start, Next, Done, RefType, Superior, Subordinate, Cross, NonSpecific, Supplier, Own}
use Rattle.x5_model.proofs.Lists.{and_true}
use Rattle.x5_model_run.specs.Journal.{operation_of, kind_number, same_progress}
use Rattle.x5_model_typed.specs.Nodes as nodes
use Rattle.x5_model_typed.specs.Nodes.{Node, Vacant, Flag, Many, Nil, same_bit, whole}
use Rattle.x5_model_typed.specs.Named as named
use Rattle.x5_model_typed.specs.Rules as rules
use Rattle.x5_model_typed.specs.Rules.{most_items, trace_rule}
use Rattle.x5_model_typed.specs.Leaves.{where_so, one_of}
use Rattle.x5_model_typed.specs.Typed.{required, default}
use Rattle.x5_model_typed.specs.Layouts as layouts
use Rattle.x5_model_typed.specs.Layouts.{Surroundings, layout, operation_codes}
use Rattle.x5_model_typed.proofs.Laws.{list_row}
use Rattle.x5_model_typed_laws.specs.Fits as fits
use Rattle.x5_model_typed_laws.specs.Fits.{Fits}
use Rattle.x5_model_typed_laws.proofs.Leaves.{let_through}
use Rattle.x5_model_messages.specs.Terms.{node_of, rdn_node}
use Rattle.x5_model_messages.specs.Replies.{TraceItem, progress_node, item_node}
use Rattle.x5_model_messages.specs.Chained.{Chained, chaining_node, carried_node}
use Rattle.x5_model_messages.specs.ChainedLaws.{AreRdns, AreItems}
use Rattle.x5_model_fitting.specs.Names.{Each, RdnWithin}
use Rattle.x5_model_fitting.specs.Chained.{ProgressWithin, ItemWithin, same_item, TraceWithin, ChainedWithin}
use Rattle.x5_model_fitting.specs.Laws.{ChainedFits, ChainedIsSpelled}
use Rattle.x5_model_fitting.proofs.Making.{leaf_fits, each_fits, set_or, sequence_or}
use Rattle.x5_model_fitting.proofs.Names.{name_fits, name_is, key_said, rdns_fit, rdn_is}
use Rattle.x5_model_fitting.proofs.Leaves.{number_fits, enumeration_fits, flag_fits, agent_fits}
use Rattle.x5_model_fitting.proofs.Requests.{operation, argument_fits, coded, code_small, invoke_fits, request_is}

-- ---- progress and kinds of references

pub progress_fits : (w : Surroundings) (p : Progress) → ProgressWithin p
    → Fits (layout w) (layout w named.Progress) (progress_node p)
progress_fits w Start h =
    fits.made _ refl refl refl
    (fits.sequence (fits.given refl (enumeration_fits w 1 3 1 (omega arith) (omega arith) (omega arith)) required
    (fits.left_out Vacant refl refl fits.over)))
    refl
progress_fits w (Next k) h =
    fits.made _ refl refl refl
    (fits.sequence (fits.given refl (enumeration_fits w 1 3 2 (omega arith) (omega arith) (omega arith)) required
    (fits.given refl (number_fits w 1 16 k h.0 h.1 (omega arith)) default fits.over)))
    refl
progress_fits w Done h =
    fits.made _ refl refl refl
    (fits.sequence (fits.given refl (enumeration_fits w 1 3 3 (omega arith) (omega arith) (omega arith)) required
    (fits.left_out Vacant refl refl fits.over)))
    refl

kind_leaf : (w : Surroundings) (k : ℕ) (octets : List ℕ)
    → (Rattle.x5_model_typed.specs.Leaves.number (one_of (1 ∷ 2 ∷ 3 ∷ 4 ∷ 5 ∷ 8 ∷ []))).writes (whole k) ≡ Some octets
    → Fits (layout w) (layout w named.RefType) (whole k)
kind_leaf w k octets h =
    leaf_fits (layout w) (layouts.integer (one_of (1 ∷ 2 ∷ 3 ∷ 4 ∷ 5 ∷ 8 ∷ []))) (whole k) octets refl refl h refl

pub kind_fits : (w : Surroundings) (k : RefType) → Fits (layout w) (layout w named.RefType) (whole (kind_number k))
kind_fits w Superior = kind_leaf w 1 (1 ∷ []) refl
kind_fits w Subordinate = kind_leaf w 2 (2 ∷ []) refl
kind_fits w Cross = kind_leaf w 3 (3 ∷ []) refl
kind_fits w NonSpecific = kind_leaf w 4 (4 ∷ []) refl
kind_fits w Supplier = kind_leaf w 5 (5 ∷ []) refl
kind_fits w Own = kind_leaf w 8 (8 ∷ []) refl

-- ---- items

pub item_fits : (w : Surroundings) (i : TraceItem) → ItemWithin i
    → Fits (layout w) (layout w named.TraceItem) (item_node i)
item_fits w i h =
    fits.made _ refl refl refl
    (fits.sequence (fits.given refl (agent_fits w i.agent h.agent) required
    (fits.given refl (name_fits w i.target h.target) required
    (fits.given refl (progress_fits w i.progress h.progress) required
    (sequence_or (layout w) (Flag false) (Flag i.wide) named.Boolean [] Nil (flag_fits w i.wide) fits.over)))))
    refl

-- ---- items are the same exactly where what is written of them is

pub progress_same : (p q : Progress) → nodes.same (progress_node p) (progress_node q) ≡ same_progress p q
progress_same Start Start = refl
progress_same Start (Next k) = refl
progress_same Start Done = refl
progress_same (Next k) Start = refl
progress_same (Next k) (Next j) = by (k == j)
  where
    by : (b : Bool) → (b && true) ≡ b
    by true = refl
    by false = refl
progress_same (Next k) Done = refl
progress_same Done Start = refl
progress_same Done (Next j) = refl
progress_same Done Done = refl

pub item_same : (a b : TraceItem) → ItemWithin a → ItemWithin b
    → rules.same_item (item_node a) (item_node b) ≡ same_item a b
item_same a b h k =
    ap₂ (λ (x y : Bool). same_octets a.agent b.agent && x && y && same_bit a.wide b.wide)
    (ap₂ same_key (key_said a.target h.target) (key_said b.target k.target)) (progress_same a.progress b.progress)

module _ {X Y : Type 0} (f : X → Y) (same : X → X → Bool) (other : Y → Y → Bool) where
  has_kept : (x : X) (xs : List X) → ((y : X) → In y xs → other (f y) (f x) ≡ same y x)
      → has other (map f xs) (f x) ≡ has same xs x
  has_kept x [] h = refl
  has_kept x (y ∷ xs) h = ap₂ (λ (a b : Bool). a || b) (h y here) (has_kept x xs (λ z i. h z (there i)))

  pub distinct_kept : (xs : List X) → ((x y : X) → In x xs → In y xs → other (f x) (f y) ≡ same x y)
      → distinct other (map f xs) ≡ distinct same xs
  distinct_kept [] h = refl
  distinct_kept (x ∷ xs) h =
      ap₂ (λ (a b : Bool). not a && b) (has_kept x xs (λ y i. h y x (there i) here))
      (distinct_kept xs (λ y z i j. h y z (there i) (there j)))

trace_kept : (trace : List TraceItem) → TraceWithin trace → trace_rule (node_of (map item_node trace)) ≡ Some
    (node_of (map item_node trace))
trace_kept trace h =
    ap (λ (l : List Node). where_so (nat_le (length l) most_items && distinct rules.same_item l)
    (node_of (map item_node trace)))
    (list_row (map item_node trace))
    ∙ let_through (nat_le (length (map item_node trace)) most_items && distinct rules.same_item (map item_node trace))
    (node_of (map item_node trace))
    (and_true (nat_le (length (map item_node trace)) most_items) (distinct rules.same_item (map item_node trace))
    (le-leb (length (map item_node trace)) most_items (omega (arith, h.few, length-map trace item_node)))
    (distinct_kept item_node same_item rules.same_item trace (λ x y i j. item_same x y (h.items x i) (h.items y j)) ∙
    h.once))

trace_fits : (w : Surroundings) (trace : List TraceItem) → TraceWithin trace
    → Fits (layout w) (layout w named.Trace) (node_of (map item_node trace))
trace_fits w trace h =
    fits.made _ refl refl refl
    (fits.members (each_fits (layout w) named.TraceItem item_node trace (λ i j. item_fits w i (h.items i j))))
    (trace_kept trace h)

-- ---- messages

chaining_fits : (w : Surroundings) (m : Chained) → ChainedWithin m
    → Fits (layout w) (layout w named.Chaining) (chaining_node m)
chaining_fits w m h =
    fits.made _ refl refl refl
    (fits.set (fits.present refl (name_fits w m.target h.target) required
    (fits.present refl (progress_fits w m.progress h.progress) required
    (fits.present refl (trace_fits w m.trace h.trace) required
    (fits.present refl (kind_fits w m.kind) required
    (set_or (layout w) (Many Nil) (node_of (map rdn_node m.exclusions)) 4 named.Rdns [] Nil
    (rdns_fit w m.exclusions h.exclusions) fits.all))))))
    refl

carried_fits : (w : Surroundings) (m : Chained) → ChainedWithin m
    → Fits (layout w) (layout w (named.Chained (operation m.request.body))) (carried_node m)
carried_fits w m h =
    fits.made _ refl refl refl
    (fits.sequence (fits.given refl (chaining_fits w m h) required
    (fits.given refl (argument_fits w m.request h.request) required fits.over)))
    refl

pub chained_fits : ChainedFits
chained_fits w id m small h =
    fits.chosen_made (layouts.invoke (operation_codes named.Chained)) 1 refl
    (fits.sequence (invoke_fits w (operation_codes named.Chained) id (operation_of m.request.body)
    (named.Chained (operation m.request.body))
    (carried_node m) small (code_small m.request.body) (coded named.Chained m.request.body) (carried_fits w m h)))
    refl

-- ---- such messages are as they are spelled

rdns_are : (rs : List Rdn) → Each RdnWithin rs → AreRdns rs
rdns_are [] h = tt
rdns_are (r ∷ rs) h = (rdn_is r (h r here), rdns_are rs (λ x i. h x (there i)))

items_are : (items : List TraceItem) → Each ItemWithin items → AreItems items
items_are [] h = tt
items_are (i ∷ items) h = (name_is i.target (h i here).target, items_are items (λ x j. h x (there j)))

pub chained_is : ChainedIsSpelled
chained_is m h = (
  name_is m.target h.target,
  rdns_are m.exclusions h.exclusions,
  items_are m.trace h.trace.items,
  request_is
      m.request h.request,
)
