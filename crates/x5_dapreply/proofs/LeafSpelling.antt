-- Truth values, numbers, agents' names and phases, as they're usually spelled, are what is said of them.
use Rattle.std.proofs.Common.{◌≡◌, ℕ, ◌+◌, ◌*◌, ◌≤◌, ◌<◌, ◌%◌, ◌==◌, ◌&&◌, nat_le, if◌then◌else◌, Bool}
use Rattle.std.proofs.Common.{true, false, not, ℤ, pos}
use Rattle.std.proofs.Common.{List, [], ◌∷◌, ◌++◌, length, refl, ap, ap₂, sym, ◌∙◌, subst, arith, lit<, ◌⊎◌, inl, inr}
use Rattle.std.proofs.Common.{take, drop, get_or, nat_eq, length-drop}
use Rattle.std.proofs.lemmas.List.{take-append-drop}
use Rattle.std.specs.Cmp.Lexicographic.{pointwise, same_text}
use Rattle.std.specs.declared.option.Option.{Option}
use Rattle.std.specs.declared.option.Option.TheVariants.{None, Some}
use Rattle.std.proofs.lemmas.Bool.{lt-ltb, le-leb}
use Rattle.std.proofs.lemmas.Bool.Decides.{Decides-eqb, nat_tests}
use Rattle.x5_model.specs.Words.{in_option}
use Rattle.x5_model.specs.References.{Start, Next, Done, RefType, Superior, Subordinate, Cross, NonSpecific}
use Rattle.x5_model.specs.References.{Supplier, Own}
use Rattle.x5_model_octets.proofs.HeaderLaws.{chosen}
use Rattle.x5_model_typed.specs.Nodes as nodes
use Rattle.x5_model_typed.specs.Nodes.{Node, Vacant, Flag, Number, Many, row, whole}
use Rattle.x5_model_typed.specs.Named as named
use Rattle.x5_model_typed.specs.Named.{Named}
use Rattle.x5_model_typed.specs.Forms.{Primitive, universal, plain, ruled, Component}
use Rattle.x5_model_typed.specs.Judged.{leaf_node}
use Rattle.x5_model_typed.specs.Leaves.{boolean, number, number_of, is_shortest, complement, from_to, one_of}
use Rattle.x5_model_typed.specs.Leaves.{any_number, is_agent_name, where_so}
use Rattle.x5_model_typed.specs.Layouts.{agent_name, any_agent, integer, sequence, optional}
use Rattle.x5_model_typed.specs.Rules.{progress_rule, text_in}
use Rattle.x5_model_messages.specs.Terms.{flag_in, number_in, node_of}
use Rattle.x5_model_messages.specs.Replies.{progress_in, kind_in}
use Rattle.x5_ops.specs.ReferenceViews.{kind_of_number}
use Rattle.x5_direct.specs.Spelled.{Opens, Spelled, SpelledInOrder, Reads}
use Rattle.x5_direct.proofs.Heads.{opens_so, short_length, three_octets}
use Rattle.x5_direct.proofs.Naming.{so}
use Rattle.x5_direct.proofs.Spelling.{leaf_spelled, branch_spelled, order_over, order_next, order_in, order_given}
use Rattle.x5_dapreply.proofs.SetSpelling.{order_missing}

-- An identifier octet, the length 1, and an octet as content.
pub one_octet : (first a : ℕ) (rest : List ℕ) → first < 256 → first % 32 < 31
    → Opens first (a ∷ []) (first ∷ 1 ∷ a ∷ rest) rest
one_octet first a rest small low =
    opens_so first 1 (first ∷ 1 ∷ a ∷ rest) (1 ∷ a ∷ rest) (a ∷ rest) (a ∷ []) rest small low refl
    (short_length 1 (a ∷ rest) (lit< tt)) (omega arith) refl refl

pub six_there : (first a b c d e f : ℕ) (rest : List ℕ) → first < 256 → first % 32 < 31
    → Opens first (a ∷ b ∷ c ∷ d ∷ e ∷ f ∷ []) (first ∷ 6 ∷ a ∷ b ∷ c ∷ d ∷ e ∷ f ∷ rest) rest
six_there first a b c d e f rest small low =
    opens_so first 6 (first ∷ 6 ∷ a ∷ b ∷ c ∷ d ∷ e ∷ f ∷ rest) (6 ∷ a ∷ b ∷ c ∷ d ∷ e ∷ f ∷ rest)
    (a ∷ b ∷ c ∷ d ∷ e ∷ f ∷ rest) (a ∷ b ∷ c ∷ d ∷ e ∷ f ∷ []) rest
    small low refl (short_length 6 (a ∷ b ∷ c ∷ d ∷ e ∷ f ∷ rest) (lit< tt)) (omega arith) refl refl

-- ---- truth values

pub flag_read : (b : Bool) (o : ℕ) (rest : List ℕ) → not (o == 0) ≡ b
    → Reads 0 named.Boolean flag_in b (1 ∷ 1 ∷ o ∷ rest) rest
flag_read b o rest e = (
  Flag b,
  leaf_spelled named.Boolean 1 0 1 (universal 1 (Primitive boolean)) (Flag b) (Flag b) (o ∷ []) (1 ∷ 1 ∷ o ∷ rest) rest
      (one_octet 1 o rest (lit< tt) (lit< tt)) refl (lit< tt) (λ w. refl)
      (ap (λ (c : Bool). let n : Option Node = Some (Flag c) in n) e) refl,
  refl,
)

-- ---- agents' names

pub agent_read : (t octets rest : List ℕ) → Opens 19 t octets rest
    → (if is_agent_name t then any_agent t else false) ≡ true → Reads 0 named.AgentName text_in t octets rest
agent_read t octets rest o e = (
  nodes.Text t,
  leaf_spelled named.AgentName 19 0 19 (agent_name any_agent) (nodes.Text t) (nodes.Text t) t octets rest o refl
      (lit< tt)
      (λ w. refl) (so (if is_agent_name t then any_agent t else false) (nodes.Text t) e) refl,
  refl,
)

-- ---- numbers

pub number_there : (test : ℤ → Bool) (octets : List ℕ) (k : ℤ) → number_of octets ≡ Some k → test k ≡ true
    → leaf_node (Primitive (number test)) octets ≡ Some (Number k)
number_there test octets k e t =
    ap (λ (o : Option ℤ). in_option {Y = Option Node} None (λ (j : ℤ). where_so (test j) (Number j)) o) e
    ∙ so (test k) (Number k) t

pub small_number : (k : ℕ) → k < 128 → number_of (k ∷ []) ≡ Some (pos k)
small_number k less =
    rw (lt-ltb k 128 less) (let same : 0 * 256 + k ≡ k = omega arith in rw same refl)

pub within : (low high k : ℕ) → low ≤ k → k ≤ high → from_to low high (pos k) ≡ true
within low high k a b = ap₂ (λ (x y : Bool). x && y) (le-leb low k a) (le-leb k high b)

pub count_read : (k : ℕ) (content octets rest : List ℕ) → Opens 2 content octets rest → number_of content ≡ Some (pos k)
    → k ≤ 4294967295 → Reads 0 (named.NumberBelow 0 4294967295) number_in (Some k) octets rest
count_read k content octets rest o e most = (
  whole k,
  leaf_spelled (named.NumberBelow 0 4294967295) 2 0 2 (integer (from_to 0 4294967295)) (whole k)
      (whole k) content octets
      rest o refl (lit< tt) (λ w. refl)
      (number_there (from_to 0 4294967295) content (pos k) e (within 0 4294967295 k (omega arith) most)) refl,
  refl,
)

-- a code of one octet
pub code_spelled : (k : ℕ) (rest : List ℕ) → k < 128 → Spelled 0 named.AnyNumber (whole k) (2 ∷ 1 ∷ k ∷ rest) rest
code_spelled k rest less =
    leaf_spelled named.AnyNumber 2 0 2 (integer any_number) (whole k) (whole k) (k ∷ []) (2 ∷ 1 ∷ k ∷ rest) rest
    (one_octet 2 k rest (lit< tt) (lit< tt)) refl (lit< tt) (λ w. refl)
    (number_there any_number (k ∷ []) (pos k) (small_number k less) refl) refl

-- ---- how far a name is resolved

abbrev next_of : Component
next_of = optional (plain (named.NumberBelow 1 16))

phase_spelled : (k : ℕ) (rest : List ℕ) → 1 ≤ k → k ≤ 3
    → Spelled 0 (named.Enumeration 1 3) (whole k) (10 ∷ 1 ∷ k ∷ rest) rest
phase_spelled k rest low high =
    leaf_spelled (named.Enumeration 1 3) 10 0 10 (universal 10 (Primitive (number (from_to 1 3)))) (whole k) (whole k)
    (k ∷ []) (10 ∷ 1 ∷ k ∷ rest) rest (one_octet 10 k rest (lit< tt) (lit< tt)) refl (lit< tt) (λ w. refl)
    (number_there (from_to 1 3) (k ∷ []) (pos k) (small_number k (omega (arith, high))) (within 1 3 k low high)) refl

next_spelled : (k : ℕ) (rest : List ℕ) → 1 ≤ k → k ≤ 16
    → Spelled 0 (named.NumberBelow 1 16) (whole k) (2 ∷ 1 ∷ k ∷ rest) rest
next_spelled k rest low high =
    leaf_spelled (named.NumberBelow 1 16) 2 0 2 (integer (from_to 1 16)) (whole k) (whole k) (k ∷ [])
    (2 ∷ 1 ∷ k ∷ rest) rest
    (one_octet 2 k rest (lit< tt) (lit< tt)) refl (lit< tt) (λ w. refl)
    (number_there (from_to 1 16) (k ∷ []) (pos k) (small_number k (omega (arith, high))) (within 1 16 k low high)) refl

progress_whole : (first next : Node) (content octets rest : List ℕ) → Opens 48 content octets rest
    → SpelledInOrder 0 (plain (named.Enumeration 1 3) ∷ next_of ∷ []) (first ∷ next ∷ []) content
    → progress_rule (node_of (first ∷ next ∷ [])) ≡ Some (node_of (first ∷ next ∷ []))
    → Spelled 1 named.Progress (node_of (first ∷ next ∷ [])) octets rest
progress_whole first next content octets rest o s rule =
    branch_spelled 0 named.Progress 48 0 16
    (ruled progress_rule (sequence (plain (named.Enumeration 1 3) ∷ next_of ∷ []))) (node_of (first ∷ next ∷ []))
    (node_of (first ∷ next ∷ [])) content octets rest o refl (λ w. refl)
    (order_in 0 (plain (named.Enumeration 1 3) ∷ next_of ∷ []) (first ∷ next ∷ []) content s) rule

pub start_read : (rest : List ℕ) → Reads 1 named.Progress progress_in Start (48 ∷ 3 ∷ 10 ∷ 1 ∷ 1 ∷ rest) rest
start_read rest = (
  node_of (whole 1 ∷ Vacant ∷ []),
  progress_whole (whole 1) Vacant (10 ∷ 1 ∷ 1 ∷ []) (48 ∷ 3 ∷ 10 ∷ 1 ∷ 1 ∷ rest) rest
      (three_octets 48 10 1 1 rest (lit< tt) (lit< tt))
      (order_next 0 (named.Enumeration 1 3) (next_of ∷ []) (whole 1) (Vacant ∷ []) (10 ∷ 1 ∷ 1 ∷ []) []
      (phase_spelled 1 [] (omega arith) (omega arith)) (order_missing 0 (named.NumberBelow 1 16) Vacant)) refl,
  refl,
)

pub done_read : (rest : List ℕ) → Reads 1 named.Progress progress_in Done (48 ∷ 3 ∷ 10 ∷ 1 ∷ 3 ∷ rest) rest
done_read rest = (
  node_of (whole 3 ∷ Vacant ∷ []),
  progress_whole (whole 3) Vacant (10 ∷ 1 ∷ 3 ∷ []) (48 ∷ 3 ∷ 10 ∷ 1 ∷ 3 ∷ rest) rest
      (three_octets 48 10 1 3 rest (lit< tt) (lit< tt))
      (order_next 0 (named.Enumeration 1 3) (next_of ∷ []) (whole 3) (Vacant ∷ []) (10 ∷ 1 ∷ 3 ∷ []) []
      (phase_spelled 3 [] (omega arith) (omega arith)) (order_missing 0 (named.NumberBelow 1 16) Vacant)) refl,
  refl,
)

pub next_read : (k : ℕ) (rest : List ℕ) → 1 ≤ k → k ≤ 16
    → Reads 1 named.Progress progress_in (Next k) (48 ∷ 6 ∷ 10 ∷ 1 ∷ 2 ∷ 2 ∷ 1 ∷ k ∷ rest) rest
next_read k rest low high = (
  node_of (whole 2 ∷ whole k ∷ []),
  progress_whole (whole 2) (whole k) (10 ∷ 1 ∷ 2 ∷ 2 ∷ 1 ∷ k ∷ []) (48 ∷ 6 ∷ 10 ∷ 1 ∷ 2 ∷ 2 ∷ 1 ∷ k ∷ rest) rest
      (six_there 48 10 1 2 2 1 k rest (lit< tt) (lit< tt))
      (order_next 0 (named.Enumeration 1 3) (next_of ∷ []) (whole 2) (whole k ∷ []) (10 ∷ 1 ∷ 2 ∷ 2 ∷ 1 ∷ k ∷ [])
      (2 ∷ 1 ∷ k ∷ []) (phase_spelled 2 (2 ∷ 1 ∷ k ∷ []) (omega arith) (omega arith))
      (order_given 0 (named.NumberBelow 1 16) Vacant [] (whole k) [] (2 ∷ 1 ∷ k ∷ []) [] (next_spelled k [] low high)
      (order_over 0))) refl,
  refl,
)

-- ---- kinds of references

abbrev kinds : List ℕ
kinds = 1 ∷ 2 ∷ 3 ∷ 4 ∷ 5 ∷ 8 ∷ []

abbrev Knows : ℕ → RefType → Type 0
Knows n k = (n < 128) × (one_of kinds (pos n) ≡ true) × (k ≡ kind_in (whole n))

the_one : (n m : ℕ) (k : RefType) → (n == m) ≡ true → Knows m k → Knows n k
the_one n m k e h =
    let same : n ≡ m = (Decides-eqb n m).0 e in subst (λ (j : ℕ). Knows j k) (sym same) h

kind_known : (n : ℕ) (k : RefType) → kind_of_number n ≡ Some k → Knows n k
kind_known n k e =
    elim (chosen (n == 1) (Some Superior) _ (Some k) e) [
      | inl s ↦ the_one n 1 k s.0 (lit< tt, refl, cc s.1)
      | inr o ↦ elim (chosen (n == 2) (Some Subordinate) _ (Some k) o.1) [
        | inl s ↦ the_one n 2 k s.0 (lit< tt, refl, cc s.1)
        | inr p ↦ elim (chosen (n == 3) (Some Cross) _ (Some k) p.1) [
          | inl s ↦ the_one n 3 k s.0 (lit< tt, refl, cc s.1)
          | inr q ↦ elim (chosen (n == 4) (Some NonSpecific) _ (Some k) q.1) [
            | inl s ↦ the_one n 4 k s.0 (lit< tt, refl, cc s.1)
            | inr r ↦ elim (chosen (n == 5) (Some Supplier) _ (Some k) r.1) [
              | inl s ↦ the_one n 5 k s.0 (lit< tt, refl, cc s.1)
              | inr t ↦ elim (chosen (n == 8) (Some Own) None (Some k) t.1) [
                | inl s ↦ the_one n 8 k s.0 (lit< tt, refl, cc s.1)
                | inr u ↦ absurd (cc u.1)
              ]
            ]
          ]
        ]
      ]
    ]

pub kind_read : (n : ℕ) (k : RefType) (rest : List ℕ) → kind_of_number n ≡ Some k
    → Reads 0 named.RefType kind_in k (2 ∷ 1 ∷ n ∷ rest) rest
kind_read n k rest e =
    let h = kind_known n k e in (
      whole n,
      leaf_spelled named.RefType 2 0 2 (integer (one_of kinds)) (whole n) (whole n) (n ∷ []) (2 ∷ 1 ∷ n ∷ rest) rest
          (one_octet 2 n rest (lit< tt) (lit< tt)) refl (lit< tt) (λ w. refl)
          (number_there (one_of kinds) (n ∷ []) (pos n) (small_number n h.0) h.1) refl,
      h.2,
    )

-- ---- numbers of one to four octets

pub number_is : (octets : List ℕ) (n : ℕ) → is_shortest octets ≡ true → nat_le (length octets) 8 ≡ true
    → complement octets ≡ pos n → number_of octets ≡ Some (pos n)
number_is octets n a b c = rw (a, b, c) refl

pub first_fits : (a b : ℕ) (more : List ℕ) → a < 128 → ((1 ≤ a) ⊎ (128 ≤ b)) → is_shortest (a ∷ b ∷ more) ≡ true
first_fits a b more small h = grind (arith, nat_tests)

pub two_number : (a b : ℕ) → a < 128 → is_shortest (a ∷ b ∷ []) ≡ true
    → number_of (a ∷ b ∷ []) ≡ Some (pos (a * 256 + b))
two_number a b less s =
    number_is (a ∷ b ∷ []) (a * 256 + b) s refl
    (rw (lt-ltb a 128 less) (let same : (0 * 256 + a) * 256 + b ≡ a * 256 + b = omega arith in rw same refl))

pub three_number : (a b c : ℕ) → a < 128 → is_shortest (a ∷ b ∷ c ∷ []) ≡ true
    → number_of (a ∷ b ∷ c ∷ []) ≡ Some (pos (a * 65536 + b * 256 + c))
three_number a b c less s =
    number_is (a ∷ b ∷ c ∷ []) (a * 65536 + b * 256 + c) s refl
    (rw (lt-ltb a 128 less)
    (let same : ((0 * 256 + a) * 256 + b) * 256 + c ≡ a * 65536 + b * 256 + c = omega arith in rw same refl))

pub four_number : (a b c d : ℕ) → a < 128 → is_shortest (a ∷ b ∷ c ∷ d ∷ []) ≡ true
    → number_of (a ∷ b ∷ c ∷ d ∷ []) ≡ Some (pos (a * 16777216 + b * 65536 + c * 256 + d))
four_number a b c d less s =
    number_is (a ∷ b ∷ c ∷ d ∷ []) (a * 16777216 + b * 65536 + c * 256 + d) s refl
    (rw (lt-ltb a 128 less)
    (let same : (((0 * 256 + a) * 256 + b) * 256 + c) * 256 + d ≡ a * 16777216 + b * 65536 + c * 256 + d = omega arith
    in
    rw same refl))

-- ---- octets behind a front, and just one

pub prefix_is : (octets front rest : List ℕ) → pointwise nat_eq (take (length front) octets) front ≡ true
    → rest ≡ drop (length front) octets → octets ≡ front ++ rest
prefix_is octets front rest e f =
    sym (take-append-drop (length front) octets)
    ∙ ap₂ (λ (x y : List ℕ). x ++ y) (same_text (take (length front) octets) front (sym e)) (sym f)

pub one_only : (octets : List ℕ) → length octets ≡ 1 → octets ≡ get_or octets 0 0 ∷ []
one_only [] e = absurd (omega (arith, e))
one_only (a ∷ []) e = refl
one_only (a ∷ b ∷ more) e = absurd (omega (arith, e))

pub none_left : (octets : List ℕ) → length octets ≡ 0 → octets ≡ []
none_left [] e = refl
none_left (a ∷ more) e = absurd (omega (arith, e))

pub flag_whole : (octets rest : List ℕ) → octets ≡ 1 ∷ 1 ∷ rest → length rest ≡ 1
    → Reads 0 named.Boolean flag_in (not (nat_eq (get_or rest 0 0) 0)) octets []
flag_whole octets rest e one =
    subst (λ (o : List ℕ). Reads 0 named.Boolean flag_in (not (nat_eq (get_or rest 0 0) 0)) o [])
    (sym (e ∙ ap (λ (r : List ℕ). 1 ∷ 1 ∷ r) (one_only rest one)))
    (flag_read (not (nat_eq (get_or rest 0 0) 0)) (get_or rest 0 0) [] refl)

pub kind_whole : (octets rest : List ℕ) (k : RefType) → octets ≡ 2 ∷ 1 ∷ rest → length rest ≡ 1
    → Some k ≡ kind_of_number (get_or rest 0 0) → Reads 0 named.RefType kind_in k octets []
kind_whole octets rest k e one is =
    subst (λ (o : List ℕ). Reads 0 named.RefType kind_in k o [])
    (sym (e ∙ ap (λ (r : List ℕ). 2 ∷ 1 ∷ r) (one_only rest one)))
    (kind_read (get_or rest 0 0) k [] (sym is))

pub agent_made : (agent text octets rest : List ℕ) → Opens 19 text octets rest
    → (if is_agent_name text then any_agent text else false) ≡ true → agent ≡ text
    → Reads 0 named.AgentName text_in agent octets rest
agent_made agent text octets rest o may is =
    subst (λ (a : List ℕ). Reads 0 named.AgentName text_in a octets rest) (sym is) (agent_read text octets rest o may)

pub empty_left : (octets : List ℕ) (b : Bool) → b ≡ (length octets == 0) → b ≡ true → octets ≡ []
empty_left octets b is so = none_left octets ((Decides-eqb (length octets) 0).0 (sym is ∙ so))

pub none_behind : (octets : List ℕ) (taken : ℕ) → taken ≡ length octets → drop taken octets ≡ []
none_behind octets taken e = none_left (drop taken octets) (omega (arith, length-drop taken octets, e))

pub start_at : (octets rest : List ℕ) → octets ≡ 48 ∷ 3 ∷ 10 ∷ 1 ∷ 1 ∷ rest
    → Reads 1 named.Progress progress_in Start octets rest
start_at octets rest e = subst (λ (o : List ℕ). Reads 1 named.Progress progress_in Start o rest) (sym e)
    (start_read rest)

pub done_at : (octets rest : List ℕ) → octets ≡ 48 ∷ 3 ∷ 10 ∷ 1 ∷ 3 ∷ rest
    → Reads 1 named.Progress progress_in Done octets rest
done_at octets rest e = subst (λ (o : List ℕ). Reads 1 named.Progress progress_in Done o rest) (sym e) (done_read rest)

pub next_at : (k : ℕ) (octets more rest : List ℕ) → octets ≡ 48 ∷ 6 ∷ 10 ∷ 1 ∷ 2 ∷ 2 ∷ 1 ∷ more → more ≡ k ∷ rest
    → 1 ≤ k
    → k ≤ 16 → Reads 1 named.Progress progress_in (Next k) octets rest
next_at k octets more rest e f low high =
    subst (λ (o : List ℕ). Reads 1 named.Progress progress_in (Next k) o rest)
    (sym (e ∙ ap (λ (m : List ℕ). 48 ∷ 6 ∷ 10 ∷ 1 ∷ 2 ∷ 2 ∷ 1 ∷ m) f)) (next_read k rest low high)

pub three_only : (octets : List ℕ) → length octets ≡ 3
    → octets ≡ get_or octets 0 0 ∷ get_or octets 1 0 ∷ get_or octets 2 0 ∷ []
three_only [] e = absurd (omega (arith, e))
three_only (a ∷ []) e = absurd (omega (arith, e))
three_only (a ∷ b ∷ []) e = absurd (omega (arith, e))
three_only (a ∷ b ∷ c ∷ []) e = refl
three_only (a ∷ b ∷ c ∷ d ∷ more) e = absurd (omega (arith, e))
