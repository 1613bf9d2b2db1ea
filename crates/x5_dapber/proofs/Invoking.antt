-- An id and an operation's code, each from what is found of its octets, and the whole message with them.
use Rattle.std.proofs.Common.{◌≡◌, ℕ, ◌+◌, ◌*◌, ◌<◌, ◌%◌, Bool, true, List, [], ◌∷◌, length}
use Rattle.std.proofs.Common.{refl, ap, sym, ◌∙◌, subst, arith, lit<, drop}
use Rattle.std.specs.Prelude.{ℤ, pos}
use Rattle.std.proofs.lemmas.Bool.{lt-ltb}
use Rattle.std.specs.declared.option.Option.{Option}
use Rattle.std.specs.declared.option.Option.TheVariants.{Some}
use Rattle.x5_model_typed.specs.Forms.{Primitive, by_tag, code, plain}
use Rattle.x5_model_typed.specs.Judged.{leaf_node}
use Rattle.x5_model_typed.specs.Layouts.{Surroundings, layout, integer, id, invoke, named_by, operation_codes}
use Rattle.x5_model_typed.specs.Leaves.{number, from_to, any_number}
use Rattle.x5_model_typed.specs.Named as named
use Rattle.x5_model_typed.specs.Nodes.{Node, Chosen, Many, row, whole}
use Rattle.x5_model_typed.specs.Trees.{Row}
use Rattle.x5_model_typed.specs.Typed as typed
use Rattle.x5_direct.specs.Spelled.{Opens, Spelled, SpelledInOrder}
use Rattle.x5_direct.proofs.Heads.{opens_so, short_length}
use Rattle.x5_direct.proofs.Spelling.{branch_spelled, leaf_spelled, has_tag, order_in, order_next, order_over}
use Rattle.x5_direct.proofs.Spelling.{spelled_higher}
use Rattle.x5_dapber.specs.Direct.{Invokes, code_of}

-- ---- small numbers

-- An identifier octet, the length 1, and a content of one octet.
pub one_octet : (first a : ℕ) (rest : List ℕ) → first < 256 → first % 32 < 31
    → Opens first (a ∷ []) (first ∷ 1 ∷ a ∷ rest) rest
one_octet first a rest small low =
    opens_so first 1 (first ∷ 1 ∷ a ∷ rest) (1 ∷ a ∷ rest) (a ∷ rest) (a ∷ []) rest small low refl
    (short_length 1 (a ∷ rest) (lit< tt)) (omega arith) refl refl

pub number_reads : (test : ℤ → Bool) (k : ℕ) → k < 128 → test (pos k) ≡ true
    → leaf_node (Primitive (number test)) (k ∷ []) ≡ Some (whole k)
number_reads test k small is =
    let same : 0 * 256 + k ≡ k = omega arith in rw (lt-ltb k 128 small, same, is) refl

-- ---- what is left of octets

pub all_taken : (k : ℕ) (octets : List ℕ) → k ≡ length octets → drop k octets ≡ []
all_taken k octets e = ap (λ (j : ℕ). drop j octets) e ∙ by octets
  where
    by : (l : List ℕ) → drop (length l) l ≡ []
    by [] = refl
    by (o ∷ l) = by l

-- ---- ids and codes

pub id_spelled : (k : ℕ) (content octets rest : List ℕ) → Opens 2 content octets rest
    → leaf_node (Primitive (number (from_to 0 4294967295))) content ≡ Some (whole k)
    → Spelled 0 (named.NumberBelow 0 4294967295) (whole k) octets rest
id_spelled k content octets rest o reads =
    leaf_spelled (named.NumberBelow 0 4294967295) 2 0 2 (integer (from_to 0 4294967295)) (whole k) (whole k) content
    octets rest o refl (lit< tt) (λ w. refl) reads refl

pub code_spelled : (k : ℕ) (octets rest : List ℕ) → octets ≡ 2 ∷ 1 ∷ k ∷ rest → k < 128
    → Spelled 0 named.AnyNumber (whole k) octets rest
code_spelled k octets rest is small =
    subst (λ (l : List ℕ). Spelled 0 named.AnyNumber (whole k) l rest) (sym is)
    (leaf_spelled named.AnyNumber 2 0 2 (integer any_number) (whole k) (whole k) (k ∷ []) (2 ∷ 1 ∷ k ∷ rest) rest
    (one_octet 2 k rest (lit< tt) (lit< tt)) refl (lit< tt) (λ w. refl) (number_reads any_number k small refl) refl)

by_code : (inner : named.Operation → named.Named) (o : named.Operation)
    → named_by (operation_codes inner) (pos (code_of o)) ≡ Some (inner o)
by_code inner named.Read = refl
by_code inner named.Compare = refl
by_code inner named.ListBelow = refl
by_code inner named.Search = refl
by_code inner named.AddEntry = refl
by_code inner named.RemoveEntry = refl
by_code inner named.ModifyEntry = refl
by_code inner named.ModifyDn = refl

code_next : (levels k : ℕ) (codes : ℤ → Option named.Named) (form : named.Named) (n : Node) (octets behind : List ℕ)
    → codes (pos k) ≡ Some form → Spelled levels named.AnyNumber (whole k) octets behind
    → SpelledInOrder levels (plain form ∷ []) (n ∷ []) behind
    → SpelledInOrder levels (code named.AnyNumber codes ∷ []) (whole k ∷ n ∷ []) octets
code_next levels k codes form n octets behind names s others depth at room =
    let e = s.is_element depth at room in
    let more = others depth (at + length s.part) room in
    record {
      members = Row e.tree more.members;
      lie = (s.part, behind, e.lies, more.lie, s.whole);
      in_order = λ w.
          typed.next (has_tag (layout w) (layout w named.AnyNumber) e.tree (whole k) (e.is_of w)) (e.is_of w)
          (typed.named (pos k) form refl names) (more.in_order w);
    }

-- A message of an operation.
pub invoke_spelled : (levels : ℕ) (message : named.Named) (inner : named.Operation → named.Named)
    (o : named.Operation) (i k : ℕ) (n : Node) (octets behind : List ℕ)
    → ((w : Surroundings) → by_tag 2 1 (layout w message) ≡ Some (invoke (operation_codes inner)))
    → Invokes i k o octets behind → Spelled levels (inner o) n behind []
    → Spelled (levels + 1) message (Chosen 1 (Many (row (whole i ∷ whole k ∷ n ∷ [])))) octets []
invoke_spelled levels message inner o i k n octets behind is v s =
    let codes = named_by (operation_codes inner) in
    let ns : List Node = whole i ∷ whole k ∷ n ∷ [] in
    let m : Node = Many (row ns) in
    let names : codes (pos k) ≡ Some (inner o) = ap (λ (j : ℕ). codes (pos j)) v.code_is ∙ by_code inner o in
    branch_spelled levels message 161 2 1 (invoke (operation_codes inner)) m m v.content octets [] v.opens refl is
    (order_in levels (id ∷ code named.AnyNumber codes ∷ []) ns v.content
    (order_next levels (named.NumberBelow 0 4294967295) (code named.AnyNumber codes ∷ []) (whole i)
    (whole k ∷ n ∷ []) v.content v.after
    (spelled_higher 0 levels (named.NumberBelow 0 4294967295) (whole i) v.content v.after (omega arith) v.id)
    (code_next levels k codes (inner o) n v.after behind names
    (spelled_higher 0 levels named.AnyNumber (whole k) v.after behind (omega arith) v.code)
    (order_next levels (inner o) [] n [] behind [] s (order_over levels)))))
    refl
