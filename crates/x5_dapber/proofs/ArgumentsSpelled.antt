-- Arguments, each from what is found of its components.
use Rattle.std.proofs.Common.{◌≡◌, ℕ, List, [], ◌∷◌, refl, lit<, lit≤, subst, sym}
use Rattle.std.specs.declared.option.Option.TheVariants.{Some}
use Rattle.x5_model.specs.Filters.{Assertion, Filter}
use Rattle.x5_model.specs.Requests as model
use Rattle.x5_model.specs.Values.{Name}
use Rattle.x5_model_messages.specs.FilterTerms.{filter_in}
use Rattle.x5_model_messages.specs.Requests.{argument_in, controls_in, selection_in, subset_in, subset_number}
use Rattle.x5_model_messages.specs.Terms.{name_of, assertion_in}
use Rattle.x5_model_typed.specs.Forms.{Primitive, at, or}
use Rattle.x5_model_typed.specs.Judged.{leaf_node}
use Rattle.x5_model_typed.specs.Layouts.{argument, controls, all_attributes, everything, set, integer}
use Rattle.x5_model_typed.specs.Leaves.{from_to, number}
use Rattle.x5_model_typed.specs.Named as named
use Rattle.x5_model_typed.specs.Nodes.{Node, Many, row, whole}
use Rattle.x5_direct.specs.Spelled.{Opens, Reads}
use Rattle.x5_direct.proofs.Spelling.{branch_spelled, leaf_spelled}
use Rattle.x5_dapber.specs.Direct.{ReadsNext, SpelledInSet}
use Rattle.x5_dapber.proofs.Invoking.{one_octet}
use Rattle.x5_dapber.proofs.Sets.{reads_higher, set_in, set_over}

argument_read : (o : named.Operation) (k : ℕ) (r : model.Request) (ns : List Node) (content octets : List ℕ)
    → Opens 49 content octets [] → SpelledInSet 49 0 (argument o) ns content → r ≡ argument_in k (Many (row ns))
    → Reads 50 (named.Argument o) (argument_in k) r octets []
argument_read o k r ns content octets opens s e =
    let n : Node = Many (row ns) in (
      n,
      branch_spelled 49 (named.Argument o) 49 0 17 (set (argument o)) n n content octets [] opens refl (λ w. refl)
          (set_in 49 0 (argument o) ns content s) refl,
      e,
    )

abbrev asked : model.Controls → model.Body → model.Request
asked c b = record { controls = c; body = b }

-- ---- where a search looks

subset_said : (s : model.Subset) → s ≡ subset_in (whole (subset_number s))
subset_said model.Base = refl
subset_said model.OneLevel = refl
subset_said model.WholeSubtree = refl

subset_reads : (s : model.Subset) → leaf_node (Primitive (number (from_to 0 2))) (subset_number s ∷ [])
    ≡ Some (whole (subset_number s))
subset_reads model.Base = refl
subset_reads model.OneLevel = refl
subset_reads model.WholeSubtree = refl

pub subset_read : (s : model.Subset) (content : List ℕ) → content ≡ 2 ∷ 1 ∷ subset_number s ∷ []
    → Reads 48 (named.NumberBelow 0 2) subset_in s content []
subset_read s content is =
    let k = subset_number s in
    reads_higher 0 48 (named.NumberBelow 0 2) subset_in s content [] (lit≤ tt)
    (subst (λ (l : List ℕ). Reads 0 (named.NumberBelow 0 2) subset_in s l []) (sym is) (
      whole k,
      leaf_spelled (named.NumberBelow 0 2) 2 0 2 (integer (from_to 0 2)) (whole k) (whole k) (k ∷ [])
          (2 ∷ 1 ∷ k ∷ []) [] (one_octet 2 k [] (lit< tt) (lit< tt)) refl (lit< tt) (λ w. refl) (subset_reads s) refl,
      subset_said s,
    ))

-- ---- each operation

abbrev IsObject : Name → List ℕ → List ℕ → Type 0
IsObject name octets rest = ReadsNext 49 0 (at 0 named.Name) name_of name octets rest

abbrev IsSelection : ℕ → model.Selection → List ℕ → List ℕ → Type 0
IsSelection k s octets rest = ReadsNext 49 k (or all_attributes (at k named.Selection)) selection_in s octets rest

abbrev AreControls : model.Controls → List ℕ → Type 0
AreControls c octets = ReadsNext 49 30 controls controls_in c octets []

read_said : (c : model.Controls) (name : Name) (s : model.Selection) (a b d : Node) → name ≡ name_of a
    → s ≡ selection_in b → c ≡ controls_in d
    → asked c (model.Read name s) ≡ argument_in 1 (Many (row (a ∷ b ∷ d ∷ [])))
read_said c name s a b d e f g = cc (e, f, g)

pub read_read : (c : model.Controls) (name : Name) (s : model.Selection) (content octets second third : List ℕ)
    → Opens 49 content octets [] → IsObject name content second → IsSelection 1 s second third → AreControls c third
    → Reads 50 (named.Argument named.Read) (argument_in 1) (asked c (model.Read name s)) octets []
read_read c name s content octets second third o a b d =
    argument_read named.Read 1 (asked c (model.Read name s)) (a.0 ∷ b.0 ∷ d.0 ∷ []) content octets o
    (a.1 1 _ _ (lit< tt) (b.1 30 _ _ (lit< tt) (d.1 31 [] [] (lit< tt) (set_over 49 31))))
    (read_said c name s a.0 b.0 d.0 a.2 b.2 d.2)

compare_said : (c : model.Controls) (name : Name) (s : Assertion) (a b d : Node) → name ≡ name_of a
    → s ≡ assertion_in b → c ≡ controls_in d
    → asked c (model.Compare name s) ≡ argument_in 2 (Many (row (a ∷ b ∷ d ∷ [])))
compare_said c name s a b d e f g = cc (e, f, g)

pub compare_read : (c : model.Controls) (name : Name) (s : Assertion) (content octets second third : List ℕ)
    → Opens 49 content octets [] → IsObject name content second
    → ReadsNext 49 1 (at 1 named.Assertion) assertion_in s second third → AreControls c third
    → Reads 50 (named.Argument named.Compare) (argument_in 2) (asked c (model.Compare name s)) octets []
compare_read c name s content octets second third o a b d =
    argument_read named.Compare 2 (asked c (model.Compare name s)) (a.0 ∷ b.0 ∷ d.0 ∷ []) content octets o
    (a.1 1 _ _ (lit< tt) (b.1 30 _ _ (lit< tt) (d.1 31 [] [] (lit< tt) (set_over 49 31))))
    (compare_said c name s a.0 b.0 d.0 a.2 b.2 d.2)

list_said : (c : model.Controls) (name : Name) (a d : Node) → name ≡ name_of a → c ≡ controls_in d
    → asked c (model.ListBelow name) ≡ argument_in 4 (Many (row (a ∷ d ∷ [])))
list_said c name a d e g = cc (e, g)

pub list_read : (c : model.Controls) (name : Name) (content octets second : List ℕ)
    → Opens 49 content octets [] → IsObject name content second → AreControls c second
    → Reads 50 (named.Argument named.ListBelow) (argument_in 4) (asked c (model.ListBelow name)) octets []
list_read c name content octets second o a d =
    argument_read named.ListBelow 4 (asked c (model.ListBelow name)) (a.0 ∷ d.0 ∷ []) content octets o
    (a.1 30 _ _ (lit< tt) (d.1 31 [] [] (lit< tt) (set_over 49 31))) (list_said c name a.0 d.0 a.2 d.2)

remove_said : (c : model.Controls) (name : Name) (a d : Node) → name ≡ name_of a → c ≡ controls_in d
    → asked c (model.RemoveEntry name) ≡ argument_in 7 (Many (row (a ∷ d ∷ [])))
remove_said c name a d e g = cc (e, g)

pub remove_read : (c : model.Controls) (name : Name) (content octets second : List ℕ)
    → Opens 49 content octets [] → IsObject name content second → AreControls c second
    → Reads 50 (named.Argument named.RemoveEntry) (argument_in 7) (asked c (model.RemoveEntry name)) octets []
remove_read c name content octets second o a d =
    argument_read named.RemoveEntry 7 (asked c (model.RemoveEntry name)) (a.0 ∷ d.0 ∷ []) content octets o
    (a.1 30 _ _ (lit< tt) (d.1 31 [] [] (lit< tt) (set_over 49 31))) (remove_said c name a.0 d.0 a.2 d.2)

search_said : (c : model.Controls) (name : Name) (u : model.Subset) (f : Filter) (s : model.Selection) (a b d e g : Node)
    → name ≡ name_of a → u ≡ subset_in b → f ≡ filter_in d → s ≡ selection_in e → c ≡ controls_in g
    → asked c (model.Search name u f s) ≡ argument_in 5 (Many (row (a ∷ b ∷ d ∷ e ∷ g ∷ [])))
search_said c name u f s a b d e g h i j k l = cc (h, i, j, k, l)

pub search_read : (c : model.Controls) (name : Name) (u : model.Subset) (f : Filter) (s : model.Selection)
    (content octets second third fourth fifth : List ℕ)
    → Opens 49 content octets [] → IsObject name content second
    → ReadsNext 49 1 (or (whole 0) (at 1 (named.NumberBelow 0 2))) subset_in u second third
    → ReadsNext 49 2 (or everything (at 2 (named.Filter 16))) filter_in f third fourth
    → IsSelection 4 s fourth fifth → AreControls c fifth
    → Reads 50 (named.Argument named.Search) (argument_in 5) (asked c (model.Search name u f s)) octets []
search_read c name u f s content octets second third fourth fifth o a b d e g =
    argument_read named.Search 5 (asked c (model.Search name u f s)) (a.0 ∷ b.0 ∷ d.0 ∷ e.0 ∷ g.0 ∷ []) content octets o
    (a.1 1 _ _ (lit< tt) (b.1 2 _ _ (lit< tt) (d.1 4 _ _ (lit< tt) (e.1 30 _ _ (lit< tt)
    (g.1 31 [] [] (lit< tt) (set_over 49 31))))))
    (search_said c name u f s a.0 b.0 d.0 e.0 g.0 a.2 b.2 d.2 e.2 g.2)
