-- Items of a trace that differ in what is said of them are different as messages have them.
use Rattle.std.proofs.Common.{◌≡◌, ◌≤◌, Bool, true, false, not, ◌&&◌, ◌||◌, List, [], ◌∷◌, length, map}
use Rattle.std.proofs.Common.{refl, ap₂, sym, ◌∙◌, subst, inl, inr}
use Rattle.std.specs.Cmp.Lexicographic.{bytes_decides}
use Rattle.std.proofs.lemmas.Bool.{le-leb, eq-eqb}
use Rattle.std.specs.declared.option.Option.TheVariants.{Some}
use Rattle.x5_model.specs.Keys.{same_key}
use Rattle.x5_model.specs.References.{Progress, Start, Next, Done}
use Rattle.x5_model.specs.Words.{has, distinct, same_octets}
use Rattle.x5_model.proofs.Lists.{both_true, and_true, true_or_false}
use Rattle.x5_model_fitting.specs.Chained.{same_item}
use Rattle.x5_model_fitting.proofs.Chained.{distinct_kept}
use Rattle.x5_model_fitting.proofs.Names.{name_key_of}
use Rattle.x5_model.specs.Normal.{written_key}
use Rattle.x5_model_messages.specs.Replies.{TraceItem, item_in, progress_in}
use Rattle.x5_model_messages.specs.Terms.{name_of, flag_in}
use Rattle.x5_model_run.specs.Journal.{same_name, same_progress}
use Rattle.x5_model_typed.specs.Nodes as nodes
use Rattle.x5_model_typed.specs.Nodes.{Node, Many, parts, row, same_bit}
use Rattle.x5_model_typed.specs.Rules as rules
use Rattle.x5_model_typed.specs.Rules.{text_in, name_in, trace_rule, most_items}
use Rattle.x5_model_typed.proofs.Laws.{list_row}
use Rattle.x5_model_typed_laws.proofs.Reading.{same_is}
use Rattle.x5_ops.specs.ReferenceViews.{progress_view}
use Rattle.x5_ops.specs.declared.references.TraceItem as items
use Rattle.x5_dapreply.specs.ReplyViews.{told_item}
use Rattle.x5_trace.specs.Items.{same_kind, same_named}

-- ---- two items

said : Node → Node → Node → Node → TraceItem
said a b c d = record { agent = text_in a; target = name_of b; progress = progress_in c; wide = flag_in d }

progress_itself : (p : Progress) → same_progress p p ≡ true
progress_itself Start = refl
progress_itself (Next k) = eq-eqb k k refl
progress_itself Done = refl

bit_itself : (b : Bool) → same_bit b b ≡ true
bit_itself true = refl
bit_itself false = refl

abbrev alike : Node → Node → Node → Node → Node → Node → Node → Node → Bool
alike a b c d a' b' c' d' =
    nodes.same a a' && same_key (written_key (name_in b)) (written_key (name_in b'))
    && nodes.same c c' && nodes.same d d'

names_alike : (b b' : Node) → same_key (written_key (name_in b)) (written_key (name_in b')) ≡ true
    → same_name (name_of b) (name_of b') ≡ true
names_alike b b' e = ap₂ same_key (name_key_of (name_in b)) (name_key_of (name_in b')) ∙ e

parts_alike : (a b c d a' b' c' d' : Node) → alike a b c d a' b' c' d' ≡ true
    → same_item (said a b c d) (said a' b' c' d') ≡ true
unfolding said
parts_alike a b c d a' b' c' d' e =
    let agents = nodes.same a a' in
    let targets = same_key (written_key (name_in b)) (written_key (name_in b')) in
    let progresses = nodes.same c c' in
    let first = both_true (agents && targets && progresses) (nodes.same d d') e in
    let second = both_true (agents && targets) progresses first.0 in
    let third = both_true agents targets second.0 in
    let agent : same_octets (text_in a) (text_in a') ≡ true =
    subst (λ (x : Node). same_octets (text_in a) (text_in x) ≡ true) (same_is a a' third.0)
    ((bytes_decides (text_in a) (text_in a)).1 refl) in
    let progress : same_progress (progress_in c) (progress_in c') ≡ true =
    subst (λ (x : Node). same_progress (progress_in c) (progress_in x) ≡ true) (same_is c c' second.1)
    (progress_itself (progress_in c)) in
    let mark : same_bit (flag_in d) (flag_in d') ≡ true =
    subst (λ (x : Node). same_bit (flag_in d) (flag_in x) ≡ true) (same_is d d' first.1) (bit_itself (flag_in d)) in
    let named = same_octets (text_in a) (text_in a') in
    let aimed = same_name (name_of b) (name_of b') in
    let so_far = same_progress (progress_in c) (progress_in c') in
    and_true (named && aimed && so_far) (same_bit (flag_in d) (flag_in d'))
    (and_true (named && aimed) so_far (and_true named aimed agent (names_alike b b' third.1)) progress) mark

abbrev made : List Node → Node
made ns = Many (row ns)

rows_alike : (k l : List Node) → rules.same_item (made k) (made l) ≡ true
    → same_item (item_in (made k)) (item_in (made l)) ≡ true
unfolding said
rows_alike (a ∷ b ∷ c ∷ d ∷ []) (a' ∷ b' ∷ c' ∷ d' ∷ []) e = parts_alike a b c d a' b' c' d' e
rows_alike [] l e = absurd (cc e)
rows_alike (a ∷ []) l e = absurd (cc e)
rows_alike (a ∷ b ∷ []) l e = absurd (cc e)
rows_alike (a ∷ b ∷ c ∷ []) l e = absurd (cc e)
rows_alike (a ∷ b ∷ c ∷ d ∷ f ∷ k) l e = absurd (cc e)
rows_alike (a ∷ b ∷ c ∷ d ∷ []) [] e = absurd (cc e)
rows_alike (a ∷ b ∷ c ∷ d ∷ []) (a' ∷ []) e = absurd (cc e)
rows_alike (a ∷ b ∷ c ∷ d ∷ []) (a' ∷ b' ∷ []) e = absurd (cc e)
rows_alike (a ∷ b ∷ c ∷ d ∷ []) (a' ∷ b' ∷ c' ∷ []) e = absurd (cc e)
rows_alike (a ∷ b ∷ c ∷ d ∷ []) (a' ∷ b' ∷ c' ∷ d' ∷ f ∷ l) e = absurd (cc e)

item_row : (m : Node) → item_in m ≡ item_in (made (parts m))
item_row m = rw (list_row (parts m)) refl

same_rows : (m n : Node) → rules.same_item m n ≡ rules.same_item (made (parts m)) (made (parts n))
same_rows m n = rw (list_row (parts m), list_row (parts n)) refl

items_alike : (m n : Node) → rules.same_item m n ≡ true → same_item (item_in m) (item_in n) ≡ true
items_alike m n e =
    ap₂ same_item (item_row m) (item_row n) ∙ rows_alike (parts m) (parts n) (sym (same_rows m n) ∙ e)

-- ---- all of them

not_true : (a b : Bool) → (a ≡ true → b ≡ true) → b ≡ false → a ≡ false
not_true true b f e = sym (f refl) ∙ e
not_true false b f e = refl

so_among : (n : Node) (ns : List Node) → has rules.same_item ns n ≡ true
    → has same_item (map item_in ns) (item_in n) ≡ true
so_among n [] e = absurd (cc e)
so_among n (m ∷ ns) e = elim (true_or_false (rules.same_item m n)) [
  | inl h ↦ rw (items_alike m n h) refl
  | inr h ↦ (let rest : has rules.same_item ns n ≡ true =
      subst (λ (b : Bool). (b || has rules.same_item ns n) ≡ true) h e in
      or_later (same_item (item_in m) (item_in n)) (has same_item (map item_in ns) (item_in n)) (so_among n ns rest))
]
  where
    or_later : (a b : Bool) → b ≡ true → (a || b) ≡ true
    or_later true b f = refl
    or_later false b f = f

false_of : (b : Bool) → not b ≡ true → b ≡ false
false_of true e = absurd (cc e)
false_of false e = refl

pub so_distinct : (ns : List Node) → distinct same_item (map item_in ns) ≡ true → distinct rules.same_item ns ≡ true
so_distinct [] e = refl
so_distinct (n ∷ ns) e =
    let both = both_true (not (has same_item (map item_in ns) (item_in n))) (distinct same_item (map item_in ns)) e in
    let none : has rules.same_item ns n ≡ false =
    not_true (has rules.same_item ns n) (has same_item (map item_in ns) (item_in n)) (so_among n ns)
    (false_of (has same_item (map item_in ns) (item_in n)) both.0) in
    rw (none) (so_distinct ns both.1)

-- The rule of a trace (X.518, section 10.6).
pub so_ruled : (ns : List Node) → length ns ≤ most_items → distinct same_item (map item_in ns) ≡ true
    → trace_rule (made ns) ≡ Some (made ns)
so_ruled ns few once =
    rw (list_row ns, le-leb (length ns) most_items few, so_distinct ns once) refl

-- ---- items of the code

kinds_alike : (a b : Bool) → same_bit a b ≡ same_kind a b
kinds_alike true b = refl
kinds_alike false true = refl
kinds_alike false false = refl

bracketed : (a b c d e : Bool) → d ≡ e → (a && b && c && d) ≡ (a && (b && (c && e)))
bracketed true true true d e is = is
bracketed true true false d e is = refl
bracketed true false c d e is = refl
bracketed false b c d e is = refl

told_alike : (x y : items.TraceItem) → same_item (told_item x) (told_item y) ≡ same_named x y
told_alike x y =
    bracketed (same_octets x.agent y.agent) (same_name x.target y.target)
    (same_progress (progress_view x.progress) (progress_view y.progress)) (same_bit x.wide y.wide)
    (same_kind x.wide y.wide) (kinds_alike x.wide y.wide)

pub told_distinct : (xs : List items.TraceItem) → distinct same_named xs ≡ true
    → distinct same_item (map told_item xs) ≡ true
told_distinct xs once = distinct_kept told_item same_named same_item xs (λ x y i j. told_alike x y) ∙ once
