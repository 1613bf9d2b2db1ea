-- Types and names are read back: by the four arcs of a known type, and pair by pair.
use Rattle.std.proofs.Common.{◌≡◌, ℕ, Bool, true, false, not, ◌&&◌, List, [], ◌∷◌, map, refl, ap, ap₂, ◌∙◌}
use Rattle.std.specs.Prelude.{◌==◌, if◌then◌else◌}
use Rattle.std.specs.List.{list_all}
use Rattle.std.specs.declared.option.Option.{Option}
use Rattle.std.specs.declared.option.Option.TheVariants.{None, Some}
use Rattle.x5_model.specs.Words.{in_option}
use Rattle.x5_model.specs.Values.{Known, Unknown, Text, NameValue, written}
use Rattle.x5_model.specs.Types.{is_known, in_table}
use Rattle.x5_model.specs.Normal.{stored}
use Rattle.x5_model.proofs.Lists.{both_true}
use Rattle.x5_model_text.specs.TypeText.{known_below, type_or}
use Rattle.x5_model_typed.specs.Nodes.{Node}
use Rattle.x5_model_typed.specs.Rules.{pair_in, rdn_in, name_in}
use Rattle.x5_model_typed.proofs.Laws.{list_row}
use Rattle.x5_model_messages.specs.Terms.{pair_node, pairs_node, name_value_node}
use Rattle.x5_model_messages.specs.Laws.{TypesReadBack, NamesReadBack, has_known_types}

pub known : (k : ℕ) → is_known k ≡ true → known_below (2 ∷ 5 ∷ 4 ∷ k ∷ []) ≡ Some k
known k h = ap (λ (b : Bool). if b then Some k else None) h

by_parts : (a b c d : Bool) (n : ℕ) → not (a && (b && (c && d))) ≡ true → (if a && b && c && d then Some n else None) ≡ None
by_parts true true true true n h = absurd (cc h)
by_parts true true true false n h = refl
by_parts true true false d n h = refl
by_parts true false c d n h = refl
by_parts false b c d n h = refl

unknown : (arcs : List ℕ) → not (in_table arcs) ≡ true → known_below arcs ≡ None
unknown [] h = refl
unknown (a ∷ []) h = refl
unknown (a ∷ b ∷ []) h = refl
unknown (a ∷ b ∷ c ∷ []) h = refl
unknown (a ∷ b ∷ c ∷ n ∷ []) h = by_parts (a == 2) (b == 5) (c == 4) (is_known n) n h
unknown (a ∷ b ∷ c ∷ n ∷ m ∷ arcs) h = refl

pub types_back : TypesReadBack
types_back (Known k) h = ap (λ (o : Option ℕ). type_or (2 ∷ 5 ∷ 4 ∷ k ∷ []) o) (known k h)
types_back (Unknown arcs) h = ap (λ (o : Option ℕ). type_or arcs o) (unknown arcs h)

pair_back : (p : ℕ × Text) → is_known p.0 ≡ true → pair_in (pair_node p) ≡ p
pair_back p h = ap (λ (o : Option ℕ). (in_option 0 (λ k. k) o, p.1)) (known p.0 h)

pairs_back : (r : List (ℕ × Text)) → list_all (λ p. is_known p.0) r ≡ true → map pair_in (map pair_node r) ≡ r
pairs_back [] h = refl
pairs_back (p ∷ r) h =
    let w = both_true (is_known p.0) (list_all (λ (q : ℕ × Text). is_known q.0) r) h in
    ap₂ (λ (q : ℕ × Text) (s : List (ℕ × Text)). q ∷ s) (pair_back p w.0) (pairs_back r w.1)

pub rdn_back : (r : List (ℕ × Text)) → list_all (λ p. is_known p.0) r ≡ true → rdn_in (pairs_node r) ≡ r
rdn_back r h = ap (λ (ns : List Node). map pair_in ns) (list_row (map pair_node r)) ∙ pairs_back r h

rdns_back : (n : NameValue) → has_known_types n ≡ true → map rdn_in (map pairs_node n) ≡ n
rdns_back [] h = refl
rdns_back (r ∷ n) h =
    let w = both_true (list_all (λ (p : ℕ × Text). is_known p.0) r) (has_known_types n) h in
    ap₂ (λ (q : List (ℕ × Text)) (s : NameValue). q ∷ s) (rdn_back r w.0) (rdns_back n w.1)

pub name_back : (n : NameValue) → has_known_types n ≡ true → name_in (name_value_node n) ≡ n
name_back n h = ap (λ (ns : List Node). map rdn_in ns) (list_row (map pairs_node n)) ∙ rdns_back n h

pub names_back : NamesReadBack
names_back n h = ap stored (name_back (written n) h)
