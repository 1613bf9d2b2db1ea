-- Characters of four octets each, read one by one.
use Rattle.std.proofs.Common.{◌≡◌, ℕ, ◌+◌, ◌*◌, ◌<◌, ◌≤◌, Bool, true, false, ◌&&◌, List, [], ◌∷◌, ◌++◌, length}
use Rattle.std.proofs.Common.{drop, get_or, refl, ap, sym, ◌∙◌, arith, length-drop, append_assoc, encode_utf8_all}
use Rattle.std.proofs.Common.{encode_utf8, subst, if◌then◌else◌}
use Rattle.std.specs.List.{list_all}
use Rattle.std.specs.Option.{option_map}
use Rattle.std.specs.declared.option.Option.{Option}
use Rattle.std.specs.declared.option.Option.TheVariants.{None, Some}
use Rattle.std.proofs.lemmas.List.{drop_more}
use Rattle.x5_model.specs.Words.{in_option}
use Rattle.x5_model_typed.specs.Leaves as leaves
use Rattle.x5_model_typed.specs.Nodes as nodes
use Rattle.x5_types.specs.Cells.{Cell, cell, Cut, nothing, one, two, three, encoded}

pub cut_of : (l : List ℕ) → length l < 4 → Cut l
cut_of [] few = nothing
cut_of (a ∷ []) few = one
cut_of (a ∷ b ∷ []) few = two
cut_of (a ∷ b ∷ c ∷ []) few = three
cut_of (a ∷ b ∷ c ∷ d ∷ os) few = absurd (omega arith)

pub cell_of : (octets : List ℕ) (at n : ℕ) → at + 4 ≤ length octets
    → n ≡ (get_or octets at 0 * 256 + get_or octets (at + 1) 0) * 65536
    + (get_or octets (at + 2) 0 * 256 + get_or octets (at + 3) 0)
    → Cell n (drop at octets) (drop (at + 4) octets)
cell_of octets at n there is =
    let whole : drop at octets ≡ get_or octets at 0 ∷ get_or octets (at + 1) 0 ∷ get_or octets (at + 2) 0
    ∷ get_or octets (at + 3) 0 ∷ drop (at + 4) octets =
    drop_more octets at 0 (omega arith) ∙ ap (λ (l : List ℕ). get_or octets at 0 ∷ l)
    (next (at + 1) (at + 2) (omega arith) (omega arith)
    ∙ ap (λ (l : List ℕ). get_or octets (at + 1) 0 ∷ l) (next (at + 2) (at + 3) (omega arith) (omega arith)
    ∙ ap (λ (l : List ℕ). get_or octets (at + 2) 0 ∷ l) (next (at + 3) (at + 4) (omega arith) (omega arith)))) in
    subst (λ (l : List ℕ). Cell n l (drop (at + 4) octets)) (sym whole) (cell (is ∙ omega arith))
  where
    next : (k m : ℕ) → k < length octets → m ≡ k + 1 → drop k octets ≡ get_or octets k 0 ∷ drop m octets
    next k m less is = drop_more octets k 0 less ∙ ap (λ (j : ℕ). get_or octets k 0 ∷ drop j octets) (sym is)

-- Nothing is encoded where octets are left over.
pub cut_cells : (l : List ℕ) → Cut l → 0 < length l → encoded (leaves.cells l) ≡ None
cut_cells [] nothing some = absurd (omega arith)
cut_cells (a ∷ []) one some = refl
cut_cells (a ∷ b ∷ []) two some = refl
cut_cells (a ∷ b ∷ c ∷ []) three some = refl
cut_cells (a ∷ (b ∷ (c ∷ (d ∷ os)))) x10 some = elim x10 [ ]

-- One number more at the front.
more_by : (n : ℕ) (o : Option (List ℕ)) (b : Bool) → leaves.is_character n ≡ b
    → encoded (leaves.cons_to o n) ≡ (if b then option_map (λ (t : List ℕ). encode_utf8 n ++ t) (encoded o) else None)
more_by n None true e = refl
more_by n None false e = refl
more_by n (Some cs) true e = rw e (by_rest (list_all leaves.is_character cs))
  where
    by_rest : (r : Bool) → leaves.where_so r (encode_utf8 n ++ encode_utf8_all cs)
        ≡ option_map (λ (t : List ℕ). encode_utf8 n ++ t) (leaves.where_so r (encode_utf8_all cs))
    by_rest true = refl
    by_rest false = refl
more_by n (Some cs) false e = rw e refl

pub bad_cell : (n : ℕ) (l rest : List ℕ) → Cell n l rest → leaves.is_character n ≡ false
    → encoded (leaves.cells l) ≡ None
bad_cell n l rest (cell {os = os} is) e = ap (λ k. encoded (leaves.cons_to (leaves.cells os) k)) (sym is)
    ∙ more_by n (leaves.cells os) false e

pub next_cell : (n : ℕ) (text l rest : List ℕ) → Cell n l rest → leaves.is_character n ≡ true
    → option_map (λ (t : List ℕ). (text ++ encode_utf8 n) ++ t) (encoded (leaves.cells rest))
    ≡ option_map (λ (t : List ℕ). text ++ t) (encoded (leaves.cells l))
next_cell n text l rest (cell {os = os} is) e =
    sym (ap (option_map (λ (t : List ℕ). text ++ t)) (ap (λ k. encoded (leaves.cons_to (leaves.cells os) k)) (sym is)
    ∙ more_by n (leaves.cells os) true e) ∙ twice (encoded (leaves.cells os)))
  where
    twice : (o : Option (List ℕ)) → option_map (λ (t : List ℕ). text ++ t)
        (option_map (λ (t : List ℕ). encode_utf8 n ++ t) o)
        ≡ option_map (λ (t : List ℕ). (text ++ encode_utf8 n) ++ t) o
    twice None = refl
    twice (Some t) = ap (λ (l : List ℕ). Some l) (sym (append_assoc text (encode_utf8 n) t))

pub none_from : (text : List ℕ) (o all : Option (List ℕ)) → option_map (λ (t : List ℕ). text ++ t) o ≡ all → o ≡ None
    → None ≡ all
none_from text o all e none = sym (ap (option_map (λ (t : List ℕ). text ++ t)) none) ∙ e

pub size_of_cell : (n : ℕ) (octets : List ℕ) (at : ℕ) (rest : List ℕ) → Cell n (drop at octets) rest
    → at + 4 ≤ length octets
size_of_cell n octets at rest c = omega (arith, length-drop at octets, size (drop at octets) c)
  where
    size : (l : List ℕ) → Cell n l rest → 4 ≤ length l
    size (a ∷ b ∷ c ∷ d ∷ os) (cell is) = omega arith
    size [] x' = elim x' [ ]
    size (a ∷ []) x4 = elim x4 [ ]
    size (a ∷ (b ∷ [])) x7 = elim x7 [ ]
    size (a ∷ (b ∷ (c ∷ []))) x10 = elim x10 [ ]

-- The text of all characters, as it is kept.
pub universal_of : (octets : List ℕ) (text : Option (List ℕ)) → text ≡ encoded (leaves.cells octets)
    → leaves.universal_string.reads octets ≡ in_option None
    (λ (t : List ℕ). leaves.where_so (leaves.is_length t) (nodes.Text t)) text
universal_of octets text e = by_cells (leaves.cells octets) text e
  where
    by_all : (cs : List ℕ) (r : Bool) → leaves.where_so (r && leaves.is_length (encode_utf8_all cs))
        (nodes.Text (encode_utf8_all cs))
        ≡ in_option None (λ (t : List ℕ). leaves.where_so (leaves.is_length t) (nodes.Text t))
        (leaves.where_so r (encode_utf8_all cs))
    by_all cs true = refl
    by_all cs false = refl

    by_cells : (o : Option (List ℕ)) (text : Option (List ℕ)) → text ≡ encoded o
        → in_option None (λ (cs : List ℕ). leaves.where_so
        (list_all leaves.is_character cs && leaves.is_length (encode_utf8_all cs))
        (nodes.Text (encode_utf8_all cs))) o
        ≡ in_option None (λ (t : List ℕ). leaves.where_so (leaves.is_length t) (nodes.Text t)) text
    by_cells None text e = sym (ap (in_option None
        (λ (t : List ℕ). leaves.where_so (leaves.is_length t) (nodes.Text t))) e)
    by_cells (Some cs) text e = by_all cs (list_all leaves.is_character cs)
        ∙ sym (ap (in_option None (λ (t : List ℕ). leaves.where_so (leaves.is_length t) (nodes.Text t))) e)

pub next_text : (n : ℕ) (text text' l rest : List ℕ) (all : Option (List ℕ)) → Cell n l rest
    → leaves.is_character n ≡ true → text' ≡ text ++ encode_utf8 n
    → option_map (λ (t : List ℕ). text ++ t) (encoded (leaves.cells l)) ≡ all
    → option_map (λ (t : List ℕ). text' ++ t) (encoded (leaves.cells rest)) ≡ all
next_text n text text' l rest all c is more e =
    ap (λ (x : List ℕ). option_map (λ (t : List ℕ). x ++ t) (encoded (leaves.cells rest))) more
    ∙ next_cell n text l rest c is ∙ e
