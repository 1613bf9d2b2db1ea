-- What is written of a value is read back, cell by cell.
use Rattle.std.proofs.Common.{◌≡◌, ℕ, ◌==◌, Bool, true, false, not, ◌&&◌, ◌||◌, cond, List, [], ◌∷◌, ◌++◌, map, refl}
use Rattle.std.proofs.Common.{sym, ap, ap₂, ◌∙◌, subst, Option, None, Some}
use Rattle.std.specs.Prelude.{codes, if◌then◌else◌}
use Rattle.std.specs.List.{list_any, list_all, flat_map}
use Rattle.std.proofs.lemmas.Bool.{and_parts}
use Rattle.std.proofs.lemmas.List.{append-nil}
use Rattle.x5_model.specs.Values.{Text}
use Rattle.x5_model_ldap.specs.Names.{Cell, cell, backslash, stands_for_itself, before_cells, cells_of, is_bare}
use Rattle.x5_model_ldap.specs.Names.{is_forbidden, begins_badly, ends_badly, octets_of, is_special, escaped_if}
use Rattle.x5_model_ldap.specs.Names.{escaped_behind, escaped, octet_of}
use Rattle.hex.specs.Hex.{hex_digit_value}
use Rattle.x5_model.specs.Words.{in_option, first_of, last_of}

abbrev pub text_of_cell : Cell → Text
text_of_cell c = escaped_if c.escaped c.octet

abbrev pub text_of_cells : List Cell → Text
text_of_cells cs = flat_map text_of_cell cs

-- a cell that is written so that it's read back
abbrev pub is_sound : Cell → Bool
is_sound c = if c.escaped then stands_for_itself c.octet else not (backslash == c.octet)

plain_cell : (b : ℕ) (t : Text) → (backslash == b) ≡ false → cells_of (b ∷ t) ≡ before_cells (Some (cell false b))
    (cells_of t)
plain_cell b [] h = rw h refl
plain_cell b (c ∷ []) h = rw h refl
plain_cell b (c ∷ d ∷ t) h = rw h refl

escaped_cell : (b : ℕ) (t : Text) → stands_for_itself b ≡ true
    → cells_of (backslash ∷ b ∷ t) ≡ before_cells (Some (cell true b)) (cells_of t)
escaped_cell b [] h = ap (λ x. if x then Some (cell true b ∷ []) else None) h
escaped_cell b (c ∷ t) h =
    ap (λ x. if x then before_cells (Some (cell true b)) (cells_of (c ∷ t)) else before_cells
    (octet_of (hex_digit_value b) (hex_digit_value c)) (cells_of t)) h

one_sound : (e : Bool) (b : ℕ) (t : Text) → is_sound (cell e b) ≡ true
    → cells_of (escaped_if e b ++ t) ≡ before_cells (Some (cell e b)) (cells_of t)
one_sound true b t h = escaped_cell b t h
one_sound false b t h = plain_cell b t (not_true (backslash == b) h)
  where
    not_true : (x : Bool) → not x ≡ true → x ≡ false
    not_true true h = absurd (cc h)
    not_true false h = refl

pub cells_back : (cs : List Cell) → list_all is_sound cs ≡ true → cells_of (text_of_cells cs) ≡ Some cs
cells_back [] h = refl
cells_back (c ∷ cs) h =
    let parts = and_parts (is_sound c) (list_all is_sound cs) h in
    one_sound c.escaped c.octet (text_of_cells cs) parts.0 ∙ ap (before_cells (Some c)) (cells_back cs parts.1)

-- ---- the cells of a written value

abbrev pub marks_behind : Text → List Cell
marks_behind [] = []
marks_behind (b ∷ []) = cell (is_special b || (32 == b)) b ∷ []
marks_behind (b ∷ c ∷ t) = cell (is_special b) b ∷ marks_behind (c ∷ t)

abbrev pub marks : Text → List Cell
marks [] = []
marks (b ∷ t) = cell (is_special b || (32 == b) || (35 == b)) b ∷ marks_behind t

marks_behind_text : (t : Text) → text_of_cells (marks_behind t) ≡ escaped_behind t
marks_behind_text [] = refl
marks_behind_text (b ∷ []) = append-nil (escaped_if (is_special b || (32 == b)) b)
marks_behind_text (b ∷ c ∷ t) = ap (λ u. escaped_if (is_special b) b ++ u) (marks_behind_text (c ∷ t))

pub marks_text : (t : Text) → text_of_cells (marks t) ≡ escaped t
marks_text [] = refl
marks_text (b ∷ t) = ap (λ u. escaped_if (is_special b || (32 == b) || (35 == b)) b ++ u) (marks_behind_text t)

marks_behind_octets : (t : Text) → octets_of (marks_behind t) ≡ t
marks_behind_octets [] = refl
marks_behind_octets (b ∷ []) = refl
marks_behind_octets (b ∷ c ∷ t) = ap (λ u. b ∷ u) (marks_behind_octets (c ∷ t))

pub marks_octets : (t : Text) → octets_of (marks t) ≡ t
marks_octets [] = refl
marks_octets (b ∷ t) = ap (λ u. b ∷ u) (marks_behind_octets t)

-- special characters stand for themselves behind a backslash, and so do a space and `#`
any_stands : (a b c d e f q n g s : Bool) → ((a || (b || (c || (d || (e || (f || (g || false))))))) || s || n) ≡ true
    → (a || (b || (c || (d || (e || (f || (q || (n || (g || (s || false)))))))))) ≡ true
any_stands true b c d e f q n g s h = refl
any_stands false true c d e f q n g s h = refl
any_stands false false true d e f q n g s h = refl
any_stands false false false true e f q n g s h = refl
any_stands false false false false true f q n g s h = refl
any_stands false false false false false true q n g s h = refl
any_stands false false false false false false true n g s h = refl
any_stands false false false false false false false true g s h = refl
any_stands false false false false false false false false true s h = refl
any_stands false false false false false false false false false true h = refl
any_stands false false false false false false false false false false h = absurd (cc h)

edge_stands : (b : ℕ) → (is_special b || (32 == b) || (35 == b)) ≡ true → stands_for_itself b ≡ true
edge_stands b h = any_stands (34 == b) (43 == b) (44 == b) (59 == b) (60 == b) (62 == b) (61 == b) (35 == b) (92 == b)
    (32 == b) h

-- what isn't special
pub record IsUsual (b : ℕ) : Type 0 where
  pub quote : (34 == b) ≡ false
  pub plus : (43 == b) ≡ false
  pub comma : (44 == b) ≡ false
  pub semicolon : (59 == b) ≡ false
  pub less : (60 == b) ≡ false
  pub greater : (62 == b) ≡ false
  pub backslash : (92 == b) ≡ false

either_false : (a b : Bool) → (a || b) ≡ false → (a ≡ false) × (b ≡ false)
either_false true b h = absurd (cc h)
either_false false b h = (refl, h)

pub usual : (b : ℕ) → is_special b ≡ false → IsUsual b
usual b h =
    let w = either_false (34 == b) _ h in
    let x = either_false (43 == b) _ w.1 in
    let y = either_false (44 == b) _ x.1 in
    let z = either_false (59 == b) _ y.1 in
    let u = either_false (60 == b) _ z.1 in
    let v = either_false (62 == b) _ u.1 in
    let o = either_false (92 == b) _ v.1 in
    record { quote = w.0; plus = x.0; comma = y.0; semicolon = z.0; less = u.0; greater = v.0; backslash = o.0 }

-- ---- what a cell is that is escaped where it's special

abbrev pub is_good : Cell → Bool
is_good c = is_sound c && not (is_forbidden c) && not (is_bare 43 c) && not (is_bare 44 c)

good_by : (e : Bool) (b : ℕ) → (e ≡ true → stands_for_itself b ≡ true) → (e ≡ false → IsUsual b) → is_good (cell e b)
    ≡ true
good_by true b stands usual = ap (λ x. x && true && true && true) (stands refl)
good_by false b stands usual =
    let u = usual refl in
    ap₂ ◌&&◌ (ap₂ ◌&&◌ (ap₂ ◌&&◌ (ap not u.backslash)
    (ap not (ap₂ ◌||◌ u.quote (ap₂ ◌||◌ u.semicolon (ap₂ ◌||◌ u.less (ap₂ ◌||◌ u.greater refl))))))
    (ap not u.plus)) (ap not u.comma)

or_true : (a b : Bool) → a ≡ true → (a || b) ≡ true
or_true a b h = ap (λ x. x || b) h

behind_good : (t : Text) → list_all is_good (marks_behind t) ≡ true
behind_good [] = refl
behind_good (b ∷ []) =
    ap₂ ◌&&◌ (good_by (is_special b || (32 == b)) b
    (λ h. edge_stands b (or_true (is_special b || (32 == b)) (35 == b) h))
    (λ h. usual b (either_false (is_special b) (32 == b) h).0)) refl
behind_good (b ∷ c ∷ t) =
    ap₂ ◌&&◌ (good_by (is_special b) b
    (λ h. edge_stands b (or_true (is_special b || (32 == b)) (35 == b) (or_true (is_special b) (32 == b) h)))
    (λ h. usual b h)) (behind_good (c ∷ t))

pub marks_good : (t : Text) → list_all is_good (marks t) ≡ true
marks_good [] = refl
marks_good (b ∷ t) =
    ap₂ ◌&&◌ (good_by (is_special b || (32 == b) || (35 == b)) b (edge_stands b)
    (λ h. usual b (either_false (is_special b) (32 == b) (either_false (is_special b || (32 == b)) (35 == b) h).0).0))
    (behind_good t)

-- ---- the ends

bare_by : (e : Bool) (k b : ℕ) → (e ≡ false → (k == b) ≡ false) → is_bare k (cell e b) ≡ false
bare_by true k b h = refl
bare_by false k b h = h refl

pub begins_well : (t : Text) → begins_badly (marks t) ≡ false
begins_well [] = refl
begins_well (b ∷ t) =
    ap₂ ◌||◌ (bare_by (is_special b || (32 == b) || (35 == b)) 32 b
    (λ h. (either_false (is_special b) (32 == b) (either_false (is_special b || (32 == b)) (35 == b) h).0).1))
    (bare_by (is_special b || (32 == b) || (35 == b)) 35 b (λ h.
    (either_false (is_special b || (32 == b)) (35 == b) h).1))

behind_ends : (x : Cell) (t : Text) → is_bare 32 x ≡ false → in_option false (is_bare 32)
    (last_of (x ∷ marks_behind t)) ≡ false
behind_ends x [] h = h
behind_ends x (b ∷ []) h =
    bare_by (is_special b || (32 == b)) 32 b (λ e. (either_false (is_special b) (32 == b) e).1)
behind_ends x (b ∷ c ∷ t) h = behind_more (cell (is_special b) b) c t
  where
    behind_more : (y : Cell) (c : ℕ) (t : Text) → in_option false (is_bare 32) (last_of (y ∷ marks_behind (c ∷ t)))
        ≡ false
    behind_more y c [] = bare_by (is_special c || (32 == c)) 32 c (λ e. (either_false (is_special c) (32 == c) e).1)
    behind_more y c (d ∷ t) = behind_more (cell (is_special c) c) d t

pub ends_well : (t : Text) → ends_badly (marks t) ≡ false
ends_well [] = refl
ends_well (b ∷ t) =
    behind_ends (cell (is_special b || (32 == b) || (35 == b)) b) t
    (bare_by (is_special b || (32 == b) || (35 == b)) 32 b
    (λ h. (either_false (is_special b) (32 == b) (either_false (is_special b || (32 == b)) (35 == b) h).0).1))
