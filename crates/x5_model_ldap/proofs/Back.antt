-- Names as LDAP writes them, read back.
use Rattle.std.proofs.Common.{◌≡◌, ℕ, ◌+◌, ◌<◌, ◌≤◌, Bool, true, false, not, ◌&&◌, ◌||◌, ◌==◌, nat_lt, nat_le, cond}
use Rattle.std.proofs.Common.{List, [], ◌∷◌, ◌++◌, map, length, reverse, Option, None, Some, refl, sym, ap, ap₂}
use Rattle.std.proofs.Common.{subst, ◌∙◌, arith}
use Rattle.std.specs.Prelude.{option_and_then, if◌then◌else◌}
use Rattle.std.specs.Option.{option_map}
use Rattle.std.specs.List.{list_all, list_any, slice_split, before_first, after_first, join_with_byte, flat_map}
use Rattle.std.specs.Str.{is_utf8}
use Rattle.std.proofs.lemmas.Bool.{eqb-true, and_parts, leb-true, le-leb, ltb-true, not-true}
use Rattle.std.proofs.lemmas.Grind.{flat_map-append}
use Rattle.std.proofs.lemmas.List.{reverse-reverse, reverse-append, length-reverse, length-append}
use Rattle.std.proofs.lemmas.List.Folds.{list_all-append}
use Rattle.x5_model.specs.Words.{distinct, has}
use Rattle.x5_model.specs.Values.{Text, NameValue, Known}
use Rattle.x5_model.specs.Types.{may_name, kind_of}
use Rattle.x5_model.specs.Normal.{is_pair, is_rdn, is_name, ascends, ascends_from, is_text_of_kind}
use Rattle.x5_model_text.specs.TypeText.{keyword_of}
use Rattle.x5_model_text.specs.NameText.{fits_type, sorted}
use Rattle.x5_model_text_laws.specs.Given.{are_utf8, IsGivenName}
use Rattle.x5_model_text_laws.proofs.Limits.{is_short, is_small, name_small}
use Rattle.x5_model_text_laws.proofs.Sorting.{Pairs, sorted_stands}
use Rattle.x5_model_ldap.specs.Texts.{type_of_word}
use Rattle.x5_model_ldap.specs.Names.{Cell, cell, cells_of, is_bare, is_forbidden, begins_badly, ends_badly}
use Rattle.x5_model_ldap.specs.Names.{octets_of, value_of, value_for, pair_of, all_of, same_type, if_rdn, rdn_of}
use Rattle.x5_model_ldap.specs.Names.{if_name, name_in, name_of_dn, dn_of_pair, dn_of_rdn, dn_of_name}
use Rattle.x5_model_ldap.proofs.Cells.{text_of_cell, text_of_cells, is_sound, cells_back, marks, marks_text}
use Rattle.x5_model_ldap.proofs.Cells.{marks_octets, marks_good, is_good, begins_well, ends_well}
use Rattle.x5_model_ldap.proofs.Words.{is_inner, word_cells, Word, word_of, word_text, word_octets, all_so}
use Rattle.x5_model_ldap.proofs.Joined.{joined_by, is_free, cut_joined, before_cut, after_cut, has_cut, all_joined}

-- ---- the cells of what is written

abbrev pub pair_cells : ℕ × Text → List Cell
pair_cells p = word_cells (keyword_of p.0) ++ cell false 61 ∷ marks p.1

abbrev pub rdn_cells : Pairs → List Cell
rdn_cells r = joined_by (cell false 43) (map pair_cells r)

abbrev pub name_cells : NameValue → List Cell
name_cells n = joined_by (cell false 44) (map rdn_cells (reverse n))

pair_text : (p : ℕ × Text) → text_of_cells (pair_cells p) ≡ dn_of_pair p
pair_text p =
    flat_map-append text_of_cell (word_cells (keyword_of p.0)) (cell false 61 ∷ marks p.1)
    ∙ ap₂ ◌++◌ (word_text (keyword_of p.0)) (ap (λ t. 61 ∷ t) (marks_text p.1))

joined_text : (k : ℕ) (css : List (List Cell)) → text_of_cells (joined_by (cell false k) css) ≡ join_with_byte k
    (map text_of_cells css)
joined_text k [] = refl
joined_text k (cs ∷ []) = refl
joined_text k (cs ∷ ds ∷ more) =
    flat_map-append text_of_cell cs (cell false k ∷ joined_by (cell false k) (ds ∷ more))
    ∙ ap (λ t. text_of_cells cs ++ k ∷ t) (joined_text k (ds ∷ more))

pairs_text : (r : Pairs) → map text_of_cells (map pair_cells r) ≡ map dn_of_pair r
pairs_text [] = refl
pairs_text (p ∷ r) = ap₂ ◌∷◌ (pair_text p) (pairs_text r)

rdn_text : (r : Pairs) → text_of_cells (rdn_cells r) ≡ dn_of_rdn r
rdn_text r = joined_text 43 (map pair_cells r) ∙ ap (join_with_byte 43) (pairs_text r)

rdns_text : (n : NameValue) → map text_of_cells (map rdn_cells n) ≡ map dn_of_rdn n
rdns_text [] = refl
rdns_text (r ∷ n) = ap₂ ◌∷◌ (rdn_text r) (rdns_text n)

name_text : (n : NameValue) → text_of_cells (name_cells n) ≡ dn_of_name n
name_text n = joined_text 44 (map rdn_cells (reverse n)) ∙ ap (join_with_byte 44) (rdns_text (reverse n))

-- ---- parts of the tests

good_parts : (c : Cell) → is_good c ≡ true
    → (is_sound c ≡ true) × (not (is_forbidden c) ≡ true) × (not (is_bare 43 c) ≡ true) × (not (is_bare 44 c) ≡ true)
good_parts c h =
    let x = and_parts (is_sound c && not (is_forbidden c) && not (is_bare 43 c)) (not (is_bare 44 c)) h in
    let y = and_parts (is_sound c && not (is_forbidden c)) (not (is_bare 43 c)) x.0 in
    let z = and_parts (is_sound c) (not (is_forbidden c)) y.0 in
    (z.0, z.1, y.1, x.1)

inner_parts : (c : Cell) → is_inner c ≡ true → (is_good c ≡ true) × (not (is_bare 61 c) ≡ true) × (not c.escaped ≡ true)
inner_parts c h =
    let x = and_parts (is_good c && not (is_bare 61 c)) (not c.escaped) h in
    let y = and_parts (is_good c) (not (is_bare 61 c)) x.0 in
    (y.0, y.1, x.1)

none_any : (test : Cell → Bool) (cs : List Cell) → list_all (λ c. not (test c)) cs ≡ true → list_any test cs ≡ false
none_any test [] h = refl
none_any test (c ∷ cs) h =
    let parts = and_parts (not (test c)) (list_all (λ x. not (test x)) cs) h in
    ap₂ ◌||◌ (not-true (test c) parts.0) (none_any test cs parts.1)

-- ---- a pair

value_back : (n : ℕ) (t : Text) → fits_type true n t ≡ true → value_of n (marks t) ≡ Some (n, t)
value_back n t h =
    ap (λ b. if b then Some (n, octets_of (marks t)) else None)
    (ap₂ ◌&&◌ (ap₂ ◌&&◌ (ap₂ ◌&&◌ (ap not (none_any is_forbidden (marks t)
    (all_so is_good (λ c. not (is_forbidden c)) (λ c g. (good_parts c g).1) (marks t) (marks_good t))))
    (ap not (begins_well t))) (ap not (ends_well t)))
    (ap (fits_type true n) (marks_octets t) ∙ h))
    ∙ ap (λ u. Some (n, u)) (marks_octets t)

abbrev is_fine : ℕ × Text → Bool
is_fine p = is_pair p && is_utf8 p.1 && is_short p

fine_fits : (p : ℕ × Text) → is_fine p ≡ true → (may_name p.0 ≡ true) × (fits_type true p.0 p.1 ≡ true)
fine_fits p h =
    let x = and_parts (is_pair p && is_utf8 p.1) (is_short p) h in
    let y = and_parts (is_pair p) (is_utf8 p.1) x.0 in
    let z = and_parts (may_name p.0) (is_text_of_kind (kind_of p.0) p.1) y.0 in
    (z.0, ap₂ ◌&&◌ y.1 (ap₂ ◌&&◌ z.1 x.1))

pair_back : (p : ℕ × Text) → is_fine p ≡ true → pair_of (pair_cells p) ≡ Some p
pair_back p h =
    let f = fine_fits p h in
    let w = word_of p.0 f.0 in
    let k = word_cells (keyword_of p.0) in
    let free : is_free (is_bare 61) k ≡ true = all_so is_inner (λ c. not (is_bare 61 c)) (λ c g. (inner_parts c g).1)
    k w.inner in
    let bare : list_all (λ c. not c.escaped) k ≡ true = all_so is_inner (λ c. not c.escaped)
    (λ c g. (inner_parts c g).2) k w.inner in
    let before = before_cut (is_bare 61) (cell false 61) k (marks p.1) refl free in
    let after = after_cut (is_bare 61) (cell false 61) k (marks p.1) refl free in
    let type : type_of_word (octets_of (before_first (is_bare 61) (pair_cells p))) ≡ Known p.0 =
    ap (λ cs. type_of_word (octets_of cs)) before ∙ ap type_of_word (word_octets (keyword_of p.0)) ∙ w.type in
    ap (λ b. if b then value_for (type_of_word (octets_of (before_first (is_bare 61) (pair_cells p))))
    (after_first (is_bare 61) (pair_cells p)) else None)
    (ap₂ ◌&&◌ (has_cut (is_bare 61) (cell false 61) k (marks p.1) refl)
    (ap (list_all (λ c. not c.escaped)) before ∙ bare))
    ∙ ap₂ value_for type after
    ∙ ap (λ b. if b then value_of p.0 (marks p.1) else None) f.0
    ∙ value_back p.0 p.1 f.1

pair_good : (p : ℕ × Text) → may_name p.0 ≡ true → list_all is_good (pair_cells p) ≡ true
pair_good p h =
    let w = word_of p.0 h in
    list_all-append is_good (word_cells (keyword_of p.0)) (cell false 61 ∷ marks p.1)
    ∙ ap₂ ◌&&◌ (all_so is_inner is_good (λ c g. (inner_parts c g).0) (word_cells (keyword_of p.0)) w.inner)
    (marks_good p.1)

-- ---- an RDN

all_fine : (r : Pairs) → list_all is_pair r ≡ true → are_utf8 r ≡ true → list_all is_short r ≡ true → list_all is_fine
    r ≡ true
all_fine [] h u s = refl
all_fine (p ∷ r) h u s =
    let a = and_parts (is_pair p) (list_all is_pair r) h in
    let b = and_parts (is_utf8 p.1) (are_utf8 r) u in
    let c = and_parts (is_short p) (list_all is_short r) s in
    ap₂ ◌&&◌ (ap₂ ◌&&◌ (ap₂ ◌&&◌ a.0 b.0) c.0) (all_fine r a.1 b.1 c.1)

pairs_back : (r : Pairs) → list_all is_fine r ≡ true → all_of pair_of (map pair_cells r) ≡ Some r
pairs_back [] h = refl
pairs_back (p ∷ r) h =
    let parts = and_parts (is_fine p) (list_all is_fine r) h in
    ap (option_and_then (λ y. option_map (λ ys. y ∷ ys) (all_of pair_of (map pair_cells r)))) (pair_back p parts.0)
    ∙ ap (option_map (λ ys. p ∷ ys)) (pairs_back r parts.1)

pairs_good : (r : Pairs) → list_all is_fine r ≡ true → list_all (list_all is_good) (map pair_cells r) ≡ true
pairs_good [] h = refl
pairs_good (p ∷ r) h =
    let parts = and_parts (is_fine p) (list_all is_fine r) h in
    ap₂ ◌&&◌ (pair_good p (fine_fits p parts.0).0) (pairs_good r parts.1)

lists_so : (test other : Cell → Bool) → ((c : Cell) → test c ≡ true → other c ≡ true) → (css : List (List Cell))
    → list_all (list_all test) css ≡ true → list_all (list_all other) css ≡ true
lists_so test other f [] h = refl
lists_so test other f (cs ∷ css) h =
    let parts = and_parts (list_all test cs) (list_all (list_all test) css) h in
    ap₂ ◌&&◌ (all_so test other f cs parts.0) (lists_so test other f css parts.1)

absent : (n least : ℕ) (t : Text) (r : Pairs) → n < least → ascends_from least r ≡ true → has same_type r (n, t) ≡ false
absent n least t [] h a = refl
absent n least t (q ∷ r) h a =
    let parts = and_parts (nat_le least q.0) (ascends_from (q.0 + 1) r) a in
    let le : least ≤ q.0 = leb-true least q.0 parts.0 in
    ap₂ ◌||◌ (other (q.0 == n) refl le) (absent n (q.0 + 1) t r (omega (arith, h, le)) parts.1)
  where
    other : (b : Bool) → (q.0 == n) ≡ b → least ≤ q.0 → (q.0 == n) ≡ false
    other false e le = e
    other true e le = let same : q.0 ≡ n = eqb-true q.0 n e in absurd (omega (arith, h, le, same))

apart : (least : ℕ) (r : Pairs) → ascends_from least r ≡ true → distinct same_type r ≡ true
apart least [] h = refl
apart least (p ∷ r) h =
    let parts = and_parts (nat_le least p.0) (ascends_from (p.0 + 1) r) h in
    ap₂ ◌&&◌ (ap not (absent p.0 (p.0 + 1) p.1 r (omega arith) parts.1)) (apart (p.0 + 1) r parts.1)

-- an RDN that a text can give
pub record Given (r : Pairs) : Type 0 where
  pub some : (p : ℕ × Text) × (more : Pairs) × (r ≡ p ∷ more)
  pub fine : list_all is_fine r ≡ true
  pub few : nat_le (length r) 4 ≡ true
  pub ascends : ascends_from 0 r ≡ true

pub given : (r : Pairs) → is_rdn r ≡ true → are_utf8 r ≡ true → is_small r ≡ true → Given r
given [] h u s = absurd (cc h)
given (p ∷ r) h u s =
    let outer = and_parts (nat_lt 0 (length (p ∷ r)) && list_all is_pair (p ∷ r)) (ascends (p ∷ r)) h in
    let pairs = (and_parts (nat_lt 0 (length (p ∷ r))) (list_all is_pair (p ∷ r)) outer.0).1 in
    let limits = and_parts (nat_le (length (p ∷ r)) 4) (list_all is_short (p ∷ r)) s in
    record { some = (p, r, refl); fine = all_fine (p ∷ r) pairs u limits.1; few = limits.0; ascends = outer.1 }

rdn_good : (r : Pairs) → Given r → list_all is_good (rdn_cells r) ≡ true → list_all (λ c. not (is_bare 44 c))
    (rdn_cells r) ≡ true
rdn_good r g h = all_so is_good (λ c. not (is_bare 44 c)) (λ c x. (good_parts c x).3) (rdn_cells r) h

rdn_cut : (r : Pairs) → Given r → slice_split (is_bare 43) (rdn_cells r) ≡ map pair_cells r
rdn_cut [] g = absurd (cc g.some.2)
rdn_cut (p ∷ r) g =
    cut_joined (is_bare 43) (cell false 43) (pair_cells p) (map pair_cells r) refl
    (lists_so is_good (λ c. not (is_bare 43 c)) (λ c x. (good_parts c x).2) (map pair_cells (p ∷ r))
    (pairs_good (p ∷ r) g.fine))

rdn_back : (r : Pairs) → Given r → rdn_of (rdn_cells r) ≡ Some r
rdn_back r g =
    ap (λ css. option_and_then if_rdn (all_of pair_of css)) (rdn_cut r g)
    ∙ ap (option_and_then if_rdn) (pairs_back r g.fine)
    ∙ ap (λ b. if b then Some (sorted r) else None) (ap₂ ◌&&◌ g.few (apart 0 r g.ascends))
    ∙ ap Some (sorted_stands r g.ascends)

-- ---- a name

abbrev is_given : Pairs → Bool
is_given r = is_rdn r && are_utf8 r && is_small r

given_of : (r : Pairs) → is_given r ≡ true → Given r
given_of r h =
    let x = and_parts (is_rdn r && are_utf8 r) (is_small r) h in
    let y = and_parts (is_rdn r) (are_utf8 r) x.0 in
    given r y.0 y.1 x.1

all_given : (n : NameValue) → is_name n ≡ true → list_all are_utf8 n ≡ true → list_all is_small n ≡ true → list_all
    is_given n ≡ true
all_given [] h u s = refl
all_given (r ∷ n) h u s =
    let a = and_parts (is_rdn r) (is_name n) h in
    let b = and_parts (are_utf8 r) (list_all are_utf8 n) u in
    let c = and_parts (is_small r) (list_all is_small n) s in
    ap₂ ◌&&◌ (ap₂ ◌&&◌ (ap₂ ◌&&◌ a.0 b.0) c.0) (all_given n a.1 b.1 c.1)

all_reverse : (n : NameValue) → list_all is_given n ≡ true → list_all is_given (reverse n) ≡ true
all_reverse [] h = refl
all_reverse (r ∷ n) h =
    let parts = and_parts (is_given r) (list_all is_given n) h in
    ap (list_all is_given) (reverse-append (r ∷ []) n)
    ∙ list_all-append is_given (reverse n) (r ∷ [])
    ∙ ap₂ ◌&&◌ (all_reverse n parts.1) (ap (λ b. b && true) parts.0)

rdn_all : (test : Cell → Bool) → ((c : Cell) → is_good c ≡ true → test c ≡ true) → test (cell false 43) ≡ true
    → (r : Pairs)
    → Given r → list_all test (rdn_cells r) ≡ true
rdn_all test f plus r g =
    all_joined test (cell false 43) (map pair_cells r) plus (lists_so is_good test f (map pair_cells r)
    (pairs_good r g.fine))

rdns_all : (test : Cell → Bool) → ((c : Cell) → is_good c ≡ true → test c ≡ true) → test (cell false 43) ≡ true
    → (n : NameValue)
    → list_all is_given n ≡ true → list_all (list_all test) (map rdn_cells n) ≡ true
rdns_all test f plus [] h = refl
rdns_all test f plus (r ∷ n) h =
    let parts = and_parts (is_given r) (list_all is_given n) h in
    ap₂ ◌&&◌ (rdn_all test f plus r (given_of r parts.0)) (rdns_all test f plus n parts.1)

name_sound : (n : NameValue) → list_all is_given n ≡ true → list_all is_sound
    (joined_by (cell false 44) (map rdn_cells n)) ≡ true
name_sound n h =
    all_joined is_sound (cell false 44) (map rdn_cells n) refl
    (rdns_all is_sound (λ c g. (good_parts c g).0) refl n h)

rdns_back : (n : NameValue) → list_all is_given n ≡ true → all_of rdn_of (map rdn_cells n) ≡ Some n
rdns_back [] h = refl
rdns_back (r ∷ n) h =
    let parts = and_parts (is_given r) (list_all is_given n) h in
    ap (option_and_then (λ y. option_map (λ ys. y ∷ ys) (all_of rdn_of (map rdn_cells n))))
    (rdn_back r (given_of r parts.0))
    ∙ ap (option_map (λ ys. r ∷ ys)) (rdns_back n parts.1)

-- there is something of it
joined_some : (x : Cell) (cs : List Cell) (more : List (List Cell)) → 0 < length cs → 0 < length
    (joined_by x (cs ∷ more))
joined_some x cs [] h = h
joined_some x cs (ds ∷ more) h = let e = length-append cs (x ∷ joined_by x (ds ∷ more)) in omega (arith, h, e)

pair_some : (p : ℕ × Text) → 0 < length (pair_cells p)
pair_some p = let e = length-append (word_cells (keyword_of p.0)) (cell false 61 ∷ marks p.1) in omega (arith, e)

rdn_some : (r : Pairs) → Given r → 0 < length (rdn_cells r)
rdn_some [] g = absurd (cc g.some.2)
rdn_some (p ∷ r) g = joined_some (cell false 43) (pair_cells p) (map pair_cells r) (pair_some p)

in_some : (cs : List Cell) → 0 < length cs
    → name_in cs ≡ option_and_then if_name (all_of rdn_of (slice_split (is_bare 44) cs))
in_some [] h = absurd (omega (arith, h))
in_some (c ∷ cs) h = refl

cells_in : (n : NameValue) → list_all is_given n ≡ true → nat_le (length n) 16 ≡ true
    → name_in (joined_by (cell false 44) (map rdn_cells n)) ≡ Some (reverse n)
cells_in [] h few = refl
cells_in (r ∷ n) h few =
    let parts = and_parts (is_given r) (list_all is_given n) h in
    in_some (joined_by (cell false 44) (map rdn_cells (r ∷ n)))
    (joined_some (cell false 44) (rdn_cells r) (map rdn_cells n) (rdn_some r (given_of r parts.0)))
    ∙ ap (λ css. option_and_then if_name (all_of rdn_of css))
    (cut_joined (is_bare 44) (cell false 44) (rdn_cells r) (map rdn_cells n) refl
    (rdns_all (λ c. not (is_bare 44 c)) (λ c g. (good_parts c g).3) refl (r ∷ n) h))
    ∙ ap (option_and_then if_name) (rdns_back (r ∷ n) h)
    ∙ ap (λ b. if b then Some (reverse (r ∷ n)) else None) few

pub name_back : (n : NameValue) → IsGivenName n → name_of_dn (dn_of_name n) ≡ Some n
name_back n h =
    let small = name_small 0 n (omega arith) h.short in
    let count = small.count in
    let all = all_reverse n (all_given n h.valid h.utf8 small.rdns) in
    let few : nat_le (length (reverse n)) 16 ≡ true = ap (λ k. nat_le k 16) (length-reverse n) ∙ le-leb (length n) 16
    (omega (arith, count)) in
    ap (λ t. option_and_then name_in (cells_of t)) (sym (name_text n))
    ∙ ap (option_and_then name_in) (cells_back (name_cells n) (name_sound (reverse n) all))
    ∙ cells_in (reverse n) all few
    ∙ ap Some (reverse-reverse n)
