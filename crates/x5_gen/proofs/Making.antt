-- One more draw, person, agent, agreement or line.
use Rattle.std.proofs.Common.{◌≡◌, ℕ, zero, suc, ◌+◌, ◌-◌, ◌*◌, ◌/◌, ◌≤◌, ◌<◌, ◌++◌, List, ◌∷◌, [], length, map, codes, refl, ◌==◌, false, Result, Ok, Err, true, subst, if◌then◌else◌, sym, ◌∙◌, ap, append_assoc, append-nil, arith}
use Rattle.std.proofs.Math.Dec.{eqb-suc-zero}
use Rattle.std.proofs.lemmas.Bool.Decides.{nat_tests}
use Rattle.std.specs.List.{concat}
use Rattle.std.specs.Result.{OnOk}
use Rattle.std.specs.Fmt.{decimal}
use Rattle.x5_model.specs.Values.{Text}
use Rattle.x5_gen.specs.Draws.{next, after, below}
use Rattle.x5_gen.specs.World.{agents_count, people_count, units, prefix, listed, member_of, person, people, comma, agent, agents, agreement, agreements}
use Rattle.x5_gen.specs.Script.{asked, pull, line, drawn_line, lines}

more : (t : ℕ) → t + 1 ≡ suc t
more t = omega arith

-- ---- draws

pub none_drawn : (x : ℕ) → after x 0 ≡ x
unfolding after
none_drawn x = refl

pub one_more : (x t : ℕ) → after x (t + 1) ≡ next (after x t)
unfolding after
one_more x t = ap (after x) (more t)

pub drawn_on : (x s t : ℕ) → after (after x s) t ≡ after x (s + t)
unfolding after
drawn_on x s zero = ap (after x) (omega arith)
drawn_on x s (suc t) = let e : suc (s + t) ≡ s + suc t = omega arith in ap next (drawn_on x s t) ∙ ap (after x) e

pub drawn_1 : (x : ℕ) → after x 1 ≡ next x
unfolding after
drawn_1 x = refl

pub drawn_2 : (x : ℕ) → after x 2 ≡ next (next x)
unfolding after
drawn_2 x = refl

pub drawn_3 : (x : ℕ) → after x 3 ≡ next (next (next x))
unfolding after
drawn_3 x = refl

pub drawn_4 : (x : ℕ) → after x 4 ≡ next (next (next (next x)))
unfolding after
drawn_4 x = refl

-- ---- prefixes

units_enough : (a b i : ℕ) → i ≤ a → i ≤ b → units a i ≡ units b i
unfolding units
units_enough zero zero zero h k = refl
units_enough zero (suc b) zero h k = refl
units_enough (suc a) zero zero h k = refl
units_enough (suc a) (suc b) zero h k = refl
units_enough zero b (suc i) h k = absurd (omega arith)
units_enough (suc a) zero (suc i) h k = absurd (omega arith)
units_enough (suc a) (suc b) (suc i) h k =
    ap (λ t. t ++ (codes "/OU=U" ++ decimal (suc i))) (units_enough a b (i / 3) (omega arith) (omega arith))

pub country : prefix 0 ≡ codes "/C=NL"
unfolding units prefix
country = refl

pub unit_below : (i : ℕ) → 0 < i → prefix i ≡ prefix ((i - 1) / 3) ++ (codes "/OU=U" ++ decimal i)
unfolding units prefix
unit_below zero h = absurd (omega arith)
unit_below (suc i) h =
    let unit = (codes "/OU=U" ++ decimal (suc i)) in
    let up = units_enough i (i / 3) (i / 3) (omega arith) (omega arith) in
    let one : i ≡ suc i - 1 = omega arith in
    let same : i / 3 ≡ (suc i - 1) / 3 = ap (λ n. n / 3) one in
    ap (λ t. codes "/C=NL" ++ (t ++ unit)) up ∙ sym (append_assoc (codes "/C=NL") (units (i / 3) (i / 3)) unit) ∙ ap (λ n. prefix n ++ unit) same

-- ---- parts of the files

pub no_people : (above : Text) (x : ℕ) → people above x 0 ≡ []
unfolding people
no_people above x = refl

pub person_more : (above : Text) (x j : ℕ) → people above x (j + 1) ≡ people above x j ++ person above (j + 1) (below 100 (after x (j + 1)))
unfolding people
person_more above x j = ap (people above x) (more j) ∙ ap (λ n. people above x j ++ person above n (below 100 (after x n))) (sym (more j))

pub no_agents : (x : ℕ) → agents x 0 ≡ []
unfolding agents
no_agents x = refl

pub agent_more : (x i : ℕ) → agents x (i + 1) ≡ agents x i ++ (comma i ++ agent i (after x (people_count * i)))
unfolding agents
agent_more x i = ap (agents x) (more i)

pub no_agreements : agreements 0 ≡ []
unfolding agreements
no_agreements = refl

pub agreement_more : (i : ℕ) → agreements (i + 1) ≡ agreements i ++ (comma i ++ agreement (i + 1))
unfolding agreements
agreement_more i = ap agreements (more i) ∙ ap (λ n. agreements i ++ (comma i ++ agreement n)) (sym (more i))

pub no_lines : (x : ℕ) → lines x 0 ≡ []
unfolding lines
no_lines x = refl

pub line_more : (x n : ℕ) → lines x (n + 1) ≡ lines x n ++ drawn_line (n + 1) (after x (4 * n))
unfolding lines
line_more x n = ap (lines x) (more n) ∙ ap (λ k. lines x n ++ drawn_line k (after x (4 * n))) (sym (more n))

-- ---- what loops add

-- one more piece behind what was added so far
added : (old text new piece done both : Text) → text ≡ old ++ done → new ≡ text ++ piece → done ++ piece ≡ both → new ≡ old ++ both
added old text new piece done both h k e = k ∙ ap (λ t. t ++ piece) h ∙ append_assoc old done piece ∙ ap (λ t. old ++ t) e

pub nothing_added : (old done : Text) → done ≡ [] → old ≡ old ++ done
nothing_added old done e = sym (ap (λ t. old ++ t) e ∙ append-nil old)

pub person_added : (old text new above : Text) (x j y z surname : ℕ) → text ≡ old ++ people above x j → y ≡ after x j → z ≡ next y → surname ≡ below 100 z → new ≡ text ++ person above (j + 1) surname → new ≡ old ++ people above x (j + 1)
person_added old text new above x j y z surname h at step is k =
    let drawn : z ≡ after x (j + 1) = step ∙ ap next at ∙ sym (one_more x j) in
    let named : surname ≡ below 100 (after x (j + 1)) = is ∙ ap (below 100) drawn in
    added old text new (person above (j + 1) surname) (people above x j) (people above x (j + 1)) h k
    (ap (λ d. people above x j ++ person above (j + 1) d) named ∙ sym (person_more above x j))

pub stepped : (x j y z : ℕ) → y ≡ after x j → z ≡ next y → z ≡ after x (j + 1)
stepped x j y z at step = step ∙ ap next at ∙ sym (one_more x j)

-- so many draws more
pub drawn_more : (x n j y z : ℕ) → y ≡ after x (n * j) → z ≡ after y n → z ≡ after x (n * (j + 1))
drawn_more x n j y z at step =
    let e : n * j + n ≡ n * (j + 1) = sym (distrib n j) in
    step ∙ ap (λ w. after w n) at ∙ drawn_on x (n * j) n ∙ ap (after x) e
  where
    distrib : (n j : ℕ) → n * (j + 1) ≡ n * j + n
    distrib n j = grind arith

pub agent_added : (old text comma_text new : Text) (x i y : ℕ) → text ≡ old ++ agents x i → comma_text ≡ text ++ comma i → y ≡ after x (people_count * i) → new ≡ comma_text ++ agent i y → new ≡ old ++ agents x (i + 1)
agent_added old text comma_text new x i y h c at k =
    let piece : new ≡ text ++ (comma i ++ agent i (after x (people_count * i))) = k ∙ ap (λ t. t ++ agent i y) c ∙ append_assoc text (comma i) (agent i y) ∙ ap (λ d. text ++ (comma i ++ agent i d)) at in
    added old text new (comma i ++ agent i (after x (people_count * i))) (agents x i) (agents x (i + 1)) h piece (sym (agent_more x i))

pub agreement_added : (old text comma_text new : Text) (i : ℕ) → text ≡ old ++ agreements i → comma_text ≡ text ++ comma i → new ≡ comma_text ++ agreement (i + 1) → new ≡ old ++ agreements (i + 1)
agreement_added old text comma_text new i h c k =
    let piece : new ≡ text ++ (comma i ++ agreement (i + 1)) = k ∙ ap (λ t. t ++ agreement (i + 1)) c ∙ append_assoc text (comma i) (agreement (i + 1)) in
    added old text new (comma i ++ agreement (i + 1)) (agreements i) (agreements (i + 1)) h piece (sym (agreement_more i))

pub line_added : (text new : Text) (x n y : ℕ) → text ≡ lines x n → y ≡ after x (4 * n) → new ≡ text ++ drawn_line (n + 1) y → new ≡ lines x (n + 1)
line_added text new x n y h at k = k ∙ ap (λ t. t ++ drawn_line (n + 1) y) h ∙ ap (λ d. lines x n ++ drawn_line (n + 1) d) at ∙ sym (line_more x n)

-- a list that isn't empty stands behind its word
member_of_some : (before : Text) (texts : List Text) (behind : Text) → 0 < length texts → member_of before texts behind ≡ concat (before ∷ listed texts ∷ behind ∷ [])
member_of_some before [] behind h = absurd (omega arith)
member_of_some before (x ∷ xs) behind h = refl

pub member_is : (old before behind joined new : Text) (texts named : List Text) → 0 < length named → texts ≡ named → joined ≡ listed texts → new ≡ old ++ concat (before ∷ joined ∷ behind ∷ []) → new ≡ old ++ member_of before named behind
member_is old before behind joined new texts named h same j k =
    k ∙ ap (λ t. old ++ concat (before ∷ t ∷ behind ∷ [])) (j ∙ ap listed same) ∙ ap (λ t. old ++ t) (sym (member_of_some before named behind h))

pub member_none : (old before behind : Text) (named : List Text) → length named ≡ 0 → old ≡ old ++ member_of before named behind
member_none old before behind [] h = sym (append-nil old)
member_none old before behind (x ∷ xs) h = absurd (omega arith)

pub is_none : {X : Type 0} (f : X → Text) (found known : List X) → found ≡ known → (length found == 0) ≡ true → length (map f known) ≡ 0
is_none f [] known same h = ap (λ xs. length (map f xs)) (sym same)
is_none f (x ∷ xs) known same h = let e : false ≡ true = sym (eqb-suc-zero (length xs)) ∙ h in absurd (cc)

pub is_some : {X : Type 0} (f : X → Text) (found known : List X) → found ≡ known → (length found == 0) ≡ false → 0 < length (map f known)
is_some f [] known same h = absurd (cc)
is_some f (x ∷ xs) known same h = subst (λ ys. 0 < length (map f ys)) same (omega arith)

-- ---- pieces behind one another

abbrev pub after_pieces : Text → List Text → Text
after_pieces old [] = old
after_pieces old (p ∷ ps) = after_pieces (old ++ p) ps

pub pieces : (old : Text) (ps : List Text) → after_pieces old ps ≡ old ++ concat ps
pieces old [] = sym (append-nil old)
pieces old (p ∷ ps) = pieces (old ++ p) ps ∙ append_assoc old p (concat ps)

-- ---- lines

not_equal : (m n : ℕ) → (m ≡ n → ⊥) → (m == n) ≡ false
not_equal m n h = grind (arith, nat_tests)

pub line_is : (n a k c j : ℕ) → (k ≡ 9 → ⊥) → line n a k c j ≡ concat (codes "at A" ∷ decimal a ∷ asked n k (prefix c) j ∷ [])
line_is n a k c j h = ap (λ b. if b then pull j else concat (codes "at A" ∷ decimal a ∷ asked n k (prefix c) j ∷ [])) (not_equal k 9 h)

pub four_drawn : (x x1 x2 x3 x4 : ℕ) → x1 ≡ next x → x2 ≡ next x1 → x3 ≡ next x2 → x4 ≡ next x3 → x4 ≡ after x 4
four_drawn x x1 x2 x3 x4 s1 s2 s3 s4 = s4 ∙ ap next (s3 ∙ ap next (s2 ∙ ap next s1)) ∙ sym (drawn_4 x)

pub line_told : (old head new at : Text) (n a k c j : ℕ) → (k ≡ 9 → ⊥) → at ≡ prefix c → head ≡ old ++ (codes "at A" ++ decimal a) → new ≡ head ++ asked n k at j → new ≡ old ++ line n a k c j
line_told old head new at n a k c j other named h t =
    t ∙ ap (λ p. head ++ asked n k p j) named
    ∙ ap (λ w. w ++ asked n k (prefix c) j) h
    ∙ append_assoc old (codes "at A" ++ decimal a) (asked n k (prefix c) j)
    ∙ ap (λ w. old ++ w) (append_assoc (codes "at A") (decimal a) (asked n k (prefix c) j))
    ∙ ap (λ w. old ++ (codes "at A" ++ (decimal a ++ w))) (sym (append-nil (asked n k (prefix c) j)))
    ∙ ap (λ w. old ++ w) (sym (line_is n a k c j other))

pub on_ok : {T E P : Type 0} (r : Result T E) → P → OnOk r P
on_ok (Ok x) p = p
on_ok (Err e) p = tt

pub drawn_is : (n x x1 x2 x3 x4 a k c e j : ℕ) → x1 ≡ next x → x2 ≡ next x1 → x3 ≡ next x2 → x4 ≡ next x3 → a ≡ below agents_count x1 → k ≡ below 10 x2 → c ≡ below agents_count x3 → e ≡ below people_count x4 → j ≡ e + 1 → line n a k c j ≡ drawn_line n x
drawn_is n x x1 x2 x3 x4 a k c e j s1 s2 s3 s4 ha hk hc he hj =
    let d1 : x1 ≡ after x 1 = s1 ∙ sym (drawn_1 x) in
    let d2 : x2 ≡ after x 2 = s2 ∙ ap next s1 ∙ sym (drawn_2 x) in
    let d3 : x3 ≡ after x 3 = s3 ∙ ap next (s2 ∙ ap next s1) ∙ sym (drawn_3 x) in
    let d4 : x4 ≡ after x 4 = s4 ∙ ap next (s3 ∙ ap next (s2 ∙ ap next s1)) ∙ sym (drawn_4 x) in
    ap (λ y. line n y k c j) (ha ∙ ap (below agents_count) d1)
    ∙ ap (λ y. line n (below agents_count (after x 1)) y c j) (hk ∙ ap (below 10) d2)
    ∙ ap (λ y. line n (below agents_count (after x 1)) (below 10 (after x 2)) y j) (hc ∙ ap (below agents_count) d3)
    ∙ ap (λ y. line n (below agents_count (after x 1)) (below 10 (after x 2)) (below agents_count (after x 3)) y) (hj ∙ ap (λ y. y + 1) (he ∙ ap (below people_count) d4))

pub on_ok_from : {T E P Q : Type 0} (r : Result T E) → (P → Q) → OnOk r P → OnOk r Q
on_ok_from (Ok x) f p = f p
on_ok_from (Err e) f p = tt
