-- Words with a hyphen before them, other than the flag, ask for nothing.
use Rattle.std.proofs.Common.{◌≡◌, ℕ, Bool, true, false, not, ◌&&◌, ◌||◌, ◌==◌, List, [], ◌∷◌, None, Some}
use Rattle.std.proofs.Common.{if◌then◌else◌, option_map, refl, sym, ap, subst, ◌∙◌, codes, ◌⊎◌, inl, inr, arith}
use Rattle.std.specs.List.{list_all}
use Rattle.std.specs.Str.{bytes_eq}
use Rattle.std.specs.Cmp.Lexicographic.{bytes_decides}
use Rattle.clap.specs.Words.{Text}
use Rattle.x5_words.specs.Forms.{FileNames, Form, Run, Check, Tree, GenRun, GenWorld, GenScript, Show, is_file_name}
use Rattle.x5_words.specs.Forms.{is_summary, number_in, files_in, run_in, name_in, tree_in, gen_in, form_in}
use Rattle.x5_words.specs.Command.{is_fit}

-- what is no file's name
unnamed : (f s : Bool) → (f || s) ≡ false → f ≡ false
unnamed true s e = e
unnamed false s e = refl

both_named : (a s b t : Bool) → ((a || s) && ((b || t) && true)) ≡ false → (a && b) ≡ false
both_named true s true t e = e
both_named true s false t e = refl
both_named false s b t e = refl

-- where the flag stands, the others are at fault
past_first : (a s : Bool) (rest : Bool) → s ≡ true → ((a || s) && rest) ≡ false → rest ≡ false
past_first true true rest f e = e
past_first false true rest f e = e
past_first a false rest f e = cc

past_second : (a b t : Bool) (rest : Bool) → t ≡ true → (a && ((b || t) && rest)) ≡ false → (a && rest) ≡ false
past_second true b true rest f e = past_first b true rest refl e
past_second false b t rest f e = refl
past_second a b false rest f e = cc

past_third : (a b c u : Bool) → u ≡ true → (a && (b && ((c || u) && true))) ≡ false → (a && (b && true)) ≡ false
past_third true true true true f e = e
past_third true true false true f e = e
past_third true false c u f e = refl
past_third false b c u f e = refl
past_third a b c false f e = cc

files_none : (a b : Text) → list_all is_fit (a ∷ b ∷ []) ≡ false → files_in a b ≡ None
files_none a b e =
    ap (λ (t : Bool). if t then Some (record { world = a; script = b }) else None)
    (both_named (is_file_name a) (is_summary a) (is_file_name b) (is_summary b) e)

either : (t : Bool) → (t ≡ true) ⊎ (t ≡ false)
either true = inl refl
either false = inr refl

marked : Bool → FileNames → Form
marked t files = Run files t

run_none : (words : List Text) → list_all is_fit words ≡ false → run_in words ≡ None
run_none [] e = absurd (let f : true ≡ false = e in cc)
run_none (a ∷ []) e = refl
run_none (a ∷ b ∷ []) e = ap (option_map (λ files. Run files false)) (files_none a b e)
run_none (a ∷ b ∷ c ∷ []) e = first (is_summary a) refl
  where
    at_third : (u : Bool) → is_summary c ≡ u
        → (if u then option_map (λ files. Run files true) (files_in a b) else None) ≡ None
    at_third true f = ap (option_map (λ files. Run files true)) (files_none a b (past_third (is_fit a) (is_fit b)
        (is_file_name c) (is_summary c) f e))
    at_third false f = refl

    second : (t : Bool) → is_summary b ≡ t
        → (if t then option_map (λ files. Run files true) (files_in a c) else if is_summary c then option_map
        (λ files. Run files true) (files_in a b) else None) ≡ None
    second true f = ap (option_map (λ files. Run files true)) (files_none a c (past_second (is_fit a)
        (is_file_name b) (is_summary b) (is_fit c && true) f e))
    second false f = at_third (is_summary c) refl

    first : (s : Bool) → is_summary a ≡ s
        → (if s then option_map (λ files. Run files true) (files_in b c) else if is_summary b then option_map
        (λ files. Run files true) (files_in a c) else if is_summary c then option_map (λ files. Run files true)
        (files_in a b) else None) ≡ None
    first true f = ap (option_map (λ files. Run files true)) (files_none b c (past_first (is_file_name a)
        (is_summary a) (is_fit b && (is_fit c && true)) f e))
    first false f = second (is_summary b) refl
run_none (a ∷ b ∷ c ∷ d ∷ words) e = refl

and_none : (f : Bool) → (f && true) ≡ false → f ≡ false
and_none true e = e
and_none false e = refl

name_none : (words : List Text) → list_all is_fit words ≡ false → name_in words ≡ None
name_none [] e = absurd (let f : true ≡ false = e in cc)
name_none (a ∷ []) e =
    ap (λ (t : Bool). if t then Some a else None) (unnamed (is_file_name a) (is_summary a) (and_none (is_fit a) e))
name_none (a ∷ b ∷ words) e = refl

tree_none : (words : List Text) → list_all is_fit words ≡ false → tree_in words ≡ None
tree_none [] e = absurd (let f : true ≡ false = e in cc)
tree_none (a ∷ []) e = refl
tree_none (a ∷ b ∷ []) e = ap (option_map Tree) (files_none a b e)
tree_none (a ∷ b ∷ c ∷ words) e = refl

same_number : (x y : ℕ) → (x == y) ≡ true → x ≡ y
same_number x y e = grind arith

-- a hyphen is no digit
number_none : (word : Text) → is_file_name word ≡ false → number_in word ≡ None
number_none [] e = absurd (let f : true ≡ false = e in cc)
number_none (x ∷ xs) e = by (45 == x) refl e
  where
    hyphen : (y : ℕ) → (45 == y) ≡ true → number_in (y ∷ xs) ≡ None
    hyphen y f = subst (λ (z : ℕ). number_in (z ∷ xs) ≡ None) (same_number 45 y f) refl

    by : (b : Bool) → (45 == x) ≡ b → not (b && true) ≡ false → number_in (x ∷ xs) ≡ None
    by true f g = hyphen x f
    by false f g = absurd (let h : true ≡ false = g in cc)

fit_literal : (word name : Text) → is_fit name ≡ true → bytes_eq word name ≡ true → is_fit word ≡ true
fit_literal word name f e = subst (λ (w : Text). is_fit w ≡ true) (sym ((bytes_decides word name).0 e)) f

second_unfit : (n what : Bool) → n ≡ true → (n && (what && true)) ≡ false → what ≡ false
second_unfit true what f e = and_none what e
second_unfit false what f e = cc

gen_none : (words : List Text) → list_all is_fit words ≡ false → gen_in words ≡ None
gen_none [] e = absurd (let f : true ≡ false = e in cc)
gen_none (n ∷ []) e = ap (option_map GenRun) (number_none n (unnamed (is_file_name n) (is_summary n) (and_none
    (is_fit n) e)))
gen_none (n ∷ what ∷ []) e = by (is_fit n) refl
  where
    unnumbered : number_in n ≡ None → gen_in (n ∷ what ∷ []) ≡ None
    unnumbered f =
        (λ i. if bytes_eq what (codes "world") then option_map GenWorld (f i) else if bytes_eq what
        (codes "script") then option_map GenScript (f i) else None)
        ∙ none (bytes_eq what (codes "world")) (bytes_eq what (codes "script"))
      where
        none : (b c : Bool) → (if b then option_map GenWorld None else if c then option_map GenScript None else None)
            ≡ None
        none true c = refl
        none false true = refl
        none false false = refl

    unlike : (name : Text) → is_fit name ≡ true → is_fit what ≡ false → bytes_eq what name ≡ false
    unlike name f g =
        elim (either (bytes_eq what name)) [
          | inl t ↦ absurd (let h : is_fit what ≡ true = fit_literal what name f t in cc)
          | inr t ↦ t
        ]

    unasked : is_fit what ≡ false → gen_in (n ∷ what ∷ []) ≡ None
    unasked f =
        λ i. if unlike (codes "world") refl f i then option_map GenWorld (number_in n) else if unlike
        (codes "script") refl f i then option_map GenScript (number_in n) else None

    by : (b : Bool) → is_fit n ≡ b → gen_in (n ∷ what ∷ []) ≡ None
    by false f = unnumbered (number_none n (unnamed (is_file_name n) (is_summary n) f))
    by true f = unasked (second_unfit (is_fit n) (is_fit what) f e)
gen_none (n ∷ what ∷ c ∷ words) e = refl

behind : (word name : Text) (rest : Bool) → is_fit name ≡ true → bytes_eq word name ≡ true
    → (is_fit word && rest) ≡ false → rest ≡ false
behind word name rest f t e = ap (λ (b : Bool). b && rest) (sym (fit_literal word name f t)) ∙ e

pub none_asked : (words : List Text) → list_all is_fit words ≡ false → form_in words ≡ None
none_asked [] e = absurd (let f : true ≡ false = e in cc)
none_asked (name ∷ words) e = run_or (bytes_eq name (codes "run")) refl
  where
    show_or : (b : Bool) → bytes_eq name (codes "show") ≡ b
        → (if b then option_map Show (name_in words) else None) ≡ None
    show_or true t = ap (option_map Show) (name_none words (behind name (codes "show")
        (list_all is_fit words) refl t e))
    show_or false t = refl

    gen_or : (b : Bool) → bytes_eq name (codes "gen") ≡ b
        → (if b then gen_in words else if bytes_eq name (codes "show") then option_map Show
        (name_in words) else None) ≡ None
    gen_or true t = gen_none words (behind name (codes "gen") (list_all is_fit words) refl t e)
    gen_or false t = show_or (bytes_eq name (codes "show")) refl

    tree_or : (b : Bool) → bytes_eq name (codes "tree") ≡ b
        → (if b then tree_in words else if bytes_eq name (codes "gen") then gen_in words else if bytes_eq name
        (codes "show") then option_map Show (name_in words) else None) ≡ None
    tree_or true t = tree_none words (behind name (codes "tree") (list_all is_fit words) refl t e)
    tree_or false t = gen_or (bytes_eq name (codes "gen")) refl

    check_or : (b : Bool) → bytes_eq name (codes "check") ≡ b
        → (if b then option_map Check (name_in words) else if bytes_eq name
        (codes "tree") then tree_in words else if bytes_eq name
        (codes "gen") then gen_in words else if bytes_eq name (codes "show") then option_map Show
        (name_in words) else None) ≡ None
    check_or true t = ap (option_map Check) (name_none words (behind name (codes "check")
        (list_all is_fit words) refl t e))
    check_or false t = tree_or (bytes_eq name (codes "tree")) refl

    run_or : (b : Bool) → bytes_eq name (codes "run") ≡ b
        → (if b then run_in words else if bytes_eq name (codes "check") then option_map Check
        (name_in words) else if bytes_eq name (codes "tree") then tree_in words else if bytes_eq name
        (codes "gen") then gen_in words else if bytes_eq name (codes "show") then option_map Show
        (name_in words) else None) ≡ None
    run_or true t = run_none words (behind name (codes "run") (list_all is_fit words) refl t e)
    run_or false t = check_or (bytes_eq name (codes "check")) refl
