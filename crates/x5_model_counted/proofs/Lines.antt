-- How the lines of a text are counted: whole lines that stand before a text add their own counts to the text's.
use Rattle.std.proofs.Common.{◌≡◌, ℕ, suc, ◌+◌, Bool, true, false, not, ◌||◌, cond, nat_eq, List, [], ◌∷◌, ◌++◌, length, refl, sym, ap, subst, ◌∙◌, codes, arith, append-nil, length-append}
use Rattle.std.proofs.lemmas.List.{append_assoc}
use Rattle.std.proofs.lemmas.List.Elements.{filter-append}
use Rattle.std.proofs.lemmas.List.Splits.{slice_split-cons_no}
use Rattle.std.specs.List.{list_any, filter, flat_map, slice_split, onto_first, starts_with}
use Rattle.x5_model.specs.Values.{Text}
use Rattle.x5_model.specs.Words.{in_option, first_of}
use Rattle.x5_model_output.specs.Summary.{Counts, no_counts, both}
use Rattle.x5_model_script.specs.Script.{is_line_feed, without_last_empty}
use Rattle.x5_model_counted.specs.Lines.{first_line}
use Rattle.x5_model_counted.proofs.Texts.{OneLine, joined}

-- ---- sums of counts

pub none_before : (c : Counts) → both no_counts c ≡ c
none_before c =
    λ i. record {
      requests = first c.requests i;
      entries = first c.entries i;
      subs = first c.subs i;
      errors = first c.errors i;
      referrals = first c.referrals i;
      unexplored = first c.unexplored i;
      accepted = first c.accepted i;
      refreshed = first c.refreshed i;
    }
  where
    first : (n : ℕ) → 0 + n ≡ n
    first n = omega arith

pub none_behind : (c : Counts) → both c no_counts ≡ c
none_behind c =
    λ i. record {
      requests = last c.requests i;
      entries = last c.entries i;
      subs = last c.subs i;
      errors = last c.errors i;
      referrals = last c.referrals i;
      unexplored = last c.unexplored i;
      accepted = last c.accepted i;
      refreshed = last c.refreshed i;
    }
  where
    last : (n : ℕ) → n + 0 ≡ n
    last n = omega arith

regrouped : (a b c : Counts) → both a (both b c) ≡ both (both a b) c
regrouped a b c =
    λ i. record {
      requests = three a.requests b.requests c.requests i;
      entries = three a.entries b.entries c.entries i;
      subs = three a.subs b.subs c.subs i;
      errors = three a.errors b.errors c.errors i;
      referrals = three a.referrals b.referrals c.referrals i;
      unexplored = three a.unexplored b.unexplored c.unexplored i;
      accepted = three a.accepted b.accepted c.accepted i;
      refreshed = three a.refreshed b.refreshed c.refreshed i;
    }
  where
    three : (k m n : ℕ) → k + (m + n) ≡ k + m + n
    three k m n = omega arith

-- ---- lines, and how many of them begin with a word

abbrev pub parts : Text → List Text
parts t = slice_split is_line_feed t

abbrev pub beginning : Text → List Text → ℕ
beginning word lines = length (filter (λ line. starts_with nat_eq line word) lines)

-- the counts of lines, where no request is told
abbrev pub in_lines : List Text → Counts
in_lines lines =
    record {
      requests = 0;
      entries = beginning (codes "entry") lines;
      subs = beginning (codes "sub") lines;
      errors = beginning (codes "error") lines;
      referrals = beginning (codes "referral") lines;
      unexplored = beginning (codes "unexplored") lines;
      accepted = beginning (codes "accepted") lines;
      refreshed = beginning (codes "refreshed") lines;
    }

abbrev pub in_text : Text → Counts
in_text t = in_lines (parts t)

beginning_joined : (word : Text) (a b : List Text) → beginning word (a ++ b) ≡ beginning word a + beginning word b
beginning_joined word a b =
    ap length (filter-append (λ line. starts_with nat_eq line word) a b)
    ∙ length-append (filter (λ line. starts_with nat_eq line word) a) (filter (λ line. starts_with nat_eq line word) b)

in_joined : (a b : List Text) → in_lines (a ++ b) ≡ both (in_lines a) (in_lines b)
in_joined a b =
    λ i. record {
      requests = 0;
      entries = beginning_joined (codes "entry") a b i;
      subs = beginning_joined (codes "sub") a b i;
      errors = beginning_joined (codes "error") a b i;
      referrals = beginning_joined (codes "referral") a b i;
      unexplored = beginning_joined (codes "unexplored") a b i;
      accepted = beginning_joined (codes "accepted") a b i;
      refreshed = beginning_joined (codes "refreshed") a b i;
    }

-- it is nothing to a count whether a last empty line is one
pub last_empty : (word : Text) → starts_with nat_eq [] word ≡ false → (lines : List Text)
    → beginning word (without_last_empty lines) ≡ beginning word lines
last_empty word h [] = refl
last_empty word h ([] ∷ []) = sym (ap (λ (b : Bool). length {A = Text} (cond b ([] ∷ []) [])) h)
last_empty word h ((b ∷ bs) ∷ []) = refl
last_empty word h (line ∷ next ∷ lines) =
    by (starts_with nat_eq line word) (last_empty word h (next ∷ lines))
  where
    by : (s : Bool) → beginning word (without_last_empty (next ∷ lines)) ≡ beginning word (next ∷ lines)
        → length (cond s (line ∷ filter (λ l. starts_with nat_eq l word) (without_last_empty (next ∷ lines))) (filter (λ l. starts_with nat_eq l word) (without_last_empty (next ∷ lines))))
        ≡ length (cond s (line ∷ filter (λ l. starts_with nat_eq l word) (next ∷ lines)) (filter (λ l. starts_with nat_eq l word) (next ∷ lines)))
    by true e = ap suc e
    by false e = e

-- a line ends at the first line feed
pub cut : (line rest : Text) → OneLine line → parts (line ++ 10 ∷ rest) ≡ line ∷ parts rest
cut [] rest h = refl
cut (b ∷ line) rest h =
    let e = split (is_line_feed b) h in
    slice_split-cons_no is_line_feed b (line ++ 10 ∷ rest) e.0 ∙ ap (onto_first b) (cut line rest e.1)
  where
    split : (x : Bool) → not (x || list_any is_line_feed line) ≡ true → (x ≡ false) × (not (list_any is_line_feed line) ≡ true)
    split true q = cc
    split false q = (refl, q)

pub first_is : (b : ℕ) (line rest : Text) → OneLine (b ∷ line) → first_line ((b ∷ line) ++ 10 ∷ rest) ≡ (b ∷ line) ++ codes "\n"
first_is b line rest h =
    ap (λ lines. in_option [] (λ l. l ++ codes "\n") (first_of (without_last_empty lines))) (cut (b ∷ line) rest h) ∙ by (parts rest)
  where
    by : (lines : List Text) → in_option [] (λ l. l ++ codes "\n") (first_of (without_last_empty ((b ∷ line) ∷ lines))) ≡ (b ∷ line) ++ codes "\n"
    by [] = refl
    by (l ∷ lines) = refl

-- ---- texts that end a line

pub record Ends (t : Text) : Type 0 where
  pub line : Text
  pub one : OneLine line
  pub is : t ≡ line ++ 10 ∷ []

pub ending : Ends (codes "\n" ++ [])
ending = record { line = []; one = refl; is = refl }

pub piece : (p t : Text) → OneLine p → Ends t → Ends (p ++ t)
piece p t h e = record {
  line = p ++ e.line;
  one = joined p e.line h e.one;
  is = ap (λ (x : Text). p ++ x) e.is ∙ sym (append_assoc p e.line (10 ∷ []));
}

-- ---- what a text adds

pub record Counted (t : Text) (c : Counts) : Type 0 where
  pub adds : (rest : Text) → in_text (t ++ rest) ≡ both c (in_text rest)

pub line_counted : (word t : Text) → OneLine word → (e : Ends t) → Counted (word ++ t) (in_lines ((word ++ e.line) ∷ []))
line_counted word t h e = record {
  adds = λ rest.
      ap (λ (x : Text). in_text (word ++ x ++ rest)) e.is
      ∙ ap (λ (x : Text). in_text (x ++ rest)) (sym (append_assoc word e.line (10 ∷ [])))
      ∙ ap in_text (append_assoc (word ++ e.line) (10 ∷ []) rest)
      ∙ ap in_lines (cut (word ++ e.line) rest (joined word e.line h e.one))
      ∙ in_joined ((word ++ e.line) ∷ []) (parts rest);
}

pub nothing : Counted [] no_counts
nothing = record { adds = λ rest. sym (none_before (in_text rest)) }

pub in_turn : (a b : Text) (c d : Counts) → Counted a c → Counted b d → Counted (a ++ b) (both c d)
in_turn a b c d p q = record {
  adds = λ rest. ap in_text (append_assoc a b rest) ∙ p.adds (b ++ rest) ∙ ap (both c) (q.adds rest) ∙ regrouped c d (in_text rest);
}

pub the_same : (t : Text) (c d : Counts) → c ≡ d → Counted t c → Counted t d
the_same t c d e p = subst (Counted t) e p

pub behind_none : (a b : Text) (c : Counts) → Counted a no_counts → Counted b c → Counted (a ++ b) c
behind_none a b c p q = the_same (a ++ b) (both no_counts c) c (none_before c) (in_turn a b no_counts c p q)

pub before_none : (a b : Text) (c : Counts) → Counted a c → Counted b no_counts → Counted (a ++ b) c
before_none a b c p q = the_same (a ++ b) (both c no_counts) c (none_behind c) (in_turn a b c no_counts p q)

pub whole : (t : Text) (c : Counts) → Counted t c → in_text t ≡ c
whole t c p = ap in_text (sym (append-nil t)) ∙ p.adds [] ∙ none_behind c

-- texts of one kind, one after another
module _ (some : ℕ → Counts) (none : some 0 ≡ no_counts) (more : (n : ℕ) → both (some 1) (some n) ≡ some (suc n)) where
  pub each_counted : {X : Type 0} (f : X → Text) → ((x : X) → Counted (f x) (some 1)) → (xs : List X) → Counted (flat_map f xs) (some (length xs))
  each_counted f h [] = the_same [] no_counts (some 0) (sym none) nothing
  each_counted f h (x ∷ xs) =
      the_same (f x ++ flat_map f xs) (both (some 1) (some (length xs))) (some (suc (length xs))) (more (length xs))
      (in_turn (f x) (flat_map f xs) (some 1) (some (length xs)) (h x) (each_counted f h xs))
