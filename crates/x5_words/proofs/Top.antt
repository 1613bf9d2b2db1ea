-- What the words of the command line come to: the first names the subcommand, whose words are those behind it.
use Rattle.std.proofs.Common.{◌≡◌, Bool, true, false, ◌||◌, List, [], ◌∷◌, ◌++◌, Option, None, Some, if◌then◌else◌}
use Rattle.std.proofs.Common.{option_map, is_some, fold, append_assoc, rules, refl, sym, ap, subst, ◌∙◌, codes, ◌⊎◌}
use Rattle.std.proofs.Common.{inl, inr}
use Rattle.std.specs.List.{list_all}
use Rattle.std.specs.Str.{bytes_eq}
use Rattle.std.specs.Cmp.Lexicographic.{bytes_decides, nat_list_eq_equiv}
use Rattle.clap.specs.Words.{Row, Text, Kinds, built, fault_of, subcommand_of, first_of}
use Rattle.clap.specs.Kinds.{or_else}
use Rattle.clap.specs.Simple.{Shape, names_of, entered, rows_at}
use Rattle.clap.specs.Walk.{Names, Walk, idle, subcommand_met, nothing_held, walk_from, walked, settled, finished}
use Rattle.clap.specs.Faults.{walk_fault, turn_fault, level_fault, entered_fault, settle_fault, defaults_fault}
use Rattle.clap.specs.Faults.{check_fault}
use Rattle.clap.proofs.OnLiterals.{clap_on_literals}
use Rattle.x5_words.specs.Forms.{Form, Check, Show, run_in, name_in, tree_in, gen_in, form_behind, form_in}
use Rattle.x5_words.specs.Command.{xdir_app, is_fit, form_read, form_found, run_read, tree_read, gen_read}
use Rattle.x5_words.proofs.Walking.{Faulty, faulty_first, Says, at, level_is, rows_are, word_stands, fit_word, both_fit}
use Rattle.x5_words.proofs.Leaves.{run_shape, check_shape, tree_shape, gen_shape, show_shape, run_says, check_says}
use Rattle.x5_words.proofs.Leaves.{tree_says, gen_says, show_says}

abbrev top : Shape
top = (built xdir_app).top

abbrev names : Names
names = names_of (built xdir_app)

-- ---- behind the subcommand's name all words are the subcommand's

abbrev stopped : Text → List Text → Walk
stopped name words = record (at nothing_held 1) { stopped = Some (name, words) }

walks_on : (name : Text) (before words : List Text)
    → fold (walked [] names) (stopped name before) words ≡ stopped name (before ++ words)
unfolding walked
walks_on name before [] = search rules
walks_on name before (w ∷ words) =
    walks_on name (before ++ w ∷ []) words ∙ ap (stopped name) (append_assoc before (w ∷ []) words)

no_fault : (name : Text) (before words : List Text) → walk_fault top names (stopped name before) words ≡ []
unfolding walked walk_fault
no_fault name before [] = refl
no_fault name before (w ∷ words) = no_fault name (before ++ w ∷ []) words

or_none : (k : Kinds) → or_else k [] ≡ k
or_none [] = refl
or_none (x ∷ xs) = refl

-- what is found is asked for, and there is no fault; or there is one, and nothing is asked for
abbrev pub Reads : List Text → Type 0
Reads words =
    ((fault_of xdir_app words ≡ []) × (form_found (subcommand_of xdir_app words) ≡ form_in words)) ⊎ (Faulty
    (fault_of xdir_app words) × (form_in words ≡ None))

abbrev below_at : Shape → List Text → Kinds
below_at s words = level_fault s [] nothing_held words false []

-- by what the words behind a name come to
module _ (name : Text) (s : Shape) (words : List Text) (fault : fault_of xdir_app (name ∷ words) ≡ below_at s words)
    (rows : subcommand_of xdir_app (name ∷ words) ≡ Some (rows_at s words)) where
  by_says : {X : Type 0} (read : List Row → Option X) (f : X → Form) (wanted : Option X) → ((r : List Row)
      → form_read s.name r ≡ option_map f (read r)) → form_in (name ∷ words) ≡ option_map f wanted
      → Says s read (walk_from nothing_held) words wanted → Reads (name ∷ words)
  by_says read f wanted reads form (inl e) =
      inl (
        fault ∙ level_is s words ∙ e.0,
        ap form_found rows ∙ reads (rows_at s words).1 ∙ ap (λ r. option_map f (read r)) (rows_are s words) ∙ ap
            (option_map f) e.1 ∙ sym form,
      )
  by_says read f wanted reads form (inr e) =
      inr (subst Faulty (sym (fault ∙ level_is s words)) e.0, form ∙ ap (option_map f) e.1)

module _ (words : List Text) where
  stop_is : (name : Text) → walked [] names (walk_from nothing_held) name ≡ stopped name []
      → fold (walked [] names) (walk_from nothing_held) (name ∷ words) ≡ stopped name words
  stop_is name to = ap (λ (w : Walk). fold (walked [] names) w words) to ∙ walks_on name [] words

-- the faults of a command line, by the end of its walk
abbrev faults_at : Walk → Kinds → Kinds
faults_at w walk =
    or_else walk (or_else (entered_fault (built xdir_app) w.stopped)
    (or_else (settle_fault top.rules top.args_override_self w.held)
    (or_else (defaults_fault (settled top.rules w.held).rows top.rules)
    (check_fault top (finished top.rules w.held) (is_some (entered (built xdir_app) w.stopped))))))

run_fault : (words : List Text) → fault_of xdir_app (codes "run" ∷ words) ≡ below_at run_shape words
unfolding clap_on_literals
run_fault words =
    (λ i. faults_at (stop_is words (codes "run") refl i) (or_else [] (no_fault (codes "run") [] words i)))
    ∙ or_none (below_at run_shape words)

run_rows : (words : List Text) → subcommand_of xdir_app (codes "run" ∷ words) ≡ Some (rows_at run_shape words)
unfolding clap_on_literals
run_rows words = λ i. entered (built xdir_app) (stop_is words (codes "run") refl i).stopped

check_fault_is : (words : List Text) → fault_of xdir_app (codes "check" ∷ words) ≡ below_at check_shape words
unfolding clap_on_literals
check_fault_is words =
    (λ i. faults_at (stop_is words (codes "check") refl i) (or_else [] (no_fault (codes "check") [] words i)))
    ∙ or_none (below_at check_shape words)

check_rows : (words : List Text) → subcommand_of xdir_app (codes "check" ∷ words) ≡ Some (rows_at check_shape words)
unfolding clap_on_literals
check_rows words = λ i. entered (built xdir_app) (stop_is words (codes "check") refl i).stopped

tree_fault : (words : List Text) → fault_of xdir_app (codes "tree" ∷ words) ≡ below_at tree_shape words
unfolding clap_on_literals
tree_fault words =
    (λ i. faults_at (stop_is words (codes "tree") refl i) (or_else [] (no_fault (codes "tree") [] words i)))
    ∙ or_none (below_at tree_shape words)

tree_rows : (words : List Text) → subcommand_of xdir_app (codes "tree" ∷ words) ≡ Some (rows_at tree_shape words)
unfolding clap_on_literals
tree_rows words = λ i. entered (built xdir_app) (stop_is words (codes "tree") refl i).stopped

gen_fault : (words : List Text) → fault_of xdir_app (codes "gen" ∷ words) ≡ below_at gen_shape words
unfolding clap_on_literals
gen_fault words =
    (λ i. faults_at (stop_is words (codes "gen") refl i) (or_else [] (no_fault (codes "gen") [] words i)))
    ∙ or_none (below_at gen_shape words)

gen_rows : (words : List Text) → subcommand_of xdir_app (codes "gen" ∷ words) ≡ Some (rows_at gen_shape words)
unfolding clap_on_literals
gen_rows words = λ i. entered (built xdir_app) (stop_is words (codes "gen") refl i).stopped

show_fault : (words : List Text) → fault_of xdir_app (codes "show" ∷ words) ≡ below_at show_shape words
unfolding clap_on_literals
show_fault words =
    (λ i. faults_at (stop_is words (codes "show") refl i) (or_else [] (no_fault (codes "show") [] words i)))
    ∙ or_none (below_at show_shape words)

show_rows : (words : List Text) → subcommand_of xdir_app (codes "show" ∷ words) ≡ Some (rows_at show_shape words)
unfolding clap_on_literals
show_rows words = λ i. entered (built xdir_app) (stop_is words (codes "show") refl i).stopped

-- an option through a function that changes nothing
as_it_is : {X : Type 0} (o : Option X) → o ≡ option_map (λ x. x) o
as_it_is None = refl
as_it_is (Some x) = refl

run_reads : (words : List Text) → list_all is_fit words ≡ true → Reads (codes "run" ∷ words)
run_reads words fits =
    by_says (codes "run") run_shape words (run_fault words) (run_rows words) run_read (λ f. f) (run_in words)
    (λ r. as_it_is (run_read r)) (as_it_is (run_in words)) (run_says words fits)

check_reads : (words : List Text) → list_all is_fit words ≡ true → Reads (codes "check" ∷ words)
check_reads words fits =
    by_says (codes "check") check_shape words (check_fault_is words) (check_rows words) (first_of
    (codes "world")) Check (name_in words) (λ r. refl) refl (check_says words fits)

tree_reads : (words : List Text) → list_all is_fit words ≡ true → Reads (codes "tree" ∷ words)
tree_reads words fits =
    by_says (codes "tree") tree_shape words (tree_fault words) (tree_rows words) tree_read (λ f. f) (tree_in words)
    (λ r. as_it_is (tree_read r)) (as_it_is (tree_in words)) (tree_says words fits)

gen_reads : (words : List Text) → list_all is_fit words ≡ true → Reads (codes "gen" ∷ words)
gen_reads words fits =
    by_says (codes "gen") gen_shape words (gen_fault words) (gen_rows words) gen_read (λ f. f) (gen_in words)
    (λ r. as_it_is (gen_read r)) (as_it_is (gen_in words)) (gen_says words fits)

show_reads : (words : List Text) → list_all is_fit words ≡ true → Reads (codes "show" ∷ words)
show_reads words fits =
    by_says (codes "show") show_shape words (show_fault words) (show_rows words) (first_of (codes "file")) Show
    (name_in words) (λ r. refl) refl (show_says words fits)

-- ---- a first word that names no subcommand

first_fault : (name : Text) (words : List Text) → Faulty (turn_fault top names (walk_from nothing_held) name)
    → Faulty (fault_of xdir_app (name ∷ words))
unfolding walk_fault
first_fault name words f =
    faulty_first (or_else (turn_fault top names (walk_from nothing_held) name) (walk_fault top names (walked [] names
    (walk_from nothing_held) name) words)) _
    (faulty_first (turn_fault top names (walk_from nothing_held) name) _ f)

module _ (name : Text) (words : List Text) (fit : is_fit name ≡ true)
    (a : bytes_eq name (codes "run") ≡ false) (b : bytes_eq name (codes "check") ≡ false) (c : bytes_eq name
    (codes "tree") ≡ false) (d : bytes_eq name (codes "gen") ≡ false) (e : bytes_eq name (codes "show")
    ≡ false) where
  turned : (word : Text) → bytes_eq name word ≡ false → bytes_eq word name ≡ false
  turned word f = nat_list_eq_equiv.symm word name ∙ f

  unmet : subcommand_met names idle name ≡ None
  unmet =
      λ i. option_map (λ (s : Text × List Text). s.0)
      (if turned (codes "run") a i || false then Some (codes "run", [])
      else if turned (codes "check") b i || false then Some (codes "check", [])
      else if turned (codes "tree") c i || false then Some (codes "tree", [])
      else if turned (codes "gen") d i || false then Some (codes "gen", [])
      else if turned (codes "show") e i || false then Some (codes "show", []) else None)

  no_form : form_behind name words ≡ None
  no_form =
      λ i. if a i then run_in words
      else if b i then option_map Check (name_in words)
      else if c i then tree_in words
      else if d i then gen_in words
      else if e i then option_map Show (name_in words)
      else None

  other_reads : Reads (name ∷ words)
  unfolding clap_on_literals
  other_reads =
      elim (fit_word name fit) [
        | inl p ↦ inr (
          first_fault name words (subst Faulty (sym
              (word_stands top names nothing_held 1 name p unmet)) tt),
          no_form,
        )
        | inr f ↦ inr (
          subst (λ (n : Text). Faulty (fault_of xdir_app (n ∷ words))) (sym f) (first_fault
              (codes "--summary") words tt),
          no_form,
        )
      ]

either : (t : Bool) → (t ≡ true) ⊎ (t ≡ false)
either true = inl refl
either false = inr refl

named : (name word : Text) (words : List Text) → Reads (word ∷ words) → bytes_eq name word ≡ true → Reads (name ∷ words)
named name word words r e = subst (λ (n : Text). Reads (n ∷ words)) (sym ((bytes_decides name word).0 e)) r

-- words of which none is another flag: what is found is what they ask for, and a fault comes exactly where they ask
-- for nothing
pub reads : (words : List Text) → list_all is_fit words ≡ true → Reads words
unfolding clap_on_literals
reads [] fits = inr (tt, refl)
reads (name ∷ words) fits =
    let w = both_fit name words fits in
    elim (either (bytes_eq name (codes "run"))) [
      | inl e ↦ named name (codes "run") words (run_reads words w.1) e
      | inr a ↦ elim (either (bytes_eq name (codes "check"))) [
        | inl e ↦ named name (codes "check") words (check_reads words w.1) e
        | inr b ↦ elim (either (bytes_eq name (codes "tree"))) [
          | inl e ↦ named name (codes "tree") words (tree_reads words w.1) e
          | inr c ↦ elim (either (bytes_eq name (codes "gen"))) [
            | inl e ↦ named name (codes "gen") words (gen_reads words w.1) e
            | inr d ↦ elim (either (bytes_eq name (codes "show"))) [
              | inl e ↦ named name (codes "show") words (show_reads words w.1) e
              | inr e ↦ other_reads name words w.0 a b c d e
            ]
          ]
        ]
      ]
    ]
