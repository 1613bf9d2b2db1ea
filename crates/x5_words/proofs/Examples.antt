-- Which words ask for something, by hand from the forms: each line computes.
use Rattle.std.proofs.Common.{◌≡◌, ℕ, true, false, List, [], ◌∷◌, Option, Some, codes, refl}
use Rattle.std.specs.Prelude.{◌==◌}
use Rattle.std.specs.List.{slice_split, list_all}
use Rattle.std.specs.Option.{is_none}
use Rattle.x5_words.specs.Forms.{FileNames, Form, Run, Check, Tree, GenRun, GenWorld, GenScript, Show, form_in}

-- what the words between the spaces of a text ask for
abbrev asked : List ℕ → Option Form
asked line = form_in (slice_split (λ b. b == 32) line)

abbrev files : List ℕ → List ℕ → FileNames
files world script = record { world = world; script = script }

a_run : asked (codes "run w s") ≡ Some (Run (files (codes "w") (codes "s")) false)
a_run = refl

summary_first : asked (codes "run --summary w s") ≡ Some (Run (files (codes "w") (codes "s")) true)
summary_first = refl

summary_between : asked (codes "run w --summary s") ≡ Some (Run (files (codes "w") (codes "s")) true)
summary_between = refl

summary_last : asked (codes "run w s --summary") ≡ Some (Run (files (codes "w") (codes "s")) true)
summary_last = refl

a_check : asked (codes "check w") ≡ Some (Check (codes "w"))
a_check = refl

a_tree : asked (codes "tree w s") ≡ Some (Tree (files (codes "w") (codes "s")))
a_tree = refl

a_generated_run : asked (codes "gen 0") ≡ Some (GenRun 0)
a_generated_run = refl

a_generated_world : asked (codes "gen 0000001993 world") ≡ Some (GenWorld 1993)
a_generated_world = refl

a_generated_script : asked (codes "gen 4294967295 script") ≡ Some (GenScript 4294967295)
a_generated_script = refl

a_show : asked (codes "show f") ≡ Some (Show (codes "f"))
a_show = refl

-- what asks for nothing
abbrev others : List (List ℕ)
others =
    codes "" ∷ codes "run" ∷ codes "run w" ∷ codes "run w s t" ∷ codes "run --summary w" ∷
    codes "run --summary --summary w s" ∷ codes "run w s --summary --summary" ∷ codes "run -w s" ∷
    codes "run w s --help" ∷ codes "check" ∷ codes "check w --summary" ∷ codes "check -w" ∷ codes "tree w" ∷
    codes "tree --summary w s" ∷ codes "gen" ∷ codes "gen 4294967296" ∷ codes "gen 00000001993" ∷ codes "gen +1" ∷
    codes "gen 1 worlds" ∷ codes "gen 1 world world" ∷ codes "gen 1 --summary" ∷ codes "show -" ∷ codes "--help" ∷
    codes "help" ∷ codes "--version" ∷ []

others_ask_for_nothing : list_all (λ line. is_none (asked line)) others ≡ true
others_ask_for_nothing = refl
