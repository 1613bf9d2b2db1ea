-- What `clap` answers is what the words ask for: its matches, or an error that isn't want of memory.
use Rattle.std.proofs.Common.{◌≡◌, true, false, List, [], Option, None, refl, sym, ap, subst, ◌∙◌, ◌⊎◌, inl, inr}
use Rattle.std.specs.List.{list_all}
use Rattle.clap.specs.Words.{Row, Text, App, fault_of, is_simple, is_simple_and_free, subcommand_of}
use Rattle.clap.specs.Kinds.{IsAmong}
use Rattle.clap.specs.declared.error.kind.ErrorKind.{ErrorKind}
use Rattle.clap.specs.declared.error.kind.ErrorKind.TheVariants.{OutOfMemory}
use Rattle.clap.proofs.OnLiterals.{clap_on_literals}
use Rattle.x5_words.specs.Forms.{form_in}
use Rattle.x5_words.specs.Command.{xdir_app, is_fit, form_found, is_want_of_memory}
use Rattle.x5_words.proofs.Walking.{Faulty}
use Rattle.x5_words.proofs.Top.{Reads, reads}

simple : is_simple xdir_app ≡ true
unfolding clap_on_literals
simple = refl

free : is_simple_and_free xdir_app ≡ true
unfolding clap_on_literals
free = refl

pub is_simple_app : (a : App) → a ≡ xdir_app → is_simple a ≡ true
is_simple_app a e = ap is_simple e ∙ simple

pub is_free_app : (a : App) → a ≡ xdir_app → is_simple_and_free a ≡ true
is_free_app a e = ap is_simple_and_free e ∙ free

module _ (a : App) (is : a ≡ xdir_app) (words : List Text) (fits : list_all is_fit words ≡ true) where
  pub matches_read : (rows : Option (Text × List Row)) → fault_of a words ≡ [] → rows ≡ subcommand_of a words
      → form_found rows ≡ form_in words
  matches_read rows none found = by (reads words fits)
    where
      by : Reads words → form_found rows ≡ form_in words
      by (inl e) = ap form_found (found ∙ ap (λ (b : App). subcommand_of b words) is) ∙ e.1
      by (inr e) = absurd (subst Faulty (ap (λ (b : App). fault_of b words) (sym is) ∙ none) e.0)

  pub error_read : (k : ErrorKind) → is_want_of_memory k ≡ false → (k ≡ OutOfMemory) ⊎ IsAmong k (fault_of a words)
      → form_in words ≡ None
  error_read k other (inl e) = absurd (let f : true ≡ false = sym (ap is_want_of_memory e) ∙ other in cc)
  error_read k other (inr i) = by (reads words fits)
    where
      by : Reads words → form_in words ≡ None
      by (inl e) = absurd (subst (λ ks. IsAmong k ks) (ap (λ (b : App). fault_of b words) is ∙ e.0) i)
      by (inr e) = e.1
