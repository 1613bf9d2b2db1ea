-- Whether knowledge is consistent, and the line on it, in which no moment stands.
use Rattle.std.proofs.Common.{◌≡◌, ◌↔◌, ℕ, Bool, true, false, List, [], ◌∷◌, codes, Option, Some, None, is_some, IsTrue, refl, sym, ap, ap₂, ◌∙◌}
use Rattle.std.specs.Fmt.{decimal}
use Rattle.std.specs.List.{concat}
use Rattle.x5_know.specs.Moments.{moment_text}
use Rattle.x5_model.specs.Values.{Text}
use Rattle.x5_model_output.specs.Output.{knowledge_line, names_of, printed_text}
use Rattle.x5_model_tree.proofs.FirstBreach.{none_is_consistent}
use Rattle.x5_model_tree.specs.Consistent.{Inconsistency, Printed, NamePrinted, AgentPrinted, AgreementPrinted, first_breach, IsConsistent}
use Rattle.x5_model_tree.specs.World.{World}
use Rattle.x5_model_run.specs.History.{Did}
use Rattle.x5_model_world.specs.WorldFile.{File}
use Rattle.x5_world.specs.Refreshes.{IsSound}
use Rattle.x5_world.specs.State.{Net, StandsAt}
use Rattle.xdir.specs.Checked.{knowledge_text}
use Rattle.xdir.specs.Taken.{point}

-- ---- whether it is

pub other_is_broken : (w : World) → (IsConsistent w → ⊥) → is_some (first_breach w) ≡ true
other_is_broken w other = by (first_breach w) refl
  where
    by : (o : Option Inconsistency) → first_breach w ≡ o → is_some (first_breach w) ≡ true
    by None e = absurd (other (none_is_consistent w e))
    by (Some b) e = ap (λ (o : Option Inconsistency). is_some o) e

-- what is told of knowledge, at a line of a run over it
pub is_sound : (w : World) (told : Bool) → (IsTrue told ↔ IsConsistent w) → (past : List Did) (net : Net) → StandsAt net (point w past)
    → IsTrue told → IsSound net
is_sound w told is past net stands sure = record { point = point w past; stands = stands; consistent = is.0 sure }

pub is_unsound : (w : World) (told : Bool) → told ≡ false → (IsTrue told ↔ IsConsistent w) → IsConsistent w → ⊥
is_unsound w told unsure is consistent =
    let wrong : true ≡ false = sym (is.1 consistent) ∙ unsure in cc

-- ---- its line

printed_alike : (w : World) (m n : ℕ → Text) (x : Printed) → printed_text (names_of w m) x ≡ printed_text (names_of w n) x
printed_alike w m n (AgentPrinted a) = refl
printed_alike w m n (NamePrinted name) = refl
printed_alike w m n (AgreementPrinted k) = refl

line_alike : (w : World) (m n : ℕ → Text) (o : Option Inconsistency) → knowledge_line (names_of w m) o ≡ knowledge_line (names_of w n) o
line_alike w m n None = refl
line_alike w m n (Some b) =
    ap₂ (λ (x y : Text). concat (codes "knowledge inconsistent C" ∷ decimal b.condition ∷ codes " " ∷ x ∷ codes " " ∷ y ∷ codes "\n" ∷ []))
    (printed_alike w m n b.first) (printed_alike w m n b.second)

pub knowledge_is : (f : File) → knowledge_text f.world ≡ knowledge_line (names_of f.world (moment_text f.start)) (first_breach f.world)
knowledge_is f = line_alike f.world (λ moment. []) (moment_text f.start) (first_breach f.world)
