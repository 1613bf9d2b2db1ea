-- What Beta, the master of Acme, concludes of updates over the base world, by itself and by probes.
use Rattle.std.specs.Prelude.{◌≡◌, [], ◌∷◌}
use Rattle.std.specs.declared.result.Result.TheVariants.{Ok, Err}
use Rattle.std.proofs.Common.{refl}
use Rattle.x5_model.specs.Members.{here}
use Rattle.x5_model.specs.References.{Next, NonSpecific}
use Rattle.x5_model.specs.Answers.{UpdateProblem}
use Rattle.x5_model.specs.Problems.{entry_already_exists, affects_multiple_dsas, not_allowed_on_non_leaf}
use Rattle.x5_model_tree.specs.Tree.{Tree}
use Rattle.x5_model_tree.specs.Masters.{whole}
use Rattle.x5_model_tree.specs.Apply.{apply}
use Rattle.x5_model_tree.specs.Consistent.{IsConsistent}
use Rattle.x5_model_run.specs.History.{Point, tree_at, world_at}
use Rattle.x5_model_run.specs.Needs.{reference}
use Rattle.x5_model_run.specs.Chain.{opening}
use Rattle.x5_model_updates.specs.Standing.{StandsWhole}
use Rattle.x5_model_updates.specs.Judging.{IsJudge, probes}
use Rattle.x5_model_updates.proofs.Stood.{lines_stand}
use Rattle.x5_model_updates.proofs.Goods.{tree_is_union}
use Rattle.x5_model_updates.proofs.Consists.{stands_consistent}
use Rattle.x5_model_updates.proofs.Judges.{refuses_alike, accepts_alone, refuses_at_probed}
use Rattle.x5_model_rows.proofs.BaseWorld.{base_world}
use Rattle.x5_model_rows.proofs.Consistency.{described, consistent}
use Rattle.x5_model_rows.proofs.Messages.{point}
use Rattle.x5_model_rows.proofs.Probing.{new_lab, add_lab, remove_acme, add_pen, second_line, third_line, remove_desk}

-- the first line finds the world as it is described
abbrev pub first_line : Point
first_line = point base_world []

pub first_stands : StandsWhole first_line
first_stands = lines_stand base_world first_line.past described consistent tt

-- Beta masters the context of Acme
pub beta_judges : IsJudge first_line 1 (opening add_lab)
beta_judges = record { stands = first_stands; update = refl; target = refl; resolving = refl; master = refl }

-- it has no entry OU=lab, and so asks Gamma and Delta, of which Gamma has it
pub lab_is_probed : probes first_line 1 (opening add_lab) ≡ reference new_lab (Next 3) NonSpecific (2 ∷ 3 ∷ []) ∷ []
lab_is_probed = refl

pub lab_is_refused : apply (tree_at first_line) add_lab ≡ Err (UpdateProblem entry_already_exists)
lab_is_refused =
    refuses_at_probed first_line 1 2 (opening add_lab) (reference new_lab (Next 3) NonSpecific (2 ∷ 3 ∷ [])) beta_judges
    here here refl

-- that Acme stands above pins it knows by its NSSR, though it knows none of them by name
pub acme_refused : apply (tree_at first_line) remove_acme ≡ Err (UpdateProblem affects_multiple_dsas)
acme_refused =
    refuses_alike first_line 1 (opening remove_acme) (UpdateProblem affects_multiple_dsas)
    (record { stands = first_stands; update = refl; target = refl; resolving = refl; master = refl }) refl

-- a new entry below Desk, where no NSSR is, is accepted by the whole tree, since Beta accepts it
pub second_stands : StandsWhole second_line
second_stands = lines_stand base_world second_line.past described consistent (tt, tt)

pub pen_accepted : (t : Tree) × (apply (tree_at second_line) add_pen ≡ Ok t)
pen_accepted =
    accepts_alone second_line 1 (opening add_pen) _ (record {
      stands = second_stands;
      update = refl;
      target = refl;
      resolving = refl;
      master = refl;
    }) refl refl

-- after it knowledge is consistent still, and the tree is what the masters have
pub third_stands : StandsWhole third_line
third_stands = lines_stand base_world third_line.past described consistent (tt, (tt, tt))

pub third_consistent : IsConsistent (world_at third_line)
third_consistent = stands_consistent third_line third_stands

pub third_union : (whole (world_at third_line)).entries ≡ (tree_at third_line).entries
third_union = (tree_is_union third_line third_stands).0

pub desk_refused : apply (tree_at third_line) remove_desk ≡ Err (UpdateProblem not_allowed_on_non_leaf)
desk_refused =
    refuses_alike third_line 1 (opening remove_desk) (UpdateProblem not_allowed_on_non_leaf)
    (record { stands = third_stands; update = refl; target = refl; resolving = refl; master = refl }) refl
