-- Journals that leave out a message that is needed (X.518, section 20), though each of their lines is as it should be:
-- a part that nobody is asked for, a name that isn't passed on, a referral that its sender or a user who follows
-- doesn't follow, a probe. Each is refused; and beside it what may be left out.
use Rattle.std.specs.Prelude.{◌≡◌, true, [], ◌∷◌}
use Rattle.std.proofs.Common.{refl}
use Rattle.x5_model.specs.Requests.{WholeSubtree}
use Rattle.x5_model.specs.References.{Done, NonSpecific}
use Rattle.x5_model_run.specs.Network.{Lost, Sent}
use Rattle.x5_model_run.specs.Journal.{Journal}
use Rattle.x5_model_run.specs.Chain.{scene_at}
use Rattle.x5_model_run.specs.Thorough.{Thorough}
use Rattle.x5_model_rows.proofs.BaseWorld.{acme}
use Rattle.x5_model_rows.proofs.Messages.{asks, passes, journal, accepted_journal}
use Rattle.x5_model_rows.proofs.Resolution.{at_first, read_absent, absent_at_beta, beta_refuses, name_lab}
use Rattle.x5_model_rows.proofs.Resolution.{name_at_alpha, name_at_beta, alpha_refuses, beta_down, read_acme}
use Rattle.x5_model_rows.proofs.Searching.{everything, from_root, root_at_gamma, root_at_beta, root_at_alpha, acme_part}
use Rattle.x5_model_rows.proofs.Placing.{following, first_asked}
use Rattle.x5_model_rows.proofs.Accepting.{new_scene, new_asked}
use Rattle.x5_model_rows.proofs.Limits.{reading, read_line, at_once}
use Rattle.x5_model_rows.proofs.Refused.{no}

-- A search from the root: Beta asks Gamma for what is below Acme, and not Delta; or neither.
abbrev pub without_delta : Journal
without_delta =
    journal (root_at_gamma ∷ root_at_beta ∷ root_at_alpha ∷ acme_part
    ∷ passes 5 acme_part 2 acme Done NonSpecific (everything acme WholeSubtree) Sent ∷ [])

pub not_without_delta : Thorough (scene_at at_first 2 from_root) without_delta → ⊥
not_without_delta t = no t

pub not_without_parts : Thorough (scene_at at_first 2 from_root)
    (journal (root_at_gamma ∷ root_at_beta ∷ root_at_alpha ∷ acme_part ∷ [])) → ⊥
not_without_parts t = no t

-- Nor does Alpha, which has the root, ask for what is at Acme.
pub not_without_acme : Thorough (scene_at at_first 2 from_root)
    (journal (root_at_gamma ∷ root_at_beta ∷ root_at_alpha ∷ [])) → ⊥
not_without_acme t = no t

-- A name below Acme that Beta doesn't have: nobody of its NSSR is asked.
pub not_alone : Thorough (scene_at at_first 1 read_absent) (journal (absent_at_beta ∷ [])) → ⊥
not_alone t = no t

-- Beta refuses to chain, and Alpha, which asked it and heard its referral, doesn't follow that.
pub not_unfollowed : Thorough (scene_at beta_refuses 0 name_lab) (journal (name_at_alpha ∷ name_at_beta ∷ [])) → ⊥
not_unfollowed t = no t

-- Alpha refuses: a user need not follow its referral; one who follows has to.
pub may_be_left : Thorough (scene_at alpha_refuses 0 name_lab) (journal (asks 1 0 name_lab Sent ∷ []))
may_be_left = refl

pub not_by_follower : Thorough following (journal (first_asked ∷ [])) → ⊥
not_by_follower t = no t

-- Nothing is needed for a message that didn't arrive, or that 128 agents had; but for one that 127 agents had it is.
pub none_for_lost : Thorough (scene_at beta_down 1 read_acme) (journal (asks 1 1 read_acme Lost ∷ []))
none_for_lost = refl

pub none_at_limit : Thorough (reading 128) at_once
none_at_limit = refl

pub not_below_limit : Thorough (reading 127) (journal (read_line 127 ∷ [])) → ⊥
not_below_limit t = no t

-- Beta adds an entry, whether it's said to be accepted or not, and asks nobody for the new name.
pub not_without_probes : Thorough new_scene (journal (new_asked ∷ [])) → ⊥
not_without_probes t = no t

pub not_accepted_so : Thorough new_scene (accepted_journal (new_asked ∷ []) 1) → ⊥
not_accepted_so t = no t
