-- The octets are those of the object identifier.
use Rattle.std.proofs.Common.{◌≡◌, ℕ, true, ◌∷◌, [], ◌++◌, ap, subst, ◌∙◌}
use Rattle.x5_model.specs.Types.{is_known}
use Rattle.x5_direct_writer.proofs.Types.{put_known}
use Rattle.x5_direct_writer.proofs.names.put_known_type.Goals as goal

pub returns : goal.returns
returns c =
    put_known c.args.kind c.args.out.now c.put_all.new.self
    (subst (λ (k : ℕ). is_known k ≡ true) c.number.ensures.same c.number.ensures.known)
    (c.in_ok-put_all.ensures ∙ ap (λ (k : ℕ). (6 ∷ 3 ∷ 85 ∷ 4 ∷ k ∷ []) ++ c.args.out.now) c.number.ensures.same)
