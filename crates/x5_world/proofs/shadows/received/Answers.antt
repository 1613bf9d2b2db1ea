-- The message says just what its sender knows of the way, and the agreement of its number is the way's.
use Rattle.std.proofs.Common.{◌≡◌, ℕ, ◌==◌, sym, ap, subst, ◌∙◌, Some}
use Rattle.std.specs.List.{find}
use Rattle.x5_model_tree.specs.World.{Agreement}
use Rattle.x5_shadow_wire.specs.declared.asked.Asked.{Asked}
use Rattle.x5_world.specs.Shadows.{heard_by}
use Rattle.x5_world.specs.Refreshing.{last_of}
use Rattle.x5_world.specs.declared.refreshing.Way.{Way}
use Rattle.x5_world.proofs.Arriving.{agreed_there, heard_same}
use Rattle.x5_world.proofs.Courses.{some_is}
use Rattle.x5_world.proofs.shadows.received.Goals as goal

pub agreed-requires : goal.agreed-requires
agreed-requires c =
    let by : Way = c.args.by.now in (
      by.agreement,
      subst (λ (k : ℕ). find (λ (a : Agreement). a.number == k) c.args.world.now.agreements ≡ Some by.agreement)
          (sym (ap (λ (a : Asked). a.agreement) c.in_ok-read.ensures ∙ c.number.ensures))
          (agreed_there c.args.world.now by c.requires.sound c.requires.way),
    )

pub returns : goal.returns
returns c =
    let by : Way = c.args.by.now in
    let told : Asked = record { agreement = by.agreement.number; last = last_of by; total = by.total } in
    let read : c.in_ok-read.read ≡ told =
    c.in_ok-read.ensures
    ∙ (λ i. record {
      agreement = c.number.ensures i;
      last = c.last_moment.ensures i;
      total = by.total;
    }) in
    let same : c.in_ok-agreement.agreement ≡ by.agreement =
    some_is (sym c.in_ok-agreement.ensures
    ∙ ap (λ (a : Asked). find (λ (g : Agreement). g.number == a.agreement) c.args.world.now.agreements) read
    ∙ agreed_there c.args.world.now by c.requires.sound c.requires.way) in
    c.heard_way.ensures ∙ (λ i. heard_by by (same i) (read i)) ∙ heard_same by
