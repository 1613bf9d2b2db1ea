-- The moment is the only element, or there is none.
use Rattle.std.proofs.Common.{◌≡◌, ℕ, ap, refl, subst, sym}
use Rattle.std.specs.declared.option.Option.{Option}
use Rattle.std.specs.declared.option.Option.TheVariants.{None, Some}
use Rattle.x5_model_octets.specs.Elements as elements
use Rattle.x5_model_octets.specs.Elements.{canonical_all}
use Rattle.x5_model_typed.specs.Layouts.{layout}
use Rattle.x5_model_typed.specs.Nodes.{whole}
use Rattle.x5_model_typed.specs.Written.{written}
use Rattle.x5_writer.specs.Puts.{Puts}
use Rattle.x5_direct_writer.proofs.Rows.{alone_puts}
use Rattle.x5_dapreply.specs.Found.{count, moment_elements}
use Rattle.x5_dapreply.proofs.sources.put_moment.Goals as goal

pub returns-in-None : goal.returns-in-None
returns-in-None c w =
    let none : None ≡ c.args.moment = (rw c.in-None.is at c.moment.view_is) in
    (elements.Nil, ap (λ (m : Option ℕ). moment_elements w m) (sym none), refl)

pub returns-in-Some : goal.returns-in-Some
returns-in-Some c w =
    let some : Some c.in-Some.field-0.0 ≡ c.args.moment = (rw c.in-Some.is at c.moment.view_is) in
    let old = c.args.out.now in
    let new = c.put_count.new.out in
    let r = c.put_count.result in
    subst (λ (m : Option ℕ). Puts canonical_all (moment_elements w m) old new r) some
    (alone_puts (written (layout w) (layout w count) (whole c.in-Some.field-0.0)) old new r (c.put_count.ensures w))
