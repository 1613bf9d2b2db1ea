-- Each attribute that is read stands before those that are left, and behind those that were read.
use Rattle.std.proofs.Common.{◌≡◌, ◌∷◌, [], true, List, map, ap, sym, subst, ◌∙◌}
use Rattle.std.proofs.lemmas.List.{map-append}
use Rattle.std.specs.declared.option.Option.{Option}
use Rattle.std.specs.declared.option.Option.TheVariants.{Some}
use Rattle.x5_model.specs.Attributes.{is_ordered, kind_below}
use Rattle.x5_model.specs.Entries.{Stored}
use Rattle.x5_model.specs.Words.{in_option, last_of}
use Rattle.x5_model_typed.specs.Named as named
use Rattle.x5_direct.specs.Kept.{kept_in}
use Rattle.x5_direct.specs.Spelled.{ReadEach}
use Rattle.x5_direct.proofs.KeptEntries.{ordered_more}
use Rattle.x5_direct.proofs.Heads.{nothing}
use Rattle.x5_direct.proofs.Spelling.{all_done, one_more}
use Rattle.x5_direct.proofs.entries.all_stored_in.Goals as goal

abbrev some : Stored → Option Stored
some a = Some a

pub loop-rest-preserved : goal.loop-rest-preserved
loop-rest-preserved c =
    let before = c.loop-rest.attributes.items in
    let attribute = c.in_ok-attribute.attribute in
    let items = c.in_ok-push.ensures.items in
    let follows : in_option true (λ last. kind_below last attribute) (last_of before) ≡ true =
    subst (λ (l : List Stored). in_option true (λ last. kind_below last attribute) (last_of l) ≡ true)
    c.as_slice.ensures.value (sym c.follows_types.ensures ∙ c.if-not-follows_types.false) in (
      one_more 5 named.Attribute kept_in c.args.octets.now c.loop-rest.rest.now (map some before) (Some attribute)
          c.in_ok-attribute.taken (map some c.push.new.self.items)
          (ap (map some) items ∙ map-append some before (attribute ∷ [])) c.loop-rest.invariant.0
          c.in_ok-attribute.ensures.reads,
      subst (λ (l : List Stored). is_ordered (record { attributes = l }) ≡ true) (sym items)
          (ordered_more before attribute c.loop-rest.invariant.1 c.in_ok-attribute.ensures.ordered follows),
    )

pub returns-clause-are : goal.returns-clause-are
returns-clause-are c =
    subst (λ (l : List Stored). ReadEach 5 named.Attribute kept_in (map some l) c.args.octets.now) (sym c.from_vec.ensures)
    (all_done 5 named.Attribute kept_in c.args.octets.now c.loop-rest.rest.now (map some c.loop-rest.attributes.items)
    c.loop-rest.invariant.0 (nothing c.loop-rest.rest.now (sym c.is_empty.ensures ∙ c.loop-rest-test.false)))
