-- How references and exclusions are compared where they are put in order.
use Rattle.std.specs.Prelude.{Bool}
use Rattle.std.specs.Cmp.Lexicographic.{slice_cmp}
use Rattle.std.specs.Ordering.{is_lt, ordering_then, nat_cmp, bool_cmp}
use Rattle.std.specs.declared.cmp.Ordering.{Ordering}
use Rattle.x5_model.specs.Keys.{KeyRdn, key_cmp, rdn_cmp}
use Rattle.x5_model.specs.Values.{Text, Rdn, key_of, key_of_rdn}
use Rattle.x5_model_text.specs.NameText.{text_of_rdn}
use Rattle.x5_model_run.specs.Journal.{is_wide}
use Rattle.x5_ops.specs.ReferenceViews.{kind_view}
use Rattle.x5_ops.specs.declared.references.Reference.{Reference}
use Rattle.x5_report.specs.Spelled.{first_agent}

-- by target; of one target the specific ones come first, and then the names of the first agents count
abbrev pub reference_cmp : Reference → Reference → Ordering
reference_cmp a b =
    ordering_then (ordering_then (key_cmp (key_of a.target) (key_of b.target)) (bool_cmp (is_wide (kind_view a.kind))
    (is_wide (kind_view b.kind))))
    (slice_cmp nat_cmp (first_agent a.agents) (first_agent b.agents))

-- an RDN behind its key
abbrev pub keyed : Rdn → KeyRdn × Rdn
keyed r = (key_of_rdn r, r)

abbrev pub keyed_text : KeyRdn × Rdn → Text
keyed_text k = text_of_rdn k.1

abbrev pub keyed_below : KeyRdn × Rdn → KeyRdn × Rdn → Bool
keyed_below a b = is_lt (rdn_cmp a.0 b.0)
