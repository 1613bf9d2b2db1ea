-- Messages of shadowing within the limits are always written, in a world whose clock reads the times that it writes; and
-- moments of four octets are within the limits.
use Rattle.std.proofs.Common.{◌≡◌, ℕ, ◌<◌, ◌^◌, nat_lt, List, sym, ◌∙◌, arith}
use Rattle.std.specs.declared.option.Option.{Option}
use Rattle.std.specs.declared.option.Option.TheVariants.{None, Some}
use Rattle.std.specs.declared.result.Result.TheVariants.{Err}
use Rattle.std.proofs.lemmas.Bool.{lt-ltb}
use Rattle.x5_dapber.specs.Results.{IsWritten}
use Rattle.x5_know.specs.Moments.{Start, moment_count, moment_text}
use Rattle.x5_know.proofs.Stamps.{count_is}
use Rattle.x5_model_messages.specs.Shadows.{Shadow, shadow_node}
use Rattle.x5_model_typed.specs.Named as named
use Rattle.x5_model_typed.specs.Written.{canonical_octets}
use Rattle.x5_model_typed.specs.Layouts.{Surroundings, layout}
use Rattle.x5_model_typed_laws.specs.Fits.{ClockReadsBack}
use Rattle.x5_model_typed_laws.proofs.Back.{fits_is_written}
use Rattle.x5_model_typed_laws.proofs.Leaves.{let_through}
use Rattle.x5_model_typed_laws.proofs.Table.{messages_apart, messages_read_back}
use Rattle.x5_model_shadowed.specs.Within.{MomentWithin, ShadowWithin}
use Rattle.x5_model_shadowed.proofs.Fitting.{shadow_fits}
use Rattle.x5_types.specs.FormView.{world}
use Rattle.x5_writer.specs.declared.fault.WriteFault.TheVariants.{Misfit}

pub shadow_written : (w : Surroundings) → ClockReadsBack w → (id : ℕ) (m : Shadow) → id < 2 ^ 32 → ShadowWithin w m
    → IsWritten (canonical_octets (layout w) named.DispMessage (shadow_node id m)) (Err Misfit) → ⊥
shadow_written w clock id m small h is =
    let there = fits_is_written (layout w) named.DispMessage (shadow_node id m)
    (record { apart = messages_apart w; back = messages_read_back w clock }) (shadow_fits w id m small h) in
    let no : (let p : Option (List ℕ) = Some there.0 in p) ≡ None = sym there.1 ∙ is in
    cc no

pub moment_within : (start : Start) (names : List (List ℕ)) (m : ℕ) → m < 2 ^ 32 → MomentWithin (world start names) m
moment_within start names m small = record {
  octets = moment_text start m;
  has_time = let_through (nat_lt m moment_count) (moment_text start m) (lt-ltb m moment_count (omega (arith, small, count_is)));
}
