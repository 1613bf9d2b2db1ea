-- Which moments have a date and time: as many as there are moments.
use Rattle.std.proofs.Common.{◌≡◌, ℕ, ◌<◌, Bool, true, false, nat_lt, List, refl, sym, ap, ◌∙◌, arith}
use Rattle.std.proofs.lemmas.Bool.{lt-ltb}
use Rattle.std.specs.Option.{is_some}
use Rattle.x5_model_typed.specs.Leaves.{where_so}
use Rattle.x5_know.specs.Moments.{Start, moment_count, moment_text}
use Rattle.x5_know.proofs.Stamps.{count_is}

some_so : (b : Bool) (t : List ℕ) → is_some (where_so b t) ≡ b
some_so true t = refl
some_so false t = refl

pub counts : (m : ℕ) → nat_lt m moment_count ≡ nat_lt m 4_294_967_296
counts m = ap (nat_lt m) count_is

pub has_time : (s : Start) (m : ℕ) → is_some (where_so (nat_lt m moment_count) (moment_text s m)) ≡ nat_lt m 4_294_967_296
has_time s m = some_so (nat_lt m moment_count) (moment_text s m) ∙ counts m

pub moment_has_time : (s : Start) (m : ℕ) → m < 4_294_967_296
    → is_some (where_so (nat_lt m moment_count) (moment_text s m)) ≡ true
moment_has_time s m few = has_time s m ∙ lt-ltb m 4_294_967_296 few
