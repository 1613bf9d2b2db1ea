-- Changes one after another.
use Rattle.std.proofs.Common.{◌≡◌, List, [], ◌∷◌, refl, ap, sym, Ok, Err}
use Rattle.x5_model.specs.Values.{StoredValue, Offered}
use Rattle.x5_model.specs.Entries.{Entry}
use Rattle.x5_model.specs.Answers.{DirError}
use Rattle.x5_model.specs.Changes.{ChangedEntry, and_then, each_value}

and_done : (m : ChangedEntry) → and_then m (λ e. Ok e) ≡ m
and_done (Ok e) = refl
and_done (Err x) = refl

pub then_ok : (m : ChangedEntry) (f : Entry → ChangedEntry) (e : Entry) → m ≡ Ok e → and_then m f ≡ f e
then_ok m f e p = ap (λ (r : ChangedEntry). and_then r f) p

pub then_err : (m : ChangedEntry) (f : Entry → ChangedEntry) (x : DirError) → m ≡ Err x → and_then m f ≡ Err x
then_err m f x p = ap (λ (r : ChangedEntry). and_then r f) p

-- the first value alone, and the others
pub each_first : (f : StoredValue → Entry → ChangedEntry) (o : Offered) (more : List Offered) (e : Entry) → each_value f (o ∷ more) e ≡ and_then (each_value f (o ∷ []) e) (each_value f more)
each_first f o more e = ap (λ (m : ChangedEntry). and_then m (each_value f more)) (sym (and_done _))
