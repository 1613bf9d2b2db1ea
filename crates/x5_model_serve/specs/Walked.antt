-- What a walk of a list or search comes to: the contexts that are evaluated on the spot, each once, whatever is held;
-- and where none of them has two places, as over consistent knowledge, all of them, in another order.
use Rattle.std.specs.Prelude.{Bool, List, [], ◌∷◌, ◌++◌, map}
use Rattle.x5_model.specs.Members.{In, Once}
use Rattle.x5_model.specs.Keys.{Key}
use Rattle.x5_model.specs.Values.{key_of}
use Rattle.x5_model.specs.References.{Reference, Chained}
use Rattle.x5_model_run.specs.Holdings.{Held, Holdings}
use Rattle.x5_model_run.specs.Needs.{evaluated, part_needs}
use Rattle.x5_model_serve.specs.Walking.{walk}
use Rattle.x5_model_serve.specs.Answering.{walked_needs, rest_of_parts}

-- two lists with the same members, each as often
pub data Shuffled {A : Type 0} : List A → List A → Type 0 where
  none : Shuffled [] []
  one : {x : A} {xs : List A} (ys zs : List A) → Shuffled xs (ys ++ zs) → Shuffled (x ∷ xs) (ys ++ x ∷ zs)

abbrev pub pins_of : List Held → List Key
pins_of cs = map (λ c. key_of c.prefix) cs

-- 1. Over any holdings the walk comes to each pin once, to nothing else than what is evaluated, and to each pin of
-- that; and what is asked of others is needed.
abbrev pub WalkIsOnce : Type 0
WalkIsOnce =
    (behind : Bool) (h : Holdings) (m : Chained)
    → Once (pins_of (walk behind h m))
    × ((c : Held) → In c (walk behind h m) → In c (evaluated h m))
    × ((c : Held) → In c (evaluated h m) → In (key_of c.prefix) (pins_of (walk behind h m)))

abbrev pub RestIsNeeded : Type 0
RestIsNeeded = (h : Holdings) (m : Chained) (r : Reference) → In r (rest_of_parts h m) → In r (part_needs h m)

-- 2. Where each pin is evaluated once, it comes to just these contexts, and their needs are asked for.
abbrev pub WalkIsWhole : Type 0
WalkIsWhole =
    (behind : Bool) (h : Holdings) (m : Chained) → Once (pins_of (evaluated h m))
    → Shuffled (walk behind h m) (evaluated h m)

abbrev pub NeedsAreWalked : Type 0
NeedsAreWalked =
    (h : Holdings) (m : Chained) → Once (pins_of (evaluated h m)) → Shuffled (walked_needs h m) (part_needs h m)
