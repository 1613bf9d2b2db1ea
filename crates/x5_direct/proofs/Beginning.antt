-- Members that stand first in octets, whatever follows them.
use Rattle.std.proofs.Common.{◌≡◌, ℕ, ◌-◌, ◌+◌, List, [], ◌∷◌, ◌++◌, length, take, drop, refl, ap, sym, ◌∙◌, subst, arith}
use Rattle.std.proofs.Common.{append_assoc, append-nil, length-append, length-drop, ◌≤◌}
use Rattle.std.proofs.Common.{Bor, IfSome}
use Rattle.std.proofs.Math.Seq.{take-append_seam}
use Rattle.std.specs.declared.option.Option.{Option}
use Rattle.std.specs.declared.option.Option.TheVariants.{None, Some}
use Rattle.x5_model_typed.specs.Nodes.{Node}
use Rattle.x5_model_typed.specs.Named.{Named}
use Rattle.x5_direct.specs.Spelled.{Spelled, Reads, ReadEach, BeginEach, Ahead}
use Rattle.x5_direct.proofs.Heads.{rest_here}
use Rattle.x5_direct.proofs.Spelling.{read_more, read_none}

pub none_first : {X : Type 0} (levels : ℕ) (form : Named) (says : Node → X) → BeginEach levels form says [] []
none_first levels form says more rest r = r

pub all_ahead : {X : Type 0} (levels : ℕ) (form : Named) (says : Node → X) (octets : List ℕ)
    → Ahead levels form says octets [] octets
all_ahead levels form says octets = ([], refl, none_first levels form says)

-- What was read of an element can be read of it wherever it stands.
moved : {X : Type 0} (levels : ℕ) (form : Named) (says : Node → X) (x : X) (left rest other : List ℕ)
    (r : Reads levels form says x left rest) → Reads levels form says x (r.1.part ++ other) other
moved levels form says x left rest other r =
    (r.0, record { part = r.1.part; whole = refl; is_element = r.1.is_element }, r.2)

longer : {X : Type 0} (levels : ℕ) (form : Named) (says : Node → X) (done : List X) (x : X) (front left rest : List ℕ)
    (r : Reads levels form says x left rest) → BeginEach levels form says done front
    → BeginEach levels form says (done ++ x ∷ []) (front ++ r.1.part)
longer levels form says done x front left rest r b more others read =
    subst (λ xs. ReadEach levels form says xs ((front ++ r.1.part) ++ others)) (sym (append_assoc done (x ∷ []) more))
    (subst (λ (o : List ℕ). ReadEach levels form says (done ++ x ∷ more) o) (sym (append_assoc front r.1.part others))
    (b (x ∷ more) (r.1.part ++ others)
    (read_more levels form says x more (r.1.part ++ others) others (moved levels form says x left rest others r) read)))

-- One more is read of what is left.
pub one_ahead : {X : Type 0} (levels : ℕ) (form : Named) (says : Node → X) (octets left : List ℕ) (done : List X) (x : X)
    (taken : ℕ) (now : List X) → now ≡ done ++ x ∷ [] → Ahead levels form says octets done left
    → Reads levels form says x left (drop taken left)
    → Ahead levels form says octets now (take (length left - taken) (drop taken left))
one_ahead levels form says octets left done x taken now e a r =
    subst (λ (l : List ℕ). Ahead levels form says octets now l) (sym (rest_here left taken))
    (subst (λ xs. Ahead levels form says octets xs (drop taken left)) (sym e) (
      a.0 ++ r.1.part,
      a.1 ∙ ap (λ (l : List ℕ). a.0 ++ l) r.1.whole ∙ sym (append_assoc a.0 r.1.part (drop taken left)),
      longer levels form says done x a.0 left (drop taken left) r a.2,
    ))

pub each_done : {X : Type 0} (levels : ℕ) (form : Named) (says : Node → X) (octets left : List ℕ) (done : List X)
    → Ahead levels form says octets done left → left ≡ [] → ReadEach levels form says done octets
each_done levels form says octets left done a e =
    subst (λ xs. ReadEach levels form says xs octets) (append-nil done)
    (subst (λ (o : List ℕ). ReadEach levels form says (done ++ []) o)
    (sym (a.1 ∙ ap (λ (l : List ℕ). a.0 ++ l) e))
    (a.2 [] [] (read_none levels form says)))

-- The octets before what is left.
pub front_is : {X : Type 0} (levels : ℕ) (form : Named) (says : Node → X) (octets left : List ℕ) (done : List X)
    → Ahead levels form says octets done left
    → BeginEach levels form says done (take (length octets - length left) octets)
front_is levels form says octets left done a =
    let size : length octets - length left ≡ length a.0 = omega (arith, ap length a.1, length-append a.0 left) in
    let same : take (length octets - length left) octets ≡ a.0 =
    ap (λ (k : ℕ). take k octets) size ∙ ap (λ (o : List ℕ). take (length a.0) o) a.1 ∙ take-append_seam a.0 left in
    subst (λ (o : List ℕ). BeginEach levels form says done o) (sym same) a.2

all_but_last : {X : Type 0} (done now : List X) (x : X) → now ≡ done ++ x ∷ [] → done ≡ take (length now - 1) now
all_but_last done now x e =
    let size : length now - 1 ≡ length done = omega (arith, ap length e, length-append done (x ∷ [])) in
    sym (ap (λ (k : ℕ). take k now) size ∙ ap (λ l. take (length done) l) e ∙ take-append_seam done (x ∷ []))

-- What stood before the member that is read can be known from then on.
pub front_kept : {X : Type 0} (levels : ℕ) (form : Named) (says : Node → X) (octets left : List ℕ) (done now : List X) (x : X)
    (o : Option (Bor (List ℕ))) → now ≡ done ++ x ∷ [] → Ahead levels form says octets done left
    → IfSome o (λ f. f.now ≡ take (length octets - length left) octets)
    → IfSome o (λ f. BeginEach levels form says (take (length now - 1) now) f.now)
front_kept levels form says octets left done now x None e a same = tt
front_kept levels form says octets left done now x (Some f) e a same =
    subst (λ xs. BeginEach levels form says xs f.now) (all_but_last done now x e)
    (subst (λ (l : List ℕ). BeginEach levels form says done l) (sym same) (front_is levels form says octets left done a))

-- Where the octets of a whole spelling stand again they spell the same.
pub spelled_again : {X : Type 0} (levels : ℕ) (form : Named) (says : Node → X) (x : X) (spelled octets rest : List ℕ)
    → Reads levels form says x spelled [] → octets ≡ spelled ++ rest → Reads levels form says x octets rest
spelled_again levels form says x spelled octets rest r e = (
  r.0,
  record {
    part = r.1.part;
    whole = e ∙ ap (λ (l : List ℕ). l ++ rest) (r.1.whole ∙ append-nil r.1.part);
    is_element = r.1.is_element;
  },
  r.2,
)

-- The octets that it takes spell it by themselves.
pub read_alone : {X : Type 0} (levels : ℕ) (form : Named) (says : Node → X) (x : X) (octets : List ℕ) (taken : ℕ)
    → taken ≤ length octets → Reads levels form says x octets (drop taken octets)
    → Reads levels form says x (take taken octets) []
read_alone levels form says x octets taken within r =
    let part = r.1.part in
    let rest = drop taken octets in
    let size : length part ≡ taken =
    omega (arith, within, ap length r.1.whole, length-append part rest, length-drop taken octets) in
    let same : take taken octets ≡ part =
    ap (λ (k : ℕ). take k octets) (sym size) ∙ ap (λ (o : List ℕ). take (length part) o) r.1.whole ∙ take-append_seam part rest in
    (r.0, record { part = part; whole = same ∙ sym (append-nil part); is_element = r.1.is_element }, r.2)
