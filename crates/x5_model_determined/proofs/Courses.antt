-- The course that the serving of a message takes: what arrives, what is found and what may be chained decide it. So each
-- way to serve it says which course that is, and no two say so of one message.
use Rattle.std.proofs.Common.{◌≡◌, ℕ, Bool, true, false, not, refl, sym, ap, subst, ◌∙◌, Option, Some, None}
use Rattle.std.specs.Option.{is_none}
use Rattle.x5_model.specs.Values.{Name}
use Rattle.x5_model.specs.Requests.{Subset, Body, Read, Compare, ListBelow, Search, AddEntry, RemoveEntry, ModifyEntry, ModifyDn}
use Rattle.x5_model.specs.References.{Reference}
use Rattle.x5_model.specs.Answers.{Answer, Changed, DirError, NoSuchObject, ServiceProblem, Reply, Answered, Failed, Referred}
use Rattle.x5_model.specs.Problems.{invalid_reference, loop_detected}
use Rattle.x5_model.specs.Statics.{fault_of}
use Rattle.x5_model_tree.specs.Ask.{is_update}
use Rattle.x5_model_run.specs.Journal.{Journal, item_of, is_wide}
use Rattle.x5_model_run.specs.Holdings.{Held, Copy}
use Rattle.x5_model_run.specs.Needs.{subset_in, subset_of, by_pin}
use Rattle.x5_model_run.specs.Chain.{Scene}
use Rattle.x5_model_run.specs.Placed.{fits}
use Rattle.x5_model_serve.specs.Finding as finding
use Rattle.x5_model_serve.specs.Answering.{reply_in_own, reply_in_copy, local_part, with_unexplored, in_vain, is_unavailable}
use Rattle.x5_model_serve.specs.Serving.{Hand, Heard, Gathered, Does, Serves, Takes, Casts, Gathers, Updates, is_idle, is_looped, is_too_long, holds_now, is_done_here, Arrives, found_at, asked_by, begins_parts, stuck_problem, parts_refs, at_limit, gathered_reply, limit_reply, heard_or, loops, is_long, done_before, refused, unfit, stuck, nowhere, refers, goes, casts, reads, reads_copy, gives_parts, asks_parts, updates}

-- it is answered so at once; a reference is asked; an NSSR is; the parts are joined to this answer; the update is
-- carried out; or nothing is done
pub data Course : Type 0 where
  Says : Reply → Course
  Asks : Reference → Course
  Multicasts : Reference → Course
  Joins : Answer → Course
  Commits : Course
  Nothing : Course

abbrev pub loop_reply : Hand → Reply
loop_reply k = Failed (ServiceProblem loop_detected None (Some (item_of k.receiver k.message)))

abbrev pub unfit_reply : Hand → Reply
unfit_reply k = Failed (ServiceProblem invalid_reference (Some (asked_by k)) None)

abbrev pub stuck_reply : Hand → Reply
stuck_reply k = Failed (ServiceProblem (stuck_problem k) (Some (asked_by k)) None)

abbrev pub parts_reply : Scene → Hand → Journal → Answer → Reply
parts_reply s k i a = Answered (at_limit k (with_unexplored (parts_refs s i k) a))

abbrev pub onward : Reference → Bool → Bool → Course
onward r true wide = Says (Referred r)
onward r false true = Multicasts r
onward r false false = Asks r

abbrev pub joining : Scene → Hand → Journal → Reply → Bool → Course
joining s k i (Answered a) true = Says (parts_reply s k i a)
joining s k i (Answered a) false = Joins a
joining s k i (Failed x) idle = Nothing
joining s k i (Referred r) idle = Nothing

abbrev pub parts : Scene → Hand → Journal → Course
parts s k i = joining s k i (local_part (holds_now s i k) k.message) (is_idle s k)

abbrev pub by_subset : Course → Course → Option Subset → Course
by_subset other more None = other
by_subset other more (Some x) = more

abbrev pub in_own : Course → Course → Bool → Option Subset → Course
in_own other more true subset = Commits
in_own other more false subset = by_subset other more subset

abbrev pub by_found : Scene → Hand → Journal → finding.Found → Course
by_found s k i (finding.Here c) =
    in_own (Says (reply_in_own k.receiver k.message c)) (parts s k i) (is_update k.message.request.body) (subset_of k.message)
by_found s k i (finding.CopyHere c) = by_subset (Says (reply_in_copy k.receiver k.message c)) (parts s k i) (subset_of k.message)
by_found s k i finding.Root = by_subset Nothing (parts s k i) (subset_of k.message)
by_found s k i finding.Below = parts s k i
by_found s k i (finding.Onward r) = onward r (is_idle s k) (is_wide r.kind)
by_found s k i (finding.Nowhere n) = Says (Failed (NoSuchObject n))
by_found s k i finding.Stuck = Says (stuck_reply k)

abbrev pub arrive : Hand → Bool → Bool → Bool → Option DirError → Bool → Course → Course
arrive k true long done fault fit found = Says (loop_reply k)
arrive k false true done fault fit found = Says limit_reply
arrive k false false true fault fit found = Says (Answered Changed)
arrive k false false false (Some x) fit found = Says (Failed x)
arrive k false false false None false found = Says (unfit_reply k)
arrive k false false false None true found = found

abbrev pub course : Scene → Hand → Journal → Course
course s k i =
    arrive k (is_looped k) (is_too_long k) (is_done_here s k i) (fault_of k.message.request.body) (fits k.message)
    (by_found s k i (found_at s i k))

-- ---- which course each is

pub at_loop : (k : Hand) (a b c : Bool) (d : Option DirError) (e : Bool) (f : Course) → a ≡ true
    → arrive k a b c d e f ≡ Says (loop_reply k)
at_loop k true b c d e f p = refl
at_loop k false b c d e f p = cc

pub at_long : (k : Hand) (a b c : Bool) (d : Option DirError) (e : Bool) (f : Course) → a ≡ false → b ≡ true
    → arrive k a b c d e f ≡ Says limit_reply
at_long k true b c d e f p q = cc
at_long k false true c d e f p q = refl
at_long k false false c d e f p q = cc

pub at_done : (k : Hand) (a b c : Bool) (d : Option DirError) (e : Bool) (f : Course) → a ≡ false → b ≡ false → c ≡ true
    → arrive k a b c d e f ≡ Says (Answered Changed)
at_done k true b c d e f p q r = cc
at_done k false true c d e f p q r = cc
at_done k false false true d e f p q r = refl
at_done k false false false d e f p q r = cc

abbrev pub fault_says : DirError → Option DirError → DirError
fault_says x None = x
fault_says x (Some y) = y

pub at_fault : (k : Hand) (a b c : Bool) (d : Option DirError) (e : Bool) (f : Course) (x : DirError) → a ≡ false → b ≡ false → c ≡ false
    → d ≡ Some x
    → arrive k a b c d e f ≡ Says (Failed x)
at_fault k true b c d e f x p q r u = cc
at_fault k false true c d e f x p q r u = cc
at_fault k false false true d e f x p q r u = cc
at_fault k false false false None e f x p q r u = cc
at_fault k false false false (Some y) e f x p q r u = ap (λ (o : Option DirError). Says (Failed (fault_says x o))) u

pub at_unfit : (k : Hand) (a b c : Bool) (d : Option DirError) (e : Bool) (f : Course) → a ≡ false → b ≡ false → c ≡ false → d ≡ None
    → e ≡ false
    → arrive k a b c d e f ≡ Says (unfit_reply k)
at_unfit k true b c d e f p q r u v = cc
at_unfit k false true c d e f p q r u v = cc
at_unfit k false false true d e f p q r u v = cc
at_unfit k false false false (Some x) e f p q r u v = cc
at_unfit k false false false None true f p q r u v = cc
at_unfit k false false false None false f p q r u v = refl

pub at_found : (k : Hand) (a b c : Bool) (d : Option DirError) (e : Bool) (f : Course) → a ≡ false → b ≡ false → c ≡ false → d ≡ None
    → e ≡ true
    → arrive k a b c d e f ≡ f
at_found k true b c d e f p q r u v = cc
at_found k false true c d e f p q r u v = cc
at_found k false false true d e f p q r u v = cc
at_found k false false false (Some x) e f p q r u v = cc
at_found k false false false None true f p q r u v = refl
at_found k false false false None false f p q r u v = cc

-- where it arrives, what is found decides
pub arrived : (s : Scene) (k : Hand) (i : Journal) (f : finding.Found) → Arrives s k i → found_at s i k ≡ f
    → course s k i ≡ by_found s k i f
arrived s k i f a e =
    at_found k (is_looped k) (is_too_long k) (is_done_here s k i) (fault_of k.message.request.body) (fits k.message)
    (by_found s k i (found_at s i k))
    a.unlooped a.short a.fresh a.unrefused a.fit
    ∙ ap (by_found s k i) e

-- an update has no subset
pub no_subset : (pinned : Bool) (b : Body) → is_update b ≡ true → subset_in pinned b ≡ None
no_subset pinned (Read name selection) u = cc
no_subset pinned (Compare name assertion) u = cc
no_subset pinned (ListBelow name) u = cc
no_subset pinned (Search base subset f selection) u = cc
no_subset pinned (AddEntry name attributes) u = refl
no_subset pinned (RemoveEntry name) u = refl
no_subset pinned (ModifyEntry name changes) u = refl
no_subset pinned (ModifyDn name rdn drops) u = refl

pub some_subset : (o : Option Subset) (other more : Course) → not (is_none o) ≡ true → by_subset other more o ≡ more
some_subset None other more e = cc
some_subset (Some x) other more e = refl

pub begin : (s : Scene) (k : Hand) (i : Journal) (f : finding.Found) → begins_parts k f ≡ true → by_found s k i f ≡ parts s k i
begin s k i (finding.Here c) e = own (is_update k.message.request.body) refl
  where
    own : (b : Bool) → is_update k.message.request.body ≡ b
        → in_own (Says (reply_in_own k.receiver k.message c)) (parts s k i) b (subset_of k.message) ≡ parts s k i
    own true u = (let n : not (is_none (subset_of k.message)) ≡ false = ap (λ (o : Option Subset). not (is_none o))
        (no_subset (by_pin k.message) k.message.request.body u) in
        let g : true ≡ false = sym e ∙ n in cc)
    own false u = some_subset (subset_of k.message) (Says (reply_in_own k.receiver k.message c)) (parts s k i) e
begin s k i (finding.CopyHere c) e = some_subset (subset_of k.message) (Says (reply_in_copy k.receiver k.message c)) (parts s k i) e
begin s k i finding.Root e = some_subset (subset_of k.message) Nothing (parts s k i) e
begin s k i finding.Below e = refl
begin s k i (finding.Onward r) e = cc
begin s k i (finding.Nowhere n) e = cc
begin s k i finding.Stuck e = cc

-- ---- what comes of it

abbrev pub CourseAs : Scene → ℕ → Hand → Journal → Reply → Journal → Course → Type 0
CourseAs s most k i y l (Says z) = (y ≡ z) × (l ≡ i)
CourseAs s most k i y l (Asks r) =
    (h : Heard) × Does s most (Takes (Some k.receiver) k r h) i l × (y ≡ heard_or (is_unavailable (in_vain r)) h)
CourseAs s most k i y l (Multicasts r) = Does s most (Casts (Some k.receiver) k r y) i l
CourseAs s most k i y l (Joins a) =
    (whole : Gathered) × Does s most (Gathers (Some k.receiver) k (parts_refs s i k) a whole) i l × (y ≡ gathered_reply k whole)
CourseAs s most k i y l Commits = Does s most (Updates k y) i l
CourseAs s most k i y l Nothing = ⊥

-- the course, and what comes of it
abbrev pub Served : Scene → ℕ → Hand → Journal → Reply → Journal → Type 0
Served s most k i y l = (c : Course) × (course s k i ≡ c) × CourseAs s most k i y l c

module _ (s : Scene) (k : Hand) (i : Journal) where
  pub on_loop : is_looped k ≡ true → course s k i ≡ Says (loop_reply k)
  on_loop =
      at_loop k (is_looped k) (is_too_long k) (is_done_here s k i) (fault_of k.message.request.body) (fits k.message)
      (by_found s k i (found_at s i k))

  pub on_long : is_looped k ≡ false → is_too_long k ≡ true → course s k i ≡ Says limit_reply
  on_long =
      at_long k (is_looped k) (is_too_long k) (is_done_here s k i) (fault_of k.message.request.body) (fits k.message)
      (by_found s k i (found_at s i k))

  pub on_done : is_looped k ≡ false → is_too_long k ≡ false → is_done_here s k i ≡ true
      → course s k i ≡ Says (Answered Changed)
  on_done =
      at_done k (is_looped k) (is_too_long k) (is_done_here s k i) (fault_of k.message.request.body) (fits k.message)
      (by_found s k i (found_at s i k))

  pub on_fault : (x : DirError) → is_looped k ≡ false → is_too_long k ≡ false → is_done_here s k i ≡ false
      → fault_of k.message.request.body ≡ Some x → course s k i ≡ Says (Failed x)
  on_fault x =
      at_fault k (is_looped k) (is_too_long k) (is_done_here s k i) (fault_of k.message.request.body) (fits k.message)
      (by_found s k i (found_at s i k)) x

  pub on_unfit : is_looped k ≡ false → is_too_long k ≡ false → is_done_here s k i ≡ false
      → fault_of k.message.request.body ≡ None → fits k.message ≡ false → course s k i ≡ Says (unfit_reply k)
  on_unfit =
      at_unfit k (is_looped k) (is_too_long k) (is_done_here s k i) (fault_of k.message.request.body) (fits k.message)
      (by_found s k i (found_at s i k))

  pub on_stuck : Arrives s k i → found_at s i k ≡ finding.Stuck → course s k i ≡ Says (stuck_reply k)
  on_stuck a e = arrived s k i finding.Stuck a e

  pub on_nowhere : (n : Name) → Arrives s k i → found_at s i k ≡ finding.Nowhere n → course s k i ≡ Says (Failed (NoSuchObject n))
  on_nowhere n a e = arrived s k i (finding.Nowhere n) a e

  pub on_referral : (r : Reference) → Arrives s k i → found_at s i k ≡ finding.Onward r → is_idle s k ≡ true
      → course s k i ≡ Says (Referred r)
  on_referral r a e f = arrived s k i (finding.Onward r) a e ∙ ap (λ (b : Bool). onward r b (is_wide r.kind)) f

  pub on_onward : (r : Reference) (wide : Bool) → Arrives s k i → found_at s i k ≡ finding.Onward r → is_idle s k ≡ false
      → is_wide r.kind ≡ wide → course s k i ≡ onward r false wide
  on_onward r wide a e f g =
      arrived s k i (finding.Onward r) a e ∙ ap (λ (b : Bool). onward r b (is_wide r.kind)) f ∙ ap (λ (b : Bool). onward r false b) g

  pub on_read : (c : Held) → Arrives s k i → found_at s i k ≡ finding.Here c → is_update k.message.request.body ≡ false
      → subset_of k.message ≡ None → course s k i ≡ Says (reply_in_own k.receiver k.message c)
  on_read c a e f g =
      arrived s k i (finding.Here c) a e
      ∙ ap (λ (b : Bool). in_own (Says (reply_in_own k.receiver k.message c)) (parts s k i) b (subset_of k.message)) f
      ∙ ap (λ (o : Option Subset). in_own (Says (reply_in_own k.receiver k.message c)) (parts s k i) false o) g

  pub on_copy : (c : Copy) → Arrives s k i → found_at s i k ≡ finding.CopyHere c → subset_of k.message ≡ None
      → course s k i ≡ Says (reply_in_copy k.receiver k.message c)
  on_copy c a e g =
      arrived s k i (finding.CopyHere c) a e
      ∙ ap (λ (o : Option Subset). by_subset (Says (reply_in_copy k.receiver k.message c)) (parts s k i) o) g

  pub on_parts : (a : Answer) (idle : Bool) → Arrives s k i → begins_parts k (found_at s i k) ≡ true → is_idle s k ≡ idle
      → local_part (holds_now s i k) k.message ≡ Answered a → course s k i ≡ joining s k i (Answered a) idle
  on_parts a idle ar b e part =
      arrived s k i (found_at s i k) ar refl ∙ begin s k i (found_at s i k) b
      ∙ ap (λ (y : Reply). joining s k i y (is_idle s k)) part ∙ ap (λ (x : Bool). joining s k i (Answered a) x) e

  pub on_update : (c : Held) → Arrives s k i → found_at s i k ≡ finding.Here c → is_update k.message.request.body ≡ true
      → course s k i ≡ Commits
  on_update c a e u =
      arrived s k i (finding.Here c) a e
      ∙ ap (λ (b : Bool). in_own (Says (reply_in_own k.receiver k.message c)) (parts s k i) b (subset_of k.message)) u

served : (s : Scene) (most : ℕ) (k : Hand) (y : Reply) (i l : Journal) → Does s most (Serves k y) i l → Served s most k i y l
served s most _ _ _ _ (loops {k} {j} e) = (Says (loop_reply k), on_loop s k j e, (refl, refl))
served s most _ _ _ _ (is_long {k} {j} e f) = (Says limit_reply, on_long s k j e f, (refl, refl))
served s most _ _ _ _ (done_before {k} {j} e f g) = (Says (Answered Changed), on_done s k j e f g, (refl, refl))
served s most _ _ _ _ (refused {k} {j} x e f g h) = (Says (Failed x), on_fault s k j x e f g h, (refl, refl))
served s most _ _ _ _ (unfit {k} {j} e f g h m) = (Says (unfit_reply k), on_unfit s k j e f g h m, (refl, refl))
served s most _ _ _ _ (stuck {k} {j} a e) = (Says (stuck_reply k), on_stuck s k j a e, (refl, refl))
served s most _ _ _ _ (nowhere {k} {j} n a e) = (Says (Failed (NoSuchObject n)), on_nowhere s k j n a e, (refl, refl))
served s most _ _ _ _ (refers {k} {j} r a e f) = (Says (Referred r), on_referral s k j r a e f, (refl, refl))
served s most _ _ _ _ (goes {k} {i} {j} r h a e f g d) = (Asks r, on_onward s k i r false a e f g, (h, d, refl))
served s most _ _ _ _ (casts {k} {i} {j} r y a e f g d) = (Multicasts r, on_onward s k i r true a e f g, d)
served s most _ _ _ _ (reads {k} {j} c a e f g) =
    (Says (reply_in_own k.receiver k.message c), on_read s k j c a e f g, (refl, refl))
served s most _ _ _ _ (reads_copy {k} {j} c a e g) =
    (Says (reply_in_copy k.receiver k.message c), on_copy s k j c a e g, (refl, refl))
served s most _ _ _ _ (gives_parts {k} {j} a ar b e part) = (Says (parts_reply s k j a), on_parts s k j a true ar b e part, (refl, refl))
served s most _ _ _ _ (asks_parts {k} {i} {j} a w ar b e part d) = (Joins a, on_parts s k i a false ar b e part, (w, d, refl))
served s most _ _ _ _ (updates {k} {i} {j} c y a e u d) = (Commits, on_update s k i c a e u, d)

-- of two servings of one message from one journal the second takes the course of the first
pub same_course : (s : Scene) (most : ℕ) (k : Hand) (i : Journal) (c : Course) (y : Reply) (l : Journal) → course s k i ≡ c
    → Does s most (Serves k y) i l → CourseAs s most k i y l c
same_course s most k i c y l e d =
    let w = served s most k y i l d in
    subst (λ (x : Course). CourseAs s most k i y l x) (sym w.1 ∙ e) w.2
