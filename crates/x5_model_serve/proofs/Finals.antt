-- What a sender hears in the end has nothing left to be followed, and who leaves something may not chain and sent
-- nothing: by one induction over all that is done.
use Rattle.std.proofs.Common.{◌≡◌, ℕ, Bool, true, false, cond, not, inl, inr, List, [], ◌∷◌, ◌++◌, refl, sym, ap, ◌∙◌, Option, Some, None, if◌then◌else◌}
use Rattle.std.specs.List.{filter}
use Rattle.x5_model.specs.Words.{is_empty}
use Rattle.x5_model.specs.References.{Reference}
use Rattle.x5_model.specs.Answers.{Source, Answer, EntryFound, Matched, Listed, Found, Changed, ServiceProblem, Reply, Answered, Failed}
use Rattle.x5_model_tree.specs.Ask.{Told, Shows, Compares, Lists, Finds, Changes, Refuses}
use Rattle.x5_model.specs.Problems.{loop_detected}
use Rattle.x5_model_run.specs.Journal.{Journal, item_of}
use Rattle.x5_model_run.specs.Holdings.{Holdings}
use Rattle.x5_model.specs.References.{Chained}
use Rattle.x5_model_run.specs.Chain.{Scene}
use Rattle.x5_model_serve.specs.Answering.{own_source, copy_source, to_follow, passed_by, reply_from, local_part, with_unexplored, only_unexplored, limited_answer, merged, in_vain}
use Rattle.x5_model_serve.specs.Following.{Leaves, IsFinalHeard, IsFinalWhole, IdleIsFollowed}
use Rattle.x5_model_serve.specs.Serving.{hand, carried_for, is_looped, limit_reply, held_back, holds_now, Heard, Unheard, Hears, Gathered, Whole, Broken, Hand, Act, Does, is_final, heard_or, gathered_reply, loops, is_long, done_before, refused, unfit, stuck, nowhere, refers, goes, casts, reads, reads_copy, gives_parts, asks_parts, updates, not_done, does, probes_all, misses, taken, breaks, no_probe, clear, unsure, silent, holds_back, spent, lost, dropped, sends, final, referral, wide_referral, unexplored, none_yet, in_vain_too, heard, unheard, none_asked, unable_too, silent_too, answered, nobody_has, some_silent, no_part, part_unheard, part_unavailable, part_answered, part_breaks}

-- what a user tells himself is final
held_final : (k : Hand) → is_final (held_back k) ≡ true
held_final k = by (is_looped k)
  where
    by : (b : Bool) → is_final (if b then Failed (ServiceProblem loop_detected None (Some (item_of k.receiver k.message))) else limit_reply) ≡ true
    by true = refl
    by false = refl

abbrev left_in : List Reference → List Reference
left_in rs = filter (λ r. not r.tried) rs

left_both : (xs ys : List Reference) → left_in xs ≡ [] → left_in ys ≡ [] → left_in (xs ++ ys) ≡ []
left_both [] ys e f = f
left_both (x ∷ xs) ys e f = by x.tried (λ g. left_both xs ys g f) e
  where
    by : (b : Bool) → (left_in xs ≡ [] → left_in (xs ++ ys) ≡ []) → cond (not b) (x ∷ left_in xs) (left_in xs) ≡ [] → cond (not b) (x ∷ left_in (xs ++ ys)) (left_in (xs ++ ys)) ≡ []
    by true rest e = rest e
    by false rest e = cc

none_left : (rs : List Reference) → left_in (filter (λ r. r.tried) rs) ≡ []
none_left [] = refl
none_left (r ∷ rs) = by (filter (λ x. x.tried) rs) r.tried refl (none_left rs)
  where
    by : (zs : List Reference) (b : Bool) → r.tried ≡ b → left_in zs ≡ [] → left_in (cond b (r ∷ zs) zs) ≡ []
    by zs true q h = (λ i. cond (not (q i)) (r ∷ left_in zs) (left_in zs)) ∙ h
    by zs false q h = h

empty_is : (xs : List Reference) → xs ≡ [] → is_empty xs ≡ true
empty_is xs e = ap is_empty e

is_empty_is : (xs : List Reference) → is_empty xs ≡ true → xs ≡ []
is_empty_is [] e = refl
is_empty_is (x ∷ xs) e = cc

more_left : (rs : List Reference) (a : Answer) → to_follow a ≡ [] → left_in rs ≡ [] → to_follow (with_unexplored rs a) ≡ []
more_left rs (EntryFound info source) e f = refl
more_left rs (Matched equal copy source) e f = refl
more_left rs (Listed subs sources o) e f = left_both o.unexplored rs e f
more_left rs (Found infos sources o) e f = left_both o.unexplored rs e f
more_left rs Changed e f = refl

merged_left : (a b : Answer) → to_follow a ≡ [] → to_follow b ≡ [] → to_follow (merged a b) ≡ []
merged_left (Listed subs sources o) (Listed more others q) e f = left_both o.unexplored q.unexplored e f
merged_left (Found infos sources o) (Found more others q) e f = left_both o.unexplored q.unexplored e f
merged_left (EntryFound info source) b e f = refl
merged_left (Matched equal copy source) b e f = refl
merged_left Changed b e f = refl
merged_left (Listed subs sources o) (EntryFound info source) e f = e
merged_left (Listed subs sources o) (Matched equal copy source) e f = e
merged_left (Listed subs sources o) (Found more others q) e f = e
merged_left (Listed subs sources o) Changed e f = e
merged_left (Found infos sources o) (EntryFound info source) e f = e
merged_left (Found infos sources o) (Matched equal copy source) e f = e
merged_left (Found infos sources o) (Listed more others q) e f = e
merged_left (Found infos sources o) Changed e f = e

only_left : (a : Answer) → to_follow (only_unexplored (passed_by a) a) ≡ []
only_left (EntryFound info source) = refl
only_left (Matched equal copy source) = refl
only_left (Listed subs sources o) = none_left o.unexplored
only_left (Found infos sources o) = none_left o.unexplored
only_left Changed = refl

limited_left : (n : Option ℕ) (a : Answer) → to_follow (limited_answer n a) ≡ to_follow a
limited_left n (EntryFound info source) = refl
limited_left n (Matched equal copy source) = refl
limited_left n (Listed subs sources o) = refl
limited_left n (Found infos sources o) = refl
limited_left n Changed = refl

from_final : (sources : List Source) (t : Told) → is_final (reply_from sources t) ≡ true
from_final [] (Shows info) = refl
from_final (x ∷ xs) (Shows info) = refl
from_final [] (Compares equal copy) = refl
from_final (x ∷ xs) (Compares equal copy) = refl
from_final sources (Lists subs cut) = refl
from_final sources (Finds infos cut) = refl
from_final sources Changes = refl
from_final sources (Refuses x) = refl

gathered_final : (k : Hand) (whole : Gathered) → IsFinalWhole whole → is_final (gathered_reply k whole) ≡ true
gathered_final k (Whole a) e = empty_is _ (limited_left k.message.request.controls.size a ∙ e)
gathered_final k (Broken x) e = e

heard_final : (other : Reply) (h : Heard) → is_final other ≡ true → IsFinalHeard h → is_final (heard_or other h) ≡ true
heard_final other Unheard e f = e
heard_final other (Hears reply) e f = f

local_left : (h : Holdings) (m : Chained) (a : Answer) → local_part h m ≡ Answered a → to_follow a ≡ []
local_left h m a e = is_empty_is _ (sym (ap is_final e) ∙ from_final _ _)

in_first_left : (r : Reference) → left_in (in_vain r ∷ []) ≡ []
in_first_left r = refl

module _ (s : Scene) (most : ℕ) where
  pub leaves : (x : Act) (i j : Journal) → Does s most x i j → Leaves s x i j
  leaves _ _ _ (loops e) = inl refl
  leaves _ _ _ (is_long e f) = inl refl
  leaves _ _ _ (done_before e f g) = inl refl
  leaves _ _ _ (refused x e f g h) = inl refl
  leaves _ _ _ (unfit e f g h i) = inl refl
  leaves _ _ _ (stuck a e) = inl refl
  leaves _ _ _ (nowhere n a e) = inl refl
  leaves _ _ _ (refers r a e f) = inr (f, refl)
  leaves _ _ _ (goes r h a e f g d) = inl (heard_final _ h refl (leaves _ _ _ d))
  leaves _ _ _ (casts r y a e f g d) = inl (leaves _ _ _ d)
  leaves _ _ _ (reads {k} c a e f g) = inl (from_final (own_source k.receiver c ∷ []) _)
  leaves _ _ _ (reads_copy {k} c a e f) = inl (from_final (copy_source k.receiver c ∷ []) _)
  leaves _ _ _ (gives_parts y a e f g) = inr (f, refl)
  leaves _ _ _ (asks_parts {k} {i} y w a e f g d) = inl (gathered_final k w (leaves _ _ _ d (local_left (holds_now s i k) k.message y g)))
  leaves _ _ _ (updates c y a e f d) = inl (leaves _ _ _ d)
  leaves _ _ _ (not_done x e) = refl
  leaves _ _ _ (does mine e f) = refl
  leaves _ _ _ (probes_all mine r e f d) = refl
  leaves _ _ _ (misses mine r a noted e f d) = refl
  leaves _ _ _ (taken mine r a b c n y e f g d u) = refl
  leaves _ _ _ (breaks mine r a b c n y e f g p q d u) = refl
  leaves _ _ _ no_probe = tt
  leaves _ _ _ (clear a y e d u) = tt
  leaves _ _ _ (unsure a y e d u) = tt
  leaves _ _ _ (silent a d u) = tt
  leaves _ _ _ (holds_back {from} {o} {r} a e) = held_final (hand a (carried_for from o r))
  leaves _ _ _ (spent a hb e) = refl
  leaves _ _ _ (lost a hb e f) = tt
  leaves _ _ _ (dropped a y hb e f d) = tt
  leaves _ _ _ (sends a y z hb e f d u) = leaves _ _ _ u
  leaves _ _ _ (final y e) = e
  leaves _ _ _ (referral r h e d) = heard_final _ h refl (leaves _ _ _ d)
  leaves _ _ _ (wide_referral r y e d) = leaves _ _ _ d
  leaves _ _ _ (unexplored {k = k} a w e d) = gathered_final k w (leaves _ _ _ d (only_left a))
  leaves _ _ _ none_yet = tt
  leaves _ _ _ (in_vain_too a d u) = tt
  leaves _ _ _ (heard b c a y e d u) = leaves _ _ _ u
  leaves _ _ _ (unheard d) = tt
  leaves _ _ _ none_asked = tt
  leaves _ _ _ (unable_too a y e d u) = tt
  leaves _ _ _ (silent_too a d u) = tt
  leaves _ _ _ (answered b c n a y e f d u) = leaves _ _ _ u
  leaves _ _ _ (nobody_has d) = refl
  leaves _ _ _ (some_silent n e d) = refl
  leaves _ _ _ no_part = λ e. e
  leaves _ _ _ (part_unheard {b = b} r d u) = λ e. more_left (in_vain r ∷ []) b (leaves _ _ _ d e) refl
  leaves _ _ _ (part_unavailable {b = b} r v d u) = λ e. more_left (in_vain v ∷ []) b (leaves _ _ _ d e) refl
  leaves _ _ _ (part_answered {b = b} r c d u) = λ e. merged_left b c (leaves _ _ _ d e) (is_empty_is _ (leaves _ _ _ u))
  leaves _ _ _ (part_breaks b c r x e d u) = λ f. refl

pub idle_is_followed : IdleIsFollowed
idle_is_followed = leaves
