-- Whatever is done, its claim holds: by one structural recursion over all that is done, each of whose cases is a lemma.
use Rattle.std.proofs.Common.{ℕ}
use Rattle.x5_model_run.specs.Journal.{Journal}
use Rattle.x5_model_run.specs.History.{Point}
use Rattle.x5_model_run.specs.Chain.{Scene}
use Rattle.x5_model_serve.specs.Serving.{Act, Does, loops, is_long, done_before, refused, unfit, stuck, nowhere, refers, goes, casts, reads, reads_copy, gives_parts, asks_parts, updates, not_done, does, probes_all, misses, taken, breaks, no_probe, clear, unsure, silent, holds_back, spent, lost, dropped, sends, final, referral, wide_referral, unexplored, none_yet, in_vain_too, heard, unheard, none_asked, unable_too, silent_too, answered, nobody_has, some_silent, no_part, part_unheard, part_unavailable, part_answered, part_breaks}
use Rattle.x5_model_right.specs.Kept.{Ground}
use Rattle.x5_model_right.specs.Claim.{Claim}
use Rattle.x5_model_right.specs.Right.{Constructors, ServingIsRight}

module _ (c : Constructors) (p : Point) (s : Scene) (most : ℕ) (g : Ground p s) where
  claimed : (x : Act) (i j : Journal) → Does s most x i j → Claim p s most x i j
  claimed _ _ _ (loops {k} {j} e) = c.serving.loops p s most k j g e
  claimed _ _ _ (is_long {k} {j} e f) = c.serving.is_long p s most k j g e f
  claimed _ _ _ (done_before {k} {j} e f h) = c.serving.done_before p s most k j g e f h
  claimed _ _ _ (refused {k} {j} x e f h q) = c.serving.refused p s most k j x g e f h q
  claimed _ _ _ (unfit {k} {j} e f h q t) = c.serving.unfit p s most k j g e f h q t
  claimed _ _ _ (stuck {k} {j} a e) = c.serving.is_stuck p s most k j g a e
  claimed _ _ _ (nowhere {k} {j} n a e) = c.serving.is_nowhere p s most k j n g a e
  claimed _ _ _ (refers {k} {j} r a e f) = c.serving.refers p s most k j r g a e f
  claimed _ _ _ (goes {k} {i} {j} r h a e f w d) =
      let q = claimed _ _ _ d in c.serving.goes p s most k i j r h g a e f w d q
  claimed _ _ _ (casts {k} {i} {j} r y a e f w d) =
      let q = claimed _ _ _ d in c.serving.goes_wide p s most k i j r y g a e f w d q
  claimed _ _ _ (reads {k} {j} x a e f h) = c.serving.reads p s most k j x g a e f h
  claimed _ _ _ (reads_copy {k} {j} x a e f) = c.serving.reads_copy p s most k j x g a e f
  claimed _ _ _ (gives_parts {k} {j} y a e f h) = c.serving.gives_parts p s most k j y g a e f h
  claimed _ _ _ (asks_parts {k} {i} {j} y w a e f h d) =
      let q = claimed _ _ _ d in c.serving.asks_parts p s most k i j y w g a e f h d q
  claimed _ _ _ (updates {k} {i} {j} x y a e f d) =
      let q = claimed _ _ _ d in c.serving.carries_out p s most k i j x y g a e f d q
  claimed _ _ _ (not_done {k} {j} x e) = c.updating.not_done p s most k j x g e
  claimed _ _ _ (does {k} {j} mine e f) = c.updating.does_alone p s most k j mine g e f
  claimed _ _ _ (probes_all {k} {i} {j} mine r e f d) =
      let q = claimed _ _ _ d in c.updating.probes_all p s most k i j mine r g e f d q
  claimed _ _ _ (misses {k} {i} {j} mine r a noted e f d) =
      let q = claimed _ _ _ d in c.updating.misses p s most k i j mine r a noted g e f d q
  claimed _ _ _ (taken {k} {i} {j} {l} mine r a b n v y e f h d u) =
      let q = claimed _ _ _ d in
      let t = claimed _ _ _ u in
      c.updating.is_taken p s most k i j l mine r a b n v y g e f h d q u t
  claimed _ _ _ (breaks {k} {i} {j} {l} mine r a b n v y e f h z w d u) =
      let q = claimed _ _ _ d in
      let t = claimed _ _ _ u in
      c.updating.breaks p s most k i j l mine r a b n v y g e f h z w d q u t
  claimed _ _ _ (no_probe {k} {r} {j}) = c.updating.no_probe p s most k r j g
  claimed _ _ _ (clear {k} {r} {i} {j} {l} {before = b} {noted = n} a y e d u) =
      let q = claimed _ _ _ d in
      let t = claimed _ _ _ u in
      c.updating.clear p s most k r i j l b n a y g e d q u t
  claimed _ _ _ (unsure {k} {r} {i} {j} {l} {before = b} {noted = n} a y e d u) =
      let q = claimed _ _ _ d in
      let t = claimed _ _ _ u in
      c.updating.unsure p s most k r i j l b n a y g e d q u t
  claimed _ _ _ (silent {k} {r} {i} {j} {l} {before = b} {noted = n} a d u) =
      let q = claimed _ _ _ d in
      let t = claimed _ _ _ u in
      c.updating.silent p s most k r i j l b n a g d q u t
  claimed _ _ _ (holds_back {from} {o} {r} {j} a e) = c.sending.holds_back p s most from o r j a g e
  claimed _ _ _ (spent {from} {o} {r} {j} a hb e) = c.sending.spent p s most from o r j a g e
  claimed _ _ _ (lost {from} {o} {r} {j} a hb e f) = c.sending.is_lost p s most from o r j a g e f
  claimed _ _ _ (dropped {from} {o} {r} {i} {j} a y hb e f d) =
      let q = claimed _ _ _ d in c.sending.dropped p s most from o r i j a y g e f d q
  claimed _ _ _ (sends {from} {o} {r} {i} {j} {l} a y z hb e f d u) =
      let q = claimed _ _ _ d in
      let t = claimed _ _ _ u in
      c.sending.is_heard p s most from o r i j l a y z g e f d q u t
  claimed _ _ _ (final {from} {k} {j} y e) = c.sending.is_final p s most from k j y g e
  claimed _ _ _ (referral {from} {k} {i} {j} r h e d) =
      let q = claimed _ _ _ d in c.sending.referral p s most from k i j r h g e d q
  claimed _ _ _ (wide_referral {from} {k} {i} {j} r y e d) =
      let q = claimed _ _ _ d in c.sending.wide_referral p s most from k i j r y g e d q
  claimed _ _ _ (unexplored {from} {k} {i} {j} a w e d) =
      let q = claimed _ _ _ d in c.sending.unexplored p s most from k i j a w g e d q
  claimed _ _ _ (none_yet {from} {o} {r} {j}) = c.taking.none_yet p s most from o r j g
  claimed _ _ _ (in_vain_too {from} {o} {r} {i} {j} {l} {before = b} a d u) =
      let q = claimed _ _ _ d in
      let t = claimed _ _ _ u in
      c.taking.in_vain_too p s most from o r i j l b a g d q u t
  claimed _ _ _ (heard {from} {o} {r} {i} {j} {l} b n a y e d u) =
      let q = claimed _ _ _ d in
      let t = claimed _ _ _ u in
      c.taking.next_is_heard p s most from o r i j l b n a y g e d q u t
  claimed _ _ _ (unheard {from} {o} {r} {i} {j} d) =
      let q = claimed _ _ _ d in c.taking.none_is_heard p s most from o r i j g d q
  claimed _ _ _ (none_asked {from} {o} {r} {j}) = c.casting.none_asked p s most from o r j g
  claimed _ _ _ (unable_too {from} {o} {r} {i} {j} {l} {before = b} {noted = n} a y e d u) =
      let q = claimed _ _ _ d in
      let t = claimed _ _ _ u in
      c.casting.unable_too p s most from o r i j l b n a y g e d q u t
  claimed _ _ _ (silent_too {from} {o} {r} {i} {j} {l} {before = b} {noted = n} a d u) =
      let q = claimed _ _ _ d in
      let t = claimed _ _ _ u in
      c.casting.silent_too p s most from o r i j l b n a g d q u t
  claimed _ _ _ (answered {from} {o} {r} {i} {j} {l} b v n a y e f d u) =
      let q = claimed _ _ _ d in
      let t = claimed _ _ _ u in
      c.casting.is_answered p s most from o r i j l b v n a y g e f d q u t
  claimed _ _ _ (nobody_has {from} {o} {r} {i} {j} d) =
      let q = claimed _ _ _ d in c.casting.nobody_has p s most from o r i j g d q
  claimed _ _ _ (some_silent {from} {o} {r} {i} {j} n e d) =
      let q = claimed _ _ _ d in c.casting.some_silent p s most from o r i j n g e d q
  claimed _ _ _ (no_part {from} {o} {a} {j}) = c.gathering.no_part p s most from o a j g
  claimed _ _ _ (part_unheard {from} {o} {i} {j} {l} {rs} {a} {b} r d u) =
      let q = claimed _ _ _ d in
      let t = claimed _ _ _ u in
      c.gathering.part_unheard p s most from o i j l rs a b r g d q u t
  claimed _ _ _ (part_unavailable {from} {o} {i} {j} {l} {rs} {a} {b} r v d u) =
      let q = claimed _ _ _ d in
      let t = claimed _ _ _ u in
      c.gathering.part_unavailable p s most from o i j l rs a b r v g d q u t
  claimed _ _ _ (part_answered {from} {o} {i} {j} {l} {rs} {a} {b} r y d u) =
      let q = claimed _ _ _ d in
      let t = claimed _ _ _ u in
      c.gathering.part_answered p s most from o i j l rs a b r y g d q u t
  claimed _ _ _ (part_breaks {from} {o} {i} {j} {l} {a} {b} x y r z e d u) =
      let q = claimed _ _ _ d in
      let t = claimed _ _ _ u in
      c.gathering.part_breaks p s most from o i j l x y a b r z g e d q u t

pub serving_is_right : ServingIsRight
serving_is_right c p s most x i j g d = claimed c p s most g x i j d
