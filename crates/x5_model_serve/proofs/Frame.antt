-- What is done for a message leaves all that stands above it in the journal: by induction over all that is done,
-- since each line that is added is deeper than the message.
use Rattle.std.proofs.Common.{◌≡◌, ℕ, ◌+◌, [], ◌∷◌, length, refl, ◌∙◌, arith, length-append, Option}
use Rattle.x5_model.specs.References.{Reference}
use Rattle.x5_model_run.specs.Journal.{Journal, settled, item_of}
use Rattle.x5_model_run.specs.Chain.{Scene}
use Rattle.x5_model_run.proofs.Journals.{settled_past, settled_above}
use Rattle.x5_model_serve.specs.Serving.{Hand, Act, Does, carried_for, next_line, loops, is_long, done_before, refused, unfit, stuck, nowhere, refers, goes, casts, reads, reads_copy, gives_parts, asks_parts, updates, not_done, does, probes_all, misses, taken, breaks, no_probe, clear, unsure, silent, holds_back, spent, lost, dropped, sends, final, referral, wide_referral, unexplored, none_yet, in_vain_too, heard, unheard, none_asked, unable_too, silent_too, answered, nobody_has, some_silent, no_part, part_unheard, part_unavailable, part_answered, part_breaks}
use Rattle.x5_model_serve.specs.Framing.{depth_of}

-- a message that is carried for an opener is one deeper
pub deeper : (from : Option ℕ) (o : Hand) (r : Reference) → length (carried_for from o r).trace ≡ length o.message.trace + 1
deeper from o r = length-append o.message.trace (item_of o.receiver o.message ∷ [])

module _ (s : Scene) (most : ℕ) where
  pub framed : (x : Act) (i j : Journal) → Does s most x i j → settled (depth_of x) j.lines ≡ settled (depth_of x) i.lines
  framed _ _ _ (loops e) = refl
  framed _ _ _ (is_long e f) = refl
  framed _ _ _ (done_before e f g) = refl
  framed _ _ _ (refused x e f g h) = refl
  framed _ _ _ (unfit e f g h i) = refl
  framed _ _ _ (stuck a e) = refl
  framed _ _ _ (nowhere n a e) = refl
  framed _ _ _ (refers r a e f) = refl
  framed _ _ _ (goes r h a e f g d) = framed _ _ _ d
  framed _ _ _ (casts r y a e f g d) = framed _ _ _ d
  framed _ _ _ (reads c a e f g) = refl
  framed _ _ _ (reads_copy c a e f) = refl
  framed _ _ _ (gives_parts y a e f g) = refl
  framed _ _ _ (asks_parts y w a e f g d) = framed _ _ _ d
  framed _ _ _ (updates c y a e f d) = framed _ _ _ d
  framed _ _ _ (not_done x e) = refl
  framed _ _ _ (does mine e f) = refl
  framed _ _ _ (probes_all mine r e f d) = framed _ _ _ d
  framed _ _ _ (misses mine r a noted e f d) = framed _ _ _ d
  framed _ _ _ (taken mine r a b c n y e f g d u) = framed _ _ _ u ∙ framed _ _ _ d
  framed _ _ _ (breaks mine r a b c n y e f g p q d u) = framed _ _ _ u ∙ framed _ _ _ d
  framed _ _ _ no_probe = refl
  framed _ _ _ (clear a y e d u) = framed _ _ _ u ∙ framed _ _ _ d
  framed _ _ _ (unsure a y e d u) = framed _ _ _ u ∙ framed _ _ _ d
  framed _ _ _ (silent a d u) = framed _ _ _ u ∙ framed _ _ _ d
  framed _ _ _ (holds_back a e) = refl
  framed _ _ _ (spent a hb e) = refl
  framed _ _ _ (lost {from} {o} {r} {j} a hb e f) = settled_past (length o.message.trace) (next_line s j from o r a) j.lines (omega (arith, deeper from o r))
  framed _ _ _ (dropped {from} {o} {r} {i} {j} a y hb e f d) =
      settled_above (length o.message.trace) (next_line s i from o r a) i.lines j.lines (omega (arith, deeper from o r)) (framed _ _ _ d)
  framed _ _ _ (sends {from} {o} {r} {i} {j} {l} a y z hb e f d u) =
      settled_above (length o.message.trace) (next_line s i from o r a) i.lines l.lines (omega (arith, deeper from o r)) (framed _ _ _ u ∙ framed _ _ _ d)
  framed _ _ _ (final y e) = refl
  framed _ _ _ (referral r h e d) = framed _ _ _ d
  framed _ _ _ (wide_referral r y e d) = framed _ _ _ d
  framed _ _ _ (unexplored a w e d) = framed _ _ _ d
  framed _ _ _ none_yet = refl
  framed _ _ _ (in_vain_too a d u) = framed _ _ _ u ∙ framed _ _ _ d
  framed _ _ _ (heard b c a y e d u) = framed _ _ _ u ∙ framed _ _ _ d
  framed _ _ _ (unheard d) = framed _ _ _ d
  framed _ _ _ none_asked = refl
  framed _ _ _ (unable_too a y e d u) = framed _ _ _ u ∙ framed _ _ _ d
  framed _ _ _ (silent_too a d u) = framed _ _ _ u ∙ framed _ _ _ d
  framed _ _ _ (answered b c n a y e f d u) = framed _ _ _ u ∙ framed _ _ _ d
  framed _ _ _ (nobody_has d) = framed _ _ _ d
  framed _ _ _ (some_silent n e d) = framed _ _ _ d
  framed _ _ _ no_part = refl
  framed _ _ _ (part_unheard r d u) = framed _ _ _ u ∙ framed _ _ _ d
  framed _ _ _ (part_unavailable r v d u) = framed _ _ _ u ∙ framed _ _ _ d
  framed _ _ _ (part_answered r c d u) = framed _ _ _ u ∙ framed _ _ _ d
  framed _ _ _ (part_breaks b c r x e d u) = framed _ _ _ u ∙ framed _ _ _ d
