-- No line is sent once as many were as the request may take: by one induction over all that is done.
use Rattle.std.proofs.Common.{◌≡◌, ℕ, ◌≤◌, nat_le, true, false, inl, inr, List, ◌∷◌, length, sym, ◌∙◌, arith}
use Rattle.std.proofs.lemmas.Bool.Decides.{leb_tells}
use Rattle.x5_model_run.specs.Journal.{Line, Journal}
use Rattle.x5_model_run.specs.Chain.{Scene}
use Rattle.x5_model_serve.specs.Serving as serving
use Rattle.x5_model_serve.specs.Serving.{is_spent, next_line, user_line, nothing_yet, with_line, IsRequest, not_heard, not_told, answers, Act, loops, is_long, done_before, stuck, nowhere, refers, goes, casts, reads, reads_copy, gives_parts, asks_parts, updates, not_done, does, probes_all, misses, taken, breaks, no_probe, clear, holds_back, spent, lost, dropped, sends, final, referral, wide_referral, unexplored, none_yet, in_vain_too, none_asked, unable_too, silent_too, answered, nobody_has, some_silent, no_part, part_unheard, part_unavailable, part_answered, part_breaks}
use Rattle.x5_model_local.specs.Sending.{RequestsAreWithin}

fewer : (n : ℕ) (l : Line) (xs : List Line) → nat_le n (length xs) ≡ false → length (l ∷ xs) ≤ n
fewer n l xs e = elim (leb_tells n (length xs)) [
  | inl t ↦ absurd (let w = t.0 in let f : false ≡ true = sym e ∙ w in cc)
  | inr f ↦ (let m = f.1 in omega (arith, m))
]

module _ (s : Scene) (most : ℕ) where
  within : (x : Act) (i j : Journal) → serving.Does s most x i j → length i.lines ≤ most → length j.lines ≤ most
  within _ _ _ (loops e) h0 = h0
  within _ _ _ (is_long e f) h0 = h0
  within _ _ _ (done_before e f g) h0 = h0
  within _ _ _ (serving.refused x e f g h) h0 = h0
  within _ _ _ (serving.unfit e f g h n) h0 = h0
  within _ _ _ (stuck v e) h0 = h0
  within _ _ _ (nowhere n v e) h0 = h0
  within _ _ _ (refers r v e f) h0 = h0
  within _ _ _ (reads c v e f g) h0 = h0
  within _ _ _ (reads_copy c v e f) h0 = h0
  within _ _ _ (gives_parts a v b f e) h0 = h0
  within _ _ _ (not_done x e) h0 = h0
  within _ _ _ (does mine e f) h0 = h0
  within _ _ _ no_probe h0 = h0
  within _ _ _ (holds_back a e) h0 = h0
  within _ _ _ (spent a free e) h0 = h0
  within _ _ _ (final y e) h0 = h0
  within _ _ _ none_yet h0 = h0
  within _ _ _ none_asked h0 = h0
  within _ _ _ no_part h0 = h0
  within _ _ _ (goes r h v e f g d) h0 = within _ _ _ d h0
  within _ _ _ (casts r y v e f g d) h0 = within _ _ _ d h0
  within _ _ _ (asks_parts a w v b f e d) h0 = within _ _ _ d h0
  within _ _ _ (updates c y v e f d) h0 = within _ _ _ d h0
  within _ _ _ (probes_all mine r e f d) h0 = within _ _ _ d h0
  within _ _ _ (misses mine r a noted e f d) h0 = within _ _ _ d h0
  within _ _ _ (referral r h e d) h0 = within _ _ _ d h0
  within _ _ _ (wide_referral r y e d) h0 = within _ _ _ d h0
  within _ _ _ (unexplored a w e d) h0 = within _ _ _ d h0
  within _ _ _ (serving.unheard d) h0 = within _ _ _ d h0
  within _ _ _ (nobody_has d) h0 = within _ _ _ d h0
  within _ _ _ (some_silent n e d) h0 = within _ _ _ d h0
  within _ _ _ (taken mine r a b c n y e f g d u) h0 = within _ _ _ u (within _ _ _ d h0)
  within _ _ _ (breaks mine r a b c n x e f g h m d u) h0 = within _ _ _ u (within _ _ _ d h0)
  within _ _ _ (clear a y e d u) h0 = within _ _ _ u (within _ _ _ d h0)
  within _ _ _ (serving.unsure a y e d u) h0 = within _ _ _ u (within _ _ _ d h0)
  within _ _ _ (serving.silent a d u) h0 = within _ _ _ u (within _ _ _ d h0)
  within _ _ _ (in_vain_too a d u) h0 = within _ _ _ u (within _ _ _ d h0)
  within _ _ _ (serving.heard b c a y e d u) h0 = within _ _ _ u (within _ _ _ d h0)
  within _ _ _ (unable_too a y e d u) h0 = within _ _ _ u (within _ _ _ d h0)
  within _ _ _ (silent_too a d u) h0 = within _ _ _ u (within _ _ _ d h0)
  within _ _ _ (answered b c n a y e f d u) h0 = within _ _ _ u (within _ _ _ d h0)
  within _ _ _ (part_unheard r d u) h0 = within _ _ _ u (within _ _ _ d h0)
  within _ _ _ (part_unavailable r z d u) h0 = within _ _ _ u (within _ _ _ d h0)
  within _ _ _ (part_answered r c d u) h0 = within _ _ _ u (within _ _ _ d h0)
  within _ _ _ (part_breaks b c r x e d u) h0 = within _ _ _ u (within _ _ _ d h0)
  within _ _ _ (lost {from} {o} {r} {j} a free e f) h0 = fewer most (next_line s j from o r a) j.lines e
  within _ _ _ (dropped {from} {o} {r} {i} {j} a y free e f d) h0 = within _ _ _ d (fewer most (next_line s i from o r a) i.lines e)
  within _ _ _ (sends {from} {o} {r} {i} {j} {l} a y z free e f d u) h0 =
      within _ _ _ u (within _ _ _ d (fewer most (next_line s i from o r a) i.lines e))

pub requests_are_within : RequestsAreWithin
requests_are_within s most _ _ (not_heard e) h0 = h0
requests_are_within s most _ _ (not_told y e d) h0 = within s most _ _ _ d h0
requests_are_within s most _ _ (answers y e d) h0 = within s most _ _ _ d h0
