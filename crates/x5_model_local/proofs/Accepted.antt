-- What is accepted is accepted by an agent's own ground, and by none twice: by one induction over all that is done. An
-- update that is passed on stays the user's, and while probes are sent nothing is accepted.
use Rattle.std.proofs.Common.{◌≡◌, ℕ, ◌==◌, Bool, true, false, ◌⊎◌, inl, inr, List, [], refl, sym, ap, subst, ◌∙◌, Ok, if◌then◌else◌}
use Rattle.std.specs.Result.{is_ok}
use Rattle.x5_model.specs.Words.{has}
use Rattle.x5_model.specs.Members.{In, here}
use Rattle.x5_model.specs.Entries.{Named}
use Rattle.x5_model.specs.References.{Chained}
use Rattle.x5_model.specs.Answers.{Reply}
use Rattle.x5_model.proofs.Decide.{nat_same_decides}
use Rattle.x5_model.proofs.Lists.{has_in, in_first}
use Rattle.x5_model_tree.specs.Ask.{is_update}
use Rattle.x5_model_tree.specs.Apply.{UpdatedEntries, apply_over}
use Rattle.x5_model_run.specs.Network.{arrives}
use Rattle.x5_model_run.specs.Journal.{Line, Journal}
use Rattle.x5_model_run.specs.Holdings.{Held, Holdings, ground_at}
use Rattle.x5_model_run.specs.Chain.{Scene}
use Rattle.x5_model_serve.specs.Committed.{committed}
use Rattle.x5_model_serve.specs.Finding.{Here}
use Rattle.x5_model_serve.specs.Framing.{line_at}
use Rattle.x5_model_serve.specs.Serving as serving
use Rattle.x5_model_serve.specs.Serving.{Hand, hand, hand_of, Arrives, holds_now, found_at, judged, next_line, user_line, nothing_yet, with_line, with_accepted, carried_for, IsRequest, not_heard, not_told, answers, Act, Serves, Updates, Does, loops, is_long, done_before, stuck, nowhere, refers, goes, casts, reads, reads_copy, gives_parts, asks_parts, updates, not_done, does, probes_all, misses, taken, breaks, no_probe, clear, holds_back, spent, lost, dropped, sends, final, referral, wide_referral, unexplored, none_yet, in_vain_too, none_asked, unable_too, silent_too, answered, nobody_has, some_silent, no_part, part_unheard, part_unavailable, part_answered, part_breaks}
use Rattle.x5_model_heard.specs.Kept.{IsOfUser}
use Rattle.x5_model_heard.proofs.Fresh.{here_is_fresh, updates_are_carried}
use Rattle.x5_model_heard.proofs.Still.{probes_accept_none}
use Rattle.x5_model_local.specs.Doing.{Later}
use Rattle.x5_model_local.specs.Taking.{AcceptsOwn, AcceptsRight, RequestsAcceptRight}
use Rattle.x5_model_local.proofs.Lifting.{false_true}
use Rattle.x5_model_local.proofs.Induction.{one_more, whatever}

-- the line that brought the message
record Brought (i : Journal) (k : Hand) : Type 0 where
  line : Line
  stands : In line i.lines
  is : hand_of line ≡ k
  arrived : arrives line.fate ≡ true

record AtOwn (s : Scene) (k : Hand) (i : Journal) : Type 0 where
  brought : Brought i k
  context : Held
  arrives : Arrives s k i
  found : found_at s i k ≡ Here context
  update : is_update k.message.request.body ≡ true

abbrev May : Scene → Act → Journal → Type 0
May s (Serves k reply) i = Brought i k
May s (Updates k reply) i = AtOwn s k i
May s other i = Unit {0}

own_more : {s : Scene} {most : ℕ} {i j : Journal} {a : ℕ} → Later most i j → AcceptsOwn s i a → AcceptsOwn s j a
own_more later o = record {
  line = o.line;
  stands = later.lines o.line o.stands;
  receiver_is = o.receiver_is;
  arrived = o.arrived;
  update = o.update;
  body_is = o.body_is;
  passes = o.passes;
}

module _ (s : Scene) (most : ℕ) where
  abbrev Good : Journal → Type 0
  Good j = AcceptsRight s j

  line_good : (l : Line) (j : Journal) → Good j → Good (with_line l j)
  line_good l j good = record { own = λ a m. own_more (one_more most l j) (good.own a m); once = good.once }

  -- it accepts by its own ground, as it holds at first
  accepts : (k : Hand) (i j : Journal) (mine : List Named) → Later most i j → AtOwn s k i → IsOfUser s k.message → judged s i k ≡ Ok mine → j.accepted ≡ i.accepted → Good j
      → Good (with_accepted k.receiver j)
  accepts k i j mine later at of e still good = record {
    own = λ a m. by a (in_first a k.receiver j.accepted m);
    once = (new, good.once);
  }
    where
      not_yet : has ◌==◌ i.accepted k.receiver ≡ false
      not_yet = here_is_fresh s k i at.context at.arrives at.found at.update

      holds_is : holds_now s i k ≡ s.holdings k.receiver
      holds_is = ap (λ (b : Bool). if b then committed s.message.request (s.holdings k.receiver) else s.holdings k.receiver) not_yet

      new : In k.receiver j.accepted → ⊥
      new m =
          let yes = has_in ◌==◌ nat_same_decides k.receiver i.accepted (subst (λ (xs : List ℕ). In k.receiver xs) still m) in
          false_true (sym not_yet ∙ yes)

      passes : is_ok (apply_over (ground_at k.message.request (s.holdings k.receiver)) k.message.request.body) ≡ true
      passes =
          ap (λ (h : Holdings). is_ok (apply_over (ground_at k.message.request h) k.message.request.body)) (sym holds_is)
          ∙ ap (λ (o : UpdatedEntries). is_ok o) e

      own : AcceptsOwn s (with_accepted k.receiver j) k.receiver
      own = record {
        line = at.brought.line;
        stands = later.lines at.brought.line at.brought.stands;
        receiver_is = ap (λ (x : Hand). x.receiver) at.brought.is;
        arrived = at.brought.arrived;
        update = ap (λ (x : Hand). is_update x.message.request.body) at.brought.is ∙ at.update;
        body_is = ap (λ (x : Hand). x.message.request.body) at.brought.is ∙ of.update at.update;
        passes = ap (λ (m : Chained). is_ok (apply_over (ground_at m.request (s.holdings k.receiver)) m.request.body)) (ap (λ (x : Hand). x.message) at.brought.is) ∙ passes;
      }

      by : (a : ℕ) → (a ≡ k.receiver) ⊎ In a j.accepted → AcceptsOwn s (with_accepted k.receiver j) a
      by a (inl q) = subst (AcceptsOwn s (with_accepted k.receiver j)) (sym q) own
      by a (inr m) = (let o = good.own a m in record {
        line = o.line;
        stands = o.stands;
        receiver_is = o.receiver_is;
        arrived = o.arrived;
        update = o.update;
        body_is = o.body_is;
        passes = o.passes;
      })

  brings : (i : Journal) (l : Line) → arrives l.fate ≡ true → Brought (with_line l i) (hand_of l)
  brings i l e = record { line = l; stands = here; is = refl; arrived = e }

  still_same : (j : Journal) → Later most j j
  still_same j = record { lines = λ l m. m; accepted = λ a e. e; spent = λ e. e }

  good : (x : Act) (i j : Journal) → Does s most x i j → IsOfUser s (line_at x).message → May s x i → Good i → Good j
  good _ _ _ (loops e) of may h0 = h0
  good _ _ _ (is_long e f) of may h0 = h0
  good _ _ _ (done_before e f g) of may h0 = h0
  good _ _ _ (serving.refused x e f g h) of may h0 = h0
  good _ _ _ (serving.unfit e f g h n) of may h0 = h0
  good _ _ _ (stuck v e) of may h0 = h0
  good _ _ _ (nowhere n v e) of may h0 = h0
  good _ _ _ (refers r v e f) of may h0 = h0
  good _ _ _ (reads c v e f g) of may h0 = h0
  good _ _ _ (reads_copy c v e f) of may h0 = h0
  good _ _ _ (gives_parts a v b f e) of may h0 = h0
  good _ _ _ (not_done x e) of may h0 = h0
  good _ _ _ no_probe of may h0 = h0
  good _ _ _ (holds_back a e) of may h0 = h0
  good _ _ _ (spent a free e) of may h0 = h0
  good _ _ _ (final y e) of may h0 = h0
  good _ _ _ none_yet of may h0 = h0
  good _ _ _ none_asked of may h0 = h0
  good _ _ _ no_part of may h0 = h0
  good _ _ _ (goes r h v e f g d) of may h0 = good _ _ _ d of tt h0
  good _ _ _ (casts r y v e f g d) of may h0 = good _ _ _ d of tt h0
  good _ _ _ (asks_parts a w v b f e d) of may h0 = good _ _ _ d of tt h0
  good _ _ _ (misses mine r a noted e f d) of may h0 = good _ _ _ d of tt h0
  good _ _ _ (referral r h e d) of may h0 = good _ _ _ d of tt h0
  good _ _ _ (wide_referral r y e d) of may h0 = good _ _ _ d of tt h0
  good _ _ _ (unexplored a w e d) of may h0 = good _ _ _ d of tt h0
  good _ _ _ (serving.unheard d) of may h0 = good _ _ _ d of tt h0
  good _ _ _ (nobody_has d) of may h0 = good _ _ _ d of tt h0
  good _ _ _ (some_silent n e d) of may h0 = good _ _ _ d of tt h0
  good _ _ _ (taken mine r a b c n y e f g d u) of may h0 = good _ _ _ u of tt (good _ _ _ d of tt h0)
  good _ _ _ (breaks mine r a b c n x e f g h m d u) of may h0 = good _ _ _ u of tt (good _ _ _ d of tt h0)
  good _ _ _ (clear a y e d u) of may h0 = good _ _ _ u of tt (good _ _ _ d of tt h0)
  good _ _ _ (serving.unsure a y e d u) of may h0 = good _ _ _ u of tt (good _ _ _ d of tt h0)
  good _ _ _ (serving.silent a d u) of may h0 = good _ _ _ u of tt (good _ _ _ d of tt h0)
  good _ _ _ (in_vain_too a d u) of may h0 = good _ _ _ u of tt (good _ _ _ d of tt h0)
  good _ _ _ (serving.heard b c a y e d u) of may h0 = good _ _ _ u of tt (good _ _ _ d of tt h0)
  good _ _ _ (unable_too a y e d u) of may h0 = good _ _ _ u of tt (good _ _ _ d of tt h0)
  good _ _ _ (silent_too a d u) of may h0 = good _ _ _ u of tt (good _ _ _ d of tt h0)
  good _ _ _ (answered b c n a y e f d u) of may h0 = good _ _ _ u of tt (good _ _ _ d of tt h0)
  good _ _ _ (part_unheard r d u) of may h0 = good _ _ _ u of tt (good _ _ _ d of tt h0)
  good _ _ _ (part_unavailable r z d u) of may h0 = good _ _ _ u of tt (good _ _ _ d of tt h0)
  good _ _ _ (part_answered r c d u) of may h0 = good _ _ _ u of tt (good _ _ _ d of tt h0)
  good _ _ _ (part_breaks b c r x e d u) of may h0 = good _ _ _ u of tt (good _ _ _ d of tt h0)
  good _ _ _ (updates c y v e f d) of may h0 =
      good _ _ _ d of (record { brought = may; context = c; arrives = v; found = e; update = f }) h0
  good _ _ _ (does {k} {j} mine e f) of may h0 = accepts k j j mine (still_same j) may of e refl h0
  good _ _ _ (probes_all {k} {i} {j} mine r e f d) of may h0 =
      accepts k i j mine (whatever s most _ _ _ d tt).later may of e
      (probes_accept_none s most k r r.agents [] (holds_now s i k) i j f d) (good _ _ _ d of tt h0)
  good _ _ _ (lost {from} {o} {r} {j} a free e f) of may h0 = line_good (next_line s j from o r a) j h0
  good _ _ _ (dropped {from} {o} {r} {i} {j} a y free e f d) of may h0 =
      good _ _ _ d (updates_are_carried s from o r of) (brings i (next_line s i from o r a) (ap arrives f))
      (line_good (next_line s i from o r a) i h0)
  good _ _ _ (sends {from} {o} {r} {i} {j} {l} a y z free e f d u) of may h0 =
      let carried = updates_are_carried s from o r of in
      good _ _ _ u carried tt
      (good _ _ _ d carried (brings i (next_line s i from o r a) (ap arrives f)) (line_good (next_line s i from o r a) i h0))

  begun : Good (with_line (user_line s) nothing_yet)
  begun = record { own = λ a m. elim m [ ]; once = tt }

  own_message : IsOfUser s s.message
  own_message = record { update = λ u. refl; alone = λ u. refl }

  pub request_accepts : (j : Journal) (y : Reply) → IsRequest s most j y → Good j
  request_accepts _ _ (not_heard e) = begun
  request_accepts _ _ (not_told y e d) = good _ _ _ d own_message (brings nothing_yet (user_line s) (ap arrives e)) begun
  request_accepts _ _ (answers y e d) = good _ _ _ d own_message (brings nothing_yet (user_line s) (ap arrives e)) begun

pub requests_accept_right : RequestsAcceptRight
requests_accept_right s most j y is = request_accepts s most j y is
