-- Nothing is accepted while a query is served: by one induction over all that is done, as what is carried for a query is
-- none but queries.
use Rattle.std.proofs.Common.{◌≡◌, ℕ, Bool, true, false, refl, sym, subst, ◌∙◌, Option}
use Rattle.x5_model.specs.Values.{Name}
use Rattle.x5_model.specs.Requests.{Body, Read, Compare, ListBelow, Search, AddEntry, RemoveEntry, ModifyEntry, ModifyDn, Request}
use Rattle.x5_model.specs.References.{Reference}
use Rattle.x5_model_tree.specs.Ask.{is_update}
use Rattle.x5_model_run.specs.Journal.{Journal, is_wide}
use Rattle.x5_model_run.specs.Chain.{Scene, is_user, is_probe, asks_part, part_body, request_for}
use Rattle.x5_model_run.proofs.Carrying.{is_carried}
use Rattle.x5_model_serve.specs.Serving.{Hand, Act, Does, line_for, carried_for, loops, is_long, done_before, refused, unfit, stuck, nowhere, refers, goes, casts, reads, reads_copy, gives_parts, asks_parts, updates, not_done, does, probes_all, misses, taken, breaks, no_probe, clear, unsure, silent, holds_back, spent, lost, dropped, sends, final, referral, wide_referral, unexplored, none_yet, in_vain_too, heard, unheard, none_asked, unable_too, silent_too, answered, nobody_has, some_silent, no_part, part_unheard, part_unavailable, part_answered, part_breaks}
use Rattle.x5_model_verdicts.proofs.At.{form}
use Rattle.x5_model_passing.specs.Acceptance.{CarriesNone, IsQuery, QueriesAcceptNone}

part_off : (wide : Bool) (t : Name) (body : Body) → is_update body ≡ false → is_update (part_body wide t body) ≡ false
part_off wide t (Read name selection) u = refl
part_off wide t (Compare name assertion) u = refl
part_off wide t (ListBelow name) u = refl
part_off wide t (Search base subset f selection) u = refl
part_off wide t (AddEntry name attributes) u = cc
part_off wide t (RemoveEntry name) u = cc
part_off wide t (ModifyEntry name changes) u = cc
part_off wide t (ModifyDn name rdn drops) u = cc

request_off : (user : Bool) (asked : Request) (t : Name) (r : Reference) → is_update asked.body ≡ false → is_update
    (request_for user asked t r).body ≡ false
request_off user asked t r u = by (is_probe asked.body t) (asks_part r)
  where
    by : (b c : Bool) → is_update (form asked user t r b c).body ≡ false
    by true c = refl
    by false true = part_off (is_wide r.kind) t asked.body u
    by false false = u

pub carries : (from : Option ℕ) (o : Hand) → is_update o.message.request.body ≡ false → {r : Reference} → CarriesNone from o r
carries from o h {r} m c = subst (λ (x : Request). is_update x.body ≡ false) (sym c.request_is)
    (request_off (is_user from) o.message.request m.target r h)

module _ (s : Scene) (most : ℕ) where
  pub still : (x : Act) (i j : Journal) → Does s most x i j → IsQuery x → j.accepted ≡ i.accepted
  still _ _ _ (loops e) ho = refl
  still _ _ _ (is_long e f) ho = refl
  still _ _ _ (done_before e f g) ho = refl
  still _ _ _ (refused x e f g h) ho = refl
  still _ _ _ (unfit e f g h i) ho = refl
  still _ _ _ (stuck a e) ho = refl
  still _ _ _ (nowhere n a e) ho = refl
  still _ _ _ (refers r a e f) ho = refl
  still _ _ _ (goes r h a e f g d) ho = still _ _ _ d (carries _ _ ho)
  still _ _ _ (casts r y a e f g d) ho = still _ _ _ d (carries _ _ ho)
  still _ _ _ (reads c a e f g) ho = refl
  still _ _ _ (reads_copy c a e f) ho = refl
  still _ _ _ (gives_parts y a e f g) ho = refl
  still _ _ _ (asks_parts y w a e f g d) ho = still _ _ _ d ho
  still _ _ _ (updates c y a e f d) ho = absurd (let g : true ≡ false = sym f ∙ ho in cc)
  still _ _ _ (not_done x e) ho = absurd ho
  still _ _ _ (does mine e f) ho = absurd ho
  still _ _ _ (probes_all mine r e f d) ho = absurd ho
  still _ _ _ (misses mine r a noted e f d) ho = absurd ho
  still _ _ _ (taken mine r a b c n y e f g d u) ho = absurd ho
  still _ _ _ (breaks mine r a b c n y e f g p q d u) ho = absurd ho
  still _ _ _ no_probe ho = refl
  still _ _ _ (clear a y e d u) ho = still _ _ _ u ho ∙ still _ _ _ d ho
  still _ _ _ (unsure a y e d u) ho = still _ _ _ u ho ∙ still _ _ _ d ho
  still _ _ _ (silent a d u) ho = still _ _ _ u ho ∙ still _ _ _ d ho
  still _ _ _ (holds_back a e) ho = refl
  still _ _ _ (spent a hb e) ho = refl
  still _ _ _ (lost a hb e f) ho = refl
  still _ _ _ (dropped {from} {o} {r} a y hb e f d) ho = still _ _ _ d (ho (carried_for from o r) (is_carried from (line_for o) r))
  still _ _ _ (sends {from} {o} {r} a y z hb e f d u) ho = still _ _ _ u (ho (carried_for from o r) (is_carried from (line_for o) r))
      ∙ still _ _ _ d (ho (carried_for from o r) (is_carried from (line_for o) r))
  still _ _ _ (final y e) ho = refl
  still _ _ _ (referral r h e d) ho = still _ _ _ d (carries _ _ ho)
  still _ _ _ (wide_referral r y e d) ho = still _ _ _ d (carries _ _ ho)
  still _ _ _ (unexplored a w e d) ho = still _ _ _ d ho
  still _ _ _ none_yet ho = refl
  still _ _ _ (in_vain_too a d u) ho = still _ _ _ u ho ∙ still _ _ _ d ho
  still _ _ _ (heard b c a y e d u) ho = still _ _ _ u ho ∙ still _ _ _ d ho
  still _ _ _ (unheard d) ho = still _ _ _ d ho
  still _ _ _ none_asked ho = refl
  still _ _ _ (unable_too a y e d u) ho = still _ _ _ u ho ∙ still _ _ _ d ho
  still _ _ _ (silent_too a d u) ho = still _ _ _ u ho ∙ still _ _ _ d ho
  still _ _ _ (answered b c n a y e f d u) ho = still _ _ _ u ho ∙ still _ _ _ d ho
  still _ _ _ (nobody_has d) ho = still _ _ _ d ho
  still _ _ _ (some_silent n e d) ho = still _ _ _ d ho
  still _ _ _ no_part ho = refl
  still _ _ _ (part_unheard r d u) ho = still _ _ _ u (carries _ _ ho) ∙ still _ _ _ d ho
  still _ _ _ (part_unavailable r v d u) ho = still _ _ _ u (carries _ _ ho) ∙ still _ _ _ d ho
  still _ _ _ (part_answered r c d u) ho = still _ _ _ u (carries _ _ ho) ∙ still _ _ _ d ho
  still _ _ _ (part_breaks b c r x e d u) ho = still _ _ _ u (carries _ _ ho) ∙ still _ _ _ d ho

pub queries_accept_none : QueriesAcceptNone
queries_accept_none s most x i j d ho = still s most x i j d ho
