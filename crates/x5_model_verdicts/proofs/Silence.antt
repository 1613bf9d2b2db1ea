-- While messages are sent that are no updates, nothing is accepted: by one induction, as what is carried for such a
-- message is no update either.
use Rattle.std.proofs.Common.{◌≡◌, ◌<◌, ℕ, Bool, true, false, not, inl, inr, length, refl, sym, ap, subst, ◌∙◌, Option, Some}
use Rattle.x5_model.specs.Keys.{Key}
use Rattle.x5_model.specs.Values.{Name, key_of}
use Rattle.x5_model.specs.Requests.{Body, Read, Compare, ListBelow, Search, AddEntry, RemoveEntry, ModifyEntry, ModifyDn, Request}
use Rattle.x5_model.specs.References.{Reference, Chained}
use Rattle.x5_model.proofs.KeyLaws.{key_decides}
use Rattle.x5_model.proofs.Lists.{and_true, true_or_false}
use Rattle.x5_model_tree.specs.Ask.{is_update}
use Rattle.x5_model_run.specs.Journal.{Journal, same_name, is_wide}
use Rattle.x5_model_run.specs.Needs.{target_of}
use Rattle.x5_model_run.specs.Chain.{Scene, IsCarried, is_user, is_probe, asks_part, part_body, request_for}
use Rattle.x5_model_serve.specs.Serving.{Hand, Act, Does, Serves, Follows, Sends, Tries, Takes, Spreads, Casts, Gathers, Probes, Updates, line_for, carried_for, loops, is_long, done_before, refused, unfit, stuck, nowhere, refers, goes, casts, reads, reads_copy, gives_parts, asks_parts, updates, not_done, does, probes_all, misses, taken, breaks, no_probe, clear, unsure, silent, holds_back, spent, lost, dropped, sends, final, referral, wide_referral, unexplored, none_yet, in_vain_too, heard, unheard, none_asked, unable_too, silent_too, answered, nobody_has, some_silent, no_part, part_unheard, part_unavailable, part_answered, part_breaks}
use Rattle.x5_model_run.proofs.Carrying.{is_carried}
use Rattle.x5_model_verdicts.specs.Verdicts.{ProbesAcceptNone}
use Rattle.x5_model_verdicts.proofs.At.{form, fit_key}
use Rattle.x5_model_verdicts.proofs.Refused.{target_filled}
use Rattle.x5_model_verdicts.proofs.NewName.{new_is, new_apart}

part_off : (wide : Bool) (t : Name) (body : Body) → is_update body ≡ false → is_update (part_body wide t body) ≡ false
part_off wide t (Read name selection) u = refl
part_off wide t (Compare name assertion) u = refl
part_off wide t (ListBelow name) u = refl
part_off wide t (Search base subset f selection) u = refl
part_off wide t (AddEntry name attributes) u = cc
part_off wide t (RemoveEntry name) u = cc
part_off wide t (ModifyEntry name changes) u = cc
part_off wide t (ModifyDn name rdn drops) u = cc

request_off : (user : Bool) (asked : Request) (t : Name) (r : Reference) → is_update asked.body ≡ false → is_update (request_for user asked t r).body ≡ false
request_off user asked t r u = by (is_probe asked.body t) (asks_part r)
  where
    by : (b c : Bool) → is_update (form asked user t r b c).body ≡ false
    by true c = refl
    by false true = part_off (is_wide r.kind) t asked.body u
    by false false = u

-- what is carried by the reference is no update
abbrev CarriesNone : Option ℕ → Hand → Reference → Type 0
CarriesNone from o r = (m : Chained) → IsCarried from (line_for o) r m → is_update m.request.body ≡ false

abbrev Off : Act → Type 0
Off (Serves k reply) = is_update k.message.request.body ≡ false
Off (Follows from k reply last) = is_update k.message.request.body ≡ false
Off (Sends from o r a h) = CarriesNone from o r
Off (Tries from o r agents) = CarriesNone from o r
Off (Takes from o r h) = CarriesNone from o r
Off (Spreads from o r agents noted) = CarriesNone from o r
Off (Casts from o r reply) = CarriesNone from o r
Off (Gathers from o rs a whole) = is_update o.message.request.body ≡ false
Off (Probes k r agents noted) = CarriesNone (Some k.receiver) k r
Off (Updates k reply) = ⊥

carries : (from : Option ℕ) (o : Hand) → is_update o.message.request.body ≡ false → {r : Reference} → CarriesNone from o r
carries from o h {r} m c = subst (λ (x : Request). is_update x.body ≡ false) (sym c.request_is) (request_off (is_user from) o.message.request m.target r h)

module _ (s : Scene) (most : ℕ) where
  still : (x : Act) (i j : Journal) → Does s most x i j → Off x → j.accepted ≡ i.accepted
  still _ _ _ (loops e) ho = refl
  still _ _ _ (is_long e f) ho = refl
  still _ _ _ (done_before e f g) ho = refl
  still _ _ _ (refused x e f g h) ho = refl
  still _ _ _ (unfit e f g h i) ho = refl
  still _ _ _ (stuck a e) ho = refl
  still _ _ _ (nowhere n a e) ho = refl
  still _ _ _ (refers r a e f) ho = refl
  still _ _ _ (goes r h a e f g d) ho = still _ _ _ d (carries _ _ ho)
  still _ _ _ (casts r y a e f g d) ho = still _ _ _ d (carries _ _ ho)
  still _ _ _ (reads c a e f g) ho = refl
  still _ _ _ (reads_copy c a e f) ho = refl
  still _ _ _ (gives_parts y a e f g) ho = refl
  still _ _ _ (asks_parts y w a e f g d) ho = still _ _ _ d ho
  still _ _ _ (updates c y a e f d) ho = absurd (let g : true ≡ false = sym f ∙ ho in cc)
  still _ _ _ (not_done x e) ho = absurd ho
  still _ _ _ (does mine e f) ho = absurd ho
  still _ _ _ (probes_all mine r e f d) ho = absurd ho
  still _ _ _ (misses mine r a noted e f d) ho = absurd ho
  still _ _ _ (taken mine r a b c n y e f g d u) ho = absurd ho
  still _ _ _ (breaks mine r a b c n y e f g p q d u) ho = absurd ho
  still _ _ _ no_probe ho = refl
  still _ _ _ (clear a y e d u) ho = still _ _ _ u ho ∙ still _ _ _ d ho
  still _ _ _ (unsure a y e d u) ho = still _ _ _ u ho ∙ still _ _ _ d ho
  still _ _ _ (silent a d u) ho = still _ _ _ u ho ∙ still _ _ _ d ho
  still _ _ _ (holds_back a e) ho = refl
  still _ _ _ (spent a hb e) ho = refl
  still _ _ _ (lost a hb e f) ho = refl
  still _ _ _ (dropped {from} {o} {r} a y hb e f d) ho = still _ _ _ d (ho (carried_for from o r) (is_carried from (line_for o) r))
  still _ _ _ (sends {from} {o} {r} a y z hb e f d u) ho = still _ _ _ u (ho (carried_for from o r) (is_carried from (line_for o) r)) ∙ still _ _ _ d (ho (carried_for from o r) (is_carried from (line_for o) r))
  still _ _ _ (final y e) ho = refl
  still _ _ _ (referral r h e d) ho = still _ _ _ d (carries _ _ ho)
  still _ _ _ (wide_referral r y e d) ho = still _ _ _ d (carries _ _ ho)
  still _ _ _ (unexplored a w e d) ho = still _ _ _ d ho
  still _ _ _ none_yet ho = refl
  still _ _ _ (in_vain_too a d u) ho = still _ _ _ u ho ∙ still _ _ _ d ho
  still _ _ _ (heard b c a y e d u) ho = still _ _ _ u ho ∙ still _ _ _ d ho
  still _ _ _ (unheard d) ho = still _ _ _ d ho
  still _ _ _ none_asked ho = refl
  still _ _ _ (unable_too a y e d u) ho = still _ _ _ u ho ∙ still _ _ _ d ho
  still _ _ _ (silent_too a d u) ho = still _ _ _ u ho ∙ still _ _ _ d ho
  still _ _ _ (answered b c n a y e f d u) ho = still _ _ _ u ho ∙ still _ _ _ d ho
  still _ _ _ (nobody_has d) ho = still _ _ _ d ho
  still _ _ _ (some_silent n e d) ho = still _ _ _ d ho
  still _ _ _ no_part ho = refl
  still _ _ _ (part_unheard r d u) ho = still _ _ _ u (carries _ _ ho) ∙ still _ _ _ d ho
  still _ _ _ (part_unavailable r v d u) ho = still _ _ _ u (carries _ _ ho) ∙ still _ _ _ d ho
  still _ _ _ (part_answered r c d u) ho = still _ _ _ u (carries _ _ ho) ∙ still _ _ _ d ho
  still _ _ _ (part_breaks b c r x e d u) ho = still _ _ _ u (carries _ _ ho) ∙ still _ _ _ d ho

pub probes_accept_none : ProbesAcceptNone
probes_accept_none p s most k i j l r set at due = (
  λ agents noted d. still s most _ j l d none,
  λ a heard d. still s most _ j l d none,
)
  where
    none : CarriesNone (Some k.receiver) k r
    none m c =
        let new = new_is p s k i set at r due in
        let apart : is_probe k.message.request.body m.target ≡ true =
        and_true (is_update k.message.request.body) _ at.update
        (elim (true_or_false (same_name (target_of k.message.request.body) m.target)) [
          | inr f ↦ ap not f
          | inl t ↦ absurd (new_apart k.message.request.body new.0 new.1 (subst (λ (x : Key). 0 < length x) (fit_key k.message at.arrives.fit) (target_filled p s k i set at))
              (sym new.2 ∙ (key_decides (key_of r.target) (key_of m.target)).0 c.target_is ∙ sym ((key_decides (key_of (target_of k.message.request.body)) (key_of m.target)).0 t)))
        ]) in
        subst (λ (x : Request). is_update x.body ≡ false) (sym c.request_is) (ap (λ (b : Bool). is_update (form k.message.request false m.target r b (asks_part r)).body) apart)
