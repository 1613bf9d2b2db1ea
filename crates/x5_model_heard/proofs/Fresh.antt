-- An agent at which an update is found has accepted none, since it would have answered at once; and what is passed on
-- of an update, or of a read or compare, stays the user's: by the cases of progress and of requests.
use Rattle.std.proofs.Common.{◌≡◌, ℕ, ◌==◌, Bool, true, false, not, ◌&&◌, ◌||◌, refl, sym, ap, ◌∙◌, if◌then◌else◌}
use Rattle.x5_model.specs.Words.{has}
use Rattle.x5_model.specs.Values.{Name, key_of}
use Rattle.x5_model.specs.Requests.{Body, Read, Compare, ListBelow, Search, AddEntry, RemoveEntry, ModifyEntry, ModifyDn, Request}
use Rattle.x5_model.specs.References.{Progress, Start, Next, Done, Reference, Chained}
use Rattle.x5_model.proofs.Lists.{both_true}
use Rattle.x5_model_tree.specs.Ask.{is_update}
use Rattle.x5_model_run.specs.Journal.{is_done, is_wide, same_name}
use Rattle.x5_model_run.specs.Holdings.{Held, Holdings, holds_within}
use Rattle.x5_model_run.specs.Needs.{target_of, resolves}
use Rattle.x5_model_run.specs.Placed.{fits, is_query_below}
use Rattle.x5_model_run.specs.Chain.{is_user, is_probe, asks_part, part_body, part_request, probe_request}
use Rattle.x5_model_theory.proofs.Tests.{false_true}
use Rattle.x5_model_serve.specs.Finding.{Here, Stuck, find}
use Rattle.x5_model_serve.specs.Serving.{holds_now}
use Rattle.x5_model_heard.specs.Kept.{HereIsFresh, UpdatesAreCarried, looks_at_one}

no_query : (b : Body) → is_update b ≡ true → is_query_below b ≡ true → ⊥
no_query (Read name selection) u q = false_true u
no_query (Compare name assertion) u q = false_true u
no_query (ListBelow name) u q = false_true u
no_query (Search base subset f selection) u q = false_true u
no_query (AddEntry name attributes) u q = false_true q
no_query (RemoveEntry name) u q = false_true q
no_query (ModifyEntry name changes) u q = false_true q
no_query (ModifyDn name rdn drops) u q = false_true q

or_right : (b c : Bool) → (not b || c) ≡ true → b ≡ true → c ≡ true
or_right true c e f = e
or_right false c e f = absurd (false_true f)

goes_on : (h : Holdings) (m : Chained) (c : Held) → fits m ≡ true → is_update m.request.body ≡ true → find h m ≡ Here c
    → resolves h m ≡ true
goes_on h m c fit u e = by m.progress refl
  where
    next : (k : ℕ) → m.progress ≡ Next k → (b : Bool) → holds_within h (key_of m.target) k ≡ b → resolves h m ≡ true
    next k q true w = rw (q, w) refl
    next k q false w = (let f : find h m ≡ Stuck = rw (q, w) refl in let g : Stuck ≡ Here c = sym f ∙ e in cc)

    by : (p : Progress) → m.progress ≡ p → resolves h m ≡ true
    by Start q = rw q refl
    by (Next k) q = next k q (holds_within h (key_of m.target) k) refl
    by Done q =
        let d : is_done m.progress ≡ true = ap is_done q in
        let t = (both_true (same_name (target_of m.request.body) m.target) _ fit).1 in
        absurd (no_query m.request.body u (or_right (is_done m.progress) (is_query_below m.request.body) t d))

not_both : (u a r : Bool) → (u && (a && r)) ≡ false → u ≡ true → r ≡ true → a ≡ false
not_both true true true e f g = absurd (false_true (sym e))
not_both true true false e f g = absurd (false_true g)
not_both true false r e f g = refl
not_both false a r e f g = absurd (false_true f)

pub here_is_fresh : HereIsFresh
here_is_fresh s k j c a e u =
    not_both (is_update k.message.request.body) (has ◌==◌ j.accepted k.receiver)
    (resolves (holds_now s j k) k.message) a.fresh u
    (goes_on (holds_now s j k) k.message c a.fit u e)

-- ---- what is carried

part_same : (wide : Bool) (t : Name) (b : Body) → is_update (part_body wide t b) ≡ true → part_body wide t b ≡ b
part_same wide t (Read name selection) u = refl
part_same wide t (Compare name assertion) u = refl
part_same wide t (ListBelow name) u = absurd (false_true u)
part_same wide t (Search base subset f selection) u = absurd (false_true u)
part_same wide t (AddEntry name attributes) u = refl
part_same wide t (RemoveEntry name) u = refl
part_same wide t (ModifyEntry name changes) u = refl
part_same wide t (ModifyDn name rdn drops) u = refl

abbrev request_by : Bool → Request → Name → Reference → Bool → Bool → Request
request_by user asked t r probe part =
    if probe then probe_request t else (if part then part_request user (is_wide r.kind) t asked else asked)

-- a read or compare is no update, and stays where it is a part
alone_is_no_update : (b : Body) → looks_at_one b ≡ true → is_update b ≡ false
alone_is_no_update (Read name selection) u = refl
alone_is_no_update (Compare name assertion) u = refl
alone_is_no_update (ListBelow name) u = refl
alone_is_no_update (Search base subset f selection) u = refl
alone_is_no_update (AddEntry name attributes) u = absurd (false_true u)
alone_is_no_update (RemoveEntry name) u = absurd (false_true u)
alone_is_no_update (ModifyEntry name changes) u = absurd (false_true u)
alone_is_no_update (ModifyDn name rdn drops) u = absurd (false_true u)

alone_is_no_probe : (b : Body) (t : Name) → looks_at_one b ≡ true → is_probe b t ≡ false
alone_is_no_probe b t u = rw (alone_is_no_update b u) refl

part_alone : (wide : Bool) (t : Name) (b : Body) → looks_at_one b ≡ true → part_body wide t b ≡ b
part_alone wide t (Read name selection) u = refl
part_alone wide t (Compare name assertion) u = refl
part_alone wide t (ListBelow name) u = absurd (false_true u)
part_alone wide t (Search base subset f selection) u = absurd (false_true u)
part_alone wide t (AddEntry name attributes) u = refl
part_alone wide t (RemoveEntry name) u = refl
part_alone wide t (ModifyEntry name changes) u = refl
part_alone wide t (ModifyDn name rdn drops) u = refl

pub updates_are_carried : UpdatesAreCarried
updates_are_carried s from o r same = record {
  update = by (is_probe o.message.request.body r.target) (asks_part r);
  alone = λ u. alone u (same.alone u) (is_probe o.message.request.body r.target) (asks_part r) refl;
}
  where
    by : (b c : Bool) → is_update (request_by (is_user from) o.message.request r.target r b c).body ≡ true
        → (request_by (is_user from) o.message.request r.target r b c).body ≡ s.message.request.body
    by true c f = absurd (false_true f)
    by false true f =
        let e = part_same (is_wide r.kind) r.target o.message.request.body f in
        e ∙ same.update (ap is_update (sym e) ∙ f)
    by false false f = same.update f

    alone : looks_at_one s.message.request.body ≡ true → o.message.request.body ≡ s.message.request.body → (b c : Bool)
        → is_probe o.message.request.body r.target ≡ b
        → (request_by (is_user from) o.message.request r.target r b c).body ≡ s.message.request.body
    alone u e true c f =
        absurd (false_true (sym (alone_is_no_probe o.message.request.body r.target (ap looks_at_one e ∙ u)) ∙ f))
    alone u e false true f =
        part_alone (is_wide r.kind) r.target o.message.request.body (ap looks_at_one e ∙ u) ∙ e
    alone u e false false f = e
