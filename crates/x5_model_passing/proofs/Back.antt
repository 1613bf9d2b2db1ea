-- A right reply is passed back, by the cases of what is right.
use Rattle.std.proofs.Common.{◌≡◌, ℕ, nat_lt, ◌==◌, Bool, true, false, not, ◌&&◌, ◌||◌, inl, inr, ◌⊎◌, List, [], ◌∷◌, length, refl, sym, ap, subst, ◌∙◌, Option, Some, if◌then◌else◌}
use Rattle.std.proofs.lemmas.Bool.Decides.{Decides-eqb}
use Rattle.std.specs.Option.{is_none}
use Rattle.x5_model.specs.Words.{is_empty, has}
use Rattle.x5_model.specs.Members.{In}
use Rattle.x5_model.specs.Keys.{Key}
use Rattle.x5_model.specs.Values.{key_of}
use Rattle.x5_model.specs.References.{Reference}
use Rattle.x5_model.specs.Requests.{Body, Read, Compare, ListBelow, Search, AddEntry, RemoveEntry, ModifyEntry, ModifyDn, Request}
use Rattle.x5_model.specs.Answers.{DirError, ServiceProblem, Reply, Answered, Failed}
use Rattle.x5_model.specs.Statics.{fault_of}
use Rattle.x5_model.specs.Problems.{unavailable, unable_to_proceed, administrative_limit_exceeded}
use Rattle.x5_model.proofs.Lists.{both_true, either_true, or_left, or_right, true_or_false}
use Rattle.x5_model_tree.specs.Ask.{Refuses, is_update}
use Rattle.x5_model_run.specs.Journal.{Line, Journal, depth, is_done, is_wide}
use Rattle.x5_model_run.specs.Needs.{falls_short}
use Rattle.x5_model_run.specs.History.{Point, tree_at}
use Rattle.x5_model_run.specs.Chain.{Scene, AllLicensed}
use Rattle.x5_model_run.specs.Covers.{told}
use Rattle.x5_model_run.specs.Accepting.{carries_update}
use Rattle.x5_model_run.specs.Blocked.{hears_by}
use Rattle.x5_model_run.specs.Right as right
use Rattle.x5_model_run.specs.Right.{Right, result, changed, accepts_none, heard_whole}
use Rattle.x5_model_replies.specs.Replies as placed
use Rattle.x5_model_run.specs.Placed.{is_query_below}
use Rattle.x5_model_replies.specs.Replies.{is_long, RightReply, usual}
use Rattle.x5_model_serve.specs.Finding.{IsLooked}
use Rattle.x5_model_serve.specs.Answering.{is_service}
use Rattle.x5_model_serve.specs.Serving.{is_final, is_spent}
use Rattle.x5_model_serve.specs.Claims.{Setting, LiesWithin, asked_line}
use Rattle.x5_model_find.proofs.Needing.{false_true}
use Rattle.x5_model_joins.proofs.Backs.{own_back, own_answered}
use Rattle.x5_model_verdicts.proofs.At.{is_entry_read, fit_key, each_of_update, each_off}
use Rattle.x5_model_verdicts.proofs.Lines.{no_error_after}
use Rattle.x5_model_passing.specs.Passing.{PassedOn, IsSame, IsBack, Meanwhile, WithinPassesBack, PassesBack}
use Rattle.x5_model_passing.proofs.Same.{asked_same}
use Rattle.x5_model_passing.proofs.Results.{heard_too, lost_too, result_too}
use Rattle.x5_model_passing.proofs.Errors.{told_too}

-- ---- what is left out

pub within_passes_back : WithinPassesBack
within_passes_back p s l k from r lines stood at reply x = by reply
  where
    same : IsSame p l k
    same = (asked_same p s l k from r lines x).0

    by : (y : Reply) → LiesWithin p (asked_line k at) y → LiesWithin p (asked_line l stood) y
    by (Answered a) h = λ u b i c. subst (λ (ks : List Key). In b ks) same.looks (h u b i c)
    by (Failed (ServiceProblem n (Some u) i)) h = λ d. (same.narrow d, (h (same.phase ∙ d)).1 ∙ ap (λ (n : Key). n ∷ []) same.target)
    by other h = tt

-- ---- the update that l carries is the scene's

pub update_no_read : (body : Body) → is_update body ≡ true → is_entry_read body ≡ true → ⊥
update_no_read (Read name selection) u r = cc
update_no_read (Compare name assertion) u r = cc
update_no_read (ListBelow name) u r = cc
update_no_read (Search base subset f selection) u r = cc
update_no_read (AddEntry name attributes) u r = cc
update_no_read (RemoveEntry name) u r = cc
update_no_read (ModifyEntry name changes) u r = cc
update_no_read (ModifyDn name rdn drops) u r = cc

pub update_above : (body : Body) → is_update body ≡ true → is_query_below body ≡ false
update_above (Read name selection) u = refl
update_above (Compare name assertion) u = refl
update_above (ListBelow name) u = cc
update_above (Search base subset f selection) u = cc
update_above (AddEntry name attributes) u = refl
update_above (RemoveEntry name) u = refl
update_above (ModifyEntry name changes) u = refl
update_above (ModifyDn name rdn drops) u = refl

pub not_completed : (d q : Bool) → (not d || q) ≡ true → q ≡ false → d ≡ false
not_completed true q e f = absurd (false_true (sym f ∙ e))
not_completed false q e f = refl

third_true : (a b c d : Bool) → (a && (b && (c && d))) ≡ true → c ≡ true
third_true a b c d e = (both_true c d (both_true b (c && d) (both_true a (b && (c && d)) e).1).1).0

module _ (p : Point) (s : Scene) (l : Line) (j : Journal) (stood : ℕ) (reply : Reply) (setting : Setting p s)
    (licensed : AllLicensed s j.lines) (stands : In l j.lines) (looked : IsLooked l.message) where
  body_is : is_update l.message.request.body ≡ true → l.message.request.body ≡ s.message.request.body
  body_is u =
      elim (true_or_false (is_update s.message.request.body)) [
        | inr off ↦ absurd (false_true (sym (each_off s off j.lines licensed l stands) ∙ u))
        | inl on ↦ elim (each_of_update s on (fit_key s.message setting.first.fit) j.lines licensed l stands) [
          | inl read ↦ absurd (update_no_read l.message.request.body u read)
          | inr w ↦ w.0
        ]
      ]

  unfinished : is_update l.message.request.body ≡ true → is_done l.message.progress ≡ false
  unfinished u = not_completed (is_done l.message.progress) (is_query_below l.message.request.body)
      (both_true _ (not (is_done l.message.progress) || is_query_below l.message.request.body) looked.1).1
      (update_above l.message.request.body u)

  -- where the tree refuses nothing was accepted
  pub none_by_error : Meanwhile p s l stood j reply → (e : DirError) → told (λ key. false) (tree_at p) l.message ≡ Refuses e
      → length j.accepted ≡ stood
  none_by_error m e h = elim (true_or_false (is_update l.message.request.body)) [ inr off ↦ m.reads off | inl on ↦ by j.accepted refl on ]
    where
      by : (xs : List ℕ) → j.accepted ≡ xs → is_update l.message.request.body ≡ true → length j.accepted ≡ stood
      by [] f on = ap length f ∙ sym (m.only_more f)
      by (a ∷ xs) f on = absurd (no_error_after p s (asked_line l stood) j e m.accepted (ap is_empty f) (body_is on) (unfinished on) h)

module _ (p : Point) (s : Scene) (l k : Line) (from : Option ℕ) (r : Reference) (j : Journal) (stood at : ℕ)
    (x : PassedOn p s l k from r j.lines) (back : IsBack l k stood j.lines) where
  same : IsSame p l k
  same = (asked_same p s l k from r j.lines x).0

  -- so long a message came back here too
  long_too : In k j.lines → is_long (asked_line k at) j.lines ≡ true → hears_by (λ y. depth y == 128) (asked_line l stood) j.lines ≡ true
  long_too i h = heard_too p s l k from r j.lines stood at x back (λ y. depth y == 128)
      (elim (either_true (length k.message.trace == 128) (hears_by (λ y. depth y == 128) (asked_line k at) j.lines) h) [
        | inl e ↦ own_back (λ y. depth y == 128) k at j.lines i e
        | inr e ↦ e
      ])

  module _ (reply : Reply) (m : Meanwhile p s l stood j reply) where
    none_new : length j.accepted ≡ stood → accepts_none (asked_line l stood) j ≡ true
    none_new e = (Decides-eqb (length j.accepted) stood).1 e

    nothing_or_lost : (length j.accepted ≡ stood) ⊎ (heard_whole j.lines ≡ false)
        → (accepts_none (asked_line l stood) j || not (heard_whole j.lines)) ≡ true
    nothing_or_lost (inl e) = or_left _ _ (none_new e)
    nothing_or_lost (inr e) = or_right (accepts_none (asked_line l stood) j) _ (ap not e)

    right_too : (y : Reply) → y ≡ reply → is_final y ≡ true → Right p s (asked_line k at) j y → Right p s (asked_line l stood) j y
    right_too _ is done (result {a} b res n c) =
        let off : not (is_update l.message.request.body) ≡ true = ap (λ (z : Request). not (is_update z.body)) (sym same.request) ∙ n in
        result (own_answered l stood j.lines x.stands) (result_too p s l k from r j.lines stood at x back a done res) off
        (none_new (m.reads (not_it off)))
      where
        not_it : not (is_update l.message.request.body) ≡ true → is_update l.message.request.body ≡ false
        not_it e = by (is_update l.message.request.body) e
          where
            by : (b : Bool) → not b ≡ true → b ≡ false
            by true f = absurd (false_true f)
            by false f = refl
    right_too _ is done (changed b u h) =
        changed (own_answered l stood j.lines x.stands) (ap (λ (z : Request). is_update z.body) (sym same.request) ∙ u)
        (heard_too p s l k from r j.lines stood at x back (λ y. has ◌==◌ j.accepted y.receiver && carries_update s y) h)
    right_too _ is done (right.error {x = e} b t o c) =
        let t : told (λ key. false) (tree_at p) l.message ≡ Refuses e = sym (same.tells (λ key. false) (tree_at p)) ∙ t in
        right.error (own_answered l stood j.lines x.stands) t (told_too p s l k from r j.lines stood at x back e o)
        (none_new (none_by_error p s l j stood reply x.setting x.licensed x.stands x.looked m e t))
    right_too _ is done (right.referral u f c) = absurd (false_true done)
    right_too _ is done (right.unheard {r = u} h f c) =
        right.unheard (lost_too p s l k from r j.lines stood at x back u h)
        (subst (λ (d : Bool). (if d then is_done u.progress else not (is_done u.progress)) ≡ true) same.phase f)
        (nothing_or_lost (m.silent (or_left (is_service unavailable reply) _ (ap (is_service unavailable) (sym is)))))

    reply_too : (over : Bool) → In k j.lines → (y : Reply) → y ≡ reply → is_final y ≡ true
        → (is_wide r.kind ≡ true → is_service unable_to_proceed y ≡ false) → RightReply p s (asked_line k at) j over y → RightReply p s
        (asked_line l stood) j over y
    reply_too over i y is done able (usual n h) = usual (ap not (asked_same p s l k from r j.lines x).1) (right_too y is done h)
    reply_too over i _ is done able (placed.unable u) =
        let wide : is_wide k.message.kind ≡ true =
        third_true (nat_lt (length k.message.trace) 128) (is_none (fault_of k.message.request.body)) (is_wide k.message.kind)
        (falls_short (s.holdings k.receiver) (key_of k.message.target) k.message.progress) u in
        absurd (false_true (sym (able (sym (ap is_wide x.carried.kind_is) ∙ wide))))
    reply_too over i _ is done able (placed.limit on e none) =
        placed.limit (own_answered l stood j.lines x.stands) (elim (either_true over (is_long (asked_line k at) j.lines) e) [
          | inl y ↦ or_left over _ y
          | inr y ↦ or_right over _ (or_right (length l.message.trace == 128) _ (long_too i y))
        ]) (nothing_or_lost (m.silent (or_right (is_service unavailable reply) _ (ap (is_service administrative_limit_exceeded) (sym is)))))

pub passes_back : PassesBack
passes_back p s most l k from r j stood reply x m able h =
    reply_too p s l k from r j stood h.stood x h.back reply m (is_spent most j) h.stands reply refl h.followed able h.right
