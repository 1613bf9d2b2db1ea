-- What a probe brings that ends its update: where an agent wasn't heard, the line at hand lacks a probe, so it doesn't
-- accept; where the new name is found, or another error comes, the tree refuses the update, or messages ran out.
use Rattle.std.proofs.Common.{◌≡◌, ℕ, ◌+◌, ◌-◌, ◌<◌, nat_lt, Bool, true, false, not, ◌&&◌, ◌||◌, ◌==◌, ◌⊎◌, if◌then◌else◌, inl, inr, List, [], ◌∷◌, ◌++◌, length, refl, sym, ap, subst, ◌∙◌, arith, Option, Some, None}
use Rattle.std.specs.Prelude.{IsTrue}
use Rattle.std.specs.Result.{is_ok}
use Rattle.x5_model.specs.Words.{has, is_empty, first_of}
use Rattle.x5_model.specs.Members.{In, here, Once}
use Rattle.x5_model.specs.Keys.{Key}
use Rattle.x5_model.specs.Values.{key_of}
use Rattle.x5_model.specs.Problems.{entry_already_exists, unavailable, unable_to_proceed}
use Rattle.x5_model.specs.Requests.{Body}
use Rattle.x5_model.specs.References.{Reference, Chained}
use Rattle.x5_model.specs.Answers.{DirError, UpdateProblem, ServiceProblem, Reply, Answered, Failed}
use Rattle.x5_model.proofs.KeyLaws.{key_decides}
use Rattle.x5_model.proofs.Decide.{nat_same_decides}
use Rattle.x5_model.proofs.Lists.{both_true, and_true, either_true, or_left, or_right, in_right}
use Rattle.x5_model_tree.specs.Ask.{Refuses, is_update}
use Rattle.x5_model_tree.specs.Apply.{apply}
use Rattle.x5_model_run.specs.Network.{Fate, Lost, NoReply, Sent, arrives, is_sent, is_unheard}
use Rattle.x5_model_run.specs.Journal.{Line, Journal, depth, same_name, same_progress, settled, some_line, opened_by, leads_up}
use Rattle.x5_model_run.specs.Holdings.{masters_pin}
use Rattle.x5_model_run.specs.Needs.{target_of, is_unable, due_probes}
use Rattle.x5_model_run.specs.History.{Point, tree_at}
use Rattle.x5_model_run.specs.Chain.{Scene, AllLicensed, IsCarried, asks_by, is_asked, is_probe, is_probe_line, is_in_vain, is_broken, is_broken_line, is_broken_off, suppliers_above}
use Rattle.x5_model_run.specs.Accepting.{carries_update, lacks_probe, may_accept}
use Rattle.x5_model_run.specs.Blocked.{Asked}
use Rattle.x5_model_run.specs.Covers.{told}
use Rattle.x5_model_run.specs.Right as right
use Rattle.x5_model_run.specs.Right.{Right, result, changed, is_master_at}
use Rattle.x5_model_replies.specs.Replies as placed
use Rattle.x5_model_replies.specs.Replies.{RightReply, usual, is_long}
use Rattle.x5_model_serve.specs.Answering.{is_service, of_these}
use Rattle.x5_model_serve.specs.Serving.{Hand, line_for, Hears, holds_now, is_spent}
use Rattle.x5_model_serve.specs.Claims.{AtMaster, is_due_line, is_settled_line, serving_of}
use Rattle.x5_model_replies.specs.Heard.{HeardRight, TakenRight}
use Rattle.x5_model_joins.proofs.Backs.{own_answered}
use Rattle.x5_model_joins.proofs.Cases as cases
use Rattle.x5_model_verdicts.proofs.At.{each_of_update, fit_key, scene_update, scene_body, scene_fit}
use Rattle.x5_model_verdicts.proofs.Below.{At, at_in, before_in, either_first, some_at, of_some, licensed_at, never_again, ended}
use Rattle.x5_model_verdicts.proofs.NewName.{new_is, new_apart}
use Rattle.x5_model_verdicts.proofs.Refused.{target_filled}
use Rattle.x5_model_verdicts.proofs.Missed.{missed_is_right}
use Rattle.x5_model_verdicts.proofs.Taken.{taken_is_right}
use Rattle.x5_model_verdicts.proofs.Breaking.{break_is_right}
use Rattle.x5_model_right.specs.Kept.{Ground, is_sent_to}
use Rattle.x5_model_right.specs.Claim.{SentHeard}
use Rattle.x5_model_right.specs.Journeys.{NeededAgents}
use Rattle.x5_model_right.specs.Updated.{Misses, IsTaken, Breaks}
use Rattle.x5_model_right.proofs.Kept.{at_hand_later, may_later, line_there}
use Rattle.x5_model_right.proofs.Journeys.{apart_here}
use Rattle.x5_model_right.proofs.Taking.{none_after}
use Rattle.x5_model_right.proofs.Leaves.{within_error}
use Rattle.x5_model_right.proofs.Probing.{rests_probing, kept_probing, first_probing}
use Rattle.x5_model_right.proofs.Updates.{going, told_settles, may_probe, rests_before, asked_none, served_probed}

-- ---- ways up

heard_or_not : (f : Fate) → is_unheard f ≡ true → is_sent f ≡ true → ⊥
heard_or_not Lost u v = cc
heard_or_not NoReply u v = cc
heard_or_not Sent u v = cc

off_lacking : (a b c d e : Bool) → e ≡ false → (a && (b && (c && (d && e)))) ≡ false
off_lacking true true true true e h = h
off_lacking true true true false e h = refl
off_lacking true true false d e h = refl
off_lacking true false c d e h = refl
off_lacking false b c d e h = refl

pub at_some : (test : Line → List Line → Bool) (lines : List Line) (l : Line) (e : List Line) → At lines l e → test l e ≡ true
    → some_line test lines ≡ true
at_some test [] l e a h = absurd a
at_some test (x ∷ xs) l e (inl u) h = or_left (test x xs) _ (sym (λ q. test (u.0 q) (u.1 q)) ∙ h)
at_some test (x ∷ xs) l e (inr v) h = or_right (test x xs) _ (at_some test xs l e v h)

-- from just above a line to the one that brought its owner the message
leads_at : (ends passes : Line → Bool) (d : ℕ) (lines : List Line) (o : Line) → first_of (settled d lines) ≡ Some o → ends o ≡ true
    → leads_up ends passes d lines ≡ true
leads_at ends passes d [] o e f = cc
leads_at ends passes d (l ∷ before) o e f = by (nat_lt d (depth l)) (leads_at ends passes d before o) e
  where
    by : (b : Bool) → (first_of (settled d before) ≡ Some o → ends o ≡ true → leads_up ends passes d before ≡ true)
        → first_of (if b then settled d before else (l ∷ before)) ≡ Some o
        → (if b then leads_up ends passes d before else ends l || (passes l && leads_up ends passes (depth l - 1) before)) ≡ true
    by true rest q = rest q f
    by false rest q = (let same : l ≡ o = cc in or_left (ends l) _ (ap ends same ∙ f))

pub leads_opened : (number : ℕ) (l : Line) (before : List Line) → opened_by number before l ≡ true
    → leads_up (λ x. x.number == number) (λ x. true) (depth l - 1) before ≡ true
leads_opened number l before h =
    let w = of_some (λ o. (o.number == number) && ((depth o + 1) == depth l)) (first_of (settled (depth l - 1) before))
    (both_true (nat_lt 0 (depth l)) _ h).1 in
    leads_at (λ x. x.number == number) (λ x. true) (depth l - 1) before w.0 w.1 (both_true (w.0.number == number) _ w.2).0

-- a way up to a line goes on from there
module _ (s : Scene) (number : ℕ) (e : Line) (be : List Line) (opened : opened_by number be e ≡ true) where
  abbrev ends : Line → Bool
  ends x = (x.number == e.number) && is_sent x.fate

  abbrev sent : Line → Bool
  sent x = is_sent x.fate

  abbrev ends_there : Line → Bool
  ends_there x = x.number == number

  abbrev passes : Line → Bool
  passes x = true

  same_of : (x : Line) → ends x ≡ true → x.number ≡ e.number
  same_of x h = (nat_same_decides x.number e.number).0 (both_true (x.number == e.number) _ h).0

  pub leads_on : (lines : List Line) → AllLicensed s lines → At lines e be → (d : ℕ) → leads_up ends sent d lines ≡ true
      → leads_up ends_there passes d lines ≡ true
  leads_on [] all a d h = absurd a
  leads_on (x ∷ before) all (inl u) d h = by (nat_lt d (depth x)) h
    where
      on : leads_up ends_there passes (depth x - 1) before ≡ true
      on = sym (λ q. leads_up ends_there passes (depth (u.0 q) - 1) (u.1 q)) ∙ leads_opened number e be opened

      by : (b : Bool) → (if b then leads_up ends sent d before else ends x || (sent x && leads_up ends sent (depth x - 1) before)) ≡ true
          → (if b then leads_up ends_there passes d before else ends_there x ||
          (passes x && leads_up ends_there passes (depth x - 1) before)) ≡ true
      by true k = (let w = ended s ends sent d before k in absurd
          (never_again s x before all w.0 w.1 (ap (λ (y : Line). y.number) (sym u.0) ∙ sym (same_of w.0 w.2))))
      by false k = or_right (ends_there x) _ on
  leads_on (x ∷ before) all (inr v) d h = by (nat_lt d (depth x)) (λ n. leads_on before all.1 v n) h
    where
      by : (b : Bool) → ((n : ℕ) → leads_up ends sent n before ≡ true → leads_up ends_there passes n before ≡ true)
          → (if b then leads_up ends sent d before else ends x || (sent x && leads_up ends sent (depth x - 1) before)) ≡ true
          → (if b then leads_up ends_there passes d before else ends_there x ||
          (passes x && leads_up ends_there passes (depth x - 1) before)) ≡ true
      by true rest k = rest d k
      by false rest k = elim (either_true (ends x) _ k) [
        | inl y ↦ absurd (never_again s x before all e (at_in before e be v) (same_of x y))
        | inr y ↦ or_right (ends_there x) _ (rest (depth x - 1) (both_true (sent x) _ y).1)
      ]

-- ---- an agent that wasn't heard

module _ (p : Point) (s : Scene) (g : Ground p s) (k : Hand) (i : Journal) (at : AtMaster p s k i) (r : Reference)
    (due : due_probes (holds_now s i k) k.message ≡ r ∷ []) (j : Journal) (all : AllLicensed s j.lines) where
  -- whatever asks for the new name is a probe
  pub is_probes : (l : Line) → In l j.lines → key_of l.message.target ≡ key_of r.target → is_probe_line s l ≡ true
  is_probes l m same =
      let up = scene_update p s k i g.setting at in
      and_true (is_update s.message.request.body) _ up (elim (each_of_update s up (scene_fit p s k i g.setting at) j.lines all l m) [
        | inl read ↦ read
        | inr w ↦
            let new = new_is p s k i g.setting at r due in
            absurd (new_apart k.message.request.body new.0 new.1
            (subst (λ (x : Key). 0 < length x) (fit_key k.message at.arrives.fit) (target_filled p s k i g.setting at))
            (sym new.2 ∙ sym same ∙ w.1 ∙ ap (λ (b : Body). key_of (target_of b)) (sym (scene_body p s k i g.setting at))))
      ])

  asks_same : (a : ℕ) (l : Line) → asks_by r a l ≡ true → key_of l.message.target ≡ key_of r.target
  asks_same a l h = (key_decides (key_of l.message.target) (key_of r.target)).0
      (both_true (same_progress l.message.progress r.progress) _ (both_true (l.receiver == a) _ h).1).1

  -- a line that isn't heard leads up to the line at hand
  lacks_by : (l : Line) (b : List Line) → At j.lines l b → key_of l.message.target ≡ key_of r.target → is_unheard l.fate ≡ true
      → leads_up (λ x. x.number == at.at_hand.line.number) (λ x. true) (depth l - 1) b ≡ true
      → some_line (lacks_probe s at.at_hand.line.number) j.lines ≡ true
  lacks_by l b a same unheard up =
      at_some (lacks_probe s at.at_hand.line.number) j.lines l b a
      (and_true (is_probe_line s l) _ (is_probes l (at_in j.lines l b a) same) (and_true (is_unheard l.fate) _ unheard up))

  -- an unheard line above a probe came later than that, so it leads up to the line at hand too
  lacks_off : (e : Line) (be : List Line) → At j.lines e be → key_of e.message.target ≡ key_of r.target
      → opened_by at.at_hand.line.number be e ≡ true → is_sent e.fate ≡ true
      → (l : Line) (bl : List Line) → At j.lines l bl → is_broken_off s e l bl ≡ true
      → some_line (lacks_probe s at.at_hand.line.number) j.lines ≡ true
  lacks_off e be ae same opened sent l bl al off =
      let c = both_true (is_unheard l.fate) _ off in
      let d = both_true (same_name l.message.target e.message.target) _ c.1 in
      let up = (both_true (has ◌==◌ (suppliers_above 4 s (key_of e.message.target) e.receiver) l.receiver) _ d.1).1 in
      lacks_by l bl al ((key_decides (key_of l.message.target) (key_of e.message.target)).0 d.0 ∙ same) c.0
      (leads_on s at.at_hand.line.number e be opened bl (licensed_at s j.lines l bl all al).1 (inside c.0 up) (depth l - 1) up)
    where
      inside : is_unheard l.fate ≡ true
          → leads_up (λ x. (x.number == e.number) && is_sent x.fate) (λ x. is_sent x.fate) (depth l - 1) bl ≡ true → At bl e be
      inside un up = elim (either_first j.lines l bl e be al ae) [
        | inl same ↦ absurd (heard_or_not l.fate un (ap (λ (y : Line). is_sent y.fate) same ∙ sent))
        | inr (inl b) ↦ b
        | inr (inr b) ↦
            let y = ended s (λ x. (x.number == e.number) && is_sent x.fate) (λ x. is_sent x.fate) (depth l - 1) bl up in
            absurd (never_again s e be (licensed_at s j.lines e be all ae) y.0 (before_in be l bl b y.0 y.1)
            (sym ((nat_same_decides y.0.number e.number).0 (both_true (y.0.number == e.number) _ y.2).0)))
      ]

  lacks_broken : (a : ℕ) → is_broken s j.lines at.at_hand.line.number r a ≡ true
      → some_line (lacks_probe s at.at_hand.line.number) j.lines ≡ true
  lacks_broken a h =
      let w = some_at (λ e before. asks_by r a e && (opened_by at.at_hand.line.number before e && is_broken_line s j.lines e)) j.lines h in
      let t = both_true (asks_by r a w.0) _ w.3 in
      let u = both_true (opened_by at.at_hand.line.number w.1 w.0) _ t.1 in
      let v = both_true (is_sent w.0.fate) _ u.1 in
      let above = (both_true (not (masters_pin (s.holdings w.0.receiver) (key_of w.0.message.target))) _ v.1).1 in
      let z = some_at (is_broken_off s w.0) j.lines above in
      lacks_off w.0 w.1 w.2 (asks_same a w.0 t.0) u.0 v.0 z.0 z.1 z.2 z.3

  pub vain_settles : (a : ℕ) → is_in_vain s j.lines at.at_hand.line r a ≡ true → is_settled_line p s j at.at_hand.line ≡ true
  vain_settles a h =
      let lacks : some_line (lacks_probe s at.at_hand.line.number) j.lines ≡ true = elim
      (either_true (is_asked is_unheard j.lines at.at_hand.line.number r a) _ h) [
        | inl e ↦
            let w = some_at (λ l before. is_unheard l.fate && (asks_by r a l && opened_by at.at_hand.line.number before l)) j.lines e in
            let t = both_true (is_unheard w.0.fate) _ w.3 in
            let u = both_true (asks_by r a w.0) _ t.1 in
            lacks_by w.0 w.1 w.2 (asks_same a w.0 u.0) t.0 (leads_opened at.at_hand.line.number w.0 w.1 u.1)
        | inr e ↦ lacks_broken a (both_true (is_probe at.at_hand.line.message.request.body r.target) _ e).1
      ] in
      let never : may_accept s j.lines at.at_hand.line.receiver at.at_hand.line ≡ false =
      off_lacking (at.at_hand.line.receiver == at.at_hand.line.receiver) (arrives at.at_hand.line.fate) (carries_update s at.at_hand.line)
      (not (is_unable (s.holdings at.at_hand.line.receiver) at.at_hand.line.message))
      (not (some_line (lacks_probe s at.at_hand.line.number) j.lines)) (ap not lacks) in
      or_left (not (is_due_line p s j at.at_hand.line)) (not (is_empty j.accepted))
      (ap not (off_first (may_accept s j.lines at.at_hand.line.receiver at.at_hand.line)
      (is_master_at p (key_of s.message.target) at.at_hand.line.receiver && is_ok (apply (tree_at p) s.message.request)) never))
    where
      off_first : (x y : Bool) → x ≡ false → (x && y) ≡ false
      off_first true y q = cc
      off_first false y q = refl

pub misses_right : NeededAgents → Misses
misses_right known p s most k i j mine r a noted g h due d probes at comes =
    let may = may_probe p s g k i at r due in
    let t = probes [] at due may (rests_before p s g k i at r due most comes) (sym (none_after r.agents))
    (asked_none p s g k i at r due comes) in
    let once : Once r.agents = (apart_here p s g k i at.at_hand known).agents r may.needed in
    let vain = t.noted_so_far.silent at.at_hand.line (ap first_of t.keeps.keeps.settled_is ∙ at.at_hand.at_hand) a
    (in_right a noted (a ∷ []) here) in
    let w = served_probed p s g k i at r due j t.first (vain_settles p s g k i at r due j t.keeps.keeps.licensed a vain) in
    record {
      keeps = record { keeps = t.keeps.keeps; since = t.keeps.since; at_once = t.keeps.at_once; reads = λ e. t.keeps.reads refl };
      right = missed_is_right p s most k i j r (noted ++ a ∷ []) (is_spent most j) g.setting at due once d t.keeps.keeps
          (t.keeps.reads refl).accepted_same (some noted) t.noted_so_far;
      within = within_error p k at.at_hand.line.number (length i.accepted)
          (ServiceProblem unavailable (Some (of_these (noted ++ a ∷ []) r)) None) (going p s g k i at);
      own = inr (w.0, w.1, λ e. w.2);
      left = λ e. cc;
    }
  where
    some : (xs : List ℕ) → is_empty (xs ++ a ∷ []) ≡ false
    some [] = refl
    some (x ∷ xs) = refl

-- ---- an error

-- beside silence and inability an error is the tree's, or a limit
told_or_limit : (p : Point) (s : Scene) (q : Asked) (j : Journal) (over : Bool) (reply : Reply) → RightReply p s q j over reply
    → (x : DirError) → reply ≡ Failed x
    → is_service unable_to_proceed reply ≡ false → is_service unavailable reply ≡ false
    → ((over || is_long q j.lines) ≡ true) ⊎ ((y : DirError) × (told (λ key. false) (tree_at p) q.message ≡ Refuses y))
told_or_limit p s q j over reply (usual on w) x e able un = inr (by reply w e able un)
  where
    by : (y : Reply) → Right p s q j y → y ≡ Failed x → is_service unable_to_proceed y ≡ false → is_service unavailable y ≡ false
        → (z : DirError) × (told (λ key. false) (tree_at p) q.message ≡ Refuses z)
    by _ (result b y f none) e able un = cc
    by _ (changed b up some) e able un = cc
    by _ (right.error {x = z} b t o c) e able un = (z, t)
    by _ (right.referral u g c) e able un = cc
    by _ (right.unheard l g c) e able un = cc
told_or_limit p s q j over _ (placed.unable h) x e able un = cc
told_or_limit p s q j over _ (placed.limit on h none) x e able un = inl h

module _ (p : Point) (s : Scene) (most : ℕ) (g : Ground p s) (k : Hand) (i j : Journal) (at : AtMaster p s k i)
    (all : AllLicensed s j.lines) (stands : In at.at_hand.line j.lines) where
  not_long : is_long (serving_of i k at.at_hand.line.number) j.lines ≡ true → ⊥
  not_long h =
      let short = g.short j.lines at.at_hand.line all stands in
      let same : depth at.at_hand.line ≡ length k.message.trace = ap (λ (m : Chained). length m.trace) at.at_hand.message_is in
      cases.not_long (serving_of i k at.at_hand.line.number) j.lines (omega (arith, short, same)) (λ e m. g.short j.lines e all m) h

  -- so the line at hand is settled, where messages didn't run out
  pub error_settles : (x : DirError) → RightReply p s (serving_of i k at.at_hand.line.number) j (is_spent most j) (Failed x)
      → is_service unable_to_proceed (Failed x) ≡ false → is_service unavailable (Failed x) ≡ false
      → (is_spent most j ≡ true) ⊎ (is_settled_line p s j at.at_hand.line ≡ true)
  error_settles x w able un = elim (told_or_limit p s (serving_of i k at.at_hand.line.number) j (is_spent most j)
      (Failed x) w x refl able un) [
        | inr t ↦ inr (told_settles p s g k i at t.0 j at.at_hand.line t.1)
        | inl h ↦ elim (either_true (is_spent most j) _ h) [ inl e ↦ inl e | inr e ↦ absurd (not_long e) ]
      ]

module _ (r : Reference) (a : ℕ) (after : List ℕ) where
  same_first : (xs : List ℕ) → first_of (xs ++ a ∷ after) ≡ first_of (xs ++ a ∷ [])
  same_first [] = refl
  same_first (x ∷ xs) = refl

  pub first_split : (before : List ℕ) → r.agents ≡ before ++ a ∷ after → (b : ℕ) → first_of r.agents ≡ Some b
      → first_of (before ++ a ∷ []) ≡ Some b
  first_split before split b e = sym (ap first_of split ∙ same_first before) ∙ e

narrow : (from : Option ℕ) (o : Hand) (r : Reference) (a : ℕ) (m : Chained) → IsCarried from (line_for o) r m
    → IsCarried from (line_for o) (record r { agents = a ∷ [] }) m
narrow from o r a m c = record {
  target_is = c.target_is;
  progress_is = c.progress_is;
  kind_is = c.kind_is;
  exclusions_are = c.exclusions_are;
  trace_is = c.trace_is;
  request_is = c.request_is;
}

-- what was heard of an agent, as heard since the update came
module _ (p : Point) (s : Scene) (most : ℕ) (k : Hand) (i j l : Journal) (e : Line) (r : Reference) (a : ℕ) (reply : Reply) where
  abbrev HeardOf : Type 0
  HeardOf = (x : Line) × (x.receiver ≡ a) × IsCarried (Some k.receiver) (line_for k) r x.message
      × HeardRight p s most (serving_of j k e.number) l x reply × IsTrue (is_sent_to l.lines e.number (Some k.receiver) r a)
      × IsTrue (is_asked is_sent l.lines e.number r a)

  pub taken_of : HeardOf → TakenRight p s most (serving_of i k e.number) (Some k.receiver) k (record r { agents = a ∷ [] }) l (Hears reply)
  taken_of w = (
    w.0,
    subst (λ (n : ℕ). In n (a ∷ [])) (sym w.1) here,
    narrow (Some k.receiver) k r a w.0.message w.2,
    record {
      stands = w.3.stands;
      heard = w.3.heard;
      back = w.3.back;
      stood = w.3.stood;
      right = w.3.right;
      followed = w.3.followed;
      within = w.3.within;
    },
  )

pub is_taken_right : IsTaken
is_taken_right p s most k i j l mine r a before after noted found g h due split d probes e sends at comes =
    let may = may_probe p s g k i at r due in
    let rests = rests_before p s g k i at r due most comes in
    let t = probes (a ∷ after) at due may rests split (asked_none p s g k i at r due comes) in
    let u = sends before after (at_hand_later p s most k i j at.at_hand t.keeps.keeps)
    (may_later p s most (Some k.receiver) k r i j may t.keeps.keeps)
    (rests_probing p s most g k r i j at due rests before noted t) split t.so_far in
    let kept = kept_probing p s most g k r i j at due rests before noted t l a (Hears (Answered found)) u in
    let w = heard_of u.heard in
    let right = taken_is_right p s most k i l mine r a found (is_spent most l) g.setting at h due kept.keeps
    (kept.reads refl).accepted_same (taken_of p s most k i j l at.at_hand.line r a (Answered found) w) in
    let there = line_there p s k l (at_hand_later p s most k i l at.at_hand kept.keeps) in
    record {
      keeps = record { keeps = kept.keeps; since = kept.since; at_once = kept.at_once; reads = λ z. kept.reads refl };
      right = right;
      within = within_error p k at.at_hand.line.number (length i.accepted) (UpdateProblem entry_already_exists) (going p s g k i at);
      own = elim (error_settles p s most g k i l at kept.keeps.licensed there (UpdateProblem entry_already_exists) right refl refl) [
        | inl z ↦ inl z
        | inr calm ↦
            let v = served_probed p s g k i at r due l (λ b f. first_probing p s most g k r i j at due rests before noted t l a
            (Hears (Answered found)) u w.4 b (first_split r a after before split b f)) calm in
            inr (v.0, v.1, λ z. v.2)
      ];
      left = λ z. cc;
    }
  where
    heard_of : SentHeard p s most at.at_hand.line (Some k.receiver) k r a (Hears (Answered found)) j l
        → HeardOf p s most k i j l at.at_hand.line r a (Answered found)
    heard_of (inl w) = w
    heard_of (inr w) = (let z = w.0.0 in cc)

pub breaks_right : Breaks
breaks_right p s most k i j l mine r a before after noted x g h due split able un d probes e sends at comes =
    let may = may_probe p s g k i at r due in
    let rests = rests_before p s g k i at r due most comes in
    let t = probes (a ∷ after) at due may rests split (asked_none p s g k i at r due comes) in
    let u = sends before after (at_hand_later p s most k i j at.at_hand t.keeps.keeps)
    (may_later p s most (Some k.receiver) k r i j may t.keeps.keeps)
    (rests_probing p s most g k r i j at due rests before noted t) split t.so_far in
    let kept = kept_probing p s most g k r i j at due rests before noted t l a (Hears (Failed x)) u in
    let there = line_there p s k l (at_hand_later p s most k i l at.at_hand kept.keeps) in
    elim u.heard [
      | inr w ↦ record {
        keeps = record { keeps = kept.keeps; since = kept.since; at_once = kept.at_once; reads = λ z. kept.reads refl };
        right = subst (λ (y : Reply). RightReply p s (serving_of i k at.at_hand.line.number) l (is_spent most l) y) (sym (spent_is w.0.0))
            (placed.limit (own_answered at.at_hand.line (length i.accepted) l.lines there) (or_left (is_spent most l) _ w.0.1)
            (or_left _ _ ((nat_same_decides (length l.accepted) (length i.accepted)).1 (ap length (kept.reads refl).accepted_same))));
        within = within_error p k at.at_hand.line.number (length i.accepted) x (going p s g k i at);
        own = inl w.0.1;
        left = λ z. cc;
      }
      | inl w ↦
          let right = break_is_right p s most k i l r a x g.setting at due able un (λ y m. g.short l.lines y kept.keeps.licensed m)
          kept.keeps (kept.reads refl).accepted_same
          (taken_of p s most k i j l at.at_hand.line r a (Failed x) w) in
          record {
            keeps = record { keeps = kept.keeps; since = kept.since; at_once = kept.at_once; reads = λ z. kept.reads refl };
            right = right;
            within = within_error p k at.at_hand.line.number (length i.accepted) x (going p s g k i at);
            own = elim (error_settles p s most g k i l at kept.keeps.licensed there x right able un) [
              | inl z ↦ inl z
              | inr calm ↦
                  let v = served_probed p s g k i at r due l
                  (λ b f. first_probing p s most g k r i j at due rests before noted t l a (Hears (Failed x)) u w.4 b
                  (first_split r a after before split b f)) calm in
                  inr (v.0, v.1, λ z. v.2)
            ];
            left = λ z. cc;
          }
    ]
  where
    spent_is : {y z : Reply} → Hears y ≡ Hears z → y ≡ z
    spent_is q = cc
