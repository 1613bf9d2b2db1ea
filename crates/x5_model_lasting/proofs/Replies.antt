-- A right reply stays right, by its cases: who was heard is heard still, what is blocked is blocked, and what it says of
-- acceptance is said by the premise.
use Rattle.std.proofs.Common.{◌≡◌, ℕ, ◌+◌, Bool, true, false, not, ◌&&◌, ◌||◌, ◌==◌, inl, inr, List, [], ◌∷◌, length, refl, sym, ap, ◌∙◌, Option, Some, None}
use Rattle.std.specs.List.{list_any, AllByRecursion}
use Rattle.std.specs.Option.{is_some}
use Rattle.std.proofs.lemmas.Bool.Decides.{Decides-eqb}
use Rattle.x5_model.specs.Words.{has, in_option, some_and}
use Rattle.x5_model.specs.Members.{In}
use Rattle.x5_model.specs.Values.{Name, key_of}
use Rattle.x5_model.specs.Entries.{Named}
use Rattle.x5_model.specs.References.{Next, Reference}
use Rattle.x5_model.specs.Answers.{Source, Changed, DirError, NoSuchObject, AttributeProblem, UpdateProblem, ServiceProblem, Reply, Answered}
use Rattle.x5_model.specs.Problems.{entry_already_exists, unable_to_proceed}
use Rattle.x5_model.specs.Statics.{fault_of}
use Rattle.x5_model.proofs.Lists.{both_true, and_true, either_true, not_true, or_left, or_right, has_in, of_has}
use Rattle.x5_model_tree.specs.Tree.{lowest}
use Rattle.x5_model_tree.specs.Masters.{master_of}
use Rattle.x5_model_tree.specs.Ask.{Refuses, sources_of, unexplored_of, is_update}
use Rattle.x5_model_run.specs.Journal.{Line, Journal, depth, same_name, same_progress, is_done}
use Rattle.x5_model_run.specs.Needs.{new_name, ends_here}
use Rattle.x5_model_run.specs.History.{Point, knowledge_at, tree_at}
use Rattle.x5_model_run.specs.Chain.{Scene}
use Rattle.x5_model_run.specs.Accepting.{carries_update}
use Rattle.x5_model_run.specs.Covers.{told}
use Rattle.x5_model_run.specs.Blocked.{Asked, came_back, is_answered, hears_by, hears, Blocked}
use Rattle.x5_model_run.specs.Right as right
use Rattle.x5_model_run.specs.Right.{master_at, is_holder, is_source, is_found, IsResult, is_for, first_level_at, hears_of, hears_master, nssr_agents, hears_below, hears_nssr, is_pin, knows, hears_pin, hears_taken, is_told, accepts_none, is_noreply, heard_whole, hears_accepted, Right}
use Rattle.x5_model_replies.specs.Replies as placed
use Rattle.x5_model_replies.specs.Replies.{is_long, RightReply}
use Rattle.x5_model_run.proofs.Growing.{all_grow}
use Rattle.x5_model_serve.specs.Answering.{is_service, is_unavailable}
use Rattle.x5_model_serve.specs.Serving.{limit_reply}
use Rattle.x5_model_serve.specs.Claims.{Grows}
use Rattle.x5_model_lasting.specs.Lasting.{RightStays, ResultStays, TellerStays, IsSilent, Unaltered, RightLasts}
use Rattle.x5_model_lasting.proofs.Lines.{grown, some_more, heard_stays, untried_stays, lost_stays, blocked_stays}

-- ---- results

module _ (p : Point) (s : Scene) (q : Asked) (i j : Journal) (grows : Grows i j) where
  still : (test : Line → Bool) → hears_by test q i.lines ≡ true → hears_by test q j.lines ≡ true
  still test = heard_stays test q i j grows

  pub found_stays : is_found s q i.lines ≡ true → is_found s q j.lines ≡ true
  found_stays e = elim (either_true (is_done q.message.progress) _ e) [
    | inl d ↦ or_left (is_done q.message.progress) _ d
    | inr h ↦ or_right (is_done q.message.progress) _ (still (λ l. ends_here (s.holdings l.receiver) l.message) h)
  ]

  pub source_stays : (x : Source) → is_source p q i.lines x ≡ true → is_source p q j.lines x ≡ true
  source_stays x e =
      let b = both_true (hears q i.lines x.agent) (is_holder p q x x.moment) e in
      and_true (hears q j.lines x.agent) (is_holder p q x x.moment) (still (λ l. l.receiver == x.agent) b.0) b.1

  blocked_all : (rs : List Reference) → AllByRecursion (Blocked s q i.lines) rs → AllByRecursion (Blocked s q j.lines) rs
  blocked_all [] h = tt
  blocked_all (r ∷ rs) h = (blocked_stays s q r i j grows h.0, blocked_all rs h.1)

pub result_stays : ResultStays
result_stays p s q a i j g h = record {
  found = found_stays p s q i j g h.found;
  sources = all_grow (is_source p q i.lines) (is_source p q j.lines) (source_stays p s q i j g) (sources_of a) h.sources;
  spelled = h.spelled;
  once = h.once;
  exactly = h.exactly;
  answered = h.answered;
  blocked = blocked_all p s q i j g (unexplored_of a) h.blocked;
  completed = h.completed;
  apart = h.apart;
}

-- ---- who tells of an error

module _ (p : Point) (s : Scene) (q : Asked) (i j : Journal) (grows : Grows i j) where
  of_stays : (name : Name) (a : ℕ) → hears_of q i.lines name a ≡ true → hears_of q j.lines name a ≡ true
  of_stays name a = heard_stays (λ l. (l.receiver == a) && is_for name l) q i j grows

  some_stays : (name : Name) (o : Option ℕ) → some_and (hears_of q i.lines name) o ≡ true → some_and (hears_of q j.lines name) o ≡ true
  some_stays name None e = e
  some_stays name (Some a) e = of_stays name a e

  master_stays : (o : Option Named) → hears_master p q i.lines o ≡ true → hears_master p q j.lines o ≡ true
  master_stays None e = heard_stays (λ l. first_level_at (knowledge_at p) l.receiver && is_for q.message.target l) q i j grows e
  master_stays (Some x) e = some_stays q.message.target (master_at p (key_of x.name)) e

  below_stays : (k a : ℕ) → hears_below q i.lines k a ≡ true → hears_below q j.lines k a ≡ true
  below_stays k a = heard_stays (λ l. (l.receiver == a) && (same_progress l.message.progress
      (Next k) && is_for q.message.target l)) q i j grows

  nssr_stays : (o : Option Named) → hears_nssr p s q i.lines o ≡ true → hears_nssr p s q j.lines o ≡ true
  nssr_stays None e = refl
  nssr_stays (Some x) e = elim (either_true (same_name x.name q.message.target) _ e) [
    | inl h ↦ or_left (same_name x.name q.message.target) _ h
    | inr h ↦ or_right (same_name x.name q.message.target) _
        (all_grow (hears_below q i.lines (length x.name + 1)) (hears_below q j.lines (length x.name + 1))
        (below_stays (length x.name + 1)) (nssr_agents p s x) h)
  ]

  pin_stays : (name : Name) → hears_pin p s q i.lines name ≡ true → hears_pin p s q j.lines name ≡ true
  pin_stays name e = elim (either_true (not (is_pin p (key_of name))) _ e) [
    | inl h ↦ or_left (not (is_pin p (key_of name))) _ h
    | inr h ↦ or_right (not (is_pin p (key_of name))) _
        (elim (either_true (some_and (λ o. knows s q.message.request o (key_of name)) (master_at p (key_of q.message.target))) _ h) [
          | inl k ↦ or_left (some_and (λ o. knows s q.message.request o (key_of name)) (master_at p (key_of q.message.target))) _ k
          | inr k ↦ or_right (some_and (λ o. knows s q.message.request o (key_of name)) (master_at p (key_of q.message.target))) _
              (some_stays name (master_of (knowledge_at p) (key_of name)) k)
        ])
  ]

  new_stays : (o : Option Name) → in_option true (hears_pin p s q i.lines) o ≡ true → in_option true (hears_pin p s q j.lines) o ≡ true
  new_stays None e = refl
  new_stays (Some name) e = pin_stays name e

  taken_stays : (x : DirError) → hears_taken p s q i.lines x ≡ true → hears_taken p s q j.lines x ≡ true
  taken_stays (NoSuchObject n) e = refl
  taken_stays (AttributeProblem n kind) e = refl
  taken_stays (ServiceProblem n r t) e = refl
  taken_stays (UpdateProblem n) e = elim (either_true (not (n == entry_already_exists)) _ e) [
    | inl h ↦ or_left (not (n == entry_already_exists)) _ h
    | inr h ↦ or_right (not (n == entry_already_exists)) _ (new_stays (new_name q.message.request.body) h)
  ]

  pub told_stays : (x : DirError) → is_told p s q i.lines x ≡ true → is_told p s q j.lines x ≡ true
  told_stays x e = elim (either_true (is_some (fault_of q.message.request.body)) _ e) [
    | inl h ↦ or_left (is_some (fault_of q.message.request.body)) _ h
    | inr h ↦ (let b = both_true (hears_master p q i.lines (lowest (tree_at p).entries (key_of q.message.target))) _ h in
        let c = both_true (hears_nssr p s q i.lines (lowest (tree_at p).entries (key_of q.message.target)))
        (hears_taken p s q i.lines x) b.1 in
        or_right (is_some (fault_of q.message.request.body)) _
        (and_true (hears_master p q j.lines (lowest (tree_at p).entries (key_of q.message.target))) _
        (master_stays (lowest (tree_at p).entries (key_of q.message.target)) b.0)
        (and_true (hears_nssr p s q j.lines (lowest (tree_at p).entries (key_of q.message.target))) (hears_taken p s q j.lines x)
        (nssr_stays (lowest (tree_at p).entries (key_of q.message.target)) c.0) (taken_stays x c.1))))
  ]

pub teller_stays : TellerStays
teller_stays p s q x i j g = told_stays p s q i j g x

-- ---- right replies

true_false : {X : Type 0} (b : Bool) → b ≡ true → b ≡ false → X
true_false b e f = (let g : true ≡ false = sym e ∙ f in cc)

module _ (p : Point) (s : Scene) (q : Asked) (i j : Journal) (grows : Grows i j) (more : (a : ℕ) → In a i.accepted → In a j.accepted) where
  has_more : (a : ℕ) → has ◌==◌ i.accepted a ≡ true → has ◌==◌ j.accepted a ≡ true
  has_more a e = has_in ◌==◌ Decides-eqb a j.accepted (more a (of_has ◌==◌ Decides-eqb a i.accepted e))

  came : is_answered q i.lines ≡ true → is_answered q j.lines ≡ true
  came = grown (λ lines. is_answered q lines ≡ true) (λ l lines e. or_right _ _ e) i j grows

  changed_stays : hears_accepted s q i ≡ true → hears_accepted s q j ≡ true
  changed_stays e =
      some_more (λ l before. (has ◌==◌ i.accepted l.receiver && carries_update s l) && came_back q l before)
      (λ l before. (has ◌==◌ j.accepted l.receiver && carries_update s l) && came_back q l before) one j.lines
      (heard_stays (λ l. has ◌==◌ i.accepted l.receiver && carries_update s l) q i j grows e)
    where
      one : (l : Line) (before : List Line)
          → ((has ◌==◌ i.accepted l.receiver && carries_update s l) && came_back q l before) ≡ true
          → ((has ◌==◌ j.accepted l.receiver && carries_update s l) && came_back q l before) ≡ true
      one l before h =
          let b = both_true (has ◌==◌ i.accepted l.receiver && carries_update s l) (came_back q l before) h in
          let c = both_true (has ◌==◌ i.accepted l.receiver) (carries_update s l) b.0 in
          and_true (has ◌==◌ j.accepted l.receiver && carries_update s l) (came_back q l before)
          (and_true (has ◌==◌ j.accepted l.receiver) (carries_update s l) (has_more l.receiver c.0) c.1) b.1

  loss_stays : not (heard_whole i.lines) ≡ true → not (heard_whole j.lines) ≡ true
  loss_stays = grown (λ lines. not (heard_whole lines) ≡ true) (λ l lines e. step l lines e) i j grows
    where
      step : (l : Line) (lines : List Line) → not (heard_whole lines) ≡ true → not (heard_whole (l ∷ lines)) ≡ true
      step l lines e = by (is_noreply l.fate) (list_any (λ x. is_noreply x.fate) lines) e
        where
          by : (a b : Bool) → not (not b) ≡ true → not (not (a || b)) ≡ true
          by true b f = refl
          by false b f = f

  -- as many accepted
  none_stays : length j.accepted ≡ length i.accepted → accepts_none q i ≡ true → accepts_none q j ≡ true
  none_stays same e = ap (λ n. n == q.stood) same ∙ e

  nothing_new : length j.accepted ≡ length i.accepted → (accepts_none q i || not (heard_whole i.lines)) ≡ true
      → (accepts_none q j || not (heard_whole j.lines)) ≡ true
  nothing_new same none = elim (either_true (accepts_none q i) (not (heard_whole i.lines)) none) [
    | inl e ↦ or_left (accepts_none q j) (not (heard_whole j.lines)) (none_stays same e)
    | inr e ↦ or_right (accepts_none q j) (not (heard_whole j.lines)) (loss_stays e)
  ]

  same_count : (reply : Reply) → length j.accepted ≡ length i.accepted → Right p s q i reply → Right p s q j reply
  same_count _ same (right.result on res query none) = right.result (came on) (result_stays p s q _ i j grows res) query
      (none_stays same none)
  same_count _ same (right.changed on update some) = right.changed (came on) update (changed_stays some)
  same_count _ same (right.error {x} on t o none) = right.error (came on) t (teller_stays p s q x i j grows o) (none_stays same none)
  same_count _ same (right.referral {r} u phase none) = right.referral (untried_stays s q r i j grows u) phase (none_stays same none)
  same_count _ same (right.unheard {r} l phase none) = right.unheard (lost_stays s q r i j grows l) phase
      (nothing_new same none)

  is_changed : (reply : Reply) → reply ≡ Answered Changed → is_update q.message.request.body ≡ true → Right p s q i reply
      → Right p s q j reply
  is_changed _ same update (right.result on res query none) = (let f = not_true (is_update q.message.request.body) query in cc)
  is_changed _ same update (right.changed on known some) = right.changed (came on) update (changed_stays some)
  is_changed _ same update (right.error {x} on t o none) = cc
  is_changed _ same update (right.referral {r} u phase none) = cc
  is_changed _ same update (right.unheard {r} l phase none) = cc

  is_silent_still : (reply : Reply) → IsSilent reply j → ((x : DirError) → told (λ key. false) (tree_at p) q.message ≡ Refuses x → ⊥)
      → Right p s q i reply → Right p s q j reply
  is_silent_still _ silent no_error (right.result on res query none) = absurd (elim silent [
    | inl u ↦ true_false false u.0 refl
    | inr e ↦ true_false false e refl
  ])
  is_silent_still _ silent no_error (right.changed on update some) = right.changed (came on) update (changed_stays some)
  is_silent_still _ silent no_error (right.error {x} on t o none) = absurd (no_error x t)
  is_silent_still _ silent no_error (right.referral {r} u phase none) = absurd (elim silent [
    | inl v ↦ true_false false v.0 refl
    | inr e ↦ true_false false e refl
  ])
  is_silent_still _ silent no_error (right.unheard {r} l phase none) = elim silent [
    | inl v ↦ right.unheard (lost_stays s q r i j grows l) phase (or_right (accepts_none q j) (not (heard_whole j.lines)) (ap not v.1))
    | inr e ↦ true_false (is_service unable_to_proceed (is_unavailable r)) e refl
  ]

  pub right_lasts_by : (reply : Reply) → Unaltered p q reply i j → Right p s q i reply → Right p s q j reply
  right_lasts_by reply (inl same) r = same_count reply same r
  right_lasts_by reply (inr (inl e)) r = is_changed reply e.0 e.1 r
  right_lasts_by reply (inr (inr x)) r = is_silent_still reply x.0 x.1 r

  long_stays : is_long q i.lines ≡ true → is_long q j.lines ≡ true
  long_stays e = elim (either_true (length q.message.trace == 128) (hears_by (λ l. depth l == 128) q i.lines) e) [
    | inl h ↦ or_left (length q.message.trace == 128) (hears_by (λ l. depth l == 128) q j.lines) h
    | inr h ↦ or_right (length q.message.trace == 128) (hears_by (λ l. depth l == 128) q j.lines)
        (heard_stays (λ l. depth l == 128) q i j grows h)
  ]

  -- what a limit says of acceptance
  limit_silent : Unaltered p q limit_reply i j → (accepts_none q i || not (heard_whole i.lines)) ≡ true
      → (accepts_none q j || not (heard_whole j.lines)) ≡ true
  limit_silent (inl same) none = nothing_new same none
  limit_silent (inr (inl e)) none = (let f = e.0 in cc)
  limit_silent (inr (inr x)) none = elim x.0 [
    | inl v ↦ or_right (accepts_none q j) (not (heard_whole j.lines)) (ap not v.1)
    | inr e ↦ true_false (is_service unable_to_proceed limit_reply) e refl
  ]

  pub limit_stays : (spent later : Bool) → (spent ≡ true → later ≡ true) → Unaltered p q limit_reply i j → is_answered q i.lines ≡ true
      → (spent || is_long q i.lines) ≡ true → (accepts_none q i || not (heard_whole i.lines)) ≡ true → RightReply p s q j later limit_reply
  limit_stays spent later spend same on long none = placed.limit (came on) (elim (either_true spent (is_long q i.lines) long) [
    | inl e ↦ or_left later (is_long q j.lines) (spend e)
    | inr e ↦ or_right later (is_long q j.lines) (long_stays e)
  ]) (limit_silent same none)

pub right_lasts : RightLasts
right_lasts p s q reply spent later i j g more spend same r = by reply same r
  where
    by : (y : Reply) → Unaltered p q y i j → RightReply p s q i spent y → RightReply p s q j later y
    by y same (placed.usual able r) = placed.usual able (right_lasts_by p s q i j g more y same r)
    by _ same (placed.unable h) = placed.unable h
    by _ same (placed.limit on long none) = limit_stays p s q i j g more spent later spend same on long none

pub right_stays : RightStays
right_stays p s q j l spent reply r = right_lasts p s q reply spent spent j (record j { lines = l ∷ j.lines }) (l ∷ [], refl) (λ a i. i)
    (λ e. e) (inl refl) r
