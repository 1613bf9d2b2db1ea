-- What agents hold while a request is under way: what the relation says of its scene and its journal.
use Rattle.std.proofs.Common.{◌≡◌, ℕ, zero, suc, ◌+◌, ◌<◌, ◌≤◌, ◌==◌, ◌||◌, ◌&&◌, Bool, true, false, not, cond, nat_lt, inl, inr, List, [], ◌∷◌, ◌++◌, length, map, reverse, slice_get, slice_set, refl, sym, ap, subst, ◌∙◌, arith, Option, Some, None}
use Rattle.std.specs.Prelude.{if◌then◌else◌, ◌⊎◌}
use Rattle.std.proofs.lemmas.Bool.{lt-ltb}
use Rattle.std.proofs.lemmas.Grind.{reverse_onto}
use Rattle.std.proofs.lemmas.List.{reverse-append}
use Rattle.std.proofs.lemmas.List.Folds.{list_all-append}
use Rattle.x5_model.specs.Words.{has, in_option}
use Rattle.x5_model.proofs.Decide.{nat_same_decides}
use Rattle.x5_model.proofs.Lists.{both_true, and_true, true_or_false}
use Rattle.x5_model.specs.References.{Chained}
use Rattle.x5_model.specs.Requests.{Controls, Request, Body, Read, Compare, ListBelow, Search, AddEntry, RemoveEntry, ModifyEntry, ModifyDn}
use Rattle.x5_model_tree.specs.Ask.{is_update}
use Rattle.x5_model_run.specs.Holdings.{Holdings}
use Rattle.x5_model_run.specs.History.{no_holdings}
use Rattle.x5_model_run.specs.Journal.{Journal}
use Rattle.x5_model_run.specs.Chain.{Scene}
use Rattle.x5_model_run.specs.Needs.{due_probes}
use Rattle.x5_model_serve.specs.Committed.{committed}
use Rattle.x5_model_serve.specs.Finding.{find}
use Rattle.x5_model_serve.specs.Serving.{Hand, hand, holds_now, with_accepted}
use Rattle.x5_model_heard.specs.Told.{KnowsAgents, are_agents, name_agents}
use Rattle.x5_ops.specs.ReferenceViews.{chained_view}
use Rattle.x5_ops.specs.RequestViews.{name_of}
use Rattle.x5_ops.specs.declared.references.Chained as code
use Rattle.x5_ops.specs.declared.references.Reference.{Reference}
use Rattle.x5_serve.specs.Networks.{IsDue, IsFound, IsReady, IsVerdict}
use Rattle.x5_serve.specs.declared.network.Found.{Found}
use Rattle.x5_serve.specs.declared.network.Verdict.TheVariants.{Passed}
use Rattle.x5_update.specs.Judging as judging
use Rattle.x5_model_refreshed.specs.Steps.{step_of}
use Rattle.x5_world.specs.Logs.{AreNoted, Logs, no_logs}
use Rattle.x5_world.specs.State.{Net, HasShortNames, holdings_in, logs_in}
use Rattle.x5_world.specs.Sent.{IsChanged, IsCommittedAt, IsUnderWay, held_since, journal_of, line_view, scene_of}
use Rattle.x5_world.specs.declared.journal.Sent.{Sent}

-- ---- who accepted, in either order

or_comm : (b c : Bool) → (b || c) ≡ (c || b)
or_comm true true = refl
or_comm true false = refl
or_comm false true = refl
or_comm false false = refl

or_assoc : (b c d : Bool) → (b || (c || d)) ≡ ((b || c) || d)
or_assoc true c d = refl
or_assoc false c d = refl

or_none : (b : Bool) → (b || false) ≡ b
or_none true = refl
or_none false = refl

pub has_append : (xs ys : List ℕ) (a : ℕ) → has ◌==◌ (xs ++ ys) a ≡ (has ◌==◌ xs a || has ◌==◌ ys a)
has_append [] ys a = refl
has_append (x ∷ xs) ys a =
    ap (λ (b : Bool). (x == a) || b) (has_append xs ys a) ∙ or_assoc (x == a) (has ◌==◌ xs a) (has ◌==◌ ys a)

pub has_reverse : (xs : List ℕ) (a : ℕ) → has ◌==◌ (reverse xs) a ≡ has ◌==◌ xs a
has_reverse [] a = refl
has_reverse (x ∷ xs) a =
    ap (λ (ys : List ℕ). has ◌==◌ ys a) (reverse_onto xs x [])
    ∙ has_append (reverse xs) (x ∷ []) a
    ∙ ap (λ (b : Bool). has ◌==◌ (reverse xs) a || b) (or_none (x == a))
    ∙ or_comm (has ◌==◌ (reverse xs) a) (x == a)
    ∙ ap (λ (b : Bool). (x == a) || b) (has_reverse xs a)

-- ---- what is held

pub holds_is : (n now : Net) (first : ℕ) (m : Chained) (names : List (List ℕ)) (lines : List Sent) (accepted : List ℕ) (k : Hand)
    → IsChanged n now m.request accepted
    → holds_now (scene_of n first m) (journal_of names lines accepted) k ≡ holdings_in now k.receiver
holds_is n now first m names lines accepted k c =
    ap (λ (b : Bool). if b then committed m.request (holdings_in n k.receiver) else holdings_in n k.receiver)
    (has_reverse accepted k.receiver)
    ∙ sym (c.holds k.receiver)

pub in_place : (now : Net) (a : ℕ) (h : Holdings) → slice_get now.agents a ≡ Some h → holdings_in now a ≡ h
in_place now a h e = ap (in_option (no_holdings a) (λ (x : Holdings). x)) e

-- ---- an update is carried out alike whatever its controls, since no copy is of use to it

false_true : false ≡ true → ⊥
false_true e = cc

abbrev without : Controls → Controls
without c = record { nocopy = true; nochain = c.nochain; size = c.size }

no_copies : (b : Body) (c : Controls) (copies : Bool) (h : Holdings) → is_update b ≡ true → c.nocopy ≡ copies
    → committed (record { controls = c; body = b }) h ≡ committed (record { controls = without c; body = b }) h
no_copies b c true h u e =
    ap (λ (n : Bool). committed (record { controls = record { nocopy = n; nochain = c.nochain; size = c.size }; body = b }) h) e
no_copies (Read name selection) c false h u e = absurd (false_true u)
no_copies (Compare name assertion) c false h u e = absurd (false_true u)
no_copies (ListBelow name) c false h u e = absurd (false_true u)
no_copies (Search base subset f selection) c false h u e = absurd (false_true u)
no_copies (AddEntry name attributes) c false h u e =
    ap (λ (n : Bool). committed (record { controls = record { nocopy = n; nochain = c.nochain; size = c.size }; body = AddEntry name attributes }) h) e
no_copies (RemoveEntry name) c false h u e =
    ap (λ (n : Bool). committed (record { controls = record { nocopy = n; nochain = c.nochain; size = c.size }; body = RemoveEntry name }) h) e
no_copies (ModifyEntry name changes) c false h u e =
    ap (λ (n : Bool). committed (record { controls = record { nocopy = n; nochain = c.nochain; size = c.size }; body = ModifyEntry name changes }) h) e
no_copies (ModifyDn name rdn drops) c false h u e =
    ap (λ (n : Bool). committed (record { controls = record { nocopy = n; nochain = c.nochain; size = c.size }; body = ModifyDn name rdn drops }) h) e

pub committed_alike : (r q : Request) (h : Holdings) → r.body ≡ q.body → is_update q.body ≡ true
    → committed r h ≡ committed q h
committed_alike r q h e u =
    ap (λ (b : Body). committed (record { controls = r.controls; body = b }) h) e
    ∙ no_copies q.body r.controls r.controls.nocopy h u refl
    ∙ sym (no_copies q.body q.controls q.controls.nocopy h u refl)

-- ---- one more accepts the update

same_or_not : (a b : ℕ) → (a ≡ b) ⊎ ((a == b) ≡ false)
same_or_not a b = elim (true_or_false (a == b)) [ inl t ↦ inl ((nat_same_decides a b).0 t) | inr f ↦ inr f ]

itself : (a : ℕ) → (a == a) ≡ true
itself a = (nat_same_decides a a).1 refl

apart : (a b : ℕ) → (a == b) ≡ false → a ≡ b → ⊥
apart a b f e = false_true (sym f ∙ (nat_same_decides a b).1 e)

set_here : {A : Type 0} (hs : List A) (a : ℕ) (h : A) → a < length hs → slice_get (slice_set hs a h) a ≡ Some h
set_here [] a h l = absurd (omega (arith, l))
set_here (x ∷ xs) zero h l = refl
set_here (x ∷ xs) (suc a) h l = set_here xs a h (omega (arith, l))

set_there : {A : Type 0} (hs : List A) (a b : ℕ) (h : A) → (a ≡ b → ⊥)
    → slice_get (slice_set hs a h) b ≡ slice_get hs b
set_there [] a b h f = refl
set_there (x ∷ xs) zero zero h f = absurd (f refl)
set_there (x ∷ xs) zero (suc b) h f = refl
set_there (x ∷ xs) (suc a) zero h f = refl
set_there (x ∷ xs) (suc a) (suc b) h f = set_there xs a b h (λ e. f (ap suc e))

as_many : {A : Type 0} (hs : List A) (a : ℕ) (h : A) → length (slice_set hs a h) ≡ length hs
as_many [] a h = refl
as_many (x ∷ xs) zero h = refl
as_many (x ∷ xs) (suc a) h = ap suc (as_many xs a h)

-- what is noted of an update is by what it does, whatever its controls
noted_alike : (moment : ℕ) (r q : Request) (h : Holdings) (old new : Logs) → q.body ≡ r.body
    → AreNoted moment q h old new → AreNoted moment r h old new
noted_alike moment r q h old new e n = record {
  place = n.place;
  context = n.context;
  notes = n.notes;
  step = n.step;
  held = n.held;
  kept = n.kept;
  told = ap (step_of n.context.entries) (sym e) ∙ n.told;
  new_is = n.new_is;
}

-- the agent, which has accepted none, does the update that is the user's
module _ (n now new : Net) (r q : Request) (accepted : List ℕ) (me : ℕ) (c : IsChanged n now r accepted)
    (fresh : has ◌==◌ accepted me ≡ false) (there : me < length now.agents) (alike : q.body ≡ r.body)
    (update : is_update r.body ≡ true)
    (is : IsCommittedAt me q now new) where
  abbrev done : Net
  done = record now { agents = slice_set now.agents me (committed q (holdings_in now me)) }

  before : holdings_in now me ≡ holdings_in n me
  before =
      c.holds me
      ∙ ap (λ (b : Bool). if b then committed r (holdings_in n me) else holdings_in n me) fresh

  more : (a : ℕ) → has ◌==◌ (accepted ++ me ∷ []) a ≡ (has ◌==◌ accepted a || (me == a))
  more a = has_append accepted (me ∷ []) a ∙ ap (λ (b : Bool). has ◌==◌ accepted a || b) (or_none (me == a))

  abbrev by : (a : ℕ) → Bool → Holdings
  by a b = if b then committed r (holdings_in n a) else holdings_in n a

  or_true : (b : Bool) → (b || true) ≡ true
  or_true true = refl
  or_true false = refl

  at_me : holdings_in done me ≡ held_since (accepted ++ me ∷ []) r me (holdings_in n me)
  at_me =
      ap (in_option (no_holdings me) (λ (x : Holdings). x))
      (set_here now.agents me (committed q (holdings_in now me)) there)
      ∙ committed_alike q r (holdings_in now me) alike update
      ∙ ap (committed r) before
      ∙ ap (by me)
      (sym (more me ∙ ap (λ (b : Bool). has ◌==◌ accepted me || b) (itself me) ∙ or_true (has ◌==◌ accepted me)))

  at_other : (a : ℕ) → (me == a) ≡ false → holdings_in done a ≡ held_since (accepted ++ me ∷ []) r a (holdings_in n a)
  at_other a f =
      ap (in_option (no_holdings a) (λ (x : Holdings). x))
      (set_there now.agents me a (committed q (holdings_in now me)) (apart me a f))
      ∙ c.holds a
      ∙ ap (by a)
      (sym (more a ∙ ap (λ (b : Bool). has ◌==◌ accepted a || b) f ∙ or_none (has ◌==◌ accepted a)))

  at_each : (a : ℕ) → holdings_in done a ≡ held_since (accepted ++ me ∷ []) r a (holdings_in n a)
  at_each a = elim (same_or_not me a) [
    | inl e ↦ subst (λ (b : ℕ). holdings_in done b ≡ held_since (accepted ++ me ∷ []) r b (holdings_in n b)) e at_me
    | inr f ↦ at_other a f
  ]

  -- and has noted it, where all others have the logs that they had
  abbrev AreNotedBy : ℕ → Logs → Type 0
  AreNotedBy a new_logs = AreNoted (n.line + 1) r (holdings_in n a) (logs_in n a) new_logs

  it_has : has ◌==◌ (accepted ++ me ∷ []) me ≡ true
  it_has = more me ∙ ap (λ (b : Bool). has ◌==◌ accepted me || b) (itself me) ∙ or_true (has ◌==◌ accepted me)

  others_have : (a : ℕ) → (me == a) ≡ false → has ◌==◌ (accepted ++ me ∷ []) a ≡ has ◌==◌ accepted a
  others_have a f = more a ∙ ap (λ (b : Bool). has ◌==◌ accepted a || b) f ∙ or_none (has ◌==◌ accepted a)

  noted_at_me : AreNotedBy me (logs_in new me)
  noted_at_me =
      let same : logs_in now me ≡ logs_in n me = c.others me fresh in
      let line : now.line ≡ n.line = ap (λ (x : Net). x.line) c.rest in
      noted_alike (n.line + 1) r q (holdings_in n me) (logs_in n me) (logs_in new me) alike
      (subst (λ (k : ℕ). AreNoted (k + 1) q (holdings_in n me) (logs_in n me) (logs_in new me)) line
      (subst (λ (h : Holdings). AreNoted (now.line + 1) q h (logs_in n me) (logs_in new me)) before
      (subst (λ (l : Logs). AreNoted (now.line + 1) q (holdings_in now me) l (logs_in new me)) same is.noted)))

  logs_at_other : (a : ℕ) → (me == a) ≡ false → logs_in new a ≡ logs_in now a
  logs_at_other a f =
      ap (λ (ls : List Logs). in_option no_logs (λ (l : Logs). l) (slice_get ls a)) is.logs
      ∙ ap (in_option no_logs (λ (l : Logs). l)) (set_there now.logs me a (logs_in new me) (apart me a f))

  noted_at_each : (a : ℕ) → has ◌==◌ (accepted ++ me ∷ []) a ≡ true → ∥ AreNotedBy a (logs_in new a) ∥₁
  noted_at_each a h = elim (same_or_not me a) [
    | inl e ↦ subst (λ (b : ℕ). ∥ AreNotedBy b (logs_in new b) ∥₁) e ∣ noted_at_me ∣₁
    | inr f ↦
        subst (λ (l : Logs). ∥ AreNotedBy a l ∥₁) (sym (logs_at_other a f)) (c.notes a (sym (others_have a f) ∙ h))
  ]

  logs_at_each : (a : ℕ) → has ◌==◌ (accepted ++ me ∷ []) a ≡ false → logs_in new a ≡ logs_in n a
  logs_at_each a h = elim (same_or_not me a) [
    | inl e ↦
        absurd (false_true (sym h ∙ subst (λ (b : ℕ). has ◌==◌ (accepted ++ me ∷ []) b ≡ true) e it_has))
    | inr f ↦ logs_at_other a f ∙ c.others a (sym (others_have a f) ∙ h)
  ]

  pub one_more_changed : IsChanged n new r (accepted ++ me ∷ [])
  one_more_changed = record {
    rest = is.rest ∙ ap (λ (x : Net). record x { agents = new.agents; logs = new.logs }) c.rest;
    count = ap length is.agents ∙ as_many now.agents me (committed q (holdings_in now me)) ∙ c.count;
    kept = ap length is.logs ∙ as_many now.logs me (logs_in new me) ∙ c.kept;
    holds = λ a. ap (λ (hs : List Holdings). in_option (no_holdings a) (λ (h : Holdings). h) (slice_get hs a)) is.agents
        ∙ at_each a;
    notes = noted_at_each;
    others = logs_at_each;
  }

-- ---- names of 16 RDNs at most

pub short_name : (b : Body) → HasShortNames b → length (name_of b) ≤ 16
short_name (Read name selection) s = s.target
short_name (Compare name assertion) s = s.target
short_name (ListBelow name) s = s.target
short_name (Search base subset f selection) s = s.target
short_name (AddEntry name attributes) s = s.new_name name refl
short_name (RemoveEntry name) s = s.target
short_name (ModifyEntry name changes) s = s.target
short_name (ModifyDn name rdn drops) s = s.target

-- ---- what is found, where names and places are equal

pub found_there : (s : Scene) (j : Journal) (names ns : List (List ℕ)) (me a : ℕ) (h : Holdings) (m : code.Chained)
    (found : Found) → names ≡ ns → me ≡ a
    → ((t : Scene) (l : Journal) → holds_now t l (hand me (chained_view names m)) ≡ h
    → IsFound t names l (hand me (chained_view names m)) found)
    → holds_now s j (hand a (chained_view ns m)) ≡ h → IsFound s ns j (hand a (chained_view ns m)) found
found_there s j names ns me a h m found e f given held =
    subst (λ (xs : List (List ℕ)). IsFound s xs j (hand a (chained_view xs m)) found) e
    (subst (λ (k : ℕ). IsFound s names j (hand k (chained_view names m)) found) f
    (given s j (subst (λ (k : ℕ). holds_now s j (hand k (chained_view names m)) ≡ h) (sym f)
    (subst (λ (xs : List (List ℕ)). holds_now s j (hand a (chained_view xs m)) ≡ h) (sym e) held))))

-- ---- an update that is due is due by what is held

pub due_here : (s : Scene) (j : Journal) (k : Hand) (h : Holdings) → holds_now s j k ≡ h → IsDue s j k
    → judging.IsDue h k.message
due_here s j k h e d = record {
  update = d.update;
  unrefused = d.arrives.unrefused;
  fit = d.arrives.fit;
  context = d.context;
  found = ap (λ (x : Holdings). find x k.message) (sym e) ∙ d.found;
}

pub ready_here : (s : Scene) (j : Journal) (k : Hand) (h : Holdings) → holds_now s j k ≡ h → IsReady s j k
    → judging.IsReady h k.message
ready_here s j k h e r = record {
  due = due_here s j k h e r.due;
  made = r.made;
  passed = ap (λ (x : Holdings). judging.judged x k.message.request) (sym e) ∙ r.passed;
}

pub short_update : (s : Scene) (j : Journal) (k : Hand) → HasShortNames s.message.request.body → IsDue s j k
    → length (name_of k.message.request.body) ≤ 16
short_update s j k short d =
    subst (λ (b : Body). length (name_of b) ≤ 16) (sym (d.of_user.update d.update)) (short_name s.message.request.body short)

pub probes_known : (n : ℕ) (s : Scene) (j : Journal) (k : Hand) (h : Holdings) → holds_now s j k ≡ h → KnowsAgents n s
    → nat_lt k.receiver n ≡ true → name_agents n (due_probes h k.message) ≡ true
probes_known n s j k h e knows there =
    ap (λ (x : Holdings). name_agents n (due_probes x k.message)) (sym e) ∙ knows.probes j k there

-- ---- what a verdict tells

pub passed_is : (s : Scene) (names : List (List ℕ)) (j : Journal) (k : Hand) (probe : Option Reference)
    → judging.IsPassed names (holds_now s j k) k.message probe → IsVerdict s names j k (Passed probe)
passed_is s names j k None p = (p.made, p.passed, p.due)
passed_is s names j k (Some r) p = (p.made, p.passed, p.due)

-- ---- one more accepts the update

pub accepting_more : (names : List (List ℕ)) (lines : List Sent) (accepted more : List ℕ) (me : ℕ) → more ≡ accepted ++ me ∷ []
    → journal_of names lines more ≡ with_accepted me (journal_of names lines accepted)
accepting_more names lines accepted more me e =
    ap (journal_of names lines) e
    ∙ ap (λ (xs : List ℕ). record { lines = reverse (map (line_view names) lines); accepted = xs })
    (reverse-append accepted (me ∷ []))

pub still_with : (n now new : Net) (first : ℕ) (m : Chained) (most : ℕ) (lines : List Sent) (accepted more : List ℕ)
    (me : ℕ) (msg : Chained)
    → IsUnderWay n now first m most lines accepted → me < length n.names
    → IsReady (scene_of n first m) (journal_of n.names lines accepted) (hand me msg)
    → IsCommittedAt me msg.request now new
    → more ≡ accepted ++ me ∷ [] → IsUnderWay n new first m most lines more
still_with n now new first m most lines accepted more me msg w there ready is e =
    let same : msg.request.body ≡ m.request.body = ready.due.of_user.update ready.due.update in
    let within : me < length now.agents =
    (let a = w.changed.count in let b = w.net.count in omega (arith, there, a, b)) in
    subst (IsUnderWay n new first m most lines) (sym e)
    (record {
      net = w.net;
      changed = one_more_changed n now new m.request msg.request accepted me w.changed
          (sym (has_reverse accepted me) ∙ ready.fresh) within same (sym (ap is_update same) ∙ ready.due.update) is;
      there = w.there;
      short = w.short;
      request = w.request;
      room = w.room;
      within = w.within;
      counted = w.counted;
      journal = w.journal;
      agents = list_all-append (λ a. nat_lt a (length n.names)) accepted (me ∷ [])
          ∙ and_true (are_agents (length n.names) accepted) (are_agents (length n.names) (me ∷ [])) w.agents
          (and_true (nat_lt me (length n.names)) true (lt-ltb me (length n.names) there) refl);
    })

-- ---- an update that was done before

pub all_three : (u h r x : Bool) → u ≡ true → h ≡ true → x ≡ r → x ≡ (u && (h && r))
all_three true true r x e f same = same
all_three true false r x e f same = absurd (false_true f)
all_three false h r x e f same = absurd (false_true e)

pub neither_nor : (v x y : Bool) → false ≡ true → x ≡ y
neither_nor v x y e = absurd (false_true e)

pub no_second : (v u h r : Bool) → v ≡ false → h ≡ false → v ≡ (u && (h && r))
no_second v true h r e f = e ∙ sym (ap (λ (b : Bool). b && r) f)
no_second v false h r e f = e

pub first_none : (v u x : Bool) → v ≡ false → u ≡ false → v ≡ (u && x)
first_none v u x e f = e ∙ sym (ap (λ (b : Bool). b && x) f)
