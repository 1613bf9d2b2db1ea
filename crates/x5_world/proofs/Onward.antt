-- The network after a refresh is that of the next line.
use Rattle.std.proofs.Common.{◌≡◌, ℕ, zero, suc, ◌+◌, ◌≤◌, ◌==◌, ◌&&◌, ◌⊎◌, inl, inr, Bool, true, false, if◌then◌else◌, List, [], ◌∷◌, length, map, slice_get, slice_set, refl, sym, ap, subst, ◌∙◌, arith, Option, Some, Ok}
use Rattle.std.specs.List.{find}
use Rattle.std.proofs.lemmas.List.{map-set}
use mathlib.Core.Path.{fun_ext}
use Rattle.x5_model.specs.Words.{in_option}
use Rattle.x5_model.specs.Members.{In}
use Rattle.x5_model.specs.Keys.{Key}
use Rattle.x5_model.specs.Values.{key_of}
use Rattle.x5_model.proofs.Decide.{nat_same_decides}
use Rattle.x5_model.proofs.Lists.{true_or_false}
use Rattle.x5_model_tree.specs.World.{Agreement}
use Rattle.x5_model_tree.specs.Consistent.{IsConsistent}
use Rattle.x5_model_run.specs.Holdings.{Copy, Holdings}
use Rattle.x5_model_run.specs.History.{Nothing, Refreshes, Point, Refreshed, acked, as_of, copy_by, holdings_at, knowledge_at, moment_of, no_holdings, sent_before}
use Rattle.x5_model_run.specs.Refresh.{base_of, changes_at}
use Rattle.x5_model_run.specs.Refresh as refresh
use Rattle.x5_model_settled.proofs.Held.{held_is_holdings, held_on}
use Rattle.x5_model_verdicts.specs.Committing.{IsStamped}
use Rattle.x5_model_refreshed.specs.Logs.{log_at, stamped, steps_later}
use Rattle.x5_model_refreshed.specs.Growing.{after_deed}
use Rattle.x5_model_refreshed.specs.Lengthening.{base_noting, kept_noting}
use Rattle.x5_model_refreshed.specs.Refreshed.{after_refresh}
use Rattle.x5_model_refreshed.specs.Renewing.{renewed}
use Rattle.x5_model_refreshed.specs.Replaying.{IsBrought, IsLed}
use Rattle.x5_model_refreshed.proofs.Acked.{acked_at_place, stamp_is_acked}
use Rattle.x5_model_refreshed.proofs.Lengths.{steps_lengthen_log, total_begins_log}
use Rattle.x5_model_refreshed.proofs.Placing.{copies_have_places}
use Rattle.x5_model_refreshed.proofs.Renewal.{consumer_is_renewed, others_hold_on}
use Rattle.x5_ops.specs.declared.knowledge.Content.{Content}
use Rattle.x5_ops.specs.declared.knowledge.Step.{Step as CodeStep}
use Rattle.x5_holdings.specs.State.{CopyKept, State, copy_view, holdings_view}
use Rattle.x5_consume.specs.Steps.{steps_view}
use Rattle.x5_consume.specs.Taken.{IsAdvanced, IsReplaced}
use Rattle.x5_refresh.specs.declared.brought.Brought.{Brought}
use Rattle.x5_refresh.specs.declared.brought.Brought.TheVariants.{Total, Steps}
use Rattle.x5_refresh.specs.Sent.{IsRefreshed, supply_of}
use Rattle.x5_world.specs.Logs.{Logs, Notes, logs_at, no_logs, notes_at}
use Rattle.x5_world.specs.LogViews.{copy_notes, logs_view, notes_view}
use Rattle.x5_world.specs.State.{Net, StandsAt, holdings_in, logs_in}
use Rattle.x5_world.specs.Refreshing.{IsTakenAt, acknowledging}
use Rattle.x5_world.proofs.Acceptable.{no_steps, no_total, stamp_sent, steps_since, whole_sent}
use Rattle.x5_world.proofs.Copied.{advanced_so, began, content_so, noted_all, replaced_so}
use Rattle.x5_world.proofs.Courses.{held_so, led_at, map_at, some_is}
use Rattle.x5_world.proofs.Keeping.{logs_stay}
use Rattle.x5_world.proofs.Longer.{consumer_logs, others_logs}
use Rattle.x5_world.proofs.Within.{one_more_within}
use Rattle.x5_world.proofs.Suppliers.{copies_noted_at}

-- ---- after nothing

later : (m k : ℕ) → m ≤ k → m ≤ suc k
later m k l = omega (arith, l)

one_line : (x k n : ℕ) → x ≡ k → k ≡ n → x + 1 ≡ suc n
one_line x k n e f = omega (arith, e, f)

more_sent : (x y k : ℕ) → x ≡ y → x + k ≡ k + y
more_sent x y k e = omega (arith, e)

pub after_nothing : (old new : Net) (p : Point) (k : ℕ) → StandsAt old p
    → new ≡ record old { sent = old.sent + k; line = old.line + 1 } → StandsAt new (after_deed p Nothing k)
after_nothing old new p k s e = subst (λ (n : Net). StandsAt n (after_deed p Nothing k)) (sym e) (record {
  described = s.described;
  unmoved = (tt, s.unmoved);
  stamped = λ consistent g m i at. later m (length p.past) (s.stamped consistent g m i at);
  names = s.names;
  holds = λ a. s.holds a ∙ sym (held_on p.described p.past (record { deed = Nothing; sent = k }) a refl);
  network = s.network;
  sent = more_sent old.sent (sent_before p.past) k s.sent;
  contexts = s.contexts;
  pairs = s.pairs;
  agreements = s.agreements;
  acked = s.acked;
  line = one_line old.line old.line (length p.past) refl s.line;
  happened = λ consistent. (tt, s.happened consistent);
  logs = λ consistent a. s.logs consistent a ∙ sym (logs_stay p Nothing k a tt);
  within = one_more_within p (record { deed = Nothing; sent = k }) tt s.within;
})

-- ---- lists of which one place was set

set_got : {A : Type 0} (xs : List A) (i : ℕ) (x y : A) → slice_get xs i ≡ Some x → slice_get (slice_set xs i y) i ≡ Some y
set_got [] i x y e = cc
set_got (z ∷ zs) zero x y e = refl
set_got (z ∷ zs) (suc i) x y e = set_got zs i x y e

set_other : {A : Type 0} (xs : List A) (i j : ℕ) (y : A) → ((j ≡ i) → ⊥) → slice_get (slice_set xs i y) j ≡ slice_get xs j
set_other [] i j y d = refl
set_other (z ∷ zs) zero zero y d = absurd (d refl)
set_other (z ∷ zs) zero (suc j) y d = refl
set_other (z ∷ zs) (suc i) zero y d = refl
set_other (z ∷ zs) (suc i) (suc j) y d = set_other zs i j y (λ e. d (ap suc e))

-- ---- what a consumer has taken

module _ (old : Net) (p : Point) (g : Agreement) (total : Bool) (last : Option ℕ) (m : ℕ) (b : Brought) (f : Refreshed) (k : ℕ)
    (s : StandsAt old p) (consistent : IsConsistent p.described) (state : State)
    (holds : holdings_view state ≡ holdings_at p g.supplier) (logs : logs_view state ≡ logs_at p g.supplier)
    (moment : state.moment ≡ moment_of p) (mine : In g (knowledge_at p).agreements)
    (found : find (λ (a : Agreement). a.number == g.number) (knowledge_at p).agreements ≡ Some g)
    (peer : total ≡ false → last ≡ as_of p g.number) (is_sent : supply_of state (key_of g.context) total last ≡ Ok (m, b))
    (brought : IsBrought p f) (numbered : g.number ≡ f.agreement) (kind : f.total ≡ total)
    (mid : Net) (taken : IsTakenAt old g m b mid) where
  led : IsLed p
  led = led_at old p s consistent

  abbrev pin : Key
  pin = key_of g.context

  abbrev next : Point
  next = after_refresh p f k

  it_is : brought.agreement ≡ g
  it_is =
      some_is (sym brought.found
      ∙ ap (λ (n : ℕ). find (λ (a : Agreement). a.number == n) (knowledge_at p).agreements) (sym numbered) ∙ found)

  stamp : f.stamp ≡ m
  stamp =
      some_is (sym brought.stamp ∙ ap (refresh.supplied p) it_is
      ∙ stamp_sent p g state led holds logs moment mine found total last m b is_sent)

  abbrev place : ℕ
  place = taken.taken.place

  abbrev before : CopyKept
  before = taken.taken.copied.before

  held : holdings_view taken.before ≡ holdings_at p g.consumer
  held = sym (ap (in_option (no_holdings g.consumer) (λ (h : Holdings). h)) taken.holds) ∙ held_so old p g.consumer s consistent

  kept : logs_view taken.before ≡ logs_at p g.consumer
  kept = sym (ap (in_option no_logs (λ (l : Logs). l)) taken.logs) ∙ s.logs consistent g.consumer

  at_place : slice_get (holdings_at p g.consumer).copies place ≡ Some (copy_view before)
  at_place =
      ap (λ (h : Holdings). slice_get h.copies place) (sym held)
      ∙ map_at copy_view taken.before.copies place before taken.taken.copied.was

  same : copy_view before ≡ copy_by p g
  same = (copies_have_places p g place (copy_view before) led mine at_place taken.taken.at).0

  -- the copy, and the notes that go with it
  abbrev IsAsSaid : CopyKept → Type 0
  IsAsSaid u = (copy_view u ≡ renewed p g m) × (copy_notes u ≡ Some (notes_at next g.consumer pin))

  by_total : (content : Content) → supply_of state pin true last ≡ Ok (m, Total content) → total ≡ true → (u : CopyKept)
      → IsReplaced content m before u → IsAsSaid u
  by_total content e t u r =
      let x = whole_sent p g state led holds logs moment mine found last m content e in
      let log = total_begins_log p f k g led brought (kind ∙ t) mine numbered in (
        replaced_so p g before u same content m r (content_so p g state led holds logs moment content m x.content_is x.stamp),
        ap copy_notes r.after_is
            ∙ ap (λ (n : Notes). Some n) (began content m r.kept r.content_is
            ∙ (λ i. record { base = sym (log.base ∙ stamp) i; changes = sym log.kept i })),
      )

  by_steps : (given : List CodeStep) → supply_of state pin false last ≡ Ok (m, Steps given) → total ≡ false → (u : CopyKept)
      → IsAdvanced given m before u → IsAsSaid u
  by_steps given e t u a =
      let x = steps_since p g state led holds logs moment mine found last m given (peer t) e in
      let longer = steps_lengthen_log p f k g x.from led brought (kind ∙ t) mine numbered x.last in
      let was : notes_view a.old.log ≡ notes_at p g.consumer pin =
      copies_noted_at p g.consumer taken.before held kept place before a.old a.last taken.taken.copied.was a.was
      ∙ ap (notes_at p g.consumer) taken.taken.at in (
        advanced_so p g before u same given m x.from f led brought (kind ∙ t) mine numbered stamp x.last x.steps a,
        ap copy_notes a.after_is
            ∙ ap (λ (n : Notes). Some n) (noted_all m given a.old.log a.kept.log a.done.noted
            ∙ (λ i. record {
              base = base_noting (was i).base (was i).changes (stamped_steps x.from x.steps i);
              changes = kept_noting (was i).changes (stamped_steps x.from x.steps i);
            })
            ∙ (λ i. record { base = sym longer.base i; changes = sym longer.kept i })),
      )
    where
      stamped_steps : (z : ℕ) → steps_later z (log_at p g.supplier pin) ≡ steps_view given
          → stamped m (steps_view given) ≡ stamped f.stamp (steps_later z (log_at p g.supplier pin))
      stamped_steps z e = λ i. stamped (sym stamp i) (sym e i)

  as_said : (t : Bool) → total ≡ t → (x : Brought) → supply_of state pin t last ≡ Ok (m, x) → (u : CopyKept)
      → IsRefreshed x m before u → IsAsSaid u
  as_said true t (Total content) e u r = by_total content e t u r
  as_said true t (Steps given) e u r = absurd (no_steps state pin last m given e)
  as_said false t (Total content) e u r = absurd (no_total state pin last m content e)
  as_said false t (Steps given) e u r = by_steps given e t u r

  said : IsAsSaid taken.taken.copied.after
  said = as_said total refl b is_sent taken.taken.copied.after taken.taken.copied.changed

  -- so the consumer holds and keeps what it should
  consumer_holds : holdings_view taken.after ≡ holdings_at next g.consumer
  consumer_holds =
      ap holdings_view taken.taken.copied.new_is
      ∙ ap (λ (cs : List Copy). record (holdings_view taken.before) { copies = cs })
      (map-set copy_view taken.before.copies place taken.taken.copied.after)
      ∙ (λ i. record (held i) { copies = slice_set (held i).copies place ((said.0 ∙ ap (renewed p g) (sym stamp)) i) })
      ∙ sym (consumer_is_renewed p f k g place (copy_view before) led mine numbered at_place taken.taken.at)

  consumer_keeps : logs_view taken.after ≡ logs_at next g.consumer
  consumer_keeps =
      ap logs_view taken.taken.copied.new_is
      ∙ ap (λ (cs : List (Option Notes)). record (logs_view taken.before) { copies = cs })
      (map-set copy_notes taken.before.copies place taken.taken.copied.after)
      ∙ (λ i. record (kept i) { copies = slice_set (kept i).copies place (said.1 i) })
      ∙ sym (consumer_logs p f k g led brought mine numbered place (copy_view before) at_place taken.taken.at)

  agents_are : mid.agents ≡ slice_set old.agents g.consumer (holdings_view taken.after)
  agents_are = ap (λ (n : Net). n.agents) taken.new_is

  logs_are : mid.logs ≡ slice_set old.logs g.consumer (logs_view taken.after)
  logs_are = ap (λ (n : Net). n.logs) taken.new_is

  same_or_not : (x y : ℕ) → (x ≡ y) ⊎ ((x ≡ y) → ⊥)
  same_or_not x y = elim (true_or_false (x == y)) [
    | inl t ↦ inl ((nat_same_decides x y).0 t)
    | inr n ↦ inr (λ e. never (sym n ∙ (nat_same_decides x y).1 e))
  ]
    where
      never : false ≡ true → ⊥
      never z = cc

  pub all_hold : (a : ℕ) → holdings_in mid a ≡ holdings_at next a
  all_hold a = elim (same_or_not a g.consumer) [
    | inl e ↦ subst (λ (x : ℕ). holdings_in mid x ≡ holdings_at next x) (sym e)
        (ap (in_option (no_holdings g.consumer) (λ (h : Holdings). h))
        (ap (λ (hs : List Holdings). slice_get hs g.consumer) agents_are
        ∙ set_got old.agents g.consumer (holdings_view taken.before) (holdings_view taken.after) taken.holds)
        ∙ consumer_holds)
    | inr d ↦ ap (in_option (no_holdings a) (λ (h : Holdings). h))
        (ap (λ (hs : List Holdings). slice_get hs a) agents_are ∙ set_other old.agents g.consumer a (holdings_view taken.after) d)
        ∙ held_so old p a s consistent ∙ sym (others_hold_on p f k g a led mine numbered d)
  ]

  pub all_keep : (a : ℕ) → logs_in mid a ≡ logs_at next a
  all_keep a = elim (same_or_not a g.consumer) [
    | inl e ↦ subst (λ (x : ℕ). logs_in mid x ≡ logs_at next x) (sym e)
        (ap (in_option no_logs (λ (l : Logs). l))
        (ap (λ (ls : List Logs). slice_get ls g.consumer) logs_are
        ∙ set_got old.logs g.consumer (logs_view taken.before) (logs_view taken.after) taken.logs)
        ∙ consumer_keeps)
    | inr d ↦ ap (in_option no_logs (λ (l : Logs). l))
        (ap (λ (ls : List Logs). slice_get ls a) logs_are ∙ set_other old.logs g.consumer a (logs_view taken.after) d)
        ∙ s.logs consistent a ∙ sym (others_logs p f k g led brought mine numbered a d)
  ]

  -- what suppliers know
  none_acked : f.acknowledged ≡ false → (n : ℕ) → acked next n ≡ acked p n
  none_acked e n = stamp_is_acked p f k n ∙ ap (λ (c : Bool). if c then Some f.stamp else acked p n) (none (f.agreement == n))
    where
      none : (c : Bool) → (c && f.acknowledged) ≡ false
      none true = e
      none false = refl

  acked_so : (heard : Bool) → f.acknowledged ≡ heard → (at : ℕ) → slice_get p.described.agreements at ≡ Some g
      → (acknowledging heard at m mid).acked ≡ map (λ (h : Agreement). acked next h.number) p.described.agreements
  acked_so true e at i =
      ap (λ (n : Net). slice_set n.acked at (Some m)) taken.new_is
      ∙ (λ j. slice_set (s.acked j) at (Some (sym stamp j)))
      ∙ sym (acked_at_place p f k at g led i numbered e)
  acked_so false e at i =
      ap (λ (n : Net). n.acked) taken.new_is ∙ s.acked
      ∙ ap (λ (known : Agreement → Option ℕ). map known p.described.agreements) (fun_ext (λ h. sym (none_acked e h.number)))

  rest_so : (heard : Bool) (at : ℕ) → {A : Type 0} → (look : Net → A)
      → ((n : Net) (xs : List (Option ℕ)) (hs : List Holdings) (ls : List Logs) → look (record n { acked = xs; agents = hs; logs = ls }) ≡ look n)
      → look (acknowledging heard at m mid) ≡ look old
  rest_so true at look h = ap (λ (n : Net). look (record n { acked = slice_set n.acked at (Some m) })) taken.new_is
      ∙ h old (slice_set old.acked at (Some m)) (slice_set old.agents g.consumer (holdings_view taken.after)) (slice_set old.logs g.consumer (logs_view taken.after))
  rest_so false at look h = ap look taken.new_is
      ∙ h old old.acked (slice_set old.agents g.consumer (holdings_view taken.after)) (slice_set old.logs g.consumer (logs_view taken.after))

  heard_holds : (heard : Bool) (at a : ℕ) → holdings_in (acknowledging heard at m mid) a ≡ holdings_in mid a
  heard_holds true at a = refl
  heard_holds false at a = refl

  heard_keeps : (heard : Bool) (at a : ℕ) → logs_in (acknowledging heard at m mid) a ≡ logs_in mid a
  heard_keeps true at a = refl
  heard_keeps false at a = refl

  pub after_taken : (new : Net) (at : ℕ) → slice_get p.described.agreements at ≡ Some g → IsStamped next
      → new ≡ record (acknowledging f.acknowledged at m mid) {
        sent = (acknowledging f.acknowledged at m mid).sent + k;
        line = (acknowledging f.acknowledged at m mid).line + 1;
      } → StandsAt new next
  after_taken new at i rises e =
      let now : Net = acknowledging f.acknowledged at m mid in
      let line : now.line ≡ old.line = rest_so f.acknowledged at (λ n. n.line) (λ n xs hs ls. refl) in
      let sent : now.sent ≡ old.sent = rest_so f.acknowledged at (λ n. n.sent) (λ n xs hs ls. refl) in
      subst (λ (n : Net). StandsAt n next) (sym e) (record {
        described = s.described;
        unmoved = (tt, s.unmoved);
        stamped = λ c. rises;
        names = rest_so f.acknowledged at (λ n. n.names) (λ n xs hs ls. refl) ∙ s.names;
        holds = λ a. heard_holds f.acknowledged at a ∙ all_hold a ∙ sym (held_is_holdings next a consistent);
        network = rest_so f.acknowledged at (λ n. n.network) (λ n xs hs ls. refl) ∙ s.network;
        sent = more_sent now.sent (sent_before p.past) k (sent ∙ s.sent);
        contexts = rest_so f.acknowledged at (λ n. n.contexts) (λ n xs hs ls. refl) ∙ s.contexts;
        pairs = rest_so f.acknowledged at (λ n. n.pairs) (λ n xs hs ls. refl) ∙ s.pairs;
        agreements = rest_so f.acknowledged at (λ n. n.agreements) (λ n xs hs ls. refl) ∙ s.agreements;
        acked = acked_so f.acknowledged refl at i;
        line = one_line now.line old.line (length p.past) line s.line;
        happened = λ c. (brought, s.happened c);
        logs = λ c a. heard_keeps f.acknowledged at a ∙ all_keep a;
        within = one_more_within p (record { deed = Refreshes f; sent = k }) tt s.within;
      })
