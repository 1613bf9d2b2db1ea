-- One agent of the network sends what is supplied, or takes it, or holds what it's given: nothing else of the network
-- changes.
use Rattle.std.proofs.Common.{◌≡◌, ℕ, zero, suc, ◌+◌, ◌<◌, ◌⊎◌, inl, inr, Bool, true, List, [], ◌∷◌, length, map, slice_get, slice_set, refl, sym, ap, subst, ◌∙◌, Option, Some, Result, Ok, OnOk, arith}
use Rattle.std.proofs.lemmas.List.{length-map, length-set, map-set}
use Rattle.x5_model.specs.Words.{in_option}
use Rattle.x5_model.specs.Keys.{Key}
use Rattle.x5_model.specs.Values.{key_of}
use Rattle.x5_model_tree.specs.World.{Agreement}
use Rattle.x5_model_run.specs.Holdings.{Holdings}
use Rattle.x5_model_run.specs.History.{no_holdings}
use Rattle.x5_model_fitting.specs.Requests.{CountWithin}
use Rattle.x5_model_limits.specs.Holding.{BoundedHoldings}
use Rattle.x5_holdings.specs.State.{State, holdings_view}
use Rattle.x5_consume.specs.Taken.{IsTaken}
use Rattle.x5_refresh.specs.declared.brought.Brought.{Brought}
use Rattle.x5_refresh.specs.Sent.{IsRefreshed, supply_of}
use Rattle.x5_world.specs.Logs.{Logs, no_logs}
use Rattle.x5_world.specs.LogLimits.{BoundedLogs}
use Rattle.x5_world.specs.LogViews.{logs_view}
use Rattle.x5_world.specs.Places.{FitsPlace}
use Rattle.x5_world.specs.State.{Net, holdings_in, logs_in}
use Rattle.x5_world.specs.Sent.{IsHolder, IsNet}
use Rattle.x5_world.specs.Refreshing.{IsBoundedIn, IsSupplied, IsTakenAt, is_known_in, sent_view}
use Rattle.x5_world.specs.declared.refreshing.Supplied.{Supplied}
use Rattle.x5_world.proofs.Changing.{IsLike, of_states}
use Rattle.x5_world.proofs.Courses.{map_at, some_is}
use Rattle.x5_world.proofs.Knowing.{sent_known, taken_holder}
use Rattle.x5_world.proofs.Limits.{AllBounded, one_bounded, taken_noted}
use Rattle.x5_world.proofs.Supplying.{sent_bounded}

set_same : {A : Type 0} (xs : List A) (i : ℕ) (x : A) → slice_get xs i ≡ Some x → slice_set xs i x ≡ xs
set_same [] i x e = cc
set_same {A} (y ∷ ys) zero x e = ap (λ (z : A). z ∷ ys) (sym (some_is e))
set_same {A} (y ∷ ys) (suc i) x e = ap (λ (zs : List A). y ∷ zs) (set_same ys i x e)

set_has : (hs : List Holdings) (i a : ℕ) (y h : Holdings) → slice_get (slice_set hs i y) a ≡ Some h
    → ((a ≡ i) × (h ≡ y)) ⊎ (slice_get hs a ≡ Some h)
set_has [] i a y h e = inr e
set_has (x ∷ xs) zero zero y h e = inl (refl, sym (some_is e))
set_has (x ∷ xs) zero (suc a) y h e = inr e
set_has (x ∷ xs) (suc i) zero y h e = inr e
set_has (x ∷ xs) (suc i) (suc a) y h e = elim (set_has xs i a y h e) [
  | inl z ↦ inl (ap suc z.0, z.1)
  | inr z ↦ inr z
]

-- what a call says where it did what it was to do
pub when_ok : {T E : Type 0} (P : Type 0) (result : Result T E) (x : T) → result ≡ Ok x → OnOk result P → P
when_ok {T} {E} P result x e h = subst (λ (r : Result T E). OnOk r P) e h

module _ (n : Net) (items : List State) (i : ℕ) (s : State) (at : slice_get items i ≡ Some s) where
  abbrev old : Net
  old = of_states n items

  abbrev with_state : State → Net
  with_state t = of_states n (slice_set items i t)

  held_is : holdings_in old i ≡ holdings_view s
  held_is = ap (in_option (no_holdings i) (λ (x : Holdings). x)) (map_at holdings_view items i s at)

  logs_are : logs_in old i ≡ logs_view s
  logs_are = ap (in_option no_logs (λ (x : Logs). x)) (map_at logs_view items i s at)

  holder_of : IsNet old → IsHolder n.names i (holdings_view s)
  holder_of net = net.each i (holdings_view s) (map_at holdings_view items i s at)

  noted_of : IsNet old → BoundedLogs (logs_view s)
  noted_of net = net.noted i (logs_view s) (map_at logs_view items i s at)

  net_with : (t : State) → IsNet old → IsHolder n.names i (holdings_view t) → BoundedLogs (logs_view t) → IsNet (with_state t)
  net_with t net holder noted = record {
    apart = net.apart;
    plain = net.plain;
    few = net.few;
    count = length-map (slice_set items i t) holdings_view ∙ length-set items i t ∙ sym (length-map items holdings_view) ∙ net.count;
    logs = length-map (slice_set items i t) logs_view ∙ length-set items i t ∙ sym (length-map items logs_view) ∙ net.logs;
    each = λ a h e. elim (set_has (map holdings_view items) i a (holdings_view t) h
        (sym (ap (λ (hs : List Holdings). slice_get hs a) (map-set holdings_view items i t)) ∙ e)) [
          | inl z ↦ subst (λ (k : ℕ). IsHolder n.names k h) (sym z.0) (subst (IsHolder n.names i) (sym z.1) holder)
          | inr z ↦ net.each a h z
        ];
    noted = subst AllBounded (sym (map-set logs_view items i t))
        (one_bounded (map logs_view items) i (logs_view t) net.noted noted);
    contexts = net.contexts;
    pairs = net.pairs;
    lines = net.lines;
  }

  -- what it holds can be held at its place of any network with as many agents
  pub fits : IsNet old → FitsPlace (length n.names) i s
  fits net =
      let h = holder_of net in
      record { me = h.me; known = h.known; counted = h.counted; bounded = h.bounded; noted = noted_of net }

  -- and what can be held there may stand for it
  pub net_put : (t : State) → IsNet old → FitsPlace (length n.names) i t → IsNet (with_state t)
  net_put t net f =
      net_with t net (record { me = f.me; known = f.known; counted = f.counted; bounded = f.bounded }) f.noted

  pub put_is : (t : State) (now : Net) → old ≡ now
      → with_state t ≡ record now { agents = slice_set now.agents i (holdings_view t); logs = slice_set now.logs i (logs_view t) }
  put_is t now same =
      (λ j. record n { agents = map-set holdings_view items i t j; logs = map-set logs_view items i t j })
      ∙ ap (λ (x : Net). record x {
        agents = slice_set x.agents i (holdings_view t);
        logs = slice_set x.logs i (logs_view t);
      }) same

  pub held_there : slice_get (map holdings_view items) i ≡ Some (holdings_view s)
  held_there = map_at holdings_view items i s at

  pub kept_there : slice_get (map logs_view items) i ≡ Some (logs_view s)
  kept_there = map_at logs_view items i s at

  -- an agent that is like it leaves the network as it was
  pub same_with : (t : State) → IsLike s t → with_state t ≡ old
  same_with t e =
      let hs : map holdings_view (slice_set items i t) ≡ map holdings_view items =
      map-set holdings_view items i t ∙ ap (λ (h : Holdings). slice_set (map holdings_view items) i h) e.0
      ∙ set_same (map holdings_view items) i (holdings_view s) (map_at holdings_view items i s at) in
      let ls : map logs_view (slice_set items i t) ≡ map logs_view items =
      map-set logs_view items i t ∙ ap (λ (l : Logs). slice_set (map logs_view items) i l) e.1
      ∙ set_same (map logs_view items) i (logs_view s) (map_at logs_view items i s at) in
      λ j. record n { agents = hs j; logs = ls j }

  pub net_same : (t : State) → IsNet old → IsLike s t → IsNet (with_state t)
  net_same t net e = subst IsNet (sym (same_with t e)) net

  -- what it sends
  pub is_supplied : (g : Agreement) (total : Bool) (last : Option ℕ) (sent : Supplied) (u : State) (now : Net) → now ≡ old
      → g.supplier ≡ i → IsLike s u → u.moment ≡ n.line + 1 → supply_of u (key_of g.context) total last ≡ sent_view sent
      → IsSupplied now g total last sent
  is_supplied g total last sent u now same place like moment e =
      subst (λ (x : Net). IsSupplied x g total last sent) (sym same) (record {
        state = u;
        holds = like.0 ∙ sym held_is ∙ ap (holdings_in old) (sym place);
        logs = like.1 ∙ sym logs_are ∙ ap (logs_in old) (sym place);
        moment = moment;
        sent_is = e;
      })

  pub is_known : (pin : Key) (total : Bool) (last : Option ℕ) (stamp : ℕ) (brought : Brought) (u : State) → IsNet old
      → i < length n.names → IsLike s u → supply_of u pin total last ≡ Ok (stamp, brought)
      → is_known_in (length n.names) brought ≡ true
  is_known pin total last stamp brought u net there like e =
      sent_known n.names i u there (subst (IsHolder n.names i) (sym like.0) (holder_of net)) pin total last stamp brought e

  -- within the limits of messages, at a line before the last that can be counted
  pub is_bounded : (pin : Key) (total : Bool) (last : Option ℕ) (stamp : ℕ) (brought : Brought) (u : State) → IsNet old
      → IsLike s u → u.moment ≡ n.line + 1 → supply_of u pin total last ≡ Ok (stamp, brought)
      → CountWithin stamp × IsBoundedIn brought
  is_bounded pin total last stamp brought u net like moment e =
      let lines = net.lines in
      let small : u.moment < 4294967296 = omega (arith, moment, lines) in
      sent_bounded u (subst BoundedHoldings (sym like.0) (holder_of net).bounded)
      (subst BoundedLogs (sym like.1) (noted_of net)) pin total last stamp brought small e

  -- what it takes
  pub taken_net : (pin : Key) (stamp : ℕ) (brought : Brought) (u t : State) → IsNet old → IsLike s u
      → is_known_in (length n.names) brought ≡ true → CountWithin stamp → IsBoundedIn brought
      → IsTaken u pin (IsRefreshed brought stamp) t → IsNet (with_state t)
  taken_net pin stamp brought u t net like known stamped bounded taken =
      net_with t net
      (taken_holder n.names i u t pin stamp brought (subst (IsHolder n.names i) (sym like.0) (holder_of net)) known stamped
      bounded taken)
      (taken_noted u t pin stamp brought stamped bounded taken (subst BoundedLogs (sym like.1) (noted_of net)))

  pub is_taken : (g : Agreement) (stamp : ℕ) (brought : Brought) (u t : State) (now : Net) → old ≡ now → g.consumer ≡ i
      → IsLike s u → IsTaken u (key_of g.context) (IsRefreshed brought stamp) t
      → IsTakenAt now g stamp brought (with_state t)
  is_taken g stamp brought u t now same place like taken =
      subst (λ (z : Net). IsTakenAt z g stamp brought (with_state t)) same (record {
        before = u;
        after = t;
        holds = ap (slice_get (map holdings_view items)) place ∙ map_at holdings_view items i s at ∙ ap (λ (h : Holdings). Some h) (sym like.0);
        logs = ap (slice_get (map logs_view items)) place ∙ map_at logs_view items i s at ∙ ap (λ (l : Logs). Some l) (sym like.1);
        taken = taken;
        new_is =
            (λ j. record n { agents = map-set holdings_view items i t j; logs = map-set logs_view items i t j })
            ∙ ap (λ (k : ℕ). record n {
              agents = slice_set (map holdings_view items) k (holdings_view t);
              logs = slice_set (map logs_view items) k (logs_view t);
            }) (sym place);
      })
