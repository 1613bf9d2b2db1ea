-- An update that an agent carries out changes what it holds, and it's a network as before.
use Rattle.std.proofs.Common.{◌≡◌, ℕ, zero, suc, true, ◌+◌, ◌<◌, ◌⊎◌, inl, inr, List, [], ◌∷◌, length, map, slice_get, slice_set, refl, sym, ap, subst, ◌∙◌, arith, None, Some}
use Rattle.std.proofs.lemmas.List.{length-map, length-set, map-set}
use Rattle.x5_model.specs.Words.{in_option}
use Rattle.x5_model.specs.Requests.{Request}
use Rattle.x5_model.specs.Statics.{fault_of}
use Rattle.x5_model_tree.specs.Ask.{is_update}
use Rattle.x5_model_run.specs.Holdings.{Holdings}
use Rattle.x5_model_run.specs.History.{no_holdings}
use Rattle.x5_model_serve.specs.Committed.{committed}
use Rattle.x5_model_fitting.specs.Requests.{BodyWithin}
use Rattle.x5_model_limits.specs.Holding.{BoundedHoldings}
use Rattle.x5_model_limits.proofs.Committing.{committed_bounded}
use Rattle.x5_model_known.proofs.Finding.{knowledge_stays}
use Rattle.x5_model_known.proofs.Counted.{counted_stays}
use Rattle.x5_holdings.specs.State.{State, holdings_view}
use Rattle.x5_update.specs.Committing.{IsCommitted, IsUncommitted}
use Rattle.x5_world.specs.Logs.{AreNoted, Logs, no_logs}
use Rattle.x5_world.specs.LogLimits.{BoundedLogs}
use Rattle.x5_world.specs.LogViews.{logs_view}
use Rattle.x5_world.specs.State.{Net, holdings_in, logs_in}
use Rattle.x5_world.specs.Sent.{IsCommittedAt, IsHolder, IsNet, no_net}
use Rattle.x5_world.specs.Laws.{holder}
use Rattle.x5_world.proofs.Holding.{committed_alike}
use Rattle.x5_world.proofs.Limits.{AllBounded, bare, bare_within, noted_within, one_bounded}
use Rattle.x5_world.proofs.Noted.{are_noted, are_unnoted}

-- what stands in a list of which one place was set
set_has : (hs : List Holdings) (i a : ℕ) (y h : Holdings) → slice_get (slice_set hs i y) a ≡ Some h
    → ((a ≡ i) × (h ≡ y)) ⊎ (slice_get hs a ≡ Some h)
set_has [] i a y h e = cc
set_has (x ∷ xs) zero zero y h e = inl (refl, cc)
set_has (x ∷ xs) zero (suc a) y h e = inr e
set_has (x ∷ xs) (suc i) zero y h e = inr e
set_has (x ∷ xs) (suc i) (suc a) y h e = elim (set_has xs i a y h e) [
  | inl z ↦ inl (ap suc z.0, z.1)
  | inr z ↦ inr z
]

-- what an agent holds once it accepted an update is its own as before
changed_holder : (names : List (List ℕ)) (a : ℕ) (r : Request) (h : Holdings) → BodyWithin r.body → is_update r.body ≡ true
    → IsHolder names a h → IsHolder names a (committed r h)
changed_holder names a r h within update x =
    let stays = knowledge_stays (length names) r h in
    record {
      me = stays.0 ∙ x.me;
      known = stays.1 ∙ x.known;
      counted = counted_stays r h ∙ x.counted;
      bounded = subst BoundedHoldings (committed_alike (bare r.body) r h refl update)
          (committed_bounded (bare r.body) h (bare_within r.body within) x.bounded);
    }

-- the network once an agent accepted an update, with the logs that agents have then
abbrev pub changed : Net → List Logs → ℕ → Request → Net
changed n logs a r = record n { agents = slice_set n.agents a (committed r (holdings_in n a)); logs = logs }

changed_each : (n : Net) (logs : List Logs) (agent : ℕ) (r : Request) (a : ℕ) (h : Holdings) → BodyWithin r.body
    → is_update r.body ≡ true → IsNet n → agent < length n.names → slice_get (changed n logs agent r).agents a ≡ Some h
    → IsHolder n.names a h
changed_each n logs agent r a h within update net there at =
    elim (set_has n.agents agent a (committed r (holdings_in n agent)) h at) [
      | inl z ↦
          subst (λ (k : ℕ). IsHolder n.names k h) (sym z.0)
          (subst (IsHolder n.names agent) (sym z.1)
          (changed_holder n.names agent r (holdings_in n agent) within update (holder n agent net there)))
      | inr z ↦ net.each a h z
    ]

net_changed : (n : Net) (logs : List Logs) (agent : ℕ) (r : Request) → BodyWithin r.body → is_update r.body ≡ true
    → IsNet n → agent < length n.names → length logs ≡ length n.logs → AllBounded logs → IsNet (changed n logs agent r)
net_changed n logs agent r within update net there same noted = record {
  apart = net.apart;
  plain = net.plain;
  few = net.few;
  count = length-set n.agents agent (committed r (holdings_in n agent)) ∙ net.count;
  logs = same ∙ net.logs;
  each = λ a h at. changed_each n logs agent r a h within update net there at;
  noted = noted;
  contexts = net.contexts;
  pairs = net.pairs;
  lines = net.lines;
}

-- ---- a state in its place

set_same : {A : Type 0} (hs : List A) (i : ℕ) (h : A) → slice_get hs i ≡ Some h → slice_set hs i h ≡ hs
set_same [] i h e = cc
set_same {A} (x ∷ xs) zero h e = let q : h ≡ x = cc in ap (λ (z : A). z ∷ xs) q
set_same {A} (x ∷ xs) (suc i) h e = ap (λ (zs : List A). x ∷ zs) (set_same xs i h e)

set_got : {A : Type 0} (xs : List A) (i : ℕ) (x y : A) → slice_get xs i ≡ Some x → slice_get (slice_set xs i y) i ≡ Some y
set_got [] i x y e = cc
set_got (z ∷ xs) zero x y e = refl
set_got (z ∷ xs) (suc i) x y e = set_got xs i x y e

map_at : {A B : Type 0} (f : A → B) (xs : List A) (i : ℕ) (x : A) → slice_get xs i ≡ Some x
    → slice_get (map f xs) i ≡ Some (f x)
map_at f [] i x e = cc
map_at {A} f (y ∷ ys) zero x e = let q : y ≡ x = cc in ap (λ (z : A). Some (f z)) q
map_at f (y ∷ ys) (suc i) x e = map_at f ys i x e

-- what is in a network of which these are the agents' states
abbrev pub of_states : Net → List State → Net
of_states n items = record n { agents = map holdings_view items; logs = map logs_view items }

-- an agent's state that is like another one in what it holds and has noted
abbrev pub IsLike : State → State → Type 0
IsLike s t = (holdings_view t ≡ holdings_view s) × (logs_view t ≡ logs_view s)

-- where nothing that contracts see changed
pub unchanged : (s t : State) → t ≡ s → IsLike s t
unchanged s t e = (ap holdings_view e, ap logs_view e)

-- as with another moment
pub later : (s t : State) (moment : ℕ) → t ≡ record s { moment = moment } → IsLike s t
later s t moment e = (ap holdings_view e, ap logs_view e)

module _ (n : Net) (items : List State) (i : ℕ) (s : State) (at : slice_get items i ≡ Some s) where
  held_is : holdings_in (of_states n items) i ≡ holdings_view s
  held_is = ap (in_option (no_holdings i) (λ (x : Holdings). x)) (map_at holdings_view items i s at)

  logs_are : logs_in (of_states n items) i ≡ logs_view s
  logs_are = ap (in_option no_logs (λ (x : Logs). x)) (map_at logs_view items i s at)

  logs_then : (t : State) → logs_in (of_states n (slice_set items i t)) i ≡ logs_view t
  logs_then t = ap (in_option no_logs (λ (x : Logs). x)) (map_at logs_view (slice_set items i t) i t (set_got items i s t at))

  it_is : (t : State) (r : Request) → holdings_view t ≡ committed r (holdings_view s)
      → of_states n (slice_set items i t) ≡ changed (of_states n items) (map logs_view (slice_set items i t)) i r
  it_is t r e =
      ap (λ (hs : List Holdings). record n { agents = hs; logs = map logs_view (slice_set items i t) })
      (map-set holdings_view items i t
      ∙ ap (λ (h : Holdings). slice_set (map holdings_view items) i h) (e ∙ ap (committed r) (sym held_is)))

  nothing_is : (t : State) → IsLike s t → of_states n (slice_set items i t) ≡ of_states n items
  nothing_is t e =
      let hs : map holdings_view (slice_set items i t) ≡ map holdings_view items =
      map-set holdings_view items i t ∙ ap (λ (h : Holdings). slice_set (map holdings_view items) i h) e.0
      ∙ set_same (map holdings_view items) i (holdings_view s) (map_at holdings_view items i s at) in
      let ls : map logs_view (slice_set items i t) ≡ map logs_view items =
      map-set logs_view items i t ∙ ap (λ (l : Logs). slice_set (map logs_view items) i l) e.1
      ∙ set_same (map logs_view items) i (logs_view s) (map_at logs_view items i s at) in
      λ j. record n { agents = hs j; logs = ls j }

  -- it's like a state still of which nothing is committed
  pub still : (u t : State) → IsLike s u → IsUncommitted u t → IsLike s t
  still u t like same = (same.holdings ∙ like.0, are_unnoted u t same ∙ like.1)

  -- what is committed by a state that is like it, at this moment
  pub committed_at : (u t : State) (a moment : ℕ) (r : Request) (old : Net) → IsLike s u → IsCommitted u r t
      → u.moment ≡ moment → of_states n items ≡ old → moment ≡ old.line + 1 → i ≡ a
      → IsCommittedAt a r old (of_states n (slice_set items i t))
  committed_at u t a moment r old like done at_moment was line place =
      subst (λ (x : Net). IsCommittedAt a r x (of_states n (slice_set items i t))) was
      (subst (λ (k : ℕ). IsCommittedAt k r (of_states n items) (of_states n (slice_set items i t))) place
      (record {
        agents = ap (λ (x : Net). x.agents) (it_is t r (done.holdings ∙ ap (committed r) like.0));
        logs = map-set logs_view items i t ∙ ap (λ (l : Logs). slice_set (map logs_view items) i l) (sym (logs_then t));
        rest = refl;
        noted = noted;
      }))
    where
      first : AreNoted u.moment r (holdings_view u) (logs_view u) (logs_view t)
      first = are_noted u t r done

      noted : AreNoted (n.line + 1) r (holdings_in (of_states n items) i) (logs_in (of_states n items) i) (logs_in (of_states n (slice_set items i t)) i)
      noted =
          subst (λ (m : ℕ). AreNoted m r (holdings_in (of_states n items) i) (logs_in (of_states n items) i) (logs_in (of_states n (slice_set items i t)) i))
          (at_moment ∙ line ∙ ap (λ (x : Net). x.line + 1) (sym was))
          (subst (λ (h : Holdings). AreNoted u.moment r h (logs_in (of_states n items) i) (logs_in (of_states n (slice_set items i t)) i))
          (like.0 ∙ sym held_is)
          (subst (λ (l : Logs). AreNoted u.moment r (holdings_view u) l (logs_in (of_states n (slice_set items i t)) i))
          (like.1 ∙ sym logs_are)
          (subst (λ (l : Logs). AreNoted u.moment r (holdings_view u) (logs_view u) l) (sym (logs_then t)) first)))

  -- what agents keep of changes then
  all_noted : (r : Request) (u t : State) → BodyWithin r.body → fault_of r.body ≡ None → IsNet (of_states n items) → IsLike s u
      → IsCommitted u r t → AllBounded (map logs_view (slice_set items i t))
  all_noted r u t within none net like done =
      let held : BoundedHoldings (holdings_view u) =
      subst BoundedHoldings (sym like.0) (net.each i (holdings_view s) (map_at holdings_view items i s at)).bounded in
      let kept : BoundedLogs (logs_view u) =
      subst BoundedLogs (sym like.1) (net.noted i (logs_view s) (map_at logs_view items i s at)) in
      subst AllBounded (sym (map-set logs_view items i t))
      (one_bounded (map logs_view items) i (logs_view t) net.noted
      (noted_within u.moment r (holdings_view u) (logs_view u) (logs_view t) (are_noted u t r done) within none held kept))

  pub stays_net : (r : Request) (u t : State) → BodyWithin r.body → is_update r.body ≡ true → fault_of r.body ≡ None
      → IsNet (of_states n items) → i < length n.names → IsLike s u → IsCommitted u r t
      → IsNet (of_states n (slice_set items i t))
  stays_net r u t within update none net there like done =
      subst IsNet (sym (it_is t r (done.holdings ∙ ap (committed r) like.0)))
      (net_changed (of_states n items) (map logs_view (slice_set items i t)) i r within update net there
      (length-map (slice_set items i t) logs_view ∙ length-set items i t ∙ sym (length-map items logs_view))
      (all_noted r u t within none net like done))

  pub is_as_it_was : (old : Net) (u t : State) → of_states n items ≡ old → IsLike s u → IsUncommitted u t
      → of_states n (slice_set items i t) ≡ old
  is_as_it_was old u t was like same = nothing_is t (still u t like same) ∙ was

  pub same_net : (u t : State) → IsNet (of_states n items) → IsLike s u → IsUncommitted u t
      → IsNet (of_states n (slice_set items i t))
  same_net u t net like same = subst IsNet (sym (nothing_is t (still u t like same))) net

-- ---- the network of nobody

pub nobody_is_net : IsNet no_net
nobody_is_net = record {
  apart = refl;
  plain = refl;
  few = omega arith;
  count = refl;
  logs = refl;
  each = λ a h e. cc;
  noted = λ a l e. cc;
  contexts = omega arith;
  pairs = omega arith;
  lines = omega arith;
}
