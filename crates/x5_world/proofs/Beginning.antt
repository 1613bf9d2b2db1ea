-- The network that a file describes: what counts its contexts and the agents of its NSSRs is what the definitions count,
-- each agent holds what is described of it, and so it's the network of the first line.
use Rattle.std.proofs.Common.{◌≡◌, ℕ, zero, suc, ◌+◌, ◌<◌, ◌≤◌, ◌&&◌, ◌==◌, inl, inr, nat_le, List, [], ◌∷◌, length, map, refl, sym, ap, subst, ◌∙◌, arith, Option, Bool, true, false, None, slice_get, Some, length-append}
use Rattle.std.specs.Prelude.{if◌then◌else◌}
use Rattle.std.specs.List.{flat_map, enumerate_from, list_all}
use Rattle.std.specs.Option.{option_map}
use Rattle.std.proofs.lemmas.Grind.{flat_map-append}
use Rattle.std.proofs.lemmas.List.{length-map}
use Rattle.std.proofs.lemmas.List.Sums.{sum_by-cons}
use Rattle.std.proofs.lemmas.Bool.{leb-true}
use Rattle.std.proofs.lemmas.Bool.Decides.{leb_tells}
use Rattle.std.proofs.lemmas.Option.{slice_get-map, slice_get_past, slice_get_within}
use Rattle.x5_model.specs.Words.{distinct, in_option, same_octets}
use Rattle.x5_model.specs.Keys.{Key}
use Rattle.x5_model.specs.Members.{In, here, there}
use Rattle.x5_model.specs.Values.{key_of}
use Rattle.x5_model.proofs.Lists.{and_true, both_true}
use Rattle.x5_model_tree.specs.World.{Agent, Agreement, Context, Network, Nssr, Specific, World}
use Rattle.x5_model_tree.specs.Masters.{Mastered, agent_at, held_contexts, mastered, masters}
use Rattle.x5_model_tree.specs.Described.{IsDescribed, are_agents, are_numbers, is_agent, is_agent_name, is_number, is_pair, most_cut, most_lost_messages, nssr_agents, same_pair}
use Rattle.x5_model_run.specs.Holdings.{Copy, Holdings}
use Rattle.x5_model_run.specs.History.{Did, Point, agreements_of, as_of, no_holdings}
use Rattle.x5_model_run.specs.Refresh.{Changes, base_of, consumed_by}
use Rattle.x5_model_refreshed.specs.Replaying.{last_256}
use Rattle.x5_model_run.specs.Stage.{nssr_pairs}
use Rattle.x5_model_held.specs.Beginning.{described_context, described_copy, described_holdings, holdings_described}
use Rattle.x5_model_known.specs.Holding.{holdings_name}
use Rattle.x5_model_known.proofs.Counted.{described_counted}
use Rattle.x5_model_known.proofs.Describing.{described_name_agents, described_are_themselves, described_names_apart}
use Rattle.x5_model_fitting.specs.Requests.{IfThere}
use Rattle.x5_model_limits.specs.Described.{BoundedDeed, world_is_utf8}
use Rattle.x5_model_shadowing.specs.Files.{nssrs_are_utf8}
use Rattle.x5_model_limits.proofs.Described.{described_bounded}
use Rattle.x5_model_limits.proofs.Lists.{each_map, each_none}
use Rattle.x5_model_settled.proofs.After.{stamped_at_first}
use Rattle.x5_model_settled.proofs.Held.{held_at_first}
use Rattle.x5_agents.specs.Unnoted.{AllUnnoted, AreUnnoted}
use Rattle.x5_holdings.specs.State.{CopyKept, Kept, State, copy_view, held_view, holdings_view, stamp_of}
use Rattle.x5_know.specs.WorldView.{described_agent_view, world_view}
use Rattle.x5_know.specs.declared.described.DescribedAgent.{DescribedAgent}
use Rattle.x5_know.specs.declared.described.Described.{Described}
use Rattle.x5_ops.specs.KnowledgeViews.{context_view, nssr_view}
use Rattle.x5_ops.specs.declared.knowledge.ContextSpec.{ContextSpec}
use Rattle.x5_ops.specs.declared.knowledge.Nssr as code
use Rattle.x5_world.specs.Logs.{Logs, Notes, agent_logs, logs_at, no_logs, notes_at}
use Rattle.x5_world.specs.LogLimits.{BoundedLogs, BoundedNotes}
use Rattle.x5_world.specs.LogViews.{copy_notes, logged_view, logs_view, notes_view, own_notes}
use Rattle.x5_world.specs.Counts.{contexts_of, pairs_of_nssrs, pairs_of_contexts, pairs_of_agents}
use Rattle.x5_world.specs.State.{Net, StandsAt, HasRoom, LogsStand, holdings_in}
use Rattle.x5_model_tree.specs.World.{names_of_agents}
use Rattle.x5_world.specs.Sent.{IsHolder, IsNet}

abbrev at : ℕ → Context → Mastered
at k c = record { master = k; context = c }

abbrev of_agent : ℕ × Agent → List Mastered
of_agent a = map (λ c. record { master = a.0; context = c }) a.1.contexts

contexts_from : (k : ℕ) (ds : List DescribedAgent)
    → length (flat_map of_agent (enumerate_from k (map described_agent_view ds))) ≡ contexts_of ds
contexts_from k [] = refl
contexts_from k (d ∷ ds) =
    let own : length (of_agent (k, described_agent_view d)) ≡ length d.spec.contexts =
    length-map (map context_view d.spec.contexts) (at k) ∙ length-map d.spec.contexts context_view in
    length-append (of_agent (k, described_agent_view d))
    (flat_map of_agent (enumerate_from (k + 1) (map described_agent_view ds)))
    ∙ (λ i. own i + contexts_from (k + 1) ds i)
    ∙ sym (sum_by-cons (λ (a : DescribedAgent). length a.spec.contexts) d ds)

pub contexts_are : (d : Described) → contexts_of d.agents ≡ length (mastered (world_view d))
contexts_are d = sym (contexts_from 0 d.agents)

abbrev in_nssr : List Nssr → List ℕ
in_nssr ns = flat_map (λ n. n.agents) ns

abbrev in_context : Mastered → List ℕ
in_context m = flat_map (λ n. n.agents) m.context.nssrs

nssrs_are : (ns : List code.Nssr) → length (in_nssr (map nssr_view ns)) ≡ pairs_of_nssrs ns
nssrs_are [] = refl
nssrs_are (n ∷ ns) =
    length-append n.agents (in_nssr (map nssr_view ns)) ∙ ap (λ (k : ℕ). length n.agents + k) (nssrs_are ns)
    ∙ sym (sum_by-cons (λ (x : code.Nssr). length x.agents) n ns)

contexts_pairs : (k : ℕ) (cs : List ContextSpec)
    → length (flat_map in_context (map (at k) (map context_view cs))) ≡ pairs_of_contexts cs
contexts_pairs k [] = refl
contexts_pairs k (c ∷ cs) =
    length-append (in_context (at k (context_view c))) (flat_map in_context (map (at k) (map context_view cs)))
    ∙ (λ i. nssrs_are c.nssr i + contexts_pairs k cs i)
    ∙ sym (sum_by-cons (λ (x : ContextSpec). pairs_of_nssrs x.nssr) c cs)

pairs_from : (k : ℕ) (ds : List DescribedAgent)
    → length (flat_map in_context (flat_map of_agent (enumerate_from k (map described_agent_view ds))))
    ≡ pairs_of_agents ds
pairs_from k [] = refl
pairs_from k (d ∷ ds) =
    let more : List Mastered = flat_map of_agent (enumerate_from (k + 1) (map described_agent_view ds)) in
    ap length (flat_map-append in_context (of_agent (k, described_agent_view d)) more)
    ∙ length-append (flat_map in_context (of_agent (k, described_agent_view d))) (flat_map in_context more)
    ∙ (λ i. contexts_pairs k d.spec.contexts i + pairs_from (k + 1) ds i)
    ∙ sym (sum_by-cons (λ (a : DescribedAgent). pairs_of_contexts a.spec.contexts) d ds)

pub pairs_are : (d : Described) → pairs_of_agents d.agents ≡ nssr_pairs (world_view d)
pairs_are d = sym (pairs_from 0 d.agents)

-- ---- the limits of a file

pub limited : (w : World) → IsDescribed w
    → (length w.agents ≤ 64) × ((length (mastered w) ≤ 4096) × (nssr_pairs w ≤ 4096))
limited w d =
    let a = both_true (nat_le (length w.agents) 64) _ d.limits in
    let b = both_true (nat_le (length w.agreements) 64) _ a.1 in
    let c = both_true (nat_le (length (mastered w)) 4096) _ b.1 in
    let e = both_true (nat_le (length (nssr_agents w)) 4096) _ c.1 in (
      leb-true (length w.agents) 64 a.0,
      (leb-true (length (mastered w)) 4096 c.0, leb-true (length (nssr_agents w)) 4096 e.0),
    )

pub few_contexts : (d : Described) → IsDescribed (world_view d) → contexts_of d.agents ≤ 4096
few_contexts d h = (let l = (limited (world_view d) h).1.0 in let e = contexts_are d in omega (arith, l, e))

pub few_pairs : (d : Described) → IsDescribed (world_view d) → pairs_of_agents d.agents ≤ 4096
few_pairs d h = (let l = (limited (world_view d) h).1.1 in let e = pairs_are d in omega (arith, l, e))

few_losses : (w : World) → IsDescribed w → length w.network.lost_replies ≤ 16
few_losses w d =
    let net = w.network in
    let a = both_true (are_agents w net.down && distinct ◌==◌ net.down) _ d.network in
    let b = both_true (are_agents w net.refusing && distinct ◌==◌ net.refusing) _ a.1 in
    let c = both_true (list_all (is_pair w) net.cut && (distinct same_pair net.cut && nat_le (length net.cut) most_cut)) _
    b.1 in
    let e = both_true (are_numbers most_lost_messages net.lost_messages) _ c.1 in
    let f = both_true (list_all is_number net.lost_replies) _ e.1 in
    let g = both_true (distinct ◌==◌ net.lost_replies) _ f.1 in
    leb-true (length net.lost_replies) 16 g.1

-- ---- the logs of the first line

abbrev nothing_noted : Notes
nothing_noted = record { base = 0; changes = [] }

abbrev pub first_line : World → Point
first_line w = record { described = w; past = [] }

none_at_first : (w : World) (a : ℕ) (pin : Key) → notes_at (first_line w) a pin ≡ nothing_noted
none_at_first w a pin = by (masters w a pin) (consumed_by w a pin)
  where
    changes_by : Bool → Option Agreement → Changes
    changes_by b o =
        if b then record { origin = 0; moments = [] }
        else in_option (record { origin = 0; moments = [] }) (λ g. record { origin = 0; moments = [] }) o

    by : (b : Bool) (o : Option Agreement) → record { base = base_of (changes_by b o); changes = last_256 [] } ≡ nothing_noted
    by true o = refl
    by false None = refl
    by false (Some g) = refl

own_begun : (w : World) (a : ℕ) (known : List Specific) (ks : List Kept) (cs : List Context)
    → map held_view ks ≡ map (described_context known) cs
    → AreUnnoted ks
    → map own_notes ks ≡ map (λ (c : Context). notes_at (first_line w) a (key_of c.prefix)) cs
own_begun w a known [] [] e fresh = refl
own_begun w a known [] (c ∷ cs) e fresh = cc
own_begun w a known (k ∷ ks) [] e fresh = cc
own_begun w a known (k ∷ ks) (c ∷ cs) e fresh =
    let more : map held_view ks ≡ map (described_context known) cs = cc in
    let none = fresh k here in
    let first : own_notes k ≡ notes_at (first_line w) a (key_of c.prefix) =
    (λ i. record { base = none.base i; changes = map logged_view (none.changes i) }) ∙ sym (none_at_first w a (key_of c.prefix)) in
    let rest = own_begun w a known ks cs more (λ y j. fresh y (there j)) in
    λ i. first i ∷ rest i

copies_begun : (w : World) (a : ℕ) (ks : List CopyKept) (gs : List Agreement)
    → map copy_view ks ≡ map described_copy gs
    → map copy_notes ks
    ≡ map (λ (g : Agreement). option_map (λ (stamp : ℕ). notes_at (first_line w) a (key_of g.context)) (as_of (first_line w) g.number)) gs
copies_begun w a [] [] e = refl
copies_begun w a [] (g ∷ gs) e = cc
copies_begun w a (k ∷ ks) [] e = cc
copies_begun w a (k ∷ ks) (g ∷ gs) e =
    let more : map copy_view ks ≡ map described_copy gs = cc in
    let one : copy_view k ≡ described_copy g = cc in
    let first : copy_notes k ≡ None = never k.refreshed (ap (λ (c : Copy). c.stamp) one) in
    let rest = copies_begun w a ks gs more in
    λ i. first i ∷ rest i
  where
    never : (o : Option (Kept × ℕ)) → stamp_of o ≡ None → option_map (λ s. notes_view s.0.log) o ≡ None
    never None e = refl
    never (Some s) e = cc

logs_begun : (w : World) (me : ℕ) (s : State) → holdings_view s ≡ holdings_described w me → AreUnnoted s.own
    → logs_view s ≡ logs_at (first_line w) me
logs_begun w me s e fresh = by (agent_at w me) e
  where
    by : (o : Option Agent) → holdings_view s ≡ in_option (no_holdings me) (described_holdings w me) o
        → logs_view s ≡ in_option no_logs (agent_logs (first_line w) me) o
    by None q =
        let own : map held_view s.own ≡ [] = ap (λ (h : Holdings). h.own) q in
        let copies : map copy_view s.copies ≡ [] = ap (λ (h : Holdings). h.copies) q in
        λ i. record { own = nobody s.own own i; copies = none s.copies copies i }
      where
        nobody : (ks : List Kept) → map held_view ks ≡ [] → map own_notes ks ≡ []
        nobody [] z = refl
        nobody (k ∷ ks) z = cc

        none : (ks : List CopyKept) → map copy_view ks ≡ [] → map copy_notes ks ≡ []
        none [] z = refl
        none (k ∷ ks) z = cc
    by (Some a) q =
        let own = own_begun w me a.subordinate s.own (held_contexts [] a.contexts) (ap (λ (h : Holdings). h.own) q) fresh in
        let copies = copies_begun w me s.copies (agreements_of w me) (ap (λ (h : Holdings). h.copies) q) in
        λ i. record { own = own i; copies = copies i }

-- ---- the network of the first line

pub record IsBegun (w : World) (n : Net) : Type 0 where
  pub names : n.names ≡ names_of_agents w
  pub count : length n.agents ≡ length w.agents
  pub each : (me : ℕ) → me < length w.agents → slice_get n.agents me ≡ Some (holdings_described w me)
  pub kept : length n.logs ≡ length w.agents
  pub logs : (me : ℕ) → me < length w.agents → slice_get n.logs me ≡ Some (logs_at (first_line w) me)
  pub network : n.network ≡ w.network
  pub sent : n.sent ≡ 0
  pub contexts : n.contexts ≡ length (mastered w)
  pub pairs : n.pairs ≡ nssr_pairs w
  pub agreements : n.agreements ≡ w.agreements
  pub acked : n.acked ≡ map (λ g. None) w.agreements
  pub line : n.line ≡ 0

got_in : (xs : List State) (i : ℕ) (x : State) → slice_get xs i ≡ Some x → In x xs
got_in [] i x e = cc
got_in (y ∷ ys) zero x e = let q : y ≡ x = cc in subst (λ (z : State). In z (y ∷ ys)) q here
got_in (y ∷ ys) (suc i) x e = there (got_in ys i x e)

-- the logs of a place
logs_there : (w : World) (me : ℕ) (agents : List State)
    → option_map holdings_view (slice_get agents me) ≡ Some (holdings_described w me)
    → AllUnnoted agents → slice_get (map logs_view agents) me ≡ Some (logs_at (first_line w) me)
logs_there w me [] e fresh = cc
logs_there w zero (s ∷ agents) e fresh =
    let held : holdings_view s ≡ holdings_described w zero = cc in
    ap (λ (l : Logs). Some l) (logs_begun w zero s held (fresh s here))
logs_there w (suc me) (s ∷ agents) e fresh = later (slice_get agents me) refl
  where
    later : (o : Option State) → slice_get agents me ≡ o
        → slice_get (map logs_view agents) me ≡ Some (logs_at (first_line w) (suc me))
    later None q = cc
    later (Some t) q =
        let held : holdings_view t ≡ holdings_described w (suc me) = cc in
        slice_get-map logs_view agents me ∙ ap (option_map logs_view) q
        ∙ ap (λ (l : Logs). Some l) (logs_begun w (suc me) t held (fresh t (there (got_in agents me t q))))

pub is_begun : (d : Described) (names : List (List ℕ)) (agents : List State) (links : Network)
    (contexts pairs : ℕ) (agreements : List Agreement) (acked : List (Option ℕ))
    → names ≡ names_of_agents (world_view d) → length agents ≡ length d.agents
    → ((me : ℕ) → me < length d.agents
    → option_map holdings_view (slice_get agents me) ≡ Some (holdings_described (world_view d) me))
    → AllUnnoted agents
    → links ≡ d.network → contexts ≡ contexts_of d.agents → pairs ≡ pairs_of_agents d.agents
    → agreements ≡ d.agreements → acked ≡ map (λ g. None) d.agreements
    → IsBegun (world_view d) (record {
      names = names;
      agents = map holdings_view agents;
      logs = map logs_view agents;
      network = links;
      sent = 0;
      contexts = contexts;
      pairs = pairs;
      agreements = agreements;
      acked = acked;
      line = 0;
    })
is_begun d names agents links contexts pairs agreements acked called count each fresh linked counted paired agreed none = record {
  names = called;
  count = length-map agents holdings_view ∙ count ∙ sym (length-map d.agents described_agent_view);
  each = λ me there. slice_get-map holdings_view agents me
      ∙ each me (let same = length-map d.agents described_agent_view in omega (arith, there, same));
  kept = length-map agents logs_view ∙ count ∙ sym (length-map d.agents described_agent_view);
  logs = λ me there. logs_there (world_view d) me agents
      (each me (let same = length-map d.agents described_agent_view in omega (arith, there, same))) fresh;
  network = linked;
  sent = refl;
  contexts = counted ∙ contexts_are d;
  pairs = paired ∙ pairs_are d;
  agreements = agreed;
  acked = none;
  line = refl;
}

all_named : (w : World) (n : Net) → IsBegun w n → length n.names ≡ length w.agents
all_named w n b = ap length b.names ∙ length-map w.agents (λ a. a.name)

same_some : {A : Type 0} (o : Option A) (x y : A) → o ≡ Some x → o ≡ Some y → x ≡ y
same_some o x y e f = cc

holder_begun : (w : World) (n : Net) (a : ℕ) (h : Holdings) → IsDescribed w → world_is_utf8 w ≡ true → IsBegun w n
    → slice_get n.agents a ≡ Some h → IsHolder n.names a h
holder_begun w n a h d utf8 b at =
    let within : a < length w.agents =
    (let x = slice_get_within n.agents a h at in let y = b.count in omega (arith, x, y)) in
    let is : holdings_described w a ≡ h =
    same_some (slice_get n.agents a) (holdings_described w a) h (b.each a within) at in
    let first : IsHolder n.names a (holdings_described w a) =
    record {
      me = described_are_themselves w a;
      known = ap (λ (k : ℕ). holdings_name k (holdings_described w a)) (all_named w n b)
          ∙ described_name_agents w a d;
      counted = described_counted w a d;
      bounded = described_bounded w a d utf8;
    } in
    subst (IsHolder n.names a) is first

-- nothing was noted yet
none_noted : (w : World) (me : ℕ) → BoundedLogs (logs_at (first_line w) me)
none_noted w me = by (agent_at w me)
  where
    fresh : (pin : Key) → BoundedNotes (notes_at (first_line w) me pin)
    fresh pin = subst BoundedNotes (sym (none_at_first w me pin)) (λ x i. elim i [ ])

    of_copy : (pin : Key) (o : Option ℕ) → IfThere BoundedNotes (option_map (λ (stamp : ℕ). notes_at (first_line w) me pin) o)
    of_copy pin None = tt
    of_copy pin (Some stamp) = fresh pin

    by : (o : Option Agent) → BoundedLogs (in_option no_logs (agent_logs (first_line w) me) o)
    by None = record { own = λ x i. elim i [ ]; copies = λ x i. elim i [ ] }
    by (Some a) = record {
      own = each_map BoundedNotes (λ (c : Context). notes_at (first_line w) me (key_of c.prefix)) (held_contexts [] a.contexts)
          (λ c i. fresh (key_of c.prefix));
      copies = each_map (IfThere BoundedNotes)
          (λ (g : Agreement). option_map (λ (stamp : ℕ). notes_at (first_line w) me (key_of g.context)) (as_of (first_line w) g.number))
          (agreements_of w me) (λ g i. of_copy (key_of g.context) (as_of (first_line w) g.number));
    }

noted_begun : (w : World) (n : Net) (a : ℕ) (l : Logs) → IsBegun w n → slice_get n.logs a ≡ Some l → BoundedLogs l
noted_begun w n a l b at =
    let within : a < length w.agents =
    (let x = slice_get_within n.logs a l at in let y = b.kept in omega (arith, x, y)) in
    subst BoundedLogs (same_some (slice_get n.logs a) (logs_at (first_line w) a) l (b.logs a within) at) (none_noted w a)

-- agents have names that agents may have
all_plain : (w : World) (agents : List Agent) → list_all (is_agent w) agents ≡ true
    → list_all is_agent_name (map (λ (a : Agent). a.name) agents) ≡ true
all_plain w [] e = refl
all_plain w (a ∷ agents) e =
    let x = both_true (is_agent w a) (list_all (is_agent w) agents) e in
    let y = both_true (is_agent_name a.name) _ x.0 in
    and_true (is_agent_name a.name) (list_all is_agent_name (map (λ (b : Agent). b.name) agents)) y.0 (all_plain w agents x.1)

pub net_begun : (w : World) (n : Net) → IsDescribed w → world_is_utf8 w ≡ true → IsBegun w n → IsNet n
net_begun w n d utf8 b =
    let l = limited w d in
    record {
      apart = ap (distinct same_octets) b.names ∙ described_names_apart w d;
      plain = ap (list_all is_agent_name) b.names ∙ all_plain w w.agents d.agents;
      few = (let e = all_named w n b in let f = l.0 in omega (arith, e, f));
      count = b.count ∙ sym (all_named w n b);
      logs = b.kept ∙ sym (all_named w n b);
      each = λ a h at. holder_begun w n a h d utf8 b at;
      noted = λ a l at. noted_begun w n a l b at;
      contexts = (let e = b.contexts in let f = l.1.0 in omega (arith, e, f));
      pairs = (let e = b.pairs in let f = l.1.1 in omega (arith, e, f));
      lines = (let e = b.line in omega (arith, e));
    }

holds_begun : (w : World) (n : Net) (a : ℕ) → IsBegun w n → holdings_in n a ≡ holdings_described w a
holds_begun w n a b = elim (leb_tells (length w.agents) a) [
  | inl x ↦
      (let behind : length n.agents ≤ a = (let y = x.1 in let z = b.count in omega (arith, y, z)) in
      ap (in_option (no_holdings a) (λ h. h)) (slice_get_past n.agents a behind)
      ∙ sym (ap (in_option (no_holdings a) (described_holdings w a)) (slice_get_past w.agents a x.1)))
  | inr y ↦ ap (in_option (no_holdings a) (λ h. h)) (b.each a y.1)
]

logs_stand : (w : World) (n : Net) → IsBegun w n → LogsStand n (first_line w)
logs_stand w n b a = elim (leb_tells (length w.agents) a) [
  | inl x ↦
      (let behind : length n.logs ≤ a = (let y = x.1 in let z = b.kept in omega (arith, y, z)) in
      ap (in_option no_logs (λ (l : Logs). l)) (slice_get_past n.logs a behind)
      ∙ sym (ap (in_option no_logs (agent_logs (first_line w) a)) (slice_get_past w.agents a x.1)))
  | inr y ↦ ap (in_option no_logs (λ (l : Logs). l)) (b.logs a y.1)
]

pub stands_begun : (w : World) (n : Net) → IsDescribed w → world_is_utf8 w ≡ true → nssrs_are_utf8 w ≡ true → IsBegun w n
    → StandsAt n (record { described = w; past = [] })
stands_begun w n d texts references b = record {
  described = d;
  unmoved = tt;
  stamped = λ consistent. stamped_at_first w;
  names = b.names;
  holds = λ a. holds_begun w n a b ∙ sym (held_at_first w a d);
  network = b.network;
  sent = b.sent;
  contexts = b.contexts;
  pairs = b.pairs;
  agreements = b.agreements;
  acked = b.acked;
  line = b.line;
  happened = λ consistent. tt;
  logs = λ consistent. logs_stand w n b;
  within = record { texts = texts; references = references; accepted = each_none (λ (d : Did). BoundedDeed d.deed) };
}

pub room_begun : (w : World) (n : Net) → IsDescribed w → IsBegun w n → HasRoom n 0
room_begun w n d b =
    let none : n.sent ≤ 0 = (let e = b.sent in omega (arith, e)) in
    let few : length n.network.lost_replies ≤ 0 + 16 =
    (let e = ap (λ (k : Network). length k.lost_replies) b.network in let f = few_losses w d in omega (arith, e, f)) in
    let lines : n.line ≤ 0 = (let e = b.line in omega (arith, e)) in
    record { line = lines; sent = none; lost = few }
