-- All names that a file's world has have 16 RDNs at most, so an octet counts those of what its agents know; and an
-- update changes entries alone.
use Rattle.std.proofs.Common.{◌≡◌, ℕ, ◌==◌, ◌≤◌, Bool, true, false, ◌&&◌, List, [], ◌∷◌, length, map, refl, ap, ap₂, ◌∙◌, Option, Some, None, Ok, Err, if◌then◌else◌, arith, le-leb}
use Rattle.std.specs.List.{filter, list_all}
use Rattle.std.specs.Option.{is_none}
use Rattle.x5_model.specs.Words.{in_option}
use Rattle.x5_model.specs.Members.{In}
use Rattle.x5_model.specs.Keys.{parent}
use Rattle.x5_model.specs.Values.{Name, key_of}
use Rattle.x5_model.specs.Entries.{Named}
use Rattle.x5_model.specs.Normal.{most_rdns}
use Rattle.x5_model.specs.Requests.{Request}
use Rattle.x5_model.proofs.Lists.{both_true, and_true, of_all, all_in, of_map, of_filter}
use Rattle.x5_model_tree.specs.World.{Specific, Nssr, Context, Agent, Agreement, World}
use Rattle.x5_model_tree.specs.Tree.{is_there, sorted_entries}
use Rattle.x5_model_tree.specs.Apply.{UpdatedEntries, apply_over}
use Rattle.x5_model_tree.specs.Masters.{agent_at, held_contexts}
use Rattle.x5_model_tree.specs.Described.{is_stored, is_stored_entry, is_stored_context, is_stored_agent, IsDescribed}
use Rattle.x5_model_tree.proofs.Stored.{stored_is, stored_short}
use Rattle.x5_model_run.specs.Holdings.{Held, Holdings, ground_at}
use Rattle.x5_model_run.specs.History.{references_below, agreements_of, no_holdings}
use Rattle.x5_model_theory.proofs.Stages.{key_length}
use Rattle.x5_model_serve.specs.Committed.{holds_target, alone_at, with_outcome, changed_at, committed_if}
use Rattle.x5_model_held.specs.Beginning.{described_context, described_copy, described_holdings, holdings_described}
use Rattle.x5_model_known.specs.Counted.{is_counted, references_counted, nssrs_counted, context_counted, copy_counted, holdings_counted, DescribedCounted, CountedStays}
use Rattle.x5_model_known.proofs.Describing.{at_place, of_held, of_first}

-- ---- the names of a world

pub stored_counted : (n : Name) → is_stored n ≡ true → is_counted n ≡ true
stored_counted n e =
    let short : length (key_of n) ≤ most_rdns = stored_short n (stored_is n e) in
    le-leb (length n) 254 (omega (arith, short, key_length n))

pub all_counted : (ks : List Specific) → ((k : Specific) → In k ks → is_stored k.pin ≡ true) → references_counted ks ≡ true
all_counted ks f = all_in (λ (k : Specific). is_counted k.pin) ks (λ k i. stored_counted k.pin (f k i))

module _ (w : World) (described : IsDescribed w) where
  context_of : (a : List Specific) (c : Context) → ((k : Specific) → In k a → is_stored k.pin ≡ true)
      → is_stored_context c ≡ true → context_counted (described_context a c) ≡ true
  context_of ks c f e =
      let entries : List Named = sorted_entries c.entries in
      let x = both_true (is_stored c.prefix) _ e in
      let y = both_true (list_all is_stored_entry c.entries) _ x.1 in
      and_true (is_counted c.prefix) _ (stored_counted c.prefix x.0)
      (and_true (references_counted (references_below entries ks)) (nssrs_counted c.nssrs)
      (all_counted (references_below entries ks)
      (λ k i. f k (of_filter (λ (y : Specific). is_there entries (parent (key_of y.pin))) k ks i).0))
      (all_in (λ (x : Nssr). is_counted x.at) c.nssrs
      (λ n i. stored_counted n.at (of_all (λ (x : Nssr). is_stored x.at) n c.nssrs y.1 i))))

  copies_of : (me : ℕ) → list_all copy_counted (map described_copy (agreements_of w me)) ≡ true
  copies_of me =
      all_in copy_counted (map described_copy (agreements_of w me))
      (λ c i.
      let x = of_map described_copy c (agreements_of w me) i in
      let j = of_first [] (filter (λ g. g.consumer == me) w.agreements) x.0 x.1 in
      let l = of_filter (λ (g : Agreement). g.consumer == me) x.0 w.agreements j in
      let all = both_true (list_all is_stored_agent w.agents) _ described.stored in
      ap copy_counted x.2
      ∙ and_true (is_counted x.0.context) true
      (stored_counted x.0.context (of_all (λ (g : Agreement). is_stored g.context) x.0 w.agreements all.1 l.0)) refl)

  module _ (me : ℕ) (a : Agent) (stored : is_stored_agent a ≡ true) where
    pub contexts : list_all is_stored_context a.contexts ≡ true
    contexts = (both_true (list_all is_stored_context a.contexts) _ stored).0

    pub subordinate : (k : Specific) → In k a.subordinate → is_stored k.pin ≡ true
    subordinate k i =
        of_all (λ (x : Specific). is_stored x.pin) k a.subordinate
        (both_true (list_all (λ (x : Specific). is_stored x.pin) a.subordinate)
        (list_all (λ (x : Specific). is_stored x.pin) a.cross)
        (both_true (list_all is_stored_context a.contexts) _ stored).1).0 i

    pub cross : (k : Specific) → In k a.cross → is_stored k.pin ≡ true
    cross k i =
        of_all (λ (x : Specific). is_stored x.pin) k a.cross
        (both_true (list_all (λ (x : Specific). is_stored x.pin) a.subordinate)
        (list_all (λ (x : Specific). is_stored x.pin) a.cross)
        (both_true (list_all is_stored_context a.contexts) _ stored).1).1 i

    own_of : list_all context_counted (map (described_context a.subordinate) (held_contexts [] a.contexts)) ≡ true
    own_of =
        all_in context_counted (map (described_context a.subordinate) (held_contexts [] a.contexts))
        (λ c i.
        let x = of_map (described_context a.subordinate) c (held_contexts [] a.contexts) i in
        ap context_counted x.2
        ∙ context_of a.subordinate x.0 subordinate
        (of_all is_stored_context x.0 a.contexts contexts (of_held [] a.contexts x.0 x.1)))

    pub root_of : (b : Bool) → references_counted (if b then filter (λ k. length k.pin == 1) a.subordinate else []) ≡ true
    root_of true =
        all_counted (filter (λ k. length k.pin == 1) a.subordinate)
        (λ k i. subordinate k (of_filter (λ (x : Specific). length x.pin == 1) k a.subordinate i).0)
    root_of false = refl

    agent_of : holdings_counted (described_holdings w me a) ≡ true
    agent_of =
        let h : Holdings = described_holdings w me a in
        and_true (list_all context_counted h.own) _ own_of
        (and_true (list_all copy_counted h.copies) _ (copies_of me)
        (and_true (references_counted h.root) (references_counted h.cross) (root_of (is_none a.superior))
        (all_counted a.cross cross)))

  holdings_of : (me : ℕ) → holdings_counted (holdings_described w me) ≡ true
  holdings_of me = by (agent_at w me) refl
    where
      by : (x : Option Agent) → agent_at w me ≡ x
          → holdings_counted (in_option (no_holdings me) (described_holdings w me) x) ≡ true
      by None e = refl
      by (Some a) e =
          agent_of me a (of_all is_stored_agent a w.agents
          (both_true (list_all is_stored_agent w.agents) _ described.stored).0 (at_place w.agents me a e))

pub described_counted : DescribedCounted
described_counted w me d = holdings_of w d me

-- ---- an update

outcome_same : (r : Request) (h : Holdings) (c : Held) (o : UpdatedEntries)
    → context_counted (with_outcome r h c o) ≡ context_counted c
outcome_same r h c (Ok es) = refl
outcome_same r h c (Err x) = refl

changed_same : (r : Request) (h : Holdings) (c : Held) → context_counted (changed_at r h c) ≡ context_counted c
changed_same r h c = by (holds_target r h c)
  where
    by : (b : Bool) → context_counted (if b then with_outcome r h c (apply_over (alone_at r h c) r.body) else c)
        ≡ context_counted c
    by true = outcome_same r h c (apply_over (alone_at r h c) r.body)
    by false = refl

own_same : (r : Request) (h : Holdings) (cs : List Held)
    → list_all context_counted (map (changed_at r h) cs) ≡ list_all context_counted cs
own_same r h [] = refl
own_same r h (c ∷ cs) = ap₂ (λ (a b : Bool). a && b) (changed_same r h c) (own_same r h cs)

pub counted_stays : CountedStays
counted_stays r h = by (apply_over (ground_at r h) r.body)
  where
    by : (o : UpdatedEntries) → holdings_counted (committed_if r h o) ≡ holdings_counted h
    by (Err x) = refl
    by (Ok es) =
        ap (λ (b : Bool). b && (list_all copy_counted h.copies && (references_counted h.root
        && references_counted h.cross))) (own_same r h h.own)
