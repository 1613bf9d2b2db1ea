-- At a line agents hold the same knowledge as at first, with other entries: parts of the one tree, now or at the moment
-- of a refresh. That tree has the described entries, and what accepted updates within the limits made of them; where a
-- context went back to the one above, names begin as that one's entry is spelled.
use Rattle.std.proofs.Common.{◌≡◌, ℕ, ◌-◌, ◌==◌, Bool, true, false, not, ◌&&◌, inl, inr, List, [], ◌∷◌, ◌++◌, length, map, drop, refl, arith, length-append, Option, Some, None, Ok, Err, if◌then◌else◌}
use Rattle.std.proofs.lemmas.List.{length-drop}
use Rattle.std.specs.List.{filter}
use Rattle.x5_model.specs.Words.{is_empty, in_option}
use Rattle.x5_model.specs.Members.{In, here, there}
use Rattle.x5_model.specs.Keys.{Key, same_key, parent}
use Rattle.x5_model.specs.Values.{key_of}
use Rattle.x5_model.specs.Entries.{Named}
use Rattle.x5_model.specs.Requests.{Request}
use Rattle.x5_model.proofs.Lists.{in_either, of_filter, of_flat}
use Rattle.x5_model.proofs.Ascending.{of_sorted}
use Rattle.x5_model_tree.specs.World.{Specific, Agent, Agreement, World}
use Rattle.x5_model_tree.specs.Tree.{Tree, key_at, named_below, entry_at, is_there, belongs, part}
use Rattle.x5_model_tree.specs.Masters.{Mastered, pin_of, mastered, masters, agent_at, held_contexts, all_entries}
use Rattle.x5_model_tree.specs.Apply.{Applied, apply, ground_of}
use Rattle.x5_model_tree.specs.Described.{IsDescribed}
use Rattle.x5_model_tree.proofs.Gives.{of_numbered, owner_of}
use Rattle.x5_model_run.specs.Replant.{respelled_below, unsplit_tree}
use Rattle.x5_model_run.specs.History.{Acceptance, Deed, Nothing, Outs, Loses, Accepts, Refreshes, Splits, Unsplits, Did, Point, tree_with, tree_accepting, tree_after, tree_by, tree_at, tree_of_moment, knowledge_at, as_of, references_below, own_context, sent_references, mastered_at, copy_as_of, copy_by, agreements_of, agent_holdings, no_holdings}
use Rattle.x5_model_updates.proofs.Lookups.{entry_found}
use Rattle.x5_model_updates.proofs.Outcomes.{tree_made}
use Rattle.x5_model_known.proofs.Describing.{at_place}
use Rattle.x5_model_fitting.specs.Names.{Each, NameWithin}
use Rattle.x5_model_fitting.specs.Requests.{RequestWithin}
use Rattle.x5_model_limits.specs.Holding.{BoundedEntry, BoundedSpecific, BoundedContext, BoundedCopy, BoundedHoldings}
use Rattle.x5_model_limits.specs.Described.{world_is_utf8, BoundedDeed, BoundedPast, BoundedMoments}
use Rattle.x5_model_limits.specs.Laws.{LinesBounded}
use Rattle.x5_model_limits.proofs.Lists.{in_end, each_none, each_both, each_kept, each_map, each_some}
use Rattle.x5_model_limits.proofs.Committing.{applied_bounded}
use Rattle.x5_model_limits.proofs.Described.{ContextWithin, AgentWithin, agent_within, agreement_there, copied_within, held_within, below_within, root_within, nothing_held}

-- ---- the one tree

-- entries that an update leaves, or as they were
accepted_within : (t : Tree) (r : Request) → Each BoundedEntry t.entries → RequestWithin r
    → Each BoundedEntry (tree_with t r).entries
accepted_within t r each within = by (apply t r) refl
  where
    or_same : Applied → Tree
    or_same (Ok new) = new
    or_same (Err x) = t

    by : (a : Applied) → apply t r ≡ a → Each BoundedEntry (or_same a).entries
    by (Ok u) e = applied_bounded (ground_of t) each r.body u.entries within.body (tree_made t u r e).0
    by (Err x) e = each

all_accepted_within : (accepted : List Acceptance) (t : Tree) → Each BoundedEntry t.entries
    → Each (λ (x : Acceptance). RequestWithin x.request) accepted
    → Each BoundedEntry (tree_accepting accepted t).entries
all_accepted_within [] t each within = each
all_accepted_within (a ∷ more) t each within =
    all_accepted_within more (tree_with t a.request) (accepted_within t a.request each (within a here))
    (λ x i. within x (there i))

-- a name that begins as another is no longer than one of them
respelled_within : (above e : Named) → BoundedEntry above → BoundedEntry e → BoundedEntry (respelled_below above.name e)
respelled_within above e a b = record {
  name = record {
    few = omega (
      arith,
      a.name.few,
      b.name.few,
      length-append above.name (drop (length above.name) e.name),
      length-drop (length above.name) e.name,
    );
    rdns = λ r i. elim (in_either r above.name (drop (length above.name) e.name) i) [
      | inl j ↦ a.name.rdns r j
      | inr j ↦ b.name.rdns r (in_end (length above.name) r e.name j)
    ];
  };
  some = longer above.name a.some;
  attributes = b.attributes;
}
  where
    longer : (n : List (List Rattle.x5_model.specs.Values.Pair)) → is_empty n ≡ false
        → is_empty (n ++ drop (length above.name) e.name) ≡ false
    longer [] q = absurd (cc q)
    longer (r ∷ n) q = refl

joined_within : (name : Key) (t : Tree) → Each BoundedEntry t.entries → Each BoundedEntry (unsplit_tree name t).entries
joined_within name t each = by (entry_at t.entries (parent name)) refl
  where
    joined : Named → Tree
    joined above = record {
      entries = map (λ e. if is_there (part t name) (key_at e) then respelled_below above.name e else e) t.entries;
      pins = filter (λ p. not (same_key p name)) t.pins;
    }

    by : (o : Option Named) → entry_at t.entries (parent name) ≡ o → Each BoundedEntry (in_option t joined o).entries
    by None q = each
    by (Some above) q =
        each_map BoundedEntry (λ e. if is_there (part t name) (key_at e) then respelled_below above.name e else e)
        t.entries
        (λ e i. either (is_there (part t name) (key_at e)) e (each e i))
      where
        either : (b : Bool) (e : Named) → BoundedEntry e
            → BoundedEntry (if b then respelled_below above.name e else e)
        either true e h = respelled_within above e (each above (entry_found t.entries (parent name) above q).0) h
        either false e h = h

deed_within : (d : Deed) (t : Tree) → BoundedDeed d → Each BoundedEntry t.entries
    → Each BoundedEntry (tree_after d t).entries
deed_within Nothing t b each = each
deed_within (Outs o) t b each = each
deed_within (Loses reply k) t b each = each
deed_within (Accepts accepted) t b each = all_accepted_within accepted t each b
deed_within (Refreshes f) t b each = each
deed_within (Splits name a) t b each = each
deed_within (Unsplits name) t b each = joined_within name t each

module _ (w : World) (described : IsDescribed w) (utf8 : world_is_utf8 w ≡ true) where
  -- a mastered context is its agent's
  pub mastered_within : (m : Mastered) → In m (mastered w) → ContextWithin m.context
  mastered_within m i =
      let o = owner_of w m i in
      (agent_within w described utf8 o.0 (of_numbered 0 w.agents (m.master, o.0) o.1)).contexts m.context o.2

  tree_within : (past : List Did) → BoundedPast past → Each BoundedEntry (tree_by w past).entries
  tree_within [] b e i =
      let f = of_flat (λ (m : Mastered). m.context.entries) e (mastered w)
      (of_sorted named_below e (all_entries w) i) in
      (mastered_within f.0 f.1).entries e f.2
  tree_within (d ∷ before) b e i =
      deed_within d.deed (tree_by w before) (b d here) (tree_within before (λ x j. b x (there j))) e i

-- ---- what agents hold

module _ (p : Point) (first : IsDescribed p.described) (utf8_first : world_is_utf8 p.described ≡ true)
    (described : IsDescribed (knowledge_at p)) (utf8 : world_is_utf8 (knowledge_at p) ≡ true)
    (past : BoundedPast p.past) (moments : BoundedMoments p)
  where
    abbrev w : World
    w = knowledge_at p

    part_within : (n : ℕ) (pin : Key) → Each BoundedEntry (part (tree_by p.described (drop n p.past)) pin)
    part_within n pin =
        let t : Tree = tree_by p.described (drop n p.past) in
        each_kept BoundedEntry (λ e. belongs t.pins pin (key_at e)) t.entries
        (tree_within p.described first utf8_first (drop n p.past) (λ d i. past d (in_end n d p.past i)))

    own_within : (a : Agent) → AgentWithin a
        → Each BoundedContext (map (own_context (tree_at p) a) (held_contexts [] a.contexts))
    own_within a b =
        each_map BoundedContext (own_context (tree_at p) a) (held_contexts [] a.contexts)
        (λ c i.
        let x = held_within w described utf8 a b c i in
        record {
          prefix = x.prefix;
          some = x.some;
          entries = part_within 0 (key_of c.prefix);
          subordinate = below_within w described utf8 a (part (tree_at p) (key_of c.prefix)) b;
        })

    -- what a supplier sends: pins that it masters, and references that it has
    sent_within : (c : Mastered) (es : List Named) → Each BoundedSpecific (sent_references w c es)
    sent_within c es =
        each_both BoundedSpecific (map by_master (filter is_lower (mastered w)))
        (in_option [] others (agent_at w c.master))
        (each_map BoundedSpecific by_master (filter is_lower (mastered w))
        (λ d i.
        let x = mastered_within w described utf8 d (of_filter is_lower d (mastered w) i).0 in
        record { pin = x.prefix; some = x.some }))
        (each_some BoundedSpecific others (agent_at w c.master)
        (λ a e.
        each_kept BoundedSpecific is_other (references_below es a.subordinate)
        (below_within w described utf8 a es (agent_within w described utf8 a (at_place w.agents c.master a e)))))
      where
        is_lower : Mastered → Bool
        is_lower d = (d.master == c.master) && is_there es (parent (pin_of d))

        by_master : Mastered → Specific
        by_master d = record { pin = d.context.prefix; access = record { master = c.master; shadows = [] } }

        is_other : Specific → Bool
        is_other k = not (masters w c.master (key_of k.pin))

        others : Agent → List Specific
        others a = filter is_other (references_below es a.subordinate)

    copy_within : (g : Agreement) (x : Option ℕ) → NameWithin g.context → is_empty g.context ≡ false
        → BoundedContext (copy_as_of p g x)
    copy_within g None name some = record {
      prefix = name;
      some = some;
      entries = each_none BoundedEntry;
      subordinate = each_none BoundedSpecific;
    }
    copy_within g (Some m) name some = by (mastered_at w (key_of g.context))
      where
        es : List Named
        es = part (tree_of_moment p m) (key_of g.context)

        by : (o : Option Mastered)
            → BoundedContext (in_option (record { prefix = g.context; entries = es; subordinate = []; nssrs = [] })
            (λ c. record {
              prefix = g.context;
              entries = es;
              subordinate = sent_references w c es;
              nssrs = c.context.nssrs;
            }) o)
        by None = record {
          prefix = name;
          some = some;
          entries = part_within (length p.past - m) (key_of g.context);
          subordinate = each_none BoundedSpecific;
        }
        by (Some c) = record {
          prefix = name;
          some = some;
          entries = part_within (length p.past - m) (key_of g.context);
          subordinate = sent_within c es;
        }

    copies_within : (me : ℕ) → Each BoundedCopy (map (copy_by p) (agreements_of w me))
    copies_within me =
        each_map BoundedCopy (copy_by p) (agreements_of w me)
        (λ g i.
        let x = copied_within w described utf8 me g i in
        record {
          held = copy_within g (as_of p g.number) x.context x.some;
          stamp = moments g (agreement_there w me g i);
        })

    held_then : (me : ℕ) (a : Agent) → AgentWithin a → BoundedHoldings (agent_holdings p me a)
    held_then me a b = record {
      own = own_within a b;
      copies = copies_within me;
      root = root_within w described utf8 a b;
      cross = b.cross;
    }

pub lines_bounded : LinesBounded
lines_bounded p me first utf8_first described utf8 past moments = by (agent_at (knowledge_at p) me) refl
  where
    by : (x : Option Agent) → agent_at (knowledge_at p) me ≡ x
        → BoundedHoldings (in_option (no_holdings me) (agent_holdings p me) x)
    by None e = nothing_held me
    by (Some a) e =
        held_then p first utf8_first described utf8 past moments me a
        (agent_within (knowledge_at p) described utf8 a (at_place (knowledge_at p).agents me a e))
