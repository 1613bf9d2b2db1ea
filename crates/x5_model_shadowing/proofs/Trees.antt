-- The one tree has entries that can be sent, at every line of a run whose accepted updates are within the limits: those
-- that the file describes, and what the updates made of them.
use Rattle.std.proofs.Common.{◌≡◌, ℕ, ◌-◌, zero, suc, ◌&&◌, true, List, [], ◌∷◌, length, drop, refl, Ok, Err}
use Rattle.std.specs.List.{list_all}
use Rattle.x5_model.specs.Members.{In, here, there}
use Rattle.x5_model.specs.Words.{is_empty}
use Rattle.x5_model.specs.Values.{last_rdn}
use Rattle.x5_model.specs.Attributes.{is_ordered, has_rdn}
use Rattle.x5_model.specs.Statics.{entry_refusals}
use Rattle.x5_model.proofs.Lists.{both_true, of_all, of_flat}
use Rattle.x5_model.proofs.Ascending.{of_sorted}
use Rattle.x5_model_tree.specs.World.{Context, World}
use Rattle.x5_model_tree.specs.Tree.{Tree, named_below}
use Rattle.x5_model_tree.specs.Masters.{Mastered, mastered, all_entries}
use Rattle.x5_model_tree.specs.Apply.{Applied, apply}
use Rattle.x5_model_tree.specs.Described.{is_stored, is_stored_attribute, is_stored_entry, is_stored_context, is_stored_agent, is_entry_name, is_kept, is_rooted, is_context, is_agent, is_agent_name, IsDescribed}
use Rattle.x5_model_tree.proofs.Gives.{of_numbered, owner_of}
use Rattle.x5_model_run.specs.History.{Acceptance, Deed, Nothing, Outs, Loses, Accepts, Refreshes, Splits, Unsplits, Did, Point, tree_with, tree_accepting, tree_after, tree_by, tree_at}
use Rattle.x5_model_refreshed.specs.Replaying.{AreTaken, Happens, AllHappen}
use Rattle.x5_model_fitting.specs.Names.{Each}
use Rattle.x5_model_fitting.specs.Requests.{RequestWithin}
use Rattle.x5_model_limits.specs.Described.{world_is_utf8, BoundedDeed, BoundedPast}
use Rattle.x5_model_limits.proofs.Lists.{in_end}
use Rattle.x5_model_limits.proofs.AtLines.{mastered_within}
use Rattle.x5_model_shadowed.specs.Sending.{SendableEntry}
use Rattle.x5_model_shadowing.specs.Lines.{IsBoundedLine, TreesSendable}
use Rattle.x5_model_shadowing.proofs.Updates.{applied_sendable}

-- ---- what a file describes

module _ (w : World) (described : IsDescribed w) (utf8 : world_is_utf8 w ≡ true) where
  -- a mastered context's entries
  pub mastered_sendable : (m : Mastered) → In m (mastered w) → Each SendableEntry m.context.entries
  mastered_sendable m i e j =
      let o = owner_of w m i in
      let a = of_numbered 0 w.agents (m.master, o.0) o.1 in
      let c : Context = m.context in
      let s = both_true (list_all is_stored_agent w.agents) _ described.stored in
      let t = both_true (list_all is_stored_context o.0.contexts) _ (of_all is_stored_agent o.0 w.agents s.0 a) in
      let x = both_true (is_stored c.prefix) _ (of_all is_stored_context c o.0.contexts t.0 o.2) in
      let y = both_true (list_all is_stored_entry c.entries) _ x.1 in
      let z = both_true (is_stored e.name) (list_all is_stored_attribute e.entry.attributes)
      (of_all is_stored_entry e c.entries y.0 j) in
      let p = both_true (is_agent_name o.0.name) _ (of_all (is_agent w) o.0 w.agents described.agents a) in
      let q = both_true (list_all (is_context w) o.0.contexts) _ p.1 in
      let r = both_true (is_rooted c c.entries) _ (of_all (is_context w) c o.0.contexts q.0 o.2) in
      let k = both_true (list_all is_kept c.entries) _ r.1 in
      let l = both_true (is_entry_name e.name)
      (is_ordered e.entry && (has_rdn e.entry (last_rdn e.name) && is_empty (entry_refusals e.entry)))
      (of_all is_kept e c.entries k.0 j) in
      let n = both_true (is_ordered e.entry)
      (has_rdn e.entry (last_rdn e.name) && is_empty (entry_refusals e.entry)) l.1 in
      record {
        bounded = (mastered_within w described utf8 m i).entries e j;
        kinds = z.1;
        ordered = n.0;
      }

-- ---- what updates make of it

accepted_sendable : (accepted : List Acceptance) (t : Tree) → AreTaken t accepted
    → Each (λ (x : Acceptance). RequestWithin x.request) accepted → Each SendableEntry t.entries
    → Each SendableEntry (tree_accepting accepted t).entries
accepted_sendable [] t taken within each = each
accepted_sendable (a ∷ more) t taken within each =
    accepted_sendable more (tree_with t a.request) taken.2 (λ x i. within x (there i)) (by (apply t a.request) refl)
  where
    or_same : Applied → Tree
    or_same (Ok new) = new
    or_same (Err x) = t

    by : (o : Applied) → apply t a.request ≡ o → Each SendableEntry (or_same o).entries
    by (Ok u) e = applied_sendable t u a.request (within a here) e each
    by (Err x) e = each

module _ (w : World) (described : IsDescribed w) (utf8 : world_is_utf8 w ≡ true) where
  deed_sendable : (before : List Did) (d : Deed) → Happens (record { described = w; past = before }) d → BoundedDeed d
      → Each SendableEntry (tree_by w before).entries → Each SendableEntry (tree_after d (tree_by w before)).entries
  deed_sendable before Nothing h b each = each
  deed_sendable before (Outs o) h b each = each
  deed_sendable before (Loses reply k) h b each = each
  deed_sendable before (Accepts accepted) h b each = accepted_sendable accepted (tree_by w before) h b each
  deed_sendable before (Refreshes f) h b each = each
  deed_sendable before (Splits name a) h b each = absurd h
  deed_sendable before (Unsplits name) h b each = absurd h

  pub tree_sendable : (past : List Did) → AllHappen w past → BoundedPast past
      → Each SendableEntry (tree_by w past).entries
  tree_sendable [] h b e i =
      let f = of_flat (λ (m : Mastered). m.context.entries) e (mastered w)
      (of_sorted named_below e (all_entries w) i) in
      mastered_sendable w described utf8 f.0 f.1 e f.2
  tree_sendable (d ∷ before) h b e i =
      deed_sendable before d.deed h.0 (b d here) (tree_sendable before h.1 (λ x j. b x (there j))) e i

-- the lines before an earlier one
happened_before : (w : World) (k : ℕ) (past : List Did) → AllHappen w past → AllHappen w (drop k past)
happened_before w zero past h = h
happened_before w (suc k) [] h = h
happened_before w (suc k) (d ∷ before) h = happened_before w k before h.1

-- that which the line finds
pub trees_now : (p : Point) → IsBoundedLine p → Each SendableEntry (tree_at p).entries
trees_now p line = tree_sendable p.described line.led.described line.texts p.past line.led.happened line.accepted

pub trees_sendable : TreesSendable
trees_sendable p m line =
    let k : ℕ = length p.past - m in
    tree_sendable p.described line.led.described line.texts (drop k p.past)
    (happened_before p.described k p.past line.led.happened) (λ d i. line.accepted d (in_end k d p.past i))
