-- A supplier that holds what the run says sends what a refresh looks at: its stamp is the run's, and what it sends is counted by
-- its entries or by the changes of its log; and it tells an inactive agreement or the need of a total refresh alone.
use Rattle.std.proofs.Common.{◌≡◌, ℕ, Bool, true, false, ◌⊎◌, inl, inr, nat_lt, length, refl, sym, ap, ◌∙◌, Option, Some, None, Ok}
use Rattle.x5_model.specs.Words.{in_option}
use Rattle.x5_model.specs.Keys.{Key}
use Rattle.x5_model.specs.Values.{key_of}
use Rattle.x5_model_tree.specs.World.{Agreement}
use Rattle.x5_model_run.specs.History.{Point}
use Rattle.x5_model_run.specs.Refresh as refresh
use Rattle.x5_model_run.specs.Refresh.{Changes, changes_at, base_of, count_of, needs_total, peer_moment, full_update_required}
use Rattle.x5_ops.specs.declared.knowledge.Content.{Content}
use Rattle.x5_dse.specs.Linked.{entries_of}
use Rattle.x5_holdings.specs.State.{Kept, State}
use Rattle.x5_supply.specs.Supplied.{supplied, stamp_of, total_of, mastered_of, refreshed_of, content_of_master, content_of_copy}
use Rattle.x5_supply.proofs.Counting.{steps_are_changes}
use Rattle.x5_refresh.specs.Course.{Facts, facts_at}
use Rattle.x5_refresh.specs.Joined.{IsSupplier, IsByFacts, SuppliesAreFacts}
use Rattle.x5_refresh.specs.Sent.{supply_of}

-- what an agent supplies a context from, with its stamp and content
record IsSource (s : State) (pin : Key) : Type 0 where
  kept : Kept
  moment : ℕ
  content : Content
  from : supplied s pin ≡ Some kept
  stamp : stamp_of s pin ≡ Some moment
  whole : total_of s pin ≡ Ok content
  entries : content.entries ≡ entries_of kept.nodes.nodes

module _ (s : State) (pin : Key) where
  source : (stamp_of s pin ≡ None) ⊎ IsSource s pin
  source = by (mastered_of s pin) refl (refreshed_of s pin) refl
    where
      by : (a : Option Kept) → mastered_of s pin ≡ a → (r : Option (Kept × ℕ)) → refreshed_of s pin ≡ r
          → (stamp_of s pin ≡ None) ⊎ IsSource s pin
      by (Some c) e r f = inr (record {
        kept = c;
        moment = s.moment;
        content = content_of_master s c;
        from = rw e refl;
        stamp = rw e refl;
        whole = rw e refl;
        entries = refl;
      })
      by None e (Some r) f = inr (record {
        kept = r.0;
        moment = r.1;
        content = content_of_copy r.0;
        from = rw e (rw f refl);
        stamp = rw e (rw f refl);
        whole = rw e (rw f refl);
        entries = refl;
      })
      by None e None f = inl (rw e (rw f refl))

module _ (p : Point) (push : Bool) (g : Agreement) (s : State) (is : IsSupplier p g s) where
  abbrev pin : Key
  pin = key_of g.context

  -- the facts of a refresh that goes on from a moment
  abbrev facts : Bool → Option ℕ → Facts
  facts total last =
      record (facts_at p push total g) {
        needs = needs_total p g last;
        count = in_option 0 (count_of p total g last) (refresh.supplied p g);
      }

  nothing : (total : Bool) (last : Option ℕ) → stamp_of s pin ≡ None → IsByFacts total (facts total last) (supply_of s pin total last)
  nothing total last e = rw e (rw (sym is.stamp ∙ e) refl)

  module _ (x : IsSource s pin) where
    at : refresh.supplied p g ≡ Some x.moment
    at = sym is.stamp ∙ x.stamp

    whole : (last : Option ℕ) → IsByFacts true (facts true last) (supply_of s pin true last)
    whole last =
        rw x.stamp (rw x.whole (rw at (refl, refl, ap length (x.entries ∙ is.entries x.kept x.moment x.from at))))

    later : (last : Option ℕ) → IsByFacts false (facts false last) (supply_of s pin false last)
    later None = rw x.stamp (rw x.from (rw at refl))
    later (Some m) = by (nat_lt m (base_of (changes_at p g.supplier pin))) refl
      where
        by : (b : Bool) → nat_lt m (base_of (changes_at p g.supplier pin)) ≡ b
            → IsByFacts false (facts false (Some m)) (supply_of s pin false (Some m))
        by true e =
            let counted = steps_are_changes x.kept.log (changes_at p g.supplier pin) m (is.log x.kept x.from) in
            rw x.stamp (rw x.from (rw (counted.0 e) (rw at (rw e refl))))
        by false e =
            let counted = steps_are_changes x.kept.log (changes_at p g.supplier pin) m (is.log x.kept x.from) in
            rw x.stamp (rw x.from (rw (counted.1 e).0 (rw at (rw e (refl, refl, (counted.1 e).1)))))

  supplies : (total : Bool) → (stamp_of s pin ≡ None) ⊎ IsSource s pin
      → IsByFacts total (facts_at p push total g) (supply_of s pin total (peer_moment p push g))
  supplies total (inl e) = nothing total (peer_moment p push g) e
  supplies true (inr x) = whole x (peer_moment p push g)
  supplies false (inr x) = later x (peer_moment p push g)

pub supplies_are_facts : SuppliesAreFacts
supplies_are_facts p push total g s is = supplies p push g s is total (source s (key_of g.context))
