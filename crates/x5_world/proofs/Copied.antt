-- What the consumer's copy is once a refresh was taken is what the run says of the next line.
use Rattle.std.proofs.Common.{◌≡◌, ℕ, ◌-◌, false, List, [], ◌∷◌, ◌++◌, length, map, drop, refl, sym, ap, ◌∙◌, nat_lt, if◌then◌else◌, Option, Some, None, Ok, Err}
use Rattle.std.specs.Option.{option_map}
use Rattle.std.proofs.lemmas.List.{drop-map, length-map, map-append}
use Rattle.x5_model.specs.Words.{first_of, in_option}
use Rattle.x5_model.specs.Members.{In}
use Rattle.x5_model.specs.Keys.{Key}
use Rattle.x5_model.specs.Values.{Name, key_of}
use Rattle.x5_model_tree.specs.World.{Agent, Agreement, Nssr as ModelNssr}
use Rattle.x5_model_tree.specs.Masters.{agent_at}
use Rattle.x5_model_run.specs.Holdings.{Copy, Held, Holdings}
use Rattle.x5_model_run.specs.History.{Point, Refreshed, agent_holdings, as_of, copy_as_of, copy_by, holdings_at, knowledge_at, moment_of, no_holdings, sent_references}
use Rattle.x5_model_run.specs.Refresh as refresh
use Rattle.x5_model_refreshed.specs.Steps.{Step, replay}
use Rattle.x5_model_refreshed.specs.Logs.{Log, log_at, stamped, steps_later}
use Rattle.x5_model_refreshed.specs.Lengthening.{base_more, base_noting, kept_more, kept_noting}
use Rattle.x5_model_refreshed.specs.Renewing.{renewed}
use Rattle.x5_model_refreshed.specs.Replaying.{IsBrought, IsLed}
use Rattle.x5_model_refreshed.proofs.Lying.{copy_advances}
use Rattle.x5_model_refreshed.proofs.Sources.{consumer_supplies, master_supplies}
use Rattle.x5_ops.specs.declared.knowledge.Content.{Content}
use Rattle.x5_ops.specs.declared.knowledge.Nssr.{Nssr}
use Rattle.x5_ops.specs.declared.knowledge.Step.{Step as CodeStep}
use Rattle.x5_ops.specs.KnowledgeViews.{nssr_view, specific_view}
use Rattle.x5_dse.specs.Linked.{entries_of}
use Rattle.x5_holdings.specs.declared.log.Logged.{Logged}
use Rattle.x5_holdings.specs.Logs as holdings
use Rattle.x5_holdings.specs.State.{CopyKept, Kept, State, copy_view, held_view, holdings_view, stamp_of as stamp_in}
use Rattle.x5_supply.specs.Copying.{content_view}
use Rattle.x5_supply.specs.Supplied.{content_of_copy, content_of_master, copy_of, mastered_of, of_master, or_else, or_inactive, total_of}
use Rattle.x5_supply.specs.Supplied as supply
use Rattle.x5_supply.proofs.Copying.{master_sends}
use Rattle.x5_supply.proofs.Counting.{copy_sends}
use Rattle.x5_consume.specs.Steps.{steps_view}
use Rattle.x5_consume.specs.Taken.{AreNoted, IsAdvanced, IsContent, IsReplaced}
use Rattle.x5_world.specs.Logs.{Notes, logs_at}
use Rattle.x5_world.specs.LogViews.{logged_view, logs_view, notes_view}
use Rattle.x5_world.proofs.Acceptable.{ok_is}
use Rattle.x5_world.proofs.Courses.{some_is}
use Rattle.x5_world.proofs.Suppliers.{copied_is, copy_prefix, held_is, stamp_is}

-- ---- what is sent

-- to which context an NSSR belongs no definition sees
nssrs_seen : (xs : List Nssr) → map nssr_view (map supply.nssr xs) ≡ map nssr_view xs
nssrs_seen [] = refl
nssrs_seen (x ∷ xs) = ap (λ (ys : List ModelNssr). nssr_view x ∷ ys) (nssrs_seen xs)

prefixes_seen : (xs : List Kept) → map (λ (h : Held). h.prefix) (map held_view xs) ≡ map (λ (c : Kept). c.prefix) xs
prefixes_seen [] = refl
prefixes_seen (x ∷ xs) = ap (λ (ys : List Name). x.prefix ∷ ys) (prefixes_seen xs)

me_is : (p : Point) (a : ℕ) → (holdings_at p a).me ≡ a
me_is p a = by (agent_at (knowledge_at p) a)
  where
    by : (o : Option Agent) → (in_option (no_holdings a) (agent_holdings p a) o).me ≡ a
    by None = refl
    by (Some b) = refl

module _ (p : Point) (g : Agreement) (s : State) (led : IsLed p) (holds : holdings_view s ≡ holdings_at p g.supplier)
    (logs : logs_view s ≡ logs_at p g.supplier) (moment : s.moment ≡ moment_of p) where
  abbrev pin : Key
  pin = key_of g.context

  -- a content that is sent is the copy as of the stamp
  pub content_so : (content : Content) (m : ℕ) → total_of s pin ≡ Ok content → refresh.supplied p g ≡ Some m
      → content_view g.context content ≡ copy_as_of p g (Some m)
  content_so content m e at = by (mastered_of s pin) refl (copy_of s pin) refl e (stamp_is p g s led holds logs moment ∙ at)
    where
      inactive : Err refresh.inactive_agreement ≡ Ok content → ⊥
      inactive z = cc

      from : (d : CopyKept) → copy_of s pin ≡ Some d → (o : Option (Kept × ℕ)) → d.refreshed ≡ o
          → or_inactive (option_map content_of_copy (option_map (λ (r : Kept × ℕ). r.0) o)) ≡ Ok content
          → option_map (λ (r : Kept × ℕ). r.1) o ≡ Some m → content_view g.context content ≡ copy_as_of p g (Some m)
      from d f None r q t = absurd (inactive q)
      from d f (Some x) r q t =
          let is : d.refreshed ≡ Some (x.0, m) = r ∙ (λ i. Some (x.0, some_is t i)) in
          ap (content_view g.context) (sym (ok_is q)) ∙ copy_sends g.context d x.0 m is
          ∙ sym (consumer_supplies p g (copy_view d) m led (copied_is p g s led holds logs moment ∙ ap (option_map copy_view) f) (ap stamp_in is))

      by : (o : Option Kept) → mastered_of s pin ≡ o → (d : Option CopyKept) → copy_of s pin ≡ d
          → or_inactive (or_else (option_map (content_of_master s) o) (option_map content_of_copy (option_map (λ (r : Kept × ℕ). r.0) (in_option None (λ (x : CopyKept). x.refreshed) d)))) ≡ Ok content
          → or_else (option_map (λ (k : Kept). s.moment) o) (option_map (λ (r : Kept × ℕ). r.1) (in_option None (λ (x : CopyKept). x.refreshed) d)) ≡ Some m
          → content_view g.context content ≡ copy_as_of p g (Some m)
      by (Some c) f d z q t =
          let now : moment_of p ≡ m = sym moment ∙ some_is t in
          let x = master_supplies p g (held_view c) led (held_is p g s led holds logs moment ∙ ap (option_map held_view) f) in
          let sends : map specific_view (of_master s c) ≡ sent_references (knowledge_at p) x.of_it (entries_of c.nodes.nodes) =
          master_sends (knowledge_at p) x.of_it x.agent s c
          (record {
            me = x.me ∙ sym (me_is p g.supplier) ∙ sym (ap (λ (h : Holdings). h.me) holds);
            agent = x.here;
            contexts = sym (prefixes_seen s.own) ∙ ap (λ (h : Holdings). map (λ (y : Held). y.prefix) h.own) holds ∙ x.contexts;
          })
          x.references in
          ap (content_view g.context) (sym (ok_is q))
          ∙ (λ i. record {
            prefix = g.context;
            entries = entries_of c.nodes.nodes;
            subordinate = sends i;
            nssrs = nssrs_seen c.nssrs i;
          })
          ∙ sym x.copy ∙ ap (λ (n : ℕ). copy_as_of p g (Some n)) now
      by None f (Some d) z q t = from d z d.refreshed refl q t
      by None f None z q t = absurd (inactive q)

-- ---- the copy that was taken

module _ (p : Point) (g : Agreement) (d u : CopyKept) (same : copy_view d ≡ copy_by p g) where
  prefix_is : d.prefix ≡ g.context
  prefix_is = ap (λ (c : Copy). c.held.prefix) same ∙ copy_prefix p g (as_of p g.number)

  pub replaced_so : (content : Content) (m : ℕ) → IsReplaced content m d u
      → content_view g.context content ≡ copy_as_of p g (Some m) → copy_view u ≡ renewed p g m
  replaced_so content m r e =
      ap copy_view r.after_is
      ∙ (λ i. record {
        held = record {
          prefix = prefix_is i;
          entries = r.content_is.entries i;
          subordinate = map specific_view (r.content_is.subordinate i);
          nssrs = map nssr_view (r.content_is.nssrs i);
        };
        stamp = Some m;
        supplier = ap (λ (c : Copy). c.supplier) same i;
      })
      ∙ ap (λ (h : Held). record { held = h; stamp = Some m; supplier = g.supplier }) e

  pub advanced_so : (given : List CodeStep) (m from : ℕ) (f : Refreshed) → IsLed p → IsBrought p f → f.total ≡ false
      → In g (knowledge_at p).agreements → g.number ≡ f.agreement → f.stamp ≡ m → as_of p g.number ≡ Some from
      → steps_later from (log_at p g.supplier (key_of g.context)) ≡ steps_view given → IsAdvanced given m d u
      → copy_view u ≡ renewed p g m
  advanced_so given m from f led brought incremental mine numbered stamp at steps a =
      let seen : copy_view (record d { refreshed = Some (a.old, a.last) }) ≡ copy_by p g =
      ap (λ (o : Option (Kept × ℕ)). copy_view (record d { refreshed = o })) (sym a.was) ∙ same in
      ap copy_view a.after_is
      ∙ (λ i. record {
        held = record {
          prefix = d.prefix;
          entries = a.done.entries i;
          subordinate = map specific_view (a.done.subordinate i);
          nssrs = map nssr_view (a.done.nssrs i);
        };
        stamp = Some m;
        supplier = d.supplier;
      })
      ∙ (λ i. record {
        held = record (seen i).held { entries = replay (sym steps i) (seen i).held.entries };
        stamp = Some (sym stamp i);
        supplier = (seen i).supplier;
      })
      ∙ sym (copy_advances p f g from led brought incremental mine numbered at)
      ∙ ap (renewed p g) stamp

-- ---- and its log

pub began : (content : Content) (m : ℕ) (kept : Kept) → IsContent content m kept
    → notes_view kept.log ≡ record { base = m; changes = [] }
began content m kept is = λ i. record { base = is.base i; changes = map logged_view (is.changes i) }

first_mapped : (base : ℕ) (xs : List Logged)
    → in_option base (λ (y : Logged). y.moment) (first_of xs) ≡ in_option base (λ (y : ℕ × Step). y.0) (first_of (map logged_view xs))
first_mapped base [] = refl
first_mapped base (x ∷ xs) = refl

noted_one : (old after : holdings.Log) (x : Logged) → holdings.IsLogged old x after
    → notes_view after ≡ record {
      base = base_more old.base (map logged_view old.changes);
      changes = kept_more (map logged_view old.changes) (logged_view x);
    }
noted_one old after x l =
    let n : length old.changes ≡ length (map logged_view old.changes) = sym (length-map old.changes logged_view) in
    let base : after.base ≡ base_more old.base (map logged_view old.changes) =
    l.base ∙ ap (λ (z : ℕ). if nat_lt (length old.changes) 256 then old.base else z) (first_mapped old.base old.changes)
    ∙ ap (λ (k : ℕ). if nat_lt k 256 then old.base else in_option old.base (λ (y : ℕ × Step). y.0) (first_of (map logged_view old.changes))) n in
    let changes : map logged_view after.changes ≡ kept_more (map logged_view old.changes) (logged_view x) =
    ap (map logged_view) l.changes
    ∙ map-append logged_view (drop (length old.changes - 255) old.changes) (x ∷ [])
    ∙ ap (λ (zs : Log). zs ++ logged_view x ∷ []) (sym (drop-map logged_view (length old.changes - 255) old.changes))
    ∙ ap (λ (k : ℕ). drop (k - 255) (map logged_view old.changes) ++ logged_view x ∷ []) n in
    λ i. record { base = base i; changes = changes i }

-- steps are noted one after another at the stamp
pub noted_all : (m : ℕ) (given : List CodeStep) (old new : holdings.Log) → AreNoted m old given new
    → notes_view new ≡ record {
      base = base_noting old.base (map logged_view old.changes) (stamped m (steps_view given));
      changes = kept_noting (map logged_view old.changes) (stamped m (steps_view given));
    }
noted_all m [] old new e = λ i. record { base = e.0 i; changes = map logged_view (e.1 i) }
noted_all m (s ∷ more) old new e =
    let mid : holdings.Log = e.0 in
    let one = noted_one old mid (record { moment = m; step = s }) e.1 in
    noted_all m more mid new e.2
    ∙ ap (λ (n : Notes). record {
      base = base_noting n.base n.changes (stamped m (steps_view more));
      changes = kept_noting n.changes (stamped m (steps_view more));
    }) one
