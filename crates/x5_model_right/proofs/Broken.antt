-- A probe that is answered by `unavailable` is broken: what it needs is of name resolution, and there the new name is a pin
-- that the agent has a copy of and doesn't master, so it asks its supplier, and that one its own, four hops at most; and
-- somebody on the way wasn't heard.
use Rattle.std.proofs.Common.{◌≡◌, ℕ, suc, ◌+◌, ◌-◌, ◌<◌, ◌≤◌, nat_lt, Bool, true, false, not, ◌&&◌, ◌||◌, ◌==◌, ◌⊎◌, if◌then◌else◌, inl, inr, List, [], ◌∷◌, ◌++◌, map, length, refl, sym, ap, subst, ◌∙◌, arith, length-append, Option, Some, None}
use Rattle.std.specs.Option.{is_some}
use Rattle.x5_model.specs.Words.{is_empty, has, in_option, some_and, first_of, when}
use Rattle.x5_model.specs.Members.{In, here, there}
use Rattle.x5_model.specs.Keys.{Key, IsPrefix, same_key}
use Rattle.x5_model.specs.Values.{Name, key_of}
use Rattle.x5_model.specs.Entries.{Named}
use Rattle.x5_model.specs.Problems.{unavailable}
use Rattle.x5_model.specs.Requests.{Request}
use Rattle.x5_model.specs.References.{Progress, Next, Supplier, Subordinate, Reference, Chained}
use Rattle.x5_model.proofs.KeyLaws.{key_decides}
use Rattle.x5_model.proofs.Decide.{nat_same_decides, less_decides}
use Rattle.x5_model.proofs.Lists.{both_true, and_true, either_true, or_left, or_right, in_first, in_left, in_either, in_map, of_map, of_find, not_found, of_all, has_in}
use Rattle.x5_model.proofs.Prefixes.{prefix_itself, prefix_length, same_by_length}
use Rattle.x5_model_tree.specs.World.{Specific, Nssr}
use Rattle.x5_model_tree.specs.Tree.{key_at, lowest, part}
use Rattle.x5_model_tree.proofs.Longest.{IsLowest, longest_is, lowest_right}
use Rattle.x5_model_run.specs.Network.{is_sent, is_unheard}
use Rattle.x5_model_run.specs.Journal.{Line, Journal, depth, same_name, same_kind, same_progress, is_done, is_wide, item_of, settled, opened_by, leads_up}
use Rattle.x5_model_run.specs.Holdings.{Held, Copy, Holdings, prefixes, subordinates, known_pins, known_pin, held_at, masters_pin, copy_at, holds_within}
use Rattle.x5_model_run.specs.Needs.{proceeding, resolves, resolves_by, nssr_at, to_nssr, from_lowest, multicast_needs, copy_answers, supplier_needs, specific_needs, foreign_needs, pin_needs, resolution_needs, due_probes, needs}
use Rattle.x5_model_run.specs.History.{Point, knowledge_at, tree_at, world_at, holdings_at}
use Rattle.x5_model_run.specs.Chain.{Scene, Follows, AllLicensed, IsCarried, is_user, probe_request, is_probe, asks_part, asks_by, is_asked, is_in_vain, is_broken, is_broken_line, is_broken_off, suppliers_above}
use Rattle.x5_model_run.specs.Blocked.{is_answered_line, came_back, hears_by, IsLost, user, asked}
use Rattle.x5_model_run.proofs.Journals.{settled_at, leads_from}
use Rattle.x5_model_theory.specs.Knowledge.{Supply, IsMastered}
use Rattle.x5_model_theory.specs.Coherent.{Coherent, IsFed, fed}
use Rattle.x5_model_theory.specs.Described.{supply_of, knowledge_of}
use Rattle.x5_model_theory.proofs.Holding.{good_at, by_agent, own_mastered}
use Rattle.x5_model_theory.proofs.Longest.{respelled_key}
use Rattle.x5_model_theory.proofs.Stages.{key_length}
use Rattle.x5_model_theory.proofs.Rows.{within_is, copy_of}
use Rattle.x5_model_updates.specs.Standing.{StandsWhole}
use Rattle.x5_model_updates.proofs.Held.{of_held, mastered_still}
use Rattle.x5_model_updates.proofs.Trees.{entry_in_area}
use Rattle.x5_model_joins.proofs.Untried.{of_contains}
use Rattle.x5_model_serve.specs.Serving.{Hand, line_for, Hears, holds_now, is_spent}
use Rattle.x5_model_serve.specs.Claims.{AtMaster, asked_line, line_at, depth_at}
use Rattle.x5_model_verdicts.proofs.At.{form, of_settled}
use Rattle.x5_model_verdicts.proofs.Asked.{asks, same_target, goes_on}
use Rattle.x5_model_verdicts.proofs.NewName.{probe, new_is, name_inside}
use Rattle.x5_model_verdicts.proofs.Below.{At, at_in, before_in, either_first, some_at, licensed_at, same_number, never_again, ended, climbs, opened}
use Rattle.x5_model_verdicts.proofs.Probing.{of_agents, probe_resolves}
use Rattle.x5_model_right.specs.Kept.{Ground}
use Rattle.x5_model_right.specs.Updated.{Unsure}
use Rattle.x5_model_right.proofs.Kept.{at_hand_later, may_later}
use Rattle.x5_model_right.proofs.Journeys.{sound}
use Rattle.x5_model_right.proofs.Sending.{progress_itself}
use Rattle.x5_model_right.proofs.Taking.{snoc_before}
use Rattle.x5_model_right.proofs.Probing.{is_probe_here, not_spent, probe_lost, rests_probing, probed_vain}
use Rattle.x5_model_right.proofs.Probed.{at_some}

-- ---- members of what may be empty

of_option : {X Y : Type 0} (f : X → List Y) (o : Option X) (y : Y) → In y (in_option [] f o) → (x : X) × (o ≡ Some x) × In y (f x)
of_option f None y i = elim i [ ]
of_option f (Some x) y i = (x, refl, i)

of_if : {Y : Type 0} (b : Bool) (ys : List Y) (y : Y) → In y (if b then ys else []) → (b ≡ true) × In y ys
of_if true ys y i = (refl, i)
of_if false ys y i = elim i [ ]

of_when : {Y : Type 0} (b : Bool) (x y : Y) → In y (when b x) → (b ≡ true) × (y ≡ x)
of_when true x y i = elim (in_first y x [] i) [ inl e ↦ (refl, e) | inr j ↦ elim j [ ] ]
of_when false x y i = elim i [ ]

-- ---- what is needed for a name that is a pin held here

-- the supplier of its copy
record Supplied (h : Holdings) (m : Chained) (r : Reference) : Type 0 where
  copy : Copy
  copied : copy_at h (key_of m.target) ≡ Some copy
  free : held_at h.own (key_of m.target) ≡ None
  is : r ≡ proceeding (length copy.held.prefix) copy.held.prefix m.target Supplier (copy.supplier ∷ [])

module _ (p : Point) (st : StandsWhole p) (o : ℕ) (m : Chained) where
  here_known : (x : Name) → In x (prefixes (holdings_at p o)) → key_of x ≡ key_of m.target
      → In (key_of m.target) (map key_of (known_pins m.request (holdings_at p o)))
  here_known x i same =
      subst (λ (y : Key). In y (map key_of (known_pins m.request (holdings_at p o)))) same
      (in_map key_of x (known_pins m.request (holdings_at p o))
      (in_left x (prefixes (holdings_at p o) ++ map (λ (y : Specific). y.pin) (subordinates m.request (holdings_at p o)))
      (map (λ (y : Specific). y.pin) (holdings_at p o).cross)
      (in_left x (prefixes (holdings_at p o)) (map (λ (y : Specific). y.pin) (subordinates m.request (holdings_at p o))) i)))

  -- a context of its own has an entry with that name, so nothing below it is looked for
  none_own : (c : Held) → held_at (holdings_at p o).own (key_of m.target) ≡ Some c → (r : Reference)
      → In r (multicast_needs (holdings_at p o) m c) → ⊥
  none_own c held r i =
      let f = of_find (λ (y : Held). same_key (key_of y.prefix) (key_of m.target)) c (holdings_at p o).own held in
      let pin : key_of c.prefix ≡ key_of m.target = (key_decides (key_of c.prefix) (key_of m.target)).0 f.1 in
      let owned = of_held p st o c f.0 in
      let mastered : IsMastered (knowledge_of (knowledge_at p)) o (key_of c.prefix) =
      by_agent p o (λ (y : Holdings). In c y.own → IsMastered (knowledge_of (knowledge_at p)) o (key_of c.prefix)) (λ j. elim j [ ])
      (λ a ia j. own_mastered p o a c ia j) f.0 in
      let now = mastered_still p st o (key_of c.prefix) mastered in
      let e = entry_in_area (knowledge_of (world_at p)) (tree_at p) st.coherent st.tree now.0 now.0.prefix now.1
      (st.coherent.headed now.0 now.1) in
      let key : key_at e.0 ≡ key_of m.target = e.2 ∙ now.3 ∙ pin in
      let w = of_option {X = Named} {Y = Reference} (from_lowest (holdings_at p o) m c) (lowest c.entries (key_of m.target)) r i in
      let low : IsLowest c.entries (key_of m.target) (length (key_of m.target)) (Some w.0) =
      subst (λ (y : Option Named). IsLowest c.entries (key_of m.target) (length (key_of m.target)) y) w.1
      (lowest_right c.entries (key_of m.target)) in
      let there_it : In e.0 c.entries =
      subst (λ (y : Held). In e.0 y.entries) (sym owned.6) (subst (λ (q : Key). In e.0 (part (tree_at p) q))
      (now.3 ∙ ap (λ (y : Held). key_of y.prefix) owned.6) e.1) in
      let long : length (key_at e.0) ≤ length (key_at w.0) =
      low.1.1 e.0 there_it (subst (λ (y : Key). IsPrefix y (key_of m.target)) (sym key) (prefix_itself (key_of m.target)))
      (subst (λ (y : Key). length y ≤ length (key_of m.target)) (sym key) (omega arith)) in
      let size : length (key_at e.0) ≡ length (key_of m.target) = ap length key in
      let most = prefix_length (key_at w.0) (key_of m.target) low.1.0 in
      let same : key_at w.0 ≡ key_of m.target = same_by_length (key_at w.0) (key_of m.target) (key_of m.target) low.1.0
      (prefix_itself (key_of m.target)) (omega (arith, long, size, most)) in
      let v = of_option {X = Nssr} {Y = Reference} (to_nssr (holdings_at p o) m w.0) (nssr_at c.nssrs (key_of w.0.name)) r w.2 in
      let other = (both_true (not (same_name w.0.name m.target)) _ (of_when _ _ r v.2).0).0 in
      let yes : not (same_name w.0.name m.target) ≡ false = ap not ((key_decides (key_of w.0.name) (key_of m.target)).1 same) in
      let z : true ≡ false = sym other ∙ yes in cc
    where
      within : {A : Type 0} (c : Held) (is : A) → A
      within c is = is

  -- who has it neither as a context of its own nor as a copy doesn't hold it
  held_some : (x : Name) → In x (prefixes (holdings_at p o)) → key_of x ≡ key_of m.target
      → held_at (holdings_at p o).own (key_of m.target) ≡ None → copy_at (holdings_at p o) (key_of m.target) ≡ None → ⊥
  held_some x i same none no_copy = elim (in_either x (map (λ (c : Held). c.prefix) (holdings_at p o).own)
      (map (λ (c : Copy). c.held.prefix) (holdings_at p o).copies) i) [
        | inl j ↦
            let c = of_map (λ (c : Held). c.prefix) x (holdings_at p o).own j in
            let off : same_key (key_of c.0.prefix) (key_of m.target) ≡ false = not_found
            (λ (y : Held). same_key (key_of y.prefix) (key_of m.target)) c.0 (holdings_at p o).own none c.1 in
            let on : same_key (key_of c.0.prefix) (key_of m.target) ≡ true = (key_decides (key_of c.0.prefix) (key_of m.target)).1
            (ap key_of (sym c.2) ∙ same) in
            let z : true ≡ false = sym on ∙ off in cc
        | inr j ↦
            let c = of_map (λ (c : Copy). c.held.prefix) x (holdings_at p o).copies j in
            let off : same_key (key_of c.0.held.prefix) (key_of m.target) ≡ false = not_found
            (λ (y : Copy). same_key (key_of y.held.prefix) (key_of m.target)) c.0 (holdings_at p o).copies no_copy c.1 in
            let on : same_key (key_of c.0.held.prefix) (key_of m.target) ≡ true =
            (key_decides (key_of c.0.held.prefix) (key_of m.target)).1 (ap key_of (sym c.2) ∙ same) in
            let z : true ≡ false = sym on ∙ off in cc
      ]

  by_supplier : m.progress ≡ Next (length (key_of m.target)) → (r : Reference) → In r (resolution_needs (holdings_at p o) m)
      → Supplied (holdings_at p o) m r
  by_supplier progress r i =
      let a = of_if (resolves (holdings_at p o) m) (pin_needs (holdings_at p o) m
      (known_pin m.request (holdings_at p o) (key_of m.target))) r i in
      let far : holds_within (holdings_at p o) (key_of m.target) (length (key_of m.target)) ≡ true = ap
      (resolves_by (holdings_at p o) (key_of m.target)) (sym progress) ∙ a.0 in
      let x = within_is (holdings_at p o) (key_of m.target) (length (key_of m.target)) far in
      let most = prefix_length (key_of x.0) (key_of m.target) x.2 in
      let least = x.3 in
      let same : key_of x.0 ≡ key_of m.target = same_by_length (key_of x.0) (key_of m.target) (key_of m.target) x.2
      (prefix_itself (key_of m.target)) (omega (arith, most, least)) in
      let known : known_pin m.request (holdings_at p o) (key_of m.target) ≡ Some (key_of m.target) =
      longest_is (map key_of (known_pins m.request (holdings_at p o))) (key_of m.target) (key_of m.target)
      (here_known x.0 x.1 same, (prefix_itself (key_of m.target), λ q j u. prefix_length q (key_of m.target) u)) in
      own x.0 x.1 same (held_at (holdings_at p o).own (key_of m.target)) refl
      (subst (λ (y : Option Key). In r (pin_needs (holdings_at p o) m y)) known a.1)
    where
      copied : (x : Name) → In x (prefixes (holdings_at p o)) → key_of x ≡ key_of m.target
          → held_at (holdings_at p o).own (key_of m.target) ≡ None
          → (c : Option Copy) → copy_at (holdings_at p o) (key_of m.target) ≡ c
          → In r (in_option (specific_needs (holdings_at p o) m (key_of m.target)) (supplier_needs (holdings_at p o) m) c)
          → Supplied (holdings_at p o) m r
      copied x ix same none None e j = absurd (held_some x ix same none e)
      copied x ix same none (Some c) e j = record {
        copy = c;
        copied = e;
        free = none;
        is =
            (of_when (not (copy_answers (holdings_at p o) m c)) _ r j).1;
      }

      own : (x : Name) → In x (prefixes (holdings_at p o)) → key_of x ≡ key_of m.target
          → (c : Option Held) → held_at (holdings_at p o).own (key_of m.target) ≡ c
          → In r (in_option (foreign_needs (holdings_at p o) m (key_of m.target)) (multicast_needs (holdings_at p o) m) c)
          → Supplied (holdings_at p o) m r
      own x ix same (Some c) e j = absurd (none_own c e r j)
      own x ix same None e j = copied x ix same e (copy_at (holdings_at p o) (key_of m.target)) refl j

-- ---- hop by hop

-- one hop less is left of the chain of suppliers
one_hop : (w : _) (q : Key) (left a : ℕ) (u : Supply) → Coherent (knowledge_of w) → In u (knowledge_of w).supplies → u.consumer ≡ a
    → u.prefix ≡ q → IsFed (knowledge_of w) q left a
    → (n : ℕ) × (left ≡ suc n) × IsFed (knowledge_of w) q n u.supplier
one_hop w q left a u good i c e (IsFed.ends m) = absurd (good.consumers u i
    (subst (λ (x : ℕ). IsMastered (knowledge_of w) x u.prefix) (sym c) (subst (λ (x : Key). IsMastered (knowledge_of w) a x) (sym e) m)))
one_hop w q _ a u good i c e (fed {hops = n} t j ct et f) = (
  n,
  refl,
  subst (λ (y : Supply). IsFed (knowledge_of w) q n y.supplier)
      (good.one_supply t u j i (ct ∙ sym c) (et ∙ sym e)) f,
)

-- a line that came back to the probe x asks for the same, of an agent on the chain of suppliers above x's
record Up (p : Point) (s : Scene) (x z : Line) : Type 0 where
  request : z.message.request ≡ probe_request x.message.target
  same : key_of z.message.target ≡ key_of x.message.target
  progress : z.message.progress ≡ Next (length (key_of x.message.target))
  left : ℕ
  chain : (left ≡ 4) ⊎ IsFed (knowledge_of (knowledge_at p)) (key_of x.message.target) left z.receiver
  inside : (b : ℕ) → In b (suppliers_above left s (key_of x.message.target) z.receiver)
      → In b (suppliers_above 4 s (key_of x.message.target) x.receiver)
  free : (z ≡ x) ⊎ (masters_pin (s.holdings x.receiver) (key_of x.message.target) ≡ false)

-- so does what it needs
record Gone (p : Point) (s : Scene) (x : Line) (r : Reference) (b : ℕ) : Type 0 where
  same : key_of r.target ≡ key_of x.message.target
  progress : r.progress ≡ Next (length (key_of x.message.target))
  left : ℕ
  chain : IsFed (knowledge_of (knowledge_at p)) (key_of x.message.target) left b
  inside : (c : ℕ) → In c (suppliers_above left s (key_of x.message.target) b)
      → In c (suppliers_above 4 s (key_of x.message.target) x.receiver)
  above : In b (suppliers_above 4 s (key_of x.message.target) x.receiver)
  free : masters_pin (s.holdings x.receiver) (key_of x.message.target) ≡ false

module _ (p : Point) (s : Scene) (g : Ground p s) (x : Line) where
  goes_up : (z : Line) → Up p s x z → (r : Reference) → In r (needs (s.holdings z.receiver) z.message) → (b : ℕ) → In b r.agents
      → Gone p s x r b
  goes_up z u r needed b listed =
      let going : is_done z.message.progress ≡ false = ap (λ (y : Progress). is_done y) u.progress in
      let by_name : In r (resolution_needs (holdings_at p z.receiver) z.message) =
      subst (λ (f : ℕ → Holdings). In r (resolution_needs (f z.receiver) z.message)) g.setting.holdings
      (probe_resolves (s.holdings z.receiver) z.message x.message.target u.request going r needed) in
      let w = by_supplier p g.setting.whole z.receiver z.message (u.progress ∙ ap (λ (q : Key). Next (length q)) (sym u.same)) r by_name in
      let good = good_at p (sound p s g) in
      let pin : key_of w.copy.held.prefix ≡ key_of z.message.target = (key_decides (key_of w.copy.held.prefix) (key_of z.message.target)).0
      (of_find (λ (c : Copy). same_key (key_of c.held.prefix) (key_of z.message.target)) w.copy
      (holdings_at p z.receiver).copies w.copied).1 in
      let a = copy_of p z.receiver z.message (key_of z.message.target) w.copy w.copied in
      let supplies : In (supply_of a.0) (knowledge_of (knowledge_at p)).supplies = in_map supply_of a.0 (knowledge_at p).agreements a.1 in
      let supplier : w.copy.supplier ≡ a.0.supplier = ap (λ (c : Copy). c.supplier) a.3 in
      let fed_here : IsFed (knowledge_of (knowledge_at p)) (key_of x.message.target) u.left z.receiver = elim u.chain [
        | inr f ↦ f
        | inl four ↦ subst (λ (l : ℕ). IsFed (knowledge_of (knowledge_at p)) (key_of x.message.target) l z.receiver) (sym four)
            (subst (λ (q : Key). IsFed (knowledge_of (knowledge_at p)) q 4 z.receiver) (a.4 ∙ u.same)
            (subst (λ (c : ℕ). IsFed (knowledge_of (knowledge_at p)) (key_of a.0.context) 4 c) a.2
            (good.supplied (supply_of a.0) supplies)))
      ] in
      let hop = one_hop (knowledge_at p) (key_of x.message.target) u.left z.receiver (supply_of a.0) good supplies a.2
      (a.4 ∙ u.same) fed_here in
      let to : b ≡ w.copy.supplier = elim (in_first b w.copy.supplier []
      (subst (λ (y : Reference). In b y.agents) w.is listed)) [ inl e ↦ e | inr n ↦ elim n [ ] ] in
      let copied_there : copy_at (s.holdings z.receiver) (key_of x.message.target) ≡ Some w.copy =
      ap (λ (f : ℕ → Holdings). copy_at (f z.receiver) (key_of x.message.target)) g.setting.holdings
      ∙ ap (copy_at (holdings_at p z.receiver)) (sym u.same) ∙ w.copied in
      let list : suppliers_above u.left s (key_of x.message.target) z.receiver ≡ w.copy.supplier ∷ suppliers_above hop.0 s
      (key_of x.message.target) w.copy.supplier =
      ap (λ (l : ℕ). suppliers_above l s (key_of x.message.target) z.receiver) hop.1
      ∙ ap (in_option [] (λ (c : Copy). c.supplier ∷ suppliers_above hop.0 s (key_of x.message.target) c.supplier)) copied_there in
      let sub : (c : ℕ) → In c (w.copy.supplier ∷ suppliers_above hop.0 s (key_of x.message.target) w.copy.supplier)
      → In c (suppliers_above 4 s (key_of x.message.target) x.receiver) =
      λ c i. u.inside c (subst (λ (xs : List ℕ). In c xs) (sym list) i) in
      let size : length w.copy.held.prefix ≡ length (key_of x.message.target) = sym (key_length w.copy.held.prefix)
      ∙ ap length (pin ∙ u.same) in
      record {
        same = ap (λ (y : Reference). key_of y.target) w.is
            ∙ respelled_key (length w.copy.held.prefix - 1) w.copy.held.prefix z.message.target (omega arith)
            (subst (λ (q : Key). IsPrefix q (key_of z.message.target)) (sym pin) (prefix_itself (key_of z.message.target)))
            ∙ u.same;
        progress = ap (λ (y : Reference). y.progress) w.is ∙ ap (λ (l : ℕ). Next l) size;
        left = hop.0;
        chain = subst (λ (c : ℕ). IsFed (knowledge_of (knowledge_at p)) (key_of x.message.target) hop.0 c) (sym (to ∙ supplier)) hop.2;
        inside = λ c i. sub c (there (subst (λ (d : ℕ). In c (suppliers_above hop.0 s (key_of x.message.target) d)) to i));
        above = sub b (subst (λ (d : ℕ). In d (w.copy.supplier ∷ suppliers_above hop.0 s (key_of x.message.target) w.copy.supplier))
            (sym to) here);
        free = elim u.free [
          | inr f ↦ f
          | inl mine ↦
              ap (λ (y : Line). masters_pin (s.holdings y.receiver) (key_of x.message.target)) (sym mine)
              ∙ ap (λ (f : ℕ → Holdings). masters_pin (f z.receiver) (key_of x.message.target)) g.setting.holdings
              ∙ ap (masters_pin (holdings_at p z.receiver)) (sym u.same)
              ∙ ap (λ (c : Option Held). is_some c) w.free
        ];
      }

  -- a line that was sent for one that came back
  step : (z : Line) (before : List Line) → (f : Follows s before z) → Up p s x f.opener → Up p s x z
  step z before f u =
      let needed : In f.reference (needs (s.holdings f.opener.receiver) f.opener.message) = of_contains
      (needs (s.holdings f.opener.receiver) f.opener.message) f.reference f.needed in
      let gone = goes_up f.opener u f.reference needed z.receiver
      (of_agents f.reference.agents f.turn.place z.receiver f.turn.inside f.turn.here) in
      let early : is_done f.reference.progress ≡ false = ap (λ (y : Progress). is_done y) gone.progress in
      let no_part : asks_part f.reference ≡ false = ap (λ (b : Bool). b &&
      (same_kind f.reference.kind Subordinate || is_wide f.reference.kind)) early in
      let no_probe : is_probe f.opener.message.request.body f.reference.target ≡ false = ap
      (λ (y : Request). is_probe y.body f.reference.target) u.request in
      record {
        request = ap (λ (y : Chained). y.request) f.carries
            ∙ ap (λ (b : Bool). form f.opener.message.request (is_user z.sender) f.reference.target f.reference b
            (asks_part f.reference)) no_probe
            ∙ ap (λ (b : Bool). form f.opener.message.request (is_user z.sender) f.reference.target f.reference false b) no_part
            ∙ u.request;
        same = ap (λ (y : Chained). key_of y.target) f.carries ∙ gone.same;
        progress = ap (λ (y : Chained). y.progress) f.carries ∙ gone.progress;
        left = gone.left;
        chain = inr gone.chain;
        inside = gone.inside;
        free = inr gone.free;
      }

-- ---- where lines stand

at_of : (xs : List Line) (l : Line) → In l xs → (e : List Line) × At xs l e
at_of [] l i = elim i [ ]
at_of (x ∷ xs) l i = elim (in_first l x xs i) [ inl e ↦ (xs, inl (e, refl)) | inr j ↦ (let w = at_of xs l j in (w.0, inr w.1)) ]

leads_more : (ends more passes : Line → Bool) (lines : List Line) → ((z : Line) → In z lines → ends z ≡ true → more z ≡ true) → (d : ℕ)
    → leads_up ends passes d lines ≡ true → leads_up more passes d lines ≡ true
leads_more ends more passes [] f d h = cc
leads_more ends more passes (x ∷ before) f d h = by (nat_lt d (depth x))
    (λ n. leads_more ends more passes before (λ z i. f z (there i)) n) h
  where
    by : (b : Bool) → ((n : ℕ) → leads_up ends passes n before ≡ true → leads_up more passes n before ≡ true)
        → (if b then leads_up ends passes d before else ends x || (passes x && leads_up ends passes (depth x - 1) before)) ≡ true
        → (if b then leads_up more passes d before else more x || (passes x && leads_up more passes (depth x - 1) before)) ≡ true
    by true rest k = rest d k
    by false rest k = elim (either_true (ends x) _ k) [
      | inl e ↦ or_left (more x) _ (f x here e)
      | inr e ↦ (let c = both_true (passes x) _ e in or_right (more x) _ (and_true (passes x) _ c.0 (rest (depth x - 1) c.1)))
    ]

module _ (s : Scene) where
  leads_through : (ends passes : Line → Bool) (d : ℕ) (lines : List Line) (o : Line) (bo : List Line) → AllLicensed s lines
      → At lines o bo → first_of (settled d lines) ≡ Some o
      → (ends o || (passes o && leads_up ends passes (depth o - 1) bo)) ≡ true → leads_up ends passes d lines ≡ true
  leads_through ends passes d [] o bo all a e h = cc
  leads_through ends passes d (x ∷ before) o bo all a e h = by (nat_lt d (depth x))
      (λ v f. leads_through ends passes d before o bo all.1 v f h) e
    where
      by : (b : Bool) → (At before o bo → first_of (settled d before) ≡ Some o → leads_up ends passes d before ≡ true)
          → first_of (if b then settled d before else (x ∷ before)) ≡ Some o
          → (if b then leads_up ends passes d before else ends x || (passes x && leads_up ends passes (depth x - 1) before)) ≡ true
      by true rest k = elim a [
        | inl u ↦ absurd (never_again s x before all o (of_settled d before o k) (ap (λ (y : Line). y.number) (sym u.0)))
        | inr v ↦ rest v k
      ]
      by false rest k = elim a [
        | inl u ↦ sym (λ q. ends (u.0 q) || (passes (u.0 q) && leads_up ends passes (depth (u.0 q) - 1) (u.1 q))) ∙ h
        | inr v ↦ (let same : x ≡ o = cc in absurd (never_again s x before all o (at_in before o bo v) (ap (λ (y : Line). y.number) same)))
      ]

  -- what stands last above all stands last above each line behind which it stands
  settled_back : (d : ℕ) (lines : List Line) (x : Line) (bx : List Line) (e : Line) → AllLicensed s lines → At lines x bx → In e bx
      → first_of (settled d lines) ≡ Some e → first_of (settled d bx) ≡ Some e
  settled_back d [] x bx e all a i h = absurd a
  settled_back d (z ∷ zs) x bx e all a i h = by (nat_lt d (depth z)) (λ v k. settled_back d zs x bx e all.1 v i k) h
    where
      behind : In e zs
      behind = elim a [ inl u ↦ subst (λ (ys : List Line). In e ys) u.1 i | inr v ↦ before_in zs x bx v e i ]

      by : (b : Bool) → (At zs x bx → first_of (settled d zs) ≡ Some e → first_of (settled d bx) ≡ Some e)
          → first_of (if b then settled d zs else (z ∷ zs)) ≡ Some e → first_of (settled d bx) ≡ Some e
      by true rest k = elim a [ inl u ↦ subst (λ (ys : List Line). first_of (settled d ys) ≡ Some e) (sym u.1) k | inr v ↦ rest v k ]
      by false rest k = (let same : z ≡ e = cc in absurd (never_again s z zs all e behind (ap (λ (y : Line). y.number) same)))

-- ---- the broken line

module _ (p : Point) (s : Scene) (g : Ground p s) (k : Hand) (i : Journal) (at : AtMaster p s k i) (r : Reference)
    (due : due_probes (holds_now s i k) k.message ≡ r ∷ []) (j : Journal) (all : AllLicensed s j.lines)
    (hand : first_of (settled (depth_at k) j.lines) ≡ Some at.at_hand.line) (x : Line) (stands : In x j.lines)
    (heard : is_sent x.fate ≡ true) (carried : IsCarried (Some k.receiver) (line_for k) r x.message) where
  target_is : key_of r.target ≡ key_of x.message.target
  target_is = same_target p s k i g.setting at r due (Some k.receiver) x.message r.agents carried

  at_probe : Up p s x x
  at_probe =
      let v = new_is p s k i g.setting at r due in
      let is = probe p s k i g.setting at r due in
      let size : length is.name ≡ length (key_of x.message.target) = ap length (name_inside is.name v.0 (sym is.named ∙ v.1))
      ∙ sym (key_length v.0) ∙ ap length (sym v.2 ∙ target_is) in
      record {
        request = asks p s k i g.setting at r due (Some k.receiver) x.message r.agents carried;
        same = refl;
        progress = carried.progress_is ∙ ap (λ (y : Reference). y.progress) is.is ∙ ap (λ (n : ℕ). Next n) size;
        left = 4;
        chain = inl refl;
        inside = λ b m. m;
        free = inl refl;
      }

  line_in_j : In at.at_hand.line j.lines
  line_in_j = of_settled (depth_at k) j.lines at.at_hand.line hand

  deep : depth x ≡ depth_at k + 1
  deep = ap length carried.trace_is ∙ length-append k.message.trace (item_of k.receiver k.message ∷ [])

  line_deep : depth at.at_hand.line ≡ depth_at k
  line_deep = ap (λ (m : Chained). length m.trace) at.at_hand.message_is

  -- its opener is the line at hand
  module _ (stood : ℕ) (back : hears_by (λ l. l.number == x.number)
      (asked_line (line_at k at.at_hand.line.number) stood) j.lines ≡ true) where
    placed_x : (bx : List Line) × At j.lines x bx × In at.at_hand.line bx
    placed_x =
        let w = some_at (λ l before. (l.number == x.number) && came_back
        (asked_line (line_at k at.at_hand.line.number) stood) l before) j.lines back in
        let b = both_true (w.0.number == x.number) _ w.3 in
        let inside_w : In w.0 j.lines = at_in j.lines w.0 w.1 w.2 in
        let same : w.0 ≡ x = same_number s j.lines all w.0 x inside_w stands ((nat_same_decides w.0.number x.number).0 b.0) in
        let up = sym (leads_from (is_answered_line (asked_line (line_at k at.at_hand.line.number) stood)) (λ y. is_sent y.fate) w.0 w.1)
        ∙ b.1 in (
          w.1,
          subst (λ (y : Line). At j.lines y w.1) same w.2,
          elim
              (either_true (is_answered_line (asked_line (line_at k at.at_hand.line.number) stood) w.0) _ up) [
                | inl e ↦
                    let is_e : w.0 ≡ at.at_hand.line = same_number s j.lines all w.0 at.at_hand.line inside_w line_in_j
                    ((nat_same_decides w.0.number at.at_hand.line.number).0 (both_true (w.0.number == at.at_hand.line.number) _ e).0) in
                    let far = deep in
                    let near = line_deep in
                    let level : depth x ≡ depth at.at_hand.line = ap depth (sym same ∙ is_e) in
                    absurd (omega (arith, far, near, level))
                | inr e ↦
                    let y = ended s (is_answered_line (asked_line (line_at k at.at_hand.line.number) stood)) (λ z. is_sent z.fate)
                    (depth w.0 - 1) w.1 (both_true (is_sent w.0.fate) _ e).1 in
                    let is_e : y.0 ≡ at.at_hand.line = same_number s j.lines all y.0 at.at_hand.line
                    (before_in j.lines w.0 w.1 w.2 y.0 y.1) line_in_j
                    ((nat_same_decides y.0.number at.at_hand.line.number).0 (both_true (y.0.number == at.at_hand.line.number) _ y.2).0) in
                    subst (λ (z : Line). In z w.1) is_e y.1
              ],
        )

    opens_x : opened_by at.at_hand.line.number placed_x.0 x ≡ true
    opens_x =
        let far = deep in
        let near = line_deep in
        let up : depth x - 1 ≡ depth_at k = omega (arith, far) in
        let level : depth at.at_hand.line + 1 ≡ depth x = omega (arith, far, near) in
        let some : 0 < depth x = omega (arith, far) in
        and_true (nat_lt 0 (depth x)) _ ((less_decides 0 (depth x)).1 some)
        (ap (λ (n : ℕ). some_and (λ y. (y.number == at.at_hand.line.number) && ((depth y + 1) == depth x))
        (first_of (settled n placed_x.0))) up
        ∙ ap (some_and (λ y. (y.number == at.at_hand.line.number) && ((depth y + 1) == depth x)))
        (settled_back s (depth_at k) j.lines x placed_x.0 at.at_hand.line all placed_x.1 placed_x.2 hand)
        ∙ and_true (at.at_hand.line.number == at.at_hand.line.number) _
        ((nat_same_decides at.at_hand.line.number at.at_hand.line.number).1 refl)
        ((nat_same_decides (depth at.at_hand.line + 1) (depth x)).1 level))

    asks_x : asks_by r x.receiver x ≡ true
    asks_x =
        and_true (x.receiver == x.receiver) _ ((nat_same_decides x.receiver x.receiver).1 refl)
        (and_true (same_progress x.message.progress r.progress) _
        (subst (λ (y : Progress). same_progress y r.progress ≡ true) (sym carried.progress_is) (progress_itself r.progress))
        ((key_decides (key_of x.message.target) (key_of r.target)).1 (sym target_is)))

    pub broken_by : is_broken_line s j.lines x ≡ true → is_broken s j.lines at.at_hand.line.number r x.receiver ≡ true
    broken_by h =
        at_some (λ e before. asks_by r x.receiver e &&
        (opened_by at.at_hand.line.number before e && is_broken_line s j.lines e)) j.lines x placed_x.0 placed_x.1
        (and_true (asks_by r x.receiver x) _ asks_x (and_true (opened_by at.at_hand.line.number placed_x.0 x) _ opens_x h))

  -- ---- somebody above wasn't heard
  module _ (stood : ℕ) where
    start : (z : Line) → In z j.lines → is_answered_line (asked_line x stood) z ≡ true → Up p s x z
    start z m e =
        let same : z ≡ x = same_number s j.lines all z x m stands
        ((nat_same_decides z.number x.number).0 (both_true (z.number == x.number) _ e).0) in
        subst (Up p s x) (sym same) at_probe

    came_up : (y : Line) (b : List Line) → At j.lines y b → came_back (asked_line x stood) y b ≡ true → Up p s x y
    came_up y b a up =
        climbs s j.lines (is_answered_line (asked_line x stood)) (λ z. is_sent z.fate) (Up p s x) start
        (λ z before m f n u. step p s g x z before f u) of_settled (y ∷ b) (licensed_at s j.lines y b all a)
        (λ z m. elim (in_first z y b m) [
          | inl e ↦ subst (λ (l : Line). In l j.lines) (sym e)
              (at_in j.lines y b a)
          | inr n ↦ before_in j.lines y b a z n
        ])
        (depth y) up y (ap (λ (ys : List Line). first_of ys) (settled_at (depth y) y b refl))

    -- an unheard line for a line that came back
    off_by : (y : Line) (b : List Line) → At j.lines y b → came_back (asked_line x stood) y b ≡ true → (v : Line) (bv : List Line)
        → At j.lines v bv → is_unheard v.fate ≡ true → opened_by y.number bv v ≡ true
        → is_broken_line s j.lines x ≡ true
    off_by y b ay up v bv av un open_by =
        let f = opened s j.lines all y (at_in j.lines y b ay) of_settled v bv av open_by in
        let needed : In f.0.reference (needs (s.holdings f.0.opener.receiver) f.0.opener.message) = of_contains
        (needs (s.holdings f.0.opener.receiver) f.0.opener.message) f.0.reference f.0.needed in
        let u : Up p s x f.0.opener = subst (Up p s x) (sym f.2) (came_up y b ay up) in
        let gone = goes_up p s g x f.0.opener u f.0.reference needed v.receiver
        (of_agents f.0.reference.agents f.0.turn.place v.receiver f.0.turn.inside f.0.turn.here) in
        let place : At bv y b = elim (either_first j.lines v bv y b av ay) [
          | inl same ↦ absurd (never_again s v bv (licensed_at s j.lines v bv all av) y f.4 (ap (λ (z : Line). z.number) same))
          | inr (inl c) ↦ c
          | inr (inr c) ↦ absurd (never_again s y b (licensed_at s j.lines y b all ay) y (before_in b v bv c y f.4) refl)
        ] in
        let opens : first_of (settled f.0.above bv) ≡ Some f.0.opener = f.0.opens in
        let above : depth v - 1 ≡ f.0.above = (let d : depth v ≡ f.0.above + 1 = f.0.deeper in omega (arith, d)) in
        let last : first_of (settled (depth v - 1) bv) ≡ Some y = ap (λ (n : ℕ). first_of (settled n bv)) above ∙ opens
        ∙ ap (λ (z : Line). Some z) f.2 in
        let way = leads_through s (is_answered_line (asked_line x stood)) (λ z. is_sent z.fate) (depth v - 1) bv y b
        (licensed_at s j.lines v bv all av).1 place last
        (sym (leads_from (is_answered_line (asked_line x stood)) (λ z. is_sent z.fate) y b) ∙ up) in
        let way_sent = leads_more (is_answered_line (asked_line x stood)) (λ z. (z.number == x.number) && is_sent z.fate)
        (λ z. is_sent z.fate) bv (λ z m e. ends_sent z (before_in j.lines v bv av z m) e) (depth v - 1) way in
        and_true (is_sent x.fate) _ heard (and_true (not (masters_pin (s.holdings x.receiver) (key_of x.message.target))) _
        (ap not gone.free)
        (at_some (is_broken_off s x) j.lines v bv av
        (and_true (is_unheard v.fate) _ un
        (and_true (same_name v.message.target x.message.target) _
        ((key_decides (key_of v.message.target) (key_of x.message.target)).1
        (ap (λ (c : Chained). key_of c.target) f.0.carries ∙ gone.same))
        (and_true (has ◌==◌ (suppliers_above 4 s (key_of x.message.target) x.receiver) v.receiver) _
        (has_in ◌==◌ nat_same_decides v.receiver (suppliers_above 4 s (key_of x.message.target) x.receiver) gone.above) way_sent)))))
      where
        ends_sent : (z : Line) → In z j.lines → is_answered_line (asked_line x stood) z ≡ true
            → ((z.number == x.number) && is_sent z.fate) ≡ true
        ends_sent z m e =
            let number = (both_true (z.number == x.number) _ e).0 in
            let same : z ≡ x = same_number s j.lines all z x m stands ((nat_same_decides z.number x.number).0 number) in
            and_true (z.number == x.number) _ number (ap (λ (l : Line). is_sent l.fate) same ∙ heard)

    some_agent : (xs : List ℕ) → not (is_empty xs) ≡ true → (b : ℕ) × In b xs
    some_agent [] e = cc
    some_agent (b ∷ xs) e = (b, here)

    pub lost_breaks : (u : Reference) → IsLost s (asked_line x stood) j.lines u → is_broken_line s j.lines x ≡ true
    lost_breaks u (user t) = (let own = t.own in let z : true ≡ false = own in cc)
    lost_breaks u (asked t) =
        let y = t.line in
        let in_y : In t.line j.lines = of_contains j.lines t.line t.stands in
        let w = some_at (λ l before. (l.number == t.line.number) && came_back (asked_line x stood) l before) j.lines t.back in
        let c = both_true (w.0.number == t.line.number) _ w.3 in
        let same : w.0 ≡ t.line = same_number s j.lines all w.0 t.line (at_in j.lines w.0 w.1 w.2) in_y
        ((nat_same_decides w.0.number t.line.number).0 c.0) in
        let place : At j.lines t.line w.1 = subst (λ (l : Line). At j.lines l w.1) same w.2 in
        let came : came_back (asked_line x stood) t.line w.1 ≡ true = subst
        (λ (l : Line). came_back (asked_line x stood) l w.1 ≡ true) same c.1 in
        let up = came_up t.line w.1 place came in
        let b = some_agent u.agents (both_true (not (is_empty u.agents)) _ t.listed).0 in
        let vain = of_all (is_in_vain s j.lines t.line t.full) b.0 u.agents t.vain b.1 in
        let read : is_probe t.line.message.request.body t.full.target ≡ false = ap
        (λ (q : Request). is_probe q.body t.full.target) up.request in
        let asked_one : is_asked is_unheard j.lines t.line.number t.full b.0 ≡ true = elim
        (either_true (is_asked is_unheard j.lines t.line.number t.full b.0) _ vain) [
          | inl e ↦ e
          | inr e ↦ (let yes = (both_true (is_probe t.line.message.request.body t.full.target) _ e).0 in absurd
              (let z : true ≡ false = sym yes ∙ read in cc))
        ] in
        let v = some_at (λ l before. is_unheard l.fate && (asks_by t.full b.0 l && opened_by t.line.number before l)) j.lines asked_one in
        let n = both_true (is_unheard v.0.fate) _ v.3 in
        off_by t.line w.1 place came v.0 v.1 v.2 n.0 (both_true (asks_by t.full b.0 v.0) _ n.1).1

-- ---- so it is asked in vain

pub unsure_right : Unsure
unsure_right p s most k r i j l before noted a reply g un d probes e sends after at due may rests split so_far =
    let more : r.agents ≡ before ++ a ∷ after = split ∙ snoc_before before after a in
    let t = probes (a ∷ after) at due may rests more so_far in
    let u = sends before after (at_hand_later p s most k i j at.at_hand t.keeps.keeps)
    (may_later p s most (Some k.receiver) k r i j may t.keeps.keeps)
    (rests_probing p s most g k r i j at due rests before noted t) more t.so_far in
    let hand : first_of (settled (depth_at k) l.lines) ≡ Some at.at_hand.line = ap (λ (xs : List Line). first_of xs)
    (u.keeps.keeps.settled_is ∙ t.keeps.keeps.settled_is) ∙ at.at_hand.at_hand in
    elim u.heard [
      | inr w ↦ absurd (not_spent unavailable reply most l refl w.0 un)
      | inl w ↦
          let licensed = u.keeps.keeps.licensed in
          let request = asks p s k i g.setting at r due (Some k.receiver) w.0.message r.agents w.2 in
          let going = goes_on p s k i g.setting at r due (Some k.receiver) w.0.message r.agents w.2 in
          let lost = probe_lost p s (asked_line w.0 w.3.stood) l (is_spent most l) request going reply w.3.right un in
          let broken : is_broken s l.lines at.at_hand.line.number r w.0.receiver ≡ true =
          broken_by p s g k i at r due l licensed hand w.0 w.3.stands w.3.heard w.2 (length j.accepted) w.3.back
          (lost_breaks p s g k i at r due l licensed hand w.0 w.3.stands w.3.heard w.2 w.3.stood lost.0 lost.1) in
          let probing : is_probe at.at_hand.line.message.request.body r.target ≡ true = ap
          (λ (m : Chained). is_probe m.request.body r.target) at.at_hand.message_is ∙ is_probe_here p s g k i at r due in
          probed_vain p s most g k r i j at due rests before noted t l a (Hears reply) u w.4
          (or_right (is_asked is_unheard l.lines at.at_hand.line.number r a) _
          (and_true (is_probe at.at_hand.line.message.request.body r.target) _ probing
          (subst (λ (n : ℕ). is_broken s l.lines at.at_hand.line.number r n ≡ true) w.1 broken)))
    ]
