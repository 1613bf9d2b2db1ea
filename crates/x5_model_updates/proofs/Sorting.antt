-- In which order an agent's own entries stand is nothing to how it judges.
use Rattle.std.proofs.Common.{◌≡◌, ℕ, ◌+◌, ◌<◌, Bool, true, false, not, ◌&&◌, ◌↔◌, inl, inr, List, [], ◌∷◌, ◌++◌, map, length, refl, sym, ap, subst, ◌∙◌, Option, Ok, Err, if◌then◌else◌}
use Rattle.std.specs.List.{filter, flat_map, enumerate_from}
use Rattle.std.proofs.lemmas.List.{map-append}
use Rattle.std.proofs.lemmas.List.Folds.{flat_map-map}
use Rattle.x5_model.specs.Words.{has, in_option}
use Rattle.x5_model.specs.Members.{In, Once, here, there}
use Rattle.x5_model.specs.Keys.{Key, parent, same_key}
use Rattle.x5_model.specs.Values.{Rdn, Name, key_of, last_rdn}
use Rattle.x5_model.specs.Entries.{Named}
use Rattle.x5_model.specs.Changes.{modified, renamed, single_valued}
use Rattle.x5_model.specs.Requests.{Body, Read, Compare, ListBelow, Search, AddEntry, RemoveEntry, ModifyEntry, ModifyDn}
use Rattle.x5_model.specs.Answers.{DirError}
use Rattle.x5_model.proofs.KeyLaws.{key_decides}
use Rattle.x5_model.proofs.Lists.{true_or_false, in_first, in_left, in_map, of_map, of_has, once_map}
use Rattle.x5_model.proofs.Ascending.{in_sorted, of_sorted}
use Rattle.x5_model_tree.specs.World.{Nssr, Context, Agent}
use Rattle.x5_model_tree.specs.Tree.{Tree, key_at, keys_of, named_below, sorted_entries, entry_at, has_below}
use Rattle.x5_model_tree.specs.Masters.{pin_of, held_contexts}
use Rattle.x5_model_tree.specs.Ask.{is_update}
use Rattle.x5_model_tree.specs.Apply.{Ground, counts_in, own_ground, UpdatedEntries, absent, above_pin, is_taken, update, apply_over}
use Rattle.x5_model_tree.proofs.Exact.{conditions_hold}
use Rattle.x5_model_run.specs.Holdings.{known_pins}
use Rattle.x5_model_run.specs.History.{knowledge_at, tree_at, own_context, agent_holdings, no_holdings, holdings_at}
use Rattle.x5_model_theory.proofs.Places.{at_agent}
use Rattle.x5_model_theory.proofs.Views.{at_place}
use Rattle.x5_model_theory.proofs.Cohering.{map_map}
use Rattle.x5_model_updates.specs.Judging.{in_order, HoldsItsContexts, OwnGroundHeld, OrderRefuses, OrderAccepts}
use Rattle.x5_model_updates.specs.Afterwards.{new_key}
use Rattle.x5_model_updates.proofs.Lookups.{agree, OneEach, same_entry_at, same_lowest, same_matched}
use Rattle.x5_model_updates.proofs.Outcomes.{clashes, add_none, add_taken, add_free, remove_none, remove_some, modify_none, modify_some, rename_none, rename_some, none_or_some, ok_or_err, refused_over, accepted_over, over_update}
use Rattle.x5_model_updates.proofs.Grounds.{no_such, Taken, taken_decides, has_below_decides}
use Rattle.x5_model_updates.proofs.Moments.{now_context}
use Rattle.x5_model_updates.proofs.Consists.{was_numbered}
use Rattle.x5_model_updates.proofs.Own.{counted_in, uncounted_in, ats_in, held_ground, ground_is}
use Rattle.x5_model_updates.proofs.Judged.{made_members, more_after}

-- two grounds with the same entries, in any order, and all else the same
pub record Alike (g h : Ground) : Type 0 where
  pub to : (e : Named) → In e g.entries → In e h.entries
  pub of : (e : Named) → In e h.entries → In e g.entries
  pub one : OneEach h.entries
  pub filled : (e : Named) → In e h.entries → 0 < length (key_at e)
  pub same_pins : g.pins ≡ h.pins
  pub same_above : (x : Key) → above_pin g x ≡ above_pin h x
  pub same_taken : g.taken ≡ h.taken

module _ (g h : Ground) (a : Alike g h) where
  found : (x : Key) → entry_at g.entries x ≡ entry_at h.entries x
  found x = same_entry_at g.entries h.entries x a.one a.to (λ e i q. a.of e i)

  lacks : (x : Key) → absent g x ≡ absent h x
  lacks x = ap no_such (same_matched g.entries h.entries x (same_lowest g.entries h.entries x a.one a.filled a.to (λ e i q low. a.of e i)))

  below : (x : Key) → has_below g.entries x ≡ has_below h.entries x
  below x = agree (has_below g.entries x) (has_below h.entries x) (has_below_decides g.entries x) (has_below_decides h.entries x) (λ w. (w.0, a.to w.0 w.1, w.2)) (λ w. (w.0, a.of w.0 w.1, w.2))

  taken : (x : Key) → is_taken g x ≡ is_taken h x
  taken x = agree (is_taken g x) (is_taken h x) (taken_decides g x) (taken_decides h x) forth back
    where
      forth : Taken g x → Taken h x
      forth (inl i) = inl (let e = of_map key_at x g.entries i in subst (λ (y : Key). In y (keys_of h.entries)) (sym e.2) (in_map key_at e.0 h.entries (a.to e.0 e.1)))
      forth (inr (inl i)) = inr (inl (subst (λ (ps : List Key). In x ps) a.same_pins i))
      forth (inr (inr i)) = inr (inr (subst (λ (ps : List Key). In x ps) a.same_taken i))

      back : Taken h x → Taken g x
      back (inl i) = inl (let e = of_map key_at x h.entries i in subst (λ (y : Key). In y (keys_of g.entries)) (sym e.2) (in_map key_at e.0 g.entries (a.of e.0 e.1)))
      back (inr (inl i)) = inr (inl (subst (λ (ps : List Key). In x ps) (sym a.same_pins) i))
      back (inr (inr i)) = inr (inr (subst (λ (ps : List Key). In x ps) (sym a.same_taken) i))

  same_clash : (name : Name) (rdn : Rdn) → clashes h name rdn ≡ clashes g name rdn
  same_clash name rdn = ap (λ (b : Bool). not (same_key (new_key name rdn) (key_of name)) && b) (sym (taken (new_key name rdn)))

  abbrev bad : DirError → UpdatedEntries
  bad x = Err x

  refuses : (body : Body) (x : DirError) → is_update body ≡ true → update g body ≡ Err x → update h body ≡ Err x
  refuses (Read name selection) x u q = cc
  refuses (Compare name assertion) x u q = cc
  refuses (ListBelow name) x u q = cc
  refuses (Search base subset f selection) x u q = cc
  refuses (AddEntry name attributes) x u q =
      elim (none_or_some (entry_at g.entries (parent (key_of name)))) [
        | inl n ↦ add_none h name attributes (sym (found (parent (key_of name))) ∙ n) ∙ ap bad (sym (lacks (parent (key_of name)))) ∙ sym (add_none g name attributes n) ∙ q
        | inr e ↦ elim (true_or_false (is_taken g (key_of name))) [
          | inl b ↦ add_taken h name attributes e.0 (sym (found (parent (key_of name))) ∙ e.1) (sym (taken (key_of name)) ∙ b) ∙ sym (add_taken g name attributes e.0 e.1 b) ∙ q
          | inr b ↦ (let f = add_free g name attributes e.0 e.1 b in cc)
        ]
      ]
  refuses (RemoveEntry name) x u q =
      elim (none_or_some (entry_at g.entries (key_of name))) [
        | inl n ↦ remove_none h name (sym (found (key_of name)) ∙ n) ∙ ap bad (sym (lacks (key_of name))) ∙ sym (remove_none g name n) ∙ q
        | inr e ↦
            let te = sym (found (key_of name)) ∙ e.1 in
            elim (true_or_false (above_pin g (key_of name))) [
              | inl b ↦ remove_some h name e.0 true (has_below h.entries (key_of name)) te (sym (a.same_above (key_of name)) ∙ b) refl ∙ sym (remove_some g name e.0 true (has_below g.entries (key_of name)) e.1 b refl) ∙ q
              | inr b ↦ elim (true_or_false (has_below g.entries (key_of name))) [
                | inl d ↦ remove_some h name e.0 false true te (sym (a.same_above (key_of name)) ∙ b) (sym (below (key_of name)) ∙ d) ∙ sym (remove_some g name e.0 false true e.1 b d) ∙ q
                | inr d ↦ (let f = remove_some g name e.0 false false e.1 b d in cc)
              ]
            ]
      ]
  refuses (ModifyEntry name changes) x u q =
      elim (none_or_some (entry_at g.entries (key_of name))) [
        | inl n ↦ modify_none h name changes (sym (found (key_of name)) ∙ n) ∙ ap bad (sym (lacks (key_of name))) ∙ sym (modify_none g name changes n) ∙ q
        | inr e ↦ elim (ok_or_err (modified (last_rdn name) changes e.0.entry)) [
          | inl v ↦ (let f = modify_some g name changes e.0 (Ok v.0) e.1 v.1 in cc)
          | inr y ↦ modify_some h name changes e.0 (Err y.0) (sym (found (key_of name)) ∙ e.1) y.1 ∙ sym (modify_some g name changes e.0 (Err y.0) e.1 y.1) ∙ q
        ]
      ]
  refuses (ModifyDn name rdn drops) x u q =
      elim (none_or_some (entry_at g.entries (key_of name))) [
        | inl n ↦ rename_none h name rdn drops (sym (found (key_of name)) ∙ n) ∙ ap bad (sym (lacks (key_of name))) ∙ sym (rename_none g name rdn drops n) ∙ q
        | inr e ↦
            let te = sym (found (key_of name)) ∙ e.1 in
            let new = single_valued (renamed (last_rdn name) rdn drops e.0.entry) in
            elim (true_or_false (above_pin g (key_of name))) [
              | inl b ↦ rename_some h name rdn drops e.0 true new (clashes h name rdn) te (sym (a.same_above (key_of name)) ∙ b) refl refl ∙ sym (rename_some g name rdn drops e.0 true new (clashes g name rdn) e.1 b refl refl) ∙ q
              | inr b ↦ elim (ok_or_err (single_valued (renamed (last_rdn name) rdn drops e.0.entry))) [
                | inr y ↦ rename_some h name rdn drops e.0 false (Err y.0) (clashes h name rdn) te (sym (a.same_above (key_of name)) ∙ b) y.1 refl ∙ sym (rename_some g name rdn drops e.0 false (Err y.0) (clashes g name rdn) e.1 b y.1 refl) ∙ q
                | inl v ↦ elim (true_or_false (clashes g name rdn)) [
                  | inl d ↦ rename_some h name rdn drops e.0 false (Ok v.0) true te (sym (a.same_above (key_of name)) ∙ b) v.1 (same_clash name rdn ∙ d) ∙ sym (rename_some g name rdn drops e.0 false (Ok v.0) true e.1 b v.1 d) ∙ q
                  | inr d ↦ (let f = rename_some g name rdn drops e.0 false (Ok v.0) false e.1 b v.1 d in cc)
                ]
              ]
            ]
      ]

-- ---- the entries in order

module _ (g : Ground) (once : Once (keys_of g.entries)) (full : (e : Named) → In e g.entries → 0 < length (key_at e)) where
  each : OneEach g.entries
  each e f i j q = once_map key_at g.entries e f once i j q

  back : (e : Named) → In e (sorted_entries g.entries) → In e g.entries
  back e i = of_sorted named_below e g.entries i

  forth : (e : Named) → In e g.entries → In e (sorted_entries g.entries)
  forth e i = in_sorted named_below e g.entries i

  as_sorted : Alike g (in_order g)
  as_sorted = record { to = forth; of = back; one = λ e f i j q. each e f (back e i) (back f j) q; filled = λ e i. full e (back e i); same_pins = refl; same_above = λ x. refl; same_taken = refl }

  as_given : Alike (in_order g) g
  as_given = record { to = back; of = forth; one = each; filled = full; same_pins = refl; same_above = λ x. refl; same_taken = refl }

  accepts : (body : Body) (us : List Named) → is_update body ≡ true → apply_over g body ≡ Ok us → (vs : List Named) × (apply_over (in_order g) body ≡ Ok vs) × ((e : Named) → In e us ↔ In e vs)
  accepts body us u q =
      let v = accepted_over g body us q in
      elim (ok_or_err (update (in_order g) body)) [
        | inr x ↦ absurd (let f : update g body ≡ Err x.0 = refuses (in_order g) g as_given body x.0 u x.1 in let f2 = v.1 in cc)
        | inl w ↦
            let m = made_members g body us each u v.1 in
            let n = made_members (in_order g) body w.0 as_sorted.one u w.1 in (
              w.0,
              over_update (in_order g) body v.0 ∙ w.1,
              λ e. (
                λ i. (n e).1 (more_after g.entries (sorted_entries g.entries) body e forth ((m e).0 i)),
                λ i. (m e).1 (more_after (sorted_entries g.entries) g.entries body e back ((n e).0 i)),
              ),
            )
      ]

pub order_refuses : OrderRefuses
order_refuses g body x once full u = (
  λ q. refused_over g (in_order g) body x (λ r. refuses g (in_order g) (as_sorted g once full) body x u r) q,
  λ q. refused_over (in_order g) g body x (λ r. refuses (in_order g) g (as_given g once full) body x u r) q,
)

pub order_accepts : OrderAccepts
order_accepts g body us once full u q = accepts g once full body us u q

-- ---- an agent's contexts in the world of the moment

once_front : {A : Type 0} (xs ys : List A) → Once (xs ++ ys) → Once xs
once_front [] ys h = tt
once_front (x ∷ xs) ys h = ((λ i. h.0 (in_left x xs ys i)), once_front xs ys h.1)

once_rest : {A : Type 0} (xs ys : List A) → Once (xs ++ ys) → Once ys
once_rest [] ys h = h
once_rest (x ∷ xs) ys h = once_rest xs ys h.1

abbrev prefix_of : Context → Key
prefix_of c = key_of c.prefix

-- where no prefix is mastered twice, an agent has none twice
own_once : (n : ℕ) (agents : List Agent) (a : ℕ × Agent) → In a (enumerate_from n agents) → Once (map pin_of (flat_map (λ (b : ℕ × Agent). map (at_agent b.0) b.1.contexts) (enumerate_from n agents))) → Once (map prefix_of a.1.contexts)
own_once n [] a i h = elim i [ ]
own_once n (x ∷ agents) a i h =
    let parts : Once (map pin_of (map (at_agent n) x.contexts) ++ map pin_of (flat_map (λ (b : ℕ × Agent). map (at_agent b.0) b.1.contexts) (enumerate_from (n + 1) agents))) =
    subst Once (map-append pin_of (map (at_agent n) x.contexts) (flat_map (λ (b : ℕ × Agent). map (at_agent b.0) b.1.contexts) (enumerate_from (n + 1) agents))) h in
    elim (in_first a (n, x) (enumerate_from (n + 1) agents) i) [
      | inl s ↦ subst (λ (b : ℕ × Agent). Once (map prefix_of b.1.contexts)) (sym s) (subst Once (map_map (at_agent n) pin_of x.contexts) (once_front (map pin_of (map (at_agent n) x.contexts)) (map pin_of (flat_map (λ (b : ℕ × Agent). map (at_agent b.0) b.1.contexts) (enumerate_from (n + 1) agents))) parts))
      | inr j ↦ own_once (n + 1) agents a j (once_rest (map pin_of (map (at_agent n) x.contexts)) (map pin_of (flat_map (λ (b : ℕ × Agent). map (at_agent b.0) b.1.contexts) (enumerate_from (n + 1) agents))) parts)
    ]

-- so it holds all of them
abbrev unless_held : List Key → Context → List Context → Bool → List Context
unless_held before c cs b = if b then held_contexts before cs else (c ∷ held_contexts (key_of c.prefix ∷ before) cs)

all_held : (before : List Key) (cs : List Context) → Once (map prefix_of cs) → ((c : Context) → In c cs → In (key_of c.prefix) before → ⊥) → held_contexts before cs ≡ cs
all_held before [] h fresh = refl
all_held before (c ∷ cs) h fresh =
    ap (unless_held before c cs) (not_before (has same_key before (key_of c.prefix)) refl)
    ∙ ap (λ (xs : List Context). c ∷ xs) (all_held (key_of c.prefix ∷ before) cs h.1 (λ d i j. elim (in_first (key_of d.prefix) (key_of c.prefix) before j) [ inl s ↦ h.0 (subst (λ (x : Key). In x (map prefix_of cs)) s (in_map prefix_of d cs i)) | inr l ↦ fresh d (there i) l ]))
  where
    not_before : (b : Bool) → has same_key before (key_of c.prefix) ≡ b → has same_key before (key_of c.prefix) ≡ false
    not_before true e = absurd (fresh c here (of_has same_key key_decides (key_of c.prefix) before e))
    not_before false e = e

same_ground : (t : Tree) (known : List Key) (b : Agent) (cs : List Context) → own_ground known (map (now_context t) cs) ≡ held_ground known (map (own_context t b) cs)
same_ground t known b cs = λ i. record { entries = entries i; pins = known; nssrs = nssrs i; taken = taken_keys i }
  where
    entries : flat_map (λ (c : Context). filter (counts_in known c) c.entries) (map (now_context t) cs) ≡ flat_map (counted_in known) (map (own_context t b) cs)
    entries = flat_map-map (λ (c : Context). filter (counts_in known c) c.entries) (now_context t) cs ∙ sym (flat_map-map (counted_in known) (own_context t b) cs)

    nssrs : flat_map (λ (c : Context). map (λ (n : Nssr). record { context = key_of c.prefix; entry = key_of n.at }) c.nssrs) (map (now_context t) cs) ≡ flat_map ats_in (map (own_context t b) cs)
    nssrs = flat_map-map (λ (c : Context). map (λ (n : Nssr). record { context = key_of c.prefix; entry = key_of n.at }) c.nssrs) (now_context t) cs ∙ sym (flat_map-map ats_in (own_context t b) cs)

    taken_keys : flat_map (λ (c : Context). map key_at (filter (λ e. not (counts_in known c e)) c.entries)) (map (now_context t) cs) ≡ flat_map (uncounted_in known) (map (own_context t b) cs)
    taken_keys = flat_map-map (λ (c : Context). map key_at (filter (λ e. not (counts_in known c e)) c.entries)) (now_context t) cs ∙ sym (flat_map-map (uncounted_in known) (own_context t b) cs)

pub holds_its_contexts : HoldsItsContexts
holds_its_contexts p o a s i =
    ap (λ (x : Option Agent). (in_option (no_holdings o) (agent_holdings p o) x).own) (at_place (knowledge_at p) o a i)
    ∙ ap (map (own_context (tree_at p) a)) (all_held [] a.contexts (own_once 0 (knowledge_at p).agents (o, a) i (conditions_hold (knowledge_at p) s.consistent).one_master) (λ c j l. elim l [ ]))

pub own_ground_held : OwnGroundHeld
own_ground_held p o a r s i =
    let b = was_numbered (tree_at p) 0 (knowledge_at p).agents (o, a) i in
    let once : Once (map prefix_of b.0.contexts) = own_once 0 (knowledge_at p).agents (o, b.0) b.1 (conditions_hold (knowledge_at p) s.consistent).one_master in
    let mapped : Once (map prefix_of (map (now_context (tree_at p)) b.0.contexts)) = subst Once (sym (map_map (now_context (tree_at p)) prefix_of b.0.contexts)) once in
    ap (λ (x : Agent). own_ground (map key_of (known_pins r (holdings_at p o))) (held_contexts [] x.contexts)) b.2
    ∙ ap (own_ground (map key_of (known_pins r (holdings_at p o)))) (all_held [] (map (now_context (tree_at p)) b.0.contexts) mapped (λ c j l. elim l [ ]))
    ∙ same_ground (tree_at p) (map key_of (known_pins r (holdings_at p o))) b.0 b.0.contexts
    ∙ ap (held_ground (map key_of (known_pins r (holdings_at p o)))) (sym (holds_its_contexts p o b.0 s b.1))
    ∙ sym (ground_is r (holdings_at p o))
