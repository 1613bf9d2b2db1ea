-- What the master has after an update that the tree accepts too.
use Rattle.std.proofs.Common.{◌≡◌, ℕ, true, inl, inr, List, sym, ap, subst, ◌∙◌, Option, Some, None, Ok}
use Rattle.x5_model.specs.Words.{in_option}
use Rattle.x5_model.specs.Members.{In}
use Rattle.x5_model.specs.Keys.{Key, parent}
use Rattle.x5_model.specs.Values.{key_of}
use Rattle.x5_model.specs.Entries.{Named}
use Rattle.x5_model.specs.Requests.{Body, Read, Compare, ListBelow, Search, AddEntry, RemoveEntry, ModifyEntry, ModifyDn}
use Rattle.x5_model.proofs.Lists.{of_map}
use Rattle.x5_model_tree.specs.Tree.{Tree, key_at, is_there, longest, part}
use Rattle.x5_model_tree.specs.Ask.{is_update}
use Rattle.x5_model_tree.specs.Apply.{Ground, ground_of, update}
use Rattle.x5_model_tree.specs.Masters.{pin_of, mastered, master_of}
use Rattle.x5_model_tree.proofs.Longest.{IsLongest, longest_is}
use Rattle.x5_model_tree.proofs.Exact.{conditions_hold}
use Rattle.x5_model_run.specs.Holdings.{Held, ground_at}
use Rattle.x5_model_run.specs.Needs.{target_of}
use Rattle.x5_model_run.specs.History.{knowledge_at, tree_at, world_at, holdings_at}
use Rattle.x5_model_theory.specs.Knowledge.{Knowledge, Area}
use Rattle.x5_model_theory.specs.Described.{area_of, knowledge_of}
use Rattle.x5_model_theory.specs.Coherent.{Coherent}
use Rattle.x5_model_theory.specs.Changing.{holding}
use Rattle.x5_model_theory.proofs.Views.{there_decides}
use Rattle.x5_model_theory.proofs.Cohering.{one_master}
use Rattle.x5_model_theory.proofs.Deciding.{dec_key}
use Rattle.x5_model_updates.specs.Standing.{IsTreeOf}
use Rattle.x5_model_updates.specs.Judging.{HolderIsMaster, JudgedAfter}
use Rattle.x5_model_updates.specs.Afterwards.{IsEntryAfter}
use Rattle.x5_model_updates.specs.Keeping.{keys_in}
use Rattle.x5_model_updates.proofs.Lookups.{OneEach, entry_found}
use Rattle.x5_model_updates.proofs.Outcomes.{added, removed, changed_so, renamed_so, accepted_over, tree_made}
use Rattle.x5_model_updates.proofs.Trees.{tree_one_each, longest_own, of_part, in_part}
use Rattle.x5_model_updates.proofs.Grounds.{Knows, within}
use Rattle.x5_model_updates.proofs.Listed.{Members, add_members, remove_members, modify_members, rename_members}
use Rattle.x5_model_updates.proofs.Divided.{Made, one_pin}
use Rattle.x5_model_updates.proofs.After.{target_in, made_by, of_new_part, in_new_part}
use Rattle.x5_model_updates.proofs.Held.{of_area, in_area, of_held}
use Rattle.x5_model_updates.proofs.Mastering.{found_among}
use Rattle.x5_model_updates.proofs.Own.{own_knows}
use Rattle.x5_model_updates.proofs.Judges.{seat_of}

abbrev some_agent : ℕ → Option ℕ
some_agent n = Some n

-- what an update makes of any ground with one entry for each key
pub made_members : (g : Ground) (body : Body) (us : List Named) → OneEach g.entries → is_update body ≡ true → update g body ≡ Ok us → Members g.entries body us
made_members g (Read name selection) us each u h = cc
made_members g (Compare name assertion) us each u h = cc
made_members g (ListBelow name) us each u h = cc
made_members g (Search base subset f selection) us each u h = cc
made_members g (AddEntry name attributes) us each u h =
    let a = added g name attributes us h in
    let w = entry_found g.entries (parent (key_of name)) a.above a.there in
    subst (λ (xs : List Named). Members g.entries (AddEntry name attributes) xs) (sym a.made) (add_members g.entries name attributes a.above each w.0 w.1)
made_members g (RemoveEntry name) us each u h =
    let a = removed g name us h in
    subst (λ (xs : List Named). Members g.entries (RemoveEntry name) xs) (sym a.made) (remove_members g.entries name)
made_members g (ModifyEntry name changes) us each u h =
    let a = changed_so g name changes us h in
    let w = entry_found g.entries (key_of name) a.at a.there in
    subst (λ (xs : List Named). Members g.entries (ModifyEntry name changes) xs) (sym a.made) (modify_members g.entries name changes a.at a.new each w.0 w.1 a.done)
made_members g (ModifyDn name rdn drops) us each u h =
    let a = renamed_so g name rdn drops us h in
    let w = entry_found g.entries (key_of name) a.at a.there in
    subst (λ (xs : List Named). Members g.entries (ModifyDn name rdn drops) xs) (sym a.made) (rename_members g.entries name rdn drops a.at each w.0 w.1)

-- more entries before give more afterwards
pub more_after : (es fs : List Named) (body : Body) (e : Named) → ((x : Named) → In x es → In x fs) → IsEntryAfter es body e → IsEntryAfter fs body e
more_after es fs (Read name selection) e sub i = sub e i
more_after es fs (Compare name assertion) e sub i = sub e i
more_after es fs (ListBelow name) e sub i = sub e i
more_after es fs (Search base subset f selection) e sub i = sub e i
more_after es fs (AddEntry name attributes) e sub (inl i) = inl (sub e i)
more_after es fs (AddEntry name attributes) e sub (inr w) = inr (w.0, sub w.0 w.1, w.2, w.3)
more_after es fs (RemoveEntry name) e sub w = (sub e w.0, w.1)
more_after es fs (ModifyEntry name changes) e sub (inl w) = inl (sub e w.0, w.1)
more_after es fs (ModifyEntry name changes) e sub (inr w) = inr (w.0, w.1, sub w.0 w.2, w.3, w.4, w.5)
more_after es fs (ModifyDn name rdn drops) e sub (inl w) = inl (sub e w.0, w.1)
more_after es fs (ModifyDn name rdn drops) e sub (inr (inl w)) = inr (inl (w.0, sub w.0 w.1, w.2, w.3))
more_after es fs (ModifyDn name rdn drops) e sub (inr (inr w)) = inr (inr (w.0, sub w.0 w.1, w.2, w.3, w.4))

module _ (k : Knowledge) (t : Tree) (o : ℕ) (g : Ground) (good : Coherent k) (is : IsTreeOf k t) (knows : Knows k t o g) (body : Body) (up : is_update body ≡ true) (mine us : List Named) (c : Area) (i : In c k.areas) (own : c.master ≡ o)
    (m : Made t c.prefix body us) (h : update g body ≡ Ok mine) where
  inside : (x : Named) → In x g.entries → In x t.entries
  inside = within k t o g good is knows

  members : Members g.entries body mine
  members = made_members g body mine (λ e f j l q. tree_one_each k t good is e f (inside e j) (inside f l) q) up h

  abbrev U : Tree
  U = record t { entries = us }

  pub to_parts : (e : Named) → In e mine → (d : Area) × In d k.areas × (d.master ≡ o) × In e (part U d.prefix)
  to_parts e j =
      let a = (members e).0 j in
      let there : In e us = (m.gives.1 e).1 (more_after g.entries t.entries body e inside a) in
      elim (m.covered g.entries inside e a) [
        | inl l ↦ (let d = knows.of_own e l in (d.0, d.1, d.2, in_new_part k t good is us body c i m d.0.prefix e there (of_part k t good is d.0.prefix e d.3).1))
        | inr l ↦ (c, i, own, in_new_part k t good is us body c i m c.prefix e there l)
      ]

  pub from_parts : (e : Named) (d : Area) → In d k.areas → d.master ≡ o → In e (part U d.prefix) → In e mine
  from_parts e d j same l =
      let w = of_new_part k t good is us body c i m d.prefix e l in
      let a : IsEntryAfter t.entries body e = (m.gives.1 e).0 w.0 in
      (members e).1
      (elim (dec_key d.prefix c.prefix) [
        | inl s ↦ more_after (part t c.prefix) g.entries body e (λ x y. knows.in_own c x i own y) (m.inner e a (subst (λ (x : Key). IsLongest t.pins (key_at e) (Some x)) s w.1))
        | inr other ↦ m.others g.entries inside e d.prefix other w.1
            (knows.in_own d e j same (in_part k t good is d.prefix e (elim (m.covered t.entries (λ x y. y) e a) [ inl y ↦ y | inr y ↦ absurd (other (one_pin t.pins (key_at e) d.prefix c.prefix w.1 y)) ]) w.1))
      ])

pub judged_after : JudgedAfter
judged_after p o m mine u e j h q =
    let s = j.stands in
    let k = knowledge_of (world_at p) in
    let w = tree_made (tree_at p) u m.request q in
    let v = accepted_over (ground_of (tree_at p)) m.request.body u.entries w.0 in
    let mv = accepted_over (ground_at m.request (holdings_at p o)) m.request.body mine h in
    let d = target_in (knowledge_of (world_at p)) (tree_at p) s.coherent s.tree m.request.body u.entries j.update v.1 in
    let made = made_by (knowledge_of (world_at p)) (tree_at p) s.coherent s.tree m.request.body u.entries d.0 j.update v.1 d.1 d.2 in
    let parts : (x : Key) → part u x ≡ part (record (tree_at p) { entries = u.entries }) x = (λ x. ap (λ (y : Tree). part y x) w.1) in (
      λ i. (let x = to_parts (knowledge_of (world_at p)) (tree_at p) o (ground_at m.request (holdings_at p o)) s.coherent s.tree (own_knows p s m.request o) m.request.body j.update mine u.entries d.0 d.1 (mine_too d.0 d.1 d.2) made mv.1 e i in
          let n = of_area p s x.0 x.1 in
          (n.0, n.1, ap (λ (y : Area). y.master) (sym n.2) ∙ x.2, subst (λ (es : List Named). In e es) (ap (λ (y : Area). part (record (tree_at p) { entries = u.entries }) y.prefix) n.2 ∙ sym (parts (pin_of n.0))) x.3)),
      λ n. from_parts (knowledge_of (world_at p)) (tree_at p) o (ground_at m.request (holdings_at p o)) s.coherent s.tree (own_knows p s m.request o) m.request.body j.update mine u.entries d.0 d.1 (mine_too d.0 d.1 d.2) made mv.1 e
          (holding (keys_in (tree_at p)) (area_of n.0)) (in_area p s n.0 n.1) n.2 (subst (λ (es : List Named). In e es) (parts (pin_of n.0)) n.3),
    )
  where
    -- the target's context is the judge's
    mine_too : (d : Area) → In d (knowledge_of (world_at p)).areas → In (key_of (target_of m.request.body)) d.entries → d.master ≡ o
    mine_too d i own =
        let seat = seat_of p o m j in
        let long = longest_own (knowledge_of (world_at p)) (tree_at p) j.stands.coherent j.stands.tree d (key_of (target_of m.request.body)) i own in
        let same : d.prefix ≡ pin_of seat.seat = one_pin (tree_at p).pins (key_of (target_of m.request.body)) d.prefix (pin_of seat.seat) long (subst (λ (x : Key). IsLongest (tree_at p).pins x (Some (pin_of seat.seat))) j.target seat.long) in
        ap (λ (x : Area). x.master) (one_master (knowledge_of (world_at p)) d (holding (keys_in (tree_at p)) (area_of seat.seat)) j.stands.coherent i (in_area p j.stands seat.seat seat.there) same) ∙ seat.mine

-- who has an entry in a context of its own is the context's master
pub holder_is_master : HolderIsMaster
holder_is_master p o c key s i there_is =
    let h = of_held p s o c i in
    let at : is_there (part (tree_at p) (pin_of h.1)) key ≡ true = subst (λ (x : Held). is_there x.entries key ≡ true) h.6 there_is in
    let e = of_map key_at key (part (tree_at p) (pin_of h.1)) ((there_decides (part (tree_at p) (pin_of h.1)) key).0 at) in
    let long = (of_part (knowledge_of (world_at p)) (tree_at p) s.coherent s.tree (pin_of h.1) e.0 e.1).1 in
    let is : longest (tree_at p).pins key ≡ Some (pin_of h.1) = longest_is (tree_at p).pins key (pin_of h.1) (subst (λ (x : Key). IsLongest (tree_at p).pins x (Some (pin_of h.1))) (sym e.2) long) in
    ap (λ (x : Option Key). in_option None (master_of (knowledge_at p)) x) is
    ∙ found_among (mastered (knowledge_at p)) h.1 (conditions_hold (knowledge_at p) s.consistent).one_master h.3
    ∙ ap some_agent h.4
