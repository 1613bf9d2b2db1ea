-- Of an update that its master passes the probes that are due are those by the target's context.
use Rattle.std.proofs.Common.{◌≡◌, ℕ, true, [], ◌∷◌, ◌++◌, ◌≤◌, ◌<◌, ◌-◌, length, sym, ap, subst, ◌∙◌, arith, length-take, length-append, Bool, false, Option, None, Some, if◌then◌else◌}
use Rattle.std.specs.Prelude.{slice_get}
use Rattle.x5_model.specs.Keys.{same_key}
use Rattle.x5_model.specs.Values.{Name, key_of, name_above}
use Rattle.x5_model.specs.References.{Chained}
use Rattle.x5_model.specs.Requests.{Body, Read, Compare, ListBelow, Search, AddEntry, RemoveEntry, ModifyEntry, ModifyDn}
use Rattle.x5_model.proofs.Lists.{any_in, of_find}
use Rattle.x5_model_tree.specs.Tree.{key_at, is_there}
use Rattle.x5_model.specs.Entries.{Named}
use Rattle.x5_model_run.specs.Needs.{due_probes, new_name, target_of}
use Rattle.x5_model_run.specs.Journal.{same_name}
use Rattle.x5_ops.specs.RequestViews.{name_of}
use Rattle.x5_dse.specs.declared.node.NodeId.{NodeId}
use Rattle.x5_dse.specs.Linked.{entries_of}
use Rattle.x5_holdings.specs.State.{Kept, State, held_view, holdings_view}
use Rattle.x5_update.specs.declared.plans.Plan.{Plan}
use Rattle.x5_update.specs.Judging.{IsDue, judged, probes_from}
use Rattle.x5_update.specs.Plans.{IsPlanOf}
use Rattle.x5_update.specs.Seats.{IsSeat}
use Rattle.x5_update.proofs.Placing.{resolving}
use Rattle.x5_update.proofs.Probing.{due_is, not_refused}
use Rattle.x5_update.proofs.Seats.{found}

kept_inside : {a b : Kept} → Some a ≡ Some b → a ≡ b
kept_inside e = cc

module _ (s : State) (m : Chained) (due : IsDue (holdings_view s) m) (own : ℕ) (id : NodeId) (is : IsSeat s m.request (key_of m.target) own id)
    (plan : Plan) (p : IsPlanOf s own m.request.body plan (judged (holdings_view s) m.request)) (held : Kept) (got : slice_get s.own own ≡ Some held)
  where
    there : is_there (entries_of is.kept.nodes.nodes) (key_of m.target) ≡ true
    there =
        let f = found s m.request (key_of m.target) own id is in
        any_in (λ (e : Named). same_key (key_at e) (key_of m.target)) is.node.named (entries_of is.kept.nodes.nodes)
        (of_find (λ (e : Named). same_key (key_at e) (key_of m.target)) is.node.named (entries_of is.kept.nodes.nodes) f).0
        (of_find (λ (e : Named). same_key (key_at e) (key_of m.target)) is.node.named (entries_of is.kept.nodes.nodes) f).1

    pub due_here : due_probes (holdings_view s) m ≡ probes_from (holdings_view s) (held_view held) (new_name m.request.body)
    due_here =
        due_is (holdings_view s) m (held_view is.kept) (key_of is.kept.prefix) due.unrefused (resolving (holdings_view s) m due) is.long is.mine there
        (not_refused (judged (holdings_view s) m.request) p.made p.passed)
        ∙ ap (λ (k : Kept). probes_from (holdings_view s) (held_view k) (new_name m.request.body)) (kept_inside (sym is.held ∙ got))

-- ---- names

filled : (name : Name) → 0 < length (name_above name) → 0 < length name
filled [] l = l
filled (x ∷ name) l = omega arith

pub named_by_target : (body : Body) → 0 < length (target_of body) → 0 < length (name_of body)
named_by_target (AddEntry name attributes) l = filled name l
named_by_target (RemoveEntry name) l = l
named_by_target (ModifyEntry name changes) l = l
named_by_target (ModifyDn name rdn drops) l = l
named_by_target (Read name selection) l = l
named_by_target (Compare name assertion) l = l
named_by_target (ListBelow name) l = l
named_by_target (Search base subset f selection) l = l

-- ---- the new name

abbrev unless_same : Name → Bool → Option Name
unless_same new b = if b then None else Some new

pub new_short : (body : Body) (name : Name) → new_name body ≡ Some name → length (name_of body) ≤ 16 → length name ≤ 16
new_short (AddEntry n attributes) name e l = (let s : n ≡ name = inside e in let k : length n ≡ length name = ap length s in omega arith)
  where
    inside : {a b : Name} → Some a ≡ Some b → a ≡ b
    inside q = cc
new_short (ModifyDn n rdn drops) name e l = by (same_name (name_above n ++ rdn ∷ []) n) e
  where
    inside : {a b : Name} → Some a ≡ Some b → a ≡ b
    inside q = cc

    by : (b : Bool) → unless_same (name_above n ++ rdn ∷ []) b ≡ Some name → length name ≤ 16
    by true q = absurd (let z : None ≡ Some name = q in cc)
    by false q =
        let s : length (name_above n ++ rdn ∷ []) ≡ length name = ap length (inside q) in
        let k : length (name_above n) ≤ length n - 1 = omega (arith, length-take (length n - 1) n) in
        omega (arith, length-append (name_above n) (rdn ∷ []))
new_short (Read n selection) name e l = cc
new_short (Compare n assertion) name e l = cc
new_short (ListBelow n) name e l = cc
new_short (Search base subset f selection) name e l = cc
new_short (RemoveEntry n) name e l = cc
new_short (ModifyEntry n changes) name e l = cc

pub new_named : (body : Body) (name : Name) → new_name body ≡ Some name → 0 < length (name_of body) → 0 < length name
new_named (AddEntry n attributes) name e l = subst (λ (x : Name). 0 < length x) (inside e) l
  where
    inside : {a b : Name} → Some a ≡ Some b → a ≡ b
    inside q = cc
new_named (ModifyDn n rdn drops) name e l = by (same_name (name_above n ++ rdn ∷ []) n) e
  where
    inside : {a b : Name} → Some a ≡ Some b → a ≡ b
    inside q = cc

    by : (b : Bool) → unless_same (name_above n ++ rdn ∷ []) b ≡ Some name → 0 < length name
    by true q = absurd (let z : None ≡ Some name = q in cc)
    by false q =
        let s : length (name_above n ++ rdn ∷ []) ≡ length name = ap length (inside q) in
        omega (arith, length-append (name_above n) (rdn ∷ []))
new_named (Read n selection) name e l = cc
new_named (Compare n assertion) name e l = cc
new_named (ListBelow n) name e l = cc
new_named (Search base subset f selection) name e l = cc
new_named (RemoveEntry n) name e l = cc
new_named (ModifyEntry n changes) name e l = cc
