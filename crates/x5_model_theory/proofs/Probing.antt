-- What follows a probe's reference is placed.
use Rattle.std.proofs.Common.{◌≡◌, ℕ, ◌+◌, ◌-◌, ◌<◌, ◌≤◌, Bool, true, false, not, ◌&&◌, inl, inr, List, [], ◌∷◌, ◌++◌, length, take, map, refl, sym, ap, subst, ◌∙◌, arith, length-take, length-append, Option, Some, None, if◌then◌else◌}
use Rattle.std.specs.List.{list_any}
use Rattle.std.specs.Option.{is_some}
use Rattle.std.specs.Result.{is_err}
use Rattle.std.specs.declared.result.Result.TheVariants.{Err}
use Rattle.x5_model.specs.Words.{is_empty, in_option, when}
use Rattle.x5_model.specs.Members.{In}
use Rattle.x5_model.specs.Keys.{Key, IsPrefix, same_key, is_prefix, parent}
use Rattle.x5_model.specs.Values.{Rdn, Name, key_of, name_above}
use Rattle.x5_model.specs.Entries.{Named}
use Rattle.x5_model.specs.Requests.{Body, Read, Compare, ListBelow, Search, AddEntry, RemoveEntry, ModifyEntry, ModifyDn, Request}
use Rattle.x5_model.specs.References.{Progress, Next, Reference, RefType, NonSpecific, TraceItem, Chained}
use Rattle.x5_model.specs.Answers.{DirError}
use Rattle.x5_model.specs.Statics.{fault_of}
use Rattle.x5_model.proofs.KeyLaws.{key_decides}
use Rattle.x5_model.proofs.Lists.{both_true, and_true, not_true, or_left, in_first, in_either, in_map, any_in, of_find, of_all, all_in}
use Rattle.x5_model.proofs.Prefixes.{prefix_itself, prefix_decides, prefix_length, parent_is_prefix, parent_length, same_by_length}
use Rattle.x5_model_tree.specs.World.{World, Nssr}
use Rattle.x5_model_tree.specs.Tree.{key_at, keys_of, entry_at, is_there}
use Rattle.x5_model_tree.specs.Apply.{Ground, UpdatedEntries, absent, above_nssr, above_pin, at_entry, rename, apply_over}
use Rattle.x5_model_tree.proofs.Grown.{above_key}
use Rattle.x5_model_run.specs.Holdings.{Held, Holdings, held_at, known_pins, known_pin, holds_within, ground_at}
use Rattle.x5_model_run.specs.History.{Point, knowledge_at, tree_at, holdings_at}
use Rattle.x5_model_run.specs.Journal.{item_of, is_done, is_wide, same_name}
use Rattle.x5_model_run.specs.Needs.{target_of, others, proceeding, resolves, nssr_at, new_name, is_refused_here, probe_of, probe_needs, due_probes}
use Rattle.x5_model_run.specs.Placed.{fits, is_brought, Placed}
use Rattle.x5_model_run.specs.Chain.{probe_request, is_probe, part_request, asks_part, is_user}
use Rattle.x5_model_run.specs.Stage.{stage_of, is_lower}
use Rattle.x5_model_theory.specs.Leading.{IsSound, item_for, level_of, IsFurther, ProbesArePlaced}
use Rattle.x5_model_theory.proofs.Tests.{false_true}
use Rattle.x5_model_theory.proofs.Views.{there_decides}
use Rattle.x5_model_theory.proofs.Stages.{key_length, lower_chain}
use Rattle.x5_model_theory.proofs.Holding.{good_at, by_agent, own_mastered}
use Rattle.x5_model_theory.proofs.Longest.{longest_some, respelled_key}
use Rattle.x5_model_theory.proofs.Rows.{within_is, next_lower, next_further, own_part, held_is, beyond}

-- a test that refuses, refuses
refused_by : (b : Bool) (x : DirError) (y : UpdatedEntries) → b ≡ true → is_err (if b then Err x else y) ≡ true
refused_by true x y e = refl
refused_by false x y e = absurd (false_true e)

refused_at : (g : Ground) (key : Key) (f : Named → UpdatedEntries) → ((e : Named) → is_err (f e) ≡ true) → is_err (at_entry g key f) ≡ true
refused_at g key f h = go (entry_at g.entries key)
  where
    by : Option Named → UpdatedEntries
    by None = Err (absent g key)
    by (Some e) = f e

    go : (x : Option Named) → is_err (by x) ≡ true
    go None = refl
    go (Some e) = h e

-- the new name of a pin isn't probed: the pin can't be renamed
pin_refused : (g : Ground) (n : Name) (rdn : Rdn) (drops : Bool) → In (key_of n) g.pins → is_err (apply_over g (ModifyDn n rdn drops)) ≡ true
pin_refused g n rdn drops i = go (fault_of (ModifyDn n rdn drops))
  where
    by : Option DirError → UpdatedEntries
    by (Some x) = Err x
    by None = rename g n rdn drops

    at_pin : above_pin g (key_of n) ≡ true
    at_pin = or_left (list_any (is_prefix (key_of n)) g.pins) (above_nssr g (key_of n)) (any_in (is_prefix (key_of n)) (key_of n) g.pins i ((prefix_decides (key_of n) (key_of n)).1 (prefix_itself (key_of n))))

    go : (x : Option DirError) → is_err (by x) ≡ true
    go (Some x) = refl
    go None = refused_at g (key_of n) _ (λ e. refused_by (above_pin g (key_of n)) _ _ at_pin)

above_length : (n : Name) (rdn : Rdn) → 0 < length n → length (name_above n ++ rdn ∷ []) ≡ length n
above_length n rdn f =
    let a : length (name_above n ++ rdn ∷ []) ≡ length (name_above n) + 1 = length-append (name_above n) (rdn ∷ []) in
    let b : length (name_above n) + 1 ≡ length n = omega (arith, length-take (length n - 1) n) in
    a ∙ b

module _ (p : Point) (o : ℕ) (m : Chained) where
  abbrev w : World
  w = knowledge_at p

  abbrev h : Holdings
  h = holdings_at p o

  record IsProbe (r : Reference) : Type 0 where
    name : Name
    named : new_name m.request.body ≡ Some name
    res : resolves h m ≡ true
    pin : Key
    known : known_pin m.request h (key_of m.target) ≡ Some pin
    context : Held
    held : held_at h.own pin ≡ Some context
    free : is_refused_here h m.request ≡ false
    entry : Named
    at : entry_at context.entries (parent (key_of name)) ≡ Some entry
    agents : List ℕ
    is : r ≡ proceeding (length name) entry.name name NonSpecific agents

  probe_is : (r : Reference) → In r (probe_needs h m) → IsProbe r
  probe_is r i = by_name (new_name m.request.body) refl i
    where
      ask : Name → Named → Nssr → List Reference
      ask name e n = when (not (is_empty (others (holdings_at p o).me n.agents))) (proceeding (length name) e.name name NonSpecific (others (holdings_at p o).me n.agents))

      from : Name → Held → Named → List Reference
      from name c e = in_option [] (ask name e) (nssr_at c.nssrs (key_of e.name))

      at_master : Name → Held → List Reference
      at_master name c = if is_there c.entries (key_of m.target) && not (is_refused_here (holdings_at p o) m.request) then probe_of (holdings_at p o) name c else []

      due : Name → List Reference
      due name = if resolves (holdings_at p o) m then in_option [] (λ (q : Key). in_option [] (at_master name) (held_at (holdings_at p o).own q)) (known_pin m.request (holdings_at p o) (key_of m.target)) else []

      of_when : (b : Bool) (x : Reference) → In r (when b x) → r ≡ x
      of_when true x l = elim (in_first r x [] l) [ inl e ↦ e | inr k ↦ elim k [ ] ]
      of_when false x l = elim l [ ]

      by_name : (x : Option Name) → new_name m.request.body ≡ x → In r (in_option [] due x) → IsProbe r
      by_name None e i = elim i [ ]
      by_name (Some name) named i = by_res (resolves (holdings_at p o) m) refl i
        where
          by_nssr : (q : Key) → resolves (holdings_at p o) m ≡ true → known_pin m.request (holdings_at p o) (key_of m.target) ≡ Some q → (c : Held) → held_at (holdings_at p o).own q ≡ Some c → is_refused_here (holdings_at p o) m.request ≡ false
              → (e : Named) → entry_at c.entries (parent (key_of name)) ≡ Some e → (x : Option Nssr) → In r (in_option [] (ask name e) x) → IsProbe r
          by_nssr q res known c held free e at None i = elim i [ ]
          by_nssr q res known c held free e at (Some n) i =
              record { name = name; named = named; res = res; pin = q; known = known; context = c; held = held; free = free; entry = e; at = at; agents = others (holdings_at p o).me n.agents; is = of_when _ _ i }

          by_entry : (q : Key) → resolves (holdings_at p o) m ≡ true → known_pin m.request (holdings_at p o) (key_of m.target) ≡ Some q → (c : Held) → held_at (holdings_at p o).own q ≡ Some c → is_refused_here (holdings_at p o) m.request ≡ false
              → (x : Option Named) → entry_at c.entries (parent (key_of name)) ≡ x → In r (in_option [] (from name c) x) → IsProbe r
          by_entry q res known c held free None at i = elim i [ ]
          by_entry q res known c held free (Some e) at i = by_nssr q res known c held free e at (nssr_at c.nssrs (key_of e.name)) i

          by_test : (q : Key) → resolves (holdings_at p o) m ≡ true → known_pin m.request (holdings_at p o) (key_of m.target) ≡ Some q → (c : Held) → held_at (holdings_at p o).own q ≡ Some c
              → (b : Bool) → (is_there c.entries (key_of m.target) && not (is_refused_here (holdings_at p o) m.request)) ≡ b → In r (if b then probe_of (holdings_at p o) name c else []) → IsProbe r
          by_test q res known c held false e i = elim i [ ]
          by_test q res known c held true e i =
              by_entry q res known c held (not_true (is_refused_here (holdings_at p o) m.request) (both_true (is_there c.entries (key_of m.target)) _ e).1) (entry_at c.entries (parent (key_of name))) refl i

          by_context : (q : Key) → resolves (holdings_at p o) m ≡ true → known_pin m.request (holdings_at p o) (key_of m.target) ≡ Some q → (x : Option Held) → held_at (holdings_at p o).own q ≡ x → In r (in_option [] (at_master name) x) → IsProbe r
          by_context q res known None e i = elim i [ ]
          by_context q res known (Some c) e i = by_test q res known c e (is_there c.entries (key_of m.target) && not (is_refused_here (holdings_at p o) m.request)) refl i

          by_pin : resolves (holdings_at p o) m ≡ true → (x : Option Key) → known_pin m.request (holdings_at p o) (key_of m.target) ≡ x → In r (in_option [] (λ (q : Key). in_option [] (at_master name) (held_at (holdings_at p o).own q)) x) → IsProbe r
          by_pin res None e i = elim i [ ]
          by_pin res (Some q) e i = by_context q res e (held_at (holdings_at p o).own q) refl i

          by_res : (b : Bool) → resolves (holdings_at p o) m ≡ b
              → In r (if b then in_option [] (λ (q : Key). in_option [] (at_master name) (held_at (holdings_at p o).own q)) (known_pin m.request (holdings_at p o) (key_of m.target)) else []) → IsProbe r
          by_res false e i = elim i [ ]
          by_res true e i = by_pin e (known_pin m.request (holdings_at p o) (key_of m.target)) refl i

  module _ (sound : IsSound p) (r : Reference) (x : IsProbe r) where
    mine : In x.context h.own × (key_of x.context.prefix ≡ x.pin)
    mine = held_is p o m x.pin x.context x.held

    found : In x.entry x.context.entries × (key_at x.entry ≡ parent (key_of x.name))
    found = (let f = of_find (λ (y : Named). same_key (key_at y) (parent (key_of x.name))) x.entry x.context.entries x.at in (f.0, (key_decides (key_at x.entry) (parent (key_of x.name))).0 f.1))

    in_tree : IsPrefix (key_of x.context.prefix) (key_at x.entry) × In x.entry (tree_at p).entries
    in_tree = own_part p o m x.context x.entry mine.0 found.0

    pin_filled : 0 < length x.pin
    pin_filled =
        let f : 0 < length (key_of x.context.prefix) =
        by_agent p o (λ y. In x.context y.own → 0 < length (key_of x.context.prefix)) (λ i. elim i [ ])
        (λ agent ia i. (let c = own_mastered p o agent x.context ia i in subst (λ (y : Key). 0 < length y) c.3 ((good_at p sound).filled c.0 c.1))) mine.0 in
        subst (λ (y : Key). 0 < length y) mine.1 f

    name_long : 1 < length x.name
    name_long =
        let a : length x.pin ≤ length (key_at x.entry) = subst (λ (y : Key). length y ≤ length (key_at x.entry)) mine.1 (prefix_length (key_of x.context.prefix) (key_at x.entry) in_tree.0) in
        let b : length (key_at x.entry) ≡ length (parent (key_of x.name)) = ap length found.1 in
        let c : length (key_of x.name) ≡ length x.name = key_length x.name in
        let d : length (parent (key_of x.name)) ≤ length (key_of x.name) - 1 = omega (arith, length-take (length (key_of x.name) - 1) (key_of x.name)) in
        let f : 0 < length x.pin = pin_filled in
        omega arith

    -- the target is the new name
    asked_name : key_of r.target ≡ key_of x.name
    asked_name =
        let c : length (key_of x.name) ≡ length x.name = key_length x.name in
        let long : 1 < length x.name = name_long in
        let up : length (parent (key_of x.name)) + 1 ≡ length (key_of x.name) = parent_length (key_of x.name) (omega arith) in
        let e : length (key_at x.entry) ≡ length (parent (key_of x.name)) = ap length found.1 in
        let el : length (key_at x.entry) ≡ length x.entry.name = key_length x.entry.name in
        let le : length x.name - 1 ≤ length x.entry.name = omega arith in
        ap (λ (y : Reference). key_of y.target) x.is
        ∙ respelled_key (length x.name - 1) x.entry.name x.name le (subst (λ (y : Key). IsPrefix y (key_of x.name)) (sym found.1) (parent_is_prefix (key_of x.name)))

    progress : r.progress ≡ Next (length x.name)
    progress = ap (λ (y : Reference). y.progress) x.is

    kind : r.kind ≡ NonSpecific
    kind = ap (λ (y : Reference). y.kind) x.is

    module _ (fit : same_name (target_of m.request.body) m.target ≡ true) where
      target_key : key_of (target_of m.request.body) ≡ key_of m.target
      target_key = (key_decides (key_of (target_of m.request.body)) (key_of m.target)).0 fit

      -- by the two forms of updates that name anew
      by_form : (P : Body → Type 0)
          → ((n : Name) (attributes : _) → m.request.body ≡ AddEntry n attributes → n ≡ x.name → P (AddEntry n attributes))
          → ((n : Name) (rdn : Rdn) (drops : Bool) → m.request.body ≡ ModifyDn n rdn drops → same_name (name_above n ++ rdn ∷ []) n ≡ false → name_above n ++ rdn ∷ [] ≡ x.name → P (ModifyDn n rdn drops))
          → P m.request.body
      by_form P add moves = go m.request.body refl x.named
        where
          go : (b : Body) → m.request.body ≡ b → new_name b ≡ Some x.name → P b
          go (Read name selection) e f = cc
          go (Compare name assertion) e f = cc
          go (ListBelow name) e f = cc
          go (Search base subset g selection) e f = cc
          go (AddEntry name attributes) e f = (let same : name ≡ x.name = cc in add name attributes e same)
          go (RemoveEntry name) e f = cc
          go (ModifyEntry name changes) e f = cc
          go (ModifyDn name rdn drops) e f = by (same_name (name_above name ++ rdn ∷ []) name) refl f
            where
              by : (b : Bool) → same_name (name_above name ++ rdn ∷ []) name ≡ b → (if b then None else Some (name_above name ++ rdn ∷ [])) ≡ Some x.name → P (ModifyDn name rdn drops)
              by true g f = cc
              by false g f = (let same : name_above name ++ rdn ∷ [] ≡ x.name = cc in moves name rdn drops e g same)

      -- so far as its message came, the new name is longer
      longer : (j : ℕ) → holds_within h (key_of m.target) j ≡ true → j < length x.name
      longer j d =
          by_form (λ b. j < length x.name)
          (λ n attributes e same.
          let at : key_of m.target ≡ parent (key_of x.name) = sym target_key ∙ ap (λ (b : Body). key_of (target_of b)) e ∙ above_key n ∙ ap (λ (y : Name). parent (key_of y)) same in
          let y = within_is h (key_of m.target) j d in
          let a : length (key_of y.0) ≤ length (key_of m.target) = prefix_length (key_of y.0) (key_of m.target) y.2 in
          let b : length (key_of m.target) ≡ length (parent (key_of x.name)) = ap length at in
          let c : length (key_of x.name) ≡ length x.name = key_length x.name in
          let long : 1 < length x.name = name_long in
          let up : length (parent (key_of x.name)) + 1 ≡ length (key_of x.name) = parent_length (key_of x.name) (omega arith) in
          let ge : j ≤ length (key_of y.0) = y.3 in
          omega arith)
          (λ n rdn drops e other same.
          let at : key_of m.target ≡ key_of n = sym target_key ∙ ap (λ (b : Body). key_of (target_of b)) e in
          let l = longest_some (map key_of (known_pins m.request h)) (key_of m.target) x.pin x.known in
          let le : length x.pin ≤ length (key_of m.target) = prefix_length x.pin (key_of m.target) l.1 in
          let nl : length (key_of m.target) ≡ length n = ap length at ∙ key_length n in
          let filled : 0 < length x.pin = pin_filled in
          let el : length x.name ≡ length n = ap length (sym same) ∙ above_length n rdn (omega arith) in
          let ne : length x.pin ≡ length n → ⊥ = λ level.
          (let whole : x.pin ≡ key_of m.target = same_by_length x.pin (key_of m.target) (key_of m.target) l.1 (prefix_itself (key_of m.target)) (level ∙ sym nl) in
          let i : In (key_of n) (ground_at m.request h).pins = subst (λ (k : Key). In k (map key_of (known_pins m.request h))) (whole ∙ at) l.0 in
          let refused : is_refused_here h m.request ≡ true = ap (λ (b : Body). is_err (apply_over (ground_at m.request h) b)) e ∙ pin_refused (ground_at m.request h) n rdn drops i in
          false_true (sym x.free ∙ refused)) in
          let jl : j ≤ length x.pin = beyond p o m x.pin x.known j d in
          omega (arith, ne))

      -- what is asked is a probe
      probes : (t : Name) → key_of t ≡ key_of x.name → is_probe m.request.body t ≡ true
      probes t e =
          by_form (λ b. is_probe b t ≡ true)
          (λ n attributes f same. other (name_above n) (λ up.
          (let is : key_of (name_above n) ≡ key_of x.name = up ∙ e in
          let a : length (parent (key_of x.name)) ≡ length (key_of x.name) = ap (λ (y : Name). length (parent (key_of y))) (sym same) ∙ ap length (sym (above_key n) ∙ is) in
          let c : length (key_of x.name) ≡ length x.name = key_length x.name in
          let long : 1 < length x.name = name_long in
          let b : length (parent (key_of x.name)) + 1 ≡ length (key_of x.name) = parent_length (key_of x.name) (omega arith) in
          omega arith)))
          (λ n rdn drops f free same. other n (λ up.
          false_true (sym free ∙ (key_decides (key_of (name_above n ++ rdn ∷ [])) (key_of n)).1 (ap key_of same ∙ sym e ∙ sym up))))
        where
          other : (n : Name) → (key_of n ≡ key_of t → ⊥) → (true && not (same_name n t)) ≡ true
          other n f = go (same_name n t) refl
            where
              go : (b : Bool) → same_name n t ≡ b → not b ≡ true
              go true e = absurd (f ((key_decides (key_of n) (key_of t)).0 e))
              go false e = refl

probe_asked : (probe part : Bool) (x y z : Request) → probe ≡ true → (if probe then x else (if part then y else z)) ≡ x
probe_asked true part x y z e = refl
probe_asked false part x y z e = absurd (false_true e)

pub probes_are_placed : ProbesArePlaced
probes_are_placed p sender opener r m a sound i ia carried placed = go (is_some (fault_of opener.message.request.body)) i
  where
    w : World
    w = knowledge_at p

    placed_by : IsProbe p opener.receiver opener.message r → Placed p m a
    placed_by x =
        let o : ℕ = opener.receiver in
        let fit : same_name (target_of opener.message.request.body) opener.message.target ≡ true = (both_true (same_name (target_of opener.message.request.body) opener.message.target) _ placed.fit).0 in
        let target : key_of m.target ≡ key_of x.name = sym ((key_decides (key_of r.target) (key_of m.target)).0 carried.target_is) ∙ asked_name p o opener.message sound r x in
        let k : ℕ = length x.name in
        let is_next : m.progress ≡ Next (length x.name) = carried.progress_is ∙ progress p o opener.message sound r x in
        let is_kind : m.kind ≡ NonSpecific = carried.kind_is ∙ kind p o opener.message sound r x in
        let request : m.request ≡ probe_request m.target =
        carried.request_is ∙ probe_asked (is_probe opener.message.request.body m.target) (asks_part r) (probe_request m.target) (part_request (is_user sender) (is_wide r.kind) m.target opener.message.request) opener.message.request
        (probes p o opener.message sound r x fit m.target target) in
        let asks : same_name (target_of m.request.body) m.target ≡ true = ap (λ (y : Request). same_name (target_of y.body) m.target) request ∙ (key_decides (key_of m.target) (key_of m.target)).1 refl in
        let early : not (is_done m.progress) ≡ true = ap (λ (y : Progress). not (is_done y)) is_next in
        let low : is_lower (stage_of (knowledge_at p) (item_of o opener.message)) (stage_of (knowledge_at p) (record { agent = a; target = m.target; progress = Next (length x.name); wide = is_wide m.kind })) ≡ true =
        next_lower p o opener.message a (length x.name) m.target (is_wide m.kind) x.res (λ j d. inl (longer p o opener.message sound r x fit j d)) in
        let own : is_lower (stage_of (knowledge_at p) (item_of o opener.message)) (stage_of (knowledge_at p) (item_of a m)) ≡ true =
        subst (λ (y : Progress). is_lower (stage_of (knowledge_at p) (item_of o opener.message)) (stage_of (knowledge_at p) (record { agent = a; target = m.target; progress = y; wide = is_wide m.kind })) ≡ true) (sym is_next) low in
        let each : (t : TraceItem) → In t m.trace → is_lower (stage_of (knowledge_at p) t) (stage_of (knowledge_at p) (item_of a m)) ≡ true = λ t it.
        elim (in_either t opener.message.trace (item_of o opener.message ∷ []) (subst (λ (xs : List TraceItem). In t xs) carried.trace_is it)) [
          | inl z ↦ lower_chain (stage_of (knowledge_at p) t) (stage_of (knowledge_at p) (item_of o opener.message)) (stage_of (knowledge_at p) (item_of a m))
              (of_all (λ (y : TraceItem). is_lower (stage_of (knowledge_at p) y) (stage_of (knowledge_at p) (item_of o opener.message))) t opener.message.trace placed.lower z) own
          | inr z ↦ elim (in_first t (item_of o opener.message) [] z) [
            | inl e ↦ subst (λ (y : TraceItem). is_lower (stage_of (knowledge_at p) y) (stage_of (knowledge_at p) (item_of a m)) ≡ true) (sym e) own
            | inr l ↦ elim l [ ]
          ]
        ] in
        let at : take (length x.name - 1) (key_of m.target) ≡ key_at x.entry =
        ap (take (length x.name - 1)) target ∙ ap (λ (n : ℕ). take (n - 1) (key_of x.name)) (sym (key_length x.name)) ∙ sym (found p o opener.message sound r x).1 in
        let there : is_there (tree_at p).entries (take (length x.name - 1) (key_of m.target)) ≡ true =
        (there_decides (tree_at p).entries (take (length x.name - 1) (key_of m.target))).1 (subst (λ (y : Key). In y (keys_of (tree_at p).entries)) (sym at) (in_map key_at x.entry (tree_at p).entries (in_tree p o opener.message sound r x).1)) in
        let first : is_brought p (record m { progress = Next (length x.name); kind = NonSpecific }) a ≡ true = there in
        let second : is_brought p (record m { kind = NonSpecific }) a ≡ true = subst (λ (y : Progress). is_brought p (record m { progress = y; kind = NonSpecific }) a ≡ true) (sym is_next) first in
        record {
          fit = and_true (same_name (target_of m.request.body) m.target) _ asks (or_left (not (is_done m.progress)) _ early);
          lower = all_in (λ (t : TraceItem). is_lower (stage_of (knowledge_at p) t) (stage_of (knowledge_at p) (item_of a m))) m.trace each;
          brought = subst (λ (y : RefType). is_brought p (record m { kind = y }) a ≡ true) (sym is_kind) second;
        }

    go : (b : Bool) → In r (if b then [] else probe_needs (holdings_at p opener.receiver) opener.message) → Placed p m a
    go true j = elim j [ ]
    go false j = placed_by (probe_is p opener.receiver opener.message r j)

-- and is further than its opener's item
pub probe_further : (p : Point) (o : ℕ) (m : Chained) (r : Reference) (a : ℕ) → IsSound p → fits m ≡ true → In r (due_probes (holdings_at p o) m) → IsFurther (knowledge_at p) (item_of o m) (item_for a r)
probe_further p o m r a sound fit i = go (is_some (fault_of m.request.body)) i
  where
    named : same_name (target_of m.request.body) m.target ≡ true
    named = (both_true (same_name (target_of m.request.body) m.target) _ fit).0

    by_probe : IsProbe p o m r → IsFurther (knowledge_at p) (item_of o m) (item_for a r)
    by_probe x =
        let long : 1 < length x.name = name_long p o m sound r x in
        let f : IsFurther (knowledge_at p) (item_of o m) (record { agent = a; target = r.target; progress = Next (length x.name); wide = is_wide r.kind }) =
        next_further p o m a (length x.name) r.target (is_wide r.kind) x.res (omega arith) (λ j d. inl (longer p o m sound r x named j d)) in
        subst (λ (y : Progress). IsFurther (knowledge_at p) (item_of o m) (record { agent = a; target = r.target; progress = y; wide = is_wide r.kind })) (sym (progress p o m sound r x)) f

    go : (b : Bool) → In r (if b then [] else probe_needs (holdings_at p o) m) → IsFurther (knowledge_at p) (item_of o m) (item_for a r)
    go true j = elim j [ ]
    go false j = by_probe (probe_is p o m r j)

-- and no further than the new name is long
pub probe_within : (n : ℕ) (p : Point) (o : ℕ) (m : Chained) (r : Reference) (a : ℕ) → IsSound p → ((name : Name) → new_name m.request.body ≡ Some name → length name ≤ n) → In r (due_probes (holdings_at p o) m)
    → (level_of (item_for a r) ≤ n) × (length r.target ≤ n)
probe_within n p o m r a sound fresh i = go (is_some (fault_of m.request.body)) i
  where
    by_probe : IsProbe p o m r → (level_of (item_for a r) ≤ n) × (length r.target ≤ n)
    by_probe x =
        let le : length x.name ≤ n = fresh x.name x.named in
        let long : length r.target ≡ length x.name = sym (key_length r.target) ∙ ap length (asked_name p o m sound r x) ∙ key_length x.name in
        (subst (λ (y : Progress). level_of (record { agent = a; target = r.target; progress = y; wide = is_wide r.kind }) ≤ n) (sym (progress p o m sound r x)) le, omega arith)

    go : (b : Bool) → In r (if b then [] else probe_needs (holdings_at p o) m) → (level_of (item_for a r) ≤ n) × (length r.target ≤ n)
    go true j = elim j [ ]
    go false j = by_probe (probe_is p o m r j)
