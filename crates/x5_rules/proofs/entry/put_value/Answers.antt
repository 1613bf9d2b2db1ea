-- The value goes where its normal form does, if it's of the kind and not there yet.
use Rattle.std.proofs.Common.{◌≡◌, ◌&&◌, ◌≤◌, ℕ, Bool, true, false, not, List, length, map, insert, ap, ap₂, sym, ◌∙◌, arith}
use Rattle.std.specs.List.{position_or_len}
use Rattle.x5_model.specs.Words.{has, same_octets, octets_below}
use Rattle.x5_model_typed.specs.Nodes as nodes
use Rattle.x5_model_typed.specs.Rules as rules
use Rattle.x5_types.specs.NodeView.{node_view}
use Rattle.x5_rules.proofs.Keyed.{has_by, put_by, normals_by, twice_mapped, not_so, is_so}
use Rattle.x5_rules.proofs.entry.put_value.Goals as goal

pub returns-in_default-clause-new : goal.returns-in_default-clause-new
returns-in_default-clause-new c =
    let k = c.args.kind in
    let n = node_view c.args.node in
    let all = map node_view c.args.nodes.now.items in
    let kind = not_so (rules.is_of_type k n) (rules.normal_in k n) (sym c.in_default.is ∙ c.in_ok-normal.ensures) in
    sym (ap (λ (b : Bool). b && not (has (rules.same_value k) all n)) kind)

pub returns-then-is_among-clause-new : goal.returns-then-is_among-clause-new
returns-then-is_among-clause-new c =
    let k = c.args.kind in
    let n = node_view c.args.node in
    let all = map node_view c.args.nodes.now.items in
    let both = is_so (rules.is_of_type k n) (rules.normal_in k n) c.in-Some.normal (sym c.in-Some.is ∙ c.in_ok-normal.ensures) in
    let among : c.is_among.result ≡ has (rules.same_value k) all n =
    c.is_among.ensures ∙ ap₂ (λ (l : List (List ℕ)) (m : List ℕ). has same_octets l m) (c.deref.ensures.value ∙ c.requires) both.1
    ∙ has_by (rules.normal_in k) n all in
    sym (ap₂ (λ (a b : Bool). a && not b) both.0 (sym among ∙ c.if-is_among.true))

pub returns-clause-new : goal.returns-clause-new
returns-clause-new c =
    let k = c.args.kind in
    let n = node_view c.args.node in
    let all = map node_view c.args.nodes.now.items in
    let both = is_so (rules.is_of_type k n) (rules.normal_in k n) c.in-Some.normal (sym c.in-Some.is ∙ c.in_ok-normal.ensures) in
    let among : c.is_among.result ≡ has (rules.same_value k) all n =
    c.is_among.ensures ∙ ap₂ (λ (l : List (List ℕ)) (m : List ℕ). has same_octets l m) (c.deref.ensures.value ∙ c.requires) both.1
    ∙ has_by (rules.normal_in k) n all in
    sym (ap₂ (λ (a b : Bool). a && not b) both.0 (sym among ∙ c.if-is_among.false))

pub returns-clause-put : goal.returns-clause-put
returns-clause-put c = λ _.
    let k = c.args.kind in
    let n = node_view c.args.node in
    let all = map node_view c.args.nodes.now.items in
    let both = is_so (rules.is_of_type k n) (rules.normal_in k n) c.in-Some.normal (sym c.in-Some.is ∙ c.in_ok-normal.ensures) in
    let among : c.is_among.result ≡ has (rules.same_value k) all n =
    c.is_among.ensures ∙ ap₂ (λ (l : List (List ℕ)) (m : List ℕ). has same_octets l m) (c.deref.ensures.value ∙ c.requires) both.1
    ∙ has_by (rules.normal_in k) n all in
    let place : c.place_of-place.result ≡ position_or_len (λ y. not (octets_below y (rules.normal_in k n))) (map (rules.normal_in k) all) =
    c.place_of-place.ensures.place
    ∙ ap₂ (λ (m : List ℕ) (l : List (List ℕ)). position_or_len (λ y. not (octets_below y m)) l) both.1 (c.deref-2.ensures.value ∙ c.requires) in
    let inside : c.place_of-place.result ≤ length c.args.nodes.now.items =
    omega (arith, c.place_of-place.ensures.inside, ap (λ (l : List (List ℕ)). length l) (c.deref-2.ensures.value ∙ c.requires), twice_mapped (rules.normal_in k) node_view c.args.nodes.now.items) in
    put_by (rules.normal_in k) node_view c.args.nodes.now.items c.insert-2.new.self.items c.args.node c.place_of-place.result inside place
    c.in_ok-insert-2.ensures.items

pub returns-clause-normals : goal.returns-clause-normals
returns-clause-normals c = λ _.
    let k = c.args.kind in
    let n = node_view c.args.node in
    let all = map node_view c.args.nodes.now.items in
    let both = is_so (rules.is_of_type k n) (rules.normal_in k n) c.in-Some.normal (sym c.in-Some.is ∙ c.in_ok-normal.ensures) in
    let among : c.is_among.result ≡ has (rules.same_value k) all n =
    c.is_among.ensures ∙ ap₂ (λ (l : List (List ℕ)) (m : List ℕ). has same_octets l m) (c.deref.ensures.value ∙ c.requires) both.1
    ∙ has_by (rules.normal_in k) n all in
    let inside : c.place_of-place.result ≤ length c.args.nodes.now.items =
    omega (arith, c.place_of-place.ensures.inside, ap (λ (l : List (List ℕ)). length l) (c.deref-2.ensures.value ∙ c.requires), twice_mapped (rules.normal_in k) node_view c.args.nodes.now.items) in
    normals_by (rules.normal_in k) node_view c.args.nodes.now.items c.insert-2.new.self.items c.args.node c.place_of-place.result
    c.args.normals.now.items c.insert.new.self.items inside c.requires
    (c.in_ok-insert.ensures.items ∙ ap (λ (m : List ℕ). insert c.args.normals.now.items c.place_of-place.result m) both.1) c.in_ok-insert-2.ensures.items
