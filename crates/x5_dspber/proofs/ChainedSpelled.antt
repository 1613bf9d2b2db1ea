-- What is written of a message between agents that is a value of its type spells it: there is room under it, since the filter of a search
-- isn't too deep.
use Rattle.std.proofs.Common.{◌≡◌, ℕ, ◌+◌, ◌<◌, ◌≤◌, ◌^◌, ℤ, pos, List, [], ◌∷◌, map, length, refl, sym, ap, subst, ◌∙◌, arith}
use Rattle.std.specs.declared.option.Option.TheVariants.{Some}
use Rattle.x5_model.specs.Requests.{Controls, Body, Read, Compare, ListBelow, Search, AddEntry, RemoveEntry, ModifyEntry, ModifyDn}
use Rattle.x5_model_messages.specs.Chained.{Chained, chaining_node, carried_node, chained_node}
use Rattle.x5_model_messages.specs.Replies.{item_node}
use Rattle.x5_model_messages.specs.Requests.{argument_node}
use Rattle.x5_model_messages.specs.Terms.{node_of, rdn_node}
use Rattle.x5_model_octets.specs.Elements.{deepest}
use Rattle.x5_model_run.specs.Journal.{operation_of}
use Rattle.x5_model_typed.specs.Named as named
use Rattle.x5_model_typed.specs.Nodes.{Node, Nodes, Chosen, Many}
use Rattle.x5_model_typed.specs.Forms.{plain}
use Rattle.x5_model_typed.specs.Layouts as layouts
use Rattle.x5_model_typed.specs.Typed.{Spells}
use Rattle.x5_model_typed.specs.Written.{canonical_octets}
use Rattle.x5_model_typed_laws.specs.Fits.{Fits}
use Rattle.x5_model_typed_laws.proofs.Back.{written_is_spelled}
use Rattle.x5_types.specs.FormView.{nowhere, table}
use Rattle.x5_dapber.proofs.Clock.{a_table}
use Rattle.x5_dapber.proofs.FilterLevels.{argument_shallow, second_same}
use Rattle.x5_dapber.proofs.Fitting.{only_made, pair_in, sequence_in}
use Rattle.x5_dapber.proofs.Levels.{IsShallow}
use Rattle.x5_dapber.proofs.RequestRooms.{Takes, many_take, rdn_takes, name_takes, argument_takes}
use Rattle.x5_dapber.proofs.Rooms.{Room, has_spelling}
use Rattle.x5_dapber.proofs.Tags.{good_tags}
use Rattle.x5_dapreply.proofs.ReplyRooms.{progress_takes, item_takes}
use Rattle.x5_dspber.proofs.ChainedIsSayable.{codes, invoke_of}

-- ---- the filter

argument_of : (o : named.Operation) (x y : Node) → Fits table (table (named.Chained o)) (node_of (x ∷ y ∷ []))
    → Fits table (table (named.Argument o)) y
argument_of o x y f =
    let m = only_made table (layouts.sequence (plain named.Chaining ∷ plain (named.Argument o) ∷ [])) (node_of (x ∷ y ∷ [])) refl (λ n. refl) f in
    let two = pair_in table named.Chaining (named.Argument o) m.members (sequence_in table _ m.members m.within) in
    let same = second_same x y two.first two.second (m.is_many ∙ ap Many two.split) in
    subst (λ (n : Node). Fits table (table (named.Argument o)) n) same two.fits_second

carried_shallow : (c : Controls) (b : Body) (x : Node) (form : named.Named) (k : ℕ) → k ≡ operation_of b → codes (pos k) ≡ Some form
    → Fits table (table form) (node_of (x ∷ argument_node (record { controls = c; body = b }) ∷ [])) → IsShallow b
carried_shallow c (Search base subset filter selection) x form k is e fit =
    let b = Search base subset filter selection in
    let n = argument_node (record { controls = c; body = b }) in
    let names : codes (pos 5) ≡ Some form = ap (λ (m : ℕ). codes (pos m)) (sym is) ∙ e in
    let same : form ≡ named.Chained named.Search = cc in
    argument_shallow c b (named.Argument named.Search) 5 refl refl
    (argument_of named.Search x n (subst (λ (y : named.Named). Fits table (table y) (node_of (x ∷ n ∷ []))) same fit))
carried_shallow c (Read name selection) x form k is e fit = tt
carried_shallow c (Compare name assertion) x form k is e fit = tt
carried_shallow c (ListBelow name) x form k is e fit = tt
carried_shallow c (AddEntry name attributes) x form k is e fit = tt
carried_shallow c (RemoveEntry name) x form k is e fit = tt
carried_shallow c (ModifyEntry name changes) x form k is e fit = tt
carried_shallow c (ModifyDn name rdn drops) x form k is e fit = tt

chained_shallow : (id : ℕ) (m : Chained) → Fits table (table named.DspRequest) (chained_node id m) → IsShallow m.request.body
chained_shallow id m fit =
    let o = invoke_of (chained_node id m) fit in
    let i = o.invoked in
    let whole = o.is ∙ ap (λ (ns : Nodes). Chosen o.tag (Many ns)) i.split in
    let code : pos (operation_of m.request.body) ≡ i.operation = cc in
    let carried : i.carried ≡ carried_node m = cc in
    carried_shallow m.request.controls m.request.body (chaining_node m) i.form (operation_of m.request.body) refl (ap codes code ∙ i.names)
    (subst (λ (x : Node). Fits table (table i.form) x) carried i.fits_carried)

-- ---- room

chaining_takes : (m : Chained) → Takes 12 (chaining_node m)
chaining_takes m d le = (
  omega (arith, le),
  (
    name_takes m.target (d + 2) (omega (arith, le)),
    (
      progress_takes m.progress (d + 2) (omega (arith, le)),
      (
        many_take item_node 8 item_takes m.trace (d + 2) (omega (arith, le)),
        (omega (arith, le), (many_take rdn_node 4 rdn_takes m.exclusions (d + 2) (omega (arith, le)), tt)),
      ),
    ),
  ),
)

chained_room : (id : ℕ) (m : Chained) → IsShallow m.request.body → Room 1 (chained_node id m)
chained_room id m h =
    let of_chaining : 1 + 1 + 2 + 2 + 12 ≤ deepest = omega arith in
    let of_argument : 1 + 1 + 2 + 2 + 57 ≤ deepest = omega arith in
    let chaining = chaining_takes m (1 + 1 + 2 + 2) of_chaining in
    let argument = argument_takes m.request.controls m.request.body h (1 + 1 + 2 + 2) of_argument in
    (omega arith, (omega arith, (omega arith, (omega arith, ((omega arith, (chaining, (argument, tt))), tt)))))

pub chained_spelled : (id : ℕ) (m : Chained) (octets : List ℕ) → Fits table (table named.DspRequest) (chained_node id m)
    → canonical_octets table named.DspRequest (chained_node id m) ≡ Some octets → length octets < 2 ^ 64
    → Spells table named.DspRequest octets (chained_node id m)
chained_spelled id m octets fit written short =
    written_is_spelled table named.DspRequest (chained_node id m) octets a_table fit
    (has_spelling table (good_tags nowhere) named.DspRequest (chained_node id m) octets
    (chained_room id m (chained_shallow id m fit)) written short)
    written
