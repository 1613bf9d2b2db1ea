-- Elements before the octets that were there, put together.
use Rattle.std.proofs.Common.{◌≡◌, ℕ, ◌<◌, List, ◌++◌, length, get_or, map, ap, sym, subst, ◌∙◌, append_assoc, append-nil, refl}
use Rattle.std.specs.declared.option.Option.{Option}
use Rattle.std.specs.declared.option.Option.TheVariants.{None, Some}
use Rattle.std.specs.declared.result.Result.{Result}
use Rattle.std.specs.declared.result.Result.TheVariants.{Ok, Err}
use Rattle.x5_model_octets.specs.Elements.{Element, Elements, More, Nil, canonical, canonical_all}
use Rattle.std.specs.Result.{IsErrAnd}
use Rattle.x5_model_typed.specs.Forms.{Alternative, Layout}
use Rattle.x5_model_typed.specs.Nodes.{row}
use Rattle.x5_model_typed.specs.Written.{one_before, single, written, written_members}
use Rattle.x5_types.specs.declared.node.Node.{Node}
use Rattle.x5_types.specs.NodeView.{node_view}
use Rattle.x5_writer.proofs.Members.{none_there}
use Rattle.x5_writer.specs.Puts.{Puts}
use Rattle.x5_writer.specs.declared.fault.WriteFault.{WriteFault}
use Rattle.x5_writer.specs.declared.fault.WriteFault.TheVariants.{Misfit, NoMemory}

pub same_put : {X Y : Type 0} (f : X → List ℕ) (o p : Option X) (old new : List ℕ) (r : Result Y WriteFault)
    → p ≡ o → Puts f o old new r → Puts f p old new r
same_put f o p old new r is put = subst (λ q. Puts f q old new r) (sym is) put

-- the only member
pub single_put : {Y : Type 0} (o : Option Element) (p : Option Elements) (old new : List ℕ) (r : Result Y WriteFault)
    → p ≡ single o → Puts canonical o old new r → Puts canonical_all p old new r
single_put o p old new (Ok y) is put =
    (More put.0 Nil, is ∙ ap single put.1, put.2 ∙ ap (λ (l : List ℕ). l ++ old) (sym (append-nil (canonical put.0))))
single_put o p old new (Err Misfit) is put = is ∙ ap single put
single_put o p old new (Err NoMemory) is put = tt

-- one before others
pub one_put : {Y : Type 0} (o : Option Element) (es : Elements) (p : Option Elements) (old mid new : List ℕ)
    (r : Result Y WriteFault)
    → p ≡ one_before o (Some es) → mid ≡ canonical_all es ++ old → Puts canonical o mid new r
    → Puts canonical_all p old new r
one_put o es p old mid new (Ok y) is others put = (
  More put.0 es,
  is ∙ ap (λ (q : Option Element). one_before q (Some es)) put.1,
  put.2 ∙ ap (λ (l : List ℕ). canonical put.0 ++ l) others
      ∙ sym (append_assoc (canonical put.0) (canonical_all es) old),
)
one_put o es p old mid new (Err Misfit) is others put = is ∙ ap (λ (q : Option Element). one_before q (Some es)) put
one_put o es p old mid new (Err NoMemory) is others put = tt

none_behind : (o : Option Element) → one_before o None ≡ None
none_behind None = refl
none_behind (Some e) = refl

-- others that have none
pub no_others : (o : Option Element) (others p : Option Elements) (old mid new : List ℕ) (fault : WriteFault)
    → p ≡ one_before o others → Puts {Y = Unit {0}} canonical_all others old mid (Err fault)
    → Puts {Y = Unit {0}} canonical_all p old new (Err fault)
no_others o others p old mid new Misfit is put =
    is ∙ ap (λ (q : Option Elements). one_before o q) put ∙ none_behind o
no_others o others p old mid new NoMemory is put = tt

-- a fault that is passed on
pub err_is : {W : Type 0} (r : Result (Unit {0}) W) (w : W) → IsErrAnd r (λ x. x ≡ w) → r ≡ Err w
err_is (Ok x) w h = elim h [ ]
err_is {W = W} (Err x) w h = ap (λ (y : W). Err y) h

pub by_error : {X : Type 0} (f : X → List ℕ) (o : Option X) (old new : List ℕ) (fault : WriteFault)
    (r : Result (Unit {0}) WriteFault)
    → IsErrAnd r (λ x. x ≡ fault) → Puts {Y = Unit {0}} f o old new (Err fault) → Puts f o old new r
by_error f o old new fault r is put = subst (λ q. Puts f o old new q) (sym (err_is r fault is)) put

-- a member that has none
pub no_member : (table : Layout) (types : List Alternative) (items : List Node) (i : ℕ) (x : Node) (old mid new : List ℕ) (fault : WriteFault)
    → i < length items → x ≡ get_or items i x
    → Puts {Y = Unit {0}} canonical (written table types (node_view x)) mid new (Err fault)
    → Puts {Y = Unit {0}} canonical_all (written_members table types (row (map node_view items))) old new (Err fault)
no_member table types items i x old mid new Misfit lt is put =
    none_there table types items i x lt (ap (λ (y : Node). written table types (node_view y)) (sym is) ∙ put)
no_member table types items i x old mid new NoMemory lt is put = tt
