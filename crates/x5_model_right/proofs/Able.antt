-- The tree never says that an agent is unable to proceed; so whose right reply is that, it is unable.
use Rattle.std.proofs.Common.{◌≡◌, Bool, true, false, refl, subst, Option, Some, None, Ok, Err, if◌then◌else◌}
use Rattle.x5_model.specs.Keys.{Key}
use Rattle.x5_model.specs.Values.{TypeRef, Name, key_of}
use Rattle.x5_model.specs.Entries.{Named}
use Rattle.x5_model.specs.Selections.{selection_fault}
use Rattle.x5_model.specs.Problems.{no_such_attribute_or_value, unable_to_proceed}
use Rattle.x5_model.specs.Requests.{Selection, Body, Read, Compare, ListBelow, Search, AddEntry, RemoveEntry, ModifyEntry, ModifyDn, Request}
use Rattle.x5_model.specs.References.{Chained}
use Rattle.x5_model.specs.Answers.{DirError, NoSuchObject, AttributeProblem, Reply, Failed}
use Rattle.x5_model.specs.Statics.{fault_of}
use Rattle.x5_model_tree.specs.Tree.{Tree, entry_at, is_there_or_root, matched}
use Rattle.x5_model_tree.specs.Ask.{Told, Shows, Compares, Lists, Finds, Changes, Refuses, has_type, at_object, read, compare, info_of, updated, ask_body, ask_marked}
use Rattle.x5_model_tree.specs.Apply.{UpdatedEntries, Applied, ground_of, apply_over, apply}
use Rattle.x5_model_run.specs.Journal.{Journal, is_done, is_wide}
use Rattle.x5_model_run.specs.Needs.{is_unable}
use Rattle.x5_model_run.specs.History.{Point, tree_at}
use Rattle.x5_model_run.specs.Chain.{Scene}
use Rattle.x5_model_run.specs.Covers.{answer_below, answer_at_pin, told}
use Rattle.x5_model_run.specs.Blocked.{Asked}
use Rattle.x5_model_run.specs.Right as right
use Rattle.x5_model_run.specs.Right.{Right, result, changed}
use Rattle.x5_model_replies.specs.Replies as placed
use Rattle.x5_model_replies.specs.Replies.{RightReply, usual}
use Rattle.x5_model_serve.specs.Answering.{is_service}
use Rattle.x5_model_bounds.specs.Unable.{IsUnable}
use Rattle.x5_model_bounds.proofs.Able.{replies_able}
use Rattle.x5_model_bounds.proofs.Unables.{false_true}

abbrev IsAble : Told → Type 0
IsAble (Shows info) = Unit {0}
IsAble (Compares equal copy) = Unit {0}
IsAble (Lists subs cut) = Unit {0}
IsAble (Finds infos cut) = Unit {0}
IsAble Changes = Unit {0}
IsAble (Refuses x) = IsUnable (Failed x) → ⊥

able_if : (b : Bool) (x y : Told) → IsAble x → IsAble y → IsAble (if b then x else y)
able_if true x y f g = f
able_if false x y f g = g

object_able : (t : Tree) (name : Name) (f : Named → Told) → ((e : Named) → IsAble (f e)) → IsAble (at_object t name f)
object_able t name f h = go (entry_at t.entries (key_of name))
  where
    by : Option Named → Told
    by None = Refuses (NoSuchObject (matched t.entries (key_of name)))
    by (Some e) = f e

    go : (x : Option Named) → IsAble (by x)
    go None = false_true
    go (Some e) = h e

read_able : (copies : Key → Bool) (selection : Selection) (e : Named) → IsAble (read copies selection e)
read_able copies selection e = go (selection_fault selection e.entry)
  where
    by : Option TypeRef → Told
    by None = Shows (info_of copies selection e)
    by (Some kind) = Refuses (AttributeProblem no_such_attribute_or_value kind)

    go : (x : Option TypeRef) → IsAble (by x)
    go None = tt
    go (Some kind) = false_true

applied_able : (t : Tree) (r : Request) → IsAble (updated (apply t r))
applied_able t r = go (apply_over (ground_of t) r.body) refl
  where
    by : UpdatedEntries → Applied
    by (Ok entries) = Ok (record t { entries = entries })
    by (Err x) = Err x

    go : (x : UpdatedEntries) → apply_over (ground_of t) r.body ≡ x → IsAble (updated (by x))
    go (Ok es) e = tt
    go (Err x) e = replies_able.judged (ground_of t) r.body x e

body_able : (copies : Key → Bool) (t : Tree) (r : Request) (b : Body) → IsAble (ask_body copies t r b)
body_able copies t r (Read name selection) = object_able t name (read copies selection) (read_able copies selection)
body_able copies t r (Compare name a) = object_able t name (compare copies a) (λ e. able_if (has_type e.entry a.kind) _ _ tt false_true)
body_able copies t r (ListBelow name) = able_if (is_there_or_root t.entries (key_of name)) _ _ tt false_true
body_able copies t r (Search base subset f selection) = able_if (is_there_or_root t.entries (key_of base)) _ _ tt false_true
body_able copies t r (AddEntry name attributes) = applied_able t r
body_able copies t r (RemoveEntry name) = applied_able t r
body_able copies t r (ModifyEntry name changes) = applied_able t r
body_able copies t r (ModifyDn name rdn drops) = applied_able t r

asked_able : (copies : Key → Bool) (t : Tree) (r : Request) → IsAble (ask_marked copies t r)
asked_able copies t r = go (fault_of r.body) refl
  where
    by : Option DirError → Told
    by (Some x) = Refuses x
    by None = ask_body copies t r r.body

    go : (x : Option DirError) → fault_of r.body ≡ x → IsAble (by x)
    go (Some x) e = replies_able.faults r.body x e
    go None e = body_able copies t r r.body

below_able : (copies : Key → Bool) (t : Tree) (r : Request) (b : Body) → IsAble (answer_below copies t r b)
below_able copies t r (ListBelow name) = tt
below_able copies t r (Search base subset f selection) = tt
below_able copies t r (Read name selection) = asked_able copies t r
below_able copies t r (Compare name a) = asked_able copies t r
below_able copies t r (AddEntry name attributes) = asked_able copies t r
below_able copies t r (RemoveEntry name) = asked_able copies t r
below_able copies t r (ModifyEntry name changes) = asked_able copies t r
below_able copies t r (ModifyDn name rdn drops) = asked_able copies t r

pin_able : (copies : Key → Bool) (t : Tree) (r : Request) (b : Body) → IsAble (answer_at_pin copies t r b)
pin_able copies t r (ListBelow name) = tt
pin_able copies t r (Search base subset f selection) = asked_able copies t r
pin_able copies t r (Read name selection) = asked_able copies t r
pin_able copies t r (Compare name a) = asked_able copies t r
pin_able copies t r (AddEntry name attributes) = asked_able copies t r
pin_able copies t r (RemoveEntry name) = asked_able copies t r
pin_able copies t r (ModifyEntry name changes) = asked_able copies t r
pin_able copies t r (ModifyDn name rdn drops) = asked_able copies t r

told_able : (copies : Key → Bool) (t : Tree) (m : Chained) → IsAble (told copies t m)
told_able copies t m =
    able_if (is_done m.progress) _ _
    (able_if (is_wide m.kind) _ _ (below_able copies t m.request m.request.body) (pin_able copies t m.request m.request.body))
    (asked_able copies t m.request)

pub unable_is : (p : Point) (s : Scene) (q : Asked) (j : Journal) (spent : Bool) (reply : Reply) → RightReply p s q j spent reply → is_service unable_to_proceed reply ≡ true → is_unable (s.holdings q.to) q.message ≡ true
unable_is p s q j spent reply (usual able r) u = absurd (by reply r u)
  where
    by : (y : Reply) → Right p s q j y → IsUnable y → ⊥
    by _ (result on x n a) v = false_true v
    by _ (changed on n a) v = false_true v
    by _ (right.error {x} on t o n) v = subst IsAble t (told_able (λ key. false) (tree_at p) q.message) v
    by _ (right.referral l f n) v = false_true v
    by _ (right.unheard l f n) v = false_true v
unable_is p s q j spent reply (placed.unable h) u = h
unable_is p s q j spent reply (placed.limit on h none) u = absurd (false_true u)
