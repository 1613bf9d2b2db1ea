-- What an agent keeps of its changes once it committed an update: one step more, with the context that it is in.
use Rattle.std.proofs.Common.{◌≡◌, ℕ, zero, suc, ◌-◌, Bool, List, [], ◌∷◌, ◌++◌, length, map, drop, slice_get, slice_set, refl, sym, ap, ◌∙◌, nat_lt, if◌then◌else◌, Option, None, Some}
use Rattle.std.specs.Option.{option_map}
use Rattle.std.proofs.lemmas.List.{drop-map, length-map, map-append, map-set}
use Rattle.x5_model.specs.Words.{first_of, in_option}
use Rattle.x5_model.specs.Keys.{parent}
use Rattle.x5_model.specs.Values.{key_of, last_rdn}
use Rattle.x5_model.specs.Entries.{Entry, Named}
use Rattle.x5_model.specs.Changes.{ChangedEntry, modified, renamed}
use Rattle.x5_model.specs.Requests.{Body, Request, Read, Compare, ListBelow, Search, AddEntry, RemoveEntry, ModifyEntry, ModifyDn}
use Rattle.x5_model_tree.specs.Tree.{entry_at}
use Rattle.x5_model_updates.specs.Afterwards.{name_after, new_entry}
use Rattle.x5_model_refreshed.specs.Steps.{Step, Add, Remove, Modify, Rename, modify_step, step_of}
use Rattle.x5_dse.specs.Linked.{entries_of}
use Rattle.x5_consume.specs.Steps.{step_view}
use Rattle.x5_ops.specs.declared.knowledge.Step.{Step as CodeStep}
use Rattle.x5_ops.specs.declared.knowledge.Step.TheVariants as steps
use Rattle.x5_holdings.specs.declared.log.Logged.{Logged}
use Rattle.x5_holdings.specs.Logs as holdings
use Rattle.x5_holdings.specs.State.{Kept, State, held_view, holdings_view}
use Rattle.x5_update.specs.Committing.{IsCommitted, IsUncommitted}
use Rattle.x5_update.specs.Plans.{IsStepOf}
use Rattle.x5_world.specs.Logs.{AreNoted, Logs, Notes, noting}
use Rattle.x5_world.specs.LogViews.{copy_notes, logged_view, logs_view, notes_view, own_notes}

-- ---- the step that is noted is the update's

step_told : (es : List Named) (b : Body) (s : CodeStep) → IsStepOf es b s
    → step_of es b ≡ Some (step_view s)
step_told es (Read name selection) s w = absurd w
step_told es (Compare name assertion) s w = absurd w
step_told es (ListBelow name) s w = absurd w
step_told es (Search base subset f selection) s w = absurd w
step_told es (AddEntry name attributes) (steps.Add e) w =
    ap (option_map (λ (above : Named). Add (new_entry above name attributes))) w.1 ∙ ap (λ (x : Named). Some (Add x)) (sym w.2)
step_told es (AddEntry name attributes) (steps.Remove n) w = absurd w
step_told es (AddEntry name attributes) (steps.Modify e) w = absurd w
step_told es (AddEntry name attributes) (steps.Rename n e) w = absurd w
step_told es (RemoveEntry name) (steps.Remove n) w =
    ap (option_map (λ (old : Named). Remove old.name)) w.1 ∙ (λ i. Some (Remove (sym w.2 i)))
step_told es (RemoveEntry name) (steps.Add e) w = absurd w
step_told es (RemoveEntry name) (steps.Modify e) w = absurd w
step_told es (RemoveEntry name) (steps.Rename n e) w = absurd w
step_told es (ModifyEntry name changes) (steps.Modify e) w =
    ap (in_option None (λ (old : Named). modify_step old (modified (last_rdn name) changes old.entry))) w.2
    ∙ ap (modify_step w.0) w.3 ∙ ap (λ (x : Named). Some (Modify x)) (sym w.4)
step_told es (ModifyEntry name changes) (steps.Add e) w = absurd w
step_told es (ModifyEntry name changes) (steps.Remove n) w = absurd w
step_told es (ModifyEntry name changes) (steps.Rename n e) w = absurd w
step_told es (ModifyDn name rdn drops) (steps.Rename n e) w =
    ap (option_map (λ (old : Named). Rename old.name (record {
      name = name_after name rdn old;
      entry = renamed (last_rdn name) rdn drops old.entry;
    }))) w.1
    ∙ (λ i. Some (Rename (sym w.2 i) (sym w.3 i)))
step_told es (ModifyDn name rdn drops) (steps.Add e) w = absurd w
step_told es (ModifyDn name rdn drops) (steps.Remove n) w = absurd w
step_told es (ModifyDn name rdn drops) (steps.Modify e) w = absurd w

-- ---- what a log notes

pub map_at : {A B : Type 0} (f : A → B) (xs : List A) (i : ℕ) (x : A) → slice_get xs i ≡ Some x
    → slice_get (map f xs) i ≡ Some (f x)
map_at f [] i x e = cc
map_at {A} f (y ∷ ys) zero x e = let q : y ≡ x = cc in ap (λ (z : A). Some (f z)) q
map_at f (y ∷ ys) (suc i) x e = map_at f ys i x e

first_mapped : (base : ℕ) (xs : List Logged)
    → in_option base (λ y. y.moment) (first_of xs) ≡ in_option base (λ y. y.0) (first_of (map logged_view xs))
first_mapped base [] = refl
first_mapped base (x ∷ xs) = refl

pub noted_log : (old after : holdings.Log) (x : Logged) → holdings.IsLogged old x after
    → notes_view after ≡ noting (logged_view x) (notes_view old)
noted_log old after x l =
    let n : length old.changes ≡ length (map logged_view old.changes) = sym (length-map old.changes logged_view) in
    let base : after.base ≡ (noting (logged_view x) (notes_view old)).base =
    l.base ∙ ap (λ (z : ℕ). if nat_lt (length old.changes) 256 then old.base else z) (first_mapped old.base old.changes)
    ∙ ap (λ (k : ℕ). if nat_lt k 256 then old.base else in_option old.base (λ y. y.0) (first_of (map logged_view old.changes))) n in
    let changes : map logged_view after.changes ≡ (noting (logged_view x) (notes_view old)).changes =
    ap (map logged_view) l.changes
    ∙ map-append logged_view (drop (length old.changes - 255) old.changes) (x ∷ [])
    ∙ ap (λ (zs : List (ℕ × Step)). zs ++ logged_view x ∷ []) (sym (drop-map logged_view (length old.changes - 255) old.changes))
    ∙ ap (λ (k : ℕ). drop (k - 255) (map logged_view old.changes) ++ logged_view x ∷ []) n in
    λ i. record { base = base i; changes = changes i }

-- ---- an agent's logs

pub are_noted : (s t : State) (r : Request) → IsCommitted s r t
    → AreNoted s.moment r (holdings_view s) (logs_view s) (logs_view t)
are_noted s t r c =
    let x : Logged = record { moment = s.moment; step = c.step } in record {
      place = c.place;
      context = held_view c.before;
      notes = own_notes c.before;
      step = step_view c.step;
      held = map_at held_view s.own c.place c.before c.was;
      kept = map_at own_notes s.own c.place c.before c.was;
      told = step_told (entries_of c.before.nodes.nodes) r.body c.step c.told;
      new_is = ap logs_view c.new_is
          ∙ ap (λ (ns : List Notes). record (logs_view s) { own = ns })
          (map-set own_notes s.own c.place c.after
          ∙ ap (λ (n : Notes). slice_set (map own_notes s.own) c.place n) (noted_log c.before.log c.after.log x c.noted));
    }

noted_alike : (xs ys : List Kept) → map (λ (c : Kept). c.log.base) ys ≡ map (λ (c : Kept). c.log.base) xs
    → map (λ (c : Kept). c.log.changes) ys ≡ map (λ (c : Kept). c.log.changes) xs
    → map own_notes ys ≡ map own_notes xs
noted_alike [] [] e f = refl
noted_alike [] (y ∷ ys) e f = cc
noted_alike (x ∷ xs) [] e f = cc
noted_alike (x ∷ xs) (y ∷ ys) e f =
    let base : y.log.base ≡ x.log.base = cc in
    let changes : y.log.changes ≡ x.log.changes = cc in
    let bases : map (λ (c : Kept). c.log.base) ys ≡ map (λ (c : Kept). c.log.base) xs = cc in
    let more : map (λ (c : Kept). c.log.changes) ys ≡ map (λ (c : Kept). c.log.changes) xs = cc in
    let rest : map own_notes ys ≡ map own_notes xs = noted_alike xs ys bases more in
    λ i. record { base = base i; changes = map logged_view (changes i) } ∷ rest i

pub are_unnoted : (s t : State) → IsUncommitted s t → logs_view t ≡ logs_view s
are_unnoted s t u =
    let own : map own_notes t.own ≡ map own_notes s.own = noted_alike s.own t.own u.bases u.changes in
    λ i. record { own = own i; copies = map copy_notes (u.copies i) }
