-- An update of the one tree: what is replied is what the tree tells, the tree is the one that the update leaves, and it stays
-- the tree of coherent knowledge.
use Rattle.std.proofs.Common.{◌≡◌, ℕ, true, false, List, [], refl, sym, ap, subst, ◌∙◌, None, Result, Ok, Err, IfOk}
use Rattle.std.specs.Prelude.{OnOk, OnErr}
use Rattle.x5_memory.specs.declared.NoMemory.{NoMemory}
use Rattle.x5_model.specs.Entries.{Named}
use Rattle.x5_model.specs.Requests.{Body, Read, Compare, ListBelow, Search, AddEntry, RemoveEntry, ModifyEntry, ModifyDn}
use Rattle.x5_model.specs.Requests.{Request}
use Rattle.x5_model.specs.Answers.{DirError, Source, Reply as Told}
use Rattle.x5_model.specs.Statics.{fault_of}
use Rattle.x5_model_run.specs.History.{tree_with}
use Rattle.x5_model_theory.specs.Changing.{with_entries}
use Rattle.x5_model_tree.specs.Apply.{Applied, apply, ground_of, update}
use Rattle.x5_model_tree.specs.Ask.{is_update, updated, ask, ask_body}
use Rattle.x5_model_tree.specs.Tree.{Tree}
use Rattle.x5_model_updates.specs.Keeping.{keys_in}
use Rattle.x5_model_updates.proofs.Keeps.{updates_keep}
use Rattle.x5_model_updates.proofs.Outcomes.{over_update, tree_accepts, tree_refuses}
use Rattle.x5_ops.specs.AnswerViews.{error_view, reply_view}
use Rattle.x5_ops.specs.declared.answers.Reply.{Reply}
use Rattle.x5_ops.specs.declared.changes.ChangeFault.{ChangeFault}
use Rattle.x5_ops.specs.declared.changes.ChangeFault.TheVariants as faults
use Rattle.x5_one.specs.Making.{IsMade, IsReplied}
use Rattle.x5_one.specs.Parts.{IsSound}
use Rattle.x5_one.specs.Replies.{reply_of}
use Rattle.x5_one.proofs.Sound.{told_after}

abbrev or_same : Tree → Applied → Tree
or_same t (Ok u) = u
or_same t (Err x) = t

abbrev told_by : Source → Applied → Told
told_by source a = reply_of source (updated a)

updates_told : (t : Tree) (r : Request) (body : Body) → is_update body ≡ true
    → ask_body (λ key. false) t r body ≡ updated (apply t r)
updates_told t r (Read name selection) e = cc
updates_told t r (Compare name assertion) e = cc
updates_told t r (ListBelow name) e = cc
updates_told t r (Search base subset filter selection) e = cc
updates_told t r (AddEntry name attributes) e = refl
updates_told t r (RemoveEntry name) e = refl
updates_told t r (ModifyEntry name changes) e = refl
updates_told t r (ModifyDn name rdn drops) e = refl

module _ (t : Tree) (r : Request) (none : None ≡ fault_of r.body) (changes : is_update r.body ≡ true) where
  accepted : (es : List Named) → update (ground_of t) r.body ≡ Ok es → apply t r ≡ Ok (record t { entries = es })
  accepted es q = tree_accepts t r es (over_update (ground_of t) r.body (sym none) ∙ q)

  refused : (x : DirError) → update (ground_of t) r.body ≡ Err x → apply t r ≡ Err x
  refused x q = tree_refuses t r x (over_update (ground_of t) r.body (sym none) ∙ q)

  told : (source : Source) (a : Applied) → apply t r ≡ a → told_by source a ≡ reply_of source (ask t r)
  told source a q = ap (told_by source) (sym q) ∙ ap (reply_of source) (sym (updates_told t r r.body changes))
      ∙ told_after source t r none

  pub sound_after : (made : Result (Unit {0}) ChangeFault) (after : List Named)
      → IsMade made (update (ground_of t) r.body) t.entries after → IsSound t → IsSound (record t { entries = after })
  sound_after (Ok u) after is s =
      let k = updates_keep s.knowledge t (record t { entries = after }) r s.coherent s.tree (accepted after is) in
      record {
        knowledge = with_entries (keys_in (record t { entries = after })) s.knowledge;
        coherent = k.0;
        tree = k.1;
        once = s.once;
      }
  sound_after (Err f) after is s = subst (λ (es : List Named). IsSound (record t { entries = es })) (sym is.1) s

  pub reply_is : (made : Result (Unit {0}) ChangeFault) (result : Result Reply NoMemory) (after : List Named)
      → IsMade made (update (ground_of t) r.body) t.entries after → IsReplied made result
      → IfOk result (λ reply. (names : List (List ℕ)) (source : Source) → reply_view names reply
      ≡ reply_of source (ask t r))
  reply_is (Ok u) (Ok reply) after is said = λ names source. said names ∙ told source (Ok (record t { entries = after }))
      (accepted after is)
  reply_is (Ok u) (Err e) after is said = absurd said
  reply_is (Err (faults.Refused x)) (Ok reply) after is said = λ names source. said names
      ∙ told source (Err (error_view names x)) (refused (error_view names x) (is.0 names))
  reply_is (Err (faults.Refused x)) (Err e) after is said = absurd said
  reply_is (Err faults.NoMemory) (Ok reply) after is said = absurd said
  reply_is (Err faults.NoMemory) (Err e) after is said = tt

  pub tree_is : (made : Result (Unit {0}) ChangeFault) (result : Result Reply NoMemory) (after : List Named)
      → IsMade made (update (ground_of t) r.body) t.entries after → IsReplied made result
      → OnOk result (record t { entries = after } ≡ tree_with t r)
  tree_is (Ok u) (Ok reply) after is said = ap (or_same t) (sym (accepted after is))
  tree_is (Ok u) (Err e) after is said = absurd said
  tree_is (Err (faults.Refused x)) (Ok reply) after is said = ap (λ (es : List Named). record t { entries = es }) is.1
      ∙ ap (or_same t) (sym (refused (error_view [] x) (is.0 [])))
  tree_is (Err (faults.Refused x)) (Err e) after is said = absurd said
  tree_is (Err faults.NoMemory) (Ok reply) after is said = absurd said
  tree_is (Err faults.NoMemory) (Err e) after is said = tt

  pub err_is : (made : Result (Unit {0}) ChangeFault) (result : Result Reply NoMemory) (after : List Named)
      → IsMade made (update (ground_of t) r.body) t.entries after → IsReplied made result
      → OnErr result (after ≡ t.entries)
  err_is (Ok u) (Ok reply) after is said = tt
  err_is (Ok u) (Err e) after is said = absurd said
  err_is (Err (faults.Refused x)) (Ok reply) after is said = tt
  err_is (Err (faults.Refused x)) (Err e) after is said = absurd said
  err_is (Err faults.NoMemory) (Ok reply) after is said = absurd said
  err_is (Err faults.NoMemory) (Err e) after is said = is.1

-- a refusal by the request alone leaves the tree
pub refused_stays : (t : Tree) (r : Request) (x : DirError) → apply t r ≡ Err x → t ≡ tree_with t r
refused_stays t r x q = ap (or_same t) (sym q)

pub by_err : {X E : Type 0} (P Q : Type 0) → (P → Q) → (r : Result X E) → OnErr r P → OnErr r Q
by_err P Q f (Ok x) p = tt
by_err P Q f (Err e) p = f p
