-- What is printed of a reply of the one tree is what the tree tells, whatever names are printed with: the tree names no agents.
use Rattle.std.proofs.Common.{◌≡◌, ℕ, Bool, true, false, ◌&&◌, List, [], ◌∷◌, ◌++◌, map, refl, sym, ap, subst, ◌∙◌, codes, Option, None, Some, Result, Ok, Err, IfOk}
use Rattle.std.specs.Prelude.{OnOk}
use Rattle.std.specs.List.{list_all}
use Rattle.x5_model.specs.Words.{same_octets}
use Rattle.x5_model.specs.Requests.{Request, Read, Compare, ListBelow, Search, AddEntry, RemoveEntry, ModifyEntry, ModifyDn, Body}
use Rattle.x5_model.specs.Statics.{fault_of}
use Rattle.x5_model.specs.Answers as told
use Rattle.x5_model.specs.Answers.{Source, DirError as Error, NoSuchObject, AttributeProblem, UpdateProblem, ServiceProblem}
use Rattle.x5_model.proofs.Lists.{or_left}
use Rattle.std.specs.Cmp.Lexicographic.{bytes_decides}
use Rattle.x5_model_tree.specs.Tree.{Tree}
use Rattle.x5_model_tree.specs.Apply.{Applied, apply, ground_of, update}
use Rattle.x5_model_tree.specs.Ask.{Told, Shows, Compares, Lists, Finds, Changes, Refuses, ask, ask_body, updated, is_update}
use Rattle.x5_model_run.specs.History.{tree_with}
use Rattle.x5_model_run.specs.Run.{Blank}
use Rattle.x5_model_heard.proofs.Errors.{is_tree_error, asked_plain}
use Rattle.x5_model_updates.proofs.Outcomes.{over_fault, over_update, tree_refuses, tree_accepts}
use Rattle.x5_model_output.specs.Output.{Names, number_line, error_line}
use Rattle.x5_model_output.specs.Plain.{plain_reply_lines, told_lines, tree_left}
use Rattle.x5_model_output.proofs.Telling.{plain_is_told}
use Rattle.x5_know.specs.Moments.{Start}
use Rattle.x5_one.specs.Replies.{reply_of}
use Rattle.x5_ops.specs.AnswerViews.{reply_view, source_view}
use Rattle.x5_ops.specs.ReferenceViews.{reference_view}
use Rattle.x5_ops.specs.declared.answers.Answer.TheVariants as answers
use Rattle.x5_ops.specs.declared.answers.DirError.TheVariants as errors
use Rattle.x5_ops.specs.declared.answers.Reply.{Reply}
use Rattle.x5_ops.specs.declared.answers.Reply.TheVariants as replies
use Rattle.x5_ops.specs.declared.answers.Source.{Source as From}
use Rattle.x5_ops.specs.declared.journal.Journal.{Journal}
use Rattle.x5_ops.specs.declared.references.Reference.{Reference}
use Rattle.x5_report.specs.Blocks.{block_known, IsBlockText}
use Rattle.x5_report.specs.Views.{names_with, is_known, line_known, source_known, reference_known, journal_known, reply_known}
use Rattle.x5_report.specs.declared.report.LineOutcome.TheVariants.{Plain, Set}
use Rattle.xdir.specs.Tree.{IsReplied}

both : (a b : Bool) → a ≡ true → b ≡ true → (a && b) ≡ true
both a b p q = rw p q

-- ---- what a reply names

-- a reply with one source at most, and no reference
abbrev IsBare : told.Reply → Type 0
IsBare (told.Answered (told.EntryFound info source)) = Unit {0}
IsBare (told.Answered (told.Matched equal copy source)) = Unit {0}
IsBare (told.Answered (told.Listed subs sources o)) = (sources ≡ []) × (o.unexplored ≡ [])
IsBare (told.Answered (told.Found infos sources o)) = (sources ≡ []) × (o.unexplored ≡ [])
IsBare (told.Answered told.Changed) = Unit {0}
IsBare (told.Failed x) = is_tree_error x ≡ true
IsBare (told.Referred r) = ⊥

-- the name of its source
abbrev own_names : Reply → List (List ℕ)
own_names (replies.Done (answers.Entry entry source)) = source.agent ∷ []
own_names (replies.Done (answers.Match matched copy source)) = source.agent ∷ []
own_names (replies.Done (answers.Listed subs sources outcome)) = []
own_names (replies.Done (answers.Found entries sources outcome)) = []
own_names (replies.Done answers.Changed) = []
own_names (replies.Failed error) = []
own_names (replies.Refer reference) = []

own_known : (agent : List ℕ) → is_known (agent ∷ []) agent ≡ true
own_known agent = or_left (same_octets agent agent) false ((bytes_decides agent agent).1 refl)

no_sources : (names : List (List ℕ)) (sources : List From) → map (source_view names) sources ≡ [] → list_all (source_known names) sources ≡ true
no_sources names [] e = refl
no_sources names (s ∷ more) e = cc

no_references : (names : List (List ℕ)) (rs : List Reference) → map (reference_view names) rs ≡ [] → list_all (reference_known names) rs ≡ true
no_references names [] e = refl
no_references names (r ∷ more) e = cc

bare_known : (r : Reply) → IsBare (reply_view (own_names r) r) → reply_known (own_names r) r ≡ true
bare_known (replies.Done (answers.Entry entry source)) b = own_known source.agent
bare_known (replies.Done (answers.Match matched copy source)) b = own_known source.agent
bare_known (replies.Done (answers.Listed subs sources outcome)) b =
    both (list_all (source_known []) sources) (list_all (reference_known []) outcome.unexplored) (no_sources [] sources b.0)
    (no_references [] outcome.unexplored b.1)
bare_known (replies.Done (answers.Found entries sources outcome)) b =
    both (list_all (source_known []) sources) (list_all (reference_known []) outcome.unexplored) (no_sources [] sources b.0)
    (no_references [] outcome.unexplored b.1)
bare_known (replies.Done answers.Changed) b = refl
bare_known (replies.Failed (errors.Name matched)) b = refl
bare_known (replies.Failed (errors.Attribute problem kind)) b = refl
bare_known (replies.Failed (errors.Update problem)) b = refl
bare_known (replies.Failed (errors.Service problem reference item)) b = cc
bare_known (replies.Refer reference) b = absurd b

-- ---- what the tree tells

-- an error of the tree isn't the service's
abbrev IsPlain : Told → Type 0
IsPlain (Refuses x) = is_tree_error x ≡ true
IsPlain (Shows info) = Unit {0}
IsPlain (Compares equal copy) = Unit {0}
IsPlain (Lists subs cut) = Unit {0}
IsPlain (Finds infos cut) = Unit {0}
IsPlain Changes = Unit {0}

is_plain : (t : Tree) (r : Request) → IsPlain (ask t r)
is_plain t r = by (ask t r) refl
  where
    by : (told : Told) → ask t r ≡ told → IsPlain told
    by (Refuses x) q = asked_plain (λ key. false) t r x q
    by (Shows info) q = tt
    by (Compares equal copy) q = tt
    by (Lists subs cut) q = tt
    by (Finds infos cut) q = tt
    by Changes q = tt

is_bare : (source : Source) (told : Told) → IsPlain told → IsBare (reply_of source told)
is_bare source (Refuses x) p = p
is_bare source (Shows info) p = tt
is_bare source (Compares equal copy) p = tt
is_bare source (Lists subs cut) p = (refl, refl)
is_bare source (Finds infos cut) p = (refl, refl)
is_bare source Changes p = tt

same_error : (n m : Names) (x : Error) → is_tree_error x ≡ true → error_line n x ≡ error_line m x
same_error n m (NoSuchObject matched) p = refl
same_error n m (AttributeProblem k kind) p = refl
same_error n m (UpdateProblem k) p = refl
same_error n m (ServiceProblem k r i) p = cc

-- whatever names it is printed with
same_lines : (n m : Names) (told : Told) → IsPlain told → told_lines n told ≡ told_lines m told
same_lines n m (Refuses x) p = same_error n m x p
same_lines n m (Shows info) p = refl
same_lines n m (Compares equal copy) p = refl
same_lines n m (Lists subs cut) p = refl
same_lines n m (Finds infos cut) p = refl
same_lines n m Changes p = refl

tells : (n : Names) (source : Source) (t : Told) → plain_reply_lines n (reply_of source t) ≡ told_lines n t
tells n source (Refuses x) = refl
tells n source (Shows info) = plain_is_told n (told.EntryFound info source) refl
tells n source (Compares equal copy) = plain_is_told n (told.Matched equal copy source) refl
tells n source (Lists subs cut) = plain_is_told n (told.Listed subs [] (record { limited = cut; unexplored = [] })) refl
tells n source (Finds infos cut) = plain_is_told n (told.Found infos [] (record { limited = cut; unexplored = [] })) refl
tells n source Changes = refl

-- ---- blocks

no_journal : (names : List (List ℕ)) (j : Journal) → j.lines ≡ [] → j.accepted ≡ [] → journal_known names j ≡ true
no_journal names j lines accepted =
    both (list_all (line_known names) j.lines) (list_all (is_known names) j.accepted) (ap (list_all (line_known names)) lines)
    (ap (list_all (is_known names)) accepted)

pub reply_block : (t : Tree) (r : Request) (reply : Reply) (start : Start) (line : ℕ) (j : Journal) (text : List ℕ)
    → IsReplied t r reply → j.lines ≡ [] → j.accepted ≡ []
    → ((names : List (List ℕ)) → block_known names j (Plain reply) ≡ true → IsBlockText (names_with names start) names line j (Plain reply) text)
    → (n : Names) → text ≡ number_line line ++ told_lines n (ask t r)
reply_block t r reply start line j text replied lines accepted prints n =
    let own : List (List ℕ) = own_names reply in
    let from = replied own in
    let bare : IsBare (reply_view own reply) = subst IsBare (sym from.1) (is_bare from.0 (ask t r) (is_plain t r)) in
    let known : reply_known own reply ≡ true = bare_known reply bare in
    prints own (both (journal_known own j) (reply_known own reply) (no_journal own j lines accepted) known)
    ∙ ap (λ (x : told.Reply). number_line line ++ plain_reply_lines (names_with own start) x) from.1
    ∙ ap (λ (x : List ℕ). number_line line ++ x) (tells (names_with own start) from.0 (ask t r)
    ∙ same_lines (names_with own start) n (ask t r) (is_plain t r))

pub set_block : (start : Start) (line : ℕ) (j : Journal) (text : List ℕ) → j.lines ≡ [] → j.accepted ≡ []
    → ((names : List (List ℕ)) → block_known names j Set ≡ true → IsBlockText (names_with names start) names line j Set text)
    → text ≡ number_line line ++ codes "set\n"
set_block start line j text lines accepted prints =
    prints [] (both (journal_known [] j) true (no_journal [] j lines accepted) refl) Blank

-- ---- the tree afterwards

updates_told : (t : Tree) (r : Request) (body : Body) → is_update body ≡ true → ask_body (λ key. false) t r body ≡ updated (apply t r)
updates_told t r (Read name selection) e = cc
updates_told t r (Compare name assertion) e = cc
updates_told t r (ListBelow name) e = cc
updates_told t r (Search base subset filter selection) e = cc
updates_told t r (AddEntry name attributes) e = refl
updates_told t r (RemoveEntry name) e = refl
updates_told t r (ModifyEntry name changes) e = refl
updates_told t r (ModifyDn name rdn drops) e = refl

abbrev first_refused : Told → Option Error → Told
first_refused told None = told
first_refused told (Some x) = Refuses x

refused_asked : (t : Tree) (r : Request) (x : Error) → fault_of r.body ≡ Some x → ask t r ≡ Refuses x
refused_asked t r x q = ap (λ (o : Option Error). first_refused (ask_body (λ key. false) t r r.body) o) q

passed_asked : (t : Tree) (r : Request) → fault_of r.body ≡ None → ask t r ≡ ask_body (λ key. false) t r r.body
passed_asked t r q = ap (λ (o : Option Error). first_refused (ask_body (λ key. false) t r r.body) o) q

abbrev or_same : Tree → Applied → Tree
or_same t (Ok u) = u
or_same t (Err x) = t

by_applied : (t : Tree) (r : Request) (a : Applied) → apply t r ≡ a → tree_left t r (updated a) ≡ or_same t a
by_applied t r (Ok u) q = ap (or_same t) q
by_applied t r (Err x) q = refl

-- an update leaves the tree that it makes, or the tree as it was
pub update_leaves : (t : Tree) (r : Request) → is_update r.body ≡ true → tree_left t r (ask t r) ≡ tree_with t r
update_leaves t r changes = by (fault_of r.body) refl
  where
    by : (o : Option Error) → fault_of r.body ≡ o → tree_left t r (ask t r) ≡ tree_with t r
    by (Some x) q =
        ap (tree_left t r) (refused_asked t r x q)
        ∙ sym (ap (or_same t) (tree_refuses t r x (over_fault (ground_of t) r.body x q)))
    by None q =
        ap (tree_left t r) (passed_asked t r q ∙ updates_told t r r.body changes) ∙ by_applied t r (apply t r) refl

-- a query leaves it, whatever is told
unchanged : (t : Tree) (body : Body) → is_update body ≡ false → update (ground_of t) body ≡ Ok t.entries
unchanged t (Read name selection) e = refl
unchanged t (Compare name assertion) e = refl
unchanged t (ListBelow name) e = refl
unchanged t (Search base subset filter selection) e = refl
unchanged t (AddEntry name attributes) e = cc
unchanged t (RemoveEntry name) e = cc
unchanged t (ModifyEntry name changes) e = cc
unchanged t (ModifyDn name rdn drops) e = cc

query_with : (t : Tree) (r : Request) → is_update r.body ≡ false → tree_with t r ≡ t
query_with t r queries = by (fault_of r.body) refl
  where
    by : (o : Option Error) → fault_of r.body ≡ o → tree_with t r ≡ t
    by (Some x) q = ap (or_same t) (tree_refuses t r x (over_fault (ground_of t) r.body x q))
    by None q = ap (or_same t) (tree_accepts t r t.entries (over_update (ground_of t) r.body q ∙ unchanged t r.body queries))

pub query_leaves : (t : Tree) (r : Request) (told : Told) → is_update r.body ≡ false → tree_left t r told ≡ t
query_leaves t r (Refuses x) q = refl
query_leaves t r (Shows info) q = refl
query_leaves t r (Compares equal copy) q = refl
query_leaves t r (Lists subs cut) q = refl
query_leaves t r (Finds infos cut) q = refl
query_leaves t r Changes q = query_with t r q

-- ---- results

pub ok_more : {T E : Type 0} {P Q : T → Type 0} (result : Result T E) → ((x : T) → P x → Q x) → IfOk result P → IfOk result Q
ok_more (Ok x) more p = more x p
ok_more (Err e) more p = p

pub on_ok : {T E : Type 0} {P : Type 0} (result : Result T E) → P → OnOk result P
on_ok (Ok x) p = p
on_ok (Err e) p = tt

pub on_ok_more : {T E : Type 0} {P Q : Type 0} (result : Result T E) → (P → Q) → OnOk result P → OnOk result Q
on_ok_more (Ok x) more p = more p
on_ok_more (Err e) more p = tt
