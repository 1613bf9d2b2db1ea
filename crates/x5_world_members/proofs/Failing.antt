-- Where a member has another name than it may have, that is the breach, whatever was read; else all is read.
use Rattle.std.proofs.Common.{◌≡◌, ℕ, false, List, [], ◌∷◌, ◌++◌, map, refl, ap, subst, sym, ◌∙◌, Option, Some, None}
use Rattle.std.proofs.Common.{Ok, Err, codes}
use Rattle.serde_json.specs.Data.{Data, Members}
use Rattle.x5_model.specs.Entries.{Named}
use Rattle.x5_model.specs.Values.{Text, Name, key_of}
use Rattle.x5_model_tree.specs.Tree.{key_at}
use Rattle.x5_model_world.specs.ContextText.{Contexts, Nssrs, has_key, entry_members, entry_behind, context_members}
use Rattle.x5_model_world.specs.ContextText.{with_context}
use Rattle.x5_model_world.specs.Reading as model
use Rattle.x5_model_world.specs.Reading.{Read, ◌>>=◌, members_at, entry_name_at, only, unlisted, first_other}
use Rattle.x5_world_members.specs.Parts.{named_at, nssrs_at, with_entries_read}
use Rattle.x5_world_members.specs.Views.{Fails}
use Rattle.x5_world_members.specs.declared.fault.LoadFault.{LoadFault}
use Rattle.x5_world_members.specs.declared.fault.LoadFault.TheVariants.{NotJson, BadShape, BadName, OverLimit}
use Rattle.x5_world_members.specs.declared.fault.LoadFault.TheVariants.{RepeatedAgent, UnknownAgent, NoMemory}
use Rattle.x5_world_members.proofs.ByParts.{entry_by_parts, context_by_parts}

-- a breach is the same, whatever was to be read
same_breach : (X Y : Type 0) (fault : LoadFault) (b : model.Breach) → Fails {X = X} fault (Err b)
    → Fails {X = Y} fault (Err b)
same_breach X Y NotJson b e = e
same_breach X Y (BadShape p) b e = let same : b ≡ model.BadShape p = cc in ap Err same
same_breach X Y (BadName p) b e = let same : b ≡ model.BadName p = cc in ap Err same
same_breach X Y (OverLimit p most) b e = let same : b ≡ model.OverLimit p most = cc in ap Err same
same_breach X Y (RepeatedAgent p) b e = let same : b ≡ model.RepeatedAgent p = cc in ap Err same
same_breach X Y (UnknownAgent p) b e = let same : b ≡ model.UnknownAgent p = cc in ap Err same
same_breach X Y NoMemory b e = e

-- only want of memory comes where there is no breach
no_breach : (X Y : Type 0) (fault : LoadFault) (x : X) (y : Y) → Fails {X = X} fault (Ok x) → Fails {X = Y} fault (Ok y)
no_breach X Y NotJson x y e = e
no_breach X Y (BadShape p) x y e = cc
no_breach X Y (BadName p) x y e = cc
no_breach X Y (OverLimit p most) x y e = cc
no_breach X Y (RepeatedAgent p) x y e = cc
no_breach X Y (UnknownAgent p) x y e = cc
no_breach X Y NoMemory x y e = e

pub only_fails : {X : Type 0} (fault : LoadFault) (path : Text) (names : List Text) (ms : Members) (x : X)
    → Fails fault (only path names ms (tt {0})) → Fails fault (only path names ms x)
only_fails {X} fault path names ms x = by (first_other names ms)
  where
    by : (o : Option Text) → Fails fault (unlisted path (tt {0}) o) → Fails fault (unlisted path x o)
    by None e = no_breach _ X fault (tt {0}) x e
    by (Some k) e = same_breach _ X fault _ e

-- a context whose object has another member
pub context_fails : (names : List Text) (path : Text) (before : Contexts) (prefix : Name) (entries : List Named)
    (used : ℕ) (ms : Members) (d : Data) (found : Nssrs) (fault : LoadFault)
    → nssrs_at names path before.counts.nssr_agents entries d ≡ Ok found
    → Fails fault (only path context_members ms (tt {0}))
    → Fails fault (with_entries_read names path before prefix entries used ms d)
context_fails names path before prefix entries used ms d found fault read fails =
    subst (Fails fault)
    (sym (context_by_parts names path before prefix entries used ms d
    ∙ ap (λ (r : Read Nssrs). r >>= λ n. only path context_members ms
    (with_context before prefix entries n used)) read))
    (only_fails fault path context_members ms (with_context before prefix entries found used) fails)

-- an entry of this own name, whose object has another member
pub entry_fails : (path : Text) (prefix : Name) (before : List Named) (d : Data) (ms : Members) (own : Name)
    (named : Named) (fault : LoadFault)
    → members_at path d ≡ Ok ms → entry_name_at path (codes "name") d ≡ Ok own
    → has_key (map key_at before) (key_of own) ≡ false
    → named_at path prefix before own d ≡ Ok named → Fails fault (only path entry_members ms (tt {0}))
    → Fails fault (entry_behind path prefix before d)
entry_fails path prefix before d ms own named fault members read new made fails =
    subst (Fails fault)
    (sym (entry_by_parts path prefix before d ms own members read new
    ∙ ap (λ (r : Read Named). r >>= λ n. only path entry_members ms (before ++ n ∷ [])) made))
    (only_fails fault path entry_members ms (before ++ named ∷ []) fails)

-- what fails in a first step fails the same, whatever would follow
step_fails : {X Y : Type 0} (fault : LoadFault) (read : Read X) (more : X → Read Y) → Fails fault read
    → Fails fault (read >>= more)
step_fails {X} {Y} fault (Err b) more e = same_breach X Y fault b e
step_fails NotJson (Ok x) more e = e
step_fails (BadShape p) (Ok x) more e = cc
step_fails (BadName p) (Ok x) more e = cc
step_fails (OverLimit p most) (Ok x) more e = cc
step_fails (RepeatedAgent p) (Ok x) more e = cc
step_fails (UnknownAgent p) (Ok x) more e = cc
step_fails NoMemory (Ok x) more e = e

-- an entry of this own name, which isn't read
pub named_fails : (path : Text) (prefix : Name) (before : List Named) (d : Data) (ms : Members) (own : Name)
    (fault : LoadFault)
    → members_at path d ≡ Ok ms → entry_name_at path (codes "name") d ≡ Ok own
    → has_key (map key_at before) (key_of own) ≡ false
    → Fails fault (named_at path prefix before own d)
    → Fails fault (entry_behind path prefix before d)
named_fails path prefix before d ms own fault members read new fails =
    subst (Fails fault) (sym (entry_by_parts path prefix before d ms own members read new))
    (step_fails fault (named_at path prefix before own d) (λ n. only path entry_members ms (before ++ n ∷ [])) fails)

only_read : (X : Type 0) (path : Text) (names : List Text) (ms : Members) (u : Unit {0}) (x : X)
    → only path names ms (tt {0}) ≡ Ok u → only path names ms x ≡ Ok x
only_read X path names ms u x = by (first_other names ms)
  where
    by : (o : Option Text) → unlisted path (tt {0}) o ≡ Ok u → unlisted path x o ≡ Ok x
    by None e = refl
    by (Some k) e = cc

-- an entry of this own name, whose object has no other member
pub entry_read : (path : Text) (prefix : Name) (before : List Named) (d : Data) (ms : Members) (own : Name)
    (named : Named) (u : Unit {0})
    → members_at path d ≡ Ok ms → entry_name_at path (codes "name") d ≡ Ok own
    → has_key (map key_at before) (key_of own) ≡ false
    → named_at path prefix before own d ≡ Ok named → only path entry_members ms (tt {0}) ≡ Ok u
    → entry_behind path prefix before d ≡ Ok (before ++ named ∷ [])
entry_read path prefix before d ms own named u members read new made fits =
    entry_by_parts path prefix before d ms own members read new
    ∙ ap (λ (r : Read Named). r >>= λ n. only path entry_members ms (before ++ n ∷ [])) made
    ∙ only_read (List Named) path entry_members ms u (before ++ named ∷ []) fits
