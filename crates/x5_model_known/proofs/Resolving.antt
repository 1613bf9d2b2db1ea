-- An update keeps the prefix of each context that is held, so names are resolved as far as before. An update's message
-- that fits has no completed name; so its name is resolved, or is to go further than what is held, and then nothing is
-- found.
use Rattle.std.proofs.Common.{◌≡◌, Bool, true, false, not, ◌&&◌, ◌⊎◌, nat_le, if◌then◌else◌, inl, inr, List, [], ◌∷◌, ◌++◌, map, length, refl, sym, ap, ◌∙◌, Ok, Err}
use Rattle.std.specs.List.{list_any}
use Rattle.x5_model.specs.Keys.{is_prefix}
use Rattle.x5_model.specs.Values.{Name, key_of}
use Rattle.x5_model.specs.Requests.{Body, Read, Compare, ListBelow, Search, AddEntry, RemoveEntry, ModifyEntry, ModifyDn, Request}
use Rattle.x5_model.specs.References.{Progress, Start, Next, Done}
use Rattle.x5_model.proofs.Lists.{both_true, either_true}
use Rattle.x5_model_tree.specs.Ask.{is_update}
use Rattle.x5_model_tree.specs.Apply.{UpdatedEntries, apply_over}
use Rattle.x5_model_run.specs.Journal.{same_name, is_done}
use Rattle.x5_model_run.specs.Holdings.{Held, Copy, Holdings, ground_at, prefixes}
use Rattle.x5_model_run.specs.Needs.{target_of, resolves_by}
use Rattle.x5_model_run.specs.Placed.{is_query_below}
use Rattle.x5_model_serve.specs.Committed.{holds_target, alone_at, with_outcome, changed_at, committed_if, committed}
use Rattle.x5_model_serve.specs.Finding.{Stuck, resolved, found_by}
use Rattle.x5_model_known.specs.Resolving.{ResolvesAlike, UnresolvedIsStuck}

-- ---- after an update

kept_prefix : (r : Request) (h : Holdings) (c : Held) → (changed_at r h c).prefix ≡ c.prefix
kept_prefix r h c = by (holds_target r h c) (apply_over (alone_at r h c) r.body)
  where
    by : (b : Bool) (o : UpdatedEntries) → (if b then with_outcome r h c o else c).prefix ≡ c.prefix
    by true (Ok es) = refl
    by true (Err x) = refl
    by false o = refl

kept_prefixes : (r : Request) (h : Holdings) (cs : List Held)
    → map (λ (c : Held). c.prefix) (map (changed_at r h) cs) ≡ map (λ (c : Held). c.prefix) cs
kept_prefixes r h [] = refl
kept_prefixes r h (c ∷ cs) = λ i. kept_prefix r h c i ∷ kept_prefixes r h cs i

same_prefixes : (r : Request) (h : Holdings) → prefixes (committed r h) ≡ prefixes h
same_prefixes r h = by (apply_over (ground_at r h) r.body)
  where
    by : (o : UpdatedEntries) → prefixes (committed_if r h o) ≡ prefixes h
    by (Ok es) = ap (λ (xs : List Name). xs ++ map (λ (c : Copy). c.held.prefix) h.copies) (kept_prefixes r h h.own)
    by (Err x) = refl

pub resolves_alike : ResolvesAlike
resolves_alike r h m = by m.progress
  where
    by : (x : Progress) → resolves_by (committed r h) (key_of m.target) x ≡ resolves_by h (key_of m.target) x
    by Start = refl
    by (Next n) = ap (list_any (λ p. is_prefix (key_of p) (key_of m.target) && nat_le n (length p))) (same_prefixes r h)
    by Done = refl

-- ---- what isn't resolved

not_below : (b : Body) → is_update b ≡ true → is_query_below b ≡ false
not_below (Read name selection) e = cc
not_below (Compare name assertion) e = cc
not_below (ListBelow name) e = cc
not_below (Search base subset f selection) e = cc
not_below (AddEntry name attributes) e = refl
not_below (RemoveEntry name) e = refl
not_below (ModifyEntry name changes) e = refl
not_below (ModifyDn name rdn drops) e = refl

pub unresolved_is_stuck : UnresolvedIsStuck
unresolved_is_stuck h m up fit unresolved =
    by m.progress unresolved
    (either_true (not (is_done m.progress)) _ (both_true (same_name (target_of m.request.body) m.target) _ fit).1)
  where
    by : (x : Progress) → resolves_by h (key_of m.target) x ≡ false
        → (not (is_done x) ≡ true) ⊎ (is_query_below m.request.body ≡ true) → found_by h m x ≡ Stuck
    by Start e f = cc
    by (Next n) e f = ap (λ (b : Bool). if b then resolved h m else Stuck) e
    by Done e (inl f) = cc
    by Done e (inr f) = absurd (let no = not_below m.request.body up in let z : true ≡ false = sym f ∙ no in cc)
