-- What a sound tree gives: each entry belongs to a context, so what is answered from an entry has a source.
use Rattle.std.proofs.Common.{◌≡◌, ℕ, ◌<◌, true, false, List, length, map, sym, ap, subst, ◌∙◌, Option, Some, None}
use Rattle.std.proofs.Common.{Result, Ok, Err, IfOk}
use Rattle.x5_model.specs.Words.{in_option}
use Rattle.x5_model.specs.Members.{In, Once}
use Rattle.x5_model.specs.Keys.{Key, same_key}
use Rattle.x5_model.specs.Values.{Name, key_of}
use Rattle.x5_model.specs.Entries.{Named}
use Rattle.x5_model.specs.Requests.{Request}
use Rattle.x5_model.specs.Answers.{DirError, Source, Failed}
use Rattle.x5_model.specs.Statics.{fault_of}
use Rattle.x5_model.proofs.KeyLaws.{key_decides}
use Rattle.x5_model.proofs.Lists.{of_map, not_found}
use Rattle.x5_model_tree.specs.Tree.{Tree, key_at, entry_at, longest}
use Rattle.x5_model_tree.specs.Ask.{Told, Refuses, absent, at_object, ask, ask_body}
use Rattle.x5_model_tree.proofs.Longest.{longest_is}
use Rattle.x5_model_updates.proofs.Trees.{area_of_pin, of_part}
use Rattle.x5_model_updates.proofs.Lookups.{entry_found}
use Rattle.x5_one.specs.One.{Held, pin_in, context_with, context_at}
use Rattle.x5_one.specs.Parts.{IsSound, tree_of}
use Rattle.x5_one.specs.Replies.{no_source, source_of, source_at, reply_of}

pub pins_filled : (t : Tree) → IsSound t → (q : Key) → In q t.pins → 0 < length q
pins_filled t s q i =
    let c = area_of_pin s.knowledge t s.coherent s.tree q i in
    subst (λ (k : Key). 0 < length k) (sym c.2) (s.coherent.filled c.0 c.1)

pub pins_once : (t : Tree) → IsSound t → Once t.pins
pins_once t s = s.once

abbrev in_context : List Held → Option Key → Option Held
in_context held o = in_option None (context_with held) o

module _ (entries : List Named) (contexts : List Held) (s : IsSound (tree_of entries contexts)) where
  -- an entry has a context
  pub context_there : (key : Key) (e : Named) → Some e ≡ entry_at entries key → None ≡ context_at contexts key → ⊥
  context_there key e f n =
      let at = entry_found entries key e (sym f) in
      let c = s.tree.parted e at.0 in
      let own = of_part s.knowledge (tree_of entries contexts) s.coherent s.tree c.0.prefix e c.2 in
      let long : longest (map pin_in contexts) (key_at e)
      ≡ Some c.0.prefix = longest_is (map pin_in contexts) (key_at e) c.0.prefix own.1 in
      let h = of_map pin_in c.0.prefix contexts own.1.0 in
      let none : context_with contexts c.0.prefix ≡ None =
      sym (n ∙ ap (context_at contexts) (sym at.1) ∙ ap (in_context contexts) long) in
      let apart : same_key (pin_in h.0) c.0.prefix
      ≡ false = not_found (λ (g : Held). same_key (pin_in g) c.0.prefix) h.0 contexts none h.1 in
      let same : same_key (pin_in h.0) c.0.prefix ≡ true = (key_decides (pin_in h.0) c.0.prefix).1 (sym h.2) in
      cc

-- ---- what is told at an entry

abbrev picked : Told → (Named → Told) → Option Named → Told
picked x f None = x
picked x f (Some e) = f e

pub told_there : (t : Tree) (name : Name) (f : Named → Told) (e : Named)
    → Some e ≡ entry_at t.entries (key_of name) → f e ≡ at_object t name f
told_there t name f e q = ap (λ (o : Option Named). picked (absent t name) f o) q

pub source_there : (names : List (List ℕ)) (contexts : List Held) (key : Key) (h : Held)
    → Some h ≡ context_at contexts key → source_of names h ≡ source_at names contexts key
source_there names contexts key h q = ap (λ (o : Option Held). in_option no_source (source_of names) o) q

-- ---- static refusals

abbrev first_refused : Told → Option DirError → Told
first_refused told (Some x) = Refuses x
first_refused told None = told

pub told_refused : (source : Source) (t : Tree) (r : Request) (x : DirError) → Some x ≡ fault_of r.body
    → Failed x ≡ reply_of source (ask t r)
told_refused source t r x q = ap (λ (o : Option DirError). reply_of source (first_refused (ask_body
    (λ key. false) t r r.body) o)) q

pub told_after : (source : Source) (t : Tree) (r : Request) → None ≡ fault_of r.body
    → reply_of source (ask_body (λ key. false) t r r.body) ≡ reply_of source (ask t r)
told_after source t r q = ap (λ (o : Option DirError). reply_of source (first_refused (ask_body
    (λ key. false) t r r.body) o)) q

pub ok_by : {X E : Type 0} (P Q : X → Type 0) → ((x : X) → P x → Q x) → (r : Result X E) → IfOk r P → IfOk r Q
ok_by P Q f (Ok x) p = f x p
ok_by P Q f (Err e) p = p
