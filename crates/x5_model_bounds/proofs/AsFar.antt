-- What an agent holds goes as far after an update as before, since an update changes entries alone; and who is stuck,
-- asked by a nonSpecific reference, holds nothing that goes as far.
use Rattle.std.proofs.Common.{◌≡◌, ℕ, nat_le, Bool, true, false, not, ◌&&◌, ◌==◌, if◌then◌else◌, List, [], ◌∷◌, ◌++◌}
use Rattle.std.proofs.Common.{map, length, refl, sym, ap, ◌∙◌, Ok, Err}
use Rattle.std.specs.List.{list_any}
use Rattle.x5_model.specs.Words.{has}
use Rattle.x5_model.specs.Keys.{Key, is_prefix}
use Rattle.x5_model.specs.Values.{Name, key_of}
use Rattle.x5_model.specs.Requests.{Request}
use Rattle.x5_model.specs.References.{Progress, Start, Next, Done}
use Rattle.x5_model_tree.specs.Apply.{UpdatedEntries, apply_over}
use Rattle.x5_model_run.specs.Journal.{Journal, is_wide}
use Rattle.x5_model_run.specs.Holdings.{Held, Copy, Holdings, prefixes, holds_within, ground_at}
use Rattle.x5_model_run.specs.Needs.{falls_short}
use Rattle.x5_model_run.specs.Chain.{Scene}
use Rattle.x5_model_serve.specs.Committed.{holds_target, with_outcome, alone_at, changed_at, committed_if, committed}
use Rattle.x5_model_serve.specs.Finding.{Below, Stuck}
use Rattle.x5_model_serve.specs.Serving.{Hand, holds_now, found_at}
use Rattle.x5_model_find.proofs.Goes.{resolved_moves}
use Rattle.x5_model_bounds.specs.Unable.{IsShort}

-- ---- what an agent holds goes as far after an update as before

kept_prefix : (r : Request) (h : Holdings) (c : Held) → (changed_at r h c).prefix ≡ c.prefix
kept_prefix r h c = by (holds_target r h c) (apply_over (alone_at r h c) r.body)
  where
    by : (b : Bool) (o : UpdatedEntries) → (if b then with_outcome r h c o else c).prefix ≡ c.prefix
    by true (Ok es) = refl
    by true (Err x) = refl
    by false o = refl

map_kept : (f : Held → Held) → ((c : Held) → (f c).prefix ≡ c.prefix) → (cs : List Held)
    → map (λ (c : Held). c.prefix) (map f cs) ≡ map (λ (c : Held). c.prefix) cs
map_kept f e [] = refl
map_kept f e (c ∷ cs) = λ i. e c i ∷ map_kept f e cs i

committed_prefixes : (r : Request) (h : Holdings) → prefixes (committed r h) ≡ prefixes h
committed_prefixes r h = by (apply_over (ground_at r h) r.body)
  where
    by : (o : UpdatedEntries) → prefixes (committed_if r h o) ≡ prefixes h
    by (Ok es) =
        ap (λ (xs : List Name). xs ++ map (λ (c : Copy). c.held.prefix) h.copies)
        (map_kept (changed_at r h) (kept_prefix r h) h.own)
    by (Err x) = refl

pub holds_as_far : (s : Scene) (k : Hand) (j : Journal) (n : Key) (a : ℕ)
    → holds_within (holds_now s j k) n a ≡ holds_within (s.holdings k.receiver) n a
holds_as_far s k j n a = by (has ◌==◌ j.accepted k.receiver)
  where
    by : (b : Bool)
        → holds_within (if b then committed s.message.request (s.holdings k.receiver) else s.holdings k.receiver) n a
        ≡ holds_within (s.holdings k.receiver) n a
    by true =
        ap (list_any (λ x. is_prefix (key_of x) n && nat_le a (length x)))
        (committed_prefixes s.message.request (s.holdings k.receiver))
    by false = refl

-- ---- who is stuck

pub stuck_short : (s : Scene) (k : Hand) (j : Journal) → found_at s j k ≡ Stuck → is_wide k.message.kind ≡ true
    → IsShort s k.receiver k.message.target k.message.progress
stuck_short s k j e w = by k.message.progress refl
  where
    next : (n : ℕ) → k.message.progress ≡ Next n → (b : Bool)
        → holds_within (holds_now s j k) (key_of k.message.target) n ≡ b
        → falls_short (s.holdings k.receiver) (key_of k.message.target) (Next n) ≡ true
    next n q true f = absurd (resolved_moves (holds_now s j k) k.message (rw (q, f) at e))
    next n q false f = ap not (sym (holds_as_far s k j (key_of k.message.target) n) ∙ f)

    by : (y : Progress) → k.message.progress ≡ y
        → falls_short (s.holdings k.receiver) (key_of k.message.target) k.message.progress ≡ true
    by Start q = absurd (resolved_moves (holds_now s j k) k.message (rw q at e))
    by (Next n) q =
        ap (falls_short (s.holdings k.receiver) (key_of k.message.target)) q
        ∙ next n q (holds_within (holds_now s j k) (key_of k.message.target) n) refl
    by Done q = (let f : Below ≡ Stuck = rw (q, w) at e in cc)
