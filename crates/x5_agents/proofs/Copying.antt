-- One copy more is had where an agreement brings it and no earlier one did; no two are of one context.
use Rattle.std.proofs.Common.{◌≡◌, ℕ, ◌+◌, ◌<◌, ◌==◌, ◌&&◌, ◌||◌, not, Bool, true, false, cond, if◌then◌else◌, List, [], ◌∷◌, ◌++◌, map, length, drop, get_or, refl, sym, ap, ◌∙◌, None}
use Rattle.std.proofs.lemmas.List.{append_assoc, map-append}
use Rattle.std.specs.List.{filter, list_any}
use Rattle.x5_model.specs.Members.{In}
use Rattle.x5_model.specs.Words.{has, distinct}
use Rattle.x5_model.specs.Keys.{Key, same_key}
use Rattle.x5_model.specs.Values.{key_of}
use Rattle.x5_model.proofs.KeyLaws.{key_decides}
use Rattle.x5_model.proofs.Lists.{has_in}
use Rattle.x5_model.proofs.Decide.{once_decides}
use Rattle.x5_model_tree.specs.World.{Agreement}
use Rattle.x5_model_run.specs.Holdings.{Copy}
use Rattle.x5_model_run.specs.History.{first_agreements}
use Rattle.x5_model_held.specs.Beginning.{described_copy}
use Rattle.x5_dse.proofs.Members.{once_push}
use Rattle.x5_ops.proofs.Dropping.{drop_at}
use Rattle.x5_holdings.specs.State.{CopyKept, are_once, copy_view}
use Rattle.x5_agents.proofs.Firsts.{first_like}

abbrev keys_of : List CopyKept → List Key
keys_of copies = map (λ (c : CopyKept). key_of c.prefix) copies

has_push : (ks : List Key) (k q : Key) → has same_key (k ∷ ks) q ≡ has same_key (ks ++ k ∷ []) q
has_push [] k q = refl
has_push (x ∷ ks) k q =
    swap (same_key k q) (same_key x q) (has same_key ks q) ∙ ap (λ (b : Bool). same_key x q || b) (has_push ks k q)
  where
    swap : (a b c : Bool) → (a || (b || c)) ≡ (b || (a || c))
    swap true true c = refl
    swap true false c = refl
    swap false true c = refl
    swap false false c = refl

pub has_map : (copies : List CopyKept) (k : Key) → list_any (λ (c : CopyKept). same_key (key_of c.prefix) k) copies ≡ has same_key (keys_of copies) k
has_map [] k = refl
has_map (c ∷ copies) k = ap (λ (b : Bool). same_key (key_of c.prefix) k || b) (has_map copies k)

abbrev unsent : Agreement → CopyKept
unsent g = record { prefix = g.context; supplier = g.supplier; refreshed = None }

module _ (me : ℕ) (gs : List Agreement) where
  abbrev mine : List Agreement → List Agreement
  mine l = filter (λ (g : Agreement). g.consumer == me) l

  abbrev left : List Key → ℕ → List Copy
  left before i = map described_copy (first_agreements before (mine (drop i gs)))

  abbrev pub AreCopied : List CopyKept → ℕ → Type 0
  AreCopied copies i =
      (map copy_view copies ++ left (keys_of copies) i ≡ map described_copy (first_agreements [] (mine gs)))
      × (are_once copies ≡ true)

  module _ (copies : List CopyKept) (i : ℕ) (g : Agreement) (lt : i < length gs) (is : g ≡ get_or gs i g)
      (so_far : AreCopied copies i) where
    at : mine (drop i gs) ≡ mine (g ∷ drop (i + 1) gs)
    at = ap (λ (l : List Agreement). mine l) (drop_at gs i g lt is)

    abbrev rest : List Agreement
    rest = mine (drop (i + 1) gs)

    -- what is left, by what the agreement is
    first_new : (g.consumer == me) ≡ true → has same_key (keys_of copies) (key_of g.context) ≡ false
        → first_agreements (keys_of copies) (mine (drop i gs)) ≡ g ∷ first_agreements (key_of g.context ∷ keys_of copies) rest
    first_new e f =
        ap (λ (l : List Agreement). first_agreements (keys_of copies) l)
        (at ∙ ap (λ (b : Bool). cond b (g ∷ rest) rest) e)
        ∙ ap (λ (b : Bool). if b then first_agreements (keys_of copies) rest else (g ∷ first_agreements (key_of g.context ∷ keys_of copies) rest)) f

    first_old : (b : Bool) → (g.consumer == me) ≡ b → (b && not (has same_key (keys_of copies) (key_of g.context))) ≡ false
        → first_agreements (keys_of copies) (mine (drop i gs)) ≡ first_agreements (keys_of copies) rest
    first_old false e f =
        ap (λ (l : List Agreement). first_agreements (keys_of copies) l) (at ∙ ap (λ (b : Bool). cond b (g ∷ rest) rest) e)
    first_old true e f =
        ap (λ (l : List Agreement). first_agreements (keys_of copies) l) (at ∙ ap (λ (b : Bool). cond b (g ∷ rest) rest) e)
        ∙ ap (λ (b : Bool). if b then first_agreements (keys_of copies) rest else (g ∷ first_agreements (key_of g.context ∷ keys_of copies) rest))
        (was (has same_key (keys_of copies) (key_of g.context)) f)
      where
        was : (b : Bool) → not b ≡ false → b ≡ true
        was true h = refl
        was false h = cc

    pub one_copied : (now : List CopyKept) → ((g.consumer == me) && not (has same_key (keys_of copies) (key_of g.context))) ≡ true
        → now ≡ copies ++ unsent g ∷ [] → AreCopied now (i + 1)
    one_copied now e n = (
      ap (λ (l : List CopyKept). map copy_view l ++ left (keys_of l) (i + 1)) n
          ∙ (λ j. map-append copy_view copies (unsent g ∷ []) j ++ left (map-append (λ (c : CopyKept). key_of c.prefix) copies (unsent g ∷ []) j) (i + 1))
          ∙ ap (λ (l : List Agreement). (map copy_view copies ++ described_copy g ∷ []) ++ map described_copy l)
          (sym (first_like (key_of g.context ∷ keys_of copies) (keys_of copies ++ key_of g.context ∷ []) rest (has_push (keys_of copies) (key_of g.context))))
          ∙ append_assoc (map copy_view copies) (described_copy g ∷ []) (map described_copy (first_agreements (key_of g.context ∷ keys_of copies) rest))
          ∙ ap (λ (l : List Agreement). map copy_view copies ++ map described_copy l) (sym (first_new ours.0 ours.1))
          ∙ so_far.0,
      ap (λ (l : List Key). distinct same_key l)
          (ap (λ (l : List CopyKept). keys_of l) n ∙ map-append (λ (c : CopyKept). key_of c.prefix) copies (unsent g ∷ []))
          ∙ (once_decides same_key key_decides (keys_of copies ++ key_of g.context ∷ [])).1
          (once_push (key_of g.context) (keys_of copies) ((once_decides same_key key_decides (keys_of copies)).0 so_far.1) absent),
    )
      where
        ours : ((g.consumer == me) ≡ true) × (has same_key (keys_of copies) (key_of g.context) ≡ false)
        ours = by (g.consumer == me) (has same_key (keys_of copies) (key_of g.context)) e
          where
            by : (a b : Bool) → (a && not b) ≡ true → (a ≡ true) × (b ≡ false)
            by true true h = cc
            by true false h = (refl, refl)
            by false b h = cc

        absent : In (key_of g.context) (keys_of copies) → ⊥
        absent j = (let some = has_in same_key key_decides (key_of g.context) (keys_of copies) j in let none = ours.1 in cc)

    pub none_copied : (now : List CopyKept) → ((g.consumer == me) && not (has same_key (keys_of copies) (key_of g.context))) ≡ false
        → now ≡ copies → AreCopied now (i + 1)
    none_copied now e n = (
      ap (λ (l : List CopyKept). map copy_view l ++ left (keys_of l) (i + 1)) n
          ∙ ap (λ (l : List Agreement). map copy_view copies ++ map described_copy l) (sym (first_old (g.consumer == me) refl e))
          ∙ so_far.0,
      ap (λ (l : List CopyKept). are_once l) n ∙ so_far.1,
    )
