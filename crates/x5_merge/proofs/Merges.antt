-- Merges are associative among answers of one kind, so the merge of all parts is that of the merges of both halves.
use Rattle.std.proofs.Common.{◌≡◌, ℕ, Bool, true, false, ◌&&◌, ◌||◌, ◌⊎◌, inl, inr, List, [], ◌∷◌, ◌++◌, map, refl, sym, ap, subst, ◌∙◌, append_assoc}
use Rattle.std.specs.List.{list_all}
use Rattle.std.proofs.lemmas.List.MinMax.{ranks_by}
use Rattle.std.specs.Cmp.{IsStrictWeakOrder}
use Rattle.x5_model.specs.Values.{key_of}
use Rattle.x5_model.specs.Answers.{EntryInfo, Sub, Source, Outcome, Answer, EntryFound, Matched, Listed, Found, Changed}
use Rattle.x5_model.specs.References.{Reference}
use Rattle.x5_model.proofs.KeyLaws.{key_cmp_total}
use Rattle.x5_model.proofs.Lists.{both_true}
use Rattle.x5_model_serve.specs.Answering.{before_sub, before_info, joined, both_outcomes, merged}
use Rattle.x5_merge.specs.Merging.{merged_all, IsMerge}
use Rattle.x5_merge.proofs.Sorting.{joined_three}

pub sub_order : IsStrictWeakOrder before_sub
sub_order = ranks_by key_cmp_total (λ (s : Sub). key_of (s.rdn ∷ []))

pub info_order : IsStrictWeakOrder before_info
info_order = ranks_by key_cmp_total (λ (e : EntryInfo). key_of e.name)

or_three : (a b c : Bool) → ((a || b) || c) ≡ (a || (b || c))
or_three true b c = refl
or_three false b c = refl

outcomes_three : (a b c : Outcome) → both_outcomes (both_outcomes a b) c ≡ both_outcomes a (both_outcomes b c)
outcomes_three a b c =
    λ i. record { limited = or_three a.limited b.limited c.limited i; unexplored = append_assoc a.unexplored b.unexplored c.unexplored i }

-- ---- kinds

abbrev pub listed : Answer → Bool
listed (Listed subs sources o) = true
listed (EntryFound info source) = false
listed (Matched equal copy source) = false
listed (Found infos sources o) = false
listed Changed = false

abbrev pub found : Answer → Bool
found (Found infos sources o) = true
found (EntryFound info source) = false
found (Matched equal copy source) = false
found (Listed subs sources o) = false
found Changed = false

three_lists : (a b c : Answer) → listed a ≡ true → listed b ≡ true → listed c ≡ true → merged (merged a b) c ≡ merged a (merged b c)
three_lists (Listed xs s o) (Listed ys t p) (Listed zs u q) d e f =
    λ i. Listed (joined_three before_sub sub_order xs ys zs i) (append_assoc s t u i) (outcomes_three o p q i)
three_lists (Listed xs s o) (Listed ys t p) (EntryFound info source) d e f = cc
three_lists (Listed xs s o) (Listed ys t p) (Matched equal copy source) d e f = cc
three_lists (Listed xs s o) (Listed ys t p) (Found infos sources q) d e f = cc
three_lists (Listed xs s o) (Listed ys t p) Changed d e f = cc
three_lists (Listed xs s o) (EntryFound info source) c d e f = cc
three_lists (Listed xs s o) (Matched equal copy source) c d e f = cc
three_lists (Listed xs s o) (Found infos sources q) c d e f = cc
three_lists (Listed xs s o) Changed c d e f = cc
three_lists (EntryFound info source) b c d e f = cc
three_lists (Matched equal copy source) b c d e f = cc
three_lists (Found infos sources q) b c d e f = cc
three_lists Changed b c d e f = cc

three_finds : (a b c : Answer) → found a ≡ true → found b ≡ true → found c ≡ true → merged (merged a b) c ≡ merged a (merged b c)
three_finds (Found xs s o) (Found ys t p) (Found zs u q) d e f =
    λ i. Found (joined_three before_info info_order xs ys zs i) (append_assoc s t u i) (outcomes_three o p q i)
three_finds (Found xs s o) (Found ys t p) (EntryFound info source) d e f = cc
three_finds (Found xs s o) (Found ys t p) (Matched equal copy source) d e f = cc
three_finds (Found xs s o) (Found ys t p) (Listed subs sources q) d e f = cc
three_finds (Found xs s o) (Found ys t p) Changed d e f = cc
three_finds (Found xs s o) (EntryFound info source) c d e f = cc
three_finds (Found xs s o) (Matched equal copy source) c d e f = cc
three_finds (Found xs s o) (Listed subs sources q) c d e f = cc
three_finds (Found xs s o) Changed c d e f = cc
three_finds (EntryFound info source) b c d e f = cc
three_finds (Matched equal copy source) b c d e f = cc
three_finds (Listed subs sources q) b c d e f = cc
three_finds Changed b c d e f = cc

merged_listed : (a b : Answer) → listed a ≡ true → listed b ≡ true → listed (merged a b) ≡ true
merged_listed (Listed xs s o) (Listed ys t p) d e = refl
merged_listed (Listed xs s o) (EntryFound info source) d e = cc
merged_listed (Listed xs s o) (Matched equal copy source) d e = cc
merged_listed (Listed xs s o) (Found infos sources q) d e = cc
merged_listed (Listed xs s o) Changed d e = cc
merged_listed (EntryFound info source) b d e = cc
merged_listed (Matched equal copy source) b d e = cc
merged_listed (Found infos sources q) b d e = cc
merged_listed Changed b d e = cc

merged_found : (a b : Answer) → found a ≡ true → found b ≡ true → found (merged a b) ≡ true
merged_found (Found xs s o) (Found ys t p) d e = refl
merged_found (Found xs s o) (EntryFound info source) d e = cc
merged_found (Found xs s o) (Matched equal copy source) d e = cc
merged_found (Found xs s o) (Listed subs sources q) d e = cc
merged_found (Found xs s o) Changed d e = cc
merged_found (EntryFound info source) b d e = cc
merged_found (Matched equal copy source) b d e = cc
merged_found (Listed subs sources q) b d e = cc
merged_found Changed b d e = cc

-- ---- merges of all

-- for one kind of answers, among which merges are associative
module _ (kind : Answer → Bool) (three : (a b c : Answer) → kind a ≡ true → kind b ≡ true → kind c ≡ true → merged (merged a b) c ≡ merged a (merged b c))
    (keeps : (a b : Answer) → kind a ≡ true → kind b ≡ true → kind (merged a b) ≡ true) where
  all_parts : (xs ys : List Answer) (a : Answer) → merged_all a (xs ++ ys) ≡ merged_all (merged_all a xs) ys
  all_parts [] ys a = refl
  all_parts (x ∷ xs) ys a = all_parts xs ys (merged a x)

  later_parts : (a b : Answer) (ys : List Answer) → kind a ≡ true → kind b ≡ true → list_all kind ys ≡ true → merged_all (merged a b) ys ≡ merged a (merged_all b ys)
  later_parts a b [] d e f = refl
  later_parts a b (y ∷ ys) d e f =
      let w = both_true (kind y) (list_all kind ys) f in
      ap (λ (c : Answer). merged_all c ys) (three a b y d e w.0) ∙ later_parts a (merged b y) ys d (keeps b y e w.0) w.1

  all_kept : (a : Answer) (xs : List Answer) → kind a ≡ true → list_all kind xs ≡ true → kind (merged_all a xs) ≡ true
  all_kept a [] d f = d
  all_kept a (x ∷ xs) d f = let w = both_true (kind x) (list_all kind xs) f in all_kept (merged a x) xs (keeps a x d w.0) w.1

  merge_halves : (xs ys : List Answer) (a b : Answer) → list_all kind xs ≡ true → list_all kind ys ≡ true → IsMerge xs a → IsMerge ys b → IsMerge (xs ++ ys) (merged a b)
  merge_halves [] ys a b f g m n = absurd m
  merge_halves (x ∷ xs) [] a b f g m n = absurd n
  merge_halves (x ∷ xs) (y ∷ ys) a b f g m n =
      let v = both_true (kind x) (list_all kind xs) f in
      let w = both_true (kind y) (list_all kind ys) g in
      (λ i. merged (m i) (n i)) ∙ sym (later_parts (merged_all x xs) y ys (all_kept x xs v.0 v.1) w.0 w.1) ∙ sym (all_parts xs (y ∷ ys) x)

pub list_halves : (xs ys : List Answer) (a b : Answer) → list_all listed xs ≡ true → list_all listed ys ≡ true → IsMerge xs a → IsMerge ys b → IsMerge (xs ++ ys) (merged a b)
list_halves = merge_halves listed three_lists merged_listed

pub find_halves : (xs ys : List Answer) (a b : Answer) → list_all found xs ≡ true → list_all found ys ≡ true → IsMerge xs a → IsMerge ys b → IsMerge (xs ++ ys) (merged a b)
find_halves = merge_halves found three_finds merged_found
