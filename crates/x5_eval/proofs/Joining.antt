-- The agent's part of a list or search is the merge of what the contexts show to which the walk comes, in their order: the
-- definition puts all that they show in order and drops the later of two with one key; the merge does both as parts come.
use Rattle.std.proofs.Common.{◌≡◌, ℕ, true, List, [], ◌∷◌, ◌++◌, map, refl, sym, ap, ◌∙◌, append_assoc, Option}
use Rattle.std.specs.List.{flat_map}
use Rattle.x5_model.specs.Words.{sorted}
use Rattle.x5_model.specs.Members.{In, here, there}
use Rattle.x5_model.specs.Values.{Name}
use Rattle.x5_model.specs.Filters.{Filter}
use Rattle.x5_model.specs.Answers.{EntryInfo, Sub, Source, Answer, Listed, Found, Answered}
use Rattle.x5_model.specs.Requests.{Subset, Selection, Body, Read, Compare, ListBelow, Search, AddEntry, RemoveEntry, ModifyEntry, ModifyDn}
use Rattle.x5_model.specs.References.{Chained}
use Rattle.x5_model_run.specs.Holdings.{Held, Holdings}
use Rattle.x5_model_run.specs.Placed.{is_query_below}
use Rattle.x5_model_serve.specs.Walking.{entered}
use Rattle.x5_model_serve.specs.Answering.{before_sub, before_info, first_each, is_in_order, told_in, local_sources, local_part, reply_from, stamp_at}
use Rattle.x5_merge.specs.Merging.{merged_all}
use Rattle.x5_merge.proofs.Merges.{sub_order, info_order}
use Rattle.x5_eval.specs.Shown.{subs_shown, infos_shown, source_of, whole, shown_by, nothing_by}
use Rattle.x5_eval.proofs.Gathering.{gathered_more}

-- the same of two lists, one behind the other
three : {A : Type 0} (xs ys zs : List A) → (xs ++ ys) ++ zs ≡ xs ++ (ys ++ zs)
three xs ys zs = append_assoc xs ys zs

nothing_more : {A : Type 0} (ys : List A) → ys ≡ ys ++ []
nothing_more [] = refl
nothing_more {A} (y ∷ ys) = ap (λ (l : List A). y ∷ l) (nothing_more ys)

module _ (m : Chained) (me : ℕ) (stamp : Held → Option ℕ) where
  abbrev sources : List Held → List Source
  sources cs = map (λ c. source_of me (stamp c) c) cs

  abbrev AreInOrder : Body → List Held → Type 0
  AreInOrder body cs = (c : Held) → In c cs → is_in_order (shown_by body m me (stamp c) c) ≡ true

  lists_more : (cs : List Held) (name : Name) (xs : List Sub) (ss : List Source) → AreInOrder (ListBelow name) cs
      → merged_all (Listed (sorted before_sub (first_each before_sub xs)) ss whole) (map (λ c. shown_by (ListBelow name) m me (stamp c) c) cs)
      ≡ Listed (sorted before_sub (first_each before_sub (xs ++ flat_map (λ c. subs_shown m (stamp c) c) cs))) (ss ++ sources cs) whole
  lists_more [] name xs ss f =
      λ i. Listed (sorted before_sub (first_each before_sub (nothing_more xs i))) (nothing_more ss i) whole
  lists_more (c ∷ cs) name xs ss f =
      ap (λ (l : List Sub). merged_all (Listed l (ss ++ source_of me (stamp c) c ∷ []) whole) (map (λ c. shown_by (ListBelow name) m me (stamp c) c) cs))
      (gathered_more before_sub sub_order xs (subs_shown m (stamp c) c) (f c here))
      ∙ lists_more cs name (xs ++ subs_shown m (stamp c) c) (ss ++ source_of me (stamp c) c ∷ []) (λ d i. f d (there i))
      ∙ (λ i. Listed (sorted before_sub (first_each before_sub (three xs (subs_shown m (stamp c) c) (flat_map (λ c. subs_shown m (stamp c) c) cs) i)))
      (three ss (source_of me (stamp c) c ∷ []) (sources cs) i) whole)

  finds_more : (cs : List Held) (base : Name) (subset : Subset) (f : Filter) (sel : Selection) (xs : List EntryInfo) (ss : List Source)
      → AreInOrder (Search base subset f sel) cs
      → merged_all (Found (sorted before_info (first_each before_info xs)) ss whole) (map (λ c. shown_by (Search base subset f sel) m me (stamp c) c) cs)
      ≡ Found (sorted before_info (first_each before_info (xs ++ flat_map (λ c. infos_shown m f sel (stamp c) c) cs))) (ss ++ sources cs) whole
  finds_more [] base subset f sel xs ss g =
      λ i. Found (sorted before_info (first_each before_info (nothing_more xs i))) (nothing_more ss i) whole
  finds_more (c ∷ cs) base subset f sel xs ss g =
      ap (λ (l : List EntryInfo). merged_all (Found l (ss ++ source_of me (stamp c) c ∷ []) whole)
      (map (λ c. shown_by (Search base subset f sel) m me (stamp c) c) cs))
      (gathered_more before_info info_order xs (infos_shown m f sel (stamp c) c) (g c here))
      ∙ finds_more cs base subset f sel (xs ++ infos_shown m f sel (stamp c) c) (ss ++ source_of me (stamp c) c ∷ []) (λ d i. g d (there i))
      ∙ (λ i. Found (sorted before_info (first_each before_info (three xs (infos_shown m f sel (stamp c) c)
      (flat_map (λ c. infos_shown m f sel (stamp c) c) cs) i))) (three ss (source_of me (stamp c) c ∷ []) (sources cs) i) whole)

module _ (h : Holdings) (m : Chained) where
  abbrev shown_of : Body → Held → Answer
  shown_of body c = shown_by body m h.me (stamp_at h c) c

  abbrev AreOrdered : Body → Type 0
  AreOrdered body = (c : Held) → In c (entered h m) → is_in_order (shown_of body c) ≡ true

  abbrev IsJoined : Body → Type 0
  IsJoined body = reply_from (local_sources h m) (told_in h m body)
      ≡ Answered (merged_all (nothing_by body) (map (shown_of body) (entered h m)))

  by_body : (body : Body) → is_query_below body ≡ true → AreOrdered body → IsJoined body
  by_body (ListBelow name) q f = ap Answered (sym (lists_more m h.me (stamp_at h) (entered h m) name [] [] f))
  by_body (Search base subset g sel) q f = ap Answered (sym (finds_more m h.me (stamp_at h) (entered h m) base subset g sel [] [] f))
  by_body (Read name sel) q f = cc
  by_body (Compare name a) q f = cc
  by_body (AddEntry name attributes) q f = cc
  by_body (RemoveEntry name) q f = cc
  by_body (ModifyEntry name changes) q f = cc
  by_body (ModifyDn name rdn drops) q f = cc

  pub local_joined : is_query_below m.request.body ≡ true → AreOrdered m.request.body → (a : Answer)
      → a ≡ merged_all (nothing_by m.request.body) (map (shown_of m.request.body) (entered h m)) → local_part h m ≡ Answered a
  local_joined q f a e = by_body m.request.body q f ∙ ap Answered (sym e)
