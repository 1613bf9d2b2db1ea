-- Where somebody follows what a right reply left unexplored, the tried references stay and the others are still to be
-- asked: a split of the list changes nothing of what it covers.
use Rattle.std.proofs.Common.{◌≡◌, Bool, true, false, cond, not, ◌⊎◌, inl, inr, List, [], ◌∷◌, ◌++◌, map, refl, sym, ap, subst, ◌∙◌}
use Rattle.std.specs.List.{list_any, list_all, filter, AllByRecursion}
use Rattle.x5_model.specs.Members.{In}
use Rattle.x5_model.specs.Keys.{Key}
use Rattle.x5_model.specs.Values.{key_of}
use Rattle.x5_model.specs.Requests.{Body, ListBelow, Search}
use Rattle.x5_model.specs.References.{Reference}
use Rattle.x5_model.specs.Answers.{Answer, EntryFound, Matched, Listed, Found, Changed, Answered}
use Rattle.x5_model.proofs.Lists.{both_true, and_true, not_true, true_or_false, in_first, in_left, in_right, in_either, any_in, of_any, of_all, all_in, in_filter, of_filter}
use Rattle.x5_model_tree.specs.World.{World}
use Rattle.x5_model_tree.specs.Ask.{sources_of, is_update}
use Rattle.x5_model_run.specs.Journal.{Line, Journal, is_done}
use Rattle.x5_model_run.specs.Holdings.{may_copy}
use Rattle.x5_model_run.specs.History.{Point, knowledge_at, tree_at}
use Rattle.x5_model_run.specs.Chain.{Scene}
use Rattle.x5_model_run.specs.Covers.{meet, are_apart, touched}
use Rattle.x5_model_run.specs.Blocked.{Asked, IsLost, Blocked, untried, lost}
use Rattle.x5_model_run.specs.Right.{same_keys, uncovered, IsResult}
use Rattle.x5_model_run.specs.Placed.{is_query_below}
use Rattle.x5_model_parts.specs.Standing.{Stands, CopiesStand}
use Rattle.x5_model_parts.proofs.Asking.{false_true}
use Rattle.x5_model_serve.specs.Answering.{only_unexplored, to_follow, passed_by}
use Rattle.x5_model_serve.specs.Claims.{SoFar, LiesWithin}
use Rattle.x5_model_joins.specs.Joins.{AreParts, FollowTells}
use Rattle.x5_model_joins.proofs.Contexts.{of_uncovered, in_uncovered, of_same_left, of_same_right, are_same, meet_back, apart_joined}
use Rattle.x5_model_joins.proofs.Entries.{told_in_order, told_short}
use Rattle.x5_model_run.specs.Needs.{passing_needs}
use Rattle.x5_model_joins.proofs.Untried.{of_contains, untried_passing}
use Rattle.x5_model_joins.proofs.Replacing.{result_of, are_parts}

-- ---- those that somebody tried, and then the others

abbrev tried_of : List Reference → List Reference
tried_of us = filter (λ r. r.tried) us

abbrev others_of : List Reference → List Reference
others_of us = filter (λ r. not r.tried) us

of_split : (us : List Reference) (u : Reference) → In u (tried_of us ++ others_of us) → In u us
of_split us u i = elim (in_either u (tried_of us) (others_of us) i) [ inl j ↦ (of_filter (λ r. r.tried) u us j).0 | inr j ↦ (of_filter (λ r. not r.tried) u us j).0 ]

in_split : (us : List Reference) (u : Reference) → In u us → In u (tried_of us ++ others_of us)
in_split us u i = elim (true_or_false u.tried) [
  | inl t ↦ in_left u (tried_of us) (others_of us) (in_filter (λ r. r.tried) u us i t)
  | inr t ↦ in_right u (tried_of us) (others_of us) (in_filter (λ r. not r.tried) u us i (ap not t))
]

module _ (w : World) where
  meets_none : (u : Reference) (vs : List Reference) → not (list_any (meet w u) vs) ≡ true → (v : Reference) → In v vs → meet w u v ≡ true → ⊥
  meets_none u vs h v i m = (let a : list_any (meet w u) vs ≡ true = any_in (meet w u) v vs i m in let n : list_any (meet w u) vs ≡ false = not_true (list_any (meet w u) vs) h in cc)

  none_meets : (u : Reference) (vs : List Reference) → ((v : Reference) → In v vs → meet w u v ≡ true → ⊥) → not (list_any (meet w u) vs) ≡ true
  none_meets u vs f = elim (true_or_false (list_any (meet w u) vs)) [ inl p ↦ (let y = of_any (meet w u) vs p in absurd (f y.0 y.1 y.2)) | inr p ↦ ap not p ]

  apart_filter : (t : Reference → Bool) (us : List Reference) → are_apart w us ≡ true → are_apart w (filter t us) ≡ true
  apart_filter t [] h = refl
  apart_filter t (u ∷ us) h = by (t u) (apart_filter t us (both_true (not (list_any (meet w u) us)) (are_apart w us) h).1)
    where
      by : (b : Bool) → are_apart w (filter t us) ≡ true → are_apart w (cond b (u ∷ filter t us) (filter t us)) ≡ true
      by true k = and_true (not (list_any (meet w u) (filter t us))) (are_apart w (filter t us))
          (none_meets u (filter t us) (λ v i m. meets_none u us (both_true (not (list_any (meet w u) us)) (are_apart w us) h).0 v (of_filter t v us i).0 m)) k
      by false k = k

  apart_two : (us : List Reference) → are_apart w us ≡ true → (u v : Reference) → In u us → In v us → (u ≡ v → ⊥) → meet w u v ≡ true → ⊥
  apart_two [] h u v i j differ m = elim i [ ]
  apart_two (x ∷ us) h u v i j differ m =
      let b = both_true (not (list_any (meet w x) us)) (are_apart w us) h in
      elim (in_first u x us i) [
        | inl e ↦ elim (in_first v x us j) [
          | inl f ↦ differ (e ∙ sym f)
          | inr k ↦ meets_none x us b.0 v k (subst (λ y. meet w y v ≡ true) e m)
        ]
        | inr l ↦ elim (in_first v x us j) [
          | inl f ↦ meets_none x us b.0 u l (subst (λ y. meet w y u ≡ true) f (meet_back w u v m))
          | inr k ↦ apart_two us b.1 u v l k differ m
        ]
      ]

  split_apart : (us : List Reference) → are_apart w us ≡ true → are_apart w (tried_of us ++ others_of us) ≡ true
  split_apart us h =
      apart_joined w (tried_of us) (others_of us) (apart_filter (λ r. r.tried) us h) (apart_filter (λ r. not r.tried) us h)
      (λ u v i j m.
      (let a = of_filter (λ r. r.tried) u us i in
      let b = of_filter (λ r. not r.tried) v us j in
      apart_two us h u v a.0 b.0 (λ e. false_true (sym (not_true v.tried b.1) ∙ sym (ap (λ (r : Reference). r.tried) e) ∙ a.1)) m))

-- what is tried and blocked is lost
tried_lost : (s : Scene) (q : Asked) (lines : List Line) (us : List Reference) → AllByRecursion (Blocked s q lines) us → AllByRecursion (IsLost s q lines) (tried_of us)
tried_lost s q lines [] h = tt
tried_lost s q lines (u ∷ us) h = by u.tried refl (tried_lost s q lines us h.1)
  where
    lost_one : Blocked s q lines u → u.tried ≡ true → IsLost s q lines u
    lost_one (untried x) t = absurd (false_true (sym (untried_passing (s.holdings q.to) q.message u (of_contains (passing_needs (s.holdings q.to) q.message) u x.needed)) ∙ t))
    lost_one (lost x) t = x

    by : (b : Bool) → u.tried ≡ b → AllByRecursion (IsLost s q lines) (tried_of us) → AllByRecursion (IsLost s q lines) (cond b (u ∷ tried_of us) (tried_of us))
    by true t rest = (lost_one h.0 t, rest)
    by false t rest = rest

pub no_update_below : (b : Body) → is_query_below b ≡ true → is_update b ≡ false
no_update_below (ListBelow name) e = refl
no_update_below (Search base subset f selection) e = refl
no_update_below b e = absurd (false_true e)

module _ (p : Point) (s : Scene) (q : Asked) (j : Journal) (st : Stands p) (copies : (may_copy q.message.request ≡ false) ⊎ CopiesStand p) (query : is_query_below q.message.request.body ≡ true) where
  whole_parts : (a : Answer) → IsResult p s q j.lines a → AreParts p (sources_of a)
  whole_parts a res = are_parts p q j.lines copies (sources_of a) res.sources res.once

  exactly_split : (keys : List Key) (us : List Reference) → same_keys keys (uncovered p q us) ≡ true → same_keys keys (uncovered p q (tried_of us ++ others_of us)) ≡ true
  exactly_split keys us h =
      are_same keys (uncovered p q (tried_of us ++ others_of us))
      (λ z i. (let v = of_uncovered (knowledge_at p) us (touched (knowledge_at p) (tree_at p) q.to q.message) z (of_same_left keys (uncovered p q us) h z i) in
      in_uncovered (knowledge_at p) (tried_of us ++ others_of us) (touched (knowledge_at p) (tree_at p) q.to q.message) z v.0 (λ u k c. v.1 u (of_split us u k) c)))
      (λ z i. (let v = of_uncovered (knowledge_at p) (tried_of us ++ others_of us) (touched (knowledge_at p) (tree_at p) q.to q.message) z i in
      of_same_right keys (uncovered p q us) h z (in_uncovered (knowledge_at p) us (touched (knowledge_at p) (tree_at p) q.to q.message) z v.0 (λ u k c. v.1 u (in_split us u k) c))))

  completed_split : (us : List Reference) → list_all (λ r. is_done r.progress) us ≡ true → list_all (λ r. is_done r.progress) (tried_of us ++ others_of us) ≡ true
  completed_split us h = all_in (λ r. is_done r.progress) (tried_of us ++ others_of us) (λ u i. of_all (λ r. is_done r.progress) u us h (of_split us u i))

  follow : (a : Answer) → IsResult p s q j.lines a → LiesWithin p q (Answered a) → SoFar p s q j.lines (only_unexplored (passed_by a) a) (to_follow a)
  follow (EntryFound info x) res within = record {
    tells = record { found = res.found; spelled = res.spelled; sources = res.sources; once = res.once; exactly = res.exactly; ordered = refl; answered = res.answered; completed = res.completed; apart = res.apart; nested = λ u z i. elim i [ ] };
    lost = tt;
  }
  follow (Matched equal copy x) res within = record {
    tells = record { found = res.found; spelled = res.spelled; sources = res.sources; once = res.once; exactly = res.exactly; ordered = refl; answered = res.answered; completed = res.completed; apart = res.apart; nested = λ u z i. elim i [ ] };
    lost = tt;
  }
  follow Changed res within = record {
    tells = record { found = res.found; spelled = res.spelled; sources = res.sources; once = res.once; exactly = res.exactly; ordered = refl; answered = res.answered; completed = res.completed; apart = res.apart; nested = λ u z i. elim i [ ] };
    lost = tt;
  }
  follow (Listed subs xs o) res within = record {
    tells = record {
      found = res.found;
      spelled = res.spelled;
      sources = res.sources;
      once = res.once;
      exactly = exactly_split (map (λ x. key_of x.context) xs) o.unexplored res.exactly;
      ordered = told_in_order p q.message (Listed subs xs o) st (whole_parts (Listed subs xs o) res) query res.answered;
      answered = told_short p q.message (Listed subs xs o) st (whole_parts (Listed subs xs o) res) query res.answered;
      completed = completed_split o.unexplored res.completed;
      apart = split_apart (knowledge_at p) o.unexplored res.apart;
      nested = λ u z i c. within u z (of_split o.unexplored u i) c;
    };
    lost = tried_lost s q j.lines o.unexplored res.blocked;
  }
  follow (Found infos xs o) res within = record {
    tells = record {
      found = res.found;
      spelled = res.spelled;
      sources = res.sources;
      once = res.once;
      exactly = exactly_split (map (λ x. key_of x.context) xs) o.unexplored res.exactly;
      ordered = told_in_order p q.message (Found infos xs o) st (whole_parts (Found infos xs o) res) query res.answered;
      answered = told_short p q.message (Found infos xs o) st (whole_parts (Found infos xs o) res) query res.answered;
      completed = completed_split o.unexplored res.completed;
      apart = split_apart (knowledge_at p) o.unexplored res.apart;
      nested = λ u z i c. within u z (of_split o.unexplored u i) c;
    };
    lost = tried_lost s q j.lines o.unexplored res.blocked;
  }

pub follow_tells : FollowTells
follow_tells p s q j spent a st copies query right within =
    follow p s q j st copies query a (result_of p s q j spent (Answered a) right a refl (no_update_below q.message.request.body query)) within
