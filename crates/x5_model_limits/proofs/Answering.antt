-- What is made of answers and references within the limits stays within them: by their cases.
use Rattle.std.proofs.Common.{ℕ, Bool, not, ◌&&◌, ◌||◌, List, [], ◌∷◌}
use Rattle.std.specs.List.{filter, list_any}
use Rattle.std.specs.declared.option.Option.{Option}
use Rattle.std.specs.declared.option.Option.TheVariants.{None, Some}
use Rattle.x5_model.specs.Members.{here, there}
use Rattle.x5_model.specs.References.{Reference}
use Rattle.x5_model.specs.Answers.{Answer, EntryFound, Matched, Listed, Found, Changed}
use Rattle.x5_model_tree.specs.Ask.{unexplored_of, limited}
use Rattle.x5_model_serve.specs.Answering.{first_each, before_sub, before_info, joined, merged, with_unexplored, only_unexplored, limited_answer, to_follow, passed_by, in_vain, of_these}
use Rattle.x5_model_fitting.specs.Names.{Each}
use Rattle.x5_model_fitting.specs.Replies.{InfoWithin, SubWithin}
use Rattle.x5_model_limits.specs.Messages.{BoundedReference, BoundedSource, BoundedAnswer}
use Rattle.x5_model_limits.specs.Laws.{AnswersBounded}
use Rattle.x5_model_limits.proofs.Lists.{in_beginning, each_none, each_one, each_both, each_kept, each_sorted}

module _ {A : Type 0} (P : A → Type 0) where
  pub each_first : (below : A → A → Bool) (xs : List A) → Each P xs → Each P (first_each below xs)
  each_first below [] f = each_none P
  each_first below (x ∷ xs) f =
      each_both P (x ∷ []) (filter (λ y. below x y || below y x) (first_each below xs)) (each_one P x (f x here))
      (each_kept P (λ y. below x y || below y x) (first_each below xs) (each_first below xs (λ y i. f y (there i))))

  pub each_joined : (below : A → A → Bool) (xs ys : List A) → Each P xs → Each P ys → Each P (joined below xs ys)
  each_joined below xs ys f g =
      each_sorted P below _
      (each_both P xs _ f (each_kept P (λ y. not (list_any (λ x. not (below x y) && not (below y x)) xs)) ys g))

  pub each_limited : (size : Option ℕ) (xs : List A) → Each P xs → Each P (limited size xs)
  each_limited None xs f = f
  each_limited (Some n) xs f = λ x i. f x (in_beginning n x xs i)

merged_bounded : (a b : Answer) → BoundedAnswer a → BoundedAnswer b → BoundedAnswer (merged a b)
merged_bounded (Listed subs sources o) (Listed more others q) f g = (
  each_joined SubWithin before_sub subs more f.0 g.0,
  each_both BoundedSource sources others f.1 g.1,
  each_both BoundedReference o.unexplored q.unexplored f.2 g.2,
)
merged_bounded (Found infos sources o) (Found more others q) f g = (
  each_joined InfoWithin before_info infos more f.0 g.0,
  each_both BoundedSource sources others f.1 g.1,
  each_both BoundedReference o.unexplored q.unexplored f.2 g.2,
)
merged_bounded (EntryFound info source) b f g = f
merged_bounded (Matched equal copy source) b f g = f
merged_bounded Changed b f g = f
merged_bounded (Listed subs sources o) (EntryFound info source) f g = f
merged_bounded (Listed subs sources o) (Matched equal copy source) f g = f
merged_bounded (Listed subs sources o) (Found more others q) f g = f
merged_bounded (Listed subs sources o) Changed f g = f
merged_bounded (Found infos sources o) (EntryFound info source) f g = f
merged_bounded (Found infos sources o) (Matched equal copy source) f g = f
merged_bounded (Found infos sources o) (Listed more others q) f g = f
merged_bounded (Found infos sources o) Changed f g = f

with_bounded : (rs : List Reference) (a : Answer) → Each BoundedReference rs → BoundedAnswer a
    → BoundedAnswer (with_unexplored rs a)
with_bounded rs (EntryFound info source) r f = f
with_bounded rs (Matched equal copy source) r f = f
with_bounded rs (Listed subs sources o) r f = (f.0, f.1, each_both BoundedReference o.unexplored rs f.2 r)
with_bounded rs (Found infos sources o) r f = (f.0, f.1, each_both BoundedReference o.unexplored rs f.2 r)
with_bounded rs Changed r f = f

only_bounded : (rs : List Reference) (a : Answer) → Each BoundedReference rs → BoundedAnswer a
    → BoundedAnswer (only_unexplored rs a)
only_bounded rs (EntryFound info source) r f = f
only_bounded rs (Matched equal copy source) r f = f
only_bounded rs (Listed subs sources o) r f = (f.0, f.1, r)
only_bounded rs (Found infos sources o) r f = (f.0, f.1, r)
only_bounded rs Changed r f = f

limited_bounded : (size : Option ℕ) (a : Answer) → BoundedAnswer a → BoundedAnswer (limited_answer size a)
limited_bounded size (EntryFound info source) f = f
limited_bounded size (Matched equal copy source) f = f
limited_bounded size (Listed subs sources o) f = (each_limited SubWithin size subs f.0, f.1, f.2)
limited_bounded size (Found infos sources o) f = (each_limited InfoWithin size infos f.0, f.1, f.2)
limited_bounded size Changed f = f

unexplored_bounded : (a : Answer) → BoundedAnswer a → Each BoundedReference (unexplored_of a)
unexplored_bounded (EntryFound info source) f = each_none BoundedReference
unexplored_bounded (Matched equal copy source) f = each_none BoundedReference
unexplored_bounded (Listed subs sources o) f = f.2
unexplored_bounded (Found infos sources o) f = f.2
unexplored_bounded Changed f = each_none BoundedReference

follow_bounded : (a : Answer) → BoundedAnswer a → Each BoundedReference (to_follow a)
follow_bounded a f = each_kept BoundedReference (λ r. not r.tried) (unexplored_of a) (unexplored_bounded a f)

passed_bounded : (a : Answer) → BoundedAnswer a → Each BoundedReference (passed_by a)
passed_bounded a f = each_kept BoundedReference (λ r. r.tried) (unexplored_of a) (unexplored_bounded a f)

vain_bounded : (r : Reference) → BoundedReference r → BoundedReference (in_vain r)
vain_bounded r h = record { target = h.target; progress = h.progress; exclusions = h.exclusions }

these_bounded : (agents : List ℕ) (r : Reference) → BoundedReference r → BoundedReference (of_these agents r)
these_bounded agents r h = record { target = h.target; progress = h.progress; exclusions = h.exclusions }

pub answers_are_bounded : AnswersBounded
answers_are_bounded = record {
  merged = merged_bounded;
  more = with_bounded;
  only = only_bounded;
  limited = limited_bounded;
  follow = follow_bounded;
  pass = passed_bounded;
  vain = vain_bounded;
  these = these_bounded;
}
