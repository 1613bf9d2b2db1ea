-- A reply within the limits is as it is spelled, so that it is read back as it was written.
use Rattle.std.proofs.Common.{◌≡◌, ℕ, true, false, ◌==◌, List, [], ◌∷◌, inl, inr, refl, sym, subst}
use Rattle.std.specs.declared.option.Option.{Option}
use Rattle.std.specs.declared.option.Option.TheVariants.{None, Some}
use Rattle.x5_model.specs.Members.{In, here, there}
use Rattle.x5_model.specs.Answers.{Shown, EntryInfo, Sub}
use Rattle.x5_model.proofs.Lists.{all_in, in_first}
use Rattle.x5_model_messages.specs.Laws.{IsRdn, is_sayable}
use Rattle.x5_model_messages.specs.Replies.{Reference, TraceItem, Source, Outcome, Answer, Entry, Match, Listed, Found, Changed}
use Rattle.x5_model_messages.specs.Replies.{Reply, Answered, NoSuchObject, AttributeProblem, UpdateProblem, ServiceProblem, Referred}
use Rattle.x5_model_fitting.specs.Names.{RdnWithin}
use Rattle.x5_model_fitting.specs.Names as within
use Rattle.x5_model_fitting.specs.Requests as requests
use Rattle.x5_model_fitting.specs.Chained.{ItemWithin}
use Rattle.x5_model_fitting.specs.Replies.{ReferenceWithin, SourceWithin, ShownWithin, InfoWithin, SubWithin, OutcomeWithin}
use Rattle.x5_model_fitting.specs.Replies.{AnswerWithin, answered_by, ReplyWithin}
use Rattle.x5_model_fitting.proofs.Names.{name_is, rdn_is}
use Rattle.x5_model_fitting.proofs.Terms.{value_said}
use Rattle.x5_dapreply.specs.Told.{Each, IfThere, IsReference, IsItem, IsSource, IsShown, IsInfo, IsSub, IsOutcome, IsResultOf, IsTold}

each_told : {X : Type 0} (P Q : X → Type 0) → ((x : X) → P x → Q x) → (xs : List X) → within.Each P xs → Each Q xs
each_told P Q of [] h = tt
each_told P Q of (x ∷ xs) h = (of x (h x here), each_told P Q of xs (λ y i. h y (there i)))

there_told : {X : Type 0} (P Q : X → Type 0) → ((x : X) → P x → Q x) → (o : Option X) → requests.IfThere P o → IfThere Q o
there_told P Q of None h = tt
there_told P Q of (Some x) h = of x h

reference_told : (r : Reference) → ReferenceWithin r → IsReference r
reference_told r h = (name_is r.target h.target, each_told RdnWithin IsRdn rdn_is r.exclusions h.exclusions)

item_told : (i : TraceItem) → ItemWithin i → IsItem i
item_told i h = name_is i.target h.target

source_told : (s : Source) → SourceWithin s → IsSource s
source_told s h = name_is s.context h.context

shown_told : (a : Shown) → ShownWithin a → IsShown a
shown_told a h = (h.type.is, all_in is_sayable a.values (λ v i. value_said v (h.values v i)))

info_told : (e : EntryInfo) → InfoWithin e → IsInfo e
info_told e h = (name_is e.name h.name, each_told ShownWithin IsShown shown_told e.attributes h.attributes)

sub_told : (s : Sub) → SubWithin s → IsSub s
sub_told s h = rdn_is s.rdn h

outcome_told : (o : Outcome) → OutcomeWithin o → IsOutcome o
outcome_told o h = each_told ReferenceWithin IsReference reference_told o.unexplored h

only_code : (code k : ℕ) → In code (k ∷ []) → code ≡ k
only_code code k i = elim (in_first code k [] i) [ inl e ↦ e | inr j ↦ elim j [ ] ]

result_told : (code : ℕ) (a : Answer) → In code (answered_by a) → AnswerWithin a → IsResultOf code a
result_told code (Entry entry source) i h = (info_told entry h.0, source_told source h.1)
result_told code (Match matched copy source) i h =
    (subst (λ (k : ℕ). (k == 2) ≡ true) (sym (only_code code 2 i)) refl, source_told source h)
result_told code (Listed subs sources outcome) i h = (
  subst (λ (k : ℕ). (k == 2) ≡ false) (sym (only_code code 4 i)) refl,
  subst (λ (k : ℕ). (k == 4) ≡ true) (sym (only_code code 4 i)) refl,
  each_told SubWithin IsSub sub_told subs h.0,
  each_told SourceWithin IsSource source_told sources h.1,
  outcome_told outcome h.2,
)
result_told code (Found entries sources outcome) i h = (
  subst (λ (k : ℕ). (k == 2) ≡ false) (sym (only_code code 5 i)) refl,
  subst (λ (k : ℕ). (k == 4) ≡ false) (sym (only_code code 5 i)) refl,
  each_told InfoWithin IsInfo info_told entries h.0,
  each_told SourceWithin IsSource source_told sources h.1,
  outcome_told outcome h.2,
)
result_told code Changed i h = tt

pub told_within : (r : Reply) → ReplyWithin r → IsTold r
told_within (Answered code answer) h = result_told code answer h.0 h.1
told_within (NoSuchObject matched) h = name_is matched h
told_within (AttributeProblem problem type) h = h.1.is
told_within (UpdateProblem problem) h = tt
told_within (ServiceProblem problem reference item) h =
    (there_told ReferenceWithin IsReference reference_told reference h.1, there_told ItemWithin IsItem item_told item h.2)
told_within (Referred reference) h = reference_told reference h
