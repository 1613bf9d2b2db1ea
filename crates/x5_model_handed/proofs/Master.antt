-- Where an update's target is found in a context of the agent's own nothing was accepted before, since only this agent
-- could have, and it would answer at once; and what it accepts, alone or with each probe's agent cleared, is right.
use Rattle.std.proofs.Common.{◌≡◌, ℕ, nat_le, ◌==◌, Bool, true, false, ◌&&◌, ◌||◌, inl, inr, List, [], ◌∷◌, length}
use Rattle.std.proofs.Common.{refl, sym, ap, subst, ◌∙◌, Some, Ok, if◌then◌else◌}
use Rattle.std.specs.List.{list_all}
use Rattle.std.specs.Result.{is_ok}
use Rattle.x5_model.specs.Words.{has, is_empty, some_and}
use Rattle.x5_model.specs.Members.{In, here}
use Rattle.x5_model.specs.Values.{Name, key_of}
use Rattle.x5_model.specs.Entries.{Named}
use Rattle.x5_model.specs.Requests.{Body}
use Rattle.x5_model.specs.References.{Next, Reference}
use Rattle.x5_model.proofs.KeyLaws.{key_decides}
use Rattle.x5_model.proofs.Decide.{nat_same_decides}
use Rattle.x5_model.proofs.Lists.{both_true, and_true, not_true, or_right, in_first, of_all, has_in}
use Rattle.x5_model_tree.specs.Tree.{Tree}
use Rattle.x5_model_tree.specs.Masters.{masters}
use Rattle.x5_model_tree.specs.Ask.{is_update}
use Rattle.x5_model_tree.specs.Apply.{Applied, apply, apply_over}
use Rattle.x5_model_run.specs.Network.{arrives}
use Rattle.x5_model_run.specs.Journal.{Line, Journal, same_name, is_reached}
use Rattle.x5_model_run.specs.Holdings.{Held, Holdings, ground_at, holds_within}
use Rattle.x5_model_run.specs.Needs.{target_of, falls_short, due_probes}
use Rattle.x5_model_run.specs.History.{Point, knowledge_at, tree_at, holdings_at}
use Rattle.x5_model_run.specs.Chain.{Scene}
use Rattle.x5_model_run.specs.Right.{master_at, is_master_at, is_accepted_right}
use Rattle.x5_model_updates.specs.Standing.{StandsWhole}
use Rattle.x5_model_updates.specs.Judging.{IsJudge}
use Rattle.x5_model_updates.proofs.Judges.{accepts_alone, accepts_probed, probes_new_name, unable_masters_none}
use Rattle.x5_model_updates.proofs.Probes.{probe_is}
use Rattle.x5_model_serve.specs.Committed.{committed}
use Rattle.x5_model_serve.specs.Finding.{Here, find}
use Rattle.x5_model_serve.specs.Serving.{Hand, Arrives, holds_now, found_at, judged, with_line, with_accepted}
use Rattle.x5_model_heard.specs.Kept.{IsOfUser}
use Rattle.x5_model_heard.proofs.Fresh.{here_is_fresh}
use Rattle.x5_model_find.proofs.Owns.{here_is_judge}
use Rattle.x5_model_verdicts.proofs.At.{fit_key}
use Rattle.x5_model_verdicts.proofs.Done.{applied}
use Rattle.x5_model_bounds.specs.Unable.{IsShort}

-- the scene's target is what its request asks for
abbrev pub Fit : Scene → Type 0
Fit s = same_name (target_of s.message.request.body) s.message.target ≡ true

-- what was accepted so far is right
pub record Good (p : Point) (s : Scene) (j : Journal) : Type 0 where
  pub one : nat_le (length j.accepted) 1 ≡ true
  pub right : list_all (is_accepted_right p s j.lines) j.accepted ≡ true
  pub fit : (is_empty j.accepted || same_name (target_of s.message.request.body) s.message.target) ≡ true

-- ---- one line more

all_more : (f g : ℕ → Bool) (xs : List ℕ) → ((a : ℕ) → f a ≡ true → g a ≡ true) → list_all f xs ≡ true
    → list_all g xs ≡ true
all_more f g [] h e = refl
all_more f g (x ∷ xs) h e = (let w = both_true (f x) _ e in and_true (g x) _ (h x w.0) (all_more f g xs h w.1))

right_still : (p : Point) (s : Scene) (l : Line) (lines : List Line) (a : ℕ) → is_accepted_right p s lines a ≡ true
    → is_accepted_right p s (l ∷ lines) a ≡ true
right_still p s l lines a e =
    let u = both_true (is_update s.message.request.body) _ e in
    let v = both_true (is_reached lines a) _ u.1 in
    and_true (is_update s.message.request.body) _ u.0
    (and_true (is_reached (l ∷ lines) a) _ (or_right ((l.receiver == a) && arrives l.fate) _ v.0) v.1)

pub line_good : (p : Point) (s : Scene) (l : Line) (j : Journal) → Good p s j → Good p s (with_line l j)
line_good p s l j good = record {
  one = good.one;
  right =
      all_more (is_accepted_right p s j.lines) (is_accepted_right p s (l ∷ j.lines)) j.accepted
      (right_still p s l j.lines) good.right;
  fit = good.fit;
}

-- ---- at the master

-- an update is at hand, and its target is found in a context that its agent masters
pub record AtUpdate (s : Scene) (k : Hand) (i : Journal) : Type 0 where
  pub reached : is_reached i.lines k.receiver ≡ true
  pub context : Held
  pub arrives : Arrives s k i
  pub found : found_at s i k ≡ Here context
  pub update : is_update k.message.request.body ≡ true

module _ (p : Point) (s : Scene) (k : Hand) (i : Journal) (whole : StandsWhole p) (held : s.holdings ≡ holdings_at p)
    (fit : Fit s) (of : IsOfUser s k.message) (at : AtUpdate s k i) (good : Good p s i) where
  not_yet : has ◌==◌ i.accepted k.receiver ≡ false
  not_yet = here_is_fresh s k i at.context at.arrives at.found at.update

  holds_is : holds_now s i k ≡ holdings_at p k.receiver
  holds_is =
      ap (λ (b : Bool). if b then committed s.message.request (s.holdings k.receiver) else s.holdings k.receiver)
      not_yet
      ∙ ap (λ (f : ℕ → Holdings). f k.receiver) held

  judge : IsJudge p k.receiver k.message
  judge =
      here_is_judge p k.receiver k.message at.context whole (at.arrives.unrefused, at.arrives.fit) at.update
      (ap (λ (h : Holdings). find h k.message) (sym holds_is) ∙ at.found)

  body_is : k.message.request.body ≡ s.message.request.body
  body_is = of.update at.update

  key_is : key_of s.message.target ≡ key_of k.message.target
  key_is =
      sym ((key_decides (key_of (target_of s.message.request.body)) (key_of s.message.target)).0 fit)
      ∙ ap (λ (b : Body). key_of (target_of b)) (sym body_is) ∙ sym (fit_key k.message at.arrives.fit)

  master_is : master_at p (key_of s.message.target) ≡ Some k.receiver
  master_is = ap (master_at p) key_is ∙ judge.master

  pub none_yet : i.accepted ≡ []
  none_yet = by i.accepted refl
    where
      by : (xs : List ℕ) → i.accepted ≡ xs → i.accepted ≡ []
      by [] e = e
      by (a ∷ xs) e =
          let member : In a i.accepted = subst (λ (ys : List ℕ). In a ys) (sym e) here in
          let right = of_all (is_accepted_right p s i.lines) a i.accepted good.right member in
          let u = both_true (is_update s.message.request.body) _ right in
          let v = both_true (is_reached i.lines a) _ u.1 in
          let w = both_true (is_master_at p (key_of s.message.target) a) _ v.1 in
          let m : some_and (λ (x : ℕ). x == a) (Some k.receiver) ≡ true =
          ap (some_and (λ (x : ℕ). x == a)) (sym master_is) ∙ w.0 in
          let same : k.receiver ≡ a = (nat_same_decides k.receiver a).0 m in
          let yes : has ◌==◌ i.accepted k.receiver ≡ true =
          has_in ◌==◌ nat_same_decides k.receiver i.accepted (subst (λ (x : ℕ). In x i.accepted) (sym same) member) in
          let no = not_yet in
          absurd (let f : true ≡ false = sym yes ∙ no in cc)

  -- it accepts what the tree doesn't refuse
  accepts : (j : Journal) (t : Tree) → j.accepted ≡ [] → is_reached j.lines k.receiver ≡ true
      → apply (tree_at p) k.message.request ≡ Ok t → Good p s (with_accepted k.receiver j)
  accepts j t none reached taken = record {
    one = ap (λ (xs : List ℕ). nat_le (length (k.receiver ∷ xs)) 1) none;
    right =
        ap (λ (xs : List ℕ). list_all (is_accepted_right p s j.lines) (k.receiver ∷ xs)) none
        ∙ and_true (is_accepted_right p s j.lines k.receiver) true right refl;
    fit = or_right (is_empty (k.receiver ∷ j.accepted)) _ fit;
  }
    where
      ok : is_ok (apply (tree_at p) s.message.request) ≡ true
      ok = ap (λ (b : Body). is_ok (applied (tree_at p) b)) (sym body_is) ∙ ap (λ (x : Applied). is_ok x) taken

      mastered : is_master_at p (key_of s.message.target) k.receiver ≡ true
      mastered = ap (some_and (λ (x : ℕ). x == k.receiver)) master_is ∙ (nat_same_decides k.receiver k.receiver).1 refl

      right : is_accepted_right p s j.lines k.receiver ≡ true
      right =
          and_true (is_update s.message.request.body) _ (ap is_update (sym body_is) ∙ at.update)
          (and_true (is_reached j.lines k.receiver) _ reached
          (and_true (is_master_at p (key_of s.message.target) k.receiver) _ mastered ok))

  module _ (mine : List Named) (passes : judged s i k ≡ Ok mine) where
    passes_here : apply_over (ground_at k.message.request (holdings_at p k.receiver)) k.message.request.body ≡ Ok mine
    passes_here =
        ap (λ (h : Holdings). apply_over (ground_at k.message.request h) k.message.request.body) (sym holds_is) ∙ passes

    -- where no probe is due
    pub alone : due_probes (holds_now s i k) k.message ≡ [] → Good p s (with_accepted k.receiver i)
    alone due =
        let due_here = ap (λ (h : Holdings). due_probes h k.message) (sym holds_is) ∙ due in
        let t = accepts_alone p k.receiver k.message mine judge passes_here due_here in
        accepts i t.0 none_yet at.reached t.1

    module _ (r : Reference) (due : due_probes (holds_now s i k) k.message ≡ r ∷ []) where
      due_here : due_probes (holdings_at p k.receiver) k.message ≡ r ∷ []
      due_here = ap (λ (h : Holdings). due_probes h k.message) (sym holds_is) ∙ due

      -- it goes as far as the new name
      far : r.progress ≡ Next (length r.target)
      far =
          let one : In r (due_probes (holdings_at p k.receiver) k.message) =
          subst (λ (rs : List Reference). In r rs) (sym due_here) here in
          let x = probe_is (holdings_at p k.receiver) k.message r one in
          let w = probes_new_name p k.receiver k.message r one in
          let same : x.name ≡ w.0 = (let e : Some x.name ≡ Some w.0 = sym x.named ∙ w.1 in cc) in
          ap (λ (y : Reference). y.progress) x.is
          ∙ ap (λ (n : ℕ). Next n) (ap (λ (y : Name). length y) same ∙ sym w.3)

      cleared_masters_none : (a : ℕ) → IsShort s a r.target r.progress
          → masters (knowledge_at p) a (key_of r.target) ≡ false
      cleared_masters_none a short =
          let less : falls_short (holdings_at p a) (key_of r.target) (Next (length r.target)) ≡ true =
          ap (falls_short (holdings_at p a) (key_of r.target)) (sym far)
          ∙ ap (λ (f : ℕ → Holdings). falls_short (f a) (key_of r.target) r.progress) (sym held) ∙ short in
          unable_masters_none p a r.target whole
          (not_true (holds_within (holdings_at p a) (key_of r.target) (length r.target)) less)

      -- or each agent that a probe goes to can't go on
      pub probed : (j : Journal) → j.accepted ≡ i.accepted → is_reached j.lines k.receiver ≡ true
          → ((a : ℕ) → In a r.agents → IsShort s a r.target r.progress) → Good p s (with_accepted k.receiver j)
      probed j still reached cleared =
          let t = accepts_probed p k.receiver k.message mine judge passes_here none in
          accepts j t.0 (still ∙ none_yet) reached t.1
        where
          none : (q : Reference) (a : ℕ) → In q (due_probes (holdings_at p k.receiver) k.message) → In a q.agents
              → masters (knowledge_at p) a (key_of q.target) ≡ false
          none q a iq ia = elim (in_first q r [] (subst (λ (rs : List Reference). In q rs) due_here iq)) [
            | inl e ↦
                subst (λ (y : Reference). masters (knowledge_at p) a (key_of y.target) ≡ false) (sym e)
                (cleared_masters_none a (cleared a (subst (λ (y : Reference). In a y.agents) e ia)))
            | inr n ↦ elim n [ ]
          ]
