-- Where each agent of an NSSR was heard, and holds nothing that goes as far, the tree has no such entry, and who knows it
-- was heard: what was asked of an agent for the message's line, and came back, came back to that line.
use Rattle.std.proofs.Common.{◌≡◌, ℕ, ◌+◌, ◌-◌, ◌==◌, nat_lt, Bool, true, false, not, ◌&&◌, ◌||◌, inl, inr, List, [], ◌∷◌, ◌++◌, length, take, drop, refl, sym, ap, subst, ◌∙◌, arith, Option, if◌then◌else◌}
use Rattle.std.specs.List.{list_all}
use Rattle.std.specs.Option.{is_some}
use Rattle.std.proofs.Math.Seq.{take-append_seam, take-length}
use Rattle.x5_model.specs.Words.{some_and, first_of}
use Rattle.x5_model.specs.Members.{In}
use Rattle.x5_model.specs.Keys.{Key, same_key}
use Rattle.x5_model.specs.Values.{Name, key_of}
use Rattle.x5_model.specs.Entries.{Named}
use Rattle.x5_model.specs.References.{Progress, Next, NonSpecific, Reference}
use Rattle.x5_model.specs.Answers.{NoSuchObject, Failed}
use Rattle.x5_model.specs.Statics.{fault_of}
use Rattle.x5_model.proofs.KeyLaws.{key_decides}
use Rattle.x5_model.proofs.Decide.{nat_same_decides}
use Rattle.x5_model.proofs.Lists.{both_true, and_true, either_true, or_left, or_right, not_true, all_in}
use Rattle.x5_model_tree.specs.Tree.{lowest}
use Rattle.x5_model_run.specs.Network.{is_sent}
use Rattle.x5_model_run.specs.Journal.{Line, Journal, depth, same_name, same_progress, is_wide, settled, leads_up}
use Rattle.x5_model_run.specs.Holdings.{Holdings, holds_within}
use Rattle.x5_model_run.specs.Needs.{proceeding, falls_short}
use Rattle.x5_model_run.specs.History.{Point, knowledge_at, tree_at, holdings_at}
use Rattle.x5_model_run.specs.Chain.{Scene, asks_by, is_asked, is_cleared}
use Rattle.x5_model_run.specs.Blocked.{is_answered_line, hears_by}
use Rattle.x5_model_run.specs.Right as right
use Rattle.x5_model_run.specs.Right.{master_at, first_level_at, hears_of, hears_master, nssr_agents, hears_below, hears_nssr, is_told}
use Rattle.x5_model_replies.specs.Replies.{usual}
use Rattle.x5_model_run.proofs.Journals.{leads_from}
use Rattle.x5_model_theory.specs.Leading.{IsSound}
use Rattle.x5_model_serve.specs.Answering.{above_next}
use Rattle.x5_model_serve.specs.Serving.{Hand, hand_of}
use Rattle.x5_model_serve.specs.Claims.{IsAgent, asked_line}
use Rattle.x5_model_find.specs.Finds.{Ends, at_none, at_entry}
use Rattle.x5_model_find.proofs.Needing.{false_true}
use Rattle.x5_model_find.proofs.Nobody.{nobody_is_told}
use Rattle.x5_model_joins.proofs.Backs.{own_back, own_answered}
use Rattle.x5_model_passing.specs.Taking.{IsRightFor, NobodyIsRight}
use Rattle.x5_model_passing.proofs.Same.{Ways, the_way, way_wide, way_kept}
use Rattle.x5_model_passing.proofs.Taking.{OnLine, able_here, none_by_refusal, hand_is, line_on}

-- ---- what was asked for a line, and came back, came back to it

leads_there : (l : Line) (stood d n : ℕ) (before : List Line) → some_and (λ o. (o.number == l.number) && ((depth o + 1) == n))
    (first_of (settled d before)) ≡ true
    → leads_up (is_answered_line (asked_line l stood)) (λ x. is_sent x.fate) d before ≡ true
leads_there l stood d n [] h = absurd (false_true h)
leads_there l stood d n (y ∷ ys) h = by (nat_lt d (depth y)) (leads_there l stood d n ys) h
  where
    by : (b : Bool) → (some_and (λ o. (o.number == l.number) && ((depth o + 1) == n)) (first_of (settled d ys)) ≡ true → leads_up
        (is_answered_line (asked_line l stood)) (λ x. is_sent x.fate) d ys ≡ true)
        → some_and (λ o. (o.number == l.number) && ((depth o + 1) == n)) (first_of (if b then settled d ys else (y ∷ ys))) ≡ true
        → (if b then leads_up (is_answered_line (asked_line l stood)) (λ x. is_sent x.fate) d ys
        else is_answered_line (asked_line l stood) y
        || (is_sent y.fate && leads_up (is_answered_line (asked_line l stood)) (λ x. is_sent x.fate) (depth y - 1) ys)) ≡ true
    by true ih g = ih g
    by false ih g = or_left (is_answered_line (asked_line l stood) y) _
        (and_true (y.number == l.number) true (both_true (y.number == l.number) ((depth y + 1) == n) g).0 refl)

asked_back : (l : Line) (stood : ℕ) (r : Reference) (a : ℕ) (lines : List Line) → is_asked is_sent lines l.number r a ≡ true → hears_by
    (asks_by r a) (asked_line l stood) lines ≡ true
asked_back l stood r a [] h = absurd (false_true h)
asked_back l stood r a (y ∷ ys) h =
    elim (either_true _ (is_asked is_sent ys l.number r a) h) [
      | inl e ↦
          let b = both_true (is_sent y.fate) _ e in
          let c = both_true (asks_by r a y) _ b.1 in
          let o = both_true (nat_lt 0 (depth y)) _ c.1 in
          or_left _ _ (and_true (asks_by r a y) _ c.0
          (leads_from (is_answered_line (asked_line l stood)) (λ x. is_sent x.fate) y ys
          ∙ or_right (is_answered_line (asked_line l stood) y) _
          (and_true (is_sent y.fate) _ b.0 (leads_there l stood (depth y - 1) (depth y) ys o.1))))
      | inr e ↦ or_right _ _ (asked_back l stood r a ys e)
    ]

-- the name above what is still to be resolved is the entry's
above_is : (xs ys : Name) → take (length xs + 1 - 1) (take (length xs + 1 - 1) xs ++ drop (length xs + 1 - 1) ys) ≡ xs
above_is xs ys =
    let z : length xs + 1 - 1 ≡ length xs = omega arith in
    ap (λ (n : ℕ). take n (take n xs ++ drop n ys)) z
    ∙ ap (λ (x : Name). take (length xs) (x ++ drop (length xs) ys)) (take-length xs)
    ∙ take-append_seam xs (drop (length xs) ys)

short_of : (h : Holdings) (n : Key) (k : ℕ) (y : Progress) → y ≡ Next k → falls_short h n y ≡ true → holds_within h n k ≡ false
short_of h n k y e f = not_true (holds_within h n k) (ap (falls_short h n) (sym e) ∙ f)

module _ (p : Point) (s : Scene) (most : ℕ) (l : Line) (r : Reference) (i j : Journal) (on : OnLine p s most l r i j)
    (agent : IsAgent p l.receiver) (wide : is_wide r.kind ≡ true)
    (cleared : (a : ℕ) → In a r.agents → is_cleared s j.lines l.number r a ≡ true) where
  abbrev stood : ℕ
  stood = length i.accepted

  way : Ways (holdings_at p l.receiver) l.message r
  way = the_way (holdings_at p l.receiver) l.message r on.found

  shape : (x : Name) × (agents : List ℕ) × (r ≡ proceeding (length x + 1) x l.message.target NonSpecific agents)
  shape = way_wide (holdings_at p l.receiver) l.message r way wide

  next : r.progress ≡ Next (length shape.0 + 1)
  next = ap (λ (y : Reference). y.progress) shape.2

  above : above_next r ≡ shape.0
  above = ap above_next shape.2 ∙ above_is shape.0 l.message.target

  sound : IsSound p
  sound = record { described = on.setting.by_keys.described; consistent = on.setting.by_keys.consistent }

  no_further : (a : ℕ) → In a r.agents → holds_within (holdings_at p a) (key_of r.target) (length shape.0 + 1) ≡ false
  no_further a ia =
      short_of (holdings_at p a) (key_of r.target) (length shape.0 + 1) r.progress next
      (ap (λ (f : ℕ → Holdings). falls_short (f a) (key_of r.target) r.progress) (sym on.setting.holdings)
      ∙ (both_true (is_asked is_sent j.lines l.number r a) _ (cleared a ia)).1)

  heard_at : (n : ℕ) → n ≡ length shape.0 + 1 → (a : ℕ) → In a r.agents → hears_below (asked_line l stood) j.lines n a ≡ true
  heard_at n e a ia =
      let back = asked_back l (length i.accepted) r a j.lines (both_true (is_asked is_sent j.lines l.number r a) _ (cleared a ia)).0 in
      let kept = way_kept p l.receiver l.message r a sound way ia in
      let going : r.progress ≡ Next n = next ∙ ap Next (sym e) in
      subst (λ (z : Key). hears_by (λ y. (y.receiver == a)
      && (same_progress y.message.progress (Next n) && same_key (key_of y.message.target) z))
      (asked_line l (length i.accepted)) j.lines ≡ true) kept
      (subst (λ (g : Progress). hears_by
      (λ y. (y.receiver == a) && (same_progress y.message.progress g && same_key (key_of y.message.target) (key_of r.target)))
      (asked_line l (length i.accepted)) j.lines ≡ true) going back)

  same_target : same_name l.message.target l.message.target ≡ true
  same_target = (key_decides (key_of l.message.target) (key_of l.message.target)).1 refl

  known : (n : Name) → n ≡ above_next r → Ends p l.receiver l.message r.agents n
      → (hears_master p (asked_line l stood) j.lines (lowest (tree_at p).entries (key_of l.message.target))
      && (hears_nssr p s (asked_line l stood) j.lines (lowest (tree_at p).entries (key_of l.message.target)) && true)) ≡ true
  known n e (at_none first low) =
      subst (λ (o : Option Named). (hears_master p (asked_line l stood) j.lines o
      && (hears_nssr p s (asked_line l stood) j.lines o && true)) ≡ true) (sym low)
      (and_true _ true (own_back (λ y. first_level_at (knowledge_at p) y.receiver && same_name y.message.target l.message.target) l
      (length i.accepted) j.lines on.stands (and_true (first_level_at (knowledge_at p) l.receiver) _ first same_target)) refl)
  known n e (at_entry ent low master nssr) =
      subst (λ (o : Option Named). (hears_master p (asked_line l stood) j.lines o
      && (hears_nssr p s (asked_line l stood) j.lines o && true)) ≡ true) (sym low)
      (and_true _ _
      (ap (some_and (hears_of (asked_line l stood) j.lines l.message.target)) master
      ∙ own_back (λ y. (y.receiver == l.receiver) && same_name y.message.target l.message.target) l
      (length i.accepted) j.lines on.stands
      (and_true (l.receiver == l.receiver) _ ((nat_same_decides l.receiver l.receiver).1 refl) same_target))
      (and_true _ true (or_right (same_name ent.name l.message.target) _
      (subst (λ (agents : List ℕ). list_all (hears_below (asked_line l stood) j.lines (length ent.name + 1)) agents ≡ true)
      (sym (nssr s on.setting.holdings))
      (all_in (hears_below (asked_line l stood) j.lines (length ent.name + 1)) r.agents
      (heard_at (length ent.name + 1) (ap (λ (x : Name). length x + 1) (e ∙ above)))))) refl))

  pub nobody_here : IsRightFor p s most (hand_of l) l.number i j (Failed (NoSuchObject (above_next r)))
  nobody_here =
      let t = nobody_is_told p l.receiver l.message r
      (length shape.0 + 1) on.setting.whole agent on.looked on.found wide next no_further in (
        usual (ap not (able_here p s most l r i j on))
            (right.error (own_answered l (length i.accepted) j.lines on.stands) t.0
            (or_right (is_some (fault_of l.message.request.body)) _ (known (above_next r) refl t.1))
            (none_by_refusal p s most l r i j on (NoSuchObject (above_next r)) t.0)),
        tt,
      )

pub nobody_is_right : NobodyIsRight
nobody_is_right p s most k r i j on agent wide keeps so =
    let e = hand_is p s k i on.at_hand in
    subst (λ (h : Hand). IsRightFor p s most h on.at_hand.line.number i j (Failed (NoSuchObject (above_next r)))) e
    (nobody_here p s most on.at_hand.line r i j (line_on p s most k r i j on keeps)
    (subst (λ (h : Hand). IsAgent p h.receiver) (sym e) agent) wide
    (λ a ia. so.cleared on.at_hand.line (ap (λ (xs : List Line). first_of xs) keeps.settled_is ∙ on.at_hand.at_hand) a ia
    (λ n. elim n [ ])))
