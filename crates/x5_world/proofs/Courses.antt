-- The block of a refresh, as it is made of what its supplier sends, is that of the run's line.
use Rattle.std.proofs.Common.{◌≡◌, ℕ, zero, suc, ◌+◌, ◌==◌, Bool, true, false, if◌then◌else◌, List, [], ◌∷◌, map, slice_get, refl, sym, ap, ◌∙◌, Option, Some}
use Rattle.std.specs.List.{find}
use Rattle.std.specs.Option.{is_some, option_map}
use Rattle.x5_model.specs.Words.{in_option}
use Rattle.x5_model.specs.Values.{key_of}
use Rattle.x5_model.proofs.Decide.{nat_same_decides}
use Rattle.x5_model.proofs.Lists.{of_find}
use Rattle.x5_model_tree.specs.World.{Agreement, World}
use Rattle.x5_model_tree.specs.Consistent.{IsConsistent, first_breach}
use Rattle.x5_model_run.specs.Holdings.{Holdings}
use Rattle.x5_model_run.specs.History.{Point, acked, as_of, holdings_at, knowledge_at}
use Rattle.x5_model_run.specs.Network.{Fate, fate_of, is_unheard}
use Rattle.x5_model_run.specs.Refresh.{RefreshBlock, ShadowLine, Unheard, Problem, UpdateShadow, ended, refresh_block, peer_moment, shadow_line}
use Rattle.x5_model_settled.proofs.Held.{held_is_holdings}
use Rattle.x5_model_settled.proofs.After.{knows_as_described}
use Rattle.x5_model_refreshed.specs.Replaying.{IsLed}
use Rattle.x5_consume.specs.Taken.{stamp_at}
use Rattle.x5_refresh.specs.Course.{Facts, course, facts_at, unsent, stopped, finished, unless_ended, line_of, opening}
use Rattle.x5_refresh.specs.Joined.{IsByFacts}
use Rattle.x5_refresh.proofs.Stages.{blocks_are_courses}
use Rattle.x5_world.specs.State.{Net, StandsAt, holdings_in}
use Rattle.x5_world.specs.Refreshing.{IsWay, sent_view, problem_in, last_block, first_fate, last_fate, last_of, whole_block}
use Rattle.x5_world.specs.declared.refreshing.Supplied.{Supplied}
use Rattle.x5_world.specs.declared.refreshing.Supplied.TheVariants.{Sent, Refused}
use Rattle.x5_world.specs.declared.refreshing.Way.{Way}

-- ---- what is sent is what the facts have

abbrev block_with : Bool → Bool → Agreement → Supplied → Option ℕ → Option ℕ → Fate → Fate → RefreshBlock
block_with push total g sent own acked first last =
    unless_ended (unsent push (problem_in sent)) []
    (unless_ended (stopped push total (problem_in sent) own acked first) (line_of g (opening push) first ∷ [])
    (last_block g total sent (line_of g (opening push) first ∷ []) last))

-- where there is a problem nothing follows
told_so : (b : Bool) (k : ℕ) (lines : List ShadowLine) (x y : RefreshBlock)
    → unless_ended (if b then Some Unheard else option_map Problem (Some k)) lines x
    ≡ unless_ended (if b then Some Unheard else option_map Problem (Some k)) lines y
told_so true k lines x y = refl
told_so false k lines x y = refl

refused : (push total : Bool) (k : ℕ) (own acked : Option ℕ) (first : Fate) (lines : List ShadowLine) (x y : RefreshBlock)
    → unless_ended (unsent push (Some k)) [] (unless_ended (stopped push total (Some k) own acked first) lines x)
    ≡ unless_ended (unsent push (Some k)) [] (unless_ended (stopped push total (Some k) own acked first) lines y)
refused true total k own acked first lines x y = refl
refused false total k own acked first lines x y = told_so (is_unheard first) k lines x y

courses_agree : (push total : Bool) (g : Agreement) (f : Facts) (sent : Supplied) → IsByFacts total f (sent_view sent)
    → course push total g f ≡ block_with push total g sent f.own f.acked f.first f.last
courses_agree push total g f (Sent stamp brought) e =
    λ i. unless_ended (unsent push (e.0 i)) []
    (unless_ended (stopped push total (e.0 i) f.own f.acked f.first) (line_of g (opening push) f.first ∷ [])
    (ended (line_of g (opening push) f.first ∷ line_of g UpdateShadow f.last ∷ [])
    (finished total g.number (in_option 0 (λ m. m) (e.1 i)) (sym e.2 i) f.last)))
courses_agree push total g f (Refused k) e =
    let lines : List ShadowLine = line_of g (opening push) f.first ∷ [] in
    let more : RefreshBlock = ended (line_of g (opening push) f.first ∷ line_of g UpdateShadow f.last ∷ [])
    (finished total g.number (in_option 0 (λ m. m) f.supplied) f.count f.last) in
    ap (λ (o : Option ℕ). unless_ended (unsent push o) [] (unless_ended (stopped push total o f.own f.acked f.first) lines more)) e
    ∙ refused push total k f.own f.acked f.first lines more (last_block g total (Refused k) lines f.last)

-- ---- what is looked at

pub map_at : {A B : Type 0} (f : A → B) (xs : List A) (i : ℕ) (x : A) → slice_get xs i ≡ Some x
    → slice_get (map f xs) i ≡ Some (f x)
map_at f [] i x e = cc
map_at {A} f (y ∷ ys) zero x e = let q : y ≡ x = cc in ap (λ (z : A). Some (f z)) q
map_at f (y ∷ ys) (suc i) x e = map_at f ys i x e

pub some_is : {A : Type 0} {x y : A} → Some x ≡ Some y → x ≡ y
some_is {A} {x} e = ap (in_option x (λ (z : A). z)) e

first_is : (n : Net) (p : Point) (g : Agreement) (push : Bool) → StandsAt n p
    → first_fate n g push ≡ (shadow_line p g 1 (opening push)).fate
first_is n p g true s = λ i. fate_of (s.network i) (s.sent i + 1) (Some g.supplier) g.consumer
first_is n p g false s = λ i. fate_of (s.network i) (s.sent i + 1) (Some g.consumer) g.supplier

last_is : (n : Net) (p : Point) (g : Agreement) → StandsAt n p → last_fate n g ≡ (shadow_line p g 2 UpdateShadow).fate
last_is n p g s = λ i. fate_of (s.network i) (s.sent i + 2) (Some g.supplier) g.consumer

pub led_at : (n : Net) (p : Point) → StandsAt n p → IsConsistent p.described → IsLed p
led_at n p s consistent = record { described = s.described; consistent = consistent; happened = s.happened consistent }

pub held_so : (n : Net) (p : Point) (a : ℕ) → StandsAt n p → IsConsistent p.described → holdings_in n a ≡ holdings_at p a
held_so n p a s consistent = s.holds a ∙ held_is_holdings p a consistent

pub acked_is : (n : Net) (p : Point) (by : Way) → StandsAt n p → IsWay n by → by.acked ≡ acked p by.agreement.number
acked_is n p by s way =
    let there : slice_get p.described.agreements by.place ≡ Some by.agreement =
    ap (λ (gs : List Agreement). slice_get gs by.place) (sym s.agreements) ∙ way.there in
    some_is (sym way.acked ∙ ap (λ (xs : List (Option ℕ)). slice_get xs by.place) s.acked
    ∙ map_at (λ (g : Agreement). acked p g.number) p.described.agreements by.place by.agreement there)

-- where its consumer has the agreement's copy
pub own_is : (n : Net) (p : Point) (by : Way) → StandsAt n p → IsConsistent p.described → IsWay n by
    → stamp_at (holdings_at p by.agreement.consumer) (key_of by.agreement.context) ≡ as_of p by.agreement.number
    → by.own ≡ as_of p by.agreement.number
own_is n p by s consistent way e =
    way.own ∙ ap (λ (h : Holdings). stamp_at h (key_of by.agreement.context)) (held_so n p by.agreement.consumer s consistent) ∙ e

peer_is : (p : Point) (push : Bool) (g : Agreement) (own acknowledged : Option ℕ) → own ≡ as_of p g.number
    → acknowledged ≡ acked p g.number → (if push then acknowledged else own) ≡ peer_moment p push g
peer_is p push g own acknowledged e f = λ i. if push then f i else e i

module _ (n : Net) (p : Point) (by : Way) (s : StandsAt n p) (consistent : IsConsistent p.described) (way : IsWay n by)
    (own : by.own ≡ as_of p by.agreement.number) where
  pub last_so : last_of by ≡ peer_moment p by.push by.agreement
  last_so = peer_is p by.push by.agreement by.own by.acked own (acked_is n p by s way)

  pub block_is : (sent : Supplied) → IsByFacts by.total (facts_at p by.push by.total by.agreement) (sent_view sent)
      → whole_block n by sent ≡ course by.push by.total by.agreement (facts_at p by.push by.total by.agreement)
  block_is sent e =
      (λ i. block_with by.push by.total by.agreement sent (own i) (acked_is n p by s way i)
      (first_is n p by.agreement by.push s i) (last_is n p by.agreement s i))
      ∙ sym (courses_agree by.push by.total by.agreement (facts_at p by.push by.total by.agreement) sent e)

pub known_so : (n : Net) (p : Point) → StandsAt n p → (knowledge_at p).agreements ≡ n.agreements
known_so n p s =
    ap (λ (w : World). w.agreements) (knows_as_described p.described p.past s.unmoved) ∙ sym s.agreements

pub number_is : (gs : List Agreement) (number : ℕ) (g : Agreement) → find (λ (a : Agreement). a.number == number) gs ≡ Some g
    → g.number ≡ number
number_is gs number g e = (nat_same_decides g.number number).0 (of_find (λ (a : Agreement). a.number == number) g gs e).1

-- over consistent knowledge the run's block is the course
pub run_block : (n : Net) (p : Point) (number : ℕ) (push total : Bool) (g : Agreement) → StandsAt n p
    → is_some (first_breach p.described) ≡ false → find (λ (a : Agreement). a.number == number) n.agreements ≡ Some g
    → refresh_block p number push total ≡ course push total g (facts_at p push total g)
run_block n p number push total g s none e =
    blocks_are_courses p number push total g none
    (ap (λ (gs : List Agreement). find (λ (a : Agreement). a.number == number) gs) (known_so n p s) ∙ e)
