-- A refresh step by step: where it ends nothing is left changed, and where it goes on what is sent can be taken.
use Rattle.std.proofs.Common.{◌≡◌, ℕ, zero, suc, ◌+◌, ◌<◌, ◌==◌, inl, inr, Bool, true, false, not, cond, if◌then◌else◌, nat_lt, List, [], ◌∷◌, ◌++◌, length, slice_get, refl, sym, ap, subst, ◌∙◌, arith, Option, Some, None}
use Rattle.std.specs.List.{find, list_all, position, position_or_len}
use Rattle.x5_model.proofs.Decide.{less_decides}
use Rattle.x5_model.proofs.Lists.{and_true, both_true, true_or_false}
use Rattle.x5_model_refreshed.proofs.Listing.{less_false, not_less}
use Rattle.std.specs.Option.{option_map}
use Rattle.x5_model.specs.Values.{key_of}
use Rattle.x5_model_tree.specs.World.{Agreement}
use Rattle.x5_model_run.specs.Holdings.{Holdings}
use Rattle.x5_model_run.specs.History.{Point, as_of}
use Rattle.x5_model_run.specs.Network.{Fate, Lost, NoReply, Sent as IsSent, is_lost, is_unheard}
use Rattle.x5_model_run.specs.Refresh.{RefreshBlock, RefreshOutcome, ShadowLine, Done, Unheard, Problem, Missed, NotConsistent, ended}
use Rattle.x5_model_refreshed.specs.Bringing.{BringsNothing}
use Rattle.x5_ops.specs.declared.journal.Line.{Line}
use Rattle.x5_ops.specs.RefreshViews.{shadow_view, shadows_view}
use Rattle.x5_refresh.specs.Course.{answered, finished, stopped, unless_ended, unsent}
use Rattle.x5_refresh.specs.Sent.{CanAccept}
use Rattle.x5_world.specs.Answered.{line_names_agents}
use Rattle.x5_world.specs.Refreshes.{IsSound}
use Rattle.x5_world.specs.Refreshing.{AreMessages, CanBring, IsBounded, IsKnown, IsLeft, IsSupplied, IsWay, first_fate, last_of, problem_in}
use Rattle.x5_world.specs.State.{Net, StandsAt}
use Rattle.x5_world.specs.declared.refreshing.Supplied.{Supplied}
use Rattle.x5_world.specs.declared.refreshing.Supplied.TheVariants.{Sent, Refused}
use Rattle.x5_world.specs.declared.refreshing.Way.{Way}
use Rattle.x5_world.proofs.Acceptable.{can_accept, goes_on_from, no_problem}
use Rattle.x5_world.proofs.Courses.{held_so, some_is}
use Rattle.x5_world.proofs.Concluding.{agents_there, by_number, holds, led, logs, mine, moment, own_so}

-- ---- where it ends

pub left_as_it_was : (old new : Net) (g : Agreement) (place : ℕ) (sent : Supplied) (o : RefreshOutcome) → BringsNothing o
    → new ≡ old → IsLeft old g place sent o new
left_as_it_was old new g place sent (Done f) b e = absurd b
left_as_it_was old new g place sent Unheard b e = e
left_as_it_was old new g place sent (Problem n) b e = e
left_as_it_was old new g place sent (Missed own acked) b e = e
left_as_it_was old new g place sent NotConsistent b e = e

brings : (o : RefreshOutcome) (x : Option RefreshOutcome) (y : RefreshOutcome) → Some y ≡ Some o → BringsNothing y → BringsNothing o
brings o x y e b = subst BringsNothing (some_is e) b

problems : (problem : Option ℕ) (o : RefreshOutcome) → option_map Problem problem ≡ Some o → BringsNothing o
problems None o e = absurd (never e)
  where
    never : None ≡ Some o → ⊥
    never z = cc
problems (Some k) o e = brings o None (Problem k) e tt

pub unsent_brings : (push : Bool) (problem : Option ℕ) (o : RefreshOutcome) → unsent push problem ≡ Some o → BringsNothing o
unsent_brings true problem o e = problems problem o e
unsent_brings false problem o e = absurd (never e)
  where
    never : None ≡ Some o → ⊥
    never z = cc

pub stopped_brings : (push total : Bool) (problem own acked : Option ℕ) (first : Fate) (o : RefreshOutcome)
    → stopped push total problem own acked first ≡ Some o → BringsNothing o
stopped_brings push total problem own acked first o e = by (is_unheard first) push e
  where
    misses : (b : Bool) → (if b then Some (Missed own acked) else None) ≡ Some o → BringsNothing o
    misses true q = brings o None (Missed own acked) q tt
    misses false q = absurd (never q)
      where
        never : None ≡ Some o → ⊥
        never z = cc

    by : (b push : Bool) → (if b then Some Unheard else answered push total problem own acked) ≡ Some o → BringsNothing o
    by true push q = brings o None Unheard q tt
    by false true q = misses _ q
    by false false q = problems problem o q

pub ends : (x : Option RefreshOutcome) (o : RefreshOutcome) (lines : List ShadowLine) (rest : RefreshBlock) → x ≡ Some o
    → unless_ended x lines rest ≡ ended lines o
ends x o lines rest e = ap (λ (y : Option RefreshOutcome). unless_ended y lines rest) e

pub follows : (x : Option RefreshOutcome) (lines : List ShadowLine) (rest : RefreshBlock) → x ≡ None
    → unless_ended x lines rest ≡ rest
follows x lines rest e = ap (λ (y : Option RefreshOutcome). unless_ended y lines rest) e

-- ---- its last message

pub one_more : (names : List (List ℕ)) (lines : List Line) (line : Line)
    → shadows_view names (lines ++ line ∷ []) ≡ shadows_view names lines ++ shadow_view names line
one_more names [] line = alone (shadow_view names line)
  where
    alone : (xs : List ShadowLine) → xs ++ [] ≡ xs
    alone [] = refl
    alone (x ∷ xs) = ap (λ (ys : List ShadowLine). x ∷ ys) (alone xs)
one_more names (l ∷ lines) line =
    ap (λ (ys : List ShadowLine). shadow_view names l ++ ys) (one_more names lines line)
    ∙ sym (joined (shadow_view names l) (shadows_view names lines) (shadow_view names line))
  where
    joined : (xs ys zs : List ShadowLine) → (xs ++ ys) ++ zs ≡ xs ++ (ys ++ zs)
    joined [] ys zs = refl
    joined (x ∷ xs) ys zs = ap (λ (us : List ShadowLine). x ∷ us) (joined xs ys zs)

pub no_messages : (names : List (List ℕ)) → AreMessages names 2 []
no_messages names = record { few = omega arith; all = refl; named = refl }

pub one_message : (names : List (List ℕ)) (line : Line) (x : ShadowLine) → shadow_view names line ≡ x ∷ []
    → line_names_agents names line ≡ true → AreMessages names 1 (line ∷ [])
one_message names line x e named = record {
  few = omega arith;
  all = ap (λ (ys : List ShadowLine). length (ys ++ [])) e;
  named = and_true (line_names_agents names line) true named refl;
}

pub no_more : (names : List (List ℕ)) (lines : List Line) → AreMessages names 1 lines → AreMessages names 2 lines
no_more names lines m = record { few = (let f = m.few in omega (arith, f)); all = m.all; named = m.named }

joined_length : {A : Type 0} (xs : List A) (y : A) → length (xs ++ y ∷ []) ≡ suc (length xs)
joined_length [] y = refl
joined_length (x ∷ xs) y = ap suc (joined_length xs y)

all_joined : (names : List (List ℕ)) (lines : List Line) (line : Line) → list_all (line_names_agents names) lines ≡ true
    → line_names_agents names line ≡ true → list_all (line_names_agents names) (lines ++ line ∷ []) ≡ true
all_joined names [] line e f = and_true (line_names_agents names line) true f refl
all_joined names (l ∷ lines) line e f =
    let w = both_true (line_names_agents names l) (list_all (line_names_agents names) lines) e in
    and_true (line_names_agents names l) (list_all (line_names_agents names) (lines ++ line ∷ [])) w.0 (all_joined names lines line w.1 f)

pub two_messages : (names : List (List ℕ)) (lines : List Line) (line : Line) (x : ShadowLine) → AreMessages names 1 lines
    → shadow_view names line ≡ x ∷ [] → line_names_agents names line ≡ true → AreMessages names 2 (lines ++ line ∷ [])
two_messages names lines line x m e named = record {
  few = (let f = m.few in let k = joined_length lines line in omega (arith, f, k));
  all = ap length (one_more names lines line ∙ ap (λ (ys : List ShadowLine). shadows_view names lines ++ ys) e)
      ∙ joined_length (shadows_view names lines) x ∙ ap suc m.all ∙ sym (joined_length lines line);
  named = all_joined names lines line m.named named;
}

-- how many were taken matters where it isn't lost
pub finished_same : (total : Bool) (number stamp c d : ℕ) (last : Fate) → (is_lost last ≡ false → c ≡ d)
    → finished total number stamp c last ≡ finished total number stamp d last
finished_same total number stamp c d Lost e = refl
finished_same total number stamp c d NoReply e = ap (λ (k : ℕ). finished total number stamp k NoReply) (e refl)
finished_same total number stamp c d IsSent e = ap (λ (k : ℕ). finished total number stamp k IsSent) (e refl)

-- ---- what is sent can be taken

pub way_agents : (n : Net) (by : Way) → IsSound n → IsWay n by
    → (by.agreement.supplier < length n.names) × (by.agreement.consumer < length n.names)
way_agents n by sound way = agents_there n sound.point by.place by.agreement sound.stands way.there

pub can_bring : (n : Net) (by : Way) (sent : Supplied) → IsSound n → IsWay n by
    → IsSupplied n by.agreement by.total (last_of by) sent → IsKnown (length n.names) sent
    → IsBounded sent → unsent by.push (problem_in sent) ≡ None
    → stopped by.push by.total (problem_in sent) by.own by.acked (first_fate n by.agreement by.push) ≡ None
    → CanBring n by.agreement sent
can_bring n by (Refused k) sound way supplied known bounded e f =
    no_problem by.push by.total k by.own by.acked (first_fate n by.agreement by.push) e f
can_bring n by (Sent stamp brought) sound way supplied known bounded e f =
    let p : Point = sound.point in
    let s : StandsAt n p = sound.stands in
    let c = sound.consistent in
    let sent : Supplied = Sent stamp brought in
    let peer : by.total ≡ false → last_of by ≡ as_of p by.agreement.number =
    (λ t. goes_on_from by.push by.own by.acked (first_fate n by.agreement by.push)
    (ap (λ (b : Bool). stopped by.push b None by.own by.acked (first_fate n by.agreement by.push)) (sym t) ∙ f)
    ∙ own_so n p by s c way) in (
      subst (λ (h : Holdings). CanAccept h (key_of by.agreement.context) brought) (sym (held_so n p by.agreement.consumer s c))
          (can_accept p by.agreement supplied.state (led n p by s c way) (holds n p by s c way sent supplied)
          (logs n p by s c way sent supplied) (moment n p by s c way sent supplied) (mine n p by s c way) (by_number n p by s c way)
          by.total (last_of by) stamp brought peer supplied.sent_is),
      known,
      bounded.0,
      bounded.1,
    )

-- ---- an agreement by its number

abbrev of_number : ℕ → Agreement → Bool
of_number number g = g.number == number

abbrev places : ℕ → List Agreement → ℕ
places number gs = position_or_len (of_number number) gs

none_some : {A : Type 0} {x : A} → None ≡ Some x → ⊥
none_some z = cc

some_none : {A : Type 0} {x : A} → Some x ≡ None → ⊥
some_none z = cc

one_less : (a b : ℕ) → nat_lt (suc a) (suc b) ≡ nat_lt a b
one_less a b = elim (true_or_false (nat_lt a b)) [
  | inl t ↦ (less_decides (suc a) (suc b)).1 (let l = (less_decides a b).0 t in omega (arith, l)) ∙ sym t
  | inr f ↦ less_false (suc a) (suc b) (let l = not_less a b f in omega (arith, l)) ∙ sym f
]

counted : (k n : ℕ) → cond (nat_lt (suc k) (suc n)) (Some (suc k)) None ≡ cond (nat_lt (1 + k) (suc n)) (Some (1 + k)) None
counted k n = (let e : suc k ≡ 1 + k = omega arith in ap (λ (m : ℕ). cond (nat_lt m (suc n)) (Some m) None) e)

none_less : (n : ℕ) → nat_lt zero (suc n) ≡ true
none_less n = (less_decides zero (suc n)).1 (omega arith)

-- the first of a number is at its place
pub place_finds : (gs : List Agreement) (number i : ℕ) → position (of_number number) gs ≡ Some i
    → (g : Agreement) × (find (of_number number) gs ≡ Some g) × (slice_get gs i ≡ Some g)
place_finds [] number i e = absurd (none_some e)
place_finds (y ∷ ys) number i e =
    by (of_number number y) (nat_lt (position_or_len (of_number number) ys) (length ys)) refl (place_finds ys number) e
  where
    by : (b c : Bool) → nat_lt (places number ys) (length ys) ≡ c
        → ((j : ℕ) → position (of_number number) ys ≡ Some j
        → (g : Agreement) × (find (of_number number) ys ≡ Some g) × (slice_get ys j ≡ Some g))
        → cond (nat_lt (cond (not b) (1 + places number ys) 0) (suc (length ys))) (Some (cond (not b) (1 + places number ys) 0)) None ≡ Some i
        → (g : Agreement) × (cond b (Some y) (find (of_number number) ys) ≡ Some g) × (slice_get (y ∷ ys) i ≡ Some g)
    by true c q more z =
        let at : zero ≡ i = some_is (sym (ap (λ (d : Bool). cond d (Some zero) None) (none_less (length ys))) ∙ z) in
        (y, refl, ap (slice_get (y ∷ ys)) (sym at))
    by false true q more z =
        let w = more (places number ys) (ap (λ (d : Bool). cond d (Some (places number ys)) None) q) in
        let at : suc (places number ys) ≡ i = some_is (sym (ap (λ (d : Bool). cond d (Some (suc (places number ys))) None) (one_less (places number ys) (length ys) ∙ q)) ∙ counted (places number ys) (length ys) ∙ z) in
        (w.0, w.1, ap (slice_get (y ∷ ys)) (sym at) ∙ w.2)
    by false false q more z = absurd (none_some (sym (ap (λ (d : Bool). cond d (Some (suc (places number ys))) None) (one_less (places number ys) (length ys) ∙ q)) ∙ counted (places number ys) (length ys) ∙ z))

pub none_finds : (gs : List Agreement) (number : ℕ) → position (of_number number) gs ≡ None → find (of_number number) gs ≡ None
none_finds [] number e = refl
none_finds (y ∷ ys) number e =
    by (of_number number y) (nat_lt (position_or_len (of_number number) ys) (length ys)) refl (none_finds ys number) e
  where
    by : (b c : Bool) → nat_lt (places number ys) (length ys) ≡ c
        → (position (of_number number) ys ≡ None → find (of_number number) ys ≡ None)
        → cond (nat_lt (cond (not b) (1 + places number ys) 0) (suc (length ys))) (Some (cond (not b) (1 + places number ys) 0)) None ≡ None
        → cond b (Some y) (find (of_number number) ys) ≡ None
    by true c q more z =
        absurd (some_none (sym (ap (λ (d : Bool). cond d (Some zero) None) (none_less (length ys))) ∙ z))
    by false true q more z = absurd (some_none (sym (ap (λ (d : Bool). cond d (Some (suc (places number ys))) None) (one_less (places number ys) (length ys) ∙ q)) ∙ counted (places number ys) (length ys) ∙ z))
    by false false q more z = more (ap (λ (d : Bool). cond d (Some (places number ys)) None) q)
