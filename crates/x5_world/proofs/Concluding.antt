-- What a refresh by an agreement's number comes to is what the run says: its block, and the network of the next line.
use Rattle.std.proofs.Common.{◌≡◌, ℕ, zero, suc, ◌+◌, ◌<◌, ◌==◌, ◌&&◌, Bool, false, nat_lt, List, [], ◌∷◌, length, slice_get, refl, sym, ap, subst, ◌∙◌, Option, Some, None, Ok}
use Rattle.std.specs.List.{find}
use Rattle.std.specs.Option.{is_some}
use Rattle.std.proofs.lemmas.List.{length-map}
use Rattle.x5_model.specs.Words.{in_option}
use Rattle.x5_model.specs.Members.{In, here, there}
use Rattle.x5_model.specs.Values.{key_of}
use Rattle.x5_model.proofs.Decide.{less_decides}
use Rattle.x5_model.proofs.Lists.{both_true, of_all}
use Rattle.x5_model_tree.specs.World.{Agreement, names_of_agents}
use Rattle.x5_model_tree.specs.Consistent.{Inconsistency, IsConsistent, first_breach}
use Rattle.x5_model_tree.specs.Described.{is_agreement, is_entry_name, is_number}
use Rattle.x5_model_tree.proofs.FirstBreach.{consistent_has_none}
use Rattle.x5_model_run.specs.Holdings.{Copy}
use Rattle.x5_model_run.specs.History.{Point, Refreshed, as_of, holdings_at, knowledge_at, moment_of}
use Rattle.x5_model_run.specs.Refresh.{RefreshBlock, RefreshOutcome, Done, Unheard, Problem, Missed, NotConsistent, refresh_block, ended}
use Rattle.x5_model_run.specs.Run.{Updates, Refreshing}
use Rattle.x5_model_settled.specs.Held.{BySteps}
use Rattle.x5_model_settled.proofs.Stamped.{stamped_after}
use Rattle.x5_model_verdicts.specs.Committing.{IsStamped}
use Rattle.x5_model_refreshed.specs.Bringing.{BringsNothing, after_block}
use Rattle.x5_model_refreshed.specs.Replaying.{IsLed}
use Rattle.x5_model_refreshed.proofs.Blocks.{block_brings, others_do_nothing}
use Rattle.x5_model_refreshed.proofs.Placing.{consumers_have_copies}
use Rattle.x5_holdings.specs.State.{holdings_view}
use Rattle.x5_ops.specs.RefreshViews.{refreshed_view, shadows_view}
use Rattle.x5_refresh.specs.Course.{facts_at, line_of, opening}
use Rattle.x5_refresh.specs.Joined.{IsByFacts, IsSupplier}
use Rattle.x5_refresh.specs.Sent.{supply_of}
use Rattle.x5_refresh.proofs.Sources.{supplies_are_facts}
use Rattle.x5_world.specs.LogViews.{logs_view}
use Rattle.x5_world.specs.Logs.{logs_at}
use Rattle.x5_world.specs.Refreshes.{IsRefreshedAt}
use Rattle.x5_world.specs.Refreshing.{IsBroughtAt, IsDoneBy, IsInvalid, IsLeft, IsSupplied, IsWay, block_of, first_fate, last_block, last_fate, last_of, sent_view, whole_block}
use Rattle.x5_world.specs.State.{Net, StandsAt}
use Rattle.x5_world.specs.declared.refreshing.Supplied.{Supplied}
use Rattle.x5_world.specs.declared.refreshing.Supplied.TheVariants.{Sent}
use Rattle.x5_world.specs.declared.refreshing.Way.{Way}
use Rattle.x5_world.specs.declared.refreshment.Refreshment.{Refreshment}
use Rattle.x5_world.proofs.Acceptable.{found_once, taken_from}
use Rattle.x5_world.proofs.Courses.{block_is, held_so, known_so, last_so, led_at, number_is, own_is, run_block, some_is}
use Rattle.x5_world.proofs.Onward.{after_nothing, after_taken}
use Rattle.x5_world.proofs.Suppliers.{is_supplier}

-- ---- an agreement's agents

got_in : {A : Type 0} (xs : List A) (i : ℕ) (x : A) → slice_get xs i ≡ Some x → In x xs
got_in [] i x e = cc
got_in {A} (y ∷ ys) zero x e = subst (λ (z : A). In z (y ∷ ys)) (some_is e) here
got_in (y ∷ ys) (suc i) x e = there (got_in ys i x e)

pub agents_there : (n : Net) (p : Point) (place : ℕ) (g : Agreement) → StandsAt n p → slice_get n.agreements place ≡ Some g
    → (g.supplier < length n.names) × (g.consumer < length n.names)
agents_there n p place g s e =
    let there : In g p.described.agreements =
    got_in p.described.agreements place g (ap (λ (gs : List Agreement). slice_get gs place) (sym s.agreements) ∙ e) in
    let fit = (both_true (is_number g.number) _ (of_all (is_agreement p.described) g p.described.agreements s.described.agreements there)).1 in
    let both = both_true (is_entry_name g.context)
    (nat_lt g.supplier (length p.described.agents) && nat_lt g.consumer (length p.described.agents)) fit in
    let less = both_true (nat_lt g.supplier (length p.described.agents)) (nat_lt g.consumer (length p.described.agents)) both.1 in
    let many : length p.described.agents ≡ length n.names =
    sym (length-map p.described.agents (λ a. a.name)) ∙ ap length (sym s.names) in (
      subst (λ (k : ℕ). g.supplier < k) many ((less_decides g.supplier (length p.described.agents)).0 less.0),
      subst (λ (k : ℕ). g.consumer < k) many ((less_decides g.consumer (length p.described.agents)).0 less.1),
    )

-- ---- what there is to look at

none_breached : (p : Point) → IsConsistent p.described → is_some (first_breach p.described) ≡ false
none_breached p c = ap (λ (o : Option Inconsistency). is_some o) (consistent_has_none p.described c)

module _ (old : Net) (p : Point) (by : Way) (s : StandsAt old p) (consistent : IsConsistent p.described) (way : IsWay old by) where
  abbrev g : Agreement
  g = by.agreement

  pub led : IsLed p
  led = led_at old p s consistent

  pub mine : In g (knowledge_at p).agreements
  mine = subst (λ (gs : List Agreement). In g gs) (sym (known_so old p s)) (got_in old.agreements by.place g way.there)

  pub there_described : slice_get p.described.agreements by.place ≡ Some g
  there_described = ap (λ (gs : List Agreement). slice_get gs by.place) (sym s.agreements) ∙ way.there

  pub by_number : find (λ (a : Agreement). a.number == g.number) (knowledge_at p).agreements ≡ Some g
  by_number =
      ap (λ (gs : List Agreement). find (λ (a : Agreement). a.number == g.number) gs) (known_so old p s ∙ s.agreements)
      ∙ found_once p.described.agreements by.place g s.described.numbers_apart there_described

  pub own_so : by.own ≡ as_of p g.number
  own_so =
      own_is old p by s consistent way
      (ap (λ (o : Option Copy). in_option None (λ (c : Copy). c.stamp) o) (consumers_have_copies p g led mine))

  module _ (sent : Supplied) (supplied : IsSupplied old g by.total (last_of by) sent) where
    pub holds : holdings_view supplied.state ≡ holdings_at p g.supplier
    holds = supplied.holds ∙ held_so old p g.supplier s consistent

    pub logs : logs_view supplied.state ≡ logs_at p g.supplier
    logs = supplied.logs ∙ s.logs consistent g.supplier

    pub moment : supplied.state.moment ≡ moment_of p
    moment = supplied.moment ∙ ap (λ (k : ℕ). k + 1) s.line

    supplier : IsSupplier p g supplied.state
    supplier = is_supplier p g supplied.state led holds logs moment

    facts : IsByFacts by.total (facts_at p by.push by.total g) (sent_view sent)
    facts =
        subst (IsByFacts by.total (facts_at p by.push by.total g))
        (ap (supply_of supplied.state (key_of g.context) by.total) (sym (last_so old p by s consistent way own_so)) ∙ supplied.sent_is)
        (supplies_are_facts p by.push by.total g supplied.state supplier)

    pub block_so : (number : ℕ) → find (λ (a : Agreement). a.number == number) old.agreements ≡ Some g
        → whole_block old by sent ≡ refresh_block p number by.push by.total
    block_so number found =
        block_is old p by s consistent way own_so sent facts
        ∙ sym (run_block old p number by.push by.total g s (none_breached p consistent) found)

-- ---- the next line

module _ (old mid new : Net) (p : Point) (number : ℕ) (r : Refreshment) (by : Way) (sent : Supplied) (s : StandsAt old p)
    (consistent : IsConsistent p.described) (way : IsWay old by)
    (supplied : IsSupplied old by.agreement by.total (last_of by) sent)
    (found : find (λ (a : Agreement). a.number == number) old.agreements ≡ Some by.agreement)
    (made : block_of old.names by.agreement r ≡ whole_block old by sent)
    (new_is : new ≡ record mid { sent = mid.sent + length r.lines; line = mid.line + 1 }) where
  abbrev k : ℕ
  k = length (refresh_block p number by.push by.total).lines

  block : block_of old.names by.agreement r ≡ refresh_block p number by.push by.total
  block = made ∙ block_so old p by s consistent way sent supplied number found

  lines : shadows_view old.names r.lines ≡ (refresh_block p number by.push by.total).lines
  lines = ap (λ (b : RefreshBlock). b.lines) block

  outcome : refreshed_view r.heard by.agreement.number r.became ≡ (refresh_block p number by.push by.total).outcome
  outcome = ap (λ (b : RefreshBlock). b.outcome) block

  -- all its lines are messages of a refresh
  module _ (all : length (shadows_view old.names r.lines) ≡ length r.lines) where
    many : length r.lines ≡ k
    many = sym all ∙ ap length lines

    nothing : mid ≡ old → BringsNothing (refresh_block p number by.push by.total).outcome
        → StandsAt new (after_block p number by.push by.total)
    nothing same b =
        subst (StandsAt new) (sym (others_do_nothing p number by.push by.total b))
        (after_nothing old new p k s
        (new_is ∙ (λ i. record (same i) { sent = (same i).sent + many i; line = (same i).line + 1 })))

    rises : IsStamped (after_block p number by.push by.total)
    rises =
        stamped_after BySteps p.described p.past (Updates number by.push by.total)
        (Refreshing (refresh_block p number by.push by.total)) refl (s.stamped consistent)

    brought : (f : Refreshed) → (refresh_block p number by.push by.total).outcome ≡ Done f
        → IsBroughtAt old by.agreement by.place sent f.acknowledged mid → StandsAt new (after_block p number by.push by.total)
    brought f e b =
        let x = block_brings p number by.push by.total f e in
        let told : supply_of supplied.state (key_of by.agreement.context) by.total (last_of by) ≡ Ok (b.stamp, b.brought) =
        supplied.sent_is ∙ ap sent_view b.sent_is in
        let same : x.brought.agreement ≡ by.agreement =
        some_is (sym x.found ∙ ap (λ (gs : List Agreement). find (λ (a : Agreement). a.number == number) gs) (known_so old p s) ∙ found) in
        let peer : by.total ≡ false → last_of by ≡ as_of p by.agreement.number =
        (λ t. taken_from by.push by.total by.own by.acked (first_fate old by.agreement by.push)
        (line_of by.agreement (opening by.push) (first_fate old by.agreement by.push) ∷ [])
        (last_block by.agreement by.total (Sent b.stamp b.brought)
        (line_of by.agreement (opening by.push) (first_fate old by.agreement by.push) ∷ []) (last_fate old by.agreement)) f
        (ap (λ (x : Supplied). (whole_block old by x).outcome) (sym b.sent_is) ∙ sym (ap (λ (x : RefreshBlock). x.outcome) made) ∙ outcome ∙ e) t
        ∙ own_so old p by s consistent way) in
        let numbered : by.agreement.number ≡ f.agreement = ap (λ (a : Agreement). a.number) (sym same) ∙ x.numbered in
        subst (StandsAt new) (sym x.next)
        (after_taken old p by.agreement by.total (last_of by) b.stamp b.brought f k s consistent supplied.state
        (holds old p by s consistent way sent supplied) (logs old p by s consistent way sent supplied)
        (moment old p by s consistent way sent supplied) (mine old p by s consistent way) (by_number old p by s consistent way) peer
        told x.brought numbered x.as_told b.taken b.taken_is
        new by.place (there_described old p by s consistent way)
        (subst IsStamped x.next rises)
        (new_is ∙ (λ i. record (b.new_is i) { sent = (b.new_is i).sent + many i; line = (b.new_is i).line + 1 })))

    stands : (o : RefreshOutcome) → (refresh_block p number by.push by.total).outcome ≡ o → IsLeft old by.agreement by.place sent o mid
        → StandsAt new (after_block p number by.push by.total)
    stands (Done f) e left = brought f e left
    stands Unheard e left = nothing left (subst BringsNothing (sym e) tt)
    stands (Problem n) e left = nothing left (subst BringsNothing (sym e) tt)
    stands (Missed a b) e left = nothing left (subst BringsNothing (sym e) tt)
    stands NotConsistent e left = nothing left (subst BringsNothing (sym e) tt)

    pub is_refreshed : IsLeft old by.agreement by.place sent (refreshed_view r.heard by.agreement.number r.became) mid
        → IsRefreshedAt new p number by.push by.total r
    is_refreshed left = record {
      lines = sym lines ∙ ap (λ (names : List (List ℕ)). shadows_view names r.lines) s.names;
      outcome = sym outcome ∙ ap (λ (n : ℕ). refreshed_view r.heard n r.became) (number_is old.agreements number by.agreement found);
      stands = stands (refresh_block p number by.push by.total).outcome refl
          (subst (λ (o : RefreshOutcome). IsLeft old by.agreement by.place sent o mid) outcome left);
    }

pub is_done : (old mid new : Net) (p : Point) (number : ℕ) (push total : Bool) (r : Refreshment) → StandsAt old p
    → IsConsistent p.described → IsDoneBy old number push total r mid → length (shadows_view old.names r.lines) ≡ length r.lines
    → new ≡ record mid { sent = mid.sent + length r.lines; line = mid.line + 1 } → IsRefreshedAt new p number push total r
is_done old mid new p number push total r s consistent d all e =
    let by : Way = d.done.by in
    let same : d.agreement ≡ by.agreement =
    sym (some_is (sym d.done.way.there ∙ ap (slice_get old.agreements) d.done.place_is ∙ d.there)) in
    subst (λ (b : Bool). IsRefreshedAt new p number b total r) d.done.push_is
    (subst (λ (b : Bool). IsRefreshedAt new p number by.push b r) d.done.total_is
    (is_refreshed old mid new p number r by d.done.sent s consistent d.done.way d.done.supplied
    (d.found ∙ ap (λ (a : Agreement). Some a) same) d.done.block e all d.done.left))

-- ---- by no agreement

pub is_invalid : (old mid new : Net) (p : Point) (number : ℕ) (push total : Bool) (r : Refreshment) → StandsAt old p
    → IsConsistent p.described → IsInvalid old number r mid
    → new ≡ record mid { sent = mid.sent + length r.lines; line = mid.line + 1 } → IsRefreshedAt new p number push total r
is_invalid old mid new p number push total r s consistent x e =
    let block : refresh_block p number push total ≡ ended [] (Problem 1) =
    invalid (is_some (first_breach p.described)) (find (λ (a : Agreement). a.number == number) (knowledge_at p).agreements)
    (none_breached p consistent)
    (ap (λ (gs : List Agreement). find (λ (a : Agreement). a.number == number) gs) (known_so old p s) ∙ x.none) in
    record {
      lines = ap (λ (b : RefreshBlock). b.lines) block ∙ ap (shadows_view (names_of_agents p.described)) (sym x.lines);
      outcome = ap (λ (b : RefreshBlock). b.outcome) block ∙ sym x.became;
      stands =
          subst (StandsAt new) (sym (others_do_nothing p number push total (subst BringsNothing (sym (ap (λ (b : RefreshBlock). b.outcome) block)) tt)))
          (after_nothing old new p (length (refresh_block p number push total).lines) s
          (e ∙ (λ i. record (x.same i) {
            sent = (x.same i).sent + (ap length x.lines ∙ sym (ap (λ (b : RefreshBlock). length b.lines) block)) i;
            line = (x.same i).line + 1;
          })));
    }
  where
    invalid : (b : Bool) (o : Option Agreement) → is_some (first_breach p.described) ≡ false
        → find (λ (a : Agreement). a.number == number) (knowledge_at p).agreements ≡ None
        → refresh_block p number push total ≡ ended [] (Problem 1)
    invalid b o c n = rw c (rw n refl)
