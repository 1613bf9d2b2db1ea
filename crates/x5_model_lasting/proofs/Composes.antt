-- What is kept where nothing is done, by two things, by a message and by an acceptance: lines that stood before have no
-- number of those since, and what was finished is finished.
use Rattle.std.proofs.Common.{◌≡◌, ℕ, ◌+◌, ◌≤◌, Bool, true, false, not, ◌&&◌, ◌||◌, ◌==◌, nat_le, ◌⊎◌, inl, inr, if◌then◌else◌, List, [], ◌∷◌, ◌++◌, append_assoc, length, refl, sym, ap, subst, ◌∙◌, arith, Option}
use Rattle.std.specs.List.{list_all}
use Rattle.x5_model.specs.Members.{there}
use Rattle.x5_model.specs.Values.{Name}
use Rattle.x5_model.specs.Requests.{Body, Read, Compare, ListBelow, Search, AddEntry, RemoveEntry, ModifyEntry, ModifyDn}
use Rattle.x5_model.specs.References.{Reference}
use Rattle.x5_model.proofs.Lists.{and_true, or_left, or_right}
use Rattle.x5_model_tree.specs.Ask.{is_update}
use Rattle.x5_model_run.specs.Network.{arrives}
use Rattle.x5_model_run.specs.Journal.{Line, Journal, is_wide}
use Rattle.x5_model_run.specs.History.{Point}
use Rattle.x5_model_run.specs.Chain.{Scene, AllLicensed, is_user, is_probe, asks_part, part_body, part_request, probe_request}
use Rattle.x5_model_run.specs.Thorough.{is_served}
use Rattle.x5_model_run.proofs.Journals.{settled_past, settled_above}
use Rattle.x5_model_serve.specs.Serving.{Hand, hand, carried_for, next_line, with_line, with_accepted, is_spent}
use Rattle.x5_model_serve.specs.Claims.{Grows, last_number, is_due_line, is_settled_line, is_finished}
use Rattle.x5_model_serve.proofs.Frame.{deeper}
use Rattle.x5_model_lasting.specs.Lasting.{Lasts}
use Rattle.x5_model_lasting.specs.Keeping.{KeepsItself, KeepsBoth, KeepsLost, KeepsSent, KeepsAccepting}
use Rattle.x5_model_lasting.proofs.Finishing.{at_most, since, both_stay, accepted_stays, finished_stays}
use Rattle.x5_model_lasting.proofs.Holds.{keeps_lasts, spent_stays}

-- the lines that stand have no higher numbers
none_since : (s : Scene) (test : Line → Bool) (lines : List Line) (n : ℕ) → AllLicensed s lines → s.sent + length lines ≤ n
    → list_all (λ l. nat_le l.number n || test l) lines ≡ true
none_since s test [] n h l = refl
none_since s test (x ∷ lines) n h l =
    let number : x.number ≡ s.sent + length lines + 1 = h.0.number_is in
    and_true (nat_le x.number n || test x) _ (or_left (nat_le x.number n) (test x) (at_most x.number n (omega (arith, l, number))))
    (none_since s test lines n h.1 (omega (arith, l)))

pub keeps_itself : KeepsItself
keeps_itself p s most k j licensed accepted = record {
  licensed = licensed;
  settled_is = refl;
  grows = ([], refl);
  only_more = λ a i. i;
  same_line = λ a i. refl;
  accepted = accepted;
  finished = inr (none_since s (λ l. is_served s j l && is_settled_line p s j l) j.lines (last_number s j) licensed (omega arith));
  reads = λ e. refl;
}

pub grows_both : (i j l : Journal) → Grows i j → Grows j l → Grows i l
grows_both i j l a b = (b.0 ++ a.0, b.1 ∙ ap (λ (xs : List Line). b.0 ++ xs) a.1 ∙ sym (append_assoc b.0 a.0 i.lines))

pub keeps_both : KeepsBoth
keeps_both p s most k i j l a b = record {
  licensed = b.licensed;
  settled_is = b.settled_is ∙ a.settled_is;
  grows = grows_both i j l a.grows b.grows;
  only_more = λ x i. b.only_more x (a.only_more x i);
  same_line = λ x i. b.same_line x (a.only_more x i) ∙ a.same_line x i;
  accepted = b.accepted;
  finished = by a.finished b.finished;
  reads = λ e. b.reads e ∙ a.reads e;
}
  where
    by : (is_spent most j ≡ true) ⊎ (is_finished p s j (last_number s i) ≡ true)
        → (is_spent most l ≡ true) ⊎ (is_finished p s l (last_number s j) ≡ true)
        → (is_spent most l ≡ true) ⊎ (is_finished p s l (last_number s i) ≡ true)
    by (inl x) y = inl (spent_stays most j l b.grows x)
    by (inr x) (inl y) = inl y
    by (inr x) (inr y) = inr (finished_stays p s (last_number s i) j l (keeps_lasts p s most k j l b) b.licensed x y)

-- ---- a message

-- what is carried for a query is a query
part_query : (wide : Bool) (t : Name) (body : Body) → is_update body ≡ false → is_update (part_body wide t body) ≡ false
part_query wide t (Read name selection) u = refl
part_query wide t (Compare name assertion) u = refl
part_query wide t (ListBelow name) u = refl
part_query wide t (Search base subset f selection) u = refl
part_query wide t (AddEntry name attributes) u = cc
part_query wide t (RemoveEntry name) u = cc
part_query wide t (ModifyEntry name changes) u = cc
part_query wide t (ModifyDn name rdn drops) u = cc

pub query_carried : (from : Option ℕ) (o : Hand) (r : Reference) → is_update o.message.request.body ≡ false
    → is_update (carried_for from o r).request.body ≡ false
query_carried from o r u = by (is_probe o.message.request.body r.target) (asks_part r)
  where
    by : (b c : Bool) → is_update (if b then probe_request r.target else
        (if c then part_request (is_user from) (is_wide r.kind) r.target o.message.request else o.message.request)).body ≡ false
    by true c = refl
    by false true = part_query (is_wide r.kind) r.target o.message.request.body u
    by false false = u

-- a line that doesn't arrive is finished
not_arrived : (p : Point) (s : Scene) (j : Journal) (l : Line) → arrives l.fate ≡ false
    → (is_served s j l && is_settled_line p s j l) ≡ true
not_arrived p s j l off =
    and_true (is_served s j l) (is_settled_line p s j l) (or_left (not (arrives l.fate)) _ (ap not off))
    (or_left (not (is_due_line p s j l)) _ (ap not due))
  where
    three : (a b c d : Bool) → b ≡ false → ((a && (b && c)) && d) ≡ false
    three true b c d e = ap (λ x. (x && c) && d) e
    three false b c d e = refl

    due : is_due_line p s j l ≡ false
    due = three (l.receiver == l.receiver) (arrives l.fate) _ _ off

pub keeps_lost : KeepsLost
keeps_lost p s most from o r a i lost licensed accepted lines = record {
  licensed = licensed;
  settled_is = settled_past (length o.message.trace) l i.lines (omega (arith, deeper from o r));
  grows = (l ∷ [], refl);
  only_more = λ x k. k;
  same_line = lines;
  accepted = accepted_stays p s i (with_line l i) (l ∷ [], refl) refl lines accepted;
  finished = inr (and_true (nat_le l.number (last_number s i) ||
      (is_served s (with_line l i) l && is_settled_line p s (with_line l i) l)) _
      (or_right (nat_le l.number (last_number s i)) _ (not_arrived p s (with_line l i) l (ap arrives lost)))
      (none_since s (λ x. is_served s (with_line l i) x && is_settled_line p s (with_line l i) x) i.lines (last_number s i) licensed.1
      (omega arith)));
  reads = λ e. refl;
}
  where
    l : Line
    l = next_line s i from o r a

licensed_before : (s : Scene) (new lines : List Line) → AllLicensed s (new ++ lines) → AllLicensed s lines
licensed_before s [] lines h = h
licensed_before s (x ∷ new) lines h = licensed_before s new lines h.1

pub keeps_sent : KeepsSent
keeps_sent p s most from o r a i j lines b own = record {
  licensed = b.licensed;
  settled_is = settled_above (length o.message.trace) l i.lines j.lines (omega (arith, deeper from o r)) b.settled_is;
  grows = grows_both i (with_line l i) j (l ∷ [], refl) b.grows;
  only_more = b.only_more;
  same_line = λ x k. b.same_line x k ∙ lines x k;
  accepted = b.accepted;
  finished = by own b.finished;
  reads = λ e. b.reads (query_carried from o r e);
}
  where
    l : Line
    l = next_line s i from o r a

    licensed : AllLicensed s (b.grows.0 ++ l ∷ i.lines)
    licensed = subst (λ (xs : List Line). AllLicensed s xs) b.grows.1 b.licensed

    lasts : Lasts s (with_line l i) j
    lasts = keeps_lasts p s most (hand a (carried_for from o r)) (with_line l i) j b

    done : is_served s j l ≡ true → is_settled_line p s j l ≡ true → is_finished p s j (last_number s (with_line l i)) ≡ true
        → is_finished p s j (last_number s i) ≡ true
    done served settle h =
        subst (λ (xs : List Line). list_all (since p s (with_line l i) j lasts (last_number s i) j) xs ≡ true) (sym b.grows.1)
        (both_stay p s (with_line l i) j lasts (last_number s i) b.grows.0 licensed
        (and_true (since p s (with_line l i) j lasts (last_number s i) j l) _
        (or_right (nat_le l.number (last_number s i)) _ (and_true (is_served s j l) (is_settled_line p s j l) served settle))
        (none_since s (λ x. is_served s j x && is_settled_line p s j x) i.lines (last_number s i)
        (licensed_before s b.grows.0 (l ∷ i.lines) licensed).1 (omega arith)))
        (subst (λ (xs : List Line). list_all (since p s (with_line l i) j lasts (last_number s (with_line l i)) j) xs ≡ true) b.grows.1 h))

    by : (is_spent most j ≡ true) ⊎ ((is_served s j l ≡ true) × (is_settled_line p s j l ≡ true))
        → (is_spent most j ≡ true) ⊎ (is_finished p s j (last_number s (with_line l i)) ≡ true)
        → (is_spent most j ≡ true) ⊎ (is_finished p s j (last_number s i) ≡ true)
    by (inl x) y = inl x
    by (inr x) (inl y) = inl y
    by (inr x) (inr y) = inr (done x.0 x.1 y)

-- ---- an acceptance

pub keeps_accepting : KeepsAccepting
keeps_accepting p s most k a i j update accepted b = record {
  licensed = b.licensed;
  settled_is = b.settled_is;
  grows = b.grows;
  only_more = λ x m. there (b.only_more x m);
  same_line = b.same_line;
  accepted = accepted;
  finished = by b.finished;
  reads = λ e. (let f = update in cc);
}
  where
    lasts : Lasts s j (with_accepted a j)
    lasts = record { grows = ([], refl); only_more = λ x m. there m; same_line = λ x m. refl }

    by : (is_spent most j ≡ true) ⊎ (is_finished p s j (last_number s i) ≡ true)
        → (is_spent most j ≡ true) ⊎ (is_finished p s (with_accepted a j) (last_number s i) ≡ true)
    by (inl x) = inl x
    by (inr x) = inr (finished_stays p s (last_number s i) j (with_accepted a j) lasts b.licensed x
        (none_since s (λ l. is_served s (with_accepted a j) l && is_settled_line p s (with_accepted a j) l) j.lines
        (last_number s j) b.licensed (omega arith)))
