-- A line that is sent for the line at hand, by a needed reference: it is licensed, what was accepted stays right, nothing
-- was sent for a line that came again, and its message is now at hand, newly come.
use Rattle.std.proofs.Common.{◌≡◌, ℕ, ◌+◌, ◌-◌, Bool, true, false, not, ◌&&◌, ◌||◌, ◌==◌, ◌⊎◌, if◌then◌else◌, inl, inr, List, [], ◌∷◌, ◌++◌, reverse, refl, sym, ap, subst, ◌∙◌, arith, length-append, Option, Some, None}
use Rattle.std.proofs.lemmas.List.{reverse-append}
use Rattle.std.specs.Prelude.{IsTrue}
use Rattle.std.specs.List.{list_any, list_all, find}
use Rattle.x5_model.specs.Words.{some_and, first_of}
use Rattle.x5_model.specs.Members.{In, here, there}
use Rattle.x5_model.specs.Values.{Name}
use Rattle.x5_model.specs.Requests.{Body, Read, Compare, ListBelow, Search, AddEntry, RemoveEntry, ModifyEntry, ModifyDn, Request}
use Rattle.x5_model.specs.References.{Reference, Chained}
use Rattle.x5_model.proofs.Lists.{both_true, and_true, or_right, true_or_false, in_first, in_either, of_all, all_in, of_find}
use Rattle.x5_model_tree.specs.Ask.{is_update}
use Rattle.x5_model_run.specs.Network.{arrives, is_sent, is_unheard}
use Rattle.x5_model_run.specs.Journal.{Line, Journal, depth, operation_of, is_wide, item_of, settled, some_line, is_reached, leads_up}
use Rattle.x5_model_run.specs.Needs.{is_unable, due_probes}
use Rattle.x5_model_run.specs.History.{Point}
use Rattle.x5_model_run.specs.Chain.{Scene, AllLicensed, is_asked, is_user, is_probe, asks_part, probe_request, part_body, part_request, is_probe_line, is_prohibited}
use Rattle.x5_model_run.specs.Accepting.{carries_update, lacks_probe, may_accept, accepting, is_probed, is_later, is_done_before}
use Rattle.x5_model_run.specs.Right.{is_accepted_right, is_sent_later}
use Rattle.x5_model_run.proofs.Journals.{settled_at, siblings_at}
use Rattle.x5_model_run.proofs.Growing.{all_grow}
use Rattle.x5_model_joins.proofs.Backs.{numbers}
use Rattle.x5_model_serve.specs.Serving.{Hand, hand, carried_for, next_line, with_line, is_spent}
use Rattle.x5_model_serve.specs.Claims.{Accepted, AtHand, MayTake, AskedSoFar, depth_at, is_settled_line}
use Rattle.x5_model_serve.proofs.Licence.{next_is_licensed}
use Rattle.x5_model_right.specs.Kept.{Ground, AtOnce, Rests, Comes, asks_update}
use Rattle.x5_model_right.specs.Journeys.{NeededAgents}
use Rattle.x5_model_right.proofs.Kept.{settled_stays}
use Rattle.x5_model_right.proofs.Journeys.{apart_here}

-- ---- bodies

pub update_no_read : (b : Body) → is_update b ≡ true → (operation_of b == 1) ≡ false
update_no_read (Read name selection) e = cc
update_no_read (Compare name assertion) e = cc
update_no_read (ListBelow name) e = cc
update_no_read (Search base subset f selection) e = cc
update_no_read (AddEntry name attributes) e = refl
update_no_read (RemoveEntry name) e = refl
update_no_read (ModifyEntry name changes) e = refl
update_no_read (ModifyDn name rdn drops) e = refl

read_no_update : (b : Body) → (operation_of b == 1) ≡ true → is_update b ≡ false
read_no_update (Read name selection) e = refl
read_no_update (Compare name assertion) e = cc
read_no_update (ListBelow name) e = cc
read_no_update (Search base subset f selection) e = cc
read_no_update (AddEntry name attributes) e = cc
read_no_update (RemoveEntry name) e = cc
read_no_update (ModifyEntry name changes) e = cc
read_no_update (ModifyDn name rdn drops) e = cc

-- operations of a query and of an update differ
other_operation : (b c : Body) → is_update b ≡ false → is_update c ≡ true → (operation_of b == operation_of c) ≡ false
other_operation (AddEntry name attributes) c e f = cc
other_operation (RemoveEntry name) c e f = cc
other_operation (ModifyEntry name changes) c e f = cc
other_operation (ModifyDn name rdn drops) c e f = cc
other_operation b (Read name selection) e f = cc
other_operation b (Compare name assertion) e f = cc
other_operation b (ListBelow name) e f = cc
other_operation b (Search base subset g selection) e f = cc
other_operation (Read n s) (AddEntry name attributes) e f = refl
other_operation (Read n s) (RemoveEntry name) e f = refl
other_operation (Read n s) (ModifyEntry name changes) e f = refl
other_operation (Read n s) (ModifyDn name rdn drops) e f = refl
other_operation (Compare n s) (AddEntry name attributes) e f = refl
other_operation (Compare n s) (RemoveEntry name) e f = refl
other_operation (Compare n s) (ModifyEntry name changes) e f = refl
other_operation (Compare n s) (ModifyDn name rdn drops) e f = refl
other_operation (ListBelow n) (AddEntry name attributes) e f = refl
other_operation (ListBelow n) (RemoveEntry name) e f = refl
other_operation (ListBelow n) (ModifyEntry name changes) e f = refl
other_operation (ListBelow n) (ModifyDn name rdn drops) e f = refl
other_operation (Search n t g s) (AddEntry name attributes) e f = refl
other_operation (Search n t g s) (RemoveEntry name) e f = refl
other_operation (Search n t g s) (ModifyEntry name changes) e f = refl
other_operation (Search n t g s) (ModifyDn name rdn drops) e f = refl

pub no_carrier : (s : Scene) (x : Line) → is_update x.message.request.body ≡ false → carries_update s x ≡ false
no_carrier s x e = by (is_update s.message.request.body) refl
  where
    by : (b : Bool) → is_update s.message.request.body ≡ b → (b && (operation_of x.message.request.body == operation_of s.message.request.body)) ≡ false
    by true q = other_operation x.message.request.body s.message.request.body e q
    by false q = refl

pub query_part : (wide : Bool) (t : Name) (b : Body) → is_update b ≡ false → is_update (part_body wide t b) ≡ false
query_part wide t (Read name selection) u = refl
query_part wide t (Compare name assertion) u = refl
query_part wide t (ListBelow name) u = refl
query_part wide t (Search base subset f selection) u = refl
query_part wide t (AddEntry name attributes) u = cc
query_part wide t (RemoveEntry name) u = cc
query_part wide t (ModifyEntry name changes) u = cc
query_part wide t (ModifyDn name rdn drops) u = cc

abbrev form : Request → Bool → Name → Reference → Bool → Bool → Request
form asked user t r probe part = if probe then probe_request t else (if part then part_request user (is_wide r.kind) t asked else asked)

-- what is asked for a query is a query
pub query_asks : (from : Option ℕ) (o : Hand) (r : Reference) → is_update o.message.request.body ≡ false → asks_update from o r ≡ false
query_asks from o r u = by (is_probe o.message.request.body r.target) (asks_part r)
  where
    by : (b c : Bool) → is_update (form o.message.request (is_user from) r.target r b c).body ≡ false
    by true c = refl
    by false true = query_part (is_wide r.kind) r.target o.message.request.body u
    by false false = u

read_part : (wide : Bool) (t : Name) (b : Body) → (operation_of b == 1) ≡ true → (operation_of (part_body wide t b) == 1) ≡ true
read_part wide t (Read name selection) u = refl
read_part wide t (Compare name assertion) u = cc
read_part wide t (ListBelow name) u = cc
read_part wide t (Search base subset f selection) u = cc
read_part wide t (AddEntry name attributes) u = cc
read_part wide t (RemoveEntry name) u = cc
read_part wide t (ModifyEntry name changes) u = cc
read_part wide t (ModifyDn name rdn drops) u = cc

pub read_asks : (from : Option ℕ) (o : Hand) (r : Reference) → (operation_of o.message.request.body == 1) ≡ true → (operation_of (carried_for from o r).request.body == 1) ≡ true
read_asks from o r u = by (is_probe o.message.request.body r.target) (asks_part r)
  where
    by : (b c : Bool) → (operation_of (form o.message.request (is_user from) r.target r b c).body == 1) ≡ true
    by true c = refl
    by false true = read_part (is_wide r.kind) r.target o.message.request.body u
    by false false = u

prohibits : (from : Option ℕ) (o : Hand) (r : Reference) → (carried_for from o r).request.controls.nochain ≡ true → o.message.request.controls.nochain ≡ true
prohibits from o r = by (is_probe o.message.request.body r.target) (asks_part r)
  where
    by : (b c : Bool) → (form o.message.request (is_user from) r.target r b c).controls.nochain ≡ true → o.message.request.controls.nochain ≡ true
    by true c e = cc
    by false true e = (both_true (is_user from) _ e).1
    by false false e = e

-- ---- lists

find_more : {X : Type 0} (test : X → Bool) (xs ys : List X) (x : X) → find test xs ≡ Some x → find test (xs ++ ys) ≡ Some x
find_more test [] ys x e = cc
find_more {X} test (y ∷ xs) ys x e = by (test y) (find_more test xs ys x) e
  where
    by : (b : Bool) → (find test xs ≡ Some x → find test (xs ++ ys) ≡ Some x) → (if b then Some y else find test xs) ≡ Some x → (if b then Some y else find test (xs ++ ys)) ≡ Some x
    by true rest q = q
    by false rest q = rest q

pub in_reverse : {X : Type 0} (xs : List X) (x : X) → In x (reverse xs) → In x xs
in_reverse [] x i = elim i [ ]
in_reverse {X} (y ∷ ys) x i = elim (in_either x (reverse ys) (y ∷ []) (subst (λ (zs : List X). In x zs) (reverse-append (y ∷ []) ys) i)) [
  | inl j ↦ there (in_reverse ys x j)
  | inr j ↦ elim (in_first x y [] j) [ inl e ↦ subst (λ (z : X). In z (y ∷ ys)) (sym e) here | inr n ↦ elim n [ ] ]
]

pub some_is : {X : Type 0} (test : X → Bool) (o : Option X) → some_and test o ≡ true → (x : X) × (o ≡ Some x)
some_is test None e = cc
some_is test (Some x) e = (x, refl)

pub middle : (us vs : List ℕ) (b : ℕ) → In b (us ++ b ∷ vs)
middle [] vs b = here
middle (u ∷ us) vs b = there (middle us vs b)

-- ---- the line

module _ (known : NeededAgents) (p : Point) (s : Scene) (most : ℕ) (g : Ground p s) (from : Option ℕ) (o : Hand) (r : Reference) (i : Journal) (before after : List ℕ) (a : ℕ)
    (at : AtHand p s o i) (may : MayTake s from o r i) (rests : Rests p s most at.line (asks_update from o r) i) (split : r.agents ≡ before ++ a ∷ after) (so_far : AskedSoFar s o r i before) where
  abbrev pub x : Line
  x = next_line s i from o r a

  abbrev pub k : Hand
  k = hand a (carried_for from o r)

  abbrev pub j : Journal
  j = with_line (next_line s i from o r a) i

  pub deeper : depth (next_line s i from o r a) ≡ depth_at o + 1
  deeper = length-append o.message.trace (item_of o.receiver o.message ∷ [])

  pub licensed : AllLicensed s (next_line s i from o r a ∷ i.lines)
  licensed = (next_is_licensed p s from o r before after a i (apart_here p s g o i at known) at may split so_far, at.licensed)

  pub listed : In a r.agents
  listed = subst (λ (xs : List ℕ). In a xs) (sym split) (middle before after a)

  -- the line lacks no probe of an update that was accepted
  no_probe_line : asks_update from o r ≡ true → is_probe_line s (next_line s i from o r a) ≡ false
  no_probe_line u = by (is_update s.message.request.body) (update_no_read (carried_for from o r).request.body u)
    where
      by : (b : Bool) → (operation_of (carried_for from o r).request.body == 1) ≡ false → (b && (operation_of (carried_for from o r).request.body == 1)) ≡ false
      by true e = e
      by false e = refl

  lacks_same : asks_update from o r ≡ true → (n : ℕ) → some_line (lacks_probe s n) (next_line s i from o r a ∷ i.lines) ≡ some_line (lacks_probe s n) i.lines
  lacks_same u n = λ q. (no_probe_line u q && (is_unheard (next_line s i from o r a).fate && leads_up (λ y. y.number == n) (λ y. true) (depth (next_line s i from o r a) - 1) i.lines)) || some_line (lacks_probe s n) i.lines

  may_same : asks_update from o r ≡ true → (b : ℕ) → may_accept s (next_line s i from o r a ∷ i.lines) b ≡ may_accept s i.lines b
  may_same u b = λ q e. (e.receiver == b) && (arrives e.fate && (carries_update s e && (not (is_unable (s.holdings b) e.message) && not (lacks_same u e.number q))))

  found_still : (b : ℕ) (y : Line) → asks_update from o r ≡ true → accepting s i.lines b ≡ Some y → accepting s (next_line s i from o r a ∷ i.lines) b ≡ Some y
  found_still b y u e =
      ap (λ (f : Line → Bool). find f (reverse (next_line s i from o r a ∷ i.lines))) (may_same u b)
      ∙ ap (find (may_accept s i.lines b)) (reverse-append (next_line s i from o r a ∷ []) i.lines)
      ∙ find_more (may_accept s i.lines b) (reverse i.lines) (next_line s i from o r a ∷ []) y e

  was_accepting : (b : ℕ) → In b i.accepted → (y : Line) × (accepting s i.lines b ≡ Some y)
  was_accepting b m = some_is (is_probed s i.lines) (accepting s i.lines b) (of_all (λ c. some_and (is_probed s i.lines) (accepting s i.lines c)) b i.accepted at.accepted.probed m)

  pub accepting_same : (b : ℕ) → In b i.accepted → accepting s (next_line s i from o r a ∷ i.lines) b ≡ accepting s i.lines b
  accepting_same b m = elim (true_or_false (asks_update from o r)) [
    | inl u ↦ (let y = was_accepting b m in found_still b y.0 u y.1 ∙ sym y.1)
    | inr u ↦ elim (subst (λ (xs : List ℕ). In b xs) (rests.none u) m) [ ]
  ]

  asked_more : (n : ℕ) (q : Reference) (b : ℕ) → is_asked is_sent i.lines n q b ≡ true → is_asked is_sent (next_line s i from o r a ∷ i.lines) n q b ≡ true
  asked_more n q b e = or_right _ _ e

  probed_more : (y : Line) → is_probed s i.lines y ≡ true → is_probed s (next_line s i from o r a ∷ i.lines) y ≡ true
  probed_more y e =
      all_grow (λ q. list_all (is_asked is_sent i.lines y.number q) q.agents) (λ q. list_all (is_asked is_sent (next_line s i from o r a ∷ i.lines) y.number q) q.agents)
      (λ q f. all_grow (is_asked is_sent i.lines y.number q) (is_asked is_sent (next_line s i from o r a ∷ i.lines) y.number q) (asked_more y.number q) q.agents f)
      (due_probes (s.holdings y.receiver) y.message) e

  right_more : (b : ℕ) → is_accepted_right p s i.lines b ≡ true → is_accepted_right p s (next_line s i from o r a ∷ i.lines) b ≡ true
  right_more b e =
      let c = both_true (is_update s.message.request.body) _ e in
      let d = both_true (is_reached i.lines b) _ c.1 in
      and_true (is_update s.message.request.body) _ c.0 (and_true (is_reached (next_line s i from o r a ∷ i.lines) b) _ (or_right _ _ d.0) d.1)

  pub accepted_still : Accepted p s (with_line (next_line s i from o r a) i)
  accepted_still = record {
    one = at.accepted.one;
    right = all_grow (is_accepted_right p s i.lines) (is_accepted_right p s (next_line s i from o r a ∷ i.lines)) right_more i.accepted at.accepted.right;
    probed = all_in (λ b. some_and (is_probed s (next_line s i from o r a ∷ i.lines)) (accepting s (next_line s i from o r a ∷ i.lines) b)) i.accepted (λ b m.
        let y = was_accepting b m in
        let old : is_probed s i.lines y.0 ≡ true = sym (ap (some_and (is_probed s i.lines)) y.1) ∙ of_all (λ c. some_and (is_probed s i.lines) (accepting s i.lines c)) b i.accepted at.accepted.probed m in
        ap (some_and (is_probed s (next_line s i from o r a ∷ i.lines))) (accepting_same b m ∙ y.1) ∙ probed_more y.0 old);
  }

  any_alike : (f h : ℕ → Bool) (xs : List ℕ) → ((b : ℕ) → In b xs → f b ≡ h b) → list_any f xs ≡ list_any h xs
  any_alike f h [] e = refl
  any_alike f h (y ∷ ys) e = λ q. e y here q || any_alike f h ys (λ b m. e b (there m)) q

  done_same : (e : Line) → is_done_before s (with_line (next_line s i from o r a) i) e ≡ is_done_before s i e
  done_same e = any_alike (λ b. some_and (is_later s b e) (accepting s (next_line s i from o r a ∷ i.lines) b)) (λ b. some_and (is_later s b e) (accepting s i.lines b)) i.accepted (λ b m. ap (some_and (is_later s b e)) (accepting_same b m))

  later_none : (d : ℕ) → d ≡ depth_at o → some_and (is_done_before s (with_line (next_line s i from o r a) i)) (first_of (settled d i.lines)) ≡ false
  later_none d e =
      ap (λ (n : ℕ). some_and (is_done_before s (with_line (next_line s i from o r a) i)) (first_of (settled n i.lines))) e
      ∙ ap (some_and (is_done_before s (with_line (next_line s i from o r a) i))) at.at_hand
      ∙ done_same at.line ∙ rests.fresh

  later_same : some_line (is_sent_later s (with_line (next_line s i from o r a) i)) i.lines ≡ some_line (is_sent_later s i) i.lines
  later_same = λ q. some_line (λ l earlier. some_and (λ e. done_same e q) (first_of (settled (depth l - 1) earlier))) i.lines

  pub at_once_still : AtOnce s (with_line (next_line s i from o r a) i)
  at_once_still =
      let none : is_sent_later s (with_line (next_line s i from o r a) i) (next_line s i from o r a) i.lines ≡ false = later_none (depth (next_line s i from o r a) - 1) (let d = deeper in omega (arith, d)) in
      ap (λ (b : Bool). not (b || some_line (is_sent_later s (with_line (next_line s i from o r a) i)) i.lines)) none ∙ ap not later_same ∙ rests.at_once

  pub prohibited_still : is_probe_line s (next_line s i from o r a) ≡ true ⊎ ((carried_for from o r).request.controls.nochain ≡ true → is_prohibited s ≡ true)
  prohibited_still = elim at.prohibited [
    | inr f ↦ inr (λ e. f (prohibits from o r e))
    | inl e ↦
        let b = both_true (is_update s.message.request.body) _ e in
        let read : (operation_of o.message.request.body == 1) ≡ true = ap (λ (m : Chained). operation_of m.request.body == 1) (sym at.message_is) ∙ b.1 in
        inl (and_true (is_update s.message.request.body) _ b.0 (read_asks from o r read))
  ]

  abbrev pub at_hand_now : IsTrue (arrives (next_line s i from o r a).fate) → AtHand p s (hand a (carried_for from o r)) (with_line (next_line s i from o r a) i)
  at_hand_now arrived = record {
    line = next_line s i from o r a;
    receiver_is = refl;
    message_is = refl;
    licensed = licensed;
    at_hand = ap first_of (settled_at (depth (next_line s i from o r a)) (next_line s i from o r a) i.lines refl);
    arrived = arrived;
    prohibited = prohibited_still;
    accepted = accepted_still;
  }

  pub comes_now : is_spent most i ≡ false → Comes p s (hand a (carried_for from o r)) (next_line s i from o r a) (with_line (next_line s i from o r a) i)
  comes_now left = record {
    newest = (i.lines, refl);
    alone = siblings_at (depth (next_line s i from o r a)) (next_line s i from o r a) i.lines refl;
    came = λ u. record {
      before = i.lines;
      newest = refl;
      all_settled = elim (rests.calm u) [
        | inl e ↦ absurd (let z : true ≡ false = sym e ∙ left in cc)
        | inr e ↦ all_grow (is_settled_line p s i) (is_settled_line p s (with_line (next_line s i from o r a) i)) (λ l f. settled_stays p s i (with_line (next_line s i from o r a) i) (next_line s i from o r a ∷ []) refl (λ b m. m) accepting_same l f) i.lines e
      ];
    };
    none = rests.none;
    earlier = λ b m.
        let y = was_accepting b m in
        let inside = in_reverse i.lines y.0 (of_find (may_accept s i.lines b) y.0 (reverse i.lines) y.1).0 in
        let low = numbers s i.lines at.licensed y.0 inside in
        (y.0, accepting_same b m ∙ y.1, omega (arith, low));
    at_once = at_once_still;
  }
