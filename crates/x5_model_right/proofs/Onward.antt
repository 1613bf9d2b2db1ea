-- Where a name goes on by a reference, its owner may take it, and so may who follows the owner's referral. Each makes of
-- what is heard a right reply; all that the owner needs was taken, and its own line is settled.
use Rattle.std.proofs.Common.{◌≡◌, ℕ, Bool, true, false, not, ◌||◌, ◌==◌, ◌⊎◌, if◌then◌else◌, ◌<◌, nat_le, inl, inr, List, [], ◌∷◌, length, refl, sym, ap, subst, ◌∙◌, arith, Option, Some, None}
use Rattle.std.specs.List.{list_all}
use Rattle.x5_model.specs.Words.{is_empty}
use Rattle.x5_model.specs.Members.{In, here}
use Rattle.x5_model.specs.Requests.{Request}
use Rattle.x5_model.specs.References.{Reference, Chained}
use Rattle.x5_model.specs.Answers.{Referred}
use Rattle.x5_model.proofs.Decide.{nat_same_decides}
use Rattle.x5_model.proofs.Lists.{both_true, and_true, either_true, not_true, or_left, or_right, true_or_false}
use Rattle.x5_model_tree.specs.Ask.{is_update}
use Rattle.x5_model_run.specs.Network.{arrives, refuses}
use Rattle.x5_model_run.specs.Journal.{Line, Journal, operation_of, is_wide, siblings}
use Rattle.x5_model_run.specs.Holdings.{Holdings}
use Rattle.x5_model_run.specs.Needs.{needs}
use Rattle.x5_model_run.specs.History.{Point, holdings_at}
use Rattle.x5_model_run.specs.Chain.{Scene, AllLicensed, IsCarried, carried, asks_part, part_request, probe_request, is_probe, is_probe_line, is_prohibited, is_user, may_send, may_chain}
use Rattle.x5_model_run.specs.Accepting.{is_done_before}
use Rattle.x5_model_run.specs.Thorough.{is_served, is_taken, is_stopped, taken_needs, is_sent_by, sends_itself, sender_follows}
use Rattle.x5_model_serve.specs.Finding.{Here, Onward, Stuck, IsLooked, find}
use Rattle.x5_model_serve.specs.Answering.{in_vain, is_unavailable}
use Rattle.x5_model_serve.specs.Serving.{Hand, hand_of, line_for, Heard, Unheard, Hears, Takes, Casts, is_idle, is_final, is_spent, heard_or}
use Rattle.x5_model_serve.specs.Claims.{AtHand, Keeps, MayTake, AskedSoFar, LiesWithin, depth_at, is_settled_line, is_served_itself, asked_line, line_at}
use Rattle.x5_model_replies.specs.Replies.{RightReply}
use Rattle.x5_model_serve.specs.Following.{IsFinalHeard}
use Rattle.x5_model_serve.proofs.Finals.{idle_is_followed}
use Rattle.x5_model_find.proofs.Deciding.{onward_needs}
use Rattle.x5_model_find.proofs.Orderly.{holdings_orderly}
use Rattle.x5_model_passing.specs.Taking.{GoesOn}
use Rattle.x5_model_passing.proofs.Taking.{taking_is_right}
use Rattle.x5_model_passing.proofs.Due.{others_are_settled, carried_is_same}
use Rattle.x5_model_right.specs.Kept.{Ground, KeepsAll, Rests, Comes, asks_update}
use Rattle.x5_model_right.specs.Journeys.{NeededAgents}
use Rattle.x5_model_right.specs.Claim.{MayFollow}
use Rattle.x5_model_right.specs.Served.{Goes, GoesWide}
use Rattle.x5_model_right.specs.Sent.{Referral, WideReferral}
use Rattle.x5_model_lasting.proofs.Finishing.{is_at_most}
use Rattle.x5_model_right.proofs.Kept.{settled_stays, line_there}
use Rattle.x5_model_right.proofs.Journeys.{sound, by_causes, line_placed}
use Rattle.x5_model_right.proofs.Adding.{query_asks, read_asks}
use Rattle.x5_model_right.proofs.Messages.{read_kept}
use Rattle.x5_model_right.proofs.Finding.{looked, found_same, fresh}

-- ---- a user who prohibits chaining has it prohibited in each message, but for probes

abbrev form : Request → Bool → Reference → Bool → Bool → Request
form asked user r probe part = if probe then probe_request r.target else (if part then part_request user (is_wide r.kind) r.target asked else asked)

abbrev Chains : Scene → Line → Type 0
Chains s l = (is_update l.message.request.body ≡ true → is_update s.message.request.body ≡ true) × (is_prohibited s ≡ true → (l.message.request.controls.nochain ≡ true) ⊎ (is_probe_line s l ≡ true))

prohibits_or_probes : (s : Scene) (lines : List Line) (l : Line) → AllLicensed s lines → In l lines → Chains s l
prohibits_or_probes s =
    by_causes s (Chains s)
    (λ l f. (λ u. ap (λ (m : Chained). is_update m.request.body) (sym f.message_is) ∙ u, λ e. inl (ap (λ (m : Chained). m.request.controls.nochain) f.message_is ∙ e)))
    (λ l o r needed listed carries chains before. (updates l o r carries before.0, λ e. by_sender l o r carries chains l.sender refl before.0 (before.1 e) e))
  where
    for_user : (asked : Request) (user : Bool) (r : Reference) → user ≡ true → asked.controls.nochain ≡ true → (b c : Bool) → is_probe asked.body r.target ≡ b
        → ((form asked user r b c).controls.nochain ≡ true) ⊎ (((operation_of (form asked user r b c).body == 1) ≡ true) × (is_update asked.body ≡ true))
    for_user asked user r u n true c q = inr (refl, (both_true (is_update asked.body) _ q).0)
    for_user asked user r u n false true q = inl (and_true user _ u n)
    for_user asked user r u n false false q = inl n

    updates : (l o : Line) (r : Reference) → l.message ≡ carried l.sender o.receiver o.message r → (is_update o.message.request.body ≡ true → is_update s.message.request.body ≡ true) → is_update l.message.request.body ≡ true → is_update s.message.request.body ≡ true
    updates l o r carries before u = elim (true_or_false (is_update o.message.request.body)) [
      | inl e ↦ before e
      | inr e ↦ (let no = query_asks l.sender (hand_of o) r e in let yes : is_update (carried l.sender o.receiver o.message r).request.body ≡ true = ap (λ (m : Chained). is_update m.request.body) (sym carries) ∙ u in absurd (let z : true ≡ false = sym yes ∙ no in cc))
    ]

    by_sender : (l o : Line) (r : Reference) → l.message ≡ carried l.sender o.receiver o.message r → may_chain s l l.sender ≡ true → (from : Option ℕ) → l.sender ≡ from
        → (is_update o.message.request.body ≡ true → is_update s.message.request.body ≡ true) → (o.message.request.controls.nochain ≡ true) ⊎ (is_probe_line s o ≡ true) → is_prohibited s ≡ true
        → (l.message.request.controls.nochain ≡ true) ⊎ (is_probe_line s l ≡ true)
    by_sender l o r carries chains from q before (inr probe) e =
        let b = both_true (is_update s.message.request.body) _ probe in
        inr (and_true (is_update s.message.request.body) _ b.0 (ap (λ (m : Chained). operation_of m.request.body == 1) carries ∙ read_asks l.sender (hand_of o) r b.1))
    by_sender l o r carries chains None q before (inl n) e =
        elim (for_user o.message.request (is_user l.sender) r (ap is_user q) n (is_probe o.message.request.body r.target) (asks_part r) refl) [
          | inl y ↦ inl (ap (λ (m : Chained). m.request.controls.nochain) carries ∙ y)
          | inr y ↦ inr (and_true (is_update s.message.request.body) _ (before y.1) (ap (λ (m : Chained). operation_of m.request.body == 1) carries ∙ y.0))
        ]
    by_sender l o r carries chains (Some b) q before (inl n) e =
        elim (either_true (is_probe_line s l) _ (subst (λ (f : Option ℕ). may_chain s l f ≡ true) q chains)) [
          | inl y ↦ inr y
          | inr y ↦ (let f = not_true (is_prohibited s) (both_true (not (refuses s.network b)) _ y).1 in absurd (let z : true ≡ false = sym e ∙ f in cc))
        ]

-- ---- who owns what is needed may take it

pub owner_may : (p : Point) (s : Scene) (k : Hand) (r : Reference) (i : Journal) → AtHand p s k i → is_idle s k ≡ false → In r (needs (s.holdings k.receiver) k.message) → MayTake s (Some k.receiver) k r i
owner_may p s k r i at idle need = record {
  needed = need;
  sender_is = λ e f.
      let q : Some at.line ≡ Some e = sym at.at_hand ∙ f in
      let same : at.line ≡ e = cc in
      or_left (k.receiver == e.receiver) _ ((nat_same_decides k.receiver e.receiver).1 (sym at.receiver_is ∙ ap (λ (l : Line). l.receiver) same));
  chains = λ l sender c. chains_by l c;
}
  where
    no_chain : k.message.request.controls.nochain ≡ false
    no_chain = elim (true_or_false k.message.request.controls.nochain) [ inr e ↦ e | inl e ↦ (let z : true ≡ false = sym (or_left k.message.request.controls.nochain (refuses s.network k.receiver) e) ∙ idle in cc) ]

    refuses_none : refuses s.network k.receiver ≡ false
    refuses_none = elim (true_or_false (refuses s.network k.receiver)) [ inr e ↦ e | inl e ↦ (let z : true ≡ false = sym (or_right k.message.request.controls.nochain (refuses s.network k.receiver) e) ∙ idle in cc) ]

    reads_on : (l : Line) → IsCarried (Some k.receiver) (line_for k) r l.message → (operation_of k.message.request.body == 1) ≡ true → (operation_of l.message.request.body == 1) ≡ true
    reads_on l c e = ap (λ (y : Request). operation_of y.body == 1) c.request_is ∙ read_kept false k.message.request l.message.target r e

    chains_by : (l : Line) → IsCarried (Some k.receiver) (line_for k) r l.message → may_chain s l (Some k.receiver) ≡ true
    chains_by l c = elim (true_or_false (is_prohibited s)) [
      | inr e ↦ or_right (is_probe_line s l) _ (and_true (not (refuses s.network k.receiver)) _ (ap not refuses_none) (ap not e))
      | inl e ↦ elim ((prohibits_or_probes s i.lines at.line at.licensed (line_there p s k i at)).1 e) [
        | inl n ↦ (let m : k.message.request.controls.nochain ≡ true = ap (λ (y : Chained). y.request.controls.nochain) (sym at.message_is) ∙ n in let no = no_chain in absurd (let z : true ≡ false = sym m ∙ no in cc))
        | inr probe ↦
            let b = both_true (is_update s.message.request.body) _ probe in
            or_left (is_probe_line s l) _ (and_true (is_update s.message.request.body) _ b.0 (reads_on l c (ap (λ (y : Chained). operation_of y.request.body == 1) (sym at.message_is) ∙ b.1)))
      ]
    ]

-- ---- the reference is the one that is needed

module _ (known : NeededAgents) (p : Point) (s : Scene) (g : Ground p s) (k : Hand) (r : Reference) (i : Journal) (at : AtHand p s k i) (look : IsLooked k.message) (found : find (s.holdings k.receiver) k.message ≡ Onward r) where
  pub found_here : find (holdings_at p k.receiver) k.message ≡ Onward r
  found_here = ap (λ (h : ℕ → Holdings). find (h k.receiver) k.message) (sym g.setting.holdings) ∙ found

  abbrev pub on : GoesOn p s k r i
  on = record { setting = g.setting; at_hand = at; looked = look; found = found_here }

  pub needs_it : needs (s.holdings k.receiver) k.message ≡ r ∷ []
  needs_it =
      ap (λ (h : ℕ → Holdings). needs (h k.receiver) k.message) g.setting.holdings
      ∙ onward_needs (holdings_at p k.receiver) k.message r (holdings_orderly p k.receiver (sound p s g)) look found_here

  needed : In r (needs (s.holdings k.receiver) k.message)
  needed = subst (λ (xs : List Reference). In r xs) (sym needs_it) here

  first_agent : (a : ℕ) × In a r.agents
  first_agent = by r.agents (known p k.receiver k.message r (sound p s g) (subst (λ (h : ℕ → Holdings). In r (needs (h k.receiver) k.message)) g.setting.holdings needed)).0
    where
      by : (xs : List ℕ) → is_empty xs ≡ false → (a : ℕ) × In a xs
      by [] e = cc
      by (x ∷ xs) e = (x, here)

  -- it asks the same
  same_request : (from : Option ℕ) → (carried from k.receiver k.message r).request ≡ k.message.request
  same_request from = carried_is_same p s from k r i first_agent.0 on first_agent.1

  asks_same : (from : Option ℕ) → asks_update from k r ≡ is_update k.message.request.body
  asks_same from = ap (λ (q : Request). is_update q.body) (same_request from)

  line_receiver : at.line.receiver ≡ k.receiver
  line_receiver = at.receiver_is

  line_message : at.line.message ≡ k.message
  line_message = at.message_is

  -- and is no probe
  no_probe : is_probe k.message.request.body r.target ≡ false
  no_probe = elim (true_or_false (is_probe k.message.request.body r.target)) [
    | inr e ↦ e
    | inl e ↦
        let up : is_update k.message.request.body ≡ true = (both_true (is_update k.message.request.body) _ e).0 in
        let probing : (carried None k.receiver k.message r).request ≡ probe_request r.target = ap (λ (b : Bool). if b then probe_request r.target else (if asks_part r then part_request true (is_wide r.kind) r.target k.message.request else k.message.request)) e in
        let read : false ≡ is_update k.message.request.body = sym (ap (λ (q : Request). is_update q.body) probing) ∙ ap (λ (q : Request). is_update q.body) (same_request None) in
        absurd (let z : false ≡ true = read ∙ up in cc)
  ]

  -- the line of a message that goes on is settled
  pub own_settled : is_settled_line p s i at.line ≡ true
  own_settled =
      others_are_settled p s at.line i (record {
        setting = g.setting;
        licensed = at.licensed;
        stands = line_there p s k i at;
        placed = line_placed p s g i.lines at.line at.licensed (line_there p s k i at);
        short = not_long (length at.line.message.trace) (g.short i.lines at.line at.licensed (line_there p s k i at));
        looked = subst IsLooked (sym line_message) look;
      }) (λ c e.
      let f : find (holdings_at p at.line.receiver) at.line.message ≡ Onward r = ap (λ (n : ℕ). find (holdings_at p n) at.line.message) line_receiver ∙ ap (find (holdings_at p k.receiver)) line_message ∙ found_here in
      let z : Here c ≡ Onward r = sym e ∙ f in cc)
    where
      not_long : (n : ℕ) → n < 128 → nat_le 128 n ≡ false
      not_long n h = elim (true_or_false (nat_le 128 n)) [ inr e ↦ e | inl e ↦ (let m = is_at_most 128 n e in absurd (omega (arith, m, h))) ]

  settled_here : siblings (depth_at k) i.lines ≡ [] → AskedSoFar s k r i []
  settled_here alone = record {
    passed = λ e f a m. elim m [ ];
    only = λ l m agent carried. elim (subst (λ (xs : List Line). In l xs) alone m) [ ];
  }

  rests_by : (most : ℕ) (from : Option ℕ) → Rests p s most at.line (is_update k.message.request.body) i → Rests p s most at.line (asks_update from k r) i
  rests_by most from x = subst (λ (b : Bool). Rests p s most at.line b i) (sym (asks_same from)) x

  keeps_by : (most : ℕ) (from : Option ℕ) (j : Journal) → KeepsAll p s most k (asks_update from k r) i j → KeepsAll p s most k (is_update k.message.request.body) i j
  keeps_by most from j x = subst (λ (b : Bool). KeepsAll p s most k b i j) (asks_same from) x

  -- ---- all that is needed was taken
  line_needs : needs (s.holdings at.line.receiver) at.line.message ≡ r ∷ []
  line_needs = ap (λ (n : ℕ). needs (s.holdings n) at.line.message) line_receiver ∙ ap (needs (s.holdings k.receiver)) line_message ∙ needs_it

  pub all_by : (test : Reference → Bool) → test r ≡ true → list_all test (taken_needs s at.line) ≡ true
  all_by test e = by (is_stopped at.line.receiver at.line.message)
    where
      by : (b : Bool) → list_all test (if b then [] else needs (s.holdings at.line.receiver) at.line.message) ≡ true
      by true = refl
      by false = ap (list_all test) line_needs ∙ and_true (test r) true e refl

  pub line_idle : (refuses s.network at.line.receiver || at.line.message.request.controls.nochain) ≡ is_idle s k
  line_idle = (λ q. refuses s.network (line_receiver q) || (line_message q).request.controls.nochain) ∙ swapped (refuses s.network k.receiver) k.message.request.controls.nochain
    where
      swapped : (a b : Bool) → (a || b) ≡ (b || a)
      swapped true true = refl
      swapped true false = refl
      swapped false true = refl
      swapped false false = refl

  pub line_probe : is_probe at.line.message.request.body r.target ≡ false
  line_probe = ap (λ (m : Chained). is_probe m.request.body r.target) line_message ∙ no_probe

  owner_takes : (j : Journal) → is_idle s k ≡ false → is_sent_by j.lines at.line (Some k.receiver) r ≡ true → is_taken s j.lines at.line r ≡ true
  owner_takes j idle sent =
      ap (λ (b : Bool). if b then is_sent_by j.lines at.line (Some at.line.receiver) r else not (sender_follows s at.line) || is_sent_by j.lines at.line at.line.sender r)
      (or_right (is_probe at.line.message.request.body r.target) _ (ap not (line_idle ∙ idle)))
      ∙ ap (λ (n : ℕ). is_sent_by j.lines at.line (Some n) r) line_receiver ∙ sent

  follower_takes : (j : Journal) (from : Option ℕ) → is_idle s k ≡ true → at.line.sender ≡ from → is_sent_by j.lines at.line from r ≡ true → is_taken s j.lines at.line r ≡ true
  follower_takes j from idle sender sent =
      ap (λ (b : Bool). if b then is_sent_by j.lines at.line (Some at.line.receiver) r else not (sender_follows s at.line) || is_sent_by j.lines at.line at.line.sender r)
      (λ q. line_probe q || not ((line_idle ∙ idle) q))
      ∙ or_right (not (sender_follows s at.line)) _ (ap (λ (f : Option ℕ). is_sent_by j.lines at.line f r) sender ∙ sent)

  served_all : (j : Journal) → is_taken s j.lines at.line r ≡ true → is_served s j at.line ≡ true
  served_all j e = or_right (not (arrives at.line.fate)) _ (or_right (is_done_before s j at.line) _ (all_by (is_taken s j.lines at.line) e))

  itself_all : (j : Journal) → is_taken s j.lines at.line r ≡ true → is_served_itself s j at.line ≡ true
  itself_all j e = or_right (is_done_before s j at.line) _ (all_by (λ q. not (sends_itself s at.line q) || is_taken s j.lines at.line q) (or_right (not (sends_itself s at.line r)) _ e))

  -- ---- its owner takes it
  may_own : is_idle s k ≡ false → MayTake s (Some k.receiver) k r i
  may_own idle = owner_may p s k r i at idle needed

  -- before it is taken by its owner
  came_calm : (most : ℕ) → Comes p s k at.line i → is_done_before s i at.line ≡ false → Rests p s most at.line (is_update k.message.request.body) i
  came_calm most comes new = record {
    calm = λ u. inr (let came = comes.came u in subst (λ (xs : List Line). list_all (is_settled_line p s i) xs ≡ true) (sym came.newest) (and_true (is_settled_line p s i at.line) _ own_settled came.all_settled));
    none = comes.none;
    fresh = new;
    at_once = comes.at_once;
  }

  -- what it makes of what was heard
  module _ (most : ℕ) (j : Journal) (kept : Keeps p s most k i j) where
    settled_then : is_settled_line p s j at.line ≡ true
    settled_then = settled_stays p s i j kept.grows.0 kept.grows.1 kept.only_more kept.same_line at.line own_settled

heard_final : (h : Heard) (r : Reference) → IsFinalHeard h → is_final (heard_or (is_unavailable (in_vain r)) h) ≡ true
heard_final Unheard r e = refl
heard_final (Hears reply) r e = e

pub goes_right : NeededAgents → Goes
goes_right known p s most k i j r h g arrives_here e idle narrow d takes at comes =
    let free : Onward r ≡ Stuck → ⊥ = λ z. cc in
    let look = looked p s g k i at comes.none arrives_here (Onward r) e free in
    let found = found_same p s g k i at comes.none arrives_here (Onward r) e free in
    let new = fresh p s g k i at comes.none arrives_here (Onward r) e free in
    let t = takes at (may_own known p s g k r i at look found idle) (rests_by known p s g k r i at look found most (Some k.receiver) (came_calm known p s g k r i at look found most comes new)) (settled_here known p s g k r i at look found comes.alone) in
    let right = taking_is_right p s most (Some k.receiver) k r i j h (on known p s g k r i at look found) narrow d t.keeps.keeps (elim t.taken [ inl w ↦ inl w.0 | inr w ↦ inr w ]) in
    let last : is_final (heard_or (is_unavailable (in_vain r)) h) ≡ true = heard_final h r (idle_is_followed s most (Takes (Some k.receiver) k r h) i j d) in
    record {
      keeps = keeps_by known p s g k r i at look found most (Some k.receiver) j t.keeps;
      right = right.0;
      within = right.1;
      own = elim t.taken [
        | inr w ↦ inl w.1
        | inl w ↦
            let taken = owner_takes known p s g k r i at look found j idle w.1 in
            inr (itself_all known p s g k r i at look found j taken, settled_then known p s g k r i at look found most j t.keeps.keeps, λ z. served_all known p s g k r i at look found j taken)
      ];
      left = λ z. absurd (let y : true ≡ false = sym last ∙ z in cc);
    }

pub goes_wide_right : NeededAgents → GoesWide
goes_wide_right known p s most k i j r reply g arrives_here e idle wide d casts at comes =
    let free : Onward r ≡ Stuck → ⊥ = λ z. cc in
    let look = looked p s g k i at comes.none arrives_here (Onward r) e free in
    let found = found_same p s g k i at comes.none arrives_here (Onward r) e free in
    let new = fresh p s g k i at comes.none arrives_here (Onward r) e free in
    let t = casts at (may_own known p s g k r i at look found idle) (rests_by known p s g k r i at look found most (Some k.receiver) (came_calm known p s g k r i at look found most comes new)) look found wide (settled_here known p s g k r i at look found comes.alone) in
    let last : is_final reply ≡ true = idle_is_followed s most (Casts (Some k.receiver) k r reply) i j d in
    record {
      keeps = keeps_by known p s g k r i at look found most (Some k.receiver) j t.keeps;
      right = t.right;
      within = t.within;
      own = elim t.asked [
        | inl w ↦ inl w
        | inr w ↦
            let taken = owner_takes known p s g k r i at look found j idle w in
            inr (itself_all known p s g k r i at look found j taken, settled_then known p s g k r i at look found most j t.keeps.keeps, λ z. served_all known p s g k r i at look found j taken)
      ];
      left = λ z. absurd (let y : true ≡ false = sym last ∙ z in cc);
    }

-- ---- who follows a referral takes it

module _ (p : Point) (s : Scene) (most stood : ℕ) (from : Option ℕ) (k : Hand) (r : Reference) (i : Journal) (at : AtHand p s k i) (m : MayFollow p s most stood at.line from k (Referred r) i) where
  may_follower : In r (needs (s.holdings k.receiver) k.message) → MayTake s from k r i
  may_follower need = record {
    needed = need;
    sender_is = λ e f.
        let q : Some at.line ≡ Some e = sym at.at_hand ∙ f in
        let same : at.line ≡ e = cc in
        subst (λ (l : Line). may_send s l from ≡ true) same (m.sends refl);
    chains = λ l sender c. m.chains refl r l sender c;
  }

pub referral_right : NeededAgents → Referral
referral_right known p s most from k i j r h g narrow d takes stood at m rests =
    let left = m.left refl in
    let look : IsLooked k.message = left.0.1 in
    let found : find (s.holdings k.receiver) k.message ≡ Onward r = left.0.0 in
    let t = takes at (may_follower p s most stood from k r i at m (needed known p s g k r i at look found)) (rests_by known p s g k r i at look found most from (rests refl)) (settled_here known p s g k r i at look found left.2) in
    let right = taking_is_right p s most from k r i j h (on known p s g k r i at look found) narrow d t.keeps.keeps (elim t.taken [ inl w ↦ inl w.0 | inr w ↦ inr w ]) in
    record {
      keeps = keeps_by known p s g k r i at look found most from j t.keeps;
      right = subst (λ (n : ℕ). RightReply p s (asked_line (line_at k at.line.number) n) j (is_spent most j) (heard_or (is_unavailable (in_vain r)) h)) (sym left.3) right.0;
      within = subst (λ (n : ℕ). LiesWithin p (asked_line (line_at k at.line.number) n) (heard_or (is_unavailable (in_vain r)) h)) (sym left.3) right.1;
      served = elim t.taken [ inr w ↦ inl w.1 | inl w ↦ inr (served_all known p s g k r i at look found j (follower_takes known p s g k r i at look found j from left.1 m.sender_is w.1)) ];
    }

pub wide_referral_right : NeededAgents → WideReferral
wide_referral_right known p s most from k i j r reply g wide d casts stood at m rests =
    let left = m.left refl in
    let look : IsLooked k.message = left.0.1 in
    let found : find (s.holdings k.receiver) k.message ≡ Onward r = left.0.0 in
    let t = casts at (may_follower p s most stood from k r i at m (needed known p s g k r i at look found)) (rests_by known p s g k r i at look found most from (rests refl)) look found wide (settled_here known p s g k r i at look found left.2) in
    record {
      keeps = keeps_by known p s g k r i at look found most from j t.keeps;
      right = subst (λ (n : ℕ). RightReply p s (asked_line (line_at k at.line.number) n) j (is_spent most j) reply) (sym left.3) t.right;
      within = subst (λ (n : ℕ). LiesWithin p (asked_line (line_at k at.line.number) n) reply) (sym left.3) t.within;
      served = elim t.asked [ inl w ↦ inl w | inr w ↦ inr (served_all known p s g k r i at look found j (follower_takes known p s g k r i at look found j from left.1 m.sender_is w)) ];
    }
