-- The agents of an NSSR, in their order: who is unable to proceed is cleared, who isn't heard is noted, and anything else
-- is the reply. With all of them asked there is no such entry, or the name is unavailable.
use Rattle.std.proofs.Common.{◌≡◌, ℕ, nat_lt, Bool, true, false, ◌&&◌, ◌⊎◌, inl, inr, List, [], ◌∷◌, ◌++◌, length, refl, sym, ap, subst, ◌∙◌, Option, Some}
use Rattle.std.specs.Prelude.{IsTrue}
use Rattle.std.specs.Option.{is_none}
use Rattle.x5_model.specs.Statics.{fault_of}
use Rattle.x5_model.specs.Words.{is_empty, first_of}
use Rattle.x5_model.specs.Members.{In, here, Once}
use Rattle.x5_model.specs.Values.{key_of}
use Rattle.x5_model.specs.Problems.{unable_to_proceed}
use Rattle.x5_model.specs.References.{Reference, Chained}
use Rattle.x5_model.specs.Answers.{Reply}
use Rattle.x5_model.proofs.KeyLaws.{key_decides}
use Rattle.x5_model.proofs.Lists.{and_true, or_left, or_right, in_first, in_left, in_right, in_either}
use Rattle.x5_model_run.specs.Network.{is_sent}
use Rattle.x5_model_run.specs.Journal.{Line, Journal, is_wide, settled}
use Rattle.x5_model_run.specs.Holdings.{Holdings}
use Rattle.x5_model_run.specs.Needs.{falls_short, needs}
use Rattle.x5_model_run.specs.History.{Point}
use Rattle.x5_model_run.specs.Chain.{Scene, IsCarried, is_asked, is_cleared, is_in_vain}
use Rattle.x5_model_run.specs.Right.{heard_whole}
use Rattle.x5_model_run.specs.Thorough.{is_sent_by}
use Rattle.x5_model_serve.specs.Answering.{is_service}
use Rattle.x5_model_serve.specs.Serving.{Hand, line_for, Heard, Unheard, Hears, Sends, is_spent, limit_reply, answered}
use Rattle.x5_model_serve.specs.Claims.{AtHand, MayTake, NotedSoFar, depth_at, asked_line}
use Rattle.x5_model_replies.specs.Heard.{IsSpentReply}
use Rattle.x5_model_bounds.proofs.Able.{replies_able}
use Rattle.x5_model_bounds.proofs.Unables.{unable_sends_nothing}
use Rattle.x5_model_passing.proofs.Taking.{casting_is_right}
use Rattle.x5_model_passing.proofs.Nobody.{nobody_is_right}
use Rattle.x5_model_passing.proofs.Unsure.{silence_is_right}
use Rattle.x5_model_right.specs.Kept.{Ground, KeepsAll, Rests, asks_update, is_sent_to}
use Rattle.x5_model_right.specs.Journeys.{NeededAgents}
use Rattle.x5_model_right.specs.Claim.{SentHeard, SentRight, SpreadRight}
use Rattle.x5_model_right.specs.Cast.{NoneAsked, UnableToo, SilentToo, IsAnswered, NobodyHas, SomeSilent}
use Rattle.x5_model_right.proofs.Kept.{sent_to_stays, all_both, unchanged, at_hand_later, may_later, noted_later, rests_later}
use Rattle.x5_model_right.proofs.Journeys.{sound, agent_here, apart_here}
use Rattle.x5_model_right.proofs.Adding.{middle}
use Rattle.x5_model_right.proofs.Able.{unable_is}
use Rattle.x5_model_right.proofs.Taking.{snoc_before, none_after, loss_stays, sent_by_first, only_both}
use Rattle.x5_model_right.proofs.Onward.{on}

-- messages ran out: that isn't what an unable agent says
pub not_unable : (reply : Reply) (most : ℕ) (j : Journal) → IsSpentReply most j (Hears reply) → is_service unable_to_proceed reply ≡ true → ⊥
not_unable reply most j x u =
    let same : reply ≡ limit_reply = heard_is reply limit_reply x.0 in
    let v : is_service unable_to_proceed limit_reply ≡ true = subst (λ (y : Reply). is_service unable_to_proceed y ≡ true) same u in
    no v
  where
    heard_is : (u v : Reply) → Hears u ≡ Hears v → u ≡ v
    heard_is u v e = cc

    no : is_service unable_to_proceed limit_reply ≡ true → ⊥
    no e = (let z : false ≡ true = e in cc)

last_short : (a b c d : Bool) → (a && (b && (c && d))) ≡ true → d ≡ true
last_short true true true d e = e
last_short true true false d e = cc
last_short true false c d e = cc
last_short false b c d e = cc

-- who says that it is unable to proceed is cleared
pub cleared_by : (p : Point) (s : Scene) (most : ℕ) (e : Line) (from : Option ℕ) (o : Hand) (r : Reference) (a : ℕ) (reply : Reply) (i j : Journal)
    → SentHeard p s most e from o r a (Hears reply) i j → is_service unable_to_proceed reply ≡ true → is_cleared s j.lines e.number r a ≡ true
cleared_by p s most e from o r a reply i j h u = elim h [
  | inr w ↦ absurd (not_unable reply most j w.0 u)
  | inl w ↦
      let unable = unable_is p s (asked_line w.0 w.3.stood) j (is_spent most j) reply w.3.right u in
      let short : falls_short (s.holdings w.0.receiver) (key_of w.0.message.target) w.0.message.progress ≡ true = last_short (nat_lt (length w.0.message.trace) 128) (is_none (fault_of w.0.message.request.body)) (is_wide w.0.message.kind) (falls_short (s.holdings w.0.receiver) (key_of w.0.message.target) w.0.message.progress) unable in
      let target : key_of r.target ≡ key_of w.0.message.target = (key_decides (key_of r.target) (key_of w.0.message.target)).0 w.2.target_is in
      and_true (is_asked is_sent j.lines e.number r a) _ w.5
      ((λ q. falls_short (s.holdings (sym w.1 q)) (target q) (sym w.2.progress_is q)) ∙ short)
]

pub none_asked_right : NoneAsked
none_asked_right p s most from o r j g after at may rests wide split so_far = record {
  keeps = unchanged p s most o (asks_update from o r) j at.licensed at.accepted rests.at_once;
  only = λ l m. inl m;
  so_far = so_far;
  noted_so_far = record { silent = λ e f a m. elim m [ ]; cleared = λ e f a m n. elim m [ ] };
  some = λ a m. elim m [ ];
  first = λ a e. cc;
  none = inl refl;
}

module _ (p : Point) (s : Scene) (most : ℕ) (from : Option ℕ) (o : Hand) (r : Reference) (i j : Journal) (at : AtHand p s o i) (rests : Rests p s most at.line (asks_update from o r) i)
    (before noted : List ℕ) (t : SpreadRight p s most at.line from o r before noted i j) where
  rests_then : Rests p s most at.line (asks_update from o r) j
  rests_then = rests_later p s most o (asks_update from o r) i j at rests t.keeps

  module _ (l : Journal) (a : ℕ) (h : Heard) (u : SentRight p s most at.line from o r before a h j l) where
    kept : KeepsAll p s most o (asks_update from o r) i l
    kept = all_both p s most o (asks_update from o r) i j l t.keeps u.keeps

    first_there : IsTrue (is_sent_to l.lines at.line.number from r a) → (b : ℕ) → first_of (before ++ a ∷ []) ≡ Some b → IsTrue (is_sent_to l.lines at.line.number from r b)
    first_there sent b e = by before e (λ f. subst (λ (xs : List Line). is_sent_to xs at.line.number from r b ≡ true) (sym u.keeps.keeps.grows.1) (sent_to_stays u.keeps.keeps.grows.0 j.lines at.line.number from r b (t.first b f)))
      where
        by : (xs : List ℕ) → first_of (xs ++ a ∷ []) ≡ Some b → (first_of xs ≡ Some b → is_sent_to l.lines at.line.number from r b ≡ true) → is_sent_to l.lines at.line.number from r b ≡ true
        by [] q more = (let same : a ≡ b = cc in subst (λ (n : ℕ). is_sent_to l.lines at.line.number from r n ≡ true) same sent)
        by (x ∷ xs) q more = more q

    opener_is : (e : Line) → first_of (settled (depth_at o) l.lines) ≡ Some e → e ≡ at.line
    opener_is e f = (let q : Some e ≡ Some at.line = sym f ∙ ap first_of kept.keeps.settled_is ∙ at.at_hand in cc)

    none_by : (length l.accepted ≡ length j.accepted) ⊎ (heard_whole l.lines ≡ false) → (length l.accepted ≡ length i.accepted) ⊎ (heard_whole l.lines ≡ false)
    none_by x = elim t.none [
      | inr lossy ↦ inr (loss_stays j l u.keeps.keeps.grows lossy)
      | inl same ↦ elim x [ inl e ↦ inl (e ∙ same) | inr lossy ↦ inr lossy ]
    ]

    old_noted : NotedSoFar s o r l before noted
    old_noted = noted_later p s most o r j l before noted u.keeps.keeps t.noted_so_far

    split_off : (b : ℕ) → In b (before ++ a ∷ []) → In b before ⊎ (b ≡ a)
    split_off b m = elim (in_either b before (a ∷ []) m) [ inl old ↦ inl old | inr new ↦ elim (in_first b a [] new) [ inl same ↦ inr same | inr none ↦ elim none [ ] ] ]

pub unable_too_right : UnableToo
unable_too_right p s most from o r i j l before noted a reply g un d spreads e sends after at may rests wide split so_far =
    let more : r.agents ≡ before ++ a ∷ after = split ∙ snoc_before before after a in
    let t = spreads (a ∷ after) at may rests wide more so_far in
    let u = sends before after (at_hand_later p s most o i j at t.keeps.keeps) (may_later p s most from o r i j may t.keeps.keeps) (rests_then p s most from o r i j at rests before noted t) more t.so_far in
    let clear : is_cleared s l.lines at.line.number r a ≡ true = cleared_by p s most at.line from o r a reply j l u.heard un in
    record {
      keeps = kept p s most from o r i j at rests before noted t l a (Hears reply) u;
      only = only_both o r i j l t.only u.only;
      so_far = u.next (or_right (is_in_vain s l.lines at.line r a) _ (and_true (is_wide r.kind) _ wide clear));
      noted_so_far = record {
        silent = (old_noted p s most from o r i j at rests before noted t l a (Hears reply) u).silent;
        cleared = λ x f b m n. elim (split_off p s most from o r i j at rests before noted t l a (Hears reply) u b m) [
          | inl old ↦ (old_noted p s most from o r i j at rests before noted t l a (Hears reply) u).cleared x f b old n
          | inr same ↦ subst (λ (y : Line). is_cleared s l.lines y.number r b ≡ true) (sym (opener_is p s most from o r i j at rests before noted t l a (Hears reply) u x f)) (subst (λ (c : ℕ). is_cleared s l.lines at.line.number r c ≡ true) (sym same) clear)
        ];
      };
      some = λ b m. in_left b before (a ∷ []) (t.some b m);
      first = first_there p s most from o r i j at rests before noted t l a (Hears reply) u (sent_of u.heard);
      none = none_by p s most from o r i j at rests before noted t l a (Hears reply) u (same_accepted (unable_sends_nothing replies_able s most (Sends from o r a (Hears reply)) j l e un));
    }
  where
    sent_of : SentHeard p s most at.line from o r a (Hears reply) j l → is_sent_to l.lines at.line.number from r a ≡ true
    sent_of (inl w) = w.4
    sent_of (inr w) = absurd (not_unable reply most l w.0 un)

    same_accepted : {X Y : Type 0} → (y : Line) × (l ≡ record j { lines = y ∷ j.lines }) × X × Y → (length l.accepted ≡ length j.accepted) ⊎ (heard_whole l.lines ≡ false)
    same_accepted w = inl (ap (λ (q : Journal). length q.accepted) w.1)

pub silent_too_right : SilentToo
silent_too_right p s most from o r i j l before noted a g d spreads e sends after at may rests wide split so_far =
    let more : r.agents ≡ before ++ a ∷ after = split ∙ snoc_before before after a in
    let t = spreads (a ∷ after) at may rests wide more so_far in
    let u = sends before after (at_hand_later p s most o i j at t.keeps.keeps) (may_later p s most from o r i j may t.keeps.keeps) (rests_then p s most from o r i j at rests before noted t) more t.so_far in
    record {
      keeps = kept p s most from o r i j at rests before noted t l a Unheard u;
      only = only_both o r i j l t.only u.only;
      so_far = u.next (or_left _ _ u.heard.0);
      noted_so_far = record {
        silent = λ x f b m. elim (in_either b noted (a ∷ []) m) [
          | inl old ↦ (old_noted p s most from o r i j at rests before noted t l a Unheard u).silent x f b old
          | inr new ↦ elim (in_first b a [] new) [
            | inr none ↦ elim none [ ]
            | inl same ↦ subst (λ (y : Line). is_in_vain s l.lines y r b ≡ true) (sym (opener_is p s most from o r i j at rests before noted t l a Unheard u x f)) (subst (λ (c : ℕ). is_in_vain s l.lines at.line r c ≡ true) (sym same) u.heard.0)
          ]
        ];
        cleared = λ x f b m n. elim (split_off p s most from o r i j at rests before noted t l a Unheard u b m) [
          | inl old ↦ (old_noted p s most from o r i j at rests before noted t l a Unheard u).cleared x f b old (λ y. n (in_left b noted (a ∷ []) y))
          | inr same ↦ absurd (n (in_right b noted (a ∷ []) (subst (λ (c : ℕ). In c (a ∷ [])) (sym same) here)))
        ];
      };
      some = λ b m. elim (in_either b noted (a ∷ []) m) [ inl old ↦ in_left b before (a ∷ []) (t.some b old) | inr new ↦ in_right b before (a ∷ []) new ];
      first = first_there p s most from o r i j at rests before noted t l a Unheard u u.heard.1;
      none = none_by p s most from o r i j at rests before noted t l a Unheard u (elim u.meanwhile [
        | inl same ↦ inl same
        | inr w ↦ elim w [ inl f ↦ (let z = f in cc) | inr v ↦ elim v [ inl lossy ↦ inr lossy | inr none ↦ absurd none ] ]
      ]);
    }

-- ---- the reply

first_sent : (lines : List Line) (l : Line) (from : Option ℕ) (r : Reference) (xs : List ℕ) → r.agents ≡ xs → is_empty xs ≡ false → ((b : ℕ) → first_of xs ≡ Some b → is_sent_to lines l.number from r b ≡ true) → is_sent_by lines l from r ≡ true
first_sent lines l from r [] q e f = cc
first_sent lines l from r (x ∷ xs) q e f = sent_by_first lines l from r (x ∷ xs) x q refl (f x refl)

filled : NeededAgents → (p : Point) (s : Scene) → Ground p s → (from : Option ℕ) (o : Hand) (r : Reference) (i : Journal) → MayTake s from o r i → is_empty r.agents ≡ false
filled known p s g from o r i may = (known p o.receiver o.message r (sound p s g) (subst (λ (h : ℕ → Holdings). In r (needs (h o.receiver) o.message)) g.setting.holdings may.needed)).0

pub is_answered_right : NeededAgents → IsAnswered
is_answered_right known p s most from o r i j l before after noted a reply g split able d spreads e sends at may rests look found wide so_far =
    let t = spreads (a ∷ after) at may rests wide split so_far in
    let u = sends before after (at_hand_later p s most o i j at t.keeps.keeps) (may_later p s most from o r i j may t.keeps.keeps) (rests_then p s most from o r i j at rests before noted t) split t.so_far in
    let all = kept p s most from o r i j at rests before noted t l a (Hears reply) u in
    let right = casting_is_right p s most from o r i j l a reply (on known p s g o r i at look found) (subst (λ (xs : List ℕ). In a xs) (sym split) (middle before after a)) able
    (answered before after noted a reply split able d e) all.keeps
    (elim u.heard [
      | inl w ↦ inl (w.0, subst (λ (n : ℕ). In n (a ∷ [])) (sym w.1) here, narrow w.0.message w.2, w.3)
      | inr w ↦ inr w.0
    ]) in
    record {
      keeps = all;
      only = only_both o r i j l t.only u.only;
      right = right.0;
      within = right.1;
      asked = elim u.heard [
        | inr w ↦ inl w.0.1
        | inl w ↦ inr (first_asked before split (first_there p s most from o r i j at rests before noted t l a (Hears reply) u w.4))
      ];
    }
  where
    narrow : (m : Chained) → IsCarried from (line_for o) r m → IsCarried from (line_for o) (record r { agents = a ∷ [] }) m
    narrow m c = record { target_is = c.target_is; progress_is = c.progress_is; kind_is = c.kind_is; exclusions_are = c.exclusions_are; trace_is = c.trace_is; request_is = c.request_is }

    first_asked : (xs : List ℕ) → r.agents ≡ xs ++ a ∷ after → ((b : ℕ) → first_of (xs ++ a ∷ []) ≡ Some b → is_sent_to l.lines at.line.number from r b ≡ true) → is_sent_by l.lines at.line from r ≡ true
    first_asked [] q f = sent_by_first l.lines at.line from r (a ∷ after) a q refl (f a refl)
    first_asked (x ∷ xs) q f = sent_by_first l.lines at.line from r (x ∷ (xs ++ a ∷ after)) x q refl (f x refl)

pub nobody_has_right : NeededAgents → NobodyHas
nobody_has_right known p s most from o r i j g d spreads at may rests look found wide so_far =
    let t = spreads [] at may rests wide (sym (none_after r.agents)) so_far in
    let right = nobody_is_right p s most o r i j (on known p s g o r i at look found) (agent_here p s g o i at known) wide t.keeps.keeps t.noted_so_far in
    record {
      keeps = t.keeps;
      only = t.only;
      right = right.0;
      within = right.1;
      asked = inr (first_sent j.lines at.line from r r.agents refl (filled known p s g from o r i may) t.first);
    }

pub some_silent_right : NeededAgents → SomeSilent
some_silent_right known p s most from o r i j noted g some d spreads at may rests look found wide so_far =
    let t = spreads [] at may rests wide (sym (none_after r.agents)) so_far in
    let once : Once r.agents = (apart_here p s g o i at known).agents r may.needed in
    let right = silence_is_right p s most from o r i j noted (on known p s g o r i at look found) wide once d t.keeps.keeps some t.noted_so_far in
    record {
      keeps = t.keeps;
      only = t.only;
      right = right.0;
      within = right.1;
      asked = inr (first_sent j.lines at.line from r r.agents refl (filled known p s g from o r i may) t.first);
    }
