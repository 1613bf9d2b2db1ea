-- The agents that a probe goes to, in their order: who is unable to proceed is cleared, and who isn't heard is noted. What
-- a probe asks is a read, so nothing is accepted meanwhile.
use Rattle.std.proofs.Common.{◌≡◌, ℕ, ◌<◌, nat_lt, Bool, true, false, not, ◌&&◌, ◌⊎◌, inl, inr, List, [], ◌∷◌, ◌++◌, length, refl, sym, ap, subst, ◌∙◌, Option, Some, None}
use Rattle.std.specs.Prelude.{IsTrue}
use Rattle.std.specs.Option.{is_none}
use Rattle.x5_model.specs.Words.{first_of}
use Rattle.x5_model.specs.Members.{In, here}
use Rattle.x5_model.specs.Keys.{Key}
use Rattle.x5_model.specs.Values.{Name, key_of}
use Rattle.x5_model.specs.Entries.{Named}
use Rattle.x5_model.specs.Problems.{unavailable, unable_to_proceed}
use Rattle.x5_model.specs.Requests.{Only, Request}
use Rattle.x5_model.specs.References.{Reference, Chained}
use Rattle.x5_model.specs.Answers.{DirError, Reply, Failed}
use Rattle.x5_model.specs.Statics.{fault_of}
use Rattle.x5_model.proofs.KeyLaws.{key_decides}
use Rattle.x5_model.proofs.Lists.{and_true, true_or_false, or_left, or_right, in_first, in_left, in_right, in_either}
use Rattle.x5_model_tree.specs.Tree.{Tree, entry_at}
use Rattle.x5_model_tree.specs.Ask.{Told, Shows, Compares, Lists, Finds, Changes, Refuses, absent, read, ask_marked, is_update}
use Rattle.x5_model_run.specs.Network.{is_sent}
use Rattle.x5_model_run.specs.Journal.{Line, Journal, same_name, is_done, is_wide, settled}
use Rattle.x5_model_run.specs.Needs.{target_of, falls_short, is_unable, due_probes}
use Rattle.x5_model_run.specs.History.{Point, tree_at}
use Rattle.x5_model_run.specs.Chain.{Scene, probe_request, is_probe, is_asked, is_cleared, is_in_vain}
use Rattle.x5_model_run.specs.Covers.{told}
use Rattle.x5_model_run.specs.Blocked.{Asked, IsLost}
use Rattle.x5_model_run.specs.Right as right
use Rattle.x5_model_run.specs.Right.{Right, result, changed}
use Rattle.x5_model_replies.specs.Replies as placed
use Rattle.x5_model_replies.specs.Replies.{RightReply, usual}
use Rattle.x5_model_run.proofs.Carrying.{is_carried}
use Rattle.x5_model_serve.specs.Answering.{is_service}
use Rattle.x5_model_serve.specs.Serving.{Hand, line_for, Heard, Unheard, Hears, carried_for, holds_now, is_spent, limit_reply}
use Rattle.x5_model_serve.specs.Claims.{NotedSoFar, AtMaster, asked_line, depth_at}
use Rattle.x5_model_replies.specs.Heard.{IsSpentReply}
use Rattle.x5_model_verdicts.proofs.Asked.{asks, goes_on}
use Rattle.x5_model_verdicts.proofs.At.{fit_key}
use Rattle.x5_model_verdicts.proofs.Refused.{target_filled}
use Rattle.x5_model_verdicts.proofs.NewName.{probe, new_is, new_apart}
use Rattle.x5_model_right.specs.Kept.{Ground, KeepsAll, Rests, asks_update, is_sent_to}
use Rattle.x5_model_right.specs.Claim.{SentRight, ProbedRight}
use Rattle.x5_model_right.specs.Updated.{NoProbe, Clear, Silent}
use Rattle.x5_model_right.proofs.Kept.{sent_to_stays, all_both, unchanged, at_hand_later, may_later, noted_later, rests_later}
use Rattle.x5_model_right.proofs.Taking.{snoc_before, only_both}

pub no_probe_right : NoProbe
no_probe_right p s most k r j g after at due may rests split so_far = record {
  keeps = unchanged p s most k false j at.at_hand.licensed at.at_hand.accepted rests.at_once;
  only = λ l m. inl m;
  so_far = so_far;
  noted_so_far = record { silent = λ e f a m. elim m [ ]; cleared = λ e f a m n. elim m [ ] };
  some = λ a m. elim m [ ];
  first = λ a e. cc;
}

-- ---- what is asked

module _ (p : Point) (s : Scene) (g : Ground p s) (k : Hand) (i : Journal) (at : AtMaster p s k i) (r : Reference)
    (due : due_probes (holds_now s i k) k.message ≡ r ∷ []) where
  pub asks_none : asks_update (Some k.receiver) k r ≡ false
  asks_none =
      ap (λ (q : Request). is_update q.body)
      (asks p s k i g.setting at r due (Some k.receiver) (carried_for (Some k.receiver) k r) r.agents
      (is_carried (Some k.receiver) (line_for k) r))

  pub is_probe_here : is_probe k.message.request.body r.target ≡ true
  is_probe_here =
      let new = new_is p s k i g.setting at r due in
      and_true (is_update k.message.request.body) _ at.update
      (elim (true_or_false (same_name (target_of k.message.request.body) r.target)) [
        | inr f ↦ ap not f
        | inl e ↦ absurd (new_apart k.message.request.body new.0 new.1
            (subst (λ (x : Key). 0 < length x) (fit_key k.message at.arrives.fit) (target_filled p s k i g.setting at))
            (sym new.2 ∙ sym ((key_decides (key_of (target_of k.message.request.body)) (key_of r.target)).0 e)))
      ])

  pub wide_probe : is_wide r.kind ≡ true
  wide_probe = ap (λ (x : Reference). is_wide x.kind) (probe p s k i g.setting at r due).is

-- ---- what the tree tells of a read

abbrev says : ℕ → Told → Bool
says n (Shows info) = false
says n (Compares equal copy) = false
says n (Lists subs cut) = false
says n (Finds infos cut) = false
says n Changes = false
says n (Refuses x) = is_service n (Failed x)

abbrev at_read : (Key → Bool) → Tree → Name → Option Named → Told
at_read copies t name None = absent t name
at_read copies t name (Some e) = read copies (Only []) e

-- nothing of services
read_tells : (n : ℕ) (copies : Key → Bool) (t : Tree) (name : Name) → says n (ask_marked copies t (probe_request name)) ≡ false
read_tells n copies t [] = refl
read_tells n copies t (x ∷ xs) = by (entry_at t.entries (key_of (x ∷ xs)))
  where
    by : (o : Option Named) → says n (at_read copies t (x ∷ xs) o) ≡ false
    by None = refl
    by (Some e) = refl

told_going : (copies : Key → Bool) (t : Tree) (m : Chained) → is_done m.progress ≡ false → told copies t m ≡ ask_marked copies t m.request
told_going copies t m e = rw e refl

-- so who says of a probe that it is unable is so, and who says that somebody wasn't heard lost a reference
module _ (p : Point) (s : Scene) (q : Asked) (j : Journal) (over : Bool) (request : q.message.request ≡ probe_request q.message.target)
    (going : is_done q.message.progress ≡ false) where
  no_service : (n : ℕ) (x : DirError) → told (λ key. false) (tree_at p) q.message ≡ Refuses x → is_service n (Failed x) ≡ false
  no_service n x t =
      ap (says n) (sym t ∙ told_going (λ key. false) (tree_at p) q.message going ∙ ap (ask_marked (λ key. false) (tree_at p)) request)
      ∙ read_tells n (λ key. false) (tree_at p) q.message.target

  pub probe_unable : (reply : Reply) → RightReply p s q j over reply → is_service unable_to_proceed reply ≡ true
      → is_unable (s.holdings q.to) q.message ≡ true
  probe_unable reply (usual able w) un = absurd (by reply w un)
    where
      by : (y : Reply) → Right p s q j y → is_service unable_to_proceed y ≡ true → ⊥
      by _ (result b y f none) un = cc
      by _ (changed b up some) un = cc
      by _ (right.error {x = z} b t o c) un = (let no = no_service unable_to_proceed z t in let w : true ≡ false = sym un ∙ no in cc)
      by _ (right.referral u g c) un = cc
      by _ (right.unheard l g c) un = cc
  probe_unable _ (placed.unable h) un = h
  probe_unable _ (placed.limit on h none) un = cc

  pub probe_lost : (reply : Reply) → RightReply p s q j over reply → is_service unavailable reply ≡ true → (u : Reference)
      × IsLost s q j.lines u
  probe_lost reply (usual able w) un = by reply w un
    where
      by : (y : Reply) → Right p s q j y → is_service unavailable y ≡ true → (u : Reference) × IsLost s q j.lines u
      by _ (result b y f none) un = cc
      by _ (changed b up some) un = cc
      by _ (right.error {x = z} b t o c) un = (let no = no_service unavailable z t in let w : true ≡ false = sym un ∙ no in cc)
      by _ (right.referral u g c) un = cc
      by _ (right.unheard {r = u} l g c) un = (u, l)
  probe_lost _ (placed.unable h) un = cc
  probe_lost _ (placed.limit on h none) un = cc

-- messages that ran out aren't what a service problem of the agent is
pub not_spent : (n : ℕ) (reply : Reply) (most : ℕ) (j : Journal) → is_service n limit_reply ≡ false → IsSpentReply most j (Hears reply)
    → is_service n reply ≡ true → ⊥
not_spent n reply most j off x un =
    let same : reply ≡ limit_reply = reply_is reply limit_reply x.0 in
    let on : is_service n limit_reply ≡ true = subst (λ (y : Reply). is_service n y ≡ true) same un in
    let z : true ≡ false = sym on ∙ off in cc
  where
    reply_is : (u v : Reply) → Hears u ≡ Hears v → u ≡ v
    reply_is u v e = cc

last_short : (a b c d : Bool) → (a && (b && (c && d))) ≡ true → d ≡ true
last_short true true true d e = e
last_short true true false d e = cc
last_short true false c d e = cc
last_short false b c d e = cc

-- ---- one more

module _ (p : Point) (s : Scene) (most : ℕ) (g : Ground p s) (k : Hand) (r : Reference) (i j : Journal) (at : AtMaster p s k i)
    (due : due_probes (holds_now s i k) k.message ≡ r ∷ [])
    (rests : Rests p s most at.at_hand.line false i) (before noted : List ℕ)
    (t : ProbedRight p s most at.at_hand.line k r before noted i j) where
  pub rests_probing : Rests p s most at.at_hand.line (asks_update (Some k.receiver) k r) j
  rests_probing = subst (λ (b : Bool). Rests p s most at.at_hand.line b j) (sym (asks_none p s g k i at r due))
      (rests_later p s most k false i j at.at_hand rests t.keeps)

  module _ (l : Journal) (a : ℕ) (h : Heard) (u : SentRight p s most at.at_hand.line (Some k.receiver) k r before a h j l) where
    pub kept_probing : KeepsAll p s most k false i l
    kept_probing = all_both p s most k false i j l t.keeps (subst (λ (b : Bool). KeepsAll p s most k b j l)
        (asks_none p s g k i at r due) u.keeps)

    pub first_probing : IsTrue (is_sent_to l.lines at.at_hand.line.number (Some k.receiver) r a)
        → (b : ℕ) → first_of (before ++ a ∷ []) ≡ Some b → IsTrue (is_sent_to l.lines at.at_hand.line.number (Some k.receiver) r b)
    first_probing sent b e = by before e (λ f. subst (λ (xs : List Line). is_sent_to xs at.at_hand.line.number
        (Some k.receiver) r b ≡ true) (sym u.keeps.keeps.grows.1)
        (sent_to_stays u.keeps.keeps.grows.0 j.lines at.at_hand.line.number (Some k.receiver) r b (t.first b f)))
      where
        by : (xs : List ℕ) → first_of (xs ++ a ∷ []) ≡ Some b
            → (first_of xs ≡ Some b → is_sent_to l.lines at.at_hand.line.number (Some k.receiver) r b ≡ true)
            → is_sent_to l.lines at.at_hand.line.number (Some k.receiver) r b ≡ true
        by [] q more = (let same : a ≡ b = cc in subst (λ (n : ℕ). is_sent_to l.lines at.at_hand.line.number
            (Some k.receiver) r n ≡ true) same sent)
        by (x ∷ xs) q more = more q

    opener_is : (e : Line) → first_of (settled (depth_at k) l.lines) ≡ Some e → e ≡ at.at_hand.line
    opener_is e f = (let q : Some e ≡ Some at.at_hand.line = sym f ∙ ap first_of kept_probing.keeps.settled_is ∙ at.at_hand.at_hand in cc)

    old_noted : NotedSoFar s k r l before noted
    old_noted = noted_later p s most k r j l before noted u.keeps.keeps t.noted_so_far

    split_off : (b : ℕ) → In b (before ++ a ∷ []) → In b before ⊎ (b ≡ a)
    split_off b m = elim (in_either b before (a ∷ []) m) [
      | inl old ↦ inl old
      | inr new ↦ elim
          (in_first b a [] new) [ inl same ↦ inr same | inr none ↦ elim none [ ] ]
    ]

    -- it is cleared
    pub probed_clear : IsTrue (is_sent_to l.lines at.at_hand.line.number (Some k.receiver) r a)
        → is_cleared s l.lines at.at_hand.line.number r a ≡ true
        → ProbedRight p s most at.at_hand.line k r (before ++ a ∷ []) noted i l
    probed_clear sent clear = record {
      keeps = kept_probing;
      only = only_both k r i j l t.only u.only;
      so_far = u.next (or_right (is_in_vain s l.lines at.at_hand.line r a) _
          (and_true (is_wide r.kind) _ (wide_probe p s g k i at r due) clear));
      noted_so_far = record {
        silent = old_noted.silent;
        cleared = λ x f b m n. elim (split_off b m) [
          | inl old ↦ old_noted.cleared x f b old n
          | inr same ↦ subst (λ (y : Line). is_cleared s l.lines y.number r b ≡ true) (sym (opener_is x f))
              (subst (λ (c : ℕ). is_cleared s l.lines at.at_hand.line.number r c ≡ true) (sym same) clear)
        ];
      };
      some = λ b m. in_left b before (a ∷ []) (t.some b m);
      first = first_probing sent;
    }

    -- it was asked in vain
    pub probed_vain : IsTrue (is_sent_to l.lines at.at_hand.line.number (Some k.receiver) r a)
        → is_in_vain s l.lines at.at_hand.line r a ≡ true
        → ProbedRight p s most at.at_hand.line k r (before ++ a ∷ []) (noted ++ a ∷ []) i l
    probed_vain sent vain = record {
      keeps = kept_probing;
      only = only_both k r i j l t.only u.only;
      so_far = u.next (or_left _ _ vain);
      noted_so_far = record {
        silent = λ x f b m. elim (in_either b noted (a ∷ []) m) [
          | inl old ↦ old_noted.silent x f b old
          | inr new ↦ elim (in_first b a [] new) [
            | inr none ↦ elim none [ ]
            | inl same ↦ subst (λ (y : Line). is_in_vain s l.lines y r b ≡ true) (sym (opener_is x f))
                (subst (λ (c : ℕ). is_in_vain s l.lines at.at_hand.line r c ≡ true) (sym same) vain)
          ]
        ];
        cleared = λ x f b m n. elim (split_off b m) [
          | inl old ↦ old_noted.cleared x f b old (λ y. n (in_left b noted (a ∷ []) y))
          | inr same ↦ absurd (n (in_right b noted (a ∷ []) (subst (λ (c : ℕ). In c (a ∷ [])) (sym same) here)))
        ];
      };
      some = λ b m. elim (in_either b noted (a ∷ []) m) [
        | inl old ↦ in_left b before (a ∷ []) (t.some b old)
        | inr new ↦ in_right b before
            (a ∷ []) new
      ];
      first = first_probing sent;
    }

pub clear_right : Clear
clear_right p s most k r i j l before noted a reply g un d probes e sends after at due may rests split so_far =
    let more : r.agents ≡ before ++ a ∷ after = split ∙ snoc_before before after a in
    let t = probes (a ∷ after) at due may rests more so_far in
    let u = sends before after (at_hand_later p s most k i j at.at_hand t.keeps.keeps)
    (may_later p s most (Some k.receiver) k r i j may t.keeps.keeps)
    (rests_probing p s most g k r i j at due rests before noted t) more t.so_far in
    elim u.heard [
      | inr w ↦ absurd (not_spent unable_to_proceed reply most l refl w.0 un)
      | inl w ↦
          let request = asks p s k i g.setting at r due (Some k.receiver) w.0.message r.agents w.2 in
          let going = goes_on p s k i g.setting at r due (Some k.receiver) w.0.message r.agents w.2 in
          let unable = probe_unable p s (asked_line w.0 w.3.stood) l (is_spent most l) request going reply w.3.right un in
          let short : falls_short (s.holdings w.0.receiver) (key_of w.0.message.target) w.0.message.progress ≡ true =
          last_short (nat_lt (length w.0.message.trace) 128) (is_none (fault_of w.0.message.request.body)) (is_wide w.0.message.kind)
          (falls_short (s.holdings w.0.receiver) (key_of w.0.message.target) w.0.message.progress) unable in
          let target : key_of r.target ≡ key_of w.0.message.target =
          (key_decides (key_of r.target) (key_of w.0.message.target)).0 w.2.target_is in
          probed_clear p s most g k r i j at due rests before noted t l a (Hears reply) u w.4
          (and_true (is_asked is_sent l.lines at.at_hand.line.number r a) _ w.5
          ((λ q. falls_short (s.holdings (sym w.1 q)) (target q) (sym w.2.progress_is q)) ∙ short))
    ]

pub silent_right : Silent
silent_right p s most k r i j l before noted a g d probes e sends after at due may rests split so_far =
    let more : r.agents ≡ before ++ a ∷ after = split ∙ snoc_before before after a in
    let t = probes (a ∷ after) at due may rests more so_far in
    let u = sends before after (at_hand_later p s most k i j at.at_hand t.keeps.keeps)
    (may_later p s most (Some k.receiver) k r i j may t.keeps.keeps)
    (rests_probing p s most g k r i j at due rests before noted t) more t.so_far in
    probed_vain p s most g k r i j at due rests before noted t l a Unheard u u.heard.1 u.heard.0
