-- What holds of the message at hand holds after something was done for it: what stands above it is the same, and the
-- rest is said of lines that are added.
use Rattle.std.proofs.Common.{◌≡◌, ℕ, ◌+◌, ◌≤◌, true, ◌&&◌, ◌||◌, ◌==◌, nat_le, ◌⊎◌, inl, inr, List, [], ◌∷◌, ◌++◌, length, refl, sym, ap, subst, ◌∙◌, arith, length-append}
use Rattle.std.specs.List.{list_all}
use Rattle.std.proofs.lemmas.Bool.Decides.{Decides-eqb}
use Rattle.x5_model.specs.Words.{first_of}
use Rattle.x5_model.specs.Members.{In}
use Rattle.x5_model.specs.Values.{key_of}
use Rattle.x5_model.specs.References.{Progress, Start, Next, Done, Reference}
use Rattle.x5_model.proofs.KeyLaws.{key_decides}
use Rattle.x5_model.proofs.Lists.{both_true, and_true, either_true, in_right, of_all, all_in}
use Rattle.x5_model_run.specs.Journal.{Line, Journal, same_progress}
use Rattle.x5_model_run.specs.Needs.{needs}
use Rattle.x5_model_run.specs.History.{Point}
use Rattle.x5_model_run.specs.Chain.{Scene, AllLicensed, IsCarried}
use Rattle.x5_model_run.specs.Thorough.{is_served}
use Rattle.x5_model_serve.specs.Serving.{Hand, line_for, is_spent, holds_now, is_done_here, found_at}
use Rattle.x5_model_serve.specs.Claims.{asked_line, last_number, is_settled_line, is_finished, AtHand, Keeps}
use Rattle.x5_model_lasting.specs.Keeping.{KeepsLasts, SpentStays, AtHandStays, AtMasterStays, MayTakeStays, AskedStays, AskedApart, NotedStays, ReplyStays, CalmStays}
use Rattle.x5_model_lasting.proofs.Lines.{heard_stays, vain_stays, cleared_stays, passed_stays}
use Rattle.x5_model_lasting.proofs.Replies.{right_lasts}
use Rattle.x5_model_lasting.proofs.Finishing.{at_most, is_at_most, settled_stays}

pub keeps_lasts : KeepsLasts
keeps_lasts p s most k i j b = record { grows = b.grows; only_more = b.only_more; same_line = b.same_line }

pub spent_stays : SpentStays
spent_stays most i j g e =
    let less : most ≤ length i.lines = is_at_most most (length i.lines) e in
    let more : length j.lines ≡ length g.0 + length i.lines = ap length g.1 ∙ length-append g.0 i.lines in
    at_most most (length j.lines) (omega (arith, less, more))

-- ---- at hand

abbrev at_hand_later : (p : Point) (s : Scene) (most : ℕ) (o : Hand) (i j : Journal) → AtHand p s o i → Keeps p s most o i j
    → AtHand p s o j
at_hand_later p s most o i j h k = record {
  line = h.line;
  receiver_is = h.receiver_is;
  message_is = h.message_is;
  licensed = k.licensed;
  at_hand = ap first_of k.settled_is ∙ h.at_hand;
  arrived = h.arrived;
  prohibited = h.prohibited;
  accepted = k.accepted;
}

pub at_hand_stays : AtHandStays
at_hand_stays p s most o i j h k = (at_hand_later p s most o i j h k, refl)

-- what an agent holds looks at who accepted alone
held_same : (s : Scene) (k : Hand) (i j : Journal) → j.accepted ≡ i.accepted → holds_now s j k ≡ holds_now s i k
held_same s k i j e = ap (λ (xs : List ℕ). holds_now s (record i { accepted = xs }) k) e

pub at_master_stays : AtMasterStays
at_master_stays p s most k i j m b same = (
  record {
    at_hand = at_hand_later p s most k i j m.at_hand b;
    arrives = record {
      unlooped = m.arrives.unlooped;
      short = m.arrives.short;
      fresh = ap (λ (xs : List ℕ). is_done_here s k (record i { accepted = xs })) same ∙ m.arrives.fresh;
      unrefused = m.arrives.unrefused;
      fit = m.arrives.fit;
    };
    update = m.update;
    context = m.context;
    found = ap (λ (xs : List ℕ). found_at s (record i { accepted = xs }) k) same ∙ m.found;
  },
  refl,
)

pub may_take_stays : MayTakeStays
may_take_stays s from o r i j above m = record {
  needed = m.needed;
  sender_is = λ e at. m.sender_is e (sym (ap first_of above) ∙ at);
  chains = m.chains;
}

-- ---- who was asked

pub asked_stays : AskedStays
asked_stays s o r agents i j g above others h = record {
  passed = λ e at a k. passed_stays s e r a i j g (h.passed e (sym (ap first_of above) ∙ at) a k);
  only = λ l k agent carried. elim (others l k) [ inl old ↦ h.only l old agent carried | inr f ↦ f agent carried ];
}

progress_itself : (x : Progress) → same_progress x x ≡ true
progress_itself Start = refl
progress_itself (Next k) = (Decides-eqb k k).1 refl
progress_itself Done = refl

pub asked_apart : AskedApart
asked_apart s o r rs agents i j g above by apart needed all other h =
    asked_stays s o r agents i j g above (λ l k. elim (by l k) [
      | inl old ↦ inl old
      | inr x ↦ inr (λ agent carried. absurd (other (subst (λ (q : Reference). In q rs)
          (one l x.0 (all x.0 x.1) x.2 x.3 agent carried) x.1)))
    ]) h
  where
    one : (l : Line) (q : Reference) → In q (needs (s.holdings o.receiver) o.message) → In l.receiver q.agents
        → IsCarried l.sender (line_for o) q l.message
        → In l.receiver r.agents → IsCarried l.sender (line_for o) r l.message → q ≡ r
    one l q k qa qc ra rc =
        let names : key_of q.target ≡ key_of r.target =
        (key_decides (key_of q.target) (key_of l.message.target)).0 qc.target_is
        ∙ sym ((key_decides (key_of r.target) (key_of l.message.target)).0 rc.target_is) in
        let steps : same_progress q.progress r.progress ≡ true =
        subst (λ x. same_progress x r.progress ≡ true) qc.progress_is
        (subst (λ x. same_progress l.message.progress x ≡ true) rc.progress_is (progress_itself l.message.progress)) in
        apart.unlike q r l.receiver k needed ((key_decides (key_of q.target) (key_of r.target)).1 names) steps qa ra

pub noted_stays : NotedStays
noted_stays s o r agents noted i j g above h = record {
  silent = λ e at a k. vain_stays s e r a i j g (h.silent e (sym (ap first_of above) ∙ at) a k);
  cleared = λ e at a k heard. cleared_stays s e.number r a i j g (h.cleared e (sym (ap first_of above) ∙ at) a k heard);
}

-- ---- what was heard

pub reply_stays : ReplyStays
reply_stays p s most q k reply i j g more h same = record {
  stands = subst (λ (xs : List Line). In k xs) (sym g.1) (in_right k g.0 i.lines h.stands);
  heard = h.heard;
  back = heard_stays (λ l. l.number == k.number) q i j g h.back;
  stood = h.stood;
  right = right_lasts p s (asked_line k h.stood) reply (is_spent most i) (is_spent most j) i j g more
      (spent_stays most i j g) same h.right;
  followed = h.followed;
  within = h.within;
}

-- ---- settled lines

pub calm_stays : CalmStays
calm_stays p s most k i j b before = by before b.finished
  where
    -- a new line has a higher number, so it is finished
    new : (xs : List Line) → AllLicensed s (xs ++ i.lines)
        → list_all (λ l. nat_le l.number (last_number s i) || (is_served s j l && is_settled_line p s j l)) (xs ++ i.lines) ≡ true
        → list_all (is_settled_line p s j) i.lines ≡ true → list_all (is_settled_line p s j) (xs ++ i.lines) ≡ true
    new [] h f old = old
    new (x ∷ xs) h f old =
        let c = both_true (nat_le x.number (last_number s i) || (is_served s j x && is_settled_line p s j x)) _ f in
        let number : x.number ≡ s.sent + length (xs ++ i.lines) + 1 = h.0.number_is in
        let many : length (xs ++ i.lines) ≡ length xs + length i.lines = length-append xs i.lines in
        and_true (is_settled_line p s j x) _ (elim (either_true (nat_le x.number (last_number s i))
        (is_served s j x && is_settled_line p s j x) c.0) [
          | inl y ↦ (let less : x.number ≤ s.sent + length i.lines = is_at_most x.number (last_number s i) y in absurd
              (omega (arith, less, number, many)))
          | inr y ↦ (both_true (is_served s j x) (is_settled_line p s j x) y).1
        ]) (new xs h.1 c.1 old)

    old_too : list_all (is_settled_line p s i) i.lines ≡ true → list_all (is_settled_line p s j) i.lines ≡ true
    old_too f = all_in (is_settled_line p s j) i.lines (λ l k. settled_stays p s l i j b.grows b.only_more
        (of_all (is_settled_line p s i) l i.lines f k))

    by : (is_spent most i ≡ true) ⊎ (list_all (is_settled_line p s i) i.lines ≡ true)
        → (is_spent most j ≡ true) ⊎ (is_finished p s j (last_number s i) ≡ true)
        → (is_spent most j ≡ true) ⊎ (list_all (is_settled_line p s j) j.lines ≡ true)
    by (inl x) y = inl (spent_stays most i j b.grows x)
    by (inr x) (inl y) = inl y
    by (inr x) (inr y) = inr
        (subst (λ (xs : List Line). list_all (is_settled_line p s j) xs ≡ true) (sym b.grows.1)
        (new b.grows.0 (subst (λ (xs : List Line). AllLicensed s xs) b.grows.1 b.licensed)
        (subst (λ (xs : List Line). list_all (λ l. nat_le l.number (last_number s i) ||
        (is_served s j l && is_settled_line p s j l)) xs ≡ true) b.grows.1 y) (old_too x)))
