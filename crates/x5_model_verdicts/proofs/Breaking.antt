-- What a probe brings beside answers and agents that weren't heard is a limit: a right reply to a probe's read has no
-- other error, case by case.
use Rattle.std.proofs.Common.{nat_le, length-append, nat_lt, ◌≤◌, map, arith, ◌≡◌, ◌<◌, ℕ, Bool, true, false, not, ◌&&◌, inl, inr, List, [], ◌∷◌, ◌++◌, length, refl, sym, ap, subst, ◌∙◌, Option, Some, None, if◌then◌else◌}
use Rattle.std.specs.Option.{is_none}
use Rattle.std.proofs.lemmas.Bool.Decides.{leb_tells}
use Rattle.x5_model.specs.Members.{In}
use Rattle.x5_model.specs.Keys.{Key, is_prefix}
use Rattle.x5_model.specs.Values.{Name, key_of, name_above}
use Rattle.x5_model.specs.Entries.{Named}
use Rattle.x5_model.specs.Requests.{Only, Body, Read, Compare, ListBelow, Search, AddEntry, RemoveEntry, ModifyEntry, ModifyDn, Request}
use Rattle.x5_model.specs.References.{Progress, Next, RefType, Reference, Chained}
use Rattle.x5_model.specs.Answers.{DirError, Reply, Failed}
use Rattle.x5_model.specs.Problems.{unavailable, unable_to_proceed}
use Rattle.x5_model.specs.Statics.{fault_of}
use Rattle.x5_model.proofs.KeyLaws.{key_decides}
use Rattle.x5_model.proofs.Lists.{not_true, not_false, of_any, in_left, in_right, both_true, either_true, or_left, in_map}
use Rattle.x5_model.proofs.Prefixes.{prefix_decides, same_by_length, prefix_itself, prefix_length}
use Rattle.x5_model.proofs.Decide.{less_decides, nat_same_decides}
use Rattle.x5_model_tree.specs.World.{Specific}
use Rattle.x5_model_tree.specs.Tree.{Tree, entry_at}
use Rattle.x5_model_tree.specs.Ask.{Told, Refuses, absent, read, ask_body, ask_marked}
use Rattle.x5_model_tree.proofs.Longest.{entry_is}
use Rattle.x5_model_run.specs.Network.{is_sent}
use Rattle.x5_model_run.specs.Journal.{Line, Journal, depth, same_name, is_done, is_wide}
use Rattle.x5_model_run.specs.Holdings.{Holdings, holds_within, prefixes, subordinates, known_pins}
use Rattle.x5_model_run.specs.Needs.{new_name, due_probes, is_unable, falls_short}
use Rattle.x5_model_run.specs.History.{Point, tree_at, world_at, holdings_at}
use Rattle.x5_model_run.specs.Chain.{Scene, IsCarried, probe_request}
use Rattle.x5_model_run.specs.Covers.{told}
use Rattle.x5_model_run.specs.Blocked.{Asked}
use Rattle.x5_model_run.specs.Right as right
use Rattle.x5_model_run.specs.Right.{Right, IsResult, result, changed, is_copy_source, is_source, is_pin, knows, hears_taken, master_at}
use Rattle.x5_model_replies.specs.Replies.{RightReply, usual, unable, limit, is_long}
use Rattle.x5_model_theory.specs.Described.{knowledge_of}
use Rattle.x5_model_theory.proofs.Stages.{key_length}
use Rattle.x5_model_updates.proofs.Own.{known_there}
use Rattle.x5_model_updates.proofs.Trees.{of_part, tree_one_each, entry_in_area}
use Rattle.x5_model_serve.specs.Answering.{is_service}
use Rattle.x5_model_serve.specs.Serving.{Hand, line_for, holds_now}
use Rattle.x5_model_serve.specs.Claims.{Setting, asked_line, serving_of, AtMaster}
use Rattle.x5_model_replies.specs.Heard.{HeardRight}
use Rattle.x5_model_joins.proofs.Backs.{own_answered}
use Rattle.x5_model_joins.proofs.Cases.{not_long}
use Rattle.x5_model_verdicts.specs.Verdicts.{BreakIsRight}
use Rattle.x5_model_verdicts.proofs.At.{line_in}
use Rattle.x5_model_verdicts.proofs.NewName.{probe, new_is, name_inside}
use Rattle.x5_model_verdicts.proofs.Asked.{asks}

-- an entry that is read without attributes is shown
abbrev at_read : (Key → Bool) → Tree → Name → Option Named → Told
at_read copies t name None = absent t name
at_read copies t name (Some e) = read copies (Only []) e

abbrev asked_first : (Key → Bool) → Tree → Request → Option DirError → Told
asked_first copies t r (Some x) = Refuses x
asked_first copies t r None = ask_body copies t r r.body

le_of : (a b : ℕ) → nat_le a b ≡ true → a ≤ b
le_of a b e = elim (leb_tells a b) [ inl w ↦ w.1 | inr w ↦ (let f = w.0 in absurd (let g : true ≡ false = sym e ∙ f in cc)) ]

-- a probe's name isn't the root, so it has no fault
probe_faultless : (name : Name) → 0 < length name → fault_of (Read name (Only [])) ≡ None
probe_faultless [] h = absurd (omega arith)
probe_faultless (x ∷ xs) h = refl

new_filled : (body : Body) (name : Name) → new_name body ≡ Some name → fault_of body ≡ None → 0 < length name
new_filled (Read n selection) name q f = cc
new_filled (Compare n assertion) name q f = cc
new_filled (ListBelow n) name q f = cc
new_filled (Search base subset g selection) name q f = cc
new_filled (RemoveEntry n) name q f = cc
new_filled (ModifyEntry n changes) name q f = cc
new_filled (AddEntry [] list) name q f = cc
new_filled (AddEntry (r ∷ rs) list) name q f = subst (λ (x : Name). 0 < length x) (name_inside (r ∷ rs) name q) (omega arith)
new_filled (ModifyDn n rdn drops) name q f = by (same_name (name_above n ++ rdn ∷ []) n) q
  where
    by : (b : Bool) → (if b then None else Some (name_above n ++ rdn ∷ [])) ≡ Some name → 0 < length name
    by true h = cc
    by false h = subst (λ (x : Name). 0 < length x) (name_inside (name_above n ++ rdn ∷ []) name h) (omega (arith, length-append (name_above n) (rdn ∷ [])))

never_refused : (copies : Key → Bool) (t : Tree) (name : Name) (e : Named) (x : DirError) → 0 < length name → entry_at t.entries (key_of name) ≡ Some e → ask_marked copies t (probe_request name) ≡ Refuses x → ⊥
never_refused copies t name e x full q h =
    let f : read copies (Only []) e ≡ Refuses x = sym (ap (asked_first copies t (probe_request name)) (probe_faultless name full) ∙ ap (at_read copies t name) q) ∙ h in
    cc

told_going : (copies : Key → Bool) (t : Tree) (m : Chained) → is_done m.progress ≡ false → told copies t m ≡ ask_marked copies t m.request
told_going copies t m e = rw e refl

module _ (p : Point) (s : Scene) (k : Hand) (i j : Journal) (set : Setting p s) (at : AtMaster p s k i) (r : Reference) (due : due_probes (holds_now s i k) k.message ≡ r ∷ []) (n : Line) (a : ℕ)
    (carried : IsCarried (Some k.receiver) (line_for k) (record r { agents = a ∷ [] }) n.message) (stands : In n j.lines) (heard : is_sent n.fate ≡ true) (short : (e : Line) → In e j.lines → depth e < 128) where
  next : n.message.progress ≡ Next (length (probe p s k i set at r due).name)
  next = carried.progress_is ∙ ap (λ (x : Reference). x.progress) (probe p s k i set at r due).is

  size : length (probe p s k i set at r due).name ≡ length (key_of n.message.target)
  size =
      let v = new_is p s k i set at r due in
      ap length (name_inside (probe p s k i set at r due).name v.0 (sym (probe p s k i set at r due).named ∙ v.1)) ∙ sym (key_length v.0)
      ∙ ap length (sym v.2 ∙ (key_decides (key_of r.target) (key_of n.message.target)).0 carried.target_is)

  filled : 0 < length n.message.target
  filled =
      let a = new_filled k.message.request.body (probe p s k i set at r due).name (probe p s k i set at r due).named at.arrives.unrefused in
      let b : length (key_of n.message.target) ≡ length n.message.target = key_length n.message.target in
      let c = size in
      omega arith

  wide : is_wide n.message.kind ≡ true
  wide = ap (λ (x : RefType). is_wide x) carried.kind_is ∙ ap (λ (x : Reference). is_wide x.kind) (probe p s k i set at r due).is

  request : n.message.request ≡ probe_request n.message.target
  request = asks p s k i set at r due (Some k.receiver) n.message (a ∷ []) carried

  module _ (q : Asked) (to : q.to ≡ n.receiver) (message : q.message ≡ n.message) (able : is_unable (s.holdings q.to) q.message ≡ false) where
    -- it holds what goes as far
    holds_far : holds_within (holdings_at p n.receiver) (key_of n.message.target) (length (probe p s k i set at r due).name) ≡ true
    holds_far =
        not_false (holds_within (holdings_at p n.receiver) (key_of n.message.target) (length (probe p s k i set at r due).name))
        (sym (ap (λ (h : ℕ → Holdings). not (holds_within (h n.receiver) (key_of n.message.target) (length (probe p s k i set at r due).name))) set.holdings)
        ∙ sym (ap (falls_short (s.holdings n.receiver) (key_of n.message.target)) next) ∙ off)
      where
        abbrev_all : ℕ → Chained → Bool
        abbrev_all o m = nat_lt (length m.trace) 128 && (is_none (fault_of m.request.body) && (is_wide m.kind && falls_short (s.holdings o) (key_of m.target) m.progress))

        all_true : (a b c d : Bool) → (a && (b && (c && d))) ≡ false → a ≡ true → b ≡ true → c ≡ true → d ≡ false
        all_true true true true d h e f g = h
        all_true false b c d h e f g = cc
        all_true true false c d h e f g = cc
        all_true true true false d h e f g = cc

        here_able : abbrev_all n.receiver n.message ≡ false
        here_able = sym (ap (λ (o : ℕ). abbrev_all o n.message) to) ∙ sym (ap (abbrev_all q.to) message) ∙ able

        off : falls_short (s.holdings n.receiver) (key_of n.message.target) n.message.progress ≡ false
        off =
            all_true (nat_lt (length n.message.trace) 128) (is_none (fault_of n.message.request.body)) (is_wide n.message.kind) (falls_short (s.holdings n.receiver) (key_of n.message.target) n.message.progress) here_able
            ((less_decides (length n.message.trace) 128).1 (short n stands)) (ap (λ (x : Request). is_none (fault_of x.body)) request ∙ ap (λ (o : Option DirError). is_none o) (probe_faultless n.message.target filled)) wide

    is_entry : (e : Named) × (entry_at (tree_at p).entries (key_of n.message.target) ≡ Some e)
    is_entry =
        let w = of_any (λ (x : Name). is_prefix (key_of x) (key_of n.message.target) && nat_le (length (probe p s k i set at r due).name) (length x)) (prefixes (holdings_at p n.receiver)) holds_far in
        let v = both_true (is_prefix (key_of w.0) (key_of n.message.target)) (nat_le (length (probe p s k i set at r due).name) (length w.0)) w.2 in
        let on = (prefix_decides (key_of w.0) (key_of n.message.target)).0 v.0 in
        let far : length (probe p s k i set at r due).name ≤ length w.0 = le_of (length (probe p s k i set at r due).name) (length w.0) v.1 in
        let long : length (key_of w.0) ≡ length w.0 = key_length w.0 in
        let same_size : length (key_of w.0) ≡ length (key_of n.message.target) = (let s = size in let l = prefix_length (key_of w.0) (key_of n.message.target) on in omega arith) in
        let same : key_of w.0 ≡ key_of n.message.target = same_by_length (key_of w.0) (key_of n.message.target) (key_of n.message.target) on (prefix_itself (key_of n.message.target)) same_size in
        let c = known_there p set.whole n.message.request n.receiver (key_of w.0)
        (in_map key_of w.0 (known_pins n.message.request (holdings_at p n.receiver))
        (in_left w.0 (prefixes (holdings_at p n.receiver) ++ map (λ (x : Specific). x.pin) (subordinates n.message.request (holdings_at p n.receiver))) (map (λ (x : Specific). x.pin) (holdings_at p n.receiver).cross)
        (in_left w.0 (prefixes (holdings_at p n.receiver)) (map (λ (x : Specific). x.pin) (subordinates n.message.request (holdings_at p n.receiver))) w.1))) in
        let e = entry_in_area (knowledge_of (world_at p)) (tree_at p) set.whole.coherent set.whole.tree c.0 c.0.prefix c.1 (set.whole.coherent.headed c.0 c.1) in (
          e.0,
          entry_is (tree_at p).entries (key_of n.message.target) e.0 (tree_one_each (knowledge_of (world_at p)) (tree_at p) set.whole.coherent set.whole.tree)
              (of_part (knowledge_of (world_at p)) (tree_at p) set.whole.coherent set.whole.tree c.0.prefix e.0 e.1).0 (e.2 ∙ sym c.2 ∙ same),
        )

    no_error : (x : DirError) → told (λ key. false) (tree_at p) q.message ≡ Refuses x → ⊥
    no_error x h =
        never_refused (λ key. false) (tree_at p) n.message.target is_entry.0 x filled is_entry.1
        (sym (ap (ask_marked (λ key. false) (tree_at p)) request) ∙ sym (told_going (λ key. false) (tree_at p) n.message (ap (λ (y : Progress). is_done y) next)) ∙ sym (ap (told (λ key. false) (tree_at p)) message) ∙ h)

  breaks_by : (here_still : In at.at_hand.line j.lines) → j.accepted ≡ i.accepted → (over : Bool) (stood : ℕ) (reply : Reply) → is_service unable_to_proceed reply ≡ false → is_service unavailable reply ≡ false → (x : DirError) → reply ≡ Failed x
      → RightReply p s (asked_line n stood) j over reply → RightReply p s (serving_of i k at.at_hand.line.number) j over reply
  breaks_by here_still stays over stood _ not_able un x e (limit on l none) =
      limit (own_answered at.at_hand.line (length i.accepted) j.lines here_still) (elim (either_true over (is_long (asked_line n stood) j.lines) l) [
        | inl y ↦ or_left over _ y
        | inr y ↦ absurd (not_long (asked_line n stood) j.lines (short n stands) short y)
      ]) (or_left _ _ ((nat_same_decides (length j.accepted) (length i.accepted)).1 (ap length stays)))
  breaks_by here_still stays over stood _ not_able un x e (unable u) = cc
  breaks_by here_still stays over stood reply not_able un x e (usual on w) = absurd (by reply e not_able un w)
    where
      able : is_unable (s.holdings n.receiver) n.message ≡ false
      able = not_true (is_unable (s.holdings n.receiver) n.message) on

      by : (y : Reply) → y ≡ Failed x → is_service unable_to_proceed y ≡ false → is_service unavailable y ≡ false → Right p s (asked_line n stood) j y → ⊥
      by _ e not_able un (result b y f none) = cc
      by _ e not_able un (changed b up some) = cc
      by _ e not_able un (right.error {x = z} b t o c) = no_error (asked_line n stood) refl refl able z t
      by _ e not_able un (right.referral u g c) = cc
      by _ e not_able un (right.unheard l g c) = cc

pub break_is_right : BreakIsRight
break_is_right p s most k i j r a x set at due not_able un short keeps stays t =
    let h : HeardRight p s most (serving_of i k at.at_hand.line.number) j t.0 (Failed x) = t.3 in
    let here_still : In at.at_hand.line j.lines = subst (λ (xs : List Line). In at.at_hand.line xs) (sym keeps.grows.1) (in_right at.at_hand.line keeps.grows.0 i.lines (line_in p s k i set at)) in
    breaks_by p s k i j set at r due t.0 a t.2 h.stands h.heard short here_still stays (nat_le most (length j.lines)) h.stood (Failed x) not_able un x refl h.right
