-- A message that is sent, and what is heard of it, as the relation has it: seen from the network as it was before,
-- which stays
-- but for its journal.
use Rattle.std.proofs.Common.{◌≡◌, ℕ, ◌<◌, ◌≤◌, nat_le, suc, true, false, inl, inr, List, length, map, get_or, refl, sym, ap, subst, ◌∙◌, arith, Some}
use Rattle.std.proofs.lemmas.Bool.Decides.{leb_tells}
use Rattle.x5_model.specs.References.{Reference}
use Rattle.x5_model.specs.Answers.{Reply}
use Rattle.x5_model_theory.proofs.Tests.{false_true}
use Rattle.x5_model_run.specs.Journal.{Journal}
use Rattle.x5_model_run.specs.Chain.{Scene}
use Rattle.x5_model_heard.specs.Told.{are_agents, name_agents, KnowsAgents, IsTold}
use Rattle.x5_model_heard.specs.Kept.{IsOfUser}
use Rattle.x5_model_heard.proofs.Loops.{agent_at, test_at, spent_does, lost_does, dropped_does, sends_does}
use Rattle.x5_model_serve.specs.Serving.{Hand, hand, Hears, Unheard, limit_reply, Serves, Follows, Sends, carried_for}
use Rattle.x5_ops.specs.ReferenceViews.{chained_view, reference_view, access_view}
use Rattle.x5_ops.specs.AnswerViews.{reply_view}
use Rattle.x5_ops.specs.declared.references.AccessPoint.{AccessPoint}
use Rattle.x5_ops.specs.declared.references.Chained as code
use Rattle.x5_ops.specs.declared.references.Reference as code_reference
use Rattle.x5_ops.specs.declared.answers.Reply as code_reply
use Rattle.x5_serve.specs.Networks.{left_of, Stays, DoesAt, IsCarriedBy}
use Rattle.x5_serve.specs.declared.network.Carried.{Carried}
use Rattle.x5_serve.specs.declared.network.Carried.TheVariants as carried
use Rattle.x5_serve.proofs.Walks as walks
use Rattle.x5_serve.proofs.Walks.{Carries}
use Rattle.x5_serve.proofs.Cycle.{carried_user, served_told, followed_told}

pub not_spent : (most n : ℕ) → nat_le most n ≡ false → n < most
not_spent most n e = elim (leb_tells most n) [ inl x ↦ absurd (false_true (sym e ∙ x.0)) | inr y ↦ omega (arith, y.1) ]

module _ {N : Type 0} (scene : N → Scene) (most : N → ℕ) (names : N → List (List ℕ)) (journal : N → Journal) where
  pub no_change : (old : N) → Stays scene most names old old
  no_change old = record { scene_is = refl; most_is = refl; names_are = refl }

  pub stays_on : (old now new : N) → Stays scene most names old now → Stays scene most names now new
      → Stays scene most names old new
  stays_on old now new s t = record {
    scene_is = t.scene_is ∙ s.scene_is;
    most_is = t.most_is ∙ s.most_is;
    names_are = t.names_are ∙ s.names_are;
  }

  pub first_goes : (old : N) → walks.Goes scene most names journal old old
  first_goes old = record { stays = no_change old; left = omega arith }

  pub goes_on : (old now new : N) → walks.Goes scene most names journal old now → Stays scene most names now new
      → left_of (most new) (journal new) ≤ left_of (most now) (journal now)
      → walks.Goes scene most names journal old new
  goes_on old now new g t l = record { stays = stays_on old now new g.stays t; left = omega (arith, g.left, l) }

  -- agents of the network, and the user's updates, are so afterwards too
  pub agent_stays : (old now : N) (a : ℕ) → Stays scene most names old now → a < length (names old)
      → a < length (names now)
  agent_stays old now a s h = subst (λ (ns : List (List ℕ)). a < length ns) (sym s.names_are) h

  pub user_stays : (old now : N) (m : code.Chained) → Stays scene most names old now → IsOfUser (scene old)
      (chained_view (names old) m)
      → IsOfUser (scene now) (chained_view (names now) m)
  user_stays old now m s u =
      subst (λ (ns : List (List ℕ)). IsOfUser (scene now) (chained_view ns m)) (sym s.names_are)
      (subst (λ (x : Scene). IsOfUser x (chained_view (names old) m)) (sym s.scene_is) u)

  pub user_taken : (old now : N) (m taken : code.Chained) → Stays scene most names old now
      → chained_view (names old) taken ≡ chained_view (names old) m → IsOfUser (scene old) (chained_view (names old) m)
      → IsOfUser (scene now) (chained_view (names now) taken)
  user_taken old now m taken s e u = user_stays old now taken s (subst (IsOfUser (scene old)) (sym e) u)

  pub user_onward : (old now : N) (owner : ℕ) (message : code.Chained) (reference : code_reference.Reference)
      (onward : code.Chained) (agents : List AccessPoint) → Stays scene most names old now
      → Carries (names old) owner message reference onward agents
      → IsOfUser (scene old) (chained_view (names old) message) → IsOfUser (scene now) (chained_view (names now) onward)
  user_onward old now owner message reference onward agents s c u =
      user_stays old now onward s (carried_user (scene old) (names old) owner message reference onward agents c u)

  pub agents_stay : (old now : N) (agents : List AccessPoint) → Stays scene most names old now
      → are_agents (length (names old)) (map (access_view (names old)) agents) ≡ true
      → are_agents (length (names now)) (map (access_view (names now)) agents) ≡ true
  agents_stay old now agents s t =
      subst (λ (ns : List (List ℕ)). are_agents (length ns) (map (access_view ns) agents) ≡ true) (sym s.names_are) t

  -- who is asked next is an agent of the network
  pub next_agent : (old now : N) (agents xs : List AccessPoint) (n : ℕ) (x : AccessPoint) → Stays scene most names old
      now
      → xs ≡ agents → n < length xs → x ≡ get_or xs n x
      → are_agents (length (names old)) (map (access_view (names old)) agents) ≡ true
      → access_view (names now) x < length (names now)
  next_agent old now agents xs n x s is h e t =
      agent_at (length (names now)) (access_view (names now)) xs n x h e
      (agents_stay old now xs s
      (subst (λ (ys : List AccessPoint). are_agents (length (names old)) (map (access_view (names old)) ys) ≡ true)
      (sym is) t))

  pub next_to : (now : N) (x : AccessPoint) (a : ℕ) → a ≡ access_view (names now) x → access_view (names now) x < length
      (names now)
      → a < length (names now)
  next_to now x a e h = subst (λ (b : ℕ). b < length (names now)) (sym e) h

  pub next_reference : (old now : N) (references xs : List code_reference.Reference) (n : ℕ)
      (x : code_reference.Reference)
      → Stays scene most names old now → xs ≡ references → n < length xs → x ≡ get_or xs n x
      → name_agents (length (names old)) (map (reference_view (names old)) references) ≡ true
      → are_agents (length (names now)) (map (access_view (names now)) x.agents) ≡ true
  next_reference old now references xs n x s is h e t =
      agents_stay old now x.agents s
      (test_at (λ r. are_agents (length (names old)) r.agents) (reference_view (names old)) xs n x h e
      (subst (λ (ys : List code_reference.Reference). name_agents (length (names old)) (map (reference_view (names old))
      ys) ≡ true) (sym is) t))

  -- ---- a message

  module _ (old now : N) (from to : ℕ) (m : code.Chained) (x : Carried)
      (is : IsCarriedBy (scene old) (most old) (names old) (journal old) (journal now) (Some from) to
      (chained_view (names old) m) x)
      (o : Hand) (r : Reference) (c : chained_view (names old) m ≡ carried_for (Some from) o r) where
    pub ask_spent : (y : code_reply.Reply) → x ≡ carried.Spent → ((ns : List (List ℕ)) → reply_view ns y ≡ limit_reply)
        → DoesAt scene most journal old now (Sends (Some from) o r to (Hears (reply_view (names old) y)))
    ask_spent y e limit =
        let w = subst (IsCarriedBy (scene old) (most old) (names old) (journal old) (journal now) (Some from) to
        (chained_view (names old) m)) e is in
        spent_does to (reply_view (names old) y) refl w.0 w.1 (limit (names old))

    pub ask_lost : x ≡ carried.Undelivered → DoesAt scene most journal old now (Sends (Some from) o r to Unheard)
    ask_lost e =
        let w = subst (IsCarriedBy (scene old) (most old) (names old) (journal old) (journal now) (Some from) to
        (chained_view (names old) m)) e is in
        lost_does to (chained_view (names old) m) refl c w.0 w.1 w.2

    pub ask_dropped : (new : N) (taken : code.Chained) (y : code_reply.Reply) → x ≡ carried.Unheard taken
        → Stays scene most names old now
        → DoesAt scene most journal now new (Serves (hand to (chained_view (names now) taken)) (reply_view (names now)
        y))
        → DoesAt scene most journal old new (Sends (Some from) o r to Unheard)
    ask_dropped new taken y e s d =
        let w = subst (IsCarriedBy (scene old) (most old) (names old) (journal old) (journal now) (Some from) to
        (chained_view (names old) m)) e is in
        dropped_does to (chained_view (names old) m) (reply_view (names old) y) refl c w.0 w.1
        (rw w.2 at (rw w.3 at (rw (s.scene_is, s.most_is, s.names_are) at d)))

    pub ask_heard : (then new : N) (taken : code.Chained) (y back last : code_reply.Reply) → x ≡ carried.Taken taken
        → Stays scene most names old now → Stays scene most names now then
        → DoesAt scene most journal now then (Serves (hand to (chained_view (names now) taken)) (reply_view (names now)
        y))
        → reply_view (names then) back ≡ reply_view (names then) y
        → DoesAt scene most journal then new (Follows (Some from) (hand to (chained_view (names then) taken))
        (reply_view (names then) back) (reply_view (names then) last))
        → DoesAt scene most journal old new (Sends (Some from) o r to (Hears (reply_view (names old) last)))
    ask_heard then new taken y back last e s t d b u =
        let w = subst (IsCarriedBy (scene old) (most old) (names old) (journal old) (journal now) (Some from) to
        (chained_view (names old) m)) e is in
        sends_does to (chained_view (names old) m) (reply_view (names old) y) (reply_view (names old) last) refl c w.0 w.1
        (rw w.2 at (rw w.3 at (rw (s.scene_is, s.most_is, s.names_are) at d)))
        (rw w.3 at (rw (s.scene_is, s.most_is, s.names_are) at (rw (t.scene_is, t.most_is, t.names_are) at
        (rw b at u))))

  -- its message was taken as it was sent
  pub taken_is : (old now : N) (from to : ℕ) (m : code.Chained) (x : Carried) (taken : code.Chained)
      → IsCarriedBy (scene old) (most old) (names old) (journal old) (journal now) (Some from) to
      (chained_view (names old) m) x
      → x ≡ carried.Taken taken → chained_view (names old) taken ≡ chained_view (names old) m
  taken_is old now from to m x taken is e =
      (subst (IsCarriedBy (scene old) (most old) (names old) (journal old) (journal now) (Some from) to
      (chained_view (names old) m)) e is).3

  -- and it takes one of those that were left
  pub taken_less : (old now : N) (from to : ℕ) (m : code.Chained) (x : Carried) (taken : code.Chained)
      → IsCarriedBy (scene old) (most old) (names old) (journal old) (journal now) (Some from) to
      (chained_view (names old) m) x
      → x ≡ carried.Taken taken → Stays scene most names old now
      → left_of (most now) (journal now) < left_of (most old) (journal old)
  taken_less old now from to m x taken is e s =
      let w = subst (IsCarriedBy (scene old) (most old) (names old) (journal old) (journal now) (Some from) to
      (chained_view (names old) m)) e is in
      let more : length (journal now).lines ≡ suc (length (journal old).lines) = ap (λ (j : Journal). length j.lines)
      w.2 in
      let some : length (journal old).lines < most old = not_spent (most old) (length (journal old).lines) w.0 in
      omega (arith, more, some, s.most_is)

  -- what is heard back may be relied on
  pub back_told : (now then : N) (me : ℕ) (m : code.Chained) (y back : code_reply.Reply)
      → KnowsAgents (length (names now)) (scene now) → Stays scene most names now then → me < length (names now)
      → DoesAt scene most journal now then (Serves (hand me (chained_view (names now) m)) (reply_view (names now) y))
      → reply_view (names then) back ≡ reply_view (names then) y
      → IsTold (length (names then)) (reply_view (names then) back)
  back_told now then me m y back knows s h d b =
      let told = served_told (length (names now)) (scene now) (most now) (hand me (chained_view (names now) m))
      (reply_view (names now) y) (journal now) (journal then) knows h d in
      subst (λ (z : Reply). IsTold (length (names then)) z) (sym b)
      (subst (λ (ns : List (List ℕ)). IsTold (length ns) (reply_view ns y)) (sym s.names_are) told)

  pub last_told : (old then new : N) (from : ℕ) (k : code.Chained) (to : ℕ) (back last : code_reply.Reply)
      → KnowsAgents (length (names then)) (scene then) → Stays scene most names old then
      → DoesAt scene most journal then new (Follows (Some from) (hand to (chained_view (names then) k))
      (reply_view (names then) back) (reply_view (names then) last))
      → IsTold (length (names then)) (reply_view (names then) back)
      → IsTold (length (names old)) (reply_view (names old) last)
  last_told old then new from k to back last knows s d told =
      let after = followed_told (length (names then)) (scene then) (most then) (Some from)
      (hand to (chained_view (names then) k)) (reply_view (names then) back) (reply_view (names then) last)
      (journal then) (journal new) knows d told in
      subst (λ (ns : List (List ℕ)). IsTold (length ns) (reply_view ns last)) s.names_are after
