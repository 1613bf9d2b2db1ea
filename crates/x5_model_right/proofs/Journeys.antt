-- Where the message at hand is: it is placed at its receiver, which is an agent, and it fits its request; so the
-- references that are needed for it ask others apart. By the causes of licensed lines.
use Rattle.std.proofs.Common.{◌≡◌, ℕ, zero, suc, ◌<◌, inl, inr, List, [], ◌∷◌, ◌++◌, length, slice_index, slice_index_or, refl, sym, ap, subst, arith}
use Rattle.std.specs.List.{Contains}
use Rattle.x5_model.specs.Members.{In, here, there}
use Rattle.x5_model.specs.References.{Reference, TraceItem, Chained}
use Rattle.x5_model.proofs.Lists.{in_first}
use Rattle.x5_model_run.specs.Journal.{Line, Journal, item_of}
use Rattle.x5_model_run.specs.Holdings.{Holdings}
use Rattle.x5_model_run.specs.Needs.{needs}
use Rattle.x5_model_run.specs.History.{Point, knowledge_at, holdings_at}
use Rattle.x5_model_run.specs.Chain.{Scene, AllLicensed, Caused, begins, later, carried, may_chain, IsFirst}
use Rattle.x5_model_run.proofs.Growing.{contains_more}
use Rattle.std.specs.Prelude.{IsTrue}
use Rattle.x5_model_run.specs.Placed.{Placed}
use Rattle.x5_model_theory.specs.Leading.{IsSound, IsGoing}
use Rattle.x5_model_theory.proofs.Carrying.{journals_are_placed}
use Rattle.x5_model_serve.specs.Serving.{Hand}
use Rattle.x5_model_serve.specs.Claims.{IsAgent, AtHand, Apart}
use Rattle.x5_model_bounds.proofs.Going.{sound_by}
use Rattle.x5_model_needs.proofs.Needed.{needs_apart}
use Rattle.x5_model_verdicts.proofs.At.{of_settled}
use Rattle.x5_model_right.specs.Kept.{Ground}
use Rattle.x5_model_right.specs.Journeys.{NeededAgents}
use Rattle.x5_model_right.proofs.Kept.{line_there}

-- ---- members by their places

of_index : {X : Type 0} (xs : List X) (i : ℕ) (x : X) → i < length xs → slice_index_or xs i x ≡ x → In x xs
of_index [] i x h e = absurd (omega arith)
of_index (y ∷ ys) zero x h e = subst (λ z. In z (y ∷ ys)) e here
of_index (y ∷ ys) (suc i) x h e = there (of_index ys i x (omega arith) e)

pub of_contains : {X : Type 0} (xs : List X) (x : X) → Contains xs x → In x xs
of_contains xs x c = of_index xs c.0 x c.1 c.2

pub contains_of : {X : Type 0} (xs : List X) (x : X) → In x xs → Contains xs x
contains_of [] x i = elim i [ ]
contains_of (x ∷ xs) _ here = (0, omega arith, refl)
contains_of (y ∷ xs) x (there i) = contains_more xs y x (contains_of xs x i)

pub in_agents : (xs : List ℕ) (i x : ℕ) → i < length xs → slice_index xs i ≡ x → In x xs
in_agents [] i x h e = absurd (omega arith)
in_agents (y ∷ ys) zero x h e = subst (λ z. In z (y ∷ ys)) e here
in_agents (y ∷ ys) (suc i) x h e = there (in_agents ys i x (omega arith) e)

-- what holds of the first line, and of each that follows from one of which it holds, holds of all
pub by_causes : (s : Scene) (P : Line → Type 0) → ((l : Line) → IsFirst s l → P l)
    → ((l o : Line) (r : Reference) → In r (needs (s.holdings o.receiver) o.message) → In l.receiver r.agents → l.message ≡ carried l.sender o.receiver o.message r → IsTrue (may_chain s l l.sender) → P o → P l)
    → (lines : List Line) (l : Line) → AllLicensed s lines → In l lines → P l
by_causes s P first step [] l all i = elim i [ ]
by_causes s P first step (x ∷ before) l all i =
    elim (in_first l x before i) [
      | inl e ↦ subst P (sym e) (caused before all.0.cause (λ o j. by_causes s P first step before o all.1 j))
      | inr j ↦ by_causes s P first step before l all.1 j
    ]
  where
    caused : (earlier : List Line) → Caused s earlier x → ((o : Line) → In o earlier → P o) → P x
    caused _ (begins f) more = first x f
    caused earlier (later f fresh) more =
        step x f.opener f.reference (of_contains (needs (s.holdings f.opener.receiver) f.opener.message) f.reference f.needed)
        (in_agents f.reference.agents f.turn.place x.receiver f.turn.inside f.turn.here) f.carries f.chains (more f.opener (of_settled f.above earlier f.opener f.opens))

module _ (p : Point) (s : Scene) (g : Ground p s) where
  pub sound : IsSound p
  sound = sound_by p s g.setting

  going : (trace : List TraceItem) → trace ≡ [] → IsGoing (knowledge_at p) (trace ++ item_of s.first s.message ∷ [])
  going trace e = subst (λ (xs : List TraceItem). IsGoing (knowledge_at p) (xs ++ item_of s.first s.message ∷ [])) (sym e) tt

  pub line_placed : (lines : List Line) (l : Line) → AllLicensed s lines → In l lines → Placed p l.message l.receiver
  line_placed lines l all i = (journals_are_placed p s lines l sound g.setting.holdings g.setting.first (going s.message.trace g.setting.untraced) all i).0

  pub line_agent : NeededAgents → (lines : List Line) (l : Line) → AllLicensed s lines → In l lines → IsAgent p l.receiver
  line_agent known =
      by_causes s (λ l. IsAgent p l.receiver) (λ l f. subst (IsAgent p) (sym f.receiver_is) g.setting.agent)
      (λ l o r needed listed carries chains before. (known p o.receiver o.message r sound (subst (λ (h : ℕ → Holdings). In r (needs (h o.receiver) o.message)) g.setting.holdings needed)).1 l.receiver listed)

  module _ (k : Hand) (i : Journal) (at : AtHand p s k i) where
    pub placed_here : Placed p k.message k.receiver
    placed_here =
        subst (λ (m : Chained). Placed p m k.receiver) at.message_is
        (subst (λ (n : ℕ). Placed p at.line.message n) at.receiver_is (line_placed i.lines at.line at.licensed (line_there p s k i at)))

    pub agent_here : NeededAgents → IsAgent p k.receiver
    agent_here known = subst (IsAgent p) at.receiver_is (line_agent known i.lines at.line at.licensed (line_there p s k i at))

    pub needs_here : (s.holdings k.receiver) ≡ holdings_at p k.receiver
    needs_here = ap (λ (h : ℕ → Holdings). h k.receiver) g.setting.holdings

    pub apart_here : NeededAgents → Apart (needs (s.holdings k.receiver) k.message)
    apart_here known =
        subst (λ (h : Holdings). Apart (needs h k.message)) (sym needs_here)
        (needs_apart p k.receiver k.message g.setting.by_keys g.setting.copies (agent_here known) placed_here.fit)
