-- A user's message from its first line to its reply is one of the three of the relation: the message is lost, the reply
-- is lost, or he has the reply.
use Rattle.std.proofs.Common.{◌≡◌, ℕ, ◌+◌, ◌<◌, ◌≤◌, true, false, List, [], length, refl, sym, ap, subst, ◌∙◌, arith, None}
use Rattle.x5_model.specs.References.{Chained}
use Rattle.x5_model.specs.Requests.{Request}
use Rattle.x5_model.specs.Answers.{Reply}
use Rattle.x5_model_fitting.specs.Requests.{RequestWithin}
use Rattle.x5_model_run.specs.Chain.{Scene}
use Rattle.x5_model_run.specs.Journal.{Journal}
use Rattle.x5_model_serve.specs.Serving.{Act, Serves, Does, IsRequest, not_heard, not_told, answers, hand, nothing_yet, user_line, with_line, user_in_vain}
use Rattle.x5_ops.specs.ReferenceViews.{chained_view}
use Rattle.x5_serve.specs.Networks.{IsCarriedBy}
use Rattle.x5_serve.specs.declared.network.Carried.{Carried}
use Rattle.x5_serve.specs.declared.network.Carried.TheVariants.{Undelivered, Unheard, Taken}
use Rattle.x5_ops.specs.declared.references.Chained as code
use Rattle.x5_model_run.specs.Holdings.{Holdings}
use Rattle.x5_world.specs.State.{Net, HasShortNames, holdings_in, logs_in}
use Rattle.x5_world.specs.Sent.{IsChanged, IsNet, IsUnderWay}

nobody_yet : false ≡ true → ⊥
nobody_yet e = cc

-- before its first message
pub begun : (n now : Net) (first most : ℕ) (m : Chained) → now ≡ n → IsNet n → first < length n.names
    → HasShortNames m.request.body → RequestWithin m.request → n.sent + most ≤ 18446744073709551615
    → IsUnderWay n now first m most [] []
begun n now first most m same net there short within room =
    record {
      net = net;
      changed = record {
        rest = same ∙ (λ i. record n { agents = (sym same i).agents; logs = (sym same i).logs });
        count = ap (λ (x : Net). length x.agents) same;
        kept = ap (λ (x : Net). length x.logs) same;
        holds = λ a. ap (λ (x : Net). holdings_in x a) same;
        notes = λ a h. absurd (nobody_yet h);
        others = λ a h. ap (λ (x : Net). logs_in x a) same;
      };
      there = there;
      short = short;
      request = within;
      room = room;
      within = (let z : 0 ≤ most = omega arith in z);
      counted = refl;
      agents = refl;
      journal = λ l i. elim i [ ];
    }

-- what became of the user's message, which was the first
abbrev pub IsFirst : Scene → ℕ → List (List ℕ) → Journal → Carried → Type 0
IsFirst s most names j x = IsCarriedBy s most names nothing_yet j None s.first s.message x

-- what it is carried by
pub record At : Type 0 where
  pub scene : Scene
  pub most : ℕ
  pub names : List (List ℕ)
  pub before : Journal
  pub to : ℕ
  pub message : Chained
  pub carried : Carried

pub first_is : (a : At) (s : Scene) (most : ℕ) (names : List (List ℕ)) (j : Journal) (x : Carried)
    → a.scene ≡ s → a.most ≡ most → a.names ≡ names → a.before ≡ nothing_yet → a.to ≡ s.first → a.message ≡ s.message
    → a.carried ≡ x → IsCarriedBy a.scene a.most a.names a.before j None a.to a.message a.carried
    → IsFirst s most names j x
first_is a s most names j x scene limit called before to message carried h =
    let same : a ≡ record {
      scene = s;
      most = most;
      names = names;
      before = nothing_yet;
      to = s.first;
      message = s.message;
      carried = x;
    } =
    (λ i. record {
      scene = scene i;
      most = limit i;
      names = called i;
      before = before i;
      to = to i;
      message = message i;
      carried = carried i;
    }) in
    subst (λ (q : At). IsCarriedBy q.scene q.most q.names q.before j None q.to q.message q.carried) same h

-- the message that its receiver has
pub unheard_has : (s : Scene) (most : ℕ) (names : List (List ℕ)) (j : Journal) (m : code.Chained)
    → IsFirst s most names j (Unheard m) → chained_view names m ≡ s.message
unheard_has s most names j m h = h.3

pub taken_has : (s : Scene) (most : ℕ) (names : List (List ℕ)) (j : Journal) (m : code.Chained)
    → IsFirst s most names j (Taken m) → chained_view names m ≡ s.message
taken_has s most names j m h = h.3

-- ---- the three ends

pub lost : (s : Scene) (most : ℕ) (names : List (List ℕ)) (j l : Journal) (y : Reply)
    → IsFirst s most names j Undelivered → l ≡ j → y ≡ user_in_vain s → IsRequest s most l y
lost s most names j l y h same e =
    subst (λ (x : Journal). IsRequest s most x y) (sym (same ∙ h.2))
    (subst (λ (z : Reply). IsRequest s most (with_line (user_line s) nothing_yet) z) (sym e) (not_heard h.1))

pub served : (s t : Scene) (most k : ℕ) (first : ℕ) (m : Chained) (y z : Reply) (i j l : Journal)
    → t ≡ s → k ≡ most → first ≡ s.first → m ≡ s.message → z ≡ y → l ≡ j → Does t k (Serves (hand first m) z) i j
    → Does s most (Serves (hand s.first s.message) y) i l
served s t most k first m y z i j l scene limit to message reply after d =
    subst (λ (x : Journal). Does s most (Serves (hand s.first s.message) y) i x) (sym after)
    (subst (λ (x : Act). Does s most x i j) (λ a. Serves (hand (to a) (message a)) (reply a))
    (subst (λ (x : ℕ). Does s x (Serves (hand first m) z) i j) limit
    (subst (λ (x : Scene). Does x k (Serves (hand first m) z) i j) scene d)))

pub in_vain : (s : Scene) (most : ℕ) (names : List (List ℕ)) (j l : Journal) (m : code.Chained) (x y : Reply)
    → IsFirst s most names j (Unheard m) → Does s most (Serves (hand s.first s.message) x) j l → y ≡ user_in_vain s
    → IsRequest s most l y
in_vain s most names j l m x y h d e =
    subst (λ (z : Reply). IsRequest s most l z) (sym e)
    (not_told x h.1
    (subst (λ (b : Journal). Does s most (Serves (hand s.first s.message) x) b l) h.2 d))

pub heard : (s : Scene) (most : ℕ) (names : List (List ℕ)) (j l : Journal) (m : code.Chained) (y : Reply)
    → IsFirst s most names j (Taken m) → Does s most (Serves (hand s.first s.message) y) j l → IsRequest s most l y
heard s most names j l m y h d =
    answers y h.1 (subst (λ (b : Journal). Does s most (Serves (hand s.first s.message) y) b l) h.2 d)

-- ---- what has changed at the end

pub changed_is : (n now out : Net) (q r : Request) (xs ys : List ℕ) → out ≡ now → q ≡ r → ys ≡ xs → IsChanged n now q xs
    → IsChanged n out r ys
changed_is n now out q r xs ys e f g h =
    subst (λ (x : Net). IsChanged n x r ys) (sym e)
    (subst (λ (x : Request). IsChanged n now x ys) f (subst (IsChanged n now q) (sym g) h))
