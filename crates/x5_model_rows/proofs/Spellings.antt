-- A pin that an agent knows twice, in two spellings. Of what excludes a pin from a nonSpecific reference a mastered
-- context comes first, then a copy, then a reference; of references by which a name goes on a subordinate one comes
-- before a cross one, and those of mastered contexts before those of copies. The first spelling is carried and told,
-- and the last is refused.
use Rattle.std.specs.Prelude.{◌≡◌, ℕ, zero, suc, ◌+◌, ◌==◌, true, false, IsTrue, List, [], ◌∷◌, map}
use Rattle.std.specs.List.{Contains}
use Rattle.std.specs.declared.option.Option.TheVariants.{None, Some}
use Rattle.std.proofs.Common.{refl, arith, ap, sym, subst}
use lib.Chars.{codes}
use Rattle.x5_model.specs.Words.{first_of}
use Rattle.x5_model.specs.Values.{Text, Rdn, Name, Known, TextValue, key_of}
use Rattle.x5_model.specs.Requests.{Request, Read, Only, OneLevel, WholeSubtree}
use Rattle.x5_model.specs.References.{Next, Done, Subordinate, Cross, NonSpecific, RefType, Reference}
use Rattle.x5_model.specs.Answers.{Source, Answer, EntryFound, Found, Answered}
use Rattle.x5_model_tree.specs.World.{Specific, Context, Agent, World}
use Rattle.x5_model_tree.specs.Consistent.{first_breach}
use Rattle.x5_model_run.specs.Network.{Down, Fate, Lost, Sent}
use Rattle.x5_model_run.specs.Journal.{Line, Journal, depth, settled}
use Rattle.x5_model_run.specs.Holdings.{Held, Holdings}
use Rattle.x5_model_run.specs.Needs.{reference, treated_below, needs}
use Rattle.x5_model_run.specs.History.{Point, Outs, Refreshes, holdings_at}
use Rattle.x5_model_run.specs.Chain.{Scene, Follows, Caused, later, Licensed, carried, opening, scene_at}
use Rattle.x5_model_run.specs.Blocked.{Blocked, untried, lost, user, asked, by_user, hears_by}
use Rattle.x5_model_run.specs.Right.{Right, AnswersRight, result}
use Rattle.x5_model_run.specs.Thorough.{Thorough}
use Rattle.x5_model_run.proofs.Licensing.{opener_is, licensed_by, licensed_first}
use Rattle.x5_model_serve.specs.Answering.{rest_of_parts}
use Rattle.x5_model_rows.proofs.Literals.{rdn, under, plainly}
use Rattle.x5_model_rows.proofs.BaseWorld.{nl, acme, shop_rdn, shop, nl_entry, acme_entry, desk, desk_entry}
use Rattle.x5_model_rows.proofs.BaseWorld.{acme_context, shop_context, alpha, beta, gamma, delta, epsilon}
use Rattle.x5_model_rows.proofs.BaseWorld.{first_agreement, world_of}
use Rattle.x5_model_rows.proofs.Messages.{asks, passes, passes_less, journal, did, point, now, info, bare, copied}
use Rattle.x5_model_rows.proofs.Messages.{shows, left_out}
use Rattle.x5_model_rows.proofs.Searching.{everything, below_acme}
use Rattle.x5_model_rows.proofs.Refused.{no}

-- ---- how a spelling is refused

-- the first letter of the first value of each: names that differ in capitals differ in it
abbrev pub letter_of_text : Text → ℕ
letter_of_text [] = 0
letter_of_text (c ∷ cs) = c

abbrev pub letter_of_rdn : Rdn → ℕ
letter_of_rdn [] = 0
letter_of_rdn (t ∷ ts) = letter_of_text t.text

abbrev pub letter_of : List Rdn → ℕ
letter_of [] = 0
letter_of (r ∷ rs) = letter_of_rdn r

only_one : (r x : Reference) → Contains (r ∷ []) x → r ≡ x
only_one r x (zero, l, e) = e
only_one r x (suc i, l, e) = absurd (omega (arith, l))

-- where the opener needs one reference, no line carries another
no_other : {s : Scene} {before : List Line} {l : Line} (n : ℕ) (o : Line) (r : Reference) → depth l ≡ n + 1
    → first_of (settled n before) ≡ Some o → needs (s.holdings o.receiver) o.message ≡ r ∷ []
    → (l.message ≡ carried l.sender o.receiver o.message r → ⊥) → Follows s before l → ⊥
no_other {s} {before} {l} n o r e opens needed never f =
    let same : o ≡ f.opener = opener_is f n o e opens in
    let alone : Contains (needs (s.holdings o.receiver) o.message) f.reference =
    subst (λ (x : Line). Contains (needs (s.holdings x.receiver) x.message) f.reference) (sym same) f.needed in
    let is : r ≡ f.reference =
    only_one r f.reference (subst (λ (xs : List Reference). Contains xs f.reference) needed alone) in
    let by : l.message ≡ carried l.sender o.receiver o.message f.reference =
    subst (λ (x : Line). l.message ≡ carried l.sender x.receiver x.message f.reference) (sym same) f.carries in
    never (subst (λ (x : Reference). l.message ≡ carried l.sender o.receiver o.message x) (sym is) by)

-- ---- exclusions

-- Beta has a copy of Shop, by an agreement that says OU=Shop, and a subordinate reference to it that says OU=shop.
abbrev pub small_rdn : Rdn
small_rdn = rdn 11 (codes "shop") (codes "shop")

abbrev pub small_shop : Name
small_shop = under acme small_rdn

abbrev pub asks_gamma : Context
asks_gamma = record acme_context { nssrs = (record { at = acme; agents = 2 ∷ [] }) ∷ [] }

abbrev pub by_reference : ℕ → List ℕ → Specific
by_reference master shadows = record { pin = small_shop; access = record { master = master; shadows = shadows } }

abbrev pub copies_shop : World
copies_shop =
    world_of (alpha ∷ (record beta {
      contexts = asks_gamma ∷ [];
      subordinate = by_reference 3 (1 ∷ []) ∷ [];
      crosses = false ∷ [];
    }) ∷ gamma ∷ delta ∷ epsilon ∷ [])
    (first_agreement ∷ (record { number = 2; supplier = 3; consumer = 1; context = shop }) ∷ [])

pub copies_consistent : first_breach copies_shop ≡ None
copies_consistent = refl

-- once it's refreshed Gamma goes down
abbrev pub refreshed_once : Point
refreshed_once =
    point copies_shop (did (Outs (Down 2)) 0
    ∷ did (Refreshes (record { agreement = 2; total = true; stamp = 1; count = 2; acknowledged = true })) 2 ∷ [])

abbrev pub below_scene : Scene
below_scene = scene_at refreshed_once 1 below_acme

abbrev pub below_at_beta : Line
below_at_beta = asks 3 1 below_acme Sent

abbrev pub to_gamma : List Rdn → Line
to_gamma less = passes_less 4 below_at_beta 2 acme less below_acme Lost

abbrev pub below_journal : List Rdn → Journal
below_journal less = journal (below_at_beta ∷ to_gamma less ∷ [])

abbrev pub of_copy : Source
of_copy = record { context = shop; agent = 1; moment = Some 1 }

abbrev pub without : List Rdn → Reference
without less = record (reference acme Done NonSpecific (2 ∷ [])) { exclusions = less }

abbrev pub below_answer : List Rdn → Answer
below_answer less =
    Found (bare desk ∷ copied (bare shop) ∷ []) (now acme 1 ∷ of_copy ∷ [])
    (left_out (record (without less) { tried = true } ∷ []))

-- The copy's spelling is sent to Gamma, and told of what is left out.
pub by_copy : AnswersRight refreshed_once 1 below_acme (below_journal (shop_rdn ∷ []))
    (Answered (below_answer (shop_rdn ∷ [])))
by_copy = record {
  licensed = (
    licensed_by below_at_beta 0 0 refl refl refl refl refl,
    (licensed_first refl refl refl refl refl, tt),
  );
  accepts = record { one = refl; right = refl; probed = refl };
  finished = record { done = refl; at_once = refl };
  answer = result refl (record {
    found = refl;
    sources = refl;
    spelled = refl;
    once = refl;
    exactly = refl;
    answered = refl;
    blocked = (
      lost (asked (record {
        line = below_at_beta;
        full = without (shop_rdn ∷ []);
        stands = (1, omega arith, refl);
        back = refl;
        needed = (0, omega arith, refl);
        same = refl;
        listed = refl;
        vain = refl;
        cleared = refl;
      })),
      tt,
    );
    completed = refl;
    apart = refl;
  }) refl refl;
}

pub below_thorough : Thorough below_scene (below_journal (shop_rdn ∷ []))
below_thorough = refl

-- The reference's spelling isn't sent, and neither are both,
abbrev pub one_need : List Reference
one_need = without (shop_rdn ∷ []) ∷ []

pub needs_copy : needs (below_scene.holdings 1) below_at_beta.message ≡ one_need
needs_copy = refl

pub no_small_message : Licensed below_scene (below_at_beta ∷ []) (to_gamma (small_rdn ∷ [])) → ⊥
no_small_message l = by l.cause
  where
    never : (to_gamma (small_rdn ∷ [])).message ≡ carried (Some 1) 1 below_at_beta.message (without (shop_rdn ∷ [])) → ⊥
    never e = (let f : ◌≡◌ {A = ℕ} 115 83 = ap (λ m. letter_of m.exclusions) e in omega (arith, f))

    by : Caused below_scene (below_at_beta ∷ []) (to_gamma (small_rdn ∷ [])) → ⊥
    by (later f fresh) = no_other 0 below_at_beta (without (shop_rdn ∷ [])) refl refl needs_copy never f

-- and it isn't told: not even where the right one was sent.
abbrev pub sent_lines : List Line
sent_lines = to_gamma (shop_rdn ∷ []) ∷ below_at_beta ∷ []

abbrev pub small_left : Reference
small_left = record (without (small_rdn ∷ [])) { tried = true }

pub no_small_left : Blocked below_scene (by_user below_scene) sent_lines small_left → ⊥
no_small_left (untried u) = no u.idle
no_small_left (lost (user u)) = no u.unheard
no_small_left (lost (asked a)) = by a.line a.full a.stands a.back a.needed (ap (λ r. letter_of r.exclusions) a.same)
  where
    by : (o : Line) (f : Reference) → Contains sent_lines o
        → IsTrue (hears_by (λ l. l.number == o.number) (by_user below_scene) sent_lines)
        → Contains (needs (below_scene.holdings o.receiver) o.message) f
        → ◌≡◌ {A = ℕ} 115 (letter_of f.exclusions) → ⊥
    by o f (zero, l, e) back needed same =
        no (subst (λ (x : Line). hears_by (λ l. l.number == x.number) (by_user below_scene) sent_lines ≡ true) (sym e)
        back)
    by o f (suc zero, l, e) back needed same =
        let in_needs : Contains one_need f =
        subst (λ (x : Line). Contains (needs (below_scene.holdings x.receiver) x.message) f) (sym e) needed in
        let upper : ◌≡◌ {A = ℕ} 83 (letter_of f.exclusions) =
        ap (λ r. letter_of r.exclusions) (only_one (without (shop_rdn ∷ [])) f in_needs) in
        omega (arith, same, upper)
    by o f (suc (suc n), l, e) back needed same = omega (arith, l)

pub no_small_answer : Right refreshed_once below_scene (by_user below_scene) (below_journal (shop_rdn ∷ []))
    (Answered (below_answer (small_rdn ∷ []))) → ⊥
no_small_answer (result answered r query none) = no_small_left r.blocked.0

-- Where copies may not be used there is the reference alone, and its spelling is right.
abbrev pub at_masters : Request
at_masters = record below_acme { controls = record { nocopy = true; nochain = false; size = None } }

abbrev pub beta_holds : Holdings
beta_holds = holdings_at refreshed_once 1

abbrev pub acme_held : Holdings → Held
acme_held h = first_held h.own
  where
    first_held : List Held → Held
    first_held [] = record { prefix = []; entries = []; subordinate = []; nssrs = [] }
    first_held (c ∷ cs) = c

pub by_reference_alone :
    treated_below beta_holds (opening at_masters) (acme_held beta_holds) (key_of acme) ≡ small_rdn ∷ []
by_reference_alone = refl

-- Beta masters Shop itself, and still has the reference, which names it: its context's spelling comes first. Refused:
-- the reference's, and both.
abbrev pub masters_shop : World
masters_shop =
    world_of (alpha ∷ (record beta {
      contexts = asks_gamma ∷ shop_context ∷ [];
      subordinate = by_reference 1 [] ∷ [];
      crosses = false ∷ [];
    }) ∷ gamma ∷ (record delta { contexts = [] }) ∷ epsilon ∷ []) (first_agreement ∷ [])

pub masters_consistent : first_breach masters_shop ≡ None
masters_consistent = refl

abbrev pub master_holds : Holdings
master_holds = holdings_at (point masters_shop []) 1

pub by_context : needs master_holds (opening below_acme) ≡ without (shop_rdn ∷ []) ∷ []
by_context = refl

-- ---- references by which a name goes on

-- Alpha knows Acme by a subordinate reference, with C=NL, and by a cross reference, with C=nl. A message for a desk
-- that is spelled C=Nl goes on as the first has it.
abbrev pub small_acme : Name
small_acme = rdn 6 (codes "nl") (codes "nl") ∷ rdn 10 (codes "acme") (codes "acme") ∷ []

abbrev pub both_ways : World
both_ways =
    world_of ((record alpha {
      cross = (record { pin = small_acme; access = record { master = 1; shadows = [] } }) ∷ [];
      crosses = true ∷ false ∷ [];
    }) ∷ beta ∷ gamma ∷ delta ∷ epsilon ∷ []) (first_agreement ∷ [])

pub both_consistent : first_breach both_ways ≡ None
both_consistent = refl

abbrev pub desk_below : Text → Name
desk_below country =
    rdn 6 country (codes "nl") ∷ rdn 10 (codes "aCME") (codes "acme") ∷ rdn 3 (codes "desk") (codes "desk") ∷ []

abbrev pub read_desk : Request
read_desk = plainly (Read (desk_below (codes "Nl")) (Only (Known 3 ∷ [])))

abbrev pub desk_at_alpha : Line
desk_at_alpha = asks 1 0 read_desk Sent

abbrev pub desk_at_beta : Text → RefType → Line
desk_at_beta country kind = passes 2 desk_at_alpha 1 (desk_below country) (Next 2) kind read_desk Sent

abbrev pub to_desk : Reference
to_desk = reference (desk_below (codes "NL")) (Next 2) Subordinate (1 ∷ 4 ∷ [])

abbrev pub desk_scene : Scene
desk_scene = scene_at (point both_ways []) 0 read_desk

pub desk_read : AnswersRight (point both_ways []) 0 read_desk
    (journal (desk_at_alpha ∷ desk_at_beta (codes "NL") Subordinate ∷ []))
    (Answered (EntryFound (info desk (shows 3 (TextValue (codes "Desk") ∷ []) ∷ [])) (now acme 1)))
desk_read = record {
  licensed = (
    licensed_by desk_at_alpha 0 0 refl refl refl refl refl,
    (licensed_first refl refl refl refl refl, tt),
  );
  accepts = record { one = refl; right = refl; probed = refl };
  finished = record { done = refl; at_once = refl };
  answer = result refl (record {
    found = refl;
    sources = refl;
    spelled = refl;
    once = refl;
    exactly = refl;
    answered = refl;
    blocked = tt;
    completed = refl;
    apart = refl;
  }) refl refl;
}

-- Refused: the cross reference's spelling, and the request's own, by a message of either kind.
pub no_other_target : (country : Text) (kind : RefType) → (letter_of_rdn (rdn 6 country (codes "nl")) == 78) ≡ false
    → Licensed desk_scene (desk_at_alpha ∷ []) (desk_at_beta country kind) → ⊥
no_other_target country kind unlike l = by l.cause
  where
    never : (desk_at_beta country kind).message ≡ carried (Some 0) 0 desk_at_alpha.message to_desk → ⊥
    never e =
        let f : letter_of_rdn (rdn 6 country (codes "nl")) ≡ 78 = ap (λ m. letter_of m.target) e in
        no (sym (subst (λ (n : ℕ). (n == 78) ≡ false) f unlike))

    by : Caused desk_scene (desk_at_alpha ∷ []) (desk_at_beta country kind) → ⊥
    by (later f fresh) = no_other 0 desk_at_alpha to_desk refl refl refl never f

-- ---- two references to one pin, in two spellings, where knowledge isn't consistent

-- An agent masters NL, which has an entry at Acme too, with a reference to C=NL, O=Acme, OU=LAB; it has a copy of Acme,
-- with a reference to C=nl, O=acme, OU=lab; and a cross reference as the copy's.
abbrev pub loud_lab : Name
loud_lab = under acme (rdn 11 (codes "LAB") (codes "lab"))

abbrev pub small_lab : Name
small_lab = under small_acme (rdn 11 (codes "lab") (codes "lab"))

abbrev pub refers : Name → ℕ → Specific
refers pin master = record { pin = pin; access = record { master = master; shadows = [] } }

abbrev pub over_copy : Holdings
over_copy = record {
  me = 0;
  superior = None;
  own =
      (record { prefix = nl; entries = nl_entry ∷ acme_entry ∷ []; subordinate = refers loud_lab 2 ∷ []; nssrs = [] })
      ∷ [];
  copies =
      (record {
        held = record {
          prefix = acme;
          entries = acme_entry ∷ desk_entry ∷ [];
          subordinate = refers small_lab 3 ∷ [];
          nssrs = [];
        };
        stamp = Some 1;
        supplier = 1;
      })
      ∷ [];
  root = [];
  cross = refers small_lab 4 ∷ [];
}

-- A name at or below the pin goes on by the mastered context's reference alone. Refused: the copy's and the cross one,
-- their agents, and the request's own spelling.
abbrev pub mixed_lab : Text → Text → Name
mixed_lab country organisation =
    rdn 6 country (codes "nl") ∷ rdn 10 organisation (codes "acme") ∷ rdn 11 (codes "lAB") (codes "lab") ∷ []

pub goes_by_own : needs over_copy (opening (plainly (Read (mixed_lab (codes "nL") (codes "aCME")) (Only []))))
    ≡ reference (mixed_lab (codes "NL") (codes "Acme")) (Next 3) Subordinate (2 ∷ []) ∷ []
goes_by_own = refl

-- A search asks both, and that of the context below first, which the walk leaves first. Refused: the other order, and
-- one of them alone.
pub both_are_asked : rest_of_parts over_copy (opening (everything nl WholeSubtree))
    ≡ reference small_lab Done Subordinate (3 ∷ []) ∷ reference loud_lab Done Subordinate (2 ∷ []) ∷ []
both_are_asked = refl
