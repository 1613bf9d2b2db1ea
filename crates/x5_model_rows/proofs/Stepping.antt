-- What agents do with requests over the base world, step by step, as terms of the relation whose premises all
-- compute: reads by a superior reference, a subordinate one and an NSSR; an absent name; agents that are down or
-- refuse to chain; a search from the root; a probe that isn't heard; and updates whose reply is lost. The journals
-- and answers are those that Resolution, Searching, Probing and Losing show to be right. Since a request has one
-- outcome, others are refused. And a scene that no run has: a context without an entry is asked for a search.
use Rattle.std.specs.Prelude.{ℕ, [], ◌∷◌}
use Rattle.std.proofs.Common.{◌≡◌, length, refl, ap, Some, None, arith}
use lib.Chars.{codes}
use Rattle.x5_model.specs.Values.{Known, TextValue}
use Rattle.x5_model.specs.Requests.{WholeSubtree, Request}
use Rattle.x5_model.specs.References.{Start, Next, Done, Own, Superior, Subordinate, NonSpecific, Supplier, Reference}
use Rattle.x5_model.specs.Answers.{Answer, EntryFound, Found, Changed, NoSuchObject, AttributeProblem, ServiceProblem}
use Rattle.x5_model.specs.Answers.{Reply, Answered, Failed, Referred}
use Rattle.x5_model.specs.Problems.{invalid_attribute_syntax, unavailable, unable_to_proceed}
use Rattle.x5_model_run.specs.Network.{Lost, NoReply, Sent}
use Rattle.x5_model_run.specs.Journal.{Line, Journal}
use Rattle.x5_model_run.specs.Needs.{reference}
use Rattle.x5_model_run.specs.History.{Point}
use Rattle.x5_model_run.specs.Stage.{budget}
use Rattle.x5_model_run.specs.Chain.{Scene, opening, scene_with, scene_at, probe_request}
use Rattle.x5_model_run.specs.Run.{Judge}
use Rattle.x5_model_serve.specs.Serving.{Hand, hand, hand_of, Serves, Does, Hears, Whole, IsRequest, asked_by, answers}
use Rattle.x5_model_serve.specs.Serving.{not_told, not_heard, refused, stuck, refers, goes, casts, reads, gives_parts}
use Rattle.x5_model_serve.specs.Serving.{asks_parts, updates, does, misses, done_before, no_probe, clear, silent, lost}
use Rattle.x5_model_serve.specs.Serving.{dropped, sends, final, wide_referral, none_yet, heard, none_asked, unable_too}
use Rattle.x5_model_serve.specs.Serving.{silent_too, answered, nobody_has, some_silent, no_part, part_answered}
use Rattle.x5_model_determined.proofs.Once.{request_is_determined}
use Rattle.x5_model_rows.proofs.BaseWorld.{nl, acme, desk, jan, lab, shop, ada}
use Rattle.x5_model_rows.proofs.Messages.{asks, passes, journal, accepted_journal, now, info, bare, shows}
use Rattle.x5_model_rows.proofs.Messages.{whole_outcome, left_out}
use Rattle.x5_model_rows.proofs.Messages as messages
use Rattle.x5_model_rows.proofs.Resolution as resolution
use Rattle.x5_model_rows.proofs.Resolution.{at_first, read_jan, jan_journal, absent, read_absent, absent_at_beta}
use Rattle.x5_model_rows.proofs.Resolution.{absent_journal, read_lab, lab_at_alpha, lab_at_beta, lab_journal}
use Rattle.x5_model_rows.proofs.Resolution.{gamma_still_down, read_shop, shop_journal, beta_refuses, name_lab}
use Rattle.x5_model_rows.proofs.Resolution.{followed_journal, alpha_refuses, to_beta, beta_down, read_acme}
use Rattle.x5_model_rows.proofs.Resolution.{compare_country}
use Rattle.x5_model_rows.proofs.Searching.{everything, from_root, root_journal, the_sources, unchained, acme_reference}
use Rattle.x5_model_rows.proofs.Probing as probing
use Rattle.x5_model_rows.proofs.Probing.{new_lab, add_lab, again_at_beta, again_journal}
use Rattle.x5_model_rows.proofs.Losing.{losing_first, losing_second, losing_shadowed, put_lab, put_at_beta, put_journal}
use Rattle.x5_model_rows.proofs.Losing.{twice_journal}
use Rattle.x5_model_rows.proofs.Shadowing.{put_gears}

-- a message at a line of a run, and a user's request
abbrev pub IsHandled : Judge
IsHandled p first m j reply = IsRequest (scene_with p first m) (budget p) j reply

abbrev pub IsServed : Point → ℕ → Request → Journal → Reply → Type 0
IsServed p first r j reply = IsHandled p first (opening r) j reply

-- what an agent of an NSSR answers that can't go on
abbrev pub unable : Line → Reply
unable l = Failed (ServiceProblem unable_to_proceed (Some (asked_by (hand_of l))) None)

-- Jan at Delta: to Beta, which Delta has as its superior, and by Beta's NSSR to Gamma
abbrev pub jan_reply : Reply
jan_reply = Answered (EntryFound (info jan (shows 4 (TextValue (codes "Smit") ∷ []) ∷ [])) (now lab 2))

abbrev pub up : Reference
up = reference jan Start Superior (1 ∷ [])

abbrev pub jan_nssr : Reference
jan_nssr = reference jan (Next 3) NonSpecific (2 ∷ 3 ∷ [])

pub jan_served : IsServed at_first 3 read_jan jan_journal jan_reply
jan_served =
    answers jan_reply refl
    (goes up (Hears jan_reply) (record { unlooped = refl; short = refl; fresh = refl; unrefused = refl; fit = refl })
    refl refl refl
    (heard [] [] 1 jan_reply refl none_yet
    (sends 1 jan_reply jan_reply refl refl refl
    (casts jan_nssr jan_reply (record { unlooped = refl; short = refl; fresh = refl; unrefused = refl; fit = refl })
    refl refl refl
    (answered [] (3 ∷ []) [] 2 jan_reply refl refl none_asked
    (sends 2 jan_reply jan_reply refl refl refl
    (reads _ (record { unlooped = refl; short = refl; fresh = refl; unrefused = refl; fit = refl }) refl refl refl)
    (final jan_reply refl))))
    (final jan_reply refl))))

-- an absent name: neither agent of the NSSR can go on
abbrev pub absent_nssr : Reference
absent_nssr = reference absent (Next 3) NonSpecific (2 ∷ 3 ∷ [])

abbrev pub absent_by : ℕ → ℕ → Reply
absent_by number a = unable (passes number absent_at_beta a absent (Next 3) NonSpecific read_absent Sent)

pub absent_served : IsServed at_first 1 read_absent absent_journal (Failed (NoSuchObject acme))
absent_served =
    answers _ refl
    (casts absent_nssr (Failed (NoSuchObject acme))
    (record { unlooped = refl; short = refl; fresh = refl; unrefused = refl; fit = refl }) refl refl refl
    (nobody_has
    (unable_too 3 (absent_by 3 3) refl
    (unable_too 2 (absent_by 2 2) refl none_asked
    (sends 2 (absent_by 2 2) (absent_by 2 2) refl refl refl
    (stuck (record { unlooped = refl; short = refl; fresh = refl; unrefused = refl; fit = refl }) refl) (final _ refl)))
    (sends 3 (absent_by 3 3) (absent_by 3 3) refl refl refl
    (stuck (record { unlooped = refl; short = refl; fresh = refl; unrefused = refl; fit = refl }) refl)
    (final _ refl)))))

-- with Gamma down, Lab: Alpha asks Beta by its subordinate reference, and Beta hears nothing from Gamma
abbrev pub lab_reply : Reply
lab_reply = Failed (ServiceProblem unavailable (Some (messages.in_vain NonSpecific lab (Next 3) (2 ∷ []))) None)

abbrev pub lab_nssr : Reference
lab_nssr = reference lab (Next 3) NonSpecific (2 ∷ 3 ∷ [])

abbrev pub lab_by_delta : Reply
lab_by_delta = unable (passes 4 lab_at_beta 3 lab (Next 3) NonSpecific read_lab Sent)

pub lab_served : IsServed resolution.gamma_down 0 read_lab lab_journal lab_reply
lab_served =
    answers lab_reply refl
    (goes to_beta (Hears lab_reply)
    (record { unlooped = refl; short = refl; fresh = refl; unrefused = refl; fit = refl }) refl refl refl
    (heard [] (4 ∷ []) 1 lab_reply refl none_yet
    (sends 1 lab_reply lab_reply refl refl refl
    (casts lab_nssr lab_reply (record { unlooped = refl; short = refl; fresh = refl; unrefused = refl; fit = refl })
    refl refl refl
    (some_silent (2 ∷ []) refl
    (unable_too 3 lab_by_delta refl
    (silent_too 2 none_asked (lost 2 refl refl refl))
    (sends 3 lab_by_delta lab_by_delta refl refl refl
    (stuck (record { unlooped = refl; short = refl; fresh = refl; unrefused = refl; fit = refl }) refl)
    (final _ refl)))))
    (final lab_reply refl))))

-- and Shop, which Delta has: that Gamma wasn't heard doesn't matter
abbrev pub shop_reply : Reply
shop_reply = Answered (EntryFound (info shop (shows 11 (TextValue (codes "Shop") ∷ []) ∷ [])) (now shop 3))

abbrev pub to_shop : Reference
to_shop = reference shop (Next 2) Subordinate (1 ∷ 4 ∷ [])

abbrev pub shop_nssr : Reference
shop_nssr = reference shop (Next 3) NonSpecific (2 ∷ 3 ∷ [])

pub shop_served : IsServed gamma_still_down 0 read_shop shop_journal shop_reply
shop_served =
    answers shop_reply refl
    (goes to_shop (Hears shop_reply)
    (record { unlooped = refl; short = refl; fresh = refl; unrefused = refl; fit = refl }) refl refl refl
    (heard [] (4 ∷ []) 1 shop_reply refl none_yet
    (sends 1 shop_reply shop_reply refl refl refl
    (casts shop_nssr shop_reply (record { unlooped = refl; short = refl; fresh = refl; unrefused = refl; fit = refl })
    refl refl refl
    (answered (2 ∷ []) [] (2 ∷ []) 3 shop_reply refl refl
    (silent_too 2 none_asked (lost 2 refl refl refl))
    (sends 3 shop_reply shop_reply refl refl refl
    (reads _ (record { unlooped = refl; short = refl; fresh = refl; unrefused = refl; fit = refl }) refl refl refl)
    (final shop_reply refl))))
    (final shop_reply refl))))

-- Beta refuses to chain: it replies with its NSSR, and Alpha follows that
abbrev pub name_reply : Reply
name_reply = Answered (EntryFound (info lab (shows 11 (TextValue (codes "Lab") ∷ []) ∷ [])) (now lab 2))

pub followed_served : IsServed beta_refuses 0 name_lab followed_journal name_reply
followed_served =
    answers name_reply refl
    (goes to_beta (Hears name_reply)
    (record { unlooped = refl; short = refl; fresh = refl; unrefused = refl; fit = refl }) refl refl refl
    (heard [] (4 ∷ []) 1 name_reply refl none_yet
    (sends 1 (Referred lab_nssr) name_reply refl refl refl
    (refers lab_nssr (record { unlooped = refl; short = refl; fresh = refl; unrefused = refl; fit = refl }) refl refl)
    (wide_referral lab_nssr name_reply refl
    (answered [] (3 ∷ []) [] 2 name_reply refl refl none_asked
    (sends 2 name_reply name_reply refl refl refl
    (reads _ (record { unlooped = refl; short = refl; fresh = refl; unrefused = refl; fit = refl }) refl refl refl)
    (final name_reply refl)))))))

-- Alpha refuses: the user has its reference, and follows nothing
pub referred_served : IsServed alpha_refuses 0 read_lab (journal (lab_at_alpha ∷ [])) (Referred to_beta)
referred_served =
    answers (Referred to_beta) refl
    (refers to_beta (record { unlooped = refl; short = refl; fresh = refl; unrefused = refl; fit = refl }) refl refl)

-- a country has two letters: refused at once
pub country_served : IsServed at_first 0 compare_country (journal (asks 1 0 compare_country Sent ∷ [])) (Failed
    (AttributeProblem invalid_attribute_syntax (Known 6)))
country_served = answers _ refl (refused (AttributeProblem invalid_attribute_syntax (Known 6)) refl refl refl refl)

-- Beta is down: the user hears nothing
pub acme_unserved : IsServed beta_down 1 read_acme (journal (asks 1 1 read_acme Lost ∷ [])) (Failed
    (ServiceProblem unavailable (Some (messages.in_vain Own acme Start (1 ∷ []))) None))
acme_unserved = not_heard refl

-- ---- lists and searches

abbrev pub of_alpha : Answer
of_alpha = Found (bare nl ∷ []) (now nl 0 ∷ []) whole_outcome

-- chaining is prohibited: Alpha gives its own part and its reference
pub unchained_served : IsServed at_first 0 unchained (journal (asks 1 0 unchained Sent ∷ [])) (Answered (Found
    (bare nl ∷ []) (now nl 0 ∷ []) (left_out (acme_reference ∷ []))))
unchained_served =
    answers _ refl
    (gives_parts of_alpha (record { unlooped = refl; short = refl; fresh = refl; unrefused = refl; fit = refl }) refl
    refl refl)

-- from the root, asked of Gamma: up to Alpha, which has the root; then by parts
abbrev pub of_beta : Answer
of_beta = Found (bare acme ∷ bare desk ∷ []) (now acme 1 ∷ []) whole_outcome

abbrev pub of_gamma : Answer
of_gamma = Found (bare lab ∷ bare jan ∷ []) (now lab 2 ∷ []) whole_outcome

abbrev pub of_delta : Answer
of_delta = Found (bare shop ∷ bare ada ∷ []) (now shop 3 ∷ []) whole_outcome

abbrev pub below_acme : Answer
below_acme =
    Found (bare acme ∷ bare desk ∷ bare lab ∷ bare jan ∷ bare shop ∷ bare ada ∷ [])
    (now acme 1 ∷ now lab 2 ∷ now shop 3 ∷ []) whole_outcome

abbrev pub of_all : Answer
of_all = Found (bare nl ∷ bare acme ∷ bare desk ∷ bare lab ∷ bare jan ∷ bare shop ∷ bare ada ∷ []) the_sources
    whole_outcome

abbrev pub to_superior : ℕ → Reference
to_superior a = reference [] Start Superior (a ∷ [])

abbrev pub by_agent : ℕ → Reference
by_agent a = reference acme Done NonSpecific (a ∷ [])

pub root_served : IsServed at_first 2 from_root root_journal (Answered of_all)
root_served =
    answers (Answered of_all) refl
    (goes (to_superior 1) (Hears (Answered of_all))
    (record { unlooped = refl; short = refl; fresh = refl; unrefused = refl; fit = refl }) refl refl refl
    (heard [] [] 1 (Answered of_all) refl none_yet
    (sends 1 (Answered of_all) (Answered of_all) refl refl refl
    (goes (to_superior 0) (Hears (Answered of_all))
    (record { unlooped = refl; short = refl; fresh = refl; unrefused = refl; fit = refl }) refl refl refl
    (heard [] [] 0 (Answered of_all) refl none_yet
    (sends 0 (Answered of_all) (Answered of_all) refl refl refl
    (asks_parts of_alpha (Whole of_all)
    (record { unlooped = refl; short = refl; fresh = refl; unrefused = refl; fit = refl }) refl refl refl
    (part_answered acme_reference below_acme no_part
    (heard [] (4 ∷ []) 1 (Answered below_acme) refl none_yet
    (sends 1 (Answered below_acme) (Answered below_acme) refl refl refl
    (asks_parts of_beta (Whole below_acme)
    (record { unlooped = refl; short = refl; fresh = refl; unrefused = refl; fit = refl }) refl refl refl
    (part_answered (by_agent 3) of_delta
    (part_answered (by_agent 2) of_gamma no_part
    (heard [] [] 2 (Answered of_gamma) refl none_yet
    (sends 2 (Answered of_gamma) (Answered of_gamma) refl refl refl
    (asks_parts of_gamma (Whole of_gamma)
    (record { unlooped = refl; short = refl; fresh = refl; unrefused = refl; fit = refl }) refl refl refl no_part)
    (final (Answered of_gamma) refl))))
    (heard [] [] 3 (Answered of_delta) refl none_yet
    (sends 3 (Answered of_delta) (Answered of_delta) refl refl refl
    (asks_parts of_delta (Whole of_delta)
    (record { unlooped = refl; short = refl; fresh = refl; unrefused = refl; fit = refl }) refl refl refl no_part)
    (final (Answered of_delta) refl)))))
    (final (Answered below_acme) refl)))))
    (final (Answered of_all) refl))))
    (final (Answered of_all) refl))))

-- ---- updates

-- with Gamma down its probe isn't heard, and nothing is added
abbrev pub new_lab_probe : Reference
new_lab_probe = reference new_lab (Next 3) NonSpecific (2 ∷ 3 ∷ [])

abbrev pub probe_by_delta : Reply
probe_by_delta = unable (passes 5 again_at_beta 3 new_lab (Next 3) NonSpecific (probe_request new_lab) Sent)

pub again_served : IsServed probing.gamma_down 1 add_lab again_journal (Failed (ServiceProblem unavailable (Some
    (messages.in_vain NonSpecific new_lab (Next 3) (2 ∷ []))) None))
again_served =
    answers _ refl
    (updates _ _ (record { unlooped = refl; short = refl; fresh = refl; unrefused = refl; fit = refl }) refl refl
    (misses _ new_lab_probe 2 [] refl refl
    (clear 3 probe_by_delta refl
    (silent 2 no_probe (lost 2 refl refl refl))
    (sends 3 probe_by_delta probe_by_delta refl refl refl
    (stuck (record { unlooped = refl; short = refl; fresh = refl; unrefused = refl; fit = refl }) refl)
    (final _ refl)))))

-- Beta takes the update, and its reply to the user is lost
pub gears_served : IsServed losing_first 1 put_gears (accepted_journal (asks 1 1 put_gears NoReply ∷ []) 1) (Failed
    (ServiceProblem unavailable (Some (messages.in_vain Own acme Start (1 ∷ []))) None))
gears_served =
    not_told (Answered Changed) refl
    (updates _ _ (record { unlooped = refl; short = refl; fresh = refl; unrefused = refl; fit = refl }) refl refl
    (does _ refl refl))

-- Gamma takes it, and its reply to Beta is lost: Beta asks Delta, which can't go on
abbrev pub put_by_delta : Reply
put_by_delta = unable (passes 3 put_at_beta 3 lab (Next 3) NonSpecific put_lab Sent)

pub put_served : IsServed losing_second 1 put_lab put_journal lab_reply
put_served =
    answers lab_reply refl
    (casts lab_nssr lab_reply (record { unlooped = refl; short = refl; fresh = refl; unrefused = refl; fit = refl })
    refl refl refl
    (some_silent (2 ∷ []) refl
    (unable_too 3 put_by_delta refl
    (silent_too 2 none_asked
    (dropped 2 (Answered Changed) refl refl refl
    (updates _ _ (record { unlooped = refl; short = refl; fresh = refl; unrefused = refl; fit = refl }) refl refl
    (does _ refl refl))))
    (sends 3 put_by_delta put_by_delta refl refl refl
    (stuck (record { unlooped = refl; short = refl; fresh = refl; unrefused = refl; fit = refl }) refl)
    (final _ refl)))))

-- Delta has a copy of Lab: by it the update comes to Gamma again, which has taken it and says so at once
abbrev pub lab_supplier : Reference
lab_supplier = reference lab (Next 3) Supplier (2 ∷ [])

pub twice_served : IsServed losing_shadowed 1 put_lab twice_journal (Answered Changed)
twice_served =
    answers (Answered Changed) refl
    (casts lab_nssr (Answered Changed)
    (record { unlooped = refl; short = refl; fresh = refl; unrefused = refl; fit = refl }) refl refl refl
    (answered (2 ∷ []) [] (2 ∷ []) 3 (Answered Changed) refl refl
    (silent_too 2 none_asked
    (dropped 2 (Answered Changed) refl refl refl
    (updates _ _ (record { unlooped = refl; short = refl; fresh = refl; unrefused = refl; fit = refl }) refl refl
    (does _ refl refl))))
    (sends 3 (Answered Changed) (Answered Changed) refl refl refl
    (goes lab_supplier (Hears (Answered Changed))
    (record { unlooped = refl; short = refl; fresh = refl; unrefused = refl; fit = refl }) refl refl refl
    (heard [] [] 2 (Answered Changed) refl none_yet
    (sends 2 (Answered Changed) (Answered Changed) refl refl refl (done_before refl refl refl) (final
    (Answered Changed) refl))))
    (final (Answered Changed) refl))))

-- ---- nothing else comes of them

-- Alpha doesn't answer what it refuses to ask for,
pub not_answered : (j : Journal) (a : Answer) → IsServed alpha_refuses 0 read_lab j (Answered a) → ⊥
not_answered j a d =
    let w = request_is_determined (scene_at alpha_refuses 0 read_lab) (budget alpha_refuses) (journal
    (lab_at_alpha ∷ [])) j
    (Referred to_beta) (Answered a) referred_served d in
    let e : Answered a ≡ Referred to_beta = w.0 in
    cc

-- nor is an absent name's error given before all agents of the NSSR were asked;
pub not_before : (reply : Reply) → IsServed at_first 1 read_absent (journal (absent_at_beta ∷ [])) reply → ⊥
not_before reply d =
    let w = request_is_determined (scene_at at_first 1 read_absent) (budget at_first) absent_journal (journal
    (absent_at_beta ∷ []))
    (Failed (NoSuchObject acme)) reply absent_served d in
    let e : 1 ≡ 3 = ap (λ (j : Journal). length j.lines) w.1 in
    omega (arith, e)

-- and an update isn't undone where its reply is lost
pub not_undone : (reply : Reply)
    → IsServed losing_first 1 put_gears (journal (asks 1 1 put_gears NoReply ∷ [])) reply → ⊥
not_undone reply d =
    let w = request_is_determined (scene_at losing_first 1 put_gears) (budget losing_first)
    (accepted_journal (asks 1 1 put_gears NoReply ∷ []) 1) (journal (asks 1 1 put_gears NoReply ∷ []))
    (Failed (ServiceProblem unavailable (Some (messages.in_vain Own acme Start (1 ∷ []))) None)) reply gears_served d in
    let e : 0 ≡ 1 = ap (λ (j : Journal). length j.accepted) w.1 in
    omega (arith, e)

-- ---- a context without an entry

-- An agent that holds a context without an entry at its prefix, as none does in a run, is asked for a search there by a
-- reference: its part is empty.
abbrev pub empty_scene : Scene
empty_scene = record (scene_at at_first 1 read_acme) {
  holdings = λ a. record {
    me = a;
    superior = None;
    own = (record { prefix = acme; entries = []; subordinate = []; nssrs = [] }) ∷ [];
    copies = [];
    root = [];
    cross = [];
  };
}

abbrev pub asked_part : Hand
asked_part = hand 1 (record {
  target = acme;
  progress = Done;
  kind = Subordinate;
  exclusions = [];
  trace = [];
  request
      = everything acme WholeSubtree;
})

pub empty_part : (most : ℕ)
    → Does empty_scene most (Serves asked_part (Answered (Found [] (now acme 1 ∷ []) whole_outcome))) (journal [])
    (journal [])
empty_part most =
    asks_parts (Found [] (now acme 1 ∷ []) whole_outcome) (Whole (Found [] (now acme 1 ∷ []) whole_outcome))
    (record { unlooped = refl; short = refl; fresh = refl; unrefused = refl; fit = refl }) refl refl refl no_part
