-- A user who follows, and looks at a message before he sends it (X.518, section 17: loop detection). Two agents that
-- have each other as superiors, which consistent knowledge never has, refuse to chain: he asks both, and holds back
-- the message that would come to the first one again. And he holds back a message that 128 agents had. Refused: that
-- he sends either.
use Rattle.std.specs.Prelude.{◌≡◌, ℕ, true, [], ◌∷◌, length}
use Rattle.std.specs.declared.option.Option.TheVariants.{None, Some}
use Rattle.std.specs.Option.{is_none}
use Rattle.std.proofs.Common.{refl, sym, ap, ◌∙◌, arith}
use Rattle.x5_model.specs.References.{Start, Next, Superior, NonSpecific, Reference}
use Rattle.x5_model.specs.Answers.{ServiceProblem, Reply, Answered, Failed, Referred}
use Rattle.x5_model.specs.Problems.{loop_detected}
use Rattle.x5_model_tree.specs.World.{World}
use Rattle.x5_model_tree.specs.Consistent.{first_breach}
use Rattle.x5_model_run.specs.Network.{Refuse, Sent}
use Rattle.x5_model_run.specs.Journal.{Line, Journal, item_of}
use Rattle.x5_model_run.specs.Needs.{reference}
use Rattle.x5_model_run.specs.History.{Point, Outs}
use Rattle.x5_model_run.specs.Stage.{budget}
use Rattle.x5_model_run.specs.Chain.{Scene, scene_with}
use Rattle.x5_model_serve.specs.Serving.{Hand, hand, Does, Sends, Heard, Hears, carried_for, is_held_back, held_back}
use Rattle.x5_model_serve.specs.Serving.{limit_reply, refers, reads, holds_back, spent, lost, dropped, sends, final}
use Rattle.x5_model_serve.specs.Serving.{referral, wide_referral, heard, none_yet, answered, none_asked}
use Rattle.x5_model_follow.specs.Followed.{IsFollowed, follows, following_from, budget_from}
use Rattle.x5_model_rows.proofs.BaseWorld.{world_of, alpha, beta, acme, lab}
use Rattle.x5_model_rows.proofs.Messages.{asks, passes, journal, did, point}
use Rattle.x5_model_rows.proofs.Resolution.{read_acme, name_lab, beta_refuses}
use Rattle.x5_model_rows.proofs.Limits.{after, lab_nssr}
use Rattle.x5_model_rows.proofs.Forged.{the_lab}
use Rattle.x5_model_rows.proofs.Refused.{no}

-- a line that he sends for another one, whose receiver refers him
abbrev pub by_user : Line → Line
by_user l = record l { sender = None }

-- What isn't sent adds no line.
pub nothing_sent : (s : Scene) (most : ℕ) (o : Hand) (r : Reference) (a : ℕ) (h : Heard) (i j : Journal)
    → is_held_back None (hand a (carried_for None o r)) ≡ true → Does s most (Sends None o r a h) i j
    → (h ≡ Hears (held_back (hand a (carried_for None o r)))) × (j ≡ i)
nothing_sent s most o r a _ i _ back (holds_back b held) = (refl, refl)
nothing_sent s most o r a _ i _ back (spent b free left) = absurd (no (sym free ∙ back))
nothing_sent s most o r a _ i _ back (lost b free left fate) = absurd (no (sym free ∙ back))
nothing_sent s most o r a _ i _ back (dropped b reply free left fate served) = absurd (no (sym free ∙ back))
nothing_sent s most o r a _ i _ back (sends b reply last free left fate served then_follows) =
    absurd (no (sym free ∙ back))

-- ---- a ring of superiors

abbrev pub ring : World
ring =
    world_of ((record alpha { superior = Some 1; contexts = []; subordinate = []; crosses = [] })
    ∷ (record beta { superior = Some 0; contexts = [] }) ∷ []) []

pub ring_is_inconsistent : first_breach ring ≡ None → ⊥
ring_is_inconsistent e = no (ap is_none e)

abbrev pub ring_refuses : Point
ring_refuses = point ring (did (Outs (Refuse 1)) 0 ∷ did (Outs (Refuse 0)) 0 ∷ [])

abbrev pub up_to : ℕ → Reference
up_to a = reference acme Start Superior (a ∷ [])

abbrev pub ring_scene : Scene
ring_scene = following_from ring_refuses 0 0 read_acme

abbrev pub ring_first : Line
ring_first = asks 1 0 read_acme Sent

abbrev pub ring_second : Line
ring_second = by_user (passes 2 ring_first 1 acme Start Superior read_acme Sent)

-- the message that would come to Alpha again
abbrev pub ring_third : Line
ring_third = by_user (passes 3 ring_second 0 acme Start Superior read_acme Sent)

abbrev pub ring_journal : Journal
ring_journal = journal (ring_first ∷ ring_second ∷ [])

abbrev pub ring_reply : Reply
ring_reply = Failed (ServiceProblem loop_detected None (Some (item_of 0 ring_third.message)))

pub ring_followed : IsFollowed ring_scene (budget_from ring_refuses 0) ring_journal ring_reply
ring_followed =
    follows (Referred (up_to 1)) ring_reply refl
    (refers (up_to 1) (record { unlooped = refl; short = refl; fresh = refl; unrefused = refl; fit = refl }) refl refl)
    (referral (up_to 1) (Hears ring_reply) refl
    (heard [] [] 1 ring_reply refl none_yet
    (sends 1 (Referred (up_to 0)) ring_reply refl refl refl
    (refers (up_to 0) (record { unlooped = refl; short = refl; fresh = refl; unrefused = refl; fit = refl }) refl refl)
    (referral (up_to 0) (Hears ring_reply) refl (heard [] [] 0 ring_reply refl none_yet (holds_back 0 refl))))))

-- Refused: that he sends the third message.
pub no_third : (most : ℕ) (h : Heard)
    → Does ring_scene most (Sends None (hand 1 ring_second.message) (up_to 0) 0 h) ring_journal
    (journal (ring_first ∷ ring_second ∷ ring_third ∷ [])) → ⊥
no_third most h d = longer (nothing_sent ring_scene most (hand 1 ring_second.message) (up_to 0) 0 h ring_journal _ refl d).1
  where
    longer : journal (ring_first ∷ ring_second ∷ ring_third ∷ []) ≡ ring_journal → ⊥
    longer e = (let fewer : ◌≡◌ {A = ℕ} 3 2 = ap (λ (j : Journal). length j.lines) e in omega (arith, fewer))

-- ---- 128 items

-- Beta refuses to chain, and the message that he brings it had 127 agents.
abbrev pub long_scene : ℕ → Scene
long_scene n = record (scene_with beta_refuses 1 (after n lab name_lab)) { follows = true }

abbrev pub long_line : ℕ → Line
long_line n = record { number = 1; sender = None; receiver = 1; message = after n lab name_lab; fate = Sent }

abbrev pub longer_line : ℕ → Line
longer_line n = by_user (passes 2 (long_line n) 2 lab (Next 3) NonSpecific name_lab Sent)

pub long_followed : IsFollowed (long_scene 127) (budget beta_refuses) (journal (long_line 127 ∷ [])) limit_reply
long_followed =
    follows (Referred lab_nssr) limit_reply refl
    (refers lab_nssr (record { unlooped = refl; short = refl; fresh = refl; unrefused = refl; fit = refl }) refl refl)
    (wide_referral lab_nssr limit_reply refl
    (answered [] (3 ∷ []) [] 2 limit_reply refl refl none_asked (holds_back 2 refl)))

-- With one less he sends it, and Gamma answers.
pub short_followed : IsFollowed (long_scene 126) (budget beta_refuses) (journal (long_line 126 ∷ longer_line 126 ∷ []))
    (Answered the_lab)
short_followed =
    follows (Referred lab_nssr) (Answered the_lab) refl
    (refers lab_nssr (record { unlooped = refl; short = refl; fresh = refl; unrefused = refl; fit = refl }) refl refl)
    (wide_referral lab_nssr (Answered the_lab) refl
    (answered [] (3 ∷ []) [] 2 (Answered the_lab) refl refl none_asked
    (sends 2 (Answered the_lab) (Answered the_lab) refl refl refl
    (reads _ (record { unlooped = refl; short = refl; fresh = refl; unrefused = refl; fit = refl }) refl refl refl)
    (final (Answered the_lab) refl))))

-- Refused: that he sends the message with 128 items.
pub no_longer : (most : ℕ) (h : Heard)
    → Does (long_scene 127) most (Sends None (hand 1 (after 127 lab name_lab)) lab_nssr 2 h)
    (journal (long_line 127 ∷ [])) (journal (long_line 127 ∷ longer_line 127 ∷ [])) → ⊥
no_longer most h d =
    longer (nothing_sent (long_scene 127) most (hand 1 (after 127 lab name_lab)) lab_nssr 2 h
    (journal (long_line 127 ∷ [])) _ refl d).1
  where
    longer : journal (long_line 127 ∷ longer_line 127 ∷ []) ≡ journal (long_line 127 ∷ []) → ⊥
    longer e = (let fewer : ◌≡◌ {A = ℕ} 2 1 = ap (λ (j : Journal). length j.lines) e in omega (arith, fewer))
