-- What a limit says beside that an answer ends with it (X.511, section 12.8: administrativeLimitExceeded): whoever
-- found that 128 agents had the message was heard; nothing new was accepted, unless a reply was lost; and nothing is
-- sent for a later line that brings an update again. Of each a right answer, and a forged one that has all else that
-- is asked of it.
use Rattle.std.specs.Prelude.{◌≡◌, ℕ, true, false, [], ◌∷◌}
use Rattle.std.specs.declared.option.Option.TheVariants.{None, Some}
use Rattle.std.proofs.Common.{refl, ap, arith}
use lib.Chars.{codes}
use Rattle.x5_model.specs.Values.{Name}
use Rattle.x5_model.specs.Entries.{Named}
use Rattle.x5_model.specs.Requests.{Request, AddEntry}
use Rattle.x5_model.specs.References.{Next, NonSpecific, Supplier, Reference}
use Rattle.x5_model.specs.Answers.{Answered, Changed, Failed, ServiceProblem}
use Rattle.x5_model.specs.Problems.{unavailable}
use Rattle.x5_model_tree.specs.World.{Context, World}
use Rattle.x5_model_tree.specs.Consistent.{first_breach}
use Rattle.x5_model_run.specs.Network.{Fate, Lost, NoReply, Sent, Down}
use Rattle.x5_model_run.specs.Journal.{Line, Journal}
use Rattle.x5_model_run.specs.Needs.{reference, fails}
use Rattle.x5_model_run.specs.History.{Point, Outs, Loses}
use Rattle.x5_model_run.specs.Chain.{Scene, AllLicensed, scene_with, probe_request}
use Rattle.x5_model_run.specs.Blocked.{asked, by_user}
use Rattle.x5_model_run.specs.Right.{Accepts, changed, error, unheard}
use Rattle.x5_model_replies.specs.Replies.{RightReply, RepliesRight, usual, limit}
use Rattle.x5_model_run.proofs.Licensing.{licensed_by, licensed_first}
use Rattle.x5_model_serve.specs.Serving.{Hears, limit_reply, answers, is_long, goes, casts, updates, does, dropped}
use Rattle.x5_model_serve.specs.Serving.{sends, final, heard, none_yet, none_asked, silent_too, answered}
use Rattle.x5_model_rows.proofs.Literals.{plainly, rdn, under, give, oid, text, one, class, named}
use Rattle.x5_model_rows.proofs.BaseWorld.{base_world, world_of, first_agreement, alpha, beta, gamma, delta, epsilon}
use Rattle.x5_model_rows.proofs.BaseWorld.{acme, lab, lab_entry, jan_entry, shop_context}
use Rattle.x5_model_rows.proofs.Messages.{passes, journal, accepted_journal, did, point, in_vain}
use Rattle.x5_model_rows.proofs.Resolution.{at_first, gamma_down, name_lab}
use Rattle.x5_model_rows.proofs.Shadowing.{put_gears}
use Rattle.x5_model_rows.proofs.Losing.{losing_shadowed, put_lab}
use Rattle.x5_model_rows.proofs.Placing.{raw_line}
use Rattle.x5_model_rows.proofs.Refused.{no}
use Rattle.x5_model_rows.proofs.Stepping.{IsHandled}
use Rattle.x5_model_rows.proofs.Limits.{after, scene_after, reading, read_line, lab_nssr}

-- ---- who was heard

-- 127 agents had the read, and Beta asks Gamma and Delta, each of which is the 129th.
abbrev pub to_agent : ℕ → ℕ → Fate → Line
to_agent number a fate = passes number (read_line 127) a lab (Next 3) NonSpecific name_lab fate

abbrev pub reading_at : Point → Scene
reading_at p = scene_with p 1 (after 127 lab name_lab)

-- Gamma is down, and Delta says that it's too long.
abbrev pub one_heard : Journal
one_heard = journal (read_line 127 ∷ to_agent 2 2 Lost ∷ to_agent 3 3 Sent ∷ [])

pub one_down : RepliesRight gamma_down (reading_at gamma_down) one_heard limit_reply
one_down = record {
  placed = record { fit = refl; lower = refl; brought = refl };
  licensed = (
    licensed_by (read_line 127) 0 1 refl refl refl refl refl,
    (licensed_by (read_line 127) 0 0 refl refl refl refl refl, (licensed_first refl refl refl refl refl, tt)),
  );
  accepts = record { one = refl; right = refl; probed = refl };
  done = λ usual. refl;
  at_once = refl;
  answer = limit refl refl refl;
}

-- Both are down, or both replies are lost: Lab is unavailable.
abbrev pub both_down : Point
both_down = point base_world (did (Outs (Down 3)) 0 ∷ did (Outs (Down 2)) 0 ∷ [])

abbrev pub both_unheard : Point
both_unheard = point base_world (did (Loses true 3) 0 ∷ did (Loses true 2) 0 ∷ [])

abbrev pub none_heard : Fate → Journal
none_heard fate = journal (read_line 127 ∷ to_agent 2 2 fate ∷ to_agent 3 3 fate ∷ [])

pub all_down : RepliesRight both_down (reading_at both_down) (none_heard Lost)
    (Failed (ServiceProblem unavailable (Some (in_vain NonSpecific lab (Next 3) (2 ∷ 3 ∷ []))) None))
all_down = record {
  placed = record { fit = refl; lower = refl; brought = refl };
  licensed = (
    licensed_by (read_line 127) 0 1 refl refl refl refl refl,
    (licensed_by (read_line 127) 0 0 refl refl refl refl refl, (licensed_first refl refl refl refl refl, tt)),
  );
  accepts = record { one = refl; right = refl; probed = refl };
  done = λ usual. refl;
  at_once = refl;
  answer = usual refl (unheard (asked (record {
    line = read_line 127;
    full = lab_nssr;
    stands = (2, omega arith, refl);
    back = refl;
    needed = (0, omega arith, refl);
    same = refl;
    listed = refl;
    vain = refl;
    cleared = refl;
  })) refl refl);
}

-- Refused: that it's too long, which nobody can have told Beta. The lines by themselves are licensed.
pub no_limit_undelivered : RightReply both_down (reading_at both_down) (by_user (reading_at both_down))
    (none_heard Lost) false limit_reply → ⊥
no_limit_undelivered (limit back over none) = no over
no_limit_undelivered (usual able (error back given known none)) = no (ap fails given)

pub unheard_licensed : AllLicensed (reading_at both_unheard) (none_heard NoReply).lines
unheard_licensed = (
  licensed_by (read_line 127) 0 1 refl refl refl refl refl,
  (licensed_by (read_line 127) 0 0 refl refl refl refl refl, (licensed_first refl refl refl refl refl, tt)),
)

pub no_limit_unheard : RightReply both_unheard (reading_at both_unheard) (by_user (reading_at both_unheard))
    (none_heard NoReply) false limit_reply → ⊥
no_limit_unheard (limit back over none) = no over
no_limit_unheard (usual able (error back given known none)) = no (ap fails given)

-- Refused too: that Beta's answer is known where its own reply was lost.
abbrev pub unread : Journal
unread = journal (record (read_line 128) { fate = NoReply } ∷ [])

pub no_limit_untold : RightReply at_first (reading 128) (by_user (reading 128)) unread false limit_reply → ⊥
no_limit_untold (limit back over none) = no back
no_limit_untold (usual able (error back given known none)) = no back

-- ---- what was accepted

-- 128 agents had an update of Acme: Beta says so, and doesn't do it.
abbrev pub putting : Scene
putting = scene_after 128 acme put_gears

abbrev pub put_line : Line
put_line = raw_line putting

pub long_put : RepliesRight at_first putting (journal (put_line ∷ [])) limit_reply
long_put = record {
  placed = record { fit = refl; lower = refl; brought = refl };
  licensed = (licensed_first refl refl refl refl refl, tt);
  accepts = record { one = refl; right = refl; probed = refl };
  done = λ usual. absurd (no usual);
  at_once = refl;
  answer = limit refl refl refl;
}

-- Refused: that it did it and says so. What it accepts would be right, and answered `changed`.
abbrev pub put_journal : Journal
put_journal = accepted_journal (put_line ∷ []) 1

pub put_accepts : Accepts at_first putting put_journal
put_accepts = record { one = refl; right = refl; probed = refl }

pub no_accepted_limit : RightReply at_first putting (by_user putting) put_journal false limit_reply → ⊥
no_accepted_limit (limit back over none) = no none
no_accepted_limit (usual able (error back given known none)) = no (ap fails given)

-- Nor where messages ran out.
pub no_accepted_end : RightReply at_first putting (by_user putting) put_journal true limit_reply → ⊥
no_accepted_end (limit back over none) = no none
no_accepted_end (usual able (error back given known none)) = no (ap fails given)

-- Where a reply was lost it may be so. 126 agents had an update of Lab: Gamma does it, and Beta doesn't hear that.
-- Delta has a copy, and asks Gamma again, which is the 129th: that ends it, at Delta and at Beta.
abbrev pub losing : Scene
losing = scene_with losing_shadowed 1 (after 126 lab put_lab)

abbrev pub put_at_beta : Line
put_at_beta = raw_line losing

abbrev pub put_at_delta : Line
put_at_delta = passes 3 put_at_beta 3 lab (Next 3) NonSpecific put_lab Sent

abbrev pub lost_journal : Journal
lost_journal =
    accepted_journal (put_at_beta ∷ passes 2 put_at_beta 2 lab (Next 3) NonSpecific put_lab NoReply ∷ put_at_delta
    ∷ passes 4 put_at_delta 2 lab (Next 3) Supplier put_lab Sent ∷ []) 2

pub lost_put : RepliesRight losing_shadowed losing lost_journal limit_reply
lost_put = record {
  placed = record { fit = refl; lower = refl; brought = refl };
  licensed = (
    licensed_by put_at_delta 0 0 refl refl refl refl refl,
    (
      licensed_by put_at_beta 0 1 refl refl refl refl refl,
      (licensed_by put_at_beta 0 0 refl refl refl refl refl, (licensed_first refl refl refl refl refl, tt)),
    ),
  );
  accepts = record { one = refl; right = refl; probed = refl };
  done = λ usual. absurd (no usual);
  at_once = refl;
  answer = limit refl refl refl;
}

-- It came to that by what agents do.
abbrev pub to_supplier : Reference
to_supplier = reference lab (Next 3) Supplier (2 ∷ [])

pub lost_put_served : IsHandled losing_shadowed 1 (after 126 lab put_lab) lost_journal limit_reply
lost_put_served =
    answers limit_reply refl
    (casts lab_nssr limit_reply (record { unlooped = refl; short = refl; fresh = refl; unrefused = refl; fit = refl })
    refl refl refl
    (answered (2 ∷ []) [] (2 ∷ []) 3 limit_reply refl refl
    (silent_too 2 none_asked
    (dropped 2 (Answered Changed) refl refl refl
    (updates _ _ (record { unlooped = refl; short = refl; fresh = refl; unrefused = refl; fit = refl }) refl refl
    (does _ refl refl))))
    (sends 3 limit_reply limit_reply refl refl refl
    (goes to_supplier (Hears limit_reply)
    (record { unlooped = refl; short = refl; fresh = refl; unrefused = refl; fit = refl }) refl refl refl
    (heard [] [] 2 limit_reply refl none_yet
    (sends 2 limit_reply limit_reply refl refl refl (is_long refl refl) (final limit_reply refl))))
    (final limit_reply refl))))

-- ---- what is sent again

-- Lab has an NSSR, since Delta has a context below it, and Delta has a copy of Lab.
abbrev pub bench : Name
bench = under lab (rdn 11 (codes "Bench") (codes "bench"))

abbrev pub bench_entry : Named
bench_entry = named bench (class 5 ∷ one 11 (text (codes "Bench") (codes "bench")) ∷ [])

abbrev pub bench_context : Context
bench_context = record { prefix = bench; entries = bench_entry ∷ []; nssrs = [] }

abbrev pub wide_lab : Context
wide_lab = record {
  prefix = lab;
  entries = lab_entry ∷ jan_entry ∷ [];
  nssrs = (record { at = lab; agents = 3 ∷ [] }) ∷ [];
}

abbrev pub benches : World
benches =
    world_of (alpha ∷ beta ∷ (record gamma { contexts = wide_lab ∷ [] })
    ∷ (record delta { contexts = shop_context ∷ bench_context ∷ [] }) ∷ epsilon ∷ [])
    (first_agreement ∷ (record { number = 2; supplier = 2; consumer = 3; context = lab }) ∷ [])

pub benches_consistent : first_breach benches ≡ None
benches_consistent = refl

-- 125 agents had a message to add an entry below Lab. Gamma asks Delta for the new name and does it, and Beta doesn't
-- hear that. Delta brings it to Gamma again, which has done it: it says so.
abbrev pub losing_bench : Point
losing_bench = point benches (did (Loses true 2) 0 ∷ [])

abbrev pub new_bench : Name
new_bench = under lab (rdn 3 (codes "New") (codes "new"))

abbrev pub add_bench : Request
add_bench = plainly (AddEntry new_bench (give 0 (oid (2 ∷ 5 ∷ 6 ∷ 7 ∷ []) ∷ []) ∷ []))

abbrev pub adding : Scene
adding = scene_with losing_bench 1 (after 125 lab add_bench)

abbrev pub add_at_beta : Line
add_at_beta = raw_line adding

abbrev pub add_at_gamma : Line
add_at_gamma = passes 2 add_at_beta 2 lab (Next 3) NonSpecific add_bench NoReply

abbrev pub probes_delta : ℕ → Line → Line
probes_delta number l = passes number l 3 new_bench (Next 4) NonSpecific (probe_request new_bench) Sent

abbrev pub add_at_delta : Line
add_at_delta = passes 4 add_at_beta 3 lab (Next 3) NonSpecific add_bench Sent

abbrev pub again_at_gamma : Line
again_at_gamma = passes 5 add_at_delta 2 lab (Next 3) Supplier add_bench Sent

abbrev pub done_once : Journal
done_once =
    accepted_journal (add_at_beta ∷ add_at_gamma ∷ probes_delta 3 add_at_gamma ∷ add_at_delta ∷ again_at_gamma ∷ []) 2

pub added_once : RepliesRight losing_bench adding done_once (Answered Changed)
added_once = record {
  placed = record { fit = refl; lower = refl; brought = refl };
  licensed = once_licensed;
  accepts = record { one = refl; right = refl; probed = refl };
  done = λ usual. refl;
  at_once = refl;
  answer = usual refl (changed refl refl refl);
}
  where
    once_licensed : AllLicensed adding done_once.lines
    once_licensed = (
      licensed_by add_at_delta 0 0 refl refl refl refl refl,
      (
        licensed_by add_at_beta 0 1 refl refl refl refl refl,
        (
          licensed_by add_at_gamma 0 0 refl refl refl refl refl,
          (licensed_by add_at_beta 0 0 refl refl refl refl refl, (licensed_first refl refl refl refl refl, tt)),
        ),
      ),
    )

-- Forged: Gamma, which has done it, asks Delta for the new name once more. Delta is the 129th, and so a limit ends it
-- at Gamma, Delta and Beta. Each line is licensed, what was accepted is right, and so is the reply by itself.
abbrev pub done_again : Journal
done_again = record done_once { lines = probes_delta 6 again_at_gamma ∷ done_once.lines }

pub again_licensed : AllLicensed adding done_again.lines
again_licensed = (licensed_by again_at_gamma 0 0 refl refl refl refl refl, added_once.licensed)

pub again_accepts : Accepts losing_bench adding done_again
again_accepts = record { one = refl; right = refl; probed = refl }

pub again_replies : RightReply losing_bench adding (by_user adding) done_again false limit_reply
again_replies = limit refl refl refl

-- Refused: that somebody is asked for an update once more.
pub no_limit_again : RepliesRight losing_bench adding done_again limit_reply → ⊥
no_limit_again r = no r.at_once
