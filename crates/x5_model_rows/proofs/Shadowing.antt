-- Refreshes and answers from copies, over the base world: what a pull sends, an answer as of the copy's moment, the
-- master's answer beside it, a copy in a search, and what comes of a lost acknowledgement and of too many changes.
use Rattle.std.specs.Prelude.{◌≡◌, ℕ, ◌+◌, ◌/◌, ◌%◌, zero, suc, true, false, List, [], ◌∷◌}
use Rattle.std.specs.declared.option.Option.TheVariants.{None, Some}
use Rattle.std.proofs.Common.{refl, arith}
use lib.Chars.{codes}
use Rattle.x5_model.specs.Values.{Text, Name, Known, TextValue}
use Rattle.x5_model.specs.Requests.{Request, Read, Search, ModifyEntry, AddEntry, AddValues, Only, All, OneLevel}
use Rattle.x5_model.specs.Filters.{And, Nil}
use Rattle.x5_model.specs.References.{Next, Done, Subordinate, Supplier, NonSpecific}
use Rattle.x5_model.specs.Answers.{Answered, Changed, Failed, EntryFound, Found, Source, ServiceProblem}
use Rattle.x5_model.specs.Problems.{unavailable}
use Rattle.x5_model_run.specs.Network.{Down, Lost, NoReply, Sent}
use Rattle.x5_model_run.specs.Journal.{Line, Journal}
use Rattle.x5_model_run.specs.Needs.{reference}
use Rattle.x5_model_run.specs.History.{Point, Did, Nothing, Outs, Loses, Refreshes, Refreshed}
use Rattle.x5_model_run.specs.Chain.{scene_at, probe_request}
use Rattle.x5_model_run.specs.Blocked.{asked}
use Rattle.x5_model_run.specs.Right.{AnswersRight, result, changed, unheard}
use Rattle.x5_model_run.specs.Thorough.{Thorough}
use Rattle.x5_model_run.specs.Refresh.{ShadowLine, RequestShadowUpdate, UpdateShadow, CoordinateShadowUpdate}
use Rattle.x5_model_run.specs.Refresh.{Done as Refreshes_so, Missed, refresh_block, Problem, full_update_required}
use Rattle.x5_model_run.proofs.Licensing.{licensed_by, licensed_first}
use Rattle.x5_model_rows.proofs.Literals.{plainly, rdn, under, give, oid, text}
use Rattle.x5_model_rows.proofs.BaseWorld.{base_world, acme, desk, lab, shop}
use Rattle.x5_model_rows.proofs.Messages.{takes, asks, passes, journal, accepted_journal, did, point, now, info, bare}
use Rattle.x5_model_rows.proofs.Messages.{copied, shows, in_vain, whole_outcome}

abbrev pub to_beta : ShadowLine
to_beta = record { sender = 4; receiver = 1; operation = RequestShadowUpdate; agreement = 1; fate = Sent }

abbrev pub to_epsilon : ShadowLine
to_epsilon = record { sender = 1; receiver = 4; operation = UpdateShadow; agreement = 1; fate = Sent }

abbrev pub total_at : ℕ → ℕ → Refreshed
total_at stamp count = record { agreement = 1; total = true; stamp = stamp; count = count; acknowledged = true }

abbrev pub steps_at : ℕ → ℕ → Refreshed
steps_at stamp count = record { agreement = 1; total = false; stamp = stamp; count = count; acknowledged = true }

-- line 1: Epsilon pulls the whole context, two entries
pub first_pull : refresh_block (point base_world []) 1 false true
    ≡ record { lines = to_beta ∷ to_epsilon ∷ []; outcome = Refreshes_so (total_at 1 2) }
first_pull = refl

abbrev pub first_did : Did
first_did = did (Refreshes (total_at 1 2)) 2

-- line 2: a value more at the master
abbrev pub put : Text → Request
put value = plainly (ModifyEntry acme (AddValues (give 13 (text value value ∷ [])) ∷ []))

abbrev pub put_gears : Request
put_gears = put (codes "gears")

abbrev pub gears_journal : Journal
gears_journal = accepted_journal (asks 3 1 put_gears Sent ∷ []) 1

pub gears_put : AnswersRight (point base_world (first_did ∷ [])) 1 put_gears gears_journal (Answered Changed)
gears_put = record {
  licensed = (licensed_first refl refl refl refl refl, tt);
  accepts = record { one = refl; right = refl; probed = refl };
  finished = record { done = refl; at_once = refl };
  answer = changed refl refl refl;
}

-- line 3: Epsilon answers from its copy, as of line 1
abbrev pub third_line : Point
third_line = point base_world (did (takes 1 put_gears) 1 ∷ first_did ∷ [])

abbrev pub read_description : Request
read_description = plainly (Read acme (Only (Known 13 ∷ [])))

abbrev pub as_of_first : Source
as_of_first = record { context = acme; agent = 4; moment = Some 1 }

abbrev pub description_at_epsilon : Line
description_at_epsilon = asks 4 4 read_description Sent

pub copy_read : AnswersRight third_line 4 read_description (journal (description_at_epsilon ∷ []))
    (Answered (EntryFound (copied (info acme (shows 13 (TextValue (codes "tools") ∷ []) ∷ []))) as_of_first))
copy_read = record {
  licensed = (licensed_first refl refl refl refl refl, tt);
  accepts = record { one = refl; right = refl; probed = refl };
  finished = record { done = refl; at_once = refl };
  answer = result refl (record {
    found = refl;
    sources = refl;
    spelled = refl;
    once = refl;
    exactly = refl;
    answered = refl;
    blocked = tt;
    completed = refl;
    apart = refl;
  }) refl refl;
}

pub copy_thorough : Thorough (scene_at third_line 4 read_description) (journal (description_at_epsilon ∷ []))
copy_thorough = refl

-- line 4: where copies may not be used it asks the master
abbrev pub fourth_line : Point
fourth_line = point base_world (did Nothing 1 ∷ did (takes 1 put_gears) 1 ∷ first_did ∷ [])

abbrev pub at_master : Request
at_master = record read_description { controls = record { nocopy = true; nochain = false; size = None } }

abbrev pub master_at_epsilon : Line
master_at_epsilon = asks 5 4 at_master Sent

abbrev pub master_journal : Journal
master_journal =
    journal (master_at_epsilon ∷ passes 6 master_at_epsilon 1 acme (Next 2) Supplier at_master Sent ∷ [])

pub master_read : AnswersRight fourth_line 4 at_master master_journal
    (Answered (EntryFound (info acme (shows 13 (TextValue (codes "gears") ∷ TextValue (codes "tools") ∷ []) ∷ []))
    (now acme 1)))
master_read = record {
  licensed = (
    licensed_by master_at_epsilon 0 0 refl refl refl refl refl,
    (licensed_first refl refl refl refl refl, tt),
  );
  accepts = record { one = refl; right = refl; probed = refl };
  finished = record { done = refl; at_once = refl };
  answer = result refl (record {
    found = refl;
    sources = refl;
    spelled = refl;
    once = refl;
    exactly = refl;
    answered = refl;
    blocked = tt;
    completed = refl;
    apart = refl;
  }) refl refl;
}

pub master_thorough : Thorough (scene_at fourth_line 4 at_master) master_journal
master_thorough = refl

-- two changes later an incremental pull sends two steps
abbrev pub two_changes : Point
two_changes =
    point base_world (did (takes 1 (put (codes "chains"))) 1 ∷ did (takes 1 put_gears) 1 ∷ first_did ∷ [])

pub steps_pulled : refresh_block two_changes 1 false false
    ≡ record { lines = to_beta ∷ to_epsilon ∷ []; outcome = Refreshes_so (steps_at 4 2) }
steps_pulled = refl

-- Of 256 changes a supplier knows each; of 257 it doesn't know the first, and a consumer from before needs a total
-- refresh.
abbrev pub numbered_text : ℕ → Text
numbered_text n = (65 + n / 16) ∷ (65 + n % 16) ∷ []

abbrev pub changes_after : ℕ → List Did → List Did
changes_after zero past = past
changes_after (suc n) past = did (takes 1 (put (numbered_text n))) 1 ∷ changes_after n past

abbrev pub two_steps_pulled : List Did
two_steps_pulled =
    did (Refreshes (steps_at 4 2)) 2 ∷ did (takes 1 (put (codes "chains"))) 1 ∷ did (takes 1 put_gears) 1 ∷ first_did
    ∷ []

pub steps_256 : refresh_block (point base_world (changes_after 256 two_steps_pulled)) 1 false false
    ≡ record { lines = to_beta ∷ to_epsilon ∷ []; outcome = Refreshes_so (steps_at 261 256) }
steps_256 = refl

pub too_many : refresh_block (point base_world (changes_after 257 two_steps_pulled)) 1 false false
    ≡ record { lines = to_beta ∷ []; outcome = Problem full_update_required }
too_many = refl

pub total_pulled : refresh_block (point base_world (did Nothing 1 ∷ changes_after 257 two_steps_pulled)) 1 false true
    ≡ record { lines = to_beta ∷ to_epsilon ∷ []; outcome = Refreshes_so (total_at 263 2) }
total_pulled = refl

-- The reply to an update that was taken is lost: the supplier doesn't know of it, and a push misses what lies between.
abbrev pub losing : Point
losing = point base_world (did (Loses true 2) 0 ∷ did (takes 1 put_gears) 1 ∷ first_did ∷ [])

pub unacknowledged : refresh_block losing 1 false false
    ≡ record {
      lines = to_beta ∷ record to_epsilon { fate = NoReply } ∷ [];
      outcome = Refreshes_so (record (steps_at 4 1) { acknowledged = false });
    }
unacknowledged = refl

abbrev pub lost_before : Point
lost_before =
    point base_world (did (Refreshes (record (steps_at 4 1) { acknowledged = false })) 2 ∷ did (Loses true 2) 0
    ∷ did (takes 1 put_gears) 1 ∷ first_did ∷ [])

pub missed : refresh_block lost_before 1 true false
    ≡ record {
      lines = record to_epsilon { operation = CoordinateShadowUpdate } ∷ [];
      outcome = Missed (Some 4) (Some 1);
    }
missed = refl

-- A new entry at Beta that Epsilon's copy lacks, added after both agents of the NSSR were asked.
abbrev pub new_name : Name
new_name = under acme (rdn 3 (codes "New") (codes "new"))

abbrev pub add_new : Request
add_new = plainly (AddEntry new_name (give 0 (oid (2 ∷ 5 ∷ 6 ∷ 7 ∷ []) ∷ []) ∷ []))

abbrev pub new_at_beta : Line
new_at_beta = asks 3 1 add_new Sent

abbrev pub new_journal : Journal
new_journal =
    accepted_journal (new_at_beta ∷ passes 4 new_at_beta 2 new_name (Next 3) NonSpecific (probe_request new_name) Sent
    ∷ passes 5 new_at_beta 3 new_name (Next 3) NonSpecific (probe_request new_name) Sent ∷ []) 1

pub new_added : AnswersRight (point base_world (first_did ∷ [])) 1 add_new new_journal (Answered Changed)
new_added = record {
  licensed = (
    licensed_by new_at_beta 0 1 refl refl refl refl refl,
    (licensed_by new_at_beta 0 0 refl refl refl refl refl, (licensed_first refl refl refl refl refl, tt)),
  );
  accepts = record { one = refl; right = refl; probed = refl };
  finished = record { done = refl; at_once = refl };
  answer = changed refl refl refl;
}

pub new_thorough : Thorough (scene_at (point base_world (first_did ∷ [])) 1 add_new) new_journal
new_thorough = refl

-- then Beta goes down: a search takes Epsilon's copy for Beta's part
abbrev pub beta_down : List Did
beta_down = did (Outs (Down 1)) 0 ∷ did (takes 1 add_new) 3 ∷ first_did ∷ []

abbrev pub below_acme : Request
below_acme = plainly (Search acme OneLevel (And Nil) (Only []))

abbrev pub below_at_alpha : Line
below_at_alpha = asks 6 0 below_acme Sent

abbrev pub below_at_epsilon : Line
below_at_epsilon = passes 8 below_at_alpha 4 acme (Next 2) Subordinate below_acme Sent

abbrev pub below_journal : Journal
below_journal =
    journal (below_at_alpha ∷ passes 7 below_at_alpha 1 acme (Next 2) Subordinate below_acme Lost ∷ below_at_epsilon
    ∷ passes 9 below_at_epsilon 2 acme Done NonSpecific below_acme Sent
    ∷ passes 10 below_at_epsilon 3 acme Done NonSpecific below_acme Sent ∷ [])

pub below_searched : AnswersRight (point base_world beta_down) 0 below_acme below_journal
    (Answered (Found (copied (bare desk) ∷ bare lab ∷ bare shop ∷ []) (as_of_first ∷ now lab 2 ∷ now shop 3 ∷ [])
    whole_outcome))
below_searched = record {
  licensed = (
    licensed_by below_at_epsilon 1 0 refl refl refl refl refl,
    (
      licensed_by below_at_epsilon 0 0 refl refl refl refl refl,
      (
        licensed_by below_at_alpha 0 1 refl refl refl refl refl,
        (licensed_by below_at_alpha 0 0 refl refl refl refl refl, (licensed_first refl refl refl refl refl, tt)),
      ),
    ),
  );
  accepts = record { one = refl; right = refl; probed = refl };
  finished = record { done = refl; at_once = refl };
  answer = result refl (record {
    found = refl;
    sources = refl;
    spelled = refl;
    once = refl;
    exactly = refl;
    answered = refl;
    blocked = tt;
    completed = refl;
    apart = refl;
  }) refl refl;
}

pub below_thorough : Thorough (scene_at (point base_world beta_down) 0 below_acme) below_journal
below_thorough = refl

-- a name that the copy lacks is no error of the copy: it goes to the supplier, which is down
abbrev pub read_new : Request
read_new = plainly (Read new_name All)

abbrev pub new_at_alpha : Line
new_at_alpha = asks 11 0 read_new Sent

abbrev pub new_at_epsilon : Line
new_at_epsilon = passes 13 new_at_alpha 4 new_name (Next 2) Subordinate read_new Sent

abbrev pub unknown_journal : Journal
unknown_journal =
    journal (new_at_alpha ∷ passes 12 new_at_alpha 1 new_name (Next 2) Subordinate read_new Lost ∷ new_at_epsilon
    ∷ passes 14 new_at_epsilon 1 new_name (Next 2) Supplier read_new Lost ∷ [])

pub new_unavailable : AnswersRight (point base_world (did Nothing 5 ∷ beta_down)) 0 read_new unknown_journal
    (Failed (ServiceProblem unavailable (Some (in_vain Supplier new_name (Next 2) (1 ∷ []))) None))
new_unavailable = record {
  licensed = (
    licensed_by new_at_epsilon 0 0 refl refl refl refl refl,
    (
      licensed_by new_at_alpha 0 1 refl refl refl refl refl,
      (licensed_by new_at_alpha 0 0 refl refl refl refl refl, (licensed_first refl refl refl refl refl, tt)),
    ),
  );
  accepts = record { one = refl; right = refl; probed = refl };
  finished = record { done = refl; at_once = refl };
  answer = unheard (asked (record {
    line = new_at_epsilon;
    full = reference new_name (Next 2) Supplier (1 ∷ []);
    stands = (1, omega arith, refl);
    back = refl;
    needed = (0, omega arith, refl);
    same = refl;
    listed = refl;
    vain = refl;
    cleared = refl;
  })) refl refl;
}

pub unknown_thorough : Thorough (scene_at (point base_world (did Nothing 5 ∷ beta_down)) 0 read_new) unknown_journal
unknown_thorough = refl

-- where copies may not be used the shadow isn't asked
abbrev pub read_master : Request
read_master = record { controls = record { nocopy = true; nochain = false; size = None }; body = Read acme All }

abbrev pub acme_at_alpha : Line
acme_at_alpha = asks 15 0 read_master Sent

abbrev pub acme_journal : Journal
acme_journal =
    journal (acme_at_alpha ∷ passes 16 acme_at_alpha 1 acme (Next 2) Subordinate read_master Lost ∷ [])

pub acme_unavailable : AnswersRight (point base_world (did Nothing 4 ∷ did Nothing 5 ∷ beta_down)) 0 read_master
    acme_journal (Failed (ServiceProblem unavailable (Some (in_vain Subordinate acme (Next 2) (1 ∷ []))) None))
acme_unavailable = record {
  licensed = (licensed_by acme_at_alpha 0 0 refl refl refl refl refl, (licensed_first refl refl refl refl refl, tt));
  accepts = record { one = refl; right = refl; probed = refl };
  finished = record { done = refl; at_once = refl };
  answer = unheard (asked (record {
    line = acme_at_alpha;
    full = reference acme (Next 2) Subordinate (1 ∷ []);
    stands = (1, omega arith, refl);
    back = refl;
    needed = (0, omega arith, refl);
    same = refl;
    listed = refl;
    vain = refl;
    cleared = refl;
  })) refl refl;
}
