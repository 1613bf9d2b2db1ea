-- What the master of a context concludes of an update from its own entries and its probes holds of the whole tree: a
-- lemma for each refusal, each acceptance and each answer of a probe.
use Rattle.x5_model_updates.proofs.Judges.{refuses_alike, accepts_alone, probes_new_name, accepts_probed}
use Rattle.x5_model_updates.proofs.Judges.{unable_masters_none, refuses_at_probed, accepts_absent, refuses_present}
use Rattle.x5_model_updates.proofs.Judged.{holder_is_master, judged_after}
use Rattle.x5_model_updates.proofs.judging.Goals as goal

pub returns-clause-holder : goal.returns-clause-holder
returns-clause-holder c = holder_is_master

pub returns-clause-refuses : goal.returns-clause-refuses
returns-clause-refuses c = refuses_alike

pub returns-clause-accepts_alone : goal.returns-clause-accepts_alone
returns-clause-accepts_alone c = accepts_alone

pub returns-clause-probes : goal.returns-clause-probes
returns-clause-probes c = probes_new_name

pub returns-clause-accepts_probed : goal.returns-clause-accepts_probed
returns-clause-accepts_probed c = accepts_probed

pub returns-clause-unable : goal.returns-clause-unable
returns-clause-unable c = unable_masters_none

pub returns-clause-refuses_probed : goal.returns-clause-refuses_probed
returns-clause-refuses_probed c = refuses_at_probed

pub returns-clause-absent : goal.returns-clause-absent
returns-clause-absent c = accepts_absent

pub returns-clause-present : goal.returns-clause-present
returns-clause-present c = refuses_present

pub returns-clause-after : goal.returns-clause-after
returns-clause-after c = judged_after
