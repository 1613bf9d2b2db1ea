-- The answers are the lemmas of this crate.
use Rattle.x5_model_known.proofs.Describing.{described_name_agents, described_are_themselves, described_names_apart}
use Rattle.x5_model_known.proofs.described.Goals as goal

pub returns-clause-knowledge : goal.returns-clause-knowledge
returns-clause-knowledge c = described_name_agents

pub returns-clause-whose : goal.returns-clause-whose
returns-clause-whose c = described_are_themselves

pub returns-clause-names : goal.returns-clause-names
returns-clause-names c = described_names_apart
