-- What a sender makes of a reply is right: one with nothing left is taken as it is, and a referral, one to the agents
-- of an NSSR, and unexplored references are followed to a right reply.
use Rattle.x5_model_right.proofs.Agents.{needed_agents}
use Rattle.x5_model_right.proofs.Onward.{referral_right, wide_referral_right}
use Rattle.x5_model_right.proofs.Parts.{unexplored_right}
use Rattle.x5_model_right.proofs.Staying.{final_right}
use Rattle.x5_model_right.proofs.following.Goals as goal

pub returns-clause-last : goal.returns-clause-last
returns-clause-last c = final_right

pub returns-clause-referral : goal.returns-clause-referral
returns-clause-referral c = referral_right needed_agents

pub returns-clause-wide : goal.returns-clause-wide
returns-clause-wide c = wide_referral_right needed_agents

pub returns-clause-unexplored : goal.returns-clause-unexplored
returns-clause-unexplored c = unexplored_right needed_agents
