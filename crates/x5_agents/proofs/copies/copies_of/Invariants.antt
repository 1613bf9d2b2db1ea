-- The copies so far, with those that what is left brings, are all, and no two are of one context.
use Rattle.x5_agents.proofs.Copying.{AreCopied}
use Rattle.x5_agents.proofs.copies.copies_of.Given as goal

abbrev pub invariant-loop-agreement : goal.invariant-loop-agreement
invariant-loop-agreement l = AreCopied l.me l.agreements l.copies.items l.agreement-index
