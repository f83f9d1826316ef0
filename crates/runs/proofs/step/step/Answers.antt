use Rattle.std.proofs.Common.{rules}
use Rattle.runs.proofs.Runs.{law}
use Rattle.runs.proofs.step.step.Goals as goal

pub returns-in-Divide-clause-law : goal.returns-in-Divide-clause-law
returns-in-Divide-clause-law g c =
    law g.W.Weighing c.args.fit.now c.args.fit.now c.args.call _ (record { ends = c.divide.new.ends; work = c.args.work.now }) c.map.result (search rules)
