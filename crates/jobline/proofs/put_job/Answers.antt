-- `jobline::put_job` meets its contract: the start set's n says how many choices the word of the reply has. Assumes nothing.
use mathlib.Core.Path.{◌∙◌}
use Rattle.lines.specs.Divided.{Divided}
use Rattle.jobline.proofs.Lines.{job_reply, divides, checked, choices_its, line-put, length-told}
use Rattle.jobline.proofs.put_job.Goals as goal

pub returns : goal.returns
returns c =
    let d = c.requires.0 in
    let is = c.from.ensures ∙ checked d c.check_own-reply.ensures in
    let its = choices_its d c.choices_in.ensures.1 in
    record {
      value = length-told c.args.input.now (job_reply c.args.input.now) _ c.args.out.now is c.choices_in.ensures.0 its c.requires.1 (divides c.args.input.now d.good) c.put_line.ensures.value;
      out_after = line-put c.args.input.now (job_reply c.args.input.now) _ c.args.out.now is c.choices_in.ensures.0 its c.requires.1 (divides c.args.input.now d.good) c.put_line.ensures.out_after;
    }
