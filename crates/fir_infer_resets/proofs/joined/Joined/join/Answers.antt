use Rattle.fir_infer_resets.proofs.HeldGraphs.{joined_more}
use Rattle.fir_infer_resets.proofs.joined.Joined.join.Goals as goal

pub returns : goal.returns
returns c circuit js before e f h i m r = joined_more circuit js c.args.self.now before c.put_both.new.graph c.args.one c.args.other e f c.in_ok-put_both.ensures h i m r
