use Rattle.std.proofs.Common.{refl, arith}
use Rattle.fir_infer_resets.proofs.joined.Joined.push.Goals as goal

pub returns : goal.returns
returns c = (
  omega (arith, c.len-number.ensures, c.args.self.now.ends.ok.0),
  record {
    ends = c.in_ok-push-2.ensures.items;
    kinds = c.in_ok-push.ensures.items;
    list = c.new.result;
    empty = c.new.ensures.items;
    graph = c.in_ok-push-3.ensures.items;
    numbers = refl;
  },
)
