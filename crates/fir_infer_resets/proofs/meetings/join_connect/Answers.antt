use Rattle.std.proofs.Common.{Some}
use Rattle.std.proofs.lemmas.Result.{on_ok_weaker}
use Rattle.fir_infer_resets.proofs.meetings.join_connect.Goals as goal

pub returns : goal.returns
returns c =
    rw c.in-Some.is
    (on_ok_weaker c.join_roots.result
    (λ joined. record {
      left = c.in_ok-left.left;
      right = Some (c.in-Some-2.right, c.in-Some-2.other);
      left_is = c.in_ok-left.ensures;
      right_is = rw c.in-Some-2.is at c.in_ok-right.ensures;
      joined = joined;
    })
    c.join_roots.ensures)
