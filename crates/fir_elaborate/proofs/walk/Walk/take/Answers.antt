use Rattle.std.proofs.Common.{map}
use Rattle.std.proofs.lemmas.Result.{on_ok_weaker}
use Rattle.fir_elaborate.proofs.walk.Walk.take.Goals as goal

pub returns-in-Words : goal.returns-in-Words
returns-in-Words c =
    rw c.in-Words.is (on_ok_weaker c.put_words.result (λ taken. taken (map (λ ns. ns.items) c.args.names.now)) c.put_words.ensures)
