use Rattle.std.proofs.Common.{length, refl}
use Rattle.std.proofs.lemmas.Option.{slice_get_read}
use Rattle.fir_elaborate.proofs.WalkSteps.{begun, viewed_at}
use Rattle.fir_elaborate.proofs.walk.Walk.new.Goals as goal

pub returns : goal.returns
returns c = λ names views d viewed lt design.
    let main = c.args.main in
    let modules = c.args.modules.now in
    let part = c.in_ok-module.module.now in
    let found = rw c.in_ok-module.ensures.ok_part at c.get.ensures.lookup in
    let got = slice_get_read modules (length modules) main part refl found.3.0 found.1 in
    let seen = viewed_at views modules names viewed main part lt got in
    rw (c.in_ok-push.ensures.items, c.new-pending.ensures.items, c.from_vec.ensures, c.new.ensures.items)
    (begun views main part seen.0 _ lt seen.1 c.new-2.ensures.items c.new-3.ensures.items c.new-4.ensures.items d design)
