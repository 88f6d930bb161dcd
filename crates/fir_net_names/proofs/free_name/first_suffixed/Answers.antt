use Rattle.std.proofs.Common.{◌≡◌, ◌^◌, ◌<◌, ◌++◌, ◌∙◌, arith}
use Rattle.std.specs.Prelude.{codes}
use Rattle.std.proofs.lemmas.Result.{IfOk-weaker}
use Rattle.fir_net_names.proofs.PassedNames.{first_of_all}
use Rattle.fir_net_names.proofs.free_name.first_suffixed.Goals as goal

pub returns : goal.returns
returns c =
    let base = c.args.base.now in
    let front = c.as_slice.result.now in
    let begins : front ≡ base ++ codes "_" = c.as_slice.ensures.value ∙ c.in_ok-front.ensures in
    let small : c.start-from.result < 2 ^ 64 = omega arith in
    IfOk-weaker c.first_untaken.result _ _ (λ found first. first_of_all c.args.taken.now.names base front c.start-from.result found begins small c.start-from.ensures first) c.first_untaken.ensures
