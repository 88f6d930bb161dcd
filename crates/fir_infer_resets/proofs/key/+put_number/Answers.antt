use Rattle.std.proofs.Common.{◌++◌, ◌∷◌, [], ◌+◌, ◌/◌, ◌%◌, ap, sym, append_assoc, ◌∙◌, arith}
use Rattle.fir_infer_resets.specs.working.PathKeys.{number_key}
use Rattle.fir_infer_resets.proofs.KeyDigits.{number_more}
use Rattle.fir_infer_resets.proofs.key.+put_number.Goals as goal

pub returns : goal.returns
returns t c =
    let n = c.args.n in
    c.in_ok-push.ensures.items ∙ ap (λ l. l ++ (n % 128 + 3) ∷ []) c.in_ok-put_number.ensures
    ∙ append_assoc c.args.out.now.items (number_key (n / 128)) ((n % 128 + 3) ∷ []) ∙ ap (λ l. c.args.out.now.items ++ l) (sym (number_more n (omega arith)))
