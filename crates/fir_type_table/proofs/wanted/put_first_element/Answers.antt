use Rattle.std.proofs.Common.{◌≡◌, [], ◌∷◌, ◌++◌, sym, ap, ◌∙◌, arith}
use Rattle.std.specs.Prelude.{decimal}
use Rattle.std.proofs.lemmas.Fmt.{decimal_digit}
use Rattle.fir_type_table.proofs.wanted.put_first_element.Goals as goal

pub returns : goal.returns
returns c =
    let digit : decimal 0 ≡ 48 ∷ [] = decimal_digit 0 (omega arith) in
    c.in_ok-extend_from_slice.ensures.items ∙ ap (λ l. c.args.path.now.items ++ 91 ∷ (l ++ 93 ∷ [])) (sym digit)
