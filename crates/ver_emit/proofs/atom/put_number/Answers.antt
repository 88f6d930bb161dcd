use Rattle.std.proofs.Common.{◌≡◌, ◌^◌, ◌++◌, ◌∙◌, codes, refl, sym, ap}
use Rattle.std.specs.Fmt.{digits}
use Rattle.fir_base.specs.Digits.{hexadecimal}
use Rattle.ver_ast.specs.AtomForms.{number_of}
use Rattle.ver_emit.proofs.atom.put_number.Goals as goal

-- the number that stands for all that are in no type
least_of_no_type : hexadecimal (2 ^ 128) ≡ codes "100000000000000000000000000000000"
unfolding digits
least_of_no_type = refl

pub returns-in_ok-extend_from_slice-in-None : goal.returns-in_ok-extend_from_slice-in-None
returns-in_ok-extend_from_slice-in-None c =
    let number : hexadecimal (number_of c.args.number) ≡ codes "100000000000000000000000000000000" =
    ap (λ o. hexadecimal (number_of o)) c.in-None.is ∙ least_of_no_type in
    c.in_ok-extend_from_slice-in-None.ensures.items ∙ ap (λ bytes. c.args.out.now.items ++ bytes) (sym number)
