-- What a fault of kinds of the code says.
use Rattle.std.proofs.Common.{◌≡◌, List, [], ◌∷◌, ◌++◌, map, refl, ap, ◌∙◌}
use Rattle.std.specs.Prelude.{codes}
use Rattle.fir_ast.specs.declared.place.Place.{Place}
use Rattle.fir_ast.specs.declared.types.Ty.{Ty}
use Rattle.fir_ast.specs.declared.fault.FirFault.TheVariants.{Kinds}
use Rattle.fir_ast.specs.Texts.{separated, type_text}
use Rattle.fir_ast.specs.Types.{DataType}
use Rattle.fir_ast.specs.working.TypeViews.{type_of}
use Rattle.fir_ast.specs.Faults.{E12}
use Rattle.fir_ast.specs.working.CodeFaults.{fault_of}
use Rattle.fir_meaning.specs.KindFaults.{wrong_kinds}

texts : (ts : List Ty) → map (λ t. type_text (type_of t)) ts ≡ map type_text (map type_of ts)
texts [] = refl
texts (t ∷ ts) = ap (λ xs. type_text (type_of t) ∷ xs) (texts ts)

pub kinds_fault : (p : Place) (ts : List Ty) (us : List DataType) → map type_of ts ≡ us → fault_of (Kinds p ts) ≡ wrong_kinds p us
kinds_fault p ts us e =
    ap (λ xs. record { code = E12; place = p; evidence = codes "kinds " ++ separated (codes "; ") xs }) (texts ts ∙ ap (map type_text) e)
