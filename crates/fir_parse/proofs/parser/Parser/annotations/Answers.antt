use Rattle.std.proofs.Common.{◌≡◌, refl}
use Rattle.fir_ast.specs.declared.place.Place.{Place}
use Rattle.fir_parse.specs.declared.lexeme.Lexeme.{Lexeme}
use Rattle.fir_parse.specs.declared.lexeme.Lexeme.TheVariants.{Annotations}
use Rattle.fir_parse.specs.Lexemes.{annotations}
use Rattle.fir_parse.specs.working.Seen.{seen}
use Rattle.fir_parse.specs.working.Reading.{step}
use Rattle.fir_parse.specs.working.States.{without}
use Rattle.fir_parse.specs.working.Symbols.{some_annotations}
use Rattle.fir_parse.proofs.Plans.{found, stands_there, stays_before, takes_one}
use Rattle.fir_parse.proofs.LoopReads.{text_ended}
use Rattle.fir_parse.proofs.parser.Parser.annotations.Goals as goal

pub returns-in-Annotations : goal.returns-in-Annotations
returns-in-Annotations c = takes_one some_annotations tt annotations _ _ _ (found _ c.peek-next.result Annotations c.peek-next.ensures c.in-Annotations.is) c.pass.ensures.rest refl

pub returns-in-End : goal.returns-in-End
returns-in-End c = text_ended some_annotations _ c.peek-next.result _ c.peek-next.ensures c.in-End.is c.refused.ensures

none_stand : (l : Lexeme) (p : Place) → (l ≡ Annotations → ⊥) → step some_annotations (seen l) p ≡ without tt
none_stand Annotations p h = absurd (h refl)
none_stand _ p h = refl

pub returns-in_default : goal.returns-in_default
returns-in_default c =
    stays_before some_annotations tt _ _ _ (stands_there _ c.peek-next.result.lexeme c.peek-next.result.place c.peek-next.ensures c.in_default.not-End)
    (none_stand c.peek-next.result.lexeme c.peek-next.result.place c.in_default.not-Annotations)
