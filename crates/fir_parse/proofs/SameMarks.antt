-- The code's test whether two signs are one.
use Rattle.std.proofs.Common.{◌≡◌, refl}
use denote.Enum.Bare.{sameb}
use Rattle.fir_parse.specs.contracts.lexeme.Mark.{the_type}
use Rattle.fir_parse.specs.declared.lexeme.Mark.{Mark}
use Rattle.fir_parse.specs.declared.lexeme.Mark.TheVariants.{Connect, PartialConnect, Arrow, Equals, Less, Greater, OpenRound, CloseRound, OpenSquare, CloseSquare, OpenCurly, CloseCurly, Comma, Colon, Dot}
use Rattle.fir_parse.specs.working.Marks.{same_mark}

pub same_by_code : (m n : Mark) → sameb the_type n m ≡ same_mark m n
same_by_code Connect Connect = refl
same_by_code PartialConnect PartialConnect = refl
same_by_code Arrow Arrow = refl
same_by_code Equals Equals = refl
same_by_code Less Less = refl
same_by_code Greater Greater = refl
same_by_code OpenRound OpenRound = refl
same_by_code CloseRound CloseRound = refl
same_by_code OpenSquare OpenSquare = refl
same_by_code CloseSquare CloseSquare = refl
same_by_code OpenCurly OpenCurly = refl
same_by_code CloseCurly CloseCurly = refl
same_by_code Comma Comma = refl
same_by_code Colon Colon = refl
same_by_code Dot Dot = refl
same_by_code _ _ = refl
