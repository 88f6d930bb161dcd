-- Whether two signs are one.
use Rattle.std.specs.Prelude.{Bool, true, false}
use Rattle.fir_parse.specs.declared.lexeme.Mark.{Mark}
use Rattle.fir_parse.specs.declared.lexeme.Mark.TheVariants.{Connect, PartialConnect, Arrow, Equals, Less, Greater, OpenRound, CloseRound, OpenSquare, CloseSquare, OpenCurly, CloseCurly, Comma, Colon, Dot}

abbrev pub same_mark : Mark → Mark → Bool
same_mark Connect Connect = true
same_mark PartialConnect PartialConnect = true
same_mark Arrow Arrow = true
same_mark Equals Equals = true
same_mark Less Less = true
same_mark Greater Greater = true
same_mark OpenRound OpenRound = true
same_mark CloseRound CloseRound = true
same_mark OpenSquare OpenSquare = true
same_mark CloseSquare CloseSquare = true
same_mark OpenCurly OpenCurly = true
same_mark CloseCurly CloseCurly = true
same_mark Comma Comma = true
same_mark Colon Colon = true
same_mark Dot Dot = true
same_mark _ _ = false
