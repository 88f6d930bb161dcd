use Rattle.std.proofs.Common.{◌≡◌, ◌^◌, ◌<◌, drop}
use Rattle.ver_lex.specs.working.View.{number_in}
use Rattle.ver_lex.proofs.Numbers.{number_from}
use Rattle.ver_lex.proofs.constant.number_in.Given as goal

abbrev pub invariant-loop-digit : goal.invariant-loop-digit
invariant-loop-digit l = (l.number < 2 ^ 128) × (number_in l.fn.radix l.digits ≡ number_from l.fn.radix l.number (drop l.digit-index l.digits))
