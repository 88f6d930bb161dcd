use Rattle.std.proofs.Common.{ℕ, refl, sym, ap, ◌∙◌}
use Rattle.ver_parse.proofs.Heads.{took_brace, is_full}
use Rattle.std.proofs.Common.{arith, inr}
use Rattle.std.proofs.Common.{◌+◌}
use Rattle.ver_parse.proofs.parser.Parser.takes_brace.Goals as goal

pub returns-then-self-ge256-clause-tries : goal.returns-then-self-ge256-clause-tries
returns-then-self-ge256-clause-tries c = inr (is_full c.in_ok-next.ensures (sym (c.is_fixed-found.ensures _ c.in_ok-next.ensures.seen) ∙ c.if-found.true) c.if-self-ge256.true)

pub returns-then-found-clause-tries : goal.returns-then-found-clause-tries
returns-then-found-clause-tries c = took_brace c.pass.new.self _ c.in_ok-next.ensures c.pass.ensures.rest refl (ap (λ (d : ℕ). d + 1) c.pass.ensures.depth) (omega arith) (sym (c.is_fixed-found.ensures _ c.in_ok-next.ensures.seen) ∙ c.if-found.true)
