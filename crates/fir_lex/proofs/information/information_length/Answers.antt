use Rattle.std.proofs.Common.{◌≡◌, true, false, ◌&&◌, not, get_or, drop, sym, ◌∙◌, arith}
use Rattle.std.specs.Prelude.{nat_eq}
use Rattle.std.proofs.lemmas.Bool.{ne_eqb}
use Rattle.fir_lex.specs.working.Bytes.{ends_line}
use Rattle.fir_lex.proofs.Lengths.{first_fails, second_fails, information_at_line_end, information_at_more}
use Rattle.fir_lex.proofs.information.information_length.Goals as goal
use Rattle.fir_lex.proofs.information.information_length.Goals.{else-not-backslash-via-then-not-backslash+else-byte-eq93, else-not-backslash-via-else-not-backslash}

pub returns-then-ends_line-clause-value : goal.returns-then-ends_line-clause-value
returns-then-ends_line-clause-value c =
    let e : ends_line (drop c.loop-i.i c.args.bytes.now) ≡ true = cc in
    sym (information_at_line_end c.loop-i.backslash c.args.bytes.now c.loop-i.i e) ∙ c.loop-i.invariant

pub loop-i-preserved : goal.loop-i-preserved
loop-i-preserved c =
    let e : ends_line (drop c.loop-i.i c.args.bytes.now) ≡ false = cc in
    let stays : (not c.loop-i.backslash && nat_eq (get_or c.args.bytes.now c.loop-i.i 0) 93) ≡ false =
    elim c.else-not-backslash.branch [
      | else-not-backslash-via-then-not-backslash+else-byte-eq93 w ↦ second_fails (not c.loop-i.backslash) _ (ne_eqb _ _ w.if-byte-eq93.false)
      | else-not-backslash-via-else-not-backslash w ↦ first_fails c.loop-i.backslash _ w.if-not-backslash.false
    ] in
    information_at_more c.loop-i.backslash c.args.bytes.now c.loop-i.i (omega arith) e stays ∙ c.loop-i.invariant
