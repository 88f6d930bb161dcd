use Rattle.std.proofs.Common.{◌≡◌, ◌+◌, Bool, true, false, ◌&&◌, not, get_or, drop, sym, ap, ◌∙◌, arith}
use Rattle.std.specs.Prelude.{nat_eq}
use Rattle.std.proofs.lemmas.Bool.{ne_eqb}
use Rattle.fir_lex.specs.working.Bytes.{ends_line}
use Rattle.fir_lex.proofs.Lengths.{first_fails, first_passes, first_stays, second_fails, string_at, string_at_line_end, string_at_more}
use Rattle.fir_lex.proofs.string.string_length.Goals as goal
use Rattle.fir_lex.proofs.string.string_length.Goals.{else-not-escaped-via-then-not-escaped+else-byte-eq34, else-not-escaped-via-else-not-escaped, then-not-escaped-2, else-not-escaped-2}

pub returns-then-ends_line-clause-value : goal.returns-then-ends_line-clause-value
returns-then-ends_line-clause-value c =
    let e : ends_line (drop c.loop-i.i c.args.bytes.now) ≡ true = cc in
    sym (string_at_line_end c.loop-i.escaped c.args.bytes.now c.loop-i.i e) ∙ c.loop-i.invariant

pub loop-i-preserved : goal.loop-i-preserved
loop-i-preserved c =
    let e : ends_line (drop c.loop-i.i c.args.bytes.now) ≡ false = cc in
    let stays : (not c.loop-i.escaped && nat_eq (get_or c.args.bytes.now c.loop-i.i 0) 34) ≡ false =
    elim c.else-not-escaped.branch [
      | else-not-escaped-via-then-not-escaped+else-byte-eq34 w ↦ second_fails (not c.loop-i.escaped) _ (ne_eqb _ _ w.if-byte-eq34.false)
      | else-not-escaped-via-else-not-escaped w ↦ first_fails c.loop-i.escaped _ w.if-not-escaped.false
    ] in
    let next : c.if-not-escaped-2.escaped ≡ (not c.loop-i.escaped && nat_eq (get_or c.args.bytes.now c.loop-i.i 0) 92) =
    elim c.if-not-escaped-2.branch [
      | then-not-escaped-2 w ↦ w.escaped-is ∙ first_passes c.loop-i.escaped _ w.if-not-escaped-2.true
      | else-not-escaped-2 w ↦ w.escaped-is ∙ first_stays c.loop-i.escaped _ w.if-not-escaped-2.false
    ] in
    ap (λ (escaped : Bool). string_at escaped c.args.bytes.now (c.loop-i.i + 1)) next ∙ string_at_more c.loop-i.escaped c.args.bytes.now c.loop-i.i (omega arith) e stays ∙ c.loop-i.invariant
