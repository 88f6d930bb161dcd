use Rattle.std.proofs.Common.{◌≡◌, ◌-◌, length, length-drop, take, drop, ap, ◌∙◌, arith}
use Rattle.std.proofs.lemmas.List.{take_all}
use Rattle.trace_text.specs.Lines.{first_line, bytes_behind}
use Rattle.trace_text.proofs.PlacedLines.{last_at}
use Rattle.trace_text.proofs.lines.bad_line.Goals as goal

pub returns : goal.returns
returns c shape init ticks bad =
    let bytes = c.args.bytes.now in
    let start = bad.start in
    let place : c.min-start.result ≡ length bytes - length (bytes_behind bytes bad.before) = omega arith in
    let rest : take (length bytes - c.min-start.result) (drop c.min-start.result bytes) ≡ drop c.min-start.result bytes = take_all _ _ (omega (arith, length-drop c.min-start.result bytes)) in
    c.first_line.ensures ∙ ap first_line rest ∙ ap (λ n. first_line (drop n bytes)) place ∙ last_at bytes bad.before bad.bad bad.lines
