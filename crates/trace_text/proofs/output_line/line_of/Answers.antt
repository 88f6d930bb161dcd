use Rattle.std.proofs.Common.{◌∙◌, ◌++◌, ◌∷◌, [], ap, map}
use Rattle.std.specs.Prelude.{option_map}
use Rattle.trace_text.specs.OutputLines.{value_text, words_of_state, round_words}
use Rattle.trace_text.proofs.ClosedLines.{whole_line}
use Rattle.trace_text.proofs.output_line.line_of.Goals as goal

pub returns : goal.returns
returns c =
    c.in_ok-push.ensures.items ∙ ap (λ t. t ++ 10 ∷ []) c.pop.ensures.rest
    ∙ whole_line (map value_text c.args.outputs.now) (words_of_state (option_map (λ s. s.now) c.args.state)) (round_words c.args.rounds) c.new-line.result.items c.put_values.new.line.items c.put_state.new.line.items c.put_rounds.new.line.items c.put_rounds.new.line.len
    c.new-line.ensures.items c.in_ok-put_values.ensures c.in_ok-put_state.ensures c.in_ok-put_rounds.ensures c.put_rounds.new.line.ok.0
