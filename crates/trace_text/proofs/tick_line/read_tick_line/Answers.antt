use Rattle.std.proofs.Common.{◌∙◌, sym}
use Rattle.trace_text.proofs.ReadTickLines.{words_read}
use Rattle.trace_text.proofs.tick_line.read_tick_line.Goals as goal

pub returns-clause-reads : goal.returns-clause-reads
returns-clause-reads c =
    words_read c.args.shape.now c.args.line.now c.if-line-gt-LINE_LIMIT.false c.requires.counts (sym c.is_init_line.ensures ∙ c.if-is_init_line.false)
    c.args.tick.now.tick c.read_words.new.self.tick c.read_words.result c.read_words.ensures.reads
