use Rattle.std.proofs.Common.{◌∙◌, ap}
use Rattle.clap.specs.Words.{found_of, one_text}
use Rattle.clap.proofs.WalkLemmas.{one_text-rows}
use Rattle.fir_words.proofs.FlagReads.{flag_read, is_true}
use Rattle.fir_words.proofs.command.is_set.Goals as goal

pub returns : goal.returns
returns c =
    let found = found_of c.args.found.now in
    let id = c.args.flag.now in
    c.unwrap_or.ensures ∙ flag_read _ (one_text found id) c.get_one.result c.get_one.ensures.none c.get_one.ensures.value
    ∙ ap is_true (one_text-rows found id)
