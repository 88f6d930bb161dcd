use Rattle.std.proofs.Common.{map}
use Rattle.std.proofs.lemmas.Result.{err_from_is_err_and}
use Rattle.fir_ast.specs.working.Views.{memory_part_of, named_of}
use Rattle.fir_check.specs.working.FaultsOfWords.{faults_of_words}
use Rattle.fir_check.proofs.FaultLists.{in_first, in_second, in_third, in_fourth}
use Rattle.fir_check.proofs.memory_faults.in_memory_fields.Goals as goal

pub returns-in_err-in_words : goal.returns-in_err-in_words
returns-in_err-in_words c = λ words.
    let p = err_from_is_err_and c.from_residual.result c.from_residual.ensures.1 in
    rw (p.1, p.2) (in_first (faults_of_words (named_of c.args.memory.now.ident) (map memory_part_of c.args.memory.now.fields.items)) _ _ _ _ (c.in_err-in_words.ensures words))

pub returns-in_err-unless : goal.returns-in_err-unless
returns-in_err-unless c = λ words.
    let s = c.as_slice-fields.ensures.value in
    let p = err_from_is_err_and c.from_residual-in_err-unless.result c.from_residual-in_err-unless.ensures.1 in
    let clear = rw (← s) at (c.in_ok-in_words.ensures words) in
    rw (p.1, p.2, ← s, ← c.has_read_latency.ensures)
    (in_second (faults_of_words (named_of c.args.memory.now.ident) (map memory_part_of c.as_slice-fields.result.now)) _ _ _ _ clear c.in_err-unless.ensures)

pub returns-in_err-unless-2 : goal.returns-in_err-unless-2
returns-in_err-unless-2 c = λ words.
    let s = c.as_slice-fields.ensures.value in
    let p = err_from_is_err_and c.from_residual-in_err-unless-2.result c.from_residual-in_err-unless-2.ensures.1 in
    let clear = rw (← s) at (c.in_ok-in_words.ensures words) in
    rw (p.1, p.2, ← s, ← c.has_read_latency.ensures, ← c.has_write_latency.ensures)
    (in_third (faults_of_words (named_of c.args.memory.now.ident) (map memory_part_of c.as_slice-fields.result.now)) _ _ _ _ clear c.in_ok-unless.ensures c.in_err-unless-2.ensures)

pub returns : goal.returns
returns c = λ words.
    let s = c.as_slice-fields.ensures.value in
    let clear = rw (← s) at (c.in_ok-in_words.ensures words) in
    rw (← s, ← c.has_read_latency.ensures, ← c.has_write_latency.ensures, ← c.has_no_second_rule.ensures)
    (in_fourth (faults_of_words (named_of c.args.memory.now.ident) (map memory_part_of c.as_slice-fields.result.now)) _ _ _ _ clear c.in_ok-unless.ensures c.in_ok-unless-2.ensures c.unless-3.ensures)
