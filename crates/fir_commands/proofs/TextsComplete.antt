-- What is emitted for, or counted, is taken, and what is refused is not.
use Rattle.std.proofs.Common.{ℕ, List}
use Rattle.fir_parse.specs.working.Laws.{SpellsOneTree, HasTreeOrFault}
use Rattle.fir_cli.specs.declared.status.Status.{Status}
use Rattle.fir_cli.specs.Outside.{Outside, code}
use Rattle.fir_commands.specs.TextCommands.{PutsText}
use Rattle.fir_commands.specs.TextAnswers.{TextComplete}
use Rattle.fir_commands.specs.Check.{check_meaning}
use Rattle.fir_commands.specs.Emit.{emit_meaning}
use Rattle.fir_commands.proofs.Refused.{refused_is_not_taken}
use Rattle.fir_commands.proofs.TextEnded.{text_complete}

pub emit_complete : SpellsOneTree → HasTreeOrFault → (name : List ℕ) (before after : Outside) (s : Status) → PutsText emit_meaning name before after s
    → TextComplete emit_meaning name before after (code s)
emit_complete one tree_or_fault =
    text_complete emit_meaning (λ bytes text emits. (emits.circuit, emits.taken))
    (λ bytes line refuses taken. refused_is_not_taken one tree_or_fault bytes taken.0 taken.1 line refuses)

pub check_complete : SpellsOneTree → HasTreeOrFault → (name : List ℕ) (before after : Outside) (s : Status) → PutsText check_meaning name before after s
    → TextComplete check_meaning name before after (code s)
check_complete one tree_or_fault =
    text_complete check_meaning (λ bytes text checked. (checked.circuit, checked.taken))
    (λ bytes line refuses taken. refused_is_not_taken one tree_or_fault bytes taken.0 taken.1 line refuses)
