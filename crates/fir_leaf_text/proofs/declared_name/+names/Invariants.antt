use Rattle.std.proofs.Common.{drop}
use Rattle.fir_leaf_text.proofs.SearchedNames.{IsPassed, names_of_statements}
use Rattle.fir_leaf_text.proofs.declared_name.+names.Given as goal

abbrev pub invariant-name_in_block-loop-statement : goal.invariant-name_in_block-loop-statement
invariant-name_in_block-loop-statement l =
    IsPassed (names_of_statements l.body) (names_of_statements (drop l.statement-index l.body)) l.position l.left
