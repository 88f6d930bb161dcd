use Rattle.std.proofs.Common.{◌≡◌, ◌++◌, drop}
use Rattle.fir_leaf_text.proofs.SearchedNames.{names_of_statements}
use Rattle.fir_leaf_text.proofs.declarations.+names.Given as goal

abbrev pub invariant-push_names_of_block-loop-statement : goal.invariant-push_names_of_block-loop-statement
invariant-push_names_of_block-loop-statement l =
    l.names.items ++ names_of_statements (drop l.statement-index l.body) ≡ l.initial.names.items ++ names_of_statements l.body
