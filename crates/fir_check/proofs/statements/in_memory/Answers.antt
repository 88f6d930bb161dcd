use Rattle.std.proofs.Common.{◌++◌, map}
use Rattle.fir_ast.specs.working.Views.{memory_part_of, named_of}
use Rattle.fir_meaning.specs.Components as component
use Rattle.fir_types.proofs.GrownScopes.{walks_more}
use Rattle.fir_check.proofs.HeldTypes.{grown_twice}
use Rattle.fir_check.proofs.statements.in_memory.Goals as goal

pub returns : goal.returns
returns c = λ modules bundles before w.
    let scope = c.args.scope.now in
    let memory = c.args.memory.now in
    let words = c.in_ok-word_type.ensures in
    let found = c.in_ok-found.ensures words.is in (
      c.in_ok-in_memory_fields.ensures words.is,
      walks_more modules bundles scope (record { table = c.memory_found.new.table; declared = c.push.new.self }) before (named_of memory.ident)
          (component.memory (map memory_part_of memory.fields.items)) (words.more ++ found.more) c.in_ok-found.found w c.in_ok-push.ensures.items
          (grown_twice scope.table c.add_word_type.new.table c.memory_found.new.table words.more found.more words.grown found.grown) found.held found.is,
      record {
        more = words.more ++ found.more;
        grown = grown_twice scope.table c.add_word_type.new.table c.memory_found.new.table words.more found.more words.grown found.grown;
      },
    )
