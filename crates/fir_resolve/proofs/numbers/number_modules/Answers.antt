use Rattle.std.proofs.Common.{map, take, arith, sym}
use Rattle.std.specs.BTreeMap.{get}
use Rattle.std.specs.Cmp.Lexicographic.{slice_cmp}
use Rattle.std.specs.Ordering.{nat_cmp}
use Rattle.fir_ast.specs.working.Views.{module_of, named_of}
use Rattle.fir_names.specs.working.Numbered.{names_of}
use Rattle.fir_names.proofs.LookUps.{none_there}
use Rattle.fir_resolve.proofs.NumberedModules.{names_count, names_more, numbers_kept, numbers_more}
use Rattle.fir_resolve.proofs.numbers.number_modules.Goals as goal
use Rattle.fir_resolve.proofs.numbers.number_modules.Goals.{then-not-contains_key+in_ok-copy+in_ok-insert, else-not-contains_key}

pub loop-number-preserved : goal.loop-number-preserved
loop-number-preserved c =
    let modules = c.args.modules.now in
    let i = c.loop-number.number in
    let part = c.index-modules-number.result in
    let before = names_of (map module_of (take i modules)) in
    rw (names_more modules i part c.loop-number-test.true c.index-modules-number.is)
    (elim c.if-not-contains_key.branch [
      | then-not-contains_key+in_ok-copy+in_ok-insert w ↦
          let updates = rw w.in_ok-copy.ensures at w.in_ok-insert.ensures.updates in
          let missing = none_there (get (slice_cmp nat_cmp) c.loop-number.numbers part.ident.name) (sym w.if-not-contains_key.ensures) in
          rw w.numbers-is
          (numbers_more c.loop-number.numbers w.insert.new.self before (named_of part.ident) i updates (names_count modules i (omega arith)) missing
          c.loop-number.invariant)
      | else-not-contains_key w ↦
          rw w.numbers-is (numbers_kept c.loop-number.numbers before (named_of part.ident) (sym w.if-not-contains_key.ensures) c.loop-number.invariant)
    ])
