use Rattle.std.proofs.Common.{refl, sym, ap, ◌∙◌}
use Rattle.std.proofs.lemmas.Option.{slice_get_read}
use Rattle.std.specs.Prelude.{Some, length, slice_get}
use Rattle.fir_type_table.specs.working.Tables.{types_of}
use Rattle.fir_types.specs.working.Notes.{whole_range}
use Rattle.fir_types.specs.working.Seen.{found_type}
use Rattle.fir_types.proofs.RangeWalks.{root_of_name}
use Rattle.fir_types.proofs.scope.Scope.root.Goals as goal

pub returns-clause-range : goal.returns-clause-range
returns-clause-range c =
    let scope = c.args.self.now in
    let d = c.in_ok-declaration.declaration.now in
    let x = c.in_ok-found-2.field-0 in
    let items = c.deref.result.now in
    let there = slice_get_read items (length items) d.position c.in_ok-found.found.now refl c.in_ok-found.ensures.lookup.3.0 c.in_ok-found.ensures.lookup.1 in
    λ typed knows. (
      whole_range d.position (found_type (types_of scope.table) x),
      root_of_name c.args.names.now scope typed c.args.name.now d x knows (sym c.in_ok-declaration.ensures)
          (ap (λ xs. slice_get xs d.position) (sym c.deref.ensures.value) ∙ there ∙ ap Some c.in_ok-found-2.was),
      record { declaration = refl; data_type = refl; offset = refl; shared_offset = refl; picks = refl },
    )
