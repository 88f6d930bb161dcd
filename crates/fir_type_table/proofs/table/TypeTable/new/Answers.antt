use Rattle.fir_type_table.proofs.FirstTables.{first_is_table, types_at_first}
use Rattle.fir_type_table.proofs.table.TypeTable.new.Goals as goal

pub invariant_of-result : goal.invariant_of-result
invariant_of-result c =
    let a = c.scalar_entry.result in
    let b = c.scalar_entry-2.result in
    let d = c.scalar_entry-3.result in
    let e = c.scalar_entry-4.result in
    let f = c.scalar_entry-5.result in
    let g = c.scalar_entry-6.result in
    first_is_table c.in_ok-entries.entries.items a b d e f g c.in_ok-entries.ensures.items
    (types_at_first a b d e f g c.scalar_entry.ensures.kind c.scalar_entry-2.ensures.kind c.scalar_entry-3.ensures.kind c.scalar_entry-4.ensures.kind
    c.scalar_entry-5.ensures.kind c.scalar_entry-6.ensures.kind) (
      c.scalar_entry.ensures.fits tt,
      (
        c.scalar_entry-2.ensures.fits tt,
        (
          c.scalar_entry-3.ensures.fits tt,
          (
            c.scalar_entry-4.ensures.fits tt,
            (c.scalar_entry-5.ensures.fits tt, (c.scalar_entry-6.ensures.fits tt, tt)),
          ),
        ),
      ),
    )
