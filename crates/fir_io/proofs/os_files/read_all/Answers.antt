use Rattle.std.proofs.Common.{◌<◌, ◌≤◌, ◌^◌, length, rules, arith}
use Rattle.fir_io.proofs.Remaining.{whole_remaining}
use Rattle.fir_io.proofs.os_files.read_all.Goals as goal

pub returns-in-Ok : goal.returns-in-Ok
returns-in-Ok g c =
    let v = c.read_to_end-outcome.new.buf in
    let small : length v.items < 2 ^ 63 = omega (arith, v.ok, v.small) in
    let within : length v.items ≤ c.args.limit = search rules in
    let read = rw (c.new-content.ensures.items, c.take.ensures.limit, c.take.ensures.inner, c.saturating_add.ensures) at c.in-Ok.ensures.bytes in
    (within, search rules, whole_remaining c.args.limit (g.F.Read.remaining c.args.file) v.items small within read)
