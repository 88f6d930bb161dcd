use Rattle.std.proofs.Common.{◌+◌, drop, slice_index_or}
use Rattle.std.proofs.lemmas.List.{drop_more}
use Rattle.fir_infer_resets.specs.working.PathKeys.{key_byte}
use Rattle.fir_infer_resets.proofs.AppendedTexts.{next_appended}
use Rattle.fir_infer_resets.proofs.key.put_name.Goals as goal

pub loop-byte-preserved : goal.loop-byte-preserved
loop-byte-preserved c =
    let bytes = c.as_bytes-byte-items.result.now in
    let i = c.loop-byte.byte-index in
    next_appended key_byte (drop i bytes) (drop (i + 1) bytes) (slice_index_or bytes i 0) c.loop-byte.out.items c.put_byte.new.out.items _
    (drop_more bytes i 0 c.loop-byte-test.true) c.in_ok-put_byte.ensures c.loop-byte.invariant
