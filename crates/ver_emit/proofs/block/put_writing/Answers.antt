use Rattle.std.proofs.Common.{append_assoc}
use Rattle.ver_emit.proofs.block.put_writing.Goals as goal

pub returns : goal.returns
returns c = simp (c.in_ok-extend_from_slice.ensures.items, c.as_bytes.ensures, c.in_ok-extend_from_slice-2.ensures.items, c.in_ok-extend_from_slice-3.ensures.items, c.as_slice.ensures, c.in_ok-put_writes.ensures, c.in_ok-extend_from_slice-4.ensures.items, append_assoc)
