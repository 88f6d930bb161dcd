use Rattle.std.proofs.lemmas.Result.{on_ok_weaker}
use Rattle.fir_check.proofs.memory_type.put_ports.Goals as goal

pub returns-in-Reader : goal.returns-in-Reader
returns-in-Reader c =
    on_ok_weaker c.put_each.result
    (λ more. λ ts place t words fs has parts. rw (c.in-Reader.is, ← c.deref.ensures.value) (more ts _ fs has.reader parts)) c.put_each.ensures

pub returns-in-Writer : goal.returns-in-Writer
returns-in-Writer c =
    on_ok_weaker c.put_each-in-Writer.result
    (λ more. λ ts place t words fs has parts. rw (c.in-Writer.is, ← c.deref-in-Writer.ensures.value) (more ts _ fs has.writer parts)) c.put_each-in-Writer.ensures

pub returns-in-Readwriter : goal.returns-in-Readwriter
returns-in-Readwriter c =
    on_ok_weaker c.put_each-in-Readwriter.result
    (λ more. λ ts place t words fs has parts. rw (c.in-Readwriter.is, ← c.deref-in-Readwriter.ensures.value) (more ts _ fs has.readwriter parts)) c.put_each-in-Readwriter.ensures
