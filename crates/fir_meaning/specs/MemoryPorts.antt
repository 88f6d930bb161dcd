-- The kinds of the ports of a memory (FIRRTL spec, "Memories").

pub data MemoryPortKind : Type 0 where
  reads : MemoryPortKind
  writes : MemoryPortKind
  reads_and_writes : MemoryPortKind
