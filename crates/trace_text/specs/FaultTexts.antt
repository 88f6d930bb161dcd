-- The line of a fault: its code, the number of the bad line, and the evidence, parted by single spaces.
use Rattle.std.specs.Prelude.{ℕ, List, [], ◌++◌, take, drop, codes, decimal}
use Rattle.trace_text.specs.declared.fault.Cause.{Cause}
use Rattle.trace_text.specs.declared.fault.Cause.TheVariants.{Misspelled, Count, Wide, Absent, Long}
use Rattle.trace_text.specs.declared.fault.TraceFault.{TraceFault}

abbrev pub code_text : Cause → List ℕ
code_text (Misspelled k) = codes "X01 "
code_text (Count n m) = codes "X02 "
code_text (Wide k width) = codes "X03 "
code_text (Absent start count) = codes "X04 "
code_text Long = codes "X05 "

-- the evidence, where this is the bad line
abbrev pub evidence_text : Cause → List ℕ → List ℕ
evidence_text (Misspelled k) line = codes " word " ++ decimal k
evidence_text (Count n m) line = codes " words " ++ decimal n ++ codes " of " ++ decimal m
evidence_text (Wide k width) line = codes " word " ++ decimal k ++ codes " width " ++ decimal width
evidence_text (Absent start count) line = codes " name " ++ take count (drop start line)
evidence_text Long line = []

abbrev pub fault_text : TraceFault → List ℕ → List ℕ
fault_text f line = code_text f.cause ++ decimal f.line ++ evidence_text f.cause line ++ codes "\n"
